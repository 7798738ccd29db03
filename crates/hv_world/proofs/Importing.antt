-- The steps of an import: what each stage needs of the one before, and what its replies owe.
use Rattle.std.proofs.Common.{◌≡◌, ◌⊎◌, ℕ, ◌<◌, ◌≤◌, Bool, true, false, List, [], length, Some, Ok, inl, inr, refl, sym, ap, subst, arith, ◌∙◌, le_refl, append-nil}
use Rattle.hv_io.specs.Counts.{Rose}
use Rattle.hv_dev.specs.Reading.{Reading}
use Rattle.hv_row.specs.declared.value.Value.{Value}
use Rattle.hv_row.specs.declared.schema.Column.{Column}
use Rattle.hv_view.specs.View.{Viewed, IsBuilt}
use Rattle.hv_model.specs.declared.tree.Word.{Word}
use Rattle.hv_model.specs.declared.script.Statement.{Statement}
use Rattle.hv_model.specs.declared.reply.Reply.{Reply}
use Rattle.hv_model.specs.declared.reply.Reply.TheVariants.{Failed}
use Rattle.hv_model.specs.declared.reply.Failure.TheVariants.{Write, Memory}
use Rattle.hv_model.specs.Parsed.{some_tree, tree_of}
use Rattle.hv_model.specs.Import.{rows_of}
use Rattle.hv_model.specs.Legal.{may_fail}
use Rattle.hv_model.specs.Settled.{Settles}
use Rattle.hv_catalogue.specs.Holding.{Holding}
use Rattle.hv_chunk.specs.declared.turn.JobTurn.{JobTurn}
use Rattle.hv_chunk.specs.declared.turn.JobTurn.TheVariants as turn
use Rattle.hv_model.specs.declared.reply.Why.{Why}
use Rattle.hv_import.specs.Job.{Importing, Goes, IsOver, IsTurn}
use Rattle.hv_world.specs.declared.stage.Look.{Look}
use Rattle.hv_world.specs.declared.stage.Stage.{Stage}
use Rattle.hv_world.specs.declared.stage.Stage.TheVariants as stage
use Rattle.hv_world.specs.declared.stage.Step.TheVariants as step
use Rattle.hv_world.specs.Look.{IsLook, HasTable, Imports, ImportsRows}
use Rattle.hv_world.specs.Reads.{PortSeen, IsIdle, ReadsOn}
use Rattle.hv_world.specs.Stored.{database_of, IsSound}
use Rattle.hv_world.specs.Known.{DatabaseIsKnown}
use Rattle.hv_world.specs.Damage.{IsUnfailed}
use Rattle.hv_world.specs.Stage.{IsLookedUp, IsBuilding}
use Rattle.hv_world.specs.Step.{IsStep}
use Rattle.hv_world.proofs.Steps.{goes_nowhere, well_unread, memory_over, replied_well}

-- the table stood
pub looked_up : {File : Type 0} (tells : Bool) (pages : File → List (List ℕ)) (x : Statement) (floor : ℕ) (now : Holding (Viewed File)) (table : Word) (schema : List Column) (look : Look File) (port : PortSeen File)
    → IsIdle port → IsSound tells pages now → Imports x table → HasTable now table.name schema → look.at ≡ length now.history → look.held.value ≡ now
    → IsStep tells pages x floor now now stage.Unbegun port port (step.Goes (stage.Rows table look))
looked_up tells pages x floor now table schema look port idle sound imports stands at held = record {
  same = refl;
  staged = record {
    idle = idle;
    looked = record { at_is = at ∙ ap (λ (h : Holding (Viewed _)). length h.history) (sym held); sound = subst (λ (h : Holding (Viewed _)). IsSound tells pages h) (sym held) sound };
    imports = imports;
    schema = schema;
    stands = stands;
  };
  well = well_unread now port port refl refl;
  reads = (goes_nowhere port idle).reads;
  looks = inr (look, refl, held);
  begun = (look, refl);
  fewer = omega arith;
}

-- a reply at the present length that says no failure, and changes nothing
pub answers_now : {File : Type 0} (tells : Bool) (pages : File → List (List ℕ)) (x : Statement) (floor : ℕ) (now : Holding (Viewed File)) (before : Stage File) (port : PortSeen File) (r : Reply)
    → IsIdle port → IsUnfailed r → ((max : ℕ) → Settles x max (DatabaseIsKnown tells (database_of now) port.reading.landings) (database_of now) now.history r (database_of now) now.history)
    → IsStep tells pages x floor now now before port port (step.Answered r)
answers_now tells pages x floor now before port r idle unfailed settles =
    (goes_nowhere port idle, inl (record { settles = settles; cause = replied_well tells now port port r unfailed (well_unread now port port refl refl) }))

-- want of memory at the present length
pub wants_now : {File : Type 0} (tells : Bool) (pages : File → List (List ℕ)) (x : Statement) (floor : ℕ) (now : Holding (Viewed File)) (before : Stage File) (port : PortSeen File) (at : ℕ)
    → IsIdle port → at ≡ length now.history → IsStep tells pages x floor now now before port port (step.Answered (Failed at Memory))
wants_now tells pages x floor now before port at idle is = (
  goes_nowhere port idle,
  inl (record {
    settles = λ max. (record { same_database = refl; same_history = refl; at_is = is }, refl);
    cause = λ files are. memory_over tells now port port (well_unread now port port refl refl) files are;
  }),
)

-- its rows were read
pub rows_read : {File : Type 0} (tells : Bool) (pages : File → List (List ℕ)) (x : Statement) (floor : ℕ) (now : Holding (Viewed File)) (table : Word) (look next : Look File) (job : Importing) (port : PortSeen File)
    → IsLookedUp tells pages x now table look port → IsLook tells pages next → next.held.value ≡ now → HasTable now table.name job.schema → rows_of job.schema x.lines ≡ Ok job.rows → length job.rows ≤ 1000000
    → job.pages ≡ [] → job.over ≡ false → IsStep tells pages x floor now now (stage.Rows table look) port port (step.Goes (stage.Building table next job))
rows_read tells pages x floor now table look next job port up looked held stands spelled few none going = record {
  same = refl;
  staged = record {
    open_file = record { room = up.idle.room; none = up.idle.none; written_is = up.idle.empty ∙ ap (λ (ps : List (List ℕ)). Some ps) (sym none) };
    looked = looked;
    going = going;
    imports = record { imports = up.imports; stands = stands; spelled = spelled };
  };
  well = well_unread look.held.value port port refl refl;
  reads = (goes_nowhere port up.idle).reads;
  looks = inr (next, refl, held);
  begun = (next, refl);
  fewer = omega (arith, few);
}

-- an import may fail by a write
pub may_write : (x : Statement) (table : Word) → Imports x table → may_fail (tree_of x.text) Write ≡ true
may_write x table imports = ap (λ r. may_fail (some_tree r) Write) imports.1

-- reads that did nothing
none_read : {File : Type 0} (before after : PortSeen File) → before.reading.in_flight ≡ [] → after.reading ≡ before.reading → ReadsOn before.reading after.reading
none_read before after none same = subst (λ r. ReadsOn before.reading r) (sym same) (record { none = none; room = refl; faults = le_refl before.reading.read_faults; more = []; landed = sym (append-nil before.reading.landings) })

-- a page was written, or the last rows were pushed
pub page_written : {File : Type 0} (tells : Bool) (pages : File → List (List ℕ)) (x : Statement) (floor : ℕ) (now : Holding (Viewed File)) (table : Word) (look : Look File) (job next : Importing) (port new : PortSeen File)
    → IsBuilding tells pages x now table look job port → Goes job next → next.schema ≡ job.schema → next.rows ≡ job.rows → new.reading ≡ port.reading → new.write_faults ≡ port.write_faults → new.written ≡ Some next.pages
    → IsStep tells pages x floor now now (stage.Building table look job) port new (step.Goes (stage.Building table look next))
page_written {File} tells pages x floor now table look job next port new building goes schema rows reading faults written = record {
  same = refl;
  staged = record {
    open_file = record { room = subst (λ (r : Reading File). 0 < r.room) (sym reading) building.open_file.room; none = ap (λ (r : Reading File). r.in_flight) reading ∙ building.open_file.none; written_is = written };
    looked = building.looked;
    going = goes.going;
    imports = subst (λ (s : List Column). ImportsRows x table now s next.rows) (sym schema) (subst (λ (rs : List (List Value)). ImportsRows x table now job.schema rs) (sym rows) building.imports);
  };
  well = well_unread look.held.value port new reading faults;
  reads = none_read port new building.open_file.none reading;
  looks = inl refl;
  begun = (look, refl);
  fewer = let same : length next.rows ≡ length job.rows = ap length rows in omega (arith, goes.some, goes.within, same);
}

-- the chunk is sealed
pub chunk_sealed : {File : Type 0} (tells : Bool) (pages : File → List (List ℕ)) (x : Statement) (floor : ℕ) (now : Holding (Viewed File)) (table : Word) (look : Look File) (job : Importing) (chunk : Viewed File) (port new : PortSeen File)
    → IsBuilding tells pages x now table look job port → IsBuilt tells pages job.schema job.rows chunk → new.reading ≡ port.reading → new.write_faults ≡ port.write_faults → new.written ≡ Some []
    → IsStep tells pages x floor now now (stage.Building table look job) port new (step.Goes (stage.Made table look chunk))
chunk_sealed {File} tells pages x floor now table look job chunk port new building built reading faults written =
    let schema : job.schema ≡ chunk.schema = sym built.recorded.schema_is in
    let rows : job.rows ≡ chunk.rows = sym built.recorded.rows_are in
    record {
      same = refl;
      staged = record {
        idle = record { room = subst (λ (r : Reading File). 0 < r.room) (sym reading) building.open_file.room; none = ap (λ (r : Reading File). r.in_flight) reading ∙ building.open_file.none; empty = written };
        looked = building.looked;
        imports = subst (λ (s : List Column). ImportsRows x table now s chunk.rows) schema (subst (λ (rs : List (List Value)). ImportsRows x table now job.schema rs) rows building.imports);
        built = subst (λ (s : List Column). IsBuilt tells pages s chunk.rows chunk) schema (subst (λ (rs : List (List Value)). IsBuilt tells pages job.schema rs chunk) rows built);
      };
      well = well_unread look.held.value port new reading faults;
      reads = none_read port new building.open_file.none reading;
      looks = inl refl;
      begun = (look, refl);
      fewer = omega arith;
    }

-- a write failed
pub write_failed : {File : Type 0} (tells : Bool) (pages : File → List (List ℕ)) (x : Statement) (floor : ℕ) (now : Holding (Viewed File)) (table : Word) (look : Look File) (job : Importing) (port new : PortSeen File)
    → IsBuilding tells pages x now table look job port → Rose port.write_faults new.write_faults → new.reading ≡ port.reading → new.written ≡ Some []
    → IsStep tells pages x floor now now (stage.Building table look job) port new (step.Answered (Failed look.at Write))
write_failed tells pages x floor now table look job port new building rose reading written = (
  record { reads = none_read port new building.open_file.none reading; faults = rose.falls_never; empty = written },
  inr (inl (record {
    same = refl;
    look = look;
    looked = refl;
    over = record {
      settles = λ max. (record { same_database = refl; same_history = refl; at_is = building.looked.at_is }, may_write x table building.imports.imports);
      cause = λ files are. (rose, reading);
    };
  })),
)

-- memory was wanting
pub turn_wants : {File : Type 0} (tells : Bool) (pages : File → List (List ℕ)) (x : Statement) (floor : ℕ) (now : Holding (Viewed File)) (table : Word) (look : Look File) (job : Importing) (port new : PortSeen File)
    → IsBuilding tells pages x now table look job port → new.write_faults ≡ port.write_faults → new.reading ≡ port.reading → new.written ≡ Some []
    → IsStep tells pages x floor now now (stage.Building table look job) port new (step.Answered (Failed look.at Memory))
turn_wants tells pages x floor now table look job port new building faults reading written = (
  record { reads = none_read port new building.open_file.none reading; faults = omega (arith, faults); empty = written },
  inr (inl (record {
    same = refl;
    look = look;
    looked = refl;
    over = record {
      settles = λ max. (record { same_database = refl; same_history = refl; at_is = building.looked.at_is }, refl);
      cause = λ files are. memory_over tells look.held.value port new (well_unread look.held.value port new reading faults) files are;
    };
  })),
)

-- of the turns that are no step on and no failed write, want of memory is the one that comes
pub wanted : {File : Type 0} (tells : Bool) (pages : File → List (List ℕ)) (before after : Importing) (faults now : ℕ) (r : JobTurn File) → IsTurn tells pages before after faults now r
    → (r ≡ turn.Waits) ⊎ ((r ≡ turn.ReadFault) ⊎ (((chunk : ℕ) × (page : ℕ) × (why : Why) × (r ≡ turn.Damaged chunk page why)) ⊎ (r ≡ turn.Memory))) → IsOver after × (now ≡ faults)
wanted {File} tells pages before after faults now r is (inl e) = absurd (subst (λ (t : JobTurn File). IsTurn tells pages before after faults now t) e is)
wanted {File} tells pages before after faults now r is (inr (inl e)) = absurd (subst (λ (t : JobTurn File). IsTurn tells pages before after faults now t) e is)
wanted {File} tells pages before after faults now r is (inr (inr (inl (chunk, page, why, e)))) = absurd (subst (λ (t : JobTurn File). IsTurn tells pages before after faults now t) e is)
wanted {File} tells pages before after faults now r is (inr (inr (inr e))) = subst (λ (t : JobTurn File). IsTurn tells pages before after faults now t) e is
