-- What answering one statement needs and keeps.
use Rattle.std.specs.Prelude.{◌≡◌, ℕ, Bool, List, length, Some, Result, Ok, Err, slice_get}
use Rattle.std.specs.List.{All}
use Rattle.std.specs.Option.{option_map}
use Rattle.std.specs.Result.{result_err}
use Rattle.hv_view.specs.View.{Viewed, IsBuilt}
use Rattle.hv_view.specs.declared.held.HeldTable.{HeldTable}
use Rattle.hv_view.specs.declared.held.Snapshot.{Snapshot}
use Rattle.hv_model.specs.declared.script.Statement.{Statement}
use Rattle.hv_model.specs.declared.catalogue.Table.{Table}
use Rattle.hv_model.specs.declared.catalogue.Command.{Command}
use Rattle.hv_model.specs.declared.reply.Reply.{Reply}
use Rattle.hv_model.specs.declared.reply.Reply.TheVariants.{Done, Rows, Refused, Failed}
use Rattle.hv_model.specs.declared.reply.Failure.{Failure}
use Rattle.hv_model.specs.declared.reply.Failure.TheVariants.{Write}
use Rattle.hv_model.specs.Database.{step}
use Rattle.hv_model.specs.Command.{step_cause, told_of}
use Rattle.hv_catalogue.specs.Holding.{Holding, IsApplied, held_table}
use Rattle.hv_world.specs.Stored.{database_of, IsSound, AreFiles}
use Rattle.hv_world.specs.Reads.{PortSeen, IsStill}
use Rattle.hv_world.specs.Damage.{AllServe, FailedBy}

-- how many rows a chunk has
abbrev pub count_of : {File : Type 0} → Viewed File → ℕ
count_of c = c.row_count

-- what became of a command of a statement whose table's name is at this byte: it was carried out, and its detail is told; or it is refused for what
-- the database makes of it, and nothing has changed
abbrev pub Carried : {File : Type 0} → Statement → ℕ → Command (Viewed File) → Holding (Viewed File) → Holding (Viewed File) → Reply → Type 0
Carried x byte c before after (Done at what) = IsApplied count_of before after x.session x.number c at × (what ≡ told_of count_of before.database c)
Carried x byte c before after (Refused at cause) =
    (after ≡ before) × (at ≡ length before.history) × (option_map (step_cause byte) (result_err (step before.database c)) ≡ Some cause)
Carried x byte c before after (Rows at rows) = ⊥
Carried x byte c before after (Failed at cause) = ⊥

-- a table as a query holds it is the one of this number in a sound catalogue
pub record IsHeldTable {File : Type 0} (tells : Bool) (pages : File → List (List ℕ)) (held : Holding (Viewed File)) (at : ℕ) (taken : HeldTable (Viewed File)) : Type 0 where
  pub sound : IsSound tells pages held
  pub table : Table (Viewed File)
  pub stands : slice_get held.database.tables at ≡ Some table
  pub is : taken ≡ held_table table

-- the tables of a snapshot are those of these numbers
abbrev pub HoldsOn : {File : Type 0} → Bool → (File → List (List ℕ)) → Holding (Viewed File) → List ℕ → Snapshot (Viewed File) → Type 0
HoldsOn {File} tells pages held places view = (place at : ℕ) (t : HeldTable (Viewed File)) → slice_get places place ≡ Some at → slice_get view.tables place ≡ Some t → IsHeldTable tells pages held at t

-- each chunk of a snapshot's table is built of its rows under its schema
abbrev pub TableStands : {File : Type 0} → Bool → (File → List (List ℕ)) → HeldTable (Viewed File) → Type 0
TableStands tells pages t = All (λ c. IsBuilt tells pages c.view.schema c.view.rows c.view) t.chunks

-- neither count of the port rose since, and each read that landed serves
pub record AllWell {File : Type 0} (held : Holding (Viewed File)) (before after : PortSeen File) : Type 0 where
  pub still : IsStill before after
  pub serve : (files : List File) → AreFiles held files → AllServe (database_of held) files before after

-- what the failure of a statement over a catalogue stands on
abbrev pub FailedOver : {File : Type 0} → Bool → Holding (Viewed File) → PortSeen File → PortSeen File → Failure → Type 0
FailedOver {File} tells held before after cause = (files : List File) → AreFiles held files → FailedBy tells (database_of held) files before after cause

-- a step that reads a catalogue's tables: all went well; or it failed, and that is no failure of a write
abbrev pub ReadsTables : {File T : Type 0} → Bool → Holding (Viewed File) → PortSeen File → PortSeen File → Result T Failure → Type 0
ReadsTables tells held before after (Ok x) = AllWell held before after
ReadsTables tells held before after (Err cause) = (¬ (cause ≡ Write)) × FailedOver tells held before after cause
