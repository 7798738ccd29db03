-- One step of a statement: the tables that stand behind it, and what its answer owes.
use Rattle.std.proofs.Common.{◌≡◌, ◌⊎◌, ℕ, ◌+◌, ◌<◌, ◌^◌, Bool, true, false, List, [], ◌∷◌, ◌++◌, length, Option, Some, None, inl, inr, refl, sym, ap, subst, ◌∙◌, arith, cond}
use Rattle.std.specs.Prelude.{nat_lt, Result, Ok, Err, IfOk, OnErr}
use Rattle.std.specs.List.{find, position_or_len, slice_get, slice_set}
use Rattle.std.specs.Option.{option_and_then, option_map, option_or}
use Rattle.std.proofs.lemmas.Bool.{lt-ltb, cases_eq}
use Rattle.std.proofs.lemmas.List.Folds.{find_at, find-append, position_or_len-set}
use Rattle.std.proofs.lemmas.Option.{slice_get_within, get_or_from_slice_get, same_Some}
use Rattle.hv_row.specs.declared.value.Value.{Value}
use Rattle.hv_row.specs.declared.schema.Column.{Column}
use Rattle.hv_row.specs.Schema.{same_name}
use Rattle.hv_dev.specs.Reading.{Landing}
use Rattle.hv_view.specs.View.{Viewed}
use Rattle.hv_model.specs.declared.tree.Ast.{Ast}
use Rattle.hv_model.specs.declared.tree.Ast.TheVariants as ast
use Rattle.hv_model.specs.declared.tree.Word.{Word}
use Rattle.hv_model.specs.declared.script.Statement.{Statement}
use Rattle.hv_model.specs.declared.catalogue.Table.{Table}
use Rattle.hv_model.specs.declared.catalogue.Database.{Database}
use Rattle.hv_model.specs.declared.catalogue.Command.{Command}
use Rattle.hv_model.specs.declared.catalogue.Command.TheVariants.{Create, Import, Purge}
use Rattle.hv_model.specs.declared.reply.Reply.{Reply}
use Rattle.hv_model.specs.declared.reply.Reply.TheVariants.{Done, Rows, Refused, Failed}
use Rattle.hv_model.specs.declared.reply.Failure.TheVariants.{Memory}
use Rattle.hv_model.specs.declared.reply.Refusal.TheVariants.{Unbuilt}
use Rattle.hv_model.specs.Causes.{first_of, given_unless}
use Rattle.hv_model.specs.Database.{RowTable, RowDatabase, with_table, with_last_chunk, without_chunk, with_chunk, with_purged, create_causes, import_causes, purge_causes, step, table_number}
use Rattle.hv_model.specs.Command.{table_named, tree_refusal}
use Rattle.hv_model.specs.Settled.{Settles}
use Rattle.hv_model.proofs.Places.{slice_get-set_same, slice_get-set_other}
use Rattle.hv_model.proofs.Premises.{settles_under}
use Rattle.hv_catalogue.specs.Holding.{Holding}
use Rattle.hv_world.specs.declared.select.SelectJob.{SelectJob}
use Rattle.hv_world.specs.declared.stage.Stage.{Stage}
use Rattle.hv_world.specs.declared.stage.Stage.TheVariants as stage
use Rattle.hv_world.specs.declared.stage.Step.{Step}
use Rattle.hv_world.specs.declared.stage.Step.TheVariants.{Goes, Answered}
use Rattle.hv_world.specs.Known.{DatabaseIsKnown}
use Rattle.hv_world.specs.Stored.{database_of}
use Rattle.hv_world.specs.Look.{HasTable, KeepsTables}
use Rattle.hv_world.specs.Reads.{PortSeen, IsIdle}
use Rattle.hv_world.specs.Damage.{IsUnfailed}
use Rattle.hv_world.specs.Selecting.{IsSelecting}
use Rattle.hv_world.specs.Step.{IsStep}
use Rattle.hv_world.proofs.Steps.{goes_nowhere, well_unread, memory_over, replied_well}
use Rattle.hv_world.proofs.HeldTables.{row_table, named_stands, given_is, of_place}

-- ---- the tables that stand

-- whether a table has this name
abbrev has_name : {C : Type 0} → List ℕ → Table C → Bool
has_name name t = same_name t.name name

-- the table of a name is the first that has it
at_first : {X : Type 0} (xs : List X) (n : ℕ) (x : X) (b : Bool) → option_and_then (λ at. slice_get xs at) (cond b (Some n) None) ≡ Some x → slice_get xs n ≡ Some x
at_first xs n x true e = e
at_first xs n x false e = absurd cc

named_found : {C : Type 0} (s : Database C) (name : List ℕ) (t : Table C) → table_named s name ≡ Some t → slice_get s.tables (position_or_len (has_name name) s.tables) ≡ Some t
named_found s name t is =
    let n = position_or_len (has_name name) s.tables in
    at_first s.tables n t (nat_lt n (length s.tables)) is

found_named : {C : Type 0} (s : Database C) (name : List ℕ) (t : Table C) → slice_get s.tables (position_or_len (has_name name) s.tables) ≡ Some t → table_named s name ≡ Some t
found_named s name t stands =
    let n = position_or_len (has_name name) s.tables in
    let within : nat_lt n (length s.tables) ≡ true = lt-ltb n (length s.tables) (slice_get_within s.tables n t stands) in
    ap (λ b. option_and_then (λ at. slice_get s.tables at) (cond b (Some n) None)) within ∙ stands

-- a table of this name stands, under this schema
record Schemed {C : Type 0} (s : Database C) (name : List ℕ) (schema : List Column) : Type 0 where
  pub table : Table C
  pub named : table_named s name ≡ Some table
  pub schema_is : table.schema ≡ schema

-- a table behind the others
named_before : {C : Type 0} (s after : Database C) (more : List (Table C)) (name : List ℕ) (t : Table C) → after.tables ≡ s.tables ++ more → table_named s name ≡ Some t → Schemed after name t.schema
named_before {C} s after more name t longer is =
    let first : find (has_name name) s.tables ≡ Some t = find_at (has_name name) s.tables ∙ named_found s name t is in
    let found : find (has_name name) after.tables ≡ Some t =
    ap (λ (ts : List (Table C)). find (has_name name) ts) longer ∙ find-append (has_name name) s.tables more ∙ ap (λ o. option_or o (find (has_name name) more)) first in
    record { table = t; named = found_named after name t (sym (find_at (has_name name) after.tables) ∙ found); schema_is = refl }

-- a table in the place of one of its name and schema
named_beside : {C : Type 0} (s after : Database C) (at : ℕ) (old new : Table C) (name : List ℕ) (t : Table C) → slice_get s.tables at ≡ Some old → new.name ≡ old.name → new.schema ≡ old.schema
    → after.tables ≡ slice_set s.tables at new → table_named s name ≡ Some t → Schemed after name t.schema
named_beside {C} s after at old new name t stands names schemas set is =
    let n = position_or_len (has_name name) s.tables in
    let found : slice_get s.tables n ≡ Some t = named_found s name t is in
    let own : slice_get s.tables at ≡ Some old = stands in
    let test : has_name name new ≡ has_name name old = ap (λ m. same_name m name) names in
    let same : position_or_len (has_name name) after.tables ≡ n =
    ap (λ (ts : List (Table C)). position_or_len (has_name name) ts) set
    ∙ position_or_len-set (has_name name) s.tables at new old (test ∙ ap (has_name name) (sym (get_or_from_slice_get s.tables at old old stands))) in
    elim (cases_eq n at) [
      | inl here ↦ (let both : Some old ≡ Some t = sym stands ∙ ap (slice_get s.tables) (sym here) ∙ found in
          let which : old ≡ t = same_Some old t both in
          let read : slice_get after.tables (position_or_len (has_name name) after.tables) ≡ Some new =
          (λ j. slice_get (set j) ((same ∙ here) j)) ∙ slice_get-set_same s.tables at new (slice_get_within s.tables at old stands) in
          record { table = new; named = found_named after name new read; schema_is = schemas ∙ ap (λ (u : Table C). u.schema) which })
      | inr apart ↦ (let read : slice_get after.tables (position_or_len (has_name name) after.tables) ≡ Some t =
          (λ j. slice_get (set j) (same j)) ∙ slice_get-set_other s.tables at n new apart ∙ found in
          record { table = t; named = found_named after name t read; schema_is = refl })
    ]

-- each command that is accepted leaves the tables that stood their names and schemas
named_stepped : {C : Type 0} (s after : Database C) (c : Command C) (name : List ℕ) (t : Table C) → step s c ≡ Ok after → table_named s name ≡ Some t → Schemed after name t.schema
named_stepped {C} s after (Create made schema) name t steps is =
    named_before s after ((record { name = made; schema = schema; chunks = [] }) ∷ []) name t
    (ap (λ (d : Database C). d.tables) (given_is (first_of (create_causes made s)) (with_table made schema s) after steps)) is
named_stepped {C} s after (Import into content) name t steps is =
    let found = of_place (λ at t. given_unless (first_of (import_causes t s)) (with_chunk at t content s)) s after (table_number s into) steps in
    named_beside s after found.at found.table (with_last_chunk found.table (s.made + 1) content) name t found.stands refl refl
    (ap (λ (d : Database C). d.tables) (given_is (first_of (import_causes found.table s)) (with_chunk found.at found.table content s) after found.made)) is
named_stepped {C} s after (Purge into chunk) name t steps is =
    let found = of_place (λ at t. given_unless (first_of (purge_causes t chunk s)) (with_purged at t chunk s)) s after (table_number s into) steps in
    named_beside s after found.at found.table (without_chunk found.table chunk) name t found.stands refl refl
    (ap (λ (d : Database C). d.tables) (given_is (first_of (purge_causes found.table chunk s)) (with_purged found.at found.table chunk s) after found.made)) is

-- ---- the tables that are stored

-- a table that stands with its rows stands
of_rows : {File : Type 0} (o : Option (Table (Viewed File))) (u : RowTable) → option_map row_table o ≡ Some u → (t : Table (Viewed File)) × (o ≡ Some t) × (t.schema ≡ u.schema)
of_rows None u e = absurd cc
of_rows (Some t) u e = (t, refl, ap (λ (r : RowTable). r.schema) (same_Some (row_table t) u e))

stands_stored : {File : Type 0} (held : Holding (Viewed File)) (name : List ℕ) (schema : List Column) → Schemed (database_of held) name schema → HasTable held name schema
stands_stored held name schema stands =
    let found = of_rows (table_named held.database name) stands.table (sym (named_stands held name) ∙ stands.named) in
    record { table = found.0; named = found.1; schema_is = found.2 ∙ stands.schema_is }

-- the tables that stood stand behind what a reply owes
keeps_stored : {File : Type 0} (before after : Holding (Viewed File)) → database_of after ≡ database_of before → KeepsTables before after
keeps_stored {File} before after same name schema has =
    stands_stored after name schema (record {
      table = row_table has.table;
      named = ap (λ (d : RowDatabase). table_named d name) same ∙ named_stands before name ∙ ap (option_map row_table) has.named;
      schema_is = has.schema_is;
    })

keeps_stepped : {File : Type 0} (before after : Holding (Viewed File)) (c : Command (List (List Value))) → step (database_of before) c ≡ Ok (database_of after) → KeepsTables before after
keeps_stepped {File} before after c steps name schema has =
    let stood = named_stepped (database_of before) (database_of after) c name (row_table has.table) steps (named_stands before name ∙ ap (option_map row_table) has.named) in
    stands_stored after name schema (record { table = stood.table; named = stood.named; schema_is = stood.schema_is ∙ has.schema_is })

keeps_settled : {File : Type 0} (x : Statement) (max : ℕ) (known : Type 0) (before after : Holding (Viewed File)) (r : Reply) → Settles x max known (database_of before) before.history r (database_of after) after.history
    → KeepsTables before after
keeps_settled x max known before after (Done at what) settles = keeps_stepped before after settles.command settles.steps
keeps_settled x max known before after (Rows at rows) settles = keeps_stored before after settles.0.same_database
keeps_settled x max known before after (Refused at cause) settles = keeps_stored before after settles.0.same_database
keeps_settled x max known before after (Failed at cause) settles = keeps_stored before after settles.0.same_database

keeps_same : {File : Type 0} (before after : Holding (Viewed File)) → after ≡ before → KeepsTables before after
keeps_same {File} before after same = keeps_stored before after (ap (λ (h : Holding (Viewed File)). database_of h) same)

-- so they do behind each step
pub keeps_tables : {File : Type 0} (tells : Bool) (pages : File → List (List ℕ)) (x : Statement) (floor : ℕ) (before after : Holding (Viewed File)) (at : Stage File) (port new : PortSeen File) (s : Step File)
    → IsStep tells pages x floor before after at port new s → KeepsTables before after
keeps_tables tells pages x floor before after at port new (Goes next) goes = keeps_same before after goes.same
keeps_tables tells pages x floor before after at port new (Answered r) answered =
    elim answered.1 [
      | inl over ↦ keeps_settled x 0 _ before after r (over.settles 0)
      | inr (inl then) ↦ keeps_same before after then.same
      | inr (inr never) ↦ keeps_same before after never.same
    ]

-- ---- the answers

-- a command's answer, or want of memory
pub command_step : {File E : Type 0} (tells : Bool) (pages : File → List (List ℕ)) (x : Statement) (floor : ℕ) (before after : Holding (Viewed File)) (at : Stage File) (port : PortSeen File) (answer : Result Reply E) (s : Step File)
    → IsIdle port → IfOk answer (λ r. (max : ℕ) → Settles x max (Unit {0}) (database_of before) before.history r (database_of after) after.history) → IfOk answer (λ r. IsUnfailed r) → OnErr answer (after ≡ before)
    → IfOk answer (λ r. s ≡ Answered r) → OnErr answer (s ≡ Answered (Failed (length after.history) Memory)) → IsStep tells pages x floor before after at port port s
command_step {File} tells pages x floor before after at port (Ok r) s idle settles unfailed keeps told wants =
    subst (λ (t : Step File). IsStep tells pages x floor before after at port port t) (sym told) (
      goes_nowhere port idle,
      inl (record {
        settles = λ max. settles_under (DatabaseIsKnown tells (database_of before) port.reading.landings) (Unit {0}) (λ k. tt) x max (database_of before) before.history r (database_of after) after.history (settles max);
        cause = replied_well tells before port port r unfailed (well_unread before port port refl refl);
      }),
    )
command_step {File} tells pages x floor before after at port (Err e) s idle settles unfailed keeps told wants =
    subst (λ (t : Step File). IsStep tells pages x floor before after at port port t) (sym wants) (
      goes_nowhere port idle,
      inl (record {
        settles = λ max. (
          record {
            same_database = ap (λ (h : Holding (Viewed File)). database_of h) keeps;
            same_history = ap (λ (h : Holding (Viewed File)). h.history) keeps;
            at_is = ap (λ (h : Holding (Viewed File)). length h.history) keeps;
          },
          refl,
        );
        cause = λ files are. memory_over tells before port port (well_unread before port port refl refl) files are;
      }),
    )

-- memory was wanting before anything was read
pub never_looked : {File : Type 0} (tells : Bool) (pages : File → List (List ℕ)) (x : Statement) (floor : ℕ) (now : Holding (Viewed File)) (port : PortSeen File) → IsIdle port
    → IsStep tells pages x floor now now stage.Unbegun port port (Answered (Failed floor Memory))
never_looked tells pages x floor now port idle = (goes_nowhere port idle, inr (inr (record { same = refl; none = refl; is = refl; port_is = refl })))

-- a query is bound
pub select_begun : {File : Type 0} (tells : Bool) (pages : File → List (List ℕ)) (x : Statement) (floor : ℕ) (now : Holding (Viewed File)) (job : SelectJob File) (port : PortSeen File) → IsIdle port
    → ((landings : List (Landing File)) → IsSelecting tells pages x job landings) → job.look.held.value ≡ now → job.left < 2 ^ 64
    → IsStep tells pages x floor now now stage.Unbegun port port (Goes (stage.Reading job))
select_begun tells pages x floor now job port idle selecting looked fits = record {
  same = refl;
  staged = record { idle = idle; selecting = selecting port.reading.landings };
  well = well_unread now port port refl refl;
  reads = (goes_nowhere port idle).reads;
  looks = inr (job.look, refl, looked);
  begun = (job.look, refl);
  fewer = omega (arith, fits);
}

-- a statement that nothing carries out yet
pub unbuilt_tree : (tree : Ast) (lines : List ℕ) (s : RowDatabase) → ((parts : List ℕ) × (table : Word) × (tree ≡ ast.Merge parts table)) ⊎ (((name : Word) × (tree ≡ ast.Session name)) ⊎ (tree ≡ ast.Barrier))
    → tree_refusal (λ rows. rows) tree lines s ≡ Some Unbuilt
unbuilt_tree tree lines s (inl (parts, table, e)) = ap (λ (t : Ast). tree_refusal (λ rows. rows) t lines s) e
unbuilt_tree tree lines s (inr (inl (name, e))) = ap (λ (t : Ast). tree_refusal (λ rows. rows) t lines s) e
unbuilt_tree tree lines s (inr (inr e)) = ap (λ (t : Ast). tree_refusal (λ rows. rows) t lines s) e
