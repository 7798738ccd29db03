-- A command carried out or refused, told as a step of the database.
use Rattle.std.proofs.Common.{◌≡◌, ℕ, true, false, not, List, [], ◌∷◌, length, Option, Some, None, Result, Ok, Err, refl, sym, ap, subst, ◌∙◌}
use Rattle.std.specs.Prelude.{slice_get, nat_le}
use Rattle.std.specs.Bool.{then_some}
use Rattle.std.specs.Result.{IfErr, IsErrAnd}
use Rattle.hv_model.specs.declared.catalogue.Table.{Table}
use Rattle.hv_model.specs.declared.catalogue.Database.{Database}
use Rattle.hv_model.specs.declared.catalogue.Command.{Command}
use Rattle.hv_model.specs.declared.catalogue.Command.TheVariants.{Import, Purge}
use Rattle.hv_model.specs.declared.catalogue.StepRefusal.{StepRefusal}
use Rattle.hv_model.specs.declared.catalogue.StepRefusal.TheVariants as unstepped
use Rattle.hv_model.specs.Causes.{first_of, given_unless}
use Rattle.hv_model.specs.Command.{told_of, table_named}
use Rattle.std.specs.Option.{option_and_then}
use Rattle.hv_model.specs.Database.{table_number, with_chunk, with_purged, import_causes, purge_causes, most_entries, has_chunk, on_found, on_place, step}
use Rattle.hv_catalogue.specs.declared.command.ApplyFault.{ApplyFault}
use Rattle.hv_catalogue.specs.declared.command.ApplyFault.TheVariants as unapplied
use Rattle.hv_catalogue.specs.Holding.{Holding, IsApplied, IsStepped, IsUnapplied, fault_at}

module _ {C : Type 0} where
  -- the step of a command whose table stands
  pub import_is : (s : Database C) (name : List ℕ) (at : ℕ) (t : Table C) (content : C) → table_number s name ≡ Some at → slice_get s.tables at ≡ Some t
      → step s (Import name content) ≡ given_unless (first_of (import_causes t s)) (with_chunk at t content s)
  import_is s name at t content number stands =
      ap (on_place (λ at t. given_unless (first_of (import_causes t s)) (with_chunk at t content s)) s) number
      ∙ ap (on_found (λ at t. given_unless (first_of (import_causes t s)) (with_chunk at t content s)) at) stands

  pub purge_is : (s : Database C) (name : List ℕ) (at : ℕ) (t : Table C) (chunk : ℕ) → table_number s name ≡ Some at → slice_get s.tables at ≡ Some t
      → step s (Purge name chunk) ≡ given_unless (first_of (purge_causes t chunk s)) (with_purged at t chunk s)
  purge_is s name at t chunk number stands =
      ap (on_place (λ at t. given_unless (first_of (purge_causes t chunk s)) (with_purged at t chunk s)) s) number
      ∙ ap (on_found (λ at t. given_unless (first_of (purge_causes t chunk s)) (with_purged at t chunk s)) at) stands

  -- and of one whose table doesn't
  pub import_absent : (s : Database C) (name : List ℕ) (content : C) → table_number s name ≡ None → step s (Import name content) ≡ Err unstepped.NoTable
  import_absent s name content none = ap (on_place (λ at t. given_unless (first_of (import_causes t s)) (with_chunk at t content s)) s) none

  pub purge_absent : (s : Database C) (name : List ℕ) (chunk : ℕ) → table_number s name ≡ None → step s (Purge name chunk) ≡ Err unstepped.NoTable
  purge_absent s name chunk none = ap (on_place (λ at t. given_unless (first_of (purge_causes t chunk s)) (with_purged at t chunk s)) s) none

  -- what is given where nothing stands against it, and where something does
  pub given : (point : Option StepRefusal) (after : Database C) → point ≡ None → given_unless point after ≡ Ok after
  given point after none = ap (λ (p : Option StepRefusal). given_unless p after) none

  pub not_given : (point : Option StepRefusal) (after : Database C) (why : StepRefusal) → point ≡ Some why → given_unless point after ≡ Err why
  not_given point after why some = ap (λ (p : Option StepRefusal). given_unless p after) some

  -- the table of a name, by its number
  pub named_is : (s : Database C) (name : List ℕ) (at : ℕ) (t : Table C) → table_number s name ≡ Some at → slice_get s.tables at ≡ Some t → table_named s name ≡ Some t
  named_is s name at t number stands = ap (λ (o : Option ℕ). option_and_then (λ at. slice_get s.tables at) o) number ∙ stands

  -- the fault of a refusal says why the step is refused
  pub fault_tells : (held : Holding C) (c : Command C) (why : StepRefusal) (at : ℕ) → step held.database c ≡ Err why → at ≡ length held.history → IsUnapplied held c (fault_at at why)
  fault_tells held c unstepped.TableExists at refused long = (unstepped.TableExists, refused, (λ e. absurd cc), refl, long)
  fault_tells held c unstepped.TooManyTables at refused long = (unstepped.TooManyTables, refused, (λ e. absurd cc), refl, long)
  fault_tells held c unstepped.NoTable at refused long = (refused, long)
  fault_tells held c unstepped.TooManyChunks at refused long = (unstepped.TooManyChunks, refused, (λ e. absurd cc), refl, long)
  fault_tells held c (unstepped.NoChunk chunk) at refused long = (unstepped.NoChunk chunk, refused, (λ e. absurd cc), refl, long)
  fault_tells held c unstepped.HistoryFull at refused long = (unstepped.HistoryFull, refused, (λ e. absurd cc), refl, long)

  -- a step made is a command carried out
  pub applied : (count : C → ℕ) (before after : Holding C) (session : List ℕ) (number : ℕ) (c : Command C) (became : Database C) (at : ℕ) → step before.database c ≡ Ok became
      → IsStepped before after became (record { session = session; number = number; what = told_of count before.database c }) → at ≡ length after.history → IsApplied count before after session number c at
  applied count before after session number c became at accepted stepped long = record {
    steps = accepted ∙ ap (λ (s : Database C). Ok s) (sym stepped.database);
    longer = stepped.history;
    at_is = long;
  }

  -- want of memory is told of a command that would be carried out
  pub short_of_memory : (held : Holding C) (c : Command C) (after : Database C) (r : Result ℕ ApplyFault) → IsErrAnd r (λ fault. fault ≡ unapplied.Memory) → step held.database c ≡ Ok after → IfErr r (λ fault. IsUnapplied held c fault)
  short_of_memory held c after (Ok at) told made = absurd told
  short_of_memory held c after (Err fault) told made = subst (λ (f : ApplyFault). IsUnapplied held c f) (sym told) (after, made)

  -- what stands against a purge, by its two tests
  pub purge_missing : (t : Table C) (number : ℕ) (s : Database C) → has_chunk number t ≡ false → first_of (purge_causes t number s) ≡ Some (unstepped.NoChunk number)
  purge_missing t number s missing = λ j. first_of (then_some (not (missing j)) (unstepped.NoChunk number) ∷ then_some (nat_le most_entries s.length) unstepped.HistoryFull ∷ [])

  pub purge_full : (t : Table C) (number : ℕ) (s : Database C) → has_chunk number t ≡ true → nat_le most_entries s.length ≡ true → first_of (purge_causes t number s) ≡ Some unstepped.HistoryFull
  purge_full t number s has full = λ j. first_of (then_some (not (has j)) (unstepped.NoChunk number) ∷ then_some (full j) unstepped.HistoryFull ∷ [])

  pub purge_free : (t : Table C) (number : ℕ) (s : Database C) → has_chunk number t ≡ true → nat_le most_entries s.length ≡ false → first_of (purge_causes t number s) ≡ None
  purge_free t number s has room = λ j. first_of (then_some (not (has j)) (unstepped.NoChunk number) ∷ then_some (room j) unstepped.HistoryFull ∷ [])
