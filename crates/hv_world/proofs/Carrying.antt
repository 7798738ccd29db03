-- The command of a statement, carried out over a catalogue: what its answer owes over the database that is stored.
use Rattle.std.proofs.Common.{◌≡◌, ℕ, ◌+◌, List, [], ◌∷◌, length, Option, Some, None, Result, Ok, Err, refl, sym, ap, subst, ◌∙◌, length-append}
use Rattle.std.specs.Prelude.{IfOk, OnErr}
use Rattle.std.specs.Option.{option_map}
use Rattle.std.specs.Result.{result_err, result_map_both}
use Rattle.hv_row.specs.declared.schema.Column.{Column}
use Rattle.hv_model.specs.declared.tree.Ast.{Ast}
use Rattle.hv_model.specs.declared.tree.Ast.TheVariants as ast
use Rattle.hv_model.specs.declared.tree.Word.{Word}
use Rattle.hv_model.specs.declared.script.Statement.{Statement}
use Rattle.hv_model.specs.declared.catalogue.Table.{Table}
use Rattle.hv_model.specs.declared.catalogue.Database.{Database}
use Rattle.hv_model.specs.declared.catalogue.Command.{Command}
use Rattle.hv_model.specs.declared.catalogue.Command.TheVariants.{Create, Import, Purge}
use Rattle.hv_model.specs.declared.catalogue.StepRefusal.{StepRefusal}
use Rattle.hv_model.specs.declared.catalogue.StepRefusal.TheVariants as unstepped
use Rattle.hv_model.specs.declared.catalogue.Detail.TheVariants as detail
use Rattle.hv_model.specs.declared.catalogue.Entry.{Entry}
use Rattle.hv_model.specs.declared.reply.Reply.{Reply}
use Rattle.hv_model.specs.declared.reply.Reply.TheVariants.{Done, Rows, Refused, Failed}
use Rattle.hv_model.specs.declared.reply.Refusal.{Refusal}
use Rattle.hv_model.specs.declared.reply.Refusal.TheVariants as refusal
use Rattle.hv_model.specs.Parsed.{parsed}
use Rattle.hv_model.specs.Import.{rows_of}
use Rattle.hv_model.specs.Causes.{first_of, given_unless}
use Rattle.hv_model.specs.Database.{RowDatabase, RowCommand, step, map_database, map_command}
use Rattle.hv_model.specs.Command.{table_named, column_causes, import_into, command_of, text_command, command_refusal, tree_refusal, text_refusal, early_refusal, step_cause, told_of, detail_of}
use Rattle.hv_model.specs.Settled.{Settles}
use Rattle.hv_model.proofs.Mapped.{step-map}
use Rattle.hv_view.specs.View.{Viewed}
use Rattle.hv_catalogue.specs.Holding.{Holding, IsUnapplied}
use Rattle.hv_catalogue.specs.declared.command.ApplyFault.TheVariants as unapplied
use Rattle.hv_world.specs.Stored.{database_of, AreFiles, HasFiles}
use Rattle.hv_world.specs.Answer.{Carried, count_of}
use Rattle.hv_world.proofs.Refusing.{refused_early}
use Rattle.hv_world.proofs.HeldTables.{row_table, named_stands, files_stepped, has_files}

-- the command with rows
abbrev pub row_command : {File : Type 0} → Command (Viewed File) → RowCommand
row_command {File} c = map_command (λ (v : Viewed File). v.rows) c

-- a statement's text was read as a tree, and at the database that is stored its command is that of what is applied with its rows; the table's name is at this byte
pub record Asks {File : Type 0} (x : Statement) (byte : ℕ) (held : Holding (Viewed File)) (c : Command (Viewed File)) : Type 0 where
  pub tree : Ast
  pub read : parsed x.text ≡ Ok tree
  pub command : command_of (λ rows. rows) tree x.lines (database_of held) ≡ Ok (row_command c)
  pub refuses : tree_refusal (λ rows. rows) tree x.lines (database_of held) ≡ command_refusal byte (database_of held) (command_of (λ rows. rows) tree x.lines (database_of held))
  pub told : told_of count_of held.database c ≡ detail_of (database_of held) (row_command c)

-- a refusal stays the same where what is made is changed
err_same : {A B E : Type 0} (f : A → B) (r : Result A E) → result_err (result_map_both f (λ cause. cause) r) ≡ result_err r
err_same f (Ok x) = refl
err_same f (Err cause) = refl

-- the database's refusal of a command is that of the command with rows
row_refusal : {File : Type 0} (held : Holding (Viewed File)) (c : Command (Viewed File)) → result_err (step (database_of held) (row_command c)) ≡ result_err (step held.database c)
row_refusal {File} held c =
    ap (λ (r : Result RowDatabase StepRefusal). result_err r) (step-map (λ (v : Viewed File). v.rows) held.database c)
    ∙ err_same (map_database (λ (v : Viewed File). v.rows)) (step held.database c)

-- what is carried out is owed
pub settles_carried : {File : Type 0} (x : Statement) (byte : ℕ) (c : Command (Viewed File)) (before after : Holding (Viewed File)) (reply : Reply) (max : ℕ) → Asks x byte before c → Carried x byte c before after reply
    → Settles x max (Unit {0}) (database_of before) before.history reply (database_of after) after.history
settles_carried {File} x byte c before after (Done at what) max asks carried =
    let entry : Entry = record { session = x.session; number = x.number; what = told_of count_of before.database c } in record {
      entry = entry;
      names = record { session = refl; number = refl };
      told = sym carried.1;
      is_longer = carried.0.longer;
      at_is = carried.0.at_is ∙ ap length carried.0.longer ∙ length-append before.history (entry ∷ []);
      command = row_command c;
      is = ap (λ (r : Result Ast ℕ). text_command (λ rows. rows) r x.lines (database_of before)) asks.read ∙ asks.command;
      steps = step-map (λ (v : Viewed File). v.rows) before.database c ∙ ap (result_map_both (map_database (λ (v : Viewed File). v.rows)) (λ cause. cause)) carried.0.steps;
      detail = carried.1 ∙ asks.told;
    }
settles_carried {File} x byte c before after (Refused at cause) max asks carried = (
  record {
    same_database = ap (λ (h : Holding (Viewed File)). database_of h) carried.0;
    same_history = ap (λ (h : Holding (Viewed File)). h.history) carried.0;
    at_is = carried.1;
  },
  refused_early x (database_of before) max (Unit {0}) cause
      (ap (λ (r : Result Ast ℕ). text_refusal (λ rows. rows) r x.lines (database_of before)) asks.read ∙ asks.refuses
      ∙ ap (command_refusal byte (database_of before)) asks.command ∙ ap (option_map (step_cause byte)) (row_refusal before c) ∙ carried.2),
)
settles_carried x byte c before after (Rows at rows) max asks carried = absurd carried
settles_carried x byte c before after (Failed at cause) max asks carried = absurd carried

-- the files of the chunks are those there were, and that of a new chunk
pub files_carried : {File : Type 0} (x : Statement) (byte : ℕ) (c : Command (Viewed File)) (before after : Holding (Viewed File)) (reply : Reply) → Carried x byte c before after reply
    → (files : List File) → AreFiles before files → HasFiles after files
files_carried x byte c before after (Done at what) carried files are = files_stepped before after c carried.0.steps files are
files_carried {File} x byte c before after (Refused at cause) carried files are = has_files after files (subst (λ (h : Holding (Viewed File)). AreFiles h files) (sym carried.0) are)
files_carried x byte c before after (Rows at rows) carried files are = absurd carried
files_carried x byte c before after (Failed at cause) carried files are = absurd carried

-- the same of what may want memory, and then changes nothing
pub settles_ok : {File E : Type 0} (x : Statement) (byte : ℕ) (c : Command (Viewed File)) (before after : Holding (Viewed File)) (r : Result Reply E) → Asks x byte before c → IfOk r (λ reply. Carried x byte c before after reply)
    → IfOk r (λ reply. (max : ℕ) → Settles x max (Unit {0}) (database_of before) before.history reply (database_of after) after.history)
settles_ok x byte c before after (Ok reply) asks carried = λ max. settles_carried x byte c before after reply max asks carried
settles_ok x byte c before after (Err e) asks carried = tt

pub files_ok : {File E : Type 0} (x : Statement) (byte : ℕ) (c : Command (Viewed File)) (before after : Holding (Viewed File)) (r : Result Reply E) → IfOk r (λ reply. Carried x byte c before after reply) → OnErr r (after ≡ before)
    → (files : List File) → AreFiles before files → HasFiles after files
files_ok x byte c before after (Ok reply) carried keeps files are = files_carried x byte c before after reply carried files are
files_ok {File} x byte c before after (Err e) carried keeps files are = has_files after files (subst (λ (h : Holding (Viewed File)). AreFiles h files) (sym keeps) are)

-- ---- what each statement asks

-- CREATE of columns against which nothing stands
pub asks_create : {File : Type 0} (x : Statement) (held : Holding (Viewed File)) (table : Word) (columns : List Column) → parsed x.text ≡ Ok (ast.Create table columns) → first_of (column_causes columns) ≡ None
    → Asks x table.byte held (Create table.name columns)
asks_create x held table columns read free = record {
  tree = ast.Create table columns;
  read = read;
  command = ap (λ (point : Option Refusal). given_unless point (Create table.name columns)) free;
  refuses = refl;
  told = refl;
}

-- PURGE
pub asks_purge : {File : Type 0} (x : Statement) (held : Holding (Viewed File)) (chunk : ℕ) (table : Word) → parsed x.text ≡ Ok (ast.Purge chunk table) → Asks x table.byte held (Purge table.name chunk)
asks_purge x held chunk table read = record {
  tree = ast.Purge chunk table;
  read = read;
  command = refl;
  refuses = refl;
  told = refl;
}

-- an import's command is that of its rows
into_is : {File : Type 0} (held : Holding (Viewed File)) (table : Word) (lines : List ℕ) (t : Table (Viewed File)) → table_named held.database table.name ≡ Some t
    → import_into (λ rows. rows) table lines (table_named (database_of held) table.name) ≡ result_map_both (λ rows. Import table.name rows) (λ cause. cause) (rows_of t.schema lines)
into_is held table lines t stands =
    ap (import_into (λ rows. rows) table lines) (named_stands held table.name ∙ ap (option_map row_table) stands)

-- IMPORT into a table that stands, whose rows are those of the chunk
pub asks_import : {File : Type 0} (x : Statement) (held : Holding (Viewed File)) (table : Word) (wanted : ℕ) (t : Table (Viewed File)) (chunk : Viewed File) → parsed x.text ≡ Ok (ast.Import table wanted)
    → table_named held.database table.name ≡ Some t → rows_of t.schema x.lines ≡ Ok chunk.rows → chunk.row_count ≡ length chunk.rows → Asks x table.byte held (Import table.name chunk)
asks_import x held table wanted t chunk read stands rows counted = record {
  tree = ast.Import table wanted;
  read = read;
  command = into_is held table x.lines t stands ∙ ap (result_map_both (λ rows. Import table.name rows) (λ cause. cause)) rows;
  refuses = refl;
  told = ap (detail.Import table.name (held.database.made + 1)) counted;
}

-- ---- statements that have no command

-- a statement's command is refused before anything is done
pub early_command : {File : Type 0} (x : Statement) (held : Holding (Viewed File)) (table : Word) (wanted : ℕ) (cause : Refusal) → parsed x.text ≡ Ok (ast.Import table wanted)
    → import_into (λ rows. rows) table x.lines (table_named (database_of held) table.name) ≡ Err cause → early_refusal x (database_of held) ≡ Some cause
early_command x held table wanted cause read fails =
    ap (λ (r : Result Ast ℕ). text_refusal (λ rows. rows) r x.lines (database_of held)) read ∙ ap (command_refusal table.byte (database_of held)) fails

-- CREATE whose columns are refused
pub early_columns : {File : Type 0} (x : Statement) (held : Holding (Viewed File)) (table : Word) (columns : List Column) (cause : Refusal) → parsed x.text ≡ Ok (ast.Create table columns)
    → first_of (column_causes columns) ≡ Some cause → early_refusal x (database_of held) ≡ Some cause
early_columns x held table columns cause read fails =
    ap (λ (r : Result Ast ℕ). text_refusal (λ rows. rows) r x.lines (database_of held)) read
    ∙ ap (λ (point : Option Refusal). command_refusal table.byte (database_of held) (given_unless point (Create table.name columns))) fails

-- IMPORT into a table that doesn't stand
pub early_table : {File : Type 0} (x : Statement) (held : Holding (Viewed File)) (table : Word) (wanted : ℕ) → parsed x.text ≡ Ok (ast.Import table wanted) → table_named held.database table.name ≡ None
    → early_refusal x (database_of held) ≡ Some (refusal.NoTable table.byte)
early_table x held table wanted read none =
    early_command x held table wanted (refusal.NoTable table.byte) read (ap (import_into (λ rows. rows) table x.lines) (named_stands held table.name ∙ ap (option_map row_table) none))

-- IMPORT whose data spells no rows
pub early_rows : {File : Type 0} (x : Statement) (held : Holding (Viewed File)) (table : Word) (wanted : ℕ) (t : Table (Viewed File)) (cause : Refusal) → parsed x.text ≡ Ok (ast.Import table wanted)
    → table_named held.database table.name ≡ Some t → rows_of t.schema x.lines ≡ Err cause → early_refusal x (database_of held) ≡ Some cause
early_rows x held table wanted t cause read stands fails =
    early_command x held table wanted cause read
    (into_is held table x.lines t stands ∙ ap (result_map_both (λ rows. Import table.name rows) (λ cause. cause)) fails)

-- ---- what a catalogue made of a command

-- a command that was refused, but for a table that doesn't stand, is refused for what it was
pub unapplied_cause : {File : Type 0} (byte : ℕ) (held : Holding (Viewed File)) (c : Command (Viewed File)) (at : ℕ) (cause : Refusal) → IsUnapplied held c (unapplied.Refused at cause)
    → option_map (step_cause byte) (result_err (step held.database c)) ≡ Some cause
unapplied_cause byte held c at cause un =
    ap (λ (r : Result (Database _) StepRefusal). option_map (step_cause byte) (result_err r)) un.1 ∙ ap (λ (r : Refusal). Some r) (same un.0 un.2 ∙ sym un.3) where
      same : (why : StepRefusal) → (why ≡ unstepped.NoTable → ⊥) → step_cause byte why ≡ step_cause 0 why
      same unstepped.TableExists other = refl
      same unstepped.TooManyTables other = refl
      same unstepped.NoTable other = absurd (other refl)
      same unstepped.TooManyChunks other = refl
      same (unstepped.NoChunk chunk) other = refl
      same unstepped.HistoryFull other = refl

-- one whose table doesn't stand is refused for that, at the byte of its name
pub unapplied_table : {File : Type 0} (byte : ℕ) (held : Holding (Viewed File)) (c : Command (Viewed File)) (at : ℕ) → IsUnapplied held c (unapplied.NoTable at)
    → option_map (step_cause byte) (result_err (step held.database c)) ≡ Some (refusal.NoTable byte)
unapplied_table byte held c at un = ap (λ (r : Result (Database _) StepRefusal). option_map (step_cause byte) (result_err r)) un.0
