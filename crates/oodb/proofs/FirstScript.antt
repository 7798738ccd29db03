-- The first script's outcome, statement by statement.
use Rattle.std.proofs.Common.{◌≡◌, Bool, Ok, ltb, ltb-true, lit<, ℕ, zero, suc, ◌+◌, ◌≤◌, true, false, List, [], ◌∷◌, Option, Some, None, inr, refl, rules, sym, ◌∙◌, ap, subst, arith, codes, pos, map, length, take, count_by, if◌then◌else◌}
use Rattle.std.specs.List.{All, list_all, slice_get}
use Rattle.std.specs.Prelude.{IsUtf8}
use Rattle.std.proofs.lemmas.Bool.{and_parts}
use Rattle.std.specs.List.Sorted.{IsPermutation}
use Rattle.std.specs.Option.{option_or}
use Rattle.std.specs.Str.{IsAscii, is_utf8}
use Rattle.std.proofs.lemmas.Str.{IsUtf8-from_ascii, is_utf8-from_IsUtf8}
use Rattle.std.proofs.lemmas.List.{take_all}
use Rattle.std.proofs.lemmas.List.Sorted.{IsPermutation-refl, All-permutation}
use Rattle.csv.specs.Reading.{records_from, strip_bom}
use Rattle.csv.specs.Machine.{next_record}
use Rattle.hv_row.specs.declared.value.Value.{Value}
use Rattle.hv_row.specs.Schema.{same_name}
use Rattle.hv_row.specs.Row.{RowFits, row_bytes}
use Rattle.hv_page.specs.Layout.{written_version}
use Rattle.hv_page.specs.Chunk.{IsPacked, heap_pages_from, AreHeapPages}
use Rattle.hv_chunk.proofs.Packing.{pages_once}
use Rattle.hv_view.specs.Known.{NoneForged}
use Rattle.hv_model.specs.declared.script.Statement.{Statement}
use Rattle.hv_model.specs.declared.catalogue.Entry.{Entry}
use Rattle.hv_model.specs.declared.query.Cell.{Cell}
use Rattle.hv_model.specs.declared.query.Cell.TheVariants.{Num, Txt}
use Rattle.hv_model.specs.declared.catalogue.TableHead.{TableHead}
use Rattle.hv_model.specs.declared.catalogue.Command.TheVariants.{Create, Import}
use Rattle.hv_model.specs.declared.reply.Reply.{Reply}
use Rattle.hv_model.specs.declared.reply.Reply.TheVariants.{Done, Rows}
use Rattle.hv_model.specs.declared.reply.Refusal.{Refusal}
use Rattle.hv_model.specs.declared.reply.Refusal.TheVariants.{EmptyAggregate}
use Rattle.hv_model.specs.declared.catalogue.Detail.TheVariants as detail
use Rattle.hv_model.specs.declared.tree.CondAst.TheOpen.{CondAst-F}
use Rattle.hv_model.specs.declared.tree.CondAst.TheFolds.{fold-CondAst, fold-roll-CondAst}
use Rattle.hv_model.specs.declared.tree.CondAst.TheVariants as cond_ast
use Rattle.hv_model.specs.declared.query.Cond.{Cond}
use Rattle.hv_model.specs.declared.query.Cond.TheVariants.{Always}
use Rattle.hv_model.specs.declared.query.BoundQuery.{BoundQuery}
use Rattle.hv_model.specs.Parsed.{some_tree}
use Rattle.hv_model.specs.Causes.{first_of}
use Rattle.hv_model.specs.Bound.{cond_step, cond_of, refusal_step, cond_refusal, bound_query}
use Rattle.hv_model.specs.Selected.{heads_of, select_refusal, unless_refused}
use Rattle.hv_model.specs.Command.{statements, text_command, command_at, query_of, bound, text_refusal, early_refusal, empty_refusal, refusal, database_after, replay_from}
use Rattle.hv_model.specs.Database.{RowChunk, RowTable, RowDatabase, empty_database, with_table, with_chunk}
use Rattle.hv_model.specs.Query.{loops, loops_over, out, row_out}
use Rattle.hv_model.specs.Answer.{IsAnswer, is_empty_aggregate}
use Rattle.hv_model.specs.Legal.{Legal, Answered}
use Rattle.hv_model.specs.Sessions.{HasSessions, AllReplied, LegalInPhase, IsNext}
use Rattle.hv_model.specs.Settled.{Settles}
use Rattle.hv_model.proofs.Histories.{database_after-kept}
use Rattle.hv_model.proofs.QueryLaws.{always_all}
use Rattle.hv_model.proofs.SessionPhases.{legal_start, legal_end}
use Rattle.hv_model.proofs.SessionWorld.{legal_settled, database_settled}
use Rattle.hv_world.specs.Known.{Known, NoneForgedIn}
use Rattle.oodb.specs.FirstScript as first
use Rattle.oodb.proofs.FirstTrees.{create_parsed, import_parsed, selected, select_parsed}

-- bytes below 128 are text
abbrev small : ℕ → Bool
small b = ltb b 128

ascii : (bs : List ℕ) → list_all small bs ≡ true → IsAscii bs
ascii [] e i = lit< tt
ascii (b ∷ bs) e zero = ltb-true b 128 (and_parts (small b) (list_all small bs) e).0
ascii (b ∷ bs) e (suc i) = ascii bs (and_parts (small b) (list_all small bs) e).1 i

small_text : (bs : List ℕ) → list_all small bs ≡ true → IsUtf8 bs
small_text bs e = IsUtf8-from_ascii bs (ascii bs e)

-- what the script has of each statement
pub record IsOfScript (k : ℕ) (x : Statement) : Type 0 where
  pub session : (i : ℕ) × (slice_get first.script.sessions i ≡ Some x.session)
  pub number : x.number ≡ count_by (λ y. same_name y.session x.session) (take k (statements first.script)) + 1

of_script : (k : ℕ) (x : Statement) → slice_get (statements first.script) k ≡ Some x → IsOfScript k x
of_script zero x at = let same : first.create ≡ x = cc in subst (λ (y : Statement). IsOfScript 0 y) same (record { session = (0, refl); number = refl })
of_script (suc zero) x at = let same : first.import ≡ x = cc in subst (λ (y : Statement). IsOfScript 1 y) same (record { session = (0, refl); number = refl })
of_script (suc (suc zero)) x at = let same : first.select ≡ x = cc in subst (λ (y : Statement). IsOfScript 2 y) same (record { session = (0, refl); number = refl })
of_script (suc (suc (suc k))) x at = absurd cc

one_name : (i j : ℕ) (name : List ℕ) → slice_get first.script.sessions i ≡ Some name → slice_get first.script.sessions j ≡ Some name → i ≡ j
one_name zero zero name at_i at_j = refl
one_name zero (suc j) name at_i at_j = absurd cc
one_name (suc i) j name at_i at_j = absurd cc

has_sessions : HasSessions first.script
has_sessions = record {
  main = refl;
  distinct = one_name;
  named = (λ x stands. (of_script stands.0 x stands.1).session);
  numbered = (λ k x at. (of_script k x at).number);
}

-- the database after CREATE, and after IMPORT
abbrev created : RowDatabase
created = with_table (codes "t") first.schema empty_database

abbrev filled : RowDatabase
filled = with_chunk 0 (record { name = codes "t"; schema = first.schema; chunks = [] }) (first.row ∷ []) created

-- the commands of the first two statements
create_command : command_at first.create empty_database ≡ Ok (Create (codes "t") first.schema)
create_command = ap (λ read. text_command (λ rows. rows) read [] empty_database) create_parsed

text : is_utf8 (codes "a") ≡ true
text = is_utf8-from_IsUtf8 (codes "a") (small_text (codes "a") refl)

import_command : command_at first.import created ≡ Ok (Import (codes "t") (first.row ∷ []))
unfolding records_from strip_bom next_record
import_command = ap (λ read. text_command (λ rows. rows) read (codes "1,a\n") created) import_parsed ∙ rw text refl

-- no reply yet
empty_list : (i : ℕ) (rs : List Reply) → slice_get ([] ∷ []) i ≡ Some rs → rs ≡ []
empty_list zero rs at = let same : [] ≡ rs = cc in sym same
empty_list (suc i) rs at = absurd cc

-- each is the next statement of its session
next : (k : ℕ) (x : Statement) (rs : List Reply) → slice_get first.statements k ≡ Some x → codes "main" ≡ x.session → x.number ≡ length rs + 1 → IsNext first.script 0 (rs ∷ []) x 0 rs
next k x rs at session number = record {
  phase = first.statements;
  place = k;
  phase_is = refl;
  stands = at;
  session = ap (λ (name : List ℕ). Some name) session;
  replies_are = refl;
  number = number;
}

abbrev of_create : Reply
of_create = Done 1 (detail.Create (codes "t"))

abbrev of_import : Reply
of_import = Done 2 (detail.Import (codes "t") 1 1)

create_settles : (known : Type 0) (max : ℕ) → Settles first.create max known empty_database [] of_create created (first.made ∷ [])
create_settles known max = record {
  entry = first.made;
  names = record { session = refl; number = refl };
  told = refl;
  is_longer = refl;
  at_is = refl;
  command = Create (codes "t") first.schema;
  is = create_command;
  steps = refl;
  detail = refl;
}

created_is : created ≡ database_after first.script (first.made ∷ []) 1
created_is = database_settled first.script has_sessions 0 (Unit {0}) empty_database created [] (first.made ∷ []) first.create of_create refl (0, refl) (create_settles (Unit {0}) 0)

after_create : (known : Type 0) (max : ℕ) → LegalInPhase first.script max known 0 (first.made ∷ []) ((of_create ∷ []) ∷ [])
after_create known max = legal_settled first.script has_sessions max known 0 empty_database created [] (first.made ∷ []) ([] ∷ []) first.create 0 [] of_create
    (legal_start first.script has_sessions max known ([] ∷ []) refl empty_list) refl (next 0 first.create [] refl refl refl) (create_settles known max)

import_settles : (known : Type 0) (max : ℕ) → Settles first.import max known created (first.made ∷ []) of_import filled first.history
import_settles known max = record {
  entry = first.imported;
  names = record { session = refl; number = refl };
  told = refl;
  is_longer = refl;
  at_is = refl;
  command = Import (codes "t") (first.row ∷ []);
  is = import_command;
  steps = refl;
  detail = refl;
}

filled_is : filled ≡ database_after first.script first.history 2
filled_is = database_settled first.script has_sessions 0 (Unit {0}) created filled (first.made ∷ []) first.history first.import of_import created_is (1, refl) (import_settles (Unit {0}) 0)

after_import : (known : Type 0) (max : ℕ) → LegalInPhase first.script max known 0 first.history ((of_create ∷ of_import ∷ []) ∷ [])
after_import known max = legal_settled first.script has_sessions max known 0 created filled (first.made ∷ []) first.history ((of_create ∷ []) ∷ []) first.import 0 (of_create ∷ []) of_import
    (after_create known max) created_is (next 1 first.import (of_create ∷ []) refl refl refl) (import_settles known max)

-- the query of the third statement has no condition
abbrev heads : List TableHead
heads = heads_of filled selected.places

abbrev query : BoundQuery
query = bound_query selected heads

no_condition : cond_of selected.places heads cond_ast.Always ≡ Always
no_condition =
    ap (fold-CondAst Cond (cond_step selected.places heads)) (sym cond_ast.rolls-Always)
    ∙ fold-roll-CondAst Cond (cond_step selected.places heads) CondAst-F.Always

no_refusal : cond_refusal selected.places heads cond_ast.Always ≡ None
no_refusal =
    ap (fold-CondAst (Option Refusal) (refusal_step selected.places heads)) (sym cond_ast.rolls-Always)
    ∙ fold-roll-CondAst (Option Refusal) (refusal_step selected.places heads) CondAst-F.Always

-- nothing refuses it
select_unrefused : select_refusal selected filled ≡ None
select_unrefused = ap (λ (of_condition : Option Refusal). first_of (None ∷ first_of (first_of (None ∷ of_condition ∷ None ∷ None ∷ []) ∷ None ∷ None ∷ []) ∷ [])) no_refusal

select_bound : bound first.select filled ≡ Some query
select_bound = ap (λ tree. query_of (some_tree tree) filled) select_parsed ∙ ap (λ (r : Option Refusal). unless_refused r query) select_unrefused

select_early : early_refusal first.select filled ≡ None
select_early = ap (λ tree. text_refusal (λ rows. rows) tree [] filled) select_parsed ∙ select_unrefused

-- it lists the one row
abbrev combos : List (List (List Value))
combos = (first.row ∷ []) ∷ []

select_loops : loops query filled ≡ combos
select_loops = ap (λ (c : Cond). loops_over c combos) no_condition ∙ always_all combos

select_out : out query (loops query filled) ≡ first.rows
select_out = ap (λ (listed : List _). map (row_out query.items) listed) select_loops

select_allowed : (max : ℕ) → refusal first.select filled max ≡ None
select_allowed max =
    ap (λ (early : Option Refusal). option_or early (empty_refusal (bound first.select filled) filled)) select_early
    ∙ ap (λ (q : Option BoundQuery). empty_refusal q filled) select_bound
    ∙ ap (λ (listed : List _). if is_empty_aggregate query listed then Some EmptyAggregate else None) select_loops

select_answered : (known : Type 0) (max : ℕ) → Answered first.select filled max known first.rows
select_answered known max = record {
  query = query;
  is = select_bound;
  early = select_early;
  allowed = (λ told. select_allowed max);
  answer = (λ told. subst (λ rows. IsPermutation rows first.rows) (sym select_out) (IsPermutation-refl first.rows));
}

after_select : (known : Type 0) (max : ℕ) → LegalInPhase first.script max known 0 first.history (first.replies_at 2)
after_select known max = legal_settled first.script has_sessions max known 0 filled filled first.history first.history ((of_create ∷ of_import ∷ []) ∷ []) first.select 0
    (of_create ∷ of_import ∷ []) (Rows 2 first.rows) (after_import known max) filled_is (next 2 first.select (of_create ∷ of_import ∷ []) refl refl refl)
    (record { same_database = refl; same_history = refl; at_is = refl }, select_answered known max)

-- each statement has its reply
all_replied : AllReplied first.script (first.replies_at 2) 1
all_replied zero x at = let same : first.create ≡ x = cc in rw (sym same) refl
all_replied (suc zero) x at = let same : first.import ≡ x = cc in rw (sym same) refl
all_replied (suc (suc zero)) x at = let same : first.select ≡ x = cc in rw (sym same) refl
all_replied (suc (suc (suc k))) x at = absurd cc

pub met : (known : Type 0) (max : ℕ) → Legal first.script max known first.history (first.replies_at 2)
met known max = legal_end first.script has_sessions max known 0 first.history (first.replies_at 2) (after_select known max) all_replied

-- along the session the number of the query may not fall below that of its import
pub missed : (known : Type 0) (max : ℕ) → Legal first.script max known first.history (first.replies_at 1) → ⊥
missed known max legal =
    let behind : 2 ≤ 1 = legal.parts.along first.import first.select (Done 2 (detail.Import (codes "t") 1 1)) (Rows 1 first.rows)
    (1, refl) (2, refl) refl (omega arith) refl refl in omega arith

-- the databases along the history
after_one : database_after first.script first.history 1 ≡ created
after_one = database_after-kept first.script (first.made ∷ []) first.imported 1 (omega arith) ∙ sym created_is

after_two : (n : ℕ) → database_after first.script first.history (suc (suc n)) ≡ filled
after_two n = ap (λ (entries : List Entry). replay_from (λ rows. rows) first.script empty_database entries) (take_all (suc (suc n)) first.history (omega arith)) ∙ sym filled_is

-- the row fits the columns
row_fits : RowFits first.schema first.row
row_fits = (search rules, (record { short = omega arith; utf8 = small_text (codes "a") refl }, tt))

-- the chunk's pages are the one page
page_packed : IsPacked (((row_bytes first.schema first.row) ∷ []) ∷ [])
unfolding IsPacked
page_packed = (omega arith, omega arith, tt, tt)

pub page_is : AreHeapPages written_version first.schema (first.page ∷ []) (first.row ∷ [])
unfolding heap_pages_from
page_is = record {
  stored = (record { fits = row_fits; short = omega arith }, tt);
  parts = ((row_bytes first.schema first.row) ∷ []) ∷ [];
  packed = page_packed;
  slots = refl;
  numbered = refl;
}

-- a read of the page is of no page of the rows but that one
unforged : NoneForged written_version first.schema (first.row ∷ []) first.page_read
unforged pages are zero bytes at zero read landed digest =
    let same : pages ≡ first.page ∷ [] = pages_once written_version first.schema pages (first.page ∷ []) (first.row ∷ []) are page_is in
    let of_page : Some bytes ≡ Some first.page = sym at ∙ ap (λ ps. slice_get ps 0) same in
    let of_landing : Some (record { tag = 0; file = 1; page = 0; bytes = first.page }) ≡ Some read = landed in
    let of_read : read.bytes ≡ first.page = cc in cc
unforged pages are (suc page) bytes at zero read landed digest =
    let same : pages ≡ first.page ∷ [] = pages_once written_version first.schema pages (first.page ∷ []) (first.row ∷ []) are page_is in
    let none : Some bytes ≡ None = sym at ∙ ap (λ ps. slice_get ps (suc page)) same in absurd cc
unforged pages are page bytes at (suc place) read landed digest = absurd cc

-- the tables and chunks of the databases
abbrev table_with : List RowChunk → RowTable
table_with chunks = record { name = codes "t"; schema = first.schema; chunks = chunks }

abbrev only_chunk : RowChunk
only_chunk = record { number = 1; content = first.row ∷ [] }

none_in : (at : ℕ) (table : RowTable) (place : ℕ) (chunk : RowChunk) → slice_get (table_with [] ∷ []) at ≡ Some table → slice_get table.chunks place ≡ Some chunk → ⊥
none_in zero table place chunk stands has =
    let same : table_with [] ≡ table = cc in
    let none : slice_get (table_with []).chunks place ≡ Some chunk = ap (λ (t : RowTable). slice_get t.chunks place) same ∙ has in cc
none_in (suc at) table place chunk stands has = cc

unforged_in : (at : ℕ) (table : RowTable) (place : ℕ) (chunk : RowChunk) → slice_get (table_with (only_chunk ∷ []) ∷ []) at ≡ Some table → slice_get table.chunks place ≡ Some chunk
    → NoneForged written_version table.schema chunk.content first.page_read
unforged_in zero table zero chunk stands has =
    let of_table : table_with (only_chunk ∷ []) ≡ table = cc in
    let first_of : slice_get (table_with (only_chunk ∷ [])).chunks 0 ≡ Some chunk = ap (λ (t : RowTable). slice_get t.chunks 0) of_table ∙ has in
    let of_chunk : only_chunk ≡ chunk = cc in
    subst (λ (t : RowTable). NoneForged written_version t.schema chunk.content first.page_read) of_table
    (subst (λ (c : RowChunk). NoneForged written_version first.schema c.content first.page_read) of_chunk unforged)
unforged_in zero table (suc place) chunk stands has =
    let same : table_with (only_chunk ∷ []) ≡ table = cc in
    let none : slice_get (table_with (only_chunk ∷ [])).chunks (suc place) ≡ Some chunk = ap (λ (t : RowTable). slice_get t.chunks (suc place)) same ∙ has in absurd cc
unforged_in (suc at) table place chunk stands has = absurd cc

-- the premise of content is met by the read of the page
pub known_by_page : (n : ℕ) → NoneForgedIn (database_after first.script first.history n) first.page_read
known_by_page zero at table place chunk stands has = absurd cc
known_by_page (suc zero) at table place chunk stands has = absurd (none_in at table place chunk (rw after_one at stands) has)
known_by_page (suc (suc n)) at table place chunk stands has = unforged_in at table place chunk (rw (after_two n) at stands) has

pub known : Known false first.script first.history first.page_read
known = inr known_by_page

-- one row is not in the other's place
abbrev first_row : List Cell
first_row = Num (pos 1) ∷ Txt (codes "a") ∷ []

are_first : All (λ (cells : List Cell). cells ≡ first_row) first.rows
are_first zero d within = refl
are_first (suc k) d within = absurd (omega arith)

no_other : IsPermutation first.rows first.other_rows → ⊥
no_other moved =
    let same : Num (pos 2) ∷ Txt (codes "a") ∷ [] ≡ first_row
    = All-permutation (λ (cells : List Cell). cells ≡ first_row) first.rows first.other_rows moved are_first 0 [] (omega arith) in
    let number : ◌≡◌ {A = ℕ} 2 1 = cc in absurd (omega arith)

-- rows with another number are no answer
pub other_missed : (max : ℕ) → Legal first.script max (Known false first.script first.history first.page_read) first.history (first.replies_with 2 first.other_rows) → ⊥
other_missed max legal =
    let answered : Answered first.select (database_after first.script first.history 2) max (Known false first.script first.history first.page_read) first.other_rows
    = legal.parts.rows first.select 2 first.other_rows (2, refl) refl in
    let at_filled : Answered first.select filled max (Known false first.script first.history first.page_read) first.other_rows = rw (after_two 0) at answered in
    let of_query : Some at_filled.query ≡ Some query = sym at_filled.is ∙ select_bound in
    let same : at_filled.query ≡ query = cc in
    let answer : IsAnswer query filled first.other_rows = subst (λ q. IsAnswer q filled first.other_rows) same (at_filled.answer known) in
    no_other (subst (λ rows. IsPermutation rows first.other_rows) select_out answer)
