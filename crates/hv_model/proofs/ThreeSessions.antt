-- The outcome of the script of three sessions is legal, and isn't where the third tells a length from before its phase.
use Rattle.std.proofs.Common.{◌≡◌, ℕ, zero, suc, ◌+◌, ◌≤◌, List, [], ◌∷◌, take, count_by, Option, Some, Ok, Err, codes, refl, ap, sym, ◌∙◌, subst, arith, inl}
use Rattle.std.specs.List.{slice_get}
use Rattle.std.specs.Option.{option_or}
use Rattle.std.proofs.lemmas.Option.{same_Some}
use Rattle.hv_row.specs.Schema.{same_name}
use Rattle.hv_model.specs.declared.script.Statement.{Statement}
use Rattle.hv_model.specs.declared.catalogue.Detail.TheVariants as detail
use Rattle.hv_model.specs.declared.catalogue.Command.TheVariants.{Create}
use Rattle.hv_model.specs.declared.lexeme.Lexeme.{Lexeme}
use Rattle.hv_model.specs.declared.lexeme.What.{What}
use Rattle.hv_model.specs.declared.lexeme.What.TheVariants as what
use Rattle.hv_model.specs.declared.lexeme.Keyword.TheVariants as k
use Rattle.hv_model.specs.declared.lexeme.Symbol.TheVariants as s
use Rattle.hv_model.specs.declared.tree.Ast.{Ast}
use Rattle.hv_model.specs.declared.tree.Ast.TheVariants as ast
use Rattle.hv_model.specs.declared.reply.Reply.{Reply}
use Rattle.hv_model.specs.declared.reply.Reply.TheVariants.{Done, Refused}
use Rattle.hv_model.specs.declared.reply.Refusal.{Refusal}
use Rattle.hv_model.specs.declared.reply.Refusal.TheVariants.{Syntax, TableExists}
use Rattle.hv_model.specs.Lexemes.{is_symbol, is_run, is_lexeme, token_length, sort_of}
use Rattle.hv_model.specs.Lexed.{lexemes}
use Rattle.hv_model.specs.SqlReading.{column_type_at, column_at, create_at, select_at, statement_at, tree_at}
use Rattle.hv_model.specs.Parsed.{parsed}
use Rattle.hv_model.specs.Database.{RowDatabase, with_table, empty_database}
use Rattle.hv_model.specs.Command.{statements, command_at, early_refusal, empty_refusal, bound, database_after}
use Rattle.hv_model.specs.Legal.{session_place, Legal, IsRefusedFor}
use Rattle.hv_model.specs.Sessions.{HasSessions, AllReplied, LegalInPhase}
use Rattle.hv_model.specs.ThreeSessions as three
use Rattle.hv_model.proofs.SessionSteps.{legal_appended, legal_seen}
use Rattle.hv_model.proofs.SessionPhases.{legal_start, legal_next_phase, legal_end}

-- what the texts say
abbrev lexeme : What → ℕ → Lexeme
lexeme what byte = record { what = what; byte = byte }

abbrev create_lexemes : List Lexeme
create_lexemes =
    lexeme (what.Keyword k.Create) 0 ∷ lexeme (what.Keyword k.Table) 7 ∷ lexeme (what.Name (codes "t")) 13 ∷ lexeme (what.Symbol s.Open) 15
    ∷ lexeme (what.Name (codes "a")) 16 ∷ lexeme (what.Keyword k.Int) 18 ∷ lexeme (what.Symbol s.Close) 21 ∷ []

create_lexed : lexemes three.create.text ≡ create_lexemes
unfolding token_length is_lexeme is_run is_symbol sort_of
create_lexed = refl

abbrev create_tree : Ast
create_tree = ast.Create (record { name = codes "t"; byte = 13 }) three.schema

create_read : tree_at create_lexemes ≡ Ok create_tree
unfolding statement_at create_at column_at column_type_at
create_read = refl

create_parsed : parsed three.create.text ≡ Ok create_tree
create_parsed = rw create_lexed (rw create_read refl)

word_lexed : lexemes three.word.text ≡ lexeme (what.Name (codes "x")) 0 ∷ []
unfolding token_length is_lexeme is_run is_symbol sort_of
word_lexed = refl

word_read : tree_at (lexeme (what.Name (codes "x")) 0 ∷ []) ≡ Err (lexeme (what.Name (codes "x")) 0 ∷ [])
unfolding statement_at select_at
word_read = refl

word_parsed : parsed three.word.text ≡ Err 0
word_parsed = rw word_lexed (rw word_read refl)

-- what the script has of each statement
pub record IsOfScript (k : ℕ) (x : Statement) : Type 0 where
  pub session : (i : ℕ) × (slice_get three.script.sessions i ≡ Some x.session)
  pub number : x.number ≡ count_by (λ y. same_name y.session x.session) (take k (statements three.script)) + 1

of_script : (k : ℕ) (x : Statement) → slice_get (statements three.script) k ≡ Some x → IsOfScript k x
of_script zero x at = let same : three.create ≡ x = cc in subst (λ (y : Statement). IsOfScript 0 y) same (record { session = (0, refl); number = refl })
of_script (suc zero) x at = let same : three.create_again ≡ x = cc in subst (λ (y : Statement). IsOfScript 1 y) same (record { session = (1, refl); number = refl })
of_script (suc (suc zero)) x at = let same : three.word ≡ x = cc in subst (λ (y : Statement). IsOfScript 2 y) same (record { session = (2, refl); number = refl })
of_script (suc (suc (suc k))) x at = absurd cc

placed : (i : ℕ) (name : List ℕ) → slice_get three.script.sessions i ≡ Some name → session_place three.script name ≡ Some i
placed zero name at = let same : codes "main" ≡ name = cc in subst (λ (n : List ℕ). session_place three.script n ≡ Some 0) same refl
placed (suc zero) name at = let same : codes "b" ≡ name = cc in subst (λ (n : List ℕ). session_place three.script n ≡ Some 1) same refl
placed (suc (suc zero)) name at = let same : codes "c" ≡ name = cc in subst (λ (n : List ℕ). session_place three.script n ≡ Some 2) same refl
placed (suc (suc (suc i))) name at = absurd cc

differ : (i j : ℕ) (name : List ℕ) → slice_get three.script.sessions i ≡ Some name → slice_get three.script.sessions j ≡ Some name → i ≡ j
differ i j name at_i at_j = same_Some i j (sym (placed i name at_i) ∙ placed j name at_j)

has_sessions : HasSessions three.script
has_sessions = record {
  main = refl;
  distinct = differ;
  named = (λ x stands. (of_script stands.0 x stands.1).session);
  numbered = (λ k x at. (of_script k x at).number);
}

-- the database behind the one entry
abbrev created : RowDatabase
created = with_table (codes "t") three.schema empty_database

again_command : (s : RowDatabase) → command_at three.create_again s ≡ Ok (Create (codes "t") three.schema)
again_command s = rw create_parsed refl

after_made : database_after three.script three.history 1 ≡ created
after_made = rw create_parsed refl

-- the table stands there, and the last statement is none
stands_early : early_refusal three.create created ≡ Some TableExists
stands_early = rw create_parsed refl

word_early : early_refusal three.word created ≡ Some (Syntax 0)
word_early = rw word_parsed refl

refused : (max : ℕ) (known : Type 0) (x : Statement) (cause : Refusal) → early_refusal x created ≡ Some cause → IsRefusedFor x (database_after three.script three.history 1) max known cause
refused max known x cause early =
    rw after_made (record { told = (λ known. ap (λ (o : Option Refusal). option_or o (empty_refusal (bound x created) created)) early); cause_is = inl early })

-- no reply yet
empty_lists : (i : ℕ) (rs : List Reply) → slice_get ([] ∷ [] ∷ [] ∷ []) i ≡ Some rs → rs ≡ []
empty_lists zero rs at = let same : [] ≡ rs = cc in sym same
empty_lists (suc zero) rs at = let same : [] ≡ rs = cc in sym same
empty_lists (suc (suc zero)) rs at = let same : [] ≡ rs = cc in sym same
empty_lists (suc (suc (suc i))) rs at = absurd cc

-- the second session is served first, and makes the table
after_again : (max : ℕ) (known : Type 0) → LegalInPhase three.script max known 0 three.history ([] ∷ (Done 1 (detail.Create (codes "t")) ∷ []) ∷ [] ∷ [])
after_again max known =
    legal_appended three.script has_sessions max known 0 [] ([] ∷ [] ∷ [] ∷ []) three.create_again 1 [] three.made (legal_start three.script has_sessions max known ([] ∷ [] ∷ [] ∷ []) refl empty_lists)
    (record { phase = three.create ∷ three.create_again ∷ []; place = 1; phase_is = refl; stands = refl; session = refl; replies_are = refl; number = refl })
    (record { session = refl; number = refl })
    (record { command = Create (codes "t") three.schema; after = created; is = again_command empty_database; steps = refl; told = refl })

-- the first is refused then
after_refused : (max : ℕ) (known : Type 0) → LegalInPhase three.script max known 0 three.history ((Refused 1 TableExists ∷ []) ∷ (Done 1 (detail.Create (codes "t")) ∷ []) ∷ [] ∷ [])
after_refused max known =
    legal_seen three.script has_sessions max known 0 three.history ([] ∷ (Done 1 (detail.Create (codes "t")) ∷ []) ∷ [] ∷ []) three.create 0 [] (Refused 1 TableExists) (after_again max known)
    (record { phase = three.create ∷ three.create_again ∷ []; place = 0; phase_is = refl; stands = refl; session = refl; replies_are = refl; number = refl })
    refl (record { reached = omega arith; after_own = omega arith; after_phases = omega arith }) (refused max known three.create TableExists stands_early)

-- both statements of the first phase have their replies
first_phase : AllReplied three.script ((Refused 1 TableExists ∷ []) ∷ (Done 1 (detail.Create (codes "t")) ∷ []) ∷ [] ∷ []) 1
first_phase zero x at = let same : three.create ≡ x = cc in rw (sym same) refl
first_phase (suc zero) x at = let same : three.create_again ≡ x = cc in rw (sym same) refl
first_phase (suc (suc k)) x at = absurd cc

after_word : (max : ℕ) (known : Type 0) → LegalInPhase three.script max known 1 three.history (three.replies_at 1)
after_word max known =
    legal_seen three.script has_sessions max known 1 three.history ((Refused 1 TableExists ∷ []) ∷ (Done 1 (detail.Create (codes "t")) ∷ []) ∷ [] ∷ []) three.word 2 []
    (Refused 1 (Syntax 0))
    (legal_next_phase three.script has_sessions max known 0 three.history ((Refused 1 TableExists ∷ []) ∷ (Done 1 (detail.Create (codes "t")) ∷ []) ∷ [] ∷ []) (after_refused max known) first_phase)
    (record { phase = three.word ∷ []; place = 0; phase_is = refl; stands = refl; session = refl; replies_are = refl; number = refl })
    refl (record { reached = omega arith; after_own = omega arith; after_phases = omega arith }) (refused max known three.word (Syntax 0) word_early)

-- all statements
all_phases : AllReplied three.script (three.replies_at 1) 2
all_phases zero x at = let same : three.create ≡ x = cc in rw (sym same) refl
all_phases (suc zero) x at = let same : three.create_again ≡ x = cc in rw (sym same) refl
all_phases (suc (suc zero)) x at = let same : three.word ≡ x = cc in rw (sym same) refl
all_phases (suc (suc (suc k))) x at = absurd cc

pub met : (max : ℕ) (known : Type 0) → Legal three.script max known three.history (three.replies_at 1)
met max known = legal_end three.script has_sessions max known 1 three.history (three.replies_at 1) (after_word max known) all_phases

-- behind the barrier no statement tells a length from before it
pub missed : (max : ℕ) (known : Type 0) → Legal three.script max known three.history (three.replies_at 0) → ⊥
missed max known legal =
    let from : 1 ≤ 0 = (legal.parts.phases 1 0 (three.word ∷ []) three.word (Refused 0 (Syntax 0)) refl refl refl).0 in omega arith
