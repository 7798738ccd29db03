-- Lexemes that are neither SESSION name nor BARRIER are a statement that has a reply, or none.
use Rattle.std.proofs.Common.{◌≡◌, ℕ, Bool, true, false, List, [], ◌∷◌, Option, Some, None, refl, sym, ◌∙◌, ap, subst, inl, inr}
use Rattle.std.specs.Prelude.{Result, Ok, Err, if◌then◌else◌}
use Rattle.std.proofs.lemmas.Bool.{false≢true}
use Rattle.hv_model.specs.declared.lexeme.Lexeme.{Lexeme}
use Rattle.hv_model.specs.declared.lexeme.Keyword.{Keyword}
use Rattle.hv_model.specs.declared.lexeme.Keyword.TheVariants as k
use Rattle.hv_model.specs.declared.lexeme.Kind.{Kind}
use Rattle.hv_model.specs.declared.lexeme.Kind.TheVariants as kinds
use Rattle.hv_model.specs.declared.tree.Word.{Word}
use Rattle.hv_model.specs.declared.tree.Ast.{Ast}
use Rattle.hv_model.specs.declared.tree.Ast.TheVariants as ast
use Rattle.hv_model.specs.Terminals.{kind, same_kind, is_keyword, is_word}
use Rattle.hv_model.specs.Grammar.{one}
use Rattle.hv_model.specs.Sql.{create, import, purge, merge, session, barrier, select, statement}
use Rattle.hv_model.specs.SqlReading.{tree_at}
use Rattle.hv_model.specs.Parsed.{placed, some_tree}
use Rattle.hv_model.specs.Script.{has_reply}
use Rattle.hv_model.specs.Fault.{IsStatement}
use Rattle.hv_sql.specs.Marks.{one_word}
use Rattle.hv_sql.proofs.OneReading.{trees_sound, trees_complete}
use Rattle.hv_sql.proofs.KindLaws.{same_one}

-- a tree of a statement that has a reply
abbrev Replied : Ast → Type 0
Replied a = has_reply (Some a) ≡ true

of_create : (lexemes : List Lexeme) (a : Ast) → create lexemes [] a → Replied a
unfolding create
of_create lexemes a s = subst (λ (b : Ast). Replied b) s.second.second.second.second.second.second.1 refl

of_import : (lexemes : List Lexeme) (a : Ast) → import lexemes [] a → Replied a
unfolding import
of_import lexemes a s = subst (λ (b : Ast). Replied b) s.second.second.second.second.second.1 refl

of_purge : (lexemes : List Lexeme) (a : Ast) → purge lexemes [] a → Replied a
unfolding purge
of_purge lexemes a s = subst (λ (b : Ast). Replied b) s.second.second.second.second.second.1 refl

of_merge : (lexemes : List Lexeme) (a : Ast) → merge lexemes [] a → Replied a
unfolding merge
of_merge lexemes a s = subst (λ (b : Ast). Replied b) s.second.second.second.second.second.second.second.1 refl

of_select : (lexemes : List Lexeme) (a : Ast) → select lexemes [] a → Replied a
unfolding select
of_select lexemes a s = subst (λ (b : Ast). Replied b) s.second.second.second.second.second.second.second.1 refl

of_statement : (lexemes : List Lexeme) (a : Ast) → ((b : Ast) → session lexemes [] b → ⊥) → ((b : Ast) → barrier lexemes [] b → ⊥) → statement lexemes [] a → Replied a
unfolding statement
of_statement lexemes a f g (inl s) = of_create lexemes a s
of_statement lexemes a f g (inr (inl s)) = of_import lexemes a s
of_statement lexemes a f g (inr (inr (inl s))) = of_purge lexemes a s
of_statement lexemes a f g (inr (inr (inr (inl s)))) = of_merge lexemes a s
of_statement lexemes a f g (inr (inr (inr (inr (inl s))))) = absurd (f a s)
of_statement lexemes a f g (inr (inr (inr (inr (inr (inl s)))))) = absurd (g a s)
of_statement lexemes a f g (inr (inr (inr (inr (inr (inr s)))))) = of_select lexemes a s

-- so is the tree of lexemes, where they have one
pub replied : (lexemes : List Lexeme) (end : ℕ) → ((b : Ast) → session lexemes [] b → ⊥) → ((b : Ast) → barrier lexemes [] b → ⊥)
    → has_reply (some_tree (placed end (tree_at lexemes))) ≡ true
replied lexemes end f g = go (tree_at lexemes) refl
  where
    go : (r : Result Ast (List Lexeme)) → tree_at lexemes ≡ r → has_reply (some_tree (placed end r)) ≡ true
    go (Ok a) read = of_statement lexemes a f g (trees_sound lexemes a read)
    go (Err at) read = refl

-- ---- which lexemes are SESSION name, and which BARRIER

-- whether lexemes begin with this keyword
abbrev pub Starts : Keyword → List Lexeme → Type 0
Starts word [] = ⊥
Starts word (t ∷ _) = same_kind (kind t) (kinds.Keyword word) ≡ true

if_some : (b : Bool) (m n : ℕ) → ◌≡◌ {A = Option ℕ} (if b then Some m else None) (Some n) → b ≡ true
if_some true m n e = refl
if_some false m n e = absurd cc

starts : (word : Keyword) (lexemes rest : List Lexeme) (n : ℕ) → one (is_keyword word) lexemes rest n → Starts word lexemes
starts word [] rest n s = s
starts word (t ∷ ts) rest n s = if_some (same_kind (kind t) (kinds.Keyword word)) t.byte n s.0

session_starts : (lexemes : List Lexeme) (a : Ast) → session lexemes [] a → Starts k.Session lexemes
unfolding session
session_starts lexemes a s = starts k.Session lexemes s.middle s.value s.first

barrier_starts : (lexemes : List Lexeme) (a : Ast) → barrier lexemes [] a → Starts k.Barrier lexemes
unfolding barrier
barrier_starts lexemes a s = starts k.Barrier lexemes s.middle s.value s.first

-- behind SESSION stands one name
word_alone : (ts rest : List Lexeme) (w : Word) → one is_word ts rest w → rest ≡ [] → one_word ts ≡ Some w
word_alone [] rest w s e = absurd s
word_alone (t ∷ []) rest w s e = s.0
word_alone (t ∷ u ∷ us) rest w s e = absurd (cons_no_nil (s.1 ∙ e))
  where
    cons_no_nil : u ∷ us ≡ [] → ⊥
    cons_no_nil f = cc

session_word : (t : Lexeme) (ts : List Lexeme) (a : Ast) → session (t ∷ ts) [] a → (w : Word) × (one_word ts ≡ Some w)
unfolding session
session_word t ts a s =
    let named = s.second in
    (named.value, word_alone ts named.middle named.value (subst (λ us. one is_word us named.middle named.value) (sym s.first.1) named.first) named.second.0)

-- behind BARRIER stands nothing
barrier_alone : (t : Lexeme) (ts : List Lexeme) (a : Ast) → barrier (t ∷ ts) [] a → ts ≡ []
unfolding barrier
barrier_alone t ts a s = s.first.1 ∙ s.second.0

-- the tree of a text with these lexemes
abbrev pub tree_read : ℕ → List Lexeme → Option Ast
tree_read end lexemes = some_tree (placed end (tree_at lexemes))

pub statement_tree : (end : ℕ) (lexemes : List Lexeme) (a : Ast) → IsStatement lexemes a → tree_read end lexemes ≡ Some a
statement_tree end lexemes a s = ap (λ r. some_tree (placed end r)) (trees_complete lexemes a s)

keyword_read : (word : Keyword) (t : Lexeme) → same_kind (kind t) (kinds.Keyword word) ≡ true → is_keyword word t ≡ Some t.byte
keyword_read word t e = ap (λ (b : Bool). if b then Some t.byte else None) e

one_named : (ts : List Lexeme) (w : Word) → one_word ts ≡ Some w → one is_word ts [] w
one_named [] w e = absurd cc
one_named (t ∷ []) w e = (e, refl)
one_named (t ∷ u ∷ us) w e = absurd cc

is_session : (t : Lexeme) (ts : List Lexeme) (w : Word) → same_kind (kind t) (kinds.Keyword k.Session) ≡ true → one_word ts ≡ Some w → IsStatement (t ∷ ts) (ast.Session w)
unfolding statement session
is_session t ts w e f = inr (inr (inr (inr (inl (record {
  value = t.byte;
  middle = ts;
  first = (keyword_read k.Session t e, refl);
  second = record { value = w; middle = []; first = one_named ts w f; second = (refl, refl) };
})))))

is_barrier : (t : Lexeme) → same_kind (kind t) (kinds.Keyword k.Barrier) ≡ true → IsStatement (t ∷ []) ast.Barrier
unfolding statement barrier
is_barrier t e = inr (inr (inr (inr (inr (inl (record { value = t.byte; middle = []; first = (keyword_read k.Barrier t e, refl); second = (refl, refl) }))))))

-- two keywords are two kinds
session_no_barrier : (w : Kind) → same_kind w (kinds.Keyword k.Session) ≡ true → same_kind w (kinds.Keyword k.Barrier) ≡ true → ⊥
session_no_barrier w e f = apart (sym (same_one w (kinds.Keyword k.Session) e) ∙ same_one w (kinds.Keyword k.Barrier) f)
  where
    apart : kinds.Keyword k.Session ≡ kinds.Keyword k.Barrier → ⊥
    apart g = cc

-- ---- what a text with these lexemes is

pub session_tree : (end : ℕ) (t : Lexeme) (ts : List Lexeme) (w : Word) → Starts k.Session (t ∷ ts) → one_word ts ≡ Some w → tree_read end (t ∷ ts) ≡ Some (ast.Session w)
session_tree end t ts w e f = statement_tree end (t ∷ ts) (ast.Session w) (is_session t ts w e f)

pub barrier_tree : (end : ℕ) (t : Lexeme) → Starts k.Barrier (t ∷ []) → tree_read end (t ∷ []) ≡ Some ast.Barrier
barrier_tree end t e = statement_tree end (t ∷ []) ast.Barrier (is_barrier t e)

pub empty_replied : (end : ℕ) → has_reply (tree_read end []) ≡ true
empty_replied end = replied [] end (λ b s. session_starts [] b s) (λ b s. barrier_starts [] b s)

pub unnamed_replied : (end : ℕ) (t : Lexeme) (ts : List Lexeme) → Starts k.Session (t ∷ ts) → one_word ts ≡ None → has_reply (tree_read end (t ∷ ts)) ≡ true
unnamed_replied end t ts e f = replied (t ∷ ts) end
    (λ b s. none_some (session_word t ts b s).0 (sym f ∙ (session_word t ts b s).1))
    (λ b s. session_no_barrier (kind t) e (barrier_starts (t ∷ ts) b s))
  where
    none_some : (w : Word) → ◌≡◌ {A = Option Word} None (Some w) → ⊥
    none_some w g = cc

pub unended_replied : (end : ℕ) (t : Lexeme) (ts : List Lexeme) → same_kind (kind t) (kinds.Keyword k.Session) ≡ false → (ts ≡ [] → ⊥) → has_reply (tree_read end (t ∷ ts)) ≡ true
unended_replied end t ts e f = replied (t ∷ ts) end
    (λ b s. false≢true (sym e ∙ session_starts (t ∷ ts) b s))
    (λ b s. f (barrier_alone t ts b s))

pub other_replied : (end : ℕ) (t : Lexeme) (ts : List Lexeme) → same_kind (kind t) (kinds.Keyword k.Session) ≡ false
    → same_kind (kind t) (kinds.Keyword k.Barrier) ≡ false → has_reply (tree_read end (t ∷ ts)) ≡ true
other_replied end t ts e f = replied (t ∷ ts) end
    (λ b s. false≢true (sym e ∙ session_starts (t ∷ ts) b s))
    (λ b s. false≢true (sym f ∙ barrier_starts (t ∷ ts) b s))
