-- Lexemes are one statement or have one fault, and the reading gives it.
use Rattle.std.proofs.Common.{◌≡◌, ◌⊎◌, ℕ, true, List, [], ◌∷◌, ◌++◌, refl, sym, ◌∙◌, ap, subst, inl, inr, append-nil, append_assoc}
use Rattle.std.specs.Prelude.{Result, Ok, Err}
use Rattle.std.specs.List.{list_all}
use Rattle.std.proofs.lemmas.Bool.{and_parts, eqb-true, false≢true}
use Rattle.hv_model.specs.Token.{is_name}
use Rattle.hv_model.specs.declared.lexeme.Lexeme.{Lexeme}
use Rattle.hv_model.specs.declared.lexeme.What.{What}
use Rattle.hv_model.specs.declared.lexeme.What.TheVariants as what
use Rattle.hv_model.specs.declared.tree.Ast.{Ast}
use Rattle.hv_model.specs.Terminals.{may_be}
use Rattle.hv_sql.proofs.Plain.{is_a, is_plain}
use Rattle.hv_model.specs.Reading.{Read}
use Rattle.hv_model.specs.Sql.{statement}
use Rattle.hv_model.specs.SqlReading.{statement_at}
use Rattle.hv_model.specs.Fault.{IsStatement, IsSyntaxFault, IsFaultBy}
use Rattle.hv_sql.specs.Laws.{OneTree, TreesSound, TreesComplete, FaultsSound, FaultsComplete, OneFault, NoFaultToo}
use Rattle.hv_model.specs.Reading.{ended, to_end}
use Rattle.hv_model.specs.SqlReading.{tree_at}
use Rattle.hv_sql.proofs.Lawful.{Took, Failed, placed, whats-placed, no_whats, rest_is, ok_no_err, nil_no_cons}
use Rattle.hv_sql.proofs.RuleLaws.{statement_lawful}

-- a statement is read to its end
read_whole : (lexemes : List Lexeme) (a : Ast) → IsStatement lexemes a → statement_at lexemes ≡ Ok (a, [])
read_whole lexemes a s = statement_lawful.complete lexemes [] a s tt

pub trees_complete : TreesComplete
trees_complete lexemes a s = ap to_end (read_whole lexemes a s)

pub ok_is : (a b : Ast) → ◌≡◌ {A = Result Ast (List Lexeme)} (Ok a) (Ok b) → a ≡ b
ok_is a b e = cc

pub err_is : (us vs : List Lexeme) → ◌≡◌ {A = Result Ast (List Lexeme)} (Err us) (Err vs) → us ≡ vs
err_is us vs e = cc

pub not_both : (a : Ast) (us : List Lexeme) → ◌≡◌ {A = Result Ast (List Lexeme)} (Ok a) (Err us) → ⊥
not_both a us e = cc

pub one_tree : OneTree
one_tree lexemes a b s t = ok_is a b (sym (trees_complete lexemes a s) ∙ trees_complete lexemes b t)

pub trees_sound : TreesSound
trees_sound lexemes a h = go (statement_at lexemes) refl h
  where
    over : (b : Ast) (rest : List Lexeme) → statement_at lexemes ≡ Ok (b, rest) → ended b rest ≡ Ok a → IsStatement lexemes a
    over b [] e f =
        let took = statement_lawful.reads lexemes [] b e in
        subst (λ z. IsStatement lexemes z) (ok_is b a f) (subst (λ z. IsStatement z b) (sym took.is) (took.whole []))
    over b (t ∷ us) e f = absurd (not_both a (t ∷ us) (sym f))

    go : (r : Read Ast) → statement_at lexemes ≡ r → to_end r ≡ Ok a → IsStatement lexemes a
    go (Ok x) e f = over x.0 x.1 e f
    go (Err us) e f = absurd (not_both a us (sym f))

-- what was read before more lexemes ends at a fault
fault_behind : (lexemes at : List Lexeme) (b : Ast) (t : Lexeme) (us : List Lexeme) → Took statement statement_at lexemes (t ∷ us) b → t ∷ us ≡ at → IsFaultBy is_plain lexemes at
fault_behind lexemes at b t us took e = record {
  front = took.front;
  is = took.is ∙ ap (λ z. took.front ++ z) e;
  more = [];
  real = refl;
  begins = λ vs f. (b, subst (λ z. IsStatement (took.front ++ z) b) (sym (no_whats vs f)) (took.whole []));
  ends = λ u vs after a f s. nil_no_cons u after (rest_is a b [] (u ∷ after) (sym (read_whole (took.front ++ u ∷ after) a s) ∙ took.same u vs after (e ∙ f)));
  short = λ f a s. nil_no_cons t us (sym (e ∙ f));
}

-- where the reading failed is a fault
fault_there : (lexemes at : List Lexeme) → statement_at lexemes ≡ Err at → Failed statement statement_at lexemes at → IsFaultBy is_plain lexemes at
fault_there lexemes at e failed = record {
  front = failed.front;
  is = failed.is;
  more = failed.more;
  real = failed.real;
  begins = λ vs f.
      let found = failed.whole vs f in
      (found.0, subst (λ z. IsStatement (failed.front ++ z) found.0) (append-nil vs) (found.1 []));
  ends = λ u vs after a f s. ok_no_err (a, []) (u ∷ after) (sym (read_whole (failed.front ++ u ∷ after) a s) ∙ failed.same u vs after f);
  short = λ f a s. ok_no_err (a, []) at (sym (read_whole lexemes a s) ∙ e);
}

-- what is told is a fault, of which words without quotes complete the front
pub plain_fault : (lexemes at : List Lexeme) → tree_at lexemes ≡ Err at → IsFaultBy is_plain lexemes at
plain_fault lexemes at h = go (statement_at lexemes) refl h
  where
    over : (b : Ast) (rest : List Lexeme) → statement_at lexemes ≡ Ok (b, rest) → ended b rest ≡ Err at → IsFaultBy is_plain lexemes at
    over b [] e f = absurd (not_both b at f)
    over b (t ∷ us) e f = fault_behind lexemes at b t us (statement_lawful.reads lexemes (t ∷ us) b e) (err_is (t ∷ us) at f)

    there : (us : List Lexeme) → statement_at lexemes ≡ Err us → us ≡ at → IsFaultBy is_plain lexemes at
    there us e f =
        let is : statement_at lexemes ≡ Err at = e ∙ ap (λ z. Err z) f in
        fault_there lexemes at is (statement_lawful.fails lexemes at is)

    go : (r : Read Ast) → statement_at lexemes ≡ r → to_end r ≡ Err at → IsFaultBy is_plain lexemes at
    go (Ok x) e f = over x.0 x.1 e f
    go (Err us) e f = there us e (err_is us at f)

-- such words may be in a text
name_real : (name : List ℕ) → is_a name ≡ true → is_name name ≡ true
name_real [] e = absurd (false≢true e)
name_real (b ∷ []) e = ap (λ (x : ℕ). is_name (x ∷ [])) (eqb-true b 97 e)
name_real (b ∷ c ∷ bs) e = absurd (false≢true e)

word_real : (w : What) → is_plain w ≡ true → may_be w ≡ true
word_real (what.Name name) e = name_real name e
word_real (what.Number value) e = ap (λ (x : ℕ). may_be (what.Number x)) (eqb-true value 0 e)
word_real (what.Text text) e = absurd (false≢true e)
word_real (what.Symbol s) e = refl
word_real (what.Keyword k) e = refl
word_real what.Other e = absurd (false≢true e)

words_real : (ws : List What) → list_all is_plain ws ≡ true → list_all may_be ws ≡ true
words_real [] e = refl
words_real (w ∷ ws) e =
    let parts = and_parts (is_plain w) (list_all is_plain ws) e in
    rw (word_real w parts.0) (words_real ws parts.1)

pub faults_sound : FaultsSound
faults_sound lexemes at h =
    let f = plain_fault lexemes at h in
    record { front = f.front; is = f.is; more = f.more; real = words_real f.more f.real; begins = f.begins; ends = f.ends; short = f.short }

pub no_fault_too : NoFaultToo
no_fault_too lexemes [] a s f = f.short refl a s
no_fault_too lexemes (t ∷ us) a s f = f.ends t us us a refl (subst (λ z. IsStatement z a) f.is s)

-- the one front goes on beyond the other
pub record Beyond (front other at : List Lexeme) : Type 0 where
  pub next : Lexeme
  pub behind : List Lexeme
  pub after : List Lexeme
  pub is : front ≡ other ++ next ∷ behind
  pub begins : at ≡ next ∷ after

fronts : (x y at other : List Lexeme) → x ++ at ≡ y ++ other → (at ≡ other) ⊎ (Beyond x y other ⊎ Beyond y x at)
fronts [] [] at other e = inl e
fronts [] (t ∷ ts) at other e = inr (inr (record { next = t; behind = ts; after = ts ++ other; is = refl; begins = e }))
fronts (s ∷ ss) [] at other e = inr (inl (record { next = s; behind = ss; after = ss ++ at; is = refl; begins = sym e }))
fronts (s ∷ ss) (t ∷ ts) at other e = go (fronts ss ts at other (tails e))
  where
    tails : s ∷ (ss ++ at) ≡ t ∷ (ts ++ other) → ss ++ at ≡ ts ++ other
    tails f = cc

    heads : s ∷ (ss ++ at) ≡ t ∷ (ts ++ other) → s ≡ t
    heads f = cc

    go : (at ≡ other) ⊎ (Beyond ss ts other ⊎ Beyond ts ss at) → (at ≡ other) ⊎ (Beyond (s ∷ ss) (t ∷ ts) other ⊎ Beyond (t ∷ ts) (s ∷ ss) at)
    go (inl f) = inl f
    go (inr (inl b)) = inr (inl (record { next = b.next; behind = b.behind; after = b.after; is = ap (λ z. s ∷ z) b.is ∙ ap (λ z. z ∷ (ts ++ b.next ∷ b.behind)) (heads e); begins = b.begins }))
    go (inr (inr b)) = inr (inr (record { next = b.next; behind = b.behind; after = b.after; is = ap (λ z. t ∷ z) b.is ∙ ap (λ z. z ∷ (ss ++ b.next ∷ b.behind)) (sym (heads e)); begins = b.begins }))

-- a statement that begins beyond a fault
beyond_fault : (lexemes at other : List Lexeme) (f : IsSyntaxFault lexemes at) (g : IsSyntaxFault lexemes other) → Beyond f.front g.front other → ⊥
beyond_fault lexemes at other f g b =
    let us = placed f.more in
    let found = f.begins us (whats-placed f.more) in
    g.ends b.next b.after (b.behind ++ us) found.0 b.begins
    (subst (λ z. IsStatement z found.0) (ap (λ z. z ++ us) b.is ∙ append_assoc g.front (b.next ∷ b.behind) us) found.1)

pub one_fault : OneFault
one_fault lexemes at other f g = elim (fronts f.front g.front at other (sym f.is ∙ g.is)) [
  | inl e ↦ e
  | inr (inl b) ↦ absurd (beyond_fault lexemes at other f g b)
  | inr (inr b) ↦ absurd (beyond_fault lexemes other at g f b)
]

pub faults_complete : FaultsComplete
faults_complete lexemes at f = go (tree_at lexemes) refl
  where
    there : (us : List Lexeme) → tree_at lexemes ≡ Err us → us ≡ at
    there us e = one_fault lexemes us at (faults_sound lexemes us e) f

    go : (r : Result Ast (List Lexeme)) → tree_at lexemes ≡ r → r ≡ Err at
    go (Ok a) e = absurd (no_fault_too lexemes at a (trees_sound lexemes a e) f)
    go (Err us) e = ap (λ z. Err z) (there us e)
