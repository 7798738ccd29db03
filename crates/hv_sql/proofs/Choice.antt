-- One of two grammars keeps the laws.
use Rattle.std.proofs.Common.{◌≡◌, ◌⊎◌, Bool, true, false, List, [], ◌∷◌, ◌++◌, refl, sym, ◌∙◌, ap, subst, inl, inr}
use Rattle.std.specs.Prelude.{Option, Some, None, Ok, Err, if◌then◌else◌}
use Rattle.std.proofs.lemmas.Bool.{cases_Bool, both_ways, false≢true, or_from, or_cases, or_parts}
use Rattle.hv_model.specs.declared.lexeme.Lexeme.{Lexeme}
use Rattle.hv_model.specs.declared.lexeme.What.{What}
use Rattle.hv_model.specs.declared.lexeme.Kind.{Kind}
use Rattle.hv_model.specs.Terminals.{kind, same_kind}
use Rattle.hv_model.specs.Grammar as g
use Rattle.hv_model.specs.Grammar.{Grammar, ◌or◌, gives, one, more}
use Rattle.hv_model.specs.Reading.{Reader, on_read, ◌>>=◌, gives_at, read_one, one_at, choose}
use Rattle.hv_sql.proofs.KindLaws.{same_one}
use Rattle.hv_sql.proofs.KindSets.{member, joined, when, Avoids, Begins, member-joined_left, member-joined_right, Within-Avoids, Within-Begins}
use Rattle.hv_sql.proofs.Lawful.{Took, Failed, Lawful, LawfulBy, head_is, ok_no_err, fault_is}

-- ---- one of two

pub no_front : (front : List Lexeme) (t : Lexeme) (us : List Lexeme) → [] ≡ front ++ t ∷ us → ⊥
no_front [] t us e = cc
no_front (s ∷ ss) t us e = cc

-- a reader that agrees with another takes and fails as it does
pub took_as : {A : Type 0} {R S : Grammar A} {p q : Reader A} {lexemes rest : List Lexeme} {a : A} → (took : Took S q lexemes rest a)
    → ((us vs : List Lexeme) (b : A) → S us vs b → R us vs b)
    → ((t : Lexeme) (us after : List Lexeme) → lexemes ≡ took.front ++ t ∷ us → p (took.front ++ t ∷ after) ≡ q (took.front ++ t ∷ after))
    → Took R p lexemes rest a
took_as {rest = rest} {a = a} took more agrees = record {
  front = took.front;
  is = took.is;
  whole = λ after. more (took.front ++ after) after a (took.whole after);
  same = λ t us after e. agrees t us after (took.is ∙ ap (λ z. took.front ++ z) e) ∙ took.same t us after e;
}

pub failed_as : {A : Type 0} {R S : Grammar A} {p q : Reader A} {lexemes at : List Lexeme} → (failed : Failed S q lexemes at)
    → ((us vs : List Lexeme) (b : A) → S us vs b → R us vs b)
    → ((t : Lexeme) (us after : List Lexeme) → lexemes ≡ failed.front ++ t ∷ us → p (failed.front ++ t ∷ after) ≡ q (failed.front ++ t ∷ after))
    → Failed R p lexemes at
failed_as {at = at} failed more agrees = record {
  front = failed.front;
  is = failed.is;
  more = failed.more;
  real = failed.real;
  whole = λ us e.
      let found = failed.whole us e in
      (found.0, λ after. more (failed.front ++ (us ++ after)) after found.0 (found.1 after));
  same = λ t us after e. agrees t us after (failed.is ∙ ap (λ z. failed.front ++ z) e) ∙ failed.same t us after e;
}

module _ {A : Type 0} (n : Kind) (p q : Reader A) where
  pub chosen_first : (t : Lexeme) (ts : List Lexeme) → (same_kind (kind t) n) ≡ true → choose n p q (t ∷ ts) ≡ p (t ∷ ts)
  chosen_first t ts e = ap (λ z. if z then p (t ∷ ts) else q (t ∷ ts)) e

  pub chosen_second : (t : Lexeme) (ts : List Lexeme) → (same_kind (kind t) n) ≡ false → choose n p q (t ∷ ts) ≡ q (t ∷ ts)
  chosen_second t ts e = ap (λ z. if z then p (t ∷ ts) else q (t ∷ ts)) e

  pub first_again : (s : Lexeme) (ss front : List Lexeme) (t : Lexeme) (us after : List Lexeme) → (same_kind (kind s) n) ≡ true → s ∷ ss ≡ front ++ t ∷ us
      → choose n p q (front ++ t ∷ after) ≡ p (front ++ t ∷ after)
  first_again s ss [] t us after k e = chosen_first t after (subst (λ z. (same_kind (kind z) n) ≡ true) (head_is s t ss us e) k)
  first_again s ss (f ∷ fs) t us after k e = chosen_first f (fs ++ t ∷ after) (subst (λ z. (same_kind (kind z) n) ≡ true) (head_is s f ss (fs ++ t ∷ us) e) k)

  pub second_again : (s : Lexeme) (ss front : List Lexeme) (t : Lexeme) (us after : List Lexeme) → (same_kind (kind s) n) ≡ false → s ∷ ss ≡ front ++ t ∷ us
      → choose n p q (front ++ t ∷ after) ≡ q (front ++ t ∷ after)
  second_again s ss [] t us after k e = chosen_second t after (subst (λ z. (same_kind (kind z) n) ≡ false) (head_is s t ss us e) k)
  second_again s ss (f ∷ fs) t us after k e = chosen_second f (fs ++ t ∷ after) (subst (λ z. (same_kind (kind z) n) ≡ false) (head_is s f ss (fs ++ t ∷ us) e) k)

  pub takes_first : (lexemes : List Lexeme) → Begins (n ∷ []) lexemes → choose n p q lexemes ≡ p lexemes
  takes_first [] b = absurd b
  takes_first (t ∷ ts) b = chosen_first t ts (elim (or_cases (same_kind (kind t) n) false b) [
    | inl e ↦ e
    | inr e ↦ absurd cc
  ])

  pub takes_second : (lexemes : List Lexeme) → Avoids (n ∷ []) lexemes → choose n p q lexemes ≡ q lexemes
  takes_second [] b = refl
  takes_second (t ∷ ts) b = chosen_second t ts (or_parts (same_kind (kind t) n) false b).0

  pub begins_other : (heads' : List Kind) → member n heads' ≡ false → (lexemes : List Lexeme) → Begins heads' lexemes → Avoids (n ∷ []) lexemes
  begins_other heads' h [] b = absurd b
  begins_other heads' h (t ∷ ts) b = or_from (same_kind (kind t) n) false (elim (cases_Bool (same_kind (kind t) n)) [
    | inl e ↦ absurd (both_ways _ h (subst (λ z. member z heads' ≡ true) (same_one (kind t) n e) b))
    | inr e ↦ e
  ]) refl

  module _ {good : What → Bool} {R S : Grammar A} {bars bars' heads' : List Kind} {empty' : Bool} {word word' : List What} (l : Lawful bars (n ∷ []) false word R p) (m : LawfulBy good bars' heads' empty' word' S q) where
    pub choose_reads : (lexemes rest : List Lexeme) (a : A) → choose n p q lexemes ≡ Ok (a, rest) → Took (R or S) (choose n p q) lexemes rest a
    choose_reads [] rest a e =
        let took = m.reads [] rest a e in
        took_as took (λ us vs b s. inr s) (λ t us after f. absurd (no_front took.front t us f))
    choose_reads (s ∷ ss) rest a e = elim (cases_Bool (same_kind (kind s) n)) [
      | inl k ↦ took_as (l.reads (s ∷ ss) rest a (sym (chosen_first s ss k) ∙ e)) (λ us vs b r. inl r)
          (λ t us after f. first_again s ss (l.reads (s ∷ ss) rest a (sym (chosen_first s ss k) ∙ e)).front t us after k f)
      | inr k ↦ took_as (m.reads (s ∷ ss) rest a (sym (chosen_second s ss k) ∙ e)) (λ us vs b r. inr r)
          (λ t us after f. second_again s ss (m.reads (s ∷ ss) rest a (sym (chosen_second s ss k) ∙ e)).front t us after k f)
    ]

    pub choose_starts : (lexemes rest : List Lexeme) (a : A) → (R or S) lexemes rest a → Begins (n ∷ heads') lexemes ⊎ ((lexemes ≡ rest) × (empty' ≡ true))
    choose_starts lexemes rest a (inl r) = elim (l.starts lexemes rest a r) [
      | inl s ↦ inl (Within-Begins (n ∷ []) (n ∷ heads') lexemes (λ k. member-joined_left k (n ∷ []) heads') s)
      | inr s ↦ absurd (false≢true s.1)
    ]
    choose_starts lexemes rest a (inr r) = elim (m.starts lexemes rest a r) [
      | inl s ↦ inl (Within-Begins heads' (n ∷ heads') lexemes (λ k. member-joined_right k (n ∷ []) heads') s)
      | inr s ↦ inr s
    ]

    pub choose_complete : member n heads' ≡ false → (lexemes rest : List Lexeme) (a : A) → (R or S) lexemes rest a
        → Avoids (joined (when empty' (n ∷ [])) (joined bars bars')) rest → choose n p q lexemes ≡ Ok (a, rest)
    choose_complete h lexemes rest a (inl r) s = elim (l.starts lexemes rest a r) [
      | inl b ↦ takes_first lexemes b ∙ l.complete lexemes rest a r (Within-Avoids bars (joined (when empty' (n ∷ [])) (joined bars bars')) rest
          (λ k e. member-joined_right k (when empty' (n ∷ [])) (joined bars bars') (member-joined_left k bars bars' e)) s)
      | inr b ↦ absurd (false≢true b.1)
    ]
    choose_complete h lexemes rest a (inr r) s = takes_second lexemes (go (m.starts lexemes rest a r)) ∙ m.complete lexemes rest a r
        (Within-Avoids bars' (joined (when empty' (n ∷ [])) (joined bars bars')) rest
        (λ k e. member-joined_right k (when empty' (n ∷ [])) (joined bars bars') (member-joined_right k bars bars' e)) s)
      where
        go : Begins heads' lexemes ⊎ ((lexemes ≡ rest) × (empty' ≡ true)) → Avoids (n ∷ []) lexemes
        go (inl b) = begins_other heads' h lexemes b
        go (inr b) = subst (Avoids (n ∷ [])) (sym b.0) (Within-Avoids (n ∷ []) (joined (n ∷ []) (joined bars bars')) rest
            (λ k e. member-joined_left k (n ∷ []) (joined bars bars') e)
            (subst (λ z. Avoids (joined (when z (n ∷ [])) (joined bars bars')) rest) b.1 s))

  module _ {R S : Grammar A} {bars bars' heads' : List Kind} {empty' : Bool} {word word' : List What} (l : Lawful bars (n ∷ []) false word R p) (m : Lawful bars' heads' empty' word' S q) where
    pub choose_fails : (lexemes at : List Lexeme) → choose n p q lexemes ≡ Err at → Failed (R or S) (choose n p q) lexemes at
    choose_fails [] at e =
        let failed = m.fails [] at e in
        failed_as failed (λ us vs b s. inr s) (λ t us after f. absurd (no_front failed.front t us f))
    choose_fails (s ∷ ss) at e = elim (cases_Bool (same_kind (kind s) n)) [
      | inl k ↦ failed_as (l.fails (s ∷ ss) at (sym (chosen_first s ss k) ∙ e)) (λ us vs b r. inl r)
          (λ t us after f. first_again s ss (l.fails (s ∷ ss) at (sym (chosen_first s ss k) ∙ e)).front t us after k f)
      | inr k ↦ failed_as (m.fails (s ∷ ss) at (sym (chosen_second s ss k) ∙ e)) (λ us vs b r. inr r)
          (λ t us after f. second_again s ss (m.fails (s ∷ ss) at (sym (chosen_second s ss k) ∙ e)).front t us after k f)
    ]

    -- the first begins with this kind, and the second never does
    pub choose_lawful : member n heads' ≡ false → Lawful (joined (when empty' (n ∷ [])) (joined bars bars')) (n ∷ heads') empty' word' (R or S) (choose n p q)
    choose_lawful h = record {
      complete = choose_complete l m h;
      starts = choose_starts l m;
      reads = choose_reads l m;
      fails = choose_fails;
      real = m.real;
      some = λ us e.
          let found = m.some us e in
          (found.0, λ after. inr (found.1 after));
    }

pub either : {A : Type 0} {R S : Grammar A} {n : Kind} {p q : Reader A} {bars bars' heads' : List Kind} {empty' : Bool} {word word' : List What} → Lawful bars (n ∷ []) false word R p → Lawful bars' heads' empty' word' S q
    → member n heads' ≡ false → Lawful (joined (when empty' (n ∷ [])) (joined bars bars')) (n ∷ heads') empty' word' (R or S) (choose n p q)
either {n = n} {p = p} {q = q} l m h = choose_lawful n p q l m h

-- ---- one of two, of which the second is one lexeme; by the first a front is completed

module _ {A B : Type 0} (test : Lexeme → Option B) (of : B → A) where
  -- the value of one lexeme
  abbrev pub valued : Grammar A
  valued = g.◌>>=◌ (one test) (λ b. gives (of b))

  abbrev pub valued_at : Reader A
  valued_at = one_at test >>= λ b. gives_at (of b)

  value_none : (o : Option B) (lexemes us at : List Lexeme) → on_read (λ b. gives_at (of b)) (read_one o lexemes us) ≡ Err at → (o ≡ None) × (lexemes ≡ at)
  value_none (Some b) lexemes us at e = absurd (ok_no_err (of b, us) at e)
  value_none None lexemes us at e = (refl, fault_is {A = A} lexemes at e)

  value_same : (t : Lexeme) (after : List Lexeme) → test t ≡ None → valued_at (t ∷ after) ≡ Err (t ∷ after)
  value_same t after e = ap (λ z. on_read (λ b. gives_at (of b)) (read_one z (t ∷ after) after)) e

  module _ {n : Kind} {p : Reader A} {R : Grammar A} {bars : List Kind} {word : List What} (l : Lawful bars (n ∷ []) false word R p) where
    -- a fault at once, completed by the first
    at_once : (lexemes at : List Lexeme) → lexemes ≡ at → ((t : Lexeme) (us after : List Lexeme) → lexemes ≡ t ∷ us → choose n p valued_at (t ∷ after) ≡ Err (t ∷ after))
        → Failed (R or valued) (choose n p valued_at) lexemes at
    at_once lexemes at e fails = record {
      front = [];
      is = e;
      more = word;
      real = l.real;
      whole = λ us f.
          let found = l.some us f in
          (found.0, λ after. inl (found.1 after));
      same = λ t us after f. fails t us after (e ∙ f);
    }

    value_fails : (lexemes at : List Lexeme) → choose n p valued_at lexemes ≡ Err at → Failed (R or valued) (choose n p valued_at) lexemes at
    value_fails [] at e = at_once [] at (fault_is {A = A} [] at e) (λ t us after f. absurd (no_front [] t us f))
    value_fails (s ∷ ss) at e = elim (cases_Bool (same_kind (kind s) n)) [
      | inl k ↦ failed_as (l.fails (s ∷ ss) at (sym (chosen_first n p valued_at s ss k) ∙ e)) (λ us vs b r. inl r)
          (λ t us after f. first_again n p valued_at s ss (l.fails (s ∷ ss) at (sym (chosen_first n p valued_at s ss k) ∙ e)).front t us after k f)
      | inr k ↦
          let both = value_none (test s) (s ∷ ss) ss at (sym (chosen_second n p valued_at s ss k) ∙ e) in
          at_once (s ∷ ss) at both.1 (λ t us after f.
          chosen_second n p valued_at t after (subst (λ z. (same_kind (kind z) n) ≡ false) (head_is s t ss us f) k)
          ∙ value_same t after (subst (λ z. test z ≡ None) (head_is s t ss us f) both.0))
    ]

    pub either_one : {good : What → Bool} {bars' heads' : List Kind} {empty' : Bool} {word' : List What} → LawfulBy good bars' heads' empty' word' valued valued_at → member n heads' ≡ false
        → Lawful (joined (when empty' (n ∷ [])) (joined bars bars')) (n ∷ heads') empty' word (R or valued) (choose n p valued_at)
    either_one m h = record {
      complete = choose_complete n p valued_at l m h;
      starts = choose_starts n p valued_at l m;
      reads = choose_reads n p valued_at l m;
      fails = value_fails;
      real = l.real;
      some = λ us e.
          let found = l.some us e in
          (found.0, λ after. inl (found.1 after));
    }
