-- Laws that a grammar and its reader keep together: the reader gives exactly the trees of the grammar, and its faults are exact.
use Rattle.std.proofs.Common.{◌≡◌, ◌⊎◌, ℕ, Bool, true, false, List, [], ◌∷◌, ◌++◌, refl, sym, ◌∙◌, ap, subst, inl, inr}
use Rattle.std.specs.Prelude.{Option, Some, None, Ok, Err}
use Rattle.std.specs.List.{list_all}
use Rattle.hv_model.specs.declared.lexeme.Lexeme.{Lexeme}
use Rattle.hv_model.specs.declared.lexeme.What.{What}
use Rattle.hv_model.specs.declared.lexeme.Kind.{Kind}
use Rattle.hv_model.specs.Terminals.{kind, whats}
use Rattle.hv_sql.proofs.Plain.{is_plain}
use Rattle.hv_model.specs.Grammar.{Grammar, gives, one}
use Rattle.hv_model.specs.Reading.{Read, Reader, gives_at, read_one, one_at}
use Rattle.hv_sql.proofs.KindSets.{member, Avoids, Begins, Within, Within-Avoids, Within-Begins}

-- ---- results

-- the value and the rest of what was read, or others where nothing was
pub value_or : {A : Type 0} → A → Read A → A
value_or b (Ok x) = x.0
value_or b (Err _) = b

pub rest_or : {A : Type 0} → List Lexeme → Read A → List Lexeme
rest_or us (Ok x) = x.1
rest_or us (Err at) = at

pub value_is : {A : Type 0} (a b : A) (us vs : List Lexeme) → ◌≡◌ {A = Read A} (Ok (a, us)) (Ok (b, vs)) → a ≡ b
unfolding value_or
value_is a b us vs e = ap (value_or a) e

pub rest_is : {A : Type 0} (a b : A) (us vs : List Lexeme) → ◌≡◌ {A = Read A} (Ok (a, us)) (Ok (b, vs)) → us ≡ vs
unfolding rest_or
rest_is a b us vs e = ap (rest_or us) e

pub fault_is : {A : Type 0} (us vs : List Lexeme) → ◌≡◌ {A = Read A} (Err us) (Err vs) → us ≡ vs
unfolding rest_or
fault_is us vs e = ap (rest_or us) e

pub ok_no_err : {A : Type 0} (x : A × List Lexeme) (at : List Lexeme) → ◌≡◌ {A = Read A} (Ok x) (Err at) → ⊥
ok_no_err x at e = cc

pub nil_no_cons : (t : Lexeme) (us : List Lexeme) → [] ≡ t ∷ us → ⊥
nil_no_cons t us e = cc

-- ---- the laws

-- a reader took a front, which is an A before whatever follows; it sees one lexeme behind it and no more
pub record Took {A : Type 0} (R : Grammar A) (p : Reader A) (lexemes rest : List Lexeme) (a : A) : Type 0 where
  pub front : List Lexeme
  pub is : lexemes ≡ front ++ rest
  pub whole : (after : List Lexeme) → R (front ++ after) after a
  pub same : (t : Lexeme) (us after : List Lexeme) → rest ≡ t ∷ us → p (front ++ t ∷ after) ≡ Ok (a, t ∷ after)

-- a reader failed behind a front that some lexemes complete, each of which passes a test, and fails there whatever follows the lexeme at fault
pub record FailedBy {A : Type 0} (good : What → Bool) (R : Grammar A) (p : Reader A) (lexemes at : List Lexeme) : Type 0 where
  pub front : List Lexeme
  pub is : lexemes ≡ front ++ at
  pub more : List What
  pub real : list_all good more ≡ true
  pub whole : (us : List Lexeme) → whats us ≡ more → (value : A) × ((after : List Lexeme) → R (front ++ (us ++ after)) after value)
  pub same : (t : Lexeme) (us after : List Lexeme) → at ≡ t ∷ us → p (front ++ t ∷ after) ≡ Err (t ∷ after)

-- what is read of R by p: an A unless one of `bars` follows; an A begins with one of `heads`, or is no lexeme where it may be empty;
-- and lexemes that are `word`, wherever they stand, are an A; what completes a front passes a test
pub record LawfulBy {A : Type 0} (good : What → Bool) (bars heads : List Kind) (empty : Bool) (word : List What) (R : Grammar A) (p : Reader A) : Type 0 where
  pub complete : (lexemes rest : List Lexeme) (a : A) → R lexemes rest a → Avoids bars rest → p lexemes ≡ Ok (a, rest)
  pub starts : (lexemes rest : List Lexeme) (a : A) → R lexemes rest a → Begins heads lexemes ⊎ ((lexemes ≡ rest) × (empty ≡ true))
  pub reads : (lexemes rest : List Lexeme) (a : A) → p lexemes ≡ Ok (a, rest) → Took R p lexemes rest a
  pub fails : (lexemes at : List Lexeme) → p lexemes ≡ Err at → FailedBy good R p lexemes at
  pub real : list_all good word ≡ true
  pub some : (us : List Lexeme) → whats us ≡ word → (value : A) × ((after : List Lexeme) → R (us ++ after) after value)

-- the same where fronts are completed by lexemes that are written without quotes
abbrev pub Failed : {A : Type 0} → Grammar A → Reader A → List Lexeme → List Lexeme → Type 0
Failed R p lexemes at = FailedBy is_plain R p lexemes at

abbrev pub Lawful : {A : Type 0} → List Kind → List Kind → Bool → List What → Grammar A → Reader A → Type 0
Lawful bars heads empty word R p = LawfulBy is_plain bars heads empty word R p

-- more bars, more heads
pub weaken : {A : Type 0} {bars heads bars' heads' : List Kind} {empty empty' : Bool} {word : List What} {R : Grammar A} {p : Reader A}
    → Lawful bars heads empty word R p → Within bars bars' → Within heads heads' → (empty ≡ true → empty' ≡ true) → Lawful bars' heads' empty' word R p
weaken {A} {bars} {heads} {bars'} {heads'} l b h e = record {
  complete = λ lexemes rest a r s. l.complete lexemes rest a r (Within-Avoids bars bars' rest b s);
  starts = λ lexemes rest a r. elim (l.starts lexemes rest a r) [
    | inl s ↦ inl (Within-Begins heads heads' lexemes h s)
    | inr s ↦ inr (s.0, e s.1)
  ];
  reads = l.reads;
  fails = l.fails;
  real = l.real;
  some = l.some;
}

-- lexemes that are these, at byte 0
pub placed : List What → List Lexeme
placed [] = []
placed (w ∷ ws) = record { what = w; byte = 0 } ∷ placed ws

pub whats-placed : (ws : List What) → whats (placed ws) ≡ ws
unfolding placed
whats-placed [] = refl
whats-placed (w ∷ ws) = ap (λ z. w ∷ z) (whats-placed ws)

pub no_whats : (us : List Lexeme) → whats us ≡ [] → us ≡ []
no_whats [] e = refl
no_whats (t ∷ us) e = absurd cc

-- ---- no lexeme

pub gives_lawful : {A : Type 0} {good : What → Bool} (value : A) → LawfulBy good [] [] true [] (gives value) (gives_at value)
gives_lawful value = record {
  complete = λ lexemes rest a r s. ap (λ z. Ok (z, lexemes)) r.1 ∙ ap (λ z. Ok (a, z)) r.0;
  starts = λ lexemes rest a r. inr (r.0, refl);
  reads = λ lexemes rest a h. record {
    front = [];
    is = rest_is value a lexemes rest h;
    whole = λ after. (refl, value_is value a lexemes rest h);
    same = λ t us after e. ap (λ z. Ok (z, t ∷ after)) (value_is value a lexemes rest h);
  };
  fails = λ lexemes at h. absurd (ok_no_err (value, lexemes) at h);
  real = refl;
  some = λ us e. (value, λ after. (ap (λ z. z ++ after) (no_whats us e), refl));
}

-- ---- one lexeme

-- the kinds of which a test takes lexemes
abbrev pub OfKinds : {A : Type 0} → List Kind → (Lexeme → Option A) → Type 0
OfKinds {A} heads test = (t : Lexeme) (a : A) → test t ≡ Some a → member (kind t) heads ≡ true

pub read_some : {A : Type 0} (o : Option A) (a : A) (lexemes us rest : List Lexeme) → read_one o lexemes us ≡ Ok (a, rest) → (o ≡ Some a) × (us ≡ rest)
read_some (Some b) a lexemes us rest e = (ap Some (value_is b a us rest e), rest_is b a us rest e)
read_some None a lexemes us rest e = absurd (ok_no_err (a, rest) lexemes (sym e))

pub read_none : {A : Type 0} (o : Option A) (lexemes us at : List Lexeme) → read_one o lexemes us ≡ Err at → (o ≡ None) × (lexemes ≡ at)
read_none (Some b) lexemes us at e = absurd (ok_no_err (b, us) at e)
read_none {A} None lexemes us at e = (refl, fault_is {A = A} lexemes at e)

pub head_is : (t u : Lexeme) (ts us : List Lexeme) → t ∷ ts ≡ u ∷ us → t ≡ u
head_is t u ts us e = cc

pub one_complete : {A : Type 0} (test : Lexeme → Option A) (lexemes rest : List Lexeme) (a : A) → one test lexemes rest a → one_at test lexemes ≡ Ok (a, rest)
one_complete test [] rest a r = absurd r
one_complete test (t ∷ ts) rest a r = ap (λ z. read_one z (t ∷ ts) ts) r.0 ∙ ap (λ z. Ok (a, z)) r.1

pub one_starts : {A : Type 0} (heads : List Kind) (test : Lexeme → Option A) → OfKinds heads test → (lexemes rest : List Lexeme) (a : A) → one test lexemes rest a → Begins heads lexemes
one_starts heads test k [] rest a r = absurd r
one_starts heads test k (t ∷ ts) rest a r = k t a r.0

pub one_reads : {A : Type 0} (test : Lexeme → Option A) (lexemes rest : List Lexeme) (a : A) → one_at test lexemes ≡ Ok (a, rest) → Took (one test) (one_at test) lexemes rest a
one_reads test [] rest a e = absurd (ok_no_err (a, rest) [] (sym e))
one_reads test (t ∷ ts) rest a e =
    let both = read_some (test t) a (t ∷ ts) ts rest e in
    record {
      front = t ∷ [];
      is = ap (λ z. t ∷ z) both.1;
      whole = λ after. (both.0, refl);
      same = λ u us after _. ap (λ z. read_one z (t ∷ u ∷ after) (u ∷ after)) both.0;
    }

pub one_same : {A : Type 0} (test : Lexeme → Option A) (t : Lexeme) (after : List Lexeme) → test t ≡ None → one_at test (t ∷ after) ≡ Err (t ∷ after)
one_same test t after e = ap (λ z. read_one z (t ∷ after) after) e

-- what a test gives for what it is, wherever it stands
abbrev pub Holds : {A : Type 0} → (Lexeme → Option A) → What → Type 0
Holds {A} test w = (byte : ℕ) → (v : A) × (test (record { what = w; byte = byte }) ≡ Some v)

pub one_some : {A : Type 0} (test : Lexeme → Option A) (w : What) → Holds test w → (us : List Lexeme) → whats us ≡ w ∷ [] → (value : A) × ((after : List Lexeme) → one test (us ++ after) after value)
one_some test w holds [] e = absurd cc
one_some test w holds (t ∷ []) e =
    let found = holds t.byte in
    (found.0, λ after. (subst (λ z. test (record { what = z; byte = t.byte }) ≡ Some found.0) (sym (same e)) found.1, refl))
  where
    same : t.what ∷ [] ≡ w ∷ [] → t.what ≡ w
    same f = cc
one_some test w holds (t ∷ u ∷ us) e = absurd cc

pub one_fails : {A : Type 0} {good : What → Bool} (test : Lexeme → Option A) (w : What) → Holds test w → list_all good (w ∷ []) ≡ true
    → (lexemes at : List Lexeme) → one_at test lexemes ≡ Err at → FailedBy good (one test) (one_at test) lexemes at
one_fails {A} {good} test w holds real [] at e = record {
  front = [];
  is = fault_is {A = A} [] at e;
  more = w ∷ [];
  real = real;
  whole = one_some test w holds;
  same = λ t us after f. absurd (nil_no_cons t us (fault_is {A = A} [] at e ∙ f));
}
one_fails {A} {good} test w holds real (s ∷ ss) at e =
    let both = read_none (test s) (s ∷ ss) ss at e in
    record {
      front = [];
      is = both.1;
      more = w ∷ [];
      real = real;
      whole = one_some test w holds;
      same = λ t us after f. one_same test t after (subst (λ z. test z ≡ None) (head_is s t ss us (both.1 ∙ f)) both.0);
    }

-- a test of one lexeme, of these kinds, that w meets wherever it stands
pub one_lawful : {A : Type 0} {good : What → Bool} (heads : List Kind) (test : Lexeme → Option A) (w : What) → OfKinds heads test → Holds test w → list_all good (w ∷ []) ≡ true
    → LawfulBy good [] heads false (w ∷ []) (one test) (one_at test)
one_lawful heads test w k holds real = record {
  complete = λ lexemes rest a r s. one_complete test lexemes rest a r;
  starts = λ lexemes rest a r. inl (one_starts heads test k lexemes rest a r);
  reads = one_reads test;
  fails = one_fails test w holds real;
  real = real;
  some = one_some test w holds;
}
