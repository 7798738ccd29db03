-- Sets of kinds: of lexemes that may begin a tree, or may not follow one.
use Rattle.std.proofs.Common.{◌≡◌, ◌⊎◌, Bool, true, false, not, ◌&&◌, ◌||◌, List, [], ◌∷◌, refl, sym, subst, inl, inr}
use Rattle.std.proofs.lemmas.Bool.{cases_Bool, both_ways, not-true, or_left, or_right, or_from, or_cases, or_parts, and_parts}
use Rattle.hv_model.specs.declared.lexeme.Lexeme.{Lexeme}
use Rattle.hv_model.specs.declared.lexeme.Kind.{Kind}
use Rattle.hv_model.specs.Terminals.{kind, same_kind}
use Rattle.hv_sql.proofs.KindLaws.{same_one}

-- ---- sets of kinds

abbrev pub member : Kind → List Kind → Bool
member k [] = false
member k (n ∷ ns) = same_kind k n || member k ns

-- the one and the other
abbrev pub joined : List Kind → List Kind → List Kind
joined [] ms = ms
joined (n ∷ ns) ms = n ∷ joined ns ms

-- none of the one is in the other
abbrev pub apart : List Kind → List Kind → Bool
apart [] ms = true
apart (n ∷ ns) ms = not (member n ms) && apart ns ms

-- all of the one are in the other
abbrev pub within : List Kind → List Kind → Bool
within [] ms = true
within (n ∷ ns) ms = member n ms && within ns ms

abbrev pub when : Bool → List Kind → List Kind
when true ns = ns
when false ns = []

-- the next lexeme is of none of these kinds, if there is one
abbrev pub Avoids : List Kind → List Lexeme → Type 0
Avoids bars [] = Unit {0}
Avoids bars (t ∷ _) = member (kind t) bars ≡ false

-- the next lexeme is of one of these kinds
abbrev pub Begins : List Kind → List Lexeme → Type 0
Begins heads [] = ⊥
Begins heads (t ∷ _) = member (kind t) heads ≡ true

-- ---- sets

pub member-joined_left : (k : Kind) (ns ms : List Kind) → member k ns ≡ true → member k (joined ns ms) ≡ true
member-joined_left k [] ms h = absurd cc
member-joined_left k (n ∷ ns) ms h = elim (or_cases (same_kind k n) (member k ns) h) [
  | inl e ↦ or_left (same_kind k n) (member k (joined ns ms)) e
  | inr e ↦ or_right (same_kind k n) (member k (joined ns ms)) (member-joined_left k ns ms e)
]

pub member-joined_right : (k : Kind) (ns ms : List Kind) → member k ms ≡ true → member k (joined ns ms) ≡ true
member-joined_right k [] ms h = h
member-joined_right k (n ∷ ns) ms h = or_right (same_kind k n) (member k (joined ns ms)) (member-joined_right k ns ms h)

pub member-joined_cases : (k : Kind) (ns ms : List Kind) → member k (joined ns ms) ≡ true → (member k ns ≡ true) ⊎ (member k ms ≡ true)
member-joined_cases k [] ms h = inr h
member-joined_cases k (n ∷ ns) ms h = elim (or_cases (same_kind k n) (member k (joined ns ms)) h) [
  | inl e ↦ inl (or_left (same_kind k n) (member k ns) e)
  | inr e ↦ elim (member-joined_cases k ns ms e) [
    | inl f ↦ inl (or_right (same_kind k n) (member k ns) f)
    | inr f ↦ inr f
  ]
]

pub member-joined_neither : (k : Kind) (ns ms : List Kind) → member k (joined ns ms) ≡ false → (member k ns ≡ false) × (member k ms ≡ false)
member-joined_neither k [] ms h = (refl, h)
member-joined_neither k (n ∷ ns) ms h =
    let both = or_parts (same_kind k n) (member k (joined ns ms)) h in
    let more = member-joined_neither k ns ms both.1 in
    (or_from (same_kind k n) (member k ns) both.0 more.0, more.1)

pub apart-member : (k : Kind) (ns ms : List Kind) → apart ns ms ≡ true → member k ns ≡ true → member k ms ≡ false
apart-member k [] ms a h = absurd cc
apart-member k (n ∷ ns) ms a h =
    let both = and_parts (not (member n ms)) (apart ns ms) a in
    elim (or_cases (same_kind k n) (member k ns) h) [
      | inl e ↦ subst (λ z. member z ms ≡ false) (sym (same_one k n e)) (not-true (member n ms) both.0)
      | inr e ↦ apart-member k ns ms both.1 e
    ]

pub within-member : (k : Kind) (ns ms : List Kind) → within ns ms ≡ true → member k ns ≡ true → member k ms ≡ true
within-member k [] ms w h = absurd cc
within-member k (n ∷ ns) ms w h =
    let both = and_parts (member n ms) (within ns ms) w in
    elim (or_cases (same_kind k n) (member k ns) h) [
      | inl e ↦ subst (λ z. member z ms ≡ true) (sym (same_one k n e)) both.0
      | inr e ↦ within-member k ns ms both.1 e
    ]

-- every member of the one is a member of the other
abbrev pub Within : List Kind → List Kind → Type 0
Within ns ms = (k : Kind) → member k ns ≡ true → member k ms ≡ true

pub Within-Avoids : (ns ms : List Kind) (lexemes : List Lexeme) → Within ns ms → Avoids ms lexemes → Avoids ns lexemes
Within-Avoids ns ms [] w h = tt
Within-Avoids ns ms (t ∷ ts) w h = elim (cases_Bool (member (kind t) ns)) as (λ _. member (kind t) ns ≡ false) [
  | inl e ↦ absurd (both_ways _ h (w (kind t) e))
  | inr e ↦ e
]

pub Within-Begins : (ns ms : List Kind) (lexemes : List Lexeme) → Within ns ms → Begins ns lexemes → Begins ms lexemes
Within-Begins ns ms [] w h = h
Within-Begins ns ms (t ∷ ts) w h = w (kind t) h

pub apart-Avoids : (heads bars : List Kind) (lexemes : List Lexeme) → apart heads bars ≡ true → Begins heads lexemes → Avoids bars lexemes
apart-Avoids heads bars [] a h = absurd h
apart-Avoids heads bars (t ∷ ts) a h = apart-member (kind t) heads bars a h
