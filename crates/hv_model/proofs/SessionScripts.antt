-- A script with many sessions by places: its statements by session and number, and its phases as fronts of the text.
use Rattle.std.proofs.Common.{◌≡◌, ℕ, ◌+◌, ◌<◌, ◌≤◌, ◌==◌, Bool, true, cond, List, [], ◌∷◌, ◌++◌, length, take, drop, get_or, count_by, Some, inl, inr, refl, ap, sym, ◌∙◌, arith, le_of_lt, take-append-drop, take-take, take_at, length-append, lt-ltb}
use Rattle.std.specs.List.{slice_get, flat_map, position_or_len}
use Rattle.std.specs.Cmp.Lexicographic.{same_text}
use Rattle.std.proofs.lemmas.Bool.{cases_order, false_from_ne_true, and_parts}
use Rattle.std.proofs.lemmas.Bool.{eqb-true}
use Rattle.std.proofs.lemmas.Option.{slice_get_within, slice_get-get_or, get_or_from_slice_get}
use Rattle.std.proofs.lemmas.List.{append-nil, take_more, take-append-le}
use Rattle.std.proofs.Math.Seq.{take-append-add}
use Rattle.std.proofs.lemmas.List.Concat.{flat_map-append}
use Rattle.std.proofs.lemmas.List.Folds.{find_at}
use Rattle.std.proofs.lemmas.List.Sums.{position_or_len_is, sum_by-append}
use Rattle.hv_row.specs.Schema.{same_name}
use Rattle.hv_model.specs.declared.script.Statement.{Statement}
use Rattle.hv_model.specs.declared.script.Script.{Script}
use Rattle.hv_model.specs.declared.catalogue.Entry.{Entry}
use Rattle.hv_model.specs.Command.{statements, statement_named, is_named}
use Rattle.hv_model.specs.Legal.{session_place, Stands, Names}
use Rattle.hv_model.specs.Sessions.{AreNumbered, HasSessions, statements_before, count_before}
use Rattle.hv_model.proofs.Places.{slice_get-more, slice_get-front, slice_get-behind, count_at, count_front}
use Rattle.hv_model.proofs.Histories.{same_name-refl, named, same_at}

-- two names that pass the test are the same
pub same_name-true : (a b : List ℕ) → same_name a b ≡ true → a ≡ b
same_name-true a b e = same_text a b (sym e)

-- no statement is numbered, and one more that has its number is
pub numbered_none : AreNumbered []
numbered_none k x at = absurd cc

pub numbered_more : (xs : List Statement) (x : Statement) → AreNumbered xs → x.number ≡ count_by (λ y. same_name y.session x.session) xs + 1 → AreNumbered (xs ++ x ∷ [])
numbered_more xs x numbered number k y at =
    elim (slice_get-more xs x k y at) [
      | inl old ↦ (let below : k < length xs = old.below in rw (take-append-le k xs (x ∷ []) (le_of_lt below)) (numbered k y old.stands))
      | inr last ↦ (let front : take k (xs ++ x ∷ []) ≡ xs = rw last.at (take_at xs (x ∷ []) (length xs) refl) in
          rw (front, sym last.same) number)
    ]

-- along a session the numbers rise
pub numbers_rise : (s : Script) → HasSessions s → (j k : ℕ) (x y : Statement) → j < k → slice_get (statements s) j ≡ Some x → slice_get (statements s) k ≡ Some y
    → x.session ≡ y.session → x.number < y.number
numbers_rise s has j k x y below at_x at_y same =
    let own : x.number ≡ count_by (λ z. same_name z.session x.session) (take j (statements s)) + 1 = has.numbered j x at_x in
    let first : x.number ≡ count_by (λ z. same_name z.session y.session) (take j (statements s)) + 1 = rw same at own in
    let second : y.number ≡ count_by (λ z. same_name z.session y.session) (take k (statements s)) + 1 = has.numbered k y at_y in
    let counted : count_by (λ z. same_name z.session y.session) (take (j + 1) (statements s)) ≡ count_by (λ z. same_name z.session y.session) (take j (statements s)) + 1
    = count_at (λ z. same_name z.session y.session) (statements s) j x at_x (rw same (same_name-refl y.session)) in
    let more : count_by (λ z. same_name z.session y.session) (take (j + 1) (statements s)) ≤ count_by (λ z. same_name z.session y.session) (take k (statements s))
    = count_front (λ z. same_name z.session y.session) (statements s) (j + 1) k (omega arith) in
    omega arith

-- a session and a number stand at one place
pub same_place : (s : Script) → HasSessions s → (j k : ℕ) (x y : Statement) → slice_get (statements s) j ≡ Some x → slice_get (statements s) k ≡ Some y
    → x.session ≡ y.session → x.number ≡ y.number → j ≡ k
same_place s has j k x y at_x at_y session number =
    elim (cases_order j k) [
      | inl same ↦ same
      | inr apart ↦ elim apart [
        | inl below ↦ absurd (let less : x.number < y.number = numbers_rise s has j k x y below at_x at_y session in omega arith)
        | inr above ↦ absurd (let less : y.number < x.number = numbers_rise s has k j y x above at_y at_x (sym session) in omega arith)
      ]
    ]

-- and so they name one statement
pub same_statement : (s : Script) → HasSessions s → (x y : Statement) → Stands s x → Stands s y → x.session ≡ y.session → x.number ≡ y.number → x ≡ y
same_statement s has x y at_x at_y session number =
    same_at (statements s) at_x.0 at_y.0 x y at_x.1 at_y.1 (same_place s has at_y.0 at_x.0 y x at_y.1 at_x.1 (sym session) (sym number))

pub same_named : (s : Script) → HasSessions s → (e : Entry) (x y : Statement) → Stands s x → Stands s y → Names e x → Names e y → x ≡ y
same_named s has e x y at_x at_y names_x names_y = same_statement s has x y at_x at_y (sym names_x.session ∙ names_y.session) (sym names_x.number ∙ names_y.number)

-- numbers begin with 1
pub above_zero : (s : Script) → HasSessions s → (x : Statement) → Stands s x → 0 < x.number
above_zero s has x at = let n : x.number ≡ count_by (λ y. same_name y.session x.session) (take at.0 (statements s)) + 1 = has.numbered at.0 x at.1 in omega arith

-- an entry that passes the test at a statement names it
named-true : (e : Entry) (x : Statement) → is_named e x ≡ true → Names e x
named-true e x passes =
    let both = and_parts (same_name e.session x.session) (e.number == x.number) passes in
    record { session = same_name-true e.session x.session both.0; number = eqb-true e.number x.number both.1 }

-- an entry that names a statement of the script finds it
pub statement_named-is : (s : Script) → HasSessions s → (e : Entry) (x : Statement) → Stands s x → Names e x → statement_named s e ≡ Some x
statement_named-is s has e x stands names =
    let xs : List Statement = statements s in
    let within : stands.0 < length xs = slice_get_within xs stands.0 x stands.1 in
    let first : position_or_len (is_named e) xs ≡ stands.0 = position_or_len_is (is_named e) xs stands.0 x (le_of_lt within)
    (λ k below. false_from_ne_true (is_named e (get_or xs k x)) (λ passes.
    let other : Statement = get_or xs k x in
    let at : slice_get xs k ≡ Some other = slice_get-get_or xs k x (omega arith) in
    let found : Names e other = named-true e other passes in
    let same : k ≡ stands.0 = same_place s has k stands.0 other x at stands.1 (sym found.session ∙ names.session) (sym found.number ∙ names.number) in
    absurd (omega arith)))
    (λ in'. rw (get_or_from_slice_get xs stands.0 x x stands.1) (named e x names)) in
    find_at (is_named e) xs ∙ (rw first stands.1)

-- a session's name finds its place
pub session_place-is : (s : Script) → HasSessions s → (i : ℕ) (name : List ℕ) → slice_get s.sessions i ≡ Some name → session_place s name ≡ Some i
session_place-is s has i name at =
    let xs : List (List ℕ) = s.sessions in
    let within : i < length xs = slice_get_within xs i name at in
    let first : position_or_len (λ other. same_name other name) xs ≡ i = position_or_len_is (λ other. same_name other name) xs i name (le_of_lt within)
    (λ k below. false_from_ne_true (same_name (get_or xs k name) name) (λ passes.
    let is : get_or xs k name ≡ name = same_name-true (get_or xs k name) name passes in
    let here : slice_get xs k ≡ Some name = slice_get-get_or xs k name (omega arith) ∙ ap (λ (n : List ℕ). Some n) is in
    let same : k ≡ i = has.distinct k i name here at in
    absurd (omega arith)))
    (λ in'. rw (get_or_from_slice_get xs i name name at) (same_name-refl name)) in
    rw first (rw (lt-ltb i (length xs) within) refl)

-- the statements of a script are those of its first phases and of the others
statements_split : (s : Script) (p : ℕ) → statements s ≡ statements_before s p ++ flat_map (λ phase. phase) (drop p s.phases)
statements_split s p =
    sym (ap (λ (phases : List (List Statement)). flat_map (λ phase. phase) phases) (take-append-drop p s.phases)) ∙ flat_map-append (λ phase. phase) (take p s.phases) (drop p s.phases)

pub is_front : (s : Script) (p : ℕ) → statements_before s p ≡ take (length (statements_before s p)) (statements s)
is_front s p = rw (statements_split s p) (sym (take_at (statements_before s p) (flat_map (λ phase. phase) (drop p s.phases)) (length (statements_before s p)) refl))

-- a statement of the first phases is one of the script
pub before_stands : (s : Script) (p k : ℕ) (x : Statement) → slice_get (statements_before s p) k ≡ Some x → slice_get (statements s) k ≡ Some x
before_stands s p k x at = rw (statements_split s p) (slice_get-front (statements_before s p) (flat_map (λ phase. phase) (drop p s.phases)) k x at)

-- so fronts of the text that end in these phases are the same
pub taken_front : (s : Script) (p k : ℕ) → k ≤ length (statements_before s p) → take k (statements s) ≡ take k (statements_before s p)
taken_front s p k le = rw (statements_split s p) (take-append-le k (statements_before s p) (flat_map (λ phase. phase) (drop p s.phases)) le)

-- one phase more
pub before_more : (s : Script) (p : ℕ) (phase : List Statement) → slice_get s.phases p ≡ Some phase → statements_before s (p + 1) ≡ statements_before s p ++ phase
before_more s p phase at =
    let within : p < length s.phases = slice_get_within s.phases p phase at in
    let one : take (p + 1) s.phases ≡ take p s.phases ++ phase ∷ [] = take_more s.phases p phase within ∙ ap (λ (q : List Statement). take p s.phases ++ q ∷ []) (get_or_from_slice_get s.phases p phase phase at) in
    ap (λ (phases : List (List Statement)). flat_map (λ (q : List Statement). q) phases) one
    ∙ flat_map-append (λ (q : List Statement). q) (take p s.phases) (phase ∷ [])
    ∙ ap (λ (xs : List Statement). statements_before s p ++ xs) (append-nil phase)

-- more phases go on behind fewer
pub record GoesOn (xs ys : List Statement) : Type 0 where
  pub rest : List Statement
  pub is : ys ≡ xs ++ rest

pub before_goes_on : (s : Script) (p q : ℕ) → p ≤ q → GoesOn (statements_before s p) (statements_before s q)
before_goes_on s p q le =
    let phases : List (List Statement) = take q s.phases in
    let split : flat_map (λ (phase : List Statement). phase) phases ≡ flat_map (λ (phase : List Statement). phase) (take p phases) ++ flat_map (λ (phase : List Statement). phase) (drop p phases)
    = sym (ap (λ (some : List (List Statement)). flat_map (λ phase. phase) some) (take-append-drop p phases)) ∙ flat_map-append (λ phase. phase) (take p phases) (drop p phases) in
    record { rest = flat_map (λ phase. phase) (drop p phases); is = rw (take-take p q s.phases le) at split }

pub before_le : (s : Script) (p q : ℕ) → p ≤ q → length (statements_before s p) ≤ length (statements_before s q)
before_le s p q le =
    let on = before_goes_on s p q le in
    rw (on.is, length-append (statements_before s p) on.rest) (omega arith)

-- where a statement of a phase stands in the text
pub record IsInPhase (s : Script) (p : ℕ) (k : ℕ) (x : Statement) : Type 0 where
  pub stands : slice_get (statements s) k ≡ Some x
  pub from : length (statements_before s p) ≤ k
  pub below : k < length (statements_before s (p + 1))
  pub before : slice_get (statements_before s (p + 1)) k ≡ Some x

pub in_phase : (s : Script) (p j : ℕ) (phase : List Statement) (x : Statement) → slice_get s.phases p ≡ Some phase → slice_get phase j ≡ Some x
    → IsInPhase s p (length (statements_before s p) + j) x
in_phase s p j phase x at_p at_j =
    let here : slice_get (statements_before s (p + 1)) (length (statements_before s p) + j) ≡ Some x
    = rw (before_more s p phase at_p) (slice_get-behind (statements_before s p) phase j ∙ at_j) in
    record {
      stands = before_stands s (p + 1) (length (statements_before s p) + j) x here;
      from = omega arith;
      below = slice_get_within (statements_before s (p + 1)) (length (statements_before s p) + j) x here;
      before = here;
    }

-- a place of the text is in one phase
pub same_phase : (s : Script) (p q k : ℕ) (x y : Statement) → IsInPhase s p k x → IsInPhase s q k y → p ≡ q
same_phase s p q k x y first second =
    let a : length (statements_before s p) ≤ k = first.from in
    let b : k < length (statements_before s (p + 1)) = first.below in
    let c : length (statements_before s q) ≤ k = second.from in
    let d : k < length (statements_before s (q + 1)) = second.below in
    elim (cases_order p q) [
      | inl same ↦ same
      | inr apart ↦ elim apart [
        | inl below ↦ absurd (let le : length (statements_before s (p + 1)) ≤ length (statements_before s q) = before_le s (p + 1) q (omega arith) in omega arith)
        | inr above ↦ absurd (let le : length (statements_before s (q + 1)) ≤ length (statements_before s p) = before_le s (q + 1) p (omega arith) in omega arith)
      ]
    ]

-- a statement behind the first phases has a greater number than any of its session there
pub later_number : (s : Script) → HasSessions s → (p k : ℕ) (x : Statement) → length (statements_before s p) ≤ k → slice_get (statements s) k ≡ Some x
    → count_before s x.session p < x.number
later_number s has p k x from stands =
    let front : List Statement = statements_before s p in
    let number : x.number ≡ count_by (λ y. same_name y.session x.session) (take k (statements s)) + 1 = has.numbered k x stands in
    let fewer : count_by (λ y. same_name y.session x.session) (take (length front) (statements s)) ≤ count_by (λ y. same_name y.session x.session) (take k (statements s))
    = count_front (λ y. same_name y.session x.session) (statements s) (length front) k from in
    let same : count_before s x.session p ≡ count_by (λ y. same_name y.session x.session) (take (length front) (statements s))
    = ap (λ (xs : List Statement). count_by (λ y. same_name y.session x.session) xs) (is_front s p) in
    omega arith

-- a statement of the first phases is among its session's there
pub earlier_number : (s : Script) → HasSessions s → (p k : ℕ) (x : Statement) → slice_get (statements_before s p) k ≡ Some x → x.number ≤ count_before s x.session p
earlier_number s has p k x at =
    let front : List Statement = statements_before s p in
    let within : k < length front = slice_get_within front k x at in
    let stands : slice_get (statements s) k ≡ Some x = before_stands s p k x at in
    let number : x.number ≡ count_by (λ y. same_name y.session x.session) (take k (statements s)) + 1 = has.numbered k x stands in
    let one : count_by (λ y. same_name y.session x.session) (take (k + 1) (statements s)) ≡ count_by (λ y. same_name y.session x.session) (take k (statements s)) + 1
    = count_at (λ y. same_name y.session x.session) (statements s) k x stands (same_name-refl x.session) in
    let fewer : count_by (λ y. same_name y.session x.session) (take (k + 1) (statements s)) ≤ count_by (λ y. same_name y.session x.session) (take (length front) (statements s))
    = count_front (λ y. same_name y.session x.session) (statements s) (k + 1) (length front) (omega arith) in
    let same : count_before s x.session p ≡ count_by (λ y. same_name y.session x.session) (take (length front) (statements s))
    = ap (λ (xs : List Statement). count_by (λ y. same_name y.session x.session) xs) (is_front s p) in
    omega arith

-- a statement's number by its place in its phase
pub number_in_phase : (s : Script) → HasSessions s → (p j : ℕ) (phase : List Statement) (x : Statement) → slice_get s.phases p ≡ Some phase → slice_get phase j ≡ Some x
    → x.number ≡ count_before s x.session p + count_by (λ y. same_name y.session x.session) (take j phase) + 1
number_in_phase s has p j phase x at_p at_j =
    let front : List Statement = statements_before s p in
    let test : Statement → Bool = λ y. same_name y.session x.session in
    let place : IsInPhase s p (length front + j) x = in_phase s p j phase x at_p at_j in
    let number : x.number ≡ count_by test (take (length front + j) (statements s)) + 1 = has.numbered (length front + j) x place.stands in
    let within : length front + j < length (statements_before s (p + 1)) = place.below in
    let shorter : take (length front + j) (statements s) ≡ take (length front + j) (statements_before s (p + 1)) = taken_front s (p + 1) (length front + j) (le_of_lt within) in
    let parts : take (length front + j) (statements_before s (p + 1)) ≡ front ++ take j phase = rw (before_more s p phase at_p) (take-append-add front phase j) in
    let counted : count_by test (take (length front + j) (statements s)) ≡ count_before s x.session p + count_by test (take j phase)
    = ap (λ (xs : List Statement). count_by test xs) (shorter ∙ parts) ∙ sum_by-append (λ y. cond (test y) 1 0) front (take j phase) in
    omega arith
