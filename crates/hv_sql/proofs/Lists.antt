-- Lists, and what may be left out, keep the laws.
use Rattle.std.proofs.Common.{◌≡◌, ℕ, zero, suc, ◌<◌, ◌≤◌, ◌+◌, Bool, true, false, not, ◌&&◌, ◌||◌, List, [], ◌∷◌, ◌++◌, length, refl, sym, ◌∙◌, ap, subst, inl, inr, append-nil, length-append, arith}
use Rattle.std.specs.Prelude.{Some, None, Ok, Err, if◌then◌else◌}
use Rattle.std.proofs.lemmas.Bool.{both_ways, false≢true, or_left, or_right, or_cases}
use Rattle.std.proofs.lemmas.List.{append_cancel_right}
use Rattle.hv_model.specs.declared.lexeme.Lexeme.{Lexeme}
use Rattle.hv_model.specs.declared.lexeme.What.{What}
use Rattle.hv_model.specs.declared.lexeme.Kind.{Kind}
use Rattle.hv_model.specs.Terminals.{kind, same_kind}
use Rattle.hv_model.specs.Grammar.{Grammar, More, optional, given, more_up_to, more, list_of, list_of_up_to}
use Rattle.hv_model.specs.Reading.{Read, Reader, on_read, ◌>>=◌, gives_at, optional_at, given_at, more_up_to_at, more_at, list_of_at, list_of_up_to_at}
use Rattle.hv_sql.proofs.KindSets.{member, joined, apart, within, Avoids, Begins, member-joined_left, member-joined_cases, within-member, Within}
use Rattle.hv_sql.proofs.Lawful.{Took, Failed, Lawful, weaken, no_whats, gives_lawful}
use Rattle.hv_sql.proofs.Sequence.{seq, seq_}
use Rattle.hv_sql.proofs.Choice.{either}

-- ---- { S R }

pub apart-nil : (ns : List Kind) → apart ns [] ≡ true
apart-nil [] = refl
apart-nil (n ∷ ns) = apart-nil ns

pub member_nil : (k : Kind) → member k [] ≡ true → ⊥
member_nil k e = cc

pub loop_bars : (n : Kind) (bars : List Kind) → Within (n ∷ joined (joined bars (n ∷ joined bars [])) []) (n ∷ bars)
loop_bars n bars k h = elim (or_cases (same_kind k n) (member k (joined (joined bars (n ∷ joined bars [])) [])) h) [
  | inl e ↦ or_left (same_kind k n) (member k bars) e
  | inr e ↦ elim (member-joined_cases k (joined bars (n ∷ joined bars [])) [] e) [
    | inr f ↦ absurd (member_nil k f)
    | inl f ↦ elim (member-joined_cases k bars (n ∷ joined bars []) f) [
      | inl u ↦ or_right (same_kind k n) (member k bars) u
      | inr u ↦ elim (or_cases (same_kind k n) (member k (joined bars [])) u) [
        | inl v ↦ or_left (same_kind k n) (member k bars) v
        | inr v ↦ elim (member-joined_cases k bars [] v) [
          | inl w ↦ or_right (same_kind k n) (member k bars) w
          | inr w ↦ absurd (member_nil k w)
        ]
      ]
    ]
  ]
]

module _ {A B : Type 0} {S : Grammar B} {R : Grammar A} {n : Kind} {s : Reader B} {p : Reader A} {bars heads : List Kind} {sign word : List What}
    (mark : Lawful [] (n ∷ []) false sign S s) (l : Lawful bars heads false word R p) (h : member n bars ≡ false) where
  pub more_up_to_lawful : (room : ℕ) → Lawful (n ∷ bars) (n ∷ []) true [] (more_up_to room S R) (more_up_to_at room n s p)
  more_up_to_lawful zero = weaken (gives_lawful []) (λ k e. absurd (member_nil k e)) (λ k e. absurd (member_nil k e)) (λ e. e)
  more_up_to_lawful (suc room) =
      weaken
      (either (seq_ mark (seq l (λ x. seq (more_up_to_lawful room) (λ xs. gives_lawful (x ∷ xs)) refl) (ap (λ z. not z && true) h)) (apart-nil (joined heads []))) (gives_lawful []) refl)
      (loop_bars n bars) (λ k e. e) (λ e. e)

-- what was read is no longer than before; of what is never empty it is shorter
pub kept_length : {A : Type 0} {R : Grammar A} {p : Reader A} {lexemes rest : List Lexeme} {a : A} → Took R p lexemes rest a → length rest ≤ length lexemes
kept_length {rest = rest} took =
    let n = ap length took.is in
    omega (arith, n, length-append took.front rest)

pub front_some : (heads : List Kind) (front : List Lexeme) → Begins heads (front ++ []) → 0 < length front
front_some heads [] b = absurd b
front_some heads (t ∷ ts) b = omega arith

pub lost_length : {A : Type 0} {R : Grammar A} {p : Reader A} {bars heads : List Kind} {word : List What} {lexemes rest : List Lexeme} {a : A} → Lawful bars heads false word R p → Took R p lexemes rest a → length rest < length lexemes
lost_length {heads = heads} {rest = rest} {a = a} l took =
    let some : 0 < length took.front = elim (l.starts (took.front ++ []) [] a (took.whole [])) [
      | inl b ↦ front_some heads took.front b
      | inr e ↦ absurd (false≢true e.1)
    ] in
    let n = ap length took.is in
    omega (arith, n, length-append took.front rest)

module _ {A B : Type 0} {S : Grammar B} {R : Grammar A} {n : Kind} {s : Reader B} {p : Reader A} {bars heads : List Kind} {sign word : List What}
    (mark : Lawful [] (n ∷ []) false sign S s) (l : Lawful bars heads false word R p) (h : member n bars ≡ false) where
  -- more room than lexemes changes nothing
  room_enough : (room wide : ℕ) (lexemes : List Lexeme) → length lexemes ≤ room → length lexemes ≤ wide → more_up_to_at room n s p lexemes ≡ more_up_to_at wide n s p lexemes
  room_enough zero zero lexemes f g = refl
  room_enough zero (suc wide) [] f g = refl
  room_enough zero (suc wide) (t ∷ ts) f g = absurd (omega arith)
  room_enough (suc room) zero [] f g = refl
  room_enough (suc room) zero (t ∷ ts) f g = absurd (omega arith)
  room_enough (suc room) (suc wide) [] f g = refl
  room_enough (suc room) (suc wide) (t ∷ ts) f g =
      ap (λ z. if same_kind (kind t) n then z else Ok ([], t ∷ ts)) (go (s (t ∷ ts)) refl (λ us e. room_enough room wide us (omega arith) (omega arith)))
    where
      turn : ℕ → A → Reader (List A)
      turn r x = more_up_to_at r n s p >>= λ xs. gives_at (x ∷ xs)

      last : (b : B) (us : List Lexeme) (r : Read A) → s (t ∷ ts) ≡ Ok (b, us) → p us ≡ r
          → ((vs : List Lexeme) → length vs < length (t ∷ ts) → more_up_to_at room n s p vs ≡ more_up_to_at wide n s p vs)
          → on_read (turn room) r ≡ on_read (turn wide) r
      last b us (Err at) e f more = refl
      last b us (Ok x) e f more = ap (on_read (λ xs. gives_at (x.0 ∷ xs))) (more x.1
          (let few = lost_length mark (mark.reads (t ∷ ts) us b e) in let kept = kept_length (l.reads us x.1 x.0 f) in omega arith))

      go : (r : Read B) → s (t ∷ ts) ≡ r → ((vs : List Lexeme) → length vs < length (t ∷ ts) → more_up_to_at room n s p vs ≡ more_up_to_at wide n s p vs)
          → on_read (λ _. p >>= turn room) r ≡ on_read (λ _. p >>= turn wide) r
      go (Err at) e more = refl
      go (Ok x) e more = last x.0 x.1 (p x.1) e refl more

  pub grows : (count : ℕ) (lexemes rest : List Lexeme) (xs : List A) → more_up_to count S R lexemes rest xs → more_up_to (suc count) S R lexemes rest xs
  grows zero lexemes rest xs r = inr r
  grows (suc count) lexemes rest xs (inr r) = inr r
  grows (suc count) lexemes rest xs (inl r) =
      let x = r.second in
      let more = x.second in
      inl (record {
        value = r.value;
        middle = r.middle;
        first = r.first;
        second = record {
          value = x.value;
          middle = x.middle;
          first = x.first;
          second = record {
            value = more.value;
            middle = more.middle;
            first = grows count x.middle more.middle more.value more.first;
            second = more.second;
          };
        };
      })

  -- as many as wanted may be allowed
  pub raised : (least count : ℕ) (lexemes rest : List Lexeme) (xs : List A) → more_up_to count S R lexemes rest xs → (room : ℕ) × (least ≤ room) × more_up_to room S R lexemes rest xs
  raised zero count lexemes rest xs r = (count, omega arith, r)
  raised (suc least) count lexemes rest xs r =
      let up = raised least count lexemes rest xs r in
      (suc up.0, omega (arith, up.1), grows up.0 lexemes rest xs up.2)

  pub bounded : (room : ℕ) → Lawful (n ∷ bars) (n ∷ []) true [] (more_up_to room S R) (more_up_to_at room n s p)
  bounded room = more_up_to_lawful mark l h room

  pub more_complete : (lexemes rest : List Lexeme) (xs : List A) → More S R lexemes rest xs → Avoids (n ∷ bars) rest → more_at n s p lexemes ≡ Ok (xs, rest)
  more_complete lexemes rest xs r a =
      let up = raised (length lexemes) r.count lexemes rest xs r.are in
      room_enough (length lexemes) up.0 lexemes (omega arith) up.1 ∙ (bounded up.0).complete lexemes rest xs up.2 a

  pub more_reads : (lexemes rest : List Lexeme) (xs : List A) → more_at n s p lexemes ≡ Ok (xs, rest) → Took (more S R) (more_at n s p) lexemes rest xs
  more_reads lexemes rest xs e =
      let took = (bounded (length lexemes)).reads lexemes rest xs e in
      record {
        front = took.front;
        is = took.is;
        whole = λ after. record { count = length lexemes; are = took.whole after };
        same = λ t us after f. again took.front took.is t us after f;
      }
    where
      again : (front : List Lexeme) → lexemes ≡ front ++ rest → (t : Lexeme) (us after : List Lexeme) → rest ≡ t ∷ us → more_at n s p (front ++ t ∷ after) ≡ Ok (xs, t ∷ after)
      again front is t us after f =
          let room = length lexemes + length (front ++ t ∷ after) in
          let took = (bounded room).reads lexemes rest xs (room_enough room (length lexemes) lexemes (omega arith) (omega arith) ∙ e) in
          room_enough (length (front ++ t ∷ after)) room (front ++ t ∷ after) (omega arith) (omega arith)
          ∙ subst (λ z. more_up_to_at room n s p (z ++ t ∷ after) ≡ Ok (xs, t ∷ after)) (append_cancel_right took.front front rest (sym took.is ∙ is)) (took.same t us after f)

  more_fails : (lexemes at : List Lexeme) → more_at n s p lexemes ≡ Err at → Failed (more S R) (more_at n s p) lexemes at
  more_fails lexemes at e =
      let failed = (bounded (length lexemes)).fails lexemes at e in
      record {
        front = failed.front;
        is = failed.is;
        more = failed.more;
        real = failed.real;
        whole = λ us e.
            let found = failed.whole us e in
            (found.0, λ after. record { count = length lexemes; are = found.1 after });
        same = λ t us after f. again failed.front failed.is t us after f;
      }
    where
      again : (front : List Lexeme) → lexemes ≡ front ++ at → (t : Lexeme) (us after : List Lexeme) → at ≡ t ∷ us → more_at n s p (front ++ t ∷ after) ≡ Err (t ∷ after)
      again front is t us after f =
          let room = length lexemes + length (front ++ t ∷ after) in
          let failed = (bounded room).fails lexemes at (room_enough room (length lexemes) lexemes (omega arith) (omega arith) ∙ e) in
          room_enough (length (front ++ t ∷ after)) room (front ++ t ∷ after) (omega arith) (omega arith)
          ∙ subst (λ z. more_up_to_at room n s p (z ++ t ∷ after) ≡ Err (t ∷ after)) (append_cancel_right failed.front front at (sym failed.is ∙ is)) (failed.same t us after f)

  pub more_lawful : Lawful (n ∷ bars) (n ∷ []) true [] (more S R) (more_at n s p)
  more_lawful = record {
    complete = more_complete;
    starts = λ lexemes rest xs r. (bounded r.count).starts lexemes rest xs r.are;
    reads = more_reads;
    fails = more_fails;
    real = refl;
    some = λ us e. ([], λ after. record { count = zero; are = (ap (λ z. z ++ after) (no_whats us e), refl) });
  }

-- more bars, more heads, as tests
pub fits : {A : Type 0} {bars heads bars' heads' : List Kind} {empty empty' : Bool} {word : List What} {R : Grammar A} {p : Reader A}
    → Lawful bars heads empty word R p → within bars bars' ≡ true → within heads heads' ≡ true → (not empty || empty') ≡ true → Lawful bars' heads' empty' word R p
fits {bars = bars} {heads = heads} {bars' = bars'} {heads' = heads'} {empty = empty} {empty' = empty'} l b h e =
    weaken l (λ k. within-member k bars bars' b) (λ k. within-member k heads heads' h) (λ f. elim (or_cases (not empty) empty' e) [
      | inl g ↦ absurd (both_ways (not empty) (ap not f) g)
      | inr g ↦ g
    ])

pub reword : {A : Type 0} {bars heads : List Kind} {empty : Bool} {word word' : List What} {R : Grammar A} {p : Reader A} → Lawful bars heads empty word R p → word ≡ word' → Lawful bars heads empty word' R p
reword {bars = bars} {heads = heads} {empty = empty} {R = R} {p = p} l e = subst (λ z. Lawful bars heads empty z R p) e l

-- ---- [ R ]

pub optional_lawful : {A : Type 0} {R : Grammar A} {n : Kind} {p : Reader A} {word : List What} → Lawful [] (n ∷ []) false word R p → Lawful (n ∷ []) (n ∷ []) true [] (optional R) (optional_at n p)
optional_lawful l = either (seq l (λ x. gives_lawful (Some x)) refl) (gives_lawful None) refl

pub given_lawful : {A : Type 0} {R : Grammar A} {n : Kind} {p : Reader A} {word : List What} → Lawful [] (n ∷ []) false word R p → Lawful (n ∷ []) (n ∷ []) true [] (given R) (given_at n p)
given_lawful l = either (seq_ l (gives_lawful true) refl) (gives_lawful false) refl

-- ---- R { S R }

pub list_bars : (n : Kind) (bars : List Kind) → Within (joined bars (n ∷ joined bars [])) (n ∷ bars)
list_bars n bars k h =
    loop_bars n bars k (or_right (same_kind k n) (member k (joined (joined bars (n ∷ joined bars [])) [])) (member-joined_left k (joined bars (n ∷ joined bars [])) [] h))

pub joined_nil : (ns : List Kind) → Within (joined ns []) ns
joined_nil ns k h = elim (member-joined_cases k ns [] h) [
  | inl e ↦ e
  | inr e ↦ absurd (member_nil k e)
]

module _ {A B : Type 0} {S : Grammar B} {R : Grammar A} {n : Kind} {s : Reader B} {p : Reader A} {bars heads : List Kind} {sign word : List What}
    (mark : Lawful [] (n ∷ []) false sign S s) (l : Lawful bars heads false word R p) (h : member n bars ≡ false) where
  pub list_of_lawful : Lawful (n ∷ bars) heads false word (list_of S R) (list_of_at n s p)
  list_of_lawful =
      reword (weaken (seq l (λ x. seq (more_lawful mark l h) (λ xs. gives_lawful (x ∷ xs)) refl) (ap (λ z. not z && true) h)) (list_bars n bars) (joined_nil heads) (λ e. e)) (append-nil word)

  pub list_of_up_to_lawful : (room : ℕ) → Lawful (n ∷ bars) heads false word (list_of_up_to room S R) (list_of_up_to_at room n s p)
  list_of_up_to_lawful room =
      reword (weaken (seq l (λ x. seq (more_up_to_lawful mark l h room) (λ xs. gives_lawful (x ∷ xs)) refl) (ap (λ z. not z && true) h)) (list_bars n bars) (joined_nil heads) (λ e. e)) (append-nil word)
