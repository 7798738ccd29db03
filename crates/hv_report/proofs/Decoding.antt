-- Texts that tell what they are of, whatever follows them.
use Rattle.std.proofs.Common.{◌≡◌, ℕ, ◌+◌, ◌<◌, ◌≤◌, Bool, true, false, cond, List, [], ◌∷◌, ◌++◌, length, refl, sym, ap, ◌∙◌, append_assoc, arith, nat_eq}
use Rattle.std.specs.List.{All, AllZip, list_all}
use Rattle.std.proofs.lemmas.List.Elements.{All-head, All-tail, same_from_all_zip}
use Rattle.std.proofs.lemmas.Bool.{and_parts}
use Rattle.std.proofs.lemmas.Bool.Decides.{nat_tests}

-- no more bytes of this sort follow
abbrev pub Stops : (ℕ → Bool) → List ℕ → Type 0
Stops p [] = Unit {0}
Stops p (c ∷ _) = p c ≡ false

-- a byte of this sort comes first
abbrev pub Starts : (ℕ → Bool) → List ℕ → Type 0
Starts p [] = ⊥
Starts p (c ∷ _) = p c ≡ true

-- whatever follows
abbrev pub Anything : List ℕ → Type 0
Anything _ = Unit {0}

-- a text before what may follow it tells what it is of, and where it ends
abbrev pub Decodes : {A : Type 0} → (A → Type 0) → (A → List ℕ) → (List ℕ → Type 0) → (A → A → Type 0) → Type 0
Decodes {A} Good text Stop same = (a b : A) (x y : List ℕ) → Good a → Good b → Stop x → Stop y → text a ++ x ≡ text b ++ y → same a b × (x ≡ y)

-- the texts of items one after another, where the k-th begins them
pub record IsMany {A : Type 0} (text : ℕ → A → List ℕ) (many : ℕ → List A → List ℕ) : Type 0 where
  pub none : (k : ℕ) → many k [] ≡ []
  pub more : (k : ℕ) (a : A) (xs : List A) → many k (a ∷ xs) ≡ text k a ++ many (k + 1) xs

-- a first byte that can't be both
pub starts_or_stops : (p : ℕ → Bool) (x y : List ℕ) → Starts p x → Stops p y → x ≡ y → ⊥
starts_or_stops p [] y starts stops e = starts
starts_or_stops p (c ∷ x) [] starts stops e = cc
starts_or_stops p (c ∷ x) (d ∷ y) starts stops e = let same : c ≡ d = cc in let yes : p d ≡ true = rw same at starts in cc

-- what a text begins with, it begins with before any other
pub starts_append : (p : ℕ → Bool) (x y : List ℕ) → Starts p x → Starts p (x ++ y)
starts_append p [] y starts = absurd starts
starts_append p (c ∷ x) y starts = starts

-- a test that holds less often
not_here : (b d : Bool) → (d ≡ true → b ≡ true) → b ≡ false → d ≡ false
not_here b true h e = let yes : b ≡ true = h refl in cc
not_here b false h e = refl

-- fewer sorts follow
pub stops_weaker : (p q : ℕ → Bool) → ((c : ℕ) → q c ≡ true → p c ≡ true) → (x : List ℕ) → Stops p x → Stops q x
stops_weaker p q wider [] stops = tt
stops_weaker p q wider (c ∷ x) stops = not_here (p c) (q c) (wider c) stops

-- the longest run of bytes of a sort
pub run_told : (p : ℕ → Bool) → Decodes (λ a. list_all p a ≡ true) (λ a. a) (Stops p) (λ a b. a ≡ b)
run_told p [] [] x y all all' stops stops' e = (refl, e)
run_told p [] (d ∷ b) x y all all' stops stops' e =
    let first = and_parts (p d) (list_all p b) all' in
    absurd (starts_or_stops p (d ∷ (b ++ y)) x first.0 stops (sym e))
run_told p (c ∷ a) [] x y all all' stops stops' e =
    let first = and_parts (p c) (list_all p a) all in
    absurd (starts_or_stops p (c ∷ (a ++ x)) y first.0 stops' e)
run_told p (c ∷ a) (d ∷ b) x y all all' stops stops' e =
    let same : c ≡ d = cc in
    let rest : a ++ x ≡ b ++ y = cc in
    let told = run_told p a b x y (and_parts (p c) (list_all p a) all).1 (and_parts (p d) (list_all p b) all').1 stops stops' rest in
    let run : a ≡ b = told.0 in
    ((cc), told.1)

-- whether texts differ where both are spelt out
abbrev pub apart : List ℕ → List ℕ → Bool
apart [] y = false
apart (a ∷ x) [] = true
apart (a ∷ x) (b ∷ y) = cond (nat_eq a b) (apart x y) true

-- no text differs from itself
never_apart : (x : List ℕ) → apart x x ≡ false
never_apart [] = refl
never_apart (a ∷ x) = let same : nat_eq a a ≡ true = grind (arith, nat_tests) in rw same (never_apart x)

-- texts that differ so are not equal
pub differ : (x y : List ℕ) → apart x y ≡ true → x ≡ y → ⊥
differ x y told e = let same = never_apart y in let yes : apart y y ≡ true = rw e at told in cc

-- xs many items, each of which tells itself
pub by_count : {A : Type 0} (Good : A → Type 0) (text : ℕ → A → List ℕ) (many : ℕ → List A → List ℕ) (same : A → A → Type 0)
    → IsMany text many → ((k : ℕ) → Decodes Good (text k) Anything same)
    → (k : ℕ) (xs ys : List A) (x y : List ℕ) → length xs ≡ length ys → All Good xs → All Good ys → many k xs ++ x ≡ many k ys ++ y → AllZip same xs ys × (x ≡ y)
by_count Good text many same is one k [] [] x y count good good' e = (tt, rw (is.none k) at e)
by_count Good text many same is one k [] (b ∷ ys) x y count good good' e = absurd (omega arith)
by_count Good text many same is one k (a ∷ xs) [] x y count good good' e = absurd (omega arith)
by_count Good text many same is one k (a ∷ xs) (b ∷ ys) x y count good good' e =
    let first = one k a b (many (k + 1) xs ++ x) (many (k + 1) ys ++ y) (All-head Good a xs good) (All-head Good b ys good') tt tt
    (sym (append_assoc (text k a) (many (k + 1) xs) x) ∙ sym (ap (λ z. z ++ x) (is.more k a xs)) ∙ e ∙ ap (λ z. z ++ y) (is.more k b ys) ∙ append_assoc (text k b) (many (k + 1) ys) y) in
    let rest = by_count Good text many same is one (k + 1) xs ys x y (omega arith) (All-tail Good a xs good) (All-tail Good b ys good') first.1 in
    ((first.0, rest.0), rest.1)

-- items up to what no item begins with
pub until_end : {A : Type 0} (Good : A → Type 0) (text : ℕ → A → List ℕ) (many : ℕ → List A → List ℕ) (Stop End : List ℕ → Type 0) (same : A → A → Type 0) (p : ℕ → Bool) (limit : ℕ)
    → IsMany text many → ((k : ℕ) → Decodes Good (text k) Stop same)
    → ((k : ℕ) (a : A) → k < limit → Good a → Starts p (text k a)) → ((x : List ℕ) → End x → Stops p x) → ((k : ℕ) (xs : List A) (x : List ℕ) → End x → Stop (many k xs ++ x))
    → (k : ℕ) (xs ys : List A) (x y : List ℕ) → k + length xs ≤ limit → k + length ys ≤ limit → All Good xs → All Good ys → End x → End y
    → many k xs ++ x ≡ many k ys ++ y → AllZip same xs ys × (x ≡ y)
until_end Good text many Stop End same p limit is one starts ends stop k [] [] x y within within' good good' end end' e = (tt, rw (is.none k) at e)
until_end Good text many Stop End same p limit is one starts ends stop k [] (b ∷ ys) x y within within' good good' end end' e =
    let first = starts_append p (text k b) (many (k + 1) ys ++ y) (starts k b (omega arith) (All-head Good b ys good')) in
    absurd (starts_or_stops p _ x first (ends x end) (sym (append_assoc (text k b) (many (k + 1) ys) y) ∙ sym (ap (λ z. z ++ y) (is.more k b ys)) ∙ sym e ∙ ap (λ z. z ++ x) (is.none k)))
until_end Good text many Stop End same p limit is one starts ends stop k (a ∷ xs) [] x y within within' good good' end end' e =
    let first = starts_append p (text k a) (many (k + 1) xs ++ x) (starts k a (omega arith) (All-head Good a xs good)) in
    absurd (starts_or_stops p _ y first (ends y end') (sym (append_assoc (text k a) (many (k + 1) xs) x) ∙ sym (ap (λ z. z ++ x) (is.more k a xs)) ∙ e ∙ ap (λ z. z ++ y) (is.none k)))
until_end Good text many Stop End same p limit is one starts ends stop k (a ∷ xs) (b ∷ ys) x y within within' good good' end end' e =
    let first = one k a b (many (k + 1) xs ++ x) (many (k + 1) ys ++ y) (All-head Good a xs good) (All-head Good b ys good') (stop (k + 1) xs x end) (stop (k + 1) ys y end')
    (sym (append_assoc (text k a) (many (k + 1) xs) x) ∙ sym (ap (λ z. z ++ x) (is.more k a xs)) ∙ e ∙ ap (λ z. z ++ y) (is.more k b ys) ∙ append_assoc (text k b) (many (k + 1) ys) y) in
    let rest = until_end Good text many Stop End same p limit is one starts ends stop (k + 1) xs ys x y (omega arith) (omega arith) (All-tail Good a xs good) (All-tail Good b ys good') end end' first.1 in
    ((first.0, rest.0), rest.1)

-- equal place by place
pub zip_equal : {A : Type 0} (xs ys : List A) → AllZip (λ a b. a ≡ b) xs ys → xs ≡ ys
zip_equal xs ys h = sym (same_from_all_zip (λ a b. a ≡ b) xs ys h (λ a b e. sym e))
