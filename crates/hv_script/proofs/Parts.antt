-- Blanks, a text and lines are cut off bytes in one way.
use Rattle.std.proofs.Common.{◌≡◌, ◌⊎◌, inl, inr, ℕ, zero, suc, ◌+◌, ◌≤◌, Bool, true, false, not, ◌&&◌, cond, eqb, List, [], ◌∷◌, ◌++◌, length, Some, None, IsSome, is_some, refl, sym, ◌∙◌, subst, arith}
use Rattle.std.specs.List.{list_all}
use Rattle.hv_model.specs.Script.{is_blank, begins_unblank, quoted_behind, line_list, ends_line, TakesLines}
use Rattle.hv_script.proofs.LineCount.{open_line, line_one, line_cons, some_lines}

-- a byte is blank or not
blank_twice : (c : ℕ) (b rest : List ℕ) → list_all is_blank (c ∷ b) ≡ true → begins_unblank (c ∷ rest) ≡ true → ⊥
blank_twice c b rest = elim (is_blank c) as (λ v. (v && list_all is_blank b) ≡ true → not v ≡ true → ⊥) [ true ↦ λ h k. cc | false ↦ λ h k. cc ]

blank_tail : (c : ℕ) (b : List ℕ) → list_all is_blank (c ∷ b) ≡ true → list_all is_blank b ≡ true
blank_tail c b = elim (is_blank c) as (λ v. (v && list_all is_blank b) ≡ true → list_all is_blank b ≡ true) [ true ↦ λ h. h | false ↦ λ h. cc ]

-- what is behind blanks, and begins with no blank, is one
pub blanks_same : (a b xs ys : List ℕ) → list_all is_blank a ≡ true → list_all is_blank b ≡ true → begins_unblank xs ≡ true → begins_unblank ys ≡ true → a ++ xs ≡ b ++ ys → xs ≡ ys
blanks_same [] [] xs ys h k f g e = e
blanks_same [] (c ∷ b) xs ys h k f g e = absurd (blank_twice c b (b ++ ys) k (rw e at f))
blanks_same (c ∷ a) [] xs ys h k f g e = absurd (blank_twice c a (a ++ xs) h (rw (← e) at g))
blanks_same (c ∷ a) (d ∷ b) xs ys h k f g e =
    let tails : a ++ xs ≡ b ++ ys = cc in
    blanks_same a b xs ys (blank_tail c a h) (blank_tail d b k) f g tails

-- blank bytes hold none that is not
pub all_blank : (a xs : List ℕ) → list_all is_blank (a ++ xs) ≡ true → begins_unblank xs ≡ true → ⊥
all_blank [] [] h f = cc
all_blank [] (c ∷ xs) h f = blank_twice c xs xs h f
all_blank (c ∷ a) xs h f = all_blank a xs (blank_tail c (a ++ xs) h) f

pub begins_append : (xs ys : List ℕ) → begins_unblank xs ≡ true → begins_unblank (xs ++ ys) ≡ true
begins_append [] ys h = cc
begins_append (x ∷ xs) ys h = h

-- the first `;` outside quotes
not_mark : (q : Bool) (d : ℕ) (u : List ℕ) → quoted_behind q [] ≡ Some false → d ≡ 59 → quoted_behind q (d ∷ u) ≡ Some false → ⊥
not_mark true d u h e k = cc
not_mark false d u h e k = let none : None ≡ Some false = rw e at k in cc

-- the text in front of the first `;` outside quotes is one
pub text_same : (q : Bool) (t u x y : List ℕ) → quoted_behind q t ≡ Some false → quoted_behind q u ≡ Some false → t ++ 59 ∷ x ≡ u ++ 59 ∷ y → (t ≡ u) × (x ≡ y)
text_same q [] [] x y h k e = (refl, cc)
text_same q [] (d ∷ u) x y h k e = let mark : d ≡ 59 = cc in absurd (not_mark q d u h mark k)
text_same q (c ∷ t) [] x y h k e = let mark : c ≡ 59 = cc in absurd (not_mark q c t k mark h)
text_same q (c ∷ t) (d ∷ u) x y h k e =
    let first : d ≡ c = cc in
    let tails : t ++ 59 ∷ x ≡ u ++ 59 ∷ y = cc in
    let both : (t ≡ u) × (x ≡ y) =
    elim (eqb c 39) as (λ v.
    cond v (quoted_behind (not q) t) (cond (eqb c 59 && not q) None (quoted_behind q t)) ≡ Some false
    → cond v (quoted_behind (not q) u) (cond (eqb c 59 && not q) None (quoted_behind q u)) ≡ Some false → (t ≡ u) × (x ≡ y)) [
      | true ↦ λ a b. text_same (not q) t u x y a b tails
      | false ↦ elim (eqb c 59 && not q) as (λ v. cond v None (quoted_behind q t) ≡ Some false → cond v None (quoted_behind q u) ≡ Some false → (t ≡ u) × (x ≡ y)) [
        | true ↦ λ a b. cc
        | false ↦ λ a b. text_same q t u x y a b tails
      ]
    ] h (rw first at k) in
    let texts : t ≡ u = both.0 in
    (cc, both.1)

-- a text that a `;` ends is not one that none ends
pub text_ends : (q : Bool) (t x : List ℕ) → quoted_behind q t ≡ Some false → IsSome (quoted_behind q (t ++ 59 ∷ x)) → ⊥
text_ends true [] x h k = cc
text_ends false [] x h k = cc
text_ends q (c ∷ t) x h k =
    elim (eqb c 39) as (λ v.
    cond v (quoted_behind (not q) t) (cond (eqb c 59 && not q) None (quoted_behind q t)) ≡ Some false
    → is_some (cond v (quoted_behind (not q) (t ++ 59 ∷ x)) (cond (eqb c 59 && not q) None (quoted_behind q (t ++ 59 ∷ x)))) ≡ true → ⊥) [
      | true ↦ λ a b. text_ends (not q) t x a b
      | false ↦ elim (eqb c 59 && not q) as (λ v. cond v None (quoted_behind q t) ≡ Some false → is_some (cond v None (quoted_behind q (t ++ 59 ∷ x))) ≡ true → ⊥) [
        | true ↦ λ a b. cc
        | false ↦ λ a b. text_ends q t x a b
      ]
    ] h k

-- bytes that end a line end within none
ends_shut : (xs : List ℕ) → ends_line xs ≡ true → open_line xs ≡ false
ends_shut [] h = refl
ends_shut (x ∷ []) h = rw h refl
ends_shut (x ∷ y ∷ ys) h = ends_shut (y ∷ ys) h

-- one byte that is a line, and more of as many lines
one_more : (c d e : ℕ) (ys a b : List ℕ) → c ∷ a ≡ d ∷ e ∷ (ys ++ b) → length (line_list (c ∷ [])) ≡ length (line_list (d ∷ e ∷ ys))
    → (open_line (c ∷ []) ≡ false) ⊎ (a ≡ []) → ⊥
one_more c d e ys a b same n (inr none) = let some : a ≡ e ∷ (ys ++ b) = cc in cc
one_more c d e ys a b same n (inl shut) =
    let first : d ≡ c = cc in
    let more : length (line_list (d ∷ e ∷ ys)) ≡ cond (eqb c 10) 1 0 + length (line_list (e ∷ ys)) =
    subst (λ z. length (line_list (d ∷ e ∷ ys)) ≡ cond (eqb z 10) 1 0 + length (line_list (e ∷ ys))) first (line_cons d e ys) in
    elim (eqb c 10) as (λ v. not v ≡ false → length (line_list (d ∷ e ∷ ys)) ≡ cond v 1 0 + length (line_list (e ∷ ys)) → ⊥) [
      | true ↦ λ h k. omega (arith, line_one c, some_lines e ys)
      | false ↦ λ h k. cc
    ] shut more

-- the next lines, so many, are one
pub lines_same : (xs ys a b : List ℕ) → xs ++ a ≡ ys ++ b → length (line_list xs) ≡ length (line_list ys)
    → (open_line xs ≡ false) ⊎ (a ≡ []) → (open_line ys ≡ false) ⊎ (b ≡ []) → (xs ≡ ys) × (a ≡ b)
lines_same [] [] a b e n f g = (refl, e)
lines_same [] (y ∷ ys) a b e n f g = absurd (omega (arith, some_lines y ys))
lines_same (x ∷ xs) [] a b e n f g = absurd (omega (arith, some_lines x xs))
lines_same (x ∷ []) (y ∷ []) a b e n f g = (cc, cc)
lines_same (x ∷ []) (y ∷ z ∷ ys) a b e n f g = absurd (one_more x y z ys a b e n f)
lines_same (x ∷ z ∷ xs) (y ∷ []) a b e n f g = absurd (one_more y x z xs b a (sym e) (sym n) g)
lines_same (x ∷ v ∷ xs) (y ∷ w ∷ ys) a b e n f g =
    let first : y ≡ x = cc in
    let tails : (v ∷ xs) ++ a ≡ (w ∷ ys) ++ b = cc in
    let more : length (line_list (y ∷ w ∷ ys)) ≡ cond (eqb x 10) 1 0 + length (line_list (w ∷ ys)) =
    subst (λ z. length (line_list (y ∷ w ∷ ys)) ≡ cond (eqb z 10) 1 0 + length (line_list (w ∷ ys))) first (line_cons y w ys) in
    let both = lines_same (v ∷ xs) (w ∷ ys) a b tails (omega (arith, line_cons x v xs, more)) f g in
    let texts : v ∷ xs ≡ w ∷ ys = both.0 in
    (cc, both.1)

-- more bytes have no fewer lines
pub lines_grow : (xs ys : List ℕ) → length (line_list xs) ≤ length (line_list (xs ++ ys))
lines_grow [] ys = omega arith
lines_grow (x ∷ []) ys = omega (arith, line_one x, some_lines x ys)
lines_grow (x ∷ y ∷ xs) ys = omega (arith, line_cons x y xs, line_cons x y (xs ++ ys), lines_grow (y ∷ xs) ys)

whole_of : (w : ℕ) (lines after : List ℕ) → (ends_line lines ≡ true) ⊎ (after ≡ []) ⊎ (suc w ≡ 0) → (open_line lines ≡ false) ⊎ (after ≡ [])
whole_of w lines after (inl h) = inl (ends_shut lines h)
whole_of w lines after (inr (inl h)) = inr h
whole_of w lines after (inr (inr h)) = absurd (omega arith)

-- the data lines are one
pub data_same : (wanted : ℕ) (behind l m a b : List ℕ) → TakesLines wanted behind l a → TakesLines wanted behind m b → (l ≡ m) × (a ≡ b)
data_same zero behind l m a b t u = ((t.none refl).0 ∙ sym (u.none refl).0, (t.none refl).1 ∙ sym (u.none refl).1)
data_same (suc w) behind l m a b t u =
    lines_same l m a b (sym (t.some (omega arith)) ∙ u.some (omega arith)) (t.count ∙ sym u.count) (whole_of w l a t.whole) (whole_of w m b u.whole)
