-- Parts of a bag and their rests.
use Rattle.std.proofs.Common.{ℕ, ◌≤◌, Bool, not, cond, List, [], ◌∷◌, ◌++◌, refl, ap, arith}
use Rattle.std.specs.List.{sum_by, filter}
use Rattle.std.proofs.lemmas.List.Filters.{sum_by-filter_both}
use Rattle.std.proofs.lemmas.List.Sums.{sum_by-append, sum_by-cons}
use Rattle.hv_bag.specs.Bag.{SameBag, PartOf, TellsApart, count}
use Rattle.hv_bag.proofs.Bags.{same_refl}
use Rattle.hv_bag.proofs.Counts.{count_more, count_itself, count_middle, stands_in}

-- a bag is a part of itself, and of each sum that begins with it
pub part_first : {X : Type 0} (xs ys : List X) → PartOf xs (xs ++ ys)
part_first xs ys = record { rest = ys; is = same_refl (xs ++ ys) }

pub part_itself : {X : Type 0} (xs : List X) → PartOf xs xs
part_itself xs = record { rest = []; is = record { weighs = λ w. omega (arith, sum_by-append w xs []) } }

-- an order, which ties equal bags alone
pub part_trans : {X : Type 0} (xs ys zs : List X) → PartOf xs ys → PartOf ys zs → PartOf xs zs
part_trans xs ys zs p q = record {
  rest = p.rest ++ q.rest;
  is = record {
    weighs = λ w. omega (
      arith,
      q.is.weighs w,
      sum_by-append w ys q.rest,
      p.is.weighs w,
      sum_by-append w xs p.rest,
      sum_by-append w xs (p.rest ++ q.rest),
      sum_by-append w p.rest q.rest,
    );
  };
}

pub part_weighs : {X : Type 0} (w : X → ℕ) (part whole : List X) → PartOf part whole → sum_by w part ≤ sum_by w whole
part_weighs w part whole p = omega (arith, p.is.weighs w, sum_by-append w part p.rest)

pub part_both : {X : Type 0} (xs ys : List X) → PartOf xs ys → PartOf ys xs → SameBag xs ys
part_both xs ys p q = record { weighs = λ w. omega (arith, part_weighs w xs ys p, part_weighs w ys xs q) }

-- parts are added, with their rests
pub part_append : {X : Type 0} (xs ys us vs : List X) → PartOf xs ys → PartOf us vs → PartOf (xs ++ us) (ys ++ vs)
part_append xs ys us vs p q = record {
  rest = p.rest ++ q.rest;
  is = record {
    weighs = λ w. omega (
      arith,
      p.is.weighs w,
      q.is.weighs w,
      sum_by-append w ys vs,
      sum_by-append w xs p.rest,
      sum_by-append w us q.rest,
      sum_by-append w (xs ++ us) (p.rest ++ q.rest),
      sum_by-append w xs us,
      sum_by-append w p.rest q.rest,
    );
  };
}

-- a part has one rest
pub one_rest : {X : Type 0} (whole part rest other : List X) → SameBag whole (part ++ rest) → SameBag whole (part ++ other) → SameBag rest other
one_rest whole part rest other h k =
    record { weighs = λ w. omega (arith, h.weighs w, k.weighs w, sum_by-append w part rest, sum_by-append w part other) }

-- what passes a test and what doesn't are the whole
pub same_parted : {X : Type 0} (p : X → Bool) (xs : List X) → SameBag xs (filter p xs ++ filter (λ x. not (p x)) xs)
same_parted p xs = record {
  weighs = λ w. omega (
    arith,
    sum_by-append w (filter p xs) (filter (λ x. not (p x)) xs),
    sum_by-filter_both p (λ x. not (p x)) (λ x. refl) w xs,
  );
}

-- counts that are at most those of the whole are a part
pub part_from_counts : {X : Type 0} (same : X → X → Bool) → TellsApart same → (part whole : List X)
    → ((x : X) → count same x part ≤ count same x whole) → PartOf part whole
part_from_counts same apart [] whole h = record { rest = whole; is = same_refl whole }
part_from_counts {X} same apart (x ∷ part) whole h =
    let r = stands_in same apart x whole (omega (arith, h x, count_itself same apart x part)) in
    let tail : (z : X) → count same z part ≤ count same z (r.front ++ r.back) = λ z.
    omega (arith, h z, count_more same z x part, ap (count same z) r.is, count_middle same z x r.front r.back) in
    let p = part_from_counts same apart part (r.front ++ r.back) tail in
    record {
      rest = p.rest;
      is = record {
        weighs = λ w. omega (
          arith,
          ap (sum_by w) r.is,
          sum_by-append w r.front (x ∷ r.back),
          sum_by-cons w x r.back,
          sum_by-append w r.front r.back,
          p.is.weighs w,
          sum_by-append w part p.rest,
          sum_by-cons w x part,
          sum_by-append w (x ∷ part) p.rest,
        );
      };
    }

pub counts_from_part : {X : Type 0} (same : X → X → Bool) (part whole : List X) → PartOf part whole → (x : X) → count same x part ≤ count same x whole
counts_from_part same part whole p x = part_weighs (λ z. cond (same x z) 1 0) part whole p
