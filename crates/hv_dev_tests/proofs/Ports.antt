-- How many pages an open file has, and how the reads under way are called.
use Rattle.std.proofs.Common.{◌≡◌, ℕ, ◌+◌, ◌<◌, List, [], ◌∷◌, ◌++◌, length, Option, Some, refl, ap, ◌∙◌, arith}
use Rattle.std.specs.List.{AllByRecursion}
use Rattle.hv_dev.specs.Reading.{Flight, IsFree}
use Rattle.hv_dev.proofs.AllOut.{one_more}

-- an open file of so many pages
pub record HasPages (written : Option (List (List ℕ))) (count : ℕ) : Type 0 where
  pub pages : List (List ℕ)
  pub are : written ≡ Some pages
  pub long : length pages ≡ count

-- one page more
pub HasPages-more : (was now : Option (List (List ℕ))) (count : ℕ) (page : List ℕ) → HasPages was count
    → ((pages : List (List ℕ)) → was ≡ Some pages → now ≡ Some (pages ++ page ∷ [])) → HasPages now (count + 1)
HasPages-more was now count page has step = record {
  pages = has.pages ++ page ∷ [];
  are = step has.pages has.are;
  long = one_more has.pages _ page refl ∙ ap (λ n. n + 1) has.long;
}

-- all tags are below a number
abbrev pub AreBelow : {File : Type 0} → ℕ → List (Flight File) → Type 0
AreBelow n flights = AllByRecursion (λ flight. flight.tag < n) flights

pub AreBelow-free : {File : Type 0} (n : ℕ) (flights : List (Flight File)) → AreBelow n flights → IsFree n flights
AreBelow-free n [] all = all
AreBelow-free n (f ∷ fs) all = (λ same. absurd (omega (arith, same, all.0)), AreBelow-free n fs all.1)

behind : {File : Type 0} (n : ℕ) (flights : List (Flight File)) (flight : Flight File) → flight.tag ≡ n → AreBelow n flights → AreBelow (n + 1) (flights ++ flight ∷ [])
behind n [] flight is all = (omega (arith, is), all)
behind n (f ∷ fs) flight is all = (omega (arith, all.0), behind n fs flight is all.1)

-- a read more, called by the number itself
pub AreBelow-more : {File : Type 0} (n next : ℕ) (flights flights' : List (Flight File)) (flight : Flight File)
    → flights' ≡ flights ++ flight ∷ [] → flight.tag ≡ n → next ≡ n + 1 → AreBelow n flights → AreBelow next flights'
AreBelow-more n next flights flights' flight are is more all = rw (are, more) (behind n flights flight is all)
