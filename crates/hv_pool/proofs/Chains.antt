-- Chains of places.
use Rattle.std.proofs.Common.{◌≡◌, ℕ, zero, suc, ◌+◌, ◌*◌, ◌<◌, ◌≤◌, ◌⊎◌, inl, inr, nat_eq, if◌then◌else◌, List, [], ◌∷◌, ◌++◌, length, get_or, set, refl, sym, ap, ◌∙◌, subst, arith}
use Rattle.std.specs.List.{range_with_len}
use Rattle.std.proofs.lemmas.Bool.{cases_eq, eq-eqb, ne_eqb}
use Rattle.std.proofs.lemmas.List.{get_or-set_same, get_or-set_other}
use Rattle.std.proofs.lemmas.List.FromFn.{length-range_with_len}
use Rattle.hv_pool.specs.Index.{IsChain, IsAmong}

-- each of them is a place
pub among_within : (links : List ℕ) (count at : ℕ) (ns : List ℕ) (x : ℕ) → IsChain links count at ns → IsAmong x ns → x < count
among_within links count at [] x c i = absurd i
among_within links count at (n ∷ ns) x c (inl e) = omega (arith, e, c.1)
among_within links count at (n ∷ ns) x c (inr i) = among_within links count (count + n) ns x c.2 i

-- a chain stays where its links are the same, and so from another link that leads to its first place
pub chain_as : (links later : List ℕ) (count at from : ℕ) (ns : List ℕ) → IsChain links count at ns → get_or later from 0 ≡ get_or links at 0 → ((x : ℕ) → IsAmong x ns → get_or later (count + x) 0 ≡ get_or links (count + x) 0) → IsChain later count from ns
chain_as links later count at from [] c e same = omega (arith, c, e)
chain_as links later count at from (n ∷ ns) c e same = (e ∙ c.0, c.1, chain_as links later count (count + n) (count + n) ns c.2 (same n (inl refl)) (λ x i. same x (inr i)))

-- where a link changes that is none of a chain's, the chain stays
pub chain_set : (links : List ℕ) (count at p v : ℕ) (ns : List ℕ) → IsChain links count at ns → ¬ (at ≡ p) → ((x : ℕ) → IsAmong x ns → ¬ (count + x ≡ p)) → IsChain (set links p v) count at ns
chain_set links count at p v ns c here behind = chain_as links (set links p v) count at at ns c (get_or-set_other links p at v 0 here) (λ x i. get_or-set_other links p (count + x) v 0 (behind x i))

-- from one link there is one chain
same_length : (links : List ℕ) (count at : ℕ) (ns ms : List ℕ) → IsChain links count at ns → IsChain links count at ms → length ns ≡ length ms
same_length links count at [] [] c d = refl
same_length links count at [] (m ∷ ms) c d = absurd (omega (arith, c, d.0, d.1))
same_length links count at (n ∷ ns) [] c d = absurd (omega (arith, c.0, c.1, d))
same_length links count at (n ∷ ns) (m ∷ ms) c d =
    let e : n ≡ m = sym c.0 ∙ d.0 in
    ap (λ k. suc k) (same_length links count (count + n) ns ms c.2 (subst (λ (k : ℕ). IsChain links count (count + k) ms) (sym e) d.2))

-- the shorter chain behind a place of a chain
abbrev Behind : List ℕ → ℕ → ℕ → List ℕ → Type 0
Behind links count x ns = (ms : List ℕ) × IsChain links count (count + x) ms × (length ms < length ns)

behind : (links : List ℕ) (count at : ℕ) (ns : List ℕ) (x : ℕ) → IsChain links count at ns → IsAmong x ns → Behind links count x ns
behind links count at [] x c i = absurd i
behind links count at (n ∷ ns) x c (inl e) = (ns, subst (λ (k : ℕ). IsChain links count (count + k) ns) (sym e) c.2, omega arith)
behind links count at (n ∷ ns) x c (inr i) = let b = behind links count (count + n) ns x c.2 i in (b.0, b.1, omega (arith, b.2))

-- a chain doesn't come back to the link where it starts
pub no_return : (links : List ℕ) (count at : ℕ) (ns : List ℕ) (x : ℕ) → IsChain links count at ns → IsAmong x ns → ¬ (count + x ≡ at)
no_return links count at ns x c i e =
    let b = behind links count at ns x c i in
    absurd (omega (arith, b.2, same_length links count at b.0 ns (subst (λ (k : ℕ). IsChain links count k b.0) e b.1) c))

-- the link behind the last of these places
abbrev pub end_of : ℕ → ℕ → List ℕ → ℕ
end_of count at [] = at
end_of count at (n ∷ ns) = end_of count (count + n) ns

-- behind some places it is one of theirs
pub end_among : (count at f : ℕ) (fs : List ℕ) → (x : ℕ) × IsAmong x (f ∷ fs) × (end_of count at (f ∷ fs) ≡ count + x)
end_among count at f [] = (f, inl refl, refl)
end_among count at f (g ∷ gs) = let r = end_among count (count + f) g gs in (r.0, inr r.1, r.2)

pub end_more : (count at : ℕ) (ns : List ℕ) (m : ℕ) → end_of count at (ns ++ m ∷ []) ≡ count + m
end_more count at [] m = refl
end_more count at (n ∷ ns) m = end_more count (count + n) ns m

pub among_front : (x : ℕ) (front rest : List ℕ) → IsAmong x front → IsAmong x (front ++ rest)
among_front x [] rest i = absurd i
among_front x (f ∷ fs) rest (inl e) = inl e
among_front x (f ∷ fs) rest (inr i) = inr (among_front x fs rest i)

pub among_rest : (x : ℕ) (front rest : List ℕ) → IsAmong x rest → IsAmong x (front ++ rest)
among_rest x [] rest i = i
among_rest x (f ∷ fs) rest i = inr (among_rest x fs rest i)

pub among_cases : (x : ℕ) (front rest : List ℕ) → IsAmong x (front ++ rest) → IsAmong x front ⊎ IsAmong x rest
among_cases x [] rest i = inr i
among_cases x (f ∷ fs) rest (inl e) = inl (inl e)
among_cases x (f ∷ fs) rest (inr i) = go (among_cases x fs rest i)
  where
    go : IsAmong x fs ⊎ IsAmong x rest → IsAmong x (f ∷ fs) ⊎ IsAmong x rest
    go (inl j) = inl (inr j)
    go (inr j) = inr j

-- a place is cut out of its chain
pub chain_cut : (links : List ℕ) (count at : ℕ) (front : List ℕ) (m : ℕ) (rest : List ℕ) → IsChain links count at (front ++ m ∷ rest) → length links ≡ 2 * count → at < 2 * count → IsChain (set links (end_of count at front) (get_or links (count + m) 0)) count at (front ++ rest)
chain_cut links count at [] m rest c long within =
    chain_as links (set links at (get_or links (count + m) 0)) count (count + m) at rest c.2 (get_or-set_same links at (get_or links (count + m) 0) 0 (omega (arith, within, long)))
    (λ x i. get_or-set_other links at (count + x) (get_or links (count + m) 0) 0 (no_return links count at (m ∷ rest) x c (inr i)))
chain_cut links count at (f ∷ fs) m rest c long within =
    let e = end_among count at f fs in (
      get_or-set_other links (end_of count (count + f) fs) at (get_or links (count + m) 0) 0
          (λ q. no_return links count at (f ∷ (fs ++ m ∷ rest)) e.0 c (among_front e.0 (f ∷ fs) (m ∷ rest) e.1) (sym e.2 ∙ sym q))
          ∙ c.0,
      c.1,
      chain_cut links count (count + f) fs m rest c.2 long (omega (arith, c.1)),
    )

-- a list without one of its members
abbrev Without : ℕ → List ℕ → Type 0
Without x xs = (ys : List ℕ) × (length xs ≡ length ys + 1) × ((y : ℕ) → ¬ (y ≡ x) → IsAmong y xs → IsAmong y ys)

without : (x : ℕ) (xs : List ℕ) → IsAmong x xs → Without x xs
without x [] i = absurd i
without x (m ∷ ms) (inl e) = (ms, omega arith, go)
  where
    go : (y : ℕ) → ¬ (y ≡ x) → IsAmong y (m ∷ ms) → IsAmong y ms
    go y ne (inl q) = absurd (ne (q ∙ sym e))
    go y ne (inr j) = j
without x (m ∷ ms) (inr i) = keep (without x ms i)
  where
    keep : Without x ms → Without x (m ∷ ms)
    keep r = (m ∷ r.0, omega (arith, r.1), go)
      where
        go : (y : ℕ) → ¬ (y ≡ x) → IsAmong y (m ∷ ms) → IsAmong y (m ∷ r.0)
        go y ne (inl q) = inl q
        go y ne (inr j) = inr (r.2 y ne j)

chain_fits : (links : List ℕ) (count at : ℕ) (ns xs : List ℕ) → IsChain links count at ns → ((x : ℕ) → IsAmong x ns → IsAmong x xs) → length ns ≤ length xs
chain_fits links count at [] xs c sub = omega arith
chain_fits links count at (n ∷ ns) xs c sub =
    let r = without n xs (sub n (inl refl)) in
    let fits : length ns ≤ length r.0 = chain_fits links count (count + n) ns r.0 c.2 (λ x i. r.2 x (λ e. no_return links count (count + n) ns x c.2 i (ap (λ k. count + k) e)) (sub x (inr i))) in
    omega (arith, r.1, fits)

among_range : (start count x : ℕ) → start ≤ x → x < start + count → IsAmong x (range_with_len start count)
among_range start zero x low high = absurd (omega (arith, low, high))
among_range start (suc count) x low high = go (cases_eq x start) (λ ne. among_range (start + 1) count x (omega (arith, low, ne)) (omega (arith, high)))
  where
    go : (x ≡ start) ⊎ (x ≡ start → ⊥) → ((x ≡ start → ⊥) → IsAmong x (range_with_len (start + 1) count)) → IsAmong x (range_with_len start (suc count))
    go (inl e) more = inl e
    go (inr ne) more = inr (more ne)

-- a chain has at most each place
pub chain_short : (links : List ℕ) (count at : ℕ) (ns : List ℕ) → IsChain links count at ns → length ns ≤ count
chain_short links count at ns c = omega (arith, chain_fits links count at ns (range_with_len 0 count) c (λ x i. among_range 0 count x (omega arith) (omega (arith, among_within links count at ns x c i))), length-range_with_len 0 count)

-- a chain for each bucket, but another for one of them
abbrev pub chosen : (ℕ → List ℕ) → ℕ → List ℕ → ℕ → List ℕ
chosen chains b ns k = if nat_eq k b then ns else chains k

pub chosen_here : (chains : ℕ → List ℕ) (b : ℕ) (ns : List ℕ) (k : ℕ) → k ≡ b → chosen chains b ns k ≡ ns
chosen_here chains b ns k e = ap (λ z. if z then ns else chains k) (eq-eqb k b e)

pub chosen_other : (chains : ℕ → List ℕ) (b : ℕ) (ns : List ℕ) (k : ℕ) → ¬ (k ≡ b) → chosen chains b ns k ≡ chains k
chosen_other chains b ns k ne = ap (λ z. if z then ns else chains k) (ne_eqb k b ne)
