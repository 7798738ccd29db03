-- The chains of the places.
use Rattle.std.proofs.Common.{◌≡◌, ℕ, ◌+◌, ◌-◌, ◌*◌, ◌<◌, ◌≤◌, ◌^◌, ◌⊎◌, inl, inr, Bool, true, false, ◌&&◌, if◌then◌else◌, List, [], ◌∷◌, ◌++◌, length, map, get_or, set, replicate, refl, sym, ap, ◌∙◌, subst, arith, true≢false}
use Rattle.std.specs.List.{count_by}
use Rattle.std.proofs.lemmas.Bool.{cases_eq}
use Rattle.std.proofs.lemmas.Nat.{mod_below}
use Rattle.std.proofs.lemmas.List.{get_or-map, get_or-set_same, get_or-set_other, get_or-replicate, length-map, length-replicate, length-set, append_assoc}
use Rattle.hv_pool.specs.declared.key.PageKey.{PageKey}
use Rattle.hv_pool.specs.declared.slot.Slot.{Slot}
use Rattle.hv_pool.specs.declared.slot.Held.{Held}
use Rattle.hv_pool.specs.declared.seen.Ask.{Ask}
use Rattle.hv_pool.specs.declared.seen.Ask.TheVariants as ask
use Rattle.hv_frames.specs.Frames.{Framed}
use Rattle.hv_pool.specs.Key.{same_key}
use Rattle.hv_pool.specs.Made.{IsFilled}
use Rattle.hv_pool.specs.Moves.{Takes, returned, cached_as, freed, forgotten}
use Rattle.hv_pool.specs.Shape.{IsInOrder}
use denote.RawPtr.{Ptr}
use Rattle.hv_pool.specs.Slots.{under, stands, is_away}
use Rattle.hv_pool.specs.Index.{bucket_of, IsChain, IsAmong, IsIndexed, IsIndexedBut}
use Rattle.hv_pool.proofs.Made.{none_pass}
use Rattle.hv_pool.proofs.Places.{both, key_alone, no_slot, at_place}
use Rattle.hv_pool.proofs.Chains.{among_within, chain_as, chain_set, chain_cut, chain_short, no_return, end_of, end_among, end_more, among_front, among_rest, among_cases, chosen, chosen_here, chosen_other}

-- a bucket is one of so many
pub bucket_below : (b count : ℕ) (key : PageKey) → b ≡ bucket_of key count → 0 < count → b < count
bucket_below b count key is some = omega (arith, is, mod_below (key.chunk * 2654435761 + key.page) count some)

-- what is left of a chain at a link, where a place may stand under a key
pub record Ahead (links : List ℕ) (slots : List Slot) (key : PageKey) (at passed : ℕ) : Type 0 where
  pub rest : List ℕ
  pub chain : IsChain links (length slots) at rest
  pub within : at < 2 * length slots
  pub few : passed + length rest ≤ length slots
  pub left : (n : ℕ) (d : Slot) → n < length slots → under key (get_or slots n d) ≡ true → IsAmong n rest

-- at first it is the whole chain
pub ahead_first : (links : List ℕ) (slots : List Slot) (key : PageKey) (bucket : ℕ) → IsIndexed links slots → bucket ≡ bucket_of key (length slots) → bucket < length slots → Ahead links slots key bucket 0
ahead_first links slots key bucket o is within = record {
  rest = o.chains bucket;
  chain = o.linked bucket within;
  within = omega (arith, within);
  few = omega (arith, chain_short links (length slots) bucket (o.chains bucket) (o.linked bucket within));
  left = λ n d inside u. subst (λ (b : ℕ). IsAmong n (o.chains b)) (sym is) (o.found key n d inside u);
}

-- the next place doesn't stand under the key
pub ahead_next : (links : List ℕ) (slots : List Slot) (key : PageKey) (at passed n : ℕ) → Ahead links slots key at passed → get_or links at 0 ≡ n → n < length slots → ((d : Slot) → under key (get_or slots n d) ≡ false) → Ahead links slots key (length slots + n) (passed + 1)
ahead_next links slots key at passed n a is within not = go a.rest a.chain a.few a.left
  where
    go : (rest : List ℕ) → IsChain links (length slots) at rest → passed + length rest ≤ length slots → ((m : ℕ) (d : Slot) → m < length slots → under key (get_or slots m d) ≡ true → IsAmong m rest) → Ahead links slots key (length slots + n) (passed + 1)
    go [] c few left = absurd (omega (arith, c, is, within))
    go (r ∷ rs) c few left =
        let same : r ≡ n = sym c.0 ∙ is in
        record {
          rest = rs;
          chain = subst (λ (k : ℕ). IsChain links (length slots) (length slots + k) rs) same c.2;
          within = omega (arith, within);
          few = omega (arith, few);
          left = λ m d inside u. later m d u (left m d inside u);
        }
      where
        later : (m : ℕ) (d : Slot) → under key (get_or slots m d) ≡ true → IsAmong m (r ∷ rs) → IsAmong m rs
        later m d u (inl e) = absurd (true≢false (sym u ∙ ap (λ k. under key (get_or slots k d)) (e ∙ sym c.0 ∙ is) ∙ not d))
        later m d u (inr i) = i

no_rest : (links : List ℕ) (slots : List Slot) (key : PageKey) (at passed : ℕ) (a : Ahead links slots key at passed) → a.rest ≡ [] → count_by (under key) slots ≡ 0
no_rest links slots key at passed a none = none_pass (under key) slots (λ n d within. go n d within (under key (get_or slots n d)) refl)
  where
    go : (n : ℕ) (d : Slot) → n < length slots → (b : Bool) → under key (get_or slots n d) ≡ b → under key (get_or slots n d) ≡ false
    go n d within false e = e
    go n d within true e = absurd (subst (λ (l : List ℕ). IsAmong n l) none (a.left n d within e))

-- a link without a place ends the chain
pub ahead_stops : (links : List ℕ) (slots : List Slot) (key : PageKey) (at passed : ℕ) → Ahead links slots key at passed → length slots ≤ get_or links at 0 → count_by (under key) slots ≡ 0
ahead_stops links slots key at passed a end = no_rest links slots key at passed a (go a.rest a.chain)
  where
    go : (rest : List ℕ) → IsChain links (length slots) at rest → rest ≡ []
    go [] c = refl
    go (r ∷ rs) c = absurd (omega (arith, c.0, c.1, end))

-- behind as many places as there are stands no other
pub ahead_ends : (links : List ℕ) (slots : List Slot) (key : PageKey) (at passed : ℕ) → Ahead links slots key at passed → length slots ≤ passed → count_by (under key) slots ≡ 0
ahead_ends links slots key at passed a end = no_rest links slots key at passed a (go a.rest a.few)
  where
    go : (rest : List ℕ) → passed + length rest ≤ length slots → rest ≡ []
    go [] few = refl
    go (r ∷ rs) few = absurd (omega (arith, few, end))

-- what was passed of a bucket's chain, without meeting a place
pub record Passed (links : List ℕ) (slots : List Slot) (bucket place at passed : ℕ) : Type 0 where
  pub index : IsIndexed links slots
  pub front : List ℕ
  pub rest : List ℕ
  pub whole : front ++ rest ≡ index.chains bucket
  pub here : at ≡ end_of (length slots) bucket front
  pub ahead : IsChain links (length slots) at rest
  pub within : at < 2 * length slots
  pub few : passed + length rest ≤ length slots
  pub not_yet : ¬ (IsAmong place front)

pub passed_first : (links : List ℕ) (slots : List Slot) (bucket place : ℕ) → IsIndexed links slots → bucket < length slots → Passed links slots bucket place bucket 0
passed_first links slots bucket place o within = record {
  index = o;
  front = [];
  rest = o.chains bucket;
  whole = refl;
  here = refl;
  ahead = o.linked bucket within;
  within = omega (arith, within);
  few = omega (arith, chain_short links (length slots) bucket (o.chains bucket) (o.linked bucket within));
  not_yet = λ i. absurd i;
}

pub passed_next : (links : List ℕ) (slots : List Slot) (bucket place at passed n : ℕ) → Passed links slots bucket place at passed → get_or links at 0 ≡ n → n < length slots → ¬ (n ≡ place) → Passed links slots bucket place (length slots + n) (passed + 1)
passed_next links slots bucket place at passed n p is within other = go p.rest p.whole p.ahead p.few
  where
    go : (rest : List ℕ) → p.front ++ rest ≡ p.index.chains bucket → IsChain links (length slots) at rest → passed + length rest ≤ length slots → Passed links slots bucket place (length slots + n) (passed + 1)
    go [] whole c few = absurd (omega (arith, c, is, within))
    go (r ∷ rs) whole c few =
        let same : r ≡ n = sym c.0 ∙ is in
        record {
          index = p.index;
          front = p.front ++ r ∷ [];
          rest = rs;
          whole = append_assoc p.front (r ∷ []) rs ∙ whole;
          here = ap (λ k. length slots + k) (sym same) ∙ sym (end_more (length slots) bucket p.front r);
          ahead = subst (λ (k : ℕ). IsChain links (length slots) (length slots + k) rs) same c.2;
          within = omega (arith, within);
          few = omega (arith, few);
          not_yet = λ i. met (among_cases place p.front (r ∷ []) i);
        }
      where
        met : IsAmong place p.front ⊎ IsAmong place (r ∷ []) → ⊥
        met (inl i) = p.not_yet i
        met (inr (inl e)) = other (sym (e ∙ sym c.0 ∙ is))
        met (inr (inr i)) = i

-- a place that isn't met is in no chain
passed_all : (links : List ℕ) (slots : List Slot) (bucket place at passed : ℕ) (p : Passed links slots bucket place at passed) → ((d : Slot) → bucket ≡ bucket_of (get_or slots place d).key (length slots)) → p.rest ≡ [] → IsIndexedBut place links slots
passed_all links slots bucket place at passed p is none = record {
  chains = p.index.chains;
  long = p.index.long;
  linked = p.index.linked;
  own = p.index.own;
  found = λ key n d within other u. p.index.found key n d within u;
  out = λ b within i. go b i (is no_slot ∙ p.index.own b place no_slot within i);
}
  where
    ends : IsAmong place (p.front ++ p.rest) → ⊥
    ends i = met (among_cases place p.front p.rest i)
      where
        met : IsAmong place p.front ⊎ IsAmong place p.rest → ⊥
        met (inl j) = p.not_yet j
        met (inr j) = subst (λ (l : List ℕ). IsAmong place l) none j

    go : (b : ℕ) → IsAmong place (p.index.chains b) → bucket ≡ b → ⊥
    go b i e = ends (subst (λ (l : List ℕ). IsAmong place l) (sym p.whole) (subst (λ (k : ℕ). IsAmong place (p.index.chains k)) (sym e) i))

pub passed_stops : (links : List ℕ) (slots : List Slot) (bucket place at passed : ℕ) → Passed links slots bucket place at passed → ((d : Slot) → bucket ≡ bucket_of (get_or slots place d).key (length slots)) → length slots ≤ get_or links at 0 → IsIndexedBut place links slots
passed_stops links slots bucket place at passed p is end = passed_all links slots bucket place at passed p is (go p.rest p.ahead)
  where
    go : (rest : List ℕ) → IsChain links (length slots) at rest → rest ≡ []
    go [] c = refl
    go (r ∷ rs) c = absurd (omega (arith, c.0, c.1, end))

pub passed_ends : (links : List ℕ) (slots : List Slot) (bucket place at passed : ℕ) → Passed links slots bucket place at passed → ((d : Slot) → bucket ≡ bucket_of (get_or slots place d).key (length slots)) → length slots ≤ passed → IsIndexedBut place links slots
passed_ends links slots bucket place at passed p is end = passed_all links slots bucket place at passed p is (go p.rest p.few)
  where
    go : (rest : List ℕ) → passed + length rest ≤ length slots → rest ≡ []
    go [] few = refl
    go (r ∷ rs) few = absurd (omega (arith, few, end))

-- a place that was met behind others is cut out
cut_out : (links : List ℕ) (slots : List Slot) (bucket place at : ℕ) (front rest : List ℕ) (o : IsIndexed links slots) → bucket < length slots → ((d : Slot) → bucket ≡ bucket_of (get_or slots place d).key (length slots)) → front ++ place ∷ rest ≡ o.chains bucket → at ≡ end_of (length slots) bucket front → ¬ (IsAmong place front) → place < length slots
    → IsIndexedBut place (set links at (get_or links (length slots + place) 0)) slots
cut_out links slots bucket place at front rest o inside is whole here not_yet within = record {
  chains = chains;
  long = length-set links at value ∙ o.long;
  linked = λ b below. linked b below (cases_eq b bucket);
  own = λ b n d below i. o.own b n d below (longer b n i (cases_eq b bucket));
  found = λ key n d below other u. kept key n other (o.found key n d below u) (cases_eq (bucket_of key (length slots)) bucket);
  out = λ b below i. out b below i (cases_eq b bucket);
}
  where
    value : ℕ
    value = get_or links (length slots + place) 0

    chains : ℕ → List ℕ
    chains = chosen o.chains bucket (front ++ rest)

    old_chain : IsChain links (length slots) bucket (front ++ place ∷ rest)
    old_chain = subst (λ (l : List ℕ). IsChain links (length slots) bucket l) (sym whole) (o.linked bucket inside)

    -- another bucket's chain has no place of this one
    apart : (b x : ℕ) → b < length slots → ¬ (b ≡ bucket) → IsAmong x (o.chains b) → ¬ (IsAmong x (front ++ place ∷ rest))
    apart b x below ne i j = ne (sym (o.own b x no_slot below i) ∙ o.own bucket x no_slot inside (subst (λ (l : List ℕ). IsAmong x l) whole j))

    -- the link that changes is none of another bucket's chain
    not_at : (b : ℕ) → b < length slots → ¬ (b ≡ bucket) → (fs : List ℕ) → fs ≡ front → (¬ (b ≡ end_of (length slots) bucket fs)) × ((x : ℕ) → IsAmong x (o.chains b) → ¬ (length slots + x ≡ end_of (length slots) bucket fs))
    not_at b below ne [] e = (ne, λ x i q. absurd (omega (arith, q, inside)))
    not_at b below ne (f ∷ fs) e =
        let l = end_among (length slots) bucket f fs in (
          λ q. absurd (omega (arith, below, q, l.2)),
          λ x i q. apart b x below ne i
              (among_front x front (place ∷ rest) (subst (λ (m : List ℕ). IsAmong x m) e (subst (λ (k : ℕ). IsAmong k (f ∷ fs)) (omega (arith, q, l.2)) l.1))),
        )

    linked : (b : ℕ) → b < length slots → (b ≡ bucket) ⊎ (b ≡ bucket → ⊥) → IsChain (set links at value) (length slots) b (chains b)
    linked b below (inl e) =
        let cut : IsChain (set links at value) (length slots) bucket (front ++ rest) = subst (λ (k : ℕ). IsChain (set links k value) (length slots) bucket (front ++ rest)) (sym here) (chain_cut links (length slots) bucket front place rest old_chain o.long (omega (arith, inside))) in
        subst (λ (l : List ℕ). IsChain (set links at value) (length slots) b l) (sym (chosen_here o.chains bucket (front ++ rest) b e)) (subst (λ (k : ℕ). IsChain (set links at value) (length slots) k (front ++ rest)) (sym e) cut)
    linked b below (inr ne) =
        let n = not_at b below ne front refl in
        subst (λ (l : List ℕ). IsChain (set links at value) (length slots) b l) (sym (chosen_other o.chains bucket (front ++ rest) b ne))
        (chain_set links (length slots) b at value (o.chains b) (o.linked b below) (λ q. n.0 (q ∙ here)) (λ x i q. n.1 x i (q ∙ here)))

    more : (n : ℕ) → IsAmong n front ⊎ IsAmong n rest → IsAmong n (front ++ place ∷ rest)
    more n (inl i) = among_front n front (place ∷ rest) i
    more n (inr i) = among_rest n front (place ∷ rest) (inr i)

    longer : (b n : ℕ) → IsAmong n (chains b) → (b ≡ bucket) ⊎ (b ≡ bucket → ⊥) → IsAmong n (o.chains b)
    longer b n i (inl e) =
        subst (λ (k : ℕ). IsAmong n (o.chains k)) (sym e)
        (subst (λ (l : List ℕ). IsAmong n l) whole (more n (among_cases n front rest (subst (λ (l : List ℕ). IsAmong n l) (chosen_here o.chains bucket (front ++ rest) b e) i))))
    longer b n i (inr ne) = subst (λ (l : List ℕ). IsAmong n l) (chosen_other o.chains bucket (front ++ rest) b ne) i

    less : (n : ℕ) → ¬ (n ≡ place) → IsAmong n front ⊎ IsAmong n (place ∷ rest) → IsAmong n (front ++ rest)
    less n other (inl i) = among_front n front rest i
    less n other (inr (inl e)) = absurd (other e)
    less n other (inr (inr i)) = among_rest n front rest i

    kept : (key : PageKey) (n : ℕ) → ¬ (n ≡ place) → IsAmong n (o.chains (bucket_of key (length slots))) → (bucket_of key (length slots) ≡ bucket) ⊎ (bucket_of key (length slots) ≡ bucket → ⊥) → IsAmong n (chains (bucket_of key (length slots)))
    kept key n other i (inl e) =
        subst (λ (l : List ℕ). IsAmong n l) (sym (chosen_here o.chains bucket (front ++ rest) (bucket_of key (length slots)) e))
        (less n other (among_cases n front (place ∷ rest) (subst (λ (l : List ℕ). IsAmong n l) (ap o.chains e ∙ sym whole) i)))
    kept key n other i (inr ne) = subst (λ (l : List ℕ). IsAmong n l) (sym (chosen_other o.chains bucket (front ++ rest) (bucket_of key (length slots)) ne)) i

    once : (fs : List ℕ) (from : ℕ) → IsChain links (length slots) from (fs ++ place ∷ rest) → ¬ (IsAmong place rest)
    once [] from c i = no_return links (length slots) (length slots + place) rest place c.2 i refl
    once (f ∷ fs) from c i = once fs (length slots + f) c.2 i

    out : (b : ℕ) → b < length slots → IsAmong place (chains b) → (b ≡ bucket) ⊎ (b ≡ bucket → ⊥) → ⊥
    out b below i (inl e) = met (among_cases place front rest (subst (λ (l : List ℕ). IsAmong place l) (chosen_here o.chains bucket (front ++ rest) b e) i))
      where
        met : IsAmong place front ⊎ IsAmong place rest → ⊥
        met (inl j) = not_yet j
        met (inr j) = once front bucket old_chain j
    out b below i (inr ne) = ne (sym (o.own b place no_slot below (subst (λ (l : List ℕ). IsAmong place l) (chosen_other o.chains bucket (front ++ rest) b ne) i)) ∙ sym (is no_slot))

-- a place that is met is cut out
pub passed_cuts : (links : List ℕ) (slots : List Slot) (bucket place at passed : ℕ) → Passed links slots bucket place at passed → bucket < length slots → ((d : Slot) → bucket ≡ bucket_of (get_or slots place d).key (length slots)) → get_or links at 0 ≡ place → place < length slots
    → IsIndexedBut place (set links at (get_or links (length slots + place) 0)) slots
passed_cuts links slots bucket place at passed p inside is found_is within = go p.rest p.whole p.ahead
  where
    go : (rest : List ℕ) → p.front ++ rest ≡ p.index.chains bucket → IsChain links (length slots) at rest → IsIndexedBut place (set links at (get_or links (length slots + place) 0)) slots
    go [] whole c = absurd (omega (arith, c, found_is, within))
    go (r ∷ rs) whole c = cut_out links slots bucket place at p.front rs p.index inside is (ap (λ (k : ℕ). p.front ++ k ∷ rs) (sym found_is ∙ c.0) ∙ whole) p.here p.not_yet within

-- a place that is in no chain is put at the head of one
pub links_in : (links later : List ℕ) (slots : List Slot) (bucket place : ℕ) (v : Slot) → IsIndexedBut place links slots → bucket < length slots → place < length slots → later ≡ set (set links (length slots + place) (get_or links bucket 0)) bucket place → bucket ≡ bucket_of v.key (length slots) → IsIndexed later (set slots place v)
links_in links later slots bucket place v o inside within later_is bucket_is = record {
  chains = chains;
  long = long ∙ o.long ∙ ap (λ k. 2 * k) (sym same);
  linked = λ b below. subst (λ (k : ℕ). IsChain later k b (chains b)) (sym same) (linked b (omega (arith, below, same)) (cases_eq b bucket));
  own = λ b n d below i. subst (λ (k : ℕ). bucket_of (get_or (set slots place v) n d).key k ≡ b) (sym same) (own b n d (omega (arith, below, same)) i (cases_eq b bucket));
  found = λ key n d below u. subst (λ (k : ℕ). IsAmong n (chains (bucket_of key k))) (sym same) (found key n d (omega (arith, below, same)) u (cases_eq n place));
}
  where
    same : length (set slots place v) ≡ length slots
    same = length-set slots place v

    first : List ℕ
    first = set links (length slots + place) (get_or links bucket 0)

    long : length later ≡ length links
    long = ap length later_is ∙ length-set first bucket place ∙ length-set links (length slots + place) (get_or links bucket 0)

    chains : ℕ → List ℕ
    chains = chosen o.chains bucket (place ∷ o.chains bucket)

    -- all links but these two are as they were
    other_link : (k : ℕ) → ¬ (k ≡ bucket) → ¬ (k ≡ length slots + place) → get_or later k 0 ≡ get_or links k 0
    other_link k a b = ap (λ (l : List ℕ). get_or l k 0) later_is ∙ get_or-set_other first bucket k place 0 a ∙ get_or-set_other links (length slots + place) k (get_or links bucket 0) 0 b

    behind_same : (b x : ℕ) → b < length slots → IsAmong x (o.chains b) → get_or later (length slots + x) 0 ≡ get_or links (length slots + x) 0
    behind_same b x below i = other_link (length slots + x) (λ q. absurd (omega (arith, q, inside))) (λ q. o.out b below (subst (λ (k : ℕ). IsAmong k (o.chains b)) (omega (arith, q)) i))

    linked : (b : ℕ) → b < length slots → (b ≡ bucket) ⊎ (b ≡ bucket → ⊥) → IsChain later (length slots) b (chains b)
    linked b below (inl e) =
        let head : get_or later bucket 0 ≡ place = ap (λ (l : List ℕ). get_or l bucket 0) later_is ∙ get_or-set_same first bucket place 0 (omega (arith, inside, length-set links (length slots + place) (get_or links bucket 0), o.long)) in
        let second : get_or later (length slots + place) 0 ≡ get_or links bucket 0 =
        ap (λ (l : List ℕ). get_or l (length slots + place) 0) later_is
        ∙ get_or-set_other first bucket (length slots + place) place 0 (λ q. absurd (omega (arith, q, inside)))
        ∙ get_or-set_same links (length slots + place) (get_or links bucket 0) 0 (omega (arith, within, o.long)) in
        let chain : IsChain later (length slots) bucket (place ∷ o.chains bucket) = (head, within, chain_as links later (length slots) bucket (length slots + place) (o.chains bucket) (o.linked bucket inside) second (λ x i. behind_same bucket x inside i)) in
        subst (λ (l : List ℕ). IsChain later (length slots) b l) (sym (chosen_here o.chains bucket (place ∷ o.chains bucket) b e)) (subst (λ (k : ℕ). IsChain later (length slots) k (place ∷ o.chains bucket)) (sym e) chain)
    linked b below (inr ne) =
        subst (λ (l : List ℕ). IsChain later (length slots) b l) (sym (chosen_other o.chains bucket (place ∷ o.chains bucket) b ne))
        (chain_as links later (length slots) b b (o.chains b) (o.linked b below) (other_link b ne (λ q. absurd (omega (arith, q, below)))) (λ x i. behind_same b x below i))

    placed : (b n : ℕ) (d : Slot) → b < length slots → IsAmong n (o.chains b) → bucket_of (get_or (set slots place v) n d).key (length slots) ≡ b
    placed b n d below i =
        ap (λ (z : Slot). bucket_of z.key (length slots)) (get_or-set_other slots place n v d (λ q. o.out b below (subst (λ (k : ℕ). IsAmong k (o.chains b)) q i)))
        ∙ o.own b n d below i

    own : (b n : ℕ) (d : Slot) → b < length slots → IsAmong n (chains b) → (b ≡ bucket) ⊎ (b ≡ bucket → ⊥) → bucket_of (get_or (set slots place v) n d).key (length slots) ≡ b
    own b n d below i (inl e) = go (subst (λ (l : List ℕ). IsAmong n l) (chosen_here o.chains bucket (place ∷ o.chains bucket) b e) i)
      where
        go : IsAmong n (place ∷ o.chains bucket) → bucket_of (get_or (set slots place v) n d).key (length slots) ≡ b
        go (inl q) = ap (λ (k : ℕ). bucket_of (get_or (set slots place v) k d).key (length slots)) q ∙ ap (λ (z : Slot). bucket_of z.key (length slots)) (get_or-set_same slots place v d within) ∙ sym bucket_is ∙ sym e
        go (inr j) = placed bucket n d inside j ∙ sym e
    own b n d below i (inr ne) = placed b n d below (subst (λ (l : List ℕ). IsAmong n l) (chosen_other o.chains bucket (place ∷ o.chains bucket) b ne) i)

    more : (b n : ℕ) → IsAmong n (o.chains b) → (b ≡ bucket) ⊎ (b ≡ bucket → ⊥) → IsAmong n (chains b)
    more b n i (inl e) = subst (λ (l : List ℕ). IsAmong n l) (sym (chosen_here o.chains bucket (place ∷ o.chains bucket) b e)) (inr (subst (λ (k : ℕ). IsAmong n (o.chains k)) e i))
    more b n i (inr ne) = subst (λ (l : List ℕ). IsAmong n l) (sym (chosen_other o.chains bucket (place ∷ o.chains bucket) b ne)) i

    found : (key : PageKey) (n : ℕ) (d : Slot) → n < length slots → under key (get_or (set slots place v) n d) ≡ true → (n ≡ place) ⊎ (n ≡ place → ⊥) → IsAmong n (chains (bucket_of key (length slots)))
    found key n d below u (inl e) =
        let mine : under key v ≡ true = subst (λ z. under key z ≡ true) (ap (λ (k : ℕ). get_or (set slots place v) k d) e ∙ get_or-set_same slots place v d within) u in
        let named : key ≡ v.key = key_alone key v.key (both (stands v.held) (same_key key v.key) mine).1 in
        let here : bucket_of key (length slots) ≡ bucket = ap (λ (k : PageKey). bucket_of k (length slots)) named ∙ sym bucket_is in
        subst (λ (l : List ℕ). IsAmong n l) (sym (chosen_here o.chains bucket (place ∷ o.chains bucket) (bucket_of key (length slots)) here)) (inl e)
    found key n d below u (inr ne) = more (bucket_of key (length slots)) n (o.found key n d below ne (subst (λ z. under key z ≡ true) (get_or-set_other slots place n v d ne) u)) (cases_eq (bucket_of key (length slots)) bucket)

-- a place that keeps its key, and stands under no other than before, stays in its chain
pub index_keeps : (links : List ℕ) (slots : List Slot) (n : ℕ) (old v : Slot) → IsIndexed links slots → n < length slots → old ≡ get_or slots n old → v.key ≡ old.key → ((k : PageKey) → under k v ≡ true → under k old ≡ true) → IsIndexed links (set slots n v)
index_keeps links slots n old v o within is key_is less = record {
  chains = o.chains;
  long = o.long ∙ ap (λ k. 2 * k) (sym same);
  linked = λ b below. subst (λ (k : ℕ). IsChain links k b (o.chains b)) (sym same) (o.linked b (omega (arith, below, same)));
  own = λ b m d below i. subst (λ (k : ℕ). bucket_of (get_or (set slots n v) m d).key k ≡ b) (sym same) (own b m d (omega (arith, below, same)) i (cases_eq m n));
  found = λ key m d inside u. subst (λ (k : ℕ). IsAmong m (o.chains (bucket_of key k))) (sym same) (found key m d (omega (arith, inside, same)) u (cases_eq m n));
}
  where
    same : length (set slots n v) ≡ length slots
    same = length-set slots n v

    own : (b m : ℕ) (d : Slot) → b < length slots → IsAmong m (o.chains b) → (m ≡ n) ⊎ (m ≡ n → ⊥) → bucket_of (get_or (set slots n v) m d).key (length slots) ≡ b
    own b m d below i (inl e) =
        ap (λ (k : ℕ). bucket_of (get_or (set slots n v) k d).key (length slots)) e
        ∙ ap (λ (z : Slot). bucket_of z.key (length slots)) (get_or-set_same slots n v d within)
        ∙ ap (λ (k : PageKey). bucket_of k (length slots)) (key_is ∙ ap (λ (z : Slot). z.key) is ∙ ap (λ (k : ℕ). (get_or slots k old).key) (sym e))
        ∙ o.own b m old below i
    own b m d below i (inr ne) = ap (λ (z : Slot). bucket_of z.key (length slots)) (get_or-set_other slots n m v d ne) ∙ o.own b m d below i

    found : (key : PageKey) (m : ℕ) (d : Slot) → m < length slots → under key (get_or (set slots n v) m d) ≡ true → (m ≡ n) ⊎ (m ≡ n → ⊥) → IsAmong m (o.chains (bucket_of key (length slots)))
    found key m d inside u (inl e) =
        let here : get_or (set slots n v) m d ≡ v = ap (λ k. get_or (set slots n v) k d) e ∙ get_or-set_same slots n v d within in
        let was : under key (get_or slots m old) ≡ true = ap (λ k. under key (get_or slots k old)) e ∙ ap (under key) (sym is) ∙ less key (subst (λ z. under key z ≡ true) here u) in
        o.found key m old inside was
    found key m d inside u (inr ne) = o.found key m d inside (subst (λ z. under key z ≡ true) (get_or-set_other slots n m v d ne) u)

-- a place under its old key, and standing before, stands under no other key than before
under_key : (old v : Slot) → v.key ≡ old.key → stands old.held ≡ true → (k : PageKey) → under k v ≡ true → under k old ≡ true
under_key old v key stand k u = ap (λ b. b && same_key k old.key) stand ∙ subst (λ z. same_key k z ≡ true) key (both (stands v.held) (same_key k v.key) u).1

returned_key : (away : Held → Bool) (formed : Bool) (key : PageKey) (frame : Framed) (came : ℕ) (s v : Slot) → v ≡ returned away formed key frame came s → v.key ≡ s.key
returned_key away formed key frame came s v v_is = ap (λ (z : Slot). z.key) v_is ∙ go (away s.held && same_key key s.key)
  where
    go : (b : Bool) → (if b then cached_as came formed frame s else freed frame s).key ≡ s.key
    go true = refl
    go false = refl

-- the place of a frame that is away keeps its key
pub return_index : (links : List ℕ) (owner : Ptr) (slots : List Slot) (came openings n : ℕ) (away : Held → Bool) (formed : Bool) (key : PageKey) (frame : Framed) (old v : Slot) → IsIndexed links slots → IsInOrder owner slots came openings → 0 < count_by (is_away n) slots → old ≡ get_or slots n old → v ≡ returned away formed key frame came old → IsIndexed links (set slots n v)
return_index links owner slots came openings n away formed key frame old v indexed o h is v_is =
    let p = at_place owner slots came openings n old o h is in
    let named = returned_key away formed key frame came old v v_is in
    index_keeps links slots n old v indexed p.0.within is named (under_key old v named p.0.stand)

takes_key : (old v : Slot) (who : ℕ) (result : Ask) → Takes old who result v → v.key ≡ old.key
takes_key old v who (ask.Hit frame formed) t = ap (λ (z : Slot). z.key) t.2
takes_key old v who (ask.Start frame) t = absurd t
takes_key old v who (ask.Reading other) t = ap (λ (z : Slot). z.key) t.1
takes_key old v who (ask.Busy other) t = ap (λ (z : Slot). z.key) t.1
takes_key old v who (ask.Full frames) t = absurd t

pub take_index : (links : List ℕ) (slots : List Slot) (n : ℕ) (key : PageKey) (who : ℕ) (old v : Slot) (result : Ask) → IsIndexed links slots → n < length slots → old ≡ get_or slots n old → under key old ≡ true → Takes old who result v → IsIndexed links (set slots n v)
take_index links slots n key who old v result indexed within is mine t =
    let named = takes_key old v who result t in
    index_keeps links slots n old v indexed within is named (under_key old v named (both (stands old.held) (same_key key old.key) mine).0)

-- where waits end, all places stand under their keys
pub forget_index : (links : List ℕ) (slots : List Slot) (who : ℕ) → IsIndexed links slots → IsIndexed links (map (forgotten who) slots)
forget_index links slots who o =
    let same = length-map slots (forgotten who) in
    record {
      chains = o.chains;
      long = o.long ∙ ap (λ k. 2 * k) (sym same);
      linked = λ b below. subst (λ (k : ℕ). IsChain links k b (o.chains b)) (sym same) (o.linked b (omega (arith, below, same)));
      own = λ b n d below i.
          let inside : b < length slots = omega (arith, below, same) in
          subst (λ (k : ℕ). bucket_of (get_or (map (forgotten who) slots) n d).key k ≡ b) (sym same)
          (ap (λ (z : Slot). bucket_of z.key (length slots)) (get_or-map (forgotten who) slots n no_slot d (among_within links (length slots) b (o.chains b) n (o.linked b inside) i)) ∙ o.own b n no_slot inside i);
      found = λ key n d within u. subst (λ (k : ℕ). IsAmong n (o.chains (bucket_of key k))) (sym same)
          (o.found key n no_slot (omega (arith, within, same)) (sym (ap (under key) (get_or-map (forgotten who) slots n no_slot d (omega (arith, within, same)))) ∙ u));
    }

-- nothing stands under a key in a pool that is made
pub fresh_index : (links : List ℕ) (frames : List Framed) (slots : List Slot) → IsFilled frames slots → length slots < 2 ^ 32 → links ≡ replicate (2 * length slots) (2 ^ 32 - 1) → IsIndexed links slots
fresh_index links frames slots f short is = record {
  chains = λ b. [];
  long = ap length is ∙ length-replicate (2 * length slots) (2 ^ 32 - 1);
  linked = λ b below. omega (arith, short, ap (λ (l : List ℕ). get_or l b 0) is, get_or-replicate (2 * length slots) b (2 ^ 32 - 1) 0 (omega (arith, below)));
  own = λ b n d below i. absurd i;
  found = λ key n d within u. absurd (true≢false (sym u ∙ ap (λ h. stands h && same_key key (get_or slots n d).key) (f.fresh n d within).held));
}
