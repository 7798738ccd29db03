-- Refusals of a select, one behind another.
use Rattle.std.proofs.Common.{◌≡◌, ℕ, ◌+◌, ◌≤◌, List, [], ◌∷◌, ◌++◌, length, Option, Some, None, refl, sym, ap, ◌∙◌, arith, true, nat_le, inl, inr}
use Rattle.std.specs.Option.{option_or}
use Rattle.std.proofs.lemmas.Bool.{cases_lt}
use Rattle.std.proofs.lemmas.Bool.Decides.{nat_tests}
use Rattle.hv_model.specs.declared.tree.PlaceAst.{PlaceAst}
use Rattle.hv_model.specs.declared.tree.KeyAst.{KeyAst}
use Rattle.hv_model.specs.declared.tree.ItemAst.{ItemAst}
use Rattle.hv_model.specs.declared.tree.SelectAst.{SelectAst}
use Rattle.hv_model.specs.declared.catalogue.TableHead.{TableHead}
use Rattle.hv_model.specs.declared.query.Item.{Item}
use Rattle.hv_model.specs.declared.reply.Refusal.{Refusal}
use Rattle.hv_model.specs.Scope.{place_refusal, refusal_behind, places_refusal}
use Rattle.hv_model.specs.Causes.{first_of}
use Rattle.hv_model.specs.Bound.{all_items, names_refusal, grouping_refusal, order_refusal, bind_refusal}
use Rattle.hv_bind.specs.declared.binding.BindFault.{BindFault}
use Rattle.hv_bind.specs.declared.binding.BindFault.TheVariants.{Refused, Memory}
use Rattle.hv_bind.specs.Cause.{IsFirstRefusal}
use Rattle.hv_bind.specs.Keys.{keys_refusal}

-- ---- points of which none stands

-- where the first or the other is none, there is neither
pub none_first : {X : Type 0} (a b : Option X) → option_or a b ≡ None → (a ≡ None) × (b ≡ None)
none_first None b e = (refl, e)
none_first (Some x) b e = absurd cc

-- nothing stands behind the last
pub none_behind : {X : Type 0} (o : Option X) → option_or o None ≡ o
none_behind None = refl
none_behind (Some x) = refl

-- ---- FROM places

-- the fifth place is refused
refused : (before : List PlaceAst) (at : ℕ) (absent : Option ℕ) (p : PlaceAst) (rest : Option Refusal) → 4 ≤ at → option_or (place_refusal before at absent p) rest ≡ None → ⊥
refused before at absent p rest le none =
    let past : nat_le 4 at ≡ true = grind (arith, nat_tests) in
    let none' = rw past at none in
    absurd cc

few_behind : (before : List PlaceAst) (at : ℕ) (absent : Option ℕ) (ps : List PlaceAst) → at ≤ 4 → refusal_behind before at absent ps ≡ None → at + length ps ≤ 4
few_behind before at absent [] in_range none = omega arith
few_behind before at absent (p ∷ ps) in_range none =
    elim (cases_lt at 4) [
      | inl lt ↦ omega (arith, few_behind (before ++ p ∷ []) (at + 1) absent ps (omega arith) (none_first (place_refusal before at absent p) (refusal_behind (before ++ p ∷ []) (at + 1) absent ps) none).1)
      | inr le ↦ absurd (refused before at absent p (refusal_behind (before ++ p ∷ []) (at + 1) absent ps) le none)
    ]

pub few_places : (ps : List PlaceAst) (absent : Option ℕ) → places_refusal ps absent ≡ None → length ps ≤ 4
few_places ps absent none = omega (arith, few_behind [] 0 absent ps (omega arith) none)

-- ---- the parts of a select

last_of : (a b c : Option Refusal) → a ≡ None → b ≡ None → first_of (a ∷ b ∷ c ∷ []) ≡ c
last_of a b c e f = ap (λ z. option_or z (option_or b (option_or c None))) e ∙ ap (λ z. option_or z (option_or c None)) f ∙ none_behind c

-- where names and plain columns are allowed, order keys are what is refused
order_last : (x : SelectAst) (heads : List TableHead) → names_refusal x heads ≡ None → grouping_refusal x heads ≡ None → bind_refusal x heads ≡ order_refusal x heads
order_last x heads e f = last_of (names_refusal x heads) (grouping_refusal x heads) (order_refusal x heads) e f

-- order keys over all items
order_of : (x : SelectAst) (heads : List TableHead) (places : List PlaceAst) (items : List Item) (keys : List KeyAst) → places ≡ x.places → items ≡ all_items x.places heads x.items → keys ≡ x.order → keys_refusal places heads items keys ≡ order_refusal x heads
order_of x heads places items keys p i k =
    ap (λ z. keys_refusal z heads items keys) p ∙ ap (λ z. keys_refusal x.places heads z keys) i ∙ ap (keys_refusal x.places heads (all_items x.places heads x.items)) k

-- where names and plain columns are allowed, what is refused is a key over the places and items that were made
pub keys_last : (x : SelectAst) (heads : List TableHead) (places : List PlaceAst) (asts : List ItemAst) (items made : List Item) (keys : List KeyAst) → None ≡ names_refusal x heads → None ≡ grouping_refusal x heads
    → places ≡ x.places → asts ≡ x.items → keys ≡ x.order → items ≡ made → made ≡ all_items places heads asts → keys_refusal places heads items keys ≡ bind_refusal x heads
keys_last x heads places asts items made keys names grouping p a k same m =
    let are : items ≡ all_items x.places heads x.items = same ∙ m ∙ ap (λ z. all_items z heads asts) p ∙ ap (all_items x.places heads) a in
    order_of x heads places items keys p are k ∙ sym (order_last x heads (sym names) (sym grouping))

-- what explains a refusal explains the same
pub first_refusal_same : (a b : Option Refusal) (fault : BindFault) → a ≡ b → IsFirstRefusal a fault → IsFirstRefusal b fault
first_refusal_same a b (Refused r) e h = sym e ∙ h
first_refusal_same a b Memory e h = tt
