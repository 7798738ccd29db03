-- A select that is grouped has one place.
use Rattle.std.proofs.Common.{◌≡◌, true, false, Bool, ◌||◌, List, [], ◌∷◌, length, refl, sym, ◌∙◌, ap, subst, inl, inr}
use Rattle.std.specs.List.{list_any}
use Rattle.std.proofs.lemmas.Bool.{false≢true}
use Rattle.hv_model.specs.declared.lexeme.Lexeme.{Lexeme}
use Rattle.hv_model.specs.declared.tree.Ast.{Ast}
use Rattle.hv_model.specs.declared.tree.Ast.TheVariants.{Select}
use Rattle.hv_model.specs.declared.tree.SelectAst.{SelectAst}
use Rattle.hv_model.specs.declared.tree.RefAst.{RefAst}
use Rattle.hv_model.specs.declared.tree.PlaceAst.{PlaceAst}
use Rattle.hv_model.specs.Bound as bound
use Rattle.hv_model.specs.Sql.{is_aggregate, places, groups_of, create, import, purge, merge, session, barrier, select, statement}
use Rattle.hv_sql.specs.Laws.{OnePlace}
use Rattle.hv_sql.proofs.OneReading.{trees_sound}

-- with an aggregate there is one place
aggregate_place : (lexemes rest : List Lexeme) (ps : List PlaceAst) → places true lexemes rest ps → length ps ≡ 1
unfolding places
aggregate_place lexemes rest ps p = sym (ap length p.second.1)

-- and before GROUP BY
group_place : (lexemes rest : List Lexeme) (ps : List PlaceAst) (gs : List RefAst) → groups_of ps lexemes rest gs → bound.is_any gs ≡ true → length ps ≡ 1
unfolding groups_of
group_place lexemes rest [] gs g any = absurd (false≢true (ap bound.is_any g.1 ∙ any))
group_place lexemes rest (p ∷ []) gs g any = refl
group_place lexemes rest (p ∷ q ∷ ps) gs g any = absurd (false≢true (ap bound.is_any g.1 ∙ any))

either : (aggregate : Bool) (lexemes middle behind rest : List Lexeme) (ps : List PlaceAst) (gs : List RefAst) → places aggregate lexemes middle ps → groups_of ps behind rest gs
    → (bound.is_any gs || aggregate) ≡ true → length ps ≡ 1
either true lexemes middle behind rest ps gs p g any = aggregate_place lexemes middle ps p
either false lexemes middle behind rest ps gs p g any = group_place behind rest ps gs g (or_false (bound.is_any gs) any)
  where
    or_false : (a : Bool) → (a || false) ≡ true → a ≡ true
    or_false true e = refl
    or_false false e = e

-- a select is no other statement
select_is : (x y : SelectAst) → ◌≡◌ {A = Ast} (Select y) (Select x) → y ≡ x
select_is x y e = cc

of_select : (lexemes rest : List Lexeme) (x : SelectAst) → select lexemes rest (Select x) → bound.is_grouped x ≡ true → length x.places ≡ 1
unfolding select
of_select lexemes rest x s =
    let items = s.second in
    let ps = items.second.second in
    let gs = ps.second.second in
    let read = gs.second.second.1 in
    subst (λ (y : SelectAst). bound.is_grouped y ≡ true → length y.places ≡ 1) (select_is x _ read)
    (either (list_any is_aggregate items.value) _ _ _ _ ps.value gs.value ps.first gs.first)

no_create : (lexemes : List Lexeme) (x : SelectAst) → create lexemes [] (Select x) → ⊥
unfolding create
no_create lexemes x s = let e = s.second.second.second.second.second.second.1 in cc

no_import : (lexemes : List Lexeme) (x : SelectAst) → import lexemes [] (Select x) → ⊥
unfolding import
no_import lexemes x s = let e = s.second.second.second.second.second.1 in cc

no_purge : (lexemes : List Lexeme) (x : SelectAst) → purge lexemes [] (Select x) → ⊥
unfolding purge
no_purge lexemes x s = let e = s.second.second.second.second.second.1 in cc

no_merge : (lexemes : List Lexeme) (x : SelectAst) → merge lexemes [] (Select x) → ⊥
unfolding merge
no_merge lexemes x s = let e = s.second.second.second.second.second.second.second.1 in cc

no_session : (lexemes : List Lexeme) (x : SelectAst) → session lexemes [] (Select x) → ⊥
unfolding session
no_session lexemes x s = let e = s.second.second.1 in cc

no_barrier : (lexemes : List Lexeme) (x : SelectAst) → barrier lexemes [] (Select x) → ⊥
unfolding barrier
no_barrier lexemes x s = let e = s.second.1 in cc

of_statement : (lexemes : List Lexeme) (x : SelectAst) → statement lexemes [] (Select x) → select lexemes [] (Select x)
unfolding statement
of_statement lexemes x (inl s) = absurd (no_create lexemes x s)
of_statement lexemes x (inr (inl s)) = absurd (no_import lexemes x s)
of_statement lexemes x (inr (inr (inl s))) = absurd (no_purge lexemes x s)
of_statement lexemes x (inr (inr (inr (inl s)))) = absurd (no_merge lexemes x s)
of_statement lexemes x (inr (inr (inr (inr (inl s))))) = absurd (no_session lexemes x s)
of_statement lexemes x (inr (inr (inr (inr (inr (inl s)))))) = absurd (no_barrier lexemes x s)
of_statement lexemes x (inr (inr (inr (inr (inr (inr s)))))) = s

pub one_place : OnePlace
one_place lexemes x e grouped = of_select lexemes [] x (of_statement lexemes x (trees_sound lexemes (Select x) e)) grouped
