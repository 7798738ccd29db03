-- A select at a database: the tables of its places, what it is refused for but for its rows, and its query. ISO/IEC 9075, query specification;
-- the order of refusals is this project's own.
use Rattle.std.specs.Prelude.{ℕ, Bool, List, [], ◌∷◌, take, Option, Some, None, is_none, position, slice_get}
use Rattle.std.specs.List.{cons_option}
use Rattle.std.specs.Option.{option_and_then, option_map}
use Rattle.hv_model.specs.declared.tree.PlaceAst.{PlaceAst}
use Rattle.hv_model.specs.declared.tree.SelectAst.{SelectAst}
use Rattle.hv_model.specs.declared.catalogue.Table.{Table}
use Rattle.hv_model.specs.declared.catalogue.TableHead.{TableHead}
use Rattle.hv_model.specs.declared.catalogue.Database.{Database}
use Rattle.hv_model.specs.declared.query.BoundQuery.{BoundQuery}
use Rattle.hv_model.specs.declared.reply.Refusal.{Refusal}
use Rattle.hv_model.specs.Database.{table_number}
use Rattle.hv_model.specs.Scope.{places_refusal}
use Rattle.hv_model.specs.Causes.{first_of}
use Rattle.hv_model.specs.Bound.{bind_refusal, bound_query}

-- the head of a table of a number
abbrev pub head_of : {C : Type 0} → ℕ → Table C → TableHead
head_of at t = record { number = at; name = t.name; schema = t.schema }

-- the head of the table of a name, where it stands
abbrev pub head_named : {C : Type 0} → Database C → List ℕ → Option TableHead
head_named s name = option_and_then (λ at. option_map (head_of at) (slice_get s.tables at)) (table_number s name)

-- the heads of the tables of places, as far as they stand
abbrev pub heads_of : {C : Type 0} → Database C → List PlaceAst → List TableHead
heads_of s [] = []
heads_of s (p ∷ ps) = cons_option (head_named s p.table.name) (heads_of s ps)

-- whether the table of a place doesn't stand
abbrev pub is_absent : {C : Type 0} → Database C → PlaceAst → Bool
is_absent s p = is_none (table_number s p.table.name)

-- the number, from 0, of the first among the first four places whose table doesn't stand
abbrev pub first_absent : {C : Type 0} → Database C → List PlaceAst → Option ℕ
first_absent s places = position (is_absent s) (take 4 places)

-- the first refusal of a select but for what its rows decide: its places from left to right, then names and types, plain columns, order keys
abbrev pub select_refusal : {C : Type 0} → SelectAst → Database C → Option Refusal
select_refusal x s = first_of (places_refusal x.places (first_absent s x.places) ∷ bind_refusal x (heads_of s x.places) ∷ [])

-- a query, where nothing refuses it
abbrev pub unless_refused : Option Refusal → BoundQuery → Option BoundQuery
unless_refused None q = Some q
unless_refused (Some r) q = None

-- the query of a select
abbrev pub select_query : {C : Type 0} → SelectAst → Database C → Option BoundQuery
select_query x s = unless_refused (select_refusal x s) (bound_query x (heads_of s x.places))
