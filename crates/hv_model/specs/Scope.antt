-- How the names of a select are resolved against the tables of its FROM places. ISO/IEC 9075, from clause and column reference; that at most four
-- places stand and that names are compared byte for byte is this project's own.
use Rattle.std.specs.Prelude.{ℕ, ◌+◌, nat_le, nat_eq, Bool, false, List, [], ◌∷◌, ◌++◌, Option, Some, None, Result, Ok, Err, position, slice_get, if◌then◌else◌}
use Rattle.std.specs.List.{list_any, cons_option}
use Rattle.std.specs.Option.{option_map, option_and_then, option_or}
use Rattle.hv_row.specs.declared.schema.Column.{Column}
use Rattle.hv_row.specs.Schema.{same_name}
use Rattle.hv_model.specs.declared.tree.Word.{Word}
use Rattle.hv_model.specs.declared.tree.PlaceAst.{PlaceAst}
use Rattle.hv_model.specs.declared.tree.RefAst.{RefAst}
use Rattle.hv_model.specs.declared.catalogue.TableHead.{TableHead}
use Rattle.hv_model.specs.declared.query.ColRef.{ColRef}
use Rattle.hv_model.specs.declared.reply.Refusal.{Refusal}
use Rattle.hv_model.specs.declared.reply.Refusal.TheVariants.{NoTable, TooManyPlaces, DuplicateAlias, NoColumn, Ambiguous}

-- a place's alias; without one it is the table's name
abbrev pub alias_or : Option Word → Word → Word
alias_or None table = table
alias_or (Some alias) table = alias

abbrev pub alias_of : PlaceAst → Word
alias_of p = alias_or p.alias p.table

-- whether a place is the one of which this says the number
abbrev pub is_number : Option ℕ → ℕ → Bool
is_number None at = false
is_number (Some n) at = nat_eq n at

-- whether one of the places has this alias
abbrev pub has_alias : List PlaceAst → List ℕ → Bool
has_alias places alias = list_any (λ p. same_name (alias_of p).name alias) places

-- the first refusal of a place, with those before it: more than four, no table, an alias that stood before
abbrev pub place_refusal : List PlaceAst → ℕ → Option ℕ → PlaceAst → Option Refusal
place_refusal before at absent p =
    if nat_le 4 at then Some (TooManyPlaces p.table.byte)
    else (if is_number absent at then Some (NoTable p.table.byte)
    else (if has_alias before (alias_of p).name then Some (DuplicateAlias (alias_of p).byte) else None))

-- the first refusal of places from left to right, behind others
abbrev pub refusal_behind : List PlaceAst → ℕ → Option ℕ → List PlaceAst → Option Refusal
refusal_behind before at absent [] = None
refusal_behind before at absent (p ∷ ps) = option_or (place_refusal before at absent p) (refusal_behind (before ++ p ∷ []) (at + 1) absent ps)

-- the first refusal of FROM places, where `absent` is the number, from 0, of the first among the first four whose table doesn't stand
abbrev pub places_refusal : List PlaceAst → Option ℕ → Option Refusal
places_refusal places absent = refusal_behind [] 0 absent places

-- the number of the column of a name
abbrev pub column_number : List Column → List ℕ → Option ℕ
column_number columns name = position (λ c. same_name c.name name) columns

-- a column of a place, by its number
abbrev pub column_at : ℕ → ℕ → ColRef
column_at place column = record { place = place; column = column }

-- the columns of a name, of the places from the `at`-th on
abbrev pub columns_named : ℕ → List TableHead → List ℕ → List ColRef
columns_named at [] name = []
columns_named at (h ∷ heads) name = cons_option (option_map (column_at at) (column_number h.schema name)) (columns_named (at + 1) heads name)

-- the one of a list of columns: none is absent, two or more are ambiguous
abbrev pub the_one : List ColRef → ℕ → Result ColRef Refusal
the_one [] byte = Err (NoColumn byte)
the_one (c ∷ []) byte = Ok c
the_one (c ∷ d ∷ cs) byte = Err (Ambiguous byte)

-- a column that is there, or its absence
abbrev pub or_absent : Option ColRef → ℕ → Result ColRef Refusal
or_absent None byte = Err (NoColumn byte)
or_absent (Some c) byte = Ok c

-- the number of the place of an alias
abbrev pub place_number : List PlaceAst → List ℕ → Option ℕ
place_number places alias = position (λ p. same_name (alias_of p).name alias) places

-- the column of a name in the place of a number
abbrev pub column_in : List TableHead → List ℕ → ℕ → Option ColRef
column_in heads name place = option_and_then (λ h. option_map (column_at place) (column_number h.schema name)) (slice_get heads place)

-- the column that a name means, behind an alias or alone
abbrev pub meant : List PlaceAst → List TableHead → Option (List ℕ) → List ℕ → ℕ → Result ColRef Refusal
meant places heads None name byte = the_one (columns_named 0 heads name) byte
meant places heads (Some alias) name byte = or_absent (option_and_then (column_in heads name) (place_number places alias)) byte

-- the column that a reference names, or its refusal
abbrev pub resolved : List PlaceAst → List TableHead → RefAst → Result ColRef Refusal
resolved places heads r = meant places heads r.alias r.column r.byte

-- the columns of all places, in order
abbrev pub columns_from : ℕ → ℕ → List Column → List ColRef
columns_from place at [] = []
columns_from place at (_ ∷ columns) = column_at place at ∷ columns_from place (at + 1) columns

abbrev pub columns_of_places : ℕ → List TableHead → List ColRef
columns_of_places at [] = []
columns_of_places at (h ∷ heads) = columns_from at 0 h.schema ++ columns_of_places (at + 1) heads

abbrev pub all_columns : List TableHead → List ColRef
all_columns heads = columns_of_places 0 heads
