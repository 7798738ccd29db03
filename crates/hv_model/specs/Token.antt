-- The tokens of a statement's text. This project's own, after the lexical elements of ISO/IEC 9075.
use Rattle.std.specs.Prelude.{ℕ, Bool, false, not, ◌||◌, ◌&&◌, ◌==◌, nat_le, nat_eq, IsTrue, List, [], ◌∷◌, length, map, codes}
use Rattle.std.specs.List.{list_any, list_all}
use Rattle.std.specs.Char.{to_ascii_lowercase}
use Rattle.std.specs.Cmp.Lexicographic.{pointwise}

-- white space: space, tab, carriage return, line feed
abbrev pub is_white : ℕ → Bool
is_white b = b == 32 || b == 9 || b == 13 || b == 10

-- a digit, 0 to 9
abbrev pub is_digit : ℕ → Bool
is_digit b = nat_le 48 b && nat_le b 57

-- what a name may begin with: a letter or `_`
abbrev pub begins_name : ℕ → Bool
begins_name b = (nat_le 65 b && nat_le b 90) || (nat_le 97 b && nat_le b 122) || b == 95

-- what a name may go on with
abbrev pub is_name_byte : ℕ → Bool
is_name_byte b = begins_name b || is_digit b

-- whether a token is this word, in any case of its letters
abbrev pub is_word : List ℕ → List ℕ → Bool
is_word word token = pointwise nat_eq (map to_ascii_lowercase token) (map to_ascii_lowercase word)

-- the words that no name may be
abbrev pub keywords : List (List ℕ)
keywords =
    codes "AND" ∷ codes "AS" ∷ codes "ASC" ∷ codes "BARRIER" ∷ codes "BY" ∷ codes "CHUNK" ∷ codes "CHUNKS" ∷ codes "COUNT" ∷ codes "CREATE"
    ∷ codes "DESC" ∷ codes "FROM" ∷ codes "GROUP" ∷ codes "IMPORT" ∷ codes "INDEX" ∷ codes "INT" ∷ codes "INTO" ∷ codes "IS" ∷ codes "LIMIT"
    ∷ codes "LINES" ∷ codes "MAX" ∷ codes "MERGE" ∷ codes "MIN" ∷ codes "NOT" ∷ codes "NULL" ∷ codes "OF" ∷ codes "OR" ∷ codes "ORDER"
    ∷ codes "PURGE" ∷ codes "RANGE" ∷ codes "SELECT" ∷ codes "SESSION" ∷ codes "SUM" ∷ codes "SUMMARY" ∷ codes "TABLE" ∷ codes "TEXT"
    ∷ codes "WHERE" ∷ []

-- whether a token is a keyword
abbrev pub is_keyword : List ℕ → Bool
is_keyword token = list_any (λ word. is_word word token) keywords

-- whether the token begins as a name does
abbrev pub begins_as_name : List ℕ → Bool
begins_as_name [] = false
begins_as_name (b ∷ _) = begins_name b

-- whether bytes are a name: they begin as one, each is a letter, a digit or `_`, they are at most 30 and no keyword
abbrev pub is_name : List ℕ → Bool
is_name token = begins_as_name token && list_all is_name_byte token && nat_le (length token) 30 && not (is_keyword token)

-- what each name has: letters, digits and `_` alone
abbrev pub IsPlain : List ℕ → Type 0
IsPlain name = IsTrue (list_all is_name_byte name)

-- whether bytes are one digit or more
abbrev pub is_number : List ℕ → Bool
is_number token = nat_le 1 (length token) && list_all is_digit token
