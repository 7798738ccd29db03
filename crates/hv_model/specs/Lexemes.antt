-- The tokens of a text, each the longest at its place. This project's own, after the lexical elements of ISO/IEC 9075.
use Rattle.std.specs.Prelude.{◌≡◌, ◌⊎◌, ℕ, ◌+◌, ◌-◌, ◌<◌, ◌≤◌, zero, suc, Bool, true, false, not, ◌||◌, ◌&&◌, ◌==◌, nat_le, nat_eq, List, [], ◌∷◌, ◌++◌, length, take, drop, Option, Some, is_some, ◌↔◌, codes, if◌then◌else◌}
use Rattle.std.specs.List.{list_any, list_all, find, slice_range}
use Rattle.std.specs.Cmp.Lexicographic.{pointwise}
use Rattle.std.specs.Str.{IsUtf8, is_utf8}
use Rattle.hv_model.specs.declared.lexeme.Sort.{Sort}
use Rattle.hv_model.specs.declared.lexeme.Sort.TheVariants as sort
use Rattle.hv_model.specs.declared.lexeme.Token.{Token}
use Rattle.hv_model.specs.Token.{is_white, is_name_byte, begins_as_name, is_keyword, is_name, is_number, is_word}
use Rattle.hv_model.specs.declared.lexeme.Keyword.{Keyword}
use Rattle.hv_model.specs.declared.lexeme.Keyword.TheVariants as word
use Rattle.hv_model.specs.declared.lexeme.Symbol.{Symbol}
use Rattle.hv_model.specs.declared.lexeme.Symbol.TheVariants as symbol

-- how a keyword is written, in any case of its letters
abbrev pub keyword_spelling : Keyword → List ℕ
keyword_spelling word.And = codes "AND"
keyword_spelling word.As = codes "AS"
keyword_spelling word.Asc = codes "ASC"
keyword_spelling word.Barrier = codes "BARRIER"
keyword_spelling word.By = codes "BY"
keyword_spelling word.Chunk = codes "CHUNK"
keyword_spelling word.Chunks = codes "CHUNKS"
keyword_spelling word.Count = codes "COUNT"
keyword_spelling word.Create = codes "CREATE"
keyword_spelling word.Desc = codes "DESC"
keyword_spelling word.From = codes "FROM"
keyword_spelling word.Group = codes "GROUP"
keyword_spelling word.Import = codes "IMPORT"
keyword_spelling word.Index = codes "INDEX"
keyword_spelling word.Int = codes "INT"
keyword_spelling word.Into = codes "INTO"
keyword_spelling word.Is = codes "IS"
keyword_spelling word.Limit = codes "LIMIT"
keyword_spelling word.Lines = codes "LINES"
keyword_spelling word.Max = codes "MAX"
keyword_spelling word.Merge = codes "MERGE"
keyword_spelling word.Min = codes "MIN"
keyword_spelling word.Not = codes "NOT"
keyword_spelling word.Null = codes "NULL"
keyword_spelling word.Of = codes "OF"
keyword_spelling word.Or = codes "OR"
keyword_spelling word.Order = codes "ORDER"
keyword_spelling word.Purge = codes "PURGE"
keyword_spelling word.Range = codes "RANGE"
keyword_spelling word.Select = codes "SELECT"
keyword_spelling word.Session = codes "SESSION"
keyword_spelling word.Sum = codes "SUM"
keyword_spelling word.Summary = codes "SUMMARY"
keyword_spelling word.Table = codes "TABLE"
keyword_spelling word.Text = codes "TEXT"
keyword_spelling word.Where = codes "WHERE"

-- all of them
abbrev pub all_keywords : List Keyword
all_keywords =
    word.And ∷ word.As ∷ word.Asc ∷ word.Barrier ∷ word.By ∷ word.Chunk ∷ word.Chunks ∷ word.Count ∷ word.Create ∷ word.Desc ∷ word.From ∷ word.Group
    ∷ word.Import ∷ word.Index ∷ word.Int ∷ word.Into ∷ word.Is ∷ word.Limit ∷ word.Lines ∷ word.Max ∷ word.Merge ∷ word.Min ∷ word.Not ∷ word.Null
    ∷ word.Of ∷ word.Or ∷ word.Order ∷ word.Purge ∷ word.Range ∷ word.Select ∷ word.Session ∷ word.Sum ∷ word.Summary ∷ word.Table ∷ word.Text
    ∷ word.Where ∷ []

-- which keyword bytes are
abbrev pub keyword_of : List ℕ → Option Keyword
keyword_of bytes = find (λ w. is_word (keyword_spelling w) bytes) all_keywords

-- how a symbol is written
abbrev pub symbol_spelling : Symbol → List ℕ
symbol_spelling symbol.Open = codes "("
symbol_spelling symbol.Close = codes ")"
symbol_spelling symbol.Comma = codes ","
symbol_spelling symbol.Dot = codes "."
symbol_spelling symbol.Star = codes "*"
symbol_spelling symbol.Minus = codes "-"
symbol_spelling symbol.Equal = codes "="
symbol_spelling symbol.Unequal = codes "<>"
symbol_spelling symbol.NotEqual = codes "!="
symbol_spelling symbol.Less = codes "<"
symbol_spelling symbol.AtMost = codes "<="
symbol_spelling symbol.Greater = codes ">"
symbol_spelling symbol.AtLeast = codes ">="

-- all of them
abbrev pub all_symbols : List Symbol
all_symbols =
    symbol.Open ∷ symbol.Close ∷ symbol.Comma ∷ symbol.Dot ∷ symbol.Star ∷ symbol.Minus ∷ symbol.Equal ∷ symbol.Unequal ∷ symbol.NotEqual ∷ symbol.Less
    ∷ symbol.AtMost ∷ symbol.Greater ∷ symbol.AtLeast ∷ []

-- which symbol bytes are
abbrev pub symbol_of : List ℕ → Option Symbol
symbol_of bytes = find (λ m. pointwise nat_eq bytes (symbol_spelling m)) all_symbols

-- whether bytes are a symbol
unfoldable pub is_symbol : List ℕ → Bool
is_symbol bytes = list_any (λ m. pointwise nat_eq bytes (symbol_spelling m)) all_symbols

-- whether bytes are a run: a letter or `_`, and letters, digits or `_` behind it
unfoldable pub is_run : List ℕ → Bool
is_run bytes = begins_as_name bytes && list_all is_name_byte bytes

-- whether bytes behind an opening quote close the text with the last of them, where each other quote stands twice; `pending` says that
-- a quote stands right in front of them which either closes the text or is the first of two
abbrev pub closes : Bool → List ℕ → Bool
closes pending [] = pending
closes pending (b ∷ bs) = if b == 39 then closes (not pending) bs else (if pending then false else closes false bs)

-- whether bytes are `'`, bytes with `'` written twice, `'`
abbrev pub is_quoted : List ℕ → Bool
is_quoted [] = false
is_quoted (b ∷ bs) = b == 39 && closes false bs

-- whether bytes are a text
abbrev pub is_text : List ℕ → Bool
is_text bytes = is_quoted bytes && is_utf8 bytes

-- whether bytes hold together as one token
unfoldable pub is_lexeme : List ℕ → Bool
is_lexeme bytes = is_run bytes || is_number bytes || is_quoted bytes || is_symbol bytes

-- the length of the longest token that bytes begin with, of those of at most so many bytes; 1 where there is none
abbrev pub longest : ℕ → List ℕ → ℕ
longest zero bytes = 1
longest (suc n) bytes = if is_lexeme (take (suc n) bytes) then suc n else longest n bytes

-- the length of the longest token that bytes begin with; a byte that begins none is a token by itself
unfoldable pub token_length : List ℕ → ℕ
token_length bytes = longest (length bytes) bytes

-- what sort of token bytes are; a run of more than 30 bytes, a text that isn't UTF-8 and a byte by itself are none that a statement has
unfoldable pub sort_of : List ℕ → Sort
sort_of bytes =
    if is_keyword bytes then sort.Keyword
    else (if is_run bytes && nat_le (length bytes) 30 then sort.Name
    else (if is_number bytes then sort.Number
    else (if is_text bytes then sort.Text
    else (if is_symbol bytes then sort.Symbol else sort.Other))))

-- the token that bytes at a place begin with
abbrev pub token_at : ℕ → List ℕ → Token
token_at at bytes = record { sort = sort_of (take (token_length bytes) bytes); from = at; to = at + token_length bytes }

-- the tokens of the bytes from a place on, token after token; `passed` says how many of the bytes belong to the token before, and white
-- space is passed over
abbrev pub tokens_from : ℕ → ℕ → List ℕ → List Token
tokens_from at passed [] = []
tokens_from at (suc passed) (b ∷ bs) = tokens_from (at + 1) passed bs
tokens_from at zero (b ∷ bs) =
    if is_white b then tokens_from (at + 1) 0 bs else token_at at (b ∷ bs) ∷ tokens_from (at + 1) (token_length (b ∷ bs) - 1) bs

-- the tokens of a text
abbrev pub tokens_of : List ℕ → List Token
tokens_of text = tokens_from 0 0 text

-- the bytes of a token
abbrev pub bytes_of : List ℕ → Token → List ℕ
bytes_of text token = slice_range text token.from token.to

-- what a text's bytes behind its opening quote stand for: without the closing quote, and of two quotes one
abbrev pub unquoted : Bool → List ℕ → List ℕ
unquoted pending [] = []
unquoted pending (b ∷ bs) = if b == 39 && not pending then unquoted true bs else b ∷ unquoted false bs

-- the value of a text
abbrev pub text_value : List ℕ → List ℕ
text_value [] = []
text_value (b ∷ bs) = unquoted false bs

-- a value as it is written in a text
abbrev pub doubled : List ℕ → List ℕ
doubled [] = []
doubled (b ∷ bs) = if b == 39 then 39 ∷ 39 ∷ doubled bs else b ∷ doubled bs

abbrev pub quoted : List ℕ → List ℕ
quoted value = 39 ∷ (doubled value ++ 39 ∷ [])

-- bytes are a token of this sort that a statement may have; of the sort Other there is none
abbrev pub IsA : Sort → List ℕ → Type 0
IsA sort.Name bytes = is_name bytes ≡ true
IsA sort.Keyword bytes = is_keyword bytes ≡ true
IsA sort.Number bytes = is_number bytes ≡ true
IsA sort.Text bytes = (is_quoted bytes ≡ true) × IsUtf8 bytes
IsA sort.Symbol bytes = is_symbol bytes ≡ true
IsA sort.Other bytes = ⊥

-- bytes are of this sort: of the sort Other if they are of none that a statement may have
abbrev pub IsOf : Sort → List ℕ → Type 0
IsOf sort.Name bytes = IsA sort.Name bytes
IsOf sort.Keyword bytes = IsA sort.Keyword bytes
IsOf sort.Number bytes = IsA sort.Number bytes
IsOf sort.Text bytes = IsA sort.Text bytes
IsOf sort.Symbol bytes = IsA sort.Symbol bytes
IsOf sort.Other bytes = (s : Sort) → IsA s bytes → ⊥

-- the first n of the bytes are the longest token that they begin with, or one byte where they begin with none
pub record IsLongest (bytes : List ℕ) (n : ℕ) : Type 0 where
  pub some : 0 < n
  pub within : n ≤ length bytes
  pub whole : (is_lexeme (take n bytes) ≡ true) ⊎ ((n ≡ 1) × ((m : ℕ) → m ≤ length bytes → is_lexeme (take m bytes) ≡ false))
  pub longer : (m : ℕ) → n < m → m ≤ length bytes → is_lexeme (take m bytes) ≡ false
  pub no_longer : (m : ℕ) (s : Sort) → n < m → m ≤ length bytes → IsA s (take m bytes) → ⊥

-- the tokens stand in order from a place on up to an end, none in another, and each has a byte or more
abbrev pub InOrder : ℕ → ℕ → List Token → Type 0
InOrder at end [] = at ≤ end
InOrder at end (t ∷ ts) = (at ≤ t.from) × (t.from < t.to) × InOrder t.to end ts

-- every byte from a place on that is in no token is white
abbrev pub WhiteBetween : List ℕ → ℕ → List Token → Type 0
WhiteBetween text at [] = list_all is_white (drop at text) ≡ true
WhiteBetween text at (t ∷ ts) = (list_all is_white (slice_range text at t.from) ≡ true) × WhiteBetween text t.to ts

-- each token is of its sort, and the longest at its place, which is not white
abbrev pub EachToken : List ℕ → List Token → Type 0
EachToken text [] = Unit {0}
EachToken text (t ∷ ts) =
    IsOf t.sort (bytes_of text t) × IsLongest (drop t.from text) (t.to - t.from) × (list_any is_white (take 1 (drop t.from text)) ≡ false) × EachToken text ts

-- the law of the tokens of a text
abbrev pub TokensInOrder : Type 0
TokensInOrder = (text : List ℕ) → InOrder 0 (length text) (tokens_of text)

abbrev pub NothingLost : Type 0
NothingLost = (text : List ℕ) → WhiteBetween text 0 (tokens_of text)

abbrev pub TokensLongest : Type 0
TokensLongest = (text : List ℕ) → EachToken text (tokens_of text)

-- what holds of tokens that a statement may have: they hold together
abbrev pub TokensHold : Type 0
TokensHold = (s : Sort) (bytes : List ℕ) → IsA s bytes → is_lexeme bytes ≡ true

-- the keywords and the symbols: a word is named where it is one, and each by its own spelling
abbrev pub KeywordsNamed : Type 0
KeywordsNamed = (bytes : List ℕ) → is_some (keyword_of bytes) ≡ is_keyword bytes

abbrev pub KeywordsSpelled : Type 0
KeywordsSpelled = (w : Keyword) → keyword_of (keyword_spelling w) ≡ Some w

abbrev pub SymbolsNamed : Type 0
SymbolsNamed = (bytes : List ℕ) → is_some (symbol_of bytes) ≡ is_symbol bytes

abbrev pub SymbolsSpelled : Type 0
SymbolsSpelled = (s : Symbol) (bytes : List ℕ) → (symbol_of bytes ≡ Some s) ↔ (bytes ≡ symbol_spelling s)

-- a text is what its value is written as, and what a value is written as is a text
abbrev pub TextsWritten : Type 0
TextsWritten = (bytes : List ℕ) → is_quoted bytes ≡ true → quoted (text_value bytes) ≡ bytes

abbrev pub ValuesRead : Type 0
ValuesRead = (value : List ℕ) → (is_quoted (quoted value) ≡ true) × (text_value (quoted value) ≡ value)
