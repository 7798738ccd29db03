-- A keyword is found among those of its length.
use Rattle.std.proofs.Common.{◌≡◌, ℕ, Bool, true, false, List, [], ◌∷◌, length, map, if◌then◌else◌, refl, sym, ap, ◌∙◌}
use Rattle.std.specs.List.{find, filter}
use Rattle.std.specs.Char.{to_ascii_lowercase}
use Rattle.std.proofs.lemmas.Bool.{eq-eqb}
use Rattle.std.proofs.lemmas.List.{length-map}
use Rattle.std.proofs.lemmas.Slice.Eq.{bytes_eq-Decides}
use Rattle.hv_model.specs.declared.lexeme.Keyword.{Keyword}
use Rattle.hv_model.specs.Token.{is_word}
use Rattle.hv_model.specs.Lexemes.{all_keywords, keyword_spelling, keyword_of}
use Rattle.hv_sql.specs.Words.{has_length}

-- one more item, which the test finds only where the filter keeps it
find_step : {X : Type 0} (p : X → Bool) (x : X) (kept rest : List X) (b c : Bool) → p x ≡ b → (b ≡ true → c ≡ true) → find p kept ≡ find p rest
    → find p (if c then x ∷ kept else kept) ≡ find p (x ∷ rest)
find_step p x kept rest true true e f same = rw e refl
find_step p x kept rest true false e f same = let never : false ≡ true = f refl in absurd (cc)
find_step p x kept rest false true e f same = rw e same
find_step p x kept rest false false e f same = rw e same

-- what a test finds is found behind a filter that keeps all that it may find
find_kept : {X : Type 0} (p q : X → Bool) → ((x : X) → p x ≡ true → q x ≡ true) → (xs : List X) → find p (filter q xs) ≡ find p xs
find_kept p q within [] = refl
find_kept p q within (x ∷ xs) = find_step p x (filter q xs) xs (p x) (q x) refl (within x) (find_kept p q within xs)

-- a token has as many letters as the word that it is
word_length : (bytes : List ℕ) (w : Keyword) → is_word (keyword_spelling w) bytes ≡ true → has_length (length bytes) w ≡ true
word_length bytes w is =
    let same = (bytes_eq-Decides (map to_ascii_lowercase bytes) (map to_ascii_lowercase (keyword_spelling w))).0 is in
    let long : length (keyword_spelling w) ≡ length bytes =
    sym (length-map (keyword_spelling w) to_ascii_lowercase) ∙ ap length (sym same) ∙ length-map bytes to_ascii_lowercase in
    eq-eqb _ _ long

-- the keyword that bytes are
pub found_by_length : (bytes : List ℕ) → find (λ w. is_word (keyword_spelling w) bytes) (filter (has_length (length bytes)) all_keywords) ≡ keyword_of bytes
found_by_length bytes = find_kept (λ w. is_word (keyword_spelling w) bytes) (has_length (length bytes)) (word_length bytes) all_keywords
