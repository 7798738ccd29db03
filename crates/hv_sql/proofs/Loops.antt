-- A list that is read in a loop: what stands behind a list so far, read further.
use Rattle.std.proofs.Common.{◌≡◌, ℕ, zero, suc, ◌-◌, ◌<◌, true, false, List, [], ◌∷◌, ◌++◌, refl, sym, ◌∙◌, ap, append_assoc, append-nil, arith}
use Rattle.std.specs.Prelude.{Ok, Err, if◌then◌else◌}
use Rattle.hv_model.specs.declared.lexeme.Lexeme.{Lexeme}
use Rattle.hv_model.specs.declared.lexeme.Kind.{Kind}
use Rattle.hv_model.specs.Reading.{Read, Reader, on_read, ◌>>=◌, gives_at, next_is, more_up_to_at}
use Rattle.hv_sql.specs.declared.stop.Stop.{Stop}
use Rattle.hv_sql.specs.declared.stop.Stop.TheVariants.{Memory, At}
use Rattle.hv_sql.specs.Code.{Gives, with_front}

module _ {A B : Type 0} (n : Kind) (s : Reader B) (p : Reader A) where
  -- what one turn reads, and then the rest
  abbrev pub turn : ℕ → A → Reader (List A)
  turn room x = more_up_to_at room n s p >>= λ xs. gives_at (x ∷ xs)

  pushed : (list : List A) (x : A) (r : Read (List A)) → with_front list (on_read (λ xs. gives_at (x ∷ xs)) r) ≡ with_front (list ++ x ∷ []) r
  pushed list x (Ok y) = ap (λ z. Ok (z, y.1)) (sym (append_assoc list (x ∷ []) y.0))
  pushed list x (Err at) = refl

  turns : (room : ℕ) (lexemes us : List Lexeme) (b : B) → next_is n lexemes ≡ true → s lexemes ≡ Ok (b, us)
      → more_up_to_at (suc room) n s p lexemes ≡ on_read (turn room) (p us)
  turns room lexemes us b t e =
      ap (λ z. if z then on_read (λ _. p >>= turn room) (s lexemes) else Ok ([], lexemes)) t ∙ ap (on_read (λ _. p >>= turn room)) e

  pub one_more : (left : ℕ) (list : List A) (lexemes us vs : List Lexeme) (b : B) (x : A) → 0 < left → next_is n lexemes ≡ true → s lexemes ≡ Ok (b, us) → p us ≡ Ok (x, vs)
      → with_front list (more_up_to_at left n s p lexemes) ≡ with_front (list ++ x ∷ []) (more_up_to_at (left - 1) n s p vs)
  one_more zero list lexemes us vs b x h t e f = absurd (omega arith)
  one_more (suc room) list lexemes us vs b x h t e f =
      let less : suc room - 1 ≡ room = omega arith in
      ap (with_front list) (turns room lexemes us b t e ∙ ap (on_read (turn room)) f)
      ∙ pushed list x (more_up_to_at room n s p vs)
      ∙ ap (λ z. with_front (list ++ x ∷ []) (more_up_to_at z n s p vs)) (sym less)

  pub one_fails : (left : ℕ) (list : List A) (lexemes us at : List Lexeme) (b : B) → 0 < left → next_is n lexemes ≡ true → s lexemes ≡ Ok (b, us) → p us ≡ Err at
      → with_front list (more_up_to_at left n s p lexemes) ≡ Err at
  one_fails zero list lexemes us at b h t e f = absurd (omega arith)
  one_fails (suc room) list lexemes us at b h t e f = ap (with_front list) (turns room lexemes us b t e ∙ ap (on_read (turn room)) f)

  -- what stops the reading of one tree stops the list
  pub one_stops : (e : Stop) (left : ℕ) (list : List A) (lexemes us : List Lexeme) (b : B) → 0 < left
      → next_is n lexemes ≡ true → s lexemes ≡ Ok (b, us) → Gives {A = A} (Err e) (p us) → Gives {A = List A} (Err e) (with_front list (more_up_to_at left n s p lexemes))
  one_stops Memory left list lexemes us b h t f e = tt
  one_stops (At at) left list lexemes us b h t f e = one_fails left list lexemes us at b h t f e

  pub room_ends : (list : List A) (lexemes : List Lexeme) → with_front list (more_up_to_at 0 n s p lexemes) ≡ Ok (list, lexemes)
  room_ends list lexemes = ap (λ z. Ok (z, lexemes)) (append-nil list)

  pub list_ends : (left : ℕ) (list : List A) (lexemes : List Lexeme) → next_is n lexemes ≡ false → with_front list (more_up_to_at left n s p lexemes) ≡ Ok (list, lexemes)
  list_ends zero list lexemes e = room_ends list lexemes
  list_ends (suc room) list lexemes e =
      ap (λ z. with_front list (if z then on_read (λ _. p >>= turn room) (s lexemes) else Ok ([], lexemes))) e ∙ room_ends list lexemes
