-- What stands before a fault is completed by words behind it.
use Rattle.std.proofs.Common.{◌≡◌, ℕ, ◌+◌, ◌-◌, ◌<◌, ◌≤◌, true, false, List, [], ◌∷◌, ◌++◌, length, take, drop, refl, ap, sym, ◌∙◌, subst, arith, length-drop, append_assoc, length-take-le}
use Rattle.std.specs.Prelude.{nat_lt}
use Rattle.std.specs.List.{slice_range}
use Rattle.std.proofs.lemmas.Bool.{cond-true, cond-false}
use Rattle.std.proofs.lemmas.Bool.Decides.{nat_tests}
use Rattle.std.proofs.lemmas.List.{drop-append-le, take-append-le, take-append-drop, map-append}
use Rattle.std.proofs.Math.Seq.{take-append_seam}
use Rattle.std.proofs.lemmas.List.{append_cancel_right}
use Rattle.hv_model.specs.declared.lexeme.Token.{Token}
use Rattle.hv_model.specs.declared.lexeme.Lexeme.{Lexeme}
use Rattle.hv_model.specs.Lexemes.{tokens_from, tokens_of, InOrder}
use Rattle.hv_model.specs.Lexed.{what_of, lexeme_of, lexemes_of, lexemes}
use Rattle.hv_model.specs.Fault.{IsStatement, IsFaultBy, place_of}
use Rattle.hv_sql.specs.Completion.{before, Completed, FaultsCompleted, FaultsFinal}
use Rattle.hv_sql.proofs.Plain.{is_plain}
use Rattle.hv_sql.proofs.LexingLaws.{order_le, tokens_in_order}
use Rattle.hv_sql.proofs.Cut.{EndsBy, starts_at, Cut, cut}
use Rattle.hv_sql.proofs.Spelt.{spelt, spelt_apart, spelt_whats}
use Rattle.hv_sql.proofs.OneReading.{plain_fault, faults_complete}

-- tokens in two parts, as their lexemes are
record Parts (text : List ℕ) (tokens : List Token) (front at : List Lexeme) : Type 0 where
  pub left : List Token
  pub right : List Token
  pub is : tokens ≡ left ++ right
  pub left_is : lexemes_of text left ≡ front
  pub right_is : lexemes_of text right ≡ at

in_parts : (text : List ℕ) (tokens : List Token) (front at : List Lexeme) → lexemes_of text tokens ≡ front ++ at → Parts text tokens front at
in_parts text tokens [] at e = record { left = []; right = tokens; is = refl; left_is = refl; right_is = e }
in_parts text [] (f ∷ front) at e = absurd cc
in_parts text (t ∷ tokens) (f ∷ front) at e =
    let rest = in_parts text tokens front at (tails e) in
    record {
      left = t ∷ rest.left;
      right = rest.right;
      is = ap (λ (z : List Token). t ∷ z) rest.is;
      left_is = ap (λ (z : List Lexeme). lexeme_of text t ∷ z) rest.left_is ∙ ap (λ (z : Lexeme). z ∷ front) (heads e);
      right_is = rest.right_is;
    }
  where
    tails : lexeme_of text t ∷ lexemes_of text tokens ≡ f ∷ (front ++ at) → lexemes_of text tokens ≡ front ++ at
    tails g = cc

    heads : lexeme_of text t ∷ lexemes_of text tokens ≡ f ∷ (front ++ at) → lexeme_of text t ≡ f
    heads g = cc

-- the byte of a fault is that of its token
place_is : (text : List ℕ) (tokens : List Token) (end : ℕ) → place_of (lexemes_of text tokens) end ≡ starts_at tokens end
place_is text [] end = refl
place_is text (t ∷ tokens) end = refl

slice_left : (u m : List ℕ) (a b : ℕ) → a < b → b ≤ length u → slice_range (u ++ m) a b ≡ slice_range u a b
slice_left u m a b lt le =
    let long = length-drop a u in
    ap (λ (x : List ℕ). take (b - a) x) (drop-append-le a u m (omega arith)) ∙ take-append-le (b - a) (drop a u) m (omega (arith, long))

-- tokens within the first bytes are the same lexemes before other bytes
same_lexemes : (u v m : List ℕ) (end : ℕ) (ts : List Token) → end ≤ length u → EndsBy end ts → lexemes_of (u ++ m) ts ≡ lexemes_of (u ++ v) ts
same_lexemes u v m end [] le h = refl
same_lexemes u v m end (t ∷ ts) le h =
    let within : t.to ≤ length u = let w = h.1 in omega (arith, w, le) in
    let bytes = slice_left u m t.from t.to h.0 within ∙ sym (slice_left u v t.from t.to h.0 within) in
    let of_bytes : List ℕ → Lexeme = λ x. record { what = what_of t.sort x; byte = t.from } in
    ap (λ (x : List ℕ). of_bytes x ∷ lexemes_of (u ++ m) ts) bytes ∙ ap (λ (x : List Lexeme). lexeme_of (u ++ v) t ∷ x) (same_lexemes u v m end ts le h.2)

-- the tokens that end by a byte at which the others begin are those before it
before_is : (end byte : ℕ) (ts us : List Token) → EndsBy byte ts → starts_at us byte ≡ byte → before byte (ts ++ us) ≡ ts
before_is end byte [] [] h e = refl
before_is end byte [] (u ∷ us) h e =
    let past : nat_lt u.from byte ≡ false = grind (arith, nat_tests) in
    cond-false (nat_lt u.from byte) (u ∷ before byte us) [] past
before_is end byte (t ∷ ts) us h e =
    let lt : t.from < byte = let x = h.0 in let y = h.1 in omega (arith, x, y) in
    let here : nat_lt t.from byte ≡ true = grind (arith, nat_tests) in
    cond-true (nat_lt t.from byte) (t ∷ before byte (ts ++ us)) [] here ∙ ap (λ (z : List Token). t ∷ z) (before_is end byte ts us h.2 e)

starts_there : (us : List Token) (end byte : ℕ) → starts_at us end ≡ byte → starts_at us byte ≡ byte
starts_there [] end byte e = refl
starts_there (u ∷ us) end byte e = e

-- a cut at a byte where a plain fault is
complete_at : (text : List ℕ) (at : List Lexeme) (f : IsFaultBy is_plain (lexemes text) at) (parts : Parts text (tokens_of text) f.front at)
    → Cut 0 0 text parts.left parts.right → Completed text (place_of at (length text))
complete_at text at f parts c =
    let u = c.left in
    let n = length u in
    let m = spelt f.more in
    let whole = u ++ m in
    let zero_n : 0 + n ≡ n = omega arith in
    let zero_text : 0 + length text ≡ length text = omega arith in
    let byte : place_of at (length text) ≡ n =
    ap (λ (x : List Lexeme). place_of x (length text)) (sym parts.right_is) ∙ place_is text parts.right (length text)
    ∙ ap (starts_at parts.right) (sym zero_text) ∙ c.place ∙ zero_n in
    let there : starts_at parts.right (length text) ≡ n = ap (starts_at parts.right) (sym zero_text) ∙ c.place ∙ zero_n in
    let ends : EndsBy n parts.left = subst (λ (z : ℕ). EndsBy z parts.left) zero_n c.ends in
    let behind = tokens_from n 0 m in
    let tokens : tokens_of whole ≡ parts.left ++ behind =
    c.goes m (spelt_apart f.more f.real) ∙ ap (λ (z : ℕ). parts.left ++ tokens_from z 0 m) zero_n in
    let us = lexemes_of whole behind in
    let text_is : u ++ c.right ≡ text = sym c.is in
    let front : lexemes_of whole parts.left ≡ f.front =
    same_lexemes u c.right m n parts.left (omega arith) ends ∙ ap (λ (x : List ℕ). lexemes_of x parts.left) text_is ∙ parts.left_is in
    let found = f.begins us (spelt_whats f.more u f.real) in
    let all : lexemes whole ≡ f.front ++ us =
    ap (lexemes_of whole) tokens ∙ map-append (lexeme_of whole) parts.left behind ∙ ap (λ (x : List Lexeme). x ++ us) front in
    let cut_is : take n text ≡ u = ap (take n) c.is ∙ take-append_seam u c.right in
    let first : before n (tokens_of text) ≡ parts.left =
    ap (before n) parts.is ∙ before_is n n parts.left parts.right ends (starts_there parts.right (length text) n there) in
    let result : Completed text n = record {
      more = m;
      tree = found.0;
      is = subst (λ (x : List ℕ). IsStatement (lexemes (x ++ m)) found.0) (sym cut_is) (subst (λ (x : List Lexeme). IsStatement x found.0) (sym all) found.1);
      behind = behind;
      same = ap (λ (x : List ℕ). tokens_of (x ++ m)) cut_is ∙ tokens ∙ ap (λ (x : List Token). x ++ behind) (sym first);
    } in
    subst (Completed text) (sym byte) result

pub faults_completed : FaultsCompleted
faults_completed text at fault =
    let f = plain_fault (lexemes text) at (faults_complete (lexemes text) at fault) in
    let parts = in_parts text (tokens_of text) f.front at f.is in
    complete_at text at f parts (cut text 0 0 parts.left parts.right (omega arith) parts.is)

-- tokens in order end by the end of each behind them
order_rises : (at end : ℕ) (ts : List Token) (t : Token) (us : List Token) → InOrder at end (ts ++ t ∷ us) → at ≤ t.from
order_rises at end [] t us h = h.0
order_rises at end (s ∷ ts) t us h =
    let more = order_rises s.to end ts t us h.2 in
    let x = h.0 in
    let y = h.1 in
    omega (arith, more, x, y)

order_some : (at end : ℕ) (ts : List Token) (t : Token) (us : List Token) → InOrder at end (ts ++ t ∷ us) → t.from < t.to
order_some at end [] t us h = h.1
order_some at end (s ∷ ts) t us h = order_some s.to end ts t us h.2

order_within : (at end : ℕ) (ts : List Token) (t : Token) (us : List Token) → InOrder at end (ts ++ t ∷ us) → t.to ≤ end
order_within at end [] t us h = order_le t.to end us h.2
order_within at end (s ∷ ts) t us h = order_within s.to end ts t us h.2

order_ends : (at end : ℕ) (ts : List Token) (t : Token) (us : List Token) → InOrder at end (ts ++ t ∷ us) → EndsBy t.to (ts ++ t ∷ [])
order_ends at end [] t us h = (h.1, omega arith, tt)
order_ends at end (s ∷ ts) t us h =
    let more = order_rises s.to end ts t us h.2 in
    let last = order_some s.to end ts t us h.2 in
    (h.1, omega (arith, more, last), order_ends s.to end ts t us h.2)

pub faults_final : FaultsFinal
faults_final text other front t us behind a tokens fault bytes others statement =
    let order : InOrder 0 (length text) (front ++ t ∷ us) = subst (InOrder 0 (length text)) tokens (tokens_in_order text) in
    let ends = order_ends 0 (length text) front t us order in
    let within = order_within 0 (length text) front t us order in
    let u = take t.to text in
    let long : length u ≡ t.to = length-take-le t.to text within in
    let text_is : u ++ drop t.to text ≡ text = take-append-drop t.to text in
    let other_is : u ++ drop t.to other ≡ other = ap (λ (x : List ℕ). x ++ drop t.to other) (sym bytes) ∙ take-append-drop t.to other in
    let same : lexemes_of other (front ++ t ∷ []) ≡ lexemes_of text (front ++ t ∷ []) =
    ap (λ (x : List ℕ). lexemes_of x (front ++ t ∷ [])) (sym other_is)
    ∙ same_lexemes u (drop t.to text) (drop t.to other) t.to (front ++ t ∷ []) (omega (arith, long)) ends
    ∙ ap (λ (x : List ℕ). lexemes_of x (front ++ t ∷ [])) text_is in
    let at = lexemes_of text (t ∷ us) in
    let first : lexemes_of text front ≡ fault.front =
    append_cancel_right (lexemes_of text front) fault.front at
    (sym (map-append (lexeme_of text) front (t ∷ us)) ∙ ap (lexemes_of text) (sym tokens) ∙ fault.is) in
    let all : lexemes other ≡ fault.front ++ lexeme_of text t ∷ lexemes_of other behind =
    ap (lexemes_of other) (others ∙ sym (append_assoc front (t ∷ []) behind))
    ∙ map-append (lexeme_of other) (front ++ t ∷ []) behind
    ∙ ap (λ (x : List Lexeme). x ++ lexemes_of other behind) (same ∙ map-append (lexeme_of text) front (t ∷ []))
    ∙ append_assoc (lexemes_of text front) (lexeme_of text t ∷ []) (lexemes_of other behind)
    ∙ ap (λ (x : List Lexeme). x ++ lexeme_of text t ∷ lexemes_of other behind) first in
    fault.ends (lexeme_of text t) (lexemes_of text us) (lexemes_of other behind) a refl (subst (λ (x : List Lexeme). IsStatement x a) all statement)
