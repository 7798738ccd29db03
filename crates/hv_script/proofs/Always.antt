-- Bytes always are a script or have a fault.
use Rattle.std.proofs.Common.{◌≡◌, ◌⊎◌, inl, inr, ℕ, zero, suc, ◌+◌, ◌-◌, ◌<◌, ◌≤◌, Bool, true, false, not, ◌&&◌, cond, eqb, List, [], ◌∷◌, ◌++◌, length, Option, Some, None, IsSome, IsUtf8, refl, sym, ◌∙◌, ap, subst, arith, append_assoc, length-append}
use Rattle.std.specs.Prelude.{fold}
use Rattle.std.specs.List.{list_all}
use Rattle.std.specs.Str.{IsValidUpTo}
use Rattle.std.proofs.lemmas.List.{append-nil}
use Rattle.std.proofs.lemmas.Bool.{cases_lt, eqb-true}
use Rattle.hv_model.specs.Command.{statements}
use Rattle.hv_model.specs.Parsed.{tree_of, lines_wanted}
use Rattle.hv_model.specs.Script.{most_bytes, most_lines, most_sessions, most_statements, is_blank, begins_unblank, quoted_behind, line_list, ends_line, data_behind, TakesLines, Cut, Cuts, Placed, placed_first, script_of, is_session, with_session, end_phase, add_statement, has_reply, place_cut, after_cut, placed_by, IsWithin, ReadsTo}
use Rattle.hv_model.specs.declared.tree.Word.{Word}
use Rattle.hv_model.specs.declared.tree.Ast.{Ast}
use Rattle.hv_model.specs.declared.tree.Ast.TheVariants as ast
use Rattle.hv_model.specs.declared.script.FaultName.TheVariants.{TooLong, NotUtf8, Unended, LongImport, ShortImport, TooManySessions, TooManyStatements}
use Rattle.hv_model.proofs.ScriptLengths.{behind_length}
use Rattle.hv_model.proofs.ScriptPlaced.{statements_ended, replied_added, count_added}
use Rattle.hv_script.specs.Next.{OpensText, ClosesText, WantsMany, LacksLines, HasNext}
use Rattle.hv_script.specs.SoFar.{SetsTooMany, AddsTooMany}
use Rattle.hv_script.specs.OneReading.{HasReading, SomeReading}
use Rattle.hv_script.proofs.Front.{utf8_or_front}
use Rattle.hv_script.proofs.LineCount.{open_line, lines_push, closed_lines}
use Rattle.hv_script.proofs.Behind.{next_shorter, cut_of, takes_next, reads_to, unended, long_import, short_import, session_too_many, one_too_many}

-- the blanks in front, and what is behind them
record BehindBlanks (bytes : List ℕ) : Type 0 where
  blanks : List ℕ
  rest : List ℕ
  blank : list_all is_blank blanks ≡ true
  is : bytes ≡ blanks ++ rest
  stops : (rest ≡ []) ⊎ (begins_unblank rest ≡ true)

one_blank : (b : ℕ) (bs : List ℕ) (v : Bool) → is_blank b ≡ v → BehindBlanks bs → BehindBlanks (b ∷ bs)
one_blank b bs true e s = record { blanks = b ∷ s.blanks; rest = s.rest; blank = rw e s.blank; is = ap (λ z. b ∷ z) s.is; stops = s.stops }
one_blank b bs false e s = record { blanks = []; rest = b ∷ bs; blank = refl; is = refl; stops = inr (rw e refl) }

behind_blanks : (bytes : List ℕ) → BehindBlanks bytes
behind_blanks [] = record { blanks = []; rest = []; blank = refl; is = refl; stops = inl refl }
behind_blanks (b ∷ bs) = one_blank b bs (is_blank b) refl (behind_blanks bs)

-- the text in front of the first `;` outside quotes
record BehindText (q : Bool) (bytes : List ℕ) : Type 0 where
  text : List ℕ
  behind : List ℕ
  closed : quoted_behind q text ≡ Some false
  is : bytes ≡ text ++ 59 ∷ behind

abbrev Closed : Bool → List ℕ → Type 0
Closed q bytes = (IsSome (quoted_behind q bytes)) ⊎ BehindText q bytes

cut_quote : (q : Bool) (b : ℕ) (bs : List ℕ) → eqb b 39 ≡ true → Closed (not q) bs → Closed q (b ∷ bs)
cut_quote q b bs e (inl h) = inl (rw e h)
cut_quote q b bs e (inr s) = inr (record { text = b ∷ s.text; behind = s.behind; closed = rw e s.closed; is = ap (λ z. b ∷ z) s.is })

cut_plain : (q : Bool) (b : ℕ) (bs : List ℕ) → eqb b 39 ≡ false → (eqb b 59 && not q) ≡ false → Closed q bs → Closed q (b ∷ bs)
cut_plain q b bs e f (inl h) = inl (rw (e, f) h)
cut_plain q b bs e f (inr s) = inr (record { text = b ∷ s.text; behind = s.behind; closed = rw (e, f) s.closed; is = ap (λ z. b ∷ z) s.is })

cut_mark : (q : Bool) (b : ℕ) (bs : List ℕ) → (eqb b 59 && not q) ≡ true → Closed q (b ∷ bs)
cut_mark true b bs f = elim (eqb b 59) as (λ v. (v && false) ≡ true → Closed true (b ∷ bs)) [ true ↦ λ h. cc | false ↦ λ h. cc ] f
cut_mark false b bs f =
    let e : eqb b 59 ≡ true = elim (eqb b 59) as (λ v. (v && true) ≡ true → v ≡ true) [ true ↦ λ h. refl | false ↦ λ h. cc ] f in
    inr (record { text = []; behind = bs; closed = refl; is = ap (λ z. z ∷ bs) (eqb-true b 59 e) })

cut_other : (q : Bool) (b : ℕ) (bs : List ℕ) (v : Bool) → eqb b 39 ≡ false → (eqb b 59 && not q) ≡ v → Closed q bs → Closed q (b ∷ bs)
cut_other q b bs true e f s = cut_mark q b bs f
cut_other q b bs false e f s = cut_plain q b bs e f s

cut_one : (q : Bool) (b : ℕ) (bs : List ℕ) (v : Bool) → eqb b 39 ≡ v → Closed (not q) bs → Closed q bs → Closed q (b ∷ bs)
cut_one q b bs true e s t = cut_quote q b bs e s
cut_one q b bs false e s t = cut_other q b bs (eqb b 59 && not q) e refl t

cut_text : (q : Bool) (bytes : List ℕ) → Closed q bytes
cut_text q [] = inl refl
cut_text q (b ∷ bs) = cut_one q b bs (eqb b 39) refl (cut_text (not q) bs) (cut_text q bs)

-- the next lines, so many
record BehindLines (w : ℕ) (bytes : List ℕ) : Type 0 where
  lines : List ℕ
  after : List ℕ
  is : bytes ≡ lines ++ after
  count : length (line_list lines) ≡ w
  whole : (ends_line lines ≡ true) ⊎ (after ≡ []) ⊎ (w ≡ 0)

abbrev Lines : ℕ → List ℕ → Type 0
Lines w bytes = (length (line_list bytes) < w) ⊎ BehindLines w bytes

all_lines : (w : ℕ) (front : List ℕ) → length (line_list front) ≤ w → (length (line_list front) < w) ⊎ (w ≤ length (line_list front)) → Lines w (front ++ [])
all_lines w front h (inl few) = inl (rw append-nil few)
all_lines w front h (inr full) = inr (record { lines = front; after = []; is = refl; count = omega arith; whole = inr (inl refl) })

abbrev Goes : ℕ → List ℕ → ℕ → List ℕ → Type 0
Goes w front b back = length (line_list (front ++ b ∷ [])) ≤ w → Lines w ((front ++ b ∷ []) ++ back)

lines_one : (w : ℕ) (front : List ℕ) (b : ℕ) (back : List ℕ) (v : Bool) → 0 < w → open_line front ≡ v → length (line_list front) ≤ w
    → (length (line_list front) < w) ⊎ (w ≤ length (line_list front)) → Goes w front b back → Lines w (front ++ b ∷ back)
lines_one w front b back true some o h c go =
    let n : length (line_list (front ++ b ∷ [])) ≡ length (line_list front) + cond true 0 1 = subst (λ z. length (line_list (front ++ b ∷ [])) ≡ length (line_list front) + cond z 0 1) o (lines_push front b) in
    subst (λ z. Lines w z) (append_assoc front (b ∷ []) back) (go (omega arith))
lines_one w front b back false some o h (inl few) go =
    let n : length (line_list (front ++ b ∷ [])) ≡ length (line_list front) + cond false 0 1 = subst (λ z. length (line_list (front ++ b ∷ [])) ≡ length (line_list front) + cond z 0 1) o (lines_push front b) in
    subst (λ z. Lines w z) (append_assoc front (b ∷ []) back) (go (omega arith))
lines_one w front b back false some o h (inr full) go =
    let count : length (line_list front) ≡ w = omega arith in
    inr (record { lines = front; after = b ∷ back; is = refl; count = count; whole = inl (closed_lines front w some count o) })

cut_lines : (w : ℕ) → 0 < w → (back front : List ℕ) → length (line_list front) ≤ w → Lines w (front ++ back)
cut_lines w some [] front h = all_lines w front h (cases_lt (length (line_list front)) w)
cut_lines w some (b ∷ back) front h =
    lines_one w front b back (open_line front) some refl h (cases_lt (length (line_list front)) w) (λ k. cut_lines w some back (front ++ b ∷ []) k)

-- the data lines behind a `;`
record BehindData (w : ℕ) (behind : List ℕ) : Type 0 where
  lines : List ℕ
  after : List ℕ
  taken : TakesLines w behind lines after

data_of : (w : ℕ) (behind : List ℕ) → Lines (suc w) (data_behind behind) → (length (line_list (data_behind behind)) < suc w) ⊎ BehindData (suc w) behind
data_of w behind (inl few) = inl few
data_of w behind (inr s) = inr (record {
  lines = s.lines;
  after = s.after;
  taken = record { none = λ z. absurd (omega arith); some = λ _. s.is; count = s.count; whole = s.whole };
})

cut_data : (w : ℕ) (behind : List ℕ) → (length (line_list (data_behind behind)) < w) ⊎ BehindData w behind
cut_data zero behind = inr (record { lines = []; after = behind; taken = record { none = λ _. (refl, refl); some = λ h. absurd (omega arith); count = refl; whole = inr (inr refl) } })
cut_data (suc w) behind = data_of w behind (cut_lines (suc w) (omega arith) (data_behind behind) [] (omega arith))

-- what stands next: blanks alone or a statement at fault, or a statement that is taken
abbrev Stops : List ℕ → Type 0
Stops bytes = (list_all is_blank bytes ≡ true) ⊎ ((from : List ℕ) × OpensText bytes from) ⊎ ((from : List ℕ) × WantsMany bytes from) ⊎ ((from : List ℕ) × LacksLines bytes from)

record Taken (bytes : List ℕ) : Type 0 where
  from : List ℕ
  text : List ℕ
  lines : List ℕ
  after : List ℕ
  next : HasNext bytes from text lines after

abbrev Next : List ℕ → Type 0
Next bytes = (Stops bytes) ⊎ (Taken bytes)

text_begins : (text behind : List ℕ) → begins_unblank (text ++ 59 ∷ behind) ≡ true → begins_unblank text ≡ true
text_begins [] behind h = cc
text_begins (b ∷ bs) behind h = h

next_data : (bytes from text behind : List ℕ) → ClosesText bytes from text behind → lines_wanted text ≤ most_lines
    → (length (line_list (data_behind behind)) < lines_wanted text) ⊎ BehindData (lines_wanted text) behind → Next bytes
next_data bytes from text behind c allowed (inl few) = inl (inr (inr (inr (from, record { text = text; behind = behind; closes = c; allowed = allowed; few = few }))))
next_data bytes from text behind c allowed (inr d) =
    inr (record { from = from; text = text; lines = d.lines; after = d.after; next = record { behind = behind; closes = c; allowed = allowed; data_lines = d.taken } })

next_wanted : (bytes from text behind : List ℕ) → ClosesText bytes from text behind → (most_lines < lines_wanted text) ⊎ (lines_wanted text ≤ most_lines) → Next bytes
next_wanted bytes from text behind c (inl many) = inl (inr (inr (inl (from, record { text = text; behind = behind; closes = c; many = many }))))
next_wanted bytes from text behind c (inr allowed) = next_data bytes from text behind c allowed (cut_data (lines_wanted text) behind)

next_text : (bytes : List ℕ) (s : BehindBlanks bytes) → begins_unblank s.rest ≡ true → Closed false s.rest → Next bytes
next_text bytes s b (inl h) = inl (inr (inl (s.rest, record { blanks = s.blanks; blank = s.blank; begins = b; unended = h; is = s.is })))
next_text bytes s b (inr t) =
    let begins : begins_unblank t.text ≡ true = text_begins t.text t.behind (subst (λ z. begins_unblank z ≡ true) t.is b) in
    next_wanted bytes s.rest t.text t.behind (record { blanks = s.blanks; blank = s.blank; text_is = record { begins = begins; closed = t.closed }; is = s.is; from_is = t.is })
    (cases_lt most_lines (lines_wanted t.text))

next_blanks : (bytes : List ℕ) (s : BehindBlanks bytes) → (s.rest ≡ []) ⊎ (begins_unblank s.rest ≡ true) → Next bytes
next_blanks bytes s (inl none) =
    let all : bytes ≡ s.blanks = s.is ∙ ap (λ z. s.blanks ++ z) none ∙ append-nil s.blanks in
    inl (inl (subst (λ z. list_all is_blank z ≡ true) (sym all) s.blank))
next_blanks bytes s (inr b) = next_text bytes s b (cut_text false s.rest)

what_next : (bytes : List ℕ) → Next bytes
what_next bytes = let s = behind_blanks bytes in next_blanks bytes s s.stops

-- what was taken, as a text with its lines
abbrev cut_at : {bytes : List ℕ} → Taken bytes → Cut
cut_at t = cut_of t.text t.lines

-- a text with this tree is one too many
abbrev IsOneOver : Placed → Option Ast → Type 0
IsOneOver s tree = SetsTooMany s tree ⊎ AddsTooMany s tree

-- one more text is within what a script has, or one too many
abbrev Fits : Placed → Cut → Option Ast → Type 0
Fits s cut tree = IsWithin (place_cut s cut tree) ⊎ IsOneOver s tree

fits_full : (s : Placed) (cut : Cut) (name : Word) → IsWithin s → is_session s.sessions name.name ≡ false → (length s.sessions < most_sessions) ⊎ (most_sessions ≤ length s.sessions)
    → Fits s cut (Some (ast.Session name))
fits_full s cut name w other (inl less) =
    let grown : with_session s.sessions name.name ≡ s.sessions ++ name.name ∷ [] = rw other refl in
    let n : length (with_session s.sessions name.name) ≡ length s.sessions + 1 = ap length grown ∙ length-append s.sessions (name.name ∷ []) in
    inl (record { sessions = omega arith; all_statements = w.all_statements })
fits_full s cut name w other (inr full) =
    let few : length s.sessions ≤ 64 = w.sessions in
    inr (inl (record { name = name; sets = refl; other = other; full = omega arith }))

fits_set : (s : Placed) (cut : Cut) (name : Word) → IsWithin s → (v : Bool) → is_session s.sessions name.name ≡ v → Fits s cut (Some (ast.Session name))
fits_set s cut name w true old =
    let same : with_session s.sessions name.name ≡ s.sessions = rw old refl in
    inl (record { sessions = rw same w.sessions; all_statements = w.all_statements })
fits_set s cut name w false other = fits_full s cut name w other (cases_lt (length s.sessions) most_sessions)

fits_end : (s : Placed) (cut : Cut) → IsWithin s → Fits s cut (Some ast.Barrier)
fits_end s cut w =
    let n : length (statements (script_of (end_phase s))) ≡ length (statements (script_of s)) = ap length (statements_ended s) in
    let few : length (statements (script_of s)) ≤ 1000000 = w.all_statements in
    inl (record { sessions = w.sessions; all_statements = omega arith })

fits_count : (s : Placed) (cut : Cut) (tree : Option Ast) → IsWithin s → has_reply tree ≡ true
    → (length (statements (script_of s)) < most_statements) ⊎ (most_statements ≤ length (statements (script_of s))) → Fits s cut tree
fits_count s cut tree w replied (inl less) =
    let n : length (statements (script_of (add_statement s cut))) ≡ length (statements (script_of s)) + 1 = count_added s cut in
    inl (subst (λ z. IsWithin z) (sym (replied_added s cut tree replied)) (record { sessions = w.sessions; all_statements = omega arith }))
fits_count s cut tree w replied (inr full) =
    let few : length (statements (script_of s)) ≤ 1000000 = w.all_statements in
    inr (inr (record { replied = replied; full = omega arith }))

fits_add : (s : Placed) (cut : Cut) (tree : Option Ast) → IsWithin s → has_reply tree ≡ true → Fits s cut tree
fits_add s cut tree w replied = fits_count s cut tree w replied (cases_lt (length (statements (script_of s))) most_statements)

fits : (s : Placed) (cut : Cut) (tree : Option Ast) → IsWithin s → Fits s cut tree
fits s cut None w = fits_add s cut None w refl
fits s cut (Some (ast.Create table columns)) w = fits_add s cut _ w refl
fits s cut (Some (ast.Import table wanted)) w = fits_add s cut _ w refl
fits s cut (Some (ast.Purge chunk table)) w = fits_add s cut _ w refl
fits s cut (Some (ast.Merge chunks table)) w = fits_add s cut _ w refl
fits s cut (Some (ast.Session name)) w = fits_set s cut name w (is_session s.sessions name.name) refl
fits s cut (Some ast.Barrier) w = fits_end s cut w
fits s cut (Some (ast.Select x)) w = fits_add s cut _ w refl

-- a text stands next that is one too many
record Over (s : Placed) (bytes : List ℕ) : Type 0 where
  taken : Taken bytes
  over : IsOneOver s (tree_of taken.text)

-- the texts up to what ends them
record Ends (s : Placed) (bytes : List ℕ) : Type 0 where
  cuts : List Cut
  rest : List ℕ
  read : Cuts bytes cuts rest
  within : IsWithin (fold after_cut s cuts)
  stops : (Stops rest) ⊎ Over (fold after_cut s cuts) rest
  shorter : length rest ≤ length bytes

ends_now : (s : Placed) (bytes : List ℕ) → IsWithin s → (Stops bytes) ⊎ Over s bytes → Ends s bytes
ends_now s bytes w stops = record { cuts = []; rest = bytes; read = refl; within = w; stops = stops; shorter = omega arith }

ends_taken : (s : Placed) (bytes : List ℕ) (t : Taken bytes) → IsWithin s → ((after : List ℕ) → length after < length bytes → IsWithin (after_cut s (cut_at t)) → Ends (after_cut s (cut_at t)) after)
    → Fits s (cut_at t) (tree_of t.text) → Ends s bytes
ends_taken s bytes t w more (inl within) =
    let less : length t.after < length bytes = next_shorter bytes t.from t.text t.lines t.after t.next in
    let e = more t.after less within in
    let shorter : length e.rest ≤ length t.after = e.shorter in
    record {
      cuts = cut_at t ∷ e.cuts;
      rest = e.rest;
      read = (t.after, takes_next bytes t.from t.text t.lines t.after t.next, e.read);
      within = e.within;
      stops = e.stops;
      shorter = omega arith;
    }
ends_taken s bytes t w more (inr over) = ends_now s bytes w (inr (record { taken = t; over = over }))

ends_next : (s : Placed) (bytes : List ℕ) → IsWithin s → ((u : Placed) (after : List ℕ) → length after < length bytes → IsWithin u → Ends u after) → Next bytes → Ends s bytes
ends_next s bytes w more (inl stops) = ends_now s bytes w (inl stops)
ends_next s bytes w more (inr t) = ends_taken s bytes t w (more (after_cut s (cut_at t))) (fits s (cut_at t) (tree_of t.text) w)

ends_by : (most : ℕ) (s : Placed) (bytes : List ℕ) → length bytes ≤ most → IsWithin s → Ends s bytes
ends_by zero s bytes h w = ends_next s bytes w (λ u after less v. absurd (omega arith)) (what_next bytes)
ends_by (suc most) s bytes h w = ends_next s bytes w (λ u after less v. ends_by most u after (omega arith) v) (what_next bytes)

within_first : IsWithin placed_first
within_first = record { sessions = omega arith; all_statements = omega arith }

ends : (bytes : List ℕ) → Ends placed_first bytes
ends bytes = ends_by (length bytes) placed_first bytes (omega arith) within_first

-- the place of what stands behind blanks
place_at : (bytes rest blanks from : List ℕ) → length rest ≤ length bytes → rest ≡ blanks ++ from → (length bytes - length from) + length from ≡ length bytes
place_at bytes rest blanks from shorter is = omega (arith, behind_length rest blanks from is)

reads_of : (bytes : List ℕ) (e : Ends placed_first bytes) → ReadsTo bytes e.rest → Stops e.rest → HasReading bytes
reads_of bytes e front (inl blank) = inl (script_of (placed_by front.cuts), record { rest = e.rest; front = front; blank = blank; is = refl })
reads_of bytes e front (inr (inl (from, o))) =
    inr (Unended, length bytes - length from, unended bytes e.rest from _ front o (place_at bytes e.rest o.blanks from e.shorter o.is))
reads_of bytes e front (inr (inr (inl (from, w)))) =
    inr (LongImport, length bytes - length from, long_import bytes e.rest from _ front w (place_at bytes e.rest w.closes.blanks from e.shorter w.closes.is))
reads_of bytes e front (inr (inr (inr (from, l)))) =
    inr (ShortImport, length bytes - length from, short_import bytes e.rest from _ front l (place_at bytes e.rest l.closes.blanks from e.shorter l.closes.is))

reads_over : (bytes : List ℕ) (e : Ends placed_first bytes) (front : ReadsTo bytes e.rest) (t : Taken e.rest) → IsOneOver (placed_by front.cuts) (tree_of t.text) → HasReading bytes
reads_over bytes e front t (inl o) =
    let c = t.next.closes in
    inr (
      TooManySessions,
      length bytes - length t.from,
      session_too_many bytes e.rest t.from t.text t.lines t.after _ front o.name o.sets o.other o.full t.next (place_at bytes e.rest c.blanks t.from e.shorter c.is),
    )
reads_over bytes e front t (inr o) =
    let c = t.next.closes in
    inr (
      TooManyStatements,
      length bytes - length t.from,
      one_too_many bytes e.rest t.from t.text t.lines t.after _ front o.replied o.full t.next (place_at bytes e.rest c.blanks t.from e.shorter c.is),
    )

reads_full : (bytes : List ℕ) → length bytes ≤ most_bytes → IsUtf8 bytes → (e : Ends placed_first bytes) → (Stops e.rest) ⊎ Over (placed_by e.cuts) e.rest → HasReading bytes
reads_full bytes short utf8 e (inl stops) = reads_of bytes e (reads_to bytes e.rest e.cuts short utf8 e.read e.within) stops
reads_full bytes short utf8 e (inr o) = reads_over bytes e (reads_to bytes e.rest e.cuts short utf8 e.read e.within) o.taken o.over

reads_utf8 : (bytes : List ℕ) → length bytes ≤ most_bytes → (IsUtf8 bytes) ⊎ ((¬ (IsUtf8 bytes)) × ((n : ℕ) × IsValidUpTo bytes n)) → HasReading bytes
reads_utf8 bytes short (inl utf8) = let e = ends bytes in reads_full bytes short utf8 e e.stops
reads_utf8 bytes short (inr (none, (n, longest))) = inr (NotUtf8, n, record { short = short; none = none; longest = longest })

reads_long : (bytes : List ℕ) → (most_bytes < length bytes) ⊎ (length bytes ≤ most_bytes) → HasReading bytes
reads_long bytes (inl long) = inr (TooLong, most_bytes, (long, refl))
reads_long bytes (inr short) = reads_utf8 bytes short (utf8_or_front bytes)

pub some_reading : SomeReading
some_reading bytes = reads_long bytes (cases_lt most_bytes (length bytes))
