-- Texts are read in one way, and so is what ends them.
use Rattle.std.proofs.Common.{◌≡◌, ◌⊎◌, inl, inr, ℕ, ◌+◌, ◌<◌, ◌≤◌, true, false, cond, List, [], ◌∷◌, ◌++◌, length, Option, IsSome, refl, sym, ◌∙◌, ap, subst, arith, length-append}
use Rattle.std.specs.Prelude.{nat_le, fold}
use Rattle.std.specs.List.{list_all}
use Rattle.std.proofs.lemmas.Bool.Decides.{nat_tests}
use Rattle.std.proofs.lemmas.Str.{utf8_valid_len-IsValidUpTo}
use Rattle.hv_model.specs.Command.{statements}
use Rattle.hv_model.specs.Parsed.{tree_of, lines_wanted}
use Rattle.hv_model.specs.Script.{most_bytes, most_lines, most_sessions, most_statements, is_blank, begins_unblank, quoted_behind, line_list, data_behind, TakesLines, Cut, Takes, Cuts, Placed, placed_first, script_of, is_session, with_session, set_session, add_statement, has_reply, place_cut, after_cut, placed_by, IsWithin, ReadsTo, IsScript, IsFault, IsNotUtf8, Follows}
use Rattle.hv_model.specs.declared.tree.Ast.{Ast}
use Rattle.hv_model.specs.declared.script.Script.{Script}
use Rattle.hv_model.specs.declared.script.FaultName.{FaultName}
use Rattle.hv_model.specs.declared.script.FaultName.TheVariants.{TooLong, NotUtf8, Unended, LongImport, ShortImport, TooManySessions, TooManyStatements}
use Rattle.hv_model.proofs.ScriptPlaced.{replied_added, count_added, within_earlier}
use Rattle.hv_script.specs.Next.{OpensText, ClosesText}
use Rattle.hv_script.specs.OneReading.{OneScript, NoFaultToo, OneFault}
use Rattle.hv_script.proofs.Parts.{blanks_same, all_blank, begins_append, text_same, text_ends, data_same}
use Rattle.hv_script.proofs.Behind.{closes_of, has_enough}

-- two texts with their lines, by their parts
cut_same : (x y : Cut) → x.text ≡ y.text → x.lines ≡ y.lines → x ≡ y
cut_same x y t l = ap (λ z. record { text = z; lines = x.lines }) t ∙ ap (λ z. record { text = y.text; lines = z }) l

-- a text behind blanks: its first byte, its text and what is behind it are one
closes_begins : (bytes from text behind : List ℕ) → ClosesText bytes from text behind → begins_unblank from ≡ true
closes_begins bytes from text behind c = subst (λ z. begins_unblank z ≡ true) (sym c.from_is) (begins_append text (59 ∷ behind) c.text_is.begins)

closes_same : (bytes f g t u x y : List ℕ) → ClosesText bytes f t x → ClosesText bytes g u y → (f ≡ g) × (t ≡ u) × (x ≡ y)
closes_same bytes f g t u x y c d =
    let from : f ≡ g = blanks_same c.blanks d.blanks f g c.blank d.blank (closes_begins bytes f t x c) (closes_begins bytes g u y d) (sym c.is ∙ d.is) in
    let both = text_same false t u x y c.text_is.closed d.text_is.closed (sym c.from_is ∙ from ∙ d.from_is) in
    (from, both.0, both.1)

takes_same : (bytes a b : List ℕ) (x y : Cut) → Takes bytes x a → Takes bytes y b → (x ≡ y) × (a ≡ b)
takes_same bytes a b x y t u =
    let parts = closes_same bytes _ _ x.text y.text t.behind u.behind (closes_of bytes a x t) (closes_of bytes b y u) in
    let moved = subst (λ z. TakesLines (lines_wanted z) u.behind y.lines b) (sym parts.1) u.data_lines in
    let same = data_same (lines_wanted x.text) t.behind x.lines y.lines a b t.data_lines
    (subst (λ z. TakesLines (lines_wanted x.text) z y.lines b) (sym parts.2) moved) in
    (cut_same x y parts.1 same.0, same.1)

-- no text behind which no more was read than a script has begins these bytes
abbrev Last : Placed → List ℕ → Type 0
Last s rest = (cut : Cut) (after : List ℕ) → Takes rest cut after → IsWithin (after_cut s cut) → ⊥

cuts_same : (s : Placed) (bytes : List ℕ) (xs ys : List Cut) (r q : List ℕ) → Cuts bytes xs r → Cuts bytes ys q
    → IsWithin (fold after_cut s xs) → IsWithin (fold after_cut s ys) → Last (fold after_cut s xs) r → Last (fold after_cut s ys) q → (xs ≡ ys) × (r ≡ q)
cuts_same s bytes [] [] r q i j v w f g = (refl, sym i ∙ j)
cuts_same s bytes [] (y ∷ ys) r q i j v w f g = absurd (f y j.0 (subst (λ z. Takes z y j.0) i j.1) (within_earlier (after_cut s y) ys w))
cuts_same s bytes (x ∷ xs) [] r q i j v w f g = absurd (g x i.0 (subst (λ z. Takes z x i.0) j i.1) (within_earlier (after_cut s x) xs v))
cuts_same s bytes (x ∷ xs) (y ∷ ys) r q i j v w f g =
    let first = takes_same bytes i.0 j.0 x y i.1 j.1 in
    let same : y ≡ x = sym first.0 in
    let both = cuts_same (after_cut s x) i.0 xs ys r q i.2 (subst (λ z. Cuts z ys q) (sym first.1) j.2) v
    (subst (λ z. IsWithin (fold after_cut (after_cut s z) ys)) same w) f (subst (λ z. Last (fold after_cut (after_cut s z) ys) q) same g) in
    let more : xs ≡ ys = both.0 in
    (cc, both.1)

-- what ends the texts
blank_last : (s : Placed) (rest : List ℕ) → list_all is_blank rest ≡ true → Last s rest
blank_last s rest h x after t within =
    let c = closes_of rest after x t in
    all_blank t.blanks _ (subst (λ z. list_all is_blank z ≡ true) t.is h) (closes_begins rest _ x.text t.behind c)

opens_ends : (rest from to text behind : List ℕ) → OpensText rest from → ClosesText rest to text behind → ⊥
opens_ends rest from to text behind o c =
    let same : from ≡ to = blanks_same o.blanks c.blanks from to o.blank c.blank o.begins (closes_begins rest to text behind c) (sym o.is ∙ c.is) in
    text_ends false text behind c.text_is.closed (subst (λ z. IsSome (quoted_behind false z)) (same ∙ c.from_is) o.unended)

opens_last : (s : Placed) (rest from : List ℕ) → OpensText rest from → Last s rest
opens_last s rest from o x after t within = opens_ends rest from _ x.text t.behind o (closes_of rest after x t)

-- the fault of a text with this tree that has its lines, behind which more was read than a script has
abbrev fault_of_many : Option Ast → FaultName
fault_of_many tree = cond (has_reply tree) TooManyStatements TooManySessions

-- the fault of a text that wants so many lines, where so many follow, and that is not taken
abbrev fault_by : Option Ast → ℕ → ℕ → FaultName
fault_by tree wanted there = cond (nat_le wanted most_lines) (cond (nat_le wanted there) (fault_of_many tree) ShortImport) LongImport

abbrev fault_at : List ℕ → List ℕ → FaultName
fault_at text behind = fault_by (tree_of text) (lines_wanted text) (length (line_list (data_behind behind)))

-- a statement with its `;` that has this fault
record Closes (rest : List ℕ) (name : FaultName) (from : List ℕ) : Type 0 where
  text : List ℕ
  behind : List ℕ
  closes : ClosesText rest from text behind
  is_name : name ≡ fault_at text behind

-- what stands behind statements, as a fault: all bytes from its first
abbrev Stands : List ℕ → FaultName → List ℕ → Type 0
Stands rest name from = ((name ≡ Unended) × OpensText rest from) ⊎ Closes rest name from

stands_same : (rest from to : List ℕ) (name other : FaultName) → Stands rest name from → Stands rest other to → (name ≡ other) × (from ≡ to)
stands_same rest from to name other (inl o) (inl p) =
    (o.0 ∙ sym p.0, blanks_same o.1.blanks p.1.blanks from to o.1.blank p.1.blank o.1.begins p.1.begins (sym o.1.is ∙ p.1.is))
stands_same rest from to name other (inl o) (inr c) = absurd (opens_ends rest from to c.text c.behind o.1 c.closes)
stands_same rest from to name other (inr c) (inl o) = absurd (opens_ends rest to from c.text c.behind o.1 c.closes)
stands_same rest from to name other (inr c) (inr d) =
    let same = closes_same rest from to c.text d.text c.behind d.behind c.closes d.closes in (
      c.is_name ∙ ap (λ z. fault_at z c.behind) same.1 ∙ ap (λ z. fault_at d.text z) same.2 ∙ sym d.is_name,
      same.0,
    )

stands_unblank : (rest from : List ℕ) (name : FaultName) → Stands rest name from → list_all is_blank rest ≡ true → ⊥
stands_unblank rest from name (inl o) h = all_blank o.1.blanks from (subst (λ z. list_all is_blank z ≡ true) o.1.is h) o.1.begins
stands_unblank rest from name (inr c) h =
    all_blank c.closes.blanks from (subst (λ z. list_all is_blank z ≡ true) c.closes.is h) (closes_begins rest from c.text c.behind c.closes)

-- a fault behind statements
record Halts (bytes : List ℕ) (name : FaultName) (byte : ℕ) : Type 0 where
  rest : List ℕ
  front : ReadsTo bytes rest
  last : Last (placed_by front.cuts) rest
  from : List ℕ
  at : byte + length from ≡ length bytes
  stands : Stands rest name from

halts_same : (bytes : List ℕ) (name other : FaultName) (byte place : ℕ) → Halts bytes name byte → Halts bytes other place → (name ≡ other) × (byte ≡ place)
halts_same bytes name other byte place f g =
    let a = f.front in
    let b = g.front in
    let rests = (cuts_same placed_first bytes a.cuts b.cuts f.rest g.rest a.read b.read a.within b.within f.last g.last).1 in
    let same = stands_same f.rest f.from g.from name other f.stands (subst (λ z. Stands z other g.from) (sym rests) g.stands) in
    let n : length f.from ≡ length g.from = ap length same.1 in
    let d : byte + length f.from ≡ length bytes = f.at in
    let e : place + length g.from ≡ length bytes = g.at in
    (same.0, omega arith)

-- a statement that follows and is not taken
follows_closes : (bytes text behind : List ℕ) (byte : ℕ) (f : Follows bytes byte text behind) → ClosesText f.rest (text ++ 59 ∷ behind) text behind
follows_closes bytes text behind byte f = record { blanks = f.blanks; blank = f.blank; text_is = f.text_is; is = f.is; from_is = refl }

follows_halts : (bytes text behind : List ℕ) (name : FaultName) (byte : ℕ) (f : Follows bytes byte text behind) → Last (placed_by f.front.cuts) f.rest
    → name ≡ fault_at text behind → Halts bytes name byte
follows_halts bytes text behind name byte f last is = record {
  rest = f.rest;
  front = f.front;
  last = last;
  from = text ++ 59 ∷ behind;
  at = f.at;
  stands = inr (record { text = text; behind = behind; closes = follows_closes bytes text behind byte f; is_name = is });
}

-- what a statement that follows would be taken with
record IsTaken (text behind after : List ℕ) (x : Cut) : Type 0 where
  text_is : x.text ≡ text
  allowed : lines_wanted text ≤ most_lines
  data_lines : TakesLines (lines_wanted text) behind x.lines after

follows_taken : (bytes text behind after : List ℕ) (byte : ℕ) (x : Cut) (f : Follows bytes byte text behind) → Takes f.rest x after → IsTaken text behind after x
follows_taken bytes text behind after byte x f t =
    let parts = closes_same f.rest _ _ x.text text t.behind behind (closes_of f.rest after x t) (follows_closes bytes text behind byte f) in
    record {
      text_is = parts.1;
      allowed = subst (λ z. lines_wanted z ≤ most_lines) parts.1 t.few;
      data_lines = subst (λ z. TakesLines (lines_wanted text) z x.lines after) parts.2 (subst (λ z. TakesLines (lines_wanted z) t.behind x.lines after) parts.1 t.data_lines);
    }

-- behind a text that sets the name of a 65th session more was read than a script has
session_over : (s : Placed) (x : Cut) (name : List ℕ) → is_session s.sessions name ≡ false → length s.sessions ≡ most_sessions → IsWithin (set_session s name) → ⊥
session_over s x name other full w =
    let few : length (with_session s.sessions name) ≤ 64 = w.sessions in
    let grown : with_session s.sessions name ≡ s.sessions ++ name ∷ [] = rw other refl in
    let n : length (with_session s.sessions name) ≡ length s.sessions + 1 = ap length grown ∙ length-append s.sessions (name ∷ []) in
    omega arith

-- and so behind a statement where as many as a script has stand before it
statement_over : (s : Placed) (x : Cut) → length (statements (script_of s)) ≡ most_statements → IsWithin (add_statement s x) → ⊥
statement_over s x full w =
    let few : length (statements (script_of (add_statement s x))) ≤ 1000000 = w.all_statements in
    let n : length (statements (script_of (add_statement s x))) ≡ length (statements (script_of s)) + 1 = count_added s x in
    omega arith

-- each fault is one of three kinds: too many bytes, bytes that are no UTF-8, a statement at fault
abbrev Kind : List ℕ → FaultName → ℕ → Type 0
Kind bytes name byte = ((name ≡ TooLong) × (most_bytes < length bytes) × (byte ≡ most_bytes)) ⊎ ((name ≡ NotUtf8) × IsNotUtf8 bytes byte) ⊎ Halts bytes name byte

by_long : (tree : Option Ast) (wanted there : ℕ) → most_lines < wanted → LongImport ≡ fault_by tree wanted there
by_long tree wanted there many = let e : nat_le wanted most_lines ≡ false = grind (arith, nat_tests) in rw e refl

by_short : (tree : Option Ast) (wanted there : ℕ) → wanted ≤ most_lines → there < wanted → ShortImport ≡ fault_by tree wanted there
by_short tree wanted there allowed few =
    let e : nat_le wanted most_lines ≡ true = grind (arith, nat_tests) in
    let f : nat_le wanted there ≡ false = grind (arith, nat_tests) in rw (e, f) refl

by_many : (tree : Option Ast) (wanted there : ℕ) (name : FaultName) → wanted ≤ most_lines → wanted ≤ there → name ≡ fault_of_many tree → name ≡ fault_by tree wanted there
by_many tree wanted there name allowed enough is =
    let e : nat_le wanted most_lines ≡ true = grind (arith, nat_tests) in
    let f : nat_le wanted there ≡ true = grind (arith, nat_tests) in rw (e, f) is

kind_of : (bytes : List ℕ) (name : FaultName) (byte : ℕ) → IsFault bytes name byte → Kind bytes name byte
kind_of bytes TooLong byte f = inl (refl, f.0, f.1)
kind_of bytes NotUtf8 byte f = inr (inl (refl, f))
kind_of bytes Unended byte f =
    let o : OpensText f.rest f.text = record { blanks = f.blanks; blank = f.blank; begins = f.begins; unended = f.unended; is = f.is } in
    inr (inr (record {
      rest = f.rest;
      front = f.front;
      last = opens_last (placed_by f.front.cuts) f.rest f.text o;
      from = f.text;
      at = f.at;
      stands = inl (refl, o);
    }))
kind_of bytes LongImport byte f =
    let many : most_lines < lines_wanted f.text = f.many in
    inr (inr (follows_halts bytes f.text f.behind LongImport byte f.follows
    (λ x after t within. let few = (follows_taken bytes f.text f.behind after byte x f.follows t).allowed in omega arith)
    (by_long _ _ _ f.many)))
kind_of bytes ShortImport byte f =
    let few : length (line_list (data_behind f.behind)) < lines_wanted f.text = f.few in
    inr (inr (follows_halts bytes f.text f.behind ShortImport byte f.follows
    (λ x after t within. let enough = has_enough _ _ _ _ (follows_taken bytes f.text f.behind after byte x f.follows t).data_lines in omega arith)
    (by_short _ _ _ f.allowed f.few)))
kind_of bytes TooManySessions byte f =
    let s = placed_by f.follows.front.cuts in
    inr (inr (follows_halts bytes f.text f.behind TooManySessions byte f.follows
    (λ x after t within.
    let tree = ap (λ z. tree_of z) (follows_taken bytes f.text f.behind after byte x f.follows t).text_is ∙ f.sets in
    session_over s x f.name.name f.other f.full (subst (λ z. IsWithin (place_cut s x z)) tree within))
    (by_many _ _ _ TooManySessions f.allowed f.enough (rw f.sets refl))))
kind_of bytes TooManyStatements byte f =
    let s = placed_by f.follows.front.cuts in
    inr (inr (follows_halts bytes f.text f.behind TooManyStatements byte f.follows
    (λ x after t within.
    let tree = ap (λ z. tree_of z) (follows_taken bytes f.text f.behind after byte x f.follows t).text_is in
    let added = replied_added s x (tree_of x.text) (ap (λ z. has_reply z) tree ∙ f.replied) in
    statement_over s x f.full (subst (λ z. IsWithin z) added within))
    (by_many _ _ _ TooManyStatements f.allowed f.enough (rw f.replied refl))))

too_long : (bytes : List ℕ) → most_bytes < length bytes → length bytes ≤ most_bytes → ⊥
too_long bytes long short = omega arith

kinds_same : (bytes : List ℕ) (name other : FaultName) (byte place : ℕ) → Kind bytes name byte → Kind bytes other place → (name ≡ other) × (byte ≡ place)
kinds_same bytes name other byte place (inl f) (inl g) = (f.0 ∙ sym g.0, f.2 ∙ sym g.2)
kinds_same bytes name other byte place (inl f) (inr (inl g)) = absurd (too_long bytes f.1 g.1.short)
kinds_same bytes name other byte place (inl f) (inr (inr g)) = absurd (too_long bytes f.1 g.front.short)
kinds_same bytes name other byte place (inr (inl f)) (inl g) = absurd (too_long bytes g.1 f.1.short)
kinds_same bytes name other byte place (inr (inl f)) (inr (inl g)) =
    (f.0 ∙ sym g.0, sym (utf8_valid_len-IsValidUpTo bytes byte f.1.longest) ∙ utf8_valid_len-IsValidUpTo bytes place g.1.longest)
kinds_same bytes name other byte place (inr (inl f)) (inr (inr g)) = absurd (f.1.none g.front.utf8)
kinds_same bytes name other byte place (inr (inr f)) (inl g) = absurd (too_long bytes g.1 f.front.short)
kinds_same bytes name other byte place (inr (inr f)) (inr (inl g)) = absurd (g.1.none f.front.utf8)
kinds_same bytes name other byte place (inr (inr f)) (inr (inr g)) = halts_same bytes name other byte place f g

-- at most one fault
pub one_fault : OneFault
one_fault bytes name other byte place f g = kinds_same bytes name other byte place (kind_of bytes name byte f) (kind_of bytes other place g)

-- at most one script
pub one_script : OneScript
one_script bytes s t i j =
    let a = i.front in
    let b = j.front in
    let both = cuts_same placed_first bytes a.cuts b.cuts i.rest j.rest a.read b.read a.within b.within
    (blank_last (placed_by a.cuts) i.rest i.blank) (blank_last (placed_by b.cuts) j.rest j.blank) in
    i.is ∙ ap (λ z. script_of (placed_by z)) both.0 ∙ sym j.is

-- a script has no fault
script_or_kind : (bytes : List ℕ) (s : Script) (name : FaultName) (byte : ℕ) → IsScript bytes s → Kind bytes name byte → ⊥
script_or_kind bytes s name byte i (inl f) = too_long bytes f.1 i.front.short
script_or_kind bytes s name byte i (inr (inl f)) = f.1.none i.front.utf8
script_or_kind bytes s name byte i (inr (inr f)) =
    let a = i.front in
    let b = f.front in
    let rests = (cuts_same placed_first bytes a.cuts b.cuts i.rest f.rest a.read b.read a.within b.within (blank_last (placed_by a.cuts) i.rest i.blank) f.last).1 in
    stands_unblank f.rest f.from name f.stands (subst (λ z. list_all is_blank z ≡ true) rests i.blank)

pub no_fault_too : NoFaultToo
no_fault_too bytes s name byte i f = script_or_kind bytes s name byte i (kind_of bytes name byte f)
