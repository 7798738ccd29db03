-- One more text, and faults behind texts.
use Rattle.std.proofs.Common.{◌≡◌, ℕ, zero, suc, ◌+◌, ◌<◌, ◌≤◌, true, false, List, [], ◌∷◌, ◌++◌, length, Some, IsUtf8, refl, ◌∙◌, ap, arith, length-append}
use Rattle.std.proofs.lemmas.List.Sums.{fold-append}
use Rattle.hv_model.specs.declared.tree.Word.{Word}
use Rattle.hv_model.specs.declared.tree.Ast.TheVariants as ast
use Rattle.hv_model.specs.declared.script.FaultName.{FaultName}
use Rattle.hv_model.specs.Command.{statements}
use Rattle.hv_model.specs.Parsed.{lines_wanted, tree_of}
use Rattle.hv_model.specs.Script.{most_bytes, most_sessions, most_statements, Cut, Cuts, Takes, TakesLines, ReadsTo, Follows, placed_first, after_cut, placed_by, script_of, is_session, has_reply, IsWithin, IsUnended, IsLongImport, IsShortImport, IsSessionTooMany, IsOneTooMany, IsFault, line_list, data_behind}
use Rattle.hv_model.proofs.ScriptLengths.{length_after, behind_length}
use Rattle.hv_script.specs.declared.fault.BytesFault.{BytesFault}
use Rattle.hv_script.specs.declared.fault.BytesFault.TheVariants.{Found, Memory}
use Rattle.hv_script.specs.Fault.{IsFaultOf, TellsAt}
use Rattle.hv_script.specs.Next.{OpensText, ClosesText, WantsMany, LacksLines, HasNext}
use Rattle.hv_script.proofs.Parts.{lines_grow}

-- a text and what is behind its `;`
pub closes_length : (bytes from text behind : List ℕ) → ClosesText bytes from text behind → length text + (1 + length behind) ≤ length bytes
closes_length bytes from text behind c =
    let n : length from ≡ length text + (1 + length behind) = ap length c.from_is ∙ length-append text (59 ∷ behind) ∙ omega arith in
    omega (arith, behind_length bytes c.blanks from c.is)

-- each text takes a byte
pub next_shorter : (bytes from text lines after : List ℕ) → HasNext bytes from text lines after → length after < length bytes
next_shorter bytes from text lines after h =
    omega (arith, closes_length bytes from text h.behind h.closes, length_after (lines_wanted text) h.behind lines after h.data_lines)

-- a text and its lines
abbrev pub cut_of : List ℕ → List ℕ → Cut
cut_of text lines = record { text = text; lines = lines }

-- they are taken where they stand next
pub takes_next : (bytes from text lines after : List ℕ) → HasNext bytes from text lines after → Takes bytes (cut_of text lines) after
takes_next bytes from text lines after h = record {
  blanks = h.closes.blanks;
  behind = h.behind;
  blank = h.closes.blank;
  text = h.closes.text_is;
  is = h.closes.is ∙ ap (λ z. h.closes.blanks ++ z) h.closes.from_is;
  few = h.allowed;
  data_lines = h.data_lines;
}

-- and what is taken stands next
pub closes_of : (bytes after : List ℕ) (cut : Cut) (t : Takes bytes cut after) → ClosesText bytes (cut.text ++ 59 ∷ t.behind) cut.text t.behind
closes_of bytes after cut t = record { blanks = t.blanks; blank = t.blank; text_is = t.text; is = t.is; from_is = refl }

-- one more text
pub cuts_push : (bytes : List ℕ) (cuts : List Cut) (cut : Cut) (rest after : List ℕ) → Cuts bytes cuts rest → Takes rest cut after → Cuts bytes (cuts ++ cut ∷ []) after
cuts_push bytes [] cut rest after read t = (after, rw read t, refl)
cuts_push bytes (first ∷ cuts) cut rest after read t = (read.0, read.1, cuts_push read.0 cuts cut rest after read.2 t)

pub placed_push : (cuts : List Cut) (cut : Cut) → placed_by (cuts ++ cut ∷ []) ≡ after_cut (placed_by cuts) cut
placed_push cuts cut = fold-append after_cut placed_first cuts (cut ∷ [])

-- what stands behind texts without a fault, as a fault
abbrev pub reads_to : (bytes rest : List ℕ) (cuts : List Cut) → length bytes ≤ most_bytes → IsUtf8 bytes → Cuts bytes cuts rest → IsWithin (placed_by cuts) → ReadsTo bytes rest
reads_to bytes rest cuts short utf8 read within = record { short = short; utf8 = utf8; cuts = cuts; read = read; within = within }

abbrev follows_of : (bytes rest from text behind : List ℕ) (byte : ℕ) → ReadsTo bytes rest → ClosesText rest from text behind → byte + length from ≡ length bytes → Follows bytes byte text behind
follows_of bytes rest from text behind byte front c at = record {
  rest = rest;
  front = front;
  blanks = c.blanks;
  blank = c.blank;
  text_is = c.text_is;
  is = c.is ∙ ap (λ z. c.blanks ++ z) c.from_is;
  at = rw c.from_is at at;
}

pub unended : (bytes rest from : List ℕ) (byte : ℕ) → ReadsTo bytes rest → OpensText rest from → byte + length from ≡ length bytes → IsUnended bytes byte
unended bytes rest from byte front o at = record {
  rest = rest;
  front = front;
  blanks = o.blanks;
  text = from;
  blank = o.blank;
  begins = o.begins;
  unended = o.unended;
  is = o.is;
  at = at;
}

pub long_import : (bytes rest from : List ℕ) (byte : ℕ) → ReadsTo bytes rest → WantsMany rest from → byte + length from ≡ length bytes → IsLongImport bytes byte
long_import bytes rest from byte front w at = record {
  text = w.text;
  behind = w.behind;
  follows = follows_of bytes rest from w.text w.behind byte front w.closes at;
  many = w.many;
}

pub short_import : (bytes rest from : List ℕ) (byte : ℕ) → ReadsTo bytes rest → LacksLines rest from → byte + length from ≡ length bytes → IsShortImport bytes byte
short_import bytes rest from byte front l at = record {
  text = l.text;
  behind = l.behind;
  follows = follows_of bytes rest from l.text l.behind byte front l.closes at;
  allowed = l.allowed;
  few = l.few;
}

-- lines that are taken are there
pub has_enough : (wanted : ℕ) (behind lines after : List ℕ) → TakesLines wanted behind lines after → wanted ≤ length (line_list (data_behind behind))
has_enough zero behind lines after t = omega arith
has_enough (suc w) behind lines after t =
    let n : length (line_list (data_behind behind)) ≡ length (line_list (lines ++ after)) = ap (λ z. length (line_list z)) (t.some (omega arith)) in
    let count : length (line_list lines) ≡ suc w = t.count in
    omega (arith, lines_grow lines after)

pub session_too_many : (bytes rest from text lines after : List ℕ) (byte : ℕ) (front : ReadsTo bytes rest) (name : Word) → tree_of text ≡ Some (ast.Session name)
    → is_session (placed_by front.cuts).sessions name.name ≡ false → length (placed_by front.cuts).sessions ≡ most_sessions
    → HasNext rest from text lines after → byte + length from ≡ length bytes → IsSessionTooMany bytes byte
session_too_many bytes rest from text lines after byte front name sets other full h at = record {
  text = text;
  behind = h.behind;
  follows = follows_of bytes rest from text h.behind byte front h.closes at;
  allowed = h.allowed;
  enough = has_enough (lines_wanted text) h.behind lines after h.data_lines;
  name = name;
  sets = sets;
  other = other;
  full = full;
}

pub one_too_many : (bytes rest from text lines after : List ℕ) (byte : ℕ) (front : ReadsTo bytes rest) → has_reply (tree_of text) ≡ true
    → length (statements (script_of (placed_by front.cuts))) ≡ most_statements
    → HasNext rest from text lines after → byte + length from ≡ length bytes → IsOneTooMany bytes byte
one_too_many bytes rest from text lines after byte front replied full h at = record {
  text = text;
  behind = h.behind;
  follows = follows_of bytes rest from text h.behind byte front h.closes at;
  allowed = h.allowed;
  enough = has_enough (lines_wanted text) h.behind lines after h.data_lines;
  replied = replied;
  full = full;
}

-- a fault that is told at a text's first byte
pub told_at : (name : FaultName) (bytes from : List ℕ) (fault : BytesFault) → TellsAt name bytes from fault
    → ((byte : ℕ) → byte + length from ≡ length bytes → IsFault bytes name byte) → IsFaultOf bytes fault
told_at name bytes from (Found fault) t is = rw t.0 (is fault.byte t.1)
told_at name bytes from Memory t is = absurd t
