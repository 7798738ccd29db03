-- Replies.
use Rattle.std.proofs.Common.{◌≡◌, ◌⊎◌, inl, inr, ℕ, ◌+◌, ◌≤◌, ◌^◌, List, [], ◌++◌, length, refl, sym, ap, ◌∙◌, append_assoc}
use Rattle.std.specs.Prelude.{codes}
use Rattle.std.specs.List.{All, AllZip, flat_map}
use Rattle.std.specs.Fmt.{decimal}
use Rattle.std.proofs.lemmas.Bool.{or_right}
use Rattle.std.proofs.lemmas.List.{append-nil, append_cancel_left}
use Rattle.hv_model.specs.Token.{IsPlain, begins_name, is_digit, is_name_byte}
use Rattle.hv_model.specs.Report.{detail_text, failure_text, refusal_text, replies_text, reply_text, row_line}
use Rattle.hv_model.specs.declared.catalogue.Detail.{Detail}
use Rattle.hv_model.specs.declared.catalogue.Detail.TheVariants as detail
use Rattle.hv_model.specs.declared.reply.Reply.{Reply}
use Rattle.hv_model.specs.declared.reply.Reply.TheVariants as reply
use Rattle.hv_model.specs.declared.reply.Refusal.{Refusal}
use Rattle.hv_model.specs.declared.reply.Refusal.TheVariants as refused
use Rattle.hv_model.specs.declared.reply.Failure.{Failure}
use Rattle.hv_model.specs.declared.reply.Failure.TheVariants.{Read, Write, Damaged, Memory}
use Rattle.hv_model.specs.declared.reply.Why.{Why}
use Rattle.hv_report.specs.Law.{DetailInRange, DetailNamed, FailureInRange, Is32, RefusalInRange, ReplyInRange, ReplyNamed, SameReply}
use Rattle.hv_report.proofs.Decoding.{Anything, Decodes, IsMany, Starts, Stops, differ, run_told, starts_append, stops_weaker, until_end}
use Rattle.hv_report.proofs.Numbers.{IsWide, decimal_starts, decimal_told, wide_8, wide_32, wide_64}
use Rattle.hv_report.proofs.Cells.{rows_told}

-- a name before a byte that none has
pub name_told : Decodes IsPlain (λ name. name) (Stops is_name_byte) (λ a b. a ≡ b)
name_told a b x y good good' stops stops' e = run_told is_name_byte a b x y good good' stops stops' e

-- a number of 32 bits before a byte that is no digit
pub number_told : Decodes Is32 decimal (Stops is_digit) (λ a b. a ≡ b)
number_told a b x y good good' stops stops' e = decimal_told a b x y (wide_32 a good) (wide_32 b good') stops stops' e

-- a number behind a word
wide_behind : (word : List ℕ) (a b : ℕ) (x y : List ℕ) → IsWide a → IsWide b → Stops is_digit x → Stops is_digit y
    → word ++ (decimal a ++ x) ≡ word ++ (decimal b ++ y) → (a ≡ b) × (x ≡ y)
wide_behind word a b x y good good' stops stops' e =
    decimal_told a b x y good good' stops stops' (append_cancel_left word (decimal a ++ x) (decimal b ++ y) e)

-- a number of 32 bits behind a word
behind_word : (word : List ℕ) (a b : ℕ) (x y : List ℕ) → Is32 a → Is32 b → Stops is_digit x → Stops is_digit y
    → word ++ (decimal a ++ x) ≡ word ++ (decimal b ++ y) → (a ≡ b) × (x ≡ y)
behind_word word a b x y good good' stops stops' e =
    wide_behind word a b x y (wide_32 a good) (wide_32 b good') stops stops' e

-- where no name goes on, no number does
ends_name : (x : List ℕ) → Stops is_name_byte x → Stops is_digit x
ends_name x stops = stops_weaker is_name_byte is_digit (λ c. or_right (begins_name c) (is_digit c)) x stops

-- what an accepted command did
abbrev pub DetailGood : Detail → Type 0
DetailGood what = DetailNamed what × DetailInRange what

-- an import before what follows it
import_after : (table : List ℕ) (chunk rows : ℕ) (x : List ℕ) → detail_text (detail.Import table chunk rows) ++ x
    ≡ codes "import " ++ (table ++ (codes " chunk " ++ (decimal chunk ++ (codes " rows " ++ (decimal rows ++ x)))))
import_after table chunk rows x = simp append_assoc

-- a purge before what follows it
purge_after : (table : List ℕ) (chunk : ℕ) (x : List ℕ) → detail_text (detail.Purge table chunk) ++ x ≡ codes "purge " ++ (table ++ (codes " chunk " ++ (decimal chunk ++ x)))
purge_after table chunk x = simp append_assoc

-- a detail before what no name has
pub detail_told : Decodes DetailGood detail_text (Stops is_name_byte) (λ a b. a ≡ b)
detail_told (detail.Create a) (detail.Create b) x y good good' stops stops' e =
    let told = name_told a b x y good.0 good'.0 stops stops' (append_cancel_left (codes "create ") (a ++ x) (b ++ y) e) in
    (ap detail.Create told.0, told.1)
detail_told (detail.Import a chunk rows) (detail.Import b other more) x y good good' stops stops' e =
    let names = name_told a b _ _ good.0 good'.0 refl refl
    (append_cancel_left (codes "import ") _ _ (sym (import_after a chunk rows x) ∙ e ∙ import_after b other more y)) in
    let chunks = behind_word (codes " chunk ") chunk other _ _ good.1.0 good'.1.0 refl refl names.1 in
    let counts = behind_word (codes " rows ") rows more x y good.1.1 good'.1.1 (ends_name x stops) (ends_name y stops') chunks.1 in
    let table : a ≡ b = names.0 in
    let number : chunk ≡ other = chunks.0 in
    let count : rows ≡ more = counts.0 in
    ((cc), counts.1)
detail_told (detail.Purge a chunk) (detail.Purge b other) x y good good' stops stops' e =
    let names = name_told a b _ _ good.0 good'.0 refl refl
    (append_cancel_left (codes "purge ") _ _ (sym (purge_after a chunk x) ∙ e ∙ purge_after b other y)) in
    let chunks = behind_word (codes " chunk ") chunk other x y good.1 good'.1 (ends_name x stops) (ends_name y stops') names.1 in
    let table : a ≡ b = names.0 in
    let number : chunk ≡ other = chunks.0 in
    ((cc), chunks.1)
detail_told a b x y good good' stops stops' e = absurd (differ (detail_text a ++ x) (detail_text b ++ y) refl e)

-- a refusal with a number, behind its word
told_with : (word : List ℕ) (refusal : ℕ → Refusal) (a b : ℕ) (x y : List ℕ) → IsWide a → IsWide b → Stops is_digit x → Stops is_digit y
    → word ++ (decimal a ++ x) ≡ word ++ (decimal b ++ y) → (refusal a ≡ refusal b) × (x ≡ y)
told_with word refusal a b x y good good' stops stops' e =
    let told = wide_behind word a b x y good good' stops stops' e in (ap refusal told.0, told.1)

-- a refusal at a byte, behind its word
told_at : (word : List ℕ) (refusal : ℕ → Refusal) (a b : ℕ) (x y : List ℕ) → Is32 a → Is32 b → Stops is_digit x → Stops is_digit y
    → word ++ (decimal a ++ x) ≡ word ++ (decimal b ++ y) → (refusal a ≡ refusal b) × (x ≡ y)
told_at word refusal a b x y good good' stops stops' e = told_with word refusal a b x y (wide_32 a good) (wide_32 b good') stops stops' e

-- a record that is no row, before what follows it
bad_row_after : (row column : ℕ) (x : List ℕ) → refusal_text (refused.BadRow row column) ++ x ≡ codes "bad-row " ++ (decimal row ++ (codes " " ++ (decimal column ++ x)))
bad_row_after row column x = simp append_assoc

-- why a statement is refused
refusal_told : Decodes RefusalInRange refusal_text (Stops is_digit) (λ a b. a ≡ b)
refusal_told refused.Unbuilt refused.Unbuilt x y good good' stops stops' e = (refl, append_cancel_left (codes "unbuilt") x y e)
refusal_told refused.EmptyAggregate refused.EmptyAggregate x y good good' stops stops' e = (refl, append_cancel_left (codes "empty-aggregate") x y e)
refusal_told (refused.Syntax a) (refused.Syntax b) x y good good' stops stops' e = told_at (codes "syntax ") refused.Syntax a b x y good good' stops stops' e
refusal_told refused.TooManyColumns refused.TooManyColumns x y good good' stops stops' e = (refl, append_cancel_left (codes "too-many-columns") x y e)
refusal_told (refused.DuplicateColumn a) (refused.DuplicateColumn b) x y good good' stops stops' e = told_with (codes "duplicate-column ") refused.DuplicateColumn a b x y (wide_8 a good) (wide_8 b good') stops stops' e
refusal_told refused.TableExists refused.TableExists x y good good' stops stops' e = (refl, append_cancel_left (codes "table-exists") x y e)
refusal_told refused.TooManyTables refused.TooManyTables x y good good' stops stops' e = (refl, append_cancel_left (codes "too-many-tables") x y e)
refusal_told (refused.BadRow row column) (refused.BadRow other more) x y good good' stops stops' e =
    let rows = behind_word (codes "bad-row ") row other (codes " " ++ (decimal column ++ x)) (codes " " ++ (decimal more ++ y)) good.0 good'.0 refl refl
    (sym (bad_row_after row column x) ∙ e ∙ bad_row_after other more y) in
    let columns = wide_behind (codes " ") column more x y (wide_8 column good.1) (wide_8 more good'.1) stops stops' rows.1 in
    let record_same : row ≡ other = rows.0 in
    let column_same : column ≡ more = columns.0 in
    ((cc), columns.1)
refusal_told (refused.LongRow a) (refused.LongRow b) x y good good' stops stops' e = told_at (codes "long-row ") refused.LongRow a b x y good good' stops stops' e
refusal_told refused.TooManyChunks refused.TooManyChunks x y good good' stops stops' e = (refl, append_cancel_left (codes "too-many-chunks") x y e)
refusal_told (refused.NoChunk a) (refused.NoChunk b) x y good good' stops stops' e = told_with (codes "no-chunk ") refused.NoChunk a b x y (wide_64 a good) (wide_64 b good') stops stops' e
refusal_told refused.HistoryFull refused.HistoryFull x y good good' stops stops' e = (refl, append_cancel_left (codes "history-full") x y e)
refusal_told (refused.NoTable a) (refused.NoTable b) x y good good' stops stops' e = told_at (codes "no-table ") refused.NoTable a b x y good good' stops stops' e
refusal_told (refused.TooManyPlaces a) (refused.TooManyPlaces b) x y good good' stops stops' e = told_at (codes "too-many-places ") refused.TooManyPlaces a b x y good good' stops stops' e
refusal_told (refused.DuplicateAlias a) (refused.DuplicateAlias b) x y good good' stops stops' e = told_at (codes "duplicate-alias ") refused.DuplicateAlias a b x y good good' stops stops' e
refusal_told (refused.NoColumn a) (refused.NoColumn b) x y good good' stops stops' e = told_at (codes "no-column ") refused.NoColumn a b x y good good' stops stops' e
refusal_told (refused.Ambiguous a) (refused.Ambiguous b) x y good good' stops stops' e = told_at (codes "ambiguous ") refused.Ambiguous a b x y good good' stops stops' e
refusal_told (refused.TypeMismatch a) (refused.TypeMismatch b) x y good good' stops stops' e = told_at (codes "type-mismatch ") refused.TypeMismatch a b x y good good' stops stops' e
refusal_told (refused.NotGrouped a) (refused.NotGrouped b) x y good good' stops stops' e = told_at (codes "not-grouped ") refused.NotGrouped a b x y good good' stops stops' e
refusal_told (refused.NoOutput a) (refused.NoOutput b) x y good good' stops stops' e = told_at (codes "no-output ") refused.NoOutput a b x y good good' stops stops' e
refusal_told a b x y good good' stops stops' e = absurd (differ (refusal_text a ++ x) (refusal_text b ++ y) refl e)

-- the same page did not serve
record SamePage (a b : Failure) : Type 0 where
  chunk : ℕ
  page : ℕ
  why : Why
  other : Why
  first : a ≡ Damaged chunk page why
  second : b ≡ Damaged chunk page other

-- failures that print alike
abbrev SameFailure : Failure → Failure → Type 0
SameFailure a b = (a ≡ b) ⊎ SamePage a b

-- a failed page before what follows it
damaged_after : (chunk page : ℕ) (why : Why) (x : List ℕ) → failure_text (Damaged chunk page why) ++ x ≡ codes "damaged " ++ (decimal chunk ++ (codes " " ++ (decimal page ++ x)))
damaged_after chunk page why x = simp append_assoc

-- why a statement failed
failure_told : Decodes FailureInRange failure_text (Stops is_digit) SameFailure
failure_told Read Read x y good good' stops stops' e = (inl refl, append_cancel_left (codes "read") x y e)
failure_told Write Write x y good good' stops stops' e = (inl refl, append_cancel_left (codes "write") x y e)
failure_told Memory Memory x y good good' stops stops' e = (inl refl, append_cancel_left (codes "memory") x y e)
failure_told (Damaged chunk page why) (Damaged other more cause) x y good good' stops stops' e =
    let chunks = behind_word (codes "damaged ") chunk other (codes " " ++ (decimal page ++ x)) (codes " " ++ (decimal more ++ y)) good.0 good'.0 refl refl
    (sym (damaged_after chunk page why x) ∙ e ∙ damaged_after other more cause y) in
    let pages = behind_word (codes " ") page more x y good.1 good'.1 stops stops' chunks.1 in
    let number : chunk ≡ other = chunks.0 in
    let place : page ≡ more = pages.0 in
    (inr (record { chunk = chunk; page = page; why = why; other = cause; first = refl; second = (cc) }), pages.1)
failure_told a b x y good good' stops stops' e = absurd (differ (failure_text a ++ x) (failure_text b ++ y) refl e)

-- a reply behind its number, before what follows it
abbrev body : Reply → List ℕ → List ℕ
body (reply.Done at what) x = codes " ok @" ++ (decimal at ++ (codes " " ++ (detail_text what ++ (codes "\n" ++ x))))
body (reply.Rows at rows) x = codes " rows @" ++ (decimal at ++ (codes " " ++ (decimal (length rows) ++ (codes "\n" ++ (flat_map row_line rows ++ x)))))
body (reply.Refused at cause) x = codes " refused @" ++ (decimal at ++ (codes " " ++ (refusal_text cause ++ (codes "\n" ++ x))))
body (reply.Failed at cause) x = codes " failed @" ++ (decimal at ++ (codes " " ++ (failure_text cause ++ (codes "\n" ++ x))))

-- a reply begins with its number
reply_after : (k : ℕ) (r : Reply) (x : List ℕ) → reply_text k r ++ x ≡ decimal k ++ body r x
reply_after k (reply.Done at what) x = simp append_assoc
reply_after k (reply.Rows at rows) x = simp append_assoc
reply_after k (reply.Refused at cause) x = simp append_assoc
reply_after k (reply.Failed at cause) x = simp append_assoc

-- what is supposed of a reply
abbrev pub ReplyGood : Reply → Type 0
ReplyGood r = ReplyNamed r × ReplyInRange r

-- failures that print alike, as replies
same_failed : (at other : ℕ) (cause why : Failure) → at ≡ other → SameFailure cause why → SameReply (reply.Failed at cause) (reply.Failed other why)
same_failed at other cause why same (inl equal) = inl (cc)
same_failed at other cause why same (inr page) =
    let first : cause ≡ Damaged page.chunk page.page page.why = page.first in
    let second : why ≡ Damaged page.chunk page.page page.other = page.second in
    inr (record { at = at; chunk = page.chunk; page = page.page; why = page.why; other = page.other; first = (cc); second = (cc) })

-- a reply behind its number is told by its words
body_told : (a b : Reply) (x y : List ℕ) → ReplyGood a → ReplyGood b → body a x ≡ body b y → SameReply a b × (x ≡ y)
body_told (reply.Done at what) (reply.Done other more) x y good good' e =
    let ats = behind_word (codes " ok @") at other _ _ good.1.0 good'.1.0 refl refl e in
    let whats = detail_told what more _ _ (good.0, good.1.1) (good'.0, good'.1.1) refl refl (append_cancel_left (codes " ") _ _ ats.1) in
    let number : at ≡ other = ats.0 in
    let same : what ≡ more = whats.0 in
    (inl (cc), append_cancel_left (codes "\n") x y whats.1)
body_told (reply.Rows at rows) (reply.Rows other more) x y good good' e =
    let ats = behind_word (codes " rows @") at other _ _ good.1.0 good'.1.0 refl refl e in
    let counts = decimal_told (length rows) (length more) (codes "\n" ++ (flat_map row_line rows ++ x)) (codes "\n" ++ (flat_map row_line more ++ y))
    (wide_64 (length rows) good.1.1) (wide_64 (length more) good'.1.1) refl refl (append_cancel_left (codes " ") _ _ ats.1) in
    let told = rows_told rows more x y counts.0 good.1.2 good'.1.2 (append_cancel_left (codes "\n") _ _ counts.1) in
    let number : at ≡ other = ats.0 in
    let same : rows ≡ more = told.0 in
    (inl (cc), told.1)
body_told (reply.Refused at cause) (reply.Refused other why) x y good good' e =
    let ats = behind_word (codes " refused @") at other _ _ good.1.0 good'.1.0 refl refl e in
    let causes = refusal_told cause why _ _ good.1.1 good'.1.1 refl refl (append_cancel_left (codes " ") _ _ ats.1) in
    let number : at ≡ other = ats.0 in
    let same : cause ≡ why = causes.0 in
    (inl (cc), append_cancel_left (codes "\n") x y causes.1)
body_told (reply.Failed at cause) (reply.Failed other why) x y good good' e =
    let ats = behind_word (codes " failed @") at other _ _ good.1.0 good'.1.0 refl refl e in
    let causes = failure_told cause why _ _ good.1.1 good'.1.1 refl refl (append_cancel_left (codes " ") _ _ ats.1) in
    (same_failed at other cause why ats.0 causes.0, append_cancel_left (codes "\n") x y causes.1)
body_told a b x y good good' e = absurd (differ (body a x) (body b y) refl e)

-- the reply to the k-th statement
reply_told : (k : ℕ) → Decodes ReplyGood (reply_text k) Anything SameReply
reply_told k a b x y good good' any any' e =
    body_told a b x y good good' (append_cancel_left (decimal k) (body a x) (body b y) (sym (reply_after k a x) ∙ e ∙ reply_after k b y))

-- a reply begins with a digit
reply_starts : (k : ℕ) (r : Reply) → IsWide k → Starts is_digit (reply_text k r)
reply_starts k r wide =
    let is : reply_text k r ≡ decimal k ++ body r [] = sym (append-nil (reply_text k r)) ∙ reply_after k r [] in
    rw is (starts_append is_digit (decimal k) (body r []) (decimal_starts k wide))

-- replies are one after another
pub replies_many : IsMany reply_text replies_text
replies_many = record { none = λ k. refl; more = λ k r rs. refl }

-- replies before what begins with no digit
pub replies_told : (k : ℕ) (xs ys : List Reply) (x y : List ℕ) → k + length xs ≤ 10 ^ 64 → k + length ys ≤ 10 ^ 64 → All ReplyGood xs → All ReplyGood ys
    → Stops is_digit x → Stops is_digit y → replies_text k xs ++ x ≡ replies_text k ys ++ y → AllZip SameReply xs ys × (x ≡ y)
replies_told k xs ys x y within within' good good' end end' e =
    until_end ReplyGood reply_text replies_text Anything (Stops is_digit) SameReply is_digit (10 ^ 64) replies_many reply_told
    (λ i r below here. reply_starts i r below) (λ z stops. stops) (λ i rs z stops. tt) k xs ys x y within within' good good' end end' e
