-- Histories and statistics.
use Rattle.std.proofs.Common.{◌≡◌, ℕ, List, [], ◌++◌, length, refl, sym, ap, ◌∙◌, append_assoc, Option, Some, None}
use Rattle.std.specs.Prelude.{codes, IfSome}
use Rattle.std.specs.List.{All}
use Rattle.std.specs.Fmt.{decimal}
use Rattle.std.proofs.lemmas.List.{append_cancel_left}
use Rattle.hv_model.specs.Report.{detail_text, entries_text, entry_text, history_text}
use Rattle.hv_model.specs.declared.catalogue.Entry.{Entry}
use Rattle.hv_report.specs.Law.{EntryInRange, EntryNamed, Is64, StatsInRange}
use Rattle.hv_report.specs.Text.{stats_text}
use Rattle.hv_report.specs.declared.report.Stats.{Stats}
use Rattle.hv_report.proofs.Decoding.{Anything, Decodes, IsMany, by_count, differ, zip_equal}
use Rattle.hv_report.proofs.Numbers.{decimal_told, wide_64}
use Rattle.hv_report.proofs.Replies.{detail_told, name_told, number_told}

-- what is supposed of an entry
abbrev pub EntryGood : Entry → Type 0
EntryGood e = EntryNamed e × EntryInRange e

-- an entry part by part
entry_after : (k : ℕ) (e : Entry) (x : List ℕ) → entry_text k e ++ x
    ≡ decimal k ++ (codes " " ++ (e.session ++ (codes " " ++ (decimal e.number ++ (codes " " ++ (detail_text e.what ++ (codes "\n" ++ x)))))))
entry_after k e x = simp append_assoc

-- entries with equal parts
entry_equal : (a b : Entry) → a.session ≡ b.session → a.number ≡ b.number → a.what ≡ b.what → a ≡ b
entry_equal a b session number what = λ i. record { session = session i; number = number i; what = what i }

-- an entry, whatever follows it
entry_told : (k : ℕ) → Decodes EntryGood (entry_text k) Anything (λ a b. a ≡ b)
entry_told k a b x y good good' any any' e =
    let behind = append_cancel_left (decimal k) _ _ (sym (entry_after k a x) ∙ e ∙ entry_after k b y) in
    let sessions = name_told a.session b.session _ _ good.0.session good'.0.session refl refl (append_cancel_left (codes " ") _ _ behind) in
    let numbers = number_told a.number b.number _ _ good.1.number good'.1.number refl refl (append_cancel_left (codes " ") _ _ sessions.1) in
    let whats = detail_told a.what b.what _ _ (good.0.what, good.1.what) (good'.0.what, good'.1.what) refl refl (append_cancel_left (codes " ") _ _ numbers.1) in
    (entry_equal a b sessions.0 numbers.0 whats.0, append_cancel_left (codes "\n") x y whats.1)

-- entries are one after another
pub entries_many : IsMany entry_text entries_text
entries_many = record { none = λ k. refl; more = λ k e es. refl }

-- a history begins with its count
history_after : (entries : List Entry) (x : List ℕ) → history_text entries ++ x ≡ codes "history " ++ (decimal (length entries) ++ (codes "\n" ++ (entries_text 1 entries ++ x)))
history_after entries x = simp append_assoc

-- a history, whatever follows it
pub history_told : (xs ys : List Entry) (x y : List ℕ) → Is64 (length xs) → Is64 (length ys) → All EntryGood xs → All EntryGood ys
    → history_text xs ++ x ≡ history_text ys ++ y → (xs ≡ ys) × (x ≡ y)
history_told xs ys x y count count' good good' e =
    let behind = append_cancel_left (codes "history ") _ _ (sym (history_after xs x) ∙ e ∙ history_after ys y) in
    let counts = decimal_told (length xs) (length ys) _ _ (wide_64 (length xs) count) (wide_64 (length ys) count') refl refl behind in
    let told = by_count EntryGood entry_text entries_text (λ a b. a ≡ b) entries_many entry_told 1 xs ys x y counts.0 good good' (append_cancel_left (codes "\n") _ _ counts.1) in
    (zip_equal xs ys told.0, told.1)

-- statistics with equal parts
stats_equal : (a b : Stats) → a.tasks ≡ b.tasks → a.reads ≡ b.reads → a.submits ≡ b.submits → a ≡ b
stats_equal a b tasks reads submits = λ i. record { tasks = tasks i; reads = reads i; submits = submits i }

-- what stands behind the reads
abbrev after_reads : Stats → List ℕ
after_reads s = codes " submits " ++ (decimal s.submits ++ codes "\n")

-- what stands behind the tasks
abbrev after_tasks : Stats → List ℕ
after_tasks s = codes " reads " ++ (decimal s.reads ++ after_reads s)

-- the statistics part by part
stats_after : (s : Stats) → stats_text (Some s) ≡ codes "stats tasks " ++ (decimal s.tasks ++ after_tasks s)
stats_after s = simp append_assoc

-- the statistics, which end the report
pub stats_told : (a b : Option Stats) → IfSome a StatsInRange → IfSome b StatsInRange → stats_text a ≡ stats_text b → a ≡ b
stats_told None None good good' e = refl
stats_told None (Some b) good good' e = absurd (differ (stats_text (Some b)) [] refl (sym e))
stats_told (Some a) None good good' e = absurd (differ (stats_text (Some a)) [] refl e)
stats_told (Some a) (Some b) good good' e =
    let tasks = number_told a.tasks b.tasks (after_tasks a) (after_tasks b) good.tasks good'.tasks refl refl
    (append_cancel_left (codes "stats tasks ") (decimal a.tasks ++ after_tasks a) (decimal b.tasks ++ after_tasks b) (sym (stats_after a) ∙ e ∙ stats_after b)) in
    let reads = number_told a.reads b.reads (after_reads a) (after_reads b) good.reads good'.reads refl refl
    (append_cancel_left (codes " reads ") (decimal a.reads ++ after_reads a) (decimal b.reads ++ after_reads b) tasks.1) in
    let submits = decimal_told a.submits b.submits (codes "\n") (codes "\n") (wide_64 a.submits good.submits) (wide_64 b.submits good'.submits) refl refl
    (append_cancel_left (codes " submits ") (decimal a.submits ++ codes "\n") (decimal b.submits ++ codes "\n") reads.1) in
    ap Some (stats_equal a b tasks.0 reads.0 submits.0)
