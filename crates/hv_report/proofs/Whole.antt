-- Sessions, and the whole report.
use Rattle.std.proofs.Common.{◌≡◌, ◌≢◌, ℕ, ◌+◌, ◌≤◌, ◌^◌, suc, List, [], ◌∷◌, ◌++◌, length, refl, sym, ap, ◌∙◌, append_assoc, arith}
use Rattle.std.specs.Prelude.{codes}
use Rattle.std.specs.Fmt.{decimal}
use Rattle.std.specs.List.{All, AllPairs, AllZip}
use Rattle.std.proofs.lemmas.List.{append_cancel_left}
use Rattle.std.proofs.lemmas.List.Elements.{All-head, All-map, All-tail}
use Rattle.hv_model.specs.Token.{IsPlain, is_digit}
use Rattle.hv_model.specs.Report.{entries_text, history_text, replies_text, session_text, sessions_text}
use Rattle.hv_model.specs.declared.reply.Reply.{Reply}
use Rattle.hv_report.specs.Law.{Is64, OneReport, SameReply, SameSession, SessionInRange, SessionNamed}
use Rattle.hv_report.specs.Text.{names_of, replies_of, stats_text, text_of}
use Rattle.hv_report.specs.declared.report.Report.{Report}
use Rattle.hv_report.specs.declared.report.SessionReport.{SessionReport}
use Rattle.hv_report.proofs.Decoding.{Stops, differ}
use Rattle.hv_report.proofs.Replies.{ReplyGood, name_told, replies_told}
use Rattle.hv_report.proofs.Histories.{history_told, stats_told}

-- the history, by its first byte
abbrev history_first : List ℕ → List ℕ
history_first x = codes "h" ++ x

-- the line of a session, before what follows it
line_after : (name y x : List ℕ) → (codes "session " ++ name ++ codes "\n" ++ y) ++ x ≡ codes "session " ++ (name ++ (codes "\n" ++ (y ++ x)))
line_after name y x = simp append_assoc

-- a session with a reply begins with its line
session_after : (name : List ℕ) (r : Reply) (rs : List Reply) (x : List ℕ)
    → session_text name (r ∷ rs) ++ x ≡ codes "session " ++ (name ++ (codes "\n" ++ (replies_text 1 (r ∷ rs) ++ x)))
session_after name r rs x = line_after name (replies_text 1 (r ∷ rs)) x

-- what follows replies begins with no digit
sessions_behind : (names : List (List ℕ)) (replies : List (List Reply)) (x : List ℕ) → Stops is_digit (sessions_text names replies ++ history_first x)
sessions_behind [] replies x = refl
sessions_behind (name ∷ names) [] x = refl
sessions_behind (name ∷ names) ([] ∷ more) x = sessions_behind names more x
sessions_behind (name ∷ names) ((r ∷ rs) ∷ more) x = refl

-- a name that no other session has begins no later session
not_later : (name : List ℕ) (names : List (List ℕ)) (replies : List (List Reply)) (z x : List ℕ) → IsPlain name → All IsPlain names → All (λ other. name ≢ other) names
    → codes "session " ++ (name ++ (codes "\n" ++ z)) ≡ sessions_text names replies ++ history_first x → ⊥
not_later name [] replies z x plain plains apart e = differ _ (history_first x) refl e
not_later name (other ∷ names) [] z x plain plains apart e = differ _ (history_first x) refl e
not_later name (other ∷ names) ([] ∷ more) z x plain plains apart e =
    not_later name names more z x plain (All-tail IsPlain other names plains) (All-tail (λ n. name ≢ n) other names apart) e
not_later name (other ∷ names) ((r ∷ rs) ∷ more) z x plain plains apart e =
    let rest = sessions_text names more ++ history_first x in
    let behind = append_cancel_left (codes "session ") (name ++ (codes "\n" ++ z)) _
    (e ∙ append_assoc (session_text other (r ∷ rs)) (sessions_text names more) (history_first x) ∙ session_after other r rs rest) in
    let told = name_told name other _ _ plain (All-head IsPlain other names plains) refl refl behind in
    All-head (λ n. name ≢ n) other names apart told.0

-- what is supposed of the replies of a session
abbrev RepliesGood : List Reply → Type 0
RepliesGood replies = Is64 (length replies) × All ReplyGood replies

-- so many replies are numbered in full
few : (n : ℕ) → Is64 n → 1 + n ≤ 10 ^ 64
few n h = omega arith

-- the replies of one session, before later ones
session_told : (name : List ℕ) (xs ys : List Reply) (x y : List ℕ) → IsPlain name → RepliesGood xs → RepliesGood ys → Stops is_digit x → Stops is_digit y
    → ((z : List ℕ) → codes "session " ++ (name ++ (codes "\n" ++ z)) ≡ x → ⊥) → ((z : List ℕ) → codes "session " ++ (name ++ (codes "\n" ++ z)) ≡ y → ⊥)
    → session_text name xs ++ x ≡ session_text name ys ++ y → AllZip SameReply xs ys × (x ≡ y)
session_told name [] [] x y plain good good' end end' later later' e = (tt, e)
session_told name [] (r ∷ ys) x y plain good good' end end' later later' e =
    absurd (later (replies_text 1 (r ∷ ys) ++ y) (sym (session_after name r ys y) ∙ sym e))
session_told name (r ∷ xs) [] x y plain good good' end end' later later' e =
    absurd (later' (replies_text 1 (r ∷ xs) ++ x) (sym (session_after name r xs x) ∙ e))
session_told name (r ∷ xs) (s ∷ ys) x y plain good good' end end' later later' e =
    let named = append_cancel_left (codes "session ") _ _ (sym (session_after name r xs x) ∙ e ∙ session_after name s ys y) in
    let lines = append_cancel_left (codes "\n") (replies_text 1 (r ∷ xs) ++ x) (replies_text 1 (s ∷ ys) ++ y) (append_cancel_left name _ _ named) in
    replies_told 1 (r ∷ xs) (s ∷ ys) x y (few (length (r ∷ xs)) good.0) (few (length (s ∷ ys)) good'.0) good.1 good'.1 end end' lines

-- the sessions before the history
sessions_told : (names : List (List ℕ)) (xs ys : List (List Reply)) (x y : List ℕ) → length xs ≡ length names → length ys ≡ length names
    → All IsPlain names → AllPairs (λ a b. a ≢ b) names → All RepliesGood xs → All RepliesGood ys
    → sessions_text names xs ++ history_first x ≡ sessions_text names ys ++ history_first y → AllZip (AllZip SameReply) xs ys × (history_first x ≡ history_first y)
sessions_told [] [] [] x y count count' plain apart good good' e = (tt, e)
sessions_told [] [] (t ∷ ys) x y count count' plain apart good good' e = absurd (omega arith)
sessions_told [] (s ∷ xs) ys x y count count' plain apart good good' e = absurd (omega arith)
sessions_told (name ∷ names) [] ys x y count count' plain apart good good' e = absurd (omega arith)
sessions_told (name ∷ names) (s ∷ xs) [] x y count count' plain apart good good' e = absurd (omega arith)
sessions_told (name ∷ names) (s ∷ xs) (t ∷ ys) x y count count' plain apart good good' e =
    let here = All-head IsPlain name names plain in
    let others = All-tail IsPlain name names plain in
    let differs : All (λ other. name ≢ other) names = λ k d within. apart 0 (suc k) d (omega arith) (omega arith) in
    let more_apart : AllPairs (λ a b. a ≢ b) names = λ i j d below within. apart (suc i) (suc j) d (omega arith) (omega arith) in
    let first = session_told name s t (sessions_text names xs ++ history_first x) (sessions_text names ys ++ history_first y) here
    (All-head RepliesGood s xs good) (All-head RepliesGood t ys good') (sessions_behind names xs x) (sessions_behind names ys y)
    (λ z. not_later name names xs z x here others differs) (λ z. not_later name names ys z y here others differs)
    (sym (append_assoc (session_text name s) (sessions_text names xs) (history_first x)) ∙ e ∙ append_assoc (session_text name t) (sessions_text names ys) (history_first y)) in
    let rest = sessions_told names xs ys x y (omega arith) (omega arith) others more_apart (All-tail RepliesGood s xs good) (All-tail RepliesGood t ys good') first.1 in
    ((first.0, rest.0), rest.1)

-- sessions by their names and replies
zip_sessions : (xs ys : List SessionReport) → names_of xs ≡ names_of ys → AllZip (AllZip SameReply) (replies_of xs) (replies_of ys) → AllZip SameSession xs ys
zip_sessions [] [] names replies = tt
zip_sessions [] (t ∷ ys) names replies = cc
zip_sessions (s ∷ xs) [] names replies = cc
zip_sessions (s ∷ xs) (t ∷ ys) names replies =
    let name : s.name ≡ t.name = cc in
    let more : names_of xs ≡ names_of ys = cc in
    ((name, replies.0), zip_sessions xs ys more replies.1)

-- what is supposed, of the names
names_plain : (xs : List SessionReport) → All SessionNamed xs → All IsPlain (names_of xs)
names_plain xs named = All-map IsPlain (λ s. s.name) xs (λ k d within. (named k d within).name)

-- and of the replies
replies_good : (xs : List SessionReport) → All SessionNamed xs → All SessionInRange xs → All RepliesGood (replies_of xs)
replies_good xs named ranged =
    All-map RepliesGood (λ s. s.replies) xs (λ k d within. ((ranged k d within).count, λ i r below. ((named k d within).replies i r below, (ranged k d within).replies i r below)))

-- as many names as lists of replies
as_many : (xs : List SessionReport) → length (replies_of xs) ≡ length (names_of xs)
as_many [] = refl
as_many (s ∷ xs) = ap suc (as_many xs)

-- what stands behind the first byte of the history
abbrev from_history : Report → List ℕ
from_history r = codes "istory " ++ decimal (length r.history) ++ codes "\n" ++ entries_text 1 r.history ++ stats_text r.stats

-- the whole report by its sessions
text_after : (r : Report) → text_of r ≡ sessions_text (names_of r.sessions) (replies_of r.sessions) ++ history_first (from_history r)
text_after r = append_assoc (sessions_text (names_of r.sessions) (replies_of r.sessions)) (history_text r.history) (stats_text r.stats)

-- reports are told by their bytes
pub one_report : OneReport
one_report a b named named' ranged ranged' names distinct e =
    let told = sessions_told (names_of a.sessions) (replies_of a.sessions) (replies_of b.sessions) (from_history a) (from_history b)
    (as_many a.sessions) (as_many b.sessions ∙ sym (ap length names)) (names_plain a.sessions named.sessions) distinct
    (replies_good a.sessions named.sessions ranged.sessions) (replies_good b.sessions named'.sessions ranged'.sessions)
    (sym (text_after a) ∙ e ∙ text_after b ∙ ap (λ n. sessions_text n (replies_of b.sessions) ++ history_first (from_history b)) (sym names)) in
    let histories = history_told a.history b.history (stats_text a.stats) (stats_text b.stats) ranged.count ranged'.count
    (λ k d within. (named.history k d within, ranged.history k d within)) (λ k d within. (named'.history k d within, ranged'.history k d within)) told.1 in
    record {
      sessions = zip_sessions a.sessions b.sessions names told.0;
      history = histories.0;
      stats = stats_told a.stats b.stats ranged.stats ranged'.stats histories.1;
    }
