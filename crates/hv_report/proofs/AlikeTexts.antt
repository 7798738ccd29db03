-- What is alike has the same bytes.
use Rattle.std.proofs.Common.{◌≡◌, inl, inr, ℕ, ◌+◌, List, [], ◌∷◌, ◌++◌, refl, sym, ap, ◌∙◌}
use Rattle.std.specs.Prelude.{codes}
use Rattle.std.specs.List.{AllZip}
use Rattle.hv_model.specs.Report.{history_text, replies_text, reply_text, session_text, sessions_text}
use Rattle.hv_model.specs.declared.reply.Reply.{Reply}
use Rattle.hv_report.specs.Law.{OneText, SameReply, SameSession}
use Rattle.hv_report.specs.Text.{names_of, replies_of, stats_text}
use Rattle.hv_report.specs.declared.report.SessionReport.{SessionReport}

-- why a page did not serve isn't printed
reply_alike : (k : ℕ) (a b : Reply) → SameReply a b → reply_text k a ≡ reply_text k b
reply_alike k a b (inl same) = ap (reply_text k) same
reply_alike k a b (inr damaged) = ap (reply_text k) damaged.first ∙ sym (ap (reply_text k) damaged.second)

replies_alike : (k : ℕ) (xs ys : List Reply) → AllZip SameReply xs ys → replies_text k xs ≡ replies_text k ys
replies_alike k [] [] alike = refl
replies_alike k [] (b ∷ ys) alike = absurd alike
replies_alike k (a ∷ xs) [] alike = absurd alike
replies_alike k (a ∷ xs) (b ∷ ys) alike =
    let first = reply_alike k a b alike.0 in
    let rest = replies_alike (k + 1) xs ys alike.1 in
    ap (λ t. t ++ replies_text (k + 1) xs) first ∙ ap (λ t. reply_text k b ++ t) rest

session_alike : (name : List ℕ) (xs ys : List Reply) → AllZip SameReply xs ys → session_text name xs ≡ session_text name ys
session_alike name [] [] alike = refl
session_alike name [] (b ∷ ys) alike = absurd alike
session_alike name (a ∷ xs) [] alike = absurd alike
session_alike name (a ∷ xs) (b ∷ ys) alike = ap (λ t. codes "session " ++ name ++ codes "\n" ++ t) (replies_alike 1 (a ∷ xs) (b ∷ ys) alike)

sessions_alike : (xs ys : List SessionReport) → AllZip SameSession xs ys → sessions_text (names_of xs) (replies_of xs) ≡ sessions_text (names_of ys) (replies_of ys)
sessions_alike [] [] alike = refl
sessions_alike [] (t ∷ ys) alike = absurd alike
sessions_alike (s ∷ xs) [] alike = absurd alike
sessions_alike (s ∷ xs) (t ∷ ys) alike =
    let first : session_text s.name s.replies ≡ session_text t.name t.replies =
    session_alike s.name s.replies t.replies alike.0.1 ∙ ap (λ name. session_text name t.replies) alike.0.0 in
    let rest = sessions_alike xs ys alike.1 in
    ap (λ z. z ++ sessions_text (names_of xs) (replies_of xs)) first ∙ ap (λ z. session_text t.name t.replies ++ z) rest

pub one_text : OneText
one_text a b alike =
    ap (λ z. z ++ history_text a.history ++ stats_text a.stats) (sessions_alike a.sessions b.sessions alike.sessions)
    ∙ ap (λ h. sessions_text (names_of b.sessions) (replies_of b.sessions) ++ history_text h ++ stats_text a.stats) alike.history
    ∙ ap (λ s. sessions_text (names_of b.sessions) (replies_of b.sessions) ++ history_text b.history ++ stats_text s) alike.stats
