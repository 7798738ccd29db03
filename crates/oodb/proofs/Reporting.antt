-- A report that was written.
use Rattle.std.proofs.Common.{◌≡◌, ◌≢◌, ℕ, List, [], ◌∷◌, ◌++◌, length, Some, subst, refl, sym, ◌∙◌, ap, arith}
use Rattle.std.specs.List.{AllPairs, AllZip}
use Rattle.std.proofs.lemmas.List.{append-nil}
use Rattle.std.proofs.lemmas.Option.{slice_get-get_or}
use Rattle.hv_model.specs.declared.script.Script.{Script}
use Rattle.hv_model.specs.declared.catalogue.Entry.{Entry}
use Rattle.hv_model.specs.declared.reply.Reply.{Reply}
use Rattle.hv_model.specs.Report.{sessions_text, history_text, report_text}
use Rattle.hv_model.specs.Sessions.{HasSessions}
use Rattle.hv_report.specs.Law.{SameReply, SameSession}
use Rattle.hv_report.specs.Text.{names_of, replies_of, text_of}
use Rattle.hv_report.proofs.Whole.{one_report}
use Rattle.hv_world.specs.World.{sessions_of, report_of}
use Rattle.oodb.specs.Told.{OneHistory}

-- sessions with as many lists of replies have these names and these replies
pub zipped_names : (names : List (List ℕ)) (replies : List (List Reply)) → length replies ≡ length names → names_of (sessions_of names replies) ≡ names
zipped_names [] replies same = refl
zipped_names (name ∷ names) [] same = absurd (omega arith)
zipped_names (name ∷ names) (of_session ∷ replies) same = ap (λ (others : List (List ℕ)). name ∷ others) (zipped_names names replies (omega arith))

pub zipped_replies : (names : List (List ℕ)) (replies : List (List Reply)) → length replies ≡ length names → replies_of (sessions_of names replies) ≡ replies
zipped_replies [] [] same = refl
zipped_replies [] (of_session ∷ replies) same = absurd (omega arith)
zipped_replies (name ∷ names) [] same = absurd (omega arith)
zipped_replies (name ∷ names) (of_session ∷ replies) same = ap (λ (others : List (List Reply)). of_session ∷ others) (zipped_replies names replies (omega arith))

-- the text of a report on a script's sessions is that of the script
pub plain_text : (script : Script) (history : List Entry) (replies : List (List Reply)) → length replies ≡ length script.sessions
    → text_of (report_of script history replies) ≡ report_text script history replies
plain_text script history replies lists =
    let sessions = sessions_of script.sessions replies in
    append-nil (sessions_text (names_of sessions) (replies_of sessions) ++ history_text history)
    ∙ ap (λ (names : List (List ℕ)). sessions_text names (replies_of sessions) ++ history_text history) (zipped_names script.sessions replies lists)
    ∙ ap (λ (each : List (List Reply)). sessions_text script.sessions each ++ history_text history) (zipped_replies script.sessions replies lists)

-- the names of a script's sessions differ
pub names_differ : (s : Script) → HasSessions s → AllPairs (λ x y. x ≢ y) s.sessions
names_differ s has i j d below within same =
    let first = slice_get-get_or s.sessions i d (omega arith) in
    let second = slice_get-get_or s.sessions j d within in
    let one : i ≡ j = has.distinct i j _ first (second ∙ sym (ap (λ (name : List ℕ). Some name) same)) in
    absurd (omega arith)

-- sessions whose replies print alike
alike_replies : (names : List (List ℕ)) (replies others : List (List Reply)) → length replies ≡ length names → length others ≡ length names
    → AllZip SameSession (sessions_of names replies) (sessions_of names others) → AllZip (AllZip SameReply) replies others
alike_replies [] [] [] same also alike = tt
alike_replies [] (rs ∷ replies) others same also alike = absurd (omega arith)
alike_replies [] [] (rs ∷ others) same also alike = absurd (omega arith)
alike_replies (name ∷ names) [] others same also alike = absurd (omega arith)
alike_replies (name ∷ names) (rs ∷ replies) [] same also alike = absurd (omega arith)
alike_replies (name ∷ names) (rs ∷ replies) (os ∷ others) same also alike = (alike.0.1, alike_replies names replies others (omega arith) (omega arith) alike.1)

-- one report tells one history and one list of replies to each session
pub one_history : OneHistory
one_history script history other replies others told again same =
    let names : names_of (sessions_of script.sessions replies) ≡ script.sessions = zipped_names script.sessions replies told.lists in
    let names_too : names_of (sessions_of script.sessions others) ≡ script.sessions = zipped_names script.sessions others again.lists in
    let alike = one_report (report_of script history replies) (report_of script other others) told.named again.named told.in_range again.in_range (names ∙ sym names_too)
    (subst (λ (list : List (List ℕ)). AllPairs (λ x y. x ≢ y) list) (sym names) told.distinct)
    (plain_text script history replies told.lists ∙ same ∙ sym (plain_text script other others again.lists)) in
    (alike.history, alike_replies script.sessions replies others told.lists again.lists alike.sessions)
