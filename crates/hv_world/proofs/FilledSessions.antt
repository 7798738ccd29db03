-- A report's sessions, which are taken from the end of a list that was reversed.
use Rattle.std.proofs.Common.{◌≡◌, ℕ, suc, List, [], ◌∷◌, ◌++◌, reverse, length, Some, inl, inr, refl, sym, ap, arith, append-nil, append_assoc}
use Rattle.std.specs.List.{slice_get}
use Rattle.std.proofs.lemmas.List.{reverse-append}
use Rattle.hv_model.proofs.Places.{slice_get-more}
use Rattle.hv_model.specs.declared.reply.Reply.{Reply}
use Rattle.hv_dev.specs.Reading.{Back, came_back}
use Rattle.hv_dev.specs.declared.sink.PageSink.{Ghosts}
use Rattle.hv_report.specs.declared.report.SessionReport.{SessionReport}
use Rattle.hv_world.specs.declared.session.Session.{Session}
use Rattle.hv_world.specs.World.{all_back, sessions_of}
use Rattle.hv_world.specs.Turns.{AreIdle, ports_of, replies_of}

-- an element of a reversed list is one of the list's
among_reversed : {X : Type 0} (xs : List X) (i : ℕ) (x : X) → slice_get (reverse xs) i ≡ Some x → (j : ℕ) × (slice_get xs j ≡ Some x)
among_reversed [] i x at = absurd cc
among_reversed (y ∷ xs) i x at =
    let last : reverse (y ∷ xs) ≡ reverse xs ++ y ∷ [] = reverse-append (y ∷ []) xs in
    elim (slice_get-more (reverse xs) y i x (rw (sym last) at)) [
      | inl old ↦ (let there = among_reversed xs i x old.stands in (suc there.0, there.1))
      | inr same ↦ (0, ap (λ z. Some z) same.same)
    ]

pub idle_reversed : {P File : Type 0} (sink : Ghosts P File) (sessions : List (Session P File)) → AreIdle sink sessions → AreIdle sink (reverse sessions)
idle_reversed sink sessions idle i q at = let there = among_reversed sessions i q at in idle there.0 q there.1

-- one more session is reported, and its port is back
pub reported_more : {P File : Type 0} (reports : List SessionReport) (names : List (List ℕ)) (name : List ℕ) (sessions : List (Session P File)) (q : Session P File)
    → reports ++ sessions_of (reverse (names ++ name ∷ [])) (replies_of (reverse (sessions ++ q ∷ [])))
    ≡ (reports ++ (record { name = name; replies = q.replies.items }) ∷ []) ++ sessions_of (reverse names) (replies_of (reverse sessions))
reported_more reports names name sessions q =
    rw (reverse-append names (name ∷ []), reverse-append sessions (q ∷ []))
    (sym (append_assoc reports ((record { name = name; replies = q.replies.items }) ∷ []) (sessions_of (reverse names) (replies_of (reverse sessions)))))

pub back_more : {P File : Type 0} (sink : Ghosts P File) (b : Back File) (sessions : List (Session P File)) (q : Session P File)
    → all_back b (ports_of sink (reverse (sessions ++ q ∷ []))) ≡ all_back (came_back b (sink.reading q.access.port) (sink.write_faults q.access.port)) (ports_of sink (reverse sessions))
back_more sink b sessions q = rw (reverse-append sessions (q ∷ [])) refl

-- none is left
pub reported_all : (reports : List SessionReport) (names : List (List ℕ)) (replies : List (List Reply)) → length names ≡ 0 → reports ++ sessions_of (reverse names) replies ≡ reports
reported_all reports [] replies none = append-nil reports
reported_all reports (name ∷ names) replies none = absurd (omega arith)
