-- A world whose statements have their replies, and one where some have none yet.
use Rattle.std.proofs.Common.{◌≡◌, ℕ, ◌+◌, ◌<◌, ◌≤◌, true, false, Bool, List, [], length, Option, None, IsSome, is_some, inl, inr, refl, sym, ap, subst, ◌∙◌, arith, take_all, le_refl}
use Rattle.std.proofs.lemmas.Bool.{ltb-true}
use Rattle.std.proofs.lemmas.List.{length-map}
use Rattle.std.proofs.lemmas.Option.{slice_get-map}
use Rattle.hv_dev.specs.declared.sink.PageSink.{Ghosts}
use Rattle.hv_view.specs.View.{Viewed}
use Rattle.hv_model.specs.declared.script.Script.{Script}
use Rattle.hv_model.specs.declared.script.Statement.{Statement}
use Rattle.hv_model.specs.declared.reply.Reply.{Reply}
use Rattle.hv_model.specs.Legal.{Legal, Stands, count_of_session, reply_to}
use Rattle.hv_model.specs.Sessions.{count_before}
use Rattle.hv_model.proofs.SessionScripts.{before_stands}
use Rattle.hv_model.proofs.SessionReplies.{all_replied, count_before_all, reply_to-none}
use Rattle.hv_model.proofs.SessionPhases.{legal_end}
use Rattle.hv_model.proofs.SessionWorld.{HasNext, has_next, next_stands}
use Rattle.hv_catalogue.specs.Holding.{Holding}
use Rattle.hv_world.specs.declared.session.Session.{Session}
use Rattle.hv_world.specs.Reads.{port_seen}
use Rattle.hv_world.specs.Known.{Known}
use Rattle.hv_world.specs.World.{landings_of, ready_from}
use Rattle.hv_world.specs.Turns.{AreIdle, IsKeptWorld, ports_of, replies_of}
use Rattle.hv_world.proofs.ReadyPlaces.{IsOneReady, one_ready}
use Rattle.hv_world.proofs.Starting.{IsMapped, mapped}

-- where none can take a step each statement has its reply
pub all_done : {P File : Type 0} (tells : Bool) (pages : File → List (List ℕ)) (sink : Ghosts P File) (s : Script) (p barrier : ℕ) (held : Holding (Viewed File)) (sessions : List (Session P File)) (unfinished : List ℕ) (room : ℕ)
    → IsKeptWorld tells pages sink s p barrier held sessions unfinished room → unfinished ≡ [] → (x : Statement) → Stands s x → IsSome (reply_to s (replies_of sessions) x)
all_done {P} {File} tells pages sink s p barrier held sessions unfinished room kept none x stands =
    let lists : length (replies_of sessions) ≡ length s.sessions = (kept.world.legal 0).answers.lists in
    all_replied s kept.world.has (length s.phases) (replies_of sessions) lists
    (λ i name rs at_name at.
    let its : IsMapped (λ (q : Session P File). q.replies.items) sessions i rs = mapped (λ q. q.replies.items) sessions i rs at in
    let full : length its.element.replies.items ≡ length its.element.turns.items = kept.over none i its.element its.stands in
    let all : length its.element.turns.items ≡ count_of_session s name = (kept.turns i name its.element at_name its.stands).turns.count in
    let le : count_before s name (length s.phases) ≤ count_of_session s name = count_before_all s name (length s.phases) in
    subst (λ (l : List Reply). count_before s name (length s.phases) ≤ length l) its.is (omega arith))
    stands.0 x (rw (take_all (length s.phases) s.phases (le_refl (length s.phases))) stands.1)

-- where one can, its next statement has none
pub not_done : {P File : Type 0} (tells : Bool) (pages : File → List (List ℕ)) (sink : Ghosts P File) (s : Script) (p barrier : ℕ) (held : Holding (Viewed File)) (sessions : List (Session P File)) (unfinished : List ℕ) (room : ℕ)
    → IsKeptWorld tells pages sink s p barrier held sessions unfinished room → 0 < length unfinished → ((x : Statement) → Stands s x → IsSome (reply_to s (replies_of sessions) x)) → ⊥
not_done {P} {File} tells pages sink s p barrier held sessions unfinished room kept some done =
    let ready : 0 < length (ready_from s p 0 s.sessions (replies_of sessions)) = rw (sym kept.ready) some in
    let one : IsOneReady s p s.sessions (replies_of sessions) = one_ready s p 0 s.sessions (replies_of sessions) ready in
    let next : HasNext s p (replies_of sessions) one.at one.of_session = has_next s kept.world.has p (replies_of sessions) one.at one.name one.of_session (kept.world.legal 0).answers one.at_name one.is
    (ltb-true (length one.of_session) (count_before s one.name (p + 1)) one.below) in
    let none : reply_to s (replies_of sessions) next.statement ≡ None = reply_to-none s kept.world.has p (replies_of sessions) next.statement one.at one.of_session next.next in
    let there : is_some (reply_to s (replies_of sessions) next.statement) ≡ true = done next.statement (next_stands s p (replies_of sessions) next.statement one.at one.of_session next.next) in
    let not : is_some (reply_to s (replies_of sessions) next.statement) ≡ false = ap (λ (r : Option Reply). is_some r) none in
    cc

-- in the end the outcome is legal
pub end_legal : {P File : Type 0} (tells : Bool) (pages : File → List (List ℕ)) (sink : Ghosts P File) (s : Script) (p barrier : ℕ) (held : Holding (Viewed File)) (sessions : List (Session P File)) (unfinished : List ℕ) (room : ℕ)
    → IsKeptWorld tells pages sink s p barrier held sessions unfinished room → ((x : Statement) → Stands s x → IsSome (reply_to s (replies_of sessions) x))
    → (max : ℕ) → Legal s max (Known tells s held.history (landings_of (ports_of sink sessions))) held.history (replies_of sessions)
end_legal tells pages sink s p barrier held sessions unfinished room kept done max =
    legal_end s kept.world.has max (Known tells s held.history (landings_of (ports_of sink sessions))) p held.history (replies_of sessions) (kept.world.legal max)
    (λ k x at. done x (k, before_stands s (length s.phases) k x at))

-- and no session has a read under way
pub end_idle : {P File : Type 0} (tells : Bool) (pages : File → List (List ℕ)) (sink : Ghosts P File) (s : Script) (p barrier : ℕ) (held : Holding (Viewed File)) (sessions : List (Session P File)) (unfinished : List ℕ) (room : ℕ)
    → IsKeptWorld tells pages sink s p barrier held sessions unfinished room → ((x : Statement) → Stands s x → IsSome (reply_to s (replies_of sessions) x)) → AreIdle sink sessions
end_idle {P} {File} tells pages sink s p barrier held sessions unfinished room kept done i q at =
    elim (kept.world.stands i q.replies.items (port_seen sink q.access.port) q.stage (slice_get-map (λ (r : Session P File). r.replies.items) sessions i ∙ rw at refl)
    (slice_get-map (λ (r : Session P File). port_seen sink r.access.port) sessions i ∙ rw at refl) (slice_get-map (λ (r : Session P File). r.stage) sessions i ∙ rw at refl)) [
      | inl resting ↦ resting.idle.none
      | inr under ↦ absurd (let none : reply_to s (replies_of sessions) under.statement ≡ None = reply_to-none s kept.world.has p (replies_of sessions) under.statement i q.replies.items under.next in
          let there : is_some (reply_to s (replies_of sessions) under.statement) ≡ true = done under.statement (next_stands s p (replies_of sessions) under.statement i q.replies.items under.next) in
          let not : is_some (reply_to s (replies_of sessions) under.statement) ≡ false = ap (λ (r : Option Reply). is_some r) none in
          cc)
    ]

-- there are as many sessions as names
pub lists_paired : {P File : Type 0} (tells : Bool) (pages : File → List (List ℕ)) (sink : Ghosts P File) (s : Script) (p barrier : ℕ) (held : Holding (Viewed File)) (sessions : List (Session P File)) (unfinished : List ℕ) (room : ℕ)
    → IsKeptWorld tells pages sink s p barrier held sessions unfinished room → length sessions ≡ length s.sessions
lists_paired {P} {File} tells pages sink s p barrier held sessions unfinished room kept =
    sym (length-map sessions (λ (q : Session P File). q.replies.items)) ∙ (kept.world.legal 0).answers.lists
