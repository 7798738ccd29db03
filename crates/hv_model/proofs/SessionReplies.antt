-- The replies of many sessions: which statement each answers, how many are Done, and what one more changes.
use Rattle.std.proofs.Common.{◌≡◌, ◌≢◌, ◌⊎◌, ℕ, ◌+◌, ◌-◌, ◌<◌, ◌≤◌, Bool, false, cond, List, [], ◌∷◌, ◌++◌, length, take, get_or, count_by, Option, Some, None, inl, inr, refl, ap, sym, ◌∙◌, arith, length-set, le_refl}
use Rattle.std.specs.List.{slice_get}
use Rattle.std.proofs.lemmas.Bool.{cases_eq}
use Rattle.std.proofs.lemmas.Option.{slice_get_within, slice_get-get_or, slice_get_past}
use Rattle.std.proofs.lemmas.List.{length_push}
use Rattle.std.proofs.lemmas.List.Sums.{sum_by-append, sum_by-take-le}
use Rattle.hv_row.specs.Schema.{same_name}
use Rattle.hv_model.specs.declared.script.Statement.{Statement}
use Rattle.hv_model.specs.declared.script.Script.{Script}
use Rattle.hv_model.specs.declared.reply.Reply.{Reply}
use Rattle.hv_model.specs.Command.{statements}
use Rattle.hv_model.specs.Legal.{is_done, is_done_option, reply_to, done_before, count_of_session, Stands}
use Rattle.hv_model.specs.Sessions.{HasSessions, statements_before, count_before, AllReplied, RepliesInPhase, IsNext, with_reply}
use Rattle.hv_model.proofs.Places.{slice_get-behind, slice_get-set_same, slice_get-set_other, slice_get-last, slice_get-push_other, count_agree, count_agree_but, count_none, is_there}
use Rattle.hv_model.proofs.Histories.{same_at}
use Rattle.hv_model.proofs.SessionScripts.{session_place-is, above_zero, same_place, before_stands, before_goes_on, before_more, before_le, in_phase, IsInPhase, later_number, earlier_number, is_front}

-- the reply to a statement of the session at a place
pub reply_to-at : (s : Script) → HasSessions s → (replies : List (List Reply)) (i : ℕ) (x : Statement) (of_session : List Reply)
    → slice_get s.sessions i ≡ Some x.session → slice_get replies i ≡ Some of_session → reply_to s replies x ≡ slice_get of_session (x.number - 1)
reply_to-at s has replies i x of_session session is = rw (session_place-is s has i x.session session, is) refl

-- the list that has a statement's reply, if it has one
pub record HasList (s : Script) (replies : List (List Reply)) (x : Statement) : Type 0 where
  pub at : ℕ
  pub of_session : List Reply
  pub session : slice_get s.sessions at ≡ Some x.session
  pub is : slice_get replies at ≡ Some of_session
  pub reply : reply_to s replies x ≡ slice_get of_session (x.number - 1)

pub has_list : (s : Script) → HasSessions s → (replies : List (List Reply)) → length replies ≡ length s.sessions → (x : Statement) → Stands s x → HasList s replies x
has_list s has replies lists x stands =
    let place = has.named x stands in
    let within : place.0 < length s.sessions = slice_get_within s.sessions place.0 x.session place.1 in
    let is : slice_get replies place.0 ≡ Some (get_or replies place.0 []) = slice_get-get_or replies place.0 [] (omega arith) in
    record { at = place.0; of_session = get_or replies place.0 []; session = place.1; is = is; reply = reply_to-at s has replies place.0 x (get_or replies place.0 []) place.1 is }

-- the next statement stands in its phase
pub next_in_phase : (s : Script) (p : ℕ) (replies : List (List Reply)) (x : Statement) (at : ℕ) (of_session : List Reply) (next : IsNext s p replies x at of_session)
    → IsInPhase s p (length (statements_before s p) + next.place) x
next_in_phase s p replies x at of_session next = in_phase s p next.place next.phase x next.phase_is next.stands

-- the reply to the next statement
pub reply_to-next : (s : Script) → HasSessions s → (p : ℕ) (replies : List (List Reply)) (x : Statement) (at : ℕ) (of_session : List Reply) (r : Reply)
    → IsNext s p replies x at of_session → reply_to s (with_reply replies at of_session r) x ≡ Some r
reply_to-next s has p replies x at of_session r next =
    let n : x.number - 1 ≡ length of_session = (let number : x.number ≡ length of_session + 1 = next.number in omega arith) in
    let within : at < length replies = slice_get_within replies at of_session next.replies_are in
    let mine : slice_get (with_reply replies at of_session r) at ≡ Some (of_session ++ r ∷ []) = slice_get-set_same replies at (of_session ++ r ∷ []) within in
    reply_to-at s has (with_reply replies at of_session r) at x (of_session ++ r ∷ []) next.session mine ∙ (rw n (slice_get-last of_session r))

-- the next statement had none
pub reply_to-none : (s : Script) → HasSessions s → (p : ℕ) (replies : List (List Reply)) (x : Statement) (at : ℕ) (of_session : List Reply)
    → IsNext s p replies x at of_session → reply_to s replies x ≡ None
reply_to-none s has p replies x at of_session next =
    reply_to-at s has replies at x of_session next.session next.replies_are
    ∙ slice_get_past of_session (x.number - 1) (let number : x.number ≡ length of_session + 1 = next.number in omega arith)

-- the replies to all others are what they were
pub reply_to-other : (s : Script) → HasSessions s → (p : ℕ) (replies : List (List Reply)) (x : Statement) (at : ℕ) (of_session : List Reply) (r : Reply)
    → length replies ≡ length s.sessions → IsNext s p replies x at of_session
    → (y : Statement) → Stands s y → (y.session ≡ x.session → y.number ≡ x.number → ⊥) → reply_to s (with_reply replies at of_session r) y ≡ reply_to s replies y
reply_to-other s has p replies x at of_session r lists next y stands other =
    let old : HasList s replies y = has_list s has replies lists y stands in
    let above : 0 < y.number = above_zero s has y stands in
    let number : x.number ≡ length of_session + 1 = next.number in
    elim (cases_eq old.at at) [
      | inl same ↦ (let named : slice_get s.sessions at ≡ Some y.session = rw same at old.session in
          let session : y.session ≡ x.session = (let e : Some y.session ≡ Some x.session = sym named ∙ next.session in cc) in
          let within : at < length replies = slice_get_within replies at of_session next.replies_are in
          let mine : slice_get (with_reply replies at of_session r) at ≡ Some (of_session ++ r ∷ []) = slice_get-set_same replies at (of_session ++ r ∷ []) within in
          let apart : y.number - 1 ≢ length of_session = (λ e. other session (omega arith)) in
          reply_to-at s has (with_reply replies at of_session r) at y (of_session ++ r ∷ []) named mine
          ∙ slice_get-push_other of_session r (y.number - 1) apart
          ∙ sym (reply_to-at s has replies at y of_session named next.replies_are))
      | inr apart ↦ (let there : slice_get (with_reply replies at of_session r) old.at ≡ Some old.of_session = slice_get-set_other replies at old.at (of_session ++ r ∷ []) apart ∙ old.is in
          reply_to-at s has (with_reply replies at of_session r) old.at y old.of_session old.session there ∙ sym old.reply)
    ]

-- so a reply is an old one, or the new one to the next statement
pub reply_to-more : (s : Script) → HasSessions s → (p : ℕ) (replies : List (List Reply)) (x : Statement) (at : ℕ) (of_session : List Reply) (r : Reply)
    → length replies ≡ length s.sessions → IsNext s p replies x at of_session
    → (y : Statement) (q : Reply) → Stands s y → reply_to s (with_reply replies at of_session r) y ≡ Some q → (reply_to s replies y ≡ Some q) ⊎ ((x ≡ y) × (r ≡ q))
reply_to-more s has p replies x at of_session r lists next y q stands reply =
    let place : IsInPhase s p (length (statements_before s p) + next.place) x = next_in_phase s p replies x at of_session next in
    elim (cases_eq stands.0 (length (statements_before s p) + next.place)) [
      | inl same ↦ (let is : x ≡ y = same_at (statements s) (length (statements_before s p) + next.place) stands.0 x y place.stands stands.1 same in
          let new : reply_to s (with_reply replies at of_session r) y ≡ Some r = rw is at (reply_to-next s has p replies x at of_session r next) in
          inr (is, (let e : Some r ≡ Some q = sym new ∙ reply in cc)))
      | inr apart ↦ inl (sym (reply_to-other s has p replies x at of_session r lists next y stands
          (λ session number. apart (same_place s has stands.0 (length (statements_before s p) + next.place) y x stands.1 place.stands session number))) ∙ reply)
    ]

-- an old reply stays
pub reply_to-kept : (s : Script) → HasSessions s → (p : ℕ) (replies : List (List Reply)) (x : Statement) (at : ℕ) (of_session : List Reply) (r : Reply)
    → length replies ≡ length s.sessions → IsNext s p replies x at of_session
    → (y : Statement) (q : Reply) → Stands s y → reply_to s replies y ≡ Some q → reply_to s (with_reply replies at of_session r) y ≡ Some q
reply_to-kept s has p replies x at of_session r lists next y q stands reply =
    let none : reply_to s replies x ≡ None = reply_to-none s has p replies x at of_session next in
    let place : IsInPhase s p (length (statements_before s p) + next.place) x = next_in_phase s p replies x at of_session next in
    reply_to-other s has p replies x at of_session r lists next y stands
    (λ session number.
    let same : stands.0 ≡ length (statements_before s p) + next.place = same_place s has stands.0 (length (statements_before s p) + next.place) y x stands.1 place.stands session number in
    let is : x ≡ y = same_at (statements s) (length (statements_before s p) + next.place) stands.0 x y place.stands stands.1 same in
    let mine : reply_to s replies x ≡ Some q = rw (sym is) at reply in
    let e : None ≡ Some q = sym none ∙ mine in cc)
    ∙ reply

-- no reply to a statement behind the present phase
pub later_none : (s : Script) → HasSessions s → (p : ℕ) (replies : List (List Reply)) → RepliesInPhase s p replies
    → (k : ℕ) (x : Statement) → length (statements_before s (p + 1)) ≤ k → slice_get (statements s) k ≡ Some x → reply_to s replies x ≡ None
later_none s has p replies answers k x from stands =
    let list : HasList s replies x = has_list s has replies answers.lists x (k, stands) in
    let number : count_before s x.session (p + 1) < x.number = later_number s has (p + 1) k x from stands in
    let short : length list.of_session ≤ count_before s x.session (p + 1) = answers.short list.at x.session list.of_session list.session list.is in
    list.reply ∙ slice_get_past list.of_session (x.number - 1) (omega arith)

-- lists that are long enough have each reply
pub all_replied : (s : Script) → HasSessions s → (p : ℕ) (replies : List (List Reply)) → length replies ≡ length s.sessions
    → ((i : ℕ) (name : List ℕ) (of_session : List Reply) → slice_get s.sessions i ≡ Some name → slice_get replies i ≡ Some of_session → count_before s name p ≤ length of_session)
    → AllReplied s replies p
all_replied s has p replies lists long k x at =
    let stands : slice_get (statements s) k ≡ Some x = before_stands s p k x at in
    let list : HasList s replies x = has_list s has replies lists x (k, stands) in
    let among : x.number ≤ count_before s x.session p = earlier_number s has p k x at in
    let enough : count_before s x.session p ≤ length list.of_session = long list.at x.session list.of_session list.session list.is in
    let above : 0 < x.number = above_zero s has x (k, stands) in
    rw list.reply (is_there list.of_session (x.number - 1) (omega arith))

-- the Done replies of more phases are no fewer
pub done_le : (s : Script) (replies : List (List Reply)) (p q : ℕ) → p ≤ q → done_before s replies p ≤ done_before s replies q
done_le s replies p q le =
    let on = before_goes_on s p q le in
    let test : Statement → Bool = λ x. is_done_option (reply_to s replies x) in
    let both : done_before s replies q ≡ done_before s replies p + count_by test on.rest
    = ap (λ (xs : List Statement). count_by test xs) on.is ∙ sum_by-append (λ x. cond (test x) 1 0) (statements_before s p) on.rest in
    omega arith

-- and no more behind the present phase
pub done_later : (s : Script) → HasSessions s → (p : ℕ) (replies : List (List Reply)) → RepliesInPhase s p replies
    → (q : ℕ) → p + 1 ≤ q → done_before s replies q ≡ done_before s replies (p + 1)
done_later s has p replies answers q le =
    let on = before_goes_on s (p + 1) q le in
    let test : Statement → Bool = λ x. is_done_option (reply_to s replies x) in
    let both : done_before s replies q ≡ done_before s replies (p + 1) + count_by test on.rest
    = ap (λ (xs : List Statement). count_by test xs) on.is ∙ sum_by-append (λ x. cond (test x) 1 0) (statements_before s (p + 1)) on.rest in
    let none : count_by test on.rest ≡ 0 = count_none test on.rest (λ k x at.
    let here : slice_get (statements_before s q) (length (statements_before s (p + 1)) + k) ≡ Some x = rw on.is (slice_get-behind (statements_before s (p + 1)) on.rest k ∙ at) in
    let nothing : reply_to s replies x ≡ None
    = later_none s has p replies answers (length (statements_before s (p + 1)) + k) x (omega arith) (before_stands s q (length (statements_before s (p + 1)) + k) x here) in
    ap (λ (r : Option Reply). is_done_option r) nothing) in
    omega arith

-- one more reply in phase p changes none of the phases before
pub reply_to-earlier : (s : Script) → HasSessions s → (p : ℕ) (replies : List (List Reply)) (x : Statement) (at : ℕ) (of_session : List Reply) (r : Reply)
    → length replies ≡ length s.sessions → IsNext s p replies x at of_session
    → (q : ℕ) → q ≤ p → (k : ℕ) (y : Statement) → slice_get (statements_before s q) k ≡ Some y → reply_to s (with_reply replies at of_session r) y ≡ reply_to s replies y
reply_to-earlier s has p replies x at of_session r lists next q le k y at_k =
    let place : IsInPhase s p (length (statements_before s p) + next.place) x = next_in_phase s p replies x at of_session next in
    let within : k < length (statements_before s q) = slice_get_within (statements_before s q) k y at_k in
    let shorter : length (statements_before s q) ≤ length (statements_before s p) = before_le s q p le in
    let stands : slice_get (statements s) k ≡ Some y = before_stands s q k y at_k in
    reply_to-other s has p replies x at of_session r lists next y (k, stands)
    (λ session number.
    let same : k ≡ length (statements_before s p) + next.place = same_place s has k (length (statements_before s p) + next.place) y x stands place.stands session number in
    omega arith)

-- nor their Done replies
pub done_earlier : (s : Script) → HasSessions s → (p : ℕ) (replies : List (List Reply)) (x : Statement) (at : ℕ) (of_session : List Reply) (r : Reply)
    → length replies ≡ length s.sessions → IsNext s p replies x at of_session
    → (q : ℕ) → q ≤ p → done_before s (with_reply replies at of_session r) q ≡ done_before s replies q
done_earlier s has p replies x at of_session r lists next q le =
    count_agree (λ y. is_done_option (reply_to s (with_reply replies at of_session r) y)) (λ y. is_done_option (reply_to s replies y)) (statements_before s q)
    (λ k y at_k. ap (λ (o : Option Reply). is_done_option o) (reply_to-earlier s has p replies x at of_session r lists next q le k y at_k))

-- in the present phase it is counted
pub done_present : (s : Script) → HasSessions s → (p : ℕ) (replies : List (List Reply)) (x : Statement) (at : ℕ) (of_session : List Reply) (r : Reply)
    → length replies ≡ length s.sessions → IsNext s p replies x at of_session
    → done_before s (with_reply replies at of_session r) (p + 1) ≡ done_before s replies (p + 1) + cond (is_done r) 1 0
done_present s has p replies x at of_session r lists next =
    let place : IsInPhase s p (length (statements_before s p) + next.place) x = next_in_phase s p replies x at of_session next in
    let new : is_done_option (reply_to s (with_reply replies at of_session r) x) ≡ is_done r = ap (λ (o : Option Reply). is_done_option o) (reply_to-next s has p replies x at of_session r next) in
    let old : is_done_option (reply_to s replies x) ≡ false = ap (λ (o : Option Reply). is_done_option o) (reply_to-none s has p replies x at of_session next) in
    count_agree_but (λ y. is_done_option (reply_to s (with_reply replies at of_session r) y)) (λ y. is_done_option (reply_to s replies y)) (statements_before s (p + 1))
    (length (statements_before s p) + next.place) x place.before old
    (λ k y apart at_k.
    let stands : slice_get (statements s) k ≡ Some y = before_stands s (p + 1) k y at_k in
    ap (λ (o : Option Reply). is_done_option o) (reply_to-other s has p replies x at of_session r lists next y (k, stands)
    (λ session number. apart (same_place s has k (length (statements_before s p) + next.place) y x stands place.stands session number))))
    ∙ ap (λ (b : Bool). done_before s replies (p + 1) + cond b 1 0) new

-- a session has no fewer statements in more phases
pub count_before_le : (s : Script) (name : List ℕ) (p q : ℕ) → p ≤ q → count_before s name p ≤ count_before s name q
count_before_le s name p q le =
    let on = before_goes_on s p q le in
    let test : Statement → Bool = λ x. same_name x.session name in
    let both : count_before s name q ≡ count_before s name p + count_by test on.rest
    = ap (λ (xs : List Statement). count_by test xs) on.is ∙ sum_by-append (λ x. cond (test x) 1 0) (statements_before s p) on.rest in
    omega arith

-- by one phase
pub count_before_more : (s : Script) (name : List ℕ) (p : ℕ) (phase : List Statement) → slice_get s.phases p ≡ Some phase
    → count_before s name (p + 1) ≡ count_before s name p + count_by (λ x. same_name x.session name) phase
count_before_more s name p phase at =
    ap (λ (xs : List Statement). count_by (λ x. same_name x.session name) xs) (before_more s p phase at)
    ∙ sum_by-append (λ x. cond (same_name x.session name) 1 0) (statements_before s p) phase

-- nor in all of them
pub count_before_all : (s : Script) (name : List ℕ) (p : ℕ) → count_before s name p ≤ count_of_session s name
count_before_all s name p =
    let test : Statement → Bool = λ x. same_name x.session name in
    let same : count_before s name p ≡ count_by test (take (length (statements_before s p)) (statements s)) = ap (λ (xs : List Statement). count_by test xs) (is_front s p) in
    let le : count_by test (take (length (statements_before s p)) (statements s)) ≤ count_of_session s name = sum_by-take-le (λ x. cond (test x) 1 0) (statements s) (length (statements_before s p)) in
    omega arith

-- a list of the replies with one more is that of its session, or an old one
pub lists_more : (s : Script) (p : ℕ) (replies : List (List Reply)) (x : Statement) (at : ℕ) (of_session : List Reply) (r : Reply) → IsNext s p replies x at of_session
    → (i : ℕ) (name : List ℕ) (list : List Reply) → slice_get s.sessions i ≡ Some name → slice_get (with_reply replies at of_session r) i ≡ Some list
    → ((x.session ≡ name) × (of_session ++ r ∷ [] ≡ list)) ⊎ (slice_get replies i ≡ Some list)
lists_more s p replies x at of_session r next i name list at_i is =
    let within : at < length replies = slice_get_within replies at of_session next.replies_are in
    elim (cases_eq i at) [
      | inl same ↦ (let mine : slice_get (with_reply replies at of_session r) i ≡ Some (of_session ++ r ∷ []) = rw same (slice_get-set_same replies at (of_session ++ r ∷ []) within) in
          let longer : of_session ++ r ∷ [] ≡ list = (let e : Some (of_session ++ r ∷ []) ≡ Some list = sym mine ∙ is in cc) in
          let named : x.session ≡ name = (let here : slice_get s.sessions at ≡ Some name = rw same at at_i in let e : Some x.session ≡ Some name = sym next.session ∙ here in cc) in
          inl (named, longer))
      | inr apart ↦ inr (sym (slice_get-set_other replies at i (of_session ++ r ∷ []) apart) ∙ is)
    ]

-- one more reply of phase p leaves the lists as they are to be
pub answers_more : (s : Script) → HasSessions s → (p : ℕ) (replies : List (List Reply)) (x : Statement) (at : ℕ) (of_session : List Reply) (r : Reply)
    → RepliesInPhase s p replies → IsNext s p replies x at of_session → RepliesInPhase s p (with_reply replies at of_session r)
answers_more s has p replies x at of_session r answers next = record {
  lists = length-set replies at (of_session ++ r ∷ []) ∙ answers.lists;
  short = (λ i name list at_i is. elim (lists_more s p replies x at of_session r next i name list at_i is) [
    | inl own ↦ (let place : IsInPhase s p (length (statements_before s p) + next.place) x = next_in_phase s p replies x at of_session next in
        let among : x.number ≤ count_before s x.session (p + 1) = earlier_number s has (p + 1) (length (statements_before s p) + next.place) x place.before in
        let number : x.number ≡ length of_session + 1 = next.number in
        let fits : length (of_session ++ r ∷ []) ≤ count_before s x.session (p + 1) = rw (length_push of_session r) (omega arith) in
        rw (sym own.1, sym own.0) fits)
    | inr old ↦ answers.short i name list at_i old
  ]);
  replied = (λ k y at_k. rw (reply_to-earlier s has p replies x at of_session r answers.lists next p (le_refl p) k y at_k) (answers.replied k y at_k));
}
