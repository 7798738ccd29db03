-- One step of one session that answers its statement: what held of the world before it holds behind it.
use Rattle.std.proofs.Common.{◌≡◌, ◌<◌, ◌≤◌, ◌+◌, ℕ, Bool, false, List, [], ◌∷◌, ◌++◌, length, set, Some, inl, inr, refl, sym, ap, subst, ◌∙◌, arith, append-nil, length-append, length-set, le_refl}
use Rattle.std.specs.List.{slice_get}
use Rattle.std.proofs.lemmas.Bool.{cases_eq}
use Rattle.std.proofs.lemmas.Option.{slice_get_within}
use Rattle.hv_dev.specs.Reading.{Landing}
use Rattle.hv_view.specs.View.{Viewed}
use Rattle.hv_model.specs.declared.script.Script.{Script}
use Rattle.hv_model.specs.declared.script.Statement.{Statement}
use Rattle.hv_model.specs.declared.catalogue.Entry.{Entry}
use Rattle.hv_model.specs.declared.reply.Why.{Why}
use Rattle.hv_model.specs.declared.reply.Failure.TheVariants.{Damaged, Memory}
use Rattle.hv_model.specs.declared.reply.Reply.{Reply}
use Rattle.hv_model.specs.declared.reply.Reply.TheVariants.{Done, Rows, Refused, Failed}
use Rattle.hv_model.specs.Database.{RowDatabase}
use Rattle.hv_model.specs.Command.{database_after}
use Rattle.hv_model.specs.Legal.{number_of, is_done}
use Rattle.hv_model.specs.Settled.{Settles}
use Rattle.hv_model.specs.Sessions.{LegalInPhase, IsNext, IsSeen, IsTold, with_reply}
use Rattle.hv_model.proofs.Places.{slice_get-set_same, slice_get-set_other}
use Rattle.hv_model.proofs.Histories.{database_after-longer}
use Rattle.hv_model.proofs.Premises.{legal_in_phase_under, settles_under}
use Rattle.hv_model.proofs.SessionSteps.{legal_seen}
use Rattle.hv_model.proofs.SessionWorld.{next_stands, legal_settled, database_settled}
use Rattle.hv_catalogue.specs.Holding.{Holding}
use Rattle.hv_world.specs.declared.stage.Look.{Look}
use Rattle.hv_world.specs.declared.stage.Stage.{Stage}
use Rattle.hv_world.specs.declared.stage.Stage.TheVariants as stage_of
use Rattle.hv_world.specs.declared.stage.Step.TheVariants.{Answered}
use Rattle.hv_world.specs.Stored.{database_of, IsSound, AreFiles, HasFiles}
use Rattle.hv_world.specs.Known.{DatabaseIsKnown, Known}
use Rattle.hv_world.specs.Causes.{CausedBy}
use Rattle.hv_world.specs.Reads.{PortSeen, GoesOn, IsIdle}
use Rattle.hv_world.specs.Damage.{RepliedBy}
use Rattle.hv_world.specs.Look.{KeepsTables}
use Rattle.hv_world.specs.Stage.{IsStaged}
use Rattle.hv_world.specs.Step.{AnswersOver, AnswersThen, IsStep}
use Rattle.hv_world.specs.World.{landings_of, GrowsByOne}
use Rattle.hv_world.specs.Standing.{IsPast, IsWorld}
use Rattle.hv_world.proofs.ManyPorts.{port_among, ports_among, known_fewer, known_at}
use Rattle.hv_world.proofs.Causing.{caused_kept, caused_replied, replied_more, last_number}
use Rattle.hv_world.proofs.WorldSteps.{some_same, stands_kept, staged_next, within_history, past_of}

-- a history that has one entry more goes on
record LongerBy (history longer : List Entry) : Type 0 where
  pub extra : List Entry
  pub is : longer ≡ history ++ extra

longer_by : (history longer : List Entry) → GrowsByOne history longer → LongerBy history longer
longer_by history longer grows =
    elim grows [
      | inl same ↦ record { extra = []; is = same ∙ sym (append-nil history) }
      | inr more ↦ record { extra = more.0 ∷ []; is = more.1 }
    ]

grows_settled : (x : Statement) (max : ℕ) (known : Type 0) (before new : RowDatabase) (history longer : List Entry) (r : Reply) → Settles x max known before history r new longer → GrowsByOne history longer
grows_settled x max known before new history longer (Done at what) settles = inr (settles.entry, settles.is_longer)
grows_settled x max known before new history longer (Rows at rows) settles = inl settles.0.same_history
grows_settled x max known before new history longer (Refused at cause) settles = inl settles.0.same_history
grows_settled x max known before new history longer (Failed at cause) settles = inl settles.0.same_history

-- a statement under way leaves its port idle when it is answered
staged_room : {File : Type 0} (tells : Bool) (pages : File → List (List ℕ)) (x : Statement) (now : Holding (Viewed File)) (stage : Stage File) (port : PortSeen File) → IsStaged tells pages x now stage port → 0 < port.reading.room
staged_room tells pages x now stage_of.Unbegun port staged = staged.room
staged_room tells pages x now (stage_of.Rows table look) port staged = staged.idle.room
staged_room tells pages x now (stage_of.Building table look job) port staged = staged.open_file.room
staged_room tells pages x now (stage_of.Made table look chunk) port staged = staged.idle.room
staged_room tells pages x now (stage_of.Reading job) port staged = staged.idle.room

idle_again : {File : Type 0} (port new : PortSeen File) → 0 < port.reading.room → GoesOn port new → IsIdle new
idle_again port new room goes = record {
  room = (let same : new.reading.room ≡ port.reading.room = goes.reads.room in omega arith);
  none = goes.reads.none;
  empty = goes.empty;
}

-- a world after an answer: the files of the chunks ever made are some more, and the history has one entry more or none
pub record HasGrown {File : Type 0} (tells : Bool) (pages : File → List (List ℕ)) (s : Script) (p : ℕ) (now new : Holding (Viewed File)) (replies : List (List Reply)) (ports : List (PortSeen File)) (stages : List (Stage File)) (files : List File) : Type 0 where
  pub fresh : List File
  pub world : IsWorld tells pages s p new replies ports stages (files ++ fresh)
  pub grows : GrowsByOne now.history new.history

-- with one reply more
replied_on : {File : Type 0} (tells : Bool) (pages : File → List (List ℕ)) (s : Script) (p : ℕ) (now new_now : Holding (Viewed File)) (replies : List (List Reply)) (ports : List (PortSeen File)) (stages : List (Stage File)) (files fresh : List File)
    (x : Statement) (at : ℕ) (rs : List Reply) (port new : PortSeen File) (r : Reply) (extra : List Entry)
    → IsWorld tells pages s p now replies ports stages files → IsNext s p replies x at rs → slice_get ports at ≡ Some port → at < length stages
    → new_now.history ≡ now.history ++ extra → KeepsTables now new_now
    → ((max : ℕ) → LegalInPhase s max (Known tells s new_now.history (landings_of (set ports at new))) p new_now.history (with_reply replies at rs r))
    → database_of new_now ≡ database_after s new_now.history (length new_now.history) → IsSound tells pages new_now → AreFiles new_now (files ++ fresh)
    → CausedBy tells s new_now.history (rs ++ r ∷ []) new (files ++ fresh) → IsIdle new
    → IsWorld tells pages s p new_now (with_reply replies at rs r) (set ports at new) (set stages at stage_of.Unbegun) (files ++ fresh)
replied_on {File} tells pages s p now new_now replies ports stages files fresh x at rs port new r extra w is at_port stages_below longer keeps legal database sound are caused idle =
    let had : slice_get replies at ≡ Some rs = is.replies_are in
    let below : at < length replies = slice_get_within replies at rs had in
    let ports_below : at < length ports = slice_get_within ports at port at_port in
    let lists : length replies ≡ length s.sessions = (w.legal 0).answers.lists in
    let same : (n : ℕ) → n ≤ length now.history → database_after s new_now.history n ≡ database_after s now.history n =
    (λ n le. ap (λ (h : List Entry). database_after s h n) longer ∙ database_after-longer s now.history extra n le) in
    record {
      has = w.has;
      legal = legal;
      database = database;
      sound = sound;
      are = are;
      ports_paired = length-set ports at new ∙ w.ports_paired ∙ sym (length-set replies at (rs ++ r ∷ []));
      stages_paired = length-set stages at stage_of.Unbegun ∙ w.stages_paired ∙ sym (length-set replies at (rs ++ r ∷ []));
      caused = (λ i qs q at_qs at_q. elim (cases_eq i at) [
        | inl mine ↦ (let same_qs : rs ++ r ∷ [] ≡ qs = some_same (sym (slice_get-set_same replies at (rs ++ r ∷ []) below) ∙ ap (slice_get (with_reply replies at rs r)) (sym mine) ∙ at_qs) in
            let same_q : new ≡ q = some_same (sym (slice_get-set_same ports at new ports_below) ∙ ap (slice_get (set ports at new)) (sym mine) ∙ at_q) in
            subst (λ (l : List Reply). CausedBy tells s new_now.history l q (files ++ fresh)) same_qs
            (subst (λ (t : PortSeen File). CausedBy tells s new_now.history (rs ++ r ∷ []) t (files ++ fresh)) same_q caused))
        | inr apart ↦ (let old : slice_get replies i ≡ Some qs = sym (slice_get-set_other replies at i (rs ++ r ∷ []) apart) ∙ at_qs in
            caused_kept tells s now.history new_now.history qs files fresh q
            (w.caused i qs q old (sym (slice_get-set_other ports at i new apart) ∙ at_q))
            (within_history s w.has _ p now.history replies (w.legal 0) i qs old) same)
      ]);
      stands = (λ i qs q t at_qs at_q at_t. elim (cases_eq i at) [
        | inl mine ↦ (let same_q : new ≡ q = some_same (sym (slice_get-set_same ports at new ports_below) ∙ ap (slice_get (set ports at new)) (sym mine) ∙ at_q) in
            let same_t : stage_of.Unbegun ≡ t = some_same (sym (slice_get-set_same stages at stage_of.Unbegun stages_below) ∙ ap (slice_get (set stages at stage_of.Unbegun)) (sym mine) ∙ at_t) in
            inl (record { unbegun = sym same_t; idle = subst (λ (t : PortSeen File). IsIdle t) same_q idle }))
        | inr apart ↦ stands_kept tells pages s w.has p now new_now replies files fresh x at i rs qs r q t extra lists is apart longer keeps
            (w.stands i qs q t (sym (slice_get-set_other replies at i (rs ++ r ∷ []) apart) ∙ at_qs) (sym (slice_get-set_other ports at i new apart) ∙ at_q)
            (sym (slice_get-set_other stages at i stage_of.Unbegun apart) ∙ at_t))
      ]);
    }

-- ---- over what the catalogue holds now

answers_now : {File : Type 0} (tells : Bool) (pages : File → List (List ℕ)) (s : Script) (p : ℕ) (now new_now : Holding (Viewed File)) (replies : List (List Reply)) (ports : List (PortSeen File)) (stages : List (Stage File)) (files : List File)
    (x : Statement) (at : ℕ) (rs : List Reply) (port new : PortSeen File) (r : Reply)
    → IsWorld tells pages s p now replies ports stages files → IsNext s p replies x at rs → slice_get ports at ≡ Some port → at < length stages
    → AnswersOver tells x now new_now port new r → GoesOn port new → IsIdle new
    → HasFiles new_now files → IsSound tells pages new_now → KeepsTables now new_now
    → HasGrown tells pages s p now new_now (with_reply replies at rs r) (set ports at new) (set stages at stage_of.Unbegun) files
answers_now {File} tells pages s p now new_now replies ports stages files x at rs port new r w is at_port stages_below over goes idle more_files sound keeps =
    let fresh : List File = more_files.more in
    let after : List (Landing File) = landings_of (set ports at new) in
    let here : Type 0 = DatabaseIsKnown tells (database_of now) new.reading.landings in
    let known : Type 0 = Known tells s new_now.history after in
    let was : Type 0 = Known tells s now.history (landings_of ports) in
    let ports_below : at < length ports = slice_get_within ports at port at_port in
    let grows : GrowsByOne now.history new_now.history = grows_settled x 0 here (database_of now) (database_of new_now) now.history new_now.history r (over.settles 0) in
    let by : LongerBy now.history new_now.history = longer_by now.history new_now.history grows in
    let same : (n : ℕ) → n ≤ length now.history → database_after s new_now.history n ≡ database_after s now.history n =
    (λ n le. ap (λ (h : List Entry). database_after s h n) by.is ∙ database_after-longer s now.history by.extra n le) in
    let base : database_of now ≡ database_after s new_now.history (length now.history) = w.database ∙ sym (same (length now.history) (le_refl (length now.history))) in
    let present : known → here = known_at tells s (database_of now) new_now.history (length now.history) new.reading.landings after
    (port_among (set ports at new) at new (slice_get-set_same ports at new ports_below)) base in
    let sooner : known → was = known_fewer tells s now.history new_now.history (landings_of ports) after (ports_among ports at port new goes.reads.more at_port goes.reads.landed) same in
    let owed : (max : ℕ) → Settles x max known (database_of now) now.history r (database_of new_now) new_now.history =
    (λ max. settles_under known here present x max (database_of now) now.history r (database_of new_now) new_now.history (over.settles max)) in
    let legal : (max : ℕ) → LegalInPhase s max known p new_now.history (with_reply replies at rs r) =
    (λ max. legal_settled s w.has max known p (database_of now) (database_of new_now) now.history new_now.history replies x at rs r
    (legal_in_phase_under known was sooner s max p now.history replies (w.legal max)) w.database is (owed max)) in
    let caused : CausedBy tells s new_now.history (rs ++ r ∷ []) new (files ++ fresh) =
    caused_replied tells s (database_of now) (length now.history) now.history new_now.history rs r files fresh port new (w.caused at rs port is.replies_are at_port)
    (within_history s w.has was p now.history replies (w.legal 0) at rs is.replies_are) same base
    (λ n number page why e. last_number s x 0 here (database_of now) (database_of new_now) now.history new_now.history r (over.settles 0) n number page why e)
    (over.cause files w.are) goes in
    record {
      fresh = fresh;
      world = replied_on tells pages s p now new_now replies ports stages files fresh x at rs port new r by.extra w is at_port stages_below by.is keeps legal
          (database_settled s w.has 0 known (database_of now) (database_of new_now) now.history new_now.history x r w.database (next_stands s p replies x at rs is) (owed 0))
          sound more_files.are caused idle;
      grows = grows;
    }

-- ---- over what it held when the statement looked

-- what a reply over a past says, and the length that it tells
record ToldThen (s : Script) (max : ℕ) (known : Type 0) (history : List Entry) (x : Statement) (r : Reply) (n : ℕ) : Type 0 where
  pub not_done : is_done r ≡ false
  pub number : number_of r ≡ n
  pub told : IsTold s max known history x r

told_then : (s : Script) (max : ℕ) (known : Type 0) (d : RowDatabase) (past history : List Entry) (x : Statement) (r : Reply) → d ≡ database_after s history (length past)
    → Settles x max known d past r d past → ToldThen s max known history x r (length past)
told_then s max known d past history x (Done n what) is settles =
    absurd (let more : length past ≡ length past + 1 = ap (λ (h : List Entry). length h) settles.is_longer ∙ length-append past (settles.entry ∷ []) in omega arith)
told_then s max known d past history x (Rows n rows) is settles = record { not_done = refl; number = settles.0.at_is; told = rw (settles.0.at_is, sym is) settles.1 }
told_then s max known d past history x (Refused n cause) is settles = record { not_done = refl; number = settles.0.at_is; told = rw (settles.0.at_is, sym is) settles.1 }
told_then s max known d past history x (Failed n cause) is settles = record { not_done = refl; number = settles.0.at_is; told = settles.1 }

-- a reply that changes nothing, over a past, which is told
unchanged_on : {File : Type 0} (tells : Bool) (pages : File → List (List ℕ)) (s : Script) (p : ℕ) (now : Holding (Viewed File)) (replies : List (List Reply)) (ports : List (PortSeen File)) (stages : List (Stage File)) (files : List File)
    (x : Statement) (at : ℕ) (rs : List Reply) (port new : PortSeen File) (r : Reply) (before : RowDatabase) (base : ℕ)
    → IsWorld tells pages s p now replies ports stages files → IsNext s p replies x at rs → slice_get ports at ≡ Some port → at < length stages
    → before ≡ database_after s now.history base → IsSeen s p now.history replies rs base
    → ((max : ℕ) → ToldThen s max (Known tells s now.history (landings_of (set ports at new))) now.history x r base)
    → ((n number page : ℕ) (why : Why) → r ≡ Failed n (Damaged number page why) → n ≡ base)
    → RepliedBy tells before files port new r → GoesOn port new → IsIdle new
    → HasGrown tells pages s p now now (with_reply replies at rs r) (set ports at new) (set stages at stage_of.Unbegun) files
unchanged_on {File} tells pages s p now replies ports stages files x at rs port new r before base w is at_port stages_below here seen told number by goes idle =
    let after : List (Landing File) = landings_of (set ports at new) in
    let known : Type 0 = Known tells s now.history after in
    let was : Type 0 = Known tells s now.history (landings_of ports) in
    let same : (n : ℕ) → n ≤ length now.history → database_after s now.history n ≡ database_after s now.history n = (λ n le. refl) in
    let sooner : known → was = known_fewer tells s now.history now.history (landings_of ports) after (ports_among ports at port new goes.reads.more at_port goes.reads.landed) same in
    let legal : (max : ℕ) → LegalInPhase s max known p now.history (with_reply replies at rs r) =
    (λ max. legal_seen s w.has max known p now.history replies x at rs r (legal_in_phase_under known was sooner s max p now.history replies (w.legal max)) is (told max).not_done
    (subst (λ (n : ℕ). IsSeen s p now.history replies rs n) (sym (told max).number) seen) (told max).told) in
    let caused : CausedBy tells s now.history (rs ++ r ∷ []) new (files ++ []) =
    caused_replied tells s before base now.history now.history rs r files [] port new (w.caused at rs port is.replies_are at_port)
    (within_history s w.has was p now.history replies (w.legal 0) at rs is.replies_are) same here number by goes in
    record {
      fresh = [];
      world = replied_on tells pages s p now now replies ports stages files [] x at rs port new r [] w is at_port stages_below (sym (append-nil now.history)) (λ name schema has. has) legal w.database w.sound
          (subst (λ (fs : List File). AreFiles now fs) (sym (append-nil files)) w.are) caused idle;
      grows = inl refl;
    }

answers_then : {File : Type 0} (tells : Bool) (pages : File → List (List ℕ)) (s : Script) (p : ℕ) (now : Holding (Viewed File)) (replies : List (List Reply)) (ports : List (PortSeen File)) (stages : List (Stage File)) (files : List File)
    (x : Statement) (at : ℕ) (rs : List Reply) (port new : PortSeen File) (stage : Stage File) (r : Reply)
    → IsWorld tells pages s p now replies ports stages files → IsNext s p replies x at rs → slice_get ports at ≡ Some port → slice_get stages at ≡ Some stage
    → AnswersThen tells x stage now now port new r → GoesOn port new → IsIdle new
    → HasGrown tells pages s p now now (with_reply replies at rs r) (set ports at new) (set stages at stage_of.Unbegun) files
answers_then {File} tells pages s p now replies ports stages files x at rs port new stage r w is at_port at_stage then goes idle =
    let look : Look File = then.look in
    let held : Holding (Viewed File) = look.held.value in
    let past : IsPast s p now replies files rs held =
    past_of tells pages s p now replies files at rs port stage look (w.stands at rs port stage is.replies_are at_port at_stage) then.looked in
    let here : database_of held ≡ database_after s now.history (length held.history) =
    past.database ∙ sym (database_after-longer s held.history past.more (length held.history) (le_refl (length held.history)))
    ∙ ap (λ (h : List Entry). database_after s h (length held.history)) (sym past.longer) in
    let after : List (Landing File) = landings_of (set ports at new) in
    let known : Type 0 = Known tells s now.history after in
    let then_known : Type 0 = DatabaseIsKnown tells (database_of held) new.reading.landings in
    let ports_below : at < length ports = slice_get_within ports at port at_port in
    let present : known → then_known = known_at tells s (database_of held) now.history (length held.history) new.reading.landings after
    (port_among (set ports at new) at new (slice_get-set_same ports at new ports_below)) here in
    unchanged_on tells pages s p now replies ports stages files x at rs port new r (database_of held) (length held.history) w is at_port (slice_get_within stages at stage at_stage) here past.seen
    (λ max. told_then s max known (database_of held) held.history now.history x r here
    (settles_under known then_known present x max (database_of held) held.history r (database_of held) held.history (then.over.settles max)))
    (λ n number page why e. last_number s x 0 then_known (database_of held) (database_of held) held.history held.history r (then.over.settles 0) n number page why e)
    (subst (λ (fs : List File). RepliedBy tells (database_of held) fs port new r) (sym past.all)
    (replied_more tells (database_of held) past.first past.rest port new r (then.over.cause past.first past.are)))
    goes idle

-- memory was wanting before it looked
never_looked : {File : Type 0} (tells : Bool) (pages : File → List (List ℕ)) (s : Script) (p : ℕ) (now : Holding (Viewed File)) (replies : List (List Reply)) (ports : List (PortSeen File)) (stages : List (Stage File)) (files : List File)
    (x : Statement) (at : ℕ) (rs : List Reply) (port : PortSeen File) (floor : ℕ)
    → IsWorld tells pages s p now replies ports stages files → IsNext s p replies x at rs → slice_get ports at ≡ Some port → at < length stages
    → IsSeen s p now.history replies rs floor → GoesOn port port → IsIdle port
    → HasGrown tells pages s p now now (with_reply replies at rs (Failed floor Memory)) (set ports at port) (set stages at stage_of.Unbegun) files
never_looked tells pages s p now replies ports stages files x at rs port floor w is at_port stages_below seen goes idle =
    unchanged_on tells pages s p now replies ports stages files x at rs port port (Failed floor Memory) (database_after s now.history floor) floor w is at_port stages_below refl seen
    (λ max. record { not_done = refl; number = refl; told = refl })
    (λ n number page why e. absurd cc)
    (record { reads = refl; writes = refl }, (λ place read since stands. absurd (let below : place < length port.reading.landings = slice_get_within port.reading.landings place read stands in omega arith)))
    goes idle

-- ---- each way in which a statement is answered

pub answered_on : {File : Type 0} (tells : Bool) (pages : File → List (List ℕ)) (s : Script) (p : ℕ) (now new_now : Holding (Viewed File)) (replies : List (List Reply)) (ports : List (PortSeen File)) (stages : List (Stage File)) (files : List File)
    (x : Statement) (at : ℕ) (rs : List Reply) (port new : PortSeen File) (stage : Stage File) (r : Reply) (floor : ℕ)
    → IsWorld tells pages s p now replies ports stages files → IsNext s p replies x at rs → slice_get ports at ≡ Some port → slice_get stages at ≡ Some stage
    → IsSeen s p now.history replies rs floor
    → IsStep tells pages x floor now new_now stage port new (Answered r)
    → ((fs : List File) → AreFiles now fs → HasFiles new_now fs) → IsSound tells pages new_now → KeepsTables now new_now
    → HasGrown tells pages s p now new_now (with_reply replies at rs r) (set ports at new) (set stages at stage_of.Unbegun) files
answered_on {File} tells pages s p now new_now replies ports stages files x at rs port new stage r floor w is at_port at_stage seen step more_files sound keeps =
    let goes : GoesOn port new = step.0 in
    let below : at < length stages = slice_get_within stages at stage at_stage in
    let staged : IsStaged tells pages x now stage port = staged_next tells pages s w.has p now replies files x at rs port stage is (w.stands at rs port stage is.replies_are at_port at_stage) in
    let idle : IsIdle new = idle_again port new (staged_room tells pages x now stage port staged) goes in
    elim step.1 [
      | inl over ↦ answers_now tells pages s p now new_now replies ports stages files x at rs port new r w is at_port below over goes idle (more_files files w.are) sound keeps
      | inr rest ↦ elim rest [
        | inl then ↦ subst (λ (h : Holding (Viewed File)). HasGrown tells pages s p now h (with_reply replies at rs r) (set ports at new) (set stages at stage_of.Unbegun) files) (sym then.same)
            (answers_then tells pages s p now replies ports stages files x at rs port new stage r w is at_port at_stage
            (subst (λ (h : Holding (Viewed File)). AnswersThen tells x stage now h port new r) then.same then) goes idle)
        | inr never ↦ subst (λ (h : Holding (Viewed File)). HasGrown tells pages s p now h (with_reply replies at rs r) (set ports at new) (set stages at stage_of.Unbegun) files) (sym never.same)
            (subst (λ (q : Reply). HasGrown tells pages s p now now (with_reply replies at rs q) (set ports at new) (set stages at stage_of.Unbegun) files) (sym never.is)
            (subst (λ (q : PortSeen File). HasGrown tells pages s p now now (with_reply replies at rs (Failed floor Memory)) (set ports at q) (set stages at stage_of.Unbegun) files) (sym never.port_is)
            (never_looked tells pages s p now replies ports stages files x at rs port floor w is at_port below seen
            (subst (λ (q : PortSeen File). GoesOn port q) never.port_is goes) (subst (λ (q : PortSeen File). IsIdle q) never.port_is idle))))
      ]
    ]
