-- One step of one session: what held of the world before it holds behind it.
use Rattle.std.proofs.Common.{◌≡◌, ◌≢◌, ◌⊎◌, ◌<◌, ◌≤◌, ◌+◌, ℕ, Bool, List, [], ◌++◌, length, set, get_or, Option, Some, None, inl, inr, refl, sym, ap, subst, ◌∙◌, arith, append-nil, append_assoc, length-append, length-set, le_refl}
use Rattle.std.specs.List.{slice_get}
use Rattle.std.proofs.lemmas.Bool.{cases_eq}
use Rattle.std.proofs.lemmas.Option.{slice_get_within, slice_get-get_or}
use Rattle.hv_row.specs.declared.value.Value.{Value}
use Rattle.hv_row.specs.declared.schema.Column.{Column}
use Rattle.hv_dev.specs.Reading.{Landing}
use Rattle.hv_view.specs.View.{Viewed}
use Rattle.hv_model.specs.declared.script.Script.{Script}
use Rattle.hv_model.specs.declared.script.Statement.{Statement}
use Rattle.hv_model.specs.declared.catalogue.Entry.{Entry}
use Rattle.hv_model.specs.declared.tree.Word.{Word}
use Rattle.hv_model.specs.declared.reply.Reply.{Reply}
use Rattle.hv_model.specs.Database.{RowDatabase}
use Rattle.hv_model.specs.Command.{database_after}
use Rattle.hv_model.specs.Legal.{number_of}
use Rattle.hv_model.specs.Sessions.{HasSessions, LegalInPhase, IsNext, with_reply}
use Rattle.hv_model.proofs.Places.{slice_get-set_same, slice_get-set_other}
use Rattle.hv_model.proofs.Histories.{database_after-longer}
use Rattle.hv_model.proofs.Premises.{legal_in_phase_under}
use Rattle.hv_model.proofs.SessionScripts.{same_statement}
use Rattle.hv_model.proofs.SessionSteps.{session_facts}
use Rattle.hv_model.proofs.SessionWorld.{next_stands, next_kept, seen_present, seen_kept}
use Rattle.hv_catalogue.specs.Holding.{Holding}
use Rattle.hv_world.specs.declared.stage.Look.{Look}
use Rattle.hv_world.specs.declared.stage.Stage.{Stage}
use Rattle.hv_world.specs.declared.stage.Stage.TheVariants as stage_of
use Rattle.hv_world.specs.Stored.{database_of}
use Rattle.hv_world.specs.Known.{Known}
use Rattle.hv_world.specs.Causes.{CausedBy}
use Rattle.hv_world.specs.Reads.{PortSeen}
use Rattle.hv_world.specs.Damage.{Serves}
use Rattle.hv_world.specs.Look.{ImportsRows, KeepsTables}
use Rattle.hv_world.specs.Stage.{IsStaged, look_of, basis}
use Rattle.hv_world.specs.Step.{GoesTo}
use Rattle.hv_world.specs.World.{landings_of}
use Rattle.hv_world.specs.Standing.{IsPast, SessionStands, IsWorld}
use Rattle.hv_world.proofs.ManyPorts.{AreAmong, ports_among, known_fewer}
use Rattle.hv_world.proofs.Causing.{caused_longer, serves_longer}

pub some_same : {X : Type 0} {x y : X} → Some x ≡ Some y → x ≡ y
some_same e = cc

-- ---- a session that others go on beside

imports_kept : {File : Type 0} (x : Statement) (table : Word) (now new : Holding (Viewed File)) (schema : List Column) (rows : List (List Value)) → KeepsTables now new → ImportsRows x table now schema rows → ImportsRows x table new schema rows
imports_kept x table now new schema rows keeps imports = record { imports = imports.imports; stands = keeps table.name schema imports.stands; spelled = imports.spelled }

staged_kept : {File : Type 0} (tells : Bool) (pages : File → List (List ℕ)) (x : Statement) (now new : Holding (Viewed File)) (stage : Stage File) (port : PortSeen File) → KeepsTables now new
    → IsStaged tells pages x now stage port → IsStaged tells pages x new stage port
staged_kept tells pages x now new stage_of.Unbegun port keeps staged = staged
staged_kept tells pages x now new (stage_of.Rows table look) port keeps staged =
    record { idle = staged.idle; looked = staged.looked; imports = staged.imports; schema = staged.schema; stands = keeps table.name staged.schema staged.stands }
staged_kept tells pages x now new (stage_of.Building table look job) port keeps staged =
    record { open_file = staged.open_file; looked = staged.looked; going = staged.going; imports = imports_kept x table now new job.schema job.rows keeps staged.imports }
staged_kept tells pages x now new (stage_of.Made table look chunk) port keeps staged =
    record { idle = staged.idle; looked = staged.looked; imports = imports_kept x table now new chunk.schema chunk.rows keeps staged.imports; built = staged.built }
staged_kept tells pages x now new (stage_of.Reading job) port keeps staged = staged

past_kept : {File : Type 0} (s : Script) → HasSessions s → (p : ℕ) (now new : Holding (Viewed File)) (replies : List (List Reply)) (files fresh : List File) (x : Statement) (at : ℕ) (rs others : List Reply) (r : Reply) (past : Holding (Viewed File)) (extra : List Entry)
    → length replies ≡ length s.sessions → IsNext s p replies x at rs → new.history ≡ now.history ++ extra
    → IsPast s p now replies files others past → IsPast s p new (with_reply replies at rs r) (files ++ fresh) others past
past_kept {File} s has p now new replies files fresh x at rs others r past extra lists next longer is = record {
  more = is.more ++ extra;
  longer = longer ∙ ap (λ (h : List Entry). h ++ extra) is.longer ∙ append_assoc past.history is.more extra;
  database = is.database;
  first = is.first;
  rest = is.rest ++ fresh;
  are = is.are;
  all = ap (λ (fs : List File). fs ++ fresh) is.all ∙ append_assoc is.first is.rest fresh;
  seen = seen_kept s has p now.history new.history replies x at rs others r (length past.history) lists next
      (let more : length new.history ≡ length now.history + length extra = ap (λ (h : List Entry). length h) longer ∙ length-append now.history extra in omega arith) is.seen;
}

pub stands_kept : {File : Type 0} (tells : Bool) (pages : File → List (List ℕ)) (s : Script) → HasSessions s → (p : ℕ) (now new : Holding (Viewed File)) (replies : List (List Reply)) (files fresh : List File) (x : Statement) (at other : ℕ) (rs others : List Reply) (r : Reply) (port : PortSeen File) (stage : Stage File) (extra : List Entry)
    → length replies ≡ length s.sessions → IsNext s p replies x at rs → other ≢ at → new.history ≡ now.history ++ extra → KeepsTables now new
    → SessionStands tells pages s p now replies files other others port stage → SessionStands tells pages s p new (with_reply replies at rs r) (files ++ fresh) other others port stage
stands_kept tells pages s has p now new replies files fresh x at other rs others r port stage extra lists next apart longer keeps stands =
    elim stands [
      | inl resting ↦ inl resting
      | inr way ↦ inr (record {
        statement = way.statement;
        next = next_kept s p replies x way.statement at other rs others r apart way.next;
        staged = staged_kept tells pages way.statement now new stage port keeps way.staged;
        look = way.look;
        looked = way.looked;
        past = past_kept s has p now new replies files fresh x at rs others r way.look.held.value extra lists next longer way.past;
      })
    ]

-- ---- the statement that takes the step

-- what is known of a session's next statement
pub staged_next : {File : Type 0} (tells : Bool) (pages : File → List (List ℕ)) (s : Script) → HasSessions s → (p : ℕ) (now : Holding (Viewed File)) (replies : List (List Reply)) (files : List File) (x : Statement) (at : ℕ) (rs : List Reply) (port : PortSeen File) (stage : Stage File)
    → IsNext s p replies x at rs → SessionStands tells pages s p now replies files at rs port stage → IsStaged tells pages x now stage port
staged_next {File} tells pages s has p now replies files x at rs port stage next stands =
    elim stands [
      | inl resting ↦ subst (λ (t : Stage File). IsStaged tells pages x now t port) (sym resting.unbegun) resting.idle
      | inr way ↦ (let own : slice_get s.sessions at ≡ Some x.session = next.session in
          let its : slice_get s.sessions at ≡ Some way.statement.session = way.next.session in
          let both : Some way.statement.session ≡ Some x.session = sym its ∙ own in
          let session : way.statement.session ≡ x.session = cc in
          let same : way.statement ≡ x = same_statement s has way.statement x (next_stands s p replies way.statement at rs way.next) (next_stands s p replies x at rs next) session (way.next.number ∙ sym next.number) in
          subst (λ (y : Statement). IsStaged tells pages y now stage port) same way.staged)
    ]

-- the number of each reply so far is within the history
pub within_history : (s : Script) → HasSessions s → (known : Type 0) (p : ℕ) (history : List Entry) (replies : List (List Reply)) → LegalInPhase s 0 known p history replies → (i : ℕ) (rs : List Reply)
    → slice_get replies i ≡ Some rs → (k : ℕ) (q : Reply) → slice_get rs k ≡ Some q → number_of q ≤ length history
within_history s has known p history replies legal i rs is =
    let within : i < length replies = slice_get_within replies i rs is in
    let lists : length replies ≡ length s.sessions = legal.answers.lists in
    (session_facts s has 0 known p history replies legal i (get_or s.sessions i []) rs (slice_get-get_or s.sessions i [] (omega arith)) is).reached

-- the past that a look found
pub past_of : {File : Type 0} (tells : Bool) (pages : File → List (List ℕ)) (s : Script) (p : ℕ) (now : Holding (Viewed File)) (replies : List (List Reply)) (files : List File) (at : ℕ) (rs : List Reply) (port : PortSeen File) (stage : Stage File) (look : Look File)
    → SessionStands tells pages s p now replies files at rs port stage → look_of stage ≡ Some look → IsPast s p now replies files rs look.held.value
past_of {File} tells pages s p now replies files at rs port stage look stands looked =
    elim stands [
      | inl resting ↦ absurd (let none : look_of stage ≡ None = ap (λ (t : Stage File). look_of t) resting.unbegun in cc)
      | inr way ↦ (let its : look_of stage ≡ Some way.look = way.looked in
          let same : way.look ≡ look = cc in
          subst (λ (l : Look File). IsPast s p now replies files rs l.held.value) same way.past)
    ]

-- ---- a step that goes on

-- a reading of the past that serves there serves in the present history
serve_now : {File : Type 0} (tells : Bool) (s : Script) (now past : Holding (Viewed File)) (files first rest : List File) (more : List Entry) (port new : PortSeen File)
    → now.history ≡ past.history ++ more → database_of past ≡ database_after s past.history (length past.history) → files ≡ first ++ rest
    → ((place : ℕ) (read : Landing File) → length port.reading.landings ≤ place → slice_get new.reading.landings place ≡ Some read → Serves (database_of past) first read)
    → (j : ℕ) (read : Landing File) → length port.reading.landings ≤ j → slice_get new.reading.landings j ≡ Some read → (n : ℕ) × Serves (database_after s now.history n) (files ++ []) read
serve_now {File} tells s now past files first rest more port new longer is all serve j read since stands =
    let at : database_of past ≡ database_after s now.history (length past.history) =
    is ∙ sym (database_after-longer s past.history more (length past.history) (le_refl (length past.history))) ∙ ap (λ (h : List Entry). database_after s h (length past.history)) (sym longer) in
    let whole : first ++ rest ≡ files ++ [] = sym all ∙ sym (append-nil files) in (
      length past.history,
      subst (λ (d : RowDatabase). Serves d (files ++ []) read) at
          (subst (λ (fs : List File). Serves (database_of past) fs read) whole (serves_longer (database_of past) first rest read (serve j read since stands))),
    )

-- what the catalogue holds now is a past of itself
present_past : {File : Type 0} (tells : Bool) (pages : File → List (List ℕ)) (s : Script) (p : ℕ) (now : Holding (Viewed File)) (replies : List (List Reply)) (ports : List (PortSeen File)) (stages : List (Stage File)) (files : List File)
    (x : Statement) (at : ℕ) (rs : List Reply) → IsWorld tells pages s p now replies ports stages files → IsNext s p replies x at rs → IsPast s p now replies files rs now
present_past tells pages s p now replies ports stages files x at rs w is = record {
  more = [];
  longer = sym (append-nil now.history);
  database = w.database;
  first = files;
  rest = [];
  are = w.are;
  all = sym (append-nil files);
  seen = seen_present s w.has 0 _ p now.history replies at x.session rs (w.legal 0) is.session is.replies_are;
}

-- and what a statement read of it is one
basis_past : {File : Type 0} (tells : Bool) (pages : File → List (List ℕ)) (s : Script) (p : ℕ) (now : Holding (Viewed File)) (replies : List (List Reply)) (ports : List (PortSeen File)) (stages : List (Stage File)) (files : List File)
    (x : Statement) (at : ℕ) (rs : List Reply) (port : PortSeen File) (stage : Stage File) → IsWorld tells pages s p now replies ports stages files → IsNext s p replies x at rs
    → SessionStands tells pages s p now replies files at rs port stage → IsPast s p now replies files rs (basis now (look_of stage))
basis_past {File} tells pages s p now replies ports stages files x at rs port stage w is stood =
    elim stood [
      | inl resting ↦ subst (λ (t : Stage File). IsPast s p now replies files rs (basis now (look_of t))) (sym resting.unbegun)
          (present_past tells pages s p now replies ports stages files x at rs w is)
      | inr way ↦ subst (λ (o : Option (Look File)). IsPast s p now replies files rs (basis now o)) (sym way.looked) way.past
    ]

-- what it last read of the catalogue is what it had, or what the catalogue holds now
next_past : {File : Type 0} (s : Script) (p : ℕ) (now : Holding (Viewed File)) (replies : List (List Reply)) (files : List File) (rs : List Reply) (stage next : Stage File) (look : Look File)
    → IsPast s p now replies files rs (basis now (look_of stage)) → look_of next ≡ Some look
    → (look_of next ≡ look_of stage) ⊎ ((l : Look File) × (look_of next ≡ Some l) × (l.held.value ≡ now))
    → IsPast s p now replies files rs now → IsPast s p now replies files rs look.held.value
next_past {File} s p now replies files rs stage next look past looked looks present =
    elim looks [
      | inl kept ↦ subst (λ (o : Option (Look File)). IsPast s p now replies files rs (basis now o)) (sym kept ∙ looked) past
      | inr new ↦ (let same : new.0 ≡ look = some_same (sym new.1 ∙ looked) in
          let is : look.held.value ≡ now = ap (λ (l : Look File). l.held.value) (sym same) ∙ new.2 in
          subst (λ (h : Holding (Viewed File)). IsPast s p now replies files rs h) (sym is) present)
    ]

-- the statement goes on
pub goes_on : {File : Type 0} (tells : Bool) (pages : File → List (List ℕ)) (s : Script) (p : ℕ) (now : Holding (Viewed File)) (replies : List (List Reply)) (ports : List (PortSeen File)) (stages : List (Stage File)) (files : List File)
    (x : Statement) (at : ℕ) (rs : List Reply) (port new : PortSeen File) (stage next : Stage File)
    → IsWorld tells pages s p now replies ports stages files → IsNext s p replies x at rs → slice_get ports at ≡ Some port → slice_get stages at ≡ Some stage
    → GoesTo tells pages x now now stage next port new → IsWorld tells pages s p now replies (set ports at new) (set stages at next) files
goes_on {File} tells pages s p now replies ports stages files x at rs port new stage next w is at_port at_stage goes =
    let had : slice_get replies at ≡ Some rs = is.replies_are in
    let stood : SessionStands tells pages s p now replies files at rs port stage = w.stands at rs port stage had at_port at_stage in
    let among : AreAmong (landings_of ports) (landings_of (set ports at new)) = ports_among ports at port new goes.reads.more at_port goes.reads.landed in
    let same : (n : ℕ) → n ≤ length now.history → database_after s now.history n ≡ database_after s now.history n = (λ n le. refl) in
    let sooner : Known tells s now.history (landings_of (set ports at new)) → Known tells s now.history (landings_of ports) =
    known_fewer tells s now.history now.history (landings_of ports) (landings_of (set ports at new)) among same in
    let ports_below : at < length ports = slice_get_within ports at port at_port in
    let stages_below : at < length stages = slice_get_within stages at stage at_stage in
    let past : IsPast s p now replies files rs (basis now (look_of stage)) = basis_past tells pages s p now replies ports stages files x at rs port stage w is stood in
    let serve = serve_now tells s now (basis now (look_of stage)) files past.first past.rest past.more port new past.longer past.database past.all (goes.well.serve past.first past.are) in
    let caused : CausedBy tells s now.history rs new files =
    subst (λ (fs : List File). CausedBy tells s now.history rs new fs) (append-nil files)
    (caused_longer tells s now.history now.history rs files [] port new goes.reads.more (w.caused at rs port had at_port)
    (within_history s w.has _ p now.history replies (w.legal 0) at rs had) same goes.reads.landed goes.well.still serve) in
    let look : Look File = goes.begun.0 in
    let looked : look_of next ≡ Some look = goes.begun.1 in
    let way : SessionStands tells pages s p now replies files at rs new next = inr (record {
      statement = x;
      next = is;
      staged = goes.staged;
      look = look;
      looked = looked;
      past = next_past s p now replies files rs stage next look past looked goes.looks
          (present_past tells pages s p now replies ports stages files x at rs w is);
    }) in
    record {
      has = w.has;
      legal = (λ max. legal_in_phase_under _ _ sooner s max p now.history replies (w.legal max));
      database = w.database;
      sound = w.sound;
      are = w.are;
      ports_paired = length-set ports at new ∙ w.ports_paired;
      stages_paired = length-set stages at next ∙ w.stages_paired;
      caused = (λ i qs q at_qs at_q. elim (cases_eq i at) [
        | inl mine ↦ (let same_qs : rs ≡ qs = some_same (sym had ∙ ap (slice_get replies) (sym mine) ∙ at_qs) in
            let same_q : new ≡ q = some_same (sym (slice_get-set_same ports at new ports_below) ∙ ap (slice_get (set ports at new)) (sym mine) ∙ at_q) in
            subst (λ (l : List Reply). CausedBy tells s now.history l q files) same_qs (subst (λ (r : PortSeen File). CausedBy tells s now.history rs r files) same_q caused))
        | inr apart ↦ w.caused i qs q at_qs (sym (slice_get-set_other ports at i new apart) ∙ at_q)
      ]);
      stands = (λ i qs q t at_qs at_q at_t. elim (cases_eq i at) [
        | inl mine ↦ (let same_qs : rs ≡ qs = some_same (sym had ∙ ap (slice_get replies) (sym mine) ∙ at_qs) in
            let same_q : new ≡ q = some_same (sym (slice_get-set_same ports at new ports_below) ∙ ap (slice_get (set ports at new)) (sym mine) ∙ at_q) in
            let same_t : next ≡ t = some_same (sym (slice_get-set_same stages at next stages_below) ∙ ap (slice_get (set stages at next)) (sym mine) ∙ at_t) in
            rw (mine, sym same_qs, sym same_q, sym same_t) way)
        | inr apart ↦ w.stands i qs q t at_qs (sym (slice_get-set_other ports at i new apart) ∙ at_q) (sym (slice_get-set_other stages at i next apart) ∙ at_t)
      ]);
    }
