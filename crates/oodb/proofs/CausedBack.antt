-- What the failures of a run stand on, once its ports are back at the device.
use Rattle.std.proofs.Common.{◌≡◌, ℕ, zero, suc, ◌+◌, ◌-◌, ◌≤◌, ◌<◌, min, Bool, true, List, [], ◌∷◌, ◌++◌, length, map, Some, Ok, refl, ap, subst, sym, ◌∙◌, arith, count_by, cond}
use Rattle.std.specs.List.{slice_get, sum_by}
use Rattle.std.proofs.lemmas.List.{append-nil, append_assoc, length-map}
use Rattle.std.proofs.lemmas.List.Concat.{flat_map-cons}
use Rattle.std.proofs.lemmas.List.Folds.{flat_map-map}
use Rattle.std.proofs.lemmas.List.Sums.{sum_by-cons}
use Rattle.std.proofs.lemmas.Option.{slice_get_within, slice_get-get_or}
use Rattle.hv_io.specs.Bytes.{Seen}
use Rattle.hv_dev.specs.Reading.{Landing, Back, came_back}
use Rattle.hv_model.specs.declared.script.Script.{Script}
use Rattle.hv_model.specs.declared.catalogue.Entry.{Entry}
use Rattle.hv_model.specs.declared.reply.Failure.TheVariants.{Read, Write, Damaged, Memory}
use Rattle.hv_model.specs.declared.reply.Reply.{Reply}
use Rattle.hv_model.specs.declared.reply.Reply.TheVariants.{Failed}
use Rattle.hv_model.specs.Legal.{Legal}
use Rattle.hv_model.specs.Report.{report_text}
use Rattle.hv_model.specs.Script.{IsScript}
use Rattle.hv_model.proofs.ScriptSessions.{script_sessions}
use Rattle.hv_script.specs.Words.{max_of}
use Rattle.hv_script.proofs.Names.{script_names_plain}
use Rattle.hv_report.specs.Law.{InRange}
use Rattle.hv_report.specs.Text.{replies_of, text_of}
use Rattle.hv_report.specs.declared.report.Report.{Report}
use Rattle.hv_world.specs.Causes.{RoseBy, RoseWith, is_read, is_write, failed_so, DamagesStand}
use Rattle.hv_world.specs.Known.{Known}
use Rattle.hv_world.specs.Reads.{PortSeen, fresh_port}
use Rattle.hv_world.specs.World.{WorldSeen, AreCausedSoFar, landings_of, report_of, all_back, ports_out}
use Rattle.oodb.specs.declared.status.Status.{Status}
use Rattle.oodb.specs.Causes.{IsCalm, OnlyMemoryFails, OnlyMemoryFailsIn, io_failures, all_landed, AreCaused}
use Rattle.oodb.specs.Outcome.{WholeOrCut, ReportsOn, IsRun, status_of}
use Rattle.oodb.proofs.Running.{report_over}
use Rattle.oodb.proofs.Reporting.{plain_text, zipped_replies, names_differ}
use Rattle.oodb.proofs.Names.{lists_are, named_of}

-- ---- counts

-- where nothing is counted, no element passes the test
none_passes : {X : Type 0} (p : X → Bool) (xs : List X) (k : ℕ) (x : X) → slice_get xs k ≡ Some x → p x ≡ true → count_by p xs ≡ 0 → ⊥
none_passes p [] k x at passes none = absurd cc
none_passes p (y ∷ ys) zero x at passes none =
    let same : y ≡ x = cc in
    let counted : count_by p (y ∷ ys) ≡ cond (p y) 1 0 + count_by p ys = sum_by-cons (λ z. cond (p z) 1 0) y ys in
    let one : cond {A = ℕ} (p y) 1 0 ≡ 1 = rw (same, passes) refl in absurd (omega (arith, one, counted, none))
none_passes p (y ∷ ys) (suc k) x at passes none =
    let counted : count_by p (y ∷ ys) ≡ cond (p y) 1 0 + count_by p ys = sum_by-cons (λ z. cond (p z) 1 0) y ys in
    none_passes p ys k x at passes (omega arith)

-- a port's two counts go into the device's one
both_rose : (n m before reads writes now : ℕ) → RoseBy n 0 reads → RoseBy m 0 writes → now ≡ min (before + (reads + writes)) 18446744073709551615 → RoseBy (n + m) before now
both_rose n m before reads writes now reads_rose writes_rose is =
    let of_reads : min (0 + n) 18446744073709551615 ≤ reads = reads_rose.risen in
    let of_writes : min (0 + m) 18446744073709551615 ≤ writes = writes_rose.risen in
    let falls_never : min before 18446744073709551615 ≤ now = omega arith in
    let risen : min (before + (n + m)) 18446744073709551615 ≤ now = omega arith in record { falls_never = falls_never; risen = risen }

-- one rise after another
rose_on : (n m all before between now : ℕ) → RoseBy n before between → RoseBy m between now → all ≡ n + m → RoseBy all before now
rose_on n m all before between now first second is =
    let fell : min before 18446744073709551615 ≤ between = first.falls_never in
    let rose : min (before + n) 18446744073709551615 ≤ between = first.risen in
    let fell_then : min between 18446744073709551615 ≤ now = second.falls_never in
    let rose_then : min (between + m) 18446744073709551615 ≤ now = second.risen in
    let falls_never : min before 18446744073709551615 ≤ now = omega arith in
    let risen : min (before + all) 18446744073709551615 ≤ now = omega arith in record { falls_never = falls_never; risen = risen }

-- where the count did not rise, there was nothing to count
none_rose : (n before now : ℕ) → RoseBy n before now → IsCalm before now → n ≡ 0
none_rose n before now rose calm =
    let same : now ≡ before = calm.same in let below : before < 18446744073709551615 = calm.below in
    let risen : min (before + n) 18446744073709551615 ≤ now = rose.risen in omega arith

-- where none failed, the count is as before
none_counted : (n m before reads writes now : ℕ) → RoseWith n 0 reads → RoseWith m 0 writes → now ≡ min (before + (reads + writes)) 18446744073709551615
    → n + m ≡ 0 → before ≤ 18446744073709551615 → now ≡ before
none_counted n m before reads writes now of_reads of_writes is none within =
    let no_read : reads ≡ 0 = of_reads.still (omega arith) in
    let no_write : writes ≡ 0 = of_writes.still (omega arith) in
    omega arith

-- where a sum is none, each part is
none_each : {X : Type 0} (f : X → ℕ) (xs : List X) → sum_by f xs ≡ 0 → (i : ℕ) (x : X) → slice_get xs i ≡ Some x → f x ≡ 0
none_each f [] none i x at = absurd cc
none_each f (y ∷ ys) none zero x at =
    let same : y ≡ x = cc in
    let whole : sum_by f (y ∷ ys) ≡ f y + sum_by f ys = sum_by-cons f y ys in
    let first : f y ≡ 0 = omega (arith, whole, none) in ap f (sym same) ∙ first
none_each f (y ∷ ys) none (suc i) x at =
    let whole : sum_by f (y ∷ ys) ≡ f y + sum_by f ys = sum_by-cons f y ys in
    none_each f ys (omega (arith, whole, none)) i x at

-- ---- ports that come back one after another

-- the counts of each session's port rose with the failures among its replies and with them alone
abbrev AreCounted : {File : Type 0} → List (List Reply) → List (PortSeen File) → Type 0
AreCounted {File} replies ports = (i : ℕ) (of_session : List Reply) (port : PortSeen File) → slice_get replies i ≡ Some of_session → slice_get ports i ≡ Some port
    → RoseWith (count_by (failed_so is_read) of_session) 0 port.reading.read_faults × RoseWith (count_by (failed_so is_write) of_session) 0 port.write_faults

-- the device after the first of them
abbrev one_back : {File : Type 0} → Back File → PortSeen File → Back File
one_back b port = came_back b port.reading port.write_faults

out_back : {File : Type 0} (ports : List (PortSeen File)) (b : Back File) → (all_back b ports).out ≡ b.out - length ports
out_back [] b = omega arith
out_back (port ∷ ports) b = let rest : (all_back (one_back b port) ports).out ≡ (b.out - 1) - length ports = out_back ports (one_back b port) in omega (arith, rest)

landed_back : {File : Type 0} (ports : List (PortSeen File)) (b : Back File) → (all_back b ports).landings ≡ b.landings ++ landings_of ports
landed_back [] b = sym (append-nil b.landings)
landed_back (port ∷ ports) b =
    landed_back ports (one_back b port) ∙ append_assoc b.landings port.reading.landings (landings_of ports)
    ∙ ap (λ (more : List (Landing _)). b.landings ++ more) (sym (flat_map-cons (λ (p : PortSeen _). p.reading.landings) port ports))

rose_back : {File : Type 0} (replies : List (List Reply)) (ports : List (PortSeen File)) (b : Back File) → length ports ≡ length replies → AreCounted replies ports
    → RoseBy (sum_by io_failures replies) b.faults (all_back b ports).faults
rose_back [] [] b paired counted =
    let falls_never : min b.faults 18446744073709551615 ≤ b.faults = omega arith in
    let risen : min (b.faults + 0) 18446744073709551615 ≤ b.faults = omega arith in record { falls_never = falls_never; risen = risen }
rose_back [] (port ∷ ports) b paired counted = absurd (omega arith)
rose_back (rs ∷ replies) [] b paired counted = absurd (omega arith)
rose_back (rs ∷ replies) (port ∷ ports) b paired counted =
    let its = counted 0 rs port refl refl in
    rose_on (io_failures rs) (sum_by io_failures replies) (sum_by io_failures (rs ∷ replies)) b.faults (one_back b port).faults (all_back (one_back b port) ports).faults
    (both_rose (count_by (failed_so is_read) rs) (count_by (failed_so is_write) rs) b.faults port.reading.read_faults port.write_faults (one_back b port).faults its.0.by its.1.by refl)
    (rose_back replies ports (one_back b port) (omega arith) (λ i of_session p at is. counted (suc i) of_session p at is))
    (sum_by-cons io_failures rs replies)

still_back : {File : Type 0} (replies : List (List Reply)) (ports : List (PortSeen File)) (b : Back File) → length ports ≡ length replies → AreCounted replies ports
    → sum_by io_failures replies ≡ 0 → b.faults ≤ 18446744073709551615 → (all_back b ports).faults ≡ b.faults
still_back [] [] b paired counted none within = refl
still_back [] (port ∷ ports) b paired counted none within = absurd (omega arith)
still_back (rs ∷ replies) [] b paired counted none within = absurd (omega arith)
still_back (rs ∷ replies) (port ∷ ports) b paired counted none within =
    let its = counted 0 rs port refl refl in
    let whole : sum_by io_failures (rs ∷ replies) ≡ io_failures rs + sum_by io_failures replies = sum_by-cons io_failures rs replies in
    let first : (one_back b port).faults ≡ b.faults
    = none_counted (count_by (failed_so is_read) rs) (count_by (failed_so is_write) rs) b.faults port.reading.read_faults port.write_faults (one_back b port).faults its.0 its.1 refl
    (omega (arith, whole, none)) within in
    still_back replies ports (one_back b port) (omega arith) (λ i of_session p at is. counted (suc i) of_session p at is) (omega (arith, whole, none)) (omega (arith, first, within)) ∙ first

-- ---- the causes of a world's failures

-- where the files tell what they hold and no read and no write failed, want of memory is the one cause
only_memory : {File : Type 0} (tells : Bool) (s : Script) (history : List Entry) (replies : List Reply) (files : List File) (landed : List (Landing File))
    → DamagesStand tells s history replies files landed → tells ≡ true
    → count_by (failed_so is_read) replies ≡ 0 → count_by (failed_so is_write) replies ≡ 0 → OnlyMemoryFails replies
only_memory tells s history replies files landed damage true_pages no_read no_write k n Read at = absurd (none_passes (failed_so is_read) replies k (Failed n Read) at refl no_read)
only_memory tells s history replies files landed damage true_pages no_read no_write k n Write at = absurd (none_passes (failed_so is_write) replies k (Failed n Write) at refl no_write)
only_memory tells s history replies files landed damage true_pages no_read no_write k n (Damaged number page why) at =
    absurd ((damage.stands k n number page why at).untold true_pages)
only_memory tells s history replies files landed damage true_pages no_read no_write k n Memory at = refl

-- what landed at each port
abbrev landed_at : {File : Type 0} → List (PortSeen File) → List (List (Landing File))
landed_at ports = map (λ (port : PortSeen _). port.reading.landings) ports

-- all that landed at them
landed_whole : {File : Type 0} (ports : List (PortSeen File)) → all_landed (landed_at ports) ≡ landings_of ports
landed_whole ports = flat_map-map (λ landed. landed) (λ (port : PortSeen _). port.reading.landings) ports

-- the port at which it landed
record IsPortOf {File : Type 0} (ports : List (PortSeen File)) (i : ℕ) (its : List (Landing File)) : Type 0 where
  port : PortSeen File
  stands : slice_get ports i ≡ Some port
  same : port.reading.landings ≡ its

port_of : {File : Type 0} (ports : List (PortSeen File)) (i : ℕ) (its : List (Landing File)) → slice_get (landed_at ports) i ≡ Some its → IsPortOf ports i its
port_of [] i its at = absurd cc
port_of (port ∷ ports) zero its at = record { port = port; stands = refl; same = cc }
port_of (port ∷ ports) (suc i) its at = let found = port_of ports i its at in record { port = found.port; stands = found.stands; same = found.same }

module _ {File : Type 0} (tells : Bool) (w : WorldSeen File) (causes : AreCausedSoFar tells w) where
  counted_so : AreCounted w.replies w.ports
  counted_so i of_session port at is = let its = causes.each i of_session port at is in (its.reads, its.writes)

  damage_of : (i : ℕ) (of_session : List Reply) (its : List (Landing File)) → slice_get w.replies i ≡ Some of_session → slice_get (landed_at w.ports) i ≡ Some its
      → DamagesStand tells w.script w.held.history of_session causes.files its
  damage_of i of_session its at is =
      let found = port_of w.ports i its is in
      subst (λ (landed : List (Landing File)). DamagesStand tells w.script w.held.history of_session causes.files landed) found.same (causes.each i of_session found.port at found.stands).damage

  only_in : tells ≡ true → sum_by io_failures w.replies ≡ 0 → OnlyMemoryFailsIn w.replies
  only_in true_pages none i of_session at =
      let within : i < length w.replies = slice_get_within w.replies i of_session at in
      let paired : length w.ports ≡ length w.replies = causes.paired in
      let its = causes.each i of_session _ at (slice_get-get_or w.ports i (fresh_port File) (omega (arith, within, paired))) in
      let here : count_by (failed_so is_read) of_session + count_by (failed_so is_write) of_session ≡ 0 = none_each io_failures w.replies none i of_session at in
      only_memory tells w.script w.held.history of_session causes.files _ its.damage true_pages (omega (arith, here)) (omega (arith, here))

  -- the ports went out fresh and came back: what landed is what they read
  back_all : (before : Back File) → length w.replies ≡ length w.script.sessions
      → AreCaused tells w.script w.held.history w.replies before (all_back (ports_out (length w.script.sessions) before) w.ports)
  back_all before lists =
      let out : Back File = ports_out (length w.script.sessions) before in
      let after : Back File = all_back out w.ports in
      let paired : length w.ports ≡ length w.replies = causes.paired in
      let out_is : after.out ≡ (before.out + length w.script.sessions) - length w.ports = out_back w.ports out in
      let rose : RoseBy (sum_by io_failures w.replies) before.faults after.faults = rose_back w.replies w.ports out causes.paired counted_so in record {
        ports = omega (arith, out_is, paired, lists);
        landed = landed_at w.ports;
        landings = landed_back w.ports out ∙ ap (λ (landed : List (Landing File)). before.landings ++ landed) (sym (landed_whole w.ports));
        reads_and_writes = rose;
        still = still_back w.replies w.ports out causes.paired counted_so;
        files = causes.files;
        count = causes.count;
        paired = length-map w.ports (λ (port : PortSeen File). port.reading.landings) ∙ causes.paired;
        damage = damage_of;
        calm = (λ true_pages calm. only_in true_pages (none_rose (sum_by io_failures w.replies) before.faults after.faults rose calm));
      }

  -- the report on a world of a script that bytes are
  reports_back : (now : Status) (report : Report) (before after : Seen) (dev_before out dev_after : Back File) → (bytes : List ℕ) × IsScript bytes w.script
      → ((max : ℕ) → Legal w.script max (Known tells w.script w.held.history (landings_of w.ports)) w.held.history w.replies)
      → out ≡ ports_out (length w.script.sessions) dev_before → dev_after ≡ all_back out w.ports → report ≡ report_of w.script w.held.history w.replies
      → WholeOrCut (text_of report) (status_of (replies_of report.sessions)) now before after → InRange report
      → ReportsOn tells w.script now before after dev_before dev_after
  unfolding back_all
  reports_back now report before after dev_before out dev_after is legal left back told over in_range chosen from to script calm =
      let s : Script = w.script in
      let lists : length w.replies ≡ length s.sessions = lists_are s w.replies (legal (max_of chosen)).once.counts in
      let both : dev_after ≡ all_back (ports_out (length s.sessions) dev_before) w.ports = back ∙ ap (λ (b : Back File). all_back b w.ports) left in
      let known : Legal s (max_of chosen) (Known tells s w.held.history (all_landed (landed_at w.ports))) w.held.history w.replies
      = subst (λ (landed : List (Landing File)). Legal s (max_of chosen) (Known tells s w.held.history landed) w.held.history w.replies) (sym (landed_whole w.ports)) (legal (max_of chosen)) in
      let text : text_of report ≡ report_text s w.held.history w.replies = ap (λ (r : Report). text_of r) told ∙ plain_text s w.held.history w.replies lists in
      let replies : replies_of report.sessions ≡ w.replies = ap (λ (r : Report). replies_of r.sessions) told ∙ zipped_replies s.sessions w.replies lists in
      subst (λ (device : Back File). IsRun tells (Ok chosen) now (record { source = from; sink = before; device = dev_before }) (record { source = to; sink = after; device = device })) (sym both)
      (report_over tells (Ok chosen) (record { source = from; sink = before; device = dev_before })
      (record { source = to; sink = after; device = all_back (ports_out (length s.sessions) dev_before) w.ports })
      (text_of report) (status_of (replies_of report.sessions)) now
      (record {
        words = refl;
        calm = calm;
        script = s;
        history = w.held.history;
        replies = w.replies;
        script_is = script;
        causes = back_all dev_before lists;
        legal = known;
        told = (record {
          lists = lists;
          distinct = names_differ s (script_sessions is.0 s is.1);
          named = named_of s w.held.history w.replies (script_names_plain is.0 s (max_of chosen) _ w.held.history w.replies is.1 known);
          in_range = subst (λ (r : Report). InRange r) told in_range;
        });
        is = text;
        status = ap status_of replies;
      }) over)

  -- the same by the script
  pub reports_on : (s : Script) (now : Status) (report : Report) (before after : Seen) (dev_before out dev_after : Back File) → w.script ≡ s → (bytes : List ℕ) × IsScript bytes s
      → ((max : ℕ) → Legal w.script max (Known tells w.script w.held.history (landings_of w.ports)) w.held.history w.replies)
      → out ≡ ports_out (length s.sessions) dev_before → dev_after ≡ all_back out w.ports → report ≡ report_of w.script w.held.history w.replies
      → WholeOrCut (text_of report) (status_of (replies_of report.sessions)) now before after → InRange report
      → ReportsOn tells s now before after dev_before dev_after
  reports_on s now report before after dev_before out dev_after same is legal left back told over in_range =
      subst (λ (t : Script). ReportsOn tells t now before after dev_before dev_after) same
      (reports_back now report before after dev_before out dev_after (subst (λ (t : Script). (bytes : List ℕ) × IsScript bytes t) (sym same) is) legal
      (left ∙ ap (λ (t : Script). ports_out (length t.sessions) dev_before) (sym same)) back told over in_range)
