-- Steps of a statement over a catalogue, one after another: what the port has behind them, and what a failure stands on.
use Rattle.std.proofs.Common.{◌≡◌, ℕ, ◌<◌, ◌≤◌, Bool, List, [], ◌++◌, length, Some, slice_get, Result, Ok, Err, IfErr, OnOk, inl, refl, sym, ap, subst, ◌∙◌, arith, length-append, append-nil}
use Rattle.std.specs.Result.{IsErrAnd}
use Rattle.hv_dev.specs.Reading.{Landing}
use Rattle.hv_model.specs.Database.{RowDatabase}
use Rattle.hv_model.specs.declared.reply.Why.{Why}
use Rattle.hv_model.specs.declared.reply.Failure.{Failure}
use Rattle.hv_model.specs.declared.reply.Failure.TheVariants.{Read, Write, Damaged, Memory}
use Rattle.hv_model.specs.declared.reply.Reply.{Reply}
use Rattle.hv_model.specs.declared.reply.Reply.TheVariants.{Done, Rows, Refused, Failed}
use Rattle.hv_view.specs.View.{Viewed}
use Rattle.hv_catalogue.specs.Holding.{Holding}
use Rattle.hv_world.specs.Stored.{database_of, AreFiles}
use Rattle.hv_world.specs.Reads.{PortSeen, IsIdle, GoesOn, ReadsOn}
use Rattle.hv_world.specs.Damage.{Serves, StandsOnNew, RepliedBy, IsUnfailed}
use Rattle.hv_world.specs.Imported.{IsUnbuilt}
use Rattle.hv_world.specs.Answer.{AllWell, FailedOver, ReadsTables}
use Rattle.hv_world.proofs.Landed.{reads_both, rose_earlier, none_since, both_since, handed_on}

-- ---- a port that goes on

-- an idle port, where nothing is done
pub goes_nowhere : {File : Type 0} (port : PortSeen File) → IsIdle port → GoesOn port port
goes_nowhere port idle = record {
  reads = record { none = idle.none; room = refl; faults = omega arith; more = []; landed = sym (append-nil port.reading.landings) };
  faults = omega arith;
  empty = idle.empty;
}

-- a port that went on twice
pub goes_on_both : {File : Type 0} (a b c : PortSeen File) → GoesOn a b → GoesOn b c → GoesOn a c
goes_on_both a b c first second =
    let before : a.write_faults ≤ b.write_faults = first.faults in
    let since : b.write_faults ≤ c.write_faults = second.faults in record {
      reads = reads_both a.reading b.reading c.reading first.reads second.reads;
      faults = omega arith;
      empty = second.empty;
    }

-- a port went on by reads alone
pub goes_on_more : {File : Type 0} (a b c : PortSeen File) → GoesOn a b → ReadsOn b.reading c.reading → c.write_faults ≡ b.write_faults → c.written ≡ b.written → GoesOn a c
goes_on_more a b c first reads faults written =
    let f : a.write_faults ≤ b.write_faults = first.faults in record {
      reads = reads_both a.reading b.reading c.reading first.reads reads;
      faults = omega arith;
      empty = written ∙ first.empty;
    }

-- it is idle again
pub idle_still : {File : Type 0} (a b : PortSeen File) → IsIdle a → GoesOn a b → IsIdle b
idle_still a b idle on = record {
  room = subst (λ n. 0 < n) (sym on.reads.room) idle.room;
  none = on.reads.none;
  empty = on.empty;
}

-- ---- steps that went well

-- where no read was made and nothing failed all went well
pub well_unread : {File : Type 0} (s : Holding (Viewed File)) (before after : PortSeen File) → after.reading ≡ before.reading → after.write_faults ≡ before.write_faults → AllWell s before after
well_unread s before after reading writes = record {
  still = record { reads = ap (λ r. r.read_faults) reading; writes = writes };
  serve = λ files are. none_since (λ place read. Serves (database_of s) files read) before.reading.landings after.reading.landings (ap (λ r. r.landings) reading);
}

pub well_both : {File : Type 0} (s : Holding (Viewed File)) (a b c : PortSeen File) → GoesOn b c → AllWell s a b → AllWell s b c → AllWell s a c
well_both s a b c on first second = record {
  still = record { reads = second.still.reads ∙ first.still.reads; writes = second.still.writes ∙ first.still.writes };
  serve = λ files are. both_since (λ place read. Serves (database_of s) files read) a.reading.landings b.reading.landings c.reading.landings on.reads.more on.reads.landed
      (first.serve files are) (second.serve files are);
}

-- ---- steps that failed

-- memory was wanting where all went well
pub memory_over : {File : Type 0} (tells : Bool) (s : Holding (Viewed File)) (before after : PortSeen File) → AllWell s before after → FailedOver tells s before after Memory
memory_over tells s before after well files are = (well.still, well.serve files are)

-- a read that landed since a later time landed since an earlier one, and all reads between serve
stands_earlier : {File : Type 0} (tells : Bool) (s : RowDatabase) (files : List File) (a b c front back : List (Landing File)) (number page : ℕ) (why : Why) → b ≡ a ++ front → c ≡ b ++ back
    → ((place : ℕ) (read : Landing File) → length a ≤ place → slice_get b place ≡ Some read → Serves s files read) → StandsOnNew tells s files b c number page why → StandsOnNew tells s files a c number page why
stands_earlier tells s files a b c front back number page why longer longest serve new = record {
  place = new.place;
  since = omega (arith, new.since, ap length longer, length-append a front);
  on = new.on;
  others = both_since _ a b c back longest (λ place read since stands. inl (serve place read since stands)) new.others;
}

-- a failure since a later time is one since an earlier one, where all went well between
pub failed_later : {File : Type 0} (tells : Bool) (s : Holding (Viewed File)) (a b c : PortSeen File) (cause : Failure) → GoesOn a b → GoesOn b c → AllWell s a b → ¬ (cause ≡ Write) → FailedOver tells s b c cause → FailedOver tells s a c cause
failed_later tells s a b c Read first second well read failed files are = (
  rose_earlier a.reading.read_faults b.reading.read_faults c.reading.read_faults first.reads.faults (failed files are).0,
  (failed files are).1 ∙ well.still.writes,
  both_since (λ place read. Serves (database_of s) files read) a.reading.landings b.reading.landings c.reading.landings second.reads.more second.reads.landed (well.serve files are) (failed files are).2,
)
failed_later tells s a b c Write first second well read failed files are = absurd (read refl)
failed_later tells s a b c (Damaged number page why) first second well read failed files are = (
  record { reads = (failed files are).0.reads ∙ well.still.reads; writes = (failed files are).0.writes ∙ well.still.writes },
  stands_earlier tells (database_of s) files a.reading.landings b.reading.landings c.reading.landings first.reads.more second.reads.more number page why first.reads.landed second.reads.landed
      (well.serve files are) (failed files are).1,
)
failed_later tells s a b c Memory first second well read failed files are = (
  record { reads = (failed files are).0.reads ∙ well.still.reads; writes = (failed files are).0.writes ∙ well.still.writes },
  both_since (λ place read. Serves (database_of s) files read) a.reading.landings b.reading.landings c.reading.landings second.reads.more second.reads.landed (well.serve files are) (failed files are).1,
)

-- memory is no write
pub memory_reads : {File : Type 0} (tells : Bool) (s : Holding (Viewed File)) (before after : PortSeen File) → AllWell s before after → (¬ (Memory ≡ Write)) × FailedOver tells s before after Memory
memory_reads tells s before after well = ((λ is. cc), memory_over tells s before after well)

-- steps that went well, and then one that failed
pub reads_failed : {File : Type 0} (tells : Bool) (s : Holding (Viewed File)) (a b c : PortSeen File) (cause : Failure) → GoesOn a b → GoesOn b c → AllWell s a b
    → (¬ (cause ≡ Write)) × FailedOver tells s b c cause → (¬ (cause ≡ Write)) × FailedOver tells s a c cause
reads_failed tells s a b c cause first second well failed = (failed.0, failed_later tells s a b c cause first second well failed.0 failed.1)

-- the same, where the failure is handed on
pub failed_on : {File T : Type 0} (tells : Bool) (s : Holding (Viewed File)) (a b c : PortSeen File) (r : Result T Failure) (cause : Failure) → IsErrAnd r (λ y. y ≡ cause) → GoesOn a b → GoesOn b c → AllWell s a b
    → (¬ (cause ≡ Write)) × FailedOver tells s b c cause → ReadsTables tells s a c r
failed_on tells s a b c r cause is first second well failed =
    handed_on r cause (λ r. ReadsTables tells s a c r) is (reads_failed tells s a b c cause first second well failed)

-- and want of memory behind steps that went well
pub memory_on : {File T : Type 0} (tells : Bool) (s : Holding (Viewed File)) (before after : PortSeen File) (r : Result T Failure) → IsErrAnd r (λ y. y ≡ Memory) → AllWell s before after → ReadsTables tells s before after r
memory_on tells s before after r is well = handed_on r Memory (λ r. ReadsTables tells s before after r) is (memory_reads tells s before after well)

-- ---- an import

-- one that failed has read nothing
pub import_over : {T File : Type 0} (tells : Bool) (s : Holding (Viewed File)) (before after : PortSeen File) (r : Result T Failure) → after.reading ≡ before.reading
    → IfErr r (λ failure. IsUnbuilt failure before.write_faults after.write_faults) → IfErr r (λ cause. FailedOver tells s before after cause)
import_over tells s before after (Ok x) reading by = tt
import_over tells s before after (Err Read) reading by = absurd by
import_over tells s before after (Err Write) reading by = λ files are. (by, reading)
import_over tells s before after (Err (Damaged number page why)) reading by = absurd by
import_over tells s before after (Err Memory) reading by = memory_over tells s before after (well_unread s before after reading by)

-- so has one that went well
pub import_well : {T File : Type 0} (s : Holding (Viewed File)) (before after : PortSeen File) (r : Result T Failure) → after.reading ≡ before.reading → OnOk r (after.write_faults ≡ before.write_faults) → OnOk r (AllWell s before after)
import_well s before after (Ok x) reading calm = well_unread s before after reading calm
import_well s before after (Err cause) reading calm = tt

-- ---- replies

-- what a reply that says no failure stands on
pub replied_well : {File : Type 0} (tells : Bool) (s : Holding (Viewed File)) (before after : PortSeen File) (r : Reply) → IsUnfailed r → AllWell s before after
    → (files : List File) → AreFiles s files → RepliedBy tells (database_of s) files before after r
replied_well tells s before after (Done at what) unfailed well files are = (well.still, well.serve files are)
replied_well tells s before after (Rows at rows) unfailed well files are = (well.still, well.serve files are)
replied_well tells s before after (Refused at cause) unfailed well files are = (well.still, well.serve files are)
replied_well tells s before after (Failed at cause) unfailed well files are = absurd unfailed
