-- The steps of a printer.
use Rattle.std.proofs.Common.{◌≡◌, ℕ, ◌≤◌, List, [], ◌++◌, length, refl, sym, ap, ◌∙◌, append_assoc, arith, length-append, false, Result, Ok, Err, is_ok, IsOk, OnOk, IfErr}
use Rattle.std.proofs.lemmas.List.{append-nil, take-append-le}
use Rattle.hv_io.specs.Bytes.{Seen}
use Rattle.hv_io.specs.Putting.{TookAll, Stopped, Underway}
use Rattle.hv_io.specs.Printing.{Printing, HasPrinted, Prints, blank}
use Rattle.hv_io.specs.declared.writing.PutAll.{PutAll}
use Rattle.hv_io.proofs.Putting.{underway_all, underway_part, takes_none}

-- more is put that is not handed over after a fault
pub stopped_more : (start : Seen) (text more : List ℕ) (now : Seen) (cause : PutAll) → Stopped start text now cause → Stopped start (text ++ more) now cause
stopped_more start text more now cause s =
    let within : s.sent ≤ length text = s.within in
    record {
      sent = s.sent;
      within = omega (arith, length-append {A = ℕ});
      taken = rw take-append-le s.taken;
      counted = s.counted;
    }

-- more is held back
pub underway_more : (start : Seen) (text more : List ℕ) (now : Seen) (rest : List ℕ) → Underway start text now rest → Underway start (text ++ more) now (rest ++ more)
underway_more start text more now rest u = record {
  out = u.out;
  whole = sym (append_assoc u.out rest more) ∙ ap (λ xs. xs ++ more) u.whole;
  took = u.took;
}

-- holding bytes back puts them
pub hold_prints : (start : Seen) (text more : List ℕ) (now : Seen) (pending : List ℕ) (outcome : Result (Unit {0}) PutAll)
    → HasPrinted start text now (record { pending = pending; outcome = outcome }) → HasPrinted start (text ++ more) now (record { pending = pending ++ more; outcome = outcome })
hold_prints start text more now pending (Ok done) h = record { going = underway_more start text more now pending h.going; stopped = tt }
hold_prints start text more now pending (Err cause) h = record { going = tt; stopped = stopped_more start text more now cause h.stopped }

-- what is put after a fault changes nothing
pub fault_prints : (start : Seen) (text more : List ℕ) (now : Seen) (pending : List ℕ) (outcome : Result (Unit {0}) PutAll) → is_ok outcome ≡ false
    → HasPrinted start text now (record { pending = pending; outcome = outcome }) → HasPrinted start (text ++ more) now (record { pending = pending; outcome = outcome })
fault_prints start text more now pending (Ok done) e h = cc
fault_prints start text more now pending (Err cause) e h = record { going = tt; stopped = stopped_more start text more now cause h.stopped }

-- handing over what was held back leaves the text as it is
pub flush_prints : (start : Seen) (text : List ℕ) (now after : Seen) (pending : List ℕ) (outcome result : Result (Unit {0}) PutAll) → IsOk outcome
    → OnOk result (TookAll now pending after) → IfErr result (λ cause. Stopped now pending after cause)
    → HasPrinted start text now (record { pending = pending; outcome = outcome }) → HasPrinted start text after (record { pending = []; outcome = result })
flush_prints start text now after pending (Ok done) (Ok end) ok all part h = record { going = underway_all start text now after pending h.going all; stopped = tt }
flush_prints start text now after pending (Ok done) (Err cause) ok all part h = record { going = tt; stopped = underway_part start text now after pending cause h.going part }
flush_prints start text now after pending (Err cause) result ok all part h = cc

-- all but the rest was put
pub record PutSoFar (before : Seen) (old : Printing) (bytes : List ℕ) (now : Seen) (printer : Printing) (rest : List ℕ) : Type 0 where
  pub front : List ℕ
  pub whole : front ++ rest ≡ bytes
  pub prints : Prints front before old now printer
  pub stays : is_ok old.outcome ≡ false → (now ≡ before) × (printer ≡ old)

-- a text to which nothing is added
pub prints_none : (start : Seen) (text : List ℕ) (now : Seen) (printer : Printing) → HasPrinted start text now printer → HasPrinted start (text ++ []) now printer
prints_none start text now printer h = rw append-nil h

pub so_far_start : (before : Seen) (old : Printing) (bytes : List ℕ) → PutSoFar before old bytes before old bytes
so_far_start before old bytes = record {
  front = [];
  whole = refl;
  prints = λ start text h. prints_none start text before old h;
  stays = λ _. (refl, refl);
}

-- the next piece was held back, and all that was held back handed over
pub so_far_next : (before : Seen) (old : Printing) (bytes : List ℕ) (now after : Seen) (printer held new : Printing) (rest head tail : List ℕ)
    → PutSoFar before old bytes now printer rest → head ++ tail ≡ rest → IsOk printer.outcome → held ≡ record printer { pending = printer.pending ++ head }
    → ((start : Seen) (text : List ℕ) → HasPrinted start text now held → HasPrinted start text after new)
    → PutSoFar before old bytes after new tail
so_far_next before old bytes now after printer held new rest head tail s cut ok is flush = record {
  front = s.front ++ head;
  whole = append_assoc s.front head tail ∙ ap (λ xs. s.front ++ xs) cut ∙ s.whole;
  prints = λ start text h. rw (← append_assoc text s.front head)
      (flush start _ (rw is (hold_prints start (text ++ s.front) head now printer.pending printer.outcome (s.prints start text h))));
  stays = λ failed. let same : printer.outcome ≡ old.outcome = ap (λ p. p.outcome) (s.stays failed).1 in cc;
}

-- what was put since nothing was
pub printed_whole : (start : Seen) (old : Printing) (text : List ℕ) (now : Seen) (printer : Printing) → Prints text start old now printer → old ≡ blank → HasPrinted start text now printer
printed_whole start old text now printer p is =
    let none : TookAll start [] start = record { taken = takes_none start.taken start.taken refl; faults = refl; zeros = refl } in
    let empty : HasPrinted start [] start blank = record { going = record { out = []; whole = refl; took = none }; stopped = tt } in
    p start [] (rw is empty)
