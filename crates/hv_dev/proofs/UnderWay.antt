-- The steps of a port.
use Rattle.std.proofs.Common.{◌≡◌, ℕ, Bool, ◌+◌, ◌<◌, List, ◌∷◌, ◌++◌, length, take, drop, get_or, add-one}
use Rattle.std.proofs.Math.Seq.{split_at}
use Rattle.hv_dev.specs.Reading.{Flight, Reading, Reaps}
use Rattle.hv_dev.specs.Reads.{Taken, Ends}
use Rattle.hv_dev.specs.declared.port.Reaped.{Reaped}

-- the reads under way around the one that is taken out
pub around : {A : Type 0} (all : List A) (at : ℕ) (one : A) → at < length all → one ≡ get_or all at one → all ≡ take at all ++ one ∷ drop (at + 1) all
around all at one within is = rw (add-one) (let h = split_at all at one within in rw (← is) at h)

-- a read that was taken out of those under way and ended was reaped
pub reaps : {File : Type 0} (tells : Bool) (pages : File → List (List ℕ)) (before after : Reading File) (flight : Flight File) (it : Reaped)
    → Taken before.in_flight after.in_flight flight → after.room ≡ before.room → after.submits ≡ before.submits → after.most ≡ before.most
    → Ends tells pages flight before.landings after.landings before.read_faults after.read_faults it
    → Reaps tells pages before after it.tag it.frame it.landed
reaps tells pages before after flight it taken room submits most ends = record {
  front = taken.front;
  flight = flight;
  back = taken.back;
  were = taken.were;
  are = taken.are;
  called = ends.called;
  owner = ends.owner;
  number = ends.number;
  room = room;
  submits = submits;
  most = most;
  brought = ends.brought;
  true_page = ends.true_page;
  lost = ends.lost;
}
