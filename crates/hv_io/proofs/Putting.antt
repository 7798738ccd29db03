-- The steps of handing bytes over.
use Rattle.std.proofs.Common.{◌≡◌, ℕ, ◌+◌, List, [], subst, ◌++◌, length, take, drop, ap, sym, ◌∙◌, append_assoc, arith, length-append, Option, Some, None}
use Rattle.std.proofs.lemmas.List.{append-nil, take-append-drop}
use Rattle.std.proofs.Math.Seq.{take-append-add}
use Rattle.hv_io.specs.Bytes.{Takes, Seen}
use Rattle.hv_io.specs.Putting.{TookAll, Stopped, Underway, Counted}
use Rattle.hv_io.specs.declared.writing.PutAll.{PutAll}
use Rattle.hv_io.specs.declared.writing.PutAll.TheVariants.{Failed, Zero}

-- two pieces taken are one
pub takes_both : (before between now : Option (List ℕ)) (a b : List ℕ) → Takes before between a → Takes between now b → Takes before now (a ++ b)
takes_both None between now a b p q = tt
takes_both (Some bytes) between now a b p q = (rw p at q) ∙ ap Some (append_assoc bytes a b)

-- all that was taken, then all of a second piece
pub took_both : (start between now : Seen) (a b : List ℕ) → TookAll start a between → TookAll between b now → TookAll start (a ++ b) now
took_both start between now a b p q = record {
  taken = takes_both start.taken between.taken now.taken a b p.taken q.taken;
  faults = q.faults ∙ p.faults;
  zeros = q.zeros ∙ p.zeros;
}

-- a count that rises after counts were kept rose since then
pub counted_since : (cause : PutAll) (start between now : Seen) → between.faults ≡ start.faults → between.zeros ≡ start.zeros → Counted cause between now → Counted cause start now
counted_since Failed start between now f z c = ((rw f at c.0), c.1 ∙ z)
counted_since Zero start between now f z c = ((rw z at c.0), c.1 ∙ f)

-- all of the rest was taken
pub underway_all : (start : Seen) (bytes : List ℕ) (now after : Seen) (rest : List ℕ) → Underway start bytes now rest → TookAll now rest after → Underway start bytes after []
underway_all start bytes now after rest u t = record {
  out = u.out ++ rest;
  whole = append-nil (u.out ++ rest) ∙ u.whole;
  took = took_both start now after u.out rest u.took t;
}

-- the first n bytes of the rest were taken
pub underway_next : (start : Seen) (bytes : List ℕ) (now after : Seen) (rest : List ℕ) (n : ℕ) → Underway start bytes now rest
    → Takes now.taken after.taken (take n rest) → after.faults ≡ now.faults → after.zeros ≡ now.zeros → Underway start bytes after (drop n rest)
underway_next start bytes now after rest n u t f z = record {
  out = u.out ++ take n rest;
  whole = append_assoc u.out (take n rest) (drop n rest) ∙ ap (λ xs. u.out ++ xs) (take-append-drop n rest) ∙ u.whole;
  took = took_both start now after u.out (take n rest) u.took (record { taken = t; faults = f; zeros = z });
}

-- nothing is left to hand over
pub underway_done : (start : Seen) (bytes : List ℕ) (now : Seen) (rest : List ℕ) → rest ≡ [] → Underway start bytes now rest → TookAll start bytes now
underway_done start bytes now rest none u =
    let all : u.out ≡ bytes = sym (append-nil u.out) ∙ ap (λ xs. u.out ++ xs) (sym none) ∙ u.whole in
    let P : List ℕ → Type 0 = λ xs. TookAll start xs now in
    subst P all u.took

-- only a part of the rest was taken
pub underway_part : (start : Seen) (bytes : List ℕ) (now after : Seen) (rest : List ℕ) (cause : PutAll) → Underway start bytes now rest
    → Stopped now rest after cause → Stopped start bytes after cause
underway_part start bytes now after rest cause u s =
    let cut : take (length u.out + s.sent) bytes ≡ u.out ++ take s.sent rest = rw (← u.whole) (take-append-add u.out rest s.sent) in
    record {
      sent = length u.out + s.sent;
      within = omega (arith, ap length u.whole, length-append {A = ℕ}, s.within);
      taken = rw cut (takes_both start.taken now.taken after.taken u.out (take s.sent rest) u.took.taken s.taken);
      counted = counted_since cause start now after u.took.faults u.took.zeros s.counted;
    }

-- a write that took nothing
pub stops_at_once : (now after : Seen) (rest : List ℕ) (cause : PutAll) → Takes now.taken after.taken [] → Counted cause now after → Stopped now rest after cause
stops_at_once now after rest cause t c = record { sent = 0; within = omega arith; taken = t; counted = c }

-- what was taken is what was taken before
pub takes_none : (before now : Option (List ℕ)) → now ≡ before → Takes before now []
takes_none None now e = tt
takes_none (Some bytes) now e = e ∙ ap Some (sym (append-nil bytes))
