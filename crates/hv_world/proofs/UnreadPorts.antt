-- Ports that come back having read and written nothing.
use Rattle.std.proofs.Common.{◌≡◌, ℕ, ◌+◌, inl, inr, refl, ap, ◌∙◌, arith, append-nil}
use Rattle.hv_dev.specs.Reading.{Back, came_back, counted_more, unread, went}
use Rattle.hv_world.specs.World.{ports_out}
use Rattle.hv_world.specs.Unused.{CountStands, IsUnused}

-- a count stands where nothing is added to it
count_stands : (before now : ℕ) → CountStands before now → CountStands before (counted_more now 0)
count_stands before now (inl same) = inr (omega (arith, same))
count_stands before now (inr capped) = inr (omega (arith, capped))

-- none went
pub unused_none : {File : Type 0} (b : Back File) → IsUnused b b
unused_none b = record { out = refl; faults = inl refl; submits = inl refl; most = refl; landings = refl }

-- one of those that are out came back
pub unused_back : {File : Type 0} (before b : Back File) (n : ℕ) → IsUnused (ports_out (n + 1) before) b → IsUnused (ports_out n before) (came_back b (unread File 1) 0)
unused_back before b n was =
    let out : b.out ≡ before.out + (n + 1) = was.out in
    let most : b.most ≡ before.most = was.most in
    record {
      out = omega (arith, out);
      faults = count_stands before.faults b.faults was.faults;
      submits = count_stands before.submits b.submits was.submits;
      most = omega (arith, most);
      landings = append-nil b.landings ∙ was.landings;
    }

-- none is left out
pub unused_all : {File : Type 0} (before b : Back File) (n : ℕ) → n ≡ 0 → IsUnused (ports_out n before) b → IsUnused before b
unused_all before b n none was =
    let out : b.out ≡ before.out + n = was.out in
    record { out = omega (arith, out, none); faults = was.faults; submits = was.submits; most = was.most; landings = was.landings }

-- none is out, and one more
pub out_none : {File : Type 0} (b : Back File) → b ≡ ports_out 0 b
out_none {File} b = ap (λ (out : ℕ). let back : Back File = record { faults = b.faults; submits = b.submits; most = b.most; landings = b.landings; out = out } in back) (let same : b.out ≡ b.out + 0 = omega arith in same)

pub out_more : {File : Type 0} (b : Back File) (n : ℕ) → went (ports_out n b) ≡ ports_out (n + 1) b
out_more {File} b n = ap (λ (out : ℕ). let back : Back File = record { faults = b.faults; submits = b.submits; most = b.most; landings = b.landings; out = out } in back) (let same : b.out + n + 1 ≡ b.out + (n + 1) = omega arith in same)

-- a device with so many ports out stands as an unused one does
pub unused_out : {File : Type 0} (b now : Back File) → now ≡ b → IsUnused b now
unused_out b now same = rw same (unused_none b)
