use Rattle.std.proofs.Common.{sym}
use Rattle.hv_bag.proofs.Compared.{same_iff, tested}
use Rattle.hv_bag.proofs.rows.same_rows.Goals as goal

pub returns : goal.returns
returns g c =
    let iff = same_iff g.T.Ord.cmp g.met.T.Ord.total c.requires (λ r. r.now) c.args.a.now c.args.b.now c.in_ok-left.left.items c.in_ok-right.right.items
    c.in_ok-left.ensures.permutation c.in_ok-left.ensures.sorted c.in_ok-right.ensures.permutation c.in_ok-right.ensures.sorted
    c.cmp.result (rw (sym c.as_slice.ensures.value, sym c.as_slice-2.ensures.value) c.cmp.ensures) in
    tested c.cmp.result c.eq.result iff c.eq.ensures
