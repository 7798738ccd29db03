use Rattle.std.proofs.Common.{◌≡◌, length, replicate, rules, ◌∙◌, arith}
use Rattle.hv_page.specs.Layout.{offsets}
use Rattle.hv_page.proofs.Making.{begun_is}
use Rattle.hv_page.proofs.layout.begin.Goals as goal

pub returns : goal.returns
unfolding offsets
returns c =
    let zero : c.fill.new.self ≡ replicate (length c.args.page.now) 0 = search rules in
    record {
      fit = omega arith;
      whole = begun_is c.args.kind c.args.number c.fill.new.self c.copy_from_slice.new.self c.copy_from_slice-2.new.self c.copy_from_slice-3.new.self (length c.args.page.now) 4096 zero c.requires (omega arith) c.copy_from_slice.ensures.after (c.copy_from_slice-2.ensures.after ∙ c.to_be_bytes.ensures) (c.copy_from_slice-3.ensures.after ∙ c.to_be_bytes-2.ensures);
    }
