-- A run and its quote twice are the next part; a rest without a quote is the last.
use Rattle.std.proofs.Common.{◌≡◌, sym, None, rules}
use Rattle.std.specs.Prelude.{position}
use Rattle.hv_report.proofs.PrintedParts.{printed_next, printed_last, prints_two}
use Rattle.hv_report.proofs.Quotes.{is_quote, quoted_run, unquoted}
use Rattle.hv_report.proofs.writing.print_quoted.Goals as goal

pub loop-at-preserved : goal.loop-at-preserved
loop-at-preserved g c =
    let run = quoted_run c.in-Some.at c.loop-at.rest.now (sym c.in-Some.ensures.place) in
    let put = rw c.split_at.ensures.front at c.put.ensures.prints in
    record {
      within = search rules;
      printed = rw c.split_at.ensures.back (printed_next _ _ _ _ _ _ _ _ _ _ c.loop-at.invariant.printed run (prints_two _ _ _ _ _ _ _ _ put c.put-in-Some.ensures.prints));
    }

pub returns : goal.returns
returns g c =
    let none : position is_quote c.loop-at.rest.now ≡ None = cc in
    printed_last _ _ _ _ _ _ _ _ _ c.loop-at.invariant.printed (unquoted _ none) c.put-2.ensures.prints
