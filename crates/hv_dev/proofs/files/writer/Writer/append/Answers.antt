-- The page went behind the file that was opened.
use Rattle.std.proofs.Common.{refl}
use Rattle.hv_dev.proofs.files.writer.Writer.append.Goals as goal

pub returns-in-Ok-clause-put : goal.returns-in-Ok-clause-put
returns-in-Ok-clause-put g c =
    record {
      before = c.in_ok-open.open;
      after = record { file = c.write_all-done.new.self; path = c.in_ok-open.open.path };
      goes_on = c.in_ok-open.ensures.same;
      stays = refl;
      named = c.in_ok-open.ensures.path;
      put = c.in-Ok.ensures.bytes;
    }
