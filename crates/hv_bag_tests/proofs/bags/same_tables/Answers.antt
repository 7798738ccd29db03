use Rattle.hv_bag_tests.proofs.Rows.{row_ties}
use Rattle.hv_bag_tests.proofs.bags.same_tables.Goals as goal

pub same_rows-requires : goal.same_rows-requires
same_rows-requires c = row_ties
