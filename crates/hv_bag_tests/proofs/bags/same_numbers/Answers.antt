use Rattle.hv_bag.proofs.Orders.{int_ties}
use Rattle.hv_bag_tests.proofs.bags.same_numbers.Goals as goal

pub same_rows-requires : goal.same_rows-requires
same_rows-requires c = int_ties
