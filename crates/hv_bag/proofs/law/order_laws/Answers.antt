-- The laws, part by part.
use Rattle.hv_bag.proofs.Orders.{sorted_once, apart_from_order, list_ties}
use Rattle.hv_bag.proofs.law.order_laws.Goals as goal

pub returns : goal.returns
returns g c = record {
  sorted = sorted_once;
  apart = apart_from_order;
  lists = list_ties;
}
