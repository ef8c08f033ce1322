use Rattle.hek_permute.specs.Moves.{first_order_from}
use Rattle.hek_permute.specs.Numbers.{all_orders}
use Rattle.hek_permute.proofs.Numbered.{are_all, numbered}
use Rattle.hek_permute.proofs.number.all_orders_are_numbered.Goals as goal

pub returns : goal.returns
returns c = λ counts. are_all (first_order_from 1 counts) (all_orders counts) (numbered counts)
