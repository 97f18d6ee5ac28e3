use Rattle.std.proofs.Common.{◌≡◌, take}
use Rattle.office_desk_cabinet.proofs.ShowingLemmas.{open_among}
use Rattle.office_desk_cabinet.proofs.showing.open_numbers.Given as goal

abbrev pub invariant-loop-order : goal.invariant-loop-order
invariant-loop-order l = l.numbers.items ≡ open_among (take l.order-index l.orders)
