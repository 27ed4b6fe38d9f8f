use Rattle.laws_drivers.proofs.control.Ordering.{actions_go_behind, neighbours_change_places, orders_leave_one, orders_leave_the_ends}
use Rattle.laws_drivers.proofs.control.laws.orders_change.Goals as goal

pub returns : goal.returns
returns c = record { one = orders_leave_one; neighbours = neighbours_change_places; behind = actions_go_behind; ends = orders_leave_the_ends }
