use Rattle.std.proofs.Common.{◌≡◌, Some, None, sym}
use Rattle.std.specs.declared.cmp.Ordering.TheVariants.{Less, Equal, Greater}
use Rattle.signal_plans.specs.Merging.{next_order}
use Rattle.signal_plans.proofs.DifferenceSteps.{in_order_after, after_less, after_greater, after_equal, at_the_end}
use Rattle.signal_plans.proofs.comparing.differences_of.Goals as goal

pub loop-order-preserved-in-Less : goal.loop-order-preserved-in-Less
loop-order-preserved-in-Less c =
    let before = c.loop-order.invariant in
    let order : next_order c.loop-order.first.now c.loop-order.second.now ≡ Some Less = cc in
    record {
      first = in_order_after c.loop-order.first.now _ c.after_first-first.ensures before.first;
      second = before.second;
      so_far = after_less c.args.first.now c.args.second.now c.loop-order.first.now
          c.loop-order.second.now _ _ _ c.loop-order.differences.items _ order before.first
          before.second c.index-first-0.is c.in_ok-clone-in-Less.ensures.cases
          c.after_first-first.ensures c.in_ok-push-in-Less.ensures.items before.so_far;
    }

pub loop-order-preserved-in-Greater : goal.loop-order-preserved-in-Greater
loop-order-preserved-in-Greater c =
    let before = c.loop-order.invariant in
    let order : next_order c.loop-order.first.now c.loop-order.second.now ≡ Some Greater = cc in
    record {
      first = before.first;
      second = in_order_after c.loop-order.second.now _ c.after_first-second.ensures before.second;
      so_far = after_greater c.args.first.now c.args.second.now c.loop-order.first.now
          c.loop-order.second.now _ _ _ c.loop-order.differences.items _ order before.first
          before.second c.index-second-0.is c.in_ok-clone-in-Greater.ensures.cases
          c.after_first-second.ensures c.in_ok-push-in-Greater.ensures.items before.so_far;
    }

pub loop-order-preserved : goal.loop-order-preserved
loop-order-preserved c =
    let before = c.loop-order.invariant in
    let order : next_order c.loop-order.first.now c.loop-order.second.now ≡ Some Equal = cc in
    record {
      first = in_order_after c.loop-order.first.now _ c.after_first-first-in-Equal.ensures
          before.first;
      second = in_order_after c.loop-order.second.now _ c.after_first-second-in-Equal.ensures
          before.second;
      so_far = after_equal c.args.first.now c.args.second.now c.loop-order.first.now
          c.loop-order.second.now _ _ _ _ c.loop-order.differences.items _ order before.first
          before.second c.index-first-0-in-Equal.is c.index-second-0-in-Equal.is
          c.after_first-first-in-Equal.ensures c.after_first-second-in-Equal.ensures
          c.in_ok-push_changed-in-Equal.ensures before.so_far;
    }

pub returns : goal.returns
returns c =
    let none : next_order c.loop-order.first.now c.loop-order.second.now ≡ None =
    sym c.in_default.ensures in
    at_the_end c.args.first.now c.args.second.now c.loop-order.first.now c.loop-order.second.now
    c.loop-order.differences.items none c.loop-order.invariant.so_far
