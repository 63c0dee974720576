-- `woven`: an event moves from those that are left to the order.
use Rattle.std.proofs.Common.{◌<◌, length, arith, rules}
use Rattle.std.proofs.lemmas.List.Sorted.{IsPermutation-more}
use Rattle.weave.specs.Row.{happenings}
use Rattle.weave.proofs.order.woven.Goals as goal

pub loop-preserved : goal.loop-preserved
loop-preserved c =
    let lt : c.unwrap_or.result < length (happenings c.loop.left) = search rules in
    let moved = IsPermutation-more _ _ _ _ _ lt c.remove.ensures.taken c.loop.invariant.same in
    record { left = omega arith; placed = omega arith; same = rw c.remove.ensures.value (rw c.push.ensures.value moved) }
