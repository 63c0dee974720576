use Rattle.std.proofs.Common.{◌≡◌, ◌+◌, ◌++◌, IsPermutation}
use Rattle.weave.specs.Row.{happenings}
use Rattle.weave.proofs.order.woven.Given as goal

abbrev pub invariant-loop : goal.invariant-loop
invariant-loop l = record {
  left : l.counter + l.left.count ≡ l.block.events.count;
  placed : l.order.count ≡ l.counter;
  same : IsPermutation (happenings l.block.events) (happenings l.order ++ happenings l.left);
}
