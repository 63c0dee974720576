use Rattle.std.proofs.Common.{◌≡◌, ◌+◌}
use Rattle.weave.proofs.making.Block.add_others.Given as goal

abbrev pub invariant-loop : goal.invariant-loop
invariant-loop l = l.self.events.count ≡ l.initial.self.events.count + l.counter
