use Rattle.std.proofs.Common.{◌≡◌, ◌+◌}
use Rattle.weave.proofs.making.Block.add_exchange.Given as goal

abbrev pub invariant-loop-what : goal.invariant-loop-what
invariant-loop-what l = l.self.events.count ≡ l.initial.self.events.count + l.what-index
