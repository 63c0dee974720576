use Rattle.std.proofs.Common.{◌+◌, ◌*◌, ◌≤◌}
use Rattle.weave.proofs.making.Block.add_syncs.Given as goal

abbrev pub invariant-loop : goal.invariant-loop
invariant-loop l = (l.initial.self.events.count ≤ l.self.events.count) × (l.self.events.count ≤ l.initial.self.events.count + 2 * l.counter)
