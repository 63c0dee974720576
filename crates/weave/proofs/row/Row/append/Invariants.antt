use Rattle.std.proofs.Common.{◌≡◌, ◌+◌, ◌++◌, take}
use Rattle.weave.specs.Row.{happenings}
use Rattle.weave.proofs.row.Row.append.Given as goal

abbrev pub invariant-loop-event : goal.invariant-loop-event
invariant-loop-event l = record {
  count : l.self.count ≡ l.initial.self.count + l.event-index;
  value : happenings l.self ≡ happenings l.initial.self ++ take l.event-index l.event-items;
}
