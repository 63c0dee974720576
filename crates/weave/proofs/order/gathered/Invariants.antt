use Rattle.std.proofs.Common.{◌≡◌, ◌+◌, ◌++◌, [], drop}
use Rattle.weave.specs.Gathering.{gathered_of}
use Rattle.weave.specs.Row.{happenings}
use Rattle.weave.proofs.order.gathered.Given as goal

abbrev pub invariant-loop-event : goal.invariant-loop-event
invariant-loop-event l = record {
  count : l.order.count + l.syncs.count + l.request.count ≡ l.event-index;
  value : happenings l.order ++ gathered_of (drop l.event-index l.event-items) (happenings l.syncs) (happenings l.request) ≡ gathered_of l.event-items [] [];
}
