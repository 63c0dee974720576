-- `gathered`: by its value each event comes out once or waits.
use Rattle.std.proofs.Common.{◌≡◌, [], arith}
use Rattle.std.proofs.lemmas.Grind.{common_steps}
use Rattle.weave.proofs.GatheringLaws.{gathered_is}
use Rattle.weave.proofs.order.gathered.Goals as goal
use Rattle.weave.specs.Gathering.{gathered_of}
use Rattle.weave.specs.Row.{happenings}

pub returns-clause-each_once : goal.returns-clause-each_once
returns-clause-each_once c =
    let value : happenings c.loop-event.order ≡ gathered_of (happenings c.args.given.now) [] [] = grind (arith, common_steps) in
    rw value (gathered_is _)
