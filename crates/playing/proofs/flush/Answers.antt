use Rattle.playing.proofs.WrittenLaws.{flushed_more}
use Rattle.playing.proofs.flush.Goals as goal

pub loop-rest-preserved : goal.loop-rest-preserved
loop-rest-preserved g c = flushed_more _ _ _ _ c.loop-rest.rest.now _ c.loop-rest.invariant c.in_ok-n.ensures.bytes
