use Rattle.std.proofs.Common.{length}
use Rattle.playing.proofs.WrittenLaws.{Flushed}
use Rattle.playing.proofs.flush.Given as goal

abbrev pub invariant-loop-rest : goal.invariant-loop-rest
invariant-loop-rest g l = Flushed (g.W.Write.contents l.fn.to) (g.W.Write.contents l.to) l.lines l.rest

abbrev pub decreases-loop-rest : goal.decreases-loop-rest
decreases-loop-rest g l = length l.rest
