use Rattle.std.proofs.Common.{◌≡◌}
use Rattle.octets.specs.Bytes.{put}
use Rattle.octets.proofs.put.Given as goal

abbrev pub invariant-loop-i : goal.invariant-loop-i
invariant-loop-i l = put l.at l.i l.v l.buf ≡ put l.at l.width l.value l.initial.buf
