use Rattle.std.proofs.Common.{◌^◌, ◌<◌, ◌≡◌}
use Rattle.octets.specs.Bytes.{number}
use Rattle.octets.proofs.get.Given as goal

abbrev pub invariant-loop-byte : goal.invariant-loop-byte
invariant-loop-byte l = (l.r ≡ number l.at l.byte-index l.s) × (l.r < 256 ^ l.byte-index)
