-- `bytes`: each byte so far is spelled by its two digits.
use Rattle.std.proofs.Common.{◌≡◌, ℕ, ◌+◌, ◌*◌, ◌<◌, length, slice_index}
use Rattle.questions.specs.Digits.{byte_at}
use Rattle.questions.proofs.Fields.bytes.Given as goal

abbrev pub invariant-loop-i : goal.invariant-loop-i
invariant-loop-i g l = record {
  whole : length l.byte-items ≡ g.row.N;
  spelled : (k : ℕ) → k < l.i → slice_index l.byte-items k ≡ byte_at l.fn.self.rest.now (1 + 2 * k);
}
