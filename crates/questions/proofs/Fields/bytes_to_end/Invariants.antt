-- `bytes_to_end`: each byte so far is spelled by its two digits, and the next digits are the next byte's.
use Rattle.std.proofs.Common.{◌≡◌, ℕ, ◌+◌, ◌*◌, ◌<◌, drop, length, slice_index}
use Rattle.questions.specs.Digits.{byte_at}
use Rattle.questions.proofs.Fields.bytes_to_end.Given as goal

abbrev pub invariant-loop-byte : goal.invariant-loop-byte
invariant-loop-byte g l = record {
  whole : length l.byte-items ≡ g.row.N;
  spelled : (k : ℕ) → k < l.byte-index → slice_index l.byte-items k ≡ byte_at l.fn.self.rest.now (1 + 2 * k);
  next : l.self.rest.now ≡ drop (1 + 2 * l.byte-index) l.fn.self.rest.now;
}
