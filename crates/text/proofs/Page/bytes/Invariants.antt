use Rattle.std.proofs.Common.{take}
use Rattle.text.specs.Digits.{hex_of}
use Rattle.text.specs.Lent.{Writes}
use Rattle.text.proofs.Page.bytes.Given as goal

abbrev pub invariant-loop-byte : goal.invariant-loop-byte
invariant-loop-byte l = Writes l.initial.page (hex_of (take l.byte-index l.s)) l.page
