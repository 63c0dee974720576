use Rattle.std.proofs.Common.{take}
use Rattle.text.specs.Lent.{Writes}
use Rattle.text.proofs.Page.copy.Given as goal

abbrev pub invariant-loop-byte : goal.invariant-loop-byte
invariant-loop-byte l = Writes l.initial.page (take l.byte-index l.s) l.page
