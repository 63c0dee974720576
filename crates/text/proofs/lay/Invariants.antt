use Rattle.std.proofs.Common.{◌≡◌, ◌++◌, drop, length}
use Rattle.text.specs.Laying.{digits_in}
use Rattle.text.proofs.lay.Given as goal

-- what is left to lay, before what is laid, is all of it
abbrev pub invariant-loop-i : goal.invariant-loop-i
invariant-loop-i g l = (digits_in g.row.BASE l.i l.m ++ drop l.i l.out ≡ digits_in g.row.BASE (length l.initial.out) l.n) × (length l.out ≡ length l.initial.out)
