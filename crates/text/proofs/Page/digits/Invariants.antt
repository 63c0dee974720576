use Rattle.std.proofs.Common.{◌≡◌, ◌≤◌}
use Rattle.text.specs.Laying.{digits_in}
use Rattle.text.specs.Lent.{shown}
use Rattle.text.specs.Page.{typed}
use Rattle.text.proofs.Page.digits.Given as goal

-- the digits that are left out would not be written
abbrev pub invariant-loop-left : goal.invariant-loop-left
invariant-loop-left g l = (typed (shown l.self) (digits_in g.row.BASE l._left l.rest) ≡ typed (shown l.self) (digits_in g.row.BASE l.k l.n)) × (l.fits ≤ l._left)
