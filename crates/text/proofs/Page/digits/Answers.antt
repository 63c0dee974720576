use Rattle.std.proofs.Common.{◌≡◌, ◌∙◌, refl, sym, arith}
use Rattle.text.specs.Laying.{digits_in}
use Rattle.text.specs.Lent.{shown}
use Rattle.text.proofs.LayingLaws.{digits_cut, digits_fit, typed_full}
use Rattle.text.proofs.Page.digits.Goals as goal

pub loop-left-preserved : goal.loop-left-preserved
loop-left-preserved g c =
    let q = c.loop-left in
    (sym (digits_cut (shown c.args.self.now) g.row.BASE q._left q.rest (omega arith) (omega arith)) ∙ q.invariant.0, omega arith)

pub returns-else-self : goal.returns-else-self
returns-else-self g c = (sym (typed_full (shown c.args.self.now) (digits_in g.row.BASE c.args.k c.args.n) (omega arith)), refl)

pub returns-after-loop-left : goal.returns-after-loop-left
returns-after-loop-left g c =
    let q = c.loop-left in
    let e : q._left ≡ c.min-fits.result = omega arith in
    let p = c.args.self.now in
    let f = digits_fit p.buffer.now c.lay.new.out p.at g.row.BASE c.min-fits.result q.rest (omega arith) c.lay.ensures in
    (f ∙ rw e at q.invariant.0, refl)
