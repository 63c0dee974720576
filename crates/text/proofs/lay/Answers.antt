use Rattle.std.proofs.Common.{◌≡◌, ◌∙◌, sym, arith, length-set}
use Rattle.text.proofs.LayingLaws.{digits_next, digits_laid}
use Rattle.text.proofs.lay.Goals as goal

pub loop-i-preserved : goal.loop-i-preserved
loop-i-preserved g c =
    let q = c.loop-i in
    (digits_next g.row.BASE q.i q.m _ q.out (omega arith) (omega arith) c.glyph.ensures ∙ q.invariant.0, simp length-set q.invariant.1)

pub returns : goal.returns
returns g c =
    let q = c.loop-i in
    let e : q.i ≡ 0 = omega arith in
    sym (digits_laid g.row.BASE q.m q.out) ∙ rw e at q.invariant.0
