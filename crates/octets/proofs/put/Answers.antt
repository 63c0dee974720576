use Rattle.std.proofs.Common.{◌≡◌, ◌∙◌, arith}
use Rattle.octets.proofs.BytesLaws.{put_next, put_zero}
use Rattle.octets.proofs.put.Goals as goal

pub loop-i-preserved : goal.loop-i-preserved
loop-i-preserved c =
    let q = c.loop-i in
    put_next c.args.at q.i q.v q.buf (omega arith) ∙ q.invariant

pub returns : goal.returns
returns c =
    let q = c.loop-i in
    let e : q.i ≡ 0 = omega arith in
    cc (put_zero c.args.at q.v q.buf)
