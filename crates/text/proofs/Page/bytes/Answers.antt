use Rattle.std.proofs.Common.{refl, arith, get_or}
use Rattle.text.specs.Digits.{hex_of}
use Rattle.text.specs.PageLaws.{typed_append}
use Rattle.text.proofs.LayingLaws.{hex_of_more, hex_two}
use Rattle.text.proofs.Page.bytes.Goals as goal

pub loop-byte-init : goal.loop-byte-init
unfolding hex_of
loop-byte-init c = (refl, refl)

pub loop-byte-preserved : goal.loop-byte-preserved
loop-byte-preserved c =
    let q = c.loop-byte in
    let e = hex_two (get_or c.args.s.now q.byte-index 0) (omega arith) in
    (rw (hex_of_more c.args.s.now q.byte-index c.loop-byte-test.true, e, typed_append) (cc), cc)
