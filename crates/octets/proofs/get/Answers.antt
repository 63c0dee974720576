use Rattle.std.proofs.Common.{◌≡◌, ◌+◌, ◌<◌, arith, rules, get_or}
use Rattle.std.proofs.lemmas.Grind.{common_steps}
use Rattle.octets.proofs.BytesLaws.{room, grow, number_next, number_zero}
use Rattle.octets.proofs.get.Goals as goal

pub loop-byte-init : goal.loop-byte-init
loop-byte-init c = (number_zero _ _, search rules)

pub overflow_mul-r : goal.overflow_mul-r
overflow_mul-r c =
    let q = c.loop-byte in
    let h = room q.r q.byte-index 0 q.invariant.1 (omega arith) (omega arith) in
    omega arith

pub overflow_add-r : goal.overflow_add-r
overflow_add-r c =
    let q = c.loop-byte in
    let k : q.byte-index < 8 = omega arith in
    let b : c.from.result < 256 = grind (arith, common_steps, c.type_inv.s (c.args.at + q.byte-index)) in
    let h = room q.r q.byte-index c.from.result q.invariant.1 k b in
    omega arith

pub loop-byte-preserved : goal.loop-byte-preserved
loop-byte-preserved c =
    let q = c.loop-byte in
    let b : c.from.result < 256 = grind (arith, common_steps, c.type_inv.s (c.args.at + q.byte-index)) in
    let e : c.from.result ≡ get_or c.args.s.now (c.args.at + q.byte-index) 0 = grind (arith, common_steps) in
    (cc (number_next c.args.at q.byte-index c.args.s.now), grow q.r q.byte-index c.from.result q.invariant.1 b)
