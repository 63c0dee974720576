use Rattle.std.proofs.Common.{refl, ◌∙◌, arith}
use Rattle.replaying.proofs.TurnLaws.{going_start, under_place, under_read, under_on, under_ahead, under_stops, under_full}
use Rattle.replaying.proofs.turn.Goals as goal

pub loop-out-init : goal.loop-out-init
loop-out-init c = (record { same_style = refl; same_window = refl; same_last = refl; going = going_start _ _ _ _ _ }, refl)

pub overflow_sub-out : goal.overflow_sub-out
overflow_sub-out c = under_place _ _ _ _ _ _ _ c.loop-out.invariant.0

pub step-requires-clause-read_in_bounds : goal.step-requires-clause-read_in_bounds
step-requires-clause-read_in_bounds c = under_read _ _ _ _ _ _ _ c.loop-out.invariant.0

pub loop-out-smaller : goal.loop-out-smaller
loop-out-smaller c = omega (arith, under_ahead _ _ _ _ _ _ _ c.loop-out.invariant.0 _ _ (c.in_default.ensures))

pub loop-out-preserved : goal.loop-out-preserved
loop-out-preserved c =
    (under_on _ _ _ _ _ _ _ c.loop-out.invariant.0 _ _ (c.in_default.ensures) (omega (arith, c.loop-out-test.true)), c.step.auto.packet ∙ c.loop-out.invariant.1)

pub returns-in-Some-clause-turned : goal.returns-in-Some-clause-turned
returns-in-Some-clause-turned c =
    (under_stops _ _ _ _ _ _ _ c.loop-out.invariant.0 _ _ _ _ (c.in-Some.ensures) (omega (arith, c.loop-out-test.true)) c.end.ensures).0

pub returns-in-Some-clause-leaves : goal.returns-in-Some-clause-leaves
returns-in-Some-clause-leaves c =
    (under_stops _ _ _ _ _ _ _ c.loop-out.invariant.0 _ _ _ _ (c.in-Some.ensures) (omega (arith, c.loop-out-test.true)) c.end.ensures).1

pub returns-clause-turned : goal.returns-clause-turned
returns-clause-turned c = (under_full _ _ _ _ _ _ _ c.loop-out.invariant.0 _ (omega (arith, c.loop-out-test.false)) c.end-2.ensures).0

pub returns-clause-leaves : goal.returns-clause-leaves
returns-clause-leaves c = (under_full _ _ _ _ _ _ _ c.loop-out.invariant.0 _ (omega (arith, c.loop-out-test.false)) c.end-2.ensures).1
