use Rattle.std.proofs.Common.{◌≡◌, ◌-◌, length}
use Rattle.replaying.specs.TurnLaws.{Underway}
use Rattle.replaying.proofs.turn.Given as goal

abbrev pub invariant-loop-out : goal.invariant-loop-out
invariant-loop-out l = Underway l.fn.style l.fn.q l.s l.last l.initial.out l.turn l.out × (length l.packet ≡ 128)

abbrev pub decreases-loop-out : goal.decreases-loop-out
decreases-loop-out l = length l.s - l.turn.read
