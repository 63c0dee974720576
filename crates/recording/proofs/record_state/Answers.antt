use Rattle.std.proofs.Common.{◌+◌, refl, arith}
use Rattle.std.proofs.lemmas.Grind.{common_steps}
use Rattle.recording.proofs.RecordingLaws.{appends_short, length-set_state, length_field}
use Rattle.recording.proofs.LayingLaws.{appends_typed, typed_field}
use Rattle.recording.specs.Recording.{event_bytes}
use Rattle.recording.proofs.record_state.Goals as goal

pub returns-then-out-size : goal.returns-then-out-size
returns-then-out-size c = appends_short _ _ (6 + c.state_size-n.result) (omega (arith, length-set_state c.args.state)) _ refl (omega (arith, c.if-out-size.true))

pub returns : goal.returns
unfolding event_bytes
returns c =
    appends_typed _ _ _ _ c.state.new.page.at _ refl (omega (arith, length-set_state c.args.state)) (omega (arith, c.if-out-size.false))
    (grind (arith, common_steps, typed_field, length_field))
