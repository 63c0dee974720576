use Rattle.std.proofs.Common.{refl, arith}
use Rattle.std.proofs.lemmas.Grind.{common_steps}
use Rattle.recording.proofs.RecordingLaws.{appends_short, length-delay_timer, length_draw}
use Rattle.recording.proofs.LayingLaws.{appends_typed, typed_field, length_spelled}
use Rattle.recording.specs.Recording.{event_bytes}
use Rattle.recording.proofs.record_delay_timer.Goals as goal

pub returns-then-out-lt14 : goal.returns-then-out-lt14
returns-then-out-lt14 c = appends_short _ _ 14 (length-delay_timer _) _ refl (omega (arith, c.if-out-lt14.true))

pub returns : goal.returns
unfolding event_bytes
returns c =
    appends_typed _ _ _ _ c.long.new.page.at 14 refl (length-delay_timer _) (omega (arith, c.if-out-lt14.false))
    (grind (arith, common_steps, typed_field, length_spelled, length_draw))
