use Rattle.std.proofs.Common.{refl, arith}
use Rattle.std.proofs.lemmas.Grind.{common_steps}
use Rattle.recording.proofs.RecordingLaws.{appends_short, length-sync_timer}
use Rattle.recording.proofs.LayingLaws.{appends_typed, typed_field}
use Rattle.recording.specs.Recording.{event_bytes}
use Rattle.recording.proofs.record_sync_timer.Goals as goal

pub returns-then-out-lt3 : goal.returns-then-out-lt3
returns-then-out-lt3 c = appends_short _ _ 3 length-sync_timer _ refl (omega (arith, c.if-out-lt3.true))

pub returns : goal.returns
unfolding event_bytes
returns c = appends_typed _ _ _ _ c.heading.new.page.at 3 refl length-sync_timer (omega (arith, c.if-out-lt3.false)) (grind (arith, common_steps, typed_field))
