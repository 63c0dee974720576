use Rattle.std.proofs.Common.{arith}
use Rattle.std.proofs.lemmas.Grind.{common_steps}
use Rattle.text.specs.PageLaws.{typed_append}
use Rattle.recording.proofs.RecordingLaws.{appends_short, appends_unfit, short_message, long_message, length-event, length_timed}
use Rattle.recording.proofs.LayingLaws.{appends_typed, typed_field}
use Rattle.recording.specs.Recording.{event_bytes}
use Rattle.recording.proofs.record_event.Goals as goal

pub returns-then-n-gt-LONGEST : goal.returns-then-n-gt-LONGEST
returns-then-n-gt-LONGEST c = appends_unfit _ _ _ (long_message _ _ c.if-n-gt-LONGEST.true (omega arith))

pub returns-then-out-size : goal.returns-then-out-size
returns-then-out-size c = appends_short _ _ _ (length-event _ _) _ (short_message _ _ c.if-n-gt-LONGEST.false (omega arith)) (omega (arith, c.if-out-size.true))

pub returns : goal.returns
unfolding event_bytes
returns c =
    appends_typed _ _ _ _ c.message.new.page.at _ (short_message _ _ c.if-n-gt-LONGEST.false (omega arith)) (length-event _ _) (omega (arith, c.if-out-size.false))
    (grind (arith, common_steps, typed_append, typed_field, length_timed))
