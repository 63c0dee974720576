use Rattle.std.proofs.Common.{◌+◌, refl, arith}
use Rattle.std.proofs.lemmas.Grind.{common_steps}
use Rattle.text.specs.PageLaws.{typed_append}
use Rattle.recording.proofs.RecordingLaws.{appends_short, length-stamp, length_timed}
use Rattle.recording.proofs.LayingLaws.{appends_typed, typed_field}
use Rattle.recording.specs.Recording.{event_bytes}
use Rattle.recording.proofs.record_stamp.Goals as goal

pub returns-then-out-size : goal.returns-then-out-size
returns-then-out-size c = appends_short _ _ (25 + c.context_size-n.result) (omega (arith, length-stamp c.args.timestamp c.args.context)) _ refl (omega (arith, c.if-out-size.true))

pub returns : goal.returns
unfolding event_bytes
returns c =
    appends_typed _ _ _ _ c.context.new.page.at _ refl (omega (arith, length-stamp c.args.timestamp c.args.context)) (omega (arith, c.if-out-size.false))
    (grind (arith, common_steps, typed_append, typed_field, length_timed))
