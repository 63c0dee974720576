use Rattle.std.proofs.Common.{refl, arith}
use Rattle.std.proofs.lemmas.Grind.{common_steps}
use Rattle.text.specs.PageLaws.{typed_append}
use Rattle.recording.proofs.RecordingLaws.{appends_short, length_filter, length_filter_value}
use Rattle.recording.proofs.LayingLaws.{appends_typed, typed_field}
use Rattle.recording.specs.Recording.{event_bytes}
use Rattle.recording.proofs.record_filter_update.Goals as goal

pub returns-then-out-size : goal.returns-then-out-size
returns-then-out-size c = appends_short _ _ _ (length_filter _ _ _ c.mean_size.ensures.size c.next_size.ensures.size) _ refl (omega (arith, c.if-out-size.true))

pub returns : goal.returns
unfolding event_bytes
returns c =
    let mean = c.mean_size.ensures.size in
    let next = c.next_size.ensures.size in
    appends_typed _ _ _ _ c.next.new.page.at _ refl (length_filter _ _ _ mean next) (omega (arith, c.if-out-size.false))
    (grind (arith, common_steps, typed_append, typed_field, length_filter_value c.args.update _ _ mean next))
