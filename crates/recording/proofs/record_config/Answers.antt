use Rattle.std.proofs.Common.{refl, arith}
use Rattle.std.proofs.lemmas.Grind.{common_steps}
use Rattle.text.specs.PageLaws.{typed_append}
use Rattle.recording.proofs.RecordingLaws.{appends_short, length_config, length-config_value}
use Rattle.recording.proofs.LayingLaws.{appends_typed, typed_field}
use Rattle.recording.specs.Recording.{config_bytes}
use Rattle.recording.proofs.record_config.Goals as goal

pub returns-then-out-lt36 : goal.returns-then-out-lt36
returns-then-out-lt36 c = appends_short _ _ 36 (length_config _) _ refl (omega (arith, c.if-out-lt36.true))

pub returns : goal.returns
unfolding config_bytes
returns c =
    appends_typed _ _ _ _ c.config.new.page.at 36 refl (length_config _) (omega (arith, c.if-out-lt36.false))
    (grind (arith, common_steps, typed_append, typed_field, length-config_value c.args.config))
