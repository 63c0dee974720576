use Rattle.std.proofs.Common.{refl}
use Rattle.wire.specs.Layout.{two_step}
use Rattle.wire.proofs.Header.is_two_step.Goals as goal

pub returns : goal.returns
unfolding two_step
returns c = refl
