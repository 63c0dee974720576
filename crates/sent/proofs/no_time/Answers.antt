use Rattle.std.proofs.Common.{refl}
use Rattle.sent.specs.Messages.{zero_timestamp}
use Rattle.sent.proofs.no_time.Goals as goal

pub returns : goal.returns
unfolding zero_timestamp
returns c = refl
