use Rattle.wire.specs.Layout.{timestamp_at}
use Rattle.wire.proofs.fields.get_timestamp.Goals as goal

pub returns : goal.returns
unfolding timestamp_at
returns c = simp (c.get.ensures.0, c.get_u32.ensures)
