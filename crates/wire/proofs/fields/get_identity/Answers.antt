use Rattle.wire.specs.Layout.{identity_at}
use Rattle.wire.proofs.fields.get_identity.Goals as goal

pub returns : goal.returns
unfolding identity_at
returns c = simp (c.get_u64.ensures, c.get_u16.ensures)
