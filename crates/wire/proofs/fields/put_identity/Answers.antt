use Rattle.wire.specs.Layout.{identity_entries}
use Rattle.octets.specs.Bytes.{puts}
use Rattle.wire.proofs.fields.put_identity.Goals as goal

pub returns : goal.returns
unfolding puts identity_entries
returns c = simp (c.put_u16.ensures, c.put.ensures)
