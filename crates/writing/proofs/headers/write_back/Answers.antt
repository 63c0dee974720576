use Rattle.wire.specs.Layout.{header_entries, identity_entries}
use Rattle.octets.specs.Bytes.{puts}
use Rattle.writing.proofs.headers.write_back.Goals as goal

pub returns : goal.returns
unfolding puts header_entries identity_entries
returns c = cc
