use Rattle.wire.specs.Layout.{header_entries}
use Rattle.octets.specs.Bytes.{puts}
use Rattle.writing.proofs.headers.write_front.Goals as goal

pub returns : goal.returns
unfolding puts header_entries
returns c = cc
