use Rattle.std.proofs.Common.{◌∙◌, ap, drop, rules}
use Rattle.octets.specs.Bytes.{puts}
use Rattle.wire.specs.Layout.{header_entries}
use Rattle.wire.proofs.LayoutLaws.{header_written}
use Rattle.writing.proofs.headers.write_header.Goals as goal

pub returns : goal.returns
returns c =
    let a = c.args in
    c.write_back.ensures
    ∙ ap (puts (drop 7 (header_entries a.h a.control))) c.write_front.ensures
    ∙ header_written a.h a.control a.packet.now (search rules)
