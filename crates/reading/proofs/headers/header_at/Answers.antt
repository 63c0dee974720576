use Rattle.wire.specs.Layout.{header_of}
use Rattle.reading.proofs.headers.header_at.Goals as goal

pub returns : goal.returns
unfolding header_of
returns c = simp (c.get_u8-3.ensures, c.get_u16-3.ensures, c.get_u64.ensures, c.get_u16-2.ensures, c.get_u8-2.ensures, c.get_u8.ensures, c.get_u16.ensures, c.get_identity-source.ensures, c.get_u8-second.ensures, c.get_u8-first.ensures)
