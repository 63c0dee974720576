-- What the laws of proofs/LayoutLaws.antt speak of.
use Rattle.std.specs.Prelude.{◌^◌, ◌≤◌, ◌<◌}
use Rattle.wire.specs.declared.Identity.{Identity}
use Rattle.wire.specs.declared.Header.{Header}
use Rattle.wire.specs.declared.MessageType.{MessageType}
use Rattle.wire.specs.Layout.{row}

-- ---- the types

-- the bounds of a row: a type number has four bits, control a byte, the length two; and each message has room for its timestamp
pub record RowBounds (t : MessageType) : Type 0 where
  pub number : (row t).number < 16
  pub control : (row t).control < 256
  pub length : (row t).length < 2 ^ 16
  pub stamped : 44 ≤ (row t).length

-- ---- what is read of bytes has the widths of its places

pub record InWidths (i : Identity) : Type 0 where
  pub clock : i.clock < 2 ^ 64
  pub port : i.port < 2 ^ 16

pub record HeaderWidths (h : Header) : Type 0 where
  pub major : h.major_sdo < 16
  pub minor : h.minor < 16
  pub domain : h.domain < 256
  pub minor_sdo : h.minor_sdo < 256
  pub flags : h.flags < 2 ^ 16
  pub correction : h.correction < 2 ^ 64
  pub source : InWidths h.source
  pub id : h.id < 2 ^ 16
  pub interval : h.interval < 256
