-- What the laws of proofs/IeeeLaws.antt speak of.
use Rattle.std.specs.Prelude.{◌≡◌, ℤ, pos, ◌-ℤ◌, Option, Some, None}
use Rattle.time.specs.declared.WireTimestamp.{WireTimestamp}
use Rattle.time.specs.Units.{time, duration, correction}
use Rattle.record.specs.Record.{with_slave, with_sync, with_raw}
use Rattle.rules.specs.Names.{Time, Duration, Header, Exchange, SlaveState, Port, Measurement}
use Rattle.rules.specs.Events.{Answered}
use Rattle.rules.specs.Ieee.{WireFields, Syncs, sync_message, offset_from_master}

-- ---- what is measured: the raw offset is <offsetFromMaster> with no mean delay, and the offset that with the one that is stored

-- a duration is there, and is worth so much
abbrev pub IsWorth : Option Duration → ℤ → Type 0
IsWorth None z = ⊥
IsWorth (Some d) z = duration d ≡ z

pub record MeasuresOffset (p : Port) (s : SlaveState) (r : Answered) (m : Syncs) (t2 : ℤ) : Type 0 where
  pub event_time : Time
  pub raw : Duration
  pub offset : Option Duration
  pub measurement : r.measurement ≡ Some (Measurement.Sync event_time raw offset)
  pub event_time_is : time event_time ≡ t2 -ℤ correction (sync_message m).correction_field
  pub raw_is : duration raw ≡ offset_from_master (duration p.config.asymmetry) m t2 (pos 0)
  pub offset_is : (mean : Duration) → p.mean ≡ Some mean → IsWorth offset (offset_from_master (duration p.config.asymmetry) m t2 (duration mean))
  pub no_offset : p.mean ≡ None → offset ≡ None
  pub port : r.port ≡ with_slave p (with_raw (with_sync s Exchange.Empty) raw)

-- ---- the events, from the master

-- the fields of a message
abbrev pub wire_fields : Header → WireTimestamp → WireFields
wire_fields h w = record { timestamp = w; correction_field = h.correction }
