-- What is known of a record and of an event beforehand, because code holds its numbers in so many bits: a message's list holds bytes, a record's and a context's numbers have room on the wire.
use Rattle.std.specs.Prelude.{◌^◌, ◌<◌}
use Rattle.octets.specs.Bytes.{Bytes}
use Rattle.wire.specs.LayoutLaws.{InWidths}
use Rattle.rules.specs.Names.{Context, Port}
use Rattle.rules.specs.Events.{Event, event, general, stamp, sync_timer, delay_timer, filter_answer, set_state}

abbrev pub BytesIn : Event → Type 0
BytesIn (event at message) = Bytes message
BytesIn (general message) = Bytes message
BytesIn (stamp at context) = Unit {0}
BytesIn sync_timer = Unit {0}
BytesIn (delay_timer draw) = Unit {0}
BytesIn (filter_answer update) = Unit {0}
BytesIn (set_state new) = Unit {0}

abbrev pub StampIn : Context → Type 0
StampIn (Context.Sync id) = id < 2 ^ 16
StampIn (Context.DelayReq id) = id < 2 ^ 16
StampIn (Context.PDelayReq id) = id < 2 ^ 16
StampIn (Context.PDelayResp id requester) = (id < 2 ^ 16) × InWidths requester

abbrev pub ContextIn : Event → Type 0
ContextIn (event at message) = Unit {0}
ContextIn (general message) = Unit {0}
ContextIn (stamp at context) = StampIn context
ContextIn sync_timer = Unit {0}
ContextIn (delay_timer draw) = Unit {0}
ContextIn (filter_answer update) = Unit {0}
ContextIn (set_state new) = Unit {0}

-- of a record, what its messages carry
pub record PortIn (p : Port) : Type 0 where
  pub domain : p.config.domain < 256
  pub identity : InWidths p.config.identity
  pub sync_interval : p.config.sync_interval < 256
  pub delay_interval : p.config.delay_interval < 256
  pub sync_id : p.ids.sync < 2 ^ 16
  pub delay_id : p.ids.delay < 2 ^ 16
  pub peer_id : p.ids.peer < 2 ^ 16

pub record InTypes (p : Port) (e : Event) : Type 0 where
  pub port : PortIn p
  pub context : ContextIn e
  pub bytes : BytesIn e
