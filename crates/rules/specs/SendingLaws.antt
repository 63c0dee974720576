-- What the laws of proofs/SendingLaws.antt speak of.
use Rattle.std.specs.Prelude.{◌≡◌, List, ◌++◌, Option}
use Rattle.rules.specs.Names.{Message, Config, Port, Action}
use Rattle.rules.specs.Events.{Event, Done, Answered, packet}
use Rattle.rules.specs.Sending.{Due, due, timers_in, timers_due, Sends}
use Rattle.rules.specs.Actions.{packet_for}

-- ---- by rule: its message, and the timers among its actions

pub record Does (c : Config) (x : Option Due) (timers : List Action) (d : Done) : Type 0 where
  pub message : Sends c x d.message
  pub set : timers_in d.actions ≡ timers

-- ---- a taken event

-- the message that is due, its bytes the packet, and its action behind the timers that are due
pub record IsSent (p : Port) (e : Event) (r : Answered) : Type 0 where
  pub message : Option Message
  pub as_due : Sends p.config (due p e) message
  pub bytes : r.sent ≡ packet message
  pub actions : r.actions ≡ timers_due p e ++ packet_for message
