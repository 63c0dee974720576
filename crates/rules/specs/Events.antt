-- What the port is told, and what it answers.
use Rattle.std.specs.Prelude.{ℕ, ◌≡◌, Bool, false, List, [], ◌∷◌, ◌++◌, length, drop, Option, Some, None, Ok}
use Rattle.rules.specs.Names.{Config, Header, Body, Time, Message, Port, Context, FilterUpdate, NewState, Outcome, Action, Measurement, Received, Reading}
use Rattle.wire.specs.Layout.{message_bytes}
use Rattle.reading.specs.Reading.{read_of}
use Rattle.rules.specs.Worked.{Worked, worked, refused}

-- the seven events, as the event log has them
pub data Event : Type 0 where
  event : Time → List ℕ → Event  -- a message on the event entry, with its receive time
  general : List ℕ → Event  -- a message on the general entry
  stamp : Time → Context → Event  -- a send stamp
  sync_timer : Event
  delay_timer : ℕ → Event  -- with its draw
  filter_answer : FilterUpdate → Event
  set_state : NewState → Event

-- how the port reads a message, on both entries
abbrev pub reading : Config → List ℕ → Reading
reading c message = read_of message

-- bytes that an event brings, by either entry, and what they read as
abbrev pub Brings : Config → Event → Header → Body → Time → Type 0
Brings c (event at message) h b t = reading c message ≡ Ok (Received.Message h b t)
Brings c (general message) h b t = reading c message ≡ Ok (Received.Message h b t)
Brings c (stamp at context) h b t = ⊥
Brings c sync_timer h b t = ⊥
Brings c (delay_timer draw) h b t = ⊥
Brings c (filter_answer update) h b t = ⊥
Brings c (set_state new) h b t = ⊥

-- what a rule gives: the record, perhaps a measurement, perhaps a message to send, actions in their order, and whether the filter is reset
pub record Done : Type 0 where
  pub port : Port
  pub measurement : Option Measurement
  pub message : Option Message
  pub actions : List Action
  pub reset : Bool

-- what is answered; `sent` is the packet, empty if nothing is sent
pub record Answered : Type 0 where
  pub outcome : Outcome
  pub port : Port
  pub measurement : Option Measurement
  pub sent : List ℕ
  pub actions : List Action
  pub reset : Bool

abbrev pub packet : Option Message → List ℕ
packet None = []
packet (Some m) = message_bytes m.header m.body

-- a refusal: the record that was found, and nothing beside it
abbrev pub refusal : Outcome → Port → Answered
refusal o p = record { outcome = o; port = p; measurement = None; sent = []; actions = []; reset = false }

-- the buffer as it is left: the packet at the front, and behind it what lay there; where nothing is sent, and so with every refusal, all as it was
unfoldable pub buffer_after : Answered → List ℕ → List ℕ
buffer_after r l = r.sent ++ drop (length r.sent) l

abbrev pub answered : Port → Worked Done → Answered
answered p (worked d) =
    record { outcome = Outcome.Taken; port = d.port; measurement = d.measurement; sent = packet d.message; actions = d.actions; reset = d.reset }
answered p (refused o) = refusal o p

-- ---- what a rule gives, made of its parts: nothing but the record, with or without a reset; timers; a message that is sent, its packet's action behind those of timers

abbrev pub changed : Port → Bool → Done
changed p reset = record { port = p; measurement = None; message = None; actions = []; reset = reset }

abbrev pub timed : Port → List Action → Done
timed p timers = record { port = p; measurement = None; message = None; actions = timers; reset = false }

abbrev pub sending : Port → List Action → Message → Action → Done
sending p timers m packet_action =
    record { port = p; measurement = None; message = Some m; actions = timers ++ (packet_action ∷ []); reset = false }

-- nothing, not even to the record
abbrev pub nothing : Port → Worked Done
nothing p = worked (changed p false)
