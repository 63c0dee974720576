-- Document 01, 'Event log': the bytes of the configuration and of each event, and what is promised of a buffer to which they are appended.
use Rattle.std.specs.Prelude.{ℕ, ◌≡◌, Bool, true, ◌&&◌, cond, List, [], ◌∷◌, ◌++◌, length, drop, leb, Option, Some, None, Result, Ok, Err}
use Rattle.time.specs.declared.Time.{Time}
use Rattle.time.specs.declared.Duration.{Duration}
use Rattle.wire.specs.declared.Identity.{Identity}
use Rattle.octets.specs.Bytes.{spell}
use Rattle.record.specs.declared.Config.{Config}
use Rattle.record.specs.declared.Context.{Context}
use Rattle.record.specs.declared.Mechanism.{Mechanism}
use Rattle.record.specs.declared.NewState.{NewState}
use Rattle.rules.specs.Events.{Event, event, general, stamp, sync_timer, delay_timer, filter_answer, set_state}
use Rattle.writing.specs.declared.WriteError.{WriteError}

-- a field: a one-byte tag, a two-byte length, the value
unfoldable pub field_bytes : ℕ → List ℕ → List ℕ
field_bytes tag v = tag ∷ spell 2 (length v) ++ v

-- ---- values

abbrev pub time_bytes : Time → List ℕ
time_bytes t = spell 8 t.hi ++ spell 8 t.lo

abbrev pub duration_bytes : Duration → List ℕ
duration_bytes d = spell 8 d.hi ++ spell 8 d.lo

abbrev pub identity_bytes : Identity → List ℕ
identity_bytes i = spell 8 i.clock ++ spell 2 i.port

-- kind, id, and for kind 3 an identity
unfoldable pub context_bytes : Context → List ℕ
context_bytes (Context.Sync id) = 0 ∷ spell 2 id
context_bytes (Context.DelayReq id) = 1 ∷ spell 2 id
context_bytes (Context.PDelayReq id) = 2 ∷ spell 2 id
context_bytes (Context.PDelayResp id who) = 3 ∷ spell 2 id ++ identity_bytes who

-- 0 Listening, 1 Master, 2 Passive, 3 Faulty, 4 Slave and an identity
unfoldable pub state_bytes : NewState → List ℕ
state_bytes NewState.Listening = 0 ∷ []
state_bytes NewState.Master = 1 ∷ []
state_bytes NewState.Passive = 2 ∷ []
state_bytes NewState.Faulty = 3 ∷ []
state_bytes (NewState.Slave master) = 4 ∷ identity_bytes master

-- fields that may be left out
unfoldable pub mean_bytes : Option Duration → List ℕ
mean_bytes None = []
mean_bytes (Some d) = field_bytes 5 (duration_bytes d)

unfoldable pub next_bytes : Option ℕ → List ℕ
next_bytes None = []
next_bytes (Some ns) = field_bytes 6 (spell 8 ns)

abbrev pub mechanism_byte : Mechanism → ℕ
mechanism_byte Mechanism.EndToEnd = 0
mechanism_byte Mechanism.Peer = 1

-- ---- the outer fields

unfoldable pub config_bytes : Config → List ℕ
config_bytes c =
    field_bytes 0x0F
    (identity_bytes c.identity ++ (spell 2 c.sdo ++ (c.domain ∷ c.minor ∷ mechanism_byte c.mechanism ∷ c.delay_interval ∷ c.sync_interval ∷ duration_bytes c.asymmetry)))

unfoldable pub event_bytes : Event → List ℕ
event_bytes (event t m) = field_bytes 0x10 (field_bytes 1 (time_bytes t) ++ field_bytes 2 m)
event_bytes (general m) = field_bytes 0x11 (field_bytes 2 m)
event_bytes (stamp t c) = field_bytes 0x12 (field_bytes 1 (time_bytes t) ++ field_bytes 3 (context_bytes c))
event_bytes sync_timer = field_bytes 0x13 []
event_bytes (delay_timer draw) = field_bytes 0x14 (field_bytes 4 (spell 8 draw))
event_bytes (filter_answer u) = field_bytes 0x15 (mean_bytes u.mean_delay ++ next_bytes u.next_update)
event_bytes (set_state s) = field_bytes 0x16 (field_bytes 7 (state_bytes s))

-- a message has 1024 bytes or less; every other value has room in its field by its type
abbrev pub recordable : Event → Bool
recordable (event t m) = leb (length m) 1024
recordable (general m) = leb (length m) 1024
recordable (stamp t c) = true
recordable sync_timer = true
recordable (delay_timer draw) = true
recordable (filter_answer u) = true
recordable (set_state s) = true

-- ---- appending

-- what is answered for w, and a buffer of so many bytes
unfoldable pub appended : Bool → List ℕ → ℕ → Result ℕ WriteError
appended fits w room = cond fits (cond (leb (length w) room) (Ok (length w)) (Err WriteError.Short)) (Err WriteError.Unfit)

-- w at the front, and behind it what lay there; or all as it was
unfoldable pub left_after : Bool → List ℕ → List ℕ → List ℕ
left_after fits w d = cond (fits && leb (length w) (length d)) (w ++ drop (length w) d) d

-- the promise: d is the buffer, r the answer and d' what is left in the buffer
abbrev pub Appends : Bool → List ℕ → List ℕ → Result ℕ WriteError → List ℕ → Type 0
Appends fits w d r d' = (r ≡ appended fits w (length d)) × (d' ≡ left_after fits w d)

abbrev pub Records : Event → List ℕ → Result ℕ WriteError → List ℕ → Type 0
Records e d r d' = Appends (recordable e) (event_bytes e) d r d'
