-- Document 01, end of 'Event log': the line that a replay writes of an event, and the line at a bad field. Beside them the lines of `trace`, which show all of an answer and, at the end, of the record. Text is a list of ASCII numbers; single ones are 10 the newline, 32 the space, 44 the comma, 45 the dash, 58 the colon, 68 D, 80 P, 83 S.
use Rattle.std.specs.Prelude.{ℕ, Bool, true, false, List, [], ◌∷◌, ◌++◌, Option, Some, None}
use Rattle.time.specs.declared.Time.{Time}
use Rattle.time.specs.declared.Duration.{Duration}
use Rattle.wire.specs.declared.Identity.{Identity}
use Rattle.record.specs.declared.Action.{Action}
use Rattle.record.specs.declared.Answer.{Answer}
use Rattle.record.specs.declared.Context.{Context}
use Rattle.record.specs.declared.Exchange.{Exchange}
use Rattle.record.specs.declared.Ids.{Ids}
use Rattle.record.specs.declared.Measurement.{Measurement}
use Rattle.record.specs.declared.Outcome.{Outcome}
use Rattle.record.specs.declared.PeerState.{PeerState}
use Rattle.record.specs.declared.Port.{Port}
use Rattle.record.specs.declared.PortState.{PortState}
use Rattle.record.specs.Answers.{number_of, first_actions}
use Rattle.record.specs.Record.{state_number}
use Rattle.rules.specs.Events.{Answered}
use Rattle.text.specs.Ascii.{ascii}
use Rattle.text.specs.Digits.{decimal_of, hex_in, hex_of}
use Rattle.lines.specs.declared.Style.{Style}
use Rattle.lines.specs.declared.Shown.{Shown}

-- ---- values

-- what is not there
abbrev pub dash : List ℕ
dash = ascii "-"

-- 32 digits: the two words side by side, a duration's in two's complement
abbrev pub time_text : Time → List ℕ
time_text t = hex_in 16 t.hi ++ hex_in 16 t.lo

abbrev pub duration_text : Duration → List ℕ
duration_text d = hex_in 16 d.hi ++ hex_in 16 d.lo

-- 20 digits
abbrev pub identity_text : Identity → List ℕ
identity_text i = hex_in 16 i.clock ++ hex_in 4 i.port

unfoldable pub maybe_time : Option Time → List ℕ
maybe_time None = dash
maybe_time (Some t) = time_text t

unfoldable pub maybe_duration : Option Duration → List ℕ
maybe_duration None = dash
maybe_duration (Some d) = duration_text d

unfoldable pub maybe_identity : Option Identity → List ℕ
maybe_identity None = dash
maybe_identity (Some i) = identity_text i

-- texts one behind the other: a colon, a comma, a space before each
abbrev pub following : ℕ → List (List ℕ) → List ℕ
following mark [] = []
following mark (x ∷ xs) = mark ∷ x ++ following mark xs

-- the first, and each other behind a mark
abbrev pub joined_by : ℕ → List ℕ → List (List ℕ) → List ℕ
joined_by mark x xs = x ++ following mark xs

-- ---- a measurement: its letter, the raw (for P the halved) value, event time, offset and delay

unfoldable pub shown_of : Option Measurement → Shown
shown_of None =
    record { letter = 45; value = None; time = None; offset = None; delay = None }
shown_of (Some (Measurement.Sync t raw offset)) =
    record { letter = 83; value = Some raw; time = Some t; offset = offset; delay = None }
shown_of (Some (Measurement.Delay t raw delay)) =
    record { letter = 68; value = Some raw; time = Some t; offset = None; delay = delay }
shown_of (Some (Measurement.Peer t delay)) =
    record { letter = 80; value = Some delay; time = Some t; offset = None; delay = None }

-- ---- actions

-- kind and id, and a requester's identity
unfoldable pub context_text : Context → List ℕ
context_text (Context.Sync id) = ascii "0:" ++ decimal_of id
context_text (Context.DelayReq id) = ascii "1:" ++ decimal_of id
context_text (Context.PDelayReq id) = ascii "2:" ++ decimal_of id
context_text (Context.PDelayResp id who) = ascii "3:" ++ (decimal_of id ++ (58 ∷ identity_text who))

unfoldable pub link_text : Bool → List ℕ
link_text true = ascii ":link"
link_text false = []

unfoldable pub action_text : Action → List ℕ
action_text Action.None = dash
action_text (Action.ResetSyncTimer ns) = ascii "sync-timer:" ++ decimal_of ns
action_text (Action.ResetDelayRequestTimer ns) = ascii "delay-timer:" ++ decimal_of ns
action_text (Action.ResetFilterUpdateTimer ns) = ascii "filter-timer:" ++ decimal_of ns
action_text (Action.SendEvent context link) = ascii "event:" ++ (context_text context ++ link_text link)
action_text (Action.SendGeneral link) = ascii "general" ++ link_text link

abbrev pub action_texts : List Action → List (List ℕ)
action_texts [] = []
action_texts (a ∷ more) = action_text a ∷ action_texts more

-- in their order, joined by commas
abbrev pub actions_text : List Action → List ℕ
actions_text [] = dash
actions_text (a ∷ more) = joined_by 44 (action_text a) (action_texts more)

-- ---- the line of an event

-- the packet in hexadecimal
abbrev pub sent_text : List ℕ → List ℕ
sent_text [] = dash
sent_text (b ∷ s) = hex_of (b ∷ s)

unfoldable pub reset_text : Bool → List ℕ
reset_text true = ascii "reset"
reset_text false = dash

-- the event's number, the answer's, the letter and the value
abbrev pub replay_texts : ℕ → Outcome → Shown → List (List ℕ)
replay_texts n o m = decimal_of n ∷ decimal_of (number_of o) ∷ (m.letter ∷ []) ∷ maybe_duration m.value ∷ []

-- and all the rest of an answer
abbrev pub trace_texts : Shown → List ℕ → List Action → Bool → List (List ℕ)
trace_texts m sent as' reset =
    maybe_time m.time ∷ maybe_duration m.offset ∷ maybe_duration m.delay ∷ sent_text sent ∷ actions_text as' ∷ reset_text reset ∷ []

-- texts with a space between, and a newline
abbrev pub row : List (List ℕ) → List ℕ
row [] = 10 ∷ []
row (x ∷ xs) = joined_by 32 x xs ++ (10 ∷ [])

unfoldable pub line_with : Style → ℕ → Outcome → Option Measurement → List ℕ → List Action → Bool → List ℕ
line_with Style.Replay n o m sent as' reset = row (replay_texts n o (shown_of m))
line_with Style.Trace n o m sent as' reset = row (replay_texts n o (shown_of m) ++ trace_texts (shown_of m) sent as' reset)

-- of what `step` answers
abbrev pub line_of : Style → ℕ → Answered → List ℕ
line_of style n r = line_with style n r.outcome r.measurement r.sent r.actions r.reset

-- of an answer as the record holds it, with the packet's bytes
abbrev pub line_for : Style → ℕ → Answer → List ℕ → List ℕ
line_for style n a sent = line_with style n a.outcome a.measurement sent (first_actions a.count a.actions) a.reset

-- ---- the last line

unfoldable pub bad_line : ℕ → List ℕ
bad_line offset = ascii "bad at " ++ (decimal_of offset ++ (10 ∷ []))

unfoldable pub exchange_text : Exchange → List ℕ
exchange_text Exchange.Empty = dash
exchange_text (Exchange.Measuring id send receive) = joined_by 58 (decimal_of id) (maybe_time send ∷ maybe_time receive ∷ [])

unfoldable pub peer_text : PeerState → List ℕ
peer_text PeerState.Empty = dash
peer_text (PeerState.Measuring id who a b c d) =
    joined_by 58 (ascii "open")
    (decimal_of id ∷ maybe_identity who ∷ maybe_time a ∷ maybe_time b ∷ maybe_time c ∷ maybe_time d ∷ [])
peer_text (PeerState.Measured id who) = joined_by 58 (ascii "done") (decimal_of id ∷ identity_text who ∷ [])

-- the master, both exchanges and the raw offset, which only a Slave has
unfoldable pub slave_texts : PortState → List (List ℕ)
slave_texts PortState.Listening = dash ∷ dash ∷ dash ∷ dash ∷ []
slave_texts PortState.Master = dash ∷ dash ∷ dash ∷ dash ∷ []
slave_texts PortState.Passive = dash ∷ dash ∷ dash ∷ dash ∷ []
slave_texts PortState.Faulty = dash ∷ dash ∷ dash ∷ dash ∷ []
slave_texts (PortState.Slave s) =
    identity_text s.master ∷ exchange_text s.sync ∷ exchange_text s.delay ∷ maybe_duration s.raw ∷ []

abbrev pub ids_text : Ids → List ℕ
ids_text i = joined_by 58 (decimal_of i.sync) (decimal_of i.delay ∷ decimal_of i.peer ∷ [])

-- end STATE MASTER SYNC DELAY RAW PEER MEAN IDS
unfoldable pub end_line : Port → List ℕ
end_line p =
    row (ascii "end" ∷ decimal_of (state_number p.state) ∷ (slave_texts p.state ++ (peer_text p.peer ∷ maybe_duration p.mean ∷ ids_text p.ids ∷ [])))

-- what a good log ends with: `replay` writes nothing more
unfoldable pub last_line : Style → Port → List ℕ
last_line Style.Replay p = []
last_line Style.Trace p = end_line p
