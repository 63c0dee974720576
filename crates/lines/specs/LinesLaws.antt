-- Laws of lines: how long they are at most. A buffer with that much room takes a line whole.
use Rattle.std.specs.Prelude.{ℕ, ◌+◌, ◌*◌, ◌≤◌, Bool, true, false, List, [], ◌∷◌, ◌++◌, length, Option, Some, None}
use Rattle.std.proofs.Common.{arith, length-append}
use Rattle.wire.specs.declared.Identity.{Identity}
use Rattle.record.specs.declared.Action.{Action}
use Rattle.record.specs.declared.Context.{Context}
use Rattle.record.specs.declared.Exchange.{Exchange}
use Rattle.record.specs.declared.Ids.{Ids}
use Rattle.record.specs.declared.Outcome.{Outcome}
use Rattle.record.specs.declared.PeerState.{PeerState}
use Rattle.record.specs.declared.Port.{Port}
use Rattle.record.specs.declared.PortState.{PortState}
use Rattle.record.specs.Answers.{number_of}
use Rattle.record.specs.Record.{state_number}
use Rattle.text.specs.Digits.{decimal_of, decimal_in, hex_in}
use Rattle.text.specs.DigitsLaws.{length_decimal, length_hex, length-hex_of}
use Rattle.lines.specs.declared.Style.{Style}
use Rattle.lines.specs.declared.Shown.{Shown}
use Rattle.lines.specs.Lines.{following, joined_by, maybe_time, maybe_duration, maybe_identity, identity_text, shown_of, context_text, link_text, action_text, actions_text, sent_text, reset_text, trace_texts, line_with, bad_line, exchange_text, peer_text, slave_texts, ids_text, end_line, last_line}
use Rattle.time.specs.declared.Time.{Time}
use Rattle.time.specs.declared.Duration.{Duration}
use Rattle.record.specs.declared.Measurement.{Measurement}

-- ---- sums of lengths

-- one text more, with its mark
short_behind : (mark : ℕ) (x : List ℕ) (xs : List (List ℕ)) {m n : ℕ} → length x ≤ m → length (following mark xs) ≤ n → length (following mark (x ∷ xs)) ≤ 1 + m + n
short_behind mark x xs h k = omega (arith, length-append x (following mark xs), h, k)

short_nothing : (mark : ℕ) → length (following mark []) ≤ 0
short_nothing mark = omega arith

-- ---- values

short_decimal : (n : ℕ) → length (decimal_of n) ≤ 20
short_decimal n = length_decimal 20 n

short_words : (hi lo : ℕ) → length (hex_in 16 hi ++ hex_in 16 lo) ≤ 32
short_words hi lo = omega (arith, length-append (hex_in 16 hi) (hex_in 16 lo), length_hex 16 hi, length_hex 16 lo)

short_identity : (i : Identity) → length (identity_text i) ≤ 20
short_identity i = omega (arith, length-append (hex_in 16 i.clock) (hex_in 4 i.port), length_hex 16 i.clock, length_hex 4 i.port)

short_time : (t : Option Time) → length (maybe_time t) ≤ 32
unfolding maybe_time
short_time None = omega arith
short_time (Some t) = short_words t.hi t.lo

short_duration : (d : Option Duration) → length (maybe_duration d) ≤ 32
unfolding maybe_duration
short_duration None = omega arith
short_duration (Some d) = short_words d.hi d.lo

short_maybe : (i : Option Identity) → length (maybe_identity i) ≤ 20
unfolding maybe_identity
short_maybe None = omega arith
short_maybe (Some i) = short_identity i

-- ---- actions

short_context : (c : Context) → length (context_text c) ≤ 43
unfolding context_text
short_context (Context.Sync id) = omega (arith, short_decimal id)
short_context (Context.DelayReq id) = omega (arith, short_decimal id)
short_context (Context.PDelayReq id) = omega (arith, short_decimal id)
short_context (Context.PDelayResp id who) = omega (arith, length-append (decimal_of id) (58 ∷ identity_text who), short_decimal id, short_identity who)

short_link : (b : Bool) → length (link_text b) ≤ 5
unfolding link_text
short_link true = omega arith
short_link false = omega arith

short_action : (a : Action) → length (action_text a) ≤ 54
unfolding action_text
short_action Action.None = omega arith
short_action (Action.ResetSyncTimer ns) = omega (arith, short_decimal ns)
short_action (Action.ResetDelayRequestTimer ns) = omega (arith, short_decimal ns)
short_action (Action.ResetFilterUpdateTimer ns) = omega (arith, short_decimal ns)
short_action (Action.SendEvent c b) = omega (arith, length-append (context_text c) (link_text b), short_context c, short_link b)
short_action (Action.SendGeneral b) = omega (arith, short_link b)

short_actions : (as' : List Action) → length as' ≤ 2 → length (actions_text as') ≤ 109
short_actions [] h = omega arith
short_actions (a ∷ []) h = omega (arith, length-append (action_text a) [], short_action a)
short_actions (a ∷ b ∷ []) h =
    omega (arith, length-append (action_text a) (following 44 (action_text b ∷ [])), length-append (action_text b) [], short_action a, short_action b)
short_actions (a ∷ b ∷ c ∷ more) h = absurd (omega (arith, h))

-- ---- the line of an event

short_sent : (s : List ℕ) → length (sent_text s) ≤ 1 + 2 * length s
short_sent [] = omega arith
short_sent (b ∷ s) = omega (arith, length-hex_of (b ∷ s))

short_reset : (b : Bool) → length (reset_text b) ≤ 5
unfolding reset_text
short_reset true = omega arith
short_reset false = omega arith

-- what stands behind the event's number
short_replay : (o : Outcome) (m : Shown) (more : List (List ℕ)) {n : ℕ} → length (following 32 more) ≤ n
    → length (following 32 (decimal_of (number_of o) ∷ (m.letter ∷ []) ∷ maybe_duration m.value ∷ more)) ≤ 56 + n
short_replay o m more h =
    let value = short_behind 32 (maybe_duration m.value) more (short_duration m.value) h in
    omega (arith, length-append (decimal_of (number_of o)) (following 32 ((m.letter ∷ []) ∷ maybe_duration m.value ∷ more)), short_decimal (number_of o), value)

short_trace : (m : Shown) (sent : List ℕ) (as' : List Action) (reset : Bool) → length as' ≤ 2
    → length (following 32 (trace_texts m sent as' reset)) ≤ 217 + 2 * length sent
short_trace m sent as' reset h =
    let r = short_behind 32 (reset_text reset) [] (short_reset reset) (short_nothing 32) in
    let a = short_behind 32 (actions_text as') (reset_text reset ∷ []) (short_actions as' h) r in
    let s = short_behind 32 (sent_text sent) (actions_text as' ∷ reset_text reset ∷ []) (short_sent sent) a in
    let d = short_behind 32 (maybe_duration m.delay) (sent_text sent ∷ actions_text as' ∷ reset_text reset ∷ []) (short_duration m.delay) s in
    let o = short_behind 32 (maybe_duration m.offset) (maybe_duration m.delay ∷ sent_text sent ∷ actions_text as' ∷ reset_text reset ∷ []) (short_duration m.offset) d in
    let t = short_behind 32 (maybe_time m.time) (maybe_duration m.offset ∷ maybe_duration m.delay ∷ sent_text sent ∷ actions_text as' ∷ reset_text reset ∷ []) (short_time m.time) o in
    omega (arith, t)

-- a row of which all but the first text is known to be short
short_row : (n : ℕ) (more : List (List ℕ)) {k : ℕ} → length (following 32 more) ≤ k → length (joined_by 32 (decimal_of n) more ++ (10 ∷ [])) ≤ 21 + k
short_row n more h =
    omega (arith, length-append (joined_by 32 (decimal_of n) more) (10 ∷ []), length-append (decimal_of n) (following 32 more), short_decimal n, h)

pub line_short : (style : Style) (n : ℕ) (o : Outcome) (m : Option Measurement) (sent : List ℕ) (as' : List Action) (reset : Bool)
    → length as' ≤ 2 → length (line_with style n o m sent as' reset) ≤ 512 + 2 * length sent
unfolding line_with
line_short Style.Replay n o m sent as' reset h =
    let r = short_replay o (shown_of m) [] (short_nothing 32) in
    let all = short_row n (decimal_of (number_of o) ∷ ((shown_of m).letter ∷ []) ∷ maybe_duration (shown_of m).value ∷ []) r in
    omega (arith, all)
line_short Style.Trace n o m sent as' reset h =
    let more = trace_texts (shown_of m) sent as' reset in
    let r = short_replay o (shown_of m) more (short_trace (shown_of m) sent as' reset h) in
    let all = short_row n (decimal_of (number_of o) ∷ ((shown_of m).letter ∷ []) ∷ maybe_duration (shown_of m).value ∷ more) r in
    omega (arith, all)

-- ---- the last line

pub bad_short : (n : ℕ) → length (bad_line n) ≤ 512
unfolding bad_line
bad_short n = omega (arith, length-append (decimal_of n) (10 ∷ []), short_decimal n)

short_exchange : (x : Exchange) → length (exchange_text x) ≤ 86
unfolding exchange_text
short_exchange Exchange.Empty = omega arith
short_exchange (Exchange.Measuring id send receive) =
    let r = short_behind 58 (maybe_time receive) [] (short_time receive) (short_nothing 58) in
    let s = short_behind 58 (maybe_time send) (maybe_time receive ∷ []) (short_time send) r in
    omega (arith, length-append (decimal_of id) (following 58 (maybe_time send ∷ maybe_time receive ∷ [])), short_decimal id, s)

short_peer : (x : PeerState) → length (peer_text x) ≤ 178
unfolding peer_text
short_peer PeerState.Empty = omega arith
short_peer (PeerState.Measuring id who a b c d) =
    let d' = short_behind 58 (maybe_time d) [] (short_time d) (short_nothing 58) in
    let c' = short_behind 58 (maybe_time c) (maybe_time d ∷ []) (short_time c) d' in
    let b' = short_behind 58 (maybe_time b) (maybe_time c ∷ maybe_time d ∷ []) (short_time b) c' in
    let a' = short_behind 58 (maybe_time a) (maybe_time b ∷ maybe_time c ∷ maybe_time d ∷ []) (short_time a) b' in
    let w = short_behind 58 (maybe_identity who) (maybe_time a ∷ maybe_time b ∷ maybe_time c ∷ maybe_time d ∷ []) (short_maybe who) a' in
    let i = short_behind 58 (decimal_of id) (maybe_identity who ∷ maybe_time a ∷ maybe_time b ∷ maybe_time c ∷ maybe_time d ∷ []) (short_decimal id) w in
    omega (arith, i)
short_peer (PeerState.Measured id who) =
    let w = short_behind 58 (identity_text who) [] (short_identity who) (short_nothing 58) in
    let i = short_behind 58 (decimal_of id) (identity_text who ∷ []) (short_decimal id) w in
    omega (arith, i)

short_ids : (i : Ids) → length (ids_text i) ≤ 62
short_ids i =
    let p = short_behind 58 (decimal_of i.peer) [] (short_decimal i.peer) (short_nothing 58) in
    let d = short_behind 58 (decimal_of i.delay) (decimal_of i.peer ∷ []) (short_decimal i.delay) p in
    omega (arith, length-append (decimal_of i.sync) (following 58 (decimal_of i.delay ∷ decimal_of i.peer ∷ [])), short_decimal i.sync, d)

-- a state's number is one digit
short_number : (s : PortState) → length (decimal_of (state_number s)) ≤ 1
unfolding decimal_in
short_number PortState.Listening = omega arith
short_number PortState.Master = omega arith
short_number PortState.Passive = omega arith
short_number PortState.Faulty = omega arith
short_number (PortState.Slave s) = omega arith

short_slave : (s : PortState) (more : List (List ℕ)) {n : ℕ} → length (following 32 more) ≤ n → length (following 32 (slave_texts s ++ more)) ≤ 228 + n
unfolding slave_texts
short_slave PortState.Listening more h = omega (arith, h)
short_slave PortState.Master more h = omega (arith, h)
short_slave PortState.Passive more h = omega (arith, h)
short_slave PortState.Faulty more h = omega (arith, h)
short_slave (PortState.Slave s) more h =
    let r = short_behind 32 (maybe_duration s.raw) more (short_duration s.raw) h in
    let d = short_behind 32 (exchange_text s.delay) (maybe_duration s.raw ∷ more) (short_exchange s.delay) r in
    let y = short_behind 32 (exchange_text s.sync) (exchange_text s.delay ∷ maybe_duration s.raw ∷ more) (short_exchange s.sync) d in
    let m = short_behind 32 (identity_text s.master) (exchange_text s.sync ∷ exchange_text s.delay ∷ maybe_duration s.raw ∷ more) (short_identity s.master) y in
    omega (arith, m)

short_end : (p : Port) → length (end_line p) ≤ 512
unfolding end_line
short_end p =
    let peer = peer_text p.peer in
    let i = short_behind 32 (ids_text p.ids) [] (short_ids p.ids) (short_nothing 32) in
    let m = short_behind 32 (maybe_duration p.mean) (ids_text p.ids ∷ []) (short_duration p.mean) i in
    let x = short_behind 32 peer (maybe_duration p.mean ∷ ids_text p.ids ∷ []) (short_peer p.peer) m in
    let s = short_slave p.state (peer ∷ maybe_duration p.mean ∷ ids_text p.ids ∷ []) x in
    let n = short_behind 32 (decimal_of (state_number p.state)) (slave_texts p.state ++ (peer ∷ maybe_duration p.mean ∷ ids_text p.ids ∷ [])) (short_number p.state) s in
    omega (arith, length-append (following 32 (decimal_of (state_number p.state) ∷ (slave_texts p.state ++ (peer ∷ maybe_duration p.mean ∷ ids_text p.ids ∷ [])))) (10 ∷ []), n)

pub last_short : (style : Style) (p : Port) → length (last_line style p) ≤ 512
unfolding last_line
last_short Style.Replay p = omega arith
last_short Style.Trace p = short_end p
