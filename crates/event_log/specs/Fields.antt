-- Document 01, 'Event log': a field is a one-byte tag, a two-byte length and a value; numbers are big-endian. What the outer fields hold. A field is given with its tag and length, so its value begins at place 3.
use Rattle.std.specs.Prelude.{ℕ, ◌+◌, Bool, ◌&&◌, cond, List, length, take, drop, ltb, leb, eqb, Option, Some, None}
use Rattle.time.specs.declared.Time.{Time}
use Rattle.time.specs.declared.Duration.{Duration}
use Rattle.octets.specs.Bytes.{number}
use Rattle.wire.specs.Layout.{identity_at}
use Rattle.record.specs.declared.Config.{Config}
use Rattle.record.specs.declared.Context.{Context}
use Rattle.record.specs.declared.Mechanism.{Mechanism}
use Rattle.record.specs.declared.NewState.{NewState}
use Rattle.rules.specs.Events.{Event, event, general, stamp, sync_timer, delay_timer, filter_answer, set_state}
use Rattle.event_log.specs.Told.{Field, Next}

-- ---- values of sixteen bytes: a time, and a duration in two's complement

unfoldable pub time_at : ℕ → List ℕ → Time
time_at at f = record { hi = number at 8 f; lo = number (at + 8) 8 f }

unfoldable pub duration_at : ℕ → List ℕ → Duration
duration_at at f = record { hi = number at 8 f; lo = number (at + 8) 8 f }

-- ---- inner fields

-- the inner field at a place, if it has this tag and lies within f: where its value starts, and how long it is
unfoldable pub inner_of : List ℕ → ℕ → ℕ → Option (ℕ × ℕ)
inner_of f at tag =
    cond (leb (at + 3 + number (at + 1) 2 f) (length f))
    (cond (eqb (number at 1 f) tag) (Some (at + 3, number (at + 1) 2 f)) None)
    None

-- a field that has to be there
abbrev pub needed : Option (ℕ × ℕ) → (ℕ → ℕ → Option Field) → Option Field
needed None k = None
needed (Some (a, n)) k = k a n

-- the same, of so many bytes
abbrev pub exactly : Option (ℕ × ℕ) → ℕ → (ℕ → Option Field) → Option Field
exactly None size k = None
exactly (Some (a, n)) size k = cond (eqb n size) (k a) None

-- a field of so many bytes that may be there; where it is not, what follows begins at the same place
abbrev pub perhaps : Option (ℕ × ℕ) → ℕ → Option Field → (ℕ → Option Field) → Option Field
perhaps None size other k = other
perhaps (Some (a, n)) size other k = cond (eqb n size) (k a) None

-- nothing stands behind this place. As each event takes its fields one behind the other, in rising order, this is all that remains to ask
abbrev pub ends : List ℕ → ℕ → Event → Option Field
ends f at e = cond (eqb at (length f)) (Some (Field.Event e)) None

-- ---- contexts and states: a choice, and an identity for one of them

-- kinds 0 to 2 are 3 bytes, kind and id; kind 3 is 13, with an identity
abbrev pub by_kind : ℕ → ℕ → Option Context
by_kind kind id =
    cond (eqb kind 0) (Some (Context.Sync id))
    (cond (eqb kind 1) (Some (Context.DelayReq id))
    (cond (eqb kind 2) (Some (Context.PDelayReq id)) None))

unfoldable pub context_at : ℕ → ℕ → List ℕ → Option Context
context_at at n f =
    cond (eqb n 3) (by_kind (number at 1 f) (number (at + 1) 2 f))
    (cond (eqb n 13)
    (cond (eqb (number at 1 f) 3) (Some (Context.PDelayResp (number (at + 1) 2 f) (identity_at (at + 3) f))) None)
    None)

-- states 0 to 3 are one byte; 4, Slave, is 11, with its master
abbrev pub by_number : ℕ → Option NewState
by_number state =
    cond (eqb state 0) (Some NewState.Listening)
    (cond (eqb state 1) (Some NewState.Master)
    (cond (eqb state 2) (Some NewState.Passive)
    (cond (eqb state 3) (Some NewState.Faulty) None)))

unfoldable pub state_at : ℕ → ℕ → List ℕ → Option NewState
state_at at n f =
    cond (eqb n 1) (by_number (number at 1 f))
    (cond (eqb n 11)
    (cond (eqb (number at 1 f) 4) (Some (NewState.Slave (identity_at (at + 1) f))) None)
    None)

abbrev pub stamp_found : Time → Option Context → Option Field
stamp_found t None = None
stamp_found t (Some c) = Some (Field.Event (stamp t c))

abbrev pub state_found : Option NewState → Option Field
state_found None = None
state_found (Some s) = Some (Field.Event (set_state s))

-- ---- the seven events

-- 0x10: time, message
unfoldable pub event_of : List ℕ → Option Field
event_of f =
    exactly (inner_of f 3 1) 16 (λ a.
    needed (inner_of f (a + 16) 2) (λ b n. cond (leb n 1024) (ends f (b + n) (event (time_at a f) (take n (drop b f)))) None))

-- 0x11: message
unfoldable pub general_of : List ℕ → Option Field
general_of f =
    needed (inner_of f 3 2) (λ b n. cond (leb n 1024) (ends f (b + n) (general (take n (drop b f)))) None)

-- 0x12: time, context
unfoldable pub stamp_of : List ℕ → Option Field
stamp_of f =
    exactly (inner_of f 3 1) 16 (λ a.
    needed (inner_of f (a + 16) 3) (λ b n. cond (eqb (b + n) (length f)) (stamp_found (time_at a f) (context_at b n f)) None))

-- 0x13: nothing
unfoldable pub sync_timer_of : List ℕ → Option Field
sync_timer_of f = ends f 3 sync_timer

-- 0x14: draw
unfoldable pub delay_timer_of : List ℕ → Option Field
delay_timer_of f = exactly (inner_of f 3 4) 8 (λ a. ends f (a + 8) (delay_timer (number a 8 f)))

-- 0x15: perhaps a mean delay, and behind it perhaps a next update
unfoldable pub update_of : List ℕ → ℕ → Option Duration → Option Field
update_of f at mean =
    perhaps (inner_of f at 6) 8
    (ends f at (filter_answer (record { mean_delay = mean; next_update = None })))
    (λ b. ends f (b + 8) (filter_answer (record { mean_delay = mean; next_update = Some (number b 8 f) })))

unfoldable pub filter_of : List ℕ → Option Field
filter_of f =
    perhaps (inner_of f 3 5) 16 (update_of f 3 None) (λ a. update_of f (a + 16) (Some (duration_at a f)))

-- 0x16: state
unfoldable pub set_state_of : List ℕ → Option Field
set_state_of f =
    needed (inner_of f 3 7) (λ b n. cond (eqb (b + n) (length f)) (state_found (state_at b n f)) None)

-- ---- the configuration

-- 0x0F: identity 10, sdo id 2, domain 1, minor 1, mechanism 1, delay interval 1, sync interval 1, asymmetry 16
abbrev pub config_with : Mechanism → List ℕ → Config
config_with m f =
    record {
      identity = identity_at 3 f;
      sdo = number 13 2 f;
      domain = number 15 1 f;
      minor = number 16 1 f;
      mechanism = m;
      delay_interval = number 18 1 f;
      sync_interval = number 19 1 f;
      asymmetry = duration_at 20 f;
    }

-- mechanism 0 end-to-end, 1 peer
unfoldable pub config_of : List ℕ → Option Field
config_of f =
    cond (eqb (length f) 36)
    (cond (eqb (number 17 1 f) 0) (Some (Field.Config (config_with Mechanism.EndToEnd f)))
    (cond (eqb (number 17 1 f) 1) (Some (Field.Config (config_with Mechanism.Peer f))) None))
    None

-- ---- an outer field by its tag: the configuration first, and then events

unfoldable pub field_of : Bool → ℕ → List ℕ → Option Field
field_of first tag f =
    cond first (cond (eqb tag 0x0F) (config_of f) None)
    (cond (eqb tag 0x10) (event_of f)
    (cond (eqb tag 0x11) (general_of f)
    (cond (eqb tag 0x12) (stamp_of f)
    (cond (eqb tag 0x13) (sync_timer_of f)
    (cond (eqb tag 0x14) (delay_timer_of f)
    (cond (eqb tag 0x15) (filter_of f)
    (cond (eqb tag 0x16) (set_state_of f) None)))))))

-- ---- what stands at the front of some bytes

-- the length that the field at the front states; 0 where its three bytes are not there
unfoldable pub stated_of : List ℕ → ℕ
stated_of s = cond (ltb (length s) 3) 0 (number 1 2 s)

-- whether a field of this tag can be good with a value so long: the longest is a time and a message of 1024 bytes
unfoldable pub possible : Bool → ℕ → ℕ → Bool
possible first tag n =
    cond first (eqb tag 0x0F && leb n 33)
    (cond (eqb tag 0x10) (leb n 1046)
    (cond (eqb tag 0x11) (leb n 1027)
    (cond (eqb tag 0x12) (leb n 35)
    (cond (eqb tag 0x13) (leb n 0)
    (cond (eqb tag 0x14) (leb n 11)
    (cond (eqb tag 0x15) (leb n 30)
    (eqb tag 0x16 && leb n 14)))))))

abbrev pub seen : ℕ → Option Field → Next
seen n None = Next.Bad
seen n (Some (Field.Config c)) = Next.Config c
seen n (Some (Field.Event e)) = Next.Event e n

-- no byte is left: the end, but not of a log with nothing in it
unfoldable pub none_of : Bool → Bool → Next
none_of first last = cond last (cond first Next.Bad Next.End) Next.More

-- the bytes end within a field: bad if no more come, and at once if no field of its tag is so long
unfoldable pub cut_of : Bool → ℕ → ℕ → Bool → Next
cut_of first tag n last = cond last Next.Bad (cond (possible first tag n) Next.More Next.Bad)

-- `first` says that the configuration is due, `last` that nothing follows s
unfoldable pub front_of : Bool → List ℕ → Bool → Next
front_of first s last =
    cond (eqb (length s) 0) (none_of first last)
    (cond (leb (3 + stated_of s) (length s))
    (seen (3 + stated_of s) (field_of first (number 0 1 s) (take (3 + stated_of s) s)))
    (cut_of first (number 0 1 s) (stated_of s) last))
