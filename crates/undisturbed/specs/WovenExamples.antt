-- What the laws of proofs/WovenExamples.antt speak of.
use Rattle.std.specs.Prelude.{ℕ, ◌^◌, ◌*◌, Bool, true, ◌&&◌, List, [], ◌∷◌, replicate, Some, None}
use Rattle.octets.specs.Bytes.{bytes_of}
use Rattle.wire.specs.Layout.{header_entries, message_bytes, two_step_flag}
use Rattle.wire.specs.declared.MessageType.TheVariants as M
use Rattle.sent.specs.Messages.{header_for, no_flag, no_interval}
use Rattle.rules.specs.Names.{Identity, Body, Port, Context, Outcome}
use Rattle.rules.specs.Events.{Event, event, general, stamp, sync_timer, delay_timer, filter_answer, set_state}
use Rattle.undisturbed.specs.Runs.{syncs, requests, new, in_full, a_part, the_last, from_filter, foreign, within, free, Item, placed}
use Rattle.undisturbed.specs.Undisturbed.{Reply}
use Rattle.rules.specs.Running.{us, master, stranger, ns, lasting, slave, message, wire_ns, two_step_sync_of, one_step_sync_of, follow_up_at}
use Rattle.rules.specs.Examples.{last_ids}
use Rattle.rules.specs.IeeeExamples.{small}

-- ---- words for runs: an event at its place

abbrev pub sync_part : Event → Item Event
sync_part e = placed (within syncs (a_part new)) e

abbrev pub sync_last : Event → Item Event
sync_last e = placed (within syncs (the_last in_full)) e

abbrev pub request_part : Event → Item Event
request_part e = placed (within requests (a_part new)) e

abbrev pub request_last : Event → Item Event
request_last e = placed (within requests (the_last in_full)) e

abbrev pub of_filter : Event → Item Event
of_filter e = placed (free from_filter) e

abbrev pub of_others : Event → Item Event
of_others e = placed (free foreign) e

-- messages are lists of bytes: a test of a whole run
abbrev pub small_in : Event → Bool
small_in (event t m) = small m
small_in (general m) = small m
small_in (stamp t context) = true
small_in sync_timer = true
small_in (delay_timer draw) = true
small_in (filter_answer update) = true
small_in (set_state state) = true

unfoldable pub all_small : List (Item Event) → Bool
all_small [] = true
all_small (placed place e ∷ es) = small_in e && all_small es

-- what is told of each answer: its number, and its packet if something is sent
abbrev pub outcome_in : Reply → List Outcome
outcome_in a = a.outcome ∷ []

abbrev pub or_none : List ℕ → List (List ℕ)
or_none [] = []
or_none (x ∷ xs) = (x ∷ xs) ∷ []

abbrev pub sent_in : Reply → List (List ℕ)
sent_in a = or_none a.packet

-- ---- the port: a Slave with an asymmetry of 10 ns and no mean delay, whose next ids are 65535; and its buffer

abbrev pub p : Port
p = last_ids (slave 10)

abbrev pub buffer : List ℕ
buffer = replicate 64 0xEE

-- ---- what happens to it

-- three sync exchanges: 7 is two-step; 8 two-step with its FollowUp first, which has a correction of 5 ns; 9 one-step
abbrev pub sync7 : Event
sync7 = event (ns 1000) (two_step_sync_of 7)

abbrev pub follow_up7 : Event
follow_up7 = general (follow_up_at 7 900)

abbrev pub follow_up8 : Event
follow_up8 = general (message master no_flag (5 * 2 ^ 16) 8 (Body.FollowUp (wire_ns 1895)))

abbrev pub sync8 : Event
sync8 = event (ns 2100) (two_step_sync_of 8)

abbrev pub sync9 : Event
sync9 = event (ns 3000) (one_step_sync_of 9 2900)

-- two requests: of the first, 65535, the DelayResp comes before the stamp; of the second, 0, behind it
abbrev pub delay_resp_to : Identity → ℕ → ℕ → Event
delay_resp_to requester id n = general (message master no_flag 0 id (Body.DelayResp (wire_ns n) requester))

abbrev pub request65535 : Event
request65535 = delay_timer 0

abbrev pub response65535 : Event
response65535 = delay_resp_to us 65535 1960

abbrev pub stamp65535 : Event
stamp65535 = stamp (ns 2000) (Context.DelayReq 65535)

abbrev pub request0 : Event
request0 = delay_timer 1

abbrev pub stamp0 : Event
stamp0 = stamp (ns 2500) (Context.DelayReq 0)

abbrev pub response0 : Event
response0 = delay_resp_to us 0 2450

-- the filter gives a mean delay of 30 ns
abbrev pub mean_of30 : Event
mean_of30 =
    filter_answer (record { mean_delay = Some (lasting 30); next_update = None })

-- foreign traffic that is refused: one byte is answered 4; a Sync 8 of the master, but in another domain, 6; an Announce, 8
abbrev pub one_byte : Event
one_byte = general (0xA0 ∷ [])

abbrev pub other_domain : Event
other_domain =
    event (ns 1050) (message_bytes (header_for (record { sdo = 0xA22; domain = 0x20; minor = 0x1; identity = master }) M.Sync two_step_flag 0 8 no_interval) (Body.Sync (wire_ns 0)))

abbrev pub announce : Event
announce =
    general (bytes_of (header_entries (record { major_sdo = 0xA; kind = 11; minor = 0x1; version = 2; length = 34; domain = 0x21; minor_sdo = 0x22; flags = 0; correction = 0; source = master; id = 0; interval = 0 }) 5))

-- and that is taken: a PDelayReq, which is answered, and the stamp of the answer, which sends its follow-up; a stranger's Sync, with an id that is open; a DelayResp for a stranger, with the id of our request
abbrev pub strangers_p_delay_req : Event
strangers_p_delay_req = event (ns 1100) (message stranger no_flag 0 40 (Body.PDelayReq (wire_ns 0)))

abbrev pub p_delay_resp_stamp : Event
p_delay_resp_stamp = stamp (ns 1200) (Context.PDelayResp 40 stranger)

abbrev pub strangers_sync : Event
strangers_sync = event (ns 1300) (message stranger two_step_flag 0 8 (Body.Sync (wire_ns 0)))

abbrev pub delay_resp_for_stranger : Event
delay_resp_for_stranger = delay_resp_to stranger 0 2400

-- ---- the run: sync exchange 7 stands within the first request exchange, 8 begins within it and ends within the second, 9 stands within the second

abbrev pub run : List (Item Event)
run =
    request_part request65535
    ∷ sync_part sync7
    ∷ of_others one_byte
    ∷ request_part response65535
    ∷ of_others strangers_p_delay_req
    ∷ sync_last follow_up7
    ∷ of_others p_delay_resp_stamp
    ∷ sync_part follow_up8
    ∷ of_filter mean_of30
    ∷ of_others strangers_sync
    ∷ request_last stamp65535
    ∷ of_others other_domain
    ∷ request_part request0
    ∷ of_others delay_resp_for_stranger
    ∷ sync_last sync8
    ∷ of_others announce
    ∷ request_part stamp0
    ∷ sync_last sync9
    ∷ request_last response0
    ∷ []

-- ---- what is measured, in order: raw 90, no mean being stored yet; raw 30, and half of what 90 is above it; raw 190, and less the mean; raw 90, and less the mean; raw 40, and half of what the last raw offset is above it

-- what is sent, in order: the first request, with the last id; the answer to the PDelayReq, of 54 bytes, and its follow-up; the second request, with the first id
abbrev pub p_delay_resp : List ℕ
p_delay_resp = message us two_step_flag 0 40 (Body.PDelayResp (wire_ns 1100) stranger)

-- ---- the run meets what demand 3 asks: each event of an exchange is what its bytes read as, from whom and with which id

abbrev pub exchange7 : List (Item Event)
exchange7 = sync_part sync7 ∷ sync_last follow_up7 ∷ []

abbrev pub exchange8 : List (Item Event)
exchange8 = sync_part follow_up8 ∷ sync_last sync8 ∷ []

abbrev pub exchange9 : List (Item Event)
exchange9 = sync_last sync9 ∷ []

-- the request exchanges, with their answers
abbrev pub answers65535 : List (Item Event)
answers65535 = request_part response65535 ∷ request_last stamp65535 ∷ []

abbrev pub answers0 : List (Item Event)
answers0 = request_part stamp0 ∷ request_last response0 ∷ []
