-- A run that demand 3 speaks of, end-to-end, from the bytes of its messages: exchanges woven into each other, ids that wrap, a filter answer and foreign traffic between the parts. It meets all that `undisturbed` asks; what it measures and sends is computed besides. `WovenPeerExamples` has such a run peer-to-peer, `OutsideExamples` what demand 3 does not speak of.
use Rattle.std.specs.Prelude.{ℕ, ◌≡◌, true, false, List, [], ◌∷◌, length, eqb, Some, None}
use Rattle.std.proofs.Math.Path.{refl}
use Rattle.std.proofs.Common.{sym, ap, true≢false}
use Rattle.octets.proofs.BytesLaws.{both}
use Rattle.sent.specs.Messages.{no_flag}
use Rattle.record.specs.Record.{slave_of}
use Rattle.rules.specs.Names.{Time, Identity, Header, Body, Mechanism, Config, FilterUpdate, NewState, Context, Outcome, Measurement}
use Rattle.rules.specs.Events.{Event, event, general, stamp, sync_timer, delay_timer, filter_answer, set_state, buffer_after}
use Rattle.rules.specs.Given.{BytesIn}
use Rattle.rules.specs.Table.{row4, row5, row6, row8}
use Rattle.undisturbed.specs.Runs.{Lane, new, in_full, a_part, the_last, within, Item, placed, gather_from, gather, lane, joined, Each, log_of, found, Single}
use Rattle.time.specs.declared.WireTimestamp.{WireTimestamp}
use Rattle.undisturbed.specs.Times.{no_times, later_times, event_times, stamp_times, times_in}
use Rattle.undisturbed.specs.Whole.{Piece, the_sync, this_one, one_behind, InAnyOrder, firstly, lastly, FromMaster, OfSync, OfDelay, SyncExchange, RequestExchange, SyncExchanges, RequestExchanges, Foreign, FilterAnswer, Not}
use Rattle.undisturbed.specs.Undisturbed.{happens, measured_in, NothingElse, AllStand, Woven, Undisturbed}
use Rattle.undisturbed.proofs.UndisturbedLaws.{undisturbed}
use Rattle.rules.specs.Running.{run_of, us, master, stranger, ns, lasting, set_up, message, wire_ns}
use Rattle.rules.specs.IeeeExamples.{small}
use Rattle.rules.proofs.IeeeExamples.{small_bytes}
use Rattle.undisturbed.specs.WovenExamples.{sync_part, sync_last, request_part, request_last, of_filter, of_others, small_in, all_small, outcome_in, sent_in, p, buffer, sync7, follow_up7, follow_up8, sync8, sync9, request65535, response65535, stamp65535, request0, stamp0, response0, mean_of30, one_byte, other_domain, announce, strangers_p_delay_req, p_delay_resp_stamp, strangers_sync, delay_resp_for_stranger, run, p_delay_resp, exchange7, exchange8, exchange9, answers65535, answers0}

-- ---- words for runs: an event at its place

pub all_bytes : (run : List (Item Event)) → all_small run ≡ true → Each (λ place e. BytesIn e) run
unfolding all_small Each
all_bytes [] h = tt
all_bytes (placed place e ∷ es) h = (one e (both (small_in e) (all_small es) h).0, all_bytes es (both (small_in e) (all_small es) h).1)
  where
    one : (e : Event) → small_in e ≡ true → BytesIn e
    one (event t m) h = small_bytes m h
    one (general m) h = small_bytes m h
    one (stamp t context) h = tt
    one sync_timer h = tt
    one (delay_timer draw) h = tt
    one (filter_answer update) h = tt
    one (set_state state) h = tt

-- ---- the run: sync exchange 7 stands within the first request exchange, 8 begins within it and ends within the second, 9 stands within the second

-- gathered: each exchange stands together where its last event stood, and nothing else has moved
pub gathered : gather run ≡ of_others one_byte ∷ of_others strangers_p_delay_req ∷ sync_part sync7 ∷ sync_last follow_up7 ∷ of_others p_delay_resp_stamp ∷ of_filter mean_of30 ∷ of_others strangers_sync ∷ request_part request65535 ∷ request_part response65535 ∷ request_last stamp65535 ∷ of_others other_domain ∷ of_others delay_resp_for_stranger ∷ sync_part follow_up8 ∷ sync_last sync8 ∷ of_others announce ∷ sync_last sync9 ∷ request_part request0 ∷ request_part stamp0 ∷ request_last response0 ∷ []
unfolding gather_from
gathered = refl

-- ---- what is measured, in order: raw 90, no mean being stored yet; raw 30, and half of what 90 is above it; raw 190, and less the mean; raw 90, and less the mean; raw 40, and half of what the last raw offset is above it

pub measured : found measured_in (log_of happens (p, buffer) run) ≡ Measurement.Sync (ns 1000) (lasting 90) None ∷ Measurement.Delay (ns 2000) (lasting 30) (Some (lasting 30)) ∷ Measurement.Sync (ns 2100) (lasting 190) (Some (lasting 160)) ∷ Measurement.Sync (ns 3000) (lasting 90) (Some (lasting 60)) ∷ Measurement.Delay (ns 2500) (lasting 40) (Some (lasting 25)) ∷ []
unfolding run_of happens buffer_after log_of found
measured = refl

-- the number of each answer
pub numbers : found outcome_in (log_of happens (p, buffer) run) ≡ Outcome.Taken ∷ Outcome.Taken ∷ Outcome.Version ∷ Outcome.Taken ∷ Outcome.Taken ∷ Outcome.Taken ∷ Outcome.Taken ∷ Outcome.Taken ∷ Outcome.Taken ∷ Outcome.Taken ∷ Outcome.Taken ∷ Outcome.Foreign ∷ Outcome.Taken ∷ Outcome.Taken ∷ Outcome.Taken ∷ Outcome.Host ∷ Outcome.Taken ∷ Outcome.Taken ∷ Outcome.Taken ∷ []
unfolding run_of happens buffer_after log_of found
numbers = refl

pub sent : (found sent_in (log_of happens (p, buffer) run) ≡ message us no_flag 0 65535 (Body.DelayReq (wire_ns 0)) ∷ p_delay_resp ∷ message us no_flag 0 40 (Body.PDelayRespFollowUp (wire_ns 1200) stranger) ∷ message us no_flag 0 0 (Body.DelayReq (wire_ns 0)) ∷ []) × (length p_delay_resp ≡ 54)
unfolding run_of happens buffer_after log_of found
sent = (refl, refl)

-- ---- the run meets what demand 3 asks: each event of an exchange is what its bytes read as, from whom and with which id

pub from_master : {id : ℕ} {h : Header} → h.source ≡ master → h.id ≡ id → FromMaster master id h
from_master s i = record { source = s; same_id = i }

-- two pieces, in their order and in the other
module _ {l : Lane} {Of : Piece → Event → Type 0} {p q : Piece} {e f : Event} where
  pub as_listed : Of p e → Of q f → InAnyOrder l Of (p ∷ q ∷ []) (placed (within l (a_part new)) e ∷ placed (within l (the_last in_full)) f ∷ [])
  as_listed a b = firstly p (p ∷ q ∷ []) (q ∷ []) e _ (this_one p (q ∷ [])) a (lastly q f b)

  pub the_other_way : Of q e → Of p f → InAnyOrder l Of (p ∷ q ∷ []) (placed (within l (a_part new)) e ∷ placed (within l (the_last in_full)) f ∷ [])
  the_other_way b a = firstly q (p ∷ q ∷ []) (p ∷ []) e _ (one_behind q p (q ∷ []) [] (this_one q [])) b (lastly p f a)

pub not_master : Not (stranger ≡ master)
not_master e = true≢false (ap (λ (i : Identity). eqb i.port 0x595A) (sym e))

pub not_us : Not (stranger ≡ us)
not_us e = true≢false (ap (λ (i : Identity). eqb i.port 0x3839) (sym e))

-- the sync exchanges, whatever the mechanism is
module _ (m : Mechanism) where
  whole7 : SyncExchange (set_up m 10).config master exchange7
  unfolding run_of
  whole7 =
      record { id = 7; two = true; events = as_listed (OfSync.a_sync _ _ _ _ _ refl (from_master refl refl) refl) (OfSync.a_follow_up _ _ _ _ refl (from_master refl refl)) }

  whole8 : SyncExchange (set_up m 10).config master exchange8
  unfolding run_of
  whole8 =
      record { id = 8; two = true; events = the_other_way (OfSync.a_follow_up _ _ _ _ refl (from_master refl refl)) (OfSync.a_sync _ _ _ _ _ refl (from_master refl refl) refl) }

  whole9 : SyncExchange (set_up m 10).config master exchange9
  unfolding run_of
  whole9 = record { id = 9; two = false; events = lastly the_sync sync9 (OfSync.a_sync _ _ _ _ _ refl (from_master refl refl) refl) }

  pub syncs_whole : SyncExchanges (set_up m 10).config master (exchange7 ∷ exchange8 ∷ exchange9 ∷ [])
  unfolding SyncExchanges
  syncs_whole = (whole7, (whole8, (whole9, tt)))

whole65535 : RequestExchange p.config master 65535 (request_part request65535 ∷ answers65535)
unfolding run_of
whole65535 =
    RequestExchange.asked _ answers65535 (the_other_way (OfDelay.a_delay_resp _ _ _ _ _ refl (from_master refl refl) refl) (OfDelay.a_delay_stamp _))

whole0 : RequestExchange p.config master 0 (request_part request0 ∷ answers0)
unfolding run_of
whole0 =
    RequestExchange.asked _ answers0 (as_listed (OfDelay.a_delay_stamp _) (OfDelay.a_delay_resp _ _ _ _ _ refl (from_master refl refl) refl))

-- what stands between them, in its order
others : AllStand p.config master NothingElse 65535 run
unfolding run_of AllStand row4 row5 row6 row8
others =
    (Foreign.unheard _ refl refl, (Foreign.a_p_delay_req _ _ _ _ refl, (Foreign.a_p_delay_resp_stamp _ _ _, (FilterAnswer.a_filter_answer _, (Foreign.other_sync _ _ _ _ refl not_master, (Foreign.unheard _ refl refl, (Foreign.delay_resp_for_other _ _ _ _ _ refl not_us, (Foreign.unheard _ refl refl, tt))))))))

pub woven : Woven NothingElse p (slave_of master) buffer run
unfolding run_of happens buffer_after log_of lane joined Each RequestExchanges small all_small
woven =
    record {
      sync_exchanges = exchange7 ∷ exchange8 ∷ exchange9 ∷ [];
      sync_events = refl;
      syncs_whole = syncs_whole Mechanism.EndToEnd;
      request_exchanges = (request_part request65535 ∷ answers65535) ∷ (request_part request0 ∷ answers0) ∷ [];
      request_events = refl;
      requests_whole = (whole65535, (whole0, tt));
      others = others;
      bytes = all_bytes run refl;
      taken = (refl, (refl, (tt, (refl, (tt, (refl, (tt, (refl, (refl, (tt, (refl, (tt, (refl, (tt, (refl, (tt, (refl, (refl, (refl, tt)))))))))))))))))));
    }

-- so demand 3 holds of it
pub holds : Undisturbed p buffer run
holds =
    undisturbed p (slave_of master) (record { slave = refl; no_sync = refl; no_delay = refl; no_peer = refl }) buffer run woven

-- ---- what no exchange is made of brings no time: on either entry a request; on the general one a Sync and a PDelayResp; the stamp of a Sync, and of a PDelayResp; timers, filter answers, states
pub bring_nothing : (c : Config) (t : Time) (h : Header) (w : WireTimestamp) (i : Identity) (id : ℕ) (u : FilterUpdate) (s : NewState) → (event_times t h (Body.DelayReq w) ≡ no_times) × (event_times t h (Body.PDelayReq w) ≡ no_times) × (later_times h (Body.Sync w) ≡ no_times) × (later_times h (Body.DelayReq w) ≡ no_times) × (later_times h (Body.PDelayReq w) ≡ no_times) × (later_times h (Body.PDelayResp w i) ≡ no_times) × (stamp_times t (Context.Sync id) ≡ no_times) × (stamp_times t (Context.PDelayResp id i) ≡ no_times) × (times_in c sync_timer ≡ no_times) × (times_in c (filter_answer u) ≡ no_times) × (times_in c (set_state s) ≡ no_times)
unfolding times_in
bring_nothing c t h w i id u s = (refl, refl, refl, refl, refl, refl, refl, refl, refl, refl, refl)

-- two are not one
pub two_not_single : Single {M = ℕ} (0 ∷ 1 ∷ []) → ⊥
two_not_single s = s
