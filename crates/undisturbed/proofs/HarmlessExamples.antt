-- A run with all that is `Harmless` between the parts of an exchange, end-to-end: it meets what `others_stand` asks, and what it measures is computed besides.
use Rattle.std.specs.Prelude.{ℕ, ◌<◌, ◌≡◌, refl, [], ◌∷◌, eqb, None}
use Rattle.std.proofs.Common.{ap, true≢false, arith}
use Rattle.record.specs.Record.{slave_of}
use Rattle.rules.specs.Names.{Mechanism, Measurement}
use Rattle.rules.specs.Events.{delay_timer, buffer_after}
use Rattle.undisturbed.specs.Runs.{lane, joined, Each, log_of, found}
use Rattle.undisturbed.specs.Whole.{OfDelay, RequestExchange, SyncExchanges, RequestExchanges}
use Rattle.undisturbed.specs.Undisturbed.{happens, measured_in, AllStand, Woven, Undisturbed}
use Rattle.undisturbed.specs.Harmless.{Harmless}
use Rattle.undisturbed.proofs.UndisturbedLaws.{others_stand}
use Rattle.rules.specs.Running.{run_of, master, ns, lasting, slave}
use Rattle.rules.specs.IeeeExamples.{small}
use Rattle.undisturbed.specs.WovenExamples.{request_part, all_small, buffer}
use Rattle.undisturbed.proofs.WovenExamples.{all_bytes, from_master, as_listed}
use Rattle.undisturbed.specs.HarmlessExamples.{answers, run}

pub measured : found measured_in (log_of happens (slave 10, buffer) run) ≡ Measurement.Delay (ns 2000) (lasting 30) None ∷ []
unfolding run_of happens buffer_after log_of found
measured = refl

-- 1 is not 0; a port set to end-to-end is not one set to peer-to-peer
mechanism_number : Mechanism → ℕ
mechanism_number Mechanism.EndToEnd = 0
mechanism_number Mechanism.Peer = 1

whole0 : RequestExchange (slave 10).config master 0 (request_part (delay_timer 0) ∷ answers)
unfolding run_of
whole0 =
    RequestExchange.asked _ answers (as_listed (OfDelay.a_delay_stamp _) (OfDelay.a_delay_resp _ _ _ _ _ refl (from_master refl refl) refl))

type_0 : 0 < 4
type_0 = omega arith

type_3 : 3 < 4
type_3 = omega arith

others : AllStand (slave 10).config master (Harmless (slave 10).config) 0 run
unfolding run_of AllStand mechanism_number
others =
    (Harmless.a_delay_req _ _ _ _ refl, (Harmless.on_wrong_entry _ _ _ _ refl type_0, (Harmless.on_wrong_entry _ _ _ _ refl type_3, (Harmless.a_sync_timer, (Harmless.a_sync_stamp _ _, (Harmless.stray_delay_stamp _ _ (λ m e. true≢false (ap (eqb 1) e)), (Harmless.stray_peer_stamp _ _ (λ m e. true≢false (ap (λ (x : Mechanism). eqb (mechanism_number x) 0) m)), tt)))))))

pub woven : Woven (Harmless (slave 10).config) (slave 10) (slave_of master) buffer run
unfolding run_of happens buffer_after log_of lane joined Each SyncExchanges RequestExchanges small all_small
woven =
    record {
      sync_exchanges = [];
      sync_events = refl;
      syncs_whole = tt;
      request_exchanges = (request_part (delay_timer 0) ∷ answers) ∷ [];
      request_events = refl;
      requests_whole = (whole0, tt);
      others = others;
      bytes = all_bytes run refl;
      taken = (refl, (tt, (tt, (tt, (tt, (tt, (tt, (tt, (refl, (refl, tt))))))))));
    }

pub holds : Undisturbed (slave 10) buffer run
holds =
    others_stand (slave 10) (slave_of master) (record { slave = refl; no_sync = refl; no_delay = refl; no_peer = refl }) buffer run woven
