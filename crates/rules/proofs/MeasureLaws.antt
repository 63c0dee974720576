-- Each measurement beside 01's formula: refused with 7 exactly where a number of the formula leaves its range, and otherwise what the formula says.
use Rattle.std.specs.Prelude.{ℕ, ◌≡◌, true, false, [], ◌∷◌, ◌-ℤ◌, Option}
use Rattle.std.proofs.Math.Path.{refl}
use Rattle.std.proofs.Common.{ap}
use Rattle.std.proofs.Math.IntN.{ℤ}
use Rattle.rules.specs.Names.{Time, Duration, Identity, Exchange, SlaveState, PeerState, Port, Measurement}
use Rattle.time.specs.Units.{time, duration, half, half_of}
use Rattle.record.specs.Record.{with_slave, with_sync, with_delay, with_peer, is_faulty}
use Rattle.rules.specs.Worked.{worked, elapsed, less_duration}
use Rattle.rules.specs.Events.{Done}
use Rattle.rules.specs.Measuring.{measure_sync, measure_delay, measure_peer, measured, sync_out, delay_out, peer_out}
use Rattle.rules.specs.WorkedOut.{Completed, sync, delay, peer, raw_sync, raw_delay, peer_twice, peer_opened, numbers_of, asymmetry, durations, ◌∋◌, if_there}
use Rattle.rules.specs.Formulas.{Says, GivenBy}
use Rattle.rules.specs.AgreeLaws.{Agrees}
use Rattle.rules.proofs.AgreeLaws.{agrees_duration, agrees_mean, agrees_half, half_means}
use Rattle.rules.specs.MeasureLaws.{Judged}

-- any property of what is measured follows from the numbers of its formula, and so what 01 says of it. The record is a Slave's, and the exchange was just stored in it
module _ (p : Port) (s : SlaveState) (x : Exchange) (send receive : Time) where
  abbrev before : Port
  before = with_slave p s

  pub sync_agrees : (S : Done → Type 0) → ((raw : Duration) (offset : Option Duration) → duration raw ≡ raw_sync p (time send) (time receive) → GivenBy p.mean (λ mean. raw_sync p (time send) (time receive) -ℤ mean) offset → S (measured (sync_out p s raw) (Measurement.Sync receive raw offset) false)) → Agrees (numbers_of before (sync (time send) (time receive))) S (measure_sync (with_slave p (with_sync s x)) (with_sync s x) send receive)
  unfolding measure_sync elapsed less_duration
  sync_agrees S f =
      let a : ℤ = time receive -ℤ time send in
      let r : ℤ = raw_sync p (time send) (time receive) in
      agrees_duration a ((durations ∋ r) ∷ if_there p.mean (λ mean. r -ℤ mean)) S _ a refl (λ d i.
      agrees_duration r (if_there p.mean (λ mean. r -ℤ mean)) S _ (duration d -ℤ asymmetry p) (ap (λ (y : ℤ). y -ℤ asymmetry p) i.value) (λ raw j.
      agrees_mean p.mean raw r j.value S (λ o. worked (measured (sync_out p s raw) (Measurement.Sync receive raw o) false)) (λ o g. (refl, f raw o j.value g))))

  pub sync_judged : Judged before (sync (time send) (time receive)) (measure_sync (with_slave p (with_sync s x)) (with_sync s x) send receive)
  sync_judged =
      sync_agrees (λ d. Says before (sync (time send) (time receive)) d.measurement d.port) (λ raw o i g.
      record { event_time = refl; raw_is = i; offset_is = g; raw_kept = refl; taken_out = refl })

  pub delay_agrees : (S : Done → Type 0) → ((raw : Duration) (d : Option Duration) → duration raw ≡ raw_delay p (time send) (time receive) → GivenBy s.raw (λ last. half (last -ℤ raw_delay p (time send) (time receive))) d → S (measured (delay_out p s) (Measurement.Delay send raw d) false)) → Agrees (numbers_of before (delay (time send) (time receive))) S (measure_delay (with_slave p (with_delay s x)) (with_delay s x) send receive)
  unfolding measure_delay elapsed less_duration
  delay_agrees S f =
      let a : ℤ = time send -ℤ time receive in
      let r : ℤ = raw_delay p (time send) (time receive) in
      agrees_duration a ((durations ∋ r) ∷ if_there s.raw (λ last. last -ℤ r)) S _ a refl (λ d i.
      agrees_duration r (if_there s.raw (λ last. last -ℤ r)) S _ (duration d -ℤ asymmetry p) (ap (λ (y : ℤ). y -ℤ asymmetry p) i.value) (λ raw j.
      agrees_half s.raw raw r j.value S (λ o. worked (measured (delay_out p s) (Measurement.Delay send raw o) false)) (λ o g. (refl, f raw o j.value g))))

  pub delay_judged : Judged before (delay (time send) (time receive)) (measure_delay (with_slave p (with_delay s x)) (with_delay s x) send receive)
  delay_judged =
      delay_agrees (λ d. Says before (delay (time send) (time receive)) d.measurement d.port) (λ raw o i g.
      record { event_time = refl; raw_is = i; delay_is = g; raw_stays = refl; taken_out = refl })

-- the same of a peer exchange, in any state
module _ (p : Port) (x : PeerState) (id : ℕ) (responder : Identity) (t1 t2 t3 t4 : Time) where
  abbrev exchange : Completed
  exchange = peer (time t1) (time t2) (time t3) (time t4)

  pub peer_agrees : (S : Done → Type 0) → ((d : Duration) → duration d ≡ half (peer_twice (time t1) (time t2) (time t3) (time t4)) → S (measured (peer_out p id responder) (Measurement.Peer t4 d) (is_faulty p.state))) → Agrees (numbers_of p exchange) S (measure_peer (with_peer p x) id responder t1 t2 t3 t4)
  unfolding measure_peer elapsed less_duration
  peer_agrees S f =
      let turn : ℤ = time t4 -ℤ time t1 in
      let stay : ℤ = time t3 -ℤ time t2 in
      agrees_duration turn ((durations ∋ stay) ∷ (durations ∋ peer_twice (time t1) (time t2) (time t3) (time t4)) ∷ []) S _ turn refl (λ d i.
      agrees_duration stay ((durations ∋ peer_twice (time t1) (time t2) (time t3) (time t4)) ∷ []) S _ stay refl (λ e j.
      agrees_duration (turn -ℤ stay) [] S _ (duration d -ℤ duration e) ((λ k. i.value k -ℤ j.value k)) (λ twice l.
      (refl, f (half_of twice) (half_means (turn -ℤ stay) twice l)))))

  pub peer_judged : peer_opened id p.peer ≡ true → Judged p exchange (measure_peer (with_peer p x) id responder t1 t2 t3 t4)
  peer_judged o =
      peer_agrees (λ d. Says p exchange d.measurement d.port) (λ d i.
      record { event_time = refl; delay_is = i; id = id; responder = responder; opened = o; measured = refl })
