-- What the exchanges of our own requests hold, delay and peer, after the request, its stamp and its answers: each rule leaves what `Held` says.
use Rattle.std.specs.Prelude.{ℕ, ◌≡◌, ◌&&◌, eqb, ◌+ℤ◌, ◌-ℤ◌, Option, Some, None}
use Rattle.std.proofs.Math.Path.{refl, subst}
use Rattle.std.proofs.Common.{sym, eqb-true}
use Rattle.std.proofs.Math.Bool.{Bool, true, false, cond, not}
use Rattle.std.proofs.Math.IntN.{ℤ}
use Rattle.time.specs.Units.{time, time_words, time_of, correction}
use Rattle.timers.specs.Timers.{delay_timer_of}
use Rattle.octets.proofs.BytesLaws.{neither}
use Rattle.wire.specs.Layout.{two_step}
use Rattle.record.specs.Record.{with_delay, with_state, with_slave, with_peer}
use Rattle.fitness.specs.Fit.{slave_full, full, peer_full}
use Rattle.record.specs.Same.{same_identity}
use Rattle.rules.specs.Names.{Time, Header, Identity, Exchange, SlaveState, PortState, PeerState, Mechanism, Port, Context}
use Rattle.rules.specs.Worked.{Worked, worked, ◌then◌, a_time, less_correction, plus_correction}
use Rattle.rules.specs.Events.{Done, nothing, changed}
use Rattle.rules.specs.Exchanges.{Change, stays, becomes, delay_answered, delay_stamped, peer_stamped, responded, responded_later}
use Rattle.rules.specs.Measuring.{complete, measure_delay, recovered, peer_complete, measure_peer}
use Rattle.rules.specs.Rules.{keeping, delay_resp, becomes_faulty, peer_answer, p_delay_resp, p_delay_resp_follow_up, stamped, request}
use Rattle.rules.specs.WorkedOut.{opened, differs, answered_by, second}
use Rattle.rules.specs.Held.{send_filled, receive_filled, taken_out, delay_resp_held, delay_stamp_held, new_delay, request_held, peer_taken_out, peer_stamp_held, p_delay_resp_held, p_delay_resp_follow_up_held}
use Rattle.rules.proofs.AgreeLaws.{by_test, then_then}
use Rattle.rules.proofs.SettleLaws.{settle_delay, settle_peer}
use Rattle.rules.proofs.PeerLaws.{second_same}
use Rattle.rules.specs.SumsLaws.{Open}
use Rattle.rules.specs.AllLaws.{All, Silent}
use Rattle.rules.proofs.AllLaws.{all_timed}
use Rattle.rules.proofs.RuleLaws.{all_measure_delay, all_measure_peer}
use Rattle.rules.specs.HeldSyncLaws.{EndsAs, OnlySlave}
use Rattle.rules.proofs.HeldSyncLaws.{own_state, all_time}

-- ---- the delay exchange

module _ (p : Port) (s : SlaveState) (q : peer_full p.peer ≡ false) (f : full s.sync ≡ false) where
  abbrev asked : Exchange → Port
  asked x = with_slave p (with_delay s x)

  abbrev Delays : Exchange → Exchange → Worked Done → Type 0
  Delays x y w = All (EndsAs (new_delay (asked x) y)) w

  measured_delay : (x y : Exchange) → Delays x (taken_out y) (complete y (nothing (asked y)) (measure_delay (asked y) (with_delay s y)))
  measured_delay x Exchange.Empty = record { state = refl; peer = refl }
  measured_delay x (Exchange.Measuring id None receive) = record { state = refl; peer = refl }
  measured_delay x (Exchange.Measuring id (Some a) None) = record { state = refl; peer = refl }
  measured_delay x (Exchange.Measuring id (Some a) (Some b)) =
      let y : Exchange = Exchange.Measuring id (Some a) (Some b) in
      all_measure_delay (EndsAs (new_delay (asked x) Exchange.Empty)) Silent tt (asked y) (with_delay s y) a b (λ raw delay. record { state = refl; peer = refl })

  stored_delay : (x y : Exchange) → Delays x (taken_out y) (keeping (asked x) asked (becomes y))
  stored_delay x y = subst (Delays x (taken_out y)) (sym (settle_delay p s y q f)) (measured_delay x y)

  still_delay : (x : Exchange) → full x ≡ false → Delays x (taken_out x) (keeping (asked x) asked stays)
  still_delay x e =
      subst (λ (b : Bool). Delays x (cond b Exchange.Empty x) (keeping (asked x) asked stays)) (sym e) (record { state = refl; peer = refl })

  stamp_exchange : (id : ℕ) (t : Time) (x : Exchange) → full x ≡ false → Delays x (cond (opened id x) (taken_out (send_filled t x)) x) (keeping (asked x) asked (delay_stamped id t x))
  unfolding delay_stamped
  stamp_exchange id t Exchange.Empty e = record { state = refl; peer = refl }
  stamp_exchange id t (Exchange.Measuring k None receive) e =
      let x : Exchange = Exchange.Measuring k None receive in
      let y : Exchange = Exchange.Measuring k (Some t) receive in
      by_test (λ b c. Delays x (cond b (taken_out y) x) (keeping (asked x) asked c)) (eqb k id) (becomes y) stays
      (stored_delay x y)
      (record { state = refl; peer = refl })
  stamp_exchange id t (Exchange.Measuring k (Some u) receive) e =
      let x : Exchange = Exchange.Measuring k (Some u) receive in
      by_test (λ b c. Delays x (cond b (taken_out x) x) (keeping (asked x) asked c)) (eqb k id) stays stays
      (still_delay x e)
      (record { state = refl; peer = refl })

  pub delay_stamp_holds : full s.delay ≡ false → (id : ℕ) (t : Time) → All (EndsAs (new_delay (with_slave p s) (delay_stamp_held (with_slave p s) id t))) (stamped (with_slave p s) t (Context.DelayReq id))
  unfolding stamped
  delay_stamp_holds e id t = stamp_exchange id t s.delay e

  abbrev rest : Exchange → Worked (Change Exchange) → Worked Done
  rest x w = w then λ c. keeping (asked x) asked c

  answer_exchange : (id : ℕ) (z : ℤ) (x : Exchange) → full x ≡ false → Delays x (cond (opened id x) (taken_out (receive_filled (time_words z) x)) x) (rest x (delay_answered id (a_time (time_of z)) x))
  unfolding delay_answered
  answer_exchange id z Exchange.Empty e = record { state = refl; peer = refl }
  answer_exchange id z (Exchange.Measuring k send (Some u)) e =
      let x : Exchange = Exchange.Measuring k send (Some u) in
      by_test (λ b c. Delays x (cond b (taken_out x) x) (rest x c)) (eqb k id) (worked stays) (worked stays)
      (still_delay x e)
      (record { state = refl; peer = refl })
  answer_exchange id z (Exchange.Measuring k send None) e =
      let x : Exchange = Exchange.Measuring k send None in
      let y : Time → Exchange = λ t. Exchange.Measuring k send (Some t) in
      by_test (λ b c. Delays x (cond b (taken_out (y (time_words z))) x) (rest x c)) (eqb k id) (a_time (time_of z) then λ t. worked (becomes (y t))) (worked stays)
      (subst (Delays x (taken_out (y (time_words z)))) (sym (then_then (a_time (time_of z)) (λ t. worked (becomes (y t))) (λ c. keeping (asked x) asked c)))
      (all_time (EndsAs (new_delay (asked x) (taken_out (y (time_words z))))) z _ (λ i. stored_delay x (y (time_words z)))))
      (record { state = refl; peer = refl })

  pub delay_resp_holds : full s.delay ≡ false → (h : Header) (requester : Identity) (timestamp : Time) → All (EndsAs (new_delay (with_slave p s) (delay_resp_held (with_slave p s) h requester (time_words (time timestamp -ℤ correction h.correction))))) (delay_resp (with_slave p s) h requester timestamp)
  unfolding delay_resp less_correction
  delay_resp_holds e h requester timestamp =
      let z : ℤ = time timestamp -ℤ correction h.correction in
      let x : Exchange = s.delay in
      let y : Exchange = taken_out (receive_filled (time_words z) x) in
      let from : Bool = same_identity s.master h.source in
      by_test (λ b w. Delays x (cond (b && from && opened h.id x) y x) w) (same_identity p.config.identity requester) _ _
      (by_test (λ b w. Delays x (cond (b && opened h.id x) y x) w) from _ _
      (answer_exchange h.id z x e)
      (record { state = refl; peer = refl }))
      (record { state = refl; peer = refl })

-- ---- the same in every state, and the request

module _ (p : Port) where
  abbrev being : PortState → Port
  being state = with_state p state

  deaf : (r q : Port) (us : Bool) → EndsAs r (changed q false) → All (EndsAs r) (cond us (nothing q) (nothing q))
  deaf r q true k = k
  deaf r q false k = k

  pub delay_resp_by : (h : Header) (requester : Identity) (t : Time) (state : PortState) → Open (being state) → All (EndsAs (new_delay (being state) (delay_resp_held (being state) h requester (time_words (time t -ℤ correction h.correction))))) (delay_resp (being state) h requester t)
  unfolding delay_resp
  delay_resp_by h requester t PortState.Listening o =
      deaf _ (being PortState.Listening) (same_identity p.config.identity requester) (record { state = tt; peer = refl })
  delay_resp_by h requester t PortState.Master o =
      deaf _ (being PortState.Master) (same_identity p.config.identity requester) (record { state = tt; peer = refl })
  delay_resp_by h requester t PortState.Passive o =
      deaf _ (being PortState.Passive) (same_identity p.config.identity requester) (record { state = tt; peer = refl })
  delay_resp_by h requester t PortState.Faulty o =
      deaf _ (being PortState.Faulty) (same_identity p.config.identity requester) (record { state = tt; peer = refl })
  delay_resp_by h requester t (PortState.Slave s) o =
      let (f, g) = neither (full s.sync) (full s.delay) o.slave in
      delay_resp_holds p s o.peer f g h requester t

  pub delay_stamp_by : (id : ℕ) (t : Time) (state : PortState) → Open (being state) → All (EndsAs (new_delay (being state) (delay_stamp_held (being state) id t))) (stamped (being state) t (Context.DelayReq id))
  unfolding stamped
  delay_stamp_by id t PortState.Listening o = record { state = tt; peer = refl }
  delay_stamp_by id t PortState.Master o = record { state = tt; peer = refl }
  delay_stamp_by id t PortState.Passive o = record { state = tt; peer = refl }
  delay_stamp_by id t PortState.Faulty o = record { state = tt; peer = refl }
  delay_stamp_by id t (PortState.Slave s) o =
      let (f, g) = neither (full s.sync) (full s.delay) o.slave in
      delay_stamp_holds p s o.peer f g id t

  pub request_by : (draw : ℕ) (m : Mechanism) (state : PortState) → All (EndsAs (request_held (being state) m)) (request (being state) draw m)
  request_by draw Mechanism.EndToEnd PortState.Listening = record { state = tt; peer = refl }
  request_by draw Mechanism.EndToEnd PortState.Master = record { state = tt; peer = refl }
  request_by draw Mechanism.EndToEnd PortState.Passive = record { state = tt; peer = refl }
  request_by draw Mechanism.EndToEnd PortState.Faulty = record { state = tt; peer = refl }
  request_by draw Mechanism.EndToEnd (PortState.Slave s) =
      all_timed (EndsAs (request_held (being (PortState.Slave s)) Mechanism.EndToEnd)) Silent tt tt (delay_timer_of p.config.delay_interval draw) _ (λ ns k. record { state = refl; peer = refl })
  request_by draw Mechanism.Peer state =
      all_timed (EndsAs (request_held (being state) Mechanism.Peer)) Silent tt tt (delay_timer_of p.config.delay_interval draw) _ (λ ns k. record { state = own_state state; peer = refl })

-- ---- the peer exchange: a Slave stays the Slave it was

recovered_state : (state : PortState) → OnlySlave state (recovered state)
recovered_state PortState.Listening = tt
recovered_state PortState.Master = tt
recovered_state PortState.Passive = tt
recovered_state PortState.Faulty = tt
recovered_state (PortState.Slave s) = refl

-- a test, with what it said where it holds
by_open : {A : Type 0} (P : Bool → A → Type 0) (t : Bool) (a b : A) → (t ≡ true → P true a) → P false b → P t (cond t a b)
by_open P true a b x y = x refl
by_open P false a b x y = y

module _ (p : Port) (n : slave_full p.state ≡ false) where
  -- the peer exchange is y in the end
  abbrev Peers : PeerState → Worked Done → Type 0
  Peers y w = All (EndsAs (with_peer p y)) w

  abbrev keeps : PeerState → Change PeerState → Worked Done
  keeps q c = keeping (with_peer p q) (with_peer p) c

  still : (q : PeerState) → Peers q (keeps q stays)
  still q = record { state = own_state p.state; peer = refl }

  -- ---- an exchange that is stored
  settled : (id : ℕ) (w : Option Identity) (a b c d : Option Time) → Peers (peer_taken_out id w a b c d) (peer_complete (PeerState.Measuring id w a b c d) (nothing (with_peer p (PeerState.Measuring id w a b c d))) (measure_peer (with_peer p (PeerState.Measuring id w a b c d))))
  settled id None None b c d = still _
  settled id None (Some a) None c d = still _
  settled id None (Some a) (Some b) None d = still _
  settled id None (Some a) (Some b) (Some c) None = still _
  settled id None (Some a) (Some b) (Some c) (Some d) = still _
  settled id (Some i) None b c d = still _
  settled id (Some i) (Some a) None c d = still _
  settled id (Some i) (Some a) (Some b) None d = still _
  settled id (Some i) (Some a) (Some b) (Some c) None = still _
  settled id (Some i) (Some a) (Some b) (Some c) (Some d) =
      all_measure_peer (EndsAs (with_peer p (PeerState.Measured id i))) Silent tt (with_peer p (PeerState.Measuring id (Some i) (Some a) (Some b) (Some c) (Some d))) id i a b c d
      (λ twice. record { state = recovered_state p.state; peer = refl })

  stored : (q : PeerState) (id : ℕ) (w : Option Identity) (a b c d : Option Time) → Peers (peer_taken_out id w a b c d) (keeps q (becomes (PeerState.Measuring id w a b c d)))
  stored q id w a b c d =
      subst (Peers (peer_taken_out id w a b c d)) (sym (settle_peer p (PeerState.Measuring id w a b c d) n)) (settled id w a b c d)

  -- ---- the stamp
  pub peer_stamp_holds : (q : PeerState) (id : ℕ) (t : Time) → Peers (peer_stamp_held (with_peer p q) id t) (stamped (with_peer p q) t (Context.PDelayReq id))
  unfolding stamped peer_stamped
  peer_stamp_holds PeerState.Empty id t = still PeerState.Empty
  peer_stamp_holds (PeerState.Measured k w) id t = still (PeerState.Measured k w)
  peer_stamp_holds (PeerState.Measuring k w (Some a) b c d) id t =
      let q : PeerState = PeerState.Measuring k w (Some a) b c d in
      by_test (λ o x. Peers (cond (o && false) (peer_taken_out id (cond o w None) (Some t) b c d) q) (keeps q x)) (eqb k id) stays stays (still q) (still q)
  peer_stamp_holds (PeerState.Measuring k w None b c d) id t =
      let q : PeerState = PeerState.Measuring k w None b c d in
      by_open (λ o x. Peers (cond (o && true) (peer_taken_out id (cond o w None) (Some t) b c d) q) (keeps q x)) (eqb k id) (becomes (PeerState.Measuring k w (Some t) b c d)) stays
      (λ e.
      subst (λ (j : ℕ). Peers (peer_taken_out id w (Some t) b c d) (keeps q (becomes (PeerState.Measuring j w (Some t) b c d)))) (sym (eqb-true k id e)) (stored q id w (Some t) b c d))
      (still q)

  -- ---- the answers
  module _ (h : Header) (requester : Identity) where
    -- for us, and from no second responder
    answer_holds : (q : PeerState) (answer : Worked (Change PeerState)) (o m : Bool) (y : PeerState) → Peers (cond (o && m) y q) (answer then λ x. keeps q x) → Peers (cond (same_identity p.config.identity requester && not (second (with_peer p q) h requester) && o && m) y q) (peer_answer (with_peer p q) h requester answer)
    unfolding peer_answer
    answer_holds q answer o m y k =
        let d : Bool = differs (answered_by h.id q) h.source in
        let z : Bool → Bool → PeerState = λ us e. cond (us && not (us && e) && o && m) y q in
        let one : Worked Done = answer then λ x. keeps q x in
        let two : Worked Done = worked (becomes_faulty (with_peer p q)) in
        by_test (λ us w. Peers (z us d) w) (same_identity p.config.identity requester) _ _
        (subst (λ (t : Bool). Peers (z true d) (cond t two one)) (sym (second_same h q))
        (by_test (λ e w. Peers (z true e) w) d two one (record { state = tt; peer = refl }) k))
        (still q)

    idle : (q : PeerState) (o : Bool) (y : PeerState) → Peers (cond (o && false) y q) (cond o (worked stays) (worked stays) then λ x. keeps q x)
    idle q o y = by_test (λ t c. Peers (cond (t && false) y q) (c then λ x. keeps q x)) o (worked stays) (worked stays) (still q) (still q)

    -- what a measuring exchange of this id waits for
    awaited : (q : PeerState) (k id : ℕ) (z : ℤ) (x : ℕ → Time → PeerState) (y : PeerState) → Peers y (keeps q (becomes (x id (time_words z)))) → Peers (cond (eqb k id && true) y q) (cond (eqb k id) (a_time (time_of z) then λ t. worked (becomes (x k t))) (worked stays) then λ c. keeps q c)
    awaited q k id z x y each =
        by_open (λ o a. Peers (cond (o && true) y q) (a then λ c. keeps q c)) (eqb k id) (a_time (time_of z) then λ t. worked (becomes (x k t))) (worked stays)
        (λ e.
        subst (Peers y) (sym (then_then (a_time (time_of z)) (λ t. worked (becomes (x k t))) (λ c. keeps q c)))
        (all_time (EndsAs (with_peer p y)) z _ (λ i.
        subst (λ (j : ℕ). Peers y (keeps q (becomes (x j (time_words z))))) (sym (eqb-true k id e)) each)))
        (still q)

    pub pdelay_resp_holds : (q : PeerState) (body at : Time) → Peers (p_delay_resp_held (with_peer p q) h requester body (time_words (time at -ℤ correction h.correction))) (p_delay_resp (with_peer p q) h requester body at)
    unfolding p_delay_resp less_correction responded
    pdelay_resp_holds PeerState.Empty body at = answer_holds PeerState.Empty (worked stays) false _ _ (still PeerState.Empty)
    pdelay_resp_holds (PeerState.Measured k w) body at = answer_holds (PeerState.Measured k w) (worked stays) false _ _ (still (PeerState.Measured k w))
    pdelay_resp_holds (PeerState.Measuring k w a b c (Some d)) body at =
        let q : PeerState = PeerState.Measuring k w a b c (Some d) in
        answer_holds q _ (eqb k h.id) false _ (idle q (eqb k h.id) _)
    pdelay_resp_holds (PeerState.Measuring k w a b c None) body at =
        let q : PeerState = PeerState.Measuring k w a b c None in
        let i : Option Identity = Some h.source in
        let came : Option Time = Some body in
        let send : Option Time = cond (two_step h) c came in
        let z : ℤ = time at -ℤ correction h.correction in
        answer_holds q _ (eqb k h.id) true _
        (awaited q k h.id z (λ j t. PeerState.Measuring j i a came send (Some t)) (peer_taken_out h.id i a came send (Some (time_words z)))
        (stored q h.id i a came send (Some (time_words z))))

    pub pdelay_resp_follow_up_holds : (q : PeerState) (timestamp : Time) → Peers (p_delay_resp_follow_up_held (with_peer p q) h requester (time_words (time timestamp +ℤ correction h.correction))) (p_delay_resp_follow_up (with_peer p q) h requester timestamp)
    unfolding p_delay_resp_follow_up plus_correction responded_later
    pdelay_resp_follow_up_holds PeerState.Empty timestamp = answer_holds PeerState.Empty (worked stays) false _ _ (still PeerState.Empty)
    pdelay_resp_follow_up_holds (PeerState.Measured k w) timestamp = answer_holds (PeerState.Measured k w) (worked stays) false _ _ (still (PeerState.Measured k w))
    pdelay_resp_follow_up_holds (PeerState.Measuring k w a b (Some c) d) timestamp =
        let q : PeerState = PeerState.Measuring k w a b (Some c) d in
        answer_holds q _ (eqb k h.id) false _ (idle q (eqb k h.id) _)
    pdelay_resp_follow_up_holds (PeerState.Measuring k w a b None d) timestamp =
        let q : PeerState = PeerState.Measuring k w a b None d in
        let i : Option Identity = Some h.source in
        let z : ℤ = time timestamp +ℤ correction h.correction in
        answer_holds q _ (eqb k h.id) true _
        (awaited q k h.id z (λ j t. PeerState.Measuring j i a b (Some t) d) (peer_taken_out h.id i a b (Some (time_words z)) d)
        (stored q h.id i a b (Some (time_words z)) d))
