-- The peer answers and the stamp of a PDelayReq beside the numbers of `WorkedOut`.
use Rattle.std.specs.Prelude.{ℕ, ◌≡◌, refl, ◌&&◌, [], eqb, ◌+ℤ◌, ◌-ℤ◌, Option, Some, None}
use Rattle.std.proofs.Common.{sym, subst, eq-eqb}
use Rattle.std.proofs.Math.Bool.{Bool, true, false, cond, not}
use Rattle.std.proofs.Math.IntN.{ℤ}
use Rattle.rules.specs.Names.{Time, Header, Identity, PeerState, Context, Port}
use Rattle.time.specs.Units.{time, time_of, correction}
use Rattle.wire.specs.Layout.{two_step}
use Rattle.octets.proofs.BytesLaws.{apart}
use Rattle.record.specs.Record.{with_peer}
use Rattle.fitness.specs.Fit.{slave_full, unanswered}
use Rattle.record.specs.Same.{same_identity}
use Rattle.rules.specs.Worked.{Worked, worked, ◌then◌, less_correction, plus_correction, a_time}
use Rattle.rules.specs.Events.{Done, nothing}
use Rattle.rules.specs.Measuring.{peer_complete, measure_peer}
use Rattle.rules.specs.Exchanges.{Change, stays, becomes, peer_stamped, second_responder, responded, responded_later}
use Rattle.rules.specs.Rules.{keeping, becomes_faulty, peer_answer, p_delay_resp, p_delay_resp_follow_up, stamped}
use Rattle.rules.specs.WorkedOut.{Completed, peer, peer_opened, held, Sums, corrected, no_sums, numbers_of, differs, answered_by, second, p_delay_resp_sums, p_delay_resp_follow_up_sums, stamp_sums}
use Rattle.rules.proofs.AgreeLaws.{by_test, agrees_time, then_then}
use Rattle.rules.specs.MeasureLaws.{Judged, SumsJudged}
use Rattle.rules.proofs.MeasureLaws.{peer_judged}
use Rattle.rules.proofs.SettleLaws.{settle_peer}

-- another responder to the request that is open or measured, said in two ways
pub second_same : (h : Header) (q : PeerState) → second_responder h q ≡ differs (answered_by h.id q) h.source
unfolding second_responder
second_same h PeerState.Empty = refl
second_same h (PeerState.Measuring k w a b c d) =
    by_test (λ t x. t && differs w h.source ≡ differs x h.source) (eqb k h.id) w None refl refl
second_same h (PeerState.Measured k w) =
    by_test (λ t x. t && differs (Some w) h.source ≡ differs x h.source) (eqb k h.id) (Some w) None refl refl

-- the exchange is q; no other is complete
module _ (p : Port) (n : slave_full p.state ≡ false) (q : PeerState) where
  abbrev port : Port
  port = with_peer p q

  abbrev JudgedStored : Completed → PeerState → Type 0
  JudgedStored c x = Judged port c (peer_complete x (nothing (with_peer p x)) (measure_peer (with_peer p x)))

  stored : (x : PeerState) (c : Completed) → JudgedStored c x → Judged port c (keeping port (with_peer port) (becomes x))
  stored x c j = subst (Judged port c) (sym (settle_peer p x n)) j

  -- an answer to us is judged where no second responder gives it
  answer_judged : (h : Header) (requester : Identity) (answer : Worked (Change PeerState)) (o m : Bool) (c : Sums) → SumsJudged port (cond (o && m) c no_sums) (answer then λ x. keeping port (with_peer port) x) → SumsJudged port (cond (same_identity p.config.identity requester && not (second port h requester) && o && m) c no_sums) (peer_answer port h requester answer)
  unfolding peer_answer
  answer_judged h requester answer o m c j =
      let d : Bool = differs (answered_by h.id q) h.source in
      let sums : Bool → Bool → Sums = λ us e. cond (us && not (us && e) && o && m) c no_sums in
      by_test (λ us w. SumsJudged port (sums us d) w) (same_identity p.config.identity requester) _ _
      (subst (λ (t : Bool). SumsJudged port (sums true d) (cond t (worked (becomes_faulty port)) (answer then λ x. keeping port (with_peer port) x))) (sym (second_same h q))
      (by_test (λ e w. SumsJudged port (sums true e) w) d (worked (becomes_faulty port)) (answer then λ x. keeping port (with_peer port) x) (refl, tt) j))
      (refl, tt)

-- ---- what is stored: three shapes of one exchange, by which time was missing

module _ (p : Port) (n : slave_full p.state ≡ false) (k : ℕ) where
  -- all four times are there
  all_four : (q : PeerState) → peer_opened k q ≡ true → (w : Identity) (t1 t2 t3 t4 : Time) → JudgedStored p n q (peer (time t1) (time t2) (time t3) (time t4)) (PeerState.Measuring k (Some w) (Some t1) (Some t2) (Some t3) (Some t4))
  all_four q o w t1 t2 t3 t4 =
      peer_judged (with_peer p q) (PeerState.Measuring k (Some w) (Some t1) (Some t2) (Some t3) (Some t4)) k w t1 t2 t3 t4 o

  -- the request's send was missing
  asked : (w : Option Identity) (b c d : Option Time) → unanswered (PeerState.Measuring k w None b c d) ≡ false → (t : Time) → JudgedStored p n (PeerState.Measuring k w None b c d) (held b (λ came. held c (λ send. held d (λ receive. peer (time t) came send receive)))) (PeerState.Measuring k w (Some t) b c d)
  asked w None c d u t = (refl, tt)
  asked w (Some b) None d u t = (refl, tt)
  asked w (Some b) (Some c) None u t = (refl, tt)
  asked None (Some b) (Some c) (Some d) u t = absurd (apart cc)
  asked (Some w) (Some b) (Some c) (Some d) u t =
      all_four (PeerState.Measuring k (Some w) None (Some b) (Some c) (Some d)) (eq-eqb k k refl) w t b c d

  -- the response was missing; it brings the request's receive time, and one-step the response's send time
  answered : (w : Option Identity) (i : Identity) (a b c : Option Time) (body t : Time) (two : Bool) → JudgedStored p n (PeerState.Measuring k w a b c None) (held a (λ from. cond two (held c (λ send. peer from (time body) send (time t))) (peer from (time body) (time body) (time t)))) (PeerState.Measuring k (Some i) a (Some body) (cond two c (Some body)) (Some t))
  answered w i None b c body t two = (refl, tt)
  answered w i (Some a) b None body t true = (refl, tt)
  answered w i (Some a) b (Some c) body t true =
      all_four (PeerState.Measuring k w (Some a) b (Some c) None) (eq-eqb k k refl) i a body c t
  answered w i (Some a) b c body t false =
      all_four (PeerState.Measuring k w (Some a) b c None) (eq-eqb k k refl) i a body body t

  -- the follow-up was missing
  followed : (w : Option Identity) (i : Identity) (a b d : Option Time) (t : Time) → JudgedStored p n (PeerState.Measuring k w a b None d) (held a (λ from. held b (λ came. held d (λ receive. peer from came (time t) receive)))) (PeerState.Measuring k (Some i) a b (Some t) d)
  followed w i None b d t = (refl, tt)
  followed w i (Some a) None d t = (refl, tt)
  followed w i (Some a) (Some b) None t = (refl, tt)
  followed w i (Some a) (Some b) (Some d) t =
      all_four (PeerState.Measuring k w (Some a) (Some b) None (Some d)) (eq-eqb k k refl) i a b t d

-- ---- the rules

module _ (p : Port) (n : slave_full p.state ≡ false) where
  pub peer_stamp_sums_lem : (q : PeerState) → unanswered q ≡ false → (id : ℕ) (t : Time) → SumsJudged (with_peer p q) (stamp_sums (with_peer p q) t (Context.PDelayReq id)) (stamped (with_peer p q) t (Context.PDelayReq id))
  unfolding stamped peer_stamped
  peer_stamp_sums_lem PeerState.Empty u id t = (refl, tt)
  peer_stamp_sums_lem (PeerState.Measured k w) u id t = (refl, tt)
  peer_stamp_sums_lem (PeerState.Measuring k w (Some a) b c d) u id t =
      let q : PeerState = PeerState.Measuring k w (Some a) b c d in
      by_test (λ o x. SumsJudged (with_peer p q) (cond (o && false) (record { numbers = []; completes = held b (λ came. held c (λ send. held d (λ receive. peer (time t) came send receive))) }) no_sums) (keeping (with_peer p q) (with_peer (with_peer p q)) x)) (eqb k id) stays stays
      (refl, tt)
      (refl, tt)
  peer_stamp_sums_lem (PeerState.Measuring k w None b c d) u id t =
      let q : PeerState = PeerState.Measuring k w None b c d in
      let x : PeerState = PeerState.Measuring k w (Some t) b c d in
      let e : Completed = held b (λ came. held c (λ send. held d (λ receive. peer (time t) came send receive))) in
      by_test (λ o x. SumsJudged (with_peer p q) (cond (o && true) (record { numbers = []; completes = e }) no_sums) (keeping (with_peer p q) (with_peer (with_peer p q)) x)) (eqb k id) (becomes x) stays
      (stored p n q x e (asked p n k w b c d u t))
      (refl, tt)

  -- a sum, then what it stores
  summed : (q : PeerState) (z : ℤ) (c : ℤ → Completed) (x : Time → PeerState) → ((t : Time) → JudgedStored p n q (c (time t)) (x t)) → SumsJudged (with_peer p q) (corrected z (c z)) ((a_time (time_of z) then λ t. worked (becomes (x t))) then λ y. keeping (with_peer p q) (with_peer (with_peer p q)) y)
  summed q z c x each =
      let k : Change PeerState → Worked Done = λ y. keeping (with_peer p q) (with_peer (with_peer p q)) y in
      subst (SumsJudged (with_peer p q) (corrected z (c z))) (sym (then_then (a_time (time_of z)) (λ t. worked (becomes (x t))) k))
      (agrees_time z (numbers_of (with_peer p q) (c z)) _ _ (λ t i.
      subst (λ (y : ℤ). Judged (with_peer p q) (c y) (k (becomes (x t)))) i.value (stored p n q (x t) (c (time t)) (each t))))

  module _ (h : Header) (requester : Identity) where
    -- an answer that can change nothing
    idle : (q : PeerState) (o : Bool) (c : Sums) → SumsJudged (with_peer p q) (cond (o && false) c no_sums) (cond o (worked stays) (worked stays) then λ y. keeping (with_peer p q) (with_peer (with_peer p q)) y)
    idle q o c =
        by_test (λ t x. SumsJudged (with_peer p q) (cond (t && false) c no_sums) (x then λ y. keeping (with_peer p q) (with_peer (with_peer p q)) y)) o (worked stays) (worked stays)
        (refl, tt)
        (refl, tt)

    -- an answer that a measuring exchange of its id waits for
    awaited : (q : PeerState) (o : Bool) (z : ℤ) (c : ℤ → Completed) (x : Time → PeerState) → ((t : Time) → JudgedStored p n q (c (time t)) (x t)) → SumsJudged (with_peer p q) (cond (o && true) (corrected z (c z)) no_sums) (cond o (a_time (time_of z) then λ t. worked (becomes (x t))) (worked stays) then λ y. keeping (with_peer p q) (with_peer (with_peer p q)) y)
    awaited q o z c x each =
        by_test (λ t a. SumsJudged (with_peer p q) (cond (t && true) (corrected z (c z)) no_sums) (a then λ y. keeping (with_peer p q) (with_peer (with_peer p q)) y)) o _ (worked stays)
        (summed q z c x each)
        (refl, tt)

    pub pdelay_resp_sums : (q : PeerState) (body at : Time) → SumsJudged (with_peer p q) (p_delay_resp_sums (with_peer p q) h requester (time body) (time at -ℤ correction h.correction)) (p_delay_resp (with_peer p q) h requester body at)
    unfolding p_delay_resp less_correction responded
    pdelay_resp_sums PeerState.Empty body at = answer_judged p n PeerState.Empty h requester (worked stays) false _ _ (refl, tt)
    pdelay_resp_sums (PeerState.Measured k w) body at = answer_judged p n (PeerState.Measured k w) h requester (worked stays) false _ _ (refl, tt)
    pdelay_resp_sums (PeerState.Measuring k w a b c (Some d)) body at =
        let q : PeerState = PeerState.Measuring k w a b c (Some d) in
        answer_judged p n q h requester _ (eqb k h.id) false _ (idle q (eqb k h.id) _)
    pdelay_resp_sums (PeerState.Measuring k w a b c None) body at =
        let q : PeerState = PeerState.Measuring k w a b c None in
        let e : ℤ → Completed = λ z. held a (λ from. cond (two_step h) (held c (λ send. peer from (time body) send z)) (peer from (time body) (time body) z)) in
        let x : Time → PeerState = λ t. PeerState.Measuring k (Some h.source) a (Some body) (cond (two_step h) c (Some body)) (Some t) in
        answer_judged p n q h requester _ (eqb k h.id) true _
        (awaited q (eqb k h.id) (time at -ℤ correction h.correction) e x (λ t. answered p n k w h.source a b c body t (two_step h)))

    pub pdelay_resp_follow_up_sums : (q : PeerState) (timestamp : Time) → SumsJudged (with_peer p q) (p_delay_resp_follow_up_sums (with_peer p q) h requester (time timestamp +ℤ correction h.correction)) (p_delay_resp_follow_up (with_peer p q) h requester timestamp)
    unfolding p_delay_resp_follow_up plus_correction responded_later
    pdelay_resp_follow_up_sums PeerState.Empty timestamp = answer_judged p n PeerState.Empty h requester (worked stays) false _ _ (refl, tt)
    pdelay_resp_follow_up_sums (PeerState.Measured k w) timestamp = answer_judged p n (PeerState.Measured k w) h requester (worked stays) false _ _ (refl, tt)
    pdelay_resp_follow_up_sums (PeerState.Measuring k w a b (Some c) d) timestamp =
        let q : PeerState = PeerState.Measuring k w a b (Some c) d in
        answer_judged p n q h requester _ (eqb k h.id) false _ (idle q (eqb k h.id) _)
    pdelay_resp_follow_up_sums (PeerState.Measuring k w a b None d) timestamp =
        let q : PeerState = PeerState.Measuring k w a b None d in
        let e : ℤ → Completed = λ z. held a (λ from. held b (λ came. held d (λ receive. peer from came z receive))) in
        let x : Time → PeerState = λ t. PeerState.Measuring k (Some h.source) a b (Some t) d in
        answer_judged p n q h requester _ (eqb k h.id) true _
        (awaited q (eqb k h.id) (time timestamp +ℤ correction h.correction) e x (λ t. followed p n k w h.source a b d t))
