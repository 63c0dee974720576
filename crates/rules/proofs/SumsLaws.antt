-- Every rule beside what 01 has worked out for its event: on a record that is fit it refuses with 7 exactly where a number leaves its range, with nothing else, and otherwise measures exactly what the event completes.
use Rattle.std.specs.Prelude.{ℕ, ◌≡◌, refl, Bool, true, false, cond, ◌&&◌, ◌||◌, ◌++◌, ◌+ℤ◌, ◌-ℤ◌}
use Rattle.rules.specs.Names.{Time, Identity, Header, Body, PortState, Context, Port}
use Rattle.time.specs.Units.{time, correction}
use Rattle.octets.proofs.BytesLaws.{neither}
use Rattle.record.specs.Record.{with_state}
use Rattle.fitness.specs.Fit.{sync_timeless, slave_full, unfit, full, unanswered, peer_full, any_out, slave_times, peer_times, config_out}
use Rattle.record.specs.Same.{same_identity}
use Rattle.rules.specs.Events.{nothing}
use Rattle.rules.specs.Rules.{sync, follow_up, delay_resp, stamped, on_event, on_general}
use Rattle.rules.specs.WorkedOut.{Sums, no_sums, sync_sums, follow_up_sums, delay_resp_sums, stamp_sums, event_sums, later_sums}
use Rattle.rules.specs.MeasureLaws.{SumsJudged}
use Rattle.rules.proofs.SyncLaws.{sync_sums_lem, follow_up_sums_lem}
use Rattle.rules.proofs.DelayLaws.{delay_stamp_sums_lem, delay_resp_sums_lem}
use Rattle.rules.proofs.PeerLaws.{peer_stamp_sums_lem, pdelay_resp_sums, pdelay_resp_follow_up_sums}
use Rattle.rules.proofs.SendLaws.{pdelay_req_sums, delay_req_sums, sync_stamp_sums, response_stamp_sums}
use Rattle.rules.specs.SumsLaws.{Open}

pub fit_open : (p : Port) → unfit p ≡ false → Open p
unfolding unfit
fit_open p e =
    let times : Bool = any_out (slave_times p.state ++ peer_times p.peer) || config_out p.config in
    let t : Bool = sync_timeless p.state in
    let u : Bool = unanswered p.peer in
    let (d, f) = neither (times || t || u || slave_full p.state) (peer_full p.peer) e in
    let (c, s) = neither (times || t || u) (slave_full p.state) d in
    let (b, a) = neither (times || t) u c in
    record { timed = (neither times t b).1; slave = s; answered = a; peer = f }

-- ---- messages that only a Slave hears

module _ (p : Port) (h : Header) where
  sync_by : (origin at : Time) (state : PortState) → Open (with_state p state) → SumsJudged (with_state p state) (sync_sums (with_state p state) h (time origin) (time at -ℤ correction h.correction)) (sync (with_state p state) h origin at)
  unfolding sync
  sync_by origin at PortState.Listening o = (refl, tt)
  sync_by origin at PortState.Master o = (refl, tt)
  sync_by origin at PortState.Passive o = (refl, tt)
  sync_by origin at PortState.Faulty o = (refl, tt)
  sync_by origin at (PortState.Slave s) o =
      let (f, g) = neither (full s.sync) (full s.delay) o.slave in
      sync_sums_lem p s o.peer o.timed f g h origin at

  follow_up_by : (t : Time) (state : PortState) → Open (with_state p state) → SumsJudged (with_state p state) (follow_up_sums (with_state p state) h (time t +ℤ correction h.correction)) (follow_up (with_state p state) h t)
  unfolding follow_up
  follow_up_by t PortState.Listening o = (refl, tt)
  follow_up_by t PortState.Master o = (refl, tt)
  follow_up_by t PortState.Passive o = (refl, tt)
  follow_up_by t PortState.Faulty o = (refl, tt)
  follow_up_by t (PortState.Slave s) o =
      let (f, g) = neither (full s.sync) (full s.delay) o.slave in
      follow_up_sums_lem p s o.peer o.timed f g h t

  deaf : (q : Port) (us : Bool) (c : Sums) → SumsJudged q (cond (us && false && false && true) c no_sums) (cond us (nothing q) (nothing q))
  deaf q true c = (refl, tt)
  deaf q false c = (refl, tt)

  delay_resp_by : (requester : Identity) (t : Time) (state : PortState) → Open (with_state p state) → SumsJudged (with_state p state) (delay_resp_sums (with_state p state) h requester (time t -ℤ correction h.correction)) (delay_resp (with_state p state) h requester t)
  unfolding delay_resp
  delay_resp_by requester t PortState.Listening o = deaf (with_state p PortState.Listening) (same_identity p.config.identity requester) _
  delay_resp_by requester t PortState.Master o = deaf (with_state p PortState.Master) (same_identity p.config.identity requester) _
  delay_resp_by requester t PortState.Passive o = deaf (with_state p PortState.Passive) (same_identity p.config.identity requester) _
  delay_resp_by requester t PortState.Faulty o = deaf (with_state p PortState.Faulty) (same_identity p.config.identity requester) _
  delay_resp_by requester t (PortState.Slave s) o =
      let (f, g) = neither (full s.sync) (full s.delay) o.slave in
      delay_resp_sums_lem p s o.peer f h requester t

module _ (p : Port) where
  delay_stamp_by : (id : ℕ) (t : Time) (state : PortState) → Open (with_state p state) → SumsJudged (with_state p state) (stamp_sums (with_state p state) t (Context.DelayReq id)) (stamped (with_state p state) t (Context.DelayReq id))
  unfolding stamped
  delay_stamp_by id t PortState.Listening o = (refl, tt)
  delay_stamp_by id t PortState.Master o = (refl, tt)
  delay_stamp_by id t PortState.Passive o = (refl, tt)
  delay_stamp_by id t PortState.Faulty o = (refl, tt)
  delay_stamp_by id t (PortState.Slave s) o = delay_stamp_sums_lem p s o.peer (neither (full s.sync) (full s.delay) o.slave).0 id t

-- ---- all of them

module _ (p : Port) (o : Open p) where
  pub later_judged : (h : Header) (b : Body) (t : Time) → SumsJudged p (later_sums p h b t) (on_general p h b t)
  unfolding on_general
  later_judged h (Body.Sync w) t = (refl, tt)
  later_judged h (Body.DelayReq w) t = (refl, tt)
  later_judged h (Body.PDelayReq w) t = (refl, tt)
  later_judged h (Body.PDelayResp w requester) t = (refl, tt)
  later_judged h (Body.FollowUp w) t = follow_up_by p h t p.state o
  later_judged h (Body.DelayResp w requester) t = delay_resp_by p h requester t p.state o
  later_judged h (Body.PDelayRespFollowUp w requester) t = pdelay_resp_follow_up_sums p o.slave h requester p.peer t

  pub event_judged : (at : Time) (h : Header) (b : Body) (t : Time) → SumsJudged p (event_sums p at h b t) (on_event p at h b t)
  unfolding on_event
  event_judged at h (Body.Sync w) t = sync_by p h t at p.state o
  event_judged at h (Body.DelayReq w) t = delay_req_sums p h at
  event_judged at h (Body.PDelayReq w) t = pdelay_req_sums p h at
  event_judged at h (Body.PDelayResp w requester) t = pdelay_resp_sums p o.slave h requester p.peer t at
  event_judged at h (Body.FollowUp w) t = follow_up_by p h t p.state o
  event_judged at h (Body.DelayResp w requester) t = delay_resp_by p h requester t p.state o
  event_judged at h (Body.PDelayRespFollowUp w requester) t = pdelay_resp_follow_up_sums p o.slave h requester p.peer t

  pub stamp_judged : (at : Time) (c : Context) → SumsJudged p (stamp_sums p at c) (stamped p at c)
  stamp_judged at (Context.Sync id) = sync_stamp_sums p id at
  stamp_judged at (Context.DelayReq id) = delay_stamp_by p id at p.state o
  stamp_judged at (Context.PDelayReq id) = peer_stamp_sums_lem p o.slave p.peer o.answered id at
  stamp_judged at (Context.PDelayResp id requester) = response_stamp_sums p id requester at
