-- What each rule can come to: a property that holds of every ending of a rule holds of what the rule gives. Each law hands on the equations that its rule's tests leave.
use Rattle.std.specs.Prelude.{◌≡◌, refl, Bool, true, false, eqb, [], ℕ, Option, Some, None, Ok}
use Rattle.std.proofs.Math.Path.{ap}
use Rattle.std.proofs.Common.{◌∙◌}
use Rattle.rules.specs.Names.{Time, Duration, Header, Identity, Message, Measurement, Exchange, SlaveState, PortState, PeerState, Port, Mechanism, Context, Action, Outcome}
use Rattle.time.specs.Units.{half_of}
use Rattle.timers.specs.Timers.{sync_timer_of, delay_timer_of}
use Rattle.sent.specs.Messages.{follow_up_of, delay_resp_of, p_delay_resp_of, p_delay_resp_follow_up_of}
use Rattle.record.specs.Record.{is_master, is_faulty, is_slave, with_sync, with_delay, with_slave, with_peer}
use Rattle.record.specs.Same.{same_identity}
use Rattle.rules.specs.Worked.{Worked, worked, less_correction, plus_correction, elapsed, less_duration}
use Rattle.rules.specs.Events.{Done, nothing, changed, sending}
use Rattle.rules.specs.Measuring.{measured, sync_out, delay_out, peer_out, less_mean, half_below, measure_sync, measure_delay, measure_peer, settle}
use Rattle.rules.specs.Exchanges.{Change, stays, becomes, synced, followed_up, delay_answered, delay_stamped, peer_stamped, second_responder, awaited, with_response, responded, responded_later}
use Rattle.rules.specs.Rules.{sync_sent, delay_sent, peer_sent, sender_of, from_master, becomes_faulty, sync, follow_up, delay_resp, peer_answer, p_delay_resp, p_delay_resp_follow_up, delay_req, p_delay_req, stamped, request, delay_timer_ends, sync_timer_ends}
use Rattle.rules.specs.AllLaws.{Comes, Anything}
use Rattle.rules.proofs.AllLaws.{all_then, all_cond, all_as_slave, all_complete, all_peer_complete, all_kept, all_awaited, all_sent, all_timed, all_less_correction, all_plus_correction, all_between, all_less}
use Rattle.rules.specs.RuleLaws.{PeerEnds}

-- ---- the measurements

module _ (R : Outcome → Type 0) (range : R Outcome.Range) where
  all_less_mean : (raw : Duration) (mean : Option Duration) → Comes Anything R (less_mean raw mean)
  all_less_mean raw None = tt
  all_less_mean raw (Some mean) = all_then Anything R (less_duration raw mean) _ (all_less R range raw mean) (λ d e. tt)

  all_half_below : (last : Option Duration) (raw : Duration) → Comes Anything R (half_below last raw)
  all_half_below None raw = tt
  all_half_below (Some last) raw = all_then Anything R (less_duration last raw) _ (all_less R range last raw) (λ d e. tt)

module _ (P : Done → Type 0) (R : Outcome → Type 0) (range : R Outcome.Range) where
  pub all_measure_sync : (p : Port) (s : SlaveState) (send receive : Time) → ((raw : Duration) (offset : Option Duration) → P (measured (sync_out p s raw) (Measurement.Sync receive raw offset) false)) → Comes P R (measure_sync p s send receive)
  unfolding measure_sync
  all_measure_sync p s send receive f =
      all_then P R (elapsed receive send) _ (all_between R range receive send) (λ apart e.
      all_then P R (less_duration apart p.config.asymmetry) _ (all_less R range apart p.config.asymmetry) (λ raw g.
      all_then P R (less_mean raw p.mean) _ (all_less_mean R range raw p.mean) (λ offset k. f raw offset)))

  pub all_measure_delay : (p : Port) (s : SlaveState) (send receive : Time) → ((raw : Duration) (delay : Option Duration) → P (measured (delay_out p s) (Measurement.Delay send raw delay) false)) → Comes P R (measure_delay p s send receive)
  unfolding measure_delay
  all_measure_delay p s send receive f =
      all_then P R (elapsed send receive) _ (all_between R range send receive) (λ apart e.
      all_then P R (less_duration apart p.config.asymmetry) _ (all_less R range apart p.config.asymmetry) (λ raw g.
      all_then P R (half_below s.raw raw) _ (all_half_below R range s.raw raw) (λ delay k. f raw delay)))

  pub all_measure_peer : (p : Port) (id : ℕ) (i : Identity) (a b c d : Time) → ((twice : Duration) → P (measured (peer_out p id i) (Measurement.Peer d (half_of twice)) (is_faulty p.state))) → Comes P R (measure_peer p id i a b c d)
  unfolding measure_peer
  all_measure_peer p id i a b c d f =
      all_then P R (elapsed d a) _ (all_between R range d a) (λ turn e.
      all_then P R (elapsed c b) _ (all_between R range c b) (λ stay g.
      all_then P R (less_duration turn stay) _ (all_less R range turn stay) (λ twice k. f twice)))

  -- whichever exchange is complete, or none
  pub all_settle : (p : Port) → P (changed p false) → ((s : SlaveState) (raw : Duration) (m : Measurement) → P (measured (sync_out p s raw) m false)) → ((s : SlaveState) (m : Measurement) → P (measured (delay_out p s) m false)) → ((id : ℕ) (i : Identity) (m : Measurement) → P (measured (peer_out p id i) m (is_faulty p.state))) → Comes P R (settle p)
  unfolding settle
  all_settle p idle f g h =
      all_peer_complete P R p.peer _ (measure_peer p)
      (λ q.
      all_as_slave P R p.state (nothing p) _ (λ n. idle) (λ s e.
      all_complete P R s.sync _ (measure_sync p s)
      (λ x.
      all_complete P R s.delay (nothing p) (measure_delay p s) (λ y. idle) (λ id send receive y.
      all_measure_delay p s send receive (λ raw delay. g s (Measurement.Delay send raw delay))))
      (λ id send receive x.
      all_measure_sync p s send receive (λ raw offset. f s raw (Measurement.Sync receive raw offset)))))
      (λ id i a b c d e. all_measure_peer p id i a b c d (λ twice. h id i (Measurement.Peer d (half_of twice))))

-- ---- what an exchange works out for itself

-- a sum is worked out only where its exchange is open and its place empty
module _ (R : Outcome → Type 0) (sum : Worked Time) (s : Comes Anything R sum) where
  all_waited : {X : Type 0} (is_open : Bool) (place : Option Time) (put : Time → X) → Comes Anything R (awaited is_open place sum put)
  all_waited is_open place put = all_awaited Anything R is_open place sum put s (λ e. tt) (λ t e g. tt)

  all_delay_answered : (id : ℕ) (x : Exchange) → Comes Anything R (delay_answered id sum x)
  unfolding delay_answered
  all_delay_answered id Exchange.Empty = tt
  all_delay_answered id (Exchange.Measuring held send receive) =
      all_waited (eqb held id) receive (λ t. Exchange.Measuring held send (Some t))

  all_responded : (h : Header) (body : Time) (q : PeerState) → Comes Anything R (responded h body sum q)
  unfolding responded
  all_responded h body PeerState.Empty = tt
  all_responded h body (PeerState.Measuring held r a b c d) =
      all_waited (eqb held h.id) d (with_response h body held a c)
  all_responded h body (PeerState.Measured held r) = tt

  all_responded_later : (h : Header) (q : PeerState) → Comes Anything R (responded_later h sum q)
  unfolding responded_later
  all_responded_later h PeerState.Empty = tt
  all_responded_later h (PeerState.Measuring held r a b c d) =
      all_waited (eqb held h.id) c (λ t. PeerState.Measuring held (Some h.source) a b (Some t) d)
  all_responded_later h (PeerState.Measured held r) = tt

-- ---- received messages

module _ (P : Done → Type 0) (R : Outcome → Type 0) (range : R Outcome.Range) (p : Port) where
  module _ (idle : P (changed p false)) where
    pub all_from_master : (h : Header) (rule : SlaveState → Worked Done) → ((s : SlaveState) → p.state ≡ PortState.Slave s → Comes P R (rule s)) → Comes P R (from_master p h rule)
    all_from_master h rule f =
        all_as_slave P R p.state (nothing p) _ (λ n. idle) (λ s e.
        all_cond P R (same_identity s.master h.source) (rule s) (nothing p) (λ g. f s e) (λ g. idle))

    pub all_sync : (h : Header) (origin at : Time) → ((s : SlaveState) → p.state ≡ PortState.Slave s → (t : Time) → less_correction at h ≡ worked t → (x : Exchange) → synced h origin t s.sync ≡ becomes x → Comes P R (settle (with_slave p (with_sync s x)))) → Comes P R (sync p h origin at)
    unfolding sync
    all_sync h origin at f =
        all_from_master h _ (λ s e.
        all_then P R (less_correction at h) _ (all_less_correction R range at h) (λ t g.
        all_kept P R p (λ x. with_slave p (with_sync s x)) (synced h origin t s.sync) (λ k. idle) (λ x k. f s e t g x k)))

    pub all_follow_up : (h : Header) (timestamp : Time) → ((s : SlaveState) → p.state ≡ PortState.Slave s → (t : Time) → plus_correction timestamp h ≡ worked t → (x : Exchange) → followed_up h.id t s.sync ≡ becomes x → Comes P R (settle (with_slave p (with_sync s x)))) → Comes P R (follow_up p h timestamp)
    unfolding follow_up
    all_follow_up h timestamp f =
        all_from_master h _ (λ s e.
        all_then P R (plus_correction timestamp h) _ (all_plus_correction R range timestamp h) (λ t g.
        all_kept P R p (λ x. with_slave p (with_sync s x)) (followed_up h.id t s.sync) (λ k. idle) (λ x k. f s e t g x k)))

    pub all_delay_resp : (h : Header) (requester : Identity) (timestamp : Time) → ((s : SlaveState) → p.state ≡ PortState.Slave s → (x : Exchange) → delay_answered h.id (less_correction timestamp h) s.delay ≡ worked (becomes x) → Comes P R (settle (with_slave p (with_delay s x)))) → Comes P R (delay_resp p h requester timestamp)
    unfolding delay_resp
    all_delay_resp h requester timestamp f =
        all_cond P R (same_identity p.config.identity requester) _ (nothing p)
        (λ us.
        all_from_master h _ (λ s e.
        all_then P R (delay_answered h.id (less_correction timestamp h) s.delay) _ (all_delay_answered R (less_correction timestamp h) (all_less_correction R range timestamp h) h.id s.delay) (λ c g.
        all_kept P R p (λ x. with_slave p (with_delay s x)) c (λ k. idle) (λ x k. f s e x (g ∙ ap worked k)))))
        (λ us. idle)

  pub all_peer_answer : (h : Header) (requester : Identity) (answer : Worked (Change PeerState)) → Comes Anything R answer → PeerEnds P R p h requester answer → Comes P R (peer_answer p h requester answer)
  unfolding peer_answer
  all_peer_answer h requester answer a ends =
      all_cond P R (same_identity p.config.identity requester) _ (nothing p)
      (λ us.
      all_cond P R (second_responder h p.peer) (worked (becomes_faulty p)) _ (ends.twice us) (λ one.
      all_then P R answer _ a (λ c g.
      all_kept P R p (with_peer p) c (λ k. ends.same us one (g ∙ ap worked k)) (λ x k. ends.new us one x (g ∙ ap worked k)))))
      ends.other

  pub all_p_delay_resp : (h : Header) (requester : Identity) (body at : Time) → PeerEnds P R p h requester (responded h body (less_correction at h) p.peer) → Comes P R (p_delay_resp p h requester body at)
  unfolding p_delay_resp
  all_p_delay_resp h requester body at ends =
      all_peer_answer h requester (responded h body (less_correction at h) p.peer) (all_responded R (less_correction at h) (all_less_correction R range at h) h body p.peer) ends

  pub all_p_delay_resp_follow_up : (h : Header) (requester : Identity) (timestamp : Time) → PeerEnds P R p h requester (responded_later h (plus_correction timestamp h) p.peer) → Comes P R (p_delay_resp_follow_up p h requester timestamp)
  unfolding p_delay_resp_follow_up
  all_p_delay_resp_follow_up h requester timestamp ends =
      all_peer_answer h requester (responded_later h (plus_correction timestamp h) p.peer) (all_responded_later R (plus_correction timestamp h) (all_plus_correction R range timestamp h) h p.peer) ends

  pub all_delay_req : (h : Header) (at : Time) → P (changed p false) → ((m : Message) → delay_resp_of (sender_of p.config) h p.config.delay_interval at ≡ Ok m → P (sending p [] m (Action.SendGeneral false))) → Comes P R (delay_req p h at)
  unfolding delay_req
  all_delay_req h at idle f =
      all_cond P R (is_master p.state) _ (nothing p)
      (λ e. all_sent P R range (delay_resp_of (sender_of p.config) h p.config.delay_interval at) _ f)
      (λ e. idle)

  pub all_p_delay_req : (h : Header) (at : Time) → ((m : Message) → p_delay_resp_of (sender_of p.config) h at ≡ Ok m → P (sending p [] m (Action.SendEvent (Context.PDelayResp h.id h.source) true))) → Comes P R (p_delay_req p h at)
  unfolding p_delay_req
  all_p_delay_req h at f =
      all_sent P R range (p_delay_resp_of (sender_of p.config) h at) _ f

  -- ---- send stamps
  pub all_sync_stamped : (t : Time) (id : ℕ) → P (changed p false) → ((m : Message) → follow_up_of (sender_of p.config) id p.config.sync_interval t ≡ Ok m → P (sending p [] m (Action.SendGeneral false))) → Comes P R (stamped p t (Context.Sync id))
  unfolding stamped
  all_sync_stamped t id idle f =
      all_cond P R (is_master p.state) _ (nothing p)
      (λ e. all_sent P R range (follow_up_of (sender_of p.config) id p.config.sync_interval t) _ f)
      (λ e. idle)

  pub all_delay_stamped : (t : Time) (id : ℕ) → P (changed p false) → ((s : SlaveState) → p.state ≡ PortState.Slave s → (x : Exchange) → delay_stamped id t s.delay ≡ becomes x → Comes P R (settle (with_slave p (with_delay s x)))) → Comes P R (stamped p t (Context.DelayReq id))
  unfolding stamped
  all_delay_stamped t id idle f =
      all_as_slave P R p.state (nothing p) _ (λ n. idle) (λ s e.
      all_kept P R p (λ x. with_slave p (with_delay s x)) (delay_stamped id t s.delay) (λ k. idle) (λ x k. f s e x k))

  pub all_peer_stamped : (t : Time) (id : ℕ) → (peer_stamped id t p.peer ≡ stays → P (changed p false)) → ((x : PeerState) → peer_stamped id t p.peer ≡ becomes x → Comes P R (settle (with_peer p x))) → Comes P R (stamped p t (Context.PDelayReq id))
  unfolding stamped
  all_peer_stamped t id idle f = all_kept P R p (with_peer p) (peer_stamped id t p.peer) idle f

  pub all_response_stamped : (t : Time) (id : ℕ) (requester : Identity) → ((m : Message) → p_delay_resp_follow_up_of (sender_of p.config) id requester t ≡ Ok m → P (sending p [] m (Action.SendGeneral true))) → Comes P R (stamped p t (Context.PDelayResp id requester))
  unfolding stamped
  all_response_stamped t id requester f =
      all_sent P R range (p_delay_resp_follow_up_of (sender_of p.config) id requester t) _ f

-- ---- timers: where rows 2 and 3 have not refused, they cannot

module _ (P : Done → Type 0) (R : Outcome → Type 0) (unfit : R Outcome.Unfit) (limits : R Outcome.Limits) where
  pub all_sync_timer_ends : (p : Port) → (is_master p.state ≡ false → P (changed p false)) → (is_master p.state ≡ true → (ns : ℕ) → sync_timer_of p.config.sync_interval ≡ Ok ns → P (sync_sent p ns)) → Comes P R (sync_timer_ends p)
  unfolding sync_timer_ends
  all_sync_timer_ends p idle f =
      all_cond P R (is_master p.state) _ (nothing p) (λ e. all_timed P R unfit limits (sync_timer_of p.config.sync_interval) _ (f e)) idle

  all_request : (p : Port) (draw : ℕ) (m : Mechanism) → (is_slave p.state ≡ false → m ≡ Mechanism.EndToEnd → P (changed p false)) → ((s : SlaveState) → p.state ≡ PortState.Slave s → m ≡ Mechanism.EndToEnd → (ns : ℕ) → P (delay_sent p s ns)) → (m ≡ Mechanism.Peer → (ns : ℕ) → P (peer_sent p ns)) → Comes P R (request p draw m)
  all_request p draw Mechanism.EndToEnd idle f g =
      all_as_slave P R p.state (nothing p) _ (λ n. idle n refl) (λ s e.
      all_timed P R unfit limits (delay_timer_of p.config.delay_interval draw) _ (λ ns k. f s e refl ns))
  all_request p draw Mechanism.Peer idle f g =
      all_timed P R unfit limits (delay_timer_of p.config.delay_interval draw) _ (λ ns k. g refl ns)

  pub all_delay_timer_ends : (p : Port) (draw : ℕ) → (is_slave p.state ≡ false → p.config.mechanism ≡ Mechanism.EndToEnd → P (changed p false)) → ((s : SlaveState) → p.state ≡ PortState.Slave s → p.config.mechanism ≡ Mechanism.EndToEnd → (ns : ℕ) → P (delay_sent p s ns)) → (p.config.mechanism ≡ Mechanism.Peer → (ns : ℕ) → P (peer_sent p ns)) → Comes P R (delay_timer_ends p draw)
  unfolding delay_timer_ends
  all_delay_timer_ends p draw idle f g = all_request p draw p.config.mechanism idle f g
