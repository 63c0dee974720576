-- The peer exchange as the rules change it, beside `WorkedOut`: a rule completes it exactly where the sums complete it, and nothing else does.
use Rattle.std.specs.Prelude.{◌≡◌, refl, Bool, true, false, cond, ◌&&◌, not, ℕ, eqb, ℤ, Option, Some, None}
use Rattle.std.proofs.Common.{sym, ap, ◌∙◌, true≢false}
use Rattle.wire.specs.Layout.{two_step}
use Rattle.time.specs.Units.{time}
use Rattle.record.specs.Same.{same_identity}
use Rattle.fitness.specs.Fit.{there, unanswered}
use Rattle.rules.specs.Names.{Time, Header, Identity, PeerState, Port}
use Rattle.rules.specs.Worked.{Worked}
use Rattle.rules.specs.Exchanges.{stays, becomes, awaited, with_response, responded, responded_later, peer_stamped}
use Rattle.rules.specs.WorkedOut.{Completed, unfinished, peer, Sums, no_sums, held, hears, opened, sync_in, delay_in, send_in, receive_in, peer_opened, request_send_in, response_send_in, response_receive_in, sync_sums, follow_up_sums, delay_resp_sums, delay_stamp_sums}
use Rattle.rules.specs.Changes.{is_peer}
use Rattle.rules.specs.AllLaws.{All, Silent, peer_done}
use Rattle.rules.proofs.AllLaws.{all_silent, all_awaited}
use Rattle.rules.specs.CompletingLaws.{becoming, response_completes, follow_up_completes, stamp_completes}

-- ---- what a change completes

stored : (is_open : Bool) (place : Option Time) (whole : Bool) (sum : Worked Time) (put : Time → PeerState) → ((t : Time) → peer_done (put t) ≡ whole) → All (λ c. becoming c ≡ (is_open && not (there place) && whole)) (awaited is_open place sum put)
stored is_open place whole sum put f =
    all_awaited (λ c. becoming c ≡ (is_open && not (there place) && whole)) Silent is_open place sum put (all_silent sum)
    (λ e. ap (λ (b : Bool). b && whole) (sym e))
    (λ t e g. f t ∙ ap (λ (b : Bool). b && whole) (sym e))

response_whole : (two : Bool) (id : ℕ) (i : Identity) (a c : Option Time) (body t : Time) (y z : ℤ) → peer_done (PeerState.Measuring id (Some i) a (Some body) (cond two c (Some body)) (Some t)) ≡ is_peer (held a (λ asked. cond two (held c (λ send. peer asked y send z)) (peer asked y y z)))
response_whole two id i None c body t y z = refl
response_whole true id i (Some a) None body t y z = refl
response_whole true id i (Some a) (Some c) body t y z = refl
response_whole false id i (Some a) c body t y z = refl

pub response_completes_lem : (h : Header) (body : Time) (sum : Worked Time) (q : PeerState) (y z : ℤ) → All (λ c. becoming c ≡ (peer_opened h.id q && not (there (response_receive_in q)) && is_peer (response_completes h q y z))) (responded h body sum q)
unfolding responded
response_completes_lem h body sum PeerState.Empty y z = refl
response_completes_lem h body sum (PeerState.Measuring id r a b c d) y z =
    stored (eqb id h.id) d (is_peer (response_completes h (PeerState.Measuring id r a b c d) y z)) sum
    (with_response h body id a c)
    (λ t. response_whole (two_step h) id h.source a c body t y z)
response_completes_lem h body sum (PeerState.Measured id r) y z = refl

follow_up_whole : (id : ℕ) (i : Identity) (a b d : Option Time) (t : Time) (z : ℤ) → peer_done (PeerState.Measuring id (Some i) a b (Some t) d) ≡ is_peer (held a (λ asked. held b (λ came. held d (λ receive. peer asked came z receive))))
follow_up_whole id i None b d t z = refl
follow_up_whole id i (Some a) None d t z = refl
follow_up_whole id i (Some a) (Some b) None t z = refl
follow_up_whole id i (Some a) (Some b) (Some d) t z = refl

pub follow_up_completes_lem : (h : Header) (sum : Worked Time) (q : PeerState) (z : ℤ) → All (λ c. becoming c ≡ (peer_opened h.id q && not (there (response_send_in q)) && is_peer (follow_up_completes q z))) (responded_later h sum q)
unfolding responded_later
follow_up_completes_lem h sum PeerState.Empty z = refl
follow_up_completes_lem h sum (PeerState.Measuring id r a b c d) z =
    stored (eqb id h.id) c (is_peer (follow_up_completes (PeerState.Measuring id r a b c d) z)) sum
    (λ t. PeerState.Measuring id (Some h.source) a b (Some t) d)
    (λ t. follow_up_whole id h.source a b d t z)
follow_up_completes_lem h sum (PeerState.Measured id r) z = refl

stamp_whole : (id : ℕ) (r : Option Identity) (a b c d : Option Time) (t : Time) (z : ℤ) → unanswered (PeerState.Measuring id r a b c d) ≡ false → peer_done (PeerState.Measuring id r (Some t) b c d) ≡ is_peer (held b (λ came. held c (λ send. held d (λ receive. peer z came send receive))))
stamp_whole id r a None c d t z u = refl
stamp_whole id r a (Some b) None d t z u = refl
stamp_whole id r a (Some b) (Some c) None t z u = refl
stamp_whole id None a (Some b) (Some c) (Some d) t z u = absurd (true≢false u)
stamp_whole id (Some i) a (Some b) (Some c) (Some d) t z u = refl

stamped_whole : (ours taken whole : Bool) (x : PeerState) → peer_done x ≡ whole → becoming (cond ours (cond taken stays (becomes x)) stays) ≡ (ours && not taken && whole)
stamped_whole true true whole x f = refl
stamped_whole true false whole x f = f
stamped_whole false taken whole x f = refl

pub stamp_completes_lem : (id : ℕ) (t : Time) (q : PeerState) (z : ℤ) → unanswered q ≡ false → becoming (peer_stamped id t q) ≡ (peer_opened id q && not (there (request_send_in q)) && is_peer (stamp_completes q z))
unfolding peer_stamped
stamp_completes_lem id t PeerState.Empty z u = refl
stamp_completes_lem id t (PeerState.Measuring held r a b c d) z u =
    stamped_whole (eqb held id) (there a) (is_peer (stamp_completes (PeerState.Measuring held r a b c d) z)) (PeerState.Measuring held r (Some t) b c d)
    (stamp_whole held r a b c d t z u)
stamp_completes_lem id t (PeerState.Measured held r) z u = refl

-- ---- the other exchanges complete no peer exchange

-- sums behind a test
pub behind : (b : Bool) (s : Sums) → is_peer (cond b s no_sums).completes ≡ (b && is_peer s.completes)
behind true s = refl
behind false s = refl

pub gated : (b : Bool) (s : Sums) → is_peer s.completes ≡ false → is_peer (cond b s no_sums).completes ≡ false
gated true s e = e
gated false s e = refl

either : (b : Bool) (x y : Completed) → is_peer x ≡ false → is_peer y ≡ false → is_peer (cond b x y) ≡ false
either true x y e f = e
either false x y e f = f

if_held : (t : Option Time) (k : ℤ → Completed) → ((z : ℤ) → is_peer (k z) ≡ false) → is_peer (held t k) ≡ false
if_held None k f = refl
if_held (Some t) k f = f (time t)

pub sync_not_peer : (p : Port) (h : Header) (origin receive : ℤ) → is_peer (sync_sums p h origin receive).completes ≡ false
sync_not_peer p h origin receive =
    gated (hears p.state h) _
    (either (two_step h) _ _ (either (opened h.id (sync_in p.state) && not (there (receive_in (sync_in p.state)))) _ unfinished (if_held (send_in (sync_in p.state)) _ (λ z. refl)) refl) (either (opened h.id (sync_in p.state)) unfinished _ refl refl))

pub follow_up_not_peer : (p : Port) (h : Header) (send : ℤ) → is_peer (follow_up_sums p h send).completes ≡ false
follow_up_not_peer p h send =
    gated (hears p.state h) _
    (either (opened h.id (sync_in p.state) && not (there (send_in (sync_in p.state)))) _ unfinished (if_held (receive_in (sync_in p.state)) _ (λ z. refl)) refl)

pub delay_resp_not_peer : (p : Port) (h : Header) (requester : Identity) (receive : ℤ) → is_peer (delay_resp_sums p h requester receive).completes ≡ false
delay_resp_not_peer p h requester receive =
    gated (same_identity p.config.identity requester && hears p.state h && opened h.id (delay_in p.state) && not (there (receive_in (delay_in p.state)))) _
    (if_held (send_in (delay_in p.state)) _ (λ z. refl))

pub delay_stamp_not_peer : (p : Port) (id : ℕ) (send : ℤ) → is_peer (delay_stamp_sums p id send).completes ≡ false
delay_stamp_not_peer p id send =
    gated (opened id (delay_in p.state) && not (there (send_in (delay_in p.state)))) _
    (if_held (receive_in (delay_in p.state)) _ (λ z. refl))
