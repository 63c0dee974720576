-- What an exchange becomes is fit, unless it is complete: and then it is taken out in the same event.
use Rattle.std.specs.Prelude.{◌≡◌, refl, Bool, true, false, cond, ℕ, eqb, ℤ, ◌+ℤ◌, ◌-ℤ◌, Option, Some, None, Result, Ok, Err}
use Rattle.std.proofs.Common.{sym, ap, ◌∙◌, subst, true≢false}
use Rattle.time.specs.Units.{time, in_time, time_of, correction}
use Rattle.time.specs.Laws.{IsTime, time_is}
use Rattle.wire.specs.Layout.{two_step}
use Rattle.fitness.specs.Fit.{there, unanswered, peer_full}
use Rattle.fitness.specs.FitLaws.{FitTime, FitPeer}
use Rattle.fitness.proofs.FitLaws.{peer_times_is, peer_times_when}
use Rattle.rules.specs.Names.{Time, Header, Identity, Exchange, PeerState, TimeError}
use Rattle.rules.specs.Worked.{Worked, a_time, less_correction, plus_correction}
use Rattle.rules.specs.Exchanges.{Change, stays, becomes, awaited, received, two_step_sync, at_once, one_step_sync, synced, sent_at, followed_up, delay_answered, delay_stamped, peer_stamped, responded, responded_later}
use Rattle.rules.specs.AllLaws.{All, Silent, peer_done}
use Rattle.rules.proofs.AllLaws.{all_is, all_map, all_silent, all_awaited}
use Rattle.rules.specs.StoredLaws.{InTime, Stores, SyncOrFull, DelayOrFull, PeerOrDone}

-- ---- corrected times are times

summed : (z : ℤ) (a : Result Time TimeError) → time_of z ≡ a → All (IsTime z) (a_time a)
summed z (Ok t) e = time_is z t e
summed z (Err TimeError.OutOfRange) e = tt

pub less_is : (t : Time) (h : Header) → All (IsTime (time t -ℤ correction h.correction)) (less_correction t h)
unfolding less_correction
less_is t h = summed (time t -ℤ correction h.correction) (time_of (time t -ℤ correction h.correction)) refl

pub plus_is : (t : Time) (h : Header) → All (IsTime (time t +ℤ correction h.correction)) (plus_correction t h)
unfolding plus_correction
plus_is t h = summed (time t +ℤ correction h.correction) (time_of (time t +ℤ correction h.correction)) refl

in_time_lem : (z : ℤ) (w : Worked Time) → All (IsTime z) w → All InTime w
in_time_lem z w k = all_map (IsTime z) InTime Silent w (λ t i. ap in_time i.value ∙ i.within) k

pub less_in_time : (t : Time) (h : Header) → All InTime (less_correction t h)
less_in_time t h = in_time_lem _ (less_correction t h) (less_is t h)

pub plus_in_time : (t : Time) (h : Header) → All InTime (plus_correction t h)
plus_in_time t h = in_time_lem _ (plus_correction t h) (plus_is t h)

-- ---- what a change stores

pub stores_is : {A : Type 0} (P : A → Type 0) (c : Change A) (x : A) → c ≡ becomes x → Stores P c → P x
stores_is {A = A} P c x e k = subst (λ (y : Change A). Stores P y) e k

stores_cond : {A : Type 0} (P : A → Type 0) (b : Bool) (c d : Change A) → Stores P c → Stores P d → Stores P (cond b c d)
stores_cond P true c d k l = k
stores_cond P false c d k l = l

-- a sum is stored where the exchange is ours and its place empty
all_stores : {A : Type 0} (P : A → Type 0) (is_open : Bool) (place : Option Time) (sum : Worked Time) (put : Time → A) → All InTime sum → ((t : Time) → InTime t → P (put t)) → All (Stores P) (awaited is_open place sum put)
all_stores P is_open place sum put k f =
    all_awaited (Stores P) Silent is_open place sum put (all_silent sum) (λ e. tt) (λ t e g. f t (all_is InTime Silent sum t g k))

-- ---- the exchanges of a Slave

with_receive : (id : ℕ) (send : Option Time) (t : Time) → InTime t → SyncOrFull (Exchange.Measuring id send (Some t))
with_receive id None t k e = k
with_receive id (Some s) t k e = absurd (true≢false e)

with_send : (id : ℕ) (receive : Option Time) (t : Time) → InTime t → SyncOrFull (Exchange.Measuring id (Some t) receive)
with_send id None t k e = k
with_send id (Some r) t k e = absurd (true≢false e)

two_step_stores : (id : ℕ) (t : Time) (x : Exchange) → InTime t → Stores SyncOrFull (two_step_sync id t x)
unfolding two_step_sync
two_step_stores id t Exchange.Empty k = with_receive id None t k
two_step_stores id t (Exchange.Measuring held send receive) k =
    stores_cond SyncOrFull (eqb held id) (cond (there receive) stays (becomes (Exchange.Measuring held send (Some t)))) (becomes (received id t))
    (stores_cond SyncOrFull (there receive) stays (becomes (Exchange.Measuring held send (Some t))) tt (with_receive held send t k))
    (with_receive id None t k)

one_step_stores : (id : ℕ) (origin t : Time) (x : Exchange) → Stores SyncOrFull (one_step_sync id origin t x)
unfolding one_step_sync
one_step_stores id origin t Exchange.Empty = λ e. absurd (true≢false e)
one_step_stores id origin t (Exchange.Measuring held send receive) =
    stores_cond SyncOrFull (eqb held id) stays (becomes (at_once id origin t)) tt (λ e. absurd (true≢false e))

pub synced_stores : (h : Header) (origin t : Time) (x : Exchange) → InTime t → Stores SyncOrFull (synced h origin t x)
synced_stores h origin t x k =
    stores_cond SyncOrFull (two_step h) (two_step_sync h.id t x) (one_step_sync h.id origin t x) (two_step_stores h.id t x k) (one_step_stores h.id origin t x)

pub followed_up_stores : (id : ℕ) (t : Time) (x : Exchange) → InTime t → Stores SyncOrFull (followed_up id t x)
unfolding followed_up
followed_up_stores id t Exchange.Empty k = with_send id None t k
followed_up_stores id t (Exchange.Measuring held send receive) k =
    stores_cond SyncOrFull (eqb held id) (cond (there send) stays (becomes (Exchange.Measuring held (Some t) receive))) (becomes (sent_at id t))
    (stores_cond SyncOrFull (there send) stays (becomes (Exchange.Measuring held (Some t) receive)) tt (with_send held receive t k))
    (with_send id None t k)

delay_receive : (id : ℕ) (send : Option Time) (t : Time) → InTime t → DelayOrFull (Exchange.Measuring id send (Some t))
delay_receive id None t k e = k
delay_receive id (Some s) t k e = absurd (true≢false e)

delay_send : (id : ℕ) (receive : Option Time) (t : Time) → InTime t → DelayOrFull (Exchange.Measuring id (Some t) receive)
delay_send id None t k e = k
delay_send id (Some r) t k e = absurd (true≢false e)

pub delay_answered_stores : (id : ℕ) (sum : Worked Time) (x : Exchange) → All InTime sum → All (Stores DelayOrFull) (delay_answered id sum x)
unfolding delay_answered
delay_answered_stores id sum Exchange.Empty k = tt
delay_answered_stores id sum (Exchange.Measuring held send receive) k =
    all_stores DelayOrFull (eqb held id) receive sum (λ t. Exchange.Measuring held send (Some t)) k (delay_receive held send)

pub delay_stamped_stores : (id : ℕ) (t : Time) (x : Exchange) → InTime t → Stores DelayOrFull (delay_stamped id t x)
unfolding delay_stamped
delay_stamped_stores id t Exchange.Empty k = tt
delay_stamped_stores id t (Exchange.Measuring held send receive) k =
    stores_cond DelayOrFull (eqb held id) (cond (there send) stays (becomes (Exchange.Measuring held (Some t) receive))) stays
    (stores_cond DelayOrFull (there send) stays (becomes (Exchange.Measuring held (Some t) receive)) tt (delay_send held receive t k))
    tt

-- ---- the peer exchange

-- where the responder is known, all times there are all that is asked for
done_full : (id : ℕ) (i : Identity) (a b c d : Option Time) → peer_done (PeerState.Measuring id (Some i) a b c d) ≡ peer_full (PeerState.Measuring id (Some i) a b c d)
done_full id i None b c d = refl
done_full id i (Some a) None c d = refl
done_full id i (Some a) (Some b) None d = refl
done_full id i (Some a) (Some b) (Some c) None = refl
done_full id i (Some a) (Some b) (Some c) (Some d) = refl

module _ (id : ℕ) (i : Identity) (a b c d : Option Time) where
  known_fit : FitTime a → FitTime b → FitTime c → FitTime d → PeerOrDone (PeerState.Measuring id (Some i) a b c d)
  known_fit x y z w e =
      record { in_limits = peer_times_when id (Some i) a b c d x y z w; responder_known = refl; not_full = sym (done_full id i a b c d) ∙ e }

one_of_two : (two : Bool) (c b : Option Time) → FitTime c → FitTime b → FitTime (cond two c b)
one_of_two true c b k l = k
one_of_two false c b k l = l

pub responded_stores : (h : Header) (body : Time) (sum : Worked Time) (q : PeerState) → InTime body → All InTime sum → FitPeer q → All (Stores PeerOrDone) (responded h body sum q)
unfolding responded
responded_stores h body sum PeerState.Empty k l f = tt
responded_stores h body sum (PeerState.Measuring id r a b c d) k l f =
    let (x, y, z, w) = peer_times_is id r a b c d f.in_limits in
    all_stores PeerOrDone (eqb id h.id) d sum
    (λ t. PeerState.Measuring id (Some h.source) a (Some body) (cond (two_step h) c (Some body)) (Some t)) l
    (λ t m. known_fit id h.source a (Some body) (cond (two_step h) c (Some body)) (Some t) x k (one_of_two (two_step h) c (Some body) z k) m)
responded_stores h body sum (PeerState.Measured id r) k l f = tt

pub responded_later_stores : (h : Header) (sum : Worked Time) (q : PeerState) → All InTime sum → FitPeer q → All (Stores PeerOrDone) (responded_later h sum q)
unfolding responded_later
responded_later_stores h sum PeerState.Empty l f = tt
responded_later_stores h sum (PeerState.Measuring id r a b c d) l f =
    let (x, y, z, w) = peer_times_is id r a b c d f.in_limits in
    all_stores PeerOrDone (eqb id h.id) c sum (λ t. PeerState.Measuring id (Some h.source) a b (Some t) d) l
    (λ t m. known_fit id h.source a b (Some t) d x y m w)
responded_later_stores h sum (PeerState.Measured id r) l f = tt

-- a stamp is no answer: who has not answered yet has not answered now
no_answer : (id : ℕ) (a t : Option Time) (b c d : Option Time) → unanswered (PeerState.Measuring id None a b c d) ≡ false → peer_full (PeerState.Measuring id None t b c d) ≡ false
no_answer id a None b c d u = refl
no_answer id a (Some t) None c d u = refl
no_answer id a (Some t) (Some b) c d u = absurd (true≢false u)

stamped_fit : (id : ℕ) (r : Option Identity) (a b c d : Option Time) (t : Time) → InTime t → FitPeer (PeerState.Measuring id r a b c d) → PeerOrDone (PeerState.Measuring id r (Some t) b c d)
stamped_fit id None a b c d t k f e =
    let (x, y, z, w) = peer_times_is id None a b c d f.in_limits in
    record { in_limits = peer_times_when id None (Some t) b c d k y z w; responder_known = f.responder_known; not_full = no_answer id a (Some t) b c d f.responder_known }
stamped_fit id (Some i) a b c d t k f e =
    let (x, y, z, w) = peer_times_is id (Some i) a b c d f.in_limits in
    known_fit id i (Some t) b c d k y z w e

pub peer_stamped_stores : (id : ℕ) (t : Time) (q : PeerState) → InTime t → FitPeer q → Stores PeerOrDone (peer_stamped id t q)
unfolding peer_stamped
peer_stamped_stores id t PeerState.Empty k f = tt
peer_stamped_stores id t (PeerState.Measuring held r a b c d) k f =
    stores_cond PeerOrDone (eqb held id) (cond (there a) stays (becomes (PeerState.Measuring held r (Some t) b c d))) stays
    (stores_cond PeerOrDone (there a) stays (becomes (PeerState.Measuring held r (Some t) b c d)) tt (stamped_fit held r a b c d t k f))
    tt
peer_stamped_stores id t (PeerState.Measured held r) k f = tt
