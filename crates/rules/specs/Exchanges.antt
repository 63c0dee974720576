-- Document 01, 'What each event does': what a message or a stamp does to its exchange.
use Rattle.std.specs.Prelude.{ℕ, Bool, false, cond, ◌&&◌, not, eqb, Option, Some, None}
use Rattle.rules.specs.Names.{Time, Identity, Header, Exchange, PeerState}
use Rattle.wire.specs.Layout.{two_step}
use Rattle.fitness.specs.Fit.{there}
use Rattle.record.specs.Same.{same_identity}
use Rattle.rules.specs.Worked.{Worked, worked, ◌then◌}

-- an exchange stays as it is, or becomes another
abbrev pub Change : Type 0 → Type 0
Change A = Option A

pattern abbrev pub stays : {A : Type 0} → Change A
stays = None

pattern abbrev pub becomes : {A : Type 0} → A → Change A
becomes x = Some x

-- ---- the sync exchange

abbrev pub received : ℕ → Time → Exchange
received id t = Exchange.Measuring id None (Some t)

-- two-step: into the exchange of its id if that lacks this time; in place of an exchange of another id
unfoldable pub two_step_sync : ℕ → Time → Exchange → Change Exchange
two_step_sync id t Exchange.Empty = becomes (received id t)
two_step_sync id t (Exchange.Measuring held send receive) =
    cond (eqb held id)
    (cond (there receive) stays (becomes (Exchange.Measuring held send (Some t))))
    (becomes (received id t))

-- one-step: it brings both times and joins nothing, so an open exchange of its id keeps it out, be it begun by a FollowUp
abbrev pub at_once : ℕ → Time → Time → Exchange
at_once id origin t = Exchange.Measuring id (Some origin) (Some t)

unfoldable pub one_step_sync : ℕ → Time → Time → Exchange → Change Exchange
one_step_sync id origin t Exchange.Empty = becomes (at_once id origin t)
one_step_sync id origin t (Exchange.Measuring held send receive) = cond (eqb held id) stays (becomes (at_once id origin t))

abbrev pub synced : Header → Time → Time → Exchange → Change Exchange
synced h origin t x = cond (two_step h) (two_step_sync h.id t x) (one_step_sync h.id origin t x)

-- FollowUp: as a two-step Sync, for the other time
abbrev pub sent_at : ℕ → Time → Exchange
sent_at id t = Exchange.Measuring id (Some t) None

unfoldable pub followed_up : ℕ → Time → Exchange → Change Exchange
followed_up id t Exchange.Empty = becomes (sent_at id t)
followed_up id t (Exchange.Measuring held send receive) =
    cond (eqb held id)
    (cond (there send) stays (becomes (Exchange.Measuring held (Some t) receive)))
    (becomes (sent_at id t))

-- what waits for a message: an exchange that is open with its id takes a time once, and elsewhere the sum is not looked at
abbrev pub awaited : {A : Type 0} → Bool → Option Time → Worked Time → (Time → A) → Worked (Change A)
awaited is_open place sum put =
    cond is_open (cond (there place) (worked stays) (sum then λ t. worked (becomes (put t)))) (worked stays)

-- ---- the delay exchange

-- DelayResp: only for the open request, and only once; the sum is not looked at elsewhere
unfoldable pub delay_answered : ℕ → Worked Time → Exchange → Worked (Change Exchange)
delay_answered id sum Exchange.Empty = worked stays
delay_answered id sum (Exchange.Measuring held send receive) =
    awaited (eqb held id) receive sum (λ t. Exchange.Measuring held send (Some t))

-- the request's stamp: only for the open request, and only once
unfoldable pub delay_stamped : ℕ → Time → Exchange → Change Exchange
delay_stamped id t Exchange.Empty = stays
delay_stamped id t (Exchange.Measuring held send receive) =
    cond (eqb held id) (cond (there send) stays (becomes (Exchange.Measuring held (Some t) receive))) stays

-- what a request begins, whatever was open
abbrev pub requested : ℕ → Exchange
requested id = Exchange.Measuring id None None

-- ---- the peer exchange

abbrev pub peer_requested : ℕ → PeerState
peer_requested id = PeerState.Measuring id None None None None None

unfoldable pub peer_stamped : ℕ → Time → PeerState → Change PeerState
peer_stamped id t PeerState.Empty = stays
peer_stamped id t (PeerState.Measuring held responder request_send request_receive response_send response_receive) =
    cond (eqb held id)
    (cond (there request_send) stays (becomes (PeerState.Measuring held responder (Some t) request_receive response_send response_receive)))
    stays
peer_stamped id t (PeerState.Measured held responder) = stays

-- one responder is known for this request already, be it measured or not, and this is another
abbrev pub another : Option Identity → Identity → Bool
another None source = false
another (Some responder) source = not (same_identity responder source)

unfoldable pub second_responder : Header → PeerState → Bool
second_responder h PeerState.Empty = false
second_responder h (PeerState.Measuring held responder request_send request_receive response_send response_receive) =
    eqb held h.id && another responder h.source
second_responder h (PeerState.Measured held responder) = eqb held h.id && another (Some responder) h.source

-- the response, once, while its request is measuring. It brings two times, and one-step a third, the request's receive time again, which wins over what a follow-up may have brought
abbrev pub with_response : Header → Time → ℕ → Option Time → Option Time → Time → PeerState
with_response h body held request_send response_send t =
    PeerState.Measuring held (Some h.source) request_send (Some body) (cond (two_step h) response_send (Some body)) (Some t)

unfoldable pub responded : Header → Time → Worked Time → PeerState → Worked (Change PeerState)
responded h body sum PeerState.Empty = worked stays
responded h body sum (PeerState.Measuring held responder request_send request_receive response_send response_receive) =
    awaited (eqb held h.id) response_receive sum (with_response h body held request_send response_send)
responded h body sum (PeerState.Measured held responder) = worked stays

-- its follow-up, once, while the request is measuring
abbrev pub with_follow_up : Header → ℕ → Option Time → Option Time → Option Time → Time → PeerState
with_follow_up h held request_send request_receive response_receive t =
    PeerState.Measuring held (Some h.source) request_send request_receive (Some t) response_receive

unfoldable pub responded_later : Header → Worked Time → PeerState → Worked (Change PeerState)
responded_later h sum PeerState.Empty = worked stays
responded_later h sum (PeerState.Measuring held responder request_send request_receive response_send response_receive) =
    awaited (eqb held h.id) response_send sum (with_follow_up h held request_send request_receive response_receive)
responded_later h sum (PeerState.Measured held responder) = worked stays
