-- What the laws of proofs/CompletingLaws.antt speak of.
use Rattle.std.specs.Prelude.{Bool, false, cond, ℤ}
use Rattle.wire.specs.Layout.{two_step}
use Rattle.rules.specs.Names.{Header, PeerState}
use Rattle.rules.specs.Exchanges.{Change, stays, becomes}
use Rattle.rules.specs.WorkedOut.{Completed, peer, held, request_send_in, request_receive_in, response_send_in, response_receive_in}
use Rattle.rules.specs.AllLaws.{peer_done}

-- ---- what a change completes

abbrev pub becoming : Change PeerState → Bool
becoming stays = false
becoming (becomes x) = peer_done x

-- the response
abbrev pub response_completes : Header → PeerState → ℤ → ℤ → Completed
response_completes h q body receive =
    held (request_send_in q) (λ asked.
    cond (two_step h) (held (response_send_in q) (λ send. peer asked body send receive)) (peer asked body body receive))

-- its follow-up
abbrev pub follow_up_completes : PeerState → ℤ → Completed
follow_up_completes q send =
    held (request_send_in q) (λ asked. held (request_receive_in q) (λ came. held (response_receive_in q) (λ receive. peer asked came send receive)))

-- the request's stamp: a fit record that holds all other times knows the responder
abbrev pub stamp_completes : PeerState → ℤ → Completed
stamp_completes q asked =
    held (request_receive_in q) (λ came. held (response_send_in q) (λ send. held (response_receive_in q) (λ receive. peer asked came send receive)))
