-- What the laws of proofs/ActionLaws.antt speak of.
use Rattle.std.specs.Prelude.{◌≡◌, true, false, cond, [], ◌∷◌, ◌≤◌, length, eqb}
use Rattle.rules.specs.Names.{Message, Action}
use Rattle.rules.specs.Events.{Done, Answered}
use Rattle.rules.specs.Actions.{is_empty, one_is, timers_first, packets_in, is_one_of, sending_of, packet_for}

-- ---- order

pub record Orderly (r : Answered) : Type 0 where
  pub at_most_two : length r.actions ≤ 2
  pub has_timers_first : timers_first r.actions ≡ true
  pub none_empty : one_is is_empty r.actions ≡ false
  -- one packet where something is sent, and none where nothing is
  pub packet_when_sent : length (packets_in r.actions) ≡ cond (eqb (length r.sent) 0) 0 1
  pub sizes : is_one_of (0 ∷ 44 ∷ 54 ∷ []) (length r.sent) ≡ true

-- ---- the packet that goes out is the sent message's: event or general, its context, link-local or not

abbrev pub Said : Done → Type 0
Said d = packets_in d.actions ≡ packet_for d.message

abbrev pub said_of : Message → Action
said_of m = sending_of m.header m.body
