-- Document 01, 'Numbers the port answers': the number of each outcome, and an answer's parts as the record holds them.
use Rattle.std.specs.Prelude.{ℕ, zero, suc, ◌+◌, Bool, false, cond, List, [], ◌∷◌, length, set, ltb, Option, Some, None}
use Rattle.record.specs.declared.Port.{Port}
use Rattle.record.specs.declared.Outcome.{Outcome}
use Rattle.timers.specs.declared.TimerError.{TimerError}
use Rattle.record.specs.declared.Measurement.{Measurement}
use Rattle.record.specs.declared.Action.{Action}
use Rattle.record.specs.declared.Todo.{Todo}
use Rattle.record.specs.declared.Answer.{Answer}

-- the table's number
abbrev pub number_of : Outcome → ℕ
number_of Outcome.Taken = 0
number_of Outcome.Buffer = 1
number_of Outcome.Unfit = 2
number_of Outcome.Limits = 3
number_of Outcome.Version = 4
number_of Outcome.Malformed = 5
number_of Outcome.Foreign = 6
number_of Outcome.Host = 8
number_of Outcome.Range = 7

-- an interval out of limits makes the record unfit, a draw is a number of the event that is out of limits
abbrev pub timer_refused : TimerError → Outcome
timer_refused TimerError.Interval = Outcome.Unfit
timer_refused TimerError.Draw = Outcome.Limits

-- two places for the actions, in their order; a place that is left holds the empty one. (No event has more than two: `at_most_two` in crate `rules`.)
abbrev pub todo : Action → Todo
todo a = record { action = a }

unfoldable pub places : List Action → List Todo
places [] = todo Action.None ∷ todo Action.None ∷ []
places (a ∷ []) = todo a ∷ todo Action.None ∷ []
places (a ∷ b ∷ rest) = todo a ∷ todo b ∷ []

-- the actions in the first places
abbrev pub first_actions : ℕ → List Todo → List Action
first_actions zero todos = []
first_actions (suc n) [] = []
first_actions (suc n) (t ∷ ts) = t.action ∷ first_actions n ts

unfoldable pub answer_of : Outcome → Port → Option Measurement → ℕ → List Action → Bool → Answer
answer_of o p m n as' r =
    record { outcome = o; port = p; measurement = m; length = n; actions = places as'; count = length as'; reset = r }

-- a refusal: the record that was found, and nothing beside it
abbrev pub refused_with : Outcome → Port → Answer
refused_with o p = answer_of o p None 0 [] false

abbrev pub taken_with : Port → Answer
taken_with p = answer_of Outcome.Taken p None 0 [] false

-- an answer with one part replaced
abbrev pub with_measurement : Answer → Measurement → Answer
with_measurement a m =
    record { outcome = a.outcome; port = a.port; measurement = Some m; length = a.length; actions = a.actions; count = a.count; reset = a.reset }

abbrev pub with_reset : Answer → Bool → Answer
with_reset a r =
    record { outcome = a.outcome; port = a.port; measurement = a.measurement; length = a.length; actions = a.actions; count = a.count; reset = r }

abbrev pub with_length : Answer → ℕ → Answer
with_length a n =
    record { outcome = a.outcome; port = a.port; measurement = a.measurement; length = n; actions = a.actions; count = a.count; reset = a.reset }

-- one action more, behind the others; a third finds no place
unfoldable pub with_action : Answer → Action → Answer
with_action a x =
    cond (ltb a.count 2)
    (record { outcome = a.outcome; port = a.port; measurement = a.measurement; length = a.length; actions = set a.actions a.count (todo x); count = a.count + 1; reset = a.reset })
    a
