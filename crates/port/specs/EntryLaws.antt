-- The laws that end every entry: a shut gate is what `step` refuses, and behind an open one what is sent is what `step` answers.
use Rattle.std.specs.Prelude.{ℕ, ◌≤◌, ◌≡◌, Bool, false, List, ◌++◌, length, drop, Option, Some, None, Err}
use Rattle.std.proofs.Math.Path.{refl, ap}
use Rattle.std.proofs.Common.{sym, ◌∙◌, subst, ltb-false}
use Rattle.record.specs.declared.Answer.{Answer}
use Rattle.record.specs.Answers.{answer_of, refused_with, with_length}
use Rattle.fitness.specs.Fit.{unfit}
use Rattle.rules.specs.Names.{Message, Port, Outcome, Action, Measurement}
use Rattle.rules.specs.Worked.{Worked, worked, refused}
use Rattle.rules.specs.Events.{Event, Done, Answered, packet, refusal, answered, buffer_after}
use Rattle.rules.specs.Table.{row1, row3}
use Rattle.rules.specs.Step.{rule_of, step}
use Rattle.rules.proofs.RefusalLaws.{step_rule}
use Rattle.rules.specs.Given.{BytesIn, ContextIn, PortIn, InTypes}
use Rattle.rules.specs.WritableLaws.{Writable}
use Rattle.rules.proofs.WritableLaws.{sent_writable}
use Rattle.handling.specs.declared.Handled.{Handled}
use Rattle.handling.specs.Handling.{handed_on, handled_of}
use Rattle.rows.specs.Rows.{opened, gate_of}
use Rattle.rows.specs.RowLaws.{IsOpen, gate_open, gate_shut}
use Rattle.port.specs.Entries.{answer_for, Answers}
use Rattle.port.specs.Pieces.{Ready, answer_sent, buffer_sent, answer_by, buffer_by}
use Rattle.port.specs.SendLaws.{ready_length, ready_buffer}

-- ---- what is told of a refusal, and of what is handed on and then sent

refusal_told : (o : Outcome) (p : Port) (l : List ℕ) → (refused_with o p ≡ answer_for (refusal o p)) × (l ≡ buffer_after (refusal o p) l)
unfolding answer_for buffer_after
refusal_told o p l = (refl, refl)

-- a message's bytes are what `packet` has, and their number is the answer's length
module _ (p : Port) (k : Option Measurement) (as' : List Action) (r : Bool) where
  answer_told : (m : Option Message) → answer_sent m (answer_of Outcome.Taken p k 0 as' r) ≡ answer_of Outcome.Taken p k (length (packet m)) as' r
  unfolding answer_of
  answer_told None = refl
  answer_told (Some m) = refl

buffer_told : (m : Option Message) (l : List ℕ) → buffer_sent m l ≡ packet m ++ drop (length (packet m)) l
unfolding buffer_sent
buffer_told None l = refl
buffer_told (Some m) l = refl

-- a handler's answer once it is sent: a refusal is told as it is, and nothing is to be sent
abbrev told_of : Port → Worked Handled → Answer
told_of p (worked h) = answer_sent h.message h.answer
told_of p (refused o) = refused_with o p

abbrev left_of : Worked Handled → List ℕ → List ℕ
left_of (worked h) l = buffer_sent h.message l
left_of (refused o) l = l

handled_told : (p : Port) (w : Worked Done) (l : List ℕ) → (told_of p (handled_of w) ≡ answer_for (answered p w)) × (left_of (handled_of w) l ≡ buffer_after (answered p w) l)
unfolding handed_on answer_for buffer_after buffer_sent
handled_told p (worked d) l =
    (answer_told d.port d.measurement d.actions d.reset d.message, buffer_told d.message l)
handled_told p (refused o) l = (refl, refl)

-- ---- what a rule sends, a buffer of 64 bytes takes

taken_ready : (m : Option Message) (room : ℕ) → 64 ≤ room → Writable m → Ready m room
taken_ready None room h k = tt
taken_ready (Some m) room h k = k room h

-- of a refusal nothing is to be sent
abbrev ReadyOf : Worked Handled → ℕ → Type 0
ReadyOf (worked h) room = Ready h.message room
ReadyOf (refused o) room = Unit {0}

rule_ready : (p : Port) (e : Event) (w : Worked Done) (room : ℕ) → 64 ≤ room → InTypes p e → unfit p ≡ false → rule_of p e ≡ w → ReadyOf (handled_of w) room
unfolding handed_on
rule_ready p e (worked d) room h k fit r = taken_ready d.message room h (sent_writable p e d k fit r)
rule_ready p e (refused o) room h k fit r = tt

-- what goes out of the entry is what is told: of a message that the buffer takes, its bytes and their number
sent_told : (p : Port) (h : Worked Handled) (l : List ℕ) → ReadyOf h (length l) → (answer_by p h (length l) ≡ told_of p h) × (buffer_by h l ≡ left_of h l)
sent_told p (worked h) l takes =
    (ap (with_length h.answer) (ready_length h.message h.answer.length (length l) takes), ready_buffer h.message l takes)
sent_told p (refused o) l takes = (refl, refl)

-- ---- the two ends of every entry: `limits` is its test of row 3, g the gate's answer

module _ (p : Port) (e : Event) (l : List ℕ) (limits : Bool) (g : Worked (Unit {0})) (row : limits ≡ row3 e) (is : g ≡ gate_of p (length l) limits) where
  gate_is : gate_of p (length l) (row3 e) ≡ g
  gate_is = ap (gate_of p (length l)) (sym row) ∙ sym is

  -- the gate is shut
  pub shut : (o : Outcome) (a : Answer) → g ≡ Err o → a ≡ refused_with o p → Answers p e l a l
  shut o a closed r =
      let s : step p (length l) e ≡ refusal o p = gate_shut p e (length l) o (gate_is ∙ closed) in
      let (x, y) = refusal_told o p l in
      (r ∙ x ∙ ap answer_for (sym s), y ∙ ap (λ (z : Answered). buffer_after z l) (sym s))

  -- it is open, and h is what the event's handler answers
  module _ (h : Worked Handled) (is_open : g ≡ opened) (r : h ≡ handled_of (rule_of p e)) where
    passed : IsOpen p (length l) (row3 e)
    passed = gate_open p (length l) (row3 e) (gate_is ∙ is_open)

    -- the buffer takes what is to be sent
    ready : PortIn p → ContextIn e → BytesIn e → ReadyOf h (length l)
    ready t context bytes =
        subst (λ (z : Worked Handled). ReadyOf z (length l)) (sym r)
        (rule_ready p e (rule_of p e) (length l) (ltb-false (length l) 64 passed.enough) (record { port = t; context = context; bytes = bytes }) passed.fit refl)

    -- and once it is sent, the entry has answered; a refusal is told as it is
    pub sent : PortIn p → ContextIn e → BytesIn e → (a : Answer) (left : List ℕ) → a ≡ answer_by p h (length l) → left ≡ buffer_by h l → Answers p e l a left
    unfolding row1
    sent t context bytes a left x y =
        let (b, k) = sent_told p h l (ready t context bytes) in
        let s : step p (length l) e ≡ answered p (rule_of p e) = step_rule p (length l) e passed.enough passed.fit passed.within in
        let (v, w) = handled_told p (rule_of p e) l in (
          x ∙ b ∙ ap (told_of p) r ∙ v ∙ ap answer_for (sym s),
          y ∙ k ∙ ap (λ (z : Worked Handled). left_of z l) r ∙ w ∙ ap (λ (z : Answered). buffer_after z l) (sym s),
        )
