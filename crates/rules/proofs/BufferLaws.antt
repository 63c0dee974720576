-- The packet buffer as an event leaves it: what is sent has room in it, so it keeps its length, and where the event is refused its bytes.
use Prim.Native.Nat.{ℕ, ◌+◌, ◌≤◌}
use Rattle.std.specs.Prelude.{◌≡◌, Bool, true, false, ◌||◌, List, ◌++◌, eqb, drop}
use Rattle.std.proofs.Math.Path.{refl}
use Rattle.std.proofs.Common.{ap, ◌∙◌, arith, length-append, length-drop}
use Rattle.std.proofs.Math.ListN.{length}
use borrow.Author.Tests.{eqb-true, ltb-false}
use Rattle.octets.proofs.BytesLaws.{apart}
use Rattle.rules.specs.Names.{Port, Outcome}
use Rattle.rules.specs.Events.{Event, buffer_after}
use Rattle.rules.specs.Table.{row1}
use Rattle.rules.specs.Step.{step}
use Rattle.rules.proofs.ActionLaws.{actions_orderly}
use Rattle.rules.proofs.RefusalLaws.{refusal_untouched}

picked : (n : ℕ) (a b c : Bool) → eqb n 0 ≡ a → eqb n 44 ≡ b → eqb n 54 ≡ c → a || (b || (c || false)) ≡ true → n ≤ 54
picked n true b c x y z t = omega (arith, eqb-true n 0 x)
picked n false true c x y z t = omega (arith, eqb-true n 44 y)
picked n false false true x y z t = omega (arith, eqb-true n 54 z)
picked n false false false x y z t = absurd (apart cc)

module _ (p : Port) (room : ℕ) (e : Event) where
  short : row1 p.config e room ≡ true → length (step p room e).sent ≤ room
  unfolding step
  short r = simp r (omega arith)

  enough : row1 p.config e room ≡ false → length (step p room e).sent ≤ room
  unfolding row1
  enough r =
      let n : ℕ = length (step p room e).sent in
      let small : n ≤ 54 = picked n (eqb n 0) (eqb n 44) (eqb n 54) refl refl refl (actions_orderly p room e).sizes in
      omega (arith, small, ltb-false room 64 r)

  by_row : (b : Bool) → row1 p.config e room ≡ b → length (step p room e).sent ≤ room
  by_row true r = short r
  by_row false r = enough r

  pub sent_fits : length (step p room e).sent ≤ room
  sent_fits = by_row (row1 p.config e room) refl

-- so the buffer has as many bytes afterwards as before
pub buffer_length : (p : Port) (e : Event) (l : List ℕ) → length (buffer_after (step p (length l) e) l) ≡ length l
unfolding buffer_after
buffer_length p e l =
    let sent : List ℕ = (step p (length l) e).sent in
    length-append sent (drop (length sent) l)
    ∙ ap (λ (n : ℕ). length sent + n) (length-drop (length sent) l)
    ∙ omega (arith, sent_fits p (length l) e)

-- and, if the event is refused, the same
pub refused_buffer : (p : Port) (e : Event) (l : List ℕ) → ((step p (length l) e).outcome ≡ Outcome.Taken → ⊥) → buffer_after (step p (length l) e) l ≡ l
unfolding buffer_after
refused_buffer p e l n = ap (λ (sent : List ℕ). sent ++ drop (length sent) l) (refusal_untouched p (length l) e n).sent
