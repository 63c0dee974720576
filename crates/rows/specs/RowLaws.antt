-- A gate that is shut is what `step` refuses, and what is heard goes to its rule as `step` has it.
use Rattle.std.specs.Prelude.{ℕ, ◌≡◌, refl, Bool, true, false, cond, ltb, Ok, Err}
use Rattle.std.proofs.Common.{ap}
use Rattle.octets.proofs.BytesLaws.{apart}
use Rattle.fitness.specs.Fit.{unfit}
use Rattle.rules.specs.Names.{Time, Header, Body, Config, Port, Outcome, Received, ReadError, Reading}
use Rattle.rules.specs.Worked.{Worked, refused}
use Rattle.rules.specs.Events.{Event, Done, refusal, answered}
use Rattle.rules.specs.Table.{row1, row3, ours}
use Rattle.rules.specs.Step.{unless, viewed, rule_of, step}
use Rattle.rows.specs.declared.Heard.{Heard}
use Rattle.rows.specs.Rows.{shut_by, opened, gate_of, ours_or, heard_of, ruled}

-- ---- rows 4, 5, 6 and 8: what is heard goes to its rule as `rule_of` has it

ruled_ours : (test : Bool) (heard : Worked Heard) (rule : Header → Body → Time → Worked Done) → cond test (ruled heard rule) (refused Outcome.Foreign) ≡ ruled (ours_or test heard) rule
ruled_ours true heard rule = refl
ruled_ours false heard rule = refl

pub heard_viewed : (c : Config) (r : Reading) (rule : Header → Body → Time → Worked Done) → viewed c r rule ≡ ruled (heard_of c r) rule
heard_viewed c (Ok (Received.Message h b t)) rule = ruled_ours (ours c h) (Ok (record { header = h; body = b; time = t })) rule
heard_viewed c (Ok (Received.Host h)) rule = ruled_ours (ours c h) (Err Outcome.Host) rule
heard_viewed c (Err ReadError.Version) rule = refl
heard_viewed c (Err ReadError.Malformed) rule = refl

-- ---- rows 1, 2 and 3

pub record IsOpen (p : Port) (room : ℕ) (limits : Bool) : Type 0 where
  pub enough : ltb room 64 ≡ false
  pub fit : unfit p ≡ false
  pub within : limits ≡ false

open_picked : (short bad limits : Bool) → shut_by short Outcome.Buffer (shut_by bad Outcome.Unfit (shut_by limits Outcome.Limits opened)) ≡ opened → (short ≡ false) × (bad ≡ false) × (limits ≡ false)
open_picked true bad limits e = absurd (apart cc)
open_picked false true limits e = absurd (apart cc)
open_picked false false true e = absurd (apart cc)
open_picked false false false e = (refl, refl, refl)

pub gate_open : (p : Port) (room : ℕ) (limits : Bool) → gate_of p room limits ≡ opened → IsOpen p room limits
unfolding gate_of
gate_open p room limits g =
    let (a, b, c) = open_picked (ltb room 64) (unfit p) limits g in
    record { enough = a; fit = b; within = c }

shut_picked : (short bad limits : Bool) (o : Outcome) (w : Worked Done) → shut_by short Outcome.Buffer (shut_by bad Outcome.Unfit (shut_by limits Outcome.Limits opened)) ≡ Err o → unless short Outcome.Buffer (unless bad Outcome.Unfit (unless limits Outcome.Limits w)) ≡ refused o
shut_picked true bad limits o w e = cc
shut_picked false true limits o w e = cc
shut_picked false false true o w e = cc
shut_picked false false false o w e = absurd (apart cc)

pub gate_shut : (p : Port) (e : Event) (room : ℕ) (o : Outcome) → gate_of p room (row3 e) ≡ Err o → step p room e ≡ refusal o p
unfolding gate_of step row1
gate_shut p e room o g = ap (answered p) (shut_picked (ltb room 64) (unfit p) (row3 e) o (rule_of p e) g)
