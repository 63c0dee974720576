-- Who is heard: the rules go by cases, and `hearer` by what it answers.
use Rattle.std.specs.Prelude.{Option, Some, None}
use mathlib.Core.Path.{◌≡◌, refl, ap, ◌∙◌}
use mathlib.Core.Bool.{Bool, true, false, cond}
use Rattle.rules.specs.Names.{Header, PortState, SlaveState, Port}
use Rattle.rules.specs.Worked.{Worked}
use Rattle.rules.specs.Events.{Done, nothing}
use Rattle.rules.specs.Rules.{from_master}
use Rattle.record.specs.Record.{as_slave}
use Rattle.record.specs.Same.{same_identity}
use Rattle.measurement.specs.Taking.{slave_in}
use Rattle.measurement.specs.TakingLaws.{of_slave, slave_is}
use Rattle.slave.specs.Keeping.{hearer}

module _ {A : Type 0} where
  heard_if : (t : Bool) (s : SlaveState) (other : A) (rule : SlaveState → A) → cond t (rule s) other ≡ of_slave (cond t (Some s) None) other rule
  heard_if true s other rule = refl
  heard_if false s other rule = refl

  heard_cases : (state : PortState) (test : SlaveState → Bool) (other : A) (rule : SlaveState → A) → as_slave state other (λ s. cond (test s) (rule s) other) ≡ of_slave (as_slave state None (λ s. cond (test s) (Some s) None)) other rule
  heard_cases PortState.Listening test other rule = refl
  heard_cases PortState.Master test other rule = refl
  heard_cases PortState.Passive test other rule = refl
  heard_cases PortState.Faulty test other rule = refl
  heard_cases (PortState.Slave s) test other rule = heard_if (test s) s other rule

module _ (p : Port) (h : Header) where
  pub hearer_none : slave_in p.state ≡ None → hearer p h ≡ None
  unfolding hearer
  hearer_none e = slave_is p.state None None _ e

  module _ (s : SlaveState) (slave : slave_in p.state ≡ Some s) where
    hearer_if : (t : Bool) → same_identity s.master h.source ≡ t → hearer p h ≡ cond t (Some s) None
    unfolding hearer
    hearer_if t e =
        slave_is p.state (Some s) None _ slave ∙ ap (λ (x : Bool). cond x (Some s) None) e

    pub hearer_some : same_identity s.master h.source ≡ true → hearer p h ≡ Some s
    hearer_some e = hearer_if true e

    pub hearer_other : same_identity s.master h.source ≡ false → hearer p h ≡ None
    hearer_other e = hearer_if false e

pub heard_is : (p : Port) (h : Header) (m : Option SlaveState) (rule : SlaveState → Worked Done) → hearer p h ≡ m → from_master p h rule ≡ of_slave m (nothing p) rule
unfolding hearer
heard_is p h m rule e =
    heard_cases p.state (λ s. same_identity s.master h.source) (nothing p) rule ∙ ap (λ (x : Option SlaveState). of_slave x (nothing p) rule) e
