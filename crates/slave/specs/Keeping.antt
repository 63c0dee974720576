-- The cases of crate `rules`' definitions, as the values that the code answers.
use Rattle.std.specs.Prelude.{cond, Option, Some, None}
use Rattle.rules.specs.Names.{Header, Port, SlaveState}
use Rattle.record.specs.Record.{as_slave}
use Rattle.record.specs.Same.{same_identity}

-- the Slave that hears this message, its master's
unfoldable pub hearer : Port → Header → Option SlaveState
hearer p h = as_slave p.state None (λ s. cond (same_identity s.master h.source) (Some s) None)
