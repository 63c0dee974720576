-- What the laws of proofs/SumsLaws.antt speak of.
use Rattle.std.specs.Prelude.{◌≡◌, false}
use Rattle.rules.specs.Names.{Port}
use Rattle.fitness.specs.Fit.{sync_timeless, slave_full, unanswered, peer_full}

-- what the rules need of a fit record: each open exchange lacks a time, an open sync has one, and an answered request its responder
pub record Open (p : Port) : Type 0 where
  pub timed : sync_timeless p.state ≡ false
  pub slave : slave_full p.state ≡ false
  pub answered : unanswered p.peer ≡ false
  pub peer : peer_full p.peer ≡ false
