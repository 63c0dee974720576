-- The statement over document 01's marked examples.
use Rattle.rules.proofs.Examples.{sync_first, follow_up_first, one_step_after, other_id, asymmetric, last_delay_id, last_peer_id, last_sync_id, middle_draw}
use Rattle.rules.proofs.ExamplesPeer.{peer_two_step, peer_one_step, half_of_minus_3, half_of_3}
use Rattle.rules.specs.Marked.{Marked}

pub marked : Marked
marked =
    record {
      A = sync_first;
      B = follow_up_first;
      C = one_step_after;
      D = other_id;
      E = peer_two_step;
      F = peer_one_step;
      G = asymmetric;
      H = (half_of_minus_3, half_of_3);
      I = (last_delay_id, last_peer_id, last_sync_id);
      J = middle_draw;
    }
