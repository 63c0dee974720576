use Rattle.reading.proofs.bodies.requester_at.Goals as goal

pub returns : goal.returns
returns c = c.get_identity.ensures
