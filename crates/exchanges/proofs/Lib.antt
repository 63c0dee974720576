-- A lemma that several proofs of functions cite.
mod Laws
