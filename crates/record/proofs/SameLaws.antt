-- Laws of sameness: two identities are the same exactly when they are equal.
use Rattle.std.specs.Prelude.{◌≡◌, refl, true, false, ◌↔◌}
use Rattle.wire.specs.declared.Identity.{Identity}
use Rattle.record.specs.ExactLaws.{Exact, same_exactly, same_differ, exact_two}
use Rattle.record.specs.Same.{same_identity}

pub exact_identity : Exact same_identity
unfolding same_identity
exact_identity = exact_two (λ c p. record { clock = c; port = p }) (λ a. a.clock) (λ a. a.port) (λ a. refl)

-- ---- for callers: true exactly when equal, and false only where they differ

pub same_identity_lem : (a b : Identity) → (same_identity a b ≡ true) ↔ (a ≡ b)
same_identity_lem = same_exactly same_identity exact_identity

pub other_identity : (a b : Identity) → same_identity a b ≡ false → a ≡ b → ⊥
other_identity = same_differ same_identity exact_identity

pub identity_self : (a : Identity) → same_identity a a ≡ true
identity_self = exact_identity.same_self
