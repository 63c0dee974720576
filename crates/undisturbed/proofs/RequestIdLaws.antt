-- The id of each request of a run (`RequestExchanges`): where the generator starts, and as many more as there were requests before, in 16 bits.
use Prim.Native.Nat.{ℕ, zero, suc, ◌+◌, ◌%◌, ◌<◌}
use Rattle.std.specs.Prelude.{◌≡◌}
use Rattle.std.proofs.Math.Path.{subst}
use mathlib.Core.List.{List, [], ◌∷◌}
use native.Mathlib.Omega.{arith}
use Rattle.record.specs.Ids.{id_after}
use Rattle.rules.specs.Names.{Identity, Config}
use Rattle.rules.specs.Events.{Event}
use Rattle.undisturbed.specs.Runs.{Item}
use Rattle.undisturbed.specs.Whole.{RequestExchange, RequestExchanges}

module _ (c : Config) (master : Identity) where
  -- the exchange with n others before it
  abbrev pub IsNth : ℕ → List (Item Event) → List (List (Item Event)) → Type 0
  IsNth n x [] = ⊥
  IsNth zero x (y ∷ ys) = y ≡ x
  IsNth (suc n) x (y ∷ ys) = IsNth n x ys

  -- one more before it, and one further on
  shifted : (id n : ℕ) → (id_after id + n) % 65536 ≡ (id + suc n) % 65536
  unfolding id_after
  shifted id n = omega arith

  pub request_ids : (xs : List (List (Item Event))) (start n : ℕ) (x : List (Item Event)) → start < 65536 → RequestExchanges c master start xs → IsNth n x xs → RequestExchange c master ((start + n) % 65536) x
  unfolding RequestExchanges id_after
  request_ids [] start n x h w e = absurd e
  request_ids (y ∷ ys) start zero x h (w, ws) e =
      let small : start ≡ (start + 0) % 65536 = omega (arith, h) in
      subst (λ (id : ℕ). RequestExchange c master id x) small (subst (λ (z : List (Item Event)). RequestExchange c master start z) e w)
  request_ids (y ∷ ys) start (suc n) x h (w, ws) e =
      subst (λ (id : ℕ). RequestExchange c master id x) (shifted start n) (request_ids ys (id_after start) n x (omega arith) ws e)
