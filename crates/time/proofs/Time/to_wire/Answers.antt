-- `Time::to_wire`: the division by 10 ^ 9 is worked out in parts below 2 ^ 64, the high word first.
use Rattle.std.proofs.Common.{ℕ, ◌+◌, ◌*◌, ◌/◌, ◌%◌, ◌^◌, ◌≤◌, ◌<◌, ◌≡◌, sym, arith, pos, lt-ltb, le-ltb, Ok, Err}
use Rattle.time.specs.declared.TimeError.{TimeError}
use Rattle.time.specs.Units.{spelled, time, wire_of}
use Rattle.time.proofs.Time.to_wire.Goals as goal

-- whole nanoseconds, and the rest, of two words
nanoseconds : (h l : ℕ) → (h * 2 ^ 64 + l) / 2 ^ 32 ≡ h * 2 ^ 32 + l / 2 ^ 32
nanoseconds h l = omega arith

rest : (h l : ℕ) → (h * 2 ^ 64 + l) % 2 ^ 32 ≡ l % 2 ^ 32
rest h l = omega arith

-- divided by 10 ^ 9, the high word first
quotient : (h m : ℕ) → (h * 2 ^ 32 + m) / 10 ^ 9 ≡ h / 10 ^ 9 * 2 ^ 32 + (h % 10 ^ 9 * 2 ^ 32 + m) / 10 ^ 9
quotient h m = omega arith

remainder : (h m : ℕ) → (h * 2 ^ 32 + m) % 10 ^ 9 ≡ (h % 10 ^ 9 * 2 ^ 32 + m) % 10 ^ 9
remainder h m = omega (arith, quotient h m)

small : (h m : ℕ) → m < 2 ^ 32 → h < 65536000000000 → (h * 2 ^ 32 + m) / 10 ^ 9 < 2 ^ 48
small h m p q = omega arith

large : (h m : ℕ) → 65536000000000 ≤ h → 2 ^ 48 ≤ (h * 2 ^ 32 + m) / 10 ^ 9
large h m q = omega arith

sent : (h l : ℕ) → l < 2 ^ 64 → h < 65536000000000 → wire_of (pos (spelled h l)) ≡ Ok (record { seconds = h / 10 ^ 9 * 2 ^ 32 + (h % 10 ^ 9 * 2 ^ 32 + l / 2 ^ 32) / 10 ^ 9; nanos = (h % 10 ^ 9 * 2 ^ 32 + l / 2 ^ 32) % 10 ^ 9 }, l % 2 ^ 32 / 2 ^ 16)
unfolding wire_of
sent h l p q =
    simp (nanoseconds h l, rest h l) (simp (lt-ltb _ _ (small h (l / 2 ^ 32) (omega arith) q)) (simp (quotient h (l / 2 ^ 32), remainder h (l / 2 ^ 32))))

refused : (h l : ℕ) → 65536000000000 ≤ h → wire_of (pos (spelled h l)) ≡ Err TimeError.OutOfRange
unfolding wire_of
refused h l q = simp (nanoseconds h l, le-ltb _ _ (large h (l / 2 ^ 32) q))

pub returns-then-hi-lt65536000000000 : goal.returns-then-hi-lt65536000000000
unfolding time
returns-then-hi-lt65536000000000 c =
    let t = c.args.self in
    sym (sent t.hi t.lo (omega (arith, c.well_formed)) (omega (arith, c.if-hi-lt65536000000000.true)))

pub returns-else-hi-lt65536000000000 : goal.returns-else-hi-lt65536000000000
unfolding time
returns-else-hi-lt65536000000000 c =
    let t = c.args.self in
    sym (refused t.hi t.lo (omega (arith, c.if-hi-lt65536000000000.false)))
