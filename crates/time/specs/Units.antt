-- Document 01, 'Units', in its own order: what two words, a wire timestamp, a correction field and halving mean. One unit is 2 ^ -32 ns.
-- Numbers of units stand in ℤ, or in ℕ where nothing is negative. `Timers` has the section's last part.
-- From the library: `pos n` is n and `negsuc n` is -(n + 1); `cond t a b` is a where the test t is true, and b otherwise; `ltb`, `leb` and, in ℤ, `le_z` test an order; `quot_z` divides and drops what is left over, towards zero.
use Rattle.std.specs.Prelude.{ℕ, suc, ◌+◌, ◌-◌, ◌*◌, ◌/◌, ◌%◌, ◌^◌, Bool, cond, ◌&&◌, ltb, ℤ, pos, negsuc, neg_ℤ, nat_abs, ◌-ℤ◌, ◌*ℤ◌, Option, Some, None, Result, Ok, Err}
use Rattle.std.specs.Int.Signed.{le_z, quot_z}
use Rattle.time.specs.declared.Time.{Time}
use Rattle.time.specs.declared.Duration.{Duration}
use Rattle.time.specs.declared.WireTimestamp.{WireTimestamp}
use Rattle.time.specs.declared.TimeError.{TimeError}

-- from the first number to the last, both of them included
abbrev pub within : ℤ → ℤ → ℤ → Bool
within first last z = le_z first z && le_z z last

-- ---- a time: 0 to 2 ^ 127 - 1 units

-- the number that two words spell, the high one first
abbrev pub spelled : ℕ → ℕ → ℕ
spelled hi lo = hi * 2 ^ 64 + lo

unfoldable pub time : Time → ℤ
time t = pos (spelled t.hi t.lo)

unfoldable pub in_time : ℤ → Bool
in_time z = within (pos 0) (pos (2 ^ 127 - 1)) z

-- the time of so many units, or `OutOfRange` where no time has as many
abbrev pub time_words : ℤ → Time
time_words z = record { hi = nat_abs z / 2 ^ 64; lo = nat_abs z % 2 ^ 64 }

unfoldable pub time_of : ℤ → Result Time TimeError
time_of z = cond (in_time z) (Ok (time_words z)) (Err TimeError.OutOfRange)

-- two words as a time, or `None`
unfoldable pub time_of_words : ℕ → ℕ → Option Time
time_of_words hi lo = cond (in_time (pos (spelled hi lo))) (Some (record { hi = hi; lo = lo })) None

-- ---- a duration: -2 ^ 127 to 2 ^ 127 - 1 units, its two words in two's complement

-- two's complement in so many bits: from half of the power on, a number stands for itself less the power
unfoldable pub signed : ℕ → ℕ → ℤ
signed bits n = cond (ltb n (2 ^ (bits - 1))) (pos n) (pos n -ℤ pos (2 ^ bits))

unfoldable pub duration : Duration → ℤ
duration d = signed 128 (spelled d.hi d.lo)

unfoldable pub in_duration : ℤ → Bool
in_duration z = within (neg_ℤ (pos (2 ^ 127))) (pos (2 ^ 127 - 1)) z

-- what the words of a number spell: itself, or 2 ^ 128 more where it is negative
abbrev pub spelling : ℤ → ℕ
spelling (pos n) = n
spelling (negsuc n) = 2 ^ 128 - suc n

-- the duration of so many units, or `OutOfRange` where no duration has as many
abbrev pub duration_words : ℤ → Duration
duration_words z = record { hi = spelling z / 2 ^ 64; lo = spelling z % 2 ^ 64 }

unfoldable pub duration_of : ℤ → Result Duration TimeError
duration_of z = cond (in_duration z) (Ok (duration_words z)) (Err TimeError.OutOfRange)

-- ---- a wire timestamp: 48-bit seconds, 32-bit nanoseconds (IEEE 1588-2019, 5.3.3); 10 ^ 9 nanoseconds or more count as the number they are

unfoldable pub wire : WireTimestamp → ℤ
wire w = pos ((w.seconds * 10 ^ 9 + w.nanos) * 2 ^ 32)

-- the time that a timestamp means, or `OutOfRange` where it has more than 48 bits of them. (`WireLaws`, `wire_in`: with 48 and 32 bits it always means a time.)
unfoldable pub time_of_wire : WireTimestamp → Result Time TimeError
time_of_wire w = cond (ltb w.seconds (2 ^ 48)) (Ok (time_words (wire w))) (Err TimeError.OutOfRange)

-- the timestamp of so many units, whole nanoseconds, with the fraction of one cut to 16 bits ('Sent messages'); or `OutOfRange` where the seconds have more than 48 bits
unfoldable pub wire_of : ℤ → Result (WireTimestamp × ℕ) TimeError
wire_of (pos n) =
    let nanoseconds : ℕ = n / 2 ^ 32 in
    cond
    (ltb (nanoseconds / 10 ^ 9) (2 ^ 48))
    (Ok (record { seconds = nanoseconds / 10 ^ 9; nanos = nanoseconds % 10 ^ 9 }, (n % 2 ^ 32 / 2 ^ 16)))
    (Err TimeError.OutOfRange)
wire_of (negsuc n) = Err TimeError.OutOfRange

-- ---- a correction field c: signed, 64 bits, 2 ^ -16 ns (IEEE 1588-2019, 5.3.2), so c × 65,536 units

unfoldable pub correction : ℕ → ℤ
correction c = signed 64 c *ℤ pos 65536

-- ---- halving drops an odd unit towards zero: -3 gives -1

unfoldable pub half : ℤ → ℤ
half z = quot_z z (pos 2)

-- half of a duration is always a duration (`Laws`, `half_is`)
unfoldable pub half_of : Duration → Duration
half_of d = duration_words (half (duration d))
