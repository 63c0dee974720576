-- Worked examples, each computed: those of document 01 and the ends of each range. One unit is 2 ^ -32 ns.
use Rattle.std.specs.Prelude.{◌≡◌, refl, ◌+◌, ◌-◌, ◌*◌, ◌^◌, pos, neg_ℤ, ◌+ℤ◌, ◌-ℤ◌, None, Ok, Err}
use Rattle.time.specs.Units.{in_time, time_of, time_of_words, signed, duration, in_duration, duration_of, wire, time_of_wire, wire_of, correction, half}
use Rattle.time.specs.declared.TimeError.{TimeError}

-- ---- halves (01's example H, and the lowest duration)

minus_three : duration (record { hi = 2 ^ 64 - 1; lo = 2 ^ 64 - 3 }) ≡ neg_ℤ (pos 3)
unfolding duration signed
minus_three = refl

half_minus_three : half (neg_ℤ (pos 3)) ≡ neg_ℤ (pos 1)
unfolding half
half_minus_three = refl

half_three : half (pos 3) ≡ pos 1
unfolding half
half_three = refl

half_minus_one : half (neg_ℤ (pos 1)) ≡ pos 0
unfolding half
half_minus_one = refl

half_one : half (pos 1) ≡ pos 0
unfolding half
half_one = refl

half_lowest : half (duration (record { hi = 2 ^ 63; lo = 0 })) ≡ neg_ℤ (pos (2 ^ 126))
unfolding duration signed half
half_lowest = refl

-- ---- the ends of the ranges

last_time : time_of (pos (2 ^ 127 - 1)) ≡ Ok (record { hi = 2 ^ 63 - 1; lo = 2 ^ 64 - 1 })
unfolding time_of in_time
last_time = refl

past_the_last_time : time_of (pos (2 ^ 127)) ≡ Err TimeError.OutOfRange
unfolding time_of in_time
past_the_last_time = refl

first_time : time_of (pos 0) ≡ Ok (record { hi = 0; lo = 0 })
unfolding time_of in_time
first_time = refl

before_the_first_time : time_of (neg_ℤ (pos 1)) ≡ Err TimeError.OutOfRange
unfolding time_of in_time
before_the_first_time = refl

no_time : time_of_words (2 ^ 63) 0 ≡ None
unfolding time_of_words in_time
no_time = refl

last_duration : duration_of (pos (2 ^ 127 - 1)) ≡ Ok (record { hi = 2 ^ 63 - 1; lo = 2 ^ 64 - 1 })
unfolding duration_of in_duration
last_duration = refl

past_the_last_duration : duration_of (pos (2 ^ 127)) ≡ Err TimeError.OutOfRange
unfolding duration_of in_duration
past_the_last_duration = refl

lowest_duration : duration_of (neg_ℤ (pos (2 ^ 127))) ≡ Ok (record { hi = 2 ^ 63; lo = 0 })
unfolding duration_of in_duration
lowest_duration = refl

below_the_lowest_duration : duration_of (neg_ℤ (pos (2 ^ 127)) -ℤ pos 1) ≡ Err TimeError.OutOfRange
unfolding duration_of in_duration
below_the_lowest_duration = refl

-- ---- corrections: the lowest is -2 ^ 63, or -2 ^ 79 units

lowest_correction : correction (2 ^ 63) ≡ neg_ℤ (pos (2 ^ 79))
unfolding correction signed
lowest_correction = refl

minus_one_correction : correction (2 ^ 64 - 1) ≡ neg_ℤ (pos 65536)
unfolding correction signed
minus_one_correction = refl

down_to_zero : time_of (pos (2 ^ 79) +ℤ correction (2 ^ 63)) ≡ Ok (record { hi = 0; lo = 0 })
unfolding time_of in_time correction signed
down_to_zero = refl

below_zero : time_of (pos (2 ^ 79 - 1) +ℤ correction (2 ^ 63)) ≡ Err TimeError.OutOfRange
unfolding time_of in_time correction signed
below_zero = refl

up_to_the_last : time_of (pos (2 ^ 127 - 1 - 2 ^ 79) -ℤ correction (2 ^ 63)) ≡ Ok (record { hi = 2 ^ 63 - 1; lo = 2 ^ 64 - 1 })
unfolding time_of in_time correction signed
up_to_the_last = refl

past_the_last : time_of (pos (2 ^ 127 - 2 ^ 79) -ℤ correction (2 ^ 63)) ≡ Err TimeError.OutOfRange
unfolding time_of in_time correction signed
past_the_last = refl

-- ---- wire timestamps: 999,999,999 and 1,000,000,000 nanoseconds are each the number they are, and the second is sent as a second

below_a_second : time_of_wire (record { seconds = 5; nanos = 999999999 }) ≡ Ok (record { hi = 1; lo = 5999999999 * 2 ^ 32 - 2 ^ 64 })
unfolding time_of_wire wire
below_a_second = refl

a_second : time_of_wire (record { seconds = 5; nanos = 1000000000 }) ≡ time_of_wire (record { seconds = 6; nanos = 0 })
unfolding time_of_wire wire
a_second = refl

sent_with_its_fraction : wire_of (pos (5999999999 * 2 ^ 32 + 0xabcd_ef01)) ≡ Ok (record { seconds = 5; nanos = 999999999 }, 0xabcd)
unfolding wire_of
sent_with_its_fraction = refl

last_second : time_of_wire (record { seconds = 2 ^ 48 - 1; nanos = 0 }) ≡ Ok (record { hi = 65535999999999; lo = 2 ^ 64 - 1000000000 * 2 ^ 32 })
unfolding time_of_wire wire
last_second = refl

past_the_last_second : time_of_wire (record { seconds = 2 ^ 48; nanos = 0 }) ≡ Err TimeError.OutOfRange
unfolding time_of_wire wire
past_the_last_second = refl

last_sent : wire_of (pos (2 ^ 48 * 10 ^ 9 * 2 ^ 32 - 1)) ≡ Ok (record { seconds = 2 ^ 48 - 1; nanos = 999999999 }, 0xffff)
unfolding wire_of
last_sent = refl

not_sent : wire_of (pos (2 ^ 48 * 10 ^ 9 * 2 ^ 32)) ≡ Err TimeError.OutOfRange
unfolding wire_of
not_sent = refl
