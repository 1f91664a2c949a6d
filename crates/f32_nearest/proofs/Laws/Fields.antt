-- The numbers of the two formats' bit patterns (IEEE 754-2008, 3.4), by name. The first four stand in src/lib.rt too, with _ for -.
-- Assumes nothing.
use Prim.Native.Nat.{ℕ, ◌*◌}

-- half of it
abbrev pub HALF : ℕ
HALF = 0x10000000

-- the weight of the exponent's field in an f32's bits: 2 ^ 23
abbrev pub F32_FIELD : ℕ
F32_FIELD = 0x800000

-- what an f64's field counts more than an f32's of the same value: 1023 - 127
abbrev pub BIAS_DIFFERENCE : ℕ
BIAS_DIFFERENCE = 896

-- what is taken off once the digits are dropped
abbrev pub REBIASED : ℕ
REBIASED = BIAS_DIFFERENCE * F32_FIELD

-- the weight of the exponent's field in an f64's bits: 2 ^ 52
abbrev pub F64_FIELD : ℕ
F64_FIELD = 0x10000000000000

-- the digits of a value, with the leading one, are below these: 2 ^ 24 and 2 ^ 53
abbrev pub F32_DIGITS : ℕ
F32_DIGITS = 0x1000000

abbrev pub F64_DIGITS : ℕ
F64_DIGITS = 0x20000000000000

-- the weight of an f64's sign: 2 ^ 63
abbrev pub F64_SIGN : ℕ
F64_SIGN = 0x8000000000000000

-- the bits of the values from 1/8 to 1 are from the first of these on and below the second: fields 1019 to 1023
abbrev pub LEAST : ℕ
LEAST = 0x3FB0000000000000

abbrev pub ABOVE : ℕ
ABOVE = 0x4000000000000000
