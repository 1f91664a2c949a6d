-- The bins of a month (02 [13]): "For each accepted line and detector, 64 times the numerator over the denominator, rounded down, names a bin; above 512
-- goes to bin 512, and a ratio or denominator of 0 goes to bin 0. There are 513 bins for each detector". "Refused lines are counted by number." Each count
-- is of how many lines a test holds (`how_many`). That the bins add up stands in proofs/Laws/Report.
-- Assumes nothing.
use Rattle.std.specs.Prelude.{ℕ, zero, suc, ◌+◌, ◌*◌, ◌/◌, Bool, cond, not, ◌&&◌, ◌||◌, List, eqb, ltb}
use Rattle.base.specs.Numbers.{bump}
use Rattle.md_report_meaning.specs.Rows.{lines_in, number_at, accepted_at, ratio_at, numerator_at, denominator_at}

-- "513 bins for each detector"
abbrev pub BINS : ℕ
BINS = 513

-- "above 512 goes to bin 512"
abbrev pub LAST_BIN : ℕ
LAST_BIN = 512

-- the bits of +0.0 and of -0.0
unfoldable pub zero_bits : ℕ → Bool
zero_bits ratio = eqb ratio 0x00000000 || eqb ratio 0x80000000

-- "64 times the numerator over the denominator, rounded down"
unfoldable pub parts : ℕ → ℕ → ℕ
parts numerator denominator = 64 * numerator / denominator

unfoldable pub bin_of : ℕ → ℕ → ℕ → ℕ
bin_of ratio numerator denominator =
    cond (zero_bits ratio || eqb denominator 0)
    0
    (cond (ltb LAST_BIN (parts numerator denominator)) LAST_BIN (parts numerator denominator))

-- the bin of the detector d in the line i
unfoldable pub bin_at : List ℕ → ℕ → ℕ → ℕ
bin_at rows d i = bin_of (ratio_at rows d i) (numerator_at rows d i) (denominator_at rows d i)

-- for how many i below n the test holds
unfoldable pub how_many : (ℕ → Bool) → ℕ → ℕ
how_many f zero = 0
how_many f (suc n) = how_many f n + bump (f n)

-- f 0 + f 1 + .., n of them
unfoldable pub sum_to : (ℕ → ℕ) → ℕ → ℕ
sum_to f zero = 0
sum_to f (suc n) = sum_to f n + f n

-- the count of a bin: how many accepted lines name it
unfoldable pub in_bin : List ℕ → ℕ → ℕ → ℕ
in_bin rows d bin = how_many (λ i. accepted_at rows i && eqb (bin_at rows d i) bin) (lines_in rows)

unfoldable pub accepted : List ℕ → ℕ
accepted rows = how_many (accepted_at rows) (lines_in rows)

unfoldable pub refused : List ℕ → ℕ
refused rows = how_many (λ i. not (accepted_at rows i)) (lines_in rows)

-- the largest number that a refusal has, and what stands for all above it
abbrev pub LAST_NUMBER : ℕ
LAST_NUMBER = 19

abbrev pub OTHER : ℕ
OTHER = 20

unfoldable pub kind_of : ℕ → ℕ
kind_of number = cond (ltb LAST_NUMBER number) OTHER number

-- how many lines have this number, OTHER for all above 19 and 0 for the accepted
unfoldable pub numbered : List ℕ → ℕ → ℕ
numbered rows number = how_many (λ i. eqb (kind_of (number_at rows i)) number) (lines_in rows)
