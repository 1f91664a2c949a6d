-- A rule of a table, proved at all of its entries by one test that antt computes, one entry after the other: `every` is the test,
-- and `at` is the law that turns it into the rule at each entry.
-- Assumes nothing.
use Rattle.std.specs.Prelude.{Bool, true, false}

abbrev pub both_tests : Bool → Bool → Bool
both_tests true b = b
both_tests false b = false
