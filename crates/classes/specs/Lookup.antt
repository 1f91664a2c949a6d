-- The class of a code point (01, "Tables"): the built-in table's below U+0250; past it that of the lent record that holds it, if one does.
-- What is said here of a lent table means something only where the table is good (crate records).
-- Assumes nothing.
use Rattle.std.specs.Prelude.{ℕ, List, Bool, true, false, cond, ltb, eqb, Option, Some, None}
use Rattle.base.specs.Limits.{BUILTIN_END}
use Rattle.class_builtin.specs.Table.{entry_at}
use Rattle.class_records.specs.Records.{records, record_at, holder}
use Rattle.class_records.specs.declared.Record.{Record}
use Rattle.classes.specs.declared.Class.{Class}

-- base and lower: "0 means the character itself"
abbrev pub or_self : ℕ → ℕ → ℕ
or_self n p = cond (eqb n 0) p n

-- "A built-in table classes the 592 code points U+0000 to U+024F"
unfoldable pub builtin_class : ℕ → Class
builtin_class p =
    record {
      point = p;
      flags = (entry_at p).flags;
      range = (entry_at p).range;
      base = or_self (entry_at p).base p;
      lower = or_self (entry_at p).lower p;
    }

-- the class that a record gives each code point that it holds
unfoldable pub record_class : Record → ℕ → Class
record_class r p =
    record { point = p; flags = r.flags; range = r.range; base = or_self r.base p; lower = or_self r.lower p }

-- the class that the lent table gives: that of the record that holds the code point
unfoldable pub lent_class : List ℕ → ℕ → Option Class
lent_class t p = cond (ltb (holder t p) (records t)) (Some (record_class (record_at t (holder t p)) p)) None

unfoldable pub class_of : List ℕ → ℕ → Option Class
class_of t p = cond (ltb p BUILTIN_END) (Some (builtin_class p)) (lent_class t p)

-- no class was found
abbrev pub missing : Option Class → Bool
missing (Some c) = false
missing None = true
