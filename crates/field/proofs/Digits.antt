-- Digits read from the left, one more at a time.
use Rattle.std.proofs.Common.{ℕ, cond, List, Some, None, Option}
use Rattle.std.specs.Str.Parse.{digits_value_after}
use Rattle.std.specs.Str.{all_ascii_digits}

-- the number that digits write after n, if all are digits
abbrev pub number_after : ℕ → List ℕ → Option ℕ
number_after n s = cond (all_ascii_digits s) (Some (digits_value_after 10 n s)) None
