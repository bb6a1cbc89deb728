-- Numbers, times and worker counts, as fields write them.
use Rattle.std.specs.Prelude.{◌≡◌, ℕ, ◌^◌, ◌<◌, ◌≤◌, Bool, cond, not, ◌&&◌, List, length, Ok, Err, decimal, Result, ◌==◌, nat_le, slice_index}
use Rattle.std.specs.Str.Parse.{digits_value}
use Rattle.std.specs.Str.{all_ascii_digits}
use Rattle.refusal.specs.Answers.{then}
use Rattle.refusal.specs.declared.FieldFault.{FieldFault}
use Rattle.refusal.specs.declared.Flaw.TheVariants.{Number, Range}

abbrev pub most_digits : ℕ
most_digits = 7

abbrev pub longest_time : ℕ
longest_time = 1000000

abbrev pub most_workers : ℕ
most_workers = 64

-- 1 to 7 digits, the first no 0
abbrev pub numeral : List ℕ → Bool
numeral s = nat_le 1 (length s) && (nat_le (length s) most_digits && (not (slice_index s 0 == 48) && all_ascii_digits s))

-- the number that a field writes
abbrev pub number_at : ℕ → List ℕ → Result ℕ FieldFault
number_at f s = cond (numeral s) (Ok (digits_value 10 s)) (Err (record { field = f; flaw = Number }))

-- s is n as it is printed, and n is 1 to 9,999,999
pub record Writes (s : List ℕ) (n : ℕ) : Type 0 where
  pub some : 1 ≤ n
  pub few : n < 10 ^ most_digits
  pub text : s ≡ decimal n

-- n where it is 1 to m
abbrev pub ranged : ℕ → ℕ → ℕ → Result ℕ FieldFault
ranged m f n = cond (nat_le 1 n && nat_le n m) (Ok n) (Err (record { field = f; flaw = Range }))

abbrev pub time_at : ℕ → List ℕ → Result ℕ FieldFault
time_at f s = then (number_at f s) (ranged longest_time f)

abbrev pub workers_at : ℕ → List ℕ → Result ℕ FieldFault
workers_at f s = then (number_at f s) (ranged most_workers f)
