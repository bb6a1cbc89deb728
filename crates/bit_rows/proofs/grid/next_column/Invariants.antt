-- No column from k up to where the next word is read.
use Rattle.std.proofs.Common.{◌≡◌, ℕ, ◌*◌, ◌<◌, ◌≤◌, false}
use Rattle.bit_rows.specs.Rows.{row_bit}
use Rattle.bit_rows.proofs.grid.next_column.Given as goal

abbrev pub invariant-loop-word : goal.invariant-loop-word
invariant-loop-word l = (n : ℕ) → l.k ≤ n → n < l.word * 64 → row_bit l.row n ≡ false
