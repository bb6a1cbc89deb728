-- The bits of a word: none, shifted down, within its length, flipped.
use Rattle.std.proofs.Common.{◌≡◌, ℕ, ◌+◌, ◌*◌, ◌/◌, ◌%◌, ◌^◌, ◌<◌, ◌≤◌, true, false, not, eqb, ap, ⊎_elim, arith}
use lib.Bits.{bit_xor}
use Rattle.std.proofs.lemmas.Grind.{common_steps}
use Rattle.std.proofs.lemmas.Nat.{one_shl, shr-shr}
use Rattle.std.proofs.lemmas.Nat.Bits.{bit_at-zero, bit_at_above, bit_at_xor, bit_at-pow_same, bit_at-pow_other, bit_at-lt}
use Rattle.std.proofs.lemmas.Bool.{cases_lt}
use Rattle.bit_rows.specs.Rows.{word_bit}

pub no_bit : (k : ℕ) → word_bit 0 k ≡ false
no_bit k = ap (λ v. eqb v 1) (bit_at-zero k)

pub shifted_bit : (w s j : ℕ) → word_bit (w / 2 ^ s) j ≡ word_bit w (s + j)
shifted_bit w s j = ap (λ v. eqb (v % 2) 1) (shr-shr w s j)

-- a bit that is set stands below the word's end
pub set_below : (w k j : ℕ) → w < 2 ^ k → word_bit w j ≡ true → j < k
set_below w k j h e = ⊎_elim (λ l. l) (λ (g : k ≤ j). let z = bit_at_above w k j h g in absurd (grind arith)) (cases_lt j k)

-- the word with bit k flipped, as the code flips it
abbrev pub flipped_word : ℕ → ℕ → ℕ
flipped_word w k = bit_xor w ((1 * 2 ^ k) % 2 ^ 64)

pub flipped_here : (w k : ℕ) → k < 64 → word_bit (flipped_word w k) k ≡ not (word_bit w k)
flipped_here w k h =
    rw (one_shl k 64 h, bit_at_xor w (2 ^ k) k, bit_at-pow_same k) (grind (arith, common_steps, bit_at-lt w k))

pub flipped_other : (w k j : ℕ) → k < 64 → (j ≡ k → ⊥) → word_bit (flipped_word w k) j ≡ word_bit w j
flipped_other w k j h n =
    rw (one_shl k 64 h, bit_at_xor w (2 ^ k) j, bit_at-pow_other k j n) (grind (arith, common_steps, bit_at-lt w j))
