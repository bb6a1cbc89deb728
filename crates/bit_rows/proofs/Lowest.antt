-- The lowest bit of a word stands above its trailing zeros.
use Rattle.std.proofs.Common.{◌≡◌, ℕ, zero, suc, ◌/◌, ◌%◌, ◌^◌, ◌<◌, ◌≤◌, false, eqb, Some, refl, ap, ◌∙◌, pow-suc, arith}
use lib.Count.{count_trailing_zeros, under}
use Rattle.std.proofs.lemmas.Nat.Bits.{bit_at_lowest, bit_at-suc}
use Rattle.needs.specs.Pairs.{Next}
use Rattle.bit_rows.specs.Rows.{word_bit}

high_bit : (n j : ℕ) → word_bit n (suc j) ≡ word_bit (n / 2) j
high_bit n j = ap (λ v. eqb v 1) (bit_at-suc n j)

-- the lowest digit d, above the rest
lowest_digit : (n d t : ℕ) → n % 2 ≡ d → (d ≡ 0 → Next (word_bit (n / 2)) 0 (Some t)) → Next (word_bit n) 0 (Some (under d t))
lowest_digit n zero t e rest = (omega arith, high_bit n t ∙ (rest refl).1, below)
  where
    below : (m : ℕ) → 0 ≤ m → m < suc t → word_bit n m ≡ false
    below zero o l = ap (λ v. eqb v 1) (bit_at_lowest n ∙ e)
    below (suc m) o l = high_bit n m ∙ (rest refl).2 m (omega arith) (omega arith)
lowest_digit n (suc d) t e rest =
    let one : n % 2 ≡ 1 = omega arith in (omega arith, ap (λ v. eqb v 1) (bit_at_lowest n ∙ one), λ m o l. absurd (omega arith))

pub lowest : (k n : ℕ) → 0 < n → n < 2 ^ k → Next (word_bit n) 0 (Some (count_trailing_zeros k n))
unfolding count_trailing_zeros
lowest zero n p h = absurd (omega arith)
lowest (suc k) n p h =
    lowest_digit n (n % 2) (count_trailing_zeros k (n / 2)) refl (λ e. lowest k (n / 2) (omega arith) (omega (arith, pow-suc 2 k)))
