-- The bits of words, rows and grids.
use Rattle.std.specs.Prelude.{◌≡◌, ℕ, ◌/◌, ◌%◌, ◌^◌, ◌<◌, ◌≤◌, Bool, true, false, ◌&&◌, List, [], Option, MatchOption, ◌==◌, nat_lt, slice_index, slice_index_or}
use Rattle.needs.specs.Pairs.{Pairs, limit}

-- bit k of the word w
abbrev pub word_bit : ℕ → ℕ → Bool
word_bit w k = (w / 2 ^ k) % 2 == 1

-- column b of a row of words of 64 bits
abbrev pub row_bit : List ℕ → ℕ → Bool
row_bit row b = nat_lt b limit && word_bit (slice_index row (b / 64)) (b % 64)

-- the pairs (a, b) such that column b of row a is set
unfoldable pub held : List (List ℕ) → Pairs
held rows a b = nat_lt a limit && row_bit (slice_index_or rows a []) b

-- r is the least number from k on and below e of which f says yes, or none
abbrev pub NextBelow : (ℕ → Bool) → ℕ → ℕ → Option ℕ → Type 0
NextBelow f k e r =
    MatchOption r ((n : ℕ) → k ≤ n → n < e → f n ≡ false)
    (λ n. (k ≤ n) × (n < e) × (f n ≡ true) × ((m : ℕ) → k ≤ m → m < n → f m ≡ false))
