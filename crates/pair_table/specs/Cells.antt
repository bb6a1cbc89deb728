-- Pairs of numbers below 512 as rising numbers, its cells: (x, y) as 512 x + y.
use Rattle.std.specs.Prelude.{◌≡◌, ℕ, ◌+◌, ◌*◌, ◌<◌, ◌≤◌, ◌&&◌, List, length, Result, MatchResult, nat_lt, slice_index_or}
use Rattle.needs.specs.Pairs.{Pairs, limit}
use Rattle.ordered.specs.Order.{holds, Each, Ordered, Parted}

-- the set that the cells stand for
abbrev pub in_cells : List ℕ → Pairs
in_cells cs x y = nat_lt x limit && (nat_lt y limit && holds cs (x * limit + y))

abbrev pub Rising : List ℕ → Type 0
Rising cs = Ordered (λ c d. c < d) cs

-- each cell stands for a pair
abbrev pub Small : List ℕ → Type 0
Small cs = Each (λ c. c < limit * limit) cs

-- i cells lie below k
abbrev pub Lower : List ℕ → ℕ → ℕ → Type 0
Lower cs k i = Parted (λ c. c < k) (λ c. k ≤ c) cs i

-- k is no cell, and would stand at i
abbrev pub FitsAt : List ℕ → ℕ → ℕ → Type 0
FitsAt cs k i = Parted (λ c. c < k) (λ c. k < c) cs i

-- k stands at i
pub record StandsAt (cs : List ℕ) (k i : ℕ) : Type 0 where
  pub within : i < length cs
  pub is : slice_index_or cs i 0 ≡ k

-- where k stands, or would stand
abbrev pub Found : List ℕ → ℕ → Result ℕ ℕ → Type 0
Found cs k r = MatchResult r (λ i. StandsAt cs k i) (λ i. FitsAt cs k i)
