-- Lists of numbers in order.
use Rattle.std.specs.Prelude.{ℕ, ◌<◌, ◌≤◌, Bool, false, ◌||◌, List, [], ◌∷◌, length, ◌==◌, slice_index}

-- k is one of the numbers
abbrev pub holds : List ℕ → ℕ → Bool
holds [] k = false
holds (x ∷ xs) k = x == k || holds xs k

-- P holds of each number
abbrev pub Each : (ℕ → Type 0) → List ℕ → Type 0
Each P xs = (i : ℕ) → i < length xs → P (slice_index xs i)

-- an earlier number stands in R to a later one
abbrev pub Ordered : (ℕ → ℕ → Type 0) → List ℕ → Type 0
Ordered R xs = (i j : ℕ) → (i < j) × (j < length xs) → R (slice_index xs i) (slice_index xs j)

-- B holds of the first i numbers, and A of the others
pub record Parted (B A : ℕ → Type 0) (xs : List ℕ) (i : ℕ) : Type 0 where
  pub within : i ≤ length xs
  pub before : (j : ℕ) → j < i → B (slice_index xs j)
  pub from : (j : ℕ) → i ≤ j → j < length xs → A (slice_index xs j)
