-- Where a pair stands among the cells, and which pair of a row comes next.
use Rattle.std.proofs.Common.{◌≡◌, ℕ, ◌+◌, ◌*◌, ◌/◌, ◌%◌, ◌<◌, ◌≤◌, List, length, get_or, is_ok, Some, None, Ok, Err, Result, sym, arith}
use Rattle.std.proofs.lemmas.List.{length-take-le, get_or-take}
use Rattle.std.proofs.lemmas.Grind.{common_steps}
use Rattle.needs.specs.Pairs.{limit, Next}
use Rattle.ordered.specs.Order.{holds}
use Rattle.ordered.proofs.Edits.{holds_some}
use Rattle.pair_table.specs.Cells.{in_cells, Rising, Lower, FitsAt, Found}
use Rattle.pair_table.specs.Sorted.{used}
use Rattle.pair_table.specs.declared.sorted.SortedPairs.{SortedPairs}
use Rattle.pair_table.proofs.Sets.{absent, not_held}

pub used_long : (s : SortedPairs) → length (used s) ≡ s.len
used_long s = length-take-le s.len s.cells (omega arith)

pub used_at : (s : SortedPairs) (i : ℕ) → i < s.len → get_or (used s) i 0 ≡ get_or s.cells i 0
used_at s i h = get_or-take s.len s.cells i 0 h

-- what stands where k would stand is larger, unless it is k
pub lower_fits : (cs : List ℕ) (k i : ℕ) → Rising cs → Lower cs k i → (i < length cs → get_or cs i 0 ≡ k → ⊥) → FitsAt cs k i
lower_fits cs k i up f n = record { within = f.within; before = f.before; from = λ j h l. grind (arith, up i j, f.from i, n) }

pub found_test : (cs : List ℕ) (k : ℕ) (r : Result ℕ ℕ) → Found cs k r → is_ok r ≡ holds cs k
found_test cs k (Ok i) f = sym (holds_some cs k i f.within f.is)
found_test cs k (Err i) f = sym (not_held cs k i f)

-- place i is the first from the cell c of (x, k) on
module _ (cs : List ℕ) (x k c i : ℕ) (e : c ≡ x * limit + k) (up : Rising cs) (f : Lower cs c i) where
  pub next_past : length cs ≤ i → Next (in_cells cs x) k None
  next_past h n hn = absent cs x n (λ s j l q. grind (arith, f.before j))

  -- no place has the cell of (x, n), where n is from k on and the cell is before that at place i
  other : (n j : ℕ) → k ≤ n → x * limit + n < get_or cs i 0 → j < length cs → get_or cs j 0 ≡ x * limit + n → ⊥
  other n j h m l q = grind (arith, f.before j, up i j)

  pub next_none : (v : ℕ) → i < length cs → get_or cs i 0 ≡ v → (v / limit ≡ x → ⊥) → Next (in_cells cs x) k None
  next_none v h is n m hm = let u = f.from i (omega arith) h in absent cs x m (λ s j. other m j hm (omega (arith, n)))

  pub next_here : (v : ℕ) → x < limit → i < length cs → get_or cs i 0 ≡ v → v / limit ≡ x → Next (in_cells cs x) k (Some (v % limit))
  next_here v hx h is q =
      let u = f.from i (omega arith) h in
      let g : get_or cs i 0 ≡ x * limit + v % limit = omega arith in (
        omega arith,
        grind (arith, common_steps, holds_some cs (x * limit + v % limit) i h g),
        λ m hm lm. absent cs x m (λ s j. other m j hm (omega arith)),
      )
