-- The set that cells stand for: one cell more, one fewer, and how many pairs it has.
use Rattle.std.proofs.Common.{◌≡◌, ℕ, ◌+◌, ◌*◌, ◌<◌, ◌≤◌, Bool, true, false, List, [], length, sym, ap, ◌∙◌, arith}
use mathlib.Core.Path.{fun_ext}
use Rattle.std.specs.List.{insert, remove}
use Rattle.std.proofs.lemmas.Grind.{common_steps}
use Rattle.needs.specs.Pairs.{limit, count, with_pair, no_pairs}
use Rattle.needs.proofs.Counts.{count_with, count_without, count_none}
use Rattle.ordered.specs.Order.{holds, Each}
use Rattle.ordered.proofs.Edits.{holds_none, holds_some, holds_inserted_here, holds_inserted_other, holds_removed_here, holds_removed_other}
use Rattle.pair_table.specs.Cells.{in_cells, Rising, FitsAt, StandsAt}

pub in_cells_at : (cs : List ℕ) (x y : ℕ) (v : Bool) → x < limit → y < limit → holds cs (x * limit + y) ≡ v → in_cells cs x y ≡ v
in_cells_at cs x y v hx hy e = grind (arith, common_steps)

-- no cell stands for the pair
pub absent : (cs : List ℕ) (x y : ℕ) → (y < limit → Each (λ c. c ≡ x * limit + y → ⊥) cs) → in_cells cs x y ≡ false
absent cs x y n = grind (arith, common_steps, λ (h : y < limit). holds_none cs (x * limit + y) (n h))

module _ (cs ds : List ℕ) (a b : ℕ) (v : Bool) (ha : a < limit) (hb : b < limit)
    (here : holds ds (a * limit + b) ≡ v) (other : (m : ℕ) → (a * limit + b ≡ m → ⊥) → holds ds m ≡ holds cs m) where
  changed_at : (x y : ℕ) → in_cells ds x y ≡ with_pair a b v (in_cells cs) x y
  changed_at x y = grind (arith, common_steps, here, other (x * limit + y))

  changed : in_cells ds ≡ with_pair a b v (in_cells cs)
  changed = fun_ext (λ x. fun_ext (changed_at x))

pub not_held : (cs : List ℕ) (k i : ℕ) → FitsAt cs k i → holds cs k ≡ false
not_held cs k i f = holds_none cs k (λ j l e. grind (arith, f.before j, f.from j))

-- the cell of (a, b), put in or taken out at place i
module _ (cs : List ℕ) (i a b : ℕ) (ha : a < limit) (hb : b < limit) where
  pub set_inserted : i ≤ length cs → in_cells (insert cs i (a * limit + b)) ≡ with_pair a b true (in_cells cs)
  set_inserted h =
      changed cs (insert cs i (a * limit + b)) a b true ha hb (holds_inserted_here cs i (a * limit + b) h) (holds_inserted_other cs i (a * limit + b))

  pub set_removed : Rising cs → StandsAt cs (a * limit + b) i → in_cells (remove cs i) ≡ with_pair a b false (in_cells cs)
  set_removed up f =
      changed cs (remove cs i) a b false ha hb
      (ap (holds (remove cs i)) (sym f.is) ∙ holds_removed_here cs i f.within (λ c d. c < d) (λ x h. omega arith) up)
      (holds_removed_other cs i (a * limit + b) f.within f.is)

  pub count_inserted : FitsAt cs (a * limit + b) i → count (in_cells (insert cs i (a * limit + b))) ≡ count (in_cells cs) + 1
  count_inserted f =
      ap count (set_inserted f.within)
      ∙ count_with (in_cells cs) a b ha hb (in_cells_at cs a b false ha hb (not_held cs (a * limit + b) i f))

  pub count_removed : Rising cs → StandsAt cs (a * limit + b) i → count (in_cells cs) ≡ count (in_cells (remove cs i)) + 1
  count_removed up f =
      count_without (in_cells cs) a b ha hb (in_cells_at cs a b true ha hb (holds_some cs (a * limit + b) i f.within f.is))
      ∙ ap (λ h. count h + 1) (sym (set_removed up f))

pub no_cells : in_cells [] ≡ no_pairs
no_cells = fun_ext (λ x. fun_ext (λ y. grind (arith, common_steps)))

pub count_no_cells : count (in_cells []) ≡ 0
count_no_cells = ap count no_cells ∙ count_none
