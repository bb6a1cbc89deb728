-- What stands in the first place from (x, k) on.
use Rattle.std.proofs.Common.{arith, rules}
use Rattle.pair_table.specs.Sorted.{used}
use Rattle.pair_table.proofs.Places.{used_long, used_at, next_past, next_here, next_none}
use Rattle.pair_table.proofs.sorted.SortedPairs.next_of.Goals as goal

pub returns-then-at-self : goal.returns-then-at-self
returns-then-at-self c =
    let s = c.args.self.now in
    next_past (used s) _ _ _ _ c.cell_of.ensures s.rising c.rank-at.ensures (omega (arith, used_long s))

pub returns-then-cell-x : goal.returns-then-cell-x
returns-then-cell-x c =
    let s = c.args.self.now in
    next_here (used s) _ _ _ _ c.cell_of.ensures s.rising c.rank-at.ensures _ (omega arith) (omega (arith, used_long s)) (used_at s c.rank-at.result (omega arith)) (search rules)

pub returns-else-cell-x : goal.returns-else-cell-x
returns-else-cell-x c =
    let s = c.args.self.now in
    next_none (used s) _ _ _ _ c.cell_of.ensures s.rising c.rank-at.ensures _ (omega (arith, used_long s)) (used_at s c.rank-at.result (omega arith)) (search rules)
