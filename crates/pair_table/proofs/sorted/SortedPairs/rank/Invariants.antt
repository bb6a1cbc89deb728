use Rattle.std.proofs.Common.{◌-◌, ◌<◌, ◌≤◌}
use Rattle.ordered.proofs.Halving.{Narrowed}
use Rattle.pair_table.specs.Sorted.{used}
use Rattle.pair_table.proofs.sorted.SortedPairs.rank.Given as goal

abbrev pub invariant-loop-low : goal.invariant-loop-low
invariant-loop-low l = Narrowed (λ c. c < l.cell) (λ c. l.cell ≤ c) (used l.self) l.low l.high

abbrev pub decreases-loop-low : goal.decreases-loop-low
decreases-loop-low l = l.high - l.low
