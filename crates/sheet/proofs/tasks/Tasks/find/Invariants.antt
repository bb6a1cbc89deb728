use Rattle.std.proofs.Common.{◌-◌}
use Rattle.ordered.proofs.Halving.{Narrowed}
use Rattle.sheet.specs.Tables.{entries, numbers, Earlier, Later}
use Rattle.sheet.proofs.tasks.Tasks.find.Given as goal

abbrev pub invariant-loop-low : goal.invariant-loop-low
invariant-loop-low l = Narrowed (Earlier (entries l.self) l.name) (Later (entries l.self) l.name) (numbers l.self) l.low l.high

abbrev pub decreases-loop-low : goal.decreases-loop-low
decreases-loop-low l = l.high - l.low
