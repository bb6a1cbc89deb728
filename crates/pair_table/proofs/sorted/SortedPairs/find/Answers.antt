-- What stands where the cell would stand is the cell, or is larger.
use Rattle.std.proofs.Common.{Ok, Err, arith}
use Rattle.pair_table.specs.Cells.{StandsAt}
use Rattle.pair_table.specs.Sorted.{used}
use Rattle.pair_table.proofs.Places.{used_long, used_at, lower_fits, found_test}
use Rattle.pair_table.proofs.sorted.SortedPairs.find.Goals as goal

pub returns-then-self-at : goal.returns-then-self-at
returns-then-self-at c =
    let s = c.args.self.now in
    let f : StandsAt (used c.args.self.now) c.args.cell c.rank-at.result = record { within = omega (arith, used_long s); is = omega (arith, used_at s c.rank-at.result) } in
    record { place = f; test = found_test (used s) c.args.cell (Ok c.rank-at.result) f }

pub returns-else-at-self : goal.returns-else-at-self
returns-else-at-self c =
    let s = c.args.self.now in
    let i = c.rank-at.result in
    let f = lower_fits (used s) c.args.cell i s.rising c.rank-at.ensures (λ h is. grind (arith, used_long s, used_at s i, c.else-at-self.branch)) in
    record { place = f; test = found_test (used s) c.args.cell (Err i) f }
