-- The cells in use with one more are those of the set with one more pair.
use Rattle.std.proofs.Common.{◌*◌, ◌<◌, arith, rules}
use Rattle.needs.specs.Pairs.{limit}
use Rattle.ordered.proofs.Edits.{each_inserted, ordered_inserted}
use Rattle.ordered.proofs.Parts.{one_more}
use Rattle.pair_table.specs.Sorted.{used}
use Rattle.pair_table.proofs.Places.{used_long}
use Rattle.pair_table.proofs.Sets.{set_inserted, count_inserted}
use Rattle.pair_table.proofs.sorted.SortedPairs.put_at.Goals as goal

pub invariant_of-self : goal.invariant_of-self
invariant_of-self c =
    let a = c.args in
    let s = a.self.now in
    let f = c.requires.place in
    let e = one_more s.cells _ a.at s.len _ (omega (arith, used_long s, f.within)) (omega arith) (rw c.cell_of.ensures at c.shift_up.ensures) in
    rw e
    record {
      room = search rules;
      rising = ordered_inserted (used s) a.at _ f.within (λ c d. c < d) s.rising f;
      small = each_inserted (used s) a.at _ f.within (λ c. c < limit * limit) s.small (omega arith);
      counted = omega (arith, count_inserted (used s) a.at a.x a.y c.requires.low.0 c.requires.low.1 f, s.counted);
    }

pub returns : goal.returns
returns c =
    let a = c.args in
    let s = a.self.now in
    let f = c.requires.place in
    let e = one_more s.cells _ a.at s.len _ (omega (arith, used_long s, f.within)) (omega arith) (rw c.cell_of.ensures at c.shift_up.ensures) in
    record { set = rw e (set_inserted (used s) a.at a.x a.y c.requires.low.0 c.requires.low.1 f.within) }
