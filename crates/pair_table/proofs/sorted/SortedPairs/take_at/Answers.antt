-- The cells in use with one fewer are those of the set with one pair fewer.
use Rattle.std.proofs.Common.{◌*◌, ◌/◌, ◌%◌, ◌<◌, get_or, arith, rules}
use Rattle.needs.specs.Pairs.{limit}
use Rattle.ordered.proofs.Edits.{each_removed, ordered_removed}
use Rattle.ordered.proofs.Parts.{one_fewer}
use Rattle.pair_table.specs.Sorted.{used}
use Rattle.pair_table.proofs.Places.{used_long}
use Rattle.pair_table.proofs.Sets.{set_removed, count_removed}
use Rattle.pair_table.proofs.sorted.SortedPairs.take_at.Goals as goal

pub invariant_of-self : goal.invariant_of-self
invariant_of-self c =
    let s = c.args.self.now in
    let i = c.args.at in
    let small = s.small i c.requires in
    let e = one_fewer s.cells _ i s.len (omega (arith, used_long s)) (omega arith) c.shift_down.ensures in
    let n = count_removed (used s) i (get_or (used s) i 0 / limit) (get_or (used s) i 0 % limit) (omega arith) (omega arith) s.rising (record { within = c.requires; is = omega arith }) in
    rw e
    record {
      room = search rules;
      rising = ordered_removed (used s) i c.requires (λ c d. c < d) s.rising;
      small = each_removed (used s) i c.requires (λ c. c < limit * limit) s.small;
      counted = omega (arith, n, s.counted);
    }

pub returns : goal.returns
returns c =
    let s = c.args.self.now in
    let i = c.args.at in
    let small = s.small i c.requires in
    let e = one_fewer s.cells _ i s.len (omega (arith, used_long s)) (omega arith) c.shift_down.ensures in
    rw e
    (set_removed (used s) i (get_or (used s) i 0 / limit) (get_or (used s) i 0 % limit) (omega arith) (omega arith) s.rising
    (record { within = c.requires; is = omega arith }))
