-- the names of the tasks in the middle are those that are compared with the one looked for
use Rattle.std.proofs.Common.{arith}
use Rattle.ordered.proofs.Halving.{middle, narrowed_done}
use Rattle.sheet.specs.Tables.{entries, numbers}
use Rattle.sheet.proofs.Looking.{told_of_task, turn_less, turn_greater, turn_equal, middle_task, number_gap}
use Rattle.sheet.proofs.tasks.Tasks.find.Goals as goal

pub loop-low-preserved-in-Less : goal.loop-low-preserved-in-Less
loop-low-preserved-in-Less c =
    let t = c.args.self.now in
    let l = c.loop-low in
    let m = middle_task (entries t) (numbers t) t.indexed c.args.name.now l.low l.high l.invariant c.loop-low-test.true in
    turn_less (entries t) (numbers t) t.indexed c.args.name.now l.low l.high l.invariant c.loop-low-test.true
    (told_of_task t.tasks.items _ (numbers t) _ (middle l.low l.high) c.index-deref-number.result _ c.args.name.now c.cmp.result _ m c.deref.ensures.0 c.deref-in-loop-low.ensures.0 c.as_slice.ensures.value c.cmp.ensures c.in-Less.is)

pub returns-in-Equal : goal.returns-in-Equal
returns-in-Equal c =
    let t = c.args.self.now in
    let l = c.loop-low in
    let m = middle_task (entries t) (numbers t) t.indexed c.args.name.now l.low l.high l.invariant c.loop-low-test.true in
    let is =
    turn_equal (entries t) (numbers t) t.indexed c.args.name.now l.low l.high l.invariant c.loop-low-test.true
    (told_of_task t.tasks.items _ (numbers t) _ (middle l.low l.high) c.index-deref-number.result _ c.args.name.now c.cmp.result _ m c.deref.ensures.0 c.deref-in-loop-low.ensures.0 c.as_slice.ensures.value c.cmp.ensures c.in-Equal.is) in
    rw c.deref.ensures.0 (m, is)

pub loop-low-preserved : goal.loop-low-preserved
loop-low-preserved c =
    let t = c.args.self.now in
    let l = c.loop-low in
    let m = middle_task (entries t) (numbers t) t.indexed c.args.name.now l.low l.high l.invariant c.loop-low-test.true in
    turn_greater (entries t) (numbers t) t.indexed c.args.name.now l.low l.high l.invariant c.loop-low-test.true
    (told_of_task t.tasks.items _ (numbers t) _ (middle l.low l.high) c.index-deref-number.result _ c.args.name.now c.cmp.result _ m c.deref.ensures.0 c.deref-in-loop-low.ensures.0 c.as_slice.ensures.value c.cmp.ensures c.in-Greater.is)

pub returns : goal.returns
returns c =
    let t = c.args.self.now in
    let l = c.loop-low in
    let p = narrowed_done _ _ (numbers c.args.self.now) l.low l.high l.invariant (omega arith) in
    (number_gap (entries t) (numbers t) t.indexed c.args.name.now l.low p, p)
