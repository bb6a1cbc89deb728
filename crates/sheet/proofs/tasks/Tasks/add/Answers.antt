use Rattle.std.proofs.Common.{◌≡◌, length, arith}
use Rattle.std.proofs.lemmas.List.{length-map, map_push}
use Rattle.sheet.specs.Spelling.{entry_of}
use Rattle.sheet.specs.Tables.{entries, numbers}
use Rattle.sheet.proofs.Changing.{indexes_more}
use Rattle.sheet.proofs.tasks.Tasks.add.Goals as goal

pub invariant_of-self-clause-indexed : goal.invariant_of-self-clause-indexed
invariant_of-self-clause-indexed c =
    let t = c.args.self.now in
    let l : c.len-number.result ≡ length (entries t) = omega (arith, length-map t.tasks.items entry_of) in
    rw (c.push.ensures.items, map_push entry_of t.tasks.items, c.new.ensures, c.insert.ensures.items, l)
    (indexes_more (entries t) _ (numbers t) c.args.place t.indexed c.requires.gap)
