use Rattle.std.proofs.Common.{refl, arith}
use Rattle.text.proofs.Pieces.{few_lines, lined_lines, lined_one}
use Rattle.text.proofs.Text.start.Goals as goal

pub invariant_of-result : goal.invariant_of-result
invariant_of-result c = let f = few_lines c.args.bytes.now in record { few = omega arith }

pub returns : goal.returns
returns c = record { short = c.requires; start = refl; all = refl; law = lined_lines c.args.bytes.now; only = λ ls l. lined_one l }
