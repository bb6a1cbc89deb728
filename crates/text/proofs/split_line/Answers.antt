use Rattle.std.proofs.Common.{rules}
use Rattle.text.proofs.Pieces.{line_last, line_more}
use Rattle.text.proofs.split_line.Goals as goal

pub returns-in-empty : goal.returns-in-empty
returns-in-empty c = line_last c.args.text.now c.cut.result.0.now c.cut.result.1.now c.cut.ensures (search rules) c.requires

pub returns-in-len1-up : goal.returns-in-len1-up
returns-in-len1-up c = line_more c.args.text.now c.cut.result.0.now c.cut.result.1.now c.cut.ensures (search rules)
