use Rattle.std.proofs.Common.{rules}
use Rattle.record.proofs.TwoFields.{two_short, two_good, two_long}
use Rattle.record.proofs.read_two.Goals as goal

pub returns-in_default : goal.returns-in_default
returns-in_default c = two_short c.args.rest.now c.cut_field.result.0.now c.cut_field.result.1.now c.cut_field.ensures (search rules)

pub returns-then-not-is_empty : goal.returns-then-not-is_empty
returns-then-not-is_empty c =
    two_long c.args.rest.now _ _ c.cut_field-2.result.0.now c.cut_field-2.result.1.now c.cut_field.ensures (search rules) c.cut_field-2.ensures (search rules)

pub returns : goal.returns
returns c =
    two_good c.args.rest.now _ _ c.cut_field-2.result.0.now c.cut_field-2.result.1.now c.cut_field.ensures (search rules) c.cut_field-2.ensures (search rules)
