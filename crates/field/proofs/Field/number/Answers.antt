use Rattle.field.proofs.Numerals.{as_written}
use Rattle.field.proofs.Field.number.Goals as goal

pub returns : goal.returns
returns c =
    let v = c.numeral.ensures in
    record { value = v; written = as_written c.args.self.place c.args.self.bytes.now _ v }
