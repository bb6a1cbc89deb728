use Rattle.std.proofs.Common.{◌≡◌, Ok, rules}
use Rattle.record.specs.Records.{meant, record_of}
use Rattle.record.proofs.Named.{parts_of}
use Rattle.record.proofs.read_record.Goals as goal

pub returns : goal.returns
returns c =
    let v : Ok (meant c.in_ok-record.field-0) ≡ record_of c.args.line.now = search rules in
    record { value = v; parts = parts_of c.args.line.now _ v }
