use Rattle.std.proofs.Common.{◌+◌}
use Rattle.text.specs.Texts.{longest_text}
use Rattle.printing.proofs.Wholes.{first_bytes}
use Rattle.printing.proofs.read_text.Goals as goal

pub returns : goal.returns
returns g c =
    first_bytes (longest_text + 1) (g.R.Read.remaining c.args.input) _
    (rw (c.take.ensures.limit, c.take.ensures.inner, c.new-bytes.ensures.items) at c.in_ok-read_to_end.ensures.bytes)
