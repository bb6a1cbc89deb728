use Rattle.printing.proofs.Wholes.{after_read}
use Rattle.printing.proofs.run.Goals as goal

pub returns : goal.returns
returns g c = after_read g.H.Handler.after _ _ _ _ c.in_ok-bytes.ensures (rw c.deref.ensures.value at c.in_ok-print_pages.ensures)
