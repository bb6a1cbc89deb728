use Rattle.page.proofs.Puts.{puts_then}
use Rattle.page.proofs.Page.put_refusal.Goals as goal

pub returns : goal.returns
returns c =
    puts_then
    (puts_then (puts_then (puts_then c.put_byte.ensures c.put_tabbed.ensures) c.put_tabbed-2.ensures) c.put_tabbed-3.ensures)
    c.put_byte-2.ensures
