use Rattle.std.proofs.Common.{◌≡◌, length}
use Rattle.printing.specs.Whole.{after_lines}
use Rattle.text.specs.Texts.{lines_left}
use Rattle.printing.proofs.print_pages.Given as goal

-- what is left to handle gives the book after all lines
abbrev pub invariant-loop-count : goal.invariant-loop-count
invariant-loop-count g l =
    (length l.page ≡ length l.initial.page)
    × (after_lines g.H.Handler.after (g.H.Handler.book l.handler) (lines_left l.text)
    ≡ after_lines g.H.Handler.after (g.H.Handler.book l.initial.handler) (lines_left l.initial.text))

abbrev pub decreases-loop-count : goal.decreases-loop-count
decreases-loop-count g l = length (lines_left l.text)
