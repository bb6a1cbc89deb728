-- The one bit that is flipped, and the others; a set that lacks a pair has a place left.
use Rattle.std.proofs.Common.{rules}
use borrow.Author.Rules.{Below-row}
use Rattle.needs.proofs.Counts.{count_less}
use Rattle.bit_rows.proofs.Flips.{flip_held}
use Rattle.bit_rows.proofs.grid.Grid.flip.Goals as goal

pub returns : goal.returns
returns c =
    let a = c.args in
    record {
      set = flip_held a.self.now.rows a.x a.y c.requires.0 c.requires.1 (search rules) (search (rules, Below-row));
      room = count_less _ a.x a.y c.requires.0 c.requires.1;
    }
