-- No bit of a word that is 0 is set.
use Rattle.needs.specs.Pairs.{limit}
use Rattle.bit_rows.proofs.Flips.{none_held}
use Rattle.bit_rows.proofs.grid.no_bits.Goals as goal

pub returns : goal.returns
returns c = none_held limit
