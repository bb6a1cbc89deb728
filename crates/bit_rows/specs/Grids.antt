-- What a grid means.
use Rattle.needs.specs.Pairs.{Pairs}
use Rattle.bit_rows.specs.Rows.{held}
use Rattle.bit_rows.specs.declared.grid.Grid.{Grid}

-- the set
abbrev pub pairs : Grid → Pairs
pairs g = held g.rows
