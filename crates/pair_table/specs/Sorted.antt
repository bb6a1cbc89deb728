-- What pairs in rising order mean.
use Rattle.std.specs.Prelude.{ℕ, List, take}
use Rattle.needs.specs.Pairs.{Pairs}
use Rattle.pair_table.specs.Cells.{in_cells}
use Rattle.pair_table.specs.declared.sorted.SortedPairs.{SortedPairs}

-- the cells that are in use
abbrev pub used : SortedPairs → List ℕ
used s = take s.len s.cells

-- the set
abbrev pub pairs : SortedPairs → Pairs
pairs s = in_cells (used s)
