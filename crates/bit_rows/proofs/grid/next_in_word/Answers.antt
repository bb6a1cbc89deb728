-- What the shifted word's lowest bit says of the row's columns.
use Rattle.std.proofs.Common.{◌≡◌, ◌+◌, ◌/◌, sym, rules}
use Rattle.std.specs.Option.{option_map}
use Rattle.bit_rows.proofs.Columns.{word_next}
use Rattle.bit_rows.proofs.grid.next_in_word.Goals as goal

pub returns : goal.returns
returns c =
    let row = c.args.row.now in
    let from = c.args.from in
    let shifted : option_map (λ j. c.args.from + j) c.first_bit.result ≡ c.map.result = search rules in
    rw (sym shifted) (word_next row from c.first_bit.result c.requires (c.fits-row (from / 64)) c.first_bit.ensures.least)
