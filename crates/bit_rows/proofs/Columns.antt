-- The columns of a row within one word.
use Rattle.std.proofs.Common.{◌≡◌, ℕ, ◌+◌, ◌-◌, ◌*◌, ◌/◌, ◌%◌, ◌^◌, ◌<◌, ◌≤◌, true, List, Option, Some, None, get_or, sym, ap, ◌∙◌, arith}
use Rattle.std.specs.Option.{option_map}
use Rattle.std.proofs.lemmas.Bool.{lt-ltb}
use Rattle.needs.specs.Pairs.{limit, Next}
use Rattle.bit_rows.specs.Rows.{word_bit, row_bit, NextBelow}
use Rattle.bit_rows.proofs.Words.{shifted_bit, set_below}

-- the word of a column, shifted down so that the column is its bit 0
abbrev pub word_from : List ℕ → ℕ → ℕ
word_from row from = get_or row (from / 64) 0 / 2 ^ (from % 64)

pub column_bit : (row : List ℕ) (from j : ℕ) → from < limit → from % 64 + j < 64 → row_bit row (from + j) ≡ word_bit (word_from row from) j
column_bit row from j h l =
    let q : (from + j) / 64 ≡ from / 64 = omega arith in
    let s : (from + j) % 64 ≡ from % 64 + j = omega arith in
    rw (lt-ltb (from + j) limit (omega arith), q, s, shifted_bit (get_or row (from / 64) 0) (from % 64) j)

pub column_at : (row : List ℕ) (from n : ℕ) → from < limit → from ≤ n → n < (from / 64 + 1) * 64 → row_bit row n ≡ word_bit (word_from row from) (n - from)
column_at row from n h l u =
    let e : n ≡ from + (n - from) = omega arith in
    ap (row_bit row) e ∙ column_bit row from (n - from) h (omega arith)

-- a bit that is set is one of the same word's
pub column_below : (row : List ℕ) (from j : ℕ) → get_or row (from / 64) 0 < 2 ^ 64 → word_bit (word_from row from) j ≡ true → from % 64 + j < 64
column_below row from j h e =
    set_below (get_or row (from / 64) 0) 64 (from % 64 + j) h (sym (shifted_bit (get_or row (from / 64) 0) (from % 64) j) ∙ e)

-- the lowest bit of the shifted word is the least column
pub word_next : (row : List ℕ) (from : ℕ) (r : Option ℕ) → from < limit → get_or row (from / 64) 0 < 2 ^ 64
    → Next (word_bit (word_from row from)) 0 r → NextBelow (row_bit row) from ((from / 64 + 1) * 64) (option_map (λ j. from + j) r)
word_next row from None h w none = λ n l u. column_at row from n h l u ∙ none (n - from) (omega arith)
word_next row from (Some j) h w next =
    let l : from % 64 + j < 64 = column_below row from j w next.1 in (
      omega arith,
      omega arith,
      column_bit row from j h l ∙ next.1,
      λ m q u. column_at row from m h q (omega arith) ∙ next.2 (m - from) (omega arith) (omega arith),
    )
