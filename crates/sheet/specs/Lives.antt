-- A sheet's life: the calls upon it since its opening, granted or refused, and the book that they make.
use Rattle.std.specs.Prelude.{ℕ, List, [], ◌∷◌}
use Rattle.sheet.specs.Book.{Book, Call, empty_book, after}

abbrev pub Life : Type 0
Life = List Call

-- the book b after the calls of l, one after another
abbrev pub lived : Book → Life → Book
lived b [] = b
lived b (c ∷ l) = lived (after b c) l

-- the book of the life l over a store of n places; a moment of the life is a beginning of l, and has its own
abbrev pub booked : ℕ → Life → Book
booked n l = lived (empty_book n) l
