-- The book that a sheet stands for.
use Rattle.std.specs.Prelude.{ℕ}
use Rattle.needs.specs.Pairs.{Pairs}
use Rattle.sheet.specs.Book.{Book}
use Rattle.sheet.specs.Tables.{entries}
use Rattle.sheet.specs.declared.sheets.Sheet.{Sheet}

-- by what its store means
abbrev pub book_of : {S : Type 0} → (S → Pairs) → (S → ℕ) → Sheet S → Book
book_of has places s = record { tasks = entries s.tasks; needs = has s.store; places = places s.store }
