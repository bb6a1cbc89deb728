-- The tasks that the table holds, and where a name stands among theirs.
use Rattle.std.specs.Prelude.{◌≡◌, ℕ, ◌<◌, true, List, length, Some, None, Result, MatchResult}
use Rattle.ordered.specs.Order.{Parted}
use Rattle.sheet.specs.Entries.{Entry, task, number_of}
use Rattle.sheet.specs.NameOrder.{name_before}
use Rattle.sheet.specs.Spelling.{entries_of}
use Rattle.sheet.specs.declared.tasks.Tasks.{Tasks}

abbrev pub entries : Tasks → List Entry
entries t = entries_of t.tasks.items

-- the numbers in the order of their names
abbrev pub numbers : Tasks → List ℕ
numbers t = t.by_name.items

-- the name of task u comes before n
abbrev pub Earlier : List Entry → List ℕ → ℕ → Type 0
Earlier ts n u = name_before (task ts u).name n ≡ true

-- n comes before the name of task u
abbrev pub Later : List Entry → List ℕ → ℕ → Type 0
Later ts n u = name_before n (task ts u).name ≡ true

-- i names come before n, and n before all others
abbrev pub Gap : Tasks → List ℕ → ℕ → Type 0
Gap t n i = Parted (Earlier (entries t) n) (Later (entries t) n) (numbers t) i

-- the number of the task of that name, or where its name would stand
abbrev pub Found : Tasks → List ℕ → Result ℕ ℕ → Type 0
Found t n r =
    MatchResult r (λ u. (u < length (entries t)) × (number_of (entries t) n ≡ Some u)) (λ i. (number_of (entries t) n ≡ None) × Gap t n i)
