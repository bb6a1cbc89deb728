-- What tasks in memory mean, and what an index of their names is.
use Rattle.std.specs.Prelude.{◌≡◌, ℕ, ◌<◌, ◌≤◌, true, List, map, length}
use Rattle.field.specs.Numbers.{longest_time}
use Rattle.ordered.specs.Order.{holds, Each, Ordered}
use Rattle.sheet.specs.Entries.{Entry, entry, task}
use Rattle.sheet.specs.NameOrder.{name_before}
use Rattle.sheet.specs.declared.task.Task.{Task}

abbrev pub entry_of : Task → Entry
entry_of t = entry t.name.items t.time

abbrev pub entries_of : List Task → List Entry
entries_of ts = map entry_of ts

-- the name of task u comes before that of task v
abbrev pub NamedBefore : List Entry → ℕ → ℕ → Type 0
NamedBefore ts u v = name_before (task ts u).name (task ts v).name ≡ true

-- the numbers of all tasks, in the order of their names
pub record Indexes (ts : List Entry) (ns : List ℕ) : Type 0 where
  pub long : length ns ≡ length ts
  pub numbers : Each (λ u. u < length ts) ns
  pub named : Ordered (NamedBefore ts) ns
  pub whole : (u : ℕ) → u < length ts → holds ns u ≡ true

-- every task's time is 1 to 1,000,000
abbrev pub Timed : List Entry → Type 0
Timed ts = (u : ℕ) → u < length ts → (1 ≤ (task ts u).time) × ((task ts u).time ≤ longest_time)
