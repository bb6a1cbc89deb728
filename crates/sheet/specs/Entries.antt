-- The tasks of a book, in order of entry.
use Rattle.std.specs.Prelude.{◌≡◌, ℕ, ◌+◌, cond, List, [], ◌∷◌, length, Some, None, Option, ◌≢◌, nat_lt, slice_index_or, slice_set}
use Rattle.std.specs.Str.{bytes_eq}

pub record Entry : Type 0 where
  pub name : List ℕ
  pub time : ℕ

abbrev pub entry : List ℕ → ℕ → Entry
entry n t = record { name = n; time = t }

-- task u; past the last, one of no name and no time
abbrev pub task : List Entry → ℕ → Entry
task ts u = slice_index_or ts u (entry [] 0)

-- task u, if there is one
abbrev pub numbered : List Entry → ℕ → Option Entry
numbered ts u = cond (nat_lt u (length ts)) (Some (task ts u)) None

-- the number of the task of that name, the first having the number i
abbrev pub number_from : ℕ → List Entry → List ℕ → Option ℕ
number_from i [] n = None
number_from i (t ∷ ts) n = cond (bytes_eq t.name n) (Some i) (number_from (i + 1) ts n)

abbrev pub number_of : List Entry → List ℕ → Option ℕ
number_of ts n = number_from 0 ts n

-- task u with another time
abbrev pub retimed : List Entry → ℕ → ℕ → List Entry
retimed ts u t = slice_set ts u (entry (task ts u).name t)

-- every task but the one of the name n is the same in both
abbrev pub Others : List Entry → List Entry → List ℕ → Type 0
Others ts us n = (u : ℕ) → (number_of ts n ≢ Some u) → task us u ≡ task ts u
