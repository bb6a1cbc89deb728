-- The order of names by their bytes: the first byte that differs decides, and a proper beginning comes first.
use Rattle.std.specs.Prelude.{ℕ, Bool, List}
use Rattle.std.specs.declared.cmp.Ordering.{Ordering}
use Rattle.std.specs.Cmp.Lexicographic.{slice_cmp}
use Rattle.std.specs.Ordering.{is_lt, nat_cmp}

abbrev pub name_order : List ℕ → List ℕ → Ordering
name_order s t = slice_cmp nat_cmp s t

abbrev pub name_before : List ℕ → List ℕ → Bool
name_before s t = is_lt (name_order s t)
