-- The page of a refusal.
use Rattle.std.specs.Prelude.{ℕ, List, [], ◌∷◌, ◌++◌}
use Rattle.refusal.specs.declared.Refusal.{Refusal}
use Rattle.page.specs.Writing.{tabbed}

-- `!` line field number
abbrev pub refusal_page : Refusal → List ℕ
refusal_page r = (33 ∷ []) ++ tabbed r.line ++ tabbed r.field ++ tabbed r.number ++ (10 ∷ [])
