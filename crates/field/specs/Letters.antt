-- The letters of rankings.
use Rattle.std.specs.Prelude.{ℕ, cond, List, [], ◌∷◌, Ok, Err, Result, ◌==◌}
use Rattle.refusal.specs.Answers.{within}
use Rattle.refusal.specs.declared.FieldFault.{FieldFault}
use Rattle.refusal.specs.declared.Flaw.{Flaw}
use Rattle.refusal.specs.declared.Flaw.TheVariants.{Ranking}
use Rattle.field.specs.declared.Letter.{Letter}
use Rattle.field.specs.declared.Letter.TheVariants.{E, T, G, A, B}

-- E, T, G, A and B as bytes
abbrev pub letter_byte : Letter → ℕ
letter_byte E = 69
letter_byte T = 84
letter_byte G = 71
letter_byte A = 65
letter_byte B = 66

-- l where c is its byte
abbrev pub letter_or : ℕ → Letter → Result Letter Flaw → Result Letter Flaw
letter_or c l r = cond (c == letter_byte l) (Ok l) r

-- the letter that is written by one byte
abbrev pub letter_of : List ℕ → Result Letter Flaw
letter_of [] = Err Ranking
letter_of (c ∷ []) = letter_or c E (letter_or c T (letter_or c G (letter_or c A (letter_or c B (Err Ranking)))))
letter_of (c ∷ (d ∷ ds)) = Err Ranking

-- the letter that a field holds
abbrev pub letter_at : ℕ → List ℕ → Result Letter FieldFault
letter_at f s = within (λ w. record { field = f; flaw = w }) (letter_of s)
