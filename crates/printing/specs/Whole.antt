-- The book after a whole text.
use Rattle.std.specs.Prelude.{ℕ, cond, List, [], ◌∷◌, length, nat_lt}
use Rattle.text.specs.Cuts.{lines}
use Rattle.text.specs.Texts.{longest_text}

-- one line after another, where after says what one makes of a book
abbrev pub after_lines : {B : Type 0} → (B → List ℕ → B) → B → List (List ℕ) → B
after_lines after b [] = b
after_lines after b (l ∷ ls) = after_lines after (after b l) ls

-- of a text that is too long no line is read
abbrev pub after_text : {B : Type 0} → (B → List ℕ → B) → B → List ℕ → B
after_text after b s = cond (nat_lt longest_text (length s)) b (after_lines after b (lines s))
