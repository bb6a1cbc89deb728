-- A text that is read line by line.
use Rattle.std.specs.Prelude.{◌≡◌, ℕ, ◌+◌, ◌≤◌, List, ◌∷◌, length}
use Rattle.text.specs.Cuts.{lines, Lined}
use Rattle.text.specs.declared.Text.{Text}

abbrev pub longest_text : ℕ
longest_text = 65536

abbrev pub lines_read_of : Text → ℕ
lines_read_of t = t.lines_read

abbrev pub lines_left : Text → List (List ℕ)
lines_left t = lines t.rest.now

-- the text of the bytes s, just opened: no line is read, and what is left are its lines, by their law and no others
pub record Opened (s : List ℕ) (t : Text) : Type 0 where
  pub short : length s ≤ longest_text
  pub start : lines_read_of t ≡ 0
  pub all : lines_left t ≡ lines s
  pub law : Lined s (lines_left t)
  pub only : (ls : List (List ℕ)) → Lined s ls → ls ≡ lines_left t

-- l is the next line of t, and t' the text after it
pub record NextLine (t : Text) (l : List ℕ) (t' : Text) : Type 0 where
  pub order : lines_left t ≡ l ∷ lines_left t'
  pub count : lines_read_of t' ≡ lines_read_of t + 1
