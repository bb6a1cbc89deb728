-- A step: the next line of a text, handled and answered by its page.
use Rattle.std.specs.Prelude.{◌≡◌, ℕ, ◌+◌, ◌<◌, List, [], ◌∷◌, length, Some, None, Ok, Err, Option, Result}
use Rattle.refusal.specs.declared.PageFault.{PageFault}
use Rattle.refusal.specs.declared.PageFault.TheVariants.{Short}
use Rattle.refusal.specs.declared.Refusal.{Refusal}
use Rattle.text.specs.Texts.{lines_left, lines_read_of, NextLine}
use Rattle.text.specs.declared.Text.{Text}
use Rattle.page.specs.Refusals.{refusal_page}
use Rattle.page.specs.Writing.{Front}

-- how lines are handled: what a fault is told by in a line, what the book answers to a line, and the book after it
pub record Handling (B F : Type 0) : Type 0 where
  pub told : ℕ → F → Refusal
  pub answer : B → List ℕ → Result (Unit {0}) F
  pub after : B → List ℕ → B

-- what an answer prints in line n: a refusal its page, a granted line nothing
abbrev pub printed : {F : Type 0} → (ℕ → F → Refusal) → ℕ → Result (Unit {0}) F → List ℕ
printed told n (Ok x) = []
printed told n (Err f) = refusal_page (told n f)

-- the page of the line s, which is the n-th, upon the book b
abbrev pub page_of : {B F : Type 0} → Handling B F → ℕ → B → List ℕ → List ℕ
page_of h n b s = printed h.told n (h.answer b s)

-- the next line of t was handled upon the book b, which left b', and answered in the first n of the lent bytes d, which left e; t' goes on after it
pub record Answered {B F : Type 0} (h : Handling B F) (t t' : Text) (b b' : B) (d e : List ℕ) (n : ℕ) : Type 0 where
  pub line : List ℕ
  pub next : NextLine t line t'
  pub book : b' ≡ h.after b line
  pub page : Front (page_of h (lines_read_of t') b line) n d e

-- the page of the next line has more bytes than d
pub record TooShort {B F : Type 0} (h : Handling B F) (t : Text) (b : B) (d : List ℕ) : Type 0 where
  pub line : List ℕ
  pub later : List (List ℕ)
  pub order : lines_left t ≡ line ∷ later
  pub short : length d < length (page_of h (lines_read_of t + 1) b line)

-- a step upon t and the book b with d lent, which left t', b' and e: it answered the next line, or no line is left, or it is refused; in the last two cases all is as it was
abbrev pub Stepped : {B F : Type 0} → Handling B F → Text → Text → B → B → List ℕ → List ℕ → Result (Option ℕ) PageFault → Type 0
Stepped h t t' b b' d e (Ok (Some n)) = Answered h t t' b b' d e n
Stepped h t t' b b' d e (Ok None) = (lines_left t ≡ []) × (t' ≡ t) × (b' ≡ b) × (e ≡ d)
Stepped h t t' b b' d e (Err Short) = TooShort h t b d × (t' ≡ t) × (b' ≡ b) × (e ≡ d)
