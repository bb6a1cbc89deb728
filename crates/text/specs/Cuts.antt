-- Bytes cut at a byte: a text into lines, a line into fields.
use Rattle.std.specs.Prelude.{◌≡◌, ℕ, ◌<◌, cond, ◌⊎◌, List, [], ◌∷◌, ◌++◌, length, ◌==◌, slice_index_or}
use Rattle.std.specs.Str.Iter.{LacksByte}

-- s cut once at the byte b: p is what stands before the first, and q begins with it, or is empty where there is none
pub record Cut (b : ℕ) (s p q : List ℕ) : Type 0 where
  pub whole : s ≡ p ++ q
  pub before : LacksByte b p
  pub stops : slice_index_or q 0 b ≡ b

-- c put before the first piece
abbrev pub onto : ℕ → List (List ℕ) → List (List ℕ)
onto c [] = []
onto c (p ∷ ps) = (c ∷ p) ∷ ps

-- s cut at every byte b: one piece more than there are such bytes
abbrev pub pieces : ℕ → List ℕ → List (List ℕ)
pieces b [] = [] ∷ []
pieces b (c ∷ cs) = cond (c == b) ([] ∷ pieces b cs) (onto c (pieces b cs))

-- fields are parted by single tabs
abbrev pub fields : List ℕ → List (List ℕ)
fields s = pieces 9 s

-- the pieces but for an empty last one
abbrev pub unless_empty : List ℕ → List (List ℕ)
unless_empty [] = []
unless_empty (c ∷ p) = (c ∷ p) ∷ []

abbrev pub ended : List (List ℕ) → List (List ℕ)
ended [] = []
ended (p ∷ []) = unless_empty p
ended (p ∷ (q ∷ ps)) = p ∷ ended (q ∷ ps)

-- the lines of a text: what it is cut into at its line feeds, with nothing after the last of them
abbrev pub lines : List ℕ → List (List ℕ)
lines s = ended (pieces 10 s)

-- l is the first line of s, and t what follows its line feed; where it has none, it is the last
pub record FirstLine (s l t : List ℕ) : Type 0 where
  pub before : LacksByte 10 l
  pub whole : (s ≡ l ++ (10 ∷ t)) ⊎ ((s ≡ l) × (t ≡ []))
  pub order : lines s ≡ l ∷ lines t

-- the law of lines: each ends with a line feed, which only the last may lack, and a text of no bytes has none
pub data Lined : List ℕ → List (List ℕ) → Type 0 where
  none : Lined [] []
  last : {l : List ℕ} → LacksByte 10 l → 0 < length l → Lined l (l ∷ [])
  more : {l s : List ℕ} {ls : List (List ℕ)} → LacksByte 10 l → Lined s ls → Lined (l ++ (10 ∷ s)) (l ∷ ls)
