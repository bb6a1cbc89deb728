-- Text put into lent bytes where there is room for it, and counted in any case.
use Rattle.std.specs.Prelude.{◌≡◌, ℕ, ◌+◌, ◌-◌, ◌^◌, ◌<◌, ◌≤◌, min, List, ◌∷◌, ◌++◌, length, take, drop, decimal, Result, MatchResult}
use Rattle.refusal.specs.declared.PageFault.{PageFault}
use Rattle.refusal.specs.declared.PageFault.TheVariants.{Short}

-- d with s written from place i on
abbrev pub written : List ℕ → ℕ → List ℕ → List ℕ
written d i s = take i d ++ (s ++ drop (i + length s) d)

-- the text s was put at place i of d, which left e, and j is the place after it: where s fits, it stands there and nothing else changed
pub record Put (d : List ℕ) (i : ℕ) (e : List ℕ) (j : ℕ) (s : List ℕ) : Type 0 where
  pub next : j ≡ min (i + length s) (2 ^ 64 - 1)
  pub text : i + length s ≤ length d → e ≡ written d i s
  pub long : length e ≡ length d
  pub room : length d < 2 ^ 63

-- a tab and a number
abbrev pub tabbed : ℕ → List ℕ
tabbed n = 9 ∷ decimal n

-- the page p is the first n bytes of e, which d became, and the rest is as it was
pub record Front (p : List ℕ) (n : ℕ) (d e : List ℕ) : Type 0 where
  pub long : n ≡ length p
  pub fits : n ≤ length e
  pub text : take n e ≡ p
  pub rest : drop n e ≡ drop n d

-- the page p was written at the front of d, which left e, or d is too short and is as it was
abbrev pub Written : List ℕ → List ℕ → List ℕ → Result ℕ PageFault → Type 0
Written d e p r = MatchResult r (λ n. Front p n d e) (λ f. (f ≡ Short) × (length d < length p) × (e ≡ d))
