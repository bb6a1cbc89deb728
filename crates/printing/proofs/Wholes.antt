-- A text of which no more is read than tells that it is too long.
use Rattle.std.proofs.Common.{◌≡◌, ℕ, ◌+◌, ltb, List, length, take, Some, None, Option, IfSome, cond, arith}
use Rattle.std.specs.Option.{option_map}
use Rattle.std.proofs.lemmas.Bool.Decides.{nat_tests}
use Rattle.std.proofs.lemmas.Grind.{common_steps}
use Rattle.text.specs.Cuts.{lines}
use Rattle.text.specs.Texts.{longest_text}
use Rattle.printing.specs.Whole.{after_lines, after_text}

-- what is read of an input that is cut off after n bytes
pub first_bytes : (n : ℕ) (r : Option (List ℕ)) (v : List ℕ) → IfSome (option_map (take n) r) (λ s. v ≡ s) → IfSome r (λ s. v ≡ take n s)
first_bytes n None v h = tt
first_bytes n (Some s) v h = h

-- the rest of a text that is too long changes nothing
cut_after : {B : Type 0} (after : B → List ℕ → B) (b : B) (m : ℕ) (s : List ℕ)
    → cond (ltb m (length (take (m + 1) s))) b (after_lines after b (lines (take (m + 1) s))) ≡ cond (ltb m (length s)) b (after_lines after b (lines s))
cut_after after b m s = grind (arith, nat_tests, common_steps)

pub after_read : {B : Type 0} (after : B → List ℕ → B) (b c : B) (r : Option (List ℕ)) (v : List ℕ) → IfSome r (λ s. v ≡ take (longest_text + 1) s)
    → c ≡ after_text after b v → IfSome r (λ s. c ≡ after_text after b s)
after_read after b c None v h e = tt
after_read after b c (Some s) v h e = rw (e, h) (cut_after after b longest_text s)
