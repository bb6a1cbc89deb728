-- A set kept a second time with its pairs turned round, so that followers are found as needs are.
use Rattle.std.proofs.Common.{◌≡◌, ℕ, Bool, Option, refl, subst, arith}
use Rattle.std.proofs.lemmas.Grind.{common_steps}
use mathlib.Core.Path.{fun_ext}
use Rattle.needs.specs.Pairs.{Pairs, no_pairs, with_pair, Next, Mirrors}

mirrors_with : (h g : Pairs) (a b : ℕ) (v : Bool) → Mirrors h g → Mirrors (with_pair a b v h) (with_pair b a v g)
mirrors_with h g a b v m x y = grind (arith, common_steps, m x y)

-- after both were emptied
pub mirrors_none : (h g : Pairs) → h ≡ no_pairs → g ≡ no_pairs → Mirrors h g
mirrors_none h g e f x y = rw (e, f) refl

-- after both were changed in one pair
pub mirrors_changed : (h g h' g' : Pairs) (a b : ℕ) (v : Bool) → Mirrors h g → h' ≡ with_pair a b v h → g' ≡ with_pair b a v g → Mirrors h' g'
mirrors_changed h g h' g' a b v m e f x y = rw (e, f) (mirrors_with h g a b v m x y)

pub mirrors_next : (h g : Pairs) (b k : ℕ) (r : Option ℕ) → Mirrors h g → Next (λ a. g b a) k r → Next (λ a. h a b) k r
mirrors_next h g b k r m n = subst (λ f. Next f k r) (fun_ext (λ a. m a b)) n
