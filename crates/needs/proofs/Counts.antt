-- How many pairs a set has: one more, one less, none, room for one, and as many with the pairs turned round.
use Rattle.std.proofs.Common.{◌≡◌, ℕ, zero, suc, ◌+◌, ◌*◌, ◌<◌, ◌≤◌, Bool, true, false, Ok, sym, refl, ap, ◌∙◌, ⊎_elim, suc-mul, arith, lit<}
use Rattle.std.proofs.lemmas.Grind.{common_steps}
use mathlib.Core.Path.{fun_ext}
use Rattle.std.proofs.lemmas.Bool.{cases_eq}
use Rattle.needs.specs.Pairs.{Pairs, with_pair, sum_below, one_if, count, no_pairs, put, limit, Mirrors}

sum_same : (n : ℕ) (f g : ℕ → ℕ) → ((k : ℕ) → k < n → f k ≡ g k) → sum_below n f ≡ sum_below n g
sum_same zero f g h = refl
sum_same (suc n) f g h = grind (arith, sum_same n f g (λ k l. h k (omega arith)), h n)

-- one place holds one more
sum_one : (n a : ℕ) (f g : ℕ → ℕ) → a < n → ((k : ℕ) → (k ≡ a → ⊥) → f k ≡ g k) → g a ≡ f a + 1 → sum_below n g ≡ sum_below n f + 1
sum_one zero a f g l h e = absurd (omega arith)
sum_one (suc n) a f g l h e =
    ⊎_elim
    (λ (p : n ≡ a). let s = sum_same n f g (λ k q. h k (omega arith)) in grind arith)
    (λ (q : n ≡ a → ⊥). grind (arith, sum_one n a f g (omega (arith, q)) h e, h n q))
    (cases_eq n a)

sum_most : (n m : ℕ) (f : ℕ → ℕ) → ((k : ℕ) → f k ≤ m) → sum_below n f ≤ n * m
sum_most zero m f h = omega arith
sum_most (suc n) m f h = omega (arith, suc-mul n m, sum_most n m f h, h n)

-- one place holds less
sum_less : (n m a : ℕ) (f : ℕ → ℕ) → ((k : ℕ) → f k ≤ m) → a < n → f a < m → sum_below n f < n * m
sum_less zero m a f h l e = absurd (omega arith)
sum_less (suc n) m a f h l e =
    ⊎_elim
    (λ (p : n ≡ a). let j : f n < m = rw p e in omega (arith, suc-mul n m, sum_most n m f h))
    (λ (q : n ≡ a → ⊥). omega (arith, suc-mul n m, sum_less n m a f h (omega (arith, q)) e, h n))
    (cases_eq n a)

one_most : (b : Bool) → one_if b ≤ 1
one_most true = omega arith
one_most false = omega arith

-- a set that lacks a pair is not full
pub count_less : (h : Pairs) (a b : ℕ) → a < limit → b < limit → h a b ≡ false → count h < limit * limit
unfolding count
count_less h a b la lb e =
    sum_less limit limit a (λ x. sum_below limit (λ y. one_if (h x y)))
    (λ k. sum_most limit 1 (λ y. one_if (h k y)) (λ y. one_most (h k y))) la
    (sum_less limit 1 b (λ y. one_if (h a y)) (λ y. one_most (h a y)) lb (rw e (lit< tt)))

-- two sets that differ in one pair
count_one : (h g : Pairs) (a b : ℕ) → a < limit → b < limit → h a b ≡ false → g a b ≡ true
    → ((x y : ℕ) → (x ≡ a → ⊥) → h x y ≡ g x y) → ((y : ℕ) → (y ≡ b → ⊥) → h a y ≡ g a y) → count g ≡ count h + 1
unfolding count
count_one h g a b la lb eh eg rows cols =
    sum_one limit a (λ x. sum_below limit (λ y. one_if (h x y))) (λ x. sum_below limit (λ y. one_if (g x y))) la
    (λ x n. ap (sum_below limit) (fun_ext (λ y. ap one_if (rows x y n))))
    (sum_one limit b (λ y. one_if (h a y)) (λ y. one_if (g a y)) lb (λ y n. ap one_if (cols y n)) (rw (eh, eg)))

pub count_with : (h : Pairs) (a b : ℕ) → a < limit → b < limit → h a b ≡ false → count (with_pair a b true h) ≡ count h + 1
count_with h a b la lb e =
    count_one h (with_pair a b true h) a b la lb e (grind (arith, common_steps))
    (λ x y n. grind (arith, common_steps, n)) (λ y n. grind (arith, common_steps, n))

pub count_without : (h : Pairs) (a b : ℕ) → a < limit → b < limit → h a b ≡ true → count h ≡ count (with_pair a b false h) + 1
count_without h a b la lb e =
    count_one (with_pair a b false h) h a b la lb (grind (arith, common_steps)) e
    (λ x y n. grind (arith, common_steps, n)) (λ y n. grind (arith, common_steps, n))

-- a pair that is put in
pub put_granted : (h : Pairs) (n a b : ℕ) → a < limit → b < limit → h a b ≡ false → count h < n → put h n a b ≡ Ok (with_pair a b true h)
put_granted h n a b la lb e f = grind (arith, common_steps)

sum_none : (n : ℕ) (f : ℕ → ℕ) → ((k : ℕ) → f k ≡ 0) → sum_below n f ≡ 0
sum_none zero f h = refl
sum_none (suc n) f h = omega (arith, sum_none n f h, h n)

pub count_none : count no_pairs ≡ 0
unfolding count
count_none = sum_none limit (λ a. sum_below limit (λ b. one_if false)) (λ a. sum_none limit (λ b. one_if false) (λ b. refl))

sum_both : (n : ℕ) (f g : ℕ → ℕ) → sum_below n (λ k. f k + g k) ≡ sum_below n f + sum_below n g
sum_both zero f g = refl
sum_both (suc n) f g = omega (arith, sum_both n f g)

-- the order of two sums
sum_turned : (n m : ℕ) (f : ℕ → ℕ → ℕ) → sum_below n (λ a. sum_below m (f a)) ≡ sum_below m (λ b. sum_below n (λ a. f a b))
sum_turned zero m f = sym (sum_none m (λ b. 0) (λ b. refl))
sum_turned (suc n) m f =
    ap (λ s. s + sum_below m (f n)) (sum_turned n m f) ∙ sym (sum_both m (λ b. sum_below n (λ a. f a b)) (f n))

pub count_mirrored : (h g : Pairs) → Mirrors h g → count g ≡ count h
unfolding count
count_mirrored h g m =
    ap (λ (k : Pairs). sum_below limit (λ b. sum_below limit (λ a. one_if (k b a)))) (fun_ext (λ b. fun_ext (λ a. m a b)))
    ∙ sum_turned limit limit (λ b a. one_if (h a b))
