-- Sets of pairs of numbers below 512, and what a store with a number of places makes of one.
use Rattle.std.specs.Prelude.{◌≡◌, ℕ, zero, suc, ◌+◌, ◌<◌, ◌≤◌, Bool, true, false, cond, ◌&&◌, ◌||◌, Ok, Err, Option, Result, MatchOption, ◌==◌, nat_le}
use Rattle.refusal.specs.declared.StoreFault.{StoreFault}
use Rattle.refusal.specs.declared.StoreFault.TheVariants.{TooLarge, Present, Full, Absent}

abbrev pub limit : ℕ
limit = 512

-- a set, as a test of a pair
abbrev pub Pairs : Type 0
Pairs = ℕ → ℕ → Bool

abbrev pub no_pairs : Pairs
no_pairs a b = false

-- the set that says v of the one pair (a, b), and of every other what h says
abbrev pub with_pair : ℕ → ℕ → Bool → Pairs → Pairs
with_pair a b v h x y = cond (x == a && y == b) v (h x y)

-- g is h with its pairs turned round
abbrev pub Mirrors : Pairs → Pairs → Type 0
Mirrors h g = (a b : ℕ) → g b a ≡ h a b

-- every number in the set is below 512
abbrev pub Within : Pairs → Type 0
Within h = (a b : ℕ) → h a b ≡ true → (a < limit) × (b < limit)

abbrev pub sum_below : ℕ → (ℕ → ℕ) → ℕ
sum_below zero f = 0
sum_below (suc n) f = sum_below n f + f n

abbrev pub one_if : Bool → ℕ
one_if b = cond b 1 0

-- how many pairs of numbers below 512 are in the set
unfoldable pub count : Pairs → ℕ
count h = sum_below limit (λ a. sum_below limit (λ b. one_if (h a b)))

-- the set h in n places with the pair (a, b) put in, or the fault
abbrev pub put : Pairs → ℕ → ℕ → ℕ → Result Pairs StoreFault
put h n a b =
    cond (nat_le limit a || nat_le limit b) (Err TooLarge)
    (cond (h a b) (Err Present) (cond (nat_le n (count h)) (Err Full) (Ok (with_pair a b true h))))

-- the set h with the pair (a, b) taken out, or the fault
abbrev pub take_out : Pairs → ℕ → ℕ → Result Pairs StoreFault
take_out h a b = cond (h a b) (Ok (with_pair a b false h)) (Err Absent)

-- r is the least number from k on of which f says yes, or none
abbrev pub Next : (ℕ → Bool) → ℕ → Option ℕ → Type 0
Next f k r = MatchOption r ((n : ℕ) → k ≤ n → f n ≡ false) (λ n. (k ≤ n) × (f n ≡ true) × ((m : ℕ) → k ≤ m → m < n → f m ≡ false))
