-- Where an ordered list parts, found by halving.
use Rattle.std.proofs.Common.{◌≡◌, ℕ, ◌+◌, ◌-◌, ◌/◌, ◌<◌, ◌≤◌, List, length, get_or, subst, ⊎_elim, arith}
use Rattle.std.proofs.lemmas.Bool.{cases_lt}
use Rattle.ordered.specs.Order.{Ordered, Parted}

-- the list parts somewhere from low to high
pub record Narrowed (B A : ℕ → Type 0) (xs : List ℕ) (low high : ℕ) : Type 0 where
  pub order : low ≤ high
  pub within : high ≤ length xs
  pub before : (j : ℕ) → j < low → B (get_or xs j 0)
  pub from : (j : ℕ) → high ≤ j → j < length xs → A (get_or xs j 0)

pub narrowed_all : (B A : ℕ → Type 0) (xs : List ℕ) (n : ℕ) → n ≡ length xs → Narrowed B A xs 0 n
narrowed_all B A xs n e =
    record { order = omega arith; within = omega arith; before = λ j q. absurd (omega arith); from = λ j q r. absurd (omega arith) }

pub narrowed_done : (B A : ℕ → Type 0) (xs : List ℕ) (low high : ℕ) → Narrowed B A xs low high → high ≤ low → Parted B A xs low
narrowed_done B A xs low high n h =
    record { within = omega arith; before = n.before; from = λ j q r. n.from j (omega arith) r }

abbrev pub middle : ℕ → ℕ → ℕ
middle low high = low + (high - low) / 2

module _ (R : ℕ → ℕ → Type 0) (B A : ℕ → Type 0) (xs : List ℕ) (low high : ℕ) (o : Ordered R xs) (n : Narrowed B A xs low high) (l : low < high) where
  -- where the middle is before, so is all that is earlier
  pub narrowed_up : ((x y : ℕ) → R x y → B y → B x) → B (get_or xs (middle low high) 0) → Narrowed B A xs (middle low high + 1) high
  narrowed_up down b =
      record {
        order = omega arith;
        within = n.within;
        before = λ j q.
            ⊎_elim
            (λ (e : j < middle low high). down (get_or xs j 0) (get_or xs (middle low high) 0) (o j (middle low high) (e, omega (arith, n.within))) b)
            (λ (e : middle low high ≤ j). let s : middle low high ≡ j = omega arith in subst (λ i. B (get_or xs i 0)) s b)
            (cases_lt j (middle low high));
        from = n.from;
      }

  -- where the middle is not before, nothing later is
  pub narrowed_down : ((x y : ℕ) → R x y → A x → A y) → A (get_or xs (middle low high) 0) → Narrowed B A xs low (middle low high)
  narrowed_down up a =
      record {
        order = omega arith;
        within = omega (arith, n.within);
        before = n.before;
        from = λ j q r.
            ⊎_elim
            (λ (e : middle low high < j). up (get_or xs (middle low high) 0) (get_or xs j 0) (o (middle low high) j (e, r)) a)
            (λ (e : j ≤ middle low high). let s : middle low high ≡ j = omega arith in subst (λ i. A (get_or xs i 0)) s a)
            (cases_lt (middle low high) j);
      }
