-- An ordered list with one number put in or taken out.
use Rattle.std.proofs.Common.{◌≡◌, ℕ, zero, suc, ◌+◌, ◌-◌, ◌<◌, ◌≤◌, true, false, cond, ◌||◌, eqb, ltb, List, [], ◌∷◌, ◌++◌, length, get_or, take, drop, drop-cons, sym, refl, ap, ◌∙◌, ⊎_elim, arith}
use Rattle.std.specs.List.{insert, remove}
use Rattle.std.proofs.Math.Bool.{or_assoc}
use Rattle.std.proofs.lemmas.List.{take-append-drop}
use Rattle.std.proofs.lemmas.List.Edits.{length-insert, get_or-insert_below, get_or-insert_at, get_or-insert_above, length-remove, get_or-remove_below, get_or-remove_above}
use Rattle.std.proofs.lemmas.Grind.{common_steps}
use Rattle.std.proofs.lemmas.Bool.{ne_eqb, eqb-true, or_cases}
use Rattle.ordered.specs.Order.{holds, Each, Ordered, Parted}

holds-append : (xs ys : List ℕ) (k : ℕ) → holds (xs ++ ys) k ≡ (holds xs k || holds ys k)
holds-append [] ys k = refl
holds-append (x ∷ xs) ys k = simp (holds-append xs ys k, or_assoc)

pub holds_none : (xs : List ℕ) (k : ℕ) → Each (λ x. x ≡ k → ⊥) xs → holds xs k ≡ false
holds_none [] k h = refl
holds_none (x ∷ xs) k h = grind (arith, common_steps, h 0, holds_none xs k (λ j l. h (suc j) (omega arith)))

pub holds_some : (xs : List ℕ) (k j : ℕ) → j < length xs → get_or xs j 0 ≡ k → holds xs k ≡ true
holds_some [] k j l e = absurd (omega arith)
holds_some (x ∷ xs) k zero l e = grind (arith, common_steps)
holds_some (x ∷ xs) k (suc j) l e = grind (arith, common_steps, holds_some xs k j)

-- one number in the middle
holds_mid : (xs ys : List ℕ) (k m : ℕ) → (k ≡ m → ⊥) → holds (xs ++ (k ∷ ys)) m ≡ holds (xs ++ ys) m
holds_mid xs ys k m n = simp (holds-append, ne_eqb k m n)

module _ (xs : List ℕ) (i k : ℕ) where
  pub holds_inserted_other : (m : ℕ) → (k ≡ m → ⊥) → holds (insert xs i k) m ≡ holds xs m
  holds_inserted_other m n = holds_mid (take i xs) (drop i xs) k m n ∙ ap (λ w. holds w m) (take-append-drop i xs)

  pub holds_inserted_here : i ≤ length xs → holds (insert xs i k) k ≡ true
  holds_inserted_here h =
      let l = length-insert xs i k h in holds_some (insert xs i k) k i (omega arith) (get_or-insert_at xs i k 0 h)

  pub holds_removed_other : i < length xs → get_or xs i 0 ≡ k → (m : ℕ) → (k ≡ m → ⊥) → holds (remove xs i) m ≡ holds xs m
  holds_removed_other l e m n =
      let cut = drop-cons xs i 0 l in
      sym (holds_mid (take i xs) (drop (suc i) xs) k m n)
      ∙ ap (λ (w : List ℕ). holds (take i xs ++ w) m) (rw (← e) (sym cut))
      ∙ ap (λ w. holds w m) (take-append-drop i xs)

module _ (xs : List ℕ) (i k : ℕ) (h : i ≤ length xs) where
  inserted_at : (j : ℕ) → get_or (insert xs i k) j 0 ≡ cond (ltb j i) (get_or xs j 0) (cond (eqb j i) k (get_or xs (j - 1) 0))
  inserted_at j = grind (arith, get_or-insert_below xs i k 0 j, get_or-insert_at xs i k 0, get_or-insert_above xs i k 0 (j - 1))

  pub each_inserted : (P : ℕ → Type 0) → Each P xs → P k → Each P (insert xs i k)
  each_inserted P a b j l = rw (inserted_at j) (grind (arith, length-insert xs i k, a j, a (j - 1)))

  pub ordered_inserted : (R : ℕ → ℕ → Type 0) → Ordered R xs → Parted (λ x. R x k) (λ x. R k x) xs i → Ordered R (insert xs i k)
  ordered_inserted R o p a b (less, l) =
      rw (inserted_at a, inserted_at b)
      (grind (arith, length-insert xs i k, o a b, o a (b - 1), o (a - 1) (b - 1), p.before a, p.from (b - 1)))

-- where the element at j of the shorter list stood
abbrev stood : ℕ → ℕ → ℕ
stood i j = cond (ltb j i) j (j + 1)

module _ (xs : List ℕ) (i : ℕ) (h : i < length xs) where
  left_at : (j : ℕ) → get_or (remove xs i) j 0 ≡ get_or xs (stood i j) 0
  left_at j = grind (arith, get_or-remove_below, get_or-remove_above)

  pub each_removed : (P : ℕ → Type 0) → Each P xs → Each P (remove xs i)
  each_removed P a j l = rw (left_at j) (a (stood i j) (grind (arith, length-remove xs i)))

  pub ordered_removed : (R : ℕ → ℕ → Type 0) → Ordered R xs → Ordered R (remove xs i)
  ordered_removed R o a b (less, l) = rw (left_at a, left_at b) (o (stood i a) (stood i b) (grind arith, grind (arith, length-remove xs i)))

  -- a number that stands in R to no equal of it is gone
  pub holds_removed_here : (R : ℕ → ℕ → Type 0) → ((x : ℕ) → R x x → ⊥) → Ordered R xs → holds (remove xs i) (get_or xs i 0) ≡ false
  holds_removed_here R strict o =
      holds_none (remove xs i) (get_or xs i 0) (λ j l e.
      let s = left_at j in
      grind (arith, length-remove xs i, strict (get_or xs i 0), o j i, o i (j + 1)))

-- where a number stands
pub held_at : (xs : List ℕ) (k : ℕ) → holds xs k ≡ true → (i : ℕ) × (i < length xs) × (get_or xs i 0 ≡ k)
held_at [] k e = absurd (cc)
held_at (x ∷ xs) k e =
    ⊎_elim
    (λ (h : eqb x k ≡ true). (0, omega arith, eqb-true x k h))
    (λ (h : holds xs k ≡ true). let r = held_at xs k h in (suc r.0, omega (arith, r.1), r.2))
    (or_cases (eqb x k) (holds xs k) e)
