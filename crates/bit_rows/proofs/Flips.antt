-- What a grid holds with no bit set, and after one bit is flipped.
use Rattle.std.proofs.Common.{◌≡◌, ℕ, zero, suc, ◌/◌, ◌%◌, ◌<◌, not, ltb, List, [], length, get_or, set, replicate, refl, ap, ◌∙◌, ⊎_elim, arith}
use Rattle.std.proofs.lemmas.Grind.{common_steps}
use mathlib.Core.Path.{fun_ext}
use Rattle.std.proofs.lemmas.List.{get_or-set_same}
use Rattle.std.proofs.lemmas.Bool.{cases_eq, lt-ltb, and_right}
use Rattle.needs.specs.Pairs.{limit, with_pair, no_pairs}
use Rattle.bit_rows.specs.Rows.{word_bit, row_bit, held}
use Rattle.bit_rows.proofs.Words.{flipped_word, flipped_here, flipped_other, no_bit}

abbrev flipped_row : List ℕ → ℕ → List ℕ
flipped_row row b = set row (b / 64) (flipped_word (get_or row (b / 64) 0) (b % 64))

row_here : (row : List ℕ) (b : ℕ) → b < limit → b / 64 < length row → row_bit (flipped_row row b) b ≡ not (row_bit row b)
row_here row b l h =
    rw (lt-ltb b limit l, get_or-set_same row (b / 64) (flipped_word (get_or row (b / 64) 0) (b % 64)) 0 h)
    (flipped_here _ (b % 64) (omega arith))

row_other : (row : List ℕ) (b y : ℕ) → b / 64 < length row → (y ≡ b → ⊥) → row_bit (flipped_row row b) y ≡ row_bit row y
row_other row b y h n =
    grind (arith, common_steps, n, flipped_other (get_or row (b / 64) 0) (b % 64) (y % 64))

module _ (rows : List (List ℕ)) (a b : ℕ) (ha : a < limit) (hb : b < limit) (la : a < length rows) (lb : b / 64 < length (get_or rows a [])) where
  abbrev flipped : List (List ℕ)
  flipped = set rows a (flipped_row (get_or rows a []) b)

  at_row : (y : ℕ) → held flipped a y ≡ with_pair a b (not (held rows a b)) (held rows) a y
  unfolding held
  at_row y =
      rw (get_or-set_same rows a (flipped_row (get_or rows a []) b) [] la)
      (grind (arith, common_steps, row_here (get_or rows a []) b hb lb, row_other (get_or rows a []) b y lb))

  at_other : (x y : ℕ) → (x ≡ a → ⊥) → held flipped x y ≡ with_pair a b (not (held rows a b)) (held rows) x y
  unfolding held
  at_other x y n = grind (arith, common_steps, n)

  pub flip_held : held flipped ≡ with_pair a b (not (held rows a b)) (held rows)
  flip_held = fun_ext (λ x. fun_ext (λ y. ⊎_elim (λ (e : x ≡ a). rw e (at_row y)) (at_other x y) (cases_eq x a)))

-- what holds of the element and of the default
replicated : {X : Type 0} (P : X → Type 0) (n i : ℕ) (x d : X) → P x → P d → P (get_or (replicate n x) i d)
replicated P zero i x d px pd = pd
replicated P (suc n) zero x d px pd = px
replicated P (suc n) (suc i) x d px pd = replicated P n i x d px pd

-- n rows, since 512 would be written out
abbrev no_rows : ℕ → List (List ℕ)
no_rows n = replicate n (replicate 8 0)

no_word : (n x i : ℕ) → get_or (get_or (no_rows n) x []) i 0 ≡ 0
no_word n x i =
    replicated (λ (row : List ℕ). get_or row i 0 ≡ 0) n x (replicate 8 0) [] (replicated (λ (w : ℕ). w ≡ 0) 8 i 0 0 refl refl) refl

pub none_held : (n : ℕ) → held (no_rows n) ≡ no_pairs
unfolding held
none_held n =
    fun_ext (λ x. fun_ext (λ y.
    and_right (ltb x limit) _ (and_right (ltb y limit) _ (ap (λ w. word_bit w (y % 64)) (no_word n x (y / 64)) ∙ no_bit (y % 64)))))
