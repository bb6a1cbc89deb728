-- The first n elements of a list after a part of it was shifted: one more of them, or one fewer.
use Rattle.std.proofs.Common.{◌≡◌, ℕ, suc, ◌+◌, ◌-◌, ◌<◌, ◌≤◌, List, ◌∷◌, ◌++◌, length, take, drop, sym, ap, ◌∙◌, append_assoc, add-one, arith}
use borrow.Rule.Slice.PartMut.{put_mid}
use Rattle.std.specs.List.{insert, remove}
use Rattle.std.proofs.lemmas.List.{length-take-le, length-drop, length-append, take-take, take_at, drop-drop}
use Rattle.std.proofs.lemmas.Slice.{take-put_mid, between_is}

module _ {X : Type 0} (xs ys : List X) (i n : ℕ) where
  -- after `up` upon the places from i to n
  pub one_more : (y : X) → i ≤ n → n < length xs → ys ≡ take (length (take (n + 1 - i) (drop i xs))) (y ∷ take (n + 1 - i) (drop i xs))
      → take (n + 1) (put_mid i (n + 1 - i) xs ys) ≡ insert (take n xs) i y
  one_more y h l e =
      let d = length-drop i xs in
      let k : n + 1 - i ≡ suc (n - i) = omega arith in
      let p = length-take-le (n + 1 - i) (drop i xs) (omega arith) in
      let rest : take (n - i) (take (n + 1 - i) (drop i xs)) ≡ drop i (take n xs) = take-take (n - i) (n + 1 - i) (drop i xs) (omega arith) ∙ between_is xs i n in
      let w : ys ≡ y ∷ drop i (take n xs) = e ∙ ap (λ m. take m (y ∷ take (n + 1 - i) (drop i xs))) (p ∙ k) ∙ ap (λ r. y ∷ r) rest in
      let t = length-take-le n xs (omega arith) in
      let u = length-drop i (take n xs) in
      let len : length ys ≡ suc (length (drop i (take n xs))) = ap length w in
      take-put_mid i (n + 1 - i) xs ys (n + 1) (omega arith) (omega arith)
      ∙ ap (λ r. take i xs ++ r) w
      ∙ ap (λ r. r ++ (y ∷ drop i (take n xs))) (sym (take-take i n xs h))

  -- after `down` upon the places from i up to n
  pub one_fewer : i < n → n ≤ length xs → ys ≡ drop 1 (take (n - i) (drop i xs)) ++ drop (length (take (n - i) (drop i xs)) - 1) (take (n - i) (drop i xs))
      → take (n - 1) (put_mid i (n - i) xs ys) ≡ remove (take n xs) i
  one_fewer h l e =
      let part = take (n - i) (drop i xs) in
      let d = length-drop i xs in
      let p = length-take-le (n - i) (drop i xs) (omega arith) in
      let q = length-drop 1 (take (n - i) (drop i xs)) in
      let s = length-drop (length (take (n - i) (drop i xs)) - 1) (take (n - i) (drop i xs)) in
      let a = length-append (drop 1 (take (n - i) (drop i xs))) (drop (length (take (n - i) (drop i xs)) - 1) (take (n - i) (drop i xs))) in
      let t = length-take-le i xs (omega arith) in
      let b = length-append (take i xs) (drop 1 (take (n - i) (drop i xs))) in
      let len : length ys ≡ n - i = ap length e ∙ (let g : length (drop 1 part ++ drop (length part - 1) part) ≡ n - i = omega arith in g) in
      let rest : drop 1 part ≡ drop (suc i) (take n xs) = ap (drop 1) (between_is xs i n) ∙ drop-drop 1 i (take n xs) ∙ ap (λ m. drop m (take n xs)) (add-one i) in
      sym (take-take (n - 1) n (put_mid i (n - i) xs ys) (omega arith))
      ∙ ap (take (n - 1)) (take-put_mid i (n - i) xs ys n (omega arith) (omega arith) ∙ ap (λ r. take i xs ++ r) e ∙ sym (append_assoc (take i xs) (drop 1 part) (drop (length part - 1) part)))
      ∙ take_at (take i xs ++ drop 1 part) (drop (length part - 1) part) (n - 1) (b ∙ (let g : length (take i xs) + length (drop 1 part) ≡ n - 1 = omega arith in g))
      ∙ ap (λ r. take i xs ++ r) rest
      ∙ ap (λ r. r ++ drop (suc i) (take n xs)) (sym (take-take i n xs (omega arith)))
