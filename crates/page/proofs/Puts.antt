-- One text written after another.
use Rattle.std.proofs.Common.{◌≡◌, ℕ, ◌+◌, ◌≤◌, List, ◌++◌, length, take, drop, sym, ap, ◌∙◌, append_assoc, arith, length-append}
use Rattle.std.proofs.lemmas.List.{drop-drop, take_at, drop_at, length-take-le}
use Rattle.page.specs.Pages.{Puts}
use Rattle.page.specs.Writing.{written, Put}
use Rattle.page.specs.declared.Page.{Page}

module _ (d s t : List ℕ) (i : ℕ) (h : i ≤ length d) where
  front : List ℕ
  front = take i d ++ s

  front_long : length front ≡ i + length s
  unfolding front
  front_long = length-append (take i d) s ∙ ap (λ n. n + length s) (length-take-le i d (omega arith))

  split_here : written d i s ≡ front ++ drop (i + length s) d
  unfolding front
  split_here = sym (append_assoc (take i d) s (drop (i + length s) d))

  written_then : written (written d i s) (i + length s) t ≡ written d i (s ++ t)
  unfolding front
  written_then =
      let tk : take (i + length s) (written d i s) ≡ front = ap (take (i + length s)) split_here ∙ take_at front (drop (i + length s) d) (i + length s) front_long in
      let dr : drop (i + length s + length t) (written d i s) ≡ drop (i + length (s ++ t)) d =
      sym (drop-drop (length t) (i + length s) (written d i s))
      ∙ ap (λ w. drop (length t) (drop (i + length s) w)) split_here
      ∙ ap (drop (length t)) (drop_at front (drop (i + length s) d) (i + length s) front_long)
      ∙ drop-drop (length t) (i + length s) d
      ∙ ap (λ n. drop n d) (let l = length-append s t in omega arith)
      in
      ap (λ w. w ++ (t ++ drop (i + length s + length t) (written d i s))) tk
      ∙ ap (λ w. front ++ (t ++ w)) dr
      ∙ append_assoc (take i d) s (t ++ drop (i + length (s ++ t)) d)
      ∙ ap (λ w. take i d ++ w) (sym (append_assoc s t (drop (i + length (s ++ t)) d)))

-- one text after another
pub put_then : {d e f s t : List ℕ} {i j k : ℕ} → Put d i e j s → Put e j f k t → Put d i f k (s ++ t)
put_then {d} {e} {f} {s} {t} {i} {j} {k} a b =
    let l = length-append s t in
    record {
      next = omega (arith, a.next, b.next, a.room, l);
      text = λ fits.
          let ij : j ≡ i + length s = omega (arith, a.next, a.room) in
          let fits-t : j + length t ≤ length e = omega (arith, a.long, l) in
          b.text fits-t ∙ ap (λ w. written w j t) (a.text (omega arith)) ∙ ap (λ m. written (written d i s) m t) ij ∙ written_then d s t i (omega arith);
      long = b.long ∙ a.long;
      room = a.room;
    }

pub puts_then : {p q r : Page} {s t : List ℕ} → Puts p q s → Puts q r t → Puts p r (s ++ t)
puts_then a b = record { put = put_then a.put b.put; same = b.same ∙ a.same }
