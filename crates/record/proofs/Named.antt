-- The names of a record are parts of its line.
use Rattle.std.proofs.Common.{◌≡◌, ℕ, suc, ◌+◌, Bool, true, false, cond, List, [], ◌∷◌, ◌++◌, length, take, drop, Ok, Err, Result, sym, refl, ap, ◌∙◌, subst, append_assoc, arith}
use Rattle.std.specs.List.{join_with_byte}
use Rattle.std.proofs.lemmas.List.{take_at, drop_at, take_all, length_push}
use Rattle.refusal.specs.Answers.{then, within}
use Rattle.refusal.specs.declared.FieldFault.{FieldFault}
use Rattle.refusal.specs.declared.LineFault.TheVariants.{Field}
use Rattle.field.specs.Letters.{letter_at}
use Rattle.field.specs.Names.{good_name}
use Rattle.field.specs.Numbers.{time_at, workers_at}
use Rattle.text.specs.Cuts.{fields}
use Rattle.record.specs.Records.{Named, Asked, enters, needs, drops, retimes, plans, kind_of, first_name, second_name, two_names, name_and_time, asked_by, fields_by, record_by, record_of, PartOf, Parts}
use Rattle.record.specs.declared.Kind.{Kind}
use Rattle.record.specs.declared.Kind.TheVariants.{Task, Need, Drop, Retime, Plan}
use Rattle.text.proofs.Pieces.{rejoined_pieces}

never : {T E : Type 0} {x : T} {e : E} → Ok x ≡ Err e → ⊥
never h = let z : ◌≡◌ {A = ℕ} 0 1 = cc in omega arith

-- a value that came through came from a value
then_ok : {T U E : Type 0} (r : Result T E) (k : T → Result U E) (y : U) → Ok y ≡ then r k → (x : T) × (Ok x ≡ r) × (Ok y ≡ k x)
then_ok (Ok x) k y h = (x, refl, h)
then_ok (Err e) k y h = absurd (never h)

within_ok : {T E F : Type 0} (f : E → F) (r : Result T E) (y : T) → Ok y ≡ within f r → Ok y ≡ r
within_ok f (Ok x) y h = let e : y ≡ x = cc in ap (λ z. Ok z) e
within_ok f (Err e) y h = absurd (never h)

named : (b : Bool) (i : ℕ) (s : List ℕ) (e : FieldFault) (n : Named) → Ok n ≡ then (cond b (Ok s) (Err e)) (λ m. Ok (record { name = m; at = i }))
    → record { name = s; at = i } ≡ n
named true i s e n h = cc
named false i s e n h = absurd (never h)

module _ (c : ℕ) (a b : List ℕ) where
  line : List ℕ
  line = c ∷ (9 ∷ (a ++ (9 ∷ b)))

  first_part : (n : Named) → Ok n ≡ first_name a → PartOf line n
  unfolding line
  first_part n h = subst (λ m. PartOf line m) (named (good_name a) 2 a _ n h) (take_at a (9 ∷ b) (length a) refl)

  past : drop (3 + length a) line ≡ b
  unfolding line
  past =
      let l = length_push a 9 in
      let e : 3 + length a ≡ suc (suc (length (a ++ (9 ∷ [])))) = omega arith in
      ap (λ k. drop k line) e ∙ ap (drop (length (a ++ (9 ∷ [])))) (sym (append_assoc a (9 ∷ []) b)) ∙ drop_at (a ++ (9 ∷ [])) b _ refl

  second_part : (n : Named) → Ok n ≡ second_name a b → PartOf line n
  second_part n h =
      subst (λ m. PartOf line m) (named (good_name b) (3 + length a) b _ n h)
      (ap (take (length b)) past ∙ take_all (length b) b (omega arith))

  -- a record made of two names, or of a name and a number
  names : (k : Named × Named → Asked) (m : Asked) → Ok m ≡ then (two_names a b) (λ p. Ok (k p))
      → (p : Named × Named) × (m ≡ k p) × PartOf line p.0 × PartOf line p.1
  names k m h =
      let r = then_ok (two_names a b) _ m h in
      let p = then_ok (first_name a) _ r.0 r.1 in
      let q = then_ok (second_name a b) _ r.0 p.2 in
      let e : m ≡ k (p.0, q.0) = cc in
      ((p.0, q.0), e, first_part p.0 p.1, second_part q.0 q.1)

  timed : (k : Named × ℕ → Asked) (m : Asked) → Ok m ≡ then (name_and_time a b) (λ p. Ok (k p))
      → (p : Named × ℕ) × (m ≡ k p) × PartOf line p.0
  timed k m h =
      let r = then_ok (name_and_time a b) _ m h in
      let p = then_ok (first_name a) _ r.0 r.1 in
      let q = then_ok (time_at 3 b) _ r.0 p.2 in
      let e : m ≡ k (p.0, q.0) = cc in
      ((p.0, q.0), e, first_part p.0 p.1)

  by_kind : (k : Kind) (m : Asked) → Ok m ≡ asked_by k a b → Parts line m
  by_kind Task m h = let p = timed (λ p. enters p.0 p.1) m h in subst (Parts line) (sym p.1) p.2
  by_kind Need m h = let p = names (λ p. needs p.0 p.1) m h in subst (Parts line) (sym p.1) (p.2, p.3)
  by_kind Drop m h = let p = names (λ p. drops p.0 p.1) m h in subst (Parts line) (sym p.1) (p.2, p.3)
  by_kind Retime m h = let p = timed (λ p. retimes p.0 p.1) m h in subst (Parts line) (sym p.1) p.2
  by_kind Plan m h =
      let p = then_ok (workers_at 2 a) _ m h in
      let q = then_ok (letter_at 3 b) _ m p.2 in
      let e : m ≡ plans p.0 q.0 = cc in
      subst (Parts line) (sym e) tt

by_fields : (c : ℕ) (fs : List (List ℕ)) (k : Kind) (m : Asked) → Ok m ≡ fields_by k fs → Parts (join_with_byte 9 ((c ∷ []) ∷ fs)) m
unfolding line
by_fields c [] k m h = absurd (never h)
by_fields c (a ∷ []) k m h = absurd (never h)
by_fields c (a ∷ (b ∷ [])) k m h = by_kind c a b k m (within_ok Field (asked_by k a b) m h)
by_fields c (a ∷ (b ∷ (x ∷ xs))) k m h = absurd (never h)

by_letter : (ps : List (List ℕ)) (m : Asked) → Ok m ≡ record_by ps → Parts (join_with_byte 9 ps) m
by_letter [] m h = absurd (never h)
by_letter ([] ∷ ps) m h = absurd (never h)
by_letter ((c ∷ []) ∷ ps) m h = let p = then_ok (kind_of c) (λ k. fields_by k ps) m h in by_fields c ps p.0 m p.2
by_letter ((c ∷ (d ∷ l)) ∷ ps) m h = absurd (never h)

pub parts_of : (s : List ℕ) (m : Asked) → Ok m ≡ record_of s → Parts s m
parts_of s m h = subst (λ w. Parts w m) (rejoined_pieces 9 s) (by_letter (fields s) m h)
