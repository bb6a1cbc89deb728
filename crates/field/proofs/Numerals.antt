-- A field that writes a number has just the bytes that the number is printed as.
use Rattle.std.proofs.Common.{◌≡◌, ℕ, ◌^◌, ◌<◌, Bool, true, false, cond, List, get_or, Ok, Err, decimal, Result, sym, refl, ap, ◌∙◌, subst, inl, inr, arith, MatchResult}
use Rattle.std.specs.Str.Parse.{digits_value}
use Rattle.std.specs.Str.{all_ascii_digits}
use Rattle.std.proofs.lemmas.Fmt.{decimal-digits_value, decimal_digit, decimal_nonempty, length-decimal-le, first_decimal, digits_decimal}
use Rattle.std.proofs.lemmas.Str.Parse.{IsNumeralModel, numerals_by_value, tells_all_ascii_digits, digits_value_short}
use Rattle.std.proofs.lemmas.Bool.{and_parts, and_from, not-true, not_from_false, eqb-false, ne_eqb, leb-true, le-leb, both_ways, cases_lt}
use Rattle.refusal.specs.declared.FieldFault.{FieldFault}
use Rattle.refusal.specs.declared.Flaw.TheVariants.{Number}
use Rattle.field.specs.Numbers.{numeral, number_at, Writes}

own : IsNumeralModel (λ s. all_ascii_digits s ≡ true) (digits_value 10)
own = numerals_by_value _ tells_all_ascii_digits

-- a numeral is the print of its value
numeral_writes : (s : List ℕ) → numeral s ≡ true → Writes s (digits_value 10 s)
numeral_writes s e =
    let p = and_parts _ _ e in
    let q = and_parts _ _ p.1 in
    let r = and_parts _ _ q.1 in
    let first : get_or s 0 0 ≡ 48 → ⊥ = eqb-false _ _ (not-true _ r.0) in
    let few : digits_value 10 s < 10 ^ 7 = digits_value_short own s 7 r.1 (leb-true _ _ q.0) in
    let text : decimal (digits_value 10 s) ≡ s =
    decimal-digits_value own s r.1 (leb-true _ _ p.0) (λ z. absurd (first z)) (omega (arith, few))
    in
    let none : digits_value 10 s ≡ 0 → ⊥ = λ z. first (ap (λ w. get_or w 0 0) (sym text ∙ ap decimal z ∙ decimal_digit 0 (omega arith))) in
    record { some = elim (cases_lt 0 (digits_value 10 s)) [ inl h ↦ h | inr h ↦ absurd (none (omega arith)) ]; few = few; text = sym text }

-- the print of a number from 1 to 9,999,999 is a numeral
writes_numeral : (s : List ℕ) (n : ℕ) → Writes s n → numeral s ≡ true
writes_numeral s n w =
    let few : n < 2 ^ 64 = omega (arith, w.few) in
    ap numeral w.text
    ∙ and_from _ _ (le-leb _ _ (decimal_nonempty n few))
    (and_from _ _ (le-leb _ _ (length-decimal-le 7 n (omega arith) w.few few))
    (and_from _ _ (not_from_false _ (ne_eqb _ _ (λ z. let f = first_decimal n w.some few in omega arith))) (digits_decimal own n few)))

told : (s : List ℕ) (bad : FieldFault) (b : Bool) → numeral s ≡ b
    → MatchResult (cond b (Ok (digits_value 10 s)) (Err bad)) (Writes s) (λ _. (n : ℕ) → Writes s n → ⊥)
told s bad true e = numeral_writes s e
told s bad false e = λ n w. both_ways (numeral s) e (writes_numeral s n w)

pub as_written : (f : ℕ) (s : List ℕ) (r : Result ℕ FieldFault) → r ≡ number_at f s
    → MatchResult r (Writes s) (λ _. (n : ℕ) → Writes s n → ⊥)
as_written f s r h =
    subst (λ x. MatchResult x (Writes s) (λ _. (n : ℕ) → Writes s n → ⊥)) (sym h) (told s (record { field = f; flaw = Number }) (numeral s) refl)
