-- What stands after a letter, as two fields.
use Rattle.std.proofs.Common.{◌≡◌, ℕ, ◌-◌, ◌<◌, ◌≤◌, List, [], ◌∷◌, length, take, drop, Ok, Err, sym, refl, ap, ◌∙◌, arith}
use Rattle.refusal.specs.declared.LineFault.TheVariants.{FieldCount}
use Rattle.text.specs.Cuts.{Cut, fields}
use Rattle.record.specs.Records.{two_fields}
use Rattle.text.proofs.Pieces.{cut_last, cut_more, pieces_some}

three : (a b : List ℕ) (ps : List (List ℕ)) → 0 < length ps → two_fields (a ∷ (b ∷ ps)) ≡ Err FieldCount
three a b [] h = absurd (omega arith)
three a b (c ∷ ps) h = refl

-- fewer than two fields, two, or more
pub two_short : (s p q : List ℕ) → Cut 9 s p q → length q < 1 → Err FieldCount ≡ two_fields (fields s)
two_short s p q c h = sym (ap two_fields (cut_last 9 s p q c (omega arith)))

module _ (s p q p' q' : List ℕ) (c : Cut 9 s p q) (h : 1 ≤ length q) (c' : Cut 9 (take (length q - 1) (drop 1 q)) p' q') where
  pub two_good : length q' ≡ 0 → Ok (p, p') ≡ two_fields (fields s)
  two_good z = sym (ap two_fields (cut_more 9 s p q c h ∙ ap (λ w. p ∷ w) (cut_last 9 _ p' q' c' z)))

  pub two_long : 1 ≤ length q' → Err FieldCount ≡ two_fields (fields s)
  two_long z =
      sym
      (ap two_fields (cut_more 9 s p q c h ∙ ap (λ w. p ∷ w) (cut_more 9 _ p' q' c' z))
      ∙ three p p' (fields (take (length q' - 1) (drop 1 q'))) (pieces_some 9 (take (length q' - 1) (drop 1 q'))))
