-- Cuts at the first byte, at every byte, and the lines that they make.
use Rattle.std.proofs.Common.{◌≡◌, ℕ, zero, suc, ◌-◌, ◌<◌, ◌≤◌, Bool, true, false, cond, eqb, List, [], ◌∷◌, ◌++◌, length, take, drop, sym, refl, ap, ◌∙◌, subst, inl, inr, arith}
use Rattle.std.specs.Str.Iter.{LacksByte}
use Rattle.std.specs.List.{join_with_byte}
use Rattle.std.proofs.lemmas.List.{append-nil, take_all}
use Rattle.std.proofs.lemmas.Bool.{eq-eqb, ne_eqb, eqb-true, eqb-false}
use Rattle.text.specs.Cuts.{Cut, onto, pieces, unless_empty, ended, lines, FirstLine, Lined, none, last, more}

lacks_first : (b c : ℕ) (p : List ℕ) → LacksByte b (c ∷ p) → eqb c b ≡ false
lacks_first b c p h = ne_eqb c b (h 0 (omega arith))

lacks_rest : (b c : ℕ) (p : List ℕ) → LacksByte b (c ∷ p) → LacksByte b p
lacks_rest b c p h k l = h (suc k) (omega arith)

lacks_one_more : (b c : ℕ) (p : List ℕ) → (c ≡ b → ⊥) → LacksByte b p → LacksByte b (c ∷ p)
lacks_one_more b c p h t zero l = h
lacks_one_more b c p h t (suc k) l = t k (omega arith)

pieces_last : (b : ℕ) (p : List ℕ) → LacksByte b p → pieces b p ≡ p ∷ []
pieces_last b [] h = refl
pieces_last b (c ∷ p) h = rw (lacks_first b c p h) (ap (onto c) (pieces_last b p (lacks_rest b c p h)))

pieces_more : (b : ℕ) (p t : List ℕ) → LacksByte b p → pieces b (p ++ (b ∷ t)) ≡ p ∷ pieces b t
pieces_more b [] t h = rw (eq-eqb b b refl)
pieces_more b (c ∷ p) t h = rw (lacks_first b c p h) (ap (onto c) (pieces_more b p t (lacks_rest b c p h)))

-- what a cut says of the pieces
pub cut_last : (b : ℕ) (s p q : List ℕ) → Cut b s p q → length q ≡ 0 → pieces b s ≡ p ∷ []
cut_last b s p [] c h = ap (pieces b) (c.whole ∙ append-nil p) ∙ pieces_last b p c.before
cut_last b s p (x ∷ q) c h = absurd (omega arith)

pub cut_more : (b : ℕ) (s p q : List ℕ) → Cut b s p q → 1 ≤ length q → pieces b s ≡ p ∷ pieces b (take (length q - 1) (drop 1 q))
cut_more b s p [] c h = absurd (omega arith)
cut_more b s p (x ∷ q) c h =
    ap (pieces b) (c.whole ∙ ap (λ y. p ++ (y ∷ q)) c.stops) ∙ pieces_more b p q c.before
    ∙ ap (λ w. p ∷ pieces b w) (sym (take_all (length (x ∷ q) - 1) q (omega arith)))

-- there is a piece at least
some_more : (t : Bool) (c : ℕ) (ps : List (List ℕ)) → 0 < length ps → 0 < length (cond t ([] ∷ ps) (onto c ps))
some_more true c ps h = omega arith
some_more false c [] h = absurd (omega arith)
some_more false c (p ∷ ps) h = omega arith

pub pieces_some : (b : ℕ) (s : List ℕ) → 0 < length (pieces b s)
pieces_some b [] = omega arith
pieces_some b (c ∷ s) = some_more (eqb c b) c (pieces b s) (pieces_some b s)

-- pieces put together again
rejoined_more : (t : Bool) (b c : ℕ) (ps : List (List ℕ)) (s : List ℕ) → eqb c b ≡ t → 0 < length ps → join_with_byte b ps ≡ s
    → join_with_byte b (cond t ([] ∷ ps) (onto c ps)) ≡ c ∷ s
rejoined_more true b c [] s e h r = absurd (omega arith)
rejoined_more true b c (p ∷ ps) s e h r = ap (λ w. b ∷ w) r ∙ ap (λ x. x ∷ s) (sym (eqb-true c b e))
rejoined_more false b c [] s e h r = absurd (omega arith)
rejoined_more false b c (p ∷ []) s e h r = ap (λ w. c ∷ w) r
rejoined_more false b c (p ∷ (q ∷ ps)) s e h r = ap (λ w. c ∷ w) r

pub rejoined_pieces : (b : ℕ) (s : List ℕ) → join_with_byte b (pieces b s) ≡ s
rejoined_pieces b [] = refl
rejoined_pieces b (c ∷ s) = rejoined_more (eqb c b) b c (pieces b s) s refl (pieces_some b s) (rejoined_pieces b s)

ended_more : (p : List ℕ) (ps : List (List ℕ)) → 0 < length ps → ended (p ∷ ps) ≡ p ∷ ended ps
ended_more p [] h = absurd (omega arith)
ended_more p (q ∷ ps) h = refl

unless_some : (p : List ℕ) → 0 < length p → unless_empty p ≡ p ∷ []
unless_some [] h = absurd (omega arith)
unless_some (c ∷ p) h = refl

lines_more : (p t : List ℕ) → LacksByte 10 p → lines (p ++ (10 ∷ t)) ≡ p ∷ lines t
lines_more p t h = ap ended (pieces_more 10 p t h) ∙ ended_more p (pieces 10 t) (pieces_some 10 t)

lines_last : (p : List ℕ) → LacksByte 10 p → 0 < length p → lines p ≡ p ∷ []
lines_last p h k = ap ended (pieces_last 10 p h) ∙ unless_some p k

-- what a cut says of the first line
pub line_last : (s p q : List ℕ) → Cut 10 s p q → length q ≡ 0 → 0 < length s → FirstLine s p q
line_last s p [] c h k =
    let e : s ≡ p = c.whole ∙ append-nil p in
    record {
      before = c.before;
      whole = inr (e, refl);
      order = ap lines e ∙ lines_last p c.before (subst (λ w. 0 < length w) e k);
    }
line_last s p (x ∷ q) c h k = absurd (omega arith)

pub line_more : (s p q : List ℕ) → Cut 10 s p q → 1 ≤ length q → FirstLine s p (take (length q - 1) (drop 1 q))
line_more s p [] c h = absurd (omega arith)
line_more s p (x ∷ q) c h =
    let t : take (length (x ∷ q) - 1) q ≡ q = take_all (length (x ∷ q) - 1) q (omega arith) in
    let e : s ≡ p ++ (10 ∷ q) = c.whole ∙ ap (λ y. p ++ (y ∷ q)) c.stops in
    subst (λ w. FirstLine s p w) (sym t) (record { before = c.before; whole = inl e; order = ap lines e ∙ lines_more p q c.before })

-- no more lines than bytes
few_more : (t : Bool) (c n : ℕ) (ps : List (List ℕ)) → 0 < length ps → length (ended ps) ≤ n → length (ended (cond t ([] ∷ ps) (onto c ps))) ≤ suc n
few_more true c n ps h l = rw (ended_more [] ps h) (omega arith)
few_more false c n [] h l = absurd (omega arith)
few_more false c n (p ∷ []) h l = omega arith
few_more false c n (p ∷ (q ∷ ps)) h l = omega arith

pub few_lines : (s : List ℕ) → length (lines s) ≤ length s
few_lines [] = omega arith
few_lines (c ∷ s) = few_more (eqb c 10) c (length s) (pieces 10 s) (pieces_some 10 s) (few_lines s)

-- the law of lines has one answer
pub lined_one : {s : List ℕ} {ls : List (List ℕ)} → Lined s ls → ls ≡ lines s
lined_one none = refl
lined_one (last {l} h k) = sym (lines_last l h k)
lined_one (more {l} {s} h r) = ap (λ w. l ∷ w) (lined_one r) ∙ sym (lines_more l s h)

one_more : (c : ℕ) {s : List ℕ} {ls : List (List ℕ)} → (c ≡ 10 → ⊥) → Lined s ls → (ms : List (List ℕ)) × Lined (c ∷ s) ms
one_more c h none = (_, last (lacks_one_more 10 c [] h (λ k l. absurd (omega arith))) (omega arith))
one_more c h (last {l} t k) = (_, last (lacks_one_more 10 c l h t) (omega arith))
one_more c h (more {l} t r) = (_, more {l = c ∷ l} (lacks_one_more 10 c l h t) r)

lined_step : (c : ℕ) {s : List ℕ} {ls : List (List ℕ)} (t : Bool) → eqb c 10 ≡ t → Lined s ls → (ms : List (List ℕ)) × Lined (c ∷ s) ms
lined_step c {s} {ls} true e r = ([] ∷ ls, subst (λ x. Lined (x ∷ s) ([] ∷ ls)) (sym (eqb-true c 10 e)) (more {l = []} (λ k l. absurd (omega arith)) r))
lined_step c false e r = one_more c (eqb-false c 10 e) r

lined_some : (s : List ℕ) → (ls : List (List ℕ)) × Lined s ls
lined_some [] = ([], none)
lined_some (c ∷ s) = lined_step c (eqb c 10) refl (lined_some s).1

pub lined_lines : (s : List ℕ) → Lined s (lines s)
lined_lines s = let r = lined_some s in subst (λ ls. Lined s ls) (lined_one r.1) r.1
