-- A name looked up among the names of the tasks.
use Rattle.std.proofs.Common.{◌≡◌, ℕ, zero, suc, ◌+◌, ◌<◌, true, List, [], ◌∷◌, length, get_or, Some, None, Ordering, Less, Equal, Greater, sym, refl, ap, ◌∙◌, arith}
use Rattle.std.specs.Cmp.{IsStrictWeakOrder}
use Rattle.std.specs.Ordering.{is_lt}
use Rattle.std.proofs.lemmas.Cmp.{nat_list_cmp_total}
use Rattle.std.proofs.lemmas.Grind.{common_steps}
use Rattle.std.proofs.lemmas.List.{length-map, get_or-map}
use Rattle.std.proofs.lemmas.List.Sorted.{ranks_by}
use Rattle.std.proofs.lemmas.Map.Lookups.{exact_bytes}
use Rattle.std.proofs.lemmas.Slice.Eq.{bytes_eq-Decides}
use Rattle.ordered.specs.Order.{Parted}
use Rattle.ordered.proofs.Edits.{held_at}
use Rattle.ordered.proofs.Halving.{Narrowed, middle, narrowed_up, narrowed_down}
use Rattle.sheet.specs.Entries.{Entry, task, number_from, number_of}
use Rattle.sheet.specs.NameOrder.{name_order, name_before}
use Rattle.sheet.specs.Spelling.{entry_of, entries_of, Indexes, NamedBefore}
use Rattle.sheet.specs.Tables.{Earlier, Later}
use Rattle.sheet.specs.declared.task.Task.{Task}

-- ---- the first task of a name

pub number_is : (i : ℕ) (ts : List Entry) (n : List ℕ) (u j : ℕ) → i + u ≡ j → u < length ts → (task ts u).name ≡ n → ((v : ℕ) → v < u → (task ts v).name ≡ n → ⊥)
    → number_from i ts n ≡ Some j
number_is i [] n u j s h e f = absurd (omega arith)
number_is i (t ∷ ts) n zero j s h e f = grind (arith, bytes_eq-Decides t.name n)
number_is i (t ∷ ts) n (suc u) j s h e f =
    grind (arith, bytes_eq-Decides t.name n, f 0, number_is (i + 1) ts n u j (omega arith) (omega arith) e (λ v l. f (suc v) (omega arith)))

number_none : (i : ℕ) (ts : List Entry) (n : List ℕ) → ((u : ℕ) → u < length ts → (task ts u).name ≡ n → ⊥) → number_from i ts n ≡ None
number_none i [] n f = refl
number_none i (t ∷ ts) n f =
    grind (arith, bytes_eq-Decides t.name n, f 0, number_none (i + 1) ts n (λ u l. f (suc u) (omega arith)))

-- ---- the tasks in memory

entry_at : (ts : List Task) (u : ℕ) (d : Task) → u < length (entries_of ts) → task (entries_of ts) u ≡ entry_of (get_or ts u d)
entry_at ts u d h = grind (arith, get_or-map, length-map)

-- what was told of the name in place k of the index is told of the name of the task that stands there
pub told_of_task : (ts is : List Task) (ns js : List ℕ) (k : ℕ) (d : Task) (s n : List ℕ) (o v : Ordering) → get_or ns k 0 < length (entries_of ts)
    → js ≡ ns → is ≡ ts → s ≡ (get_or is (get_or js k 0) d).name.items → o ≡ name_order s n → o ≡ v
    → name_order (task (entries_of ts) (get_or ns k 0)).name n ≡ v
told_of_task ts is ns js k d s n o v h a b e f g =
    let m = ap (λ x. name_order x.name n) (entry_at ts (get_or ns k 0) d h) in
    let q : s ≡ (get_or ts (get_or ns k 0) d).name.items = rw (a, b) at e in
    m ∙ ap (λ x. name_order x n) (sym q) ∙ sym f ∙ g

-- ---- the order of names, and the search in the index

order : IsStrictWeakOrder name_before
order = ranks_by nat_list_cmp_total (λ s. s)

-- what an answer of the comparison says
pub greater_before : (s t : List ℕ) → name_order s t ≡ Greater → name_before t s ≡ true
greater_before s t e = grind (arith, nat_list_cmp_total.antisymm t s)

pub before_chains : (s t u : List ℕ) → name_before s t ≡ true → name_before t u ≡ true → name_before s u ≡ true
before_chains s t u e f = grind (arith, common_steps, nat_list_cmp_total.trans s t u)

module _ (ts : List Entry) (ns : List ℕ) (x : Indexes ts ns) where
  -- two tasks of one name are one
  distinct : (u v : ℕ) → u < length ts → v < length ts → (task ts u).name ≡ (task ts v).name → u ≡ v
  distinct u v hu hv e =
      let p = held_at ns u (x.whole u hu) in
      let q = held_at ns v (x.whole v hv) in
      let n = (task ts u).name in
      grind (arith, x.named p.0 q.0, x.named q.0 p.0, order.one_way n n)

  pub number_here : (n : List ℕ) (u : ℕ) → u < length ts → (task ts u).name ≡ n → number_of ts n ≡ Some u
  number_here n u h e = number_is 0 ts n u u (omega arith) h e (λ v b f. grind (arith, distinct v u))

  pub number_gap : (n : List ℕ) (i : ℕ) → Parted (Earlier ts n) (Later ts n) ns i → number_of ts n ≡ None
  number_gap n i g =
      number_none 0 ts n (λ u h e.
      let p = held_at ns u (x.whole u h) in
      grind (arith, g.before p.0, g.from p.0, order.one_way n n))

  -- one turn of the halving: u is the task in the middle
  module _ (n : List ℕ) (low high : ℕ) (w : Narrowed (Earlier ts n) (Later ts n) ns low high) (l : low < high) where
    abbrev u : ℕ
    u = get_or ns (middle low high) 0

    pub middle_task : u < length ts
    middle_task = x.numbers (middle low high) (omega (arith, w.within))

    pub turn_less : name_order (task ts u).name n ≡ Less → Narrowed (Earlier ts n) (Later ts n) ns (middle low high + 1) high
    turn_less o =
        narrowed_up (NamedBefore ts) (Earlier ts n) (Later ts n) ns low high x.named w l
        (λ a b p q. before_chains (task ts a).name (task ts b).name n p q)
        (ap is_lt o)

    pub turn_greater : name_order (task ts u).name n ≡ Greater → Narrowed (Earlier ts n) (Later ts n) ns low (middle low high)
    turn_greater o =
        narrowed_down (NamedBefore ts) (Earlier ts n) (Later ts n) ns low high x.named w l
        (λ a b p q. before_chains n (task ts a).name (task ts b).name q p)
        (greater_before (task ts u).name n o)

    pub turn_equal : name_order (task ts u).name n ≡ Equal → number_of ts n ≡ Some u
    turn_equal o = number_here n u middle_task (exact_bytes (task ts u).name n o)
