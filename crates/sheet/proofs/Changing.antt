-- The tasks and their index with one task more, and with one retimed.
use Rattle.std.proofs.Common.{◌≡◌, ℕ, ◌<◌, List, [], ◌∷◌, ◌++◌, length, get_or, set, arith}
use Rattle.std.specs.List.{insert}
use Rattle.std.proofs.lemmas.Grind.{common_steps}
use Rattle.std.proofs.lemmas.List.{length-set, get_or-set_same, get_or-set_other, map-set, length-map, get_or-map}
use Rattle.std.proofs.lemmas.List.Edits.{length-insert}
use Rattle.arrayvec.specs.ArrayVec.{ArrayVec, with_items}
use Rattle.arrayvec.proofs.ArrayVecLemmas.{items-with_items}
use Rattle.ordered.specs.Order.{Parted}
use Rattle.ordered.proofs.Edits.{each_inserted, ordered_inserted, holds_inserted_here, holds_inserted_other}
use Rattle.sheet.specs.Entries.{Entry, retimed}
use Rattle.sheet.specs.Spelling.{entries_of, Indexes, NamedBefore}
use Rattle.sheet.specs.Tables.{Earlier, Later}
use Rattle.sheet.specs.declared.task.Task.{Task}

-- ---- one task more

module _ (ts : List Entry) (x : Entry) where
  abbrev more : List Entry
  more = ts ++ (x ∷ [])

  pub indexes_more : (ns : List ℕ) (i : ℕ) → Indexes ts ns → Parted (Earlier ts x.name) (Later ts x.name) ns i → Indexes more (insert ns i (length ts))
  indexes_more ns i g p = record {
    long = grind (arith, common_steps, length-insert, g.long, p.within);
    numbers =
        each_inserted ns i (length ts) p.within (λ u. u < length more) (λ j h. grind (arith, common_steps, g.numbers j)) (grind (arith, common_steps));
    named =
        ordered_inserted ns i (length ts) p.within (NamedBefore more)
        (λ a b h. grind (arith, common_steps, g.numbers a, g.numbers b, g.named a b h))
        (record {
          within = p.within;
          before = λ j h. grind (arith, common_steps, g.numbers j, p.within, p.before j h);
          from = λ j h m. grind (arith, common_steps, g.numbers j, p.from j h m);
        });
    whole = λ u h. grind (arith, common_steps, holds_inserted_here ns i (length ts) p.within, holds_inserted_other ns i (length ts) u, g.whole u);
  }

-- ---- one task retimed

-- the task u written through the slice
pub entries-retimed : (v : ArrayVec Task) (ts : List Task) (u t : ℕ) (d : Task) → ts ≡ v.items → u < length (entries_of v.items)
    → entries_of (with_items v (set ts u (record { name = (get_or ts u d).name; time = t }))).items ≡ retimed (entries_of v.items) u t
entries-retimed v ts u t d is h = grind (arith, common_steps, items-with_items, map-set, get_or-map, length-map)

module _ (ts : List Entry) (u t : ℕ) where
  pub indexes_retimed : (ns : List ℕ) → Indexes ts ns → Indexes (retimed ts u t) ns
  indexes_retimed ns g = record {
    long = grind (arith, common_steps, g.long);
    numbers = λ i h. grind (arith, common_steps, g.numbers i h);
    named = λ a b p. grind (arith, common_steps, g.named a b p);
    whole = λ v l. g.whole v (grind (arith, common_steps));
  }

-- what a task retimed does to the table
pub ruleset retiming = (entries-retimed, indexes_retimed, length-set, get_or-set_same, get_or-set_other)
