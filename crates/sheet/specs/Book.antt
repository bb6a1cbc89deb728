-- A sheet's book: its tasks, its needs and the places for them, and what each call makes of it.
use Rattle.std.specs.Prelude.{ℕ, cond, List, [], ◌∷◌, ◌++◌, length, is_some, Ok, Err, Result, ◌==◌, nat_le}
use Rattle.std.specs.Option.{ok_or}
use Rattle.refusal.specs.Answers.{then, within, seen, answered, leaves}
use Rattle.refusal.specs.declared.SheetFault.{SheetFault}
use Rattle.refusal.specs.declared.SheetFault.TheVariants.{Field, Known, NoRoom, Unknown, SameTask, Store}
use Rattle.refusal.specs.declared.StoreFault.{StoreFault}
use Rattle.field.specs.Names.{name_at}
use Rattle.field.specs.Numbers.{longest_time, ranged}
use Rattle.needs.specs.Pairs.{Pairs, no_pairs, put, take_out}
use Rattle.sheet.specs.Entries.{Entry, entry, number_of, retimed}

abbrev pub most_tasks : ℕ
most_tasks = 512

pub record Book : Type 0 where
  pub tasks : List Entry
  pub needs : Pairs
  pub places : ℕ

-- the book of a sheet just opened over a store of n places
abbrev pub empty_book : ℕ → Book
empty_book n = record { tasks = []; needs = no_pairs; places = n }

abbrev pub with_tasks : Book → List Entry → Book
with_tasks b ts = record { tasks = ts; needs = b.needs; places = b.places }

abbrev pub with_needs : Book → Pairs → Book
with_needs b h = record { tasks = b.tasks; needs = h; places = b.places }

-- a call upon a sheet, by its arguments
pub data Call : Type 0 where
  enter_task : List ℕ → ℕ → Call
  enter_need : List ℕ → List ℕ → Call
  drop_need : List ℕ → List ℕ → Call
  retime_task : List ℕ → ℕ → Call

-- the name n, in field f
abbrev pub good_name_at : ℕ → List ℕ → Result (List ℕ) SheetFault
good_name_at f n = within Field (name_at f n)

-- the time t, in field 3
abbrev pub good_time : ℕ → Result ℕ SheetFault
good_time t = within Field (ranged longest_time 3 t)

-- a name that is not entered yet, and room for one task more
abbrev pub room_for : List Entry → List ℕ → Result (Unit {0}) SheetFault
room_for ts n = cond (is_some (number_of ts n)) (Err Known) (cond (nat_le most_tasks (length ts)) (Err NoRoom) (Ok tt))

-- the number of the task whose name stands in field f
abbrev pub named_at : ℕ → List Entry → List ℕ → Result ℕ SheetFault
named_at f ts n = ok_or (number_of ts n) (Unknown f)

-- the numbers of two tasks: both are good names, the first is entered, the second is entered
abbrev pub both_named : List Entry → List ℕ → List ℕ → (ℕ → ℕ → Result Book SheetFault) → Result Book SheetFault
both_named ts x y k =
    then (good_name_at 2 x) (λ x. then (good_name_at 3 y) (λ y. then (named_at 2 ts x) (λ i. then (named_at 3 ts y) (λ j. k i j))))

-- the book with the needs that the store made
abbrev pub stored : Book → Result Pairs StoreFault → Result Book SheetFault
stored b r = within Store (seen (with_needs b) r)

-- what a call makes of the book, or the first fault in the order of the checks
abbrev pub outcome : Book → Call → Result Book SheetFault
outcome b (enter_task n t) =
    then (good_name_at 2 n) (λ n. then (good_time t) (λ t. then (room_for b.tasks n) (λ _. Ok (with_tasks b (b.tasks ++ (entry n t ∷ []))))))
outcome b (enter_need x y) = both_named b.tasks x y (λ i j. cond (i == j) (Err SameTask) (stored b (put b.needs b.places i j)))
outcome b (drop_need x y) = both_named b.tasks x y (λ i j. stored b (take_out b.needs i j))
outcome b (retime_task n t) =
    then (good_name_at 2 n) (λ n. then (good_time t) (λ t. then (named_at 2 b.tasks n) (λ u. Ok (with_tasks b (retimed b.tasks u t)))))

-- what the book answers, and how it stands after the call; a refused call leaves it as it was
abbrev pub answer : Book → Call → Result (Unit {0}) SheetFault
answer b c = answered (outcome b c)

abbrev pub after : Book → Call → Book
after b c = leaves b (outcome b c)
