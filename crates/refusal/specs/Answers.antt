-- Answers that are a value or a fault, one after another.
use Rattle.std.specs.Prelude.{Ok, Err, Result}

-- going on after a value; the first fault is the answer
abbrev pub then : {T U E : Type 0} → Result T E → (T → Result U E) → Result U E
then (Ok x) k = k x
then (Err e) k = Err e

-- the fault wrapped into the next one out
abbrev pub within : {T E F : Type 0} → (E → F) → Result T E → Result T F
within f (Ok x) = Ok x
within f (Err e) = Err (f e)

-- the value as f reads it
abbrev pub seen : {T U E : Type 0} → (T → U) → Result T E → Result U E
seen f (Ok x) = Ok (f x)
seen f (Err e) = Err e

-- whether a call is granted, or its fault
abbrev pub answered : {T E : Type 0} → Result T E → Result (Unit {0}) E
answered (Ok x) = Ok tt
answered (Err e) = Err e

-- what stands after a call upon x: what it made, or x where it is refused
abbrev pub leaves : {T E : Type 0} → T → Result T E → T
leaves x (Ok y) = y
leaves x (Err e) = x
