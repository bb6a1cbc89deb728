-- Lines that are carried out upon a sheet.
use Rattle.std.specs.Prelude.{ℕ, List, Some, None, Ok, Err, Option, Result}
use Rattle.std.specs.Option.{option_to_list}
use Rattle.refusal.specs.Answers.{then, within}
use Rattle.refusal.specs.declared.LineFault.{LineFault}
use Rattle.refusal.specs.declared.SheetFault.{SheetFault}
use Rattle.refusal.specs.declared.StepFault.{StepFault}
use Rattle.refusal.specs.declared.StepFault.TheVariants.{Line, Sheet}
use Rattle.record.specs.Records.{Asked, record_of, enters, needs, drops, retimes, plans}
use Rattle.sheet.specs.Book.{Book, Call, enter_task, enter_need, drop_need, retime_task, answer}
use Rattle.sheet.specs.Lives.{lived}

-- the call that a record asks for; a planning record is only read
abbrev pub call_for : Asked → Option Call
call_for (enters n t) = Some (enter_task n.name t)
call_for (needs a b) = Some (enter_need a.name b.name)
call_for (drops a b) = Some (drop_need a.name b.name)
call_for (retimes n t) = Some (retime_task n.name t)
call_for (plans w l) = None

-- the call that a line asks for; one that is no good record asks for none
abbrev pub call_read : Result Asked LineFault → Option Call
call_read (Ok a) = call_for a
call_read (Err f) = None

abbrev pub call_of : List ℕ → Option Call
call_of s = call_read (record_of s)

-- what the book answers to a call, if there is one
abbrev pub answer_if : Book → Option Call → Result (Unit {0}) SheetFault
answer_if b None = Ok tt
answer_if b (Some c) = answer b c

-- the answer to the line s, upon the book b
abbrev pub answer_to : Book → List ℕ → Result (Unit {0}) StepFault
answer_to b s = then (within Line (record_of s)) (λ a. within Sheet (answer_if b (call_for a)))

-- the book b after the line s: its life goes on with the call that the line asks for
abbrev pub after_line : Book → List ℕ → Book
after_line b s = lived b (option_to_list (call_of s))
