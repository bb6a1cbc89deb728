-- Lines that are only read.
use Rattle.std.specs.Prelude.{ℕ, List, Ok, Result}
use Rattle.refusal.specs.Answers.{then, within}
use Rattle.refusal.specs.declared.TextFault.{TextFault}
use Rattle.refusal.specs.declared.TextFault.TheVariants.{Line}
use Rattle.record.specs.Records.{record_of}

-- the answer to a line: a good record is granted
abbrev pub answer_to : List ℕ → Result (Unit {0}) TextFault
answer_to s = within Line (then (record_of s) (λ _. Ok tt))
