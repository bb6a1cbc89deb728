-- Records: what a line asks for, or its fault.
use Rattle.std.specs.Prelude.{◌≡◌, ℕ, ◌+◌, cond, List, [], ◌∷◌, length, take, drop, Ok, Err, Result, ◌==◌}
use Rattle.refusal.specs.Answers.{then, within}
use Rattle.refusal.specs.declared.FieldFault.{FieldFault}
use Rattle.refusal.specs.declared.LineFault.{LineFault}
use Rattle.refusal.specs.declared.LineFault.TheVariants.{Letter, FieldCount, Field}
use Rattle.field.specs.Letters.{letter_at}
use Rattle.field.specs.Names.{name_at}
use Rattle.field.specs.Numbers.{time_at, workers_at}
use Rattle.field.specs.declared.Letter.{Letter as Ranking}
use Rattle.text.specs.Cuts.{fields}
use Rattle.record.specs.declared.Kind.{Kind}
use Rattle.record.specs.declared.Kind.TheVariants.{Task, Need, Drop, Retime, Plan}
use Rattle.record.specs.declared.Part.{Part}
use Rattle.record.specs.declared.Record.{Record}
use Rattle.record.specs.declared.Record.TheVariants as records

-- a name, and how many bytes of its line stand before it
pub record Named : Type 0 where
  pub name : List ℕ
  pub at : ℕ

-- what a record asks for
pub data Asked : Type 0 where
  enters : Named → ℕ → Asked
  needs : Named → Named → Asked
  drops : Named → Named → Asked
  retimes : Named → ℕ → Asked
  plans : ℕ → Ranking → Asked

abbrev pub part : Part → Named
part p = record { name = p.bytes.now; at = p.at }

abbrev pub meant : Record → Asked
meant (records.T n t) = enters (part n) t
meant (records.N a b) = needs (part a) (part b)
meant (records.D a b) = drops (part a) (part b)
meant (records.R n t) = retimes (part n) t
meant (records.P w l) = plans w l

-- T, N, D, R and P
abbrev pub kind_of : ℕ → Result Kind LineFault
kind_of c =
    cond (c == 84) (Ok Task)
    (cond (c == 78) (Ok Need) (cond (c == 68) (Ok Drop) (cond (c == 82) (Ok Retime) (cond (c == 80) (Ok Plan) (Err Letter)))))

-- the first field is one letter
abbrev pub kind_at : List ℕ → Result Kind LineFault
kind_at [] = Err Letter
kind_at (c ∷ []) = kind_of c
kind_at (c ∷ (d ∷ ds)) = Err Letter

abbrev pub two_fields : List (List ℕ) → Result (List ℕ × List ℕ) LineFault
two_fields [] = Err FieldCount
two_fields (a ∷ []) = Err FieldCount
two_fields (a ∷ (b ∷ [])) = Ok (a, b)
two_fields (a ∷ (b ∷ (c ∷ cs))) = Err FieldCount

-- the name in a field that begins at a place of the line
abbrev pub part_at : ℕ → ℕ → List ℕ → Result Named FieldFault
part_at f i s = then (name_at f s) (λ n. Ok (record { name = n; at = i }))

-- the first name of a line stands after the letter and a tab, the second after the first and a tab more
abbrev pub first_name : List ℕ → Result Named FieldFault
first_name a = part_at 2 2 a

abbrev pub second_name : List ℕ → List ℕ → Result Named FieldFault
second_name a b = part_at 3 (3 + length a) b

-- fields are read from left to right
abbrev pub two_names : List ℕ → List ℕ → Result (Named × Named) FieldFault
two_names a b = then (first_name a) (λ n. then (second_name a b) (λ m. Ok (n, m)))

abbrev pub name_and_time : List ℕ → List ℕ → Result (Named × ℕ) FieldFault
name_and_time a b = then (first_name a) (λ n. then (time_at 3 b) (λ t. Ok (n, t)))

abbrev pub asked_by : Kind → List ℕ → List ℕ → Result Asked FieldFault
asked_by Task a b = then (name_and_time a b) (λ p. Ok (enters p.0 p.1))
asked_by Need a b = then (two_names a b) (λ p. Ok (needs p.0 p.1))
asked_by Drop a b = then (two_names a b) (λ p. Ok (drops p.0 p.1))
asked_by Retime a b = then (name_and_time a b) (λ p. Ok (retimes p.0 p.1))
asked_by Plan a b = then (workers_at 2 a) (λ w. then (letter_at 3 b) (λ l. Ok (plans w l)))

-- the letter comes first, then the number of fields, then the fields
abbrev pub fields_by : Kind → List (List ℕ) → Result Asked LineFault
fields_by k fs = then (two_fields fs) (λ f. within Field (asked_by k f.0 f.1))

abbrev pub record_by : List (List ℕ) → Result Asked LineFault
record_by [] = Err Letter
record_by (l ∷ fs) = then (kind_at l) (λ k. fields_by k fs)

abbrev pub record_of : List ℕ → Result Asked LineFault
record_of s = record_by (fields s)

-- the name is just those bytes of the line
abbrev pub PartOf : List ℕ → Named → Type 0
PartOf s n = take (length n.name) (drop n.at s) ≡ n.name

abbrev pub Parts : List ℕ → Asked → Type 0
Parts s (enters n t) = PartOf s n
Parts s (needs a b) = PartOf s a × PartOf s b
Parts s (drops a b) = PartOf s a × PartOf s b
Parts s (retimes n t) = PartOf s n
Parts s (plans w l) = Unit {0}
