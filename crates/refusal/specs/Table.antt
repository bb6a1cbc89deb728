-- The table of refusals: the line, the field and the number by which each fault is told.
use Rattle.std.specs.Prelude.{ℕ}
use Rattle.refusal.specs.declared.Flaw.{Flaw}
use Rattle.refusal.specs.declared.Flaw.TheVariants.{Name, Number, Range, Ranking}
use Rattle.refusal.specs.declared.FieldFault.{FieldFault}
use Rattle.refusal.specs.declared.LineFault.{LineFault}
use Rattle.refusal.specs.declared.LineFault.TheVariants.{Letter, FieldCount, Field}
use Rattle.refusal.specs.declared.StoreFault.{StoreFault}
use Rattle.refusal.specs.declared.StoreFault.TheVariants.{TooLarge, Present, Full, Absent}
use Rattle.refusal.specs.declared.SheetFault.{SheetFault}
use Rattle.refusal.specs.declared.SheetFault.TheVariants as sheets
use Rattle.refusal.specs.declared.TextFault.{TextFault}
use Rattle.refusal.specs.declared.TextFault.TheVariants.{TooLong, Line}
use Rattle.refusal.specs.declared.StepFault.{StepFault}
use Rattle.refusal.specs.declared.StepFault.TheVariants as steps
use Rattle.refusal.specs.declared.PageFault.{PageFault}
use Rattle.refusal.specs.declared.PageFault.TheVariants.{Short}
use Rattle.refusal.specs.declared.Refusal.{Refusal}

abbrev pub refusal_at : ℕ → ℕ → ℕ → Refusal
refusal_at l f n = record { line = l; field = f; number = n }

abbrev pub flaw_number : Flaw → ℕ
flaw_number Name = 11
flaw_number Number = 12
flaw_number Range = 13
flaw_number Ranking = 14

-- a fault in line l
abbrev pub field_refusal : ℕ → FieldFault → Refusal
field_refusal l f = refusal_at l f.field (flaw_number f.flaw)

abbrev pub line_refusal : ℕ → LineFault → Refusal
line_refusal l Letter = refusal_at l 1 21
line_refusal l FieldCount = refusal_at l 0 22
line_refusal l (Field f) = field_refusal l f

abbrev pub store_number : StoreFault → ℕ
store_number TooLarge = 38
store_number Present = 35
store_number Full = 36
store_number Absent = 37

abbrev pub store_refusal : ℕ → StoreFault → Refusal
store_refusal l f = refusal_at l 0 (store_number f)

abbrev pub sheet_refusal : ℕ → SheetFault → Refusal
sheet_refusal l (sheets.Field f) = field_refusal l f
sheet_refusal l sheets.Known = refusal_at l 2 31
sheet_refusal l sheets.NoRoom = refusal_at l 0 32
sheet_refusal l (sheets.Unknown i) = refusal_at l i 33
sheet_refusal l sheets.SameTask = refusal_at l 0 34
sheet_refusal l (sheets.Store f) = store_refusal l f

-- a text that is too long has no line
abbrev pub text_refusal : ℕ → TextFault → Refusal
text_refusal l TooLong = refusal_at 0 0 51
text_refusal l (Line f) = line_refusal l f

-- a line that is carried out is refused as a line or by the sheet
abbrev pub step_refusal : ℕ → StepFault → Refusal
step_refusal l (steps.Line f) = line_refusal l f
step_refusal l (steps.Sheet f) = sheet_refusal l f

abbrev pub page_refusal : PageFault → Refusal
page_refusal Short = refusal_at 0 0 61
