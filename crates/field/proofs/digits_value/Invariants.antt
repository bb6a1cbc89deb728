use Rattle.std.proofs.Common.{◌≡◌, ◌^◌, ◌<◌, drop}
use Rattle.field.proofs.Digits.{number_after}
use Rattle.field.proofs.digits_value.Given as goal

abbrev pub invariant-loop-byte : goal.invariant-loop-byte
invariant-loop-byte l = (l.number < 10 ^ l.byte-index) × (number_after l.number (drop l.byte-index l.digits) ≡ number_after 0 l.digits)
