-- Names: 1 to 24 bytes out of A-Z, a-z, 0-9, full stop, underscore and hyphen.
use Rattle.std.specs.Prelude.{ℕ, Bool, cond, ◌&&◌, ◌||◌, List, length, Ok, Err, Result, ◌==◌, nat_le}
use Rattle.std.specs.List.{list_all}
use Rattle.refusal.specs.declared.FieldFault.{FieldFault}
use Rattle.refusal.specs.declared.Flaw.TheVariants.{Name}

abbrev pub longest_name : ℕ
longest_name = 24

abbrev pub name_byte : ℕ → Bool
name_byte c =
    (nat_le 65 c && nat_le c 90) || ((nat_le 97 c && nat_le c 122) || ((nat_le 48 c && nat_le c 57) || (c == 46 || (c == 95 || c == 45))))

abbrev pub name_bytes : List ℕ → Bool
name_bytes s = list_all name_byte s

abbrev pub good_name : List ℕ → Bool
good_name s = nat_le 1 (length s) && (nat_le (length s) longest_name && name_bytes s)

-- the name that a field holds
abbrev pub name_at : ℕ → List ℕ → Result (List ℕ) FieldFault
name_at f s = cond (good_name s) (Ok s) (Err (record { field = f; flaw = Name }))
