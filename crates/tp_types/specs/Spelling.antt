-- How names and numbers are spelled.
use Rattle.std.specs.Prelude.{ℕ, ◌+◌, ◌-◌, ◌*◌, ◌&&◌, ◌||◌, ◌==◌, List, [], ◌∷◌, length, Bool, false, nat_lt, nat_le, IsTrue, Option, Some, None, if◌then◌else◌}
use Rattle.std.specs.List.{list_all}

-- ---- names

-- a lower-case letter
abbrev pub is_letter : ℕ → Bool
is_letter byte = nat_le 97 byte && nat_le byte 122

-- a digit
abbrev pub is_digit : ℕ → Bool
is_digit byte = nat_le 48 byte && nat_le byte 57

-- a lower-case letter, a digit or `_`
abbrev pub is_name_byte : ℕ → Bool
is_name_byte byte = is_letter byte || is_digit byte || (byte == 95)

-- a name begins with a letter, goes on with these bytes, and has at most 32 bytes
abbrev pub is_name : List ℕ → Bool
is_name [] = false
is_name (first ∷ others) = is_letter first && nat_lt (length others) 32 && list_all is_name_byte others

abbrev pub IsName : List ℕ → Type 0
IsName bytes = IsTrue (is_name bytes)

-- ---- numbers

-- one to fifteen digits, of which the first is 0 only where it is the only one
abbrev pub is_number : List ℕ → Bool
is_number [] = false
is_number (digit ∷ []) = is_digit digit
is_number (digit ∷ other ∷ digits) =
    is_digit digit && nat_lt 48 digit && list_all is_digit (other ∷ digits)
    && nat_lt (length digits) 14

-- the number that digits spell, after one that stands before them
abbrev pub spelled_from : ℕ → List ℕ → ℕ
spelled_from number [] = number
spelled_from number (digit ∷ digits) = spelled_from (number * 10 + (digit - 48)) digits

-- the number that bytes spell; nothing for another spelling
abbrev pub number_of : List ℕ → Option ℕ
number_of bytes = if is_number bytes then Some (spelled_from 0 bytes) else None
