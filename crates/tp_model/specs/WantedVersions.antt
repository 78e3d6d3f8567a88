-- Which version a request wants of an administrator.
use Rattle.std.specs.Prelude.{ℕ, List, Bool, Option, find, option_map}
use Rattle.tp_model.specs.Words.{AdminId, Version}
use Rattle.tp_model.specs.Ids.{same_admin}

abbrev pub is_for : AdminId → AdminId × Version → Bool
is_for admin one = same_admin one.0 admin

abbrev pub want_number : AdminId × Version → ℕ
want_number one = one.1.0

-- the version that is wanted of an administrator, if any is
abbrev pub wanted_of : List (AdminId × Version) → AdminId → Option ℕ
wanted_of want admin = option_map want_number (find (is_for admin) want)
