-- Where the bytes of a writer stand.
use Rattle.std.specs.Prelude.{ℕ, ◌==◌, List, length, cond}

-- near, and far once there is anything in it
abbrev pub room_of : List ℕ → List ℕ → List ℕ
room_of near far = cond (length far == 0) near far
