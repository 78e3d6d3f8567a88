-- Places that stand in memory from a first one on, and behind them those before it.
use Rattle.std.specs.Prelude.{ℕ, ◌+◌, ◌-◌, ◌++◌, List, take, drop, nat_lt, if◌then◌else◌}

-- the places in their order, where so many from the first one on stand in front
abbrev pub turned : {A : Type 0} → ℕ → List A → List A
turned behind places = drop behind places ++ take behind places

-- where a number stands among so many places that begin with a first one
abbrev pub place_of : ℕ → ℕ → ℕ → ℕ
place_of count first at = if nat_lt at first then count - first + at else at - first
