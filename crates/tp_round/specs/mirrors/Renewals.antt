-- The targets of a round, of which one is renewed.
use Rattle.std.specs.Prelude.{ℕ, List, Option, Some, None, slice_get, slice_set, if◌then◌else◌}
use Rattle.tp_model.specs.Words.{AdminId, Version}
use Rattle.tp_round.specs.declared.round.Target.{Target}
use Rattle.tp_round.specs.Judge.{is_outdated, new_target}

abbrev pub with_renewed_at : List (AdminId × Version) → List Target → ℕ → Option Target
    → List Target
with_renewed_at aim targets at None = targets
with_renewed_at aim targets at (Some target) =
    if is_outdated aim target then slice_set targets at (new_target target.server) else targets

-- the target at a place is renewed, where there is such a place
abbrev pub with_renewed : List (AdminId × Version) → List Target → ℕ → List Target
with_renewed aim targets at = with_renewed_at aim targets at (slice_get targets at)
