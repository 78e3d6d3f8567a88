-- One level for each administrator.
use Rattle.std.proofs.Common.{◌≡◌, ◌<◌, ℕ, suc, zero, false, replicate, slice_get, arith, refl}
use Rattle.std.specs.Option.{option_map_or}
use Rattle.tp_model.specs.Words.{AdminId, Level}
use Rattle.tp_model.specs.Words.level
use Rattle.tp_model.specs.Levels.{is_global, is_global_at}
use Rattle.tp_model.specs.Limits.{admins_limit}

view_at : (count place : ℕ) → option_map_or is_global (slice_get (replicate count level.View) place) false ≡ false
view_at zero place = refl
view_at (suc count) zero = refl
view_at (suc count) (suc place) = view_at count place

level_at : (one : Level) (count place : ℕ) → place < count → option_map_or is_global (slice_get (replicate count one) place) false ≡ is_global one
level_at one zero place e = absurd (omega (arith, e))
level_at one (suc count) zero e = refl
level_at one (suc count) (suc place) e = level_at one count place (omega (arith, e))

-- under view consistency no administrator is under global consistency
pub view_for_each : (admin : AdminId) → is_global_at (replicate admins_limit level.View) admin ≡ false
view_for_each admin = view_at admins_limit admin.0

-- each administrator has the level that all have
pub level_for_each : (one : Level) (admin : AdminId) → admin.0 < admins_limit → is_global_at (replicate admins_limit one) admin ≡ is_global one
level_for_each one admin e = level_at one admins_limit admin.0 e
