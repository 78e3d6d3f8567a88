-- A reply at the place where it is awaited.
use Rattle.std.proofs.Common.{◌≡◌, ◌<◌, ◌≤◌, ℕ, suc, zero, Bool, true, false, cond, ◌||◌, List, [], ◌∷◌, length, Some, slice_set, arith, refl, ap}
use Rattle.tp_model.specs.Words.{ServerId, Verdict}
use Rattle.tp_round.specs.declared.round.Target.{Target}
use Rattle.tp_round.specs.Judge.{awaits, is_awaited, with_reply}
use Rattle.tp_round.specs.mirrors.Places.{place_awaited}

place_where : (n m : ℕ) (b : Bool) → n ≤ m → cond b zero (suc n) ≤ suc m
place_where n m true le = omega arith
place_where n m false le = omega arith

pub place_within : (targets : List Target) (server : ServerId) → place_awaited targets server ≤ length targets
place_within [] server = omega arith
place_within (target ∷ targets) server =
    place_where (place_awaited targets server) (length targets) (awaits server target) (place_within targets server)

awaited_where : (n m : ℕ) (b c : Bool) → (n < m → c ≡ true) → cond b zero (suc n) < suc m → (b || c) ≡ true
awaited_where n m true c rest lt = refl
awaited_where n m false c rest lt = rest (omega arith)

-- a server with a place is awaited
pub has_place : (targets : List Target) (server : ServerId) → place_awaited targets server < length targets → is_awaited targets server ≡ true
has_place [] server lt = absurd (omega arith)
has_place (target ∷ targets) server lt =
    awaited_where (place_awaited targets server) (length targets) (awaits server target) (is_awaited targets server) (has_place targets server) lt

not_awaited_where : (n m : ℕ) (b c : Bool) → (m ≤ n → c ≡ false) → suc m ≤ cond b zero (suc n) → (b || c) ≡ false
not_awaited_where n m true c rest le = absurd (omega arith)
not_awaited_where n m false c rest le = rest (omega arith)

pub has_no_place : (targets : List Target) (server : ServerId) → length targets ≤ place_awaited targets server → is_awaited targets server ≡ false
has_no_place [] server le = refl
has_no_place (target ∷ targets) server le =
    not_awaited_where (place_awaited targets server) (length targets) (awaits server target) (is_awaited targets server) (has_no_place targets server) le

kept_where : (target new : Target) (targets with : List Target) (n m : ℕ) (b : Bool) → (n < m → with ≡ slice_set targets n new) → cond b zero (suc n) < suc m
    → cond b (new ∷ targets) (target ∷ with) ≡ slice_set (target ∷ targets) (cond b zero (suc n)) new
kept_where target new targets with n m true rest lt = refl
kept_where target new targets with n m false rest lt = ap (λ more. target ∷ more) (rest (omega arith))

-- the reply is kept at the server's place
pub kept_at_place : (targets : List Target) (server : ServerId) (verdicts : List Verdict) → place_awaited targets server < length targets
    → with_reply targets server verdicts ≡ slice_set targets (place_awaited targets server) (record { server = server; reply = Some verdicts })
kept_at_place [] server verdicts lt = absurd (omega arith)
kept_at_place (target ∷ targets) server verdicts lt =
    kept_where target (record { server = server; reply = Some verdicts }) targets (with_reply targets server verdicts) (place_awaited targets server) (length targets)
    (awaits server target) (kept_at_place targets server verdicts) lt

stays_where : (target new : Target) (targets with : List Target) (n m : ℕ) (b : Bool) → (m ≤ n → with ≡ targets) → suc m ≤ cond b zero (suc n)
    → cond b (new ∷ targets) (target ∷ with) ≡ target ∷ targets
stays_where target new targets with n m true rest le = absurd (omega arith)
stays_where target new targets with n m false rest le = ap (λ more. target ∷ more) (rest (omega arith))

-- nothing changes where the server has no place
pub stays_without_place : (targets : List Target) (server : ServerId) (verdicts : List Verdict) → length targets ≤ place_awaited targets server
    → with_reply targets server verdicts ≡ targets
stays_without_place [] server verdicts le = refl
stays_without_place (target ∷ targets) server verdicts le =
    stays_where target (record { server = server; reply = Some verdicts }) targets (with_reply targets server verdicts) (place_awaited targets server) (length targets)
    (awaits server target) (stays_without_place targets server verdicts) le
