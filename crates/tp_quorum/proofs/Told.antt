-- Laws of what logs tell, as they grow.
use Rattle.std.proofs.Common.{◌≡◌, ℕ, ◌+◌, ◌<◌, ◌≤◌, ◌==◌, max, List, [], ◌∷◌, ◌++◌, slice_get, slice_set, Bool, true, false, Option, Some, None, refl, sym, ap, subst, arith, ◌∙◌, inl, inr, if◌then◌else◌, unwrap_or}
use Rattle.std.proofs.lemmas.Bool.{cases_eq, eqb-true, eq-eqb, ne_eqb}
use Rattle.tp_quorum.proofs.Lists.{made_at, made_set, set_got, set_other}
use Rattle.tp_actor_log.specs.Records.{log_with}
use Rattle.tp_quorum.specs.Replica.{ReplicaView, first_version, known_at, told_by, told_in, told_of_all, told_version}
use Rattle.tp_quorum.specs.Words.{AdminId, Record, Told, Version}
use Rattle.tp_quorum.specs.Words.log

-- ---- one log

pub told_grown : (admin : ℕ) (records : List Record) (forced : Record) → told_in admin (records ++ forced ∷ []) ≡ max (told_in admin records) (told_by admin forced)
told_grown admin [] forced = omega arith
told_grown admin (earliest ∷ records) forced = omega (arith, told_grown admin records forced)

-- each log tells at least the first version
pub told_some : (admin : ℕ) (records : List Record) → 1 ≤ told_in admin records
told_some admin [] = omega arith
told_some admin (earliest ∷ records) = omega (arith, told_some admin records)

pub told_with : (admin : ℕ) (records : List Record) (forced : Option Record) → told_in admin records ≤ told_in admin (log_with records forced)
told_with admin records None = omega arith
told_with admin records (Some forced) = omega (arith, told_grown admin records forced)

-- what a record tells is at most what P allows
pub told_of_one : (admin : ℕ) (told : Told) (most : ℕ) → 1 ≤ most → (told.admin.0 ≡ admin → told.version.0 ≤ most) → told_by admin (log.Told told) ≤ most
told_of_one admin told most some own = by (told.admin.0 == admin) refl
  where
    by : (b : Bool) → (told.admin.0 == admin) ≡ b → (if b then told.version.0 else 1) ≤ most
    by true e = own (eqb-true told.admin.0 admin e)
    by false e = some

pub told_here : (told : Told) → told_by told.admin.0 (log.Told told) ≡ told.version.0
told_here told = ap (λ (b : Bool). if b then told.version.0 else 1) (eq-eqb told.admin.0 told.admin.0 refl)

pub told_elsewhere : (admin : ℕ) (told : Told) → (admin ≡ told.admin.0 → ⊥) → told_by admin (log.Told told) ≡ 1
told_elsewhere admin told apart = ap (λ (b : Bool). if b then told.version.0 else 1) (ne_eqb told.admin.0 admin (λ e. apart (sym e)))

-- ---- what is known

pub known_told : (admins : ℕ) (records : List Record) (admin : AdminId) → admin.0 < admins → known_at (told_of_all admins records) admin ≡ told_version records admin.0
known_told admins records admin within =
    let found = made_at (told_version records) 0 admins admin.0 within in
    let same : 0 + admin.0 ≡ admin.0 = omega arith in
    ap (λ (f : Option Version). unwrap_or f first_version) found ∙ ap (told_version records) same

-- who knows what a log tells and learns a newer version knows what the log with its record tells
pub learnt_told : (admins : ℕ) (records : List Record) (told : Told) → told_in told.admin.0 records ≤ told.version.0
    → slice_set (told_of_all admins records) told.admin.0 told.version ≡ told_of_all admins (records ++ log.Told told ∷ [])
learnt_told admins records told newer =
    made_set (told_version records) (told_version (records ++ log.Told told ∷ [])) 0 admins told.admin.0 told.version here others
  where
    at_admin : told_in told.admin.0 (records ++ log.Told told ∷ []) ≡ told.version.0
    at_admin = omega (arith, newer, told_grown told.admin.0 records (log.Told told), told_here told)

    here : told_version (records ++ log.Told told ∷ []) (0 + told.admin.0) ≡ told.version
    here =
        let same : 0 + told.admin.0 ≡ told.admin.0 = omega arith in
        let number : told_in (0 + told.admin.0) (records ++ log.Told told ∷ []) ≡ told.version.0 = rw same at_admin in
        λ i. record { 0 = number i }

    others : (j : ℕ) → (j ≡ 0 + told.admin.0 → ⊥) → told_version (records ++ log.Told told ∷ []) j ≡ told_version records j
    others j apart =
        let same : 0 + told.admin.0 ≡ told.admin.0 = omega arith in
        let number : told_in j (records ++ log.Told told ∷ []) ≡ told_in j records =
        omega (arith, told_some j records, told_grown j records (log.Told told), told_elsewhere j told (λ e. apart (e ∙ sym same))) in
        λ i. record { 0 = number i }

-- ---- all logs

-- the greatest version that a replica's log tells, whether it is up or down
abbrev pub told_of : ℕ → Option ReplicaView → ℕ
told_of admin None = 1
told_of admin (Some replica) = told_in admin replica.log

abbrev pub told_at : List ReplicaView → ℕ → ℕ → ℕ
told_at replicas r admin = told_of admin (slice_get replicas r)

told_of_some : (admin : ℕ) (found : Option ReplicaView) → 1 ≤ told_of admin found
told_of_some admin None = omega arith
told_of_some admin (Some replica) = told_some admin replica.log

pub told_at_some : (replicas : List ReplicaView) (r admin : ℕ) → 1 ≤ told_at replicas r admin
told_at_some replicas r admin = told_of_some admin (slice_get replicas r)

-- where the log of one replica tells no less than before, so do all
pub told_rises : (replicas : List ReplicaView) (at : ℕ) (old new : ReplicaView) → slice_get replicas at ≡ Some old → ((admin : ℕ) → told_in admin old.log ≤ told_in admin new.log)
    → (r admin : ℕ) → told_at replicas r admin ≤ told_at (slice_set replicas at new) r admin
told_rises replicas at old new found rises r admin =
    elim (cases_eq r at) [
      | inl same ↦
          let before : told_at replicas at admin ≡ told_in admin old.log = ap (told_of admin) found in
          let after : told_at (slice_set replicas at new) at admin ≡ told_in admin new.log = ap (told_of admin) (set_got replicas at old new found) in
          let here : told_at replicas at admin ≤ told_at (slice_set replicas at new) at admin = omega (arith, before, after, rises admin) in
          subst (λ (k : ℕ). told_at replicas k admin ≤ told_at (slice_set replicas at new) k admin) (sym same) here
      | inr other ↦
          let same : told_at (slice_set replicas at new) r admin ≡ told_at replicas r admin = ap (told_of admin) (set_other replicas at r new other) in
          omega (arith, same)
    ]
