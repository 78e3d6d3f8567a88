-- Laws of a replica's code: what it forces is short, and what it knows after a boot is what its log tells.
use Rattle.std.specs.List.{range_with_len}
use Rattle.std.proofs.Common.{◌≡◌, ℕ, ◌+◌, ◌<◌, ◌≤◌, List, [], ◌∷◌, ◌++◌, length, map, replicate, take, get_or, slice_set, Bool, true, false, Some, None, IfSome, zero, suc, refl, sym, ap, subst, arith, ◌∙◌, inl, inr, if◌then◌else◌}
use Rattle.std.proofs.lemmas.Bool.{cases_eq, cases_lt, ltb-true, ltb-false}
use Rattle.std.proofs.lemmas.List.{take_more}
use Rattle.std.proofs.lemmas.List.FromFn.{length-map-range_with_len}
use Rattle.tp_actor_log.specs.Records.{FitsLog}
use Rattle.tp_quorum.proofs.Lists.{append_length, made_as, made_below}
use Rattle.tp_quorum.proofs.Told.{known_told, learnt_told, told_elsewhere, told_grown, told_here, told_some}
use Rattle.tp_quorum.specs.Replica.{first_version, forces, is_newer, known_at, told_by, told_in, told_of_all, told_version, with_record}
use Rattle.tp_quorum.specs.Words.{QBody, Record, Told, Version}
use Rattle.tp_quorum.specs.Words.body
use Rattle.tp_quorum.specs.Words.log
use Rattle.tp_record.specs.Spelling as spell
use Rattle.tp_record.specs.Spelling.{content, short}
use Rattle.byteorder.specs.Numbers.{length-bytes_high_first}
use Rattle.tp_recover.specs.Log.{without_boots}

-- ---- what is forced is short

short_length : (n : ℕ) → length (short n) ≡ 4
unfolding short
short_length n = length-bytes_high_first 4 n

pub told_fits : (told : Told) → FitsLog (log.Told told)
told_fits told =
    omega (arith, append_length (short (length (content (log.Told told)))) (content (log.Told told)), append_length (short told.admin.0) (spell.version told.version), short_length (length (content (log.Told told))), short_length told.admin.0, short_length told.version.0)

pub forces_fit : (known : List Version) (said : QBody) → IfSome (forces known said) FitsLog
forces_fit known (body.Fetch admin) = tt
forces_fit known (body.Has version) = tt
forces_fit known (body.Store admin version) = by (is_newer known admin version)
  where
    by : (b : Bool) → IfSome (if b then Some (log.Told (record { admin = admin; version = version })) else None) FitsLog
    by true = told_fits (record { admin = admin; version = version })
    by false = tt
forces_fit known body.Stored = tt

-- ---- what is known by a log

first_told : (low count : ℕ) → replicate count first_version ≡ map (told_version []) (range_with_len low count)
first_told low zero = refl
first_told low (suc count) = ap (λ (versions : List Version). first_version ∷ versions) (first_told (low + 1) count)

-- an empty log tells the first versions
pub told_first : (admins : ℕ) → replicate admins first_version ≡ told_of_all admins []
told_first admins = first_told 0 admins

same_told : (one other : List Record) → ((admin : ℕ) → told_in admin one ≡ told_in admin other) → (low count : ℕ) → map (told_version one) (range_with_len low count) ≡ map (told_version other) (range_with_len low count)
same_told one other same low count = made_as (told_version one) (told_version other) low count (λ j from. λ i. record { 0 = sym (same j) i })

-- a record that tells no more changes nothing
pub nothing_told : (admins : ℕ) (records : List Record) (next : Record) → ((admin : ℕ) → told_by admin next ≤ told_in admin records) → told_of_all admins records ≡ told_of_all admins (records ++ next ∷ [])
nothing_told admins records next less = same_told records (records ++ next ∷ []) (λ admin. omega (arith, told_grown admin records next, less admin)) 0 admins

-- of an administrator who is not there nothing is known, and nothing changes
outside : (xs : List Version) (k : ℕ) (v : Version) → length xs ≤ k → slice_set xs k v ≡ xs
outside [] k v past = refl
outside (x ∷ xs) zero v past = absurd (omega (arith, past))
outside (x ∷ xs) (suc k) v past = ap (λ (versions : List Version). x ∷ versions) (outside xs k v (omega (arith, past)))

told_less : (told : Told) (records : List Record) → told.version.0 ≤ told_in told.admin.0 records → (admin : ℕ) → told_by admin (log.Told told) ≤ told_in admin records
told_less told records less admin =
    elim (cases_eq admin told.admin.0) [
      | inl same ↦ subst (λ (a : ℕ). told_by a (log.Told told) ≤ told_in a records) (sym same) (omega (arith, told_here told, less))
      | inr other ↦ omega (arith, told_elsewhere admin told other, told_some admin records)
    ]

-- nothing is told of the administrators who are there
past_told : (admins : ℕ) (records : List Record) (told : Told) → admins ≤ told.admin.0 → told_of_all admins records ≡ told_of_all admins (records ++ log.Told told ∷ [])
past_told admins records told past =
    made_below (told_version records) (told_version (records ++ log.Told told ∷ [])) 0 admins
    (λ j from below.
    let number : told_in j (records ++ log.Told told ∷ []) ≡ told_in j records = omega (arith, told_some j records, told_grown j records (log.Told told), told_elsewhere j told (λ e. omega (arith, e, past, below))) in
    λ i. record { 0 = number i })

told_within : (admins : ℕ) (records : List Record) (told : Told) → told.admin.0 < admins → (b : Bool) → is_newer (told_of_all admins records) told.admin told.version ≡ b
    → (if b then slice_set (told_of_all admins records) told.admin.0 told.version else told_of_all admins records) ≡ told_of_all admins (records ++ log.Told told ∷ [])
told_within admins records told within true e =
    let known_is : (known_at (told_of_all admins records) told.admin).0 ≡ told_in told.admin.0 records = ap (λ (v : Version). v.0) (known_told admins records told.admin within) in
    learnt_told admins records told (omega (arith, known_is, ltb-true (known_at (told_of_all admins records) told.admin).0 told.version.0 e))
told_within admins records told within false e =
    let known_is : (known_at (told_of_all admins records) told.admin).0 ≡ told_in told.admin.0 records = ap (λ (v : Version). v.0) (known_told admins records told.admin within) in
    nothing_told admins records (log.Told told) (told_less told records (omega (arith, known_is, ltb-false (known_at (told_of_all admins records) told.admin).0 told.version.0 e)))

told_past : (admins : ℕ) (records : List Record) (told : Told) → admins ≤ told.admin.0 → (b : Bool)
    → (if b then slice_set (told_of_all admins records) told.admin.0 told.version else told_of_all admins records) ≡ told_of_all admins (records ++ log.Told told ∷ [])
told_past admins records told past true =
    outside (told_of_all admins records) told.admin.0 told.version (omega (arith, past, length-map-range_with_len (told_version records) 0 admins)) ∙ past_told admins records told past
told_past admins records told past false = past_told admins records told past

-- what is known by so many records and takes in one more is what they tell together
record_more : (admins : ℕ) (records : List Record) (next : Record) → with_record (told_of_all admins records) next ≡ told_of_all admins (records ++ next ∷ [])
record_more admins records (log.Told told) =
    elim (cases_lt told.admin.0 admins) [
      | inl within ↦ told_within admins records told within (is_newer (told_of_all admins records) told.admin told.version) refl
      | inr past ↦ told_past admins records told past (is_newer (told_of_all admins records) told.admin told.version)
    ]
record_more admins records log.Boot = nothing_told admins records log.Boot (λ admin. told_some admin records)
record_more admins records (log.Prepared p) = nothing_told admins records (log.Prepared p) (λ admin. told_some admin records)
record_more admins records (log.Settled p) = nothing_told admins records (log.Settled p) (λ admin. told_some admin records)
record_more admins records (log.Decided p) = nothing_told admins records (log.Decided p) (λ admin. told_some admin records)

-- one record on
pub told_on : (admins : ℕ) (records : List Record) (at : ℕ) (next : Record) → at < length records → next ≡ get_or records at next → with_record (told_of_all admins (take at records)) next ≡ told_of_all admins (take (at + 1) records)
told_on admins records at next within here =
    record_more admins (take at records) next
    ∙ ap (told_of_all admins) (ap (λ (r : Record). take at records ++ r ∷ []) here ∙ sym (take_more records at next within))

-- boots tell nothing
boots_tell : (admin : ℕ) (records : List Record) → told_in admin (without_boots records) ≡ told_in admin records
boots_tell admin [] = refl
boots_tell admin (log.Boot ∷ records) = omega (arith, boots_tell admin records, told_some admin records)
boots_tell admin (log.Told t ∷ records) = omega (arith, boots_tell admin records)
boots_tell admin (log.Prepared t ∷ records) = omega (arith, boots_tell admin records)
boots_tell admin (log.Settled t ∷ records) = omega (arith, boots_tell admin records)
boots_tell admin (log.Decided t ∷ records) = omega (arith, boots_tell admin records)

pub told_without_boots : (admins : ℕ) (records : List Record) → told_of_all admins (without_boots records) ≡ told_of_all admins records
told_without_boots admins records = same_told (without_boots records) records (λ admin. boots_tell admin records) 0 admins
