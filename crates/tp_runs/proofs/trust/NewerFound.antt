-- Trust, a version that a server found to be newer than the one that the transaction's proofs so far pin: two of its queries are on items of the
-- administrator, and the version was published.
use Rattle.std.proofs.Common.{Bool, List, None, Option, Some, [], ap, arith, cond, false, find, length, nat_le, option_and_then, option_map, refl, slice_get, subst, suc, sym, true, zero, ℕ, if◌then◌else◌, ◌+◌, ◌-◌, ◌<◌, ◌∙◌, ◌∷◌, ◌≡◌, ◌≤◌}
use Rattle.std.proofs.lemmas.Bool.{le-leb, or_left, or_right}
use Rattle.std.proofs.lemmas.List.Sums.{sum_by-cons}
use Rattle.std.proofs.lemmas.Option.{same_Some}
use Rattle.std.specs.List.{count_by, list_any, range_with_len}
use Rattle.std.specs.Option.{option_map_or}
use Rattle.tp_types.proofs.EachLemmas.{each_as, each_get}
use Rattle.tp_types.proofs.ListLemmas.{number_itself}
use Rattle.tp_types.specs.Each.{Each}
use Rattle.tp_model.specs.Authorisation.{is_own_query, is_query_at}
use Rattle.tp_model.specs.Causes.{is_item_of, is_newer_shown, is_query_of}
use Rattle.tp_model.specs.Ids.{same_admin}
use Rattle.tp_model.specs.Levels.{is_global, level_of}
use Rattle.tp_model.specs.Queries.{item_of, query_at}
use Rattle.tp_model.specs.Words.{AdminId, Fact, Item, Newer, Query, Scenario, Scheme, ServerId, Staple, Transaction, Verdict, Version}
use Rattle.tp_model.specs.Words.scheme
use Rattle.tp_coord.specs.State.{Coordinator}
use Rattle.tp_coord.specs.declared.coordinator.Phase.{Phase}
use Rattle.tp_coord.specs.declared.coordinator.Phase.TheVariants as phase
use Rattle.tp_round.proofs.AdminLemmas.{same_ids}
use Rattle.tp_scheme.specs.Gathered.{is_of, pin_of, version_of}
use Rattle.tp_runs.proofs.basics.Levels.{item_of_admin}
use Rattle.tp_runs.proofs.basics.Turns.{NewerNow, admin_of_query}
use Rattle.tp_runs.proofs.basics.Verdicts.{numbers_of}
use Rattle.tp_runs.proofs.trust.Fit.{NewerFits, Right}
use Rattle.tp_runs.proofs.trust.Instances.{IsSoFarIn, gathered_in}
use Rattle.tp_runs.proofs.trust.ProofReadings.{newer_shown}

-- ---- two queries of one administrator

abbrev passes_at : Scenario → AdminId → Option Query → Type 0
passes_at sc admin found = option_map_or (is_query_of sc admin) found false ≡ true

one_counted : (sc : Scenario) (admin : AdminId) (queries : List Query) (n : ℕ) → passes_at sc admin (slice_get queries n) → 1 ≤ count_by (is_query_of sc admin) queries
one_counted sc admin [] n e = absurd (cc)
one_counted sc admin (query ∷ queries) zero e =
    let step : count_by (is_query_of sc admin) (query ∷ queries) ≡ cond (is_query_of sc admin query) 1 0 + count_by (is_query_of sc admin) queries = sum_by-cons (λ q. cond (is_query_of sc admin q) 1 0) query queries in
    let here : cond (is_query_of sc admin query) (suc zero) zero ≡ suc zero = ap (λ (b : Bool). cond b (suc zero) zero) e in
    omega (arith, step, here)
one_counted sc admin (query ∷ queries) (suc n) e =
    let step : count_by (is_query_of sc admin) (query ∷ queries) ≡ cond (is_query_of sc admin query) 1 0 + count_by (is_query_of sc admin) queries = sum_by-cons (λ q. cond (is_query_of sc admin q) 1 0) query queries in
    let later = one_counted sc admin queries n e in
    omega (arith, step, later)

two_counted : (sc : Scenario) (admin : AdminId) (queries : List Query) (low high : ℕ) → low < high → passes_at sc admin (slice_get queries low) → passes_at sc admin (slice_get queries high) → 2 ≤ count_by (is_query_of sc admin) queries
two_counted sc admin [] low high less one other = absurd (cc)
two_counted sc admin (query ∷ queries) zero zero less one other = absurd (omega (arith, less))
two_counted sc admin (query ∷ queries) (suc low) zero less one other = absurd (omega (arith, less))
two_counted sc admin (query ∷ queries) zero (suc high) less one other =
    let step : count_by (is_query_of sc admin) (query ∷ queries) ≡ cond (is_query_of sc admin query) 1 0 + count_by (is_query_of sc admin) queries = sum_by-cons (λ q. cond (is_query_of sc admin q) 1 0) query queries in
    let here : cond (is_query_of sc admin query) (suc zero) zero ≡ suc zero = ap (λ (b : Bool). cond b (suc zero) zero) one in
    let later = one_counted sc admin queries high other in
    omega (arith, step, here, later)
two_counted sc admin (query ∷ queries) (suc low) (suc high) less one other =
    let step : count_by (is_query_of sc admin) (query ∷ queries) ≡ cond (is_query_of sc admin query) 1 0 + count_by (is_query_of sc admin) queries = sum_by-cons (λ q. cond (is_query_of sc admin q) 1 0) query queries in
    let later = two_counted sc admin queries low high (omega (arith, less)) one other in
    omega (arith, step, later)

any_passes : (sc : Scenario) (admin : AdminId) (queries : List Query) (n : ℕ) → passes_at sc admin (slice_get queries n) → list_any (is_query_of sc admin) queries ≡ true
any_passes sc admin [] n e = absurd (cc)
any_passes sc admin (query ∷ queries) zero e = or_left (is_query_of sc admin query) (list_any (is_query_of sc admin) queries) e
any_passes sc admin (query ∷ queries) (suc n) e = or_right (is_query_of sc admin query) (list_any (is_query_of sc admin) queries) (any_passes sc admin queries n e)

-- ---- the query that is asked

-- a query by its number, on an item of the administrator
record IsOnAdmin (sc : Scenario) (declared : Transaction) (admin : AdminId) (number : ℕ) : Type 0 where
  before : ℕ
  number_is : number ≡ suc before
  passes : passes_at sc admin (slice_get declared.queries before)

asked_passes : (sc : Scenario) (admin : AdminId) (item : Option Item) → option_map (λ (i : Item). i.admin) item ≡ Some admin → option_map_or (is_item_of admin) item false ≡ true
asked_passes sc admin None e = absurd (cc)
asked_passes sc admin (Some item) e = let same : item.admin ≡ admin = same_Some item.admin admin e in subst (λ (a : AdminId). same_admin a admin ≡ true) (sym same) (number_itself admin.0)

asked_on : (sc : Scenario) (declared : Transaction) (admin : AdminId) (number : ℕ) (found : Option Query) → query_at declared number ≡ found → option_and_then (admin_of_query sc) found ≡ Some admin → IsOnAdmin sc declared admin number
asked_on sc declared admin number None e f = absurd (cc)
asked_on sc declared admin zero (Some asked) e f = absurd (cc)
asked_on sc declared admin (suc before) (Some asked) e f =
    record { before = before; number_is = refl; passes = subst (passes_at sc admin) (sym e) (asked_passes sc admin (slice_get sc.items (item_of asked).0) f) }

own_on : (sc : Scenario) (declared : Transaction) (admin : AdminId) (number : ℕ) (at : ServerId) → is_own_query sc declared number at admin ≡ true → IsOnAdmin sc declared admin number
own_on sc declared admin zero at e = absurd (cc)
own_on sc declared admin (suc before) at e = record { before = before; number_is = refl; passes = by_query (slice_get declared.queries before) e }
  where
    by_query : (found : Option Query) → option_map_or (is_query_at sc at admin) found false ≡ true → passes_at sc admin found
    by_query None f = absurd (cc)
    by_query (Some asked) f = item_of_admin at admin (slice_get sc.items (item_of asked).0) f

-- ---- the proof that pins

below_range : (proofs : List Verdict) (start many : ℕ) → numbers_of proofs ≡ range_with_len start many → Each (λ (proof : Verdict). proof.query < start + many) proofs
below_range [] start many e = tt
below_range (proof ∷ proofs) start zero e = absurd (cc)
below_range (proof ∷ proofs) start (suc many) e =
    let here : proof.query ≡ start = cc in
    let rest : numbers_of proofs ≡ range_with_len (start + 1) many = cc in
    (omega (arith, here), each_as (λ (one : Verdict). one.query < start + 1 + many) (λ (one : Verdict). one.query < start + suc many) (λ one less. omega (arith, less)) proofs (below_range proofs (start + 1) many rest))

-- only what was gathered pins, which incremental alone does
pins_gathered : (chosen : Scheme) (queries : ℕ) (awaited : Phase) (gathered : List Verdict) (admin : AdminId) (pin : Version) → numbers_of gathered ≡ range_with_len 1 (gathered_in chosen queries awaited) → pin_of gathered admin ≡ Some pin
    → chosen ≡ scheme.Incremental
pins_gathered scheme.Incremental queries awaited gathered admin pin numbers e = refl
pins_gathered scheme.Deferred queries awaited [] admin pin numbers e = absurd (cc)
pins_gathered scheme.Deferred queries awaited (proof ∷ gathered) admin pin numbers e = absurd (cc)
pins_gathered scheme.Punctual queries awaited [] admin pin numbers e = absurd (cc)
pins_gathered scheme.Punctual queries awaited (proof ∷ gathered) admin pin numbers e = absurd (cc)
pins_gathered scheme.Continuous queries awaited [] admin pin numbers e = absurd (cc)
pins_gathered scheme.Continuous queries awaited (proof ∷ gathered) admin pin numbers e = absurd (cc)

-- the first proof of an administrator is one of the list
record IsPinBy (gathered : List Verdict) (admin : AdminId) : Type 0 where
  place : ℕ
  proof : Verdict
  there : slice_get gathered place ≡ Some proof
  of_admin : proof.admin ≡ admin

pin_by : (gathered : List Verdict) (admin : AdminId) (pin : Version) → pin_of gathered admin ≡ Some pin → IsPinBy gathered admin
pin_by [] admin pin e = absurd (cc)
pin_by (proof ∷ gathered) admin pin e = by_first (is_of admin proof) refl (pin_by gathered admin pin)
  where
    by_first : (b : Bool) → is_of admin proof ≡ b → (pin_of gathered admin ≡ Some pin → IsPinBy gathered admin) → IsPinBy (proof ∷ gathered) admin
    by_first true f rest = record { place = zero; proof = proof; there = refl; of_admin = same_ids proof.admin admin f }
    by_first false f rest =
        let later : IsPinBy gathered admin = rest (sym (ap (λ (b : Bool). option_map version_of (if b then Some proof else find (is_of admin) gathered)) f) ∙ e) in
        record { place = suc later.place; proof = later.proof; there = later.there; of_admin = later.of_admin }

-- so where a query of an administrator whose version is pinned meets a newer one, it is shown
pub pinned_newer_shown : (sc : Scenario) (facts : List Fact) (place : ℕ) (c : Coordinator) (declared : Transaction) (number : ℕ) (staple : Option Staple) (newer : Newer) → slice_get sc.txns c.txn.0 ≡ Some declared
    → NewerFits sc facts place newer → NewerNow sc c.gathered c.txn number newer → 1 ≤ number → IsSoFarIn sc facts place c.txn declared (phase.Querying number staple) c.instances c.gathered → is_newer_shown sc place facts newer declared ≡ true
pinned_newer_shown sc facts place c declared number staple newer found fits now first h =
    let queries = length declared.queries in
    let awaited = phase.Querying number staple in
    let incremental : declared.scheme ≡ scheme.Incremental = pins_gathered declared.scheme queries awaited c.gathered newer.admin newer.used h.numbers now.used_is in
    let many : gathered_in declared.scheme queries awaited ≡ number - 1 = ap (λ (s : Scheme). gathered_in s queries awaited) incremental in
    let by = pin_by c.gathered newer.admin newer.used now.used_is in
    let right : Right sc facts place c.txn by.proof = each_get (Right sc facts place c.txn) c.gathered by.place by.proof h.right by.there in
    let low : by.proof.query < 1 + gathered_in declared.scheme queries awaited =
    each_get (λ (proof : Verdict). proof.query < 1 + gathered_in declared.scheme queries awaited) c.gathered by.place by.proof (below_range c.gathered 1 (gathered_in declared.scheme queries awaited) h.numbers) by.there in
    let earlier : IsOnAdmin sc declared newer.admin by.proof.query =
    own_on sc declared newer.admin by.proof.query by.proof.server (subst (λ (a : AdminId). is_own_query sc declared by.proof.query by.proof.server a ≡ true) by.of_admin (right declared found).own) in
    let asked : IsOnAdmin sc declared newer.admin number =
    asked_on sc declared newer.admin number (query_at declared number) refl
    (sym (ap (λ (d : Option Transaction). option_and_then (admin_of_query sc) (option_and_then (λ (t : Transaction). query_at t number) d)) found) ∙ now.admin_is) in
    let one = earlier.number_is in
    let other = asked.number_is in
    let two = two_counted sc newer.admin declared.queries earlier.before asked.before (omega (arith, one, other, low, many, first)) earlier.passes asked.passes in
    newer_shown sc facts place declared newer incremental fits.above fits.published (any_passes sc newer.admin declared.queries asked.before asked.passes)
    (or_right (is_global (level_of declared newer.admin)) (nat_le 2 (count_by (is_query_of sc newer.admin) declared.queries)) (le-leb 2 (count_by (is_query_of sc newer.admin) declared.queries) two))
