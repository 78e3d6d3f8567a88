-- Deeds whose reads have the values of a store, own writes among them. They stay so as deeds are applied that are clear of them.
use Rattle.std.proofs.Common.{List, Option, Some, [], ap, arith, length, not, pos, refl, slice_get, slice_set, subst, sym, true, unwrap_or, ℕ, ℤ, ◌&&◌, ◌++◌, ◌+◌, ◌^◌, ◌∙◌, ◌∷◌, ◌≡◌}
use Rattle.std.proofs.lemmas.Bool.{and_parts, ne_eqb}
use Rattle.std.proofs.lemmas.Int.{ints}
use Rattle.std.proofs.lemmas.List.Elements.{All-replicate, recursion_from_All}
use Rattle.std.proofs.lemmas.List.{set_comm}
use Rattle.std.specs.List.{AllByRecursion, list_all, list_any}
use Rattle.tp_types.proofs.ListLemmas.{three_parts}
use Rattle.tp_types.specs.declared.scenario.Query.TheVariants.{Read, Write}
use Rattle.tp_model.proofs.RunBounds.{IsWithin, bound_after, run_within_most, set_within}
use Rattle.tp_model.specs.Limits.{has_count, is_from_to}
use Rattle.tp_model.specs.SerialRun.{cleared_registers, deeds_from, number_at, serial_run, with_deed, with_deeds, with_deed_by, sum_in}
use Rattle.tp_model.specs.Valid.{has_valid_creds, is_item, is_name_of_server, is_valid_query, is_valid_sum, is_valid_txn}
use Rattle.tp_model.specs.Words.action
use Rattle.tp_model.specs.Words.{Action, Deed, Query, Scenario, Transaction}
use Rattle.tp_runs.proofs.deeds.Clamped.{clamped_is}
use Rattle.tp_runs.proofs.basics.Folds.{set_elsewhere}
use Rattle.tp_runs.proofs.deeds.Runs.{RunsFrom, RunsSoFar, deed_asked}
use Rattle.tp_types.specs.Each.{Each}

-- ---- reads

-- a read has the store's value of its item
abbrev pub IsReadBy : Action → List ℤ → Deed → Type 0
IsReadBy action.Read store deed = deed.value ≡ number_at store deed.item.0
IsReadBy action.Write store deed = Unit {0}

abbrev pub IsReadFrom : List ℤ → Deed → Type 0
IsReadFrom store deed = IsReadBy deed.action store deed

-- each read has the value that its item has by then
abbrev pub ReadsFrom : List ℤ → List Deed → Type 0
ReadsFrom store [] = Unit {0}
ReadsFrom store (deed ∷ deeds) = IsReadFrom store deed × ReadsFrom (with_deed store deed) deeds

-- one deed more
pub reads_more : (store : List ℤ) (deeds : List Deed) (deed : Deed) → ReadsFrom store deeds → IsReadFrom (with_deeds store deeds) deed → ReadsFrom store (deeds ++ deed ∷ [])
reads_more store [] deed h r = (r, tt)
reads_more store (first ∷ deeds) deed h r = (h.0, reads_more (with_deed store first) deeds deed h.1 r)

-- what is read where two stores have the same
pub read_as : (a : Action) (store other : List ℤ) (deed : Deed) → slice_get store deed.item.0 ≡ slice_get other deed.item.0 → IsReadBy a store deed → IsReadBy a other deed
read_as action.Read store other deed same h = h ∙ ap (λ (found : Option ℤ). unwrap_or found (pos 0)) same
read_as action.Write store other deed same h = tt

-- ---- clear deeds

abbrev pub AreReads : Action → Action → Type 0
AreReads one other = (one ≡ action.Read) × (other ≡ action.Read)

-- two deeds of one item both read
abbrev pub IsClear : Deed → Deed → Type 0
IsClear one other = one.item.0 ≡ other.item.0 → AreReads one.action other.action

-- each of these deeds is clear of each of those
abbrev pub AreClear : List Deed → List Deed → Type 0
AreClear deeds others = Each (λ (one : Deed). Each (IsClear one) others) deeds

clear_back : (one other : Deed) → IsClear one other → IsClear other one
clear_back one other clear = λ same. let reads = clear (sym same) in (reads.1, reads.0)

clear_more : (deed : Deed) (deeds others : List Deed) → Each (IsClear deed) others → AreClear others deeds → AreClear others (deed ∷ deeds)
clear_more deed deeds [] clear rest = tt
clear_more deed deeds (other ∷ others) clear rest = ((clear_back deed other clear.0, rest.0), clear_more deed deeds others clear.1 rest.1)

clear_of_none : (others : List Deed) → AreClear others []
clear_of_none [] = tt
clear_of_none (other ∷ others) = (tt, clear_of_none others)

-- and the other way round
pub clear_both : (deeds others : List Deed) → AreClear deeds others → AreClear others deeds
clear_both [] others clear = clear_of_none others
clear_both (deed ∷ deeds) others clear = clear_more deed deeds others clear.0 (clear_both deeds others clear.1)

swapped_by : (a b : Action) (store : List ℤ) (one other : Deed) → (one.item.0 ≡ other.item.0 → AreReads a b) → with_deed_by b (with_deed_by a store one) other ≡ with_deed_by a (with_deed_by b store other) one
swapped_by action.Read b store one other clear = refl
swapped_by action.Write action.Read store one other clear = refl
swapped_by action.Write action.Write store one other clear =
    set_comm store one.item.0 other.item.0 one.value other.value (λ same. let writes : action.Write ≡ action.Read = (clear same).0 in cc)

-- clear deeds may be applied in either order
pub swapped : (store : List ℤ) (one other : Deed) → IsClear one other → with_deed (with_deed store one) other ≡ with_deed (with_deed store other) one
swapped store one other clear = swapped_by one.action other.action store one other clear

untouched_by : (a b : Action) (store : List ℤ) (one other : Deed) → (one.item.0 ≡ other.item.0 → AreReads a b) → IsReadBy b store other → IsReadBy b (with_deed_by a store one) other
untouched_by action.Read b store one other clear h = h
untouched_by action.Write action.Write store one other clear h = tt
untouched_by action.Write action.Read store one other clear h =
    let apart = ne_eqb one.item.0 other.item.0 (λ same. let writes : action.Write ≡ action.Read = (clear same).0 in cc) in
    read_as action.Read store (slice_set store one.item.0 one.value) other (sym (set_elsewhere store one.item.0 other.item.0 one.value apart)) h

-- one deed of another transaction is applied
reads_past : (store : List ℤ) (deeds : List Deed) (one : Deed) → Each (IsClear one) deeds → ReadsFrom store deeds → ReadsFrom (with_deed store one) deeds
reads_past store [] one clear h = tt
reads_past store (deed ∷ deeds) one clear h =
    let later : ReadsFrom (with_deed (with_deed store deed) one) deeds = reads_past (with_deed store deed) deeds one clear.1 h.1 in
    (untouched_by one.action deed.action store one deed clear.0 h.0, subst (λ (other : List ℤ). ReadsFrom other deeds) (sym (swapped store one deed clear.0)) later)

-- reads stay true as another transaction's deeds are applied that are clear of them
pub reads_clear : (store : List ℤ) (deeds others : List Deed) → AreClear others deeds → ReadsFrom store deeds → ReadsFrom (with_deeds store others) deeds
reads_clear store deeds [] clear h = h
reads_clear store deeds (one ∷ others) clear h = reads_clear (with_deed store one) deeds others clear.1 (reads_past store deeds one clear.0 h)

-- ---- the run

abbrev ReadsOn : List ℤ → List Deed → Deed → Type 0
ReadsOn store deeds deed = IsReadFrom store deed × ReadsFrom (with_deed store deed) deeds

-- the value of a deed is within the bound of 16 queries
abbrev DeedIsWithin : Deed → Type 0
DeedIsWithin deed = IsWithin (bound_after 16) deed.value

run_from : (sc : Scenario) (number : ℕ) (queries : List Query) (registers store : List ℤ) (deeds : List Deed) → list_all (is_valid_query sc) queries ≡ true
    → AllByRecursion (IsWithin (bound_after 16)) registers → AllByRecursion DeedIsWithin (deeds_from number queries registers store)
    → RunsFrom number queries registers deeds → length deeds ≡ length queries → ReadsFrom store deeds → deeds ≡ deeds_from number queries registers store
run_from sc number [] registers store [] valid kept within h all reads = refl
run_from sc number [] registers store (deed ∷ deeds) valid kept within h all reads = absurd h
run_from sc number (query ∷ queries) registers store [] valid kept within h all reads = absurd (omega (arith, all))
run_from sc number (Read item into ∷ queries) registers store (deed ∷ deeds) valid kept within h all reads =
    let is = h.0.deed_is in
    let value = number_at store item.0 in
    let here : ReadsOn store deeds (deed_asked number (Some (Read item into)) deed.value) = subst (ReadsOn store deeds) is reads in
    let parts = and_parts (is_valid_query sc (Read item into)) (list_all (is_valid_query sc) queries) valid in
    let runs : RunsFrom (number + 1) queries (slice_set registers into value) deeds = subst (λ (v : ℤ). RunsFrom (number + 1) queries (slice_set registers into v) deeds) here.0 h.1 in
    let later : deeds ≡ deeds_from (number + 1) queries (slice_set registers into value) store =
    run_from sc (number + 1) queries (slice_set registers into value) store deeds parts.1 (set_within (bound_after 16) registers into value kept within.0) within.1 runs (omega (arith, all)) here.1 in
    ap (λ (first : Deed). first ∷ deeds) is
    ∙ (ap (λ (v : ℤ). deed_asked number (Some (Read item into)) v ∷ deeds) here.0 ∙ ap (λ (rest : List Deed). deed_asked number (Some (Read item into)) value ∷ rest) later)
run_from sc number (Write item expr ∷ queries) registers store (deed ∷ deeds) valid kept within h all reads =
    let is = h.0.deed_is in
    let value = sum_in registers expr in
    let here : ReadsOn store deeds (deed_asked number (Some (Write item expr)) deed.value) = subst (ReadsOn store deeds) is reads in
    let parts = and_parts (is_valid_query sc (Write item expr)) (list_all (is_valid_query sc) queries) valid in
    let sum = (and_parts (is_item sc item) (is_valid_sum expr) parts.0).1 in
    let exact : deed.value ≡ value = h.0.value_is ∙ clamped_is (bound_after 16) registers expr (omega arith) (omega arith) sum kept in
    let reads_on : ReadsFrom (slice_set store item.0 value) deeds = subst (λ (v : ℤ). ReadsFrom (slice_set store item.0 v) deeds) exact here.1 in
    let later : deeds ≡ deeds_from (number + 1) queries registers (slice_set store item.0 value) =
    run_from sc (number + 1) queries registers (slice_set store item.0 value) deeds parts.1 kept within.1 h.1 (omega (arith, all)) reads_on in
    ap (λ (first : Deed). first ∷ deeds) is
    ∙ (ap (λ (v : ℤ). deed_asked number (Some (Write item expr)) v ∷ deeds) exact ∙ ap (λ (rest : List Deed). deed_asked number (Some (Write item expr)) value ∷ rest) later)

cleared_within_in_deeds : AllByRecursion (IsWithin (bound_after 16)) cleared_registers
cleared_within_in_deeds =
    let zero_within : IsWithin (bound_after 16) (pos 0) = record { low = omega (arith, ints); high = omega (arith, ints) } in
    recursion_from_All (IsWithin (bound_after 16)) cleared_registers (All-replicate (IsWithin (bound_after 16)) 10 (pos 0) zero_within)

pub valid_queries : (sc : Scenario) (txn : Transaction) → is_valid_txn sc txn ≡ true → list_all (is_valid_query sc) txn.queries ≡ true
valid_queries sc txn valid =
    let work = (and_parts (has_valid_creds sc txn && is_from_to 1 16 txn.rounds) _ valid).1 in
    (three_parts (has_count 1 16 txn.queries) (list_all (is_valid_query sc) txn.queries) (not (list_any (is_name_of_server txn) sc.servers)) work).1

-- deeds of all queries whose reads are those of a store of items' values are the transaction's run by itself on that store
pub run_is : (sc : Scenario) (txn : Transaction) (store : List ℤ) (deeds : List Deed) → is_valid_txn sc txn ≡ true → AllByRecursion (IsWithin (10 ^ 15)) store
    → RunsSoFar txn deeds → length deeds ≡ length txn.queries → ReadsFrom store deeds → deeds ≡ serial_run txn store
run_is sc txn store deeds valid within h all reads =
    run_from sc 1 txn.queries cleared_registers store deeds (valid_queries sc txn valid) cleared_within_in_deeds (run_within_most sc txn store valid within) h all reads
