-- No step of a race is refused: what the machine would refuse it for, the scripts together do not ask for.
use Rattle.std.proofs.Common.{◌≡◌, inl, inr, ℕ, zero, suc, ◌+◌, ◌^◌, ◌<◌, ◌≤◌, ◌==◌, nat_lt, nat_le, min, List, [], ◌∷◌, ◌++◌, length, map, slice_get, Bool, true, false, Option, Some, None, option_map, unwrap_or, if◌then◌else◌, refl, sym, ap, subst, ◌∙◌, arith}
use Rattle.std.proofs.lemmas.Bool.Decides.{nat_tests}
use Rattle.std.proofs.lemmas.List.{map-append}
use Rattle.std.proofs.lemmas.Option.{slice_get-map}
use Rattle.std.proofs.lemmas.List.Sums.{sum_by-append, sum_by-cons}
use Rattle.std.specs.List.{sum_by}
use Rattle.std.specs.Option.{option_map_or}
use Rattle.tp_auto.proofs.StandsLemmas.{stands_after}
use Rattle.tp_cluster.proofs.RunLemmas.{all_named, runs}
use Rattle.tp_cluster.specs.Runs.{state_at}
use Rattle.tp_coord.specs.Row.{is_begun}
use Rattle.tp_coord.specs.State.{Coordinator}
use Rattle.tp_machine.specs.declared.error.StepError.{StepError}
use Rattle.tp_machine.specs.declared.error.StepError.TheVariants as error
use Rattle.tp_machine.specs.Machine.{State, is_part_submitted, is_submitted, refusal}
use Rattle.tp_machine.specs.Parts.{Part}
use Rattle.tp_model.proofs.RuleLemmas.{rules_of}
use Rattle.tp_model.specs.Limits.{clock_limit}
use Rattle.tp_model.specs.Valid.{IsValid, is_publication_of, is_valid}
use Rattle.tp_model.specs.Versions.{opening_version}
use Rattle.tp_model.specs.Words.step
use Rattle.tp_model.specs.Words.{Admin, AdminId, Scenario, Step, TxnId, Version}
use Rattle.tp_offices.specs.Master.{last_of, version_for}
use Rattle.tp_runs.proofs.agreement.Logs.{once, submitted_count, submitted_up}
use Rattle.tp_runs.proofs.ids.Valid.{valid_of}
use Rattle.tp_runs.proofs.runs.Runs.{Holds}
use Rattle.tp_types.proofs.EachLemmas.{each_get, missing}
use Rattle.tp_types.specs.Each.{Each}
use Rattle.tp_wire.proofs.ListLemmas.{each_back}
use Rattle.tp_wire.specs.declared.view.Entry.{Entry}
use Rattle.tp_wire.specs.declared.view.View.{View}
use Rattle.tp_wire.specs.Entries.{steps_in}
use Rattle.tp_wire.specs.History.{StartsWith}
use Rattle.tp_race.proofs.SaidLemmas.{clock_by_steps, last_by_steps, newest_by_steps, submitted_by_steps}
use Rattle.tp_race.proofs.ScriptLemmas.{IsCommand, all_commands, published_few, submitted_once, ticked_few, ticks_by}
use Rattle.tp_race.proofs.ListLemmas.{one_by}
use Rattle.tp_race.proofs.ShareLemmas.{Silent, left_from, left_of}
use Rattle.tp_race.specs.Callers.{AllFrom, HasEnded, HasRun, HasStopped, script_at, script_or, scripts_of}
use Rattle.tp_race.specs.WholeRace.{submits}

-- ---- why a step is refused

refused_if : (b : Bool) (error why : StepError) → (if b then Some error else None) ≡ Some why → b ≡ true
refused_if true error why e = refl
refused_if false error why e = absurd (cc)

refused_else : (b : Bool) (error why : StepError) → (if b then None else Some error) ≡ Some why → b ≡ false
refused_else true error why e = absurd (cc)
refused_else false error why e = refl

-- steps may be done that ask, with those before them, for no more than all scripts do
abbrev pub AreWithin : Scenario → List Step → Step → Type 0
AreWithin sc steps next = (f : Step → ℕ) → Silent f → sum_by f steps + f next ≤ sum_by (sum_by f) (scripts_of sc)

-- ---- submissions

-- a transaction that was submitted was so by a step
pub counted : (found : Option (Part Coordinator)) → option_map_or (λ (part : Part Coordinator). is_part_submitted part.up) found false ≡ true → 1 ≤ submitted_count found
counted None e = absurd (cc)
counted (Some part) e = by_up part.up e
  where
    by_begun : (b : Bool) → b ≡ true → 1 ≤ once b
    by_begun true f = omega arith
    by_begun false f = absurd (cc)

    by_up : (up : Option Coordinator) → is_part_submitted up ≡ true → 1 ≤ submitted_up up
    by_up None f = omega arith
    by_up (Some c) f = by_begun (is_begun c.phase) f

itself : (txn : TxnId) → one_by (submits txn (step.Submit txn)) ≡ 1
itself txn = let same : (txn.0 == txn.0) ≡ true = grind (arith, nat_tests) in ap one_by same

submission_stands : (sc : Scenario) (w : State) (txn : TxnId) (why : StepError) → IsValid sc → Holds sc w → txn.0 < length sc.txns → AreWithin sc w.steps (step.Submit txn) → refusal w (step.Submit txn) ≡ Some why → ⊥
submission_stands sc w txn why formed h exists within e =
    let was : is_submitted w.actors txn ≡ true = refused_if (is_submitted w.actors txn) (error.AlreadySubmitted txn) why e in
    let before : 1 ≤ submitted_count (slice_get w.actors.coordinators txn.0) = counted (slice_get w.actors.coordinators txn.0) was in
    let done = submitted_by_steps sc w txn h in
    let all = within (λ (taken : Step). one_by (submits txn taken)) (λ mail. refl) in
    absurd (omega (arith, before, done, all, itself txn, submitted_once sc txn formed exists))

-- ---- publications

published_itself : (admin : AdminId) → one_by (is_publication_of admin (step.Publish admin)) ≡ 1
published_itself admin = let same : (admin.0 == admin.0) ≡ true = grind (arith, nat_tests) in ap one_by same

publication_stands : (sc : Scenario) (w : State) (admin : AdminId) (declared : Admin) (why : StepError) → is_valid sc ≡ true → Holds sc w → w.actors.master.last ≡ map last_of sc.admins → slice_get sc.admins admin.0 ≡ Some declared
    → admin.0 < length sc.admins → AreWithin sc w.steps (step.Publish admin) → refusal w (step.Publish admin) ≡ Some why → ⊥
publication_stands sc w admin declared why formed h lasts found exists within e =
    let newest = (version_for w.actors.master.newest admin).0 in
    let last = (version_for w.actors.master.last admin).0 in
    let none : nat_lt newest last ≡ false = refused_else (nat_lt newest last) (error.NoMore admin) why e in
    let over : last ≤ newest = grind (arith, nat_tests) in
    let last_is : last ≡ min (length declared.library) 4294967295 =
    ap (λ (versions : List Version). (version_for versions admin).0) lasts
    ∙ ap (λ (o : Option Version). (unwrap_or o (record { 0 = 0 })).0) (slice_get-map last_of sc.admins admin.0 ∙ ap (option_map last_of) found) in
    let opening : (opening_version sc admin).0 ≡ declared.opening.0 = ap (λ (o : Option Admin). (unwrap_or (option_map (λ (a : Admin). a.opening) o) (record { 0 = 0 })).0) found in
    let library : length declared.library ≤ 64 = each_get (λ (a : Admin). length a.library ≤ 64) sc.admins admin.0 declared (valid_of sc formed).libraries found in
    let done = newest_by_steps sc w admin h exists in
    let all = within (λ (taken : Step). one_by (is_publication_of admin taken)) (λ mail. refl) in
    absurd (omega (arith, over, last_is, opening, library, done, all, published_itself admin, published_few sc admin declared (rules_of sc formed) found))

-- ---- ticks

tick_stands : (sc : Scenario) (w : State) (by : ℕ) (why : StepError) → IsValid sc → Holds sc w → AreWithin sc w.steps (step.Tick by) → refusal w (step.Tick by) ≡ Some why → ⊥
tick_stands sc w by why formed h within e =
    let clock = w.actors.authority.clock in
    let none : nat_lt (clock + by) (2 ^ 63) ≡ false = refused_else (nat_lt (clock + by) (2 ^ 63)) (error.TooLate clock) why e in
    let late : 2 ^ 63 ≤ clock + by = grind (arith, nat_tests) in
    let opening : sc.clock ≤ 10 ^ 12 = low sc.clock formed.clock in
    let done = clock_by_steps sc w h in
    let all = within ticks_by (λ mail. refl) in
    absurd (omega (arith, late, opening, done, all, ticked_few sc formed))
  where
    low : (n : ℕ) → nat_le n clock_limit ≡ true → n ≤ 10 ^ 12
    low n f = grind (arith, nat_tests)

-- ---- any step of a script

pub never_so : (sc : Scenario) (w : State) (next : Step) (why : StepError) → is_valid sc ≡ true → Holds sc w → w.actors.master.last ≡ map last_of sc.admins → IsCommand sc next → AreWithin sc w.steps next → refusal w next ≡ Some why → ⊥
never_so sc w (step.Submit txn) why formed h lasts command within e =
    submission_stands sc w txn why (rules_of sc formed) h (exists txn.0 (length sc.txns) command.valid) within e
  where
    exists : (n count : ℕ) → nat_lt n count ≡ true → n < count
    exists n count f = grind (arith, nat_tests)
never_so sc w (step.Publish admin) why formed h lasts command within e = by_found (slice_get sc.admins admin.0) refl
  where
    exists : (n count : ℕ) → nat_lt n count ≡ true → n < count
    exists n count f = grind (arith, nat_tests)

    by_found : (found : Option Admin) → slice_get sc.admins admin.0 ≡ found → ⊥
    by_found None f = absurd (missing sc.admins admin.0 (exists admin.0 (length sc.admins) command.valid) f)
    by_found (Some declared) f = publication_stands sc w admin declared why formed h lasts f (exists admin.0 (length sc.admins) command.valid) within e
never_so sc w (step.Tick by) why formed h lasts command within e = tick_stands sc w by why (rules_of sc formed) h within e
never_so sc w (step.Push admin server) why formed h lasts command within e = absurd (cc)
never_so sc w (step.Revoke cred) why formed h lasts command within e = absurd (cc)
never_so sc w (step.Deliver mail) why formed h lasts command within e = let no : false ≡ true = command.command in absurd (cc)
never_so sc w (step.Lose mail) why formed h lasts command within e = let no : false ≡ true = command.command in absurd (cc)
never_so sc w (step.Crash who cut) why formed h lasts command within e = let no : false ≡ true = command.command in absurd (cc)
never_so sc w (step.Boot who) why formed h lasts command within e = let no : false ≡ true = command.command in absurd (cc)
never_so sc w (step.Timer txn) why formed h lasts command within e = let no : false ≡ true = command.command in absurd (cc)

-- ---- one caller, and all

-- each step of a caller's script is a command
script_commands : (sc : Scenario) → IsValid sc → (scripts : List (List Step)) → Each (λ (script : List Step). Each (IsCommand sc) script) scripts → (n : ℕ) → Each (IsCommand sc) (script_or (slice_get scripts n))
script_commands sc formed [] h zero = tt
script_commands sc formed [] h (suc n) = tt
script_commands sc formed (script ∷ scripts) h zero = h.0
script_commands sc formed (script ∷ scripts) h (suc n) = script_commands sc formed scripts h.1 n

pub caller_commands : (sc : Scenario) → IsValid sc → (caller : ℕ) → Each (IsCommand sc) (script_at sc caller)
caller_commands sc formed caller = script_commands sc formed (scripts_of sc) (all_commands sc formed) caller

-- a beginning of a history weighs no more than the whole
begun_less : (f : Step → ℕ) (log seen : List Entry) → StartsWith log seen → sum_by f (steps_in seen) ≤ sum_by f (steps_in log)
begun_less f log seen begins =
    let whole : sum_by f (steps_in seen ++ steps_in begins.0) ≡ sum_by f (steps_in log) = ap (sum_by f) (sym (map-append (λ (e : Entry). e.step) seen begins.0) ∙ ap steps_in begins.1) in
    omega (arith, whole, sum_by-append f (steps_in seen) (steps_in begins.0))

-- what was done of all scripts and is left of some is no more than all of them
abbrev pub LeavesNoMore : Scenario → List Entry → ((Step → ℕ) → ℕ) → Type 0
LeavesNoMore sc log left = (f : Step → ℕ) → Silent f → sum_by f (steps_in log) + left f ≤ sum_by (sum_by f) (scripts_of sc)

-- so a caller was not stopped
not_stopped : (sc : Scenario) (log : List Entry) (caller : ℕ) (v : View) → is_valid sc ≡ true → (stop : HasStopped sc caller v) → StartsWith log v.seen
    → LeavesNoMore sc log (λ f. sum_by f (stop.next ∷ stop.rest)) → ⊥
not_stopped sc log caller v formed stop begins limit =
    let holds : Holds sc (state_at sc v.seen) = (stands_after sc (steps_in v.seen) formed (all_named sc v.seen stop.lawful)).holds in
    let commands : Each (IsCommand sc) (stop.done ++ stop.next ∷ stop.rest) = subst (Each (IsCommand sc)) stop.script (caller_commands sc (rules_of sc formed) caller) in
    never_so sc (state_at sc v.seen) stop.next stop.why formed holds (last_by_steps sc (steps_in v.seen)) (each_back (IsCommand sc) stop.done (stop.next ∷ stop.rest) commands).0 within stop.refused
  where
    within : AreWithin sc (state_at sc v.seen).steps stop.next
    within f silent =
        let steps : sum_by f (state_at sc v.seen).steps ≡ sum_by f (steps_in v.seen) = ap (sum_by f) (runs sc v.seen stop.lawful).steps in
        let most = limit f silent in
        let less = begun_less f log v.seen begins in
        omega (arith, steps, most, less, sum_by-cons f stop.next stop.rest)

has_run : (sc : Scenario) (log : List Entry) (caller : ℕ) (v : View) → is_valid sc ≡ true → (end : HasEnded sc caller v) → StartsWith log v.seen → LeavesNoMore sc log (λ f. left_of f sc caller v end) → HasRun sc caller v
has_run sc log caller v formed (inl run) begins limit = run
has_run sc log caller v formed (inr stop) begins limit = absurd (not_stopped sc log caller v formed stop begins limit)

-- all callers have done their whole scripts
pub all_run : (sc : Scenario) (log : List Entry) (caller : ℕ) (views : List View) → is_valid sc ≡ true → (ends : AllFrom (HasEnded sc) caller views) → Each (λ (v : View). StartsWith log v.seen) views
    → LeavesNoMore sc log (λ f. left_from f sc caller views ends) → AllFrom (HasRun sc) caller views
all_run sc log caller [] formed ends seen limit = tt
all_run sc log caller (v ∷ views) formed ends seen limit = (
  has_run sc log caller v formed ends.0 seen.0 (λ f silent. let most = limit f silent in omega (arith, most)),
  all_run sc log (caller + 1) views formed ends.1 seen.1 (λ f silent. let most = limit f silent in omega (arith, most)),
)
