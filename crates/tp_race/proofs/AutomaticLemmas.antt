-- The automatic steps after a run in which nobody crashed: they are deliveries, submissions and timers, and what they
-- deliver is undelivered.
use Rattle.std.proofs.Common.{◌≡◌, ℕ, zero, suc, ◌+◌, ◌≤◌, ◌==◌, List, [], ◌∷◌, find, length, map, nat_lt, slice_get, Bool, true, false, cond, Option, Some, None, option_map, refl, sym, ap, subst, ◌∙◌, arith}
use Rattle.std.proofs.lemmas.Bool.{and_from, and_parts}
use Rattle.std.proofs.lemmas.List.Sums.{sum_by-cons}
use Rattle.std.proofs.lemmas.Option.{same_Some}
use Rattle.std.specs.List.{count_by, list_all, range_with_len}
use Rattle.std.specs.Option.{option_map_or, option_or}
use Rattle.tp_auto.proofs.AutoLemmas.{after_allowed, automatic-none, automatic-some}
use Rattle.tp_auto.proofs.GoingLemmas.{Going, next_goes}
use Rattle.tp_auto.specs.Auto.{automatic_from, coordinator_down, cursor_after, first_armed, lowest_down, lowest_unsubmitted, next_by, next_of, servers_of, txns_of}
use Rattle.tp_coord.specs.Opened as coord
use Rattle.tp_ends.proofs.ListedRun.{none_refused}
use Rattle.tp_ends.specs.Listed.{refused_from}
use Rattle.tp_machine.specs.Machine.{Machine, after_steps, is_down, is_part_down, machine_after, opened_part, opening, refusal}
use Rattle.tp_model.specs.Valid.{is_valid}
use Rattle.tp_model.specs.Words.actor
use Rattle.tp_model.specs.Words.step
use Rattle.tp_model.specs.Words.{Actor, Scenario, ServerId, Step, TxnId}
use Rattle.tp_runs.proofs.walks.Steps.{KeepsUp}
use Rattle.tp_runs.proofs.walks.Ups.{stay_up}
use Rattle.tp_server.specs.Opened as server
use Rattle.tp_wire.specs.History.{one_if, times}
use Rattle.tp_race.proofs.ListLemmas.{one_by}
use Rattle.tp_race.proofs.MailLemmas.{IsOnce, once_next}
use Rattle.tp_race.specs.WholeRace.{delivers, is_race_step}

-- ---- nobody is down

abbrev pub AllUp : Machine → Type 0
AllUp m = (who : Actor) → is_down m.state.actors who ≡ false

opened_up : {S : Type 0} (opens : ℕ → S) (numbers : List ℕ) (n : ℕ) → option_map_or is_part_down (slice_get (map (λ (k : ℕ). opened_part (opens k)) numbers) n) false ≡ false
opened_up opens [] n = refl
opened_up opens (k ∷ numbers) zero = refl
opened_up opens (k ∷ numbers) (suc n) = opened_up opens numbers n

pub all_up_first : (sc : Scenario) → AllUp (opening sc)
all_up_first sc (actor.Server at) = opened_up (λ (n : ℕ). server.opening sc (record { 0 = n })) (range_with_len 0 (length sc.servers)) at.0
all_up_first sc (actor.Coordinator txn) = opened_up (λ (n : ℕ). coord.idle sc (record { 0 = n })) (range_with_len 0 (length sc.txns)) txn.0
all_up_first sc actor.Authority = refl
all_up_first sc actor.Master = refl

race_keeps_up : (taken : Step) → is_race_step taken ≡ true → KeepsUp taken
race_keeps_up (step.Submit txn) e = tt
race_keeps_up (step.Deliver mail) e = tt
race_keeps_up (step.Publish admin) e = tt
race_keeps_up (step.Push admin server) e = tt
race_keeps_up (step.Tick by) e = tt
race_keeps_up (step.Revoke cred) e = tt
race_keeps_up (step.Timer txn) e = tt
race_keeps_up (step.Lose mail) e = absurd (cc)
race_keeps_up (step.Crash who cut) e = absurd (cc)
race_keeps_up (step.Boot who) e = absurd (cc)

all_up_next : (sc : Scenario) (m : Machine) (taken : Step) → is_race_step taken ≡ true → AllUp m → AllUp (machine_after sc m taken)
all_up_next sc m taken race up who = stay_up sc m taken (race_keeps_up taken race) who ∙ up who

-- after steps of which none is refused
pub all_up_done : (sc : Scenario) (m : Machine) (at : ℕ) (steps : List Step) → refused_from sc m at steps ≡ None → list_all is_race_step steps ≡ true → AllUp m → AllUp (after_steps sc m steps)
all_up_done sc m at [] none race up = up
all_up_done sc m at (taken ∷ steps) none race up =
    let first = none_refused sc m at taken steps none in
    let kinds = and_parts (is_race_step taken) (list_all is_race_step steps) race in
    subst (λ (k : Machine). AllUp (after_steps sc k steps)) (sym (after_allowed sc m taken first.allowed))
    (all_up_done sc (machine_after sc m taken) (at + 1) steps first.rest kinds.1 (all_up_next sc m taken kinds.0 up))

find_none : {A : Type 0} (test : A → Bool) → ((x : A) → test x ≡ false) → (xs : List A) → find test xs ≡ None
find_none test fails [] = refl
find_none test fails (x ∷ xs) = ap (λ (b : Bool). cond b (Some x) (find test xs)) (fails x) ∙ find_none test fails xs

none_down : (sc : Scenario) (m : Machine) → AllUp m → lowest_down sc m.state.actors ≡ None
none_down sc m up =
    ap (λ (found : Option ServerId). option_or (option_map (λ (at : ServerId). actor.Server at) found) (option_map (λ (txn : TxnId). actor.Coordinator txn) (coordinator_down sc m.state.actors)))
    (find_none (λ (at : ServerId). is_down m.state.actors (actor.Server at)) (λ at. up (actor.Server at)) (servers_of sc))
    ∙ ap (λ (found : Option TxnId). option_map (λ (txn : TxnId). actor.Coordinator txn) found)
    (find_none (λ (txn : TxnId). is_down m.state.actors (actor.Coordinator txn)) (λ txn. up (actor.Coordinator txn)) (txns_of sc))

-- ---- the next step

-- a step that comes by itself where nobody is down
abbrev pub is_automatic : Step → Bool
is_automatic (step.Submit txn) = true
is_automatic (step.Deliver mail) = true
is_automatic (step.Timer txn) = true
is_automatic _ = false

pub automatic_race : (taken : Step) → is_automatic taken ≡ true → is_race_step taken ≡ true
automatic_race (step.Submit txn) e = refl
automatic_race (step.Deliver mail) e = refl
automatic_race (step.Timer txn) e = refl
automatic_race (step.Publish admin) e = refl
automatic_race (step.Push admin server) e = refl
automatic_race (step.Tick by) e = refl
automatic_race (step.Revoke cred) e = refl
automatic_race (step.Lose mail) e = absurd (cc)
automatic_race (step.Crash who cut) e = absurd (cc)
automatic_race (step.Boot who) e = absurd (cc)

-- it is of these, and what it delivers is undelivered
record IsNextStep (m : Machine) (taken : Step) : Type 0 where
  automatic : is_automatic taken ≡ true
  pending : (mail : ℕ) → one_by (delivers mail taken) ≤ times mail m.undelivered

found_there : (mail n : ℕ) (numbers : List ℕ) → one_by (n == mail) ≤ times mail (n ∷ numbers)
found_there mail n numbers = by_test (n == mail)
  where
    by_test : (b : Bool) → one_by b ≤ one_if b + times mail numbers
    by_test true = omega arith
    by_test false = omega arith

delivered_next : (m : Machine) (n : ℕ) (numbers : List ℕ) (taken : Step) → m.undelivered ≡ n ∷ numbers → step.Deliver n ≡ taken → IsNextStep m taken
delivered_next m n numbers taken e f =
    subst (IsNextStep m) f
    (record { automatic = refl; pending = λ mail. subst (λ (all : List ℕ). one_by (n == mail) ≤ times mail all) (sym e) (found_there mail n numbers) })

chosen_next : (m : Machine) (unsubmitted armed : Option TxnId) (taken : Step)
    → option_or (option_map (λ (txn : TxnId). step.Submit txn) unsubmitted) (option_map (λ (txn : TxnId). step.Timer txn) armed) ≡ Some taken → IsNextStep m taken
chosen_next m (Some txn) armed taken e = subst (IsNextStep m) (same_Some (step.Submit txn) taken e) (record { automatic = refl; pending = λ mail. omega arith })
chosen_next m None (Some txn) taken e = subst (IsNextStep m) (same_Some (step.Timer txn) taken e) (record { automatic = refl; pending = λ mail. omega arith })
chosen_next m None None taken e = absurd (cc)

next_kind : (sc : Scenario) (m : Machine) (cursor : ℕ) (taken : Step) → AllUp m → next_of sc m cursor ≡ Some taken → IsNextStep m taken
next_kind sc m cursor taken up e = by_oldest m.undelivered refl (sym (ap (λ (found : Option Actor). option_or (option_map (λ (who : Actor). step.Boot who) found) (next_by sc m.state.actors cursor (slice_get m.undelivered 0))) (none_down sc m up)) ∙ e)
  where
    by_oldest : (numbers : List ℕ) → m.undelivered ≡ numbers → next_by sc m.state.actors cursor (slice_get numbers 0) ≡ Some taken → IsNextStep m taken
    by_oldest [] u f = chosen_next m (lowest_unsubmitted sc m.state.actors) (first_armed sc m.state.actors cursor) taken f
    by_oldest (n ∷ numbers) u f = delivered_next m n numbers taken u (same_Some (step.Deliver n) taken f)

-- ---- all of them

-- the steps are of these kinds, and each mail stays delivered at most once
pub record AreAutomatic (sc : Scenario) (m : Machine) (steps : List Step) : Type 0 where
  pub kinds : list_all is_automatic steps ≡ true
  pub once : (mail count : ℕ) → IsOnce mail count m → IsOnce mail (count + count_by (delivers mail) steps) (after_steps sc m steps)

none_automatic : (sc : Scenario) (m : Machine) → AreAutomatic sc m []
none_automatic sc m = record { kinds = refl; once = λ mail count h. subst (λ (n : ℕ). IsOnce mail n m) (omega arith) h }

at_most_one : (b : Bool) → one_if b ≤ 1
at_most_one true = omega arith
at_most_one false = omega arith

one_automatic : (sc : Scenario) (m : Machine) (taken : Step) (steps : List Step) → refusal m.state taken ≡ None → IsNextStep m taken → AreAutomatic sc (machine_after sc m taken) steps → AreAutomatic sc m (taken ∷ steps)
one_automatic sc m taken steps allowed next rest =
    record {
      kinds = and_from (is_automatic taken) (list_all is_automatic steps) next.automatic rest.kinds;
      once = once;
    }
  where
    once : (mail count : ℕ) → IsOnce mail count m → IsOnce mail (count + count_by (delivers mail) (taken ∷ steps)) (after_steps sc m (taken ∷ steps))
    once mail count h =
        let was = h.once in
        let pending = next.pending mail in
        let most = at_most_one (nat_lt mail (length m.state.mails)) in
        let here = once_next sc mail count m taken allowed (automatic_race taken next.automatic) (omega (arith, was, pending, most)) h in
        let count_is : count + one_by (delivers mail taken) + count_by (delivers mail) steps ≡ count + count_by (delivers mail) (taken ∷ steps) =
        omega (arith, sum_by-cons (λ (s : Step). one_by (delivers mail s)) taken steps) in
        subst (λ (k : Machine). IsOnce mail (count + count_by (delivers mail) (taken ∷ steps)) (after_steps sc k steps)) (sym (after_allowed sc m taken allowed))
        (subst (λ (n : ℕ). IsOnce mail n (after_steps sc (machine_after sc m taken) steps)) count_is (rest.once mail (count + one_by (delivers mail taken)) here))

by_next : (sc : Scenario) (left cursor : ℕ) (m : Machine) (next : Option Step) → is_valid sc ≡ true → next_of sc m cursor ≡ next → Going sc m cursor → AllUp m
    → ((after : ℕ) (k : Machine) → Going sc k after → AllUp k → AreAutomatic sc k (automatic_from sc left after k)) → AreAutomatic sc m (automatic_from sc (suc left) cursor m)
by_next sc left cursor m None formed e g up rest = subst (AreAutomatic sc m) (sym (automatic-none sc (suc left) cursor m e)) (none_automatic sc m)
by_next sc left cursor m (Some taken) formed e g up rest =
    let goes = next_goes sc m cursor taken formed g e in
    let kind = next_kind sc m cursor taken up e in
    subst (AreAutomatic sc m) (sym (automatic-some sc left cursor m taken e goes.allowed))
    (one_automatic sc m taken (automatic_from sc left (cursor_after taken cursor) (machine_after sc m taken)) goes.allowed kind
    (rest (cursor_after taken cursor) (machine_after sc m taken) goes.going (all_up_next sc m taken (automatic_race taken kind.automatic) up)))

pub automatic : (sc : Scenario) (count cursor : ℕ) (m : Machine) → is_valid sc ≡ true → Going sc m cursor → AllUp m → AreAutomatic sc m (automatic_from sc count cursor m)
automatic sc zero cursor m formed g up = none_automatic sc m
automatic sc (suc left) cursor m formed g up = by_next sc left cursor m (next_of sc m cursor) formed refl g up (λ after k going all_up. automatic sc left after k formed going all_up)
