-- The whole run of a scenario has few steps and few mails, and may be printed, whatever steps it begins with.
use Rattle.std.proofs.Common.{◌≡◌, ℕ, suc, ◌+◌, ◌*◌, ◌-◌, ◌<◌, ◌≤◌, ◌^◌, ◌==◌, List, [], ◌∷◌, filter, length, slice_get, Bool, true, false, not, None, Some, if◌then◌else◌, sym, subst, arith}
use Rattle.std.specs.List.{list_all, range_with_len}
use Rattle.std.proofs.lemmas.Bool.{and_parts, ltb-true}
use Rattle.std.proofs.lemmas.List.{length-append}
use Rattle.std.proofs.lemmas.List.FromFn.{length-range_with_len}
use Rattle.tp_model.specs.Valid.{is_valid}
use Rattle.tp_model.specs.Words.{Scenario, Step}
use Rattle.tp_model.specs.Words.step
use Rattle.tp_model.specs.Words.what
use Rattle.tp_machine.specs.Machine.{Machine, Move, State, after, after_steps, boots, crashes, delivery, idle_move, machine_after, opening, publishes, pushes, revokes, state_after, submission, ticks, times, with_new, without_number}
use Rattle.tp_auto.proofs.AutoLemmas.{after_allowed}
use Rattle.tp_auto.proofs.BoundLemmas.{few_servers_valid, few_txns_valid, most_queries_valid, most_rounds_valid, work_is_small}
use Rattle.tp_auto.specs.Auto.{bound, greatest_rounds, most_queries}
use Rattle.tp_runs.proofs.runs.Runs.{always_printable, sends_few}
use Rattle.tp_runs.specs.Laws.{HasNumbers, IsPrintableState, mails_most}
use Rattle.tp_ends.proofs.ListedRun.{none_refused}
use Rattle.tp_ends.proofs.TrustedRun.{all_done, final_is, more_mails, trusted_run}
use Rattle.tp_ends.proofs.ByThemselves.{automatic_by_themselves, length-automatic_from}
use Rattle.tp_ends.specs.After.{RestsAfter, all_after, automatic_after, first_refused_of}
use Rattle.tp_ends.specs.Headline.{comes_by_itself}
use Rattle.tp_ends.specs.Listed.{refused_from}
use Rattle.tp_ends.specs.Calls.{IsRested}
use Rattle.tp_types.proofs.EachLemmas.{each_append, each_as, each_from_all}
use Rattle.tp_machine.specs.Named.{IsStepOf}
use Rattle.tp_types.specs.Each.{Each}

-- ---- undelivered mails are few, as mails are

abbrev AreFewLeft : Machine → Type 0
AreFewLeft m = length m.undelivered ≤ length m.state.mails

left_after : (w : State) (taken : Step) (move : Move) (undelivered : List ℕ) → length undelivered ≤ length w.mails → AreFewLeft (with_new w (state_after w taken move) undelivered)
left_after w taken move undelivered h =
    let more = more_mails w taken move in
    let new = length-range_with_len (length w.mails) (length (state_after w taken move).mails - length w.mails) in
    let whole = length-append undelivered (range_with_len (length w.mails) (length (state_after w taken move).mails - length w.mails)) in
    omega (arith, h, more, new, whole)

fewer_by : (b : Bool) (x : ℕ) (kept : List ℕ) (count : ℕ) → length kept ≤ count → length (if b then x ∷ kept else kept) ≤ suc count
fewer_by true x kept count h = omega (arith, h)
fewer_by false x kept count h = omega (arith, h)

kept_fewer : (test : ℕ → Bool) (xs : List ℕ) → length (filter test xs) ≤ length xs
kept_fewer test [] = omega arith
kept_fewer test (x ∷ xs) = fewer_by (test x) x (filter test xs) (length xs) (kept_fewer test xs)

left_without : (m : Machine) (mail : ℕ) → AreFewLeft m → length (without_number m.undelivered mail) ≤ length m.state.mails
left_without m mail h = omega (arith, h, kept_fewer (λ (other : ℕ). not (other == mail)) m.undelivered)

left_next : (sc : Scenario) (m : Machine) (taken : Step) → AreFewLeft m → AreFewLeft (machine_after sc m taken)
left_next sc m (step.Submit txn) h = left_after m.state (step.Submit txn) (submission sc m.state.actors txn (length m.state.steps)) m.undelivered h
left_next sc m (step.Deliver mail) h = left_after m.state (step.Deliver mail) (delivery sc m.state.actors (slice_get m.state.mails mail)) (without_number m.undelivered mail) (left_without m mail h)
left_next sc m (step.Lose mail) h = left_after m.state (step.Lose mail) (idle_move m.state.actors (what.Lost mail ∷ [])) (without_number m.undelivered mail) (left_without m mail h)
left_next sc m (step.Publish admin) h = left_after m.state (step.Publish admin) (publishes m.state.actors admin) m.undelivered h
left_next sc m (step.Push admin server) h = left_after m.state (step.Push admin server) (pushes m.state.actors admin server) m.undelivered h
left_next sc m (step.Tick by) h = left_after m.state (step.Tick by) (ticks m.state.actors by) m.undelivered h
left_next sc m (step.Revoke cred) h = left_after m.state (step.Revoke cred) (revokes m.state.actors cred) m.undelivered h
left_next sc m (step.Timer txn) h = left_after m.state (step.Timer txn) (times sc m.state.actors txn) m.undelivered h
left_next sc m (step.Crash who None) h = left_after m.state (step.Crash who None) (crashes sc m.state.actors m.state.mails who None) m.undelivered h
left_next sc m (step.Crash who (Some cut)) h = left_after m.state (step.Crash who (Some cut)) (crashes sc m.state.actors m.state.mails who (Some cut)) (without_number m.undelivered cut.mail) (left_without m cut.mail h)
left_next sc m (step.Boot who) h = left_after m.state (step.Boot who) (boots sc m.state.actors who) m.undelivered h

given_left : (sc : Scenario) (m : Machine) (at : ℕ) (steps : List Step) → refused_from sc m at steps ≡ None → AreFewLeft m → AreFewLeft (after_steps sc m steps)
given_left sc m at [] none h = h
given_left sc m at (taken ∷ steps) none h =
    let n = none_refused sc m at taken steps none in
    subst (λ (k : Machine). AreFewLeft (after_steps sc k steps)) (sym (after_allowed sc m taken n.allowed))
    (given_left sc (machine_after sc m taken) (at + 1) steps n.rest (left_next sc m taken h))

-- ---- steps are few

-- steps that name what exists, whose numbers are of 64 bits, and of which there are few
pub record AreSteps (sc : Scenario) (steps : List Step) : Type 0 where
  pub exist : Each (IsStepOf sc) steps
  pub numbered : Each HasNumbers steps
  pub few : length steps ≤ 2 ^ 48

bound_small : (sc : Scenario) (steps : List Step) → is_valid sc ≡ true → AreSteps sc steps → first_refused_of sc steps ≡ None → bound sc (length (after sc steps).undelivered) ≤ 384 * length steps + 2 ^ 40
bound_small sc steps formed are lawful =
    let left : AreFewLeft (after sc steps) = given_left sc (opening sc) 0 steps lawful (omega arith) in
    let sent : length (after sc steps).state.mails ≤ mails_most * length steps = sends_few sc steps formed are.exist in
    let txns = few_txns_valid sc formed in
    let servers = few_servers_valid sc formed in
    let work = work_is_small (length sc.txns) (most_queries sc.txns) (greatest_rounds sc.txns) (length sc.servers) txns (most_queries_valid sc formed) (most_rounds_valid sc formed) servers in
    omega (arith, left, sent, txns, servers, work)

short_run : (sc : Scenario) (steps : List Step) → is_valid sc ≡ true → AreSteps sc steps → first_refused_of sc steps ≡ None → length (all_after sc steps) < 2 ^ 57
short_run sc steps formed are lawful =
    let most = length-automatic_from sc (bound sc (length (after sc steps).undelivered)) 0 (after sc steps) in
    omega (arith, length-append steps (automatic_after sc steps), are.few, most, bound_small sc steps formed are lawful)

-- ---- their numbers are of 64 bits

later_numbered : (taken : Step) → comes_by_itself taken ≡ true → HasNumbers taken
later_numbered (step.Submit txn) h = tt
later_numbered (step.Deliver mail) h = tt
later_numbered (step.Timer txn) h = tt
later_numbered (step.Boot who) h = tt
later_numbered (step.Tick by) h = absurd (cc)
later_numbered (step.Lose mail) h = absurd (cc)
later_numbered (step.Publish admin) h = tt
later_numbered (step.Push admin server) h = tt
later_numbered (step.Revoke cred) h = tt
later_numbered (step.Crash who cut) h = tt

all_numbered : (sc : Scenario) (steps : List Step) → Each HasNumbers steps → Each HasNumbers (all_after sc steps)
all_numbered sc steps numbered =
    let later = automatic_by_themselves sc (bound sc (length (after sc steps).undelivered)) 0 (after sc steps) in
    each_append HasNumbers steps (automatic_after sc steps) numbered
    (each_as (λ (taken : Step). comes_by_itself taken ≡ true) HasNumbers later_numbered (automatic_after sc steps) (each_from_all comes_by_itself (automatic_after sc steps) later))

-- ---- the whole

-- a run that is done and quiet, and of whose history all is told, comes to rest
pub run_rests : (sc : Scenario) (steps : List Step) → is_valid sc ≡ true → AreSteps sc steps → IsRested sc steps → RestsAfter sc steps
run_rests sc steps formed are h =
    let exist = (all_done sc steps formed are.exist h.lawful).exist in
    record {
      lawful = h.lawful;
      quiet = h.quiet;
      trusted = trusted_run sc steps formed are.exist h.lawful h.quiet h.so_far h.whole.ended h.whole.commits;
      few_mails = subst (λ (m : Machine). length m.state.mails ≤ mails_most * length (all_after sc steps)) (sym (final_is sc steps)) (sends_few sc (all_after sc steps) formed exist);
      printable = subst (λ (m : Machine). IsPrintableState sc m.state) (sym (final_is sc steps))
          (always_printable sc (all_after sc steps) formed exist (all_numbered sc steps are.numbered) (short_run sc steps formed are h.lawful));
    }
