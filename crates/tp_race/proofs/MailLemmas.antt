-- Where no mail is lost and nobody crashes, each mail that was sent is either undelivered or was delivered once.
use Rattle.std.proofs.Common.{◌≡◌, ℕ, zero, suc, ◌+◌, ◌-◌, ◌<◌, ◌≤◌, ◌==◌, nat_lt, List, [], ◌∷◌, length, not, slice_get, Bool, true, false, cond, Some, None, if◌then◌else◌, refl, sym, ap, subst, ◌∙◌, arith}
use Rattle.std.proofs.lemmas.Bool.{and_parts}
use Rattle.std.proofs.lemmas.Bool.Decides.{nat_tests}
use Rattle.std.proofs.lemmas.List.{length-append}
use Rattle.std.proofs.lemmas.List.Sums.{sum_by-cons}
use Rattle.std.specs.List.{count_by, list_all, range_with_len}
use Rattle.tp_auto.proofs.AutoLemmas.{after_allowed}
use Rattle.tp_ends.proofs.ListedRun.{none_refused}
use Rattle.tp_ends.specs.Listed.{refused_from}
use Rattle.tp_machine.specs.declared.error.StepError.{StepError}
use Rattle.tp_machine.specs.declared.error.StepError.TheVariants as error
use Rattle.tp_machine.specs.Machine.{Machine, Move, State, after_steps, delivery, machine_after, mails_of, publishes, pushes, refusal, revokes, state_after, submission, ticks, times as fires, with_new, without_number}
use Rattle.tp_model.specs.Words.step
use Rattle.tp_model.specs.Words.{Scenario, Step}
use Rattle.tp_wire.proofs.ListLemmas.{times-append}
use Rattle.tp_wire.specs.History.{one_if, times}
use Rattle.tp_race.proofs.ListLemmas.{one_by}
use Rattle.tp_race.specs.WholeRace.{delivers, is_race_step}

-- ---- numbers

one_below : (mail low : ℕ) → one_if (low == mail) + one_if (nat_lt mail low) ≡ one_if (nat_lt mail (low + 1))
one_below mail low = by_test (low == mail) (nat_lt mail low) (nat_lt mail (low + 1)) refl refl refl
  where
    by_test : (is less more : Bool) → (low == mail) ≡ is → nat_lt mail low ≡ less → nat_lt mail (low + 1) ≡ more → one_if is + one_if less ≡ one_if more
    by_test true true more e f g = absurd (let both : mail < low = grind (arith, nat_tests) in let same : low ≡ mail = grind (arith, nat_tests) in omega (arith, both, same))
    by_test true false true e f g = refl
    by_test true false false e f g = absurd (let over : low + 1 ≤ mail = grind (arith, nat_tests) in let same : low ≡ mail = grind (arith, nat_tests) in omega (arith, over, same))
    by_test false true true e f g = refl
    by_test false true false e f g = absurd (let over : low + 1 ≤ mail = grind (arith, nat_tests) in let under : mail < low = grind (arith, nat_tests) in omega (arith, over, under))
    by_test false false true e f g = absurd (let under : mail < low + 1 = grind (arith, nat_tests) in let over : low ≤ mail = grind (arith, nat_tests) in let apart : low < mail = grind (arith, nat_tests) in omega (arith, under, apart))
    by_test false false false e f g = refl

times_range : (mail low count : ℕ) → times mail (range_with_len low count) + one_if (nat_lt mail low) ≡ one_if (nat_lt mail (low + count))
times_range mail low zero = let same : one_if (nat_lt mail low) ≡ one_if (nat_lt mail (low + 0)) = ap (λ (n : ℕ). one_if (nat_lt mail n)) (omega arith) in omega (arith, same)
times_range mail low (suc count) =
    let rest = times_range mail (low + 1) count in
    let place : low + 1 + count ≡ low + suc count = omega arith in
    let all : one_if (nat_lt mail (low + 1 + count)) ≡ one_if (nat_lt mail (low + suc count)) = ap (λ (n : ℕ). one_if (nat_lt mail n)) place in
    omega (arith, rest, all, one_below mail low)

times_cond : (mail : ℕ) (b : Bool) (n : ℕ) (rest : List ℕ) → times mail (cond b (n ∷ rest) rest) ≡ cond b (one_if (n == mail)) 0 + times mail rest
times_cond mail true n rest = refl
times_cond mail false n rest = omega arith

-- a number that was taken out is gone, and the others stay
gone : (mail : ℕ) (numbers : List ℕ) → times mail (without_number numbers mail) ≡ 0
gone mail [] = refl
gone mail (n ∷ numbers) =
    let here = times_cond mail (not (n == mail)) n (without_number numbers mail) in
    let none = off (n == mail) in
    let later = gone mail numbers in
    omega (arith, here, none, later)
  where
    off : (b : Bool) → cond (not b) (one_if b) 0 ≡ 0
    off true = refl
    off false = refl

kept : (mail number : ℕ) (numbers : List ℕ) → (number == mail) ≡ false → times mail (without_number numbers number) ≡ times mail numbers
kept mail number [] apart = refl
kept mail number (n ∷ numbers) apart =
    let here = times_cond mail (not (n == number)) n (without_number numbers number) in
    let stays = on (n == number) (n == mail) (λ same. other n same) in
    let later = kept mail number numbers apart in
    omega (arith, here, stays, later)
  where
    other : (n : ℕ) → (n == number) ≡ true → (n == mail) ≡ false
    other n same = let is : n ≡ number = grind (arith, nat_tests) in subst (λ (k : ℕ). (k == mail) ≡ false) (sym is) apart

    on : (b c : Bool) → (b ≡ true → c ≡ false) → cond (not b) (one_if c) 0 ≡ one_if c
    on true c h = sym (ap one_if (h refl))
    on false c h = refl

-- ---- a step

-- the mail was delivered so often, and with what is undelivered this is once where it was sent, and else never
pub record IsOnce (mail count : ℕ) (m : Machine) : Type 0 where
  pub once : count + times mail m.undelivered ≡ one_if (nat_lt mail (length m.state.mails))

-- the mails that a step sends are undelivered
sent_more : (mail : ℕ) (w : State) (taken : Step) (move : Move) (undelivered : List ℕ)
    → times mail (with_new w (state_after w taken move) undelivered).undelivered + one_if (nat_lt mail (length w.mails)) ≡ times mail undelivered + one_if (nat_lt mail (length (state_after w taken move).mails))
sent_more mail w taken move undelivered =
    let next = state_after w taken move in
    let more = length next.mails - length w.mails in
    let grown : length w.mails + more ≡ length next.mails = omega (arith, length-append w.mails (mails_of (length w.steps) (length w.mails) move.letters)) in
    let all : one_if (nat_lt mail (length w.mails + more)) ≡ one_if (nat_lt mail (length next.mails)) = ap (λ (n : ℕ). one_if (nat_lt mail n)) grown in
    omega (arith, times-append mail undelivered (range_with_len (length w.mails) more), times_range mail (length w.mails) more, all)

-- after a step that delivers nothing
does_once : (mail count : ℕ) (m : Machine) (taken : Step) (move : Move) → IsOnce mail count m → IsOnce mail (count + 0) (with_new m.state (state_after m.state taken move) m.undelivered)
does_once mail count m taken move h =
    let was = h.once in
    record { once = omega (arith, was, sent_more mail m.state taken move m.undelivered) }

was_sent : (mails mail : ℕ) (why : StepError) → (if nat_lt mail mails then None else Some why) ≡ None → one_if (nat_lt mail mails) ≡ 1
was_sent mails mail why e = by_test (nat_lt mail mails) e
  where
    by_test : (b : Bool) → (if b then None else Some why) ≡ None → one_if b ≡ 1
    by_test true f = refl
    by_test false f = absurd (cc)

delivered_once : (sc : Scenario) (mail count : ℕ) (m : Machine) (other : ℕ) → refusal m.state (step.Deliver other) ≡ None → count + one_by (delivers mail (step.Deliver other)) ≤ 1 → IsOnce mail count m
    → IsOnce mail (count + one_by (delivers mail (step.Deliver other))) (machine_after sc m (step.Deliver other))
delivered_once sc mail count m other allowed most h = by_test (other == mail) refl
  where
    was : count + times mail m.undelivered ≡ one_if (nat_lt mail (length m.state.mails))
    was = h.once

    more : times mail (machine_after sc m (step.Deliver other)).undelivered + one_if (nat_lt mail (length m.state.mails)) ≡ times mail (without_number m.undelivered other) + one_if (nat_lt mail (length (machine_after sc m (step.Deliver other)).state.mails))
    more = sent_more mail m.state (step.Deliver other) (delivery sc m.state.actors (slice_get m.state.mails other)) (without_number m.undelivered other)

    by_test : (b : Bool) → (other == mail) ≡ b → IsOnce mail (count + one_by (delivers mail (step.Deliver other))) (machine_after sc m (step.Deliver other))
    by_test true e =
        let is : other ≡ mail = grind (arith, nat_tests) in
        let one : one_by (other == mail) ≡ 1 = ap one_by e in
        let none : times mail (without_number m.undelivered other) ≡ 0 = ap (λ (k : ℕ). times mail (without_number m.undelivered k)) is ∙ gone mail m.undelivered in
        let sent : one_if (nat_lt mail (length m.state.mails)) ≡ 1 = subst (λ (k : ℕ). one_if (nat_lt k (length m.state.mails)) ≡ 1) is (was_sent (length m.state.mails) other (error.NoSuchMail other (length m.state.mails)) allowed) in
        record { once = omega (arith, was, more, one, none, sent, most) }
    by_test false e =
        let nothing : one_by (other == mail) ≡ 0 = ap one_by e in
        record { once = omega (arith, was, more, nothing, kept mail other m.undelivered e) }

pub once_next : (sc : Scenario) (mail count : ℕ) (m : Machine) (taken : Step) → refusal m.state taken ≡ None → is_race_step taken ≡ true → count + one_by (delivers mail taken) ≤ 1 → IsOnce mail count m
    → IsOnce mail (count + one_by (delivers mail taken)) (machine_after sc m taken)
once_next sc mail count m (step.Submit txn) allowed race most h = does_once mail count m (step.Submit txn) (submission sc m.state.actors txn (length m.state.steps)) h
once_next sc mail count m (step.Deliver other) allowed race most h = delivered_once sc mail count m other allowed most h
once_next sc mail count m (step.Publish admin) allowed race most h = does_once mail count m (step.Publish admin) (publishes m.state.actors admin) h
once_next sc mail count m (step.Push admin server) allowed race most h = does_once mail count m (step.Push admin server) (pushes m.state.actors admin server) h
once_next sc mail count m (step.Tick by) allowed race most h = does_once mail count m (step.Tick by) (ticks m.state.actors by) h
once_next sc mail count m (step.Revoke cred) allowed race most h = does_once mail count m (step.Revoke cred) (revokes m.state.actors cred) h
once_next sc mail count m (step.Timer txn) allowed race most h = does_once mail count m (step.Timer txn) (fires sc m.state.actors txn) h
once_next sc mail count m (step.Lose other) allowed race most h = absurd (cc)
once_next sc mail count m (step.Crash who cut) allowed race most h = absurd (cc)
once_next sc mail count m (step.Boot who) allowed race most h = absurd (cc)

-- ---- steps of which none is refused

pub once_done : (sc : Scenario) (mail count : ℕ) (m : Machine) (at : ℕ) (steps : List Step) → refused_from sc m at steps ≡ None → list_all is_race_step steps ≡ true → count + count_by (delivers mail) steps ≤ 1 → IsOnce mail count m
    → IsOnce mail (count + count_by (delivers mail) steps) (after_steps sc m steps)
once_done sc mail count m at [] none race most h = subst (λ (n : ℕ). IsOnce mail n m) (omega arith) h
once_done sc mail count m at (taken ∷ steps) none race most h =
    let first = none_refused sc m at taken steps none in
    let kinds = and_parts (is_race_step taken) (list_all is_race_step steps) race in
    let cons : count_by (delivers mail) (taken ∷ steps) ≡ one_by (delivers mail taken) + count_by (delivers mail) steps = sum_by-cons (λ (s : Step). one_by (delivers mail s)) taken steps in
    let next = once_next sc mail count m taken first.allowed kinds.0 (omega (arith, most, cons)) h in
    let rest = once_done sc mail (count + one_by (delivers mail taken)) (machine_after sc m taken) (at + 1) steps first.rest kinds.1 (omega (arith, most, cons)) next in
    let count_is : count + one_by (delivers mail taken) + count_by (delivers mail) steps ≡ count + count_by (delivers mail) (taken ∷ steps) = omega (arith, cons) in
    subst (λ (k : Machine). IsOnce mail (count + count_by (delivers mail) (taken ∷ steps)) (after_steps sc k steps)) (sym (after_allowed sc m taken first.allowed))
    (subst (λ (n : ℕ). IsOnce mail n (after_steps sc (machine_after sc m taken) steps)) count_is rest)
