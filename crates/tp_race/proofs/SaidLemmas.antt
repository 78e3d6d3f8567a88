-- What the machine knows by its steps: which transactions were submitted, which versions are the newest, and the clock.
use Rattle.std.proofs.Common.{◌≡◌, ℕ, ◌+◌, List, [], ◌∷◌, length, map, slice_get, false, Option, Some, None, is_some, if◌then◌else◌, refl, sym, ap, ◌∙◌, arith}
use Rattle.std.proofs.lemmas.List.Sums.{sum_by-append, sum_by-cons}
use Rattle.std.specs.List.{count_by, sum_by}
use Rattle.tp_coord.specs.State.{Coordinator}
use Rattle.tp_machine.specs.declared.actors.Actors.{Actors}
use Rattle.tp_machine.specs.declared.error.StepError.{StepError}
use Rattle.tp_machine.specs.Machine.{Machine, State, after, after_step, after_steps, boot_of_coordinator, boot_of_server, boots, crash_of_coordinator, crash_of_server, crashes, delivery, machine_after, opening, receipt, refusal, submission_by, to_coordinator, to_server}
use Rattle.tp_machine.specs.Named.{IsAdmin}
use Rattle.tp_machine.specs.Parts.{Part}
use Rattle.tp_model.specs.Credentials.{tick_of_what}
use Rattle.tp_model.specs.Facts.{is_submission_what}
use Rattle.tp_model.specs.Outside.{IsOutside, at_place, is_from_outside, is_from_outside_what, said_by, said_from}
use Rattle.tp_model.specs.Valid.{is_publication_of}
use Rattle.tp_model.specs.Versions.{is_publication, is_publication_what, opening_version}
use Rattle.tp_model.specs.Words.actor
use Rattle.tp_model.specs.Words.step
use Rattle.tp_model.specs.Words.what
use Rattle.tp_model.specs.Words.{Actor, AdminId, Cut, Fact, Mail, Scenario, ServerId, Step, TxnId, What}
use Rattle.tp_offices.specs.Master.{last_of, version_for}
use Rattle.tp_runs.proofs.agreement.Logs.{submitted_count}
use Rattle.tp_runs.proofs.basics.Facts.{before_past, count_submissions}
use Rattle.tp_runs.proofs.runs.Runs.{Holds}
use Rattle.tp_server.specs.State.{Server}
use Rattle.tp_race.proofs.ListLemmas.{one_by, sum_filter}
use Rattle.tp_race.proofs.ScriptLemmas.{ticks_by}
use Rattle.tp_race.specs.WholeRace.{submits}

-- ---- what facts say is what steps say

at_weighs : (g : What → ℕ) (place : ℕ) (whats : List What) → sum_by (λ (fact : Fact). g fact.what) (at_place place whats) ≡ sum_by g whats
at_weighs g place [] = refl
at_weighs g place (w ∷ whats) =
    let later = at_weighs g place whats in
    omega (arith, sum_by-cons (λ (fact : Fact). g fact.what) (record { place = place; what = w }) (at_place place whats), sum_by-cons g w whats, later)

-- what actors' logs say has no weight, and what a step says has the step's
pub record IsTold (sc : Scenario) (g : What → ℕ) (f : Step → ℕ) : Type 0 where
  pub inside : (w : What) → is_from_outside_what w ≡ false → g w ≡ 0
  pub says : (facts : List Fact) (place : ℕ) (taken : Step) → sum_by g (said_by sc facts place taken) ≡ f taken

from_weighs : (sc : Scenario) (g : What → ℕ) (f : Step → ℕ) → IsTold sc g f → (facts : List Fact) (place : ℕ) (steps : List Step) → sum_by (λ (fact : Fact). g fact.what) (said_from sc facts place steps) ≡ sum_by f steps
from_weighs sc g f t facts place [] = refl
from_weighs sc g f t facts place (taken ∷ steps) =
    let here = at_weighs g place (said_by sc facts place taken) in
    let says = t.says facts place taken in
    let later = from_weighs sc g f t facts (place + 1) steps in
    omega (arith, sum_by-append (λ (fact : Fact). g fact.what) (at_place place (said_by sc facts place taken)) (said_from sc facts (place + 1) steps), sum_by-cons f taken steps, here, says, later)

pub told : (sc : Scenario) (g : What → ℕ) (f : Step → ℕ) → IsTold sc g f → (steps : List Step) (facts : List Fact) → IsOutside sc steps facts → sum_by (λ (fact : Fact). g fact.what) facts ≡ sum_by f steps
told sc g f t steps facts h =
    sym (sum_filter (λ (fact : Fact). g fact.what) is_from_outside (λ fact e. t.inside fact.what e) facts)
    ∙ (ap (sum_by (λ (fact : Fact). g fact.what)) h.said ∙ from_weighs sc g f t facts 0 steps)

-- ---- submissions

inside_submission : (txn : TxnId) (w : What) → is_from_outside_what w ≡ false → one_by (is_submission_what txn w) ≡ 0
inside_submission txn (what.Submitted other) e = absurd (cc)
inside_submission txn _ e = refl

says_submission : (sc : Scenario) (txn : TxnId) (facts : List Fact) (place : ℕ) (taken : Step) → sum_by (λ (w : What). one_by (is_submission_what txn w)) (said_by sc facts place taken) ≡ one_by (submits txn taken)
says_submission sc txn facts place (step.Submit other) = omega arith
says_submission sc txn facts place _ = refl

-- a transaction was submitted, by its coordinator, as often as steps did it
pub submitted_by_steps : (sc : Scenario) (w : State) (txn : TxnId) → Holds sc w → count_by (submits txn) w.steps ≡ submitted_count (slice_get w.actors.coordinators txn.0)
submitted_by_steps sc w txn h =
    sym (told sc (λ (x : What). one_by (is_submission_what txn x)) (λ (taken : Step). one_by (submits txn taken))
    (record { inside = inside_submission txn; says = says_submission sc txn }) w.steps w.facts h.outside)
    ∙ (count_submissions txn w.facts ∙ h.agrees.submitted txn)

-- ---- publications

inside_publication : (admin : AdminId) (w : What) → is_from_outside_what w ≡ false → one_by (is_publication_what admin w) ≡ 0
inside_publication admin (what.Published other version) e = absurd (cc)
inside_publication admin _ e = refl

says_publication : (sc : Scenario) (admin : AdminId) (facts : List Fact) (place : ℕ) (taken : Step)
    → sum_by (λ (w : What). one_by (is_publication_what admin w)) (said_by sc facts place taken) ≡ one_by (is_publication_of admin taken)
says_publication sc admin facts place (step.Publish other) = omega arith
says_publication sc admin facts place _ = refl

-- the newest version is as many after the opening one as steps published
pub newest_by_steps : (sc : Scenario) (w : State) (admin : AdminId) → Holds sc w → IsAdmin sc admin → (version_for w.actors.master.newest admin).0 ≡ (opening_version sc admin).0 + count_by (is_publication_of admin) w.steps
newest_by_steps sc w admin h exists =
    h.trusts.master.newest_is admin exists
    ∙ ap (λ (n : ℕ). (opening_version sc admin).0 + n)
    (ap (count_by (is_publication admin)) (before_past (length w.steps) w.facts h.agrees.past)
    ∙ told sc (λ (x : What). one_by (is_publication_what admin x)) (λ (taken : Step). one_by (is_publication_of admin taken))
    (record { inside = inside_publication admin; says = says_publication sc admin }) w.steps w.facts h.outside)

-- ---- the clock

inside_tick : (w : What) → is_from_outside_what w ≡ false → tick_of_what w ≡ 0
inside_tick (what.Ticked by) e = absurd (cc)
inside_tick _ e = refl

says_tick : (sc : Scenario) (facts : List Fact) (place : ℕ) (taken : Step) → sum_by tick_of_what (said_by sc facts place taken) ≡ ticks_by taken
says_tick sc facts place (step.Tick by) = omega arith
says_tick sc facts place _ = refl

-- the clock is the opening one and all ticks
pub clock_by_steps : (sc : Scenario) (w : State) → Holds sc w → w.actors.authority.clock ≡ sc.clock + sum_by ticks_by w.steps
clock_by_steps sc w h =
    h.trusts.authority.clock_is
    ∙ ap (λ (n : ℕ). sc.clock + n)
    (ap (sum_by (λ (fact : Fact). tick_of_what fact.what)) (before_past (length w.steps) w.facts h.agrees.past)
    ∙ told sc tick_of_what ticks_by (record { inside = inside_tick; says = says_tick sc }) w.steps w.facts h.outside)

-- ---- the last version of each administrator stays

server_takes_last : (sc : Scenario) (actors : Actors) (mail : Mail) (at : ServerId) (found : Option (Part Server)) → (to_server sc actors mail at found).actors.master ≡ actors.master
server_takes_last sc actors mail at None = refl
server_takes_last sc actors mail at (Some part) = refl

coordinator_takes_last : (sc : Scenario) (actors : Actors) (mail : Mail) (txn : TxnId) (found : Option (Part Coordinator)) → (to_coordinator sc actors mail txn found).actors.master ≡ actors.master
coordinator_takes_last sc actors mail txn None = refl
coordinator_takes_last sc actors mail txn (Some part) = refl

receipt_last : (sc : Scenario) (actors : Actors) (mail : Mail) (to : Actor) → (receipt sc actors mail to).actors.master ≡ actors.master
receipt_last sc actors mail (actor.Server at) = server_takes_last sc actors mail at (slice_get actors.servers at.0)
receipt_last sc actors mail (actor.Coordinator txn) = coordinator_takes_last sc actors mail txn (slice_get actors.coordinators txn.0)
receipt_last sc actors mail actor.Authority = refl
receipt_last sc actors mail actor.Master = refl

delivery_last : (sc : Scenario) (actors : Actors) (found : Option Mail) → (delivery sc actors found).actors.master ≡ actors.master
delivery_last sc actors None = refl
delivery_last sc actors (Some mail) = receipt_last sc actors mail mail.letter.to

submission_last : (sc : Scenario) (actors : Actors) (txn : TxnId) (place : ℕ) (found : Option (Part Coordinator)) → (submission_by sc actors txn place found).actors.master ≡ actors.master
submission_last sc actors txn place None = refl
submission_last sc actors txn place (Some part) = refl

server_crash_last : (sc : Scenario) (actors : Actors) (mails : List Mail) (at : ServerId) (cut : Option Cut) (found : Option (Part Server)) → (crash_of_server sc actors mails at cut found).actors.master ≡ actors.master
server_crash_last sc actors mails at cut None = refl
server_crash_last sc actors mails at cut (Some part) = refl

coordinator_crash_last : (sc : Scenario) (actors : Actors) (mails : List Mail) (txn : TxnId) (cut : Option Cut) (found : Option (Part Coordinator)) → (crash_of_coordinator sc actors mails txn cut found).actors.master ≡ actors.master
coordinator_crash_last sc actors mails txn cut None = refl
coordinator_crash_last sc actors mails txn cut (Some part) = refl

crash_last : (sc : Scenario) (actors : Actors) (mails : List Mail) (who : Actor) (cut : Option Cut) → (crashes sc actors mails who cut).actors.master ≡ actors.master
crash_last sc actors mails (actor.Server at) cut = server_crash_last sc actors mails at cut (slice_get actors.servers at.0)
crash_last sc actors mails (actor.Coordinator txn) cut = coordinator_crash_last sc actors mails txn cut (slice_get actors.coordinators txn.0)
crash_last sc actors mails actor.Authority cut = refl
crash_last sc actors mails actor.Master cut = refl

server_boot_last : (sc : Scenario) (actors : Actors) (at : ServerId) (found : Option (Part Server)) → (boot_of_server sc actors at found).actors.master ≡ actors.master
server_boot_last sc actors at None = refl
server_boot_last sc actors at (Some part) = refl

coordinator_boot_last : (sc : Scenario) (actors : Actors) (txn : TxnId) (found : Option (Part Coordinator)) → (boot_of_coordinator sc actors txn found).actors.master ≡ actors.master
coordinator_boot_last sc actors txn None = refl
coordinator_boot_last sc actors txn (Some part) = refl

boot_last : (sc : Scenario) (actors : Actors) (who : Actor) → (boots sc actors who).actors.master ≡ actors.master
boot_last sc actors (actor.Server at) = server_boot_last sc actors at (slice_get actors.servers at.0)
boot_last sc actors (actor.Coordinator txn) = coordinator_boot_last sc actors txn (slice_get actors.coordinators txn.0)
boot_last sc actors actor.Authority = refl
boot_last sc actors actor.Master = refl

last_stays : (sc : Scenario) (m : Machine) (taken : Step) → (machine_after sc m taken).state.actors.master.last ≡ m.state.actors.master.last
last_stays sc m (step.Submit txn) = ap (λ held. held.last) (submission_last sc m.state.actors txn (length m.state.steps) (slice_get m.state.actors.coordinators txn.0))
last_stays sc m (step.Deliver mail) = ap (λ held. held.last) (delivery_last sc m.state.actors (slice_get m.state.mails mail))
last_stays sc m (step.Lose mail) = refl
last_stays sc m (step.Publish admin) = refl
last_stays sc m (step.Push admin server) = refl
last_stays sc m (step.Tick by) = refl
last_stays sc m (step.Revoke cred) = refl
last_stays sc m (step.Timer txn) = refl
last_stays sc m (step.Crash who None) = ap (λ held. held.last) (crash_last sc m.state.actors m.state.mails who None)
last_stays sc m (step.Crash who (Some cut)) = ap (λ held. held.last) (crash_last sc m.state.actors m.state.mails who (Some cut))
last_stays sc m (step.Boot who) = ap (λ held. held.last) (boot_last sc m.state.actors who)

step_last : (sc : Scenario) (m : Machine) (taken : Step) (why : Option StepError) → (if is_some why then m else machine_after sc m taken).state.actors.master.last ≡ m.state.actors.master.last
step_last sc m taken None = last_stays sc m taken
step_last sc m taken (Some why) = refl

steps_last : (sc : Scenario) (m : Machine) (steps : List Step) → (after_steps sc m steps).state.actors.master.last ≡ m.state.actors.master.last
steps_last sc m [] = refl
steps_last sc m (taken ∷ steps) = steps_last sc (after_step sc m taken) steps ∙ step_last sc m taken (refusal m.state taken)

-- the master knows the last version of each library
pub last_by_steps : (sc : Scenario) (steps : List Step) → (after sc steps).state.actors.master.last ≡ map last_of sc.admins
last_by_steps sc steps = steps_last sc (opening sc) steps
