-- Epochs beside crashes: of an actor as many crashes are noted as it was booted, and one more while it is down. So an
-- epoch that was begun after a place is greater than the crashes before that place, and one that is over has a crash
-- since.
use Rattle.std.proofs.Common.{Bool, List, None, Option, Some, ap, arith, false, is_none, is_some, length, refl, true, ℕ, ◌++◌, ◌+◌, ◌<◌, ◌≡◌, ◌≤◌}
use Rattle.std.proofs.lemmas.Bool.{true_from_ne_false}
use Rattle.std.proofs.lemmas.Option.{slice_get_within}
use Rattle.tp_model.specs.Facts.{before}
use Rattle.tp_model.specs.Words.step
use Rattle.tp_model.specs.Words.{Actor, Fact, Record, Step, TxnId, What}
use Rattle.tp_recover.specs.Log.{boots_in, epoch_in}
use Rattle.tp_machine.specs.Machine.{facts_of}
use Rattle.tp_actor_log.specs.Records.{log_with}
use Rattle.tp_machine.specs.Parts.{Part}
use Rattle.tp_runs.proofs.ages.World.{IsSubmission, found_still}
use Rattle.tp_runs.proofs.agreement.Logs.{once}
use Rattle.tp_runs.proofs.basics.Crashes.{all_before, crashed_from, crashes, crashes_grow, fewer_before, noted}
use Rattle.tp_runs.proofs.basics.Facts.{Grows}
use Rattle.tp_recover.proofs.LogLemmas.{boot_of, boots_push}

-- ---- counts

-- as many crashes as boots, and one more while the actor is down
abbrev pub IsCounted : {S : Type 0} → (Actor → Bool) → List Fact → Part S → Type 0
IsCounted who facts part = crashes who facts ≡ boots_in part.log + once (is_none part.up)

-- the boot that a record is, if one is forced
abbrev pub boots_by : Option Record → ℕ
boots_by None = 0
boots_by (Some forced) = boot_of forced

boots_with : (kept : List Record) (append : Option Record) → boots_in (log_with kept append) ≡ boots_in kept + boots_by append
boots_with kept None = omega arith
boots_with kept (Some forced) = boots_push kept forced

-- an act notes a crash where the actor goes down, and forces a boot where it comes up
pub counted_act : {S : Type 0} (who : Actor → Bool) (facts : List Fact) (place : ℕ) (happened : List What) (part : Part S) (now : Option S) (append : Option Record) → IsCounted who facts part
    → noted who happened + once (is_none part.up) ≡ boots_by append + once (is_none now)
    → IsCounted who (facts ++ facts_of place happened) (record { up = now; log = log_with part.log append })
counted_act who facts place happened part now append h even = omega (arith, h, even, crashes_grow who facts place happened, boots_with part.log append)

-- where the actor does nothing and no crash of it is noted
pub counted_stays : {S : Type 0} (who : Actor → Bool) (facts : List Fact) (place : ℕ) (happened : List What) (part : Part S) → IsCounted who facts part → noted who happened ≡ 0
    → IsCounted who (facts ++ facts_of place happened) part
counted_stays who facts place happened part h none = omega (arith, h, none, crashes_grow who facts place happened)

-- ---- epochs

-- the epoch was begun after the transaction was submitted: it is greater than the crashes up to that place
pub record IsSince (steps : List Step) (facts : List Fact) (txn : TxnId) (who : Actor → Bool) (epoch : ℕ) : Type 0 where
  pub place : ℕ
  pub submitted : IsSubmission steps txn place
  pub since : crashes who (before (place + 1) facts) < epoch

-- an epoch stays so as steps and facts are added
pub since_stays : (steps more : List Step) (facts now : List Fact) (txn : TxnId) (who : Actor → Bool) (epoch : ℕ) → Grows facts now (length steps) → IsSince steps facts txn who epoch
    → IsSince (steps ++ more) now txn who epoch
since_stays steps more facts now txn who epoch g h =
    let within : h.place < length steps = slice_get_within steps h.place (step.Submit txn) h.submitted in
    let same : crashes who (before (h.place + 1) now) ≡ crashes who (before (h.place + 1) facts) = ap (crashes who) (g.same (h.place + 1) (omega (arith, within))) in
    let since = h.since in
    record { place = h.place; submitted = found_still steps more h.place (step.Submit txn) h.submitted; since = omega (arith, same, since) }

pub is_up : {S : Type 0} (up : Option S) (s : S) → up ≡ Some s → once (is_none up) ≡ 0
is_up None s e = absurd (cc)
is_up (Some t) s e = refl

-- the present epoch of an actor that is up was begun after every submission so far
pub since_made : {S : Type 0} (steps : List Step) (facts : List Fact) (txn : TxnId) (who : Actor → Bool) (part : Part S) (s : S) (place : ℕ) → IsCounted who facts part → part.up ≡ Some s
    → IsSubmission steps txn place → IsSince steps facts txn who (epoch_in part.log)
since_made steps facts txn who part s place h up submitted =
    record { place = place; submitted = submitted; since = omega (arith, h, is_up part.up s up, fewer_before who (place + 1) facts) }

-- an epoch that is over, of an actor that is up, has a crash since the submission
pub crashed_since : {S : Type 0} (steps : List Step) (facts : List Fact) (txn : TxnId) (who : Actor → Bool) (part : Part S) (s : S) (epoch : ℕ) → IsCounted who facts part → part.up ≡ Some s
    → (h : IsSince steps facts txn who epoch) → epoch < epoch_in part.log → crashed_from who (h.place + 1) facts ≡ true
crashed_since steps facts txn who part s epoch counted up h over =
    let since = h.since in
    true_from_ne_false (crashed_from who (h.place + 1) facts)
    (λ none. omega (arith, counted, is_up part.up s up, since, over, all_before who (h.place + 1) facts none))

-- an actor is up, and in an epoch
pub record IsInEpoch {S : Type 0} (part : Part S) (epoch : ℕ) : Type 0 where
  pub up : is_some part.up ≡ true
  pub epoch_is : epoch ≡ epoch_in part.log

in_epoch : (up : Bool) (crashed boots epoch : ℕ) → crashed ≡ boots + once up → crashed < epoch → epoch ≤ boots + 1 → (up ≡ false) × (epoch ≡ boots + 1)
in_epoch true crashed boots epoch counted since past = absurd (omega (arith, counted, since, past))
in_epoch false crashed boots epoch counted since past = (refl, omega (arith, counted, since, past))

up_if : {A : Type 0} (found : Option A) → is_none found ≡ false → is_some found ≡ true
up_if None e = absurd (cc)
up_if (Some x) e = refl

-- where an actor has not crashed since the submission it is up, and in the epoch
pub never_crashed : {S : Type 0} (steps : List Step) (facts : List Fact) (txn : TxnId) (who : Actor → Bool) (part : Part S) (epoch : ℕ) → IsCounted who facts part → (h : IsSince steps facts txn who epoch)
    → epoch ≤ epoch_in part.log → crashed_from who (h.place + 1) facts ≡ false → IsInEpoch part epoch
never_crashed steps facts txn who part epoch counted h past none =
    let all = all_before who (h.place + 1) facts none in
    let since = h.since in
    let is = in_epoch (is_none part.up) (crashes who facts) (boots_in part.log) epoch counted (omega (arith, all, since)) past in
    record { up = up_if part.up is.0; epoch_is = is.1 }
