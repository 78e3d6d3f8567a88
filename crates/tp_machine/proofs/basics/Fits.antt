-- Records that a log takes, and how many actors there are.
use Rattle.std.proofs.Common.{◌≡◌, ℕ, zero, suc, List, [], ◌∷◌, ◌++◌, length, map, slice_get, slice_set, Option, None, Some, IfSome, Bool, true, false, if◌then◌else◌, refl, sym, ap, subst, ◌∙◌}
use Rattle.std.specs.Option.{option_or}
use Rattle.std.proofs.lemmas.Bool.{eqb-true}
use Rattle.std.proofs.lemmas.List.{length-map}
use Rattle.std.proofs.lemmas.List.FromFn.{length-map-range_with_len}
use Rattle.tp_coord.specs.Opened as coord
use Rattle.tp_coord.specs.State.{Coordinator}
use Rattle.tp_model.specs.Words.{Actor, Cut, Mail, Record, Scenario, ServerId, Step, TxnId}
use Rattle.tp_model.specs.Words.actor
use Rattle.tp_model.specs.Words.step
use Rattle.tp_server.specs.Opened as server
use Rattle.tp_server.specs.State.{Server}
use Rattle.tp_types.specs.Each.{Each}
use Rattle.tp_machine.specs.declared.actors.Actors.{Actors}
use Rattle.tp_machine.specs.Fits.{FitLogs, HasShortLog, received}
use Rattle.tp_actor_log.specs.Records.{FitsLog, log_with}
use Rattle.tp_machine.specs.declared.error.StepError.TheVariants as error
use Rattle.tp_coord.specs.Row.{coordinator_row}
use Rattle.tp_server.specs.Row.{server_row}
use Rattle.tp_machine.specs.Named.{IsStepOf}
use Rattle.tp_machine.specs.Machine.{Machine, coordinator_forces, coordinator_takes_up, same_actor, sent_elsewhere, server_forces, server_takes_up, boot_of_coordinator, boot_of_server, boots, crash_of_coordinator, crash_of_server, crashes, delivery, machine_after, missing_mail, opened_actors, opened_part, receipt, refusal, State, submission_by, to_coordinator, to_server, is_part_down}
use Rattle.tp_machine.specs.Parts.{Part}
use Rattle.tp_machine.specs.WorldView.{HasAllActors}
use Rattle.tp_machine.specs.mirrors.Acts.{SameUp}

-- ---- records

last_of : {A : Type 0} (P : A → Type 0) (xs : List A) (x : A) → Each P (xs ++ x ∷ []) → P x
last_of P [] x h = h.0
last_of P (first ∷ xs) x h = last_of P xs x h.1

-- what was appended is not too long where nothing on the log is
pub appended_fits : (kept : List Record) (append : Option Record) → Each FitsLog (log_with kept append) → IfSome append FitsLog
appended_fits kept None h = tt
appended_fits kept (Some forced) h = last_of FitsLog kept forced h

-- what was put into a list has what each member has
pub put_has : {A : Type 0} (P : A → Type 0) (xs : List A) (n : ℕ) (old new : A) → slice_get xs n ≡ Some old → Each P (slice_set xs n new) → P new
put_has P [] zero old new found h = absurd cc
put_has P [] (suc n) old new found h = absurd cc
put_has P (x ∷ xs) zero old new found h = h.0
put_has P (x ∷ xs) (suc n) old new found h = put_has P xs n old new found h.1

-- the record that a receipt forces is not too long where nothing on the log is after it
pub server_forces_fit : (sc : Scenario) (at : ServerId) (part : Part Server) (mail : Mail) (up : Option Server) → HasShortLog (server_takes_up sc at part mail up).part → IfSome (server_forces sc up mail) FitsLog
server_forces_fit sc at part mail None h = tt
server_forces_fit sc at part mail (Some s) h = appended_fits part.log (server_row sc s mail).reaction.append h

pub coordinator_forces_fit : (sc : Scenario) (part : Part Coordinator) (mail : Mail) (up : Option Coordinator) → HasShortLog (coordinator_takes_up sc part mail up).part → IfSome (coordinator_forces sc up mail) FitsLog
coordinator_forces_fit sc part mail None h = tt
coordinator_forces_fit sc part mail (Some c) h = appended_fits part.log (coordinator_row sc c mail).reaction.append h

-- ---- whose mail it is

same_actor_is : (one other : Actor) → same_actor one other ≡ true → one ≡ other
same_actor_is (actor.Server one) (actor.Server other) e = ap (λ (n : ℕ). actor.Server (record { 0 = n })) (eqb-true one.0 other.0 e)
same_actor_is (actor.Coordinator one) (actor.Coordinator other) e = ap (λ (n : ℕ). actor.Coordinator (record { 0 = n })) (eqb-true one.0 other.0 e)
same_actor_is actor.Master actor.Master e = refl
same_actor_is actor.Authority actor.Authority e = refl
same_actor_is (actor.Server one) (actor.Coordinator other) e = absurd cc
same_actor_is (actor.Server one) actor.Master e = absurd cc
same_actor_is (actor.Server one) actor.Authority e = absurd cc
same_actor_is (actor.Coordinator one) (actor.Server other) e = absurd cc
same_actor_is (actor.Coordinator one) actor.Master e = absurd cc
same_actor_is (actor.Coordinator one) actor.Authority e = absurd cc
same_actor_is actor.Master (actor.Server other) e = absurd cc
same_actor_is actor.Master (actor.Coordinator other) e = absurd cc
same_actor_is actor.Master actor.Authority e = absurd cc
same_actor_is actor.Authority (actor.Server other) e = absurd cc
same_actor_is actor.Authority (actor.Coordinator other) e = absurd cc
same_actor_is actor.Authority actor.Master e = absurd cc

not_elsewhere : (who : Actor) (number : ℕ) (mail : Mail) (b : Bool) → same_actor mail.letter.to who ≡ b → (if b then None else Some (error.NotItsMail number)) ≡ None → mail.letter.to ≡ who
not_elsewhere who number mail true e none = same_actor_is mail.letter.to who e
not_elsewhere who number mail false e none = absurd cc

-- a receipt in which an actor may crash is its own
pub own_receipt : (sc : Scenario) (actors : Actors) (who : Actor) (number : ℕ) (found : Option Mail) (mail : Mail) → found ≡ Some mail → sent_elsewhere who number found ≡ None
    → FitLogs (delivery sc actors found).actors → FitLogs (receipt sc actors mail who).actors
own_receipt sc actors who number found mail e its fits =
    let to : mail.letter.to ≡ who = not_elsewhere who number mail (same_actor mail.letter.to who) refl (subst (λ (o : Option Mail). sent_elsewhere who number o ≡ None) e its) in
    subst (λ (a : Actor). FitLogs (receipt sc actors mail a).actors) to (subst (λ (o : Option Mail). FitLogs (delivery sc actors o).actors) e fits)

-- ---- how many actors there are

length_set : {A : Type 0} (xs : List A) (n : ℕ) (x : A) → length (slice_set xs n x) ≡ length xs
length_set [] zero x = refl
length_set [] (suc n) x = refl
length_set (y ∷ xs) zero x = refl
length_set (y ∷ xs) (suc n) x = ap suc (length_set xs n x)

pub all_opened : (sc : Scenario) → HasAllActors sc (opened_actors sc)
all_opened sc = record {
  servers = length-map-range_with_len (λ (n : ℕ). opened_part (server.opening sc (record { 0 = n }))) 0 (length sc.servers);
  coordinators = length-map-range_with_len (λ (n : ℕ). opened_part (coord.idle sc (record { 0 = n }))) 0 (length sc.txns);
}

server_put : (sc : Scenario) (actors : Actors) (n : ℕ) (part : Part Server) → HasAllActors sc actors → HasAllActors sc (record actors { servers = slice_set actors.servers n part })
server_put sc actors n part h = record { servers = length_set actors.servers n part ∙ h.servers; coordinators = h.coordinators }

coordinator_put : (sc : Scenario) (actors : Actors) (n : ℕ) (part : Part Coordinator) → HasAllActors sc actors → HasAllActors sc (record actors { coordinators = slice_set actors.coordinators n part })
coordinator_put sc actors n part h = record { servers = h.servers; coordinators = length_set actors.coordinators n part ∙ h.coordinators }

at_server : (sc : Scenario) (actors : Actors) (mail : Mail) (at : ServerId) (found : Option (Part Server)) → HasAllActors sc actors → HasAllActors sc (to_server sc actors mail at found).actors
at_server sc actors mail at None h = h
at_server sc actors mail at (Some part) h = server_put sc actors at.0 _ h

at_coordinator : (sc : Scenario) (actors : Actors) (mail : Mail) (txn : TxnId) (found : Option (Part Coordinator)) → HasAllActors sc actors → HasAllActors sc (to_coordinator sc actors mail txn found).actors
at_coordinator sc actors mail txn None h = h
at_coordinator sc actors mail txn (Some part) h = coordinator_put sc actors txn.0 _ h

at_actor : (sc : Scenario) (actors : Actors) (mail : Mail) (who : Actor) → HasAllActors sc actors → HasAllActors sc (receipt sc actors mail who).actors
at_actor sc actors mail (actor.Server at) h = at_server sc actors mail at (slice_get actors.servers at.0) h
at_actor sc actors mail (actor.Coordinator txn) h = at_coordinator sc actors mail txn (slice_get actors.coordinators txn.0) h
at_actor sc actors mail actor.Authority h = h
at_actor sc actors mail actor.Master h = h

at_delivery : (sc : Scenario) (actors : Actors) (found : Option Mail) → HasAllActors sc actors → HasAllActors sc (delivery sc actors found).actors
at_delivery sc actors None h = h
at_delivery sc actors (Some mail) h = at_actor sc actors mail mail.letter.to h

at_submission : (sc : Scenario) (actors : Actors) (txn : TxnId) (place : ℕ) (found : Option (Part Coordinator)) → HasAllActors sc actors → HasAllActors sc (submission_by sc actors txn place found).actors
at_submission sc actors txn place None h = h
at_submission sc actors txn place (Some part) h = coordinator_put sc actors txn.0 _ h

server_crashed : (sc : Scenario) (actors : Actors) (mails : List Mail) (at : ServerId) (cut : Option Cut) (found : Option (Part Server)) → HasAllActors sc actors
    → HasAllActors sc (crash_of_server sc actors mails at cut found).actors
server_crashed sc actors mails at cut None h = h
server_crashed sc actors mails at cut (Some part) h = server_put sc actors at.0 _ h

coordinator_crashed : (sc : Scenario) (actors : Actors) (mails : List Mail) (txn : TxnId) (cut : Option Cut) (found : Option (Part Coordinator)) → HasAllActors sc actors
    → HasAllActors sc (crash_of_coordinator sc actors mails txn cut found).actors
coordinator_crashed sc actors mails txn cut None h = h
coordinator_crashed sc actors mails txn cut (Some part) h = coordinator_put sc actors txn.0 _ h

at_crash : (sc : Scenario) (actors : Actors) (mails : List Mail) (who : Actor) (cut : Option Cut) → HasAllActors sc actors → HasAllActors sc (crashes sc actors mails who cut).actors
at_crash sc actors mails (actor.Server at) cut h = server_crashed sc actors mails at cut (slice_get actors.servers at.0) h
at_crash sc actors mails (actor.Coordinator txn) cut h = coordinator_crashed sc actors mails txn cut (slice_get actors.coordinators txn.0) h
at_crash sc actors mails actor.Authority cut h = h
at_crash sc actors mails actor.Master cut h = h

server_booted : (sc : Scenario) (actors : Actors) (at : ServerId) (found : Option (Part Server)) → HasAllActors sc actors → HasAllActors sc (boot_of_server sc actors at found).actors
server_booted sc actors at None h = h
server_booted sc actors at (Some part) h = server_put sc actors at.0 _ h

coordinator_booted : (sc : Scenario) (actors : Actors) (txn : TxnId) (found : Option (Part Coordinator)) → HasAllActors sc actors → HasAllActors sc (boot_of_coordinator sc actors txn found).actors
coordinator_booted sc actors txn None h = h
coordinator_booted sc actors txn (Some part) h = coordinator_put sc actors txn.0 _ h

at_boot : (sc : Scenario) (actors : Actors) (who : Actor) → HasAllActors sc actors → HasAllActors sc (boots sc actors who).actors
at_boot sc actors (actor.Server at) h = server_booted sc actors at (slice_get actors.servers at.0) h
at_boot sc actors (actor.Coordinator txn) h = coordinator_booted sc actors txn (slice_get actors.coordinators txn.0) h
at_boot sc actors actor.Authority h = h
at_boot sc actors actor.Master h = h

-- no step brings or takes an actor
pub all_after : (sc : Scenario) (m : Machine) (taken : Step) → HasAllActors sc m.state.actors → HasAllActors sc (machine_after sc m taken).state.actors
all_after sc m (step.Submit txn) h = at_submission sc m.state.actors txn (length m.state.steps) (slice_get m.state.actors.coordinators txn.0) h
all_after sc m (step.Deliver mail) h = at_delivery sc m.state.actors (slice_get m.state.mails mail) h
all_after sc m (step.Lose mail) h = h
all_after sc m (step.Publish admin) h = record { servers = h.servers; coordinators = h.coordinators }
all_after sc m (step.Push admin server) h = h
all_after sc m (step.Tick by) h = record { servers = h.servers; coordinators = h.coordinators }
all_after sc m (step.Revoke cred) h = record { servers = h.servers; coordinators = h.coordinators }
all_after sc m (step.Timer txn) h = h
all_after sc m (step.Crash who None) h = at_crash sc m.state.actors m.state.mails who None h
all_after sc m (step.Crash who (Some cut)) h = at_crash sc m.state.actors m.state.mails who (Some cut) h
all_after sc m (step.Boot who) h = at_boot sc m.state.actors who h

as_many : {S : Type 0} (old new : List (Part S)) → map is_part_down new ≡ map is_part_down old → length new ≡ length old
as_many old new same = sym (length-map new is_part_down) ∙ ap length same ∙ length-map old is_part_down

-- nor does one that was refused memory
pub all_stay : (sc : Scenario) (old new : Actors) → SameUp old new → HasAllActors sc old → HasAllActors sc new
all_stay sc old new same h = record {
  servers = as_many old.servers new.servers same.servers ∙ h.servers;
  coordinators = as_many old.coordinators new.coordinators same.coordinators ∙ h.coordinators;
}

-- ---- the step by which a step begins

first_none : {A : Type 0} (first second : Option A) → option_or first second ≡ None → first ≡ None
first_none None second e = refl
first_none (Some x) second e = absurd cc

-- it is not refused where the step is not
pub received_allowed : (w : State) (taken : Step) → refusal w taken ≡ None → refusal w (received taken) ≡ None
received_allowed w (step.Crash who (Some cut)) ok = first_none (missing_mail w.mails cut.mail) _ ok
received_allowed w (step.Crash who None) ok = ok
received_allowed w (step.Submit txn) ok = ok
received_allowed w (step.Deliver mail) ok = ok
received_allowed w (step.Lose mail) ok = ok
received_allowed w (step.Publish admin) ok = ok
received_allowed w (step.Push admin server) ok = ok
received_allowed w (step.Tick by) ok = ok
received_allowed w (step.Revoke cred) ok = ok
received_allowed w (step.Timer txn) ok = ok
received_allowed w (step.Boot who) ok = ok

pub received_named : (sc : Scenario) (taken : Step) → IsStepOf sc taken → IsStepOf sc (received taken)
received_named sc (step.Crash who (Some cut)) h = tt
received_named sc (step.Crash who None) h = h
received_named sc (step.Submit txn) h = h
received_named sc (step.Deliver mail) h = h
received_named sc (step.Lose mail) h = h
received_named sc (step.Publish admin) h = h
received_named sc (step.Push admin server) h = h
received_named sc (step.Tick by) h = h
received_named sc (step.Revoke cred) h = h
received_named sc (step.Timer txn) h = h
received_named sc (step.Boot who) h = h
