-- A step does one move, to one actor and to its log.
use Rattle.std.proofs.Common.{◌≡◌, ◌≢◌, ◌∙◌, ℕ, zero, suc, List, [], ◌∷◌, length, Option, Some, None, slice_get, slice_set, refl, sym, ap, subst, arith}
use Rattle.std.proofs.lemmas.Option.{slice_get_within}
use Rattle.std.specs.Option.{option_map_or}
use Rattle.std.specs.Prelude.{option_and_then, option_map}
use Rattle.tp_actor_log.specs.Records.{log_with}
use Rattle.tp_coord.specs.State.{Coordinator}
use Rattle.tp_model.specs.Words.actor
use Rattle.tp_model.specs.Words.step
use Rattle.tp_model.specs.Words.{Actor, Cut, Mail, Record, Scenario, ServerId, Step, TxnId}
use Rattle.tp_server.specs.State.{Server}
use Rattle.tp_types.proofs.EachLemmas.{set_here}
use Rattle.tp_machine.specs.declared.actors.Actors.{Actors}
use Rattle.tp_machine.specs.Logs.{log_by, records_of}
use Rattle.tp_machine.specs.Machine.{Machine, State, begin_forces, boot_of_coordinator, boot_of_server, boots, coordinator_boots, coordinator_boot_forces, coordinator_crashes, coordinator_forces, coordinator_left, coordinator_submits, coordinator_submits_up, coordinator_takes, coordinator_takes_up, crash_of_coordinator, crash_of_server, crashes, delivery, machine_after, receipt, server_boot_forces, server_boots, server_crashes, server_forces, server_left, server_takes, server_takes_up, state_after, submission, submission_by, to_coordinator, to_server}
use Rattle.tp_machine.specs.Moves.{LeavesOthers, boot_forces, forces_at, left_by, logged, move_of, moved_by, number_of, recipient}
use Rattle.tp_machine.specs.Named.{IsActor}
use Rattle.tp_machine.specs.Parts.{Part}
use Rattle.tp_machine.specs.Views.{up_of}
use Rattle.tp_machine.proofs.basics.Parts.{some_inj}

-- ---- the machine after a step

pub is_move : (sc : Scenario) (m : Machine) (taken : Step) → (machine_after sc m taken).state ≡ state_after m.state taken (move_of sc m.state taken)
is_move sc m (step.Submit txn) = refl
is_move sc m (step.Deliver mail) = refl
is_move sc m (step.Lose mail) = refl
is_move sc m (step.Publish admin) = refl
is_move sc m (step.Push admin server) = refl
is_move sc m (step.Tick by) = refl
is_move sc m (step.Revoke cred) = refl
is_move sc m (step.Timer txn) = refl
is_move sc m (step.Crash who None) = refl
is_move sc m (step.Crash who (Some cut)) = refl
is_move sc m (step.Boot who) = refl

-- ---- who is left as it is

-- a member of a list that is not put stays
get_other : {A : Type 0} (xs : List A) (n k : ℕ) (x : A) → n ≢ k → slice_get (slice_set xs n x) k ≡ slice_get xs k
get_other [] zero k x ne = refl
get_other [] (suc n) k x ne = refl
get_other (y ∷ xs) zero zero x ne = absurd (ne refl)
get_other (y ∷ xs) zero (suc k) x ne = refl
get_other (y ∷ xs) (suc n) zero x ne = refl
get_other (y ∷ xs) (suc n) (suc k) x ne = get_other xs n k x (λ e. ne (ap suc e))

nobody_moved : (mover : Option Actor) (actors : Actors) → LeavesOthers mover actors actors
nobody_moved mover actors = record { servers = λ _ _. refl; coordinators = λ _ _. refl; authority = λ _. refl; master = λ _. refl }

server_put : (actors : Actors) (at : ServerId) (part : Part Server) → LeavesOthers (Some (actor.Server at)) actors (record actors { servers = slice_set actors.servers at.0 part })
server_put actors at part = record {
  servers = λ other ne. get_other actors.servers at.0 other.0 part (λ e. ne (ap (λ (n : ℕ). Some (actor.Server (record { 0 = n }))) e));
  coordinators = λ _ _. refl;
  authority = λ _. refl;
  master = λ _. refl;
}

coordinator_put : (actors : Actors) (txn : TxnId) (part : Part Coordinator) → LeavesOthers (Some (actor.Coordinator txn)) actors (record actors { coordinators = slice_set actors.coordinators txn.0 part })
coordinator_put actors txn part = record {
  servers = λ _ _. refl;
  coordinators = λ other ne. get_other actors.coordinators txn.0 other.0 part (λ e. ne (ap (λ (n : ℕ). Some (actor.Coordinator (record { 0 = n }))) e));
  authority = λ _. refl;
  master = λ _. refl;
}

to_server_leaves : (sc : Scenario) (actors : Actors) (mail : Mail) (at : ServerId) (found : Option (Part Server)) → LeavesOthers (Some (actor.Server at)) actors (to_server sc actors mail at found).actors
to_server_leaves sc actors mail at None = nobody_moved _ actors
to_server_leaves sc actors mail at (Some part) = server_put actors at _

to_coordinator_leaves : (sc : Scenario) (actors : Actors) (mail : Mail) (txn : TxnId) (found : Option (Part Coordinator)) → LeavesOthers (Some (actor.Coordinator txn)) actors (to_coordinator sc actors mail txn found).actors
to_coordinator_leaves sc actors mail txn None = nobody_moved _ actors
to_coordinator_leaves sc actors mail txn (Some part) = coordinator_put actors txn _

receipt_leaves : (sc : Scenario) (actors : Actors) (mail : Mail) (who : Actor) → LeavesOthers (Some who) actors (receipt sc actors mail who).actors
receipt_leaves sc actors mail (actor.Server at) = to_server_leaves sc actors mail at (slice_get actors.servers at.0)
receipt_leaves sc actors mail (actor.Coordinator txn) = to_coordinator_leaves sc actors mail txn (slice_get actors.coordinators txn.0)
receipt_leaves sc actors mail actor.Authority = nobody_moved _ actors
receipt_leaves sc actors mail actor.Master = nobody_moved _ actors

delivery_leaves : (sc : Scenario) (actors : Actors) (found : Option Mail) → LeavesOthers (option_map recipient found) actors (delivery sc actors found).actors
delivery_leaves sc actors None = nobody_moved _ actors
delivery_leaves sc actors (Some mail) = receipt_leaves sc actors mail mail.letter.to

submission_leaves : (sc : Scenario) (actors : Actors) (txn : TxnId) (place : ℕ) (found : Option (Part Coordinator)) → LeavesOthers (Some (actor.Coordinator txn)) actors (submission_by sc actors txn place found).actors
submission_leaves sc actors txn place None = nobody_moved _ actors
submission_leaves sc actors txn place (Some part) = coordinator_put actors txn _

server_crash_leaves : (sc : Scenario) (actors : Actors) (mails : List Mail) (at : ServerId) (cut : Option Cut) (found : Option (Part Server)) → LeavesOthers (Some (actor.Server at)) actors (crash_of_server sc actors mails at cut found).actors
server_crash_leaves sc actors mails at cut None = nobody_moved _ actors
server_crash_leaves sc actors mails at cut (Some part) = server_put actors at _

coordinator_crash_leaves : (sc : Scenario) (actors : Actors) (mails : List Mail) (txn : TxnId) (cut : Option Cut) (found : Option (Part Coordinator)) → LeavesOthers (Some (actor.Coordinator txn)) actors (crash_of_coordinator sc actors mails txn cut found).actors
coordinator_crash_leaves sc actors mails txn cut None = nobody_moved _ actors
coordinator_crash_leaves sc actors mails txn cut (Some part) = coordinator_put actors txn _

crash_leaves : (sc : Scenario) (actors : Actors) (mails : List Mail) (who : Actor) (cut : Option Cut) → LeavesOthers (Some who) actors (crashes sc actors mails who cut).actors
crash_leaves sc actors mails (actor.Server at) cut = server_crash_leaves sc actors mails at cut (slice_get actors.servers at.0)
crash_leaves sc actors mails (actor.Coordinator txn) cut = coordinator_crash_leaves sc actors mails txn cut (slice_get actors.coordinators txn.0)
crash_leaves sc actors mails actor.Authority cut = nobody_moved _ actors
crash_leaves sc actors mails actor.Master cut = nobody_moved _ actors

server_boot_leaves : (sc : Scenario) (actors : Actors) (at : ServerId) (found : Option (Part Server)) → LeavesOthers (Some (actor.Server at)) actors (boot_of_server sc actors at found).actors
server_boot_leaves sc actors at None = nobody_moved _ actors
server_boot_leaves sc actors at (Some part) = server_put actors at _

coordinator_boot_leaves : (sc : Scenario) (actors : Actors) (txn : TxnId) (found : Option (Part Coordinator)) → LeavesOthers (Some (actor.Coordinator txn)) actors (boot_of_coordinator sc actors txn found).actors
coordinator_boot_leaves sc actors txn None = nobody_moved _ actors
coordinator_boot_leaves sc actors txn (Some part) = coordinator_put actors txn _

boot_leaves : (sc : Scenario) (actors : Actors) (who : Actor) → LeavesOthers (Some who) actors (boots sc actors who).actors
boot_leaves sc actors (actor.Server at) = server_boot_leaves sc actors at (slice_get actors.servers at.0)
boot_leaves sc actors (actor.Coordinator txn) = coordinator_boot_leaves sc actors txn (slice_get actors.coordinators txn.0)
boot_leaves sc actors actor.Authority = nobody_moved _ actors
boot_leaves sc actors actor.Master = nobody_moved _ actors

pub leaves : (sc : Scenario) (w : State) (taken : Step) → LeavesOthers (moved_by w.mails taken) w.actors (move_of sc w taken).actors
leaves sc w (step.Submit txn) = submission_leaves sc w.actors txn (length w.steps) (slice_get w.actors.coordinators txn.0)
leaves sc w (step.Deliver mail) = delivery_leaves sc w.actors (slice_get w.mails mail)
leaves sc w (step.Lose mail) = nobody_moved _ w.actors
leaves sc w (step.Publish admin) = record { servers = λ _ _. refl; coordinators = λ _ _. refl; authority = λ _. refl; master = λ ne. absurd (ne refl) }
leaves sc w (step.Push admin server) = nobody_moved _ w.actors
leaves sc w (step.Tick by) = record { servers = λ _ _. refl; coordinators = λ _ _. refl; authority = λ ne. absurd (ne refl); master = λ _. refl }
leaves sc w (step.Revoke cred) = record { servers = λ _ _. refl; coordinators = λ _ _. refl; authority = λ ne. absurd (ne refl); master = λ _. refl }
leaves sc w (step.Timer txn) = nobody_moved _ w.actors
leaves sc w (step.Crash who cut) = crash_leaves sc w.actors w.mails who cut
leaves sc w (step.Boot who) = boot_leaves sc w.actors who

-- ---- what the log gains

-- the log of a member of a list that was put
put_log : {S : Type 0} (parts : List (Part S)) (n : ℕ) (old new : Part S) (forced : Option Record) → slice_get parts n ≡ Some old → new.log ≡ log_with old.log forced
    → option_map_or log_by (slice_get (slice_set parts n new) n) [] ≡ log_with (option_map_or log_by (slice_get parts n) []) forced
put_log {S} parts n old new forced found is =
    ap (λ (o : Option (Part S)). option_map_or log_by o []) (set_here parts n new (slice_get_within parts n old found))
    ∙ (is ∙ ap (λ (o : Option (Part S)). log_with (option_map_or log_by o []) forced) (sym found))

-- an actor that is not there has no log
no_log : {S : Type 0} (parts : List (Part S)) (n : ℕ) (forces : Option (Part S) → Option Record) → slice_get parts n ≡ None → forces None ≡ None
    → option_map_or log_by (slice_get parts n) [] ≡ log_with (option_map_or log_by (slice_get parts n) []) (forces (slice_get parts n))
no_log {S} parts n forces none is =
    sym (ap (λ (r : Option Record). log_with (option_map_or log_by (slice_get parts n) []) r) (ap forces none ∙ is))

server_takes_logs : (sc : Scenario) (at : ServerId) (part : Part Server) (mail : Mail) (up : Option Server) → (server_takes_up sc at part mail up).part.log ≡ log_with part.log (server_forces sc up mail)
server_takes_logs sc at part mail None = refl
server_takes_logs sc at part mail (Some s) = refl

coordinator_takes_logs : (sc : Scenario) (part : Part Coordinator) (mail : Mail) (up : Option Coordinator) → (coordinator_takes_up sc part mail up).part.log ≡ log_with part.log (coordinator_forces sc up mail)
coordinator_takes_logs sc part mail None = refl
coordinator_takes_logs sc part mail (Some c) = refl

submits_logs : (sc : Scenario) (part : Part Coordinator) (txn : TxnId) (place : ℕ) (up : Option Coordinator) → (coordinator_submits_up sc part txn place up).part.log ≡ log_with part.log (begin_forces sc up)
submits_logs sc part txn place None = refl
submits_logs sc part txn place (Some c) = refl

-- the actors have this log where they had that one, and a record that was forced
abbrev Forces : Actors → Actors → Actor → Option Record → Type 0
Forces old new who forced = records_of new who ≡ log_with (records_of old who) forced

to_server_logs : (sc : Scenario) (actors : Actors) (mail : Mail) (at : ServerId) (found : Option (Part Server)) → slice_get actors.servers at.0 ≡ found
    → Forces actors (to_server sc actors mail at found).actors (actor.Server at) (server_forces sc (option_and_then up_of found) mail)
to_server_logs sc actors mail at None e = refl
to_server_logs sc actors mail at (Some part) e =
    put_log actors.servers at.0 part (server_takes sc at part mail).part (server_forces sc part.up mail) e (server_takes_logs sc at part mail part.up)

to_coordinator_logs : (sc : Scenario) (actors : Actors) (mail : Mail) (txn : TxnId) (found : Option (Part Coordinator)) → slice_get actors.coordinators txn.0 ≡ found
    → Forces actors (to_coordinator sc actors mail txn found).actors (actor.Coordinator txn) (coordinator_forces sc (option_and_then up_of found) mail)
to_coordinator_logs sc actors mail txn None e = refl
to_coordinator_logs sc actors mail txn (Some part) e =
    put_log actors.coordinators txn.0 part (coordinator_takes sc part mail).part (coordinator_forces sc part.up mail) e (coordinator_takes_logs sc part mail part.up)

receipt_logs : (sc : Scenario) (actors : Actors) (mail : Mail) (who : Actor) → Forces actors (receipt sc actors mail who).actors who (forces_at sc actors who mail)
receipt_logs sc actors mail (actor.Server at) = to_server_logs sc actors mail at (slice_get actors.servers at.0) refl
receipt_logs sc actors mail (actor.Coordinator txn) = to_coordinator_logs sc actors mail txn (slice_get actors.coordinators txn.0) refl
receipt_logs sc actors mail actor.Authority = refl
receipt_logs sc actors mail actor.Master = refl

submission_logs : (sc : Scenario) (actors : Actors) (txn : TxnId) (place : ℕ) (found : Option (Part Coordinator)) → slice_get actors.coordinators txn.0 ≡ found
    → Forces actors (submission_by sc actors txn place found).actors (actor.Coordinator txn) (begin_forces sc (option_and_then up_of found))
submission_logs sc actors txn place None e = refl
submission_logs sc actors txn place (Some part) e =
    put_log actors.coordinators txn.0 part (coordinator_submits sc part txn place).part (begin_forces sc part.up) e (submits_logs sc part txn place part.up)

-- what is left of a receipt is what a cut leaves of the record that it was to force
abbrev left_of : (Mail → Option Record) → List Mail → Option Cut → Option Record
left_of forces mails None = None
left_of forces mails (Some cut) = left_by (step.Crash actor.Master (Some cut)) (option_and_then forces (slice_get mails cut.mail))

server_left_is : (sc : Scenario) (mails : List Mail) (up : Option Server) (cut : Option Cut) → server_left sc mails up cut ≡ left_of (server_forces sc up) mails cut
server_left_is sc mails up None = refl
server_left_is sc mails up (Some cut) = refl

coordinator_left_is : (sc : Scenario) (mails : List Mail) (up : Option Coordinator) (cut : Option Cut) → coordinator_left sc mails up cut ≡ left_of (coordinator_forces sc up) mails cut
coordinator_left_is sc mails up None = refl
coordinator_left_is sc mails up (Some cut) = refl

-- nobody forces nothing, whatever is read of it
nothing_left : {A : Type 0} (forces : A → Option Record) (found : Option A) (cut : Cut) → ((a : A) → forces a ≡ None) → left_by (step.Crash actor.Master (Some cut)) (option_and_then forces found) ≡ None
nothing_left forces None cut none = refl
nothing_left forces (Some a) cut none = ap (left_by (step.Crash actor.Master (Some cut))) (none a)

no_server_left : (sc : Scenario) (mails : List Mail) (cut : Option Cut) → left_of (server_forces sc None) mails cut ≡ None
no_server_left sc mails None = refl
no_server_left sc mails (Some cut) = nothing_left (server_forces sc None) (slice_get mails cut.mail) cut (λ _. refl)

no_coordinator_left : (sc : Scenario) (mails : List Mail) (cut : Option Cut) → left_of (coordinator_forces sc None) mails cut ≡ None
no_coordinator_left sc mails None = refl
no_coordinator_left sc mails (Some cut) = nothing_left (coordinator_forces sc None) (slice_get mails cut.mail) cut (λ _. refl)

server_crash_logs : (sc : Scenario) (actors : Actors) (mails : List Mail) (at : ServerId) (cut : Option Cut) (found : Option (Part Server)) → slice_get actors.servers at.0 ≡ found
    → Forces actors (crash_of_server sc actors mails at cut found).actors (actor.Server at) (left_of (server_forces sc (option_and_then up_of found)) mails cut)
server_crash_logs sc actors mails at cut None e = sym (ap (λ (r : Option Record). log_with (records_of actors (actor.Server at)) r) (no_server_left sc mails cut))
server_crash_logs sc actors mails at cut (Some part) e =
    put_log actors.servers at.0 part (server_crashes sc mails at cut part).part (left_of (server_forces sc part.up) mails cut) e
    (ap (λ (r : Option Record). log_with part.log r) (server_left_is sc mails part.up cut))

coordinator_crash_logs : (sc : Scenario) (actors : Actors) (mails : List Mail) (txn : TxnId) (cut : Option Cut) (found : Option (Part Coordinator)) → slice_get actors.coordinators txn.0 ≡ found
    → Forces actors (crash_of_coordinator sc actors mails txn cut found).actors (actor.Coordinator txn) (left_of (coordinator_forces sc (option_and_then up_of found)) mails cut)
coordinator_crash_logs sc actors mails txn cut None e = sym (ap (λ (r : Option Record). log_with (records_of actors (actor.Coordinator txn)) r) (no_coordinator_left sc mails cut))
coordinator_crash_logs sc actors mails txn cut (Some part) e =
    put_log actors.coordinators txn.0 part (coordinator_crashes sc mails txn cut part).part (left_of (coordinator_forces sc part.up) mails cut) e
    (ap (λ (r : Option Record). log_with part.log r) (coordinator_left_is sc mails part.up cut))

office_left : (mails : List Mail) (cut : Option Cut) → left_of (λ (mail : Mail). None) mails cut ≡ None
office_left mails None = refl
office_left mails (Some cut) = nothing_left (λ (mail : Mail). None) (slice_get mails cut.mail) cut (λ _. refl)

crash_logs : (sc : Scenario) (actors : Actors) (mails : List Mail) (who : Actor) (cut : Option Cut) → Forces actors (crashes sc actors mails who cut).actors who (left_of (forces_at sc actors who) mails cut)
crash_logs sc actors mails (actor.Server at) cut = server_crash_logs sc actors mails at cut (slice_get actors.servers at.0) refl
crash_logs sc actors mails (actor.Coordinator txn) cut = coordinator_crash_logs sc actors mails txn cut (slice_get actors.coordinators txn.0) refl
crash_logs sc actors mails actor.Authority cut = sym (ap (λ (r : Option Record). log_with [] r) (office_left mails cut))
crash_logs sc actors mails actor.Master cut = sym (ap (λ (r : Option Record). log_with [] r) (office_left mails cut))

server_boot_logs : (sc : Scenario) (actors : Actors) (at : ServerId) (found : Option (Part Server)) → slice_get actors.servers at.0 ≡ found
    → Forces actors (boot_of_server sc actors at found).actors (actor.Server at) (boot_forces sc actors (actor.Server at))
server_boot_logs sc actors at None e =
    sym (ap (λ (o : Option (Part Server)). log_with (records_of actors (actor.Server at)) (option_and_then (server_boot_forces sc at) o)) e)
server_boot_logs sc actors at (Some part) e =
    put_log actors.servers at.0 part (server_boots sc at part).part (server_boot_forces sc at part) e refl
    ∙ sym (ap (λ (o : Option (Part Server)). log_with (records_of actors (actor.Server at)) (option_and_then (server_boot_forces sc at) o)) e)

coordinator_boot_logs : (sc : Scenario) (actors : Actors) (txn : TxnId) (found : Option (Part Coordinator)) → slice_get actors.coordinators txn.0 ≡ found
    → Forces actors (boot_of_coordinator sc actors txn found).actors (actor.Coordinator txn) (boot_forces sc actors (actor.Coordinator txn))
coordinator_boot_logs sc actors txn None e =
    sym (ap (λ (o : Option (Part Coordinator)). log_with (records_of actors (actor.Coordinator txn)) (option_and_then (coordinator_boot_forces sc txn) o)) e)
coordinator_boot_logs sc actors txn (Some part) e =
    put_log actors.coordinators txn.0 part (coordinator_boots sc txn part).part (coordinator_boot_forces sc txn part) e refl
    ∙ sym (ap (λ (o : Option (Part Coordinator)). log_with (records_of actors (actor.Coordinator txn)) (option_and_then (coordinator_boot_forces sc txn) o)) e)

boot_logs : (sc : Scenario) (actors : Actors) (who : Actor) → Forces actors (boots sc actors who).actors who (boot_forces sc actors who)
boot_logs sc actors (actor.Server at) = server_boot_logs sc actors at (slice_get actors.servers at.0) refl
boot_logs sc actors (actor.Coordinator txn) = coordinator_boot_logs sc actors txn (slice_get actors.coordinators txn.0) refl
boot_logs sc actors actor.Authority = refl
boot_logs sc actors actor.Master = refl

-- an actor that moves is the one whom the step moves
same_mover : (old new : Actors) (who moves : Actor) (forced : Option Record) → Some moves ≡ Some who → Forces old new moves forced → Forces old new who forced
same_mover old new who moves forced e h = subst (λ (a : Actor). Forces old new a forced) (some_inj moves who e) h

delivery_logs : (sc : Scenario) (actors : Actors) (found : Option Mail) (who : Actor) → option_map recipient found ≡ Some who
    → Forces actors (delivery sc actors found).actors who (option_and_then (λ (mail : Mail). forces_at sc actors mail.letter.to mail) found)
delivery_logs sc actors None who e = absurd (cc)
delivery_logs sc actors (Some mail) who e = same_mover actors (receipt sc actors mail mail.letter.to).actors who mail.letter.to (forces_at sc actors mail.letter.to mail) e (receipt_logs sc actors mail mail.letter.to)

pub forces_one : (sc : Scenario) (w : State) (taken : Step) (who : Actor) → moved_by w.mails taken ≡ Some who → records_of (move_of sc w taken).actors who ≡ log_with (records_of w.actors who) (left_by taken (logged sc w taken))
forces_one sc w (step.Submit txn) who e =
    same_mover w.actors (submission sc w.actors txn (length w.steps)).actors who (actor.Coordinator txn) (logged sc w (step.Submit txn)) e (submission_logs sc w.actors txn (length w.steps) (slice_get w.actors.coordinators txn.0) refl)
forces_one sc w (step.Deliver mail) who e = delivery_logs sc w.actors (slice_get w.mails mail) who e
forces_one sc w (step.Lose mail) who e = absurd (cc)
forces_one sc w (step.Publish admin) who e = subst (λ (a : Actor). Forces w.actors (move_of sc w (step.Publish admin)).actors a None) (some_inj actor.Master who e) refl
forces_one sc w (step.Push admin server) who e = refl
forces_one sc w (step.Tick by) who e = subst (λ (a : Actor). Forces w.actors (move_of sc w (step.Tick by)).actors a None) (some_inj actor.Authority who e) refl
forces_one sc w (step.Revoke cred) who e = subst (λ (a : Actor). Forces w.actors (move_of sc w (step.Revoke cred)).actors a None) (some_inj actor.Authority who e) refl
forces_one sc w (step.Timer txn) who e = refl
forces_one sc w (step.Crash moves None) who e = same_mover w.actors (crashes sc w.actors w.mails moves None).actors who moves None e (crash_logs sc w.actors w.mails moves None)
forces_one sc w (step.Crash moves (Some cut)) who e =
    same_mover w.actors (crashes sc w.actors w.mails moves (Some cut)).actors who moves (left_of (forces_at sc w.actors moves) w.mails (Some cut)) e (crash_logs sc w.actors w.mails moves (Some cut))
forces_one sc w (step.Boot moves) who e = same_mover w.actors (boots sc w.actors moves).actors who moves (boot_forces sc w.actors moves) e (boot_logs sc w.actors moves)

-- ---- numbers

pub numbered : (sc : Scenario) (one other : Actor) → IsActor sc one → IsActor sc other → number_of sc one ≡ number_of sc other → one ≡ other
numbered sc (actor.Server one) (actor.Server other) h k e = ap (λ (n : ℕ). actor.Server (record { 0 = n })) e
numbered sc (actor.Server one) (actor.Coordinator other) h k e = absurd (omega (arith, h, e))
numbered sc (actor.Server one) actor.Authority h k e = absurd (omega (arith, h, e))
numbered sc (actor.Server one) actor.Master h k e = absurd (omega (arith, h, e))
numbered sc (actor.Coordinator one) (actor.Server other) h k e = absurd (omega (arith, k, e))
numbered sc (actor.Coordinator one) (actor.Coordinator other) h k e =
    let same : one.0 ≡ other.0 = omega (arith, e) in
    ap (λ (n : ℕ). actor.Coordinator (record { 0 = n })) same
numbered sc (actor.Coordinator one) actor.Authority h k e = absurd (omega (arith, h, e))
numbered sc (actor.Coordinator one) actor.Master h k e = absurd (omega (arith, h, e))
numbered sc actor.Authority (actor.Server other) h k e = absurd (omega (arith, k, e))
numbered sc actor.Authority (actor.Coordinator other) h k e = absurd (omega (arith, k, e))
numbered sc actor.Authority actor.Authority h k e = refl
numbered sc actor.Authority actor.Master h k e = absurd (omega (arith, e))
numbered sc actor.Master (actor.Server other) h k e = absurd (omega (arith, k, e))
numbered sc actor.Master (actor.Coordinator other) h k e = absurd (omega (arith, k, e))
numbered sc actor.Master actor.Authority h k e = absurd (omega (arith, e))
numbered sc actor.Master actor.Master h k e = refl
