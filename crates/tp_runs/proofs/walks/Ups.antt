-- A step that is no crash and no boot leaves each actor up or down as it was.
use Rattle.std.proofs.Common.{◌≡◌, ℕ, List, [], ◌∷◌, slice_get, slice_set, false, Option, Some, None, is_none, zero, suc, refl, sym, ap, ◌∙◌}
use Rattle.std.specs.Option.{option_map_or}
use Rattle.std.proofs.lemmas.Option.{same_Some}
use Rattle.tp_model.specs.Words.{Actor, AdminId, CredId, Mail, Scenario, ServerId, Step, TxnId}
use Rattle.tp_model.specs.Words.actor
use Rattle.tp_model.specs.Words.step
use Rattle.tp_coord.specs.State.{Coordinator}
use Rattle.tp_server.specs.State.{Server}
use Rattle.tp_machine.specs.declared.actors.Actors.{Actors}
use Rattle.tp_machine.specs.Machine.{Machine, PartMove, coordinator_move, coordinator_submits_up, coordinator_takes_up, delivery, is_down, is_part_down, machine_after, publishes, receipt, revokes, server_move, server_takes_up, submission_by, ticks, to_coordinator, to_server}
use Rattle.tp_machine.specs.Parts.{Part}
use Rattle.tp_runs.proofs.walks.Steps.{KeepsUp}

-- ---- parts

-- a part in the place of one that is up or down as it is
kept_at : {S : Type 0} (parts : List (Part S)) (n m : ℕ) (old new : Part S) → slice_get parts n ≡ Some old → is_part_down new ≡ is_part_down old
    → option_map_or is_part_down (slice_get (slice_set parts n new) m) false ≡ option_map_or is_part_down (slice_get parts m) false
kept_at [] n m old new e same = refl
kept_at (p ∷ ps) zero zero old new e same = same ∙ ap is_part_down (sym (same_Some p old e))
kept_at (p ∷ ps) zero (suc m) old new e same = refl
kept_at (p ∷ ps) (suc n) zero old new e same = refl
kept_at (p ∷ ps) (suc n) (suc m) old new e same = kept_at ps n m old new e same

server_takes_kept : (sc : Scenario) (at : ServerId) (part : Part Server) (mail : Mail) (up : Option Server) → part.up ≡ up → is_part_down (server_takes_up sc at part mail up).part ≡ is_part_down part
server_takes_kept sc at part mail None e = refl
server_takes_kept sc at part mail (Some s) e = sym (ap (λ (o : Option Server). is_none o) e)

coordinator_takes_kept : (sc : Scenario) (part : Part Coordinator) (mail : Mail) (up : Option Coordinator) → part.up ≡ up → is_part_down (coordinator_takes_up sc part mail up).part ≡ is_part_down part
coordinator_takes_kept sc part mail None e = refl
coordinator_takes_kept sc part mail (Some c) e = sym (ap (λ (o : Option Coordinator). is_none o) e)

submits_kept : (sc : Scenario) (part : Part Coordinator) (txn : TxnId) (place : ℕ) (up : Option Coordinator) → part.up ≡ up → is_part_down (coordinator_submits_up sc part txn place up).part ≡ is_part_down part
submits_kept sc part txn place None e = refl
submits_kept sc part txn place (Some c) e = sym (ap (λ (o : Option Coordinator). is_none o) e)

-- ---- actors

-- each actor is up where it was, and down where it was
abbrev pub StayUp : Actors → Actors → Type 0
StayUp old new = (who : Actor) → is_down new who ≡ is_down old who

server_kept : (actors : Actors) (at : ServerId) (part : Part Server) (move : PartMove Server) → slice_get actors.servers at.0 ≡ Some part → is_part_down move.part ≡ is_part_down part
    → StayUp actors (server_move actors at move).actors
server_kept actors at part move e same (actor.Server other) = kept_at actors.servers at.0 other.0 part move.part e same
server_kept actors at part move e same (actor.Coordinator txn) = refl
server_kept actors at part move e same actor.Master = refl
server_kept actors at part move e same actor.Authority = refl

coordinator_kept : (actors : Actors) (txn : TxnId) (part : Part Coordinator) (move : PartMove Coordinator) → slice_get actors.coordinators txn.0 ≡ Some part → is_part_down move.part ≡ is_part_down part
    → StayUp actors (coordinator_move actors txn move).actors
coordinator_kept actors txn part move e same (actor.Coordinator other) = kept_at actors.coordinators txn.0 other.0 part move.part e same
coordinator_kept actors txn part move e same (actor.Server at) = refl
coordinator_kept actors txn part move e same actor.Master = refl
coordinator_kept actors txn part move e same actor.Authority = refl

to_server_kept : (sc : Scenario) (actors : Actors) (mail : Mail) (at : ServerId) (found : Option (Part Server)) → slice_get actors.servers at.0 ≡ found → StayUp actors (to_server sc actors mail at found).actors
to_server_kept sc actors mail at None e who = refl
to_server_kept sc actors mail at (Some part) e who = server_kept actors at part (server_takes_up sc at part mail part.up) e (server_takes_kept sc at part mail part.up refl) who

to_coordinator_kept : (sc : Scenario) (actors : Actors) (mail : Mail) (txn : TxnId) (found : Option (Part Coordinator)) → slice_get actors.coordinators txn.0 ≡ found
    → StayUp actors (to_coordinator sc actors mail txn found).actors
to_coordinator_kept sc actors mail txn None e who = refl
to_coordinator_kept sc actors mail txn (Some part) e who = coordinator_kept actors txn part (coordinator_takes_up sc part mail part.up) e (coordinator_takes_kept sc part mail part.up refl) who

receipt_kept : (sc : Scenario) (actors : Actors) (mail : Mail) (to : Actor) → StayUp actors (receipt sc actors mail to).actors
receipt_kept sc actors mail (actor.Server at) who = to_server_kept sc actors mail at (slice_get actors.servers at.0) refl who
receipt_kept sc actors mail (actor.Coordinator txn) who = to_coordinator_kept sc actors mail txn (slice_get actors.coordinators txn.0) refl who
receipt_kept sc actors mail actor.Authority who = refl
receipt_kept sc actors mail actor.Master who = refl

delivery_kept : (sc : Scenario) (actors : Actors) (found : Option Mail) → StayUp actors (delivery sc actors found).actors
delivery_kept sc actors None who = refl
delivery_kept sc actors (Some mail) who = receipt_kept sc actors mail mail.letter.to who

submission_kept : (sc : Scenario) (actors : Actors) (txn : TxnId) (place : ℕ) (found : Option (Part Coordinator)) → slice_get actors.coordinators txn.0 ≡ found → StayUp actors (submission_by sc actors txn place found).actors
submission_kept sc actors txn place None e who = refl
submission_kept sc actors txn place (Some part) e who = coordinator_kept actors txn part (coordinator_submits_up sc part txn place part.up) e (submits_kept sc part txn place part.up refl) who

-- what an office does takes nobody up or down
ticks_kept : (actors : Actors) (by : ℕ) → StayUp actors (ticks actors by).actors
ticks_kept actors by (actor.Server at) = refl
ticks_kept actors by (actor.Coordinator txn) = refl
ticks_kept actors by actor.Master = refl
ticks_kept actors by actor.Authority = refl

revokes_kept : (actors : Actors) (cred : CredId) → StayUp actors (revokes actors cred).actors
revokes_kept actors cred (actor.Server at) = refl
revokes_kept actors cred (actor.Coordinator txn) = refl
revokes_kept actors cred actor.Master = refl
revokes_kept actors cred actor.Authority = refl

publishes_kept : (actors : Actors) (admin : AdminId) → StayUp actors (publishes actors admin).actors
publishes_kept actors admin (actor.Server at) = refl
publishes_kept actors admin (actor.Coordinator txn) = refl
publishes_kept actors admin actor.Master = refl
publishes_kept actors admin actor.Authority = refl

pub stay_up : (sc : Scenario) (m : Machine) (taken : Step) → KeepsUp taken → StayUp m.state.actors (machine_after sc m taken).state.actors
stay_up sc m (step.Submit txn) keeps who = submission_kept sc m.state.actors txn _ (slice_get m.state.actors.coordinators txn.0) refl who
stay_up sc m (step.Deliver mail) keeps who = delivery_kept sc m.state.actors (slice_get m.state.mails mail) who
stay_up sc m (step.Timer txn) keeps who = refl
stay_up sc m (step.Lose mail) keeps who = refl
stay_up sc m (step.Publish admin) keeps who = publishes_kept m.state.actors admin who
stay_up sc m (step.Push admin server) keeps who = refl
stay_up sc m (step.Tick by) keeps who = ticks_kept m.state.actors by who
stay_up sc m (step.Revoke cred) keeps who = revokes_kept m.state.actors cred who
stay_up sc m (step.Crash other cut) keeps who = absurd keeps
stay_up sc m (step.Boot other) keeps who = absurd keeps
