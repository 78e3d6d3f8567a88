-- Where nobody is down, nobody is down after a step that comes by itself and is no boot.
use Rattle.std.proofs.Common.{◌≡◌, List, [], ◌∷◌, find, cond, slice_get, Bool, true, false, ℕ, Option, Some, None, option_map, refl, sym, ap, ◌∙◌}
use Rattle.std.specs.Option.{option_or}
use Rattle.std.proofs.lemmas.Option.{same_Some}
use Rattle.tp_model.specs.Words.{Actor, Scenario, ServerId, Step, TxnId}
use Rattle.tp_model.specs.Words.actor
use Rattle.tp_model.specs.Words.step
use Rattle.tp_machine.specs.declared.actors.Actors.{Actors}
use Rattle.tp_machine.specs.Machine.{is_down, machine_after}
use Rattle.tp_machine.specs.WorldView.{Does, WorldView}
use Rattle.tp_runs.proofs.walks.Steps.{KeepsUp}
use Rattle.tp_runs.proofs.walks.Ups.{StayUp, stay_up}
use Rattle.tp_auto.specs.Auto.{coordinator_down, lowest_down, next_by, next_of, server_down, servers_of, txns_of}
use Rattle.tp_auto.specs.mirrors.Ups.{KnowsUp, keeps_up}

-- ---- who is down

same_find : {A : Type 0} (one other : A → Bool) (xs : List A) → ((x : A) → one x ≡ other x) → find one xs ≡ find other xs
same_find one other [] same = refl
same_find one other (x ∷ xs) same =
    ap (λ (b : Bool). cond b (Some x) (find one xs)) (same x)
    ∙ ap (λ (later : Option _). cond (other x) (Some x) later) (same_find one other xs same)

lowest_kept : (sc : Scenario) (old new : Actors) → StayUp old new → lowest_down sc new ≡ lowest_down sc old
lowest_kept sc old new stay =
    ap (λ (found : Option ServerId). option_or (option_map (λ (at : ServerId). actor.Server at) found) (option_map (λ (txn : TxnId). actor.Coordinator txn) (coordinator_down sc new)))
    (same_find (λ (at : ServerId). is_down new (actor.Server at)) (λ (at : ServerId). is_down old (actor.Server at)) (servers_of sc) (λ at. stay (actor.Server at)))
    ∙ ap (λ (found : Option TxnId). option_or (option_map (λ (at : ServerId). actor.Server at) (server_down sc old)) (option_map (λ (txn : TxnId). actor.Coordinator txn) found))
    (same_find (λ (txn : TxnId). is_down new (actor.Coordinator txn)) (λ (txn : TxnId). is_down old (actor.Coordinator txn)) (txns_of sc) (λ txn. stay (actor.Coordinator txn)))

-- what is told of a step is so
keeps_true : (taken : Step) → keeps_up taken ≡ true → KeepsUp taken
keeps_true (step.Submit txn) e = tt
keeps_true (step.Deliver mail) e = tt
keeps_true (step.Timer txn) e = tt
keeps_true (step.Lose mail) e = absurd (cc)
keeps_true (step.Publish admin) e = absurd (cc)
keeps_true (step.Push admin server) e = absurd (cc)
keeps_true (step.Tick by) e = absurd (cc)
keeps_true (step.Revoke cred) e = absurd (cc)
keeps_true (step.Crash who cut) e = absurd (cc)
keeps_true (step.Boot who) e = absurd (cc)

-- what is no boot comes only where nobody is down
none_down : (found : Option Actor) (later : Option Step) (taken : Step) → option_or (option_map (λ (who : Actor). step.Boot who) found) later ≡ Some taken → keeps_up taken ≡ true → found ≡ None
none_down None later taken e keeps = refl
none_down (Some who) later taken e keeps =
    let boot : false ≡ true = ap keeps_up (same_Some (step.Boot who) taken e) ∙ keeps in
    absurd (cc)

-- ---- what a drain knows

-- after the next step, where that is no boot
pub knows_after : (old new : WorldView) (cursor : ℕ) (taken : Step) (known : Bool) → known ≡ keeps_up taken → Some taken ≡ next_of old.scenario old.machine cursor → Does old new taken → KnowsUp known new
knows_after old new cursor taken known is next did e =
    let keeps : keeps_up taken ≡ true = sym is ∙ e in
    let none : lowest_down old.scenario old.machine.state.actors ≡ None =
    none_down (lowest_down old.scenario old.machine.state.actors) (next_by old.scenario old.machine.state.actors cursor (slice_get old.machine.undelivered 0)) taken (sym next) keeps in
    ap (λ (w : WorldView). lowest_down w.scenario w.machine.state.actors) did.now
    ∙ (lowest_kept old.scenario old.machine.state.actors (machine_after old.scenario old.machine taken).state.actors (stay_up old.scenario old.machine taken (keeps_true taken keeps)) ∙ none)
