-- Served, the steps of the automatic phase: a delivery to an actor that is up keeps each transaction served, and so
-- does a timer, which serves its own.
use Rattle.std.specs.Option.{option_map_or}
use Rattle.std.proofs.Common.{Bool, List, Option, Some, [], ap, false, inl, inr, refl, slice_get, subst, sym, true, ℕ, ⊎_elim, ◌&&◌, ◌==◌, ◌∙◌, ◌≡◌, ◌⊎◌}
use Rattle.tp_types.proofs.ListLemmas.{number_itself}
use Rattle.tp_model.specs.Valid.{is_valid}
use Rattle.tp_model.specs.Words.actor
use Rattle.tp_model.specs.Words.body
use Rattle.tp_model.specs.Words.step
use Rattle.tp_model.specs.Words.{Actor, Body, Letter, Mail, Scenario, ServerId, TxnId}
use Rattle.tp_coord.specs.Row as coord
use Rattle.tp_coord.specs.State.{Coordinator}
use Rattle.tp_coord.specs.declared.coordinator.Phase.{Phase}
use Rattle.tp_coord.specs.declared.coordinator.Phase.TheVariants as phase
use Rattle.tp_machine.specs.Machine.{Machine, Move, State, delivery, machine_after, receipt, server_takes_up, coordinator_takes_up, coordinator_move, repeats_of, server_move, times, to_authority, to_coordinator, to_master, to_server, without_number}
use Rattle.tp_machine.specs.Parts.{Part}
use Rattle.tp_offices.specs.Authority as office
use Rattle.tp_offices.specs.Master as master
use Rattle.tp_offices.specs.declared.authority.Authority.{Authority}
use Rattle.tp_offices.specs.declared.master.Master.{Master}
use Rattle.tp_server.specs.State.{Server}
use Rattle.tp_runs.proofs.runs.Runs.{Holds}
use Rattle.tp_runs.proofs.served.Awaited.{IsAskedOf, IsRepliedBy, IsRequest, IsServedAt, IsWaiting, OnItsWay, is_awaiting, is_reply, kind_of}
use Rattle.tp_runs.proofs.served.Lists.{AnyOf}
use Rattle.tp_runs.proofs.served.Receipts.{repeats_ask}
use Rattle.tp_runs.proofs.served.Steady.{Steady, steady_of}
use Rattle.tp_runs.proofs.served.World.{after_move, coordinator_keeps, new_on_way, server_keeps, still_on_way, way_kept}
use Rattle.tp_runs.proofs.walks.Steps.{IsCoordinatorUp, IsServerUp, WasSent}

-- ---- offices

-- what the authority tells a coordinator now
abbrev told : Authority → Coordinator → Body
told authority c = body.Tell (record { txn = c.txn; turn = c.turn; clock = authority.clock; revoked = office.revocations authority.revoked })

and_true : (b : Bool) → b ≡ true → (b && true) ≡ true
and_true true e = refl
and_true false e = absurd (cc)

tell_replies : (authority : Authority) (c : Coordinator) (awaited : Phase) (said : Body) → c.phase ≡ awaited → IsRequest c.txn c.turn (kind_of awaited) said → (sc : Scenario) → is_awaiting sc c awaited actor.Authority ≡ true
    → AnyOf (IsRepliedBy c actor.Authority) (office.on_body authority said).reaction.letters
tell_replies authority c (phase.Stapling number) said e r sc awaits =
    subst (λ (b : Body). AnyOf (IsRepliedBy c actor.Authority) (office.on_body authority b).reaction.letters) (sym r)
    (inl (record { goes_to = refl; from_is = refl; says = subst (λ (p : Phase). is_reply c.turn (kind_of p) (told authority c) ≡ true) (sym e) (and_true (c.turn == c.turn) (number_itself c.turn)) }))
tell_replies authority c (phase.Asking over round) said e r sc awaits =
    subst (λ (b : Body). AnyOf (IsRepliedBy c actor.Authority) (office.on_body authority b).reaction.letters) (sym r)
    (inl (record { goes_to = refl; from_is = refl; says = subst (λ (p : Phase). is_reply c.turn (kind_of p) (told authority c) ≡ true) (sym e) (and_true (c.turn == c.turn) (number_itself c.turn)) }))
tell_replies authority c phase.Idle said e r sc awaits = absurd (cc)
tell_replies authority c (phase.Querying number staple) said e r sc awaits = absurd (cc)
tell_replies authority c (phase.Probing number) said e r sc awaits = absurd (cc)
tell_replies authority c (phase.Checking over round staple) said e r sc awaits = absurd (cc)
tell_replies authority c (phase.Reading over round) said e r sc awaits = absurd (cc)
tell_replies authority c (phase.Voting awaited) said e r sc awaits = absurd (cc)
tell_replies authority c phase.VoteProbing said e r sc awaits = absurd (cc)
tell_replies authority c (phase.Ending ended awaited) said e r sc awaits = absurd (cc)

newest_replies : (held : Master) (c : Coordinator) (awaited : Phase) (said : Body) → c.phase ≡ awaited → IsRequest c.txn c.turn (kind_of awaited) said → (sc : Scenario) → is_awaiting sc c awaited actor.Master ≡ true
    → AnyOf (IsRepliedBy c actor.Master) (master.on_body held said).reaction.letters
newest_replies held c (phase.Probing number) said e r sc awaits =
    subst (λ (b : Body). AnyOf (IsRepliedBy c actor.Master) (master.on_body held b).reaction.letters) (sym r)
    (inl (record { goes_to = refl; from_is = refl; says = subst (λ (p : Phase). is_reply c.turn (kind_of p) (body.Newest (record { txn = c.txn; turn = c.turn; newest = held.newest })) ≡ true) (sym e) (and_true (c.turn == c.turn) (number_itself c.turn)) }))
newest_replies held c (phase.Reading over round) said e r sc awaits =
    subst (λ (b : Body). AnyOf (IsRepliedBy c actor.Master) (master.on_body held b).reaction.letters) (sym r)
    (inl (record { goes_to = refl; from_is = refl; says = subst (λ (p : Phase). is_reply c.turn (kind_of p) (body.Newest (record { txn = c.txn; turn = c.turn; newest = held.newest })) ≡ true) (sym e) (and_true (c.turn == c.turn) (number_itself c.turn)) }))
newest_replies held c phase.VoteProbing said e r sc awaits =
    subst (λ (b : Body). AnyOf (IsRepliedBy c actor.Master) (master.on_body held b).reaction.letters) (sym r)
    (inl (record { goes_to = refl; from_is = refl; says = subst (λ (p : Phase). is_reply c.turn (kind_of p) (body.Newest (record { txn = c.txn; turn = c.turn; newest = held.newest })) ≡ true) (sym e) (and_true (c.turn == c.turn) (number_itself c.turn)) }))
newest_replies held c phase.Idle said e r sc awaits = absurd (cc)
newest_replies held c (phase.Stapling number) said e r sc awaits = absurd (cc)
newest_replies held c (phase.Querying number staple) said e r sc awaits = absurd (cc)
newest_replies held c (phase.Asking over round) said e r sc awaits = absurd (cc)
newest_replies held c (phase.Checking over round staple) said e r sc awaits = absurd (cc)
newest_replies held c (phase.Voting awaited) said e r sc awaits = absurd (cc)
newest_replies held c (phase.Ending ended awaited) said e r sc awaits = absurd (cc)

-- an office that receives a mail
office_keeps : (sc : Scenario) (w : State) (undelivered : List ℕ) (n : ℕ) (mail : Mail) (to : Actor) (letters : List Letter) (txn : TxnId) → WasSent w n mail to → ((k : TxnId) → to ≡ actor.Coordinator k → ⊥)
    → ((c : Coordinator) → IsRequest c.txn c.turn (kind_of c.phase) mail.letter.body → is_awaiting sc c c.phase to ≡ true → AnyOf (IsRepliedBy c to) letters)
    → IsServedAt sc (record { state = w; undelivered = undelivered }) txn → IsServedAt sc (after_move w (without_number undelivered n) (step.Deliver n) (record { actors = w.actors; happened = []; letters = letters })) txn
office_keeps sc w undelivered n mail to letters txn sent no_coordinator replies served part c up who awaits =
    ⊎_elim
    (λ (way : OnItsWay (record { state = w; undelivered = undelivered }) (IsAskedOf c who)).
    ⊎_elim (λ (kept : OnItsWay (after_move w (without_number undelivered n) (step.Deliver n) move) (IsAskedOf c who)). inl kept)
    (λ (is : IsAskedOf c who mail.letter).
    let here : to ≡ who = sym sent.goes_to ∙ is.goes_to in
    let said = replies c is.says (subst (λ (a : Actor). is_awaiting sc c c.phase a ≡ true) (sym here) awaits) in
    inr (inl (new_on_way w (without_number undelivered n) (step.Deliver n) move (IsRepliedBy c who) (subst (λ (a : Actor). AnyOf (IsRepliedBy c a) letters) here said))))
    (way_kept w undelivered n mail (step.Deliver n) move (IsAskedOf c who) sent.sent way))
    (λ (rest : OnItsWay (record { state = w; undelivered = undelivered }) (IsRepliedBy c who) ⊎ IsWaiting w.actors.servers c.txn c.turn (kind_of c.phase) who).
    ⊎_elim
    (λ (way : OnItsWay (record { state = w; undelivered = undelivered }) (IsRepliedBy c who)).
    ⊎_elim (λ (kept : OnItsWay (after_move w (without_number undelivered n) (step.Deliver n) move) (IsRepliedBy c who)). inr (inl kept))
    (λ (is : IsRepliedBy c who mail.letter). absurd (no_coordinator c.txn (sym sent.goes_to ∙ is.goes_to)))
    (way_kept w undelivered n mail (step.Deliver n) move (IsRepliedBy c who) sent.sent way))
    (λ (waits : IsWaiting w.actors.servers c.txn c.turn (kind_of c.phase) who). inr (inr waits)) rest)
    (served part c (record { found = up.found; up = up.up }) who awaits)
  where
    move : Move
    move = record { actors = w.actors; happened = []; letters = letters }

-- ---- deliveries

-- who is to receive a mail is up
pub data IsHeard (w : State) : Actor → Type 0 where
  ByServer : (at : ServerId) (part : Part Server) (s : Server) → IsServerUp w at part s → IsHeard w (actor.Server at)
  ByCoordinator : (txn : TxnId) (part : Part Coordinator) (c : Coordinator) → IsCoordinatorUp w txn part c → IsHeard w (actor.Coordinator txn)
  ByMaster : IsHeard w actor.Master
  ByAuthority : IsHeard w actor.Authority

-- the machine after a mail was delivered
delivered_is : (sc : Scenario) (m : Machine) (n : ℕ) (mail : Mail) (move : Move) → slice_get m.state.mails n ≡ Some mail → receipt sc m.state.actors mail mail.letter.to ≡ move
    → machine_after sc m (step.Deliver n) ≡ after_move m.state (without_number m.undelivered n) (step.Deliver n) move
delivered_is sc m n mail move e is =
    ap (λ (found : Option Mail). after_move m.state (without_number m.undelivered n) (step.Deliver n) (delivery sc m.state.actors found)) e
    ∙ ap (λ (k : Move). after_move m.state (without_number m.undelivered n) (step.Deliver n) k) is

-- a delivery to an actor that is up keeps each transaction served
pub delivery_keeps : (sc : Scenario) (m : Machine) (n : ℕ) (mail : Mail) (to : Actor) (txn : TxnId) → is_valid sc ≡ true → Holds sc m.state → Steady sc m.state → Holds sc (machine_after sc m (step.Deliver n)).state
    → Steady sc (machine_after sc m (step.Deliver n)).state → WasSent m.state n mail to → IsHeard m.state to → IsServedAt sc m txn → IsServedAt sc (machine_after sc m (step.Deliver n)) txn
delivery_keeps sc m n mail _ txn formed h steady after steady_after sent (ByServer at part s up) served =
    let e = delivered_is sc m n mail _ sent.sent (ap (receipt sc m.state.actors mail) sent.goes_to
    ∙ (ap (to_server sc m.state.actors mail at) up.found ∙ ap (λ (u : Option Server). server_move m.state.actors at (server_takes_up sc at part mail u)) up.up)) in
    subst (λ (k : Machine). IsServedAt sc k txn) (sym e)
    (server_keeps sc m.state m.undelivered n mail at part s txn h steady (subst (λ (k : Machine). Holds sc k.state) e after) (subst (λ (k : Machine). Steady sc k.state) e steady_after) sent up served)
delivery_keeps sc m n mail _ txn formed h steady after steady_after sent (ByCoordinator to part c up) served =
    let e = delivered_is sc m n mail _ sent.sent (ap (receipt sc m.state.actors mail) sent.goes_to
    ∙ (ap (to_coordinator sc m.state.actors mail to) up.found ∙ ap (λ (u : Option Coordinator). coordinator_move m.state.actors to (coordinator_takes_up sc part mail u)) up.up)) in
    subst (λ (k : Machine). IsServedAt sc k txn) (sym e) (coordinator_keeps sc m.state m.undelivered n mail to part c txn formed h steady sent up served)
delivery_keeps sc m n mail _ txn formed h steady after steady_after sent ByMaster served =
    let e = delivered_is sc m n mail (to_master m.state.actors mail) sent.sent (ap (receipt sc m.state.actors mail) sent.goes_to) in
    subst (λ (k : Machine). IsServedAt sc k txn) (sym e)
    (office_keeps sc m.state m.undelivered n mail actor.Master (master.master_row m.state.actors.master mail).reaction.letters txn sent (λ k same. cc)
    (λ c request awaits. newest_replies m.state.actors.master c c.phase mail.letter.body refl request sc awaits) served)
delivery_keeps sc m n mail _ txn formed h steady after steady_after sent ByAuthority served =
    let e = delivered_is sc m n mail (to_authority m.state.actors mail) sent.sent (ap (receipt sc m.state.actors mail) sent.goes_to) in
    subst (λ (k : Machine). IsServedAt sc k txn) (sym e)
    (office_keeps sc m.state m.undelivered n mail actor.Authority (office.authority_row m.state.actors.authority mail).reaction.letters txn sent (λ k same. cc)
    (λ c request awaits. tell_replies m.state.actors.authority c c.phase mail.letter.body refl request sc awaits) served)

-- ---- timers

-- a timer takes nothing away
pub timer_keeps : (sc : Scenario) (m : Machine) (fired txn : TxnId) → IsServedAt sc m txn → IsServedAt sc (machine_after sc m (step.Timer fired)) txn
timer_keeps sc m fired txn served part c up who awaits =
    let move = times sc m.state.actors fired in
    ⊎_elim (λ (way : OnItsWay m (IsAskedOf c who)). inl (still_on_way m.state m.undelivered (step.Timer fired) move (IsAskedOf c who) way))
    (λ (rest : OnItsWay m (IsRepliedBy c who) ⊎ IsWaiting m.state.actors.servers c.txn c.turn (kind_of c.phase) who).
    ⊎_elim (λ (way : OnItsWay m (IsRepliedBy c who)). inr (inl (still_on_way m.state m.undelivered (step.Timer fired) move (IsRepliedBy c who) way)))
    (λ (waits : IsWaiting m.state.actors.servers c.txn c.turn (kind_of c.phase) who). inr (inr waits)) rest)
    (served part c (record { found = up.found; up = up.up }) who awaits)

-- and it serves its own transaction
pub timer_serves : (sc : Scenario) (m : Machine) (fired : TxnId) → is_valid sc ≡ true → Holds sc m.state → Steady sc m.state → IsServedAt sc (machine_after sc m (step.Timer fired)) fired
timer_serves sc m fired formed h steady part c up who awaits =
    let before : IsCoordinatorUp m.state fired part c = record { found = up.found; up = up.up } in
    let asked = repeats_ask sc c c.phase who (steady_of sc m.state fired part c formed h steady before) refl awaits in
    let letters : (times sc m.state.actors fired).letters ≡ coord.repeats sc c c.phase =
    ap (λ (found : Option (Part Coordinator)). option_map_or (λ (p : Part Coordinator). repeats_of sc p.up) found []) up.found ∙ ap (repeats_of sc) up.up in
    inl (new_on_way m.state m.undelivered (step.Timer fired) (times sc m.state.actors fired) (IsAskedOf c who) (subst (AnyOf (IsAskedOf c who)) (sym letters) asked))
