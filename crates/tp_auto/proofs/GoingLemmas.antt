-- One step of the automatic phase: it is not refused, the potential falls, and what the phase keeps is kept. Once a
-- timer fired all actors are up, all transactions are submitted, and each transaction before the cursor is served.
use Rattle.std.proofs.Common.{◌≡◌, ℕ, ◌+◌, ◌<◌, ◌≤◌, ◌==◌, ◌&&◌, List, [], ◌∷◌, ◌++◌, length, nat_lt, slice_get, find, drop, take, Bool, true, false, not, option_map, Option, Some, None, is_none, zero, suc, if◌then◌else◌, refl, sym, ap, subst, ◌∙◌, arith}
use Rattle.std.specs.Option.{option_map_or, option_or}
use Rattle.std.proofs.lemmas.Bool.Decides.{nat_tests}
use Rattle.std.proofs.lemmas.List.{length-append}
use Rattle.std.proofs.lemmas.Option.{same_Some}
use Rattle.tp_model.specs.Words.{Actor, Fact, Mail, Scenario, Step, TxnId, What}
use Rattle.tp_model.specs.Words.actor
use Rattle.tp_model.specs.Words.step
use Rattle.tp_model.specs.Valid.{is_valid}
use Rattle.tp_coord.specs.Row.{is_armed, is_begun, is_done}
use Rattle.tp_coord.specs.State.{Coordinator}
use Rattle.tp_coord.specs.declared.coordinator.Phase.{Phase}
use Rattle.tp_coord.specs.declared.coordinator.Phase.TheVariants as phase
use Rattle.tp_machine.proofs.basics.Timers.{timer_allowed}
use Rattle.tp_machine.specs.declared.error.StepError.{StepError}
use Rattle.tp_machine.specs.declared.error.StepError.TheVariants as error
use Rattle.tp_machine.specs.Machine.{Machine, State, delivery, facts_of, is_armed_at, is_down, is_part_down, is_part_submitted, is_submitted, machine_after, refusal}
use Rattle.tp_machine.specs.Named.{IsActor, IsCrasher, IsStepOf, IsTxn}
use Rattle.tp_machine.specs.Parts.{Part}
use Rattle.tp_server.specs.State.{Server}
use Rattle.tp_runs.proofs.agreement.Logs.{once, submitted_count, submitted_up}
use Rattle.tp_runs.proofs.agreement.World.{Agrees, found_with_facts}
use Rattle.tp_runs.proofs.basics.Facts.{said, submissions, submitted_what}
use Rattle.tp_runs.proofs.basics.Ids.{same_txn_is}
use Rattle.tp_runs.proofs.served.Awaited.{IsServedAt, is_awaiting}
use Rattle.tp_runs.proofs.served.Quiet.{AllRun, all_finished}
use Rattle.tp_runs.proofs.served.Steps.{IsHeard, ByAuthority, ByCoordinator, ByMaster, ByServer, delivery_keeps, timer_keeps, timer_serves}
use Rattle.tp_runs.proofs.walks.Steps.{WasSent}
use Rattle.tp_runs.proofs.walks.Ups.{stay_up}
use Rattle.tp_runs.proofs.weights.Weights.{weight_at, weight_of, weighs_some}
use Rattle.tp_runs.proofs.weights.World.{eases_next}
use Rattle.tp_types.proofs.EachLemmas.{each_get, each_of_all, missing}
use Rattle.tp_types.specs.Each.{Each}
use Rattle.tp_auto.proofs.FoundLemmas.{AllRunning, all_running, first_behind, none_behind}
use Rattle.tp_auto.proofs.NextLemmas.{boot_allowed, down_found, found_holds, txns_exist}
use Rattle.tp_auto.proofs.PotentialLemmas.{coordinator_boot_falls, count_most, delivery_falls, potential, server_boot_falls, submission_falls, timer_falls}
use Rattle.tp_auto.proofs.StandsLemmas.{Stands, stands_next}
use Rattle.tp_auto.specs.Auto.{cursor_after, first_armed, lowest_down, lowest_unsubmitted, most_queries, next_by, next_of, txns_of}

-- ---- what the phase keeps

pub record Going (sc : Scenario) (m : Machine) (cursor : ℕ) : Type 0 where
  pub stands : Stands sc m
  pub running : 1 ≤ cursor → AllRunning sc m.state.actors
  pub served : (txn : TxnId) → txn.0 < cursor → IsServedAt sc m txn

-- so it is at the start
pub going_first : (sc : Scenario) (m : Machine) → Stands sc m → Going sc m 0
going_first sc m stands = record { stands = stands; running = λ some. absurd (omega (arith, some)); served = λ txn before. absurd (omega (arith, before)) }

-- the step is done, keeps this, and the potential falls
pub record Goes (sc : Scenario) (m : Machine) (cursor : ℕ) (taken : Step) : Type 0 where
  pub exists : IsStepOf sc taken
  pub allowed : refusal m.state taken ≡ None
  pub going : Going sc (machine_after sc m taken) (cursor_after taken cursor)
  pub falls : potential sc (machine_after sc m taken) (cursor_after taken cursor) + 1 ≤ potential sc m cursor

-- ---- boots and submissions

-- an actor that crashes exists
crasher_is : (sc : Scenario) (who : Actor) → IsCrasher sc who → IsActor sc who
crasher_is sc (actor.Server at) exists = exists
crasher_is sc (actor.Coordinator txn) exists = exists
crasher_is sc actor.Master exists = absurd exists
crasher_is sc actor.Authority exists = absurd exists

boot_falls : (sc : Scenario) (m : Machine) (who : Actor) (cursor : ℕ) → is_valid sc ≡ true → Stands sc m → IsCrasher sc who → refusal m.state (step.Boot who) ≡ None
    → potential sc (machine_after sc m (step.Boot who)) cursor + 1 ≤ potential sc m cursor
boot_falls sc m (actor.Server at) cursor formed s exists allowed =
    server_boot_falls sc m (actor.Server at) cursor s.sent (eases_next sc m (most_queries sc.txns) (step.Boot (actor.Server at)) formed s.holds s.few (count_most sc) exists allowed)
boot_falls sc m (actor.Coordinator txn) cursor formed s exists allowed =
    coordinator_boot_falls sc m (actor.Coordinator txn) cursor s.sent (eases_next sc m (most_queries sc.txns) (step.Boot (actor.Coordinator txn)) formed s.holds s.few (count_most sc) exists allowed)
boot_falls sc m actor.Master cursor formed s exists allowed = absurd exists
boot_falls sc m actor.Authority cursor formed s exists allowed = absurd exists

boot_goes : (sc : Scenario) (m : Machine) (cursor : ℕ) (who : Actor) → is_valid sc ≡ true → Going sc m cursor → lowest_down sc m.state.actors ≡ Some who → Goes sc m cursor (step.Boot who)
boot_goes sc m zero who formed g e =
    let found = down_found sc m.state.actors who e in
    let allowed = boot_allowed m.state who found.1 in
    record {
      exists = found.0;
      allowed = allowed;
      going = going_first sc (machine_after sc m (step.Boot who)) (stands_next sc m (step.Boot who) formed found.0 allowed g.stands);
      falls = boot_falls sc m who 0 formed g.stands found.0 allowed;
    }
boot_goes sc m (suc cursor) who formed g e =
    let found = down_found sc m.state.actors who e in
    let up : is_down m.state.actors who ≡ false = (g.running (omega arith)).up who (crasher_is sc who found.0) in
    let down : is_down m.state.actors who ≡ true = found.1 in
    absurd (cc)

submission_allowed : (b : Bool) (why : StepError) → not b ≡ true → (if b then Some why else None) ≡ None
submission_allowed true why e = absurd (cc)
submission_allowed false why e = refl

submission_goes : (sc : Scenario) (m : Machine) (cursor : ℕ) (txn : TxnId) → is_valid sc ≡ true → Going sc m cursor → lowest_unsubmitted sc m.state.actors ≡ Some txn → Goes sc m cursor (step.Submit txn)
submission_goes sc m zero txn formed g e =
    let found = found_holds (IsTxn sc) (λ (t : TxnId). not (is_submitted m.state.actors t)) (txns_of sc) txn (txns_exist sc) e in
    let allowed : refusal m.state (step.Submit txn) ≡ None = submission_allowed (is_submitted m.state.actors txn) (error.AlreadySubmitted txn) found.1 in
    record {
      exists = found.0;
      allowed = allowed;
      going = going_first sc (machine_after sc m (step.Submit txn)) (stands_next sc m (step.Submit txn) formed found.0 allowed g.stands);
      falls = submission_falls sc m txn 0 g.stands.sent (eases_next sc m (most_queries sc.txns) (step.Submit txn) formed g.stands.holds g.stands.few (count_most sc) found.0 allowed);
    }
submission_goes sc m (suc cursor) txn formed g e =
    let found = found_holds (IsTxn sc) (λ (t : TxnId). not (is_submitted m.state.actors t)) (txns_of sc) txn (txns_exist sc) e in
    let begun : is_submitted m.state.actors txn ≡ true = (g.running (omega arith)).begun txn found.0 in
    let new : not (is_submitted m.state.actors txn) ≡ true = found.1 in
    absurd (cc)

-- ---- deliveries

-- a transaction that was submitted stays so
counted : (found : Option (Part Coordinator)) → option_map_or (λ (part : Part Coordinator). is_part_submitted part.up) found false ≡ true → 1 ≤ submitted_count found
counted None e = absurd (cc)
counted (Some part) e = by_up part.up e
  where
    by_begun : (b : Bool) → b ≡ true → 1 ≤ once b
    by_begun true f = omega arith
    by_begun false f = absurd (cc)

    by_up : (up : Option Coordinator) → is_part_submitted up ≡ true → 1 ≤ submitted_up up
    by_up None f = omega arith
    by_up (Some c) f = by_begun (is_begun c.phase) f

submitted_again : (found : Option (Part Coordinator)) → 1 ≤ submitted_count found → option_map_or (λ (part : Part Coordinator). is_part_submitted part.up) found false ≡ true
submitted_again None le = absurd (omega (arith, le))
submitted_again (Some part) le = by_up part.up le
  where
    by_begun : (b : Bool) → 1 ≤ once b → b ≡ true
    by_begun true f = refl
    by_begun false f = absurd (omega (arith, f))

    by_up : (up : Option Coordinator) → 1 ≤ submitted_up up → is_part_submitted up ≡ true
    by_up None f = refl
    by_up (Some c) f = by_begun (is_begun c.phase) f

submitted_stays : (sc : Scenario) (w next : State) (txn : TxnId) (place : ℕ) (happened : List What) → Agrees sc w → Agrees sc next → next.facts ≡ w.facts ++ facts_of place happened → is_submitted w.actors txn ≡ true
    → is_submitted next.actors txn ≡ true
submitted_stays sc w next txn place happened agrees after e was =
    let before = agrees.submitted txn in
    let now = after.submitted txn in
    let more = ap length (ap (λ (facts : List Fact). submissions txn (said facts)) e ∙ found_with_facts (submitted_what txn) w.facts place happened) in
    let both = length-append (submissions txn (said w.facts)) (submissions txn happened) in
    submitted_again (slice_get next.actors.coordinators txn.0) (omega (arith, before, now, more, both, counted (slice_get w.actors.coordinators txn.0) was))

-- whom a mail goes to is up
heard : (sc : Scenario) (w : State) (to : Actor) → Agrees sc w → AllRunning sc w.actors → IsActor sc to → IsHeard w to
heard sc w (actor.Server at) agrees running exists = by_found (slice_get w.actors.servers at.0) refl (running.up (actor.Server at) exists)
  where
    by_up : (part : Part Server) (up : Option Server) → slice_get w.actors.servers at.0 ≡ Some part → part.up ≡ up → is_none up ≡ false → IsHeard w (actor.Server at)
    by_up part None e u f = absurd (cc)
    by_up part (Some s) e u f = ByServer at part s (record { found = e; up = u })

    by_found : (found : Option (Part Server)) → slice_get w.actors.servers at.0 ≡ found → option_map_or is_part_down found false ≡ false → IsHeard w (actor.Server at)
    by_found None e f = absurd (missing w.actors.servers at.0 (omega (arith, exists, agrees.server_count)) e)
    by_found (Some part) e f = by_up part part.up e refl f
heard sc w (actor.Coordinator txn) agrees running exists = by_found (slice_get w.actors.coordinators txn.0) refl (running.up (actor.Coordinator txn) exists)
  where
    by_up : (part : Part Coordinator) (up : Option Coordinator) → slice_get w.actors.coordinators txn.0 ≡ Some part → part.up ≡ up → is_none up ≡ false → IsHeard w (actor.Coordinator txn)
    by_up part None e u f = absurd (cc)
    by_up part (Some c) e u f = ByCoordinator txn part c (record { found = e; up = u })

    by_found : (found : Option (Part Coordinator)) → slice_get w.actors.coordinators txn.0 ≡ found → option_map_or is_part_down found false ≡ false → IsHeard w (actor.Coordinator txn)
    by_found None e f = absurd (missing w.actors.coordinators txn.0 (omega (arith, exists, agrees.coordinator_count)) e)
    by_found (Some part) e f = by_up part part.up e refl f
heard sc w actor.Master agrees running exists = ByMaster
heard sc w actor.Authority agrees running exists = ByAuthority

mail_allowed : (mails number : ℕ) (b : Bool) (why : StepError) → number < mails → nat_lt number mails ≡ b → (if b then None else Some why) ≡ None
mail_allowed mails number true why low e = refl
mail_allowed mails number false why low e = absurd (fails low e)
  where
    fails : number < mails → nat_lt number mails ≡ false → ⊥
    fails below f = let t : nat_lt number mails ≡ true = grind (arith, nat_tests) in cc

delivery_goes : (sc : Scenario) (m : Machine) (cursor n : ℕ) (numbers : List ℕ) → is_valid sc ≡ true → Going sc m cursor → m.undelivered ≡ n ∷ numbers → Goes sc m cursor (step.Deliver n)
delivery_goes sc m cursor n numbers formed g e = by_found (slice_get m.state.mails n) refl
  where
    low : n < length m.state.mails
    low = (subst (Each (λ (number : ℕ). number < length m.state.mails)) e g.stands.sent).0

    allowed : refusal m.state (step.Deliver n) ≡ None
    allowed = mail_allowed (length m.state.mails) n (nat_lt n (length m.state.mails)) (error.NoSuchMail n (length m.state.mails)) low refl

    next : Machine
    next = machine_after sc m (step.Deliver n)

    stands : Stands sc next
    stands = stands_next sc m (step.Deliver n) formed tt allowed g.stands

    running_next : AllRunning sc m.state.actors → AllRunning sc next.state.actors
    running_next r =
        record {
          up = λ who exists. stay_up sc m (step.Deliver n) tt who ∙ r.up who exists;
          begun = λ txn exists.
              submitted_stays sc m.state next.state txn (length m.state.steps) (delivery sc m.state.actors (slice_get m.state.mails n)).happened g.stands.holds.agrees stands.holds.agrees refl (r.begun txn exists);
        }

    by_found : (found : Option Mail) → slice_get m.state.mails n ≡ found → Goes sc m cursor (step.Deliver n)
    by_found None f = absurd (missing m.state.mails n low f)
    by_found (Some mail) f =
        let weighs : 1 ≤ weight_at m.state.mails n =
        subst (λ (found : Option Mail). 1 ≤ option_map_or (λ (sent : Mail). weight_of sent.letter.body) found 0) (sym f) (weighs_some mail.letter.body) in
        let sent : WasSent m.state n mail mail.letter.to = record { sent = f; goes_to = refl } in
        let exists = (each_get _ m.state.mails n mail g.stands.holds.sound.mails_are f).to_is_actor in
        record {
          exists = tt;
          allowed = allowed;
          going = record {
            stands = stands;
            running = λ some. running_next (g.running some);
            served = λ txn before.
                delivery_keeps sc m n mail mail.letter.to txn formed g.stands.holds g.stands.steady stands.holds stands.steady sent
                (heard sc m.state mail.letter.to g.stands.holds.agrees (g.running (omega (arith, before))) exists) (g.served txn before);
          };
          falls = delivery_falls sc m n numbers cursor e g.stands.sent weighs (eases_next sc m (most_queries sc.txns) (step.Deliver n) formed g.stands.holds g.stands.few (count_most sc) tt allowed);
        }

-- ---- timers

-- where no request is outstanding nobody is awaited
idle_awaits : (sc : Scenario) (c : Coordinator) (p : Phase) (who : Actor) → (is_begun p && not (is_done p)) ≡ false → is_awaiting sc c p who ≡ true → ⊥
idle_awaits sc c phase.Idle who e awaits = absurd (cc)
idle_awaits sc c (phase.Stapling number) who e awaits = absurd (cc)
idle_awaits sc c (phase.Querying number staple) who e awaits = absurd (cc)
idle_awaits sc c (phase.Probing number) who e awaits = absurd (cc)
idle_awaits sc c (phase.Asking over round) who e awaits = absurd (cc)
idle_awaits sc c (phase.Checking over round staple) who e awaits = absurd (cc)
idle_awaits sc c (phase.Reading over round) who e awaits = absurd (cc)
idle_awaits sc c (phase.Voting awaited) who e awaits = absurd (cc)
idle_awaits sc c phase.VoteProbing who e awaits = absurd (cc)
idle_awaits sc c (phase.Ending ended []) who e awaits = none_there who awaits
  where
    none_there : (to : Actor) → is_awaiting sc c (phase.Ending ended []) to ≡ true → ⊥
    none_there (actor.Server at) f = absurd (cc)
    none_there (actor.Coordinator txn) f = absurd (cc)
    none_there actor.Master f = absurd (cc)
    none_there actor.Authority f = absurd (cc)
idle_awaits sc c (phase.Ending ended (at ∷ awaited)) who e awaits = absurd (cc)

-- so such a transaction is served
unarmed_served : (sc : Scenario) (m : Machine) (txn : TxnId) → is_armed_at m.state.actors txn ≡ false → IsServedAt sc m txn
unarmed_served sc m txn e part c up who awaits =
    let armed : is_armed_at m.state.actors txn ≡ is_armed c =
    ap (λ (found : Option (Part Coordinator)). option_map_or (λ (p : Part Coordinator). option_map_or is_armed p.up false) found false) up.found
    ∙ ap (λ (u : Option Coordinator). option_map_or is_armed u false) up.up in
    absurd (idle_awaits sc c c.phase who (sym armed ∙ e) awaits)

-- where all are up and submitted all run
all_run : (sc : Scenario) (w : State) → Agrees sc w → AllRunning sc w.actors → AllRun w
all_run sc w agrees running txn part found =
    let exists : IsTxn sc txn = within txn part found in
    by_up part.up refl (sym (ap (λ (p : Option (Part Coordinator)). option_map_or is_part_down p false) found) ∙ running.up (actor.Coordinator txn) exists)
    (sym (ap (λ (p : Option (Part Coordinator)). option_map_or (λ (q : Part Coordinator). is_part_submitted q.up) p false) found) ∙ running.begun txn exists)
  where
    placed : (parts : List (Part Coordinator)) (n : ℕ) (p : Part Coordinator) → slice_get parts n ≡ Some p → n < length parts
    placed [] n p e = absurd (cc)
    placed (q ∷ parts) zero p e = omega arith
    placed (q ∷ parts) (suc n) p e = omega (arith, placed parts n p e)

    within : (t : TxnId) (p : Part Coordinator) → slice_get w.actors.coordinators t.0 ≡ Some p → IsTxn sc t
    within t p e = omega (arith, placed w.actors.coordinators t.0 p e, agrees.coordinator_count)

    by_up : (up : Option Coordinator) → part.up ≡ up → is_none part.up ≡ false → is_part_submitted part.up ≡ true → (c : Coordinator) × ((part.up ≡ Some c) × (is_begun c.phase ≡ true))
    by_up None e down begun = absurd (cc)
    by_up (Some c) e down begun = (c, (e, sym (ap is_part_submitted e) ∙ begun))

-- an armed transaction exists
armed_exists : (sc : Scenario) (w : State) (txn : TxnId) → Agrees sc w → is_armed_at w.actors txn ≡ true → IsTxn sc txn
armed_exists sc w txn agrees armed = omega (arith, placed w.actors.coordinators txn.0 armed, agrees.coordinator_count)
  where
    placed : (parts : List (Part Coordinator)) (n : ℕ) → option_map_or (λ (p : Part Coordinator). option_map_or is_armed p.up false) (slice_get parts n) false ≡ true → n < length parts
    placed [] n e = absurd (cc)
    placed (q ∷ parts) zero e = omega arith
    placed (q ∷ parts) (suc n) e = omega (arith, placed parts n e)

-- before the cursor all are served, and from the cursor on none is armed: then none is armed
none_before : (sc : Scenario) (m : Machine) (cursor : ℕ) (txn : TxnId) → is_valid sc ≡ true → Going sc m cursor → AllRunning sc m.state.actors → m.undelivered ≡ [] → find (is_armed_at m.state.actors) (drop cursor (txns_of sc)) ≡ None
    → is_armed_at m.state.actors txn ≡ true → ⊥
none_before sc m cursor txn formed g running none e armed =
    all_finished sc m txn formed g.stands.holds g.stands.steady none (all_run sc m.state g.stands.holds.agrees running) all_served armed
  where
    by_place : (t : TxnId) (b : Bool) → nat_lt t.0 cursor ≡ b → is_armed_at m.state.actors t ≡ true → IsServedAt sc m t
    by_place t true p a = let before : t.0 < cursor = grind (arith, nat_tests) in g.served t before
    by_place t false p a =
        let behind : 0 + cursor ≤ t.0 = grind (arith, nat_tests) in
        let unarmed : is_armed_at m.state.actors t ≡ false = none_behind (is_armed_at m.state.actors) cursor 0 (length sc.txns) t e behind (omega (arith, armed_exists sc m.state t g.stands.holds.agrees a)) in
        absurd (cc)

    all_served : (t : TxnId) → is_armed_at m.state.actors t ≡ true → IsServedAt sc m t
    all_served t a = by_place t (nat_lt t.0 cursor) refl a

-- so the first armed one from the cursor on is found before the search goes round
timer_goes : (sc : Scenario) (m : Machine) (cursor : ℕ) (txn : TxnId) → is_valid sc ≡ true → Going sc m cursor → AllRunning sc m.state.actors → m.undelivered ≡ [] → first_armed sc m.state.actors cursor ≡ Some txn
    → Goes sc m cursor (step.Timer txn)
timer_goes sc m cursor txn formed g running none e = by_later (find (is_armed_at m.state.actors) (drop cursor (txns_of sc))) refl e
  where
    fires : find (is_armed_at m.state.actors) (drop cursor (txns_of sc)) ≡ Some txn → Goes sc m cursor (step.Timer txn)
    fires f =
        let first = first_behind (is_armed_at m.state.actors) cursor 0 (length sc.txns) txn f in
        let allowed = timer_allowed m.state txn first.passes in
        let exists : IsTxn sc txn = omega (arith, first.within) in
        record {
          exists = exists;
          allowed = allowed;
          going = record {
            stands = stands_next sc m (step.Timer txn) formed exists allowed g.stands;
            running = λ some. running;
            served = λ t before.
                by_place t (nat_lt t.0 cursor) (t.0 == txn.0) refl refl before
                (λ behind earlier. unarmed_served sc m t (first.earlier t (omega (arith, behind)) earlier));
          };
          falls = timer_falls sc m txn cursor g.stands.sent (omega (arith, first.behind)) exists
              (eases_next sc m (most_queries sc.txns) (step.Timer txn) formed g.stands.holds g.stands.few (count_most sc) exists allowed);
        }
      where
        by_place : (t : TxnId) (b same : Bool) → nat_lt t.0 cursor ≡ b → (t.0 == txn.0) ≡ same → t.0 < txn.0 + 1 → (cursor ≤ t.0 → t.0 < txn.0 → IsServedAt sc m t)
            → IsServedAt sc (machine_after sc m (step.Timer txn)) t
        by_place t true same p q before idle = let earlier : t.0 < cursor = grind (arith, nat_tests) in timer_keeps sc m txn t (g.served t earlier)
        by_place t false true p q before idle =
            subst (IsServedAt sc (machine_after sc m (step.Timer txn))) (sym (same_txn_is t txn q)) (timer_serves sc m txn formed g.stands.holds g.stands.steady)
        by_place t false false p q before idle =
            let behind : cursor ≤ t.0 = grind (arith, nat_tests) in
            let apart : t.0 < txn.0 = grind (arith, nat_tests) in
            timer_keeps sc m txn t (idle behind apart)

    by_later : (later : Option TxnId) → find (is_armed_at m.state.actors) (drop cursor (txns_of sc)) ≡ later → option_or later (find (is_armed_at m.state.actors) (take cursor (txns_of sc))) ≡ Some txn → Goes sc m cursor (step.Timer txn)
    by_later None f h =
        let armed = found_holds (λ (t : TxnId). Unit {0}) (is_armed_at m.state.actors) (take cursor (txns_of sc)) txn (each_of_all (λ (t : TxnId). Unit {0}) (λ t. tt) (take cursor (txns_of sc))) h in
        absurd (none_before sc m cursor txn formed g running none f armed.1)
    by_later (Some other) f h = fires (f ∙ h)

-- ---- the next step

pub next_goes : (sc : Scenario) (m : Machine) (cursor : ℕ) (taken : Step) → is_valid sc ≡ true → Going sc m cursor → next_of sc m cursor ≡ Some taken → Goes sc m cursor taken
next_goes sc m cursor taken formed g e = by_down (lowest_down sc m.state.actors) refl e
  where
    by_armed : (found : Option TxnId) → first_armed sc m.state.actors cursor ≡ found → AllRunning sc m.state.actors → m.undelivered ≡ [] → option_map (λ (txn : TxnId). step.Timer txn) found ≡ Some taken → Goes sc m cursor taken
    by_armed None a running none f = absurd (cc)
    by_armed (Some txn) a running none f = subst (Goes sc m cursor) (same_Some (step.Timer txn) taken f) (timer_goes sc m cursor txn formed g running none a)

    by_submitted : (found : Option TxnId) → lowest_unsubmitted sc m.state.actors ≡ found → lowest_down sc m.state.actors ≡ None → m.undelivered ≡ []
        → option_or (option_map (λ (txn : TxnId). step.Submit txn) found) (option_map (λ (txn : TxnId). step.Timer txn) (first_armed sc m.state.actors cursor)) ≡ Some taken → Goes sc m cursor taken
    by_submitted None s down none f = by_armed (first_armed sc m.state.actors cursor) refl (all_running sc m.state.actors down s) none f
    by_submitted (Some txn) s down none f = subst (Goes sc m cursor) (same_Some (step.Submit txn) taken f) (submission_goes sc m cursor txn formed g s)

    by_oldest : (numbers : List ℕ) → m.undelivered ≡ numbers → lowest_down sc m.state.actors ≡ None → next_by sc m.state.actors cursor (slice_get numbers 0) ≡ Some taken → Goes sc m cursor taken
    by_oldest [] u down f = by_submitted (lowest_unsubmitted sc m.state.actors) refl down u f
    by_oldest (n ∷ numbers) u down f = subst (Goes sc m cursor) (same_Some (step.Deliver n) taken f) (delivery_goes sc m cursor n numbers formed g u)

    by_down : (down : Option Actor) → lowest_down sc m.state.actors ≡ down → option_or (option_map (λ (who : Actor). step.Boot who) down) (next_by sc m.state.actors cursor (slice_get m.undelivered 0)) ≡ Some taken → Goes sc m cursor taken
    by_down None d f = by_oldest m.undelivered refl d f
    by_down (Some who) d f = subst (Goes sc m cursor) (same_Some (step.Boot who) taken f) (boot_goes sc m cursor who formed g d)
