-- A transaction that is finished has ended: it was submitted and decided, and each of its servers has settled it so. Agreement says it alone:
-- a coordinator that is up and awaits nothing any more has heard of each server, and what a server has settled is what was decided.
use Rattle.std.specs.List.{list_any}
use Rattle.std.specs.Option.{option_map_or}
use Rattle.std.proofs.Common.{Bool, IfSome, List, None, Option, Some, [], ap, arith, false, is_none, is_some, length, not, option_and_then, option_map, refl, slice_get, subst, suc, sym, true, ℕ, ◌&&◌, ◌+◌, ◌<◌, ◌||◌, ◌∙◌, ◌∷◌, ◌≡◌}
use Rattle.std.proofs.lemmas.Bool.{and_from, and_parts, or_left, or_right}
use Rattle.std.proofs.lemmas.Option.{same_Some, slice_get_within}
use Rattle.tp_types.proofs.EachLemmas.{each_as}
use Rattle.tp_model.specs.Facts.{is_decided_as, is_settled_as, is_submission, outcome_of, same_outcome}
use Rattle.tp_model.specs.Queries.{servers_of}
use Rattle.tp_model.specs.TrustedHistory.{ended_as, has_ended, have_ended}
use Rattle.tp_model.specs.Words.actor
use Rattle.tp_model.specs.Words.outcome
use Rattle.tp_model.specs.Words.{Decision, Fact, Outcome, Scenario, ServerId, Settled, Transaction, TxnId}
use Rattle.tp_coord.specs.Opened.{servers_at}
use Rattle.tp_coord.specs.Row.{is_armed, is_begun, is_done}
use Rattle.tp_coord.specs.State.{Coordinator}
use Rattle.tp_coord.specs.declared.coordinator.Phase.TheVariants as phase
use Rattle.tp_coord.specs.declared.coordinator.Phase.{Phase}
use Rattle.tp_machine.specs.Logs.{decided_at, decided_by, settled_at}
use Rattle.tp_machine.specs.Machine.{State, is_armed_at, is_down, is_part_down, is_part_submitted, is_submitted}
use Rattle.tp_machine.specs.Parts.{Part}
use Rattle.tp_types.specs.Each.{Each}
use Rattle.tp_recover.specs.Log.{decided_in}
use Rattle.tp_runs.proofs.agreement.Coordinator.{AllBut, PhaseAgrees, PhaseRests}
use Rattle.tp_runs.proofs.agreement.End.{settled_part}
use Rattle.tp_runs.proofs.agreement.Logs.{DecidedAs, IsPrepared, IsSettled, once, outcome_settled, submitted_count, submitted_up}
use Rattle.tp_runs.proofs.agreement.Steps.{own_txn}
use Rattle.tp_runs.proofs.agreement.World.{Agrees, CoordinatorUpAgrees, SettledRests}
use Rattle.tp_runs.proofs.basics.Facts.{all_from_each, any_decided, any_settled, any_submitted, outcome_itself, said, submissions}
use Rattle.tp_runs.proofs.basics.Logs.{listed}
use Rattle.tp_runs.specs.Laws.{AreFinished}
use Rattle.tp_runs.specs.Sound.{IsSound}

-- ---- a coordinator that awaits nothing

-- it has decided, and awaits no server
is_ended_phase : (awaited : Phase) → is_begun awaited ≡ true → (is_begun awaited && not (is_done awaited)) ≡ false → (ended : Outcome) × (awaited ≡ phase.Ending ended [])
is_ended_phase (phase.Ending ended []) begun armed = (ended, refl)
is_ended_phase (phase.Ending ended (at ∷ servers)) begun armed = absurd (cc)
is_ended_phase phase.Idle begun armed = absurd (cc)
is_ended_phase (phase.Stapling number) begun armed = absurd (cc)
is_ended_phase (phase.Querying number staple) begun armed = absurd (cc)
is_ended_phase (phase.Probing number) begun armed = absurd (cc)
is_ended_phase (phase.Asking over round) begun armed = absurd (cc)
is_ended_phase (phase.Checking over round staple) begun armed = absurd (cc)
is_ended_phase (phase.Reading over round) begun armed = absurd (cc)
is_ended_phase (phase.Voting servers) begun armed = absurd (cc)
is_ended_phase phase.VoteProbing begun armed = absurd (cc)

all_but_none : (P : ServerId → Type 0) (servers : List ServerId) → AllBut P [] servers → Each P servers
all_but_none P servers h = each_as (λ (at : ServerId). false ≡ false → P at) P (λ at settled. settled refl) servers h

-- ---- a server settles what was decided

settled_as_decided : (sc : Scenario) (w : State) (at : ServerId) (txn : TxnId) (s : Settled) (ended : Outcome) → Agrees sc w → settled_at w.actors.servers at.0 txn ≡ Some s → DecidedAs w.actors.coordinators txn ended
    → s.outcome ≡ ended
settled_as_decided sc w at txn s ended h e d = same s.outcome refl ended d
  where
    rests : SettledRests sc w.actors.coordinators at txn s
    rests = settled_part sc w at txn s (slice_get w.actors.servers at.0) h refl e

    same : (now : Outcome) → s.outcome ≡ now → (decided : Outcome) → DecidedAs w.actors.coordinators txn decided → now ≡ decided
    same outcome.Commit f outcome.Commit k = refl
    same outcome.Abort f outcome.Abort k = refl
    same outcome.Commit f outcome.Abort k = same_Some outcome.Commit outcome.Abort (sym (rests.commit f).1 ∙ k)
    same outcome.Abort f outcome.Commit k = absurd (rests.abort f k)

-- ---- what the facts tell

any_of_one : {A : Type 0} (xs : List A) → length xs ≡ 1 → list_any (λ (x : A). true) xs ≡ true
any_of_one [] e = absurd (omega (arith, e))
any_of_one (x ∷ xs) e = refl

tells_submission : (sc : Scenario) (w : State) (txn : TxnId) → Agrees sc w → submitted_count (slice_get w.actors.coordinators txn.0) ≡ 1 → list_any (is_submission txn) w.facts ≡ true
tells_submission sc w txn h once = any_submitted txn w.facts ∙ any_of_one (submissions txn (said w.facts)) (h.submitted txn ∙ once)

tells_decision : (sc : Scenario) (w : State) (txn : TxnId) (ended : Outcome) → Agrees sc w → DecidedAs w.actors.coordinators txn ended → list_any (is_decided_as txn ended) w.facts ≡ true
tells_decision sc w txn ended h d =
    any_decided txn ended w.facts ∙ (ap (list_any (λ (x : Decision). same_outcome (outcome_of x) ended)) (h.decided txn) ∙ by_decided (decided_at w.actors.coordinators txn.0) d)
  where
    by_decided : (found : Option Decision) → option_map outcome_of found ≡ Some ended → list_any (λ (x : Decision). same_outcome (outcome_of x) ended) (listed found) ≡ true
    by_decided None e = absurd (cc)
    by_decided (Some x) e = ap (λ (o : Outcome). same_outcome o ended || false) (same_Some (outcome_of x) ended e) ∙ ap (λ (b : Bool). b || false) (outcome_itself ended)

tells_settlement : (sc : Scenario) (w : State) (txn : TxnId) (ended : Outcome) (at : ServerId) → Agrees sc w → DecidedAs w.actors.coordinators txn ended → IsSettled w.actors.servers txn at
    → list_any (is_settled_as at txn ended) w.facts ≡ true
tells_settlement sc w txn ended at h d settled =
    any_settled at txn ended w.facts ∙ (ap (list_any (λ (o : Outcome). same_outcome o ended)) (h.settled at txn) ∙ by_settled (settled_at w.actors.servers at.0 txn) refl settled)
  where
    by_settled : (found : Option Settled) → settled_at w.actors.servers at.0 txn ≡ found → is_some found ≡ true → list_any (λ (o : Outcome). same_outcome o ended) (listed (option_map outcome_settled found)) ≡ true
    by_settled None e there = absurd (cc)
    by_settled (Some s) e there =
        ap (λ (o : Outcome). same_outcome o ended || false) (settled_as_decided sc w at txn s ended h e d) ∙ ap (λ (b : Bool). b || false) (outcome_itself ended)

-- ---- one transaction

tells_end : (sc : Scenario) (w : State) (txn : TxnId) (declared : Transaction) (ended : Outcome) → Agrees sc w → slice_get sc.txns txn.0 ≡ Some declared → DecidedAs w.actors.coordinators txn ended
    → Each (IsSettled w.actors.servers txn) (servers_at sc txn) → ended_as (servers_of sc declared) w.facts txn ended ≡ true
tells_end sc w txn declared ended h found d settled =
    let servers : Each (IsSettled w.actors.servers txn) (servers_of sc declared) =
    subst (λ (one : Option Transaction). Each (IsSettled w.actors.servers txn) (option_map_or (servers_of sc) one [])) found settled in
    and_from _ _ (tells_decision sc w txn ended h d)
    (all_from_each (IsSettled w.actors.servers txn) (λ (at : ServerId). list_any (is_settled_as at txn ended) w.facts) (λ at here. tells_settlement sc w txn ended at h d here) (servers_of sc declared) servers)

tells_whole : (sc : Scenario) (w : State) (txn : TxnId) (declared : Transaction) (ended : Outcome) → list_any (is_submission txn) w.facts ≡ true → ended_as (servers_of sc declared) w.facts txn ended ≡ true
    → has_ended sc w.facts txn declared ≡ true
tells_whole sc w txn declared outcome.Commit submitted e = and_from _ _ submitted (or_left (ended_as (servers_of sc declared) w.facts txn outcome.Commit) (ended_as (servers_of sc declared) w.facts txn outcome.Abort) e)
tells_whole sc w txn declared outcome.Abort submitted e = and_from _ _ submitted (or_right (ended_as (servers_of sc declared) w.facts txn outcome.Commit) (ended_as (servers_of sc declared) w.facts txn outcome.Abort) e)

coordinator_ended : (sc : Scenario) (w : State) (txn : TxnId) (declared : Transaction) (part : Part Coordinator) (c : Coordinator) (ended : Outcome) → IsSound sc w → Agrees sc w → slice_get sc.txns txn.0 ≡ Some declared
    → slice_get w.actors.coordinators txn.0 ≡ Some part → part.up ≡ Some c → c.phase ≡ phase.Ending ended [] → has_ended sc w.facts txn declared ≡ true
coordinator_ended sc w txn declared part c ended sound h found there up e =
    let same : c.txn ≡ txn = own_txn sc w txn part c sound there up in
    let state : CoordinatorUpAgrees sc w.actors.servers txn part.log c =
    subst (λ (u : Option Coordinator). IfSome u (CoordinatorUpAgrees sc w.actors.servers txn part.log)) up (h.coordinators txn.0 part there).state in
    let decided_here : PhaseAgrees (phase.Ending ended []) (decided_in part.log) = subst (λ (p : Phase). PhaseAgrees p (decided_in part.log)) e state.agrees.decided in
    let decided : DecidedAs w.actors.coordinators txn ended = subst (λ (p : Option (Part Coordinator)). option_map outcome_of (option_and_then decided_by p) ≡ Some ended) (sym there) decided_here in
    let replied : PhaseRests (IsPrepared w.actors.servers txn) (IsSettled w.actors.servers txn) (phase.Ending ended []) (servers_at sc c.txn) =
    subst (λ (p : Phase). PhaseRests (IsPrepared w.actors.servers txn) (IsSettled w.actors.servers txn) p (servers_at sc c.txn)) e state.replied in
    let settled : Each (IsSettled w.actors.servers txn) (servers_at sc txn) =
    subst (λ (t : TxnId). Each (IsSettled w.actors.servers txn) (servers_at sc t)) same (all_but_none (IsSettled w.actors.servers txn) (servers_at sc c.txn) replied) in
    let submitted : submitted_count (slice_get w.actors.coordinators txn.0) ≡ 1 =
    ap submitted_count there ∙ (ap submitted_up up ∙ ap (λ (p : Phase). once (is_begun p)) e) in
    tells_whole sc w txn declared ended (tells_submission sc w txn h submitted) (tells_end sc w txn declared ended h found decided settled)

not_so : (b : Bool) → not b ≡ true → b ≡ false
not_so false e = refl
not_so true e = absurd (cc)

-- it was submitted, and its coordinator is up and awaits nothing
txn_ended : (sc : Scenario) (w : State) (txn : TxnId) (declared : Transaction) → IsSound sc w → Agrees sc w → is_submitted w.actors txn ≡ true → is_down w.actors (actor.Coordinator txn) ≡ false → is_armed_at w.actors txn ≡ false
    → slice_get sc.txns txn.0 ≡ Some declared → has_ended sc w.facts txn declared ≡ true
txn_ended sc w txn declared sound h submitted running unarmed found = by_part (slice_get w.actors.coordinators txn.0) refl submitted running unarmed
  where
    by_up : (part : Part Coordinator) (up : Option Coordinator) → slice_get w.actors.coordinators txn.0 ≡ Some part → part.up ≡ up → is_part_submitted up ≡ true → is_none up ≡ false → option_map_or is_armed up false ≡ false
        → has_ended sc w.facts txn declared ≡ true
    by_up part None there e s r a = absurd (cc)
    by_up part (Some c) there e s r a = let ended = is_ended_phase c.phase s a in coordinator_ended sc w txn declared part c ended.0 sound h found there e ended.1

    by_part : (part : Option (Part Coordinator)) → slice_get w.actors.coordinators txn.0 ≡ part → option_map_or (λ (p : Part Coordinator). is_part_submitted p.up) part false ≡ true
        → option_map_or is_part_down part false ≡ false → option_map_or (λ (p : Part Coordinator). option_map_or is_armed p.up false) part false ≡ false → has_ended sc w.facts txn declared ≡ true
    by_part None there s r a = absurd (cc)
    by_part (Some part) there s r a = by_up part part.up there refl s r a

-- ---- all transactions

ended_from : (sc : Scenario) (facts : List Fact) (first : ℕ) (txns : List Transaction)
    → ((n : ℕ) (declared : Transaction) → slice_get txns n ≡ Some declared → has_ended sc facts (record { 0 = first + n }) declared ≡ true) → have_ended sc facts first txns ≡ true
ended_from sc facts first [] h = refl
ended_from sc facts first (one ∷ txns) h =
    let here : first + 0 ≡ first = omega arith in
    and_from _ _ (subst (λ (k : ℕ). has_ended sc facts (record { 0 = k }) one ≡ true) here (h 0 one refl))
    (ended_from sc facts (first + 1) txns (λ n declared e. subst (λ (k : ℕ). has_ended sc facts (record { 0 = k }) declared ≡ true) (next n) (h (suc n) declared e)))
  where
    next : (n : ℕ) → first + suc n ≡ (first + 1) + n
    next n = omega arith

-- where each is finished, each has ended
pub all_ended : (sc : Scenario) (w : State) → IsSound sc w → Agrees sc w → AreFinished sc w → have_ended sc w.facts 0 sc.txns ≡ true
all_ended sc w sound h finished =
    ended_from sc w.facts 0 sc.txns
    (λ n declared found.
    let own : 0 + n ≡ n = omega arith in
    let txn : TxnId = record { 0 = n } in
    let exists : n < length sc.txns = slice_get_within sc.txns n declared found in
    let rests = and_parts (is_submitted w.actors txn && not (is_down w.actors (actor.Coordinator txn))) (not (is_armed_at w.actors txn)) (finished txn exists) in
    let begun = and_parts (is_submitted w.actors txn) (not (is_down w.actors (actor.Coordinator txn))) rests.0 in
    subst (λ (k : ℕ). has_ended sc w.facts (record { 0 = k }) declared ≡ true) (sym own)
    (txn_ended sc w txn declared sound h begun.0 (not_so (is_down w.actors (actor.Coordinator txn)) begun.1) (not_so (is_armed_at w.actors txn) rests.1) found))
