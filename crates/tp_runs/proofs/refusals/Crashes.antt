-- Refusals, crashes and boots: what a crash leaves of a record shows what it would in a receipt, and who boots refuses nothing.
use Rattle.std.specs.List.{list_any}
use Rattle.std.specs.Option.{option_or}
use Rattle.std.proofs.Common.{Bool, IfSome, List, None, Option, Some, [], ap, arith, false, length, refl, sym, true, ℕ, ⊎_elim, ◌++◌, ◌+◌, ◌∙◌, ◌∷◌, ◌≡◌, ◌≤◌}
use Rattle.std.proofs.lemmas.Bool.{or_cases, or_left, or_right}
use Rattle.std.proofs.lemmas.List.Folds.{list_any-append}
use Rattle.std.proofs.lemmas.Option.{same_Some}
use Rattle.tp_model.specs.Causes.{first_abort_of}
use Rattle.tp_model.specs.Facts.{before, is_settled_as}
use Rattle.tp_model.specs.Words.actor
use Rattle.tp_model.specs.Words.cause
use Rattle.tp_model.specs.Words.decision
use Rattle.tp_model.specs.Words.log
use Rattle.tp_model.specs.Words.no
use Rattle.tp_model.specs.Words.outcome
use Rattle.tp_model.specs.Words.what
use Rattle.tp_model.specs.Words.{Cause, Decision, Fact, No, OutOfRange, Record, Scenario, ServerId, Transaction, TxnId, What}
use Rattle.tp_recover.specs.Kept.{kept}
use Rattle.tp_recover.specs.Log.{decided_in}
use Rattle.tp_coord.specs.Booted as coord_boot
use Rattle.tp_coord.specs.Row.{refused_by}
use Rattle.tp_coord.specs.State.{Coordinator}
use Rattle.tp_server.specs.Booted.{boot_row, booted}
use Rattle.tp_server.specs.State.{Server}
use Rattle.tp_machine.specs.Machine.{goes_down}
use Rattle.tp_machine.specs.Machine.{State, coordinator_fact, coordinator_move, facts_of, server_fact, server_move, state_after}
use Rattle.tp_machine.specs.Parts.{Part}
use Rattle.tp_runs.proofs.agreement.CoordinatorActs.{coordinator_facts}
use Rattle.tp_runs.proofs.agreement.ServerActs.{server_facts}
use Rattle.tp_runs.proofs.agreement.World.{Agrees}
use Rattle.tp_runs.proofs.basics.Facts.{ArePast, before_past, facts_after, grows_with_facts}
use Rattle.tp_runs.proofs.basics.Phases.{is_undecided}
use Rattle.tp_runs.proofs.ids.Valid.{IsValid}
use Rattle.tp_runs.proofs.known.World.{Pairs}
use Rattle.tp_runs.proofs.refusals.Running.{Remembers}
use Rattle.tp_runs.proofs.refusals.Steps.{DecisionShown, IsQuietOwn, OpensNone, SettlementShown, coordinator_moves_in_steps, coordinator_row_shown, quiet_abort, server_moves_in_steps, server_row_shown}
use Rattle.tp_runs.proofs.refusals.World.{IsRefused, MoveRefuses, ReasonShown, Refusals, WhatRefused, explained_same, first_abort_append, state_after_refusals}
use Rattle.tp_runs.proofs.serial_data.World.{Serial}
use Rattle.tp_runs.proofs.walks.Crashes.{CrashCases, Left, LeftOfCoordinator, LeftOfServer, Nothing, crash_cases_as}
use Rattle.tp_runs.proofs.walks.Steps.{IsCoordinatorUp, IsServerUp, WaitRightly}
use Rattle.tp_runs.specs.Sound.{IsSound}

-- ---- what a step shows it shows where more is said first

more_said : (test : Fact → Bool) (place : ℕ) (own more : List What) → list_any test (facts_of place more) ≡ true → list_any test (facts_of place (own ++ more)) ≡ true
more_said test place [] more e = e
more_said test place (w ∷ own) more e = or_right (test (record { place = place; what = w })) (list_any test (facts_of place (own ++ more))) (more_said test place own more e)

any_said : (test : Fact → Bool) (facts : List Fact) (place : ℕ) (own more : List What) → list_any test (facts ++ facts_of place more) ≡ true → list_any test (facts ++ facts_of place (own ++ more)) ≡ true
any_said test facts place own more e =
    let now = list_any test (facts_of place (own ++ more)) in
    list_any-append test facts (facts_of place (own ++ more))
    ∙ ⊎_elim (λ (old : list_any test facts ≡ true). or_left (list_any test facts) now old) (λ (new : list_any test (facts_of place more) ≡ true). or_right (list_any test facts) now (more_said test place own more new))
    (or_cases (list_any test facts) (list_any test (facts_of place more)) (sym (list_any-append test facts (facts_of place more)) ∙ e))

abort_said : (txn : TxnId) (facts : List Fact) (place : ℕ) (own more : List What) → IsQuietOwn own → first_abort_of txn (facts ++ facts_of place (own ++ more)) ≡ first_abort_of txn (facts ++ facts_of place more)
abort_said txn facts place own more quiet =
    first_abort_append txn facts (facts_of place (own ++ more))
    ∙ (ap (option_or (first_abort_of txn facts)) (quiet_abort txn place own more quiet) ∙ sym (first_abort_append txn facts (facts_of place more)))

refused_said : (sc : Scenario) (facts earlier later : List Fact) (place high : ℕ) (own more : List What) (txn : TxnId) (refused : OutOfRange) (declared : Transaction) → high ≤ place + 1 → IsQuietOwn own
    → (list_any (is_settled_as refused.server txn outcome.Abort) earlier ≡ true → list_any (is_settled_as refused.server txn outcome.Abort) later ≡ true)
    → IsRefused sc (facts ++ facts_of place more) earlier high txn refused declared → IsRefused sc (facts ++ facts_of place (own ++ more)) later high txn refused declared
refused_said sc facts earlier later place high own more txn refused declared le quiet aborted h =
    let past = h.past in
    record {
      write = h.write;
      aborted = aborted h.aborted;
      first = h.first;
      first_is = abort_said txn facts place own more quiet ∙ h.first_is;
      past = h.past;
      run = explained_same sc txn facts refused declared h.first place (own ++ more) (omega (arith, past, le)) ∙ (sym (explained_same sc txn facts refused declared h.first place more (omega (arith, past, le))) ∙ h.run);
    }

reason_said : (sc : Scenario) (facts : List Fact) (place : ℕ) (own more : List What) (at : ServerId) (txn : TxnId) (why : Option No) → IsQuietOwn own → IfSome why (ReasonShown sc (facts ++ facts_of place more) (place + 1) at txn)
    → IfSome why (ReasonShown sc (facts ++ facts_of place (own ++ more)) (place + 1) at txn)
reason_said sc facts place own more at txn None quiet h = tt
reason_said sc facts place own more at txn (Some (no.Range number value)) quiet h = λ declared e.
    refused_said sc facts (facts ++ facts_of place more) (facts ++ facts_of place (own ++ more)) place (place + 1) own more txn (refused_by at number value) declared (omega arith) quiet
    (any_said (is_settled_as at txn outcome.Abort) facts place own more) (h declared e)
reason_said sc facts place own more at txn (Some no.Restarted) quiet h = tt

settlement_said : (sc : Scenario) (w : State) (at : ServerId) (own more : List What) (append : Option Record) → IsQuietOwn own → IfSome append (SettlementShown sc w at more) → IfSome append (SettlementShown sc w at (own ++ more))
settlement_said sc w at own more None quiet h = tt
settlement_said sc w at own more (Some (log.Settled s)) quiet h = λ awaiting.
    let k = h awaiting in
    record { prepares = k.prepares; why = reason_said sc w.facts (length w.steps) own more at s.txn s.why quiet k.why }
settlement_said sc w at own more (Some log.Boot) quiet h = tt
settlement_said sc w at own more (Some (log.Told told)) quiet h = tt
settlement_said sc w at own more (Some (log.Prepared p)) quiet h = tt
settlement_said sc w at own more (Some (log.Decided d)) quiet h = tt

-- an abort at a place is shown by the facts before it
cause_said : (sc : Scenario) (w : State) (own more : List What) (txn : TxnId) (why : Cause) → ArePast (length w.steps) w.facts → IsQuietOwn own
    → WhatRefused sc (facts_after w more) (length w.steps) (what.Decided txn (decision.Abort why)) → WhatRefused sc (facts_after w (own ++ more)) (length w.steps) (what.Decided txn (decision.Abort why))
cause_said sc w own more txn (cause.No refused) past quiet h = λ declared e.
    let place = length w.steps in
    let same : before place (facts_after w more) ≡ w.facts = (grows_with_facts w.facts place more).same place (omega arith) ∙ before_past place w.facts past in
    let all : before place (facts_after w (own ++ more)) ≡ w.facts = (grows_with_facts w.facts place (own ++ more)).same place (omega arith) ∙ before_past place w.facts past in
    let aborts : List Fact → Bool = list_any (is_settled_as refused.server txn outcome.Abort) in
    refused_said sc w.facts (before place (facts_after w more)) (before place (facts_after w (own ++ more))) place place own more txn refused declared (omega arith) quiet (λ old. ap aborts (all ∙ sym same) ∙ old) (h declared e)
cause_said sc w own more txn _ past quiet h = tt

decision_said : (sc : Scenario) (w : State) (own more : List What) (append : Option Record) → ArePast (length w.steps) w.facts → IsQuietOwn own → IfSome append (DecisionShown sc w more) → IfSome append (DecisionShown sc w (own ++ more))
decision_said sc w own more None past quiet h = tt
decision_said sc w own more (Some (log.Decided d)) past quiet h = by_decision d.decision h
  where
    by_decision : (decided : Decision) → WhatRefused sc (facts_after w more) (length w.steps) (what.Decided d.txn decided) → WhatRefused sc (facts_after w (own ++ more)) (length w.steps) (what.Decided d.txn decided)
    by_decision (decision.Commit committed) k = tt
    by_decision (decision.Abort why) k = cause_said sc w own more d.txn why past quiet k
decision_said sc w own more (Some log.Boot) past quiet h = tt
decision_said sc w own more (Some (log.Told told)) past quiet h = tt
decision_said sc w own more (Some (log.Prepared p)) past quiet h = tt
decision_said sc w own more (Some (log.Settled s)) past quiet h = tt

-- ---- servers

left_settlement : (sc : Scenario) (w : State) (at : ServerId) (part : Part Server) (s : Server) (append : Option Record) → IsValid sc → WaitRightly sc w → IsSound sc w → Agrees sc w → Pairs sc w → Serial sc w → Remembers sc w → Refusals sc w
    → IsServerUp w at part s → LeftOfServer sc w at s append → IfSome append (SettlementShown sc w at (server_facts at append))
left_settlement sc w at part s _ valid rightly sound a pairs serial known h up Nothing = tt
left_settlement sc w at part s _ valid rightly sound a pairs serial known h up (Left n mail sent) = server_row_shown sc w n mail at part s valid rightly sound a pairs serial known h sent up

crashed_by_server : (sc : Scenario) (w : State) (at : ServerId) (part : Part Server) (s : Server) (append : Option Record) → IsValid sc → WaitRightly sc w → IsSound sc w → Agrees sc w → Pairs sc w → Serial sc w → Remembers sc w → Refusals sc w
    → IsServerUp w at part s → LeftOfServer sc w at s append → MoveRefuses sc w (server_move w.actors at (goes_down (server_fact at) (what.Crashed (actor.Server at) ∷ []) part append))
crashed_by_server sc w at part s append valid rightly sound a pairs serial known h up left =
    let own = what.Crashed (actor.Server at) ∷ [] in
    server_moves_in_steps sc w at part None own append [] valid a pairs serial known h up.found (tt, tt)
    (settlement_said sc w at own (server_facts at append) append (tt, tt) (left_settlement sc w at part s append valid rightly sound a pairs serial known h up left))

-- ---- coordinators

left_decision : (sc : Scenario) (w : State) (txn : TxnId) (part : Part Coordinator) (c : Coordinator) (append : Option Record) → IsSound sc w → Agrees sc w → Refusals sc w → IsCoordinatorUp w txn part c → LeftOfCoordinator sc w txn c append
    → IfSome append (DecisionShown sc w (coordinator_facts append))
left_decision sc w txn part c _ sound a h up Nothing = tt
left_decision sc w txn part c _ sound a h up (Left n mail sent) = coordinator_row_shown sc w txn part c n mail sound a h sent up

crashed_by_coordinator : (sc : Scenario) (w : State) (txn : TxnId) (part : Part Coordinator) (c : Coordinator) (append : Option Record) → IsSound sc w → Agrees sc w → Refusals sc w → IsCoordinatorUp w txn part c → LeftOfCoordinator sc w txn c append
    → MoveRefuses sc w (coordinator_move w.actors txn (goes_down coordinator_fact (what.Crashed (actor.Coordinator txn) ∷ []) part append))
crashed_by_coordinator sc w txn part c append sound a h up left =
    let own = what.Crashed (actor.Coordinator txn) ∷ [] in
    coordinator_moves_in_steps sc w txn part None own append [] h up.found (λ next is undecided. absurd (cc)) (tt, tt)
    (decision_said sc w own (coordinator_facts append) append a.past (tt, tt) (left_decision sc w txn part c append sound a h up left))

-- one that boots has decided
decided_opens : (was : Option Coordinator) (new : Coordinator) → is_undecided new.phase ≡ false → OpensNone was (Some new)
decided_opens was new decided = λ next is undecided.
    let same : is_undecided new.phase ≡ is_undecided next.phase = ap (λ (c : Coordinator). is_undecided c.phase) (same_Some new next is) in
    absurd (cc)

boot_decided : (sc : Scenario) (txn : TxnId) (decided : Option Decision) → is_undecided (coord_boot.boot_by sc txn decided).state.phase ≡ false
boot_decided sc txn None = refl
boot_decided sc txn (Some decision_is) = refl

boot_shown : (sc : Scenario) (w : State) (txn : TxnId) (happened : List What) (decided : Option Decision) → IfSome (coord_boot.boot_by sc txn decided).reaction.append (DecisionShown sc w happened)
boot_shown sc w txn happened None = tt
boot_shown sc w txn happened (Some decision_is) = tt

-- ---- all of them

pub refusals_crash_cases : (sc : Scenario) (w : State) → IsValid sc → WaitRightly sc w → IsSound sc w → Agrees sc w → Pairs sc w → Serial sc w → Remembers sc w → Refusals sc w → CrashCases sc w (λ taken move. MoveRefuses sc w move)
refusals_crash_cases sc w valid rightly sound a pairs serial known h =
    record {
      server_crashed = λ at part s cut append up left. crashed_by_server sc w at part s append valid rightly sound a pairs serial known h up left;
      server_booted = λ at part exists found down.
          let k = kept sc at part.log in
          server_moves_in_steps sc w at part (Some (booted sc at k)) [] (Some log.Boot) (boot_row sc at k).reaction.letters valid a pairs serial known h found tt tt;
      coordinator_crashed = λ txn part c cut append exists up begun left. crashed_by_coordinator sc w txn part c append sound a h up left;
      coordinator_booted = λ txn part exists found down.
          let effect = coord_boot.boot_row sc txn part.log in
          coordinator_moves_in_steps sc w txn part (Some effect.state) [] effect.reaction.append effect.reaction.letters h found (decided_opens part.up effect.state (boot_decided sc txn (decided_in part.log))) tt
          (boot_shown sc w txn (coordinator_facts effect.reaction.append) (decided_in part.log));
    }

-- refusals stay shown
pub refusals_crashed : (sc : Scenario) (w : State) → IsValid sc → WaitRightly sc w → IsSound sc w → Agrees sc w → Pairs sc w → Serial sc w → Remembers sc w → Refusals sc w → CrashCases sc w (λ taken move. Refusals sc (state_after w taken move))
refusals_crashed sc w valid rightly sound a pairs serial known h =
    crash_cases_as sc w (λ taken move. MoveRefuses sc w move) (λ taken move. Refusals sc (state_after w taken move)) (λ taken move t. state_after_refusals sc w taken move a.past h t)
    (refusals_crash_cases sc w valid rightly sound a pairs serial known h)
