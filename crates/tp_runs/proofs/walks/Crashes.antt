-- Crashes and boots: what a theorem shows of each of these moves, of an actor that is up or down in any state; and one walk of a step that
-- makes one of them.
use Rattle.std.proofs.Common.{Bool, IfSome, None, Option, Some, [], ap, arith, false, if◌then◌else◌, is_none, length, option_and_then, refl, slice_get, true, ℕ, ◌∷◌, ◌≡◌}
use Rattle.std.proofs.lemmas.Bool.{eqb-true}
use Rattle.std.specs.Option.{option_map_or, option_or}
use Rattle.tp_model.specs.Words.actor
use Rattle.tp_model.specs.Words.step
use Rattle.tp_model.specs.Words.what
use Rattle.tp_model.specs.Words.{Actor, Cut, Mail, Record, Scenario, ServerId, Step, TxnId}
use Rattle.tp_coord.specs.Row.{coordinator_row, is_begun}
use Rattle.tp_coord.specs.State.{Coordinator}
use Rattle.tp_server.specs.Row.{server_row}
use Rattle.tp_server.specs.State.{Server}
use Rattle.tp_machine.specs.declared.error.StepError.TheVariants as error
use Rattle.tp_machine.specs.Machine.{boot_of_coordinator, boot_of_server, boots, coordinator_boots, coordinator_forces, coordinator_left, crash_of_coordinator, crash_of_server, crash_refusal, crashes}
use Rattle.tp_machine.specs.Machine.{cut_elsewhere, down_now, goes_down, is_down, is_part_down, is_part_submitted, is_submitted, machine_after, missing_cut, refusal, same_actor}
use Rattle.tp_actor_log.specs.Records.{cut_record}
use Rattle.tp_log.specs.Appends.{is_kept}
use Rattle.tp_machine.specs.Machine.{Machine, Move, State, coordinator_fact, coordinator_move, sent_elsewhere, server_boots, server_fact, server_forces, server_left, server_move, state_after, unsubmitted_actor, up_now}
use Rattle.tp_machine.specs.Named.{IsCrasher, IsServer, IsStepOf, IsTxn}
use Rattle.tp_machine.specs.Parts.{Part}
use Rattle.tp_runs.proofs.basics.Ids.{server_number, txn_number}
use Rattle.tp_runs.proofs.walks.Steps.{IsCoordinatorUp, IsServerUp, KeepsUp, WasSent, is_met}
use Rattle.tp_types.proofs.EachLemmas.{missing, not_kept}

-- ---- what a crash leaves

-- what a crash leaves of a record that an actor forces by a mail: nothing, as where it crashes between receipts, or the record
pub data LeftOf (w : State) (who : Actor) (forces : Mail → Option Record) : Option Record → Type 0 where
  Nothing : LeftOf w who forces None
  Left : (n : ℕ) (mail : Mail) → WasSent w n mail who → LeftOf w who forces (forces mail)

-- the record of a server's row
abbrev pub LeftOfServer : Scenario → State → ServerId → Server → Option Record → Type 0
LeftOfServer sc w at s append = LeftOf w (actor.Server at) (λ (mail : Mail). (server_row sc s mail).reaction.append) append

-- the record of a coordinator's row
abbrev pub LeftOfCoordinator : Scenario → State → TxnId → Coordinator → Option Record → Type 0
LeftOfCoordinator sc w txn c append = LeftOf w (actor.Coordinator txn) (λ (mail : Mail). (coordinator_row sc c mail).reaction.append) append

-- what is shown of the record that each mail forces is shown of what is left
pub left_shown : (w : State) (who : Actor) (forces : Mail → Option Record) (append : Option Record) (P : Record → Type 0) → ((n : ℕ) (mail : Mail) → WasSent w n mail who → IfSome (forces mail) P) → LeftOf w who forces append → IfSome append P
left_shown w who forces _ P shown Nothing = tt
left_shown w who forces _ P shown (Left n mail sent) = shown n mail sent

left_if : (w : State) (who : Actor) (forces : Mail → Option Record) (b : Bool) (forced : Record) → LeftOf w who forces (Some forced) → LeftOf w who forces (if b then Some forced else None)
left_if w who forces true forced left = left
left_if w who forces false forced left = Nothing

left_by : (w : State) (who : Actor) (forces : Mail → Option Record) (cut : Cut) (forced : Option Record) → LeftOf w who forces forced → LeftOf w who forces (cut_record cut forced)
left_by w who forces cut None left = Nothing
left_by w who forces cut (Some forced) left = left_if w who forces (is_kept cut.calls cut.fill) forced left

-- a cut leaves nothing of the record, or the whole of it
pub cut_left : (w : State) (who : Actor) (forces : Mail → Option Record) (n : ℕ) (mail : Mail) (cut : Cut) → WasSent w n mail who → LeftOf w who forces (cut_record cut (forces mail))
cut_left w who forces n mail cut sent = left_by w who forces cut (forces mail) (Left n mail sent)

-- ---- the moves

-- what is to be shown of crashes and boots: P of the step and of its move
pub record CrashCases (sc : Scenario) (w : State) (P : Step → Move → Type 0) : Type 0 where
  -- a server crashes, between receipts or in one
  pub server_crashed : (at : ServerId) (part : Part Server) (s : Server) (cut : Option Cut) (append : Option Record) → IsServerUp w at part s → LeftOfServer sc w at s append
      → P (step.Crash (actor.Server at) cut) (server_move w.actors at (goes_down (server_fact at) (what.Crashed (actor.Server at) ∷ []) part append))
  pub server_booted : (at : ServerId) (part : Part Server) → IsServer sc at → slice_get w.actors.servers at.0 ≡ Some part → part.up ≡ None → P (step.Boot (actor.Server at)) (server_move w.actors at (server_boots sc at part))
  -- a coordinator crashes after its transaction was submitted, between receipts or in one
  pub coordinator_crashed : (txn : TxnId) (part : Part Coordinator) (c : Coordinator) (cut : Option Cut) (append : Option Record) → IsTxn sc txn → IsCoordinatorUp w txn part c → is_begun c.phase ≡ true → LeftOfCoordinator sc w txn c append
      → P (step.Crash (actor.Coordinator txn) cut) (coordinator_move w.actors txn (goes_down coordinator_fact (what.Crashed (actor.Coordinator txn) ∷ []) part append))
  pub coordinator_booted : (txn : TxnId) (part : Part Coordinator) → IsTxn sc txn → slice_get w.actors.coordinators txn.0 ≡ Some part → part.up ≡ None
      → P (step.Boot (actor.Coordinator txn)) (coordinator_move w.actors txn (coordinator_boots sc txn part))

-- what follows from P is shown of each
pub crash_cases_as : (sc : Scenario) (w : State) (P Q : Step → Move → Type 0) → ((taken : Step) (move : Move) → P taken move → Q taken move) → CrashCases sc w P → CrashCases sc w Q
crash_cases_as sc w P Q step h =
    record {
      server_crashed = λ at part s cut append up left. step _ _ (h.server_crashed at part s cut append up left);
      server_booted = λ at part exists found down. step _ _ (h.server_booted at part exists found down);
      coordinator_crashed = λ txn part c cut append exists up begun left. step _ _ (h.coordinator_crashed txn part c cut append exists up begun left);
      coordinator_booted = λ txn part exists found down. step _ _ (h.coordinator_booted txn part exists found down);
    }

-- and what is shown by itself is shown together
pub crash_cases_both : {sc : Scenario} {w : State} {P Q : Step → Move → Type 0} → CrashCases sc w P → CrashCases sc w Q → CrashCases sc w (λ taken move. P taken move × Q taken move)
crash_cases_both h k =
    record {
      server_crashed = λ at part s cut append up left. (h.server_crashed at part s cut append up left, k.server_crashed at part s cut append up left);
      server_booted = λ at part exists found down. (h.server_booted at part exists found down, k.server_booted at part exists found down);
      coordinator_crashed = λ txn part c cut append exists up begun left. (h.coordinator_crashed txn part c cut append exists up begun left, k.coordinator_crashed txn part c cut append exists up begun left);
      coordinator_booted = λ txn part exists found down. (h.coordinator_booted txn part exists found down, k.coordinator_booted txn part exists found down);
    }

-- ---- what is not refused

-- neither of two causes stands
neither : {A : Type 0} (one other : Option A) → option_or one other ≡ None → (one ≡ None) × (other ≡ None)
neither None other e = (refl, e)
neither (Some why) other e = absurd (cc)

same_actor_is : (one other : Actor) → same_actor one other ≡ true → one ≡ other
same_actor_is (actor.Server one) (actor.Server other) e = ap (λ (n : ℕ). actor.Server (server_number n)) (eqb-true one.0 other.0 e)
same_actor_is (actor.Server one) (actor.Coordinator other) e = absurd (cc)
same_actor_is (actor.Server one) actor.Master e = absurd (cc)
same_actor_is (actor.Server one) actor.Authority e = absurd (cc)
same_actor_is (actor.Coordinator one) (actor.Server other) e = absurd (cc)
same_actor_is (actor.Coordinator one) (actor.Coordinator other) e = ap (λ (n : ℕ). actor.Coordinator (txn_number n)) (eqb-true one.0 other.0 e)
same_actor_is (actor.Coordinator one) actor.Master e = absurd (cc)
same_actor_is (actor.Coordinator one) actor.Authority e = absurd (cc)
same_actor_is actor.Master (actor.Server other) e = absurd (cc)
same_actor_is actor.Master (actor.Coordinator other) e = absurd (cc)
same_actor_is actor.Master actor.Master e = refl
same_actor_is actor.Master actor.Authority e = absurd (cc)
same_actor_is actor.Authority (actor.Server other) e = absurd (cc)
same_actor_is actor.Authority (actor.Coordinator other) e = absurd (cc)
same_actor_is actor.Authority actor.Master e = absurd (cc)
same_actor_is actor.Authority actor.Authority e = refl

-- a cut that is not refused is in the receipt of a mail to the actor
left_of_mail : (w : State) (who : Actor) (forces : Mail → Option Record) (cut : Cut) (found : Option Mail) → slice_get w.mails cut.mail ≡ found → sent_elsewhere who cut.mail found ≡ None
    → LeftOf w who forces (cut_record cut (option_and_then forces found))
left_of_mail w who forces cut None sent own = Nothing
left_of_mail w who forces cut (Some mail) sent own =
    cut_left w who forces cut.mail mail cut (record { sent = sent; goes_to = same_actor_is mail.letter.to who (is_met (same_actor mail.letter.to who) (error.NotItsMail cut.mail) own) })

server_leaves : (sc : Scenario) (w : State) (at : ServerId) (s : Server) (cut : Option Cut) → cut_elsewhere w.mails (actor.Server at) cut ≡ None → LeftOfServer sc w at s (server_left sc w.mails (Some s) cut)
server_leaves sc w at s None own = Nothing
server_leaves sc w at s (Some cut) own = left_of_mail w (actor.Server at) (server_forces sc (Some s)) cut (slice_get w.mails cut.mail) refl own

coordinator_leaves : (sc : Scenario) (w : State) (txn : TxnId) (c : Coordinator) (cut : Option Cut) → cut_elsewhere w.mails (actor.Coordinator txn) cut ≡ None → LeftOfCoordinator sc w txn c (coordinator_left sc w.mails (Some c) cut)
coordinator_leaves sc w txn c None own = Nothing
coordinator_leaves sc w txn c (Some cut) own = left_of_mail w (actor.Coordinator txn) (coordinator_forces sc (Some c)) cut (slice_get w.mails cut.mail) refl own

-- a crash that is not refused: its transaction was submitted, the actor is up, and the mail of the cut is its own
record MayCrash (w : State) (who : Actor) (cut : Option Cut) : Type 0 where
  begun : unsubmitted_actor w.actors who ≡ None
  up : is_down w.actors who ≡ false
  own : cut_elsewhere w.mails who cut ≡ None

may_crash : (w : State) (who : Actor) (cut : Option Cut) → crash_refusal w who cut ≡ None → MayCrash w who cut
may_crash w who cut allowed =
    let sent = neither (missing_cut w.mails cut) (option_or (unsubmitted_actor w.actors who) (option_or (down_now w.actors who) (cut_elsewhere w.mails who cut))) allowed in
    let begun = neither (unsubmitted_actor w.actors who) (option_or (down_now w.actors who) (cut_elsewhere w.mails who cut)) sent.1 in
    let up = neither (down_now w.actors who) (cut_elsewhere w.mails who cut) begun.1 in
    record { begun = begun.0; up = not_kept (error.IsDown who) (is_down w.actors who) up.0; own = up.1 }

-- ---- a step that crashes an actor

server_crash_by_up : (sc : Scenario) (w : State) (P : Step → Move → Type 0) → CrashCases sc w P → (at : ServerId) (cut : Option Cut) (part : Part Server) (up : Option Server) → slice_get w.actors.servers at.0 ≡ Some part
    → part.up ≡ up → is_none up ≡ false → cut_elsewhere w.mails (actor.Server at) cut ≡ None
    → P (step.Crash (actor.Server at) cut) (server_move w.actors at (goes_down (server_fact at) (what.Crashed (actor.Server at) ∷ []) part (server_left sc w.mails up cut)))
server_crash_by_up sc w P cases at cut part None found e running own = absurd (cc)
server_crash_by_up sc w P cases at cut part (Some s) found e running own =
    cases.server_crashed at part s cut (server_left sc w.mails (Some s) cut) (record { found = found; up = e }) (server_leaves sc w at s cut own)

server_crash_by : (sc : Scenario) (w : State) (P : Step → Move → Type 0) → CrashCases sc w P → (at : ServerId) (cut : Option Cut) (part : Option (Part Server)) → length w.actors.servers ≡ length sc.servers → IsServer sc at
    → slice_get w.actors.servers at.0 ≡ part → option_map_or is_part_down part false ≡ false → cut_elsewhere w.mails (actor.Server at) cut ≡ None
    → P (step.Crash (actor.Server at) cut) (crash_of_server sc w.actors w.mails at cut part)
server_crash_by sc w P cases at cut None count exists found running own = absurd (missing w.actors.servers at.0 (omega (arith, exists, count)) found)
server_crash_by sc w P cases at cut (Some part) count exists found running own = server_crash_by_up sc w P cases at cut part part.up found refl running own

coordinator_crash_by_up : (sc : Scenario) (w : State) (P : Step → Move → Type 0) → CrashCases sc w P → (txn : TxnId) (cut : Option Cut) (part : Part Coordinator) (up : Option Coordinator) → IsTxn sc txn
    → slice_get w.actors.coordinators txn.0 ≡ Some part → part.up ≡ up → is_part_submitted up ≡ true → is_none up ≡ false → cut_elsewhere w.mails (actor.Coordinator txn) cut ≡ None
    → P (step.Crash (actor.Coordinator txn) cut) (coordinator_move w.actors txn (goes_down coordinator_fact (what.Crashed (actor.Coordinator txn) ∷ []) part (coordinator_left sc w.mails up cut)))
coordinator_crash_by_up sc w P cases txn cut part None exists found e submitted running own = absurd (cc)
coordinator_crash_by_up sc w P cases txn cut part (Some c) exists found e submitted running own =
    cases.coordinator_crashed txn part c cut (coordinator_left sc w.mails (Some c) cut) exists (record { found = found; up = e }) submitted (coordinator_leaves sc w txn c cut own)

coordinator_crash_by : (sc : Scenario) (w : State) (P : Step → Move → Type 0) → CrashCases sc w P → (txn : TxnId) (cut : Option Cut) (part : Option (Part Coordinator)) → length w.actors.coordinators ≡ length sc.txns → IsTxn sc txn
    → slice_get w.actors.coordinators txn.0 ≡ part → option_map_or (λ (p : Part Coordinator). is_part_submitted p.up) part false ≡ true → option_map_or is_part_down part false ≡ false
    → cut_elsewhere w.mails (actor.Coordinator txn) cut ≡ None → P (step.Crash (actor.Coordinator txn) cut) (crash_of_coordinator sc w.actors w.mails txn cut part)
coordinator_crash_by sc w P cases txn cut None count exists found submitted running own = absurd (missing w.actors.coordinators txn.0 (omega (arith, exists, count)) found)
coordinator_crash_by sc w P cases txn cut (Some part) count exists found submitted running own = coordinator_crash_by_up sc w P cases txn cut part part.up exists found refl submitted running own

crash_by : (sc : Scenario) (w : State) (P : Step → Move → Type 0) → CrashCases sc w P → length w.actors.servers ≡ length sc.servers → length w.actors.coordinators ≡ length sc.txns → (who : Actor) (cut : Option Cut) → IsCrasher sc who
    → MayCrash w who cut → P (step.Crash who cut) (crashes sc w.actors w.mails who cut)
crash_by sc w P cases servers coordinators (actor.Server at) cut exists may = server_crash_by sc w P cases at cut (slice_get w.actors.servers at.0) servers exists refl may.up may.own
crash_by sc w P cases servers coordinators (actor.Coordinator txn) cut exists may =
    coordinator_crash_by sc w P cases txn cut (slice_get w.actors.coordinators txn.0) coordinators exists refl (is_met (is_submitted w.actors txn) (error.NotSubmitted txn) may.begun) may.up may.own
crash_by sc w P cases servers coordinators actor.Master cut exists may = absurd exists
crash_by sc w P cases servers coordinators actor.Authority cut exists may = absurd exists

-- ---- a step that boots one

is_down_now : {S : Type 0} (up : Option S) → is_none up ≡ true → up ≡ None
is_down_now None e = refl
is_down_now (Some s) e = absurd (cc)

server_boot_by : (sc : Scenario) (w : State) (P : Step → Move → Type 0) → CrashCases sc w P → (at : ServerId) (part : Option (Part Server)) → length w.actors.servers ≡ length sc.servers → IsServer sc at
    → slice_get w.actors.servers at.0 ≡ part → option_map_or is_part_down part false ≡ true → P (step.Boot (actor.Server at)) (boot_of_server sc w.actors at part)
server_boot_by sc w P cases at None count exists found down = absurd (missing w.actors.servers at.0 (omega (arith, exists, count)) found)
server_boot_by sc w P cases at (Some part) count exists found down = cases.server_booted at part exists found (is_down_now part.up down)

coordinator_boot_by : (sc : Scenario) (w : State) (P : Step → Move → Type 0) → CrashCases sc w P → (txn : TxnId) (part : Option (Part Coordinator)) → length w.actors.coordinators ≡ length sc.txns → IsTxn sc txn
    → slice_get w.actors.coordinators txn.0 ≡ part → option_map_or is_part_down part false ≡ true → P (step.Boot (actor.Coordinator txn)) (boot_of_coordinator sc w.actors txn part)
coordinator_boot_by sc w P cases txn None count exists found down = absurd (missing w.actors.coordinators txn.0 (omega (arith, exists, count)) found)
coordinator_boot_by sc w P cases txn (Some part) count exists found down = cases.coordinator_booted txn part exists found (is_down_now part.up down)

boot_by : (sc : Scenario) (w : State) (P : Step → Move → Type 0) → CrashCases sc w P → length w.actors.servers ≡ length sc.servers → length w.actors.coordinators ≡ length sc.txns → (who : Actor) → IsCrasher sc who
    → is_down w.actors who ≡ true → P (step.Boot who) (boots sc w.actors who)
boot_by sc w P cases servers coordinators (actor.Server at) exists down = server_boot_by sc w P cases at (slice_get w.actors.servers at.0) servers exists refl down
boot_by sc w P cases servers coordinators (actor.Coordinator txn) exists down = coordinator_boot_by sc w P cases txn (slice_get w.actors.coordinators txn.0) coordinators exists refl down
boot_by sc w P cases servers coordinators actor.Master exists down = absurd exists
boot_by sc w P cases servers coordinators actor.Authority exists down = absurd exists

-- ---- steps

-- what is shown of crashes and boots, and of the state after each other step, holds of the state after any step that is not refused
pub every_step_by : (sc : Scenario) (m : Machine) (Q : State → Type 0) → CrashCases sc m.state (λ taken move. Q (state_after m.state taken move)) → length m.state.actors.servers ≡ length sc.servers
    → length m.state.actors.coordinators ≡ length sc.txns → (taken : Step) → IsStepOf sc taken → refusal m.state taken ≡ None → (KeepsUp taken → Q (machine_after sc m taken).state) → Q (machine_after sc m taken).state
every_step_by sc m Q cases servers coordinators (step.Crash who None) exists allowed others =
    crash_by sc m.state (λ taken move. Q (state_after m.state taken move)) cases servers coordinators who None exists (may_crash m.state who None allowed)
every_step_by sc m Q cases servers coordinators (step.Crash who (Some cut)) exists allowed others =
    crash_by sc m.state (λ taken move. Q (state_after m.state taken move)) cases servers coordinators who (Some cut) exists (may_crash m.state who (Some cut) allowed)
every_step_by sc m Q cases servers coordinators (step.Boot who) exists allowed others =
    let down = (neither (unsubmitted_actor m.state.actors who) (up_now m.state.actors who) allowed).1 in
    boot_by sc m.state (λ taken move. Q (state_after m.state taken move)) cases servers coordinators who exists (is_met (is_down m.state.actors who) (error.NotDown who) down)
every_step_by sc m Q cases servers coordinators _ exists allowed others = others tt
