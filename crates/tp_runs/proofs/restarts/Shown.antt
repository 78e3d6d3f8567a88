-- A restart is shown: where a server that is up, and has not settled a transaction, has nothing left of an epoch in
-- which the transaction did something there, it has crashed since the submission.
use Rattle.std.specs.Option.{option_flatten, option_map_or}
use Rattle.std.proofs.Common.{List, None, Option, Some, ap, arith, false, is_some, length, not, option_map, refl, slice_get, subst, sym, true, ℕ, ⊎_elim, ◌+◌, ◌<◌, ◌==◌, ◌∙◌, ◌≡◌, ◌⊎◌}
use Rattle.std.proofs.lemmas.Bool.{eqb-false, not-true}
use Rattle.std.proofs.lemmas.Option.{same_Some}
use Rattle.tp_model.specs.Causes.{is_server_actor, submitted_at}
use Rattle.tp_model.specs.Facts.{is_submission, was_submitted}
use Rattle.tp_model.specs.Words.{Deed, Fact, QueryRequest, Scenario, ServerId, TxnId}
use Rattle.tp_recover.specs.Log.{epoch_in, settled_in}
use Rattle.tp_machine.specs.Machine.{State}
use Rattle.tp_machine.specs.Parts.{Part}
use Rattle.tp_server.specs.declared.server.Entry.{Entry}
use Rattle.tp_server.specs.Row.{entry_at, is_open, names_another_epoch}
use Rattle.tp_server.specs.State.{Server}
use Rattle.tp_runs.proofs.agreement.Server.{unset_is}
use Rattle.tp_runs.proofs.agreement.Steps.{server_agrees}
use Rattle.tp_runs.proofs.agreement.World.{Agrees}
use Rattle.tp_runs.proofs.basics.Crashes.{crash_shown}
use Rattle.tp_runs.proofs.deaths.Dying.{found_before}
use Rattle.tp_runs.proofs.deaths.Told.{Told}
use Rattle.tp_runs.proofs.known.World.{pair_of_up}
use Rattle.tp_runs.proofs.pairs.Actors.{asker_at, pair_at, pair_up}
use Rattle.tp_runs.proofs.pairs.Fits.{IsGone, IsOver, Tells, There}
use Rattle.tp_runs.proofs.pairs.Pair.{Held, Pair, entry_held}
use Rattle.tp_runs.proofs.restarts.Counted.{crashed_since}
use Rattle.tp_runs.proofs.restarts.World.{Restarts, ShownIn, SinceIn}
use Rattle.tp_runs.proofs.walks.Steps.{IsServerUp}

-- the submission of a place is among the facts of before the next one
pub told_submitted : (txn : TxnId) (place : ℕ) (facts : List Fact) → submitted_at txn facts ≡ Some place → was_submitted txn (place + 1) facts ≡ true
told_submitted txn place facts e = found_before (is_submission txn) facts place (place + 1) e (omega arith)

-- a server in a later epoch than one of after the submission has crashed since
later_shown : (sc : Scenario) (w : State) (at : ServerId) (part : Part Server) (s : Server) (txn : TxnId) (epoch : ℕ) → Agrees sc w → Told w → Restarts sc w → IsServerUp w at part s → SinceIn w.steps w.facts txn at epoch
    → epoch < epoch_in part.log → ShownIn w.facts (length w.steps) txn at
later_shown sc w at part s txn epoch a told h up since over =
    crash_shown (is_server_actor at) txn (since.place + 1) (length w.steps) w.facts a.past (told_submitted txn since.place w.facts (told txn since.place since.submitted))
    (crashed_since w.steps w.facts txn (is_server_actor at) part s epoch (h.counted at.0 part up.found) up.up since over)

-- what is held of an epoch is held by an entry of it
held_by_entry : (entry : Option Entry) (epoch : ℕ) (deeds : List Deed) → ((found : Entry) → entry ≡ Some found → found.epoch ≡ epoch → ⊥) → option_map entry_held entry ≡ Some (record { epoch = epoch; deeds = deeds }) → ⊥
held_by_entry None epoch deeds none e = cc
held_by_entry (Some entry) epoch deeds none e = none entry refl (ap (λ (h : Held). h.epoch) (same_Some (entry_held entry) (record { epoch = epoch; deeds = deeds }) e))

-- what was begun in an epoch of after the submission, of which no entry is left at a server that is up and has not
-- settled the transaction
pub restart_shown : (sc : Scenario) (w : State) (at : ServerId) (part : Part Server) (s : Server) (txn : TxnId) (epoch : ℕ) (P : List Deed → Type 0) → Agrees sc w → Told w → Restarts sc w → IsServerUp w at part s
    → is_open s txn ≡ true → ((entry : Entry) → entry_at s txn ≡ Some entry → entry.epoch ≡ epoch → ⊥) → SinceIn w.steps w.facts txn at epoch → Tells (pair_at w.actors txn at.0) epoch P
    → ShownIn w.facts (length w.steps) txn at
restart_shown sc w at part s txn epoch P a told h up unsettled none since tells =
    let pair = pair_up txn (asker_at w.actors.coordinators txn.0 at.0) s part.log in
    ⊎_elim (λ (there : There pair epoch P). absurd (held_by_entry (entry_at s txn) epoch there.deeds none there.found)) (λ (gone : IsGone pair epoch). over_shown gone.over)
    (subst (λ (p : Pair). Tells p epoch P) (pair_of_up w.actors at part s txn up.found up.up) tells)
  where
    over_shown : IsOver (pair_up txn (asker_at w.actors.coordinators txn.0 at.0) s part.log) epoch → ShownIn w.facts (length w.steps) txn at
    over_shown over =
        ⊎_elim (λ (down : true ≡ false). absurd (cc))
        (λ (later : (is_some (settled_in txn part.log) ≡ true) ⊎ (epoch < epoch_in part.log)).
        ⊎_elim
        (λ (settled : is_some (settled_in txn part.log) ≡ true).
        let open_is : settled_in txn part.log ≡ None = sym ((server_agrees sc w at part s a up).settled txn) ∙ ap option_flatten (unset_is (slice_get s.settled txn.0) unsettled) in
        let none_is : is_some (settled_in txn part.log) ≡ false = ap is_some open_is in
        absurd (cc))
        (λ (over : epoch < epoch_in part.log). later_shown sc w at part s txn epoch a told h up since over) later) over

-- a query that names another epoch than an entry's
pub other_epoch : (q : QueryRequest) (entry : Entry) (named : ℕ) → q.epoch ≡ Some named → names_another_epoch q entry ≡ true → entry.epoch ≡ named → ⊥
other_epoch q entry named is other same = by_epoch q.epoch is other
  where
    by_epoch : (epoch : Option ℕ) → epoch ≡ Some named → option_map_or (λ (e : ℕ). not (e == entry.epoch)) epoch false ≡ true → ⊥
    by_epoch None f g = cc
    by_epoch (Some e) f g = eqb-false e entry.epoch (not-true (e == entry.epoch) g) (same_Some e named f ∙ sym same)
