-- Deeds and epochs, crashes and boots: a server loses what it did not prepare, though its row went on by then, and comes up with what it did.
use Rattle.std.proofs.Common.{List, None, Option, Some, [], ap, arith, is_some, option_map, false, refl, slice_get, subst, sym, true, ℕ, ◌+◌, ◌∙◌, ◌∷◌, ◌≡◌}
use Rattle.std.proofs.lemmas.List.{length-map}
use Rattle.tp_model.specs.Facts.{outcome_of}
use Rattle.tp_model.specs.Words.actor
use Rattle.tp_model.specs.Words.log
use Rattle.tp_model.specs.Words.outcome
use Rattle.tp_model.specs.Words.what
use Rattle.tp_model.specs.Words.{Decision, Prepared, Record, Scenario, ServerId, Settled, Transaction, TxnId}
use Rattle.tp_recover.proofs.KeptLemmas.{kept_law}
use Rattle.tp_recover.proofs.LogLemmas.{boots_push}
use Rattle.tp_model.specs.ByAge.{by_txn}
use Rattle.tp_recover.specs.Kept.{kept}
use Rattle.tp_recover.specs.Laws.{IsOfScenario}
use Rattle.tp_recover.specs.Log.{decided_in, epoch_in, prepared_in, settled_in}
use Rattle.tp_coord.specs.Booted as coord_boot
use Rattle.tp_coord.specs.Opened.{idle}
use Rattle.tp_coord.specs.State.{Coordinator}
use Rattle.tp_server.specs.Booted.{boot_row, booted, restored}
use Rattle.tp_server.specs.Row.{entry_at, server_row}
use Rattle.tp_server.specs.State.{Server}
use Rattle.tp_server.specs.declared.server.Entry.{Entry}
use Rattle.tp_machine.specs.Machine.{goes_down, server_boots}
use Rattle.tp_machine.specs.Machine.{State, acts_by, coordinator_fact, coordinator_move, server_fact, server_move, state_after}
use Rattle.tp_actor_log.specs.Records.{log_with}
use Rattle.tp_machine.specs.Named.{IsTxn}
use Rattle.tp_machine.specs.Parts.{Part}
use Rattle.tp_runs.proofs.agreement.World.{Agrees}
use Rattle.tp_runs.proofs.basics.Booted.{booted_entry, inquiries_are, records_of_scenario}
use Rattle.tp_runs.proofs.basics.Logs.{prepared_still, settled_still}
use Rattle.tp_runs.proofs.epochs.World.{Epochs}
use Rattle.tp_runs.proofs.known.World.{MovePairs, Pairs, coordinator_acts_pairs, declared_by, pair_of_part, server_acts_pairs, server_sends_pairs, state_after_pairs}
use Rattle.tp_runs.proofs.pairs.Actors.{AllFit, AllNext, asker_at, pair_at, pair_of, site_of}
use Rattle.tp_runs.proofs.pairs.CoordinatorRows.{CoordinatorActsPairs, orders_ask}
use Rattle.tp_runs.proofs.pairs.Ends as pair_ends
use Rattle.tp_runs.proofs.pairs.Fits.{Fits}
use Rattle.tp_runs.proofs.pairs.Follows.{Next, next_both}
use Rattle.tp_runs.proofs.pairs.Moves.{ends, with_asker}
use Rattle.tp_runs.proofs.pairs.Pair.{Asker, Pair}
use Rattle.tp_runs.proofs.pairs.ServerRows.{IsReply}
use Rattle.tp_runs.proofs.walks.Crashes.{CrashCases, LeftOfServer, Left, Nothing, crash_cases_as}
use Rattle.tp_runs.proofs.walks.Steps.{IsServerUp, WaitRightly}
use Rattle.tp_runs.specs.Sound.{IsSound}
use Rattle.tp_types.specs.Each.{Each}

-- ---- a server crashes

-- the pairs of a server, as they fit
own_fit : (sc : Scenario) (w : State) (at : ServerId) (part : Part Server) (up : Option Server) → Pairs sc w → slice_get w.actors.servers at.0 ≡ Some part → part.up ≡ up
    → AllFit sc at.0 (λ txn. pair_of txn (asker_at w.actors.coordinators txn.0 at.0) up part.log)
own_fit sc w at part up h found is txn declared e =
    let asker = asker_at w.actors.coordinators txn.0 at.0 in
    subst (Fits (site_of sc at.0 declared)) (pair_of_part w.actors at part txn found ∙ ap (λ (u : Option Server). pair_of txn asker u part.log) is) (h.fits txn at.0 declared e)

-- it goes down from wherever it is
down_next : (sc : Scenario) (at : ServerId) (A : TxnId → Option Asker) (s : Server) (records : List Record) → AllFit sc at.0 (λ txn. pair_of txn (A txn) (Some s) records)
    → AllNext sc at.0 (λ txn. pair_of txn (A txn) (Some s) records) (λ txn. pair_of txn (A txn) None records)
down_next sc at A s records fits txn declared e = pair_ends.crashes (site_of sc at.0 declared) (pair_of txn (A txn) (Some s) records) refl (fits txn declared e)

-- its row goes on first, and then it goes down
crash_next : (sc : Scenario) (w : State) (at : ServerId) (part : Part Server) (s : Server) (append : Option Record) → WaitRightly sc w → IsSound sc w → Agrees sc w → Epochs sc w → Pairs sc w → IsServerUp w at part s → LeftOfServer sc w at s append
    → AllNext sc at.0 (λ txn. pair_of txn (asker_at w.actors.coordinators txn.0 at.0) part.up part.log) (λ txn. pair_of txn (asker_at w.actors.coordinators txn.0 at.0) None (log_with part.log append))
crash_next sc w at part s _ rightly sound a epochs h up Nothing txn declared e =
    let A : TxnId → Option Asker = λ t. asker_at w.actors.coordinators t.0 at.0 in
    subst (λ (was : Option Server). Next (site_of sc at.0 declared) (pair_of txn (A txn) was part.log) (pair_of txn (A txn) None part.log)) (sym up.up)
    (down_next sc at A s part.log (own_fit sc w at part (Some s) h up.found up.up) txn declared e)
crash_next sc w at part s _ rightly sound a epochs h up (Left n mail sent) txn declared e =
    let A : TxnId → Option Asker = λ t. asker_at w.actors.coordinators t.0 at.0 in
    let effect = server_row sc s mail in
    let now = log_with part.log effect.reaction.append in
    let site = site_of sc at.0 declared in
    let first = (server_sends_pairs sc w rightly sound a epochs h n mail at part s sent up).next txn declared e in
    next_both site (pair_of txn (A txn) part.up part.log) (pair_of txn (A txn) (Some effect.state) now) (pair_of txn (A txn) None now) first
    (pair_ends.crashes site (pair_of txn (A txn) (Some effect.state) now) refl first.fits)

crashed_by_server : (sc : Scenario) (w : State) (at : ServerId) (part : Part Server) (s : Server) (append : Option Record) → WaitRightly sc w → IsSound sc w → Agrees sc w → Epochs sc w → Pairs sc w → IsServerUp w at part s
    → LeftOfServer sc w at s append → MovePairs sc w (server_move w.actors at (goes_down (server_fact at) (what.Crashed (actor.Server at) ∷ []) part append))
crashed_by_server sc w at part s append rightly sound a epochs h up left =
    server_acts_pairs sc w at part None (what.Crashed (actor.Server at) ∷ []) append [] h up.found (record { next = crash_next sc w at part s append rightly sound a epochs h up left; places = tt; replies = tt })

-- ---- a server boots

-- a pair of a server that boots is in the next epoch, with an entry of what is prepared
pair_booted : (sc : Scenario) (at : ServerId) (records : List Record) (txn : TxnId) (asker : Option Asker) → Each (IsOfScenario sc) records
    → pair_of txn asker (Some (booted sc at (kept sc at records))) (log_with records (Some log.Boot)) ≡ pair_ends.booted (pair_of txn asker None records)
pair_booted sc at records txn asker each =
    let s = booted sc at (kept sc at records) in
    let now = log_with records (Some log.Boot) in
    let made : ℕ → Option Settled → Option Entry → Option Prepared → Pair = λ epoch settled entry prepared.
    record { epoch = epoch; up = true; settled = is_some settled; voted = false; entry = entry; prepared = prepared; asker = asker } in
    let epoch : epoch_in now ≡ epoch_in records + 1 = omega (arith, boots_push records log.Boot) in
    ap (λ (n : ℕ). made n (settled_in txn now) (entry_at s txn) (prepared_in txn now)) epoch
    ∙ (ap (λ (settled : Option Settled). made (epoch_in records + 1) settled (entry_at s txn) (prepared_in txn now)) (settled_still txn records (Some log.Boot) refl)
    ∙ (ap (λ (entry : Option Entry). made (epoch_in records + 1) (settled_in txn records) entry (prepared_in txn now)) (booted_entry sc at records each txn)
    ∙ ap (made (epoch_in records + 1) (settled_in txn records) (option_map restored (prepared_in txn records))) (prepared_still txn records (Some log.Boot) refl refl)))

booted_by_server : (sc : Scenario) (w : State) (at : ServerId) (part : Part Server) → IsSound sc w → Pairs sc w → slice_get w.actors.servers at.0 ≡ Some part → part.up ≡ None → MovePairs sc w (server_move w.actors at (server_boots sc at part))
booted_by_server sc w at part sound h found down =
    let A : TxnId → Option Asker = λ txn. asker_at w.actors.coordinators txn.0 at.0 in
    let k = kept sc at part.log in
    let now = log_with part.log (Some log.Boot) in
    let each = records_of_scenario sc at part.log (sound.actors_are.servers at.0 part found).records in
    let fits = own_fit sc w at part None h found down in
    let next : AllNext sc at.0 (λ txn. pair_of txn (A txn) None part.log) (λ txn. pair_of txn (A txn) (Some (booted sc at k)) now) = λ txn declared e.
    subst (Next (site_of sc at.0 declared) (pair_of txn (A txn) None part.log)) (sym (pair_booted sc at part.log txn (A txn) each)) (pair_ends.boots (site_of sc at.0 declared) (pair_of txn (A txn) None part.log) refl (fits txn declared e)) in
    server_acts_pairs sc w at part (Some (booted sc at k)) [] (Some log.Boot) (boot_row sc at k).reaction.letters h found
    (record {
      next = subst (λ (was : Option Server). AllNext sc at.0 (λ txn. pair_of txn (A txn) was part.log) (λ txn. pair_of txn (A txn) (Some (booted sc at k)) now)) (sym down) next;
      places = length-map k.prepared (option_map restored) ∙ (kept_law sc at part.log each).prepared_places;
      replies = inquiries_are (IsReply sc at (λ txn. pair_of txn (A txn) (Some (booted sc at k)) now)) (booted sc at k) (λ p. record { from_is = refl; says = tt }) (by_txn k.prepared);
    })

-- ---- coordinators

-- one that is down, or that has decided, asks no more
ends_at : (sc : Scenario) (w : State) (txn : TxnId) (declared : Transaction) → Pairs sc w → slice_get sc.txns txn.0 ≡ Some declared → (at : ℕ) → Next (site_of sc at declared) (pair_at w.actors txn at) (with_asker (pair_at w.actors txn at) None)
ends_at sc w txn declared h e at = ends (site_of sc at declared) (pair_at w.actors txn at) (h.fits txn at declared e)

crashed_by_coordinator : (sc : Scenario) (w : State) (txn : TxnId) (part : Part Coordinator) (append : Option Record) → Pairs sc w → IsTxn sc txn → slice_get w.actors.coordinators txn.0 ≡ Some part
    → MovePairs sc w (coordinator_move w.actors txn (goes_down coordinator_fact (what.Crashed (actor.Coordinator txn) ∷ []) part append))
crashed_by_coordinator sc w txn part append h exists found =
    let there = declared_by sc txn exists in
    coordinator_acts_pairs sc w there.0 txn part None (what.Crashed (actor.Coordinator txn) ∷ []) append [] h found there.1 (record { next = ends_at sc w txn there.0 h there.1; numbered = tt; requests = tt })

boot_acts : (sc : Scenario) (w : State) (txn : TxnId) (declared : Transaction) (decided : Option Decision) → Pairs sc w → slice_get sc.txns txn.0 ≡ Some declared
    → CoordinatorActsPairs sc declared txn (pair_at w.actors txn) (Some (coord_boot.boot_by sc txn decided).state) (coord_boot.boot_by sc txn decided).reaction.letters
boot_acts sc w txn declared None h e =
    record {
      next = ends_at sc w txn declared h e;
      numbered = tt;
      requests = orders_ask sc declared txn (λ at. with_asker (pair_at w.actors txn at) None) (idle sc txn) outcome.Abort (idle sc txn).servers;
    }
boot_acts sc w txn declared (Some decision_is) h e =
    record {
      next = ends_at sc w txn declared h e;
      numbered = tt;
      requests = orders_ask sc declared txn (λ at. with_asker (pair_at w.actors txn at) None) (idle sc txn) (outcome_of decision_is) (idle sc txn).servers;
    }

booted_by_coordinator : (sc : Scenario) (w : State) (txn : TxnId) (part : Part Coordinator) → Pairs sc w → IsTxn sc txn → slice_get w.actors.coordinators txn.0 ≡ Some part
    → MovePairs sc w (coordinator_move w.actors txn (acts_by coordinator_fact [] part.log (coord_boot.boot_row sc txn part.log)))
booted_by_coordinator sc w txn part h exists found =
    let there = declared_by sc txn exists in
    let effect = coord_boot.boot_row sc txn part.log in
    coordinator_acts_pairs sc w there.0 txn part (Some effect.state) [] effect.reaction.append effect.reaction.letters h found there.1 (boot_acts sc w txn there.0 (decided_in part.log) h there.1)

-- ---- all of them

pub pairs_crash_cases : (sc : Scenario) (w : State) → WaitRightly sc w → IsSound sc w → Agrees sc w → Epochs sc w → Pairs sc w → CrashCases sc w (λ taken move. MovePairs sc w move)
pairs_crash_cases sc w rightly sound a epochs h =
    record {
      server_crashed = λ at part s cut append up left. crashed_by_server sc w at part s append rightly sound a epochs h up left;
      server_booted = λ at part exists found down. booted_by_server sc w at part sound h found down;
      coordinator_crashed = λ txn part c cut append exists up begun left. crashed_by_coordinator sc w txn part append h exists up.found;
      coordinator_booted = λ txn part exists found down. booted_by_coordinator sc w txn part h exists found;
    }

-- what is known of every pair stays so
pub pairs_crashed : (sc : Scenario) (w : State) → WaitRightly sc w → IsSound sc w → Agrees sc w → Epochs sc w → Pairs sc w → CrashCases sc w (λ taken move. Pairs sc (state_after w taken move))
pairs_crashed sc w rightly sound a epochs h =
    crash_cases_as sc w (λ taken move. MovePairs sc w move) (λ taken move. Pairs sc (state_after w taken move)) (λ taken move t. state_after_pairs sc w taken move h t) (pairs_crash_cases sc w rightly sound a epochs h)
