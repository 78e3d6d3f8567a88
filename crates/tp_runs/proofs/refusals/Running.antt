-- Where no server has aborted a transaction, and none of its servers has crashed since its submission, its coordinator,
-- once it brings the servers to vote, has done what the transaction does by itself on the store: all that it got from a
-- server is still there, and was read from the server's values.
use Rattle.std.specs.List.{list_any}
use Rattle.std.specs.Option.{option_map_or}
use Rattle.std.proofs.Common.{Bool, IfSome, List, None, Option, Some, [], ap, arith, false, find, if◌then◌else◌, inl, inr, is_some, length, option_and_then, option_map, refl, slice_get, subst, sym, true, ℕ, ⊎_elim, ◌&&◌, ◌+◌, ◌<◌, ◌==◌, ◌∙◌, ◌∷◌, ◌≡◌, ◌≤◌, ◌⊎◌}
use Rattle.std.proofs.lemmas.Bool.{and_from, and_parts, eq-eqb, eqb-true, false_from_ne_true, or_cases, or_from, or_left, or_right}
use Rattle.std.proofs.lemmas.Option.{same_Some}
use Rattle.tp_model.specs.Agreement.{has_item_at}
use Rattle.tp_model.specs.Causes.{first_abort_of, is_abort, is_abort_what, is_crash_what, is_own_server, is_server_actor, is_server_of, lost_work, place_of}
use Rattle.tp_model.specs.Facts.{is_settled_as, is_settled_what, outcome_of, same_outcome}
use Rattle.tp_model.specs.Ids.{same_server, same_txn}
use Rattle.tp_model.specs.SerialRun.{overlay, serial_run, store_of}
use Rattle.tp_model.specs.Valid.{is_valid_txn}
use Rattle.tp_model.specs.Queries.{servers_of}
use Rattle.tp_model.specs.Words.actor
use Rattle.tp_model.specs.Words.outcome
use Rattle.tp_model.specs.Words.what
use Rattle.tp_model.specs.Words.{Decision, Deed, Fact, Outcome, Scenario, ServerId, Settled, Transaction, TxnId, What}
use Rattle.tp_runs.proofs.agreement.Coordinator.{PhaseAgrees}
use Rattle.tp_runs.proofs.agreement.Logs.{DecidedAs, outcome_settled}
use Rattle.tp_runs.proofs.agreement.World.{Agrees, CoordinatorUpAgrees}
use Rattle.tp_runs.proofs.basics.Crashes.{crash_shown, crashed_from, shown_among_others}
use Rattle.tp_runs.proofs.basics.Facts.{any_settled, said, settlements}
use Rattle.tp_runs.proofs.basics.Ids.{same_server_is, server_number}
use Rattle.tp_runs.proofs.basics.Rounds.{all_in, is_in}
use Rattle.tp_runs.proofs.basics.Servers.{among_servers}
use Rattle.tp_runs.proofs.deaths.Told.{Told}
use Rattle.tp_runs.proofs.epochs.Asked.{asked_in}
use Rattle.tp_runs.proofs.epochs.Kept.{CoordinatorKeeps}
use Rattle.tp_runs.proofs.epochs.World.{Epochs}
use Rattle.tp_types.proofs.EachLemmas.{each_as, each_get, missing, some_value}
use Rattle.tp_types.specs.Each.{Each}
use Rattle.tp_runs.proofs.basics.Logs.{listed}
use Rattle.tp_runs.proofs.basics.Phases.{Prepares, is_undecided, stand_of}
use Rattle.tp_runs.proofs.ids.Valid.{IsValid}
use Rattle.tp_runs.proofs.pairs.Actors.{asker_by, asker_of, asker_up, entry_by, entry_up, is_part_up, pair_at, site_of}
use Rattle.tp_runs.proofs.pairs.Fits.{AskerFits, IsGone, Matches, Pairing, There}
use Rattle.tp_runs.proofs.basics.Found.{of_some}
use Rattle.tp_runs.proofs.pairs.Moves.{matched}
use Rattle.tp_runs.proofs.pairs.Outcomes.{got_part}
use Rattle.tp_runs.proofs.pairs.Pair.{Held, entry_held, got, held, held_up, numbers_none}
use Rattle.tp_runs.proofs.known.World.{Pairs}
use Rattle.tp_runs.proofs.refusals.World.{IsAwaiting}
use Rattle.tp_runs.proofs.restarts.Counted.{IsInEpoch, never_crashed}
use Rattle.tp_runs.proofs.restarts.Shown.{told_submitted}
use Rattle.tp_runs.proofs.restarts.Since.{KeptSince}
use Rattle.tp_runs.proofs.restarts.World.{Restarts, SinceIn}
use Rattle.tp_runs.proofs.serial_data.Clear.{HasShare, HasShares, commit_clear, entry_share}
use Rattle.tp_runs.proofs.deeds.Commits.{commit_serial}
use Rattle.tp_runs.proofs.deeds.Joined.{share_at}
use Rattle.tp_runs.proofs.deeds.Lengths.{store_length}
use Rattle.tp_runs.proofs.deeds.Ranges.{store_within}
use Rattle.tp_runs.proofs.deeds.Reads.{ReadsFrom}
use Rattle.tp_runs.proofs.serial_data.Shares.{no_share, server_there, share_reads}
use Rattle.tp_runs.proofs.serial_data.Unsettled.{IsUnsettled}
use Rattle.tp_runs.proofs.serial_data.World.{Serial}
use Rattle.tp_runs.proofs.walks.Steps.{IsServerUp}
use Rattle.tp_recover.specs.Log.{decided_in, epoch_in, settled_in, values_in}
use Rattle.tp_machine.specs.Logs.{decided_at, decided_by, epoch_at, epoch_by, settled_at, settled_by}
use Rattle.tp_machine.specs.Named.{IsServer}
use Rattle.tp_machine.specs.Machine.{State}
use Rattle.tp_machine.specs.Parts.{Part}
use Rattle.tp_coord.specs.State.{Coordinator}
use Rattle.tp_coord.specs.declared.coordinator.Phase.TheVariants as phase
use Rattle.tp_coord.specs.declared.coordinator.Phase.{Phase}
use Rattle.tp_server.specs.declared.server.Entry.{Entry}
use Rattle.tp_server.specs.Row.{entry_at}
use Rattle.tp_server.specs.State.{Server}

-- ---- the coordinator

-- a coordinator brings the servers to vote on a transaction of the scenario, which none of them has aborted, and of
-- which no work was lost
pub record IsRunning (sc : Scenario) (w : State) (txn : TxnId) (declared : Transaction) (awaiting : IsAwaiting w.actors.coordinators txn) : Type 0 where
  pub declared_is : slice_get sc.txns txn.0 ≡ Some declared
  pub prepares : stand_of awaiting.c.phase ≡ Prepares
  pub none : first_abort_of txn w.facts ≡ None
  pub kept : lost_work sc txn w.facts declared (length w.steps) ≡ false

-- what is known of epochs and of crashes
pub record Remembers (sc : Scenario) (w : State) : Type 0 where
  pub epochs : Epochs sc w
  pub told : Told w
  pub restarts : Restarts sc w

pub asker_is : (w : State) (txn : TxnId) (at : ℕ) (awaiting : IsAwaiting w.actors.coordinators txn) → (pair_at w.actors txn at).asker ≡ Some (asker_of at awaiting.c)
asker_is w txn at awaiting =
    ap (option_and_then (asker_by at)) awaiting.found
    ∙ (ap (option_and_then (asker_up at)) awaiting.up ∙ ap (λ (b : Bool). if b then Some (asker_of at awaiting.c) else None) awaiting.undecided)

-- what is known of it at each server
pub asker_fits : (sc : Scenario) (w : State) (txn : TxnId) (at : ℕ) (declared : Transaction) (awaiting : IsAwaiting w.actors.coordinators txn) → Pairs sc w → slice_get sc.txns txn.0 ≡ Some declared
    → AskerFits (site_of sc at declared) (pair_at w.actors txn at) (asker_of at awaiting.c)
asker_fits sc w txn at declared awaiting pairs exists =
    of_some (AskerFits (site_of sc at declared) (pair_at w.actors txn at)) (pair_at w.actors txn at).asker (asker_of at awaiting.c) (asker_is w txn at awaiting) (pairs.fits txn at declared exists).asker

undecided_log : (awaited : Phase) (decided : Option Decision) → is_undecided awaited ≡ true → PhaseAgrees awaited decided → decided ≡ None
undecided_log phase.Idle decided e h = h
undecided_log (phase.Stapling number) decided e h = h
undecided_log (phase.Querying number staple) decided e h = h
undecided_log (phase.Probing number) decided e h = h
undecided_log (phase.Asking over round) decided e h = h
undecided_log (phase.Checking over round staple) decided e h = h
undecided_log (phase.Reading over round) decided e h = h
undecided_log (phase.Voting awaited) decided e h = h
undecided_log phase.VoteProbing decided e h = h
undecided_log (phase.Ending ended awaited) decided e h = absurd (cc)

-- nothing is decided on its log
pub undecided_yet : (sc : Scenario) (w : State) (txn : TxnId) (awaiting : IsAwaiting w.actors.coordinators txn) → Agrees sc w → decided_in awaiting.part.log ≡ None
undecided_yet sc w txn awaiting agrees =
    let own : CoordinatorUpAgrees sc w.actors.servers txn awaiting.part.log awaiting.c =
    subst (λ (u : Option Coordinator). IfSome u (CoordinatorUpAgrees sc w.actors.servers txn awaiting.part.log)) awaiting.up (agrees.coordinators txn.0 awaiting.part awaiting.found).state in
    undecided_log awaiting.c.phase (decided_in awaiting.part.log) awaiting.undecided own.agrees.decided

-- ---- no server has settled it

settled_is_abort : (at : ServerId) (txn : TxnId) (w : What) → is_settled_what at txn outcome.Abort w ≡ true → is_abort_what txn w ≡ true
settled_is_abort at txn (what.Settled other of_txn ended) e =
    let parts = and_parts (same_server other at && same_txn of_txn txn) (same_outcome ended outcome.Abort) e in
    and_from (same_txn of_txn txn) (same_outcome ended outcome.Abort) (and_parts (same_server other at) (same_txn of_txn txn) parts.0).1 parts.1
settled_is_abort at txn _ e = absurd (cc)

-- where there is no first abort there is none at any server
pub none_aborted : (at : ServerId) (txn : TxnId) (facts : List Fact) → first_abort_of txn facts ≡ None → list_any (is_settled_as at txn outcome.Abort) facts ≡ false
none_aborted at txn [] none = refl
none_aborted at txn (fact ∷ facts) none = by_test (is_abort txn fact) refl none (none_aborted at txn facts)
  where
    by_test : (b : Bool) → is_abort txn fact ≡ b → option_map place_of (if b then Some fact else find (is_abort txn) facts) ≡ None
        → (first_abort_of txn facts ≡ None → list_any (is_settled_as at txn outcome.Abort) facts ≡ false) → list_any (is_settled_as at txn outcome.Abort) (fact ∷ facts) ≡ false
    by_test true e f later = absurd (cc)
    by_test false e f later =
        or_from (is_settled_as at txn outcome.Abort fact) (list_any (is_settled_as at txn outcome.Abort) facts)
        (false_from_ne_true (is_settled_as at txn outcome.Abort fact) (λ here. let abort = settled_is_abort at txn fact.what here in cc)) (later f)

-- a server at its place that is up
record IsUpAt (w : State) (at : ServerId) : Type 0 where
  part : Part Server
  s : Server
  up : IsServerUp w at part s

-- a crash of one of the transaction's servers
own_crash : (sc : Scenario) (at : ServerId) (declared : Transaction) (x : What) → is_server_of sc at declared ≡ true → is_crash_what (is_server_actor at) x ≡ true → is_crash_what (is_own_server sc declared) x ≡ true
own_crash sc at declared (what.Crashed (actor.Server other)) own e = subst (λ (s : ServerId). is_server_of sc s declared ≡ true) (sym (same_server_is other at e)) own
own_crash sc at declared (what.Crashed _) own e = absurd (cc)
own_crash sc at declared _ own e = absurd (cc)

-- one with an item of the transaction is among its servers
pub own_server_of : (sc : Scenario) (at : ServerId) (txn : TxnId) (declared : Transaction) → slice_get sc.txns txn.0 ≡ Some declared → IsServer sc at → has_item_at sc at txn ≡ true → is_server_of sc at declared ≡ true
own_server_of sc at txn declared there exists item =
    let own = servers_of sc declared in
    let each : Each (λ (s : ServerId). is_server_of sc s declared ≡ true) own =
    each_as (λ (s : ServerId). is_in own s ≡ true) (λ (s : ServerId). is_server_of sc s declared ≡ true) (λ s e. any_flipped s own e) own (all_in own) in
    among_servers (λ (s : ServerId). is_server_of sc s declared ≡ true) sc at txn exists item
    (subst (Each (λ (s : ServerId). is_server_of sc s declared ≡ true)) (sym (ap (λ (d : Option Transaction). option_map_or (servers_of sc) d []) there)) each)
  where
    any_flipped : (s : ServerId) (servers : List ServerId) → is_in servers s ≡ true → list_any (same_server s) servers ≡ true
    any_flipped s [] e = absurd (cc)
    any_flipped s (first ∷ servers) e =
        ⊎_elim (λ (here : (first.0 == s.0) ≡ true). or_left (same_server s first) (list_any (same_server s) servers) (eq-eqb s.0 first.0 (sym (eqb-true first.0 s.0 here))))
        (λ (later : is_in servers s ≡ true). or_right (same_server s first) (list_any (same_server s) servers) (any_flipped s servers later)) (or_cases (first.0 == s.0) (is_in servers s) e)

-- a server of the transaction of which an epoch is kept is up, and in that epoch
quiet_up : (sc : Scenario) (w : State) (txn : TxnId) (declared : Transaction) (awaiting : IsAwaiting w.actors.coordinators txn) (at : ServerId) (part : Part Server) (epoch : ℕ) → Agrees sc w → Remembers sc w
    → IsRunning sc w txn declared awaiting → is_server_of sc at declared ≡ true → slice_get w.actors.servers at.0 ≡ Some part → (asker_of at.0 awaiting.c).epoch ≡ Some epoch → IsInEpoch part epoch
quiet_up sc w txn declared awaiting at part epoch agrees known running own found kept =
    let E = epoch_at w.actors.servers in
    let all : KeptSince (SinceIn w.steps w.facts) txn awaiting.c =
    of_some (KeptSince (SinceIn w.steps w.facts) txn) awaiting.part.up awaiting.c awaiting.up (known.restarts.coordinators txn.0 awaiting.part awaiting.found) in
    let since : SinceIn w.steps w.facts txn at epoch = all at.0 epoch kept in
    let keeps : CoordinatorKeeps sc E (asked_in w.mails txn) awaiting.c = of_some (CoordinatorKeeps sc E (asked_in w.mails txn)) awaiting.part.up awaiting.c awaiting.up (known.epochs.coordinators txn.0 awaiting.part awaiting.found) in
    let past : epoch ≤ E at.0 = keeps.past at.0 epoch kept in
    let now : E at.0 ≡ epoch_in part.log = ap (λ (x : Option (Part Server)). option_map_or epoch_by x 0) found in
    never_crashed w.steps w.facts txn (is_server_actor at) part epoch (known.restarts.counted at.0 part found) since (omega (arith, past, now))
    (false_from_ne_true (crashed_from (is_server_actor at) (since.place + 1) w.facts)
    (λ crashed.
    let shown = crash_shown (is_server_actor at) txn (since.place + 1) (length w.steps) w.facts agrees.past (told_submitted txn since.place w.facts (known.told txn since.place since.submitted)) crashed in
    let lost : lost_work sc txn w.facts declared (length w.steps) ≡ true =
    shown_among_others (is_server_actor at) (is_own_server sc declared) txn (length w.steps) w.facts (λ x e. own_crash sc at declared x own e) shown in
    let none = running.kept in
    cc))

-- so it is at its place
record IsUpIn (w : State) (at : ServerId) (epoch : ℕ) : Type 0 where
  there : IsUpAt w at
  epoch_is : epoch ≡ epoch_in there.part.log

running_up : (sc : Scenario) (w : State) (txn : TxnId) (declared : Transaction) (awaiting : IsAwaiting w.actors.coordinators txn) (at : ServerId) (epoch : ℕ) → IsValid sc → Agrees sc w → Remembers sc w
    → IsRunning sc w txn declared awaiting → has_item_at sc at txn ≡ true → (asker_of at.0 awaiting.c).epoch ≡ Some epoch → IsUpIn w at epoch
running_up sc w txn declared awaiting at epoch valid agrees known running item kept = by_part (slice_get w.actors.servers at.0) refl
  where
    exists : at.0 < length sc.servers
    exists = server_there sc at txn valid item

    by_part : (part : Option (Part Server)) → slice_get w.actors.servers at.0 ≡ part → IsUpIn w at epoch
    by_part None e = let within = exists in absurd (missing w.actors.servers at.0 (omega (arith, within, agrees.server_count)) e)
    by_part (Some part) e =
        let is : IsInEpoch part epoch = quiet_up sc w txn declared awaiting at part epoch agrees known running (own_server_of sc at txn declared running.declared_is exists item) e kept in
        let s = some_value part.up is.up in
        record { there = record { part = part; s = s.0; up = record { found = e; up = s.1 } }; epoch_is = is.epoch_is }

unsettled_at : (sc : Scenario) (w : State) (txn : TxnId) (declared : Transaction) (awaiting : IsAwaiting w.actors.coordinators txn) (at : ServerId) (there : IsUpAt w at) → Agrees sc w → IsRunning sc w txn declared awaiting
    → settled_at w.actors.servers at.0 txn ≡ None
unsettled_at sc w txn declared awaiting at there agrees running = by_settled (settled_at w.actors.servers at.0 txn) refl
  where
    not_decided : DecidedAs w.actors.coordinators txn outcome.Commit → ⊥
    not_decided commit =
        let none : decided_at w.actors.coordinators txn.0 ≡ None = ap (option_and_then decided_by) awaiting.found ∙ undecided_yet sc w txn awaiting agrees in
        let no_outcome : option_map outcome_of (decided_at w.actors.coordinators txn.0) ≡ None = ap (option_map outcome_of) none in
        cc

    not_aborted : (settled : Settled) → settled_at w.actors.servers at.0 txn ≡ Some settled → settled.outcome ≡ outcome.Abort → ⊥
    not_aborted settled e abort =
        let told : settlements at txn (said w.facts) ≡ outcome.Abort ∷ [] =
        agrees.settled at txn ∙ (ap (λ (found : Option Settled). listed (option_map outcome_settled found)) e ∙ ap (λ (o : Outcome). o ∷ []) abort) in
        let there_is : list_any (is_settled_as at txn outcome.Abort) w.facts ≡ true = any_settled at txn outcome.Abort w.facts ∙ ap (list_any (λ (o : Outcome). same_outcome o outcome.Abort)) told in
        let none_is : list_any (is_settled_as at txn outcome.Abort) w.facts ≡ false = none_aborted at txn w.facts running.none in
        cc

    by_outcome : (settled : Settled) (ended : Outcome) → settled_at w.actors.servers at.0 txn ≡ Some settled → settled.outcome ≡ ended → settled_at w.actors.servers at.0 txn ≡ None
    by_outcome settled outcome.Commit e is =
        let here : settled_in txn there.part.log ≡ Some settled = sym (ap (option_and_then (settled_by txn)) there.up.found) ∙ e in
        absurd (not_decided (((agrees.servers at.0 there.part there.up.found).settled txn settled here).commit is).1)
    by_outcome settled outcome.Abort e is = absurd (not_aborted settled e is)

    by_settled : (settled : Option Settled) → settled_at w.actors.servers at.0 txn ≡ settled → settled_at w.actors.servers at.0 txn ≡ None
    by_settled None e = e
    by_settled (Some settled) e = by_outcome settled settled.outcome e refl

-- ---- what it got from a server is there

-- the entry that the server holds
held_entry : (w : State) (txn : TxnId) (at : ServerId) (there : IsUpAt w at) → held (pair_at w.actors txn at.0) ≡ option_map entry_held (entry_at there.s txn)
held_entry w txn at there =
    let pair = pair_at w.actors txn at.0 in
    let up_is : pair.up ≡ true = ap (λ (found : Option (Part Server)). option_map_or is_part_up found false) there.up.found ∙ ap is_some there.up.up in
    held_up pair.up pair.entry pair.prepared up_is ∙ ap (option_map entry_held) (ap (option_and_then (entry_by txn)) there.up.found ∙ ap (option_and_then (entry_up txn)) there.up.up)

there_share : (sc : Scenario) (w : State) (txn : TxnId) (at : ServerId) (deeds : List Deed) (there : IsUpAt w at) (h : Held) (entry : Option Entry) → Agrees sc w → Serial sc w → entry_at there.s txn ≡ entry → option_map entry_held entry ≡ Some h
    → h.deeds ≡ share_at sc at.0 deeds → HasShare sc w txn deeds at.0
there_share sc w txn at deeds there h None agrees serial found e same = absurd (cc)
there_share sc w txn at deeds there h (Some entry) agrees serial found e same =
    entry_share sc w txn deeds at.0 there.part there.s entry agrees serial there.up found (ap (λ (x : Held). x.deeds) (same_Some (entry_held entry) h e) ∙ same)

-- nothing of a server's present epoch is lost while it has not settled the transaction
none_gone : (sc : Scenario) (w : State) (txn : TxnId) (declared : Transaction) (awaiting : IsAwaiting w.actors.coordinators txn) (at : ServerId) (there : IsUpAt w at) (epoch : ℕ) → Agrees sc w
    → IsRunning sc w txn declared awaiting → epoch ≡ epoch_in there.part.log → IsGone (pair_at w.actors txn at.0) epoch → ⊥
none_gone sc w txn declared awaiting at there epoch agrees running present gone =
    let pair = pair_at w.actors txn at.0 in
    ⊎_elim
    (λ (down : pair.up ≡ false). let up_is : pair.up ≡ true = ap (λ (found : Option (Part Server)). option_map_or is_part_up found false) there.up.found ∙ ap is_some there.up.up in cc)
    (λ (later : (pair.settled ≡ true) ⊎ (epoch < pair.epoch)).
    ⊎_elim (λ (settled : pair.settled ≡ true). let none : pair.settled ≡ false = ap is_some (unsettled_at sc w txn declared awaiting at there agrees running) in cc)
    (λ (less : epoch < pair.epoch).
    let own : pair.epoch ≡ epoch_by there.part = ap (λ (found : Option (Part Server)). option_map_or epoch_by found 0) there.up.found in
    omega (arith, less, own, present)) later) gone.over

kept_share : (sc : Scenario) (w : State) (txn : TxnId) (declared : Transaction) (awaiting : IsAwaiting w.actors.coordinators txn) (at : ServerId) (kept : Option ℕ) → IsValid sc → Agrees sc w → Pairs sc w → Serial sc w → Remembers sc w
    → IsRunning sc w txn declared awaiting → has_item_at sc at txn ≡ true → (asker_of at.0 awaiting.c).epoch ≡ kept → Pairing (site_of sc at.0 declared) (pair_at w.actors txn at.0) (asker_of at.0 awaiting.c) kept
    → (share_at sc at.0 awaiting.c.deeds ≡ []) ⊎ HasShare sc w txn awaiting.c.deeds at.0
kept_share sc w txn declared awaiting at None valid agrees pairs serial known running item is first =
    let site = site_of sc at.0 declared in
    let old = asker_fits sc w txn at.0 declared awaiting pairs running.declared_is in
    inl (sym (got_part site awaiting.c.deeds old.runs) ∙ numbers_none (got site awaiting.c.deeds) (old.numbers_are ∙ first.none))
kept_share sc w txn declared awaiting at (Some epoch) valid agrees pairs serial known running item is kept =
    let site = site_of sc at.0 declared in
    let pair = pair_at w.actors txn at.0 in
    let a = asker_of at.0 awaiting.c in
    let old = asker_fits sc w txn at.0 declared awaiting pairs running.declared_is in
    let up : IsUpIn w at epoch = running_up sc w txn declared awaiting at epoch valid agrees known running item is in
    ⊎_elim
    (λ (t : There pair epoch (Matches site a)).
    let same : t.deeds ≡ share_at sc at.0 awaiting.c.deeds = matched site a t.deeds (λ asks. let prepares = running.prepares in cc) t.says ∙ got_part site awaiting.c.deeds old.runs in
    inr (there_share sc w txn at awaiting.c.deeds up.there (record { epoch = epoch; deeds = t.deeds }) (entry_at up.there.s txn) agrees serial refl (sym (held_entry w txn at up.there) ∙ t.found) same))
    (λ (gone : IsGone pair epoch). absurd (none_gone sc w txn declared awaiting at up.there epoch agrees running up.epoch_is gone))
    kept.told

-- what it got from a server stands in its entry there; from one without an item of the transaction it got nothing
shares_at : (sc : Scenario) (w : State) (txn : TxnId) (declared : Transaction) (awaiting : IsAwaiting w.actors.coordinators txn) (at : ServerId) (b : Bool) → has_item_at sc at txn ≡ b → IsValid sc → Agrees sc w → Pairs sc w → Serial sc w
    → Remembers sc w → IsRunning sc w txn declared awaiting → (share_at sc at.0 awaiting.c.deeds ≡ []) ⊎ HasShare sc w txn awaiting.c.deeds at.0
shares_at sc w txn declared awaiting at false item valid agrees pairs serial known running =
    let runs = (asker_fits sc w txn at.0 declared awaiting pairs running.declared_is).runs in
    inl (no_share sc at.0 txn declared awaiting.c.deeds running.declared_is runs item)
shares_at sc w txn declared awaiting at true item valid agrees pairs serial known running =
    kept_share sc w txn declared awaiting at (asker_of at.0 awaiting.c).epoch valid agrees pairs serial known running item refl (asker_fits sc w txn at.0 declared awaiting pairs running.declared_is).pairing

-- its share is read from the values that its server's log leaves, which the store has
share_read : (sc : Scenario) (w : State) (txn : TxnId) (deeds : List Deed) (at : ℕ) → Serial sc w → (share_at sc at deeds ≡ []) ⊎ HasShare sc w txn deeds at → ReadsFrom (overlay sc w.facts) (share_at sc at deeds)
share_read sc w txn deeds at serial shares =
    ⊎_elim (λ (nothing : share_at sc at deeds ≡ []). subst (ReadsFrom (overlay sc w.facts)) (sym nothing) tt)
    (λ (h : HasShare sc w txn deeds at).
    share_reads sc at (values_in sc h.part.log) (overlay sc w.facts) deeds (λ k item item_there home. (serial.servers at h.part h.found).kept k item item_there (ap server_number home)) h.reads) shares

-- ---- its run

-- what the coordinator has done is its transaction's run by itself on the store
pub run_now : (sc : Scenario) (w : State) (txn : TxnId) (declared : Transaction) (awaiting : IsAwaiting w.actors.coordinators txn) → IsValid sc → Agrees sc w → Pairs sc w → Serial sc w → Remembers sc w
    → IsRunning sc w txn declared awaiting → awaiting.c.deeds ≡ serial_run declared (store_of sc w.facts)
run_now sc w txn declared awaiting valid agrees pairs serial known running =
    let valid_txn : is_valid_txn sc declared ≡ true = each_get (λ (t : Transaction). is_valid_txn sc t ≡ true) sc.txns txn.0 declared valid.txns running.declared_is in
    let old = asker_fits sc w txn 0 declared awaiting pairs running.declared_is in
    let shares : HasShares sc w txn awaiting.c.deeds = λ n. shares_at sc w txn declared awaiting (server_number n) (has_item_at sc (server_number n) txn) refl valid agrees pairs serial known running in
    let none : decided_at w.actors.coordinators txn.0 ≡ None = ap (option_and_then decided_by) awaiting.found ∙ undecided_yet sc w txn awaiting agrees in
    commit_serial sc declared (IsUnsettled sc w.actors) (λ (n : ℕ). overlay sc w.facts) (store_of sc w.facts) awaiting.c.deeds valid_txn
    (store_within sc (store_of sc w.facts) valid (store_length sc w.facts) serial.range) old.runs (old.all running.prepares)
    (λ n. share_read sc w txn awaiting.c.deeds n serial (shares n)) serial.store
    (commit_clear sc w txn declared awaiting.c.deeds valid agrees serial running.declared_is none old.runs shares)
