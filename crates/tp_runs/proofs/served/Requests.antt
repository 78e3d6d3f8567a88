-- Served, what is known of a request of the present turn when it comes to its server: that the server does not ignore
-- it.
use Rattle.std.specs.Option.{option_flatten, option_map_or}
use Rattle.std.proofs.Common.{Bool, Contains, IfSome, List, None, Option, Some, ap, arith, false, is_some, length, not, option_and_then, option_map, refl, slice_get, subst, sym, true, ℕ, ⊎_elim, ◌+◌, ◌<◌, ◌==◌, ◌∙◌, ◌≡◌, ◌≤◌}
use Rattle.std.proofs.lemmas.Bool.{cases_lt, eqb-true, not-false}
use Rattle.std.proofs.lemmas.Option.{slice_get_within}
use Rattle.tp_types.proofs.EachLemmas.{each_found, each_get, found_passes, missing}
use Rattle.tp_types.specs.Table.{is_unset}
use Rattle.tp_model.specs.Facts.{outcome_of}
use Rattle.tp_model.specs.Words.actor
use Rattle.tp_model.specs.Words.body
use Rattle.tp_model.specs.Words.{Actor, Body, DecideRequest, Deed, Decision, DoneReply, Mail, No, Prepared, QueryRequest, Scenario, ServerId, Settled, Transaction, TxnId}
use Rattle.tp_recover.specs.Log.{decided_in, settled_in}
use Rattle.tp_coord.specs.State.{Coordinator}
use Rattle.tp_coord.specs.declared.coordinator.Phase.{Phase}
use Rattle.tp_coord.specs.declared.coordinator.Phase.TheVariants as phase
use Rattle.tp_machine.specs.Logs.{decided_at, decided_by}
use Rattle.tp_machine.specs.Machine.{State}
use Rattle.tp_machine.specs.Parts.{Part}
use Rattle.tp_server.specs.Row as server
use Rattle.tp_server.specs.State.{Server}
use Rattle.tp_server.specs.declared.server.Ballot.{Ballot}
use Rattle.tp_server.specs.declared.server.Entry.{Entry}
use Rattle.tp_runs.proofs.agreement.Coordinator.{PhaseAgrees}
use Rattle.tp_runs.proofs.agreement.Logs.{DecidedAs}
use Rattle.tp_runs.proofs.agreement.Steps.{coordinator_agrees, mail_sound, own_txn, server_agrees}
use Rattle.tp_runs.proofs.basics.Found.{answer_in, of_some}
use Rattle.tp_runs.proofs.basics.Phases.{Asks, Prepares, is_undecided, stand_of}
use Rattle.tp_runs.proofs.basics.Turns.{TurnFits}
use Rattle.tp_runs.proofs.known.World.{HasPlaces, asker_of_up, pair_of_up}
use Rattle.tp_runs.proofs.pairs.Actors.{BodyPairs, LetterPairs, QueryAt, asker_at, asker_of, pair_at, pair_up, site_of}
use Rattle.tp_runs.proofs.pairs.Answered.{answer_present}
use Rattle.tp_runs.proofs.pairs.CoordinatorRows.{undecided_asker}
use Rattle.tp_runs.proofs.pairs.Fits.{AskerFits, Covers, DoneFits, EntryFits, Fits, IsGone, IsThere, QueryFits, QueryLive, Tells, There, Waits}
use Rattle.tp_runs.proofs.pairs.Loses.{same_held}
use Rattle.tp_runs.proofs.pairs.Pair.{Pair, entry_held, held, held_up, if_voted, numbers, prepared_held, voted_held}
use Rattle.tp_runs.proofs.pairs.Site.{Site, here, upto_none}
use Rattle.tp_runs.proofs.runs.Runs.{Holds}
use Rattle.tp_runs.proofs.served.Awaited.{AsksQuery, AsksVerdicts, AsksVote}
use Rattle.tp_runs.proofs.served.ServerRows.{MayEnd, MayRun, MayShow, MayVote}
use Rattle.tp_runs.proofs.served.Steady.{Steady}
use Rattle.tp_runs.proofs.served.Steady as steady_worlds
use Rattle.tp_runs.proofs.trust.Coordinator.{declared_there}
use Rattle.tp_runs.proofs.trust.Kept.{AreKept, IsKept, IsTrusted, vote_cast}
use Rattle.tp_runs.proofs.trust.World.{Timely, up_at, up_of}
use Rattle.tp_runs.proofs.walks.Steps.{IsCoordinatorUp, IsServerUp, WasSent}
use Rattle.tp_runs.specs.Sound.{IsSoundBody, IsSoundQuery}

-- ---- a pair whose coordinator has not decided

-- a transaction at a server that is up, with its coordinator, which has not decided
record IsPaired (sc : Scenario) (s : Server) (kept : Pair) (c : Coordinator) (at : ServerId) : Type 0 where
  declared : Transaction
  declared_is : slice_get sc.txns c.txn.0 ≡ Some declared
  fits : Fits (site_of sc at.0 declared) kept
  asker_is : kept.asker ≡ Some (asker_of at.0 c)
  entry_is : kept.entry ≡ server.entry_at s c.txn
  is_up : kept.up ≡ true

-- the pair of a server and a coordinator that are up
paired : (sc : Scenario) (w : State) (at : ServerId) (part : Part Server) (s : Server) (txn : TxnId) (cpart : Part Coordinator) (c : Coordinator) → Holds sc w → IsServerUp w at part s → IsCoordinatorUp w txn cpart c
    → is_undecided c.phase ≡ true → IsPaired sc s (pair_up c.txn (asker_at w.actors.coordinators c.txn.0 at.0) s part.log) c at
paired sc w at part s txn cpart c h up cup undecided =
    let same : c.txn ≡ txn = own_txn sc w txn cpart c h.sound cup.found cup.up in
    let there = declared_there sc c.txn (subst (λ (t : TxnId). t.0 < length sc.txns) (sym same) (h.sound.actors_are.coordinators txn.0 cpart cup.found).exists) in
    record {
      declared = there.0;
      declared_is = there.1;
      fits = subst (Fits (site_of sc at.0 there.0)) (pair_of_up w.actors at part s c.txn up.found up.up) (h.pairs.fits c.txn at.0 there.0 there.1);
      asker_is = subst (λ (t : TxnId). asker_at w.actors.coordinators t.0 at.0 ≡ Some (asker_of at.0 c)) (sym same) (asker_of_up w txn cpart c at.0 cup ∙ undecided_asker at.0 c undecided);
      entry_is = refl;
      is_up = refl;
    }

asker_fits : (sc : Scenario) (s : Server) (p : Pair) (c : Coordinator) (at : ServerId) → (k : IsPaired sc s p c at) → AskerFits (site_of sc at.0 k.declared) p (asker_of at.0 c)
asker_fits sc s p c at k = of_some (AskerFits (site_of sc at.0 k.declared) p) p.asker (asker_of at.0 c) k.asker_is k.fits.asker

entry_fits : (sc : Scenario) (s : Server) (p : Pair) (c : Coordinator) (at : ServerId) (entry : Entry) → (k : IsPaired sc s p c at) → server.entry_at s c.txn ≡ Some entry → EntryFits (site_of sc at.0 k.declared) p entry
entry_fits sc s p c at entry k found = of_some (EntryFits (site_of sc at.0 k.declared) p) p.entry entry (k.entry_is ∙ found) k.fits.entry

prepared_there : (prepared : Option Prepared) (found : Option Entry) (entry : Entry) → option_map prepared_held prepared ≡ voted_held found → found ≡ Some entry → is_some entry.ballot ≡ true → (p : Prepared) × (prepared ≡ Some p)
prepared_there (Some p) found entry e f b = (p, refl)
prepared_there None found entry e f b = absurd (none entry.ballot b (e ∙ ap voted_held f))
  where
    none : (ballot : Option Ballot) → is_some ballot ≡ true → None ≡ if_voted ballot (entry_held entry) → ⊥
    none None g h = cc
    none (Some cast) g h = cc

true_or : (b : Bool) → (b ≡ true → ⊥) → b ≡ false
true_or true f = absurd (f refl)
true_or false f = refl

none_of : {A : Type 0} (found : Option A) → is_some found ≡ false → found ≡ None
none_of None e = refl
none_of (Some x) e = absurd (cc)

-- before servers are brought to vote nothing is voted on here
unvoted_here : (sc : Scenario) (s : Server) (p : Pair) (c : Coordinator) (at : ServerId) (entry : Entry) → IsPaired sc s p c at → (stand_of c.phase ≡ Prepares → ⊥) → server.entry_at s c.txn ≡ Some entry → is_some entry.ballot ≡ false
unvoted_here sc s p c at entry k early found =
    true_or (is_some entry.ballot) (λ voted.
    let there = prepared_there p.prepared p.entry entry (k.fits.server.votes k.is_up) (k.entry_is ∙ found) voted in
    early ((asker_fits sc s p c at k).made there.0 there.1).prepares)

-- a place that is there, and has nothing
open_place : (table : List (Option Settled)) (n : ℕ) → n < length table → option_flatten (slice_get table n) ≡ None → is_unset (slice_get table n) ≡ true
open_place table n within e = by_found (slice_get table n) refl e
  where
    by_found : (found : Option (Option Settled)) → slice_get table n ≡ found → option_flatten found ≡ None → is_unset found ≡ true
    by_found None f g = absurd (missing table n within f)
    by_found (Some None) f g = refl
    by_found (Some (Some done)) f g = absurd (cc)

within_settled : (sc : Scenario) (w : State) (at : ServerId) (part : Part Server) (s : Server) (n : ℕ) → Steady sc w → IsServerUp w at part s → n < length sc.txns → n < length s.settled
within_settled sc w at part s n steady up within =
    let places : length s.settled ≡ length sc.txns = of_some (steady_worlds.HasPlaces sc) part.up s up.up (steady.places at.0 part up.found) in
    omega (arith, places, within)

within_txns : (sc : Scenario) (txn : TxnId) (declared : Transaction) → slice_get sc.txns txn.0 ≡ Some declared → txn.0 < length sc.txns
within_txns sc txn declared e = slice_get_within sc.txns txn.0 declared e

-- nor is it settled
open_here : (sc : Scenario) (w : State) (at : ServerId) (part : Part Server) (s : Server) (p : Pair) (c : Coordinator) → Holds sc w → Steady sc w → IsServerUp w at part s → (k : IsPaired sc s p c at) → p.settled ≡ is_some (settled_in c.txn part.log)
    → (stand_of c.phase ≡ Prepares → ⊥) → server.is_open s c.txn ≡ true
open_here sc w at part s p c h steady up k is early =
    let unsettled : p.settled ≡ false = true_or p.settled (λ settled. early ((asker_fits sc s p c at k).unsettled settled)) in
    let none : settled_in c.txn part.log ≡ None = none_of (settled_in c.txn part.log) (sym is ∙ unsettled) in
    open_place s.settled c.txn.0 (within_settled sc w at part s c.txn.0 steady up (within_txns sc c.txn k.declared k.declared_is)) ((server_agrees sc w at part s h.agrees up).settled c.txn ∙ none)

-- ---- a query that waits is the one that is asked

-- what is covered by the epoch that the query names has an answer
covered_answered : (s : Site) (p : Pair) (entry : Entry) (q : QueryRequest) (number : ℕ) → p.entry ≡ Some entry → p.up ≡ true → (f : QueryFits s p q) → EntryFits s p entry → entry.ballot ≡ None → server.names_another_epoch q entry ≡ false
    → 1 ≤ number → number ≤ f.before → here s number ≡ true → is_some (answer_in number entry.answers) ≡ true
covered_answered s p entry q number found up f k unvoted same low high at = by_epoch q.epoch refl same f.covers
  where
    held_is : held p ≡ Some (entry_held entry)
    held_is = held_up p.up p.entry p.prepared up ∙ ap (option_map entry_held) found

    by_epoch : (epoch : Option ℕ) → q.epoch ≡ epoch → option_map_or (λ (e : ℕ). not (e == entry.epoch)) epoch false ≡ false → IfSome epoch (λ (e : ℕ). Tells p e (Covers s f.before)) → is_some (answer_in number entry.answers) ≡ true
    by_epoch None e another covers = absurd (upto_none s f.before number (f.first e) (record { low = low; high = high; at = at }))
    by_epoch (Some named) e another covers =
        let epoch_is : named ≡ entry.epoch = eqb-true named entry.epoch (not-false (named == entry.epoch) another) in
        let there : IsThere p named entry.deeds = subst (λ (n : ℕ). held p ≡ Some (record { epoch = n; deeds = entry.deeds })) (sym epoch_is) held_is in
        ⊎_elim (λ (t : There p named (Covers s f.before)).
        let same_deeds : t.deeds ≡ entry.deeds = same_held p named named t.deeds entry.deeds t.found there in
        k.answered unvoted number (subst (λ (deeds : List Deed). Contains (numbers deeds) number) same_deeds (t.says number low high at)))
        (λ (g : IsGone p named). absurd (g.none entry.deeds there)) covers

-- so a query that waits where the present one comes is asked in the same turn, and is the same
waits_present : (sc : Scenario) (s : Server) (p : Pair) (c : Coordinator) (at : ServerId) (entry : Entry) (q other : QueryRequest) → (k : IsPaired sc s p c at) → server.entry_at s c.txn ≡ Some entry → (f : QueryFits (site_of sc at.0 k.declared) p q)
    → stand_of c.phase ≡ Asks → q.turn ≡ c.turn → server.names_another_epoch q entry ≡ false → entry.waiting ≡ Some other → (other.turn ≡ q.turn) × (other.query ≡ q.query)
waits_present sc s p c at entry q other k found f asks turn same waiting =
    let site = site_of sc at.0 k.declared in
    let a = asker_of at.0 c in
    let e : EntryFits site p entry = entry_fits sc s p c at entry k found in
    let w : Waits site p entry other = of_some (Waits site p entry) entry.waiting other waiting e.waiting in
    let live : QueryLive site q f.before a = of_some (QueryLive site q f.before) p.asker a k.asker_is f.live in
    let now : f.before ≡ length c.deeds = live.live.turn_now asks turn in
    let other_live : QueryLive site other w.fits.before a = of_some (QueryLive site other w.fits.before) p.asker a k.asker_is w.fits.live in
    let past : w.fits.before ≤ length c.deeds = other_live.live.past in
    let here_now : w.fits.before ≡ length c.deeds =
    ⊎_elim (λ (less : w.fits.before < length c.deeds).
    let answered = covered_answered site p entry q (w.fits.before + 1) (k.entry_is ∙ found) k.is_up f e w.unvoted same (omega arith) (omega (arith, less, now)) w.fits.is_here in
    let fresh : answer_in (w.fits.before + 1) entry.answers ≡ None = subst (λ (n : ℕ). answer_in n entry.answers ≡ None) w.fits.number_is w.fresh in
    absurd (cc))
    (λ (more : length c.deeds ≤ w.fits.before). omega (arith, more, past)) (cases_lt w.fits.before (length c.deeds)) in
    let turns : other.turn ≡ c.turn = other_live.live.present here_now in
    (turns ∙ sym turn, omega (arith, w.fits.number_is, f.number_is, here_now, now))

-- ---- a query

-- what a sent query says of its pair
query_says : (sc : Scenario) (w : State) (n : ℕ) (mail : Mail) (at : ServerId) (part : Part Server) (s : Server) (q : QueryRequest) (declared : Transaction) → Holds sc w → WasSent w n mail (actor.Server at) → IsServerUp w at part s
    → mail.letter.body ≡ body.Query q → slice_get sc.txns q.txn.0 ≡ Some declared → QueryFits (site_of sc at.0 declared) (pair_up q.txn (asker_at w.actors.coordinators q.txn.0 at.0) s part.log) q
query_says sc w n mail at part s q declared h sent up said found =
    let all : LetterPairs sc (pair_at w.actors) mail.letter = each_get (λ (m : Mail). LetterPairs sc (pair_at w.actors) m.letter) w.mails n mail h.pairs.mails sent.sent in
    let to : BodyPairs sc (pair_at w.actors) mail.letter.from (actor.Server at) mail.letter.body = subst (λ (t : Actor). BodyPairs sc (pair_at w.actors) mail.letter.from t mail.letter.body) sent.goes_to all in
    let own : QueryAt sc (pair_at w.actors) (actor.Server at) q = subst (BodyPairs sc (pair_at w.actors) mail.letter.from (actor.Server at)) said to in
    subst (λ (p : Pair). QueryFits (site_of sc at.0 declared) p q) (pair_of_up w.actors at part s q.txn up.found up.up) (own declared found)

pub may_run : (sc : Scenario) (w : State) (n : ℕ) (mail : Mail) (at : ServerId) (part : Part Server) (s : Server) (txn : TxnId) (cpart : Part Coordinator) (c : Coordinator) (number : ℕ) → (r : AsksQuery c.txn c.turn number mail.letter.body)
    → Holds sc w → Steady sc w → WasSent w n mail (actor.Server at) → IsServerUp w at part s → IsCoordinatorUp w txn cpart c → is_undecided c.phase ≡ true → stand_of c.phase ≡ Asks → MayRun sc s r.q
may_run sc w n mail at part s txn cpart c number r h steady sent up cup undecided asks =
    let q = r.q in
    let p = pair_up c.txn (asker_at w.actors.coordinators c.txn.0 at.0) s part.log in
    let k : IsPaired sc s p c at = paired sc w at part s txn cpart c h up cup undecided in
    let early : stand_of c.phase ≡ Prepares → ⊥ = λ prepares. cc in
    let found : slice_get sc.txns q.txn.0 ≡ Some k.declared = ap (λ (t : TxnId). slice_get sc.txns t.0) r.txn_is ∙ k.declared_is in
    let f : QueryFits (site_of sc at.0 k.declared) p q =
    subst (λ (t : TxnId). QueryFits (site_of sc at.0 k.declared) (pair_up t (asker_at w.actors.coordinators t.0 at.0) s part.log) q) r.txn_is (query_says sc w n mail at part s q k.declared h sent up r.said_is found) in
    let a = asker_of at.0 c in
    let live : QueryLive (site_of sc at.0 k.declared) q f.before a = of_some (QueryLive (site_of sc at.0 k.declared) q f.before) p.asker a k.asker_is f.live in
    let now : f.before ≡ length c.deeds = live.live.turn_now asks r.turn_is in
    let sound : IsSoundQuery sc (actor.Server at) q = subst (IsSoundBody sc (actor.Server at)) r.said_is (mail_sound sc w n mail (actor.Server at) h.sound sent) in
    let places : length s.entries ≡ length sc.txns = of_some (HasPlaces sc) part.up s up.up (h.pairs.places at.0 part up.found) in
    record {
      unsettled = subst (λ (t : TxnId). server.is_open s t ≡ true) (sym r.txn_is) (open_here sc w at part s p c h steady up k refl early);
      unvoted = λ entry there. unvoted_here sc s p c at entry k early (subst (λ (t : TxnId). server.entry_at s t ≡ Some entry) r.txn_is there);
      given = λ entry done there answered.
          let e : EntryFits (site_of sc at.0 k.declared) p entry = entry_fits sc s p c at entry k (subst (λ (t : TxnId). server.entry_at s t ≡ Some entry) r.txn_is there) in
          let fits : DoneFits (site_of sc at.0 k.declared) p done = each_found (DoneFits (site_of sc at.0 k.declared) p) (λ (d : DoneReply). d.query == q.query) entry.answers done e.answers answered in
          let same : done.query ≡ q.query = eqb-true done.query q.query (found_passes (λ (d : DoneReply). d.query == q.query) entry.answers done answered) in
          answer_present (site_of sc at.0 k.declared) p a done k.asker_is (omega (arith, same, f.number_is, now)) fits ∙ sym r.turn_is;
      waits = λ entry other there same waiting.
          waits_present sc s p c at entry q other k (subst (λ (t : TxnId). server.entry_at s t ≡ Some entry) r.txn_is there) f asks r.turn_is same waiting;
      asked = sound.asked;
      asked_is = sound.asked_is;
      has_value = sound.has_value;
      within = omega (arith, places, sound.txn);
    }

-- ---- verdicts

pub may_show : (sc : Scenario) (w : State) (at : ServerId) (part : Part Server) (s : Server) (txn : TxnId) (cpart : Part Coordinator) (c : Coordinator) (said : Body) → (r : AsksVerdicts c.txn c.turn said)
    → Holds sc w → Steady sc w → IsServerUp w at part s → IsCoordinatorUp w txn cpart c → is_undecided c.phase ≡ true → (stand_of c.phase ≡ Prepares → ⊥) → MayShow sc s r.v
may_show sc w at part s txn cpart c said r h steady up cup undecided early =
    let p = pair_up c.txn (asker_at w.actors.coordinators c.txn.0 at.0) s part.log in
    let k : IsPaired sc s p c at = paired sc w at part s txn cpart c h up cup undecided in
    record {
      unsettled = subst (λ (t : TxnId). server.is_open s t ≡ true) (sym r.txn_is) (open_here sc w at part s p c h steady up k refl early);
      unvoted = λ entry there. unvoted_here sc s p c at entry k early (subst (λ (t : TxnId). server.entry_at s t ≡ Some entry) r.txn_is there);
      declared = k.declared;
      declared_is = ap (λ (t : TxnId). slice_get sc.txns t.0) r.txn_is ∙ k.declared_is;
    }

-- ---- votes

-- what is settled where a transaction is not open
closed_place : (table : List (Option Settled)) (n : ℕ) → n < length table → is_unset (slice_get table n) ≡ false → (done : Settled) × (option_flatten (slice_get table n) ≡ Some done)
closed_place table n within e = by_found (slice_get table n) refl e
  where
    by_found : (found : Option (Option Settled)) → slice_get table n ≡ found → is_unset found ≡ false → (done : Settled) × (option_flatten found ≡ Some done)
    by_found None f g = absurd (missing table n within f)
    by_found (Some None) f g = absurd (cc)
    by_found (Some (Some done)) f g = (done, refl)

undecided_log : (awaited : Phase) (decided : Option Decision) → is_undecided awaited ≡ true → PhaseAgrees awaited decided → decided ≡ None
undecided_log phase.Idle decided e h = h
undecided_log (phase.Stapling number) decided e h = h
undecided_log (phase.Querying number staple) decided e h = h
undecided_log (phase.Probing number) decided e h = h
undecided_log (phase.Asking over round) decided e h = h
undecided_log (phase.Checking over round staple) decided e h = h
undecided_log (phase.Reading over round) decided e h = h
undecided_log (phase.Voting awaited) decided e h = h
undecided_log phase.VoteProbing decided e h = h
undecided_log (phase.Ending ended awaited) decided e h = absurd (cc)

-- one that has not decided was settled with a reason of the server's own
settled_why : (sc : Scenario) (w : State) (at : ServerId) (part : Part Server) (txn : TxnId) (cpart : Part Coordinator) (c : Coordinator) (done : Settled) → Holds sc w → slice_get w.actors.servers at.0 ≡ Some part → IsCoordinatorUp w txn cpart c
    → is_undecided c.phase ≡ true → settled_in c.txn part.log ≡ Some done → is_some done.why ≡ true
settled_why sc w at part txn cpart c done h found cup undecided settled = by_why done.why refl
  where
    same : c.txn ≡ txn
    same = own_txn sc w txn cpart c h.sound cup.found cup.up

    none : decided_at w.actors.coordinators c.txn.0 ≡ None
    none = ap (λ (t : TxnId). decided_at w.actors.coordinators t.0) same ∙ (ap (option_and_then decided_by) cup.found ∙ undecided_log c.phase (decided_in cpart.log) undecided (coordinator_agrees sc w txn cpart c h.agrees cup).agrees.decided)

    by_why : (why : Option No) → done.why ≡ why → is_some why ≡ true
    by_why (Some why) e = refl
    by_why None e =
        let ordered : DecidedAs w.actors.coordinators c.txn done.outcome = ((h.agrees.servers at.0 part found).settled c.txn done settled).ordered e in
        let nothing : option_map outcome_of (decided_at w.actors.coordinators c.txn.0) ≡ None = ap (option_map outcome_of) none in
        absurd (cc)

-- the vote of an entry is of no later turn than the coordinator's
cast_past : (sc : Scenario) (w : State) (at : ServerId) (part : Part Server) (s : Server) (txn : TxnId) (cpart : Part Coordinator) (c : Coordinator) (entry : Entry) (cast : Ballot) → Holds sc w → IsServerUp w at part s → IsCoordinatorUp w txn cpart c
    → is_undecided c.phase ≡ true → server.entry_at s c.txn ≡ Some entry → entry.ballot ≡ Some cast → cast.turn ≤ c.turn
cast_past sc w at part s txn cpart c entry cast h up cup undecided found ballot =
    let T : Body → Type 0 = IsTrusted sc w.facts (length w.steps) (Timely sc w.actors.coordinators) in
    let kept : AreKept T s = of_some (AreKept T) part.up s up.up (h.trusts.servers at.0 part up.found).kept.state in
    let own : IsKept T c.txn entry = kept c.txn.0 entry found in
    let vote : T (vote_cast c.txn cast) = of_some (λ (b : Ballot). T (vote_cast c.txn b)) entry.ballot cast ballot own.ballot in
    let same : c.txn ≡ txn = own_txn sc w txn cpart c h.sound cup.found cup.up in
    let is_up : up_at w.actors.coordinators c.txn.0 ≡ Some c = ap (λ (t : TxnId). up_at w.actors.coordinators t.0) same ∙ (ap (option_and_then up_of) cup.found ∙ cup.up) in
    let timely : TurnFits sc 0 cast.turn (vote_cast c.txn cast) c = of_some (TurnFits sc 0 cast.turn (vote_cast c.txn cast)) (up_at w.actors.coordinators c.txn.0) c is_up (vote.timely 0) in
    (timely undecided).past

pub may_vote : (sc : Scenario) (w : State) (at : ServerId) (part : Part Server) (s : Server) (txn : TxnId) (cpart : Part Coordinator) (c : Coordinator) (said : Body) → (r : AsksVote c.txn c.turn said)
    → Holds sc w → Steady sc w → IsServerUp w at part s → IsCoordinatorUp w txn cpart c → is_undecided c.phase ≡ true → MayVote sc s r.p
may_vote sc w at part s txn cpart c said r h steady up cup undecided =
    let same : c.txn ≡ txn = own_txn sc w txn cpart c h.sound cup.found cup.up in
    let there = declared_there sc c.txn (subst (λ (t : TxnId). t.0 < length sc.txns) (sym same) (h.sound.actors_are.coordinators txn.0 cpart cup.found).exists) in
    let within = within_txns sc c.txn there.0 there.1 in
    record {
      refused = λ closed.
          let place = closed_place s.settled c.txn.0 (within_settled sc w at part s c.txn.0 steady up within) (subst (λ (t : TxnId). server.is_open s t ≡ false) r.txn_is closed) in
          let on_log : settled_in c.txn part.log ≡ Some place.0 = sym ((server_agrees sc w at part s h.agrees up).settled c.txn) ∙ place.1 in
          (place.0, (ap (λ (t : TxnId). option_flatten (slice_get s.settled t.0)) r.txn_is ∙ place.1, settled_why sc w at part txn cpart c place.0 h up.found cup undecided on_log));
      later = λ entry cast found ballot.
          subst (λ (turn : ℕ). cast.turn ≤ turn) (sym r.turn_is) (cast_past sc w at part s txn cpart c entry cast h up cup undecided (subst (λ (t : TxnId). server.entry_at s t ≡ Some entry) r.txn_is found) ballot);
      declared = there.0;
      declared_is = ap (λ (t : TxnId). slice_get sc.txns t.0) r.txn_is ∙ there.1;
    }

-- ---- the end

pub may_end : (sc : Scenario) (w : State) (at : ServerId) (part : Part Server) (s : Server) (txn : TxnId) (cpart : Part Coordinator) (c : Coordinator) (order : DecideRequest) → Holds sc w → Steady sc w → IsServerUp w at part s
    → IsCoordinatorUp w txn cpart c → order.txn ≡ c.txn → MayEnd s order
may_end sc w at part s txn cpart c order h steady up cup is =
    let same : c.txn ≡ txn = own_txn sc w txn cpart c h.sound cup.found cup.up in
    let within : order.txn.0 < length sc.txns = subst (λ (t : TxnId). t.0 < length sc.txns) (sym (is ∙ same)) (h.sound.actors_are.coordinators txn.0 cpart cup.found).exists in
    record { settled = λ closed. ap is_some (closed_place s.settled order.txn.0 (within_settled sc w at part s order.txn.0 steady up within) closed).1 }

-- ---- a transaction whose query is asked is open at each server

pub query_open : (sc : Scenario) (w : State) (at : ServerId) (part : Part Server) (s : Server) (txn : TxnId) (cpart : Part Coordinator) (c : Coordinator) → Holds sc w → Steady sc w → IsServerUp w at part s → IsCoordinatorUp w txn cpart c
    → is_undecided c.phase ≡ true → stand_of c.phase ≡ Asks → server.is_open s c.txn ≡ true
query_open sc w at part s txn cpart c h steady up cup undecided asks =
    open_here sc w at part s (pair_up c.txn (asker_at w.actors.coordinators c.txn.0 at.0) s part.log) c h steady up (paired sc w at part s txn cpart c h up cup undecided) refl (λ prepares. cc)
