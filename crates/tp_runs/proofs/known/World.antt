-- Deeds and epochs over every list of steps: what servers hold of a transaction, what its coordinator got, and what mails say of it.
use Rattle.std.specs.Option.{option_map_or}
use Rattle.std.proofs.Common.{Bool, IfSome, List, None, Option, Some, [], ap, arith, false, if◌then◌else◌, inl, inr, is_some, length, option_and_then, refl, slice_get, slice_set, subst, sym, true, ℕ, ⊎_elim, ◌+◌, ◌<◌, ◌==◌, ◌∙◌, ◌∷◌, ◌≡◌, ◌≤◌, ◌⊎◌}
use Rattle.std.proofs.lemmas.Bool.{eqb-true}
use Rattle.std.proofs.lemmas.List.{length-replicate}
use Rattle.std.proofs.lemmas.Option.{same_Some, slice_get_within}
use Rattle.tp_model.proofs.RuleLemmas as rules
use Rattle.tp_model.specs.Valid.{is_valid}
use Rattle.tp_model.specs.Facts.{outcome_of}
use Rattle.tp_model.specs.Ids.{same_txn}
use Rattle.tp_model.specs.Words.actor
use Rattle.tp_model.specs.Words.body
use Rattle.tp_model.specs.Words.what
use Rattle.tp_model.specs.Words.{Actor, Body, Deed, Fact, Letter, Mail, Record, Scenario, ServerId, Step, Transaction, TxnId, What}
use Rattle.tp_runs.proofs.agreement.Coordinator.{CoordinatorAgrees, PhaseAgrees, submission_unforced}
use Rattle.tp_runs.proofs.agreement.Steps.{coordinator_lawful, mail_rests, mail_sound, own_txn, server_agrees}
use Rattle.tp_runs.proofs.agreement.World.{Agrees, BodyRests, CoordinatorUpAgrees}
use Rattle.tp_runs.proofs.basics.Facts.{each_new_mail}
use Rattle.tp_runs.proofs.basics.Homes.{HaveHomes}
use Rattle.tp_runs.proofs.basics.Ids.{same_txn_from, same_txn_is}
use Rattle.tp_types.proofs.EachLemmas.{at_set, each_append, each_as, each_get, missing, set_here, some_mapped, unset_at}
use Rattle.tp_runs.proofs.basics.Phases.{Rests, is_undecided, until_asked}
use Rattle.tp_runs.proofs.epochs.Asked.{asked_in}
use Rattle.tp_runs.proofs.epochs.Kept.{CoordinatorKeeps}
use Rattle.tp_runs.proofs.epochs.Server.{ServerMade}
use Rattle.tp_runs.proofs.epochs.World.{Epochs, made_from_zero}
use Rattle.tp_runs.proofs.ids.Queries.{have_homes}
use Rattle.tp_runs.proofs.ids.Valid.{IsValid, valid_of}
use Rattle.tp_runs.proofs.pairs.Actors.{BodyPairs, DoneFrom, LetterPairs, PrepareAt, QueryAt, ValidateAt, VerdictsFrom, VoteFrom, asker_at, asker_by, asker_in, asker_of, asker_up, body_stays, pair_at, pair_by, pair_of, pair_up, site_of}
use Rattle.tp_runs.proofs.pairs.CoordinatorRows.{AnswerPairs, AskPairs, CoordinatorActsPairs, CoordinatorPaired, PhaseNames, PhaseNumbered, PrepareTo, QueryTo, RowAsks, SpanNumbered, ValidateTo, coordinator_row_asks, repeats_ask, submit_row_asks}
use Rattle.tp_runs.proofs.pairs.Fits.{AskerFits, DoneFits, Fits, PrepareFits, QueryFits, ValidateFits, VerdictsFits}
use Rattle.tp_runs.proofs.pairs.Follows.{Next, next_same}
use Rattle.tp_runs.proofs.basics.Found.{of_some, some_as}
use Rattle.tp_runs.proofs.pairs.Moves.{with_asker}
use Rattle.tp_runs.proofs.pairs.Pair.{Asker, Pair, held, held_in}
use Rattle.tp_runs.proofs.pairs.ServerRows.{IsReply, OrderDecided, ReplyPairs, RequestPairs, RowPairs, ServerActsPairs, ServerPaired, server_row_pairs}
use Rattle.tp_runs.proofs.pairs.Site.{Site}
use Rattle.tp_runs.proofs.basics.Folds.{set_elsewhere}
use Rattle.tp_runs.proofs.trust.Coordinator.{CoordinatorFits, turn_low}
use Rattle.tp_runs.proofs.trust.Phases.{PhaseFits}
use Rattle.tp_runs.proofs.trust.Rounds.{few_rounds, span_names}
use Rattle.tp_runs.proofs.basics.Turns.{AreFew, few_queries, low_query, low_round, low_validation, query_count}
use Rattle.tp_runs.proofs.trust.World.{Trusts}
use Rattle.tp_runs.proofs.walks.Steps.{Cases, IsCoordinatorUp, IsServerUp, KeepsUp, WaitRightly, WasSent, machine_after_by}
use Rattle.tp_recover.specs.Log.{decided_in}
use Rattle.tp_machine.specs.Logs.{decided_at, decided_by, epoch_at}
use Rattle.tp_machine.specs.Machine.{Machine, Move, State, acts, acts_by, coordinator_fact, coordinator_move, idle_coordinators, is_part_submitted, machine_after, mails_of, opened_part, opened_servers, opening_state, refusal, server_fact, server_move, state_after, with_age}
use Rattle.tp_actor_log.specs.Records.{log_with}
use Rattle.tp_machine.specs.Parts.{Part}
use Rattle.tp_types.specs.Effect.{Effect}
use Rattle.tp_types.specs.Each.{Each, EachAt}
use Rattle.tp_runs.specs.Sound.{IsSound, IsSoundBody, IsSoundServerUp}
use Rattle.tp_machine.specs.Named.{IsStepOf, IsTxn}
use Rattle.tp_coord.specs.Opened as coord_opened
use Rattle.tp_coord.specs.Opened.{idle}
use Rattle.tp_coord.specs.Row.{coordinator_row, repeats, submit_row}
use Rattle.tp_coord.specs.State.{Coordinator}
use Rattle.tp_machine.specs.declared.actors.Actors.{Actors}
use Rattle.tp_coord.specs.declared.coordinator.Phase.TheVariants as phase
use Rattle.tp_coord.specs.declared.coordinator.Phase.{Phase}
use Rattle.tp_coord.specs.declared.coordinator.Span.TheVariants as span
use Rattle.tp_coord.specs.declared.coordinator.Span.{Span}
use Rattle.tp_server.specs.declared.server.Entry.{Entry}
use Rattle.tp_server.specs.Opened as server_opened
use Rattle.tp_server.specs.Row.{entry_at, server_row}
use Rattle.tp_server.specs.State.{Server}
use Rattle.tp_offices.specs.Authority as office
use Rattle.tp_offices.specs.Master as master
use Rattle.tp_offices.specs.declared.authority.Authority.{Authority}
use Rattle.tp_offices.specs.declared.master.Master.{Master}

-- ---- the invariant

abbrev pub IsNumbered : Coordinator → Type 0
IsNumbered c = PhaseNumbered c.phase c.deeds

-- a server has a place for each transaction
abbrev pub HasPlaces : Scenario → Server → Type 0
HasPlaces sc s = length s.entries ≡ length sc.txns

-- each transaction fits at each server, and each mail ever sent says what is so
pub record Pairs (sc : Scenario) (w : State) : Type 0 where
  pub fits : (txn : TxnId) (at : ℕ) (declared : Transaction) → slice_get sc.txns txn.0 ≡ Some declared → Fits (site_of sc at declared) (pair_at w.actors txn at)
  pub numbered : EachAt (λ (n : ℕ) (part : Part Coordinator). IfSome part.up IsNumbered) w.actors.coordinators
  pub places : EachAt (λ (n : ℕ) (part : Part Server). IfSome part.up (HasPlaces sc)) w.actors.servers
  pub mails : Each (λ (mail : Mail). LetterPairs sc (pair_at w.actors) mail.letter) w.mails

-- what a step leaves
pub record MovePairs (sc : Scenario) (w : State) (move : Move) : Type 0 where
  pub next : (txn : TxnId) (at : ℕ) (declared : Transaction) → slice_get sc.txns txn.0 ≡ Some declared → Next (site_of sc at declared) (pair_at w.actors txn at) (pair_at move.actors txn at)
  pub numbered : EachAt (λ (n : ℕ) (part : Part Coordinator). IfSome part.up IsNumbered) move.actors.coordinators
  pub places : EachAt (λ (n : ℕ) (part : Part Server). IfSome part.up (HasPlaces sc)) move.actors.servers
  pub letters : Each (LetterPairs sc (pair_at move.actors)) move.letters

pub state_after_pairs : (sc : Scenario) (w : State) (taken : Step) (move : Move) → Pairs sc w → MovePairs sc w move → Pairs sc (state_after w taken move)
state_after_pairs sc w taken move h t =
    let old : (mail : Mail) → LetterPairs sc (pair_at w.actors) mail.letter → LetterPairs sc (pair_at move.actors) mail.letter = λ mail said.
    body_stays sc (pair_at w.actors) (pair_at move.actors) mail.letter.from mail.letter.to mail.letter.body (λ txn at declared e. (t.next txn at declared e).follows) said in
    record {
      fits = λ txn at declared e. (t.next txn at declared e).fits;
      numbered = t.numbered;
      places = t.places;
      mails = each_append (λ (mail : Mail). LetterPairs sc (pair_at move.actors) mail.letter) w.mails (mails_of (length w.steps) (length w.mails) move.letters)
          (each_as (λ (mail : Mail). LetterPairs sc (pair_at w.actors) mail.letter) (λ (mail : Mail). LetterPairs sc (pair_at move.actors) mail.letter) old w.mails h.mails)
          (each_new_mail (λ sent. LetterPairs sc (pair_at move.actors)) (length w.steps) (length w.mails) move.letters t.letters);
    }

-- ---- neither servers nor coordinators act

still_pairs : (sc : Scenario) (w : State) (happened : List What) (letters : List Letter) (actors : Actors) → Pairs sc w → actors.servers ≡ w.actors.servers → actors.coordinators ≡ w.actors.coordinators
    → Each (λ (letter : Letter). (P : TxnId → ℕ → Pair) → LetterPairs sc P letter) letters → MovePairs sc w (record { actors = actors; happened = happened; letters = letters })
still_pairs sc w happened letters actors h servers coordinators plain =
    let same : (txn : TxnId) (at : ℕ) → pair_at actors txn at ≡ pair_at w.actors txn at = λ txn at.
    ap (λ (xs : List (Part Coordinator)). pair_by txn (asker_at xs txn.0 at) (slice_get actors.servers at)) coordinators
    ∙ ap (λ (xs : List (Part Server)). pair_by txn (asker_at w.actors.coordinators txn.0 at) (slice_get xs at)) servers in
    record {
      next = λ txn at declared e. subst (Next (site_of sc at declared) (pair_at w.actors txn at)) (sym (same txn at)) (next_same (site_of sc at declared) (pair_at w.actors txn at) (h.fits txn at declared e));
      numbered = subst (EachAt (λ (n : ℕ) (part : Part Coordinator). IfSome part.up IsNumbered)) (sym coordinators) h.numbered;
      places = subst (EachAt (λ (n : ℕ) (part : Part Server). IfSome part.up (HasPlaces sc))) (sym servers) h.places;
      letters = each_as (λ (letter : Letter). (P : TxnId → ℕ → Pair) → LetterPairs sc P letter) (LetterPairs sc (pair_at actors)) (λ letter all. all (pair_at actors)) letters plain;
    }

-- ---- a server acts

-- what a server is to its transactions
pub pair_of_part : (actors : Actors) (at : ServerId) (part : Part Server) (txn : TxnId) → slice_get actors.servers at.0 ≡ Some part
    → pair_at actors txn at.0 ≡ pair_of txn (asker_at actors.coordinators txn.0 at.0) part.up part.log
pair_of_part actors at part txn found = ap (pair_by txn (asker_at actors.coordinators txn.0 at.0)) found

-- and one that is up
pub pair_of_up : (actors : Actors) (at : ServerId) (part : Part Server) (s : Server) (txn : TxnId) → slice_get actors.servers at.0 ≡ Some part → part.up ≡ Some s
    → pair_at actors txn at.0 ≡ pair_up txn (asker_at actors.coordinators txn.0 at.0) s part.log
pair_of_up actors at part s txn found up =
    pair_of_part actors at part txn found ∙ ap (λ (u : Option Server). pair_of txn (asker_at actors.coordinators txn.0 at.0) u part.log) up

server_next : (sc : Scenario) (w : State) (at : ServerId) (part : Part Server) (now : Option Server) (append : Option Record) (txn : TxnId) (other : ℕ) (declared : Transaction) (b : Bool) → (at.0 == other) ≡ b → Pairs sc w
    → slice_get w.actors.servers at.0 ≡ Some part → slice_get sc.txns txn.0 ≡ Some declared
    → Next (site_of sc at.0 declared) (pair_of txn (asker_at w.actors.coordinators txn.0 at.0) part.up part.log) (pair_of txn (asker_at w.actors.coordinators txn.0 at.0) now (log_with part.log append))
    → Next (site_of sc other declared) (pair_at w.actors txn other)
    (pair_by txn (asker_at w.actors.coordinators txn.0 other) (slice_get (slice_set w.actors.servers at.0 (record { up = now; log = log_with part.log append })) other))
server_next sc w at part now append txn other declared false e h found exists n =
    subst (λ (x : Option (Part Server)). Next (site_of sc other declared) (pair_at w.actors txn other) (pair_by txn (asker_at w.actors.coordinators txn.0 other) x))
    (sym (set_elsewhere w.actors.servers at.0 other (record { up = now; log = log_with part.log append }) e)) (next_same (site_of sc other declared) (pair_at w.actors txn other) (h.fits txn other declared exists))
server_next sc w at part now append txn other declared true e h found exists n =
    let new : Part Server = record { up = now; log = log_with part.log append } in
    let there : slice_get (slice_set w.actors.servers at.0 new) at.0 ≡ Some new = set_here w.actors.servers at.0 new (slice_get_within w.actors.servers at.0 part found) in
    let after : Next (site_of sc at.0 declared) (pair_at w.actors txn at.0) (pair_by txn (asker_at w.actors.coordinators txn.0 at.0) (slice_get (slice_set w.actors.servers at.0 new) at.0)) =
    subst (λ (x : Option (Part Server)). Next (site_of sc at.0 declared) (pair_at w.actors txn at.0) (pair_by txn (asker_at w.actors.coordinators txn.0 at.0) x)) (sym there)
    (subst (λ (p : Pair). Next (site_of sc at.0 declared) p (pair_of txn (asker_at w.actors.coordinators txn.0 at.0) now (log_with part.log append))) (sym (pair_of_part w.actors at part txn found)) n) in
    subst (λ (m : ℕ). Next (site_of sc m declared) (pair_at w.actors txn m) (pair_by txn (asker_at w.actors.coordinators txn.0 m) (slice_get (slice_set w.actors.servers at.0 new) m))) (eqb-true at.0 other e) after

-- what a reply says, it says of its server
reply_pairs : (sc : Scenario) (at : ServerId) (P : TxnId → ℕ → Pair) (Q : TxnId → Pair) (from to : Actor) (said : Body) → from ≡ actor.Server at → ((txn : TxnId) → P txn at.0 ≡ Q txn) → ReplyPairs sc at Q said → BodyPairs sc P from to said
reply_pairs sc at P Q from to (body.Done done) is same h =
    subst (λ (f : Actor). DoneFrom sc P f done) (sym is) (λ declared e. subst (λ (p : Pair). DoneFits (site_of sc at.0 declared) p done) (sym (same done.txn)) (h declared e))
reply_pairs sc at P Q from to (body.Vote reply) is same h = subst (λ (f : Actor). VoteFrom sc f reply) (sym is) h
reply_pairs sc at P Q from to (body.Verdicts reply) is same h =
    subst (λ (f : Actor). VerdictsFrom sc P f reply) (sym is) (λ declared e. subst (λ (p : Pair). VerdictsFits (site_of sc at.0 declared) p reply) (sym (same reply.txn)) (h declared e))
reply_pairs sc at P Q from to (body.Query q) is same h = absurd h
reply_pairs sc at P Q from to (body.Prepare r) is same h = absurd h
reply_pairs sc at P Q from to (body.Validate v) is same h = absurd h
reply_pairs sc at P Q from to _ is same h = tt

-- the move of a server whose act goes on so, whether it is up before and after it or down
pub server_acts_pairs : (sc : Scenario) (w : State) (at : ServerId) (part : Part Server) (now : Option Server) (own : List What) (append : Option Record) (letters : List Letter) → Pairs sc w
    → slice_get w.actors.servers at.0 ≡ Some part → ServerActsPairs sc at (λ txn. asker_at w.actors.coordinators txn.0 at.0) part.up part.log now append letters
    → MovePairs sc w (server_move w.actors at (acts (server_fact at) own part.log now (log_with part.log append) letters))
server_acts_pairs sc w at part now own append letters h found k =
    let new : Part Server = record { up = now; log = log_with part.log append } in
    let servers = slice_set w.actors.servers at.0 new in
    let actors : Actors = record w.actors { servers = servers } in
    let Q : TxnId → Pair = λ txn. pair_of txn (asker_at w.actors.coordinators txn.0 at.0) now (log_with part.log append) in
    let here : (txn : TxnId) → pair_at actors txn at.0 ≡ Q txn = λ txn.
    ap (pair_by txn (asker_at w.actors.coordinators txn.0 at.0)) (set_here w.actors.servers at.0 new (slice_get_within w.actors.servers at.0 part found)) in
    record {
      next = λ txn other declared e. server_next sc w at part now append txn other declared (at.0 == other) refl h found e (k.next txn declared e);
      numbered = h.numbered;
      places = at_set (λ (n : ℕ) (p : Part Server). IfSome p.up (HasPlaces sc)) w.actors.servers at.0 new h.places k.places;
      letters = each_as (IsReply sc at Q) (LetterPairs sc (pair_at actors))
          (λ letter reply. reply_pairs sc at (pair_at actors) Q letter.from letter.to letter.body reply.from_is here reply.says) letters k.replies;
    }

-- what a mail to a server says of it
request_pairs : (sc : Scenario) (w : State) (from : Actor) (at : ServerId) (said : Body) → (P : TxnId → Pair) → ((txn : TxnId) → pair_at w.actors txn at.0 ≡ P txn) → BodyPairs sc (pair_at w.actors) from (actor.Server at) said
    → OrderDecided (λ txn. asker_at w.actors.coordinators txn.0 at.0) said → RequestPairs sc at (λ txn. asker_at w.actors.coordinators txn.0 at.0) P said
request_pairs sc w from at (body.Query q) P same h d = λ declared e. subst (λ (p : Pair). QueryFits (site_of sc at.0 declared) p q) (same q.txn) (h declared e)
request_pairs sc w from at (body.Prepare r) P same h d = λ declared e. subst (λ (p : Pair). PrepareFits (site_of sc at.0 declared) p r) (same r.txn) (h declared e)
request_pairs sc w from at (body.Validate v) P same h d = λ declared e. subst (λ (p : Pair). ValidateFits (site_of sc at.0 declared) p v) (same v.txn) (h declared e)
request_pairs sc w from at (body.Decide order) P same h d = d
request_pairs sc w from at _ P same h d = tt

-- a coordinator that has decided asks no more
decided_part : (sc : Scenario) (at : ℕ) (kept : List Record) (up : Option Coordinator) → IfSome up (λ (c : Coordinator). CoordinatorAgrees sc c kept) → is_some (decided_in kept) ≡ true → option_and_then (asker_up at) up ≡ None
decided_part sc at kept None h d = refl
decided_part sc at kept (Some c) h d = by_phase c.phase h.decided
  where
    by_phase : (awaited : Phase) → PhaseAgrees awaited (decided_in kept) → (if is_undecided awaited then Some (asker_of at c) else None) ≡ None
    by_phase phase.Idle e = absurd (let none = ap is_some e in cc)
    by_phase (phase.Stapling number) e = absurd (let none = ap is_some e in cc)
    by_phase (phase.Querying number staple) e = absurd (let none = ap is_some e in cc)
    by_phase (phase.Probing number) e = absurd (let none = ap is_some e in cc)
    by_phase (phase.Asking over round) e = absurd (let none = ap is_some e in cc)
    by_phase (phase.Checking over round staple) e = absurd (let none = ap is_some e in cc)
    by_phase (phase.Reading over round) e = absurd (let none = ap is_some e in cc)
    by_phase (phase.Voting awaited) e = absurd (let none = ap is_some e in cc)
    by_phase phase.VoteProbing e = absurd (let none = ap is_some e in cc)
    by_phase (phase.Ending ended awaited) e = refl

decided_asker : (sc : Scenario) (w : State) (txn : TxnId) (at : ℕ) (found : Option (Part Coordinator)) → Agrees sc w → slice_get w.actors.coordinators txn.0 ≡ found → is_some (option_and_then decided_by found) ≡ true
    → option_and_then (asker_by at) found ≡ None
decided_asker sc w txn at None a e d = refl
decided_asker sc w txn at (Some part) a e d =
    decided_part sc at part.log part.up
    (some_as (CoordinatorUpAgrees sc w.actors.servers txn part.log) (λ (c : Coordinator). CoordinatorAgrees sc c part.log) part.up (λ c is up. up.agrees) (a.coordinators txn.0 part e).state) d

order_decided : (sc : Scenario) (w : State) (from : Actor) (at : ServerId) (said : Body) → Agrees sc w → BodyRests sc w.actors from (actor.Server at) said → OrderDecided (λ txn. asker_at w.actors.coordinators txn.0 at.0) said
order_decided sc w from at (body.Decide order) a h =
    decided_asker sc w order.txn at.0 (slice_get w.actors.coordinators order.txn.0) a refl (some_mapped outcome_of (decided_at w.actors.coordinators order.txn.0) order.outcome h.0)
order_decided sc w from at _ a h = tt

-- the row of a server that is up on a mail that was sent
pub server_sends_pairs : (sc : Scenario) (w : State) → WaitRightly sc w → IsSound sc w → Agrees sc w → Epochs sc w → Pairs sc w → (n : ℕ) (mail : Mail) (at : ServerId) (part : Part Server) (s : Server) → WasSent w n mail (actor.Server at)
    → IsServerUp w at part s
    → ServerActsPairs sc at (λ txn. asker_at w.actors.coordinators txn.0 at.0) part.up part.log (Some (server_row sc s mail).state) (server_row sc s mail).reaction.append (server_row sc s mail).reaction.letters
server_sends_pairs sc w rightly sound a epochs h n mail at part s sent up =
    let A : TxnId → Option Asker = λ txn. asker_at w.actors.coordinators txn.0 at.0 in
    let effect = server_row sc s mail in
    let own : IsSoundServerUp sc at s = of_some (IsSoundServerUp sc at) part.up s up.up (sound.actors_are.servers at.0 part up.found).state in
    let made : ServerMade sc (asked_in w.mails) at s part.log = of_some (λ (t : Server). ServerMade sc (asked_in w.mails) at t part.log) part.up s up.up (epochs.servers at.0 part up.found).state in
    let same : (txn : TxnId) → pair_at w.actors txn at.0 ≡ pair_up txn (A txn) s part.log = λ txn. pair_of_up w.actors at part s txn up.found up.up in
    let paired : ServerPaired sc A s part.log = record {
      fits = λ txn declared e. subst (λ (m : ServerId). Fits (site_of sc m.0 declared) (pair_up txn (A txn) s part.log)) (sym own.server_is) (subst (Fits (site_of sc at.0 declared)) (same txn) (h.fits txn at.0 declared e));
      agrees = server_agrees sc w at part s a up;
      epoch_is = made.epoch_is;
      places = of_some (HasPlaces sc) part.up s up.up (h.places at.0 part up.found);
    } in
    let said : BodyPairs sc (pair_at w.actors) mail.letter.from (actor.Server at) mail.letter.body =
    subst (λ (to : Actor). BodyPairs sc (pair_at w.actors) mail.letter.from to mail.letter.body) sent.goes_to (each_get (λ (m : Mail). LetterPairs sc (pair_at w.actors) m.letter) w.mails n mail h.mails sent.sent) in
    let asked : RequestPairs sc at A (λ txn. pair_up txn (A txn) s part.log) mail.letter.body =
    request_pairs sc w mail.letter.from at mail.letter.body (λ txn. pair_up txn (A txn) s part.log) same said (order_decided sc w mail.letter.from at mail.letter.body a (mail_rests sc w n mail (actor.Server at) a sent)) in
    let row : RowPairs sc A s part.log effect =
    server_row_pairs sc A s part.log mail (rightly at part s up) paired own.sound (subst (λ (m : ServerId). IsSoundBody sc (actor.Server m) mail.letter.body) (sym own.server_is) (mail_sound sc w n mail (actor.Server at) sound sent))
    (subst (λ (m : ServerId). RequestPairs sc m A (λ txn. pair_up txn (A txn) s part.log) mail.letter.body) (sym own.server_is) asked) in
    let now = Some effect.state in
    subst (λ (was : Option Server). ServerActsPairs sc at A was part.log now effect.reaction.append effect.reaction.letters) (sym up.up)
    (subst (λ (m : ServerId). ServerActsPairs sc m A (Some s) part.log now effect.reaction.append effect.reaction.letters) own.server_is row)

receipt_by_server_in_known : (sc : Scenario) (w : State) → WaitRightly sc w → IsSound sc w → Agrees sc w → Epochs sc w → Pairs sc w → (n : ℕ) (mail : Mail) (at : ServerId) (part : Part Server) (s : Server) → WasSent w n mail (actor.Server at)
    → IsServerUp w at part s → MovePairs sc w (server_move w.actors at (acts_by (server_fact at) [] part.log (server_row sc s mail)))
receipt_by_server_in_known sc w rightly sound a epochs h n mail at part s sent up =
    let effect = server_row sc s mail in
    server_acts_pairs sc w at part (Some effect.state) [] effect.reaction.append effect.reaction.letters h up.found (server_sends_pairs sc w rightly sound a epochs h n mail at part s sent up)

-- ---- a coordinator acts

pub asker_of_up : (w : State) (txn : TxnId) (part : Part Coordinator) (c : Coordinator) (at : ℕ) → IsCoordinatorUp w txn part c → asker_at w.actors.coordinators txn.0 at ≡ asker_up at c
asker_of_up w txn part c at up = ap (option_and_then (asker_by at)) up.found ∙ ap (option_and_then (asker_up at)) up.up

coordinator_next : (sc : Scenario) (w : State) (txn : TxnId) (part : Part Coordinator) (now : Option Coordinator) (kept : List Record) (other : TxnId) (at : ℕ) (declared : Transaction) (b : Bool) → same_txn txn other ≡ b → Pairs sc w
    → slice_get w.actors.coordinators txn.0 ≡ Some part → slice_get sc.txns other.0 ≡ Some declared
    → ((own : Transaction) → slice_get sc.txns txn.0 ≡ Some own → Next (site_of sc at own) (pair_at w.actors txn at) (with_asker (pair_at w.actors txn at) (asker_in at now)))
    → Next (site_of sc at declared) (pair_at w.actors other at)
    (pair_by other (asker_at (slice_set w.actors.coordinators txn.0 (record { up = now; log = kept })) other.0 at) (slice_get w.actors.servers at))
coordinator_next sc w txn part now kept other at declared false e h found exists n =
    subst (λ (x : Option (Part Coordinator)). Next (site_of sc at declared) (pair_at w.actors other at) (pair_by other (option_and_then (asker_by at) x) (slice_get w.actors.servers at)))
    (sym (set_elsewhere w.actors.coordinators txn.0 other.0 (record { up = now; log = kept }) e)) (next_same (site_of sc at declared) (pair_at w.actors other at) (h.fits other at declared exists))
coordinator_next sc w txn part now kept other at declared true e h found exists n =
    let new : Part Coordinator = record { up = now; log = kept } in
    let is : txn ≡ other = same_txn_is txn other e in
    let there : asker_at (slice_set w.actors.coordinators txn.0 new) txn.0 at ≡ asker_in at now =
    ap (option_and_then (asker_by at)) (set_here w.actors.coordinators txn.0 new (slice_get_within w.actors.coordinators txn.0 part found)) in
    let after : Next (site_of sc at declared) (pair_at w.actors txn at) (pair_by txn (asker_at (slice_set w.actors.coordinators txn.0 new) txn.0 at) (slice_get w.actors.servers at)) =
    subst (λ (a : Option Asker). Next (site_of sc at declared) (pair_at w.actors txn at) (pair_by txn a (slice_get w.actors.servers at))) (sym there) (n declared (ap (λ (t : TxnId). slice_get sc.txns t.0) is ∙ exists)) in
    subst (λ (t : TxnId). Next (site_of sc at declared) (pair_at w.actors t at) (pair_by t (asker_at (slice_set w.actors.coordinators txn.0 new) t.0 at) (slice_get w.actors.servers at))) is after

-- what a coordinator requests, it requests of its transaction
ask_pairs : (sc : Scenario) (declared : Transaction) (txn : TxnId) (P : TxnId → ℕ → Pair) (Q : ℕ → Pair) (from to : Actor) (said : Body) → slice_get sc.txns txn.0 ≡ Some declared → ((at : ℕ) → P txn at ≡ Q at)
    → AskPairs sc declared txn Q to said → BodyPairs sc P from to said
ask_pairs sc declared txn P Q from to (body.Query q) exists same h = query_to to h
  where
    query_to : (to : Actor) → QueryTo sc declared txn Q to q → QueryAt sc P to q
    query_to (actor.Server at) k = λ other e.
        let is : declared ≡ other = same_Some declared other (sym exists ∙ (ap (λ (t : TxnId). slice_get sc.txns t.0) (sym k.0) ∙ e)) in
        subst (λ (d : Transaction). QueryFits (site_of sc at.0 d) (P q.txn at.0) q) is
        (subst (λ (t : TxnId). QueryFits (site_of sc at.0 declared) (P t at.0) q) (sym k.0) (subst (λ (p : Pair). QueryFits (site_of sc at.0 declared) p q) (sym (same at.0)) k.1))
    query_to _ k = tt
ask_pairs sc declared txn P Q from to (body.Prepare r) exists same h = prepare_to to h
  where
    prepare_to : (to : Actor) → PrepareTo sc declared txn Q to r → PrepareAt sc P to r
    prepare_to (actor.Server at) k = λ other e.
        let is : declared ≡ other = same_Some declared other (sym exists ∙ (ap (λ (t : TxnId). slice_get sc.txns t.0) (sym k.0) ∙ e)) in
        subst (λ (d : Transaction). PrepareFits (site_of sc at.0 d) (P r.txn at.0) r) is
        (subst (λ (t : TxnId). PrepareFits (site_of sc at.0 declared) (P t at.0) r) (sym k.0) (subst (λ (p : Pair). PrepareFits (site_of sc at.0 declared) p r) (sym (same at.0)) k.1))
    prepare_to _ k = tt
ask_pairs sc declared txn P Q from to (body.Validate v) exists same h = validate_to to h
  where
    validate_to : (to : Actor) → ValidateTo sc declared txn Q to v → ValidateAt sc P to v
    validate_to (actor.Server at) k = λ other e.
        let is : declared ≡ other = same_Some declared other (sym exists ∙ (ap (λ (t : TxnId). slice_get sc.txns t.0) (sym k.0) ∙ e)) in
        subst (λ (d : Transaction). ValidateFits (site_of sc at.0 d) (P v.txn at.0) v) is
        (subst (λ (t : TxnId). ValidateFits (site_of sc at.0 declared) (P t at.0) v) (sym k.0) (subst (λ (p : Pair). ValidateFits (site_of sc at.0 declared) p v) (sym (same at.0)) k.1))
    validate_to _ k = tt
ask_pairs sc declared txn P Q from to (body.Done done) exists same h = absurd h
ask_pairs sc declared txn P Q from to (body.Vote reply) exists same h = absurd h
ask_pairs sc declared txn P Q from to (body.Verdicts reply) exists same h = absurd h
ask_pairs sc declared txn P Q from to _ exists same h = tt

-- the move of a coordinator whose act goes on so, whether it is up after it or down
pub coordinator_acts_pairs : (sc : Scenario) (w : State) (declared : Transaction) (txn : TxnId) (part : Part Coordinator) (now : Option Coordinator) (own : List What) (append : Option Record) (letters : List Letter) → Pairs sc w
    → slice_get w.actors.coordinators txn.0 ≡ Some part → slice_get sc.txns txn.0 ≡ Some declared → CoordinatorActsPairs sc declared txn (pair_at w.actors txn) now letters
    → MovePairs sc w (coordinator_move w.actors txn (acts coordinator_fact own part.log now (log_with part.log append) letters))
coordinator_acts_pairs sc w declared txn part now own append letters h found exists k =
    let kept = log_with part.log append in
    let new : Part Coordinator = record { up = now; log = kept } in
    let coordinators = slice_set w.actors.coordinators txn.0 new in
    let actors : Actors = record w.actors { coordinators = coordinators } in
    let Q : ℕ → Pair = λ at. with_asker (pair_at w.actors txn at) (asker_in at now) in
    let there : (at : ℕ) → pair_at actors txn at ≡ Q at = λ at.
    ap (λ (a : Option Asker). pair_by txn a (slice_get w.actors.servers at)) (ap (option_and_then (asker_by at)) (set_here w.actors.coordinators txn.0 new (slice_get_within w.actors.coordinators txn.0 part found))) in
    record {
      next = λ other at its e.
          coordinator_next sc w txn part now kept other at its (same_txn txn other) refl h found e
          (λ mine f. subst (λ (d : Transaction). Next (site_of sc at d) (pair_at w.actors txn at) (Q at)) (same_Some declared mine (sym exists ∙ f)) (k.next at));
      numbered = at_set (λ (n : ℕ) (p : Part Coordinator). IfSome p.up IsNumbered) w.actors.coordinators txn.0 new h.numbered k.numbered;
      places = h.places;
      letters = each_as (λ (letter : Letter). AskPairs sc declared txn Q letter.to letter.body) (LetterPairs sc (pair_at actors))
          (λ letter asks. ask_pairs sc declared txn (pair_at actors) Q letter.from letter.to letter.body exists there asks) letters k.requests;
    }

-- the act of one that is up before and after it, of its own transaction
row_asks : (sc : Scenario) (declared : Transaction) (txn : TxnId) (P : ℕ → Pair) (effect : Effect Coordinator) → effect.state.txn ≡ txn → RowAsks sc declared P effect
    → CoordinatorActsPairs sc declared txn P (Some effect.state) effect.reaction.letters
row_asks sc declared txn P effect same k = subst (λ (t : TxnId). CoordinatorActsPairs sc declared t P (Some effect.state) effect.reaction.letters) same k

-- a query of the transaction, or the one after its last
abbrev SpanWithin : ℕ → Span → Type 0
SpanWithin count (span.Validate number) = number ≤ count + 1
SpanWithin count span.Commit = Unit {0}

abbrev PhaseWithin : ℕ → Phase → Type 0
PhaseWithin count (phase.Stapling number) = number ≤ count + 1
PhaseWithin count (phase.Querying number staple) = number ≤ count + 1
PhaseWithin count (phase.Probing number) = number ≤ count + 1
PhaseWithin count (phase.Asking over round) = SpanWithin count over
PhaseWithin count (phase.Checking over round staple) = SpanWithin count over
PhaseWithin count (phase.Reading over round) = SpanWithin count over
PhaseWithin count _ = Unit {0}

-- requests are few in a round
low_span : (count number asked turn : ℕ) (over : Span) → count ≤ 16 → number ≤ 17 → asked ≤ 3 → SpanWithin count over → turn ≤ until_asked count over number asked → turn ≤ 1000
low_span count number asked turn (span.Validate query) few most of_three within low = low_validation count query number asked turn few within most of_three low
low_span count number asked turn span.Commit few most of_three within low = low_round count number asked turn few most of_three low

-- and in any phase
low_turn : (sc : Scenario) (facts : List Fact) (place : ℕ) (c : Coordinator) (awaited : Phase) → AreFew sc → CoordinatorFits sc facts place c → c.phase ≡ awaited → PhaseWithin (query_count sc c.txn) awaited → c.turn ≤ 1000
low_turn sc facts place c phase.Idle few h e within = let low = turn_low sc facts place c phase.Idle h e in omega (arith, low)
low_turn sc facts place c (phase.Stapling number) few h e within =
    let low = turn_low sc facts place c (phase.Stapling number) h e in
    low_query (query_count sc c.txn) number 1 c.turn (few c.txn) within (omega arith) low
low_turn sc facts place c (phase.Querying number staple) few h e within =
    let low = turn_low sc facts place c (phase.Querying number staple) h e in
    low_query (query_count sc c.txn) number 2 c.turn (few c.txn) within (omega arith) low
low_turn sc facts place c (phase.Probing number) few h e within =
    let low = turn_low sc facts place c (phase.Probing number) h e in
    low_query (query_count sc c.txn) number 3 c.turn (few c.txn) within (omega arith) low
low_turn sc facts place c (phase.Asking over round) few h e within =
    let low = turn_low sc facts place c (phase.Asking over round) h e in
    let f = subst (PhaseFits sc facts place c.txn) e h.awaits in
    low_span (query_count sc c.txn) round.number 1 c.turn over (few c.txn) (few_rounds sc facts place c.txn over round f.1) (omega arith) within low
low_turn sc facts place c (phase.Checking over round staple) few h e within =
    let low = turn_low sc facts place c (phase.Checking over round staple) h e in
    let f = subst (PhaseFits sc facts place c.txn) e h.awaits in
    low_span (query_count sc c.txn) round.number 2 c.turn over (few c.txn) (few_rounds sc facts place c.txn over round f.1) (omega arith) within low
low_turn sc facts place c (phase.Reading over round) few h e within =
    let low = turn_low sc facts place c (phase.Reading over round) h e in
    let f = subst (PhaseFits sc facts place c.txn) e h.awaits in
    low_span (query_count sc c.txn) round.number 3 c.turn over (few c.txn) (few_rounds sc facts place c.txn over round f.1) (omega arith) within low
low_turn sc facts place c (phase.Voting awaited) few h e within =
    let low = turn_low sc facts place c (phase.Voting awaited) h e in
    low_round (query_count sc c.txn) 1 1 c.turn (few c.txn) (omega arith) (omega arith) low
low_turn sc facts place c phase.VoteProbing few h e within =
    let low = turn_low sc facts place c phase.VoteProbing h e in
    low_round (query_count sc c.txn) 1 2 c.turn (few c.txn) (omega arith) (omega arith) low
low_turn sc facts place c (phase.Ending ended awaited) few h e within =
    let low = turn_low sc facts place c (phase.Ending ended awaited) h e in
    low_round (query_count sc c.txn) 17 3 c.turn (few c.txn) (omega arith) (omega arith) low

-- a round over the queries so far goes to one of the transaction's
span_within : (count : ℕ) (over : Span) (deeds : List Deed) → length deeds ≤ count → SpanNumbered over deeds → SpanWithin count over
span_within count (span.Validate number) deeds most numbered = omega (arith, most, numbered)
span_within count span.Commit deeds most numbered = tt

-- the query that is awaited, or ran last, is one of the transaction's, or at most the one after its last
asked_within : (sc : Scenario) (declared : Transaction) (P : ℕ → Pair) (c : Coordinator) (awaited : Phase) → c.phase ≡ awaited → slice_get sc.txns c.txn.0 ≡ Some declared → PhaseNumbered awaited c.deeds
    → ((at : ℕ) → Fits (site_of sc at declared) (P at)) → ((at : ℕ) → (P at).asker ≡ asker_up at c) → PhaseWithin (query_count sc c.txn) awaited
asked_within sc declared P c awaited e declared_is numbered fits is = by_phase awaited e numbered
  where
    many : query_count sc c.txn ≡ length declared.queries
    many = ap (λ (found : Option Transaction). option_map_or (λ (d : Transaction). length d.queries) found 0) declared_is

    -- before the decision it has at most as many deeds as queries
    most : is_undecided c.phase ≡ true → length c.deeds ≤ query_count sc c.txn
    most undecided =
        let site = site_of sc 0 declared in
        let there : (P 0).asker ≡ Some (asker_of 0 c) = is 0 ∙ ap (λ (b : Bool). if b then Some (asker_of 0 c) else None) undecided in
        let old : AskerFits site (P 0) (asker_of 0 c) = of_some (AskerFits site (P 0)) (P 0).asker (asker_of 0 c) there (fits 0).asker in
        let few = old.most in
        omega (arith, few, many)

    by_phase : (now : Phase) → c.phase ≡ now → PhaseNumbered now c.deeds → PhaseWithin (query_count sc c.txn) now
    by_phase (phase.Stapling number) f n = let few = most (ap is_undecided f) in omega (arith, n, few)
    by_phase (phase.Querying number staple) f n = let few = most (ap is_undecided f) in omega (arith, n, few)
    by_phase (phase.Probing number) f n = let few = most (ap is_undecided f) in omega (arith, n, few)
    by_phase (phase.Asking over round) f n = span_within (query_count sc c.txn) over c.deeds (most (ap is_undecided f)) n
    by_phase (phase.Checking over round staple) f n = span_within (query_count sc c.txn) over c.deeds (most (ap is_undecided f)) n
    by_phase (phase.Reading over round) f n = span_within (query_count sc c.txn) over c.deeds (most (ap is_undecided f)) n
    by_phase _ f n = tt

phase_names : (sc : Scenario) (facts : List Fact) (place : ℕ) (txn : TxnId) (awaited : Phase) (declared : Transaction) → slice_get sc.txns txn.0 ≡ Some declared → PhaseFits sc facts place txn awaited → PhaseNames sc declared awaited
phase_names sc facts place txn (phase.Asking over round) declared e h = span_names sc facts place txn over round declared e h.1
phase_names sc facts place txn (phase.Checking over round staple) declared e h = span_names sc facts place txn over round declared e h.1
phase_names sc facts place txn _ declared e h = tt

coordinator_paired : (sc : Scenario) (w : State) (declared : Transaction) (txn : TxnId) (part : Part Coordinator) (c : Coordinator) → AreFew sc → IsSound sc w → Agrees sc w → Epochs sc w → Trusts sc w → Pairs sc w → IsCoordinatorUp w txn part c
    → slice_get sc.txns txn.0 ≡ Some declared → CoordinatorPaired sc declared (pair_at w.actors txn) c
coordinator_paired sc w declared txn part c few sound a epochs trusts h up exists =
    let agrees : CoordinatorUpAgrees sc w.actors.servers txn part.log c = of_some (CoordinatorUpAgrees sc w.actors.servers txn part.log) part.up c up.up (a.coordinators txn.0 part up.found).state in
    let same : c.txn ≡ txn = own_txn sc w txn part c sound up.found up.up in
    let numbered : IsNumbered c = of_some IsNumbered part.up c up.up (h.numbered txn.0 part up.found) in
    let keeps : CoordinatorKeeps sc (epoch_at w.actors.servers) (asked_in w.mails txn) c = of_some (CoordinatorKeeps sc (epoch_at w.actors.servers) (asked_in w.mails txn)) part.up c up.up (epochs.coordinators txn.0 part up.found) in
    let fits : CoordinatorFits sc w.facts (length w.steps) c = of_some (CoordinatorFits sc w.facts (length w.steps)) part.up c up.up (trusts.coordinators txn.0 part up.found) in
    let declared_is : slice_get sc.txns c.txn.0 ≡ Some declared = ap (λ (t : TxnId). slice_get sc.txns t.0) same ∙ exists in
    let all : (at : ℕ) → Fits (site_of sc at declared) (pair_at w.actors txn at) = λ at. h.fits txn at declared exists in
    let is : (at : ℕ) → (pair_at w.actors txn at).asker ≡ asker_up at c = λ at. asker_of_up w txn part c at up in
    record {
      declared_is = declared_is;
      fits = all;
      asker_is = is;
      numbered = numbered;
      low = low_turn sc w.facts (length w.steps) c c.phase few fits refl (asked_within sc declared (pair_at w.actors txn) c c.phase refl declared_is numbered all is);
      places = keeps.places;
      servers = agrees.agrees.servers;
      keeps = λ undecided. (keeps.undecided undecided).round;
      names = phase_names sc w.facts (length w.steps) c.txn c.phase declared declared_is fits.awaits;
    }

-- a transaction of the scenario
pub declared_by : (sc : Scenario) (txn : TxnId) → IsTxn sc txn → (declared : Transaction) × (slice_get sc.txns txn.0 ≡ Some declared)
declared_by sc txn exists = found (slice_get sc.txns txn.0) refl
  where
    found : (declared : Option Transaction) → slice_get sc.txns txn.0 ≡ declared → (d : Transaction) × (slice_get sc.txns txn.0 ≡ Some d)
    found None e = absurd (missing sc.txns txn.0 exists e)
    found (Some declared) e = (declared, e)

-- what a mail to a coordinator says of its transaction
answer_pairs : (sc : Scenario) (w : State) (declared : Transaction) (txn : TxnId) (from : Actor) (said : Body) → slice_get sc.txns txn.0 ≡ Some declared → IsSoundBody sc (actor.Coordinator txn) said
    → BodyPairs sc (pair_at w.actors) from (actor.Coordinator txn) said → AnswerPairs sc declared (pair_at w.actors txn) from said
answer_pairs sc w declared txn (actor.Server at) (body.Done done) exists sound h =
    let same : done.txn ≡ txn = same_txn_from txn done.txn sound.goes_to in
    subst (λ (t : TxnId). DoneFits (site_of sc at.0 declared) (pair_at w.actors t at.0) done) same (h declared (ap (λ (t : TxnId). slice_get sc.txns t.0) same ∙ exists))
answer_pairs sc w declared txn (actor.Server at) (body.Verdicts reply) exists sound h =
    let same : reply.txn ≡ txn = same_txn_from txn reply.txn sound.goes_to in
    subst (λ (t : TxnId). VerdictsFits (site_of sc at.0 declared) (pair_at w.actors t at.0) reply) same (h declared (ap (λ (t : TxnId). slice_get sc.txns t.0) same ∙ exists))
answer_pairs sc w declared txn _ _ exists sound h = tt

same_txn_row : (sc : Scenario) (w : State) → IsSound sc w → Agrees sc w → (n : ℕ) (mail : Mail) (txn : TxnId) (part : Part Coordinator) (c : Coordinator) → WasSent w n mail (actor.Coordinator txn) → IsCoordinatorUp w txn part c
    → (coordinator_row sc c mail).state.txn ≡ txn
same_txn_row sc w sound a n mail txn part c sent up = (coordinator_lawful sc w sound a n mail txn part c sent up).same_txn ∙ own_txn sc w txn part c sound up.found up.up

receipt_by_coordinator_in_known : (sc : Scenario) (w : State) → IsValid sc → HaveHomes sc → AreFew sc → IsSound sc w → Agrees sc w → Epochs sc w → Trusts sc w → Pairs sc w → (n : ℕ) (mail : Mail) (txn : TxnId) (part : Part Coordinator) (c : Coordinator)
    → WasSent w n mail (actor.Coordinator txn) → IsCoordinatorUp w txn part c → MovePairs sc w (coordinator_move w.actors txn (acts_by coordinator_fact [] part.log (coordinator_row sc c mail)))
receipt_by_coordinator_in_known sc w valid homes few sound a epochs trusts h n mail txn part c sent up =
    let effect = coordinator_row sc c mail in
    let exists : IsTxn sc txn = subst (λ (k : ℕ). txn.0 < k) a.coordinator_count (slice_get_within w.actors.coordinators txn.0 part up.found) in
    let d = declared_by sc txn exists in
    let said : BodyPairs sc (pair_at w.actors) mail.letter.from (actor.Coordinator txn) mail.letter.body =
    subst (λ (to : Actor). BodyPairs sc (pair_at w.actors) mail.letter.from to mail.letter.body) sent.goes_to (each_get (λ (m : Mail). LetterPairs sc (pair_at w.actors) m.letter) w.mails n mail h.mails sent.sent) in
    coordinator_acts_pairs sc w d.0 txn part (Some effect.state) [] effect.reaction.append effect.reaction.letters h up.found d.1
    (row_asks sc d.0 txn (pair_at w.actors txn) effect (same_txn_row sc w sound a n mail txn part c sent up)
    (coordinator_row_asks sc d.0 (pair_at w.actors txn) c mail valid homes (coordinator_paired sc w d.0 txn part c few sound a epochs trusts h up d.1)
    (answer_pairs sc w d.0 txn mail.letter.from mail.letter.body d.1 (mail_sound sc w n mail (actor.Coordinator txn) sound sent) said)))

begun_pairs : (sc : Scenario) (w : State) → is_valid sc ≡ true → AreFew sc → IsSound sc w → Agrees sc w → Epochs sc w → Trusts sc w → Pairs sc w → (txn : TxnId) (part : Part Coordinator) (c : Coordinator) → IsTxn sc txn
    → IsCoordinatorUp w txn part c → is_part_submitted (Some c) ≡ false
    → MovePairs sc w (coordinator_move w.actors txn (acts_by coordinator_fact (what.Submitted txn ∷ []) part.log (with_age (submit_row sc c) (length w.steps))))
begun_pairs sc w formed few sound a epochs trusts h txn part c exists up new =
    let effect = with_age (submit_row sc c) (length w.steps) in
    let d = declared_by sc txn exists in
    let same = (submission_unforced sc c (length w.steps)).same_txn ∙ own_txn sc w txn part c sound up.found up.up in
    coordinator_acts_pairs sc w d.0 txn part (Some effect.state) (what.Submitted txn ∷ []) effect.reaction.append effect.reaction.letters h up.found d.1
    (row_asks sc d.0 txn (pair_at w.actors txn) effect same
    (submit_row_asks sc d.0 (pair_at w.actors txn) c (length w.steps) (coordinator_paired sc w d.0 txn part c few sound a epochs trusts h up d.1) new))

-- a timer sends requests again, and all pairs are as they were
timed_pairs : (sc : Scenario) (w : State) → AreFew sc → IsSound sc w → Agrees sc w → Epochs sc w → Trusts sc w → Pairs sc w → (txn : TxnId) (part : Part Coordinator) (c : Coordinator) → IsTxn sc txn → IsCoordinatorUp w txn part c
    → MovePairs sc w (record { actors = w.actors; happened = []; letters = repeats sc c c.phase })
timed_pairs sc w few sound a epochs trusts h txn part c exists up =
    let d = declared_by sc txn exists in
    let P : ℕ → Pair = pair_at w.actors txn in
    let same : c.txn ≡ txn = own_txn sc w txn part c sound up.found up.up in
    record {
      next = λ other at declared e. next_same (site_of sc at declared) (pair_at w.actors other at) (h.fits other at declared e);
      numbered = h.numbered;
      places = h.places;
      letters = each_as (λ (letter : Letter). AskPairs sc d.0 txn P letter.to letter.body) (LetterPairs sc (pair_at w.actors))
          (λ letter asks. ask_pairs sc d.0 txn (pair_at w.actors) P letter.from letter.to letter.body d.1 (λ at. refl) asks) (repeats sc c c.phase)
          (subst (λ (t : TxnId). Each (λ (letter : Letter). AskPairs sc d.0 t P letter.to letter.body) (repeats sc c c.phase)) same
          (repeats_ask sc d.0 P c (coordinator_paired sc w d.0 txn part c few sound a epochs trusts h up d.1)));
    }

-- ---- steps

tells_plain_in_known : (sc : Scenario) (authority : Authority) (said : Body) → Each (λ (letter : Letter). (P : TxnId → ℕ → Pair) → LetterPairs sc P letter) (office.on_body authority said).reaction.letters
tells_plain_in_known sc authority (body.Ask ask) = (λ P. tt, tt)
tells_plain_in_known sc authority _ = tt

newest_plain_in_known : (sc : Scenario) (held : Master) (said : Body) → Each (λ (letter : Letter). (P : TxnId → ℕ → Pair) → LetterPairs sc P letter) (master.on_body held said).reaction.letters
newest_plain_in_known sc held (body.Probe probe) = (λ P. tt, tt)
newest_plain_in_known sc held _ = tt

pairs_cases : (sc : Scenario) (w : State) → is_valid sc ≡ true → IsValid sc → AreFew sc → WaitRightly sc w → IsSound sc w → Agrees sc w → Epochs sc w → Trusts sc w → Pairs sc w → Cases sc w (λ taken move. MovePairs sc w move)
pairs_cases sc w formed valid few rightly sound a epochs trusts h =
    record {
      idle = λ taken happened e. still_pairs sc w happened [] w.actors h refl refl tt;
      server_received = λ n mail at part s sent up. receipt_by_server_in_known sc w rightly sound a epochs h n mail at part s sent up;
      coordinator_received = λ n mail txn part c sent up. receipt_by_coordinator_in_known sc w valid (have_homes sc valid) few sound a epochs trusts h n mail txn part c sent up;
      authority_told = λ n mail sent. still_pairs sc w [] (office.authority_row w.actors.authority mail).reaction.letters w.actors h refl refl (tells_plain_in_known sc w.actors.authority mail.letter.body);
      master_told = λ n mail sent. still_pairs sc w [] (master.master_row w.actors.master mail).reaction.letters w.actors h refl refl (newest_plain_in_known sc w.actors.master mail.letter.body);
      published = λ admin exists more.
          still_pairs sc w (what.Published admin (master.next_of w.actors.master admin) ∷ []) [] (record w.actors { master = master.after_publication admin w.actors.master }) h refl refl tt;
      pushed = λ admin server exists there. still_pairs sc w [] (master.pushes w.actors.master admin server).reaction.letters w.actors h refl refl (λ P. tt, tt);
      ticked = λ by. still_pairs sc w (what.Ticked by ∷ []) [] (record w.actors { authority = office.after_tick by w.actors.authority }) h refl refl tt;
      revoked = λ cred exists. still_pairs sc w (what.Revoked cred ∷ []) [] (record w.actors { authority = office.after_revocation cred w.actors.authority }) h refl refl tt;
      begun = λ txn part c exists up new. begun_pairs sc w formed few sound a epochs trusts h txn part c exists up new;
      timed = λ txn part c exists up begun. timed_pairs sc w few sound a epochs trusts h txn part c exists up;
    }

-- a step that is not refused keeps what is said of deeds and epochs
pub pairs_next : (sc : Scenario) (m : Machine) (taken : Step) → is_valid sc ≡ true → IsStepOf sc taken → KeepsUp taken → refusal m.state taken ≡ None → WaitRightly sc m.state → IsSound sc m.state → Agrees sc m.state → Epochs sc m.state → Trusts sc m.state
    → Pairs sc m.state → Pairs sc (machine_after sc m taken).state
pairs_next sc m taken formed exists stays allowed rightly sound a epochs trusts h =
    machine_after_by sc m (λ taken move. MovePairs sc m.state move) (Pairs sc)
    (pairs_cases sc m.state formed (valid_of sc formed) (few_queries sc (rules.rules_of sc formed)) rightly sound a epochs trusts h) a.coordinator_count
    (λ taken move t. state_after_pairs sc m.state taken move h t) taken exists stays allowed

-- ---- before the first step

-- nothing is held, and the coordinator, if there is one, has not begun
abbrev bare : ℕ → Bool → Option Asker → Pair
bare epoch up asker = record { epoch = epoch; up = up; settled = false; voted = false; entry = None; prepared = None; asker = asker }

bare_held : (up : Bool) → held_in up None None ≡ None
bare_held true = refl
bare_held false = refl

abbrev fresh_asker : Asker
fresh_asker = record { stand = Rests; turn = 0; epoch = None; deeds = [] }

bare_fits : (s : Site) (epoch : ℕ) (up : Bool) (asker : Option Asker) → (asker ≡ None) ⊎ (asker ≡ Some fresh_asker) → Fits s (bare epoch up asker)
bare_fits s epoch up asker fresh =
    let p = bare epoch up asker in
    let nothing : held p ≡ None = bare_held up in
    record {
      server = record {
        down = λ down. refl;
        settled = λ settled. (refl, refl);
        votes = λ u. refl;
        past = λ x found. absurd (cc);
        front = λ x found. absurd (cc);
        voted = λ voted there. absurd (cc);
        verdicts = λ prepared e. absurd (cc);
      };
      asker = ⊎_elim (λ (e : asker ≡ None). subst (λ (o : Option Asker). IfSome o (AskerFits s p)) (sym e) tt)
          (λ (e : asker ≡ Some fresh_asker). subst (λ (o : Option Asker). IfSome o (AskerFits s p)) (sym e) (record {
            numbers_are = refl;
            runs = tt;
            pairing = record { none = refl; there = λ x found. absurd (cc) };
            made = λ prepared f. absurd (cc);
            least = λ asks. absurd (cc);
            most = omega arith;
            all = λ prepares. absurd (cc);
            unsettled = λ ended. absurd (cc);
          })) fresh;
      entry = tt;
    }

opened_asker : (sc : Scenario) (txn at : ℕ) (found : Option (Part Coordinator)) → slice_get (idle_coordinators sc (length sc.txns)) txn ≡ found
    → (option_and_then (asker_by at) found ≡ None) ⊎ (option_and_then (asker_by at) found ≡ Some fresh_asker)
opened_asker sc txn at None e = inl refl
opened_asker sc txn at (Some part) e =
    let is : part ≡ opened_part (coord_opened.idle sc (record { 0 = txn })) =
    made_from_zero (λ (k : ℕ) (found : Part Coordinator). found ≡ opened_part (coord_opened.idle sc (record { 0 = k }))) (λ (k : ℕ). opened_part (coord_opened.idle sc (record { 0 = k }))) (length sc.txns) (λ k. refl) txn part e in
    inr (ap (asker_by at) is ∙ ap (λ (o : Option ℕ). Some (record { stand = Rests; turn = 0; epoch = o; deeds = [] })) (unset_at (length sc.servers) at))

opened_fits : (sc : Scenario) (txn : TxnId) (at : ℕ) (declared : Transaction) (asker : Option Asker) (found : Option (Part Server)) → slice_get (opened_servers sc (length sc.servers)) at ≡ found
    → (asker ≡ None) ⊎ (asker ≡ Some fresh_asker) → Fits (site_of sc at declared) (pair_by txn asker found)
opened_fits sc txn at declared asker None e fresh = bare_fits (site_of sc at declared) 0 false asker fresh
opened_fits sc txn at declared asker (Some part) e fresh =
    let is : part ≡ opened_part (server_opened.opening sc (record { 0 = at })) =
    made_from_zero (λ (k : ℕ) (found : Part Server). found ≡ opened_part (server_opened.opening sc (record { 0 = k }))) (λ (k : ℕ). opened_part (server_opened.opening sc (record { 0 = k }))) (length sc.servers) (λ k. refl) at part e in
    let none : entry_at (server_opened.opening sc (record { 0 = at })) txn ≡ None = unset_at (length sc.txns) txn.0 in
    subst (λ (p : Part Server). Fits (site_of sc at declared) (pair_by txn asker (Some p))) (sym is)
    (subst (λ (entry : Option Entry). Fits (site_of sc at declared) (record { epoch = 1; up = true; settled = false; voted = false; entry = entry; prepared = None; asker = asker })) (sym none)
    (bare_fits (site_of sc at declared) 1 true asker fresh))

pub pairs_opening : (sc : Scenario) → Pairs sc (opening_state sc)
pairs_opening sc =
    record {
      fits = λ txn at declared e. opened_fits sc txn at declared (asker_at (opening_state sc).actors.coordinators txn.0 at) (slice_get (opening_state sc).actors.servers at) refl
          (opened_asker sc txn.0 at (slice_get (opening_state sc).actors.coordinators txn.0) refl);
      numbered = made_from_zero (λ (k : ℕ) (found : Part Coordinator). IfSome found.up IsNumbered) (λ (k : ℕ). opened_part (coord_opened.idle sc (record { 0 = k }))) (length sc.txns) (λ k. refl);
      places = made_from_zero (λ (k : ℕ) (found : Part Server). IfSome found.up (HasPlaces sc)) (λ (k : ℕ). opened_part (server_opened.opening sc (record { 0 = k }))) (length sc.servers)
          (λ k. length-replicate {A = Option Entry} (length sc.txns) None);
      mails = tt;
    }
