-- Agreement, actor by actor: what an act of a server or a coordinator leaves agrees.
pub use Rattle.tp_runs.proofs.basics.Ids.{same_txn_is}
use Rattle.std.specs.List.{cons_option, list_any}
use Rattle.std.specs.Option.{option_map_or, option_or}
use Rattle.std.proofs.Common.{Bool, IfSome, List, None, Option, Some, [], ap, arith, drop, false, flat_map, if◌then◌else◌, inl, inr, is_some, length, option_and_then, option_map, refl, slice_get, slice_set, subst, sym, true, ℕ, ⊎_elim, ◌&&◌, ◌++◌, ◌+◌, ◌==◌, ◌||◌, ◌∙◌, ◌∷◌, ◌≡◌, ◌⊎◌}
use Rattle.std.proofs.lemmas.Bool.{eqb-true}
use Rattle.std.proofs.lemmas.List.{append-nil, length-set}
use Rattle.std.proofs.lemmas.Option.{cond_some, same_Some, slice_get_within}
use Rattle.std.proofs.lemmas.List.Elements.{filter_map-append}
use Rattle.tp_types.proofs.ListLemmas.{number_itself}
use Rattle.tp_model.specs.Words.{Actor, Body, Decision, Fact, Letter, No, Outcome, Prepared, Record, Scenario, ServerId, Settled, TxnId, Vote, What}
use Rattle.tp_model.specs.Words.actor
use Rattle.tp_model.specs.Words.body
use Rattle.tp_model.specs.Words.decision
use Rattle.tp_model.specs.Words.log
use Rattle.tp_model.specs.Words.outcome
use Rattle.tp_model.specs.Words.vote
use Rattle.tp_model.specs.Words.what
use Rattle.tp_model.specs.Agreement.{has_item_at}
use Rattle.tp_model.specs.Facts.{is_decided_as, is_submission, outcome_of, same_outcome}
use Rattle.tp_model.specs.Ids.{same_server, same_txn}
use Rattle.tp_recover.specs.Log.{decided_in, has_voted, preparation_in, prepared_in, settled_in, settlement_in}
use Rattle.tp_machine.specs.Logs.{decided_at, decided_by, prepared_by, settled_at, settled_by, voted_by}
use Rattle.tp_machine.specs.Machine.{State, acts, server_fact, server_move}
use Rattle.tp_actor_log.specs.Records.{log_with}
use Rattle.tp_types.specs.Each.{Each}
use Rattle.tp_machine.specs.Named.{IsServer}
use Rattle.tp_coord.specs.Opened.{servers_at}
use Rattle.tp_coord.specs.Row.{is_begun}
use Rattle.tp_runs.proofs.basics.Rounds.{is_in, missing_in}
use Rattle.tp_machine.specs.declared.actors.Actors.{Actors}
use Rattle.tp_coord.specs.State.{Coordinator}
use Rattle.tp_coord.specs.declared.coordinator.Phase.TheVariants as phase
use Rattle.tp_coord.specs.declared.coordinator.Phase.{Phase}
use Rattle.tp_coord.specs.declared.coordinator.Span.TheVariants as span
use Rattle.tp_coord.specs.declared.coordinator.Span.{Span}
use Rattle.tp_machine.specs.Parts.{Part}
use Rattle.tp_server.specs.State.{Server}
use Rattle.tp_runs.proofs.agreement.Coordinator.{AllBut, DecisionRests, PhaseAgrees, PhaseRests, SpanRests, decided_begun}
use Rattle.tp_runs.proofs.agreement.Known.{KnowsTold}
use Rattle.tp_runs.proofs.agreement.Logs.{DecidedAs, IsAsked, IsPrepared, IsServed, IsSettled, LogPrepared, LogServed, LogsStay, Settles, WasSubmitted, logs_same, once, outcome_settled, part_stays, prepared_kept, prepared_open, prepared_voted, settled_outcome, settled_stays, settles_is, submitted_count, submitted_up}
use Rattle.tp_runs.proofs.agreement.Server.{LetterKept, RecordRests, ReplyKept, ServerAgrees, SettlementRests, VoteKept}
use Rattle.tp_runs.proofs.agreement.World.{Agrees, BodyRests, CoordinatorPartAgrees, CoordinatorUpAgrees, CoordinatorsAgree, Follows, LetterRests, MoveAgrees, ServerPartAgrees, SettledRests, VoteRests, WhatFollows}
use Rattle.tp_runs.proofs.basics.Servers.{among_servers}
use Rattle.tp_runs.proofs.basics.Facts.{any_decided, any_submitted, decided_what, decisions, outcome_itself, said, settled_what, settlements, submissions, submitted_what}
use Rattle.tp_runs.proofs.basics.Logs.{IsFresh, appended, first_stays, gained, get_set, has_voted_with, listed, listed_first, look_set, map_first, prepared_either, settled_with}
use Rattle.tp_types.proofs.EachLemmas.{at_set, each_append, each_as, some_mapped, some_value}

-- ---- what the facts tell

any_true : {A : Type 0} (xs : List A) → length xs ≡ 1 → list_any (λ (x : A). true) xs ≡ true
any_true {A = A} [] e = let zero_one : length {A = A} [] ≡ 1 = e in absurd (omega (arith, zero_one))
any_true (x ∷ xs) e = refl

told_one : (found : Option Decision) (ended : Outcome) → option_map outcome_of found ≡ Some ended → list_any (λ (d : Decision). same_outcome (outcome_of d) ended) (listed found) ≡ true
told_one None ended e = absurd (cc)
told_one (Some d) ended e = ap (λ (b : Bool). b || false) (ap (λ (o : Outcome). same_outcome o ended) (same_Some (outcome_of d) ended e) ∙ outcome_itself ended)

-- what was decided stands among the facts
pub decided_told : (sc : Scenario) (w : State) (txn : TxnId) (ended : Outcome) → Agrees sc w → DecidedAs w.actors.coordinators txn ended → list_any (is_decided_as txn ended) w.facts ≡ true
decided_told sc w txn ended h e =
    any_decided txn ended w.facts ∙ (ap (list_any (λ (d : Decision). same_outcome (outcome_of d) ended)) (h.decided txn) ∙ told_one (decided_at w.actors.coordinators txn.0) ended e)

pub begun_count : (b : Bool) → b ≡ true → once b ≡ 1
begun_count b e = ap once e

up_count : (sc : Scenario) (servers : List (Part Server)) (txn : TxnId) (kept : List Record) (up : Option Coordinator) (ended : Outcome) → IfSome up (CoordinatorUpAgrees sc servers txn kept)
    → option_map outcome_of (decided_in kept) ≡ Some ended → submitted_up up ≡ 1
up_count sc servers txn kept None ended h e = refl
up_count sc servers txn kept (Some c) ended h e = begun_count (is_begun c.phase) (decided_begun c.phase (decided_in kept) h.agrees.decided (some_mapped outcome_of (decided_in kept) ended e))

decided_count : (sc : Scenario) (servers : List (Part Server)) (coordinators : List (Part Coordinator)) (n : ℕ) (ended : Outcome) (found : Option (Part Coordinator)) → slice_get coordinators n ≡ found
    → CoordinatorsAgree sc servers coordinators → option_map outcome_of (option_and_then decided_by found) ≡ Some ended → submitted_count found ≡ 1
decided_count sc servers coordinators n ended None e h d = absurd (cc)
decided_count sc servers coordinators n ended (Some part) e h d = up_count sc servers (record { 0 = n }) part.log part.up ended (h n part e).state d

-- a transaction whose submissions are counted as one was submitted
pub submitted_told : (txn : TxnId) (facts : List Fact) → length (submissions txn (said facts)) ≡ 1 → list_any (is_submission txn) facts ≡ true
submitted_told txn facts e = any_submitted txn facts ∙ any_true (submissions txn (said facts)) e

-- a decided transaction was submitted
pub decided_asked : (sc : Scenario) (w : State) (txn : TxnId) (ended : Outcome) → Agrees sc w → DecidedAs w.actors.coordinators txn ended → WasSubmitted w.actors.coordinators txn
decided_asked sc w txn ended h e = decided_count sc w.actors.servers w.actors.coordinators txn.0 ended (slice_get w.actors.coordinators txn.0) refl h.coordinators e

-- ---- a decided commit is served

decision_serves : (sc : Scenario) (servers : List (Part Server)) (txn : TxnId) (decided : Option Decision) → option_map outcome_of decided ≡ Some outcome.Commit
    → IfSome decided (DecisionRests (IsServed servers txn) (servers_at sc txn)) → Each (IsServed servers txn) (servers_at sc txn)
decision_serves sc servers txn None e h = absurd (cc)
decision_serves sc servers txn (Some (decision.Commit committed)) e h = h
decision_serves sc servers txn (Some (decision.Abort why)) e h = absurd (cc)

part_serves : (sc : Scenario) (w : State) (txn : TxnId) (found : Option (Part Coordinator)) → Agrees sc w → slice_get w.actors.coordinators txn.0 ≡ found
    → option_map outcome_of (option_and_then decided_by found) ≡ Some outcome.Commit → Each (IsServed w.actors.servers txn) (servers_at sc txn)
part_serves sc w txn None h e d = absurd (cc)
part_serves sc w txn (Some part) h e d = decision_serves sc w.actors.servers txn (decided_in part.log) d (h.coordinators txn.0 part e).served

-- what was decided as a commit is prepared or settled as one at each of its servers
pub commit_served : (sc : Scenario) (w : State) (txn : TxnId) → Agrees sc w → DecidedAs w.actors.coordinators txn outcome.Commit → Each (IsServed w.actors.servers txn) (servers_at sc txn)
commit_served sc w txn h d = part_serves sc w txn (slice_get w.actors.coordinators txn.0) h refl d

pub server_exists : (sc : Scenario) (w : State) (at : ServerId) (part : Part Server) → Agrees sc w → slice_get w.actors.servers at.0 ≡ Some part → IsServer sc at
server_exists sc w at part h found = omega (arith, slice_get_within w.actors.servers at.0 part found, h.server_count)

-- the same as its log says
pub served_here : (sc : Scenario) (w : State) (at : ServerId) (part : Part Server) (txn : TxnId) → Agrees sc w → slice_get w.actors.servers at.0 ≡ Some part → has_item_at sc at txn ≡ true
    → DecidedAs w.actors.coordinators txn outcome.Commit → LogServed txn part.log
served_here sc w at part txn h found item d =
    let served : IsServed w.actors.servers txn at = among_servers (IsServed w.actors.servers txn) sc at txn (server_exists sc w at part h found) item (commit_served sc w txn h d) in
    subst (λ (x : Option (Part Server)). (is_some (option_and_then (prepared_by txn) x) ≡ true) ⊎ (option_map outcome_settled (option_and_then (settled_by txn) x) ≡ Some outcome.Commit)) found served

-- ---- no actor acts

pub none_more : (n : ℕ) → n + 0 ≡ n
none_more n = omega arith

-- what a step says by itself where no actor acts
pub record SaysOnly (sc : Scenario) (facts : List Fact) (happened : List What) : Type 0 where
  pub follows : Each (WhatFollows sc facts) happened
  pub no_submission : (txn : TxnId) → submissions txn happened ≡ []
  pub no_decision : (txn : TxnId) → decisions txn happened ≡ []
  pub no_settlement : (at : ServerId) (txn : TxnId) → settlements at txn happened ≡ []

-- a move in which the servers and the coordinators stay
pub unmoved_agrees : (sc : Scenario) (w : State) (happened : List What) (letters : List Letter) → Agrees sc w → SaysOnly sc w.facts happened → Each (LetterRests sc w.actors) letters
    → MoveAgrees sc w (record { actors = w.actors; happened = happened; letters = letters })
unmoved_agrees sc w happened letters h o r =
    record {
      coordinator_count = refl;
      server_count = refl;
      coordinators = h.coordinators;
      servers = h.servers;
      letters = r;
      stays = logs_same w.actors;
      happened = o.follows;
      submitted = λ txn. ap (λ (xs : List TxnId). submitted_count (slice_get w.actors.coordinators txn.0) + length xs) (o.no_submission txn) ∙ none_more _;
      decided = λ txn. ap (λ (xs : List Decision). listed (decided_at w.actors.coordinators txn.0) ++ xs) (o.no_decision txn) ∙ append-nil _;
      settled = λ at txn. ap (λ (xs : List Outcome). listed (settled_outcome w.actors.servers at txn) ++ xs) (o.no_settlement at txn) ∙ append-nil _;
    }

-- ---- a server acts

-- what a server's act leaves and says: its state, where it is up after it, what it forced if anything, what the step says by itself, and letters
pub record ServerActs (sc : Scenario) (w : State) (at : ServerId) (kept : List Record) (now : Option Server) (own : List What) (append : Option Record) (letters : List Letter) : Type 0 where
  pub state : IfSome now (λ (s : Server). ServerAgrees s (log_with kept append))
  pub knows : IfSome now (KnowsTold sc at (log_with kept append))
  pub rests : IfSome append (RecordRests (DecidedAs w.actors.coordinators) (IsAsked sc w.actors.coordinators at) kept)
  pub own_says : SaysOnly sc w.facts own
  pub replies : Each (LetterKept at (log_with kept append)) letters

abbrev pub server_facts : ServerId → Option Record → List What
server_facts at append = option_map_or (server_fact at) append []

-- a record of a server tells of a settlement, or of nothing
pub each_server_fact : (P : What → Type 0) (at : ServerId) → ((txn : TxnId) (ended : Outcome) → P (what.Settled at txn ended)) → (append : Option Record) → Each P (server_facts at append)
each_server_fact P at settled None = tt
each_server_fact P at settled (Some (log.Settled s)) = (settled s.txn s.outcome, tt)
each_server_fact P at settled (Some _) = tt

server_submissions : (at : ServerId) (append : Option Record) (txn : TxnId) → submissions txn (server_facts at append) ≡ []
server_submissions at None txn = refl
server_submissions at (Some (log.Settled s)) txn = refl
server_submissions at (Some _) txn = refl

server_decisions : (at : ServerId) (append : Option Record) (txn : TxnId) → decisions txn (server_facts at append) ≡ []
server_decisions at None txn = refl
server_decisions at (Some (log.Settled s)) txn = refl
server_decisions at (Some _) txn = refl

one_settled : (b c : Bool) (s : Settled) → b ≡ true → cons_option (if b && c then Some s.outcome else None) [] ≡ listed (option_map outcome_settled (if c then Some s else None))
one_settled true true s e = refl
one_settled true false s e = refl
one_settled false c s e = absurd (cc)

none_settled_in_server_acts : (b c : Bool) (s : Settled) → b ≡ false → cons_option (if b && c then Some s.outcome else None) [] ≡ []
none_settled_in_server_acts true c s e = absurd (cc)
none_settled_in_server_acts false c s e = refl

-- what the acting server's record says of a transaction
settlements_here : (at other : ServerId) (append : Option Record) (txn : TxnId) → same_server at other ≡ true
    → settlements other txn (server_facts at append) ≡ listed (option_map outcome_settled (appended (settlement_in txn) append))
settlements_here at other None txn e = refl
settlements_here at other (Some (log.Settled s)) txn e = one_settled (same_server at other) (same_txn s.txn txn) s e
settlements_here at other (Some _) txn e = refl

settlements_elsewhere : (at other : ServerId) (append : Option Record) (txn : TxnId) → same_server at other ≡ false → settlements other txn (server_facts at append) ≡ []
settlements_elsewhere at other None txn e = refl
settlements_elsewhere at other (Some (log.Settled s)) txn e = none_settled_in_server_acts (same_server at other) (same_txn s.txn txn) s e
settlements_elsewhere at other (Some _) txn e = refl

fresh_if : (b : Bool) (s : Settled) (old : Option Settled) → (b ≡ true → old ≡ None) → IsFresh (option_map outcome_settled (if b then Some s else None)) (option_map outcome_settled old)
fresh_if true s old fresh = ap (option_map outcome_settled) (fresh refl)
fresh_if false s old fresh = tt

fresh_settled : (V : TxnId → Outcome → Type 0) (M : TxnId → Type 0) (kept : List Record) (append : Option Record) (txn : TxnId) → IfSome append (RecordRests V M kept)
    → IsFresh (option_map outcome_settled (appended (settlement_in txn) append)) (option_map outcome_settled (settled_in txn kept))
fresh_settled V M kept None txn h = tt
fresh_settled V M kept (Some (log.Settled s)) txn h =
    fresh_if (same_txn s.txn txn) s (settled_in txn kept) (λ same. subst (λ (t : TxnId). settled_in t kept ≡ None) (same_txn_is s.txn txn same) h.fresh)
fresh_settled V M kept (Some _) txn h = tt

-- the settlement of a transaction after a record was appended
outcome_after : (V : TxnId → Outcome → Type 0) (M : TxnId → Type 0) (kept : List Record) (append : Option Record) (txn : TxnId) → IfSome append (RecordRests V M kept)
    → listed (option_map outcome_settled (settled_in txn kept)) ++ listed (option_map outcome_settled (appended (settlement_in txn) append))
    ≡ listed (option_map outcome_settled (settled_in txn (log_with kept append)))
outcome_after V M kept append txn h =
    listed_first (option_map outcome_settled (settled_in txn kept)) (option_map outcome_settled (appended (settlement_in txn) append)) (fresh_settled V M kept append txn h)
    ∙ ap listed (map_first outcome_settled (settled_in txn kept) (appended (settlement_in txn) append)
    ∙ ap (option_map outcome_settled) (sym (settled_with txn kept append)))

settled_move : (V : TxnId → Outcome → Type 0) (M : TxnId → Type 0) (servers : List (Part Server)) (at other : ServerId) (part next : Part Server) (append : Option Record) (txn : TxnId) (b : Bool) → (at.0 == other.0) ≡ b
    → slice_get servers at.0 ≡ Some part → next.log ≡ log_with part.log append → IfSome append (RecordRests V M part.log)
    → listed (settled_outcome servers other txn) ++ settlements other txn (server_facts at append) ≡ listed (settled_outcome (slice_set servers at.0 next) other txn)
settled_move V M servers at other part next append txn true same found grown h =
    let old : settled_at servers other.0 txn ≡ settled_in txn part.log = ap (option_and_then (settled_by txn)) (subst (λ (n : ℕ). slice_get servers n ≡ Some part) (eqb-true at.0 other.0 same) found) in
    let new : settled_at (slice_set servers at.0 next) other.0 txn ≡ settled_in txn (log_with part.log append) =
    look_set (settled_by txn) servers at.0 other.0 part next found
    ∙ (ap (λ (c : Bool). if c then settled_by txn next else settled_at servers other.0 txn) same ∙ ap (settled_in txn) grown) in
    ap (λ (x : Option Settled). listed (option_map outcome_settled x) ++ settlements other txn (server_facts at append)) old
    ∙ (ap (λ (xs : List Outcome). listed (option_map outcome_settled (settled_in txn part.log)) ++ xs) (settlements_here at other append txn same)
    ∙ (outcome_after V M part.log append txn h ∙ ap (λ (x : Option Settled). listed (option_map outcome_settled x)) (sym new)))
settled_move V M servers at other part next append txn false apart found grown h =
    let new : settled_at (slice_set servers at.0 next) other.0 txn ≡ settled_at servers other.0 txn =
    look_set (settled_by txn) servers at.0 other.0 part next found ∙ ap (λ (c : Bool). if c then settled_by txn next else settled_at servers other.0 txn) apart in
    ap (λ (xs : List Outcome). listed (settled_outcome servers other txn) ++ xs) (settlements_elsewhere at other append txn apart)
    ∙ (append-nil _ ∙ ap (λ (x : Option Settled). listed (option_map outcome_settled x)) (sym new))

-- ---- what a settlement rests on

one_outcome : (coordinators : List (Part Coordinator)) (txn : TxnId) (one other : Outcome) → DecidedAs coordinators txn one → DecidedAs coordinators txn other → one ≡ other
one_outcome coordinators txn one other d e = same_Some one other (sym d ∙ e)

-- a commit is settled by the coordinator's order alone
pub ordered_commit : (V : TxnId → Outcome → Type 0) (M : TxnId → Type 0) (kept : List Record) (s : Settled) (why : Option No) → s.why ≡ why → SettlementRests V M kept s → s.outcome ≡ outcome.Commit
    → (s.why ≡ None) × V s.txn outcome.Commit
ordered_commit V M kept s None e r commit = (e, subst (V s.txn) commit (r.ordered e))
ordered_commit V M kept s (Some reason) e r commit = let aborted = (r.refused (ap is_some e)).0 in absurd (cc)

-- an abort is not of what was decided as a commit
pub not_committed : (sc : Scenario) (w : State) (at : ServerId) (part : Part Server) (s : Settled) (why : Option No) → Agrees sc w → slice_get w.actors.servers at.0 ≡ Some part → s.why ≡ why
    → SettlementRests (DecidedAs w.actors.coordinators) (IsAsked sc w.actors.coordinators at) part.log s → s.outcome ≡ outcome.Abort → DecidedAs w.actors.coordinators s.txn outcome.Commit → ⊥
not_committed sc w at part s None h found e r abort d =
    let decided = one_outcome w.actors.coordinators s.txn s.outcome outcome.Commit (r.ordered e) d in cc
not_committed sc w at part s (Some reason) h found e r abort d =
    let unprepared = (r.refused (ap is_some e)).1 in
    ⊎_elim
    (λ (prepared : LogPrepared s.txn part.log). let none = ap is_some unprepared in absurd (cc))
    (λ (settled : option_map outcome_settled (settled_in s.txn part.log) ≡ Some outcome.Commit). let none = ap (option_map outcome_settled) r.fresh in absurd (cc))
    (served_here sc w at part s.txn h found r.asked.item d)

-- what is settled on the log after a record was appended rests on a decision or on what was not prepared
settled_after_in_agreement : (sc : Scenario) (w : State) (at : ServerId) (part : Part Server) (append : Option Record) (txn : TxnId) (old : Option Settled) (now : Settled) → Agrees sc w
    → slice_get w.actors.servers at.0 ≡ Some part → ((s : Settled) → old ≡ Some s → SettledRests sc w.actors.coordinators at txn s)
    → IfSome append (RecordRests (DecidedAs w.actors.coordinators) (IsAsked sc w.actors.coordinators at) part.log)
    → option_or old (appended (settlement_in txn) append) ≡ Some now → SettledRests sc w.actors.coordinators at txn now
settled_after_in_agreement sc w at part append txn (Some s) now a found h r e = h now e
settled_after_in_agreement sc w at part append txn None now a found h r e =
    let settles : Settles txn append now = settles_is txn append now e in
    let rests : SettlementRests (DecidedAs w.actors.coordinators) (IsAsked sc w.actors.coordinators at) part.log now =
    subst (λ (x : Option Record). IfSome x (RecordRests (DecidedAs w.actors.coordinators) (IsAsked sc w.actors.coordinators at) part.log)) settles.append_is r in
    subst (λ (t : TxnId). SettledRests sc w.actors.coordinators at t now) settles.txn_is
    (record {
      item = rests.asked.item;
      ordered = rests.ordered;
      commit = λ commit. ordered_commit (DecidedAs w.actors.coordinators) (IsAsked sc w.actors.coordinators at) part.log now now.why refl rests commit;
      abort = λ abort d. not_committed sc w at part now now.why a found refl rests abort d;
    })

-- the fact of a settlement follows the submission, and a commit its decision
facts_follow_in_server_acts : (sc : Scenario) (w : State) (at : ServerId) (kept : List Record) (append : Option Record) → Agrees sc w
    → IfSome append (RecordRests (DecidedAs w.actors.coordinators) (IsAsked sc w.actors.coordinators at) kept) → Each (WhatFollows sc w.facts) (server_facts at append)
facts_follow_in_server_acts sc w at kept None h r = tt
facts_follow_in_server_acts sc w at kept (Some (log.Settled s)) h r = (
  record {
    submitted = submitted_told s.txn w.facts (h.submitted s.txn ∙ r.asked.submitted);
    item = r.asked.item;
    follows = follows s.outcome refl;
  },
  tt,
)
  where
    follows : (ended : Outcome) → s.outcome ≡ ended → Follows w.facts s.txn ended
    follows outcome.Commit e = decided_told sc w s.txn outcome.Commit h (ordered_commit (DecidedAs w.actors.coordinators) (IsAsked sc w.actors.coordinators at) kept s s.why refl r e).1
    follows outcome.Abort e = tt
facts_follow_in_server_acts sc w at kept (Some _) h r = tt

-- ---- what a server's act does not undo

-- what is prepared while nothing is decided is not settled by the act
still_prepared : (sc : Scenario) (w : State) (at : ServerId) (kept : List Record) (append : Option Record) (txn : TxnId) (settled : Option Settled)
    → IfSome append (RecordRests (DecidedAs w.actors.coordinators) (IsAsked sc w.actors.coordinators at) kept) → appended (settlement_in txn) append ≡ settled
    → decided_at w.actors.coordinators txn.0 ≡ None → LogPrepared txn kept → LogPrepared txn (log_with kept append)
still_prepared sc w at kept append txn None r e undecided p = prepared_kept txn kept append e p
still_prepared sc w at kept append txn (Some s) r e undecided p =
    let settles : Settles txn append s = settles_is txn append s e in
    let rests : SettlementRests (DecidedAs w.actors.coordinators) (IsAsked sc w.actors.coordinators at) kept s =
    subst (λ (x : Option Record). IfSome x (RecordRests (DecidedAs w.actors.coordinators) (IsAsked sc w.actors.coordinators at) kept)) settles.append_is r in
    by_why s.why refl rests settles.txn_is
  where
    by_why : (why : Option No) → s.why ≡ why → SettlementRests (DecidedAs w.actors.coordinators) (IsAsked sc w.actors.coordinators at) kept s → s.txn ≡ txn → LogPrepared txn (log_with kept append)
    by_why None f rests own =
        let decided : DecidedAs w.actors.coordinators txn s.outcome = subst (λ (t : TxnId). DecidedAs w.actors.coordinators t s.outcome) own (rests.ordered f) in
        let none : option_map outcome_of (decided_at w.actors.coordinators txn.0) ≡ None = ap (option_map outcome_of) undecided in
        absurd (cc)
    by_why (Some reason) f rests own =
        let unprepared : prepared_in txn kept ≡ None = subst (λ (t : TxnId). prepared_in t kept ≡ None) own (rests.refused (ap is_some f)).1 in
        let none = ap is_some unprepared in
        absurd (cc)

first_commit : (old more : Option Settled) → option_map outcome_settled old ≡ Some outcome.Commit → option_map outcome_settled (option_or old more) ≡ Some outcome.Commit
first_commit None more e = absurd (cc)
first_commit (Some s) more e = e

-- what serves a commit serves it after the act
still_served : (sc : Scenario) (w : State) (at : ServerId) (kept : List Record) (append : Option Record) (txn : TxnId) (settled : Option Settled)
    → IfSome append (RecordRests (DecidedAs w.actors.coordinators) (IsAsked sc w.actors.coordinators at) kept) → appended (settlement_in txn) append ≡ settled
    → DecidedAs w.actors.coordinators txn outcome.Commit → LogServed txn kept → LogServed txn (log_with kept append)
still_served sc w at kept append txn settled r e commit served =
    ⊎_elim (λ (p : LogPrepared txn kept). prepared settled e p)
    (λ (c : option_map outcome_settled (settled_in txn kept) ≡ Some outcome.Commit).
    inr (ap (option_map outcome_settled) (settled_with txn kept append) ∙ first_commit (settled_in txn kept) (appended (settlement_in txn) append) c)) served
  where
    by_why : (s : Settled) (why : Option No) → s.why ≡ why → appended (settlement_in txn) append ≡ Some s
        → SettlementRests (DecidedAs w.actors.coordinators) (IsAsked sc w.actors.coordinators at) kept s → s.txn ≡ txn → LogPrepared txn kept → LogServed txn (log_with kept append)
    by_why s None g f rests own p =
        let decided : DecidedAs w.actors.coordinators txn s.outcome = subst (λ (t : TxnId). DecidedAs w.actors.coordinators t s.outcome) own (rests.ordered g) in
        let ended : s.outcome ≡ outcome.Commit = one_outcome w.actors.coordinators txn s.outcome outcome.Commit decided commit in
        inr (ap (option_map outcome_settled) (settled_with txn kept append)
        ∙ (ap (λ (x : Option Settled). option_map outcome_settled (option_or x (appended (settlement_in txn) append))) (prepared_open txn kept p)
        ∙ (ap (option_map outcome_settled) f ∙ ap Some ended)))
    by_why s (Some reason) g f rests own p =
        let unprepared : prepared_in txn kept ≡ None = subst (λ (t : TxnId). prepared_in t kept ≡ None) own (rests.refused (ap is_some g)).1 in
        let none = ap is_some unprepared in
        absurd (cc)

    prepared : (found : Option Settled) → appended (settlement_in txn) append ≡ found → LogPrepared txn kept → LogServed txn (log_with kept append)
    prepared None f p = inl (prepared_kept txn kept append f p)
    prepared (Some s) f p =
        let settles : Settles txn append s = settles_is txn append s f in
        by_why s s.why refl f
        (subst (λ (x : Option Record). IfSome x (RecordRests (DecidedAs w.actors.coordinators) (IsAsked sc w.actors.coordinators at) kept)) settles.append_is r) settles.txn_is p

-- what the logs say stays as a server acts
server_logs_stay : (sc : Scenario) (w : State) (at : ServerId) (part next : Part Server) (append : Option Record) → slice_get w.actors.servers at.0 ≡ Some part → next.log ≡ log_with part.log append
    → IfSome append (RecordRests (DecidedAs w.actors.coordinators) (IsAsked sc w.actors.coordinators at) part.log)
    → LogsStay w.actors (record w.actors { servers = slice_set w.actors.servers at.0 next })
server_logs_stay sc w at part next append found grown r =
    let servers = w.actors.servers in
    record {
      decided = λ txn d e. e;
      submitted = λ txn e. e;
      settled = λ txn other s e. part_stays (λ (x : Option (Part Server)). option_and_then (settled_by txn) x ≡ Some s) (λ (x : Option (Part Server)). option_and_then (settled_by txn) x ≡ Some s) servers at other part next found
          (λ same p. ap (settled_in txn) grown ∙ (settled_with txn part.log append ∙ first_stays (settled_in txn part.log) (appended (settlement_in txn) append) s p)) (λ x p. p) e;
      voted = λ txn other e. part_stays (λ (x : Option (Part Server)). option_map_or (voted_by txn) x false ≡ true) (λ (x : Option (Part Server)). option_map_or (voted_by txn) x false ≡ true) servers at other part next found
          (λ same p. ap (has_voted txn) grown ∙ has_voted_with txn part.log append p) (λ x p. p) e;
      prepared = λ txn other undecided e.
          part_stays (λ (x : Option (Part Server)). is_some (option_and_then (prepared_by txn) x) ≡ true) (λ (x : Option (Part Server)). is_some (option_and_then (prepared_by txn) x) ≡ true) servers at other part next found
          (λ same p. subst (LogPrepared txn) (sym grown) (still_prepared sc w at part.log append txn (appended (settlement_in txn) append) r refl undecided p)) (λ x p. p) e;
      served = λ txn other commit e.
          part_stays (λ (x : Option (Part Server)). (is_some (option_and_then (prepared_by txn) x) ≡ true) ⊎ (option_map outcome_settled (option_and_then (settled_by txn) x) ≡ Some outcome.Commit))
          (λ (x : Option (Part Server)). (is_some (option_and_then (prepared_by txn) x) ≡ true) ⊎ (option_map outcome_settled (option_and_then (settled_by txn) x) ≡ Some outcome.Commit)) servers at other part next found
          (λ same p. subst (LogServed txn) (sym grown) (still_served sc w at part.log append txn (appended (settlement_in txn) append) r refl commit p)) (λ x p. p) e;
    }

-- ---- coordinators as logs stay

all_but_stays : (P Q : ServerId → Type 0) (awaited servers : List ServerId) → ((at : ServerId) → P at → Q at) → AllBut P awaited servers → AllBut Q awaited servers
all_but_stays P Q awaited servers more h =
    each_as (λ (at : ServerId). is_in awaited at ≡ false → P at) (λ (at : ServerId). is_in awaited at ≡ false → Q at) (λ at k left. more at (k left)) servers h

span_stays : (P Q : ServerId → Type 0) (over : Span) (awaited servers : List ServerId) → ((at : ServerId) → P at → Q at) → SpanRests P over awaited servers → SpanRests Q over awaited servers
span_stays P Q (span.Validate number) awaited servers more h = tt
span_stays P Q span.Commit awaited servers more h = all_but_stays P Q awaited servers more h

-- what a phase rests on stays; what is undecided now was undecided before
phase_stays_in_agreement : (P Q S T : ServerId → Type 0) (awaited : Phase) (decided : Option Decision) (servers : List ServerId) → PhaseAgrees awaited decided → (decided ≡ None → (at : ServerId) → P at → Q at)
    → ((at : ServerId) → S at → T at) → PhaseRests P S awaited servers → PhaseRests Q T awaited servers
phase_stays_in_agreement P Q S T (phase.Asking over round) decided servers a undecided settled h = span_stays P Q over (missing_in round.targets) servers (undecided a) h
phase_stays_in_agreement P Q S T (phase.Checking over round staple) decided servers a undecided settled h = span_stays P Q over (missing_in round.targets) servers (undecided a) h
phase_stays_in_agreement P Q S T (phase.Reading over round) decided servers a undecided settled h = span_stays P Q over [] servers (undecided a) h
phase_stays_in_agreement P Q S T (phase.Voting awaited) decided servers a undecided settled h = all_but_stays P Q awaited servers (undecided a) h
phase_stays_in_agreement P Q S T phase.VoteProbing decided servers a undecided settled h = all_but_stays P Q [] servers (undecided a) h
phase_stays_in_agreement P Q S T (phase.Ending ended awaited) decided servers a undecided settled h = all_but_stays S T awaited servers settled h
phase_stays_in_agreement P Q S T _ decided servers a undecided settled h = tt

served_stays : (old new : Actors) (txn : TxnId) (servers : List ServerId) (decided : Option Decision) → LogsStay old new → decided_at old.coordinators txn.0 ≡ decided
    → IfSome decided (DecisionRests (IsServed old.servers txn) servers) → IfSome decided (DecisionRests (IsServed new.servers txn) servers)
served_stays old new txn servers None stays e h = tt
served_stays old new txn servers (Some (decision.Abort why)) stays e h = tt
served_stays old new txn servers (Some (decision.Commit committed)) stays e h =
    each_as (IsServed old.servers txn) (IsServed new.servers txn) (λ at k. stays.served txn at (ap (option_map outcome_of) e) k) servers h

up_stays : (sc : Scenario) (old new : Actors) (txn : TxnId) (kept : List Record) (up : Option Coordinator) → LogsStay old new → (decided_in kept ≡ None → decided_at new.coordinators txn.0 ≡ None)
    → IfSome up (CoordinatorUpAgrees sc old.servers txn kept) → IfSome up (CoordinatorUpAgrees sc new.servers txn kept)
up_stays sc old new txn kept None stays undecided h = tt
up_stays sc old new txn kept (Some c) stays undecided h =
    record {
      agrees = h.agrees;
      replied = phase_stays_in_agreement (IsPrepared old.servers txn) (IsPrepared new.servers txn) (IsSettled old.servers txn) (IsSettled new.servers txn) c.phase (decided_in kept) (servers_at sc c.txn) h.agrees.decided
          (λ none at p. stays.prepared txn at (undecided none) p) (λ at p. settled_stays old new txn at stays p) h.replied;
    }

-- a coordinator that did not act agrees as before, where what it decided is decided still and no more
pub coordinator_stays : (sc : Scenario) (old new : Actors) (txn : TxnId) (part : Part Coordinator) → LogsStay old new → decided_at old.coordinators txn.0 ≡ decided_in part.log
    → decided_at new.coordinators txn.0 ≡ decided_in part.log → CoordinatorPartAgrees sc old.servers txn part → CoordinatorPartAgrees sc new.servers txn part
coordinator_stays sc old new txn part stays was is h =
    record {
      state = up_stays sc old new txn part.log part.up stays (λ none. is ∙ none) h.state;
      served = served_stays old new txn (servers_at sc txn) (decided_in part.log) stays was h.served;
    }

-- ---- the move

-- what is prepared on the log was asked for
abbrev AskedOnLog : Scenario → List (Part Coordinator) → ServerId → List Record → Type 0
AskedOnLog sc coordinators at kept = (txn : TxnId) (p : Prepared) → prepared_in txn kept ≡ Some p → IsAsked sc coordinators at txn

-- a letter of a server rests on its log
letter_rests_in_server_acts : (sc : Scenario) (servers : List (Part Server)) (rest : Actors) (at : ServerId) (part next : Part Server) (from to : Actor) (said_is : Body)
    → slice_get servers at.0 ≡ Some part → from ≡ actor.Server at → AskedOnLog sc rest.coordinators at next.log → ReplyKept next.log said_is → BodyRests sc (record rest { servers = slice_set servers at.0 next }) from to said_is
letter_rests_in_server_acts sc servers rest at part next from to said_is found own asked k =
    let actors = record rest { servers = slice_set servers at.0 next } in
    let now : slice_get (slice_set servers at.0 next) at.0 ≡ Some next =
    get_set servers at.0 at.0 part next found ∙ ap (λ (c : Bool). if c then Some next else slice_get servers at.0) (number_itself at.0) in
    subst (λ (sender : Actor). BodyRests sc actors sender to said_is) (sym own) (says now said_is k)
  where
    voted : slice_get (slice_set servers at.0 next) at.0 ≡ Some next → (txn : TxnId) (said : Vote) → VoteKept next.log txn said → VoteRests (record rest { servers = slice_set servers at.0 next }) at txn said
    voted now txn (vote.Yes verdicts) v =
        record {
          voted = ap (λ (x : Option (Part Server)). option_map_or (voted_by txn) x false) now ∙ prepared_voted txn next.log v;
          prepared = λ undecided. ap (λ (x : Option (Part Server)). is_some (option_and_then (prepared_by txn) x)) now ∙ v;
        }
    voted now txn (vote.No why) v = ap (option_and_then (settled_by txn)) now ∙ v

    says : slice_get (slice_set servers at.0 next) at.0 ≡ Some next → (said : Body) → ReplyKept next.log said → BodyRests sc (record rest { servers = slice_set servers at.0 next }) (actor.Server at) to said
    says now (body.Query q) v = absurd v
    says now (body.Validate q) v = absurd v
    says now (body.Prepare q) v = absurd v
    says now (body.Decide q) v = absurd v
    says now (body.Vote reply) v = voted now reply.txn reply.vote v
    says now (body.Ack ack) v = ap (λ (x : Option (Part Server)). is_some (option_and_then (settled_by ack.txn) x)) now ∙ v
    says now (body.Done done) v = tt
    says now (body.Ask ask) v = tt
    says now (body.Tell tell) v = tt
    says now (body.Verdicts reply) v = tt
    says now (body.Probe probe) v = tt
    says now (body.Newest reply) v = tt
    says now (body.Inquire inquiry) v = let p = some_value (prepared_in inquiry.txn next.log) v in asked inquiry.txn p.0 p.1
    says now (body.Push push) v = tt

letters_rest_in_server_acts : (sc : Scenario) (w : State) (at : ServerId) (part next : Part Server) (letters : List Letter) → slice_get w.actors.servers at.0 ≡ Some part → AskedOnLog sc w.actors.coordinators at next.log → Each (LetterKept at next.log) letters
    → Each (LetterRests sc (record w.actors { servers = slice_set w.actors.servers at.0 next })) letters
letters_rest_in_server_acts sc w at part next [] found asked h = tt
letters_rest_in_server_acts sc w at part next (letter ∷ letters) found asked h =
    (letter_rests_in_server_acts sc w.actors.servers w.actors at part next letter.from letter.to letter.body found h.0.from_is asked h.0.says, letters_rest_in_server_acts sc w at part next letters found asked h.1)

-- a vote YES that was forced follows a request
voted_asked : (V : TxnId → Outcome → Type 0) (M : TxnId → Type 0) (kept : List Record) (txn : TxnId) (append : Option Record) → IfSome append (RecordRests V M kept) → (p : Prepared) → appended (preparation_in txn) append ≡ Some p → M txn
voted_asked V M kept txn (Some (log.Prepared q)) r p e = subst M (same_txn_is q.txn txn (cond_some (same_txn q.txn txn) q p e).0) r.asked
voted_asked V M kept txn (Some log.Boot) r p e = absurd (cc)
voted_asked V M kept txn (Some (log.Told t)) r p e = absurd (cc)
voted_asked V M kept txn (Some (log.Settled s)) r p e = absurd (cc)
voted_asked V M kept txn (Some (log.Decided d)) r p e = absurd (cc)
voted_asked V M kept txn None r p e = absurd (cc)

-- the move of a server that acts lawfully, whether it is up after it or down
pub server_acts_agrees : (sc : Scenario) (w : State) (at : ServerId) (part : Part Server) (now : Option Server) (own : List What) (append : Option Record) (letters : List Letter) → Agrees sc w
    → slice_get w.actors.servers at.0 ≡ Some part → ServerActs sc w at part.log now own append letters
    → MoveAgrees sc w (server_move w.actors at (acts (server_fact at) own part.log now (log_with part.log append) letters))
server_acts_agrees sc w at part now own append letters h found l =
    let next : Part Server = record { up = now; log = log_with part.log append } in
    let V = DecidedAs w.actors.coordinators in
    let M = IsAsked sc w.actors.coordinators at in
    let actors = record w.actors { servers = slice_set w.actors.servers at.0 next } in
    let stays : LogsStay w.actors actors = server_logs_stay sc w at part next append found refl l.rests in
    let tells : own ++ flat_map (server_fact at) (drop (length part.log) (log_with part.log append)) ≡ own ++ server_facts at append = ap (λ (xs : List What). own ++ xs) (gained (server_fact at) part.log append) in
    let here = h.servers at.0 part found in
    let asked : AskedOnLog sc w.actors.coordinators at next.log =
    λ txn. prepared_either txn part.log append (λ (p : Prepared). M txn) (here.prepared txn) (λ p e. voted_asked V M part.log txn append l.rests p e) in
    record {
      coordinator_count = refl;
      server_count = length-set w.actors.servers at.0 next;
      coordinators = λ n p e. let decided : decided_at w.actors.coordinators n ≡ decided_in p.log = ap (option_and_then decided_by) e in
          coordinator_stays sc w.actors actors (record { 0 = n }) p stays decided decided (h.coordinators n p e);
      servers = at_set (λ (n : ℕ) (p : Part Server). ServerPartAgrees sc w.actors.coordinators (record { 0 = n }) p) w.actors.servers at.0 next h.servers
          (record {
            state = l.state;
            knows = l.knows;
            settled = λ txn s e. settled_after_in_agreement sc w at part append txn (settled_in txn part.log) s h found (here.settled txn) l.rests (sym (settled_with txn part.log append) ∙ e);
            prepared = asked;
          });
      letters = letters_rest_in_server_acts sc w at part next letters found asked l.replies;
      stays = stays;
      happened = subst (Each (WhatFollows sc w.facts)) (sym tells)
          (each_append (WhatFollows sc w.facts) own (server_facts at append) l.own_says.follows (facts_follow_in_server_acts sc w at part.log append h l.rests));
      submitted = λ txn. ap (λ (xs : List What). submitted_count (slice_get w.actors.coordinators txn.0) + length (submissions txn xs)) tells
          ∙ (ap (λ (xs : List TxnId). submitted_count (slice_get w.actors.coordinators txn.0) + length xs)
          (filter_map-append (submitted_what txn) own (server_facts at append) ∙ (ap (λ (xs : List TxnId). xs ++ submissions txn (server_facts at append)) (l.own_says.no_submission txn) ∙ server_submissions at append txn))
          ∙ none_more _);
      decided = λ txn. ap (λ (xs : List What). listed (decided_at w.actors.coordinators txn.0) ++ decisions txn xs) tells
          ∙ (ap (λ (xs : List Decision). listed (decided_at w.actors.coordinators txn.0) ++ xs)
          (filter_map-append (decided_what txn) own (server_facts at append) ∙ (ap (λ (xs : List Decision). xs ++ decisions txn (server_facts at append)) (l.own_says.no_decision txn) ∙ server_decisions at append txn))
          ∙ append-nil _);
      settled = λ other txn. ap (λ (xs : List What). listed (settled_outcome w.actors.servers other txn) ++ settlements other txn xs) tells
          ∙ (ap (λ (xs : List Outcome). listed (settled_outcome w.actors.servers other txn) ++ xs)
          (filter_map-append (settled_what other txn) own (server_facts at append) ∙ ap (λ (xs : List Outcome). xs ++ settlements other txn (server_facts at append)) (l.own_says.no_settlement other txn))
          ∙ settled_move V M w.actors.servers at other part next append txn (at.0 == other.0) refl found refl l.rests);
    }
