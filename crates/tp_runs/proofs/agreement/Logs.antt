-- Agreement, what the logs of all actors say of a transaction, and what of it no step undoes.
-- ---- what logs say
-- the coordinators' logs have decided the transaction so
use Rattle.std.specs.Prelude.{if◌then◌else◌}
use Rattle.std.proofs.Common.{Bool, List, None, Option, Some, ap, false, is_some, option_map, refl, slice_get, slice_set, subst, sym, true, ℕ, ◌==◌, ◌||◌, ◌∙◌, ◌≡◌, ◌⊎◌}
use Rattle.std.proofs.lemmas.Bool.{eqb-true, or_right}
use Rattle.std.proofs.lemmas.Option.{same_Some}
use Rattle.tp_model.specs.Words.{Decision, Outcome, Prepared, Record, Scenario, ServerId, Settled, TxnId}
use Rattle.tp_model.specs.Words.log
use Rattle.tp_model.specs.Words.outcome
use Rattle.tp_model.specs.Agreement.{has_item_at}
use Rattle.std.specs.Option.{option_or}
use Rattle.tp_model.specs.Facts.{outcome_of}
use Rattle.tp_model.specs.Ids.{same_txn}
use Rattle.tp_recover.specs.Log.{has_voted, preparation_in, prepared_in, settled_in, settlement_in, voted_in, while_unsettled}
use Rattle.tp_machine.specs.Logs.{decided_at, has_voted_at, prepared_at, settled_at}
use Rattle.tp_actor_log.specs.Records.{log_with}
use Rattle.tp_coord.specs.Row.{is_begun}
use Rattle.tp_machine.specs.declared.actors.Actors.{Actors}
use Rattle.tp_coord.specs.State.{Coordinator}
use Rattle.tp_machine.specs.Parts.{Part}
use Rattle.tp_server.specs.State.{Server}
use Rattle.tp_runs.proofs.basics.Ids.{same_txn_is}
use Rattle.tp_runs.proofs.basics.Logs.{appended, get_set, prepared_with}

abbrev pub DecidedAs : List (Part Coordinator) → TxnId → Outcome → Type 0
DecidedAs coordinators txn ended = option_map outcome_of (decided_at coordinators txn.0) ≡ Some ended

abbrev pub outcome_settled : Settled → Outcome
outcome_settled s = s.outcome

-- the settlement of a transaction on a server's log, as an outcome
abbrev pub settled_outcome : List (Part Server) → ServerId → TxnId → Option Outcome
settled_outcome servers at txn = option_map outcome_settled (settled_at servers at.0 txn)

-- the server has prepared the transaction, and has not settled it
abbrev pub IsPrepared : List (Part Server) → TxnId → ServerId → Type 0
IsPrepared servers txn at = is_some (prepared_at servers at.0 txn) ≡ true

-- the server has settled the transaction
abbrev pub IsSettled : List (Part Server) → TxnId → ServerId → Type 0
IsSettled servers txn at = is_some (settled_at servers at.0 txn) ≡ true

-- the server has prepared or settled the transaction
abbrev pub HasVoted : List (Part Server) → TxnId → ServerId → Type 0
HasVoted servers txn at = has_voted_at servers at.0 txn ≡ true

-- the server has prepared the transaction, or settled it as a commit
abbrev pub IsServed : List (Part Server) → TxnId → ServerId → Type 0
IsServed servers txn at = IsPrepared servers txn at ⊎ (settled_outcome servers at txn ≡ Some outcome.Commit)

-- ---- submissions

abbrev pub once : Bool → ℕ
once false = 0
once true = 1

-- a coordinator that is down was submitted
abbrev pub submitted_up : Option Coordinator → ℕ
submitted_up None = 1
submitted_up (Some c) = once (is_begun c.phase)

-- how often a transaction was submitted, by its coordinator
abbrev pub submitted_count : Option (Part Coordinator) → ℕ
submitted_count None = 0
submitted_count (Some part) = submitted_up part.up

-- the transaction was submitted
abbrev pub WasSubmitted : List (Part Coordinator) → TxnId → Type 0
WasSubmitted coordinators txn = submitted_count (slice_get coordinators txn.0) ≡ 1

-- a request of a transaction goes to a server with an item of it, after the submission
pub record IsAsked (sc : Scenario) (coordinators : List (Part Coordinator)) (at : ServerId) (txn : TxnId) : Type 0 where
  pub item : has_item_at sc at txn ≡ true
  pub submitted : WasSubmitted coordinators txn

-- ---- what no step undoes

-- what was decided and settled, and who voted, stays so; what is prepared stays so while nothing is decided, and what serves a commit serves it
pub record LogsStay (old new : Actors) : Type 0 where
  pub decided : (txn : ℕ) (d : Decision) → decided_at old.coordinators txn ≡ Some d → decided_at new.coordinators txn ≡ Some d
  pub submitted : (txn : TxnId) → WasSubmitted old.coordinators txn → WasSubmitted new.coordinators txn
  pub settled : (txn : TxnId) (at : ServerId) (s : Settled) → settled_at old.servers at.0 txn ≡ Some s → settled_at new.servers at.0 txn ≡ Some s
  pub voted : (txn : TxnId) (at : ServerId) → HasVoted old.servers txn at → HasVoted new.servers txn at
  pub prepared : (txn : TxnId) (at : ServerId) → decided_at new.coordinators txn.0 ≡ None → IsPrepared old.servers txn at → IsPrepared new.servers txn at
  pub served : (txn : TxnId) (at : ServerId) → DecidedAs old.coordinators txn outcome.Commit → IsServed old.servers txn at → IsServed new.servers txn at

pub logs_same : (actors : Actors) → LogsStay actors actors
logs_same actors =
    record {
      decided = λ txn d e. e;
      submitted = λ txn e. e;
      settled = λ txn at s e. e;
      voted = λ txn at e. e;
      prepared = λ txn at undecided e. e;
      served = λ txn at commit e. e;
    }

outcome_stays : (old new : Option Decision) (ended : Outcome) → ((d : Decision) → old ≡ Some d → new ≡ Some d) → option_map outcome_of old ≡ Some ended → option_map outcome_of new ≡ Some ended
outcome_stays None new ended stays e = absurd (cc)
outcome_stays (Some d) new ended stays e = ap (option_map outcome_of) (stays d refl) ∙ e

pub decided_stays : (old new : Actors) (txn : TxnId) (ended : Outcome) → LogsStay old new → DecidedAs old.coordinators txn ended → DecidedAs new.coordinators txn ended
decided_stays old new txn ended stays e = outcome_stays (decided_at old.coordinators txn.0) (decided_at new.coordinators txn.0) ended (stays.decided txn.0) e

some_stays : {A : Type 0} (old new : Option A) → ((x : A) → old ≡ Some x → new ≡ Some x) → is_some old ≡ true → is_some new ≡ true
some_stays None new stays e = absurd (cc)
some_stays (Some x) new stays e = ap is_some (stays x refl)

pub settled_stays : (old new : Actors) (txn : TxnId) (at : ServerId) → LogsStay old new → IsSettled old.servers txn at → IsSettled new.servers txn at
settled_stays old new txn at stays e = some_stays (settled_at old.servers at.0 txn) (settled_at new.servers at.0 txn) (stays.settled txn at) e

none_before_in_agreement : (old new : Option Decision) → ((d : Decision) → old ≡ Some d → new ≡ Some d) → new ≡ None → old ≡ None
none_before_in_agreement None new stays e = refl
none_before_in_agreement (Some d) new stays e = let still = stays d refl in absurd (cc)

-- what is undecided was undecided before
pub undecided_before : (old new : Actors) (txn : ℕ) → LogsStay old new → decided_at new.coordinators txn ≡ None → decided_at old.coordinators txn ≡ None
undecided_before old new txn stays e = none_before_in_agreement (decided_at old.coordinators txn) (decided_at new.coordinators txn) (stays.decided txn) e

-- ---- one log

-- what is prepared, as a log says
abbrev pub LogPrepared : TxnId → List Record → Type 0
LogPrepared txn kept = is_some (prepared_in txn kept) ≡ true

-- prepared, or settled as a commit
abbrev pub LogServed : TxnId → List Record → Type 0
LogServed txn kept = LogPrepared txn kept ⊎ (option_map outcome_settled (settled_in txn kept) ≡ Some outcome.Commit)

unsettled_kept : (settled : Option Settled) (voted new : Option Prepared) → is_some (while_unsettled settled voted) ≡ true → is_some (while_unsettled (option_or settled None) (option_or new voted)) ≡ true
unsettled_kept (Some s) voted new e = absurd (cc)
unsettled_kept None voted None e = e
unsettled_kept None voted (Some p) e = refl

-- what is prepared stays so where it is not settled
pub prepared_kept : (txn : TxnId) (kept : List Record) (append : Option Record) → appended (settlement_in txn) append ≡ None → LogPrepared txn kept → LogPrepared txn (log_with kept append)
prepared_kept txn kept append open_still e =
    ap is_some (prepared_with txn kept append)
    ∙ (ap (λ (more : Option Settled). is_some (while_unsettled (option_or (settled_in txn kept) more) (option_or (appended (preparation_in txn) append) (voted_in txn kept)))) open_still
    ∙ unsettled_kept (settled_in txn kept) (voted_in txn kept) (appended (preparation_in txn) append) e)

-- a prepared transaction is not settled
pub prepared_open : (txn : TxnId) (kept : List Record) → LogPrepared txn kept → settled_in txn kept ≡ None
prepared_open txn kept e = unsettled (settled_in txn kept) e
  where
    unsettled : (settled : Option Settled) → is_some (while_unsettled settled (voted_in txn kept)) ≡ true → settled ≡ None
    unsettled None h = refl
    unsettled (Some s) h = absurd (cc)

-- and has voted
pub prepared_voted : (txn : TxnId) (kept : List Record) → LogPrepared txn kept → has_voted txn kept ≡ true
prepared_voted txn kept e = ap (λ (b : Bool). b || is_some (settled_in txn kept)) e

-- a settled one has voted too
pub settled_voted : (txn : TxnId) (kept : List Record) → is_some (settled_in txn kept) ≡ true → has_voted txn kept ≡ true
settled_voted txn kept e = or_right (is_some (while_unsettled (settled_in txn kept) (voted_in txn kept))) (is_some (settled_in txn kept)) e

-- a record that settles the transaction
pub record Settles (txn : TxnId) (append : Option Record) (s : Settled) : Type 0 where
  pub append_is : append ≡ Some (log.Settled s)
  pub txn_is : s.txn ≡ txn

settles_if : (b : Bool) (txn : TxnId) (t s : Settled) → same_txn t.txn txn ≡ b → (if b then Some t else None) ≡ Some s → Settles txn (Some (log.Settled t)) s
settles_if true txn t s same e =
    let same_one : t ≡ s = same_Some t s e in
    record { append_is = ap (λ (x : Settled). Some (log.Settled x)) same_one; txn_is = sym (ap (λ (x : Settled). x.txn) same_one) ∙ same_txn_is t.txn txn same }
settles_if false txn t s same e = absurd (cc)

pub settles_is : (txn : TxnId) (append : Option Record) (s : Settled) → appended (settlement_in txn) append ≡ Some s → Settles txn append s
settles_is txn None s e = absurd (cc)
settles_is txn (Some (log.Settled t)) s e = settles_if (same_txn t.txn txn) txn t s refl e
settles_is txn (Some (log.Boot)) s e = absurd (cc)
settles_is txn (Some (log.Told t)) s e = absurd (cc)
settles_is txn (Some (log.Prepared p)) s e = absurd (cc)
settles_is txn (Some (log.Decided d)) s e = absurd (cc)

-- ---- one part changes

-- what is said of the part of a server, after another part changed or this one
pub part_stays : (P Q : Option (Part Server) → Type 0) (servers : List (Part Server)) (at other : ServerId) (part next : Part Server) → slice_get servers at.0 ≡ Some part
    → ((at.0 == other.0) ≡ true → P (Some part) → Q (Some next)) → ((x : Option (Part Server)) → P x → Q x) → P (slice_get servers other.0) → Q (slice_get (slice_set servers at.0 next) other.0)
part_stays P Q servers at other part next found here elsewhere p = stays (at.0 == other.0) refl
  where
    stays : (b : Bool) → (at.0 == other.0) ≡ b → Q (slice_get (slice_set servers at.0 next) other.0)
    stays true same =
        let was : slice_get servers other.0 ≡ Some part = subst (λ (n : ℕ). slice_get servers n ≡ Some part) (eqb-true at.0 other.0 same) found in
        let now : slice_get (slice_set servers at.0 next) other.0 ≡ Some next =
        get_set servers at.0 other.0 part next found ∙ ap (λ (c : Bool). if c then Some next else slice_get servers other.0) same in
        subst Q (sym now) (here same (subst P was p))
    stays false apart =
        let now : slice_get (slice_set servers at.0 next) other.0 ≡ slice_get servers other.0 =
        get_set servers at.0 other.0 part next found ∙ ap (λ (c : Bool). if c then Some next else slice_get servers other.0) apart in
        subst Q (sym now) (elsewhere (slice_get servers other.0) p)
