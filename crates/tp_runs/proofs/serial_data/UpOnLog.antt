-- Serial data, a server that is up and its log: the entries have read the server's values, which are those of its log, before and after an act.
use Rattle.std.proofs.Common.{IfSome, List, None, Option, Some, ap, is_some, option_and_then, option_map, refl, subst, sym, true, ℤ, ◌∙◌, ◌≡◌}
use Rattle.std.proofs.lemmas.Option.{same_Some}
use Rattle.tp_types.specs.Effect.{Effect}
use Rattle.tp_model.specs.SerialRun.{with_deeds}
use Rattle.tp_model.specs.Words.log
use Rattle.tp_model.specs.Words.outcome
use Rattle.tp_model.specs.Words.{Deed, Outcome, Prepared, Record, Scenario, Settled, TxnId}
use Rattle.tp_recover.specs.Log.{ended_first, prepared_in, settled_in, values_by, values_in}
use Rattle.tp_runs.proofs.agreement.Logs.{LogPrepared}
use Rattle.tp_runs.proofs.agreement.Server.{CastVote, ServerAgrees, cast_in, vote_by, vote_of}
use Rattle.tp_runs.proofs.deeds.Reads.{AreClear, ReadsFrom}
use Rattle.tp_runs.proofs.locked.Apart.{entries_apart}
use Rattle.tp_runs.proofs.locked.World.{IsLockedServer}
use Rattle.tp_runs.proofs.serial_data.OnLog.{RecordReads, values_after, values_grown}
use Rattle.tp_runs.proofs.serial_data.Rows.{RecordHere, ServerKeeps, ServerReads, deeds_in, values_with}
use Rattle.tp_actor_log.specs.Records.{log_with}
use Rattle.tp_server.specs.declared.server.Ballot.{Ballot}
use Rattle.tp_server.specs.declared.server.Entry.{Entry}
use Rattle.tp_server.specs.Row.{entry_at}
use Rattle.tp_server.specs.State.{Server}

-- what the entries have read are the server's values, which are those of its log
pub record UpOnLog (sc : Scenario) (s : Server) (kept : List Record) : Type 0 where
  pub reads : ServerReads sc s
  pub values : s.store.values ≡ values_in sc kept

-- ---- what is prepared

-- the entry of what is prepared
pub record IsPreparedEntry (s : Server) (txn : TxnId) (p : Prepared) : Type 0 where
  pub entry : Entry
  pub found : entry_at s txn ≡ Some entry
  pub deeds_are : entry.deeds ≡ p.deeds

cast_is : (s : Server) (txn : TxnId) (p : Prepared) (found : Option Entry) → entry_at s txn ≡ found → Some (vote_of p) ≡ option_and_then cast_in found → IsPreparedEntry s txn p
cast_is s txn p None e h = absurd (cc)
cast_is s txn p (Some entry) e h = by_ballot entry.ballot h
  where
    by_ballot : (ballot : Option Ballot) → Some (vote_of p) ≡ option_map (vote_by entry) ballot → IsPreparedEntry s txn p
    by_ballot None f = absurd (cc)
    by_ballot (Some ballot) f = record { entry = entry; found = e; deeds_are = sym (ap (λ (v : CastVote). v.deeds) (same_Some (vote_of p) (vote_by entry ballot) f)) }

pub prepared_here : (s : Server) (kept : List Record) (txn : TxnId) (p : Prepared) → ServerAgrees s kept → prepared_in txn kept ≡ Some p → IsPreparedEntry s txn p
prepared_here s kept txn p a e = cast_is s txn p (entry_at s txn) refl (sym (ap (option_map vote_of) e) ∙ a.prepared txn)

-- ---- what an entry has done

-- it is read from the log's values
pub entry_read : (sc : Scenario) (s : Server) (kept : List Record) (txn : TxnId) (entry : Entry) → UpOnLog sc s kept → entry_at s txn ≡ Some entry → ReadsFrom (values_in sc kept) entry.deeds
entry_read sc s kept txn entry h found = subst (λ (values : List ℤ). ReadsFrom values entry.deeds) h.values (h.reads.reads txn.0 entry found)

-- and apart from what other transactions have prepared
pub entry_apart : (sc : Scenario) (s : Server) (kept : List Record) (txn other : TxnId) (entry : Entry) (q : Prepared) → IsLockedServer sc s → ServerAgrees s kept → entry_at s txn ≡ Some entry → prepared_in other kept ≡ Some q
    → (txn.0 ≡ other.0 → ⊥) → AreClear entry.deeds q.deeds
entry_apart sc s kept txn other entry q locked agrees found prepared apart =
    let theirs : IsPreparedEntry s other q = prepared_here s kept other q agrees prepared in
    subst (AreClear entry.deeds) theirs.deeds_are (entries_apart sc s.entries s.locks txn.0 other.0 entry theirs.entry locked apart found theirs.found)

-- ---- an act

-- a vote YES of a server that is up brings what it has to
pub record_reads : (sc : Scenario) (M : TxnId → Type 0) (s : Server) (kept : List Record) (append : Option Record) → UpOnLog sc s kept → IsLockedServer sc s → ServerAgrees s kept → IfSome append (RecordHere M s)
    → IfSome append (RecordReads sc kept)
record_reads sc M s kept None h locked agrees votes = tt
record_reads sc M s kept (Some (log.Prepared p)) h locked agrees votes =
    record {
      reads = subst (ReadsFrom (values_in sc kept)) (sym votes.deeds_are) (entry_read sc s kept p.txn votes.entry h votes.found);
      apart = λ other q prepared apart. subst (λ (deeds : List Deed). AreClear deeds q.deeds) (sym votes.deeds_are) (entry_apart sc s kept p.txn other votes.entry q locked agrees votes.found prepared apart);
    }
record_reads sc M s kept (Some (log.Settled r)) h locked agrees votes = tt
record_reads sc M s kept (Some (log.Decided d)) h locked agrees votes = tt
record_reads sc M s kept (Some (log.Told t)) h locked agrees votes = tt
record_reads sc M s kept (Some log.Boot) h locked agrees votes = tt

-- a settlement is the transaction's first, and a commit is of what is prepared
pub record EndsFirst (kept : List Record) (r : Settled) : Type 0 where
  pub fresh : settled_in r.txn kept ≡ None
  pub prepared : r.outcome ≡ outcome.Commit → LogPrepared r.txn kept

abbrev pub EndsOnce : List Record → Record → Type 0
EndsOnce kept (log.Settled r) = EndsFirst kept r
EndsOnce kept _ = Unit {0}

ends_by : (s : Server) (kept : List Record) (r : Settled) (values : List ℤ) (ended : Outcome) (prepared : Option Prepared) → ServerAgrees s kept → r.outcome ≡ ended → prepared_in r.txn kept ≡ prepared
    → (ended ≡ outcome.Commit → is_some prepared ≡ true) → values_by values ended (deeds_in (entry_at s r.txn)) ≡ ended_first values ended None prepared
ends_by s kept r values outcome.Abort prepared agrees e is there = refl
ends_by s kept r values outcome.Commit None agrees e is there = absurd (let some = there refl in cc)
ends_by s kept r values outcome.Commit (Some p) agrees e is there =
    let own : IsPreparedEntry s r.txn p = prepared_here s kept r.txn p agrees is in
    ap (λ (found : Option Entry). with_deeds values (deeds_in found)) own.found ∙ ap (with_deeds values) own.deeds_are

-- the values after a record are the same by the entries and by the log
pub values_by_log : (s : Server) (kept : List Record) (append : Option Record) → ServerAgrees s kept → IfSome append (EndsOnce kept) → values_with s append ≡ values_grown s.store.values kept append
values_by_log s kept None agrees once = refl
values_by_log s kept (Some (log.Settled r)) agrees once =
    ends_by s kept r s.store.values r.outcome (prepared_in r.txn kept) agrees refl refl once.prepared
    ∙ ap (λ (before : Option Settled). ended_first s.store.values r.outcome before (prepared_in r.txn kept)) (sym once.fresh)
values_by_log s kept (Some (log.Prepared p)) agrees once = refl
values_by_log s kept (Some (log.Decided d)) agrees once = refl
values_by_log s kept (Some (log.Told t)) agrees once = refl
values_by_log s kept (Some log.Boot) agrees once = refl

-- so a server's values are those of its log after an act
pub acts_on_log : (sc : Scenario) (M : TxnId → Type 0) (s : Server) (kept : List Record) (effect : Effect Server) → UpOnLog sc s kept → ServerAgrees s kept → ServerKeeps sc M s effect
    → IfSome effect.reaction.append (EndsOnce kept) → UpOnLog sc effect.state (log_with kept effect.reaction.append)
acts_on_log sc M s kept effect h agrees keeps once =
    let append = effect.reaction.append in
    record {
      reads = keeps.reads;
      values = keeps.values ∙ (values_by_log s kept append agrees once ∙ (ap (λ (values : List ℤ). values_grown values kept append) h.values ∙ sym (values_after sc kept append)));
    }
