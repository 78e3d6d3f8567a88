-- Serial data, what is said of a server's log: what is prepared there has read the values that the log leaves, and is apart. No server needs to be up for it.
use Rattle.std.specs.Option.{option_or}
use Rattle.std.proofs.Common.{Bool, IfSome, List, None, Option, Some, [], ap, false, if◌then◌else◌, is_some, refl, subst, sym, true, ℤ, ◌∙◌, ◌≡◌}
use Rattle.std.proofs.lemmas.Bool.{eq-eqb}
use Rattle.std.proofs.lemmas.Option.{cond_some, same_Some}
use Rattle.tp_model.specs.Ids.{same_txn}
use Rattle.tp_model.specs.Words.log
use Rattle.tp_model.specs.Words.outcome
use Rattle.tp_model.specs.Words.{Deed, Outcome, Prepared, Record, Scenario, Settled, TxnId}
use Rattle.tp_recover.specs.Log.{ended_first, preparation_in, prepared_in, settled_in, settlement_in, value_step, values_in}
use Rattle.tp_recover.proofs.LogLemmas.{values_push}
use Rattle.tp_runs.proofs.agreement.Logs.{prepared_open}
use Rattle.tp_runs.proofs.basics.Ids.{same_txn_is}
use Rattle.tp_runs.proofs.basics.Logs.{appended, later_some, prepared_either, settled_with}
use Rattle.tp_runs.proofs.deeds.Reads.{AreClear, ReadsFrom, clear_both, reads_clear}
use Rattle.tp_actor_log.specs.Records.{log_with}

-- what is prepared has read the values that the log leaves, and what two transactions have prepared is apart
pub record LogReads (sc : Scenario) (kept : List Record) : Type 0 where
  pub reads : (txn : TxnId) (p : Prepared) → prepared_in txn kept ≡ Some p → ReadsFrom (values_in sc kept) p.deeds
  pub apart : (one other : TxnId) (p q : Prepared) → prepared_in one kept ≡ Some p → prepared_in other kept ≡ Some q → (one.0 ≡ other.0 → ⊥) → AreClear p.deeds q.deeds

-- a vote YES has read the values of the log, and is apart from all that is prepared there
pub record VoteReads (sc : Scenario) (kept : List Record) (p : Prepared) : Type 0 where
  pub reads : ReadsFrom (values_in sc kept) p.deeds
  pub apart : (other : TxnId) (q : Prepared) → prepared_in other kept ≡ Some q → (p.txn.0 ≡ other.0 → ⊥) → AreClear p.deeds q.deeds

-- what a record has to bring
abbrev pub RecordReads : Scenario → List Record → Record → Type 0
RecordReads sc kept (log.Prepared p) = VoteReads sc kept p
RecordReads sc kept _ = Unit {0}

-- ---- the values after one more record

-- the values of a log after a record, where there is one
abbrev pub values_grown : List ℤ → List Record → Option Record → List ℤ
values_grown values kept None = values
values_grown values kept (Some forced) = value_step values kept forced

pub values_after : (sc : Scenario) (kept : List Record) (append : Option Record) → values_in sc (log_with kept append) ≡ values_grown (values_in sc kept) kept append
values_after sc kept None = refl
values_after sc kept (Some forced) = values_push sc kept forced

-- ---- a vote

-- the record that prepares a transaction
pub record PreparesIt (txn : TxnId) (append : Option Record) (p : Prepared) : Type 0 where
  pub append_is : append ≡ Some (log.Prepared p)
  pub txn_is : p.txn ≡ txn

pub prepares_it : (txn : TxnId) (append : Option Record) (p : Prepared) → appended (preparation_in txn) append ≡ Some p → PreparesIt txn append p
prepares_it txn None p e = absurd (cc)
prepares_it txn (Some (log.Prepared q)) p e =
    let parts = cond_some (same_txn q.txn txn) q p e in
    record { append_is = ap (λ (x : Prepared). Some (log.Prepared x)) parts.1; txn_is = ap (λ (x : Prepared). x.txn) (sym parts.1) ∙ same_txn_is q.txn txn parts.0 }
prepares_it txn (Some (log.Settled s)) p e = absurd (cc)
prepares_it txn (Some (log.Decided d)) p e = absurd (cc)
prepares_it txn (Some (log.Told t)) p e = absurd (cc)
prepares_it txn (Some log.Boot) p e = absurd (cc)

new_vote : (sc : Scenario) (kept : List Record) (append : Option Record) (p : Prepared) → append ≡ Some (log.Prepared p) → IfSome append (RecordReads sc kept) → VoteReads sc kept p
new_vote sc kept append p is r = subst (λ (forced : Option Record). IfSome forced (RecordReads sc kept)) is r

-- ---- reads

-- what ends a transaction leaves what is clear of it
read_ended : (values : List ℤ) (ended : Outcome) (before : Option Settled) (prepared : Option Prepared) (deeds : List Deed) → ((q : Prepared) → prepared ≡ Some q → AreClear q.deeds deeds) → ReadsFrom values deeds
    → ReadsFrom (ended_first values ended before prepared) deeds
read_ended values ended (Some s) prepared deeds clear h = h
read_ended values outcome.Abort None prepared deeds clear h = h
read_ended values outcome.Commit None None deeds clear h = h
read_ended values outcome.Commit None (Some q) deeds clear h = reads_clear values deeds q.deeds (clear q refl) h

-- a transaction that is not settled after a settlement is another than the one that it settles
another : (txn : TxnId) (kept : List Record) (s : Settled) → settled_in txn (log_with kept (Some (log.Settled s))) ≡ None → s.txn.0 ≡ txn.0 → ⊥
another txn kept s unsettled same =
    let this : is_some (settlement_in txn (log.Settled s)) ≡ true = ap (λ (b : Bool). is_some (if b then Some s else None)) (eq-eqb s.txn.0 txn.0 same) in
    let some : is_some (option_or (settled_in txn kept) (settlement_in txn (log.Settled s))) ≡ true = later_some (settled_in txn kept) (settlement_in txn (log.Settled s)) this in
    let none : is_some (option_or (settled_in txn kept) (settlement_in txn (log.Settled s))) ≡ false = ap is_some (sym (settled_with txn kept (Some (log.Settled s))) ∙ unsettled) in
    cc

-- what was prepared, and still is, has read the values after the record
old_read : (sc : Scenario) (kept : List Record) (append : Option Record) (txn : TxnId) (p : Prepared) → LogReads sc kept → settled_in txn (log_with kept append) ≡ None → prepared_in txn kept ≡ Some p
    → ReadsFrom (values_grown (values_in sc kept) kept append) p.deeds
old_read sc kept None txn p h unsettled was = h.reads txn p was
old_read sc kept (Some (log.Settled s)) txn p h unsettled was =
    read_ended (values_in sc kept) s.outcome (settled_in s.txn kept) (prepared_in s.txn kept) p.deeds (λ q e. h.apart s.txn txn q p e was (another txn kept s unsettled)) (h.reads txn p was)
old_read sc kept (Some (log.Prepared q)) txn p h unsettled was = h.reads txn p was
old_read sc kept (Some (log.Decided d)) txn p h unsettled was = h.reads txn p was
old_read sc kept (Some (log.Told t)) txn p h unsettled was = h.reads txn p was
old_read sc kept (Some log.Boot) txn p h unsettled was = h.reads txn p was

new_read : (sc : Scenario) (kept : List Record) (append : Option Record) (p : Prepared) → append ≡ Some (log.Prepared p) → IfSome append (RecordReads sc kept) → ReadsFrom (values_grown (values_in sc kept) kept append) p.deeds
new_read sc kept append p is r = subst (λ (forced : Option Record). ReadsFrom (values_grown (values_in sc kept) kept forced) p.deeds) (sym is) (new_vote sc kept append p is r).reads

reads_after : (sc : Scenario) (kept : List Record) (append : Option Record) → LogReads sc kept → IfSome append (RecordReads sc kept) → (txn : TxnId) (p : Prepared) → prepared_in txn (log_with kept append) ≡ Some p
    → ReadsFrom (values_in sc (log_with kept append)) p.deeds
reads_after sc kept append h r txn p e =
    subst (λ (values : List ℤ). ReadsFrom values p.deeds) (sym (values_after sc kept append))
    (prepared_either txn kept append (λ (q : Prepared). ReadsFrom (values_grown (values_in sc kept) kept append) q.deeds)
    (λ q was. old_read sc kept append txn q h (prepared_open txn (log_with kept append) (ap is_some e)) was)
    (λ q new. new_read sc kept append q (prepares_it txn append q new).append_is r) p e)

-- ---- apart

-- the transaction that a record prepares
abbrev prepared_txn : TxnId → Record → TxnId
prepared_txn default (log.Prepared p) = p.txn
prepared_txn default _ = default

apart_after : (sc : Scenario) (kept : List Record) (append : Option Record) → LogReads sc kept → IfSome append (RecordReads sc kept) → (one other : TxnId) (p q : Prepared) → prepared_in one (log_with kept append) ≡ Some p
    → prepared_in other (log_with kept append) ≡ Some q → (one.0 ≡ other.0 → ⊥) → AreClear p.deeds q.deeds
apart_after sc kept append h r one other p q e f apart =
    prepared_either one kept append (λ (x : Prepared). AreClear x.deeds q.deeds)
    (λ x was. prepared_either other kept append (λ (y : Prepared). AreClear x.deeds y.deeds) (λ y there. h.apart one other x y was there apart) (λ y new. old_and_new x y was (prepares_it other append y new)) q f)
    (λ x new. prepared_either other kept append (λ (y : Prepared). AreClear x.deeds y.deeds) (λ y there. new_and_old x y (prepares_it one append x new) there)
    (λ y second. absurd (not_both x y (prepares_it one append x new) (prepares_it other append y second))) q f) p e
  where
    old_and_new : (x y : Prepared) → prepared_in one kept ≡ Some x → PreparesIt other append y → AreClear x.deeds y.deeds
    old_and_new x y was new =
        clear_both y.deeds x.deeds ((new_vote sc kept append y new.append_is r).apart one x was (λ same. apart (sym same ∙ ap (λ (t : TxnId). t.0) new.txn_is)))

    new_and_old : (x y : Prepared) → PreparesIt one append x → prepared_in other kept ≡ Some y → AreClear x.deeds y.deeds
    new_and_old x y new was = (new_vote sc kept append x new.append_is r).apart other y was (λ same. apart (ap (λ (t : TxnId). t.0) (sym new.txn_is) ∙ same))

    not_both : (x y : Prepared) → PreparesIt one append x → PreparesIt other append y → ⊥
    not_both x y first second =
        let same : log.Prepared x ≡ log.Prepared y = same_Some (log.Prepared x) (log.Prepared y) (sym first.append_is ∙ second.append_is) in
        let named : x.txn ≡ y.txn = ap (prepared_txn x.txn) same in
        apart (ap (λ (t : TxnId). t.0) (sym first.txn_is ∙ named ∙ second.txn_is))

-- a record that brings what it has to keeps it
pub log_reads_with : (sc : Scenario) (kept : List Record) (append : Option Record) → LogReads sc kept → IfSome append (RecordReads sc kept) → LogReads sc (log_with kept append)
log_reads_with sc kept append h r = record { reads = reads_after sc kept append h r; apart = apart_after sc kept append h r }

-- and so it is of a log without records
pub no_log_reads : (sc : Scenario) → LogReads sc []
no_log_reads sc = record { reads = λ txn p e. absurd (cc); apart = λ one other p q e f apart. absurd (cc) }
