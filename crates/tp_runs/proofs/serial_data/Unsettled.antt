-- Commits that were decided and that a server has not settled, and how they change as actors act.
use Rattle.std.proofs.Common.{Bool, List, None, Option, Some, ap, false, if◌then◌else◌, inl, inr, option_and_then, option_map, refl, slice_get, slice_set, subst, sym, true, ℕ, ℤ, ⊎_elim, ◌==◌, ◌∙◌, ◌≡◌, ◌⊎◌}
use Rattle.std.proofs.lemmas.Bool.{eqb-true, false_from_ne_true}
use Rattle.std.proofs.lemmas.Option.{same_Some, slice_get_within}
use Rattle.tp_model.specs.Agreement.{has_item_at}
use Rattle.std.specs.Option.{option_or}
use Rattle.tp_model.specs.Facts.{outcome_of, record_of}
use Rattle.tp_model.specs.Words.decision
use Rattle.tp_model.specs.Words.log
use Rattle.tp_model.specs.Words.outcome
use Rattle.tp_model.specs.Words.{CommitRecord, Decision, Deed, Record, Scenario, ServerId, Settled, TxnId}
use Rattle.tp_runs.proofs.agreement.Logs.{DecidedAs}
use Rattle.tp_runs.proofs.basics.Ids.{same_txn_is}
use Rattle.tp_types.proofs.EachLemmas.{set_here}
use Rattle.tp_runs.proofs.basics.Logs.{appended, decided_with, look_set, settled_with}
use Rattle.tp_recover.proofs.LogLemmas.{first_none}
use Rattle.tp_runs.proofs.deeds.Commits.{IsItemAt}
use Rattle.tp_runs.proofs.deeds.Stores.{Adds, Drops, StoreFits, store_as}
use Rattle.tp_recover.specs.Log.{decided_in, decision_in, settled_in, settlement_in}
use Rattle.tp_machine.specs.Logs.{decided_at, decided_by, settled_at, settled_by}
use Rattle.tp_actor_log.specs.Records.{log_with}
use Rattle.tp_machine.specs.Parts.{Part}
use Rattle.tp_coord.specs.State.{Coordinator}
use Rattle.tp_machine.specs.declared.actors.Actors.{Actors}
use Rattle.tp_server.specs.State.{Server}

-- ---- what is unsettled

-- the deeds of a commit that was decided, of a transaction with an item at the server, which has not settled it
pub record IsUnsettled (sc : Scenario) (actors : Actors) (at : ℕ) (deeds : List Deed) : Type 0 where
  pub txn : TxnId
  pub committed : CommitRecord
  pub decided : decided_at actors.coordinators txn.0 ≡ Some (decision.Commit committed)
  pub deeds_are : committed.deeds ≡ deeds
  pub item : has_item_at sc (record { 0 = at }) txn ≡ true
  pub unsettled : settled_at actors.servers at txn ≡ None

-- what was decided and settled is so after a move
pub record SameEnds (old new : Actors) : Type 0 where
  pub decided : (txn : ℕ) → decided_at new.coordinators txn ≡ decided_at old.coordinators txn
  pub settled : (at : ℕ) (txn : TxnId) → settled_at new.servers at txn ≡ settled_at old.servers at txn

pub unsettled_same : (sc : Scenario) (old new : Actors) (at : ℕ) (deeds : List Deed) → SameEnds old new → IsUnsettled sc old at deeds → IsUnsettled sc new at deeds
unsettled_same sc old new at deeds same h =
    record { txn = h.txn; committed = h.committed; decided = same.decided h.txn.0 ∙ h.decided; deeds_are = h.deeds_are; item = h.item; unsettled = same.settled at h.txn ∙ h.unsettled }

same_back : (old new : Actors) → SameEnds old new → SameEnds new old
same_back old new same = record { decided = λ txn. sym (same.decided txn); settled = λ at txn. sym (same.settled at txn) }

-- so the store stands to a server's values as before
pub fits_same : (sc : Scenario) (old new : Actors) (at : ℕ) (values store : List ℤ) → SameEnds old new → StoreFits (IsItemAt sc at) (IsUnsettled sc old at) values store
    → StoreFits (IsItemAt sc at) (IsUnsettled sc new at) values store
fits_same sc old new at values store same h =
    store_as (IsItemAt sc at) (IsUnsettled sc old at) (IsUnsettled sc new at) values store
    (λ deeds p. unsettled_same sc old new at deeds same p) (λ deeds q. unsettled_same sc new old at deeds (same_back old new same) q) h

-- commits that are the same decision are the same commit
pub same_commit : (one other : CommitRecord) → decision.Commit one ≡ decision.Commit other → one ≡ other
same_commit one other e = same_Some one other (ap record_of e)

-- ---- one coordinator decides

-- what was decided of a transaction after a record was appended to the log of one
pub decided_after : (coordinators : List (Part Coordinator)) (txn : ℕ) (part next : Part Coordinator) (append : Option Record) (other : ℕ) → slice_get coordinators txn ≡ Some part → next.log ≡ log_with part.log append
    → decided_at (slice_set coordinators txn next) other ≡ (if txn == other then option_or (decided_in part.log) (appended decision_in append) else decided_at coordinators other)
decided_after coordinators txn part next append other found grown =
    look_set decided_by coordinators txn other part next found
    ∙ ap (λ (d : Option Decision). if txn == other then d else decided_at coordinators other) (ap decided_in grown ∙ decided_with part.log append)

some_first_in_serial_data : {A : Type 0} (old new other : Option A) (b : Bool) → new ≡ None → (b ≡ true → other ≡ old) → (if b then option_or old new else other) ≡ other
some_first_in_serial_data old new other true none same = ap (option_or old) none ∙ (first_none old ∙ sym (same refl))
some_first_in_serial_data old new other false none same = refl

here_decided : (coordinators : List (Part Coordinator)) (txn other : ℕ) (part : Part Coordinator) → slice_get coordinators txn ≡ Some part → (txn == other) ≡ true → decided_at coordinators other ≡ decided_in part.log
here_decided coordinators txn other part found same = ap (option_and_then decided_by) (subst (λ (n : ℕ). slice_get coordinators n ≡ Some part) (eqb-true txn other same) found)

-- an act that decides nothing
pub nothing_decided : (actors : Actors) (txn : TxnId) (part next : Part Coordinator) (append : Option Record) → slice_get actors.coordinators txn.0 ≡ Some part → next.log ≡ log_with part.log append
    → appended decision_in append ≡ None → SameEnds actors (record actors { coordinators = slice_set actors.coordinators txn.0 next })
nothing_decided actors txn part next append found grown none =
    record {
      decided = λ other. decided_after actors.coordinators txn.0 part next append other found grown
          ∙ some_first_in_serial_data (decided_in part.log) (appended decision_in append) (decided_at actors.coordinators other) (txn.0 == other) none (λ same. here_decided actors.coordinators txn.0 other part found same);
      settled = λ at other. refl;
    }

-- an act that decides
pub record DecidesFirst (actors : Actors) (txn : TxnId) (part next : Part Coordinator) (decided : Decision) : Type 0 where
  pub found : slice_get actors.coordinators txn.0 ≡ Some part
  pub undecided : decided_in part.log ≡ None
  pub now : decided_in next.log ≡ Some decided

abbrev pub with_coordinator : Actors → TxnId → Part Coordinator → Actors
with_coordinator actors txn next = record actors { coordinators = slice_set actors.coordinators txn.0 next }

-- what was decided after it
decided_now : (actors : Actors) (txn : TxnId) (part next : Part Coordinator) (decided : Decision) (other : ℕ) → DecidesFirst actors txn part next decided
    → decided_at (with_coordinator actors txn next).coordinators other ≡ (if txn.0 == other then Some decided else decided_at actors.coordinators other)
decided_now actors txn part next decided other k =
    look_set decided_by actors.coordinators txn.0 other part next k.found ∙ ap (λ (d : Option Decision). if txn.0 == other then d else decided_at actors.coordinators other) k.now

-- what was decided before it is another's
decided_else : (actors : Actors) (txn : TxnId) (part next : Part Coordinator) (decided was : Decision) (other : ℕ) (b : Bool) → (txn.0 == other) ≡ b → DecidesFirst actors txn part next decided → decided_at actors.coordinators other ≡ Some was → b ≡ false
decided_else actors txn part next decided was other true e k d = let none = here_decided actors.coordinators txn.0 other part k.found e ∙ k.undecided in absurd (cc)
decided_else actors txn part next decided was other false e k d = refl

stays_decided : (actors : Actors) (txn : TxnId) (part next : Part Coordinator) (decided was : Decision) (other : ℕ) → DecidesFirst actors txn part next decided → decided_at actors.coordinators other ≡ Some was
    → decided_at (with_coordinator actors txn next).coordinators other ≡ Some was
stays_decided actors txn part next decided was other k d =
    decided_now actors txn part next decided other k
    ∙ (ap (λ (c : Bool). if c then Some decided else decided_at actors.coordinators other) (decided_else actors txn part next decided was other (txn.0 == other) refl k d) ∙ d)

-- what is unsettled stays so
old_unsettled : (sc : Scenario) (actors : Actors) (txn : TxnId) (part next : Part Coordinator) (decided : Decision) (at : ℕ) (deeds : List Deed) → DecidesFirst actors txn part next decided → IsUnsettled sc actors at deeds
    → IsUnsettled sc (with_coordinator actors txn next) at deeds
old_unsettled sc actors txn part next decided at deeds k h =
    record { txn = h.txn; committed = h.committed; decided = stays_decided actors txn part next decided (decision.Commit h.committed) h.txn.0 k h.decided; deeds_are = h.deeds_are; item = h.item; unsettled = h.unsettled }

decided_by_cases : (actors : Actors) (txn : TxnId) (part next : Part Coordinator) (decided was : Decision) (other : ℕ) (b : Bool) → (txn.0 == other) ≡ b → DecidesFirst actors txn part next decided
    → decided_at (with_coordinator actors txn next).coordinators other ≡ Some was → (decided_at actors.coordinators other ≡ Some was) ⊎ ((txn.0 ≡ other) × (decided ≡ was))
decided_by_cases actors txn part next decided was other true e k d =
    let some : Some decided ≡ Some was = sym (decided_now actors txn part next decided other k ∙ ap (λ (c : Bool). if c then Some decided else decided_at actors.coordinators other) e) ∙ d in
    inr (eqb-true txn.0 other e, same_Some decided was some)
decided_by_cases actors txn part next decided was other false e k d =
    inl (sym (decided_now actors txn part next decided other k ∙ ap (λ (c : Bool). if c then Some decided else decided_at actors.coordinators other) e) ∙ d)

-- what was decided after it was decided before, or is its decision
pub either_decided : (actors : Actors) (txn : TxnId) (part next : Part Coordinator) (decided was : Decision) (other : ℕ) → DecidesFirst actors txn part next decided
    → decided_at (with_coordinator actors txn next).coordinators other ≡ Some was → (decided_at actors.coordinators other ≡ Some was) ⊎ ((txn.0 ≡ other) × (decided ≡ was))
either_decided actors txn part next decided was other k d = decided_by_cases actors txn part next decided was other (txn.0 == other) refl k d

-- a commit whose transaction has an item at the server adds its deeds
pub commit_adds : (sc : Scenario) (actors : Actors) (txn : TxnId) (part next : Part Coordinator) (committed : CommitRecord) (at : ℕ) → DecidesFirst actors txn part next (decision.Commit committed)
    → has_item_at sc (record { 0 = at }) txn ≡ true → settled_at actors.servers at txn ≡ None → Adds (IsUnsettled sc actors at) committed.deeds (IsUnsettled sc (with_coordinator actors txn next) at)
commit_adds sc actors txn part next committed at k item unsettled =
    record {
      kept = λ other h. old_unsettled sc actors txn part next (decision.Commit committed) at other k h;
      new = record {
        txn = txn;
        committed = committed;
        decided = ap (option_and_then decided_by) (set_here actors.coordinators txn.0 next (slice_get_within actors.coordinators txn.0 part k.found)) ∙ k.now;
        deeds_are = refl;
        item = item;
        unsettled = unsettled;
      };
      among = λ other h.
          ⊎_elim
          (λ (old : decided_at actors.coordinators h.txn.0 ≡ Some (decision.Commit h.committed)).
          inl (record { txn = h.txn; committed = h.committed; decided = old; deeds_are = h.deeds_are; item = h.item; unsettled = h.unsettled }))
          (λ (new : (txn.0 ≡ h.txn.0) × (decision.Commit committed ≡ decision.Commit h.committed)).
          let same : committed ≡ h.committed = same_commit committed h.committed new.1 in
          inr (sym h.deeds_are ∙ ap (λ (c : CommitRecord). c.deeds) (sym same)))
          (either_decided actors txn part next (decision.Commit committed) (decision.Commit h.committed) h.txn.0 k h.decided);
    }

-- any other decision adds nothing at the server
pub decision_same : (sc : Scenario) (actors : Actors) (txn : TxnId) (part next : Part Coordinator) (decided : Decision) (at : ℕ) (values store : List ℤ) → DecidesFirst actors txn part next decided
    → ((committed : CommitRecord) → decided ≡ decision.Commit committed → has_item_at sc (record { 0 = at }) txn ≡ false) → StoreFits (IsItemAt sc at) (IsUnsettled sc actors at) values store
    → StoreFits (IsItemAt sc at) (IsUnsettled sc (with_coordinator actors txn next) at) values store
decision_same sc actors txn part next decided at values store k none h =
    store_as (IsItemAt sc at) (IsUnsettled sc actors at) (IsUnsettled sc (with_coordinator actors txn next) at) values store
    (λ other p. old_unsettled sc actors txn part next decided at other k p)
    (λ other q.
    ⊎_elim
    (λ (old : decided_at actors.coordinators q.txn.0 ≡ Some (decision.Commit q.committed)).
    record { txn = q.txn; committed = q.committed; decided = old; deeds_are = q.deeds_are; item = q.item; unsettled = q.unsettled })
    (λ (new : (txn.0 ≡ q.txn.0) × (decided ≡ decision.Commit q.committed)).
    let is_txn : txn ≡ q.txn = ap (λ (n : ℕ). record { 0 = n }) new.0 in
    let absent : has_item_at sc (record { 0 = at }) q.txn ≡ false = ap (has_item_at sc (record { 0 = at })) (sym is_txn) ∙ none q.committed new.1 in
    let there = q.item in
    absurd (cc))
    (either_decided actors txn part next decided (decision.Commit q.committed) q.txn.0 k q.decided)) h

-- ---- one server settles

abbrev pub with_server : Actors → ServerId → Part Server → Actors
with_server actors at next = record actors { servers = slice_set actors.servers at.0 next }

-- what is settled after a record was appended to the log of one server
pub settled_after : (servers : List (Part Server)) (at other : ℕ) (part next : Part Server) (append : Option Record) (txn : TxnId) → slice_get servers at ≡ Some part → next.log ≡ log_with part.log append
    → settled_at (slice_set servers at next) other txn ≡ (if at == other then option_or (settled_in txn part.log) (appended (settlement_in txn) append) else settled_at servers other txn)
settled_after servers at other part next append txn found grown =
    look_set (settled_by txn) servers at other part next found
    ∙ ap (λ (s : Option Settled). if at == other then s else settled_at servers other txn) (ap (settled_in txn) grown ∙ settled_with txn part.log append)

settled_here_in_serial_data : (servers : List (Part Server)) (at other : ℕ) (part : Part Server) (txn : TxnId) → slice_get servers at ≡ Some part → (at == other) ≡ true → settled_at servers other txn ≡ settled_in txn part.log
settled_here_in_serial_data servers at other part txn found same = ap (option_and_then (settled_by txn)) (subst (λ (n : ℕ). slice_get servers n ≡ Some part) (eqb-true at other same) found)

-- of a transaction that the record does not settle all stays
settled_same : (actors : Actors) (at : ServerId) (part next : Part Server) (append : Option Record) (other : ℕ) (txn : TxnId) → slice_get actors.servers at.0 ≡ Some part → next.log ≡ log_with part.log append
    → appended (settlement_in txn) append ≡ None → settled_at (with_server actors at next).servers other txn ≡ settled_at actors.servers other txn
settled_same actors at part next append other txn found grown none =
    settled_after actors.servers at.0 other part next append txn found grown
    ∙ some_first_in_serial_data (settled_in txn part.log) (appended (settlement_in txn) append) (settled_at actors.servers other txn) (at.0 == other) none (λ same. settled_here_in_serial_data actors.servers at.0 other part txn found same)

-- an act that settles nothing
pub nothing_settled : (actors : Actors) (at : ServerId) (part next : Part Server) (append : Option Record) → slice_get actors.servers at.0 ≡ Some part → next.log ≡ log_with part.log append
    → ((txn : TxnId) → appended (settlement_in txn) append ≡ None) → SameEnds actors (with_server actors at next)
nothing_settled actors at part next append found grown none =
    record { decided = λ txn. refl; settled = λ other txn. settled_same actors at part next append other txn found grown (none txn) }

-- an act that settles a transaction
pub record SettlesAt (actors : Actors) (at : ServerId) (part next : Part Server) (s : Settled) : Type 0 where
  pub found : slice_get actors.servers at.0 ≡ Some part
  pub grown : next.log ≡ log_with part.log (Some (log.Settled s))
  pub fresh : settled_in s.txn part.log ≡ None

not_this : (s : Settled) (txn : TxnId) → (s.txn.0 == txn.0) ≡ false → appended (settlement_in txn) (Some (log.Settled s)) ≡ None
not_this s txn e = ap (λ (c : Bool). if c then Some s else None) e

this_one : (s : Settled) (txn : TxnId) → (s.txn.0 == txn.0) ≡ true → appended (settlement_in txn) (Some (log.Settled s)) ≡ Some s
this_one s txn e = ap (λ (c : Bool). if c then Some s else None) e

-- at another server, or of another transaction, what is unsettled was and stays unsettled
pub elsewhere_same : (sc : Scenario) (actors : Actors) (at : ServerId) (part next : Part Server) (s : Settled) (other : ℕ) (values store : List ℤ) → SettlesAt actors at part next s → (at.0 == other) ≡ false
    → StoreFits (IsItemAt sc other) (IsUnsettled sc actors other) values store → StoreFits (IsItemAt sc other) (IsUnsettled sc (with_server actors at next) other) values store
elsewhere_same sc actors at part next s other values store k apart h =
    let same : (txn : TxnId) → settled_at (with_server actors at next).servers other txn ≡ settled_at actors.servers other txn = λ txn.
    look_set (settled_by txn) actors.servers at.0 other part next k.found ∙ ap (λ (c : Bool). if c then settled_by txn next else settled_at actors.servers other txn) apart in
    store_as (IsItemAt sc other) (IsUnsettled sc actors other) (IsUnsettled sc (with_server actors at next) other) values store
    (λ deeds p. record { txn = p.txn; committed = p.committed; decided = p.decided; deeds_are = p.deeds_are; item = p.item; unsettled = same p.txn ∙ p.unsettled })
    (λ deeds q. record { txn = q.txn; committed = q.committed; decided = q.decided; deeds_are = q.deeds_are; item = q.item; unsettled = sym (same q.txn) ∙ q.unsettled }) h

settled_now_in_serial_data : (actors : Actors) (at : ServerId) (part next : Part Server) (s : Settled) (txn : TxnId) → SettlesAt actors at part next s → (s.txn.0 == txn.0) ≡ true → settled_at (with_server actors at next).servers at.0 txn ≡ Some s
settled_now_in_serial_data actors at part next s txn k same =
    let is : s.txn ≡ txn = same_txn_is s.txn txn same in
    ap (option_and_then (settled_by txn)) (set_here actors.servers at.0 next (slice_get_within actors.servers at.0 part k.found))
    ∙ (ap (settled_in txn) k.grown ∙ (settled_with txn part.log (Some (log.Settled s))
    ∙ (ap (λ (old : Option Settled). option_or old (appended (settlement_in txn) (Some (log.Settled s)))) (ap (λ (t : TxnId). settled_in t part.log) (sym is) ∙ k.fresh) ∙ this_one s txn same)))

-- after the act what is unsettled at the server is of another transaction, and was unsettled
pub record IsAnothers (sc : Scenario) (actors : Actors) (at : ServerId) (s : Settled) (deeds : List Deed) (txn : TxnId) : Type 0 where
  pub apart : (s.txn.0 == txn.0) ≡ false
  pub was : IsUnsettled sc actors at.0 deeds

still_unsettled : (sc : Scenario) (actors : Actors) (at : ServerId) (part next : Part Server) (s : Settled) (deeds : List Deed) (q : IsUnsettled sc (with_server actors at next) at.0 deeds) (b : Bool) → (s.txn.0 == q.txn.0) ≡ b
    → SettlesAt actors at part next s → IsAnothers sc actors at s deeds q.txn
still_unsettled sc actors at part next s deeds q true e k = let now = settled_now_in_serial_data actors at part next s q.txn k e in let none = q.unsettled in absurd (cc)
still_unsettled sc actors at part next s deeds q false e k =
    record {
      apart = e;
      was = record {
        txn = q.txn;
        committed = q.committed;
        decided = q.decided;
        deeds_are = q.deeds_are;
        item = q.item;
        unsettled = sym (settled_same actors at part next (Some (log.Settled s)) at.0 q.txn k.found k.grown (not_this s q.txn e)) ∙ q.unsettled;
      };
    }

others_stay : (sc : Scenario) (actors : Actors) (at : ServerId) (part next : Part Server) (s : Settled) (deeds : List Deed) (p : IsUnsettled sc actors at.0 deeds) → (s.txn.0 == p.txn.0) ≡ false → SettlesAt actors at part next s
    → IsUnsettled sc (with_server actors at next) at.0 deeds
others_stay sc actors at part next s deeds p e k =
    record {
      txn = p.txn;
      committed = p.committed;
      decided = p.decided;
      deeds_are = p.deeds_are;
      item = p.item;
      unsettled = settled_same actors at part next (Some (log.Settled s)) at.0 p.txn k.found k.grown (not_this s p.txn e) ∙ p.unsettled;
    }

either_unsettled : (sc : Scenario) (actors : Actors) (at : ServerId) (part next : Part Server) (s : Settled) (committed : CommitRecord) (deeds : List Deed) (p : IsUnsettled sc actors at.0 deeds) (b : Bool)
    → (s.txn.0 == p.txn.0) ≡ b → SettlesAt actors at part next s → decided_at actors.coordinators s.txn.0 ≡ Some (decision.Commit committed)
    → IsUnsettled sc (with_server actors at next) at.0 deeds ⊎ (deeds ≡ committed.deeds)
either_unsettled sc actors at part next s committed deeds p false e k d = inl (others_stay sc actors at part next s deeds p e k)
either_unsettled sc actors at part next s committed deeds p true e k d =
    let there : decided_at actors.coordinators p.txn.0 ≡ Some (decision.Commit committed) = subst (λ (n : ℕ). decided_at actors.coordinators n ≡ Some (decision.Commit committed)) (eqb-true s.txn.0 p.txn.0 e) d in
    let same : committed ≡ p.committed = same_commit committed p.committed (same_Some (decision.Commit committed) (decision.Commit p.committed) (sym there ∙ p.decided)) in
    inr (sym p.deeds_are ∙ ap (λ (c : CommitRecord). c.deeds) (sym same))

-- a settled commit takes its deeds away
pub settle_drops : (sc : Scenario) (actors : Actors) (at : ServerId) (part next : Part Server) (s : Settled) (committed : CommitRecord) → SettlesAt actors at part next s
    → decided_at actors.coordinators s.txn.0 ≡ Some (decision.Commit committed) → has_item_at sc at s.txn ≡ true
    → Drops (IsUnsettled sc actors at.0) committed.deeds (IsUnsettled sc (with_server actors at next) at.0)
settle_drops sc actors at part next s committed k d item =
    record {
      was = record { txn = s.txn; committed = committed; decided = d; deeds_are = refl; item = item; unsettled = ap (option_and_then (settled_by s.txn)) k.found ∙ k.fresh };
      fewer = λ deeds q. (still_unsettled sc actors at part next s deeds q (s.txn.0 == q.txn.0) refl k).was;
      among = λ deeds p. either_unsettled sc actors at part next s committed deeds p (s.txn.0 == p.txn.0) refl k d;
    }

-- an abort takes nothing away
pub abort_same : (sc : Scenario) (actors : Actors) (at : ServerId) (part next : Part Server) (s : Settled) (values store : List ℤ) → SettlesAt actors at part next s
    → (DecidedAs actors.coordinators s.txn outcome.Commit → ⊥) → StoreFits (IsItemAt sc at.0) (IsUnsettled sc actors at.0) values store
    → StoreFits (IsItemAt sc at.0) (IsUnsettled sc (with_server actors at next) at.0) values store
abort_same sc actors at part next s values store k aborted h =
    store_as (IsItemAt sc at.0) (IsUnsettled sc actors at.0) (IsUnsettled sc (with_server actors at next) at.0) values store
    (λ deeds p. others_stay sc actors at part next s deeds p
    (false_from_ne_true (s.txn.0 == p.txn.0) (λ e.
    aborted (subst (λ (n : ℕ). option_map outcome_of (decided_at actors.coordinators n) ≡ Some outcome.Commit) (sym (eqb-true s.txn.0 p.txn.0 e)) (ap (option_map outcome_of) p.decided)))) k)
    (λ deeds q. (still_unsettled sc actors at part next s deeds q (s.txn.0 == q.txn.0) refl k).was) h
