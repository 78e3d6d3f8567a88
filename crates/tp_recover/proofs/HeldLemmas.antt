-- What is answered of a log is what the log says.
use Rattle.std.proofs.Common.{◌≡◌, ◌⊎◌, inl, inr, ℕ, ◌<◌, ◌++◌, Bool, true, false, if◌then◌else◌, is_some, List, [], ◌∷◌, length, slice_get, Option, Some, None, refl, ap, sym, subst, ◌∙◌, arith, append_assoc, append-nil}
use Rattle.std.proofs.lemmas.Bool.{eq-eqb}
use Rattle.std.proofs.lemmas.Option.{same_Some, slice_get_within}
use Rattle.std.specs.Option.{option_flatten, option_or}
use Rattle.tp_types.specs.Each.{Each}
use Rattle.tp_model.specs.Words.{Prepared, Record, Scenario, ServerId, Settled, TxnId}
use Rattle.tp_model.specs.Words.log
use Rattle.tp_model.specs.Ids.{same_txn}
use Rattle.tp_recover.specs.declared.kept.Kept.{Kept}
use Rattle.tp_recover.specs.Held.{held_in, held_of}
use Rattle.tp_recover.specs.Kept.{kept}
use Rattle.tp_recover.specs.Laws.{HeldSays, IsOfScenario, SaysLog}
use Rattle.tp_recover.specs.Log.{first_settlement, preparation_in, prepared_in, settled_in, settlement_in, settlements_in, voted_in, while_unsettled}
use Rattle.tp_recover.proofs.AgeLemmas.{Has, contains_from, has_from, has_more, listed_from_table, listed_in_table, listed_rises, more_has}
use Rattle.tp_recover.proofs.KeptLemmas.{kept_law, same_txn_is, settled_late}
use Rattle.tp_recover.proofs.LogLemmas.{settled_push, settled_stays, settlements_push}

-- ---- settlements in their order

-- a settlement is listed just where it is the first of its transaction
record AreFirst (records : List Record) : Type 0 where
  listed : (s : Settled) → Has (settlements_in records) s → settled_in s.txn records ≡ Some s
  found : (s : Settled) → settled_in s.txn records ≡ Some s → Has (settlements_in records) s

nothing_more : (records : List Record) (next : Record) → first_settlement records next ≡ [] → settlements_in (records ++ next ∷ []) ≡ settlements_in records
nothing_more records next none =
    settlements_push records next ∙ ap (λ (more : List Settled). settlements_in records ++ more) none ∙ append-nil (settlements_in records)

-- a record that adds none, and changes no transaction's settlement
still_first : (records : List Record) (next : Record) → AreFirst records → first_settlement records next ≡ []
    → ((txn : TxnId) → settled_in txn (records ++ next ∷ []) ≡ settled_in txn records) → AreFirst (records ++ next ∷ [])
still_first records next h none stays =
    record {
      listed = λ s there. stays s.txn ∙ h.listed s (subst (λ (xs : List Settled). Has xs s) (nothing_more records next none) there);
      found = λ s e. subst (λ (xs : List Settled). Has xs s) (sym (nothing_more records next none)) (h.found s (sym (stays s.txn) ∙ e));
    }

either_found : (old : Option Settled) (new s : Settled) (b : Bool) → option_or old (if b then Some new else None) ≡ Some s → (old ≡ Some s) ⊎ (new ≡ s)
either_found (Some before) new s b e = inl e
either_found None new s true e = inr (same_Some new s e)
either_found None new s false e = absurd (cc)

settles_itself : (s : Settled) → settlement_in s.txn (log.Settled s) ≡ Some s
settles_itself s = ap (λ (b : Bool). if b then Some s else None) (eq-eqb s.txn.0 s.txn.0 refl)

one_more_first : (records : List Record) (new : Settled) → AreFirst records → settled_in new.txn records ≡ None → AreFirst (records ++ log.Settled new ∷ [])
one_more_first records new h e =
    record {
      listed = λ s there. is_listed s (more_has (settlements_in records) new s (subst (λ (xs : List Settled). Has xs s) grown there));
      found = λ s is. subst (λ (xs : List Settled). Has xs s) (sym grown)
          (has_more (settlements_in records) new s (was_found s (either_found (settled_in s.txn records) new s (same_txn new.txn s.txn) (sym (settled_push s.txn records (log.Settled new)) ∙ is))));
    }
  where
    grown : settlements_in (records ++ log.Settled new ∷ []) ≡ settlements_in records ++ new ∷ []
    grown = settlements_push records (log.Settled new) ∙ ap (λ (x : Option Settled). settlements_in records ++ (if is_some x then [] else new ∷ [])) e

    itself : settled_in new.txn (records ++ log.Settled new ∷ []) ≡ Some new
    itself = settled_push new.txn records (log.Settled new) ∙ ap (λ (x : Option Settled). option_or x (settlement_in new.txn (log.Settled new))) e ∙ settles_itself new

    is_listed : (s : Settled) → Has (settlements_in records) s ⊎ (new ≡ s) → settled_in s.txn (records ++ log.Settled new ∷ []) ≡ Some s
    is_listed s (inl there) =
        settled_push s.txn records (log.Settled new) ∙ ap (λ (x : Option Settled). option_or x (settlement_in s.txn (log.Settled new))) (h.listed s there)
    is_listed s (inr same) = subst (λ (x : Settled). settled_in x.txn (records ++ log.Settled new ∷ []) ≡ Some x) same itself

    was_found : (s : Settled) → (settled_in s.txn records ≡ Some s) ⊎ (new ≡ s) → Has (settlements_in records) s ⊎ (new ≡ s)
    was_found s (inl is) = inl (h.found s is)
    was_found s (inr same) = inr same

settled_next : (records : List Record) (new : Settled) (was : Option Settled) → AreFirst records → settled_in new.txn records ≡ was → AreFirst (records ++ log.Settled new ∷ [])
settled_next records new None h e = one_more_first records new h e
settled_next records new (Some before) h e =
    still_first records (log.Settled new) h (ap (λ (x : Option Settled). if is_some x then [] else new ∷ []) e)
    (λ txn. settled_push txn records (log.Settled new) ∙ sym (settled_late records new txn before (same_txn new.txn txn) refl e))

first_next : (records : List Record) (next : Record) → AreFirst records → AreFirst (records ++ next ∷ [])
first_next records log.Boot h = still_first records log.Boot h refl (λ txn. settled_stays txn records log.Boot refl)
first_next records (log.Told t) h = still_first records (log.Told t) h refl (λ txn. settled_stays txn records (log.Told t) refl)
first_next records (log.Prepared p) h = still_first records (log.Prepared p) h refl (λ txn. settled_stays txn records (log.Prepared p) refl)
first_next records (log.Settled new) h = settled_next records new (settled_in new.txn records) h refl
first_next records (log.Decided d) h = still_first records (log.Decided d) h refl (λ txn. settled_stays txn records (log.Decided d) refl)

first_after : (before records : List Record) → AreFirst before → AreFirst (before ++ records)
first_after before [] h = subst AreFirst (sym (append-nil before)) h
first_after before (next ∷ records) h =
    subst AreFirst (append_assoc before (next ∷ []) records) (first_after (before ++ next ∷ []) records (first_next before next h))

are_first : (records : List Record) → AreFirst records
are_first records = first_after [] records (record { listed = λ s there. absurd there; found = λ s e. absurd (cc) })

-- ---- votes

-- a vote of this transaction, whose record Q holds of
abbrev pub IsVoteOf : (Record → Type 0) → TxnId → Prepared → Type 0
IsVoteOf Q txn p = (p.txn ≡ txn) × Q (log.Prepared p)

vote_is : (Q : Record → Type 0) (txn : TxnId) (next : Record) → Q next → (p : Prepared) → preparation_in txn next ≡ Some p → IsVoteOf Q txn p
vote_is Q txn log.Boot there p e = absurd (cc)
vote_is Q txn (log.Told t) there p e = absurd (cc)
vote_is Q txn (log.Prepared q) there p e = chosen (same_txn q.txn txn) refl e
  where
    chosen : (b : Bool) → same_txn q.txn txn ≡ b → (if b then Some q else None) ≡ Some p → IsVoteOf Q txn p
    chosen true same f = subst (IsVoteOf Q txn) (same_Some q p f) (same_txn_is q.txn txn same, there)
    chosen false apart f = absurd (cc)
vote_is Q txn (log.Settled s) there p e = absurd (cc)
vote_is Q txn (log.Decided d) there p e = absurd (cc)

of_either : {A : Type 0} (P : A → Type 0) (old new : Option A) (x : A) → ((y : A) → old ≡ Some y → P y) → ((y : A) → new ≡ Some y → P y) → option_or old new ≡ Some x → P x
of_either P (Some y) new x one other e = one x e
of_either P None new x one other e = other x e

voted_is : (Q : Record → Type 0) (txn : TxnId) (records : List Record) → Each Q records → (p : Prepared) → voted_in txn records ≡ Some p → IsVoteOf Q txn p
voted_is Q txn [] each p e = absurd (cc)
voted_is Q txn (first ∷ records) each p e =
    of_either (IsVoteOf Q txn) (voted_in txn records) (preparation_in txn first) p (λ q f. voted_is Q txn records each.1 q f) (λ q f. vote_is Q txn first each.0 q f) e

unsettled : (settled : Option Settled) (voted : Option Prepared) (p : Prepared) → while_unsettled settled voted ≡ Some p → voted ≡ Some p
unsettled None voted p e = e
unsettled (Some s) voted p e = absurd (cc)

-- what is prepared of a transaction is a vote of it, and what holds of each record holds of that
pub prepared_is : (Q : Record → Type 0) (txn : TxnId) (records : List Record) → Each Q records → (p : Prepared) → prepared_in txn records ≡ Some p → IsVoteOf Q txn p
prepared_is Q txn records each p e = voted_is Q txn records each p (unsettled (settled_in txn records) (voted_in txn records) p e)

-- a settlement of this transaction, whose record Q holds of
abbrev pub IsEndOf : (Record → Type 0) → TxnId → Settled → Type 0
IsEndOf Q txn s = (s.txn ≡ txn) × Q (log.Settled s)

end_is : (Q : Record → Type 0) (txn : TxnId) (next : Record) → Q next → (s : Settled) → settlement_in txn next ≡ Some s → IsEndOf Q txn s
end_is Q txn log.Boot there s e = absurd (cc)
end_is Q txn (log.Told t) there s e = absurd (cc)
end_is Q txn (log.Prepared p) there s e = absurd (cc)
end_is Q txn (log.Settled r) there s e = chosen (same_txn r.txn txn) refl e
  where
    chosen : (b : Bool) → same_txn r.txn txn ≡ b → (if b then Some r else None) ≡ Some s → IsEndOf Q txn s
    chosen true same f = subst (IsEndOf Q txn) (same_Some r s f) (same_txn_is r.txn txn same, there)
    chosen false apart f = absurd (cc)
end_is Q txn (log.Decided d) there s e = absurd (cc)

-- and so it is of what is settled
pub settled_is : (Q : Record → Type 0) (txn : TxnId) (records : List Record) → Each Q records → (s : Settled) → settled_in txn records ≡ Some s → IsEndOf Q txn s
settled_is Q txn [] each s e = absurd (cc)
settled_is Q txn (first ∷ records) each s e =
    of_either (IsEndOf Q txn) (settlement_in txn first) (settled_in txn records) s (λ r f. end_is Q txn first each.0 r f) (λ r f. settled_is Q txn records each.1 r f) e

-- ---- the answer

-- a place of a table that is not empty is within it
pub filled_within : {A : Type 0} (table : List (Option A)) (n : ℕ) (x : A) → option_flatten (slice_get table n) ≡ Some x → n < length table
filled_within {A = A} table n x e = within (slice_get table n) refl e
  where
    within : (place : Option (Option A)) → slice_get table n ≡ place → option_flatten place ≡ Some x → n < length table
    within None is f = absurd (cc)
    within (Some there) is f = slice_get_within table n there is

-- what the table of what is prepared has at a place is prepared on the log, of the transaction of the place
pub placed_is : (sc : Scenario) (at : ServerId) (k : Kept) (records : List Record) → SaysLog sc at k records → Each (IsOfScenario sc) records
    → (n : ℕ) (p : Prepared) → option_flatten (slice_get k.prepared n) ≡ Some p → (prepared_in p.txn records ≡ Some p) × (p.txn.0 ≡ n)
placed_is sc at k records h each n p e =
    let within : n < length k.prepared = filled_within k.prepared n p e in
    let inside : n < length sc.txns = omega (arith, h.prepared_places) in
    let txn : TxnId = record { 0 = n } in
    let is : prepared_in txn records ≡ Some p = sym (h.prepared txn inside) ∙ e in
    let same : p.txn ≡ txn = (prepared_is (IsOfScenario sc) txn records each p is).0 in
    (ap (λ (one : TxnId). prepared_in one records) same ∙ is, ap (λ (one : TxnId). one.0) same)

answer_says : (sc : Scenario) (at : ServerId) (k : Kept) (records : List Record) → SaysLog sc at k records → Each (IsOfScenario sc) records → HeldSays sc at (held_of k) records
answer_says sc at k records h each =
    let first = are_first records in
    record {
      epoch = h.epoch;
      admins = h.admins;
      newest = h.newest;
      values = h.values;
      prepared = λ p. (
        λ there. let found = listed_in_table k.prepared p there in (placed_is sc at k records h each found.0 p found.1).0,
        λ is. let inside = (prepared_is (IsOfScenario sc) p.txn records each p is).1 in listed_from_table k.prepared p.txn.0 p (h.prepared p.txn inside ∙ is),
      );
      rising = listed_rises k.prepared (λ n p e. (placed_is sc at k records h each n p e).1);
      settled = λ s. (
        λ there. first.listed s (subst (λ (xs : List Settled). Has xs s) h.in_order (has_from k.in_order s there)),
        λ is. contains_from k.in_order s (subst (λ (xs : List Settled). Has xs s) (sym h.in_order) (first.found s is)),
      );
      in_order = h.in_order;
    }

-- what is answered of a log whose records name transactions of the scenario alone says what the log does
pub held_says : (sc : Scenario) (at : ServerId) (records : List Record) → Each (IsOfScenario sc) records → HeldSays sc at (held_in sc at records) records
held_says sc at records each = answer_says sc at (kept sc at records) records (kept_law sc at records each) each
