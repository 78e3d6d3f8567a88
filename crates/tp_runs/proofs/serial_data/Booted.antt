-- Serial data, a server that boots: its store keeps of each transaction the last writes of what is prepared, its entries have read its
-- values, and these are its log's.
use Rattle.std.proofs.Common.{List, None, Option, Some, [], ap, append-nil, append_assoc, arith, false, length, option_map, refl, replicate, slice_get, subst, suc, sym, unwrap_or, zero, ℕ, ℤ, ◌<◌, ◌++◌, ◌==◌, ◌∙◌, ◌∷◌, ◌≡◌, ◌≤◌}
use Rattle.std.proofs.lemmas.Bool.{ne_eqb}
use Rattle.std.proofs.lemmas.List.{length-map, length-replicate}
use Rattle.std.proofs.lemmas.Option.{none-some, same_Some}
use Rattle.std.specs.Option.{option_flatten}
use Rattle.tp_model.specs.SerialRun.{opening_store, opening_value}
use Rattle.tp_model.specs.Words.action
use Rattle.tp_model.specs.Words.log
use Rattle.tp_model.specs.Words.{Action, Deed, Outcome, Prepared, Record, Scenario, ServerId, Settled, TxnId}
use Rattle.tp_recover.proofs.HeldLemmas.{filled_within, placed_is}
use Rattle.tp_recover.proofs.KeptLemmas.{kept_law}
use Rattle.tp_recover.specs.Kept.{kept}
use Rattle.tp_recover.specs.Laws.{IsOfScenario}
use Rattle.tp_recover.specs.Log.{deeds_of_prepared, ended_first, prepared_in, settled_in, value_step, values_from, values_in}
use Rattle.tp_runs.proofs.basics.Booted.{booted_entries, deeds_keep, prepared_keeps, restored_there}
use Rattle.tp_runs.proofs.basics.Folds.{set_elsewhere}
use Rattle.tp_runs.proofs.deeds.Reads.{ReadsFrom}
use Rattle.tp_runs.proofs.deeds.Rising.{AreRising}
use Rattle.tp_runs.proofs.deeds.Tentative.{AreLast, AreUpTo, none_last, read_last, write_last}
use Rattle.tp_runs.proofs.pairs.Pair.{numbers}
use Rattle.tp_runs.proofs.serial_data.OnLog.{LogReads, values_after}
use Rattle.tp_runs.proofs.serial_data.Rows.{deeds_in, values_length}
use Rattle.tp_runs.proofs.serial_data.UpOnLog.{UpOnLog}
use Rattle.tp_actor_log.specs.Records.{log_with}
use Rattle.tp_server.specs.Booted.{booted, kept_store, restored, with_deed_kept, with_deeds_kept, with_prepared_kept, write_of}
use Rattle.tp_server.specs.declared.server.Entry.{Entry}
use Rattle.tp_store.specs.Contents.{Contents}
use Rattle.tp_store.specs.Rule.{writes_of}
use Rattle.tp_store.specs.Writes.{with_write}
use Rattle.tp_store.specs.declared.writes.TentativeWrite.{TentativeWrite}
use Rattle.tp_types.proofs.EachLemmas.{each_as, each_more, set_here}
use Rattle.tp_types.specs.Each.{Each, EachPlaced}

-- ---- the deeds of one transaction

-- the queries of the deeds come one after another
pub record DeedsRise (deeds : List Deed) : Type 0 where
  pub last : ℕ
  pub rising : AreRising 0 (numbers deeds) last

deed_last : (a : Action) (contents : Contents) (txn : TxnId) (before : List Deed) (deed : Deed) → deed.action ≡ a → txn.0 < length contents.tentative → AreUpTo deed.query before → AreLast (writes_of contents txn) before
    → AreLast (writes_of (with_deed_kept a contents txn deed) txn) (before ++ deed ∷ [])
deed_last action.Read contents txn before deed is within upto h = read_last (writes_of contents txn) before deed is h
deed_last action.Write contents txn before deed is within upto h =
    let writes = with_write (writes_of contents txn) (write_of deed) in
    subst (λ (found : Option (List TentativeWrite)). AreLast (unwrap_or found []) (before ++ deed ∷ [])) (sym (set_here contents.tentative txn.0 writes within))
    (write_last (writes_of contents txn) before deed is upto h)

deeds_last : (contents : Contents) (txn : TxnId) (before deeds : List Deed) (low last : ℕ) → txn.0 < length contents.tentative → AreUpTo low before → AreRising low (numbers deeds) last → AreLast (writes_of contents txn) before
    → AreLast (writes_of (with_deeds_kept contents txn deeds) txn) (before ++ deeds)
deeds_last contents txn before [] low last within upto rising h = subst (AreLast (writes_of contents txn)) (sym (append-nil before)) h
deeds_last contents txn before (deed ∷ deeds) low last within upto rising h =
    let more = with_deed_kept deed.action contents txn deed in
    let under : low ≤ deed.query = rising.0 in
    let places : length more.tentative ≡ length contents.tentative = (deeds_keep contents txn (deed ∷ [])).places in
    let high : AreUpTo deed.query before = each_as (λ (d : Deed). d.query ≤ low) (λ (d : Deed). d.query ≤ deed.query) (λ d k. omega (arith, k, under)) before upto in
    let one : AreLast (writes_of more txn) (before ++ deed ∷ []) = deed_last deed.action contents txn before deed refl within high h in
    subst (AreLast (writes_of (with_deeds_kept more txn deeds) txn)) (append_assoc before (deed ∷ []) deeds)
    (deeds_last more txn (before ++ deed ∷ []) deeds deed.query last (omega (arith, within, places)) (each_more (λ (d : Deed). d.query ≤ deed.query) before deed high (omega arith)) rising.1 one)

-- they change no write of another transaction
deed_elsewhere : (a : Action) (contents : Contents) (txn other : TxnId) (deed : Deed) → (txn.0 == other.0) ≡ false → writes_of (with_deed_kept a contents txn deed) other ≡ writes_of contents other
deed_elsewhere action.Read contents txn other deed apart = refl
deed_elsewhere action.Write contents txn other deed apart =
    ap (λ (found : Option (List TentativeWrite)). unwrap_or found []) (set_elsewhere contents.tentative txn.0 other.0 (with_write (writes_of contents txn) (write_of deed)) apart)

deeds_elsewhere : (contents : Contents) (txn other : TxnId) (deeds : List Deed) → (txn.0 == other.0) ≡ false → writes_of (with_deeds_kept contents txn deeds) other ≡ writes_of contents other
deeds_elsewhere contents txn other [] apart = refl
deeds_elsewhere contents txn other (deed ∷ deeds) apart =
    deeds_elsewhere (with_deed_kept deed.action contents txn deed) txn other deeds apart ∙ deed_elsewhere deed.action contents txn other deed apart

-- ---- all that is prepared

-- nothing of the transaction stands in the table
prepared_elsewhere : (contents : Contents) (table : List (Option Prepared)) (txn : TxnId) → EachPlaced (λ (n : ℕ) (p : Prepared). p.txn.0 ≡ txn.0 → ⊥) table
    → writes_of (with_prepared_kept contents table) txn ≡ writes_of contents txn
prepared_elsewhere contents [] txn others = refl
prepared_elsewhere contents (None ∷ table) txn others = prepared_elsewhere contents table txn (λ n p e. others (suc n) p e)
prepared_elsewhere contents (Some p ∷ table) txn others =
    prepared_elsewhere (with_deeds_kept contents p.txn p.deeds) table txn (λ n q e. others (suc n) q e)
    ∙ deeds_elsewhere contents p.txn txn p.deeds (ne_eqb p.txn.0 txn.0 (others zero p refl))

-- of the transaction this stands there, at this place alone
prepared_last : (contents : Contents) (table : List (Option Prepared)) (txn : TxnId) (at : ℕ) (p : Prepared) → option_flatten (slice_get table at) ≡ Some p → p.txn ≡ txn
    → EachPlaced (λ (n : ℕ) (q : Prepared). q.txn.0 ≡ txn.0 → n ≡ at) table → txn.0 < length contents.tentative → writes_of contents txn ≡ [] → DeedsRise p.deeds
    → AreLast (writes_of (with_prepared_kept contents table) txn) p.deeds
prepared_last contents [] txn at p e own alone within none rise = absurd (cc)
prepared_last contents (None ∷ table) txn zero p e own alone within none rise = absurd (cc)
prepared_last contents (None ∷ table) txn (suc at) p e own alone within none rise =
    prepared_last contents table txn at p e own (λ n q f same. let is = alone (suc n) q f same in omega (arith, is)) within none rise
prepared_last contents (Some q ∷ table) txn zero p e own alone within none rise =
    let is : q ≡ p = same_Some q p e in
    let first : AreLast (writes_of (with_deeds_kept contents txn p.deeds) txn) p.deeds =
    deeds_last contents txn [] p.deeds 0 rise.last within tt rise.rising (subst (λ (writes : List TentativeWrite). AreLast writes []) (sym none) none_last) in
    let here : AreLast (writes_of (with_deeds_kept contents q.txn q.deeds) txn) p.deeds =
    subst (λ (x : Prepared). AreLast (writes_of (with_deeds_kept contents x.txn x.deeds) txn) p.deeds) (sym is)
    (subst (λ (t : TxnId). AreLast (writes_of (with_deeds_kept contents t p.deeds) txn) p.deeds) (sym own) first) in
    subst (λ (writes : List TentativeWrite). AreLast writes p.deeds)
    (sym (prepared_elsewhere (with_deeds_kept contents q.txn q.deeds) table txn (λ n other f same. let later = alone (suc n) other f same in omega (arith, later)))) here
prepared_last contents (Some q ∷ table) txn (suc at) p e own alone within none rise =
    let more = with_deeds_kept contents q.txn q.deeds in
    let places : length more.tentative ≡ length contents.tentative = (deeds_keep contents q.txn q.deeds).places in
    let other : (q.txn.0 == txn.0) ≡ false = ne_eqb q.txn.0 txn.0 (λ same. let first = alone zero q refl same in omega (arith, first)) in
    prepared_last more table txn at p e own (λ n x f same. let is = alone (suc n) x f same in omega (arith, is)) (omega (arith, within, places))
    (deeds_elsewhere contents q.txn txn q.deeds other ∙ none) rise

-- ---- values

ended_length : (count : ℕ) (values : List ℤ) (ended : Outcome) (before : Option Settled) (deeds : Option Prepared) → length values ≡ count → length (ended_first values ended before deeds) ≡ count
ended_length count values ended None prepared e = values_length count ended values (deeds_of_prepared prepared) e
ended_length count values ended (Some s) prepared e = e

step_length : (count : ℕ) (values : List ℤ) (before : List Record) (next : Record) → length values ≡ count → length (value_step values before next) ≡ count
step_length count values before (log.Settled s) e = ended_length count values s.outcome (settled_in s.txn before) (prepared_in s.txn before) e
step_length count values before _ e = e

from_length : (count : ℕ) (values : List ℤ) (before records : List Record) → length values ≡ count → length (values_from values before records) ≡ count
from_length count values before [] e = e
from_length count values before (first ∷ records) e = from_length count (value_step values before first) (before ++ first ∷ []) records (step_length count values before first e)

-- a log leaves each item a value
pub log_length : (sc : Scenario) (records : List Record) → length (values_in sc records) ≡ length sc.items
log_length sc records = from_length (length sc.items) (opening_store sc) [] records (length-map sc.items opening_value)

-- ---- the server

none_at : (count n : ℕ) → unwrap_or (slice_get (replicate {A = List TentativeWrite} count []) n) [] ≡ []
none_at zero n = refl
none_at (suc count) zero = refl
none_at (suc count) (suc n) = none_at count n

-- what its store keeps of a transaction are the last writes of its entry
booted_last : (sc : Scenario) (at : ServerId) (records : List Record) (txn : TxnId) (found : Option Prepared) → Each (IsOfScenario sc) records → ((other : TxnId) (p : Prepared) → prepared_in other records ≡ Some p → DeedsRise p.deeds)
    → option_flatten (slice_get (kept sc at records).prepared txn.0) ≡ found → AreLast (writes_of (booted sc at (kept sc at records)).store txn) (deeds_in (option_map restored found))
booted_last sc at records txn None each rise e =
    let k = kept sc at records in
    let says = kept_law sc at records each in
    let none : writes_of (booted sc at k).store txn ≡ [] =
    prepared_elsewhere (kept_store sc at k) k.prepared txn
    (λ n p f same.
    let is : n ≡ txn.0 = sym (placed_is sc at k records says each n p f).1 ∙ same in
    absurd (none-some p (sym e ∙ subst (λ (m : ℕ). option_flatten (slice_get k.prepared m) ≡ Some p) is f))) ∙ none_at (length sc.txns) txn.0 in
    subst (λ (writes : List TentativeWrite). AreLast writes []) (sym none) none_last
booted_last sc at records txn (Some p) each rise e =
    let k = kept sc at records in
    let says = kept_law sc at records each in
    let placed = placed_is sc at k records says each txn.0 p e in
    let places = says.prepared_places in
    let long : length (kept_store sc at k).tentative ≡ length sc.txns = length-replicate (length sc.txns) [] in
    prepared_last (kept_store sc at k) k.prepared txn txn.0 p e (ap (λ (n : ℕ). record { 0 = n }) placed.1) (λ n q f same. sym (placed_is sc at k records says each n q f).1 ∙ same)
    (omega (arith, filled_within k.prepared txn.0 p e, places, long)) (none_at (length sc.txns) txn.0) (rise p.txn p placed.0)

-- a server that boots stands on its log
pub boot_on_log : (sc : Scenario) (at : ServerId) (records : List Record) → Each (IsOfScenario sc) records → LogReads sc records → ((txn : TxnId) (p : Prepared) → prepared_in txn records ≡ Some p → DeedsRise p.deeds)
    → UpOnLog sc (booted sc at (kept sc at records)) (log_with records (Some log.Boot))
boot_on_log sc at records each reads rise =
    let k = kept sc at records in
    let says = kept_law sc at records each in
    let keeps = prepared_keeps (kept_store sc at k) k.prepared in
    let values : (booted sc at k).store.values ≡ values_in sc records = keeps.values ∙ says.values in
    record {
      reads = record {
        reads = λ n entry found.
            let own = booted_entries sc at records each n entry found in
            subst (λ (e : Entry). ReadsFrom (booted sc at k).store.values e.deeds) own.entry_is
            (subst (λ (xs : List ℤ). ReadsFrom xs own.p.deeds) (sym values) (reads.reads own.p.txn own.p own.prepared_is));
        items_are = ap length values ∙ log_length sc records;
        bounds_are = keeps.bounds;
        places = keeps.places ∙ length-replicate (length sc.txns) [];
        entry_places = length-map k.prepared (option_map restored) ∙ says.prepared_places;
        last = λ txn. subst (λ (found : Option Entry). AreLast (writes_of (booted sc at k).store txn) (deeds_in found))
            (sym (restored_there k.prepared txn.0)) (booted_last sc at records txn (option_flatten (slice_get k.prepared txn.0)) each rise refl);
      };
      values = values ∙ sym (values_after sc records (Some log.Boot));
    }
