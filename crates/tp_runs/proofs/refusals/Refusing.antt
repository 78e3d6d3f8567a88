-- A server refuses: the value is outside its item's range, and where no work of the transaction was lost it is that of
-- the transaction's run by itself on the store where it first aborted, since the server holds its share of what the
-- coordinator has done, and that is the run.
use Rattle.std.specs.List.{list_any}
use Rattle.std.specs.Option.{option_map_or, option_or}
use Rattle.std.specs.Ordering.{int_eq}
use Rattle.std.proofs.Common.{Bool, IfSome, List, MatchOption, None, Option, Some, [], ap, arith, false, find, if◌then◌else◌, inr, is_some, length, not, option_and_then, option_map, refl, slice_get, subst, suc, sym, true, zero, ℕ, ℤ, ◌+◌, ◌∙◌, ◌∷◌, ◌≡◌}
use Rattle.std.proofs.lemmas.Bool.Decides.{Decides-int_eq, nat_tests}
use Rattle.std.proofs.lemmas.Bool.{and_from, and_parts, eqb-true, not-true, or_left, or_parts, or_right}
use Rattle.std.proofs.lemmas.List.Folds.{list_any-append}
use Rattle.std.proofs.lemmas.Option.{same_Some, slice_get-map}
use Rattle.tp_types.proofs.ListLemmas.{number_itself}
use Rattle.tp_model.specs.Causes.{first_abort_of, is_explained_at, is_outside_range, is_run_value, lost_work, place_of}
use Rattle.tp_model.specs.Facts.{before, is_settled_as}
use Rattle.tp_model.specs.Ids.{same_item, same_server, same_txn}
use Rattle.tp_model.specs.Limits.{is_between}
use Rattle.tp_model.specs.SerialRun.{run_value, serial_run, store_of}
use Rattle.tp_model.specs.Words.actor
use Rattle.tp_model.specs.Words.body
use Rattle.tp_model.specs.Words.no
use Rattle.tp_model.specs.Words.outcome
use Rattle.tp_model.specs.Words.what
use Rattle.tp_model.specs.Words.{Actor, Deed, Fact, Item, ItemId, Mail, OutOfRange, PrepareRequest, Scenario, ServerId, Transaction, TxnId, What}
use Rattle.tp_runs.proofs.basics.Phases.{Prepares, stand_of}
use Rattle.tp_runs.proofs.ids.Valid.{IsValid}
use Rattle.tp_runs.proofs.agreement.World.{Agrees}
use Rattle.tp_runs.proofs.basics.Facts.{before_past, facts_after, grows_with_facts, said}
use Rattle.tp_types.proofs.EachLemmas.{each_get}
use Rattle.tp_runs.proofs.pairs.Actors.{BodyPairs, LetterPairs, asker_of, entry_by, entry_up, is_part_up, pair_at, site_of}
use Rattle.tp_runs.proofs.pairs.Answered.{there_matches}
use Rattle.tp_runs.proofs.pairs.Fits.{AskerFits, IsThere, PrepareFits, PrepareLive}
use Rattle.tp_runs.proofs.basics.Found.{of_some}
use Rattle.tp_runs.proofs.pairs.Moves.{matched}
use Rattle.tp_runs.proofs.pairs.Outcomes.{got_part}
use Rattle.tp_runs.proofs.pairs.Pair.{entry_held, held_up}
use Rattle.tp_runs.proofs.known.World.{Pairs}
use Rattle.tp_runs.proofs.refusals.Running.{Remembers, asker_fits, asker_is, run_now}
use Rattle.tp_runs.proofs.refusals.World.{IsAwaiting, IsRunBefore, ReasonShown, Refusals, first_abort_append, keeps_same, lost_same, run_stays}
use Rattle.tp_runs.proofs.deeds.Commits.{IsItemAt}
use Rattle.tp_runs.proofs.deeds.Joined.{share_at}
use Rattle.tp_runs.proofs.deeds.Refused.{last_is_refused, last_is_run, last_kept_share}
use Rattle.tp_runs.proofs.serial_data.Rows.{ServerReads, deeds_in}
use Rattle.tp_runs.proofs.deeds.Tentative.{AreLast, last_kept}
use Rattle.tp_runs.proofs.serial_data.UpOnLog.{UpOnLog}
use Rattle.tp_runs.proofs.serial_data.World.{Serial, up_on_log}
use Rattle.tp_server.proofs.Rows.{IsRefusal}
use Rattle.tp_runs.proofs.walks.Steps.{IsServerUp, WasSent}
use Rattle.tp_machine.specs.Machine.{State, facts_of}
use Rattle.tp_machine.specs.Parts.{Part}
use Rattle.tp_runs.specs.Sound.{IsItemOf, IsSound, IsSoundServer, IsSoundServerUp, IsWriteOf}
use Rattle.tp_coord.specs.Row.{refused_by}
use Rattle.tp_coord.specs.State.{Coordinator}
use Rattle.tp_server.specs.declared.server.Entry.{Entry}
use Rattle.tp_server.specs.Row.{entry_at}
use Rattle.tp_server.specs.State.{Server}
use Rattle.tp_store.proofs.OutsideLemmas.{first_is_least}
use Rattle.tp_store.specs.Laws.{IsLeastOutside, are_apart}
use Rattle.tp_store.specs.Rule.{bounds_of, first_outside_in, writes_of}
use Rattle.tp_store.specs.Writes.{is_on, is_outside, is_outside_of}
use Rattle.tp_store.specs.declared.writes.Bounds.{Bounds}
use Rattle.tp_store.specs.declared.writes.TentativeWrite.{TentativeWrite}

-- ---- what the server holds

-- what a request to prepare says at the server that it comes to
prepare_fits_in_refusals : (sc : Scenario) (w : State) (n : ℕ) (mail : Mail) (at : ServerId) (p : PrepareRequest) (declared : Transaction) → Pairs sc w → WasSent w n mail (actor.Server at) → mail.letter.body ≡ body.Prepare p
    → slice_get sc.txns p.txn.0 ≡ Some declared → PrepareFits (site_of sc at.0 declared) (pair_at w.actors p.txn at.0) p
prepare_fits_in_refusals sc w n mail at p declared pairs sent said there =
    let paired : BodyPairs sc (pair_at w.actors) mail.letter.from (actor.Server at) mail.letter.body =
    subst (λ (to : Actor). BodyPairs sc (pair_at w.actors) mail.letter.from to mail.letter.body) sent.goes_to (each_get (λ (m : Mail). LetterPairs sc (pair_at w.actors) m.letter) w.mails n mail pairs.mails sent.sent) in
    subst (BodyPairs sc (pair_at w.actors) mail.letter.from (actor.Server at)) said paired declared there

-- and of its coordinator
prepare_live_in_refusals : (sc : Scenario) (w : State) (n : ℕ) (mail : Mail) (at : ServerId) (p : PrepareRequest) (declared : Transaction) (awaiting : IsAwaiting w.actors.coordinators p.txn) → Pairs sc w → WasSent w n mail (actor.Server at)
    → mail.letter.body ≡ body.Prepare p → slice_get sc.txns p.txn.0 ≡ Some declared → PrepareLive p (asker_of at.0 awaiting.c)
prepare_live_in_refusals sc w n mail at p declared awaiting pairs sent said there =
    of_some (PrepareLive p) (pair_at w.actors p.txn at.0).asker (asker_of at.0 awaiting.c) (asker_is w p.txn at.0 awaiting) (prepare_fits_in_refusals sc w n mail at p declared pairs sent said there).live

-- the coordinator of a request to prepare, where it has not decided, brings the servers to vote
pub asked_prepares : (sc : Scenario) (w : State) (n : ℕ) (mail : Mail) (at : ServerId) (p : PrepareRequest) (declared : Transaction) (awaiting : IsAwaiting w.actors.coordinators p.txn) → Pairs sc w → WasSent w n mail (actor.Server at)
    → mail.letter.body ≡ body.Prepare p → slice_get sc.txns p.txn.0 ≡ Some declared → stand_of awaiting.c.phase ≡ Prepares
asked_prepares sc w n mail at p declared awaiting pairs sent said there = (prepare_live_in_refusals sc w n mail at p declared awaiting pairs sent said there).prepares

-- and the entry of the epoch that it names has the server's share of what it has done
asked_share : (sc : Scenario) (w : State) (n : ℕ) (mail : Mail) (at : ServerId) (part : Part Server) (s : Server) (p : PrepareRequest) (entry : Entry) (declared : Transaction) (awaiting : IsAwaiting w.actors.coordinators p.txn) → Pairs sc w
    → WasSent w n mail (actor.Server at) → IsServerUp w at part s → mail.letter.body ≡ body.Prepare p → slice_get sc.txns p.txn.0 ≡ Some declared → entry_at s p.txn ≡ Some entry → entry.epoch ≡ p.epoch
    → entry.deeds ≡ share_at sc at.0 awaiting.c.deeds
asked_share sc w n mail at part s p entry declared awaiting pairs sent up said there found epoch =
    let site = site_of sc at.0 declared in
    let pair = pair_at w.actors p.txn at.0 in
    let a = asker_of at.0 awaiting.c in
    let old : AskerFits site pair a = asker_fits sc w p.txn at.0 declared awaiting pairs there in
    let live : PrepareLive p a = prepare_live_in_refusals sc w n mail at p declared awaiting pairs sent said there in
    let up_is : pair.up ≡ true = ap (λ (found_part : Option (Part Server)). option_map_or is_part_up found_part false) up.found ∙ ap is_some up.up in
    let entry_is : pair.entry ≡ Some entry = ap (option_and_then (entry_by p.txn)) up.found ∙ (ap (option_and_then (entry_up p.txn)) up.up ∙ found) in
    let held_is : IsThere pair entry.epoch entry.deeds = held_up pair.up pair.entry pair.prepared up_is ∙ ap (option_map entry_held) entry_is in
    let kept : a.epoch ≡ Some entry.epoch = live.epoch ∙ ap (λ (n : ℕ). Some n) (sym epoch) in
    let prepares = live.prepares in
    matched site a entry.deeds (λ asks. let other = prepares in cc) (there_matches site pair a a.epoch entry.epoch entry.deeds old.pairing (inr kept) held_is) ∙ got_part site a.deeds old.runs

-- ---- the refused write

not_on : (item : ItemId) (write : TentativeWrite) (writes : List TentativeWrite) (n : ℕ) (found : TentativeWrite) → list_any (is_on item) writes ≡ false → slice_get writes n ≡ Some found → is_on item found ≡ false
not_on item write [] n found none e = absurd (cc)
not_on item write (first ∷ writes) zero found none e =
    let parts = or_parts (is_on item first) (list_any (is_on item) writes) none in
    subst (λ (x : TentativeWrite). is_on item x ≡ false) (same_Some first found e) parts.0
not_on item write (first ∷ writes) (suc n) found none e = not_on item write writes n found (or_parts (is_on item first) (list_any (is_on item) writes) none).1 e

-- of writes of which no two are of one item, each is the one that is found by its item
found_apart : (writes : List TentativeWrite) (n : ℕ) (write : TentativeWrite) → are_apart writes ≡ true → slice_get writes n ≡ Some write → find (is_on write.item) writes ≡ Some write
found_apart [] n write apart e = absurd (cc)
found_apart (first ∷ writes) zero write apart e =
    let is : first ≡ write = same_Some first write e in
    subst (λ (x : TentativeWrite). find (is_on x.item) (first ∷ writes) ≡ Some x) is (ap (λ (b : Bool). if b then Some first else find (is_on first.item) writes) (number_itself first.item.0))
found_apart (first ∷ writes) (suc n) write apart e =
    let parts = and_parts (not (list_any (is_on first.item) writes)) (are_apart writes) apart in
    let other : is_on first.item write ≡ false = not_on first.item write writes n write (not-true (list_any (is_on first.item) writes) parts.0) e in
    let apart_here : is_on write.item first ≡ false = other_way write.item first.item other in
    ap (λ (b : Bool). if b then Some first else find (is_on write.item) writes) apart_here ∙ found_apart writes n write parts.1 e
  where
    other_way : (one two : ItemId) → same_item one two ≡ false → same_item two one ≡ false
    other_way one two f = grind (arith, nat_tests)

-- a write outside its range, of an item of the server
record IsOutsideWrite (sc : Scenario) (at : ServerId) (deeds : List Deed) (number : ℕ) (value : ℤ) : Type 0 where
  write : TentativeWrite
  query_is : write.query ≡ number
  value_is : write.value ≡ value
  last : last_kept write.item deeds ≡ Some write
  item : IsItemOf sc at write.item
  outside : option_map_or (is_outside_range at value) (slice_get sc.items write.item.0) false ≡ true

outside_item : (sc : Scenario) (at : ServerId) (value : ℤ) (declared : Item) (found : Option Item) → found ≡ Some declared → declared.server ≡ at → is_outside_of (option_map bounds_of found) value ≡ true
    → option_map_or (is_outside_range at value) found false ≡ true
outside_item sc at value declared None e home outside = absurd (cc)
outside_item sc at value declared (Some item) e home outside =
    let is : item ≡ declared = same_Some item declared e in
    let here : same_server item.server at ≡ true = subst (λ (server : ServerId). same_server server at ≡ true) (sym (ap (λ (i : Item). i.server) is ∙ home)) (number_itself at.0) in
    and_from (same_server item.server at) (not (is_between item.min item.max value)) here outside

outside_write : (sc : Scenario) (s : Server) (txn : TxnId) (entry : Entry) (number : ℕ) (value : ℤ) → IsSoundServer sc s → ServerReads sc s → entry_at s txn ≡ Some entry → first_outside_in s.store txn ≡ Some (number, value)
    → IsOutsideWrite sc s.server entry.deeds number value
outside_write sc s txn entry number value sound reads found e = least_of (first_outside_in s.store txn) e (first_is_least s.store txn)
  where
    least_of : (first : Option (ℕ × ℤ)) → first ≡ Some (number, value) → MatchOption first (list_any (is_outside s.store.bounds) (writes_of s.store txn) ≡ false) (IsLeastOutside s.store txn) → IsOutsideWrite sc s.server entry.deeds number value
    least_of None f m = absurd (cc)
    least_of (Some first) f m =
        let same : first ≡ (number, value) = same_Some first (number, value) f in
        let last : AreLast (writes_of s.store txn) (deeds_in (entry_at s txn)) = reads.last txn in
        let item : IsItemOf sc s.server m.write.item = (each_get (IsWriteOf sc s.server txn) (writes_of s.store txn) m.at m.write (sound.writes txn) m.kept).item in
        let value_is : m.write.value ≡ value = sym m.value ∙ ap (λ (x : ℕ × ℤ). x.1) same in
        let bounds : slice_get s.store.bounds m.write.item.0 ≡ option_map bounds_of (slice_get sc.items m.write.item.0) = ap (λ (all : List Bounds). slice_get all m.write.item.0) reads.bounds_are ∙ slice_get-map bounds_of sc.items m.write.item.0 in
        record {
          write = m.write;
          query_is = sym m.query ∙ ap (λ (x : ℕ × ℤ). x.0) same;
          value_is = value_is;
          last = sym (last.last m.write.item ∙ ap (λ (x : Option Entry). last_kept m.write.item (deeds_in x)) found) ∙ found_apart (writes_of s.store txn) m.at m.write last.apart m.kept;
          item = item;
          outside = outside_item sc s.server value item.declared (slice_get sc.items m.write.item.0) item.declared_is item.server_is
              (sym (ap (λ (b : Option Bounds). is_outside_of b value) bounds) ∙ (ap (is_outside_of (slice_get s.store.bounds m.write.item.0)) (sym value_is) ∙ m.outside));
        }

-- ---- the first abort

-- the place of a transaction's first abort, and what its coordinator has done
pub record IsFirstAbort (sc : Scenario) (facts : List Fact) (place : ℕ) (txn : TxnId) (declared : Transaction) (c : Coordinator) : Type 0 where
  pub first : ℕ
  pub first_is : first_abort_of txn facts ≡ Some first
  pub run : IsRunBefore sc facts place first txn declared c

-- once a server aborts the transaction, and no work of it was lost, its coordinator has done the transaction's run by
-- itself on the store: now, where it is the first abort
pub run_at_abort : (sc : Scenario) (w : State) (txn : TxnId) (happened : List What) (declared : Transaction) (awaiting : IsAwaiting w.actors.coordinators txn) → IsValid sc → Agrees sc w → Pairs sc w → Serial sc w
    → Remembers sc w → slice_get sc.txns txn.0 ≡ Some declared → stand_of awaiting.c.phase ≡ Prepares → first_abort_of txn w.facts ≡ None
    → IsRunBefore sc (facts_after w happened) (length w.steps + 1) (length w.steps) txn declared awaiting.c
run_at_abort sc w txn happened declared awaiting valid a pairs serial known there prepares none =
    let place = length w.steps in
    let all : before place (facts_after w happened) ≡ w.facts = (grows_with_facts w.facts place happened).same place (omega arith) ∙ before_past place w.facts a.past in
    record {
      prepares = prepares;
      past = omega arith;
      runs = λ kept.
          run_now sc w txn declared awaiting valid a pairs serial known
          (record { declared_is = there; prepares = prepares; none = none; kept = sym (lost_same sc txn w.facts declared place place happened (omega arith)) ∙ kept })
          ∙ ap (λ (found : List Fact). serial_run declared (store_of sc found)) (sym all);
    }

-- the first abort after a server aborts: one of before, or this one
first_now : (sc : Scenario) (w : State) (at : ServerId) (txn : TxnId) (declared : Transaction) (awaiting : IsAwaiting w.actors.coordinators txn) → IsValid sc → Agrees sc w → Pairs sc w → Serial sc w → Remembers sc w
    → Refusals sc w → slice_get sc.txns txn.0 ≡ Some declared → stand_of awaiting.c.phase ≡ Prepares
    → IsFirstAbort sc (facts_after w (what.Settled at txn outcome.Abort ∷ [])) (length w.steps + 1) txn declared awaiting.c
first_now sc w at txn declared awaiting valid a pairs serial known h there prepares = by_old (first_abort_of txn w.facts) refl
  where
    by_old : (old : Option ℕ) → first_abort_of txn w.facts ≡ old → IsFirstAbort sc (facts_after w (what.Settled at txn outcome.Abort ∷ [])) (length w.steps + 1) txn declared awaiting.c
    by_old (Some first) found =
        let happened = what.Settled at txn outcome.Abort ∷ [] in
        record {
          first = first;
          first_is = first_abort_append txn w.facts (facts_of (length w.steps) happened) ∙ ap (λ (old : Option ℕ). option_or old (first_abort_of txn (facts_of (length w.steps) happened))) found;
          run = run_stays sc w.facts happened (length w.steps) first txn declared awaiting.c awaiting.c (keeps_same awaiting.c) (h.aborted txn declared first awaiting there found);
        }
    by_old None none =
        let happened = what.Settled at txn outcome.Abort ∷ [] in
        let new : first_abort_of txn (facts_of (length w.steps) happened) ≡ Some (length w.steps) =
        ap (λ (b : Bool). option_map place_of (if b then Some (record { place = length w.steps; what = what.Settled at txn outcome.Abort }) else None)) (and_from (same_txn txn txn) true (number_itself txn.0) refl) in
        record {
          first = length w.steps;
          first_is = first_abort_append txn w.facts (facts_of (length w.steps) happened)
              ∙ (ap (λ (old : Option ℕ). option_or old (first_abort_of txn (facts_of (length w.steps) happened))) none ∙ new);
          run = run_at_abort sc w txn happened declared awaiting valid a pairs serial known there prepares none;
        }

-- ---- it is shown

-- where no work was lost the value is that of the run
value_explained : (sc : Scenario) (txn : TxnId) (facts : List Fact) (refused : OutOfRange) (declared : Transaction) (first : ℕ) → (lost_work sc txn facts declared first ≡ false → is_run_value sc facts refused declared first ≡ true)
    → is_explained_at sc txn facts refused declared first ≡ true
value_explained sc txn facts refused declared first run = by_lost (lost_work sc txn facts declared first) refl
  where
    by_lost : (lost : Bool) → lost_work sc txn facts declared first ≡ lost → is_explained_at sc txn facts refused declared first ≡ true
    by_lost true e = or_left (lost_work sc txn facts declared first) (is_run_value sc facts refused declared first) e
    by_lost false e = or_right (lost_work sc txn facts declared first) (is_run_value sc facts refused declared first) (run e)

pub refusal_shown : (sc : Scenario) (w : State) (n : ℕ) (mail : Mail) (at : ServerId) (part : Part Server) (s : Server) (p : PrepareRequest) (entry : Entry) (number : ℕ) (value : ℤ) → IsValid sc → IsSound sc w → Agrees sc w → Pairs sc w
    → Serial sc w → Remembers sc w → Refusals sc w → WasSent w n mail (actor.Server at) → IsServerUp w at part s → IsRefusal s mail p entry number value → IsAwaiting w.actors.coordinators p.txn
    → ReasonShown sc (facts_after w (what.Settled at p.txn outcome.Abort ∷ [])) (length w.steps + 1) at p.txn (no.Range number value)
refusal_shown sc w n mail at part s p entry number value valid sound a pairs serial known h sent up k awaiting = λ declared there.
    let txn = p.txn in
    let place = length w.steps in
    let happened = what.Settled at txn outcome.Abort ∷ [] in
    let part_sound = sound.actors_are.servers at.0 part up.found in
    let server_sound : IsSoundServerUp sc at s = subst (λ (u : Option Server). IfSome u (IsSoundServerUp sc at)) up.up part_sound.state in
    let share : entry.deeds ≡ share_at sc at.0 awaiting.c.deeds = asked_share sc w n mail at part s p entry declared awaiting pairs sent up k.said_is there k.found (eqb-true entry.epoch p.epoch k.same_epoch) in
    let prepares = asked_prepares sc w n mail at p declared awaiting pairs sent k.said_is there in
    let found : IsFirstAbort sc (facts_after w happened) (place + 1) txn declared awaiting.c = first_now sc w at txn declared awaiting valid a pairs serial known h there prepares in
    let store = store_of sc (before found.first (facts_after w happened)) in
    let here : UpOnLog sc s part.log = up_on_log sc w at part s serial up.found up.up in
    let out : IsOutsideWrite sc at entry.deeds number value = subst (λ (server : ServerId). IsOutsideWrite sc server entry.deeds number value) server_sound.server_is (outside_write sc s txn entry number value server_sound.sound here.reads k.found k.outside) in
    let own : IsItemAt sc at.0 out.write.item.0 = record { declared = out.item.declared; declared_is = out.item.declared_is; at_is = ap (λ (server : ServerId). server.0) out.item.server_is } in
    let last : last_kept out.write.item awaiting.c.deeds ≡ Some out.write = sym (last_kept_share sc at.0 out.write.item awaiting.c.deeds own) ∙ (ap (last_kept out.write.item) (sym share) ∙ out.last) in
    let fits : AskerFits (site_of sc at.0 declared) (pair_at w.actors txn at.0) (asker_of at.0 awaiting.c) = asker_fits sc w txn at.0 declared awaiting pairs there in
    record {
      write = last_is_refused sc declared awaiting.c.deeds (refused_by at number value) out.write.item out.write fits.runs (fits.all prepares) last out.query_is out.outside;
      aborted = list_any-append (is_settled_as at txn outcome.Abort) w.facts (facts_of place happened)
          ∙ or_right _ _ (or_left _ false (and_from _ _ (and_from (same_server at at) (same_txn txn txn) (number_itself at.0) (number_itself txn.0)) refl));
      first = found.first;
      first_is = found.first_is;
      past = found.run.past;
      run = value_explained sc txn (facts_after w happened) (refused_by at number value) declared found.first
          (λ kept.
          let run_last : last_kept out.write.item (serial_run declared store) ≡ Some out.write = ap (last_kept out.write.item) (sym (found.run.runs kept)) ∙ last in
          let value_then : run_value declared store number ≡ Some value =
          ap (run_value declared store) (sym out.query_is) ∙ (last_is_run declared store out.write.item out.write run_last ∙ ap (λ (v : ℤ). Some v) out.value_is) in
          ap (λ (v : Option ℤ). option_map_or (int_eq value) v false) value_then ∙ (Decides-int_eq value value).1 refl);
    }
