-- The next step that comes by itself: what is found among the transactions and servers exists, whether there is one
-- does not depend on the cursor, a boot or a timer that is chosen is not refused, and where there is none each
-- transaction is finished.
use Rattle.std.proofs.Common.{◌≡◌, ℕ, ◌+◌, ◌<◌, ◌≤◌, List, [], ◌∷◌, ◌&&◌, length, map, take, drop, find, cond, slice_get, Bool, true, false, not, option_map, Option, Some, None, is_none, IfSome, zero, suc, if◌then◌else◌, refl, sym, ap, subst, ◌∙◌, arith}
use Rattle.std.specs.List.{range_with_len}
use Rattle.std.specs.Option.{option_map_or, option_or}
use Rattle.std.proofs.lemmas.Option.{same_Some}
use Rattle.tp_model.specs.Words.{Actor, Scenario, ServerId, Step, TxnId}
use Rattle.tp_model.specs.Words.actor
use Rattle.tp_model.specs.Words.step
use Rattle.tp_machine.specs.declared.actors.Actors.{Actors}
use Rattle.tp_machine.proofs.basics.Timers.{timer_allowed}
use Rattle.tp_machine.specs.declared.error.StepError.{StepError}
use Rattle.tp_machine.specs.declared.error.StepError.TheVariants as error
use Rattle.tp_machine.specs.Machine.{Machine, State, is_armed_at, is_down, is_part_down, is_part_submitted, is_submitted, refusal}
use Rattle.tp_machine.specs.Named.{IsCrasher, IsServer, IsTxn}
use Rattle.tp_machine.specs.Parts.{Part}
use Rattle.tp_types.specs.Each.{Each}
use Rattle.tp_runs.specs.Laws.{AreFinished}
use Rattle.tp_types.proofs.EachLemmas.{each_drop, each_map}
use Rattle.tp_auto.specs.Auto.{coordinator_down, first_armed, is_quiet, lowest_down, lowest_unsubmitted, next_by, next_of, server_down, servers_of, txns_of}

-- ---- what is found

pub below : (low count high : ℕ) → low + count ≤ high → Each (λ (number : ℕ). number < high) (range_with_len low count)
below low zero high le = tt
below low (suc count) high le = (omega (arith, le), below (low + 1) count high (omega (arith, le)))

chosen_holds : {A : Type 0} (P : A → Type 0) (test : A → Bool) (first x : A) (later : Option A) (b : Bool) → test first ≡ b → P first → (later ≡ Some x → P x × (test x ≡ true))
    → cond b (Some first) later ≡ Some x → P x × (test x ≡ true)
chosen_holds {A = A} P test first x later true t h rest e =
    let same : first ≡ x = same_Some first x e in
    (subst P same h, subst (λ (y : A). test y ≡ true) same t)
chosen_holds P test first x later false t h rest e = rest e

pub found_holds : {A : Type 0} (P : A → Type 0) (test : A → Bool) (xs : List A) (x : A) → Each P xs → find test xs ≡ Some x → P x × (test x ≡ true)
found_holds P test [] x h e = absurd (cc)
found_holds P test (first ∷ xs) x h e = chosen_holds P test first x (find test xs) (test first) refl h.0 (λ f. found_holds P test xs x h.1 f) e

pub txns_exist : (sc : Scenario) → Each (IsTxn sc) (txns_of sc)
txns_exist sc =
    each_map (λ (n : ℕ). n < length sc.txns) (IsTxn sc) (λ (n : ℕ). record { 0 = n }) (λ n low. low) (range_with_len 0 (length sc.txns)) (below 0 (length sc.txns) (length sc.txns) (omega arith))

servers_exist : (sc : Scenario) → Each (IsServer sc) (servers_of sc)
servers_exist sc =
    each_map (λ (n : ℕ). n < length sc.servers) (IsServer sc) (λ (n : ℕ). record { 0 = n }) (λ n low. low) (range_with_len 0 (length sc.servers)) (below 0 (length sc.servers) (length sc.servers) (omega arith))

each_take : {A : Type 0} (P : A → Type 0) (n : ℕ) (xs : List A) → Each P xs → Each P (take n xs)
each_take P zero xs h = tt
each_take P (suc n) [] h = tt
each_take P (suc n) (x ∷ xs) h = (h.0, each_take P n xs h.1)

-- what is found from a place on, going round, is found among all
round_holds : (P : TxnId → Type 0) (test : TxnId → Bool) (txns : List TxnId) (from : ℕ) (txn : TxnId) → Each P txns → option_or (find test (drop from txns)) (find test (take from txns)) ≡ Some txn
    → P txn × (test txn ≡ true)
round_holds P test txns from txn h e = by_later (find test (drop from txns)) refl e
  where
    by_later : (later : Option TxnId) → find test (drop from txns) ≡ later → option_or later (find test (take from txns)) ≡ Some txn → P txn × (test txn ≡ true)
    by_later None f g = found_holds P test (take from txns) txn (each_take P from txns h) g
    by_later (Some other) f g = found_holds P test (drop from txns) txn (each_drop P from txns h) (f ∙ g)

-- the transaction that is chosen exists, and is armed
pub armed_found : (sc : Scenario) (actors : Actors) (cursor : ℕ) (txn : TxnId) → first_armed sc actors cursor ≡ Some txn → IsTxn sc txn × (is_armed_at actors txn ≡ true)
armed_found sc actors cursor txn e = round_holds (IsTxn sc) (is_armed_at actors) (txns_of sc) cursor txn (txns_exist sc) e

-- ---- who is down

-- the actor may crash and boot, and is down
abbrev pub IsDownHere : Scenario → Actors → Actor → Type 0
IsDownHere sc actors who = IsCrasher sc who × (is_down actors who ≡ true)

coordinator_found : (sc : Scenario) (actors : Actors) (found : Option TxnId) (who : Actor) → coordinator_down sc actors ≡ found → option_map (λ (txn : TxnId). actor.Coordinator txn) found ≡ Some who → IsDownHere sc actors who
coordinator_found sc actors None who e f = absurd (cc)
coordinator_found sc actors (Some txn) who e f =
    subst (IsDownHere sc actors) (same_Some (actor.Coordinator txn) who f)
    (found_holds (IsTxn sc) (λ (t : TxnId). is_down actors (actor.Coordinator t)) (txns_of sc) txn (txns_exist sc) e)

anyone_found : (sc : Scenario) (actors : Actors) (found : Option ServerId) (who : Actor) → server_down sc actors ≡ found
    → option_or (option_map (λ (at : ServerId). actor.Server at) found) (option_map (λ (txn : TxnId). actor.Coordinator txn) (coordinator_down sc actors)) ≡ Some who → IsDownHere sc actors who
anyone_found sc actors None who e f = coordinator_found sc actors (coordinator_down sc actors) who refl f
anyone_found sc actors (Some at) who e f =
    subst (IsDownHere sc actors) (same_Some (actor.Server at) who f)
    (found_holds (IsServer sc) (λ (s : ServerId). is_down actors (actor.Server s)) (servers_of sc) at (servers_exist sc) e)

-- the actor that is chosen exists, and is down
pub down_found : (sc : Scenario) (actors : Actors) (who : Actor) → lowest_down sc actors ≡ Some who → IsDownHere sc actors who
down_found sc actors who e = anyone_found sc actors (server_down sc actors) who refl e

-- a coordinator that is down was submitted before
down_submitted : {S : Type 0} (begun : Option S → Bool) (up : Option S) (one other : StepError) → begun None ≡ true → is_none up ≡ true
    → option_or (if begun up then None else Some one) (if is_none up then None else Some other) ≡ None
down_submitted begun None one other b e = ap (λ (x : Bool). option_or (if x then None else Some one) None) b
down_submitted begun (Some s) one other b e = absurd (cc)

part_submitted : {S : Type 0} (begun : Option S → Bool) (found : Option (Part S)) (one other : StepError) → begun None ≡ true → option_map_or is_part_down found false ≡ true
    → option_or (if option_map_or (λ (part : Part S). begun part.up) found false then None else Some one) (if option_map_or is_part_down found false then None else Some other) ≡ None
part_submitted begun None one other b e = absurd (cc)
part_submitted begun (Some part) one other b e = down_submitted begun part.up one other b e

down_boots : (down : Bool) (why : StepError) → down ≡ true → (if down then None else Some why) ≡ None
down_boots true why e = refl
down_boots false why e = absurd (cc)

-- who is down may boot
pub boot_allowed : (w : State) (who : Actor) → is_down w.actors who ≡ true → refusal w (step.Boot who) ≡ None
boot_allowed w (actor.Server at) e = down_boots (is_down w.actors (actor.Server at)) (error.NotDown (actor.Server at)) e
boot_allowed w (actor.Coordinator txn) e = part_submitted is_part_submitted (slice_get w.actors.coordinators txn.0) (error.NotSubmitted txn) (error.NotDown (actor.Coordinator txn)) refl e
boot_allowed w actor.Master e = absurd (cc)
boot_allowed w actor.Authority e = absurd (cc)

pub down_exists : (sc : Scenario) (actors : Actors) (found : Option Actor) → found ≡ lowest_down sc actors → IfSome found (IsCrasher sc)
down_exists sc actors None e = tt
down_exists sc actors (Some who) e = (down_found sc actors who (sym e)).0

pub down_allowed : (sc : Scenario) (w : State) (found : Option Actor) → found ≡ lowest_down sc w.actors → IfSome found (λ (who : Actor). refusal w (step.Boot who) ≡ None)
down_allowed sc w None e = tt
down_allowed sc w (Some who) e = boot_allowed w who (down_found sc w.actors who (sym e)).1

-- ---- a world is quiet wherever the cursor stands

by_first : {A : Type 0} (b : Bool) (x : A) (later earlier whole : Option A) → is_none (option_or later earlier) ≡ is_none whole → is_none (option_or later (cond b (Some x) earlier)) ≡ is_none (cond b (Some x) whole)
by_first true x None earlier whole h = refl
by_first true x (Some found) earlier whole h = refl
by_first false x later earlier whole h = h

or_nothing : {A : Type 0} (found : Option A) → is_none (option_or found None) ≡ is_none found
or_nothing None = refl
or_nothing (Some found) = refl

-- to look at all from a place on, going round, finds one where one is there
going_round : {A : Type 0} (test : A → Bool) (from : ℕ) (xs : List A) → is_none (option_or (find test (drop from xs)) (find test (take from xs))) ≡ is_none (find test xs)
going_round test zero xs = or_nothing (find test xs)
going_round test (suc from) [] = refl
going_round test (suc from) (x ∷ xs) = by_first (test x) x (find test (drop from xs)) (find test (take from xs)) (find test xs) (going_round test from xs)

mapped_none : {A B : Type 0} (f : A → B) (found : Option A) → is_none (option_map f found) ≡ is_none found
mapped_none f None = refl
mapped_none f (Some found) = refl

timer_anywhere : (sc : Scenario) (actors : Actors) (one other : ℕ) → is_none (option_map (λ (txn : TxnId). step.Timer txn) (first_armed sc actors one)) ≡ is_none (option_map (λ (txn : TxnId). step.Timer txn) (first_armed sc actors other))
timer_anywhere sc actors one other =
    mapped_none (λ (txn : TxnId). step.Timer txn) (first_armed sc actors one)
    ∙ (going_round (is_armed_at actors) one (txns_of sc)
    ∙ sym (mapped_none (λ (txn : TxnId). step.Timer txn) (first_armed sc actors other) ∙ going_round (is_armed_at actors) other (txns_of sc)))

next_anywhere : (sc : Scenario) (actors : Actors) (one other : ℕ) (oldest : Option ℕ) (submitted : Option TxnId) → lowest_unsubmitted sc actors ≡ submitted
    → is_none (next_by sc actors one oldest) ≡ is_none (next_by sc actors other oldest)
next_anywhere sc actors one other (Some mail) submitted e = refl
next_anywhere sc actors one other None submitted e =
    subst (λ (found : Option TxnId). is_none (option_or (option_map (λ (txn : TxnId). step.Submit txn) found) (option_map (λ (txn : TxnId). step.Timer txn) (first_armed sc actors one)))
    ≡ is_none (option_or (option_map (λ (txn : TxnId). step.Submit txn) found) (option_map (λ (txn : TxnId). step.Timer txn) (first_armed sc actors other)))) (sym e) (by_found submitted)
  where
    by_found : (found : Option TxnId) → is_none (option_or (option_map (λ (txn : TxnId). step.Submit txn) found) (option_map (λ (txn : TxnId). step.Timer txn) (first_armed sc actors one)))
        ≡ is_none (option_or (option_map (λ (txn : TxnId). step.Submit txn) found) (option_map (λ (txn : TxnId). step.Timer txn) (first_armed sc actors other)))
    by_found None = timer_anywhere sc actors one other
    by_found (Some txn) = refl

after_first : {A : Type 0} (first one other : Option A) → is_none one ≡ is_none other → is_none (option_or first one) ≡ is_none (option_or first other)
after_first None one other h = h
after_first (Some x) one other h = refl

-- whether there is a next step does not depend on the cursor
pub quiet_anywhere : (sc : Scenario) (m : Machine) (cursor : ℕ) (next : Option Step) → next ≡ next_of sc m cursor → is_quiet sc m ≡ is_none next
quiet_anywhere sc m cursor next e =
    let oldest : Option ℕ = slice_get m.undelivered 0 in
    after_first (option_map (λ (who : Actor). step.Boot who) (lowest_down sc m.state.actors)) (next_by sc m.state.actors 0 oldest) (next_by sc m.state.actors cursor oldest)
    (next_anywhere sc m.state.actors 0 cursor oldest (lowest_unsubmitted sc m.state.actors) refl)
    ∙ ap (λ (o : Option Step). is_none o) (sym e)

-- ---- a timer of an armed transaction is not refused

-- so its timer is done
pub chosen_exists : (sc : Scenario) (actors : Actors) (cursor : ℕ) (found : Option TxnId) → found ≡ first_armed sc actors cursor → IfSome found (IsTxn sc)
chosen_exists sc actors cursor None e = tt
chosen_exists sc actors cursor (Some txn) e = (armed_found sc actors cursor txn (sym e)).0

pub chosen_allowed : (sc : Scenario) (w : State) (cursor : ℕ) (found : Option TxnId) → found ≡ first_armed sc w.actors cursor → IfSome found (λ (txn : TxnId). refusal w (step.Timer txn) ≡ None)
chosen_allowed sc w cursor None e = tt
chosen_allowed sc w cursor (Some txn) e = timer_allowed w txn (armed_found sc w.actors cursor txn (sym e)).1

-- ---- where a world is quiet each transaction is finished

none_found : (test : TxnId → Bool) (txns : List TxnId) → find test txns ≡ None → Each (λ (txn : TxnId). test txn ≡ false) txns
none_found test [] e = tt
none_found test (txn ∷ txns) e = by_test (test txn) refl (none_found test txns) e
  where
    by_test : (found : Bool) → test txn ≡ found → (find test txns ≡ None → Each (λ (t : TxnId). test t ≡ false) txns) → cond found (Some txn) (find test txns) ≡ None
        → Each (λ (t : TxnId). test t ≡ false) (txn ∷ txns)
    by_test true t later f = absurd (cc)
    by_test false t later f = (t, later f)

-- what holds of each number of a range, under their names
each_named : (P : TxnId → Type 0) (low count k : ℕ) → Each P (map (λ (n : ℕ). record { 0 = n }) (range_with_len low count)) → k < count → P (record { 0 = low + k })
each_named P low zero k h within = absurd (omega (arith, within))
each_named P low (suc count) zero h within = let here : low ≡ low + 0 = omega arith in subst (λ (n : ℕ). P (record { 0 = n })) here h.0
each_named P low (suc count) (suc k) h within =
    let next : low + 1 + k ≡ low + suc k = omega arith in
    subst (λ (n : ℕ). P (record { 0 = n })) next (each_named P (low + 1) count k h.1 (omega (arith, within)))

-- none is found, so the test fails of each transaction
none_passes : (sc : Scenario) (test : TxnId → Bool) (txn : TxnId) → find test (txns_of sc) ≡ None → IsTxn sc txn → test txn ≡ false
none_passes sc test txn e exists =
    let own : 0 + txn.0 ≡ txn.0 = omega arith in
    subst (λ (n : ℕ). test (record { 0 = n }) ≡ false) own (each_named (λ (t : TxnId). test t ≡ false) 0 (length sc.txns) txn.0 (none_found test (txns_of sc) e) exists)

-- neither is submitted or fired by itself
record NoneNext (sc : Scenario) (actors : Actors) : Type 0 where
  pub submitted : lowest_unsubmitted sc actors ≡ None
  pub fired : find (is_armed_at actors) (txns_of sc) ≡ None

none_next : (sc : Scenario) (actors : Actors) (oldest : Option ℕ) → is_none (next_by sc actors 0 oldest) ≡ true → NoneNext sc actors
none_next sc actors (Some mail) e = absurd (cc)
none_next sc actors None e = by_found (lowest_unsubmitted sc actors) refl e
  where
    unfired : (later earlier : Option TxnId) → is_none (option_map (λ (txn : TxnId). step.Timer txn) (option_or later earlier)) ≡ true → later ≡ None
    unfired None earlier f = refl
    unfired (Some txn) earlier f = absurd (cc)

    by_found : (found : Option TxnId) → lowest_unsubmitted sc actors ≡ found
        → is_none (option_or (option_map (λ (txn : TxnId). step.Submit txn) found) (option_map (λ (txn : TxnId). step.Timer txn) (first_armed sc actors 0))) ≡ true → NoneNext sc actors
    by_found None f g = record { submitted = f; fired = unfired (find (is_armed_at actors) (drop 0 (txns_of sc))) (find (is_armed_at actors) (take 0 (txns_of sc))) g }
    by_found (Some txn) f g = absurd (cc)

-- nobody is down, and the other rules give nothing
unbooted : (down : Option Actor) (later : Option Step) → is_none (option_or (option_map (λ (who : Actor). step.Boot who) down) later) ≡ true → (down ≡ None) × (is_none later ≡ true)
unbooted None later e = (refl, e)
unbooted (Some who) later e = absurd (cc)

all_up : (server : Option ServerId) (coordinator : Option TxnId) → option_or (option_map (λ (at : ServerId). actor.Server at) server) (option_map (λ (txn : TxnId). actor.Coordinator txn) coordinator) ≡ None → coordinator ≡ None
all_up None None e = refl
all_up None (Some txn) e = absurd (cc)
all_up (Some at) coordinator e = absurd (cc)

all_so : (submitted down armed : Bool) → not submitted ≡ false → down ≡ false → armed ≡ false → (submitted && not down && not armed) ≡ true
all_so true false false e f g = refl
all_so false down armed e f g = absurd (cc)
all_so true true armed e f g = absurd (cc)
all_so true false true e f g = absurd (cc)

pub quiet_finished : (sc : Scenario) (m : Machine) → is_quiet sc m ≡ true → AreFinished sc m.state
quiet_finished sc m quiet txn exists =
    let rules = unbooted (lowest_down sc m.state.actors) (next_by sc m.state.actors 0 (slice_get m.undelivered 0)) quiet in
    let none = none_next sc m.state.actors (slice_get m.undelivered 0) rules.1 in
    all_so (is_submitted m.state.actors txn) (is_down m.state.actors (actor.Coordinator txn)) (is_armed_at m.state.actors txn)
    (none_passes sc (λ (t : TxnId). not (is_submitted m.state.actors t)) txn none.submitted exists)
    (none_passes sc (λ (t : TxnId). is_down m.state.actors (actor.Coordinator t)) txn (all_up (server_down sc m.state.actors) (coordinator_down sc m.state.actors) rules.0) exists)
    (none_passes sc (is_armed_at m.state.actors) txn none.fired exists)
