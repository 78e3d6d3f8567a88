-- The potential of a machine in the automatic phase: what its undelivered mails and its servers weigh, and for each
-- request that coordinators may still make, and each timer that may still fire, one more than the mails of a request
-- weigh. It falls at every automatic step.
use Rattle.std.proofs.Common.{◌≡◌, ⊎_elim, ℕ, ◌+◌, ◌-◌, ◌*◌, ◌<◌, ◌≤◌, ◌==◌, ◌++◌, max, fold, List, [], ◌∷◌, length, filter, not, slice_get, Bool, true, false, cond, Option, zero, suc, refl, sym, ap, subst, arith}
use Rattle.std.specs.List.{range_with_len}
use Rattle.std.specs.Option.{option_map_or}
use Rattle.std.proofs.lemmas.Nat.{mul-le}
use Rattle.tp_types.proofs.EachLemmas.{each_filter}
use Rattle.tp_types.proofs.ListLemmas.{number_itself}
use Rattle.tp_types.specs.Each.{Each}
use Rattle.tp_model.specs.Words.{Actor, Mail, Scenario, Transaction, TxnId}
use Rattle.tp_model.specs.Words.step
use Rattle.tp_machine.specs.Machine.{Machine, State, boots, delivery, machine_after, mails_of, submission, times, with_new, without_number}
use Rattle.tp_runs.proofs.basics.Turns.{query_count}
use Rattle.tp_runs.proofs.weights.Weights.{weight_at, weight_of, weights_at}
use Rattle.tp_runs.proofs.weights.World.{Eases, Fewer, Less, news_weigh, requests_in, servers_weigh}
use Rattle.tp_auto.specs.Auto.{most_queries}

-- ---- the potential

-- what is undelivered, and what servers weigh
abbrev pub weight_in : Scenario → Machine → ℕ
weight_in sc m = weights_at m.state.mails m.undelivered + servers_weigh sc m.state

-- how many requests and timers there may be still
abbrev pub turns_left : Scenario → Machine → ℕ → ℕ
turns_left sc m cursor = requests_in (most_queries sc.txns) m.state + (length sc.txns - cursor)

-- one more than the mails of a request weigh
abbrev pub turn_weight : Scenario → ℕ
turn_weight sc = 2 * length sc.servers + 1

abbrev pub potential : Scenario → Machine → ℕ → ℕ
potential sc m cursor = weight_in sc m + turn_weight sc * turns_left sc m cursor

-- ---- the most queries

fold_most : (txns : List Transaction) (most : ℕ) → most ≤ fold (λ (most : ℕ) (txn : Transaction). max most (length txn.queries)) most txns
fold_most [] most = omega arith
fold_most (txn ∷ txns) most = omega (arith, fold_most txns (max most (length txn.queries)))

one_of_most : (txns : List Transaction) (most n : ℕ) → option_map_or (λ (declared : Transaction). length declared.queries) (slice_get txns n) 0 ≤ fold (λ (most : ℕ) (txn : Transaction). max most (length txn.queries)) most txns
one_of_most [] most n = omega arith
one_of_most (txn ∷ txns) most zero = omega (arith, fold_most txns (max most (length txn.queries)))
one_of_most (txn ∷ txns) most (suc n) = one_of_most txns (max most (length txn.queries)) n

-- no transaction has more queries than the most
pub count_most : (sc : Scenario) (txn : TxnId) → query_count sc txn ≤ most_queries sc.txns
count_most sc txn = one_of_most sc.txns 0 txn.0

-- ---- mails that were sent

-- each undelivered mail was sent
abbrev pub AreSent : Machine → Type 0
AreSent m = Each (λ (number : ℕ). number < length m.state.mails) m.undelivered

-- mails are only added
abbrev IsLonger : State → State → Type 0
IsLonger w next = (n : ℕ) → n < length w.mails → slice_get next.mails n ≡ slice_get w.mails n

got_within : {A : Type 0} (xs ys : List A) (n : ℕ) → n < length xs → slice_get (xs ++ ys) n ≡ slice_get xs n
got_within [] ys n within = absurd (omega (arith, within))
got_within (x ∷ xs) ys zero within = refl
got_within (x ∷ xs) ys (suc n) within = got_within xs ys n (omega (arith, within))

old_weights : (w next : State) (numbers : List ℕ) → IsLonger w next → Each (λ (n : ℕ). n < length w.mails) numbers → weights_at next.mails numbers ≡ weights_at w.mails numbers
old_weights w next [] longer sent = refl
old_weights w next (n ∷ numbers) longer sent =
    let here : weight_at next.mails n ≡ weight_at w.mails n = ap (λ (found : Option Mail). option_map_or (λ (mail : Mail). weight_of mail.letter.body) found 0) (longer n sent.0) in
    let later = old_weights w next numbers longer sent.1 in
    omega (arith, here, later)

weights_append : (mails : List Mail) (xs ys : List ℕ) → weights_at mails (xs ++ ys) ≡ weights_at mails xs + weights_at mails ys
weights_append mails [] ys = omega arith
weights_append mails (n ∷ xs) ys = let later = weights_append mails xs ys in omega (arith, later)

weights_less : (mails : List Mail) (test : ℕ → Bool) (numbers : List ℕ) → weights_at mails (filter test numbers) ≤ weights_at mails numbers
weights_less mails test [] = omega arith
weights_less mails test (n ∷ numbers) = by_test (test n) (weights_less mails test numbers)
  where
    by_test : (b : Bool) → weights_at mails (filter test numbers) ≤ weights_at mails numbers → weights_at mails (cond b (n ∷ filter test numbers) (filter test numbers)) ≤ weights_at mails (n ∷ numbers)
    by_test true later = omega (arith, later)
    by_test false later = omega (arith, later)

-- without the oldest its weight is gone
weights_without : (mails : List Mail) (first : ℕ) (numbers : List ℕ) → weights_at mails (without_number (first ∷ numbers) first) + weight_at mails first ≤ weights_at mails (first ∷ numbers)
weights_without mails first numbers = by_same (first == first) (number_itself first)
  where
    by_same : (b : Bool) → b ≡ true → weights_at mails (cond (not b) (first ∷ without_number numbers first) (without_number numbers first)) + weight_at mails first ≤ weights_at mails (first ∷ numbers)
    by_same true e = omega (arith, weights_less mails (λ (other : ℕ). not (other == first)) numbers)
    by_same false e = absurd (cc)

-- after a step
weight_after : (sc : Scenario) (w next : State) (left : List ℕ) → IsLonger w next → Each (λ (n : ℕ). n < length w.mails) left
    → weight_in sc (with_new w next left) ≡ weights_at w.mails left + news_weigh w next + servers_weigh sc next
weight_after sc w next left longer sent =
    let both = weights_append next.mails left (range_with_len (length w.mails) (length next.mails - length w.mails)) in
    let old = old_weights w next left longer sent in
    omega (arith, both, old)

-- ---- a turn less

fewer_turns : (sc : Scenario) (now before : ℕ) → now + 1 ≤ before → turn_weight sc * now + turn_weight sc ≤ turn_weight sc * before
fewer_turns sc now before less =
    let product = mul-le (turn_weight sc) (now + 1) (turn_weight sc) before (omega arith) less in
    omega (arith, product)

as_many_turns : (sc : Scenario) (now before : ℕ) → now ≤ before → turn_weight sc * now ≤ turn_weight sc * before
as_many_turns sc now before less = mul-le (turn_weight sc) now (turn_weight sc) before (omega arith) less

-- ---- it falls

-- at a delivery of the oldest mail
pub delivery_falls : (sc : Scenario) (m : Machine) (first : ℕ) (numbers : List ℕ) (cursor : ℕ) → m.undelivered ≡ first ∷ numbers → AreSent m → 1 ≤ weight_at m.state.mails first
    → Eases sc (most_queries sc.txns) m.state (step.Deliver first) (machine_after sc m (step.Deliver first)).state → potential sc (machine_after sc m (step.Deliver first)) cursor + 1 ≤ potential sc m cursor
delivery_falls sc m first numbers cursor e sent some eases =
    let next = (machine_after sc m (step.Deliver first)).state in
    let left = without_number m.undelivered first in
    let longer : IsLonger m.state next = λ n within. got_within m.state.mails (mails_of (length m.state.steps) (length m.state.mails) (delivery sc m.state.actors (slice_get m.state.mails first)).letters) n within in
    let after = weight_after sc m.state next left longer (each_filter (λ (n : ℕ). n < length m.state.mails) (λ (other : ℕ). not (other == first)) m.undelivered sent) in
    let without : weights_at m.state.mails left + weight_at m.state.mails first ≤ weights_at m.state.mails m.undelivered =
    subst (λ (all : List ℕ). weights_at m.state.mails (without_number all first) + weight_at m.state.mails first ≤ weights_at m.state.mails all) (sym e) (weights_without m.state.mails first numbers) in
    ⊎_elim
    (λ (less : Less sc (most_queries sc.txns) (weight_at m.state.mails first) m.state next).
    omega (arith, after, without, less.lighter, as_many_turns sc (turns_left sc (machine_after sc m (step.Deliver first)) cursor) (turns_left sc m cursor) (omega (arith, less.no_more))))
    (λ (fewer : Fewer sc (most_queries sc.txns) (weight_at m.state.mails first) m.state next).
    omega (arith, after, without, fewer.few, fewer_turns sc (turns_left sc (machine_after sc m (step.Deliver first)) cursor) (turns_left sc m cursor) (omega (arith, fewer.fewer))))
    (eases some)

-- at a submission
pub submission_falls : (sc : Scenario) (m : Machine) (txn : TxnId) (cursor : ℕ) → AreSent m → Eases sc (most_queries sc.txns) m.state (step.Submit txn) (machine_after sc m (step.Submit txn)).state
    → potential sc (machine_after sc m (step.Submit txn)) cursor + 1 ≤ potential sc m cursor
submission_falls sc m txn cursor sent eases =
    let next = (machine_after sc m (step.Submit txn)).state in
    let longer : IsLonger m.state next = λ n within. got_within m.state.mails (mails_of (length m.state.steps) (length m.state.mails) (submission sc m.state.actors txn (length m.state.steps)).letters) n within in
    let after = weight_after sc m.state next m.undelivered longer sent in
    omega (arith, after, eases.few, fewer_turns sc (turns_left sc (machine_after sc m (step.Submit txn)) cursor) (turns_left sc m cursor) (omega (arith, eases.fewer)))

-- at a boot
pub server_boot_falls : (sc : Scenario) (m : Machine) (who : Actor) (cursor : ℕ) → AreSent m → Less sc (most_queries sc.txns) 0 m.state (machine_after sc m (step.Boot who)).state
    → potential sc (machine_after sc m (step.Boot who)) cursor + 1 ≤ potential sc m cursor
server_boot_falls sc m who cursor sent less =
    let next = (machine_after sc m (step.Boot who)).state in
    let longer : IsLonger m.state next = λ n within. got_within m.state.mails (mails_of (length m.state.steps) (length m.state.mails) (boots sc m.state.actors who).letters) n within in
    let after = weight_after sc m.state next m.undelivered longer sent in
    omega (arith, after, less.lighter, as_many_turns sc (turns_left sc (machine_after sc m (step.Boot who)) cursor) (turns_left sc m cursor) (omega (arith, less.no_more)))

pub coordinator_boot_falls : (sc : Scenario) (m : Machine) (who : Actor) (cursor : ℕ) → AreSent m → Fewer sc (most_queries sc.txns) 0 m.state (machine_after sc m (step.Boot who)).state
    → potential sc (machine_after sc m (step.Boot who)) cursor + 1 ≤ potential sc m cursor
coordinator_boot_falls sc m who cursor sent fewer =
    let next = (machine_after sc m (step.Boot who)).state in
    let longer : IsLonger m.state next = λ n within. got_within m.state.mails (mails_of (length m.state.steps) (length m.state.mails) (boots sc m.state.actors who).letters) n within in
    let after = weight_after sc m.state next m.undelivered longer sent in
    omega (arith, after, fewer.few, fewer_turns sc (turns_left sc (machine_after sc m (step.Boot who)) cursor) (turns_left sc m cursor) (omega (arith, fewer.fewer)))

-- at a timer that is not before the cursor
pub timer_falls : (sc : Scenario) (m : Machine) (txn : TxnId) (cursor : ℕ) → AreSent m → cursor ≤ txn.0 → txn.0 < length sc.txns → Eases sc (most_queries sc.txns) m.state (step.Timer txn) (machine_after sc m (step.Timer txn)).state
    → potential sc (machine_after sc m (step.Timer txn)) (txn.0 + 1) + 1 ≤ potential sc m cursor
timer_falls sc m txn cursor sent behind within eases =
    let next = (machine_after sc m (step.Timer txn)).state in
    let longer : IsLonger m.state next = λ n below. got_within m.state.mails (mails_of (length m.state.steps) (length m.state.mails) (times sc m.state.actors txn).letters) n below in
    let after = weight_after sc m.state next m.undelivered longer sent in
    omega (arith, after, eases.few, fewer_turns sc (turns_left sc (machine_after sc m (step.Timer txn)) (txn.0 + 1)) (turns_left sc m cursor) (omega (arith, eases.no_more, behind, within)))
