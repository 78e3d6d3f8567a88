-- Agreement of the facts: where the invariant holds, every fact keeps agreement.
use Rattle.std.specs.List.{count_by, list_any}
use Rattle.std.proofs.Common.{Bool, List, None, Option, Some, [], add-zero, ap, arith, cond, false, length, not, option_and_then, option_map, refl, slice_get, subst, suc, sym, take, true, zero, zero-add, ℕ, ◌&&◌, ◌+◌, ◌||◌, ◌∙◌, ◌∷◌, ◌≡◌, ◌≤◌}
use Rattle.std.proofs.lemmas.List.Sums.{sum_by-cons}
use Rattle.std.proofs.lemmas.Option.{same_Some}
use Rattle.std.proofs.lemmas.Map.Keys.{any_passes_from_place}
use Rattle.std.proofs.lemmas.Bool.{and_from}
use Rattle.tp_runs.proofs.agreement.CoordinatorActs.{up_most}
use Rattle.tp_types.proofs.ListLemmas.{number_itself, three_from}
use Rattle.tp_model.specs.Words.{Decision, Fact, Outcome, Scenario, ServerId, Settled, TxnId, What}
use Rattle.tp_model.specs.Words.outcome
use Rattle.tp_model.specs.Words.what
use Rattle.tp_model.specs.Agreement.{agree_from, follows_decision, is_agreed, keeps_agreement, keeps_agreement_what}
use Rattle.tp_model.specs.Facts.{before, is_decided_as, is_decision, is_settled_as, is_settlement, is_submission, outcome_of, same_outcome}
use Rattle.tp_model.specs.Ids.{same_server, same_txn}
use Rattle.tp_machine.specs.Logs.{decided_at, settled_at, settled_by}
use Rattle.tp_machine.specs.Machine.{State}
use Rattle.tp_coord.specs.State.{Coordinator}
use Rattle.tp_machine.specs.Parts.{Part}
use Rattle.tp_server.specs.State.{Server}
use Rattle.tp_runs.proofs.agreement.Logs.{DecidedAs, outcome_settled, settled_outcome, submitted_count}
use Rattle.tp_runs.proofs.agreement.World.{Agrees, FactFollows, Follows, SettledRests, WhatFollows}
use Rattle.tp_runs.proofs.basics.Facts.{any_decided, any_settled, count_decisions, count_settlements, count_submissions, decisions, outcome_itself, said, settlements}
use Rattle.tp_runs.proofs.basics.Logs.{listed}
use Rattle.tp_types.proofs.EachLemmas.{each_get}

-- ---- members

counted_first : (b : Bool) (rest : ℕ) → b ≡ true → 1 ≤ cond b 1 0 + rest
counted_first true rest e = omega arith
counted_first false rest e = absurd (cc)

-- a member that passes is counted
pub member_counted : {A : Type 0} (test : A → Bool) (xs : List A) (n : ℕ) (x : A) → slice_get xs n ≡ Some x → test x ≡ true → 1 ≤ count_by test xs
member_counted test [] n x e p = absurd (cc)
member_counted test (y ∷ xs) zero x e p =
    let here : test y ≡ true = ap test (same_Some y x e) ∙ p in
    let whole : count_by test (y ∷ xs) ≡ cond (test y) 1 0 + count_by test xs = sum_by-cons (λ z. cond (test z) 1 0) y xs in
    let one : 1 ≤ cond (test y) 1 0 + count_by test xs = counted_first (test y) (count_by test xs) here in
    omega (arith, whole, one)
member_counted test (y ∷ xs) (suc n) x e p =
    let later : 1 ≤ count_by test xs = member_counted test xs n x e p in
    let whole : count_by test (y ∷ xs) ≡ cond (test y) 1 0 + count_by test xs = sum_by-cons (λ z. cond (test z) 1 0) y xs in
    omega (arith, whole, later)

-- ---- at most one

submitted_at_most : (found : Option (Part Coordinator)) → submitted_count found ≤ 1
submitted_at_most None = omega arith
submitted_at_most (Some part) = up_most part.up

listed_at_most : {A : Type 0} (found : Option A) → length (listed found) ≤ 1
listed_at_most None = omega arith
listed_at_most (Some x) = omega arith

ahead_of : (b rest : Bool) (others : ℕ) → cond b 1 0 + others ≤ 1 → 1 ≤ others → rest ≡ false → (b || rest) ≡ false
ahead_of true rest others most least e = absurd (omega (arith, most, least))
ahead_of false rest others most least e = e

none_ahead : (test : Fact → Bool) (facts : List Fact) (n : ℕ) (fact : Fact) → slice_get facts n ≡ Some fact → test fact ≡ true → count_by test facts ≤ 1 → list_any test (take n facts) ≡ false
none_ahead test [] n fact e p most = absurd (cc)
none_ahead test (y ∷ facts) zero fact e p most = refl
none_ahead test (y ∷ facts) (suc n) fact e p most =
    let whole : count_by test (y ∷ facts) ≡ cond (test y) 1 0 + count_by test facts = sum_by-cons (λ z. cond (test z) 1 0) y facts in
    ahead_of (test y) (list_any test (take n facts)) (count_by test facts) (omega (arith, whole, most)) (member_counted test facts n fact e p)
    (none_ahead test facts n fact e p (omega (arith, whole, most)))

-- of facts of a kind of which there is at most one, none stands before another
first_one : (test : Fact → Bool) (facts : List Fact) (n : ℕ) (fact : Fact) → slice_get facts n ≡ Some fact → test fact ≡ true → count_by test facts ≤ 1 → not (list_any test (take n facts)) ≡ true
first_one test facts n fact e p most = ap not (none_ahead test facts n fact e p most)

-- ---- settlements

outcome_is : (one other : Outcome) → same_outcome one other ≡ true → one ≡ other
outcome_is outcome.Commit outcome.Commit e = refl
outcome_is outcome.Abort outcome.Abort e = refl
outcome_is outcome.Commit outcome.Abort e = absurd (cc)
outcome_is outcome.Abort outcome.Commit e = absurd (cc)

one_passes : (b : Bool) → (b || false) ≡ true → b ≡ true
one_passes b e = grind arith

pub listed_passes : (found : Option Outcome) (ended : Outcome) → list_any (λ (o : Outcome). same_outcome o ended) (listed found) ≡ true → found ≡ Some ended
listed_passes None ended e = absurd (cc)
listed_passes (Some o) ended e = ap Some (outcome_is o ended (one_passes (same_outcome o ended) e))

outcome_found : (found : Option Settled) (ended : Outcome) → option_map outcome_settled found ≡ Some ended → (s : Settled) × (found ≡ Some s) × (s.outcome ≡ ended)
outcome_found None ended e = absurd (cc)
outcome_found (Some s) ended e = (s, refl, same_Some s.outcome ended e)

pub settled_part : (sc : Scenario) (w : State) (at : ServerId) (txn : TxnId) (s : Settled) (found : Option (Part Server)) → Agrees sc w → slice_get w.actors.servers at.0 ≡ found
    → option_and_then (settled_by txn) found ≡ Some s → SettledRests sc w.actors.coordinators at txn s
settled_part sc w at txn s None h e f = absurd (cc)
settled_part sc w at txn s (Some part) h e f = (h.servers at.0 part e).settled txn s f

-- what a server has settled as an abort was not decided as a commit
pub settled_uncommitted : (sc : Scenario) (w : State) (at : ServerId) (txn : TxnId) → Agrees sc w → list_any (is_settled_as at txn outcome.Abort) w.facts ≡ true → DecidedAs w.actors.coordinators txn outcome.Commit → ⊥
settled_uncommitted sc w at txn h e d =
    let listed_so : settled_outcome w.actors.servers at txn ≡ Some outcome.Abort =
    listed_passes (settled_outcome w.actors.servers at txn) outcome.Abort
    (sym (any_settled at txn outcome.Abort w.facts ∙ ap (list_any (λ (o : Outcome). same_outcome o outcome.Abort)) (h.settled at txn)) ∙ e) in
    let s = outcome_found (settled_at w.actors.servers at.0 txn) outcome.Abort listed_so in
    (settled_part sc w at txn s.0 (slice_get w.actors.servers at.0) h refl s.1).abort s.2 d

other_outcome : (o : Outcome) → (Some o ≡ Some outcome.Commit → ⊥) → (same_outcome o outcome.Commit || false) ≡ false
other_outcome outcome.Commit n = absurd (n refl)
other_outcome outcome.Abort n = refl

not_commit_in_agreement : (found : Option Decision) → (option_map outcome_of found ≡ Some outcome.Commit → ⊥) → list_any (λ (d : Decision). same_outcome (outcome_of d) outcome.Commit) (listed found) ≡ false
not_commit_in_agreement None n = refl
not_commit_in_agreement (Some d) n = other_outcome (outcome_of d) n

-- no commit of a transaction that was not decided as one stands among the facts
no_commit : (sc : Scenario) (w : State) (txn : TxnId) → Agrees sc w → (DecidedAs w.actors.coordinators txn outcome.Commit → ⊥) → list_any (is_decided_as txn outcome.Commit) w.facts ≡ false
no_commit sc w txn h n =
    any_decided txn outcome.Commit w.facts
    ∙ (ap (list_any (λ (e : Decision). same_outcome (outcome_of e) outcome.Commit)) (h.decided txn) ∙ not_commit_in_agreement (decided_at w.actors.coordinators txn.0) n)

follows_from : (sc : Scenario) (w : State) (place : ℕ) (at : ServerId) (txn : TxnId) (ended : Outcome) → Agrees sc w → list_any (is_settled_as at txn ended) w.facts ≡ true
    → Follows (before place w.facts) txn ended → follows_decision txn place w.facts ended ≡ true
follows_from sc w place at txn outcome.Commit h e f = f
follows_from sc w place at txn outcome.Abort h e f = ap not (no_commit sc w txn h (λ d. settled_uncommitted sc w at txn h e d))

-- ---- every fact

settled_itself : (at : ServerId) (txn : TxnId) → (same_server at at && same_txn txn txn) ≡ true
settled_itself at txn = and_from (same_server at at) (same_txn txn txn) (number_itself at.0) (number_itself txn.0)

settled_so : (at : ServerId) (txn : TxnId) (ended : Outcome) → (same_server at at && same_txn txn txn && same_outcome ended ended) ≡ true
settled_so at txn ended = three_from (same_server at at) (same_txn txn txn) (same_outcome ended ended) (number_itself at.0) (number_itself txn.0) (outcome_itself ended)

what_keeps : (sc : Scenario) (w : State) (n place : ℕ) (w_is : What) → Agrees sc w → slice_get w.facts n ≡ Some (record { place = place; what = w_is }) → WhatFollows sc (before place w.facts) w_is
    → keeps_agreement_what sc w.facts (take n w.facts) place w_is ≡ true
what_keeps sc w n place (what.Submitted txn) h e f =
    first_one (is_submission txn) w.facts n (record { place = place; what = what.Submitted txn }) e (number_itself txn.0)
    (let most = submitted_at_most (slice_get w.actors.coordinators txn.0) in omega (arith, count_submissions txn w.facts, h.submitted txn, most))
what_keeps sc w n place (what.Decided txn decided) h e f =
    and_from _ _
    (first_one (is_decision txn) w.facts n (record { place = place; what = what.Decided txn decided }) e (number_itself txn.0)
    (let most = listed_at_most (decided_at w.actors.coordinators txn.0) in
    let same : length (decisions txn (said w.facts)) ≡ length (listed (decided_at w.actors.coordinators txn.0)) = ap length (h.decided txn) in
    omega (arith, count_decisions txn w.facts, same, most)))
    f
what_keeps sc w n place (what.Settled at txn ended) h e f =
    three_from _ _ _
    (first_one (is_settlement at txn) w.facts n (record { place = place; what = what.Settled at txn ended }) e (settled_itself at txn)
    (let most = listed_at_most (settled_outcome w.actors.servers at txn) in
    let same : length (settlements at txn (said w.facts)) ≡ length (listed (settled_outcome w.actors.servers at txn)) = ap length (h.settled at txn) in
    omega (arith, count_settlements at txn w.facts, same, most)))
    (and_from _ _ f.submitted f.item)
    (follows_from sc w place at txn ended h
    (any_passes_from_place (is_settled_as at txn ended) w.facts n (record { place = place; what = what.Settled at txn ended }) e (settled_so at txn ended)) f.follows)
what_keeps sc w n place _ h e f = refl

-- facts of which each keeps agreement agree
agree_each : (sc : Scenario) (facts : List Fact) (number : ℕ) (later : List Fact)
    → ((n : ℕ) (fact : Fact) → slice_get later n ≡ Some fact → keeps_agreement sc facts (take (number + n) facts) fact ≡ true) → agree_from sc facts number later ≡ true
agree_each sc facts number [] h = refl
agree_each sc facts number (fact ∷ later) h =
    and_from _ _ (subst (λ (k : ℕ). keeps_agreement sc facts (take k facts) fact ≡ true) (add-zero number) (h 0 fact refl))
    (agree_each sc facts (number + 1) later
    (λ n other e. let k : number + suc n ≡ number + 1 + n = omega arith in subst (λ (m : ℕ). keeps_agreement sc facts (take m facts) other ≡ true) k (h (suc n) other e)))

-- the facts of a world that agrees agree
pub facts_agreed : (sc : Scenario) (w : State) → Agrees sc w → is_agreed sc w.facts ≡ true
facts_agreed sc w h =
    agree_each sc w.facts 0 w.facts
    (λ n fact e. subst (λ (k : ℕ). keeps_agreement sc w.facts (take k w.facts) fact ≡ true) (sym (zero-add n))
    (what_keeps sc w n fact.place fact.what h e (each_get (FactFollows sc w.facts) w.facts n fact h.facts e)))
