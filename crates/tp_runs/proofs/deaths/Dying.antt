-- Why a transaction is to die: an older one, which was not settled at the server when this one was submitted, has a lock in conflict with its query.
use Rattle.std.specs.List.{find, list_any}
use Rattle.std.specs.Option.{option_map_or}
use Rattle.std.proofs.Common.{Bool, List, None, Option, Some, [], ap, arith, false, filter, nat_lt, not, option_and_then, option_map, refl, slice_get, subst, suc, sym, true, zero, ℕ, ⊎_elim, ◌&&◌, ◌<◌, ◌==◌, ◌||◌, ◌∙◌, ◌∷◌, ◌≡◌}
use Rattle.std.proofs.lemmas.Bool.{and_from, and_parts, eqb-true, lt-ltb, ltb-true, or_cases, or_left}
use Rattle.std.proofs.lemmas.Map.Keys.{any_passes_from_place}
use Rattle.tp_types.proofs.ListLemmas.{number_itself}
use Rattle.tp_model.specs.Words.{Action, Fact, Item, Outcome, Query, Scenario, ServerId, Step, Transaction, TxnId}
use Rattle.tp_model.specs.Words.query
use Rattle.tp_model.specs.Words.step
use Rattle.tp_lock.specs.Rule.{conflicts, is_elder, is_of_other, is_older, is_write}
use Rattle.tp_lock.specs.declared.entry.LockEntry.{LockEntry}
use Rattle.tp_model.specs.Authorisation.{action_of}
use Rattle.tp_model.specs.Causes.{before_submission, conflicts_with, has_conflict, is_conflict, is_contested_query, is_write_of, place_of, submitted_at}
use Rattle.tp_model.specs.Facts.{before, is_earlier, is_settlement, is_submission}
use Rattle.tp_model.specs.Queries.{is_at_server, item_of, query_at}
use Rattle.tp_runs.proofs.ages.World.{IsSubmission}
use Rattle.tp_runs.proofs.basics.Facts.{any_settlement, said, settlements}
use Rattle.tp_runs.proofs.deaths.Fit.{Death, LockFits}
use Rattle.tp_runs.proofs.deaths.Told.{Told}
use Rattle.tp_machine.specs.Machine.{State}
use Rattle.tp_runs.specs.Sound.{IsItemOf, query_in}
use Rattle.tp_server.specs.declared.server.Entry.{Entry}

-- ---- in conflict

-- of two queries on one item one writes
both_on : (one other : Query) → (item_of other).0 ≡ (item_of one).0 → (is_write (action_of one) || is_write (action_of other)) ≡ true → is_conflict one other ≡ true
both_on (query.Write item expr) other same e = or_left (item.0 == (item_of other).0) (is_write_of item other) (ap (λ (n : ℕ). item.0 == n) same ∙ number_itself item.0)
both_on (query.Read item into) (query.Write written expr) same e = ap (λ (n : ℕ). n == item.0) same ∙ number_itself item.0
both_on (query.Read item into) (query.Read read other) same e = absurd (cc)

among_queries : (declared : Transaction) (number : ℕ) (found asked : Query) → query_at declared number ≡ Some found → is_conflict asked found ≡ true → conflicts_with asked declared ≡ true
among_queries declared zero found asked e h = absurd (cc)
among_queries declared (suc before) found asked e h = any_passes_from_place (is_conflict asked) declared.queries before found e h

other_conflicts : (sc : Scenario) (other : TxnId) (number : ℕ) (found asked : Query) (declared : Option Transaction) → slice_get sc.txns other.0 ≡ declared → option_and_then (λ (d : Transaction). query_at d number) declared ≡ Some found
    → is_conflict asked found ≡ true → has_conflict sc other asked ≡ true
other_conflicts sc other number found asked None e f h = absurd (cc)
other_conflicts sc other number found asked (Some declared) e f h = ap (λ (d : Option Transaction). option_map_or (conflicts_with asked) d false) e ∙ among_queries declared number found asked f h

-- the query is on an item of the server
on_server : (sc : Scenario) (at : ServerId) (asked : Query) → IsItemOf sc at (item_of asked) → is_at_server sc at.0 asked ≡ true
on_server sc at asked h =
    ap (λ (found : Option Item). option_map_or (λ (item : Item). item.server.0 == at.0) found false) h.declared_is ∙ (ap (λ (server : ServerId). server.0 == at.0) h.server_is ∙ number_itself at.0)

-- ---- older

before_first : (test : Fact → Bool) (fact : Fact) (facts : List Fact) (place later : ℕ) (b c : Bool) → test fact ≡ b → is_earlier later fact ≡ c → (option_map place_of (find test facts) ≡ Some place → list_any test (before later facts) ≡ true)
    → option_map place_of (find test (fact ∷ facts)) ≡ Some place → place < later → list_any test (before later (fact ∷ facts)) ≡ true
before_first test fact facts place later true c here early rest e less =
    let same : fact.place ≡ place = grind arith in
    let earlier : is_earlier later fact ≡ true = lt-ltb fact.place later (omega (arith, same, less)) in
    grind arith
before_first test fact facts place later false true other early rest e less =
    let found : option_map place_of (find test facts) ≡ Some place = grind arith in
    let more = rest found in
    grind arith
before_first test fact facts place later false false other early rest e less =
    let found : option_map place_of (find test facts) ≡ Some place = grind arith in
    let more = rest found in
    grind arith

-- what is found first at a place is before each later place
pub found_before : (test : Fact → Bool) (facts : List Fact) (place later : ℕ) → option_map place_of (find test facts) ≡ Some place → place < later → list_any test (before later facts) ≡ true
found_before test [] place later e less = absurd (cc)
found_before test (fact ∷ facts) place later e less =
    before_first test fact facts place later (test fact) (is_earlier later fact) refl refl (λ rest. found_before test facts place later rest less) e less

-- two submissions are at two places
submissions_apart : (steps : List Step) (one other : TxnId) (place : ℕ) → IsSubmission steps one place → IsSubmission steps other place → one ≡ other
submissions_apart steps one other place a b = let both : Some (step.Submit one) ≡ Some (step.Submit other) = sym a ∙ b in cc

-- an elder was submitted before
elder_before : (steps : List Step) (owner : TxnId) (age : ℕ) (lock : LockEntry) → IsSubmission steps owner age → IsSubmission steps lock.owner lock.age → is_of_other owner lock ≡ true → is_older owner age lock ≡ true → lock.age < age
elder_before steps owner age lock own its other older =
    ⊎_elim (λ (less : nat_lt lock.age age ≡ true). ltb-true lock.age age less)
    (λ (tie : (lock.age == age && nat_lt lock.owner.0 owner.0) ≡ true).
    let parts = and_parts (lock.age == age) (nat_lt lock.owner.0 owner.0) tie in
    let same : lock.age ≡ age = eqb-true lock.age age parts.0 in
    let one : lock.owner ≡ owner = submissions_apart steps lock.owner owner age (subst (IsSubmission steps lock.owner) same its) own in
    let its_own : is_of_other owner lock ≡ false = ap (λ (t : TxnId). not (t.0 == owner.0)) one ∙ ap not (number_itself owner.0) in
    absurd (cc))
    (or_cases (nat_lt lock.age age) (lock.age == age && nat_lt lock.owner.0 owner.0) older)

-- ---- not settled

none_left : {A : Type 0} (test kept : A → Bool) (x : A) (xs : List A) (b : Bool) → kept x ≡ b → (list_any test xs ≡ false → list_any test (filter kept xs) ≡ false) → list_any test (x ∷ xs) ≡ false → list_any test (filter kept (x ∷ xs)) ≡ false
none_left test kept x xs true keeps rest e =
    let first : test x ≡ false = grind arith in
    let later : list_any test xs ≡ false = grind arith in
    let more = rest later in
    grind arith
none_left test kept x xs false drops rest e =
    let later : list_any test xs ≡ false = grind arith in
    let more = rest later in
    grind arith

none_filtered : {A : Type 0} (test kept : A → Bool) (xs : List A) → list_any test xs ≡ false → list_any test (filter kept xs) ≡ false
none_filtered test kept [] e = refl
none_filtered test kept (x ∷ xs) e = none_left test kept x xs (kept x) refl (λ later. none_filtered test kept xs later) e

none_before_in_deaths : (txn : TxnId) (facts : List Fact) (test : Fact → Bool) (first : Option ℕ) → submitted_at txn facts ≡ first → list_any test facts ≡ false → list_any test (before_submission txn facts) ≡ false
none_before_in_deaths txn facts test None e h = ap (λ (place : Option ℕ). list_any test (option_map_or (λ (p : ℕ). before p facts) place [])) e
none_before_in_deaths txn facts test (Some place) e h = ap (λ (p : Option ℕ). list_any test (option_map_or (λ (k : ℕ). before k facts) p [])) e ∙ none_filtered test (is_earlier place) facts h

-- ---- the death

-- the transaction is to die for the owner of a lock in its way
pub dies_for : (sc : Scenario) (w : State) (at : ServerId) (entries : List (Option Entry)) (txn other : TxnId) (number age : ℕ) (asked : Query) (lock : LockEntry) → Told w → IsSubmission w.steps txn age → IsSubmission w.steps lock.owner lock.age
    → query_in sc txn number ≡ Some asked → IsItemOf sc at (item_of asked) → LockFits sc entries (item_of asked).0 lock → is_elder txn age (action_of asked) lock ≡ true → lock.owner ≡ other → settlements at other (said w.facts) ≡ []
    → Death sc w.facts at txn other number
dies_for sc w at entries txn other number age asked lock told own its asked_is kept fits elder owner_is open_is =
    let parts = and_parts (conflicts txn (action_of asked) lock) (is_older txn age lock) elder in
    let conflict = and_parts (is_of_other txn lock) (is_write (action_of asked) || is_write lock.mode) parts.0 in
    let writes : (is_write (action_of asked) || is_write (action_of fits.asked.query)) ≡ true = ap (λ (mode : Action). is_write (action_of asked) || is_write mode) fits.asked.mode_is ∙ conflict.1 in
    let contested : is_conflict asked fits.asked.query ≡ true = both_on asked fits.asked.query fits.asked.item_is writes in
    let conflicts_there : has_conflict sc other asked ≡ true =
    subst (λ (t : TxnId). has_conflict sc t asked ≡ true) owner_is (other_conflicts sc lock.owner fits.asked.number fits.asked.query asked (slice_get sc.txns lock.owner.0) refl fits.asked.asked_is contested) in
    let before_is : before_submission txn w.facts ≡ before age w.facts = ap (λ (place : Option ℕ). option_map_or (λ (p : ℕ). before p w.facts) place []) (told txn age own) in
    let less : lock.age < age = elder_before w.steps txn age lock own its conflict.0 parts.1 in
    record {
      contested = λ declared there place.
          let asked_there : query_at declared number ≡ Some asked = sym (ap (λ (d : Option Transaction). option_and_then (λ (t : Transaction). query_at t number) d) there) ∙ asked_is in
          ap (λ (found : Option Query). option_map_or (is_contested_query sc (record { query = number; server = at; other = other; place = place })) found false) asked_there
          ∙ and_from (is_at_server sc at.0 asked) (has_conflict sc other asked) (on_server sc at asked kept) conflicts_there;
      older = ap (list_any (is_submission other)) before_is
          ∙ subst (λ (t : TxnId). list_any (is_submission t) (before age w.facts) ≡ true) owner_is (found_before (is_submission lock.owner) w.facts lock.age age (told lock.owner lock.age its) less);
      unsettled = none_before_in_deaths txn w.facts (is_settlement at other) (submitted_at txn w.facts) refl
          (any_settlement at other w.facts ∙ ap (list_any (λ (found : Outcome). true)) open_is);
    }
