-- Laws of lists of facts and mails as they grow: facts before a place stay as they are, and what facts say of a transaction as lists.
use Rattle.std.proofs.Common.{◌≡◌, ℕ, ◌+◌, ◌<◌, ◌≤◌, ◌&&◌, ◌||◌, List, [], ◌∷◌, ◌++◌, length, map, filter, Bool, true, false, cond, Option, Some, None, is_some, if◌then◌else◌, refl, ap, ◌∙◌, arith}
use Rattle.std.specs.List.{cons_option, count_by, filter_map, list_all, list_any}
use Rattle.std.specs.Option.{option_map_or, option_or}
use Rattle.std.proofs.lemmas.Bool.Decides.{nat_tests}
use Rattle.std.proofs.lemmas.List.Sums.{sum_by-append, sum_by-cons}
use Rattle.std.proofs.lemmas.List.{append-nil}
use Rattle.std.proofs.lemmas.List.Elements.{filter-append}
use Rattle.tp_model.specs.Words.{CommitRecord, Decision, Fact, Letter, Mail, Outcome, ServerId, TxnId, What}
use Rattle.tp_model.specs.Words.outcome
use Rattle.tp_model.specs.Words.what
use Rattle.tp_model.specs.Facts.{before, commit_in_what, commit_of, is_decided_as, is_decided_what, is_decision, is_decision_what, is_earlier, is_settled_as, is_settled_what, is_settlement, is_settlement_what, is_submission, is_submission_what, outcome_of, record_of, same_outcome}
use Rattle.tp_model.specs.Ids.{same_server, same_txn}
use Rattle.tp_machine.specs.Machine.{State, facts_of, mails_of}
use Rattle.tp_types.proofs.EachLemmas.{each_append}
use Rattle.tp_types.specs.Each.{Each}

-- ---- tests

pub outcome_itself : (o : Outcome) → same_outcome o o ≡ true
outcome_itself outcome.Commit = refl
outcome_itself outcome.Abort = refl

-- ---- lists

pub count_append : {A : Type 0} (test : A → Bool) (xs ys : List A) → count_by test (xs ++ ys) ≡ count_by test xs + count_by test ys
count_append test xs ys = sum_by-append (λ x. cond (test x) 1 0) xs ys

kept_whole : {A : Type 0} (test : A → Bool) (x : A) (xs : List A) → test x ≡ true → cond (test x) (x ∷ xs) xs ≡ x ∷ xs
kept_whole test x xs e = ap (λ (b : Bool). cond b (x ∷ xs) xs) e

kept_not : {A : Type 0} (test : A → Bool) (x : A) (xs : List A) → test x ≡ false → cond (test x) (x ∷ xs) xs ≡ xs
kept_not test x xs e = ap (λ (b : Bool). cond b (x ∷ xs) xs) e

-- a filter that all members pass, and one that none passes
pub filter_all : {A : Type 0} (P : A → Type 0) (test : A → Bool) → ((x : A) → P x → test x ≡ true) → (xs : List A) → Each P xs → filter test xs ≡ xs
filter_all P test passes [] h = refl
filter_all P test passes (x ∷ xs) h = kept_whole test x (filter test xs) (passes x h.0) ∙ ap (λ ys. x ∷ ys) (filter_all P test passes xs h.1)

pub filter_none : {A : Type 0} (P : A → Type 0) (test : A → Bool) → ((x : A) → P x → test x ≡ false) → (xs : List A) → Each P xs → filter test xs ≡ []
filter_none P test fails [] h = refl
filter_none P test fails (x ∷ xs) h = kept_not test x (filter test xs) (fails x h.0) ∙ filter_none P test fails xs h.1

-- ---- tests of all members

pub all_from_each : {A : Type 0} (P : A → Type 0) (test : A → Bool) → ((x : A) → P x → test x ≡ true) → (xs : List A) → Each P xs → list_all test xs ≡ true
all_from_each P test passes [] h = refl
all_from_each P test passes (x ∷ xs) h =
    let here = passes x h.0 in
    let later = all_from_each P test passes xs h.1 in
    grind arith

-- ---- places

-- every fact is before the place
abbrev pub ArePast : ℕ → List Fact → Type 0
ArePast place facts = Each (λ (fact : Fact). fact.place < place) facts

-- every fact is at the place or after it
abbrev pub AreLater : ℕ → List Fact → Type 0
AreLater place facts = Each (λ (fact : Fact). place ≤ fact.place) facts

pub earlier_passes : (place : ℕ) (fact : Fact) → fact.place < place → is_earlier place fact ≡ true
earlier_passes place fact e = grind (arith, nat_tests)

later_fails : (place : ℕ) (fact : Fact) → place ≤ fact.place → is_earlier place fact ≡ false
later_fails place fact e = grind (arith, nat_tests)

pub past_as : (low high : ℕ) → low ≤ high → (facts : List Fact) → ArePast low facts → ArePast high facts
past_as low high le [] h = tt
past_as low high le (fact ∷ facts) h = (omega (arith, le, h.0), past_as low high le facts h.1)

pub later_as : (low high : ℕ) → low ≤ high → (facts : List Fact) → AreLater high facts → AreLater low facts
later_as low high le [] h = tt
later_as low high le (fact ∷ facts) h = (omega (arith, le, h.0), later_as low high le facts h.1)

-- all facts are before a later place
pub before_past : (place : ℕ) (facts : List Fact) → ArePast place facts → before place facts ≡ facts
before_past place facts h = filter_all (λ (fact : Fact). fact.place < place) (is_earlier place) (earlier_passes place) facts h

-- facts of later places change nothing before
pub before_later : (place : ℕ) (facts more : List Fact) → AreLater place more → before place (facts ++ more) ≡ before place facts
before_later place facts more h =
    filter-append (is_earlier place) facts more
    ∙ (ap (λ (xs : List Fact). before place facts ++ xs) (filter_none (λ (fact : Fact). place ≤ fact.place) (is_earlier place) (later_fails place) more h)
    ∙ append-nil (before place facts))

-- what a step notes is at its place
pub new_facts_later : (place : ℕ) (happened : List What) → AreLater place (facts_of place happened)
new_facts_later place [] = tt
new_facts_later place (w ∷ happened) = (omega arith, new_facts_later place happened)

pub new_facts_past : (place : ℕ) (happened : List What) → ArePast (place + 1) (facts_of place happened)
new_facts_past place [] = tt
new_facts_past place (w ∷ happened) = (omega arith, new_facts_past place happened)

-- what holds of what a step notes, and of its letters, holds of the new facts and mails
pub each_new_fact : (P : ℕ → What → Type 0) (place : ℕ) (happened : List What) → Each (P place) happened → Each (λ (fact : Fact). P fact.place fact.what) (facts_of place happened)
each_new_fact P place [] h = tt
each_new_fact P place (w ∷ happened) h = (h.0, each_new_fact P place happened h.1)

pub each_new_mail : (P : ℕ → Letter → Type 0) (sent number : ℕ) (letters : List Letter) → Each (P sent) letters → Each (λ (mail : Mail). P mail.sent mail.letter) (mails_of sent number letters)
each_new_mail P sent number [] h = tt
each_new_mail P sent number (letter ∷ letters) h = (h.0, each_new_mail P sent (number + 1) letters h.1)

-- the facts after a step
abbrev pub facts_after : State → List What → List Fact
facts_after w happened = w.facts ++ facts_of (length w.steps) happened

pub past_after : (w : State) (happened : List What) → ArePast (length w.steps) w.facts → ArePast (length w.steps + 1) (facts_after w happened)
past_after w happened past =
    let place = length w.steps in
    each_append (λ (fact : Fact). fact.place < place + 1) w.facts (facts_of place happened) (past_as place (place + 1) (omega arith) w.facts past) (new_facts_past place happened)

-- later facts change nothing before a place: the one law of growth
pub record Grows (old new : List Fact) (place : ℕ) : Type 0 where
  pub same : (k : ℕ) → k ≤ place → before k new ≡ before k old

pub grows_with_facts : (facts : List Fact) (place : ℕ) (happened : List What) → Grows facts (facts ++ facts_of place happened) place
grows_with_facts facts place happened =
    record { same = λ k le. before_later k facts (facts_of place happened) (later_as k place le (facts_of place happened) (new_facts_later place happened)) }

pub grows_same : (facts : List Fact) (place : ℕ) → Grows facts facts place
grows_same facts place = record { same = λ k le. refl }

-- ---- what facts say

abbrev pub said : List Fact → List What
said facts = map (λ (fact : Fact). fact.what) facts

pub said_with_facts : (facts : List Fact) (place : ℕ) (happened : List What) → said (facts ++ facts_of place happened) ≡ said facts ++ happened
said_with_facts [] place [] = refl
said_with_facts [] place (w ∷ happened) = ap (λ ws. w ∷ ws) (said_with_facts [] place happened)
said_with_facts (fact ∷ facts) place happened = ap (λ ws. fact.what ∷ ws) (said_with_facts facts place happened)

abbrev pub submitted_what : TxnId → What → Option TxnId
submitted_what txn (what.Submitted other) = if same_txn other txn then Some other else None
submitted_what txn _ = None

-- the submissions of a transaction
abbrev pub submissions : TxnId → List What → List TxnId
submissions txn whats = filter_map (submitted_what txn) whats

abbrev pub decided_what : TxnId → What → Option Decision
decided_what txn (what.Decided other decided) = if same_txn other txn then Some decided else None
decided_what txn _ = None

-- the decisions of a transaction
abbrev pub decisions : TxnId → List What → List Decision
decisions txn whats = filter_map (decided_what txn) whats

abbrev pub settled_what : ServerId → TxnId → What → Option Outcome
settled_what at txn (what.Settled server other ended) = if same_server server at && same_txn other txn then Some ended else None
settled_what at txn _ = None

-- the settlements of a transaction at a server
abbrev pub settlements : ServerId → TxnId → List What → List Outcome
settlements at txn whats = filter_map (settled_what at txn) whats

-- ---- counts and tests by these lists

counted_one : {B : Type 0} (t : Bool) (found : Option B) (rest : List B) (count : ℕ) → t ≡ is_some found → count ≡ length rest → cond t 1 0 + count ≡ length (cons_option found rest)
counted_one t None rest count e f = ap (λ (b : Bool). cond b 1 0 + count) e ∙ omega (arith, f)
counted_one t (Some x) rest count e f = ap (λ (b : Bool). cond b 1 0 + count) e ∙ omega (arith, f)

-- a count by a test is the length of what the function finds
pub counted_by : {A : Type 0} {B : Type 0} (test : A → Bool) (h : A → Option B) → ((x : A) → test x ≡ is_some (h x)) → (xs : List A) → count_by test xs ≡ length (filter_map h xs)
counted_by test h same [] = refl
counted_by test h same (x ∷ xs) =
    sum_by-cons (λ y. cond (test y) 1 0) x xs
    ∙ counted_one (test x) (h x) (filter_map h xs) (count_by test xs) (same x) (counted_by test h same xs)

tested_one : {B : Type 0} (t : Bool) (test : B → Bool) (found : Option B) (rest : List B) (any : Bool) → t ≡ option_map_or test found false → any ≡ list_any test rest
    → (t || any) ≡ list_any test (cons_option found rest)
tested_one t test None rest any e f = ap (λ (b : Bool). b || any) e ∙ f
tested_one t test (Some x) rest any e f = ap (λ (b : Bool). b || any) e ∙ ap (λ (b : Bool). test x || b) f

-- a test of some member is one of what the function finds
pub tested_by : {A : Type 0} {B : Type 0} (test : A → Bool) (h : A → Option B) (found : B → Bool) → ((x : A) → test x ≡ option_map_or found (h x) false) → (xs : List A)
    → list_any test xs ≡ list_any found (filter_map h xs)
tested_by test h found same [] = refl
tested_by test h found same (x ∷ xs) = tested_one (test x) found (h x) (filter_map h xs) (list_any test xs) (same x) (tested_by test h found same xs)

-- what is found of facts is what is found of what they say
pub found_said : {B : Type 0} (h : What → Option B) (facts : List Fact) → filter_map (λ (fact : Fact). h fact.what) facts ≡ filter_map h (said facts)
found_said h [] = refl
found_said h (fact ∷ facts) = ap (λ rest. cons_option (h fact.what) rest) (found_said h facts)

-- ---- each kind of fact

some_if : {A : Type 0} (b : Bool) (x : A) → b ≡ is_some (if b then Some x else None)
some_if true x = refl
some_if false x = refl

tested_if : {A : Type 0} (b : Bool) (test : A → Bool) (x : A) → (b && test x) ≡ option_map_or test (if b then Some x else None) false
tested_if true test x = refl
tested_if false test x = refl

submission_found : (txn : TxnId) (fact : Fact) → is_submission txn fact ≡ is_some (submitted_what txn fact.what)
submission_found txn fact = found fact.what
  where
    found : (w : What) → is_submission_what txn w ≡ is_some (submitted_what txn w)
    found (what.Submitted other) = some_if (same_txn other txn) other
    found _ = refl

decision_found : (txn : TxnId) (fact : Fact) → is_decision txn fact ≡ is_some (decided_what txn fact.what)
decision_found txn fact = found fact.what
  where
    found : (w : What) → is_decision_what txn w ≡ is_some (decided_what txn w)
    found (what.Decided other decided) = some_if (same_txn other txn) decided
    found _ = refl

settlement_found : (at : ServerId) (txn : TxnId) (fact : Fact) → is_settlement at txn fact ≡ is_some (settled_what at txn fact.what)
settlement_found at txn fact = found fact.what
  where
    found : (w : What) → is_settlement_what at txn w ≡ is_some (settled_what at txn w)
    found (what.Settled server other ended) = some_if (same_server server at && same_txn other txn) ended
    found _ = refl

decided_found : (txn : TxnId) (ended : Outcome) (fact : Fact)
    → is_decided_as txn ended fact ≡ option_map_or (λ (d : Decision). same_outcome (outcome_of d) ended) (decided_what txn fact.what) false
decided_found txn ended fact = found fact.what
  where
    found : (w : What) → is_decided_what txn ended w ≡ option_map_or (λ (d : Decision). same_outcome (outcome_of d) ended) (decided_what txn w) false
    found (what.Decided other decided) = tested_if (same_txn other txn) (λ (d : Decision). same_outcome (outcome_of d) ended) decided
    found _ = refl

settled_found : (at : ServerId) (txn : TxnId) (ended : Outcome) (fact : Fact)
    → is_settled_as at txn ended fact ≡ option_map_or (λ (o : Outcome). same_outcome o ended) (settled_what at txn fact.what) false
settled_found at txn ended fact = found fact.what
  where
    both : (a b c : Bool) → (a && b && c) ≡ ((a && b) && c)
    both a b c = grind arith

    found : (w : What) → is_settled_what at txn ended w ≡ option_map_or (λ (o : Outcome). same_outcome o ended) (settled_what at txn w) false
    found (what.Settled server other given) =
        both (same_server server at) (same_txn other txn) (same_outcome given ended)
        ∙ tested_if (same_server server at && same_txn other txn) (λ (o : Outcome). same_outcome o ended) given
    found _ = refl

pub count_submissions : (txn : TxnId) (facts : List Fact) → count_by (is_submission txn) facts ≡ length (submissions txn (said facts))
count_submissions txn facts =
    counted_by (is_submission txn) (λ (fact : Fact). submitted_what txn fact.what) (submission_found txn) facts ∙ ap length (found_said (submitted_what txn) facts)

pub count_decisions : (txn : TxnId) (facts : List Fact) → count_by (is_decision txn) facts ≡ length (decisions txn (said facts))
count_decisions txn facts =
    counted_by (is_decision txn) (λ (fact : Fact). decided_what txn fact.what) (decision_found txn) facts ∙ ap length (found_said (decided_what txn) facts)

pub count_settlements : (at : ServerId) (txn : TxnId) (facts : List Fact) → count_by (is_settlement at txn) facts ≡ length (settlements at txn (said facts))
count_settlements at txn facts =
    counted_by (is_settlement at txn) (λ (fact : Fact). settled_what at txn fact.what) (settlement_found at txn) facts ∙ ap length (found_said (settled_what at txn) facts)

pub any_decided : (txn : TxnId) (ended : Outcome) (facts : List Fact)
    → list_any (is_decided_as txn ended) facts ≡ list_any (λ (d : Decision). same_outcome (outcome_of d) ended) (decisions txn (said facts))
any_decided txn ended facts =
    tested_by (is_decided_as txn ended) (λ (fact : Fact). decided_what txn fact.what) (λ (d : Decision). same_outcome (outcome_of d) ended) (decided_found txn ended) facts
    ∙ ap (list_any (λ (d : Decision). same_outcome (outcome_of d) ended)) (found_said (decided_what txn) facts)

pub any_settled : (at : ServerId) (txn : TxnId) (ended : Outcome) (facts : List Fact)
    → list_any (is_settled_as at txn ended) facts ≡ list_any (λ (o : Outcome). same_outcome o ended) (settlements at txn (said facts))
any_settled at txn ended facts =
    tested_by (is_settled_as at txn ended) (λ (fact : Fact). settled_what at txn fact.what) (λ (o : Outcome). same_outcome o ended) (settled_found at txn ended) facts
    ∙ ap (list_any (λ (o : Outcome). same_outcome o ended)) (found_said (settled_what at txn) facts)

some_found_in_basics : {A : Type 0} (found : Option A) → is_some found ≡ option_map_or (λ (x : A). true) found false
some_found_in_basics None = refl
some_found_in_basics (Some x) = refl

pub any_submitted : (txn : TxnId) (facts : List Fact) → list_any (is_submission txn) facts ≡ list_any (λ (found : TxnId). true) (submissions txn (said facts))
any_submitted txn facts =
    tested_by (is_submission txn) (λ (fact : Fact). submitted_what txn fact.what) (λ (found : TxnId). true)
    (λ (fact : Fact). submission_found txn fact ∙ some_found_in_basics (submitted_what txn fact.what)) facts
    ∙ ap (list_any (λ (found : TxnId). true)) (found_said (submitted_what txn) facts)

pub any_settlement : (at : ServerId) (txn : TxnId) (facts : List Fact) → list_any (is_settlement at txn) facts ≡ list_any (λ (found : Outcome). true) (settlements at txn (said facts))
any_settlement at txn facts =
    tested_by (is_settlement at txn) (λ (fact : Fact). settled_what at txn fact.what) (λ (found : Outcome). true)
    (λ (fact : Fact). settlement_found at txn fact ∙ some_found_in_basics (settled_what at txn fact.what)) facts
    ∙ ap (list_any (λ (found : Outcome). true)) (found_said (settled_what at txn) facts)

-- ---- the first commit

abbrev pub first_commit : List Decision → Option CommitRecord
first_commit [] = None
first_commit (d ∷ ds) = option_or (record_of d) (first_commit ds)

first_if : (b : Bool) (d : Decision) (ds : List Decision) (later : Option CommitRecord) → later ≡ first_commit ds
    → option_or (if b then record_of d else None) later ≡ first_commit (cons_option (if b then Some d else None) ds)
first_if true d ds later e = ap (λ (x : Option CommitRecord). option_or (record_of d) x) e
first_if false d ds later e = e

commit_in : (txn : TxnId) (w : What) (facts : List Fact) → commit_of txn facts ≡ first_commit (decisions txn (said facts))
    → option_or (commit_in_what txn w) (commit_of txn facts) ≡ first_commit (cons_option (decided_what txn w) (decisions txn (said facts)))
commit_in txn (what.Decided other decided) facts e = first_if (same_txn other txn) decided (decisions txn (said facts)) (commit_of txn facts) e
commit_in txn _ facts e = e

pub commit_found : (txn : TxnId) (facts : List Fact) → commit_of txn facts ≡ first_commit (decisions txn (said facts))
commit_found txn [] = refl
commit_found txn (fact ∷ facts) = commit_in txn fact.what facts (commit_found txn facts)
