-- Crashes among facts: how many are noted of actors, how many of these before a place, and what is shown by one. The
-- actors meant are those that pass a test.
use Rattle.std.specs.List.{count_by, list_any}
use Rattle.std.proofs.Common.{Bool, List, [], ap, arith, cond, false, nat_le, nat_lt, refl, sym, true, ℕ, ⊎_elim, ◌&&◌, ◌++◌, ◌+◌, ◌∙◌, ◌∷◌, ◌≡◌, ◌≤◌, ◌||◌}
use Rattle.std.proofs.lemmas.Bool.{and_from, and_parts, and_right, le-ltb, leb-true, lt-ltb, ltb-true, or_cases, or_from, or_left, or_parts, or_right}
use Rattle.std.proofs.lemmas.Bool.Decides.{nat_tests}
use Rattle.std.proofs.lemmas.List.Elements.{filter-append}
use Rattle.std.proofs.lemmas.List.Folds.{list_any-append}
use Rattle.std.proofs.lemmas.List.Sums.{sum_by-cons}
use Rattle.tp_model.specs.Causes.{crashed_within, is_crash_what, is_crash_within}
use Rattle.tp_model.specs.Facts.{before, is_earlier, is_submission, was_submitted}
use Rattle.tp_model.specs.Trust.{is_within}
use Rattle.tp_model.specs.Words.{Actor, Fact, TxnId, What}
use Rattle.tp_machine.specs.Machine.{facts_of}
use Rattle.tp_runs.proofs.basics.Facts.{ArePast, count_append, grows_with_facts}

-- ---- what is counted

-- the fact notes a crash of one of the actors
abbrev pub is_crash_of : (Actor → Bool) → Fact → Bool
is_crash_of who fact = is_crash_what who fact.what

-- how many crashes the facts note
abbrev pub crashes : (Actor → Bool) → List Fact → ℕ
crashes who facts = count_by (is_crash_of who) facts

-- how many one step notes
abbrev pub noted : (Actor → Bool) → List What → ℕ
noted who happened = count_by (is_crash_what who) happened

-- the fact notes a crash, at the place or later
abbrev pub is_crash_from : (Actor → Bool) → ℕ → Fact → Bool
is_crash_from who place fact = is_crash_of who fact && nat_le place fact.place

-- one of the actors crashed at the place or later
abbrev pub crashed_from : (Actor → Bool) → ℕ → List Fact → Bool
crashed_from who place facts = list_any (is_crash_from who place) facts

first_counted : (who : Actor → Bool) (fact : Fact) (facts : List Fact) → crashes who (fact ∷ facts) ≡ cond (is_crash_of who fact) 1 0 + crashes who facts
first_counted who fact facts = sum_by-cons (λ (f : Fact). cond (is_crash_of who f) 1 0) fact facts

pub first_noted : (who : Actor → Bool) (w : What) (happened : List What) → noted who (w ∷ happened) ≡ cond (is_crash_what who w) 1 0 + noted who happened
first_noted who w happened = sum_by-cons (λ (x : What). cond (is_crash_what who x) 1 0) w happened

new_crashes : (who : Actor → Bool) (place : ℕ) (happened : List What) → crashes who (facts_of place happened) ≡ noted who happened
new_crashes who place [] = refl
new_crashes who place (w ∷ happened) =
    first_counted who (record { place = place; what = w }) (facts_of place happened)
    ∙ (ap (λ (n : ℕ). cond (is_crash_what who w) 1 0 + n) (new_crashes who place happened) ∙ sym (first_noted who w happened))

-- a step adds what it notes
pub crashes_grow : (who : Actor → Bool) (facts : List Fact) (place : ℕ) (happened : List What) → crashes who (facts ++ facts_of place happened) ≡ crashes who facts + noted who happened
crashes_grow who facts place happened =
    count_append (is_crash_of who) facts (facts_of place happened) ∙ ap (λ (n : ℕ). crashes who facts + n) (new_crashes who place happened)

pub noted_more : (who : Actor → Bool) (own more : List What) → noted who (own ++ more) ≡ noted who own + noted who more
noted_more who own more = count_append (is_crash_what who) own more

-- ---- before a place

-- no more crashed before a place than did at all
pub fewer_before : (who : Actor → Bool) (place : ℕ) (facts : List Fact) → crashes who (before place facts) ≤ crashes who facts
fewer_before who place [] = omega arith
fewer_before who place (fact ∷ facts) = by_test (is_earlier place fact) (fewer_before who place facts)
  where
    by_test : (b : Bool) → crashes who (before place facts) ≤ crashes who facts → crashes who (cond b (fact ∷ before place facts) (before place facts)) ≤ crashes who (fact ∷ facts)
    by_test true less = omega (arith, less, first_counted who fact (before place facts), first_counted who fact facts)
    by_test false less = omega (arith, less, first_counted who fact facts)

not_counted : (b : Bool) (rest : ℕ) → b ≡ false → cond b 1 0 + rest ≡ rest
not_counted false rest e = omega arith
not_counted true rest e = absurd (cc)

no_crash : (b : Bool) (place at : ℕ) → nat_lt at place ≡ false → (b && nat_le place at) ≡ false → b ≡ false
no_crash false place at late none = refl
no_crash true place at late none = grind (arith, nat_tests)

-- where none crashed from the place on, all that did crashed before it
pub all_before : (who : Actor → Bool) (place : ℕ) (facts : List Fact) → crashed_from who place facts ≡ false → crashes who (before place facts) ≡ crashes who facts
all_before who place [] none = refl
all_before who place (fact ∷ facts) none =
    let parts = or_parts (is_crash_from who place fact) (crashed_from who place facts) none in
    by_test (is_earlier place fact) refl parts.0 (all_before who place facts parts.1)
  where
    by_test : (b : Bool) → is_earlier place fact ≡ b → is_crash_from who place fact ≡ false → crashes who (before place facts) ≡ crashes who facts
        → crashes who (cond b (fact ∷ before place facts) (before place facts)) ≡ crashes who (fact ∷ facts)
    by_test true early other same = omega (arith, same, first_counted who fact (before place facts), first_counted who fact facts)
    by_test false late other same =
        let rest = not_counted (is_crash_of who fact) (crashes who facts) (no_crash (is_crash_of who fact) place fact.place late other) in
        omega (arith, same, rest, first_counted who fact facts)

-- ---- what is shown

-- what stands before a place stands before each later one
any_later : (test : Fact → Bool) (facts : List Fact) (low high : ℕ) → low ≤ high → list_any test (before low facts) ≡ true → list_any test (before high facts) ≡ true
any_later test [] low high le e = absurd (cc)
any_later test (fact ∷ facts) low high le e = by_tests (is_earlier low fact) (is_earlier high fact) refl refl (any_later test facts low high le) e
  where
    by_tests : (one two : Bool) → is_earlier low fact ≡ one → is_earlier high fact ≡ two → (list_any test (before low facts) ≡ true → list_any test (before high facts) ≡ true)
        → list_any test (cond one (fact ∷ before low facts) (before low facts)) ≡ true → list_any test (cond two (fact ∷ before high facts) (before high facts)) ≡ true
    by_tests true true early still rest e =
        ⊎_elim (λ (here : test fact ≡ true). or_left (test fact) (list_any test (before high facts)) here)
        (λ (later : list_any test (before low facts) ≡ true). or_right (test fact) (list_any test (before high facts)) (rest later)) (or_cases (test fact) (list_any test (before low facts)) e)
    by_tests true false early late rest e =
        let less = ltb-true fact.place low early in
        let earlier = lt-ltb fact.place high (omega (arith, less, le)) in
        absurd (cc)
    by_tests false true other early rest e = or_right (test fact) (list_any test (before high facts)) (rest e)
    by_tests false false other late rest e = rest e

shown_among : (who : Actor → Bool) (txn : TxnId) (place now : ℕ) (all facts : List Fact) → ArePast now facts → was_submitted txn place all ≡ true → crashed_from who place facts ≡ true
    → list_any (is_crash_within who txn now all) facts ≡ true
shown_among who txn place now all [] past submitted e = absurd (cc)
shown_among who txn place now all (fact ∷ facts) past submitted e =
    ⊎_elim
    (λ (here : is_crash_from who place fact ≡ true).
    let parts = and_parts (is_crash_of who fact) (nat_le place fact.place) here in
    let begun : was_submitted txn fact.place all ≡ true = any_later (is_submission txn) all place fact.place (leb-true place fact.place parts.1) submitted in
    or_left (is_crash_within who txn now all fact) (list_any (is_crash_within who txn now all) facts)
    (and_from (is_crash_of who fact) (is_within txn now all fact.place) parts.0 (and_from (was_submitted txn fact.place all) (nat_lt fact.place now) begun (lt-ltb fact.place now past.0))))
    (λ (later : crashed_from who place facts ≡ true).
    or_right (is_crash_within who txn now all fact) (list_any (is_crash_within who txn now all) facts) (shown_among who txn place now all facts past.1 submitted later))
    (or_cases (is_crash_from who place fact) (crashed_from who place facts) e)

-- a crash from a place on is one since the submission, where that was before the place
pub crash_shown : (who : Actor → Bool) (txn : TxnId) (place now : ℕ) (facts : List Fact) → ArePast now facts → was_submitted txn place facts ≡ true → crashed_from who place facts ≡ true
    → crashed_within who txn now facts ≡ true
crash_shown who txn place now facts past submitted e = shown_among who txn place now facts facts past submitted e

-- what passes one test passes another
any_as : (test other : Fact → Bool) → ((fact : Fact) → test fact ≡ true → other fact ≡ true) → (facts : List Fact) → list_any test facts ≡ true → list_any other facts ≡ true
any_as test other step [] e = absurd (cc)
any_as test other step (fact ∷ facts) e =
    ⊎_elim (λ (here : test fact ≡ true). or_left (other fact) (list_any other facts) (step fact here))
    (λ (later : list_any test facts ≡ true). or_right (other fact) (list_any other facts) (any_as test other step facts later)) (or_cases (test fact) (list_any test facts) e)

within_more : (txn : TxnId) (low high place : ℕ) (facts more : List Fact) → low ≤ high → is_within txn low facts place ≡ true → is_within txn high (facts ++ more) place ≡ true
within_more txn low high place facts more le e =
    let parts = and_parts (was_submitted txn place facts) (nat_lt place low) e in
    let less = ltb-true place low parts.1 in
    and_from (was_submitted txn place (facts ++ more)) (nat_lt place high)
    (ap (list_any (is_submission txn)) (filter-append (is_earlier place) facts more)
    ∙ (list_any-append (is_submission txn) (before place facts) (before place more) ∙ or_left (was_submitted txn place facts) (list_any (is_submission txn) (before place more)) parts.0))
    (lt-ltb place high (omega (arith, less, le)))

-- a crash that is shown stays shown at later places and as facts are added
pub shown_more : (who : Actor → Bool) (txn : TxnId) (low high : ℕ) (facts more : List Fact) → low ≤ high → crashed_within who txn low facts ≡ true → crashed_within who txn high (facts ++ more) ≡ true
shown_more who txn low high facts more le e =
    let now = is_crash_within who txn high (facts ++ more) in
    list_any-append now facts more
    ∙ or_left (list_any now facts) (list_any now more)
    (any_as (is_crash_within who txn low facts) now
    (λ fact h.
    let parts = and_parts (is_crash_of who fact) (is_within txn low facts fact.place) h in
    and_from (is_crash_of who fact) (is_within txn high (facts ++ more) fact.place) parts.0 (within_more txn low high fact.place facts more le parts.1)) facts e)

-- a crash of some actors is one of others that they are among
pub shown_among_others : (who other : Actor → Bool) (txn : TxnId) (place : ℕ) (facts : List Fact) → ((w : What) → is_crash_what who w ≡ true → is_crash_what other w ≡ true)
    → crashed_within who txn place facts ≡ true → crashed_within other txn place facts ≡ true
shown_among_others who other txn place facts wider e =
    any_as (is_crash_within who txn place facts) (is_crash_within other txn place facts)
    (λ fact h.
    let parts = and_parts (is_crash_of who fact) (is_within txn place facts fact.place) h in
    and_from (is_crash_of other fact) (is_within txn place facts fact.place) (wider fact.what parts.0) parts.1) facts e

-- ---- places that are past

both_left : (a b c d : Bool) → (d ≡ true → b ≡ c) → (a && (b && d)) ≡ (a && (c && d))
both_left a b c true same = ap (λ (x : Bool). a && (x && true)) (same refl)
both_left a b c false same = ap (λ (x : Bool). a && x) (and_right b false refl ∙ sym (and_right c false refl))

none_late : (who : Actor → Bool) (txn : TxnId) (place now : ℕ) (all : List Fact) (happened : List What) → place ≤ now → list_any (is_crash_within who txn place all) (facts_of now happened) ≡ false
none_late who txn place now all [] le = refl
none_late who txn place now all (w ∷ happened) le =
    or_from (is_crash_what who w && is_within txn place all now) (list_any (is_crash_within who txn place all) (facts_of now happened))
    (and_right (is_crash_what who w) (is_within txn place all now) (and_right (was_submitted txn now all) (nat_lt now place) (le-ltb now place le))) (none_late who txn place now all happened le)

same_any : (test other : Fact → Bool) → ((fact : Fact) → test fact ≡ other fact) → (facts : List Fact) → list_any test facts ≡ list_any other facts
same_any test other same [] = refl
same_any test other same (fact ∷ facts) = ap (λ (b : Bool). b || list_any test facts) (same fact) ∙ ap (λ (b : Bool). other fact || b) (same_any test other same facts)

or_none : (a b : Bool) → b ≡ false → (a || b) ≡ a
or_none true b e = refl
or_none false b e = e

-- whether a crash is shown at a place that is past, later facts do not change
pub shown_same : (who : Actor → Bool) (txn : TxnId) (place now : ℕ) (facts : List Fact) (happened : List What) → place ≤ now
    → crashed_within who txn place (facts ++ facts_of now happened) ≡ crashed_within who txn place facts
shown_same who txn place now facts happened le =
    let all = facts ++ facts_of now happened in
    list_any-append (is_crash_within who txn place all) facts (facts_of now happened)
    ∙ (or_none (list_any (is_crash_within who txn place all) facts) (list_any (is_crash_within who txn place all) (facts_of now happened)) (none_late who txn place now all happened le)
    ∙ same_any (is_crash_within who txn place all) (is_crash_within who txn place facts)
    (λ fact. both_left (is_crash_of who fact) (was_submitted txn fact.place all) (was_submitted txn fact.place facts) (nat_lt fact.place place)
    (λ early. let less = ltb-true fact.place place early in
    ap (list_any (is_submission txn)) ((grows_with_facts facts now happened).same fact.place (omega (arith, less, le))))) facts)
