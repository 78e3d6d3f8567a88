-- Trust: an incremental transaction gathers the proof of each query that ran, and closes an instance of all that it has gathered: after each
-- query, and where it reads the master once more after the votes.
use Rattle.std.specs.Cmp.Lexicographic.{pointwise}
use Rattle.std.specs.List.{list_all, range_with_len}
use Rattle.std.proofs.Common.{Bool, IfSome, List, None, Option, Some, [], ap, arith, drop, if◌then◌else◌, is_none, length, min, refl, slice_get, subst, suc, sym, take, true, zero, ℕ, ◌&&◌, ◌++◌, ◌+◌, ◌<◌, ◌==◌, ◌∙◌, ◌∷◌, ◌≡◌, ◌≤◌}
use Rattle.std.proofs.lemmas.Bool.{and_from}
use Rattle.std.proofs.lemmas.List.FromFn.{length-range_with_len}
use Rattle.std.proofs.lemmas.List.Folds.{list_all-append}
use Rattle.std.proofs.lemmas.Option.{slice_get_within}
use Rattle.tp_types.proofs.EachLemmas.{each_append, each_as, each_get}
use Rattle.tp_types.proofs.ListLemmas.{number_itself}
use Rattle.tp_types.specs.Each.{Each, EachAt}
use Rattle.tp_model.specs.Demand.{agrees_at, first_of, follows, goes_on, is_instance, is_later, is_over, many_of, reads_later}
use Rattle.tp_model.specs.Ids.{same_cred, same_proofs, same_rule, same_verdict}
use Rattle.tp_model.specs.Versions.{is_consistent}
use Rattle.tp_model.specs.Words.scheme
use Rattle.tp_model.specs.Words.{Fact, Instance, Scenario, Scheme, Transaction, TxnId, Verdict, Version}
use Rattle.tp_scheme.specs.Gathered.{pin_of}
use Rattle.tp_runs.proofs.basics.Turns.{AreEarlier, IsEarlierInstance}
use Rattle.tp_runs.proofs.basics.Verdicts.{numbers_of}
use Rattle.tp_runs.proofs.trust.Fit.{Right, has_rule}
use Rattle.tp_runs.proofs.trust.Gathering.{length_numbers, numbers_append, pins_more, range_push, rising_more, take_front}
use Rattle.tp_runs.proofs.trust.Instances.{FollowsLast, IsNext, IsSoFar, IsTimelyReading, later_proofs, next_closed, same_numbers}

-- ---- a proof is gathered

pub gathered_more : (sc : Scenario) (facts : List Fact) (place : ℕ) (txn : TxnId) (declared : Transaction) (number : ℕ) (instances : List Instance) (gathered : List Verdict) (verdict : Verdict) → verdict.query ≡ number + 1
    → Right sc facts place txn verdict → has_rule verdict ≡ true → AreEarlier verdict.place gathered → IfSome (pin_of gathered verdict.admin) (λ (pin : Version). verdict.version ≡ pin)
    → IsSoFar sc facts place txn declared number number instances gathered → IsSoFar sc facts place txn declared number (number + 1) instances (gathered ++ verdict ∷ [])
gathered_more sc facts place txn declared number instances gathered verdict on right true_one above pinned h =
    let many : length gathered ≡ number = sym (length_numbers gathered) ∙ (ap length h.numbers ∙ length-range_with_len 1 number) in
    let closed : length instances ≡ number = h.count in
    let last : verdict.query ≡ 1 + number = omega (arith, on) in
    let all : suc number ≡ number + 1 = omega arith in
    record {
      count = h.count;
      demanded = h.demanded;
      follow = h.follow;
      trusted = h.trusted;
      fronts = λ is n instance there.
          let within : n < length instances = slice_get_within instances n instance there in
          h.fronts is n instance there ∙ sym (take_front gathered verdict (n + 1) (omega (arith, within, closed, many)));
      numbers = numbers_append gathered (verdict ∷ [])
          ∙ (ap (λ (ns : List ℕ). ns ++ verdict.query ∷ []) h.numbers
          ∙ (ap (λ (n : ℕ). range_with_len 1 number ++ n ∷ []) last
          ∙ (range_push 1 number ∙ ap (range_with_len 1) all)));
      right = each_append (Right sc facts place txn) gathered (verdict ∷ []) h.right (right, tt);
      have_rules = list_all-append has_rule gathered (verdict ∷ []) ∙ and_from (list_all has_rule gathered) (list_all has_rule (verdict ∷ [])) h.have_rules (and_from (has_rule verdict) true true_one refl);
      pins = pins_more gathered verdict h.pins pinned;
      rising = rising_more gathered verdict h.rising above;
    }

-- ---- an instance of all that is gathered

itself : {A : Type 0} (same : A → A → Bool) → ((x : A) → same x x ≡ true) → (xs : List A) → pointwise same xs xs ≡ true
itself same own [] = refl
itself same own (x ∷ xs) = and_from (same x x) (pointwise same xs xs) (own x) (itself same own xs)

rule_itself : (rule : Option ℕ) → same_rule rule rule ≡ true
rule_itself None = refl
rule_itself (Some number) = number_itself number

verdict_itself : (verdict : Verdict) → same_verdict verdict verdict ≡ true
verdict_itself verdict =
    and_from _ _ (and_from _ _ (and_from _ _ (and_from _ _ (and_from _ _ (and_from _ _ (number_itself verdict.query) (number_itself verdict.server.0)) (number_itself verdict.admin.0)) (number_itself verdict.version.0))
    (number_itself verdict.place)) (rule_itself verdict.rule)) (itself same_cred (λ cred. number_itself cred.0) verdict.uses)

pub take_length : {A : Type 0} (xs : List A) (many : ℕ) → many ≤ length xs → length (take many xs) ≡ many
take_length xs zero low = refl
take_length [] (suc many) low = absurd (omega (arith, low))
take_length (x ∷ xs) (suc many) low = let rest = take_length xs many (omega (arith, low)) in omega (arith, rest)

-- it goes on with the proofs of an instance that is a front of it, where those behind were made after that instance
front_goes_on : (one : Instance) (many : ℕ) (gathered : List Verdict) (reading : Option ℕ) → one.proofs ≡ take many gathered → many ≤ length gathered → Each (λ (verdict : Verdict). IsEarlierInstance verdict.place one) (drop many gathered)
    → reads_later one.reading reading ≡ true → goes_on one (record { reading = reading; proofs = gathered }) ≡ true
front_goes_on one many gathered reading front low later reads =
    let is : length one.proofs ≡ many = ap length front ∙ take_length gathered many low in
    and_from _ _
    (and_from _ _ (ap (λ (n : ℕ). same_proofs one.proofs (take n gathered)) is ∙ (ap (λ (proofs : List Verdict). same_proofs proofs (take many gathered)) front ∙ itself same_verdict verdict_itself (take many gathered)))
    (ap (λ (n : ℕ). list_all (is_later one) (drop n gathered)) is ∙ later_proofs one (drop many gathered) later)) reads

last_follows : (chosen : Scheme) (instances : List Instance) (next : Instance) → ((n : ℕ) (one : Instance) → slice_get instances n ≡ Some one → n + 1 ≡ length instances → follows chosen one next ≡ true) → FollowsLast chosen instances next
last_follows chosen [] next h = tt
last_follows chosen (one ∷ []) next h = h zero one refl refl
last_follows chosen (one ∷ other ∷ instances) next h = last_follows chosen (other ∷ instances) next (λ n found there last. h (suc n) found there (omega (arith, last)))

-- the proofs that no instance has were made after all instances
abbrev pub AreNewAfter : List Instance → List Verdict → Type 0
AreNewAfter instances gathered = Each (λ (verdict : Verdict). Each (IsEarlierInstance verdict.place) instances) (drop (length instances) gathered)

-- no instance was read later
abbrev pub AreReadBefore : List Instance → Option ℕ → Type 0
AreReadBefore instances reading = Each (λ (one : Instance). reads_later one.reading reading ≡ true) instances

-- so it follows the last one that is closed
front_follows : (chosen : Scheme) (instances : List Instance) (gathered : List Verdict) (reading : Option ℕ) → chosen ≡ scheme.Incremental → EachAt (λ (n : ℕ) (instance : Instance). instance.proofs ≡ take (n + 1) gathered) instances
    → length instances ≤ length gathered → AreNewAfter instances gathered → AreReadBefore instances reading → FollowsLast chosen instances (record { reading = reading; proofs = gathered })
front_follows chosen instances gathered reading incremental fronts low later reads =
    let next : Instance = record { reading = reading; proofs = gathered } in
    last_follows chosen instances next
    (λ n one there last.
    ap (λ (s : Scheme). follows s one next) incremental
    ∙ front_goes_on one (n + 1) gathered reading (fronts n one there) (omega (arith, last, low))
    (each_as (λ (verdict : Verdict). Each (IsEarlierInstance verdict.place) instances) (λ (verdict : Verdict). IsEarlierInstance verdict.place one) (λ verdict earlier. each_get (IsEarlierInstance verdict.place) instances n one earlier there) (drop (n + 1) gathered)
    (subst (λ (k : ℕ). Each (λ (verdict : Verdict). Each (IsEarlierInstance verdict.place) instances) (drop k gathered)) (sym last) later))
    (each_get (λ (other : Instance). reads_later other.reading reading ≡ true) instances n one reads there))

-- and is what the scheme demands of an instance of this number
front_demanded : (sc : Scenario) (facts : List Fact) (declared : Transaction) (number many : ℕ) (gathered : List Verdict) (reading : Option ℕ) → declared.scheme ≡ scheme.Incremental → min number (length declared.queries) ≡ many
    → numbers_of gathered ≡ range_with_len 1 many → is_consistent sc declared facts (record { reading = reading; proofs = gathered }) ≡ true → is_instance sc facts declared number (record { reading = reading; proofs = gathered }) ≡ true
front_demanded sc facts declared number many gathered reading incremental up_to numbers consistent =
    let queries = length declared.queries in
    let agrees = is_consistent sc declared facts (record { reading = reading; proofs = gathered }) in
    let over : is_over 1 many gathered ≡ true = ap (λ (ns : List ℕ). pointwise ◌==◌ ns (range_with_len 1 many)) numbers ∙ same_numbers (range_with_len 1 many) in
    ap (λ (s : Scheme). is_over (first_of s queries number) (many_of s queries number) gathered && (if agrees_at s queries number then agrees else is_none reading)) incremental
    ∙ and_from (is_over 1 (min number queries) gathered) agrees (ap (λ (n : ℕ). is_over 1 n gathered) up_to ∙ over) consistent

take_whole : (proofs : List Verdict) (many : ℕ) → many ≡ length proofs → proofs ≡ take many proofs
take_whole [] zero e = refl
take_whole [] (suc many) e = refl
take_whole (proof ∷ proofs) zero e = absurd (omega (arith, e))
take_whole (proof ∷ proofs) (suc many) e = ap (λ (rest : List Verdict). proof ∷ rest) (take_whole proofs many (omega (arith, e)))

-- a front of so many queries
pub next_front : (sc : Scenario) (facts : List Fact) (place : ℕ) (txn : TxnId) (declared : Transaction) (closed many : ℕ) (instances : List Instance) (gathered : List Verdict) (reading : Option ℕ) → declared.scheme ≡ scheme.Incremental
    → min (closed + 1) (length declared.queries) ≡ many → closed ≤ many → is_consistent sc declared facts (record { reading = reading; proofs = gathered }) ≡ true
    → AreNewAfter instances gathered → AreReadBefore instances reading → IsSoFar sc facts place txn declared closed many instances gathered → IsNext sc facts declared instances (record { reading = reading; proofs = gathered })
next_front sc facts place txn declared closed many instances gathered reading incremental up_to low consistent later reads h =
    let all : length gathered ≡ many = sym (length_numbers gathered) ∙ (ap length h.numbers ∙ length-range_with_len 1 many) in
    let count : length instances ≡ closed = h.count in
    let this : closed + 1 ≡ 1 + length instances = omega (arith, count) in
    record {
      demanded = front_demanded sc facts declared (1 + length instances) many gathered reading incremental (ap (λ (n : ℕ). min n (length declared.queries)) (sym this) ∙ up_to) h.numbers consistent;
      follows_last = front_follows declared.scheme instances gathered reading incremental (h.fronts incremental) (omega (arith, low, all, count)) later reads;
    }

-- after a query's proof an instance of all is closed
pub front_closed : (sc : Scenario) (facts : List Fact) (place : ℕ) (txn : TxnId) (declared : Transaction) (number : ℕ) (instances : List Instance) (gathered : List Verdict) (reading : Option ℕ) → declared.scheme ≡ scheme.Incremental
    → number + 1 ≤ length declared.queries → is_consistent sc declared facts (record { reading = reading; proofs = gathered }) ≡ true → IfSome reading (IsTimelyReading facts place txn) → AreNewAfter instances gathered → AreReadBefore instances reading
    → IsSoFar sc facts place txn declared number (number + 1) instances gathered
    → IsSoFar sc facts place txn declared (number + 1) (number + 1) (instances ++ record { reading = reading; proofs = gathered } ∷ []) gathered
front_closed sc facts place txn declared number instances gathered reading incremental most consistent timely later reads h =
    let all : length gathered ≡ number + 1 = sym (length_numbers gathered) ∙ (ap length h.numbers ∙ length-range_with_len 1 (number + 1)) in
    next_closed sc facts place txn declared number (number + 1) instances gathered (record { reading = reading; proofs = gathered })
    (next_front sc facts place txn declared number (number + 1) instances gathered reading incremental (omega (arith, most)) (omega arith) consistent later reads h)
    (record { right = h.right; have_rules = h.have_rules; timely = timely }) (λ chosen. take_whole gathered (number + 1) (omega (arith, all))) h
