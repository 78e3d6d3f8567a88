-- Laws of what is looked up in a list of facts that grows, and of one master.
use Rattle.std.proofs.Common.{◌≡◌, ℕ, ◌+◌, ◌<◌, ◌≤◌, ◌==◌, ◌||◌, max, List, [], ◌∷◌, ◌++◌, length, take, slice_get, Bool, true, false, Option, Some, None, zero, suc, refl, sym, ap, subst, arith, ◌∙◌, inl, inr, if◌then◌else◌}
use Rattle.tp_types.specs.Each.{Each}
use Rattle.tp_quorum.proofs.Lists.{got_within, grown, take_before, take_whole}
use Rattle.tp_quorum.specs.OneMaster.{Beginning, Follows, OneMaster, before_start, beginning_by, beginning_of, begins, count_of, ends, has_ended}
use Rattle.tp_quorum.specs.QuorumView.{end_by, end_of}
use Rattle.tp_quorum.specs.Words.{Operation, QFact, QWhat, Version}
use Rattle.tp_quorum.specs.Words.what

-- ---- counts and look-ups in lists that grow

-- 1 where a fact passes a test
abbrev pub counted : (QWhat → Bool) → QWhat → ℕ
counted test said = if test said then 1 else 0

pub count_grown : (test : QWhat → Bool) (facts : List QFact) (fact : QFact) → count_of test (facts ++ fact ∷ []) ≡ count_of test facts + counted test fact.what
count_grown test [] fact = by (test fact.what)
  where
    by : (b : Bool) → (if b then 0 + 1 else 0) ≡ 0 + (if b then 1 else 0)
    by true = omega arith
    by false = omega arith
count_grown test (first ∷ facts) fact = by (test first.what) (count_grown test facts fact)
  where
    by : (b : Bool) → count_of test (facts ++ fact ∷ []) ≡ count_of test facts + counted test fact.what
        → (if b then count_of test (facts ++ fact ∷ []) + 1 else count_of test (facts ++ fact ∷ [])) ≡ (if b then count_of test facts + 1 else count_of test facts) + counted test fact.what
    by true later = omega (arith, later)
    by false later = later

pub ended_grown : (op : ℕ) (facts : List QFact) (fact : QFact) → has_ended op (facts ++ fact ∷ []) ≡ (has_ended op facts || ends op fact.what)
ended_grown op [] fact = by (ends op fact.what)
  where
    by : (b : Bool) → (b || false) ≡ b
    by true = refl
    by false = refl
ended_grown op (first ∷ facts) fact = by (ends op first.what) (ended_grown op facts fact)
  where
    by : (b : Bool) → has_ended op (facts ++ fact ∷ []) ≡ (has_ended op facts || ends op fact.what) → (b || has_ended op (facts ++ fact ∷ [])) ≡ ((b || has_ended op facts) || ends op fact.what)
    by true later = refl
    by false later = later

-- who ended with a version has ended, and with this version still
pub ended_at : (op : ℕ) (facts : List QFact) (version : Version) → end_of op facts ≡ Some version → has_ended op facts ≡ true
ended_at op [] version e = absurd (cc)
ended_at op (first ∷ facts) version e = by (ends op first.what) (ended_at op facts version) e
  where
    by : (b : Bool) → (end_of op facts ≡ Some version → has_ended op facts ≡ true) → (if b then end_by first.what else end_of op facts) ≡ Some version → (b || has_ended op facts) ≡ true
    by true later here = refl
    by false later there = later there

pub end_stays : (op : ℕ) (facts : List QFact) (fact : QFact) (version : Version) → end_of op facts ≡ Some version → end_of op (facts ++ fact ∷ []) ≡ Some version
end_stays op [] fact version e = absurd (cc)
end_stays op (first ∷ facts) fact version e = by (ends op first.what) (end_stays op facts fact version) e
  where
    by : (b : Bool) → (end_of op facts ≡ Some version → end_of op (facts ++ fact ∷ []) ≡ Some version) → (if b then end_by first.what else end_of op facts) ≡ Some version
        → (if b then end_by first.what else end_of op (facts ++ fact ∷ [])) ≡ Some version
    by true later here = here
    by false later there = later there

-- who has not ended has no version
pub no_end : (op : ℕ) (facts : List QFact) → has_ended op facts ≡ false → end_of op facts ≡ None
no_end op [] e = refl
no_end op (first ∷ facts) e = by (ends op first.what) (no_end op facts) e
  where
    by : (b : Bool) → (has_ended op facts ≡ false → end_of op facts ≡ None) → (b || has_ended op facts) ≡ false → (if b then end_by first.what else end_of op facts) ≡ None
    by true later here = absurd (cc)
    by false later there = later there

-- it ends
pub end_now : (op : ℕ) (facts : List QFact) (fact : QFact) → has_ended op facts ≡ false → ends op fact.what ≡ true → end_of op (facts ++ fact ∷ []) ≡ end_by fact.what
end_now op [] fact none e = ap (λ (b : Bool). if b then end_by fact.what else None) e
end_now op (first ∷ facts) fact none e = by (ends op first.what) (λ rest. end_now op facts fact rest e) none
  where
    by : (b : Bool) → (has_ended op facts ≡ false → end_of op (facts ++ fact ∷ []) ≡ end_by fact.what) → (b || has_ended op facts) ≡ false
        → (if b then end_by first.what else end_of op (facts ++ fact ∷ [])) ≡ end_by fact.what
    by true later here = absurd (cc)
    by false later there = later there

-- who has begun has begun so still
pub begun_stays : (op : ℕ) (facts : List QFact) (fact : QFact) (begun : Beginning) → beginning_of op facts ≡ Some begun → beginning_of op (facts ++ fact ∷ []) ≡ Some begun
begun_stays op [] fact begun e = absurd (cc)
begun_stays op (first ∷ facts) fact begun e = by (begins op first.what) (begun_stays op facts fact begun) e
  where
    by : (b : Bool) → (beginning_of op facts ≡ Some begun → beginning_of op (facts ++ fact ∷ []) ≡ Some begun)
        → (if b then beginning_by first.what else beginning_of op facts) ≡ Some begun → (if b then beginning_by first.what else beginning_of op (facts ++ fact ∷ [])) ≡ Some begun
    by true later here = here
    by false later there = later there

-- and the facts before that stay
pub start_stays : (op : ℕ) (facts : List QFact) (fact : QFact) (begun : Beginning) → beginning_of op facts ≡ Some begun → before_start op (facts ++ fact ∷ []) ≡ before_start op facts
start_stays op [] fact begun e = absurd (cc)
start_stays op (first ∷ facts) fact begun e = by (begins op first.what) (start_stays op facts fact begun) e
  where
    by : (b : Bool) → (beginning_of op facts ≡ Some begun → before_start op (facts ++ fact ∷ []) ≡ before_start op facts)
        → (if b then beginning_by first.what else beginning_of op facts) ≡ Some begun → (if b then [] else first ∷ before_start op (facts ++ fact ∷ [])) ≡ (if b then [] else first ∷ before_start op facts)
    by true later here = refl
    by false later there = ap (λ (fs : List QFact). first ∷ fs) (later there)

-- no fact is the operation's beginning
abbrev pub IsUnbegun : ℕ → List QFact → Type 0
IsUnbegun op facts = Each (λ (fact : QFact). begins op fact.what ≡ false) facts

-- it begins
pub begun_now : (op : ℕ) (facts : List QFact) (fact : QFact) → IsUnbegun op facts → begins op fact.what ≡ true → beginning_of op (facts ++ fact ∷ []) ≡ beginning_by fact.what
begun_now op [] fact none e = ap (λ (b : Bool). if b then beginning_by fact.what else None) e
begun_now op (first ∷ facts) fact none e = ap (λ (b : Bool). if b then beginning_by first.what else beginning_of op (facts ++ fact ∷ [])) none.0 ∙ begun_now op facts fact none.1 e

pub start_now : (op : ℕ) (facts : List QFact) (fact : QFact) → IsUnbegun op facts → begins op fact.what ≡ true → before_start op (facts ++ fact ∷ []) ≡ facts
start_now op [] fact none e = ap (λ (b : Bool). if b then [] else fact ∷ []) e
start_now op (first ∷ facts) fact none e =
    ap (λ (b : Bool). if b then [] else first ∷ before_start op (facts ++ fact ∷ [])) none.0 ∙ ap (λ (fs : List QFact). first ∷ fs) (start_now op facts fact none.1 e)

-- the facts before a beginning are the first facts
pub got_start : (op : ℕ) (facts : List QFact) (n : ℕ) (fact : QFact) → slice_get (before_start op facts) n ≡ Some fact → slice_get facts n ≡ Some fact
got_start op [] n fact e = absurd (cc)
got_start op (first ∷ facts) n fact e = by (begins op first.what) (λ k there. got_start op facts k fact there) n e
  where
    by : (b : Bool) → ((k : ℕ) → slice_get (before_start op facts) k ≡ Some fact → slice_get facts k ≡ Some fact)
        → (k : ℕ) → slice_get (if b then [] else first ∷ before_start op facts) k ≡ Some fact → slice_get (first ∷ facts) k ≡ Some fact
    by true later k there = absurd (cc)
    by false later zero there = there
    by false later (suc k) there = later k there

pub each_start : (P : QFact → Type 0) (op : ℕ) (facts : List QFact) → Each P facts → Each P (before_start op facts)
each_start P op [] each = tt
each_start P op (first ∷ facts) each = by (begins op first.what) (each_start P op facts each.1)
  where
    by : (b : Bool) → Each P (before_start op facts) → Each P (if b then [] else first ∷ before_start op facts)
    by true later = tt
    by false later = (each.0, later)

-- ---- the greatest version with which an operation of an administrator has ended

abbrev pub is_of_found : ℕ → Option Operation → Bool
is_of_found admin None = false
is_of_found admin (Some o) = o.admin.0 == admin

abbrev pub is_of : List Operation → ℕ → ℕ → Bool
is_of ops admin op = is_of_found admin (slice_get ops op)

abbrev pub ended_by : List Operation → ℕ → QWhat → ℕ
ended_by ops admin (what.Ended op version) = if is_of ops admin op then version.0 else 1
ended_by ops admin _ = 1

-- or the first version, if none has
abbrev pub most_ended : List Operation → ℕ → List QFact → ℕ
most_ended ops admin [] = 1
most_ended ops admin (fact ∷ facts) = max (ended_by ops admin fact.what) (most_ended ops admin facts)

pub most_some : (ops : List Operation) (admin : ℕ) (facts : List QFact) → 1 ≤ most_ended ops admin facts
most_some ops admin [] = omega arith
most_some ops admin (fact ∷ facts) = omega (arith, most_some ops admin facts)

pub most_grown : (ops : List Operation) (admin : ℕ) (facts : List QFact) (fact : QFact) → most_ended ops admin (facts ++ fact ∷ []) ≡ max (most_ended ops admin facts) (ended_by ops admin fact.what)
most_grown ops admin [] fact = omega arith
most_grown ops admin (first ∷ facts) fact = omega (arith, most_grown ops admin facts fact)

-- each operation that has ended is there
abbrev pub EndIsThere : List Operation → QWhat → Type 0
EndIsThere ops (what.Ended op version) = op < length ops
EndIsThere ops _ = Unit {0}

-- these operations have these administrators still
abbrev pub AdminsStay : List Operation → List Operation → Type 0
AdminsStay ops next = (admin op : ℕ) → op < length ops → is_of next admin op ≡ is_of ops admin op

ended_same : (ops next : List Operation) (admin : ℕ) → AdminsStay ops next → (said : QWhat) → EndIsThere ops said → ended_by next admin said ≡ ended_by ops admin said
ended_same ops next admin stay (what.Ended op version) there = ap (λ (b : Bool). if b then version.0 else 1) (stay admin op there)
ended_same ops next admin stay (what.Began op other reader version) there = refl

pub most_same : (ops next : List Operation) (admin : ℕ) → AdminsStay ops next → (facts : List QFact) → Each (λ (fact : QFact). EndIsThere ops fact.what) facts → most_ended next admin facts ≡ most_ended ops admin facts
most_same ops next admin stay [] there = refl
most_same ops next admin stay (fact ∷ facts) there =
    let first = ended_same ops next admin stay fact.what there.0 in
    let later = most_same ops next admin stay facts there.1 in
    omega (arith, first, later)

-- each of them ended with at most that
pub most_of : (ops : List Operation) (admin : ℕ) (facts : List QFact) (n op : ℕ) (fact : QFact) (found : Version) → slice_get facts n ≡ Some fact → fact.what ≡ what.Ended op found → is_of ops admin op ≡ true → found.0 ≤ most_ended ops admin facts
most_of ops admin [] n op fact found there is own = absurd (cc)
most_of ops admin (first ∷ facts) zero op fact found there is own =
    let same : first ≡ fact = cc in
    let said : first.what ≡ what.Ended op found = ap (λ (f : QFact). f.what) same ∙ is in
    let here : ended_by ops admin first.what ≡ (if is_of ops admin op then found.0 else 1) = ap (ended_by ops admin) said in
    let value : (if is_of ops admin op then found.0 else 1) ≡ found.0 = ap (λ (b : Bool). if b then found.0 else 1) own in
    omega (arith, here, value)
most_of ops admin (first ∷ facts) (suc n) op fact found there is own = omega (arith, most_of ops admin facts n op fact found there is own)

-- ---- one master

-- a fact that may come behind the others comes behind them, at a later place
pub one_master_pushed : (facts : List QFact) (fact : QFact) → OneMaster facts → Each (λ (earlier : QFact). earlier.place < fact.place) facts → Follows facts fact.what → OneMaster (facts ++ fact ∷ [])
one_master_pushed facts fact master past may = record { follows = follows; later = later }
  where
    follows : (n : ℕ) (found : QFact) → slice_get (facts ++ fact ∷ []) n ≡ Some found → Follows (take n (facts ++ fact ∷ [])) found.what
    follows n found e =
        elim (grown facts fact found n e) [
          | inl there ↦
              let within = got_within facts n found there in
              let same : take n (facts ++ fact ∷ []) ≡ take n facts = take_before facts fact n (omega (arith, within)) in
              subst (λ (before : List QFact). Follows before found.what) (sym same) (master.follows n found there)
          | inr last ↦
              let same : take n (facts ++ fact ∷ []) ≡ facts = ap (λ (k : ℕ). take k (facts ++ fact ∷ [])) last.0 ∙ take_before facts fact (length facts) (omega arith) ∙ take_whole facts in
              let here : Follows facts found.what = subst (λ (f : QFact). Follows facts f.what) last.1 may in
              subst (λ (before : List QFact). Follows before found.what) (sym same) here
        ]

    past_at : (earlier : List QFact) (n : ℕ) (found : QFact) → Each (λ (other : QFact). other.place < fact.place) earlier → slice_get earlier n ≡ Some found → found.place < fact.place
    past_at [] n found each e = absurd (cc)
    past_at (first ∷ earlier) zero found each e = let same : first ≡ found = cc in subst (λ (f : QFact). f.place < fact.place) same each.0
    past_at (first ∷ earlier) (suc n) found each e = past_at earlier n found each.1 e

    later : (n : ℕ) (found next : QFact) → slice_get (facts ++ fact ∷ []) n ≡ Some found → slice_get (facts ++ fact ∷ []) (n + 1) ≡ Some next → found.place < next.place
    later n found next e f =
        elim (grown facts fact next (n + 1) f) [
          | inl there ↦
              elim (grown facts fact found n e) [
                | inl before ↦ master.later n found next before there
                | inr last ↦ absurd (omega (arith, last.0, got_within facts (n + 1) next there))
              ]
          | inr last ↦
              elim (grown facts fact found n e) [
                | inl before ↦ subst (λ (f : QFact). found.place < f.place) last.1 (past_at facts n found past before)
                | inr also ↦ absurd (omega (arith, last.0, also.0))
              ]
        ]

pub one_master_empty : OneMaster []
one_master_empty = record { follows = λ n fact e. absurd (cc); later = λ n fact next e f. absurd (cc) }
