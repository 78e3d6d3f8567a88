-- What a closed cluster says of its book, beside the passes of all callers.
use Rattle.std.proofs.Common.{◌≡◌, ℕ, ◌+◌, ◌<◌, ◌≤◌, ◌==◌, List, [], ◌∷◌, ◌++◌, length, flat_map, Bool, true, false, cond, nat_lt, refl, sym, ap, ◌∙◌, subst, append_assoc, length-append, arith}
use Rattle.std.proofs.lemmas.Bool.Decides.{nat_tests}
use Rattle.std.proofs.lemmas.List.{map-append}
use Rattle.std.proofs.lemmas.List.Concat.{flat_map-append}
use Rattle.tp_machine.specs.Moves.{number_of}
use Rattle.tp_model.specs.Words.{Scenario}
use Rattle.tp_types.specs.Each.{Each}
use Rattle.tp_wire.specs.declared.view.Entry.{Entry}
use Rattle.tp_wire.specs.declared.view.Part.{Part}
use Rattle.tp_wire.specs.declared.view.View.{View}
use Rattle.tp_wire.specs.Closing.{HasParts, own, parts_of, taken_in}
use Rattle.tp_wire.specs.Entries.{steps_in}
use Rattle.tp_wire.specs.History.{HasOneActor, Lawful, NamesBelow, StartsWith, names, numbers_of, one_if, times, times_below}
use Rattle.tp_wire.proofs.ListLemmas.{each_front, times-append}
use Rattle.tp_wire.proofs.EntryLemmas.{length-steps}
use Rattle.tp_cluster.specs.declared.plan.Plan.{Plan}
use Rattle.tp_cluster.specs.Calls.{IsClosedWorld}
use Rattle.tp_cluster.specs.Runs.{IsNext, actors_of}
use Rattle.tp_machine.specs.WorldView.{WorldView}
use Rattle.tp_race.specs.Finish.{HasCallers, IsBook, own_of, standing}

-- ---- each entry of a history

-- what follows of each entry from its law and from what else holds of it
each_next : (sc : Scenario) (Q R : Entry → Type 0) → ((before : List Entry) (e : Entry) → IsNext sc before e → Q e → R e)
    → (before rest : List Entry) → Lawful (IsNext sc) (before ++ rest) → Each Q rest → Each R rest
each_next sc Q R step before [] lawful each = tt
each_next sc Q R step before (e ∷ rest) lawful each =
    let same : (before ++ e ∷ []) ++ rest ≡ before ++ e ∷ rest = append_assoc before (e ∷ []) rest in
    (step before e (lawful before e rest refl) each.0, each_next sc Q R step (before ++ e ∷ []) rest (subst (Lawful (IsNext sc)) (sym same) lawful) each.1)

-- two facts of each
each_pair : (P Q : Entry → Type 0) (log : List Entry) → Each P log → Each Q log → Each (λ (e : Entry). P e × Q e) log
each_pair P Q [] h k = tt
each_pair P Q (e ∷ log) h k = ((h.0, k.0), each_pair P Q log h.1 k.1)

-- ---- the parts in which an entry stands

-- of two numbers, a part has one or the other or none
one_name : (n c a : ℕ) → a < c → one_if (nat_lt 0 (one_if (c == n) + (one_if (a == n) + 0))) ≡ one_if (n == c) + one_if (n == a)
one_name n c a low = by_tests (c == n) (a == n) refl refl
  where
    by_tests : (b d : Bool) → (c == n) ≡ b → (a == n) ≡ d → one_if (nat_lt 0 (one_if b + (one_if d + 0))) ≡ one_if (n == c) + one_if (n == a)
    by_tests true true e f = absurd (let first : c ≡ n = grind (arith, nat_tests, e) in let second : a ≡ n = grind (arith, nat_tests, f) in omega (arith, low, first, second))
    by_tests true false e f = let turned : (n == c) ≡ true = grind (arith, nat_tests, e) in let other : (n == a) ≡ false = grind (arith, nat_tests, f) in omega (arith, ap one_if turned, ap one_if other)
    by_tests false true e f = let turned : (n == c) ≡ false = grind (arith, nat_tests, e) in let other : (n == a) ≡ true = grind (arith, nat_tests, f) in omega (arith, ap one_if turned, ap one_if other)
    by_tests false false e f = let turned : (n == c) ≡ false = grind (arith, nat_tests, e) in let other : (n == a) ≡ false = grind (arith, nat_tests, f) in omega (arith, ap one_if turned, ap one_if other)

standing_by : (c a : ℕ) (parts : List Part) (e : Entry) → a < c → e.numbers ≡ c ∷ a ∷ [] → standing parts e ≡ times c (numbers_of parts) + times a (numbers_of parts)
standing_by c a [] e low is = refl
standing_by c a (p ∷ parts) e low is =
    let here : one_if (names p.number e) ≡ one_if (p.number == c) + one_if (p.number == a) =
    ap (λ (ns : List ℕ). one_if (nat_lt 0 (times p.number ns))) is ∙ one_name p.number c a low in
    omega (arith, here, standing_by c a parts e low is)

-- a number that stands in one list of two, which have none twice, does not stand in the other
not_here : (here there : ℕ) → here + there ≤ 1 → 1 ≤ there → here ≡ 0
not_here here there most least = omega (arith, most, least)

-- the second of two numbers is below the actors' end where just one is, and the first is not
second_low : (actors c a : ℕ) → actors ≤ c → times_below actors (c ∷ a ∷ []) ≡ 1 → a < actors
second_low actors c a high one =
    let first : nat_lt c actors ≡ false = grind (arith, nat_tests, high) in
    by_test (nat_lt a actors) refl (omega (arith, one, ap one_if first))
  where
    by_test : (b : Bool) → nat_lt a actors ≡ b → one_if (nat_lt a actors) ≡ 1 → a < actors
    by_test true e only = grind (arith, nat_tests, e)
    by_test false e only = absurd (omega (arith, only, ap one_if e))

-- each entry stands in just one caller's part
held_once : (sc : Scenario) (callers : ℕ) (parts offices : List Part) → ((number : ℕ) → times number (numbers_of parts) + times number (numbers_of offices) ≤ 1)
    → ((number : ℕ) → actors_of sc ≤ number → number < actors_of sc + callers → 1 ≤ times number (numbers_of parts)) → HasParts (actors_of sc) offices
    → (before : List Entry) (e : Entry) → IsNext sc before e → HasOneActor (actors_of sc) e × NamesBelow (actors_of sc + callers) e
    → standing parts e ≡ 1
held_once sc callers parts offices apart has held before e n q =
    let who : ℕ = number_of sc n.who in
    let within : Each (λ (number : ℕ). number < actors_of sc + callers) (n.caller ∷ who ∷ []) = subst (Each (λ (number : ℕ). number < actors_of sc + callers)) n.numbers q.1 in
    let one : times_below (actors_of sc) (n.caller ∷ who ∷ []) ≡ 1 = ap (times_below (actors_of sc)) (sym n.numbers) ∙ q.0 in
    let low : who < actors_of sc = second_low (actors_of sc) n.caller who n.called one in
    let mine : 1 ≤ times n.caller (numbers_of parts) = has n.caller n.called within.0 in
    let others : times who (numbers_of parts) ≡ 0 = not_here (times who (numbers_of parts)) (times who (numbers_of offices)) (apart who) (held who low) in
    let whole = standing_by n.caller who parts e (omega (arith, low, n.called)) n.numbers in
    omega (arith, whole, mine, others, apart n.caller)

-- ---- the entries of all parts together

own_length : (b : Bool) (e : Entry) (rest : List Entry) → length (cond b (e ∷ rest) rest) ≡ one_if b + length rest
own_length true e rest = omega arith
own_length false e rest = omega arith

more_together : (parts : List Part) (e : Entry) (log : List Entry)
    → length (flat_map (λ (p : Part). own p.number (e ∷ log)) parts) ≡ standing parts e + length (flat_map (λ (p : Part). own p.number log) parts)
more_together [] e log = refl
more_together (p ∷ parts) e log =
    omega (
      arith,
      more_together parts e log,
      own_length (names p.number e) e (own p.number log),
      length-append (own p.number (e ∷ log)) (flat_map (λ (q : Part). own q.number (e ∷ log)) parts),
      length-append (own p.number log) (flat_map (λ (q : Part). own q.number log) parts),
    )

none_together : (parts : List Part) → length (flat_map (λ (p : Part). own p.number []) parts) ≡ 0
none_together [] = refl
none_together (p ∷ parts) = none_together parts

all_together : (parts : List Part) (log : List Entry) → Each (λ (e : Entry). standing parts e ≡ 1) log → length (flat_map (λ (p : Part). own p.number log) parts) ≡ length log
all_together parts [] each = none_together parts
all_together parts (e ∷ log) each = omega (arith, more_together parts e log, each.0, all_together parts log each.1)

in_whole : (log : List Entry) (parts : List Part) → Each (λ (p : Part). own_of p ≡ own p.number log) parts → flat_map own_of parts ≡ flat_map (λ (p : Part). own p.number log) parts
in_whole log [] each = refl
in_whole log (p ∷ parts) each =
    ap (λ (es : List Entry). es ++ flat_map own_of parts) each.0 ∙ ap (λ (es : List Entry). own p.number log ++ es) (in_whole log parts each.1)

-- ---- beginnings

steps_append : (xs ys : List Entry) → steps_in (xs ++ ys) ≡ steps_in xs ++ steps_in ys
steps_append xs ys = map-append (λ (e : Entry). e.step) xs ys

begun_all : (log : List Entry) (views : List View) → Each (λ (v : View). StartsWith log v.seen) views → Each (λ (v : View). StartsWith (steps_in log) (steps_in v.seen)) views
begun_all log [] each = tt
begun_all log (v ∷ views) each = ((steps_in each.0.0, sym (steps_append v.seen each.0.0) ∙ ap steps_in each.0.1), begun_all log views each.1)

-- ---- the whole

parts_both : (views offices : List View) → parts_of (views ++ offices) ≡ parts_of views ++ parts_of offices
parts_both views offices = flat_map-append (λ (v : View). v.parts) views offices

numbers_both : (views offices : List View) (number : ℕ) → times number (numbers_of (parts_of (views ++ offices))) ≡ times number (numbers_of (parts_of views)) + times number (numbers_of (parts_of offices))
numbers_both views offices number =
    ap (λ (ps : List Part). times number (numbers_of ps)) (parts_both views offices)
    ∙ (ap (times number) (map-append (λ (p : Part). p.number) (parts_of views) (parts_of offices))
    ∙ times-append number (numbers_of (parts_of views)) (numbers_of (parts_of offices)))

taken_both : (views offices : List View) (mail : ℕ) → times mail (taken_in (parts_of (views ++ offices))) ≡ times mail (taken_in (parts_of views)) + times mail (taken_in (parts_of offices))
taken_both views offices mail =
    ap (λ (ps : List Part). times mail (taken_in ps)) (parts_both views offices)
    ∙ (ap (times mail) (flat_map-append (λ (p : Part). p.took) (parts_of views) (parts_of offices))
    ∙ times-append mail (taken_in (parts_of views)) (taken_in (parts_of offices)))

-- what a closed cluster says of its book
pub book_of : (plan : Plan) (views : List View) (world : WorldView) (closed : IsClosedWorld plan views world) → HasCallers plan (parts_of views) → IsBook plan.scenario views closed.book.steps
book_of plan views world c has =
    let k = c.closed in
    let front : Each (λ (p : Part). own_of p ≡ own p.number k.log) (parts_of views) =
    each_front (λ (p : Part). own_of p ≡ own p.number k.log) (parts_of views) (parts_of c.offices) (subst (Each (λ (p : Part). own_of p ≡ own p.number k.log)) (parts_both views c.offices) k.in_order) in
    let once : Each (λ (e : Entry). standing (parts_of views) e ≡ 1) k.log =
    each_next plan.scenario (λ (e : Entry). HasOneActor (actors_of plan.scenario) e × NamesBelow (actors_of plan.scenario + plan.callers) e)
    (λ (e : Entry). standing (parts_of views) e ≡ 1)
    (held_once plan.scenario plan.callers (parts_of views) (parts_of c.offices) (λ number. subst (λ (n : ℕ). n ≤ 1) (numbers_both views c.offices number) (k.apart number)) has c.held)
    [] k.log k.lawful
    (each_pair (HasOneActor (actors_of plan.scenario)) (NamesBelow (actors_of plan.scenario + plan.callers)) k.log k.acted k.named) in
    record {
      log = k.log;
      steps = k.steps;
      lawful = k.lawful;
      of_one = once;
      in_order = front;
      together = ap (λ (es : List Entry). length es) (in_whole k.log (parts_of views) front)
          ∙ (all_together (parts_of views) k.log once ∙ (sym (length-steps k.log) ∙ ap (λ ss. length ss) (sym k.steps)));
      begun = subst (λ (ss : List _). Each (λ (v : View). StartsWith ss (steps_in v.seen)) views) (sym k.steps)
          (begun_all k.log views (each_front (λ (v : View). StartsWith k.log v.seen) views c.offices k.seen));
      taken_once = λ mail. omega (arith, k.taken_once mail, taken_both views c.offices mail);
      taken_sent = λ mail some. subst (λ (n : ℕ). mail < n) (ap (λ ms. length ms) k.mails) (k.taken_sent mail (omega (arith, some, taken_both views c.offices mail)));
    }
