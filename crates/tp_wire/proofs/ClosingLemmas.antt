-- What the closed book is, from what the seat knows that took all passes in.
use Rattle.std.proofs.Common.{◌≡◌, ℕ, ◌+◌, ◌<◌, ◌≤◌, ◌==◌, ◌||◌, ◌&&◌, List, [], ◌∷◌, ◌++◌, length, flat_map, take, cond, true, false, Bool, refl, sym, ap, ◌∙◌, subst, append_assoc, append-nil, arith}
use Rattle.std.proofs.lemmas.Bool.Decides.{nat_tests}
use Rattle.std.specs.Prelude.{nat_lt}
use Rattle.tp_types.specs.declared.fact.Fact.{Fact}
use Rattle.tp_types.specs.declared.mail.Mail.{Mail}
use Rattle.tp_types.specs.declared.scenario.Step.{Step}
use Rattle.tp_types.specs.Each.{Each}
use Rattle.tp_types.proofs.EachLemmas.{each_as}
use Rattle.tp_wire.specs.declared.book.Book.{Book}
use Rattle.tp_wire.specs.declared.view.Entry.{Entry}
use Rattle.tp_wire.specs.declared.view.Part.{Part}
use Rattle.tp_wire.specs.declared.view.View.{View}
use Rattle.tp_wire.specs.Closing.{IsClosed, HasParts, parts_of, taken_in, own, holders}
use Rattle.tp_wire.specs.Entries.{steps_in, facts_in, mails_in, sent_in}
use Rattle.tp_wire.specs.History.{StartsWith, Misses, HasOneActor, IsPart, one_if, times, times_below, names, numbers_of, taken_from, taken_by}
use Rattle.tp_wire.specs.Passes.{joined}
use Rattle.tp_wire.specs.mirrors.Locked.{IsLocked}
use Rattle.tp_wire.specs.mirrors.Moves.{Holds, all_joined}
use Rattle.tp_wire.proofs.ListLemmas.{starts_trans, take_more_begins, times-append, each_back}
use Rattle.tp_wire.proofs.EntryLemmas.{length-mails, sent_begins}
use Rattle.tp_wire.proofs.LockedLemmas.{keeps_book}

-- ---- the entries of a part

own_step : (b : Bool) (x : Entry) (xs ys : List Entry) → xs ≡ ys → cond b (x ∷ xs) xs ≡ cond b (x ∷ ys) ys
own_step true x xs ys e = ap (λ (l : List Entry). x ∷ l) e
own_step false x xs ys e = e

missed : (number : ℕ) (more : List Entry) → Each (Misses number) more → own number more ≡ []
missed number [] none = refl
missed number (x ∷ more) none =
    let off : names number x ≡ false = ap (nat_lt 0) none.0 in
    rw off (missed number more none.1)

own_front : (number : ℕ) (xs more : List Entry) → Each (Misses number) more → own number xs ≡ own number (xs ++ more)
own_front number [] more none = sym (missed number more none)
own_front number (x ∷ xs) more none = own_step (names number x) x _ _ (own_front number xs more none)

own_whole : (log : List Entry) (p : Part) → IsPart log p → own p.number p.upto ≡ own p.number log
own_whole log p h = own_front p.number p.upto h.0 h.2 ∙ ap (own p.number) h.1

-- ---- the mails of all parts

eq_turned : (m n : ℕ) → (m == n) ≡ (n == m)
eq_turned m n = grind (arith, nat_tests)

no_choice : (b : Bool) (n : ℕ) → cond b n n ≡ n
no_choice true n = refl
no_choice false n = refl

abbrev taken_all : ℕ → List ℕ → List Part → List ℕ
taken_all at takers parts = flat_map (λ (p : Part). taken_from at p.number takers) parts

taken_same : (takers : List ℕ) (parts : List Part) → Each (λ (p : Part). p.took ≡ taken_by p.number takers) parts → taken_in parts ≡ taken_all 0 takers parts
taken_same takers [] h = refl
taken_same takers (p ∷ parts) h = ap (λ (l : List ℕ). l ++ taken_in parts) h.0 ∙ ap (λ (l : List ℕ). taken_by p.number takers ++ l) (taken_same takers parts h.1)

times_step : (b : Bool) (at mail : ℕ) (rest : List ℕ) → times mail (cond b (at ∷ rest) rest) ≡ cond b (one_if (at == mail)) 0 + times mail rest
times_step true at mail rest = refl
times_step false at mail rest = omega arith

exchanged : (b c : Bool) (n : ℕ) → cond c (one_if b) 0 + cond b n 0 ≡ cond b (one_if c + n) 0
exchanged true true n = omega arith
exchanged true false n = omega arith
exchanged false true n = omega arith
exchanged false false n = omega arith

-- the mail at this place was taken by each part of its taker's number, and the others by the others
turn : (at mail taker : ℕ) (takers : List ℕ) (parts : List Part)
    → times mail (taken_all at (taker ∷ takers) parts) ≡ cond (at == mail) (times taker (numbers_of parts)) 0 + times mail (taken_all (at + 1) takers parts)
turn at mail taker takers [] = let none = no_choice (at == mail) 0 in omega (arith, none)
turn at mail taker takers (p ∷ parts) =
    let first = taken_from (at + 1) p.number takers in
    let rest = turn at mail taker takers parts in
    let split = times-append mail (cond (taker == p.number) (at ∷ first) first) (taken_all at (taker ∷ takers) parts) in
    let here = times_step (taker == p.number) at mail first in
    let other = times-append mail first (taken_all (at + 1) takers parts) in
    let swap = exchanged (at == mail) (taker == p.number) (times taker (numbers_of parts)) in
    let sides : cond (at == mail) (one_if (taker == p.number) + times taker (numbers_of parts)) 0 ≡ cond (at == mail) (one_if (p.number == taker) + times taker (numbers_of parts)) 0
    = ap (λ (b : Bool). cond (at == mail) (one_if b + times taker (numbers_of parts)) 0) (eq_turned taker p.number) in
    omega (arith, rest, split, here, other, swap, sides)

none_taken : (at mail : ℕ) (parts : List Part) → times mail (taken_all at [] parts) ≡ 0
none_taken at mail [] = refl
none_taken at mail (p ∷ parts) = none_taken at mail parts

chosen : (b : Bool) (m n : ℕ) → b ≡ true → cond b m n ≡ m
chosen b m n e = ap (λ (c : Bool). cond c m n) e

unchosen : (b : Bool) (m n : ℕ) → b ≡ false → cond b m n ≡ n
unchosen b m n e = ap (λ (c : Bool). cond c m n) e

before_all : (at mail : ℕ) (takers : List ℕ) (parts : List Part) → mail < at → times mail (taken_all at takers parts) ≡ 0
before_all at mail [] parts less = none_taken at mail parts
before_all at mail (taker ∷ takers) parts less =
    let off : (at == mail) ≡ false = grind (arith, nat_tests) in
    let step = turn at mail taker takers parts in
    let none = unchosen (at == mail) (times taker (numbers_of parts)) 0 off in
    let rest = before_all (at + 1) mail takers parts (omega (arith, less)) in
    omega (arith, step, none, rest)

by_test : (P : Type 0) (b : Bool) → (b ≡ true → P) → (b ≡ false → P) → P
by_test P true h k = h refl
by_test P false h k = k refl

once : (at mail : ℕ) (takers : List ℕ) (parts : List Part) → ((n : ℕ) → times n (numbers_of parts) ≤ 1) → times mail (taken_all at takers parts) ≤ 1
once at mail [] parts apart = let none = none_taken at mail parts in omega (arith, none)
once at mail (taker ∷ takers) parts apart =
    let step = turn at mail taker takers parts in
    let rest = once (at + 1) mail takers parts apart in
    by_test (times mail (taken_all at (taker ∷ takers) parts) ≤ 1) (at == mail)
    (λ here.
    let same : at ≡ mail = grind (arith, nat_tests) in
    let later = before_all (at + 1) mail takers parts (omega (arith, same)) in
    let first = chosen (at == mail) (times taker (numbers_of parts)) 0 here in
    let most = apart taker in
    omega (arith, step, later, first, most))
    (λ else. let none = unchosen (at == mail) (times taker (numbers_of parts)) 0 else in omega (arith, step, none, rest))

within_takers : (at mail : ℕ) (takers : List ℕ) (parts : List Part) → 1 ≤ times mail (taken_all at takers parts) → mail < at + length takers
within_takers at mail [] parts some = let none = none_taken at mail parts in absurd (omega (arith, none, some))
within_takers at mail (taker ∷ takers) parts some =
    let step = turn at mail taker takers parts in
    by_test (mail < at + length (taker ∷ takers)) (at == mail)
    (λ here. let same : at ≡ mail = grind (arith, nat_tests) in omega (arith, same))
    (λ else.
    let none = unchosen (at == mail) (times taker (numbers_of parts)) 0 else in
    let rest = within_takers (at + 1) mail takers parts (omega (arith, step, none, some)) in
    omega (arith, rest))

there : (at mail passes : ℕ) (takers : List ℕ) (parts : List Part) → HasParts passes parts → Each (λ (taker : ℕ). taker < passes) takers → at ≤ mail → mail < at + length takers → 1 ≤ times mail (taken_all at takers parts)
there at mail passes [] parts all low from less = absurd (omega (arith, from, less))
there at mail passes (taker ∷ takers) parts all low from less =
    let step = turn at mail taker takers parts in
    by_test (1 ≤ times mail (taken_all at (taker ∷ takers) parts)) (at == mail)
    (λ here. let first = chosen (at == mail) (times taker (numbers_of parts)) 0 here in let has = all taker low.0 in omega (arith, step, first, has))
    (λ else.
    let apart : at < mail = grind (arith, nat_tests) in
    let rest = there (at + 1) mail passes takers parts all low.1 (omega (arith, apart)) (omega (arith, less)) in
    omega (arith, step, rest))

-- ---- the actors of an entry

abbrev acting : ℕ → List Part → List ℕ → ℕ
acting actors [] numbers = 0
acting actors (p ∷ parts) numbers = cond (nat_lt p.number actors) (times p.number numbers) 0 + acting actors parts numbers

crossed : (b : Bool) (x n : ℕ) → cond b (1 + x) 0 + cond b n 0 ≡ cond b (1 + n) 0 + cond b x 0
crossed true x n = omega arith
crossed false x n = omega arith

crossing : (c : Bool) (actors m p x n : ℕ) → (m == p) ≡ c
    → cond (nat_lt p actors) (one_if c + x) 0 + cond (nat_lt m actors) n 0 ≡ cond (nat_lt m actors) (one_if c + n) 0 + cond (nat_lt p actors) x 0
crossing true actors m p x n e =
    let same : m ≡ p = grind (arith, nat_tests) in
    subst (λ (k : ℕ). cond (nat_lt k actors) (1 + x) 0 + cond (nat_lt m actors) n 0 ≡ cond (nat_lt m actors) (1 + n) 0 + cond (nat_lt k actors) x 0) same (crossed (nat_lt m actors) x n)
crossing false actors m p x n e =
    let left : 0 + x ≡ x = omega arith in
    let right : 0 + n ≡ n = omega arith in
    let a = ap (λ (k : ℕ). cond (nat_lt p actors) k 0) left in
    let b = ap (λ (k : ℕ). cond (nat_lt m actors) k 0) right in
    omega (arith, a, b)

acting_more : (actors m : ℕ) (parts : List Part) (numbers : List ℕ) → acting actors parts (m ∷ numbers) ≡ cond (nat_lt m actors) (times m (numbers_of parts)) 0 + acting actors parts numbers
acting_more actors m [] numbers = let none = no_choice (nat_lt m actors) 0 in omega (arith, none)
acting_more actors m (p ∷ parts) numbers =
    let rest = acting_more actors m parts numbers in
    let cross = crossing (m == p.number) actors m p.number (times p.number numbers) (times m (numbers_of parts)) refl in
    let sides : cond (nat_lt m actors) (one_if (m == p.number) + times m (numbers_of parts)) 0 ≡ cond (nat_lt m actors) (one_if (p.number == m) + times m (numbers_of parts)) 0
    = ap (λ (b : Bool). cond (nat_lt m actors) (one_if b + times m (numbers_of parts)) 0) (eq_turned m p.number) in
    omega (arith, rest, cross, sides)

acting_none : (actors : ℕ) (parts : List Part) → acting actors parts [] ≡ 0
acting_none actors [] = refl
acting_none actors (p ∷ parts) = let none = no_choice (nat_lt p.number actors) 0 in let rest = acting_none actors parts in omega (arith, none, rest)

chosen_one : (b : Bool) (n : ℕ) → (b ≡ true → n ≡ 1) → cond b n 0 ≡ one_if b
chosen_one true n h = h refl
chosen_one false n h = refl

acting_all : (actors : ℕ) (parts : List Part) (numbers : List ℕ) → ((n : ℕ) → n < actors → times n (numbers_of parts) ≡ 1) → acting actors parts numbers ≡ times_below actors numbers
acting_all actors parts [] exact = acting_none actors parts
acting_all actors parts (m ∷ numbers) exact =
    let step = acting_more actors m parts numbers in
    let rest = acting_all actors parts numbers exact in
    let one = chosen_one (nat_lt m actors) (times m (numbers_of parts)) (λ e. exact m (grind (arith, nat_tests))) in
    omega (arith, step, rest, one)

below_counts : (actors n : ℕ) (numbers : List ℕ) → n < actors → times n numbers ≤ times_below actors numbers
below_counts actors n [] less = omega arith
below_counts actors n (m ∷ numbers) less =
    let rest = below_counts actors n numbers less in
    by_test (one_if (m == n) + times n numbers ≤ one_if (nat_lt m actors) + times_below actors numbers) (m == n)
    (λ same.
    let e : m ≡ n = grind (arith, nat_tests) in
    let low : nat_lt m actors ≡ true = grind (arith, nat_tests) in
    let one : one_if (m == n) ≡ 1 = ap one_if same in
    let also : one_if (nat_lt m actors) ≡ 1 = ap one_if low in
    omega (arith, rest, one, also))
    (λ else. let none : one_if (m == n) ≡ 0 = ap one_if else in omega (arith, rest, none))

stands_once : (b : Bool) (k : ℕ) → (b ≡ true → k ≤ 1) → one_if (b && nat_lt 0 k) ≡ cond b k 0
stands_once true k h =
    let most = h refl in
    by_test (one_if (nat_lt 0 k) ≡ k) (nat_lt 0 k)
    (λ some. let has : 0 < k = grind (arith, nat_tests) in let one : one_if (nat_lt 0 k) ≡ 1 = ap one_if some in omega (arith, has, one, most))
    (λ none. let has : k ≤ 0 = grind (arith, nat_tests) in let zeros : one_if (nat_lt 0 k) ≡ 0 = ap one_if none in omega (arith, has, zeros))
stands_once false k h = refl

holders_acting : (actors : ℕ) (parts : List Part) (e : Entry) → HasOneActor actors e → holders actors parts e ≡ acting actors parts e.numbers
holders_acting actors [] e one = refl
holders_acting actors (p ∷ parts) e one =
    let rest = holders_acting actors parts e one in
    let here = stands_once (nat_lt p.number actors) (times p.number e.numbers) (λ low. let less : p.number < actors = grind (arith, nat_tests) in let most = below_counts actors p.number e.numbers less in omega (arith, most, one)) in
    omega (arith, rest, here)

one_holder : (actors : ℕ) (parts : List Part) → ((n : ℕ) → times n (numbers_of parts) ≤ 1) → HasParts actors parts → (e : Entry) → HasOneActor actors e → holders actors parts e ≡ 1
one_holder actors parts apart has e one =
    holders_acting actors parts e one ∙ (acting_all actors parts e.numbers (λ n less. let most = apart n in let least = has n less in omega (arith, most, least)) ∙ one)

-- ---- what was taken in

or_true : (b c : Bool) → b ≡ true → (b || c) ≡ true
or_true b c e = ap (λ (d : Bool). d || c) e

log_stays : (v : View) (ws : List View) → v.book ≡ true → ((all_joined v ws).log ≡ v.log) × ((all_joined v ws).takers ≡ v.takers) × ((all_joined v ws).book ≡ true)
log_stays v [] e = (refl, refl, e)
log_stays v (w ∷ ws) e =
    let rest = log_stays (joined v w) ws (or_true v.book w.book e) in
    (rest.0 ∙ ap (λ (b : Bool). cond b v.log w.log) e, rest.1 ∙ ap (λ (b : Bool). cond b v.takers w.takers) e, rest.2)

pub book_stays : (v : View) (ws : List View) → v.book ≡ true → (all_joined v ws).book ≡ true
book_stays v ws e = (log_stays v ws e).2

parts_together : (v : View) (ws : List View) → (all_joined v ws).parts ≡ v.parts ++ parts_of ws
parts_together v [] = sym (append-nil v.parts)
parts_together v (w ∷ ws) = parts_together (joined v w) ws ∙ append_assoc v.parts w.parts (parts_of ws)

seen_also : (P : List Entry → Type 0) (v : View) (ws : List View) → Each P (all_joined v ws).also → Each P v.also × Each (λ (w : View). P w.seen) ws
seen_also P v [] h = (h, tt)
seen_also P v (w ∷ ws) h =
    let rest = seen_also P (joined v w) ws h in
    (each_back P w.also v.also rest.0.1.1, (rest.0.0, rest.1))

cleared_most : (v : View) (ws : List View) → (v.cleared ≤ (all_joined v ws).cleared) × Each (λ (w : View). w.cleared ≤ (all_joined v ws).cleared) ws
cleared_most v [] = (omega arith, tt)
cleared_most v (w ∷ ws) =
    let rest = cleared_most (joined v w) ws in
    let most = rest.0 in
    (omega (arith, most), (omega (arith, most), rest.1))

told_most : (v : View) (ws : List View) → (v.told ≤ (all_joined v ws).told) × Each (λ (w : View). w.told ≤ (all_joined v ws).told) ws
told_most v [] = (omega arith, tt)
told_most v (w ∷ ws) =
    let rest = told_most (joined v w) ws in
    let most = rest.0 in
    (omega (arith, most), (omega (arith, most), rest.1))

-- ---- the closed book

pub closes : (follows : List Entry → Entry → Type 0) (actors passes : ℕ) (d v : View) (ws : List View) (steps : List Step) (facts : List Fact) (mails : List Mail) (next : ℕ) (book : Book)
    → IsLocked d steps facts mails next → v ≡ all_joined d ws → Holds follows actors passes v → book.steps ≡ steps → book.facts ≡ facts → book.mails ≡ mails → IsClosed follows actors passes ws book
closes follows actors passes d v ws steps facts mails next book l is holds s f m =
    let h : Holds follows actors passes (all_joined d ws) = subst (Holds follows actors passes) is holds in
    let kept = log_stays d ws (keeps_book d steps facts mails next l) in
    let whole = all_joined d ws in
    let parts : whole.parts ≡ parts_of ws = parts_together d ws ∙ ap (λ (u : View). u.parts ++ parts_of ws) l.view_is in
    let also = (seen_also (StartsWith whole.seen) d ws h.also).1 in
    let in_log = subst (Each (IsPart whole.log)) parts h.parts in
    let took = subst (Each (λ (p : Part). p.took ≡ taken_by p.number whole.takers)) parts h.took in
    let apart : (n : ℕ) → times n (numbers_of (parts_of ws)) ≤ 1 = λ n. subst (λ (ps : List Part). times n (numbers_of ps) ≤ 1) parts (h.apart n) in
    let taken : taken_in (parts_of ws) ≡ taken_all 0 whole.takers (parts_of ws) = taken_same whole.takers (parts_of ws) took in
    let count : length book.mails ≡ sent_in whole.log = ap (λ (ms : List Mail). length ms) (m ∙ l.mails_are) ∙ (length-mails d.log ∙ ap sent_in (sym kept.0)) in
    record {
      log = whole.log;
      takers = whole.takers;
      steps = s ∙ (l.steps_are ∙ ap steps_in (sym kept.0));
      facts = f ∙ (l.facts_are ∙ ap facts_in (sym kept.0));
      mails = m ∙ (l.mails_are ∙ ap mails_in (sym kept.0));
      lawful = h.lawful;
      acted = h.acted;
      short = h.short;
      named = h.named;
      seen = each_as (λ (w : View). StartsWith whole.seen w.seen) (λ (w : View). StartsWith whole.log w.seen) (λ w begins. starts_trans whole.log whole.seen w.seen h.begins begins) ws also;
      told = each_as (λ (w : View). w.told ≤ whole.told) (λ (w : View). w.told ≤ length whole.log) (λ w most. let all = h.told in omega (arith, most, all)) ws (told_most d ws).1;
      parts = in_log;
      in_order = each_as (IsPart whole.log) (λ (p : Part). own p.number p.upto ≡ own p.number whole.log) (λ p q. own_whole whole.log p q) (parts_of ws) in_log;
      apart = apart;
      one_holder = λ has. each_as (HasOneActor actors) (λ (e : Entry). holders actors (parts_of ws) e ≡ 1) (λ e one. one_holder actors (parts_of ws) apart has e one) whole.log h.acted;
      takers_low = h.low;
      takers_few = let sent = h.sent in omega (arith, sent, count);
      took = took;
      taken_once = λ mail. subst (λ (ms : List ℕ). times mail ms ≤ 1) (sym taken) (once 0 mail whole.takers (parts_of ws) apart);
      taken_sent = λ mail some.
          let less = within_takers 0 mail whole.takers (parts_of ws) (subst (λ (ms : List ℕ). 1 ≤ times mail ms) taken some) in
          let sent = h.sent in
          omega (arith, less, sent, count);
      all_taken = each_as (λ (w : View). w.cleared ≤ whole.cleared) (λ (w : View). sent_in (take w.cleared whole.log) ≤ length whole.takers)
          (λ w most.
          let more = sent_begins (take whole.cleared whole.log) (take w.cleared whole.log) (take_more_begins w.cleared whole.cleared whole.log most) in
          let all = h.cleared in
          omega (arith, more, all))
          ws (cleared_most d ws).1;
      cleared = λ has. each_as (λ (w : View). w.cleared ≤ whole.cleared) (λ (w : View). (mail : ℕ) → mail < sent_in (take w.cleared whole.log) → 1 ≤ times mail (taken_in (parts_of ws)))
          (λ w most mail early.
          let more = sent_begins (take whole.cleared whole.log) (take w.cleared whole.log) (take_more_begins w.cleared whole.cleared whole.log most) in
          let all = h.cleared in
          subst (λ (ms : List ℕ). 1 ≤ times mail ms) (sym taken) (there 0 mail passes whole.takers (parts_of ws) has h.low (omega arith) (omega (arith, more, all, early))))
          ws (cleared_most d ws).1;
    }
