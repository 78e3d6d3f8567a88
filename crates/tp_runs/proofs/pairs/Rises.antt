-- A query that comes to an entry and was not answered comes after those that have run there.
use Rattle.std.proofs.Common.{Bool, Contains, List, None, Some, [], ap, arith, false, is_some, option_map, refl, subst, suc, sym, true, zero, ℕ, ⊎_elim, ◌+◌, ◌<◌, ◌∙◌, ◌∷◌, ◌≡◌, ◌≤◌}
use Rattle.std.proofs.lemmas.Bool.{cases_lt}
use Rattle.tp_model.specs.Words.{Deed, QueryRequest}
use Rattle.tp_runs.proofs.pairs.Fits.{EntryFits, Fits, IsFront, IsThere, QueryFits}
use Rattle.tp_runs.proofs.basics.Found.{answer_in, of_some}
use Rattle.tp_runs.proofs.pairs.Pair.{Pair, entry_held, held_up, numbers}
use Rattle.tp_runs.proofs.pairs.Site.{IsUpto, Site, here, in_upto, upto, upto_in, with_number}
use Rattle.tp_runs.proofs.deeds.Rising.{AreRising, rising_more, rising_under}
use Rattle.tp_runs.proofs.deeds.Tentative.{AreUpTo}
use Rattle.tp_server.specs.declared.server.Entry.{Entry}

-- the numbers of an entry's deeds are not greater than that of a query which it has not answered
unrun_upto : (s : Site) (p : Pair) (entry : Entry) (q : QueryRequest) → p.up ≡ true → p.entry ≡ Some entry → Fits s p → QueryFits s p q → answer_in q.query entry.answers ≡ None → entry.ballot ≡ None
    → (number : ℕ) → Contains (numbers entry.deeds) number → number ≤ q.query
unrun_upto s p entry q up is h asked none unvoted number has =
    let found : IsThere p entry.epoch entry.deeds = held_up p.up p.entry p.prepared up ∙ ap (option_map entry_held) is in
    let front : IsFront s entry.deeds = h.server.front (entry_held entry) found in
    let upto_here : IsUpto s front.last number = upto_in s front.last number (subst (λ (all : List ℕ). Contains all number) front.numbers_are has) in
    ⊎_elim
    (λ (less : q.query < number).
    let next : q.query ≡ asked.before + 1 = asked.number_is in
    let high = upto_here.high in
    let low : 1 ≤ q.query = omega (arith, next) in
    let most : q.query ≤ front.last = omega (arith, less, high) in
    let at : here s q.query ≡ true = subst (λ (n : ℕ). here s n ≡ true) (sym next) asked.is_here in
    let there : Contains (numbers entry.deeds) q.query = subst (λ (all : List ℕ). Contains all q.query) (sym front.numbers_are) (in_upto s front.last q.query (record { low = low; high = most; at = at })) in
    let answered : is_some (answer_in q.query entry.answers) ≡ true = (of_some (EntryFits s p) p.entry entry is h.entry).answered unvoted q.query there in
    let nothing = ap is_some none in
    absurd (cc))
    (λ (most : number ≤ q.query). most)
    (cases_lt q.query number)

each_number : (deeds : List Deed) (number : ℕ) → ((n : ℕ) → Contains (numbers deeds) n → n ≤ number) → AreUpTo number deeds
each_number [] number h = tt
each_number (deed ∷ deeds) number h =
    (h deed.query (0, omega arith, refl), each_number deeds number (λ n has. h n (suc has.0, omega (arith, has.1), has.2)))

pub rises : (s : Site) (p : Pair) (entry : Entry) (q : QueryRequest) → p.up ≡ true → p.entry ≡ Some entry → Fits s p → QueryFits s p q → answer_in q.query entry.answers ≡ None → entry.ballot ≡ None
    → AreUpTo q.query entry.deeds
rises s p entry q up is h asked none unvoted = each_number entry.deeds q.query (unrun_upto s p entry q up is h asked none unvoted)

-- ---- what is held

upto_by : (s : Site) (last : ℕ) (b : Bool) → AreRising 0 (upto s last) last → AreRising 0 (with_number b (upto s last) (suc last)) (suc last)
upto_by s last true h = rising_more 0 (upto s last) last (suc last) (omega arith) h
upto_by s last false h = rising_under 0 (upto s last) last (suc last) (omega arith) h

-- the numbers of the queries at the server rise
pub upto_rises : (s : Site) (last : ℕ) → AreRising 0 (upto s last) last
upto_rises s zero = omega arith
upto_rises s (suc last) = upto_by s last (here s (suc last)) (upto_rises s last)
