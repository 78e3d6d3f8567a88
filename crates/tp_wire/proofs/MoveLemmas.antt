-- Each step of a seat keeps the rule.
use Rattle.std.proofs.Common.{◌≡◌, ℕ, zero, suc, ◌+◌, ◌^◌, ◌<◌, ◌≤◌, List, [], ◌∷◌, ◌++◌, length, map, take, true, refl, sym, ap, ◌∙◌, subst, append-nil, length-append, arith}
use Rattle.std.specs.Prelude.{slice_set, slice_index}
use mathlib.Core.Option.{some, some-ne-none}
use lib.ListN.{get_elem?}
use Rattle.atomic_table.specs.Table.{State, keeps, Allows}
use Rattle.tp_types.specs.Each.{Each}
use Rattle.tp_types.proofs.EachLemmas.{each_as, each_map, each_append}
use Rattle.tp_wire.specs.declared.view.Entry.{Entry}
use Rattle.tp_wire.specs.declared.view.Part.{Part}
use Rattle.tp_wire.specs.declared.view.View.{View}
use Rattle.tp_wire.specs.Entries.{sent_in}
use Rattle.tp_wire.specs.History.{StartsWith, HasOneActor, IsPart, NamesBelow, times, numbers_of, taken_by}
use Rattle.tp_wire.specs.Rule.{Fits, Kept}
use Rattle.tp_wire.specs.Passes.{Knows, IsLook, MayPost, looked, moved, with_mail}
use Rattle.tp_wire.specs.mirrors.Moves.{Holds, Made, reads, adds, takes, clears}
use Rattle.tp_wire.proofs.ListLemmas.{starts_self, starts_length, take_begin, take_whole, taken_else, taken_own}
use Rattle.tp_wire.proofs.ViewLemmas.{each_at, numbers_moved}
use Rattle.tp_wire.proofs.EntryLemmas.{lawful_more, sent-append}
use Rattle.tp_wire.proofs.RuleLemmas.{IsMove, move_keeps, view_keeps, word_keeps, at_view, held, known}

set_there : (views : List View) (at : ℕ) (v w : View) → get_elem? views at ≡ some v → get_elem? (slice_set views at w) at ≡ some w
set_there [] at v w e = absurd (some-ne-none v (sym e))
set_there (u ∷ views) zero v w e = refl
set_there (u ∷ views) (suc at) v w e = set_there views at v w e

-- the word that is found, and what stands there once it was changed
word_found : (words : List ℕ) (n : ℕ) → words ≡ n ∷ [] → slice_index words 0 ≡ n
word_found words n e = ap (λ (ws : List ℕ). slice_index ws 0) e

word_written : (words : List ℕ) (n m : ℕ) (change : ℕ → ℕ) → words ≡ n ∷ [] → change n ≡ m → slice_set words 0 (change (slice_index words 0)) ≡ m ∷ []
word_written words n m change e is =
    subst (λ (ws : List ℕ). slice_set ws 0 (change (slice_index ws 0)) ≡ m ∷ []) (sym e) (ap (λ (k : ℕ). k ∷ []) is)

module _ (follows : List Entry → Entry → Type 0) (actors passes : ℕ) where
  abbrev pub holding : {S : Type 0} → State S View → Type 0
  holding s = Kept follows actors passes s.words s.views

  -- ---- a look

  fits_looked : (log : List Entry) (takers : List ℕ) (v : View) (found : ℕ) → found ≡ length log → Fits passes log takers v → Fits passes log takers (looked v found)
  fits_looked log takers v found is f = record {
    begins = f.begins;
    told_least = let s = starts_length log v.seen f.begins in omega (arith, s, is);
    told_most = omega (arith, is);
    whole = f.whole;
    parts = f.parts;
    within = f.within;
    took = f.took;
    low = f.low;
    also = tt;
    cleared_most = f.cleared_most;
    cleared = f.cleared;
  }

  pub looks : {S : Type 0} (slots id : ℕ) (v : View) (carried : List (ℕ × S))
      → Allows (holding {S = S}) slots id (v, carried) 0 (λ n. n) (λ n w. IsLook follows actors n v w.0 × (w.1 ≡ carried))
  looks slots id v carried s h count here small =
      let log = h.0 in let takers = h.1 in let found = slice_index s.words 0 in
      let f = each_at (Fits passes log takers) s.views id v here h.2.fits in
      let is : found ≡ length log = word_found s.words (length log) h.2.word in
      let next = view_keeps follows actors passes s.words s.views log takers id v (looked v found) here (omega arith) (λ n. omega arith) (fits_looked log takers v found is f) h.2 in
      let kept = word_keeps follows actors passes s.words (slice_set s.words 0 found) (slice_set s.views id (looked v found)) log takers (word_written s.words (length log) (length log) (λ n. n) h.2.word refl) next in
      let knows : Knows follows actors found v = subst (λ (n : ℕ). Knows follows actors n v) (sym is) (known follows actors passes s.words s.views log takers v h.2 f) in
      (looked v found, keeps, tt, (log, takers, kept), (record { knows = knows; view_is = refl }, refl))

  -- ---- the seat with the book

  -- it goes from one view to the next, and the word becomes the length of the next history
  pub makes : {S : Type 0} (slots id : ℕ) (v next : View) (carried : List (ℕ × S)) (change : ℕ → ℕ) (extra : List Entry)
      → v.book ≡ true → change (length v.log) ≡ length next.log
      → (Holds follows actors passes v → Fits passes v.log v.takers v → IsMove follows actors passes extra v next)
      → Allows (holding {S = S}) slots id (v, carried) 0 change (λ n w. Made follows actors passes n v next × (w ≡ (next, carried)))
  makes slots id v next carried change extra book change_is move s h count here small =
      let log = h.0 in let takers = h.1 in
      let f = each_at (Fits passes log takers) s.views id v here h.2.fits in
      let kept = at_view follows actors passes s.words s.views log takers v (f.whole book) h.2 in
      let fits = each_at (Fits passes v.log v.takers) s.views id v here kept.fits in
      let holds = held follows actors passes s.words s.views id v here kept fits in
      let m = move holds fits in
      let after = move_keeps follows actors passes s.words s.views extra id v next here m kept in
      let found = word_found s.words (length v.log) kept.word in
      let written = word_written s.words (length v.log) (length next.log) change kept.word change_is in
      let whole = word_keeps follows actors passes (length next.log ∷ []) (slice_set s.words 0 (change (slice_index s.words 0))) (slice_set s.views id next) next.log next.takers written after in
      let there = set_there s.views id v next here in
      let made : Made follows actors passes (slice_index s.words 0) v next = record {
        found_is = found;
        held = holds;
        holds = held follows actors passes (length next.log ∷ []) (slice_set s.views id next) id next there after m.fits;
      } in
      (next, keeps, tt, (next.log, next.takers, whole), (made, refl))

  -- what stays where the seat has seen the whole history
  fits_whole : (v : View) → Fits passes v.log v.takers v → Fits passes v.log v.takers (reads v)
  fits_whole v f = record {
    begins = starts_self v.log;
    told_least = omega arith;
    told_most = omega arith;
    whole = λ has. (refl, refl);
    parts = f.parts;
    within = each_as (IsPart v.log) (λ (p : Part). StartsWith v.log p.upto) (λ p h. (h.0, h.1)) v.parts f.parts;
    took = f.took;
    low = f.low;
    also = tt;
    cleared_most = let c = f.cleared_most in let s = starts_length v.log v.seen f.begins in omega (arith, c, s);
    cleared = f.cleared;
  }

  pub reading : (v : View) → v.book ≡ true → Holds follows actors passes v → Fits passes v.log v.takers v → IsMove follows actors passes [] v (reads v)
  reading v book h f = record {
    after = append-nil v.log;
    book = book;
    book_next = book;
    entries = λ n none. tt;
    taking = λ n none. refl;
    count = omega arith;
    parts_of = λ n. omega arith;
    short = h.short;
    lawful = h.lawful;
    acted = h.acted;
    named = h.named;
    sent = h.sent;
    low = h.low;
    fits = fits_whole v f;
  }

  pub clearing : (v : View) → v.book ≡ true → sent_in v.log ≤ length v.takers → Holds follows actors passes v → Fits passes v.log v.takers v → IsMove follows actors passes [] v (clears v)
  clearing v book all h f =
      let w = fits_whole v f in
      let whole : sent_in (take (length v.log) v.log) ≡ sent_in v.log = ap sent_in (take_whole v.log) in
      record {
        after = append-nil v.log;
        book = book;
        book_next = book;
        entries = λ n none. tt;
        taking = λ n none. refl;
        count = omega arith;
        parts_of = λ n. omega arith;
        short = h.short;
        lawful = h.lawful;
        acted = h.acted;
        named = h.named;
        sent = h.sent;
        low = h.low;
        fits = record {
          begins = w.begins;
          told_least = w.told_least;
          told_most = w.told_most;
          whole = w.whole;
          parts = w.parts;
          within = w.within;
          took = w.took;
          low = w.low;
          also = tt;
          cleared_most = omega arith;
          cleared = omega (arith, whole, all);
        };
      }

  -- ---- an entry

  -- the numbers of parts are those of the wire's passes
  low_numbers : (parts : List Part) → Each (λ (q : Part). q.number < passes) parts → Each (λ (n : ℕ). n < passes) (numbers_of parts)
  low_numbers parts low = each_map (λ (q : Part). q.number < passes) (λ (n : ℕ). n < passes) (λ (q : Part). q.number) (λ q l. l) parts low

  pub adding : (v : View) (e : Entry) → v.book ≡ true → length v.log < 2 ^ 48 → e.numbers ≡ numbers_of v.parts → HasOneActor actors e → MayPost follows v e
      → Holds follows actors passes v → Fits passes v.log v.takers v → IsMove follows actors passes (e ∷ []) v (adds e v)
  adding v e book room numbers acted may h f =
      let log = v.log ++ e ∷ [] in
      let cut : take v.cleared log ≡ take v.cleared v.log = take_begin v.cleared v.log (e ∷ []) (let c = f.cleared_most in let s = starts_length v.log v.seen f.begins in omega (arith, c, s)) in
      let cut_sent : sent_in (take v.cleared log) ≡ sent_in (take v.cleared v.log) = ap sent_in cut in
      let names : (n : ℕ) → times n (numbers_of (map (moved log) v.parts)) ≡ times n (numbers_of v.parts) = λ n. ap (times n) (numbers_moved log v.parts) in
      record {
        after = refl;
        book = book;
        book_next = book;
        entries = λ n none. (ap (times n) numbers ∙ none, tt);
        taking = λ n none. refl;
        count = omega arith;
        parts_of = λ n. let same = names n in omega (arith, same);
        short = omega (arith, length-append v.log (e ∷ []), room);
        lawful = lawful_more follows v.log e h.lawful (may v.log h.begins h.parts h.lawful);
        acted = each_append (HasOneActor actors) v.log (e ∷ []) h.acted (acted, tt);
        named = each_append (NamesBelow passes) v.log (e ∷ []) h.named (subst (Each (λ (number : ℕ). number < passes)) (sym numbers) (low_numbers v.parts f.low), tt);
        sent = let s = h.sent in omega (arith, sent-append v.log (e ∷ []), s);
        low = h.low;
        fits = record {
          begins = starts_self log;
          told_least = omega arith;
          told_most = omega arith;
          whole = λ has. (refl, refl);
          parts = each_map (IsPart v.log) (IsPart log) (moved log) (λ p q. ([], append-nil log, tt)) v.parts f.parts;
          within = each_map (IsPart v.log) (λ (p : Part). StartsWith log p.upto) (moved log) (λ p q. starts_self log) v.parts f.parts;
          took = each_map (λ (p : Part). p.took ≡ taken_by p.number v.takers) (λ (p : Part). p.took ≡ taken_by p.number v.takers) (moved log) (λ p q. q) v.parts f.took;
          low = each_map (λ (p : Part). p.number < passes) (λ (p : Part). p.number < passes) (moved log) (λ p q. q) v.parts f.low;
          also = tt;
          cleared_most = let c = f.cleared_most in let s = starts_length v.log v.seen f.begins in omega (arith, length-append v.log (e ∷ []), c, s);
          cleared = let c = f.cleared in omega (arith, cut_sent, c);
        };
      }

  -- ---- a mail

  numbers_mailed : (mail : ℕ) (parts : List Part) → numbers_of (map (with_mail mail) parts) ≡ numbers_of parts
  numbers_mailed mail [] = refl
  numbers_mailed mail (p ∷ parts) = ap (λ (ns : List ℕ). p.number ∷ ns) (numbers_mailed mail parts)

  took_one : (takers : List ℕ) (p : Part) (parts : List Part) → parts ≡ p ∷ [] → Each (λ (q : Part). q.took ≡ taken_by q.number takers) parts
      → Each (λ (q : Part). q.took ≡ taken_by q.number (takers ++ numbers_of parts)) (map (with_mail (length takers)) parts)
  took_one takers p parts one h =
      let own : p.took ≡ taken_by p.number takers = (subst (Each (λ (q : Part). q.took ≡ taken_by q.number takers)) one h).0 in
      let one_more : p.took ++ length takers ∷ [] ≡ taken_by p.number (takers ++ p.number ∷ []) = ap (λ (l : List ℕ). l ++ length takers ∷ []) own ∙ sym (taken_own p.number takers) in
      subst (λ (ps : List Part). Each (λ (q : Part). q.took ≡ taken_by q.number (takers ++ numbers_of ps)) (map (with_mail (length takers)) ps)) (sym one) (one_more, tt)

  pub taking : (v : View) (p : Part) → v.book ≡ true → v.parts ≡ p ∷ [] → length v.takers < sent_in v.log
      → Holds follows actors passes v → Fits passes v.log v.takers v → IsMove follows actors passes [] v (takes v)
  taking v p book one free h f =
      let w = fits_whole v f in
      let names : (n : ℕ) → times n (numbers_of (map (with_mail (length v.takers)) v.parts)) ≡ times n (numbers_of v.parts) = λ n. ap (times n) (numbers_mailed (length v.takers) v.parts) in
      let count : length (numbers_of v.parts) ≡ 1 = ap (λ (ps : List Part). length (numbers_of ps)) one in
      let longer : length (v.takers ++ numbers_of v.parts) ≡ length v.takers + 1 = omega (arith, length-append v.takers (numbers_of v.parts), count) in
      record {
        after = append-nil v.log;
        book = book;
        book_next = book;
        entries = λ n none. tt;
        taking = λ n none. taken_else n v.takers (numbers_of v.parts) none;
        count = omega (arith, longer);
        parts_of = λ n. let same = names n in omega (arith, same);
        short = h.short;
        lawful = h.lawful;
        acted = h.acted;
        named = h.named;
        sent = omega (arith, longer, free);
        low = each_append (λ (taker : ℕ). taker < passes) v.takers (numbers_of v.parts) h.low (low_numbers v.parts f.low);
        fits = record {
          begins = w.begins;
          told_least = w.told_least;
          told_most = w.told_most;
          whole = λ has. (refl, refl);
          parts = each_map (IsPart v.log) (IsPart v.log) (with_mail (length v.takers)) (λ q h. h) v.parts f.parts;
          within = each_map (λ (q : Part). StartsWith v.log q.upto) (λ (q : Part). StartsWith v.log q.upto) (with_mail (length v.takers)) (λ q h. h) v.parts w.within;
          took = took_one v.takers p v.parts one f.took;
          low = each_map (λ (q : Part). q.number < passes) (λ (q : Part). q.number < passes) (with_mail (length v.takers)) (λ q h. h) v.parts f.low;
          also = tt;
          cleared_most = w.cleared_most;
          cleared = let c = f.cleared in omega (arith, longer, c);
        };
      }
