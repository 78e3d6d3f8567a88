-- How the rule is kept where the seat with the book adds to the history or takes a mail.
use Rattle.std.proofs.Common.{◌≡◌, ℕ, ◌+◌, ◌^◌, ◌<◌, ◌≤◌, List, [], ◌∷◌, ◌++◌, length, take, true, refl, sym, ap, ◌∙◌, subst, length-append, arith}
use Rattle.std.specs.Prelude.{slice_set}
use mathlib.Core.Option.{some}
use lib.ListN.{get_elem?}
use Rattle.tp_types.specs.Each.{Each}
use Rattle.tp_types.proofs.EachLemmas.{each_set}
use Rattle.tp_wire.specs.declared.view.Entry.{Entry}
use Rattle.tp_wire.specs.declared.view.Part.{Part}
use Rattle.tp_wire.specs.declared.view.View.{View}
use Rattle.tp_wire.specs.Entries.{sent_in}
use Rattle.tp_wire.specs.History.{StartsWith, Lawful, Misses, HasOneActor, IsPart, NamesBelow, one_if, times, numbers_of, taken_by}
use Rattle.tp_wire.specs.Rule.{Fits, KeptOf, books, parts_at}
use Rattle.tp_wire.specs.Passes.{Knows}
use Rattle.tp_wire.specs.mirrors.Moves.{Holds}
use Rattle.tp_wire.proofs.ListLemmas.{starts_more, starts_length, take_begin, each_front}
use Rattle.tp_wire.proofs.ViewLemmas.{total_set, total_one, each_else, each_own, part_more, part_seen}
use Rattle.tp_wire.proofs.EntryLemmas.{lawful_begin}

-- a part of another view has no number of this one
no_number : (n : ℕ) (v u : View) → parts_at n v + parts_at n u ≤ 1 → 1 ≤ times n (numbers_of u.parts) → times n (numbers_of v.parts) ≡ 0
no_number n v u apart own = omega arith

book_elsewhere : (v u : View) → v.book ≡ true → books v + books u ≤ 1 → u.book ≡ true → ⊥
book_elsewhere v u has apart also =
    let one : one_if v.book ≡ 1 = ap one_if has in
    let two : one_if u.book ≡ 1 = ap one_if also in
    omega (arith, one, two, apart)

-- the change adds entries that name numbers of the view alone, and what it takes is taken by these
pub record IsMove (follows : List Entry → Entry → Type 0) (actors passes : ℕ) (extra : List Entry) (v next : View) : Type 0 where
  pub after : v.log ++ extra ≡ next.log
  pub book : v.book ≡ true
  pub book_next : next.book ≡ true
  pub entries : (n : ℕ) → times n (numbers_of v.parts) ≡ 0 → Each (Misses n) extra
  pub taking : (n : ℕ) → times n (numbers_of v.parts) ≡ 0 → taken_by n next.takers ≡ taken_by n v.takers
  pub count : length v.takers ≤ length next.takers
  pub parts_of : (n : ℕ) → parts_at n next ≤ parts_at n v
  pub short : length next.log ≤ 2 ^ 48
  pub lawful : Lawful follows next.log
  pub acted : Each (HasOneActor actors) next.log
  pub named : Each (NamesBelow passes) next.log
  pub sent : length next.takers ≤ sent_in next.log
  pub low : Each (λ (taker : ℕ). taker < passes) next.takers
  pub fits : Fits passes next.log next.takers next

-- each other view fits the new history
others_fit : (follows : List Entry → Entry → Type 0) (actors passes : ℕ) (extra : List Entry) (v next u : View) → IsMove follows actors passes extra v next
    → books v + books u ≤ 1 → ((n : ℕ) → parts_at n v + parts_at n u ≤ 1) → Fits passes v.log v.takers u → Fits passes (v.log ++ extra) next.takers u
others_fit follows actors passes extra v next u m one_book one_part f =
    let seen = starts_length v.log u.seen f.begins in
    let begin : take u.cleared (v.log ++ extra) ≡ take u.cleared v.log = take_begin u.cleared v.log extra (let c = f.cleared_most in omega arith) in
    let sent : sent_in (take u.cleared (v.log ++ extra)) ≡ sent_in (take u.cleared v.log) = ap sent_in begin in
    record {
      begins = starts_more v.log u.seen extra f.begins;
      told_least = f.told_least;
      told_most = let t = f.told_most in omega (arith, length-append v.log extra);
      whole = λ has. absurd (book_elsewhere v u m.book one_book has);
      parts = each_own (IsPart v.log) (IsPart (v.log ++ extra)) u.parts
          (λ p own h. part_more v.log extra p h (m.entries p.number (no_number p.number v u (one_part p.number) own))) f.parts;
      within = f.within;
      took = each_own (λ (p : Part). p.took ≡ taken_by p.number v.takers) (λ (p : Part). p.took ≡ taken_by p.number next.takers) u.parts
          (λ p own h. h ∙ sym (m.taking p.number (no_number p.number v u (one_part p.number) own))) f.took;
      low = f.low;
      also = f.also;
      cleared_most = f.cleared_most;
      cleared = let c = f.cleared in let k = m.count in omega (arith, sent, c, k);
    }

-- the rule holds after the change
pub move_keeps : (follows : List Entry → Entry → Type 0) (actors passes : ℕ) (words : List ℕ) (views : List View) (extra : List Entry) (at : ℕ) (v next : View)
    → get_elem? views at ≡ some v → IsMove follows actors passes extra v next → KeptOf follows actors passes words views v.log v.takers
    → KeptOf follows actors passes (length next.log ∷ []) (slice_set views at next) next.log next.takers
move_keeps follows actors passes words views extra at v next here m k =
    let v_books : books v ≡ 1 = ap one_if m.book in
    let next_books : books next ≡ 1 = ap one_if m.book_next in
    record {
      word = refl;
      short = m.short;
      lawful = m.lawful;
      acted = m.acted;
      named = m.named;
      sent = m.sent;
      low = m.low;
      one_book = let s = total_set books views at v next here in let o = k.one_book in omega (arith, s, o, next_books, v_books);
      one_part = λ n. let s = total_set (parts_at n) views at v next here in let o = k.one_part n in let p = m.parts_of n in omega (arith, s, o, p);
      fits = each_else (Fits passes v.log v.takers) (Fits passes next.log next.takers) views at v next here k.fits
          (λ u less f. subst (λ (l : List Entry). Fits passes l next.takers u) m.after
          (others_fit follows actors passes extra v next u m
          (let o = k.one_book in let l = less books in omega (arith, o, l))
          (λ n. let o = k.one_part n in let l = less (parts_at n) in omega (arith, o, l)) f))
          m.fits;
    }

-- a view changes, and the history stays
pub view_keeps : (follows : List Entry → Entry → Type 0) (actors passes : ℕ) (words : List ℕ) (views : List View) (log : List Entry) (takers : List ℕ) (at : ℕ) (v next : View)
    → get_elem? views at ≡ some v → books next ≤ books v → ((n : ℕ) → parts_at n next ≤ parts_at n v) → Fits passes log takers next
    → KeptOf follows actors passes words views log takers → KeptOf follows actors passes words (slice_set views at next) log takers
view_keeps follows actors passes words views log takers at v next here b p f k = record {
  word = k.word;
  short = k.short;
  lawful = k.lawful;
  acted = k.acted;
  named = k.named;
  sent = k.sent;
  low = k.low;
  one_book = let s = total_set books views at v next here in let o = k.one_book in omega (arith, s, o, b);
  one_part = λ n. let s = total_set (parts_at n) views at v next here in let o = k.one_part n in let q = p n in omega (arith, s, o, q);
  fits = each_set (Fits passes log takers) views at next k.fits f;
}

-- a word is written, of which it is known what it is
pub word_keeps : (follows : List Entry → Entry → Type 0) (actors passes : ℕ) (words now : List ℕ) (views : List View) (log : List Entry) (takers : List ℕ)
    → now ≡ length log ∷ [] → KeptOf follows actors passes words views log takers → KeptOf follows actors passes now views log takers
word_keeps follows actors passes words now views log takers e k = record {
  word = e;
  short = k.short;
  lawful = k.lawful;
  acted = k.acted;
  named = k.named;
  sent = k.sent;
  low = k.low;
  one_book = k.one_book;
  one_part = k.one_part;
  fits = k.fits;
}

-- the seat with the book has the history
pub at_view : (follows : List Entry → Entry → Type 0) (actors passes : ℕ) (words : List ℕ) (views : List View) (log : List Entry) (takers : List ℕ) (v : View)
    → (v.log ≡ log) × (v.takers ≡ takers) → KeptOf follows actors passes words views log takers → KeptOf follows actors passes words views v.log v.takers
at_view follows actors passes words views log takers v e k =
    subst (λ (l : List Entry). KeptOf follows actors passes words views l v.takers) (sym e.0)
    (subst (λ (t : List ℕ). KeptOf follows actors passes words views log t) (sym e.1) k)

pub held : (follows : List Entry → Entry → Type 0) (actors passes : ℕ) (words : List ℕ) (views : List View) (at : ℕ) (v : View)
    → get_elem? views at ≡ some v → KeptOf follows actors passes words views v.log v.takers → Fits passes v.log v.takers v → Holds follows actors passes v
held follows actors passes words views at v here k f = record {
  begins = f.begins;
  told = f.told_most;
  short = k.short;
  lawful = k.lawful;
  acted = k.acted;
  named = k.named;
  parts = f.parts;
  took = f.took;
  apart = λ n. let one = total_one (parts_at n) views at v here in let all = k.one_part n in omega (arith, one, all);
  low = k.low;
  sent = k.sent;
  also = f.also;
  cleared = f.cleared;
}

-- ---- what a seat may know

pub known : (follows : List Entry → Entry → Type 0) (actors passes : ℕ) (words : List ℕ) (views : List View) (log : List Entry) (takers : List ℕ) (v : View)
    → KeptOf follows actors passes words views log takers → Fits passes log takers v → Knows follows actors (length log) v
known follows actors passes words views log takers v k f = record {
  told = f.told_most;
  seen = f.told_least;
  lawful = lawful_begin follows log v.seen k.lawful f.begins;
  acted = acted_begin f.begins;
  parts = each_within v.parts f.parts f.within;
  also = f.also;
}
  where
    acted_begin : StartsWith log v.seen → Each (HasOneActor actors) v.seen
    acted_begin begins = each_front (HasOneActor actors) v.seen begins.0 (subst (Each (HasOneActor actors)) (sym begins.1) k.acted)

    each_within : (parts : List Part) → Each (IsPart log) parts → Each (λ (p : Part). StartsWith v.seen p.upto) parts → Each (IsPart v.seen) parts
    each_within [] h w = tt
    each_within (p ∷ parts) h w = (part_seen log v.seen p h.0 f.begins w.0, each_within parts h.1 w.1)
