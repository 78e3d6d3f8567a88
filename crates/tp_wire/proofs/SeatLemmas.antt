-- A view cut in two, two views made one, and the first view keep the rule.
use Rattle.std.proofs.Common.{◌≡◌, ℕ, zero, suc, ◌+◌, ◌<◌, ◌≤◌, ◌==◌, ◌||◌, List, [], ◌∷◌, ◌++◌, length, take, max, not, cond, true, false, Bool, refl, sym, ap, ◌∙◌, subst, arith}
use Rattle.std.proofs.lemmas.Bool.Decides.{nat_tests}
use Rattle.std.specs.Prelude.{slice_set, nat_lt}
use mathlib.Core.Option.{some}
use lib.ListN.{get_elem?}
use Rattle.atomic_table.specs.Table.{Splits, Joins, opening}
use Rattle.atomic_table.proofs.Lists.{set_else}
use Rattle.tp_types.specs.Each.{Each}
use Rattle.tp_types.proofs.EachLemmas.{by_cond, each_as, each_append, each_filter, each_set}
use Rattle.tp_wire.specs.declared.view.Entry.{Entry}
use Rattle.tp_wire.specs.declared.view.Part.{Part}
use Rattle.tp_wire.specs.declared.view.View.{View}
use Rattle.tp_wire.specs.Entries.{sent_in}
use Rattle.tp_wire.specs.History.{StartsWith, IsPart, one_if, times, numbers_of, taken_by}
use Rattle.tp_wire.specs.Rule.{Fits, books, parts_at, fresh, fresh_parts, first_view}
use Rattle.tp_wire.specs.Passes.{other_parts, own_parts, without_part, part_alone, longer, joined}
use Rattle.tp_wire.specs.mirrors.Moves.{without_book, book_alone, with_book, spent}
use Rattle.tp_wire.proofs.ListLemmas.{starts_self, starts_empty, starts_trans, starts_length, starts_shorter}
use Rattle.tp_wire.proofs.ViewLemmas.{total_set, total_more, each_at}
use Rattle.tp_wire.proofs.EntryLemmas.{lawful_empty}
use Rattle.tp_wire.proofs.MoveLemmas.{holding}

-- a seat that knows nothing but its parts
fits_holder : (passes : ℕ) (log : List Entry) (takers : List ℕ) → Fits passes log takers spent
fits_holder passes log takers = record {
  begins = starts_empty log;
  told_least = omega arith;
  told_most = omega arith;
  whole = λ has. absurd (cc);
  parts = tt;
  within = tt;
  took = tt;
  low = tt;
  also = tt;
  cleared_most = omega arith;
  cleared = omega arith;
}

module _ (follows : List Entry → Entry → Type 0) (actors passes : ℕ) where
  -- ---- cuts

  pub cuts : {S : Type 0} (id : ℕ) (v left right : View)
      → books left + books right ≤ books v → ((n : ℕ) → parts_at n left + parts_at n right ≤ parts_at n v)
      → ((log : List Entry) (takers : List ℕ) → Fits passes log takers v → Fits passes log takers left × Fits passes log takers right)
      → Splits (holding follows actors passes {S = S}) id v left right
  cuts id v left right b p fit s h here =
      let log = h.0 in let takers = h.1 in let k = h.2 in
      let both = fit log takers (each_at (Fits passes log takers) s.views id v here k.fits) in (
        log,
        takers,
        record {
          word = k.word;
          short = k.short;
          lawful = k.lawful;
          acted = k.acted;
          named = k.named;
          sent = k.sent;
          low = k.low;
          one_book = let t = total_set books s.views id v left here in let m = total_more books (slice_set s.views id left) right in let o = k.one_book in omega (arith, t, m, o, b);
          one_part = λ n. let t = total_set (parts_at n) s.views id v left here in let m = total_more (parts_at n) (slice_set s.views id left) right in let o = k.one_part n in let q = p n in omega (arith, t, m, o, q);
          fits = each_append (Fits passes log takers) (slice_set s.views id left) (right ∷ []) (each_set (Fits passes log takers) s.views id left k.fits both.0) (both.1, tt);
        },
      )

  pub cuts_book : {S : Type 0} (id : ℕ) (v : View) → Splits (holding follows actors passes {S = S}) id v (without_book v) (book_alone v)
  cuts_book id v = cuts id v (without_book v) (book_alone v) (omega arith) (λ n. omega arith) (λ log takers f. (
    record {
      begins = f.begins;
      told_least = f.told_least;
      told_most = f.told_most;
      whole = λ has. absurd (cc);
      parts = f.parts;
      within = f.within;
      took = f.took;
      low = f.low;
      also = f.also;
      cleared_most = f.cleared_most;
      cleared = f.cleared;
    },
    record {
      begins = starts_empty log;
      told_least = omega arith;
      told_most = omega arith;
      whole = f.whole;
      parts = tt;
      within = tt;
      took = tt;
      low = tt;
      also = tt;
      cleared_most = omega arith;
      cleared = omega arith;
    },
  ))

  parted : (b : Bool) (n : ℕ) (p : Part) (own others : List Part)
      → times n (numbers_of (cond (not b) (p ∷ others) others)) + times n (numbers_of (cond b (p ∷ own) own)) ≡ one_if (p.number == n) + (times n (numbers_of others) + times n (numbers_of own))
  parted true n p own others = omega arith
  parted false n p own others = omega arith

  -- the two lists of a cut have together what the whole has
  times_parted : (number n : ℕ) (parts : List Part) → times n (numbers_of (other_parts number parts)) + times n (numbers_of (own_parts number parts)) ≡ times n (numbers_of parts)
  times_parted number n [] = refl
  times_parted number n (p ∷ parts) =
      let rest = times_parted number n parts in
      let here = parted (p.number == number) n p (own_parts number parts) (other_parts number parts) in
      omega (arith, here, rest)

  pub cuts_part : {S : Type 0} (number id : ℕ) (v : View) → Splits (holding follows actors passes {S = S}) id v (without_part number v) (part_alone number v)
  cuts_part number id v = cuts id v (without_part number v) (part_alone number v) (omega arith) (λ n. let t = times_parted number n v.parts in omega (arith, t)) (λ log takers f. (
    record {
      begins = f.begins;
      told_least = f.told_least;
      told_most = f.told_most;
      whole = f.whole;
      parts = each_filter (IsPart log) (λ (p : Part). not (p.number == number)) v.parts f.parts;
      within = each_filter (λ (p : Part). StartsWith v.seen p.upto) (λ (p : Part). not (p.number == number)) v.parts f.within;
      took = each_filter (λ (p : Part). p.took ≡ taken_by p.number takers) (λ (p : Part). not (p.number == number)) v.parts f.took;
      low = each_filter (λ (p : Part). p.number < passes) (λ (p : Part). not (p.number == number)) v.parts f.low;
      also = f.also;
      cleared_most = f.cleared_most;
      cleared = f.cleared;
    },
    record {
      begins = f.begins;
      told_least = f.told_least;
      told_most = f.told_most;
      whole = λ has. absurd (cc);
      parts = each_filter (IsPart log) (λ (p : Part). p.number == number) v.parts f.parts;
      within = each_filter (λ (p : Part). StartsWith v.seen p.upto) (λ (p : Part). p.number == number) v.parts f.within;
      took = each_filter (λ (p : Part). p.took ≡ taken_by p.number takers) (λ (p : Part). p.number == number) v.parts f.took;
      low = each_filter (λ (p : Part). p.number < passes) (λ (p : Part). p.number == number) v.parts f.low;
      also = tt;
      cleared_most = f.cleared_most;
      cleared = f.cleared;
    },
  ))

  -- ---- joins

  joins : {S : Type 0} (id : ℕ) (v : View) (other : ℕ) (w both : View)
      → books both ≤ books v + books w → ((n : ℕ) → parts_at n both ≤ parts_at n v + parts_at n w)
      → ((log : List Entry) (takers : List ℕ) → Fits passes log takers v → Fits passes log takers w → Fits passes log takers both)
      → Joins (holding follows actors passes {S = S}) id v other w both spent
  joins id v other w both b p fit s h here apart there =
      let log = h.0 in let takers = h.1 in let k = h.2 in
      let there_before : get_elem? s.views other ≡ some w = sym (set_else s.views id other both apart) ∙ there in
      let f = each_at (Fits passes log takers) s.views id v here k.fits in
      let g = each_at (Fits passes log takers) s.views other w there_before k.fits in (
        log,
        takers,
        record {
          word = k.word;
          short = k.short;
          lawful = k.lawful;
          acted = k.acted;
          named = k.named;
          sent = k.sent;
          low = k.low;
          one_book = let t = total_set books s.views id v both here in let u = total_set books (slice_set s.views id both) other w spent there in let o = k.one_book in omega (arith, t, u, o, b);
          one_part = λ n. let t = total_set (parts_at n) s.views id v both here in let u = total_set (parts_at n) (slice_set s.views id both) other w spent there in let o = k.one_part n in let q = p n in omega (arith, t, u, o, q);
          fits = each_set (Fits passes log takers) (slice_set s.views id both) other spent (each_set (Fits passes log takers) s.views id both k.fits (fit log takers f g)) (fits_holder passes log takers);
        },
      )

  pub joins_book : {S : Type 0} (id : ℕ) (v : View) (other : ℕ) (w : View) → Joins (holding follows actors passes {S = S}) id v other w (with_book v w) spent
  joins_book id v other w = joins id v other w (with_book v w) (omega arith) (λ n. omega arith) (λ log takers f g. record {
    begins = f.begins;
    told_least = f.told_least;
    told_most = f.told_most;
    whole = g.whole;
    parts = f.parts;
    within = f.within;
    took = f.took;
    low = f.low;
    also = f.also;
    cleared_most = f.cleared_most;
    cleared = f.cleared;
  })

  longer_begins : (log xs ys : List Entry) → StartsWith log xs → StartsWith log ys → StartsWith (longer xs ys) xs × StartsWith (longer xs ys) ys
  longer_begins log xs ys h k =
      by_cond (λ (l : List Entry). StartsWith l xs × StartsWith l ys) (nat_lt (length xs) (length ys))
      (λ less. let short : length xs < length ys = grind (arith, nat_tests) in (starts_shorter log xs ys h k (omega (arith, short)), starts_self ys))
      (λ more. let long : length ys ≤ length xs = grind (arith, nat_tests) in (starts_self xs, starts_shorter log ys xs k h long))

  longer_starts : (log xs ys : List Entry) → StartsWith log xs → StartsWith log ys → StartsWith log (longer xs ys)
  longer_starts log xs ys h k = by_cond (StartsWith log) (nat_lt (length xs) (length ys)) (λ less. k) (λ more. h)

  joined_whole : (log : List Entry) (takers : List ℕ) (v w : View) (b : Bool) → v.book ≡ b → (v.book ≡ true → (v.log ≡ log) × (v.takers ≡ takers)) → (w.book ≡ true → (w.log ≡ log) × (w.takers ≡ takers))
      → (b || w.book) ≡ true → (cond b v.log w.log ≡ log) × (cond b v.takers w.takers ≡ takers)
  joined_whole log takers v w true e f g has = f e
  joined_whole log takers v w false e f g has = g has

  most_sent : (m n : ℕ) (log : List Entry) (takers : List ℕ) → sent_in (take m log) ≤ length takers → sent_in (take n log) ≤ length takers → sent_in (take (max m n) log) ≤ length takers
  most_sent m n log takers h k = greater (nat_lt m n) refl
    where
      greater : (b : Bool) → nat_lt m n ≡ b → sent_in (take (max m n) log) ≤ length takers
      greater true e = let is : max m n ≡ n = (let less : m < n = grind (arith, nat_tests) in omega (arith, less)) in subst (λ (j : ℕ). sent_in (take j log) ≤ length takers) (sym is) k
      greater false e = let is : max m n ≡ m = (let less : n ≤ m = grind (arith, nat_tests) in omega (arith, less)) in subst (λ (j : ℕ). sent_in (take j log) ≤ length takers) (sym is) h

  one_of_two : (b c : Bool) → one_if (b || c) ≤ one_if b + one_if c
  one_of_two true c = omega arith
  one_of_two false c = omega arith

  fits_joined : (log : List Entry) (takers : List ℕ) (v w : View) → Fits passes log takers v → Fits passes log takers w → Fits passes log takers (joined v w)
  fits_joined log takers v w f g =
      let begins = longer_begins log v.seen w.seen f.begins g.begins in
      let seen = longer v.seen w.seen in
      let v_short = starts_length seen v.seen begins.0 in
      let w_short = starts_length seen w.seen begins.1 in
      record {
        begins = longer_starts log v.seen w.seen f.begins g.begins;
        told_least = by_cond (λ (l : List Entry). length l ≤ max v.told w.told) (nat_lt (length v.seen) (length w.seen)) (λ less. let t = g.told_least in omega (arith, t)) (λ more. let t = f.told_least in omega (arith, t));
        told_most = let t = f.told_most in let u = g.told_most in omega (arith, t, u);
        whole = joined_whole log takers v w v.book refl f.whole g.whole;
        parts = each_append (IsPart log) v.parts w.parts f.parts g.parts;
        within = each_append (λ (p : Part). StartsWith seen p.upto) v.parts w.parts
            (each_as (λ (p : Part). StartsWith v.seen p.upto) (λ (p : Part). StartsWith seen p.upto) (λ p h. starts_trans seen v.seen p.upto begins.0 h) v.parts f.within)
            (each_as (λ (p : Part). StartsWith w.seen p.upto) (λ (p : Part). StartsWith seen p.upto) (λ p h. starts_trans seen w.seen p.upto begins.1 h) w.parts g.within);
        took = each_append (λ (p : Part). p.took ≡ taken_by p.number takers) v.parts w.parts f.took g.took;
        low = each_append (λ (p : Part). p.number < passes) v.parts w.parts f.low g.low;
        also = (
          begins.1,
          (
            begins.0,
            each_append (StartsWith seen) w.also v.also
                (each_as (StartsWith w.seen) (StartsWith seen) (λ l h. starts_trans seen w.seen l begins.1 h) w.also g.also)
                (each_as (StartsWith v.seen) (StartsWith seen) (λ l h. starts_trans seen v.seen l begins.0 h) v.also f.also),
          ),
        );
        cleared_most = let c = f.cleared_most in let d = g.cleared_most in omega (arith, c, d, v_short, w_short);
        cleared = most_sent v.cleared w.cleared log takers f.cleared g.cleared;
      }

  numbers_joined : (n : ℕ) (xs ys : List Part) → times n (numbers_of (xs ++ ys)) ≡ times n (numbers_of xs) + times n (numbers_of ys)
  numbers_joined n [] ys = omega arith
  numbers_joined n (p ∷ xs) ys = let rest = numbers_joined n xs ys in omega (arith, rest)

  pub joins_all : {S : Type 0} (id : ℕ) (v : View) (other : ℕ) (w : View) → Joins (holding follows actors passes {S = S}) id v other w (joined v w) spent
  joins_all id v other w =
      joins id v other w (joined v w) (one_of_two v.book w.book) (λ n. let t = numbers_joined n v.parts w.parts in omega (arith, t)) (λ log takers f g. fits_joined log takers v w f g)

-- ---- the start

fresh_below : (number n count : ℕ) → number < n → times number (numbers_of (fresh_parts n count)) ≡ 0
fresh_below number n zero less = refl
fresh_below number n (suc count) less =
    let off : (n == number) ≡ false = grind (arith, nat_tests) in
    let none : one_if (n == number) ≡ 0 = ap one_if off in
    let rest = fresh_below number (n + 1) count (omega (arith, less)) in
    omega (arith, none, rest)

at_most : (b : Bool) → one_if b ≤ 1
at_most true = omega arith
at_most false = omega arith

fresh_once : (number n count : ℕ) → times number (numbers_of (fresh_parts n count)) ≤ 1
fresh_once number n zero = omega arith
fresh_once number n (suc count) = here (n == number) refl (fresh_once number (n + 1) count)
  where
    here : (b : Bool) → (n == number) ≡ b → times number (numbers_of (fresh_parts (n + 1) count)) ≤ 1 → one_if (n == number) + times number (numbers_of (fresh_parts (n + 1) count)) ≤ 1
    here true e rest =
        let same : n ≡ number = grind (arith, nat_tests) in
        let none = fresh_below number (n + 1) count (omega (arith, same)) in
        let most = at_most (n == number) in
        omega (arith, none, most)
    here false e rest = let none : one_if (n == number) ≡ 0 = ap one_if e in omega (arith, none, rest)

fresh_parts_are : (n count : ℕ) → Each (IsPart []) (fresh_parts n count)
fresh_parts_are n zero = tt
fresh_parts_are n (suc count) = (([], refl, tt), fresh_parts_are (n + 1) count)

fresh_within : (n count : ℕ) → Each (λ (p : Part). StartsWith {A = Entry} [] p.upto) (fresh_parts n count)
fresh_within n zero = tt
fresh_within n (suc count) = (([], refl), fresh_within (n + 1) count)

fresh_took : (n count : ℕ) → Each (λ (p : Part). p.took ≡ taken_by p.number []) (fresh_parts n count)
fresh_took n zero = tt
fresh_took n (suc count) = (refl, fresh_took (n + 1) count)

fresh_low : (n count limit : ℕ) → n + count ≤ limit → Each (λ (p : Part). p.number < limit) (fresh_parts n count)
fresh_low n zero limit less = tt
fresh_low n (suc count) limit less = (omega (arith, less), fresh_low (n + 1) count limit (omega (arith, less)))

pub opens : (follows : List Entry → Entry → Type 0) (actors passes : ℕ) {S : Type 0} (homes : List S) → holding follows actors passes (opening (0 ∷ []) homes (first_view passes))
opens follows actors passes homes = (
  [],
  [],
  record {
    word = refl;
    short = omega arith;
    lawful = lawful_empty follows;
    acted = tt;
    named = tt;
    sent = omega arith;
    low = tt;
    one_book = omega arith;
    one_part = λ n. let once = fresh_once n 0 passes in omega (arith, once);
    fits = (
      record {
        begins = starts_empty [];
        told_least = omega arith;
        told_most = omega arith;
        whole = λ has. (refl, refl);
        parts = fresh_parts_are 0 passes;
        within = fresh_within 0 passes;
        took = fresh_took 0 passes;
        low = fresh_low 0 passes passes (omega arith);
        also = tt;
        cleared_most = omega arith;
        cleared = omega arith;
      },
      tt,
    );
  },
)

-- ---- parts cut off one by one

pub others_fresh : (number n count : ℕ) → number < n → other_parts number (fresh_parts n count) ≡ fresh_parts n count
others_fresh number n zero less = refl
others_fresh number n (suc count) less =
    let off : (n == number) ≡ false = grind (arith, nat_tests) in
    rw off (ap (λ (ps : List Part). fresh n ∷ ps) (others_fresh number (n + 1) count (omega (arith, less))))

pub own_fresh : (number n count : ℕ) → number < n → own_parts number (fresh_parts n count) ≡ []
own_fresh number n zero less = refl
own_fresh number n (suc count) less =
    let off : (n == number) ≡ false = grind (arith, nat_tests) in
    rw off (own_fresh number (n + 1) count (omega (arith, less)))

pub first_cut : (n count : ℕ) → (other_parts n (fresh_parts n (suc count)) ≡ fresh_parts (n + 1) count) × (own_parts n (fresh_parts n (suc count)) ≡ fresh n ∷ [])
first_cut n count =
    let here : (n == n) ≡ true = grind (arith, nat_tests) in
    (rw here (others_fresh n (n + 1) count (omega arith)), rw here (ap (λ (ps : List Part). fresh n ∷ ps) (own_fresh n (n + 1) count (omega arith))))
