-- What a closed book is, beside the passes that were taken in.
use Rattle.std.specs.Prelude.{◌≡◌, ℕ, ◌+◌, ◌<◌, ◌≤◌, ◌^◌, ◌&&◌, List, [], ◌∷◌, length, filter, flat_map, take, nat_lt}
use Rattle.tp_types.specs.Each.{Each}
use Rattle.tp_wire.specs.declared.book.Book.{Book}
use Rattle.tp_wire.specs.declared.view.Entry.{Entry}
use Rattle.tp_wire.specs.declared.view.Part.{Part}
use Rattle.tp_wire.specs.declared.view.View.{View}
use Rattle.tp_wire.specs.Entries.{steps_in, facts_in, mails_in, sent_in}
use Rattle.tp_wire.specs.History.{StartsWith, Lawful, HasOneActor, IsPart, NamesBelow, one_if, times, names, numbers_of, taken_by}

-- all parts of these views
abbrev pub parts_of : List View → List Part
parts_of views = flat_map (λ (v : View). v.parts) views

-- the numbers of the mails that these parts took
abbrev pub taken_in : List Part → List ℕ
taken_in parts = flat_map (λ (p : Part). p.took) parts

-- the part of each number below the limit is among these
abbrev pub HasParts : ℕ → List Part → Type 0
HasParts limit parts = (number : ℕ) → number < limit → 1 ≤ times number (numbers_of parts)

-- the entries of a history that name a number
abbrev pub own : ℕ → List Entry → List Entry
own number log = filter (names number) log

-- in how many parts of actors an entry stands
abbrev pub holders : ℕ → List Part → Entry → ℕ
holders actors [] e = 0
holders actors (p ∷ parts) e = one_if (nat_lt p.number actors && names p.number e) + holders actors parts e

-- There is one history, of which the book tells the steps, the facts and the mails, and which keeps the law. It has at
-- most 2^48 entries, each of which names numbers of the wire's passes alone, and one actor's. What each
-- pass has seen begins it, and no pass was told a greater length than it has. The entries of each part are all entries
-- of the history that name it, in the history's order, and no two parts have one number. Where the parts of all actors
-- are here, each entry stands in just one of these. The mails that were taken are the first ones of the book, so many as
-- there are takers: each part took those at whose numbers its own stands, and so none was taken twice, and none passed
-- over. All that was sent in the beginning up to which a pass found all taken is among these, and where all parts are
-- here, among what they took
pub record IsClosed (follows : List Entry → Entry → Type 0) (actors passes : ℕ) (views : List View) (book : Book) : Type 0 where
  pub log : List Entry
  pub takers : List ℕ
  pub steps : book.steps ≡ steps_in log
  pub facts : book.facts ≡ facts_in log
  pub mails : book.mails ≡ mails_in log
  pub lawful : Lawful follows log
  pub acted : Each (HasOneActor actors) log
  pub short : length log ≤ 2 ^ 48
  pub named : Each (NamesBelow passes) log
  pub seen : Each (λ (v : View). StartsWith log v.seen) views
  pub told : Each (λ (v : View). v.told ≤ length log) views
  pub parts : Each (IsPart log) (parts_of views)
  pub in_order : Each (λ (p : Part). own p.number p.upto ≡ own p.number log) (parts_of views)
  pub apart : (number : ℕ) → times number (numbers_of (parts_of views)) ≤ 1
  pub one_holder : HasParts actors (parts_of views) → Each (λ (e : Entry). holders actors (parts_of views) e ≡ 1) log
  pub takers_low : Each (λ (taker : ℕ). taker < passes) takers
  pub takers_few : length takers ≤ length book.mails
  pub took : Each (λ (p : Part). p.took ≡ taken_by p.number takers) (parts_of views)
  pub taken_once : (mail : ℕ) → times mail (taken_in (parts_of views)) ≤ 1
  pub taken_sent : (mail : ℕ) → 1 ≤ times mail (taken_in (parts_of views)) → mail < length book.mails
  pub all_taken : Each (λ (v : View). sent_in (take v.cleared log) ≤ length takers) views
  pub cleared : HasParts passes (parts_of views)
      → Each (λ (v : View). (mail : ℕ) → mail < sent_in (take v.cleared log) → 1 ≤ times mail (taken_in (parts_of views))) views
