-- The rule of the table: its word is the length of a history, and each view fits that history.
use Rattle.std.specs.Prelude.{◌≡◌, ℕ, zero, suc, ◌+◌, ◌^◌, ◌<◌, ◌≤◌, List, [], ◌∷◌, length, take, true, false}
use Rattle.tp_types.specs.Each.{Each}
use Rattle.tp_wire.specs.declared.view.Entry.{Entry}
use Rattle.tp_wire.specs.declared.view.Part.{Part}
use Rattle.tp_wire.specs.declared.view.View.{View}
use Rattle.tp_wire.specs.Entries.{sent_in}
use Rattle.tp_wire.specs.History.{StartsWith, Lawful, HasOneActor, IsPart, NamesBelow, one_if, times, numbers_of, taken_by}

-- ---- one view

-- what a view says, beside a history and the takers of its mails; parts have the numbers below `passes`
pub record Fits (passes : ℕ) (log : List Entry) (takers : List ℕ) (v : View) : Type 0 where
  pub begins : StartsWith log v.seen
  pub told_least : length v.seen ≤ v.told
  pub told_most : v.told ≤ length log
  pub whole : v.book ≡ true → (v.log ≡ log) × (v.takers ≡ takers)
  pub parts : Each (IsPart log) v.parts
  pub within : Each (λ (p : Part). StartsWith v.seen p.upto) v.parts
  pub took : Each (λ (p : Part). p.took ≡ taken_by p.number takers) v.parts
  pub low : Each (λ (p : Part). p.number < passes) v.parts
  pub also : Each (StartsWith v.seen) v.also
  pub cleared_most : v.cleared ≤ length v.seen
  pub cleared : sent_in (take v.cleared log) ≤ length takers

-- ---- all views

abbrev pub total : (View → ℕ) → List View → ℕ
total f [] = 0
total f (v ∷ views) = f v + total f views

abbrev pub books : View → ℕ
books v = one_if v.book

-- how often a view has the part of a number
abbrev pub parts_at : ℕ → View → ℕ
parts_at number v = times number (numbers_of v.parts)

-- the word is the length of the history, which is lawful; one view at most has the book, and one the part of a number
pub record KeptOf (follows : List Entry → Entry → Type 0) (actors passes : ℕ) (words : List ℕ) (views : List View) (log : List Entry) (takers : List ℕ) : Type 0 where
  pub word : words ≡ length log ∷ []
  pub short : length log ≤ 2 ^ 48
  pub lawful : Lawful follows log
  pub acted : Each (HasOneActor actors) log
  pub named : Each (NamesBelow passes) log
  pub sent : length takers ≤ sent_in log
  pub low : Each (λ (taker : ℕ). taker < passes) takers
  pub one_book : total books views ≤ 1
  pub one_part : (number : ℕ) → total (parts_at number) views ≤ 1
  pub fits : Each (Fits passes log takers) views

abbrev pub Kept : (List Entry → Entry → Type 0) → ℕ → ℕ → List ℕ → List View → Type 0
Kept follows actors passes words views =
    (log : List Entry) × (takers : List ℕ) × KeptOf follows actors passes words views log takers

-- ---- views at the start

abbrev pub fresh : ℕ → Part
fresh number = record { number = number; upto = []; took = [] }

-- so many parts from a number on
abbrev pub fresh_parts : ℕ → ℕ → List Part
fresh_parts number zero = []
fresh_parts number (suc count) = fresh number ∷ fresh_parts (number + 1) count

-- a seat that knows nothing but these parts
abbrev pub holder : List Part → View
holder parts = record { book = false; log = []; takers = []; parts = parts; seen = []; also = []; told = 0; cleared = 0 }

-- the seat that has the book and no part
abbrev pub keeper : List Entry → List ℕ → View
keeper log takers = record { book = true; log = log; takers = takers; parts = []; seen = []; also = []; told = 0; cleared = 0 }

-- the first seat has the book, empty, and all parts
abbrev pub first_view : ℕ → View
first_view passes = record { book = true; log = []; takers = []; parts = fresh_parts 0 passes; seen = []; also = []; told = 0; cleared = 0 }
