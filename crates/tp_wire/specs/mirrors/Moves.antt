-- What each step of a seat does to its view, and what it is told.
use Rattle.std.specs.Prelude.{◌≡◌, ℕ, ◌^◌, ◌<◌, ◌≤◌, List, [], ◌∷◌, ◌++◌, length, map, take, false}
use Rattle.tp_types.specs.declared.scenario.Step.TheVariants.{Tick}
use Rattle.tp_types.specs.Each.{Each}
use Rattle.tp_wire.specs.declared.view.Entry.{Entry}
use Rattle.tp_wire.specs.declared.view.Part.{Part}
use Rattle.tp_wire.specs.declared.view.View.{View}
use Rattle.tp_wire.specs.Entries.{sent_in}
use Rattle.tp_wire.specs.History.{StartsWith, Lawful, HasOneActor, IsPart, NamesBelow, times, numbers_of, taken_by}
use Rattle.tp_wire.specs.Passes.{moved, with_mail, joined}
use Rattle.tp_wire.specs.Rule.{holder, keeper}

-- ---- what is told

-- what the seat with the book is told: its history is the whole one
pub record Holds (follows : List Entry → Entry → Type 0) (actors passes : ℕ) (v : View) : Type 0 where
  pub begins : StartsWith v.log v.seen
  pub told : v.told ≤ length v.log
  pub short : length v.log ≤ 2 ^ 48
  pub lawful : Lawful follows v.log
  pub acted : Each (HasOneActor actors) v.log
  pub named : Each (NamesBelow passes) v.log
  pub parts : Each (IsPart v.log) v.parts
  pub took : Each (λ (p : Part). p.took ≡ taken_by p.number v.takers) v.parts
  pub apart : (number : ℕ) → times number (numbers_of v.parts) ≤ 1
  pub low : Each (λ (taker : ℕ). taker < passes) v.takers
  pub sent : length v.takers ≤ sent_in v.log
  pub also : Each (StartsWith v.seen) v.also
  pub cleared : sent_in (take v.cleared v.log) ≤ length v.takers

-- the seat with the book has gone from one view to the next
pub record Made (follows : List Entry → Entry → Type 0) (actors passes found : ℕ) (v next : View) : Type 0 where
  pub found_is : found ≡ length v.log
  pub held : Holds follows actors passes v
  pub holds : Holds follows actors passes next

-- ---- views after a step

-- no entry that is posted
abbrev pub no_entry : Entry
no_entry = record { step = Tick 0; happened = []; letters = []; numbers = [] }

-- the seat with the book has seen the whole history
abbrev pub reads : View → View
reads v = record v { seen = v.log; also = []; told = length v.log }

-- the entry is added, and stands in each part
abbrev pub adds : Entry → View → View
adds e v = record v {
  log = v.log ++ e ∷ [];
  parts = map (moved (v.log ++ e ∷ [])) v.parts;
  seen = v.log ++ e ∷ [];
  also = [];
  told = length (v.log ++ e ∷ []);
}

-- the parts, of which there is one, take the first mail that is free
abbrev pub takes : View → View
takes v = record v {
  takers = v.takers ++ numbers_of v.parts;
  parts = map (with_mail (length v.takers)) v.parts;
  seen = v.log;
  also = [];
  told = length v.log;
}

-- each mail was found taken
abbrev pub clears : View → View
clears v = record v { seen = v.log; also = []; told = length v.log; cleared = length v.log }

-- ---- a view cut in two

-- what is left without the book
abbrev pub without_book : View → View
without_book v = record v { book = false; log = []; takers = [] }

-- the book alone
abbrev pub book_alone : View → View
book_alone v = record (keeper v.log v.takers) { book = v.book }

-- ---- two views made one

-- the book is taken in
abbrev pub with_book : View → View → View
with_book v w = record v { book = w.book; log = w.log; takers = w.takers }

-- a seat that was taken in
abbrev pub spent : View
spent = holder []

-- views are taken in one after another
abbrev pub all_joined : View → List View → View
all_joined v [] = v
all_joined v (w ∷ ws) = all_joined (joined v w) ws
