-- What a pass shows, and what becomes of it.
use Rattle.std.specs.Prelude.{◌≡◌, ℕ, zero, suc, ◌+◌, ◌≤◌, ◌==◌, ◌||◌, List, [], ◌∷◌, ◌++◌, length, map, filter, max, not, Bool, false, nat_lt, if◌then◌else◌}
use Rattle.atomic_table.specs.Seated.{TableId}
use Rattle.tp_types.specs.declared.fact.What.{What}
use Rattle.tp_types.specs.declared.mail.Letter.{Letter}
use Rattle.tp_types.specs.declared.scenario.Step.{Step}
use Rattle.tp_types.specs.Each.{Each}
use Rattle.tp_wire.specs.declared.view.Entry.{Entry}
use Rattle.tp_wire.specs.declared.view.Part.{Part}
use Rattle.tp_wire.specs.declared.view.View.{View}
use Rattle.tp_wire.specs.History.{StartsWith, Lawful, HasOneActor, IsPart, numbers_of}
use Rattle.tp_wire.specs.Rule.{fresh, holder}

-- a pass is of one table, knows a view, and is given up or not
pub record Known : Type 0 where
  pub table : TableId
  pub view : View
  pub given_up : Bool

abbrev pub views_of : List Known → List View
views_of passes = map (λ (p : Known). p.view) passes

-- ---- passes at the start

-- a wire that no type names yet: its table, and what it was told
pub record Opened (K : Type 0) : Type 0 where
  pub table : TableId
  pub about : K

-- the pass of a number, as it is opened
abbrev pub fresh_pass : TableId → ℕ → Known
fresh_pass table number =
    record { table = table; view = holder (fresh number ∷ []); given_up = false }

-- so many passes from a number on
abbrev pub fresh_passes : TableId → ℕ → ℕ → List Known
fresh_passes table number zero = []
fresh_passes table number (suc count) = fresh_pass table number ∷ fresh_passes table (number + 1) count

-- ---- a look

-- what any seat is told by a load that found this length
pub record Knows (follows : List Entry → Entry → Type 0) (actors found : ℕ) (v : View) : Type 0 where
  pub told : v.told ≤ found
  pub seen : length v.seen ≤ v.told
  pub lawful : Lawful follows v.seen
  pub acted : Each (HasOneActor actors) v.seen
  pub parts : Each (IsPart v.seen) v.parts
  pub also : Each (StartsWith v.seen) v.also

-- after a look that found this length
abbrev pub looked : View → ℕ → View
looked v found = record v { also = []; told = found }

-- a look, and what it tells
pub record IsLook (follows : List Entry → Entry → Type 0) (actors found : ℕ) (v w : View) : Type 0 where
  pub knows : Knows follows actors found v
  pub view_is : w ≡ looked v found

-- ---- a post

-- the entry of a poster names all numbers that it holds
abbrev pub entry_by : View → Step → List What → List Letter → Entry
entry_by v step happened letters =
    record { step = step; happened = happened; letters = letters; numbers = numbers_of v.parts }

-- the part goes on to this history
abbrev pub moved : List Entry → Part → Part
moved log p = record p { upto = log }

-- whatever the history is that the poster finds, the entry may follow it
abbrev pub MayPost : (List Entry → Entry → Type 0) → View → Entry → Type 0
MayPost follows v e =
    (log : List Entry) → StartsWith log v.seen → Each (IsPart log) v.parts → Lawful follows log → follows log e

-- ---- a mail that is taken

-- the part has taken one mail more
abbrev pub with_mail : ℕ → Part → Part
with_mail mail p = record p { took = p.took ++ mail ∷ [] }

-- ---- a part given back

abbrev pub other_parts : ℕ → List Part → List Part
other_parts number parts = filter (λ (p : Part). not (p.number == number)) parts

abbrev pub own_parts : ℕ → List Part → List Part
own_parts number parts = filter (λ (p : Part). p.number == number) parts

-- what is left without the part of a number
abbrev pub without_part : ℕ → View → View
without_part number v = record v { parts = other_parts number v.parts }

-- the part of a number alone, with what was seen
abbrev pub part_alone : ℕ → View → View
part_alone number v = record (holder (own_parts number v.parts)) { seen = v.seen; told = v.told; cleared = v.cleared }

-- ---- a pass taken in

abbrev pub longer : List Entry → List Entry → List Entry
longer xs ys = if nat_lt (length xs) (length ys) then ys else xs

-- everything is taken in, but for a second book
abbrev pub joined : View → View → View
joined v w = record {
  book = v.book || w.book;
  log = if v.book then v.log else w.log;
  takers = if v.book then v.takers else w.takers;
  parts = v.parts ++ w.parts;
  seen = longer v.seen w.seen;
  also = w.seen ∷ (v.seen ∷ (w.also ++ v.also));
  told = max v.told w.told;
  cleared = max v.cleared w.cleared;
}
