-- A history, its beginnings, and its parts.
use Rattle.std.specs.Prelude.{◌≡◌, ℕ, ◌+◌, ◌<◌, ◌==◌, List, [], ◌∷◌, ◌++◌, map, Bool, true, false, nat_lt, if◌then◌else◌}
use Rattle.tp_types.specs.Each.{Each}
use Rattle.tp_wire.specs.declared.view.Entry.{Entry}
use Rattle.tp_wire.specs.declared.view.Part.{Part}

-- the second list begins the first
abbrev pub StartsWith : {A : Type 0} → List A → List A → Type 0
StartsWith {A} whole begin = (more : List A) × (begin ++ more ≡ whole)

-- each entry may follow those before it
abbrev pub Lawful : (List Entry → Entry → Type 0) → List Entry → Type 0
Lawful follows log = (before : List Entry) (e : Entry) (after : List Entry) → log ≡ before ++ e ∷ after → follows before e

abbrev pub one_if : Bool → ℕ
one_if true = 1
one_if false = 0

-- how often a number stands in a list
abbrev pub times : ℕ → List ℕ → ℕ
times number [] = 0
times number (other ∷ others) = one_if (other == number) + times number others

-- how many numbers of a list are below a limit
abbrev pub times_below : ℕ → List ℕ → ℕ
times_below limit [] = 0
times_below limit (other ∷ others) = one_if (nat_lt other limit) + times_below limit others

-- the entry names the number
abbrev pub names : ℕ → Entry → Bool
names number e = nat_lt 0 (times number e.numbers)

-- the entry does not name the number
abbrev pub Misses : ℕ → Entry → Type 0
Misses number e = times number e.numbers ≡ 0

-- the entry is of one actor: it names one number below this one, and once
abbrev pub HasOneActor : ℕ → Entry → Type 0
HasOneActor actors e = times_below actors e.numbers ≡ 1

-- the entry names numbers below this one alone
abbrev pub NamesBelow : ℕ → Entry → Type 0
NamesBelow limit e = Each (λ (number : ℕ). number < limit) e.numbers

-- the history begins with that of the part, and behind it no entry names the part
abbrev pub IsPart : List Entry → Part → Type 0
IsPart log p = (more : List Entry) × (p.upto ++ more ≡ log) × Each (Misses p.number) more

abbrev pub numbers_of : List Part → List ℕ
numbers_of parts = map (λ (p : Part). p.number) parts

abbrev pub taken_from : ℕ → ℕ → List ℕ → List ℕ
taken_from at number [] = []
taken_from at number (taker ∷ takers) =
    if taker == number then at ∷ taken_from (at + 1) number takers else taken_from (at + 1) number takers

-- the mails that a part took: the places at which its number stands among the takers
abbrev pub taken_by : ℕ → List ℕ → List ℕ
taken_by number takers = taken_from 0 number takers
