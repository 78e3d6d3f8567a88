-- The members of an object as code lends them.
use Rattle.std.specs.Prelude.{ℕ, List, [], ◌∷◌, map}
use Rattle.serde_json.specs.Data.{Members, no_members, member}
use Rattle.tp_json.specs.View.{view}
use Rattle.tp_json.specs.declared.tree.Json.{Json}
use denote.Ref.{Bor}

-- a key of the text, and its value
abbrev pub Member : Type 0
Member = Bor (List ℕ) × Json

-- a member in the order of keys
abbrev pub Entry : Type 0
Entry = Bor (List ℕ) × Bor Json

-- the members that are lent
abbrev pub lent : List (Bor (Bor (List ℕ)) × Bor (Bor Json)) → List Entry
lent entries = map (λ entry. (entry.0.now, entry.1.now)) entries

-- what they stand for
abbrev pub entries_view : List (Bor (Bor (List ℕ)) × Bor (Bor Json)) → Members
entries_view [] = no_members
entries_view (entry ∷ entries) =
    member entry.0.now.now (view entry.1.now.now) (entries_view entries)
