-- Names that were declared so far, in their order.
use Rattle.std.specs.Prelude.{ℕ, List, [], ◌∷◌, ◌++◌, Bool, not, if◌then◌else◌, Option, is_some, position}
use Rattle.tp_model.specs.Ids.{same_name}

abbrev pub Names : Type 0
Names = List (List ℕ)

-- the place of a name among others
abbrev pub place_of : List ℕ → Names → Option ℕ
place_of name names = position (λ other. same_name other name) names

-- no such name is among these
abbrev pub is_new : List ℕ → Names → Bool
is_new name names = not (is_some (place_of name names))

-- the names after this one was declared
abbrev pub with_name : List ℕ → Names → Names
with_name name names = if is_new name names then names ++ name ∷ [] else names
