-- The passes that are taken home from the actors.
use Rattle.std.specs.Prelude.{◌≡◌, ℕ, ◌+◌, List, [], ◌∷◌, ◌++◌, length, false}
use Rattle.atomic_table.specs.Seated.{TableId}
use Rattle.tp_wire.specs.declared.view.Part.{Part}
use Rattle.tp_wire.specs.Passes.{Known}

-- the pass that was kept with the actor of this number
pub record IsHome (table : TableId) (number : ℕ) (kept : Known) : Type 0 where
  pub site : kept.table ≡ table
  pub live : kept.given_up ≡ false
  pub part : Part
  pub one : kept.view.parts ≡ part ∷ []
  pub number_is : part.number ≡ number
  pub took : part.took ≡ []

-- so they are from this number on
abbrev pub AreHome : TableId → ℕ → List Known → Type 0
AreHome table number [] = Unit {0}
AreHome table number (kept ∷ others) = IsHome table number kept × AreHome table (number + 1) others

-- behind the old passes stand those of the actors from one number up to another
pub record AreGathered (table : TableId) (first next : ℕ) (old new : List Known) : Type 0 where
  pub homes : List Known
  pub new_is : new ≡ old ++ homes
  pub home : AreHome table first homes
  pub count : first + length homes ≡ next
