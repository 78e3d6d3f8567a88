-- What a ring is: nodes between an end and itself, with links that agree both ways.
use Rattle.std.specs.Prelude.{ℕ, zero, suc, ◌≡◌, ◌<◌, ◌==◌, List, [], ◌∷◌, Bool, false}
use Rattle.std.specs.List.{list_any}
use Rattle.tp_lock_chain.specs.declared.links.Pair.{Pair}
use Rattle.tp_lock_chain.specs.declared.links.Spot.{Spot}
use Rattle.tp_lock_chain.specs.declared.links.Spot.TheVariants.{End, On}

abbrev pub is_in : ℕ → List ℕ → Bool
is_in node nodes = list_any (λ other. other == node) nodes

-- no node stands twice
abbrev pub AreApart : List ℕ → Type 0
AreApart [] = Unit {0}
AreApart (node ∷ nodes) = (is_in node nodes ≡ false) × AreApart nodes

-- these nodes stand from the first place to the last, one after the other, and links agree both ways
abbrev pub AreLinked : (Spot → Pair) → Spot → List ℕ → Spot → Type 0
AreLinked links first [] last = ((links first).after ≡ last) × ((links last).before ≡ first)
AreLinked links first (node ∷ nodes) last =
    ((links first).after ≡ On node) × ((links (On node)).before ≡ first)
    × AreLinked links (On node) nodes last

-- the nodes from a place on, up to the end of its ring, at most so many
abbrev pub walk : ℕ → (Spot → Pair) → Spot → List ℕ
walk zero links spot = []
walk (suc fuel) links (End ring) = []
walk (suc fuel) links (On node) = node ∷ walk fuel links (links (On node)).after

-- rings of these nodes, each through an end of its own: a ring has the nodes that belong to it, each once
pub record AreRings (links : Spot → Pair) (count : ℕ) (belongs : ℕ → ℕ → Bool) (rings : ℕ → List ℕ)
    : Type 0 where
  pub linked : (ring : ℕ) → ring < count → AreLinked links (End ring) (rings ring) (End ring)
  pub apart : (ring : ℕ) → ring < count → AreApart (rings ring)
  pub own : (ring : ℕ) → ring < count → (node : ℕ) → is_in node (rings ring) ≡ belongs ring node
