-- Numbers of queries that rise.
use Rattle.std.proofs.Common.{List, [], arith, ℕ, ◌++◌, ◌∷◌, ◌≤◌}

-- the numbers rise from the one number to the other
abbrev pub AreRising : ℕ → List ℕ → ℕ → Type 0
AreRising low [] high = low ≤ high
AreRising low (number ∷ numbers) high = (low ≤ number) × AreRising number numbers high

-- so they do with a number that is not less
pub rising_more : (low : ℕ) (numbers : List ℕ) (high more : ℕ) → high ≤ more → AreRising low numbers high → AreRising low (numbers ++ more ∷ []) more
rising_more low [] high more less h = (omega (arith, less, h), omega arith)
rising_more low (number ∷ numbers) high more less h = (h.0, rising_more number numbers high more less h.1)

-- and up to one that is greater
pub rising_under : (low : ℕ) (numbers : List ℕ) (high more : ℕ) → high ≤ more → AreRising low numbers high → AreRising low numbers more
rising_under low [] high more less h = omega (arith, less, h)
rising_under low (number ∷ numbers) high more less h = (h.0, rising_under number numbers high more less h.1)
