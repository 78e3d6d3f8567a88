-- What the adapters over std's readers and writers hold.
use Rattle.std.specs.Prelude.{ℕ, ◌==◌, ◌||◌, nat_lt, List, length, Bool, false, Result, Ok, Err, refl}
use Rattle.std.specs.Coded.{Coded, code_by, coded×, coded_ℕ}

-- a reader or a writer, and how many faults it has met
pub record Counter (X : Type 0) : Type 0 where
  pub inner : X
  pub faults : ℕ

-- it is stored as the pair of its fields
abbrev pub counter_code : {X : Type 0} → Coded X → Coded (Counter X)
counter_code {X} code =
    code_by (X × ℕ) (coded× code coded_ℕ) (λ c. (c.inner, c.faults))
    (λ p. record { inner = p.0; faults = p.1 }) (λ _. refl)

-- a write took some of the piece, or there was nothing to take
abbrev pub took_some : {E : Type 0} → Result ℕ E → List ℕ → Bool
took_some (Ok count) piece = nat_lt 0 count || (length piece == 0)
took_some (Err _) piece = false
