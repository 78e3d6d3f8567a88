-- The value that a query asks for: a write's sum over the registers that the reads before it have set. Each step of a sum is held in
-- an i128; between the limits of a scenario no step leaves it, and the sum is exact.
use Rattle.std.specs.Int.{saturate_signed, w128}
use Rattle.std.specs.Prelude.{List, None, Option, Some, [], fold, option_and_then, pos, slice_set, ℕ, ℤ, ◌+ℤ◌, ◌∷◌}
use Rattle.tp_types.specs.declared.scenario.Query.TheVariants.{Read, Write}
use Rattle.tp_model.specs.Queries.{query_at}
use Rattle.tp_model.specs.SerialRun.{cleared_registers, term_in}
use Rattle.tp_model.specs.Words.{Deed, Query, Term, Transaction}

-- ---- registers

-- the registers after a query with this value: a read keeps it
abbrev pub registers_with : Query → ℤ → List ℤ → List ℤ
registers_with (Read item into) value registers = slice_set registers into value
registers_with (Write item expr) value registers = registers

-- the registers after the deeds of queries
abbrev pub registers_from : List Query → List Deed → List ℤ → List ℤ
registers_from [] deeds registers = registers
registers_from (query ∷ queries) [] registers = registers
registers_from (query ∷ queries) (deed ∷ deeds) registers =
    registers_from queries deeds (registers_with query deed.value registers)

-- the registers after a transaction's first deeds
abbrev pub registers_after : Transaction → List Deed → List ℤ
registers_after txn deeds = registers_from txn.queries deeds cleared_registers

-- ---- sums

-- the nearest number that an i128 holds
abbrev pub in_128_bits : ℤ → ℤ
in_128_bits total = saturate_signed w128 total

abbrev pub add_clamped : List ℤ → ℤ → Term → ℤ
add_clamped registers total term = in_128_bits (total +ℤ term_in registers term)

-- the value of a sum, each step of it held in an i128
abbrev pub clamped_sum : List ℤ → List Term → ℤ
clamped_sum registers expr = fold (add_clamped registers) (pos 0) expr

-- the value that a query asks for: a write's sum
abbrev pub sum_asked : List ℤ → Query → Option ℤ
sum_asked registers (Read item into) = None
sum_asked registers (Write item expr) = Some (clamped_sum registers expr)

-- the value that a query is asked with after these deeds: the sum where it writes
abbrev pub asked_value : Transaction → List Deed → ℕ → Option ℤ
asked_value txn deeds number =
    option_and_then (sum_asked (registers_after txn deeds)) (query_at txn number)
