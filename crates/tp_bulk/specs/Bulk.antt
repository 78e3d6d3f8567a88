-- A large scenario, by the number of its transactions.
use Rattle.std.specs.Prelude.{ℕ, ◌+◌, ◌*◌, ◌/◌, ◌%◌, List, [], ◌∷◌, ◌++◌, None, false, map, codes, decimal, zero, suc, pos}
use Rattle.std.specs.List.{range_with_len}
use Rattle.tp_model.specs.Words.{Admin, Item, Policy, Query, Scenario, ServerDecl, Step, Term, Transaction}
use Rattle.tp_model.specs.Words.step
use Rattle.tp_types.specs.declared.policy.Cond.TheVariants.{True}
use Rattle.tp_types.specs.declared.policy.Pattern.TheVariants as pattern
use Rattle.tp_types.specs.declared.scenario.Level.TheVariants.{View}
use Rattle.tp_types.specs.declared.scenario.Operand.TheVariants.{Constant, Register}
use Rattle.tp_types.specs.declared.scenario.Query.TheVariants.{Read, Write}
use Rattle.tp_types.specs.declared.scenario.Scheme.TheVariants.{Deferred}

-- ---- the draws, a linear congruential generator

-- the number behind this one
abbrev pub next_state : ℕ → ℕ
next_state x = (1103515245 * x + 12345) % 2147483648

-- what is drawn at it, below a bound: by its upper bits
abbrev pub drawn_below : ℕ → ℕ → ℕ
drawn_below x bound = x / 65536 % bound

-- ---- what servers keep

abbrev pub allows_all : Policy
allows_all = record { rules = record { action = None; pattern = pattern.All; cond = True } ∷ [] }

-- two versions of one policy, of which the second is the opening one
abbrev pub administrator : Admin
administrator =
    record { name = codes "hr"; library = allows_all ∷ allows_all ∷ []; opening = record { 0 = 2 } }

-- each server has four of the items
abbrev pub item_at : ℕ → Item
item_at number = record {
  name = codes "i" ++ decimal number;
  server = record { 0 = number / 4 };
  admin = record { 0 = 0 };
  min = pos 0;
  max = pos 1000000;
  value = pos 100;
}

-- the servers know the first and the second version by turns
abbrev pub server_at : ℕ → ServerDecl
server_at number = record {
  name = codes "s" ++ decimal number;
  knows = record { 0 = number % 2 + 1 } ∷ [];
  items = map (λ (item : ℕ). record { 0 = item }) (range_with_len (4 * number) 4);
}

-- ---- transactions

-- what was read, and a constant
abbrev pub sum_of : ℕ → List Term
sum_of constant =
    record { minus = false; operand = Register 1 }
    ∷ record { minus = false; operand = Constant (pos constant) } ∷ []

-- one item is read, and one is written with that sum
abbrev pub queries_by : ℕ → ℕ → ℕ → List Query
queries_by read written constant =
    Read (record { 0 = read }) 1 ∷ Write (record { 0 = written }) (sum_of constant) ∷ []

-- the queries go by the three draws from here on
abbrev pub queries_at : ℕ → List Query
queries_at x =
    let first = next_state x in
    let second = next_state first in
    let third = next_state second in
    queries_by (drawn_below first 16) (drawn_below second 16) (drawn_below third 10)

abbrev pub txn_at : ℕ → ℕ → Transaction
txn_at number x = record {
  name = codes "t" ++ decimal number;
  subject = codes "ann";
  scheme = Deferred;
  level = View;
  rounds = 8;
  creds = [];
  queries = queries_at x;
}

-- so many transactions, from this number and these draws on
abbrev pub txns_from : ℕ → ℕ → ℕ → List Transaction
txns_from zero number x = []
txns_from (suc left) number x =
    txn_at number x ∷ txns_from left (number + 1) (next_state (next_state (next_state x)))

-- ---- the whole

-- one administrator, four servers, sixteen items, and so many transactions, which are all submitted first
unfoldable pub scenario_of : ℕ → Scenario
scenario_of count = record {
  admins = administrator ∷ [];
  clock = 0;
  creds = [];
  servers = map server_at (range_with_len 0 4);
  items = map item_at (range_with_len 0 16);
  txns = txns_from count 0 count;
  steps = map (λ (number : ℕ). step.Submit (record { 0 = number })) (range_with_len 0 count);
  clients = [];
  publishers = [];
  officers = [];
}
