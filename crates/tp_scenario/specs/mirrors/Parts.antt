-- Some of an object's values, which code reads together.
use Rattle.std.specs.Prelude.{ℕ, ℤ, neg_ℤ, List, length, Result, Ok}
use Rattle.serde_json.specs.Data.{Data}
use Rattle.tp_model.specs.Words.{Level, Policy, Scheme, Version}
use Rattle.tp_model.specs.Limits.{clock_limit, rounds_limit, value_limit}
use Rattle.tp_scenario.specs.declared.fault.Fault.{Fault}
use Rattle.tp_scenario.specs.declared.path.Key.TheVariants.{Credentials, From, Until, Policies, Opening, Servers, Items, Min, Max, Value, Transactions, Scheme as SchemeKey, Level as LevelKey, Rounds}
use Rattle.tp_scenario.specs.declared.path.Path.TheVariants.{Field, Inner}
use Rattle.tp_scenario.specs.Chain.{◌>>=◌}
use Rattle.tp_scenario.specs.Admins.{opening_at, policies_at}
use Rattle.tp_scenario.specs.Txns.{level_at, scheme_at}
use Rattle.tp_scenario.specs.Values.{count_or, field, whole_in}

-- the policies of an administrator, and the one that is newest at the start
abbrev pub library_at : ℕ → Data → Result (List Policy × Version) Fault
library_at at fields = do
  library ← policies_at at (field Policies fields)
  opening ← opening_at at (length library) (field Opening fields)
  Ok (library, opening)

-- the bounds and the value of an item
abbrev pub bounds_and_value_at : ℕ → ℕ → Data → Result (ℤ × ℤ × ℤ) Fault
bounds_and_value_at server at fields = do
  min ← whole_in (Inner Servers server Items at Min) (neg_ℤ value_limit) value_limit
      (field Min fields)
  max ← whole_in (Inner Servers server Items at Max) min value_limit (field Max fields)
  value ← whole_in (Inner Servers server Items at Value) min max (field Value fields)
  Ok (min, max, value)

-- the interval of a credential
abbrev pub interval_at : ℕ → Data → Result (ℕ × ℕ) Fault
interval_at at fields = do
  from ← count_or (Field Credentials at From) 0 clock_limit 0 (field From fields)
  until ← count_or (Field Credentials at Until) 0 clock_limit clock_limit (field Until fields)
  Ok (from, until)

-- how a transaction is run
abbrev pub manner_at : ℕ → Data → Result (Scheme × Level × ℕ) Fault
manner_at at fields = do
  scheme ← scheme_at (Field Transactions at SchemeKey) (field SchemeKey fields)
  level ← level_at (Field Transactions at LevelKey) (field LevelKey fields)
  rounds ← count_or (Field Transactions at Rounds) 1 rounds_limit 8 (field Rounds fields)
  Ok (scheme, level, rounds)
