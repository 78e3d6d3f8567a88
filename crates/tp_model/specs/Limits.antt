-- The limits of a scenario, and of the numbers in it.
use Rattle.std.specs.Prelude.{ℕ, ◌^◌, ◌-◌, ◌&&◌, nat_le, List, [], ◌∷◌, length, Bool, true, false, ℤ, pos, neg_ℤ, not, ◌+◌, min}
use Rattle.std.specs.Ordering.{int_cmp, is_gt}

-- x is at most y
abbrev pub int_le : ℤ → ℤ → Bool
int_le x y = not (is_gt (int_cmp x y))

-- the greatest magnitude of an item's value or bound
abbrev pub value_limit : ℤ
value_limit = pos (10 ^ 15)

-- low <= x <= high
abbrev pub is_between : ℤ → ℤ → ℤ → Bool
is_between low high x = int_le low x && int_le x high

-- a value or a bound of an item is within plus or minus 10^15
abbrev pub is_value : ℤ → Bool
is_value x = is_between (neg_ℤ value_limit) value_limit x

-- the greatest number that is spelled: 15 digits
abbrev pub number_limit : ℤ
number_limit = pos (10 ^ 15 - 1)

-- the last time of a clock at the start, and the last that a credential's interval may name
abbrev pub clock_limit : ℕ
clock_limit = 10 ^ 12

-- the most by which one step moves the clock
abbrev pub tick_limit : ℕ
tick_limit = 1000000

-- the most listed steps, and the most steps of an officer
abbrev pub steps_limit : ℕ
steps_limit = 100000

-- the greatest count of 32 bits
abbrev pub count_limit : ℕ
count_limit = 2 ^ 32 - 1

-- the count after this one; the greatest stays
abbrev pub next_count : ℕ → ℕ
next_count count = min (count + 1) count_limit

-- under view consistency two rounds bring all servers to one version
abbrev pub view_rounds : ℕ
view_rounds = 2

-- the most administrators
abbrev pub admins_limit : ℕ
admins_limit = 16

-- the most versions in an administrator's library
abbrev pub versions_limit : ℕ
versions_limit = 64

-- the most credentials, of a scenario and of a transaction
abbrev pub creds_limit : ℕ
creds_limit = 256

-- the most servers
abbrev pub servers_limit : ℕ
servers_limit = 16

-- the most items of a server
abbrev pub items_limit : ℕ
items_limit = 64

-- the most transactions
abbrev pub txns_limit : ℕ
txns_limit = 128

-- the most queries of a transaction
abbrev pub queries_limit : ℕ
queries_limit = 16

-- the most rounds that a transaction may ask for
abbrev pub rounds_limit : ℕ
rounds_limit = 16

-- the last register; they count from 1
abbrev pub registers_limit : ℕ
registers_limit = 9

-- the most terms of a sum
abbrev pub terms_limit : ℕ
terms_limit = 5

-- the most clients
abbrev pub clients_limit : ℕ
clients_limit = 16

-- the most publishers
abbrev pub publishers_limit : ℕ
publishers_limit = 8

-- the most officers
abbrev pub officers_limit : ℕ
officers_limit = 8

-- the calls of a device that an append makes
abbrev pub calls_limit : ℕ
calls_limit = 4

-- the most rules of a policy: a text of 4,096 bytes has no more
abbrev pub rules_limit : ℕ
rules_limit = 4096

-- low <= n <= high
abbrev pub is_from_to : ℕ → ℕ → ℕ → Bool
is_from_to low high n = nat_le low n && nat_le n high

-- the list has at least and at most so many members
abbrev pub has_count : {A : Type 0} → ℕ → ℕ → List A → Bool
has_count least most xs = is_from_to least most (length xs)

-- the list has no member
abbrev pub is_empty : {A : Type 0} → List A → Bool
is_empty [] = true
is_empty (x ∷ xs) = false
