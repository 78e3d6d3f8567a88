-- Serial data: each commit did what its transaction does by itself on the data of the commits before it.
use Rattle.std.specs.Prelude.{ℕ, ◌+◌, ◌==◌, ◌&&◌, List, [], ◌∷◌, map, fold, replicate, slice_get, slice_set, Bool, true, false, Option, Some, None, option_map, unwrap_or, ℤ, pos, ◌+ℤ◌, if◌then◌else◌}
use Rattle.std.specs.Cmp.Lexicographic.{pointwise}
use Rattle.std.specs.List.{find, list_all}
use Rattle.std.specs.Option.{option_map_or}
use Rattle.std.specs.Ordering.{int_eq}
use Rattle.tp_model.specs.Words.{Action, CommitRecord, Deed, Fact, Item, Operand, Query, Scenario, ServerId, Term, Transaction, What}
use Rattle.tp_model.specs.Words.action
use Rattle.tp_model.specs.Words.decision
use Rattle.tp_model.specs.Words.outcome
use Rattle.tp_model.specs.Words.what
use Rattle.tp_types.specs.declared.scenario.Operand.TheVariants.{Constant, Register}
use Rattle.tp_types.specs.declared.scenario.Query.TheVariants.{Read, Write}
use Rattle.tp_model.specs.Facts.{before, commit_of}
use Rattle.tp_model.specs.Ids.{same_item, same_server}
use Rattle.tp_model.specs.Limits.{is_between}
use Rattle.tp_model.specs.Policies.{same_action}
use Rattle.tp_model.specs.Queries.{with_sign}

-- ---- what a transaction does by itself

-- the registers begin at 0. They count from 1 to 9, so the first place is not used
abbrev pub cleared_registers : List ℤ
cleared_registers = replicate 10 (pos 0)

-- the number at a place of a list, 0 past its end
abbrev pub number_at : List ℤ → ℕ → ℤ
number_at numbers place = unwrap_or (slice_get numbers place) (pos 0)

abbrev pub operand_in : List ℤ → Operand → ℤ
operand_in registers (Constant c) = c
operand_in registers (Register r) = number_at registers r

-- what a term adds
abbrev pub term_in : List ℤ → Term → ℤ
term_in registers term = with_sign term.minus (operand_in registers term.operand)

abbrev pub add_term : List ℤ → ℤ → Term → ℤ
add_term registers total term = total +ℤ term_in registers term

-- the value of a sum
abbrev pub sum_in : List ℤ → List Term → ℤ
sum_in registers expr = fold (add_term registers) (pos 0) expr

-- what queries do from one on, one deed for each: a read takes the value that the item then has, own writes among them, and a
-- write gives it the value of its sum
abbrev pub deeds_from : ℕ → List Query → List ℤ → List ℤ → List Deed
deeds_from number [] registers store = []
deeds_from number (Read item into ∷ queries) registers store =
    record { query = number; item = item; action = action.Read; value = number_at store item.0 }
    ∷ deeds_from (number + 1) queries (slice_set registers into (number_at store item.0)) store
deeds_from number (Write item expr ∷ queries) registers store =
    record { query = number; item = item; action = action.Write; value = sum_in registers expr }
    ∷ deeds_from (number + 1) queries registers (slice_set store item.0 (sum_in registers expr))

-- the deeds of the transaction, run by itself on the store
abbrev pub serial_run : Transaction → List ℤ → List Deed
serial_run txn store = deeds_from 1 txn.queries cleared_registers store

abbrev pub is_deed_of : ℕ → Deed → Bool
is_deed_of number deed = deed.query == number

abbrev pub deed_value : Deed → ℤ
deed_value deed = deed.value

-- the value of the query of this number in that run
abbrev pub run_value : Transaction → List ℤ → ℕ → Option ℤ
run_value txn store number = option_map deed_value (find (is_deed_of number) (serial_run txn store))

-- ---- the store

-- the store after a deed; reads change nothing
abbrev pub with_deed_by : Action → List ℤ → Deed → List ℤ
with_deed_by action.Read store deed = store
with_deed_by action.Write store deed = slice_set store deed.item.0 deed.value

abbrev pub with_deed : List ℤ → Deed → List ℤ
with_deed store deed = with_deed_by deed.action store deed

-- the store after deeds
abbrev pub with_deeds : List ℤ → List Deed → List ℤ
with_deeds store deeds = fold with_deed store deeds

abbrev pub opening_value : Item → ℤ
opening_value item = item.value

-- the opening values of all items
abbrev pub opening_store : Scenario → List ℤ
opening_store sc = map opening_value sc.items

abbrev pub with_what : List ℤ → What → List ℤ
with_what store (what.Decided txn (decision.Commit committed)) = with_deeds store committed.deeds
with_what store _ = store

abbrev pub with_fact : List ℤ → Fact → List ℤ
with_fact store fact = with_what store fact.what

-- the store after facts: the opening values, and then each commit's writes in order
abbrev pub store_of : Scenario → List Fact → List ℤ
store_of sc facts = fold with_fact (opening_store sc) facts

-- the store before a place
abbrev pub store_at : Scenario → ℕ → List Fact → List ℤ
store_at sc place facts = store_of sc (before place facts)

-- ---- the rule

abbrev pub same_deed : Deed → Deed → Bool
same_deed one other =
    (one.query == other.query) && same_item one.item other.item
    && (same_action one.action other.action && int_eq one.value other.value)

abbrev pub are_in_range : List Item → List ℤ → Bool
are_in_range [] store = true
are_in_range (item ∷ items) [] = false
are_in_range (item ∷ items) (value ∷ store) =
    is_between item.min item.max value && are_in_range items store

-- the commit's deeds are those of the transaction run by itself on the store before it, and leave every item in its range
abbrev pub is_serial_commit : Scenario → List ℤ → CommitRecord → Transaction → Bool
is_serial_commit sc store committed txn =
    pointwise same_deed committed.deeds (serial_run txn store)
    && are_in_range sc.items (with_deeds store committed.deeds)

abbrev pub keeps_serial_what : Scenario → List Fact → ℕ → What → Bool
keeps_serial_what sc facts place (what.Decided txn (decision.Commit committed)) =
    option_map_or (is_serial_commit sc (store_at sc place facts) committed)
    (slice_get sc.txns txn.0) false
keeps_serial_what sc facts place _ = true

-- the rule of a fact beside all facts: a commit did what its transaction does by itself on the data of the commits before it
abbrev pub keeps_serial : Scenario → List Fact → Fact → Bool
keeps_serial sc facts fact = keeps_serial_what sc facts fact.place fact.what

-- every commit is serial
abbrev pub is_serial : Scenario → List Fact → Bool
is_serial sc facts = list_all (keeps_serial sc facts) facts

-- ---- what servers have settled

-- a write is overlaid at the server of its item
abbrev pub overlay_at : Scenario → ServerId → List ℤ → Deed → List ℤ
overlay_at sc at store deed =
    if option_map_or (λ (item : Item). same_server item.server at) (slice_get sc.items deed.item.0) false
    then with_deed store deed
    else store

abbrev pub overlay_deeds : Scenario → ServerId → List ℤ → Option CommitRecord → List ℤ
overlay_deeds sc at store None = store
overlay_deeds sc at store (Some committed) = fold (overlay_at sc at) store committed.deeds

-- where a server settles a commit, the commit's writes at that server are overlaid
abbrev pub overlay_what : Scenario → List Fact → List ℤ → What → List ℤ
overlay_what sc facts store (what.Settled at txn outcome.Commit) =
    overlay_deeds sc at store (commit_of txn facts)
overlay_what sc facts store _ = store

abbrev pub overlay_fact : Scenario → List Fact → List ℤ → Fact → List ℤ
overlay_fact sc facts store fact = overlay_what sc facts store fact.what

-- each item's opening value, overlaid by the writes of the commits that its server has settled, in the order of settling
abbrev pub overlay : Scenario → List Fact → List ℤ
overlay sc facts = fold (overlay_fact sc facts) (opening_store sc) facts
