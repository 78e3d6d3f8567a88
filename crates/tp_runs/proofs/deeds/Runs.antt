-- Deeds as a transaction's queries run one after the other: numbers, items, actions, and the sums that are written.
use Rattle.std.specs.Option.{option_map_or}
use Rattle.std.proofs.Common.{IfSome, List, None, Option, Some, [], ap, arith, length, option_and_then, refl, slice_get, subst, suc, sym, take, zero, ℕ, ℤ, ◌++◌, ◌+◌, ◌∙◌, ◌∷◌, ◌≡◌}
use Rattle.std.proofs.lemmas.Option.{same_Some}
use Rattle.tp_model.specs.Authorisation.{action_of}
use Rattle.tp_model.specs.Queries.{item_of, query_at}
use Rattle.tp_model.specs.SerialRun.{cleared_registers}
use Rattle.tp_model.specs.Words.action
use Rattle.tp_model.specs.Words.{Action, Deed, ItemId, Query, Transaction}
use Rattle.tp_types.specs.Each.{Each}
use Rattle.tp_coord.specs.Sums.{asked_value, registers_after, registers_from, registers_with, sum_asked}

-- ---- deeds

-- the item of a query that is there; item 0 where there is none
abbrev pub item_asked : Option Query → ItemId
item_asked found = option_map_or item_of found (record { 0 = 0 })

-- the action of a query that is there
abbrev pub action_asked : Option Query → Action
action_asked found = option_map_or action_of found action.Read

-- what query number did, with this value
abbrev pub deed_asked : ℕ → Option Query → ℤ → Deed
deed_asked number found value = record { query = number; item = item_asked found; action = action_asked found; value = value }

-- what the transaction's query of this number did, with this value
abbrev pub deed_at : Transaction → ℕ → ℤ → Deed
deed_at txn number value = deed_asked number (query_at txn number) value

-- ---- runs

-- the deed is the query's, and what it wrote is the sum
pub record IsRun (number : ℕ) (query : Query) (registers : List ℤ) (deed : Deed) : Type 0 where
  pub deed_is : deed ≡ deed_asked number (Some query) deed.value
  pub value_is : IfSome (sum_asked registers query) (λ (asked : ℤ). deed.value ≡ asked)

-- the deeds are those of the first queries, counted from a number on
abbrev pub RunsFrom : ℕ → List Query → List ℤ → List Deed → Type 0
RunsFrom number queries registers [] = Unit {0}
RunsFrom number [] registers (deed ∷ deeds) = ⊥
RunsFrom number (query ∷ queries) registers (deed ∷ deeds) =
    IsRun number query registers deed × RunsFrom (number + 1) queries (registers_with query deed.value registers) deeds

-- the deeds are those of the transaction's first queries
abbrev pub RunsSoFar : Transaction → List Deed → Type 0
RunsSoFar txn deeds = RunsFrom 1 txn.queries cleared_registers deeds

-- ---- one deed more

-- one more query ran
pub runs_more : (number : ℕ) (queries : List Query) (registers : List ℤ) (deeds : List Deed) (query : Query) (deed : Deed) → RunsFrom number queries registers deeds
    → slice_get queries (length deeds) ≡ Some query → IsRun (number + length deeds) query (registers_from queries deeds registers) deed
    → RunsFrom number queries registers (deeds ++ deed ∷ [])
runs_more number [] registers [] query deed h e r = absurd (cc)
runs_more number [] registers (first ∷ deeds) query deed h e r = absurd h
runs_more number (other ∷ queries) registers [] query deed h e r =
    let same : other ≡ query = same_Some other query e in
    let here : number + 0 ≡ number = omega arith in
    (subst (λ (found : Query). IsRun number found registers deed) (sym same) (subst (λ (n : ℕ). IsRun n query registers deed) here r), tt)
runs_more number (other ∷ queries) registers (first ∷ deeds) query deed h e r =
    let later : number + suc (length deeds) ≡ (number + 1) + length deeds = omega arith in (
      h.0,
      runs_more (number + 1) queries (registers_with other first.value registers) deeds query deed h.1 e
          (subst (λ (n : ℕ). IsRun n query (registers_from queries deeds (registers_with other first.value registers)) deed) later r),
    )

-- the query after so many
pub query_after : (txn : Transaction) (before : ℕ) → query_at txn (before + 1) ≡ slice_get txn.queries before
query_after txn before =
    let next : suc before ≡ before + 1 = omega arith in
    subst (λ (n : ℕ). query_at txn n ≡ slice_get txn.queries before) next refl

asked_run : (registers : List ℤ) (number : ℕ) (found : Option Query) (query : Query) (value : ℤ) → found ≡ Some query
    → IfSome (option_and_then (sum_asked registers) found) (λ (asked : ℤ). value ≡ asked) → IsRun number query registers (deed_asked number found value)
asked_run registers number None query value e h = absurd (cc)
asked_run registers number (Some found) query value e h =
    subst (λ (other : Query). IsRun number other registers (deed_asked number (Some found) value)) (same_Some found query e) (record { deed_is = refl; value_is = h })

-- the transaction's next query ran, with the value that it was asked with
pub runs_next : (txn : Transaction) (deeds : List Deed) (query : Query) (value : ℤ) → RunsSoFar txn deeds → query_at txn (length deeds + 1) ≡ Some query
    → IfSome (asked_value txn deeds (length deeds + 1)) (λ (asked : ℤ). value ≡ asked) → RunsSoFar txn (deeds ++ deed_at txn (length deeds + 1) value ∷ [])
runs_next txn deeds query value h e asked =
    let run = asked_run (registers_after txn deeds) (length deeds + 1) (query_at txn (length deeds + 1)) query value e asked in
    let number : length deeds + 1 ≡ 1 + length deeds = omega arith in
    runs_more 1 txn.queries cleared_registers deeds query (deed_at txn (length deeds + 1) value) h (sym (query_after txn (length deeds)) ∙ e)
    (subst (λ (n : ℕ). IsRun n query (registers_after txn deeds) (deed_at txn (length deeds + 1) value)) number run)

-- ---- what ran

-- the deed is that of the transaction's query of its number
pub record IsDeedOf (txn : Transaction) (deed : Deed) : Type 0 where
  pub query : Query
  pub query_is : query_at txn deed.query ≡ Some query
  pub item_is : deed.item ≡ item_of query
  pub action_is : deed.action ≡ action_of query

deeds_of : (txn : Transaction) (number : ℕ) (queries : List Query) (registers : List ℤ) (deeds : List Deed) → RunsFrom number queries registers deeds
    → ((k : ℕ) → slice_get queries k ≡ query_at txn (number + k)) → Each (IsDeedOf txn) deeds
deeds_of txn number queries registers [] h places = tt
deeds_of txn number [] registers (deed ∷ deeds) h places = absurd h
deeds_of txn number (query ∷ queries) registers (deed ∷ deeds) h places =
    let is = h.0.deed_is in
    let number_is : number + 0 ≡ deed.query = omega (arith, ap (λ (d : Deed). d.query) is) in
    let place : query_at txn (number + 0) ≡ Some query = sym (places 0) in (
      record {
        query = query;
        query_is = subst (λ (n : ℕ). query_at txn n ≡ Some query) number_is place;
        item_is = ap (λ (d : Deed). d.item) is;
        action_is = ap (λ (d : Deed). d.action) is;
      },
      deeds_of txn (number + 1) queries (registers_with query deed.value registers) deeds h.1
          (λ k. let later : number + suc k ≡ (number + 1) + k = omega arith in subst (λ (n : ℕ). slice_get queries k ≡ query_at txn n) later (places (suc k))),
    )

-- each deed so far is that of the query of its number
pub runs_each : (txn : Transaction) (deeds : List Deed) → RunsSoFar txn deeds → Each (IsDeedOf txn) deeds
runs_each txn deeds h =
    deeds_of txn 1 txn.queries cleared_registers deeds h
    (λ k. let place : k + 1 ≡ 1 + k = omega arith in subst (λ (n : ℕ). slice_get txn.queries k ≡ query_at txn n) place (sym (query_after txn k)))

-- a deed at a place, with the query that it is of and the registers before it
pub record RanAt (number : ℕ) (queries : List Query) (registers : List ℤ) (deeds : List Deed) (k : ℕ) (deed : Deed) : Type 0 where
  pub query : Query
  pub query_is : slice_get queries k ≡ Some query
  pub run : IsRun (number + k) query (registers_from queries (take k deeds) registers) deed

pub ran_at : (number : ℕ) (queries : List Query) (registers : List ℤ) (deeds : List Deed) (k : ℕ) (deed : Deed) → RunsFrom number queries registers deeds
    → slice_get deeds k ≡ Some deed → RanAt number queries registers deeds k deed
ran_at number queries registers [] k deed h e = absurd (cc)
ran_at number [] registers (first ∷ deeds) k deed h e = absurd h
ran_at number (query ∷ queries) registers (first ∷ deeds) zero deed h e =
    let here : number ≡ number + 0 = omega arith in
    let same : first ≡ deed = same_Some first deed e in
    record { query = query; query_is = refl; run = subst (λ (n : ℕ). IsRun n query registers deed) here (subst (IsRun number query registers) same h.0) }
ran_at number (query ∷ queries) registers (first ∷ deeds) (suc k) deed h e =
    let later : (number + 1) + k ≡ number + suc k = omega arith in
    let ran = ran_at (number + 1) queries (registers_with query first.value registers) deeds k deed h.1 e in
    record {
      query = ran.query;
      query_is = ran.query_is;
      run = subst (λ (n : ℕ). IsRun n ran.query (registers_from queries (take k deeds) (registers_with query first.value registers)) deed) later ran.run;
    }
