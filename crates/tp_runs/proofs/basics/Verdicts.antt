-- The numbers of the queries that verdicts are on, and deeds are of; and the verdict on a query as it runs.
use Rattle.std.proofs.Common.{List, None, Option, Some, [], ap, map, option_and_then, option_map, refl, slice_get, sym, ℕ, ◌∙◌, ◌∷◌, ◌≡◌}
use Rattle.std.proofs.lemmas.Option.{same_Some}
use Rattle.tp_model.specs.Words.{AdminId, Deed, QueryRequest, Scenario, Staple, Transaction, Verdict, Version}
use Rattle.tp_server.specs.Row.{verdict_at}
use Rattle.tp_server.specs.State.{Server}
use Rattle.tp_server.specs.Verdicts.{verdict_on, verdicts_on}

abbrev pub numbers_of : List Verdict → List ℕ
numbers_of verdicts = map (λ (verdict : Verdict). verdict.query) verdicts

abbrev pub deed_numbers : List Deed → List ℕ
deed_numbers deeds = map (λ (deed : Deed). deed.query) deeds

-- a server's verdicts are on its deeds, one on each
pub numbers_kept : (sc : Scenario) (s : Server) (txn : Transaction) (staple : Staple) (want : List (AdminId × Version)) (deeds : List Deed) → numbers_of (verdicts_on sc s txn staple want deeds) ≡ deed_numbers deeds
numbers_kept sc s txn staple want [] = refl
numbers_kept sc s txn staple want (deed ∷ deeds) = ap (λ (ns : List ℕ). deed.query ∷ ns) (numbers_kept sc s txn staple want deeds)

-- ---- a query that is proved as it runs

-- it was asked with a staple, its transaction is one of the scenario's, and this is the verdict on its deed with that staple
pub record IsProvedAt (sc : Scenario) (s : Server) (q : QueryRequest) (deed : Deed) (verdict : Verdict) : Type 0 where
  pub staple : Staple
  pub staple_is : q.staple ≡ Some staple
  pub txn : Transaction
  pub txn_is : slice_get sc.txns q.txn.0 ≡ Some txn
  pub verdict_is : verdict_on sc s txn staple [] deed ≡ verdict

pub proved_at : (sc : Scenario) (s : Server) (q : QueryRequest) (deed : Deed) (verdict : Verdict) → verdict_at sc s q deed ≡ Some verdict → IsProvedAt sc s q deed verdict
proved_at sc s q deed verdict e = by_staple q.staple refl e
  where
    by_txn : (staple : Staple) (found : Option Transaction) → q.staple ≡ Some staple → slice_get sc.txns q.txn.0 ≡ found → option_map (λ (txn : Transaction). verdict_on sc s txn staple [] deed) found ≡ Some verdict
        → IsProvedAt sc s q deed verdict
    by_txn staple None f g k = absurd (cc)
    by_txn staple (Some txn) f g k = record { staple = staple; staple_is = f; txn = txn; txn_is = g; verdict_is = same_Some (verdict_on sc s txn staple [] deed) verdict k }

    by_staple : (found : Option Staple) → q.staple ≡ found
        → option_and_then (λ (staple : Staple). option_map (λ (txn : Transaction). verdict_on sc s txn staple [] deed) (slice_get sc.txns q.txn.0)) found ≡ Some verdict → IsProvedAt sc s q deed verdict
    by_staple None f g = absurd (cc)
    by_staple (Some staple) f g = by_txn staple (slice_get sc.txns q.txn.0) f refl g

-- so one that was asked without a staple has none
pub unproved_at : (sc : Scenario) (s : Server) (q : QueryRequest) (deed : Deed) → verdict_at sc s q deed ≡ None → (txn : Transaction) → slice_get sc.txns q.txn.0 ≡ Some txn → q.staple ≡ None
unproved_at sc s q deed e txn found = by_staple q.staple e
  where
    by_staple : (given : Option Staple) → option_and_then (λ (staple : Staple). option_map (λ (one : Transaction). verdict_on sc s one staple [] deed) (slice_get sc.txns q.txn.0)) given ≡ None → given ≡ None
    by_staple None f = refl
    by_staple (Some staple) f = absurd (let proved = ap (option_map (λ (one : Transaction). verdict_on sc s one staple [] deed)) (sym found) ∙ f in cc)
