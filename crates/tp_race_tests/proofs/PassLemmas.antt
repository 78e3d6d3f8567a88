-- The one pass of a cluster's only caller.
use Rattle.std.proofs.Common.{◌≡◌, ◌≢◌, ℕ, ◌+◌, ◌≤◌, ◌==◌, List, [], ◌∷◌, ◌++◌, map, append-nil, Bool, true, false, refl, sym, ap, subst, ◌∙◌, arith}
use Rattle.std.proofs.lemmas.Bool.Decides.{nat_tests}
use Rattle.atomic_table.specs.Seated.{TableId}
use Rattle.tp_model.specs.Words.{Scenario, Step}
use Rattle.tp_wire.specs.declared.view.Part.{Part}
use Rattle.tp_wire.specs.Closing.{parts_of}
use Rattle.tp_wire.specs.History.{numbers_of, one_if, times}
use Rattle.tp_wire.specs.Passes.{Known, fresh_pass, moved, views_of}
use Rattle.tp_cluster.specs.Calls.{IsCaller, IsDone}
use Rattle.tp_cluster.specs.Runs.{actors_of}
use Rattle.tp_cluster.specs.declared.plan.Plan.{Plan}
use Rattle.tp_race.specs.Finish.{AreAllPasses}

-- a step leaves a fresh pass its number
pub number_kept : (sc : Scenario) (table : TableId) (number : ℕ) (old : Known) (taken : Step) (place : ℕ) (new : Known) → old ≡ fresh_pass table number → IsDone sc old taken place new
    → numbers_of new.view.parts ≡ number ∷ []
number_kept sc table number old taken place new fresh did =
    ap numbers_of did.own.parts ∙ ap (λ (p : Known). numbers_of (map (moved new.view.seen) p.view.parts)) fresh

-- the only member of a list
pub only_one : {A : Type 0} (xs : List A) (x y : A) → y ∷ [] ≡ xs ++ x ∷ [] → (xs ≡ []) × (x ≡ y)
only_one [] x y e = let same : x ≡ y = cc in (refl, same)
only_one (z ∷ []) x y e = absurd (cc)
only_one (z ∷ w ∷ zs) x y e = absurd (cc)

counted : (number actors : ℕ) (parts : List Part) → number ≡ actors → numbers_of parts ≡ actors ∷ [] → 1 ≤ times number (numbers_of parts)
counted number actors parts same is = by_test (actors == number) refl
  where
    by_test : (b : Bool) → (actors == number) ≡ b → 1 ≤ times number (numbers_of parts)
    by_test true e =
        let whole : times number (numbers_of parts) ≡ one_if (actors == number) + 0 = ap (times number) is in
        omega (arith, whole, ap one_if e)
    by_test false e =
        let other : actors ≢ number = grind (arith, nat_tests, e) in
        absurd (other (sym same))

one_pass : (plan : Plan) (table : TableId) (pass : Known) → plan.callers ≡ 1 → pass.table ≡ table → (pass.given_up ≡ false → numbers_of pass.view.parts ≡ actors_of plan.scenario ∷ [])
    → AreAllPasses plan table (pass ∷ [])
one_pass plan table pass count site number = record {
  site = (site, tt);
  callers = λ live n low high.
      let same : n ≡ actors_of plan.scenario = omega (arith, low, high, count) in
      counted n (actors_of plan.scenario) (parts_of (views_of (pass ∷ []))) same (ap numbers_of (append-nil pass.view.parts) ∙ number live.0);
}

-- the pass is all passes
pub one_is_all : (plan : Plan) (table : TableId) (pass : Known) (others all : List Known) → plan.callers ≡ 1 → others ≡ [] → all ≡ others ++ pass ∷ [] → pass.table ≡ table
    → (pass.given_up ≡ false → numbers_of pass.view.parts ≡ actors_of plan.scenario ∷ []) → AreAllPasses plan table all
one_is_all plan table pass others all count none more site number =
    subst (AreAllPasses plan table) (sym (more ∙ ap (λ (ps : List Known). ps ++ pass ∷ []) none)) (one_pass plan table pass count site number)

-- a fresh pass is a caller's
pub fresh_caller : (sc : Scenario) (table : TableId) (old : Known) → old ≡ fresh_pass table (actors_of sc) → IsCaller sc old.view
fresh_caller sc table old is = subst (λ (p : Known). IsCaller sc p.view) (sym is) (record { part = record { number = actors_of sc; upto = []; took = [] }; one = refl; number = omega arith })
