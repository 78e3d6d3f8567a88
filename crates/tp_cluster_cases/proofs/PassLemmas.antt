-- Passes stay callers'.
use Rattle.std.proofs.Common.{◌≡◌, ℕ, zero, suc, ◌+◌, ◌<◌, ◌≤◌, List, [], ◌∷◌, ◌++◌, get_or, length, true, refl, sym, ap, subst, ◌∙◌, arith}
use Rattle.std.specs.Prelude.{Option, Some, None, Result, Ok, Err, IfSome, IfNone, OnOk, OnErr}
use Rattle.atomic_table.specs.Seated.{TableId}
use Rattle.tp_model.specs.Valid.{is_valid}
use Rattle.tp_model.specs.Words.{Scenario, Step}
use Rattle.tp_types.specs.Each.{Each}
use Rattle.tp_types.proofs.EachLemmas.{each_as, each_more}
use Rattle.tp_machine.specs.Named.{IsStepOf}
use Rattle.tp_machine.specs.WorldView.{WorldView, start}
use Rattle.tp_ends.proofs.ListedRun.{listed_exist}
use Rattle.tp_wire.specs.declared.view.View.{View}
use Rattle.tp_wire.specs.Passes.{IsLook, Known, fresh_passes}
use Rattle.tp_cluster.specs.Calls.{IsCaller}
use Rattle.tp_cluster.specs.Runs.{IsNext, actors_of}
use Rattle.tp_cluster_cases.specs.Passes.{IsOfCaller}

-- ---- passes as they are opened

fresh_from : (sc : Scenario) (table : TableId) (number count : ℕ) → actors_of sc ≤ number → Each (IsOfCaller sc table) (fresh_passes table number count)
fresh_from sc table number zero less = tt
fresh_from sc table number (suc count) less = (
  record { site = refl; caller = λ live. record { part = record { number = number; upto = []; took = [] }; one = refl; number = less } },
  fresh_from sc table (number + 1) count (omega (arith, less)),
)

pub fresh_are_callers : (sc : Scenario) (table : TableId) (count : ℕ) (passes : List Known) → passes ≡ fresh_passes table (actors_of sc) count → Each (IsOfCaller sc table) passes
fresh_are_callers sc table count passes is = subst (Each (IsOfCaller sc table)) (sym is) (fresh_from sc table (actors_of sc) count (omega arith))

-- ---- lists of passes

each_split : {A : Type 0} (P : A → Type 0) (xs : List A) (x : A) → Each P (xs ++ x ∷ []) → Each P xs × P x
each_split P [] x h = (tt, h.0)
each_split P (y ∷ xs) x h = let rest = each_split P xs x h.1 in ((h.0, rest.0), rest.1)

pub others_left : {A : Type 0} (P : A → Type 0) (found : Option A) (old new : List A) → Each P old → IfSome found (λ last. old ≡ new ++ last ∷ []) → IfNone found ((old ≡ []) × (new ≡ [])) → Each P new
others_left P (Some x) old new h some none = (each_split P new x (subst (Each P) some h)).0
others_left P None old new h some none = subst (Each P) (sym none.1) tt

pub last_found : {A : Type 0} (P : A → Type 0) (found : Option A) (old new : List A) → Each P old → IfSome found (λ last. old ≡ new ++ last ∷ []) → IfSome found P
last_found P (Some x) old new h some = (each_split P new x (subst (Each P) some h)).1
last_found P None old new h some = tt

pub one_more : {A T E : Type 0} (P : A → Type 0) (done : Result T E) (old new : List A) (x : A) → Each P old → P x → OnOk done (new ≡ old ++ x ∷ []) → OnErr done (new ≡ old) → Each P new
one_more P (Ok unit) old new x h p ok err = subst (Each P) (sym ok) (each_more P old x h p)
one_more P (Err e) old new x h p ok err = subst (Each P) (sym err) h

pub all_of_table : (sc : Scenario) (table : TableId) (passes : List Known) → Each (IsOfCaller sc table) passes → Each (λ (p : Known). p.table ≡ table) passes
all_of_table sc table passes h = each_as (IsOfCaller sc table) (λ (p : Known). p.table ≡ table) (λ p of. of.site) passes h

pub each_index : {A : Type 0} (P : A → Type 0) (xs : List A) (n : ℕ) (d : A) → Each P xs → n < length xs → P (get_or xs n d)
each_index P [] n d h less = absurd (omega arith)
each_index P (x ∷ xs) zero d h less = h.0
each_index P (x ∷ xs) (suc n) d h less = each_index P xs n d h.1 (omega arith)

-- ---- calls that do no step

pub after_take : {T E : Type 0} (sc : Scenario) (table : TableId) (taken : Result T E) (new : Known) → new.table ≡ table → OnOk taken (IsCaller sc new.view) → OnErr taken (new.given_up ≡ true) → IsOfCaller sc table new
after_take sc table (Ok found) new site caller memory = record { site = site; caller = λ live. caller }
after_take sc table (Err e) new site caller memory = record { site = site; caller = λ live. let up : new.given_up ≡ true = memory in absurd (cc) }

pub after_look : (sc : Scenario) (table : TableId) (found : ℕ) (old new : Known) → IsOfCaller sc table old → (new.table ≡ old.table) × (new.given_up ≡ old.given_up) → IsLook (IsNext sc) (actors_of sc) found old.view new.view → IsOfCaller sc table new
after_look sc table found old new h same look = record {
  site = same.0 ∙ h.site;
  caller = λ live. let was = h.caller (sym same.1 ∙ live) in record { part = was.part; one = ap (λ (v : View). v.parts) look.view_is ∙ was.one; number = was.number };
}

pub after_giving : (sc : Scenario) (table : TableId) (old new : Known) → IsOfCaller sc table old → new ≡ record old { given_up = true } → IsOfCaller sc table new
after_giving sc table old new h is = record {
  site = ap (λ (p : Known). p.table) is ∙ h.site;
  caller = λ live. let up : new.given_up ≡ true = ap (λ (p : Known). p.given_up) is in absurd (cc);
}

-- ---- listed steps

pub listed_here : (sc : Scenario) (world : WorldView) (steps : List Step) → is_valid sc ≡ true → world ≡ start sc → steps ≡ sc.steps → Each (IsStepOf world.scenario) steps
listed_here sc world steps valid is listed =
    subst (Each (IsStepOf world.scenario)) (sym listed) (subst (λ (s : Scenario). Each (IsStepOf s) sc.steps) (sym (ap (λ (w : WorldView). w.scenario) is)) (listed_exist sc valid))

pub listed_of : (sc about : Scenario) (steps : List Step) → is_valid sc ≡ true → sc ≡ about → steps ≡ sc.steps → Each (IsStepOf about) steps
listed_of sc about steps valid is listed = subst (Each (IsStepOf about)) (sym listed) (subst (λ (s : Scenario). Each (IsStepOf s) sc.steps) is (listed_exist sc valid))
