use Rattle.std.proofs.Common.{◌≡◌, ◌∙◌, Bool, true, false, Result, Ok, Err, IfOk, OnOk, IsErr, ap, refl, sym}
use Rattle.tp_model.specs.SerialRun.{store_of}
use Rattle.tp_model.specs.TrustedHistory.{have_ended}
use Rattle.tp_model.specs.Words.{Ending, Scenario}
use Rattle.tp_machine.specs.Machine.{State, ending_of}
use Rattle.tp_runs.specs.Laws.{HasAllEnds}
use Rattle.tp_ends.specs.Calls.{IsWhole}
use Rattle.tp_ends.proofs.ended.ending.Goals as goal

contrary : false ≡ true → ⊥
contrary e = cc

-- an ending is given by a world that is not given up
told : {A E : Type 0} (P : Type 0) (given_up : Bool) (result : Result A E) → (given_up ≡ false → P) → (given_up ≡ true → IsErr result) → OnOk result P
told P false (Ok x) so_far refused = so_far refl
told P true (Ok x) so_far refused = absurd (contrary (refused refl))
told P given_up (Err e) so_far refused = tt

whole_by : {E : Type 0} (sc : Scenario) (w : State) (result : Result Ending E) → IfOk result (λ (ending : Ending). ending ≡ ending_of sc w) → OnOk result (HasAllEnds sc w)
    → IfOk result (λ (ending : Ending). have_ended sc w.facts 0 sc.txns ≡ true → ending.values ≡ store_of sc w.facts) → OnOk result (IsWhole sc w)
whole_by sc w (Ok ending) value ended whole = record { ended = ended; commits = λ all. ap (λ (it : Ending). it.values) (sym value) ∙ whole all }
whole_by sc w (Err e) value ended whole = tt

pub returns-clause-so_far : goal.returns-clause-so_far
returns-clause-so_far c = told _ c.args.world.now.given_up c.ending.result c.facts-so_far.ensures.so_far c.ending.ensures.given_up

pub returns-clause-whole : goal.returns-clause-whole
returns-clause-whole c = whole_by _ _ c.ending.result c.ending.ensures.value c.ending.ensures.ended c.ending.ensures.whole
