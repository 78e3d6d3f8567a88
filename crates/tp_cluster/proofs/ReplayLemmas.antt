-- The world in which a lawful history is done again.
use Rattle.std.proofs.Common.{◌≡◌, List, [], ◌∷◌, ◌++◌, refl, sym, ap, ◌∙◌, subst, append_assoc}
use Rattle.std.specs.Prelude.{None, Some, false}
use Rattle.tp_model.specs.Words.{Scenario, Step}
use Rattle.tp_machine.specs.declared.error.StepError.{StepError}
use Rattle.tp_machine.specs.Machine.{Machine, after, after_step, machine_after, opening, refusal}
use Rattle.tp_machine.specs.Named.{IsStepOf}
use Rattle.tp_machine.specs.WorldView.{Does, Refuses, WorldView}
use Rattle.tp_machine.proofs.basics.Machine.{after_steps-snoc}
use Rattle.tp_wire.specs.declared.view.Entry.{Entry}
use Rattle.tp_wire.specs.Entries.{steps_in}
use Rattle.tp_wire.specs.History.{Lawful}
use Rattle.tp_cluster.specs.Runs.{IsNext, state_at}
use Rattle.tp_cluster.proofs.RunLemmas.{allowed_after}

-- the world after the first steps of a history
pub record IsSoFar (sc : Scenario) (steps done left : List Step) (world : WorldView) : Type 0 where
  pub whole : done ++ left ≡ steps
  pub scenario : world.scenario ≡ sc
  pub live : world.given_up ≡ false
  pub machine : world.machine ≡ after sc done

-- an entry stands where its step does
record IsCut (log : List Entry) (done : List Step) (taken : Step) : Type 0 where
  before : List Entry
  entry : Entry
  rest : List Entry
  log_is : log ≡ before ++ entry ∷ rest
  done_is : steps_in before ≡ done
  step_is : entry.step ≡ taken

cut : (log : List Entry) (done : List Step) (taken : Step) (left : List Step) → done ++ taken ∷ left ≡ steps_in log → IsCut log done taken
cut [] [] taken left e = absurd (cc)
cut [] (d ∷ done) taken left e = absurd (cc)
cut (x ∷ log) [] taken left e = let first : x.step ≡ taken = cc in record { before = []; entry = x; rest = log; log_is = refl; done_is = refl; step_is = first }
cut (x ∷ log) (d ∷ done) taken left e =
    let first : x.step ≡ d = cc in
    let others : done ++ taken ∷ left ≡ steps_in log = cc in
    let c = cut log done taken left others in
    record {
      before = x ∷ c.before;
      entry = c.entry;
      rest = c.rest;
      log_is = ap (λ (l : List Entry). x ∷ l) c.log_is;
      done_is = ap (λ (s : Step). s ∷ steps_in c.before) first ∙ ap (λ (ss : List Step). d ∷ ss) c.done_is;
      step_is = c.step_is;
    }

pub next_allowed : (sc : Scenario) (log : List Entry) (done : List Step) (taken : Step) (left : List Step) → Lawful (IsNext sc) log → done ++ taken ∷ left ≡ steps_in log
    → refusal (after sc done).state taken ≡ None
next_allowed sc log done taken left lawful e =
    let c = cut log done taken left e in
    let n = lawful c.before c.entry c.rest c.log_is in
    subst (λ (s : Step). refusal (after sc done).state s ≡ None) c.step_is
    (subst (λ (ss : List Step). refusal (after sc ss).state c.entry.step ≡ None) c.done_is n.allowed)

pub next_named : (sc : Scenario) (log : List Entry) (done : List Step) (taken : Step) (left : List Step) → Lawful (IsNext sc) log → done ++ taken ∷ left ≡ steps_in log → IsStepOf sc taken
next_named sc log done taken left lawful e =
    let c = cut log done taken left e in
    let n = lawful c.before c.entry c.rest c.log_is in
    subst (IsStepOf sc) c.step_is n.named

-- one step more is done
pub so_far_next : (sc : Scenario) (steps done rest left : List Step) (taken : Step) (world new : WorldView) → IsSoFar sc steps done rest world → rest ≡ taken ∷ left → Does world new taken
    → IsSoFar sc steps (done ++ taken ∷ []) left new
so_far_next sc steps done rest left taken world new i is did =
    let ok : refusal (after sc done).state taken ≡ None = subst (λ (m : Machine). refusal m.state taken ≡ None) i.machine did.not_refused in
    let now : new.machine ≡ machine_after sc (after sc done) taken =
    ap (λ (w : WorldView). w.machine) did.now
    ∙ (ap (λ (s : Scenario). machine_after s world.machine taken) i.scenario ∙ ap (λ (m : Machine). machine_after sc m taken) i.machine) in
    record {
      whole = append_assoc done (taken ∷ []) left ∙ (ap (λ (l : List Step). done ++ l) (sym is) ∙ i.whole);
      scenario = ap (λ (w : WorldView). w.scenario) did.now ∙ i.scenario;
      live = ap (λ (w : WorldView). w.given_up) did.now ∙ i.live;
      machine = now ∙ sym (after_steps-snoc sc (opening sc) done taken ∙ allowed_after sc (after sc done) taken (refusal (after sc done).state taken) ok);
    }

-- a step that is allowed is not refused
pub refused_no_step : (sc : Scenario) (done : List Step) (taken : Step) (world new : WorldView) (why : StepError) → world.machine ≡ after sc done → refusal (after sc done).state taken ≡ None
    → Refuses world new taken why → ⊥
refused_no_step sc done taken world new why is ok refused =
    let none : refusal world.machine.state taken ≡ None = subst (λ (m : Machine). refusal m.state taken ≡ None) (sym is) ok in
    let some = refused.reason in
    let both : Some why ≡ None = sym some ∙ none in
    absurd (cc)
