-- The listed steps: they name what exists, and where none is refused all are done.
use Rattle.std.proofs.Common.{◌≡◌, ℕ, ◌+◌, List, [], ◌∷◌, ◌++◌, drop, take, true, false, Option, Some, None, refl, sym, ap, subst, ◌∙◌}
use Rattle.std.specs.List.{list_all}
use Rattle.std.specs.Option.{option_map_or}
use Rattle.std.proofs.lemmas.Bool.{and_parts, ltb-true}
use Rattle.std.proofs.lemmas.List.{append-nil, append_assoc}
use Rattle.std.proofs.lemmas.Option.{none-some}
use Rattle.tp_model.specs.Words.{Actor, Scenario, Step}
use Rattle.tp_model.specs.Words.actor
use Rattle.tp_model.specs.Words.step
use Rattle.tp_model.specs.Limits.{has_count, steps_limit}
use Rattle.tp_model.specs.Valid.{is_admin, is_server, is_valid, is_valid_cut, is_valid_step, may_crash}
use Rattle.tp_model.proofs.RuleLemmas.{rules_of}
use Rattle.tp_machine.specs.declared.error.StepError.{StepError}
use Rattle.tp_machine.specs.Machine.{Machine, after_steps, machine_after, refusal}
use Rattle.tp_machine.specs.WorldView.{Does, Refuses, WorldView}
use Rattle.tp_types.specs.Each.{Each}
use Rattle.tp_machine.specs.Named.{IsCrasher, IsStepOf}
use Rattle.tp_machine.proofs.basics.Machine.{after_steps-snoc, steps_next}
use Rattle.tp_auto.proofs.AutoLemmas.{after_allowed, drop_more, take_more}
use Rattle.tp_ends.specs.declared.listed.StepRefusal.{StepRefusal}
use Rattle.tp_auto.specs.Auto.{world_after}
use Rattle.tp_ends.specs.Listed.{refused_from, refused_or}
use Rattle.tp_ends.specs.Calls.{Follows}

-- ---- each listed step

-- who may crash exists, and is no office
crasher_exists : (sc : Scenario) (who : Actor) → may_crash sc who ≡ true → IsCrasher sc who
crasher_exists sc (actor.Server at) valid = ltb-true _ _ valid
crasher_exists sc (actor.Coordinator txn) valid = ltb-true _ _ valid
crasher_exists sc actor.Master valid = absurd (cc)
crasher_exists sc actor.Authority valid = absurd (cc)

-- a step of a valid scenario names what exists
step_exists : (sc : Scenario) (taken : Step) → is_valid_step sc taken ≡ true → IsStepOf sc taken
step_exists sc (step.Submit txn) valid = ltb-true _ _ valid
step_exists sc (step.Tick by) valid = tt
step_exists sc (step.Revoke cred) valid = ltb-true _ _ valid
step_exists sc (step.Deliver mail) valid = tt
step_exists sc (step.Publish admin) valid = ltb-true _ _ valid
step_exists sc (step.Push admin server) valid =
    let parts = and_parts (is_admin sc admin) (is_server sc server) valid in (ltb-true _ _ parts.0, ltb-true _ _ parts.1)
step_exists sc (step.Lose mail) valid = tt
step_exists sc (step.Crash who cut) valid = crasher_exists sc who (and_parts (may_crash sc who) (option_map_or is_valid_cut cut true) valid).0
step_exists sc (step.Boot who) valid = crasher_exists sc who valid
step_exists sc (step.Timer txn) valid = ltb-true _ _ valid

all_exist : (sc : Scenario) (steps : List Step) → list_all (is_valid_step sc) steps ≡ true → Each (IsStepOf sc) steps
all_exist sc [] valid = tt
all_exist sc (taken ∷ steps) valid =
    let v = and_parts (is_valid_step sc taken) (list_all (is_valid_step sc) steps) valid in
    (step_exists sc taken v.0, all_exist sc steps v.1)

pub listed_exist : (sc : Scenario) → is_valid sc ≡ true → Each (IsStepOf sc) sc.steps
listed_exist sc formed =
    all_exist sc sc.steps (and_parts (has_count 0 steps_limit sc.steps) (list_all (is_valid_step sc) sc.steps) (rules_of sc formed).steps).1

-- ---- none is refused

pub record NoneRefused (sc : Scenario) (m : Machine) (at : ℕ) (taken : Step) (steps : List Step) : Type 0 where
  pub allowed : refusal m.state taken ≡ None
  pub rest : refused_from sc (machine_after sc m taken) (at + 1) steps ≡ None

none_or : (why : Option StepError) (at : ℕ) (later : Option StepRefusal) → refused_or why at later ≡ None → (why ≡ None) × (later ≡ None)
none_or None at later e = (refl, e)
none_or (Some why) at later e = absurd (cc)

-- the first is allowed, and none of the rest is refused after it
pub none_refused : (sc : Scenario) (m : Machine) (at : ℕ) (taken : Step) (steps : List Step) → refused_from sc m at (taken ∷ steps) ≡ None → NoneRefused sc m at taken steps
none_refused sc m at taken steps e =
    let parts = none_or (refusal m.state taken) at (refused_from sc (machine_after sc m taken) (at + 1) steps) e in
    record { allowed = parts.0; rest = parts.1 }

-- ---- how far the steps were followed

-- who looked on and saw nothing more has followed as far
pub still_followed : {W : Type 0} (follows : W → WorldView → Type 0) (watch watch' : W) (world world' : WorldView) → watch' ≡ watch → world' ≡ world → follows watch world → follows watch' world'
still_followed {W} follows watch watch' world world' same unchanged h =
    subst (λ (w : W). follows w world') (sym same) (subst (follows watch) (sym unchanged) h)

-- so many of the steps are done, and what is refused is sought among the rest
pub record Followed (old new : WorldView) (steps : List Step) (count : ℕ) : Type 0 where
  pub up : new.given_up ≡ false
  pub now : new ≡ world_after old (take count steps)
  pub done : new.machine.state.steps ≡ old.machine.state.steps ++ take count steps
  pub rest : refused_from old.scenario old.machine 0 steps ≡ refused_from old.scenario new.machine count (drop count steps)

pub followed_none : (old : WorldView) (steps : List Step) → old.given_up ≡ false → Followed old old steps 0
followed_none old steps up = record { up = up; now = refl; done = sym (append-nil old.machine.state.steps); rest = refl }

refused_allowed : (sc : Scenario) (m : Machine) (at : ℕ) (taken : Step) (steps : List Step) → refusal m.state taken ≡ None
    → refused_from sc m at (taken ∷ steps) ≡ refused_from sc (machine_after sc m taken) (at + 1) steps
refused_allowed sc m at taken steps ok = ap (λ (why : Option StepError). refused_or why at (refused_from sc (machine_after sc m taken) (at + 1) steps)) ok

refused_here : (sc : Scenario) (m : Machine) (at : ℕ) (taken : Step) (steps : List Step) (why : StepError) → refusal m.state taken ≡ Some why
    → refused_from sc m at (taken ∷ steps) ≡ Some (record { at = at; why = why })
refused_here sc m at taken steps why e = ap (λ (w : Option StepError). refused_or w at (refused_from sc (machine_after sc m taken) (at + 1) steps)) e

pub scenario_kept : (old new : WorldView) (steps : List Step) (count : ℕ) → Followed old new steps count → new.scenario ≡ old.scenario
scenario_kept old new steps count f = ap (λ (w : WorldView). w.scenario) f.now

stepped_one : (old mid new : WorldView) (done : List Step) (taken : Step) → mid ≡ world_after old done → Does mid new taken → new ≡ world_after old (done ++ taken ∷ [])
stepped_one old mid new done taken e did =
    let allowed : refusal (world_after old done).machine.state taken ≡ None = subst (λ (w : WorldView). refusal w.machine.state taken ≡ None) e did.not_refused in
    did.now
    ∙ (ap (λ (w : WorldView). record w { machine = machine_after w.scenario w.machine taken }) e
    ∙ ap (λ (m : Machine). record old { machine = m })
    (sym (after_steps-snoc old.scenario old.machine done taken ∙ after_allowed old.scenario (after_steps old.scenario old.machine done) taken allowed)))

done_step : (mid new : WorldView) (taken : Step) → Does mid new taken → new.machine.state.steps ≡ mid.machine.state.steps ++ taken ∷ []
done_step mid new taken did = ap (λ (w : WorldView). w.machine.state.steps) did.now ∙ steps_next mid.scenario mid.machine taken

-- one step more is done
pub followed_more : (old mid new : WorldView) (steps : List Step) (count : ℕ) (taken : Step) (others : List Step) → Followed old mid steps count → drop count steps ≡ taken ∷ others → Does mid new taken
    → Followed old new steps (count + 1)
followed_more old mid new steps count taken others f e did =
    let machine : new.machine ≡ machine_after old.scenario mid.machine taken =
    ap (λ (w : WorldView). w.machine) did.now ∙ ap (λ (sc : Scenario). machine_after sc mid.machine taken) (scenario_kept old mid steps count f) in
    record {
      up = ap (λ (w : WorldView). w.given_up) did.now ∙ did.was_up;
      now = stepped_one old mid new (take count steps) taken f.now did ∙ ap (world_after old) (sym (take_more count steps taken others e));
      done = done_step mid new taken did
          ∙ (ap (λ (l : List Step). l ++ taken ∷ []) f.done
          ∙ (append_assoc old.machine.state.steps (take count steps) (taken ∷ []) ∙ ap (λ (l : List Step). old.machine.state.steps ++ l) (sym (take_more count steps taken others e))));
      rest = f.rest
          ∙ (ap (refused_from old.scenario mid.machine count) e
          ∙ (refused_allowed old.scenario mid.machine count taken others did.not_refused
          ∙ (ap (λ (m : Machine). refused_from old.scenario m (count + 1) others) (sym machine)
          ∙ ap (refused_from old.scenario new.machine (count + 1)) (sym (drop_more count steps taken others e)))));
    }

-- the next step is refused
pub follows_refused : (old mid new : WorldView) (steps : List Step) (count : ℕ) (taken : Step) (others : List Step) (why : StepError) → Followed old mid steps count → drop count steps ≡ taken ∷ others
    → Refuses mid new taken why → Follows old new steps (Some (record { at = count; why = why }))
follows_refused old mid new steps count taken others why f e r =
    record {
      first = sym (f.rest ∙ (ap (refused_from old.scenario mid.machine count) e ∙ refused_here old.scenario mid.machine count taken others why r.reason));
      done = λ none. absurd (none-some (record { at = count; why = why }) (sym none));
    }

-- all are done
pub follows_all : (old new : WorldView) (steps : List Step) (count : ℕ) → Followed old new steps count → drop count steps ≡ [] → take count steps ≡ steps → Follows old new steps None
follows_all old new steps count f none all =
    record {
      first = sym (f.rest ∙ ap (refused_from old.scenario new.machine count) none);
      done = λ _. f.now ∙ ap (world_after old) all;
    }
