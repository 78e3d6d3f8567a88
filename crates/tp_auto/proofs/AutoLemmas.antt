-- How far a drain has come after so many of its steps.
use Rattle.std.proofs.Common.{◌≡◌, ◌≢◌, ℕ, ◌+◌, ◌-◌, ◌<◌, ◌≤◌, List, [], ◌∷◌, ◌++◌, length, take, drop, false, Option, Some, None, is_some, zero, suc, slice_get, if◌then◌else◌, refl, sym, ap, subst, ◌∙◌, arith}
use Rattle.std.specs.Option.{option_map_or}
use Rattle.std.specs.Prelude.{Err, IsErrOf}
use Rattle.std.proofs.Math.Seq.{take-add}
use Rattle.std.proofs.lemmas.List.{drop-drop, length-drop, take_all}
use Rattle.tp_model.specs.Words.{Scenario, Step}
use Rattle.tp_machine.specs.declared.error.StepError.{StepError}
use Rattle.tp_machine.specs.declared.error.StepError.TheVariants as error
use Rattle.tp_machine.specs.Machine.{Machine, after_step, after_steps, machine_after, refusal}
use Rattle.tp_machine.specs.WorldView.{Does, GivesUp, Refuses, WorldView}
use Rattle.tp_machine.proofs.basics.Machine.{after_steps-snoc}
use Rattle.tp_auto.specs.Auto.{Drains, Stops, automatic_from, bound_of, cursor_after, next_of, steps_of, world_after}

-- ---- lists

pub take_more : {A : Type 0} (k : ℕ) (xs : List A) (y : A) (ys : List A) → drop k xs ≡ y ∷ ys → take (k + 1) xs ≡ take k xs ++ y ∷ []
take_more k xs y ys e = take-add k 1 xs ∙ ap (λ d. take k xs ++ take 1 d) e

pub drop_more : {A : Type 0} (k : ℕ) (xs : List A) (y : A) (ys : List A) → drop k xs ≡ y ∷ ys → drop (k + 1) xs ≡ ys
drop_more k xs y ys e = sym (drop-drop 1 k xs) ∙ ap (drop 1) e

next_at : {A : Type 0} (k : ℕ) (xs : List A) (y : A) (ys : List A) → drop k xs ≡ y ∷ ys → slice_get xs k ≡ Some y
next_at zero [] y ys e = absurd cc
next_at {A} zero (x ∷ xs) y ys e = ap (λ (zs : List A). slice_get zs 0) e
next_at (suc k) [] y ys e = absurd cc
next_at (suc k) (x ∷ xs) y ys e = next_at k xs y ys e

none_more : {A : Type 0} (k : ℕ) (xs : List A) → drop k xs ≡ [] → length xs ≤ k
none_more k xs e = omega (arith, length-drop k xs, ap length e)

-- ---- automatic steps

pub after_allowed : (sc : Scenario) (m : Machine) (taken : Step) → refusal m.state taken ≡ None → after_step sc m taken ≡ machine_after sc m taken
after_allowed sc m taken ok = ap (λ (why : Option StepError). if is_some why then m else machine_after sc m taken) ok

pub automatic-some : (sc : Scenario) (left cursor : ℕ) (m : Machine) (taken : Step) → next_of sc m cursor ≡ Some taken → refusal m.state taken ≡ None
    → automatic_from sc (suc left) cursor m ≡ taken ∷ automatic_from sc left (cursor_after taken cursor) (machine_after sc m taken)
automatic-some sc left cursor m taken e ok =
    ap (λ (o : Option Step). option_map_or (λ (s : Step). s ∷ automatic_from sc left (cursor_after s cursor) (after_step sc m s)) o []) e
    ∙ ap (λ (k : Machine). taken ∷ automatic_from sc left (cursor_after taken cursor) k) (after_allowed sc m taken ok)

pub automatic-none : (sc : Scenario) (left cursor : ℕ) (m : Machine) → next_of sc m cursor ≡ None → automatic_from sc left cursor m ≡ []
automatic-none sc zero cursor m e = refl
automatic-none sc (suc left) cursor m e =
    ap (λ (o : Option Step). option_map_or (λ (s : Step). s ∷ automatic_from sc left (cursor_after s cursor) (after_step sc m s)) o []) e

-- ---- the drain

-- so many of the automatic steps of the old world are done, and the cursor stands here
pub record SoFar (old new : WorldView) (count cursor : ℕ) : Type 0 where
  pub was_up : old.given_up ≡ false
  pub now : new ≡ world_after old (take count (steps_of old))
  pub rest : drop count (steps_of old) ≡ automatic_from old.scenario (bound_of old - count) cursor new.machine

pub so_far_none : (old : WorldView) → old.given_up ≡ false → SoFar old old 0 0
so_far_none old up =
    let left : bound_of old ≡ bound_of old - 0 = omega arith in
    record { was_up = up; now = refl; rest = ap (λ n. automatic_from old.scenario n 0 old.machine) left }

pub same_scenario : (old new : WorldView) (count cursor : ℕ) → SoFar old new count cursor → new.scenario ≡ old.scenario
same_scenario old new count cursor so = ap (λ (w : WorldView). w.scenario) so.now

-- the next step is the same in the scenario of the start
pub next_here : (old new : WorldView) (count cursor : ℕ) (next : Option Step) → SoFar old new count cursor → next ≡ next_of new.scenario new.machine cursor → next_of old.scenario new.machine cursor ≡ next
next_here old new count cursor next so e = sym (e ∙ ap (λ (sc : Scenario). next_of sc new.machine cursor) (same_scenario old new count cursor so))

-- what is left begins with the next step
rest_more : (old mid : WorldView) (count cursor : ℕ) (taken : Step) → SoFar old mid count cursor → count < bound_of old → Some taken ≡ next_of mid.scenario mid.machine cursor → refusal mid.machine.state taken ≡ None
    → drop count (steps_of old) ≡ taken ∷ automatic_from old.scenario (bound_of old - (count + 1)) (cursor_after taken cursor) (machine_after old.scenario mid.machine taken)
rest_more old mid count cursor taken so more e ok =
    let left : bound_of old - count ≡ suc (bound_of old - (count + 1)) = omega (arith, more) in
    so.rest ∙ (ap (λ n. automatic_from old.scenario n cursor mid.machine) left
    ∙ automatic-some old.scenario (bound_of old - (count + 1)) cursor mid.machine taken (next_here old mid count cursor (Some taken) so e) ok)

-- the world after one step more
with_step : WorldView → Step → WorldView
with_step world taken = record world { machine = machine_after world.scenario world.machine taken }

world_after-snoc : (world : WorldView) (steps : List Step) (taken : Step) → refusal (world_after world steps).machine.state taken ≡ None
    → world_after world (steps ++ taken ∷ []) ≡ with_step (world_after world steps) taken
unfolding with_step
world_after-snoc world steps taken ok =
    ap (λ (m : Machine). record world { machine = m })
    (after_steps-snoc world.scenario world.machine steps taken
    ∙ after_allowed world.scenario (after_steps world.scenario world.machine steps) taken ok)

pub machine_is : (old mid new : WorldView) (count cursor : ℕ) (taken : Step) → SoFar old mid count cursor → Does mid new taken → new.machine ≡ machine_after old.scenario mid.machine taken
machine_is old mid new count cursor taken so did =
    ap (λ (w : WorldView). w.machine) did.now ∙ ap (λ (sc : Scenario). machine_after sc mid.machine taken) (same_scenario old mid count cursor so)

-- one step more
pub so_far_more : (old mid new : WorldView) (count cursor after : ℕ) (taken : Step) → after ≡ cursor_after taken cursor → SoFar old mid count cursor → count < bound_of old
    → Some taken ≡ next_of mid.scenario mid.machine cursor → Does mid new taken → SoFar old new (count + 1) after
unfolding with_step
so_far_more old mid new count cursor after taken moved so more e did =
    let all = steps_of old in
    let left = bound_of old - (count + 1) in
    let rest = rest_more old mid count cursor taken so more e did.not_refused in
    let before : refusal (world_after old (take count all)).machine.state taken ≡ None =
    subst (λ (w : WorldView). refusal w.machine.state taken ≡ None) so.now did.not_refused in
    record {
      was_up = so.was_up;
      now = did.now ∙ (ap (λ (w : WorldView). with_step w taken) so.now
          ∙ (sym (world_after-snoc old (take count all) taken before) ∙ ap (world_after old) (sym (take_more count all taken _ rest))));
      rest = drop_more count all taken _ rest ∙ (ap (λ (at : ℕ). automatic_from old.scenario left at (machine_after old.scenario mid.machine taken)) (sym moved)
          ∙ ap (automatic_from old.scenario left after) (sym (machine_is old mid new count cursor taken so did)));
    }

-- where no step is next all are done
pub drains_quiet : (old new : WorldView) (count cursor : ℕ) → SoFar old new count cursor → None ≡ next_of new.scenario new.machine cursor → Drains old new
drains_quiet old new count cursor so e =
    let none : drop count (steps_of old) ≡ [] = so.rest ∙ automatic-none old.scenario (bound_of old - count) cursor new.machine (next_here old new count cursor None so e) in
    record { was_up = so.was_up; now = so.now ∙ ap (world_after old) (take_all count (steps_of old) (none_more count (steps_of old) none)) }

-- where memory is refused in the next step the drain stops there
pub stops : (old mid new : WorldView) (count cursor : ℕ) (taken : Step) → SoFar old mid count cursor → count < bound_of old → Some taken ≡ next_of mid.scenario mid.machine cursor → refusal mid.machine.state taken ≡ None
    → GivesUp mid new taken → Stops old new
stops old mid new count cursor taken so more e ok gave =
    record {
      count = count;
      next = taken;
      is_next = next_at count (steps_of old) taken _ (rest_more old mid count cursor taken so more e ok);
      gave_up = subst (λ (w : WorldView). GivesUp w new taken) so.now gave;
    }

-- a step that is not refused fails only for want of memory
pub gives_up : (old new : WorldView) (taken : Step) (why : StepError) → refusal old.machine.state taken ≡ None
    → (why ≢ error.NoMemory → Refuses old new taken why) → (IsErrOf {T = Unit {0}} (Err why) error.NoMemory → GivesUp old new taken) → GivesUp old new taken
gives_up old new taken (error.NoSuchMail mail mails) ok refused memory =
    let r = refused (λ h. cc) in
    absurd (cc (ok, r.reason))
gives_up old new taken (error.AlreadySubmitted txn) ok refused memory =
    let r = refused (λ h. cc) in
    absurd (cc (ok, r.reason))
gives_up old new taken (error.NotSubmitted txn) ok refused memory =
    let r = refused (λ h. cc) in
    absurd (cc (ok, r.reason))
gives_up old new taken (error.IsDown who) ok refused memory =
    let r = refused (λ h. cc) in
    absurd (cc (ok, r.reason))
gives_up old new taken (error.NotDown who) ok refused memory =
    let r = refused (λ h. cc) in
    absurd (cc (ok, r.reason))
gives_up old new taken (error.NotItsMail mail) ok refused memory =
    let r = refused (λ h. cc) in
    absurd (cc (ok, r.reason))
gives_up old new taken (error.NoMore admin) ok refused memory =
    let r = refused (λ h. cc) in
    absurd (cc (ok, r.reason))
gives_up old new taken (error.TooLate clock) ok refused memory =
    let r = refused (λ h. cc) in
    absurd (cc (ok, r.reason))
gives_up old new taken error.NoMemory ok refused memory = memory refl
