-- A drain takes the automatic steps of a replicated master, one after another.
use Rattle.std.specs.Option.{option_map_or}
use Rattle.std.proofs.Common.{◌≡◌, ℕ, ◌+◌, ◌<◌, ◌≤◌, List, [], ◌∷◌, ◌++◌, length, slice_get, true, false, Option, Some, None, IfSome, zero, suc, refl, sym, ap, subst, arith, ◌∙◌}
use Rattle.std.proofs.lemmas.List.{append-nil, append_assoc}
use Rattle.tp_quorum.proofs.Ends.{after_rests, always_has_end, first_of_where, goes_on, step_done}
use Rattle.tp_quorum.proofs.Lists.{got_within}
use Rattle.tp_quorum.proofs.Potential.{MachineRests, uncovered}
use Rattle.tp_quorum.proofs.QuorumLemmas.{reached_count, reached_next}
use Rattle.tp_quorum.specs.Automatic.{HasEnd, at_rest, automatic_steps, bound, next_by, next_of, running_count}
use Rattle.tp_quorum.specs.Machine.{IsStepOf, Machine, after_step, after_steps, first_where, is_replica_down, machine_after}
use Rattle.tp_quorum.specs.Operations.{is_running}
use Rattle.tp_quorum.specs.QuorumView.{CanBegin, Does, Drains, IsNext, IsReached, QuorumView, Refuses, steps_left}
use Rattle.tp_quorum.specs.Words.{QError, QStep, Sizes}
use Rattle.tp_quorum.specs.Words.error
use Rattle.tp_quorum.specs.Words.step

-- ---- the next step

reached_rests : (sizes : Sizes) (m : Machine) → IsReached sizes m → MachineRests sizes.admins (length m.state.replicas) (length m.state.ops) m
reached_rests sizes m reached =
    subst (λ (n : Machine). MachineRests sizes.admins (length n.state.replicas) (length n.state.ops) n) (sym reached.is) (after_rests sizes reached.steps reached.some reached.named)

reached_ends : (sizes : Sizes) (m : Machine) → IsReached sizes m → HasEnd m
reached_ends sizes m reached = subst HasEnd (sym reached.is) (always_has_end sizes reached.steps reached.some reached.named)

next_named : (sizes : Sizes) (m : Machine) → IsReached sizes m → (down : Option ℕ) → first_where is_replica_down 0 m.state.replicas ≡ down → (mail op : Option ℕ) (taken : QStep) → next_by down mail op ≡ Some taken
    → IsStepOf sizes taken × CanBegin m taken
next_named sizes m reached (Some r) e mail op taken is =
    let found = first_of_where is_replica_down m.state.replicas 0 r e in
    let within : r < sizes.replicas = omega (arith, found.is_found, got_within m.state.replicas found.place found.member found.is_member, reached_count sizes m reached) in
    let same : step.Boot r ≡ taken = cc in
    subst (λ (t : QStep). IsStepOf sizes t × CanBegin m t) same (within, tt)
next_named sizes m reached None e (Some number) op taken is = let same : step.Deliver number ≡ taken = cc in subst (λ (t : QStep). IsStepOf sizes t × CanBegin m t) same (tt, tt)
next_named sizes m reached None e None (Some number) taken is = let same : step.Timer number ≡ taken = cc in subst (λ (t : QStep). IsStepOf sizes t × CanBegin m t) same (tt, tt)
next_named sizes m reached None e None None taken is = absurd (cc)

-- it may be taken, and is not refused
is_next : (sizes : Sizes) (m : Machine) → IsReached sizes m → (taken : QStep) → next_of m ≡ Some taken → IsNext sizes m taken
is_next sizes m reached taken is =
    let named = next_named sizes m reached (first_where is_replica_down 0 m.state.replicas) refl (slice_get m.undelivered 0) (first_where is_running 0 m.state.ops) taken is in
    let goes =
    goes_on sizes.admins (length m.state.replicas) (length m.state.ops) m uncovered (reached_rests sizes m reached)
    (λ op o there covered runs. absurd (let no : false ≡ true = covered in cc)) taken is in
    record { named = named.0; begins = named.1; done = goes.done }

pub next_allowed : (sizes : Sizes) (m : Machine) → IsReached sizes m → (found : Option QStep) → found ≡ next_of m → IfSome found (IsNext sizes m)
next_allowed sizes m reached None is = tt
next_allowed sizes m reached (Some taken) is = is_next sizes m reached taken (sym is)

-- ---- so many steps as are left

stable : (count : ℕ) (m : Machine) → length (automatic_steps (suc count) m) ≤ count → automatic_steps (suc count) m ≡ automatic_steps count m
stable zero m few = by (next_of m) few
  where
    by : (taken : Option QStep) → length (option_map_or (λ (t : QStep). t ∷ []) taken []) ≤ 0 → option_map_or (λ (t : QStep). t ∷ []) taken [] ≡ []
    by None less = refl
    by (Some t) less = absurd (omega (arith, less))
stable (suc count) m few = by (next_of m) few (λ next. stable count next)
  where
    by : (taken : Option QStep) → length (option_map_or (λ (t : QStep). t ∷ automatic_steps (suc count) (after_step m t)) taken []) ≤ suc count
        → ((next : Machine) → length (automatic_steps (suc count) next) ≤ count → automatic_steps (suc count) next ≡ automatic_steps count next)
        → option_map_or (λ (t : QStep). t ∷ automatic_steps (suc count) (after_step m t)) taken [] ≡ option_map_or (λ (t : QStep). t ∷ automatic_steps count (after_step m t)) taken []
    by None less later = refl
    by (Some t) less later = ap (λ (steps : List QStep). t ∷ steps) (later (after_step m t) (omega (arith, less)))

-- with more than the most of them there are no more
stable_more : (more : ℕ) (m : Machine) (most : ℕ) → ((count : ℕ) → length (automatic_steps count m) ≤ most) → automatic_steps (most + more) m ≡ automatic_steps most m
stable_more zero m most few = let same : most + 0 ≡ most = omega arith in ap (λ (count : ℕ). automatic_steps count m) same
stable_more (suc more) m most few =
    let same : most + suc more ≡ suc (most + more) = omega arith in
    ap (λ (count : ℕ). automatic_steps count m) same ∙ stable (most + more) m (omega (arith, few (suc (most + more)))) ∙ stable_more more m most few

-- those of a machine are its next one and those of the machine after it
one_first : (m : Machine) (taken : QStep) → next_of m ≡ Some taken → HasEnd m → HasEnd (after_step m taken) → steps_left m ≡ taken ∷ steps_left (after_step m taken)
one_first m taken is ends later =
    let next : Machine = after_step m taken in
    let more : bound m + suc (bound next) ≡ suc (bound next + bound m) = omega arith in
    sym (stable_more (suc (bound next)) m (bound m) ends.few)
    ∙ ap (λ (count : ℕ). automatic_steps count m) more
    ∙ ap (λ (found : Option QStep). option_map_or (λ (t : QStep). t ∷ automatic_steps (bound next + bound m) (after_step m t)) found []) is
    ∙ ap (λ (steps : List QStep). taken ∷ steps) (stable_more (bound m) next (bound next) later.few)

none_left : (m : Machine) → next_of m ≡ None → (count : ℕ) → automatic_steps count m ≡ []
none_left m is zero = refl
none_left m is (suc count) = ap (λ (found : Option QStep). option_map_or (λ (t : QStep). t ∷ automatic_steps count (after_step m t)) found []) is

-- ---- one step of a drain

record Steps (sizes : Sizes) (m : Machine) (taken : QStep) (next : Machine) : Type 0 where
  pub reached : IsReached sizes next
  pub left : steps_left m ≡ taken ∷ steps_left next
  pub rest : at_rest next ≡ at_rest m

one_step : (sizes : Sizes) (m : Machine) (taken : QStep) → IsReached sizes m → next_of m ≡ Some taken → IsNext sizes m taken → Steps sizes m taken (machine_after m taken)
one_step sizes m taken reached is next =
    let now : IsReached sizes (machine_after m taken) = reached_next sizes m taken reached next.named next.done in
    let same : machine_after m taken ≡ after_step m taken = step_done m taken next.done in
    let first : steps_left m ≡ taken ∷ steps_left (after_step m taken) =
    one_first m taken is (reached_ends sizes m reached) (subst HasEnd same (reached_ends sizes (machine_after m taken) now)) in
    let left : steps_left m ≡ taken ∷ steps_left (machine_after m taken) = subst (λ (n : Machine). steps_left m ≡ taken ∷ steps_left n) (sym same) first in
    record {
      reached = now;
      left = left;
      rest = sym (ap (after_steps m) left ∙ ap (λ (n : Machine). after_steps n (steps_left (machine_after m taken))) (sym same));
    }

-- ---- a drain on its way

-- so far only automatic steps were done: with those that are left they are all
pub record Draining (old now : QuorumView) : Type 0 where
  pub was_up : old.given_up ≡ false
  pub was_reached : IsReached old.sizes old.machine
  pub up : now.given_up ≡ false
  pub sizes : now.sizes ≡ old.sizes
  pub reached : IsReached now.sizes now.machine
  pub rest : at_rest now.machine ≡ at_rest old.machine
  pub steps : now.machine.state.steps ++ steps_left now.machine ≡ old.machine.state.steps ++ steps_left old.machine

pub draining_first : (old : QuorumView) → old.given_up ≡ false → IsReached old.sizes old.machine → Draining old old
draining_first old up reached = record { was_up = up; was_reached = reached; up = up; sizes = refl; reached = reached; rest = refl; steps = refl }

pub draining_more : (old mid new : QuorumView) (taken : QStep) → Draining old mid → Some taken ≡ next_of mid.machine → IsNext mid.sizes mid.machine taken → Does mid new taken → Draining old new
draining_more old mid new taken d is next did =
    let one = one_step mid.sizes mid.machine taken d.reached (sym is) next in
    subst (Draining old) (sym did.now)
    (record {
      was_up = d.was_up;
      was_reached = d.was_reached;
      up = d.up;
      sizes = d.sizes;
      reached = one.reached;
      rest = one.rest ∙ d.rest;
      steps =
          append_assoc mid.machine.state.steps (taken ∷ []) (steps_left (machine_after mid.machine taken))
          ∙ ap (λ (steps : List QStep). mid.machine.state.steps ++ steps) (sym one.left)
          ∙ d.steps;
    })

-- there is one step less
pub draining_falls : (old mid new : QuorumView) (taken : QStep) → Draining old mid → Some taken ≡ next_of mid.machine → IsNext mid.sizes mid.machine taken → Does mid new taken
    → length (steps_left new.machine) < length (steps_left mid.machine)
draining_falls old mid new taken d is next did =
    let one = one_step mid.sizes mid.machine taken d.reached (sym is) next in
    let fewer : length (steps_left mid.machine) ≡ suc (length (steps_left (machine_after mid.machine taken))) = ap length one.left in
    subst (λ (q : QuorumView). length (steps_left q.machine) < length (steps_left mid.machine)) (sym did.now) (omega (arith, fewer))

-- where no step is next it is done
pub draining_ends : (old new : QuorumView) → Draining old new → None ≡ next_of new.machine → Drains old new
draining_ends old new d none =
    let ends = reached_ends old.sizes old.machine d.was_reached in
    let left : steps_left new.machine ≡ [] = none_left new.machine (sym none) (bound new.machine) in
    let machine : new.machine ≡ at_rest old.machine = sym (ap (after_steps new.machine) left) ∙ d.rest in
    let given : new.given_up ≡ old.given_up = d.up ∙ sym d.was_up in
    record {
      was_up = d.was_up;
      now = λ i. record { sizes = d.sizes i; machine = machine i; given_up = given i };
      steps = sym (append-nil new.machine.state.steps) ∙ ap (λ (steps : List QStep). new.machine.state.steps ++ steps) (sym left) ∙ d.steps;
      few = ends.few (bound old.machine);
      quiet = sym none;
      ended = ap (λ (m : Machine). running_count m.state.ops) machine ∙ ends.ended;
    }

-- where the next step is not done memory was refused
pub only_memory : (old new : QuorumView) (taken : QStep) (why : QError) → IsNext old.sizes old.machine taken → Refuses old new taken why → new.given_up ≡ true
only_memory old new taken error.NoMemory next refuses = refuses
only_memory old new taken (error.NoSuchMail mail mails) next refuses = absurd (let no : None ≡ Some (error.NoSuchMail mail mails) = sym next.done ∙ refuses.why_is in cc)
only_memory old new taken (error.Busy op) next refuses = absurd (let no : None ≡ Some (error.Busy op) = sym next.done ∙ refuses.why_is in cc)
only_memory old new taken (error.Idle op) next refuses = absurd (let no : None ≡ Some (error.Idle op) = sym next.done ∙ refuses.why_is in cc)
only_memory old new taken (error.IsDown replica) next refuses = absurd (let no : None ≡ Some (error.IsDown replica) = sym next.done ∙ refuses.why_is in cc)
only_memory old new taken (error.NotDown replica) next refuses = absurd (let no : None ≡ Some (error.NotDown replica) = sym next.done ∙ refuses.why_is in cc)
only_memory old new taken (error.NotItsMail mail) next refuses = absurd (let no : None ≡ Some (error.NotItsMail mail) = sym next.done ∙ refuses.why_is in cc)
