-- Each submission is a fact of its step's place, and the first of its transaction.
use Rattle.std.specs.List.{find, list_any}
use Rattle.std.proofs.Common.{Bool, List, None, Option, Some, [], ap, arith, drop, false, flat_map, inl, inr, length, option_map, refl, slice_get, subst, suc, sym, true, zero, ℕ, ⊎_elim, ◌++◌, ◌∙◌, ◌∷◌, ◌≡◌, ◌⊎◌}
use Rattle.std.proofs.lemmas.Option.{same_Some}
use Rattle.tp_types.proofs.ListLemmas.{number_itself}
use Rattle.tp_model.specs.Causes.{place_of, submitted_at}
use Rattle.tp_model.specs.Facts.{is_submission}
use Rattle.tp_model.specs.Ids.{same_txn}
use Rattle.tp_model.specs.Words.step
use Rattle.tp_model.specs.Words.what
use Rattle.tp_model.specs.Words.{Fact, Scenario, Step, TxnId, What}
use Rattle.tp_runs.proofs.agreement.Logs.{once, submitted_count, submitted_up}
use Rattle.tp_runs.proofs.agreement.World.{Agrees}
use Rattle.tp_runs.proofs.basics.Facts.{any_submitted, said, submissions}
use Rattle.tp_runs.proofs.walks.Steps.{Cases, KeepsUp, SaysIdle, machine_after_by}
use Rattle.tp_coord.specs.Row.{submit_row}
use Rattle.tp_machine.specs.Machine.{Machine, Move, State, acts_by, coordinator_fact, coordinator_move, facts_of, machine_after, refusal, state_after, with_age}
use Rattle.tp_actor_log.specs.Records.{log_with}
use Rattle.tp_machine.specs.Named.{IsStepOf}

abbrev pub Told : State → Type 0
Told w = (txn : TxnId) (place : ℕ) → slice_get w.steps place ≡ Some (step.Submit txn) → submitted_at txn w.facts ≡ Some place

-- what a step that submits a transaction tells: it was not told before
pub record IsNewlyTold (w : State) (txn : TxnId) (move : Move) : Type 0 where
  more : List What
  happened_is : move.happened ≡ what.Submitted txn ∷ more
  fresh : list_any (is_submission txn) w.facts ≡ false

abbrev pub NewTold : State → Step → Move → Type 0
NewTold w taken move = (txn : TxnId) → taken ≡ step.Submit txn → IsNewlyTold w txn move

-- ---- searches

none_first : {A : Type 0} (test : A → Bool) (x : A) (xs ys : List A) (b : Bool) → test x ≡ b → (list_any test xs ≡ false → find test (xs ++ ys) ≡ find test ys) → list_any test (x ∷ xs) ≡ false → find test (x ∷ xs ++ ys) ≡ find test ys
none_first test x xs ys true here later e = absurd (let some : list_any test (x ∷ xs) ≡ true = grind arith in cc)
none_first test x xs ys false other later e =
    let none : list_any test xs ≡ false = grind arith in
    let more = later none in
    grind arith

find_none : {A : Type 0} (test : A → Bool) (xs ys : List A) → list_any test xs ≡ false → find test (xs ++ ys) ≡ find test ys
find_none test [] ys e = refl
find_none test (x ∷ xs) ys e = none_first test x xs ys (test x) refl (λ later. find_none test xs ys later) e

some_first_in_deaths : {A : Type 0} (test : A → Bool) (y : A) (xs ys : List A) (x : A) (b : Bool) → test y ≡ b → (find test xs ≡ Some x → find test (xs ++ ys) ≡ Some x) → find test (y ∷ xs) ≡ Some x → find test (y ∷ xs ++ ys) ≡ Some x
some_first_in_deaths test y xs ys x true here later e = let same : y ≡ x = grind arith in grind arith
some_first_in_deaths test y xs ys x false other later e =
    let found : find test xs ≡ Some x = grind arith in
    let more = later found in
    grind arith

-- what is found first is found first as more comes
pub find_first : {A : Type 0} (test : A → Bool) (xs ys : List A) (x : A) → find test xs ≡ Some x → find test (xs ++ ys) ≡ Some x
find_first test [] ys x e = absurd (cc)
find_first test (y ∷ xs) ys x e = some_first_in_deaths test y xs ys x (test y) refl (λ later. find_first test xs ys x later) e

submission_first : (txn : TxnId) (place : ℕ) (more : List What) → find (is_submission txn) (facts_of place (what.Submitted txn ∷ more)) ≡ Some (record { place = place; what = what.Submitted txn })
submission_first txn place more = by_test true (number_itself txn.0)
  where
    by_test : (b : Bool) → same_txn txn txn ≡ b → find (is_submission txn) (facts_of place (what.Submitted txn ∷ more)) ≡ Some (record { place = place; what = what.Submitted txn })
    by_test b e = grind arith

-- ---- a step

-- what stands at a place of a list with one more
at_push : {A : Type 0} (xs : List A) (x found : A) (n : ℕ) → slice_get (xs ++ x ∷ []) n ≡ Some found → (slice_get xs n ≡ Some found) ⊎ ((n ≡ length xs) × (x ≡ found))
at_push [] x found zero e = inr (refl, same_Some x found e)
at_push [] x found (suc n) e = absurd (cc)
at_push (y ∷ xs) x found zero e = inl e
at_push (y ∷ xs) x found (suc n) e =
    ⊎_elim (λ (old : slice_get xs n ≡ Some found). inl old) (λ (new : (n ≡ length xs) × (x ≡ found)). inr (ap suc new.0, new.1)) (at_push xs x found n e)

found_placed : (test : Fact → Bool) (facts more : List Fact) (place : ℕ) (first : Option Fact) → find test facts ≡ first → option_map place_of first ≡ Some place → option_map place_of (find test (facts ++ more)) ≡ Some place
found_placed test facts more place None f e = absurd (cc)
found_placed test facts more place (Some fact) f e = ap (option_map place_of) (find_first test facts more fact f) ∙ e

pub state_after_told : (w : State) (taken : Step) (move : Move) → Told w → NewTold w taken move → Told (state_after w taken move)
state_after_told w taken move h t = λ txn place e.
    let more = facts_of (length w.steps) move.happened in
    ⊎_elim (λ (old : slice_get w.steps place ≡ Some (step.Submit txn)). found_placed (is_submission txn) w.facts more place (find (is_submission txn) w.facts) refl (h txn place old))
    (λ (new : (place ≡ length w.steps) × (taken ≡ step.Submit txn)).
    let told = t txn new.1 in
    let said_so : find (is_submission txn) more ≡ Some (record { place = length w.steps; what = what.Submitted txn }) =
    ap (λ (hs : List What). find (is_submission txn) (facts_of (length w.steps) hs)) told.happened_is ∙ submission_first txn (length w.steps) told.more in
    ap (option_map place_of) (find_none (is_submission txn) w.facts more told.fresh ∙ said_so) ∙ ap (λ (n : ℕ). Some n) (sym new.0))
    (at_push w.steps taken (step.Submit txn) place e)

told_idle : (sc : Scenario) (w : State) (taken : Step) (happened : List What) (move : Move) → SaysIdle taken happened → NewTold w taken move
told_idle sc w (step.Submit txn) happened move e other is = absurd e
told_idle sc w _ happened move e other is = absurd (cc)

none_any : (found : List TxnId) → length found ≡ 0 → list_any (λ (t : TxnId). true) found ≡ false
none_any [] e = refl
none_any (t ∷ found) e = absurd (omega (arith, e))

told_cases : (sc : Scenario) (w : State) → Agrees sc w → Cases sc w (NewTold w)
told_cases sc w a =
    record {
      idle = λ taken happened e. told_idle sc w taken happened _ e;
      server_received = λ n mail at part s sent up txn is. absurd (cc);
      coordinator_received = λ n mail txn part c sent up other is. absurd (cc);
      authority_told = λ n mail sent txn is. absurd (cc);
      master_told = λ n mail sent txn is. absurd (cc);
      published = λ admin exists more txn is. absurd (cc);
      pushed = λ admin server exists there txn is. absurd (cc);
      ticked = λ by txn is. absurd (cc);
      revoked = λ cred exists txn is. absurd (cc);
      begun = λ txn part c exists up new other is.
          let same : txn ≡ other = submit_is txn other is in
          let effect = with_age (submit_row sc c) (length w.steps) in
          let more = flat_map coordinator_fact (drop (length part.log) (log_with part.log effect.reaction.append)) in
          let move = coordinator_move w.actors txn (acts_by coordinator_fact (what.Submitted txn ∷ []) part.log effect) in
          let told : IsNewlyTold w txn move = record {
            more = more;
            happened_is = refl;
            fresh = any_submitted txn w.facts ∙ none_any (submissions txn (said w.facts)) (a.submitted txn ∙ (ap submitted_count up.found ∙ (ap submitted_up up.up ∙ ap once new)));
          } in
          subst (λ (t : TxnId). IsNewlyTold w t move) same told;
      timed = λ txn part c exists up begun other is. absurd (cc);
    }
  where
    submit_is : (one other : TxnId) → step.Submit one ≡ step.Submit other → one ≡ other
    submit_is one other e = cc

pub told_next : (sc : Scenario) (m : Machine) (taken : Step) → IsStepOf sc taken → KeepsUp taken → refusal m.state taken ≡ None → Agrees sc m.state → Told m.state → Told (machine_after sc m taken).state
told_next sc m taken exists stays allowed a h =
    machine_after_by sc m (NewTold m.state) Told (told_cases sc m.state a) a.coordinator_count (λ taken_is move t. state_after_told m.state taken_is move h t) taken exists stays allowed
