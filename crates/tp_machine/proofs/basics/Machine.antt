-- How the code's actors and history together are the machine after a step.
use Rattle.std.proofs.Common.{◌≡◌, ℕ, ◌-◌, ◌<◌, List, [], ◌∷◌, ◌++◌, length, slice_set, false, Option, Some, None, is_some, if◌then◌else◌, refl, sym, ap, ◌∙◌, arith}
use Rattle.std.specs.List.{range_with_len}
use Rattle.std.proofs.lemmas.List.{length-append}
use Rattle.tp_model.specs.Words.{Fact, Letter, Mail, Scenario, Step}
use Rattle.tp_model.specs.Words.step
use Rattle.tp_machine.specs.declared.actors.Actors.{Actors}
use Rattle.tp_machine.specs.declared.error.StepError.{StepError}
use Rattle.tp_machine.specs.declared.history.History.{History}
use Rattle.tp_machine.specs.declared.part.Act.{Act}
use Rattle.tp_machine.specs.mirrors.Acts.{Moves}
use Rattle.tp_pending.specs.Flags.{marked}
use Rattle.tp_machine.specs.mirrors.History.{Notes}
use Rattle.tp_machine.specs.Machine.{State, Machine, Move, state_after, facts_of, mails_of, with_new, without_number, after, after_step, after_steps, machine_after, opening, refusal}
use Rattle.tp_machine.specs.WorldView.{machine_of, state_of}
use Rattle.tp_machine.proofs.basics.Flags.{length_mails_of, marked-mails_of, marked-mails_of_cleared}

pub same_state : (actors actors' : Actors) (mails mails' : List Mail) (facts facts' : List Fact) (steps steps' : List Step)
    → actors ≡ actors' → mails ≡ mails' → facts ≡ facts' → steps ≡ steps'
    → ◌≡◌ {A = State} (record { actors = actors; mails = mails; facts = facts; steps = steps }) (record { actors = actors'; mails = mails'; facts = facts'; steps = steps' })
same_state actors actors' mails mails' facts facts' steps steps' a m f s =
    ap (λ (x : Actors). record { actors = x; mails = mails; facts = facts; steps = steps }) a
    ∙ (ap (λ (x : List Mail). record { actors = actors'; mails = x; facts = facts; steps = steps }) m
    ∙ (ap (λ (x : List Fact). record { actors = actors'; mails = mails'; facts = x; steps = steps }) f
    ∙ ap (λ (x : List Step). record { actors = actors'; mails = mails'; facts = facts'; steps = x }) s))

pub same_machine : (state state' : State) (undelivered undelivered' : List ℕ) → state ≡ state' → undelivered ≡ undelivered'
    → ◌≡◌ {A = Machine} (record { state = state; undelivered = undelivered }) (record { state = state'; undelivered = undelivered' })
same_machine state state' undelivered undelivered' s u =
    ap (λ (x : State). record { state = x; undelivered = undelivered }) s
    ∙ ap (λ (x : List ℕ). record { state = state'; undelivered = x }) u

-- the new state is the one after the move
pub state_noted : (actors actors' : Actors) (history history' : History) (taken : Step) (move : Move) (act : Act)
    → Moves move actors' act → Notes history history' taken act.happened act.letters
    → state_of actors' history' ≡ state_after (state_of actors history) taken move
state_noted actors actors' history history' taken move act t n =
    same_state _ _ _ _ _ _ _ _ t.actors_are
    (n.mails ∙ ap (λ ls. history.mails ++ mails_of (length history.steps) (length history.mails) ls) t.letters_are)
    (n.facts ∙ ap (λ hs. history.facts ++ facts_of (length history.steps) hs) t.happened_is)
    n.steps

-- as many mails are new as letters were sent
new_mails : (history : History) (letters : List Letter)
    → length (history.mails ++ mails_of (length history.steps) (length history.mails) letters) - length history.mails ≡ length letters
new_mails history letters =
    omega (arith, length-append history.mails (mails_of (length history.steps) (length history.mails) letters), length_mails_of (length history.steps) (length history.mails) letters)

-- the mails that are new are undelivered
new_numbers : (history : History) (letters letters' : List Letter) → letters ≡ letters'
    → range_with_len (length history.pending) (length letters)
    ≡ range_with_len (length history.mails) (length (history.mails ++ mails_of (length history.steps) (length history.mails) letters') - length history.mails)
new_numbers history letters letters' e =
    ap (λ k. range_with_len k (length letters)) history.flagged
    ∙ ap (range_with_len (length history.mails)) (ap length e ∙ sym (new_mails history letters'))

-- a step that delivers nothing gives the machine of the definition
pub machine_noted : (actors actors' : Actors) (history history' : History) (taken : Step) (move : Move) (act : Act)
    → Moves move actors' act → Notes history history' taken act.happened act.letters
    → machine_of actors' history' ≡ with_new (state_of actors history) (state_after (state_of actors history) taken move) (marked 0 history.pending)
machine_noted actors actors' history history' taken move act t n =
    same_machine _ _ _ _ (state_noted actors actors' history history' taken move act t n)
    (ap (marked 0) n.pending
    ∙ (marked-mails_of history.pending (length act.letters)
    ∙ ap (λ ns. marked 0 history.pending ++ ns) (new_numbers history act.letters move.letters t.letters_are)))

-- so does one that delivers a mail, which is then marked
pub machine_marked : (actors actors' : Actors) (history history' marks : History) (taken : Step) (move : Move) (act : Act) (mail : ℕ)
    → mail < length history.mails → Moves move actors' act → Notes history history' taken act.happened act.letters
    → marks.steps ≡ history'.steps → marks.facts ≡ history'.facts → marks.mails ≡ history'.mails → marks.pending ≡ slice_set history'.pending mail false
    → machine_of actors' marks
    ≡ with_new (state_of actors history) (state_after (state_of actors history) taken move) (without_number (marked 0 history.pending) mail)
machine_marked actors actors' history history' marks taken move act mail within t n steps facts mails pending =
    let before : mail < length history.pending = omega (arith, history.flagged) in
    same_machine _ _ _ _
    (same_state _ _ _ _ _ _ _ _ refl mails facts steps ∙ state_noted actors actors' history history' taken move act t n)
    (ap (marked 0) (pending ∙ ap (λ flags. slice_set flags mail false) n.pending)
    ∙ (marked-mails_of_cleared history.pending (length act.letters) mail before
    ∙ ap (λ ns. without_number (marked 0 history.pending) mail ++ ns) (new_numbers history act.letters move.letters t.letters_are)))

-- a list of steps with one more
pub after_steps-snoc : (sc : Scenario) (m : Machine) (steps : List Step) (taken : Step)
    → after_steps sc m (steps ++ taken ∷ []) ≡ after_step sc (after_steps sc m steps) taken
after_steps-snoc sc m [] taken = refl
after_steps-snoc sc m (first ∷ others) taken = after_steps-snoc sc (after_step sc m first) others taken

allowed : (sc : Scenario) (m : Machine) (taken : Step) (why : Option StepError) → why ≡ None → (if is_some why then m else machine_after sc m taken) ≡ machine_after sc m taken
allowed sc m taken None e = refl
allowed sc m taken (Some why) e = absurd (cc)

pub steps_next : (sc : Scenario) (m : Machine) (taken : Step) → (machine_after sc m taken).state.steps ≡ m.state.steps ++ taken ∷ []
steps_next sc m (step.Submit txn) = refl
steps_next sc m (step.Deliver mail) = refl
steps_next sc m (step.Publish admin) = refl
steps_next sc m (step.Push admin server) = refl
steps_next sc m (step.Tick by) = refl
steps_next sc m (step.Revoke cred) = refl
steps_next sc m (step.Lose mail) = refl
steps_next sc m (step.Crash who None) = refl
steps_next sc m (step.Crash who (Some cut)) = refl
steps_next sc m (step.Boot who) = refl
steps_next sc m (step.Timer txn) = refl

-- the machine after these steps and one more that is not refused
pub after_next : (sc : Scenario) (m : Machine) (taken : Step) → m ≡ after sc m.state.steps → refusal m.state taken ≡ None → after sc (m.state.steps ++ taken ∷ []) ≡ machine_after sc m taken
after_next sc m taken reached ok =
    after_steps-snoc sc (opening sc) m.state.steps taken
    ∙ (ap (λ (k : Machine). after_step sc k taken) (sym reached) ∙ allowed sc m taken (refusal m.state taken) ok)

-- a machine that its steps give is given by them after one more step
pub reached_next : (sc : Scenario) (m next : Machine) (taken : Step) → m ≡ after sc m.state.steps → refusal m.state taken ≡ None
    → next ≡ machine_after sc m taken → next ≡ after sc next.state.steps
reached_next sc m next taken reached ok e =
    let steps : next.state.steps ≡ m.state.steps ++ taken ∷ [] = ap (λ (k : Machine). k.state.steps) e ∙ steps_next sc m taken in
    e ∙ sym (ap (after sc) steps ∙ after_next sc m taken reached ok)
