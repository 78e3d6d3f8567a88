-- A lawful history is a run, and entries of others leave an actor as it is.
use Rattle.std.proofs.Common.{◌≡◌, ◌≢◌, ℕ, ◌+◌, ◌≤◌, List, [], ◌∷◌, ◌++◌, length, refl, sym, ap, ◌∙◌, subst, append_assoc, append-nil, arith}
use Rattle.std.proofs.lemmas.Bool.Decides.{nat_tests}
use Rattle.std.specs.Prelude.{◌==◌, Option, Some, None, is_some, if◌then◌else◌, option_map, slice_get, Bool, true, false}
use Rattle.tp_model.specs.Words.actor
use Rattle.tp_model.specs.Words.{Actor, Fact, Letter, Mail, Scenario, Step, What}
use Rattle.tp_machine.specs.declared.actors.Actors.{Actors}
use Rattle.tp_machine.specs.declared.error.StepError.{StepError}
use Rattle.tp_machine.specs.Machine as machine
use Rattle.tp_machine.specs.Machine.{Machine, State, after, machine_after, opening, refusal, state_after}
use Rattle.tp_machine.specs.Moves.{LeavesOthers, move_of, moved_by, number_of}
use Rattle.tp_machine.specs.Named.{IsStepOf}
use Rattle.tp_machine.proofs.basics.Machine.{after_steps-snoc}
use Rattle.tp_machine.proofs.basics.Moves.{is_move, leaves}
use Rattle.tp_machine.proofs.basics.Parts.{some_inj}
use Rattle.tp_types.specs.Each.{Each}
use Rattle.tp_types.proofs.EachLemmas.{each_more, each_of_all}
use Rattle.tp_wire.specs.declared.view.Entry.{Entry}
use Rattle.tp_wire.specs.declared.view.Part.{Part}
use Rattle.tp_wire.specs.Entries as wire
use Rattle.tp_wire.specs.Entries.{steps_in, mails_in, facts_in}
use Rattle.tp_wire.specs.History.{StartsWith, Lawful, IsPart, Misses, one_if, times}
use Rattle.tp_wire.proofs.EntryLemmas.{facts-more, length-steps, mails-more, steps-more}
use Rattle.tp_cluster.specs.Offices.{Held, held_at}
use Rattle.tp_cluster.specs.Offices.Held.{OfServer, OfCoordinator, OfAuthority, OfMaster}
use Rattle.tp_cluster.specs.Runs.{IsNext, IsRunOf, state_at}

-- ---- along a history

-- what each further entry keeps holds of the whole
along : (sc : Scenario) (Q : Entry → Type 0) (P : List Entry → Type 0) → ((log : List Entry) (e : Entry) → IsNext sc log e → Q e → P log → P (log ++ e ∷ []))
    → (before rest : List Entry) → Each Q rest → Lawful (IsNext sc) (before ++ rest) → P before → P (before ++ rest)
along sc Q P next before [] each lawful p = subst P (sym (append-nil before)) p
along sc Q P next before (e ∷ rest) each lawful p =
    let same : (before ++ e ∷ []) ++ rest ≡ before ++ e ∷ rest = append_assoc before (e ∷ []) rest in
    subst P same (along sc Q P next (before ++ e ∷ []) rest each.1 (subst (Lawful (IsNext sc)) (sym same) lawful) (next before e (lawful before e rest refl) each.0 p))

-- ---- one entry more

pub allowed_after : (sc : Scenario) (m : Machine) (taken : Step) (why : Option StepError) → why ≡ None → (if is_some why then m else machine_after sc m taken) ≡ machine_after sc m taken
allowed_after sc m taken None e = refl
allowed_after sc m taken (Some why) e = absurd (cc)

pub state_next : (sc : Scenario) (log : List Entry) (taken : Step) → refusal (state_at sc log) taken ≡ None
    → (after sc (steps_in log ++ taken ∷ [])).state ≡ state_after (state_at sc log) taken (move_of sc (state_at sc log) taken)
state_next sc log taken ok =
    let m = after sc (steps_in log) in
    ap (λ (k : Machine). k.state) (after_steps-snoc sc (opening sc) (steps_in log) taken ∙ allowed_after sc m taken (refusal m.state taken) ok)
    ∙ is_move sc m taken

pub state_more : (sc : Scenario) (log : List Entry) (e : Entry) → refusal (state_at sc log) e.step ≡ None
    → state_at sc (log ++ e ∷ []) ≡ state_after (state_at sc log) e.step (move_of sc (state_at sc log) e.step)
state_more sc log e ok = ap (λ (ss : List Step). (after sc ss).state) (steps-more log e) ∙ state_next sc log e.step ok

same_mails : (place number : ℕ) (letters : List Letter) → machine.mails_of place number letters ≡ wire.mails_of place number letters
same_mails place number [] = refl
same_mails place number (letter ∷ letters) = ap (λ (ms : List Mail). record { number = number; sent = place; letter = letter } ∷ ms) (same_mails place (number + 1) letters)

run_more : (sc : Scenario) (log : List Entry) (e : Entry) → IsNext sc log e → IsRunOf sc log → IsRunOf sc (log ++ e ∷ [])
run_more sc log e n r =
    let w = state_at sc log in
    let now = state_more sc log e n.allowed in
    let place : length w.steps ≡ length log = ap (λ (ss : List Step). length ss) r.steps ∙ length-steps log in
    record {
      steps = ap (λ (s : State). s.steps) now ∙ (ap (λ (ss : List Step). ss ++ e.step ∷ []) r.steps ∙ sym (steps-more log e));
      mails = ap (λ (s : State). s.mails) now
          ∙ (ap (λ (ls : List Letter). w.mails ++ machine.mails_of (length w.steps) (length w.mails) ls) (sym n.letters)
          ∙ (ap (λ (k : ℕ). w.mails ++ machine.mails_of k (length w.mails) e.letters) place
          ∙ (ap (λ (ms : List Mail). ms ++ machine.mails_of (length log) (length ms) e.letters) r.mails
          ∙ (ap (λ (ms : List Mail). mails_in log ++ ms) (same_mails (length log) (length (mails_in log)) e.letters)
          ∙ sym (mails-more log e)))));
      facts = ap (λ (s : State). s.facts) now
          ∙ (ap (λ (hs : List What). w.facts ++ machine.facts_of (length w.steps) hs) (sym n.happened)
          ∙ (ap (λ (k : ℕ). w.facts ++ machine.facts_of k e.happened) place
          ∙ (ap (λ (fs : List Fact). fs ++ machine.facts_of (length log) e.happened) r.facts
          ∙ sym (facts-more log e))));
    }

-- a lawful history is a run of the machine
pub runs : (sc : Scenario) (log : List Entry) → Lawful (IsNext sc) log → IsRunOf sc log
runs sc log lawful =
    along sc (λ (e : Entry). Unit {0}) (IsRunOf sc) (λ before e n _ r. run_more sc before e n r) [] log (each_of_all (λ (e : Entry). Unit {0}) (λ _. tt) log) lawful
    (record { steps = refl; mails = refl; facts = refl })

-- and names what exists
pub all_named : (sc : Scenario) (log : List Entry) → Lawful (IsNext sc) log → Each (IsStepOf sc) (steps_in log)
all_named sc log lawful =
    along sc (λ (e : Entry). Unit {0}) (λ (l : List Entry). Each (IsStepOf sc) (steps_in l))
    (λ before e n _ r. subst (Each (IsStepOf sc)) (sym (steps-more before e)) (each_more (IsStepOf sc) (steps_in before) e.step r n.named))
    [] log (each_of_all (λ (e : Entry). Unit {0}) (λ _. tt) log) lawful tt

-- ---- an actor stays

-- a number that does not stand in a list of two is not the second
not_second : (n first second : ℕ) → times n (first ∷ second ∷ []) ≡ 0 → second ≡ n → ⊥
not_second n first second none same =
    let here : (second == n) ≡ true = grind (arith, nat_tests, same) in
    let one : one_if (second == n) ≡ 1 = ap one_if here in
    absurd (omega (arith, none, one))

-- what an actor has stays where others move
pub left : (who : Actor) (mover : Option Actor) (old new : Actors) → LeavesOthers mover old new → mover ≢ Some who → held_at new who ≡ held_at old who
left (actor.Server at) mover old new l ne = ap (option_map OfServer) (l.servers at ne)
left (actor.Coordinator txn) mover old new l ne = ap (option_map OfCoordinator) (l.coordinators txn ne)
left actor.Authority mover old new l ne = ap (λ a. Some (OfAuthority a)) (l.authority ne)
left actor.Master mover old new l ne = ap (λ m. Some (OfMaster m)) (l.master ne)

stays_more : (sc : Scenario) (log : List Entry) (e : Entry) (who : Actor) (number : ℕ) → number_of sc who ≡ number → IsNext sc log e → Misses number e
    → held_at (state_at sc (log ++ e ∷ [])).actors who ≡ held_at (state_at sc log).actors who
stays_more sc log e who number is n misses =
    let w = state_at sc log in
    let none : times number (n.caller ∷ number_of sc n.who ∷ []) ≡ 0 = ap (times number) (sym n.numbers) ∙ misses in
    let other : moved_by w.mails e.step ≢ Some who =
    (λ same. not_second number n.caller (number_of sc n.who) none (ap (number_of sc) (some_inj n.who who (sym n.mover ∙ same)) ∙ is)) in
    ap (λ (s : State). held_at s.actors who) (state_more sc log e n.allowed)
    ∙ left who (moved_by w.mails e.step) w.actors (move_of sc w e.step).actors (leaves sc w e.step) other

-- entries of others leave what an actor has
pub stays : (sc : Scenario) (log : List Entry) (p : Part) (who : Actor) → Lawful (IsNext sc) log → IsPart log p → p.number ≡ number_of sc who
    → held_at (state_at sc log).actors who ≡ held_at (state_at sc p.upto).actors who
stays sc log p who lawful part is =
    let more = part.0 in
    let P : List Entry → Type 0 = (λ l. held_at (state_at sc l).actors who ≡ held_at (state_at sc p.upto).actors who) in
    subst P part.1
    (along sc (Misses p.number) P (λ l e n misses same. stays_more sc l e who p.number (sym is) n misses ∙ same)
    p.upto more part.2 (subst (Lawful (IsNext sc)) (sym part.1) lawful) refl)
