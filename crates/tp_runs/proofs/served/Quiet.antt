-- Served: where nothing is undelivered, all are up and begun, and each armed transaction is served, none is armed. Each
-- would wait for a lock, and the youngest of them waits for none.
use Rattle.std.specs.List.{list_any}
use Rattle.std.specs.Option.{option_flatten, option_map_or}
use Rattle.std.proofs.Common.{Bool, List, None, Option, Some, [], ap, arith, false, is_some, length, not, option_and_then, refl, slice_get, subst, suc, sym, true, zero, ℕ, ⊎_elim, ◌&&◌, ◌*◌, ◌+◌, ◌<◌, ◌==◌, ◌||◌, ◌∙◌, ◌∷◌, ◌≡◌, ◌≤◌, ◌⊎◌}
use Rattle.std.proofs.lemmas.Bool.{or_left, or_right}
use Rattle.std.proofs.lemmas.Option.{same_Some, slice_get_within}
use Rattle.tp_types.proofs.EachLemmas.{missing}
use Rattle.tp_types.proofs.ListLemmas.{number_itself}
use Rattle.tp_types.specs.Each.{Each}
use Rattle.tp_model.proofs.RuleLemmas.{few_txns, rules_of}
use Rattle.tp_model.specs.Valid.{is_valid}
use Rattle.tp_model.specs.Words.actor
use Rattle.tp_model.specs.Words.step
use Rattle.tp_model.specs.Words.{Actor, Outcome, Scenario, ServerId, TxnId}
use Rattle.tp_recover.specs.Log.{settled_in}
use Rattle.tp_coord.specs.Opened.{servers_at}
use Rattle.tp_coord.specs.Row as coord
use Rattle.tp_coord.specs.State.{Coordinator}
use Rattle.tp_coord.specs.declared.coordinator.Phase.{Phase}
use Rattle.tp_coord.specs.declared.coordinator.Phase.TheVariants as phase
use Rattle.tp_coord.specs.declared.coordinator.Span.TheVariants as span
use Rattle.tp_machine.specs.Logs.{settled_by}
use Rattle.tp_machine.specs.Machine.{Machine, State, is_armed_at}
use Rattle.tp_machine.specs.Named.{IsServer}
use Rattle.tp_machine.specs.Parts.{Part}
use Rattle.tp_round.specs.Judge.{is_awaited, is_missing}
use Rattle.tp_round.specs.declared.round.Target.{Target}
use Rattle.tp_server.specs.Row as server
use Rattle.tp_server.specs.State.{Server}
use Rattle.tp_runs.proofs.ages.World.{IsSubmission}
use Rattle.tp_runs.proofs.agreement.Coordinator.{PhaseRests}
use Rattle.tp_runs.proofs.agreement.Logs.{IsPrepared, IsSettled}
use Rattle.tp_runs.proofs.agreement.Steps.{coordinator_agrees, own_txn, server_agrees}
use Rattle.tp_runs.proofs.basics.Found.{of_some}
use Rattle.tp_runs.proofs.basics.Rounds.{is_in}
use Rattle.tp_runs.proofs.basics.Servers.{among_servers}
use Rattle.tp_runs.proofs.known.World.{HasPlaces}
use Rattle.tp_runs.proofs.runs.Runs.{Holds}
use Rattle.tp_runs.proofs.served.Awaited.{AwaitsSome, IsAskedOf, IsMail, IsRepliedBy, IsServed, IsServedAt, IsServedBy, IsWaiting, OnItsWay, WaitsThere, is_awaiting, is_home, kind_of}
use Rattle.tp_runs.proofs.served.CoordinatorRows.{IsSteady}
use Rattle.tp_runs.proofs.served.Lists.{AnyOf}
use Rattle.tp_runs.proofs.served.Moves.{home_there}
use Rattle.tp_runs.proofs.served.Steady.{Steady, steady_of}
use Rattle.tp_runs.proofs.served.Younger.{IsBehind, behind_younger}
use Rattle.tp_runs.proofs.walks.Steps.{IsCoordinatorUp, IsServerUp}
use Rattle.tp_runs.specs.Sound.{IsSoundPhase}

-- each coordinator is up, and its transaction was submitted
abbrev pub AllRun : State → Type 0
AllRun w = (txn : TxnId) (part : Part Coordinator) → slice_get w.actors.coordinators txn.0 ≡ Some part → (c : Coordinator) × ((part.up ≡ Some c) × (coord.is_begun c.phase ≡ true))

-- a transaction with a request outstanding
record IsArmed (w : State) (txn : TxnId) : Type 0 where
  part : Part Coordinator
  c : Coordinator
  up : IsCoordinatorUp w txn part c
  armed : coord.is_armed c ≡ true

-- ---- one that is armed waits for a lock

none_undelivered : (mails : List ℕ) (P : ℕ → Type 0) → mails ≡ [] → AnyOf P mails → ⊥
none_undelivered mails P e h = subst (AnyOf P) e h

-- where nothing is on its way the query waits
waits_only : (m : Machine) (c : Coordinator) (who : Actor) → m.undelivered ≡ [] → IsServedBy m c who → IsWaiting m.state.actors.servers c.txn c.turn (kind_of c.phase) who
waits_only m c who none served =
    ⊎_elim (λ (way : OnItsWay m (IsAskedOf c who)). absurd (none_undelivered m.undelivered (IsMail m.state.mails (IsAskedOf c who)) none way))
    (λ (rest : OnItsWay m (IsRepliedBy c who) ⊎ IsWaiting m.state.actors.servers c.txn c.turn (kind_of c.phase) who).
    ⊎_elim (λ (way : OnItsWay m (IsRepliedBy c who)). absurd (none_undelivered m.undelivered (IsMail m.state.mails (IsRepliedBy c who)) none way))
    (λ (waits : IsWaiting m.state.actors.servers c.txn c.turn (kind_of c.phase) who). waits) rest) served

missing_one : (targets : List Target) → list_any is_missing targets ≡ true → (at : ServerId) × (is_awaited targets at ≡ true)
missing_one [] e = absurd (cc)
missing_one (target ∷ targets) e = by_first (is_missing target) refl e (λ f. missing_one targets f)
  where
    by_first : (b : Bool) → is_missing target ≡ b → (b || list_any is_missing targets) ≡ true → (list_any is_missing targets ≡ true → (at : ServerId) × (is_awaited targets at ≡ true)) → (at : ServerId) × (is_awaited (target ∷ targets) at ≡ true)
    by_first true m f later =
        let here : (target.server.0 == target.server.0) ≡ true = number_itself target.server.0 in
        (target.server, or_left ((target.server.0 == target.server.0) && is_missing target) (is_awaited targets target.server) (ap (λ (b : Bool). b && is_missing target) here ∙ m))
    by_first false m f later = let rest = later f in (rest.0, or_right ((target.server.0 == rest.0.0) && is_missing target) (is_awaited targets rest.0) rest.1)

-- the query of an armed transaction that waits at a server
record WaitsSomewhere (w : State) (c : Coordinator) : Type 0 where
  number : ℕ
  at : ServerId
  there : WaitsThere w.actors.servers c.txn c.turn number at

armed_waits : (sc : Scenario) (m : Machine) (c : Coordinator) (awaited : Phase) → m.undelivered ≡ [] → IsSteady sc c → IsServed sc m c → c.phase ≡ awaited → (coord.is_begun awaited && not (coord.is_done awaited)) ≡ true → WaitsSomewhere m.state c
armed_waits sc m c phase.Idle none k served e armed = absurd (cc)
armed_waits sc m c (phase.Stapling number) none k served e armed =
    let awaits : is_awaiting sc c c.phase actor.Authority ≡ true = ap (λ (p : Phase). is_awaiting sc c p actor.Authority) e in
    absurd (subst (λ (p : Phase). IsWaiting m.state.actors.servers c.txn c.turn (kind_of p) actor.Authority) e (waits_only m c actor.Authority none (served actor.Authority awaits)))
armed_waits sc m c (phase.Asking over round) none k served e armed =
    let awaits : is_awaiting sc c c.phase actor.Authority ≡ true = ap (λ (p : Phase). is_awaiting sc c p actor.Authority) e in
    absurd (subst (λ (p : Phase). IsWaiting m.state.actors.servers c.txn c.turn (kind_of p) actor.Authority) e (waits_only m c actor.Authority none (served actor.Authority awaits)))
armed_waits sc m c (phase.Probing number) none k served e armed =
    let awaits : is_awaiting sc c c.phase actor.Master ≡ true = ap (λ (p : Phase). is_awaiting sc c p actor.Master) e in
    absurd (subst (λ (p : Phase). IsWaiting m.state.actors.servers c.txn c.turn (kind_of p) actor.Master) e (waits_only m c actor.Master none (served actor.Master awaits)))
armed_waits sc m c (phase.Reading over round) none k served e armed =
    let awaits : is_awaiting sc c c.phase actor.Master ≡ true = ap (λ (p : Phase). is_awaiting sc c p actor.Master) e in
    absurd (subst (λ (p : Phase). IsWaiting m.state.actors.servers c.txn c.turn (kind_of p) actor.Master) e (waits_only m c actor.Master none (served actor.Master awaits)))
armed_waits sc m c phase.VoteProbing none k served e armed =
    let awaits : is_awaiting sc c c.phase actor.Master ≡ true = ap (λ (p : Phase). is_awaiting sc c p actor.Master) e in
    absurd (subst (λ (p : Phase). IsWaiting m.state.actors.servers c.txn c.turn (kind_of p) actor.Master) e (waits_only m c actor.Master none (served actor.Master awaits)))
armed_waits sc m c (phase.Querying number staple) none k served e armed =
    let query = (subst (IsSoundPhase sc c.txn) e k.sound).0 in
    let home = home_there sc c number query.asked k.home.homes query.asked_is in
    let awaits : is_awaiting sc c c.phase (actor.Server home.0) ≡ true =
    ap (λ (p : Phase). is_awaiting sc c p (actor.Server home.0)) e ∙ (ap (λ (h : Option ServerId). is_home h home.0) home.1 ∙ number_itself home.0.0) in
    record {
      number = number;
      at = home.0;
      there = subst (λ (p : Phase). IsWaiting m.state.actors.servers c.txn c.turn (kind_of p) (actor.Server home.0)) e (waits_only m c (actor.Server home.0) none (served (actor.Server home.0) awaits));
    }
armed_waits sc m c (phase.Checking (span.Validate number) round staple) none k served e armed =
    let one = missing_one round.targets (subst AwaitsSome e k.awaits) in
    let awaits : is_awaiting sc c c.phase (actor.Server one.0) ≡ true = ap (λ (p : Phase). is_awaiting sc c p (actor.Server one.0)) e ∙ one.1 in
    absurd (subst (λ (p : Phase). IsWaiting m.state.actors.servers c.txn c.turn (kind_of p) (actor.Server one.0)) e (waits_only m c (actor.Server one.0) none (served (actor.Server one.0) awaits)))
armed_waits sc m c (phase.Checking span.Commit round staple) none k served e armed =
    let one = missing_one round.targets (subst AwaitsSome e k.awaits) in
    let awaits : is_awaiting sc c c.phase (actor.Server one.0) ≡ true = ap (λ (p : Phase). is_awaiting sc c p (actor.Server one.0)) e ∙ one.1 in
    absurd (subst (λ (p : Phase). IsWaiting m.state.actors.servers c.txn c.turn (kind_of p) (actor.Server one.0)) e (waits_only m c (actor.Server one.0) none (served (actor.Server one.0) awaits)))
armed_waits sc m c (phase.Voting []) none k served e armed = absurd (subst AwaitsSome e k.awaits)
armed_waits sc m c (phase.Voting (at ∷ others)) none k served e armed =
    let awaits : is_awaiting sc c c.phase (actor.Server at) ≡ true = ap (λ (p : Phase). is_awaiting sc c p (actor.Server at)) e ∙ or_left (at.0 == at.0) (coord.is_among others at) (number_itself at.0) in
    absurd (subst (λ (p : Phase). IsWaiting m.state.actors.servers c.txn c.turn (kind_of p) (actor.Server at)) e (waits_only m c (actor.Server at) none (served (actor.Server at) awaits)))
armed_waits sc m c (phase.Ending ended []) none k served e armed = absurd (cc)
armed_waits sc m c (phase.Ending ended (at ∷ others)) none k served e armed =
    let awaits : is_awaiting sc c c.phase (actor.Server at) ≡ true = ap (λ (p : Phase). is_awaiting sc c p (actor.Server at)) e ∙ or_left (at.0 == at.0) (coord.is_among others at) (number_itself at.0) in
    absurd (subst (λ (p : Phase). IsWaiting m.state.actors.servers c.txn c.turn (kind_of p) (actor.Server at)) e (waits_only m c (actor.Server at) none (served (actor.Server at) awaits)))

-- ---- the owner of an entry is armed

ended_phase : (awaited : Phase) → coord.is_done awaited ≡ true → (ended : Outcome) × (awaited ≡ phase.Ending ended [])
ended_phase (phase.Ending ended []) e = (ended, refl)
ended_phase (phase.Ending ended (at ∷ others)) e = absurd (cc)
ended_phase phase.Idle e = absurd (cc)
ended_phase (phase.Stapling number) e = absurd (cc)
ended_phase (phase.Querying number staple) e = absurd (cc)
ended_phase (phase.Probing number) e = absurd (cc)
ended_phase (phase.Asking over round) e = absurd (cc)
ended_phase (phase.Checking over round staple) e = absurd (cc)
ended_phase (phase.Reading over round) e = absurd (cc)
ended_phase (phase.Voting awaited) e = absurd (cc)
ended_phase phase.VoteProbing e = absurd (cc)

-- where all have acknowledged each of the transaction's servers has settled it
owner_unfinished : (sc : Scenario) (w : State) (at : ServerId) (part : Part Server) (s : Server) (txn : TxnId) (behind : IsBehind sc w at s txn) (cpart : Part Coordinator) (c : Coordinator) → Holds sc w → IsServerUp w at part s
    → IsCoordinatorUp w behind.other cpart c → coord.is_done c.phase ≡ true → ⊥
owner_unfinished sc w at part s txn behind cpart c h up cup done =
    let ended = ended_phase c.phase done in
    let same : c.txn ≡ behind.other = own_txn sc w behind.other cpart c h.sound cup.found cup.up in
    let rests = subst (λ (p : Phase). PhaseRests (IsPrepared w.actors.servers behind.other) (IsSettled w.actors.servers behind.other) p (servers_at sc c.txn)) ended.1 (coordinator_agrees sc w behind.other cpart c h.agrees cup).replied in
    let exists : IsServer sc at = (h.sound.actors_are.servers at.0 part up.found).exists in
    let settled : IsSettled w.actors.servers behind.other at =
    among_servers (λ (k : ServerId). is_in [] k ≡ false → IsSettled w.actors.servers behind.other k) sc at behind.other exists behind.item
    (subst (λ (t : TxnId). Each (λ (k : ServerId). is_in [] k ≡ false → IsSettled w.actors.servers behind.other k) (servers_at sc t)) same rests) refl in
    let on_log : is_some (settled_in behind.other part.log) ≡ true = sym (ap (λ (found : Option (Part Server)). is_some (option_and_then (settled_by behind.other) found)) up.found) ∙ settled in
    let unsettled : settled_in behind.other part.log ≡ None = (server_agrees sc w at part s h.agrees up).unsettled behind.other.0 behind.entry behind.found in
    let none : is_some (settled_in behind.other part.log) ≡ false = ap is_some unsettled in
    cc

found_part : (parts : List (Part Coordinator)) (n : ℕ) → n < length parts → (part : Part Coordinator) × (slice_get parts n ≡ Some part)
found_part parts n within = by_found (slice_get parts n) refl
  where
    by_found : (found : Option (Part Coordinator)) → slice_get parts n ≡ found → (part : Part Coordinator) × (slice_get parts n ≡ Some part)
    by_found None e = absurd (missing parts n within e)
    by_found (Some part) e = (part, e)

placed_within : {A : Type 0} (table : List (Option A)) (n : ℕ) (x : A) → option_flatten (slice_get table n) ≡ Some x → n < length table
placed_within {A = A} table n x e = by_found (slice_get table n) refl e
  where
    by_found : (found : Option (Option A)) → slice_get table n ≡ found → option_flatten found ≡ Some x → n < length table
    by_found None f g = absurd (cc)
    by_found (Some there) f g = slice_get_within table n there f

owner_armed : (sc : Scenario) (w : State) (at : ServerId) (part : Part Server) (s : Server) (txn : TxnId) (behind : IsBehind sc w at s txn) → Holds sc w → AllRun w → IsServerUp w at part s → IsArmed w behind.other
owner_armed sc w at part s txn behind h run up =
    let places : length s.entries ≡ length sc.txns = of_some (HasPlaces sc) part.up s up.up (h.pairs.places at.0 part up.found) in
    let within = placed_within s.entries behind.other.0 behind.entry behind.found in
    let there = found_part w.actors.coordinators behind.other.0 (omega (arith, within, places, h.agrees.coordinator_count)) in
    let up_now = run behind.other there.0 there.1 in
    let cup : IsCoordinatorUp w behind.other there.0 up_now.0 = record { found = there.1; up = up_now.1.0 } in
    let unfinished : coord.is_done up_now.0.phase ≡ false = true_not (coord.is_done up_now.0.phase) (λ done. owner_unfinished sc w at part s txn behind there.0 up_now.0 h up cup done) in
    record { part = there.0; c = up_now.0; up = cup; armed = ap (λ (b : Bool). b && not (coord.is_done up_now.0.phase)) up_now.1.1 ∙ ap not unfinished }
  where
    true_not : (b : Bool) → (b ≡ true → ⊥) → b ≡ false
    true_not true f = absurd (f refl)
    true_not false f = refl

-- ---- the youngest

-- one that is armed waits for a younger one that is armed
record IsBefore (w : State) (txn : TxnId) : Type 0 where
  age : ℕ
  age_is : IsSubmission w.steps txn age
  other : TxnId
  other_age : ℕ
  other_age_is : IsSubmission w.steps other other_age
  armed : IsArmed w other
  younger : (age < other_age) ⊎ ((age ≡ other_age) × (txn.0 < other.0))

waits_for : (sc : Scenario) (m : Machine) (txn : TxnId) → is_valid sc ≡ true → Holds sc m.state → Steady sc m.state → m.undelivered ≡ [] → AllRun m.state → IsServedAt sc m txn → IsArmed m.state txn → IsBefore m.state txn
waits_for sc m txn formed h steady none run served armed =
    let same : armed.c.txn ≡ txn = own_txn sc m.state txn armed.part armed.c h.sound armed.up.found armed.up.up in
    let waits : WaitsSomewhere m.state armed.c = armed_waits sc m armed.c armed.c.phase none (steady_of sc m.state txn armed.part armed.c formed h steady armed.up) (served armed.part armed.c armed.up) refl armed.armed in
    let up : IsServerUp m.state waits.at waits.there.part waits.there.s = record { found = waits.there.found; up = waits.there.up } in
    let found : server.entry_at waits.there.s txn ≡ Some waits.there.waits.entry = subst (λ (t : TxnId). option_flatten (slice_get waits.there.s.entries t.0) ≡ Some waits.there.waits.entry) same waits.there.waits.found in
    let behind = behind_younger sc m.state waits.at waits.there.part waits.there.s txn waits.there.waits.entry waits.there.waits.q h up found waits.there.waits.waiting_is in
    record {
      age = behind.age;
      age_is = behind.age_is;
      other = behind.other;
      other_age = behind.entry.age;
      other_age_is = behind.other_age;
      armed = owner_armed sc m.state waits.at waits.there.part waits.there.s txn behind h run up;
      younger = behind.younger;
    }

-- a transaction is submitted once
one_age : (sc : Scenario) (w : State) (txn : TxnId) (one other : ℕ) → Holds sc w → IsSubmission w.steps txn one → IsSubmission w.steps txn other → one ≡ other
one_age sc w txn one other h e f = same_Some one other (sym (h.deaths.told txn one e) ∙ h.deaths.told txn other f)

none_armed : (sc : Scenario) (m : Machine) (fuel : ℕ) (txn : TxnId) (age : ℕ) → is_valid sc ≡ true → Holds sc m.state → Steady sc m.state → m.undelivered ≡ [] → AllRun m.state → ((t : TxnId) → IsArmed m.state t → IsServedAt sc m t)
    → IsArmed m.state txn → IsSubmission m.state.steps txn age → length m.state.steps * 128 ≤ fuel + (age * 128 + txn.0) → ⊥
none_armed sc m zero txn age formed h steady none run served armed age_is enough =
    let within = slice_get_within m.state.steps age (step.Submit txn) age_is in
    let low = slice_get_within m.state.actors.coordinators txn.0 armed.part armed.up.found in
    let few = few_txns sc (rules_of sc formed) in
    omega (arith, enough, within, low, few, h.agrees.coordinator_count)
none_armed sc m (suc fuel) txn age formed h steady none run served armed age_is enough =
    let before = waits_for sc m txn formed h steady none run (served txn armed) armed in
    let same : age ≡ before.age = one_age sc m.state txn age before.age h age_is before.age_is in
    let low = slice_get_within m.state.actors.coordinators txn.0 armed.part armed.up.found in
    let few = few_txns sc (rules_of sc formed) in
    none_armed sc m fuel before.other before.other_age formed h steady none run served before.armed before.other_age_is
    (⊎_elim (λ (less : before.age < before.other_age). omega (arith, enough, same, less, low, few, h.agrees.coordinator_count))
    (λ (level : (before.age ≡ before.other_age) × (txn.0 < before.other.0)). let ages = level.0 in let numbers = level.1 in omega (arith, enough, same, ages, numbers)) before.younger)

armed_at : (w : State) (txn : TxnId) (found : Option (Part Coordinator)) → slice_get w.actors.coordinators txn.0 ≡ found → option_map_or (λ (part : Part Coordinator). option_map_or coord.is_armed part.up false) found false ≡ true → IsArmed w txn
armed_at w txn None e armed = absurd (cc)
armed_at w txn (Some part) e armed = by_up part.up refl armed
  where
    by_up : (up : Option Coordinator) → part.up ≡ up → option_map_or coord.is_armed up false ≡ true → IsArmed w txn
    by_up None f a = absurd (cc)
    by_up (Some c) f a = record { part = part; c = c; up = record { found = e; up = f }; armed = a }

armed_is : (w : State) (txn : TxnId) → IsArmed w txn → is_armed_at w.actors txn ≡ true
armed_is w txn k =
    ap (λ (found : Option (Part Coordinator)). option_map_or (λ (part : Part Coordinator). option_map_or coord.is_armed part.up false) found false) k.up.found
    ∙ (ap (λ (up : Option Coordinator). option_map_or coord.is_armed up false) k.up.up ∙ k.armed)

-- where nothing is undelivered and each armed transaction is served, none is armed
pub all_finished : (sc : Scenario) (m : Machine) (txn : TxnId) → is_valid sc ≡ true → Holds sc m.state → Steady sc m.state → m.undelivered ≡ [] → AllRun m.state → ((t : TxnId) → is_armed_at m.state.actors t ≡ true → IsServedAt sc m t)
    → is_armed_at m.state.actors txn ≡ true → ⊥
all_finished sc m txn formed h steady none run served armed =
    let here = armed_at m.state txn (slice_get m.state.actors.coordinators txn.0) refl armed in
    let all : (t : TxnId) → IsArmed m.state t → IsServedAt sc m t = λ t k. served t (armed_is m.state t k) in
    let before = waits_for sc m txn formed h steady none run (all txn here) here in
    none_armed sc m (length m.state.steps * 128) txn before.age formed h steady none run all here before.age_is (omega arith)
