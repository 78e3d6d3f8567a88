-- Trust, the server's rows: on receipt of a mail.
use Rattle.std.proofs.Common.{IfSome, List, None, Option, Some, [], ap, arith, inl, inr, is_some, length, refl, slice_get, subst, sym, true, ℕ, ℤ, ◌==◌, ◌∙◌, ◌∷◌, ◌≡◌, ◌≤◌, ◌⊎◌}
use Rattle.std.proofs.lemmas.Bool.{and_from, eqb-true}
use Rattle.std.proofs.lemmas.Option.{same_Some}
use Rattle.std.specs.List.{list_all}
use Rattle.tp_types.proofs.EachLemmas.{each_as, each_found, each_map, placed_emptied, placed_set}
use Rattle.tp_types.specs.Each.{Each}
use Rattle.tp_types.specs.Effect.{Effect, sends}
use Rattle.tp_model.specs.Deeds.{deed_of}
use Rattle.tp_model.specs.Limits.{is_empty}
use Rattle.tp_model.specs.Versions.{newest}
use Rattle.tp_model.specs.Words.{Actor, Admin, AdminId, Body, Deed, DoneReply, Fact, Letter, Mail, No, PrepareRequest, PushNotice, Query, QueryRequest, Scenario, ServerId, Settled, Staple, Transaction, TxnId, ValidateRequest, Verdict, Version}
use Rattle.tp_model.specs.Words.actor
use Rattle.tp_model.specs.Words.answer
use Rattle.tp_model.specs.Words.body
use Rattle.tp_model.specs.Words.outcome
use Rattle.tp_model.specs.Words.vote
use Rattle.tp_coord.specs.State.{Coordinator}
use Rattle.tp_coord.specs.declared.coordinator.Phase.{Phase}
use Rattle.tp_coord.specs.declared.coordinator.Phase.TheVariants as phase
use Rattle.tp_lock.specs.Rule.{without_grant}
use Rattle.tp_lock.specs.Table.{Table}
use Rattle.tp_round.specs.Judge.{is_aimed}
use Rattle.tp_model.specs.WantedVersions.{wanted_of}
use Rattle.tp_round.specs.declared.round.Round.{Round}
use Rattle.tp_server.proofs.Rows.{AreRightWaits, IsAsking, IsEvaluated, Stapled, Unstapled, refusing, resuming, server_by_locks, with_locks}
use Rattle.tp_server.specs.Row.{ack_letter, after_asking, answers_with, closes, entry_at, followed_by, learns, no_letter, pinned, refused_as, reply_of, server_row, settled_as, shows, shows_on, votes, waits, yes_letter}
use Rattle.tp_server.specs.State.{Server}
use Rattle.tp_server.specs.Verdicts.{admin_of, verdict_on, verdicts_on, version_known, version_or, version_used, with_versions, with_wants}
use Rattle.tp_server.specs.declared.server.Ballot.{Ballot}
use Rattle.tp_server.specs.declared.server.Entry.{Entry}
use Rattle.tp_store.specs.Contents.{Contents}
use Rattle.tp_store.specs.Rule.{greater, newest_in, with_version}
use Rattle.tp_runs.proofs.basics.Aims.{is_within, wanted_aimed}
use Rattle.tp_runs.proofs.basics.Ids.{admin_number}
use Rattle.tp_runs.proofs.basics.Phases.{is_undecided}
use Rattle.tp_runs.proofs.basics.Stores.{ended_known, kept_known}
use Rattle.tp_runs.proofs.basics.Turns.{AimedVote, Answers, IsClosed, PrepareNow, ProvesSome, Stamp, ValidateNow, VerdictsNow, VoteNow, WantNow, stamp_of}
use Rattle.tp_runs.proofs.basics.Versions.{known_most, learnt_most}
use Rattle.tp_runs.proofs.ids.Server.{deed_sound, verdict_query}
use Rattle.tp_runs.proofs.ids.Valid.{IsValid}
use Rattle.tp_runs.proofs.pairs.Actors.{BodyPairs, site_of}
use Rattle.tp_runs.proofs.pairs.Fits.{Names, NamesUpto}
use Rattle.tp_runs.proofs.pairs.Pair.{Pair}
use Rattle.tp_runs.proofs.trust.Fit.{BodyFits, IsPublished, Right, ServerFits, StapleFits}
use Rattle.tp_runs.proofs.trust.Kept.{IsKept, IsTrusted, vote_cast}
use Rattle.tp_runs.proofs.trust.Server.{IsAskedHere, RowTrusts, ServerTrusted, answers_trusts, asked_here, denied_now, died_now, ending_trusts, entry_trusts, ignores_trusts_in_server, knows_as, newer_fits, newer_now, own_query, pinned_fits, pinned_here, pinned_long, proof_right, restarted_trusted, resumes_denied_trusts, resumes_outdated_trusts, resumes_trusts, run_kept, runs_trusts, set_long, verdict_right}
use Rattle.tp_runs.specs.Sound.{AreVersionsOf, IsSoundBody, IsSoundDeedAt, IsSoundEntry, IsSoundServer}

-- ---- Prepare

rights_of : (sc : Scenario) (facts : List Fact) (place : ℕ) (s : Server) (txn : TxnId) (presenting : Transaction) (staple : Staple) (want : List (AdminId × Version)) (deeds : List Deed) → IsValid sc → ServerFits sc facts place s
    → Each (IsPublished sc facts place) want → slice_get sc.txns txn.0 ≡ Some presenting → StapleFits sc facts place txn staple → Each (IsSoundDeedAt sc s.server txn) deeds
    → Each (Right sc facts place txn) (verdicts_on sc s presenting staple want deeds)
rights_of sc facts place s txn presenting staple want deeds valid h published there fits d =
    each_map (IsSoundDeedAt sc s.server txn) (Right sc facts place txn) (verdict_on sc s presenting staple want)
    (λ deed k. verdict_right sc facts place s txn presenting staple want deed valid h published there fits k) deeds d

-- what is known once the wanted versions are learnt is none above the newest
learnt_fits : (sc : Scenario) (facts : List Fact) (place : ℕ) (s : Server) (want : List (AdminId × Version)) → ServerFits sc facts place s → Each (IsPublished sc facts place) want → ServerFits sc facts place (with_wants s want)
learnt_fits sc facts place s want h w =
    record {
      known = λ admin within.
          learnt_most s.store want admin (newest sc admin place facts) (h.known admin within)
          (each_as (IsPublished sc facts place) (λ (wanted : AdminId × Version). wanted.0.0 ≡ admin.0 → wanted.1.0 ≤ newest sc admin place facts)
          (λ wanted below same. subst (λ (a : AdminId). wanted.1.0 ≤ newest sc a place facts) (ap admin_number same) below) want w);
    }

placed_there : (sc : Scenario) (s : Server) (txn : Transaction) (staple : Staple) (want : List (AdminId × Version)) (other : ℕ) (deeds : List Deed) → staple.place ≡ other
    → Each (λ (verdict : Verdict). verdict.place ≡ other) (verdicts_on sc s txn staple want deeds)
placed_there sc s txn staple want other [] e = tt
placed_there sc s txn staple want other (deed ∷ deeds) e = (e, placed_there sc s txn staple want other deeds e)

-- a verdict at a version that is wanted
used_aimed : (s : Server) (want aim : List (AdminId × Version)) (verdict : Verdict) (wanted : Option ℕ) → wanted_of want verdict.admin ≡ wanted → is_some wanted ≡ true → verdict.version ≡ version_used s want verdict.admin
    → Each (λ (one : AdminId × Version). is_within aim one ≡ true) want → is_aimed aim verdict ≡ true
used_aimed s want aim verdict None e some used within = absurd (cc)
used_aimed s want aim verdict (Some version) e some used within =
    wanted_aimed aim want verdict version within e (ap (λ (v : Version). v.0) used ∙ ap (λ (w : Option ℕ). (version_or w (version_known s verdict.admin)).0) e)

-- where all administrators are named all verdicts are at wanted versions
verdicts_aimed : (sc : Scenario) (facts : List Fact) (place : ℕ) (s : Server) (txn : TxnId) (presenting : Transaction) (staple : Staple) (want aim : List (AdminId × Version)) (deeds : List Deed)
    → slice_get sc.txns txn.0 ≡ Some presenting → Names (site_of sc s.server.0 presenting) want → Each (λ (one : AdminId × Version). is_within aim one ≡ true) want
    → Each (Right sc facts place txn) (verdicts_on sc s presenting staple want deeds) → list_all (is_aimed aim) (verdicts_on sc s presenting staple want deeds) ≡ true
verdicts_aimed sc facts place s txn presenting staple want aim [] there names within rights = refl
verdicts_aimed sc facts place s txn presenting staple want aim (deed ∷ deeds) there names within rights =
    let verdict = verdict_on sc s presenting staple want deed in
    and_from (is_aimed aim verdict) (list_all (is_aimed aim) (verdicts_on sc s presenting staple want deeds))
    (used_aimed s want aim verdict (wanted_of want verdict.admin) refl (names verdict.query verdict.admin (rights.0 presenting there).own) refl within)
    (verdicts_aimed sc facts place s txn presenting staple want aim deeds there names within rights.1)

-- what is wanted, if anything is, names all administrators of the transaction's queries at the server
abbrev pub IsNamed : Scenario → ServerId → PrepareRequest → Type 0
IsNamed sc at p = (declared : Transaction) → slice_get sc.txns p.txn.0 ≡ Some declared → (is_empty p.want ≡ true) ⊎ Names (site_of sc at.0 declared) p.want

abbrev pub NamedMail : Scenario → ServerId → Body → Type 0
NamedMail sc at (body.Prepare p) = IsNamed sc at p
NamedMail sc at _ = Unit {0}

-- so a mail to the server says
pub named_mail : (sc : Scenario) (P : TxnId → ℕ → Pair) (from : Actor) (at : ServerId) (said : Body) → BodyPairs sc P from (actor.Server at) said → NamedMail sc at said
named_mail sc P from at (body.Prepare p) h = λ declared e. (h declared e).names
named_mail sc P from at _ h = tt

-- an entry of the epoch that a request to prepare names has deeds
abbrev pub HasRun : Server → PrepareRequest → Type 0
HasRun s p = (entry : Entry) → entry_at s p.txn ≡ Some entry → entry.epoch ≡ p.epoch → entry.deeds ≡ [] → ⊥

abbrev pub RanMail : Server → Body → Type 0
RanMail s (body.Prepare p) = HasRun s p
RanMail s _ = Unit {0}

-- a vote has the versions of a round whose request it answers
aimed_vote : (sc : Scenario) (facts : List Fact) (place : ℕ) (s : Server) (p : PrepareRequest) (round : Round) (txn : Transaction) (staple : Staple) (deeds : List Deed) → slice_get sc.txns p.txn.0 ≡ Some txn
    → Each (Right sc facts place p.txn) (verdicts_on sc s txn staple p.want deeds) → (is_empty p.want ≡ true) ⊎ Names (site_of sc s.server.0 txn) p.want → WantNow round p.want
    → AimedVote round (vote.Yes (verdicts_on sc s txn staple p.want deeds))
aimed_vote sc facts place s p round txn staple deeds there rights names (inl first) = inl first
aimed_vote sc facts place s p round txn staple deeds there rights (inl none) (inr wants) = let some = wants.0 in absurd (cc)
aimed_vote sc facts place s p round txn staple deeds there rights (inr names) (inr wants) = inr (verdicts_aimed sc facts place s p.txn txn staple p.want round.aim deeds there names wants.1 rights)

-- where there are deeds there are verdicts
proves_some : (sc : Scenario) (s : Server) (txn : Transaction) (staple : Staple) (want : List (AdminId × Version)) (deeds : List Deed) → (deeds ≡ [] → ⊥) → ProvesSome (vote.Yes (verdicts_on sc s txn staple want deeds))
proves_some sc s txn staple want [] some none = some refl
proves_some sc s txn staple want (deed ∷ deeds) some none = cc

vote_now : (sc : Scenario) (facts : List Fact) (place : ℕ) (s : Server) (awaited : Phase) (p : PrepareRequest) (txn : Transaction) (staple : Staple) (deeds : List Deed) → p.staple ≡ Some staple → slice_get sc.txns p.txn.0 ≡ Some txn
    → Each (Right sc facts place p.txn) (verdicts_on sc s txn staple p.want deeds) → IsNamed sc s.server p → (deeds ≡ [] → ⊥) → PrepareNow awaited p → VoteNow awaited (vote.Yes (verdicts_on sc s txn staple p.want deeds))
vote_now sc facts place s (phase.Checking over round st) p txn staple deeds e there rights names some h = (
  placed_there sc s txn staple p.want st.place deeds (ap (λ (x : Staple). x.place) (same_Some staple st (sym e ∙ h.0))),
  aimed_vote sc facts place s p round txn staple deeds there rights (names txn there) h.1,
  proves_some sc s txn staple p.want deeds some,
)
vote_now sc facts place s (phase.Voting awaited) p txn staple deeds e there rights names some h = absurd (cc)
vote_now sc facts place s _ p txn staple deeds e there rights names some h = tt

-- a vote of the turn of its request, at the place of its staple
vote_answers : (sc : Scenario) (facts : List Fact) (place : ℕ) (P : TxnId → Coordinator → Type 0) (s : Server) (p : PrepareRequest) (txn : Transaction) (staple : Staple) (deeds : List Deed) → p.staple ≡ Some staple → slice_get sc.txns p.txn.0 ≡ Some txn
    → Each (Right sc facts place p.txn) (verdicts_on sc s txn staple p.want deeds) → IsNamed sc s.server p → (deeds ≡ [] → ⊥)
    → Answers sc P (body.Prepare p) (body.Vote (record { txn = p.txn; turn = p.turn; vote = vote.Yes (verdicts_on sc s txn staple p.want deeds) })) (record { txn = p.txn; turn = p.turn })
vote_answers sc facts place P s p txn staple deeds e there rights names some =
    record {
      asked = record { txn = p.txn; turn = p.turn };
      asked_is = refl;
      reply_is = refl;
      same_txn = refl;
      timely = λ c sent again here t unsure. record { past = (t unsure).past; now = λ same. vote_now sc facts place s c.phase p txn staple deeds e there rights names some ((t unsure).now same) };
    }

-- a vote with right verdicts
casts_trusts : (sc : Scenario) (facts : List Fact) (place : ℕ) (P : TxnId → Coordinator → Type 0) (T : Body → Type 0) (s : Server) (p : PrepareRequest) (verdicts : List Verdict) (entry : Entry) → ServerTrusted sc facts place T s
    → IsClosed sc P T → T (body.Prepare p) → Each (IsPublished sc facts place) p.want → entry_at s p.txn ≡ Some entry → Each (Right sc facts place p.txn) verdicts
    → Answers sc P (body.Prepare p) (body.Vote (record { txn = p.txn; turn = p.turn; vote = vote.Yes verdicts })) (record { txn = p.txn; turn = p.turn }) → RowTrusts sc facts place T (votes (with_wants s p.want) p verdicts entry)
casts_trusts sc facts place P T s p verdicts entry h closed t published found fit answers_it =
    let after : ServerFits sc facts place (with_wants s p.want) = learnt_fits sc facts place s p.want h.fits published in
    let old : IsKept (IsTrusted sc facts place T) p.txn entry = h.keeps p.txn.0 entry found in
    let said = body.Vote (record { txn = p.txn; turn = p.turn; vote = vote.Yes verdicts }) in
    let timely : T said = closed (body.Prepare p) said (record { txn = p.txn; turn = p.turn }) answers_it t in
    let trusted : IsTrusted sc facts place T said = record { fits = λ sent. fit; timely = timely } in
    record {
      fits = record { known = after.known };
      keeps = placed_set (λ (n : ℕ) (other : Entry). IsKept (IsTrusted sc facts place T) (record { 0 = n }) other) s.entries p.txn.0 _ h.keeps
          (record { answers = old.answers; waiting = old.waiting; ballot = trusted });
      forces = trusted;
      says = (fit, tt);
      timely = (timely, tt);
    }

-- where it was asked without a staple a vote proves nothing
plain_now : (awaited : Phase) (p : PrepareRequest) → p.staple ≡ None → PrepareNow awaited p → VoteNow awaited (vote.Yes [])
plain_now (phase.Checking over round staple) p e h = let given = h.0 in absurd (cc)
plain_now (phase.Voting awaited) p e h = refl
plain_now phase.Idle p e h = tt
plain_now (phase.Stapling number) p e h = tt
plain_now (phase.Querying number staple) p e h = tt
plain_now (phase.Probing number) p e h = tt
plain_now (phase.Asking over round) p e h = tt
plain_now (phase.Reading over round) p e h = tt
plain_now phase.VoteProbing p e h = tt
plain_now (phase.Ending ended awaited) p e h = tt

plain_answers : (sc : Scenario) (P : TxnId → Coordinator → Type 0) (p : PrepareRequest) → p.staple ≡ None
    → Answers sc P (body.Prepare p) (body.Vote (record { txn = p.txn; turn = p.turn; vote = vote.Yes [] })) (record { txn = p.txn; turn = p.turn })
plain_answers sc P p e =
    record {
      asked = record { txn = p.txn; turn = p.turn };
      asked_is = refl;
      reply_is = refl;
      same_txn = refl;
      timely = λ c sent again here t unsure. record { past = (t unsure).past; now = λ same. plain_now c.phase p e ((t unsure).now same) };
    }

votes_trusts : (sc : Scenario) (facts : List Fact) (place : ℕ) (P : TxnId → Coordinator → Type 0) (T : Body → Type 0) (s : Server) (p : PrepareRequest) (entry : Entry) (verdicts : List Verdict) → IsValid sc → IsSoundServer sc s
    → ServerTrusted sc facts place T s → IsClosed sc P T → T (body.Prepare p) → IfSome p.staple (StapleFits sc facts place p.txn) → Each (IsPublished sc facts place) p.want → entry_at s p.txn ≡ Some entry → IsNamed sc s.server p
    → (entry.deeds ≡ [] → ⊥) → IsEvaluated sc s p entry verdicts → RowTrusts sc facts place T (votes (with_wants s p.want) p verdicts entry)
votes_trusts sc facts place P T s p entry _ valid sound h closed t stapled published found names some (Stapled staple txn e there) =
    let now = with_wants s p.want in
    let after : ServerFits sc facts place now = learnt_fits sc facts place s p.want h.fits published in
    let k : IsSoundEntry sc s.server p.txn entry = sound.entries p.txn.0 entry found in
    let fits : StapleFits sc facts place p.txn staple = subst (λ (x : Option Staple). IfSome x (StapleFits sc facts place p.txn)) e stapled in
    let right : Each (Right sc facts place p.txn) (verdicts_on sc now txn staple p.want entry.deeds) = rights_of sc facts place now p.txn txn staple p.want entry.deeds valid after published there fits k.deeds in
    casts_trusts sc facts place P T s p (verdicts_on sc now txn staple p.want entry.deeds) entry h closed t published found right (vote_answers sc facts place P now p txn staple entry.deeds e there right names some)
votes_trusts sc facts place P T s p entry _ valid sound h closed t stapled published found names some (Unstapled e) = casts_trusts sc facts place P T s p [] entry h closed t published found tt (plain_answers sc P p e)

-- a vote that is given again fits as it did
votes_again_trusts : (sc : Scenario) (facts : List Fact) (place : ℕ) (T : Body → Type 0) (s : Server) (p : PrepareRequest) (entry : Entry) (cast : Ballot) → ServerTrusted sc facts place T s → entry_at s p.txn ≡ Some entry
    → entry.ballot ≡ Some cast → RowTrusts sc facts place T (sends s (yes_letter s p.txn cast ∷ []))
votes_again_trusts sc facts place T s p entry cast h found ballot_is =
    let old : IsTrusted sc facts place T (vote_cast p.txn cast) =
    subst (λ (ballot : Option Ballot). IfSome ballot (λ (b : Ballot). IsTrusted sc facts place T (vote_cast p.txn b))) ballot_is (h.keeps p.txn.0 entry found).ballot in
    record { fits = h.fits; keeps = h.keeps; forces = tt; says = (old.fits place, tt); timely = (old.timely, tt) }

-- ---- Validate

-- to a request to evaluate, of the present turn of a coordinator that there is, nothing is wanted, or a version of the administrator of each deed
abbrev pub IsShowing : Scenario → (TxnId → Coordinator → Type 0) → Server → ValidateRequest → Type 0
IsShowing sc P s v = (entry : Entry) → entry_at s v.txn ≡ Some entry → entry.epoch ≡ v.epoch → (c : Coordinator) → P v.txn c → is_undecided c.phase ≡ true → v.turn ≡ c.turn
    → (is_empty v.want ≡ true) ⊎ Each (λ (deed : Deed). is_some (wanted_of v.want (admin_of sc deed.item)) ≡ true) entry.deeds

abbrev pub ShowingMail : Scenario → (TxnId → Coordinator → Type 0) → Server → Body → Type 0
ShowingMail sc P s (body.Validate v) = IsShowing sc P s v
ShowingMail sc P s _ = Unit {0}

-- of the administrator of each deed one is, where those of all the transaction's queries at the server up to a number are named
pub deeds_named : (sc : Scenario) (at : ServerId) (txn : TxnId) (declared : Transaction) (want : List (AdminId × Version)) (last : ℕ) (deeds : List Deed) → slice_get sc.txns txn.0 ≡ Some declared → Each (IsSoundDeedAt sc at txn) deeds
    → Each (λ (deed : Deed). deed.query ≤ last) deeds → NamesUpto (site_of sc at.0 declared) last want → Each (λ (deed : Deed). is_some (wanted_of want (admin_of sc deed.item)) ≡ true) deeds
deeds_named sc at txn declared want last [] found sound low names = tt
deeds_named sc at txn declared want last (deed ∷ deeds) found sound low names = (
  names deed.query (admin_of sc deed.item) low.0 (own_query sc txn declared deed.query at (admin_of sc deed.item) found (verdict_query sc at txn deed sound.0)),
  deeds_named sc at txn declared want last deeds found sound.1 low.1 names,
)

-- so all verdicts are at wanted versions
deeds_aimed : (sc : Scenario) (s : Server) (txn : Transaction) (staple : Staple) (want aim : List (AdminId × Version)) (deeds : List Deed) → Each (λ (deed : Deed). is_some (wanted_of want (admin_of sc deed.item)) ≡ true) deeds
    → Each (λ (one : AdminId × Version). is_within aim one ≡ true) want → list_all (is_aimed aim) (verdicts_on sc s txn staple want deeds) ≡ true
deeds_aimed sc s txn staple want aim [] named within = refl
deeds_aimed sc s txn staple want aim (deed ∷ deeds) named within =
    let verdict = verdict_on sc s txn staple want deed in
    and_from (is_aimed aim verdict) (list_all (is_aimed aim) (verdicts_on sc s txn staple want deeds)) (used_aimed s want aim verdict (wanted_of want verdict.admin) refl named.0 refl within) (deeds_aimed sc s txn staple want aim deeds named.1 within)

aimed_show : (sc : Scenario) (s : Server) (v : ValidateRequest) (round : Round) (txn : Transaction) (deeds : List Deed) → (is_empty v.want ≡ true) ⊎ Each (λ (deed : Deed). is_some (wanted_of v.want (admin_of sc deed.item)) ≡ true) deeds → WantNow round v.want
    → AimedVote round (vote.Yes (verdicts_on sc s txn v.staple v.want deeds))
aimed_show sc s v round txn deeds named (inl first) = inl first
aimed_show sc s v round txn deeds (inl none) (inr wants) = let some = wants.0 in absurd (cc)
aimed_show sc s v round txn deeds (inr named) (inr wants) = inr (deeds_aimed sc s txn v.staple v.want round.aim deeds named wants.1)

show_now : (sc : Scenario) (s : Server) (awaited : Phase) (v : ValidateRequest) (txn : Transaction) (deeds : List Deed) → (is_undecided awaited ≡ true → (is_empty v.want ≡ true) ⊎ Each (λ (deed : Deed). is_some (wanted_of v.want (admin_of sc deed.item)) ≡ true) deeds)
    → ValidateNow awaited v → VerdictsNow awaited (verdicts_on sc s txn v.staple v.want deeds)
show_now sc s (phase.Checking over round st) v txn deeds named h = (placed_there sc s txn v.staple v.want st.place deeds (ap (λ (x : Staple). x.place) h.0), aimed_show sc s v round txn deeds (named refl) h.1)
show_now sc s _ v txn deeds named h = tt

-- what a transaction did is evaluated once the wanted versions are learnt
shows_trusts : (sc : Scenario) (facts : List Fact) (place : ℕ) (P : TxnId → Coordinator → Type 0) (T : Body → Type 0) (s : Server) (v : ValidateRequest) (entry : Entry) (txn : Transaction) → IsValid sc → IsSoundServer sc s → ServerTrusted sc facts place T s
    → IsClosed sc P T → T (body.Validate v) → StapleFits sc facts place v.txn v.staple → Each (IsPublished sc facts place) v.want → entry_at s v.txn ≡ Some entry → entry.epoch ≡ v.epoch → slice_get sc.txns v.txn.0 ≡ Some txn → IsShowing sc P s v
    → RowTrusts sc facts place T (shows_on sc (with_wants s v.want) v entry txn)
shows_trusts sc facts place P T s v entry txn valid sound h closed t fits published found epoch there showing =
    let now = with_wants s v.want in
    let after : ServerFits sc facts place now = learnt_fits sc facts place s v.want h.fits published in
    let k : IsSoundEntry sc s.server v.txn entry = sound.entries v.txn.0 entry found in
    let verdicts = verdicts_on sc now txn v.staple v.want entry.deeds in
    let right : Each (Right sc facts place v.txn) verdicts = rights_of sc facts place now v.txn txn v.staple v.want entry.deeds valid after published there fits k.deeds in
    let said = body.Verdicts (record { txn = v.txn; turn = v.turn; verdicts = Some verdicts }) in
    let timely : T said = closed (body.Validate v) said (record { txn = v.txn; turn = v.turn })
    (record {
      asked = record { txn = v.txn; turn = v.turn };
      asked_is = refl;
      reply_is = refl;
      same_txn = refl;
      timely = λ c sent again here t unsure. record { past = (t unsure).past; now = λ same. show_now sc now c.phase v txn entry.deeds (λ undecided. showing entry found epoch c here undecided same) ((t unsure).now same) };
    }) t in
    record { fits = record { known = after.known }; keeps = h.keeps; forces = tt; says = (right, tt); timely = (timely, tt) }

-- or what it did was lost
loses_trusts : (sc : Scenario) (facts : List Fact) (place : ℕ) (P : TxnId → Coordinator → Type 0) (T : Body → Type 0) (s : Server) (v : ValidateRequest) → ServerTrusted sc facts place T s → IsClosed sc P T → T (body.Validate v)
    → RowTrusts sc facts place T (shows s v None)
loses_trusts sc facts place P T s v h closed t =
    let said = body.Verdicts (record { txn = v.txn; turn = v.turn; verdicts = None }) in
    let timely : T said = closed (body.Validate v) said (record { txn = v.txn; turn = v.turn })
    (record {
      asked = record { txn = v.txn; turn = v.turn };
      asked_is = refl;
      reply_is = refl;
      same_txn = refl;
      timely = λ c sent again here t unsure. record { past = (t unsure).past; now = λ same. tt };
    }) t in
    record { fits = h.fits; keeps = h.keeps; forces = tt; says = (tt, tt); timely = (timely, tt) }

-- ---- the end of a transaction

-- a letter that says nothing of authorisation fits, and is timely if it answers a request
record LetterTrusts (sc : Scenario) (facts : List Fact) (place : ℕ) (T : Body → Type 0) (letter : Letter) : Type 0 where
  says : BodyFits sc facts place place letter.body
  timely : IfSome (stamp_of letter.body) (λ (stamped : Stamp). T letter.body)

no_now : (awaited : Phase) (why : No) → VoteNow awaited (vote.No why)
no_now (phase.Checking over round staple) why = (tt, tt, tt)
no_now phase.Idle why = tt
no_now (phase.Stapling number) why = tt
no_now (phase.Querying number staple) why = tt
no_now (phase.Probing number) why = tt
no_now (phase.Asking over round) why = tt
no_now (phase.Reading over round) why = tt
no_now (phase.Voting awaited) why = tt
no_now phase.VoteProbing why = tt
no_now (phase.Ending ended awaited) why = tt

-- a vote NO answers the request to prepare
no_letter_trusts : (sc : Scenario) (facts : List Fact) (place : ℕ) (P : TxnId → Coordinator → Type 0) (T : Body → Type 0) (s : Server) (p : PrepareRequest) (why : No) → IsClosed sc P T → T (body.Prepare p) → LetterTrusts sc facts place T (no_letter s p why)
no_letter_trusts sc facts place P T s p why closed t =
    record {
      says = tt;
      timely = closed (body.Prepare p) (no_letter s p why).body (record { txn = p.txn; turn = p.turn })
          (record {
            asked = record { txn = p.txn; turn = p.turn };
            asked_is = refl;
            reply_is = refl;
            same_txn = refl;
            timely = λ c sent place here t unsure. record { past = (t unsure).past; now = λ e. no_now c.phase why };
          }) t;
    }

ends_trusts : (sc : Scenario) (facts : List Fact) (place : ℕ) (T : Body → Type 0) (s : Server) (d : Settled) (letter : Letter) → ServerTrusted sc facts place T s → LetterTrusts sc facts place T letter → RowTrusts sc facts place T (closes s d letter)
ends_trusts sc facts place T s d letter h l =
    record {
      fits = knows_as sc facts place s (closes s d letter).state (ended_known s.store d.txn d.outcome) h.fits;
      keeps = placed_emptied (λ (n : ℕ) (entry : Entry). IsKept (IsTrusted sc facts place T) (record { 0 = n }) entry) s.entries d.txn.0 h.keeps;
      forces = tt;
      says = (l.says, tt);
      timely = (l.timely, tt);
    }

-- ---- Push

learns_trusts : (sc : Scenario) (facts : List Fact) (place : ℕ) (T : Body → Type 0) (s : Server) (push : PushNotice) → ServerTrusted sc facts place T s → IsPublished sc facts place (push.admin, push.version)
    → RowTrusts sc facts place T (learns s push)
learns_trusts sc facts place T s push h new =
    record {
      fits = record {
        known = λ admin within.
            known_most s.store push.admin admin push.version (newest sc admin place facts) (h.fits.known admin within)
            (λ same. subst (λ (a : AdminId). push.version.0 ≤ newest sc a place facts) (ap admin_number same) new);
      };
      keeps = h.keeps;
      forces = tt;
      says = tt;
      timely = tt;
    }

-- ---- all mails

-- what is known once a transaction's wants are learnt is of as many administrators as before
wants_long : (store : Contents) (want : List (AdminId × Version)) → length (with_versions store want).known ≡ length store.known
wants_long store [] = refl
wants_long store (wanted ∷ want) = wants_long (with_version store wanted.0 wanted.1) want ∙ set_long store.known wanted.0.0 (greater (newest_in store wanted.0) wanted.1)

versions_long : (admins : List Admin) (versions : List Version) → AreVersionsOf admins versions → length versions ≡ length admins
versions_long [] [] h = refl
versions_long (admin ∷ admins) (version ∷ versions) h = let rest = versions_long admins versions h.1 in omega (arith, rest)
versions_long [] (version ∷ versions) h = absurd h
versions_long (admin ∷ admins) [] h = absurd h

-- what a row leaves is trusted, and knows a version of each administrator
pub record RowKeeps (sc : Scenario) (facts : List Fact) (place : ℕ) (T : Body → Type 0) (effect : Effect Server) : Type 0 where
  pub trusts : RowTrusts sc facts place T effect
  pub knows : length effect.state.store.known ≡ length sc.admins

-- of locks it says nothing
relocks : (sc : Scenario) (facts : List Fact) (place : ℕ) (T : Body → Type 0) (effect : Effect Server) (locks : Table) → RowTrusts sc facts place T effect → RowTrusts sc facts place T (with_locks effect locks)
relocks sc facts place T effect locks k = record { fits = record { known = k.fits.known }; keeps = k.keeps; forces = k.forces; says = k.says; timely = k.timely }

-- every row of a server on receipt of a mail
pub server_row_trusts : (sc : Scenario) (facts : List Fact) (place : ℕ) (P : TxnId → Coordinator → Type 0) (T : Body → Type 0) (s : Server) (mail : Mail) → IsValid sc → AreRightWaits sc s → IsSoundServer sc s
    → IsSoundBody sc (actor.Server s.server) mail.letter.body → ServerTrusted sc facts place T s → BodyFits sc facts place mail.sent mail.letter.body → NamedMail sc s.server mail.letter.body → RanMail s mail.letter.body
    → ShowingMail sc P s mail.letter.body → IsClosed sc P T → T mail.letter.body → RowTrusts sc facts place T (server_row sc s mail)
server_row_trusts sc facts place P T s mail valid waits_rightly sound m h f named ran_before showing closed t =
    (server_by_locks sc s mail (RowKeeps sc facts place T) waits_rightly
    (record {
      ignored = record { trusts = ignores_trusts_in_server sc facts place T s h; knows = knows };
      ran = λ q query entry value proof k granted running.
          let deed = deed_of q.query query value in
          let asking = after_asking s q query entry in
          let now = pinned sc asking q deed in
          let here = asked_now q query entry value k in
          record {
            trusts = runs_trusts sc facts place P T now q query entry value proof valid (record { fits = pinned_fits sc facts place asking (admin_of sc deed.item) q.pin (record { known = h.fits.known }) here.pinned_low; keeps = h.keeps })
                (pinned_here sc facts place asking q deed valid knows here running.none_newer) (record { proof_is = running.proof_is; holds = running.holds }) closed (subst T k.said_is t) (run_kept sc facts place T s mail q query entry value h k);
            knows = ap length (kept_known now.store q query value) ∙ (pinned_long asking (admin_of sc deed.item) q.pin ∙ knows);
          };
      denied = λ q query entry value verdict k granted denied.
          let deed = deed_of q.query query value in
          let asking = after_asking s q query entry in
          let now = pinned sc asking q deed in
          let here = asked_now q query entry value k in
          let fits = pinned_fits sc facts place asking (admin_of sc deed.item) q.pin (record { known = h.fits.known }) here.pinned_low in
          let runs_here = pinned_here sc facts place asking q deed valid knows here denied.none_newer in
          record {
            trusts = ending_trusts sc facts place P T now q entry (answer.Denied verdict) (record { fits = fits; keeps = h.keeps }) (run_kept sc facts place T s mail q query entry value h k)
                (proof_right sc facts place now q deed verdict valid fits runs_here denied.proof_is) closed (subst T k.said_is t)
                (λ c. denied_now sc facts place now c c.phase q entry.epoch deed verdict runs_here (record { proof_is = denied.proof_is; fails = denied.fails }));
            knows = pinned_long asking (admin_of sc deed.item) q.pin ∙ knows;
          };
      outdated = λ q query entry value newer k granted e.
          let deed = deed_of q.query query value in
          let here = asked_now q query entry value k in
          record {
            trusts = relocks sc facts place T (answers_with s q entry (answer.Newer newer)) (after_asking s q query entry).locks
                (ending_trusts sc facts place P T s q entry (answer.Newer newer) h (run_kept sc facts place T s mail q query entry value h k) (newer_fits sc facts place s q deed newer valid h.fits here e) closed (subst T k.said_is t)
                (λ c. newer_now sc facts place s.server s c c.phase q entry.epoch deed newer here e));
            knows = knows;
          };
      waited = λ q query entry value k granted.
          let old = run_kept sc facts place T s mail q query entry value h k in
          let asked : BodyFits sc facts place mail.sent (body.Query q) = subst (BodyFits sc facts place mail.sent) k.said_is f in
          record {
            trusts = relocks sc facts place T (waits s q entry) (after_asking s q query entry).locks
                (entry_trusts sc facts place T s q.txn (record entry { waiting = Some q }) [] h (record { answers = old.answers; waiting = record { fits = λ sent. asked; timely = subst T k.said_is t }; ballot = old.ballot }) tt tt);
            knows = knows;
          };
      died = λ q query entry value other k dying.
          record {
            trusts = relocks sc facts place T (answers_with s q entry (answer.Died other)) (after_asking s q query entry).locks
                (ending_trusts sc facts place P T s q entry (answer.Died other) h (run_kept sc facts place T s mail q query entry value h k) tt closed (subst T k.said_is t) (λ c. died_now sc c c.phase q entry.epoch other));
            knows = knows;
          };
      restarted = λ q k. record { trusts = answers_trusts sc facts place T s q (reply_of q s.epoch answer.Restarted) h (restarted_trusted sc facts place P T s q closed (subst T k.said_is t)); knows = knows };
      answered = λ q entry given k.
          record {
            trusts = answers_trusts sc facts place T s q given h
                (each_found (λ (d : DoneReply). IsTrusted sc facts place T (body.Done d)) (λ (d : DoneReply). d.query == q.query) entry.answers given (h.keeps q.txn.0 entry k.found).answers k.given_is);
            knows = knows;
          };
      voted = λ p entry verdicts k.
          let asked : BodyFits sc facts place mail.sent (body.Prepare p) = subst (BodyFits sc facts place mail.sent) k.said_is f in
          record {
            trusts = votes_trusts sc facts place P T s p entry verdicts valid sound h closed (subst T k.said_is t) asked.0 asked.1 k.found (subst (NamedMail sc s.server) k.said_is named)
                (subst (RanMail s) k.said_is ran_before entry k.found (eqb-true entry.epoch p.epoch k.same_epoch)) k.evaluated;
            knows = wants_long s.store p.want ∙ knows;
          };
      shown = λ v entry txn k.
          let asked : BodyFits sc facts place mail.sent (body.Validate v) = subst (BodyFits sc facts place mail.sent) k.said_is f in
          record {
            trusts = shows_trusts sc facts place P T s v entry txn valid sound h closed (subst T k.said_is t) asked.0 asked.1 k.found (eqb-true entry.epoch v.epoch k.same_epoch) k.declared (subst (ShowingMail sc P s) k.said_is showing);
            knows = wants_long s.store v.want ∙ knows;
          };
      lost_verdicts = λ v k. record { trusts = loses_trusts sc facts place P T s v h closed (subst T k.said_is t); knows = knows };
      voted_again = λ p entry cast k. record { trusts = votes_again_trusts sc facts place T s p entry cast h k.found k.ballot_is; knows = knows };
      refused = λ p entry number value k.
          record {
            trusts = ends_trusts sc facts place T s (refused_as p _) (no_letter s p _) h (no_letter_trusts sc facts place P T s p _ closed (subst T k.said_is t));
            knows = ap length (ended_known s.store p.txn outcome.Abort) ∙ knows;
          };
      lost = λ p k.
          record {
            trusts = ends_trusts sc facts place T s (refused_as p _) (no_letter s p _) h (no_letter_trusts sc facts place P T s p _ closed (subst T k.said_is t));
            knows = ap length (ended_known s.store p.txn outcome.Abort) ∙ knows;
          };
      refused_again = λ p settled why k.
          let l = no_letter_trusts sc facts place P T s p why closed (subst T k.said_is t) in
          record { trusts = record { fits = h.fits; keeps = h.keeps; forces = tt; says = (l.says, tt); timely = (l.timely, tt) }; knows = knows };
      settled = λ d k. record { trusts = ends_trusts sc facts place T s (settled_as d) (ack_letter s d.txn) h (record { says = tt; timely = tt }); knows = ap length (ended_known s.store d.txn d.outcome) ∙ knows };
      acknowledged = λ d settled k. record { trusts = record { fits = h.fits; keeps = h.keeps; forces = tt; says = (tt, tt); timely = (tt, tt) }; knows = knows };
      pushed = λ push k.
          record { trusts = learns_trusts sc facts place T s push h (subst (BodyFits sc facts place mail.sent) k.said_is f); knows = set_long s.store.known push.admin.0 (greater (newest_in s.store push.admin) push.version) ∙ knows };
      passed = λ effect grant first none now. record { trusts = relocks sc facts place T effect (without_grant effect.state.locks) now.trusts; knows = now.knows };
      resumed = λ effect grant q query entry value proof k running now.
          let deed = deed_of q.query query value in
          record {
            trusts = relocks sc facts place T (followed_by effect (resuming (pinned sc effect.state q deed) q query entry value proof)) (without_grant effect.state.locks)
                (resumes_trusts sc facts place P T s effect grant q query entry value proof valid closed now.knows k running now.trusts);
            knows = ap length (kept_known (pinned sc effect.state q deed).store q query value) ∙ (pinned_long effect.state (admin_of sc deed.item) q.pin ∙ now.knows);
          };
      resumed_denied = λ effect grant q query entry value verdict k denied now.
          let deed = deed_of q.query query value in
          record {
            trusts = relocks sc facts place T (followed_by effect (refusing (pinned sc effect.state q deed) q entry (answer.Denied verdict))) (without_grant effect.state.locks)
                (resumes_denied_trusts sc facts place P T s effect grant q query entry value verdict valid closed now.knows k denied now.trusts);
            knows = pinned_long effect.state (admin_of sc deed.item) q.pin ∙ now.knows;
          };
      resumed_outdated = λ effect grant q query entry value newer k e now.
          record {
            trusts = relocks sc facts place T (followed_by effect (refusing effect.state q entry (answer.Newer newer))) (without_grant effect.state.locks)
                (resumes_outdated_trusts sc facts place P T s effect grant q query entry value newer valid closed k e now.trusts);
            knows = now.knows;
          };
    })).trusts
  where
    knows : length s.store.known ≡ length sc.admins
    knows = versions_long sc.admins s.store.known sound.known

    -- a query that asks for its lock
    asked_now : (q : QueryRequest) (query : Query) (entry : Entry) (value : ℤ) → IsAsking sc s mail q query entry value → IsAskedHere sc facts place s.server q (deed_of q.query query value)
    asked_now q query entry value k =
        let asked : BodyFits sc facts place mail.sent (body.Query q) = subst (BodyFits sc facts place mail.sent) k.said_is f in
        let is_sound : IsSoundBody sc (actor.Server s.server) (body.Query q) = subst (IsSoundBody sc (actor.Server s.server)) k.said_is m in
        asked_here sc facts place s.server q (deed_of q.query query value) asked is_sound.txn refl (deed_sound sc s q query value is_sound k.asked_is)
