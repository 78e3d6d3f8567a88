-- The server's row keeps its state sound, forces a sound record, and sends sound letters.
use Rattle.std.specs.List.{list_all, list_any}
use Rattle.std.proofs.Common.{Bool, IfSome, List, MatchOption, None, Option, Some, [], ap, arith, false, if◌then◌else◌, is_none, is_some, length, nat_lt, not, option_map, refl, slice_get, slice_set, subst, suc, sym, true, unwrap_or, zero, ℕ, ℤ, ⊎_elim, ◌<◌, ◌==◌, ◌||◌, ◌∙◌, ◌∷◌, ◌≡◌}
use Rattle.std.proofs.lemmas.Bool.{and_parts, eqb-true}
use Rattle.std.proofs.lemmas.Option.{same_Some, slice_get_within}
use Rattle.tp_types.specs.Effect.{Effect, ignores, sends}
use Rattle.std.specs.Option.{option_flatten}
use Rattle.tp_lock.specs.Rule.{without_grant}
use Rattle.tp_lock.specs.Table.{Table}
use Rattle.tp_lock.specs.declared.entry.Asked.TheVariants as asked
use Rattle.tp_lock.specs.declared.entry.Asked.{Asked}
use Rattle.tp_lock.specs.declared.entry.Grant.{Grant}
use Rattle.tp_lock.specs.declared.entry.LockEntry.{LockEntry}
use Rattle.tp_model.specs.Authorisation.{action_of, policy_at}
use Rattle.tp_model.specs.Credentials.{is_among, is_presented}
use Rattle.tp_model.specs.Ids.{same_cred}
use Rattle.tp_model.specs.Queries.{item_of}
use Rattle.tp_model.specs.Words.actor
use Rattle.tp_model.specs.Words.answer
use Rattle.tp_model.specs.Words.body
use Rattle.tp_model.specs.Words.no
use Rattle.tp_model.specs.Words.{Admin, AdminId, Answer, Body, CredId, DecideRequest, Deed, DoneReply, Item, ItemId, Letter, Mail, Newer, No, PrepareRequest, PushNotice, Query, QueryRequest, Scenario, ServerId, Settled, Staple, Transaction, TxnId, ValidateRequest, Verdict, Version}
use Rattle.tp_types.proofs.EachLemmas.{each_append, each_found, each_get, each_map, each_more, placed_emptied, placed_set, some_if_not_none}
use Rattle.tp_runs.proofs.basics.Locks.{all_added, released_locks, requested_locks, stands_in_the_way}
use Rattle.tp_runs.proofs.basics.Stores.{ended_each, ended_known, kept_each, kept_known, learnt_each}
use Rattle.tp_runs.proofs.basics.Uses.{uses_once}
use Rattle.tp_runs.proofs.basics.Verdicts.{proved_at, unproved_at}
use Rattle.tp_runs.proofs.basics.Versions.{used_by}
use Rattle.tp_runs.proofs.ids.Valid.{IsValid, IsValidItem}
use Rattle.tp_server.proofs.RightVerdicts.{uses_presented}
use Rattle.tp_server.proofs.Rows.{AreRightWaits, IsAsking, IsDenied, IsEvaluated, IsFirstHere, IsFurther, IsResumed, IsRunning, Stapled, Unstapled, refusing, resuming, server_by_locks, unwaiting, with_locks}
use Rattle.tp_model.specs.Deeds.{deed_of}
use Rattle.tp_runs.specs.Sound.{AreCreds, AreSoundVerdicts, AreVersions, AreVersionsOf, AreWanted, HasVerdict, HaveOwners, IsItemOf, IsQueryAt, IsQueryOf, IsReasonOf, IsSettledOf, IsSoundAnswer, IsSoundBody, IsSoundDeedAt, IsSoundDone, IsSoundEntry, IsSoundLetter, IsSoundNewer, IsSoundNo, IsSoundProof, IsSoundQuery, IsSoundRefusal, IsSoundServer, IsSoundServerRecord, IsSoundSettled, IsSoundVerdict, IsSoundWait, IsVersion, IsVersionOf, IsWriteOf, ProvesEach}
use Rattle.tp_types.specs.Each.{Each}
use Rattle.tp_machine.specs.Named.{IsAdmin, IsCred, IsTxn}
use Rattle.tp_scheme.specs.Moves.{proves_each}
use Rattle.tp_server.specs.declared.server.Ballot.{Ballot}
use Rattle.tp_server.specs.declared.server.Entry.{Entry}
use Rattle.tp_server.specs.Row.{ack_letter, after_asking, answers, answers_with, asked_query, closes, completes, entry_after, followed_by, learns, lock_answer, newer_known, no_letter, pinned, ran_as, refused_as, reply, reply_of, server_row, settled_as, shows, shows_on, verdict_at, votes, waits, yes_letter}
use Rattle.tp_server.specs.State.{Server}
use Rattle.tp_server.specs.Verdicts.{admin_of, known_with, verdict_on, verdicts_on, version_known, version_used, with_versions, with_wants}
use Rattle.tp_store.proofs.OutsideLemmas.{first_is_least}
use Rattle.tp_store.specs.Contents.{Contents}
use Rattle.tp_store.specs.Laws.{IsLeastOutside}
use Rattle.tp_recover.specs.Kept.{version_at, with_all_told, with_told}
use Rattle.tp_store.specs.Rule.{first_outside_in, greater, with_version, writes_of}
use Rattle.tp_store.specs.Writes.{is_outside}

-- what a server's act leaves is sound: its state, still of the same server, what it forces and what it sends
pub record IsSoundServerEffect (sc : Scenario) (s : Server) (effect : Effect Server) : Type 0 where
  pub same_server : effect.state.server ≡ s.server
  pub state_is : IsSoundServer sc effect.state
  pub forces : IfSome effect.reaction.append (IsSoundServerRecord sc s.server)
  pub sends_only : Each (IsSoundLetter sc) effect.reaction.letters

ignores_sound_in_server : (sc : Scenario) (s : Server) → IsSoundServer sc s → IsSoundServerEffect sc s (ignores s)
ignores_sound_in_server sc s h = record { same_server = refl; state_is = h; forces = tt; sends_only = tt }

-- a server's letter to the coordinator of an existing transaction
reply_sound : (sc : Scenario) (s : Server) (txn : TxnId) (said : Body) → IsSoundServer sc s → IsTxn sc txn → IsSoundBody sc (actor.Coordinator txn) said
    → IsSoundRefusal sc (actor.Server s.server) said → IsSoundLetter sc (reply s txn said)
reply_sound sc s txn said h exists says refuses = record { from_is_actor = h.exists; to_is_actor = exists; says = says; refuses = refuses }

-- ---- versions and verdicts

-- of sound versions the one of an administrator that exists
pub version_of : (admins : List Admin) (versions : List Version) (n : ℕ) (default : Version) → AreVersionsOf admins versions → n < length admins
    → (declared : Admin) × (slice_get admins n ≡ Some declared) × IsVersionOf declared (unwrap_or (slice_get versions n) default)
version_of [] versions n default h within = absurd (omega arith)
version_of (admin ∷ admins) [] n default h within = absurd h
version_of (admin ∷ admins) (version ∷ versions) zero default h within = (admin, refl, h.0)
version_of (admin ∷ admins) (version ∷ versions) (suc n) default h within = version_of admins versions n default h.1 (omega arith)

-- the version that a sound server knows of an administrator that exists
pub known_version : (sc : Scenario) (s : Server) (admin : AdminId) → IsSoundServer sc s → IsAdmin sc admin → IsVersion sc admin (version_known s admin)
known_version sc s admin h within =
    let found = version_of sc.admins s.store.known admin.0 (record { 0 = 1 }) h.known within in
    record { declared = found.0; declared_is = found.1; in_library = found.2 }

greater_of : (declared : Admin) (one other : Version) → IsVersionOf declared one → IsVersionOf declared other → IsVersionOf declared (greater one other)
greater_of declared one other h k = (omega (arith, h.0), omega (arith, h.1, k.1))

pub versions_set : (admins : List Admin) (versions : List Version) (n : ℕ) (new : Version) → AreVersionsOf admins versions → ((declared : Admin) → slice_get admins n ≡ Some declared → IsVersionOf declared new)
    → AreVersionsOf admins (slice_set versions n new)
versions_set [] [] n new h of = tt
versions_set [] (version ∷ versions) n new h of = absurd h
versions_set (admin ∷ admins) [] n new h of = absurd h
versions_set (admin ∷ admins) (version ∷ versions) zero new h of = (of admin refl, h.1)
versions_set (admin ∷ admins) (version ∷ versions) (suc n) new h of = (h.0, versions_set admins versions n new h.1 of)

-- known versions stay sound as one is told that exists
pub told_more : (sc : Scenario) (newest : List Version) (admin : AdminId) (version : Version) → AreVersions sc newest → IsVersion sc admin version → AreVersions sc (with_told newest admin.0 version)
told_more sc newest admin version h v =
    let known = version_at newest admin.0 in
    let old = version_of sc.admins newest admin.0 (record { 0 = 1 }) h (slice_get_within sc.admins admin.0 v.declared v.declared_is) in
    versions_set sc.admins newest admin.0 (greater known version) h
    (λ declared e.
    let one : old.0 ≡ declared = same_Some old.0 declared (sym old.1 ∙ e) in
    let other : v.declared ≡ declared = same_Some v.declared declared (sym v.declared_is ∙ e) in
    greater_of declared known version (subst (λ (d : Admin). IsVersionOf d known) one old.2) (subst (λ (d : Admin). IsVersionOf d version) other v.in_library))

-- and as one of each is told
pub all_told_more : (admins : List Admin) (newest told : List Version) → AreVersionsOf admins newest → AreVersionsOf admins told → AreVersionsOf admins (with_all_told newest told)
all_told_more [] [] told h k = tt
all_told_more [] (known ∷ newest) told h k = absurd h
all_told_more (admin ∷ admins) [] told h k = absurd h
all_told_more (admin ∷ admins) (known ∷ newest) [] h k = absurd k
all_told_more (admin ∷ admins) (known ∷ newest) (version ∷ told) h k = (greater_of admin known version h.0 k.0, all_told_more admins newest told h.1 k.1)

-- what is known stays sound as a version is learnt that exists
known_more : (sc : Scenario) (store : Contents) (admin : AdminId) (version : Version) → AreVersions sc store.known → IsVersion sc admin version → AreVersions sc (with_version store admin version).known
known_more sc store admin version h v = told_more sc store.known admin version h v

-- what is among credentials that exist exists
among_exists : (sc : Scenario) (creds : List CredId) (cred : CredId) → AreCreds sc creds → is_among creds cred ≡ true → IsCred sc cred
among_exists sc [] cred h e = absurd (cc)
among_exists sc (other ∷ creds) cred h e = by_same (same_cred cred other) refl (λ found. among_exists sc creds cred h.1 found) e
  where
    by_same : (b : Bool) → same_cred cred other ≡ b → (is_among creds cred ≡ true → IsCred sc cred) → (b || is_among creds cred) ≡ true → IsCred sc cred
    by_same true same later found = subst (λ (n : ℕ). n < length sc.creds) (sym (eqb-true cred.0 other.0 same)) h.0
    by_same false apart later found = later found

presented_exist : (sc : Scenario) (txn : Transaction) (uses : List CredId) → AreCreds sc txn.creds → list_all (is_presented txn) uses ≡ true → AreCreds sc uses
presented_exist sc txn [] h e = tt
presented_exist sc txn (cred ∷ uses) h e =
    let parts = and_parts (is_presented txn cred) (list_all (is_presented txn) uses) e in
    (among_exists sc txn.creds cred h parts.0, presented_exist sc txn uses h parts.1)

-- what is known stays sound as versions are learnt that exist
learnt_known : (sc : Scenario) (store : Contents) (want : List (AdminId × Version)) → AreVersions sc store.known → AreWanted sc want → AreVersions sc (with_versions store want).known
learnt_known sc store [] h w = h
learnt_known sc store (wanted ∷ want) h w = learnt_known sc (with_version store wanted.0 wanted.1) want (known_more sc store wanted.0 wanted.1 h w.0) w.1

pub learnt_sound : (sc : Scenario) (s : Server) (want : List (AdminId × Version)) → IsSoundServer sc s → AreWanted sc want → IsSoundServer sc (with_wants s want)
learnt_sound sc s want h w =
    record { exists = h.exists; known = learnt_known sc s.store want h.known w; writes = learnt_each (IsWriteOf sc s.server) s.store want h.writes; settled = h.settled; entries = h.entries; locks = h.locks }

-- the verdict on a deed names its query, with its server and its administrator
pub verdict_query : (sc : Scenario) (at : ServerId) (txn : TxnId) (deed : Deed) → IsSoundDeedAt sc at txn deed → IsQueryAt sc txn deed.query at (admin_of sc deed.item)
verdict_query sc at txn deed d =
    record {
      asked = d.sound.asked;
      asked_is = d.sound.asked_is;
      kept = record {
        declared = d.kept.declared;
        declared_is = subst (λ (item : ItemId). slice_get sc.items item.0 ≡ Some d.kept.declared) d.sound.item_is d.kept.declared_is;
        server_is = d.kept.server_is;
      };
      admin_is = sym (ap (λ (found : Option Item). unwrap_or (option_map (λ (i : Item). i.admin) found) (record { 0 = 0 })) d.kept.declared_is);
    }

pub verdict_sound : (sc : Scenario) (s : Server) (txn : TxnId) (presenting : Transaction) (staple : Staple) (want : List (AdminId × Version)) (deed : Deed) → IsValid sc → IsSoundServer sc s → AreWanted sc want
    → slice_get sc.txns txn.0 ≡ Some presenting → IsSoundDeedAt sc s.server txn deed → IsSoundVerdict sc txn (verdict_on sc s presenting staple want deed)
verdict_sound sc s txn presenting staple want deed valid h w there d =
    let item_is : IsValidItem sc d.kept.declared = each_get (IsValidItem sc) sc.items deed.item.0 d.kept.declared valid.items d.kept.declared_is in
    let admin_is : d.kept.declared.admin ≡ admin_of sc deed.item =
    sym (ap (λ (found : Option Item). unwrap_or (option_map (λ (i : Item). i.admin) found) (record { 0 = 0 })) d.kept.declared_is) in
    record {
      query = verdict_query sc s.server txn deed d;
      version = subst (λ (admin : AdminId). IsVersion sc admin (version_used s want admin)) admin_is
          (used_by (IsVersion sc) s want d.kept.declared.admin w (known_version sc s d.kept.declared.admin h item_is.admin));
      uses = presented_exist sc presenting _ (each_get (λ (t : Transaction). AreCreds sc t.creds) sc.txns txn.0 presenting valid.creds there)
          (uses_presented sc presenting staple deed.query (policy_at sc (admin_of sc deed.item) (version_used s want (admin_of sc deed.item))) _ refl);
      once = uses_once sc presenting staple deed.query (policy_at sc (admin_of sc deed.item) (version_used s want (admin_of sc deed.item))) _ refl;
    }

-- ---- Query

-- an entry at which a query runs is sound
run_entry_in_ids : (sc : Scenario) (s : Server) (mail : Mail) (q : QueryRequest) (query : Query) (entry : Entry) (value : ℤ) → IsSoundServer sc s → IsAsking sc s mail q query entry value
    → IsSoundEntry sc s.server q.txn entry
run_entry_in_ids sc s mail q query entry value h k =
    ⊎_elim
    (λ (first : IsFirstHere s mail.sent q entry). subst (IsSoundEntry sc s.server q.txn) (sym first.entry_is) (record { answers = tt; waiting = tt; deeds = tt; ballot = tt }))
    (λ (further : IsFurther s q entry). h.entries q.txn.0 entry further.found) k.place

-- an answer to a query
done_sound : (sc : Scenario) (s : Server) (q : QueryRequest) (epoch : ℕ) (given : Answer) → IsSoundQuery sc (actor.Server s.server) q → IsSoundAnswer sc q.txn given → (ProvesEach sc q.txn → HasVerdict given)
    → IsSoundDone sc (actor.Coordinator q.txn) (reply_of q epoch given)
done_sound sc s q epoch given m sound proved =
    record { txn = m.txn; goes_to = refl; query = record { asked = m.asked; asked_is = m.asked_is }; answer_is_sound = sound; proved = proved }

-- what a query does at its server
pub deed_sound : (sc : Scenario) (s : Server) (q : QueryRequest) (query : Query) (value : ℤ) → IsSoundQuery sc (actor.Server s.server) q → asked_query sc q ≡ Some query → IsSoundDeedAt sc s.server q.txn (deed_of q.query query value)
deed_sound sc s q query value m query_is =
    let same : query ≡ m.asked = same_Some query m.asked (sym query_is ∙ m.asked_is) in
    let at_is : m.at ≡ s.server = cc in
    let item_is : item_of m.asked ≡ item_of query = ap item_of (sym same) in
    record {
      sound = record { asked = m.asked; asked_is = m.asked_is; item_is = sym item_is; action_is = ap action_of same };
      kept = subst (IsItemOf sc s.server) item_is (subst (λ (at : ServerId). IsItemOf sc at (item_of m.asked)) at_is m.kept);
    }

-- the administrator of its item
admin_asked_is : (sc : Scenario) (s : Server) (q : QueryRequest) (query : Query) (m : IsSoundQuery sc (actor.Server s.server) q) → asked_query sc q ≡ Some query → admin_of sc (item_of query) ≡ m.kept.declared.admin
admin_asked_is sc s q query m query_is =
    let same : query ≡ m.asked = same_Some query m.asked (sym query_is ∙ m.asked_is) in
    ap (λ (x : Query). admin_of sc (item_of x)) same ∙ ap (λ (found : Option Item). unwrap_or (option_map (λ (i : Item). i.admin) found) (record { 0 = 0 })) m.kept.declared_is

-- the version that it pins, if any, is one of that administrator
pin_there : (sc : Scenario) (s : Server) (q : QueryRequest) (query : Query) → IsSoundQuery sc (actor.Server s.server) q → asked_query sc q ≡ Some query → IfSome q.pin (IsVersion sc (admin_of sc (item_of query)))
pin_there sc s q query m query_is = subst (λ (admin : AdminId). IfSome q.pin (IsVersion sc admin)) (sym (admin_asked_is sc s q query m query_is)) m.pin

pin_known : (sc : Scenario) (store : Contents) (admin : AdminId) (pin : Option Version) → AreVersions sc store.known → IfSome pin (IsVersion sc admin) → AreVersions sc (known_with store admin pin)
pin_known sc store admin None h p = h
pin_known sc store admin (Some version) h p = known_more sc store admin version h p

-- so the server that has learnt it is sound
pub pinned_sound : (sc : Scenario) (s : Server) (q : QueryRequest) (query : Query) (value : ℤ) → IsSoundServer sc s → IsSoundQuery sc (actor.Server s.server) q → asked_query sc q ≡ Some query → IsSoundServer sc (pinned sc s q (deed_of q.query query value))
pinned_sound sc s q query value h m query_is =
    record {
      exists = h.exists;
      known = pin_known sc s.store (admin_of sc (item_of query)) q.pin h.known (pin_there sc s q query m query_is);
      writes = h.writes;
      settled = h.settled;
      entries = h.entries;
      locks = h.locks;
    }

-- what is left by it is left by the server before it learnt
unpinned_sound : (sc : Scenario) (s : Server) (q : QueryRequest) (deed : Deed) (effect : Effect Server) → IsSoundServerEffect sc (pinned sc s q deed) effect → IsSoundServerEffect sc s effect
unpinned_sound sc s q deed effect e = record { same_server = e.same_server; state_is = e.state_is; forces = e.forces; sends_only = e.sends_only }

-- a newer version than the pinned one, which the server knows, exists, and so does the pinned one
newer_sound : (sc : Scenario) (s : Server) (admin : AdminId) (pin : Option Version) (newer : Newer) → IsSoundServer sc s → IfSome pin (IsVersion sc admin) → newer_known s admin pin ≡ Some newer → IsSoundNewer sc newer
newer_sound sc s admin None newer h p e = absurd (cc)
newer_sound sc s admin (Some pin) newer h p e = by_test (nat_lt pin.0 (version_known s admin).0) e
  where
    by_test : (b : Bool) → (if b then Some (record { admin = admin; used = pin; found = version_known s admin }) else None) ≡ Some newer → IsSoundNewer sc newer
    by_test true f =
        subst (IsSoundNewer sc) (same_Some (record { admin = admin; used = pin; found = version_known s admin }) newer f)
        (record { used = p; found = known_version sc s admin h (slice_get_within sc.admins admin.0 p.declared p.declared_is) })
    by_test false f = absurd (cc)

-- the verdict on it is sound
verdict_at_sound : (sc : Scenario) (s : Server) (q : QueryRequest) (deed : Deed) (verdict : Verdict) → IsValid sc → IsSoundServer sc s → IsSoundDeedAt sc s.server q.txn deed → verdict_at sc s q deed ≡ Some verdict
    → IsSoundVerdict sc q.txn verdict
verdict_at_sound sc s q deed verdict valid h d e =
    let p = proved_at sc s q deed verdict e in
    subst (IsSoundVerdict sc q.txn) p.verdict_is (verdict_sound sc s q.txn p.txn p.staple [] deed valid h tt p.txn_is d)

-- the proof of a query that runs is sound
ran_proof_sound : (sc : Scenario) (s : Server) (q : QueryRequest) (deed : Deed) (proof : Option Verdict) → IsValid sc → IsSoundServer sc s → IsSoundDeedAt sc s.server q.txn deed → verdict_at sc s q deed ≡ proof
    → IfSome proof (λ (verdict : Verdict). is_none verdict.rule ≡ false) → IfSome proof (IsSoundProof sc q.txn)
ran_proof_sound sc s q deed None valid h d e holds = tt
ran_proof_sound sc s q deed (Some verdict) valid h d e holds =
    record { sound = verdict_at_sound sc s q deed verdict valid h d e; has_rule = some_if_not_none verdict.rule (ap not holds) }

-- a transaction that proves each query is one of the scenario's
proving_there : (sc : Scenario) (txn : TxnId) → ProvesEach sc txn → (declared : Transaction) × (slice_get sc.txns txn.0 ≡ Some declared)
proving_there sc txn each = found (slice_get sc.txns txn.0) refl each
  where
    found : (declared : Option Transaction) → slice_get sc.txns txn.0 ≡ declared → option_map (λ (d : Transaction). proves_each d.scheme) declared ≡ Some true → (d : Transaction) × (slice_get sc.txns txn.0 ≡ Some d)
    found None e f = absurd (cc)
    found (Some declared) e f = (declared, e)

-- and it has one where each query is proved
ran_proved : (sc : Scenario) (s : Server) (q : QueryRequest) (deed : Deed) (proof : Option Verdict) → IsSoundQuery sc (actor.Server s.server) q → verdict_at sc s q deed ≡ proof → ProvesEach sc q.txn → is_some proof ≡ true
ran_proved sc s q deed (Some verdict) m e each = refl
ran_proved sc s q deed None m e each =
    let txn = proving_there sc q.txn each in
    let unstapled : q.staple ≡ None = unproved_at sc s q deed e txn.0 txn.1 in
    let stapled : is_some q.staple ≡ true = m.stapled each in
    absurd (let none : is_some q.staple ≡ false = ap (λ (staple : Option Staple). is_some staple) unstapled in cc)

-- a query runs, with its proof if it has one, which is true
proved_runs_sound : (sc : Scenario) (s : Server) (q : QueryRequest) (query : Query) (entry : Entry) (value : ℤ) (proof : Option Verdict) → IsValid sc → IsSoundServer sc s → IsSoundQuery sc (actor.Server s.server) q
    → asked_query sc q ≡ Some query → IsSoundEntry sc s.server q.txn entry → verdict_at sc s q (deed_of q.query query value) ≡ proof → IfSome proof (λ (verdict : Verdict). is_none verdict.rule ≡ false)
    → IsSoundServerEffect sc s (completes s q query entry (deed_of q.query query value) proof)
proved_runs_sound sc s q query entry value proof valid h m query_is old e holds =
    let deed = deed_of q.query query value in
    let done : IsSoundDeedAt sc s.server q.txn deed = deed_sound sc s q query value m query_is in
    let at_is : m.at ≡ s.server = cc in
    let given : IsSoundDone sc (actor.Coordinator q.txn) (reply_of q entry.epoch (ran_as deed proof)) =
    done_sound sc s q entry.epoch (ran_as deed proof) m (ran_proof_sound sc s q deed proof valid h done e holds) (λ each. ran_proved sc s q deed proof m e each) in
    record {
      same_server = refl;
      state_is = record {
        exists = h.exists;
        known = subst (AreVersions sc) (sym (kept_known s.store q query value)) h.known;
        writes = kept_each (IsWriteOf sc s.server) s.store q query value h.writes
            (record { query = record { asked = m.asked; asked_is = m.asked_is; kept = subst (λ (at : ServerId). IsItemOf sc at (item_of m.asked)) at_is m.kept }; item = done.kept });
        settled = h.settled;
        entries = placed_set (λ (n : ℕ) (found : Entry). IsSoundEntry sc s.server (record { 0 = n }) found) s.entries q.txn.0 (entry_after q entry deed proof) h.entries
            (record {
              answers = each_more (IsSoundDone sc (actor.Coordinator q.txn)) entry.answers _ old.answers given;
              waiting = old.waiting;
              deeds = each_append (IsSoundDeedAt sc s.server q.txn) entry.deeds (deed ∷ []) old.deeds (done, tt);
              ballot = old.ballot;
            });
        locks = h.locks;
      };
      forces = tt;
      sends_only = (reply_sound sc s q.txn (body.Done (reply_of q entry.epoch (ran_as deed proof))) h m.txn given tt, tt);
    }

-- so it does at a server that has learnt what it pins
runs_sound : (sc : Scenario) (s : Server) (q : QueryRequest) (query : Query) (entry : Entry) (value : ℤ) (proof : Option Verdict) → IsValid sc → IsSoundServer sc s → IsSoundQuery sc (actor.Server s.server) q
    → asked_query sc q ≡ Some query → IsSoundEntry sc s.server q.txn entry → IsRunning sc s q (deed_of q.query query value) proof
    → IsSoundServerEffect sc s (completes (pinned sc s q (deed_of q.query query value)) q query entry (deed_of q.query query value) proof)
runs_sound sc s q query entry value proof valid h m query_is old r =
    let deed = deed_of q.query query value in
    unpinned_sound sc s q deed (completes (pinned sc s q deed) q query entry deed proof)
    (proved_runs_sound sc (pinned sc s q deed) q query entry value proof valid (pinned_sound sc s q query value h m query_is) m query_is old r.proof_is r.holds)

-- the entry of a query that waits
waits_sound : (sc : Scenario) (s : Server) (q : QueryRequest) (entry : Entry) → IsSoundServer sc s → IsSoundQuery sc (actor.Server s.server) q → IsSoundEntry sc s.server q.txn entry → IsSoundServerEffect sc s (waits s q entry)
waits_sound sc s q entry h m old =
    record {
      same_server = refl;
      state_is = record {
        exists = h.exists;
        known = h.known;
        writes = h.writes;
        settled = h.settled;
        entries = placed_set (λ (n : ℕ) (found : Entry). IsSoundEntry sc s.server (record { 0 = n }) found) s.entries q.txn.0 _ h.entries
            (record { answers = old.answers; waiting = record { own = refl; sound = m }; deeds = old.deeds; ballot = old.ballot });
        locks = h.locks;
      };
      forces = tt;
      sends_only = tt;
    }

-- an answer that ends the transaction
answers_with_sound : (sc : Scenario) (s : Server) (q : QueryRequest) (entry : Entry) (given : Answer) → IsSoundServer sc s → IsSoundQuery sc (actor.Server s.server) q → IsSoundEntry sc s.server q.txn entry
    → IsSoundAnswer sc q.txn given → (ProvesEach sc q.txn → HasVerdict given) → IsSoundServerEffect sc s (answers_with s q entry given)
answers_with_sound sc s q entry given h m old sound proved =
    let done : IsSoundDone sc (actor.Coordinator q.txn) (reply_of q entry.epoch given) = done_sound sc s q entry.epoch given m sound proved in
    record {
      same_server = refl;
      state_is = record {
        exists = h.exists;
        known = h.known;
        writes = h.writes;
        settled = h.settled;
        entries = placed_set (λ (n : ℕ) (found : Entry). IsSoundEntry sc s.server (record { 0 = n }) found) s.entries q.txn.0 _ h.entries
            (record { answers = each_more (IsSoundDone sc (actor.Coordinator q.txn)) entry.answers _ old.answers done; waiting = old.waiting; deeds = old.deeds; ballot = old.ballot });
        locks = h.locks;
      };
      forces = tt;
      sends_only = (reply_sound sc s q.txn (body.Done (reply_of q entry.epoch given)) h m.txn done tt, tt);
    }

-- the proof of a query is false
denies_sound : (sc : Scenario) (s : Server) (q : QueryRequest) (query : Query) (entry : Entry) (value : ℤ) (verdict : Verdict) → IsValid sc → IsSoundServer sc s → IsSoundQuery sc (actor.Server s.server) q
    → asked_query sc q ≡ Some query → IsSoundEntry sc s.server q.txn entry → IsDenied sc s q (deed_of q.query query value) verdict
    → IsSoundServerEffect sc s (answers_with (pinned sc s q (deed_of q.query query value)) q entry (answer.Denied verdict))
denies_sound sc s q query entry value verdict valid h m query_is old d =
    let deed = deed_of q.query query value in
    let after : IsSoundServer sc (pinned sc s q deed) = pinned_sound sc s q query value h m query_is in
    unpinned_sound sc s q deed (answers_with (pinned sc s q deed) q entry (answer.Denied verdict))
    (answers_with_sound sc (pinned sc s q deed) q entry (answer.Denied verdict) after m old (verdict_at_sound sc (pinned sc s q deed) q deed verdict valid after (deed_sound sc s q query value m query_is) d.proof_is) (λ each. tt))

-- the server knows a newer version than it pins
outdates_sound : (sc : Scenario) (s : Server) (q : QueryRequest) (query : Query) (entry : Entry) (newer : Newer) → IsSoundServer sc s → IsSoundQuery sc (actor.Server s.server) q
    → asked_query sc q ≡ Some query → IsSoundEntry sc s.server q.txn entry → newer_known s (admin_of sc (item_of query)) q.pin ≡ Some newer → IsSoundServerEffect sc s (answers_with s q entry (answer.Newer newer))
outdates_sound sc s q query entry newer h m query_is old known =
    answers_with_sound sc s q entry (answer.Newer newer) h m old (newer_sound sc s (admin_of sc (item_of query)) q.pin newer h (pin_there sc s q query m query_is) known) (λ each. tt)

-- the same with other locks, which all have owners
relocked_sound : (sc : Scenario) (s : Server) (effect : Effect Server) (locks : Table) → HaveOwners sc locks → IsSoundServerEffect sc s effect → IsSoundServerEffect sc s (with_locks effect locks)
relocked_sound sc s effect locks owners h =
    record {
      same_server = h.same_server;
      state_is = record { exists = h.state_is.exists; known = h.state_is.known; writes = h.state_is.writes; settled = h.state_is.settled; entries = h.state_is.entries; locks = owners };
      forces = h.forces;
      sends_only = h.sends_only;
    }

-- each lock has an owner
abbrev OwnerExists : Scenario → ℕ → LockEntry → Type 0
OwnerExists sc item lock = IsTxn sc lock.owner

asked_owners : (sc : Scenario) (s : Server) (q : QueryRequest) (query : Query) (entry : Entry) (given : Asked) → lock_answer s q query entry ≡ given → IsSoundServer sc s → IsTxn sc q.txn → HaveOwners sc (after_asking s q query entry).locks
asked_owners sc s q query entry given e h exists =
    requested_locks (OwnerExists sc) q.txn entry.age (item_of query) (action_of query) s.locks given e h.locks (all_added (λ (lock : LockEntry). IsTxn sc lock.owner) q.txn entry.age (action_of query) (λ held. exists) given)

-- what waited is sound, and so is the entry at which it goes on
record IsSoundResumed (sc : Scenario) (s : Server) (q : QueryRequest) (entry : Entry) : Type 0 where
  asked : IsSoundQuery sc (actor.Server s.server) q
  old : IsSoundEntry sc s.server q.txn (unwaiting entry)

resumed_sound : (sc : Scenario) (s : Server) (effect : Effect Server) (grant : Grant) (q : QueryRequest) (query : Query) (entry : Entry) (value : ℤ) → IsResumed sc s.server effect.state grant q query entry value → IsSoundServerEffect sc s effect
    → IsSoundResumed sc effect.state q entry
resumed_sound sc s effect grant q query entry value k h =
    let old = h.state_is.entries q.txn.0 entry k.found in
    let waited : IsSoundWait sc effect.state.server q.txn q = subst (λ (w : Option QueryRequest). IfSome w (IsSoundWait sc effect.state.server q.txn)) k.waiting_is old.waiting in
    record { asked = waited.sound; old = record { answers = old.answers; waiting = tt; deeds = old.deeds; ballot = old.ballot } }

-- what is done further, after what was done before; it forces nothing
followed_sound : (sc : Scenario) (s : Server) (effect further : Effect Server) → IsSoundServerEffect sc s effect → IsSoundServerEffect sc effect.state further → IsSoundServerEffect sc s (followed_by effect further)
followed_sound sc s effect further h k =
    record { same_server = k.same_server ∙ h.same_server; state_is = k.state_is; forces = h.forces; sends_only = each_append (IsSoundLetter sc) effect.reaction.letters further.reaction.letters h.sends_only k.sends_only }

-- what waited runs
resumes_sound : (sc : Scenario) (s : Server) (effect : Effect Server) (grant : Grant) (q : QueryRequest) (query : Query) (entry : Entry) (value : ℤ) (proof : Option Verdict) → IsValid sc → IsResumed sc s.server effect.state grant q query entry value
    → IsRunning sc effect.state q (deed_of q.query query value) proof → IsSoundServerEffect sc s effect
    → IsSoundServerEffect sc s (followed_by effect (resuming (pinned sc effect.state q (deed_of q.query query value)) q query entry value proof))
resumes_sound sc s effect grant q query entry value proof valid k r h =
    let waited = resumed_sound sc s effect grant q query entry value k h in
    followed_sound sc s effect (resuming (pinned sc effect.state q (deed_of q.query query value)) q query entry value proof) h (runs_sound sc effect.state q query (unwaiting entry) value proof valid h.state_is waited.asked k.asked_is waited.old r)

-- the proof of what waited is false
resumed_denied_sound : (sc : Scenario) (s : Server) (effect : Effect Server) (grant : Grant) (q : QueryRequest) (query : Query) (entry : Entry) (value : ℤ) (verdict : Verdict) → IsValid sc → IsResumed sc s.server effect.state grant q query entry value
    → IsDenied sc effect.state q (deed_of q.query query value) verdict → IsSoundServerEffect sc s effect
    → IsSoundServerEffect sc s (followed_by effect (refusing (pinned sc effect.state q (deed_of q.query query value)) q entry (answer.Denied verdict)))
resumed_denied_sound sc s effect grant q query entry value verdict valid k d h =
    let waited = resumed_sound sc s effect grant q query entry value k h in
    followed_sound sc s effect (refusing (pinned sc effect.state q (deed_of q.query query value)) q entry (answer.Denied verdict)) h
    (denies_sound sc effect.state q query (unwaiting entry) value verdict valid h.state_is waited.asked k.asked_is waited.old d)

-- its server knows a newer version than it pins
resumed_outdated_sound : (sc : Scenario) (s : Server) (effect : Effect Server) (grant : Grant) (q : QueryRequest) (query : Query) (entry : Entry) (value : ℤ) (newer : Newer) → IsResumed sc s.server effect.state grant q query entry value
    → newer_known effect.state (admin_of sc (item_of query)) q.pin ≡ Some newer → IsSoundServerEffect sc s effect → IsSoundServerEffect sc s (followed_by effect (refusing effect.state q entry (answer.Newer newer)))
resumed_outdated_sound sc s effect grant q query entry value newer k known h =
    let waited = resumed_sound sc s effect grant q query entry value k h in
    followed_sound sc s effect (refusing effect.state q entry (answer.Newer newer)) h (outdates_sound sc effect.state q query (unwaiting entry) newer h.state_is waited.asked k.asked_is waited.old known)

-- an answer that is given again, or for the first time
answers_sound : (sc : Scenario) (s : Server) (q : QueryRequest) (given : DoneReply) → IsSoundServer sc s → IsTxn sc q.txn → IsSoundDone sc (actor.Coordinator q.txn) given
    → IsSoundServerEffect sc s (answers s q.txn given)
answers_sound sc s q given h exists d = record { same_server = refl; state_is = h; forces = tt; sends_only = (reply_sound sc s q.txn (body.Done given) h exists d tt, tt) }

-- ---- Prepare

-- verdicts on what a transaction of the scenario did here, at versions that are wanted or known
verdicts_sound : (sc : Scenario) (s : Server) (txn : TxnId) (presenting : Transaction) (staple : Staple) (want : List (AdminId × Version)) (deeds : List Deed) → IsValid sc → IsSoundServer sc s → AreWanted sc want
    → slice_get sc.txns txn.0 ≡ Some presenting → Each (IsSoundDeedAt sc s.server txn) deeds → AreSoundVerdicts sc txn (verdicts_on sc s presenting staple want deeds)
verdicts_sound sc s txn presenting staple want deeds valid h w there k =
    each_map (IsSoundDeedAt sc s.server txn) (IsSoundVerdict sc txn) (verdict_on sc s presenting staple want) (λ deed d. verdict_sound sc s txn presenting staple want deed valid h w there d) deeds k

-- those of a vote
evaluated_sound : (sc : Scenario) (s : Server) (p : PrepareRequest) (entry : Entry) (verdicts : List Verdict) → IsValid sc → IsSoundServer sc s → AreWanted sc p.want → Each (IsSoundDeedAt sc s.server p.txn) entry.deeds
    → IsEvaluated sc s p entry verdicts → AreSoundVerdicts sc p.txn verdicts
evaluated_sound sc s p entry _ valid h w k (Stapled staple txn given there) =
    verdicts_sound sc (with_wants s p.want) p.txn txn staple p.want entry.deeds valid (learnt_sound sc s p.want h w) w there k
evaluated_sound sc s p entry _ valid h w k (Unstapled given) = tt

casts_sound : (sc : Scenario) (s : Server) (p : PrepareRequest) (entry : Entry) (verdicts : List Verdict) → IsSoundServer sc s → IsTxn sc p.txn → AreWanted sc p.want
    → IsSoundEntry sc s.server p.txn entry → AreSoundVerdicts sc p.txn verdicts → IsSoundServerEffect sc s (votes (with_wants s p.want) p verdicts entry)
casts_sound sc s p entry verdicts h exists w k sound =
    let after : IsSoundServer sc (with_wants s p.want) = learnt_sound sc s p.want h w in
    record {
      same_server = refl;
      state_is = record {
        exists = h.exists;
        known = after.known;
        writes = after.writes;
        settled = h.settled;
        entries = placed_set (λ (n : ℕ) (found : Entry). IsSoundEntry sc s.server (record { 0 = n }) found) s.entries p.txn.0 _ h.entries
            (record { answers = k.answers; waiting = k.waiting; deeds = k.deeds; ballot = sound });
        locks = h.locks;
      };
      forces = record { txn = exists; deeds = k.deeds; verdicts = sound; told = after.known };
      sends_only = (reply_sound sc s p.txn _ h exists (record { txn = exists; goes_to = refl; ballot = sound }) tt, tt);
    }

-- a vote that is given again
votes_again_sound : (sc : Scenario) (s : Server) (p : PrepareRequest) (entry : Entry) (cast : Ballot) → IsSoundServer sc s → IsTxn sc p.txn → IsSoundEntry sc s.server p.txn entry → entry.ballot ≡ Some cast
    → IsSoundServerEffect sc s (sends s (yes_letter s p.txn cast ∷ []))
votes_again_sound sc s p entry cast h exists k ballot_is =
    let verdicts : AreSoundVerdicts sc p.txn cast.verdicts = subst (λ (ballot : Option Ballot). IfSome ballot (λ (b : Ballot). AreSoundVerdicts sc p.txn b.verdicts)) ballot_is k.ballot in
    record { same_server = refl; state_is = h; forces = tt; sends_only = (reply_sound sc s p.txn _ h exists (record { txn = exists; goes_to = refl; ballot = verdicts }) tt, tt) }

-- ---- Validate

-- verdicts that are shown, or none where what was done here was lost
shows_sound : (sc : Scenario) (s : Server) (v : ValidateRequest) (verdicts : Option (List Verdict)) → IsSoundServer sc s → IsTxn sc v.txn → IfSome verdicts (AreSoundVerdicts sc v.txn) → IsSoundServerEffect sc s (shows s v verdicts)
shows_sound sc s v verdicts h exists sound =
    record { same_server = refl; state_is = h; forces = tt; sends_only = (reply_sound sc s v.txn _ h exists (record { txn = exists; goes_to = refl; verdicts = sound }) tt, tt) }

-- so once the wanted versions were learnt
validates_sound : (sc : Scenario) (s : Server) (v : ValidateRequest) (txn : Transaction) (entry : Entry) → IsValid sc → IsSoundServer sc s → IsTxn sc v.txn → AreWanted sc v.want
    → slice_get sc.txns v.txn.0 ≡ Some txn → IsSoundEntry sc s.server v.txn entry → IsSoundServerEffect sc s (shows_on sc (with_wants s v.want) v entry txn)
validates_sound sc s v txn entry valid h exists w there k =
    let now = with_wants s v.want in
    let after : IsSoundServer sc now = learnt_sound sc s v.want h w in
    let shown = shows_sound sc now v (Some (verdicts_on sc now txn v.staple v.want entry.deeds)) after exists (verdicts_sound sc now v.txn txn v.staple v.want entry.deeds valid after w there k.deeds) in
    record { same_server = shown.same_server; state_is = shown.state_is; forces = shown.forces; sends_only = shown.sends_only }

-- ---- Decide

closes_sound : (sc : Scenario) (s : Server) (order : Settled) (letter : Letter) → IsSoundServer sc s → IsSoundSettled sc s.server order → IsSoundLetter sc letter → IsSoundServerEffect sc s (closes s order letter)
closes_sound sc s order letter h settled sent =
    record {
      same_server = refl;
      state_is = record {
        exists = h.exists;
        known = subst (AreVersions sc) (sym (ended_known s.store order.txn order.outcome)) h.known;
        writes = ended_each (IsWriteOf sc s.server) s.store order.txn order.outcome h.writes;
        settled = placed_set (λ (n : ℕ) (found : Settled). IsSettledOf sc s.server (record { 0 = n }) found) s.settled order.txn.0 order h.settled (record { own = refl; sound = settled });
        entries = placed_emptied (λ (n : ℕ) (found : Entry). IsSoundEntry sc s.server (record { 0 = n }) found) s.entries order.txn.0 h.entries;
        locks = released_locks (OwnerExists sc) (OwnerExists sc) order.txn s.locks (λ item lock held k. k) (λ item lock apart k. k) h.locks;
      };
      forces = settled;
      sends_only = (sent, tt);
    }

settles_sound : (sc : Scenario) (s : Server) (d : DecideRequest) → IsSoundServer sc s → IsTxn sc d.txn → IsSoundServerEffect sc s (closes s (settled_as d) (ack_letter s d.txn))
settles_sound sc s d h exists =
    closes_sound sc s (settled_as d) (ack_letter s d.txn) h (record { txn = exists; why = tt }) (reply_sound sc s d.txn _ h exists (record { txn = exists; goes_to = refl }) tt)

-- a reason names a query of the transaction
named_reason : (sc : Scenario) (at : ServerId) (txn : TxnId) (why : No) → IsReasonOf sc at txn why → IsSoundNo sc txn why
named_reason sc at txn (no.Range number value) h = record { asked = h.asked; asked_is = h.asked_is }
named_reason sc at txn no.Restarted h = tt

-- the write that is refused is of a query of the transaction there
refused_query : (sc : Scenario) (s : Server) (txn : TxnId) (number : ℕ) (value : ℤ) → IsSoundServer sc s → first_outside_in s.store txn ≡ Some (number, value) → IsQueryOf sc txn number s.server
refused_query sc s txn number value h e = found (first_outside_in s.store txn) e (first_is_least s.store txn)
  where
    found : (first : Option (ℕ × ℤ)) → first ≡ Some (number, value) → MatchOption first (list_any (is_outside s.store.bounds) (writes_of s.store txn) ≡ false) (IsLeastOutside s.store txn) → IsQueryOf sc txn number s.server
    found None f m = absurd (cc)
    found (Some first) f m =
        let same : first ≡ (number, value) = same_Some first (number, value) f in
        let is : number ≡ m.write.query = ap (λ (x : ℕ × ℤ). x.0) (sym same) ∙ m.query in
        subst (λ (n : ℕ). IsQueryOf sc txn n s.server) (sym is) (each_get (IsWriteOf sc s.server txn) (writes_of s.store txn) m.at m.write (h.writes txn) m.kept).query

-- the reason of what was settled so is sound
settled_reason : (sc : Scenario) (s : Server) (txn : TxnId) (settled : Settled) (why : No) → IsSoundServer sc s → option_flatten (slice_get s.settled txn.0) ≡ Some settled → settled.why ≡ Some why
    → IsReasonOf sc s.server txn why
settled_reason sc s txn settled why h found why_is =
    let kept = h.settled txn.0 settled found in
    subst (λ (t : TxnId). IsReasonOf sc s.server t why) kept.own (subst (λ (x : Option No). IfSome x (IsReasonOf sc s.server settled.txn)) why_is kept.sound.why)

no_letter_sound : (sc : Scenario) (s : Server) (p : PrepareRequest) (why : No) → IsSoundServer sc s → IsTxn sc p.txn → IsReasonOf sc s.server p.txn why → IsSoundLetter sc (no_letter s p why)
no_letter_sound sc s p why h exists reason = reply_sound sc s p.txn _ h exists (record { txn = exists; goes_to = refl; ballot = named_reason sc s.server p.txn why reason }) reason

-- ---- Push

learns_sound : (sc : Scenario) (s : Server) (push : PushNotice) → IsSoundServer sc s → IsVersion sc push.admin push.version → IsSoundServerEffect sc s (learns s push)
learns_sound sc s push h v =
    record {
      same_server = refl;
      state_is = record { exists = h.exists; known = known_more sc s.store push.admin push.version h.known v; writes = h.writes; settled = h.settled; entries = h.entries; locks = h.locks };
      forces = v;
      sends_only = tt;
    }

-- ---- all mails

pub server_row_sound : (sc : Scenario) (s : Server) (mail : Mail) → IsValid sc → AreRightWaits sc s → IsSoundServer sc s → IsSoundBody sc (actor.Server s.server) mail.letter.body
    → IsSoundServerEffect sc s (server_row sc s mail)
server_row_sound sc s mail valid rightly h m =
    server_by_locks sc s mail (IsSoundServerEffect sc s) rightly
    (record {
      ignored = ignores_sound_in_server sc s h;
      ran = λ q query entry value proof k granted r.
          relocked_sound sc s (completes (pinned sc s q (deed_of q.query query value)) q query entry (deed_of q.query query value) proof) (after_asking s q query entry).locks (asked_owners sc s q query entry asked.Granted granted h (said k.said_is).txn)
          (runs_sound sc s q query entry value proof valid h (said k.said_is) k.asked_is (run_entry_in_ids sc s mail q query entry value h k) r);
      denied = λ q query entry value verdict k granted d.
          relocked_sound sc s (answers_with (pinned sc s q (deed_of q.query query value)) q entry (answer.Denied verdict)) (after_asking s q query entry).locks (asked_owners sc s q query entry asked.Granted granted h (said k.said_is).txn)
          (denies_sound sc s q query entry value verdict valid h (said k.said_is) k.asked_is (run_entry_in_ids sc s mail q query entry value h k) d);
      outdated = λ q query entry value newer k granted known.
          relocked_sound sc s (answers_with s q entry (answer.Newer newer)) (after_asking s q query entry).locks (asked_owners sc s q query entry asked.Granted granted h (said k.said_is).txn)
          (outdates_sound sc s q query entry newer h (said k.said_is) k.asked_is (run_entry_in_ids sc s mail q query entry value h k) known);
      waited = λ q query entry value k waiting.
          relocked_sound sc s (waits s q entry) (after_asking s q query entry).locks (asked_owners sc s q query entry asked.Waits waiting h (said k.said_is).txn)
          (waits_sound sc s q entry h (said k.said_is) (run_entry_in_ids sc s mail q query entry value h k));
      died = λ q query entry value other k dying.
          let way = stands_in_the_way (OwnerExists sc) q.txn entry.age (item_of query) (action_of query) s.locks other h.locks dying in
          relocked_sound sc s (answers_with s q entry (answer.Died other)) (after_asking s q query entry).locks (asked_owners sc s q query entry (asked.Dies other) dying h (said k.said_is).txn)
          (answers_with_sound sc s q entry (answer.Died other) h (said k.said_is) (run_entry_in_ids sc s mail q query entry value h k) (subst (IsTxn sc) way.owner_is way.is) (λ each. tt));
      restarted = λ q k. answers_sound sc s q (reply_of q s.epoch answer.Restarted) h (said k.said_is).txn (done_sound sc s q s.epoch answer.Restarted (said k.said_is) tt (λ each. tt));
      answered = λ q entry given k.
          answers_sound sc s q given h (said k.said_is).txn
          (each_found (IsSoundDone sc (actor.Coordinator q.txn)) (λ (d : DoneReply). d.query == q.query) entry.answers given (h.entries q.txn.0 entry k.found).answers k.given_is);
      voted = λ p entry verdicts k.
          let kept = h.entries p.txn.0 entry k.found in
          casts_sound sc s p entry verdicts h (said k.said_is).txn (said k.said_is).want kept (evaluated_sound sc s p entry verdicts valid h (said k.said_is).want kept.deeds k.evaluated);
      shown = λ v entry txn k. validates_sound sc s v txn entry valid h (said k.said_is).txn (said k.said_is).want k.declared (h.entries v.txn.0 entry k.found);
      lost_verdicts = λ v k. shows_sound sc s v None h (said k.said_is).txn tt;
      voted_again = λ p entry cast k. votes_again_sound sc s p entry cast h (said k.said_is).txn (h.entries p.txn.0 entry k.found) k.ballot_is;
      refused = λ p entry number value k.
          let exists = (said k.said_is).txn in
          let query : IsQueryOf sc p.txn number s.server = refused_query sc s p.txn number value h k.outside in
          closes_sound sc s (refused_as p _) (no_letter s p _) h (record { txn = exists; why = query }) (no_letter_sound sc s p _ h exists query);
      lost = λ p k.
          let exists = (said k.said_is).txn in
          closes_sound sc s (refused_as p no.Restarted) (no_letter s p no.Restarted) h (record { txn = exists; why = tt }) (no_letter_sound sc s p no.Restarted h exists tt);
      refused_again = λ p settled why k.
          let exists = (said k.said_is).txn in
          let reason : IsReasonOf sc s.server p.txn why = settled_reason sc s p.txn settled why h k.found k.why_is in
          record { same_server = refl; state_is = h; forces = tt; sends_only = (no_letter_sound sc s p why h exists reason, tt) };
      settled = λ d k. settles_sound sc s d h (said k.said_is).txn;
      acknowledged = λ d settled k.
          record {
            same_server = refl;
            state_is = h;
            forces = tt;
            sends_only = (reply_sound sc s d.txn _ h (said k.said_is).txn (record { txn = (said k.said_is).txn; goes_to = refl }) tt, tt);
          };
      pushed = λ push k. learns_sound sc s push h (said k.said_is).version;
      passed = λ effect grant first nobody k. relocked_sound sc s effect (without_grant effect.state.locks) k.state_is.locks k;
      resumed = λ effect grant q query entry value proof k r now.
          relocked_sound sc s (followed_by effect (resuming (pinned sc effect.state q (deed_of q.query query value)) q query entry value proof)) (without_grant effect.state.locks) now.state_is.locks
          (resumes_sound sc s effect grant q query entry value proof valid k r now);
      resumed_denied = λ effect grant q query entry value verdict k d now.
          relocked_sound sc s (followed_by effect (refusing (pinned sc effect.state q (deed_of q.query query value)) q entry (answer.Denied verdict))) (without_grant effect.state.locks) now.state_is.locks
          (resumed_denied_sound sc s effect grant q query entry value verdict valid k d now);
      resumed_outdated = λ effect grant q query entry value newer k known now.
          relocked_sound sc s (followed_by effect (refusing effect.state q entry (answer.Newer newer))) (without_grant effect.state.locks) now.state_is.locks
          (resumed_outdated_sound sc s effect grant q query entry value newer k known now);
    })
  where
    said : {body : Body} → mail.letter.body ≡ body → IsSoundBody sc (actor.Server s.server) body
    said e = subst (IsSoundBody sc (actor.Server s.server)) e m
