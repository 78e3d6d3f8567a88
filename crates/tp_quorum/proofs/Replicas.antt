-- Steps in which no operation changes: replicas receive, crash and boot, operations ask again, and mails are lost.
use Rattle.std.proofs.Common.{◌≡◌, ℕ, ◌+◌, ◌<◌, ◌≤◌, List, [], ◌∷◌, length, slice_get, slice_set, Bool, true, false, Option, Some, None, option_and_then, refl, sym, ap, subst, arith, ◌∙◌, if◌then◌else◌}
use Rattle.std.proofs.lemmas.Bool.{ltb-true, ltb-false}
use Rattle.tp_types.proofs.EachLemmas.{each_get}
use Rattle.tp_types.specs.Each.{Each, EachAt}
use Rattle.tp_quorum.proofs.Counting.{most_all}
use Rattle.tp_quorum.proofs.Lists.{at_changed, set_got, set_length}
use Rattle.tp_quorum.proofs.Stays.{Grows, MoveRests, goes_same, move_rests, op_stays}
use Rattle.tp_quorum.proofs.Told.{known_told, learnt_told, told_at, told_at_some, told_grown, told_here, told_of, told_of_one, told_rises, told_some, told_with}
use Rattle.tp_quorum.proofs.World.{BodyRests, IsStored, MailRests, PhaseRests, ReplicaRests, Rests, SaysAtLeast, Stores, last_at}
use Rattle.tp_quorum.specs.Machine.{Move, State, boots_at, crashes_at, idles, replica_takes_at, sends_back, state_after, times_out_at}
use Rattle.tp_quorum.specs.Operations.{asks_again, requests}
use Rattle.tp_log.specs.Appends.{is_kept}
use Rattle.tp_actor_log.specs.Records.{cut_record, log_with}
use Rattle.tp_quorum.specs.Replica.{ReplicaView, crashed, forced_up, forces, is_newer, known_at, learns, left_by, received, received_up, reply_of, reply_up, told_by, told_in, told_of_all}
use Rattle.tp_quorum.specs.Words.{AdminId, Cut, Operation, Phase, QBody, QMail, QStep, Record, Version}
use Rattle.tp_quorum.specs.Words.body
use Rattle.tp_quorum.specs.Words.log
use Rattle.tp_quorum.specs.Words.phase

-- ---- no operation changes

abbrev pub quiet_move : State → List ReplicaView → List QMail → Move
quiet_move w replicas sent =
    record { replicas = replicas; ops = w.ops; last = w.last; happened = None; sent = sent }

abbrev pub AreFair : State → List QMail → Type 0
AreFair w sent = (op : ℕ) (o : Operation) → slice_get w.ops op ≡ Some o → (r : ℕ) → Each (SaysAtLeast op r (told_at w.replicas r o.admin.0)) sent

pub quiet_grows : (w : State) (replicas : List ReplicaView) (sent : List QMail) → length replicas ≡ length w.replicas
    → ((r admin : ℕ) → told_at w.replicas r admin ≤ told_at replicas r admin) → AreFair w sent → Grows w (quiet_move w replicas sent)
quiet_grows w replicas sent count told fair = record {
  count = count;
  admins = refl;
  told = told;
  last = λ admin. omega arith;
  ops = λ op o e. goes_same o (slice_get w.ops op) e;
  fair = fair;
}

pub quiet_rests : (admins : ℕ) (w : State) (taken : QStep) (replicas : List ReplicaView) (sent : List QMail) → Rests admins w → Grows w (quiet_move w replicas sent)
    → EachAt (λ (n : ℕ) (replica : ReplicaView). ReplicaRests w.last replica) replicas → Each (MailRests (state_after w taken (quiet_move w replicas sent))) sent
    → Rests admins (state_after w taken (quiet_move w replicas sent))
quiet_rests admins w taken replicas sent h grows each rest = move_rests admins w taken (quiet_move w replicas sent) h grows new
  where
    new : MoveRests w taken (quiet_move w replicas sent)
    new = record {
      replicas = each;
      published = λ admin. omega arith;
      begun = omega arith;
      ops = λ op o e. op_stays w taken (quiet_move w replicas sent) grows h.facts op o e refl (h.ops op o e);
      sent = rest;
      fact = tt;
      most = λ admin. most_all (length w.replicas) (λ (r : ℕ). 1 ≤ told_at replicas r admin) h.some (λ r. told_at_some replicas r admin);
      follows = tt;
    }

pub idle_rests : (admins : ℕ) (w : State) (taken : QStep) → Rests admins w → Rests admins (state_after w taken (idles w))
idle_rests admins w taken h = quiet_rests admins w taken w.replicas [] h (quiet_grows w w.replicas [] refl (λ r admin. omega arith) (λ op o e r. tt)) h.replicas tt

-- ---- what a replica makes of a request

-- a version that is to be stored was published, by an administrator who exists
abbrev pub MayAsk : List Version → QBody → Type 0
MayAsk last (body.Store admin version) = (admin.0 < length last) × (version.0 ≤ last_at last admin.0)
MayAsk last (body.Fetch admin) = admin.0 < length last
MayAsk last _ = Unit {0}

stores_few : (w : State) (op admin : ℕ) (reader : Option ℕ) (now : Phase) (version : Version) → PhaseRests w op admin reader now → Stores now version → version.0 ≤ last_at w.last admin
stores_few w op admin reader (phase.Fetching greatest answered) version rests stores = absurd stores
stores_few w op admin reader (phase.Storing own answered) version rests stores = subst (λ (v : Version). v.0 ≤ last_at w.last admin) stores rests.few
stores_few w op admin reader (phase.Ended own) version rests stores = subst (λ (v : Version). v.0 ≤ last_at w.last admin) stores rests.few

may_ask_by : (admins : ℕ) (w : State) → Rests admins w → (op r : ℕ) (o : Operation) → slice_get w.ops op ≡ Some o → (said : QBody) → BodyRests w r o said → MayAsk w.last said
may_ask_by admins w h op r o is_op (body.Fetch admin) rests = subst (λ (a : AdminId). a.0 < length w.last) rests (h.ops op o is_op).admin
may_ask_by admins w h op r o is_op (body.Has version) rests = tt
may_ask_by admins w h op r o is_op (body.Store admin version) rests =
    let own = h.ops op o is_op in
    subst (λ (a : AdminId). (a.0 < length w.last) × (version.0 ≤ last_at w.last a.0)) rests.0 (own.admin, stores_few w op o.admin.0 o.reader o.phase version own.now rests.1)
may_ask_by admins w h op r o is_op body.Stored rests = tt

pub may_ask : (admins : ℕ) (w : State) → Rests admins w → (mail : QMail) → MailRests w mail → MayAsk w.last mail.body
may_ask admins w h mail rests = may_ask_by admins w h mail.op mail.replica rests.op rests.is_op mail.body rests.said

-- a record tells no version that was not published
abbrev pub TellsFew : List Version → Option Record → Type 0
TellsFew last None = Unit {0}
TellsFew last (Some forced) = (admin : ℕ) → told_by admin forced ≤ last_at last admin

pub few_with : (last : List Version) (records : List Record) (forced : Option Record) → TellsFew last forced → ((admin : ℕ) → told_in admin records ≤ last_at last admin) → (admin : ℕ) → told_in admin (log_with records forced) ≤ last_at last admin
few_with last records None tells few admin = few admin
few_with last records (Some forced) tells few admin = omega (arith, told_grown admin records forced, tells admin, few admin)

forced_few : (last known : List Version) (said : QBody) → ((admin : ℕ) → 1 ≤ last_at last admin) → MayAsk last said → TellsFew last (forces known said)
forced_few last known (body.Fetch admin) some may = tt
forced_few last known (body.Has version) some may = tt
forced_few last known (body.Store admin version) some may = by (is_newer known admin version)
  where
    by : (b : Bool) → TellsFew last (if b then Some (log.Told (record { admin = admin; version = version })) else None)
    by true = λ a. told_of_one a (record { admin = admin; version = version }) (last_at last a) (some a) (λ same. subst (λ (k : ℕ). version.0 ≤ last_at last k) same may.1)
    by false = tt
forced_few last known body.Stored some may = tt

last_some : (last : List Version) (replica : ReplicaView) → ReplicaRests last replica → (admin : ℕ) → 1 ≤ last_at last admin
last_some last replica h admin = omega (arith, h.few admin, told_some admin replica.log)

-- what is known after a store, by what the log tells after it
learns_told : (last : List Version) (records : List Record) (admin : AdminId) (version : Version) → admin.0 < length last
    → learns (told_of_all (length last) records) (body.Store admin version) ≡ told_of_all (length last) (log_with records (forces (told_of_all (length last) records) (body.Store admin version)))
learns_told last records admin version within = by (is_newer (told_of_all (length last) records) admin version) refl
  where
    known_is : (known_at (told_of_all (length last) records) admin).0 ≡ told_in admin.0 records
    known_is = ap (λ (v : Version). v.0) (known_told (length last) records admin within)

    by : (b : Bool) → is_newer (told_of_all (length last) records) admin version ≡ b
        → (if b then slice_set (told_of_all (length last) records) admin.0 version else told_of_all (length last) records) ≡ told_of_all (length last) (log_with records (if b then Some (log.Told (record { admin = admin; version = version })) else None))
    by true e = learnt_told (length last) records (record { admin = admin; version = version }) (omega (arith, known_is, ltb-true (known_at (told_of_all (length last) records) admin).0 version.0 e))
    by false e = refl

-- a version that was to be stored is told afterwards
stored_told : (last : List Version) (records : List Record) (admin : AdminId) (version : Version) → admin.0 < length last
    → version.0 ≤ told_in admin.0 (log_with records (forces (told_of_all (length last) records) (body.Store admin version)))
stored_told last records admin version within = by (is_newer (told_of_all (length last) records) admin version) refl
  where
    known_is : (known_at (told_of_all (length last) records) admin).0 ≡ told_in admin.0 records
    known_is = ap (λ (v : Version). v.0) (known_told (length last) records admin within)

    by : (b : Bool) → is_newer (told_of_all (length last) records) admin version ≡ b
        → version.0 ≤ told_in admin.0 (log_with records (if b then Some (log.Told (record { admin = admin; version = version })) else None))
    by true e = omega (arith, told_grown admin.0 records (log.Told (record { admin = admin; version = version })), told_here (record { admin = admin; version = version }))
    by false e = omega (arith, known_is, ltb-false (known_at (told_of_all (length last) records) admin).0 version.0 e)

-- it knows what its log tells after a request too
received_rests_up : (last : List Version) (records : List Record) (up : Option (List Version)) (said : QBody) → ReplicaRests last (record { up = up; log = records }) → MayAsk last said
    → ReplicaRests last (received_up (record { up = up; log = records }) said up)
received_rests_up last records None said h may = h
received_rests_up last records (Some known) (body.Fetch admin) h may = h
received_rests_up last records (Some known) (body.Has version) h may = h
received_rests_up last records (Some known) (body.Store admin version) h may = record { knows = knows; few = few }
  where
    is_told : known ≡ told_of_all (length last) records
    is_told = h.knows known refl

    knows : (next : List Version) → Some (learns known (body.Store admin version)) ≡ Some next → next ≡ told_of_all (length last) (log_with records (forces known (body.Store admin version)))
    knows next e =
        let same : learns known (body.Store admin version) ≡ next = cc in
        sym same ∙ subst (λ (k : List Version). learns k (body.Store admin version) ≡ told_of_all (length last) (log_with records (forces k (body.Store admin version)))) (sym is_told) (learns_told last records admin version may.0)

    few : (a : ℕ) → told_in a (log_with records (forces known (body.Store admin version))) ≤ last_at last a
    few = few_with last records (forces known (body.Store admin version)) (forced_few last known (body.Store admin version) (last_some last (record { up = Some known; log = records }) h) may) h.few
received_rests_up last records (Some known) body.Stored h may = h

pub received_rests : (last : List Version) (replica : ReplicaView) (said : QBody) → ReplicaRests last replica → MayAsk last said → ReplicaRests last (received replica said)
received_rests last replica said h may = received_rests_up last replica.log replica.up said h may

received_told_up : (replica : ReplicaView) (said : QBody) (up : Option (List Version)) (admin : ℕ) → told_in admin replica.log ≤ told_in admin (received_up replica said up).log
received_told_up replica said None admin = omega arith
received_told_up replica said (Some known) admin = told_with admin replica.log (forces known said)

-- ---- what it replies

-- of a reply: the version that it says is the one that the log tells, and what is stored is told
abbrev pub ReplyRests : ℕ → ℕ → Phase → QBody → Type 0
ReplyRests before after now (body.Has version) = version.0 ≡ before
ReplyRests before after now body.Stored = IsStored now after
ReplyRests before after now _ = ⊥

abbrev pub EachReply : ℕ → ℕ → Phase → Option QBody → Type 0
EachReply before after now None = Unit {0}
EachReply before after now (Some said) = ReplyRests before after now said

reply_rests_up : (w : State) (r : ℕ) (o : Operation) (records : List Record) (up : Option (List Version)) (said : QBody) → ReplicaRests w.last (record { up = up; log = records }) → MayAsk w.last said → BodyRests w r o said
    → EachReply (told_in o.admin.0 records) (told_in o.admin.0 (received_up (record { up = up; log = records }) said up).log) o.phase (reply_up said up)
reply_rests_up w r o records None said h may rests = tt
reply_rests_up w r o records (Some known) (body.Fetch admin) h may rests =
    let is_told = ap (λ (k : List Version). (known_at k admin).0) (h.knows known refl) in
    let version = ap (λ (v : Version). v.0) (known_told (length w.last) records admin may) in
    let same : told_in o.admin.0 records ≡ told_in admin.0 records = ap (λ (a : AdminId). told_in a.0 records) rests in
    is_told ∙ version ∙ sym same
reply_rests_up w r o records (Some known) (body.Has version) h may rests = tt
reply_rests_up w r o records (Some known) (body.Store admin version) h may rests =
    let told : version.0 ≤ told_in admin.0 (log_with records (forces known (body.Store admin version))) =
    subst (λ (k : List Version). version.0 ≤ told_in admin.0 (log_with records (forces k (body.Store admin version)))) (sym (h.knows known refl)) (stored_told w.last records admin version may.0) in
    record {
      version = version;
      stores = rests.1;
      is_told = subst (λ (a : AdminId). version.0 ≤ told_in a.0 (log_with records (forces known (body.Store admin version)))) (sym rests.0) told;
    }
reply_rests_up w r o records (Some known) body.Stored h may rests = tt

-- ---- a mail comes to a replica

reply_is_fair : (w : State) (mail : QMail) (rests : MailRests w mail) (after : ℕ) (reply : Option QBody) → EachReply (told_at w.replicas mail.replica rests.op.admin.0) after rests.op.phase reply → AreFair w (sends_back mail reply)
reply_is_fair w mail rests after None each op o is_op r = tt
reply_is_fair w mail rests after (Some (body.Fetch admin)) each op o is_op r = absurd each
reply_is_fair w mail rests after (Some (body.Store admin version)) each op o is_op r = absurd each
reply_is_fair w mail rests after (Some (body.Has version)) each op o is_op r = (says, tt)
  where
    says : mail.op ≡ op → mail.replica ≡ r → told_at w.replicas r o.admin.0 ≤ version.0
    says same here =
        let there : slice_get w.ops mail.op ≡ Some o = ap (slice_get w.ops) same ∙ is_op in
        let both : Some rests.op ≡ Some o = sym rests.is_op ∙ there in
        let own : rests.op ≡ o = cc in
        let number : version.0 ≡ told_at w.replicas r o.admin.0 = each ∙ ap (λ (k : ℕ). told_at w.replicas k rests.op.admin.0) here ∙ ap (λ (p : Operation). told_at w.replicas r p.admin.0) own in
        omega (arith, number)
reply_is_fair w mail rests after (Some body.Stored) each op o is_op r = (λ same here. tt, tt)

reply_mails_rest : (w : State) (taken : QStep) (mail : QMail) (rests : MailRests w mail) (replicas : List ReplicaView) → length replicas ≡ length w.replicas → (before : ℕ) → before ≤ last_at w.last rests.op.admin.0 → (reply : Option QBody)
    → EachReply before (told_at replicas mail.replica rests.op.admin.0) rests.op.phase reply
    → Each (MailRests (state_after w taken (quiet_move w replicas (sends_back mail reply)))) (sends_back mail reply)
reply_mails_rest w taken mail rests replicas count before few None each = tt
reply_mails_rest w taken mail rests replicas count before few (Some (body.Fetch admin)) each = absurd each
reply_mails_rest w taken mail rests replicas count before few (Some (body.Store admin version)) each = absurd each
reply_mails_rest w taken mail rests replicas count before few (Some (body.Has version)) each =
    (record { replica = omega (arith, rests.replica, count); op = rests.op; is_op = rests.is_op; said = omega (arith, each, few) }, tt)
reply_mails_rest w taken mail rests replicas count before few (Some body.Stored) each =
    (record { replica = omega (arith, rests.replica, count); op = rests.op; is_op = rests.is_op; said = each }, tt)

pub replica_takes_rests : (admins : ℕ) (w : State) (taken : QStep) (mail : QMail) → Rests admins w → MailRests w mail → (found : Option ReplicaView) → slice_get w.replicas mail.replica ≡ found
    → Rests admins (state_after w taken (replica_takes_at w mail found))
replica_takes_rests admins w taken mail h rests None e = idle_rests admins w taken h
replica_takes_rests admins w taken mail h rests (Some replica) e =
    quiet_rests admins w taken replicas (sends_back mail (reply_of replica mail.body)) h grows
    (at_changed (λ (n : ℕ) (other : ReplicaView). ReplicaRests w.last other) w.replicas mail.replica (received replica mail.body) (λ n other apart there. h.replicas n other there) (received_rests w.last replica mail.body own may))
    (reply_mails_rest w taken mail rests replicas count (told_in rests.op.admin.0 replica.log) (own.few rests.op.admin.0) (reply_of replica mail.body)
    (subst (λ (after : ℕ). EachReply (told_in rests.op.admin.0 replica.log) after rests.op.phase (reply_of replica mail.body)) (sym (ap (told_of rests.op.admin.0) (set_got w.replicas mail.replica replica (received replica mail.body) e))) reply))
  where
    replicas : List ReplicaView
    replicas = slice_set w.replicas mail.replica (received replica mail.body)

    own : ReplicaRests w.last replica
    own = h.replicas mail.replica replica e

    may : MayAsk w.last mail.body
    may = may_ask admins w h mail rests

    count : length (slice_set w.replicas mail.replica (received replica mail.body)) ≡ length w.replicas
    count = set_length w.replicas mail.replica (received replica mail.body)

    reply : EachReply (told_in rests.op.admin.0 replica.log) (told_in rests.op.admin.0 (received replica mail.body).log) rests.op.phase (reply_of replica mail.body)
    reply = reply_rests_up w mail.replica rests.op replica.log replica.up mail.body own may rests.said

    before : told_at w.replicas mail.replica rests.op.admin.0 ≡ told_in rests.op.admin.0 replica.log
    before = ap (told_of rests.op.admin.0) e

    grows : Grows w (quiet_move w (slice_set w.replicas mail.replica (received replica mail.body)) (sends_back mail (reply_of replica mail.body)))
    grows =
        quiet_grows w (slice_set w.replicas mail.replica (received replica mail.body)) (sends_back mail (reply_of replica mail.body)) count
        (told_rises w.replicas mail.replica replica (received replica mail.body) e (λ admin. received_told_up replica mail.body replica.up admin))
        (reply_is_fair w mail rests (told_in rests.op.admin.0 (received replica mail.body).log) (reply_of replica mail.body)
        (subst (λ (b : ℕ). EachReply b (told_in rests.op.admin.0 (received replica mail.body).log) rests.op.phase (reply_of replica mail.body)) (sym before) reply))

-- ---- a replica stands otherwise

stands_rests : (admins : ℕ) (w : State) (taken : QStep) (r : ℕ) (old new : ReplicaView) → Rests admins w → slice_get w.replicas r ≡ Some old → ((admin : ℕ) → told_in admin old.log ≤ told_in admin new.log) → ReplicaRests w.last new
    → Rests admins (state_after w taken (quiet_move w (slice_set w.replicas r new) []))
stands_rests admins w taken r old new h e rises rests =
    quiet_rests admins w taken (slice_set w.replicas r new) [] h
    (quiet_grows w (slice_set w.replicas r new) [] (set_length w.replicas r new) (told_rises w.replicas r old new e rises) (λ op o is_op k. tt))
    (at_changed (λ (n : ℕ) (other : ReplicaView). ReplicaRests w.last other) w.replicas r new (λ n other apart there. h.replicas n other there) rests) tt

cut_few : (last : List Version) (cut : Cut) (forced : Option Record) → TellsFew last forced → TellsFew last (cut_record cut forced)
cut_few last cut None tells = tt
cut_few last cut (Some forced) tells = by (is_kept cut.calls cut.fill)
  where
    by : (b : Bool) → TellsFew last (if b then Some forced else None)
    by true = tells
    by false = tt

forced_up_few : (last : List Version) (up : Option (List Version)) (mail : QMail) → ((admin : ℕ) → 1 ≤ last_at last admin) → MayAsk last mail.body → TellsFew last (forced_up up mail)
forced_up_few last None mail some may = tt
forced_up_few last (Some known) mail some may = forced_few last known mail.body some may

left_few : (admins : ℕ) (w : State) → Rests admins w → (replica : ReplicaView) → ReplicaRests w.last replica → (cut : Option Cut) → TellsFew w.last (left_by w.mails replica cut)
left_few admins w h replica own None = tt
left_few admins w h replica own (Some cut) = cut_few w.last cut (option_and_then (forced_up replica.up) (slice_get w.mails cut.mail)) (by (slice_get w.mails cut.mail) refl)
  where
    by : (found : Option QMail) → slice_get w.mails cut.mail ≡ found → TellsFew w.last (option_and_then (forced_up replica.up) found)
    by None e = tt
    by (Some mail) e = forced_up_few w.last replica.up mail (last_some w.last replica own) (may_ask admins w h mail (each_get (MailRests w) w.mails cut.mail mail h.mails e))

pub crash_rests : (admins : ℕ) (w : State) (taken : QStep) (r : ℕ) (cut : Option Cut) → Rests admins w → (found : Option ReplicaView) → slice_get w.replicas r ≡ found → Rests admins (state_after w taken (crashes_at w r cut found))
crash_rests admins w taken r cut h None e = idle_rests admins w taken h
crash_rests admins w taken r cut h (Some replica) e =
    stands_rests admins w taken r replica (crashed w.mails replica cut) h e (λ admin. told_with admin replica.log (left_by w.mails replica cut)) (record {
      knows = λ known none. absurd (cc);
      few = few_with w.last replica.log (left_by w.mails replica cut) (left_few admins w h replica (h.replicas r replica e) cut) (h.replicas r replica e).few;
    })

pub boot_rests : (admins : ℕ) (w : State) (taken : QStep) (r : ℕ) → Rests admins w → (found : Option ReplicaView) → slice_get w.replicas r ≡ found → Rests admins (state_after w taken (boots_at w r found))
boot_rests admins w taken r h None e = idle_rests admins w taken h
boot_rests admins w taken r h (Some replica) e =
    stands_rests admins w taken r replica (record { up = Some (told_of_all (length w.last) replica.log); log = replica.log }) h e (λ admin. omega arith) (record {
      knows = λ known some. let same : told_of_all (length w.last) replica.log ≡ known = cc in sym same;
      few = (h.replicas r replica e).few;
    })

-- ---- an operation asks again

-- what holds of each request holds of all that are sent
pub each_request : (P : QMail → Type 0) (op : ℕ) (asked : QBody) (replicas : ℕ) → ((r : ℕ) → r < replicas → P (record { op = op; replica = r; body = asked })) → (answered : List Bool) (first : ℕ) → first + length answered ≤ replicas
    → Each P (requests op asked first answered)
each_request P op asked replicas holds [] first within = tt
each_request P op asked replicas holds (true ∷ answered) first within = each_request P op asked replicas holds answered (first + 1) (omega (arith, within))
each_request P op asked replicas holds (false ∷ answered) first within = (holds first (omega (arith, within)), each_request P op asked replicas holds answered (first + 1) (omega (arith, within)))

asks_fair : (w : State) (op : ℕ) (admin : AdminId) (now : Phase) → AreFair w (asks_again op admin now)
asks_fair w op admin (phase.Fetching greatest answered) other o is_op r = each_request (SaysAtLeast other r (told_at w.replicas r o.admin.0)) op (body.Fetch admin) (length answered) (λ k within same here. tt) answered 0 (omega arith)
asks_fair w op admin (phase.Storing version answered) other o is_op r = each_request (SaysAtLeast other r (told_at w.replicas r o.admin.0)) op (body.Store admin version) (length answered) (λ k within same here. tt) answered 0 (omega arith)
asks_fair w op admin (phase.Ended version) other o is_op r = tt

asks_rest : (w next : State) (op : ℕ) (admin : AdminId) (reader : Option ℕ) (now : Phase) → length next.replicas ≡ length w.replicas → PhaseRests w op admin.0 reader now
    → slice_get next.ops op ≡ Some (record { admin = admin; reader = reader; phase = now }) → Each (MailRests next) (asks_again op admin now)
asks_rest w next op admin reader (phase.Fetching greatest answered) count rests is_op =
    each_request (MailRests next) op (body.Fetch admin) (length answered)
    (λ r within. record { replica = omega (arith, within, rests.count, count); op = record { admin = admin; reader = reader; phase = phase.Fetching greatest answered }; is_op = is_op; said = refl }) answered 0 (omega arith)
asks_rest w next op admin reader (phase.Storing version answered) count rests is_op =
    each_request (MailRests next) op (body.Store admin version) (length answered)
    (λ r within. record { replica = omega (arith, within, rests.count, count); op = record { admin = admin; reader = reader; phase = phase.Storing version answered }; is_op = is_op; said = (refl, refl) }) answered 0 (omega arith)
asks_rest w next op admin reader (phase.Ended version) count rests is_op = tt

pub timer_rests : (admins : ℕ) (w : State) (taken : QStep) (op : ℕ) → Rests admins w → (found : Option Operation) → slice_get w.ops op ≡ found → Rests admins (state_after w taken (times_out_at w op found))
timer_rests admins w taken op h None e = idle_rests admins w taken h
timer_rests admins w taken op h (Some o) e =
    quiet_rests admins w taken w.replicas (asks_again op o.admin o.phase) h
    (quiet_grows w w.replicas (asks_again op o.admin o.phase) refl (λ r admin. omega arith) (asks_fair w op o.admin o.phase)) h.replicas
    (asks_rest w (state_after w taken (quiet_move w w.replicas (asks_again op o.admin o.phase))) op o.admin o.reader o.phase refl (h.ops op o e).now e)
