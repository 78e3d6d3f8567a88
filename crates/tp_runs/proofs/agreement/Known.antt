-- Agreement, what a server knows of versions: it is no less than what its log tells.
use Rattle.std.specs.Option.{option_map_or}
use Rattle.std.specs.Prelude.{if◌then◌else◌}
use Rattle.std.proofs.Common.{Bool, List, None, Option, Some, [], ap, arith, false, length, refl, slice_get, subst, suc, sym, true, unwrap_or, ℕ, ◌<◌, ◌∷◌, ◌≡◌, ◌≤◌}
use Rattle.std.proofs.lemmas.Bool.{eqb-true}
use Rattle.tp_types.specs.Effect.{Effect}
use Rattle.tp_model.specs.Ids.{same_admin}
use Rattle.tp_model.specs.Words.answer
use Rattle.tp_model.specs.Words.outcome
use Rattle.tp_model.specs.Words.{Admin, AdminId, Mail, PushNotice, Record, Scenario, ServerId, Version}
use Rattle.tp_types.proofs.EachLemmas.{set_here}
use Rattle.tp_runs.proofs.basics.Logs.{known_with, told_by}
use Rattle.tp_runs.proofs.basics.Stores.{ended_known, kept_known}
use Rattle.tp_runs.proofs.basics.Versions.{set_keeps}
use Rattle.tp_server.proofs.Rows.{AreRightWaits, refusing, resuming, server_by, with_learnt}
use Rattle.tp_round.specs.Judge.{version_number}
use Rattle.tp_recover.specs.Log.{known_in}
use Rattle.tp_actor_log.specs.Records.{log_with}
use Rattle.tp_runs.specs.Sound.{AreVersions, AreVersionsOf}
use Rattle.tp_machine.specs.Named.{IsAdmin}
use Rattle.tp_server.specs.Opened.{opening}
use Rattle.tp_server.specs.Row.{followed_by, learns, server_row}
use Rattle.tp_server.specs.State.{Server}
use Rattle.tp_server.specs.Verdicts.{version_known, with_pin, with_versions}
use Rattle.tp_store.specs.Contents.{Contents}
use Rattle.tp_store.specs.Rule.{greater, newest_in, with_version}

-- ---- what is kept

-- the number of the version of an administrator that a server knows before the first step
abbrev pub first_known : Scenario → ServerId → AdminId → ℕ
first_known sc at admin = (version_known (opening sc at) admin).0

-- of each administrator a server knows no version below those that its log tells, nor below the one known at first
abbrev pub KnowsTold : Scenario → ServerId → List Record → Server → Type 0
KnowsTold sc at kept s = (admin : AdminId) → IsAdmin sc admin → known_in (first_known sc at admin) admin kept ≤ (version_known s admin).0

-- an act of a server lowers no version that is known, and what it forces tells none above the one known after it
pub record Learns (s : Server) (effect : Effect Server) : Type 0 where
  pub raises : (admin : AdminId) → (version_known s admin).0 ≤ (version_known effect.state admin).0
  pub forces : (admin : AdminId) → admin.0 < length s.store.known → told_by admin effect.reaction.append ≤ (version_known effect.state admin).0

-- before the first step no log tells anything
pub opening_knows : (sc : Scenario) (at : ServerId) → KnowsTold sc at [] (opening sc at)
opening_knows sc at admin exists = omega arith

pub known_count : (admins : List Admin) (versions : List Version) → AreVersionsOf admins versions → length versions ≡ length admins
known_count [] [] h = refl
known_count [] (version ∷ versions) h = absurd h
known_count (admin ∷ admins) [] h = absurd h
known_count (admin ∷ admins) (version ∷ versions) h = ap suc (known_count admins versions h.1)

-- what is forced tells no version above the one known after it
pub learns_told : (sc : Scenario) (s : Server) (effect : Effect Server) (admin : AdminId) → AreVersions sc s.store.known → Learns s effect → IsAdmin sc admin
    → told_by admin effect.reaction.append ≤ (version_known effect.state admin).0
learns_told sc s effect admin versions l exists = l.forces admin (omega (arith, exists, known_count sc.admins s.store.known versions))

-- such an act keeps what is known no less than what is told
pub learns_knows : (sc : Scenario) (at : ServerId) (s : Server) (kept : List Record) (effect : Effect Server) → AreVersions sc s.store.known → KnowsTold sc at kept s → Learns s effect
    → KnowsTold sc at (log_with kept effect.reaction.append) effect.state
learns_knows sc at s kept effect versions h l admin exists =
    omega (arith, known_with (first_known sc at admin) admin kept effect.reaction.append, h admin exists, l.raises admin, learns_told sc s effect admin versions l exists)

-- ---- versions are learnt

greater_least : (one other : Version) (least : ℕ) → least ≤ one.0 → least ≤ (greater one other).0
greater_least one other least h = omega (arith, h)

-- a version that is learnt lowers none that is known
known_least : (store : Contents) (told admin : AdminId) (version : Version) (least : ℕ) → least ≤ (newest_in store admin).0 → least ≤ (newest_in (with_version store told version) admin).0
known_least store told admin version least h =
    set_keeps (λ (known : Version). least ≤ known.0) store.known told.0 admin.0 (greater (newest_in store told) version) (record { 0 = 1 }) h
    (λ same. greater_least (newest_in store told) version least (subst (λ (n : ℕ). least ≤ (unwrap_or (slice_get store.known n) (record { 0 = 1 })).0) (sym same) h))

-- nor do the versions that are wanted
learnt_least : (store : Contents) (want : List (AdminId × Version)) (admin : AdminId) (least : ℕ) → least ≤ (newest_in store admin).0 → least ≤ (newest_in (with_versions store want) admin).0
learnt_least store [] admin least h = h
learnt_least store (wanted ∷ want) admin least h =
    learnt_least (with_version store wanted.0 wanted.1) want admin least (known_least store wanted.0 admin wanted.1 least h)

-- a version that is learnt is known
known_now : (store : Contents) (admin : AdminId) (version : Version) → admin.0 < length store.known → version.0 ≤ (newest_in (with_version store admin version) admin).0
known_now store admin version within =
    let now : (newest_in (with_version store admin version) admin).0 ≡ (greater (newest_in store admin) version).0 =
    ap (λ (found : Option Version). (unwrap_or found (record { 0 = 1 })).0) (set_here store.known admin.0 (greater (newest_in store admin) version) within) in
    omega (arith, now)

-- ---- rows

-- an act that learns nothing, and forces no record that tells a version
still_learns : (s : Server) (effect : Effect Server) → effect.state.store.known ≡ s.store.known → ((admin : AdminId) → told_by admin effect.reaction.append ≡ 0) → Learns s effect
still_learns s effect same none =
    record {
      raises = λ admin. let still = ap (λ (known : List Version). (unwrap_or (slice_get known admin.0) (record { 0 = 1 })).0) same in omega (arith, still);
      forces = λ admin within. let zero_told = none admin in omega (arith, zero_told);
    }

known_found : (found : Option Version) → option_map_or version_number found 0 ≤ (unwrap_or found (record { 0 = 1 })).0
known_found None = omega arith
known_found (Some version) = omega arith

pushed_told : (b : Bool) (store : Contents) (push : PushNotice) (admin : AdminId) → same_admin push.admin admin ≡ b → admin.0 < length store.known
    → (if b then push.version.0 else 0) ≤ (newest_in (with_version store push.admin push.version) admin).0
pushed_told true store push admin same within =
    let here : push.admin.0 ≡ admin.0 = eqb-true push.admin.0 admin.0 same in
    subst (λ (n : ℕ). push.version.0 ≤ (newest_in (with_version store push.admin push.version) (record { 0 = n })).0) here
    (known_now store push.admin push.version (omega (arith, within, here)))
pushed_told false store push admin apart within = omega arith

pushed_learns : (s : Server) (push : PushNotice) → Learns s (learns s push)
pushed_learns s push =
    record {
      raises = λ admin. known_least s.store push.admin admin push.version (version_known s admin).0 (omega arith);
      forces = λ admin within. pushed_told (same_admin push.admin admin) s.store push admin refl within;
    }

-- what waited learns nothing as it goes on
still_followed : (s : Server) (effect further : Effect Server) → further.state.store.known ≡ effect.state.store.known → Learns s effect → Learns s (followed_by effect further)
still_followed s effect further same now =
    let number : (admin : AdminId) → (version_known further.state admin).0 ≡ (version_known effect.state admin).0 = λ admin.
    ap (λ (known : List Version). (unwrap_or (slice_get known admin.0) (record { 0 = 1 })).0) same in
    record {
      raises = λ admin. omega (arith, number admin, now.raises admin);
      forces = λ admin within. omega (arith, number admin, now.forces admin within);
    }

-- nor is one lowered as a query pins one
pin_least : (s : Server) (told admin : AdminId) (pin : Option Version) → (version_known s admin).0 ≤ (version_known (with_pin s told pin) admin).0
pin_least s told admin None = omega arith
pin_least s told admin (Some version) = known_least s.store told admin version (version_known s admin).0 (omega arith)

-- the server then learns one more
pins_learns : (s : Server) (effect : Effect Server) (told : AdminId) (pin : Option Version) → Learns s effect → Learns s (with_learnt effect told pin)
pins_learns s effect told pin now =
    record {
      raises = λ admin. omega (arith, now.raises admin, pin_least effect.state told admin pin);
      forces = λ admin within. omega (arith, now.forces admin within, pin_least effect.state told admin pin);
    }

-- every row of a server
pub row_learns : (sc : Scenario) (s : Server) (mail : Mail) → AreRightWaits sc s → Learns s (server_row sc s mail)
row_learns sc s mail waits =
    server_by sc s mail (Learns s) waits
    (record {
      relocked = λ effect locks k. record { raises = k.raises; forces = k.forces };
      relearnt = λ effect admin pin k. pins_learns s effect admin pin k;
      ignored = still_learns s _ refl (λ admin. refl);
      ran = λ q query entry value proof k r. still_learns s _ (kept_known s.store q query value) (λ admin. refl);
      denied = λ q query entry value verdict k d. still_learns s _ refl (λ admin. refl);
      outdated = λ q query entry value newer k known. still_learns s _ refl (λ admin. refl);
      waited = λ q query entry value k. still_learns s _ refl (λ admin. refl);
      died = λ q query entry value other k dying. still_learns s _ refl (λ admin. refl);
      restarted = λ q k. still_learns s _ refl (λ admin. refl);
      answered = λ q entry given k. still_learns s _ refl (λ admin. refl);
      voted = λ p entry verdicts k. record {
        raises = λ admin. learnt_least s.store p.want admin (version_known s admin).0 (omega arith);
        forces = λ admin within. known_found (slice_get (with_versions s.store p.want).known admin.0);
      };
      shown = λ v entry txn k. record { raises = λ admin. learnt_least s.store v.want admin (version_known s admin).0 (omega arith); forces = λ admin within. omega arith };
      lost_verdicts = λ v k. still_learns s _ refl (λ admin. refl);
      voted_again = λ p entry cast k. still_learns s _ refl (λ admin. refl);
      refused = λ p entry number value k. still_learns s _ (ended_known s.store p.txn outcome.Abort) (λ admin. refl);
      lost = λ p k. still_learns s _ (ended_known s.store p.txn outcome.Abort) (λ admin. refl);
      refused_again = λ p settled why k. still_learns s _ refl (λ admin. refl);
      settled = λ d k. still_learns s _ (ended_known s.store d.txn d.outcome) (λ admin. refl);
      acknowledged = λ d settled k. still_learns s _ refl (λ admin. refl);
      pushed = λ push k. pushed_learns s push;
      resumed = λ effect grant q query entry value proof k r now. still_followed s effect (resuming effect.state q query entry value proof) (kept_known effect.state.store q query value) now;
      resumed_denied = λ effect grant q query entry value verdict k d now. still_followed s effect (refusing effect.state q entry (answer.Denied verdict)) refl now;
      resumed_outdated = λ effect grant q query entry value newer k known now. still_followed s effect (refusing effect.state q entry (answer.Newer newer)) refl now;
    })
