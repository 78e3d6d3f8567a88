-- What holds of each kept reply, over replies and updates.
use Rattle.std.proofs.Common.{◌≡◌, ℕ, Bool, true, false, cond, List, [], ◌∷◌, map, Option, Some, None, refl, ap, sym, ◌∙◌}
use Rattle.std.proofs.lemmas.Bool.{and_parts, eqb-true}
use Rattle.std.specs.Option.{is_none}
use Rattle.tp_model.specs.Words.{AdminId, ServerId, Verdict, Version}
use Rattle.tp_model.specs.Ids.{same_server}
use Rattle.tp_round.specs.declared.round.Target.{Target}
use Rattle.tp_round.specs.Judge.{awaits, is_outdated, new_target, next_target, with_reply}

abbrev pub ForKept : (ServerId → List Verdict → Type 0) → ServerId → Option (List Verdict) → Type 0
ForKept P server None = Unit {0}
ForKept P server (Some verdicts) = P server verdicts

-- each kept reply is as said
abbrev pub EachKept : (ServerId → List Verdict → Type 0) → List Target → Type 0
EachKept P [] = Unit {0}
EachKept P (target ∷ targets) = ForKept P target.server target.reply × EachKept P targets

-- none is kept at the start
pub none_kept : (P : ServerId → List Verdict → Type 0) (servers : List ServerId) → EachKept P (map new_target servers)
none_kept P [] = tt
none_kept P (server ∷ servers) = (tt, none_kept P servers)

reply_where : (P : ServerId → List Verdict → Type 0) (target : Target) (targets more : List Target) (server : ServerId) (verdicts : List Verdict) (b : Bool)
    → P server verdicts → ForKept P target.server target.reply → EachKept P targets → EachKept P more
    → EachKept P (cond b (record { server = server; reply = Some verdicts } ∷ targets) (target ∷ more))
reply_where P target targets more server verdicts true new here each rest = (new, each)
reply_where P target targets more server verdicts false new here each rest = (here, rest)

-- a reply that is as said is kept
pub reply_kept : (P : ServerId → List Verdict → Type 0) (targets : List Target) (server : ServerId) (verdicts : List Verdict) → P server verdicts → EachKept P targets
    → EachKept P (with_reply targets server verdicts)
reply_kept P [] server verdicts new each = tt
reply_kept P (target ∷ targets) server verdicts new each =
    reply_where P target targets (with_reply targets server verdicts) server verdicts (awaits server target) new each.0 each.1
    (reply_kept P targets server verdicts new each.1)

renewed_where : (P : ServerId → List Verdict → Type 0) (target : Target) (b : Bool) → ForKept P target.server target.reply
    → ForKept P (cond b (new_target target.server) target).server (cond b (new_target target.server) target).reply
renewed_where P target true here = tt
renewed_where P target false here = here

-- those that stay after an update were kept before
pub renewed_kept : (P : ServerId → List Verdict → Type 0) (aim : List (AdminId × Version)) (targets : List Target) → EachKept P targets
    → EachKept P (map (next_target aim) targets)
renewed_kept P aim [] each = tt
renewed_kept P aim (target ∷ targets) each = (renewed_where P target (is_outdated aim target) each.0, renewed_kept P aim targets each.1)

-- ---- the servers stay

abbrev pub server_of : Target → ServerId
server_of target = target.server

same_server_where : (target : Target) (b : Bool) → (cond b (new_target target.server) target).server ≡ target.server
same_server_where target true = refl
same_server_where target false = refl

pub servers_renewed : (aim : List (AdminId × Version)) (targets : List Target) → map server_of (map (next_target aim) targets) ≡ map server_of targets
servers_renewed aim [] = refl
servers_renewed aim (target ∷ targets) =
    ap (λ server. server ∷ map server_of (map (next_target aim) targets)) (same_server_where target (is_outdated aim target))
    ∙ ap (λ servers. target.server ∷ servers) (servers_renewed aim targets)

pub same_servers : (one other : ServerId) → same_server one other ≡ true → one ≡ other
same_servers one other e = let make : ℕ → ServerId = λ n. record { 0 = n } in ap make (eqb-true one.0 other.0 e)

servers_where : (target : Target) (targets more : List Target) (server : ServerId) (verdicts : List Verdict) (b : Bool) → awaits server target ≡ b
    → map server_of more ≡ map server_of targets
    → map server_of (cond b (record { server = server; reply = Some verdicts } ∷ targets) (target ∷ more)) ≡ target.server ∷ map server_of targets
servers_where target targets more server verdicts true e on =
    let parts = and_parts (same_server target.server server) (is_none target.reply) e in
    ap (λ one. one ∷ map server_of targets) (sym (same_servers target.server server parts.0))
servers_where target targets more server verdicts false e on = ap (λ servers. target.server ∷ servers) on

pub servers_replied : (targets : List Target) (server : ServerId) (verdicts : List Verdict) → map server_of (with_reply targets server verdicts) ≡ map server_of targets
servers_replied [] server verdicts = refl
servers_replied (target ∷ targets) server verdicts =
    servers_where target targets (with_reply targets server verdicts) server verdicts (awaits server target) refl (servers_replied targets server verdicts)
