-- The servers of a round: who is awaited, and that a reply, a further round and the judgement leave the servers as they are.
use Rattle.std.proofs.Common.{Bool, List, Option, Some, [], ap, cond, false, filter, flat_map, is_none, map, refl, subst, sym, true, ℕ, ◌&&◌, ◌==◌, ◌||◌, ◌∙◌, ◌∷◌, ◌≡◌}
use Rattle.std.proofs.lemmas.Bool.{and_parts, eqb-true, or_left, or_parts, or_right}
use Rattle.std.specs.List.{list_any, range_with_len}
use Rattle.tp_types.proofs.EachLemmas.{by_cond, each_append, each_filter}
use Rattle.tp_types.proofs.ListLemmas.{number_itself}
use Rattle.tp_types.specs.Each.{Each}
use Rattle.tp_model.specs.Ids.{same_server}
use Rattle.tp_model.specs.Words.{AdminId, Reading, ServerId, Verdict, Version}
use Rattle.tp_round.specs.Judge.{after, after_judgement, aim_in, awaits, is_awaited, is_missing, is_outdated, judge, met_in, mets_in, new_target, next_round, next_target, server_of_target, with_reply}
use Rattle.tp_round.specs.Replies.{by_query, is_at_query}
use Rattle.tp_round.specs.declared.round.Judged.TheVariants as judged
use Rattle.tp_round.specs.declared.round.Round.{Round}
use Rattle.tp_round.specs.declared.round.Target.{Target}
use Rattle.tp_round.specs.declared.round.Wanted.{Wanted}
use Rattle.tp_runs.proofs.basics.Ids.{same_server_is, server_number}

-- the server is one of these
abbrev pub is_in : List ServerId → ServerId → Bool
is_in servers server = list_any (λ (other : ServerId). other.0 == server.0) servers

-- of these servers of a round, those whose replies are awaited
abbrev pub missing_in : List Target → List ServerId
missing_in targets = map server_of_target (filter is_missing targets)

-- ---- what holds of each server of a round

abbrev pub EachServer : (ServerId → Type 0) → List Target → Type 0
EachServer K targets = Each (λ (target : Target). K target.server) targets

pub each_started : (K : ServerId → Type 0) (servers : List ServerId) → Each K servers → EachServer K (map new_target servers)
each_started K [] h = tt
each_started K (server ∷ servers) h = (h.0, each_started K servers h.1)

pub each_missing : (K : ServerId → Type 0) (targets : List Target) → EachServer K targets → Each K (missing_in targets)
each_missing K [] h = tt
each_missing K (target ∷ targets) h =
    by_cond (λ (left : List Target). Each K (map server_of_target left)) (is_missing target) (λ e. (h.0, each_missing K targets h.1)) (λ e. each_missing K targets h.1)

pub each_replied : (K : ServerId → Type 0) (targets : List Target) (server : ServerId) (verdicts : List Verdict) → EachServer K targets → EachServer K (with_reply targets server verdicts)
each_replied K [] server verdicts h = tt
each_replied K (target ∷ targets) server verdicts h =
    by_cond (EachServer K) (awaits server target)
    (λ e. (subst K (same_server_is target.server server (and_parts (same_server target.server server) (is_none target.reply) e).0) h.0, h.1))
    (λ e. (h.0, each_replied K targets server verdicts h.1))

renewed_server : (aim : List (AdminId × Version)) (target : Target) → (next_target aim target).server ≡ target.server
renewed_server aim target = by_cond (λ (t : Target). t.server ≡ target.server) (is_outdated aim target) (λ e. refl) (λ e. refl)

pub each_renewed : (K : ServerId → Type 0) (aim : List (AdminId × Version)) (targets : List Target) → EachServer K targets → EachServer K (map (next_target aim) targets)
each_renewed K aim [] h = tt
each_renewed K aim (target ∷ targets) h = (subst K (sym (renewed_server aim target)) h.0, each_renewed K aim targets h.1)

-- ---- who is awaited

-- the awaited servers, by whether the first is
abbrev missing_from : Bool → Target → List Target → List ServerId
missing_from m target targets = map server_of_target (cond m (target ∷ filter is_missing targets) (filter is_missing targets))

here_or_later : (b rest left : Bool) (server at : ServerId) → (rest ≡ true → left ≡ false → at ≡ server) → (b || rest) ≡ true → (b || left) ≡ false → at ≡ server
here_or_later true rest left server at later g l = absurd (cc)
here_or_later false rest left server at later g l = later g l

replied_here : (target : Target) (b rest : Bool) (server at : ServerId) → (target.server.0 == at.0) ≡ b → same_server target.server server ≡ true → (b || rest) ≡ true → rest ≡ false → at ≡ server
replied_here target true rest server at k s g l = sym (same_server_is target.server at k) ∙ same_server_is target.server server s
replied_here target false rest server at k s g l = absurd (cc)

replied_by : (target : Target) (targets more : List Target) (server at : ServerId) (verdicts : List Verdict) (m s : Bool) → is_missing target ≡ m → same_server target.server server ≡ s
    → (is_in (missing_in targets) at ≡ true → is_in (missing_in more) at ≡ false → at ≡ server) → is_in (missing_from m target targets) at ≡ true
    → is_in (missing_in (cond (s && m) (record { server = server; reply = Some verdicts } ∷ targets) (target ∷ more))) at ≡ false → at ≡ server
replied_by target targets more server at verdicts true true d k later g l = replied_here target (target.server.0 == at.0) (is_in (missing_in targets) at) server at refl k g l
replied_by target targets more server at verdicts true false d k later g l =
    here_or_later (target.server.0 == at.0) (is_in (missing_in targets) at) (is_in (missing_in more) at) server at later g (ap (λ (m : Bool). is_in (missing_from m target more) at) (sym d) ∙ l)
replied_by target targets more server at verdicts false true d k later g l = later g (ap (λ (m : Bool). is_in (missing_from m target more) at) (sym d) ∙ l)
replied_by target targets more server at verdicts false false d k later g l = later g (ap (λ (m : Bool). is_in (missing_from m target more) at) (sym d) ∙ l)

-- a server that is awaited no more is the one that replied
pub replied_is : (targets : List Target) (server at : ServerId) (verdicts : List Verdict) → is_in (missing_in targets) at ≡ true → is_in (missing_in (with_reply targets server verdicts)) at ≡ false → at ≡ server
replied_is [] server at verdicts e f = absurd (cc)
replied_is (target ∷ targets) server at verdicts e f =
    replied_by target targets (with_reply targets server verdicts) server at verdicts (is_missing target) (same_server target.server server) refl refl (replied_is targets server at verdicts) e f

-- where no reply is missing nobody is awaited
pub none_missing : (targets : List Target) → list_any is_missing targets ≡ false → missing_in targets ≡ []
none_missing [] e = refl
none_missing (target ∷ targets) e =
    let parts = or_parts (is_missing target) (list_any is_missing targets) e in
    ap (λ (m : Bool). map server_of_target (cond m (target ∷ filter is_missing targets) (filter is_missing targets))) parts.0 ∙ none_missing targets parts.1

all_of : (some whole : List ServerId) → ((at : ServerId) → is_in some at ≡ true → is_in whole at ≡ true) → Each (λ (at : ServerId). is_in whole at ≡ true) some
all_of [] whole into = tt
all_of (first ∷ others) whole into =
    (into first (or_left (first.0 == first.0) (is_in others first) (number_itself first.0)), all_of others whole (λ at e. into at (or_right (first.0 == at.0) (is_in others at) e)))

-- each member of a list is in it
pub all_in : (servers : List ServerId) → Each (λ (at : ServerId). is_in servers at ≡ true) servers
all_in servers = all_of servers servers (λ at e. e)

-- ---- an update

-- after an update the next round has begun
pub updated_is : (round : Round) (reading : Option Reading) (named : List Wanted) → judge round reading ≡ judged.Update named
    → after_judgement round reading ≡ next_round round (aim_in round reading) named (mets_in round (met_in round reading))
updated_is round reading named e = ap (after round (aim_in round reading) (met_in round reading)) e

-- ---- proofs by query

each_of_numbers : (P : Verdict → Type 0) (proofs : List Verdict) (numbers : List ℕ) → Each P proofs → Each P (flat_map (λ (number : ℕ). filter (is_at_query number) proofs) numbers)
each_of_numbers P proofs [] h = tt
each_of_numbers P proofs (number ∷ numbers) h =
    each_append P (filter (is_at_query number) proofs) (flat_map (λ (other : ℕ). filter (is_at_query other) proofs) numbers) (each_filter P (is_at_query number) proofs h) (each_of_numbers P proofs numbers h)

-- what is so of all proofs is so of those by query
pub each_by_query : (P : Verdict → Type 0) (proofs : List Verdict) → Each P proofs → Each P (by_query proofs)
unfolding by_query
each_by_query P proofs h = each_of_numbers P proofs (range_with_len 1 16) h

-- a server that is awaited is one of those of a round
pub awaited_holds : (K : ServerId → Type 0) (targets : List Target) (server : ServerId) → EachServer K targets → is_awaited targets server ≡ true → K server
awaited_holds K [] server h e = absurd (cc)
awaited_holds K (target ∷ targets) server h e = by_first (awaits server target) refl e (awaited_holds K targets server h.1)
  where
    by_first : (b : Bool) → awaits server target ≡ b → (b || list_any (awaits server) targets) ≡ true → (list_any (awaits server) targets ≡ true → K server) → K server
    by_first true f g rest = subst K (ap server_number (eqb-true target.server.0 server.0 (and_parts (same_server target.server server) (is_none target.reply) f).0)) h.0
    by_first false f g rest = rest g
