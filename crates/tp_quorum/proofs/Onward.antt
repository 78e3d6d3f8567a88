-- What an operation does on receipt of a reply, as the potential sees it: what it sends weighs no more than what it loses,
-- and each replica that has answered, or will, has answered in the next phase, or will.
use Rattle.std.proofs.Common.{◌≡◌, ◌⊎◌, inl, inr, ℕ, ◌+◌, ◌*◌, ◌<◌, ◌≤◌, List, [], ◌∷◌, length, slice_get, slice_set, Bool, true, false, Some, None, zero, suc, refl, sym, ap, subst, arith, ◌∙◌, if◌then◌else◌}
use Rattle.tp_quorum.proofs.Lists.{same_length, set_got, set_length, set_other, some_within}
use Rattle.std.proofs.lemmas.Bool.{cases_eq}
use Rattle.tp_quorum.proofs.Potential.{HasFlag, IsOfPhase, phase_weight, timer_weight}
use Rattle.tp_quorum.proofs.Sums.{requests_most, weights_of}
use Rattle.tp_quorum.specs.Operations.{fetched, greater_of, hears, is_awaited, is_awaited_flag, is_running_in, most_answered, none_yet, requests, stored, to_all, waits}
use Rattle.tp_quorum.specs.Machine.{is_request}
use Rattle.tp_quorum.specs.Words.{AdminId, Heard, Phase, QBody, QMail, Version}
use Rattle.tp_quorum.specs.Words.body
use Rattle.tp_quorum.specs.Words.phase
use Rattle.tp_quorum.specs.Words.what

-- ---- requests

-- a replica that has not answered is asked
pub request_there : (op : ℕ) (asked : QBody) (answered : List Bool) (first r : ℕ) → slice_get answered r ≡ Some false → (place : ℕ) × (slice_get (requests op asked first answered) place ≡ Some (record { op = op; replica = first + r; body = asked }))
request_there op asked [] first r e = absurd (cc)
request_there op asked (true ∷ answered) first zero e = absurd (cc)
request_there op asked (true ∷ answered) first (suc r) e =
    let found = request_there op asked answered (first + 1) r e in
    let same : (first + 1) + r ≡ first + suc r = omega arith in
    (found.0, found.1 ∙ ap (λ (k : ℕ). Some (record { op = op; replica = k; body = asked })) same)
request_there op asked (false ∷ answered) first zero e =
    let same : first ≡ first + 0 = omega arith in
    (0, ap (λ (k : ℕ). Some (record { op = op; replica = k; body = asked })) same)
request_there op asked (false ∷ answered) first (suc r) e =
    let found = request_there op asked answered (first + 1) r e in
    let same : (first + 1) + r ≡ first + suc r = omega arith in
    (suc found.0, found.1 ∙ ap (λ (k : ℕ). Some (record { op = op; replica = k; body = asked })) same)

-- there is a flag for each replica
pub flag_there : (answered : List Bool) (r : ℕ) → r < length answered → (slice_get answered r ≡ Some true) ⊎ (slice_get answered r ≡ Some false)
flag_there answered r within = let there = some_within answered r within in by there.0 there.1
  where
    by : (b : Bool) → slice_get answered r ≡ Some b → (slice_get answered r ≡ Some true) ⊎ (slice_get answered r ≡ Some false)
    by true e = inl e
    by false e = inr e

none_there : (replicas r : ℕ) → r < replicas → slice_get (none_yet replicas) r ≡ Some false
none_there zero r within = absurd (omega (arith, within))
none_there (suc replicas) zero within = refl
none_there (suc replicas) (suc r) within = none_there replicas r (omega (arith, within))

-- one of these mails is a mail of this phase, to or from the replica
pub record IsSent (sent : List QMail) (op r : ℕ) (now : Phase) : Type 0 where
  pub place : ℕ
  pub said : QBody
  pub is_there : slice_get sent place ≡ Some (record { op = op; replica = r; body = said })
  pub of_phase : IsOfPhase now said

-- all replicas are asked to store
pub stores_sent : (op : ℕ) (admin : AdminId) (version : Version) (replicas r : ℕ) → r < replicas → IsSent (to_all op (body.Store admin version) replicas) op r (phase.Storing version (none_yet replicas))
stores_sent op admin version replicas r within =
    let found = request_there op (body.Store admin version) (none_yet replicas) 0 r (none_there replicas r within) in
    let same : 0 + r ≡ r = omega arith in
    record {
      place = found.0;
      said = body.Store admin version;
      is_there = found.1 ∙ ap (λ (k : ℕ). Some (record { op = op; replica = k; body = body.Store admin version })) same;
      of_phase = tt;
    }

-- there is a flag for each of so many replicas
abbrev pub HasFlags : ℕ → Phase → Type 0
HasFlags replicas (phase.Fetching greatest answered) = length answered ≡ replicas
HasFlags replicas (phase.Storing version answered) = length answered ≡ replicas
HasFlags replicas (phase.Ended version) = Unit {0}

-- ---- a reply

-- the operation goes on: while it runs
pub record Onward (replicas op r : ℕ) (now : Phase) (said : QBody) (heard : Heard) : Type 0 where
  pub weight : (covered : Bool) → phase_weight replicas covered heard.next + weights_of heard.sent ≤ phase_weight replicas covered now
  pub ran : is_running_in heard.next ≡ true → is_running_in now ≡ true
  pub flag : is_running_in heard.next ≡ true → (k : ℕ) → k < replicas → HasFlag now k → HasFlag heard.next k ⊎ IsSent heard.sent op k heard.next
  pub way : is_running_in heard.next ≡ true → (k : ℕ) → k < replicas → (other : QBody) → IsOfPhase now other → IsOfPhase heard.next other ⊎ IsSent heard.sent op k heard.next
  pub own : is_running_in heard.next ≡ true → r < replicas → IsOfPhase now said → HasFlag heard.next r ⊎ IsSent heard.sent op r heard.next

waits_onward : (replicas op r : ℕ) (now : Phase) (said : QBody) → (is_running_in now ≡ true → r < replicas → IsOfPhase now said → HasFlag now r) → Onward replicas op r now said (waits now)
waits_onward replicas op r now said flagged = record {
  weight = λ covered. omega arith;
  ran = λ runs. runs;
  flag = λ runs k within flag. inl flag;
  way = λ runs k within other of_phase. inl of_phase;
  own = λ runs within of_phase. inl (flagged runs within of_phase);
}

-- who is not awaited has answered
not_awaited : (answered : List Bool) (replicas r : ℕ) → length answered ≡ replicas → r < replicas → is_awaited answered r ≡ false → slice_get answered r ≡ Some true
not_awaited answered replicas r count within none =
    elim (flag_there answered r (omega (arith, count, within))) [
      | inl flag ↦ flag
      | inr awaited ↦ absurd (let yes : is_awaited answered r ≡ true = ap is_awaited_flag awaited in cc)
    ]

-- a flag that is set stays, and the replica's own is set
more_flags : (answered : List Bool) (r k : ℕ) → slice_get answered k ≡ Some true → slice_get (slice_set answered r true) k ≡ Some true
more_flags answered r k e =
    elim (cases_eq k r) [
      | inl same ↦
          let there : slice_get answered r ≡ Some true = subst (λ (n : ℕ). slice_get answered n ≡ Some true) same e in
          subst (λ (n : ℕ). slice_get (slice_set answered r true) n ≡ Some true) (sym same) (set_got answered r true true there)
      | inr other ↦ set_other answered r k true other ∙ e
    ]

own_flag : (answered : List Bool) (replicas r : ℕ) → length answered ≡ replicas → r < replicas → slice_get (slice_set answered r true) r ≡ Some true
own_flag answered replicas r count within = let there = some_within answered r (omega (arith, count, within)) in set_got answered r there.0 true there.1

all_sent_weigh : (op : ℕ) (asked : QBody) (replicas : ℕ) → weights_of (to_all op asked replicas) ≤ 2 * replicas
all_sent_weigh op asked replicas = omega (arith, requests_most op asked 0 (none_yet replicas), same_length replicas false)

fetched_onward : (replicas op r : ℕ) (admin : AdminId) (greatest version : Version) (answered flags : List Bool) → length answered ≡ replicas → length flags ≡ replicas → ((k : ℕ) → slice_get answered k ≡ Some true → slice_get flags k ≡ Some true)
    → (r < replicas → slice_get flags r ≡ Some true) → (said : QBody) → Onward replicas op r (phase.Fetching greatest answered) said (fetched op admin version flags)
fetched_onward replicas op r admin greatest version answered flags count length_is more own said = by (most_answered flags)
  where
    sent_to : (k : ℕ) → k < replicas → IsSent (to_all op (body.Store admin version) (length flags)) op k (phase.Storing version (none_yet (length flags)))
    sent_to k within = stores_sent op admin version (length flags) k (omega (arith, within, length_is))

    weighs : (covered : Bool) → timer_weight replicas covered + weights_of (to_all op (body.Store admin version) (length flags)) ≤ 2 * replicas + timer_weight replicas covered
    weighs covered = omega (arith, all_sent_weigh op (body.Store admin version) (length flags), length_is)

    by : (b : Bool) → Onward replicas op r (phase.Fetching greatest answered) said (if b
        then record { next = phase.Storing version (none_yet (length flags)); happened = None; sent = to_all op (body.Store admin version) (length flags) }
        else waits (phase.Fetching version flags))
    by true = record {
      weight = weighs;
      ran = λ runs. refl;
      flag = λ runs k within flag. inr (sent_to k within);
      way = λ runs k within other of_phase. inr (sent_to k within);
      own = λ runs within of_phase. inr (sent_to r within);
    }
    by false = record {
      weight = λ covered. omega arith;
      ran = λ runs. refl;
      flag = λ runs k within flag. inl (more k flag);
      way = λ runs k within other of_phase. inl (still other of_phase);
      own = λ runs within of_phase. inl (own within);
    }
      where
        still : (other : QBody) → IsOfPhase (phase.Fetching greatest answered) other → IsOfPhase (phase.Fetching version flags) other
        still (body.Fetch a) of_phase = tt
        still (body.Has v) of_phase = tt
        still (body.Store a v) of_phase = of_phase
        still body.Stored of_phase = of_phase

stored_onward : (replicas op r : ℕ) (version : Version) (answered flags : List Bool) → ((k : ℕ) → slice_get answered k ≡ Some true → slice_get flags k ≡ Some true) → (r < replicas → slice_get flags r ≡ Some true) → (said : QBody)
    → Onward replicas op r (phase.Storing version answered) said (stored op version flags)
stored_onward replicas op r version answered flags more own said = by (most_answered flags)
  where
    by : (b : Bool) → Onward replicas op r (phase.Storing version answered) said (if b then record { next = phase.Ended version; happened = Some (what.Ended op version); sent = [] } else waits (phase.Storing version flags))
    by true = record {
      weight = λ covered. omega arith;
      ran = λ runs. refl;
      flag = λ runs k within flag. absurd (let no : false ≡ true = runs in cc);
      way = λ runs k within other of_phase. absurd (let no : false ≡ true = runs in cc);
      own = λ runs within of_phase. absurd (let no : false ≡ true = runs in cc);
    }
    by false = record {
      weight = λ covered. omega arith;
      ran = λ runs. refl;
      flag = λ runs k within flag. inl (more k flag);
      way = λ runs k within other of_phase. inl (still other of_phase);
      own = λ runs within of_phase. inl (own within);
    }
      where
        still : (other : QBody) → IsOfPhase (phase.Storing version answered) other → IsOfPhase (phase.Storing version flags) other
        still (body.Fetch a) of_phase = of_phase
        still (body.Has v) of_phase = of_phase
        still (body.Store a v) of_phase = tt
        still body.Stored of_phase = tt

set_count : (answered : List Bool) (r replicas : ℕ) → length answered ≡ replicas → length (slice_set answered r true) ≡ replicas
set_count answered r replicas count = set_length answered r true ∙ count

pub hears_onward : (replicas op : ℕ) (admin : AdminId) (r : ℕ) (now : Phase) → HasFlags replicas now → (said : QBody) → is_request said ≡ false → Onward replicas op r now said (hears op admin r now said)
hears_onward replicas op admin r (phase.Fetching greatest answered) count (body.Has version) reply = by (is_awaited answered r) refl
  where
    by : (b : Bool) → is_awaited answered r ≡ b → Onward replicas op r (phase.Fetching greatest answered) (body.Has version) (if b then fetched op admin (greater_of greatest version) (slice_set answered r true) else waits (phase.Fetching greatest answered))
    by true e = fetched_onward replicas op r admin greatest (greater_of greatest version) answered (slice_set answered r true) count (set_count answered r replicas count) (more_flags answered r) (own_flag answered replicas r count) (body.Has version)
    by false e = waits_onward replicas op r (phase.Fetching greatest answered) (body.Has version) (λ runs within of_phase. not_awaited answered replicas r count within e)
hears_onward replicas op admin r (phase.Storing version answered) count body.Stored reply = by (is_awaited answered r) refl
  where
    by : (b : Bool) → is_awaited answered r ≡ b → Onward replicas op r (phase.Storing version answered) body.Stored (if b then stored op version (slice_set answered r true) else waits (phase.Storing version answered))
    by true e = stored_onward replicas op r version answered (slice_set answered r true) (more_flags answered r) (own_flag answered replicas r count) body.Stored
    by false e = waits_onward replicas op r (phase.Storing version answered) body.Stored (λ runs within of_phase. not_awaited answered replicas r count within e)
hears_onward replicas op admin r (phase.Fetching greatest answered) count (body.Fetch a) reply = absurd (cc)
hears_onward replicas op admin r (phase.Fetching greatest answered) count (body.Store a v) reply = absurd (cc)
hears_onward replicas op admin r (phase.Fetching greatest answered) count body.Stored reply = waits_onward replicas op r (phase.Fetching greatest answered) body.Stored (λ runs within of_phase. absurd of_phase)
hears_onward replicas op admin r (phase.Storing version answered) count (body.Fetch a) reply = absurd (cc)
hears_onward replicas op admin r (phase.Storing version answered) count (body.Has v) reply = waits_onward replicas op r (phase.Storing version answered) (body.Has v) (λ runs within of_phase. absurd of_phase)
hears_onward replicas op admin r (phase.Storing version answered) count (body.Store a v) reply = absurd (cc)
hears_onward replicas op admin r (phase.Ended version) count said reply = waits_onward replicas op r (phase.Ended version) said (λ runs within of_phase. absurd (let no : false ≡ true = runs in cc))
