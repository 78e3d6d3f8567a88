-- The server votes: it forces what its entry has, and its vote YES is sent.
use Rattle.std.proofs.Common.{Contains, List, Some, [], ap, arith, inl, inr, is_some, option_map, refl, subst, sym, true, ℕ, ⊎_elim, ◌+◌, ◌<◌, ◌∙◌, ◌≡◌, ◌≤◌, ◌⊎◌}
use Rattle.std.proofs.lemmas.Option.{same_Some}
use Rattle.tp_model.specs.Words.{Deed, PrepareRequest, Prepared, QueryRequest, Verdict}
use Rattle.std.proofs.lemmas.Bool.{cases_lt}
use Rattle.tp_runs.proofs.basics.Verdicts.{numbers_of}
use Rattle.tp_server.specs.declared.server.Ballot.{Ballot}
use Rattle.tp_server.specs.declared.server.Entry.{Entry}
use Rattle.tp_runs.proofs.pairs.Entries.{down_none, settled_none}
use Rattle.tp_runs.proofs.pairs.Fits.{AreNoneOrAll, AskerFits, Covers, EntryFits, Fits, IsFront, IsGone, IsThere, Made, PrepareFits, PrepareLive, There, Waits}
use Rattle.tp_runs.proofs.pairs.Follows.{Follows, Next, answers_follow, follows_lost, onward_same}
use Rattle.tp_runs.proofs.basics.Found.{of_some, some_as}
use Rattle.tp_runs.proofs.pairs.Loses.{Loses, asker_lost, loses_same, same_held}
use Rattle.tp_runs.proofs.pairs.Moves.{same_entry}
use Rattle.tp_runs.proofs.pairs.Pair.{Asker, Pair, entry_held, held, held_up, numbers, prepared_held}
use Rattle.tp_runs.proofs.pairs.Ran.{front_covered, unanswered}
use Rattle.tp_runs.proofs.pairs.Site.{Site, count, here_within, past_last, upto, upto_same}
use Rattle.tp_server.specs.Row.{ballot_of}

-- ---- a request to prepare

-- what is there of the epoch that a request to prepare names covers all numbers at the server
pub full_covers : (s : Site) (p : Pair) (r : PrepareRequest) (epoch : ℕ) (deeds : List Deed) → PrepareFits s p r → epoch ≡ r.epoch → IsThere p epoch deeds → Covers s (count s) deeds
full_covers s p r epoch deeds h same found =
    ⊎_elim (λ (t : There p r.epoch (Covers s (count s))). subst (Covers s (count s)) (same_held p r.epoch epoch t.deeds deeds t.found found) t.says)
    (λ (g : IsGone p r.epoch). absurd (g.none deeds (subst (λ (n : ℕ). IsThere p n deeds) same found)))
    h.covers

-- the first deeds at the server that cover all numbers have just these
pub front_full : (s : Site) (deeds : List Deed) → IsFront s deeds → Covers s (count s) deeds → numbers deeds ≡ upto s (count s)
front_full s deeds front covers =
    ⊎_elim (λ (less : count s < front.last). front.numbers_are ∙ upto_same s (count s) front.last (omega (arith, less)) (λ number above below. past_last s number above))
    (λ (most : front.last ≤ count s). front_covered s deeds (count s) front covers most)
    (cases_lt (count s) front.last)

-- an entry of that epoch has just the deeds of the queries at the server
pub full_deeds : (s : Site) (p : Pair) (entry : Entry) (r : PrepareRequest) → Fits s p → PrepareFits s p r → entry.epoch ≡ r.epoch → IsThere p entry.epoch entry.deeds → numbers entry.deeds ≡ upto s (count s)
full_deeds s p entry r h asked same found = front_full s entry.deeds (h.server.front (entry_held entry) found) (full_covers s p r entry.epoch entry.deeds asked same found)

-- so it has some
pub has_deeds : (s : Site) (p : Pair) (entry : Entry) (r : PrepareRequest) → p.up ≡ true → p.entry ≡ Some entry → Fits s p → PrepareFits s p r → entry.epoch ≡ r.epoch → entry.deeds ≡ [] → ⊥
has_deeds s p entry r up is h asked same none =
    let found : IsThere p entry.epoch entry.deeds = held_up p.up p.entry p.prepared up ∙ ap (option_map entry_held) is in
    asked.some (sym (full_deeds s p entry r h asked same found) ∙ ap numbers none)

-- no query waits at an entry of that epoch
pub none_waits : (s : Site) (p : Pair) (entry : Entry) (r : PrepareRequest) (w : QueryRequest) → EntryFits s p entry → PrepareFits s p r → entry.epoch ≡ r.epoch → IsThere p entry.epoch entry.deeds → Waits s p entry w → ⊥
none_waits s p entry r w h full same found waits =
    let before = waits.fits.before in
    let within = here_within s (before + 1) waits.fits.is_here in
    let has : Contains (numbers entry.deeds) (before + 1) = full_covers s p r entry.epoch entry.deeds full same found (before + 1) within.0 within.1 waits.fits.is_here in
    unanswered s p entry w h waits (subst (Contains (numbers entry.deeds)) (sym waits.fits.number_is) has)

-- ---- the vote is forced

-- verdicts on just these deeds, in order, or none
abbrev pub AreNoneOrOn : List Deed → List Verdict → Type 0
AreNoneOrOn deeds verdicts = (verdicts ≡ []) ⊎ (numbers_of verdicts ≡ numbers deeds)

-- what is forced is what the entry has, with a verdict on each of its deeds or none
pub record IsVoteOn (entry : Entry) (prepared : Prepared) : Type 0 where
  pub epoch : prepared.epoch ≡ entry.epoch
  pub deeds : prepared.deeds ≡ entry.deeds
  pub verdicts : AreNoneOrOn entry.deeds prepared.verdicts

abbrev pub with_ballot : Entry → Ballot → Entry
with_ballot entry ballot = record entry { ballot = Some ballot }

abbrev pub forced : Pair → Entry → Prepared → Pair
forced p entry prepared = record p { entry = Some (with_ballot entry (ballot_of prepared)); prepared = Some prepared }

vote_held : (entry : Entry) (prepared : Prepared) → IsVoteOn entry prepared → prepared_held prepared ≡ entry_held entry
vote_held entry prepared is =
    let first : prepared_held prepared ≡ record { epoch = entry.epoch; deeds = prepared.deeds } = ap (λ (e : ℕ). record { epoch = e; deeds = prepared.deeds }) is.epoch in
    let second : record { epoch = entry.epoch; deeds = prepared.deeds } ≡ entry_held entry = ap (λ (deeds : List Deed). record { epoch = entry.epoch; deeds = deeds }) is.deeds in
    first ∙ second

-- verdicts on all deeds are on all queries at the server
none_or_all : (s : Site) (deeds : List Deed) (verdicts : List Verdict) → numbers deeds ≡ upto s (count s) → AreNoneOrOn deeds verdicts → AreNoneOrAll s verdicts
none_or_all s deeds verdicts full (inl none) = inl none
none_or_all s deeds verdicts full (inr on) = inr (on ∙ full)

-- the first vote YES, or a later one in a greater turn
pub forces : (s : Site) (p : Pair) (entry : Entry) (r : PrepareRequest) (prepared : Prepared) → p.up ≡ true → p.entry ≡ Some entry → Fits s p → PrepareFits s p r → entry.epoch ≡ r.epoch → IsVoteOn entry prepared
    → Next s p (forced p entry prepared)
forces s p entry r prepared up is h asked epoch on =
    let new = with_ballot entry (ballot_of prepared) in
    let q = forced p entry prepared in
    let old : EntryFits s p entry = of_some (EntryFits s p) p.entry entry is h.entry in
    let found : IsThere p entry.epoch entry.deeds = held_up p.up p.entry p.prepared up ∙ ap (option_map entry_held) is in
    let all : AreNoneOrAll s prepared.verdicts = none_or_all s entry.deeds prepared.verdicts (full_deeds s p entry r h asked epoch found) on.verdicts in
    let now : IsThere q entry.epoch entry.deeds = held_up p.up (Some new) (Some prepared) up in
    let same : held q ≡ held p = now ∙ sym found in
    let loses : Loses p q = loses_same p q same refl refl refl in
    let f : Follows p q = follows_lost p q loses (onward_same p.asker) in
    let made : (a : Asker) → p.asker ≡ Some a → (other : Prepared) → Some prepared ≡ Some other → Made a other = λ a there other e.
    let live : PrepareLive r a = of_some (PrepareLive r) p.asker a there asked.live in
    subst (Made a) (same_Some prepared other e) (record { epoch = live.epoch ∙ ap Some (sym epoch ∙ sym on.epoch); prepares = live.prepares }) in
    record {
      fits = record {
        server = record {
          down = λ down. absurd (down_none s p entry is h.server down);
          settled = λ settled. absurd (settled_none s p entry is h.server settled);
          votes = λ u. ap Some (vote_held entry prepared on);
          past = λ x there. h.server.past x (sym same ∙ there);
          front = λ x there. h.server.front x (sym same ∙ there);
          voted = λ voted there. refl;
          verdicts = λ other e. subst (λ (made : Prepared). AreNoneOrAll s made.verdicts) (same_Some prepared other e) all;
        };
        asker = some_as (AskerFits s p) (AskerFits s q) p.asker (λ a there fits. asker_lost s p q a loses (made a there) fits.unsettled fits) h.asker;
        entry = record {
          waiting = some_as (Waits s p entry) (Waits s q new) entry.waiting (λ w there waits. absurd (none_waits s p entry r w old asked epoch found waits)) old.waiting;
          answers = answers_follow s p q entry.answers f old.answers;
          answered = λ unvoted. absurd (cc);
          present = λ unvoted. absurd (cc);
          ballot = all;
        };
      };
      follows = f;
    }

-- ---- the vote is sent

abbrev pub with_vote : Pair → Pair
with_vote p = record p { voted = true }

-- a vote YES is sent while something is prepared
pub votes : (s : Site) (p : Pair) → is_some p.prepared ≡ true → Fits s p → Next s p (with_vote p)
votes s p prepared h =
    let q = with_vote p in
    let loses : Loses p q = loses_same p q refl refl refl refl in
    let f : Follows p q = follows_lost p q loses (onward_same p.asker) in
    record {
      fits = record {
        server = record {
          down = h.server.down;
          settled = h.server.settled;
          votes = h.server.votes;
          past = h.server.past;
          front = h.server.front;
          voted = λ voted there. prepared;
          verdicts = h.server.verdicts;
        };
        asker = some_as (AskerFits s p) (AskerFits s q) p.asker (λ a there fits. asker_lost s p q a loses fits.made fits.unsettled fits) h.asker;
        entry = same_entry s p q f refl h.entry;
      };
      follows = f;
    }
