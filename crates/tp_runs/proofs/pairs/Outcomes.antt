-- What follows at a vote YES, and once a request to prepare was sent.
use Rattle.std.proofs.Common.{◌≡◌, inr, ℕ, ◌==◌, List, [], ◌∷◌, filter, length, slice_get, Bool, true, false, cond, Option, Some, None, is_some, option_map, refl, sym, ap, ◌∙◌, arith}
use Rattle.std.specs.Option.{option_map_or}
use Rattle.std.proofs.lemmas.Bool.{true_from_ne_false}
use Rattle.tp_model.specs.Words.{Deed, Item, PrepareRequest, Prepared, Query, QueryRequest}
use Rattle.tp_server.specs.declared.server.Entry.{Entry}
use Rattle.tp_types.specs.Each.{Each}
use Rattle.tp_model.specs.Queries.{is_at_server}
use Rattle.tp_runs.proofs.basics.Phases.{Rests}
use Rattle.tp_runs.proofs.pairs.Answered.{there_matches}
use Rattle.tp_runs.proofs.pairs.Ends.{prepared_there}
use Rattle.tp_runs.proofs.pairs.Entries.{down_none}
use Rattle.tp_runs.proofs.pairs.Fits.{AskerFits, EntryFits, Fits, IsThere, PrepareFits, Waits}
use Rattle.tp_runs.proofs.basics.Found.{of_some}
use Rattle.tp_runs.proofs.pairs.Moves.{matched}
use Rattle.tp_runs.proofs.pairs.Pair.{Asker, Held, Pair, entry_held, got, held, held_up, is_here, numbers}
use Rattle.tp_runs.proofs.pairs.Site.{Site, count, upto}
use Rattle.tp_runs.proofs.pairs.Votes.{front_full, full_covers, none_waits}
use Rattle.tp_runs.proofs.deeds.Joined.{is_at, share_at}
use Rattle.tp_runs.proofs.deeds.Runs.{IsDeedOf, RunsSoFar, runs_each}

-- ---- the opening

-- a coordinator that has not begun, and a server without an entry
abbrev pub opening : ℕ → ℕ → Pair
opening epoch turn =
    record {
      epoch = epoch;
      up = true;
      settled = false;
      voted = false;
      entry = None;
      prepared = None;
      asker = Some (record { stand = Rests; turn = turn; epoch = None; deeds = [] });
    }

pub opening_fits : (s : Site) (epoch turn : ℕ) → Fits s (opening epoch turn)
opening_fits s epoch turn =
    record {
      server = record {
        down = λ down. refl;
        settled = λ settled. (refl, refl);
        votes = λ up. refl;
        past = λ x found. absurd (cc);
        front = λ x found. absurd (cc);
        voted = λ voted there. absurd (cc);
        verdicts = λ prepared e. absurd (cc);
      };
      asker = record {
        numbers_are = refl;
        runs = tt;
        pairing = record { none = refl; there = λ x found. absurd (cc) };
        made = λ prepared e. absurd (cc);
        least = λ asks. absurd (cc);
        most = omega arith;
        all = λ prepares. absurd (cc);
        unsettled = λ ended. absurd (cc);
      };
      entry = tt;
    }

-- ---- the server's part of the coordinator's deeds

filter_same : (p q : Deed → Bool) (deeds : List Deed) → Each (λ (deed : Deed). p deed ≡ q deed) deeds → filter p deeds ≡ filter q deeds
filter_same p q [] h = refl
filter_same p q (deed ∷ deeds) h =
    ap (λ (b : Bool). cond b (deed ∷ filter p deeds) (filter p deeds)) h.0 ∙ ap (λ (rest : List Deed). cond (q deed) (deed ∷ rest) rest) (filter_same p q deeds h.1)

deed_here : (s : Site) (deed : Deed) → IsDeedOf s.txn deed → is_here s deed ≡ is_at s.scenario s.at deed
deed_here s deed h =
    ap (λ (found : Option Query). option_map_or (is_at_server s.scenario s.at) found false) h.query_is
    ∙ ap (λ item. option_map_or (λ (declared : Item). declared.server.0 == s.at) (slice_get s.scenario.items item.0) false) (sym h.item_is)

each_here_in_pairs : (s : Site) (deeds : List Deed) → Each (IsDeedOf s.txn) deeds → Each (λ (deed : Deed). is_here s deed ≡ is_at s.scenario s.at deed) deeds
each_here_in_pairs s [] h = tt
each_here_in_pairs s (deed ∷ deeds) h = (deed_here s deed h.0, each_here_in_pairs s deeds h.1)

-- what the coordinator got from the server are its deeds on the server's items
pub got_part : (s : Site) (deeds : List Deed) → RunsSoFar s.txn deeds → got s deeds ≡ share_at s.scenario s.at deeds
got_part s deeds runs = filter_same (is_here s) (is_at s.scenario s.at) deeds (each_here_in_pairs s deeds (runs_each s.txn deeds runs))

-- ---- a vote YES

-- what is prepared for a coordinator that is up and has not decided is its part of the coordinator's deeds, and all queries have run
pub record IsPreparedFor (s : Site) (a : Asker) (prepared : Prepared) : Type 0 where
  pub epoch : a.epoch ≡ Some prepared.epoch
  pub deeds : prepared.deeds ≡ share_at s.scenario s.at a.deeds
  pub all : length a.deeds ≡ count s

pub prepared_for : (s : Site) (p : Pair) (a : Asker) (prepared : Prepared) → p.asker ≡ Some a → p.prepared ≡ Some prepared → Fits s p → IsPreparedFor s a prepared
prepared_for s p a prepared there is h =
    let old : AskerFits s p a = of_some (AskerFits s p) p.asker a there h.asker in
    let made = old.made prepared is in
    let stand = made.prepares in
    let found : IsThere p prepared.epoch prepared.deeds = prepared_there s p prepared h.server is in
    let same : prepared.deeds ≡ got s a.deeds =
    matched s a prepared.deeds (λ asks. let other = stand in cc) (there_matches s p a a.epoch prepared.epoch prepared.deeds old.pairing (inr made.epoch) found) in
    record { epoch = made.epoch; deeds = same ∙ got_part s a.deeds old.runs; all = old.all made.prepares }

-- a vote YES was sent while the coordinator is up and has not decided
pub record IsVotedYes (s : Site) (p : Pair) (a : Asker) : Type 0 where
  pub prepared : Prepared
  pub prepared_is : p.prepared ≡ Some prepared
  pub fits : IsPreparedFor s a prepared

some_prepared : (s : Site) (p : Pair) (a : Asker) (prepared : Option Prepared) → p.prepared ≡ prepared → is_some prepared ≡ true → p.asker ≡ Some a → Fits s p → IsVotedYes s p a
some_prepared s p a None is e there h = absurd (cc)
some_prepared s p a (Some prepared) is e there h = record { prepared = prepared; prepared_is = is; fits = prepared_for s p a prepared there is h }

pub voted_yes : (s : Site) (p : Pair) (a : Asker) → p.voted ≡ true → p.asker ≡ Some a → Fits s p → IsVotedYes s p a
voted_yes s p a voted there h = some_prepared s p a p.prepared refl (h.server.voted voted (ap is_some there)) there h

-- ---- a request to prepare

-- what the server holds of the epoch that is named has just the numbers of the transaction's queries there, and nothing waits
pub record IsFull (s : Site) (p : Pair) (r : PrepareRequest) : Type 0 where
  pub numbers_are : (h : Held) → held p ≡ Some h → h.epoch ≡ r.epoch → numbers h.deeds ≡ upto s (count s)
  pub none_waits : (entry : Entry) → p.entry ≡ Some entry → entry.epoch ≡ r.epoch → entry.waiting ≡ None

nothing_waits : (s : Site) (p : Pair) (entry : Entry) (r : PrepareRequest) (waiting : Option QueryRequest) → entry.waiting ≡ waiting → p.entry ≡ Some entry → Fits s p → PrepareFits s p r → entry.epoch ≡ r.epoch → waiting ≡ None
nothing_waits s p entry r None w is h full same = refl
nothing_waits s p entry r (Some q) w is h full same =
    let fits : EntryFits s p entry = of_some (EntryFits s p) p.entry entry is h.entry in
    let up : p.up ≡ true = true_from_ne_false p.up (λ down. down_none s p entry is h.server down) in
    let found : IsThere p entry.epoch entry.deeds = held_up p.up p.entry p.prepared up ∙ ap (option_map entry_held) is in
    absurd (none_waits s p entry r q fits full same found (of_some (Waits s p entry) entry.waiting q w fits.waiting))

-- once a request to prepare was sent, whatever became of its coordinator
pub full : (s : Site) (p : Pair) (r : PrepareRequest) → Fits s p → PrepareFits s p r → IsFull s p r
full s p r h asked =
    record {
      numbers_are = λ x found same. front_full s x.deeds (h.server.front x found) (full_covers s p r x.epoch x.deeds asked same found);
      none_waits = λ entry is same. nothing_waits s p entry r entry.waiting refl is h asked same;
    }
