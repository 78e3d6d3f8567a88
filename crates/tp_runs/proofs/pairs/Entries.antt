-- What the server does with an entry: it makes one, keeps a query that waits, and answers one that does not run.
use Rattle.std.proofs.Common.{◌≡◌, inl, inr, ⊎_elim, ℕ, ◌<◌, List, [], ◌∷◌, ◌++◌, length, true, false, Option, Some, None, IfSome, option_map, refl, sym, ap, subst, ◌∙◌, arith}
use Rattle.tp_model.specs.Words.{DoneReply, QueryRequest}
use Rattle.tp_server.specs.declared.server.Entry.{Entry}
use Rattle.tp_types.proofs.EachLemmas.{each_more}
use Rattle.tp_runs.proofs.pairs.Fits.{AskerFits, DoneFits, EntryFits, Fits, IsFront, IsGone, Matches, Pairing, QueryFits, ServerFits, There}
use Rattle.tp_runs.proofs.pairs.Follows.{Follows, Next, answers_follow, done_follows, follows_lost, onward_same, query_follows}
use Rattle.tp_runs.proofs.pairs.Grows.{Grows}
use Rattle.tp_runs.proofs.basics.Found.{answer_in, answer_more, contains_none, of_some, some_as}
use Rattle.tp_runs.proofs.pairs.Loses.{Loses, asker_lost, loses_same}
use Rattle.tp_runs.proofs.pairs.Pair.{Asker, Pair, entry_held, got, held, held_as, held_up, numbers, numbers_none, voted_held}
use Rattle.tp_runs.proofs.pairs.Site.{Site, upto}

abbrev pub with_entry : Pair → Entry → Pair
with_entry p entry = record p { entry = Some entry }

-- an entry is there only while the server is up and has not settled
pub down_none : (s : Site) (p : Pair) (entry : Entry) → p.entry ≡ Some entry → ServerFits s p → p.up ≡ false → ⊥
down_none s p entry is h down = let none = h.down down in cc

pub settled_none : (s : Site) (p : Pair) (entry : Entry) → p.entry ≡ Some entry → ServerFits s p → p.settled ≡ true → ⊥
settled_none s p entry is h settled = let none = (h.settled settled).0 in cc

-- ---- another query waits, or more is answered

abbrev pub changed : Entry → Option QueryRequest → List DoneReply → Entry
changed entry waiting answers = record entry { waiting = waiting; answers = answers }

same_deeds : (p : Pair) (entry : Entry) (waiting : Option QueryRequest) (answers : List DoneReply) → p.entry ≡ Some entry → held (with_entry p (changed entry waiting answers)) ≡ held p
same_deeds p entry waiting answers is = held_as p.up p.prepared (Some (changed entry waiting answers)) p.entry (ap (option_map entry_held) (sym is))

-- the entry keeps its deeds, its epoch and its ballot
with_entry_fits : (s : Site) (p : Pair) (entry : Entry) (waiting : Option QueryRequest) (answers : List DoneReply) → p.entry ≡ Some entry → Fits s p
    → (Follows p (with_entry p (changed entry waiting answers)) → EntryFits s (with_entry p (changed entry waiting answers)) (changed entry waiting answers))
    → Next s p (with_entry p (changed entry waiting answers))
with_entry_fits s p entry waiting answers is h fits =
    let q = with_entry p (changed entry waiting answers) in
    let same : held q ≡ held p = same_deeds p entry waiting answers is in
    let loses : Loses p q = loses_same p q same refl refl refl in
    let f : Follows p q = follows_lost p q loses (onward_same p.asker) in
    record {
      fits = record {
        server = record {
          down = λ down. absurd (down_none s p entry is h.server down);
          settled = λ settled. absurd (settled_none s p entry is h.server settled);
          votes = λ up. h.server.votes up ∙ ap voted_held is;
          past = λ x found. h.server.past x (sym same ∙ found);
          front = λ x found. h.server.front x (sym same ∙ found);
          voted = h.server.voted;
          verdicts = h.server.verdicts;
        };
        asker = some_as (AskerFits s p) (AskerFits s q) p.asker (λ a there old. asker_lost s p q a loses old.made old.unsettled old) h.asker;
        entry = fits f;
      };
      follows = f;
    }

-- a query is kept to wait: it names no epoch or the entry's, was not answered, and nothing was voted yet
pub keeps : (s : Site) (p : Pair) (entry : Entry) (r : QueryRequest) → p.entry ≡ Some entry → Fits s p → QueryFits s p r → IfSome r.epoch (λ (e : ℕ). e ≡ entry.epoch)
    → answer_in r.query entry.answers ≡ None → entry.ballot ≡ None → Next s p (with_entry p (changed entry (Some r) entry.answers))
keeps s p entry r is h asked epoch fresh unvoted =
    let q = with_entry p (changed entry (Some r) entry.answers) in
    let old : EntryFits s p entry = of_some (EntryFits s p) p.entry entry is h.entry in
    with_entry_fits s p entry (Some r) entry.answers is h (λ f. record {
      waiting = record { fits = query_follows s p q r f asked; epoch_is = epoch; fresh = fresh; unvoted = unvoted };
      answers = answers_follow s p q entry.answers f old.answers;
      answered = old.answered;
      present = old.present;
      ballot = old.ballot;
    })

-- a query that did not run is answered, and none waits any more
pub denies : (s : Site) (p : Pair) (entry : Entry) (done : DoneReply) → p.entry ≡ Some entry → Fits s p → DoneFits s p done → Next s p (with_entry p (changed entry None (entry.answers ++ done ∷ [])))
denies s p entry done is h fits =
    let q = with_entry p (changed entry None (entry.answers ++ done ∷ [])) in
    let old : EntryFits s p entry = of_some (EntryFits s p) p.entry entry is h.entry in
    with_entry_fits s p entry None (entry.answers ++ done ∷ []) is h (λ f. record {
      waiting = tt;
      answers = each_more (DoneFits s q) entry.answers done (answers_follow s p q entry.answers f old.answers) (done_follows s p q done f fits);
      answered = λ unvoted number has. answer_more number entry.answers done (old.answered unvoted number has);
      present = old.present;
      ballot = old.ballot;
    })

-- ---- a new entry

-- an entry without deeds
abbrev pub begun : ℕ → ℕ → Entry
begun age epoch = record { age = age; epoch = epoch; answers = []; waiting = None; deeds = []; ballot = None }

made_held : (p : Pair) (age : ℕ) → p.up ≡ true → held (with_entry p (begun age p.epoch)) ≡ Some (record { epoch = p.epoch; deeds = [] })
made_held p age up = held_up p.up (Some (begun age p.epoch)) p.prepared up

none_held : (p : Pair) → p.up ≡ true → p.entry ≡ None → held p ≡ None
none_held p up none = held_up p.up p.entry p.prepared up ∙ ap (option_map entry_held) none

made_grows : (p : Pair) (age : ℕ) → p.up ≡ true → p.settled ≡ false → p.entry ≡ None → Grows p (with_entry p (begun age p.epoch))
made_grows p age up unsettled none =
    let q = with_entry p (begun age p.epoch) in
    let nothing : held p ≡ None = none_held p up none in
    let made : held q ≡ Some (record { epoch = p.epoch; deeds = [] }) = made_held p age up in
    record {
      gone = λ e g. record {
        past = g.past;
        none = λ deeds found.
            let same : p.epoch ≡ e = grind arith in
            ⊎_elim (λ (down : p.up ≡ false). absurd (cc)) (⊎_elim (λ (settled : p.settled ≡ true). absurd (cc)) (λ (less : e < p.epoch). omega (arith, less, same))) g.over;
        over = g.over;
      };
      kept = λ x found. absurd (cc);
    }

made_pairing : (s : Site) (p : Pair) (age : ℕ) (a : Asker) (kept : Option ℕ) → p.up ≡ true → p.settled ≡ false → p.entry ≡ None → numbers (got s a.deeds) ≡ upto s (length a.deeds) → Pairing s p a kept
    → Pairing s (with_entry p (begun age p.epoch)) a kept
made_pairing s p age a None up unsettled none numbers_are h =
    let nothing : got s a.deeds ≡ [] = numbers_none (got s a.deeds) (numbers_are ∙ h.none) in
    let made = made_held p age up in
    record { none = h.none; there = λ x found. let empty : x.deeds ≡ [] = grind arith in inl (empty ∙ sym nothing) }
made_pairing s p age a (Some e) up unsettled none numbers_are h =
    let nothing : held p ≡ None = none_held p up none in
    record {
      some = h.some;
      told = ⊎_elim (λ (t : There p e (Matches s a)). let found = t.found in absurd (cc)) (λ (g : IsGone p e). inr ((made_grows p age up unsettled none).gone e g)) h.told;
    }

-- an entry is made in the server's epoch
pub makes : (s : Site) (p : Pair) (age : ℕ) → p.up ≡ true → p.settled ≡ false → p.entry ≡ None → Fits s p → Next s p (with_entry p (begun age p.epoch))
makes s p age up unsettled none h =
    let q = with_entry p (begun age p.epoch) in
    let made : held q ≡ Some (record { epoch = p.epoch; deeds = [] }) = made_held p age up in
    record {
      fits = record {
        server = record {
          down = λ down. absurd (cc);
          settled = λ settled. absurd (cc);
          votes = λ u. h.server.votes u ∙ ap voted_held none;
          past = λ x found. let same : p.epoch ≡ x.epoch = grind arith in omega (arith, same);
          front = λ x found. let same : [] ≡ x.deeds = grind arith in subst (IsFront s) same (record { last = 0; numbers_are = refl });
          voted = h.server.voted;
          verdicts = h.server.verdicts;
        };
        asker = some_as (AskerFits s p) (AskerFits s q) p.asker (λ a there old. record {
          numbers_are = old.numbers_are;
          runs = old.runs;
          pairing = made_pairing s p age a a.epoch up unsettled none old.numbers_are old.pairing;
          made = old.made;
          least = old.least;
          most = old.most;
          all = old.all;
          unsettled = old.unsettled;
        }) h.asker;
        entry = record { waiting = tt; answers = tt; answered = λ unvoted number has. absurd (contains_none number has); present = λ unvoted. refl; ballot = tt };
      };
      follows = record { grows = made_grows p age up unsettled none; onward = onward_same p.asker };
    }
