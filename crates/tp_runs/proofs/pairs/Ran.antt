-- A query that waits runs: its deed is the next one at the server, in the epoch of the entry, and it is answered.
use Rattle.std.proofs.Common.{Contains, IfSome, List, None, Option, Some, [], ap, arith, false, inl, inr, is_some, length, option_map, refl, subst, sym, take, true, ℕ, ℤ, ⊎_elim, ◌++◌, ◌+◌, ◌<◌, ◌∙◌, ◌∷◌, ◌≡◌, ◌≤◌, ◌⊎◌}
use Rattle.std.proofs.lemmas.Bool.{cases_lt, false_from_ne_true}
use Rattle.std.proofs.lemmas.List.Elements.{Contains-push, Contains-push_cases}
use Rattle.std.proofs.lemmas.Option.{same_Some}
use Rattle.tp_model.specs.Words.answer
use Rattle.tp_model.specs.Words.{Deed, DoneReply, QueryRequest, Verdict}
use Rattle.tp_types.proofs.EachLemmas.{each_more}
use Rattle.tp_runs.proofs.pairs.Entries.{down_none, settled_none, with_entry}
use Rattle.tp_runs.proofs.pairs.Fits.{AnswerFits, AskerFits, Covers, DoneFits, EntryFits, Fits, IsAsked, IsFront, IsGone, IsThere, Live, Matches, Pairing, QueryLive, RanFits, RanLive, Tells, There, Waits}
use Rattle.tp_runs.proofs.pairs.Follows.{Follows, Next, answers_follow, onward_same}
use Rattle.tp_runs.proofs.pairs.Grows.{Grows, HasMore}
use Rattle.tp_runs.proofs.basics.Found.{answer_in, answer_more, answer_new, of_some, some_as}
use Rattle.tp_runs.proofs.pairs.Loses.{same_held}
use Rattle.tp_runs.proofs.pairs.Pair.{Asker, Held, Pair, entry_held, got, held, held_up, if_voted, numbers, numbers_more, voted_held}
use Rattle.tp_runs.proofs.pairs.Site.{Site, here, in_upto, upto, upto_here, upto_in, upto_none, upto_same}
use Rattle.tp_runs.proofs.deeds.Runs.{deed_at}
use Rattle.tp_coord.specs.Sums.{asked_value}
use Rattle.tp_server.specs.declared.server.Entry.{Entry}

-- ---- the numbers of an entry with a query that waits

-- the query that waits has no deed yet
pub unanswered : (s : Site) (p : Pair) (entry : Entry) (w : QueryRequest) → EntryFits s p entry → Waits s p entry w → Contains (numbers entry.deeds) w.query → ⊥
unanswered s p entry w h waits has =
    let there = h.answered waits.unvoted w.query has in
    let fresh = waits.fresh in
    let none : is_some (answer_in w.query entry.answers) ≡ false = ap is_some fresh in
    cc

named_covers : (s : Site) (p : Pair) (entry : Entry) (before : ℕ) (named : Option ℕ) → held p ≡ Some (entry_held entry) → (named ≡ None → upto s before ≡ []) → IfSome named (λ (e : ℕ). Tells p e (Covers s before))
    → IfSome named (λ (e : ℕ). e ≡ entry.epoch) → Covers s before entry.deeds
named_covers s p entry before None found first covers same = λ number low high at. absurd (upto_none s before number (first refl) (record { low = low; high = high; at = at }))
named_covers s p entry before (Some e) found first covers same =
    ⊎_elim (λ (t : There p e (Covers s before)). subst (Covers s before) (same_held p e entry.epoch t.deeds entry.deeds t.found found) t.says)
    (λ (g : IsGone p e). absurd (g.none entry.deeds (subst (λ (n : ℕ). IsThere p n entry.deeds) (sym same) found)))
    covers

-- all queries before the one that waits have a deed
pub waits_covers : (s : Site) (p : Pair) (entry : Entry) (w : QueryRequest) → held p ≡ Some (entry_held entry) → (waits : Waits s p entry w) → Covers s waits.fits.before entry.deeds
waits_covers s p entry w found waits = named_covers s p entry waits.fits.before w.epoch found waits.fits.first waits.fits.covers waits.epoch_is

-- the first deeds that cover the numbers up to one, and go no further, are of just these numbers
pub front_covered : (s : Site) (deeds : List Deed) (before : ℕ) (front : IsFront s deeds) → Covers s before deeds → front.last ≤ before → numbers deeds ≡ upto s before
front_covered s deeds before front covers most =
    front.numbers_are ∙ sym (upto_same s front.last before most (λ number above below. false_from_ne_true (here s number) (λ there.
    let has : Contains (numbers deeds) number = covers number (omega (arith, above)) below there in
    let high = (upto_in s front.last number (subst (λ (all : List ℕ). Contains all number) front.numbers_are has)).high in
    omega (arith, high, above))))

-- so are those that cover them, and not the next
pub front_exact : (s : Site) (deeds : List Deed) (before : ℕ) → IsFront s deeds → Covers s before deeds → here s (before + 1) ≡ true → (Contains (numbers deeds) (before + 1) → ⊥) → numbers deeds ≡ upto s before
front_exact s deeds before front covers at fresh =
    ⊎_elim (λ (less : before < front.last).
    absurd (fresh (subst (λ (all : List ℕ). Contains all (before + 1)) (sym front.numbers_are) (in_upto s front.last (before + 1) (record { low = omega arith; high = omega (arith, less); at = at })))))
    (λ (most : front.last ≤ before). front_covered s deeds before front covers most)
    (cases_lt before front.last)

-- ---- the coordinator

-- as many numbers up to two places
same_last : (s : Site) (before last : ℕ) → before ≤ last → here s (before + 1) ≡ true → upto s last ≡ upto s before → before ≡ last
same_last s before last within at same =
    ⊎_elim (λ (less : before < last).
    let has = subst (λ (all : List ℕ). Contains all (before + 1)) same (in_upto s last (before + 1) (record { low = omega arith; high = omega (arith, less); at = at })) in
    let high = (upto_in s before (before + 1) has).high in
    absurd (omega (arith, high)))
    (λ (most : last ≤ before). omega (arith, most, within))
    (cases_lt before last)

-- what matches the coordinator, and lacks the query that is asked, matches it with that query's deed
run_matches : (s : Site) (p : Pair) (a : Asker) (turn before : ℕ) (deeds : List Deed) (value : ℤ) → AskerFits s p a → Live turn before a → here s (before + 1) ≡ true → numbers deeds ≡ upto s before → Matches s a deeds
    → Matches s a (deeds ++ deed_at s.txn (before + 1) value ∷ [])
run_matches s p a turn before deeds value h live at front (inl same) =
    let all : upto s (length a.deeds) ≡ upto s before = sym h.numbers_are ∙ (ap numbers (sym same) ∙ front) in
    let now : before ≡ length a.deeds = same_last s before (length a.deeds) live.past at all in
    inr (record {
      asks = live.now now;
      is_here = subst (λ (n : ℕ). here s (n + 1) ≡ true) now at;
      value = value;
      more = ap (λ (old : List Deed). old ++ deed_at s.txn (before + 1) value ∷ []) same ∙ ap (λ (n : ℕ). got s a.deeds ++ deed_at s.txn (n + 1) value ∷ []) now;
    })
run_matches s p a turn before deeds value h live at front (inr more) =
    let old = got s a.deeds in
    let last = deed_at s.txn (length a.deeds + 1) more.value in
    let has : Contains (numbers old ++ (length a.deeds + 1) ∷ []) (length a.deeds + 1) = Contains-push (numbers old) (length a.deeds + 1) in
    let same : numbers old ++ (length a.deeds + 1) ∷ [] ≡ upto s before = sym (numbers_more old last) ∙ (ap numbers (sym more.more) ∙ front) in
    let high = (upto_in s before (length a.deeds + 1) (subst (λ (all : List ℕ). Contains all (length a.deeds + 1)) same has)).high in
    let past = live.past in
    absurd (omega (arith, high, past))

run_pairing : (s : Site) (p q : Pair) (a : Asker) (kept : Option ℕ) (turn before : ℕ) (epoch : ℕ) (deeds : List Deed) (value : ℤ) → AskerFits s p a → Live turn before a → here s (before + 1) ≡ true → numbers deeds ≡ upto s before
    → IsThere p epoch deeds → IsThere q epoch (deeds ++ deed_at s.txn (before + 1) value ∷ []) → Grows p q → Pairing s p a kept → Pairing s q a kept
run_pairing s p q a None turn before epoch deeds value h live at front old new grows pairing =
    record {
      none = pairing.none;
      there = λ x found.
          let same = same_held q epoch x.epoch (deeds ++ deed_at s.txn (before + 1) value ∷ []) x.deeds new found in
          subst (Matches s a) same (run_matches s p a turn before deeds value h live at front (pairing.there (record { epoch = epoch; deeds = deeds }) old));
    }
run_pairing s p q a (Some e) turn before epoch deeds value h live at front old new grows pairing =
    record {
      some = pairing.some;
      told = ⊎_elim (λ (t : There p e (Matches s a)).
          let found = t.found in
          let same : epoch ≡ e = let both = sym old ∙ found in grind arith in
          let matches : Matches s a deeds = subst (Matches s a) (same_held p e epoch t.deeds deeds t.found old) t.says in
          inl (record {
            deeds = deeds ++ deed_at s.txn (before + 1) value ∷ [];
            found = subst (λ (n : ℕ). IsThere q n (deeds ++ deed_at s.txn (before + 1) value ∷ [])) same new;
            says = run_matches s p a turn before deeds value h live at front matches;
          }))
          (λ (g : IsGone p e). inr (grows.gone e g))
          pairing.told;
    }

-- ---- the server

-- one deed more is there
run_grows : (p q : Pair) (epoch : ℕ) (deeds : List Deed) (deed : Deed) → q.epoch ≡ p.epoch → q.up ≡ p.up → q.settled ≡ p.settled → IsThere p epoch deeds → IsThere q epoch (deeds ++ deed ∷ []) → Grows p q
run_grows p q epoch deeds deed same up settled old new =
    record {
      gone = λ e g. record {
        past = let past = g.past in omega (arith, past, same);
        none = λ all found.
            let here : epoch ≡ e = let both = sym new ∙ found in grind arith in
            g.none deeds (subst (λ (n : ℕ). IsThere p n deeds) here old);
        over = ⊎_elim (λ (down : p.up ≡ false). inl (up ∙ down))
            (⊎_elim (λ (ended : p.settled ≡ true). inr (inl (settled ∙ ended))) (λ (less : e < p.epoch). inr (inr (omega (arith, less, same))))) g.over;
      };
      kept = λ x found.
          let same_x : record { epoch = epoch; deeds = deeds } ≡ x = same_Some (record { epoch = epoch; deeds = deeds }) x (sym old ∙ found) in
          subst (λ (y : Held). HasMore q y ⊎ IsGone q y.epoch) same_x (inl (record { more = deed ∷ []; found = new }));
    }

-- the answer to the query that waited. A value that was asked for is the one that it has
pub record IsAnswer (s : Site) (entry : Entry) (w : QueryRequest) (done : DoneReply) (value : ℤ) : Type 0 where
  pub turn : done.turn ≡ w.turn
  pub number : done.query ≡ w.query
  pub epoch : done.epoch ≡ entry.epoch
  pub verdict : Option Verdict
  pub answer : done.answer ≡ answer.Ran value verdict
  pub asked : (deeds : List Deed) → w.value ≡ asked_value s.txn deeds w.query → IsAsked s deeds w.query value

-- the entry after the query ran
abbrev pub ran : Entry → Deed → DoneReply → Entry
ran entry deed done = record entry { answers = entry.answers ++ done ∷ []; waiting = None; deeds = entry.deeds ++ deed ∷ [] }

named_epoch : (s : Site) (a : Asker) (before epoch : ℕ) (named : Option ℕ) → (named ≡ None → upto s before ≡ []) → IfSome named (λ (e : ℕ). a.epoch ≡ Some e) → IfSome named (λ (e : ℕ). e ≡ epoch)
    → (upto s before ≡ []) ⊎ (a.epoch ≡ Some epoch)
named_epoch s a before epoch None first kept same = inl (first refl)
named_epoch s a before epoch (Some e) first kept same = inr (kept ∙ ap Some same)

answer_live : (s : Site) (entry : Entry) (w : QueryRequest) (done : DoneReply) (value : ℤ) (before : ℕ) (a : Asker) → IsAnswer s entry w done value → w.query ≡ before + 1 → (w.epoch ≡ None → upto s before ≡ []) → IfSome w.epoch (λ (e : ℕ). e ≡ entry.epoch)
    → QueryLive s w before a → RanLive s done value before a
answer_live s entry w done value before a is number first same h =
    record {
      live = subst (λ (t : ℕ). Live t before a) (sym is.turn) h.live;
      epoch = subst (λ (e : ℕ). (upto s before ≡ []) ⊎ (a.epoch ≡ Some e)) (sym is.epoch) (named_epoch s a before entry.epoch w.epoch first h.epoch same);
      asked = subst (λ (n : ℕ). IsAsked s (take before a.deeds) n value) number (is.asked (take before a.deeds) (h.value ∙ ap (asked_value s.txn (take before a.deeds)) (sym number)));
    }

-- nothing was voted on
unvoted_held : (entry : Entry) → entry.ballot ≡ None → voted_held (Some entry) ≡ None
unvoted_held entry unvoted = ap (λ b. if_voted b (entry_held entry)) unvoted

-- the query that waits runs
pub runs : (s : Site) (p : Pair) (entry : Entry) (w : QueryRequest) (done : DoneReply) (value : ℤ) → p.up ≡ true → p.entry ≡ Some entry → entry.waiting ≡ Some w → Fits s p → IsAnswer s entry w done value
    → Next s p (with_entry p (ran entry (deed_at s.txn w.query value) done))
runs s p entry w done value up is waiting h answered =
    let deed = deed_at s.txn w.query value in
    let new = ran entry deed done in
    let q = with_entry p new in
    let old : EntryFits s p entry = of_some (EntryFits s p) p.entry entry is h.entry in
    let waits : Waits s p entry w = of_some (Waits s p entry) entry.waiting w waiting old.waiting in
    let before = waits.fits.before in
    let number : w.query ≡ before + 1 = waits.fits.number_is in
    let at : here s (before + 1) ≡ true = waits.fits.is_here in
    let found : IsThere p entry.epoch entry.deeds = held_up p.up p.entry p.prepared up ∙ ap (option_map entry_held) is in
    let now : IsThere q entry.epoch (entry.deeds ++ deed ∷ []) = held_up p.up (Some new) p.prepared up in
    let next : IsThere q entry.epoch (entry.deeds ++ deed_at s.txn (before + 1) value ∷ []) =
    subst (λ (n : ℕ). IsThere q entry.epoch (entry.deeds ++ deed_at s.txn n value ∷ [])) number now in
    let front : numbers entry.deeds ≡ upto s before =
    front_exact s entry.deeds before (h.server.front (entry_held entry) found) (waits_covers s p entry w found waits) at
    (λ has. unanswered s p entry w old waits (subst (Contains (numbers entry.deeds)) (sym number) has)) in
    let numbers_are : numbers (entry.deeds ++ deed ∷ []) ≡ upto s (before + 1) =
    numbers_more entry.deeds deed ∙ (ap (λ (all : List ℕ). all ++ w.query ∷ []) front ∙ (ap (λ (n : ℕ). upto s before ++ n ∷ []) number ∙ sym (upto_here s before at))) in
    let grows : Grows p q = run_grows p q entry.epoch entry.deeds deed refl refl refl found now in
    let f : Follows p q = record { grows = grows; onward = onward_same p.asker } in
    let fits : RanFits s q done value = record {
      before = before;
      number_is = answered.number ∙ number;
      is_here = at;
      told = inl (record {
        deeds = entry.deeds ++ deed ∷ [];
        found = subst (λ (e : ℕ). IsThere q e (entry.deeds ++ deed ∷ [])) (sym answered.epoch) now;
        says = subst (λ (n : ℕ). Contains (entry.deeds ++ deed ∷ []) (deed_at s.txn n value)) number (Contains-push entry.deeds deed);
      });
      live = some_as (QueryLive s w before) (RanLive s done value before) p.asker (λ a there live. answer_live s entry w done value before a answered number waits.fits.first waits.epoch_is live) waits.fits.live;
    } in
    record {
      fits = record {
        server = record {
          down = λ down. absurd (down_none s p entry is h.server down);
          settled = λ settled. absurd (settled_none s p entry is h.server settled);
          votes = λ u. h.server.votes u ∙ (ap voted_held is ∙ (unvoted_held entry waits.unvoted ∙ sym (unvoted_held new waits.unvoted)));
          past = λ x there. let same : entry.epoch ≡ x.epoch = let both = sym now ∙ there in grind arith in let past = h.server.past (entry_held entry) found in omega (arith, past, same);
          front = λ x there. subst (IsFront s) (same_held q entry.epoch x.epoch (entry.deeds ++ deed ∷ []) x.deeds now there) (record { last = before + 1; numbers_are = numbers_are });
          voted = h.server.voted;
          verdicts = h.server.verdicts;
        };
        asker = some_as (AskerFits s p) (AskerFits s q) p.asker (λ a there fits. record {
          numbers_are = fits.numbers_are;
          runs = fits.runs;
          pairing = run_pairing s p q a a.epoch w.turn before entry.epoch entry.deeds value fits (of_some (QueryLive s w before) p.asker a there waits.fits.live).live at front found next grows fits.pairing;
          made = fits.made;
          least = fits.least;
          most = fits.most;
          all = fits.all;
          unsettled = fits.unsettled;
        }) h.asker;
        entry = record {
          waiting = tt;
          answers = each_more (DoneFits s q) entry.answers done (answers_follow s p q entry.answers f old.answers) (subst (AnswerFits s q done) (sym answered.answer) fits);
          answered = λ unvoted n has.
              ⊎_elim (λ (before_it : Contains (numbers entry.deeds) n). answer_more n entry.answers done (old.answered unvoted n before_it))
              (λ (same : w.query ≡ n). answer_new n entry.answers done (answered.number ∙ same))
              (Contains-push_cases (numbers entry.deeds) w.query n (subst (λ (all : List ℕ). Contains all n) (numbers_more entry.deeds deed) has));
          present = old.present;
          ballot = old.ballot;
        };
      };
      follows = f;
    }
