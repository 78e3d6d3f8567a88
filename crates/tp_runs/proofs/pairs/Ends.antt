-- The server settles the transaction, crashes, or boots.
use Rattle.std.proofs.Common.{◌≡◌, inl, inr, ⊎_elim, ◌+◌, true, false, Option, Some, None, is_some, IfSome, option_map, refl, sym, ap, ◌∙◌, arith}
use Rattle.std.proofs.lemmas.Bool.{cases_Bool}
use Rattle.std.proofs.lemmas.Option.{same_Some}
use Rattle.tp_model.specs.Words.{PrepareRequest, Prepared}
use Rattle.tp_server.specs.Booted.{restored}
use Rattle.tp_server.specs.declared.server.Ballot.{Ballot}
use Rattle.tp_server.specs.declared.server.Entry.{Entry}
use Rattle.tp_runs.proofs.basics.Phases.{Prepares}
use Rattle.tp_runs.proofs.pairs.Fits.{AreNoneOrAll, AskerFits, EntryFits, Fits, PrepareFits, PrepareLive, ServerFits}
use Rattle.tp_runs.proofs.pairs.Follows.{Next, follows_lost, onward_same}
use Rattle.tp_runs.proofs.basics.Found.{of_some, some_as}
use Rattle.tp_runs.proofs.pairs.Loses.{Loses, asker_lost, loses_all, loses_held}
use Rattle.tp_runs.proofs.pairs.Pair.{Asker, Held, Pair, entry_held, held, held_down, held_up, if_voted, prepared_held, voted_held}
use Rattle.tp_runs.proofs.pairs.Site.{Site}

-- ---- what was voted on

-- an entry that was voted on, with what it has
pub record IsVotedAs (found : Option Entry) (x : Held) : Type 0 where
  pub entry : Entry
  pub entry_is : found ≡ Some entry
  pub held_is : entry_held entry ≡ x
  pub ballot : is_some entry.ballot ≡ true

ballot_is : (entry : Entry) (ballot : Option Ballot) (x : Held) → entry.ballot ≡ ballot → if_voted ballot (entry_held entry) ≡ Some x → IsVotedAs (Some entry) x
ballot_is entry None x is e = absurd (cc)
ballot_is entry (Some ballot) x is e = record { entry = entry; entry_is = refl; held_is = same_Some (entry_held entry) x e; ballot = ap is_some is }

pub voted_as : (found : Option Entry) (x : Held) → voted_held found ≡ Some x → IsVotedAs found x
voted_as None x e = absurd (cc)
voted_as (Some entry) x e = ballot_is entry entry.ballot x refl e

-- what was prepared is what the server holds
pub prepared_there : (s : Site) (p : Pair) (prepared : Prepared) → ServerFits s p → p.prepared ≡ Some prepared → held p ≡ Some (prepared_held prepared)
prepared_there s p prepared h is =
    ⊎_elim (λ (up : p.up ≡ true).
    let v : IsVotedAs p.entry (prepared_held prepared) = voted_as p.entry (prepared_held prepared) (sym (h.votes up) ∙ ap (option_map prepared_held) is) in
    held_up p.up p.entry p.prepared up ∙ (ap (option_map entry_held) v.entry_is ∙ ap Some v.held_is))
    (λ (down : p.up ≡ false). held_down p.up p.entry p.prepared down ∙ ap (option_map prepared_held) is)
    (cases_Bool p.up)

-- ---- settling

abbrev pub settled : Pair → Pair
settled p = record p { settled = true; entry = None; prepared = None }

-- the transaction is settled where no vote YES binds its coordinator any more, and the coordinator has asked for votes
settles : (s : Site) (p : Pair) → p.up ≡ true → Fits s p → (p.voted ≡ true → is_some p.asker ≡ true → ⊥) → ((a : Asker) → p.asker ≡ Some a → a.stand ≡ Prepares) → Next s p (settled p)
settles s p up h unbound prepares =
    let q = settled p in
    let nothing : held q ≡ None = held_up p.up None None up in
    let loses : Loses p q = loses_all p q nothing refl h.server.past (λ e. inr (inl refl)) in
    record {
      fits = record {
        server = record {
          down = λ down. refl;
          settled = λ ended. (refl, refl);
          votes = λ u. refl;
          past = λ x found. absurd (cc);
          front = λ x found. absurd (cc);
          voted = λ voted there. absurd (unbound voted there);
          verdicts = λ prepared e. absurd (cc);
        };
        asker = some_as (AskerFits s p) (AskerFits s q) p.asker (λ a there old. asker_lost s p q a loses (λ prepared e. absurd (cc)) (λ ended. prepares a there) old) h.asker;
        entry = tt;
      };
      follows = follows_lost p q loses (onward_same p.asker);
    }

-- by the order of a coordinator that has decided
pub ordered : (s : Site) (p : Pair) → p.up ≡ true → p.asker ≡ None → Fits s p → Next s p (settled p)
ordered s p up decided h = settles s p up h (λ voted there. let none = ap is_some decided in cc) (λ a there. let none = sym decided ∙ there in absurd (cc))

-- what is prepared for a coordinator that is up and has not decided was voted on in the epoch that its requests name
not_refused : (s : Site) (p : Pair) (r : PrepareRequest) (a : Asker) (prepared : Prepared) → p.up ≡ true → Fits s p → PrepareFits s p r → p.asker ≡ Some a → p.prepared ≡ Some prepared
    → ((entry : Entry) → p.entry ≡ Some entry → entry.epoch ≡ r.epoch → entry.ballot ≡ None) → ⊥
not_refused s p r a prepared up h asked there is unvoted =
    let old : AskerFits s p a = of_some (AskerFits s p) p.asker a there h.asker in
    let live : PrepareLive r a = of_some (PrepareLive r) p.asker a there asked.live in
    let v : IsVotedAs p.entry (prepared_held prepared) = voted_as p.entry (prepared_held prepared) (sym (h.server.votes up) ∙ ap (option_map prepared_held) is) in
    let made = (old.made prepared is).epoch in
    let epoch : prepared.epoch ≡ r.epoch = let same = sym made ∙ live.epoch in grind arith in
    let none = ap is_some (unvoted v.entry v.entry_is (ap (λ (x : Held). x.epoch) v.held_is ∙ epoch)) in
    let ballot = v.ballot in
    cc

-- by a vote NO: on a request to prepare, where no entry of the epoch that it names was voted on
pub refuses : (s : Site) (p : Pair) (r : PrepareRequest) → p.up ≡ true → Fits s p → PrepareFits s p r → ((entry : Entry) → p.entry ≡ Some entry → entry.epoch ≡ r.epoch → entry.ballot ≡ None) → Next s p (settled p)
refuses s p r up h asked unvoted =
    settles s p up h (λ voted there. both p.asker p.prepared refl refl there (h.server.voted voted there)) (λ a there. (of_some (PrepareLive r) p.asker a there asked.live).prepares)
  where
    both : (asker : Option Asker) (prepared : Option Prepared) → p.asker ≡ asker → p.prepared ≡ prepared → is_some asker ≡ true → is_some prepared ≡ true → ⊥
    both None prepared e f there is = cc
    both (Some a) None e f there is = cc
    both (Some a) (Some prepared) e f there is = not_refused s p r a prepared up h asked e f unvoted

-- ---- a crash

abbrev pub crashed : Pair → Pair
crashed p = record p { up = false; entry = None }

crash_loses : (s : Site) (p : Pair) (prepared : Option Prepared) → p.prepared ≡ prepared → p.up ≡ true → ServerFits s p → Loses p (crashed p)
crash_loses s p None is up h = loses_all p (crashed p) (ap (option_map prepared_held) is) refl h.past (λ e. inl refl)
crash_loses s p (Some prepared) is up h =
    loses_held p (crashed p) (ap (option_map prepared_held) is ∙ sym (prepared_there s p prepared h is)) (omega arith) (λ e g. inl refl)

-- the server loses what it did not prepare
pub crashes : (s : Site) (p : Pair) → p.up ≡ true → Fits s p → Next s p (crashed p)
crashes s p up h =
    let q = crashed p in
    let loses : Loses p q = crash_loses s p p.prepared refl up h.server in
    record {
      fits = record {
        server = record {
          down = λ down. refl;
          settled = λ ended. (refl, (h.server.settled ended).1);
          votes = λ u. absurd (cc);
          past = λ x found. h.server.past x (loses.fewer x found);
          front = λ x found. h.server.front x (loses.fewer x found);
          voted = h.server.voted;
          verdicts = h.server.verdicts;
        };
        asker = some_as (AskerFits s p) (AskerFits s q) p.asker (λ a there old. asker_lost s p q a loses old.made old.unsettled old) h.asker;
        entry = tt;
      };
      follows = follows_lost p q loses (onward_same p.asker);
    }

-- ---- a boot

abbrev pub booted : Pair → Pair
booted p = record p { epoch = p.epoch + 1; up = true; entry = option_map restored p.prepared }

restored_held : (prepared : Option Prepared) → option_map entry_held (option_map restored prepared) ≡ option_map prepared_held prepared
restored_held None = refl
restored_held (Some prepared) = refl

restored_votes : (prepared : Option Prepared) → option_map prepared_held prepared ≡ voted_held (option_map restored prepared)
restored_votes None = refl
restored_votes (Some prepared) = refl

restored_fits : (s : Site) (q : Pair) (prepared : Option Prepared) → ((p : Prepared) → prepared ≡ Some p → AreNoneOrAll s p.verdicts) → IfSome (option_map restored prepared) (EntryFits s q)
restored_fits s q None verdicts = tt
restored_fits s q (Some prepared) verdicts = record { waiting = tt; answers = tt; answered = λ unvoted. absurd (cc); present = λ unvoted. absurd (cc); ballot = verdicts prepared refl }

-- the server comes up in its next epoch, with an entry of what it prepared
pub boots : (s : Site) (p : Pair) → p.up ≡ false → Fits s p → Next s p (booted p)
boots s p down h =
    let q = booted p in
    let same : held q ≡ held p = restored_held p.prepared ∙ sym (held_down p.up p.entry p.prepared down) in
    let loses : Loses p q = loses_held p q same (omega arith) (λ e g. let past = g.past in inr (inr (omega (arith, past)))) in
    record {
      fits = record {
        server = record {
          down = λ d. absurd (cc);
          settled = λ ended. let none = (h.server.settled ended).1 in (ap (option_map restored) none, none);
          votes = λ u. restored_votes p.prepared;
          past = λ x found. let past = h.server.past x (loses.fewer x found) in omega (arith, past);
          front = λ x found. h.server.front x (loses.fewer x found);
          voted = h.server.voted;
          verdicts = h.server.verdicts;
        };
        asker = some_as (AskerFits s p) (AskerFits s q) p.asker (λ a there old. asker_lost s p q a loses old.made old.unsettled old) h.asker;
        entry = restored_fits s q p.prepared h.server.verdicts;
      };
      follows = follows_lost p q loses (onward_same p.asker);
    }
