-- What is sent fits the state in which it is sent.
use Rattle.tp_coord.specs.Sums.{asked_value}
use Rattle.std.proofs.Common.{◌≡◌, ⊎_elim, ℕ, ◌+◌, List, [], length, take, true, Option, Some, None, IfSome, Contains, refl, sym, ap, subst, ◌∙◌, arith, ◌⊎◌, inr, option_map}
use Rattle.std.proofs.lemmas.List.{take_all}
use Rattle.tp_model.specs.Words.{Deed, DoneReply, PrepareRequest, QueryRequest, ValidateRequest, Verdict, VerdictsReply}
use Rattle.tp_coord.specs.Sums.{asked_value}
use Rattle.tp_server.specs.declared.server.Entry.{Entry}
use Rattle.tp_model.specs.Limits.{is_empty}
use Rattle.tp_runs.proofs.basics.Phases.{Asks, Pauses, Prepares}
use Rattle.tp_runs.proofs.pairs.Fits.{AreUpto, AskerFits, Covers, DoneFits, EntryFits, Fits, IsThere, Matches, Names, NamesIfAny, OneMore, Pairing, PrepareFits, PrepareLive, QueryFits, QueryLive, Tells, ValidateFits, ValidateLive, VerdictsFits, VerdictsLive}
use Rattle.tp_runs.proofs.basics.Verdicts.{numbers_of}
use Rattle.tp_runs.proofs.pairs.Answered.{there_matches}
use Rattle.tp_runs.proofs.pairs.Grows.{covers_more}
use Rattle.tp_runs.proofs.basics.Found.{answer_each, answer_in, of_some, some_as, to_some}
use Rattle.tp_runs.proofs.pairs.Loses.{tells_as}
use Rattle.tp_runs.proofs.pairs.Moves.{matched}
use Rattle.tp_runs.proofs.pairs.Pair.{Asker, Pair, entry_held, got, held_up, numbers}
use Rattle.tp_runs.proofs.pairs.Site.{IsUpto, Site, count, here, here_within, in_upto, upto, upto_none}

-- ---- what the coordinator got

-- what the coordinator got covers all numbers so far
covers_got : (s : Site) (p : Pair) (a : Asker) → AskerFits s p a → Covers s (length a.deeds) (got s a.deeds)
covers_got s p a h number low high at =
    subst (λ (all : List ℕ). Contains all number) (sym h.numbers_are) (in_upto s (length a.deeds) number (record { low = low; high = high; at = at }))

-- and so does what matches it
pub covers_matched : (s : Site) (p : Pair) (a : Asker) → AskerFits s p a → (deeds : List Deed) → Matches s a deeds → Covers s (length a.deeds) deeds
covers_matched s p a h deeds m =
    ⊎_elim (λ (same : deeds ≡ got s a.deeds). subst (Covers s (length a.deeds)) (sym same) (covers_got s p a h))
    (λ (more : OneMore s a deeds). subst (Covers s (length a.deeds)) (sym more.more) (covers_more s (length a.deeds) (got s a.deeds) _ (covers_got s p a h)))
    m

-- what was begun in the epoch that is kept covers all numbers so far
kept_covers : (s : Site) (p : Pair) (a : Asker) (kept : Option ℕ) → AskerFits s p a → Pairing s p a kept → IfSome kept (λ (e : ℕ). Tells p e (Covers s (length a.deeds)))
kept_covers s p a None h pairing = tt
kept_covers s p a (Some e) h pairing = tells_as p e (Matches s a) (Covers s (length a.deeds)) (covers_matched s p a h) pairing.told

none_so_far : (s : Site) (p : Pair) (a : Asker) (kept : Option ℕ) → Pairing s p a kept → kept ≡ None → upto s (length a.deeds) ≡ []
none_so_far s p a None pairing e = pairing.none
none_so_far s p a (Some kept) pairing e = absurd (cc)

some_so_far : (s : Site) (p : Pair) (a : Asker) (kept : Option ℕ) (e : ℕ) → Pairing s p a kept → kept ≡ Some e → upto s (length a.deeds) ≡ [] → ⊥
some_so_far s p a None e pairing same none = cc
some_so_far s p a (Some kept) e pairing same none = pairing.some none

epoch_there : (s : Site) (p : Pair) (a : Asker) (kept : Option ℕ) (number : ℕ) → Pairing s p a kept → IsUpto s (length a.deeds) number → (e : ℕ) × (kept ≡ Some e)
epoch_there s p a None number pairing at = absurd (upto_none s (length a.deeds) number pairing.none at)
epoch_there s p a (Some e) number pairing at = (e, refl)

-- once a query at the server has run, an epoch is kept
pub has_epoch : (s : Site) (p : Pair) (a : Asker) (number : ℕ) → AskerFits s p a → IsUpto s (length a.deeds) number → (e : ℕ) × (a.epoch ≡ Some e)
has_epoch s p a number h at = epoch_there s p a a.epoch number h.pairing at

-- a coordinator that prepares has kept the epoch of each server with a query
pub late_epoch : (s : Site) (p : Pair) (a : Asker) (number : ℕ) → AskerFits s p a → a.stand ≡ Prepares → here s number ≡ true → (e : ℕ) × (a.epoch ≡ Some e)
late_epoch s p a number h prepares at =
    let within = here_within s number at in
    let low = within.0 in
    let high = within.1 in
    let all = h.all prepares in
    has_epoch s p a number h (record { low = low; high = omega (arith, high, all); at = at })

-- ---- requests

-- the request is for the query that is asked, in the present turn, with the epoch that is kept and the value of the sum
pub record IsForNext (s : Site) (a : Asker) (q : QueryRequest) : Type 0 where
  pub turn : q.turn ≡ a.turn
  pub number : q.query ≡ length a.deeds + 1
  pub epoch : q.epoch ≡ a.epoch
  pub value : q.value ≡ asked_value s.txn a.deeds (length a.deeds + 1)

some_itself : (kept : Option ℕ) → IfSome kept (λ (e : ℕ). kept ≡ Some e)
some_itself None = tt
some_itself (Some e) = refl

-- a request to run a query, the first time or again
pub asks : (s : Site) (p : Pair) (a : Asker) (q : QueryRequest) → p.asker ≡ Some a → Fits s p → a.stand ≡ Asks → here s (length a.deeds + 1) ≡ true → IsForNext s a q → QueryFits s p q
asks s p a q is h stand at next =
    let old : AskerFits s p a = of_some (AskerFits s p) p.asker a is h.asker in
    let all : take (length a.deeds) a.deeds ≡ a.deeds = take_all (length a.deeds) a.deeds (omega arith) in
    let same : a.epoch ≡ q.epoch = sym next.epoch in
    record {
      before = length a.deeds;
      number_is = next.number;
      is_here = at;
      first = λ none. none_so_far s p a a.epoch old.pairing (same ∙ none);
      covers = subst (λ (kept : Option ℕ). IfSome kept (λ (e : ℕ). Tells p e (Covers s (length a.deeds)))) same (kept_covers s p a a.epoch old old.pairing);
      live = to_some (QueryLive s q (length a.deeds)) p.asker a is (record {
        live = record { past = omega arith; now = λ e. stand; present = λ e. next.turn; turn_past = let turn = next.turn in omega (arith, turn); turn_now = λ e f. refl };
        epoch = subst (λ (kept : Option ℕ). IfSome kept (λ (e : ℕ). a.epoch ≡ Some e)) same (some_itself a.epoch);
        value = next.value ∙ ap (λ (deeds : List Deed). asked_value s.txn deeds (length a.deeds + 1)) (sym all);
      });
    }

-- a request to prepare that names the epoch that is kept, the first time or again
pub prepares : (s : Site) (p : Pair) (a : Asker) (r : PrepareRequest) → p.asker ≡ Some a → Fits s p → a.stand ≡ Prepares → a.epoch ≡ Some r.epoch → ((is_empty r.want ≡ true) ⊎ Names s r.want) → PrepareFits s p r
prepares s p a r is h stand epoch names =
    let old : AskerFits s p a = of_some (AskerFits s p) p.asker a is h.asker in
    let all : length a.deeds ≡ count s = old.all stand in
    let covers : Tells p r.epoch (Covers s (length a.deeds)) = of_some (λ (e : ℕ). Tells p e (Covers s (length a.deeds))) a.epoch r.epoch epoch (kept_covers s p a a.epoch old old.pairing) in
    record {
      some = λ none. some_so_far s p a a.epoch r.epoch old.pairing epoch (ap (upto s) all ∙ none);
      covers = subst (λ (n : ℕ). Tells p r.epoch (Covers s n)) all covers;
      names = names;
      live = to_some (PrepareLive r) p.asker a is (record { epoch = epoch; prepares = stand });
    }

-- a request to validate that names the epoch that is kept, the first time or again
pub validates : (s : Site) (p : Pair) (a : Asker) (v : ValidateRequest) → p.asker ≡ Some a → Fits s p → a.stand ≡ Pauses → v.turn ≡ a.turn → a.epoch ≡ Some v.epoch → NamesIfAny s (length a.deeds) v.want → ValidateFits s p v
validates s p a v is h stand turn epoch names =
    let old : AskerFits s p a = of_some (AskerFits s p) p.asker a is h.asker in
    let covered : Tells p v.epoch (Covers s (length a.deeds)) = of_some (λ (e : ℕ). Tells p e (Covers s (length a.deeds))) a.epoch v.epoch epoch (kept_covers s p a a.epoch old old.pairing) in
    record {
      told = tells_as p v.epoch (Covers s (length a.deeds)) (λ (deeds : List Deed). Unit {0}) (λ deeds covers. tt) covered;
      live = to_some (ValidateLive s v) p.asker a is (record { past = omega (arith, turn); pauses = λ same. stand; now = λ same. (epoch, names) });
    }

-- ---- answers

-- an answer that the entry keeps is sent, the first time or again
pub says : (s : Site) (p : Pair) (entry : Entry) (number : ℕ) (done : DoneReply) → p.entry ≡ Some entry → Fits s p → answer_in number entry.answers ≡ Some done → DoneFits s p done
says s p entry number done is h found = answer_each (DoneFits s p) number entry.answers done (of_some (EntryFits s p) p.entry entry is h.entry).answers found

-- what the server has in the epoch that is kept, while the coordinator pauses, is what was got of it
exact_deeds : (s : Site) (p : Pair) (a : Asker) (entry : Entry) → p.asker ≡ Some a → IsThere p entry.epoch entry.deeds → Fits s p → a.stand ≡ Pauses → a.epoch ≡ Some entry.epoch → numbers entry.deeds ≡ upto s (length a.deeds)
exact_deeds s p a entry is found h pauses epoch =
    let old : AskerFits s p a = of_some (AskerFits s p) p.asker a is h.asker in
    let matches : Matches s a entry.deeds = there_matches s p a a.epoch entry.epoch entry.deeds old.pairing (inr epoch) found in
    let exact : entry.deeds ≡ got s a.deeds = matched s a entry.deeds (λ asks. cc) matches in
    ap numbers exact ∙ old.numbers_are

-- so an entry that a request to validate of the present turn comes to has deeds of just the queries there so far
pub validated_deeds : (s : Site) (p : Pair) (a : Asker) (entry : Entry) (v : ValidateRequest) → p.up ≡ true → p.entry ≡ Some entry → p.asker ≡ Some a → Fits s p → ValidateFits s p v → entry.epoch ≡ v.epoch → v.turn ≡ a.turn
    → numbers entry.deeds ≡ upto s (length a.deeds)
validated_deeds s p a entry v up is there h asked epoch same =
    let found : IsThere p entry.epoch entry.deeds = held_up p.up p.entry p.prepared up ∙ ap (option_map entry_held) is in
    let live : ValidateLive s v a = of_some (ValidateLive s v) p.asker a there asked.live in
    exact_deeds s p a entry there found h (live.pauses same) ((live.now same).0 ∙ ap Some (sym epoch))

-- the answer to a request to validate
pub proves : (s : Site) (p : Pair) (entry : Entry) (v : ValidateRequest) (reply : VerdictsReply) (verdicts : List Verdict) → p.up ≡ true → p.entry ≡ Some entry → Fits s p → ValidateFits s p v → entry.epoch ≡ v.epoch
    → reply.turn ≡ v.turn → reply.verdicts ≡ Some verdicts → numbers_of verdicts ≡ numbers entry.deeds → VerdictsFits s p reply
proves s p entry v reply verdicts up is h asked epoch turn said on =
    some_as (ValidateLive s v) (VerdictsLive s reply) p.asker
    (λ a there live. record {
      past = let past = live.past in omega (arith, past, turn);
      pauses = λ same. live.pauses (sym turn ∙ same);
      now = λ same.
          let all : AreUpto s (length a.deeds) verdicts = on ∙ validated_deeds s p a entry v up is there h asked epoch (sym turn ∙ same) in
          subst (λ (proved : Option (List Verdict)). IfSome proved (AreUpto s (length a.deeds))) (sym said) all;
    }) asked.live

-- or the answer that what was done is lost
pub loses : (s : Site) (p : Pair) (v : ValidateRequest) (reply : VerdictsReply) → ValidateFits s p v → reply.turn ≡ v.turn → reply.verdicts ≡ None → VerdictsFits s p reply
loses s p v reply asked turn said =
    some_as (ValidateLive s v) (VerdictsLive s reply) p.asker
    (λ a there live. record {
      past = let past = live.past in omega (arith, past, turn);
      pauses = λ same. live.pauses (sym turn ∙ same);
      now = λ same. subst (λ (proved : Option (List Verdict)). IfSome proved (AreUpto s (length a.deeds))) (sym said) tt;
    }) asked.live
