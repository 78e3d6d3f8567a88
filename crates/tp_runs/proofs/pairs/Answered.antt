-- The coordinator takes an answer that its query ran: at the server that was asked, and as every other server sees it.
use Rattle.std.proofs.Common.{◌≡◌, ◌⊎◌, inl, inr, ⊎_elim, ℕ, ◌+◌, ℤ, List, [], ◌∷◌, ◌++◌, length, take, false, true, Option, Some, None, Contains, refl, sym, ap, subst, ◌∙◌, arith}
use Rattle.std.proofs.lemmas.List.{length_push, take_all}
use Rattle.std.proofs.lemmas.List.Elements.{Contains-push_cases}
use Rattle.tp_model.specs.Words.answer
use Rattle.tp_model.specs.Words.{Answer, Deed, DoneReply}
use Rattle.tp_runs.proofs.basics.Phases.{Asks, Pauses}
use Rattle.tp_runs.proofs.pairs.Fits.{AnswerFits, AnsweredFits, AskerFits, DoneFits, Fits, IsAsked, IsGone, IsThere, Live, Matches, OneMore, Pairing, RanFits, RanLive, Tells, There}
use Rattle.tp_runs.proofs.pairs.Follows.{Later, Next}
use Rattle.tp_runs.proofs.basics.Found.{contains_mapped, of_some, some_as}
use Rattle.tp_runs.proofs.pairs.Loses.{pairing_as, same_held, tells_lost}
use Rattle.tp_runs.proofs.pairs.Moves.{asker_loses, with_asker, with_asker_fits}
use Rattle.tp_runs.proofs.pairs.Pair.{Asker, Pair, got, got_elsewhere, got_here, number_of, numbers, numbers_more}
use Rattle.tp_runs.proofs.pairs.Site.{Site, here, query_there, upto, upto_elsewhere, upto_here, upto_in, upto_none}
use Rattle.tp_runs.proofs.deeds.Runs.{deed_at, runs_next}

-- the deed of the query that is asked, with this value
abbrev pub next_deed : Site → Asker → ℤ → Deed
next_deed s a value = deed_at s.txn (length a.deeds + 1) value

-- the coordinator after the answer
abbrev pub answered : Site → Asker → Option ℕ → ℤ → Asker
answered s a epoch value = record { stand = Pauses; turn = a.turn; epoch = epoch; deeds = a.deeds ++ next_deed s a value ∷ [] }

answered_later : (s : Site) (a : Asker) (epoch : Option ℕ) (value : ℤ) → a.stand ≡ Asks → ((e : ℕ) → a.epoch ≡ Some e → epoch ≡ Some e) → Later a (answered s a epoch value)
answered_later s a epoch value asks keeps =
    record {
      live = λ t before l.
          let past = l.past in
          let longer = length_push a.deeds (next_deed s a value) in
          record { past = omega (arith, past, longer); now = λ same. absurd (omega (arith, past, longer, same)); present = λ same. absurd (omega (arith, past, longer, same)); turn_past = l.turn_past; turn_now = λ again same. absurd (cc) };
      more = next_deed s a value ∷ [];
      deeds = refl;
      epoch = keeps;
      prepares = λ prepares. absurd (cc);
      turn_past = omega arith;
      pauses = λ pauses. absurd (cc);
    }

-- what the answer brings, whether its server is this one or another
answered_fits : (s : Site) (p : Pair) (a : Asker) (epoch : Option ℕ) (value : ℤ) → AskerFits s p a → a.stand ≡ Asks → IsAsked s a.deeds (length a.deeds + 1) value
    → numbers (got s (a.deeds ++ next_deed s a value ∷ [])) ≡ upto s (length a.deeds + 1)
    → Pairing s (with_asker p (Some (answered s a epoch value))) (answered s a epoch value) epoch → AskerFits s (with_asker p (Some (answered s a epoch value))) (answered s a epoch value)
answered_fits s p a epoch value h asks asked numbers_are pairing =
    let longer : length (a.deeds ++ next_deed s a value ∷ []) ≡ length a.deeds + 1 = length_push a.deeds (next_deed s a value) in
    let least = h.least asks in
    let query = query_there s (length a.deeds) least in
    record {
      numbers_are = numbers_are ∙ ap (upto s) (sym longer);
      runs = runs_next s.txn a.deeds query.0 value h.runs query.1 asked;
      pairing = pairing;
      made = λ prepared there. let prepares = (h.made prepared there).prepares in absurd (cc);
      least = λ again. absurd (cc);
      most = omega (arith, longer, least);
      all = λ prepares. absurd (cc);
      unsettled = λ ended. let prepares = h.unsettled ended in absurd (cc);
    }

-- ---- the query that is asked

-- an answer of any kind is one that a query ran or did not run
answered_as : (s : Site) (p : Pair) (done : DoneReply) (said : Answer) → AnswerFits s p done said → AnsweredFits s p done
answered_as s p done (answer.Ran value verdict) h =
    record { before = h.before; number_is = h.number_is; is_here = h.is_here; live = some_as (RanLive s done value h.before) (Live done.turn h.before) p.asker (λ a is ran. ran.live) h.live }
answered_as s p done _ h = h

-- an answer of any kind to the query that is asked now is of the present turn
pub answer_present : (s : Site) (p : Pair) (a : Asker) (done : DoneReply) → p.asker ≡ Some a → done.query ≡ length a.deeds + 1 → DoneFits s p done → done.turn ≡ a.turn
answer_present s p a done is asked h =
    let k : AnsweredFits s p done = answered_as s p done done.answer h in
    let live : Live done.turn k.before a = of_some (Live done.turn k.before) p.asker a is k.live in
    live.present (omega (arith, asked, k.number_is))

-- ---- elsewhere

-- the answer is another server's
pub elsewhere : (s : Site) (p : Pair) (a : Asker) (value : ℤ) → p.asker ≡ Some a → Fits s p → a.stand ≡ Asks → here s (length a.deeds + 1) ≡ false → IsAsked s a.deeds (length a.deeds + 1) value
    → Next s p (with_asker p (Some (answered s a a.epoch value)))
elsewhere s p a value is h asks not_here asked =
    let b = answered s a a.epoch value in
    let old : AskerFits s p a = of_some (AskerFits s p) p.asker a is h.asker in
    let same : got s b.deeds ≡ got s a.deeds = got_elsewhere s a.deeds (next_deed s a value) not_here in
    let longer : length b.deeds ≡ length a.deeds + 1 = length_push a.deeds (next_deed s a value) in
    let upto_same : upto s (length a.deeds + 1) ≡ upto s (length a.deeds) = upto_elsewhere s (length a.deeds) not_here in
    let matches : (deeds : List Deed) → Matches s a deeds → Matches s b deeds =
    λ deeds m. ⊎_elim (λ (e : deeds ≡ got s a.deeds). inl (e ∙ sym same)) (λ (more : OneMore s a deeds). let at = more.is_here in absurd (cc)) m in
    with_asker_fits s p a b is h (answered_later s a a.epoch value asks (λ e f. f))
    (answered_fits s p a a.epoch value old asks asked (ap numbers same ∙ (old.numbers_are ∙ sym upto_same))
    (pairing_as s p (with_asker p (Some b)) a b a.epoch (asker_loses p (Some b)) (ap (upto s) longer ∙ upto_same) matches old.pairing))

-- ---- at the server

-- the answer to the query that is asked
pub record Taken (s : Site) (p : Pair) (a : Asker) (done : DoneReply) (value : ℤ) : Type 0 where
  pub is_here : here s (length a.deeds + 1) ≡ true
  pub told : Tells p done.epoch (λ (deeds : List Deed). Contains deeds (next_deed s a value))
  pub epoch : (upto s (length a.deeds) ≡ []) ⊎ (a.epoch ≡ Some done.epoch)
  pub asked : IsAsked s a.deeds (length a.deeds + 1) value

-- an answer of the present turn is that to the query that is asked
pub taken : (s : Site) (p : Pair) (a : Asker) (done : DoneReply) (value : ℤ) → p.asker ≡ Some a → a.stand ≡ Asks → done.turn ≡ a.turn → RanFits s p done value → Taken s p a done value
taken s p a done value is asks turn h =
    let live : RanLive s done value h.before a = of_some (RanLive s done value h.before) p.asker a is h.live in
    let same : h.before ≡ length a.deeds = live.live.turn_now asks turn in
    let all : take h.before a.deeds ≡ a.deeds = take_all h.before a.deeds (omega (arith, same)) in
    record {
      is_here = subst (λ (n : ℕ). here s (n + 1) ≡ true) same h.is_here;
      told = subst (λ (n : ℕ). Tells p done.epoch (λ (deeds : List Deed). Contains deeds (deed_at s.txn (n + 1) value))) same h.told;
      epoch = subst (λ (n : ℕ). (upto s n ≡ []) ⊎ (a.epoch ≡ Some done.epoch)) same live.epoch;
      asked = subst (λ (n : ℕ). IsAsked s a.deeds (n + 1) value) same (subst (λ (deeds : List Deed). IsAsked s deeds (h.before + 1) value) all live.asked);
    }

-- the coordinator got no deed of the query that it asks
pub not_got : (s : Site) (p : Pair) (a : Asker) (value : ℤ) → AskerFits s p a → Contains (got s a.deeds) (next_deed s a value) → ⊥
not_got s p a value h has =
    let number : Contains (numbers (got s a.deeds)) (length a.deeds + 1) = contains_mapped number_of (got s a.deeds) (next_deed s a value) has in
    let upto_has : Contains (upto s (length a.deeds)) (length a.deeds + 1) = subst (λ (all : List ℕ). Contains all (length a.deeds + 1)) h.numbers_are number in
    let high = (upto_in s (length a.deeds) (length a.deeds + 1) upto_has).high in
    omega (arith, high)

-- what matches, and has the deed of the answer, is what the coordinator has got with it
one_more_in_pairs : (s : Site) (p : Pair) (a : Asker) (deeds : List Deed) (value : ℤ) → AskerFits s p a → Matches s a deeds → Contains deeds (next_deed s a value) → deeds ≡ got s a.deeds ++ next_deed s a value ∷ []
one_more_in_pairs s p a deeds value h (inl same) has = absurd (not_got s p a value h (subst (λ (all : List Deed). Contains all (next_deed s a value)) same has))
one_more_in_pairs s p a deeds value h (inr more) has =
    ⊎_elim (λ (old : Contains (got s a.deeds) (next_deed s a value)). absurd (not_got s p a value h old))
    (λ (same : next_deed s a more.value ≡ next_deed s a value). more.more ∙ ap (λ (deed : Deed). got s a.deeds ++ deed ∷ []) same)
    (Contains-push_cases (got s a.deeds) (next_deed s a more.value) (next_deed s a value) (subst (λ (all : List Deed). Contains all (next_deed s a value)) more.more has))

-- what is there of the epoch that was told matches what the coordinator got
pub there_matches : (s : Site) (p : Pair) (a : Asker) (kept : Option ℕ) (epoch : ℕ) (deeds : List Deed) → Pairing s p a kept → (upto s (length a.deeds) ≡ []) ⊎ (kept ≡ Some epoch) → IsThere p epoch deeds → Matches s a deeds
there_matches s p a None epoch deeds h either found = h.there (record { epoch = epoch; deeds = deeds }) found
there_matches s p a (Some e) epoch deeds h (inl none) found = absurd (h.some none)
there_matches s p a (Some e) epoch deeds h (inr same) found =
    let epochs : e ≡ epoch = grind arith in
    ⊎_elim (λ (t : There p e (Matches s a)). subst (Matches s a) (same_held p e epoch t.deeds deeds t.found found) t.says)
    (λ (g : IsGone p e). absurd (g.none deeds (subst (λ (n : ℕ). IsThere p n deeds) (sym epochs) found)))
    h.told

-- an epoch that is kept is the answer's
same_epoch : (s : Site) (p : Pair) (a : Asker) (kept : Option ℕ) (epoch : ℕ) → Pairing s p a kept → (upto s (length a.deeds) ≡ []) ⊎ (kept ≡ Some epoch) → (e : ℕ) → kept ≡ Some e → Some epoch ≡ Some e
same_epoch s p a None epoch h either e f = absurd (cc)
same_epoch s p a (Some old) epoch h (inl none) e f = absurd (h.some none)
same_epoch s p a (Some old) epoch h (inr same) e f = sym same ∙ f

-- the answer is this server's: its epoch is kept, and its deed is got
pub takes : (s : Site) (p : Pair) (a : Asker) (done : DoneReply) (value : ℤ) → p.asker ≡ Some a → Fits s p → a.stand ≡ Asks → done.turn ≡ a.turn → RanFits s p done value
    → Next s p (with_asker p (Some (answered s a (Some done.epoch) value)))
takes s p a done value is h asks turn ran =
    let b = answered s a (Some done.epoch) value in
    let q = with_asker p (Some b) in
    let old : AskerFits s p a = of_some (AskerFits s p) p.asker a is h.asker in
    let t : Taken s p a done value = taken s p a done value is asks turn ran in
    let deed = next_deed s a value in
    let more : got s b.deeds ≡ got s a.deeds ++ deed ∷ [] = got_here s a.deeds deed t.is_here in
    let upto_more : upto s (length a.deeds + 1) ≡ upto s (length a.deeds) ++ (length a.deeds + 1) ∷ [] = upto_here s (length a.deeds) t.is_here in
    let longer : length b.deeds ≡ length a.deeds + 1 = length_push a.deeds deed in
    let numbers_are : numbers (got s b.deeds) ≡ upto s (length a.deeds + 1) =
    ap numbers more ∙ (numbers_more (got s a.deeds) deed ∙ (ap (λ (all : List ℕ). all ++ (length a.deeds + 1) ∷ []) old.numbers_are ∙ sym upto_more)) in
    let told : Tells p done.epoch (Matches s b) =
    ⊎_elim (λ (there : There p done.epoch (λ (deeds : List Deed). Contains deeds deed)).
    inl (record {
      deeds = there.deeds;
      found = there.found;
      says = inl (one_more_in_pairs s p a there.deeds value old (there_matches s p a a.epoch done.epoch there.deeds old.pairing t.epoch there.found) there.says ∙ sym more);
    }))
    (λ (g : IsGone p done.epoch). inr g) t.told in
    with_asker_fits s p a b is h (answered_later s a (Some done.epoch) value asks (same_epoch s p a a.epoch done.epoch old.pairing t.epoch))
    (answered_fits s p a (Some done.epoch) value old asks t.asked numbers_are
    (record {
      some = λ none. upto_none s (length a.deeds + 1) (length a.deeds + 1) (ap (upto s) (sym longer) ∙ none) (record { low = omega arith; high = omega arith; at = t.is_here });
      told = tells_lost p q done.epoch (Matches s b) (asker_loses p (Some b)) told;
    }))
