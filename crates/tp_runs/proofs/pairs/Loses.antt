-- Changes after which a server holds what it held before, or less: all but the making of an entry and the run of a query.
use Rattle.std.proofs.Common.{◌≡◌, ◌⊎◌, inl, inr, ⊎_elim, ℕ, ◌<◌, ◌≤◌, List, length, true, false, Option, Some, None, refl, sym, ◌∙◌, arith}
use Rattle.tp_model.specs.Words.{Deed, Prepared}
use Rattle.tp_runs.proofs.basics.Phases.{Prepares}
use Rattle.tp_runs.proofs.pairs.Fits.{AskerFits, IsGone, IsOver, IsThere, Made, Matches, Pairing, Tells, There}
use Rattle.tp_runs.proofs.pairs.Pair.{Asker, Held, Pair, held}
use Rattle.tp_runs.proofs.pairs.Site.{Site, upto}

-- what was lost stays lost, what was there is there or lost, and nothing is new
pub record Loses (p q : Pair) : Type 0 where
  pub gone : (epoch : ℕ) → IsGone p epoch → IsGone q epoch
  pub kept : (h : Held) → held p ≡ Some h → (held q ≡ Some h) ⊎ IsGone q h.epoch
  pub fewer : (h : Held) → held q ≡ Some h → held p ≡ Some h

-- ---- which changes are such

-- what is held stays, and what is over stays over
pub loses_held : (p q : Pair) → held q ≡ held p → p.epoch ≤ q.epoch → ((epoch : ℕ) → IsGone p epoch → IsOver q epoch) → Loses p q
loses_held p q same later over =
    record {
      gone = λ epoch g. record { past = let past = g.past in omega (arith, past, later); none = λ deeds found. g.none deeds (sym same ∙ found); over = over epoch g };
      kept = λ h found. inl (same ∙ found);
      fewer = λ h found. sym same ∙ found;
    }

-- nothing changes that the server holds, nor whether it is up, has settled, and in which epoch it is
pub loses_same : (p q : Pair) → held q ≡ held p → q.up ≡ p.up → q.settled ≡ p.settled → q.epoch ≡ p.epoch → Loses p q
loses_same p q same up settled epoch =
    loses_held p q same (omega (arith, epoch))
    (λ e g. ⊎_elim (λ (down : p.up ≡ false). inl (up ∙ down))
    (⊎_elim (λ (ended : p.settled ≡ true). inr (inl (settled ∙ ended))) (λ (less : e < p.epoch). inr (inr (omega (arith, less, epoch)))))
    g.over)

-- all is lost
pub loses_all : (p q : Pair) → held q ≡ None → q.epoch ≡ p.epoch → ((h : Held) → held p ≡ Some h → h.epoch ≤ p.epoch) → ((epoch : ℕ) → IsOver q epoch) → Loses p q
loses_all p q none same past over =
    let nothing : (h : Held) → held q ≡ Some h → ⊥ = λ h found. cc in
    record {
      gone = λ epoch g. record { past = let before = g.past in omega (arith, before, same); none = λ deeds found. nothing (record { epoch = epoch; deeds = deeds }) found; over = over epoch };
      kept = λ h found. inr (record { past = let before = past h found in omega (arith, before, same); none = λ deeds there. nothing (record { epoch = h.epoch; deeds = deeds }) there; over = over h.epoch });
      fewer = λ h found. absurd (nothing h found);
    }

-- ---- what they keep

-- deeds that are there twice are the same
pub same_held : (p : Pair) (epoch other : ℕ) (deeds more : List Deed) → IsThere p epoch deeds → IsThere p other more → deeds ≡ more
same_held p epoch other deeds more first second = let same = sym first ∙ second in grind arith

there_lost : (p q : Pair) (epoch : ℕ) (P : List Deed → Type 0) → Loses p q → There p epoch P → Tells q epoch P
there_lost p q epoch P loses t =
    ⊎_elim (λ (found : IsThere q epoch t.deeds). inl (record { deeds = t.deeds; found = found; says = t.says })) (λ (g : IsGone q epoch). inr g)
    (loses.kept (record { epoch = epoch; deeds = t.deeds }) t.found)

-- what is told of an epoch stays true
pub tells_lost : (p q : Pair) (epoch : ℕ) (P : List Deed → Type 0) → Loses p q → Tells p epoch P → Tells q epoch P
tells_lost p q epoch P loses told =
    ⊎_elim (λ (t : There p epoch P). there_lost p q epoch P loses t) (λ (g : IsGone p epoch). inr (loses.gone epoch g)) told

-- what follows from what is told of an epoch is told of it
pub tells_as : (p : Pair) (epoch : ℕ) (P Q : List Deed → Type 0) → ((deeds : List Deed) → P deeds → Q deeds) → Tells p epoch P → Tells p epoch Q
tells_as p epoch P Q step told =
    ⊎_elim (λ (t : There p epoch P). inl (record { deeds = t.deeds; found = t.found; says = step t.deeds t.says })) (λ (g : IsGone p epoch). inr g) told

-- a coordinator that got no more from the server matches it as before
pub pairing_as : (s : Site) (p q : Pair) (a b : Asker) (epoch : Option ℕ) → Loses p q → upto s (length b.deeds) ≡ upto s (length a.deeds)
    → ((deeds : List Deed) → Matches s a deeds → Matches s b deeds) → Pairing s p a epoch → Pairing s q b epoch
pairing_as s p q a b None loses same step h = record { none = same ∙ h.none; there = λ x found. step x.deeds (h.there x (loses.fewer x found)) }
pairing_as s p q a b (Some epoch) loses same step h =
    record { some = λ none. h.some (sym same ∙ none); told = tells_lost p q epoch (Matches s b) loses (tells_as p epoch (Matches s a) (Matches s b) step h.told) }

pub pairing_lost : (s : Site) (p q : Pair) (a : Asker) (epoch : Option ℕ) → Loses p q → Pairing s p a epoch → Pairing s q a epoch
pairing_lost s p q a epoch loses h = pairing_as s p q a a epoch loses refl (λ deeds m. m) h

-- a coordinator fits as before
pub asker_lost : (s : Site) (p q : Pair) (a : Asker) → Loses p q → ((prepared : Prepared) → q.prepared ≡ Some prepared → Made a prepared) → (q.settled ≡ true → a.stand ≡ Prepares) → AskerFits s p a → AskerFits s q a
asker_lost s p q a loses made unsettled h =
    record {
      numbers_are = h.numbers_are;
      runs = h.runs;
      pairing = pairing_lost s p q a a.epoch loses h.pairing;
      made = made;
      least = h.least;
      most = h.most;
      all = h.all;
      unsettled = unsettled;
    }
