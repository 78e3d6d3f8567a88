-- Which short histories are those of one master.
use Rattle.std.proofs.Common.{◌≡◌, ℕ, ◌≤◌, List, [], ◌∷◌, slice_get, Some, None, zero, suc, refl, sym, subst, arith, ◌∙◌}
use Rattle.tp_quorum.proofs.Facts.{one_master_empty, one_master_pushed}
use Rattle.tp_quorum.specs.Histories.{admin, back, ends, fair, made_up, publishes, reads, stale, version}
use Rattle.tp_quorum.specs.OneMaster.{Beginning, BeginsNext, EndsBetween, EndsRightly, EndsSo, OneMaster, beginning_of}
use Rattle.tp_quorum.specs.Words.{QFact, Version}
use Rattle.tp_quorum.specs.Words.what

-- what a reading's end follows
reading_end : (before : List QFact) (op reader number : ℕ) → beginning_of op before ≡ Some (record { admin = admin; reader = Some reader; version = None }) → EndsRightly before op (version number) → EndsBetween before op admin (version number)
reading_end before op reader number e rests =
    let both : Some (record { admin = admin; reader = Some reader; version = None }) ≡ Some rests.begun = sym e ∙ rests.is_begun in
    let same : record { admin = admin; reader = Some reader; version = None } ≡ rests.begun = cc in
    subst (λ (b : Beginning). EndsSo before op b.admin b.version (version number)) (sym same) rests.so

pub stale_refused : OneMaster stale → ⊥
stale_refused master =
    let rests = reading_end (publishes 0 0 2 ∷ ends 1 0 2 ∷ reads 2 1 ∷ []) 1 0 1 refl (master.follows 3 (ends 3 1 1) refl) in
    let less : 2 ≤ 1 = rests.newest 1 0 (ends 1 0 2) (version 2) (record { admin = admin; reader = None; version = Some (version 2) }) refl refl refl refl in
    omega arith

pub back_refused : OneMaster back → ⊥
back_refused master =
    let rests = reading_end (publishes 0 0 2 ∷ reads 1 1 ∷ ends 2 1 2 ∷ reads 3 2 ∷ []) 2 0 1 refl (master.follows 4 (ends 4 2 1) refl) in
    let less : 2 ≤ 1 = rests.newest 2 1 (ends 2 1 2) (version 2) (record { admin = admin; reader = Some 0; version = None }) refl refl refl refl in
    omega arith

pub made_up_refused : OneMaster made_up → ⊥
made_up_refused master =
    let rests = reading_end (reads 0 0 ∷ []) 0 0 2 refl (master.follows 1 (ends 1 0 2) refl) in
    let few : 2 ≤ 1 = rests.published in
    omega arith

-- nobody has published before
first_publication : BeginsNext [] admin (version 2)
first_publication = record { next = refl; alone = λ n op fact own there is. absurd (cc) }

-- nobody had ended
fair_end : EndsBetween (publishes 0 0 2 ∷ reads 1 1 ∷ []) 1 admin (version 1)
fair_end = record { some = omega arith; newest = newest; published = omega arith }
  where
    newest : (n other : ℕ) (fact : QFact) (found : Version) (begun : Beginning) → slice_get (publishes 0 0 2 ∷ []) n ≡ Some fact → fact.what ≡ what.Ended other found
        → beginning_of other (publishes 0 0 2 ∷ reads 1 1 ∷ []) ≡ Some begun → begun.admin ≡ admin → found.0 ≤ 1
    newest zero other fact found begun there is is_begun own =
        let same : publishes 0 0 2 ≡ fact = cc in
        let never : (publishes 0 0 2).what ≡ what.Ended other found = subst (λ (f : QFact). f.what ≡ what.Ended other found) (sym same) is in
        absurd (cc)
    newest (suc n) other fact found begun there is is_begun own = absurd (cc)

pub fair_is_one_master : OneMaster fair
fair_is_one_master =
    let one = one_master_pushed [] (publishes 0 0 2) one_master_empty tt (record { numbered = refl; so = first_publication }) in
    let two = one_master_pushed (publishes 0 0 2 ∷ []) (reads 1 1) one (omega arith, tt) (record { numbered = refl; so = tt }) in
    let three =
    one_master_pushed (publishes 0 0 2 ∷ reads 1 1 ∷ []) (ends 2 1 1) two (omega arith, (omega arith, tt))
    (record { begun = record { admin = admin; reader = Some 0; version = None }; is_begun = refl; running = refl; so = fair_end }) in
    one_master_pushed (publishes 0 0 2 ∷ reads 1 1 ∷ ends 2 1 1 ∷ []) (ends 3 0 2) three (omega arith, (omega arith, (omega arith, tt)))
    (record { begun = record { admin = admin; reader = None; version = Some (version 2) }; is_begun = refl; running = refl; so = refl })
