-- A pass stays ready.
use Rattle.std.proofs.Common.{◌≡◌, ℕ, zero, suc, ◌+◌, ◌≤◌, true, List, [], ◌∷◌, length, map, false, refl, ap, ◌∙◌, arith}
use Rattle.std.specs.Prelude.{◌++◌, Option, Some, None, Result, Ok, Err, IfOk, OnOk, IfSome, IfNone, nat_lt}
use Rattle.std.proofs.lemmas.Bool.Decides.{nat_tests}
use Rattle.atomic_table.specs.Seated.{TableId}
use Rattle.tp_types.specs.Each.{Each}
use Rattle.tp_types.proofs.EachLemmas.{each_more}
use Rattle.tp_wire.specs.declared.view.Entry.{Entry}
use Rattle.tp_wire.specs.declared.view.Part.{Part}
use Rattle.tp_wire.specs.History.{one_if, times_below, numbers_of}
use Rattle.tp_wire.specs.Calls.{IsPosted, IsTaken, IsCleared}
use Rattle.tp_wire.specs.Passes.{Known, moved, with_mail, fresh_passes}
use Rattle.tp_wire.proofs.ViewLemmas.{numbers_moved}
use Rattle.tp_wire_tests.specs.Ready.{IsReady}

length_mapped : (f : Part → Part) (parts : List Part) → length (map f parts) ≡ length parts
length_mapped f [] = refl
length_mapped f (p ∷ parts) = ap suc (length_mapped f parts)

numbers_mailed : (mail : ℕ) (parts : List Part) → numbers_of (map (with_mail mail) parts) ≡ numbers_of parts
numbers_mailed mail [] = refl
numbers_mailed mail (p ∷ parts) = ap (λ (ns : List ℕ). p.number ∷ ns) (numbers_mailed mail parts)

still : (table : TableId) (actors : ℕ) (p q : Known) → IsReady table actors p → q.table ≡ p.table → q.given_up ≡ false → length q.view.parts ≡ length p.view.parts → numbers_of q.view.parts ≡ numbers_of p.view.parts → IsReady table actors q
still table actors p q r site live part numbers = record {
  site = site ∙ r.site;
  live = live;
  part = part ∙ r.part;
  actor = ap (times_below actors) numbers ∙ r.actor;
}

pub same_ready : (table : TableId) (actors : ℕ) (p q : Known) → IsReady table actors p → q.table ≡ p.table → q.given_up ≡ false → q.view.parts ≡ p.view.parts → IsReady table actors q
same_ready table actors p q r site live parts = still table actors p q r site live (ap (λ (ps : List Part). length ps) parts) (ap numbers_of parts)

pub moved_ready : (table : TableId) (actors : ℕ) (p q : Known) (log : List Entry) → IsReady table actors p → q.table ≡ p.table → q.given_up ≡ false → q.view.parts ≡ map (moved log) p.view.parts → IsReady table actors q
moved_ready table actors p q log r site live parts =
    still table actors p q r site live (ap (λ (ps : List Part). length ps) parts ∙ length_mapped (moved log) p.view.parts) (ap numbers_of parts ∙ numbers_moved log p.view.parts)

pub mailed_ready : (table : TableId) (actors : ℕ) (p q : Known) (mail : ℕ) → IsReady table actors p → q.table ≡ p.table → q.given_up ≡ false → q.view.parts ≡ map (with_mail mail) p.view.parts → IsReady table actors q
mailed_ready table actors p q mail r site live parts =
    still table actors p q r site live (ap (λ (ps : List Part). length ps) parts ∙ length_mapped (with_mail mail) p.view.parts) (ap numbers_of parts ∙ numbers_mailed mail p.view.parts)

-- after a post, and after a take
pub posted_ready : {E : Type 0} (follows : List Entry → Entry → Type 0) (bound : ℕ) (table : TableId) (actors : ℕ) (p q : Known) (e : Entry) (r : Result ℕ E) → IsReady table actors p → q.table ≡ p.table
    → IfOk r (λ place. IsPosted follows bound p.view e place q.view) → OnOk r (q.given_up ≡ false) → OnOk r (IsReady table actors q)
posted_ready follows bound table actors p q e (Ok place) ready site posted live = moved_ready table actors p q (posted.before ++ e ∷ []) ready site live posted.parts_are
posted_ready follows bound table actors p q e (Err why) ready site posted live = tt

pub taken_ready : {E : Type 0} (table : TableId) (actors : ℕ) (p q : Known) (r : Result (Option ℕ) E) → IsReady table actors p → q.table ≡ p.table
    → IfOk r (λ found. IfSome found (λ mail. IsTaken p.view mail q.view)) → IfOk r (λ found. IfNone found (IsCleared p.view q.view)) → OnOk r (q.given_up ≡ false) → OnOk r (IsReady table actors q)
taken_ready table actors p q (Ok (Some mail)) ready site some none live = mailed_ready table actors p q mail ready site live some.parts_are
taken_ready table actors p q (Ok None) ready site some none live = same_ready table actors p q ready site live none.parts_are
taken_ready table actors p q (Err why) ready site some none live = tt

-- one pass more of a table
pub one_more : (table : TableId) (actors : ℕ) (ps qs : List Known) (p : Known) → Each (λ (k : Known). k.table ≡ table) ps → IsReady table actors p → qs ≡ ps ++ p ∷ [] → Each (λ (k : Known). k.table ≡ table) qs
one_more table actors ps qs p all ready is = rw is (each_more (λ (k : Known). k.table ≡ table) ps p all ready.site)

-- the passes of a wire whose parts are all actors'
pub fresh_ready : (table : TableId) (actors from count : ℕ) → from + count ≤ actors → Each (IsReady table actors) (fresh_passes table from count)
fresh_ready table actors from zero less = tt
fresh_ready table actors from (suc count) less =
    let low : nat_lt from actors ≡ true = grind (arith, nat_tests) in
    let one : one_if (nat_lt from actors) ≡ 1 = ap one_if low in
    (record { site = refl; live = refl; part = refl; actor = omega (arith, one) }, fresh_ready table actors (from + 1) count (omega (arith, less)))
