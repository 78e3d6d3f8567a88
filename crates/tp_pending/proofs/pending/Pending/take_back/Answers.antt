use Rattle.std.proofs.Common.{arith, Bool, List, length, slice_set, sym, subst, suc, take, ◌∙◌, ◌≡◌, ◌+◌, ◌-◌, ap, false, ◌++◌, ◌∷◌, [], ℕ}
use Rattle.std.proofs.lemmas.List.{length-set}
use Rattle.tp_pending.proofs.RingLemmas.{cut_flags, cut_ring, front_long}
use Rattle.tp_pending.proofs.FlagLemmas.{front_kept, taken_last}
use Rattle.tp_pending.specs.mirrors.Ring.{IsRing, flags_of}
use Rattle.tp_pending.proofs.pending.Pending.take_back.Goals as goal

pub invariant_of-self : goal.invariant_of-self
invariant_of-self c =
    let last : ℕ = c.len-posted.result - 1 in
    let posted : length c.args.self.now ≡ last + 1 = omega (arith, c.if-posted-gt0.true, c.len-posted.ensures) in
    let flags : flags_of c.self.inside.nodes ≡ slice_set c.args.self.now last false = c.self.view_is ∙ c.take.ensures in
    let cut : flags_of c.self.inside.nodes ≡ take last (flags_of c.self.inside.nodes) ++ false ∷ [] =
    subst (λ (fs : List Bool). fs ≡ take last fs ++ false ∷ []) (sym flags) (taken_last c.args.self.now last posted) in
    let whole : length (flags_of c.self.inside.nodes) ≡ last + 1 = ap length flags ∙ (length-set c.args.self.now last false ∙ posted) in
    let count : suc last ≡ c.len-posted.result = omega (arith, c.if-posted-gt0.true) in
    subst IsRing (sym (c.truncate.ensures ∙ ap (λ (k : ℕ). take k c.self.inside.nodes) (sym count)))
    (cut_ring c.self.inside.nodes last cut (front_long last (flags_of c.self.inside.nodes) whole) c.self.invariant)

pub returns-then-posted-gt0 : goal.returns-then-posted-gt0
returns-then-posted-gt0 c =
    let last : ℕ = c.len-posted.result - 1 in
    let count : suc last ≡ c.len-posted.result = omega (arith, c.if-posted-gt0.true) in
    let flags : flags_of c.self.inside.nodes ≡ slice_set c.args.self.now last false = c.self.view_is ∙ c.take.ensures in
    let same : last ≡ length c.args.self.now - 1 = omega (arith, c.len-posted.ensures) in
    ap flags_of (c.truncate.ensures ∙ ap (λ (k : ℕ). take k c.self.inside.nodes) (sym count))
    ∙ (cut_flags c.self.inside.nodes last ∙ (ap (take last) flags ∙ (front_kept c.args.self.now last ∙ ap (λ (k : ℕ). take k c.args.self.now) same)))
