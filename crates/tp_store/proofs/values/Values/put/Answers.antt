use Rattle.std.proofs.Common.{◌∙◌, ap, slice_set}
use Rattle.std.proofs.lemmas.Int.{to_z-of_z}
use Rattle.tp_store.specs.mirrors.Values.{laid}
use Rattle.tp_store.proofs.ValueLemmas.{laid_over}
use Rattle.tp_store.proofs.values.Values.put.Goals as goal

pub returns : goal.returns
returns c =
    let v = c.self.inside in
    let put = simp (to_z-of_z, c.ranges.value) at c.put.ensures in
    ap (laid v.opening) put
    ∙ laid_over v.opening v.written c.args.item c.args.value c.self.invariant
    ∙ ap (λ values. slice_set values c.args.item c.args.value) c.self.view_is
