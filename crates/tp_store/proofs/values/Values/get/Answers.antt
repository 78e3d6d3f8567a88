use Rattle.std.proofs.Common.{◌∙◌, ap, slice_get, sym}
use Rattle.tp_store.proofs.ValueLemmas.{read_under, read_written}
use Rattle.tp_store.proofs.values.Values.get.Goals as goal

pub returns-in-None : goal.returns-in-None
returns-in-None c =
    let v = c.self.inside in
    c.get-in-None.ensures
    ∙ read_under v.opening v.written c.args.item c.self.invariant (sym c.get.ensures ∙ c.in-None.is)
    ∙ ap (λ values. slice_get values c.args.item) c.self.view_is

pub returns-in_default : goal.returns-in_default
returns-in_default c =
    let v = c.self.inside in
    c.get.ensures
    ∙ read_written v.opening v.written c.args.item c.self.invariant (λ none. c.in_default.not-None (c.get.ensures ∙ none))
    ∙ ap (λ values. slice_get values c.args.item) c.self.view_is
