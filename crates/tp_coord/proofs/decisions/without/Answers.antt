use Rattle.std.proofs.Common.{◌==◌, filter, not, ap, ◌∙◌, rules}
use Rattle.std.proofs.lemmas.Fn.{filter_same}
use Rattle.tp_model.specs.Words.{ServerId}
use Rattle.tp_coord.proofs.decisions.without.Goals as goal

pub returns : goal.returns
returns c =
    c.from_vec.ensures
    ∙ filter_same _ (λ (other : ServerId). not (other.0 == c.args.server.0)) _ (λ x b f' k. search rules) _ _
    c.retain.ensures.filtered
    ∙ ap (filter (λ (other : ServerId). not (other.0 == c.args.server.0))) c.into_vec-left.ensures
