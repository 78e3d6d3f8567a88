use Rattle.std.proofs.Common.{◌≡◌, ◌++◌, List, ℕ, OnOk, ap, subst, ◌∙◌, rules, FitsSigned}
use Rattle.std.specs.Int.{w128, to_be_bytes, cast_unsigned}
use Rattle.std.proofs.lemmas.Int.{to_z-of_z}
use Rattle.tp_record.specs.Spelling.{value}
use Rattle.tp_record.proofs.spelled.I128Spelled.write_to.Goals as goal

pub returns-clause-spelled : goal.returns-clause-spelled
unfolding value
returns-clause-spelled c =
    let fits : FitsSigned w128 c.args.self.now = search rules in
    let is : c.to_be_bytes.result ≡ value c.args.self.now =
    c.to_be_bytes.ensures ∙ ap (λ z. to_be_bytes w128 (cast_unsigned w128 z)) (to_z-of_z w128 c.args.self.now fits) in
    subst (λ (bytes : List ℕ). OnOk c.put.result (c.put.new.self ≡ c.args.out.now ++ bytes)) is c.put.ensures
