use Rattle.std.proofs.Common.{◌≡◌, drop, true, false, sym, ap, ◌∙◌, arith, take_all, length-drop}
use Rattle.fast_float.specs.Text.{scan}
use Rattle.serde_json.specs.Read.{number_from, number_of}
use Rattle.tp_json.proofs.NumberLemmas.{with_minus, without_minus}
use Rattle.tp_json.proofs.number.Number.of.Goals as goal

pub returns-then-has_minus : goal.returns-then-has_minus
returns-then-has_minus c =
    let text = c.as_bytes-bytes.result.now in
    let digits : c.scan.result ≡ scan (drop 1 text) =
    c.scan.ensures.parts ∙ ap scan (take_all _ (drop 1 text) (omega (arith, length-drop 1 text))) in
    c.negative_of.ensures ∙ ap (number_from true) digits
    ∙ with_minus text (sym c.if-has_minus.ensures.value) ∙ ap number_of c.as_bytes-bytes.ensures.value

pub returns-else-has_minus : goal.returns-else-has_minus
returns-else-has_minus c =
    let text = c.as_bytes-bytes.result.now in
    c.natural_of.ensures ∙ ap (number_from false) c.scan-else-has_minus.ensures.parts
    ∙ without_minus text (sym c.if-has_minus.ensures.value) ∙ ap number_of c.as_bytes-bytes.ensures.value
