use Rattle.std.proofs.Common.{◌≡◌, ◌+◌, ◌<◌, ◌++◌, [], ◌∷◌, Some, None, length, slice_set, ap, ◌∙◌, arith}
use Rattle.std.proofs.lemmas.List.{length-append}
use Rattle.std.proofs.lemmas.Result.{on_ok_weaker}
use Rattle.tp_places.specs.Padded.{padded}
use Rattle.tp_places.proofs.PaddedLemmas.{padded_more, padded_put, padded_put_next}
use Rattle.tp_places.proofs.places.Places.put.Goals as goal

pub returns-then-at-len-clause-ok : goal.returns-then-at-len-clause-ok
returns-then-at-len-clause-ok g c =
    let within : c.args.at < length c.self.inside.made = omega (arith, c.if-at-len.true, c.len.ensures) in
    ap (λ made. padded made c.self.inside.count) c.put.ensures
    ∙ padded_put c.self.inside.made c.self.inside.count c.args.at (Some c.args.value) within
    ∙ ap (λ places. slice_set places c.args.at (Some c.args.value)) c.self.view_is

pub loop-self-preserved : goal.loop-self-preserved
loop-self-preserved g c =
    let before = c.loop-self.self-inside in
    let longer = c.in_ok-push.ensures.ok in
    let one : length (before.made ++ None ∷ []) ≡ length before.made + 1 = length-append before.made (None ∷ []) in
    let less : length before.made < c.args.at = omega (arith, c.loop-self-test.true, c.len-in-loop-self.ensures) in
    record {
      count = c.loop-self.invariant.count;
      front = omega (arith, less, one, ap length longer);
      table =
          ap (λ made. padded made before.count) longer
          ∙ padded_more before.made before.count (omega (arith, less, c.if-at-self.false, c.loop-self.invariant.count))
          ∙ c.loop-self.invariant.table;
    }

pub returns-clause-ok : goal.returns-clause-ok
returns-clause-ok g c =
    let before = c.loop-self.self-inside in
    let place : length before.made ≡ c.args.at = omega (arith, c.loop-self-test.false, c.len-in-loop-self.ensures, c.loop-self.invariant.front) in
    let less : length before.made < before.count = omega (arith, place, c.if-at-self.false, c.loop-self.invariant.count) in
    on_ok_weaker c.push-2.result
    (λ longer.
    ap (λ made. padded made before.count) longer
    ∙ padded_put_next before.made before.count (Some c.args.value) less
    ∙ ap (λ at. slice_set (padded before.made before.count) at (Some c.args.value)) place
    ∙ ap (λ places. slice_set places c.args.at (Some c.args.value)) (c.loop-self.invariant.table ∙ c.self.view_is))
    c.push-2.ensures.ok
