use Rattle.std.proofs.Common.{◌≡◌, ◌<◌, ◌≤◌, ◌-◌, Some, length, slice_set, ap, ◌∙◌, arith}
use Rattle.tp_places.specs.Padded.{padded}
use Rattle.tp_places.specs.Turned.{place_of, turned}
use Rattle.tp_places.proofs.PaddedLemmas.{length-padded, padded_put}
use Rattle.tp_places.proofs.TurnedLemmas.{set_turned}
use Rattle.tp_places.proofs.overlay.Overlay.put.Goals as goal

pub returns-then-at-self : goal.returns-then-at-self
returns-then-at-self g c =
    let o = c.self.inside in
    let made = c.reach.new.made in
    let place = place_of o.count o.first c.args.at in
    let value = Some c.args.value in
    let few : length made.items ≤ o.count = omega (arith, made.ok.0, c.reach.ensures.few) in
    let long : length (padded made.items o.count) ≡ o.count = let is = length-padded made.items o.count in omega (arith, is, few) in
    let here : c.args.at < o.count = omega (arith, c.if-at-self.true) in
    let reached : place < length made.items = omega (arith, made.ok.0, c.reach.ensures.reached, c.place_among-place.ensures) in
    ap (λ at. turned (o.count - o.first) (padded (slice_set made.items at value) o.count)) c.place_among-place.ensures
    ∙ ap (turned (o.count - o.first)) (padded_put made.items o.count place value reached)
    ∙ set_turned o.count o.first (padded made.items o.count) c.args.at value long c.self.invariant.0 here
    ∙ ap (λ places. slice_set (turned (o.count - o.first) places) c.args.at value) c.reach.ensures.same
    ∙ ap (λ places. slice_set places c.args.at value) c.self.view_is
