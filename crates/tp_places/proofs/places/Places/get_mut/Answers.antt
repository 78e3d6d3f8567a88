use Rattle.std.proofs.Common.{◌≡◌, ◌<◌, Some, length, slice_get, slice_index_or, slice_set, sym, ap, refl, ◌∙◌}
use Rattle.std.specs.Option.{ghost_name_of, option_flatten}
use Rattle.std.proofs.lemmas.List.{set-get_or}
use Rattle.std.proofs.lemmas.Option.{slice_get_read}
use borrow.Follows.Closed.{read_of}
use Rattle.tp_places.specs.Padded.{padded}
use Rattle.tp_places.proofs.PaddedLemmas.{padded_get, padded_put}
use Rattle.tp_places.proofs.places.Places.get_mut.Goals as goal

-- what is written through the borrow is written in the front; where the place is empty nothing is, and the front keeps it so
pub returns-in-Some : goal.returns-in-Some
returns-in-Some g c =
    let made = c.self.inside.made in
    let count = c.self.inside.count in
    let at = c.args.at in
    let place = c.in-Some.place.now in
    let within : at < length made = c.in-Some.ensures.variant.0 refl in
    let read : place ≡ slice_index_or made at place = c.in-Some.ensures.item.1 in
    let there : slice_get made at ≡ Some place = slice_get_read made (length made) at place refl within read in
    let kept : slice_set made at place ≡ made = ap (λ p. slice_set made at p) read ∙ set-get_or made at place in
    let front : padded (slice_set made at place) count ≡ c.args.self.now = ap (λ m. padded m count) kept ∙ c.self.view_is in
    let same : (w : g.row.T.Denot) → padded (slice_set made at (Some w)) count ≡ slice_set c.args.self.now at (Some w) =
    λ w. padded_put made count at (Some w) within ∙ ap (λ places. slice_set places at (Some w)) c.self.view_is in
    let stands : option_flatten (slice_get c.args.self.now at) ≡ place =
    ap (λ places. option_flatten (slice_get places at)) (sym c.self.view_is) ∙ padded_get made count at ∙ ap option_flatten there in (
      λ t. read_of (ghost_name_of c.as_mut.result) (λ (w : g.row.T.Denot). same w t) (front t),
      record { writes_back = tt; item = c.as_mut.ensures.value ∙ sym stands },
    )
