-- What a table ends as, where a `&mut` to what stands at one of its places is returned.
use Rattle.std.specs.Prelude.{ℕ, List, Option, Some, slice_set}
use Rattle.std.specs.Borrow.{LendsIf, Fml, RattleType, MutBor}
use Rattle.tp_places.specs.contracts.places.Places.{the_row}

module _ (T : RattleType) (v : MutBor (List (Option T.Denot))) where
  -- once the borrow r ends, the place has the last value written through r, and at None the table stays as it is
  abbrev pub lends_place : ℕ → Option (MutBor T.Denot) → Fml
  lends_place i r = LendsIf (the_row T) T v r (λ value. slice_set v.now i (Some value)) v.now
