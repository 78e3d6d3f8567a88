-- What a list ends as, where a `&mut` to one of its members is returned.
use Rattle.std.specs.Prelude.{ℕ, List, Option, slice_set}
use Rattle.std.specs.Borrow.{LendsIf, Fml, RattleType, MutBor}
use Rattle.tp_types.specs.contracts.list.List.{the_row}

module _ (T : RattleType) (v : MutBor (List T.Denot)) where
  -- once the borrow r ends, the place has the last value written through r, and at None the list stays as it is
  abbrev pub lends_get : ℕ → Option (MutBor T.Denot) → Fml
  lends_get i r = LendsIf (the_row T) T v r (slice_set v.now i) v.now
