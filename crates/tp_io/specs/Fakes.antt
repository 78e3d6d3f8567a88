-- What the sources and sinks in memory do at each call.
use Rattle.std.specs.Prelude.{ℕ, ◌≡◌, ◌==◌, ◌++◌, min, List, length, take, drop, Bool, true, false, Result, Ok, Err}
use Rattle.std.specs.List.{list_any}
use Rattle.tp_types.specs.Faults.{one_more}

-- a source: the bytes still to come, the calls that fail one_more from 0, the most bytes of one call,
-- how many calls there were, and how many faults
pub record Supply : Type 0 where
  pub left : List ℕ
  pub fails : List ℕ
  pub most : ℕ
  pub calls : ℕ
  pub faults : ℕ

-- a sink: the bytes written, and the rest as of a source
pub record Store : Type 0 where
  pub written : List ℕ
  pub fails : List ℕ
  pub most : ℕ
  pub calls : ℕ
  pub faults : ℕ

-- whether the call of this number is to fail
abbrev pub is_due : List ℕ → ℕ → Bool
is_due fails call = list_any (λ due. due == call) fails

-- a call with room for so many bytes: it fails exactly where it is to fail, and else takes as many
-- as it can
abbrev pub Supplies : {E : Type 0} → Supply → ℕ → Result ℕ E → Supply → Type 0
Supplies old room (Ok n) new =
    (is_due old.fails old.calls ≡ false) × (n ≡ min old.most (min room (length old.left)))
    × (new ≡ record old { left = drop n old.left; calls = one_more old.calls })
Supplies old room (Err _) new =
    (is_due old.fails old.calls ≡ true)
    × (new ≡ record old { calls = one_more old.calls; faults = one_more old.faults })

-- a call with this piece: it takes as many bytes as it can, never where it is to fail, and it may
-- also fail for want of memory
abbrev pub Stores : {E : Type 0} → Store → List ℕ → Result ℕ E → Store → Type 0
Stores old piece (Ok n) new =
    (is_due old.fails old.calls ≡ false) × (n ≡ min old.most (length piece))
    × (new ≡ record old { written = old.written ++ take n piece; calls = one_more old.calls })
Stores old piece (Err _) new =
    new ≡ record old { calls = one_more old.calls; faults = one_more old.faults }
