-- Filling a range byte by byte.
use Rattle.std.proofs.Common.{◌≡◌, ℕ, ◌+◌, ◌-◌, ◌<◌, ◌≤◌, [], ◌∷◌, ◌++◌, List, take, drop, length, set, get_or, sym, ap, ◌∙◌, arith, append_assoc}
use Rattle.std.specs.Prelude.{replicate}
use Rattle.std.proofs.Math.Seq.{set-append_seam}
use Rattle.std.proofs.lemmas.List.{drop_more, length-append, length-take, length-replicate, replicate-append-replicate}

pub blank_more : (old now : List ℕ) (from i fill : ℕ) → from ≤ i → i < length old → now ≡ take from old ++ (replicate (i - from) fill ++ drop i old)
    → set now i fill ≡ take from old ++ (replicate (i + 1 - from) fill ++ drop (i + 1) old)
blank_more old now from i fill le lt is =
    let front : List ℕ = take from old ++ replicate (i - from) fill in
    let size : length front ≡ i = omega (arith, length-append (take from old) (replicate (i - from) fill), length-take from old, length-replicate (i - from) fill) in
    let split : now ≡ front ++ get_or old i 0 ∷ drop (i + 1) old =
    is ∙ sym (append_assoc (take from old) (replicate (i - from) fill) (drop i old)) ∙ ap (λ (t : List ℕ). front ++ t) (drop_more old i 0 lt) in
    let written : set now i fill ≡ front ++ fill ∷ drop (i + 1) old =
    ap (λ (t : List ℕ). set t i fill) split ∙ ap (λ (k : ℕ). set (front ++ get_or old i 0 ∷ drop (i + 1) old) k fill) (sym size) ∙ set-append_seam front (get_or old i 0) (drop (i + 1) old) fill in
    let more : replicate (i - from) fill ++ fill ∷ [] ≡ replicate (i + 1 - from) fill =
    replicate-append-replicate (i - from) 1 fill ∙ ap (λ (k : ℕ). replicate k fill) (omega arith) in
    written
    ∙ append_assoc (take from old) (replicate (i - from) fill) (fill ∷ drop (i + 1) old)
    ∙ ap (λ (t : List ℕ). take from old ++ t) (sym (append_assoc (replicate (i - from) fill) (fill ∷ []) (drop (i + 1) old)) ∙ ap (λ (t : List ℕ). t ++ drop (i + 1) old) more)
