use Rattle.std.proofs.Common.{◌≡◌, ◌∙◌, ℕ, ◌≤◌, ◌==◌, false, List, ◌++◌, length, take, drop, ap, arith}
use Rattle.std.proofs.lemmas.Grind.{common_steps}
use Rattle.std.proofs.lemmas.List.{with_items_is}
use Rattle.tp_record.specs.Spelling.{short}
use Rattle.tp_record.specs.mirrors.Room.{room_of}
use Rattle.tp_record.proofs.CountLemmas.{count_within}
use Rattle.tp_record.proofs.written.Writer.set_count.Goals as goal

far_room : (near far : List ℕ) → (length far == 0) ≡ false → room_of near far ≡ far
far_room near far full = grind (arith, common_steps)

-- a count is set where the bytes stand far
set_far : (len n : ℕ) (near far new : List ℕ) → (length far == 0) ≡ false → length new ≡ length far
    → new ≡ short n ++ drop 4 far → 4 ≤ length (take len (room_of near far))
    → take len (room_of near new) ≡ short n ++ drop 4 (take len (room_of near far))
set_far len n near far new full same is long =
    let kept : (length new == 0) ≡ false = grind (arith, common_steps) in
    let most : 4 ≤ len = grind (arith, common_steps) in
    rw (far_room near new kept, far_room near far full, is) (count_within len n far most)

pub returns-else-is_empty : goal.returns-else-is_empty
returns-else-is_empty c =
    let inside = c.self.inside in
    let bytes = c.put_count-else-is_empty.new.bytes in
    let full : (length inside.far.items == 0) ≡ false = cc (inside.far.ok.0) in
    let same : length bytes ≡ inside.far.len = omega arith in
    let counted : bytes ≡ short c.args.count ++ drop 4 inside.far.items = cc in
    let all : length bytes ≡ length inside.far.items = omega (arith, inside.far.ok.0) in
    let long : 4 ≤ length (take inside.len (room_of inside.near inside.far.items)) = omega (arith, ap length c.self.view_is) in
    let whole = with_items_is inside.far bytes same in
    rw whole (set_far inside.len c.args.count inside.near inside.far.items bytes full all counted long
    ∙ ap (λ (seen : List ℕ). short c.args.count ++ drop 4 seen) c.self.view_is)
