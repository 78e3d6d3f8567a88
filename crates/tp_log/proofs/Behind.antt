-- Reading a log from a gate on.
use Rattle.std.proofs.Common.{◌≡◌, inl, inr, ℕ, ◌+◌, ◌<◌, ◌≤◌, List, [], ◌∷◌, ◌++◌, drop, length, length-drop, false, refl, sym, ap, subst, ◌∙◌, append_assoc, arith}
use Rattle.std.proofs.lemmas.List.{drop_at, length-append}
use Rattle.tp_types.specs.declared.records.Record.{Record}
use Rattle.tp_device.specs.Disks.{DiskState, clean_state}
use Rattle.tp_device.specs.Memory.{Memory, disk_of}
use Rattle.tp_record.specs.Spelling.{spelling}
use Rattle.tp_log.specs.Images.{AreRecords, Gives, GivesBehind, blocks}
use Rattle.tp_log.specs.Logs.{IsAt, Keeps, LogState}
use Rattle.tp_log.proofs.Blocks.{gives_one, short_ends}

pub blocks_append : (before more : List Record) → blocks (before ++ more) ≡ blocks before ++ blocks more
blocks_append [] more = refl
blocks_append (r ∷ before) more =
    ap (λ (t : List ℕ). 1 ∷ t) (ap (λ (t : List ℕ). spelling r ++ t) (blocks_append before more) ∙ sym (append_assoc (spelling r) (blocks before) (blocks more)))

are_behind : (before more : List Record) → AreRecords (before ++ more) → AreRecords more
are_behind [] more are = are
are_behind (r ∷ before) more are = are_behind before more are.1

-- the bytes behind the place give the others
pub behind_gives : (image : List ℕ) (place : ℕ) (before more : List Record) → 1 < length image → GivesBehind image place before more → Gives (drop place image) more
behind_gives image place before more long h = by_form h.gives
  where
    by_form : Gives image (before ++ more) → Gives (drop place image) more
    by_form (inl p) = absurd (omega (arith, long, p.0))
    by_form (inr e) =
        let rest : List ℕ = blocks more ++ e.gate ∷ e.rest in
        let parts : image ≡ blocks before ++ rest =
        e.parts ∙ ap (λ (t : List ℕ). t ++ e.gate ∷ e.rest) (blocks_append before more) ∙ append_assoc (blocks before) (blocks more) (e.gate ∷ e.rest) in
        inr (record {
          gate = e.gate;
          rest = e.rest;
          are = are_behind before more e.are;
          shut = e.shut;
          parts = ap (drop place) parts ∙ drop_at (blocks before) rest place (sym h.place_is);
        })

pub place_within : (image : List ℕ) (place : ℕ) (before more : List Record) → 1 < length image → GivesBehind image place before more → place < length image
place_within image place before more long h = by_form h.gives
  where
    by_form : Gives image (before ++ more) → place < length image
    by_form (inl p) = absurd (omega (arith, long, p.0))
    by_form (inr e) =
        omega (arith, h.place_is, ap length e.parts, length-append (blocks (before ++ more)) (e.gate ∷ e.rest), ap length (blocks_append before more), length-append (blocks before) (blocks more))

-- the others are what those bytes give
pub behind_one : (image : List ℕ) (place : ℕ) (before more found : List Record) → 1 < length image → Gives (drop place image) found → GivesBehind image place before more → found ≡ more
behind_one image place before more found long gives h = gives_one (drop place image) found more gives (behind_gives image place before more long h)

-- the gate that ends the log stands within it
pub gate_within : (image : List ℕ) (place gate : ℕ) (found : List Record) → place < length image → Gives (drop place image) found → gate ≡ length (blocks found) → place + gate < length image
gate_within image place gate found within (inl p) is = omega (arith, within, is, ap (λ (rs : List Record). length (blocks rs)) p.1)
gate_within image place gate found within (inr e) is =
    omega (arith, within, is, ap length e.parts, length-append (blocks found) (e.gate ∷ e.rest), length-drop place image)

-- a log of more than one byte keeps its records once it was read from a gate on
pub behind_kept : (image : List ℕ) (place : ℕ) (before more found : List Record) (gate : ℕ) (log : LogState Memory) → 1 < length image → GivesBehind image place before more
    → Gives (drop place image) found → gate ≡ length (blocks found) → log.disk.disk ≡ clean_state image → log.gate ≡ place + gate → log.closed ≡ false
    → (records : List Record) → Gives image records → Keeps disk_of log records
behind_kept image place before more found gate log long h gives gate_is disk gate_at is_open records all =
    let same : found ≡ more = behind_one image place before more found long gives h in
    let whole : records ≡ before ++ more = gives_one image records (before ++ more) all h.gives in
    let seen : log.disk.disk.seen ≡ image = ap (λ (s : DiskState). s.seen) disk in
    let size : length (blocks records) ≡ length (blocks before) + length (blocks more) =
    ap (λ (rs : List Record). length (blocks rs)) whole ∙ ap length (blocks_append before more) ∙ length-append (blocks before) (blocks more) in
    let here : length (blocks found) ≡ length (blocks more) = ap (λ (rs : List Record). length (blocks rs)) same in
    let at : IsAt image records log.gate = at_gate all (omega (arith, gate_at, gate_is, h.place_is, size, here)) in
    record {
      still_open = is_open;
      at_gate = subst (λ (t : List ℕ). IsAt t records log.gate) (sym seen) at;
      forced = disk ∙ ap clean_state (sym seen);
    }
  where
    at_gate : Gives image records → log.gate ≡ length (blocks records) → IsAt image records log.gate
    at_gate (inl p) is = absurd (omega (arith, long, p.0))
    at_gate (inr e) is = record { ends = e; gate_is = is }

-- ---- an image of at most one byte

pub short_gives : (image : List ℕ) (records : List Record) → length image ≤ 1 → Gives image records → records ≡ []
short_gives image records short (inl p) = p.1
short_gives image records short (inr e) = short_ends image records short e

none_behind : (before more : List Record) → before ++ more ≡ [] → [] ≡ more
none_behind [] more e = sym e
none_behind (r ∷ before) more e = absurd (omega (arith, ap length e))

pub short_behind : (image : List ℕ) (place : ℕ) (before more : List Record) → length image ≤ 1 → GivesBehind image place before more → [] ≡ more
short_behind image place before more short h = none_behind before more (short_gives image (before ++ more) short h.gives)

-- the log that holds a closed gate alone keeps them
pub short_kept : (image : List ℕ) (log : LogState Memory) → length image ≤ 1 → log.disk.disk ≡ clean_state (0 ∷ []) → log.gate ≡ 0 → log.closed ≡ false
    → (records : List Record) → Gives image records → Keeps disk_of log records
short_kept image log short disk gate is_open records all =
    let seen : log.disk.disk.seen ≡ 0 ∷ [] = ap (λ (s : DiskState). s.seen) disk in
    let none : IsAt (0 ∷ []) [] 0 =
    record { ends = record { gate = 0; rest = []; are = tt; shut = λ e. absurd (omega (arith, e)); parts = refl }; gate_is = refl } in
    subst (Keeps disk_of log) (sym (short_gives image records short all))
    (record {
      still_open = is_open;
      at_gate = subst (λ (t : List ℕ). IsAt t [] log.gate) (sym seen) (subst (IsAt (0 ∷ []) []) (sym gate) none);
      forced = disk ∙ ap clean_state (sym seen);
    })
