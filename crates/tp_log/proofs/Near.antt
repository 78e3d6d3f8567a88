-- Images that differ from known bytes in one range alone.
use Rattle.std.proofs.Common.{◌≡◌, ◌≢◌, ◌⊎◌, inl, inr, ℕ, ◌+◌, ◌-◌, ◌<◌, ◌≤◌, List, [], ◌∷◌, ◌++◌, take, drop, length, get_or, false, refl, sym, ap, subst, ◌∙◌, append_assoc, arith}
use Rattle.std.specs.Prelude.{max, nat_le, nat_lt, slice_index}
use Rattle.std.proofs.lemmas.Bool.{and_from, and_left, and_right, cases_eq, cases_lt, le-leb, le-ltb, lt-leb, lt-ltb}
use Rattle.std.proofs.lemmas.List.{ext_get_or, drop_at, take_at, take-append-drop, length-append, length-take, length-drop, get_or_append_left, get_or-append_right, get_or-take, get_or-drop, drop_more}
use Rattle.tp_types.specs.declared.records.Record.{Record}
use Rattle.tp_device.specs.Disks.{DiskState, MayHaveWritten, MayLeave, after_write, clean_state, is_touched, is_within, span, with_piece}
use Rattle.tp_record.specs.Records.{IsRecord}
use Rattle.tp_record.specs.Spelling.{spelling}
use Rattle.tp_log.specs.Images.{AreRecords, Ends, Gives, blocks}
use Rattle.tp_log.specs.Logs.{GivesEither}
use Rattle.tp_log.proofs.Blocks.{AreRecords-push, blocks-push}

pub record Near (base : List ℕ) (at len : ℕ) (image : List ℕ) : Type 0 where
  pub no_shorter : length base ≤ length image
  pub no_longer : length image ≤ max (length base) (at + len)
  pub others : (i : ℕ) → i < length base → is_within i (span at len) ≡ false → slice_index image i ≡ slice_index base i

before_span : (i at len : ℕ) → i < at → is_within i (span at len) ≡ false
before_span i at len lt = and_left (nat_le at i) (nat_lt i (at + len)) (lt-leb at i lt)

after_span : (i at len : ℕ) → at + len ≤ i → is_within i (span at len) ≡ false
after_span i at len le = and_right (nat_le at i) (nat_lt i (at + len)) (le-ltb i (at + len) le)

-- ---- what a write leaves elsewhere

outside : (i at len : ℕ) → is_within i (span at len) ≡ false → (i < at) ⊎ (at + len ≤ i)
outside i at len none = elim (cases_lt i at) [
  | inl lt ↦ inl lt
  | inr le ↦ elim (cases_lt i (at + len)) [
    | inl lt ↦ absurd (cc (none, and_from (nat_le at i) (nat_lt i (at + len)) (le-leb at i le) (lt-ltb i (at + len) lt)))
    | inr past ↦ inr past
  ]
]

with_piece_other : (base : List ℕ) (at : ℕ) (piece : List ℕ) (i : ℕ) → at ≤ length base → is_within i (span at (length piece)) ≡ false → slice_index (with_piece base at piece) i ≡ slice_index base i
with_piece_other base at piece i within none =
    let before : List ℕ = take at base in
    let size : length before ≡ at = omega (arith, length-take at base) in
    elim (outside i at (length piece) none) [
      | inl lower ↦ get_or_append_left before (piece ++ drop (at + length piece) base) 0 i (omega arith) ∙ get_or-take at base i 0 lower
      | inr higher ↦
          get_or-append_right before (piece ++ drop (at + length piece) base) at i 0 size (omega arith)
          ∙ get_or-append_right piece (drop (at + length piece) base) (length piece) (i - at) 0 refl (omega arith)
          ∙ get_or-drop (at + length piece) base (i - at - length piece) 0
          ∙ ap (λ (k : ℕ). get_or base k 0) (omega arith)
    ]

touched_one : (i at len : ℕ) → is_within i (span at len) ≡ false → is_touched (span at len ∷ []) i ≡ false
touched_one i at len none = rw none refl

pub near_wrote : (base : List ℕ) (at : ℕ) (piece image : List ℕ) → at ≤ length base → MayLeave (after_write at piece (clean_state base)) image → Near base at (length piece) image
near_wrote base at piece image within left = record {
  no_shorter = left.no_shorter;
  no_longer = left.no_longer;
  others = λ i lt none. left.kept i lt (touched_one i at (length piece) none) ∙ with_piece_other base at piece i within none;
}

pub near_failed : (base : List ℕ) (at len : ℕ) (s : DiskState) (image : List ℕ) → MayHaveWritten at len (clean_state base) s → MayLeave s image → Near base at len image
near_failed base at len s image may left =
    let wider = may.crash image left in
    record {
      no_shorter = wider.no_shorter;
      no_longer = wider.no_longer;
      others = λ i lt none. wider.kept i lt (touched_one i at len none) ∙ may.others i lt none;
    }

-- ---- fronts and backs

same_front : (image base : List ℕ) (n : ℕ) → n ≤ length image → n ≤ length base → ((i : ℕ) → i < n → slice_index image i ≡ slice_index base i) → take n image ≡ take n base
same_front image base n li lb same =
    ext_get_or 0 (take n image) (take n base) (omega (arith, length-take n image, length-take n base))
    (λ i lt. let low : i < n = omega (arith, lt, length-take n image) in get_or-take n image i 0 low ∙ same i low ∙ sym (get_or-take n base i 0 low))

same_back : (image base : List ℕ) (n : ℕ) → length image ≡ length base → ((i : ℕ) → n ≤ i → i < length base → slice_index image i ≡ slice_index base i) → drop n image ≡ drop n base
same_back image base n size same =
    ext_get_or 0 (drop n image) (drop n base) (omega (arith, length-drop n image, length-drop n base, size))
    (λ i lt. get_or-drop n image i 0 ∙ same (n + i) (omega arith) (omega (arith, lt, length-drop n image, size)) ∙ sym (get_or-drop n base i 0))

-- ---- a write behind the closed gate

module _ (rs : List Record) (are : AreRecords rs) (g : ℕ) (shut : g ≢ 1) where
  gated : List ℕ → List ℕ
  gated rest = blocks rs ++ g ∷ rest

  pub regate : (rest : List ℕ) → blocks rs ++ g ∷ rest ≡ (blocks rs ++ g ∷ []) ++ rest
  regate rest = sym (append_assoc (blocks rs) (g ∷ []) rest)

  size_gate : length (blocks rs ++ g ∷ []) ≡ length (blocks rs) + 1
  size_gate = omega (arith, length-append (blocks rs) (g ∷ []))

  pub near_behind : (rest image : List ℕ) (n : ℕ) → Near (blocks rs ++ g ∷ rest) (length (blocks rs) + 1) n image → Ends image rs
  near_behind rest image n near =
      let at = length (blocks rs) + 1 in
      let base : List ℕ = blocks rs ++ g ∷ rest in
      let long : at ≤ length base = omega (arith, length-append (blocks rs) (g ∷ rest)) in
      let front : take at image ≡ blocks rs ++ g ∷ [] =
      same_front image base at (omega (arith, near.no_shorter, long)) long (λ i lt. near.others i (omega arith) (before_span i at n lt))
      ∙ ap (take at) (regate rest) ∙ take_at (blocks rs ++ g ∷ []) rest at size_gate in
      record {
        gate = g;
        rest = drop at image;
        are = are;
        shut = shut;
        parts = sym (take-append-drop at image) ∙ ap (λ (t : List ℕ). t ++ drop at image) front ∙ sym (regate (drop at image));
      }

  pub seen_behind : (rest body : List ℕ) → with_piece (blocks rs ++ g ∷ rest) (length (blocks rs) + 1) (body ++ 0 ∷ [])
      ≡ blocks rs ++ g ∷ (body ++ 0 ∷ drop (length (blocks rs) + 1 + length (body ++ 0 ∷ [])) (blocks rs ++ g ∷ rest))
  seen_behind rest body =
      let at = length (blocks rs) + 1 in
      let back : List ℕ = drop (at + length (body ++ 0 ∷ [])) (blocks rs ++ g ∷ rest) in
      ap (λ (t : List ℕ). t ++ ((body ++ 0 ∷ []) ++ back)) (ap (take at) (regate rest) ∙ take_at (blocks rs ++ g ∷ []) rest at size_gate)
      ∙ sym (regate ((body ++ 0 ∷ []) ++ back))
      ∙ ap (λ (t : List ℕ). blocks rs ++ g ∷ t) (append_assoc body (0 ∷ []) back)

  -- ---- the write that opens the gate

  module _ (r : Record) (is : IsRecord r) (rest : List ℕ) where
    pub opened_ends : Ends (blocks rs ++ 1 ∷ (spelling r ++ 0 ∷ rest)) (rs ++ r ∷ [])
    opened_ends = record {
      gate = 0;
      rest = rest;
      are = AreRecords-push rs r are is;
      shut = λ e. omega (arith, e);
      parts = sym (blocks-push rs r (0 ∷ rest));
    }

    pub near_gate : (image : List ℕ) → Near (blocks rs ++ g ∷ (spelling r ++ 0 ∷ rest)) (length (blocks rs)) 1 image → GivesEither rs r image
    near_gate image near =
        let at = length (blocks rs) in
        let behind : List ℕ = spelling r ++ 0 ∷ rest in
        let base : List ℕ = blocks rs ++ g ∷ behind in
        let long : at + 1 ≤ length base = omega (arith, length-append (blocks rs) (g ∷ behind)) in
        let size : length image ≡ length base = omega (arith, near.no_shorter, near.no_longer, long) in
        let front : take at image ≡ blocks rs =
        same_front image base at (omega (arith, size, long)) (omega (arith, long)) (λ i lt. near.others i (omega arith) (before_span i at 1 lt)) ∙ take_at (blocks rs) (g ∷ behind) at refl in
        let back : drop (at + 1) image ≡ behind =
        same_back image base (at + 1) size (λ i le lt. near.others i lt (after_span i at 1 le)) ∙ ap (drop (at + 1)) (regate behind) ∙ drop_at (blocks rs ++ g ∷ []) behind (at + 1) size_gate in
        let h = get_or image at 0 in
        let whole : image ≡ blocks rs ++ h ∷ behind =
        sym (take-append-drop at image) ∙ (λ i. front i ++ drop at image) ∙ ap (λ (t : List ℕ). blocks rs ++ t) (drop_more image at 0 (omega (arith, size, long)) ∙ ap (λ (t : List ℕ). h ∷ t) back) in
        elim (cases_eq h 1) [
          | inl is_open ↦ inr (subst (λ (t : List ℕ). Gives t (rs ++ r ∷ [])) (sym (whole ∙ ap (λ (k : ℕ). blocks rs ++ k ∷ behind) is_open)) (inr opened_ends))
          | inr closed ↦ inl (inr (record { gate = h; rest = behind; are = are; shut = closed; parts = whole }))
        ]

    pub seen_gate : with_piece (blocks rs ++ g ∷ (spelling r ++ 0 ∷ rest)) (length (blocks rs)) (1 ∷ []) ≡ blocks rs ++ 1 ∷ (spelling r ++ 0 ∷ rest)
    seen_gate =
        let at = length (blocks rs) in
        let behind : List ℕ = spelling r ++ 0 ∷ rest in
        (λ i. take_at (blocks rs) (g ∷ behind) at refl i ++ (1 ∷ drop (at + 1) (blocks rs ++ g ∷ behind)))
        ∙ ap (λ (t : List ℕ). blocks rs ++ 1 ∷ t) (ap (drop (at + 1)) (regate behind) ∙ drop_at (blocks rs ++ g ∷ []) behind (at + 1) size_gate)
