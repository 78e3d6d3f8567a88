-- What a crash of the disk in memory leaves is one of the images that it may leave.
use Rattle.std.proofs.Common.{◌≡◌, ◌⊎◌, inl, inr, ℕ, ◌+◌, ◌-◌, ◌<◌, ◌≤◌, List, [], ◌∷◌, ◌++◌, take, drop, length, get_or, false, refl, ap, ◌∙◌, arith}
use Rattle.std.specs.Prelude.{min, replicate, nat_le, nat_lt, slice_index}
use Rattle.std.proofs.lemmas.Bool.{and_from, cases_lt, le-leb, lt-ltb, or_parts}
use Rattle.std.proofs.lemmas.List.{length-append, length-take, length-drop, length-replicate, get_or_append_left, get_or-append_right, get_or-take, get_or-drop}
use Rattle.tp_device.specs.declared.span.Span.{Span}
use Rattle.tp_device.specs.Disks.{DiskState, MayLeave, is_touched, is_within}
use Rattle.tp_device.specs.Memory.{with_blank, with_blanks}

length-with_blank : (fill : ℕ) (seen : List ℕ) (span : Span) → length (with_blank fill seen span) ≡ length seen
length-with_blank fill seen span =
    let from = min span.at (length seen) in
    let to = min (span.at + span.len) (length seen) in
    omega (arith, length-append (take from seen) (replicate (to - from) fill ++ drop to seen), length-append (replicate (to - from) fill) (drop to seen), length-take from seen, length-replicate (to - from) fill, length-drop to seen)

outside : (i : ℕ) (span : Span) → is_within i span ≡ false → (i < span.at) ⊎ (span.at + span.len ≤ i)
outside i span none = elim (cases_lt i span.at) [
  | inl lt ↦ inl lt
  | inr le ↦ elim (cases_lt i (span.at + span.len)) [
    | inl lt ↦ absurd (cc (none, and_from (nat_le span.at i) (nat_lt i (span.at + span.len)) (le-leb span.at i le) (lt-ltb i (span.at + span.len) lt)))
    | inr past ↦ inr past
  ]
]

with_blank_other : (fill : ℕ) (seen : List ℕ) (span : Span) (i : ℕ) → i < length seen → is_within i span ≡ false → slice_index (with_blank fill seen span) i ≡ slice_index seen i
with_blank_other fill seen span i lt none =
    let from = min span.at (length seen) in
    let to = min (span.at + span.len) (length seen) in
    let before : List ℕ = take from seen in
    let filled : List ℕ = replicate (to - from) fill in
    let size-before : length before ≡ from = omega (arith, length-take from seen) in
    elim (outside i span none) [
      | inl lower ↦
          let low : i < from = omega arith in
          get_or_append_left before (filled ++ drop to seen) 0 i (omega arith) ∙ get_or-take from seen i 0 low
      | inr higher ↦
          let high : to ≤ i = omega arith in
          get_or-append_right before (filled ++ drop to seen) from i 0 size-before (omega arith)
          ∙ get_or-append_right filled (drop to seen) (to - from) (i - from) 0 (length-replicate (to - from) fill) (omega arith)
          ∙ get_or-drop to seen (i - from - (to - from)) 0
          ∙ ap (λ (k : ℕ). get_or seen k 0) (omega arith)
    ]

length-with_blanks : (fill : ℕ) (seen : List ℕ) (spans : List Span) → length (with_blanks fill seen spans) ≡ length seen
length-with_blanks fill seen [] = refl
length-with_blanks fill seen (span ∷ spans) = length-with_blanks fill (with_blank fill seen span) spans ∙ length-with_blank fill seen span

with_blanks_other : (fill : ℕ) (seen : List ℕ) (spans : List Span) (i : ℕ) → i < length seen → is_touched spans i ≡ false → slice_index (with_blanks fill seen spans) i ≡ slice_index seen i
with_blanks_other fill seen [] i lt none = refl
with_blanks_other fill seen (span ∷ spans) i lt none =
    let both = or_parts (is_within i span) (is_touched spans i) none in
    with_blanks_other fill (with_blank fill seen span) spans i (omega (arith, length-with_blank fill seen span)) both.1 ∙ with_blank_other fill seen span i lt both.0

pub crash_image : (fill : ℕ) (s : DiskState) → s.least ≤ length s.seen → length s.seen ≤ s.greatest → MayLeave s (with_blanks fill s.seen s.written)
crash_image fill s low high = record {
  no_shorter = omega (arith, length-with_blanks fill s.seen s.written);
  no_longer = omega (arith, length-with_blanks fill s.seen s.written);
  kept = λ i lt none. with_blanks_other fill s.seen s.written i (omega arith) none;
}
