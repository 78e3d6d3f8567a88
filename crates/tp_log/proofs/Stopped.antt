-- An append over a disk in memory that is stopped after some calls and then crashes.
use Rattle.std.proofs.Common.{◌≡◌, ◌≢◌, inl, inr, ℕ, ◌+◌, ◌-◌, ◌≤◌, List, [], ◌∷◌, ◌++◌, drop, length, Some, Result, Ok, Err, Bool, true, false, cond, refl, sym, ap, subst, ◌∙◌, append_assoc, arith}
use Rattle.std.specs.Prelude.{Option, unwrap_or, ◌==◌, min, replicate}
use Rattle.std.proofs.lemmas.Bool.{eqb-false, eqb-true, le-leb}
use Rattle.std.proofs.lemmas.List.{drop_at, length-append, take_at}
use Rattle.tp_types.specs.declared.records.Record.{Record}
use Rattle.tp_device.specs.Disks.{Sync, Write, DiskState, MayLeave, clean_state, span, after_sync, after_write}
use Rattle.tp_device.specs.Memory.{Memory, after_crash, disk_of, does, fewer_calls, with_blank, with_blanks}
use Rattle.tp_device.specs.declared.disk.DiskError.{DiskError}
use Rattle.tp_device.specs.declared.disk.DiskError.TheVariants as errors
use Rattle.tp_record.specs.Records.{IsRecord}
use Rattle.tp_record.specs.Spelling.{spelling}
use Rattle.tp_log.specs.Images.{AreRecords, Gives, blocks}
use Rattle.tp_log.specs.Appends.{kept_after}
use Rattle.tp_log.specs.Logs.{Keeps, LogState, Makes, append_calls}
use Rattle.tp_log.proofs.Near.{near_behind, near_wrote, opened_ends, seen_behind, seen_gate}

abbrev number : ℕ → Option ℕ
number a = Some a

-- a call was refused for a fault, if at all
abbrev pub OnlyFault : Result (Unit {0}) DiskError → Type 0
OnlyFault (Ok _) = Unit {0}
OnlyFault (Err errors.Failed) = Unit {0}
OnlyFault (Err errors.NoMemory) = ⊥

some_is : (a b : ℕ) → number a ≡ number b → a ≡ b
some_is a b e = ap (λ (o : Option ℕ). unwrap_or o 0) e

module _ (rs : List Record) (are : AreRecords rs) (r : Record) (is : IsRecord r) (g : ℕ) (shut : g ≢ 1) (rest : List ℕ) where
  abbrev n : ℕ
  n = length (blocks rs)

  abbrev piece : List ℕ
  piece = spelling r ++ 0 ∷ []

  abbrev base : List ℕ
  base = blocks rs ++ g ∷ rest

  abbrev tail : List ℕ
  tail = drop (n + 1 + length piece) base

  abbrev behind : List ℕ
  behind = spelling r ++ 0 ∷ tail

  -- the disk after each call
  abbrev first : DiskState
  first = after_write (n + 1) piece (clean_state base)

  abbrev second : DiskState
  second = clean_state (blocks rs ++ g ∷ behind)

  abbrev third : DiskState
  third = after_write n (1 ∷ []) second

  abbrev fourth : DiskState
  fourth = clean_state (blocks rs ++ 1 ∷ behind)

  second_is : after_sync first ≡ second
  second_is = ap clean_state (seen_behind rs are g shut rest (spelling r))

  fourth_is : after_sync third ≡ fourth
  fourth_is = ap clean_state (seen_gate rs are g shut r is tail)

  closed : (x : ℕ) (more : List ℕ) → x ≢ 1 → Gives (blocks rs ++ x ∷ more) rs
  closed x more shut' = inr (record { gate = x; rest = more; are = are; shut = shut'; parts = refl })

  -- a crash fills the gate alone
  blank_gate : (fill : ℕ) → with_blank fill third.seen (span n 1) ≡ blocks rs ++ fill ∷ behind
  blank_gate fill =
      let whole : third.seen ≡ blocks rs ++ 1 ∷ behind = seen_gate rs are g shut r is tail in
      let at : min n (length (blocks rs ++ 1 ∷ behind)) ≡ n = omega (arith, length-append (blocks rs) (1 ∷ behind)) in
      let end : min (n + 1) (length (blocks rs ++ 1 ∷ behind)) ≡ n + 1 = omega (arith, length-append (blocks rs) (1 ∷ behind)) in
      let single : n + 1 - n ≡ 1 = omega arith in
      let one : replicate (n + 1 - n) fill ≡ fill ∷ [] = ap (λ (k : ℕ). replicate k fill) single in
      let back : drop (n + 1) (blocks rs ++ 1 ∷ behind) ≡ behind =
      ap (drop (n + 1)) (sym (append_assoc (blocks rs) (1 ∷ []) behind)) ∙ drop_at (blocks rs ++ 1 ∷ []) behind (n + 1) (omega (arith, length-append (blocks rs) (1 ∷ []))) in
      ap (λ (t : List ℕ). with_blank fill t (span n 1)) whole
      ∙ rw (at, end, one, back, take_at (blocks rs) (1 ∷ behind) n refl) refl

  -- ---- after so many calls

  abbrev image_of : ℕ → DiskState → List ℕ
  image_of fill s = with_blanks fill s.seen s.written

  after_none : (calls fill : ℕ) → calls ≡ 0 → Gives base (kept_after calls fill rs r)
  after_none calls fill none = subst (λ (k : ℕ). Gives base (kept_after k fill rs r)) (sym none) (closed g rest shut)

  after_one : (calls fill : ℕ) (image : List ℕ) → calls ≡ 1 → MayLeave first image → Gives image (kept_after calls fill rs r)
  after_one calls fill image one left =
      subst (λ (k : ℕ). Gives image (kept_after k fill rs r)) (sym one)
      (inr (near_behind rs are g shut rest image (length piece) (near_wrote base (n + 1) piece image (omega (arith, length-append (blocks rs) (g ∷ rest))) left)))

  after_two : (calls fill : ℕ) → calls ≡ 2 → Gives (image_of fill second) (kept_after calls fill rs r)
  after_two calls fill two = subst (λ (k : ℕ). Gives (image_of fill second) (kept_after k fill rs r)) (sym two) (closed g behind shut)

  opened_gives : Gives (blocks rs ++ 1 ∷ behind) (rs ++ r ∷ [])
  opened_gives = inr (opened_ends rs are g shut r is tail)

  after_three : (calls fill : ℕ) → calls ≡ 3 → Gives (image_of fill third) (kept_after calls fill rs r)
  after_three calls fill three =
      subst (λ (k : ℕ). Gives (image_of fill third) (kept_after k fill rs r)) (sym three)
      (subst (λ (t : List ℕ). Gives t (cond (fill == 1) (rs ++ r ∷ []) rs)) (sym (blank_gate fill)) (by_fill (fill == 1) refl))
    where
      by_fill : (b : Bool) → (fill == 1) ≡ b → Gives (blocks rs ++ fill ∷ behind) (cond b (rs ++ r ∷ []) rs)
      by_fill true e = subst (λ (k : ℕ). Gives (blocks rs ++ k ∷ behind) (rs ++ r ∷ [])) (sym (eqb-true fill 1 e)) opened_gives
      by_fill false e = closed fill behind (eqb-false fill 1 e)

  after_four : (calls fill : ℕ) → 4 ≤ calls → Gives (image_of fill fourth) (kept_after calls fill rs r)
  after_four calls fill many = rw (le-leb 4 calls many) opened_gives

  -- ---- the calls

  abbrev IsCrash : ℕ → DiskState → List ℕ → Type 0
  IsCrash fill s image = (image ≡ image_of fill s) × MayLeave s image

  abbrev Kept : ℕ → ℕ → List ℕ → Type 0
  Kept calls fill image = Gives image (kept_after calls fill rs r)

  at_state : (fill : ℕ) (s t : DiskState) (image : List ℕ) → s ≡ t → IsCrash fill s image → IsCrash fill t image
  at_state fill s t image e crash = subst (λ (x : DiskState). IsCrash fill x image) e crash

  by_image : (calls fill : ℕ) (s : DiskState) (image : List ℕ) → IsCrash fill s image → Gives (image_of fill s) (kept_after calls fill rs r) → Kept calls fill image
  by_image calls fill s image crash gives = subst (λ (t : List ℕ). Kept calls fill t) (sym crash.0) gives

  last_call : (m new : Memory) (calls fill : ℕ) (image : List ℕ) (result : Result (Unit {0}) DiskError) → 3 ≤ calls → m.left ≡ Some (calls - 3) → m.disk ≡ third → OnlyFault result → IsCrash fill new.disk image
      → Makes does (Sync ∷ []) m result new → Kept calls fill image
  last_call m new calls fill image result many left at asked crash (inr (errors.NoMemory, call, e)) = absurd (subst OnlyFault e asked)
  last_call m new calls fill image result many left at asked crash (inr (errors.Failed, call, e)) =
      let three : calls ≡ 3 = omega (arith, some_is (calls - 3) 0 (sym left ∙ call.0), many) in
      let here = at_state fill new.disk third image (ap (λ (x : Memory). x.disk) call.1 ∙ at) crash in
      by_image calls fill third image here (after_three calls fill three)
  last_call m new calls fill image (Err e) many left at asked crash (inl (mid, call, rest')) = absurd rest'
  last_call m new calls fill image (Ok x) many left at asked crash (inl (mid, call, rest')) =
      let more : calls - 3 ≢ 0 = λ e. call.0 (left ∙ ap number e) in
      let here = at_state fill new.disk fourth image (ap (λ (x : Memory). x.disk) (rest' ∙ call.1) ∙ ap after_sync at ∙ fourth_is) crash in
      by_image calls fill fourth image here (after_four calls fill (omega (arith, more, many)))

  third_call : (m new : Memory) (calls fill : ℕ) (image : List ℕ) (result : Result (Unit {0}) DiskError) → 2 ≤ calls → m.left ≡ Some (calls - 2) → m.disk ≡ second → OnlyFault result → IsCrash fill new.disk image
      → Makes does (Write n (1 ∷ []) ∷ Sync ∷ []) m result new → Kept calls fill image
  third_call m new calls fill image result many left at asked crash (inr (errors.NoMemory, call, e)) = absurd (subst OnlyFault e asked)
  third_call m new calls fill image result many left at asked crash (inr (errors.Failed, call, e)) =
      let two : calls ≡ 2 = omega (arith, some_is (calls - 2) 0 (sym left ∙ call.0), many) in
      let here = at_state fill new.disk second image (ap (λ (x : Memory). x.disk) call.1 ∙ at) crash in
      by_image calls fill second image here (after_two calls fill two)
  third_call m new calls fill image result many left at asked crash (inl (mid, call, others)) =
      let more : calls - 2 ≢ 0 = λ e. call.0 (left ∙ ap number e) in
      let left' : mid.left ≡ Some (calls - 3) = ap (λ (x : Memory). x.left) call.1 ∙ ap fewer_calls left ∙ ap number (omega arith) in
      last_call mid new calls fill image result (omega (arith, more, many)) left' (ap (λ (x : Memory). x.disk) call.1 ∙ ap (after_write n (1 ∷ [])) at) asked crash others

  second_call : (m new : Memory) (calls fill : ℕ) (image : List ℕ) (result : Result (Unit {0}) DiskError) → 1 ≤ calls → m.left ≡ Some (calls - 1) → m.disk ≡ first → OnlyFault result → IsCrash fill new.disk image
      → Makes does (Sync ∷ Write n (1 ∷ []) ∷ Sync ∷ []) m result new → Kept calls fill image
  second_call m new calls fill image result many left at asked crash (inr (errors.NoMemory, call, e)) = absurd (subst OnlyFault e asked)
  second_call m new calls fill image result many left at asked crash (inr (errors.Failed, call, e)) =
      let one : calls ≡ 1 = omega (arith, some_is (calls - 1) 0 (sym left ∙ call.0), many) in
      let here = at_state fill new.disk first image (ap (λ (x : Memory). x.disk) call.1 ∙ at) crash in
      after_one calls fill image one here.1
  second_call m new calls fill image result many left at asked crash (inl (mid, call, others)) =
      let more : calls - 1 ≢ 0 = λ e. call.0 (left ∙ ap number e) in
      let left' : mid.left ≡ Some (calls - 2) = ap (λ (x : Memory). x.left) call.1 ∙ ap fewer_calls left ∙ ap number (omega arith) in
      third_call mid new calls fill image result (omega (arith, more, many)) left' (ap (λ (x : Memory). x.disk) call.1 ∙ ap after_sync at ∙ second_is) asked crash others

  pub stopped : (m new : Memory) (calls fill : ℕ) (image : List ℕ) (result : Result (Unit {0}) DiskError) → m.left ≡ Some calls → m.disk ≡ clean_state base → OnlyFault result → IsCrash fill new.disk image
      → Makes does (append_calls n (spelling r)) m result new → Kept calls fill image
  stopped m new calls fill image result left at asked crash (inr (errors.NoMemory, call, e)) = absurd (subst OnlyFault e asked)
  stopped m new calls fill image result left at asked crash (inr (errors.Failed, call, e)) =
      let none : calls ≡ 0 = some_is calls 0 (sym left ∙ call.0) in
      let here = at_state fill new.disk (clean_state base) image (ap (λ (x : Memory). x.disk) call.1 ∙ at) crash in
      by_image calls fill (clean_state base) image here (after_none calls fill none)
  stopped m new calls fill image result left at asked crash (inl (mid, call, others)) =
      let more : calls ≢ 0 = λ e. call.0 (left ∙ ap number e) in
      let left' : mid.left ≡ Some (calls - 1) = ap (λ (x : Memory). x.left) call.1 ∙ ap fewer_calls left in
      second_call mid new calls fill image result (omega (arith, more)) left' (ap (λ (x : Memory). x.disk) call.1 ∙ ap (after_write (n + 1) piece) at) asked crash others

-- the crash of a log that keeps these records
pub crash_kept : (log : LogState Memory) (records : List Record) (r : Record) (calls fill : ℕ) (result : Result (Unit {0}) DiskError) (m new after : Memory) → Keeps disk_of log records → IsRecord r
    → m.left ≡ Some calls → m.disk ≡ log.disk.disk → OnlyFault result → Makes does (append_calls log.gate (spelling r)) m result new
    → after ≡ after_crash fill new → MayLeave new.disk after.disk.seen → Gives after.disk.seen (kept_after calls fill records r)
crash_kept log records r calls fill result m new after keeps is left same fault calls-made exact image =
    let e = keeps.at_gate.ends in
    let at : m.disk ≡ clean_state (blocks records ++ e.gate ∷ e.rest) = same ∙ keeps.forced ∙ ap clean_state e.parts in
    let made = subst (λ (k : ℕ). Makes does (append_calls k (spelling r)) m result new) keeps.at_gate.gate_is calls-made in
    stopped records e.are r is e.gate e.shut e.rest m new calls fill after.disk.seen result left at fault (ap (λ (x : Memory). x.disk.seen) exact, image) made
