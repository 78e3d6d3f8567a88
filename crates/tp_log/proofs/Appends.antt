-- What the calls of an append leave, wherever they end.
use Rattle.std.proofs.Common.{◌≡◌, ◌≢◌, inl, inr, ⊎_elim, ℕ, ◌+◌, ◌≤◌, List, [], ◌∷◌, ◌++◌, drop, length, Result, Ok, Err, refl, sym, ap, subst, ◌∙◌, arith}
use Rattle.std.proofs.lemmas.List.{append-nil, ext_get_or, length-append}
use Rattle.tp_types.specs.declared.records.Record.{Record}
use Rattle.tp_device.specs.Disks.{Call, DiskState, CallEffect, LeavesOnly, MayLeave, Sync, Write, after_sync, after_write, clean_state}
use Rattle.tp_types.specs.Faults.{Rose}
use Rattle.tp_device.specs.declared.disk.DiskError.{DiskError}
use Rattle.tp_device.specs.declared.disk.DiskError.TheVariants as errors
use Rattle.tp_record.specs.Records.{IsRecord}
use Rattle.tp_record.specs.Spelling.{spelling}
use Rattle.tp_log.specs.Images.{AreRecords, Ends, blocks}
use Rattle.tp_log.specs.Logs.{GivesEither, IsAt, append_calls}
use Rattle.tp_log.specs.mirrors.Steps.{Step, Steps}
use Rattle.tp_log.proofs.Blocks.{blocks-push}
use Rattle.tp_log.proofs.Near.{near_behind, near_failed, near_gate, near_wrote, opened_ends, seen_behind, seen_gate}

-- after a sync a crash leaves what a read gives
pub clean_image : (base image : List ℕ) → MayLeave (clean_state base) image → image ≡ base
clean_image base image left =
    let size : length image ≡ length base = omega (arith, left.no_shorter, left.no_longer) in
    ext_get_or 0 image base size (λ i lt. left.kept i (omega (arith, lt, size)) refl)

pub length_push : (rs : List Record) (r : Record) → length (blocks (rs ++ r ∷ [])) ≡ length (blocks rs) + length (spelling r ++ 0 ∷ [])
length_push rs r =
    omega (arith, ap length (sym (append-nil (blocks (rs ++ r ∷ []))) ∙ blocks-push rs r []), length-append (blocks rs) (1 ∷ (spelling r ++ [])), length-append (spelling r) [], length-append (spelling r) (0 ∷ []))

module _ {D : Type 0} (state : D → DiskState) (left_since : D → D → List ℕ → Type 0) (does : D → Call → Result (Unit {0}) DiskError → D → Type 0) (faults : D → ℕ)
    (only_now : (disk : D) (image : List ℕ) → left_since disk disk image → MayLeave (state disk) image) where
  -- nothing is unsynced, and the gate stands behind these records
  pub record Kept (records : List Record) (gate : ℕ) (d : D) : Type 0 where
    pub at_gate : IsAt (state d).seen records gate
    pub forced : state d ≡ clean_state (state d).seen

  module _ (rs : List Record) (r : Record) where
    -- so far a crash leaves the records, with the new one or without it
    pub record So (old d : D) : Type 0 where
      pub images : (image : List ℕ) → MayLeave (state d) image → GivesEither rs r image
      pub moments : LeavesOnly left_since old d (GivesEither rs r)
      pub later : faults old ≤ faults d

    so_start : (d : D) → ((image : List ℕ) → MayLeave (state d) image → GivesEither rs r image) → So d d
    so_start d images = record { images = images; moments = λ image left. images image (only_now d image left); later = omega arith }

    so_next : (old mid new : D) (call : Call) (result : Result (Unit {0}) DiskError) → So old mid → Step state left_since does faults call mid result new
        → ((image : List ℕ) → MayLeave (state new) image → GivesEither rs r image) → So old new
    so_next old mid new call result so step images = record {
      images = images;
      moments = λ image left. ⊎_elim (so.moments image) (images image) (step.time old image left);
      later = omega (arith, so.later, step.cause.later);
    }

    -- how the calls ended
    abbrev pub Outcome : D → Result (Unit {0}) DiskError → D → Type 0
    Outcome old (Ok _) new = Kept (rs ++ r ∷ []) (length (blocks rs) + length (spelling r ++ 0 ∷ [])) new
    Outcome old (Err errors.Failed) new = Rose (faults old) (faults new)
    Outcome old (Err errors.NoMemory) new = Kept rs (length (blocks rs)) new

    pub record After (old : D) (result : Result (Unit {0}) DiskError) (new : D) : Type 0 where
      pub so : So old new
      pub outcome : Outcome old result new

    rose : (old mid new : D) (call : Call) → So old mid → Step state left_since does faults call mid (Err errors.Failed) new → Rose (faults old) (faults new)
    rose old mid new call so step = omega (arith, so.later, step.cause.failed refl)

    module _ (is : IsRecord r) (are : AreRecords rs) (g : ℕ) (shut : g ≢ 1) where
      abbrev n : ℕ
      n = length (blocks rs)

      abbrev piece : List ℕ
      piece = spelling r ++ 0 ∷ []

      -- the gate is closed, whatever stands behind it
      module _ (rest : List ℕ) where
        abbrev base : List ℕ
        base = blocks rs ++ g ∷ rest

        closed_ends : Ends base rs
        closed_ends = record { gate = g; rest = rest; are = are; shut = shut; parts = refl }

        closed_images : (d : D) → state d ≡ clean_state base → (image : List ℕ) → MayLeave (state d) image → GivesEither rs r image
        closed_images d is-settled image left =
            inl (inr (subst (λ (t : List ℕ). Ends t rs) (sym (clean_image base image (subst (λ (s : DiskState). MayLeave s image) is-settled left))) closed_ends))

        closed_kept : (d : D) → state d ≡ clean_state base → Kept rs n d
        closed_kept d is-settled = record {
          at_gate = record { ends = subst (λ (t : List ℕ). Ends t rs) (sym (ap (λ (s : DiskState). s.seen) is-settled)) closed_ends; gate_is = refl };
          forced = is-settled ∙ ap clean_state (sym (ap (λ (s : DiskState). s.seen) is-settled));
        }

        staged_images : (old d : D) → state old ≡ clean_state base → state d ≡ after_write (n + 1) piece (state old) → (image : List ℕ) → MayLeave (state d) image → GivesEither rs r image
        staged_images old d was now image left =
            let here = subst (λ (s : DiskState). MayLeave s image) (now ∙ ap (after_write (n + 1) piece) was) left in
            inl (inr (near_behind rs are g shut rest image (length piece) (near_wrote base (n + 1) piece image (omega (arith, length-append (blocks rs) (g ∷ rest))) here)))

        -- the first call was refused
        after_first : (old new : D) (e : DiskError) → state old ≡ clean_state base → Step state left_since does faults (Write (n + 1) piece) old (Err e) new → After old (Err e) new
        after_first old new errors.Failed was step =
            let may = subst (λ (s : DiskState). CallEffect (Write (n + 1) piece) s (Err errors.Failed) (state new)) was step.effect in
            let so = so_start old (closed_images old was) in
            record {
              so = so_next old old new (Write (n + 1) piece) (Err errors.Failed) so step
                  (λ image left. inl (inr (near_behind rs are g shut rest image (length piece) (near_failed base (n + 1) (length piece) (state new) image may left))));
              outcome = rose old old new (Write (n + 1) piece) so step;
            }
        after_first old new errors.NoMemory was step =
            let same : state new ≡ clean_state base = step.effect ∙ was in
            record {
              so = so_next old old new (Write (n + 1) piece) (Err errors.NoMemory) (so_start old (closed_images old was)) step (closed_images new same);
              outcome = closed_kept new same;
            }

        -- the first sync was refused
        after_second : (old mid new : D) (e : DiskError) → state old ≡ clean_state base → state mid ≡ after_write (n + 1) piece (state old) → So old mid → Step state left_since does faults Sync mid (Err e) new → After old (Err e) new
        after_second old mid new errors.NoMemory was now so step = absurd step.effect
        after_second old mid new errors.Failed was now so step = record {
          so = so_next old mid new Sync (Err errors.Failed) so step (staged_images old new was (step.effect ∙ now));
          outcome = rose old mid new Sync so step;
        }

        so_first : (old mid : D) → state old ≡ clean_state base → Step state left_since does faults (Write (n + 1) piece) old (Ok tt) mid → So old mid
        so_first old mid was step = so_next old old mid (Write (n + 1) piece) (Ok tt) (so_start old (closed_images old was)) step (staged_images old mid was step.effect)

        staged : (old mid late : D) → state old ≡ clean_state base → state mid ≡ after_write (n + 1) piece (state old) → state late ≡ after_sync (state mid)
            → state late ≡ clean_state (blocks rs ++ g ∷ (spelling r ++ 0 ∷ drop (n + 1 + length piece) base))
        staged old mid late was now then =
            then ∙ ap after_sync (now ∙ ap (after_write (n + 1) piece) was) ∙ ap clean_state (seen_behind rs are g shut rest (spelling r))

      -- the body stands behind the closed gate
      module _ (rest : List ℕ) where
        abbrev behind : List ℕ
        behind = spelling r ++ 0 ∷ rest

        gate_images : (mid d : D) → state mid ≡ clean_state (blocks rs ++ g ∷ behind) → state d ≡ after_write n (1 ∷ []) (state mid) → (image : List ℕ) → MayLeave (state d) image → GivesEither rs r image
        gate_images mid d was now image left =
            let here = subst (λ (s : DiskState). MayLeave s image) (now ∙ ap (after_write n (1 ∷ [])) was) left in
            near_gate rs are g shut r is rest image (near_wrote (blocks rs ++ g ∷ behind) n (1 ∷ []) image (omega (arith, length-append (blocks rs) (g ∷ behind))) here)

        -- the write of the gate was refused
        after_third : (old mid new : D) (e : DiskError) → state mid ≡ clean_state (blocks rs ++ g ∷ behind) → So old mid → Step state left_since does faults (Write n (1 ∷ [])) mid (Err e) new → After old (Err e) new
        after_third old mid new errors.Failed was so step =
            let may = subst (λ (s : DiskState). CallEffect (Write n (1 ∷ [])) s (Err errors.Failed) (state new)) was step.effect in
            record {
              so = so_next old mid new (Write n (1 ∷ [])) (Err errors.Failed) so step
                  (λ image left. near_gate rs are g shut r is rest image (near_failed (blocks rs ++ g ∷ behind) n 1 (state new) image may left));
              outcome = rose old mid new (Write n (1 ∷ [])) so step;
            }
        after_third old mid new errors.NoMemory was so step =
            let same : state new ≡ clean_state (blocks rs ++ g ∷ behind) = step.effect ∙ was in
            record {
              so = so_next old mid new (Write n (1 ∷ [])) (Err errors.NoMemory) so step (closed_images behind new same);
              outcome = closed_kept behind new same;
            }

        -- the last sync was refused
        after_fourth : (old mid late new : D) (e : DiskError) → state mid ≡ clean_state (blocks rs ++ g ∷ behind) → state late ≡ after_write n (1 ∷ []) (state mid) → So old late → Step state left_since does faults Sync late (Err e) new → After old (Err e) new
        after_fourth old mid late new errors.NoMemory was now so step = absurd step.effect
        after_fourth old mid late new errors.Failed was now so step = record {
          so = so_next old late new Sync (Err errors.Failed) so step (gate_images mid new was (step.effect ∙ now));
          outcome = rose old late new Sync so step;
        }

        -- every call passed
        after_all : (old mid late new : D) → state mid ≡ clean_state (blocks rs ++ g ∷ behind) → state late ≡ after_write n (1 ∷ []) (state mid) → So old late → Step state left_since does faults Sync late (Ok tt) new → After old (Ok tt) new
        after_all old mid late new was now so step =
            let base : List ℕ = blocks rs ++ 1 ∷ behind in
            let is-settled : state new ≡ clean_state base = step.effect ∙ ap after_sync (now ∙ ap (after_write n (1 ∷ [])) was) ∙ ap clean_state (seen_gate rs are g shut r is rest) in
            let ends : Ends base (rs ++ r ∷ []) = opened_ends rs are g shut r is rest in
            record {
              so = so_next old late new Sync (Ok tt) so step
                  (λ image left. inr (inr (subst (λ (t : List ℕ). Ends t (rs ++ r ∷ [])) (sym (clean_image base image (subst (λ (s : DiskState). MayLeave s image) is-settled left))) ends)));
              outcome = record {
                at_gate = record { ends = subst (λ (t : List ℕ). Ends t (rs ++ r ∷ [])) (sym (ap (λ (s : DiskState). s.seen) is-settled)) ends; gate_is = sym (length_push rs r) };
                forced = is-settled ∙ ap clean_state (sym (ap (λ (s : DiskState). s.seen) is-settled));
              };
            }

      -- the calls of an append at this gate, wherever they ended
      pub after_steps : (rest : List ℕ) (old new : D) (result : Result (Unit {0}) DiskError) → state old ≡ clean_state (blocks rs ++ g ∷ rest)
          → Steps state left_since does faults (append_calls n (spelling r)) old result new → After old result new
      after_steps rest old new result was (inr refused) =
          subst (λ (x : Result (Unit {0}) DiskError). After old x new) (sym refused.2) (after_first rest old new refused.0 was refused.1)
      after_steps rest old new result was (inl passed) =
          let first = passed.1 in
          let so = so_first rest old passed.0 was first in
          after_second_step rest old passed.0 new result was first.effect so passed.2
        where
          after_last : (rest : List ℕ) (old mid late new : D) (result : Result (Unit {0}) DiskError) → state mid ≡ clean_state (blocks rs ++ g ∷ (spelling r ++ 0 ∷ rest)) → state late ≡ after_write n (1 ∷ []) (state mid)
              → So old late → Steps state left_since does faults (Sync ∷ []) late result new → After old result new
          after_last rest old mid late new result at now so (inr refused) =
              subst (λ (x : Result (Unit {0}) DiskError). After old x new) (sym refused.2) (after_fourth rest old mid late new refused.0 at now so refused.1)
          after_last rest old mid late new (Ok tt) at now so (inl passed) =
              subst (λ (d : D). After old (Ok tt) d) (sym passed.2) (after_all rest old mid late passed.0 at now so passed.1)
          after_last rest old mid late new (Err e) at now so (inl passed) = absurd passed.2

          after_third_step : (rest : List ℕ) (old mid new : D) (result : Result (Unit {0}) DiskError) → state mid ≡ clean_state (blocks rs ++ g ∷ (spelling r ++ 0 ∷ rest))
              → So old mid → Steps state left_since does faults (Write n (1 ∷ []) ∷ Sync ∷ []) mid result new → After old result new
          after_third_step rest old mid new result at so (inr refused) =
              subst (λ (x : Result (Unit {0}) DiskError). After old x new) (sym refused.2) (after_third rest old mid new refused.0 at so refused.1)
          after_third_step rest old mid new result at so (inl passed) =
              after_last rest old mid passed.0 new result at passed.1.effect
              (so_next old mid passed.0 (Write n (1 ∷ [])) (Ok tt) so passed.1 (gate_images rest mid passed.0 at passed.1.effect)) passed.2

          after_second_step : (rest : List ℕ) (old mid new : D) (result : Result (Unit {0}) DiskError) → state old ≡ clean_state (blocks rs ++ g ∷ rest) → state mid ≡ after_write (n + 1) piece (state old)
              → So old mid → Steps state left_since does faults (Sync ∷ Write n (1 ∷ []) ∷ Sync ∷ []) mid result new → After old result new
          after_second_step rest old mid new result was now so (inr refused) =
              subst (λ (x : Result (Unit {0}) DiskError). After old x new) (sym refused.2) (after_second rest old mid new refused.0 was now so refused.1)
          after_second_step rest old mid new result was now so (inl passed) =
              let late = passed.0 in
              let y = drop (n + 1 + length piece) (blocks rs ++ g ∷ rest) in
              let at : state late ≡ clean_state (blocks rs ++ g ∷ (spelling r ++ 0 ∷ y)) = staged rest old mid late was now passed.1.effect in
              after_third_step y old late new result at (so_next old mid late Sync (Ok tt) so passed.1 (closed_images (spelling r ++ 0 ∷ y) late at)) passed.2
