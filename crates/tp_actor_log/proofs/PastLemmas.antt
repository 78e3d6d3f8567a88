-- What was read of an actor's log, and how a boot reads on.
use Rattle.std.proofs.Common.{◌≡◌, ℕ, ◌+◌, ◌^◌, ◌<◌, ◌≤◌, List, [], ◌∷◌, ◌++◌, length, Bool, true, false, if◌then◌else◌, Result, Ok, Err, OnErr, OnOk, refl, sym, ap, subst, ◌∙◌, append_assoc, append-nil, arith}
use Rattle.std.proofs.lemmas.List.{length-append}
use Rattle.tp_device.specs.Disks.{after_sync, clean_state}
use Rattle.tp_device.specs.Memory.{Memory, disk_of}
use Rattle.tp_record.specs.Spelling.{content, short, spelling}
use Rattle.tp_log.specs.Images.{Gives, GivesBehind, blocks}
use Rattle.tp_log.specs.Logs.{Keeps, LogState}
use Rattle.tp_model.specs.Words.{Cut, Record}
use Rattle.tp_model.specs.Words.log
use Rattle.tp_recover.specs.Log.{boots_in, without_boots}
use Rattle.tp_recover.proofs.BootsApart.{boots_append, without_append}
use Rattle.tp_actor_log.specs.declared.past.Past.{Past}
use Rattle.tp_log.specs.Appends.{is_kept, kept_after}
use Rattle.tp_actor_log.specs.mirrors.Disks.{IsForced, records_on}
use Rattle.tp_actor_log.specs.mirrors.Pasts.{IsPast, IsReadOf, IsWhole}
use Rattle.tp_actor_log.proofs.DiskLemmas.{HasRecords, reread_records}

-- before anything was read
pub unread_past : (past : Past) → past.place ≡ 0 → past.boots ≡ 0 → past.others ≡ [] → (records : List Record) → IsPast past records
unread_past past place boots others records = record { before = []; more = records; parts = refl; place_is = place; boots_are = boots; others_are = others }

-- ---- what the log gains is left to be read

past_same : (past : Past) (records now : List Record) → IsPast past records → now ≡ records → IsPast past now
past_same past records now h same = subst (IsPast past) (sym same) h

past_gains : (past : Past) (records : List Record) (r : Record) → IsPast past records → IsPast past (records ++ r ∷ [])
past_gains past records r h = record {
  before = h.before;
  more = h.more ++ r ∷ [];
  parts = ap (λ (rs : List Record). rs ++ r ∷ []) h.parts ∙ append_assoc h.before h.more (r ∷ []);
  place_is = h.place_is;
  boots_are = h.boots_are;
  others_are = h.others_are;
}

pub past_forced : {E : Type 0} (past : Past) (old new : LogState Memory) (r : Record) (result : Result (Unit {0}) E) → IsReadOf past old → IsForced new
    → OnOk result (records_on new ≡ records_on old ++ r ∷ []) → OnErr result (records_on new ≡ records_on old) → IsReadOf past new
past_forced past old new r (Ok x) h disk ok err =
    record { disk = disk; so_far = past_same past (records_on old ++ r ∷ []) (records_on new) (past_gains past (records_on old) r h.so_far) ok }
past_forced past old new r (Err e) h disk ok err = record { disk = disk; so_far = past_same past (records_on old) (records_on new) h.so_far err }

past_kept : (past : Past) (records : List Record) (r : Record) (b : Bool) → IsPast past records → IsPast past (if b then records ++ r ∷ [] else records)
past_kept past records r true h = past_gains past records r h
past_kept past records r false h = h

pub past_torn : {E : Type 0} (past : Past) (old new : LogState Memory) (cut : Cut) (r : Record) (result : Result (Unit {0}) E) → IsReadOf past old → IsForced new
    → OnOk result (records_on new ≡ kept_after cut.calls cut.fill (records_on old) r) → OnErr result (records_on new ≡ records_on old) → IsReadOf past new
past_torn past old new cut r (Ok x) h disk ok err =
    record { disk = disk; so_far = past_same past (kept_after cut.calls cut.fill (records_on old) r) (records_on new) (past_kept past (records_on old) r (is_kept cut.calls cut.fill) h.so_far) ok }
past_torn past old new cut r (Err e) h disk ok err = record { disk = disk; so_far = past_same past (records_on old) (records_on new) h.so_far err }

pub past_stays : (past : Past) (old new : LogState Memory) → IsReadOf past old → HasRecords new (records_on old) → IsReadOf past new
past_stays past old new h now = record { disk = now.forced; so_far = past_same past (records_on old) (records_on new) h.so_far now.same }

-- the same was read of a log that was opened anew
pub past_alike : (past now : Past) (old new : LogState Memory) → now.place ≡ past.place → now.boots ≡ past.boots → now.others ≡ past.others → IsReadOf past old → HasRecords new (records_on old)
    → IsReadOf now new
past_alike past now old new place boots others h opened = record {
  disk = opened.forced;
  so_far = past_same now (records_on old) (records_on new)
      (record {
        before = h.so_far.before;
        more = h.so_far.more;
        parts = h.so_far.parts;
        place_is = place ∙ h.so_far.place_is;
        boots_are = boots ∙ h.so_far.boots_are;
        others_are = others ∙ h.so_far.others_are;
      })
      opened.same;
}

-- ---- reading on

-- a boot takes two bytes of a log and more
boots_small : (records : List Record) → boots_in records + boots_in records ≤ length (blocks records)
boots_small [] = omega arith
boots_small (log.Boot ∷ records) =
    omega (arith, boots_small records, length-append (short (length (content log.Boot))) (content log.Boot), length-append (spelling log.Boot) (blocks records))
boots_small (log.Told t ∷ records) = omega (arith, boots_small records, length-append (spelling (log.Told t)) (blocks records))
boots_small (log.Prepared p ∷ records) = omega (arith, boots_small records, length-append (spelling (log.Prepared p)) (blocks records))
boots_small (log.Settled s ∷ records) = omega (arith, boots_small records, length-append (spelling (log.Settled s)) (blocks records))
boots_small (log.Decided d ∷ records) = omega (arith, boots_small records, length-append (spelling (log.Decided d)) (blocks records))

-- the place is that of a gate
pub gate_of : (past : Past) (log : LogState Memory) (h : IsReadOf past log) → GivesBehind log.disk.disk.seen past.place h.so_far.before h.so_far.more
gate_of past log h = record { gives = subst (Gives log.disk.disk.seen) h.so_far.parts h.disk.gives; place_is = h.so_far.place_is }

-- what was found behind it is what was left to be read, and the log is open
module _ (past : Past) (old new : LogState Memory) (found : List Record) (h : IsReadOf past old)
    (only : (before more : List Record) → GivesBehind old.disk.disk.seen past.place before more → found ≡ more)
    (kept : (records : List Record) → Gives old.disk.disk.seen records → Keeps disk_of new records) where
  parts : records_on old ≡ h.so_far.before ++ found
  parts = h.so_far.parts ∙ ap (λ (rs : List Record). h.so_far.before ++ rs) (sym (only h.so_far.before h.so_far.more (gate_of past old h)))

  gate_is : new.gate ≡ length (blocks (records_on old))
  gate_is = (kept (records_on old) h.disk.gives).at_gate.gate_is

  all_boots : past.boots + boots_in found ≡ boots_in (records_on old)
  all_boots = ap (λ (n : ℕ). n + boots_in found) h.so_far.boots_are ∙ sym (boots_append h.so_far.before found) ∙ ap boots_in (sym parts)

  all_others : past.others ++ without_boots found ≡ without_boots (records_on old)
  all_others = ap (λ (rs : List Record). rs ++ without_boots found) h.so_far.others_are ∙ sym (without_append h.so_far.before found) ∙ ap without_boots (sym parts)

  -- the boots can be counted
  pub boots_fit : (boots : ℕ) → boots ≡ boots_in found → (past.boots + boots) + (past.boots + boots) ≤ new.gate
  boots_fit boots counted = omega (arith, counted, all_boots, gate_is, boots_small (records_on old))

  -- all of it was read
  pub record ReadOn (now : Past) : Type 0 where
    pub read : IsReadOf now new
    pub same : records_on new ≡ records_on old
    pub whole : IsWhole now (records_on old)

  pub reads_on : (now : Past) (boots : ℕ) → (1 < length old.disk.disk.seen → new.disk ≡ record old.disk { disk = after_sync old.disk.disk })
      → (length old.disk.disk.seen ≤ 1 → new.disk ≡ record old.disk { disk = clean_state (0 ∷ []) })
      → boots ≡ boots_in found → now.boots ≡ past.boots + boots → now.others ≡ past.others ++ without_boots found → now.place ≡ new.gate → new.gate < 2 ^ 64 → ReadOn now
  reads_on now boots long short counted boots_are others_are place_is fits =
      let opened = reread_records old new (records_on old) h.disk h.disk.gives (kept (records_on old) h.disk.gives) long short in
      let counts : now.boots ≡ boots_in (records_on old) = boots_are ∙ ap (λ (n : ℕ). past.boots + n) counted ∙ all_boots in
      let others : now.others ≡ without_boots (records_on old) = others_are ∙ all_others in
      record {
        read = record {
          disk = opened.forced;
          so_far = past_same now (records_on old) (records_on new)
              (record { before = records_on old; more = []; parts = sym (append-nil (records_on old)); place_is = place_is ∙ gate_is; boots_are = counts; others_are = others })
              opened.same;
        };
        same = opened.same;
        whole = record { boots_are = counts; others_are = others; few = omega (arith, boots_fit boots counted, boots_are, fits) };
      }
