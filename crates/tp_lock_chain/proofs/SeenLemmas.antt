-- Who was passed tells whether an entry before conflicts.
use Rattle.std.proofs.Common.{◌≡◌, ◌==◌, ◌&&◌, ◌||◌, not, Bool, true, false, cond, List, [], ◌∷◌, ◌++◌, refl, sym, ap, ap₂, ◌∙◌, inl, inr}
use Rattle.std.proofs.lemmas.Bool.{cases_eq, eq-eqb, ne_eqb}
use Rattle.std.proofs.lemmas.List.Folds.{list_any-append}
use Rattle.std.specs.List.{list_any}
use Rattle.tp_types.specs.declared.ids.TxnId.{TxnId}
use Rattle.tp_types.specs.declared.policy.Action.{Action}
use Rattle.tp_types.specs.declared.policy.Action.TheVariants.{Read, Write}
use Rattle.tp_lock.specs.Rule as rule
use Rattle.tp_lock.specs.declared.entry.LockEntry.{LockEntry}
use Rattle.tp_lock_chain.specs.declared.leave.Passed.{Passed}
use Rattle.tp_lock_chain.specs.declared.leave.Seen.{Seen}
use Rattle.tp_lock_chain.specs.declared.leave.Seen.TheVariants.{Nobody, One, Many}
use Rattle.tp_lock_chain.specs.mirrors.Leave.{has_other, hinders, is_granted, nobody, passed_with, with_owner}

or_itself : (b : Bool) → b ≡ (b || b)
or_itself true = refl
or_itself false = refl

or_true : (b : Bool) → true ≡ (b || true)
or_true true = refl
or_true false = refl

or_no : (b : Bool) → (b || false) ≡ b
or_no true = refl
or_no false = refl

and_no : (b : Bool) → (b && false) ≡ false
and_no true = refl
and_no false = refl

and_yes : (b : Bool) → (b && true) ≡ b
and_yes true = refl
and_yes false = refl

more_seen : (owner other : TxnId) (seen : Seen) → has_other owner (with_owner other seen) ≡ (has_other owner seen || not (other.0 == owner.0))
more_seen owner other Nobody = refl
more_seen owner other (One first) = elim (cases_eq first.0 other.0) [
  | inl same ↦
      ap (λ b. has_other owner (cond b (One first) Many)) (eq-eqb first.0 other.0 same)
      ∙ or_itself (not (first.0 == owner.0)) ∙ ap (λ n. not (first.0 == owner.0) || not (n == owner.0)) same
  | inr ne ↦
      ap (λ b. has_other owner (cond b (One first) Many)) (ne_eqb first.0 other.0 ne) ∙ elim (cases_eq other.0 owner.0) [
        | inl own ↦
            ap (λ b. not b || not (other.0 == owner.0)) (sym (ne_eqb first.0 owner.0 (λ same. ne (same ∙ sym own))))
        | inr away ↦ or_true (not (first.0 == owner.0)) ∙ ap (λ b. not (first.0 == owner.0) || not b) (sym (ne_eqb other.0 owner.0 away))
      ]
]
more_seen owner other Many = refl

-- what was passed are the owners of these entries
pub record Tells (passed : Passed) (earlier : List LockEntry) : Type 0 where
  pub says : (owner : TxnId) (mode : Action) → hinders owner mode passed ≡ list_any (rule.conflicts owner mode) earlier

nothing_says : (owner : TxnId) (mode : Action) → hinders owner mode nobody ≡ false
nothing_says owner Read = refl
nothing_says owner Write = refl

pub nobody_tells : Tells nobody []
nobody_tells = record { says = nothing_says }

if_writes : (owner : TxnId) (passed : Passed) (entry : LockEntry) (mode : Action)
    → has_other owner (cond (rule.is_write mode) (with_owner entry.owner passed.writers) passed.writers)
    ≡ (has_other owner passed.writers || (not (entry.owner.0 == owner.0) && (false || rule.is_write mode)))
if_writes owner passed entry Read = sym (ap (λ b. has_other owner passed.writers || b) (and_no (not (entry.owner.0 == owner.0))) ∙ or_no (has_other owner passed.writers))
if_writes owner passed entry Write = more_seen owner entry.owner passed.writers ∙ ap (λ b. has_other owner passed.writers || b) (sym (and_yes (not (entry.owner.0 == owner.0))))

one_more : (passed : Passed) (entry : LockEntry) (owner : TxnId) (mode : Action) → hinders owner mode (passed_with entry passed) ≡ (hinders owner mode passed || rule.conflicts owner mode entry)
one_more passed entry owner Read = if_writes owner passed entry entry.mode
one_more passed entry owner Write = more_seen owner entry.owner passed.all ∙ ap (λ b. has_other owner passed.all || b) (sym (and_yes (not (entry.owner.0 == owner.0))))

pub with_tells : (passed : Passed) (earlier : List LockEntry) (entry new : LockEntry) → new.owner ≡ entry.owner → new.mode ≡ entry.mode → Tells passed earlier
    → Tells (passed_with entry passed) (earlier ++ new ∷ [])
with_tells passed earlier entry new owner_is mode_is tells = record {
  says = λ owner mode.
      one_more passed entry owner mode
      ∙ ap₂ (λ (a b : Bool). a || b) (tells.says owner mode) (ap₂ (λ (o : TxnId) (m : Action). not (o.0 == owner.0) && (rule.is_write mode || rule.is_write m)) (sym owner_is) (sym mode_is))
      ∙ ap (λ b. list_any (rule.conflicts owner mode) earlier || b) (sym (or_no (rule.conflicts owner mode new)))
      ∙ sym (list_any-append (rule.conflicts owner mode) earlier (new ∷ []));
}

pub granted_tells : (passed : Passed) (earlier : List LockEntry) (entry : LockEntry) → Tells passed earlier → is_granted passed entry ≡ rule.is_granted earlier entry
granted_tells passed earlier entry tells = ap (λ b. not entry.held && not b) (tells.says entry.owner entry.mode)
