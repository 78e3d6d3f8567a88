-- Laws of the code of acts: what a lookup found decides the move.
use Rattle.std.proofs.Common.{◌^◌, ℕ, List, [], ◌∷◌, slice_get, Option, Some, None, IfSome, zero, suc, refl}
use Rattle.tp_quorum.specs.Acts.{Did, FitNumbers, act_after, among, ops_after}
use Rattle.tp_quorum.specs.Machine.{operation_takes, operation_takes_at}
use Rattle.tp_quorum.specs.Operations.{HasFlagsBelow}
use Rattle.tp_quorum.specs.Words.{Operation, QMail}
use Rattle.tp_types.specs.Each.{Each}
use Rattle.tp_quorum.specs.declared.acts.Members.{Members}

-- an operation that takes a reply
operation_at : (members : Members) (mail : QMail) (found : Option Operation) → Did (operation_takes_at (among members) mail found) (record members { ops = ops_after members.ops mail found }) (act_after mail found)
operation_at members mail None = record { members_are = refl; act_is = refl }
operation_at members mail (Some o) = record { members_are = refl; act_is = refl }

pub operation_did : (members : Members) (mail : QMail) → Did (operation_takes (among members) mail) (record members { ops = ops_after members.ops mail (slice_get members.ops mail.op) }) (act_after mail (slice_get members.ops mail.op))
operation_did members mail = operation_at members mail (slice_get members.ops mail.op)

-- what holds of each holds of what stands at a place, if something does
each_at : {A : Type 0} (P : A → Type 0) (xs : List A) (n : ℕ) → Each P xs → IfSome (slice_get xs n) P
each_at P [] n each = tt
each_at P (x ∷ xs) zero each = each.0
each_at P (x ∷ xs) (suc n) each = each_at P xs n each.1

pub flags_at : (members : Members) (op : ℕ) → FitNumbers members → IfSome (slice_get members.ops op) (λ (o : Operation). HasFlagsBelow (2 ^ 32) o.phase)
flags_at members op fit = each_at (λ (o : Operation). HasFlagsBelow (2 ^ 32) o.phase) members.ops op fit.flags
