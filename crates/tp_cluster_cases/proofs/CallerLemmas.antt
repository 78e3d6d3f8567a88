-- A caller stays one.
use Rattle.std.proofs.Common.{◌≡◌, false, true, refl}
use Rattle.std.specs.Prelude.{ℕ, Result, Ok, Err, IsErrOf}
use Rattle.tp_model.specs.Words.{Scenario, Step}
use Rattle.tp_wire.specs.Passes.{Known}
use Rattle.tp_cluster.specs.declared.error.ClusterError.{ClusterError}
use Rattle.tp_cluster.specs.declared.error.ClusterError.TheVariants as error
use Rattle.tp_cluster.specs.Calls.{IsAnswer, IsCaller}

-- after a call whose pass is not given up
pub still_caller : (sc : Scenario) (old : Known) (taken : Step) (answer : Result ℕ ClusterError) (new : Known) → IsAnswer sc old taken answer new → (IsErrOf answer error.NoMemory → new.given_up ≡ true)
    → new.given_up ≡ false → IsCaller sc new.view
still_caller sc old taken (Ok place) new did memory live = did.caller
still_caller sc old taken (Err (error.Refused why)) new did memory live = did.caller
still_caller sc old taken (Err error.NoMemory) new did memory live = let up = memory refl in absurd (cc)
