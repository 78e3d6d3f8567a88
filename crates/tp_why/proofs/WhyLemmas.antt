-- The lines of a denial, by the clock and the revocations that the program has found.
use Rattle.std.proofs.Common.{◌≡◌, ℕ, List, [], Option, Some, ap}
use Rattle.std.specs.Option.{option_map_or}
use Rattle.tp_model.specs.Words.{Fact, Scenario, Transaction}
use Rattle.tp_why.specs.Denial.{Asked}
use Rattle.tp_why.specs.Why.{asked_lines}

pub lines_at : (sc sc' : Scenario) (place place' : ℕ) (facts facts' : List Fact) (declared : Transaction) (asked : Asked) (found : Option Asked)
    → sc' ≡ sc → place' ≡ place → facts' ≡ facts → Some asked ≡ found
    → asked_lines sc' place' facts' declared asked ≡ option_map_or (asked_lines sc place facts declared) found []
lines_at sc sc' place place' facts facts' declared asked found e f g h =
    rw (e, f, g) (ap (λ (o : Option Asked). option_map_or (asked_lines sc place facts declared) o []) h)
