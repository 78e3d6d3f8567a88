use Rattle.tp_scheme.proofs.PinLemmas.{first_proofs_pin, pins_stay}
use Rattle.tp_scheme.proofs.laws.first_proofs_pin.Goals as goal

pub returns-clause-stay : goal.returns-clause-stay
returns-clause-stay c = pins_stay

pub returns-clause-first : goal.returns-clause-first
returns-clause-first c = first_proofs_pin
