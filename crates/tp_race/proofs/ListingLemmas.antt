-- The machine looks at no listed steps: it does with the scenario that lists steps what it does with the scenario.
use Rattle.std.proofs.Common.{◌≡◌, ℕ, List, refl}
use Rattle.tp_auto.specs.Auto.{next_of}
use Rattle.tp_ends.specs.Listed.{refused_from}
use Rattle.tp_machine.specs.Machine.{Machine, State, after_steps, ending_of, opening}
use Rattle.tp_model.specs.Words.{Ending, Fact, Scenario, Step}
use Rattle.tp_report.specs.ReportText.{instance_tokens, proof_front, proof_line, proof_tokens, report_text}
use Rattle.tp_report.specs.StepText.{step_text}
use Rattle.tp_race.specs.Replayed.{listing}

pub after_unlisted : (sc : Scenario) (listed : List Step) (m : Machine) (steps : List Step) → after_steps (listing sc listed) m steps ≡ after_steps sc m steps
after_unlisted sc listed m steps = refl

pub opening_unlisted : (sc : Scenario) (listed : List Step) → opening (listing sc listed) ≡ opening sc
opening_unlisted sc listed = refl

pub refused_unlisted : (sc : Scenario) (listed : List Step) (m : Machine) (at : ℕ) (steps : List Step) → refused_from (listing sc listed) m at steps ≡ refused_from sc m at steps
refused_unlisted sc listed m at steps = refl

pub next_unlisted : (sc : Scenario) (listed : List Step) (m : Machine) (cursor : ℕ) → next_of (listing sc listed) m cursor ≡ next_of sc m cursor
next_unlisted sc listed m cursor = refl

pub ending_unlisted : (sc : Scenario) (listed : List Step) (w : State) → ending_of (listing sc listed) w ≡ ending_of sc w
ending_unlisted sc listed w = refl

pub report_unlisted : (sc : Scenario) (listed : List Step) (facts : List Fact) (ending : Ending) → report_text (listing sc listed) facts ending ≡ report_text sc facts ending
unfolding proof_tokens proof_line proof_front instance_tokens
report_unlisted sc listed facts ending = refl

pub text_unlisted : (sc : Scenario) (listed : List Step) (taken : Step) → step_text (listing sc listed) taken ≡ step_text sc taken
unfolding step_text
text_unlisted sc listed taken = refl
