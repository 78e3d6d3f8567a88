-- The lines of refused steps and of usage.
use Rattle.std.specs.Prelude.{ℕ, List, [], ◌++◌, codes, decimal}
use Rattle.tp_machine.specs.declared.error.StepError.{StepError}
use Rattle.tp_machine.specs.declared.error.StepError.TheVariants as step
use Rattle.tp_model.specs.Words.{Scenario}
use Rattle.tp_report.specs.ReportText.{actor_name, admin_name, txn_name}

-- why a listed step was refused; want of memory is no refusal
abbrev pub step_fault_text : Scenario → StepError → List ℕ
step_fault_text sc (step.NoSuchMail mail mails) =
    codes " nomail " ++ decimal mail ++ codes " " ++ decimal mails
step_fault_text sc (step.AlreadySubmitted txn) = codes " submitted " ++ txn_name sc txn
step_fault_text sc (step.NotSubmitted txn) = codes " notsubmitted " ++ txn_name sc txn
step_fault_text sc (step.IsDown actor) = codes " isdown " ++ actor_name sc actor
step_fault_text sc (step.NotDown actor) = codes " notdown " ++ actor_name sc actor
step_fault_text sc (step.NotItsMail mail) = codes " notitsmail " ++ decimal mail
step_fault_text sc (step.NoMore admin) = codes " nomore " ++ admin_name sc admin
step_fault_text sc (step.TooLate clock) = codes " toolate " ++ decimal clock
step_fault_text sc step.NoMemory = []

-- the line that says which listed step was refused, by its number, and why
abbrev pub step_line : Scenario → ℕ → StepError → List ℕ
step_line sc at why =
    codes "refused step " ++ decimal at ++ step_fault_text sc why ++ codes "\n"

-- the line that says how the program is called
abbrev pub usage_line : List ℕ
usage_line = codes "usage: tpvc COMMAND [WORD]\n"
