-- The text of a step, as a scenario lists it: its words, with one space between two of them.
use Rattle.std.specs.Prelude.{ℕ, List, [], ◌++◌, Option, Some, None, codes, decimal}
use Rattle.tp_model.specs.Words.{Actor, AdminId, Cut, Scenario, ServerId, Step}
use Rattle.tp_model.specs.Words.actor
use Rattle.tp_model.specs.Words.step
use Rattle.tp_report.specs.ReportText.{admin_name, cred_name, server_name, txn_name}

-- a coordinator is named as its transaction; the offices with a capital, which no name of a scenario has
abbrev pub actor_word : Scenario → Actor → List ℕ
actor_word sc (actor.Server at) = server_name sc at
actor_word sc (actor.Coordinator txn) = txn_name sc txn
actor_word sc actor.Master = codes "Master"
actor_word sc actor.Authority = codes "Authority"

-- `push ADMIN SERVER`
abbrev pub push_text : Scenario → AdminId → ServerId → List ℕ
push_text sc admin server =
    codes "push " ++ admin_name sc admin ++ codes " " ++ server_name sc server

-- ` in K at C fill F`, if the crash is in the receipt of a mail
abbrev pub cut_text : Option Cut → List ℕ
cut_text None = []
cut_text (Some cut) =
    codes " in " ++ decimal cut.mail ++ codes " at " ++ decimal cut.calls ++ codes " fill "
    ++ decimal cut.fill

-- `crash ACTOR`, and in which receipt
abbrev pub crash_text : Scenario → Actor → Option Cut → List ℕ
crash_text sc who cut = codes "crash " ++ actor_word sc who ++ cut_text cut

unfoldable pub step_text : Scenario → Step → List ℕ
step_text sc (step.Submit txn) = codes "submit " ++ txn_name sc txn
step_text sc (step.Publish admin) = codes "publish " ++ admin_name sc admin
step_text sc (step.Push admin server) = push_text sc admin server
step_text sc (step.Revoke cred) = codes "revoke " ++ cred_name sc cred
step_text sc (step.Tick by) = codes "tick " ++ decimal by
step_text sc (step.Deliver mail) = codes "deliver " ++ decimal mail
step_text sc (step.Lose mail) = codes "lose " ++ decimal mail
step_text sc (step.Crash who cut) = crash_text sc who cut
step_text sc (step.Boot who) = codes "boot " ++ actor_word sc who
step_text sc (step.Timer txn) = codes "timer " ++ txn_name sc txn
