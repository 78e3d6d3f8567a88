use Rattle.std.proofs.Common.{◌==◌, ℕ, ap, ◌∙◌}
use Rattle.std.specs.List.{list_any}
use Rattle.tp_machine.specs.WorldView.{WorldView}
use Rattle.tp_machine.proofs.world.World.undelivered.Goals as goal

pub returns : goal.returns
returns c =
    c.is_pending.ensures ∙ ap (λ (w : WorldView). list_any (λ (number : ℕ). number == c.args.mail) w.machine.undelivered) c.self.view_is
