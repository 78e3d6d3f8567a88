use Rattle.tp_wire.specs.Passes.{entry_by}
use Rattle.tp_wire.proofs.wire.Wire.post.Given as goal

abbrev pub ghosts-post : goal.ghosts-post
ghosts-post g a = record { entry = entry_by a.pass.now.view a.step a.happened a.letters }
