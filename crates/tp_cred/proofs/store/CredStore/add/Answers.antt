use Rattle.std.proofs.Common.{◌≡◌, ◌<◌, ◌^◌, ◌∙◌, None, length, sym}
use Rattle.std.specs.List.{position}
use Rattle.tp_cred.specs.Store.{is_named}
use Rattle.tp_cred.proofs.NameLemmas.{more_names}
use Rattle.tp_cred.proofs.store.CredStore.add.Goals as goal

pub invariant_of-self-in-None : goal.invariant_of-self-in-None
invariant_of-self-in-None c =
    let none : position (is_named c.args.credential.name) c.self.inside.creds ≡ None = rw c.self.view_is (sym c.place_of.ensures ∙ c.in-None.is) in
    let few : length c.self.inside.creds < 2 ^ 32 = rw c.self.view_is c.requires in
    rw c.in_ok-push-in-None.ensures.ok (more_names c.self.inside.creds c.args.credential none few c.self.invariant)
