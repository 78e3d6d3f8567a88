-- Queries that wait do so rightly: by ids each names what exists, and by deeds and epochs it comes after the queries that have run, with nothing voted on.
use Rattle.std.proofs.Common.{IfSome, None, Option, Some, ap, refl, subst, sym, ℕ, ◌∙◌, ◌≡◌}
use Rattle.std.proofs.lemmas.Option.{slice_get_within}
use Rattle.tp_model.specs.Queries.{item_of}
use Rattle.tp_model.specs.Words.{QueryRequest, Scenario, ServerId, TxnId}
use Rattle.tp_runs.proofs.pairs.Actors.{asker_at, pair_up, site_of}
use Rattle.tp_runs.proofs.pairs.Fits.{EntryFits, Fits, Waits}
use Rattle.tp_runs.proofs.basics.Found.{of_some}
use Rattle.tp_runs.proofs.pairs.Rises.{rises}
use Rattle.tp_runs.proofs.known.World.{Pairs, declared_by, pair_of_up}
use Rattle.tp_server.proofs.Rows.{IsRightWait}
use Rattle.tp_runs.proofs.walks.Steps.{IsServerUp, WaitRightly}
use Rattle.tp_machine.specs.Machine.{State}
use Rattle.tp_machine.specs.Parts.{Part}
use Rattle.tp_runs.specs.Sound.{IsSound, IsSoundServerUp, IsSoundWait}
use Rattle.tp_server.specs.declared.server.Entry.{Entry}
use Rattle.tp_server.specs.Row.{entry_at}
use Rattle.tp_server.specs.State.{Server}

-- the query that waits at an entry
waits_at : (sc : Scenario) (w : State) (at : ServerId) (part : Part Server) (s : Server) (n : ℕ) (entry : Entry) (waiting : Option QueryRequest) → IsServerUp w at part s → Pairs sc w → entry_at s (record { 0 = n }) ≡ Some entry
    → entry.waiting ≡ waiting → IfSome waiting (IsSoundWait sc s.server (record { 0 = n })) → IfSome waiting (IsRightWait sc s.server n entry)
waits_at sc w at part s n entry None up pairs found e h = tt
waits_at sc w at part s n entry (Some q) up pairs found e h =
    let there = declared_by sc q.txn h.sound.txn in
    let site = site_of sc at.0 there.0 in
    let p = pair_up q.txn (asker_at w.actors.coordinators q.txn.0 at.0) s part.log in
    let fits : Fits site p = subst (Fits site) (pair_of_up w.actors at part s q.txn up.found up.up) (pairs.fits q.txn at.0 there.0 there.1) in
    let here : p.entry ≡ Some entry = subst (λ (t : TxnId). entry_at s t ≡ Some entry) (sym h.own) found in
    let kept : EntryFits site p entry = of_some (EntryFits site p) p.entry entry here fits.entry in
    let waits : Waits site p entry q = of_some (Waits site p entry) entry.waiting q e kept.waiting in
    record {
      own = ap (λ (t : TxnId). t.0) h.own;
      exists = h.sound.txn;
      unvoted = waits.unvoted;
      upto = rises site p entry q refl here fits waits.fits waits.fresh waits.unvoted;
      query = h.sound.asked;
      asked_is = h.sound.asked_is;
      on_item = slice_get_within sc.items (item_of h.sound.asked).0 h.sound.kept.declared h.sound.kept.declared_is;
      item = h.sound.kept.declared;
      item_is = h.sound.kept.declared_is;
      here = h.sound.kept.server_is ∙ (let same : h.sound.at ≡ s.server = cc in same);
      has_value = h.sound.has_value;
    }

pub wait_rightly : (sc : Scenario) (w : State) → IsSound sc w → Pairs sc w → WaitRightly sc w
wait_rightly sc w sound pairs at part s up n entry found =
    let own : IsSoundServerUp sc at s = of_some (IsSoundServerUp sc at) part.up s up.up (sound.actors_are.servers at.0 part up.found).state in
    waits_at sc w at part s n entry entry.waiting up pairs found refl (own.sound.entries n entry found).waiting
