-- Serial data, the receipt of a mail by a server that is up: what its row gives is what an act has to bring.
use Rattle.std.proofs.Common.{IfSome, None, Option, Some, [], ap, option_map, refl, slice_get, sym, ⊎_elim, ◌∙◌, ◌≡◌}
use Rattle.std.proofs.lemmas.Option.{same_Some}
use Rattle.tp_types.specs.Effect.{Effect}
use Rattle.tp_model.specs.Facts.{outcome_of}
use Rattle.tp_model.specs.Words.decision
use Rattle.tp_model.specs.Words.log
use Rattle.tp_model.specs.Words.outcome
use Rattle.tp_model.specs.Words.{CommitRecord, Prepared, Record, Scenario, ServerId}
use Rattle.tp_recover.specs.Log.{settled_in}
use Rattle.tp_runs.proofs.agreement.Logs.{DecidedAs, IsAsked, LogPrepared, LogServed, outcome_settled}
use Rattle.tp_runs.proofs.agreement.Server.{RecordRests, ServerAgrees, open_unsettled}
use Rattle.tp_runs.proofs.agreement.ServerActs.{ordered_commit, served_here}
use Rattle.tp_runs.proofs.agreement.World.{Agrees}
use Rattle.tp_runs.proofs.basics.Logs.{Prepares}
use Rattle.tp_runs.proofs.deeds.Joined.{share_at}
use Rattle.tp_runs.proofs.locked.World.{IsLockedServer}
use Rattle.tp_runs.proofs.serial_data.Rows.{IsVoteHere, RecordHere, ServerKeeps}
use Rattle.tp_runs.proofs.serial_data.Settling.{IsShare, IsShareOf, open_share, server_acts_serial}
use Rattle.tp_runs.proofs.serial_data.UpOnLog.{EndsOnce, IsPreparedEntry, UpOnLog, acts_on_log, prepared_here, record_reads}
use Rattle.tp_runs.proofs.serial_data.World.{MoveSerial, Serial, up_on_log}
use Rattle.tp_machine.specs.Logs.{decided_at}
use Rattle.tp_machine.specs.Machine.{State, acts_by, server_fact, server_move}
use Rattle.tp_machine.specs.Parts.{Part}
use Rattle.tp_server.specs.declared.server.Entry.{Entry}
use Rattle.tp_server.specs.State.{Server}

-- what is to be known as a server that is up acts on a mail
pub record ServerReceives (sc : Scenario) (w : State) (at : ServerId) (part : Part Server) (s : Server) (effect : Effect Server) : Type 0 where
  pub found : slice_get w.actors.servers at.0 ≡ Some part
  pub up : part.up ≡ Some s
  pub locked : IsLockedServer sc s
  pub agrees : ServerAgrees s part.log
  pub keeps : ServerKeeps sc (IsAsked sc w.actors.coordinators at) s effect
  pub rests : IfSome effect.reaction.append (RecordRests (DecidedAs w.actors.coordinators) (IsAsked sc w.actors.coordinators at) part.log)

-- a vote YES on a commit is on its share
vote_share : (sc : Scenario) (w : State) (at : ServerId) (part : Part Server) (s : Server) (p : Prepared) (committed : CommitRecord) → Agrees sc w → Serial sc w → slice_get w.actors.servers at.0 ≡ Some part → ServerAgrees s part.log
    → IsVoteHere (IsAsked sc w.actors.coordinators at) s p → decided_at w.actors.coordinators p.txn.0 ≡ Some (decision.Commit committed) → p.deeds ≡ share_at sc at.0 committed.deeds
vote_share sc w at part s p committed agrees h found a here d =
    let served : LogServed p.txn part.log = served_here sc w at part p.txn agrees found here.asked.item (ap (option_map outcome_of) d) in
    let share : IsShare sc at part.log p.txn committed = open_share sc w at part p.txn committed h found d (open_unsettled s part.log p.txn a here.unsettled) served in
    let own : IsPreparedEntry s p.txn share.p = prepared_here s part.log p.txn share.p a share.prepared_is in
    here.deeds_are ∙ (ap (λ (entry : Entry). entry.deeds) (same_Some here.entry own.entry (sym here.found ∙ own.found)) ∙ (own.deeds_are ∙ share.deeds_are))

-- so it is of each record
pub record_shares : (sc : Scenario) (w : State) (at : ServerId) (part : Part Server) (s : Server) (append : Option Record) → Agrees sc w → Serial sc w → slice_get w.actors.servers at.0 ≡ Some part → ServerAgrees s part.log
    → IfSome append (RecordHere (IsAsked sc w.actors.coordinators at) s) → IfSome append (Prepares (IsShareOf sc w at))
record_shares sc w at part s None agrees h found a votes = tt
record_shares sc w at part s (Some (log.Prepared p)) agrees h found a votes = λ committed d. vote_share sc w at part s p committed agrees h found a votes d
record_shares sc w at part s (Some (log.Settled r)) agrees h found a votes = tt
record_shares sc w at part s (Some (log.Decided d)) agrees h found a votes = tt
record_shares sc w at part s (Some (log.Told t)) agrees h found a votes = tt
record_shares sc w at part s (Some log.Boot) agrees h found a votes = tt

-- a settlement that rests on what it has to is the first, and a commit is prepared
pub record_ends : (sc : Scenario) (w : State) (at : ServerId) (part : Part Server) (append : Option Record) → Agrees sc w → slice_get w.actors.servers at.0 ≡ Some part
    → IfSome append (RecordRests (DecidedAs w.actors.coordinators) (IsAsked sc w.actors.coordinators at) part.log) → IfSome append (EndsOnce part.log)
record_ends sc w at part None agrees found rests = tt
record_ends sc w at part (Some (log.Settled r)) agrees found rests =
    record {
      fresh = rests.fresh;
      prepared = λ commits.
          let d = (ordered_commit (DecidedAs w.actors.coordinators) (IsAsked sc w.actors.coordinators at) part.log r r.why refl rests commits).1 in
          ⊎_elim (λ (p : LogPrepared r.txn part.log). p) (λ (c : option_map outcome_settled (settled_in r.txn part.log) ≡ Some outcome.Commit). let none = ap (option_map outcome_settled) rests.fresh in absurd (cc))
          (served_here sc w at part r.txn agrees found rests.asked.item d);
    }
record_ends sc w at part (Some (log.Prepared p)) agrees found rests = tt
record_ends sc w at part (Some (log.Decided d)) agrees found rests = tt
record_ends sc w at part (Some (log.Told t)) agrees found rests = tt
record_ends sc w at part (Some log.Boot) agrees found rests = tt

-- a receipt is an act of a server that was up, and is
pub server_receives_serial : (sc : Scenario) (w : State) (at : ServerId) (part : Part Server) (s : Server) (effect : Effect Server) → Agrees sc w → Serial sc w → ServerReceives sc w at part s effect
    → MoveSerial sc w (server_move w.actors at (acts_by (server_fact at) [] part.log effect))
server_receives_serial sc w at part s effect agrees h k =
    let M = IsAsked sc w.actors.coordinators at in
    let append = effect.reaction.append in
    let was : UpOnLog sc s part.log = up_on_log sc w at part s h k.found k.up in
    server_acts_serial sc w at part (Some effect.state) [] append effect.reaction.letters agrees h
    (record {
      found = k.found;
      grown = refl;
      state = acts_on_log sc M s part.log effect was k.agrees k.keeps (record_ends sc w at part append agrees k.found k.rests);
      rests = k.rests;
      reads = record_reads sc M s part.log append was k.locked k.agrees k.keeps.votes;
      tested = k.keeps.forces;
      shares = record_shares sc w at part s append agrees h k.found k.agrees k.keeps.votes;
    }) tt
