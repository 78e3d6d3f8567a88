-- The types of values, and their variants, passed on for one line of imports: a type by its name, and its variants behind a word.
pub use Rattle.tp_types.specs.declared.fact.Ending.{Ending}
pub use Rattle.tp_types.specs.declared.fact.Fact.{Fact}
pub use Rattle.tp_types.specs.declared.fact.What.{What}
pub use Rattle.tp_types.specs.declared.ids.AdminId.{AdminId}
pub use Rattle.tp_types.specs.declared.ids.CredId.{CredId}
pub use Rattle.tp_types.specs.declared.ids.ItemId.{ItemId}
pub use Rattle.tp_types.specs.declared.ids.ServerId.{ServerId}
pub use Rattle.tp_types.specs.declared.ids.TxnId.{TxnId}
pub use Rattle.tp_types.specs.declared.ids.Version.{Version}
pub use Rattle.tp_types.specs.declared.mail.AckReply.{AckReply}
pub use Rattle.tp_types.specs.declared.mail.Answer.{Answer}
pub use Rattle.tp_types.specs.declared.mail.AskRequest.{AskRequest}
pub use Rattle.tp_types.specs.declared.mail.Body.{Body}
pub use Rattle.tp_types.specs.declared.mail.DecideRequest.{DecideRequest}
pub use Rattle.tp_types.specs.declared.mail.DoneReply.{DoneReply}
pub use Rattle.tp_types.specs.declared.mail.InquireRequest.{InquireRequest}
pub use Rattle.tp_types.specs.declared.mail.Letter.{Letter}
pub use Rattle.tp_types.specs.declared.mail.Mail.{Mail}
pub use Rattle.tp_types.specs.declared.mail.NewestReply.{NewestReply}
pub use Rattle.tp_types.specs.declared.mail.PrepareRequest.{PrepareRequest}
pub use Rattle.tp_types.specs.declared.mail.ProbeRequest.{ProbeRequest}
pub use Rattle.tp_types.specs.declared.mail.PushNotice.{PushNotice}
pub use Rattle.tp_types.specs.declared.mail.QueryRequest.{QueryRequest}
pub use Rattle.tp_types.specs.declared.mail.Reaction.{Reaction}
pub use Rattle.tp_types.specs.declared.mail.TellReply.{TellReply}
pub use Rattle.tp_types.specs.declared.mail.ValidateRequest.{ValidateRequest}
pub use Rattle.tp_types.specs.declared.mail.VerdictsReply.{VerdictsReply}
pub use Rattle.tp_types.specs.declared.mail.Vote.{Vote}
pub use Rattle.tp_types.specs.declared.mail.VoteReply.{VoteReply}
pub use Rattle.tp_types.specs.declared.name.Text.{Text}
pub use Rattle.tp_types.specs.declared.policy.Action.{Action}
pub use Rattle.tp_types.specs.declared.policy.Cond.{Cond}
pub use Rattle.tp_types.specs.declared.policy.Op.{Op}
pub use Rattle.tp_types.specs.declared.policy.Pattern.{Pattern}
pub use Rattle.tp_types.specs.declared.policy.Policy.{Policy}
pub use Rattle.tp_types.specs.declared.policy.Rule.{Rule}
pub use Rattle.tp_types.specs.declared.policy.Value.{Value}
pub use Rattle.tp_types.specs.declared.records.Cause.{Cause}
pub use Rattle.tp_types.specs.declared.records.CommitRecord.{CommitRecord}
pub use Rattle.tp_types.specs.declared.records.Decided.{Decided}
pub use Rattle.tp_types.specs.declared.records.Decision.{Decision}
pub use Rattle.tp_types.specs.declared.records.Deed.{Deed}
pub use Rattle.tp_types.specs.declared.records.Denied.{Denied}
pub use Rattle.tp_types.specs.declared.records.Died.{Died}
pub use Rattle.tp_types.specs.declared.records.Instance.{Instance}
pub use Rattle.tp_types.specs.declared.records.Met.{Met}
pub use Rattle.tp_types.specs.declared.records.Newer.{Newer}
pub use Rattle.tp_types.specs.declared.records.No.{No}
pub use Rattle.tp_types.specs.declared.records.OutOfRange.{OutOfRange}
pub use Rattle.tp_types.specs.declared.records.Outcome.{Outcome}
pub use Rattle.tp_types.specs.declared.records.Prepared.{Prepared}
pub use Rattle.tp_types.specs.declared.records.Reading.{Reading}
pub use Rattle.tp_types.specs.declared.records.Record.{Record}
pub use Rattle.tp_types.specs.declared.records.Settled.{Settled}
pub use Rattle.tp_types.specs.declared.records.Staple.{Staple}
pub use Rattle.tp_types.specs.declared.records.Told.{Told}
pub use Rattle.tp_types.specs.declared.records.Verdict.{Verdict}
pub use Rattle.tp_types.specs.declared.scenario.Actor.{Actor}
pub use Rattle.tp_types.specs.declared.scenario.Admin.{Admin}
pub use Rattle.tp_types.specs.declared.scenario.Credential.{Credential}
pub use Rattle.tp_types.specs.declared.scenario.Cut.{Cut}
pub use Rattle.tp_types.specs.declared.scenario.Item.{Item}
pub use Rattle.tp_types.specs.declared.scenario.Level.{Level}
pub use Rattle.tp_types.specs.declared.scenario.Operand.{Operand}
pub use Rattle.tp_types.specs.declared.scenario.Query.{Query}
pub use Rattle.tp_types.specs.declared.scenario.Scenario.{Scenario}
pub use Rattle.tp_types.specs.declared.scenario.Scheme.{Scheme}
pub use Rattle.tp_types.specs.declared.scenario.ServerDecl.{ServerDecl}
pub use Rattle.tp_types.specs.declared.scenario.Step.{Step}
pub use Rattle.tp_types.specs.declared.scenario.Term.{Term}
pub use Rattle.tp_types.specs.declared.scenario.Transaction.{Transaction}
pub use Rattle.tp_types.specs.declared.fact.What.TheVariants as what
pub use Rattle.tp_types.specs.declared.mail.Answer.TheVariants as answer
pub use Rattle.tp_types.specs.declared.mail.Body.TheVariants as body
pub use Rattle.tp_types.specs.declared.mail.Vote.TheVariants as vote
pub use Rattle.tp_types.specs.declared.policy.Action.TheVariants as action
pub use Rattle.tp_types.specs.declared.policy.Cond.TheVariants as cond
pub use Rattle.tp_types.specs.declared.policy.Op.TheVariants as op
pub use Rattle.tp_types.specs.declared.policy.Pattern.TheVariants as pattern
pub use Rattle.tp_types.specs.declared.policy.Value.TheVariants as value
pub use Rattle.tp_types.specs.declared.records.Cause.TheVariants as cause
pub use Rattle.tp_types.specs.declared.records.Decision.TheVariants as decision
pub use Rattle.tp_types.specs.declared.records.No.TheVariants as no
pub use Rattle.tp_types.specs.declared.records.Outcome.TheVariants as outcome
pub use Rattle.tp_types.specs.declared.records.Record.TheVariants as log
pub use Rattle.tp_types.specs.declared.scenario.Actor.TheVariants as actor
pub use Rattle.tp_types.specs.declared.scenario.Level.TheVariants as level
pub use Rattle.tp_types.specs.declared.scenario.Operand.TheVariants as operand
pub use Rattle.tp_types.specs.declared.scenario.Query.TheVariants as query
pub use Rattle.tp_types.specs.declared.scenario.Scheme.TheVariants as scheme
pub use Rattle.tp_types.specs.declared.scenario.Step.TheVariants as step
