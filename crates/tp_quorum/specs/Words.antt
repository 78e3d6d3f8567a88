-- The types of values, and their variants, passed on for one line of imports: a type by its name, and its variants behind a word.
pub use Rattle.tp_types.specs.declared.ids.AdminId.{AdminId}
pub use Rattle.tp_types.specs.declared.ids.Version.{Version}
pub use Rattle.tp_types.specs.declared.records.Record.{Record}
pub use Rattle.tp_types.specs.declared.records.Record.TheVariants as log
pub use Rattle.tp_types.specs.declared.records.Told.{Told}
pub use Rattle.tp_types.specs.declared.scenario.Cut.{Cut}
pub use Rattle.tp_quorum.specs.declared.types.Answer.{Answer}
pub use Rattle.tp_quorum.specs.declared.types.Answer.TheVariants as answer
pub use Rattle.tp_quorum.specs.declared.types.Heard.{Heard}
pub use Rattle.tp_quorum.specs.declared.types.Operation.{Operation}
pub use Rattle.tp_quorum.specs.declared.types.Phase.{Phase}
pub use Rattle.tp_quorum.specs.declared.types.Phase.TheVariants as phase
pub use Rattle.tp_quorum.specs.declared.types.QBody.{QBody}
pub use Rattle.tp_quorum.specs.declared.types.QBody.TheVariants as body
pub use Rattle.tp_quorum.specs.declared.types.QError.{QError}
pub use Rattle.tp_quorum.specs.declared.types.QError.TheVariants as error
pub use Rattle.tp_quorum.specs.declared.types.QFact.{QFact}
pub use Rattle.tp_quorum.specs.declared.types.QMail.{QMail}
pub use Rattle.tp_quorum.specs.declared.types.QStep.{QStep}
pub use Rattle.tp_quorum.specs.declared.types.QStep.TheVariants as step
pub use Rattle.tp_quorum.specs.declared.types.QWhat.{QWhat}
pub use Rattle.tp_quorum.specs.declared.types.QWhat.TheVariants as what
pub use Rattle.tp_quorum.specs.declared.types.Sizes.{Sizes}
