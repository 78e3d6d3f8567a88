-- What was forced and told is the act of a row.
use Rattle.std.proofs.Common.{◌≡◌, ◌++◌, ◌∙◌, List, [], Some, Result, Ok, Err, ap, refl, subst, sym}
use Rattle.std.specs.Prelude.{IfOk, OnOk}
use Rattle.std.specs.Option.{option_map_or}
use Rattle.tp_types.specs.Effect.{Effect, Gives}
use Rattle.tp_types.specs.declared.mail.Reaction.{Reaction}
use Rattle.tp_model.specs.Words.{Cut, Record, What}
use Rattle.tp_machine.specs.declared.part.Act.{Act}
use Rattle.tp_machine.specs.mirrors.Acts.{down_part}
use Rattle.tp_machine.specs.Acts.{Acts, Boots}
use Rattle.tp_machine.specs.Parts.{Part}
use Rattle.tp_machine.specs.Machine.{acts_by, goes_down}
use Rattle.tp_actor_log.specs.Records.{cut_record, log_with}
use Rattle.tp_machine.proofs.basics.Crashes.{cut_acts, told_of}

part_with : {S : Type 0} → S → List Record → Part S
part_with state records = record { up = Some state; log = records }

pub acted : {S : Type 0} (fact : Record → List What) (own : List What) (old new : Part S) (kept : List Record) (effect : Effect S) (state : S) (reaction : Reaction) (happened : List What) → Gives effect state reaction
    → kept ≡ old.log → new ≡ record { up = Some state; log = log_with kept reaction.append } → happened ≡ own ++ option_map_or fact reaction.append []
    → Acts (acts_by fact own old.log effect) new (record { happened = happened; letters = reaction.letters })
unfolding part_with
acted {S} fact own old new kept effect state reaction happened gave same forced told = record {
  part_is = forced
      ∙ ap (λ (k : List Record). part_with state (log_with k reaction.append)) same
      ∙ ap (λ (s : S). part_with s (log_with old.log reaction.append)) gave.state_is
      ∙ ap (λ (r : Reaction). part_with effect.state (log_with old.log r.append)) gave.reaction_is;
  happened_is = told
      ∙ ap (λ (r : Reaction). own ++ option_map_or fact r.append []) gave.reaction_is
      ∙ ap (λ (t : List What). own ++ t) (sym (told_of fact old.log effect.reaction.append));
  letters_are = ap (λ (r : Reaction). r.letters) gave.reaction_is;
}

-- what a row gives, once it was forced and told
pub acted_by : {S E : Type 0} (fact : Record → List What) (own : List What) (old new : Part S) (kept : List Record) (effect : Effect S) (state : S) (reaction : Reaction) (result : Result Act E) → Gives effect state reaction
    → kept ≡ old.log → OnOk result (new ≡ record { up = Some state; log = log_with kept reaction.append })
    → IfOk result (λ act. act ≡ record { happened = own ++ option_map_or fact reaction.append []; letters = reaction.letters })
    → IfOk result (λ act. Acts (acts_by fact own old.log effect) new act)
unfolding part_with
acted_by fact own old new kept effect state reaction (Err _) gave same forced told = tt
acted_by fact own old new kept effect state reaction (Ok act) gave same forced told =
    subst (λ (a : Act). Acts (acts_by fact own old.log effect) new a) (sym told) (acted fact own old new kept effect state reaction _ gave same forced refl)

-- so is what was torn, of an actor that then goes down
pub torn_by : {S E : Type 0} (fact : Record → List What) (own : List What) (old new : Part S) (kept : List Record) (cut : Cut) (reaction wanted : Reaction) (result : Result Act E)
    → reaction ≡ wanted → kept ≡ old.log → OnOk result (new.log ≡ log_with kept (cut_record cut reaction.append))
    → IfOk result (λ act. act ≡ record { happened = own ++ option_map_or fact (cut_record cut reaction.append) []; letters = [] })
    → IfOk result (λ act. Acts (goes_down fact own old (cut_record cut wanted.append)) (down_part new) act)
torn_by fact own old new kept cut reaction wanted (Err _) gave same torn told = tt
torn_by fact own old new kept cut reaction wanted (Ok act) gave same torn told =
    subst (λ (r : Reaction). Acts (goes_down fact own old (cut_record cut r.append)) (down_part new) act) gave
    (cut_acts fact own old new (cut_record cut reaction.append) act
    (torn ∙ ap (λ (k : List Record). log_with k (cut_record cut reaction.append)) same)
    (ap (λ (a : Act). a.happened) told) (ap (λ (a : Act). a.letters) told))

-- and what was forced by an actor that then comes up
pub boot_by : {S : Type 0} (fact : Record → List What) (old new : Part S) (kept : List Record) (effect : Effect S) (state : S) (reaction : Reaction) (act : Act) → Gives effect state reaction
    → kept ≡ old.log → new.log ≡ log_with kept reaction.append
    → act ≡ record { happened = option_map_or fact reaction.append []; letters = reaction.letters }
    → Boots (acts_by fact [] old.log effect) new state act
unfolding part_with
boot_by {S} fact old new kept effect state reaction act gave same forced told =
    let did = acted fact [] old (record new { up = Some state }) kept effect state reaction _ gave same (ap (part_with state) forced) refl in
    subst (λ (a : Act). Boots (acts_by fact [] old.log effect) new state a) (sym told)
    (record { part_is = did.part_is; happened_is = did.happened_is; letters_are = did.letters_are })
