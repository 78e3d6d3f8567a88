-- What a call answers of its pass, once that has seen the whole history.
use Rattle.std.proofs.Common.{◌≡◌, ℕ, ◌<◌, ◌≤◌, List, [], ◌∷◌, ◌++◌, length, map, refl, sym, ap, ◌∙◌, subst, arith}
use Rattle.std.proofs.lemmas.Bool.Decides.{nat_tests}
use Rattle.std.specs.Prelude.{Option, Some, None, Result, Ok, Err, Bool, true, false, nat_lt, slice_get, if◌then◌else◌}
use Rattle.atomic_table.specs.Seated.{TableId}
use Rattle.tp_model.specs.Words.step
use Rattle.tp_model.specs.Words.{Mail, Scenario, Step}
use Rattle.tp_types.specs.Each.{Each}
use Rattle.tp_types.proofs.EachLemmas.{missing}
use Rattle.tp_machine.specs.declared.error.StepError.{StepError}
use Rattle.tp_machine.specs.declared.error.StepError.TheVariants as error
use Rattle.tp_machine.specs.Machine.{missing_mail, refusal}
use Rattle.tp_wire.specs.declared.view.Entry.{Entry}
use Rattle.tp_wire.specs.declared.view.Part.{Part}
use Rattle.tp_wire.specs.declared.view.View.{View}
use Rattle.tp_wire.specs.declared.book.Lookup.{Lookup}
use Rattle.tp_wire.specs.declared.book.Lookup.TheVariants as lookup
use Rattle.tp_wire.specs.Calls.{IsLookup, KeepsParts, SeesAll}
use Rattle.tp_wire.specs.Entries.{mails_in}
use Rattle.tp_wire.specs.History.{StartsWith, IsPart, Lawful, numbers_of}
use Rattle.tp_wire.specs.Passes.{Known, moved, with_mail}
use Rattle.tp_wire.proofs.ListLemmas.{starts_trans}
use Rattle.tp_cluster.specs.declared.error.ClusterError.{ClusterError}
use Rattle.tp_cluster.specs.declared.error.ClusterError.TheVariants as cluster
use Rattle.tp_cluster.specs.Calls.{IsAnswer, IsCaller, IsDone, IsOwn, IsReady, IsRefused, IsTurned}
use Rattle.tp_cluster.specs.Runs.{IsNext, actors_of, state_at}
use Rattle.tp_cluster.proofs.RunLemmas.{runs}

-- a caller's pass is one as long as its parts stay
pub same_caller : (sc : Scenario) (v w : View) → w.parts ≡ v.parts → IsCaller sc v → IsCaller sc w
same_caller sc v w same caller = record { part = caller.part; one = same ∙ caller.one; number = caller.number }

-- also where its part took a mail
pub taking_caller : (sc : Scenario) (v w : View) (mail : ℕ) → w.parts ≡ map (with_mail mail) v.parts → IsCaller sc v → IsCaller sc w
taking_caller sc v w mail same caller = record { part = with_mail mail caller.part; one = same ∙ ap (map (with_mail mail)) caller.one; number = caller.number }

pub one_part : (sc : Scenario) (v : View) → IsCaller sc v → length v.parts ≡ 1
one_part sc v caller = ap (length {A = Part}) caller.one

pub still_ready : (sc : Scenario) (table : TableId) (old new : Known) → IsReady sc table old → new.table ≡ old.table → new.given_up ≡ false → new.view.parts ≡ old.view.parts → IsReady sc table new
still_ready sc table old new ready site live parts = record { site = site ∙ ready.site; live = live; caller = same_caller sc old.view new.view parts ready.caller }

-- what is answered of a pass that has seen the whole history is answered of it as it was before that
pub answer_since : (sc : Scenario) (table : TableId) (old mid new : Known) (taken : Step) (r : Result ℕ ClusterError) → IsReady sc table old → SeesAll (IsNext sc) (actors_of sc) old.view mid.view
    → KeepsParts old.view mid.view → IsAnswer sc mid taken r new → IsAnswer sc old taken r new
answer_since sc table old mid new taken (Ok place) ready all keeps answer =
    let o = answer.own in
    record {
      was_live = ready.live;
      live = answer.live;
      own = record {
        before = o.before;
        entry = o.entry;
        step = o.step;
        place_is = o.place_is;
        seen = o.seen;
        lawful = o.lawful;
        begins = starts_trans o.before mid.view.seen old.view.seen o.begins all.begins;
        told = let t = all.told in let u = all.told_is in let w = o.told in omega (arith, t, u, w);
        current = subst (Each (IsPart o.before)) keeps.parts_are o.current;
        actor = o.actor;
        numbers = o.numbers ∙ ap (λ (ps : List Part). numbers_of ps ++ o.actor ∷ []) keeps.parts_are;
        parts = o.parts ∙ ap (map (moved new.view.seen)) keeps.parts_are;
        cleared = subst (λ (n : ℕ). n ≤ new.view.cleared) keeps.cleared_is o.cleared;
      };
      caller = answer.caller;
    }
answer_since sc table old mid new taken (Err (cluster.Refused why)) ready all keeps answer =
    let r = answer.refused in
    record {
      was_live = ready.live;
      live = answer.live;
      refused = record {
        reason = r.reason;
        lawful = r.lawful;
        begins = starts_trans new.view.seen mid.view.seen old.view.seen r.begins all.begins;
        told = let t = all.told in let u = all.told_is in let w = r.told in omega (arith, t, u, w);
        parts = r.parts ∙ keeps.parts_are;
        cleared = subst (λ (n : ℕ). n ≤ new.view.cleared) keeps.cleared_is r.cleared;
      };
      caller = answer.caller;
    }
answer_since sc table old mid new taken (Err cluster.NoMemory) ready all keeps answer = tt

no_more : (a b : ℕ) → b ≡ a → a ≤ b
no_more a b e = omega (arith, e)

below : (a b : ℕ) → nat_lt a b ≡ true → a < b
below a b e = grind (arith, nat_tests)

-- a number of no mail is not below their count
not_there : (mails : List Mail) (number : ℕ) (t : Bool) → nat_lt number (length mails) ≡ t → slice_get mails number ≡ None → t ≡ false
not_there mails number true e none = absurd (missing mails number (below number (length mails) e) none)
not_there mails number false e none = refl

not_sent : (mails : List Mail) (number count : ℕ) → slice_get mails number ≡ None → count ≡ length mails → missing_mail mails number ≡ Some (error.NoSuchMail number count)
not_sent mails number count none is =
    let no_mail : nat_lt number (length mails) ≡ false = not_there mails number (nat_lt number (length mails)) refl none in
    ap (λ (b : Bool). if b then None else Some (error.NoSuchMail number (length mails))) no_mail
    ∙ ap (λ (n : ℕ). Some (error.NoSuchMail number n)) (sym is)

pub missing_answer : (sc : Scenario) (table : TableId) (old new : Known) (number count : ℕ) (found : Lookup) → IsReady sc table old → new.given_up ≡ false
    → SeesAll (IsNext sc) (actors_of sc) old.view new.view → KeepsParts old.view new.view → IsLookup (mails_in new.view.seen) number found → found ≡ lookup.Missing count
    → IsTurned sc old (step.Deliver number) (error.NoSuchMail number count) new
missing_answer sc table old new number count found ready live all keeps looked same =
    let here : IsLookup (mails_in new.view.seen) number (lookup.Missing count) = subst (IsLookup (mails_in new.view.seen) number) same looked in
    let none : slice_get (mails_in new.view.seen) number ≡ None = here.0 in
    let is : count ≡ length (mails_in new.view.seen) = here.1 in
    record {
      was_live = ready.live;
      live = live;
      refused = record {
        reason = ap (λ (ms : List Mail). missing_mail ms number) (runs sc new.view.seen all.lawful).mails ∙ not_sent (mails_in new.view.seen) number count none is;
        lawful = all.lawful;
        begins = all.begins;
        told = all.told;
        parts = keeps.parts_are;
        cleared = no_more old.view.cleared new.view.cleared keeps.cleared_is;
      };
      caller = same_caller sc old.view new.view keeps.parts_are ready.caller;
    }
