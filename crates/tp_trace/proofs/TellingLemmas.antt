-- What was told of a run, step by step.
use Rattle.std.proofs.Common.{◌≡◌, ◌∙◌, ℕ, List, [], ◌∷◌, ◌++◌, length, false, Option, Some, None, refl, sym, ap, subst, nat_lt, codes, unwrap_or}
use Rattle.std.proofs.lemmas.List.{append-nil, append_assoc}
use Rattle.tp_machine.proofs.basics.Machine.{steps_next}
use Rattle.tp_machine.specs.Machine.{Machine, State, after, after_step, after_steps, machine_after, opening}
use Rattle.tp_machine.specs.Moves.{logged, moved_by}
use Rattle.tp_machine.specs.Watches.{Heard, IsSeenAfter}
use Rattle.tp_machine.specs.WorldView.{Does, WorldView}
use Rattle.tp_model.specs.Words.{Record, Scenario, Step}
use Rattle.tp_trace.proofs.BlockLemmas.{block_is}
use Rattle.tp_trace.proofs.LineLemmas.{lines_append}
use Rattle.tp_trace.specs.Blocks.{block, blocks, trace_text}
use Rattle.tp_trace.specs.Lines.{Line, lines_text}
use Rattle.tp_trace.specs.Telling.{Awaits, HasBegun, Hears, IsTraceOf, Tells}
use Rattle.tp_trace.specs.declared.blocks.Noted.{Noted}
use Rattle.tp_trace.specs.declared.telling.Telling.{Telling}
use Rattle.tp_trace.specs.mirrors.Noted.{begun, lines_from, noted_of}

-- ---- the trace of a step more

blocks_more : (sc : Scenario) (listed : ℕ) (m : Machine) (steps : List Step) (taken : Step)
    → blocks sc listed m (steps ++ taken ∷ []) ≡ blocks sc listed m steps ++ block sc (nat_lt (length (after_steps sc m steps).state.steps) listed) (after_steps sc m steps) taken
blocks_more sc listed m [] taken = append-nil (block sc (nat_lt (length m.state.steps) listed) m taken)
blocks_more sc listed m (first ∷ steps) taken =
    let here = block sc (nat_lt (length m.state.steps) listed) m first in
    let mid = after_step sc m first in
    ap (λ (lines : List Line). here ++ lines) (blocks_more sc listed mid steps taken)
    ∙ sym (append_assoc here (blocks sc listed mid steps) (block sc (nat_lt (length (after_steps sc mid steps).state.steps) listed) (after_steps sc mid steps) taken))

-- the trace of some steps and of one behind them
trace_more : (sc : Scenario) (steps : List Step) (m : Machine) (taken : Step) → m ≡ after sc steps
    → trace_text sc (steps ++ taken ∷ []) ≡ trace_text sc steps ++ lines_text (block sc (nat_lt (length m.state.steps) (length sc.steps)) m taken)
trace_more sc steps m taken reached =
    let count = length sc.steps in
    let last = block sc (nat_lt (length (after sc steps).state.steps) count) (after sc steps) taken in
    let front = blocks sc count (opening sc) steps in
    ap (λ (lines : List Line). codes "trace 1\n" ++ lines_text lines) (blocks_more sc count (opening sc) steps taken)
    ∙ (ap (λ (text : List ℕ). codes "trace 1\n" ++ text) (lines_append front last)
    ∙ (sym (append_assoc (codes "trace 1\n") (lines_text front) (lines_text last))
    ∙ ap (λ (at : Machine). trace_text sc steps ++ lines_text (block sc (nat_lt (length at.state.steps) count) at taken)) (sym reached)))

-- ---- what was heard

-- what is so of who heard of what the step has its actor force
pub record HasAll (before now : Telling) (forced : Option Record) : Type 0 where
  pub was : before.lost ≡ false
  pub out_is : now.out ≡ before.out
  pub noted_is : now.noted ≡ before.noted
  pub forced_is : before.forced ≡ None → now.forced ≡ forced

heard_all : (before now : Telling) (forced : Option Record) → Heard Hears before forced now → now.lost ≡ false → HasAll before now forced
heard_all before now None same kept = record {
  was = sym (ap (λ (t : Telling). t.lost) same) ∙ kept;
  out_is = ap (λ (t : Telling). t.out) same;
  noted_is = ap (λ (t : Telling). t.noted) same;
  forced_is = λ none. ap (λ (t : Telling). t.forced) same ∙ none;
}
heard_all before now (Some forced) heard kept =
    let h = heard kept in
    record { was = h.was; out_is = h.out_is; noted_is = h.noted_is; forced_is = λ _. h.forced_is }

-- ---- once the step is done

some_noted : (x y : Noted) → Some x ≡ Some y → x ≡ y
some_noted x y e = ap (λ (o : Option Noted). unwrap_or o x) e

-- what was noted is there
pub is_noted : (now : Telling) (world : WorldView) (taken : Step) → IsSeenAfter Awaits Hears now world taken → now.lost ≡ false → now.noted ≡ None → ⊥
is_noted now world taken seen kept none =
    let old = seen.old in
    let all = heard_all seen.before now (logged old.scenario old.machine.state taken) seen.heard kept in
    let begun = seen.awaited all.was in
    let both : Some (noted_of old.scenario old.machine.state taken (moved_by old.machine.state.mails taken)) ≡ None = sym (all.noted_is ∙ begun.noted_is) ∙ none in
    absurd (cc)

-- what was put behind it makes the trace of the steps with this one
pub told_after : (now : Telling) (world : WorldView) (taken : Step) (noted : Noted) (text : List ℕ) → IsSeenAfter Awaits Hears now world taken → now.lost ≡ false → now.noted ≡ Some noted
    → text ≡ now.out.items ++ lines_text (lines_from world.scenario noted now.forced world.machine.state) → IsTraceOf world text
told_after now world taken noted text seen kept noted_is put =
    let old = seen.old in
    let sc = old.scenario in
    let w = old.machine.state in
    let forced = logged sc w taken in
    let all = heard_all seen.before now forced seen.heard kept in
    let h = seen.awaited all.was in
    let did = seen.did in
    let listed = nat_lt (length w.steps) (length sc.steps) in
    let wanted = noted_of sc w taken (moved_by w.mails taken) in
    let first = lines_text (begun sc listed w taken) in
    let next = machine_after sc old.machine taken in
    let noted_wanted : noted ≡ wanted = some_noted noted wanted (sym noted_is ∙ all.noted_is ∙ h.noted_is) in
    let items : now.out.items ≡ h.front ++ first = ap (λ o. o.items) all.out_is ∙ h.begins in
    let steps : world.machine.state.steps ≡ w.steps ++ taken ∷ [] = ap (λ (v : WorldView). v.machine.state.steps) did.now ∙ steps_next sc old.machine taken in
    put
    ∙ (ap (λ (v : WorldView). now.out.items ++ lines_text (lines_from v.scenario noted now.forced v.machine.state)) did.now
    ∙ (ap (λ (n : Noted). now.out.items ++ lines_text (lines_from sc n now.forced next.state)) noted_wanted
    ∙ (ap (λ (f : Option Record). now.out.items ++ lines_text (lines_from sc wanted f next.state)) (all.forced_is h.unheard)
    ∙ (ap (λ (l : List ℕ). l ++ lines_text (lines_from sc wanted forced next.state)) items
    ∙ (append_assoc h.front first (lines_text (lines_from sc wanted forced next.state))
    ∙ (ap (λ (l : List ℕ). h.front ++ l) (block_is sc old.machine taken listed did.not_refused)
    ∙ (ap (λ (l : List ℕ). l ++ lines_text (block sc listed old.machine taken)) h.told
    ∙ (sym (trace_more sc w.steps old.machine taken h.reached)
    ∙ (ap (trace_text sc) (sym steps)
    ∙ ap (λ (v : WorldView). trace_text v.scenario world.machine.state.steps) (sym did.now))))))))))

-- ---- before the first step

pub told_none : (world : WorldView) (text : List ℕ) → world.machine.state.steps ≡ [] → text ≡ codes "trace 1\n" → IsTraceOf world text
told_none world text none is = is ∙ ap (trace_text world.scenario) (sym none)
