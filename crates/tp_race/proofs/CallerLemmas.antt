-- What a caller's part has when the caller has taken a mail, delivered it, or done a command.
use Rattle.std.proofs.Common.{◌≡◌, ℕ, ◌+◌, ◌<◌, List, [], ◌∷◌, ◌++◌, length, map, take, drop, get_or, zero, suc, take-append-drop, drop-cons, refl, sym, ap, ◌∙◌, subst, append-nil, inl, inr, arith}
use Rattle.std.proofs.lemmas.Bool.Decides.{nat_tests}
use Rattle.std.proofs.lemmas.List.{take_more}
use Rattle.std.proofs.lemmas.List.Concat.{flat_map-append}
use Rattle.std.proofs.lemmas.List.Elements.{filter-append}
use Rattle.std.specs.Prelude.{◌==◌, Bool, true, false, Option, Some, None, Err, IsErrOf, if◌then◌else◌, not, nat_lt, slice_get}
use Rattle.atomic_table.specs.Seated.{TableId}
use Rattle.tp_model.specs.Words.step
use Rattle.tp_model.specs.Words.{Mail, Scenario, Step}
use Rattle.tp_types.specs.Each.{Each}
use Rattle.tp_machine.specs.declared.error.StepError.{StepError}
use Rattle.tp_machine.specs.declared.error.StepError.TheVariants as error
use Rattle.tp_machine.specs.Machine.{missing_mail, refusal}
use Rattle.tp_wire.specs.declared.view.Entry.{Entry}
use Rattle.tp_wire.specs.declared.view.Part.{Part}
use Rattle.tp_wire.specs.declared.view.View.{View}
use Rattle.tp_wire.specs.Calls.{IsTaken}
use Rattle.tp_wire.specs.Closing.{own}
use Rattle.tp_wire.specs.Entries.{mails_in, sent_in, steps_in}
use Rattle.tp_wire.specs.History.{IsPart, Misses, names, numbers_of, one_if, times}
use Rattle.tp_wire.specs.Passes.{Known, fresh_pass, moved, with_mail}
use Rattle.tp_wire.proofs.EntryLemmas.{length-mails, sent_begins, steps-more}
use Rattle.tp_cluster.specs.declared.error.ClusterError.{ClusterError}
use Rattle.tp_cluster.specs.declared.error.ClusterError.TheVariants as cluster
use Rattle.tp_cluster.specs.Calls.{IsAnswer, IsCaller, IsDone, IsOwn, IsRefused}
use Rattle.tp_cluster.specs.Runs.{actors_of, state_at}
use Rattle.tp_cluster.proofs.RunLemmas.{runs}
use Rattle.tp_race.specs.Callers.{HasEnded, IsAt, commands, deliveries, is_delivery, mail_of, script_at, script_or, scripts_of}
use Rattle.tp_race.specs.Commands.{HasTaken, HasWorked, IsCommand, IsOfCaller, StaysAt}

-- ---- the entries of a part

missed : (number : ℕ) (more : List Entry) → Each (Misses number) more → own number more ≡ []
missed number [] none = refl
missed number (x ∷ more) none =
    let off : names number x ≡ false = ap (nat_lt 0) none.0 in
    rw off (missed number more none.1)

-- those of the part are those of the history up to which it goes
own_upto : (log : List Entry) (p : Part) → IsPart log p → own p.number log ≡ own p.number p.upto
own_upto log p h =
    ap (own p.number) (sym h.1)
    ∙ (filter-append (names p.number) p.upto h.0
    ∙ (ap (λ (l : List Entry). own p.number p.upto ++ l) (missed p.number h.0 h.2) ∙ append-nil (own p.number p.upto)))

-- and one more where a further entry names it
own_more : (log : List Entry) (e : Entry) (p : Part) → IsPart log p → names p.number e ≡ true → own p.number (log ++ e ∷ []) ≡ own p.number p.upto ++ e ∷ []
own_more log e p h named =
    filter-append (names p.number) log (e ∷ [])
    ∙ (ap (λ (b : Bool). own p.number log ++ (if b then e ∷ [] else [])) named
    ∙ ap (λ (l : List Entry). l ++ e ∷ []) (own_upto log p h))

first_named : (number other : ℕ) → nat_lt 0 (times number (number ∷ other ∷ [])) ≡ true
first_named number other =
    let here : (number == number) ≡ true = grind (arith, nat_tests) in
    let one : one_if (number == number) ≡ 1 = ap one_if here in
    let some : 0 < times number (number ∷ other ∷ []) = omega (arith, one) in
    grind (arith, nat_tests, some)

-- the steps of a caller's part after a step of its own
grown : (sc : Scenario) (v w : View) (taken : Step) (place : ℕ) (p : Part) → v.parts ≡ p ∷ [] → IsOwn sc v taken place w
    → steps_in (own p.number w.seen) ≡ steps_in (own p.number p.upto) ++ taken ∷ []
grown sc v w taken place p one o =
    let numbers : o.entry.numbers ≡ p.number ∷ o.actor ∷ [] = o.numbers ∙ ap (λ (ps : List Part). numbers_of ps ++ o.actor ∷ []) one in
    let named : names p.number o.entry ≡ true = ap (λ (ns : List ℕ). nat_lt 0 (times p.number ns)) numbers ∙ first_named p.number o.actor in
    let current : IsPart o.before p = (subst (Each (IsPart o.before)) one o.current).0 in
    ap (λ (l : List Entry). steps_in (own p.number l)) o.seen
    ∙ (ap steps_in (own_more o.before o.entry p current named)
    ∙ (steps-more (own p.number p.upto) o.entry
    ∙ ap (λ (s : Step). steps_in (own p.number p.upto) ++ s ∷ []) o.step))

-- ---- commands and deliveries

commands_more : (steps : List Step) (taken : Step) → is_delivery taken ≡ false → commands (steps ++ taken ∷ []) ≡ commands steps ++ taken ∷ []
commands_more steps taken e =
    filter-append (λ (s : Step). not (is_delivery s)) steps (taken ∷ [])
    ∙ ap (λ (b : Bool). commands steps ++ (if not b then taken ∷ [] else [])) e

commands_same : (steps : List Step) (mail : ℕ) → commands (steps ++ step.Deliver mail ∷ []) ≡ commands steps
commands_same steps mail = filter-append (λ (s : Step). not (is_delivery s)) steps (step.Deliver mail ∷ []) ∙ append-nil (commands steps)

deliveries_more : (steps : List Step) (taken : Step) → deliveries (steps ++ taken ∷ []) ≡ deliveries steps ++ mail_of taken
deliveries_more steps taken = flat_map-append mail_of steps (taken ∷ []) ∙ ap (λ (l : List ℕ). deliveries steps ++ l) (append-nil (mail_of taken))

deliveries_same : (steps : List Step) (taken : Step) → mail_of taken ≡ [] → deliveries (steps ++ taken ∷ []) ≡ deliveries steps
deliveries_same steps taken none = deliveries_more steps taken ∙ (ap (λ (l : List ℕ). deliveries steps ++ l) none ∙ append-nil (deliveries steps))

no_delivery : (sc : Scenario) (taken : Step) → IsCommand sc taken → (is_delivery taken ≡ false) × (mail_of taken ≡ [])
no_delivery sc (step.Submit txn) h = (refl, refl)
no_delivery sc (step.Publish admin) h = (refl, refl)
no_delivery sc (step.Push admin server) h = (refl, refl)
no_delivery sc (step.Revoke cred) h = (refl, refl)
no_delivery sc (step.Tick by) h = (refl, refl)
no_delivery sc (step.Deliver mail) h = absurd h
no_delivery sc (step.Lose mail) h = (refl, refl)
no_delivery sc (step.Crash who cut) h = (refl, refl)
no_delivery sc (step.Boot who) h = (refl, refl)
no_delivery sc (step.Timer txn) h = (refl, refl)

-- ---- a caller's part

-- as it is opened
pub fresh_begins : (sc : Scenario) (table : TableId) (caller : ℕ) → IsAt sc caller [] (fresh_pass table (actors_of sc + caller)).view
fresh_begins sc table caller = record {
  part = record { number = actors_of sc + caller; upto = []; took = [] };
  one = refl;
  number = refl;
  commanded = refl;
  delivered = refl;
}

pub at_caller : (sc : Scenario) (caller : ℕ) (done : List Step) (v : View) → IsAt sc caller done v → IsCaller sc v
at_caller sc caller done v a = record { part = a.part; one = a.one; number = let is = a.number in omega (arith, is) }

-- the same parts
pub at_same : (sc : Scenario) (caller : ℕ) (done : List Step) (v w : View) → w.parts ≡ v.parts → IsAt sc caller done v → IsAt sc caller done w
at_same sc caller done v w same a = record { part = a.part; one = same ∙ a.one; number = a.number; commanded = a.commanded; delivered = a.delivered }

-- a command more
pub at_more : (sc : Scenario) (caller place : ℕ) (done : List Step) (taken : Step) (v w : View) → IsCommand sc taken → IsAt sc caller done v → IsOwn sc v taken place w → IsAt sc caller (done ++ taken ∷ []) w
at_more sc caller place done taken v w command a o =
    let g = grown sc v w taken place a.part a.one o in
    let steps = steps_in (own a.part.number a.part.upto) in
    let kind = no_delivery sc taken command in
    record {
      part = moved w.seen a.part;
      one = o.parts ∙ ap (map (moved w.seen)) a.one;
      number = a.number;
      commanded = ap commands g ∙ (commands_more steps taken kind.0 ∙ ap (λ (l : List Step). l ++ taken ∷ []) a.commanded);
      delivered = ap deliveries g ∙ (deliveries_same steps taken kind.1 ∙ a.delivered);
    }

-- a mail taken
pub at_taken : (sc : Scenario) (caller mail : ℕ) (done : List Step) (v w : View) → IsAt sc caller done v → IsTaken v mail w → HasTaken sc caller done mail w
at_taken sc caller mail done v w a t = record {
  part = with_mail mail a.part;
  one = t.parts_are ∙ ap (map (with_mail mail)) a.one;
  number = a.number;
  commanded = a.commanded;
  undelivered = ap (λ (l : List ℕ). l ++ mail ∷ []) a.delivered;
  sent = t.sent;
}

-- and delivered
pub at_delivered : (sc : Scenario) (caller mail place : ℕ) (done : List Step) (v w : View) → HasTaken sc caller done mail v → IsOwn sc v (step.Deliver mail) place w → IsAt sc caller done w
at_delivered sc caller mail place done v w a o =
    let g = grown sc v w (step.Deliver mail) place a.part a.one o in
    let steps = steps_in (own a.part.number a.part.upto) in
    record {
      part = moved w.seen a.part;
      one = o.parts ∙ ap (map (moved w.seen)) a.one;
      number = a.number;
      commanded = ap commands g ∙ (commands_same steps mail ∙ a.commanded);
      delivered = ap deliveries g ∙ (deliveries_more steps (step.Deliver mail) ∙ a.undelivered);
    }

-- ---- refusals

found_mail : (mails : List Mail) (mail : ℕ) → mail < length mails → missing_mail mails mail ≡ None
found_mail mails mail less =
    let here : nat_lt mail (length mails) ≡ true = grind (arith, nat_tests) in
    ap (λ (b : Bool). if b then None else Some (error.NoSuchMail mail (length mails))) here

-- a mail that was sent in what the pass had seen is delivered
pub never_refused : (sc : Scenario) (mail : ℕ) (why : StepError) (v w : View) → mail < sent_in v.seen → IsRefused sc v (step.Deliver mail) why w → ⊥
never_refused sc mail why v w sent r =
    let here = sent_begins w.seen v.seen r.begins in
    let count = length-mails w.seen in
    let run : (state_at sc w.seen).mails ≡ mails_in w.seen = (runs sc w.seen r.lawful).mails in
    let none : refusal (state_at sc w.seen) (step.Deliver mail) ≡ None =
    ap (λ (ms : List Mail). missing_mail ms mail) run ∙ found_mail (mails_in w.seen) mail (omega (arith, sent, here, count)) in
    let some : refusal (state_at sc w.seen) (step.Deliver mail) ≡ Some why = r.reason in
    absurd (cc (none, some))

-- a command is refused
pub at_refused : (sc : Scenario) (caller : ℕ) (script done rest : List Step) (next : Step) (why : StepError) (v w : View) → script_at sc caller ≡ script → script ≡ done ++ next ∷ rest
    → IsAt sc caller done v → IsRefused sc v next why w → HasEnded sc caller w
at_refused sc caller script done rest next why v w its is a r = inr
    (record {
      done = done;
      next = next;
      rest = rest;
      script = its ∙ is;
      at = at_same sc caller done v w r.parts a;
      why = why;
      lawful = r.lawful;
      refused = r.reason;
    })

-- ---- scripts

split_at : (script : List Step) (n : ℕ) (d : Step) → n < length script → script ≡ take n script ++ get_or script n d ∷ drop (n + 1) script
split_at script n d less =
    let one : suc n ≡ n + 1 = omega arith in
    sym (take-append-drop n script)
    ∙ ap (λ (l : List Step). take n script ++ l) (drop-cons script n d less ∙ ap (λ (k : ℕ). get_or script n d ∷ drop k script) one)

pub each_index : {A : Type 0} (P : A → Type 0) (xs : List A) (n : ℕ) (d : A) → Each P xs → n < length xs → P (get_or xs n d)
each_index P [] n d h less = absurd (omega arith)
each_index P (x ∷ xs) zero d h less = h.0
each_index P (x ∷ xs) (suc n) d h less = each_index P xs n d h.1 (omega arith)

-- one step more is done, and the mails after it are delivered
pub next_done : (sc : Scenario) (caller n place : ℕ) (items : List Step) (d : Step) (old mid new : Known) → n < length items → IsCommand sc (get_or items n d)
    → (old.given_up ≡ false → IsAt sc caller (take n items) old.view) → IsDone sc old (get_or items n d) place mid → (new.given_up ≡ false → StaysAt sc mid new)
    → new.given_up ≡ false → IsAt sc caller (take (n + 1) items) new.view
next_done sc caller n place items d old mid new less command at done stays live =
    let more = at_more sc caller place (take n items) (get_or items n d) old.view mid.view command (at done.was_live) done.own in
    (stays live).at caller (take (n + 1) items) (subst (λ (l : List Step). IsAt sc caller l mid.view) (sym (take_more items n d less)) more)

-- a step that is not done ends the script
pub stopped : (sc : Scenario) (table : TableId) (caller n : ℕ) (script items : List Step) (d : Step) (e : ClusterError) (old new : Known) → script_at sc caller ≡ script → items ≡ script → n < length items
    → (old.given_up ≡ false → IsAt sc caller (take n items) old.view) → new.table ≡ table → (IsErrOf {T = ℕ} (Err e) cluster.NoMemory → new.given_up ≡ true)
    → IsAnswer sc old (get_or items n d) (Err e) new → HasWorked sc table caller new
stopped sc table caller n script items d (cluster.Refused why) old new its is less at site memory answer = record {
  site = site;
  ended = λ live. at_refused sc caller items (take n items) (drop (n + 1) items) (get_or items n d) why old.view new.view (its ∙ sym is) (split_at items n d less) (at answer.was_live) answer.refused;
}
stopped sc table caller n script items d cluster.NoMemory old new its is less at site memory answer = record {
  site = site;
  ended = λ live. let up : new.given_up ≡ true = memory refl in absurd (cc);
}

-- the script is done
pub has_run : (sc : Scenario) (table : TableId) (caller : ℕ) (script : List Step) (p : Known) → script_at sc caller ≡ script → p.table ≡ table → (p.given_up ≡ false → IsAt sc caller script p.view) → HasWorked sc table caller p
has_run sc table caller script p its site done = record { site = site; ended = λ live. inl (subst (λ (s : List Step). IsAt sc caller s p.view) (sym its) (done live)) }

-- the script of a caller, and of one who has none
pub script_found : (sc : Scenario) (scripts : List (List Step)) (caller : ℕ) (found : Option (List Step)) → scripts ≡ scripts_of sc → found ≡ slice_get scripts caller → script_at sc caller ≡ script_or found
script_found sc scripts caller found same is = ap script_or (ap (λ (ss : List (List Step)). slice_get ss caller) (sym same) ∙ sym is)

-- ---- fresh passes

pub fresh_at_none : (sc : Scenario) (table : TableId) (caller : ℕ) (p : Known) → p ≡ fresh_pass table (actors_of sc + caller) → IsAt sc caller [] p.view
fresh_at_none sc table caller p is = subst (λ (k : Known). IsAt sc caller [] k.view) (sym is) (fresh_begins sc table caller)

pub fresh_of_caller : (sc : Scenario) (table : TableId) (caller : ℕ) (p : Known) → p ≡ fresh_pass table (actors_of sc + caller) → IsOfCaller sc table p
fresh_of_caller sc table caller p is = record {
  site = ap (λ (k : Known). k.table) is;
  caller = λ live. at_caller sc caller [] p.view (fresh_at_none sc table caller p is);
}
