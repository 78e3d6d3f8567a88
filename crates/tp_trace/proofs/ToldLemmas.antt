-- What a report has of the lines of a trace: of those of facts just what it has of the facts, and nothing of the others.
use Rattle.std.proofs.Common.{◌≡◌, ◌∙◌, ℕ, ℤ, ◌+◌, List, [], ◌∷◌, ◌++◌, map, drop, length, refl, sym, ap, codes, decimal, Bool, true, false, Option, Some, None, if◌then◌else◌, slice_get, nat_lt, is_some}
use Rattle.std.proofs.lemmas.List.{append-nil, append_assoc, drop_at}
use Rattle.std.proofs.lemmas.Grind.{flat_map-append}
use Rattle.std.proofs.Math.Seq.{drop-length}
use Rattle.std.specs.List.{flat_map, list_any}
use Rattle.std.specs.Option.{option_map_or}
use Rattle.std.specs.Ordering.{int_eq}
use Rattle.tp_lock.specs.declared.entry.LockEntry.{LockEntry}
use Rattle.tp_machine.specs.Machine.{Machine, State, after, after_step, after_steps, ending_of, is_down, machine_after, opening, refusal}
use Rattle.tp_machine.specs.Moves.{logged, moved_by}
use Rattle.tp_machine.specs.Views.{server_at}
use Rattle.tp_model.specs.Ids.{same_version}
use Rattle.tp_model.specs.Words.{Actor, CommitRecord, Deed, Fact, Instance, ItemId, Mail, Record, Scenario, ServerId, Step, TxnId, Verdict, Version, What}
use Rattle.tp_model.specs.Words.actor
use Rattle.tp_model.specs.Words.decision
use Rattle.tp_model.specs.Words.step
use Rattle.tp_model.specs.Words.what
use Rattle.tp_report.proofs.TokenLemmas.{text_append}
use Rattle.tp_report.specs.ReportText.{below, commit_line, deed_line, deed_tokens, fact_tokens, instance_line, instance_tokens, instances_tokens, proof_line, proof_tokens, quiet_tokens, server_tokens, what_line, what_tokens}
use Rattle.tp_report.specs.Tokens.{text_of}
use Rattle.tp_server.specs.State.{Server}
use Rattle.tp_trace.specs.Blocks.{block, blocks, durable_lines, ended_if, fate, fate_lines, forced_or_torn, is_torn, leaves_commit, lines_between, mail_at, now_lines, server_now, state_lines, taken_or_gone}
use Rattle.tp_trace.specs.Laws.{TracesTellReports, told_by, told_of}
use Rattle.tp_trace.specs.Lines.{Line, line_of, mail_line, record_line}
use Rattle.tp_trace.specs.Seen.{changed_lines, free_if, free_line, frees_from, is_entry, is_of_entry, item_line, items_of, knows_from, knows_if, knows_line, left_lines, list_in, lock_if, lock_line, locks_from, seen_lines, seen_of, seen_up, value_if, values_from, values_to}
use Rattle.tp_trace.specs.Told.{all_told, because_lines, commit_because, deed_because, instance_because, instances_because, proof_because, told_lines}
use Rattle.tp_trace.specs.Why.{why_lines}
use Rattle.tp_trace.specs.declared.lines.Kind.TheVariants as kind
use Rattle.tp_trace.specs.declared.seen.Seen.{Seen}
use Rattle.tp_why.specs.Behind.{behind_lines}
use Rattle.tp_why.specs.Why as why

-- what a report has of lines
abbrev pub told : List Line → List ℕ
told lines = flat_map told_of lines

pub told_append : (front others : List Line) → told (front ++ others) ≡ told front ++ told others
told_append front others = flat_map-append told_of front others

-- ---- lines of which a report has nothing

abbrev IsSilent : List Line → Type 0
IsSilent lines = told lines ≡ []

both_silent : (front others : List Line) → IsSilent front → IsSilent others → IsSilent (front ++ others)
both_silent front others a b = told_append front others ∙ (ap (λ (t : List ℕ). t ++ told others) a ∙ b)

map_silent : {A : Type 0} (f : A → Line) (xs : List A) → ((x : A) → told_of (f x) ≡ []) → IsSilent (map f xs)
map_silent f [] h = refl
map_silent f (x ∷ xs) h = ap (λ (t : List ℕ). t ++ told (map f xs)) (h x) ∙ map_silent f xs h

flat_silent : {A : Type 0} (f : A → List Line) (xs : List A) → ((x : A) → IsSilent (f x)) → IsSilent (flat_map f xs)
flat_silent f [] h = refl
flat_silent f (x ∷ xs) h = both_silent (f x) (flat_map f xs) (h x) (flat_silent f xs h)

if_silent : (b : Bool) (line : Line) → told_of line ≡ [] → IsSilent (if b then [] else line ∷ [])
if_silent true line h = refl
if_silent false line h = ap (λ (t : List ℕ). t ++ []) h

front_told : (front others : List Line) (text : List ℕ) → told front ≡ text → IsSilent others → told (front ++ others) ≡ text
front_told front others text a b = told_append front others ∙ (ap (λ (t : List ℕ). t ++ told others) a ∙ (ap (λ (t : List ℕ). text ++ t) b ∙ append-nil text))

behind_told : (front others : List Line) (text : List ℕ) → IsSilent front → told others ≡ text → told (front ++ others) ≡ text
behind_told front others text a b = told_append front others ∙ (ap (λ (t : List ℕ). t ++ told others) a ∙ b)

-- ---- the lines of a fact

proofs_told : (sc : Scenario) (place : ℕ) (proofs : List Verdict) → told (map (proof_because sc place) proofs) ≡ text_of (flat_map (proof_tokens sc) proofs)
unfolding proof_tokens
proofs_told sc place [] = refl
proofs_told sc place (proof ∷ proofs) =
    ap (λ (t : List ℕ). (codes "  " ++ text_of (proof_line sc proof)) ++ t) (proofs_told sc place proofs)
    ∙ sym (text_append (proof_tokens sc proof) (flat_map (proof_tokens sc) proofs))

deeds_told : (sc : Scenario) (place : ℕ) (deeds : List Deed) → told (map (deed_because sc place) deeds) ≡ text_of (flat_map (deed_tokens sc) deeds)
deeds_told sc place [] = refl
deeds_told sc place (deed ∷ deeds) =
    ap (λ (t : List ℕ). (codes "  " ++ text_of (deed_line sc deed)) ++ t) (deeds_told sc place deeds)
    ∙ sym (text_append (deed_tokens sc deed) (flat_map (deed_tokens sc) deeds))

instance_told : (sc : Scenario) (place number : ℕ) (made : Instance) → told (instance_because sc place number made) ≡ text_of (instance_tokens sc number made)
unfolding instance_tokens
instance_told sc place number made =
    ap (λ (t : List ℕ). (codes "  " ++ text_of (instance_line number made.reading)) ++ t) (proofs_told sc place made.proofs)
    ∙ sym (text_append (below (instance_line number made.reading)) (flat_map (proof_tokens sc) made.proofs))

instances_told : (sc : Scenario) (place number : ℕ) (made : List Instance) → told (instances_because sc place number made) ≡ text_of (instances_tokens sc number made)
instances_told sc place number [] = refl
instances_told sc place number (first ∷ others) =
    told_append (instance_because sc place number first) (instances_because sc place (number + 1) others)
    ∙ ap (λ (t : List ℕ). t ++ told (instances_because sc place (number + 1) others)) (instance_told sc place number first)
    ∙ ap (λ (t : List ℕ). text_of (instance_tokens sc number first) ++ t) (instances_told sc place (number + 1) others)
    ∙ sym (text_append (instance_tokens sc number first) (instances_tokens sc (number + 1) others))

commit_told : (sc : Scenario) (place : ℕ) (held : CommitRecord) → told (commit_because sc place held) ≡ text_of (instances_tokens sc 1 held.instances ++ flat_map (deed_tokens sc) held.deeds)
commit_told sc place held =
    told_append (instances_because sc place 1 held.instances) (map (deed_because sc place) held.deeds)
    ∙ ap (λ (t : List ℕ). t ++ told (map (deed_because sc place) held.deeds)) (instances_told sc place 1 held.instances)
    ∙ ap (λ (t : List ℕ). text_of (instances_tokens sc 1 held.instances) ++ t) (deeds_told sc place held.deeds)
    ∙ sym (text_append (instances_tokens sc 1 held.instances) (flat_map (deed_tokens sc) held.deeds))

-- the first line and those below it are all
what_told : (sc : Scenario) (place : ℕ) (what : What) → text_of (what_line sc what) ++ told (because_lines sc place what) ≡ text_of (what_tokens sc what)
what_told sc place (what.Submitted txn) = append-nil _
what_told sc place (what.Published admin version) = append-nil _
what_told sc place (what.Revoked cred) = append-nil _
what_told sc place (what.Ticked by) = append-nil _
what_told sc place (what.Crashed who) = append-nil _
what_told sc place (what.Lost mail) = append-nil _
what_told sc place (what.Decided txn (decision.Commit held)) =
    ap (λ (t : List ℕ). text_of (commit_line sc txn held) ++ t) (commit_told sc place held)
    ∙ sym (text_append (commit_line sc txn held) (instances_tokens sc 1 held.instances ++ flat_map (deed_tokens sc) held.deeds))
what_told sc place (what.Decided txn (decision.Abort cause)) = append-nil _
what_told sc place (what.Settled at txn outcome) = append-nil _

-- why an abort came, and which versions a commit was behind
why_silent : (sc : Scenario) (facts : List Fact) (fact : Fact) → IsSilent (why_lines sc facts fact)
why_silent sc facts fact =
    both_silent (map (line_of fact.place kind.Why) (why.why_lines sc facts fact)) (map (line_of fact.place kind.Behind) (behind_lines sc facts fact))
    (map_silent (line_of fact.place kind.Why) (why.why_lines sc facts fact) (λ words. refl)) (map_silent (line_of fact.place kind.Behind) (behind_lines sc facts fact) (λ words. refl))

fact_told : (sc : Scenario) (facts : List Fact) (fact : Fact) → told (told_lines sc facts fact) ≡ text_of (fact_tokens sc fact)
fact_told sc facts fact =
    ap (λ (t : List ℕ). (decimal fact.place ++ codes " " ++ text_of (what_line sc fact.what)) ++ t)
    (front_told (because_lines sc fact.place fact.what) (why_lines sc facts fact) (told (because_lines sc fact.place fact.what)) refl (why_silent sc facts fact))
    ∙ append_assoc (decimal fact.place ++ codes " ") (text_of (what_line sc fact.what)) (told (because_lines sc fact.place fact.what))
    ∙ ap (λ (t : List ℕ). (decimal fact.place ++ codes " ") ++ t) (what_told sc fact.place fact.what)

pub facts_told : (sc : Scenario) (facts news : List Fact) → told (all_told sc facts news) ≡ text_of (flat_map (fact_tokens sc) news)
facts_told sc facts [] = refl
facts_told sc facts (fact ∷ news) =
    told_append (told_lines sc facts fact) (all_told sc facts news)
    ∙ ap (λ (t : List ℕ). t ++ told (all_told sc facts news)) (fact_told sc facts fact)
    ∙ ap (λ (t : List ℕ). text_of (fact_tokens sc fact) ++ t) (facts_told sc facts news)
    ∙ sym (text_append (fact_tokens sc fact) (flat_map (fact_tokens sc) news))

-- ---- other lines

fate_silent : (w : State) (taken : Step) (mail : Mail) (line : Line) → told_by (fate w taken mail) line ≡ []
fate_silent w (step.Submit txn) mail line = refl
fate_silent w (step.Deliver number) mail line = by_case (is_down w.actors mail.letter.to)
  where
    by_case : (down : Bool) → told_by (taken_or_gone down) line ≡ []
    by_case true = refl
    by_case false = refl
fate_silent w (step.Lose number) mail line = refl
fate_silent w (step.Publish admin) mail line = refl
fate_silent w (step.Push admin at) mail line = refl
fate_silent w (step.Tick by) mail line = refl
fate_silent w (step.Revoke cred) mail line = refl
fate_silent w (step.Timer txn) mail line = refl
fate_silent w (step.Crash who cut) mail line = refl
fate_silent w (step.Boot who) mail line = refl

mail_silent : (sc : Scenario) (w : State) (taken : Step) (mail : Option Mail) → IsSilent (fate_lines sc w taken mail)
mail_silent sc w taken None = refl
mail_silent sc w taken (Some mail) = ap (λ (t : List ℕ). t ++ []) (fate_silent w taken mail (mail_line sc (length w.steps) (fate w taken mail) mail))

kind_silent : (torn : Bool) (line : Line) → told_by (forced_or_torn torn) line ≡ []
kind_silent true line = refl
kind_silent false line = refl

durable_silent : (sc : Scenario) (place : ℕ) (torn : Bool) (who : Option Actor) (forced : Option Record) → IsSilent (durable_lines sc place torn who forced)
durable_silent sc place torn None None = refl
durable_silent sc place torn None (Some forced) = refl
durable_silent sc place torn (Some who) None = refl
durable_silent sc place torn (Some who) (Some forced) = ap (λ (t : List ℕ). t ++ []) (kind_silent torn (record_line sc place (forced_or_torn torn) who forced))

-- ---- what changed

free_silent : (sc : Scenario) (place : ℕ) (at : ServerId) (item : ItemId) (after : List LockEntry) (entry : LockEntry) → IsSilent (free_if sc place at item after entry)
unfolding free_if
free_silent sc place at item after entry = if_silent (list_any (is_of_entry entry) after) (free_line sc place at item entry) refl

lock_silent : (sc : Scenario) (place : ℕ) (at : ServerId) (item : ItemId) (before : List LockEntry) (entry : LockEntry) → IsSilent (lock_if sc place at item before entry)
unfolding lock_if
lock_silent sc place at item before entry = if_silent (list_any (is_entry entry) before) (lock_line sc place at item entry) refl

version_silent : (sc : Scenario) (place : ℕ) (at : ServerId) (admin : ℕ) (before : Option Version) (version : Version) → IsSilent (knows_if sc place at admin before version)
unfolding knows_if
version_silent sc place at admin before version = if_silent (option_map_or (same_version version) before false) (knows_line sc place at admin version) refl

frees_silent : (sc : Scenario) (place : ℕ) (at : ServerId) (number : ℕ) (before after : Seen) (items : List ItemId) → IsSilent (frees_from sc place at number before after items)
frees_silent sc place at number before after [] = refl
frees_silent sc place at number before after (item ∷ items) =
    both_silent (flat_map (free_if sc place at item (list_in after.locks number)) (list_in before.locks number)) (frees_from sc place at (number + 1) before after items)
    (flat_silent (free_if sc place at item (list_in after.locks number)) (list_in before.locks number) (free_silent sc place at item (list_in after.locks number)))
    (frees_silent sc place at (number + 1) before after items)

locks_silent : (sc : Scenario) (place : ℕ) (at : ServerId) (number : ℕ) (before after : Seen) (items : List ItemId) → IsSilent (locks_from sc place at number before after items)
locks_silent sc place at number before after [] = refl
locks_silent sc place at number before after (item ∷ items) =
    both_silent (flat_map (lock_if sc place at item (list_in before.locks number)) (list_in after.locks number)) (locks_from sc place at (number + 1) before after items)
    (flat_silent (lock_if sc place at item (list_in before.locks number)) (list_in after.locks number) (lock_silent sc place at item (list_in before.locks number)))
    (locks_silent sc place at (number + 1) before after items)

knows_silent : (sc : Scenario) (place : ℕ) (at : ServerId) (admin : ℕ) (before after : List Version) → IsSilent (knows_from sc place at admin before after)
knows_silent sc place at admin before [] = refl
knows_silent sc place at admin before (version ∷ others) =
    both_silent (knows_if sc place at admin (slice_get before admin) version) (knows_from sc place at (admin + 1) before others)
    (version_silent sc place at admin (slice_get before admin) version) (knows_silent sc place at (admin + 1) before others)

value_silent : (sc : Scenario) (place : ℕ) (at : ServerId) (item : ItemId) (before after : Option ℤ) → IsSilent (value_if sc place at item before after)
unfolding value_if
value_silent sc place at item None after = refl
value_silent sc place at item (Some old) None = refl
value_silent sc place at item (Some old) (Some new) = if_silent (int_eq old new) (item_line sc place at item new) refl

values_silent : (sc : Scenario) (place : ℕ) (at : ServerId) (number : ℕ) (before after : List ℤ) (items : List ItemId) → IsSilent (values_from sc place at number before after items)
values_silent sc place at number before after [] = refl
values_silent sc place at number before after (item ∷ items) =
    both_silent (value_if sc place at item (slice_get before number) (slice_get after number)) (values_from sc place at (number + 1) before after items)
    (value_silent sc place at item (slice_get before number) (slice_get after number)) (values_silent sc place at (number + 1) before after items)

seen_silent : (sc : Scenario) (place : ℕ) (at : ServerId) (before after : Seen) → IsSilent (seen_lines sc place at before after)
seen_silent sc place at before after =
    let items = items_of sc at in
    let frees = frees_from sc place at 0 before after items in
    let locks = locks_from sc place at 0 before after items in
    let knows = knows_from sc place at 0 before.known after.known in
    both_silent (frees ++ locks ++ knows) (values_from sc place at 0 before.values after.values items)
    (both_silent (frees ++ locks) knows (both_silent frees locks (frees_silent sc place at 0 before after items) (locks_silent sc place at 0 before after items)) (knows_silent sc place at 0 before.known after.known))
    (values_silent sc place at 0 before.values after.values items)

left_silent : (sc : Scenario) (place : ℕ) (at : ServerId) (s : Server) (ended : Option TxnId) → IsSilent (left_lines sc place at s ended)
left_silent sc place at s None = refl
left_silent sc place at s (Some txn) = values_silent sc place at 0 (seen_of (items_of sc at) s).values (values_to (items_of sc at) s txn) (items_of sc at)

changed_silent : (sc : Scenario) (place : ℕ) (at : ServerId) (before after : Option Server) (ended : Option TxnId) → IsSilent (changed_lines sc place at before after ended)
changed_silent sc place at before (Some s) ended = seen_silent sc place at (seen_up (items_of sc at) before) (seen_of (items_of sc at) s)
changed_silent sc place at (Some s) None ended = left_silent sc place at s ended
changed_silent sc place at None None ended = refl

state_silent : (sc : Scenario) (w : State) (taken : Step) (next : State) (who : Option Actor) → IsSilent (state_lines sc w taken next who)
state_silent sc w taken next None = refl
state_silent sc w taken next (Some (actor.Server at)) =
    changed_silent sc (length w.steps) at (server_at w.actors at) (server_at next.actors at) (ended_if (leaves_commit (is_torn taken) (logged sc w taken)) (mail_at w taken))
state_silent sc w taken next (Some (actor.Coordinator txn)) = refl
state_silent sc w taken next (Some actor.Master) = refl
state_silent sc w taken next (Some actor.Authority) = refl

server_silent : (sc : Scenario) (place : ℕ) (at : ServerId) (before after : Option Server) → IsSilent (server_now sc place at before after)
server_silent sc place at None None = refl
server_silent sc place at None (Some s) = refl
server_silent sc place at (Some s) None = refl
server_silent sc place at (Some s) (Some t) = refl

now_silent : (sc : Scenario) (w next : State) (who : Option Actor) → IsSilent (now_lines sc w next who)
now_silent sc w next None = refl
now_silent sc w next (Some (actor.Server at)) = server_silent sc (length w.steps) at (server_at w.actors at) (server_at next.actors at)
now_silent sc w next (Some (actor.Coordinator txn)) = if_silent _ _ refl
now_silent sc w next (Some actor.Master) = refl
now_silent sc w next (Some actor.Authority) = refl

-- ---- a block

between_told : (sc : Scenario) (w : State) (taken : Step) (next : State) → told (lines_between sc w taken next) ≡ text_of (flat_map (fact_tokens sc) (drop (length w.facts) next.facts))
between_told sc w taken next =
    let fate = fate_lines sc w taken (mail_at w taken) in
    let who = moved_by w.mails taken in
    let durable = durable_lines sc (length w.steps) (is_torn taken) who (logged sc w taken) in
    let facts = all_told sc next.facts (drop (length w.facts) next.facts) in
    let changed = state_lines sc w taken next who in
    let sent = map (mail_line sc (length w.steps) kind.Sent) (drop (length w.mails) next.mails) in
    let text = text_of (flat_map (fact_tokens sc) (drop (length w.facts) next.facts)) in
    front_told (fate ++ durable ++ facts ++ changed ++ sent) (now_lines sc w next who) text
    (front_told (fate ++ durable ++ facts ++ changed) sent text
    (front_told (fate ++ durable ++ facts) changed text
    (behind_told (fate ++ durable) facts text
    (both_silent fate durable (mail_silent sc w taken (mail_at w taken)) (durable_silent sc (length w.steps) (is_torn taken) who (logged sc w taken)))
    (facts_told sc next.facts (drop (length w.facts) next.facts)))
    (state_silent sc w taken next who))
    (map_silent (mail_line sc (length w.steps) kind.Sent) (drop (length w.mails) next.mails) (λ mail. refl)))
    (now_silent sc w next who)

block_told : (sc : Scenario) (listed : Bool) (m : Machine) (taken : Step) → told (block sc listed m taken) ≡ text_of (flat_map (fact_tokens sc) (drop (length m.state.facts) (after_step sc m taken).state.facts))
block_told sc true m taken = between_told sc m.state taken (after_step sc m taken).state
block_told sc false m taken = between_told sc m.state taken (after_step sc m taken).state

-- ---- facts only grow

pub record HasGrown {A : Type 0} (old new : List A) : Type 0 where
  pub more : List A
  pub is : new ≡ old ++ more

grown_in : (sc : Scenario) (m : Machine) (taken : Step) → HasGrown m.state.facts (machine_after sc m taken).state.facts
grown_in sc m (step.Submit txn) = record { more = _; is = refl }
grown_in sc m (step.Deliver mail) = record { more = _; is = refl }
grown_in sc m (step.Lose mail) = record { more = _; is = refl }
grown_in sc m (step.Publish admin) = record { more = _; is = refl }
grown_in sc m (step.Push admin server) = record { more = _; is = refl }
grown_in sc m (step.Tick by) = record { more = _; is = refl }
grown_in sc m (step.Revoke cred) = record { more = _; is = refl }
grown_in sc m (step.Timer txn) = record { more = _; is = refl }
grown_in sc m (step.Crash who None) = record { more = _; is = refl }
grown_in sc m (step.Crash who (Some cut)) = record { more = _; is = refl }
grown_in sc m (step.Boot who) = record { more = _; is = refl }

grown_by : (sc : Scenario) (m : Machine) (taken : Step) (refused : Bool) → HasGrown m.state.facts (if refused then m else machine_after sc m taken).state.facts
grown_by sc m taken true = record { more = []; is = sym (append-nil m.state.facts) }
grown_by sc m taken false = grown_in sc m taken

facts_grow : (sc : Scenario) (m : Machine) (taken : Step) → HasGrown m.state.facts (after_step sc m taken).state.facts
facts_grow sc m taken = grown_by sc m taken (is_some (refusal m.state taken))

grown_on : {A : Type 0} (one two three : List A) → HasGrown one two → HasGrown two three → HasGrown one three
grown_on one two three a b = record { more = a.more ++ b.more; is = b.is ∙ (ap (λ (l : List _). l ++ b.more) a.is ∙ append_assoc one a.more b.more) }

all_grow : (sc : Scenario) (m : Machine) (steps : List Step) → HasGrown m.state.facts (after_steps sc m steps).state.facts
all_grow sc m [] = record { more = []; is = sym (append-nil m.state.facts) }
all_grow sc m (taken ∷ others) =
    grown_on m.state.facts (after_step sc m taken).state.facts (after_steps sc m (taken ∷ others)).state.facts (facts_grow sc m taken) (all_grow sc (after_step sc m taken) others)

-- what is new from the first list to the last is what is new to the one between, and then to the last
new_parts : {A : Type 0} (one two three : List A) → HasGrown one two → HasGrown two three → drop (length one) three ≡ drop (length one) two ++ drop (length two) three
unfolding grown_on
new_parts {A} one two three a b =
    let first : drop (length one) two ≡ a.more = ap (drop (length one)) a.is ∙ drop_at one a.more (length one) refl in
    let second : drop (length two) three ≡ b.more = ap (drop (length two)) b.is ∙ drop_at two b.more (length two) refl in
    let both = grown_on one two three a b in
    ap (drop (length one)) both.is ∙ (drop_at one both.more (length one) refl
    ∙ (ap (λ (l : List A). l ++ b.more) (sym first) ∙ ap (λ (l : List A). drop (length one) two ++ l) (sym second)))

-- ---- blocks

pub blocks_told : (sc : Scenario) (listed : ℕ) (m : Machine) (steps : List Step)
    → told (blocks sc listed m steps) ≡ text_of (flat_map (fact_tokens sc) (drop (length m.state.facts) (after_steps sc m steps).state.facts))
blocks_told sc listed m [] = sym (ap (λ (facts : List Fact). text_of (flat_map (fact_tokens sc) facts)) (drop-length m.state.facts))
blocks_told sc listed m (taken ∷ others) =
    let mid = after_step sc m taken in
    let end = after_steps sc mid others in
    let new = drop (length m.state.facts) mid.state.facts in
    let newer = drop (length mid.state.facts) end.state.facts in
    told_append (block sc (nat_lt (length m.state.steps) listed) m taken) (blocks sc listed mid others)
    ∙ (ap (λ (t : List ℕ). t ++ told (blocks sc listed mid others)) (block_told sc (nat_lt (length m.state.steps) listed) m taken)
    ∙ (ap (λ (t : List ℕ). text_of (flat_map (fact_tokens sc) new) ++ t) (blocks_told sc listed mid others)
    ∙ (sym (text_append (flat_map (fact_tokens sc) new) (flat_map (fact_tokens sc) newer))
    ∙ (ap text_of (sym (flat_map-append (fact_tokens sc) new newer))
    ∙ ap (λ (facts : List Fact). text_of (flat_map (fact_tokens sc) facts)) (sym (new_parts m.state.facts mid.state.facts end.state.facts (facts_grow sc m taken) (all_grow sc mid others)))))))

pub reports_told : TracesTellReports
reports_told sc steps =
    let facts = (after sc steps).state.facts in
    let ending = ending_of sc (after sc steps).state in
    let servers = flat_map (server_tokens sc ending) sc.servers in
    ap (λ (t : List ℕ). codes "tpvc 1\n" ++ t)
    (ap text_of (append_assoc (flat_map (fact_tokens sc) facts) servers (quiet_tokens ending))
    ∙ (text_append (flat_map (fact_tokens sc) facts) (servers ++ quiet_tokens ending)
    ∙ ap (λ (t : List ℕ). t ++ text_of (servers ++ quiet_tokens ending)) (sym (blocks_told sc (length sc.steps) (opening sc) steps))))
