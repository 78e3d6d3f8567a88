-- The potential falls at each automatic step: at a boot, at a delivery of the oldest mail, and at a timer where nothing is
-- undelivered.
use Rattle.std.specs.List.{range_with_len}
use Rattle.std.proofs.Common.{◌≡◌, ◌⊎◌, inl, inr, ℕ, ◌+◌, ◌*◌, ◌<◌, ◌≤◌, ◌==◌, List, [], ◌∷◌, ◌++◌, length, slice_get, slice_set, Bool, true, false, Option, Some, None, is_none, suc, refl, sym, ap, subst, arith, ◌∙◌, if◌then◌else◌}
use Rattle.std.proofs.lemmas.Bool.{cases_eq, eq-eqb, eqb-true, ltb-false, ne_eqb}
use Rattle.tp_types.proofs.EachLemmas.{each_filter, each_get}
use Rattle.tp_types.specs.Each.{Each}
use Rattle.tp_quorum.proofs.Going.{operation_takes_rests}
use Rattle.tp_quorum.proofs.Lists.{changed, got_before, got_within, set_got, set_length, set_other}
use Rattle.tp_quorum.proofs.Onward.{HasFlags, IsSent, Onward, flag_there, hears_onward, request_there}
use Rattle.tp_quorum.proofs.Potential.{Covers, HasFlag, IsCovered, IsOfPhase, IsUnderWay, MachineRests, down_weight, downs, moved_sent, op_weight, op_weights, phase_weight, potential, uncovered}
use Rattle.tp_quorum.proofs.Replicas.{boot_rests, replica_takes_rests, timer_rests}
use Rattle.tp_quorum.proofs.Sums.{IsIn, got_behind, in_first, in_range, in_second, in_without, requests_most, sum_least, sum_less, weight_found, weight_of, weights_at, weights_next, weights_of, weights_without}
use Rattle.tp_quorum.proofs.World.{MailRests, PhaseRests}
use Rattle.tp_quorum.specs.Machine.{Machine, Move, State, boots_at, in_phase, is_down, is_replica_down, is_request, moved, operation_takes_at, replica_takes_at, sends_back, times_out_at, without_number}
use Rattle.tp_quorum.specs.Operations.{answers_in, asks_again, hears, is_running, is_running_in, most_answered, requests}
use Rattle.tp_quorum.specs.Replica.{ReplicaView, received, received_up, reply_of, reply_up}
use Rattle.tp_quorum.specs.Words.{AdminId, Heard, Operation, Phase, QBody, QMail, QStep, Version}
use Rattle.tp_quorum.specs.Words.body
use Rattle.tp_quorum.specs.Words.phase
use Rattle.tp_quorum.specs.Words.step

-- ---- what falling is

-- after this move some operations are covered, and the potential is less
pub record Falls (admins replicas ops : ℕ) (m : Machine) (covering : ℕ → Bool) (taken : QStep) (move : Move) : Type 0 where
  pub rests : MachineRests admins replicas ops (moved m taken move)
  pub next : ℕ → Bool
  pub covers : Covers replicas (moved m taken move) next
  pub less : potential replicas ops (moved m taken move) next + 1 ≤ potential replicas ops m covering

phase_blind : (replicas : ℕ) (b : Bool) (now : Phase) → (b ≡ true → is_running_in now ≡ true → ⊥) → phase_weight replicas false now ≤ phase_weight replicas b now
phase_blind replicas true (phase.Fetching greatest answered) none = absurd (none refl refl)
phase_blind replicas true (phase.Storing version answered) none = absurd (none refl refl)
phase_blind replicas true (phase.Ended version) none = omega arith
phase_blind replicas false now none = omega arith

-- an operation weighs no more where nothing is known of it, if it was not covered
op_blind : (replicas : ℕ) (b : Bool) (found : Option Operation) → ((o : Operation) → found ≡ Some o → b ≡ true → is_running o ≡ true → ⊥) → op_weight replicas false found ≤ op_weight replicas b found
op_blind replicas b None none = omega arith
op_blind replicas b (Some o) none = phase_blind replicas b o.phase (none o refl)

-- a replica that is up weighs nothing
up_weighs : (found : Option ReplicaView) → is_down found ≡ false → down_weight found ≡ 0
up_weighs found e = ap (λ (b : Bool). if b then 1 else 0) e

-- ---- a boot

pub boot_falls : (admins replicas ops : ℕ) (m : Machine) (covering : ℕ → Bool) → MachineRests admins replicas ops m → Covers replicas m covering → (r : ℕ) (found : ReplicaView) → slice_get m.state.replicas r ≡ Some found
    → is_replica_down found ≡ true → Falls admins replicas ops m covering (step.Boot r) (boots_at m.state r (Some found))
boot_falls admins replicas ops m covering h covers r found e down =
    let move : Move = boots_at m.state r (Some found) in
    let now : Option ReplicaView = slice_get move.replicas r in
    let within : r < replicas = omega (arith, got_within m.state.replicas r found e, h.replica_count) in
    let was : down_weight (slice_get m.state.replicas r) ≡ 1 = ap down_weight e ∙ ap (λ (b : Bool). if b then 1 else 0) down in
    let is : down_weight (slice_get move.replicas r) ≡ 0 = ap down_weight (set_got m.state.replicas r found _ e) in
    let fewer : downs replicas move.replicas + 1 ≤ downs replicas m.state.replicas =
    sum_less replicas r 1 (λ (k : ℕ). down_weight (slice_get move.replicas k)) (λ (k : ℕ). down_weight (slice_get m.state.replicas k)) within (omega (arith, was, is))
    (λ k less apart. let same : down_weight (slice_get move.replicas k) ≡ down_weight (slice_get m.state.replicas k) = ap down_weight (set_other m.state.replicas r k _ apart) in omega (arith, same)) in
    let mails = weights_next m.state.mails [] m.undelivered h.sent in
    let running : op_weights replicas ops uncovered m.state.ops ≤ op_weights replicas ops covering m.state.ops =
    sum_least ops (λ (k : ℕ). op_weight replicas false (slice_get m.state.ops k)) (λ (k : ℕ). op_weight replicas (covering k) (slice_get m.state.ops k))
    (λ k less. op_blind replicas (covering k) (slice_get m.state.ops k) (λ o there covered runs.
    let up : is_down (slice_get m.state.replicas r) ≡ false = (covers k o there covered runs).up r in
    let same : is_down (slice_get m.state.replicas r) ≡ true = ap is_down e ∙ down in
    cc)) in
    record {
      rests = record {
        rests = boot_rests admins m.state (step.Boot r) r h.rests (Some found) e;
        replica_count = set_length m.state.replicas r _ ∙ h.replica_count;
        op_count = h.op_count;
        sent = moved_sent m (step.Boot r) move h.sent;
      };
      next = uncovered;
      covers = λ op o there covered runs. absurd (let no : false ≡ true = covered in cc);
      less = omega (arith, fewer, mails, running);
    }

-- ---- a delivery

-- a mail that is under way, and is not the one that is delivered, is so still
way_stays : (m : Machine) (number : ℕ) (move : Move) (op r : ℕ) (now next : Phase) (way : IsUnderWay m op r now) → (way.number ≡ number → ⊥) → IsOfPhase next way.said → IsUnderWay (moved m (step.Deliver number) move) op r next
way_stays m number move op r now next way other of_phase = record {
  number = way.number;
  said = way.said;
  undelivered = in_first way.number (without_number m.undelivered number) (range_with_len (length m.state.mails) (length move.sent)) (in_without way.number number m.undelivered other way.undelivered);
  sent = got_before m.state.mails move.sent way.number (record { op = op; replica = r; body = way.said }) way.sent;
  of_phase = of_phase;
}

-- a mail that is sent is under way
sent_now : (m : Machine) (taken : QStep) (move : Move) (op r place : ℕ) (now : Phase) (said : QBody) → slice_get move.sent place ≡ Some (record { op = op; replica = r; body = said }) → IsOfPhase now said → IsUnderWay (moved m taken move) op r now
sent_now m taken move op r place now said e of_phase =
    let within = got_within move.sent place (record { op = op; replica = r; body = said }) e in
    record {
      number = length m.state.mails + place;
      said = said;
      undelivered = in_second (length m.state.mails + place) _ (range_with_len (length m.state.mails) (length move.sent)) (in_range (length m.state.mails + place) (length m.state.mails) (length move.sent) (omega arith) (omega (arith, within)));
      sent = got_behind m.state.mails move.sent place ∙ e;
      of_phase = of_phase;
    }

-- the mails that are undelivered after a delivery weigh so much less
delivered_weighs : (m : Machine) (number : ℕ) (numbers : List ℕ) (sent : List QMail) (mail : QMail) → m.undelivered ≡ number ∷ numbers → slice_get m.state.mails number ≡ Some mail → Each (λ (n : ℕ). n < length m.state.mails) m.undelivered
    → weights_at (m.state.mails ++ sent) (without_number m.undelivered number ++ range_with_len (length m.state.mails) (length sent)) + weight_of mail ≤ weights_at m.state.mails m.undelivered + weights_of sent
delivered_weighs m number numbers sent mail first e each =
    let new = weights_next m.state.mails sent (without_number m.undelivered number) (each_filter (λ (n : ℕ). n < length m.state.mails) _ m.undelivered each) in
    let gone : weights_at m.state.mails (without_number m.undelivered number) + weight_found (slice_get m.state.mails number) ≤ weights_at m.state.mails m.undelivered =
    subst (λ (all : List ℕ). weights_at m.state.mails (without_number all number) + weight_found (slice_get m.state.mails number) ≤ weights_at m.state.mails all) (sym first) (weights_without m.state.mails number numbers) in
    let own : weight_found (slice_get m.state.mails number) ≡ weight_of mail = ap weight_found e in
    omega (arith, new, gone, own)

-- ---- of a request

-- a replica that is up replies to a request, in the same phase
record Replies (said : QBody) (reply : Option QBody) : Type 0 where
  pub answer : QBody
  pub is_answer : reply ≡ Some answer
  pub is_reply : is_request answer ≡ false
  pub of_phase : (now : Phase) → IsOfPhase now said → IsOfPhase now answer

has_of_phase : (version : Version) (admin : AdminId) (now : Phase) → IsOfPhase now (body.Fetch admin) → IsOfPhase now (body.Has version)
has_of_phase version admin (phase.Fetching greatest answered) of_phase = tt
has_of_phase version admin (phase.Storing other answered) of_phase = absurd of_phase
has_of_phase version admin (phase.Ended other) of_phase = absurd of_phase

stored_of_phase : (version : Version) (admin : AdminId) (now : Phase) → IsOfPhase now (body.Store admin version) → IsOfPhase now body.Stored
stored_of_phase version admin (phase.Fetching greatest answered) of_phase = absurd of_phase
stored_of_phase version admin (phase.Storing other answered) of_phase = tt
stored_of_phase version admin (phase.Ended other) of_phase = absurd of_phase

replies_up : (said : QBody) (up : Option (List Version)) → is_none up ≡ false → is_request said ≡ true → Replies said (reply_up said up)
replies_up said None is_up asks = absurd (cc)
replies_up (body.Fetch admin) (Some known) is_up asks = record { answer = body.Has _; is_answer = refl; is_reply = refl; of_phase = has_of_phase _ admin }
replies_up (body.Has version) (Some known) is_up asks = absurd (cc)
replies_up (body.Store admin version) (Some known) is_up asks = record { answer = body.Stored; is_answer = refl; is_reply = refl; of_phase = stored_of_phase version admin }
replies_up body.Stored (Some known) is_up asks = absurd (cc)

stays_up : (found : ReplicaView) (said : QBody) (up : Option (List Version)) → is_none up ≡ false → is_none (received_up found said up).up ≡ false
stays_up found said None is_up = absurd (cc)
stays_up found said (Some known) is_up = refl

all_up : (replicas : List ReplicaView) (at : ℕ) (new : ReplicaView) → is_replica_down new ≡ false → ((r : ℕ) → is_down (slice_get replicas r) ≡ false) → (r : ℕ) → is_down (slice_get (slice_set replicas at new) r) ≡ false
all_up replicas at new is_up up r = by (slice_get (slice_set replicas at new) r) refl
  where
    by : (found : Option ReplicaView) → slice_get (slice_set replicas at new) r ≡ found → is_down found ≡ false
    by None e = refl
    by (Some there) e =
        elim (changed replicas at r new there e) [
          | inl here ↦ subst (λ (p : ReplicaView). is_replica_down p ≡ false) here.1 is_up
          | inr other ↦ sym (ap is_down other.1) ∙ up r
        ]

pub request_falls : (admins replicas ops : ℕ) (m : Machine) (covering : ℕ → Bool) → MachineRests admins replicas ops m → Covers replicas m covering → ((r : ℕ) → is_down (slice_get m.state.replicas r) ≡ false)
    → (number : ℕ) (numbers : List ℕ) (mail : QMail) → m.undelivered ≡ number ∷ numbers → slice_get m.state.mails number ≡ Some mail → is_request mail.body ≡ true → (found : ReplicaView) → slice_get m.state.replicas mail.replica ≡ Some found
    → Falls admins replicas ops m covering (step.Deliver number) (replica_takes_at m.state mail (Some found))
request_falls admins replicas ops m covering h covers up number numbers mail first e asks found there =
    let move : Move = replica_takes_at m.state mail (Some found) in
    let found_up : is_none found.up ≡ false = sym (ap is_down there) ∙ up mail.replica in
    let reply : Replies mail.body (reply_of found mail.body) = replies_up mail.body found.up found_up asks in
    let answer : QMail = record { op = mail.op; replica = mail.replica; body = reply.answer } in
    let sent_is : move.sent ≡ answer ∷ [] = ap (sends_back mail) reply.is_answer in
    let sent_weight : weights_of move.sent ≡ 1 = ap weights_of sent_is ∙ ap (λ (b : Bool). (if b then 2 else 1) + 0) reply.is_reply in
    let own_weight : weight_of mail ≡ 2 = ap (λ (b : Bool). if b then 2 else 1) asks in
    let now_up : (r : ℕ) → is_down (slice_get move.replicas r) ≡ false = all_up m.state.replicas mail.replica (received found mail.body) (stays_up found mail.body found.up found_up) up in
    let fewer : downs replicas move.replicas ≤ downs replicas m.state.replicas =
    sum_least replicas (λ (k : ℕ). down_weight (slice_get move.replicas k)) (λ (k : ℕ). down_weight (slice_get m.state.replicas k)) (λ k less. omega (arith, up_weighs (slice_get move.replicas k) (now_up k))) in
    let mails = delivered_weighs m number numbers move.sent mail first e h.sent in
    let next : Machine = moved m (step.Deliver number) move in
    let reached : (op r : ℕ) (now : Phase) → HasFlag now r ⊎ IsUnderWay m op r now → HasFlag now r ⊎ IsUnderWay next op r now =
    λ op r now covered. elim covered [
      | inl flag ↦ inl flag
      | inr way ↦
          elim (cases_eq way.number number) [
            | inl same ↦
                let both : Some (record { op = op; replica = r; body = way.said }) ≡ Some mail = sym way.sent ∙ ap (slice_get m.state.mails) same ∙ e in
                let its : record { op = op; replica = r; body = way.said } ≡ mail = cc in
                let of_phase : IsOfPhase now reply.answer = reply.of_phase now (subst (λ (k : QMail). IsOfPhase now k.body) its way.of_phase) in
                let sent : slice_get move.sent 0 ≡ Some (record { op = op; replica = r; body = reply.answer }) =
                ap (λ (all : List QMail). slice_get all 0) sent_is ∙ sym (ap (λ (k : QMail). Some (record { op = k.op; replica = k.replica; body = reply.answer })) its) in
                inr (sent_now m (step.Deliver number) move op r 0 now reply.answer sent of_phase)
            | inr other ↦ inr (way_stays m number move op r now now way other way.of_phase)
          ]
    ] in
    record {
      rests = record {
        rests = replica_takes_rests admins m.state (step.Deliver number) mail h.rests (each_get (MailRests m.state) m.state.mails number mail h.rests.mails e) (Some found) there;
        replica_count = set_length m.state.replicas mail.replica _ ∙ h.replica_count;
        op_count = h.op_count;
        sent = moved_sent m (step.Deliver number) move h.sent;
      };
      next = covering;
      covers = λ op o is_op covered runs.
          let before = covers op o is_op covered runs in
          record { up = now_up; each = λ r within. reached op r o.phase (before.each r within) };
      less = omega (arith, fewer, mails, sent_weight, own_weight);
    }

-- ---- of a reply

-- a flag for each replica
flags_by : (w : State) (op admin : ℕ) (reader : Option ℕ) (replicas : ℕ) (now : Phase) → length w.replicas ≡ replicas → PhaseRests w op admin reader now → HasFlags replicas now
flags_by w op admin reader replicas (phase.Fetching greatest answered) count rests = rests.count ∙ count
flags_by w op admin reader replicas (phase.Storing version answered) count rests = rests.count ∙ count
flags_by w op admin reader replicas (phase.Ended version) count rests = tt

pub reply_falls : (admins replicas ops : ℕ) (m : Machine) (covering : ℕ → Bool) → MachineRests admins replicas ops m → Covers replicas m covering
    → (number : ℕ) (numbers : List ℕ) (mail : QMail) → m.undelivered ≡ number ∷ numbers → slice_get m.state.mails number ≡ Some mail → is_request mail.body ≡ false → (o : Operation) → slice_get m.state.ops mail.op ≡ Some o
    → Falls admins replicas ops m covering (step.Deliver number) (operation_takes_at m.state mail (Some o))
reply_falls admins replicas ops m covering h covers number numbers mail first e reply o is_op =
    let heard : Heard = hears mail.op o.admin mail.replica o.phase mail.body in
    let move : Move = operation_takes_at m.state mail (Some o) in
    let next : Machine = moved m (step.Deliver number) move in
    let own = h.rests.ops mail.op o is_op in
    let onward : Onward replicas mail.op mail.replica o.phase mail.body heard =
    hears_onward replicas mail.op o.admin mail.replica o.phase (flags_by m.state mail.op o.admin.0 o.reader replicas o.phase h.replica_count own.now) mail.body reply in
    let own_weight : weight_of mail ≡ 1 = ap (λ (b : Bool). if b then 2 else 1) reply in
    let mails = delivered_weighs m number numbers heard.sent mail first e h.sent in
    let now : slice_get (slice_set m.state.ops mail.op (in_phase o heard)) mail.op ≡ Some (in_phase o heard) = set_got m.state.ops mail.op o (in_phase o heard) is_op in
    let here : op_weight replicas (covering mail.op) (slice_get move.ops mail.op) ≡ phase_weight replicas (covering mail.op) heard.next = ap (op_weight replicas (covering mail.op)) now in
    let was : op_weight replicas (covering mail.op) (slice_get m.state.ops mail.op) ≡ phase_weight replicas (covering mail.op) o.phase = ap (op_weight replicas (covering mail.op)) is_op in
    let running : op_weights replicas ops covering move.ops + weights_of heard.sent ≤ op_weights replicas ops covering m.state.ops =
    sum_less ops mail.op (weights_of heard.sent) (λ (k : ℕ). op_weight replicas (covering k) (slice_get move.ops k)) (λ (k : ℕ). op_weight replicas (covering k) (slice_get m.state.ops k))
    (omega (arith, got_within m.state.ops mail.op o is_op, h.op_count)) (omega (arith, here, was, onward.weight (covering mail.op)))
    (λ k less apart. let same : op_weight replicas (covering k) (slice_get move.ops k) ≡ op_weight replicas (covering k) (slice_get m.state.ops k) = ap (op_weight replicas (covering k)) (set_other m.state.ops mail.op k (in_phase o heard) apart) in omega (arith, same)) in
    let of_sent : (r : ℕ) → IsSent heard.sent mail.op r heard.next → IsUnderWay next mail.op r heard.next =
    λ r sent. sent_now m (step.Deliver number) move mail.op r sent.place heard.next sent.said sent.is_there sent.of_phase in
    let its : (op r : ℕ) (phase_then : Phase) (way : IsUnderWay m op r phase_then) → way.number ≡ number → record { op = op; replica = r; body = way.said } ≡ mail =
    λ op r phase_then way same. let both : Some (record { op = op; replica = r; body = way.said }) ≡ Some mail = sym way.sent ∙ ap (slice_get m.state.mails) same ∙ e in cc in
    let own_reached : is_running_in heard.next ≡ true → (r : ℕ) → r < replicas → HasFlag o.phase r ⊎ IsUnderWay m mail.op r o.phase → HasFlag heard.next r ⊎ IsUnderWay next mail.op r heard.next =
    λ runs r within covered. elim covered [
      | inl flag ↦ elim (onward.flag runs r within flag) [ inl still ↦ inl still | inr sent ↦ inr (of_sent r sent) ]
      | inr way ↦
          elim (cases_eq way.number number) [
            | inl same ↦
                let replica_is : mail.replica ≡ r = sym (ap (λ (k : QMail). k.replica) (its mail.op r o.phase way same)) in
                let of_phase : IsOfPhase o.phase mail.body = subst (λ (k : QMail). IsOfPhase o.phase k.body) (its mail.op r o.phase way same) way.of_phase in
                subst (λ (k : ℕ). HasFlag heard.next k ⊎ IsUnderWay next mail.op k heard.next) replica_is
                (elim (onward.own runs (omega (arith, replica_is, within)) of_phase) [ inl flag ↦ inl flag | inr sent ↦ inr (of_sent mail.replica sent) ])
            | inr other ↦
                elim (onward.way runs r within way.said way.of_phase) [
                  | inl still ↦ inr (way_stays m number move mail.op r o.phase heard.next way other still)
                  | inr sent ↦ inr (of_sent r sent)
                ]
          ]
    ] in
    let others_reached : (op r : ℕ) (phase_then : Phase) → (op ≡ mail.op → ⊥) → HasFlag phase_then r ⊎ IsUnderWay m op r phase_then → HasFlag phase_then r ⊎ IsUnderWay next op r phase_then =
    λ op r phase_then apart covered. elim covered [
      | inl flag ↦ inl flag
      | inr way ↦ inr (way_stays m number move op r phase_then phase_then way (λ same. apart (ap (λ (k : QMail). k.op) (its op r phase_then way same))) way.of_phase)
    ] in
    record {
      rests = record {
        rests = operation_takes_rests admins m.state (step.Deliver number) number mail h.rests e (Some o) is_op;
        replica_count = h.replica_count;
        op_count = set_length m.state.ops mail.op (in_phase o heard) ∙ h.op_count;
        sent = moved_sent m (step.Deliver number) move h.sent;
      };
      next = covering;
      covers = λ op found there covered runs.
          elim (changed m.state.ops mail.op op (in_phase o heard) found there) [
            | inl same ↦
                let runs_now : is_running_in heard.next ≡ true = ap is_running same.1 ∙ runs in
                let before = covers mail.op o is_op (subst (λ (k : ℕ). covering k ≡ true) same.0 covered) (onward.ran runs_now) in
                let now_covered : IsCovered replicas next mail.op heard.next = record { up = before.up; each = λ r within. own_reached runs_now r within (before.each r within) } in
                subst (λ (k : ℕ). IsCovered replicas next k found.phase) (sym same.0) (subst (λ (p : Operation). IsCovered replicas next mail.op p.phase) same.1 now_covered)
            | inr other ↦
                let before = covers op found other.1 covered runs in
                record { up = before.up; each = λ r within. others_reached op r found.phase other.0 (before.each r within) }
          ];
      less = omega (arith, mails, running, own_weight);
    }

-- ---- a timer, where nothing is undelivered

all_flags : (answered : List Bool) → ((r : ℕ) → r < length answered → slice_get answered r ≡ Some true) → answers_in answered ≡ length answered
all_flags [] each = refl
all_flags (true ∷ answered) each = omega (arith, all_flags answered (λ r within. each (suc r) (omega (arith, within))))
all_flags (false ∷ answered) each = absurd (let here : Some false ≡ Some true = each 0 (omega arith) in cc)

-- not all replicas have answered an operation that waits for most
waits_for_some : (answered : List Bool) → 1 ≤ length answered → most_answered answered ≡ false → ((r : ℕ) → r < length answered → slice_get answered r ≡ Some true) → ⊥
waits_for_some answered some none each = omega (arith, some, all_flags answered each, ltb-false (length answered) (2 * answers_in answered) none)

running_waits : (w : State) (op admin : ℕ) (reader : Option ℕ) (replicas : ℕ) (now : Phase) → length w.replicas ≡ replicas → 1 ≤ replicas → PhaseRests w op admin reader now → is_running_in now ≡ true → ((r : ℕ) → r < replicas → HasFlag now r) → ⊥
running_waits w op admin reader replicas (phase.Fetching greatest answered) count some rests runs each = waits_for_some answered (omega (arith, some, count, rests.count)) rests.waits (λ r within. each r (omega (arith, within, count, rests.count)))
running_waits w op admin reader replicas (phase.Storing version answered) count some rests runs each = waits_for_some answered (omega (arith, some, count, rests.count)) rests.waits (λ r within. each r (omega (arith, within, count, rests.count)))
running_waits w op admin reader replicas (phase.Ended version) count some rests runs each = cc

-- where nothing is undelivered no running operation is covered
none_covered : (admins replicas ops : ℕ) (m : Machine) (covering : ℕ → Bool) → MachineRests admins replicas ops m → Covers replicas m covering → m.undelivered ≡ []
    → (op : ℕ) (o : Operation) → slice_get m.state.ops op ≡ Some o → covering op ≡ true → is_running o ≡ true → ⊥
none_covered admins replicas ops m covering h covers none op o is_op covered runs =
    running_waits m.state op o.admin.0 o.reader replicas o.phase h.replica_count (omega (arith, h.rests.some, h.replica_count)) (h.rests.ops op o is_op).now runs
    (λ r within. elim ((covers op o is_op covered runs).each r within) [
      | inl flag ↦ flag
      | inr way ↦ absurd (subst (λ (numbers : List ℕ). IsIn way.number numbers) none way.undelivered)
    ])

asks_most : (replicas op : ℕ) (admin : AdminId) (now : Phase) → HasFlags replicas now → weights_of (asks_again op admin now) ≤ 2 * replicas
asks_most replicas op admin (phase.Fetching greatest answered) count = omega (arith, count, requests_most op (body.Fetch admin) 0 answered)
asks_most replicas op admin (phase.Storing version answered) count = omega (arith, count, requests_most op (body.Store admin version) 0 answered)
asks_most replicas op admin (phase.Ended version) count = omega arith

asked_there : (op : ℕ) (asked : QBody) (answered : List Bool) (now : Phase) (r : ℕ) → slice_get answered r ≡ Some false → IsOfPhase now asked → IsSent (requests op asked 0 answered) op r now
asked_there op asked answered now r e of_phase =
    let found = request_there op asked answered 0 r e in
    let same : 0 + r ≡ r = omega arith in
    record { place = found.0; said = asked; is_there = found.1 ∙ ap (λ (k : ℕ). Some (record { op = op; replica = k; body = asked })) same; of_phase = of_phase }

-- who has not answered is asked again
asks_reach : (replicas op : ℕ) (admin : AdminId) (now : Phase) → HasFlags replicas now → is_running_in now ≡ true → (r : ℕ) → r < replicas → HasFlag now r ⊎ IsSent (asks_again op admin now) op r now
asks_reach replicas op admin (phase.Fetching greatest answered) count runs r within =
    elim (flag_there answered r (omega (arith, count, within))) [ inl flag ↦ inl flag | inr awaited ↦ inr (asked_there op (body.Fetch admin) answered (phase.Fetching greatest answered) r awaited tt) ]
asks_reach replicas op admin (phase.Storing version answered) count runs r within =
    elim (flag_there answered r (omega (arith, count, within))) [ inl flag ↦ inl flag | inr awaited ↦ inr (asked_there op (body.Store admin version) answered (phase.Storing version answered) r awaited tt) ]
asks_reach replicas op admin (phase.Ended version) count runs r within = absurd (cc)

covered_less : (replicas : ℕ) (b : Bool) (now : Phase) → (b ≡ true → ⊥) → is_running_in now ≡ true → phase_weight replicas true now + (2 * replicas + 1) ≤ phase_weight replicas b now
covered_less replicas true now none runs = absurd (none refl)
covered_less replicas false (phase.Fetching greatest answered) none runs = omega arith
covered_less replicas false (phase.Storing version answered) none runs = omega arith
covered_less replicas false (phase.Ended version) none runs = absurd (cc)

pub timer_falls : (admins replicas ops : ℕ) (m : Machine) (covering : ℕ → Bool) → MachineRests admins replicas ops m → Covers replicas m covering → ((r : ℕ) → is_down (slice_get m.state.replicas r) ≡ false) → m.undelivered ≡ []
    → (op : ℕ) (o : Operation) → slice_get m.state.ops op ≡ Some o → is_running o ≡ true → Falls admins replicas ops m covering (step.Timer op) (times_out_at m.state op (Some o))
timer_falls admins replicas ops m covering h covers up none op o is_op runs =
    let move : Move = times_out_at m.state op (Some o) in
    let sent : List QMail = asks_again op o.admin o.phase in
    let flags = flags_by m.state op o.admin.0 o.reader replicas o.phase h.replica_count (h.rests.ops op o is_op).now in
    let only : ℕ → Bool = λ k. k == op in
    let quiet : (k : ℕ) (found : Operation) → slice_get m.state.ops k ≡ Some found → covering k ≡ true → is_running found ≡ true → ⊥ = none_covered admins replicas ops m covering h covers none in
    let mails = weights_next m.state.mails sent m.undelivered h.sent in
    let few = asks_most replicas op o.admin o.phase flags in
    let here : op_weight replicas (op == op) (slice_get m.state.ops op) ≡ phase_weight replicas true o.phase = ap (op_weight replicas (op == op)) is_op ∙ ap (λ (b : Bool). phase_weight replicas b o.phase) (eq-eqb op op refl) in
    let was : op_weight replicas (covering op) (slice_get m.state.ops op) ≡ phase_weight replicas (covering op) o.phase = ap (op_weight replicas (covering op)) is_op in
    let running : op_weights replicas ops only m.state.ops + (2 * replicas + 1) ≤ op_weights replicas ops covering m.state.ops =
    sum_less ops op (2 * replicas + 1) (λ (k : ℕ). op_weight replicas (k == op) (slice_get m.state.ops k)) (λ (k : ℕ). op_weight replicas (covering k) (slice_get m.state.ops k))
    (omega (arith, got_within m.state.ops op o is_op, h.op_count)) (omega (arith, here, was, covered_less replicas (covering op) o.phase (λ covered. quiet op o is_op covered runs) runs))
    (λ k less apart.
    let blind : op_weight replicas (k == op) (slice_get m.state.ops k) ≡ op_weight replicas false (slice_get m.state.ops k) = ap (λ (b : Bool). op_weight replicas b (slice_get m.state.ops k)) (ne_eqb k op apart) in
    omega (arith, blind, op_blind replicas (covering k) (slice_get m.state.ops k) (quiet k))) in
    record {
      rests = record {
        rests = timer_rests admins m.state (step.Timer op) op h.rests (Some o) is_op;
        replica_count = h.replica_count;
        op_count = h.op_count;
        sent = moved_sent m (step.Timer op) move h.sent;
      };
      next = only;
      covers = λ k found there covered runs_now.
          let same : k ≡ op = eqb-true k op covered in
          let both : Some found ≡ Some o = sym there ∙ ap (slice_get m.state.ops) same ∙ is_op in
          let own : found ≡ o = cc in
          let now_covered : IsCovered replicas (moved m (step.Timer op) move) op o.phase =
          record {
            up = up;
            each = λ r within. elim (asks_reach replicas op o.admin o.phase flags runs r within) [
              | inl flag ↦ inl flag
              | inr asked ↦ inr (sent_now m (step.Timer op) move op r asked.place o.phase asked.said asked.is_there asked.of_phase)
            ];
          } in
          subst (λ (n : ℕ). IsCovered replicas (moved m (step.Timer op) move) n found.phase) (sym same) (subst (λ (p : Operation). IsCovered replicas (moved m (step.Timer op) move) op p.phase) (sym own) now_covered);
      less = omega (arith, mails, few, running);
    }
