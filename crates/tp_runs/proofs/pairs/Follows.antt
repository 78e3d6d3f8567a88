-- One state follows another, in which what was sent or kept before still fits. No event needs to look at it again.
use Rattle.tp_coord.specs.Sums.{asked_value}
use Rattle.std.proofs.Common.{◌≡◌, inl, inr, ⊎_elim, ℕ, ◌+◌, ◌≤◌, ℤ, List, [], ◌++◌, length, take, Option, Some, None, IfSome, Contains, refl, sym, ap, subst, ◌∙◌, append_assoc, append-nil, arith}
use Rattle.std.proofs.lemmas.List.{take-append-le}
use Rattle.std.proofs.lemmas.List.Elements.{Contains-append_left}
use Rattle.tp_model.specs.Words.{Answer, Deed, DoneReply, PrepareRequest, QueryRequest, ValidateRequest, VerdictsReply}
use Rattle.tp_model.specs.Words.answer
use Rattle.tp_server.specs.declared.server.Entry.{Entry}
use Rattle.tp_types.specs.Each.{Each}
use Rattle.tp_coord.specs.Sums.{asked_value}
use Rattle.tp_types.proofs.EachLemmas.{each_as}
use Rattle.tp_runs.proofs.basics.Phases.{Pauses, Prepares}
use Rattle.tp_runs.proofs.pairs.Fits.{AnswerFits, AnsweredFits, AreUpto, Covers, DoneFits, EntryFits, Fits, IsAsked, Live, NamesIfAny, PrepareFits, PrepareLive, ProofLive, QueryFits, QueryLive, RanFits, RanLive, Tells, ValidateFits, ValidateLive, VerdictsFits, VerdictsLive, Waits}
use Rattle.tp_runs.proofs.pairs.Grows.{Grows, covers_more, grows_both, loses_grows, tells_grown}
use Rattle.tp_runs.proofs.basics.Found.{some_as}
use Rattle.tp_runs.proofs.pairs.Loses.{Loses, loses_same}
use Rattle.tp_runs.proofs.pairs.Pair.{Asker, Pair}
use Rattle.tp_runs.proofs.pairs.Site.{Site, count, upto}
use Rattle.tp_runs.proofs.deeds.Runs.{deed_at}

-- ---- the coordinator

-- the coordinator is further on: it keeps the epoch and its deeds, leaves the way to a vote no more, and pauses
-- until its turn rises
pub record Later (a b : Asker) : Type 0 where
  pub live : (turn before : ℕ) → Live turn before a → Live turn before b
  pub more : List Deed
  pub deeds : b.deeds ≡ a.deeds ++ more
  pub epoch : (epoch : ℕ) → a.epoch ≡ Some epoch → b.epoch ≡ Some epoch
  pub prepares : a.stand ≡ Prepares → b.stand ≡ Prepares
  pub turn_past : a.turn ≤ b.turn
  pub pauses : a.stand ≡ Pauses → b.turn ≡ a.turn → (b.stand ≡ Pauses) × (b.deeds ≡ a.deeds)

-- the coordinator is further on, or has decided or crashed, and then it asks no more
abbrev pub Onward : Option Asker → Option Asker → Type 0
Onward None None = Unit {0}
Onward None (Some b) = ⊥
Onward (Some a) None = Unit {0}
Onward (Some a) (Some b) = Later a b

pub later_same : (a : Asker) → Later a a
later_same a =
    record {
      live = λ turn before l. l;
      more = [];
      deeds = sym (append-nil a.deeds);
      epoch = λ e f. f;
      prepares = λ f. f;
      turn_past = omega arith;
      pauses = λ f same. (f, refl);
    }

later_both : (a b c : Asker) → Later a b → Later b c → Later a c
later_both a b c first second =
    record {
      live = λ turn before l. second.live turn before (first.live turn before l);
      more = first.more ++ second.more;
      deeds = second.deeds ∙ (ap (λ (deeds : List Deed). deeds ++ second.more) first.deeds ∙ append_assoc a.deeds first.more second.more);
      epoch = λ e f. second.epoch e (first.epoch e f);
      prepares = λ f. second.prepares (first.prepares f);
      turn_past = let one = first.turn_past in let other = second.turn_past in omega (arith, one, other);
      pauses = λ f same.
          let one = first.turn_past in
          let other = second.turn_past in
          let here : b.turn ≡ a.turn = omega (arith, one, other, same) in
          let still = first.pauses f here in
          let end = second.pauses still.0 (omega (arith, same, here)) in
          (end.0, end.1 ∙ still.1);
    }

pub onward_same : (o : Option Asker) → Onward o o
onward_same None = tt
onward_same (Some a) = later_same a

onward_both : (o u v : Option Asker) → Onward o u → Onward u v → Onward o v
onward_both None None None first second = tt
onward_both None None (Some c) first second = second
onward_both None (Some b) v first second = absurd first
onward_both (Some a) u None first second = tt
onward_both (Some a) None (Some c) first second = absurd second
onward_both (Some a) (Some b) (Some c) first second = later_both a b c first second

-- what holds of a coordinator that may be there stays true of one further on
some_onward : (P : Asker → Type 0) (o u : Option Asker) → ((a b : Asker) → Later a b → P a → P b) → Onward o u → IfSome o P → IfSome u P
some_onward P o None step onward h = tt
some_onward P None (Some b) step onward h = absurd onward
some_onward P (Some a) (Some b) step onward h = step a b onward h

-- the first deeds stay
front_later : (a b : Asker) (before : ℕ) → Later a b → before ≤ length a.deeds → take before b.deeds ≡ take before a.deeds
front_later a b before later within = ap (take before) later.deeds ∙ take-append-le before a.deeds later.more within

-- ---- both

pub record Follows (p q : Pair) : Type 0 where
  pub grows : Grows p q
  pub onward : Onward p.asker q.asker

-- the state after an event
pub record Next (s : Site) (p q : Pair) : Type 0 where
  pub fits : Fits s q
  pub follows : Follows p q

-- a coordinator goes on, and the server holds what it held or less
pub follows_lost : (p q : Pair) → Loses p q → Onward p.asker q.asker → Follows p q
follows_lost p q loses onward = record { grows = loses_grows p q loses; onward = onward }

pub follows_both : (p q r : Pair) → Follows p q → Follows q r → Follows p r
follows_both p q r first second =
    record { grows = grows_both p q r first.grows second.grows; onward = onward_both p.asker q.asker r.asker first.onward second.onward }

-- one event after another
pub next_both : (s : Site) (p q r : Pair) → Next s p q → Next s q r → Next s p r
next_both s p q r first second = record { fits = second.fits; follows = follows_both p q r first.follows second.follows }

-- no event
pub next_same : (s : Site) (p : Pair) → Fits s p → Next s p p
next_same s p h = record { fits = h; follows = follows_lost p p (loses_same p p refl refl refl refl) (onward_same p.asker) }

-- ---- mails

query_live : (s : Site) (q : QueryRequest) (before : ℕ) (a b : Asker) → Later a b → QueryLive s q before a → QueryLive s q before b
query_live s q before a b later h =
    record {
      live = later.live q.turn before h.live;
      epoch = some_as (λ (e : ℕ). a.epoch ≡ Some e) (λ (e : ℕ). b.epoch ≡ Some e) q.epoch (λ e named kept. later.epoch e kept) h.epoch;
      value = h.value ∙ ap (λ (deeds : List Deed). asked_value s.txn deeds (before + 1)) (sym (front_later a b before later h.live.past));
    }

-- a request to run a query fits what follows
pub query_follows : (s : Site) (p q : Pair) (r : QueryRequest) → Follows p q → QueryFits s p r → QueryFits s q r
query_follows s p q r f h =
    record {
      before = h.before;
      number_is = h.number_is;
      is_here = h.is_here;
      first = h.first;
      covers = some_as (λ (e : ℕ). Tells p e (Covers s h.before)) (λ (e : ℕ). Tells q e (Covers s h.before)) r.epoch
          (λ e named told. tells_grown p q e (Covers s h.before) (covers_more s h.before) f.grows told) h.covers;
      live = some_onward (QueryLive s r h.before) p.asker q.asker (query_live s r h.before) f.onward h.live;
    }

ran_live : (s : Site) (done : DoneReply) (value : ℤ) (before : ℕ) (a b : Asker) → Later a b → RanLive s done value before a → RanLive s done value before b
ran_live s done value before a b later h =
    record {
      live = later.live done.turn before h.live;
      epoch = ⊎_elim (λ (none : upto s before ≡ []). inl none) (λ (kept : a.epoch ≡ Some done.epoch). inr (later.epoch done.epoch kept)) h.epoch;
      asked = subst (λ (deeds : List Deed). IsAsked s deeds (before + 1) value) (sym (front_later a b before later h.live.past)) h.asked;
    }

ran_follows : (s : Site) (p q : Pair) (done : DoneReply) (value : ℤ) → Follows p q → RanFits s p done value → RanFits s q done value
ran_follows s p q done value f h =
    let deed = deed_at s.txn (h.before + 1) value in
    record {
      before = h.before;
      number_is = h.number_is;
      is_here = h.is_here;
      told = tells_grown p q done.epoch (λ (deeds : List Deed). Contains deeds deed) (λ deeds more has. Contains-append_left deeds more deed has) f.grows h.told;
      live = some_onward (RanLive s done value h.before) p.asker q.asker (ran_live s done value h.before) f.onward h.live;
    }

answered_follows : (s : Site) (p q : Pair) (done : DoneReply) → Follows p q → AnsweredFits s p done → AnsweredFits s q done
answered_follows s p q done f h =
    record { before = h.before; number_is = h.number_is; is_here = h.is_here; live = some_onward (Live done.turn h.before) p.asker q.asker (λ a b later live. later.live done.turn h.before live) f.onward h.live }

answer_follows : (s : Site) (p q : Pair) (done : DoneReply) (said : Answer) → Follows p q → AnswerFits s p done said → AnswerFits s q done said
answer_follows s p q done (answer.Ran value verdict) f h = ran_follows s p q done value f h
answer_follows s p q done _ f h = answered_follows s p q done f h

-- an answer fits what follows
pub done_follows : (s : Site) (p q : Pair) (done : DoneReply) → Follows p q → DoneFits s p done → DoneFits s q done
done_follows s p q done f h = answer_follows s p q done done.answer f h

prepare_live : (r : PrepareRequest) (a b : Asker) → Later a b → PrepareLive r a → PrepareLive r b
prepare_live r a b later h = record { epoch = later.epoch r.epoch h.epoch; prepares = later.prepares h.prepares }

-- a request to prepare fits what follows
pub prepare_follows : (s : Site) (p q : Pair) (r : PrepareRequest) → Follows p q → PrepareFits s p r → PrepareFits s q r
prepare_follows s p q r f h =
    record {
      some = h.some;
      covers = tells_grown p q r.epoch (Covers s (count s)) (covers_more s (count s)) f.grows h.covers;
      names = h.names;
      live = some_onward (PrepareLive r) p.asker q.asker (prepare_live r) f.onward h.live;
    }

-- what is said of the present turn stays, as the coordinator pauses until its next request
proof_live : (turn : ℕ) (P Q : Type 0) (a b : Asker) → Later a b → (b.deeds ≡ a.deeds → P → Q) → ProofLive turn P a → ProofLive turn Q b
proof_live turn P Q a b later step h = record { past = omega (arith, before, on); pauses = λ same. (still same).0; now = λ same. step (still same).1 (h.now (present same)) }
  where
    before : turn ≤ a.turn
    before = h.past

    on : a.turn ≤ b.turn
    on = later.turn_past

    present : turn ≡ b.turn → turn ≡ a.turn
    present same = omega (arith, before, on, same)

    still : turn ≡ b.turn → (b.stand ≡ Pauses) × (b.deeds ≡ a.deeds)
    still same = later.pauses (h.pauses (present same)) (omega (arith, before, on, same))

-- a request to validate fits what follows
pub validate_follows : (s : Site) (p q : Pair) (v : ValidateRequest) → Follows p q → ValidateFits s p v → ValidateFits s q v
validate_follows s p q v f h =
    record {
      told = tells_grown p q v.epoch (λ (deeds : List Deed). Unit {0}) (λ deeds more was. tt) f.grows h.told;
      live = some_onward (ValidateLive s v) p.asker q.asker stays f.onward h.live;
    }
  where
    stays : (a b : Asker) → Later a b → ValidateLive s v a → ValidateLive s v b
    stays a b later live =
        proof_live v.turn ((a.epoch ≡ Some v.epoch) × NamesIfAny s (length a.deeds) v.want) ((b.epoch ≡ Some v.epoch) × NamesIfAny s (length b.deeds) v.want) a b later
        (λ same now. (later.epoch v.epoch now.0, subst (λ (deeds : List Deed). NamesIfAny s (length deeds) v.want) (sym same) now.1)) live

-- and so does the answer to it
pub verdicts_follow : (s : Site) (p q : Pair) (reply : VerdictsReply) → Follows p q → VerdictsFits s p reply → VerdictsFits s q reply
verdicts_follow s p q reply f h = some_onward (VerdictsLive s reply) p.asker q.asker stays f.onward h
  where
    stays : (a b : Asker) → Later a b → VerdictsLive s reply a → VerdictsLive s reply b
    stays a b later live =
        proof_live reply.turn (IfSome reply.verdicts (AreUpto s (length a.deeds))) (IfSome reply.verdicts (AreUpto s (length b.deeds))) a b later
        (λ same on. subst (λ (deeds : List Deed). IfSome reply.verdicts (AreUpto s (length deeds))) (sym same) on) live

-- ---- entries

waits_follows : (s : Site) (p q : Pair) (entry : Entry) (r : QueryRequest) → Follows p q → Waits s p entry r → Waits s q entry r
waits_follows s p q entry r f h = record { fits = query_follows s p q r f h.fits; epoch_is = h.epoch_is; fresh = h.fresh; unvoted = h.unvoted }

-- answers that are kept fit what follows
pub answers_follow : (s : Site) (p q : Pair) (answers : List DoneReply) → Follows p q → Each (DoneFits s p) answers → Each (DoneFits s q) answers
answers_follow s p q answers f h = each_as (DoneFits s p) (DoneFits s q) (λ done fits. done_follows s p q done f fits) answers h

-- an entry fits what follows while the server's epoch stays
pub entry_follows : (s : Site) (p q : Pair) (entry : Entry) → Follows p q → q.epoch ≡ p.epoch → EntryFits s p entry → EntryFits s q entry
entry_follows s p q entry f same h =
    record {
      waiting = some_as (Waits s p entry) (Waits s q entry) entry.waiting (λ r is w. waits_follows s p q entry r f w) h.waiting;
      answers = answers_follow s p q entry.answers f h.answers;
      answered = h.answered;
      present = λ unvoted. h.present unvoted ∙ sym same;
      ballot = h.ballot;
    }
