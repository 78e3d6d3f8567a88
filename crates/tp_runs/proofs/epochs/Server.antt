-- Epochs, the actors' rows: what a server does it does in its epoch, and of a server that has told its epoch a coordinator keeps and
-- names the one that was asked. A says which epochs were asked, E the present epoch of each server.
use Rattle.std.specs.Option.{option_map_or}
use Rattle.std.proofs.Common.{Bool, IfSome, List, None, Option, Some, [], ap, arith, false, is_none, is_some, not, option_map, refl, subst, sym, true, ℕ, ℤ, ⊎_elim, ◌==◌, ◌∙◌, ◌∷◌, ◌≡◌, ◌≤◌}
use Rattle.std.proofs.lemmas.Bool.{eqb-true, not-false}
use Rattle.std.proofs.lemmas.Option.{same_Some}
use Rattle.tp_types.specs.Effect.{Effect, ignores, sends}
use Rattle.tp_lock.specs.declared.entry.Grant.{Grant}
use Rattle.tp_model.specs.Words.actor
use Rattle.tp_model.specs.Words.answer
use Rattle.tp_model.specs.Words.body
use Rattle.tp_model.specs.Words.log
use Rattle.tp_model.specs.Words.{Actor, Answer, Body, Deed, DoneReply, Letter, Mail, PrepareRequest, Prepared, PushNotice, Query, QueryRequest, Record, Scenario, ServerId, Settled, TxnId, Verdict}
use Rattle.tp_types.proofs.EachLemmas.{each_append, each_as, each_found, each_more, placed_emptied, placed_set}
use Rattle.tp_runs.proofs.basics.Phases.{is_first_at}
use Rattle.tp_runs.proofs.epochs.Asked.{Asking, IsAsked, IsOwnNaming, LetterNamed, NamesNone, NamesOwn, naming, naming_of}
use Rattle.tp_server.proofs.Rows.{AreRightWaits, IsAsking, IsFirstHere, IsFurther, IsResumed, resuming, server_by, unwaiting}
use Rattle.tp_recover.proofs.LogLemmas.{boots_push}
use Rattle.tp_recover.specs.Log.{epoch_in}
use Rattle.tp_actor_log.specs.Records.{log_with}
use Rattle.tp_model.specs.Deeds.{deed_of}
use Rattle.tp_types.specs.Each.{Each, EachPlaced}
use Rattle.tp_server.specs.declared.server.Entry.{Entry}
use Rattle.tp_server.specs.Row as server
use Rattle.tp_server.specs.State.{Server}
use Rattle.tp_server.specs.Verdicts.{with_wants}

-- ---- what is said of epochs

-- a query names no epoch exactly where it is its transaction's first at that server
abbrev pub QueryFirst : Scenario → Actor → Body → Type 0
QueryFirst sc (actor.Server at) (body.Query q) = is_none q.epoch ≡ is_first_at sc at q.txn q.query
QueryFirst sc _ _ = Unit {0}

abbrev pub LetterFirst : Scenario → Letter → Type 0
LetterFirst sc letter = QueryFirst sc letter.to letter.body

abbrev pub has_restarted : Answer → Bool
has_restarted answer.Restarted = true
has_restarted _ = false

-- an answer tells an epoch that its server had; to a query that is not the first there, unless the server has restarted, the one that is asked
pub record DoneMade (sc : Scenario) (A : Asking) (at : ServerId) (epoch : ℕ) (done : DoneReply) : Type 0 where
  pub past : done.epoch ≤ epoch
  pub asked : has_restarted done.answer ≡ false → is_first_at sc at done.txn done.query ≡ false → A done.txn at ≡ Some done.epoch

abbrev pub DoneTold : Scenario → Asking → (ℕ → ℕ) → Actor → DoneReply → Type 0
DoneTold sc A E (actor.Server at) done = DoneMade sc A at (E at.0) done
DoneTold sc A E _ done = Unit {0}

abbrev pub BodyTold : Scenario → Asking → (ℕ → ℕ) → Actor → Body → Type 0
BodyTold sc A E from (body.Done done) = DoneTold sc A E from done
BodyTold sc A E from _ = Unit {0}

abbrev pub LetterTold : Scenario → Asking → (ℕ → ℕ) → Letter → Type 0
LetterTold sc A E letter = BodyTold sc A E letter.from letter.body

-- letters that are sent where these epochs are asked
pub record LettersEpochs (sc : Scenario) (A : Asking) (E : ℕ → ℕ) (letters : List Letter) : Type 0 where
  pub named : Each (LetterNamed A) letters
  pub first : Each (LetterFirst sc) letters
  pub told : Each (LetterTold sc A E) letters

-- ---- letters that name no epoch and tell none

abbrev pub IsPlain : Body → Type 0
IsPlain (body.Query q) = ⊥
IsPlain (body.Validate v) = ⊥
IsPlain (body.Prepare p) = ⊥
IsPlain (body.Done done) = ⊥
IsPlain _ = Unit {0}

abbrev pub IsPlainLetter : Letter → Type 0
IsPlainLetter letter = IsPlain letter.body

plain_none : (said : Body) → IsPlain said → naming_of said ≡ None
plain_none (body.Query q) h = absurd h
plain_none (body.Validate v) h = absurd h
plain_none (body.Prepare p) h = absurd h
plain_none _ h = refl

if_none : {A : Type 0} (P : A → Type 0) (found : Option A) → found ≡ None → IfSome found P
if_none P None e = tt
if_none P (Some x) e = absurd (cc)

plain_first : (sc : Scenario) (to : Actor) (said : Body) → IsPlain said → QueryFirst sc to said
plain_first sc (actor.Server at) (body.Query q) h = absurd h
plain_first sc _ _ h = tt

plain_told : (sc : Scenario) (A : Asking) (E : ℕ → ℕ) (from : Actor) (said : Body) → IsPlain said → BodyTold sc A E from said
plain_told sc A E from (body.Done done) h = absurd h
plain_told sc A E from _ h = tt

pub plain_names_none : (letters : List Letter) → Each IsPlainLetter letters → Each NamesNone letters
plain_names_none letters h = each_as IsPlainLetter NamesNone (λ letter k. plain_none letter.body k) letters h

pub plain_names_own : (txn : TxnId) (letters : List Letter) → Each IsPlainLetter letters → Each (NamesOwn txn) letters
plain_names_own txn letters h = each_as IsPlainLetter (NamesOwn txn) (λ letter k. if_none (IsOwnNaming txn) (naming_of letter.body) (plain_none letter.body k)) letters h

pub plain_letters : (sc : Scenario) (A : Asking) (E : ℕ → ℕ) (letters : List Letter) → Each IsPlainLetter letters → LettersEpochs sc A E letters
plain_letters sc A E letters h =
    record {
      named = each_as IsPlainLetter (LetterNamed A) (λ letter k. if_none (IsAsked A letter.to) (naming_of letter.body) (plain_none letter.body k)) letters h;
      first = each_as IsPlainLetter (LetterFirst sc) (λ letter k. plain_first sc letter.to letter.body k) letters h;
      told = each_as IsPlainLetter (LetterTold sc A E) (λ letter k. plain_told sc A E letter.from letter.body k) letters h;
    }

-- ---- logs

-- and never falls
pub epoch_rises : (kept : List Record) (append : Option Record) → epoch_in kept ≤ epoch_in (log_with kept append)
epoch_rises kept None = omega arith
epoch_rises kept (Some forced) = omega (arith, boots_push kept forced)

-- ---- a server

-- a query that waits is asked like its mail, and of the entry's epoch
pub record WaitsMade (sc : Scenario) (A : Asking) (at : ServerId) (epoch : ℕ) (q : QueryRequest) : Type 0 where
  pub first : is_none q.epoch ≡ is_first_at sc at q.txn q.query
  pub named : IfSome q.epoch (λ (named : ℕ). (A q.txn at ≡ Some named) × (named ≡ epoch))

-- an entry was made in the server's epoch or before; one that is not prepared in that epoch. Its answers tell epochs that the server had
pub record EntryMade (sc : Scenario) (A : Asking) (at : ServerId) (epoch : ℕ) (entry : Entry) : Type 0 where
  pub past : entry.epoch ≤ epoch
  pub present : is_none entry.ballot ≡ true → entry.epoch ≡ epoch
  pub waiting : IfSome entry.waiting (WaitsMade sc A at entry.epoch)
  pub answers : Each (DoneMade sc A at epoch) entry.answers

-- a server's epoch is that of its log
pub record ServerMade (sc : Scenario) (A : Asking) (at : ServerId) (s : Server) (kept : List Record) : Type 0 where
  pub epoch_is : s.epoch ≡ epoch_in kept
  pub entries : EachPlaced (λ (n : ℕ) (entry : Entry). EntryMade sc A at s.epoch entry) s.entries

-- what is prepared was made in an epoch that the server had, and in the one that is asked
pub record PreparedMade (A : Asking) (at : ServerId) (epoch : ℕ) (txn : TxnId) (p : Prepared) : Type 0 where
  pub past : p.epoch ≤ epoch
  pub asked : A txn at ≡ Some p.epoch

abbrev pub RecordMade : Asking → ServerId → ℕ → Record → Type 0
RecordMade A at epoch (log.Prepared p) = PreparedMade A at epoch p.txn p
RecordMade A at epoch _ = Unit {0}

-- a reply names no epoch, and tells one of the server
abbrev pub ReplyMade : Scenario → Asking → ServerId → ℕ → Actor → Body → Type 0
ReplyMade sc A at epoch from (body.Done done) = (from ≡ actor.Server at) × DoneMade sc A at epoch done
ReplyMade sc A at epoch from (body.Query q) = ⊥
ReplyMade sc A at epoch from (body.Validate v) = ⊥
ReplyMade sc A at epoch from (body.Prepare p) = ⊥
ReplyMade sc A at epoch from _ = Unit {0}

-- an act of a server: what it is after it, if it is up, the record that it forced, and its letters
pub record ServerEpochs (sc : Scenario) (A : Asking) (at : ServerId) (kept : List Record) (now : Option Server) (append : Option Record) (letters : List Letter) : Type 0 where
  pub made : IfSome now (λ (s : Server). ServerMade sc A at s (log_with kept append))
  pub forces : IfSome append (RecordMade A at (epoch_in kept))
  pub replies : Each (λ (letter : Letter). ReplyMade sc A at (epoch_in (log_with kept append)) letter.from letter.body) letters

-- that of a row
abbrev pub RowEpochs : Scenario → Asking → Server → List Record → Effect Server → Type 0
RowEpochs sc A s kept effect = ServerEpochs sc A s.server kept (Some effect.state) effect.reaction.append effect.reaction.letters

ignores_made : (sc : Scenario) (A : Asking) (s : Server) (kept : List Record) → ServerMade sc A s.server s kept → RowEpochs sc A s kept (ignores s)
ignores_made sc A s kept h = record { made = h; forces = tt; replies = tt }

-- the epoch that a request names where it names none but the entry's
pub same_named : (epoch : Option ℕ) (named of_entry : ℕ) → epoch ≡ Some named → option_map_or (λ (e : ℕ). not (e == of_entry)) epoch false ≡ false → named ≡ of_entry
same_named None named of_entry is same = absurd (cc)
same_named (Some e) named of_entry is same =
    let one : e ≡ named = same_Some e named is in
    omega (arith, one, eqb-true e of_entry (not-false (e == of_entry) same))

-- a request that names an epoch names the one that is asked
record IsAskedEpoch (A : Asking) (at : ServerId) (q : QueryRequest) : Type 0 where
  pub named : ℕ
  pub epoch_is : q.epoch ≡ Some named
  pub asked : A q.txn at ≡ Some named

asked_epoch : (A : Asking) (at : ServerId) (q : QueryRequest) (epoch : Option ℕ) → q.epoch ≡ epoch → is_none epoch ≡ false → IfSome (option_map (naming q.txn) epoch) (IsAsked A (actor.Server at)) → IsAskedEpoch A at q
asked_epoch A at q None is none h = absurd (cc)
asked_epoch A at q (Some named) is none h = record { named = named; epoch_is = is; asked = h }

-- an entry at which a query runs is made as entries are; a further query names the entry's epoch, which is the one that is asked
record IsRunMade (sc : Scenario) (A : Asking) (s : Server) (q : QueryRequest) (entry : Entry) : Type 0 where
  pub made : EntryMade sc A s.server s.epoch entry
  pub asked : is_first_at sc s.server q.txn q.query ≡ false → A q.txn s.server ≡ Some entry.epoch

none_of_in_epochs : (epoch : Option ℕ) → is_some epoch ≡ false → is_none epoch ≡ true
none_of_in_epochs None e = refl
none_of_in_epochs (Some named) e = absurd (cc)

run_made : (sc : Scenario) (A : Asking) (s : Server) (kept : List Record) (mail : Mail) (q : QueryRequest) (query : Query) (entry : Entry) (value : ℤ) → ServerMade sc A s.server s kept
    → is_none q.epoch ≡ is_first_at sc s.server q.txn q.query → IfSome (option_map (naming q.txn) q.epoch) (IsAsked A (actor.Server s.server)) → IsAsking sc s mail q query entry value → IsRunMade sc A s q entry
run_made sc A s kept mail q query entry value h first m k =
    ⊎_elim
    (λ (new : IsFirstHere s mail.sent q entry).
    record {
      made = subst (EntryMade sc A s.server s.epoch) (sym new.entry_is) (record { past = omega arith; present = λ none. refl; waiting = tt; answers = tt });
      asked = λ later.
          let unnamed : is_none q.epoch ≡ true = none_of_in_epochs q.epoch new.unnamed in
          absurd (cc);
    })
    (λ (further : IsFurther s q entry).
    record {
      made = h.entries q.txn.0 entry further.found;
      asked = λ later.
          let n : IsAskedEpoch A s.server q = asked_epoch A s.server q q.epoch refl (first ∙ later) m in
          n.asked ∙ ap Some (same_named q.epoch n.named entry.epoch n.epoch_is further.same_epoch);
    }) k.place

runs_made : (sc : Scenario) (A : Asking) (s : Server) (kept : List Record) (q : QueryRequest) (query : Query) (entry : Entry) (deed : Deed) (proof : Option Verdict) → ServerMade sc A s.server s kept → IsRunMade sc A s q entry
    → RowEpochs sc A s kept (server.completes s q query entry deed proof)
runs_made sc A s kept q query entry deed proof h r =
    let answer : DoneMade sc A s.server s.epoch (server.reply_of q entry.epoch (server.ran_as deed proof)) = record { past = r.made.past; asked = λ ran later. r.asked later } in
    record {
      made = record {
        epoch_is = h.epoch_is;
        entries = placed_set (λ (n : ℕ) (found : Entry). EntryMade sc A s.server s.epoch found) s.entries q.txn.0 (server.entry_after q entry deed proof) h.entries
            (record {
              past = r.made.past;
              present = r.made.present;
              waiting = r.made.waiting;
              answers = each_append (DoneMade sc A s.server s.epoch) entry.answers (server.reply_of q entry.epoch (server.ran_as deed proof) ∷ []) r.made.answers (answer, tt);
            });
      };
      forces = tt;
      replies = ((refl, record { past = omega (arith, answer.past, h.epoch_is); asked = answer.asked }), tt);
    }

-- the entry at which a query asks changes
entry_made : (sc : Scenario) (A : Asking) (s : Server) (kept : List Record) (txn : TxnId) (entry : Entry) (letters : List Letter) → ServerMade sc A s.server s kept → EntryMade sc A s.server s.epoch entry
    → Each (λ (letter : Letter). ReplyMade sc A s.server (epoch_in kept) letter.from letter.body) letters → RowEpochs sc A s kept (sends (server.with_entry s txn (Some entry)) letters)
entry_made sc A s kept txn entry letters h made replies =
    record {
      made = record { epoch_is = h.epoch_is; entries = placed_set (λ (n : ℕ) (found : Entry). EntryMade sc A s.server s.epoch found) s.entries txn.0 entry h.entries made };
      forces = tt;
      replies = replies;
    }

-- what a query that does not run is answered is kept and given
denies_made : (sc : Scenario) (A : Asking) (s : Server) (kept : List Record) (q : QueryRequest) (entry : Entry) (given : Answer) → ServerMade sc A s.server s kept → IsRunMade sc A s q entry
    → RowEpochs sc A s kept (server.answers_with s q entry given)
denies_made sc A s kept q entry given h r =
    let answer : DoneMade sc A s.server s.epoch (server.reply_of q entry.epoch given) = record { past = r.made.past; asked = λ stands later. r.asked later } in
    entry_made sc A s kept q.txn (server.with_answer q entry given) _ h
    (record { past = r.made.past; present = r.made.present; waiting = r.made.waiting; answers = each_more (DoneMade sc A s.server s.epoch) entry.answers _ r.made.answers answer })
    ((refl, record { past = omega (arith, answer.past, h.epoch_is); asked = answer.asked }), tt)

-- the epoch that a query names which waits is the entry's
waits_named : (sc : Scenario) (A : Asking) (s : Server) (mail : Mail) (q : QueryRequest) (query : Query) (entry : Entry) (value : ℤ) → IfSome (option_map (naming q.txn) q.epoch) (IsAsked A (actor.Server s.server))
    → IsAsking sc s mail q query entry value → IfSome q.epoch (λ (named : ℕ). (A q.txn s.server ≡ Some named) × (named ≡ entry.epoch))
waits_named sc A s mail q query entry value m k =
    ⊎_elim (λ (new : IsFirstHere s mail.sent q entry). none_named q.epoch new.unnamed) (λ (further : IsFurther s q entry). named q.epoch refl m further.same_epoch) k.place
  where
    none_named : (epoch : Option ℕ) → is_some epoch ≡ false → IfSome epoch (λ (n : ℕ). (A q.txn s.server ≡ Some n) × (n ≡ entry.epoch))
    none_named None e = tt
    none_named (Some n) e = absurd (cc)

    named : (epoch : Option ℕ) → q.epoch ≡ epoch → IfSome (option_map (naming q.txn) epoch) (IsAsked A (actor.Server s.server)) → option_map_or (λ (e : ℕ). not (e == entry.epoch)) epoch false ≡ false
        → IfSome epoch (λ (n : ℕ). (A q.txn s.server ≡ Some n) × (n ≡ entry.epoch))
    named None e asked same = tt
    named (Some n) e asked same = (asked, same_named (Some n) n entry.epoch refl same)

-- a query that waited names the entry's epoch, which is the one that is asked
waited_asked : (sc : Scenario) (A : Asking) (at : ServerId) (epoch : ℕ) (q : QueryRequest) → WaitsMade sc A at epoch q → is_first_at sc at q.txn q.query ≡ false → A q.txn at ≡ Some epoch
waited_asked sc A at epoch q h later = named q.epoch (h.first ∙ later) h.named
  where
    named : (told : Option ℕ) → is_none told ≡ false → IfSome told (λ (n : ℕ). (A q.txn at ≡ Some n) × (n ≡ epoch)) → A q.txn at ≡ Some epoch
    named None none k = absurd (cc)
    named (Some n) none k = k.0 ∙ ap (λ (m : ℕ). Some m) k.1

-- the entry of what waited is made as that of a query which runs
resumed_made : (sc : Scenario) (A : Asking) (at : ServerId) (now : List Record) (was : Server) (grant : Grant) (q : QueryRequest) (query : Query) (entry : Entry) (value : ℤ) → IsResumed sc at was grant q query entry value
    → ServerMade sc A was.server was now → IsRunMade sc A was q (unwaiting entry)
resumed_made sc A at now was grant q query entry value k made =
    let old : EntryMade sc A was.server was.epoch entry = made.entries q.txn.0 entry k.found in
    let waited : WaitsMade sc A was.server entry.epoch q = subst (λ (w : Option QueryRequest). IfSome w (WaitsMade sc A was.server entry.epoch)) k.waiting_is old.waiting in
    record { made = record { past = old.past; present = old.present; waiting = tt; answers = old.answers }; asked = waited_asked sc A was.server entry.epoch q waited }

-- what waited goes on, after what was done before
goes_on_made : (sc : Scenario) (A : Asking) (s : Server) (kept : List Record) (effect : Effect Server) (now : Server) (letters : List Letter) → effect.state.server ≡ s.server → RowEpochs sc A s kept effect
    → (ServerMade sc A effect.state.server effect.state (log_with kept effect.reaction.append) → RowEpochs sc A effect.state (log_with kept effect.reaction.append) (sends now letters))
    → RowEpochs sc A s kept (server.followed_by effect (sends now letters))
goes_on_made sc A s kept effect now letters server_is h further =
    let log = log_with kept effect.reaction.append in
    let made : ServerMade sc A effect.state.server effect.state log = subst (λ (at : ServerId). ServerMade sc A at effect.state log) (sym server_is) h.made in
    let own : ServerEpochs sc A s.server log (Some now) None letters = subst (λ (at : ServerId). ServerEpochs sc A at log (Some now) None letters) server_is (further made) in
    record { made = own.made; forces = h.forces; replies = each_append (λ (letter : Letter). ReplyMade sc A s.server (epoch_in log) letter.from letter.body) effect.reaction.letters _ h.replies own.replies }

-- it runs
resumes_made : (sc : Scenario) (A : Asking) (s : Server) (kept : List Record) (effect : Effect Server) (grant : Grant) (q : QueryRequest) (query : Query) (entry : Entry) (value : ℤ) (proof : Option Verdict)
    → IsResumed sc s.server effect.state grant q query entry value → RowEpochs sc A s kept effect → RowEpochs sc A s kept (server.followed_by effect (resuming effect.state q query entry value proof))
resumes_made sc A s kept effect grant q query entry value proof k h =
    let log = log_with kept effect.reaction.append in
    goes_on_made sc A s kept effect (resuming effect.state q query entry value proof).state _ k.server_is h
    (λ made. runs_made sc A effect.state log q query (unwaiting entry) (deed_of q.query query value) proof made (resumed_made sc A s.server log effect.state grant q query entry value k made))

-- or it does not run
resumes_unrun : (sc : Scenario) (A : Asking) (s : Server) (kept : List Record) (effect : Effect Server) (grant : Grant) (q : QueryRequest) (query : Query) (entry : Entry) (value : ℤ) (given : Answer)
    → IsResumed sc s.server effect.state grant q query entry value → RowEpochs sc A s kept effect → RowEpochs sc A s kept (server.followed_by effect (server.answers_with effect.state q (unwaiting entry) given))
resumes_unrun sc A s kept effect grant q query entry value given k h =
    let log = log_with kept effect.reaction.append in
    goes_on_made sc A s kept effect (server.answers_with effect.state q (unwaiting entry) given).state _ k.server_is h
    (λ made. denies_made sc A effect.state log q (unwaiting entry) given made (resumed_made sc A s.server log effect.state grant q query entry value k made))

-- an answer that is given again, or that the server restarted
answers_made : (sc : Scenario) (A : Asking) (s : Server) (kept : List Record) (q : QueryRequest) (given : DoneReply) → ServerMade sc A s.server s kept → DoneMade sc A s.server s.epoch given
    → RowEpochs sc A s kept (server.answers s q.txn given)
answers_made sc A s kept q given h d = record { made = h; forces = tt; replies = ((refl, record { past = omega (arith, d.past, h.epoch_is); asked = d.asked }), tt) }

votes_made : (sc : Scenario) (A : Asking) (s : Server) (kept : List Record) (p : PrepareRequest) (verdicts : List Verdict) (entry : Entry) → ServerMade sc A s.server s kept → server.entry_at s p.txn ≡ Some entry
    → entry.epoch ≡ p.epoch → A p.txn s.server ≡ Some p.epoch → RowEpochs sc A s kept (server.votes (with_wants s p.want) p verdicts entry)
votes_made sc A s kept p verdicts entry h e same m =
    let old : EntryMade sc A s.server s.epoch entry = h.entries p.txn.0 entry e in
    record {
      made = record {
        epoch_is = omega (arith, h.epoch_is, boots_push kept (log.Prepared (server.prepared_record (with_wants s p.want) p entry verdicts)));
        entries = placed_set (λ (n : ℕ) (found : Entry). EntryMade sc A s.server s.epoch found) s.entries p.txn.0 _ h.entries
            (record { past = old.past; present = λ none. absurd (cc); waiting = old.waiting; answers = old.answers });
      };
      forces = record { past = omega (arith, old.past, h.epoch_is); asked = m ∙ ap (λ (n : ℕ). Some n) (sym same) };
      replies = (tt, tt);
    }

ends_made : (sc : Scenario) (A : Asking) (s : Server) (kept : List Record) (order : Settled) (letter : Letter) → ServerMade sc A s.server s kept → ReplyMade sc A s.server (epoch_in (log_with kept (Some (log.Settled order)))) letter.from letter.body → RowEpochs sc A s kept (server.closes s order letter)
ends_made sc A s kept order letter h reply =
    record {
      made = record {
        epoch_is = omega (arith, h.epoch_is, boots_push kept (log.Settled order));
        entries = placed_emptied (λ (n : ℕ) (entry : Entry). EntryMade sc A s.server s.epoch entry) s.entries order.txn.0 h.entries;
      };
      forces = tt;
      replies = (reply, tt);
    }

learns_made : (sc : Scenario) (A : Asking) (s : Server) (kept : List Record) (push : PushNotice) → ServerMade sc A s.server s kept → RowEpochs sc A s kept (server.learns s push)
learns_made sc A s kept push h =
    record { made = record { epoch_is = omega (arith, h.epoch_is, boots_push kept (log.Told (server.told_of push))); entries = h.entries }; forces = tt; replies = tt }

-- every row of a server on receipt of a mail
pub server_row_made : (sc : Scenario) (A : Asking) (s : Server) (kept : List Record) (mail : Mail) → AreRightWaits sc s → ServerMade sc A s.server s kept → QueryFirst sc (actor.Server s.server) mail.letter.body
    → IfSome (naming_of mail.letter.body) (IsAsked A (actor.Server s.server)) → RowEpochs sc A s kept (server.server_row sc s mail)
server_row_made sc A s kept mail waits h first m =
    server_by sc s mail (RowEpochs sc A s kept) waits
    (record {
      relocked = λ effect locks k. record { made = record { epoch_is = k.made.epoch_is; entries = k.made.entries }; forces = k.forces; replies = k.replies };
      relearnt = λ effect admin pin k. record { made = record { epoch_is = k.made.epoch_is; entries = k.made.entries }; forces = k.forces; replies = k.replies };
      ignored = ignores_made sc A s kept h;
      ran = λ q query entry value proof k r. runs_made sc A s kept q query entry (deed_of q.query query value) proof h (asking q query entry value k);
      denied = λ q query entry value verdict k d. denies_made sc A s kept q entry (answer.Denied verdict) h (asking q query entry value k);
      outdated = λ q query entry value newer k known. denies_made sc A s kept q entry (answer.Newer newer) h (asking q query entry value k);
      waited = λ q query entry value k.
          let r = asking q query entry value k in
          entry_made sc A s kept q.txn (record entry { waiting = Some q }) [] h
          (record { past = r.made.past; present = r.made.present; waiting = record { first = first_is q k.said_is; named = waits_named sc A s mail q query entry value (asked_is q k.said_is) k }; answers = r.made.answers }) tt;
      died = λ q query entry value other k dying. denies_made sc A s kept q entry (answer.Died other) h (asking q query entry value k);
      restarted = λ q k. answers_made sc A s kept q (server.reply_of q s.epoch answer.Restarted) h (record { past = omega arith; asked = λ ran later. absurd (cc) });
      answered = λ q entry given k.
          answers_made sc A s kept q given h
          (each_found (DoneMade sc A s.server s.epoch) (λ (d : DoneReply). d.query == q.query) entry.answers given (h.entries q.txn.0 entry k.found).answers k.given_is);
      voted = λ p entry verdicts k.
          let asked : A p.txn s.server ≡ Some p.epoch = subst (λ (said : Body). IfSome (naming_of said) (IsAsked A (actor.Server s.server))) k.said_is m in
          votes_made sc A s kept p verdicts entry h k.found (eqb-true entry.epoch p.epoch k.same_epoch) asked;
      shown = λ v entry txn k. record { made = record { epoch_is = h.epoch_is; entries = h.entries }; forces = tt; replies = (tt, tt) };
      lost_verdicts = λ v k. record { made = h; forces = tt; replies = (tt, tt) };
      voted_again = λ p entry cast k. record { made = h; forces = tt; replies = (tt, tt) };
      refused = λ p entry number value k. ends_made sc A s kept (server.refused_as p _) (server.no_letter s p _) h tt;
      lost = λ p k. ends_made sc A s kept (server.refused_as p _) (server.no_letter s p _) h tt;
      refused_again = λ p settled why k. record { made = h; forces = tt; replies = (tt, tt) };
      settled = λ d k. ends_made sc A s kept (server.settled_as d) (server.ack_letter s d.txn) h tt;
      acknowledged = λ d settled k. record { made = h; forces = tt; replies = (tt, tt) };
      pushed = λ push k. learns_made sc A s kept push h;
      resumed = λ effect grant q query entry value proof k r now. resumes_made sc A s kept effect grant q query entry value proof k now;
      resumed_denied = λ effect grant q query entry value verdict k d now. resumes_unrun sc A s kept effect grant q query entry value (answer.Denied verdict) k now;
      resumed_outdated = λ effect grant q query entry value newer k known now. resumes_unrun sc A s kept effect grant q query entry value (answer.Newer newer) k now;
    })
  where
    first_is : (q : QueryRequest) → mail.letter.body ≡ body.Query q → is_none q.epoch ≡ is_first_at sc s.server q.txn q.query
    first_is q said = subst (QueryFirst sc (actor.Server s.server)) said first

    asked_is : (q : QueryRequest) → mail.letter.body ≡ body.Query q → IfSome (option_map (naming q.txn) q.epoch) (IsAsked A (actor.Server s.server))
    asked_is q said = subst (λ (heard : Body). IfSome (naming_of heard) (IsAsked A (actor.Server s.server))) said m

    asking : (q : QueryRequest) (query : Query) (entry : Entry) (value : ℤ) → IsAsking sc s mail q query entry value → IsRunMade sc A s q entry
    asking q query entry value k = run_made sc A s kept mail q query entry value h (first_is q k.said_is) (asked_is q k.said_is) k
