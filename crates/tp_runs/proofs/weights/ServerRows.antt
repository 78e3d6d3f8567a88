-- Weights, a server's row: what it sends and what waits there after it weigh less than the mail and what waited before.
use Rattle.std.proofs.Common.{List, None, Option, Some, [], ap, arith, false, is_some, refl, slice_get, slice_set, suc, zero, ℕ, ℤ, ⊎_elim, ◌++◌, ◌+◌, ◌∷◌, ◌≡◌, ◌≤◌}
use Rattle.std.specs.Option.{option_flatten}
use Rattle.tp_types.specs.Effect.{Effect}
use Rattle.tp_model.specs.Deeds.{deed_of}
use Rattle.tp_model.specs.Words.answer
use Rattle.tp_model.specs.Words.{Letter, Mail, Query, QueryRequest, Scenario}
use Rattle.tp_server.proofs.Rows.{AreRightWaits, IsAsking, IsFirstHere, IsFurther, server_by, unwaiting}
use Rattle.tp_server.specs.Row as server
use Rattle.tp_server.specs.State.{Server}
use Rattle.tp_server.specs.Verdicts.{with_wants}
use Rattle.tp_server.specs.declared.server.Entry.{Entry}
use Rattle.tp_runs.proofs.mails.Actors.{one_for, waits_at, waits_in}
use Rattle.tp_runs.proofs.weights.Weights.{together_more, weigh_together, weight_of, weighs_some}

-- an act of a server on a mail
abbrev pub ServerLightens : Server → Mail → Effect Server → Type 0
ServerLightens s mail effect = weigh_together effect.reaction.letters + waits_in effect.state.entries + 1 ≤ weight_of mail.letter.body + waits_in s.entries

-- one entry changes
entry_set : (entries : List (Option Entry)) (n : ℕ) (entry : Option Entry) → waits_in (slice_set entries n entry) + waits_at (option_flatten (slice_get entries n)) ≤ waits_in entries + waits_at entry
entry_set [] n entry = omega arith
entry_set (first ∷ entries) zero entry =
    let now : waits_in (slice_set (first ∷ entries) zero entry) ≡ waits_at entry + waits_in entries = refl in
    let was : waits_at (option_flatten (slice_get (first ∷ entries) zero)) ≡ waits_at first = refl in
    omega (arith, now, was)
entry_set (first ∷ entries) (suc n) entry =
    let now : waits_in (slice_set (first ∷ entries) (suc n) entry) ≡ waits_at first + waits_in (slice_set entries n entry) = refl in
    let was : waits_at (option_flatten (slice_get (first ∷ entries) (suc n))) ≡ waits_at (option_flatten (slice_get entries n)) = refl in
    omega (arith, now, was, entry_set entries n entry)

-- no query waits at an entry that a further one asks at
none_waits : (sc : Scenario) (s : Server) (mail : Mail) (q : QueryRequest) (query : Query) (entry : Entry) (value : ℤ) → IsAsking sc s mail q query entry value → waits_at (Some entry) ≡ 0
none_waits sc s mail q query entry value k =
    ⊎_elim (λ (first : IsFirstHere s mail.sent q entry). ap (λ (e : Entry). waits_at (Some e)) first.entry_is)
    (λ (further : IsFurther s q entry). none entry.waiting further.idle) k.place
  where
    none : (waiting : Option QueryRequest) → is_some waiting ≡ false → one_for waiting ≡ 0
    none None e = refl
    none (Some r) e = absurd (cc)

-- what one more letter weighs behind others
one_more : (letters : List Letter) (letter : Letter) (weight : ℕ) → weight_of letter.body ≡ weight → weigh_together (letters ++ letter ∷ []) ≡ weigh_together letters + weight
one_more letters letter weight e =
    let own : weigh_together (letter ∷ []) ≡ weight_of letter.body + 0 = refl in
    omega (arith, e, own, together_more letters (letter ∷ []))

pub server_row_lightens : (sc : Scenario) (s : Server) (mail : Mail) → AreRightWaits sc s → ServerLightens s mail (server.server_row sc s mail)
server_row_lightens sc s mail waits =
    server_by sc s mail (ServerLightens s mail) waits
    (record {
      relocked = λ effect locks k. k;
      relearnt = λ effect admin pin k. k;
      ignored = omega (arith, weighs_some mail.letter.body);
      ran = λ q query entry value proof k r.
          let two = ap weight_of k.said_is in
          omega (arith, two, none_waits sc s mail q query entry value k, entry_set s.entries q.txn.0 (Some (server.entry_after q entry (deed_of q.query query value) proof)));
      denied = λ q query entry value verdict k d.
          let two = ap weight_of k.said_is in
          omega (arith, two, none_waits sc s mail q query entry value k, entry_set s.entries q.txn.0 (Some (server.with_answer q entry (answer.Denied verdict))));
      outdated = λ q query entry value newer k found.
          let two = ap weight_of k.said_is in
          omega (arith, two, none_waits sc s mail q query entry value k, entry_set s.entries q.txn.0 (Some (server.with_answer q entry (answer.Newer newer))));
      waited = λ q query entry value k.
          let two = ap weight_of k.said_is in
          omega (arith, two, entry_set s.entries q.txn.0 (Some (record entry { waiting = Some q })));
      died = λ q query entry value other k dying.
          let two = ap weight_of k.said_is in
          omega (arith, two, none_waits sc s mail q query entry value k, entry_set s.entries q.txn.0 (Some (server.with_answer q entry (answer.Died other))));
      restarted = λ q k. let two = ap weight_of k.said_is in omega (arith, two);
      answered = λ q entry given k. let two = ap weight_of k.said_is in omega (arith, two);
      voted = λ p entry verdicts k.
          let two = ap weight_of k.said_is in
          let same : waits_at (server.entry_at s p.txn) ≡ waits_at (Some entry) = ap waits_at k.found in
          omega (arith, two, same, entry_set s.entries p.txn.0 (Some (record entry { ballot = Some (server.ballot_of (server.prepared_record (with_wants s p.want) p entry verdicts)) })));
      shown = λ v entry txn k. let two = ap weight_of k.said_is in omega (arith, two);
      lost_verdicts = λ v k. let two = ap weight_of k.said_is in omega (arith, two);
      voted_again = λ p entry cast k. let two = ap weight_of k.said_is in omega (arith, two);
      refused = λ p entry number value k. let two = ap weight_of k.said_is in omega (arith, two, entry_set s.entries p.txn.0 None);
      lost = λ p k. let two = ap weight_of k.said_is in omega (arith, two, entry_set s.entries p.txn.0 None);
      refused_again = λ p settled why k. let two = ap weight_of k.said_is in omega (arith, two);
      settled = λ d k. let two = ap weight_of k.said_is in omega (arith, two, entry_set s.entries d.txn.0 None);
      acknowledged = λ d settled k. let two = ap weight_of k.said_is in omega (arith, two);
      pushed = λ push k. omega (arith, weighs_some mail.letter.body);
      resumed = λ effect grant q query entry value proof k r now.
          let was : waits_at (server.entry_at effect.state q.txn) ≡ waits_at (Some entry) = ap waits_at k.found in
          omega (
            arith,
            now,
            was,
            ap one_for k.waiting_is,
            entry_set effect.state.entries q.txn.0 (Some (server.entry_after q (unwaiting entry) (deed_of q.query query value) proof)),
            one_more effect.reaction.letters (server.reply_letter effect.state q (unwaiting entry) (server.ran_as (deed_of q.query query value) proof)) 1 refl,
          );
      resumed_denied = λ effect grant q query entry value verdict k d now.
          let was : waits_at (server.entry_at effect.state q.txn) ≡ waits_at (Some entry) = ap waits_at k.found in
          omega (
            arith,
            now,
            was,
            ap one_for k.waiting_is,
            entry_set effect.state.entries q.txn.0 (Some (server.with_answer q (unwaiting entry) (answer.Denied verdict))),
            one_more effect.reaction.letters (server.reply_letter effect.state q (unwaiting entry) (answer.Denied verdict)) 1 refl,
          );
      resumed_outdated = λ effect grant q query entry value newer k found now.
          let was : waits_at (server.entry_at effect.state q.txn) ≡ waits_at (Some entry) = ap waits_at k.found in
          omega (
            arith,
            now,
            was,
            ap one_for k.waiting_is,
            entry_set effect.state.entries q.txn.0 (Some (server.with_answer q (unwaiting entry) (answer.Newer newer))),
            one_more effect.reaction.letters (server.reply_letter effect.state q (unwaiting entry) (answer.Newer newer)) 1 refl,
          );
    })
