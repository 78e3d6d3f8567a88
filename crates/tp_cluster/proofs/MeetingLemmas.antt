-- A caller's pass meets an actor's under its lock, and parts from it.
use Rattle.std.proofs.Common.{◌≡◌, ◌≢◌, ℕ, ◌+◌, ◌<◌, ◌≤◌, List, [], ◌∷◌, ◌++◌, length, map, max, refl, sym, ap, ◌∙◌, subst, arith}
use Rattle.std.proofs.lemmas.Bool.Decides.{nat_tests}
use Rattle.std.specs.Prelude.{◌==◌, IfSome, Option, Some, None, not, if◌then◌else◌, slice_get, Bool, true, false, nat_lt}
use Rattle.atomic_table.specs.Seated.{TableId}
use Rattle.tp_model.specs.Words.actor
use Rattle.tp_model.specs.Words.{Actor, Letter, Mail, Scenario, Step, What}
use Rattle.tp_machine.specs.declared.part.Act.{Act}
use Rattle.tp_machine.specs.declared.error.StepError.{StepError}
use Rattle.tp_machine.specs.Machine.{State, refusal, state_after}
use Rattle.tp_machine.specs.Moves.{move_of, number_of}
use Rattle.tp_machine.specs.Named.{IsActor}
use Rattle.tp_types.specs.Each.{Each}
use Rattle.tp_wire.specs.declared.view.Entry.{Entry}
use Rattle.tp_wire.specs.declared.view.Part.{Part}
use Rattle.tp_wire.specs.declared.view.View.{View}
use Rattle.tp_wire.specs.Calls.{IsPosted, KeepsParts, SeesAll}
use Rattle.tp_wire.specs.Entries.{mails_in}
use Rattle.tp_wire.specs.History.{StartsWith, Lawful, IsPart, Misses, numbers_of, one_if, times_below}
use Rattle.tp_wire.specs.Passes.{IsLook, Known, Knows, MayPost, entry_by, joined, longer, looked, moved, other_parts, own_parts, part_alone, without_part}
use Rattle.tp_wire.proofs.EntryLemmas.{lawful_begin}
use Rattle.tp_wire.proofs.ListLemmas.{starts_trans, starts_self}
use Rattle.tp_cluster.specs.Calls.{IsCaller, IsOwn, IsReady, IsRefused}
use Rattle.tp_cluster.specs.Offices.{Held, IsOffice, held_at}
use Rattle.tp_cluster.specs.Runs.{IsNext, actors_of, state_at}
use Rattle.tp_cluster.specs.mirrors.Meetings.{CanPost, Follows, HasPosted, HasTurned, IsActed, IsMet, MayAct}
use Rattle.tp_cluster.proofs.RunLemmas.{runs, state_more, stays}

-- ---- numbers

-- the numbers of actors are below their count
pub number_low : (sc : Scenario) (who : Actor) → IsActor sc who → number_of sc who < actors_of sc
number_low sc (actor.Server at) h = omega (arith, h)
number_low sc (actor.Coordinator txn) h = omega (arith, h)
number_low sc actor.Authority h = omega arith
number_low sc actor.Master h = omega arith

-- of a caller's part and an actor's, one is an actor's
one_below : (actors own office : ℕ) → actors ≤ own → office < actors → times_below actors (own ∷ office ∷ []) ≡ 1
one_below actors own office high low =
    let no : nat_lt own actors ≡ false = grind (arith, nat_tests) in
    let is : nat_lt office actors ≡ true = grind (arith, nat_tests) in
    let none : one_if (nat_lt own actors) ≡ 0 = ap one_if no in
    let one : one_if (nat_lt office actors) ≡ 1 = ap one_if is in
    omega (arith, none, one)

is_other : (own number : ℕ) → own ≢ number → (own == number) ≡ false
is_other own number ne = grind (arith, nat_tests)

is_same : (office number : ℕ) → office ≡ number → (office == number) ≡ true
is_same office number e = grind (arith, nat_tests)

-- what is left without the actor's part is the caller's
left_parts : (own office : Part) (number : ℕ) → own.number ≢ number → office.number ≡ number → other_parts number (own ∷ office ∷ []) ≡ own ∷ []
left_parts own office number ne e =
    ap (λ (b : Bool). if not b then own ∷ other_parts number (office ∷ []) else other_parts number (office ∷ [])) (is_other own.number number ne)
    ∙ ap (λ (b : Bool). own ∷ (if not b then office ∷ [] else [])) (is_same office.number number e)

-- and the other is the actor's
kept_parts : (own office : Part) (number : ℕ) → own.number ≢ number → office.number ≡ number → own_parts number (own ∷ office ∷ []) ≡ office ∷ []
kept_parts own office number ne e =
    ap (λ (b : Bool). if b then own ∷ own_parts number (office ∷ []) else own_parts number (office ∷ [])) (is_other own.number number ne)
    ∙ ap (λ (b : Bool). if b then office ∷ [] else []) (is_same office.number number e)

-- ---- a caller and an actor meet

max_left : (a b : ℕ) → a ≤ max a b
max_left a b = omega arith

pub meets : (sc : Scenario) (table : TableId) (who : Actor) (held : Held) (found : ℕ) (old kept mid new : Known)
    → IsReady sc table old → IsOffice sc table who held kept → mid.view ≡ joined old.view kept.view → new.table ≡ table → new.given_up ≡ false
    → IsLook (IsNext sc) (actors_of sc) found mid.view new.view → IsMet sc table who held old.view new
meets sc table who held found old kept mid new ready office taken site live looks =
    let caller = ready.caller in
    let look : IsLook (IsNext sc) (actors_of sc) found (joined old.view kept.view) new.view = subst (λ (u : View). IsLook (IsNext sc) (actors_of sc) found u new.view) taken looks in
    let v = old.view in
    let w = kept.view in
    let k = look.knows in
    let parts : (joined v w).parts ≡ caller.part ∷ office.part ∷ [] = ap (λ (ps : List Part). ps ++ w.parts) caller.one ∙ ap (λ (ps : List Part). caller.part ∷ ps) office.one in
    let current : Each (IsPart (joined v w).seen) (caller.part ∷ office.part ∷ []) = subst (Each (IsPart (joined v w).seen)) parts k.parts in
    let met : new.view ≡ looked (joined v w) found = look.view_is in
    let P : View → Type 0 = (λ u. Follows sc u u.seen) in
    record {
      site = site;
      live = live;
      own = caller.part;
      one = caller.one;
      called = caller.number;
      office = office.part;
      parts = ap (λ (u : View). u.parts) met ∙ parts;
      number_is = office.number_is;
      exists = office.exists;
      took = office.took;
      begins = subst (λ (u : View). StartsWith u.seen v.seen) (sym met) k.also.1.0;
      told = subst (λ (u : View). v.told ≤ u.told) (sym met) (let t = k.told in let m = max_left v.told w.told in omega (arith, t, m));
      cleared = subst (λ (u : View). v.cleared ≤ u.cleared) (sym met) (max_left v.cleared w.cleared);
      follows = subst P (sym met) (record { begins = starts_self (joined v w).seen; parts = k.parts; lawful = k.lawful });
      state = office.state;
    }

-- the pass that stood with an actor
pub kept_is : (sc : Scenario) (table : TableId) (who : Actor) (held : Held) (stood : Option Known) (kept : Known)
    → IfSome stood (IsOffice sc table who held) → Some kept ≡ stood → IsOffice sc table who held kept
kept_is sc table who held stood kept office same = subst (λ (x : Option Known). IfSome x (IsOffice sc table who held)) (sym same) office

-- ---- what stays however the history goes on

module _ (sc : Scenario) (table : TableId) (who : Actor) (held : Held) (v : View) (met : Known) (m : IsMet sc table who held v met) where
  -- the actor's part is one of such a history
  pub office_current : (log : List Entry) → Follows sc met.view log → IsPart log m.office
  office_current log f = (subst (Each (IsPart log)) m.parts f.parts).1.0

  pub own_current : (log : List Entry) → Follows sc met.view log → IsPart log m.own
  own_current log f = (subst (Each (IsPart log)) m.parts f.parts).0

  -- its actor has what was kept
  pub held_later : (log : List Entry) → Follows sc met.view log → held_at (state_at sc log).actors who ≡ Some held
  held_later log f = stays sc log m.office who f.lawful (office_current log f) m.number_is ∙ m.state

  apart : (number : ℕ) → number ≡ number_of sc who → m.own.number ≢ number
  apart number is same = let low = number_low sc who m.exists in let high = m.called in absurd (omega (arith, low, high, same, is))

  numbers_are : numbers_of met.view.parts ≡ m.own.number ∷ number_of sc who ∷ []
  numbers_are = ap numbers_of m.parts ∙ ap (λ (n : ℕ). m.own.number ∷ n ∷ []) m.number_is

  pub can_post : (taken : Step) (new : ℕ → Held) (act : Act) → MayAct sc met.view taken who new act.happened act.letters → CanPost sc table met taken act
  can_post taken new act may = record {
    site = m.site;
    live = m.live;
    actor = ap (times_below (actors_of sc)) numbers_are ∙ one_below (actors_of sc) m.own.number (number_of sc who) m.called (number_low sc who m.exists);
    law = λ log begins parts lawful.
        let a = may log (record { begins = begins; parts = parts; lawful = lawful }) in
        record {
          who = who;
          caller = m.own.number;
          named = a.named;
          allowed = a.allowed;
          mover = a.mover;
          happened = a.happened_is;
          letters = a.letters_are;
          called = m.called;
          numbers = numbers_are;
        };
  }

  -- ---- after a step

  module _ (taken : Step) (new : ℕ → Held) (act : Act) (may : MayAct sc met.view taken who new act.happened act.letters) (number place : ℕ) (left kept : Known)
      (is : number ≡ number_of sc who) (done : HasPosted sc met number taken act place left kept) where
    abbrev entry : Entry
    entry = entry_by met.view taken act.happened act.letters

    abbrev whole : List Entry
    whole = done.posted.before ++ entry ∷ []

    found : Follows sc met.view done.posted.before
    found =
        let p = done.posted in
        record { begins = p.begins; parts = p.parts; lawful = lawful_begin (IsNext sc) whole p.before p.lawful (entry ∷ [], refl) }

    acted : IsActed sc (state_at sc done.posted.before) taken who (new (length done.posted.before)) act.happened act.letters
    acted = may done.posted.before found

    -- the parts after the post, in which both go on to the whole
    both_moved : done.view.parts ≡ moved whole m.own ∷ moved whole m.office ∷ []
    both_moved = done.posted.parts_are ∙ ap (map (moved whole)) m.parts

    left_own : left.view.parts ≡ moved whole m.own ∷ []
    left_own =
        ap (λ (k : Known). k.view.parts) done.left_is
        ∙ (ap (other_parts number) both_moved ∙ left_parts (moved whole m.own) (moved whole m.office) number (apart number is) (m.number_is ∙ sym is))

    kept_office : kept.view.parts ≡ moved whole m.office ∷ []
    kept_office =
        ap (λ (k : Known). k.view.parts) done.kept_is
        ∙ (ap (own_parts number) both_moved ∙ kept_parts (moved whole m.own) (moved whole m.office) number (apart number is) (m.number_is ∙ sym is))

    left_seen : left.view.seen ≡ whole
    left_seen = ap (λ (k : Known). k.view.seen) done.left_is ∙ done.posted.seen_is

    -- the caller's pass has seen its own step last
    pub own_step : IsOwn sc v taken place left.view
    own_step =
        let p = done.posted in
        let cleared : met.view.cleared ≡ left.view.cleared = sym (ap (λ (k : Known). k.view.cleared) done.left_is ∙ p.cleared_is) in
        record {
          before = p.before;
          entry = entry;
          step = refl;
          place_is = p.place_is;
          seen = left_seen;
          lawful = subst (Lawful (IsNext sc)) (sym left_seen) p.lawful;
          begins = starts_trans p.before met.view.seen v.seen p.begins m.begins;
          told = let t = p.told in let u = m.told in let at = p.place_is in omega (arith, t, u, at);
          current = subst (Each (IsPart p.before)) (sym m.one) (own_current p.before found, tt);
          actor = number_of sc who;
          numbers = numbers_are ∙ ap (λ (ps : List Part). numbers_of ps ++ number_of sc who ∷ []) (sym m.one);
          parts = left_own ∙ (ap (λ (l : List Entry). moved l m.own ∷ []) (sym left_seen) ∙ ap (map (moved left.view.seen)) (sym m.one));
          cleared = subst (λ (n : ℕ). v.cleared ≤ n) cleared m.cleared;
        }

    pub own_caller : IsCaller sc left.view
    own_caller = record { part = moved whole m.own; one = left_own; number = m.called }

    pub own_site : left.table ≡ table
    own_site = ap (λ (k : Known). k.table) done.left_is ∙ m.site

    pub own_live : left.given_up ≡ false
    own_live = ap (λ (k : Known). k.given_up) done.left_is

    -- and what is kept with the actor is what it has then
    pub office_after : (held' : Held) → held' ≡ new place → IsOffice sc table who held' kept
    office_after held' same =
        let p = done.posted in
        let now : held_at (state_at sc whole).actors who ≡ Some (new (length p.before)) =
        ap (λ (s : State). held_at s.actors who) (state_more sc p.before entry acted.allowed) ∙ acted.new_is in
        record {
          site = ap (λ (k : Known). k.table) done.kept_is ∙ m.site;
          live = ap (λ (k : Known). k.given_up) done.kept_is;
          exists = m.exists;
          part = moved whole m.office;
          one = kept_office;
          number_is = m.number_is;
          took = m.took;
          state = now ∙ (ap (λ (n : ℕ). Some (new n)) (sym p.place_is) ∙ ap (λ (h : Held). Some h) (sym same));
        }

  -- ---- after a refusal

  module _ (number : ℕ) (left kept : Known) (is : number ≡ number_of sc who) (done : HasTurned sc met number left kept) where
    all_found : Follows sc met.view done.view.seen
    all_found = let a = done.all in record { begins = a.begins; parts = a.parts; lawful = a.lawful }

    seen_left : left.view.seen ≡ done.view.seen
    seen_left = ap (λ (k : Known). k.view.seen) done.left_is

    both_same : done.view.parts ≡ m.own ∷ m.office ∷ []
    both_same = done.same.parts_are ∙ m.parts

    turned_own : left.view.parts ≡ m.own ∷ []
    turned_own = ap (λ (k : Known). k.view.parts) done.left_is ∙ (ap (other_parts number) both_same ∙ left_parts m.own m.office number (apart number is) (m.number_is ∙ sym is))

    turned_office : kept.view.parts ≡ m.office ∷ []
    turned_office = ap (λ (k : Known). k.view.parts) done.kept_is ∙ (ap (own_parts number) both_same ∙ kept_parts m.own m.office number (apart number is) (m.number_is ∙ sym is))

    pub turned_step : (taken : Step) (why : StepError) → ((log : List Entry) → Follows sc met.view log → refusal (state_at sc log) taken ≡ Some why) → IsRefused sc v taken why left.view
    turned_step taken why refused =
        let a = done.all in
        let cleared : met.view.cleared ≡ left.view.cleared = sym (ap (λ (k : Known). k.view.cleared) done.left_is ∙ done.same.cleared_is) in
        let told : v.told ≤ length done.view.seen = (let t = a.told in let u = m.told in omega (arith, t, u)) in
        record {
          reason = subst (λ (l : List Entry). refusal (state_at sc l) taken ≡ Some why) (sym seen_left) (refused done.view.seen all_found);
          lawful = subst (Lawful (IsNext sc)) (sym seen_left) a.lawful;
          begins = subst (λ (l : List Entry). StartsWith l v.seen) (sym seen_left) (starts_trans done.view.seen met.view.seen v.seen a.begins m.begins);
          told = subst (λ (l : List Entry). v.told ≤ length l) (sym seen_left) told;
          parts = turned_own ∙ sym m.one;
          cleared = subst (λ (n : ℕ). v.cleared ≤ n) cleared m.cleared;
        }

    pub turned_caller : IsCaller sc left.view
    turned_caller = record { part = m.own; one = turned_own; number = m.called }

    pub turned_site : left.table ≡ table
    turned_site = ap (λ (k : Known). k.table) done.left_is ∙ m.site

    pub turned_live : left.given_up ≡ false
    turned_live = ap (λ (k : Known). k.given_up) done.left_is

    -- what was kept with the actor is kept again
    pub office_again : IsOffice sc table who held kept
    office_again = record {
      site = ap (λ (k : Known). k.table) done.kept_is ∙ m.site;
      live = ap (λ (k : Known). k.given_up) done.kept_is;
      exists = m.exists;
      part = m.office;
      one = turned_office;
      number_is = m.number_is;
      took = m.took;
      state = m.state;
    }
