-- The book behind its lock, as calls change it.
use Rattle.std.proofs.Common.{◌≡◌, ℕ, ◌<◌, ◌≤◌, List, [], ◌∷◌, ◌++◌, length, map, true, Bool, refl, sym, ap, ◌∙◌, subst, arith}
use Rattle.std.specs.Prelude.{nat_lt}
use Rattle.tp_types.specs.declared.fact.Fact.{Fact}
use Rattle.tp_types.specs.declared.fact.What.{What}
use Rattle.tp_types.specs.declared.mail.Letter.{Letter}
use Rattle.tp_types.specs.declared.mail.Mail.{Mail}
use Rattle.tp_types.specs.declared.scenario.Step.{Step}
use Rattle.tp_wire.specs.declared.view.Entry.{Entry}
use Rattle.tp_wire.specs.declared.view.View.{View}
use Rattle.tp_wire.specs.Calls.{IsTaken}
use Rattle.tp_wire.specs.Entries.{steps_in, facts_of, facts_in, mails_of, mails_in, sent_in}
use Rattle.tp_wire.specs.Passes.{entry_by, with_mail}
use Rattle.tp_wire.specs.Rule.{keeper}
use Rattle.tp_wire.specs.mirrors.Locked.{IsLocked}
use Rattle.tp_wire.specs.mirrors.Moves.{Made, adds, takes, with_book, without_book, book_alone}
use Rattle.tp_wire.proofs.EntryLemmas.{steps-more, facts-more, mails-more, length-mails}

-- whether there is a free mail is told by two counts
pub free_test : (v w : View) (steps : List Step) (facts : List Fact) (mails : List Mail) (next count : ℕ) → IsLocked v steps facts mails next → v ≡ w → count ≡ length mails
    → nat_lt next count ≡ nat_lt (length w.takers) (sent_in w.log)
free_test v w steps facts mails next count l same e =
    let sent : count ≡ sent_in v.log = e ∙ (ap (λ (ms : List Mail). length ms) l.mails_are ∙ length-mails v.log) in
    ap (λ (n : ℕ). nat_lt n count) l.next_is ∙ (ap (λ (n : ℕ). nat_lt (length v.takers) n) sent ∙ ap (λ (u : View). nat_lt (length u.takers) (sent_in u.log)) same)

has_book : (v : View) (log : List Entry) (takers : List ℕ) → v ≡ keeper log takers → v.book ≡ true
has_book v log takers e = ap (λ (u : View). u.book) e

pub keeps_book : (v : View) (steps : List Step) (facts : List Fact) (mails : List Mail) (next : ℕ) → IsLocked v steps facts mails next → v.book ≡ true
keeps_book v steps facts mails next l = has_book v v.log v.takers l.view_is

-- an entry was added
pub posted : (d p new : View) (e : Entry) (steps steps_now : List Step) (facts facts_now : List Fact) (mails mails_now : List Mail) (next place : ℕ) (v : View) (step : Step) (happened : List What) (letters : List Letter)
    → IsLocked d steps facts mails next → e ≡ entry_by v step happened letters → place ≡ length d.log → new ≡ book_alone (adds e (with_book p d))
    → steps_now ≡ steps ++ step ∷ [] → facts_now ≡ facts ++ facts_of place happened → mails_now ≡ mails ++ mails_of place (length mails) letters
    → IsLocked new steps_now facts_now mails_now next
posted d p new e steps steps_now facts facts_now mails mails_now next place v step happened letters l is at new_is s f m =
    subst (λ (u : View). IsLocked u steps_now facts_now mails_now next) (sym new_is) (record {
      view_is = ap (λ (b : Bool). record (keeper (d.log ++ e ∷ []) d.takers) { book = b }) (has_book d d.log d.takers l.view_is);
      steps_are = s ∙ (ap (λ (ss : List Step). ss ++ step ∷ []) l.steps_are ∙ (ap (λ (x : Entry). steps_in d.log ++ x.step ∷ []) (sym is) ∙ sym (steps-more d.log e)));
      facts_are = f ∙ (ap (λ (fs : List Fact). fs ++ facts_of place happened) l.facts_are ∙ (ap (λ (n : ℕ). facts_in d.log ++ facts_of n happened) at ∙ (ap (λ (x : Entry). facts_in d.log ++ facts_of (length d.log) x.happened) (sym is) ∙ sym (facts-more d.log e))));
      mails_are = m ∙ (ap (λ (ms : List Mail). ms ++ mails_of place (length ms) letters) l.mails_are ∙ (ap (λ (n : ℕ). mails_in d.log ++ mails_of n (length (mails_in d.log)) letters) at ∙ (ap (λ (x : Entry). mails_in d.log ++ mails_of (length d.log) (length (mails_in d.log)) x.letters) (sym is) ∙ sym (mails-more d.log e))));
      next_is = l.next_is;
    })

-- a mail was taken
pub is_taken : (follows : List Entry → Entry → Type 0) (actors passes found : ℕ) (d p v x w : View) (steps : List Step) (facts : List Fact) (mails : List Mail) (next : ℕ)
    → IsLocked d steps facts mails next → Made follows actors passes found x (takes x) → x ≡ with_book p d → w ≡ without_book (takes x) → p ≡ v → length d.takers < sent_in d.log → IsTaken v next w
is_taken follows actors passes found d p v x w steps facts mails next l made x_is w_is p_is free =
    let here : Made follows actors passes found (with_book p d) (takes (with_book p d)) = subst (λ (u : View). Made follows actors passes found u (takes u)) x_is made in
    let there : w ≡ without_book (takes (with_book p d)) = w_is ∙ ap (λ (u : View). without_book (takes u)) x_is in
    let whole : IsTaken p next (without_book (takes (with_book p d))) = record {
      takers = d.takers;
      number_is = l.next_is;
      took = here.held.took;
      sent = let n = l.next_is in omega (arith, n, free);
      parts_are = ap (λ (n : ℕ). map (with_mail n) p.parts) (sym l.next_is);
      cleared_is = refl;
    } in
    subst (λ (u : View). IsTaken u next w) p_is (subst (λ (u : View). IsTaken p next u) (sym there) whole)

-- where there is a free mail, not all are taken
pub not_all_taken : (v w : View) (steps : List Step) (facts : List Fact) (mails : List Mail) (next count : ℕ) → IsLocked v steps facts mails next → v ≡ w → count ≡ length mails
    → length w.takers < sent_in w.log → count ≤ next → ⊥
not_all_taken v w steps facts mails next count l same e free all =
    let sent : count ≡ sent_in v.log = e ∙ (ap (λ (ms : List Mail). length ms) l.mails_are ∙ length-mails v.log) in
    let before : length v.takers < sent_in v.log = subst (λ (u : View). length u.takers < sent_in u.log) (sym same) free in
    let n = l.next_is in
    omega (arith, sent, before, n, all)
