-- A mail that was seen is the same mail in whatever history goes on from there.
use Rattle.std.proofs.Common.{◌≡◌, ℕ, zero, suc, ◌+◌, List, [], ◌∷◌, ◌++◌, length, refl, sym, ap, ◌∙◌, subst, append_assoc, arith}
use Rattle.std.specs.Prelude.{Option, Some, None, slice_get}
use Rattle.atomic_table.specs.Seated.{TableId}
use Rattle.tp_model.specs.Words.{Actor, Mail, Scenario}
use Rattle.tp_wire.specs.declared.view.Entry.{Entry}
use Rattle.tp_wire.specs.declared.view.View.{View}
use Rattle.tp_wire.specs.Entries.{mails_from, mails_in, mails_of, sent_in}
use Rattle.tp_wire.specs.History.{StartsWith}
use Rattle.tp_wire.specs.Passes.{Known}
use Rattle.tp_wire.proofs.ListLemmas.{starts_trans}
use Rattle.tp_cluster.specs.Offices.{Held}
use Rattle.tp_cluster.specs.Runs.{state_at}
use Rattle.tp_cluster.specs.mirrors.Meetings.{Follows, IsMet}
use Rattle.tp_cluster.proofs.RunLemmas.{runs}

mails-append : (place number : ℕ) (xs ys : List Entry) → mails_from place number (xs ++ ys) ≡ mails_from place number xs ++ mails_from (place + length xs) (number + sent_in xs) ys
mails-append place number [] ys = ap (λ (n : ℕ). mails_from n number ys) (omega arith) ∙ ap (λ (n : ℕ). mails_from (place + 0) n ys) (omega arith)
mails-append place number (x ∷ xs) ys =
    let at : (place + 1) + length xs ≡ place + suc (length xs) = omega arith in
    let from : (number + length x.letters) + sent_in xs ≡ number + (length x.letters + sent_in xs) = omega arith in
    let first = mails_of place number x.letters in
    let others = mails_from (place + 1) (number + length x.letters) xs in
    ap (λ (l : List Mail). first ++ l)
    (mails-append (place + 1) (number + length x.letters) xs ys
    ∙ (ap (λ (n : ℕ). others ++ mails_from n ((number + length x.letters) + sent_in xs) ys) at
    ∙ ap (λ (n : ℕ). others ++ mails_from (place + suc (length xs)) n ys) from))
    ∙ sym (append_assoc first others (mails_from (place + suc (length xs)) (number + (length x.letters + sent_in xs)) ys))

get_front : {A : Type 0} (xs ys : List A) (k : ℕ) (x : A) → slice_get xs k ≡ Some x → slice_get (xs ++ ys) k ≡ Some x
get_front [] ys k x e = absurd (none_there k e)
  where
    none_there : (n : ℕ) → slice_get [] n ≡ Some x → ⊥
    none_there zero same = absurd (cc)
    none_there (suc n) same = absurd (cc)
get_front (y ∷ xs) ys zero x e = e
get_front (y ∷ xs) ys (suc k) x e = get_front xs ys k x e

pub mail_stays : (log seen : List Entry) (k : ℕ) (mail : Mail) → StartsWith log seen → slice_get (mails_in seen) k ≡ Some mail → slice_get (mails_in log) k ≡ Some mail
mail_stays log seen k mail begins found =
    subst (λ (l : List Entry). slice_get (mails_in l) k ≡ Some mail) begins.1
    (ap (λ (ms : List Mail). slice_get ms k) (mails-append 0 0 seen begins.0) ∙ get_front (mails_in seen) (mails_from (0 + length seen) (0 + sent_in seen) begins.0) k mail found)

pub sent_later : (sc : Scenario) (table : TableId) (who : Actor) (held : Held) (v : View) (met : Known) → IsMet sc table who held v met → (k : ℕ) (mail : Mail) → slice_get (mails_in v.seen) k ≡ Some mail
    → (log : List Entry) → Follows sc met.view log → slice_get (state_at sc log).mails k ≡ Some mail
sent_later sc table who held v met m k mail found log f =
    ap (λ (ms : List Mail). slice_get ms k) (runs sc log f.lawful).mails
    ∙ mail_stays log v.seen k mail (starts_trans log met.view.seen v.seen f.begins m.begins) found
