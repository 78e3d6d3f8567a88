-- What a history says when it has one entry more, and what its beginnings say.
use Rattle.std.proofs.Common.{◌≡◌, ℕ, suc, ◌+◌, ◌≤◌, ⊎_elim, List, [], ◌∷◌, ◌++◌, length, take, refl, sym, ap, ◌∙◌, subst, append_assoc, append-nil, length-append, arith}
use Rattle.tp_types.specs.declared.fact.Fact.{Fact}
use Rattle.tp_types.specs.declared.mail.Letter.{Letter}
use Rattle.tp_types.specs.declared.mail.Mail.{Mail}
use Rattle.tp_types.specs.declared.scenario.Step.{Step}
use Rattle.tp_wire.specs.declared.view.Entry.{Entry}
use Rattle.tp_wire.specs.Entries.{steps_in, facts_of, facts_from, facts_in, mails_of, mails_from, mails_in, sent_in}
use Rattle.tp_wire.specs.History.{StartsWith, Lawful}
use Rattle.tp_wire.proofs.ListLemmas.{last_or_before, take_begins}

-- ---- one entry more

pub steps-more : (log : List Entry) (e : Entry) → steps_in (log ++ e ∷ []) ≡ steps_in log ++ e.step ∷ []
steps-more [] e = refl
steps-more (x ∷ log) e = ap (λ (l : List Step). x.step ∷ l) (steps-more log e)

facts_from-more : (place : ℕ) (log : List Entry) (e : Entry) → facts_from place (log ++ e ∷ []) ≡ facts_from place log ++ facts_of (place + length log) e.happened
facts_from-more place [] e =
    append-nil (facts_of place e.happened) ∙ ap (λ (n : ℕ). facts_of n e.happened) (omega arith)
facts_from-more place (x ∷ log) e =
    let at : (place + 1) + length log ≡ place + suc (length log) = omega arith in
    ap (λ (l : List Fact). facts_of place x.happened ++ l) (facts_from-more (place + 1) log e ∙ ap (λ (n : ℕ). facts_from (place + 1) log ++ facts_of n e.happened) at)
    ∙ sym (append_assoc (facts_of place x.happened) (facts_from (place + 1) log) (facts_of (place + suc (length log)) e.happened))

pub facts-more : (log : List Entry) (e : Entry) → facts_in (log ++ e ∷ []) ≡ facts_in log ++ facts_of (length log) e.happened
facts-more log e =
    let at : 0 + length log ≡ length log = omega arith in
    facts_from-more 0 log e ∙ ap (λ (n : ℕ). facts_in log ++ facts_of n e.happened) at

mails_from-more : (place number : ℕ) (log : List Entry) (e : Entry)
    → mails_from place number (log ++ e ∷ []) ≡ mails_from place number log ++ mails_of (place + length log) (number + sent_in log) e.letters
mails_from-more place number [] e =
    let at : place ≡ place + 0 = omega arith in
    let from : number ≡ number + 0 = omega arith in
    append-nil (mails_of place number e.letters) ∙ (ap (λ (n : ℕ). mails_of n number e.letters) at ∙ ap (λ (n : ℕ). mails_of (place + 0) n e.letters) from)
mails_from-more place number (x ∷ log) e =
    let at : (place + 1) + length log ≡ place + suc (length log) = omega arith in
    let from : (number + length x.letters) + sent_in log ≡ number + (length x.letters + sent_in log) = omega arith in
    let first = mails_of place number x.letters in
    let others = mails_from (place + 1) (number + length x.letters) log in
    ap (λ (l : List Mail). first ++ l)
    (mails_from-more (place + 1) (number + length x.letters) log e
    ∙ (ap (λ (n : ℕ). others ++ mails_of n ((number + length x.letters) + sent_in log) e.letters) at
    ∙ ap (λ (n : ℕ). others ++ mails_of (place + suc (length log)) n e.letters) from))
    ∙ sym (append_assoc first others (mails_of (place + suc (length log)) (number + (length x.letters + sent_in log)) e.letters))

pub length-mails_of : (place number : ℕ) (letters : List Letter) → length (mails_of place number letters) ≡ length letters
length-mails_of place number [] = refl
length-mails_of place number (letter ∷ letters) = ap suc (length-mails_of place (number + 1) letters)

length-mails_from : (place number : ℕ) (log : List Entry) → length (mails_from place number log) ≡ sent_in log
length-mails_from place number [] = refl
length-mails_from place number (x ∷ log) =
    omega (arith, length-append (mails_of place number x.letters) (mails_from (place + 1) (number + length x.letters) log), length-mails_of place number x.letters, length-mails_from (place + 1) (number + length x.letters) log)

pub length-mails : (log : List Entry) → length (mails_in log) ≡ sent_in log
length-mails log = length-mails_from 0 0 log

pub mails-more : (log : List Entry) (e : Entry) → mails_in (log ++ e ∷ []) ≡ mails_in log ++ mails_of (length log) (length (mails_in log)) e.letters
mails-more log e =
    let at : 0 + length log ≡ length log = omega arith in
    let from : 0 + sent_in log ≡ length (mails_in log) = omega (arith, length-mails log) in
    mails_from-more 0 0 log e
    ∙ (ap (λ (n : ℕ). mails_in log ++ mails_of n (0 + sent_in log) e.letters) at
    ∙ ap (λ (n : ℕ). mails_in log ++ mails_of (length log) n e.letters) from)

pub length-steps : (log : List Entry) → length (steps_in log) ≡ length log
length-steps [] = refl
length-steps (x ∷ log) = ap suc (length-steps log)

-- ---- how many mails were sent

pub sent-append : (xs ys : List Entry) → sent_in (xs ++ ys) ≡ sent_in xs + sent_in ys
sent-append [] ys = omega arith
sent-append (x ∷ xs) ys = let rest = sent-append xs ys in omega arith

pub sent_begins : (ys xs : List Entry) → StartsWith ys xs → sent_in xs ≤ sent_in ys
sent_begins ys xs h = let whole : sent_in (xs ++ h.0) ≡ sent_in ys = ap sent_in h.1 in omega (arith, sent-append xs h.0, whole)

pub sent_taken : (n : ℕ) (log : List Entry) → sent_in (take n log) ≤ sent_in log
sent_taken n log = sent_begins log (take n log) (take_begins n log)

-- ---- laws

pub lawful_empty : (follows : List Entry → Entry → Type 0) → Lawful follows []
lawful_empty follows [] e after same = absurd (cc)
lawful_empty follows (x ∷ before) e after same = absurd (cc)

pub lawful_begin : (follows : List Entry → Entry → Type 0) (log seen : List Entry) → Lawful follows log → StartsWith log seen → Lawful follows seen
lawful_begin follows log seen h begins before e after same =
    h before e (after ++ begins.0) (sym begins.1 ∙ (ap (λ (l : List Entry). l ++ begins.0) same ∙ append_assoc before (e ∷ after) begins.0))

pub lawful_more : (follows : List Entry → Entry → Type 0) (log : List Entry) (e : Entry) → Lawful follows log → follows log e → Lawful follows (log ++ e ∷ [])
lawful_more follows log e h next before x after same =
    ⊎_elim
    (λ (last : (before ≡ log) × (x ≡ e)). subst (λ (l : List Entry). follows l x) (sym last.0) (subst (follows log) (sym last.1) next))
    (λ (early : (rest : List Entry) × (log ≡ before ++ x ∷ rest)). h before x early.0 early.1)
    (last_or_before log before after e x same)
