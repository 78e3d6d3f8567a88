-- The epoch of a server that a transaction's requests name, by look-up: the first that was named. No later mail changes it.
use Rattle.std.proofs.Common.{Bool, IfSome, List, None, Option, Some, [], ap, arith, false, if◌then◌else◌, is_some, option_and_then, option_map, refl, slice_get, subst, suc, sym, true, zero, ℕ, ◌&&◌, ◌++◌, ◌+◌, ◌==◌, ◌∙◌, ◌∷◌, ◌≡◌}
use Rattle.std.proofs.lemmas.Bool.{and_parts, and_right, eqb-true}
use Rattle.std.proofs.lemmas.Option.{cond_some}
use Rattle.tp_types.proofs.ListLemmas.{number_itself}
use Rattle.std.specs.Option.{option_or}
use Rattle.tp_model.specs.Ids.{same_txn}
use Rattle.tp_model.specs.Words.{Actor, Body, Letter, Mail, ServerId, TxnId}
use Rattle.tp_model.specs.Words.actor
use Rattle.tp_model.specs.Words.body
use Rattle.tp_machine.specs.Machine.{mails_of}
use Rattle.tp_types.specs.Each.{Each}
use Rattle.tp_runs.proofs.basics.Ids.{server_number}
use Rattle.tp_runs.proofs.basics.Logs.{first_kept, first_stays, later_some}
use Rattle.tp_recover.proofs.LogLemmas.{first_first, first_none}
use Rattle.tp_types.proofs.EachLemmas.{each_as, each_get, each_placed}

-- ---- what requests name

-- whose request it is, and the epoch that it names
pub record Naming : Type 0 where
  pub txn : TxnId
  pub epoch : ℕ

abbrev pub naming : TxnId → ℕ → Naming
naming txn epoch = record { txn = txn; epoch = epoch }

-- a query may name none; other requests to servers name one, and no other mail does
abbrev pub naming_of : Body → Option Naming
naming_of (body.Query q) = option_map (naming q.txn) q.epoch
naming_of (body.Validate v) = Some (naming v.txn v.epoch)
naming_of (body.Prepare p) = Some (naming p.txn p.epoch)
naming_of _ = None

abbrev pub is_to_server : Actor → ServerId → Bool
is_to_server (actor.Server other) at = other.0 == at.0
is_to_server _ at = false

abbrev pub epoch_for : TxnId → ServerId → Actor → Naming → Option ℕ
epoch_for txn at to named = if is_to_server to at && same_txn named.txn txn then Some named.epoch else None

-- the epoch that a letter names of a transaction to a server
abbrev pub named_by : TxnId → ServerId → Letter → Option ℕ
named_by txn at letter = option_and_then (epoch_for txn at letter.to) (naming_of letter.body)

-- the first epoch that these letters name of the transaction to the server
abbrev pub asked_by : TxnId → ServerId → List Letter → Option ℕ
asked_by txn at [] = None
asked_by txn at (letter ∷ letters) = option_or (named_by txn at letter) (asked_by txn at letters)

-- the first epoch that a request of the transaction to the server names
abbrev pub asked : TxnId → ServerId → List Mail → Option ℕ
asked txn at [] = None
asked txn at (mail ∷ mails) = option_or (named_by txn at mail.letter) (asked txn at mails)

-- the epochs that are asked, of each transaction and server
abbrev pub Asking : Type 0
Asking = TxnId → ServerId → Option ℕ

abbrev pub asked_in : List Mail → Asking
asked_in mails txn at = asked txn at mails

-- those that are asked once these letters were sent
abbrev pub asked_then : Asking → List Letter → Asking
asked_then A letters txn at = option_or (A txn at) (asked_by txn at letters)

-- what is named to a server is the epoch that is asked of it
abbrev pub IsAsked : Asking → Actor → Naming → Type 0
IsAsked A (actor.Server at) named = A named.txn at ≡ Some named.epoch
IsAsked A _ named = Unit {0}

-- a letter that names an epoch names the one that is asked
abbrev pub LetterNamed : Asking → Letter → Type 0
LetterNamed A letter = IfSome (naming_of letter.body) (IsAsked A letter.to)

-- ---- laws

-- mails that are added ask only what was not asked
pub asked_append : (txn : TxnId) (at : ServerId) (old new : List Mail) → asked txn at (old ++ new) ≡ option_or (asked txn at old) (asked txn at new)
asked_append txn at [] new = refl
asked_append txn at (mail ∷ old) new =
    ap (option_or (named_by txn at mail.letter)) (asked_append txn at old new) ∙ sym (first_first (named_by txn at mail.letter) (asked txn at old) (asked txn at new))

pub asked_new_mails : (txn : TxnId) (at : ServerId) (sent number : ℕ) (letters : List Letter) → asked txn at (mails_of sent number letters) ≡ asked_by txn at letters
asked_new_mails txn at sent number [] = refl
asked_new_mails txn at sent number (letter ∷ letters) = ap (option_or (named_by txn at letter)) (asked_new_mails txn at sent (number + 1) letters)

-- what is asked with the mails of more letters
pub asked_more : (mails : List Mail) (sent number : ℕ) (letters : List Letter) → asked_in (mails ++ mails_of sent number letters) ≡ asked_then (asked_in mails) letters
asked_more mails sent number letters =
    λ i txn at. (asked_append txn at mails (mails_of sent number letters) ∙ ap (option_or (asked txn at mails)) (asked_new_mails txn at sent number letters)) i

-- what is asked stays asked
pub asked_stays : (txn : TxnId) (at : ServerId) (old new : List Mail) (epoch : ℕ) → asked txn at old ≡ Some epoch → asked txn at (old ++ new) ≡ Some epoch
asked_stays txn at old new epoch e = asked_append txn at old new ∙ first_stays (asked txn at old) (asked txn at new) epoch e

abbrev pub StaysAsked : Asking → Asking → Type 0
StaysAsked A B = (txn : TxnId) (at : ServerId) (epoch : ℕ) → A txn at ≡ Some epoch → B txn at ≡ Some epoch

named_stays : (A B : Asking) (to : Actor) (found : Option Naming) → StaysAsked A B → IfSome found (IsAsked A to) → IfSome found (IsAsked B to)
named_stays A B to None stays h = tt
named_stays A B (actor.Server at) (Some named) stays h = stays named.txn at named.epoch h
named_stays A B (actor.Coordinator other) (Some named) stays h = tt
named_stays A B actor.Master (Some named) stays h = tt
named_stays A B actor.Authority (Some named) stays h = tt

pub letter_stays : (A B : Asking) (letter : Letter) → StaysAsked A B → LetterNamed A letter → LetterNamed B letter
letter_stays A B letter stays h = named_stays A B letter.to (naming_of letter.body) stays h

pub then_stays : (A : Asking) (letters : List Letter) → StaysAsked A (asked_then A letters)
then_stays A letters txn at epoch e = first_stays (A txn at) (asked_by txn at letters) epoch e

-- ---- letters that name nothing

abbrev pub NamesNone : Letter → Type 0
NamesNone letter = naming_of letter.body ≡ None

none_asked : (txn : TxnId) (at : ServerId) (letters : List Letter) → Each NamesNone letters → asked_by txn at letters ≡ None
none_asked txn at [] h = refl
none_asked txn at (letter ∷ letters) h = ap (λ (found : Option Naming). option_or (option_and_then (epoch_for txn at letter.to) found) (asked_by txn at letters)) h.0 ∙ none_asked txn at letters h.1

-- they leave what is asked as it was
pub none_then : (A : Asking) (letters : List Letter) → Each NamesNone letters → asked_then A letters ≡ A
none_then A letters h = λ i txn at. (ap (option_or (A txn at)) (none_asked txn at letters h) ∙ first_none (A txn at)) i

-- ---- letters that name what their sender keeps

abbrev pub IsKeptEpoch : (ServerId → Option ℕ) → Actor → ℕ → Type 0
IsKeptEpoch K (actor.Server at) epoch = K at ≡ Some epoch
IsKeptEpoch K _ epoch = Unit {0}

-- a request of this transaction, which names the epoch that is kept of its server
abbrev pub IsKeptNaming : TxnId → (ServerId → Option ℕ) → Actor → Naming → Type 0
IsKeptNaming txn K to named = (named.txn ≡ txn) × IsKeptEpoch K to named.epoch

abbrev pub NamesKept : TxnId → (ServerId → Option ℕ) → Letter → Type 0
NamesKept txn K letter = IfSome (naming_of letter.body) (IsKeptNaming txn K letter.to)

-- one of two that are found
pub either_found : {A : Type 0} (x y : Option A) (P : A → Type 0) → ((found : A) → x ≡ Some found → P found) → ((found : A) → y ≡ Some found → P found) → (found : A) → option_or x y ≡ Some found → P found
either_found None y P first second found e = second found e
either_found (Some z) y P first second found e = first found e

kept_named : (txn : TxnId) (at : ServerId) (K : ServerId → Option ℕ) (to : Actor) (found : Option Naming) → IfSome found (IsKeptNaming txn K to)
    → (epoch : ℕ) → option_and_then (epoch_for txn at to) found ≡ Some epoch → K at ≡ Some epoch
kept_named txn at K to None h epoch e = absurd (cc)
kept_named txn at K (actor.Server other) (Some named) h epoch e =
    let parts = cond_some (other.0 == at.0 && same_txn named.txn txn) named.epoch epoch e in
    let same : other ≡ at = ap server_number (eqb-true other.0 at.0 (and_parts (other.0 == at.0) (same_txn named.txn txn) parts.0).0) in
    subst (λ (s : ServerId). K s ≡ Some epoch) same (h.1 ∙ ap (λ (n : ℕ). Some n) parts.1)
kept_named txn at K (actor.Coordinator other) (Some named) h epoch e = absurd (cc)
kept_named txn at K actor.Master (Some named) h epoch e = absurd (cc)
kept_named txn at K actor.Authority (Some named) h epoch e = absurd (cc)

-- what they ask is kept
pub kept_asked : (txn : TxnId) (at : ServerId) (K : ServerId → Option ℕ) (letters : List Letter) → Each (NamesKept txn K) letters → (epoch : ℕ) → asked_by txn at letters ≡ Some epoch → K at ≡ Some epoch
kept_asked txn at K [] h epoch e = absurd (cc)
kept_asked txn at K (letter ∷ letters) h epoch e =
    either_found (named_by txn at letter) (asked_by txn at letters) (λ (n : ℕ). K at ≡ Some n)
    (λ n f. kept_named txn at K letter.to (naming_of letter.body) h.0 n f) (λ n f. kept_asked txn at K letters h.1 n f) epoch e

-- so is all that is asked after them, where it was so before
pub then_kept : (A : Asking) (txn : TxnId) (at : ServerId) (K : ServerId → Option ℕ) (letters : List Letter) → ((epoch : ℕ) → A txn at ≡ Some epoch → K at ≡ Some epoch)
    → Each (NamesKept txn K) letters → (epoch : ℕ) → asked_then A letters txn at ≡ Some epoch → K at ≡ Some epoch
then_kept A txn at K letters before h epoch e = either_found (A txn at) (asked_by txn at letters) (λ (n : ℕ). K at ≡ Some n) before (kept_asked txn at K letters h) epoch e

some_asked : (txn : TxnId) (at : ServerId) (letters : List Letter) (n : ℕ) (letter : Letter) → slice_get letters n ≡ Some letter → is_some (named_by txn at letter) ≡ true → is_some (asked_by txn at letters) ≡ true
some_asked txn at [] n letter e named = absurd (cc)
some_asked txn at (first ∷ letters) zero letter e named =
    let same : letter ≡ first = grind arith in
    let here = subst (λ (l : Letter). is_some (named_by txn at l) ≡ true) same named in
    ap is_some (first_kept (named_by txn at first) (asked_by txn at letters) here) ∙ here
some_asked txn at (first ∷ letters) (suc n) letter e named = later_some (named_by txn at first) (asked_by txn at letters) (some_asked txn at letters n letter e named)

the_kept : (x kept : Option ℕ) (epoch : ℕ) → is_some x ≡ true → ((n : ℕ) → x ≡ Some n → kept ≡ Some n) → kept ≡ Some epoch → x ≡ Some epoch
the_kept None kept epoch some h e = absurd (cc)
the_kept (Some n) kept epoch some h e = sym (h n refl) ∙ e

names_itself : (txn : TxnId) (at : ServerId) (epoch : ℕ) → is_some (epoch_for txn at (actor.Server at) (naming txn epoch)) ≡ true
names_itself txn at epoch = grind (arith, number_itself at.0, number_itself txn.0)

one_asks : (A : Asking) (txn : TxnId) (K : ServerId → Option ℕ) (letters : List Letter) (to : Actor) (found : Option Naming) → ((at : ServerId) (epoch : ℕ) → A txn at ≡ Some epoch → K at ≡ Some epoch)
    → Each (NamesKept txn K) letters → ((at : ServerId) → is_some (option_and_then (epoch_for txn at to) found) ≡ true → is_some (asked_by txn at letters) ≡ true) → IfSome found (IsKeptNaming txn K to)
    → IfSome found (IsAsked (asked_then A letters) to)
one_asks A txn K letters to None before h some k = tt
one_asks A txn K letters (actor.Server at) (Some named) before h some k =
    let own : naming txn named.epoch ≡ named = ap (λ (t : TxnId). naming t named.epoch) (sym k.0) in
    subst (λ (t : TxnId). asked_then A letters t at ≡ Some named.epoch) (sym k.0)
    (the_kept (asked_then A letters txn at) (K at) named.epoch
    (later_some (A txn at) (asked_by txn at letters) (some at (subst (λ (m : Naming). is_some (epoch_for txn at (actor.Server at) m) ≡ true) own (names_itself txn at named.epoch))))
    (then_kept A txn at K letters (before at) h) k.1)
one_asks A txn K letters (actor.Coordinator other) (Some named) before h some k = tt
one_asks A txn K letters actor.Master (Some named) before h some k = tt
one_asks A txn K letters actor.Authority (Some named) before h some k = tt

-- requests that name what is kept, where all that was asked is kept, name what is asked after them
pub kept_are_asked : (A : Asking) (txn : TxnId) (K : ServerId → Option ℕ) (letters : List Letter) → ((at : ServerId) (epoch : ℕ) → A txn at ≡ Some epoch → K at ≡ Some epoch)
    → Each (NamesKept txn K) letters → Each (LetterNamed (asked_then A letters)) letters
kept_are_asked A txn K letters before h =
    each_placed (LetterNamed (asked_then A letters)) letters
    (λ n letter e. one_asks A txn K letters letter.to (naming_of letter.body) before h (λ at named. some_asked txn at letters n letter e named)
    (each_get (NamesKept txn K) letters n letter h e))

-- ---- letters of one transaction

abbrev pub IsOwnNaming : TxnId → Naming → Type 0
IsOwnNaming txn named = named.txn ≡ txn

-- a request of this transaction, if it names an epoch
abbrev pub NamesOwn : TxnId → Letter → Type 0
NamesOwn txn letter = IfSome (naming_of letter.body) (IsOwnNaming txn)

kept_own : (txn : TxnId) (K : ServerId → Option ℕ) (to : Actor) (found : Option Naming) → IfSome found (IsKeptNaming txn K to) → IfSome found (IsOwnNaming txn)
kept_own txn K to None h = tt
kept_own txn K to (Some named) h = h.0

pub kept_are_own : (txn : TxnId) (K : ServerId → Option ℕ) (letters : List Letter) → Each (NamesKept txn K) letters → Each (NamesOwn txn) letters
kept_are_own txn K letters h = each_as (NamesKept txn K) (NamesOwn txn) (λ letter k. kept_own txn K letter.to (naming_of letter.body) k) letters h

other_named : (txn other : TxnId) (at : ServerId) (to : Actor) (found : Option Naming) → same_txn txn other ≡ false → IfSome found (IsOwnNaming txn) → option_and_then (epoch_for other at to) found ≡ None
other_named txn other at to None apart h = refl
other_named txn other at to (Some named) apart h =
    ap (λ (b : Bool). if b then Some named.epoch else None) (and_right (is_to_server to at) (same_txn named.txn other) (subst (λ (t : TxnId). same_txn t other ≡ false) (sym h) apart))

-- they ask nothing of another
pub other_asked : (txn other : TxnId) (at : ServerId) (letters : List Letter) → same_txn txn other ≡ false → Each (NamesOwn txn) letters → asked_by other at letters ≡ None
other_asked txn other at [] apart h = refl
other_asked txn other at (letter ∷ letters) apart h =
    ap (λ (x : Option ℕ). option_or x (asked_by other at letters)) (other_named txn other at letter.to (naming_of letter.body) apart h.0) ∙ other_asked txn other at letters apart h.1

pub other_then : (A : Asking) (txn other : TxnId) (letters : List Letter) → same_txn txn other ≡ false → Each (NamesOwn txn) letters → asked_then A letters other ≡ A other
other_then A txn other letters apart h = λ i at. (ap (option_or (A other at)) (other_asked txn other at letters apart h) ∙ first_none (A other at)) i
