-- One master, as it is said of a list of facts, and of nothing else. Each operation begins once and ends at most once,
-- later. The versions of an administrator are published one after another, each once the one before it has ended. A
-- reading ends with a version that is no less than any with which an operation of its administrator had ended when the
-- reading began, and that was published before it ended.
use Rattle.std.specs.Prelude.{◌≡◌, ◌<◌, ◌≤◌, ℕ, ◌+◌, ◌==◌, ◌&&◌, ◌||◌, List, [], ◌∷◌, slice_get, take, Bool, true, false, Option, Some, None, is_none, if◌then◌else◌}
use Rattle.tp_quorum.specs.Words.{AdminId, QFact, QWhat, Version}
use Rattle.tp_quorum.specs.Words.what

-- ---- what is looked up in a list of facts

-- how an operation began: a publication has no reader, a reading no version
pub record Beginning : Type 0 where
  pub admin : AdminId
  pub reader : Option ℕ
  pub version : Option Version

abbrev pub begins : ℕ → QWhat → Bool
begins op (what.Began other admin reader version) = other == op
begins op _ = false

abbrev pub ends : ℕ → QWhat → Bool
ends op (what.Ended other version) = other == op
ends op _ = false

abbrev pub is_beginning : QWhat → Bool
is_beginning (what.Began op admin reader version) = true
is_beginning _ = false

abbrev pub is_publication : AdminId → QWhat → Bool
is_publication admin (what.Began op other reader version) = is_none reader && other.0 == admin.0
is_publication admin _ = false

-- how many facts pass a test
abbrev pub count_of : (QWhat → Bool) → List QFact → ℕ
count_of test [] = 0
count_of test (fact ∷ facts) =
    if test fact.what then count_of test facts + 1 else count_of test facts

-- the operation has ended
abbrev pub has_ended : ℕ → List QFact → Bool
has_ended op [] = false
has_ended op (fact ∷ facts) = ends op fact.what || has_ended op facts

abbrev pub beginning_by : QWhat → Option Beginning
beginning_by (what.Began op admin reader version) =
    Some (record { admin = admin; reader = reader; version = version })
beginning_by _ = None

-- how the operation began, if it did
abbrev pub beginning_of : ℕ → List QFact → Option Beginning
beginning_of op [] = None
beginning_of op (fact ∷ facts) =
    if begins op fact.what then beginning_by fact.what else beginning_of op facts

-- the facts before the operation's beginning
abbrev pub before_start : ℕ → List QFact → List QFact
before_start op [] = []
before_start op (fact ∷ facts) =
    if begins op fact.what then [] else fact ∷ before_start op facts

-- how many publications of an administrator began
abbrev pub publications : AdminId → List QFact → ℕ
publications admin facts = count_of (is_publication admin) facts

-- ---- what may come behind the facts before it

-- the k-th publication has version k + 1, and each publication before it has ended
pub record BeginsNext (before : List QFact) (admin : AdminId) (version : Version) : Type 0 where
  pub next : version.0 ≡ publications admin before + 2
  pub alone : (n op : ℕ) (fact : QFact) (own : Option Version) → slice_get before n ≡ Some fact
      → fact.what ≡ what.Began op admin None own → has_ended op before ≡ true

-- a publication has a version, and a reading has none
abbrev pub BeginsSo : List QFact → AdminId → Option ℕ → Option Version → Type 0
BeginsSo before admin None (Some version) = BeginsNext before admin version
BeginsSo before admin (Some reader) None = Unit {0}
BeginsSo before admin _ _ = ⊥

-- operations are numbered as they begin
pub record BeginsRightly (before : List QFact) (op : ℕ) (admin : AdminId) (reader : Option ℕ) (version : Option Version) : Type 0 where
  pub numbered : op ≡ count_of is_beginning before
  pub so : BeginsSo before admin reader version

-- a reading ends with at least the first version, and each with which an operation of its administrator ended before it
-- began; and at most the last that was published before it ends
pub record EndsBetween (before : List QFact) (op : ℕ) (admin : AdminId) (version : Version) : Type 0 where
  pub some : 1 ≤ version.0
  pub newest : (n other : ℕ) (fact : QFact) (found : Version) (begun : Beginning)
      → slice_get (before_start op before) n ≡ Some fact → fact.what ≡ what.Ended other found
      → beginning_of other before ≡ Some begun → begun.admin ≡ admin → found.0 ≤ version.0
  pub published : version.0 ≤ publications admin before + 1

-- a publication ends with its own version
abbrev pub EndsSo : List QFact → ℕ → AdminId → Option Version → Version → Type 0
EndsSo before op admin (Some own) version = version ≡ own
EndsSo before op admin None version = EndsBetween before op admin version

-- the operation has begun, and has not ended
pub record EndsRightly (before : List QFact) (op : ℕ) (version : Version) : Type 0 where
  pub begun : Beginning
  pub is_begun : beginning_of op before ≡ Some begun
  pub running : has_ended op before ≡ false
  pub so : EndsSo before op begun.admin begun.version version

abbrev pub Follows : List QFact → QWhat → Type 0
Follows before (what.Began op admin reader version) = BeginsRightly before op admin reader version
Follows before (what.Ended op version) = EndsRightly before op version

-- each fact may come behind those before it, and is of a later place
pub record OneMaster (facts : List QFact) : Type 0 where
  pub follows : (n : ℕ) (fact : QFact) → slice_get facts n ≡ Some fact → Follows (take n facts) fact.what
  pub later : (n : ℕ) (fact next : QFact) → slice_get facts n ≡ Some fact
      → slice_get facts (n + 1) ≡ Some next → fact.place < next.place
