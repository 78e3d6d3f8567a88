-- What the calls of a wire tell.
use Rattle.std.specs.Prelude.{◌≡◌, ℕ, ◌+◌, ◌<◌, ◌≤◌, List, [], ◌∷◌, ◌++◌, length, map, None, Some, slice_get}
use Rattle.tp_types.specs.Each.{Each}
use Rattle.tp_types.specs.declared.mail.Mail.{Mail}
use Rattle.tp_wire.specs.declared.book.Lookup.{Lookup}
use Rattle.tp_wire.specs.declared.book.Lookup.TheVariants.{Found, Missing}
use Rattle.tp_wire.specs.declared.view.Entry.{Entry}
use Rattle.tp_wire.specs.declared.view.Part.{Part}
use Rattle.tp_wire.specs.declared.view.View.{View}
use Rattle.tp_wire.specs.Entries.{sent_in}
use Rattle.tp_wire.specs.History.{StartsWith, Lawful, HasOneActor, IsPart, taken_by}
use Rattle.tp_wire.specs.Passes.{moved, with_mail}

-- The poster found a history, behind all that it had seen and was told, and no entry of its parts was behind theirs.
-- The entry was added to it at the place that is answered, may follow, and now stands in each of the parts
pub record IsPosted (follows : List Entry → Entry → Type 0) (actors : ℕ) (v : View) (e : Entry) (place : ℕ) (w : View) : Type 0 where
  pub before : List Entry
  pub begins : StartsWith before v.seen
  pub also : Each (StartsWith v.seen) v.also
  pub told : v.told ≤ length before
  pub parts : Each (IsPart before) v.parts
  pub place_is : place ≡ length before
  pub lawful : Lawful follows (before ++ e ∷ [])
  pub acted : Each (HasOneActor actors) (before ++ e ∷ [])
  pub seen_is : w.seen ≡ before ++ e ∷ []
  pub told_is : w.told ≡ length before + 1
  pub parts_are : w.parts ≡ map (moved (before ++ e ∷ [])) v.parts
  pub cleared_is : w.cleared ≡ v.cleared
  pub also_is : w.also ≡ []

-- The pass has seen the whole history, which begins with all that it had seen, and is no shorter than it had been told
pub record SeesAll (follows : List Entry → Entry → Type 0) (actors : ℕ) (v w : View) : Type 0 where
  pub begins : StartsWith w.seen v.seen
  pub also : Each (StartsWith v.seen) v.also
  pub told : v.told ≤ length w.seen
  pub parts : Each (IsPart w.seen) v.parts
  pub lawful : Lawful follows w.seen
  pub acted : Each (HasOneActor actors) w.seen
  pub told_is : w.told ≡ length w.seen
  pub also_is : w.also ≡ []

-- all else is as it was
pub record KeepsParts (v w : View) : Type 0 where
  pub parts_are : w.parts ≡ v.parts
  pub cleared_is : w.cleared ≡ v.cleared

-- what stands among the mails under a number: the mail, or how many mails there are where there is none of it
abbrev pub IsLookup : List Mail → ℕ → Lookup → Type 0
IsLookup mails number (Found mail) = slice_get mails number ≡ Some mail
IsLookup mails number (Missing count) = (slice_get mails number ≡ None) × (count ≡ length mails)

-- So many mails had been taken as the number says, so that it is the least that was not, and the part has taken it as well; it
-- was sent. Which takers these were is told when the wire is closed
pub record IsTaken (v : View) (mail : ℕ) (w : View) : Type 0 where
  pub takers : List ℕ
  pub number_is : mail ≡ length takers
  pub took : Each (λ (p : Part). p.took ≡ taken_by p.number takers) v.parts
  pub sent : mail < sent_in w.seen
  pub parts_are : w.parts ≡ map (with_mail mail) v.parts
  pub cleared_is : w.cleared ≡ v.cleared

-- As many mails had been taken as were sent. Which takers these were is told when the wire is closed
pub record IsCleared (v w : View) : Type 0 where
  pub takers : List ℕ
  pub took : Each (λ (p : Part). p.took ≡ taken_by p.number takers) v.parts
  pub all_taken : sent_in w.seen ≤ length takers
  pub parts_are : w.parts ≡ v.parts
  pub cleared_is : w.cleared ≡ length w.seen
