-- What a transaction's coordinator and one server know of its deeds at that server, and in which epoch of the server.
use Rattle.std.proofs.Common.{◌≡◌, ℕ, List, [], ◌∷◌, ◌++◌, filter, map, Bool, true, false, Option, Some, None, option_map, refl, ap, ◌∙◌, append-nil}
use Rattle.std.proofs.lemmas.Bool.{cond-false, cond-true}
use Rattle.std.proofs.lemmas.List.{map-append}
use Rattle.std.proofs.lemmas.List.Elements.{filter-append}
use Rattle.tp_model.specs.Words.{Deed, Prepared}
use Rattle.tp_server.specs.declared.server.Ballot.{Ballot}
use Rattle.tp_server.specs.declared.server.Entry.{Entry}
use Rattle.tp_runs.proofs.basics.Phases.{Stand}
use Rattle.tp_runs.proofs.pairs.Site.{Site, here}

-- a coordinator that is up and has not decided; its epoch is the one that the server told, and its deeds are those of all servers
pub record Asker : Type 0 where
  pub stand : Stand
  pub turn : ℕ
  pub epoch : Option ℕ
  pub deeds : List Deed

-- the server's epoch; whether it is up, and has settled the transaction; whether a vote YES was ever sent; the entry while it is
-- up; what is prepared and not settled on its log; and the coordinator while it is up and has not decided
pub record Pair : Type 0 where
  pub epoch : ℕ
  pub up : Bool
  pub settled : Bool
  pub voted : Bool
  pub entry : Option Entry
  pub prepared : Option Prepared
  pub asker : Option Asker

-- ---- what the server holds

-- deeds, and the epoch that they were begun in
pub record Held : Type 0 where
  pub epoch : ℕ
  pub deeds : List Deed

abbrev pub entry_held : Entry → Held
entry_held entry = record { epoch = entry.epoch; deeds = entry.deeds }

abbrev pub prepared_held : Prepared → Held
prepared_held prepared = record { epoch = prepared.epoch; deeds = prepared.deeds }

abbrev pub held_in : Bool → Option Entry → Option Prepared → Option Held
held_in true entry prepared = option_map entry_held entry
held_in false entry prepared = option_map prepared_held prepared

-- the deeds that the server has of the transaction: those of the entry while it is up, those that are prepared while it is down
abbrev pub held : Pair → Option Held
held p = held_in p.up p.entry p.prepared

abbrev pub if_voted : Option Ballot → Held → Option Held
if_voted None deeds = None
if_voted (Some ballot) deeds = Some deeds

-- what the entry has if it was voted on
abbrev pub voted_held : Option Entry → Option Held
voted_held None = None
voted_held (Some entry) = if_voted entry.ballot (entry_held entry)

-- entries with the same deeds and epoch are held alike
pub held_as : (up : Bool) (prepared : Option Prepared) (entry other : Option Entry) → option_map entry_held entry ≡ option_map entry_held other → held_in up entry prepared ≡ held_in up other prepared
held_as true prepared entry other e = e
held_as false prepared entry other e = refl

pub held_up : (up : Bool) (entry : Option Entry) (prepared : Option Prepared) → up ≡ true → held_in up entry prepared ≡ option_map entry_held entry
held_up true entry prepared e = refl
held_up false entry prepared e = absurd (cc)

pub held_down : (up : Bool) (entry : Option Entry) (prepared : Option Prepared) → up ≡ false → held_in up entry prepared ≡ option_map prepared_held prepared
held_down true entry prepared e = absurd (cc)
held_down false entry prepared e = refl

-- ---- numbers

abbrev pub number_of : Deed → ℕ
number_of deed = deed.query

abbrev pub numbers : List Deed → List ℕ
numbers deeds = map number_of deeds

-- the deed is of a query at the server
abbrev pub is_here : Site → Deed → Bool
is_here s deed = here s deed.query

-- those of a coordinator's deeds that are the server's
abbrev pub got : Site → List Deed → List Deed
got s deeds = filter (is_here s) deeds

-- one deed more, of a query at the server
pub got_here : (s : Site) (deeds : List Deed) (deed : Deed) → is_here s deed ≡ true → got s (deeds ++ deed ∷ []) ≡ got s deeds ++ deed ∷ []
got_here s deeds deed e = filter-append (is_here s) deeds (deed ∷ []) ∙ ap (λ (last : List Deed). got s deeds ++ last) (cond-true (is_here s deed) (deed ∷ []) [] e)

-- one deed more, of a query elsewhere
pub got_elsewhere : (s : Site) (deeds : List Deed) (deed : Deed) → is_here s deed ≡ false → got s (deeds ++ deed ∷ []) ≡ got s deeds
got_elsewhere s deeds deed e =
    filter-append (is_here s) deeds (deed ∷ []) ∙ (ap (λ (last : List Deed). got s deeds ++ last) (cond-false (is_here s deed) (deed ∷ []) [] e) ∙ append-nil (got s deeds))

-- the numbers of one deed more
pub numbers_more : (deeds : List Deed) (deed : Deed) → numbers (deeds ++ deed ∷ []) ≡ numbers deeds ++ deed.query ∷ []
numbers_more deeds deed = map-append number_of deeds (deed ∷ [])

-- no numbers, no deeds
pub numbers_none : (deeds : List Deed) → numbers deeds ≡ [] → deeds ≡ []
numbers_none [] e = refl
numbers_none (deed ∷ deeds) e = absurd (cc)
