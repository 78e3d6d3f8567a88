-- A type may hold itself through `List` as it may through the list of its members. A recursive type asks for these
-- seven names: how values lie in a list, that an empty one has none, and that changing each keeps the rest.
use mathlib.Core.Path.{◌≡◌, refl, sym}
use mathlib.Core.List.{List as Plain, []}
use mathlib.Core.Former.{Former, this, list, via, children}
use base.Stored.{code_map}
use denote.Hole.Carrier.{listed, list-listed}
use denote.Hole.Fix.{over}
use denote.HoleLaws.{Alike}
use denote.HolePlaces.{Recodes, struct_places, laid}
use denote.Model.Placed.{view_places}
use denote.Param.Weighed.{Weighed, w_list}
use denote.RattleType.{RattleType}
use Rattle.std.specs.contracts.alloc.Global as heap
use Rattle.std.specs.contracts.impls.GlobalAllocator.TheImpl.{ghosts}
use Rattle.std.specs.declared.alloc.Global.{Global}
use Rattle.std.specs.formers.vec.Vec as vector
use Rattle.tp_types.specs.contracts.list.List as whole
use Rattle.tp_types.specs.contracts.list.List.TheInside as within
use Rattle.tp_types.specs.declared.list.List.TheInside.{Inside}
use Rattle.tp_types.specs.declared.list.List.TheView.{view, invariant}

-- seen from outside a list holds its members as a plain list does
abbrev pub the_former : Former {0} → Former {0}
the_former held = list held

abbrev pub the_weighed : {held : Former {0}} → Weighed held → Weighed (the_former held)
the_weighed weighed = w_list weighed

pub the_empty : Plain ⊥
the_empty = []

abbrev pub the_items : (X : Type 0) → Plain X → Plain X
the_items X members = members

pub the_items_listed : (X : Type 0) (members : Plain X)
    → listed _ (children (the_former this) X members) ≡ the_items X members
the_items_listed X members = list-listed X members

-- inside, its one field holds them as a vector does
abbrev inner : Former {0}
inner =
    via (vector.the_former this Global) Inside (λ X field. field.items)
    (λ X held. record { items = held }) (λ X field. refl) (λ X held. refl)

module _ (From To : RattleType) (change : From.Denot → To.Denot) where
  -- a change of every member is a change of the list, member by member
  pub the_places : Alike From To change
      → Alike (whole.the_row From) (whole.the_row To)
      ((the_former this).map From.Denot To.Denot change)
  the_places alike = view_places inner (list this) view (λ X Y f u. refl) (λ X u. refl) From.Denot To.Denot change (whole.the_row From).coded (whole.the_row To).coded
      (invariant From.Denot) (invariant To.Denot) (λ u p q. refl) (λ u p q. refl) (λ u e. tt)
      (λ u e. tt)
      (over (within.the_row From)) (over (within.the_row To))
      (struct_places (within.the_type From) (within.the_type To) (vector.mapped change, tt) _
      (λ d. refl) refl
      (laid _ _ _ (vector.the_places heap.the_row ghosts From To change alike), tt))

  pub the_codes_placed : Recodes From To change
      → Recodes (whole.the_row From) (whole.the_row To)
      ((the_former this).map From.Denot To.Denot change)
  the_codes_placed same members = sym (code_map From.coded.code To.coded.code change (λ x. sym (same x)) members)
