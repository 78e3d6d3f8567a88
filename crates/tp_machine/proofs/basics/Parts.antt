-- Laws of actors that are up or down.
use Rattle.std.proofs.Common.{◌≡◌, ℕ, zero, suc, ◌<◌, List, [], ◌∷◌, length, map, slice_get, slice_set, slice_index_or, Option, None, Some, Result, OnErr, IfOk, refl, sym, ap, subst, ◌∙◌, Bool, false, true, arith}
use Rattle.std.proofs.lemmas.Result.{IfOk-weaker}
use Rattle.std.specs.Prelude.{Err, Ok, unwrap_or}
use Rattle.std.proofs.Math.Seq.{map-set_same}
use Rattle.tp_coord.specs.State.{Coordinator}
use Rattle.tp_model.specs.Words.{Mail, Scenario, ServerId, TxnId}
use Rattle.tp_server.specs.State.{Server}
use Rattle.tp_machine.specs.declared.actors.Actors.{Actors}
use Rattle.tp_machine.specs.declared.part.Act.{Act}
use Rattle.tp_machine.specs.Parts.{Part}
use Rattle.tp_machine.specs.mirrors.Acts.{Moves}
use Rattle.tp_machine.specs.Acts.{Acts}
use Rattle.tp_machine.specs.Logs.{log_by}
use Rattle.tp_machine.specs.Machine.{PartMove, coordinator_move, coordinator_submits, coordinator_takes, is_part_down, server_move, server_takes, submission_by, to_coordinator, to_server}

-- where an actor stays up, or stays down, so do all
pub same_up : {S : Type 0} → (parts : List (Part S)) (at : ℕ) (old new : Part S) → old ≡ slice_index_or parts at old → is_part_down new ≡ is_part_down old
    → map is_part_down (slice_set parts at new) ≡ map is_part_down parts
same_up parts at old new here kept = map-set_same is_part_down parts at new old (kept ∙ ap is_part_down here)

-- where an actor's log stays, so do all
pub same_logs : {S : Type 0} → (parts : List (Part S)) (at : ℕ) (old new : Part S) → old ≡ slice_index_or parts at old → new.log ≡ old.log
    → map log_by (slice_set parts at new) ≡ map log_by parts
same_logs parts at old new here kept = map-set_same log_by parts at new old (kept ∙ ap log_by here)

pub some_inj : {A : Type 0} (x y : A) → Some x ≡ Some y → x ≡ y
some_inj {A} x y e = ap (λ (o : Option A). unwrap_or o x) e

-- ---- the member of a list that is changed in place

pub member : {A : Type 0} (xs : List A) (n : ℕ) (x : A) → n < length xs → x ≡ slice_index_or xs n x → slice_get xs n ≡ Some x
member [] n x within same = absurd (omega (arith, within))
member {A} (y ∷ xs) zero x within same = ap (λ (z : A). Some z) (sym same)
member (y ∷ xs) (suc n) x within same = member xs n x (omega (arith, within)) same

pub no_member : {A : Type 0} (xs : List A) (n : ℕ) → (n < length xs → ◌≡◌ {A = Bool} false true) → slice_get xs n ≡ None
no_member [] n h = refl
no_member (y ∷ xs) zero h = absurd (cc (h (omega arith)))
no_member (y ∷ xs) (suc n) h = no_member xs n (λ within. h (omega (arith, within)))

-- ---- the move of one actor

server_moved : (actors : Actors) (at : ServerId) (move : PartMove Server) (now : Part Server) (act : Act) → Acts move now act
    → Moves (server_move actors at move) (record actors { servers = slice_set actors.servers at.0 now }) act
server_moved actors at move now act did = record {
  actors_are = ap (λ (p : Part Server). record actors { servers = slice_set actors.servers at.0 p }) did.part_is;
  happened_is = did.happened_is;
  letters_are = did.letters_are;
}

coordinator_moved : (actors : Actors) (txn : TxnId) (move : PartMove Coordinator) (now : Part Coordinator) (act : Act) → Acts move now act
    → Moves (coordinator_move actors txn move) (record actors { coordinators = slice_set actors.coordinators txn.0 now }) act
coordinator_moved actors txn move now act did = record {
  actors_are = ap (λ (p : Part Coordinator). record actors { coordinators = slice_set actors.coordinators txn.0 p }) did.part_is;
  happened_is = did.happened_is;
  letters_are = did.letters_are;
}

pub server_moves : {E : Type 0} (sc : Scenario) (actors : Actors) (mail : Mail) (at : ServerId) (part now : Part Server) (result : Result Act E) → slice_get actors.servers at.0 ≡ Some part
    → IfOk result (λ act. Acts (server_takes sc at part mail) now act)
    → IfOk result (λ act. Moves (to_server sc actors mail at (slice_get actors.servers at.0)) (record actors { servers = slice_set actors.servers at.0 now }) act)
server_moves sc actors mail at part now result found did =
    IfOk-weaker result _ _
    (λ act h. subst (λ (o : Option (Part Server)). Moves (to_server sc actors mail at o) (record actors { servers = slice_set actors.servers at.0 now }) act) (sym found)
    (server_moved actors at (server_takes sc at part mail) now act h)) did

pub coordinator_moves : {E : Type 0} (sc : Scenario) (actors : Actors) (mail : Mail) (txn : TxnId) (part now : Part Coordinator) (result : Result Act E) → slice_get actors.coordinators txn.0 ≡ Some part
    → IfOk result (λ act. Acts (coordinator_takes sc part mail) now act)
    → IfOk result (λ act. Moves (to_coordinator sc actors mail txn (slice_get actors.coordinators txn.0)) (record actors { coordinators = slice_set actors.coordinators txn.0 now }) act)
coordinator_moves sc actors mail txn part now result found did =
    IfOk-weaker result _ _
    (λ act h. subst (λ (o : Option (Part Coordinator)). Moves (to_coordinator sc actors mail txn o) (record actors { coordinators = slice_set actors.coordinators txn.0 now }) act) (sym found)
    (coordinator_moved actors txn (coordinator_takes sc part mail) now act h)) did

pub submission_moves : {E : Type 0} (sc : Scenario) (actors : Actors) (txn : TxnId) (place : ℕ) (part now : Part Coordinator) (result : Result Act E) → slice_get actors.coordinators txn.0 ≡ Some part
    → IfOk result (λ act. Acts (coordinator_submits sc part txn place) now act)
    → IfOk result (λ act. Moves (submission_by sc actors txn place (slice_get actors.coordinators txn.0)) (record actors { coordinators = slice_set actors.coordinators txn.0 now }) act)
submission_moves sc actors txn place part now result found did =
    IfOk-weaker result _ _
    (λ act h. subst (λ (o : Option (Part Coordinator)). Moves (submission_by sc actors txn place o) (record actors { coordinators = slice_set actors.coordinators txn.0 now }) act) (sym found)
    (coordinator_moved actors txn (coordinator_submits sc part txn place) now act h)) did

-- what is read off each member stays where one is put that reads the same
pub put_same : {A B : Type 0} (f : A → B) (xs : List A) (n : ℕ) (old new : A) → slice_get xs n ≡ Some old → f new ≡ f old → map f (slice_set xs n new) ≡ map f xs
put_same f [] zero old new found same = refl
put_same f [] (suc n) old new found same = refl
put_same {A} {B} f (x ∷ xs) zero old new found same = ap (λ (y : B). y ∷ map f xs) (same ∙ sym (ap f (some_inj x old found)))
put_same f (x ∷ xs) (suc n) old new found same = ap (λ ys. f x ∷ ys) (put_same f xs n old new found same)

-- two that read the same may be put
pub put_alike : {A B : Type 0} (f : A → B) (xs : List A) (n : ℕ) (one other : A) → f one ≡ f other → map f (slice_set xs n one) ≡ map f (slice_set xs n other)
put_alike f [] zero one other same = refl
put_alike f [] (suc n) one other same = refl
put_alike {A} {B} f (x ∷ xs) zero one other same = ap (λ (y : B). y ∷ map f xs) same
put_alike f (x ∷ xs) (suc n) one other same = ap (λ ys. f x ∷ ys) (put_alike f xs n one other same)

-- what is so is so where a call is refused
pub on_err_any : {T E P : Type 0} (r : Result T E) → P → OnErr r P
on_err_any (Ok x) p = tt
on_err_any (Err e) p = p
