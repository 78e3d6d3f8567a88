-- What a server knows of versions once it has learnt some, and which version it evaluates.
use Rattle.std.proofs.Common.{List, None, Option, Some, [], ap, arith, find, option_map, refl, slice_get, slice_set, subst, suc, sym, unwrap_or, zero, ℕ, ◌∷◌, ◌≡◌, ◌≤◌}
use Rattle.std.proofs.lemmas.Bool.{eqb-true}
use Rattle.tp_model.specs.Words.{AdminId, Version}
use Rattle.tp_model.specs.WantedVersions.{is_for, want_number}
use Rattle.tp_store.specs.Contents.{Contents}
use Rattle.tp_store.specs.Rule.{greater, newest_in, with_version}
use Rattle.tp_runs.proofs.basics.Ids.{admin_number}
use Rattle.tp_types.proofs.EachLemmas.{each_found, found_passes}
use Rattle.tp_types.specs.Each.{Each}
use Rattle.tp_server.specs.State.{Server}
use Rattle.tp_server.specs.Verdicts.{version_known, version_or, version_used, with_versions}

-- what holds of the version at a place, and of one that is written there, holds of the one that then stands there
pub set_keeps : (P : Version → Type 0) (versions : List Version) (n m : ℕ) (new default : Version) → P (unwrap_or (slice_get versions m) default) → (n ≡ m → P new)
    → P (unwrap_or (slice_get (slice_set versions n new) m) default)
set_keeps P [] n m new default h now = h
set_keeps P (version ∷ versions) zero zero new default h now = now refl
set_keeps P (version ∷ versions) zero (suc m) new default h now = h
set_keeps P (version ∷ versions) (suc n) zero new default h now = h
set_keeps P (version ∷ versions) (suc n) (suc m) new default h now = set_keeps P versions n m new default h (λ same. now (ap suc same))

greater_most : (one other : Version) (most : ℕ) → one.0 ≤ most → other.0 ≤ most → (greater one other).0 ≤ most
greater_most one other most h k = omega (arith, h, k)

-- what is known after it was known before, or was learnt
pub known_most : (store : Contents) (told admin : AdminId) (version : Version) (most : ℕ) → (newest_in store admin).0 ≤ most → (told.0 ≡ admin.0 → version.0 ≤ most)
    → (newest_in (with_version store told version) admin).0 ≤ most
known_most store told admin version most h now =
    set_keeps (λ (known : Version). known.0 ≤ most) store.known told.0 admin.0 (greater (newest_in store told) version) (record { 0 = 1 }) h
    (λ same. greater_most (newest_in store told) version most (subst (λ (n : ℕ). (unwrap_or (slice_get store.known n) (record { 0 = 1 })).0 ≤ most) (sym same) h) (now same))

-- ---- versions wanted

-- so it is once each of the wanted versions is learnt
pub learnt_most : (store : Contents) (want : List (AdminId × Version)) (admin : AdminId) (most : ℕ) → (newest_in store admin).0 ≤ most
    → Each (λ (wanted : AdminId × Version). wanted.0.0 ≡ admin.0 → wanted.1.0 ≤ most) want → (newest_in (with_versions store want) admin).0 ≤ most
learnt_most store [] admin most h w = h
learnt_most store (wanted ∷ want) admin most h w =
    learnt_most (with_version store wanted.0 wanted.1) want admin most (known_most store wanted.0 admin wanted.1 most h w.0) w.1

used_found : (P : AdminId → Version → Type 0) (want : List (AdminId × Version)) (admin : AdminId) (known : Version) (found : Option (AdminId × Version)) → find (is_for admin) want ≡ found
    → Each (λ (wanted : AdminId × Version). P wanted.0 wanted.1) want → P admin known → P admin (version_or (option_map want_number found) known)
used_found P want admin known None e w h = h
used_found P want admin known (Some wanted) e w h =
    subst (λ (a : AdminId). P a wanted.1) (ap admin_number (eqb-true wanted.0.0 admin.0 (found_passes (is_for admin) want wanted e)))
    (each_found (λ (one : AdminId × Version). P one.0 one.1) (is_for admin) want wanted w e)

-- what holds of each wanted version and of the one known holds of the one that is used
pub used_by : (P : AdminId → Version → Type 0) (s : Server) (want : List (AdminId × Version)) (admin : AdminId) → Each (λ (wanted : AdminId × Version). P wanted.0 wanted.1) want → P admin (version_known s admin)
    → P admin (version_used s want admin)
used_by P s want admin w h = used_found P want admin (version_known s admin) (find (is_for admin) want) refl w h
