-- What the coordinator does by itself: it moves on to ask, to rest or to prepare, or it ends.
use Rattle.std.proofs.Common.{◌≡◌, inl, ⊎_elim, ℕ, ◌<◌, List, [], length, Option, Some, None, is_some, IfSome, refl, sym, ap, subst, append-nil, arith}
use Rattle.tp_model.specs.Words.{Deed}
use Rattle.tp_runs.proofs.basics.Phases.{Asks, Prepares, Stand}
use Rattle.tp_runs.proofs.pairs.Fits.{AskerFits, EntryFits, Fits, Matches, OneMore}
use Rattle.tp_runs.proofs.pairs.Follows.{Follows, Later, Next, Onward, entry_follows, follows_lost}
use Rattle.tp_runs.proofs.basics.Found.{of_some, some_as}
use Rattle.tp_runs.proofs.pairs.Loses.{Loses, loses_same, pairing_as}
use Rattle.tp_runs.proofs.pairs.Pair.{Asker, Pair, got}
use Rattle.tp_runs.proofs.pairs.Site.{Site, count}

abbrev pub with_asker : Pair → Option Asker → Pair
with_asker p asker = record p { asker = asker }

-- the server holds what it held
pub asker_loses : (p : Pair) (asker : Option Asker) → Loses p (with_asker p asker)
asker_loses p asker = loses_same p (with_asker p asker) refl refl refl refl

-- the entry is as before
pub same_entry : (s : Site) (p q : Pair) → Follows p q → q.epoch ≡ p.epoch → IfSome p.entry (EntryFits s p) → IfSome p.entry (EntryFits s q)
same_entry s p q f same h = some_as (EntryFits s p) (EntryFits s q) p.entry (λ entry is fits. entry_follows s p q entry f same fits) h

-- the coordinator is further on, and the server as before
pub with_asker_fits : (s : Site) (p : Pair) (a b : Asker) → p.asker ≡ Some a → Fits s p → Later a b → AskerFits s (with_asker p (Some b)) b → Next s p (with_asker p (Some b))
with_asker_fits s p a b is h later fits =
    let q = with_asker p (Some b) in
    let f : Follows p q = follows_lost p q (asker_loses p (Some b)) (subst (λ (o : Option Asker). Onward o (Some b)) (sym is) later) in
    record {
      fits = record {
        server = record {
          down = h.server.down;
          settled = h.server.settled;
          votes = h.server.votes;
          past = h.server.past;
          front = h.server.front;
          verdicts = h.server.verdicts;
          voted = λ voted there. h.server.voted voted (ap is_some is);
        };
        asker = fits;
        entry = same_entry s p q f refl h.entry;
      };
      follows = f;
    }

-- ---- moves

-- the coordinator may stand so from now on, in a greater turn: its last query was answered; it asks while queries are
-- left, and prepares once all have run, for good
pub record MayMove (s : Site) (a : Asker) (stand : Stand) (turn : ℕ) : Type 0 where
  pub answered : a.stand ≡ Asks → ⊥
  pub rises : a.turn < turn
  pub asks : stand ≡ Asks → length a.deeds < count s
  pub all : stand ≡ Prepares → length a.deeds ≡ count s
  pub stays : a.stand ≡ Prepares → stand ≡ Prepares

abbrev pub moved : Asker → Stand → ℕ → Asker
moved a stand turn = record a { stand = stand; turn = turn }

-- while no answer is awaited, the server holds what the coordinator got
pub matched : (s : Site) (a : Asker) (deeds : List Deed) → (a.stand ≡ Asks → ⊥) → Matches s a deeds → deeds ≡ got s a.deeds
matched s a deeds answered m = ⊎_elim (λ (same : deeds ≡ got s a.deeds). same) (λ (more : OneMore s a deeds). absurd (answered more.asks)) m

moved_later : (s : Site) (a : Asker) (stand : Stand) (turn : ℕ) → MayMove s a stand turn → Later a (moved a stand turn)
moved_later s a stand turn may =
    record {
      live = λ t before l. record {
        past = l.past;
        now = λ same. absurd (may.answered (l.now same));
        present = λ same. absurd (may.answered (l.now same));
        turn_past = let old = l.turn_past in let less = may.rises in omega (arith, old, less);
        turn_now = λ asks same. let old = l.turn_past in let less = may.rises in absurd (omega (arith, old, less, same));
      };
      more = [];
      deeds = sym (append-nil a.deeds);
      epoch = λ e f. f;
      prepares = may.stays;
      turn_past = let less = may.rises in omega (arith, less);
      pauses = λ f same. let less = may.rises in absurd (omega (arith, less, same));
    }

-- the coordinator moves on
pub moves : (s : Site) (p : Pair) (a : Asker) (stand : Stand) (turn : ℕ) → p.asker ≡ Some a → Fits s p → MayMove s a stand turn → Next s p (with_asker p (Some (moved a stand turn)))
moves s p a stand turn is h may =
    let b = moved a stand turn in
    let old : AskerFits s p a = of_some (AskerFits s p) p.asker a is h.asker in
    with_asker_fits s p a b is h (moved_later s a stand turn may)
    (record {
      numbers_are = old.numbers_are;
      runs = old.runs;
      pairing = pairing_as s p (with_asker p (Some b)) a b a.epoch (asker_loses p (Some b)) refl (λ deeds m. inl (matched s a deeds may.answered m)) old.pairing;
      made = λ prepared there. let made = old.made prepared there in record { epoch = made.epoch; prepares = may.stays made.prepares };
      least = may.asks;
      most = old.most;
      all = may.all;
      unsettled = λ ended. may.stays (old.unsettled ended);
    })

-- ---- its end

-- the coordinator decides, or crashes
pub ends : (s : Site) (p : Pair) → Fits s p → Next s p (with_asker p None)
ends s p h =
    let q = with_asker p None in
    let f : Follows p q = follows_lost p q (asker_loses p None) (ended p.asker) in
    record {
      fits = record {
        server = record {
          down = h.server.down;
          settled = h.server.settled;
          votes = h.server.votes;
          past = h.server.past;
          front = h.server.front;
          verdicts = h.server.verdicts;
          voted = λ voted there. absurd (cc);
        };
        asker = tt;
        entry = same_entry s p q f refl h.entry;
      };
      follows = f;
    }
  where
    ended : (o : Option Asker) → Onward o None
    ended None = tt
    ended (Some a) = tt
