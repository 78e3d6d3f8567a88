-- The steps of a seat, where the table is told what the site names.
use Rattle.std.proofs.Common.{◌≡◌, ℕ, ◌+◌, ◌%◌, ◌^◌, ◌<◌, ◌≤◌, List, [], ◌∷◌, ◌++◌, length, true, refl, sym, subst, length-append, arith}
use Rattle.atomic_table.specs.Table.{State, Me, Allows}
use Rattle.tp_wire.specs.declared.view.Entry.{Entry}
use Rattle.tp_wire.specs.declared.view.Part.{Part}
use Rattle.tp_wire.specs.declared.view.View.{View}
use Rattle.tp_wire.specs.Entries.{sent_in}
use Rattle.tp_wire.specs.History.{HasOneActor, numbers_of}
use Rattle.tp_wire.specs.Passes.{IsLook, MayPost}
use Rattle.tp_wire.specs.Rule.{Kept}
use Rattle.tp_wire.specs.mirrors.Moves.{Made, reads, adds, takes, clears}
use Rattle.tp_wire.proofs.MoveLemmas.{looks, makes, reading, adding, taking, clearing}

one_part : (parts : List Part) → length parts ≡ 1 → (p : Part) × (parts ≡ p ∷ [])
one_part [] e = absurd (omega arith)
one_part (p ∷ []) e = (p, refl)
one_part (p ∷ (q ∷ parts)) e = absurd (omega arith)

module _ {K : Type 0} (follows : K → List Entry → Entry → Type 0) (actors passes : K → ℕ) (key about : K) (told : key ≡ about) where
  abbrev ruled : {S : Type 0} → State S View → Type 0
  ruled s = Kept (follows key) (actors key) (passes key) s.words s.views

  pub look_at : {S : Type 0} (slots id : ℕ) (me : Me S View) → Allows (ruled {S = S}) slots id me 0 (λ n. n) (λ n w. IsLook (follows about) (actors about) n me.0 w.0 × (w.1 ≡ me.1))
  look_at {S = S} slots id me =
      subst (λ (k : K). Allows (λ (s : State S View). Kept (follows k) (actors k) (passes k) s.words s.views) slots id me 0 (λ n. n) (λ n w. IsLook (follows about) (actors about) n me.0 w.0 × (w.1 ≡ me.1)))
      (sym told) (looks (follows about) (actors about) (passes about) slots id me.0 me.1)

  pub read_at : {S : Type 0} (slots id : ℕ) (me : Me S View) → me.0.book ≡ true
      → Allows (ruled {S = S}) slots id me 0 (λ n. n) (λ n w. Made (follows about) (actors about) (passes about) n me.0 (reads me.0) × (w ≡ (reads me.0, me.1)))
  read_at {S = S} slots id me book =
      subst (λ (k : K). Allows (λ (s : State S View). Kept (follows k) (actors k) (passes k) s.words s.views) slots id me 0 (λ n. n) (λ n w. Made (follows about) (actors about) (passes about) n me.0 (reads me.0) × (w ≡ (reads me.0, me.1))))
      (sym told) (makes (follows about) (actors about) (passes about) slots id me.0 (reads me.0) me.1 (λ n. n) [] book refl (reading (follows about) (actors about) (passes about) me.0 book))

  pub take_at : {S : Type 0} (slots id : ℕ) (me : Me S View) → me.0.book ≡ true → length me.0.parts ≡ 1 → length me.0.takers < sent_in me.0.log
      → Allows (ruled {S = S}) slots id me 0 (λ n. n) (λ n w. Made (follows about) (actors about) (passes about) n me.0 (takes me.0) × (w ≡ (takes me.0, me.1)))
  take_at {S = S} slots id me book one free =
      let part = one_part me.0.parts one in
      subst (λ (k : K). Allows (λ (s : State S View). Kept (follows k) (actors k) (passes k) s.words s.views) slots id me 0 (λ n. n) (λ n w. Made (follows about) (actors about) (passes about) n me.0 (takes me.0) × (w ≡ (takes me.0, me.1))))
      (sym told) (makes (follows about) (actors about) (passes about) slots id me.0 (takes me.0) me.1 (λ n. n) [] book refl (taking (follows about) (actors about) (passes about) me.0 part.0 book part.1 free))

  pub clear_at : {S : Type 0} (slots id : ℕ) (me : Me S View) → me.0.book ≡ true → sent_in me.0.log ≤ length me.0.takers
      → Allows (ruled {S = S}) slots id me 0 (λ n. n) (λ n w. Made (follows about) (actors about) (passes about) n me.0 (clears me.0) × (w ≡ (clears me.0, me.1)))
  clear_at {S = S} slots id me book none =
      subst (λ (k : K). Allows (λ (s : State S View). Kept (follows k) (actors k) (passes k) s.words s.views) slots id me 0 (λ n. n) (λ n w. Made (follows about) (actors about) (passes about) n me.0 (clears me.0) × (w ≡ (clears me.0, me.1))))
      (sym told) (makes (follows about) (actors about) (passes about) slots id me.0 (clears me.0) me.1 (λ n. n) [] book refl (clearing (follows about) (actors about) (passes about) me.0 book none))

  pub add_at : {S : Type 0} (slots id : ℕ) (me : Me S View) (e : Entry) → me.0.book ≡ true → length me.0.log < 2 ^ 48 → e.numbers ≡ numbers_of me.0.parts → HasOneActor (actors about) e → MayPost (follows about) me.0 e
      → Allows (ruled {S = S}) slots id me 0 (λ n. (n + 1) % 2 ^ 64) (λ n w. Made (follows about) (actors about) (passes about) n me.0 (adds e me.0) × (w ≡ (adds e me.0, me.1)))
  add_at {S = S} slots id me e book room numbers actor may =
      let grown : (length me.0.log + 1) % 2 ^ 64 ≡ length (me.0.log ++ e ∷ []) = omega (arith, length-append me.0.log (e ∷ []), room) in
      subst (λ (k : K). Allows (λ (s : State S View). Kept (follows k) (actors k) (passes k) s.words s.views) slots id me 0 (λ n. (n + 1) % 2 ^ 64) (λ n w. Made (follows about) (actors about) (passes about) n me.0 (adds e me.0) × (w ≡ (adds e me.0, me.1))))
      (sym told) (makes (follows about) (actors about) (passes about) slots id me.0 (adds e me.0) me.1 (λ n. (n + 1) % 2 ^ 64) (e ∷ []) book grown (adding (follows about) (actors about) (passes about) me.0 e book room numbers actor may))
