-- Laws of texts: what they begin with, their blanks, and the two ways in which one text is cut.
use Rattle.std.proofs.Common.{◌≡◌, ◌⊎◌, inl, inr, ℕ, ◌+◌, List, [], ◌∷◌, ◌++◌, Bool, true, false, if◌then◌else◌, refl, sym, ap, ◌∙◌, arith}
use Rattle.std.proofs.lemmas.Option.{same_Some}
use Rattle.tp_policy_text.specs.Lexis.{count, first, is_blank, skip}

abbrev pub tail : List ℕ → List ℕ
tail [] = []
tail (x ∷ xs) = xs

-- ---- one byte further

-- two texts with the same beginning begin with the same byte, where what follows does
pub first_after : (xs ts us : List ℕ) → first ts ≡ first us → first (xs ++ ts) ≡ first (xs ++ us)
first_after [] ts us e = e
first_after (x ∷ xs) ts us e = refl

-- ---- blanks

pub skip_skip : (s : List ℕ) → skip (skip s) ≡ skip s
skip_skip [] = refl
skip_skip (byte ∷ others) = by_blank (is_blank byte) byte others refl (skip_skip others)
  where
    by_blank : (b : Bool) (c : ℕ) (rest : List ℕ) → is_blank c ≡ b → skip (skip rest) ≡ skip rest → skip (if b then skip rest else c ∷ rest) ≡ (if b then skip rest else c ∷ rest)
    by_blank true c rest e later = later
    by_blank false c rest e later = ap (λ (d : Bool). if d then skip rest else c ∷ rest) e

-- a text that begins with no blank
abbrev pub IsTight : List ℕ → Type 0
IsTight s = skip s ≡ s

pub skip_tight : (s : List ℕ) → IsTight (skip s)
skip_tight s = skip_skip s

pub tight_byte : (byte : ℕ) (others : List ℕ) → is_blank byte ≡ false → IsTight (byte ∷ others)
tight_byte byte others e = ap (λ (b : Bool). if b then skip others else byte ∷ others) e

pub skip_blank : (others : List ℕ) → skip (32 ∷ others) ≡ skip others
skip_blank others = refl

-- ---- cuts

pub same_heads : (a b : ℕ) (us vs : List ℕ) → a ∷ us ≡ b ∷ vs → (a ≡ b) × (us ≡ vs)
same_heads a b us vs f = (same_Some a b (ap first f), ap tail f)

-- ---- counts

pub count_append : (byte : ℕ) (xs ys : List ℕ) → count byte (xs ++ ys) ≡ count byte xs + count byte ys
count_append byte [] ys = omega (arith)
count_append byte (x ∷ xs) ys = let later = count_append byte xs ys in omega (arith, later)

-- where a byte stands in two texts behind one another: in the first, or in the second
pub record InFirst (y p : List ℕ) (byte : ℕ) : Type 0 where
  pub after : List ℕ
  pub parts : y ≡ p ++ (byte ∷ after)

pub record InSecond (y z p q : List ℕ) (byte : ℕ) : Type 0 where
  pub before : List ℕ
  pub front : p ≡ y ++ before
  pub parts : z ≡ before ++ (byte ∷ q)

pub stands_in : (y z p q : List ℕ) (byte : ℕ) → y ++ z ≡ p ++ (byte ∷ q) → InFirst y p byte ⊎ InSecond y z p q byte
stands_in [] z p q byte e = inr (record { before = p; front = refl; parts = e })
stands_in (b ∷ y) z [] q byte e = let same = same_heads b byte (y ++ z) q e in inl (record { after = y; parts = ap (λ c. c ∷ y) same.0 })
stands_in (b ∷ y) z (c ∷ p) q byte e =
    let same = same_heads b c (y ++ z) (p ++ (byte ∷ q)) e in
    further (stands_in y z p q byte same.1) same.0
  where
    further : InFirst y p byte ⊎ InSecond y z p q byte → b ≡ c → InFirst (b ∷ y) (c ∷ p) byte ⊎ InSecond (b ∷ y) z (c ∷ p) q byte
    further (inl i) heads = inl (record { after = i.after; parts = ap (λ h. h ∷ y) heads ∙ ap (λ ys. c ∷ ys) i.parts })
    further (inr i) heads = inr (record { before = i.before; front = ap (λ ps. c ∷ ps) i.front ∙ ap (λ h. h ∷ (y ++ i.before)) (sym heads); parts = i.parts })

-- no text but the empty one is a front of the empty one
pub empty_front : (y z : List ℕ) → [] ≡ y ++ z → y ≡ []
empty_front [] z e = refl
empty_front (b ∷ y) z e = absurd (cc)
