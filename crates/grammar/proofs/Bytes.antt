-- Facts on bytes: runs of bytes, and which bytes a lowercase letter or a digit is not.
use Prim.Native.Nat.{ℕ, ◌≤◌}
use native.Mathlib.Omega.{arith}
use mathlib.Core.Path.{◌≡◌, refl, sym}
use mathlib.Core.Bool.{Bool, true, false, cond}
use mathlib.Core.List.{List, [], ◌∷◌, ◌++◌}
use lib.Dec.{leb, eqb}
use lib.ListN.{length, get_or}
use borrow.Author.Tests.{ne_eqb, leb-true}
use Rattle.signals.proofs.Truth.{true_false, and_left, and_right}
use Rattle.names.specs.Names.{all_of, letter}
use Rattle.grammar.specs.Kinds as kinds
use Rattle.grammar.specs.Reader.{run, prefix_kind, starts, block_kind}

pub never : {A : Type 0} → ◌≡◌ {A = Bool} false true → A
never e = true_false (sym e)

-- of a choice, by the test
pub by_cond : {A : Type 0} (P : A → Type 0) (b : Bool) {x y : A} → (b ≡ true → P x) → (b ≡ false → P y) → P (cond b x y)
by_cond P true f g = f refl
by_cond P false f g = g refl

-- of the block that bytes begin, by its word
pub by_block : (P : ℕ → Type 0) (l : List ℕ) → (starts (83 ∷ 82 ∷ 40 ∷ []) l ≡ true → P kinds.SR) →
    (starts (82 ∷ 83 ∷ 40 ∷ []) l ≡ true → P kinds.RS) → (starts (84 ∷ 79 ∷ 78 ∷ 40 ∷ []) l ≡ true → P kinds.TON) →
    (starts (84 ∷ 79 ∷ 70 ∷ 40 ∷ []) l ≡ true → P kinds.TOF) → (starts (84 ∷ 80 ∷ 40 ∷ []) l ≡ true → P kinds.TP) → P 0 →
    P (block_kind l)
unfolding block_kind
by_block P l sr rs ton tof tp none =
    by_cond P (starts (83 ∷ 82 ∷ 40 ∷ []) l) sr
    (λ e. by_cond P (starts (82 ∷ 83 ∷ 40 ∷ []) l) rs
    (λ e. by_cond P (starts (84 ∷ 79 ∷ 78 ∷ 40 ∷ []) l) ton
    (λ e. by_cond P (starts (84 ∷ 79 ∷ 70 ∷ 40 ∷ []) l) tof (λ e. by_cond P (starts (84 ∷ 80 ∷ 40 ∷ []) l) tp (λ e. none)))))

pub run_all : (p : ℕ → Bool) (w l : List ℕ) → all_of p w ≡ true → p (get_or l 0 0) ≡ false → run p (w ++ l) ≡ length w
unfolding run all_of
run_all p [] [] e f = refl
run_all p [] (b ∷ l) e f = rw f refl
run_all p (b ∷ w) l e f = rw (and_left (p b) (all_of p w) e, run_all p w l (and_right (p b) (all_of p w) e) f) refl

-- bytes that are no lowercase letter
pub record NotLower (b : ℕ) : Type 0 where
  pub prefix : prefix_kind b ≡ 0
  pub bracket : eqb b 40 ≡ false
  pub block : (l : List ℕ) → block_kind (b ∷ l) ≡ 0
  pub zero : eqb b 48 ≡ false
  pub one : eqb b 49 ≡ false

pub lower_low : (b : ℕ) → letter b ≡ true → 97 ≤ b
unfolding letter
lower_low b e = leb-true 97 b (and_left (leb 97 b) (leb b 122) e)

pub lower_high : (b : ℕ) → letter b ≡ true → b ≤ 122
unfolding letter
lower_high b e = leb-true b 122 (and_right (leb 97 b) (leb b 122) e)

pub lower_not : (b : ℕ) → letter b ≡ true → NotLower b
unfolding prefix_kind starts block_kind
lower_not b e =
    let low : 97 ≤ b = lower_low b e in
    let high : b ≤ 122 = lower_high b e in
    record {
      prefix = rw (ne_eqb b 33 (omega arith), ne_eqb b 94 (omega arith), ne_eqb b 126 (omega arith)) refl;
      bracket = ne_eqb b 40 (omega arith);
      block = λ l. rw (ne_eqb b 83 (omega arith), ne_eqb b 82 (omega arith), ne_eqb b 84 (omega arith)) refl;
      zero = ne_eqb b 48 (omega arith);
      one = ne_eqb b 49 (omega arith);
    }
