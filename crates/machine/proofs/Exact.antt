-- The exact answer of an operation on its operands' normal lists is the normal list of the tree that it makes.
use Prim.Native.Nat.{ℕ, zero, suc, ◌≤◌}
use native.Mathlib.Omega.{arith}
use mathlib.Core.Path.{◌≡◌, refl, ◌∙◌, ap, fun_ext}
use mathlib.Core.Bool.{Bool, true, false, cond, ◌&&◌, ◌||◌}
use mathlib.Core.List.{List, [], ◌∷◌}
use lib.Dec.{ltb}
use lib.ListN.{length}
use borrow.Author.Tests.{ltb-false}
use Rattle.signals.specs.Signal.{Signal, NOT, rising, falling, SR, RS, TON, TOF, TP, AND, OR, connective, cell}
use Rattle.signals.specs.Moment.{M}
use Rattle.signals.specs.Words.{most_words, signal_of, last_date, list_of, list_fault, date_of}
use Rattle.slices.specs.Bytes.{Words}
use Rattle.signals.proofs.Truth.{true_false}
use Rattle.signals.proofs.WordFacts.{date_bounds}
use Rattle.signals.specs.Settled.{SettledFrom}
use Rattle.signals.proofs.Settling.{settling}
use Rattle.signals.proofs.Normal.{accepted_settled, accepted_normal}
use Rattle.operations.specs.Calls.{exact_of_one, exact_of_two, exact_of_delay, changes_after_m}
use Rattle.grammar.specs.Tree.{Tree, Unary, Binary, unary, binary, invert, rise, fall, ton, tof, tp, and, or, sr, rs}
use Rattle.signals.proofs.AnyDate.{one_list}
use Rattle.format.specs.Reading.{sheet_fault}
use Rattle.calls.specs.OnSheet.{signal_on, settling_date, exact_on}
use Rattle.operations.specs.Calls.{part_fault}
use Rattle.calls.proofs.Settles.{settles, exact_for_lem}
use Rattle.applying.specs.PartCalls.{unary_exact, binary_exact, AND_table, OR_table}

-- an accepted list is short
pub short : (l : List ℕ) → list_fault l ≡ 0 → length l ≤ most_words
short l h = ((accepted_normal l).0 h).1

and_cell : (f g : Signal) (t : ℕ) → connective AND_table f g t ≡ AND f g t
unfolding connective cell AND
and_cell f g t = go (f t) (g t)
  where
    go : (p q : Bool) → cell AND_table p q ≡ (p && q)
    go true true = refl
    go true false = refl
    go false true = refl
    go false false = refl

or_cell : (f g : Signal) (t : ℕ) → connective OR_table f g t ≡ OR f g t
unfolding connective cell OR
or_cell f g t = go (f t) (g t)
  where
    go : (p q : Bool) → cell OR_table p q ≡ (p || q)
    go true true = refl
    go true false = refl
    go false true = refl
    go false false = refl

module _ (sheet : List ℕ) (ok : sheet_fault sheet ≡ 0) where
  -- the signal of a tree's list is the tree's
  pub signal_is : (t : Tree) → signal_of (exact_on sheet t) ≡ signal_on sheet t
  signal_is t = fun_ext (exact_for_lem sheet ok t).denotes

  -- and it settles at the list's last date
  pub settled_at : (t : Tree) → list_fault (exact_on sheet t) ≡ 0 → SettledFrom (signal_on sheet t) (last_date (exact_on sheet t))
  settled_at t h = rw (signal_is t) at (accepted_settled (exact_on sheet t) h)

  -- an operation of one operand, to the date n
  of_one : (op : Signal → Signal) (n : ℕ) (t u : Tree) → op (signal_on sheet t) ≡ signal_on sheet u → SettledFrom (op (signal_on sheet t)) n
      → list_of (op (signal_of (exact_on sheet t))) n ≡ exact_on sheet u
  unfolding exact_on
  of_one op n t u e h =
      ap (λ s. list_of (op s) n) (signal_is t)
      ∙ ap (λ s. list_of s n) e
      ∙ one_list (signal_on sheet u) n (settling_date sheet u) (rw e at h) (settles sheet ok u)

  of_two : (op : Signal → Signal → Signal) (n : ℕ) (t u v : Tree) → op (signal_on sheet t) (signal_on sheet u) ≡ signal_on sheet v
      → SettledFrom (op (signal_on sheet t) (signal_on sheet u)) n
      → list_of (op (signal_of (exact_on sheet t)) (signal_of (exact_on sheet u))) n ≡ exact_on sheet v
  unfolding exact_on
  of_two op n t u v e h =
      ap (λ s. list_of (op s (signal_of (exact_on sheet u))) n) (signal_is t)
      ∙ ap (λ s. list_of (op (signal_on sheet t) s) n) (signal_is u)
      ∙ ap (λ s. list_of s n) e
      ∙ one_list (signal_on sheet v) n (settling_date sheet v) (rw e at h) (settles sheet ok v)

  pub unary_exact_lem : (o : Unary) (t : Tree) → list_fault (exact_on sheet t) ≡ 0 → unary_exact o (exact_on sheet t) ≡ exact_on sheet
      (unary o t)
  unfolding exact_of_one exact_of_delay
  unary_exact_lem invert t h = of_one NOT _ t (unary invert t) refl (settling.not _ _ (settled_at t h))
  unary_exact_lem rise t h = of_one rising _ t (unary rise t) refl (settling.rises _ _ (settled_at t h))
  unary_exact_lem fall t h = of_one falling _ t (unary fall t) refl (settling.falls _ _ (settled_at t h))
  unary_exact_lem (ton d) t h = of_one (TON d) _ t (unary (ton d) t) refl (settling.ton d _ _ (settled_at t h))
  unary_exact_lem (tof d) t h = of_one (TOF d) _ t (unary (tof d) t) refl (settling.tof d _ _ (settled_at t h))
  unary_exact_lem (tp d) t h = of_one (TP d) _ t (unary (tp d) t) refl (settling.tp d _ _ (settled_at t h))

  pub binary_exact_lem : (o : Binary) (t u : Tree) → list_fault (exact_on sheet t) ≡ 0 → list_fault (exact_on sheet u) ≡ 0
      → binary_exact o (exact_on sheet t) (exact_on sheet u) ≡ exact_on sheet (binary o t u)
  unfolding exact_of_two
  binary_exact_lem and t u h i =
      of_two (connective AND_table) _ t u (binary and t u) (fun_ext (and_cell (signal_on sheet t) (signal_on sheet u)))
      (settling.tables AND_table _ _ _ _ (settled_at t h) (settled_at u i))
  binary_exact_lem or t u h i =
      of_two (connective OR_table) _ t u (binary or t u) (fun_ext (or_cell (signal_on sheet t) (signal_on sheet u)))
      (settling.tables OR_table _ _ _ _ (settled_at t h) (settled_at u i))
  binary_exact_lem sr t u h i = of_two SR _ t u (binary sr t u) refl (settling.sr _ _ _ _ (settled_at t h) (settled_at u i))
  binary_exact_lem rs t u h i = of_two RS _ t u (binary rs t u) refl (settling.rs _ _ _ _ (settled_at t h) (settled_at u i))

  -- a part without fault 5 has an accepted list
  pub accepted_part : (t : Tree) → part_fault (exact_on sheet t) ≡ 0 → list_fault (exact_on sheet t) ≡ 0
  unfolding part_fault
  accepted_part t h =
      (accepted_normal (exact_on sheet t)).1 ((exact_for_lem sheet ok t).normal, size (ltb most_words (length (exact_on sheet t))) refl h)
    where
      size : (b : Bool) → ltb most_words (length (exact_on sheet t)) ≡ b
          → ◌≡◌ {A = ℕ} (cond b 5 (cond (changes_after_m (exact_on sheet t)) 6 0)) 0
          → length (exact_on sheet t) ≤ most_words
      size true e z = absurd (omega arith)
      size false e z = ltb-false most_words (length (exact_on sheet t)) e

-- and its words have 32 bits
neither : (a b : Bool) → (a || b) ≡ false → (a ≡ false) × (b ≡ false)
neither true b h = (h, absurd (true_false h))
neither false b h = (refl, h)

on_dates : (l : List ℕ) → changes_after_m l ≡ false → Words l
unfolding changes_after_m
on_dates [] h i = omega arith
on_dates (w ∷ ws) h zero = let d = ltb-false M (date_of w) (neither (ltb M (date_of w)) _ h).0 in omega (arith, date_bounds w)
on_dates (w ∷ ws) h (suc i) = on_dates ws (neither (ltb M (date_of w)) _ h).1 i

pub words_part : (l : List ℕ) → part_fault l ≡ 0 → Words l
unfolding part_fault
words_part l z = on_dates l (go (ltb most_words (length l)) (changes_after_m l) refl z)
  where
    go : (a b : Bool) → changes_after_m l ≡ b → ◌≡◌ {A = ℕ} (cond a 5 (cond b 6 0)) 0 → changes_after_m l ≡ false
    go true b e z = absurd (omega arith)
    go false true e z = absurd (omega arith)
    go false false e z = e
