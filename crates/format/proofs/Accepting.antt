-- The words of a signal on a sheet are accepted exactly when their list is.
use Prim.Native.Nat.{ℕ, zero, suc, ◌-◌, ◌≤◌}
use native.Mathlib.Omega.{arith}
use mathlib.Core.Path.{◌≡◌, refl}
use mathlib.Core.Bool.{Bool, ◌||◌}
use mathlib.Core.List.{List, [], ◌∷◌, ◌++◌, append_assoc}
use lib.Dec.{leb, ltb}
use lib.ListN.{length, drop, length-append}
use borrow.Author.Tests.{ltb-false, le-ltb}
use Rattle.signals.specs.Words.{date_of, value_after, head_value, changes_nothing, words_fault, list_fault, most_words}
use Rattle.signals.proofs.Truth.{neither_left, neither_right}
use Rattle.format.proofs.Judging.{past}
use Rattle.format.proofs.Digits.{length_words_in, low32_written, four_past}
use Rattle.format.proofs.Placing.{four}
use Rattle.slices.specs.Bytes.{low32, bytes32, words_in, word_bytes, Words}
use Rattle.format.specs.Reading.{later_words_fault, sheet_words_fault}

later_listed : (last : ℕ) (before : Bool) (n : ℕ) (b : List ℕ) → later_words_fault last before n b ≡ 0
    → words_fault last before (words_in n b) ≡ 0
unfolding later_words_fault words_fault words_in
later_listed last before zero b h = refl
later_listed last before (suc n) b h =
    let e = past (ltb (length b) 4) 14 _ h in
    let g = past (leb (date_of (low32 b)) last || changes_nothing before (low32 b)) 16 _ e.1 in
    rw (neither_left (leb (date_of (low32 b)) last) _ g.0, neither_right (leb (date_of (low32 b)) last) _ g.0)
    (later_listed (date_of (low32 b)) (value_after (low32 b)) n (drop 4 b) g.1)

pub words_listed : (n : ℕ) (b : List ℕ) → (n ≡ 0 → ⊥) → n ≤ most_words → sheet_words_fault n b ≡ 0 → list_fault (words_in n b) ≡ 0
unfolding sheet_words_fault list_fault words_in
words_listed zero b z m h = absurd (z refl)
words_listed (suc n) b z m h =
    let e = past (ltb (length b) 4) 14 _ h in
    let g = past (ltb 1 (low32 b)) 16 _ e.1 in
    let k : suc n - 1 ≡ n = omega arith in
    rw (le-ltb most_words (suc (length (words_in n (drop 4 b)))) (rw length_words_in m), g.0)
    (later_listed 0 (head_value (low32 b)) n (drop 4 b) (rw k at g.1))

pub four_more : (w : ℕ) (rest : List ℕ) → 4 ≤ length (bytes32 w ++ rest)
four_more w rest = rw length-append (omega (arith, four w))

later_accepted : (last : ℕ) (before : Bool) (ws rest : List ℕ) → Words ws → words_fault last before ws ≡ 0
    → later_words_fault last before (length ws) (word_bytes ws ++ rest) ≡ 0
unfolding later_words_fault words_fault word_bytes
later_accepted last before [] rest k h = refl
later_accepted last before (w ∷ ws) rest k h =
    let e = past (leb (date_of w) last) 2 _ h in
    let g = past (changes_nothing before w) 3 _ e.1 in
    rw (
      append_assoc (bytes32 w) (word_bytes ws) rest,
      le-ltb _ 4 (four_more w (word_bytes ws ++ rest)),
      low32_written w (word_bytes ws ++ rest) (k 0),
      four_past w (word_bytes ws ++ rest),
      e.0,
      g.0,
    )
    (later_accepted (date_of w) (value_after w) ws rest (λ i. k (suc i)) g.1)

pub words_accepted : (ws rest : List ℕ) → Words ws → list_fault ws ≡ 0 → sheet_words_fault (length ws) (word_bytes ws ++ rest) ≡ 0
unfolding sheet_words_fault list_fault word_bytes
words_accepted [] rest k h = absurd (omega arith)
words_accepted (w ∷ ws) rest k h =
    let e = past (ltb most_words (suc (length ws))) 0 _ h in
    let g = past (ltb 1 w) 1 _ e.1 in
    let m : suc (length ws) - 1 ≡ length ws = omega arith in
    rw (
      append_assoc (bytes32 w) (word_bytes ws) rest,
      le-ltb _ 4 (four_more w (word_bytes ws ++ rest)),
      low32_written w (word_bytes ws ++ rest) (k 0),
      four_past w (word_bytes ws ++ rest),
      g.0,
      m,
    )
    (later_accepted 0 (head_value w) ws rest (λ i. k (suc i)) g.1)

pub listed_some : (ws : List ℕ) → list_fault ws ≡ 0 → (length ws ≡ 0 → ⊥) × (length ws ≤ most_words)
unfolding list_fault
listed_some [] h = absurd (omega arith)
listed_some (w ∷ ws) h =
    let e = past (ltb most_words (suc (length ws))) 0 _ h in
    ((λ z. omega (arith, z)), ltb-false most_words (suc (length ws)) e.0)
