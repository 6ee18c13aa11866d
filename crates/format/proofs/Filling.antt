-- Names, signals and whole sheets written piece after piece.
use Prim.Native.Nat.{ℕ, ◌+◌, ◌-◌, ◌*◌, ◌≤◌, ◌<◌}
use native.Mathlib.Omega.{arith}
use mathlib.Core.Path.{◌≡◌, refl, sym, ap, ◌∙◌}
use mathlib.Core.List.{List, [], ◌++◌, append_assoc}
use lib.ListN.{length, length-append, replicate, length-replicate}
use borrow.Author.Tests.{lt-ltb, le-ltb}
use Rattle.slices.specs.Slices.{placed}
use Rattle.slices.proofs.Placing.{then_put}
use Rattle.format.proofs.Placing.{length_words}
use Rattle.signals.specs.Answers.{written_of, output_of}
use Rattle.signals.specs.declared.Written.TheVariants.{Count, Refused}
use Rattle.format.specs.Names.{padded}
use Rattle.slices.specs.Bytes.{bytes16, word_bytes}
use Rattle.format.specs.Reading.{mark, entry}
use Rattle.format.specs.Writing.{entry_bytes, entries_bytes, sheet_bytes}
use Rattle.format.specs.Calls.{begin_fault}

pub length_padded : (name : List ℕ) → length name ≤ 8 → length (padded name) ≡ 8
unfolding padded
length_padded name h = length-append name (replicate (8 - length name) 0) ∙ rw length-replicate (omega arith)

pub two : (n : ℕ) → length (bytes16 n) ≡ 2
unfolding bytes16
two n = refl

pub length_entry : (name list : List ℕ) → length name ≤ 8 → length (entry_bytes (entry name list)) ≡ 10 + 4 * length list
unfolding entry_bytes
length_entry name list h =
    simp (length-append, length_padded name h, two, length_words) (omega arith)

pub signal_put : (out o₁ o₂ o₃ : List ℕ) (at : ℕ) (name list : List ℕ) → length name ≤ 8 → at + 10 + 4 * length list ≤ length out
    → o₁ ≡ placed out at (padded name) → o₂ ≡ placed o₁ (at + 8) (bytes16 (length list)) → o₃ ≡ placed o₂ (at + 10) (word_bytes list)
    → o₃ ≡ placed out at (entry_bytes (entry name list))
unfolding entry_bytes
signal_put out o₁ o₂ o₃ at name list n r e f g =
    let p = length_padded name n in
    let q = two (length list) in
    let s : length (padded name ++ bytes16 (length list)) ≡ 10 = simp (length-append, length_padded name n, two) in
    let h = then_put out o₁ o₂ at (at + 8) (padded name) (bytes16 (length list)) e f (omega arith) (omega arith) in
    then_put out o₂ o₃ at (at + 10) (padded name ++ bytes16 (length list)) (word_bytes list) h g (omega arith)
    (omega (arith, length_words list))
    ∙ ap (λ (l : List ℕ). placed out at l) (append_assoc (padded name) (bytes16 (length list)) (word_bytes list))

-- the empty sheet
pub begin_short : (out : List ℕ) → length out < 7
    → (Refused 7 ≡ written_of (begin_fault (length out)) (sheet_bytes [])) ×
    (out ≡ output_of (begin_fault (length out)) (sheet_bytes []) out)
unfolding begin_fault written_of output_of sheet_bytes entries_bytes bytes16
begin_short out h = (sym (rw (lt-ltb (length out) 7 h)), sym (rw (lt-ltb (length out) 7 h)))

pub begin_put : (out o₁ o₂ o₃ : List ℕ) → 7 ≤ length out → o₁ ≡ placed out 0 mark → o₂ ≡ placed o₁ 3 (bytes16 1)
    → o₃ ≡ placed o₂ 5 (bytes16 0)
    → (Count 7 ≡ written_of (begin_fault (length out)) (sheet_bytes [])) × (o₃ ≡ output_of (begin_fault (length out)) (sheet_bytes []) out)
unfolding begin_fault written_of output_of sheet_bytes entries_bytes bytes16
begin_put out o₁ o₂ o₃ h e f g = (
  sym (rw (le-ltb (length out) 7 h)),
  then_put out o₂ o₃ 0 5 (mark ++ bytes16 1) (bytes16 0) (then_put out o₁ o₂ 0 3 mark (bytes16 1) e f refl (omega arith)) g refl
      (omega arith)
      ∙ sym (rw (le-ltb (length out) 7 h)),
)
