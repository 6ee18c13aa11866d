-- Bytes written at a place of an output, and then more bytes after them.
use Prim.Native.Nat.{ℕ, ◌+◌, ◌≤◌, ◌<◌}
use native.Mathlib.Omega.{arith}
use mathlib.Core.Path.{◌≡◌, refl, sym, ap, ◌∙◌}
use mathlib.Core.List.{List, [], ◌++◌, append_assoc}
use lib.ListN.{length, take, drop, length-append, length-drop}
use lib.Seq.{take-length, length-take-le, take-paste, drop-paste, drop-drop, paste, paste-zero}
use borrow.Rule.Slice.PartMut.{put_mid}
use Rattle.std.proofs.lemmas.Slice.{put_mid-paste}
use borrow.Author.Tests.{le-leb, lt-leb}
use Rattle.slices.specs.Slices.{placed, put_at}
use Rattle.copying.specs.Copied.{copied}
use Rattle.copying.proofs.Copying.{copied_whole}

pub placed_as_paste : (out : List ℕ) (at : ℕ) (s : List ℕ) → paste out at s (length s) ≡ placed out at s
placed_as_paste out at s = rw (take-length s)

pub placed_more : (out : List ℕ) (at : ℕ) (x y : List ℕ) → at + length x + length y ≤ length out
    → placed (placed out at x) (at + length x) y ≡ placed out at (x ++ y)
placed_more out at x y h =
    ap (λ (l : List ℕ). l ++ y ++ drop (at + length x + length y) (placed out at x)) front
    ∙ ap (λ (l : List ℕ). take at out ++ x ++ y ++ l) back
    ∙ ap (λ (l : List ℕ). l ++ drop (at + length x + length y) out) (append_assoc (take at out) x y)
    ∙ ap (λ (k : ℕ). take at out ++ (x ++ y) ++ drop k out) sizes
  where
    front : take (at + length x) (placed out at x) ≡ take at out ++ x
    front =
        rw (← placed_as_paste out at x)
        (take-paste out at x (length x) (omega arith) (omega arith) ∙ ap (λ (l : List ℕ). take at out ++ l) (take-length x))

    past : drop (at + length x) (placed out at x) ≡ drop (at + length x) out
    past = rw (← placed_as_paste out at x) (drop-paste out at x (length x) (omega arith) (omega arith))

    back : drop (at + length x + length y) (placed out at x) ≡ drop (at + length x + length y) out
    back =
        sym (drop-drop (length y) (at + length x) (placed out at x))
        ∙ ap (λ (l : List ℕ). drop (length y) l) past
        ∙ drop-drop (length y) (at + length x) out

    sizes : at + length x + length y ≡ at + length (x ++ y)
    sizes = rw (length-append x y) (omega arith)

-- bytes written right after others
pub then_put : (out o₁ o₂ : List ℕ) (at k : ℕ) (x y : List ℕ) → o₁ ≡ placed out at x → o₂ ≡ placed o₁ k y → k ≡ at + length x
    → k + length y ≤ length out → o₂ ≡ placed out at (x ++ y)
then_put out o₁ o₂ at k x y e f g h = f ∙ rw (e, g) (placed_more out at x y (omega arith))

pub placed_none : (out : List ℕ) (at : ℕ) → out ≡ placed out at []
placed_none out at = paste-zero out at []

-- bytes that fit, and bytes that do not
pub put_fits : (out : List ℕ) (at : ℕ) (s : List ℕ) → at + length s ≤ length out → put_at out at s ≡ placed out at s
unfolding put_at
put_fits out at s h = rw (le-leb _ _ h)

pub put_short : (out : List ℕ) (at : ℕ) (s : List ℕ) → length out < at + length s → out ≡ put_at out at s
unfolding put_at
put_short out at s h = rw (lt-leb _ _ h)

-- bytes that fit, copied to the part from a place on that is as long
pub put_whole : (out part : List ℕ) (at k : ℕ) (s : List ℕ) → k ≡ length s → at + length s ≤ length out
    → part ≡ copied s (take k (drop at out)) → put_mid at k out part ≡ put_at out at s
put_whole out part at k s e h q =
    put_mid-paste at k out part s (length s) (q ∙ copied_whole s (take k (drop at out)) size) (sym e) refl
    ∙ placed_as_paste out at s
    ∙ sym (put_fits out at s h)
  where
    size : length (take k (drop at out)) ≡ length s
    size = length-take-le k (drop at out) (rw length-drop (omega arith)) ∙ e
