-- The number at a place, by its bytes: those past the end are 0.
use Prim.Native.Nat.{ℕ, ◌+◌, ◌*◌, ◌≤◌}
use native.Mathlib.Nat.{add-zero}
use native.Mathlib.Omega.{arith}
use mathlib.Core.Path.{◌≡◌}
use mathlib.Core.List.{List}
use lib.ListN.{length, get_or, drop, get_or-eq_default}
use lib.Seq.{get_or-drop}
use Rattle.std.specs.List.{slice_range}
use Rattle.slices.proofs.Steps.{part_rest}
use Rattle.slices.specs.Bytes.{low16, low32}

pub low16_at : (s : List ℕ) (at : ℕ) → low16 (drop at s) ≡ get_or s at 0 + 256 * get_or s (at + 1) 0
unfolding low16
low16_at s at = simp (get_or-drop, add-zero)

-- a word is its low and its high half
pub low32_halves : (s : List ℕ) (at : ℕ) → low32 (drop at s) ≡ low16 (drop at s) + 65536 * low16 (drop (at + 2) s)
unfolding low16 low32
low32_halves s at =
    let e : at + 2 + 1 ≡ at + 3 = omega arith in
    simp (get_or-drop, add-zero, e) (omega arith)

pub past : (s : List ℕ) (i : ℕ) → length s ≤ i → get_or s i 0 ≡ 0
past s i h = get_or-eq_default s 0 {n = i} h

pub none16 : (s : List ℕ) (at : ℕ) → length s ≤ at → low16 (drop at s) ≡ 0
none16 s at h = omega (arith, low16_at s at, past s at h, past s (at + 1) (omega arith))

-- the byte at a place of the part from a place on
pub rest_at : (s : List ℕ) (at i : ℕ) → get_or (slice_range s at (length s)) i 0 ≡ get_or s (at + i) 0
rest_at s at i = rw (part_rest s at) (get_or-drop at s i 0)
