-- Numbers and words: what is written is read, and what is read is written.
use Prim.Native.Nat.{ℕ, zero, suc, ◌+◌, ◌*◌, ◌/◌, ◌%◌, ◌≤◌, ◌<◌}
use native.Mathlib.Nat.{mod-add-div, mod-eq_of_lt, div-div-eq-div-mul}
use native.Mathlib.Omega.{arith}
use mathlib.Core.Path.{◌≡◌, refl, sym, ap, ap₂, ◌∙◌}
use mathlib.Core.List.{List, [], ◌∷◌, ◌++◌, append_assoc}
use lib.ListN.{length, drop, length-drop}
use lib.Seq.{get_or-drop, drop-drop}
use lib.Arith.{digits_div, digits_mod}
use Rattle.slices.specs.Bytes.{low16, low32, bytes16, bytes32, words_in, word_bytes, Bytes, Words}

pub low16_written : (n : ℕ) (rest : List ℕ) → n < 65536 → low16 (bytes16 n ++ rest) ≡ n
unfolding low16 bytes16
low16_written n rest h = omega arith

pub low32_written : (w : ℕ) (rest : List ℕ) → w < 4294967296 → low32 (bytes32 w ++ rest) ≡ w
unfolding low32 bytes32
low32_written w rest h =
    let a : ℕ = w / 256 in
    let e = div-div-eq-div-mul w 256 256 in
    let f = div-div-eq-div-mul w 65536 256 in
    let p = mod-add-div w 256 in
    let q = mod-add-div (w / 256) 256 in
    let r = mod-add-div (w / 65536) 256 in
    let k : w / 16777216 < 256 = omega arith in
    let m : w / 16777216 % 256 ≡ w / 16777216 = mod-eq_of_lt k in
    omega arith

-- a number by its digits
digit_of : (n q m r : ℕ) → n ≡ q * m + r → r < m → (n / m ≡ q) × (n % m ≡ r)
digit_of n q m r e h = (ap (λ (k : ℕ). k / m) e ∙ digits_div q h, ap (λ (k : ℕ). k % m) e ∙ digits_mod q h)

pub written16 : (l : List ℕ) → Bytes l → 2 ≤ length l → bytes16 (low16 l) ++ drop 2 l ≡ l
unfolding low16 bytes16
written16 [] b h = absurd (omega arith)
written16 (x ∷ []) b h = absurd (omega arith)
written16 (x ∷ y ∷ l) b h =
    let d = digit_of (x + 256 * y) y 256 x (omega arith) (b 0) in
    let f : (x + 256 * y) / 256 % 256 ≡ y = ap (λ (k : ℕ). k % 256) d.0 ∙ mod-eq_of_lt (b 1) in
    ap₂ (λ (s t : ℕ). s ∷ t ∷ l) d.1 f

pub written32 : (l : List ℕ) → Bytes l → 4 ≤ length l → bytes32 (low32 l) ++ drop 4 l ≡ l
unfolding low32 bytes32
written32 [] b h = absurd (omega arith)
written32 (x ∷ []) b h = absurd (omega arith)
written32 (x ∷ y ∷ []) b h = absurd (omega arith)
written32 (x ∷ y ∷ z ∷ []) b h = absurd (omega arith)
written32 (x ∷ y ∷ z ∷ v ∷ l) b h = four_digits x y z v l (b 0) (b 1) (b 2) (b 3)
  where
    four_digits : (x y z v : ℕ) (l : List ℕ) → x < 256 → y < 256 → z < 256 → v < 256
        → (x + 256 * y + 65536 * z + 16777216 * v) % 256
        ∷ (x + 256 * y + 65536 * z + 16777216 * v) / 256 % 256
        ∷ (x + 256 * y + 65536 * z + 16777216 * v) / 65536 % 256
        ∷ (x + 256 * y + 65536 * z + 16777216 * v) / 16777216 % 256
        ∷ l
        ≡ x ∷ y ∷ z ∷ v ∷ l
    four_digits x y z v l p q r s =
        let w : ℕ = x + 256 * y + 65536 * z + 16777216 * v in
        let d = digit_of (x + 256 * y + 65536 * z + 16777216 * v) (y + 256 * z + 65536 * v) 256 x (omega arith) p in
        let e = digit_of (y + 256 * z + 65536 * v) (z + 256 * v) 256 y (omega arith) q in
        let f = digit_of (x + 256 * y + 65536 * z + 16777216 * v) (z + 256 * v) 65536 (x + 256 * y) (omega arith) (omega arith) in
        let g = digit_of (z + 256 * v) v 256 z (omega arith) r in
        let k = digit_of (x + 256 * y + 65536 * z + 16777216 * v) v 16777216 (x + 256 * y + 65536 * z) (omega arith) (omega arith) in
        rw (d.1, d.0, e.1, f.0, g.1, k.0, mod-eq_of_lt s)

pub low16_below : (l : List ℕ) → Bytes l → low16 l < 65536
unfolding low16
low16_below l b = omega (arith, b 0, b 1)

pub low32_below : (l : List ℕ) → Bytes l → low32 l < 4294967296
unfolding low32
low32_below l b = omega (arith, b 0, b 1, b 2, b 3)

pub bytes_drop : (l : List ℕ) (n : ℕ) → Bytes l → Bytes (drop n l)
bytes_drop l n b i = rw get_or-drop (b (n + i))

-- words
pub length_words_in : (n : ℕ) (bytes : List ℕ) → length (words_in n bytes) ≡ n
unfolding words_in
length_words_in zero bytes = refl
length_words_in (suc n) bytes = ap suc (length_words_in n (drop 4 bytes))

pub words_in_below : (n : ℕ) (bytes : List ℕ) → Bytes bytes → Words (words_in n bytes)
unfolding words_in
words_in_below zero bytes b i = omega arith
words_in_below (suc n) bytes b zero = low32_below bytes b
words_in_below (suc n) bytes b (suc i) = words_in_below n (drop 4 bytes) (bytes_drop bytes 4 b) i

pub four_past : (w : ℕ) (rest : List ℕ) → drop 4 (bytes32 w ++ rest) ≡ rest
unfolding bytes32
four_past w rest = refl

pub words_read : (ws rest : List ℕ) → Words ws → words_in (length ws) (word_bytes ws ++ rest) ≡ ws
unfolding words_in word_bytes
words_read [] rest k = refl
words_read (w ∷ ws) rest k =
    rw (append_assoc (bytes32 w) (word_bytes ws) rest, low32_written w (word_bytes ws ++ rest) (k 0), four_past w (word_bytes ws ++ rest))
    (ap (λ (l : List ℕ). w ∷ l) (words_read ws rest (λ i. k (suc i))))

pub words_written : (n : ℕ) (bytes : List ℕ) → Bytes bytes → 4 * n ≤ length bytes
    → word_bytes (words_in n bytes) ++ drop (4 * n) bytes ≡ bytes
unfolding words_in word_bytes
words_written zero bytes b h = refl
words_written (suc n) bytes b h =
    append_assoc (bytes32 (low32 bytes)) (word_bytes (words_in n (drop 4 bytes))) (drop (4 * suc n) bytes)
    ∙ ap (λ (l : List ℕ). bytes32 (low32 bytes) ++ (word_bytes (words_in n (drop 4 bytes)) ++ l)) further
    ∙ ap (λ (l : List ℕ). bytes32 (low32 bytes) ++ l)
    (words_written n (drop 4 bytes) (bytes_drop bytes 4 b) (rw length-drop (omega arith)))
    ∙ written32 bytes b (omega arith)
  where
    further : drop (4 * suc n) bytes ≡ drop (4 * n) (drop 4 bytes)
    further = let e : 4 * suc n ≡ 4 + 4 * n = omega arith in rw e (sym (drop-drop (4 * n) 4 bytes))
