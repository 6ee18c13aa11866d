-- Facts on marks and on texts that are lent.
use Prim.Native.Nat.{ℕ, ◌+◌, ◌-◌, ◌≤◌, ◌<◌, min}
use native.Mathlib.Omega.{arith}
use native.Mathlib.Decide.{dec_lt}
use mathlib.Core.Path.{◌≡◌, refl, sym, ap, ◌∙◌}
use mathlib.Core.Bool.{Bool, true, false}
use mathlib.Core.List.{List}
use lib.ListN.{length, get_or, take, drop, drop_of_length-le, get_or-eq_default, length-take}
use Rattle.std.proofs.lemmas.List.{drop-take}
use Rattle.marks.specs.declared.Mark.{Mark}
use Rattle.marks.specs.Marks.{lent, next_mark}

-- a byte above 0 is next: all is well and the end is not reached
pub record Inside (text : List ℕ) (m : Mark) : Type 0 where
  pub fine : m.ok ≡ true
  pub before : m.at < length text

inside_at : (text : List ℕ) (m : Mark) (b : ℕ) → m.ok ≡ true → get_or text m.at 0 ≡ b → 0 < b → Dec (m.at < length text) → Inside text m
inside_at text m b z e pos (yes h) = record { fine = z; before = h }
inside_at text m b z e pos (no h) = let d = get_or-eq_default text 0 {n = m.at} (omega (arith, h)) in absurd (omega arith)

pub inside : (text : List ℕ) (m : Mark) (b : ℕ) → next_mark text m ≡ b → 0 < b → Inside text m
unfolding next_mark
inside text m b e pos = go m.ok refl
  where
    go : (z : Bool) → m.ok ≡ z → Inside text m
    go false z = let q : 0 ≡ b = rw z at e in absurd (omega arith)
    go true z = inside_at text m b z (rw z at e) pos (dec_lt m.at (length text))

-- a text that is lent ends where it says
pub lent_most : (page : List ℕ) (bytes : ℕ) → length (lent page bytes) ≤ min bytes 1024
unfolding lent
lent_most page bytes = let e = length-take (min bytes 1024) page in omega arith

-- the bytes of a lent text from a place on
pub lent_rest : (page : List ℕ) (bytes at : ℕ) →
    take (min bytes 1024 - min at (min bytes 1024)) (drop (min at (min bytes 1024)) page) ≡ drop at (lent page bytes)
unfolding lent
lent_rest page bytes at = go (min bytes 1024) (dec_lt (min bytes 1024) at)
  where
    go : (n : ℕ) → Dec (n < at) → take (n - min at n) (drop (min at n) page) ≡ drop at (take n page)
    go n (yes h) =
        let a : n - min at n ≡ 0 = omega arith in
        rw (a, drop_of_length-le (take n page) {i = at} (omega (arith, length-take n page))) refl
    go n (no h) =
        let a : min at n ≡ at = omega (arith, h) in
        let e : n ≡ at + (n - at) = omega (arith, h) in
        rw a (sym (drop-take at (n - at) page) ∙ ap (λ (k : ℕ). drop at (take k page)) (sym e))
