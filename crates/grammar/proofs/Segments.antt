-- A place in working-out order ends exactly one part; replacing that part is replacing its segment of the code.
use Prim.Native.Nat.{ℕ, suc, ◌+◌}
use native.Mathlib.Omega.{arith}
use mathlib.Core.Path.{◌≡◌, refl, sym, ap, ◌∙◌}
use mathlib.Core.List.{List, [], ◌∷◌, ◌++◌, append_assoc, append-nil}
use lib.ListN.{length, take, drop, length-append}
use lib.Seq.{take_at, drop_at}
use Rattle.grammar.specs.Tree.{Tree, leaf, unary, binary}
use Rattle.grammar.specs.Code.{Part, one, two, code}
use Rattle.grammar.specs.Parts.{size}
use Rattle.grammar.specs.Places.{Surroundings, whole, under, on_left, on_right, around, earlier, place_in, EndsAt}
use Rattle.grammar.specs.Places.{OnePartEnds, SegmentReplaced}
use Rattle.grammar.proofs.Places.{fits, size_positive, spot}

-- the code is as long as the tree is large
pub length_code : (t : Tree) → length (code t) ≡ size t
unfolding code size
length_code (leaf l) = refl
length_code (unary o t) = let n = length_code t in omega (arith, length-append (code t) (one o ∷ []))
length_code (binary o t u) =
    let n = length_code t in
    let m = length_code u in
    omega (arith, length-append (code t) (code u ++ (two o ∷ [])), length-append (code u) (two o ∷ []))

-- the code before and after a part's own
front : Surroundings → List Part
front whole = []
front (under o c) = front c
front (on_left o c u) = front c
front (on_right o t c) = code t ++ front c

back : Surroundings → List Part
back whole = []
back (under o c) = back c ++ (one o ∷ [])
back (on_left o c u) = back c ++ (code u ++ (two o ∷ []))
back (on_right o t c) = back c ++ (two o ∷ [])

plugged : (c : Surroundings) (p : Tree) → code (around c p) ≡ front c ++ (code p ++ back c)
unfolding front back around code
plugged whole p = sym (append-nil (code p))
plugged (under o c) p = rw (plugged c p, append_assoc, append_assoc) refl
plugged (on_left o c u) p = rw (plugged c p, append_assoc, append_assoc) refl
plugged (on_right o t c) p = rw (plugged c p, append_assoc, append_assoc, append_assoc) refl

front_length : (c : Surroundings) → length (front c) ≡ earlier c
unfolding front earlier
front_length whole = refl
front_length (under o c) = front_length c
front_length (on_left o c u) = front_length c
front_length (on_right o t c) = omega (arith, length-append (code t) (front c), length_code t, front_length c)

-- one more than the place
next_place : (F : Tree) (n : ℕ) (c : Surroundings) (p : Tree) → EndsAt F n c p → earlier c + size p ≡ suc n
unfolding place_in
next_place F n c p x = let e = x.place in omega (arith, size_positive p)

pub segment_replaced : SegmentReplaced
segment_replaced F n c p x q =
    let e : code F ≡ front c ++ (code p ++ back c) = ap code (sym x.same) ∙ plugged c p in
    let e2 : code F ≡ (front c ++ code p) ++ back c = e ∙ sym (append_assoc (front c) (code p) (back c)) in
    let g = front_length c in
    let h : length (front c ++ code p) ≡ suc n = omega (arith, length-append (front c) (code p), length_code p, next_place F n c p x) in
    let i : take (earlier c) (code F) ≡ front c = ap (take (earlier c)) e ∙ take_at (front c) (code p ++ back c) (earlier c) g in
    let j : drop (suc n) (code F) ≡ back c = ap (drop (suc n)) e2 ∙ drop_at (front c ++ code p) (back c) (suc n) h in
    plugged c q ∙ rw (i, j) refl

-- no part that ends at the same place is around or beside the other
same_end : (a b : Surroundings) (p q : Tree) → around a p ≡ around b q → earlier a + size p ≡ earlier b + size q → (b ≡ a) × (q ≡ p)
unfolding around earlier size
same_end whole whole p q e h = (refl, sym e)
same_end whole (under o b) p q e h = let k = ap size e in absurd (omega (arith, fits b q))
same_end whole (on_left o b u) p q e h = let k = ap size e in absurd (omega (arith, fits b q))
same_end whole (on_right o t b) p q e h = let k = ap size e in absurd (omega (arith, fits b q))
same_end (under o a) whole p q e h = let k = ap size e in absurd (omega (arith, fits a p))
same_end (on_left o a u) whole p q e h = let k = ap size e in absurd (omega (arith, fits a p))
same_end (on_right o t a) whole p q e h = let k = ap size e in absurd (omega (arith, fits a p))
same_end (under o a) (under o2 b) p q e h =
    let i : around a p ≡ around b q = cc in let j : o2 ≡ o = cc in let r = same_end a b p q i h in let r0 = r.0 in (cc, r.1)
same_end (under o a) (on_left o2 b u) p q e h = let z : ◌≡◌ {A = ℕ} 0 1 = cc in absurd (omega arith)
same_end (under o a) (on_right o2 t b) p q e h = let z : ◌≡◌ {A = ℕ} 0 1 = cc in absurd (omega arith)
same_end (on_left o a u) (under o2 b) p q e h = let z : ◌≡◌ {A = ℕ} 0 1 = cc in absurd (omega arith)
same_end (on_right o t a) (under o2 b) p q e h = let z : ◌≡◌ {A = ℕ} 0 1 = cc in absurd (omega arith)
same_end (on_left o a u) (on_left o2 b v) p q e h =
    let i : around a p ≡ around b q = cc in
    let j : o2 ≡ o = cc in
    let k : v ≡ u = cc in
    let r = same_end a b p q i h in
    let r0 = r.0 in
    (cc, r.1)
same_end (on_right o t a) (on_right o2 t2 b) p q e h =
    let i : around a p ≡ around b q = cc in
    let j : o2 ≡ o = cc in
    let k : t2 ≡ t = cc in
    let l = ap size k in
    let r = same_end a b p q i (omega arith) in
    let r0 = r.0 in
    (cc, r.1)
same_end (on_left o a u) (on_right o2 t b) p q e h =
    let i : around a p ≡ t = cc in let l = ap size i in absurd (omega (arith, fits a p, size_positive q))
same_end (on_right o t a) (on_left o2 b u) p q e h =
    let i : t ≡ around b q = cc in let l = ap size i in absurd (omega (arith, fits b q, size_positive p))

pub one_part_ends : OnePartEnds
unfolding place_in
one_part_ends F n h =
    let x = spot F n (omega (arith, length_code F)) in
    let c = x.surroundings in
    let ends : EndsAt F n c x.part = record { same = x.same; place = omega (arith, x.counted) } in (
      c,
      x.part,
      ends,
      λ b q y. same_end c b x.part q (x.same ∙ sym y.same) (next_place F n c x.part ends ∙ sym (next_place F n b q y)),
    )
