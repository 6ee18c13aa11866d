-- What it is that a reader comes to the end of each front of some bytes; of bytes read one after another, and of chains.
use Prim.Native.Nat.{ℕ, zero, suc, ◌+◌, ◌*◌, ◌≤◌}
use native.Mathlib.Omega.{arith}
use mathlib.Core.Path.{◌≡◌, ap, subst}
use mathlib.Core.List.{List, [], ◌∷◌, ◌++◌, append_assoc}
use lib.ListN.{length, length-append, take}
use borrow.Author.Tests.{eq-eqb}
use Rattle.grammar.specs.Tree.{Tree}
use Rattle.grammar.specs.Code.{Part}
use Rattle.grammar.specs.Reader.{State, next, stepped, expect, put, sum_at, product_at, factor_at}
use Rattle.grammar.specs.Formula.{spelled}
use Rattle.grammar.specs.PartWords.{plain_part}
use Rattle.grammar.proofs.Standing.{At, next_of, step_at, expect_at, after, after_at}
use Rattle.grammar.proofs.Branches.{Chain}
use Rattle.beginnings.proofs.Monotone.{put_on, expect_on, on}
use Rattle.beginnings.proofs.Fronts.{by_front}

module _ (text : List ℕ) where
  -- where the bytes x stand, a reader comes to their end at least, with so much fuel and whatever follows
  abbrev pub Comes : (ℕ → State Part → State Part) → ℕ → List ℕ → Type 0
  Comes read level x =
      (n : ℕ) (s : State Part) (l : List ℕ) → At text s (x ++ l) → 5 * length (x ++ l) + level ≤ n → s.at + length x ≤ (read n s).at

  -- so does it for each front of w
  abbrev pub Reaches : (ℕ → State Part → State Part) → ℕ → List ℕ → Type 0
  Reaches read level w = (k : ℕ) → Comes read level (take k w)

  -- before the byte, a reader passes w and no more
  abbrev pub Passes : (ℕ → State Part → State Part) → ℕ → List ℕ → ℕ → Type 0
  Passes read level w byte =
      (n : ℕ) (s : State Part) (l : List ℕ) → At text s (w ++ (byte ∷ l)) → 5 * length (w ++ (byte ∷ l)) + level ≤ n →
      ((read n s).at ≡ s.at + length w) × At text (read n s) (byte ∷ l)

  -- a reader does not go back
  abbrev pub Keeps : (ℕ → State Part → State Part) → Type 0
  Keeps read = (k n : ℕ) (s : State Part) → k ≤ s.at → k ≤ (read n s).at

  -- it comes to the end of no bytes
  pub none_comes : (read : ℕ → State Part → State Part) (level : ℕ) → Keeps read → Comes read level []
  none_comes read level keeps n s l a h = omega (arith, keeps s.at n s (omega arith))

  -- one reader, a byte, and another reader
  pub then_reaches : (f g : ℕ → State Part → State Part) (level byte : ℕ) (w v : List ℕ) → Reaches f level w → Passes f level w byte →
      Reaches g level v → Keeps g → Reaches (λ n s. g n (expect text byte (f n s))) level (w ++ (byte ∷ v))
  unfolding stepped
  then_reaches f g level byte w v r pass q keeps =
      by_front (Comes (λ n s. g n (expect text byte (f n s))) level) w byte v
      (λ k n s l a h. keeps (s.at + length (take k w)) n (expect text byte (f n s))
      (expect_on (spelled text) text (s.at + length (take k w)) byte (f n s) (r k n s l a h)))
      (λ k n s l a h.
      let e = append_assoc w (byte ∷ take k v) l in
      let size = ap length e in
      let p = pass n s (take k v ++ l) (subst (At text s) e a) (omega arith) in
      let z = q k n (stepped 1 (f n s)) l (step_at p.1) (omega (arith, length-append w (byte ∷ (take k v ++ l)))) in
      rw (expect_at p.1) (omega (arith, p.0, length-append w (byte ∷ take k v))))

  module _ {deep byte kind level : ℕ} {operand rest whole : ℕ → State Part → State Part}
      (C : Chain (spelled text) text deep byte kind level operand rest whole) (keeps : Keeps rest) where
    -- a chain that is one operand
    pub first_reaches : (w : List ℕ) → Reaches operand level w → Reaches whole (suc level) w
    first_reaches w r k zero s l a h = absurd (omega arith)
    first_reaches w r k (suc n) s l a h =
        rw (C.begins n s) (keeps (s.at + length (take k w)) n (operand n s) (r k n s l a (omega arith)))

    -- the operator, and a front of one more operand
    more_comes : (x : List ℕ) → Comes operand level x → (k : ℕ) (s : State Part) (l : List ℕ) → At text s (byte ∷ (x ++ l)) →
        5 * length (byte ∷ (x ++ l)) + 1 ≤ k → s.at + suc (length x) ≤ (rest k s).at
    unfolding stepped
    more_comes x q zero s l a h = absurd (omega arith)
    more_comes x q (suc k) s l a h =
        let z = q k (stepped 1 s) l (step_at a) (omega (arith, C.below)) in
        rw (C.goes_on k s, eq-eqb (next text s) byte (next_of a))
        (keeps (s.at + suc (length x)) k (put (plain_part kind) deep 0 (operand k (stepped 1 s)))
        (put_on (spelled text) text (s.at + suc (length x)) (plain_part kind) deep 0 (operand k (stepped 1 s)) (omega arith)))

    -- a chain and one more operand
    pub chain_reaches : (w v : List ℕ) (t : Tree) (d : ℕ) → Reaches whole (suc level) w →
        ((n : ℕ) (s : State Part) (l : List ℕ) → At text s (w ++ (byte ∷ l)) → 5 * length (w ++ (byte ∷ l)) + suc level ≤ n →
        (k : ℕ) × (5 * length (byte ∷ l) + 1 ≤ k) × (whole n s ≡ rest k (after w t d deep s))) →
        Reaches operand level v → Reaches whole (suc level) (w ++ (byte ∷ v))
    unfolding after
    chain_reaches w v t d r reads q =
        by_front (Comes whole (suc level)) w byte v r
        (λ k n s l a h.
        let e = append_assoc w (byte ∷ take k v) l in
        let size = ap length e in
        let a2 = subst (At text s) e a in
        let p = reads n s (take k v ++ l) a2 (omega arith) in
        let z = more_comes (take k v) (q k) p.0 (after w t d deep s) l (after_at w t d deep a2) p.1 in
        rw p.2 (omega (arith, length-append w (byte ∷ take k v))))

  -- for the three readers of the grammar, however many brackets and prefixes are open
  abbrev pub ReachesSum : List ℕ → Type 0
  ReachesSum w = (deep : ℕ) → Reaches (λ n. sum_at (spelled text) text n deep) 4 w

  abbrev pub ReachesProduct : List ℕ → Type 0
  ReachesProduct w = (deep : ℕ) → Reaches (λ n. product_at (spelled text) text n deep) 3 w

  abbrev pub ReachesFactor : List ℕ → Type 0
  ReachesFactor w = (deep : ℕ) → Reaches (λ n. factor_at (spelled text) text n deep) 2 w

  pub no_factor : (deep : ℕ) → Comes (λ n. factor_at (spelled text) text n deep) 2 []
  no_factor deep = none_comes (λ n. factor_at (spelled text) text n deep) 2 (λ k n s h. (on (spelled text) text n).factor k deep s h)
