-- Which part a code word stands for, by its kind and the number of its operands.
use Prim.Native.Nat.{ℕ, zero, suc, ◌/◌, ◌%◌, ◌≤◌, ◌<◌}
use native.Mathlib.Omega.{arith}
use mathlib.Core.Path.{◌≡◌, refl, ◌∙◌}
use mathlib.Core.Bool.{Bool, true, false, cond}
use mathlib.Core.List.{List}
use lib.Dec.{ltb, eqb}
use Rattle.grammar.specs.Kinds as kinds
use Rattle.grammar.specs.Tree.{Leaf, down, up, name}
use Rattle.grammar.specs.Code.{Part, operand, one, two}
use Rattle.grammar.specs.PartWords.{part_of, plain_part, is_timer, timed_part, name_at}
use Rattle.code_words.specs.CodeWords.{arity, operands_of}
use Rattle.applying.specs.PartCalls.{unary_of, binary_of}
use Rattle.machine.proofs.KnownParts.{leaf_of}

-- what holds of each number below n, one after the other
Each : ℕ → (ℕ → Type 0) → Type 0
Each zero P = Unit {0}
Each (suc n) P = P 0 × Each n (λ k. P (suc k))

each_below : (n : ℕ) (P : ℕ → Type 0) → Each n P → (k : ℕ) → k < n → P k
unfolding Each
each_below zero P h k l = absurd (omega arith)
each_below (suc n) P h zero l = h.0
each_below (suc n) P h (suc k) l = each_below n (λ j. P (suc j)) h.1 k (omega arith)

-- the part of a kind k by the number of its operands, with the leaf that a name would be and the length that a timer would have
kind_part : ℕ → ℕ → Leaf → ℕ → Part
kind_part zero k a n = operand (cond (eqb k kinds.NAME) a (cond (eqb k kinds.UP) up down))
kind_part (suc zero) k a n = one (unary_of k n)
kind_part (suc (suc m)) k a n = two (binary_of k)

by_kind : (k : ℕ) → k < 16 → (a : Leaf) (n : ℕ) → cond (eqb k kinds.NAME) (operand a)
    (cond (is_timer k) (timed_part k n) (plain_part k)) ≡ kind_part (arity k) k a n
unfolding Each kind_part timed_part unary_of binary_of arity
by_kind k h a n =
    each_below 16
    (λ k. cond (eqb k kinds.NAME) (operand a) (cond (is_timer k) (timed_part k n) (plain_part k)) ≡ kind_part (arity k) k a n)
    (refl, (refl, (refl, (refl, (refl, (refl, (refl, (refl, (refl, (refl, (refl, (refl, (refl, (refl, (refl, (refl, tt))))))))))))))))
    k h

part_kind : (text : List ℕ) (w : ℕ)
    → part_of text w ≡ kind_part (operands_of w) (w % 16) (name (name_at text (w / 256) (w / 16 % 16))) (w / 16)
unfolding part_of
part_kind text w = by_kind (w % 16) (omega arith) (name (name_at text (w / 256) (w / 16 % 16))) (w / 16)

module _ (text : List ℕ) (w : ℕ) where
  pub part_leaf : operands_of w ≡ 0 → part_of text w ≡ operand (leaf_of text w)
  unfolding kind_part leaf_of
  part_leaf e = part_kind text w ∙ rw e

  pub part_one : operands_of w ≡ 1 → part_of text w ≡ one (unary_of (w % 16) (w / 16))
  unfolding kind_part
  part_one e = part_kind text w ∙ rw e

  pub part_two : operands_of w ≡ 2 → part_of text w ≡ two (binary_of (w % 16))
  unfolding kind_part
  part_two e = part_kind text w ∙ rw e

-- the number of operands: of a name, at most, and what it says of the kind
pub name_none : (k : ℕ) → k ≡ kinds.NAME → arity k ≡ 0
unfolding arity
name_none k e = rw e

pub arity_small : (k : ℕ) → arity k ≤ 2
unfolding arity
arity_small k = go (ltb k kinds.NOT) (ltb k kinds.AND) (ltb k kinds.KINDS)
  where
    go : (a b c : Bool) → cond a 0 (cond b 1 (cond c 2 0)) ≤ 2
    go true b c = omega arith
    go false true c = omega arith
    go false false true = omega arith
    go false false false = omega arith

pub arity_one : (k : ℕ) → arity k ≡ 1 → ltb k kinds.AND ≡ true
unfolding arity
arity_one k e = go (ltb k kinds.NOT) (ltb k kinds.AND) (ltb k kinds.KINDS) e
  where
    go : (a b c : Bool) → ◌≡◌ {A = ℕ} (cond a 0 (cond b 1 (cond c 2 0))) 1 → b ≡ true
    go true b c e = absurd (omega arith)
    go false true c e = refl
    go false false true e = absurd (omega arith)
    go false false false e = absurd (omega arith)

pub arity_two : (k : ℕ) → arity k ≡ 2 → ltb k kinds.AND ≡ false
unfolding arity
arity_two k e = go (ltb k kinds.NOT) (ltb k kinds.AND) (ltb k kinds.KINDS) e
  where
    go : (a b c : Bool) → ◌≡◌ {A = ℕ} (cond a 0 (cond b 1 (cond c 2 0))) 2 → b ≡ false
    go true b c e = absurd (omega arith)
    go false true c e = absurd (omega arith)
    go false false c e = refl
