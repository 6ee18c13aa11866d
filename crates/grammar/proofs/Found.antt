-- Where a reader that all is well with has come from: the byte that was next, and the bytes that were read.
use Prim.Native.Nat.{ℕ, zero, suc, ◌+◌, ◌<◌, max}
use native.Mathlib.Omega.{arith}
use native.Mathlib.Decide.{dec_lt}
use mathlib.Core.Path.{◌≡◌, refl, sym, ap, ◌∙◌, subst}
use mathlib.Core.Bool.{Bool, true, false, cond}
use mathlib.Core.List.{List, [], ◌∷◌, ◌++◌}
use lib.Dec.{eqb}
use lib.ListN.{length, get_or, drop, get_or-eq_default}
use lib.Seq.{drop-cons}
use borrow.Author.Tests.{eqb-true, ne_eqb}
use Rattle.grammar.specs.Tree.{Tree, Unary, Binary, unary, binary}
use Rattle.grammar.specs.Code.{Part, one, ticks_of}
use Rattle.texts.specs.Lengths.{is_length, value}
use Rattle.grammar.specs.Grammar.{Sum}
use Rattle.grammar.specs.Reader.{State, next, bad, expect, put}
use Rattle.grammar.specs.Formula.{spelled}
use Rattle.grammar.specs.PartWords.{timed_part}
use Rattle.grammar.proofs.Bytes.{never, by_cond}
use Rattle.grammar.proofs.Standing.{At, after}
use Rattle.grammar.proofs.Branches.{Chain}

pub same_left : {text : List ℕ} {s : State Part} {l m : List ℕ} → At text s l → At text s m → l ≡ m
same_left a b = sym a.left ∙ b.left

pub moved : {text : List ℕ} {s r : State Part} {l : List ℕ} → s ≡ r → At text s l → At text r l
moved {text} {l = l} e a = subst (λ (x : State Part). At text x l) e a

pub put_ok : (x : Part) (deep k : ℕ) (s : State Part) → (put x deep k s).ok ≡ true → s.ok ≡ true
unfolding put
put_ok x deep k s h = go s.ok refl h
  where
    go : (z : Bool) → s.ok ≡ z →
        (cond z (record {
          ok = true;
          at = s.at;
          out = s.out ++ (x ∷ []);
          deepest = max s.deepest deep;
          longest = max s.longest k;
        }) s).ok ≡ true → s.ok ≡ true
    go true z h = z
    go false z h = h

-- a block after its word and bracket
abbrev pub Block : List ℕ → List ℕ → List ℕ
Block w v = w ++ (44 ∷ (v ++ (41 ∷ [])))

module _ (text : List ℕ) where
  byte_here : (s : State Part) (b : ℕ) → s.ok ≡ true → get_or text s.at 0 ≡ b → 0 < b → Dec (s.at < length text) →
      (l : List ℕ) × At text s (b ∷ l)
  byte_here s b z e pos (yes h) =
      (drop (suc s.at) text, record { fine = z; left = drop-cons text s.at 0 h ∙ ap (λ (x : ℕ). x ∷ drop (suc s.at) text) e })
  byte_here s b z e pos (no h) = let e3 = get_or-eq_default text 0 {n = s.at} (omega (arith, h)) in absurd (omega arith)

  pub next_inv : (s : State Part) (b : ℕ) → next text s ≡ b → 0 < b → (l : List ℕ) × At text s (b ∷ l)
  unfolding next
  next_inv s b e pos = go s.ok refl
    where
      go : (z : Bool) → s.ok ≡ z → (l : List ℕ) × At text s (b ∷ l)
      go false z = let e2 : 0 ≡ b = rw z at e in absurd (omega arith)
      go true z = byte_here s b z (rw z at e) pos (dec_lt s.at (length text))

  -- an expected byte was there
  pub expect_inv : (s : State Part) (b : ℕ) → 0 < b → (expect text b s).ok ≡ true → (l : List ℕ) × At text s (b ∷ l)
  unfolding expect bad
  expect_inv s b pos =
      by_cond (λ (r : State Part). r.ok ≡ true → (l : List ℕ) × At text s (b ∷ l)) (eqb (next text s) b)
      (λ e k. next_inv s b (eqb-true (next text s) b e) pos) (λ e k. never k)

  -- what was read from s on, and what the reader made of it
  pub record Found (F : List ℕ → Tree → ℕ → Type 0) (deep : ℕ) (s r : State Part) : Type 0 where
    pub bytes : List ℕ
    pub tree : Tree
    pub depth : ℕ
    pub rest : List ℕ
    pub here : At text s (bytes ++ rest)
    pub derived : F bytes tree depth
    pub gives : r ≡ after bytes tree depth deep s

  abbrev pub Finds : (F : List ℕ → Tree → ℕ → Type 0) → ℕ → State Part → State Part → Type 0
  Finds F deep s r = r.ok ≡ true → Found F deep s r

  pub bad_next : (s : State Part) → s.ok ≡ false → next text s ≡ 0
  unfolding next
  bad_next s z = rw z refl

  -- what follows an operand does not mend it
  pub rest_ok : {deep byte kind level : ℕ} {operand rest whole : ℕ → State Part → State Part} →
      Chain (spelled text) text deep byte kind level operand rest whole →
      (n : ℕ) (s : State Part) → (rest n s).ok ≡ true → s.ok ≡ true
  unfolding bad
  rest_ok C zero s h = never (ap (λ (r : State Part). r.ok) (sym (C.stops s)) ∙ h)
  rest_ok {byte = byte} C (suc n) s h = go s.ok refl
    where
      go : (z : Bool) → s.ok ≡ z → s.ok ≡ true
      go true z = z
      go false z =
          let e : eqb (next text s) byte ≡ false = ne_eqb (next text s) byte (λ q. let b = bad_next s z in omega (arith, C.some)) in
          rw (C.goes_on n s, e) at h

  pub record LatchFound (o : Binary) (deep : ℕ) (s r : State Part) : Type 0 where
    pub first : List ℕ
    pub second : List ℕ
    pub t : Tree
    pub u : Tree
    pub d : ℕ
    pub e : ℕ
    pub rest : List ℕ
    pub here : At text s (Block first second ++ rest)
    pub left : Sum first t d
    pub right : Sum second u e
    pub gives : r ≡ after (Block first second) (binary o t u) (max d e + 1) deep s

  pub record TimerFound (kind : ℕ) (deep : ℕ) (s r : State Part) : Type 0 where
    pub digits : List ℕ
    pub body : List ℕ
    pub t : Tree
    pub d : ℕ
    pub rest : List ℕ
    pub here : At text s (Block digits body ++ rest)
    pub number : is_length digits ≡ true
    pub operand : Sum body t d
    pub gives : (o : Unary) → timed_part kind (value digits) ≡ one o → ticks_of o ≡ value digits →
        r ≡ after (Block digits body) (unary o t) (d + 1) deep s
