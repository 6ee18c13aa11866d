-- What is passed of a chain begins one.
use Prim.Native.Nat.{ℕ, suc}
use mathlib.Core.Path.{◌≡◌, sym, subst}
use mathlib.Core.Bool.{true}
use mathlib.Core.List.{List, [], ◌∷◌, ◌++◌, append_assoc, append-nil}
use lib.Dec.{eqb}
use borrow.Author.Tests.{eqb-true}
use Rattle.grammar.specs.Code.{Part}
use Rattle.grammar.specs.Reader.{State, next, stepped, put}
use Rattle.grammar.specs.Formula.{spelled}
use Rattle.grammar.specs.PartWords.{plain_part}
use Rattle.grammar.proofs.Bytes.{by_cond}
use Rattle.grammar.proofs.Branches.{Chain}
use Rattle.beginnings.proofs.Still.{still_then, put_still, rest_still}
use Rattle.beginnings.proofs.Begun.{step_fine, Between, nothing_between, byte_between, between_more, between_put}
use Rattle.beginnings.proofs.Begun.{Begun, done, part_then}

module _ (text : List ℕ) where
  -- a chain W of operands O
  module _ {deep byte kind level : ℕ} {operand rest whole : ℕ → State Part → State Part}
      (C : Chain (spelled text) text deep byte kind level operand rest whole) (O W : List ℕ → Type 0) (n : ℕ)
      (reads : (s : State Part) → s.ok ≡ true → Begun text O s (operand n s))
      (goes_on : (s i : State Part) (w : List ℕ) → W w → Between text s i w → Begun text W s (rest n i)) where
    pub whole_step : ((w : List ℕ) → O w → W w) → (s : State Part) → s.ok ≡ true → Begun text W s (whole (suc n) s)
    whole_step up s fine =
        subst (Begun text W s) (sym (C.begins n s))
        (part_then text W (rest n) (rest_still text C n) O (nothing_between text s fine) (reads s fine) []
        (λ x o. rw (append-nil x) (up x o)) (λ x o e p. goes_on s (operand n s) x (up x o) p))

    pub rest_step : ((w v : List ℕ) → W w → O v → W (w ++ (byte ∷ v))) → (s i : State Part) (w : List ℕ) → W w → Between text s i w →
        Begun text W s (rest (suc n) i)
    rest_step more s i w x p =
        subst (Begun text W s) (sym (C.goes_on n i))
        (by_cond (Begun text W s) (eqb (next text i) byte)
        (λ e.
        let k = byte_between text i byte (eqb-true (next text i) byte e) C.some in
        part_then text W (λ (r : State Part). rest n (put (plain_part kind) deep 0 r))
        (still_then (rest n) (put (plain_part kind) deep 0) (rest_still text C n) (put_still (plain_part kind) deep 0)) O
        (between_more text p k) (reads (stepped 1 i) (step_fine 1 i k.here.fine)) []
        (λ v o. rw (append-nil v, append_assoc w (byte ∷ []) v) (more w v x o))
        (λ v o f q. goes_on s (put (plain_part kind) deep 0 (operand n (stepped 1 i))) ((w ++ (byte ∷ [])) ++ v)
        (rw (append_assoc w (byte ∷ []) v) (more w v x o)) (between_put text (plain_part kind) deep 0 q)))
        (λ e. done text W p x))
