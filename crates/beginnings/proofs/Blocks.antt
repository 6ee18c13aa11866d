-- What is passed of a block begins one: its word, a length, and what stands in its brackets.
use Prim.Native.Nat.{ℕ, ◌+◌}
use native.Mathlib.Omega.{arith}
use mathlib.Core.Path.{◌≡◌, refl, sym, ap, ◌∙◌, subst}
use mathlib.Core.Bool.{Bool, true, false}
use mathlib.Core.List.{List, [], ◌∷◌, ◌++◌, append_assoc, append-nil}
use lib.Dec.{eqb}
use lib.ListN.{length, drop}
use Rattle.names.specs.Names.{digit}
use Rattle.grammar.specs.Code.{Part}
use Rattle.grammar.specs.Grammar.{Sum, Factor}
use Rattle.grammar.specs.Reader.{State, run, next, stepped, expect, put, pass_length, starts, sum_at}
use Rattle.grammar.specs.Formula.{spelled}
use Rattle.signals.proofs.Truth.{true_false}
use Rattle.grammar.proofs.Bytes.{by_cond}
use Rattle.grammar.proofs.Standing.{front}
use Rattle.grammar.proofs.Found.{Block}
use Rattle.grammar.proofs.FoundLeaves.{length_inv}
use Rattle.beginnings.proofs.Still.{Still, still_then, put_still, expect_still, sum_still}
use Rattle.beginnings.proofs.Begun.{step_fine, Between, nothing_between, between_put, Begun, done, broken, part_then, byte_then}
use Rattle.beginnings.proofs.Rules.{Some, zero_sum, Length, zero_length, Word}

module _ (text : List ℕ) where
  -- a block after its word: what stands before the comma, the comma, a sum and the closing bracket
  pub block_step : (First F : List ℕ → Type 0) → ((w v : List ℕ) → First w → Some Sum v → F (Block w v)) →
      (x : Part) (n deep ticks : ℕ) →
      ((s : State Part) → s.ok ≡ true → Begun text (Some Sum) s (sum_at (spelled text) text n (deep + 1) s)) →
      (s b : State Part) → s.ok ≡ true → Begun text First s b →
      Begun text F s (put x deep ticks (expect text 41 (sum_at (spelled text) text n (deep + 1) (expect text 44 b))))
  block_step First F make x n deep ticks reads s b fine g =
      part_then text F (λ (r : State Part). closes (sums (expect text 44 r)))
      (still_then (λ (r : State Part). closes (sums r)) (expect text 44) sums_still (expect_still text 44 (omega arith)))
      First (nothing_between text s fine) g (44 ∷ 48 ∷ 41 ∷ []) (λ w f. make w (48 ∷ []) f zero_sum)
      (λ w f e p. byte_then text F (λ (r : State Part). closes (sums r)) sums_still 44 (omega arith) p (44 ∷ 48 ∷ 41 ∷ [])
      (make w (48 ∷ []) f zero_sum)
      (λ e p. part_then text F closes closes_still (Some Sum) p (reads (stepped 1 b) e) (41 ∷ [])
      (λ v y. rw (append_assoc w (44 ∷ []) (v ++ (41 ∷ []))) (make w v f y))
      (λ v y e p. byte_then text F (put x deep ticks) (put_still x deep ticks) 41 (omega arith) p (41 ∷ []) (whole w v f y)
      (λ e p. done text F (between_put text x deep ticks p) (whole w v f y)))))
    where
      sums : State Part → State Part
      sums = sum_at (spelled text) text n (deep + 1)

      closes : State Part → State Part
      closes r = put x deep ticks (expect text 41 r)

      closes_still : Still closes
      closes_still = still_then (put x deep ticks) (expect text 41) (put_still x deep ticks) (expect_still text 41 (omega arith))

      sums_still : Still (λ (r : State Part). closes (sums r))
      sums_still = still_then closes sums closes_still (sum_still text n (deep + 1))

      whole : (w v : List ℕ) → First w → Some Sum v → F (((w ++ (44 ∷ [])) ++ v) ++ (41 ∷ []))
      whole w v f y =
          subst F (sym (append_assoc (w ++ (44 ∷ [])) v (41 ∷ []) ∙ append_assoc w (44 ∷ []) (v ++ (41 ∷ [])))) (make w v f y)

  -- a length
  length_broken : (s : State Part) → s.ok ≡ true → (pass_length text s).ok ≡ false → Begun text Length s (pass_length text s)
  unfolding pass_length
  length_broken s fine =
      by_cond Broken (eqb (next text s) 48) (λ e h. true_false (sym (step_fine 1 s fine) ∙ h))
      (λ e. by_cond Broken (digit (next text s))
      (λ e h. true_false (sym (step_fine (run digit (drop s.at text)) s fine) ∙ h))
      (λ e h. broken text Length (nothing_between text s fine) (48 ∷ []) zero_length))
    where
      Broken : State Part → Type 0
      Broken r = r.ok ≡ false → Begun text Length s r

  pub length_begun : (s : State Part) → s.ok ≡ true → Begun text Length s (pass_length text s)
  unfolding stepped
  length_begun s fine = go (pass_length text s).ok refl
    where
      go : (z : Bool) → (pass_length text s).ok ≡ z → Begun text Length s (pass_length text s)
      go true e =
          let f = length_inv text s e in
          done text Length (record { rest = f.rest; here = f.here; place = ap (λ (i : State Part). i.at) f.gives }) f.number
      go false e = length_broken s fine e

  -- the word that the bytes begin with, and what is after it
  pub word_begun : {First : List ℕ → Type 0} (word : List ℕ) → Word First word → (s r : State Part) → s.ok ≡ true →
      starts word (drop s.at text) ≡ true →
      Begun text (λ (x : List ℕ). Some Factor (word ++ x)) (stepped (length word) s) r → Begun text (Some Factor) s r
  unfolding stepped
  word_begun word c s r fine e g =
      let p : Between text s (stepped (length word) s) word = record {
        rest = drop (length word) (drop s.at text);
        here = record { fine = fine; left = front word (drop s.at text) c.full e };
        place = refl;
      } in
      part_then text (Some Factor) (λ (i : State Part). i) (λ i h. refl) (λ (x : List ℕ). Some Factor (word ++ x)) p g []
      (λ x f. rw (append-nil x) f) (λ x f h q. done text (Some Factor) q f)
