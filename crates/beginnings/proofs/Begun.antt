-- What stands between two states of a reader, and what it begins: part after part, byte after byte.
use Prim.Native.Nat.{ℕ, ◌+◌, ◌<◌}
use native.Mathlib.Nat.{add-zero}
use native.Mathlib.Omega.{arith}
use mathlib.Core.Path.{◌≡◌, refl, sym, ap, ◌∙◌, subst}
use mathlib.Core.Bool.{Bool, true, false}
use mathlib.Core.List.{List, [], ◌∷◌, ◌++◌, append_assoc, append-nil}
use lib.Dec.{eqb}
use lib.ListN.{length, drop, length-append}
use borrow.Author.Tests.{eqb-true}
use Rattle.grammar.specs.Code.{Part}
use Rattle.grammar.specs.Reader.{State, next, bad, stepped, expect, put}
use Rattle.grammar.proofs.Bytes.{never, by_cond}
use Rattle.grammar.proofs.Standing.{At, steps_at}
use Rattle.grammar.proofs.Found.{same_left, next_inv}
use Rattle.beginnings.proofs.Still.{Still}

pub step_fine : (k : ℕ) (s : State Part) → s.ok ≡ true → (stepped k s).ok ≡ true
unfolding stepped
step_fine k s e = e

module _ (text : List ℕ) where
  -- all is well at s, and the bytes w stand between there and where i is
  pub record Between (s i : State Part) (w : List ℕ) : Type 0 where
    pub rest : List ℕ
    pub here : At text s (w ++ rest)
    pub place : i.at ≡ s.at + length w

  pub nothing_between : (s : State Part) → s.ok ≡ true → Between s s []
  nothing_between s e = record { rest = drop s.at text; here = record { fine = e; left = refl }; place = sym (add-zero s.at) }

  pub byte_between : (s : State Part) (b : ℕ) → next text s ≡ b → 0 < b → Between s (stepped 1 s) (b ∷ [])
  unfolding stepped
  byte_between s b e pos = let x = next_inv text s b e pos in record { rest = x.0; here = x.1; place = refl }

  between_at : {s i : State Part} {w : List ℕ} (p : Between s i w) → i.ok ≡ true → At text i p.rest
  unfolding stepped
  between_at {w = w} p e =
      record { fine = e; left = ap (λ (k : ℕ). drop k text) p.place ∙ (steps_at w p.here).left }

  pub between_more : {s i r : State Part} {w v : List ℕ} → Between s i w → Between i r v → Between s r (w ++ v)
  between_more {w = w} {v = v} p q =
      let e : p.rest ≡ v ++ q.rest = same_left (between_at p q.here.fine) q.here in
      record {
        rest = q.rest;
        here = rw (append_assoc w v q.rest, ← e) p.here;
        place = omega (arith, p.place, q.place, length-append w v);
      }

  pub between_put : {s i : State Part} {w : List ℕ} (x : Part) (deep ticks : ℕ) → Between s i w → Between s (put x deep ticks i) w
  unfolding put
  between_put {s} {i} {w} x deep ticks p =
      by_cond (λ (r : State Part). Between s r w) i.ok
      (λ e. record { rest = p.rest; here = p.here; place = p.place }) (λ e. p)

  -- what stands between s and r begins an F, and is one when all is well at r
  pub record Begun (F : List ℕ → Type 0) (s r : State Part) : Type 0 where
    pub bytes : List ℕ
    pub more : List ℕ
    pub between : Between s r bytes
    pub begins : F (bytes ++ more)
    pub whole : r.ok ≡ true → F bytes

  module _ (F : List ℕ → Type 0) {s : State Part} where
    pub done : {r : State Part} {w : List ℕ} → Between s r w → F w → Begun F s r
    done {r} {w} p x = record { bytes = w; more = []; between = p; begins = rw (append-nil w) x; whole = λ e. x }

    pub broken : {i : State Part} {w : List ℕ} → Between s i w → (v : List ℕ) → F (w ++ v) → Begun F s (bad i)
    unfolding bad
    broken {i} {w} p v x =
        record {
          bytes = w;
          more = v;
          between = record { rest = p.rest; here = p.here; place = p.place };
          begins = x;
          whole = λ e. never e;
        }

    -- a part G between i and r: when it breaks off, it goes on to a whole one and then v, and the rest R of the reader stays where it is
    pub part_then : (R : State Part → State Part) → Still R → (G : List ℕ → Type 0) {i r : State Part} {w : List ℕ} → Between s i w →
        Begun G i r → (v : List ℕ) → ((x : List ℕ) → G x → F (w ++ (x ++ v))) →
        ((x : List ℕ) → G x → r.ok ≡ true → Between s r (w ++ x) → Begun F s (R r)) → Begun F s (R r)
    part_then R still G {i} {r} {w} p g v make goes_on = go r.ok refl
      where
        all : Between s r (w ++ g.bytes)
        all = between_more p g.between

        grouped : w ++ ((g.bytes ++ g.more) ++ v) ≡ (w ++ g.bytes) ++ (g.more ++ v)
        grouped =
            ap (λ (x : List ℕ). w ++ x) (append_assoc g.bytes g.more v) ∙ sym (append_assoc w g.bytes (g.more ++ v))

        go : (z : Bool) → r.ok ≡ z → Begun F s (R r)
        go true e = goes_on g.bytes (g.whole e) e all
        go false e =
            subst (Begun F s) (sym (still r e))
            (record {
              bytes = w ++ g.bytes;
              more = g.more ++ v;
              between = all;
              begins = subst F grouped (make (g.bytes ++ g.more) g.begins);
              whole = λ h. never (sym e ∙ h);
            })

    -- the byte b is expected: when it is not there, v would go on
    pub byte_then : (R : State Part → State Part) → Still R → (b : ℕ) → 0 < b → {i : State Part} {w : List ℕ} → Between s i w →
        (v : List ℕ) → F (w ++ v) →
        ((stepped 1 i).ok ≡ true → Between s (stepped 1 i) (w ++ (b ∷ [])) → Begun F s (R (stepped 1 i))) →
        Begun F s (R (expect text b i))
    unfolding expect bad stepped
    byte_then R still b pos {i} {w} p v x goes_on =
        by_cond (λ (r : State Part). Begun F s (R r)) (eqb (next text i) b)
        (λ e.
        let k = byte_between i b (eqb-true (next text i) b e) pos in
        goes_on k.here.fine (between_more p k))
        (λ e. subst (Begun F s) (sym (still (bad i) refl)) (broken p v x))
