-- What the reader finds where it passes a length, a constant or a name.
use Prim.Native.Nat.{ℕ, suc, ◌≤◌, ◌<◌}
use native.Mathlib.Omega.{arith}
use mathlib.Core.Path.{◌≡◌, refl}
use mathlib.Core.Bool.{Bool, true, false, cond, ◌||◌}
use mathlib.Core.List.{List, [], ◌∷◌, ◌++◌}
use lib.Dec.{leb, eqb}
use lib.ListN.{length, take, drop, take-append-drop}
use lib.Seq.{length-take-le}
use borrow.Author.Tests.{eqb-true, leb-true, le-leb}
use Rattle.grammar.specs.Tree.{Leaf, leaf, name, down, up}
use Rattle.grammar.specs.Code.{Part, code, longest, operand}
use Rattle.names.specs.Names.{digit, all_of, letter, name_byte, well_named}
use Rattle.texts.specs.Lengths.{is_length}
use Rattle.grammar.specs.Grammar.{Factor}
use Rattle.grammar.specs.Reader.{State, run, next, bad, stepped, put, pass_length, astray, leaf_at}
use Rattle.grammar.specs.Formula.{spelled}
use Rattle.grammar.specs.PartWords.{name_at}
use Rattle.signals.proofs.Truth.{and_left}
use Rattle.grammar.proofs.Bytes.{never, by_cond}
use Rattle.grammar.proofs.Standing.{state_eq, At, after}
use Rattle.grammar.proofs.Found.{next_inv, Found, Finds}

-- a run of bytes is the front of a list, all of which has the property
run_front : (p : ℕ → Bool) (l : List ℕ) → (all_of p (take (run p l) l) ≡ true) × (run p l ≤ length l)
unfolding run all_of
run_front p [] = (refl, omega arith)
run_front p (b ∷ l) = go (p b) refl (run_front p l)
  where
    go : (z : Bool) → p b ≡ z → (all_of p (take (run p l) l) ≡ true) × (run p l ≤ length l) →
        (all_of p (take (cond z (suc (run p l)) 0) (b ∷ l)) ≡ true) × (cond z (suc (run p l)) 0 ≤ length (b ∷ l))
    go true z ih = (rw z ih.0, omega (arith, ih.1))
    go false z ih = (refl, omega arith)

or_true : (a : Bool) → a || true ≡ true
or_true true = refl
or_true false = refl

digit_pos : (b : ℕ) → digit b ≡ true → 0 < b
unfolding digit
digit_pos b e = let h = leb-true 48 b (and_left (leb 48 b) (leb b 57) e) in omega arith

lower_pos : (b : ℕ) → letter b ≡ true → 0 < b
unfolding letter
lower_pos b e = let h = leb-true 97 b (and_left (leb 97 b) (leb b 122) e) in omega arith

-- a constant or a name
leaf_eq : (x : Leaf) (w : List ℕ) (deep : ℕ) (s : State Part) → s.ok ≡ true →
    put (operand x) deep 0 (stepped (length w) s) ≡ after w (leaf x) 0 deep s
unfolding put after stepped code longest
leaf_eq x w deep s e = rw e (state_eq refl refl refl (omega arith) (omega arith))

module _ (text : List ℕ) where
  pub record LengthFound (s r : State Part) : Type 0 where
    pub digits : List ℕ
    pub rest : List ℕ
    pub here : At text s (digits ++ rest)
    pub number : is_length digits ≡ true
    pub gives : r ≡ stepped (length digits) s

  -- a first byte and the run after it
  digits_found : (s : State Part) (b : ℕ) (l : List ℕ) → At text s (b ∷ l) → digit b ≡ true → eqb b 48 ≡ false →
      LengthFound s (stepped (run digit (drop s.at text)) s)
  unfolding run is_length
  digits_found s b l a dig z =
      let k = run_front digit l in
      let size : length (take (run digit l) l) ≡ run digit l = length-take-le (run digit l) l k.1 in
      record {
        digits = b ∷ take (run digit l) l;
        rest = drop (run digit l) l;
        here = rw (take-append-drop (run digit l) l) a;
        number = rw (dig, k.0, z) (or_true (eqb (length (take (run digit l) l)) 0));
        gives = rw (a.left, dig, size) refl;
      }

  pub length_inv : (s : State Part) → (pass_length text s).ok ≡ true → LengthFound s (pass_length text s)
  unfolding pass_length bad is_length digit all_of
  length_inv s =
      by_cond (λ (r : State Part). r.ok ≡ true → LengthFound s r) (eqb (next text s) 48)
      (λ e h.
      let x = next_inv text s 48 (eqb-true (next text s) 48 e) (omega arith) in
      record { digits = 48 ∷ []; rest = x.0; here = x.1; number = refl; gives = refl })
      (λ e. by_cond (λ (r : State Part). r.ok ≡ true → LengthFound s r) (digit (next text s))
      (λ dig h.
      let x = next_inv text s (next text s) refl (digit_pos (next text s) dig) in
      digits_found s (next text s) x.0 x.1 dig e)
      (λ dig h. never h))

  name_found : (deep : ℕ) (s : State Part) (b : ℕ) (l : List ℕ) → At text s (b ∷ l) → letter b ≡ true →
      leb (run name_byte (drop s.at text)) 8 ≡ true →
      Found text Factor deep s
      (put (operand (name (name_at text s.at (run name_byte (drop s.at text))))) deep 0
      (stepped (run name_byte (drop s.at text)) s))
  unfolding run name_at name_byte well_named
  name_found deep s b l a low short =
      let k = run_front name_byte l in
      let w = b ∷ take (run name_byte l) l in
      let size : length (take (run name_byte l) l) ≡ run name_byte l = length-take-le (run name_byte l) l k.1 in
      let all : run name_byte (drop s.at text) ≡ length w = rw (a.left, low, size) refl in
      let these : take (length w) (drop s.at text) ≡ w = rw (a.left, size) refl in
      let short2 : length w ≤ 8 = leb-true (length w) 8 (rw all at short) in
      record {
        bytes = w;
        tree = leaf (name w);
        depth = 0;
        rest = drop (run name_byte l) l;
        here = rw (take-append-drop (run name_byte l) l) a;
        derived = Factor.named {w = w} (rw (le-leb (length w) 8 short2, low, k.0) refl);
        gives = rw (all, these) (leaf_eq (name w) w deep s a.fine);
      }

  pub leaf_step : (deep : ℕ) (s : State Part) → Finds text Factor deep s (leaf_at (spelled text) text deep s)
  unfolding leaf_at astray bad
  leaf_step deep s =
      by_cond (Finds text Factor deep s) (eqb (next text s) 48)
      (λ e h.
      let x = next_inv text s 48 (eqb-true (next text s) 48 e) (omega arith) in
      record {
        bytes = 48 ∷ [];
        tree = leaf down;
        depth = 0;
        rest = x.0;
        here = x.1;
        derived = Factor.zero;
        gives = leaf_eq down (48 ∷ []) deep s x.1.fine;
      })
      (λ e0. by_cond (Finds text Factor deep s) (eqb (next text s) 49)
      (λ e h.
      let x = next_inv text s 49 (eqb-true (next text s) 49 e) (omega arith) in
      record {
        bytes = 49 ∷ [];
        tree = leaf up;
        depth = 0;
        rest = x.0;
        here = x.1;
        derived = Factor.one;
        gives = leaf_eq up (49 ∷ []) deep s x.1.fine;
      })
      (λ e1. by_cond (Finds text Factor deep s) (letter (next text s))
      (λ low. by_cond (Finds text Factor deep s) (leb (run name_byte (drop s.at text)) 8)
      (λ short h.
      let x = next_inv text s (next text s) refl (lower_pos (next text s) low) in
      name_found deep s (next text s) x.0 x.1 low short)
      (λ long h. never h))
      (λ low h. never h)))
