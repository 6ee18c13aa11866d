-- The reader comes to the end of each front of a constant, a name and a length.
use Prim.Native.Nat.{ℕ, zero, suc, ◌+◌, ◌≤◌}
use native.Mathlib.Omega.{arith}
use mathlib.Core.Path.{◌≡◌, refl}
use mathlib.Core.Bool.{Bool, true, false, not, ◌&&◌, ◌||◌}
use mathlib.Core.List.{List, [], ◌∷◌, ◌++◌}
use lib.Dec.{leb, eqb, eqb-suc-zero}
use lib.ListN.{length, length-take, take}
use borrow.Author.Tests.{leb-true}
use Rattle.names.specs.Names.{digit, all_of, letter, name_byte, well_named}
use Rattle.texts.specs.Lengths.{is_length}
use Rattle.grammar.specs.Tree.{down, up}
use Rattle.grammar.specs.Code.{Part, operand}
use Rattle.grammar.specs.Reader.{State, run, bad, stepped, put, pass_length, prefix_kind, starts, block_kind, reach, astray, leaf_at}
use Rattle.grammar.specs.Reader.{factor_at}
use Rattle.grammar.specs.Formula.{spelled}
use Rattle.signals.proofs.Truth.{and_left, and_right}
use Rattle.grammar.proofs.Bytes.{never, by_cond, lower_not}
use Rattle.grammar.proofs.Standing.{At, next_of, block_of, steps_at}
use Rattle.grammar.proofs.Complete.{length_reads}
use Rattle.beginnings.proofs.Monotone.{From, put_on, length_on}
use Rattle.beginnings.proofs.Fronts.{all_front, run_past}
use Rattle.beginnings.proofs.Coming.{Comes, Reaches, Passes, ReachesFactor, no_factor}

module _ (text : List ℕ) where
  -- a byte that is a factor
  byte_reaches : (b : ℕ) (part : Part) → ((n deep : ℕ) (s : State Part) (l : List ℕ) → At text s (b ∷ l) →
      factor_at (spelled text) text (suc n) deep s ≡ put part deep 0 (stepped 1 s)) → ReachesFactor text (b ∷ [])
  unfolding stepped
  byte_reaches b part e deep zero n s l a h = no_factor text deep n s l a h
  byte_reaches b part e deep (suc k) zero s l a h = absurd (omega arith)
  byte_reaches b part e deep (suc k) (suc n) s l a h =
      let none : List ℕ = [] in
      rw (e n deep s (take k [] ++ l) a)
      (put_on (spelled text) text (s.at + suc (length (take k none))) part deep 0 (stepped 1 s) (omega (arith, length-take k none)))

  pub zero_reaches : ReachesFactor text (48 ∷ [])
  unfolding factor_at prefix_kind starts block_kind leaf_at
  zero_reaches = byte_reaches 48 (operand down) (λ n deep s l a. rw (next_of a, block_of a) refl)

  pub one_reaches : ReachesFactor text (49 ∷ [])
  unfolding factor_at prefix_kind starts block_kind leaf_at
  one_reaches = byte_reaches 49 (operand up) (λ n deep s l a. rw (next_of a, block_of a) refl)

  pub astray_at : {s : State Part} {l : List ℕ} → At text s l → (astray text s).at ≡ s.at + reach l
  unfolding astray bad stepped
  astray_at a = rw (a.fine, a.left) refl

  -- a letter and name bytes: the reader passes the run of name bytes, or goes 8 bytes astray
  name_comes : (b : ℕ) (x : List ℕ) → letter b ≡ true → all_of name_byte x ≡ true → length x ≤ 7 → (deep : ℕ) →
      Comes text (λ n. factor_at (spelled text) text n deep) 2 (b ∷ x)
  unfolding factor_at leaf_at stepped reach all_of name_byte
  name_comes b x low all short deep zero s l a h = absurd (omega arith)
  name_comes b x low all short deep (suc n) s l a h =
      let k = lower_not b low in
      let past = run_past name_byte (b ∷ x) l (rw low all) in
      let r = run name_byte (b ∷ (x ++ l)) in
      rw (next_of a, k.prefix, k.bracket, block_of a, k.block (x ++ l), k.zero, k.one, low, a.left)
      (by_cond (From (spelled text) text (s.at + suc (length x))) (leb r 8)
      (λ e. put_on (spelled text) text (s.at + suc (length x)) _ deep 0 (stepped r s) (omega arith))
      (λ e. rw (astray_at a, low) (omega arith)))

  pub named_reaches : (w : List ℕ) → well_named w ≡ true → ReachesFactor text w
  unfolding well_named
  named_reaches [] e deep k n s l a h = never e
  named_reaches (b ∷ w) e deep zero n s l a h = no_factor text deep n s l a h
  named_reaches (b ∷ w) e deep (suc k) n s l a h =
      let rest = and_right (leb (length (b ∷ w)) 8) (letter b && all_of name_byte w) e in
      let short = leb-true (length (b ∷ w)) 8 (and_left (leb (length (b ∷ w)) 8) (letter b && all_of name_byte w) e) in
      name_comes b (take k w) (and_left (letter b) (all_of name_byte w) rest)
      (all_front name_byte k w (and_right (letter b) (all_of name_byte w) rest))
      (omega (arith, length-take k w)) deep n s l a h

  -- digits, of which a first 0 is the only one: the reader passes it, or the run of digits
  length_comes : (b : ℕ) (x : List ℕ) → digit b ≡ true → all_of digit x ≡ true → (z : Bool) → eqb b 48 ≡ z →
      eqb (length x) 0 || not z ≡ true → Comes text (λ n. pass_length text) 4 (b ∷ x)
  unfolding pass_length all_of stepped
  length_comes b [] dig all true z e n s l a h = rw (next_of a, z) (omega arith)
  length_comes b (c ∷ x) dig all true z e n s l a h = never (rw eqb-suc-zero at e)
  length_comes b x dig all false z e n s l a h =
      rw (next_of a, z, dig, a.left) (omega (arith, run_past digit (b ∷ x) l (rw dig all)))

  -- a front of digits that are none is none
  none_front : (k : ℕ) (w : List ℕ) (z : Bool) → eqb (length w) 0 || z ≡ true → eqb (length (take k w)) 0 || z ≡ true
  none_front zero w z e = refl
  none_front (suc k) [] z e = refl
  none_front (suc k) (b ∷ w) z e = rw eqb-suc-zero (rw eqb-suc-zero at e)

  pub length_reaches : (w : List ℕ) → is_length w ≡ true → Reaches text (λ n. pass_length text) 4 w
  unfolding is_length
  length_reaches [] e k n s l a h = never e
  length_reaches (b ∷ w) e zero n s l a h = omega (arith, length_on (spelled text) text s.at s (omega arith))
  length_reaches (b ∷ w) e (suc k) n s l a h =
      let rest = and_right (digit b) (all_of digit w && (eqb (length w) 0 || not (eqb b 48))) e in
      length_comes b (take k w) (and_left (digit b) (all_of digit w && (eqb (length w) 0 || not (eqb b 48))) e)
      (all_front digit k w (and_left (all_of digit w) (eqb (length w) 0 || not (eqb b 48)) rest)) (eqb b 48) refl
      (none_front k w (not (eqb b 48)) (and_right (all_of digit w) (eqb (length w) 0 || not (eqb b 48)) rest)) n s l a h

  pub length_passes : (w : List ℕ) → is_length w ≡ true → Passes text (λ n. pass_length text) 4 w 44
  unfolding stepped
  length_passes w e n s l a h = rw (length_reads text w l s e a) (refl, steps_at w a)
