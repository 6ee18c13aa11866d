-- The paths through the reader's steps, over plain values.
use Prim.Native.Nat.{ℕ, zero, suc, ◌+◌, ◌-◌, ◌≤◌, ◌<◌, min}
use native.Mathlib.Omega.{arith}
use mathlib.Core.Path.{◌≡◌, refl, sym, ap, ◌∙◌}
use mathlib.Core.Bool.{Bool, true, false}
use mathlib.Core.List.{List, [], ◌∷◌}
use lib.Dec.{leb, eqb}
use lib.ListN.{length, take, drop, length-drop, length-take}
use lib.Seq.{take-take}
use borrow.Author.Tests.{eqb-true, leb-false, lt-ltb}
use Rattle.names.specs.Names.{letter, digit, name_byte}
use Rattle.texts.specs.Lengths.{capped}
use Rattle.grammar.specs.Reader.{run, value_between}
use Rattle.marks.specs.declared.Mark.{Mark}
use Rattle.marks.specs.Marks.{lent, next_mark}
use Rattle.openings.specs.Opening.{reach_mark}
use Rattle.tokens.specs.Tokens.{length_end, number_at, leaf_end}
use Rattle.moves.specs.Moves.{moved_to, length_passed, length_ticks}
use Rattle.grammar.proofs.Bytes.{by_cond}
use Rattle.marks.proofs.Marking.{inside, lent_most}
use Rattle.openings.proofs.Reaching.{reach_fits}
use Rattle.tokens.proofs.Runs.{letter_name, run_some, run_most, none_at_0, number_between}

-- a length that is next ends in the text
pub length_bounds : (text : List ℕ) (m : Mark) → 0 < length_end text m → (m.at ≤ length_end text m) × (length_end text m ≤ length text)
unfolding length_end
length_bounds text m =
    by_cond (λ (n : ℕ). 0 < n → (m.at ≤ n) × (n ≤ length text)) (eqb (next_mark text m) 48)
    (λ e pos.
    let i = inside text m 48 (eqb-true (next_mark text m) 48 e) (omega arith) in
    (omega arith, omega (arith, i.before)))
    (λ e. by_cond (λ (n : ℕ). 0 < n → (m.at ≤ n) × (n ≤ length text)) (digit (next_mark text m))
    (λ f pos. (
      omega arith,
      omega (arith, run_some digit text m (none_at_0 false) f, run_most digit (drop m.at text), length-drop m.at text),
    ))
    (λ f pos. absurd (omega arith)))

-- a part of the front of a page
part_front : (l : List ℕ) (n a k : ℕ) → a + k ≤ n → take k (drop a (take n l)) ≡ take k (drop a l)
part_front l n zero k h = take-take k n l (omega arith)
part_front l zero (suc a) k h = absurd (omega arith)
part_front [] (suc n) (suc a) k h = refl
part_front (x ∷ l) (suc n) (suc a) k h = part_front l n a k (omega arith)

-- the number that bytes of a lent text write
value_front : (page : List ℕ) (bytes a e : ℕ) → a ≤ e → e ≤ min bytes 1024 → value_between (lent page bytes) a e ≡ value_between page a e
unfolding value_between lent
value_front page bytes a e h k = rw (part_front page (min bytes 1024) a (e - a) (omega arith)) refl

lent_front : (page : List ℕ) (bytes : ℕ) → length (lent page bytes) ≤ length page
unfolding lent
lent_front page bytes = omega (arith, length-take (min bytes 1024) page)

module _ (page : List ℕ) (bytes : ℕ) (m : Mark) (end : ℕ) (e : end ≡ length_end (lent page bytes) m) (some : 0 < end) where
  number_lent : number_at page m.at (min end 1024 - m.at) ≡ value_between (lent page bytes) m.at end
  number_lent =
      let b = length_bounds (lent page bytes) m (omega (arith, e)) in
      let q : min end 1024 ≡ end = omega (arith, e, b.1, lent_most page bytes) in
      rw q (number_between page m.at end (omega (arith, e, b.0)) (omega (arith, e, b.1, lent_front page bytes))
      ∙ sym (value_front page bytes m.at end (omega (arith, e, b.0)) (omega (arith, e, b.1, lent_most page bytes))))

  -- a length that is next is passed
  pub length_is : {r : Mark} {n : ℕ} → r ≡ moved_to m end → n ≡ capped (number_at page m.at (min end 1024 - m.at)) →
      (r ≡ length_passed (lent page bytes) m) × (n ≡ length_ticks (lent page bytes) m)
  unfolding length_passed length_ticks
  length_is p q = rw (← e, lt-ltb 0 end some) (p, q ∙ ap capped number_lent)

-- where neither constant nor name is next, what is there of a factor ends in the text: a name that is too long has its 8 bytes
pub stray_fits : (text : List ℕ) (m : Mark) → leaf_end text m ≤ 0 → reach_mark text m ≤ length text - m.at
unfolding leaf_end
stray_fits text m h =
    omega (
      arith,
      length-drop m.at text,
      reach_fits text m (λ low. name low (eqb (next_mark text m) 48) refl (eqb (next_mark text m) 49) refl
          (leb (run name_byte (drop m.at text)) 8) refl),
    )
  where
    name : letter (next_mark text m) ≡ true → (p : Bool) → eqb (next_mark text m) 48 ≡ p → (q : Bool) → eqb (next_mark text m) 49 ≡ q →
        (r : Bool) → leb (run name_byte (drop m.at text)) 8 ≡ r → 8 ≤ length (drop m.at text)
    name low true e q f r g = let z : m.at + 1 ≤ 0 = rw e at h in absurd (omega arith)
    name low false e true f r g = let z : m.at + 1 ≤ 0 = rw (e, f) at h in absurd (omega arith)
    name low false e false f true g =
        let z : m.at + run name_byte (drop m.at text) ≤ 0 = rw (e, f, low, g) at h in
        absurd (omega (arith, run_some name_byte text m (none_at_0 true) (letter_name (next_mark text m) low)))
    name low false e false f false g =
        omega (arith, leb-false (run name_byte (drop m.at text)) 8 g, run_most name_byte (drop m.at text))
