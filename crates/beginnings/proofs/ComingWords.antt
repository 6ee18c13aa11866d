-- The reader comes to the end of each front of a block's word, and of the whole block where it does so after the word.
use Prim.Native.Nat.{ℕ, zero, suc, ◌+◌, ◌≤◌}
use native.Mathlib.Omega.{arith}
use mathlib.Core.Path.{◌≡◌, refl, sym, ap, ◌∙◌, subst}
use mathlib.Core.Bool.{false, ◌||◌}
use mathlib.Core.List.{List, [], ◌∷◌, ◌++◌, append_assoc}
use lib.Dec.{ltb, eqb}
use lib.ListN.{length, length-append, length-take, get_or, take}
use Rattle.names.specs.Names.{letter}
use Rattle.grammar.specs.Code.{Part}
use Rattle.grammar.specs.Kinds as kinds
use Rattle.grammar.specs.Reader.{State, stepped, block_bytes, block_at, shared, reach, leaf_at, factor_at}
use Rattle.grammar.specs.Formula.{spelled}
use Rattle.grammar.proofs.Bytes.{by_cond}
use Rattle.grammar.proofs.Standing.{At, next_of, steps_at}
use Rattle.grammar.proofs.Branches.{BlockNext}
use Rattle.grammar.proofs.Complete.{Word, word_next, sr_word, rs_word, ton_word, tof_word, tp_word}
use Rattle.beginnings.proofs.Monotone.{From, on}
use Rattle.beginnings.proofs.Fronts.{by_front, shared_front}
use Rattle.beginnings.proofs.Coming.{Comes, Reaches, no_factor}
use Rattle.beginnings.proofs.ComingLeaves.{astray_at}

-- a block's word and bracket have three bytes at least
three : (kind : ℕ) → 3 ≤ block_bytes kind
unfolding block_bytes
three kind = by_cond (λ (k : ℕ). 3 ≤ k) (eqb kind kinds.TON || eqb kind kinds.TOF) (λ e. omega arith) (λ e. omega arith)

module _ (text : List ℕ) where
  -- a word, by its first byte and the others before the bracket, that begins a block of the kind
  pub record Stem (b : ℕ) (stem : List ℕ) (kind : ℕ) : Type 0 where
    pub word : Word text (b ∷ (stem ++ (40 ∷ []))) kind
    pub short : length stem ≤ 2
    pub no_leaf : (eqb b 48 ≡ false) × (eqb b 49 ≡ false) × (letter b ≡ false)
    pub far : (l : List ℕ) → letter (get_or l 0 0) ≡ false → shared (b ∷ (stem ++ (40 ∷ []))) l ≤ reach l

  -- a front of the word: some block of three bytes at least is there, or the reader goes astray past what is there of the word
  stem_comes : (b : ℕ) (stem : List ℕ) (kind : ℕ) → Stem b stem kind → (deep k : ℕ) →
      Comes text (λ n. factor_at (spelled text) text n deep) 2 (b ∷ take k stem)
  unfolding factor_at leaf_at stepped
  stem_comes b stem kind c deep k zero s l a h = absurd (omega arith)
  stem_comes b stem kind c deep k (suc n) s l a h =
      let x = c.word.begins [] in
      let f = c.no_leaf in
      let far = c.far ((b ∷ take k stem) ++ l) f.2 in
      let here = shared_front (b ∷ stem) (40 ∷ []) l (suc k) in
      let size = length-take k stem in
      let block = block_at text s in
      let to = s.at + suc (length (take k stem)) in
      let past : to ≤ s.at + block_bytes block = omega (arith, three block, c.short) in
      rw (next_of a, x.0, x.1)
      (by_cond (From (spelled text) text to) (ltb 0 block)
      (λ e. by_cond (From (spelled text) text to) (ltb block kinds.AND)
      (λ e. (on (spelled text) text n).timer to block deep (stepped (block_bytes block) s) past)
      (λ e. (on (spelled text) text n).latch to block deep (stepped (block_bytes block) s) past))
      (λ e. rw (f.0, f.1, f.2, astray_at text a) (omega arith)))

  -- the word and its bracket, and a front of what is after them
  body_comes : (b : ℕ) (stem : List ℕ) (kind : ℕ) → Stem b stem kind → (deep : ℕ) (body : ℕ → State Part → State Part) →
      ((n : ℕ) (s : State Part) → BlockNext text s kind →
      factor_at (spelled text) text (suc n) deep s ≡ body n (stepped (block_bytes kind) s)) →
      (x : List ℕ) → Comes text body 5 x → Comes text (λ n. factor_at (spelled text) text n deep) 2 (b ∷ (stem ++ (40 ∷ x)))
  unfolding stepped
  body_comes b stem kind c deep body is x r zero s l a h = absurd (omega arith)
  body_comes b stem kind c deep body is x r (suc n) s l a h =
      let word = b ∷ (stem ++ (40 ∷ [])) in
      let e : (b ∷ (stem ++ (40 ∷ x))) ++ l ≡ word ++ (x ++ l) =
      ap (λ (y : List ℕ). b ∷ y) (append_assoc stem (40 ∷ x) l ∙ sym (append_assoc stem (40 ∷ []) (x ++ l))) in
      let a2 = subst (At text s) e a in
      let size = ap length e ∙ length-append word (x ++ l) in
      let z = r n (stepped (length word) s) l (steps_at word a2) (omega (arith, c.word.long)) in
      rw (is n s (word_next text c.word s (x ++ l) a2), c.word.bytes)
      (omega (arith, length-append stem (40 ∷ x), length-append stem (40 ∷ [])))

  -- a block, by its word and the reader of what is after it
  pub block_reaches : (b : ℕ) (stem : List ℕ) (kind : ℕ) → Stem b stem kind → (deep : ℕ) (body : ℕ → State Part → State Part) →
      ((n : ℕ) (s : State Part) → BlockNext text s kind →
      factor_at (spelled text) text (suc n) deep s ≡ body n (stepped (block_bytes kind) s)) →
      (w : List ℕ) → Reaches text body 5 w → Reaches text (λ n. factor_at (spelled text) text n deep) 2 (b ∷ (stem ++ (40 ∷ w)))
  block_reaches b stem kind c deep body is w r zero = no_factor text deep
  block_reaches b stem kind c deep body is w r (suc k) =
      by_front (λ (x : List ℕ). Comes text (λ n. factor_at (spelled text) text n deep) 2 (b ∷ x)) stem 40 w (stem_comes b stem kind c deep)
      (λ k. body_comes b stem kind c deep body is (take k w) (r k)) k

  -- the five words
  pub sr_stem : Stem 83 (82 ∷ []) kinds.SR
  unfolding letter reach
  sr_stem = record { word = sr_word text; short = omega arith; no_leaf = (refl, refl, refl); far = λ l e. rw e (omega arith) }

  pub rs_stem : Stem 82 (83 ∷ []) kinds.RS
  unfolding letter reach
  rs_stem = record { word = rs_word text; short = omega arith; no_leaf = (refl, refl, refl); far = λ l e. rw e (omega arith) }

  pub ton_stem : Stem 84 (79 ∷ 78 ∷ []) kinds.TON
  unfolding letter reach
  ton_stem = record { word = ton_word text; short = omega arith; no_leaf = (refl, refl, refl); far = λ l e. rw e (omega arith) }

  pub tof_stem : Stem 84 (79 ∷ 70 ∷ []) kinds.TOF
  unfolding letter reach
  tof_stem = record { word = tof_word text; short = omega arith; no_leaf = (refl, refl, refl); far = λ l e. rw e (omega arith) }

  pub tp_stem : Stem 84 (80 ∷ []) kinds.TP
  unfolding letter reach
  tp_stem = record { word = tp_word text; short = omega arith; no_leaf = (refl, refl, refl); far = λ l e. rw e (omega arith) }
