-- What the grammar derives, the reader reads: with the tree's parts, its depth and its longest length.
use Prim.Native.Nat.{ℕ, zero, suc, ◌+◌, ◌*◌, ◌-◌, ◌≤◌, ◌<◌, max}
use native.Mathlib.Omega.{arith}
use mathlib.Core.Path.{◌≡◌, refl, ap, ◌∙◌}
use mathlib.Core.Bool.{Bool, true, false, not, ◌&&◌, ◌||◌}
use mathlib.Core.List.{List, [], ◌∷◌, ◌++◌, append_assoc}
use lib.Dec.{leb, ltb, eqb, eqb-suc-zero}
use lib.ListN.{length, get_or, length-append}
use lib.Seq.{take-append_seam}
use borrow.Author.Tests.{leb-true, le-leb, eq-eqb}
use Rattle.grammar.specs.Tree.{Tree, Unary, Binary, leaf, unary, binary, name, down}
use Rattle.grammar.specs.Tree.{invert, rise, fall, ton, tof, tp, and, or, sr, rs}
use Rattle.grammar.specs.Tree.{up}
use Rattle.grammar.specs.Code.{Part, code, longest, one, two, ticks_of}
use Rattle.names.specs.Names.{digit, all_of, letter, name_byte, well_named}
use Rattle.texts.specs.Lengths.{is_length, value}
use Rattle.grammar.specs.Grammar.{Sum, Product, Factor}
use Rattle.grammar.specs.Kinds as kinds
use Rattle.grammar.specs.Reader.{State, stepped, put, pass_length, value_between, prefix_kind, starts, block_kind, block_bytes, leaf_at}
use Rattle.grammar.specs.Reader.{timed, sum_at, sums_at, product_at, products_at, factor_at, latch_at, timer_at}
use Rattle.grammar.specs.Formula.{spelled}
use Rattle.grammar.specs.PartWords.{plain_part, timed_part, name_at}
use Rattle.signals.proofs.Truth.{and_left, and_right}
use Rattle.grammar.proofs.Bytes.{never, run_all, lower_not}
use Rattle.grammar.proofs.Standing.{state_eq, At, next_of, step_at, steps_at, block_of, expect_at, after, after_at}
use Rattle.grammar.proofs.Branches.{Chain, plus, times, BlockNext, latch_is, timer_is}
use Rattle.grammar.proofs.Steps.{joined, prefixed, bracketed, latched, clocked, worded, regroup}

-- a name or a number ends before these bytes
abbrev pub NameEnds : List ℕ → Type 0
NameEnds l = name_byte (get_or l 0 0) ≡ false

-- what may follow a sum
pub record SumEnds (l : List ℕ) : Type 0 where
  pub name : NameEnds l
  pub dot : eqb (get_or l 0 0) 46 ≡ false
  pub plus : eqb (get_or l 0 0) 43 ≡ false

pub closed : (l : List ℕ) → SumEnds (41 ∷ l)
unfolding name_byte letter digit
closed l = record { name = refl; dot = refl; plus = refl }

pub parted : (l : List ℕ) → SumEnds (44 ∷ l)
unfolding name_byte letter digit
parted l = record { name = refl; dot = refl; plus = refl }

pub ended : SumEnds []
unfolding name_byte letter digit
ended = record { name = refl; dot = refl; plus = refl }

module _ (text : List ℕ) where
  abbrev pub ReadsFactor : List ℕ → Tree → ℕ → Type 0
  ReadsFactor w t d =
      (n deep : ℕ) (s : State Part) (l : List ℕ) → At text s (w ++ l) → NameEnds l → 5 * length (w ++ l) + 2 ≤ n →
      factor_at (spelled text) text n deep s ≡ after w t d deep s

  abbrev pub ReadsProduct : List ℕ → Tree → ℕ → Type 0
  ReadsProduct w t d =
      (n deep : ℕ) (s : State Part) (l : List ℕ) → At text s (w ++ l) → NameEnds l → 5 * length (w ++ l) + 3 ≤ n →
      (k : ℕ) × (5 * length l + 1 ≤ k) × (product_at (spelled text) text n deep s
      ≡ products_at (spelled text) text k deep (after w t d deep s))

  abbrev pub ReadsSum : List ℕ → Tree → ℕ → Type 0
  ReadsSum w t d =
      (n deep : ℕ) (s : State Part) (l : List ℕ) → At text s (w ++ l) → NameEnds l → eqb (get_or l 0 0) 46 ≡ false →
      5 * length (w ++ l) + 4 ≤ n →
      (k : ℕ) × (5 * length l + 1 ≤ k) × (sum_at (spelled text) text n deep s ≡ sums_at (spelled text) text k deep (after w t d deep s))

  abbrev pub ReadsWhole : List ℕ → Tree → ℕ → Type 0
  ReadsWhole w t d =
      (n deep : ℕ) (s : State Part) (l : List ℕ) → At text s (w ++ l) → SumEnds l → 5 * length (w ++ l) + 4 ≤ n →
      sum_at (spelled text) text n deep s ≡ after w t d deep s

  -- a chain ends where no operator follows
  module _ {deep byte kind level : ℕ} {operand rest whole : ℕ → State Part → State Part}
      (C : Chain (spelled text) text deep byte kind level operand rest whole) where
    rest_end : (n : ℕ) (s : State Part) (l : List ℕ) → At text s l → eqb (get_or l 0 0) byte ≡ false → 1 ≤ n → rest n s ≡ s
    rest_end zero s l a e h = absurd (omega arith)
    rest_end (suc n) s l a e h = C.goes_on n s ∙ rw (next_of a, e) refl

    -- and goes on where one more operand follows
    one_more_lem : (o : Binary) → plain_part kind ≡ two o → (w v : List ℕ) (t u : Tree) (d e n : ℕ) (s : State Part) (l : List ℕ) →
        At text s (w ++ (byte ∷ (v ++ l))) →
        operand n (stepped 1 (after w t d deep s)) ≡ after v u e deep (stepped 1 (after w t d deep s)) →
        rest (suc n) (after w t d deep s) ≡ rest n (after (w ++ (byte ∷ v)) (binary o t u) (max d e) deep s)
    one_more_lem o p w v t u d e n s l a q =
        C.goes_on n (after w t d deep s)
        ∙ rw (eq-eqb _ _ (next_of (after_at w t d deep a)), q, joined o w v t u d e byte kind deep s p) refl

  pub whole : (w : List ℕ) (t : Tree) (d : ℕ) → ReadsSum w t d → ReadsWhole w t d
  whole w t d r n deep s l a e h =
      let q = r n deep s l a e.name e.dot h in
      q.2 ∙ rest_end plus q.0 (after w t d deep s) l (after_at w t d deep a) e.plus (omega (arith, q.1))

  pub sum_of_product : (w : List ℕ) (t : Tree) (d : ℕ) → ReadsProduct w t d → ReadsSum w t d
  unfolding sum_at
  sum_of_product w t d r zero deep s l a e e2 h = absurd (omega arith)
  sum_of_product w t d r (suc n) deep s l a e e2 h =
      let q = r n deep s l a e (omega arith) in (
        n,
        omega (arith, length-append w l),
        ap (sums_at (spelled text) text n deep) (q.2
            ∙ rest_end times q.0 (after w t d deep s) l (after_at w t d deep a) e2 (omega (arith, q.1))),
      )

  pub product_of_factor : (w : List ℕ) (t : Tree) (d : ℕ) → ReadsFactor w t d → ReadsProduct w t d
  unfolding product_at
  product_of_factor w t d r zero deep s l a e h = absurd (omega arith)
  product_of_factor w t d r (suc n) deep s l a e h =
      (n, omega (arith, length-append w l), rw (r n deep s l a e (omega arith)) refl)

  plus_step : (w v : List ℕ) (t u : Tree) (d e : ℕ) → ReadsProduct v u e →
      (k deep : ℕ) (s : State Part) (l : List ℕ) → At text s (w ++ (43 ∷ (v ++ l))) → NameEnds l → eqb (get_or l 0 0) 46 ≡ false →
      5 * length (43 ∷ (v ++ l)) + 1 ≤ k →
      (j : ℕ) × (5 * length l + 1 ≤ j) × (sums_at (spelled text) text k deep (after w t d deep s)
      ≡ sums_at (spelled text) text j deep (after (w ++ (43 ∷ v)) (binary or t u) (max d e) deep s))
  plus_step w v t u d e r zero deep s l a f g h = absurd (omega arith)
  plus_step w v t u d e r (suc k) deep s l a f g h =
      let b = after_at w t d deep a in
      let q = r k deep (stepped 1 (after w t d deep s)) l (step_at b) f (omega arith) in (
        k,
        omega (arith, length-append v l),
        one_more_lem plus or refl w v t u d e k s l a (q.2
            ∙ rest_end times q.0 (after v u e deep (stepped 1 (after w t d deep s))) l (after_at v u e deep (step_at b)) g
            (omega (arith, q.1))),
      )

  pub plus_reads : (w v : List ℕ) (t u : Tree) (d e : ℕ) → ReadsSum w t d → ReadsProduct v u e →
      ReadsSum (w ++ (43 ∷ v)) (binary or t u) (max d e)
  unfolding name_byte letter digit
  plus_reads w v t u d e r x n deep s l a f g h =
      let a2 : At text s (w ++ (43 ∷ (v ++ l))) = rw append_assoc at a in
      let q = r n deep s (43 ∷ (v ++ l)) a2 refl refl (rw append_assoc at h) in
      let z = plus_step w v t u d e x q.0 deep s l a2 f g q.1 in
      (z.0, z.1, q.2 ∙ z.2)

  dot_step : (w v : List ℕ) (t u : Tree) (d e : ℕ) → ReadsFactor v u e →
      (k deep : ℕ) (s : State Part) (l : List ℕ) → At text s (w ++ (46 ∷ (v ++ l))) → NameEnds l →
      5 * length (46 ∷ (v ++ l)) + 1 ≤ k →
      (j : ℕ) × (5 * length l + 1 ≤ j) × (products_at (spelled text) text k deep (after w t d deep s)
      ≡ products_at (spelled text) text j deep (after (w ++ (46 ∷ v)) (binary and t u) (max d e) deep s))
  dot_step w v t u d e r zero deep s l a f h = absurd (omega arith)
  dot_step w v t u d e r (suc k) deep s l a f h =
      let q = r k deep (stepped 1 (after w t d deep s)) l (step_at (after_at w t d deep a)) f (omega arith) in
      (k, omega (arith, length-append v l), one_more_lem times and refl w v t u d e k s l a q)

  pub dot_reads : (w v : List ℕ) (t u : Tree) (d e : ℕ) → ReadsProduct w t d → ReadsFactor v u e →
      ReadsProduct (w ++ (46 ∷ v)) (binary and t u) (max d e)
  unfolding name_byte letter digit
  dot_reads w v t u d e r x n deep s l a f h =
      let a2 : At text s (w ++ (46 ∷ (v ++ l))) = rw append_assoc at a in
      let q = r n deep s (46 ∷ (v ++ l)) a2 refl (rw append_assoc at h) in
      let z = dot_step w v t u d e x q.0 deep s l a2 f q.1 in
      (z.0, z.1, q.2 ∙ z.2)

  -- ! ^ ~
  pub prefix_reads : (b kind : ℕ) (o : Unary) → prefix_kind b ≡ kind → ltb 0 kind ≡ true → plain_part kind ≡ one o → ticks_of o ≡ 0 →
      (w : List ℕ) (t : Tree) (d : ℕ) → ReadsFactor w t d → ReadsFactor (b ∷ w) (unary o t) (d + 1)
  unfolding factor_at
  prefix_reads b kind o pk pos pp tk w t d r zero deep s l a f h = absurd (omega arith)
  prefix_reads b kind o pk pos pp tk w t d r (suc n) deep s l a f h =
      rw (next_of a, pk, pos, r n (deep + 1) (stepped 1 s) l (step_at a) f (omega arith)) (prefixed b kind o pp tk w t d deep s)

  pub brackets_reads : (w : List ℕ) (t : Tree) (d : ℕ) → ReadsWhole w t d → ReadsFactor (40 ∷ (w ++ (41 ∷ []))) t (d + 1)
  unfolding factor_at prefix_kind
  brackets_reads w t d r zero deep s l a f h = absurd (omega arith)
  brackets_reads w t d r (suc n) deep s l a f h =
      let a2 : At text s (40 ∷ (w ++ (41 ∷ l))) = rw append_assoc at a in
      let h2 : length ((w ++ (41 ∷ [])) ++ l) ≡ length (w ++ (41 ∷ l)) = ap length (append_assoc w (41 ∷ []) l) in
      let b = step_at a2 in
      rw (next_of a, r n (deep + 1) (stepped 1 s) (41 ∷ l) b (closed l) (omega arith), expect_at (after_at w t d (deep + 1) b))
      (bracketed w t d deep s)

  pub zero_reads : ReadsFactor (48 ∷ []) (leaf down) 0
  unfolding factor_at prefix_kind starts block_kind leaf_at put after stepped code longest
  zero_reads zero deep s l a f h = absurd (omega arith)
  zero_reads (suc n) deep s l a f h = rw (next_of a, block_of a, a.fine) (state_eq refl refl refl (omega arith) refl)

  pub one_reads : ReadsFactor (49 ∷ []) (leaf up) 0
  unfolding factor_at prefix_kind starts block_kind leaf_at put after stepped code longest
  one_reads zero deep s l a f h = absurd (omega arith)
  one_reads (suc n) deep s l a f h = rw (next_of a, block_of a, a.fine) (state_eq refl refl refl (omega arith) refl)

  name_step : (b : ℕ) (bs : List ℕ) → letter b ≡ true → all_of name_byte bs ≡ true → length bs ≤ 7 →
      ReadsFactor (b ∷ bs) (leaf (name (b ∷ bs))) 0
  unfolding factor_at leaf_at put after stepped code longest name_at all_of name_byte
  name_step b bs low all short zero deep s l a f h = absurd (omega arith)
  name_step b bs low all short (suc n) deep s l a f h =
      let k = lower_not b low in
      let every : all_of name_byte (b ∷ bs) ≡ true = rw low all in
      rw (
        next_of a,
        k.prefix,
        k.bracket,
        block_of a,
        k.block (bs ++ l),
        k.zero,
        k.one,
        low,
        a.left,
        run_all name_byte (b ∷ bs) l every f,
        le-leb (length (b ∷ bs)) 8 (omega arith),
        a.fine,
        take-append_seam (b ∷ bs) l,
      )
      (state_eq refl refl refl (omega arith) refl)

  pub named_reads : (w : List ℕ) → well_named w ≡ true → ReadsFactor w (leaf (name w)) 0
  unfolding well_named
  named_reads [] e n deep s l a f h = never e
  named_reads (b ∷ bs) e n deep s l a f h =
      let rest = and_right (leb (length (b ∷ bs)) 8) (letter b && all_of name_byte bs) e in
      let short = leb-true (length (b ∷ bs)) 8 (and_left (leb (length (b ∷ bs)) 8) (letter b && all_of name_byte bs) e) in
      name_step b bs (and_left (letter b) (all_of name_byte bs) rest) (and_right (letter b) (all_of name_byte bs) rest)
      (omega arith) n deep s l a f h

  -- a latch after its word and bracket
  pub latch_reads : (kind : ℕ) (o : Binary) → plain_part kind ≡ two o → (w v : List ℕ) (t u : Tree) (d e : ℕ) → ReadsWhole w t d →
      ReadsWhole v u e →
      (n deep : ℕ) (s : State Part) (l : List ℕ) → At text s (w ++ (44 ∷ (v ++ (41 ∷ l)))) →
      5 * length (w ++ (44 ∷ (v ++ (41 ∷ l)))) + 5 ≤ n →
      latch_at (spelled text) text n kind deep s ≡ after (w ++ (44 ∷ (v ++ (41 ∷ [])))) (binary o t u) (max d e + 1) deep s
  unfolding latch_at
  latch_reads kind o p w v t u d e r q zero deep s l a h = absurd (omega arith)
  latch_reads kind o p w v t u d e r q (suc n) deep s l a h =
      let h2 = length-append w (44 ∷ (v ++ (41 ∷ l))) in
      let a3 = after_at w t d (deep + 1) a in
      let a4 = step_at a3 in
      let a5 = after_at v u e (deep + 1) a4 in
      rw (
        r n (deep + 1) s (44 ∷ (v ++ (41 ∷ l))) a (parted (v ++ (41 ∷ l))) (omega arith),
        expect_at a3,
        q n (deep + 1) (stepped 1 (after w t d (deep + 1) s)) (41 ∷ l) a4 (closed l) (omega arith),
        expect_at a5,
      )
      (latched kind o p w v t u d e deep s)

  -- a length
  length_step : (b : ℕ) (bs l : List ℕ) (s : State Part) → digit b ≡ true → all_of digit bs ≡ true → (z : Bool) → eqb b 48 ≡ z →
      eqb (length bs) 0 || not z ≡ true → At text s ((b ∷ bs) ++ (44 ∷ l)) → pass_length text s ≡ stepped (length (b ∷ bs)) s
  unfolding pass_length all_of digit
  length_step b [] l s dig all true z e a = rw (next_of a, z) refl
  length_step b (c ∷ bs) l s dig all true z e a = never (rw eqb-suc-zero at e)
  length_step b bs l s dig all false z e a =
      let every : all_of digit (b ∷ bs) ≡ true = rw dig all in
      rw (next_of a, z, dig, a.left, run_all digit (b ∷ bs) (44 ∷ l) every refl) refl

  pub length_reads : (w l : List ℕ) (s : State Part) → is_length w ≡ true → At text s (w ++ (44 ∷ l)) →
      pass_length text s ≡ stepped (length w) s
  unfolding is_length
  length_reads [] l s e a = never e
  length_reads (b ∷ bs) l s e a =
      let rest = and_right (digit b) (all_of digit bs && (eqb (length bs) 0 || not (eqb b 48))) e in
      length_step b bs l s (and_left (digit b) (all_of digit bs && (eqb (length bs) 0 || not (eqb b 48))) e)
      (and_left (all_of digit bs) (eqb (length bs) 0 || not (eqb b 48)) rest) (eqb b 48) refl
      (and_right (all_of digit bs) (eqb (length bs) 0 || not (eqb b 48)) rest) a

  -- a timer after its word and bracket
  pub timer_reads : (kind : ℕ) (w v : List ℕ) (o : Unary) → timed_part kind (value w) ≡ one o → ticks_of o ≡ value w → (t : Tree) (d : ℕ) →
      is_length w ≡ true → ReadsWhole v t d →
      (n deep : ℕ) (s : State Part) (l : List ℕ) → At text s (w ++ (44 ∷ (v ++ (41 ∷ l)))) →
      5 * length (w ++ (44 ∷ (v ++ (41 ∷ l)))) + 5 ≤ n →
      timer_at (spelled text) text n kind deep s ≡ after (w ++ (44 ∷ (v ++ (41 ∷ [])))) (unary o t) (d + 1) deep s
  unfolding timer_at timed stepped value_between
  timer_reads kind w v o p tk t d e q zero deep s l a h = absurd (omega arith)
  timer_reads kind w v o p tk t d e q (suc n) deep s l a h =
      let h2 = length-append w (44 ∷ (v ++ (41 ∷ l))) in
      let a3 = steps_at w a in
      let a4 = step_at a3 in
      let a5 = after_at v t d (deep + 1) a4 in
      let gap : (s.at + length w) - s.at ≡ length w = omega arith in
      rw (
        length_reads w (v ++ (41 ∷ l)) s e a,
        expect_at a3,
        q n (deep + 1) (stepped 1 (stepped (length w) s)) (41 ∷ l) a4 (closed l) (omega arith),
        expect_at a5,
        gap,
        a.left,
        take-append_seam w (44 ∷ (v ++ (41 ∷ l))),
      )
      (clocked kind (value w) o p tk w v t d deep s)

  -- a word that begins a block of the kind
  pub record Word (word : List ℕ) (kind : ℕ) : Type 0 where
    pub some : 0 < kind
    pub long : 3 ≤ length word
    pub bytes : block_bytes kind ≡ length word
    pub begins : (l : List ℕ) → (prefix_kind (get_or (word ++ l) 0 0) ≡ 0) × (eqb (get_or (word ++ l) 0 0) 40 ≡ false) ×
        (block_kind (word ++ l) ≡ kind)

  pub word_next : {word : List ℕ} {kind : ℕ} → Word word kind → (s : State Part) (l : List ℕ) → At text s (word ++ l) →
      BlockNext text s kind
  word_next c s l a =
      let b = c.begins l in
      record {
        no_prefix = ap prefix_kind (next_of a) ∙ b.0;
        no_bracket = ap (λ (x : ℕ). eqb x 40) (next_of a) ∙ b.1;
        here = block_of a ∙ b.2;
        some = c.some;
      }

  -- the bytes of a block and those after it, grouped
  grouped : (word w v l : List ℕ) → (word ++ (w ++ (44 ∷ (v ++ (41 ∷ []))))) ++ l ≡ word ++ (w ++ (44 ∷ (v ++ (41 ∷ l))))
  grouped word w v l = append_assoc word (w ++ (44 ∷ (v ++ (41 ∷ [])))) l ∙ ap (λ (x : List ℕ). word ++ x) (regroup w v l)

  pub latch_word : (word : List ℕ) (kind : ℕ) (o : Binary) → Word word kind → kinds.AND ≤ kind → plain_part kind ≡ two o →
      (w v : List ℕ) (t u : Tree) (d e : ℕ) →
      ReadsWhole w t d → ReadsWhole v u e → ReadsFactor (word ++ (w ++ (44 ∷ (v ++ (41 ∷ []))))) (binary o t u) (max d e + 1)
  latch_word word kind o c high p w v t u d e r q zero deep s l y f h = absurd (omega arith)
  latch_word word kind o c high p w v t u d e r q (suc n) deep s l y f h =
      let g = grouped word w v l in
      let h2 = ap length g ∙ length-append word (w ++ (44 ∷ (v ++ (41 ∷ l)))) in
      let y2 : At text s (word ++ (w ++ (44 ∷ (v ++ (41 ∷ l))))) = rw g at y in
      latch_is (spelled text) deep n (word_next c s (w ++ (44 ∷ (v ++ (41 ∷ l)))) y2) high
      ∙ ap (λ (k : ℕ). latch_at (spelled text) text n kind deep (stepped k s)) c.bytes
      ∙ latch_reads kind o p w v t u d e r q n deep (stepped (length word) s) l (steps_at word y2) (omega (arith, c.long))
      ∙ worded word (w ++ (44 ∷ (v ++ (41 ∷ [])))) (binary o t u) (max d e + 1) deep s

  pub timer_word_lem : (word : List ℕ) (kind : ℕ) (o : ℕ → Unary) → Word word kind → kind < kinds.AND →
      ((k : ℕ) → timed_part kind k ≡ one (o k)) → ((k : ℕ) → ticks_of (o k) ≡ k) →
      (w v : List ℕ) (t : Tree) (d : ℕ) → is_length w ≡ true → ReadsWhole v t d →
      ReadsFactor (word ++ (w ++ (44 ∷ (v ++ (41 ∷ []))))) (unary (o (value w)) t) (d + 1)
  timer_word_lem word kind o c low p tk w v t d e q zero deep s l y f h = absurd (omega arith)
  timer_word_lem word kind o c low p tk w v t d e q (suc n) deep s l y f h =
      let g = grouped word w v l in
      let h2 = ap length g ∙ length-append word (w ++ (44 ∷ (v ++ (41 ∷ l)))) in
      let y2 : At text s (word ++ (w ++ (44 ∷ (v ++ (41 ∷ l))))) = rw g at y in
      timer_is (spelled text) deep n (word_next c s (w ++ (44 ∷ (v ++ (41 ∷ l)))) y2) low
      ∙ ap (λ (k : ℕ). timer_at (spelled text) text n kind deep (stepped k s)) c.bytes
      ∙ timer_reads kind w v (o (value w)) (p (value w)) (tk (value w)) t d e q n deep (stepped (length word) s) l (steps_at word y2)
      (omega (arith, c.long))
      ∙ worded word (w ++ (44 ∷ (v ++ (41 ∷ [])))) (unary (o (value w)) t) (d + 1) deep s

  pub sr_word : Word (83 ∷ 82 ∷ 40 ∷ []) kinds.SR
  unfolding prefix_kind starts block_kind block_bytes
  sr_word = record { some = omega arith; long = omega arith; bytes = refl; begins = λ l. (refl, refl, refl) }

  pub rs_word : Word (82 ∷ 83 ∷ 40 ∷ []) kinds.RS
  unfolding prefix_kind starts block_kind block_bytes
  rs_word = record { some = omega arith; long = omega arith; bytes = refl; begins = λ l. (refl, refl, refl) }

  pub ton_word : Word (84 ∷ 79 ∷ 78 ∷ 40 ∷ []) kinds.TON
  unfolding prefix_kind starts block_kind block_bytes
  ton_word = record { some = omega arith; long = omega arith; bytes = refl; begins = λ l. (refl, refl, refl) }

  pub tof_word : Word (84 ∷ 79 ∷ 70 ∷ 40 ∷ []) kinds.TOF
  unfolding prefix_kind starts block_kind block_bytes
  tof_word = record { some = omega arith; long = omega arith; bytes = refl; begins = λ l. (refl, refl, refl) }

  pub tp_word : Word (84 ∷ 80 ∷ 40 ∷ []) kinds.TP
  unfolding prefix_kind starts block_kind block_bytes
  tp_word = record { some = omega arith; long = omega arith; bytes = refl; begins = λ l. (refl, refl, refl) }

  -- by the rules of the grammar
  pub sum_reads : {w : List ℕ} {t : Tree} {d : ℕ} → Sum w t d → ReadsSum w t d
  unfolding prefix_kind timed_part
  sum_reads {w} {t} {d} x =
      elim x as (λ w t d x. ReadsSum w t d) (λ w t d x. ReadsProduct w t d) (λ w t d x. ReadsFactor w t d) [
        | Sum.product {w} {t} {d} (p → h) ↦ sum_of_product w t d h
        | Sum.plus {w} {v} {t} {u} {d} {e} (p → h) (q → k) ↦ plus_reads w v t u d e h k
        | Product.factor {w} {t} {d} (p → h) ↦ product_of_factor w t d h
        | Product.dot {w} {v} {t} {u} {d} {e} (p → h) (q → k) ↦ dot_reads w v t u d e h k
        | Factor.inverted {w} {t} {d} (p → h) ↦ prefix_reads 33 kinds.NOT invert refl refl refl refl w t d h
        | Factor.rising {w} {t} {d} (p → h) ↦ prefix_reads 94 kinds.RISING rise refl refl refl refl w t d h
        | Factor.falling {w} {t} {d} (p → h) ↦ prefix_reads 126 kinds.FALLING fall refl refl refl refl w t d h
        | Factor.brackets {w} {t} {d} (p → h) ↦ brackets_reads w t d (whole w t d h)
        | Factor.zero ↦ zero_reads
        | Factor.one ↦ one_reads
        | Factor.named {w} e ↦ named_reads w e
        | Factor.sr {w} {v} {t} {u} {d} {e} (p → h) (q →
            k) ↦ latch_word (83 ∷ 82 ∷ 40 ∷ []) kinds.SR sr sr_word (omega arith) refl w v t u d e (whole w t d h) (whole v u e k)
        | Factor.rs {w} {v} {t} {u} {d} {e} (p → h) (q →
            k) ↦ latch_word (82 ∷ 83 ∷ 40 ∷ []) kinds.RS rs rs_word (omega arith) refl w v t u d e (whole w t d h) (whole v u e k)
        | Factor.ton w {v} {t} {d} e (p →
            h) ↦ timer_word_lem (84 ∷ 79 ∷ 78 ∷ 40 ∷ []) kinds.TON ton ton_word (omega arith) (λ k. refl) (λ k. refl) w v t d e
            (whole v t d h)
        | Factor.tof w {v} {t} {d} e (p →
            h) ↦ timer_word_lem (84 ∷ 79 ∷ 70 ∷ 40 ∷ []) kinds.TOF tof tof_word (omega arith) (λ k. refl) (λ k. refl) w v t d e
            (whole v t d h)
        | Factor.tp w {v} {t} {d} e (p →
            h) ↦ timer_word_lem (84 ∷ 80 ∷ 40 ∷ []) kinds.TP tp tp_word (omega arith) (λ k. refl) (λ k. refl) w v t d e (whole v t d h)
      ]
