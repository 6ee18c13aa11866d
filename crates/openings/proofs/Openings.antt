-- What begins a factor, by its kind: which bytes are next, and how many.
use Prim.Native.Nat.{ℕ, zero, suc, ◌+◌, ◌≤◌, ◌<◌, max}
use native.Mathlib.Omega.{arith}
use native.Mathlib.Decide.{dec_lt}
use mathlib.Core.Path.{◌≡◌, refl, sym, ap, ◌∙◌, subst}
use mathlib.Core.Bool.{true, false, cond, ◌||◌}
use mathlib.Core.List.{List, [], ◌∷◌}
use lib.Dec.{ltb, eqb}
use lib.ListN.{length, drop, length-append, length-drop}
use borrow.Author.Tests.{eqb-true, ltb-true, ltb-false, eq-eqb, ne_eqb, lt-ltb, le-ltb}
use Rattle.names.specs.Names.{all_of}
use Rattle.grammar.specs.Reader.{prefix_kind, starts, block_kind, block_bytes}
use Rattle.grammar.specs.Kinds as kinds
use Rattle.marks.specs.declared.Mark.{Mark}
use Rattle.marks.specs.Marks.{next_mark}
use Rattle.openings.specs.Opening.{BRACKET, open_kind, open_bytes}
use Rattle.grammar.proofs.Bytes.{by_cond, by_block}
use Rattle.grammar.proofs.Standing.{front}
use Rattle.marks.proofs.Marking.{inside}

-- the kind of the block that is next
abbrev pub block_mark : List ℕ → Mark → ℕ
block_mark text m = cond m.ok (block_kind (drop m.at text)) 0

-- no prefix and no bracket is next; the block that is, if any, has the kind
abbrev pub Unopened : List ℕ → Mark → ℕ → Type 0
Unopened text m kind = (prefix_kind (next_mark text m) ≡ 0) × (eqb (next_mark text m) 40 ≡ false) × (block_mark text m ≡ kind)

-- what a kind says of the bytes at a mark
pub record Opens (text : List ℕ) (m : Mark) (kind : ℕ) : Type 0 where
  pub some : 0 < kind → 0 < open_bytes kind
  pub within : 0 < kind → m.at + open_bytes kind ≤ length text
  pub prefix : 0 < kind → kind < kinds.TON → prefix_kind (next_mark text m) ≡ kind
  pub one : 0 < kind → kind < kinds.TON → open_bytes kind ≡ 1
  pub bracket : kind ≡ BRACKET → next_mark text m ≡ 40
  pub leaf : kind ≡ 0 → Unopened text m kind
  pub block : kinds.FALLING < kind → (kind ≡ BRACKET → ⊥) → Unopened text m kind
  pub bytes : kinds.FALLING < kind → (kind ≡ BRACKET → ⊥) → open_bytes kind ≡ block_bytes kind

-- a byte with a prefix's kind is not 0
pub prefix_above : (b kind : ℕ) → prefix_kind b ≡ kind → 0 < kind → 0 < b
unfolding prefix_kind
prefix_above zero kind e h = absurd (omega arith)
prefix_above (suc b) kind e h = omega arith

prefix_most : (b : ℕ) → prefix_kind b < kinds.TON
unfolding prefix_kind
prefix_most b =
    by_cond (λ (k : ℕ). k < kinds.TON) (eqb b 33) (λ e. omega arith)
    (λ e. by_cond (λ (k : ℕ). k < kinds.TON) (eqb b 94) (λ e. omega arith)
    (λ e. by_cond (λ (k : ℕ). k < kinds.TON) (eqb b 126) (λ e. omega arith) (λ e. omega arith)))

-- a block's kind, and room for its word
record Blocks (text : List ℕ) (m : Mark) (kind : ℕ) : Type 0 where
  low : 0 < kind → kinds.FALLING < kind
  high : kind < BRACKET
  fits : 0 < kind → m.at + block_bytes kind ≤ length text

word_fits : (text : List ℕ) (m : Mark) (w : List ℕ) → all_of (ltb 0) w ≡ true → 0 < length w → starts w (drop m.at text) ≡ true →
    m.at + length w ≤ length text
word_fits text m w full some e =
    let q = ap length (front w (drop m.at text) full e) ∙ length-append w (drop (length w) (drop m.at text)) in
    omega (arith, q, length-drop m.at text)

blocks : (text : List ℕ) (m : Mark) → Blocks text m (block_mark text m)
unfolding block_bytes all_of
blocks text m =
    by_cond (Blocks text m) m.ok
    (λ o. by_block (Blocks text m) (drop m.at text)
    (of (83 ∷ 82 ∷ 40 ∷ []) kinds.SR refl (omega arith, omega arith, omega arith, refl))
    (of (82 ∷ 83 ∷ 40 ∷ []) kinds.RS refl (omega arith, omega arith, omega arith, refl))
    (of (84 ∷ 79 ∷ 78 ∷ 40 ∷ []) kinds.TON refl (omega arith, omega arith, omega arith, refl))
    (of (84 ∷ 79 ∷ 70 ∷ 40 ∷ []) kinds.TOF refl (omega arith, omega arith, omega arith, refl))
    (of (84 ∷ 80 ∷ 40 ∷ []) kinds.TP refl (omega arith, omega arith, omega arith, refl)) nothing)
    (λ o. nothing)
  where
    nothing : Blocks text m 0
    nothing = record { low = λ h. absurd (omega arith); high = omega arith; fits = λ h. absurd (omega arith) }

    of : (w : List ℕ) (kind : ℕ) → block_bytes kind ≡ length w
        → (kinds.FALLING < kind) × (kind < BRACKET) × (0 < length w) × (all_of (ltb 0) w ≡ true) →
        starts w (drop m.at text) ≡ true → Blocks text m kind
    of w kind q b e =
        record {
          low = λ h. b.0;
          high = b.1;
          fits = λ h. subst (λ (k : ℕ). m.at + k ≤ length text) (sym q) (word_fits text m w b.3 b.2 e);
        }

block_some : (kind : ℕ) → 0 < block_bytes kind
unfolding block_bytes
block_some kind = by_cond (λ (k : ℕ). 0 < k) (eqb kind kinds.TON || eqb kind kinds.TOF) (λ e. omega arith) (λ e. omega arith)

pub none_bytes : (kind : ℕ) → kind ≤ 0 → open_bytes kind ≡ 0
unfolding open_bytes
none_bytes kind h = rw (eq-eqb kind 0 (omega arith)) refl

module _ (text : List ℕ) (m : Mark) where
  of_prefix : (kind : ℕ) → prefix_kind (next_mark text m) ≡ kind → 0 < kind → kind < kinds.TON → Opens text m kind
  unfolding open_bytes
  of_prefix kind e pos low =
      let single : open_bytes kind ≡ 1 = rw (ne_eqb kind 0 (omega arith), lt-ltb kind kinds.TON low) refl in
      let i = inside text m (next_mark text m) refl (prefix_above (next_mark text m) kind e pos) in
      record {
        some = λ h. omega (arith, single);
        within = λ h. omega (arith, single, i.before);
        prefix = λ h l. e;
        one = λ h l. single;
        bracket = λ h. absurd (omega arith);
        leaf = λ h. absurd (omega arith);
        block = λ h o. absurd (omega arith);
        bytes = λ h o. absurd (omega arith);
      }

  of_bracket : next_mark text m ≡ 40 → Opens text m BRACKET
  unfolding open_bytes
  of_bracket e =
      let single : open_bytes BRACKET ≡ 1 = refl in
      let i = inside text m 40 e (omega arith) in
      record {
        some = λ h. omega (arith, single);
        within = λ h. omega (arith, single, i.before);
        prefix = λ h l. absurd (omega arith);
        one = λ h l. absurd (omega arith);
        bracket = λ h. e;
        leaf = λ h. absurd (omega arith);
        block = λ h o. absurd (o refl);
        bytes = λ h o. absurd (o refl);
      }

  of_block : (kind : ℕ) → Unopened text m kind → Blocks text m kind → Opens text m kind
  unfolding open_bytes
  of_block kind e b =
      record {
        some = λ h. omega (arith, same h, block_some kind);
        within = λ h. omega (arith, same h, b.fits h);
        prefix = λ h l. absurd (omega (arith, b.low h));
        one = λ h l. absurd (omega (arith, b.low h));
        bracket = λ h. absurd (omega (arith, b.high));
        leaf = λ h. e;
        block = λ h o. e;
        bytes = λ h o. same (omega arith);
      }
    where
      same : 0 < kind → open_bytes kind ≡ block_bytes kind
      same h =
          let low = b.low h in
          let high = b.high in
          rw (ne_eqb kind 0 (omega arith), le-ltb kind kinds.TON (omega arith), ne_eqb kind BRACKET (omega arith)) refl

  pub opens : Opens text m (open_kind text m)
  unfolding open_kind
  opens =
      by_cond (Opens text m) (ltb 0 (prefix_kind (next_mark text m)))
      (λ e. of_prefix (prefix_kind (next_mark text m)) refl (ltb-true 0 (prefix_kind (next_mark text m)) e)
      (prefix_most (next_mark text m)))
      (λ e. by_cond (Opens text m) (eqb (next_mark text m) 40) (λ f. of_bracket (eqb-true (next_mark text m) 40 f))
      (λ f.
      let p = ltb-false 0 (prefix_kind (next_mark text m)) e in
      of_block (block_mark text m) (omega arith, f, refl) (blocks text m)))

  -- what is next ends in the text; where nothing is, the place stays
  pub open_fits : m.at + open_bytes (open_kind text m) ≤ max m.at (length text)
  open_fits = go (dec_lt 0 (open_kind text m))
    where
      go : Dec (0 < open_kind text m) → m.at + open_bytes (open_kind text m) ≤ max m.at (length text)
      go (yes h) = omega (arith, opens.within h)
      go (no h) = omega (arith, none_bytes (open_kind text m) (omega (arith, h)))
