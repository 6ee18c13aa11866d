-- The paths through `leaf`, over plain values.
use Prim.Native.Nat.{ℕ, ◌+◌, ◌-◌, ◌≤◌, ◌<◌, min}
use native.Mathlib.Omega.{arith}
use native.Mathlib.Decide.{dec_lt}
use mathlib.Core.Path.{◌≡◌, refl, sym, ap, ◌∙◌}
use mathlib.Core.Bool.{Bool, true, false}
use mathlib.Core.List.{List}
use lib.Dec.{leb, eqb}
use lib.ListN.{length, drop, length-drop}
use borrow.Author.Tests.{eqb-true, lt-ltb, le-ltb}
use Rattle.names.specs.Names.{letter, name_byte}
use Rattle.grammar.specs.Reader.{run, bad, stepped, put, astray, leaf_at}
use Rattle.grammar.specs.Formula.{coded, name_word}
use Rattle.marks.specs.declared.Mark.{Mark}
use Rattle.marks.specs.Marks.{next_mark}
use Rattle.openings.specs.Opening.{reach_mark}
use Rattle.tokens.specs.Tokens.{leaf_end, leaf_word}
use Rattle.marks.proofs.Marking.{inside}
use Rattle.tokens.proofs.Runs.{letter_name, run_some, run_most, none_at_0}
use Rattle.moves.proofs.Stepping.{stray_fits}
use Rattle.moves.specs.Moves.{strayed, put_code, leaf_words, leaf_code, moved_to, put_words}
use Rattle.formulas.specs.Readers.{view_of, Ready, Done}
use Rattle.grammar.proofs.Bytes.{by_cond}
use Rattle.formulas.proofs.Doing.{view_next, kept, starting, moving_by, putting, becoming, turned}

abbrev pub LeafRead : List ℕ → ℕ → Mark → List ℕ → List ℕ → Mark → Type 0
LeafRead text deep m old new r = Done (λ n. leaf_at coded text deep) 0 text m old new r

-- the letters and digits from the mark on
abbrev count : List ℕ → Mark → ℕ
count text m = run name_byte (drop m.at text)

-- a constant or name has a byte, and ends in the text
record Leaf (text : List ℕ) (m : Mark) (n : ℕ) : Type 0 where
  some : m.at < n
  within : n ≤ length text

abbrev Ends : List ℕ → Mark → ℕ → Type 0
Ends text m n = 0 < n → Leaf text m n

leaf_bounds : (text : List ℕ) (m : Mark) → m.at ≤ length text → 0 < leaf_end text m → Leaf text m (leaf_end text m)
unfolding leaf_end
leaf_bounds text m h =
    by_cond (Ends text m) (eqb (next_mark text m) 48) (λ e pos. one_byte 48 (eqb-true (next_mark text m) 48 e) (omega arith))
    (λ e. by_cond (Ends text m) (eqb (next_mark text m) 49) (λ e pos. one_byte 49 (eqb-true (next_mark text m) 49 e) (omega arith))
    (λ e. by_cond (Ends text m) (letter (next_mark text m))
    (λ low. by_cond (Ends text m) (leb (count text m) 8) (λ e pos. name low) (λ e pos. absurd (omega arith)))
    (λ e pos. absurd (omega arith))))
  where
    one_byte : (b : ℕ) → next_mark text m ≡ b → 0 < b → Leaf text m (m.at + 1)
    one_byte b e pos = let i = inside text m b e pos in record { some = omega arith; within = omega (arith, i.before) }

    name : letter (next_mark text m) ≡ true → Leaf text m (m.at + count text m)
    name low =
        record {
          some = omega (arith, run_some name_byte text m (none_at_0 true) (letter_name (next_mark text m) low));
          within = omega (arith, run_most name_byte (drop m.at text), length-drop m.at text);
        }

module _ (text : List ℕ) (m : Mark) (deep : ℕ) (out : List ℕ) where
  -- what is put out for a constant or name
  leaf_put : 0 < leaf_end text m →
      leaf_at coded text deep (view_of m out)
      ≡ put (leaf_word (next_mark text m) m.at (leaf_end text m)) deep 0 (stepped (leaf_end text m - m.at) (view_of m out))
  unfolding leaf_at leaf_end leaf_word
  leaf_put h =
      go (eqb (next_mark text m) 48) refl (eqb (next_mark text m) 49) refl (letter (next_mark text m)) refl (leb (count text m) 8) refl h
    where
      after : (w k n : ℕ) → k ≡ n → put w deep 0 (stepped k (view_of m out)) ≡ put w deep 0 (stepped n (view_of m out))
      after w k n e = ap (λ (j : ℕ). put w deep 0 (stepped j (view_of m out))) e

      go : (p : Bool) → eqb (next_mark text m) 48 ≡ p → (q : Bool) → eqb (next_mark text m) 49 ≡ q → (r : Bool) →
          letter (next_mark text m) ≡ r →
          (s : Bool) → leb (count text m) 8 ≡ s → 0 < leaf_end text m →
          leaf_at coded text deep (view_of m out)
          ≡ put (leaf_word (next_mark text m) m.at (leaf_end text m)) deep 0 (stepped (leaf_end text m - m.at) (view_of m out))
      go true p q e r f s k pos = rw (view_next text m out, p) (after 0 1 (m.at + 1 - m.at) (omega arith))
      go false p true e r f s k pos = rw (view_next text m out, p, e) (after 1 1 (m.at + 1 - m.at) (omega arith))
      go false p false e true f true k pos =
          let n : count text m ≡ m.at + count text m - m.at = omega arith in
          rw (view_next text m out, p, e, f, k)
          (ap (λ (j : ℕ). put (name_word m.at j) deep 0 (stepped j (view_of m out))) n ∙ refl)
      go false p false e true f false k pos = let z : 0 < 0 = rw (p, e, f, k) at pos in absurd (omega arith)
      go false p false e false f s k pos = let z : 0 < 0 = rw (p, e, f) at pos in absurd (omega arith)

  leaf_none : leaf_end text m ≤ 0 → leaf_at coded text deep (view_of m out) ≡ astray text (view_of m out)
  unfolding leaf_at leaf_end
  leaf_none h =
      go (eqb (next_mark text m) 48) refl (eqb (next_mark text m) 49) refl (letter (next_mark text m)) refl (leb (count text m) 8) refl h
    where
      go : (p : Bool) → eqb (next_mark text m) 48 ≡ p → (q : Bool) → eqb (next_mark text m) 49 ≡ q → (r : Bool) →
          letter (next_mark text m) ≡ r →
          (s : Bool) → leb (count text m) 8 ≡ s → leaf_end text m ≤ 0 → leaf_at coded text deep (view_of m out) ≡ astray text
          (view_of m out)
      go true p q e r f s k none = let z : m.at + 1 ≤ 0 = rw p at none in absurd (omega arith)
      go false p true e r f s k none = let z : m.at + 1 ≤ 0 = rw (p, e) at none in absurd (omega arith)
      go false p false e true f true k none =
          let z : m.at + count text m ≤ 0 = rw (p, e, f, k) at none in
          absurd (omega (arith, run_some name_byte text m (none_at_0 true) (letter_name (next_mark text m) f)))
      go false p false e true f false k none = rw (view_next text m out, p, e, f, k) refl
      go false p false e false f s k none = rw (view_next text m out, p, e, f) refl

module _ (text old : List ℕ) (m : Mark) (deep : ℕ) (g : Ready text old m deep) where
  module _ (h : 0 < leaf_end text m) where
    ends : Leaf text m (leaf_end text m)
    ends = leaf_bounds text m g.within h

    past : Done (λ n s. stepped (leaf_end text m - m.at) s) 0 text m old old (moved_to m (leaf_end text m))
    past =
        let e : leaf_end text m ≡ m.at + (leaf_end text m - m.at) = omega (arith, ends.some) in
        turned refl (ap (moved_to m) e) (moving_by (leaf_end text m - m.at) (starting 0 g) (omega (arith, ends.some, ends.within)))

    strict : (moved_to m (leaf_end text m)).ok ≡ true →
        (moved_to m (leaf_end text m)).parts + m.at + 1 ≤ m.parts + (moved_to m (leaf_end text m)).at
    strict ok = omega (arith, ends.some)

    leaf_path : (w : ℕ) → w ≡ leaf_word (next_mark text m) (min m.at 1024) (min (leaf_end text m) 1024) → (x r : Mark) (new : List ℕ) →
        x ≡ moved_to m (leaf_end text m) → r ≡ put_words x deep 0 → new ≡ put_code x w old → LeafRead text deep m old new r
    leaf_path w e x r new q qr qn =
        let from : min m.at 1024 ≡ m.at = omega (arith, g.within, g.short) in
        let to : min (leaf_end text m) 1024 ≡ leaf_end text m = omega (arith, ends.within, g.short) in
        let e : w ≡ leaf_word (next_mark text m) m.at (leaf_end text m) = rw (from, to) at e in
        let d = putting w deep 0 g past strict in
        turned (qn ∙ ap (λ (y : Mark). put_code y w old) q) (qr ∙ ap (λ (y : Mark). put_words y deep 0) q)
        (becoming d (λ n out.
        leaf_put text m deep out h ∙ ap (λ (v : ℕ). put v deep 0 (stepped (leaf_end text m - m.at) (view_of m out))) (sym e)))

  bad_path : leaf_end text m ≤ 0 → (r : Mark) → r ≡ strayed text m → LeafRead text deep m old old r
  unfolding astray strayed reach_mark stepped bad
  bad_path h r q =
      turned refl q
      (becoming {G = λ n s. astray text s} (record {
        same = λ n h s v. kept (astray text) refl (λ out. refl) v;
        room = g.room;
        within = omega (arith, g.within, stray_fits text m h);
        on = omega arith;
        few = omega arith;
      })
      (λ n out. leaf_none text m deep out h))

-- what `leaf` leaves
pub leaf_leaves : {m : Mark} {text old new : List ℕ} {r : Mark} {deep : ℕ} → Ready text old m deep →
    (r ≡ leaf_words text m deep) × (new ≡ leaf_code text m old) → LeafRead text deep m old new r
unfolding leaf_words leaf_code
leaf_leaves {m} {text} {old} {new} {r} {deep} g q = go (dec_lt 0 (leaf_end text m))
  where
    go : Dec (0 < leaf_end text m) → LeafRead text deep m old new r
    go (yes some) =
        let e = lt-ltb 0 (leaf_end text m) some in
        leaf_path text old m deep g some _ refl (moved_to m (leaf_end text m)) r new refl (rw e at q.0) (rw e at q.1)
    go (no none) =
        let k : leaf_end text m ≤ 0 = omega (arith, none) in
        let e = le-ltb 0 (leaf_end text m) k in
        turned (rw e at q.1) refl (bad_path text old m deep g k r (rw e at q.0))
