-- Where some formula begins with the first bytes of a text, reading does not stop before their end.
use Prim.Native.Nat.{ℕ, zero, suc, ◌+◌, ◌*◌, ◌≤◌, ◌<◌, max}
use native.Mathlib.Omega.{arith}
use mathlib.Core.Path.{◌≡◌, refl, sym, ap, subst}
use mathlib.Core.Bool.{true}
use mathlib.Core.List.{List, [], ◌∷◌, ◌++◌, append_assoc}
use lib.Dec.{ltb}
use lib.ListN.{length, take, drop, take-append-drop}
use lib.Seq.{length-take-le, take-append_seam}
use Rattle.names.specs.Names.{digit, letter, name_byte}
use Rattle.texts.specs.Lengths.{is_length, value}
use Rattle.grammar.specs.Tree.{Tree, Unary, Binary, unary, binary, invert, rise, fall, ton, tof, tp, and, sr, rs}
use Rattle.grammar.specs.Code.{one, two, ticks_of}
use Rattle.grammar.specs.Grammar.{Sum, Product, Factor}
use Rattle.grammar.specs.Kinds as kinds
use Rattle.grammar.specs.Reader.{stepped, prefix_kind, start, read_text, sum_at, factor_at, latch_at, timer_at}
use Rattle.grammar.specs.Formula.{spelled, stop_of}
use Rattle.grammar.specs.PartWords.{plain_part, timed_part}
use Rattle.grammar.proofs.Standing.{next_of, step_at}
use Rattle.grammar.proofs.Branches.{plus, times, latch_is, timer_is}
use Rattle.grammar.proofs.Complete.{ReadsFactor, ReadsProduct, whole, sum_reads, product_of_factor, dot_reads, prefix_reads}
use Rattle.grammar.proofs.Complete.{brackets_reads, zero_reads, one_reads, named_reads, latch_word, timer_word_lem}
use Rattle.beginnings.specs.Beginnings.{Begins}
use Rattle.beginnings.proofs.Monotone.{on, put_on}
use Rattle.beginnings.proofs.Coming.{Comes, first_reaches, chain_reaches, ReachesSum, ReachesProduct, ReachesFactor, no_factor}
use Rattle.beginnings.proofs.ComingLeaves.{zero_reaches, one_reaches, named_reaches}
use Rattle.beginnings.proofs.ComingBlocks.{brackets_reaches, latch_reaches, timer_reaches}
use Rattle.beginnings.proofs.ComingWords.{Stem, block_reaches, sr_stem, rs_stem, ton_stem, tof_stem, tp_stem}

module _ (text : List ℕ) where
  -- what the reader reads whole where it stands whole, and of each front of which it comes to the end
  abbrev ComesFactor : List ℕ → Tree → ℕ → Type 0
  ComesFactor w t d = ReadsFactor text w t d × ReachesFactor text w

  abbrev ComesProduct : List ℕ → Tree → ℕ → Type 0
  ComesProduct w t d = ReadsProduct text w t d × ReachesProduct text w

  -- chains of one operand
  sum_first : (w : List ℕ) → ReachesProduct text w → ReachesSum text w
  sum_first w r deep = first_reaches text plus (λ k n s h. (on (spelled text) text n).sums k deep s h) w (r deep)

  product_first : (w : List ℕ) (t : Tree) (d : ℕ) → ComesFactor w t d → ComesProduct w t d
  product_first w t d r = (
    product_of_factor text w t d r.0,
    λ deep. first_reaches text times (λ k n s h. (on (spelled text) text n).products k deep s h) w (r.1 deep),
  )

  -- + and . before one more operand
  plus_comes : (w v : List ℕ) (t : Tree) (d : ℕ) → Sum w t d → ReachesSum text w → ReachesProduct text v →
      ReachesSum text (w ++ (43 ∷ v))
  unfolding name_byte letter digit
  plus_comes w v t d x r q deep =
      chain_reaches text plus (λ k n s h. (on (spelled text) text n).sums k deep s h) w v t d (r deep)
      (λ n s l a h. sum_reads text x n deep s (43 ∷ l) a refl refl h) (q deep)

  dot_comes : (w v : List ℕ) (t u : Tree) (d e : ℕ) → ComesProduct w t d → ComesFactor v u e →
      ComesProduct (w ++ (46 ∷ v)) (binary and t u) (max d e)
  unfolding name_byte letter digit
  dot_comes w v t u d e r q = (
    dot_reads text w v t u d e r.0 q.0,
    λ deep. chain_reaches text times (λ k n s h. (on (spelled text) text n).products k deep s h) w v t d (r.1 deep)
        (λ n s l a h. r.0 n deep s (46 ∷ l) a refl h) (q.1 deep),
  )

  -- ! ^ ~
  prefix_reaches : (b kind : ℕ) → prefix_kind b ≡ kind → ltb 0 kind ≡ true → (w : List ℕ) → ReachesFactor text w → ReachesFactor text
      (b ∷ w)
  unfolding factor_at stepped
  prefix_reaches b kind pk pos w r deep zero n s l a h = no_factor text deep n s l a h
  prefix_reaches b kind pk pos w r deep (suc k) zero s l a h = absurd (omega arith)
  prefix_reaches b kind pk pos w r deep (suc k) (suc n) s l a h =
      let z = r (deep + 1) k n (stepped 1 s) l (step_at a) (omega arith) in
      rw (next_of a, pk, pos)
      (put_on (spelled text) text (s.at + suc (length (take k w))) (plain_part kind) deep 0
      (factor_at (spelled text) text n (deep + 1) (stepped 1 s)) (omega arith))

  prefix_comes : (b kind : ℕ) (o : Unary) → prefix_kind b ≡ kind → ltb 0 kind ≡ true → plain_part kind ≡ one o → ticks_of o ≡ 0 →
      (w : List ℕ) (t : Tree) (d : ℕ) → ComesFactor w t d → ComesFactor (b ∷ w) (unary o t) (d + 1)
  prefix_comes b kind o pk pos pp tk w t d r =
      (prefix_reads text b kind o pk pos pp tk w t d r.0, prefix_reaches b kind pk pos w r.1)

  brackets_comes : (w : List ℕ) (t : Tree) (d : ℕ) → Sum w t d → ReachesSum text w → ComesFactor (40 ∷ (w ++ (41 ∷ []))) t (d + 1)
  brackets_comes w t d x r = (brackets_reads text w t d (whole text w t d (sum_reads text x)), brackets_reaches text w t d x r)

  -- blocks, by their words
  latch_comes : (b : ℕ) (stem : List ℕ) (kind : ℕ) (o : Binary) → Stem text b stem kind → kinds.AND ≤ kind → plain_part kind ≡ two o →
      (w v : List ℕ) (t u : Tree) (d e : ℕ) → Sum w t d → ReachesSum text w → Sum v u e → ReachesSum text v →
      ComesFactor (b ∷ (stem ++ (40 ∷ (w ++ (44 ∷ (v ++ (41 ∷ []))))))) (binary o t u) (max d e + 1)
  latch_comes b stem kind o c high p w v t u d e x r y q = (
    subst (λ (z : List ℕ). ReadsFactor text (b ∷ z) (binary o t u) (max d e + 1))
        (append_assoc stem (40 ∷ []) (w ++ (44 ∷ (v ++ (41 ∷ [])))))
        (latch_word text (b ∷ (stem ++ (40 ∷ []))) kind o c.word high p w v t u d e (whole text w t d (sum_reads text x))
        (whole text v u e (sum_reads text y))),
    λ deep. block_reaches text b stem kind c deep (λ n. latch_at (spelled text) text n kind deep)
        (λ n s z. latch_is (spelled text) deep n z high) (w ++ (44 ∷ (v ++ (41 ∷ []))))
        (latch_reaches text kind w v t u d e x r y q deep),
  )

  timer_comes : (b : ℕ) (stem : List ℕ) (kind : ℕ) (o : ℕ → Unary) → Stem text b stem kind → kind < kinds.AND →
      ((k : ℕ) → timed_part kind k ≡ one (o k)) → ((k : ℕ) → ticks_of (o k) ≡ k) →
      (w v : List ℕ) (t : Tree) (d : ℕ) → is_length w ≡ true → Sum v t d → ReachesSum text v →
      ComesFactor (b ∷ (stem ++ (40 ∷ (w ++ (44 ∷ (v ++ (41 ∷ []))))))) (unary (o (value w)) t) (d + 1)
  timer_comes b stem kind o c low p tk w v t d e x r = (
    subst (λ (z : List ℕ). ReadsFactor text (b ∷ z) (unary (o (value w)) t) (d + 1))
        (append_assoc stem (40 ∷ []) (w ++ (44 ∷ (v ++ (41 ∷ [])))))
        (timer_word_lem text (b ∷ (stem ++ (40 ∷ []))) kind o c.word low p tk w v t d e (whole text v t d (sum_reads text x))),
    λ deep. block_reaches text b stem kind c deep (λ n. timer_at (spelled text) text n kind deep)
        (λ n s z. timer_is (spelled text) deep n z low) (w ++ (44 ∷ (v ++ (41 ∷ []))))
        (timer_reaches text kind w v t d e x r deep),
  )

  -- by the rules of the grammar
  pub sum_reaches : {w : List ℕ} {t : Tree} {d : ℕ} → Sum w t d → ReachesSum text w
  unfolding prefix_kind timed_part
  sum_reaches {w} {t} {d} x =
      elim x as (λ w t d x. ReachesSum text w) (λ w t d x. ComesProduct w t d) (λ w t d x. ComesFactor w t d) [
        | Sum.product {w} {t} {d} (p → h) ↦ sum_first w h.1
        | Sum.plus {w} {v} {t} {u} {d} {e} (p → h) (q → k) ↦ plus_comes w v t d p h k.1
        | Product.factor {w} {t} {d} (p → h) ↦ product_first w t d h
        | Product.dot {w} {v} {t} {u} {d} {e} (p → h) (q → k) ↦ dot_comes w v t u d e h k
        | Factor.inverted {w} {t} {d} (p → h) ↦ prefix_comes 33 kinds.NOT invert refl refl refl refl w t d h
        | Factor.rising {w} {t} {d} (p → h) ↦ prefix_comes 94 kinds.RISING rise refl refl refl refl w t d h
        | Factor.falling {w} {t} {d} (p → h) ↦ prefix_comes 126 kinds.FALLING fall refl refl refl refl w t d h
        | Factor.brackets {w} {t} {d} (p → h) ↦ brackets_comes w t d p h
        | Factor.zero ↦ (zero_reads text, zero_reaches text)
        | Factor.one ↦ (one_reads text, one_reaches text)
        | Factor.named {w} e ↦ (named_reads text w e, named_reaches text w e)
        | Factor.sr {w} {v} {t} {u} {d} {e} (p → h) (q →
            k) ↦ latch_comes 83 (82 ∷ []) kinds.SR sr (sr_stem text) (omega arith) refl w v t u d e p h q k
        | Factor.rs {w} {v} {t} {u} {d} {e} (p → h) (q →
            k) ↦ latch_comes 82 (83 ∷ []) kinds.RS rs (rs_stem text) (omega arith) refl w v t u d e p h q k
        | Factor.ton w {v} {t} {d} e (p →
            h) ↦ timer_comes 84 (79 ∷ 78 ∷ []) kinds.TON ton (ton_stem text) (omega arith) (λ k. refl) (λ k. refl) w v t d e p h
        | Factor.tof w {v} {t} {d} e (p →
            h) ↦ timer_comes 84 (79 ∷ 70 ∷ []) kinds.TOF tof (tof_stem text) (omega arith) (λ k. refl) (λ k. refl) w v t d e p h
        | Factor.tp w {v} {t} {d} e (p →
            h) ↦ timer_comes 84 (80 ∷ []) kinds.TP tp (tp_stem text) (omega arith) (λ k. refl) (λ k. refl) w v t d e p h
      ]

-- the text's first k bytes are a front of a formula, and the reader begins before them
pub begins_reached : (w : List ℕ) (k : ℕ) → k ≤ length w → Begins (take k w) → k ≤ stop_of w
unfolding stop_of read_text
begins_reached w k h b =
    let x = take k w in
    let e : x ++ drop k w ≡ w = take-append-drop k w in
    let f : take (length x) (x ++ b.0) ≡ x = take-append_seam x b.0 in
    let size : length x ≡ k = length-take-le k w h in
    let comes : Comes w (λ n. sum_at (spelled w) w n 0) 4 x =
    subst (Comes w (λ n. sum_at (spelled w) w n 0) 4) f (sum_reaches w b.3 0 (length x)) in
    let z = comes (5 * length w + 4) start (drop k w) (record { fine = refl; left = sym e }) (omega (arith, ap length e)) in
    omega arith
