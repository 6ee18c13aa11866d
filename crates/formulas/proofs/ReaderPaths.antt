-- The paths through the readers that call each other, over plain values: each is put together from its steps.
use Prim.Native.Nat.{ℕ, zero, suc, ◌+◌, ◌*◌, ◌-◌, ◌≤◌, ◌<◌}
use native.Mathlib.Nat.{add-zero}
use native.Mathlib.Omega.{arith}
use mathlib.Core.Path.{◌≡◌, refl, sym, ap, ◌∙◌, subst}
use mathlib.Core.Bool.{true}
use mathlib.Core.List.{List}
use lib.Dec.{eqb}
use lib.ListN.{length}
use borrow.Author.Tests.{lt-ltb}
use Rattle.grammar.specs.Reader.{State, stepped, expect, pass_length, value_between, prefix_kind, block_bytes, block_at, timed, sum_at}
use Rattle.grammar.specs.Reader.{factor_at}
use Rattle.grammar.specs.Reader.{latch_at, timer_at}
use Rattle.grammar.specs.Formula.{coded, timer_word}
use Rattle.texts.specs.Lengths.{capped}
use Rattle.marks.specs.declared.Mark.{Mark}
use Rattle.marks.specs.Marks.{next_mark}
use Rattle.grammar.specs.Kinds as kinds
use Rattle.openings.specs.Opening.{BRACKET, open_kind, open_bytes}
use Rattle.moves.specs.Moves.{length_ticks, put_code, length_passed, moved_to, put_words}
use Rattle.formulas.specs.Readers.{view_of, Ready, Done, SumRead, FactorRead, LatchRead, TimerRead}
use Rattle.marks.proofs.Marking.{inside}
use Rattle.openings.proofs.Openings.{block_mark, Opens, opens, prefix_above}
use Rattle.grammar.proofs.Branches.{BlockNext, latch_is, timer_is}
use Rattle.formulas.proofs.MarkSteps.{expect_mark}
use Rattle.formulas.proofs.LeafPaths.{LeafRead}
use Rattle.formulas.proofs.Doing.{view_next, view_length, ready_deeper, starting, turned, moving, moving_by, expecting, passing}
use Rattle.formulas.proofs.Doing.{calling, putting, closing, finishing, ticks_are}

-- a reader of the level, of measure t, began at m, where the byte b is next; x is past it
pub record Step (text old : List ℕ) (m : Mark) (deep level t b : ℕ) (x : Mark) : Type 0 where
  pub ready : Ready text old m deep
  pub falls : 5 * (length text - m.at) + deep + level ≡ t
  pub next : next_mark text m ≡ b
  pub some : 0 < b
  pub moved : x ≡ moved_to m (m.at + 1)

pub step : {text old : List ℕ} {m : Mark} {deep level t b : ℕ} {x : Mark} →
    (5 * (length text - m.at) + deep + level ≡ t) × Ready text old m deep →
    next_mark text m ≡ b → 0 < b → x ≡ moved_to m (m.at + 1) → Step text old m deep level t b x
step p e pos q = record { ready = p.1; falls = p.0; next = e; some = pos; moved = q }

module _ {text old : List ℕ} {m : Mark} {deep level t b : ℕ} {x : Mark} (k : Step text old m deep level t b x) where
  pub before : m.at < length text
  before = (inside text m b k.next k.some).before

  pub one_on : x.at ≡ m.at + 1
  one_on = ap (λ (y : Mark). y.at) k.moved

  pub past : (lev : ℕ) → Done (λ n s. stepped 1 s) lev text m old old x
  past lev = turned refl k.moved (moving (starting lev k.ready) before)

  -- a part after an operand that began past that byte has that byte of its own
  pub own_byte : {F : ℕ → State ℕ → State ℕ} {lev : ℕ} {mid : List ℕ} {y : Mark} → Done F lev text x old mid y → y.ok ≡ true →
      y.parts + m.at + 1 ≤ m.parts + y.at
  own_byte d h = omega (arith, d.few, one_on, ap (λ (y : Mark). y.parts) k.moved)

-- past the first byte of a factor
module _ {text old : List ℕ} {m : Mark} {deep t b : ℕ} {x : Mark} (k : Step text old m deep 2 t b x) where
  pub deeper_needs : {level : ℕ} → level ≤ 4 → (5 * (length text - x.at) + (deep + 1) + level < t) × Ready text old x (deep + 1)
  deeper_needs l = (omega (arith, one_on k, before k, k.falls), ready_deeper k.ready (past k 0) (omega (arith, one_on k)))

  deeper : {F : ℕ → State ℕ → State ℕ} {level : ℕ} {mid : List ℕ} {y : Mark} → level ≤ 5 → Done F level text x old mid y →
      Done (λ n s. F n (stepped 1 s)) 1 text m old mid y
  deeper l p = calling (past k 1) p (omega (arith, one_on k, before k))

  pub prefix_path : {mid new : List ℕ} {y r : Mark} (kind : ℕ) → kind ≡ prefix_kind b → 0 < kind → FactorRead text (deep + 1) x old mid y →
      (r ≡ put_words y deep 0) × (new ≡ put_code y kind mid) → FactorRead text deep m old new r
  unfolding factor_at
  prefix_path kind pk pos p w =
      finishing (turned w.1 w.0 (putting kind deep 0 k.ready (deeper (omega arith) p) (own_byte k p)))
      (λ n out. rw (view_next text m out, k.next, ← pk, lt-ltb 0 kind pos) refl)

-- an open bracket
pub brackets_path : {text old mid : List ℕ} {m : Mark} {deep t : ℕ} {x y r : Mark} → Step text old m deep 2 t 40 x →
    SumRead text (deep + 1) x old mid y →
    r ≡ expect_mark text 41 y → FactorRead text deep m old mid r
unfolding factor_at prefix_kind
brackets_path {text} {old} {m = m} k p w =
    finishing (turned refl w (expecting 41 (omega arith) (deeper k (omega arith) p))) (λ n out. rw (view_next text m out, k.next) refl)

pub positive : (n : ℕ) → (n ≡ 0 → ⊥) → 0 < n
positive zero h = absurd (h refl)
positive (suc n) h = omega arith

-- a factor's opening, of the kind first, is passed at x
pub record Opening (text old : List ℕ) (m : Mark) (deep t first : ℕ) (x : Mark) : Type 0 where
  pub ready : Ready text old m deep
  pub falls : 5 * (length text - m.at) + deep + 2 ≡ t
  pub kind : first ≡ open_kind text m
  pub moved : x ≡ moved_to m (m.at + open_bytes first)

module _ {text old : List ℕ} {m : Mark} {deep t first : ℕ} {x : Mark} (k : Opening text old m deep t first x) where
  says : Opens text m first
  says = subst (Opens text m) (sym k.kind) (opens text m)

  to : (n : ℕ) → open_bytes first ≡ n → x ≡ moved_to m (m.at + n)
  to n e = k.moved ∙ ap (λ (j : ℕ). moved_to m (m.at + j)) e

  pub prefix_step : (first ≡ 0 → ⊥) → first < kinds.TON → Step text old m deep 2 t (next_mark text m) x
  prefix_step some low =
      let pos = positive first some in
      step (k.falls, k.ready) refl (prefix_above (next_mark text m) first (says.prefix pos low) pos) (to 1 (says.one pos low))

  pub opened_prefix : {mid new : List ℕ} {y r : Mark} → (first ≡ 0 → ⊥) → first < kinds.TON → FactorRead text (deep + 1) x old mid y →
      (r ≡ put_words y deep 0) × (new ≡ put_code y first mid) → FactorRead text deep m old new r
  opened_prefix some low p w =
      let pos = positive first some in prefix_path (prefix_step some low) first (sym (says.prefix pos low)) pos p w

  pub bracket_step : first ≡ BRACKET → Step text old m deep 2 t 40 x
  unfolding open_bytes
  bracket_step e = step (k.falls, k.ready) (says.bracket e) (omega arith) (to 1 (ap open_bytes e))

  -- no opening
  stays : first ≡ 0 → x ≡ m
  unfolding open_bytes
  stays e = to 0 (ap open_bytes e) ∙ ap (moved_to m) (add-zero m.at)

  pub leaf_needs : first ≡ 0 → Ready text old x deep
  leaf_needs e = subst (λ (y : Mark). Ready text old y deep) (sym (stays e)) k.ready

  pub leaf_path : {new : List ℕ} {r : Mark} → first ≡ 0 → LeafRead text deep x old new r → FactorRead text deep m old new r
  unfolding factor_at block_at
  leaf_path {new} {r} e s =
      let u = says.leaf e in
      let none : block_mark text m ≡ 0 = u.2 ∙ e in
      finishing (calling (starting 1 k.ready) (subst (λ (y : Mark). LeafRead text deep y old new r) (stays e) s) (omega arith))
      (λ n out. rw (view_next text m out, u.0, u.1, none) refl)

  -- a block
  module _ (high : kinds.TON ≤ first) (other : first ≡ BRACKET → ⊥) where
    word : Done (λ n s. stepped (block_bytes first) s) 1 text m old old x
    word =
        let e = says.bytes (omega arith) other in
        turned refl (to (block_bytes first) e)
        (moving_by (block_bytes first) (starting 1 k.ready) (omega (arith, e, says.within (omega arith))))

    on : m.at < x.at
    on = omega (arith, ap (λ (y : Mark). y.at) k.moved, says.some (omega arith))

    pub block_needs : (5 * (length text - x.at) + deep + 6 < t) × Ready text old x (deep + 1)
    block_needs = (omega (arith, on, word.within, k.falls), ready_deeper k.ready word on)

    block_next : (out : List ℕ) → BlockNext text (view_of m out) first
    unfolding block_at
    block_next out =
        let u = says.block (omega arith) other in
        record {
          no_prefix = ap prefix_kind (view_next text m out) ∙ u.0;
          no_bracket = ap (λ (b : ℕ). eqb b 40) (view_next text m out) ∙ u.1;
          here = u.2;
          some = omega arith;
        }

    read : {F : ℕ → State ℕ → State ℕ} {new : List ℕ} {r : Mark} → Done F 5 text x old new r →
        ((n : ℕ) (out : List ℕ) → factor_at coded text (suc n) deep (view_of m out) ≡ F n (stepped (block_bytes first) (view_of m out))) →
        FactorRead text deep m old new r
    read s e = finishing (calling word s (omega (arith, on, word.within))) e

    pub opened_latch : {new : List ℕ} {r : Mark} → kinds.AND ≤ first → LatchRead text first deep x old new r
        → FactorRead text deep m old new r
    opened_latch h s = read s (λ n out. latch_is coded deep n (block_next out) h)

    pub opened_timer : {new : List ℕ} {r : Mark} → first < kinds.AND → TimerRead text first deep x old new r
        → FactorRead text deep m old new r
    opened_timer h s = read s (λ n out. timer_is coded deep n (block_next out) h)

-- sum,sum) after SR( or RS(
module _ {text old : List ℕ} {m : Mark} (deep : ℕ) (g : Ready text old m (deep + 1)) where
  module _ {mid1 : List ℕ} {x1 : Mark} (s1 : SumRead text (deep + 1) m old mid1 x1) {y2 : Mark} (q2 : y2 ≡ expect_mark text 44 x1) where
    pub parted : Done (λ n s. expect text 44 (sum_at coded text n (deep + 1) s)) 4 text m old mid1 y2
    parted = turned refl q2 (expecting 44 (omega arith) (calling (starting 4 g) s1 (omega arith)))

    module _ {mid2 : List ℕ} {x2 : Mark} (s2 : SumRead text (deep + 1) y2 mid1 mid2 x2) {y3 : Mark} (q3 : y3 ≡ expect_mark text 41 x2) where
      both : Done (λ n s. sum_at coded text n (deep + 1) (expect text 44 (sum_at coded text n (deep + 1) s))) 4 text m old mid2 x2
      both = calling parted s2 (omega (arith, parted.on))

      closed : Done (λ n s. expect text 41 (sum_at coded text n (deep + 1) (expect text 44 (sum_at coded text n (deep + 1) s)))) 4 text
          m old
          mid2 y3
      closed = turned refl q3 (expecting 41 (omega arith) both)

      pub latch_path : {new : List ℕ} {r : Mark} (kind : ℕ) → new ≡ put_code y3 kind mid2 → r ≡ put_words y3 deep 0 →
          LatchRead text kind deep m old new r
      unfolding latch_at
      latch_path kind q w = finishing (turned q w (putting kind deep 0 g closed (closing both q3))) (λ n out. refl)

  -- length,sum) after TON(, TOF( or TP(
  module _ {p : Mark} (qp : p ≡ length_passed text m) {y2 : Mark} (q2 : y2 ≡ expect_mark text 44 p) where
    pub measured : Done (λ n s. pass_length text s) 4 text m old old p
    measured = turned refl qp (passing (starting 4 g))

    pub timer_parted : Done (λ n s. expect text 44 (pass_length text s)) 4 text m old old y2
    timer_parted = turned refl q2 (expecting 44 (omega arith) measured)

    module _ {mid : List ℕ} {x : Mark} (s1 : SumRead text (deep + 1) y2 old mid x) {y3 : Mark} (q3 : y3 ≡ expect_mark text 41 x) where
      body : Done (λ n s. sum_at coded text n (deep + 1) (expect text 44 (pass_length text s))) 4 text m old mid x
      body = calling timer_parted s1 (omega (arith, timer_parted.on))

      timer_closed : Done (λ n s. expect text 41 (sum_at coded text n (deep + 1) (expect text 44 (pass_length text s)))) 4 text m old mid y3
      timer_closed = turned refl q3 (expecting 41 (omega arith) body)

      to_at : (out : List ℕ) → p.at ≡ (pass_length text (view_of m out)).at
      to_at out = ap (λ (j : Mark). j.at) qp ∙ ap (λ (j : State ℕ). j.at) (view_length text m out)

      pub timer_path : {new : List ℕ} {r : Mark} (kind n : ℕ) → n ≡ length_ticks text m →
          new ≡ put_code y3 (n * 16 + kind) mid → r ≡ put_words y3 deep n → TimerRead text kind deep m old new r
      unfolding timer_at timed timer_word
      timer_path kind n e q w =
          let e : n ≡ capped (value_between text m.at p.at) =
          e ∙ ticks_are text m ∙ ap (λ (j : Mark). capped (value_between text m.at j.at)) (sym qp) in
          finishing (turned q w (putting (n * 16 + kind) deep n g timer_closed (closing body q3))) (λ j out. rw (← to_at out, ← e) refl)
