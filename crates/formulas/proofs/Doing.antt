-- What a path through a reader leaves, put together from what each of its steps leaves.
use Prim.Native.Nat.{ℕ, zero, suc, ◌+◌, ◌*◌, ◌-◌, ◌≤◌, ◌<◌}
use native.Mathlib.Omega.{arith}
use native.Mathlib.Decide.{dec_lt}
use native.Mathlib.Numerals.{add-one}
use mathlib.Core.Path.{◌≡◌, refl, sym, ap, ◌∙◌, subst}
use mathlib.Core.Bool.{Bool, true, false, cond}
use mathlib.Core.List.{List, [], ◌∷◌, ◌++◌}
use lib.Dec.{ltb, eqb}
use lib.ListN.{length, take, drop, set, length-append, length-set}
use lib.Seq.{take_all, take-append-le, take-suc-set}
use borrow.Author.Tests.{eqb-true, ltb-true, lt-ltb, le-ltb}
use Rattle.names.specs.Names.{digit}
use Rattle.grammar.specs.Reader.{State, run, next, bad, stepped, expect, put, pass_length, value_between}
use Rattle.texts.specs.Lengths.{value, value_from, capped}
use Rattle.marks.specs.declared.Mark.{Mark}
use Rattle.marks.specs.Marks.{next_mark}
use Rattle.tokens.specs.Tokens.{length_end}
use Rattle.moves.specs.Moves.{length_ticks, is_counted, stored_at, put_code, failed, length_passed, moved_to, put_words}
use Rattle.formulas.specs.Readers.{view_of, Shows, Ready, Done}
use Rattle.signals.proofs.Truth.{and_left}
use Rattle.grammar.proofs.Bytes.{by_cond, never}
use Rattle.grammar.proofs.Carried.{both_ways}
use Rattle.marks.proofs.Marking.{inside}
use Rattle.tokens.proofs.Runs.{run_some, none_at_0}
use Rattle.moves.proofs.Stepping.{length_bounds}
use Rattle.formulas.proofs.MarkSteps.{expect_mark}

pub view_next : (text : List ℕ) (m : Mark) (out : List ℕ) → next text (view_of m out) ≡ next_mark text m
unfolding next next_mark
view_next text m out = refl

view_expect : (text : List ℕ) (b : ℕ) (m : Mark) (out : List ℕ) → view_of (expect_mark text b m) out ≡ expect text b (view_of m out)
unfolding expect_mark expect stepped bad next next_mark
view_expect text b m out = both_ways (λ (x : Mark). view_of x out) (eqb (next_mark text m) b) (λ e. refl) (λ e. refl)

-- a length that is next ends after its first byte
length_some : (text : List ℕ) (m : Mark) → digit (next_mark text m) ≡ true → ltb 0 (m.at + run digit (drop m.at text)) ≡ true
length_some text m e = lt-ltb 0 (m.at + run digit (drop m.at text)) (omega (arith, run_some digit text m (none_at_0 false) e))

pub view_length : (text : List ℕ) (m : Mark) (out : List ℕ) → view_of (length_passed text m) out ≡ pass_length text (view_of m out)
unfolding length_passed length_end pass_length stepped bad next next_mark
view_length text m out = go (eqb (next_mark text m) 48) refl (digit (next_mark text m)) refl
  where
    go : (y : Bool) → eqb (next_mark text m) 48 ≡ y → (z : Bool) → digit (next_mark text m) ≡ z →
        view_of (length_passed text m) out ≡ pass_length text (view_of m out)
    go true y z e = rw (y, lt-ltb 0 (m.at + 1) (omega arith)) refl
    go false y true e = rw (y, e, length_some text m e) refl
    go false y false e = rw (y, e) refl

-- the ticks of a length are those of the bytes that it passes
pub ticks_are : (text : List ℕ) (m : Mark) → length_ticks text m ≡ capped (value_between text m.at (length_passed text m).at)
unfolding length_ticks length_passed value_between value value_from capped
ticks_are text m = go (ltb 0 (length_end text m))
  where
    go : (z : Bool) →
        cond z (capped (value_between text m.at (length_end text m))) 0
        ≡ capped (value_between text m.at (cond z (moved_to m (length_end text m)) (failed m)).at)
    go true = refl
    go false = let none : m.at - m.at ≡ 0 = omega arith in rw none refl

-- two readers that do the same from a mark on, whatever was put out, do the same from a state that it shows
alike : {m : Mark} {code : List ℕ} {s : State ℕ} (F G : State ℕ → State ℕ) → Shows m code s →
    ((out : List ℕ) → F (view_of m out) ≡ G (view_of m out)) → F s ≡ G s
alike {s = s} F G v e = subst (λ (t : State ℕ). F t ≡ G t) (sym v.view) (e s.out)

-- a step that puts no word out
pub kept : {m r : Mark} {code : List ℕ} {s : State ℕ} (f : State ℕ → State ℕ) → r.parts ≡ m.parts →
    ((out : List ℕ) → view_of r out ≡ f (view_of m out)) → Shows m code s → Shows r code (f s)
kept {m} {r} {code} {s} f p h v =
    let e : view_of r s.out ≡ f s = h s.out ∙ ap f (sym v.view) in
    subst (Shows r code) e (record { view = refl; count = v.count ∙ sym p; words = rw p v.words })

-- the words that are kept, of a word put out after others
words_put : (out code : List ℕ) (w n : ℕ) → length code ≡ 32 → length out ≡ n → take 32 out ≡ take n code →
    take 32 (out ++ (w ∷ [])) ≡ take (n + 1) (stored_at code n w)
unfolding stored_at
words_put out code w n l c e = go (dec_lt n 32)
  where
    go : Dec (n < 32) → take 32 (out ++ (w ∷ [])) ≡ take (n + 1) (stored_at code n w)
    go (yes h) =
        let q : out ≡ take n code = sym (take_all 32 out (omega arith)) ∙ e in
        let r : take (n + 1) (set code n w) ≡ take n code ++ (w ∷ []) = rw add-one (take-suc-set code n w (omega arith)) in
        rw (lt-ltb n 32 h)
        (take_all 32 (out ++ (w ∷ [])) (omega (arith, length-append out (w ∷ []))) ∙ ap (λ (x : List ℕ). x ++ (w ∷ [])) q ∙ sym r)
    go (no h) =
        let k : 32 ≤ n = omega (arith, h) in
        rw (le-ltb n 32 k)
        (take-append-le 32 out (w ∷ []) (omega arith) ∙ e ∙ take_all n code (omega arith) ∙ sym (take_all (n + 1) code (omega arith)))

put_view : (m : Mark) (w deep k : ℕ) (code out : List ℕ) → length code ≡ 32 → (m.ok ≡ true → m.parts < 1024) →
    length out ≡ m.parts → take 32 out ≡ take m.parts code →
    Shows (put_words m deep k) (put_code m w code) (put w deep k (view_of m out))
unfolding put_words put_code is_counted put
put_view m w deep k code out l h c e = go m.ok refl
  where
    go : (z : Bool) → m.ok ≡ z → Shows (put_words m deep k) (put_code m w code) (put w deep k (view_of m out))
    go true z =
        rw (z, lt-ltb m.parts 1024 (h z)) (record {
          view = refl;
          count = length-append out (w ∷ []) ∙ ap (λ (j : ℕ). j + 1) c;
          words = words_put out code w m.parts l c e;
        })
    go false z = rw z (record { view = refl; count = c; words = e })

shows_put : {m : Mark} {code : List ℕ} {s : State ℕ} (w deep k : ℕ) → length code ≡ 32 → (m.ok ≡ true → m.parts < 1024) →
    Shows m code s → Shows (put_words m deep k) (put_code m w code) (put w deep k s)
shows_put {m} {code} {s} w deep k l h v =
    subst (λ (t : State ℕ). Shows (put_words m deep k) (put_code m w code) (put w deep k t)) (sym v.view)
    (put_view m w deep k code s.out l h v.count v.words)

-- how far a step goes
pub record Expected (text : List ℕ) (b : ℕ) (m r : Mark) : Type 0 where
  pub parts : r.parts ≡ m.parts
  pub on : m.at ≤ r.at
  pub eaten : r.ok ≡ true → r.at ≡ m.at + 1
  pub within : m.at ≤ length text → r.at ≤ length text

pub expected : (text : List ℕ) (b : ℕ) → 0 < b → (m : Mark) → Expected text b m (expect_mark text b m)
unfolding expect_mark
expected text b pos m =
    by_cond (Expected text b m) (eqb (next_mark text m) b)
    (λ e.
    let i = inside text m b (eqb-true (next_mark text m) b e) pos in
    record { parts = refl; on = omega arith; eaten = λ h. refl; within = λ h. omega (arith, i.before) })
    (λ e. record { parts = refl; on = omega arith; eaten = λ h. never h; within = λ h. h })

pub record Passed (text : List ℕ) (m r : Mark) : Type 0 where
  pub parts : r.parts ≡ m.parts
  pub on : m.at ≤ r.at
  pub within : r.at ≤ length text

pub passed : (text : List ℕ) (m : Mark) → m.at ≤ length text → Passed text m (length_passed text m)
unfolding length_passed
passed text m h =
    by_cond (Passed text m) (ltb 0 (length_end text m))
    (λ e.
    let b = length_bounds text m (ltb-true 0 (length_end text m) e) in
    record { parts = refl; on = b.0; within = b.1 })
    (λ e. record { parts = refl; on = omega arith; within = h })

pub record Put (m r : Mark) : Type 0 where
  pub at : r.at ≡ m.at
  pub most : r.parts ≤ m.parts + 1
  pub bad : m.ok ≡ false → r.parts ≡ m.parts

pub put_is : (m : Mark) (deep k : ℕ) → Put m (put_words m deep k)
unfolding put_words is_counted
put_is m deep k =
    by_cond (Put m) (is_counted m)
    (λ e. record { at = refl; most = omega arith; bad = λ h. never (sym h ∙ and_left m.ok (ltb m.parts 1024) e) })
    (λ e. record { at = refl; most = omega arith; bad = λ h. refl })

put_room : (m : Mark) (w : ℕ) (code : List ℕ) → length (put_code m w code) ≡ length code
unfolding put_code stored_at
put_room m w code =
    by_cond (λ (l : List ℕ). length l ≡ length code) m.ok
    (λ e. by_cond (λ (l : List ℕ). length l ≡ length code) (ltb m.parts 32) (λ e. length-set code m.parts w) (λ e. refl))
    (λ e. refl)

module _ {text old : List ℕ} {m : Mark} {deep : ℕ} where
  -- a reader may go on where another left off
  pub ready_on : {F : ℕ → State ℕ → State ℕ} {level : ℕ} {new : List ℕ} {r : Mark} → Ready text old m deep →
      Done F level text m old new r → Ready text new r deep
  ready_on g d =
      record {
        short = g.short;
        room = d.room;
        within = d.within;
        fewer = omega (arith, g.fewer, d.few);
        opened = omega (arith, g.opened, d.on);
      }

  pub ready_deeper : {F : ℕ → State ℕ → State ℕ} {level : ℕ} {new : List ℕ} {r : Mark} → Ready text old m deep →
      Done F level text m old new r → m.at < r.at → Ready text new r (deep + 1)
  ready_deeper g d h =
      record {
        short = g.short;
        room = d.room;
        within = d.within;
        fewer = omega (arith, g.fewer, d.few);
        opened = omega (arith, g.opened, h);
      }

  pub starting : (level : ℕ) → Ready text old m deep → Done (λ n s. s) level text m old old m
  starting level g = record { same = λ n h s v. v; room = g.room; within = g.within; on = omega arith; few = omega arith }

module _ {text old : List ℕ} {m : Mark} {G : ℕ → State ℕ → State ℕ} {level : ℕ} {mid : List ℕ} {x : Mark} where
  pub turned : {new : List ℕ} {r : Mark} → new ≡ mid → r ≡ x → Done G level text m old mid x → Done G level text m old new r
  turned {new} {r} e f d =
      subst (λ (l : List ℕ). Done G level text m old l r) (sym e) (subst (λ (y : Mark). Done G level text m old mid y) (sym f) d)

  pub moving_by : (k : ℕ) → Done G level text m old mid x → x.at + k ≤ length text →
      Done (λ n s. stepped k (G n s)) level text m old mid (moved_to x (x.at + k))
  unfolding stepped
  moving_by k d h =
      record {
        same = λ n j s v. kept (stepped k) refl (λ out. refl) (d.same n j s v);
        room = d.room;
        within = h;
        on = omega (arith, d.on);
        few = omega (arith, d.few);
      }

  pub moving : Done G level text m old mid x → x.at < length text →
      Done (λ n s. stepped 1 (G n s)) level text m old mid (moved_to x (x.at + 1))
  moving d h = moving_by 1 d (omega arith)

  pub expecting : (b : ℕ) → 0 < b → Done G level text m old mid x →
      Done (λ n s. expect text b (G n s)) level text m old mid (expect_mark text b x)
  expecting b pos d =
      let e = expected text b pos x in
      record {
        same = λ n k s v. kept (expect text b) e.parts (view_expect text b x) (d.same n k s v);
        room = d.room;
        within = e.within d.within;
        on = omega (arith, d.on, e.on);
        few = omega (arith, d.few, e.parts, e.on);
      }

  pub passing : Done G level text m old mid x → Done (λ n s. pass_length text (G n s)) level text m old mid (length_passed text x)
  passing d =
      let e = passed text x d.within in
      record {
        same = λ n k s v. kept (pass_length text) e.parts (view_length text x) (d.same n k s v);
        room = d.room;
        within = e.within;
        on = omega (arith, d.on, e.on);
        few = omega (arith, d.few, e.parts, e.on);
      }

  pub calling : {F : ℕ → State ℕ → State ℕ} {lev : ℕ} {new : List ℕ} {r : Mark} → Done G level text m old mid x →
      Done F lev text x mid new r →
      5 * (length text - x.at) + lev ≤ 5 * (length text - m.at) + level → Done (λ n s. F n (G n s)) level text m old new r
  calling d e h =
      record {
        same = λ n k s v. e.same n (omega arith) (G n s) (d.same n k s v);
        room = e.room;
        within = e.within;
        on = omega (arith, d.on, e.on);
        few = omega (arith, d.few, e.few);
      }

  -- a part that has a byte of its own may be put out
  pub roomy : {deep : ℕ} → Ready text old m deep → Done G level text m old mid x →
      (x.ok ≡ true → x.parts + m.at + 1 ≤ m.parts + x.at) → x.ok ≡ true → x.parts < 1024
  roomy g d h k = omega (arith, h k, g.fewer, g.short, d.within)

  pub putting : {deep0 : ℕ} (w deep k : ℕ) → Ready text old m deep0 → Done G level text m old mid x →
      (x.ok ≡ true → x.parts + m.at + 1 ≤ m.parts + x.at) →
      Done (λ n s. put w deep k (G n s)) level text m old (put_code x w mid) (put_words x deep k)
  putting w deep k g d h =
      let p = put_is x deep k in
      record {
        same = λ n j s v. shows_put w deep k d.room (roomy g d h) (d.same n j s v);
        room = put_room x w mid ∙ d.room;
        within = omega (arith, p.at, d.within);
        on = omega (arith, p.at, d.on);
        few = go x.ok refl;
      }
    where
      go : (z : Bool) → x.ok ≡ z → (put_words x deep k).parts + m.at ≤ m.parts + (put_words x deep k).at
      go true z = let p = put_is x deep k in omega (arith, p.at, p.most, h z)
      go false z = let p = put_is x deep k in omega (arith, p.at, p.bad z, d.few)

  -- a sum inside a block may be read
  pub inner_needs : (deep : ℕ) {t : ℕ} → Ready text old m (deep + 1) → Done G level text m old mid x →
      5 * (length text - m.at) + deep + 6 ≡ t →
      (5 * (length text - x.at) + (deep + 1) + 4 < t) × Ready text mid x (deep + 1)
  inner_needs deep g d h = (omega (arith, d.on, d.within), ready_on g d)

  -- what stands before a bracket that was closed leaves the bracket's byte to a part
  pub closing : {r : Mark} → Done G level text m old mid x → r ≡ expect_mark text 41 x → r.ok ≡ true →
      r.parts + m.at + 1 ≤ m.parts + r.at
  closing {r} d q h =
      let e = expected text 41 (omega arith) x in
      let a : r.at ≡ (expect_mark text 41 x).at = ap (λ (j : Mark). j.at) q in
      let b : r.parts ≡ (expect_mark text 41 x).parts = ap (λ (j : Mark). j.parts) q in
      omega (arith, e.eaten (ap (λ (j : Mark). j.ok) (sym q) ∙ h), e.parts, d.few)

  pub finishing : {F : ℕ → State ℕ → State ℕ} → Done G level text m old mid x →
      ((n : ℕ) (out : List ℕ) → F (suc n) (view_of m out) ≡ G n (view_of m out)) → Done F (suc level) text m old mid x
  finishing {F} d e = record { same = with_fuel; room = d.room; within = d.within; on = d.on; few = d.few }
    where
      with_fuel : (n : ℕ) → 5 * (length text - m.at) + suc level ≤ n → (s : State ℕ) → Shows m old s → Shows x mid (F n s)
      with_fuel zero h s v = absurd (omega arith)
      with_fuel (suc n) h s v = subst (Shows x mid) (sym (alike (F (suc n)) (G n) v (e n))) (d.same n (omega arith) s v)

  pub becoming : {F : ℕ → State ℕ → State ℕ} → Done G level text m old mid x →
      ((n : ℕ) (out : List ℕ) → F n (view_of m out) ≡ G n (view_of m out)) → Done F level text m old mid x
  becoming {F} d e =
      record {
        same = λ n h s v. subst (Shows x mid) (sym (alike (F n) (G n) v (e n))) (d.same n h s v);
        room = d.room;
        within = d.within;
        on = d.on;
        few = d.few;
      }
