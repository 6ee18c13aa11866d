-- Along the words of an accepted list: the stretches done and those of the words left are all of the list's.
use Prim.Native.Nat.{ℕ, suc, ◌+◌, ◌*◌, ◌≤◌, ◌<◌}
use native.Mathlib.Omega.{arith}
use mathlib.Core.Path.{◌≡◌, refl, sym, ap, ◌∙◌, subst}
use mathlib.Core.Bool.{Bool, true, false, cond}
use mathlib.Core.List.{List, [], ◌∷◌, ◌++◌, append-nil}
use mathlib.Core.Logic.{◌⊎◌, inl, inr}
use lib.ListN.{length, get_or, drop, drop_of_length-le}
use lib.Seq.{drop-cons, append_snoc}
use borrow.Author.Tests.{lt-leb, le-leb, lt-ltb}
use Rattle.signals.specs.Words.{date_of, value_after, signal_of}
use Rattle.signals.specs.Normal.{Accepted, Rising}
use Rattle.signals.specs.Passing.{held_value}
use Rattle.signals.proofs.Normal.{accepted_normal, dates_rise}
use Rattle.signals.proofs.Operand.{held_next}
use Rattle.signals.proofs.WordFacts.{head_value_lem}
use Rattle.stretches.specs.Stretches.{Stretch, stretches_before, sum_of_ticks, stretch_words}
use Rattle.stretches.specs.Walk.{between, last_walked, walked}
use Rattle.stretches.proofs.Walking.{walk_exact, rise_below}
use Rattle.uptimes.specs.Turns.{State, ended, past_word, FoundIn}
use Rattle.uptimes.proofs.DoneWords.{Done, ended_to, ended_done}

pub record Along (l : List ℕ) (H : ℕ) (out₀ : List ℕ) (p : ℕ) (s : State) : Type 0 where
  pub done : List Stretch
  pub so_far : Done out₀ done s
  pub leads : done ++ walked H (held_value l p) s.from (drop p l) ≡ walked H (held_value l 1) 0 (drop 1 l)
  pub rises : Rising s.from (drop p l)
  pub before : s.total ≤ s.from
  pub few : s.count ≤ 2 * p

abbrev pub begun : List ℕ → State
begun out = record { from = 0; count = 0; total = 0; out = out }

pub along_start : (l : List ℕ) (H : ℕ) (out : List ℕ) → Accepted l → Along l H out 1 (begun out)
unfolding stretch_words sum_of_ticks
along_start [] H out a = absurd ((accepted_normal []).0 a).0
along_start (h ∷ ws) H out a =
    record {
      done = [];
      so_far = record { words = refl; ticks = refl; long = refl; written = λ e. refl };
      leads = refl;
      rises = dates_rise h ws ((accepted_normal (h ∷ ws)).0 a).0;
      before = omega arith;
      few = omega arith;
    }

-- past a word that is dated before H
module _ (l : List ℕ) (H : ℕ) (out₀ : List ℕ) (p : ℕ) (s : State) (g : Along l H out₀ p s) (left : p < length l)
    (early : date_of (get_or l p 0) < H)
  where
    abbrev w : ℕ
    w = get_or l p 0

    split : drop p l ≡ w ∷ drop (p + 1) l
    split = let e : suc p ≡ p + 1 = omega arith in drop-cons l p 0 left ∙ ap (λ (k : ℕ). w ∷ drop k l) e

    rising : Rising s.from (w ∷ drop (p + 1) l)
    rising = subst (Rising s.from) split g.rises

    abbrev others : List ℕ
    others = drop (p + 1) l

    -- what is left, past the word, by the values before and after it
    past : (up after : Bool) → held_value l p ≡ up → value_after w ≡ after
        → g.done
        ++ cond up
        (cond after (walked H true s.from others) (between s.from (date_of w) ∷ walked H false (date_of w) others))
        (walked H after (date_of w) others)
        ≡ walked H (held_value l 1) 0 (drop 1 l)
    unfolding walked
    past up after e f = (rw (split, e, lt-leb H (date_of w) early, f) at g.leads)

    held : (after : Bool) → value_after w ≡ after → held_value l (p + 1) ≡ after
    held after f = held_next l p ∙ f

    stays : held_value l p ≡ true → value_after w ≡ true → Along l H out₀ (p + 1) s
    stays e f =
        record {
          done = g.done;
          so_far = g.so_far;
          leads = ap (λ (v : Bool). g.done ++ walked H v s.from others) (held true f) ∙ past true true e f;
          rises = rise_below (date_of w) s.from others (omega (arith, rising.0)) rising.1;
          before = g.before;
          few = omega (arith, g.few);
        }

    falls : held_value l p ≡ true → value_after w ≡ false → Along l H out₀ (p + 1) (ended (date_of w) s)
    unfolding ended
    falls e f =
        rw (lt-ltb s.from (date_of w) rising.0)
        (record {
          done = g.done ++ (between s.from (date_of w) ∷ []);
          so_far = rw (lt-ltb s.from (date_of w) rising.0) at (ended_done out₀ g.done s g.so_far (date_of w));
          leads =
              append_snoc g.done (between s.from (date_of w)) (walked H (held_value l (p + 1)) (date_of w) others)
              ∙ ap (λ (v : Bool). g.done ++ between s.from (date_of w) ∷ walked H v (date_of w) others) (held false f)
              ∙ past true false e f;
          rises = rising.1;
          before = omega (arith, rising.0, g.before);
          few = omega (arith, g.few);
        })

    was_down : (after : Bool) → held_value l p ≡ false → value_after w ≡ after
        → Along l H out₀ (p + 1) (record { from = date_of w; count = s.count; total = s.total; out = s.out })
    was_down after e f =
        record {
          done = g.done;
          so_far = record { words = g.so_far.words; ticks = g.so_far.ticks; long = g.so_far.long; written = g.so_far.written };
          leads = ap (λ (v : Bool). g.done ++ walked H v (date_of w) others) (held after f) ∙ past false after e f;
          rises = rising.1;
          before = omega (arith, rising.0, g.before);
          few = omega (arith, g.few);
        }

    pub along_next : Along l H out₀ (p + 1) (past_word (date_of w) (held_value l p) (value_after w) s)
    unfolding past_word
    along_next = go (held_value l p) (value_after w) refl refl
      where
        go : (up after : Bool) → held_value l p ≡ up → value_after w ≡ after
            → Along l H out₀ (p + 1)
            (cond up (cond after s (ended (date_of w) s)) (record { from = date_of w; count = s.count; total = s.total; out = s.out }))
        go true true e f = stays e f
        go true false e f = falls e f
        go false after e f = was_down after e f

-- all the words after the first
whole : (l : List ℕ) (H : ℕ) → Accepted l → walked H (held_value l 1) 0 (drop 1 l) ≡ stretches_before (signal_of l) H
unfolding held_value
whole [] H a = absurd ((accepted_normal []).0 a).0
whole (h ∷ ws) H a =
    ap (λ (v : Bool). walked H v 0 ws) (head_value_lem h ((accepted_normal (h ∷ ws)).0 a).0.0) ∙ walk_exact h ws H a

-- no word is left that is dated before H
module _ (l : List ℕ) (H : ℕ) (out₀ : List ℕ) (p : ℕ) (s : State) (g : Along l H out₀ p s) (accepted : Accepted l)
    (none : (length l ≤ p) ⊎ ((p < length l) × (H ≤ date_of (get_or l p 0))))
  where
    last : (up : Bool) → walked H up s.from (drop p l) ≡ last_walked H up s.from
    unfolding walked
    last up = go none
      where
        go : (length l ≤ p) ⊎ ((p < length l) × (H ≤ date_of (get_or l p 0))) → walked H up s.from (drop p l) ≡ last_walked H up s.from
        go (inl h) = rw (drop_of_length-le l {i = p} h)
        go (inr (h, late)) = rw (drop-cons l p 0 h, le-leb H (date_of (get_or l p 0)) late)

    all : (up : Bool) → held_value l p ≡ up → g.done ++ last_walked H up s.from ≡ stretches_before (signal_of l) H
    all up e =
        ap (λ (ss : List Stretch). g.done ++ ss) (sym (ap (λ (v : Bool). walked H v s.from (drop p l)) e ∙ last up)) ∙ g.leads
        ∙ whole l H accepted

    found : (ss : List Stretch) (z : State) → ss ≡ stretches_before (signal_of l) H → Done out₀ ss z
        → FoundIn l H z.count z.total out₀ z.out
    found ss z e d =
        let f = subst (λ (rs : List Stretch). Done out₀ rs z) e d in (
          f.words,
          f.ticks,
          λ h. f.written (omega (arith, f.words, h))
              ∙ ap (λ (n : ℕ). stretch_words (stretches_before (signal_of l) H) ++ drop n out₀) f.words,
        )

    pub found_up : held_value l p ≡ true → FoundIn l H (ended H s).count (ended H s).total out₀ (ended H s).out
    unfolding last_walked
    found_up e = found (g.done ++ ended_to s.from H) (ended H s) (all true e) (ended_done out₀ g.done s g.so_far H)

    pub found_down : held_value l p ≡ false → FoundIn l H s.count s.total out₀ s.out
    unfolding last_walked
    found_down e = found g.done s (sym (append-nil g.done) ∙ all false e) g.so_far
