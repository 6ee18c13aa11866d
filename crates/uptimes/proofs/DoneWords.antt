-- The stretches done so far: their words are counted, their ticks summed, and the words stand in the output where they fit.
use Prim.Native.Nat.{ℕ, suc, ◌+◌, ◌-◌, ◌≤◌, ◌<◌}
use native.Mathlib.Omega.{arith}
use mathlib.Core.Path.{◌≡◌, refl, sym, ap, ◌∙◌, subst}
use mathlib.Core.Bool.{Bool, true, false, cond}
use mathlib.Core.List.{List, [], ◌∷◌, ◌++◌, append_assoc, append-nil}
use lib.Dec.{ltb}
use lib.ListN.{length, get_or, drop, set, length-append, length-set}
use lib.Seq.{drop-cons, set-append_seam, append_snoc}
use borrow.Author.Tests.{lt-ltb, ltb-true}
use Rattle.stretches.specs.Stretches.{Stretch, sum_of_ticks, stretch_words}
use Rattle.stretches.specs.Walk.{between}
use Rattle.uptimes.specs.Turns.{State, put_two, ended}

pub record Done (out₀ : List ℕ) (done : List Stretch) (s : State) : Type 0 where
  pub words : s.count ≡ length (stretch_words done)
  pub ticks : s.total ≡ sum_of_ticks done
  pub long : length s.out ≡ length out₀
  pub written : s.count ≤ length out₀ → s.out ≡ stretch_words done ++ drop s.count out₀

-- one stretch more
words_more : (ss : List Stretch) (x : Stretch) → stretch_words (ss ++ (x ∷ [])) ≡ stretch_words ss ++ (x.first ∷ x.ticks ∷ [])
unfolding stretch_words
words_more [] x = refl
words_more (s ∷ ss) x = ap (λ (l : List ℕ). s.first ∷ s.ticks ∷ l) (words_more ss x)

ticks_more : (ss : List Stretch) (x : Stretch) → sum_of_ticks (ss ++ (x ∷ [])) ≡ sum_of_ticks ss + x.ticks
unfolding sum_of_ticks
ticks_more [] x = omega arith
ticks_more (s ∷ ss) x = let e = ticks_more ss x in omega (arith, e)

-- two words put after those that stand there
put_after : (ws out₀ : List ℕ) (a b : ℕ) → length ws + 2 ≤ length out₀
    → set (set (ws ++ drop (length ws) out₀) (length ws) a) (length ws + 1) b ≡ (ws ++ (a ∷ b ∷ [])) ++ drop (length ws + 2) out₀
put_after ws out₀ a b h =
    let n = length ws in
    let e : drop n out₀ ≡ get_or out₀ n 0 ∷ drop (suc n) out₀ = drop-cons out₀ n 0 (omega arith) in
    let f : drop (suc n) out₀ ≡ get_or out₀ (suc n) 0 ∷ drop (suc (suc n)) out₀ = drop-cons out₀ (suc n) 0 (omega arith) in
    let i : length (ws ++ (a ∷ [])) ≡ n + 1 = length-append ws (a ∷ []) in
    let m : suc (suc n) ≡ n + 2 = omega arith in
    ap (λ (l : List ℕ). set (set (ws ++ l) n a) (n + 1) b) e
    ∙ ap (λ (l : List ℕ). set l (n + 1) b) (set-append_seam ws (get_or out₀ n 0) (drop (suc n) out₀) a)
    ∙ ap (λ (l : List ℕ). set (ws ++ a ∷ l) (n + 1) b) f
    ∙ ap (λ (l : List ℕ). set l (n + 1) b) (sym (append_snoc ws a (get_or out₀ (suc n) 0 ∷ drop (suc (suc n)) out₀)))
    ∙ ap (λ (k : ℕ). set ((ws ++ (a ∷ [])) ++ (get_or out₀ (suc n) 0 ∷ drop (suc (suc n)) out₀)) k b) (sym i)
    ∙ set-append_seam (ws ++ (a ∷ [])) (get_or out₀ (suc n) 0) (drop (suc (suc n)) out₀) b
    ∙ append_snoc ws a (b ∷ drop (suc (suc n)) out₀)
    ∙ sym (append_assoc ws (a ∷ b ∷ []) (drop (suc (suc n)) out₀))
    ∙ ap (λ (k : ℕ). (ws ++ (a ∷ b ∷ [])) ++ drop k out₀) m

two_long : (out : List ℕ) (at a b : ℕ) → length (put_two out at a b) ≡ length out
unfolding put_two
two_long out at a b = go (ltb (at + 1) (length out))
  where
    go : (t : Bool) → length (cond t (set (set out at a) (at + 1) b) out) ≡ length out
    go true = length-set (set out at a) (at + 1) b ∙ length-set out at a
    go false = refl

-- the stretch that ends before a gap, where it has any
abbrev pub ended_to : ℕ → ℕ → List Stretch
ended_to from end = cond (ltb from end) (between from end ∷ []) []

module _ (out₀ : List ℕ) (done : List Stretch) (s : State) (d : Done out₀ done s) (end : ℕ) where
  put_done : s.from < end
      → Done out₀ (done ++ (between s.from end ∷ []))
      (record {
        from = end;
        count = s.count + 2;
        total = s.total + (end - s.from);
        out = put_two s.out s.count s.from (end - s.from);
      })
  unfolding put_two
  put_done h =
      record {
        words = counted;
        ticks = let e = ticks_more done (between s.from end) in omega (arith, e, d.ticks);
        long = two_long s.out s.count s.from (end - s.from) ∙ d.long;
        written = stands;
      }
    where
      counted : s.count + 2 ≡ length (stretch_words (done ++ (between s.from end ∷ [])))
      counted =
          let e = ap (λ (l : List ℕ). length l) (words_more done (between s.from end)) in
          let g = length-append (stretch_words done) (s.from ∷ (end - s.from) ∷ []) in
          omega (arith, e, g, d.words)

      stands : s.count + 2 ≤ length out₀
          → put_two s.out s.count s.from (end - s.from)
          ≡ stretch_words (done ++ (between s.from end ∷ [])) ++ drop (s.count + 2) out₀
      stands l =
          rw (
            lt-ltb (s.count + 1) (length s.out) (omega (arith, l, d.long)),
            words_more done (between s.from end),
            d.written (omega (arith, l)),
            d.words,
          )
          (put_after (stretch_words done) out₀ s.from (end - s.from) (omega (arith, l, d.words)))

  pub ended_done : Done out₀ (done ++ ended_to s.from end) (ended end s)
  unfolding ended
  ended_done = go (ltb s.from end) refl
    where
      go : (t : Bool) → ltb s.from end ≡ t
          → Done out₀ (done ++ cond t (between s.from end ∷ []) [])
          (cond t
          (record {
            from = end;
            count = s.count + 2;
            total = s.total + (end - s.from);
            out = put_two s.out s.count s.from (end - s.from);
          })
          s)
      go true e = put_done (ltb-true s.from end e)
      go false e = subst (λ (ss : List Stretch). Done out₀ ss s) (sym (append-nil done)) d
