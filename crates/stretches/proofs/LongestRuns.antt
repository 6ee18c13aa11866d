-- The stretches listed are exactly the longest runs of up gaps, cut at H, and no other list in order has just these.
use Prim.Native.Nat.{ℕ, suc, ◌+◌, ◌-◌, ◌≤◌, ◌<◌}
use native.Mathlib.Omega.{arith}
use mathlib.Core.Path.{◌≡◌, refl, sym, ◌∙◌, subst}
use mathlib.Core.List.{List, [], ◌∷◌}
use mathlib.Core.Logic.{◌⊎◌, inl, inr}
use Rattle.signals.specs.Moment.{gap}
use Rattle.signals.specs.Signal.{Signal}
use Rattle.signals.specs.Quantified.{Up}
use Rattle.signals.proofs.Truth.{at_or_after, not_both_lem}
use Rattle.stretches.specs.Stretches.{Stretch, begins, up_for, stretches_from, stretches_before}
use Rattle.stretches.specs.LongestRuns.{Run, Longest, Cut, IsAmong, InOrder, StretchesOf, LongestRuns}
use Rattle.stretches.proofs.UpRuns.{begins_up, begins_down, UpFrom}
use Rattle.stretches.proofs.UpRuns.{up_for_most, up_for_up, up_for_ends, back, back_most, back_begins, back_up}
use Rattle.stretches.proofs.Listed.{cut_at, Begun, listed_begun, begun_listed, listed_ordered}

-- the run that begins with gap a: the gaps up to which all are up from a on
abbrev pub RunOf : Signal → ℕ → ℕ → Type 0
RunOf f a k = (a ≤ k) × UpFrom f a k

its_first : (f : Signal) (a : ℕ) → Up (begins f a) → RunOf f a a
its_first f a u = (omega arith, λ j l h. let q : a ≡ j = omega arith in subst (λ (i : ℕ). Up (f (gap i))) q (begins_up f a u))

run_of : (f : Signal) (a : ℕ) → Up (begins f a) → Run f (RunOf f a)
run_of f a u =
    record {
      some = (a, its_first f a u);
      unbroken = λ i j k l h p q. (omega (arith, p.0, l), λ m x y. q.1 m x (omega (arith, y, h)));
      up = λ k q. q.1 k q.0 (omega arith);
    }

-- no run has more: what has gap a and a gap before it has gap a-1, which is down
longest_of_lem : (f : Signal) (a : ℕ) → Up (begins f a) → Longest f (RunOf f a)
longest_of_lem f a u = record { run = run_of f a u; whole = λ R r h k w. go R r h k w (at_or_after a k) }
  where
    go : (R : ℕ → Type 0) → Run f R → ((k : ℕ) → RunOf f a k → R k) → (k : ℕ) → R k → (a ≤ k) ⊎ (k < a) → RunOf f a k
    go R r h k w (inl l) =
        let at : R a = h a (its_first f a u) in
        (l, λ j x y. r.up j (r.unbroken a j k x y at w))
    go R r h k w (inr l) =
        let at : R a = h a (its_first f a u) in
        let q : suc (a - 1) ≡ a = omega (arith, l) in
        not_both_lem (r.up (a - 1) (r.unbroken k (a - 1) a (omega (arith, l)) (omega arith) w at))
        (begins_down f (a - 1) (subst (λ (i : ℕ). Up (begins f i)) (sym q) u))

-- cut at H it is the stretch that is listed
cut_of : (f : Signal) (H a : ℕ) → Up (begins f a) → a < H → Cut H (RunOf f a) (cut_at f H a)
cut_of f H a u l = record { some = one (at_or_after 1 (up_for f a (H - a))); gaps = λ k. (inside k, whole k) }
  where
    inside : (k : ℕ) → RunOf f a k × (k < H) → (a ≤ k) × (k < a + up_for f a (H - a))
    inside k (r, h) = (r.0, go (at_or_after (a + up_for f a (H - a)) k))
      where
        go : (a + up_for f a (H - a) ≤ k) ⊎ (k < a + up_for f a (H - a)) → k < a + up_for f a (H - a)
        go (inr y) = y
        go (inl y) =
            not_both_lem (r.1 (a + up_for f a (H - a)) (omega arith) y) (up_for_ends f a (H - a) (omega (arith, y, h, r.0)))

    whole : (k : ℕ) → (a ≤ k) × (k < a + up_for f a (H - a)) → RunOf f a k × (k < H)
    whole k (x, y) =
        ((x, λ j p q. up_for_up f a (H - a) j p (omega (arith, q, y))), omega (arith, y, up_for_most f a (H - a), l))

    one : (1 ≤ up_for f a (H - a)) ⊎ (up_for f a (H - a) < 1) → 1 ≤ up_for f a (H - a)
    one (inl y) = y
    one (inr y) = let b = inside a (its_first f a u, l) in omega (arith, y, b.1)

-- what is cut of one run is cut of another with the same gaps
cut_same : (H : ℕ) (Q R : ℕ → Type 0) (s : Stretch) → ((k : ℕ) → Q k → R k) → ((k : ℕ) → R k → Q k) → Cut H R s → Cut H Q s
cut_same H Q R s g h c =
    record { some = c.some; gaps = λ k. (λ q. (c.gaps k).0 (g k q.0, q.1), λ b. let r = (c.gaps k).1 b in (h k r.0, r.1)) }

-- an up gap before H is in a stretch that is listed: that which begins where going back from it ends
pub listed_at : (f : Signal) (k H : ℕ) → Up (f (gap k)) → k < H
    → IsAmong (stretches_before f H) (cut_at f H (back f k)) × Cut H (RunOf f (back f k)) (cut_at f H (back f k))
unfolding stretches_before
listed_at f k H u h =
    let a : back f k < H = omega (arith, back_most f k, h) in
    let e : 0 + H ≡ H = omega arith in (
      subst (λ (m : ℕ). IsAmong (stretches_from f 0 H) (cut_at f m (back f k))) e
          (begun_listed f 0 H (back f k) (back_begins f k u) (omega arith) (omega (arith, a))),
      cut_of f H (back f k) (back_begins f k u) a,
    )

-- a longest run with gap k is the run that begins where going back from k ends
module _ (f : Signal) (Q : ℕ → Type 0) (longest : Longest f Q) (k : ℕ) (at : Q k) where
  up_here : Up (f (gap k))
  up_here = longest.run.up k at

  inside : (i : ℕ) → Q i → RunOf f (back f k) i
  inside i q = go (at_or_after i k)
    where
      beyond : k < i → RunOf f (back f k) i
      beyond l = (omega (arith, back_most f k, l), λ j x y. at_place j x y (at_or_after j k))
        where
          at_place : (j : ℕ) → back f k ≤ j → j ≤ i → (j ≤ k) ⊎ (k < j) → Up (f (gap j))
          at_place j x y (inl h) = back_up f k up_here j x h
          at_place j x y (inr h) = longest.run.up j (longest.run.unbroken k j i (omega (arith, h)) y at q)

      below : i ≤ k → (back f k ≤ i) ⊎ (i < back f k) → RunOf f (back f k) i
      below l (inl h) = (h, λ j x y. back_up f k up_here j x (omega (arith, y, l)))
      below l (inr h) =
          let q' : suc (back f k - 1) ≡ back f k = omega (arith, h) in
          not_both_lem
          (longest.run.up (back f k - 1)
          (longest.run.unbroken i (back f k - 1) k (omega (arith, h)) (omega (arith, back_most f k)) q at))
          (begins_down f (back f k - 1) (subst (λ (m : ℕ). Up (begins f m)) (sym q') (back_begins f k up_here)))

      go : (i ≤ k) ⊎ (k < i) → RunOf f (back f k) i
      go (inl l) = below l (at_or_after (back f k) i)
      go (inr l) = beyond l

  run_found : (i : ℕ) → RunOf f (back f k) i → Q i
  run_found = longest.whole (RunOf f (back f k)) (run_of f (back f k) (back_begins f k up_here)) inside

  pub found : (H : ℕ) → k < H → (s : Stretch) × IsAmong (stretches_before f H) s × Cut H Q s
  found H h =
      let l = listed_at f k H up_here h in
      (cut_at f H (back f k), l.0, cut_same H Q (RunOf f (back f k)) (cut_at f H (back f k)) inside run_found l.1)

listed_each : (f : Signal) (H : ℕ) (s : Stretch) → IsAmong (stretches_before f H) s → (Q : ℕ → Type 0) × Longest f Q × Cut H Q s
unfolding stretches_before
listed_each f H s o =
    let e : 0 + H ≡ H = omega arith in
    let b = subst (λ (m : ℕ). Begun f 0 m s) e (listed_begun f 0 H s o) in (
      RunOf f s.first,
      longest_of_lem f s.first b.begun,
      subst (Cut H (RunOf f s.first)) (sym b.cut) (cut_of f H s.first b.begun b.before),
    )

pub stretches_of : (f : Signal) (H : ℕ) → StretchesOf f H (stretches_before f H)
unfolding stretches_before
stretches_of f H =
    record { each = listed_each f H; every = λ Q l k q h. found f Q l k q H h; ordered = listed_ordered f 0 H }

-- two stretches that are cut of one run are one
one_cut : (H : ℕ) (Q : ℕ → Type 0) (s r : Stretch) → Cut H Q s → Cut H Q r → s ≡ r
one_cut H Q s r c d = made s.first s.ticks r.first r.ticks first ticks
  where
    within : (k : ℕ) → (s.first ≤ k) × (k < s.first + s.ticks) → (r.first ≤ k) × (k < r.first + r.ticks)
    within k b = (d.gaps k).0 ((c.gaps k).1 b)

    without : (k : ℕ) → (r.first ≤ k) × (k < r.first + r.ticks) → (s.first ≤ k) × (k < s.first + s.ticks)
    without k b = (c.gaps k).0 ((d.gaps k).1 b)

    first : s.first ≡ r.first
    first =
        let a = within s.first (omega arith, omega (arith, c.some)) in
        let b = without r.first (omega arith, omega (arith, d.some)) in
        omega (arith, a.0, b.0)

    ticks : s.ticks ≡ r.ticks
    ticks =
        let a = within (s.first + s.ticks - 1) (omega (arith, c.some), omega (arith, c.some)) in
        let b = without (r.first + r.ticks - 1) (omega (arith, d.some), omega (arith, d.some)) in
        omega (arith, first, a.1, b.1, c.some, d.some)

    made : (a b i j : ℕ) → a ≡ i → b ≡ j → ◌≡◌ {A = Stretch} (record { first = a; ticks = b }) (record { first = i; ticks = j })
    made a b i j e g = rw (e, g)

-- each stretch of one list of a signal's stretches is in every other
in_other : (f : Signal) (H : ℕ) (a b : List Stretch) → StretchesOf f H a → StretchesOf f H b → (s : Stretch) → IsAmong a s → IsAmong b s
in_other f H a b p q s o =
    let (Q, l, c) = p.each s o in
    let here = (c.gaps s.first).1 (omega arith, omega (arith, c.some)) in
    let (r, i, d) = q.every Q l s.first here.0 here.1 in
    subst (IsAmong b) (one_cut H Q r s d c) i

-- every later stretch begins later
later : (s : Stretch) (ss : List Stretch) → InOrder (s ∷ ss) → (r : Stretch) → IsAmong ss r → s.first < r.first
later s [] o r i = absurd i
later s (x ∷ xs) o r (inl e) = let h = o.0 in subst (λ (y : Stretch). s.first < y.first) (sym e) (omega (arith, h))
later s (x ∷ xs) o r (inr i) = let h = o.0 in let g = later x xs o.1 r i in omega (arith, h, g)

tail_ordered : (s : Stretch) (ss : List Stretch) → InOrder (s ∷ ss) → InOrder ss
tail_ordered s [] o = tt
tail_ordered s (x ∷ xs) o = o.1

-- lists in order with the same stretches are one list
one_list : (a b : List Stretch) → InOrder a → InOrder b → ((s : Stretch) → IsAmong a s → IsAmong b s)
    → ((s : Stretch) → IsAmong b s → IsAmong a s) → a ≡ b
one_list [] [] p q g h = refl
one_list [] (r ∷ rs) p q g h = absurd (h r (inl refl))
one_list (s ∷ ss) [] p q g h = absurd (g s (inl refl))
one_list (s ∷ ss) (r ∷ rs) p q g h =
    rw (head, one_list ss rs (tail_ordered s ss p) (tail_ordered r rs q) (λ x i. into x i (g x (inr i))) (λ x i. onto x i (h x (inr i))))
  where
    heads : (s ≡ r) ⊎ IsAmong rs s → (r ≡ s) ⊎ IsAmong ss r → s ≡ r
    heads (inl e) o = e
    heads (inr i) (inl e) = sym e
    heads (inr i) (inr j) = absurd (omega (arith, later s ss p r j, later r rs q s i))

    head : s ≡ r
    head = heads (g s (inl refl)) (h r (inl refl))

    into : (x : Stretch) → IsAmong ss x → (x ≡ r) ⊎ IsAmong rs x → IsAmong rs x
    into x i (inr j) = j
    into x i (inl e) =
        let l = later s ss p x i in
        let y : s.first < s.first = subst (λ (z : Stretch). s.first < z.first) (e ∙ sym head) l in
        absurd (omega (arith, y))

    onto : (x : Stretch) → IsAmong rs x → (x ≡ s) ⊎ IsAmong ss x → IsAmong ss x
    onto x i (inr j) = j
    onto x i (inl e) =
        let l = later r rs q x i in
        let y : r.first < r.first = subst (λ (z : Stretch). r.first < z.first) (e ∙ head) l in
        absurd (omega (arith, y))

pub longest_runs : LongestRuns
longest_runs =
    record {
      exact = stretches_of;
      only = λ f H given p.
          let q = stretches_of f H in
          one_list given (stretches_before f H) p.ordered q.ordered (in_other f H given (stretches_before f H) p q)
          (in_other f H (stretches_before f H) given q p);
    }
