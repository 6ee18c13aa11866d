-- Laws 20 to 26, those of SR.
use Prim.Native.Nat.{ℕ, ◌≤◌, ◌<◌}
use native.Mathlib.Omega.{arith}
use mathlib.Core.Path.{◌≡◌, refl}
use mathlib.Core.Logic.{inl, inr, ⊎_elim}
use mathlib.Core.Bool.{Bool, true, false, true≢false, false≢true}
use lib.Dec.{leb}
use borrow.Author.Tests.{leb-true, leb-false, not-false}
use Rattle.signals.specs.Moment.{opens}
use Rattle.signals.specs.Signal.{Signal, constant, NOT, AND, OR, SR}
use Rattle.signals.specs.Quantified.{Up, Down, Before, InOpen}
use Rattle.signals.proofs.Truth.{bool_ext, not_both_lem, down_of}
use Rattle.signals.proofs.Agreement.{AND_up, AND_of, OR_up, OR_of, SR_up, SR_of}
use Rattle.laws.specs.Laws.{sr_not, sr_reset_one, sr_set_one, sr_set_zero, sr_and_reset, sr_reset_or, sr_set_or}
use Rattle.laws.specs.Scheme.{s, r, p}
use Rattle.laws.specs.Soundness.{Holds}
use Rattle.laws.proofs.Letters.{put_for}
use Rattle.laws.proofs.BothDown.{or_down, or_down_of}

-- the set was up at a moment before t, and the reset is down from then on
abbrev Held : Signal → Signal → ℕ → Type 0
Held a b t = (t1 : ℕ) × Before t1 t × Up (a t1) × ((n : ℕ) → InOpen t1 t n → Down (b n))

-- the reset is then down at t
reset_down : (a b : Signal) (t : ℕ) → Held a b t → Down (b t)
reset_down a b t w = w.3 t (w.1, omega arith)

sr_own : (a : Signal) (t : ℕ) → SR a (NOT a) t ≡ a t
unfolding NOT
sr_own a t =
    bool_ext _ _
    (λ e. ⊎_elim (λ u. u) (λ w. not-false (a t) (reset_down a (NOT a) t w)) (SR_up a (NOT a) t e))
    (λ u. SR_of a (NOT a) t (inl u))

pub sr_not_lem : Holds sr_not
sr_not_lem env x t = sr_own (put_for env x s) t

sr_reset_up : (a : Signal) (t : ℕ) → SR a (constant true) t ≡ a t
unfolding constant
sr_reset_up a t =
    bool_ext _ _
    (λ e. ⊎_elim (λ u. u) (λ w. absurd (true≢false (reset_down a (constant true) t w))) (SR_up a (constant true) t e))
    (λ u. SR_of a (constant true) t (inl u))

pub sr_reset_one_lem : Holds sr_reset_one
sr_reset_one_lem env x t = sr_reset_up (put_for env x s) t

pub sr_set_one_lem : Holds sr_set_one
unfolding constant
sr_set_one_lem env x t = SR_of (constant true) (put_for env x r) t (inl refl)

sr_set_down : (b : Signal) (t : ℕ) → SR (constant false) b t ≡ false
unfolding constant
sr_set_down b t =
    down_of _ (λ e. ⊎_elim (λ u. false≢true u) (λ w. false≢true w.2) (SR_up (constant false) b t e))

pub sr_set_zero_lem : Holds sr_set_zero
unfolding constant
sr_set_zero_lem env x t = sr_set_down (put_for env x r) t

sr_with_reset : (a b : Signal) (t : ℕ) → AND (SR a b) b t ≡ AND a b t
sr_with_reset a b t =
    bool_ext _ _
    (λ e.
    let h = AND_up (SR a b) b t e in
    ⊎_elim (λ u. AND_of a b t (u, h.1)) (λ w. not_both_lem h.1 (reset_down a b t w)) (SR_up a b t h.0))
    (λ e. let h = AND_up a b t e in AND_of (SR a b) b t (SR_of a b t (inl h.0), h.1))

pub sr_and_reset_lem : Holds sr_and_reset
sr_and_reset_lem env x t = sr_with_reset (put_for env x s) (put_for env x r) t

-- a later moment's open span begins later
opens_mono : (m n : ℕ) → m ≤ n → opens m ≤ opens n
unfolding opens
opens_mono m n l = omega arith

-- of two moments of the set, each with one reset down from then on, the later has both down
held_later : (a b c : Signal) (t : ℕ) → Held a b t → Held a c t → Held a (OR b c) t
held_later a b c t v w = go (leb v.0 w.0) refl
  where
    go : (q : Bool) → leb v.0 w.0 ≡ q → Held a (OR b c) t
    go true e =
        let m : opens v.0 ≤ opens w.0 = opens_mono v.0 w.0 (leb-true v.0 w.0 e) in
        (w.0, w.1, w.2, λ n i. or_down_of b c n (v.3 n (omega (arith, i.0), i.1)) (w.3 n i))
    go false e =
        let l : w.0 < v.0 = leb-false v.0 w.0 e in
        let m : opens w.0 ≤ opens v.0 = opens_mono w.0 v.0 (omega arith) in
        (v.0, v.1, v.2, λ n i. or_down_of b c n (v.3 n i) (w.3 n (omega (arith, i.0), i.1)))

sr_over_resets : (a b c : Signal) (t : ℕ) → SR a (OR b c) t ≡ AND (SR a b) (SR a c) t
sr_over_resets a b c t =
    bool_ext _ _
    (λ e.
    ⊎_elim
    (λ u. AND_of (SR a b) (SR a c) t (SR_of a b t (inl u), SR_of a c t (inl u)))
    (λ w.
    AND_of (SR a b) (SR a c) t (
      SR_of a b t (inr (w.0, w.1, w.2, λ n i. (or_down b c n (w.3 n i)).0)),
      SR_of a c t (inr (w.0, w.1, w.2, λ n i. (or_down b c n (w.3 n i)).1)),
    ))
    (SR_up a (OR b c) t e))
    (λ e.
    let h = AND_up (SR a b) (SR a c) t e in
    SR_of a (OR b c) t
    (⊎_elim
    (λ u. inl u)
    (λ v. ⊎_elim (λ u. inl u) (λ w. inr (held_later a b c t v w)) (SR_up a c t h.1))
    (SR_up a b t h.0)))

pub sr_reset_or_lem : Holds sr_reset_or
sr_reset_or_lem env x t = sr_over_resets (put_for env x s) (put_for env x r) (put_for env x p) t

-- a set that is up wherever another is keeps SR up
sr_mono : (a c b : Signal) (t : ℕ) → ((n : ℕ) → Up (a n) → Up (c n)) → Up (SR a b t) → Up (SR c b t)
sr_mono a c b t f e =
    SR_of c b t (⊎_elim (λ u. inl (f t u)) (λ w. inr (w.0, w.1, f w.0 w.2, w.3)) (SR_up a b t e))

sr_over_sets : (a c b : Signal) (t : ℕ) → SR (OR a c) b t ≡ OR (SR a b) (SR c b) t
sr_over_sets a c b t =
    bool_ext _ _
    (λ e.
    OR_of (SR a b) (SR c b) t
    (⊎_elim
    (λ u. ⊎_elim (λ v. inl (SR_of a b t (inl v))) (λ v. inr (SR_of c b t (inl v))) (OR_up a c t u))
    (λ w.
    ⊎_elim
    (λ v. inl (SR_of a b t (inr (w.0, w.1, v, w.3))))
    (λ v. inr (SR_of c b t (inr (w.0, w.1, v, w.3))))
    (OR_up a c w.0 w.2))
    (SR_up (OR a c) b t e)))
    (λ e.
    ⊎_elim
    (λ v. sr_mono a (OR a c) b t (λ n u. OR_of a c n (inl u)) v)
    (λ v. sr_mono c (OR a c) b t (λ n u. OR_of a c n (inr u)) v)
    (OR_up (SR a b) (SR c b) t e))

pub sr_set_or_lem : Holds sr_set_or
sr_set_or_lem env x t = sr_over_sets (put_for env x s) (put_for env x p) (put_for env x r) t
