-- Laws 27 to 36, those of RS.
use Prim.Native.Nat.{ℕ, ◌≤◌, ◌<◌}
use native.Mathlib.Omega.{arith}
use mathlib.Core.Path.{◌≡◌, refl}
use mathlib.Core.Logic.{inl, inr, ⊎_elim}
use mathlib.Core.Bool.{Bool, true, false, true≢false, false≢true}
use lib.Dec.{leb}
use borrow.Author.Tests.{leb-true, leb-false, not-false}
use Rattle.signals.specs.Moment.{opens}
use Rattle.signals.specs.Signal.{Signal, constant, NOT, AND, OR, SR, RS}
use Rattle.signals.specs.Quantified.{Up, Down}
use Rattle.signals.proofs.Truth.{bool_ext, not_both_lem, down_of}
use Rattle.signals.proofs.Agreement.{NOT_up, NOT_of, AND_up, AND_of, OR_up, OR_of, SR_up, SR_of, RS_up, RS_of, OneRS, RS_up1, RS_of1}
use Rattle.signals.proofs.Agreement.{le_opens}
use Rattle.laws.specs.Laws.{rs_not, rs_reset_one, rs_set_one, rs_set_zero, rs_self, rs_and_set, rs_set_under_reset, rs_as_sr}
use Rattle.laws.specs.Laws.{rs_reset_or, rs_set_or}
use Rattle.laws.specs.Scheme.{f, s, r, p}
use Rattle.laws.specs.Soundness.{Holds}
use Rattle.laws.proofs.Letters.{put_for}
use Rattle.laws.proofs.BothDown.{or_down, or_down_of}

-- where RS is up, the reset is down, and so it was at the moment of the set
reset_down : (a b : Signal) (t : ℕ) → Up (RS a b t) → Down (b t)
reset_down a b t e = let w = RS_up1 a b t e in w.3 t w.1 (omega arith)

rs_own : (a : Signal) (t : ℕ) → RS a (NOT a) t ≡ a t
unfolding NOT
rs_own a t =
    bool_ext _ _
    (λ e. not-false (a t) (reset_down a (NOT a) t e))
    (λ u. RS_of a (NOT a) t (inl (u, down_of _ (λ e. not_both_lem u (NOT_up a t e)))))

pub rs_not_lem : Holds rs_not
rs_not_lem env x t = rs_own (put_for env x s) t

rs_reset_up : (a : Signal) (t : ℕ) → RS a (constant true) t ≡ false
unfolding constant
rs_reset_up a t = down_of _ (λ e. true≢false (reset_down a (constant true) t e))

pub rs_reset_one_lem : Holds rs_reset_one
unfolding constant
rs_reset_one_lem env x t = rs_reset_up (put_for env x s) t

rs_set_up : (b : Signal) (t : ℕ) → RS (constant true) b t ≡ NOT b t
unfolding constant
rs_set_up b t =
    bool_ext _ _
    (λ e. NOT_of b t (reset_down (constant true) b t e))
    (λ e. RS_of (constant true) b t (inl (refl, NOT_up b t e)))

pub rs_set_one_lem : Holds rs_set_one
rs_set_one_lem env x t = rs_set_up (put_for env x r) t

rs_set_down : (b : Signal) (t : ℕ) → RS (constant false) b t ≡ false
unfolding constant
rs_set_down b t = down_of _ (λ e. false≢true (RS_up1 (constant false) b t e).2)

pub rs_set_zero_lem : Holds rs_set_zero
unfolding constant
rs_set_zero_lem env x t = rs_set_down (put_for env x r) t

rs_of_self : (a : Signal) (t : ℕ) → RS a a t ≡ false
rs_of_self a t = down_of _ (λ e. let w = RS_up1 a a t e in not_both_lem w.2 (w.3 w.0 (omega arith) w.1))

pub rs_self_lem : Holds rs_self
unfolding constant
rs_self_lem env x t = rs_of_self (put_for env x s) t

rs_with_set : (a b : Signal) (t : ℕ) → AND (RS a b) a t ≡ AND a (NOT b) t
rs_with_set a b t =
    bool_ext _ _
    (λ e. let h = AND_up (RS a b) a t e in AND_of a (NOT b) t (h.1, NOT_of b t (reset_down a b t h.0)))
    (λ e. let h = AND_up a (NOT b) t e in AND_of (RS a b) a t (RS_of a b t (inl (h.0, NOT_up b t h.1)), h.0))

pub rs_and_set_lem : Holds rs_and_set
rs_and_set_lem env x t = rs_with_set (put_for env x s) (put_for env x r) t

-- a set that is up wherever another is keeps RS up
rs_mono : (a c b : Signal) (t : ℕ) → ((n : ℕ) → Up (a n) → Up (c n)) → Up (RS a b t) → Up (RS c b t)
rs_mono a c b t more e = let w = RS_up1 a b t e in RS_of1 c b t (w.0, w.1, more w.0 w.2, w.3)

rs_set_with_reset : (a b c : Signal) (t : ℕ) → RS (OR a (AND b c)) b t ≡ RS a b t
rs_set_with_reset a b c t =
    bool_ext _ _
    (λ e.
    let w = RS_up1 (OR a (AND b c)) b t e in
    ⊎_elim
    (λ u. RS_of1 a b t (w.0, w.1, u, w.3))
    (λ u. not_both_lem (AND_up b c w.0 u).0 (w.3 w.0 (omega arith) w.1))
    (OR_up a (AND b c) w.0 w.2))
    (λ e. rs_mono a (OR a (AND b c)) b t (λ n u. OR_of a (AND b c) n (inl u)) e)

pub rs_set_under_reset_lem : Holds rs_set_under_reset
rs_set_under_reset_lem env x t = rs_set_with_reset (put_for env x s) (put_for env x r) (put_for env x f) t

-- a moment from m on that no part of m lies before is m
own : (m n : ℕ) → m ≤ n → n < opens m → n ≡ m
unfolding opens
own m n l h = omega arith

from_opens : (m n : ℕ) → opens m ≤ n → m ≤ n
unfolding opens
from_opens m n h = omega arith

-- down at m and on all of (m,t] is down on all of [m,t]
closed_down : (b : Signal) (m t : ℕ) → Down (b m) → ((n : ℕ) → (opens m ≤ n) × (n ≤ t) → Down (b n)) → (n : ℕ) → m ≤ n → n ≤ t → Down (b n)
closed_down b m t h k n l u = go (leb (opens m) n) refl
  where
    go : (q : Bool) → leb (opens m) n ≡ q → Down (b n)
    go true e = k n (leb-true (opens m) n e, u)
    go false e = rw (own m n l (leb-false (opens m) n e)) h

rs_by_sr : (a b : Signal) (t : ℕ) → RS a b t ≡ SR (AND a (NOT b)) b t
rs_by_sr a b t =
    bool_ext _ _
    (λ e.
    SR_of (AND a (NOT b)) b t
    (⊎_elim
    (λ h. inl (AND_of a (NOT b) t (h.0, NOT_of b t h.1)))
    (λ h. inr (
      h.0,
      h.1,
      AND_of a (NOT b) h.0 (h.2, NOT_of b h.0 (h.3 h.0 (omega arith, le_opens h.0 t h.1))),
      λ n i. h.3 n (from_opens h.0 n i.0, i.1),
    ))
    (RS_up a b t e)))
    (λ e.
    ⊎_elim
    (λ u. let h = AND_up a (NOT b) t u in RS_of a b t (inl (h.0, NOT_up b t h.1)))
    (λ w.
    let h = AND_up a (NOT b) w.0 w.2 in
    RS_of1 a b t (w.0, le_opens w.0 t w.1, h.0, closed_down b w.0 t (NOT_up b w.0 h.1) w.3))
    (SR_up (AND a (NOT b)) b t e))

pub rs_as_sr_lem : Holds rs_as_sr
rs_as_sr_lem env x t = rs_by_sr (put_for env x s) (put_for env x r) t

-- of two moments of the set, each with one reset down from then on, the later has both down
one_later : (a b c : Signal) (t : ℕ) → OneRS a b t → OneRS a c t → OneRS a (OR b c) t
one_later a b c t v w = go (leb v.0 w.0) refl
  where
    go : (q : Bool) → leb v.0 w.0 ≡ q → OneRS a (OR b c) t
    go true e =
        let m : v.0 ≤ w.0 = leb-true v.0 w.0 e in
        (w.0, w.1, w.2, λ n l u. or_down_of b c n (v.3 n (omega arith) u) (w.3 n l u))
    go false e =
        let m : w.0 < v.0 = leb-false v.0 w.0 e in
        (v.0, v.1, v.2, λ n l u. or_down_of b c n (v.3 n l u) (w.3 n (omega arith) u))

rs_over_resets : (a b c : Signal) (t : ℕ) → RS a (OR b c) t ≡ AND (RS a b) (RS a c) t
rs_over_resets a b c t =
    bool_ext _ _
    (λ e.
    let w = RS_up1 a (OR b c) t e in
    AND_of (RS a b) (RS a c) t (
      RS_of1 a b t (w.0, w.1, w.2, λ n l u. (or_down b c n (w.3 n l u)).0),
      RS_of1 a c t (w.0, w.1, w.2, λ n l u. (or_down b c n (w.3 n l u)).1),
    ))
    (λ e.
    let h = AND_up (RS a b) (RS a c) t e in
    RS_of1 a (OR b c) t (one_later a b c t (RS_up1 a b t h.0) (RS_up1 a c t h.1)))

pub rs_reset_or_lem : Holds rs_reset_or
rs_reset_or_lem env x t = rs_over_resets (put_for env x s) (put_for env x r) (put_for env x p) t

rs_over_sets : (a c b : Signal) (t : ℕ) → RS (OR a c) b t ≡ OR (RS a b) (RS c b) t
rs_over_sets a c b t =
    bool_ext _ _
    (λ e.
    let w = RS_up1 (OR a c) b t e in
    OR_of (RS a b) (RS c b) t
    (⊎_elim
    (λ v. inl (RS_of1 a b t (w.0, w.1, v, w.3)))
    (λ v. inr (RS_of1 c b t (w.0, w.1, v, w.3)))
    (OR_up a c w.0 w.2)))
    (λ e.
    ⊎_elim
    (λ v. rs_mono a (OR a c) b t (λ n u. OR_of a c n (inl u)) v)
    (λ v. rs_mono c (OR a c) b t (λ n u. OR_of a c n (inr u)) v)
    (OR_up (RS a b) (RS c b) t e))

pub rs_set_or_lem : Holds rs_set_or
rs_set_or_lem env x t = rs_over_sets (put_for env x s) (put_for env x p) (put_for env x r) t
