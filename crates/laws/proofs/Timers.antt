-- Laws 37 to 48, those of TON and TOF.
use Prim.Native.Nat.{ℕ, ◌+◌, ◌*◌, ◌-◌, ◌≤◌, ◌<◌}
use native.Mathlib.Omega.{arith}
use mathlib.Core.Path.{◌≡◌, refl}
use mathlib.Core.Logic.{inl, inr, ⊎_elim}
use mathlib.Core.Bool.{Bool, true, false, cond}
use lib.Dec.{leb}
use borrow.Author.Tests.{leb-true, leb-false}
use Rattle.signals.specs.Signal.{Signal, constant, NOT, AND, OR, TON, TOF}
use Rattle.signals.specs.Quantified.{Up, Down, Started, FromTo}
use Rattle.signals.proofs.Truth.{bool_ext, up_or_down, not_both_lem, down_of}
use Rattle.signals.proofs.Agreement.{NOT_up, NOT_of, AND_up, AND_of, OR_up, OR_of, TON_up, TON_of, TOF_up, TOF_of}
use Rattle.laws.specs.Laws.{ton_and_input, input_and_tof, ton_of_and, tof_of_or, ton_of_ton, tof_of_tof, ton_and_ton, ton_or_ton}
use Rattle.laws.specs.Laws.{tof_and_tof, tof_or_tof}
use Rattle.laws.specs.Laws.{not_ton, not_tof}
use Rattle.laws.specs.Scheme.{f, g}
use Rattle.laws.specs.Soundness.{Holds}
use Rattle.laws.proofs.Letters.{put_for}

-- AND of a and b is x, OR of them is y
abbrev AndOr : Signal → Signal → Signal → Signal → ℕ → Type 0
AndOr a b x y t = (AND a b t ≡ x t) × (OR a b t ≡ y t)

-- two signals of which one is up wherever the other is
first_less : (a b : Signal) (t : ℕ) → (Up (a t) → Up (b t)) → AndOr a b a b t
first_less a b t h = (
  bool_ext _ _ (λ e. (AND_up a b t e).0) (λ u. AND_of a b t (u, h u)),
  bool_ext _ _ (λ e. ⊎_elim h (λ u. u) (OR_up a b t e)) (λ u. OR_of a b t (inr u)),
)

second_less : (a b : Signal) (t : ℕ) → (Up (b t) → Up (a t)) → AndOr a b b a t
second_less a b t h = (
  bool_ext _ _ (λ e. (AND_up a b t e).1) (λ u. AND_of a b t (h u, u)),
  bool_ext _ _ (λ e. ⊎_elim (λ u. u) h (OR_up a b t e)) (λ u. OR_of a b t (inl u)),
)

ton_input : (d : ℕ) (a : Signal) (t : ℕ) → Up (TON d a t) → Up (a t)
ton_input d a t e = (TON_up d a t e).1 t (omega arith, omega arith)

pub ton_and_input_lem : Holds ton_and_input
ton_and_input_lem env x t =
    (first_less (TON x.first (put_for env x f)) (put_for env x f) t (ton_input x.first (put_for env x f) t)).0

input_tof : (d : ℕ) (a : Signal) (t : ℕ) → Up (a t) → Up (TOF d a t)
input_tof d a t u = TOF_of d a t (t, (omega arith, omega arith), u)

pub input_and_tof_lem : Holds input_and_tof
input_and_tof_lem env x t =
    (first_less (put_for env x f) (TOF x.first (put_for env x f)) t (input_tof x.first (put_for env x f) t)).0

ton_over_and : (d : ℕ) (a b : Signal) (t : ℕ) → TON d (AND a b) t ≡ AND (TON d a) (TON d b) t
ton_over_and d a b t =
    bool_ext _ _
    (λ e.
    let w = TON_up d (AND a b) t e in
    AND_of (TON d a) (TON d b) t (
      TON_of d a t (w.0, λ n i. (AND_up a b n (w.1 n i)).0),
      TON_of d b t (w.0, λ n i. (AND_up a b n (w.1 n i)).1),
    ))
    (λ e.
    let h = AND_up (TON d a) (TON d b) t e in
    let v = TON_up d a t h.0 in
    let w = TON_up d b t h.1 in
    TON_of d (AND a b) t (v.0, λ n i. AND_of a b n (v.1 n i, w.1 n i)))

pub ton_of_and_lem : Holds ton_of_and
ton_of_and_lem env x t = ton_over_and x.first (put_for env x f) (put_for env x g) t

tof_over_or : (d : ℕ) (a b : Signal) (t : ℕ) → TOF d (OR a b) t ≡ OR (TOF d a) (TOF d b) t
tof_over_or d a b t =
    bool_ext _ _
    (λ e.
    let w = TOF_up d (OR a b) t e in
    OR_of (TOF d a) (TOF d b) t
    (⊎_elim
    (λ u. inl (TOF_of d a t (w.0, w.1, u)))
    (λ u. inr (TOF_of d b t (w.0, w.1, u)))
    (OR_up a b w.0 w.2)))
    (λ e.
    ⊎_elim
    (λ h. let w = TOF_up d a t h in TOF_of d (OR a b) t (w.0, w.1, OR_of a b w.0 (inl w.2)))
    (λ h. let w = TOF_up d b t h in TOF_of d (OR a b) t (w.0, w.1, OR_of a b w.0 (inr w.2)))
    (OR_up (TOF d a) (TOF d b) t e))

pub tof_of_or_lem : Holds tof_of_or
tof_of_or_lem env x t = tof_over_or x.first (put_for env x f) (put_for env x g) t

-- a moment k from t-(d+e) to t has a moment n from t-d to t from which it lies back at most e
between : (d e t k : ℕ) → FromTo (d + e) t k → (n : ℕ) × FromTo d t n × FromTo e n k
between d e t k i = go (leb t (k + 2 * e)) refl
  where
    go : (q : Bool) → leb t (k + 2 * e) ≡ q → (n : ℕ) × FromTo d t n × FromTo e n k
    go true h = let l : t ≤ k + 2 * e = leb-true t (k + 2 * e) h in (t, (omega arith, omega arith), (omega arith, omega arith))
    go false h =
        let l : k + 2 * e < t = leb-false t (k + 2 * e) h in
        (k + 2 * e, (omega arith, omega arith), (omega arith, omega arith))

-- t ≥ d+e when t ≥ d and each moment from t-d to t is ≥ e
started_sum : (d e t : ℕ) → Started d t → ((n : ℕ) → FromTo d t n → Started e n) → Started (d + e) t
started_sum d e t h k = go (leb (2 * d) t) refl
  where
    go : (q : Bool) → leb (2 * d) t ≡ q → Started (d + e) t
    go true r =
        let l : 2 * d ≤ t = leb-true (2 * d) t r in
        let w : 2 * e ≤ t - 2 * d + 1 = k (t - 2 * d) (omega arith, omega arith) in
        omega arith
    go false r =
        let l : t < 2 * d = leb-false (2 * d) t r in
        let w : 2 * e ≤ 0 + 1 = k 0 (omega arith, omega arith) in
        omega arith

ton_sum : (d e : ℕ) (a : Signal) (t : ℕ) → TON d (TON e a) t ≡ TON (d + e) a t
ton_sum d e a t =
    bool_ext _ _
    (λ h.
    let w = TON_up d (TON e a) t h in
    TON_of (d + e) a t (
      started_sum d e t w.0 (λ n i. (TON_up e a n (w.1 n i)).0),
      λ k i. let (n, j, m) = between d e t k i in (TON_up e a n (w.1 n j)).1 k m,
    ))
    (λ h.
    let w = TON_up (d + e) a t h in
    TON_of d (TON e a) t (
      omega (arith, w.0),
      λ n i. TON_of e a n (omega (arith, w.0), λ k j. w.1 k (omega arith, omega arith)),
    ))

pub ton_of_ton_lem : Holds ton_of_ton
ton_of_ton_lem env x t = ton_sum x.first x.second (put_for env x f) t

tof_sum : (d e : ℕ) (a : Signal) (t : ℕ) → TOF d (TOF e a) t ≡ TOF (d + e) a t
tof_sum d e a t =
    bool_ext _ _
    (λ h.
    let (n, i, u) = TOF_up d (TOF e a) t h in
    let (k, j, v) = TOF_up e a n u in
    TOF_of (d + e) a t (k, (omega arith, omega arith), v))
    (λ h.
    let (k, i, v) = TOF_up (d + e) a t h in
    let (n, j, m) = between d e t k i in
    TOF_of d (TOF e a) t (n, j, TOF_of e a n (k, m, v)))

pub tof_of_tof_lem : Holds tof_of_tof
tof_of_tof_lem env x t = tof_sum x.first x.second (put_for env x f) t

-- a longer on-delay is up less, a longer off-delay more
ton_longer : (d e : ℕ) (a : Signal) (t : ℕ) → d ≤ e → Up (TON e a t) → Up (TON d a t)
ton_longer d e a t l h =
    let w = TON_up e a t h in
    TON_of d a t (omega (arith, w.0), λ n i. w.1 n (i.0, omega (arith, i.1)))

tof_longer : (d e : ℕ) (a : Signal) (t : ℕ) → d ≤ e → Up (TOF d a t) → Up (TOF e a t)
tof_longer d e a t l h = let (n, i, u) = TOF_up d a t h in TOF_of e a t (n, (i.0, omega (arith, i.1)), u)

-- two lengths of a timer T, where AND is T of x if d is the smaller length, else of y, and OR the reverse
of_lengths : (T : ℕ → Signal) (d e x y t : ℕ) → (d ≤ e → AndOr (T d) (T e) (T x) (T y) t) → (e ≤ d → AndOr (T d) (T e) (T y) (T x) t) →
    AndOr (T d) (T e) (T (cond (leb d e) x y)) (T (cond (leb d e) y x)) t
of_lengths T d e x y t h k = go (leb d e) refl
  where
    go : (q : Bool) → leb d e ≡ q → AndOr (T d) (T e) (T (cond q x y)) (T (cond q y x)) t
    go true r = h (leb-true d e r)
    go false r = let l : e < d = leb-false d e r in k (omega arith)

ton_lengths : (d e : ℕ) (a : Signal) (t : ℕ) → AndOr (TON d a) (TON e a) (TON (cond (leb d e) e d) a) (TON (cond (leb d e) d e) a) t
ton_lengths d e a t =
    of_lengths (λ k. TON k a) d e e d t (λ l. second_less (TON d a) (TON e a) t (ton_longer d e a t l))
    (λ l. first_less (TON d a) (TON e a) t (ton_longer e d a t l))

tof_lengths : (d e : ℕ) (a : Signal) (t : ℕ) → AndOr (TOF d a) (TOF e a) (TOF (cond (leb d e) d e) a) (TOF (cond (leb d e) e d) a) t
tof_lengths d e a t =
    of_lengths (λ k. TOF k a) d e d e t (λ l. first_less (TOF d a) (TOF e a) t (tof_longer d e a t l))
    (λ l. second_less (TOF d a) (TOF e a) t (tof_longer e d a t l))

pub ton_and_ton_lem : Holds ton_and_ton
ton_and_ton_lem env x t = (ton_lengths x.first x.second (put_for env x f) t).0

pub ton_or_ton_lem : Holds ton_or_ton
ton_or_ton_lem env x t = (ton_lengths x.first x.second (put_for env x f) t).1

pub tof_and_tof_lem : Holds tof_and_tof
tof_and_tof_lem env x t = (tof_lengths x.first x.second (put_for env x f) t).0

pub tof_or_tof_lem : Holds tof_or_tof
tof_or_tof_lem env x t = (tof_lengths x.first x.second (put_for env x f) t).1

-- TON(d,1) is up from d on
started_up : (d t : ℕ) → Up (TON d (constant true) t) → Started d t
started_up d t e = (TON_up d (constant true) t e).0

started_of : (d t : ℕ) → Started d t → Up (TON d (constant true) t)
unfolding constant
started_of d t h = TON_of d (constant true) t (h, λ n i. refl)

-- from d on, where TON(d,f) is down, f was down at some moment from t-d to t
tof_of_down : (d : ℕ) (a : Signal) (t : ℕ) → Started d t → Down (TON d a t) → Up (TOF d (NOT a) t)
tof_of_down d a t h dn =
    ⊎_elim
    (λ u. u)
    (λ dn2.
    not_both_lem
    (TON_of d a t (h, λ n i. ⊎_elim (λ u. u) (λ v. not_both_lem (TOF_of d (NOT a) t (n, i, NOT_of a n v)) dn2) (up_or_down (a n))))
    dn)
    (up_or_down (TOF d (NOT a) t))

ton_complement : (d : ℕ) (a : Signal) (t : ℕ) →
    AND (NOT (TON d a)) (TON d (constant true)) t ≡ AND (TOF d (NOT a)) (TON d (constant true)) t
ton_complement d a t =
    bool_ext _ _
    (λ e.
    let h = AND_up (NOT (TON d a)) (TON d (constant true)) t e in
    AND_of (TOF d (NOT a)) (TON d (constant true)) t (
      tof_of_down d a t (started_up d t h.1) (NOT_up (TON d a) t h.0),
      h.1,
    ))
    (λ e.
    let h = AND_up (TOF d (NOT a)) (TON d (constant true)) t e in
    let w = TOF_up d (NOT a) t h.0 in
    AND_of (NOT (TON d a)) (TON d (constant true)) t (
      NOT_of (TON d a) t (down_of _ (λ u. not_both_lem ((TON_up d a t u).1 w.0 w.1) (NOT_up a w.0 w.2))),
      h.1,
    ))

pub not_ton_lem : Holds not_ton
not_ton_lem env x t = ton_complement x.first (put_for env x f) t

tof_complement : (d : ℕ) (a : Signal) (t : ℕ) → AND (NOT (TOF d a)) (TON d (constant true)) t ≡ TON d (NOT a) t
tof_complement d a t =
    bool_ext _ _
    (λ e.
    let h = AND_up (NOT (TOF d a)) (TON d (constant true)) t e in
    let dn = NOT_up (TOF d a) t h.0 in
    TON_of d (NOT a) t (
      started_up d t h.1,
      λ n i. NOT_of a n (down_of _ (λ u. not_both_lem (TOF_of d a t (n, i, u)) dn)),
    ))
    (λ e.
    let w = TON_up d (NOT a) t e in
    AND_of (NOT (TOF d a)) (TON d (constant true)) t (
      NOT_of (TOF d a) t (down_of _ (λ u. let v = TOF_up d a t u in not_both_lem v.2 (NOT_up a v.0 (w.1 v.0 v.1)))),
      started_of d t w.0,
    ))

pub not_tof_lem : Holds not_tof
not_tof_lem env x t = tof_complement x.first (put_for env x f) t
