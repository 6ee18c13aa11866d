-- What the scan meets in two accepted lists: the first moment since it began that is sought, and the lists' values from there on.
use Prim.Native.Nat.{ℕ, ◌≤◌}
use native.Mathlib.Omega.{arith}
use mathlib.Core.Path.{◌≡◌, refl, ◌∙◌}
use mathlib.Core.Bool.{Bool, true, false}
use mathlib.Core.List.{List}
use lib.Dec.{ltb}
use borrow.Author.Tests.{ltb-true, ltb-false}
use Rattle.slices.specs.Bytes.{Words}
use Rattle.signals.specs.Moment.{gap, instant}
use Rattle.signals.specs.Signal.{Signal}
use Rattle.signals.specs.Quantified.{Up, Down}
use Rattle.sources.specs.Sources.{On, cursor_at}
use Rattle.sources.specs.declared.Cursor.{Cursor}
use Rattle.comparing.specs.declared.Scan.{Scan}
use Rattle.comparing.specs.declared.Met.{Met}
use Rattle.comparing.specs.declared.Met.TheVariants.{Gap, Instant, Nothing}
use Rattle.comparing.specs.Finding.{Stands, Meets, in_gap, ended, at_instant, turn}
use Rattle.comparing.proofs.Watching.{sought, Clear, Both, Watching, at_last, in_gap_lem, later, clear_before, at_date_lem, passed_both}
use Rattle.comparing.proofs.Watching.{watch_on}

-- t is the first moment from m on that has p
pub record First (p : Signal) (m t : ℕ) : Type 0 where
  pub since : m ≤ t
  pub up : Up (p t)
  pub clear : Clear p m t

-- where a scan stands in two lists
abbrev pub Here : List ℕ → List ℕ → Scan → Type 0
Here a b s = Both a b s.after s.left.passed s.right.passed

-- what is met tells the first moment from m on that has p
abbrev pub Tells : List ℕ → List ℕ → Signal → ℕ → Met → Type 0
Tells a b p m (Gap s) = First p m (gap s.after) × Here a b s
Tells a b p m (Instant s) = (1 ≤ s.after) × First p m (instant s.after) × Here a b s
Tells a b p m Nothing = (u : ℕ) → m ≤ u → Down (p u)

pub passed_is : (l : List ℕ) (c : Cursor) (i : ℕ) → On l c i → c.passed ≡ i
unfolding cursor_at
passed_is l c i o = rw o.is

-- a scan that stands there, seen from its own numbers
stands_here : (a b : List ℕ) (s : Scan) (k i j : ℕ) → Stands a b s k i j → Both a b k i j → Here a b s
stands_here a b s k i j h x = rw (h.date, passed_is a s.left i h.left, passed_is b s.right j h.right) x

module _ (both failing : Bool) (a b : List ℕ) (wa : Words a) (wb : Words b) where
  pub first_met : {m k i j : ℕ} {r : Met} → Watching both failing a b m k i j → Meets both failing a b k i j r
      → Tells a b (sought both failing a b) m r
  first_met {m} {k} {i} {j} w (in_gap {s = s} e h) = (
    rw h.date (record { since = w.begun; up = in_gap_lem both failing a b w ∙ e; clear = w.clear }),
    stands_here a b s k i j h w.at,
  )
  first_met {m} {k} w (ended e n) = none
    where
      none : (u : ℕ) → m ≤ u → Down (sought both failing a b u)
      none u f = go (ltb u (gap k)) refl
        where
          go : (t : Bool) → ltb u (gap k) ≡ t → Down (sought both failing a b u)
          go true q = w.clear u f (ltb-true u (gap k) q)
          go false q = at_last both failing a b w wa wb n u (ltb-false u (gap k) q) ∙ e
  first_met {m} {k} {i} {j} w (at_instant {d = d} {s = s} n e h) = (
    rw h.date (omega (arith, later both failing a b w n)),
    rw h.date (record {
      since = omega (arith, w.begun, later both failing a b w n);
      up = at_date_lem both failing a b w n ∙ e;
      clear = clear_before both failing a b w n;
    }),
    stands_here a b s d _ _ h (passed_both both failing a b w n),
  )
  first_met w (turn n e f) = first_met (watch_on both failing a b w n e) f
