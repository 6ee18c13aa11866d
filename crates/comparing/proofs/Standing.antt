-- Where the scans stand: the first at the start of both lists, the second where the first has met a failing moment.
use Prim.Native.Nat.{ℕ}
use mathlib.Core.Path.{◌≡◌, refl, sym, subst}
use mathlib.Core.Bool.{Bool, true, false}
use mathlib.Core.List.{List}
use Rattle.signals.specs.declared.End.{End}
use Rattle.signals.specs.declared.Verdict.TheVariants.{Holds, FailsAt, FailsAfter}
use Rattle.sources.specs.Sources.{On, start_of, cursor_at}
use Rattle.sources.specs.declared.Cursor.{Cursor}
use Rattle.sources.proofs.Going.{on_start}
use Rattle.comparing.specs.declared.Scan.{Scan}
use Rattle.comparing.specs.declared.Met.{Met}
use Rattle.comparing.specs.declared.Met.TheVariants.{Gap, Instant, Nothing}
use Rattle.comparing.specs.Finding.{Standing, start_scan, Meets, MeetsFrom, in_gap, ended, at_instant, turn, EndsSo, Found}
use Rattle.comparing.proofs.FirstFound.{passed_is}

-- by its own numbers
self : (l : List ℕ) (c : Cursor) (i : ℕ) → On l c i → On l c c.passed
self l c i o = subst (On l c) (sym (passed_is l c i o)) o

module _ (a b : List ℕ) where
  -- at the start
  starts : Standing a b (start_scan a b)
  unfolding cursor_at
  starts =
      record {
        date = refl;
        left = self a (start_of a) 1 (on_start a (start_of a) refl);
        right = self b (start_of b) 1 (on_start b (start_of b) refl);
      }

  pub at_start : (s : Scan) → s ≡ start_scan a b → Standing a b s
  at_start s e = subst (Standing a b) (sym e) starts

  pub from_start : (both failing : Bool) (s : Scan) → s ≡ start_scan a b → (r : Met) → MeetsFrom both failing a b s r
      → Meets both failing a b 0 1 1 r
  unfolding cursor_at
  from_start both failing s e r h = subst (λ s. MeetsFrom both failing a b s r) e h

  -- where it has met something
  abbrev StandsIn : Met → Type 0
  StandsIn (Gap s) = Standing a b s
  StandsIn (Instant s) = Standing a b s
  StandsIn Nothing = Unit

  met_stands : {both failing : Bool} {k i j : ℕ} {r : Met} → Meets both failing a b k i j r → StandsIn r
  met_stands (in_gap {s = s} e h) = record { date = refl; left = self a s.left _ h.left; right = self b s.right _ h.right }
  met_stands (ended e n) = tt
  met_stands (at_instant {s = s} n e h) = record { date = refl; left = self a s.left _ h.left; right = self b s.right _ h.right }
  met_stands (turn n e f) = met_stands f

  module _ {both failing : Bool} {k i j : ℕ} (r : Met) (h : Meets both failing a b k i j r) (s : Scan) where
    pub gap_stands : r ≡ Gap s → Standing a b s
    gap_stands e = subst StandsIn e (met_stands h)

    pub instant_stands : r ≡ Instant s → Standing a b s
    instant_stands e = subst StandsIn e (met_stands h)

  -- the verdict
  module _ (from : Scan) (begun : from ≡ start_scan a b) (r : Met) (h : MeetsFrom false true a b from r) where
    met : (q : Met) → r ≡ q → Meets false true a b 0 1 1 q
    met q e = subst (Meets false true a b 0 1 1) e (from_start false true from begun r h)

    pub found_gap : (s : Scan) → r ≡ Gap s → (end : End) → EndsSo a b s end → Found a b (FailsAfter s.after end)
    found_gap s e end so = (Gap s, met (Gap s) e, (end, so, refl))

    pub found_instant : (s : Scan) → r ≡ Instant s → (end : End) → EndsSo a b s end → Found a b (FailsAt s.after end)
    found_instant s e end so = (Instant s, met (Instant s) e, (end, so, refl))

    pub found_none : r ≡ Nothing → Found a b Holds
    found_none e = (Nothing, met Nothing e, refl)
