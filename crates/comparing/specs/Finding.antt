-- Mirrored: The scan along two lists for the first moment at which they fail, and on from there for the first at which they do not: what
-- the contracts say of any two lists.
use Rattle.std.specs.Prelude.{ℕ, ◌≤◌, ◌<◌, min, ◌≡◌, Bool, true, false, not, ◌&&◌, ◌||◌, List}
use Rattle.std.specs.Bool.{beq}
use Rattle.signals.specs.Passing.{held_value, at_date, passed_date}
use Rattle.signals.specs.declared.End.{End}
use Rattle.signals.specs.declared.End.TheVariants as ends
use Rattle.signals.specs.declared.Verdict.{Verdict}
use Rattle.signals.specs.declared.Verdict.TheVariants as verdict
use Rattle.reading.specs.Reading.{NEVER, next_date}
use Rattle.sources.specs.Sources.{On, list_at, start_of}
use Rattle.sources.specs.declared.Source.{Source}
use Rattle.comparing.specs.declared.Scan.{Scan}
use Rattle.comparing.specs.declared.Met.{Met}
use Rattle.comparing.specs.declared.Met.TheVariants.{Gap, Instant, Nothing}

-- p to q fails: p up and q down; both ways, also q up and p down
abbrev pub fails_by : Bool → Bool → Bool → Bool
fails_by both p q = not (beq p q) && (p || both)

-- what a scan seeks of two values: that they fail, or that they do not
abbrev pub sought_by : Bool → Bool → Bool → Bool → Bool
sought_by both failing p q = beq (fails_by both p q) failing

-- the earlier of the next dates, i and j words being passed
unfoldable pub next_of : List ℕ → List ℕ → ℕ → ℕ → ℕ
next_of a b i j = min (next_date a i) (next_date b j)

-- where a scan stands: in the gap after date k, its readers past i words of a and j of b
pub record Stands (a b : List ℕ) (s : Scan) (k i j : ℕ) : Type 0 where
  pub date : s.after ≡ k
  pub left : On a s.left i
  pub right : On b s.right j

abbrev pub Standing : List ℕ → List ℕ → Scan → Type 0
Standing a b s = Stands a b s s.after s.left.passed s.right.passed

-- at the start: in gap 0, the first words being passed
abbrev pub start_scan : List ℕ → List ℕ → Scan
start_scan a b = record { after = 0; left = start_of a; right = start_of b }

-- the values held are not what is sought up to the next date d, which is a word's
pub record Quiet (both failing : Bool) (a b : List ℕ) (i j d : ℕ) : Type 0 where
  pub held : sought_by both failing (held_value a i) (held_value b j) ≡ false
  pub next : d ≡ next_of a b i j
  pub left : d < NEVER

-- What the scan meets from the gap after date k on, i and j words being passed: this gap, or nothing with no word left, or the instant of
-- the next date, or what it meets from the gap after that on.
pub data Meets (both failing : Bool) (a b : List ℕ) : ℕ → ℕ → ℕ → Met → Type 0 where
  in_gap : {k i j : ℕ} {s : Scan} → sought_by both failing (held_value a i) (held_value b j) ≡ true → Stands a b s k i j
      → Meets both failing a b k i j (Gap s)
  ended : {k i j : ℕ} → sought_by both failing (held_value a i) (held_value b j) ≡ false → NEVER ≤ next_of a b i j
      → Meets both failing a b k i j Nothing
  at_instant : {k i j d : ℕ} {s : Scan} → Quiet both failing a b i j d → sought_by both failing (at_date a i d) (at_date b j d) ≡ true
      → Stands a b s d (passed_date a i d) (passed_date b j d) → Meets both failing a b k i j (Instant s)
  turn : {k i j d : ℕ} {r : Met} → Quiet both failing a b i j d → sought_by both failing (at_date a i d) (at_date b j d) ≡ false
      → Meets both failing a b d (passed_date a i d) (passed_date b j d) r → Meets both failing a b k i j r

-- from where a scan stands
abbrev pub MeetsFrom : Bool → Bool → List ℕ → List ℕ → Scan → Met → Type 0
MeetsFrom both failing a b s r = Meets both failing a b s.after s.left.passed s.right.passed r

-- how a run ends after which this is met: an instant before the gap, or the gap before the instant
abbrev pub end_met : Met → End
end_met (Gap s) = ends.At s.after
end_met (Instant s) = ends.Before s.after
end_met Nothing = ends.Never

-- the end that the second scan finds, from where the first stands
abbrev pub EndsSo : List ℕ → List ℕ → Scan → End → Type 0
EndsSo a b s end = (r : Met) × MeetsFrom false false a b s r × (end ≡ end_met r)

-- the verdict when the first scan has met this
abbrev pub Judges : List ℕ → List ℕ → Met → Verdict → Type 0
Judges a b (Gap s) v = (end : End) × EndsSo a b s end × (v ≡ verdict.FailsAfter s.after end)
Judges a b (Instant s) v = (end : End) × EndsSo a b s end × (v ≡ verdict.FailsAt s.after end)
Judges a b Nothing v = v ≡ verdict.Holds

-- the verdict of a to b: the first scan is from the start, gap 0, the first words being passed
abbrev pub Found : List ℕ → List ℕ → Verdict → Type 0
Found a b v = (r : Met) × Meets false true a b 0 1 1 r × Judges a b r v

-- the same of lists where they stand
abbrev pub FoundAt : List ℕ → List ℕ → List ℕ → List ℕ → Source → Source → Verdict → Type 0
FoundAt sheet left right work f g v = Found (list_at sheet left right work f) (list_at sheet left right work g) v
