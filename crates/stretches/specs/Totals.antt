-- Statement: Document 02, request 2: what the total is, that up and down make H, and what a lone instant does; how many stretches and
-- words there are, and how large these are.
use Rattle.std.specs.Prelude.{ℕ, zero, suc, ◌+◌, ◌*◌, ◌-◌, ◌≤◌, ◌<◌, ◌≡◌, not, List, [], length}
use Rattle.signals.specs.Moment.{gap, instant}
use Rattle.signals.specs.Signal.{Signal, num, NOT}
use Rattle.signals.specs.Words.{most_words, signal_of}
use Rattle.signals.specs.Normal.{Accepted}
use Rattle.signals.specs.Quantified.{Up, Down}
use Rattle.stretches.specs.Stretches.{Stretch, stretches_before, sum_of_ticks, stretch_words}
use Rattle.stretches.specs.LongestRuns.{IsAmong}

-- the number of up gaps among gaps 0 to H-1, and that of down gaps among them
unfoldable pub up_gaps : Signal → ℕ → ℕ
up_gaps f zero = 0
up_gaps f (suc k) = up_gaps f k + num (f (gap k))

unfoldable pub down_gaps : Signal → ℕ → ℕ
down_gaps f zero = 0
down_gaps f (suc k) = down_gaps f k + num (not (f (gap k)))

pub record Totals : Type 0 where
  -- "The total is the sum of the printed lengths and the number of up gaps among gaps 0 to H-1."
  pub total : (f : Signal) (H : ℕ) → sum_of_ticks (stretches_before f H) ≡ up_gaps f H
  -- "Up total and down total, each counted from its own gaps, make H": by gaps, and by the stretches of what is up where f is down
  pub both : (f : Signal) (H : ℕ) → up_gaps f H + down_gaps f H ≡ H
  pub down : (f : Signal) (H : ℕ) → sum_of_ticks (stretches_before (NOT f) H) ≡ down_gaps f H
  -- "A lone instant has no line when up and splits nothing when down": signals that differ at one instant only have the same stretches,
  pub lone : (f g : Signal) (H i : ℕ) → 1 ≤ i → ((t : ℕ) → (t ≡ instant i → ⊥) → f t ≡ g t) → stretches_before f H ≡ stretches_before g H
  -- and so have those that differ at instants and in gaps from H on
  pub gaps_alone : (f g : Signal) (H : ℕ) → ((k : ℕ) → k < H → f (gap k) ≡ g (gap k)) → stretches_before f H ≡ stretches_before g H
  -- no stretch has a down gap: an up instant between two down gaps has no line
  pub no_line : (f : Signal) (H k : ℕ) → Down (f (gap k)) → (s : Stretch) → IsAmong (stretches_before f H) s → s.first ≤ k
      → k < s.first + s.ticks → ⊥
  -- what is up before instant i and after it is in one stretch, whatever it is at i
  pub unsplit : (f : Signal) (H i : ℕ) → 1 ≤ i → i < H → Up (f (gap (i - 1))) → Up (f (gap i))
      → (s : Stretch) × IsAmong (stretches_before f H) s × (s.first ≤ i - 1) × (i < s.first + s.ticks)
  -- before horizon 0 there is none
  pub none : (f : Signal) → stretches_before f 0 ≡ []
  -- no stretch reaches over H
  pub within : (f : Signal) (H : ℕ) (s : Stretch) → IsAmong (stretches_before f H) s → s.first + s.ticks ≤ H
  -- two words a stretch; and those of an accepted list have no more words than a list may have
  pub two : (ss : List Stretch) → length (stretch_words ss) ≡ 2 * length ss
  pub few : (l : List ℕ) (H : ℕ) → Accepted l → length (stretch_words (stretches_before (signal_of l) H)) ≤ most_words
