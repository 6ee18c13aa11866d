-- Tidying keeps exactly the words that change something.
use Prim.Native.Nat.{ℕ, ◌-◌, ◌≤◌}
use native.Mathlib.Omega.{arith}
use mathlib.Core.Path.{◌≡◌, refl, ◌∙◌, ap}
use mathlib.Core.Bool.{Bool, true, false, cond}
use mathlib.Core.List.{List, [], ◌∷◌, ◌++◌}
use Rattle.signals.specs.Signal.{Signal}
use Rattle.signals.specs.Words.{date_of, value_at, value_after, head_value, changes_nothing, tidied, signal_of}
use Rattle.signals.specs.Words.{last_from, last_date, words_of}
use Rattle.signals.specs.Settled.{entry}
use Rattle.signals.proofs.WordFacts.{word_of, num_head_value}
use Rattle.signals.proofs.Scan.{scan_to, scan_settled, list_of_scan}
use Rattle.signals.proofs.Operand.{Ahead, pass_word, value_none, value_held}
use Rattle.signals.proofs.Normal.{last_le, start}
use Rattle.signals.proofs.Tidying.{not_empty, tidy}
use Rattle.tidying.specs.Kept.{changing, kept, KeptExact}

-- a date's entry before other words is its word, where that changes something
entry_kept : (v : Bool) (w : ℕ) (ws : List ℕ)
    → entry v (date_of w) (value_at w) (value_after w) ++ ws ≡ cond (changes_nothing v w) ws (w ∷ ws)
unfolding entry changes_nothing
entry_kept v w ws = rw (word_of w) (go (changes_nothing v w))
  where
    go : (t : Bool) → cond t [] (w ∷ []) ++ ws ≡ cond t ws (w ∷ ws)
    go true = refl
    go false = refl

-- the scan of an operand gives the words that change something
scan_changing : (f : Signal) (m k : ℕ) (v : Bool) (ws : List ℕ) → Ahead f k v ws → last_from k ws ≤ m
    → words_of f k (m - k) ≡ changing v ws
unfolding last_from changing
scan_changing f m k v [] a le = scan_settled f (m - k) k v (λ t g. a.says t g ∙ value_none v t)
scan_changing f m k v (w ∷ ws) a le =
    let step = pass_word f k v w ws a in
    let d : date_of w ≤ m = omega (arith, last_le (date_of w) ws a.rises.1) in
    scan_to f m k (date_of w) v (value_at w) (value_after w) step.0 d
    ∙ rw (scan_changing f m (date_of w) (value_after w) ws step.1 le) (entry_kept v w (changing (value_after w) ws))

pub kept_exact : KeptExact
unfolding tidied last_date kept
kept_exact [] z = absurd (not_empty z)
kept_exact (h ∷ ws) z =
    let t = tidy h ws z in
    let a = start h ws t.rises in
    let first : signal_of (h ∷ ws) 0 ≡ head_value h = a.says 0 (omega arith) ∙ value_held (head_value h) 0 ws 0 a.rises (omega arith) in
    list_of_scan (signal_of (h ∷ ws)) (last_from 0 ws)
    ∙ rw (first, num_head_value h t.first)
    (ap (λ l. h ∷ l) (scan_changing (signal_of (h ∷ ws)) (last_from 0 ws) 0 (head_value h) ws a (omega arith)))
