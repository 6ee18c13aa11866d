-- Tidying gives the one normal list of the signal, never a longer one.
use Prim.Native.Nat.{ℕ, ◌-◌, ◌≤◌}
use native.Mathlib.Omega.{arith}
use mathlib.Core.Path.{◌≡◌, refl, sym, ◌∙◌}
use mathlib.Core.List.{List, [], ◌∷◌}
use mathlib.Core.Bool.{Bool, true, false, cond, beq, ◌&&◌}
use lib.Dec.{ltb}
use lib.ListN.{length, length-append}
use borrow.Author.Tests.{ltb-false}
use Rattle.signals.specs.Signal.{Signal}
use Rattle.signals.specs.Words.{word, date_of, value_at, value_after, head_value, dates_fault, tidy_fault, signal_of, last_from, last_date}
use Rattle.signals.specs.Words.{most_words}
use Rattle.signals.specs.Words.{words_of, list_of}
use Rattle.signals.specs.Settled.{SettledFrom, Same, entry}
use Rattle.signals.specs.Normal.{Normal, Rising}
use Rattle.signals.specs.Tidying.{Tidying}
use Rattle.signals.specs.Words.{tidied}
use Rattle.signals.proofs.Scan.{scan_to, scan_settled}
use Rattle.signals.proofs.Operand.{Ahead, pass_word, no_fault_rise, value_none}
use Rattle.signals.proofs.Normal.{last_le, ahead_settled, start, read_back_lem, unique, accepted_normal, list_of_signal}

-- what tidying accepts
pub record Tidy (h : ℕ) (ws : List ℕ) : Type 0 where
  pub first : h ≤ 1
  pub rises : Rising 0 ws
  pub short : length (h ∷ ws) ≤ most_words

pub tidy : (h : ℕ) (ws : List ℕ) → tidy_fault (h ∷ ws) ≡ 0 → Tidy h ws
unfolding tidy_fault
tidy h ws z = go (ltb most_words (length (h ∷ ws))) (ltb 1 h) refl refl z
  where
    go : (t u : Bool) → ltb most_words (length (h ∷ ws)) ≡ t → ltb 1 h ≡ u → cond t 1 (cond u 2 (dates_fault 0 ws)) ≡ 0 → Tidy h ws
    go true u p q e = absurd (omega arith)
    go false true p q e = absurd (omega arith)
    go false false p q e = record {
      first = ltb-false 1 h q;
      rises = no_fault_rise 0 ws e;
      short = ltb-false most_words
          (length (h ∷ ws)) p;
    }

pub not_empty : tidy_fault [] ≡ 0 → ⊥
unfolding tidy_fault
not_empty e = omega arith

pub tidy_settled : (l : List ℕ) → tidy_fault l ≡ 0 → SettledFrom (signal_of l) (last_date l)
unfolding last_date
tidy_settled [] z = absurd (not_empty z)
tidy_settled (h ∷ ws) z = ahead_settled (signal_of (h ∷ ws)) 0 (head_value h) ws (start h ws (tidy h ws z).rises)

-- one date gives at most one word, so the scan has no more words than the operand
entry_length : (v : Bool) (d : ℕ) (a b : Bool) → length (entry v d a b) ≤ 1
unfolding entry
entry_length v d a b = go (beq a v && beq b v)
  where
    go : (t : Bool) → length (cond t [] (word d a b ∷ [])) ≤ 1
    go true = omega arith
    go false = omega arith

pub scan_length : (f : Signal) (m k : ℕ) (v : Bool) (ws : List ℕ) → Ahead f k v ws → last_from k ws ≤ m
    → length (words_of f k (m - k)) ≤ length ws
unfolding last_from
scan_length f m k v [] a le = rw (scan_settled f (m - k) k v (λ t g. a.says t g ∙ value_none v t)) (omega arith)
scan_length f m k v (w ∷ ws) a le =
    let step = pass_word f k v w ws a in
    let d : date_of w ≤ m = omega (arith, last_le (date_of w) ws a.rises.1) in
    rw
    (scan_to f m k (date_of w) v (value_at w) (value_after w) step.0 d)
    (omega (
      arith,
      length-append (entry v (date_of w) (value_at w) (value_after w)) (words_of f (date_of w) (m - date_of w)),
      entry_length v (date_of w) (value_at w) (value_after w),
      scan_length f m (date_of w) (value_after w) ws step.1 le,
    ))

tidied_shorter : (l : List ℕ) → tidy_fault l ≡ 0 → length (tidied l) ≤ length l
unfolding tidied list_of last_date
tidied_shorter [] z = absurd (not_empty z)
tidied_shorter (h ∷ ws) z =
    let e : last_from 0 ws - 0 ≡ last_from 0 ws = omega arith in
    let s = rw e at (scan_length (signal_of (h ∷ ws)) (last_from 0 ws) 0 (head_value h) ws (start h ws (tidy h ws z).rises)
    (omega arith)) in
    omega arith

tidied_normal : (l : List ℕ) → tidy_fault l ≡ 0 → Normal (tidied l)
unfolding tidied
tidied_normal l z = (list_of_signal (signal_of l) (last_date l) (tidy_settled l z)).normal

tidied_denotes : (l : List ℕ) → tidy_fault l ≡ 0 → Same (signal_of (tidied l)) (signal_of l)
unfolding tidied
tidied_denotes l z = (list_of_signal (signal_of l) (last_date l) (tidy_settled l z)).denotes

short : (l : List ℕ) → tidy_fault l ≡ 0 → length l ≤ most_words
short [] z = absurd (not_empty z)
short (h ∷ ws) z = (tidy h ws z).short

pub tidying : Tidying
unfolding tidied
tidying =
    record {
      normal = tidied_normal;
      accepted = λ l z. (accepted_normal (tidied l)).1 (tidied_normal l z, omega (arith, tidied_shorter l z, short l z));
      denotes = tidied_denotes;
      one =
          λ l m y z s. unique (tidied l) (tidied m) (tidied_normal l y) (tidied_normal m z)
          (λ t. tidied_denotes l y t ∙ s t ∙ sym (tidied_denotes m z t));
      keeps = λ l a. (read_back_lem l ((accepted_normal l).0 a).0).same;
      shorter = tidied_shorter;
    }
