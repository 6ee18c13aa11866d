-- What a reader says of the words it has passed: the place of each number passed, by going along from the first word.
use Prim.Native.Nat.{ℕ, zero, suc, ◌+◌, ◌-◌, ◌≤◌, ◌<◌}
use native.Mathlib.Omega.{arith}
use native.Mathlib.Decide.{dec_le}
use mathlib.Core.Path.{◌≡◌, sym}
use mathlib.Core.List.{List, [], ◌∷◌}
use mathlib.Core.Logic.{◌↔◌}
use lib.ListN.{length, get_or, drop}
use Rattle.signals.specs.Moment.{M, gap, instant}
use Rattle.signals.specs.Words.{date_of, signal_of}
use Rattle.signals.specs.Normal.{Accepted}
use Rattle.signals.specs.ListFaults.{date_before}
use Rattle.signals.specs.Passing.{held_value, passed_date}
use Rattle.signals.proofs.WordFacts.{date_bounds}
use Rattle.signals.proofs.Operand.{At, at_take, at_end_lem, at_pass, next_later}
use Rattle.signals.proofs.Normal.{accepted_normal, accepted_start}
use Rattle.signals.specs.Giving.{WithinM}
use Rattle.reading.specs.Dated.{count_by, dated_by}
use Rattle.reading.specs.Reading.{NEVER, next_date}
use Rattle.reading.specs.ReaderSays.{PastDate, Says, ReaderSays}
use Rattle.reading.proofs.Counting.{next_in, next_none, count_start, count_passed, none_left, pass_count}
use Rattle.reading.proofs.AlongWords.{along_dated, sought}

module _ (l : List ℕ) (z : Accepted l) where
  -- going along: p words passed, the list's signal is ahead of the last date passed
  along : (p : ℕ) → 1 ≤ p → p ≤ length l → At (signal_of l) l p (date_before l p)
  along zero o h = absurd (omega arith)
  along (suc zero) o h = accepted_start l z
  along (suc (suc i)) o h =
      let e : suc i + 1 ≡ suc (suc i) = omega arith in
      rw e at (at_take (signal_of l) l (suc i) (date_before l (suc i)) (along (suc i) (omega arith) (omega arith)) (omega arith)).1

  -- the dates passed rise
  rises : (i : ℕ) → suc (suc i) ≤ length l → date_before l (suc i) < date_of (get_or l (suc i) 0)
  rises i h = next_later (signal_of l) l (suc i) (date_before l (suc i)) (along (suc i) (omega arith) (omega arith)) (omega arith)

  -- the words dated at or before k, the last date passed or a later one: those passed and some of those left
  counted : (k p : ℕ) → 1 ≤ p → p ≤ length l → date_before l p ≤ k → dated_by k l ≡ p + count_by k (drop p l)
  counted k zero o h le = absurd (omega arith)
  counted k (suc zero) o h le = count_start l k z
  counted k (suc (suc i)) o h le =
      let e : suc i + 1 ≡ suc (suc i) = omega arith in
      let rec = counted k (suc i) (omega arith) (omega arith) (omega (arith, rises i h)) in
      rw e at (count_passed l k (suc i) (dated_by k l) (omega arith) le rec)

  first_date : date_of (get_or l 0 0) ≡ 0
  first_date = go l z
    where
      go : (l : List ℕ) → Accepted l → date_of (get_or l 0 0) ≡ 0
      go [] a = absurd ((accepted_normal []).0 a).0
      go (h ∷ ws) a = omega (arith, date_bounds h, ((accepted_normal (h ∷ ws)).0 a).0.0)

  -- no word passed is dated after the last one passed
  passed_le : (p i : ℕ) → i < p → p ≤ length l → date_of (get_or l i 0) ≤ date_before l p
  passed_le zero i o h = absurd (omega arith)
  passed_le (suc zero) zero o h = omega (arith, first_date)
  passed_le (suc zero) (suc i) o h = absurd (omega arith)
  passed_le (suc (suc p)) i o h = go (dec_le i p) (λ le. passed_le (suc p) i (omega arith) (omega arith))
    where
      go : Dec (i ≤ p) → (i ≤ p → date_of (get_or l i 0) ≤ date_before l (suc p)) → date_of (get_or l i 0) ≤ date_of (get_or l (suc p) 0)
      go (yes le) rec = omega (arith, rec le, rises p h)
      go (no n) rec = let e : i ≡ suc p = omega arith in rw e (omega arith)

  before_le : WithinM l → (p : ℕ) → p ≤ length l → date_before l p ≤ M
  before_le w zero h = omega arith
  before_le w (suc zero) h = omega arith
  before_le w (suc (suc i)) h = w (suc i) (omega arith)

  module _ (w : WithinM l) (p : ℕ) (o : 1 ≤ p) (h : p ≤ length l) where
    -- the next date lies above the last one passed
    later : date_before l p < next_date l p
    later = go (dec_le (p + 1) (length l))
      where
        go : Dec (p + 1 ≤ length l) → date_before l p < next_date l p
        go (yes q) = rw (next_in l p (omega arith)) (next_later (signal_of l) l p (date_before l p) (along p o h) (omega arith))
        go (no n) = rw (next_none l p (omega arith)) (omega (arith, before_le w p h))

    held : (t : ℕ) → gap (date_before l p) ≤ t → (p < length l → t < instant (next_date l p)) → held_value l p ≡ signal_of l t
    held t g b = go (dec_le (p + 1) (length l))
      where
        go : Dec (p + 1 ≤ length l) → held_value l p ≡ signal_of l t
        go (yes q) =
            let u : t < instant (date_of (get_or l p 0)) = rw (next_in l p (omega arith)) at (b (omega arith)) in
            sym ((at_take (signal_of l) l p (date_before l p) (along p o h) (omega arith)).0.still t g u)
        go (no n) = sym (at_end_lem (signal_of l) l p (date_before l p) (along p o h) (omega arith) t g)

    none : next_date l p ≡ NEVER ↔ p ≡ length l
    none = (λ e. go e (dec_le (p + 1) (length l)), λ e. next_none l p (omega arith))
      where
        go : next_date l p ≡ NEVER → Dec (p + 1 ≤ length l) → p ≡ length l
        go e (yes q) = absurd (omega (arith, w p (omega arith), next_in l p (omega arith)))
        go e (no n) = omega arith

    past : (e : ℕ) → date_before l p < e → e ≤ next_date l p → PastDate l p e
    past e a b =
        let le : p < length l → e ≤ date_of (get_or l p 0) = λ q. rw (next_in l p q) at b in
        let step = at_pass (signal_of l) l p (date_before l p) e (along p o h) a le in
        record {
          before = sym (step.held.still (gap (e - 1)) (omega arith) (omega arith));
          at = sym step.held.at;
          after = sym step.held.after;
          passed = none_left l e (passed_date l p e) step.on (pass_count l e p (dated_by e l) (counted e p o h (omega arith)));
        }

    says : Says l p
    says =
        record {
          passed = none_left l (date_before l p) p (along p o h) (counted (date_before l p) p o h (omega arith));
          next = next_in l p;
          none = none;
          above = λ i q. omega (arith, passed_le p i q h, later);
          held = held;
          past = past;
        }

pub reader_says : ReaderSays
reader_says =
    record {
      says = λ l p z w o h. says l z w p o h;
      along = λ l e k z le. along_dated l z e k le;
      sought = λ l k z. sought l z k;
      never = λ d n a b. omega arith;
    }
