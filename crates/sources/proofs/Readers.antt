-- A reader by value of a list of words below 2^32: past the first word, and past a date.
use Prim.Native.Nat.{ℕ, ◌<◌}
use mathlib.Core.Path.{◌≡◌, sym, subst}
use mathlib.Core.List.{List}
use lib.ListN.{length}
use Rattle.slices.specs.Bytes.{Words}
use Rattle.signals.specs.Words.{value_after}
use Rattle.signals.specs.Passing.{held_value}
use Rattle.reading.specs.Reading.{NEVER, next_date, step_past}
use Rattle.sources.specs.Sources.{cursor_at, start_of, past_on, On}
use Rattle.sources.specs.declared.Cursor.{Cursor}
use Rattle.sources.specs.declared.Passed.{Passed}
use Rattle.sources.proofs.Going.{on_start, on_date, on_held, on_step, on_next}

on_passed : (l : List ℕ) (c : Cursor) (i : ℕ) → On l c i → c.passed ≡ i
unfolding cursor_at
on_passed l c i o = rw o.is

pub start_passed : (l : List ℕ) (c : Cursor) → c ≡ start_of l → c.passed ≡ 1
start_passed l c e = on_passed l c 1 (on_start l c e)

pub record Reading (l : List ℕ) (x : Cursor) : Type 0 where
  pub small : Words l
  pub short : length l < 4294967296
  pub on : On l x x.passed

pub reads_start : (l : List ℕ) → Words l → length l < 4294967296 → (x : Cursor) → x ≡ start_of l → Reading l x
reads_start l small short x e =
    record { small = small; short = short; on = subst (λ (i : ℕ). On l x i) (sym (start_passed l x e)) (on_start l x e) }

module _ (l : List ℕ) (x : Cursor) (g : Reading l x) where
  pub reads_date : x.date ≡ next_date l x.passed
  reads_date = on_date l g.small g.short x x.passed g.on

  pub reads_held : value_after x.last ≡ held_value l x.passed
  reads_held = on_held l g.small g.short x x.passed g.on

  module _ (d : ℕ) (early : d < NEVER) (u : Passed) (e : u ≡ past_on l x d) where
    pub reads_step : u.step ≡ step_past l x.passed d
    reads_step = on_step l g.small g.short x x.passed g.on d early u e

    goes : On l u.next u.step.passed
    goes = on_next l g.small g.short x x.passed g.on d early u e

    pub reads_passed : u.next.passed ≡ u.step.passed
    reads_passed = on_passed l u.next u.step.passed goes

    pub reads_on : Reading l u.next
    reads_on = record { small = g.small; short = g.short; on = subst (λ (i : ℕ). On l u.next i) (sym reads_passed) goes }
