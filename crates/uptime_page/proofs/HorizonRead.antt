-- H as the code reads it: a text that writes none is read as M + 1, which is above every H.
use Prim.Native.Nat.{ℕ, ◌+◌}
use native.Mathlib.Omega.{arith}
use mathlib.Core.Path.{◌≡◌, refl}
use mathlib.Core.Bool.{Bool, true, false, cond}
use mathlib.Core.List.{List}
use lib.Dec.{ltb}
use borrow.Author.Tests.{lt-ltb, le-ltb, ltb-true, ltb-false}
use Rattle.signals.specs.Moment.{M}
use Rattle.stretches.specs.Calls.{horizon_fault}
use Rattle.texts.specs.Lengths.{is_length, value, capped, length_read}
use Rattle.std.proofs.Common.{Result, Ok, Err}
use Rattle.signals.specs.declared.Length.{Length}
use Rattle.texts.specs.declared.NotRead.{NotRead}
use Rattle.texts.specs.declared.NotRead.TheVariants.{NotALength, AboveM}
use Rattle.uptime_page.specs.Printing.{horizon_text_fault}
use Rattle.uptime_page.specs.Words.{horizon_in}

-- the ticks that were read
abbrev pub ticks_in : Result Length NotRead → ℕ
ticks_in (Ok length) = length.0
ticks_in (Err why) = M + 1

pub read_as : (text : List ℕ) → ticks_in (length_read text) ≡ horizon_in text
unfolding length_read horizon_in capped
read_as text = go (is_length text) (ltb M (value text)) refl
  where
    go : (a b : Bool) → ltb M (value text) ≡ b
        → ticks_in (cond a (cond b (Err AboveM) (Ok (record { 0 = value text }))) (Err NotALength)) ≡ cond a (capped (value text)) (M + 1)
    go true true e = omega (arith, ltb-true M (value text) e)
    go true false e = omega (arith, ltb-false M (value text) e)
    go false b e = refl

pub horizon_fault_lem : (text : List ℕ) → horizon_fault (horizon_in text) ≡ horizon_text_fault text
unfolding horizon_fault horizon_in horizon_text_fault capped
horizon_fault_lem text = go (is_length text) (ltb M (value text)) refl
  where
    go : (a b : Bool) → ltb M (value text) ≡ b
        → ◌≡◌ {A = ℕ} (cond (ltb M (cond a (capped (value text)) (M + 1))) 19 0) (cond a (cond (ltb M (value text)) 19 0) 19)
    go true true e = rw (e, lt-ltb M (capped (value text)) (omega (arith, ltb-true M (value text) e)))
    go true false e = rw (e, le-ltb M (capped (value text)) (omega (arith, ltb-false M (value text) e)))
    go false b e = refl

-- without that fault, the horizon that was read is the number written
pub horizon_value : (text : List ℕ) → horizon_text_fault text ≡ 0 → horizon_in text ≡ value text
unfolding horizon_text_fault horizon_fault horizon_in capped
horizon_value text h = go (is_length text) (ltb M (value text)) refl h
  where
    go : (a b : Bool) → ltb M (value text) ≡ b → ◌≡◌ {A = ℕ} (cond a (cond b 19 0) 19) 0 → cond a (capped (value text)) (M + 1) ≡ value text
    go true true e z = absurd (omega arith)
    go true false e z = omega (arith, ltb-false M (value text) e)
    go false b e z = absurd (omega arith)
