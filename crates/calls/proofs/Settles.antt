-- On an accepted sheet every tree's signal is constant from its settling date on, so it has a normal list, and one only.
use Prim.Native.Nat.{ℕ}
use native.Mathlib.Omega.{arith}
use mathlib.Core.Path.{◌≡◌, refl, sym, ◌∙◌}
use mathlib.Core.Bool.{Bool, true, false, cond}
use mathlib.Core.List.{List, [], ◌∷◌}
use Rattle.signals.specs.Signal.{Signal}
use Rattle.signals.specs.Words.{signal_of, last_date}
use Rattle.signals.specs.Settled.{SettledFrom}
use Rattle.signals.proofs.Settling.{settling, settled_later}
use Rattle.signals.proofs.Normal.{accepted_settled, unique, list_of_signal}
use Rattle.grammar.specs.Tree.{Tree, leaf, unary, binary, down, up, name, invert, rise, fall, ton, tof, tp, and, or, sr, rs}
use Rattle.format.specs.Names.{same}
use Rattle.format.specs.Reading.{sheet_fault, Entry, name_of, list_on, signals_on, list_named, environment_on}
use Rattle.calls.specs.OnSheet.{signal_on, settling_date, exact_on}
use Rattle.calls.specs.NormalLists.{ListFor}
use Rattle.format.proofs.SheetLists.{AllSound, sheet_sound}

none_settles : SettledFrom (signal_of []) (last_date [])
unfolding signal_of
none_settles t l = refl

named_settles : (n : List ℕ) (es : List Entry) → AllSound es → SettledFrom (signal_of (list_named n es)) (last_date (list_named n es))
unfolding list_named
named_settles n [] h = none_settles
named_settles n (e ∷ es) h = go (same (name_of e) n) (named_settles n es h.1)
  where
    P : List ℕ → Type 0
    P l = SettledFrom (signal_of l) (last_date l)

    go : (b : Bool) → P (list_named n es) → P (cond b (list_on e) (list_named n es))
    go true r = accepted_settled (list_on e) h.0.listed
    go false r = r

pub settles : (sheet : List ℕ) → sheet_fault sheet ≡ 0 → (t : Tree) → SettledFrom (signal_on sheet t) (settling_date sheet t)
unfolding settling_date environment_on
settles sheet ok (leaf down) = settling.constants false
settles sheet ok (leaf up) = settling.constants true
settles sheet ok (leaf (name n)) = named_settles n (signals_on sheet) (sheet_sound sheet ok)
settles sheet ok (unary invert t) = settled_later _ _ _ (settling.not _ _ (settles sheet ok t)) (omega arith)
settles sheet ok (unary rise t) = settled_later _ _ _ (settling.rises _ _ (settles sheet ok t)) (omega arith)
settles sheet ok (unary fall t) = settled_later _ _ _ (settling.falls _ _ (settles sheet ok t)) (omega arith)
settles sheet ok (unary (ton d) t) = settled_later _ _ _ (settling.ton d _ _ (settles sheet ok t)) (omega arith)
settles sheet ok (unary (tof d) t) = settled_later _ _ _ (settling.tof d _ _ (settles sheet ok t)) (omega arith)
settles sheet ok (unary (tp d) t) = settled_later _ _ _ (settling.tp d _ _ (settles sheet ok t)) (omega arith)
settles sheet ok (binary and t u) = settled_later _ _ _ (settling.and _ _ _ _ (settles sheet ok t) (settles sheet ok u)) (omega arith)
settles sheet ok (binary or t u) = settled_later _ _ _ (settling.or _ _ _ _ (settles sheet ok t) (settles sheet ok u)) (omega arith)
settles sheet ok (binary sr t u) = settled_later _ _ _ (settling.sr _ _ _ _ (settles sheet ok t) (settles sheet ok u)) (omega arith)
settles sheet ok (binary rs t u) = settled_later _ _ _ (settling.rs _ _ _ _ (settles sheet ok t) (settles sheet ok u)) (omega arith)

pub exact_for_lem : (sheet : List ℕ) → sheet_fault sheet ≡ 0 → (t : Tree) → ListFor (signal_on sheet t) (exact_on sheet t)
unfolding exact_on
exact_for_lem sheet ok t =
    let l = list_of_signal (signal_on sheet t) (settling_date sheet t) (settles sheet ok t) in
    record { normal = l.normal; denotes = l.denotes }

pub one_for : {s : Signal} {l m : List ℕ} → ListFor s l → ListFor s m → l ≡ m
one_for {s} {l} {m} a b = unique l m a.normal b.normal (λ t. a.denotes t ∙ sym (b.denotes t))
