-- The line tells the answer: the first number ends before a space, then comes how the failing run ends, and its number.
use Prim.Native.Nat.{ℕ, ◌^◌, ◌<◌}
use native.Mathlib.Omega.{arith}
use mathlib.Core.Path.{◌≡◌, refl, sym, ap, ◌∙◌}
use mathlib.Core.List.{List, [], ◌∷◌, ◌++◌, append_assoc}
use lib.ListN.{get_or, drop}
use borrow.Author.Tests.{eqb-false}
use Rattle.signals.specs.declared.End.{End}
use Rattle.signals.specs.declared.End.TheVariants.{At, Before, Never}
use Rattle.signals.specs.declared.Verdict.{Verdict}
use Rattle.signals.specs.declared.Verdict.TheVariants.{Holds, FailsAt, FailsAfter, Refused}
use Rattle.texts.specs.Decimal.{decimal}
use Rattle.texts.proofs.Parting.{same_number, first_digit}
use Rattle.verdict_line.specs.Line.{holds_text, fails_at_text, fails_after_text, refused_text}
use Rattle.verdict_line.specs.Line.{until_text, until_before_text, for_good_text, end_text, line, line_of, EndBelow, NumbersBelow}

-- a number at the end of a line
last_number : (j k : ℕ) → j < 2 ^ 32 → k < 2 ^ 32 → decimal j ++ (10 ∷ []) ≡ decimal k ++ (10 ∷ []) → j ≡ k
last_number j k a b e = (same_number 10 (omega arith) j k [] [] a b e).0

-- how a run ends, with the line feed, after its first space
tail : End → List ℕ
tail e = drop 1 (end_text e ++ (10 ∷ []))

opened : (e : End) → end_text e ++ (10 ∷ []) ≡ 32 ∷ tail e
unfolding tail end_text until_text until_before_text for_good_text
opened (At k) = refl
opened (Before k) = refl
opened Never = refl

byte : ℕ → List ℕ → ℕ
byte i l = get_or l i 0

-- its first byte tells whether the run ends; the one after "until " is a digit or the first of "before"
not_before : (j k : ℕ) → j < 2 ^ 32 → tail (At j) ≡ tail (Before k) → ⊥
unfolding tail end_text until_text until_before_text byte
not_before j k h e = omega (arith, first_digit j (10 ∷ []) h, ap (byte 6) e)

end_tells : (e f : End) → EndBelow (2 ^ 32) e → EndBelow (2 ^ 32) f → tail e ≡ tail f → e ≡ f
unfolding tail end_text until_text until_before_text for_good_text byte
end_tells (At j) (At k) a b e = ap At (last_number j k a b (ap (λ (l : List ℕ). drop 6 l) e))
end_tells (At j) (Before k) a b e = absurd (not_before j k a e)
end_tells (At j) Never a b e = absurd (eqb-false 117 102 refl (ap (byte 0) e))
end_tells (Before j) (At k) a b e = absurd (not_before k j b (sym e))
end_tells (Before j) (Before k) a b e = ap Before (last_number j k a b (ap (λ (l : List ℕ). drop 13 l) e))
end_tells (Before j) Never a b e = absurd (eqb-false 117 102 refl (ap (byte 0) e))
end_tells Never (At k) a b e = absurd (eqb-false 102 117 refl (ap (byte 0) e))
end_tells Never (Before k) a b e = absurd (eqb-false 102 117 refl (ap (byte 0) e))
end_tells Never Never a b e = refl

-- a number and how a run ends, up to the line feed
abbrev rest : ℕ → End → List ℕ
rest k e = decimal k ++ end_text e ++ (10 ∷ [])

spaced : (k : ℕ) (e : End) → rest k e ≡ decimal k ++ (32 ∷ tail e)
spaced k e = append_assoc (decimal k) (end_text e) (10 ∷ []) ∙ ap (λ (l : List ℕ). decimal k ++ l) (opened e)

fails_tells : (C : ℕ → End → Verdict) (j k : ℕ) (e f : End) → (j < 2 ^ 32) × EndBelow (2 ^ 32) e → (k < 2 ^ 32) × EndBelow (2 ^ 32) f
    → rest j e ≡ rest k f → C j e ≡ C k f
fails_tells C j k e f a b h =
    let s = same_number 32 (omega arith) j k (tail e) (tail f) a.0 b.0 (sym (spaced j e) ∙ h ∙ spaced k f) in
    ap (λ (n : ℕ). C n e) s.0 ∙ ap (C k) (end_tells e f a.1 b.1 s.1)

-- the eighth byte tells which of the four it is
pub line_tells : (v w : Verdict) → NumbersBelow (2 ^ 32) v → NumbersBelow (2 ^ 32) w → line_of v ≡ line_of w → v ≡ w
unfolding line_of line holds_text fails_at_text fails_after_text refused_text byte
line_tells Holds Holds a b e = refl
line_tells Holds (FailsAt k f) a b e = absurd (eqb-false 0 116 refl (ap (byte 7) e))
line_tells Holds (FailsAfter k f) a b e = absurd (eqb-false 0 102 refl (ap (byte 7) e))
line_tells Holds (Refused n) a b e = absurd (eqb-false 0 32 refl (ap (byte 7) e))
line_tells (FailsAt j d) Holds a b e = absurd (eqb-false 116 0 refl (ap (byte 7) e))
line_tells (FailsAt j d) (FailsAt k f) a b e = fails_tells FailsAt j k d f a b (ap (λ (l : List ℕ). drop 9 l) e)
line_tells (FailsAt j d) (FailsAfter k f) a b e = absurd (eqb-false 116 102 refl (ap (byte 7) e))
line_tells (FailsAt j d) (Refused n) a b e = absurd (eqb-false 116 32 refl (ap (byte 7) e))
line_tells (FailsAfter j d) Holds a b e = absurd (eqb-false 102 0 refl (ap (byte 7) e))
line_tells (FailsAfter j d) (FailsAt k f) a b e = absurd (eqb-false 102 116 refl (ap (byte 7) e))
line_tells (FailsAfter j d) (FailsAfter k f) a b e = fails_tells FailsAfter j k d f a b (ap (λ (l : List ℕ). drop 12 l) e)
line_tells (FailsAfter j d) (Refused n) a b e = absurd (eqb-false 102 32 refl (ap (byte 7) e))
line_tells (Refused m) Holds a b e = absurd (eqb-false 32 0 refl (ap (byte 7) e))
line_tells (Refused m) (FailsAt k f) a b e = absurd (eqb-false 32 116 refl (ap (byte 7) e))
line_tells (Refused m) (FailsAfter k f) a b e = absurd (eqb-false 32 102 refl (ap (byte 7) e))
line_tells (Refused m) (Refused n) a b e = ap Refused (last_number m n a b (ap (λ (l : List ℕ). drop 8 l) e))
