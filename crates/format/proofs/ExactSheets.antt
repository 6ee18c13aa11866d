-- The faults of a sheet are given exactly as its checks say.
use Prim.Native.Nat.{ℕ, ◌≤◌, ◌<◌}
use native.Mathlib.Omega.{arith}
use mathlib.Core.Path.{◌≡◌, refl, sym, ap, subst, ◌∙◌}
use mathlib.Core.Bool.{Bool, true, false}
use mathlib.Core.List.{List, [], ◌++◌, append_assoc}
use mathlib.Core.Logic.{inl, inr}
use lib.Dec.{ltb, eqb}
use lib.ListN.{length, take, drop, length-drop, take-append-drop}
use lib.Seq.{drop-drop}
use borrow.Author.Tests.{ltb-true, ltb-false, eqb-true, eqb-false}
use Rattle.signals.proofs.Checks.{check_single, exactly}
use Rattle.signals.proofs.Truth.{true_false}
use Rattle.format.proofs.Steps.{same_equal, same_refl}
use Rattle.format.proofs.Digits.{low16_below, written16, bytes_drop}
use Rattle.format.proofs.Judging.{front_short, front_mark, front_cut, front_version, front_no_count, front_many, front_fine}
use Rattle.format.proofs.Judging.{sheet_front, sheet_past}
use Rattle.format.proofs.SheetFields.{number_single}
use Rattle.format.proofs.SheetSignals.{signals_single, signals_checks}
use Rattle.format.specs.Names.{same}
use Rattle.slices.specs.Bytes.{low16, bytes16, Bytes}
use Rattle.format.specs.Reading.{mark, signals_fault, front_fault, sheet_fault, count_on}
use Rattle.format.specs.Sentences.{SignalsFaultIs, SheetFaultIs, SheetFaultsExact}

-- a sheet that begins with the mark and the version
module _ (rest : List ℕ) where
  right_cut : length rest < 2 → sheet_fault (mark ++ (bytes16 1 ++ rest)) ≡ 15
  unfolding bytes16 same low16
  right_cut l =
      let f = front_no_count (mark ++ (bytes16 1 ++ rest)) (omega arith) true refl refl (omega arith) 1 refl refl (omega arith) in
      sym (sheet_front (mark ++ (bytes16 1 ++ rest)) (λ e. omega (arith, e, f))) ∙ f

  right_many : 2 ≤ length rest → 32 < low16 rest → sheet_fault (mark ++ (bytes16 1 ++ rest)) ≡ 15
  unfolding bytes16 same low16
  right_many l m =
      let f = front_many (mark ++ (bytes16 1 ++ rest)) (omega arith) true refl refl (omega arith) 1 refl refl (omega arith)
      (low16 rest) refl m in
      sym (sheet_front (mark ++ (bytes16 1 ++ rest)) (λ e. omega (arith, e, f))) ∙ f

  right_on : 2 ≤ length rest → low16 rest ≤ 32 → sheet_fault (mark ++ (bytes16 1 ++ rest)) ≡ signals_fault [] (low16 rest) (drop 2 rest)
  unfolding bytes16 same low16 count_on
  right_on l m =
      sheet_past (mark ++ (bytes16 1 ++ rest))
      (front_fine (mark ++ (bytes16 1 ++ rest)) (omega arith) true refl refl (omega arith) 1 refl refl (omega arith) (low16 rest) refl m)

five : (rest : List ℕ) → take 5 (mark ++ (bytes16 1 ++ rest)) ≡ mark ++ bytes16 1
unfolding bytes16
five rest = refl

-- a sheet that does not
front_wrong : (sheet : List ℕ) → Bytes sheet → (take 5 sheet ≡ mark ++ bytes16 1 → ⊥) → front_fault sheet ≡ 14
front_wrong sheet b n =
    go (ltb (length sheet) 3) (same (take 3 sheet) mark) (ltb (length sheet) 5) (eqb (low16 (drop 3 sheet)) 1) refl refl refl refl
  where
    starts : 5 ≤ length sheet → same (take 3 sheet) mark ≡ true → low16 (drop 3 sheet) ≡ 1 → sheet ≡ mark ++ (bytes16 1 ++ drop 5 sheet)
    starts l m v =
        sym
        (ap (λ (x : List ℕ). mark ++ x)
        (rw (← v, ← drop-drop 2 3 sheet) (written16 (drop 3 sheet) (bytes_drop sheet 3 b) (rw length-drop (omega arith))))
        ∙ ap (λ (x : List ℕ). x ++ drop 3 sheet) (sym (same_equal (take 3 sheet) mark m))
        ∙ take-append-drop 3 sheet)

    go : (t₁ t₂ t₃ t₄ : Bool) → ltb (length sheet) 3 ≡ t₁ → same (take 3 sheet) mark ≡ t₂ → ltb (length sheet) 5 ≡ t₃
        → eqb (low16 (drop 3 sheet)) 1 ≡ t₄ → front_fault sheet ≡ 14
    go true t₂ t₃ t₄ p₁ p₂ p₃ p₄ = front_short sheet (ltb-true (length sheet) 3 p₁)
    go false false t₃ t₄ p₁ p₂ p₃ p₄ = front_mark sheet (ltb-false (length sheet) 3 p₁) (same (take 3 sheet) mark) refl p₂
    go false true true t₄ p₁ p₂ p₃ p₄ =
        front_cut sheet (ltb-false (length sheet) 3 p₁) (same (take 3 sheet) mark) refl p₂ (ltb-true (length sheet) 5 p₃)
    go false true false false p₁ p₂ p₃ p₄ =
        front_version sheet (ltb-false (length sheet) 3 p₁) (same (take 3 sheet) mark) refl p₂ (ltb-false (length sheet) 5 p₃)
        (low16 (drop 3 sheet)) refl (eqb-false (low16 (drop 3 sheet)) 1 p₄)
    go false true false true p₁ p₂ p₃ p₄ =
        absurd
        (n
        (ap (λ (x : List ℕ). take 5 x) (starts (ltb-false (length sheet) 5 p₃) p₂ (eqb-true (low16 (drop 3 sheet)) 1 p₄))
        ∙ five (drop 5 sheet)))

-- after mark and version
rest_checks : (rest : List ℕ) → Bytes rest → SheetFaultIs (mark ++ (bytes16 1 ++ rest)) (sheet_fault (mark ++ (bytes16 1 ++ rest)))
unfolding bytes16
rest_checks rest b = go (ltb (length rest) 2) (ltb 32 (low16 rest)) refl refl
  where
    go : (s t : Bool) → ltb (length rest) 2 ≡ s → ltb 32 (low16 rest) ≡ t
        → SheetFaultIs (mark ++ (bytes16 1 ++ rest)) (sheet_fault (mark ++ (bytes16 1 ++ rest)))
    go true t p q = inr ((λ n. n (five rest)), inl (ltb-true (length rest) 2 p, right_cut rest (ltb-true (length rest) 2 p)))
    go false true p q =
        let l = ltb-false (length rest) 2 p in
        inr (
          (λ n. n (five rest)),
          inr (
            (λ c. omega (arith, c)),
            (
              low16 rest,
              drop 2 rest,
              low16_below rest b,
              sym (written16 rest b l),
              inl (ltb-true 32 (low16 rest) q, right_many rest l (ltb-true 32 (low16 rest) q)),
            ),
          ),
        )
    go false false p q =
        let l = ltb-false (length rest) 2 p in
        let m = ltb-false 32 (low16 rest) q in
        inr (
          (λ n. n (five rest)),
          inr (
            (λ c. omega (arith, c)),
            (
              low16 rest,
              drop 2 rest,
              low16_below rest b,
              sym (written16 rest b l),
              inr (
                (λ c. omega (arith, c)),
                subst (λ (f : ℕ). SignalsFaultIs [] (low16 rest) (drop 2 rest) f) (sym (right_on rest l m))
                    (signals_checks [] (low16 rest) (drop 2 rest) (bytes_drop rest 2 b)),
              ),
            ),
          ),
        )

sheet_checks : (sheet : List ℕ) → Bytes sheet → SheetFaultIs sheet (sheet_fault sheet)
sheet_checks sheet b = go (same (take 5 sheet) (mark ++ bytes16 1)) refl
  where
    go : (t : Bool) → same (take 5 sheet) (mark ++ bytes16 1) ≡ t → SheetFaultIs sheet (sheet_fault sheet)
    go true p =
        let e : mark ++ (bytes16 1 ++ drop 5 sheet) ≡ sheet =
        sym (append_assoc mark (bytes16 1) (drop 5 sheet))
        ∙ ap (λ (x : List ℕ). x ++ drop 5 sheet) (sym (same_equal (take 5 sheet) (mark ++ bytes16 1) p))
        ∙ take-append-drop 5 sheet in
        subst (λ (x : List ℕ). SheetFaultIs x (sheet_fault x)) e (rest_checks (drop 5 sheet) (bytes_drop sheet 5 b))
    go false p =
        let n : take 5 sheet ≡ mark ++ bytes16 1 → ⊥ =
        λ e. true_false (sym (ap (λ (x : List ℕ). same x (mark ++ bytes16 1)) e ∙ same_refl (mark ++ bytes16 1)) ∙ p) in
        let w = front_wrong sheet b n in
        inl (n, sym (sheet_front sheet (λ q. omega (arith, q, w))) ∙ w)

pub sheet_faults_exact : SheetFaultsExact
sheet_faults_exact sheet b =
    exactly (SheetFaultIs sheet) (sheet_fault sheet)
    (check_single (check_single (number_single (drop 5 sheet) _ (λ n signals. check_single (signals_single [] n signals)))))
    (sheet_checks sheet b)
