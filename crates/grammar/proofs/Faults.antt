-- A formula's faults are given exactly when their sentences hold and none before them does.
use Prim.Native.Nat.{ℕ, ◌<◌}
use native.Mathlib.Omega.{arith}
use mathlib.Core.Path.{◌≡◌, refl, sym, ap, ◌∙◌, subst}
use mathlib.Core.Bool.{Bool, true, false, cond, not, ◌||◌}
use mathlib.Core.List.{List}
use mathlib.Core.Logic.{inl, inr, ⊎_elim}
use lib.Dec.{ltb, eqb}
use lib.ListN.{length}
use borrow.Author.Tests.{eqb-true, eqb-false, ltb-true, ltb-false, not-true}
use Rattle.signals.specs.Moment.{M}
use Rattle.signals.specs.Answers.{first_of}
use Rattle.signals.specs.Checks.{Check, NoFault}
use Rattle.signals.proofs.Truth.{or_cases, neither_left, neither_right}
use Rattle.signals.proofs.FirstFault.{first_some, next_is}
use Rattle.signals.proofs.Checks.{Single, none_single, check_single, check_by, exactly}
use Rattle.grammar.specs.Formula.{accepted, depth_of, parts_of, longest_of, formula_fault}
use Rattle.grammar.specs.Exactness.{Breaks10, Breaks11, Breaks8, Breaks12, FormulaChecks, FaultsExact}
use Rattle.grammar.proofs.Bytes.{never}
use Rattle.grammar.proofs.Reading.{accepted_of, parts_exact, depth_of_lem, longest_of_lem, longest_in, in_longest, refused_of}

-- the sentences by their tests
module _ (w : List ℕ) where
  abbrev long : Bool
  long = eqb (length w) 0 || ltb 1024 (length w)

  long_true : long ≡ true → Breaks10 w
  long_true e =
      ⊎_elim (λ h. inl (eqb-true (length w) 0 h)) (λ h. inr (ltb-true 1024 (length w) h))
      (or_cases (eqb (length w) 0) (ltb 1024 (length w)) e)

  long_false : long ≡ false → ¬ Breaks10 w
  long_false e =
      ⊎_elim (eqb-false (length w) 0 (neither_left (eqb (length w) 0) (ltb 1024 (length w)) e))
      (λ h. let k = ltb-false 1024 (length w) (neither_right (eqb (length w) 0) (ltb 1024 (length w)) e) in omega arith)

  far_true : not (accepted w) ≡ false → ltb M (longest_of w) ≡ true → Breaks8 w
  far_true b e =
      let g = refused_of w b in
      let l = longest_in M g.0 (subst (λ (n : ℕ). M < n) (longest_of_lem w g.0 g.1 g.2) (ltb-true M (longest_of w) e)) in
      (g.0, g.1, l.0, g.2, l.1, l.2)

  far_false : ltb M (longest_of w) ≡ false → ¬ Breaks8 w
  far_false e x =
      let k = ltb-false M (longest_of w) e in
      let q = longest_of_lem w x.0 x.1 x.3 in
      let i = in_longest x.2 x.0 x.4 in
      let j = x.5 in
      omega arith

  abbrev many : Bool
  many = ltb 32 (length (parts_of w)) || ltb 16 (depth_of w)

  many_true : not (accepted w) ≡ false → many ≡ true → Breaks12 w
  many_true b e =
      let g = refused_of w b in
      let p = ap length (parts_exact w g.0 g.1 g.2) in
      let q = depth_of_lem w g.0 g.1 g.2 in (
        g.0,
        g.1,
        g.2,
        ⊎_elim (λ h. inl (let k = ltb-true 32 (length (parts_of w)) h in omega arith))
            (λ h. inr (let k = ltb-true 16 (depth_of w) h in omega arith))
            (or_cases (ltb 32 (length (parts_of w))) (ltb 16 (depth_of w)) e),
      )

  many_false : many ≡ false → ¬ Breaks12 w
  many_false e x =
      let p = ap length (parts_exact w x.0 x.1 x.2) in
      let q = depth_of_lem w x.0 x.1 x.2 in
      let k = ltb-false 32 (length (parts_of w)) (neither_left (ltb 32 (length (parts_of w))) (ltb 16 (depth_of w)) e) in
      let m = ltb-false 16 (depth_of w) (neither_right (ltb 32 (length (parts_of w))) (ltb 16 (depth_of w)) e) in
      ⊎_elim (λ h. omega arith) (λ h. omega arith) x.3

  given : FormulaChecks w NoFault (formula_fault w)
  unfolding formula_fault
  given =
      check_by 10 (cond (not (accepted w)) 11 (cond (ltb M (longest_of w)) 8 (cond many 12 0))) (Breaks10 w)
      (Check 11 (Breaks11 w) (Check 8 (Breaks8 w) (Check 12 (Breaks12 w) NoFault))) long long_true long_false
      (λ a. check_by 11 (cond (ltb M (longest_of w)) 8 (cond many 12 0)) (Breaks11 w)
      (Check 8 (Breaks8 w) (Check 12 (Breaks12 w) NoFault)) (not (accepted w))
      (λ e t d x. never (sym (not-true (accepted w) e) ∙ accepted_of w t d x))
      (λ e x. let g = refused_of w e in x g.0 g.1 g.2)
      (λ b. check_by 8 (cond many 12 0) (Breaks8 w) (Check 12 (Breaks12 w) NoFault) (ltb M (longest_of w)) (far_true b) far_false
      (λ c. check_by 12 0 (Breaks12 w) NoFault many (many_true b) many_false (λ d. refl))))

  single : Single (FormulaChecks w NoFault)
  single = check_single (check_single (check_single (check_single none_single)))

pub faults_exact : FaultsExact
faults_exact w = exactly (FormulaChecks w NoFault) (formula_fault w) (single w) (given w)

-- with checks after them
pub formula_checks : (w : List ℕ) (later : ℕ → Type 0) (rest : ℕ) → (formula_fault w ≡ 0 → later rest)
    → FormulaChecks w later (first_of (formula_fault w) rest)
formula_checks w later rest next = go (given w)
  where
    n : ℕ
    n = formula_fault w

    go : FormulaChecks w NoFault n → FormulaChecks w later (first_of n rest)
    go (inl a) = inl (a.0, first_some n rest 10 a.1 (omega arith))
    go (inr (a, inl b)) = inr (a, inl (b.0, first_some n rest 11 b.1 (omega arith)))
    go (inr (a, inr (b, inl c))) = inr (a, inr (b, inl (c.0, first_some n rest 8 c.1 (omega arith))))
    go (inr (a, inr (b, inr (c, inl d)))) = inr (a, inr (b, inr (c, inl (d.0, first_some n rest 12 d.1 (omega arith)))))
    go (inr (a, inr (b, inr (c, inr (d, e))))) = inr (a, inr (b, inr (c, inr (d, rw (next_is n rest e) (next e)))))

-- no fault, no sentence
pub record Fine (w : List ℕ) : Type 0 where
  pub short : ¬ Breaks10 w
  pub written : ¬ Breaks11 w
  pub near : ¬ Breaks8 w
  pub few : ¬ Breaks12 w

pub fine_of : (w : List ℕ) → formula_fault w ≡ 0 → Fine w
fine_of w e = go ((faults_exact w 0).0 e)
  where
    go : FormulaChecks w NoFault 0 → Fine w
    go (inl a) = absurd (omega (arith, a.1))
    go (inr (a, inl b)) = absurd (omega (arith, b.1))
    go (inr (a, inr (b, inl c))) = absurd (omega (arith, c.1))
    go (inr (a, inr (b, inr (c, inl d)))) = absurd (omega (arith, d.1))
    go (inr (a, inr (b, inr (c, inr (d, e))))) = record { short = a; written = b; near = c; few = d }

pub of_fine : (w : List ℕ) → Fine w → formula_fault w ≡ 0
of_fine w f = (faults_exact w 0).1 (inr (f.short, inr (f.written, inr (f.near, inr (f.few, refl)))))
