-- 5 and 6 at the first part worked out that meets one, as tabled.
use Prim.Native.Nat.{ℕ, zero, suc, ◌<◌}
use native.Mathlib.Omega.{arith}
use mathlib.Core.Path.{◌≡◌, refl, ◌∙◌, ap}
use mathlib.Core.Bool.{Bool, true, false}
use mathlib.Core.Logic.{◌⊎◌, inl, inr}
use mathlib.Core.List.{List, [], ◌∷◌, ◌++◌}
use lib.Dec.{ltb}
use lib.ListN.{length, get_or}
use borrow.Author.Tests.{ltb-true, ltb-false, lt-ltb}
use Rattle.signals.specs.Moment.{M}
use Rattle.signals.specs.Signal.{Signal}
use Rattle.signals.specs.Words.{date_of, most_words}
use Rattle.signals.proofs.Truth.{or_cases, or_left, or_right, not_both_lem}
use Rattle.operations.specs.Calls.{changes_after_m, part_fault}
use Rattle.grammar.specs.Tree.{Tree, leaf, unary, binary}
use Rattle.grammar.specs.Parts.{parts}
use Rattle.format.specs.Reading.{sheet_fault}
use Rattle.calls.specs.OnSheet.{signal_on, exact_on}
use Rattle.calls.specs.Calls.{parts_fault}
use Rattle.calls.specs.NormalLists.{ListFor}
use Rattle.calls.specs.Tabled.{Meets5, Meets6}
use Rattle.signals.specs.Checks.{Check, NoFault}
use Rattle.calls.proofs.Settles.{exact_for_lem, one_for}
use Rattle.signals.proofs.FirstFault.{both_none, next_is, first_some}

-- some word is dated after M
abbrev pub Late : List ℕ → Type 0
Late l = (i : ℕ) × (i < length l) × (M < date_of (get_or l i 0))

pub late_of : (l : List ℕ) → changes_after_m l ≡ true → Late l
unfolding changes_after_m
late_of [] e = absurd (omega (arith, let z : ◌≡◌ {A = ℕ} 0 1 = cc in z))
late_of (w ∷ ws) e = go (or_cases (ltb M (date_of w)) (changes_after_m ws) e) (late_of ws)
  where
    go : (ltb M (date_of w) ≡ true) ⊎ (changes_after_m ws ≡ true) → (changes_after_m ws ≡ true → Late ws) → Late (w ∷ ws)
    go (inl a) h = (0, omega arith, ltb-true M (date_of w) a)
    go (inr b) h = let r = h b in (suc r.0, omega (arith, r.1), r.2)

pub of_late : (l : List ℕ) (i : ℕ) → i < length l → M < date_of (get_or l i 0) → changes_after_m l ≡ true
unfolding changes_after_m
of_late [] i m d = absurd (omega arith)
of_late (w ∷ ws) zero m d = or_left (ltb M (date_of w)) (changes_after_m ws) (lt-ltb M (date_of w) d)
of_late (w ∷ ws) (suc i) m d = or_right (ltb M (date_of w)) (changes_after_m ws) (of_late ws i (omega arith) d)

-- one part, by its normal list
abbrev pub PartFaultIs : Signal → ℕ → Type 0
PartFaultIs s = Check 5 (Meets5 s) (Check 6 (Meets6 s) NoFault)

long_part : (l : List ℕ) → ltb most_words (length l) ≡ true → part_fault l ≡ 5
unfolding part_fault
long_part l p = rw p refl

late_part : (l : List ℕ) → ltb most_words (length l) ≡ false → changes_after_m l ≡ true → part_fault l ≡ 6
unfolding part_fault
late_part l p q = rw (p, q) refl

fine_part : (l : List ℕ) → ltb most_words (length l) ≡ false → changes_after_m l ≡ false → part_fault l ≡ 0
unfolding part_fault
fine_part l p q = rw (p, q) refl

pub part_fault_lem : (s : Signal) (l : List ℕ) → ListFor s l → PartFaultIs s (part_fault l)
part_fault_lem s l h = go (ltb most_words (length l)) refl (changes_after_m l) refl
  where
    no5 : ltb most_words (length l) ≡ false → ¬ Meets5 s
    no5 p m =
        let q : length m.0 ≡ length l = ap length (one_for m.1 h) in
        omega (arith, ltb-false most_words (length l) p, m.2)

    no6 : changes_after_m l ≡ false → ¬ Meets6 s
    no6 q m =
        let z : changes_after_m m.0 ≡ true = of_late m.0 m.2.0 m.2.1 m.2.2 in
        not_both_lem z (ap changes_after_m (one_for m.1 h) ∙ q)

    go : (b : Bool) → ltb most_words (length l) ≡ b → (c : Bool) → changes_after_m l ≡ c → PartFaultIs s (part_fault l)
    go true p c q = inl ((l, h, ltb-true most_words (length l) p), long_part l p)
    go false p true q = inr (no5 p, inl ((l, h, late_of l q), late_part l p q))
    go false p false q = inr (no5 p, inr (no6 q, fine_part l p q))

-- parts in order, the one at a place being found with any default
module _ (sheet : List ℕ) (ok : sheet_fault sheet ≡ 0) (other : Tree) where
  abbrev pub Fine : Tree → Type 0
  Fine t = (¬ Meets5 (signal_on sheet t)) × (¬ Meets6 (signal_on sheet t))

  abbrev pub Before : List Tree → ℕ → Type 0
  Before ps i = (j : ℕ) → j < i → Fine (get_or ps j other)

  abbrev pub First5 : List Tree → Type 0
  First5 ps = (i : ℕ) × (i < length ps) × Before ps i × Meets5 (signal_on sheet (get_or ps i other))

  abbrev pub First6 : List Tree → Type 0
  First6 ps =
      (i : ℕ) × (i < length ps) × Before ps i × (¬ Meets5 (signal_on sheet (get_or ps i other))) × Meets6
      (signal_on sheet (get_or ps i other))

  abbrev pub PartsFaultIs : List Tree → ℕ → Type 0
  PartsFaultIs ps = Check 5 (First5 ps) (Check 6 (First6 ps) NoFault)

  before_later : (t : Tree) (ps : List Tree) (i : ℕ) → Before (t ∷ ps) (suc i) → Before ps i
  before_later t ps i h j l = h (suc j) (omega arith)

  before_more : (t : Tree) (ps : List Tree) (i : ℕ) → Fine t → Before ps i → Before (t ∷ ps) (suc i)
  before_more t ps i f h zero l = f
  before_more t ps i f h (suc j) l = h j (omega arith)

  more5 : (t : Tree) (ps : List Tree) → Fine t → First5 ps → First5 (t ∷ ps)
  more5 t ps f h = (suc h.0, omega (arith, h.1), before_more t ps h.0 f h.2, h.3)

  more6 : (t : Tree) (ps : List Tree) → Fine t → First6 ps → First6 (t ∷ ps)
  more6 t ps f h = (suc h.0, omega (arith, h.1), before_more t ps h.0 f h.2, h.3, h.4)

  less5 : (t : Tree) (ps : List Tree) → (¬ Meets5 (signal_on sheet t)) → First5 (t ∷ ps) → (¬ Meets6 (signal_on sheet t)) × First5 ps
  less5 t ps f (zero, l, b, m) = absurd (f m)
  less5 t ps f (suc i, l, b, m) = ((b 0 (omega arith)).1, (i, omega arith, before_later t ps i b, m))

  less6 : (t : Tree) (ps : List Tree) → Fine t → First6 (t ∷ ps) → First6 ps
  less6 t ps f (zero, l, b, n, m) = absurd (f.1 m)
  less6 t ps f (suc i, l, b, n, m) = (i, omega arith, before_later t ps i b, n, m)

  pub parts_fault_lem : (ps : List Tree) → PartsFaultIs ps (parts_fault sheet ps)
  unfolding parts_fault
  parts_fault_lem [] = inr (λ h. omega (arith, h.1), inr (λ h. omega (arith, h.1), refl))
  parts_fault_lem (t ∷ ps) = go (part_fault_lem (signal_on sheet t) (exact_on sheet t) (exact_for_lem sheet ok t)) (parts_fault_lem ps)
    where
      n : ℕ
      n = part_fault (exact_on sheet t)

      rest : ℕ
      rest = parts_fault sheet ps

      later : Fine t → n ≡ 0 → PartsFaultIs ps rest → PartsFaultIs (t ∷ ps) (parts_fault sheet (t ∷ ps))
      later f z (inl a) = inl (more5 t ps f a.0, next_is n rest z ∙ a.1)
      later f z (inr (a, inl b)) = inr (λ h. a (less5 t ps f.0 h).1, inl (more6 t ps f b.0, next_is n rest z ∙ b.1))
      later f z (inr (a, inr b)) =
          inr (λ h. a (less5 t ps f.0 h).1, inr (λ h. b.0 (less6 t ps f h), next_is n rest z ∙ b.1))

      go : PartFaultIs (signal_on sheet t) n → PartsFaultIs ps rest → PartsFaultIs (t ∷ ps) (parts_fault sheet (t ∷ ps))
      go (inl a) r = inl ((0, omega arith, λ j l. absurd (omega arith), a.0), first_some n rest 5 a.1 (omega arith))
      go (inr (a, inl b)) r =
          inr (
            λ h. (less5 t ps a h).0 b.0,
            inl ((0, omega arith, λ j l. absurd (omega arith), a, b.0), first_some n rest 6 b.1 (omega arith)),
          )
      go (inr (a, inr b)) r = later (a, b.0) b.1 r

-- no fault in the parts is none in each: the whole tree is the last
append_none : (sheet : List ℕ) (ps qs : List Tree) → parts_fault sheet (ps ++ qs) ≡ 0 → parts_fault sheet qs ≡ 0
unfolding parts_fault
append_none sheet [] qs e = e
append_none sheet (p ∷ ps) qs e = append_none sheet ps qs (both_none (part_fault (exact_on sheet p)) (parts_fault sheet (ps ++ qs)) e).1

one_none : (sheet : List ℕ) (t : Tree) → parts_fault sheet (t ∷ []) ≡ 0 → part_fault (exact_on sheet t) ≡ 0
unfolding parts_fault
one_none sheet t e = (both_none (part_fault (exact_on sheet t)) 0 e).0

pub whole_none : (sheet : List ℕ) (t : Tree) → parts_fault sheet (parts t) ≡ 0 → part_fault (exact_on sheet t) ≡ 0
unfolding parts
whole_none sheet (leaf l) e = one_none sheet (leaf l) e
whole_none sheet (unary o t) e = one_none sheet (unary o t) (append_none sheet (parts t) (unary o t ∷ []) e)
whole_none sheet (binary o t u) e =
    one_none sheet (binary o t u)
    (append_none sheet (parts u) (binary o t u ∷ []) (append_none sheet (parts t) (parts u ++ (binary o t u ∷ [])) e))
