-- A page tells its stretches: each number ends before a byte that is no digit.
use Prim.Native.Nat.{ℕ, ◌^◌, ◌<◌}
use native.Mathlib.Omega.{arith}
use mathlib.Core.Path.{◌≡◌, refl, sym, ap, ◌∙◌}
use mathlib.Core.List.{List, [], ◌∷◌, ◌++◌, append_assoc}
use lib.ListN.{get_or}
use Rattle.signals.specs.declared.Verdict.TheVariants.{Refused}
use Rattle.stretches.specs.Stretches.{Stretch, sum_of_ticks}
use Rattle.texts.specs.Decimal.{decimal}
use Rattle.texts.proofs.Parting.{same_number, first_digit}
use Rattle.verdict_line.specs.Line.{line, line_of, refused_text}
use Rattle.uptime_page.specs.Page.{total_text, pair_line, stretch_lines, total_line, page_text}
use Rattle.uptime_page.specs.PageSays.{Small}

-- a stretch's line and what follows it
opened : (s : Stretch) (ss : List Stretch) (rest : List ℕ)
    → stretch_lines (s ∷ ss) ++ rest ≡ decimal s.first ++ (32 ∷ (decimal s.ticks ++ (10 ∷ (stretch_lines ss ++ rest))))
unfolding stretch_lines pair_line line
opened s ss rest =
    append_assoc (first ++ (32 ∷ []) ++ ticks ++ (10 ∷ [])) (stretch_lines ss) rest
    ∙ append_assoc (first ++ (32 ∷ []) ++ ticks) (10 ∷ []) (stretch_lines ss ++ rest)
    ∙ append_assoc (first ++ (32 ∷ [])) ticks (10 ∷ (stretch_lines ss ++ rest))
    ∙ append_assoc first (32 ∷ []) (ticks ++ (10 ∷ (stretch_lines ss ++ rest)))
  where
    first : List ℕ
    first = decimal s.first

    ticks : List ℕ
    ticks = decimal s.ticks

-- the total's line begins with no digit
not_total : (s : Stretch) (ss : List Stretch) (rest : List ℕ) (total : ℕ) → s.first < 2 ^ 32
    → stretch_lines (s ∷ ss) ++ rest ≡ total_line total → ⊥
unfolding total_line total_text line
not_total s ss rest total h e =
    omega (arith, first_digit s.first after h, ap (λ (l : List ℕ). get_or l 0 0) (sym (opened s ss rest) ∙ e))
  where
    after : List ℕ
    after = 32 ∷ (decimal s.ticks ++ (10 ∷ (stretch_lines ss ++ rest)))

told_from : (ss rs : List Stretch) (n m : ℕ) → Small ss → Small rs → stretch_lines ss ++ total_line n ≡ stretch_lines rs ++ total_line m
    → ss ≡ rs
unfolding stretch_lines
told_from [] [] n m a b e = refl
told_from [] (r ∷ rs) n m a b e = absurd (not_total r rs (total_line m) n b.0 (sym e))
told_from (s ∷ ss) [] n m a b e = absurd (not_total s ss (total_line n) m a.0 e)
told_from (s ∷ ss) (r ∷ rs) n m a b e =
    let f =
    same_number 32 (omega arith) s.first r.first _ _ a.0 b.0
    (sym (opened s ss (total_line n)) ∙ e ∙ opened r rs (total_line m)) in
    let t = same_number 10 (omega arith) s.ticks r.ticks _ _ a.1 b.1 f.1 in
    let h : s ≡ r =
    ap (λ (k : ℕ). record { first = k; ticks = s.ticks }) f.0 ∙ ap (λ (k : ℕ). record { first = r.first; ticks = k }) t.0 in
    ap (λ (x : Stretch). x ∷ ss) h ∙ ap (λ (l : List Stretch). r ∷ l) (told_from ss rs n m a.2 b.2 t.1)

pub page_tells : (ss rs : List Stretch) → Small ss → Small rs → page_text ss ≡ page_text rs → ss ≡ rs
unfolding page_text
page_tells ss rs a b e = told_from ss rs _ _ a b e

-- a refusal begins with no digit and is no total
pub no_refusal : (ss : List Stretch) (n : ℕ) → Small ss → page_text ss ≡ line_of (Refused n) → ⊥
unfolding page_text total_line total_text line_of refused_text line stretch_lines
no_refusal [] n a e = omega (arith, ap (λ (l : List ℕ). get_or l 0 0) e)
no_refusal (s ∷ ss) n a e =
    let first = first_digit s.first (32 ∷ (decimal s.ticks ++ (10 ∷ (stretch_lines ss ++ total_line (sum_of_ticks (s ∷ ss)))))) a.0 in
    omega (arith, first, ap (λ (l : List ℕ). get_or l 0 0) (sym (opened s ss (total_line (sum_of_ticks (s ∷ ss)))) ∙ e))
