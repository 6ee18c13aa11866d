-- A looked-up part read by the reader of lists on a sheet: the list it is, where its words end, and the value held there.
use Prim.Native.Nat.{ℕ, ◌+◌, ◌-◌, ◌/◌, ◌%◌, ◌≤◌, ◌<◌, min}
use native.Mathlib.Omega.{arith}
use mathlib.Core.Path.{◌≡◌, refl, sym, ap, ◌∙◌, subst}
use mathlib.Core.Bool.{Bool, true, false}
use mathlib.Core.List.{List, []}
use mathlib.Core.Logic.{◌⊎◌, inl, inr}
use lib.ListN.{length, get_or}
use borrow.Author.Tests.{eq-eqb, ne_eqb}
use Rattle.signals.specs.Moment.{M}
use Rattle.signals.specs.Words.{date_of, value_after, most_words}
use Rattle.signals.specs.Normal.{Accepted}
use Rattle.signals.specs.Passing.{held_value}
use Rattle.signals.proofs.Truth.{at_or_after}
use Rattle.signals.proofs.Normal.{accepted_normal, accepted_start}
use Rattle.reading.specs.Reading.{NEVER}
use Rattle.reading.specs.declared.Step.{Step}
use Rattle.reading.proofs.Counting.{next_in}
use Rattle.slices.specs.Bytes.{Bytes, Words, words_in}
use Rattle.sources.specs.Sources.{list_on_sheet, start_of, past_on}
use Rattle.sources.specs.declared.Cursor.{Cursor}
use Rattle.sources.specs.declared.Passed.{Passed}
use Rattle.sources.proofs.SourceWords.{length_words}
use Rattle.sources.specs.declared.Memory.TheVariants.{Sheet}
use Rattle.sources.proofs.Sourcing.{words_at}
use Rattle.sources.proofs.Readers.{Reading, start_passed, reads_start, reads_date, reads_held}
use Rattle.lent_slots.proofs.WordReaders.{word_left, word_step, word_passed, word_on}
use Rattle.format.specs.Theorems.{decoded}
use Rattle.uptimes.specs.Turns.{State, ended, past_word, FoundIn}
use Rattle.uptimes.proofs.AlongWords.{Along, begun, along_start, along_next, found_up, found_down}

-- the whole part
pub part_list : (part : List ℕ) (n : ℕ) → n ≡ length part / 4 → list_on_sheet part 0 n ≡ decoded part
unfolding list_on_sheet decoded
part_list part n e = let m : min n ((length part - 0) / 4) ≡ length part / 4 = omega arith in ap (λ (k : ℕ). words_in k part) m

pub part_words : (part : List ℕ) → Accepted (decoded part) → (1 ≤ length part / 4) × (length part / 4 ≤ most_words)
unfolding decoded
part_words part a =
    let e = length_words (length part / 4) part in
    (omega (arith, e, (accepted_start (decoded part) a).within), omega (arith, e, ((accepted_normal (decoded part)).0 a).1))

-- the reader of the part, past its first word
pub reads_part : (part : List ℕ) → Bytes part → Accepted (decoded part) → (x : Cursor) → x ≡ start_of (decoded part)
    → Reading (decoded part) x × (x.passed ≤ length (decoded part))
reads_part part b a x e =
    let small = words_at part [] [] [] (record { memory = Sheet; at = 0; count = length part / 4 }) b none none none in
    let short = ((accepted_normal (decoded part)).0 a).1 in (
      reads_start (decoded part) (subst Words (part_list part (length part / 4) refl) small) (omega (arith, short)) x e,
      omega (arith, start_passed (decoded part) x e, (accepted_start (decoded part) a).within),
    )
  where
    none : Words []
    none i = omega arith

pub along_part : (l : List ℕ) (H : ℕ) (out : List ℕ) → Accepted l → (x : Cursor) → x ≡ start_of l → Along l H out x.passed (begun out)
along_part l H out a x e = subst (λ (p : ℕ). Along l H out p (begun out)) (sym (start_passed l x e)) (along_start l H out a)

-- on the way no number passes what its type holds
pub can_go : (l : List ℕ) (H : ℕ) (out₀ : List ℕ) (p : ℕ) (s : State) → Accepted l → p ≤ length l → Along l H out₀ p s
    → (s.total ≤ s.from) × (s.count ≤ 1024)
can_go l H out₀ p s a h g = (g.before, omega (arith, g.few, h, ((accepted_normal l).0 a).1))

-- where the next date is H or later, no word before H is left
none_before : (l : List ℕ) (x : Cursor) (H : ℕ) → Reading l x → H ≤ x.date
    → (length l ≤ x.passed) ⊎ ((x.passed < length l) × (H ≤ date_of (get_or l x.passed 0)))
none_before l x H g h = go (at_or_after (length l) x.passed)
  where
    go : (length l ≤ x.passed) ⊎ (x.passed < length l)
        → (length l ≤ x.passed) ⊎ ((x.passed < length l) × (H ≤ date_of (get_or l x.passed 0)))
    go (inl m) = inl m
    go (inr m) = inr (m, omega (arith, h, reads_date l x g, next_in l x.passed m))

-- the value held, by the test of its word
held_up : (l : List ℕ) (x : Cursor) → Reading l x → x.last % 2 ≡ 1 → held_value l x.passed ≡ true
unfolding value_after
held_up l x g e = sym (reads_held l x g) ∙ eq-eqb (x.last % 2) 1 e

held_down : (l : List ℕ) (x : Cursor) → Reading l x → (x.last % 2 ≡ 1 → ⊥) → held_value l x.passed ≡ false
unfolding value_after
held_down l x g e = sym (reads_held l x g) ∙ ne_eqb (x.last % 2) 1 e

-- a turn of the loop: a word is left, it is passed, and the rest goes on
pub record Turned (l : List ℕ) (H : ℕ) (out₀ : List ℕ) (x next : Cursor) (z : State) : Type 0 where
  pub left : x.passed < length l
  pub one : next.passed ≡ x.passed + 1
  pub reads : Reading l next
  pub along : Along l H out₀ next.passed z

pub turn : (l m : List ℕ) (H : ℕ) (out₀ : List ℕ) (x : Cursor) (s : State) → m ≡ l → Reading l x → Along l H out₀ x.passed s
    → x.date < H → H ≤ M → (u : Passed) → u ≡ past_on m x x.date → (z : State)
    → z ≡ past_word x.date u.step.before u.step.after s → Turned l H out₀ x u.next z
turn l m H out₀ x s q g a early most u e z f =
    let never : x.date < NEVER = omega (arith, early, most) in
    let v : u ≡ past_on l x x.date = e ∙ ap (λ (k : List ℕ). past_on k x x.date) q in
    let (h, d) = word_left l x g never in
    let st = word_step l x g never u v in
    let b : u.step.before ≡ held_value l x.passed = ap (λ (y : Step). y.before) st in
    let c : u.step.after ≡ value_after (get_or l x.passed 0) = ap (λ (y : Step). y.after) st in
    let past : z ≡ past_word (date_of (get_or l x.passed 0)) (held_value l x.passed) (value_after (get_or l x.passed 0)) s =
    f ∙ ap (λ (k : ℕ). past_word k u.step.before u.step.after s) d
    ∙ ap (λ (k : Bool). past_word (date_of (get_or l x.passed 0)) k u.step.after s) b
    ∙ ap (λ (k : Bool). past_word (date_of (get_or l x.passed 0)) (held_value l x.passed) k s) c in
    let on = along_next l H out₀ x.passed s a h (omega (arith, d, early)) in
    record {
      left = h;
      one = word_passed l x g never u v;
      reads = word_on l x g never u v;
      along =
          subst (λ (p : ℕ). Along l H out₀ p z) (sym (word_passed l x g never u v)) (subst (Along l H out₀ (x.passed + 1)) (sym past) on);
    }

-- at the end of the loop
module _ (l : List ℕ) (H : ℕ) (out₀ : List ℕ) (x : Cursor) (s : State) (g : Reading l x) (a : Along l H out₀ x.passed s)
    (accepted : Accepted l) (over : H ≤ x.date)
  where
    pub end_up : x.last % 2 ≡ 1 → (z : State) → z ≡ ended H s → FoundIn l H z.count z.total out₀ z.out
    end_up odd z e =
        subst (λ (y : State). FoundIn l H y.count y.total out₀ y.out) (sym e)
        (found_up l H out₀ x.passed s a accepted (none_before l x H g over) (held_up l x g odd))

    pub end_down : (x.last % 2 ≡ 1 → ⊥) → FoundIn l H s.count s.total out₀ s.out
    end_down even = found_down l H out₀ x.passed s a accepted (none_before l x H g over) (held_down l x g even)
