-- A part's operation in a slot, from what the merge or the timer there gives.
use Prim.Native.Nat.{ℕ, ◌+◌, ◌/◌, ◌%◌, ◌≤◌, ◌<◌}
use native.Mathlib.Omega.{arith}
use mathlib.Core.Path.{◌≡◌, refl, sym, ◌∙◌, ap}
use mathlib.Core.Bool.{Bool, true, false, cond, ◌&&◌}
use mathlib.Core.List.{List}
use lib.Dec.{leb, ltb}
use lib.ListN.{length}
use borrow.Author.Tests.{leb-true, leb-false, le-leb, lt-leb, ltb-false}
use Rattle.signals.specs.Moment.{M}
use Rattle.signals.specs.Words.{most_words}
use Rattle.signals.specs.Signal.{Table}
use Rattle.signals.specs.Answers.{count_in}
use Rattle.signals.specs.declared.Written.{Written}
use Rattle.signals.specs.declared.Written.TheVariants.{Refused}
use Rattle.signals.proofs.Truth.{and_left, and_right, true_false}
use Rattle.building.specs.Slots.{made_answer}
use Rattle.building.specs.declared.Made.{Made}
use Rattle.building.specs.declared.SlotAnswer.{SlotAnswer}
use Rattle.building.specs.declared.SlotAnswer.TheVariants.{Stands, TooLong, TooLate}
use Rattle.showing.specs.declared.Operation.{Operation}
use Rattle.sources.specs.Sources.{list_at, apart_from, slot_in}
use Rattle.sources.specs.declared.Memory.TheVariants.{Right}
use Rattle.sources.specs.declared.Source.{Source}
use Rattle.sources.proofs.Sourcing.{slot_kept}
use Rattle.merging.specs.Merging.{may_merge, MergedAt}
use Rattle.lent_slots.specs.Lent.{Ended, Engine, may_build, BuiltAt}
use Rattle.grammar.specs.Kinds as kinds
use Rattle.code_words.specs.CodeWords.{constants}
use Rattle.applying.specs.PartCalls.{part_answer}
use Rattle.applying.specs.Merges.{operation_of, table_for}
use Rattle.applying.specs.Applied.{edged, engine_of, MergePart, TimerPart, PartMade, PartAt}

-- what stands in a slot has at most 256 words
made_small : (made : Made) → count_in (part_answer (made_answer made)) ≤ most_words
unfolding made_answer
made_small made = go (ltb most_words made.count) made.late refl
  where
    go : (a b : Bool) → ltb most_words made.count ≡ a
        → count_in (part_answer (cond a TooLong (cond b TooLate (Stands made.count)))) ≤ most_words
    go true b e = omega arith
    go false true e = omega arith
    go false false e = ltb-false most_words made.count e

-- the operands are apart from the slot, which fits
may : (a b : Source) (at n : ℕ) → may_merge a b at n ≡ true
    → (apart_from a at most_words ≡ true) × (apart_from b at most_words ≡ true) × (at + most_words ≤ n)
unfolding may_merge
may a b at n h =
    let r = and_right (apart_from a at most_words) _ h in (
      and_left (apart_from a at most_words) _ h,
      and_left (apart_from b at most_words) _ r,
      leb-true (at + most_words) n (and_right (apart_from b at most_words) _ r),
    )

pub may_be : (a b : Source) (at n : ℕ) → true ≡ apart_from a at most_words → true ≡ apart_from b at most_words → at + most_words ≤ n
    → may_merge a b at n ≡ true
unfolding may_merge
may_be a b at n x y h = rw (sym x, sym y, le-leb (at + most_words) n h)

-- with the list that is always down
pub may_one : (a b : Source) (at n : ℕ) → may_merge a b at n ≡ true → may_merge a (record { memory = Right; at = 0; count = 1 }) at n ≡ true
may_one a b at n h = let m = may a b at n h in may_be a _ at n (sym m.0) refl m.2

pub may_alone : (a b : Source) (at n : ℕ) → may_merge a b at n ≡ true → may_merge a a at n ≡ true
may_alone a b at n h = let m = may a b at n h in may_be a a at n (sym m.0) (sym m.0) m.2

module _ (sheet work : List ℕ) (at : ℕ) (given : SlotAnswer) (answer : Written) (after : List ℕ) (e : answer ≡ part_answer given) where
  pub merge_part : (kind : ℕ) (o : Operation) (table : Table) (a b : Source) → o ≡ operation_of kind → table ≡ table_for kind
      → may_merge a b at (length work) ≡ true → MergedAt o table sheet constants constants work a b at given after
      → MergePart kind sheet work a b at answer after
  merge_part kind o table a b i j h m =
      let z = m.built h in
      let told : answer ≡ part_answer (made_answer z.0) = e ∙ ap part_answer z.2 in
      record {
        slot = z.1.0;
        after_is = z.1.2;
        short = rw told (made_small z.0);
        applied = record { made = z.0; merges = rw (← i, ← j) z.1.1; answer_is = told };
      }

  pub timer_part : (w d : ℕ) (engine : Engine) (a : Source) → engine ≡ engine_of (w % 16) (w / 16 % 4294967296) → d ≡ w / 16 % 4294967296
      → may_merge a a at (length work) ≡ true → BuiltAt engine d sheet constants constants work a at given after
      → TimerPart w sheet work a at answer after
  unfolding may_build
  timer_part w d engine a i j h m = go (leb d M) refl
    where
      room : (apart_from a at most_words ≡ true) × (apart_from a at most_words ≡ true) × (at + most_words ≤ length work)
      room = may a a at (length work) h

      begins : leb d M ≡ true → (leb d M && (leb (at + most_words) (length work) && apart_from a at most_words)) ≡ true
      begins s = rw (s, le-leb (at + most_words) (length work) room.2) room.0

      go : (t : Bool) → leb d M ≡ t → TimerPart w sheet work a at answer after
      go true s =
          let z = m.built (begins s) in
          let last : Ended = engine (list_at sheet constants constants work a) (slot_in work at most_words) in
          let told : answer ≡ part_answer (made_answer last.made) = e ∙ ap part_answer z.2 ∙ ap (λ x. part_answer (made_answer x))
          z.1.0 in
          record {
            slot = last.slot;
            after_is = z.1.1;
            short = rw told (made_small last.made);
            applied = rw (← i, ← j) (record {
              past_M = λ l. absurd (let k = leb-true d M s in omega arith);
              ran = λ k. (told, refl);
            });
          }
      go false s =
          let z = m.refused (rw s refl) in
          let told : answer ≡ Refused 5 = e ∙ ap part_answer z.0 in
          record {
            slot = slot_in work at most_words;
            after_is = z.1 ∙ sym (slot_kept work at most_words room.2);
            short = rw told (omega arith);
            applied = rw (← i, ← j) (record { past_M = λ l. (told, refl); ran = λ k. absurd (let l = leb-false d M s in omega arith) });
          }

-- which operation it is
module _ (w : ℕ) (sheet work : List ℕ) (a b : Source) (at : ℕ) (answer : Written) (after : List ℕ) where
  pub by_two : kinds.AND ≤ w % 16 → MergePart (w % 16) sheet work a b at answer after → PartMade w sheet work a b at answer after
  by_two l p =
      record {
        slot = p.slot;
        after_is = p.after_is;
        short = p.short;
        applied = rw (le-leb kinds.AND (w % 16) l) p.applied;
      }

  pub by_one : w % 16 < kinds.AND → edged (w % 16) ≡ true
      → MergePart (w % 16) sheet work a (record { memory = Right; at = 0; count = 1 }) at answer after
      → PartMade w sheet work a b at answer after
  by_one l e p =
      record {
        slot = p.slot;
        after_is = p.after_is;
        short = p.short;
        applied = rw (lt-leb kinds.AND (w % 16) l, e) p.applied;
      }

  pub by_timer : w % 16 < kinds.AND → edged (w % 16) ≡ false → TimerPart w sheet work a at answer after
      → PartMade w sheet work a b at answer after
  by_timer l e p =
      record {
        slot = p.slot;
        after_is = p.after_is;
        short = p.short;
        applied = rw (lt-leb kinds.AND (w % 16) l, e) p.applied;
      }

  pub part_made : may_merge a b at (length work) ≡ true → PartMade w sheet work a b at answer after → PartAt w sheet work a b at answer
      after
  part_made h p = record { refused = λ x. true_false (sym h ∙ x); begun = λ x. p }

pub part_refused : (w : ℕ) (sheet work : List ℕ) (a b : Source) (at : ℕ) → may_merge a b at (length work) ≡ false
    → PartAt w sheet work a b at (Refused 5) work
part_refused w sheet work a b at h = record { refused = λ x. (refl, refl); begun = λ x. true_false (sym x ∙ h) }

pub not_first : (a b : Source) (at n : ℕ) → false ≡ apart_from a at most_words → may_merge a b at n ≡ false
unfolding may_merge
not_first a b at n x = rw (sym x)

pub not_second : (a b : Source) (at n : ℕ) → true ≡ apart_from a at most_words → false ≡ apart_from b at most_words → may_merge a b at n
    ≡ false
unfolding may_merge
not_second a b at n x y = rw (sym x, sym y)

pub no_fit : (a b : Source) (at n : ℕ) → true ≡ apart_from a at most_words → true ≡ apart_from b at most_words → n < at + most_words
    → may_merge a b at n ≡ false
unfolding may_merge
no_fit a b at n x y h = rw (sym x, sym y, lt-leb (at + most_words) n h)
