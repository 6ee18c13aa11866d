-- One part worked out, from what its operation gives in the slot.
use Prim.Native.Nat.{ℕ, ◌+◌, ◌≤◌}
use native.Mathlib.Omega.{arith}
use mathlib.Core.Path.{◌≡◌, refl, sym, ◌∙◌, ap}
use mathlib.Core.Bool.{true}
use mathlib.Core.List.{List, ◌++◌}
use lib.ListN.{length, take, drop, length-append, length-drop}
use lib.Seq.{length-take-le}
use borrow.Author.Tests.{le-leb}
use Rattle.signals.specs.Words.{most_words}
use Rattle.signals.specs.Answers.{fault_in, count_in}
use Rattle.signals.specs.declared.Written.{Written}
use Rattle.sources.specs.Sources.{slot_in, with_slot}
use Rattle.sources.specs.declared.Source.{Source}
use Rattle.sources.proofs.Sourcing.{slot_long}
use Rattle.merging.specs.Merging.{may_merge}
use Rattle.applying.specs.Applied.{PartAt, PartMade}
use Rattle.signals.specs.declared.Written.TheVariants as written
use Rattle.std.proofs.Common.{Result, Ok, Err}
use Rattle.working.specs.Standing.{slot_source, slot_made, Ready, ListMade}

may : (a b : Source) (at room : ℕ) → Ready a b at room → may_merge a b at room ≡ true
unfolding may_merge
may a b at room r = rw (r.first, r.second, le-leb (at + most_words) room r.fits)

-- a slot in a work area that is as long as before
slot_wide : (work slot : List ℕ) (at : ℕ) → at + most_words ≤ length work → length (with_slot work at most_words slot) ≡ length work
    → length slot ≡ most_words
slot_wide work slot at h e =
    let a = length-append (take at work) (slot ++ drop (at + most_words) work) in
    let b = length-append slot (drop (at + most_words) work) in
    let c = length-take-le at work (omega arith) in
    let d = length-drop (at + most_words) work in
    omega arith

module _ (w : ℕ) (sheet work : List ℕ) (a b : Source) (at : ℕ) (answer : Written) (after : List ℕ) (r : Ready a b at (length work))
    (p : PartAt w sheet work a b at answer after) where
  part : PartMade w sheet work a b at answer after
  part = p.begun (may a b at (length work) r)

  pub short : count_in answer ≤ most_words
  short = part.short

  pub list_made : length after ≡ length work → (next : Result Source ℕ) → next ≡ slot_made at answer
      → ListMade w sheet work a b at next after
  list_made same next e =
      record {
        answer = answer;
        slot = part.slot;
        wide = slot_wide work part.slot at r.fits (sym (ap length part.after_is) ∙ same);
        after_is = part.after_is;
        applied = record {
          before = slot_in work at most_words;
          slot = part.slot;
          wide = slot_long work at most_words r.fits;
          applied = part.applied;
          list_is = refl;
        };
        short = part.short;
        made = e;
      }

-- where a list is made it stands in the slot; where none is, the fault is the answer's
pub made_ok : (at : ℕ) (answer : Written) (list : Source) → Ok list ≡ slot_made at answer
    → (list ≡ slot_source at answer) × (fault_in answer ≡ 0)
made_ok at (written.Count n) list e = (cc, refl)
made_ok at (written.Refused fault) list e = absurd (cc)

pub made_err : (at : ℕ) (answer : Written) (fault : ℕ) → Err fault ≡ slot_made at answer → answer ≡ written.Refused fault
made_err at (written.Count n) fault e = absurd (cc)
made_err at (written.Refused f) fault e = cc
