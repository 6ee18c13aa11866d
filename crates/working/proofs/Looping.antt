-- Working code words out one by one: the sources say where the stack's lists stand, and what is left to run from there is left of all.
use Prim.Native.Nat.{ℕ, suc, ◌+◌, ◌-◌, ◌/◌, ◌%◌, ◌≤◌, ◌<◌}
use native.Mathlib.Omega.{arith}
use native.Mathlib.Numerals.{add-one}
use native.Mathlib.Decide.{ℕ_discrete}
use mathlib.Core.Path.{◌≡◌, refl, sym, ◌∙◌, ap}
use mathlib.Core.Bool.{Bool, true, false, cond}
use mathlib.Core.List.{List, [], ◌∷◌}
use mathlib.Core.Logic.{◌⊎◌}
use lib.Dec.{eqb}
use lib.ListN.{length, take, drop, get_or, set, length-set, length-drop, drop_of_length-le}
use lib.Seq.{drop-cons, get_or-set_same, get_or-set_other, take-take}
use borrow.Author.Tests.{le-ltb, lt-ltb, lt-leb}
use Rattle.signals.specs.Words.{most_words}
use Rattle.signals.specs.Answers.{fault_in, count_in}
use Rattle.calls.specs.Calls.{work_words}
use Rattle.grammar.specs.Kinds as kinds
use Rattle.sources.specs.Sources.{list_at}
use Rattle.sources.specs.declared.Memory.{Memory}
use Rattle.sources.specs.declared.Memory.TheVariants.{Sheet, Work, Left, Right}
use Rattle.sources.specs.declared.Source.{Source}
use Rattle.sources.proofs.Sourcing.{slot_back, with_slot_long, part_after}
use Rattle.code_words.specs.CodeWords.{constants, constant_of, leaf_source, operands_of}
use Rattle.applying.specs.Applied.{Applied}
use Rattle.machine.specs.Stack.{leaf_list, first_taken, on_top, Runs, Worked, lacking, high, leaf, made, refused, area_fault, RanOut}
use Rattle.machine.proofs.PartCodes.{arity_small}
use Rattle.working.specs.Layout.{kept_at}
use Rattle.working.specs.declared.Tops.{Tops}
use Rattle.std.proofs.Common.{Result, Ok, Err}
use Rattle.signals.specs.declared.Written.TheVariants as written
use Rattle.applying.proofs.Refusals.{refused_by}
use Rattle.working.proofs.Stepping.{made_ok, made_err}
use Rattle.working.specs.Standing.{slot_source, list_of, nowhere, from_above, Ready}
use Rattle.working.proofs.OnStack.{Stands, Stacked, Slotted}
use Rattle.working.specs.Standing.{LeafMade, ListMade, StepMade, WorkedOut}
use Rattle.working.proofs.Standing.{stands_at, stacked_drop, stands_apart, stacked_kept, stacked_same}
use Rattle.working.proofs.Slots.{exchanged, exchanged_slotted, exchanged_below, exchanged_top, first_slots, first_slotted}

-- a work area that is too short
pub no_room : (sheet codes before : List ℕ) → length before < work_words → WorkedOut sheet codes before (Err 18) before
unfolding area_fault
no_room sheet codes before h =
    record {
      end = [];
      out = record { short = λ x. (sym fault, refl); runs = λ z. absurd (let q = sym fault ∙ z in omega arith) };
      faulty = λ z. absurd (omega arith);
      top_is = tt;
      below_is = tt;
      kept_is = refl;
    }
  where
    fault : area_fault (length before) ≡ 18
    fault = rw (lt-ltb (length before) work_words h)

-- a leaf's list stands wherever the work area is
in_work : Memory → ℕ
in_work Sheet = 0
in_work Work = 1
in_work Left = 0
in_work Right = 0

leaf_stands : (sheet work : List ℕ) (w slot : ℕ) → Stands sheet work (leaf_source w) slot (leaf_list sheet w)
unfolding leaf_source leaf_list in_work
leaf_stands sheet work w slot = go (eqb (w % 16) kinds.NAME)
  where
    go : (b : Bool)
        → Stands sheet work
        (cond b (record { memory = Sheet; at = w / 8192 % 4294967296; count = w / 16 % 512 })
        (record { memory = Left; at = constant_of w; count = 1 }))
        slot
        (list_at sheet constants constants []
        (cond b (record { memory = Sheet; at = w / 8192 % 4294967296; count = w / 16 % 512 })
        (record { memory = Left; at = constant_of w; count = 1 })))
    go true = record { names = refl; own = λ e. absurd (let z : ◌≡◌ {A = ℕ} 0 1 = ap in_work e in omega arith) }
    go false = record { names = refl; own = λ e. absurd (let z : ◌≡◌ {A = ℕ} 0 1 = ap in_work e in omega arith) }

module _ (sheet codes before : List ℕ) where
  pub record Going (work : List ℕ) (stack : List Source) (slots : List ℕ) (height i : ℕ) : Type 0 where
    pub st : List (List ℕ)
    pub tall : length st ≡ height
    pub few : height ≤ 18
    pub long : length stack ≡ 20
    pub slotted : Slotted slots
    pub stacked : Stacked sheet work stack slots st
    pub same : length work ≡ length before
    pub kept : drop (kept_at 0) work ≡ drop (kept_at 0) before
    pub on : (fault : ℕ) (end : List (List ℕ)) → Runs sheet (drop i codes) st fault end → Runs sheet codes [] fault end

  pub start : (stack : List Source) → length stack ≡ 20 → Going before stack first_slots 0 0
  start stack e =
      record {
        st = [];
        tall = refl;
        few = omega arith;
        long = e;
        slotted = first_slotted;
        stacked = tt;
        same = refl;
        kept = refl;
        on = λ fault end r. r;
      }

  module _ (room : work_words ≤ length before) where
    no_18 : area_fault (length before) ≡ 0
    unfolding area_fault
    no_18 = rw (le-ltb (length before) work_words room)

    ended : (fault : ℕ) (after : List ℕ) (end : List (List ℕ)) → Runs sheet codes [] fault end
        → RanOut sheet codes before after fault end
    ended fault after end r = record { short = λ x. absurd (x no_18); runs = λ z. r }

    -- a fault ends it
    stops : (fault : ℕ) (after : List ℕ) → drop (kept_at 0) after ≡ drop (kept_at 0) before → (end : List (List ℕ))
        → (fault ≡ 0 → ⊥) → Runs sheet codes [] fault end → WorkedOut sheet codes before (Err fault) after
    stops fault after kept end x r =
        record { end = end; out = ended fault after end r; faulty = x; top_is = tt; below_is = tt; kept_is = kept }

    module _ (work : List ℕ) (stack : List Source) (slots : List ℕ) (height i : ℕ) (g : Going work stack slots height i) where
      pub finished : length codes ≤ i → (tops : Tops) → tops.top ≡ from_above stack height 0
          → tops.below ≡ from_above stack height 1 → WorkedOut sheet codes before (Ok tops) work
      unfolding from_above
      finished h tops t b =
          record {
            end = g.st;
            out = ended 0 work g.st (g.on 0 g.st (rw (drop_of_length-le codes {i = i} h) (refl, refl)));
            faulty = tt;
            top_is = λ k. rw t (above 0 (omega (arith, g.tall)));
            below_is = λ k. rw b (above 1 (omega (arith, g.tall)));
            kept_is = g.kept;
          }
        where
          above : (depth : ℕ) → depth < height → list_of sheet work (from_above stack height depth) ≡ get_or g.st depth []
          above depth d =
              let k : length g.st - 1 - (height - depth - 1) ≡ depth = omega (arith, g.tall) in
              let s = stands_at sheet work stack slots g.st g.stacked (height - depth - 1) (omega (arith, g.tall)) in
              rw (lt-leb height depth d, lt-ltb (height - depth - 1) 20 (omega (arith, g.few)))
              (s.names ∙ ap (λ n. get_or g.st n []) k)

      module _ (more : i < length codes) (w : ℕ) (e : w ≡ get_or codes i 0) where
        -- the part that comes next
        next : drop i codes ≡ w ∷ drop (suc i) codes
        next = drop-cons codes i 0 more ∙ ap (λ v. v ∷ drop (suc i) codes) (sym e)

        now_runs : (fault : ℕ) (end : List (List ℕ)) → Worked sheet w g.st fault (λ st. Runs sheet (drop (suc i) codes) st fault end)
            → Runs sheet codes [] fault end
        now_runs fault end r = g.on fault end (rw next r)

        pub lacks : height < operands_of w → WorkedOut sheet codes before (Err 12) work
        lacks h = stops 12 work g.kept [] (λ z. absurd (omega arith)) (now_runs 12 [] (lacking (omega (arith, g.tall)) refl))

        pub too_high : operands_of w ≤ height → 17 < height - operands_of w → WorkedOut sheet codes before (Err 12) work
        too_high h k =
            stops 12 work g.kept [] (λ z. absurd (omega arith))
            (now_runs 12 [] (high (omega (arith, g.few)) (omega (arith, g.tall)) refl))

        -- the places of a part's operands
        module _ (taken : ℕ) (t : taken ≡ operands_of w) (h : taken ≤ height) (k : height - taken ≤ 17) where
          small : taken ≤ 2
          small = rw t (arity_small _)

          own : (n : ℕ) → n < height → Stands sheet work (get_or stack n nowhere) (get_or slots n 0) (get_or g.st (height - 1 - n) [])
          own n l =
              rw g.tall at (stands_at sheet work stack slots g.st g.stacked n (omega (arith, g.tall)))

          far : (n : ℕ) → n < height → (get_or slots n 0 + most_words ≤ get_or slots height 0) ⊎
              (get_or slots height 0 + most_words ≤ get_or slots n 0)
          far n l = g.slotted.apart n height (omega (arith, g.few)) (omega (arith, g.few)) (λ q. absurd (omega arith))

          pub ready : 1 ≤ taken → Ready (get_or stack (height - taken) nowhere) (get_or stack (height - taken + taken / 2) nowhere)
              (get_or slots height 0)
              (length work)
          ready l =
              record {
                first = stands_apart sheet work _ _ _ (own (height - taken) (omega arith)) (get_or slots height 0) (far (height - taken)
                    (omega arith));
                second = stands_apart sheet work _ _ _ (own (height - taken + taken / 2) (omega (arith, small))) (get_or slots height 0)
                    (far (height - taken + taken / 2) (omega (arith, small)));
                fits = let z = g.slotted.within height (omega (arith, g.few)) in omega (arith, g.same);
              }

          -- the part's list put in its place
          module _ (list : Source) (work' l : List ℕ) (stands : Stands sheet work' list (get_or slots height 0) l)
              (long' : length work' ≡ length work) (kept' : drop (kept_at 0) work' ≡ drop (kept_at 0) work)
              (below : Stacked sheet work' (set stack (height - taken) list) (exchanged slots height (height - taken)) (drop taken g.st))
              (goes : (fault : ℕ) (end : List (List ℕ)) → Runs sheet (drop (suc i) codes) (l ∷ drop taken g.st) fault end
              → Worked sheet w g.st fault (λ st. Runs sheet (drop (suc i) codes) st fault end)) where
            left : length (drop taken g.st) ≡ height - taken
            left = length-drop taken g.st ∙ rw g.tall refl

            placed : Going work' (set stack (height - taken) list) (exchanged slots height (height - taken)) (height - taken + 1) (i + 1)
            placed =
                record {
                  st = l ∷ drop taken g.st;
                  tall = rw left (sym (add-one (height - taken)));
                  few = omega arith;
                  long = length-set stack (height - taken) list ∙ g.long;
                  slotted = exchanged_slotted height (height - taken) slots (omega (arith, g.few, g.slotted.long))
                      (omega (arith, g.slotted.long)) (omega (arith, g.few)) (omega arith) g.slotted;
                  stacked = (rw left top, below);
                  same = long' ∙ g.same;
                  kept = kept' ∙ g.kept;
                  on = λ fault end r. now_runs fault end (goes fault end (rw (add-one i) at r));
                }
              where
                top : Stands sheet work' (get_or (set stack (height - taken) list) (height - taken) nowhere)
                    (get_or (exchanged slots height (height - taken)) (height - taken) 0) l
                top =
                    rw (
                      get_or-set_same stack (height - taken) list nowhere (omega (arith, g.long)),
                      exchanged_top height (height - taken) slots (omega (arith, g.few, g.slotted.long)) (omega (
                        arith,
                        g.slotted.long,
                      )),
                    ) stands

          -- the sources and slots of the places below are as they were
          under : (list : Source) (n : ℕ) → n < length (drop taken g.st)
              → (get_or (set stack (height - taken) list) n nowhere ≡ get_or stack n nowhere)
              × (get_or (exchanged slots height (height - taken)) n 0 ≡ get_or slots n 0)
          under list n l =
              let d : length (drop taken g.st) ≡ height - taken = length-drop taken g.st ∙ rw g.tall refl in (
                get_or-set_other stack (height - taken) n list nowhere (λ q. absurd (omega (arith, d))),
                exchanged_below height (height - taken) slots (omega (arith, g.few, g.slotted.long)) (omega (arith, g.slotted.long)) n
                    (omega (arith, d)) (omega (arith, d)),
              )

          -- a leaf
          pub leaf_turn : taken ≡ 0 → (list : Source) (work' : List ℕ) → LeafMade w work (Ok list) work'
              → Going work' (set stack (height - taken) list) (exchanged slots height (height - taken)) (height - taken + 1) (i + 1)
          leaf_turn z list work' m =
              placed list work' (leaf_list sheet w) here (ap length m.kept) (ap (drop (kept_at 0)) m.kept)
              (rw m.kept (stacked_same sheet work stack _ slots _ (drop taken g.st) (stacked_drop sheet work stack slots taken
              g.st g.stacked)
              (under list)))
              (λ fault end r. leaf (sym t ∙ z) (omega (arith, g.tall)) (rw z at r))
            where
              list_is : list ≡ leaf_source w
              list_is = let e = m.made in cc

              here : Stands sheet work' list (get_or slots height 0) (leaf_list sheet w)
              here = rw list_is (leaf_stands sheet work' w (get_or slots height 0))

          -- an operation
          module _ (l : 1 ≤ taken) (next : Result Source ℕ) (work' : List ℕ)
              (m : ListMade w sheet work (get_or stack (height - taken) nowhere) (get_or stack (height - taken + taken / 2) nowhere)
              (get_or slots height 0) next work') where
            applied : Applied w (first_taken (operands_of w) g.st) (on_top g.st) m.answer (take (count_in m.answer) m.slot)
            applied =
                let x : height - 1 - (height - taken) ≡ operands_of w - 1 = rw (sym t) (omega arith) in
                let y : height - 1 - (height - taken + taken / 2) ≡ 0 = omega (arith, small) in
                let first = (own (height - taken) (omega arith)).names ∙ ap (λ n. get_or g.st n []) x in
                let second = (own (height - taken + taken / 2) (omega (arith, small))).names ∙ ap (λ n. get_or g.st n []) y in
                rw (first, second) at m.applied

            fits : get_or slots height 0 + most_words ≤ length work
            fits = (ready l).fits

            -- the slot is one of the stack's
            above : drop (kept_at 0) work' ≡ drop (kept_at 0) work
            above =
                ap (drop (kept_at 0)) m.after_is
                ∙ part_after work (get_or slots height 0) most_words fits m.slot m.wide (kept_at 0)
                (let z = g.slotted.within height (omega (arith, g.few)) in omega arith)

            pub refusal : (fault : ℕ) → next ≡ Err fault → WorkedOut sheet codes before (Err fault) work'
            refusal fault e =
                stops fault work' (above ∙ g.kept) [] some
                (now_runs fault []
                (refused m.answer _ (rw (sym t) l) (omega (arith, g.tall)) applied (ap fault_in told) some))
              where
                told : m.answer ≡ written.Refused fault
                told = made_err (get_or slots height 0) m.answer fault (sym e ∙ m.made)

                some : fault ≡ 0 → ⊥
                some = refused_by _ _ w _ _ _ _ m.answer m.applied.applied fault told

            pub list_turn : (list : Source) → next ≡ Ok list
                → Going work' (set stack (height - taken) list) (exchanged slots height (height - taken)) (height - taken + 1)
                (i + 1)
            list_turn list e =
                placed list work' (take (count_in m.answer) m.slot) here
                (ap length m.after_is ∙ with_slot_long work (get_or slots height 0) most_words fits m.slot m.wide) above
                (rw m.after_is
                (stacked_kept sheet work stack _ slots _ (get_or slots height 0) fits m.slot m.wide (drop taken g.st)
                (stacked_drop sheet work stack slots taken g.st g.stacked)
                (λ n k. ((under list n k).0, (under list n k).1, far n (omega (arith, length-drop taken g.st, g.tall))))))
                (λ fault end r. made m.answer _ (rw (sym t) l) (omega (arith, g.tall)) applied told.1 (rw t at r))
              where
                told : (list ≡ slot_source (get_or slots height 0) m.answer) × (fault_in m.answer ≡ 0)
                told = made_ok (get_or slots height 0) m.answer list (sym e ∙ m.made)

                here : Stands sheet work' list (get_or slots height 0) (take (count_in m.answer) m.slot)
                here =
                    rw (told.0, m.after_is)
                    (record {
                      names =
                          sym (take-take (count_in m.answer) most_words _ m.short)
                          ∙ ap (take (count_in m.answer)) (slot_back work (get_or slots height 0) most_words fits m.slot m.wide);
                      own = λ q. (refl, m.short);
                    })

          -- either
          pub turned : (list : Source) (work' : List ℕ)
              → StepMade w taken sheet work (get_or stack (height - taken) nowhere) (get_or stack (height - taken + taken / 2) nowhere)
              (get_or slots height 0) (Ok list) work'
              → Going work' (set stack (height - taken) list) (exchanged slots height (height - taken)) (height - taken + 1) (i + 1)
          turned list work' m = go (ℕ_discrete taken 0)
            where
              go : Dec (taken ≡ 0)
                  → Going work' (set stack (height - taken) list) (exchanged slots height (height - taken)) (height - taken + 1)
                  (i + 1)
              go (yes e) = leaf_turn e list work' (m.0 e)
              go (no x) = let l : 1 ≤ taken = omega arith in list_turn l (Ok list) work' (m.1 l) list refl

          pub halted : (fault : ℕ) (work' : List ℕ)
              → StepMade w taken sheet work (get_or stack (height - taken) nowhere) (get_or stack (height - taken + taken / 2) nowhere)
              (get_or slots height 0) (Err fault) work' → WorkedOut sheet codes before (Err fault) work'
          halted fault work' m = go (ℕ_discrete taken 0)
            where
              go : Dec (taken ≡ 0) → WorkedOut sheet codes before (Err fault) work'
              go (yes e) = absurd (let q = (m.0 e).made in cc)
              go (no y) = let l : 1 ≤ taken = omega arith in refusal l (Err fault) work' (m.1 l) fault refl
