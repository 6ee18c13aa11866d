-- What a loop keeps that passes the words of a list where it stands, for every list: the slot alone has changed, and from its state on the
-- words left lead where all lead from the first.
use Prim.Native.Nat.{ℕ, ◌+◌, ◌-◌, ◌≤◌, ◌<◌}
use native.Mathlib.Omega.{arith}
use native.Mathlib.Numerals.{add-one}
use mathlib.Core.Path.{◌≡◌, refl, sym, ◌∙◌, ap}
use mathlib.Core.Bool.{Bool, true, false}
use mathlib.Core.List.{List, ◌∷◌, ◌++◌}
use lib.Dec.{ltb}
use lib.ListN.{length, take, drop, get_or, set, length-set, drop_of_length-le}
use lib.Seq.{drop-cons}
use borrow.Author.Tests.{ltb-true, ltb-false}
use Rattle.slices.specs.Bytes.{Words}
use Rattle.signals.specs.Signal.{num}
use Rattle.building.specs.declared.Made.{Made}
use Rattle.sources.specs.Sources.{no_word, next_word, list_at, apart_from, slot_in, with_slot}
use Rattle.sources.specs.declared.Source.{Source}
use Rattle.sources.proofs.SourceWords.{word_left, no_word_left}
use Rattle.sources.proofs.Sourcing.{list_short, slot_kept, slot_long, slot_back, slot_again, with_slot_long, part_back, apart_kept}
use Rattle.lent_slots.specs.Lent.{Ended, ended_by, through, EndsIn}

-- the operand and the slot of an engine that begins
pub record Placed (sheet left right work : List ℕ) (f : Source) (at room : ℕ) : Type 0 where
  pub fits : at + room ≤ length work
  pub apart : apart_from f at room ≡ true
  pub words : Words (list_at sheet left right work f)
  pub few : f.count < 4294967296

pub few_words : (sheet left right work : List ℕ) (f : Source) (at room : ℕ) → Placed sheet left right work f at room
    → length (list_at sheet left right work f) < 4294967296
few_words sheet left right work f at room p = omega (arith, list_short sheet left right work f, p.few)

-- one word more is passed; none is left
module _ {S : Type 0} (pass : S → ℕ → S) (l : List ℕ) (i : ℕ) (s start : S)
    (leads : through pass (drop i l) s ≡ through pass (drop 1 l) start)
  where
    pub leads_on : i < length l → (t : S) → t ≡ pass s (get_or l i 0) → through pass (drop (i + 1) l) t ≡ through pass (drop 1 l) start
    unfolding through
    leads_on h t e =
        let ahead : drop i l ≡ get_or l i 0 ∷ drop (i + 1) l = rw add-one (drop-cons l i 0 h) in
        ap (through pass (drop (i + 1) l)) e ∙ sym (ap (λ (ws : List ℕ). through pass ws s) ahead) ∙ leads

    pub leads_home : length l ≤ i → s ≡ through pass (drop 1 l) start
    unfolding through
    leads_home h = sym (ap (λ (ws : List ℕ). through pass ws s) (drop_of_length-le l {i = i} h)) ∙ leads

-- past so many words of the list; the state is that of the loop's variables and the slot
pub record Running {S : Type 0} (pass : S → ℕ → S) (l old : List ℕ) (at room : ℕ) (start : S) (work : List ℕ) (passed : ℕ)
    (state : List ℕ → S) : Type 0 where
  pub slot : List ℕ
  pub full : length slot ≡ room
  pub work_is : work ≡ with_slot old at room slot
  pub leads : through pass (drop passed l) (state slot) ≡ through pass (drop 1 l) start

-- The slot with its first word in it: what the words lead to from there is what the whole list gives.
module _ {S : Type 0} (pass : S → ℕ → S) (sheet left right old : List ℕ) (f : Source) (at room : ℕ) (fits : at + room ≤ length old)
    (apart : apart_from f at room ≡ true) (part : List ℕ) (shown : Bool)
    (e : part ≡ set (take (at + room - at) (drop at old)) 0 (num shown))
  where
    abbrev whole : List ℕ
    whole = list_at sheet left right old f

    abbrev first : List ℕ
    first = take at old ++ (part ++ drop (at + room - at) (drop at old))

    pub first_part : part ≡ set (slot_in old at room) 0 (num shown)
    first_part = let n : at + room - at ≡ room = omega arith in rw n at e

    first_full : length part ≡ room
    first_full = ap length first_part ∙ length-set (slot_in old at room) 0 (num shown) ∙ slot_long old at room fits

    first_is : first ≡ with_slot old at room part
    first_is = part_back old at room fits part (at + room - at) (omega arith)

    pub first_length : length first ≡ length old
    first_length = ap length first_is ∙ with_slot_long old at room fits part first_full

    pub first_list : list_at sheet left right first f ≡ whole
    first_list =
        ap (λ (x : List ℕ). list_at sheet left right x f) first_is
        ∙ apart_kept old at room fits part first_full sheet left right f apart

    pub begun_run : (finish : S → Ended) (state : List ℕ → S) (r : Made) (after : List ℕ)
        → EndsIn (finish (through pass (drop 1 (list_at sheet left right first f)) (state (slot_in first at room)))) first at room r after
        → EndsIn (finish (through pass (drop 1 whole) (state part))) old at room r after
    begun_run finish state r after (m, w) = (
      m ∙ ap (λ (s : S). (finish s).made) last,
      w ∙ ap (λ (s : S). with_slot first at room (finish s).slot) last
          ∙ ap (λ (x : List ℕ). with_slot x at room (finish (through pass (drop 1 whole) (state part))).slot) first_is
          ∙ slot_again old at room fits part first_full (finish (through pass (drop 1 whole) (state part))).slot,
    )
      where
        there : slot_in first at room ≡ part
        there = ap (λ (x : List ℕ). slot_in x at room) first_is ∙ slot_back old at room fits part first_full

        last : through pass (drop 1 (list_at sheet left right first f)) (state (slot_in first at room))
            ≡ through pass (drop 1 whole) (state part)
        last =
            ap (λ (l : List ℕ). through pass (drop 1 l) (state (slot_in first at room))) first_list
            ∙ ap (λ (x : List ℕ). through pass (drop 1 whole) (state x)) there

-- the next word of the list, where the loop has it: one is left, of 32 bits, or none is
module _ (l : List ℕ) (words : Words l) (passed word : ℕ) (e : word ≡ next_word l passed) where
  pub is_left : word < no_word → passed < length l
  is_left h = go (ltb passed (length l)) refl
    where
      go : (t : Bool) → ltb passed (length l) ≡ t → passed < length l
      go true q = ltb-true passed (length l) q
      go false q = absurd (omega (arith, h, e, no_word_left l passed (ltb-false passed (length l) q)))

  pub word_here : word < no_word → word ≡ get_or l passed 0
  word_here h = e ∙ word_left l passed (is_left h)

  pub small : word < no_word → word < 4294967296
  small h = rw (word_here h) (words passed)

  pub none_left : no_word ≤ word → length l ≤ passed
  none_left h = go (ltb passed (length l)) refl
    where
      go : (t : Bool) → ltb passed (length l) ≡ t → length l ≤ passed
      go true q =
          let n = ltb-true passed (length l) q in
          absurd (omega (arith, h, e ∙ word_left l passed n, words passed))
      go false q = ltb-false passed (length l) q

-- the words after it
module _ {S : Type 0} (pass : S → ℕ → S) (sheet left right old : List ℕ) (f : Source) (at room : ℕ)
    (p : Placed sheet left right old f at room)
  where
    abbrev list : List ℕ
    list = list_at sheet left right old f

    -- before the second word
    pub running_first : (state : List ℕ → S) → Running pass list old at room (state (slot_in old at room)) old 1 state
    running_first state =
        record {
          slot = slot_in old at room;
          full = slot_long old at room p.fits;
          work_is = sym (slot_kept old at room p.fits);
          leads = refl;
        }

    module _ (start : S) (work : List ℕ) (passed : ℕ) (state : List ℕ → S)
        (r : Running pass list old at room start work passed state)
      where
        pub running_length : length work ≡ length old
        running_length = ap length r.work_is ∙ with_slot_long old at room p.fits r.slot r.full

        -- the list is as it was
        pub running_list : list_at sheet left right work f ≡ list
        running_list =
            ap (λ (w : List ℕ). list_at sheet left right w f) r.work_is
            ∙ apart_kept old at room p.fits r.slot r.full sheet left right f p.apart

        there : slot_in work at room ≡ r.slot
        there = rw r.work_is (slot_back old at room p.fits r.slot r.full)

        -- the slot is lent and comes back with other words
        module _ (part : List ℕ) (full : length part ≡ length (take (at + room - at) (drop at work))) where
          size : at + room - at ≡ room
          size = omega arith

          part_full : length part ≡ room
          part_full = full ∙ ap (λ (n : ℕ). length (take n (drop at work))) size ∙ ap length there ∙ r.full

          abbrev lent : List ℕ
          lent = take at work ++ (part ++ drop (at + room - at) (drop at work))

          lent_is : lent ≡ with_slot old at room part
          lent_is =
              part_back work at room (rw running_length p.fits) part (at + room - at) size
              ∙ ap (λ (w : List ℕ). with_slot w at room part) r.work_is
              ∙ slot_again old at room p.fits r.slot r.full part

          pub lent_length : length lent ≡ length old
          lent_length = ap length lent_is ∙ with_slot_long old at room p.fits part part_full

          -- the list is as it was
          pub lent_list : list_at sheet left right lent f ≡ list
          lent_list =
              ap (λ (w : List ℕ). list_at sheet left right w f) lent_is
              ∙ apart_kept old at room p.fits part part_full sheet left right f p.apart

          part_there : take (at + room - at) (drop at work) ≡ r.slot
          part_there = ap (λ (n : ℕ). take n (drop at work)) size ∙ there

          -- one turn
          pub running_turn : passed < length list → (state' : List ℕ → S)
              → state' part ≡ pass (state (take (at + room - at) (drop at work))) (get_or list passed 0)
              → Running pass list old at room start lent (passed + 1) state'
          running_turn h state' e =
              record {
                slot = part;
                full = part_full;
                work_is = lent_is;
                leads =
                    leads_on pass list passed (state r.slot) start r.leads h (state' part)
                    (e ∙ ap (λ (x : List ℕ). pass (state x) (get_or list passed 0)) part_there);
              }

          -- the same of a loop that has the next word
          pub word_turn : (word : ℕ) → word ≡ next_word list passed → word < no_word → (state' : List ℕ → S)
              → state' part ≡ pass (state (take (at + room - at) (drop at work))) word
              → (word' : ℕ) → word' ≡ next_word (list_at sheet left right lent f) (passed + 1)
              → Running pass list old at room start lent (passed + 1) state' × (word' ≡ next_word list (passed + 1))
          word_turn word e h state' q word' n = (
            running_turn (is_left list p.words passed word e h) state'
                (q ∙ ap (pass (state (take (at + room - at) (drop at work)))) (word_here list p.words passed word e h)),
            n ∙ ap (λ (l : List ℕ). next_word l (passed + 1)) lent_list,
          )

          -- the end: what is still to come is put into the slot
          pub running_end : length list ≤ passed → (finish : S → Ended) (made : Made)
              → ended_by made part ≡ finish (state (take (at + room - at) (drop at work)))
              → EndsIn (finish (through pass (drop 1 list) start)) old at room made lent
          running_end h finish made e =
              let last : ended_by made part ≡ finish (through pass (drop 1 list) start) =
              e ∙ ap (λ (x : List ℕ). finish (state x)) part_there
              ∙ ap finish (leads_home pass list passed (state r.slot) start r.leads h) in
              (ap (λ (x : Ended). x.made) last, lent_is ∙ ap (λ (x : Ended). with_slot old at room x.slot) last)
