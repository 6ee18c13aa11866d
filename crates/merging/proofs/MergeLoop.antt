-- The loop of `merge` in its slot of the work area, as the code makes it.
use Prim.Native.Nat.{ℕ, ◌+◌, ◌-◌, ◌≤◌, ◌<◌, min}
use native.Mathlib.Omega.{arith}
use mathlib.Core.Path.{◌≡◌, refl, sym, subst, ◌∙◌, ap}
use mathlib.Core.Bool.{Bool, true}
use mathlib.Core.List.{List, ◌++◌}
use lib.ListN.{length, take, drop}
use Rattle.slices.specs.Bytes.{Bytes, Words}
use Rattle.signals.specs.Signal.{Table}
use Rattle.signals.specs.Words.{value_after}
use Rattle.reading.specs.Reading.{NEVER}
use Rattle.building.specs.Building.{Begins, Emits, emitted_in}
use Rattle.building.specs.declared.Made.{Made}
use Rattle.showing.specs.Showing.{first_shown, date_shown}
use Rattle.showing.specs.declared.Operation.{Operation}
use Rattle.showing.specs.declared.Shown.{Shown}
use Rattle.sources.specs.Sources.{start_of, past_on, list_at, apart_from, slot_in, with_slot}
use Rattle.sources.specs.declared.Cursor.{Cursor}
use Rattle.sources.specs.declared.Passed.{Passed}
use Rattle.sources.specs.declared.Source.{Source}
use Rattle.sources.proofs.Sourcing.{slot_kept, slot_long, slot_back, slot_again, part_back, with_slot_long}
use Rattle.sources.proofs.Sourcing.{list_short, words_at, apart_kept}
use Rattle.sources.proofs.Readers.{Reading, reads_start, start_passed}
use Rattle.merging.specs.Merging.{State, begun_in, Merges, BuiltFrom, MayMerge}
use Rattle.merging.proofs.Along.{reached, begun_is, Along, along_turn, along_falls, along_end}

-- the loop's slot in the work area
module _ (o : Operation) (table : Table) (l m : List ℕ) (work : List ℕ) (at room : ℕ) (start : State) where
  pub record Looping (now : List ℕ) (x y : Cursor) (made : Made) (bit : Bool) (date : ℕ) : Type 0 where
    pub slot : List ℕ
    pub full : length slot ≡ room
    pub now_is : now ≡ with_slot work at room slot
    pub along : Along o table l m start slot x y made bit date

  module _ (fits : at + room ≤ length work) (now : List ℕ) (x y : Cursor) (made : Made) (bit : Bool) (date : ℕ)
      (g : Looping now x y made bit date) where
    pub looping_long : length now ≡ length work
    looping_long = ap length g.now_is ∙ with_slot_long work at room fits g.slot g.full

    -- a list apart from the slot is as it was where the loop began
    pub looping_still : (sheet left right : List ℕ) (a : Source) → apart_from a at room ≡ true
        → list_at sheet left right now a ≡ list_at sheet left right work a
    looping_still sheet left right a e =
        ap (λ (w : List ℕ). list_at sheet left right w a) g.now_is
        ∙ apart_kept work at room fits g.slot g.full sheet left right a e

    pub looping_end : NEVER ≤ date → Merges o table l m g.slot made start
    looping_end h = along_end o table l m start g.slot x y made bit date g.along h

    module _ (small : date < NEVER) (u v : Passed) (eu : u ≡ past_on l x date) (ev : v ≡ past_on m y date) where
      pub looping_falls : length l - u.next.passed + (length m - v.next.passed) < length l - x.passed + (length m - y.passed)
      looping_falls = along_falls o table l m start g.slot x y made bit date g.along small u v eu ev

      pub looping_turn : (s : Shown)
          → s ≡ date_shown o table bit u.step.before u.step.at u.step.after v.step.at v.step.after
          → (made' : Made) (part : List ℕ) → Emits made date s.at s.after (take room (drop at now)) made' part
          → length part ≡ length (take room (drop at now))
          → (date' : ℕ) → date' ≡ min u.next.date v.next.date
          → Looping (take at now ++ (part ++ drop room (drop at now))) u.next v.next made' s.carried date'
      looping_turn s es made' part em kept date' ed =
          record {
            slot = part;
            full = kept ∙ slot_long now at room here;
            now_is = part_back now at room here part room refl ∙ ap (λ (w : List ℕ). with_slot w at room part) g.now_is
                ∙ slot_again work at room fits g.slot g.full part;
            along = along_turn o table l m start g.slot x y made bit date g.along small u v eu ev s es made' part
                (em.0, em.1 ∙ ap (λ (w : List ℕ). emitted_in w made date s.at s.after) whole) date' ed;
          }
        where
          here : at + room ≤ length now
          here = rw looping_long fits

          whole : take room (drop at now) ≡ g.slot
          whole =
              ap (λ (w : List ℕ). slot_in w at room) g.now_is ∙ slot_back work at room fits g.slot g.full

-- Where the loop begins, the work area being `work`, and at the call `entry`: it is as long, the state is that after gap 0, and what the
-- loop builds from there is built from the call's. The lists are there `l'` and `m'`, at the call `l` and `m`.
pub record Started (o : Operation) (table : Table) (l m l' m' entry : List ℕ) (at room : ℕ) (work : List ℕ) (x y : Cursor) (made : Made)
    (bit : Bool) (date : ℕ) : Type 0 where
  pub long : length work ≡ length entry
  pub start : Looping o table l' m' work at room (reached (slot_in work at room) made bit x.passed y.passed) work x y made bit date
  pub builds : (after : List ℕ) (last : Made) (slot : List ℕ) → after ≡ with_slot work at room slot
      → Merges o table l' m' slot last (reached (slot_in work at room) made bit x.passed y.passed)
      → BuiltFrom o table l m entry at room last after

module _ (o : Operation) (table : Table) (entry : List ℕ) (at room : ℕ) (held : at + room ≤ length entry)
    (part : List ℕ) (kept : length part ≡ length (take room (drop at entry))) where
  full : length part ≡ room
  full = kept ∙ slot_long entry at room held

  put : take at entry ++ (part ++ drop room (drop at entry)) ≡ with_slot entry at room part
  put = part_back entry at room held part room refl

  -- a list apart from the slot is as it was at the call
  same : (sheet left right : List ℕ) (a : Source) → apart_from a at room ≡ true
      → list_at sheet left right (take at entry ++ (part ++ drop room (drop at entry))) a ≡ list_at sheet left right entry a
  same sheet left right a apart = rw put (apart_kept entry at room held part full sheet left right a apart)

  module _ (l m l' m' : List ℕ) (el : l' ≡ l) (em : m' ≡ m) (x y : Cursor) (gx : Reading l x) (gy : Reading m y)
      (one : x.passed ≡ 1) (other : y.passed ≡ 1) (first : Shown) (ef : first ≡ first_shown o table (value_after x.last) (value_after
      y.last))
      (made : Made) (eb : Begins first.after (take room (drop at entry)) made part) (date : ℕ)
      (ed : date ≡ min x.date y.date) where
    begun_there : Started o table l m l' m' entry at room (take at entry ++ (part ++ drop room (drop at entry))) x y made
        first.carried date
    begun_there =
        rw put
        (record {
          long = long;
          start = record {
            slot = slot_in work at room;
            full = slot_long work at room fits;
            now_is = sym (slot_kept work at room fits);
            along = record { first = rw el gx; second = rw em gy; date_is = ed; on = λ end last z. z };
          };
          builds = λ after last slot e w. (
            slot,
            subst (λ (z : State). Merges o table l m slot last z) begun_state (rw (el, em) at w),
            e ∙ slot_again entry at room held part full slot,
          );
        })
      where
        work : List ℕ
        work = with_slot entry at room part

        long : length work ≡ length entry
        long = with_slot_long entry at room held part full

        fits : at + room ≤ length work
        fits = rw long held

        begun_state : reached (slot_in work at room) made first.carried x.passed y.passed
            ≡ begun_in o table l m (slot_in entry at room)
        begun_state =
            ap (λ (w : List ℕ). reached w made first.carried x.passed y.passed) (slot_back entry at room held part full)
            ∙ begun_is o table l m (slot_in entry at room) x y gx gy one other first ef made part eb

-- the reader of a source that starts
reads_source : (sheet left right work : List ℕ) → Bytes sheet → Words left → Words right → Words work → (a : Source)
    → a.count < 4294967296 → (x : Cursor) → x ≡ start_of (list_at sheet left right work a) → Reading (list_at sheet left right work a) x
reads_source sheet left right work hs hl hr hw a ca x e =
    reads_start (list_at sheet left right work a) (words_at sheet left right work a hs hl hr hw)
    (omega (arith, list_short sheet left right work a)) x e

-- two sources
pub started : (o : Operation) (table : Table) (sheet left right entry : List ℕ) (a b : Source) (at room : ℕ)
    → MayMerge a b at room (length entry) → Bytes sheet → Words left → Words right → Words entry
    → a.count < 4294967296 → b.count < 4294967296
    → (x y : Cursor) → x ≡ start_of (list_at sheet left right entry a) → y ≡ start_of (list_at sheet left right entry b)
    → (first : Shown) → first ≡ first_shown o table (value_after x.last) (value_after y.last)
    → (made : Made) (part : List ℕ) → Begins first.after (take room (drop at entry)) made part
    → length part ≡ length (take room (drop at entry)) → (date : ℕ) → date ≡ min x.date y.date
    → let work = take at entry ++ (part ++ drop room (drop at entry)) in
    Started o table (list_at sheet left right entry a) (list_at sheet left right entry b) (list_at sheet left right work a)
    (list_at sheet left right work b) entry at room work x y made first.carried date
started o table sheet left right entry a b at room may hs hl hr hw ca cb x y ex ey first ef made part eb kept date ed =
    begun_there o table entry at room may.2 part kept (list_at sheet left right entry a) (list_at sheet left right entry b)
    (list_at sheet left right work a) (list_at sheet left right work b)
    (same o table entry at room may.2 part kept sheet left right a may.0)
    (same o table entry at room may.2 part kept sheet left right b may.1) x y
    (reads_source sheet left right entry hs hl hr hw a ca x ex) (reads_source sheet left right entry hs hl hr hw b cb y ey)
    (start_passed (list_at sheet left right entry a) x ex) (start_passed (list_at sheet left right entry b) y ey) first ef made eb date ed
  where
    work : List ℕ
    work = take at entry ++ (part ++ drop room (drop at entry))

-- the room as the loop has it, from the slot's two ends
same_room : (at room : ℕ) → at + room - at ≡ room
same_room at room = omega arith

pub may_there : (a b : Source) (at room n : ℕ) → MayMerge a b at room n → MayMerge a b at (at + room - at) n
may_there a b at room n h = rw (same_room at room) h

pub built_there : (o : Operation) (table : Table) (l m work : List ℕ) (at room : ℕ) (made : Made) (after : List ℕ)
    → BuiltFrom o table l m work at (at + room - at) made after → BuiltFrom o table l m work at room made after
built_there o table l m work at room made after w = rw (same_room at room) at w
