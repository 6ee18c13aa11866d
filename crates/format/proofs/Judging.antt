-- The tests of the front and of one signal, in order, and the signals passed, one more at a time.
use Prim.Native.Nat.{ℕ, zero, suc, ◌+◌, ◌-◌, ◌*◌, ◌≤◌, ◌<◌}
use native.Mathlib.Nat.{add_assoc}
use native.Mathlib.Numerals.{add-one}
use native.Mathlib.Omega.{arith}
use mathlib.Core.Path.{◌≡◌, refl, sym, ap, ◌∙◌}
use mathlib.Core.Bool.{Bool, true, false, not, cond, ◌||◌}
use mathlib.Core.List.{List, [], ◌∷◌, ◌++◌}
use lib.Dec.{eqb, leb, ltb}
use lib.ListN.{length, take, drop, length-drop}
use lib.Seq.{drop-drop}
use borrow.Author.Tests.{eq-eqb, ne_eqb, lt-ltb, le-ltb, ltb-false, eqb-false, eqb-true}
use Rattle.signals.specs.Words.{date_of, value_after, head_value, changes_nothing, most_words}
use Rattle.signals.proofs.Truth.{neither_left, neither_right, not_down}
use Rattle.format.proofs.Walking.{short, long, sub_step, wholes_all}
use Rattle.format.specs.Names.{same, among, field_fits, unpadded}
use Rattle.slices.specs.Bytes.{low16, low32}
use Rattle.format.specs.Reading.{mark, name_at, word_count, signal_size, later_words_fault, sheet_words_fault, signal_fault, signals_fault}
use Rattle.format.specs.Reading.{front_fault, sheet_fault, count_on, signals_from, names}
use Rattle.format.specs.Calls.{place_from}
use Rattle.format.specs.Walk.{Whole, size_of}
use Rattle.format.specs.Calls.{place_among}
use Rattle.format.specs.declared.Place.{Place}
use Rattle.format.specs.declared.Place.TheVariants.{At, Refused}
use Rattle.signals.specs.Answers.{first_of}

-- mark, version and count, test after test
module _ (s : List ℕ) where
  pub front_short : length s < 3 → front_fault s ≡ 14
  unfolding front_fault
  front_short p = rw (lt-ltb _ _ p)

  module _ (p3 : 3 ≤ length s) (m : Bool) (me : m ≡ same (take 3 s) mark) where
    pub front_mark : m ≡ false → front_fault s ≡ 14
    unfolding front_fault
    front_mark f = rw (le-ltb _ _ p3, ← me, f)

    module _ (t : m ≡ true) where
      pub front_cut : length s < 5 → front_fault s ≡ 14
      unfolding front_fault
      front_cut p = rw (le-ltb _ _ p3, ← me, t, lt-ltb _ _ p)

      module _ (p5 : 5 ≤ length s) (v : ℕ) (ve : v ≡ low16 (drop 3 s)) where
        pub front_version : (v ≡ 1 → ⊥) → front_fault s ≡ 14
        unfolding front_fault
        front_version f = rw (le-ltb _ _ p3, ← me, t, le-ltb _ _ p5, ← ve, ne_eqb _ _ f)

        module _ (o : v ≡ 1) where
          pub front_no_count : length s < 7 → front_fault s ≡ 15
          unfolding front_fault
          front_no_count p = rw (le-ltb _ _ p3, ← me, t, le-ltb _ _ p5, ← ve, eq-eqb _ _ o, lt-ltb _ _ p)

          module _ (p7 : 7 ≤ length s) (n : ℕ) (ne : n ≡ low16 (drop 5 s)) where
            pub front_counted : front_fault s ≡ cond (ltb 32 n) 15 0
            unfolding front_fault
            front_counted = rw (le-ltb _ _ p3, ← me, t, le-ltb _ _ p5, ← ve, eq-eqb _ _ o, le-ltb _ _ p7, ← ne) refl

            pub front_many : 32 < n → front_fault s ≡ 15
            front_many p = front_counted ∙ rw (lt-ltb _ _ p) refl

            pub front_fine : n ≤ 32 → front_fault s ≡ 0
            front_fine p = front_counted ∙ rw (le-ltb _ _ p) refl

-- one signal at a place, test after test
module _ (earlier : List (List ℕ)) (s : List ℕ) (at : ℕ) where
  pub signal_cut : length s - at < 8 → signal_fault earlier (drop at s) ≡ 15
  unfolding signal_fault
  signal_cut p = rw (lt-ltb _ _ (short s at 8 p))

  module _ (p8 : 8 ≤ length s - at) (fits : Bool) (fe : fits ≡ field_fits (take 8 (drop at s))) where
    pub signal_malformed : fits ≡ false → signal_fault earlier (drop at s) ≡ 16
    unfolding signal_fault
    signal_malformed f = rw (le-ltb _ _ (long s at 8 p8), ← fe, f)

    module _ (t : fits ≡ true) (k : Bool) (ke : k ≡ among (name_at (drop at s)) earlier) where
      pub signal_repeated : k ≡ true → signal_fault earlier (drop at s) ≡ 16
      unfolding signal_fault
      signal_repeated f = rw (le-ltb _ _ (long s at 8 p8), ← fe, t, ← ke, f)

      module _ (u : k ≡ false) where
        pub signal_no_count : length s - at < 10 → signal_fault earlier (drop at s) ≡ 15
        unfolding signal_fault
        signal_no_count p = rw (le-ltb _ _ (long s at 8 p8), ← fe, t, ← ke, u, lt-ltb _ _ (short s at 10 p))

        module _ (p10 : 10 ≤ length s - at) (w : ℕ) (we : w ≡ word_count (drop at s)) where
          pub signal_none : w ≡ 0 → signal_fault earlier (drop at s) ≡ 17
          unfolding signal_fault
          signal_none p = rw (le-ltb _ _ (long s at 8 p8), ← fe, t, ← ke, u, le-ltb _ _ (long s at 10 p10), ← we, eq-eqb _ _ p)

          pub signal_many : (w ≡ 0 → ⊥) → most_words < w → signal_fault earlier (drop at s) ≡ 17
          unfolding signal_fault
          signal_many z p =
              rw (le-ltb _ _ (long s at 8 p8), ← fe, t, ← ke, u, le-ltb _ _ (long s at 10 p10), ← we, ne_eqb _ _ z, lt-ltb _ _ p)

          pub signal_words : (w ≡ 0 → ⊥) → w ≤ most_words → sheet_words_fault w (drop (at + 10) s) ≡ signal_fault earlier (drop at s)
          unfolding signal_fault
          signal_words z p =
              sym
              (rw
              (le-ltb _ _ (long s at 8 p8), ← fe, t, ← ke, u, le-ltb _ _ (long s at 10 p10), ← we, ne_eqb _ _ z, le-ltb _ _ p, drop-drop))

-- a place is found where the name is among the names
abbrev pub found_in : Place → Bool
found_in (At start count) = true
found_in (Refused fault) = false

pub found_known : (name : List ℕ) (at n : ℕ) (rest : List ℕ)
    → found_in (place_from name at n rest) ≡ among name (names (signals_from n rest))
unfolding place_from among names signals_from
found_known name at zero rest = refl
found_known name at (suc n) rest =
    go (same (name_at rest) name) (found_known name (at + signal_size rest) n (drop (signal_size rest) rest))
  where
    go : (t : Bool)
        → found_in (place_from name (at + signal_size rest) n (drop (signal_size rest) rest))
        ≡ among name (names (signals_from n (drop (signal_size rest) rest)))
        → found_in
        (cond t (At (at + 10) (4 * word_count rest)) (place_from name (at + signal_size rest) n (drop (signal_size rest) rest)))
        ≡ t || among name (names (signals_from n (drop (signal_size rest) rest)))
    go true h = refl
    go false h = h

pub known_whole : (name : List ℕ) (at n : ℕ) (rest : List ℕ) → Whole n rest
    → found_in (place_among name at n rest) ≡ among name (names (signals_from n rest))
known_whole name at n rest w = rw (wholes_all n rest w) (found_known name at n rest)

-- a fault passed by
pub past : (t : Bool) (f g : ℕ) → cond t (suc f) g ≡ 0 → (t ≡ false) × (g ≡ 0)
past true f g h = absurd (omega arith)
past false f g h = (refl, h)

pub later_room : (last : ℕ) (before : Bool) (n : ℕ) (bytes : List ℕ) → later_words_fault last before n bytes ≡ 0 → 4 * n ≤ length bytes
unfolding later_words_fault
later_room last before zero bytes h = omega arith
later_room last before (suc n) bytes h =
    let e = past (ltb (length bytes) 4) 14 _ h in
    let g = past (leb (date_of (low32 bytes)) last || changes_nothing before (low32 bytes)) 16 _ e.1 in
    let m = later_room (date_of (low32 bytes)) (value_after (low32 bytes)) n (drop 4 bytes) g.1 in
    omega (arith, ltb-false (length bytes) 4 e.0, length-drop 4 bytes)

pub words_room : (n : ℕ) (bytes : List ℕ) → (n ≡ 0 → ⊥) → sheet_words_fault n bytes ≡ 0 → 4 * n ≤ length bytes
unfolding sheet_words_fault
words_room n bytes z h =
    let e = past (ltb (length bytes) 4) 14 _ h in
    let g = past (ltb 1 (low32 bytes)) 16 _ e.1 in
    let m = later_room 0 (head_value (low32 bytes)) (n - 1) (drop 4 bytes) g.1 in
    omega (arith, ltb-false (length bytes) 4 e.0, length-drop 4 bytes)

-- what an accepted signal passed
pub record Sound (earlier : List (List ℕ)) (rest : List ℕ) : Type 0 where
  pub field : field_fits (take 8 rest) ≡ true
  pub new : among (name_at rest) earlier ≡ false
  pub some : word_count rest ≡ 0 → ⊥
  pub most : word_count rest ≤ most_words
  pub words : sheet_words_fault (word_count rest) (drop 10 rest) ≡ 0
  pub whole : signal_size rest ≤ length rest

pub sound : (earlier : List (List ℕ)) (rest : List ℕ) → signal_fault earlier rest ≡ 0 → Sound earlier rest
unfolding signal_fault signal_size
sound earlier rest h =
    let a = past (ltb (length rest) 8) 14 _ h in
    let b = past (not (field_fits (take 8 rest)) || among (name_at rest) earlier) 15 _ a.1 in
    let d = past (ltb (length rest) 10) 14 _ b.1 in
    let e = past (eqb (word_count rest) 0 || ltb most_words (word_count rest)) 16 _ d.1 in
    let z : word_count rest ≡ 0 → ⊥ = eqb-false (word_count rest) 0 (neither_left _ (ltb most_words (word_count rest)) e.0) in
    record {
      field = not_down _ (neither_left _ (among (name_at rest) earlier) b.0);
      new = neither_right (not (field_fits (take 8 rest))) _ b.0;
      some = z;
      most = ltb-false _ _ (neither_right (eqb (word_count rest) 0) _ e.0);
      words = e.1;
      whole = omega (arith, ltb-false (length rest) 10 d.0, words_room (word_count rest) (drop 10 rest) z e.1, length-drop 10 rest);
    }

-- the signals passed, one more
pub whole_more : (i : ℕ) (rest : List ℕ) → Whole i rest
    → signal_size (drop (size_of i rest) rest) ≤ length (drop (size_of i rest) rest) → Whole (suc i) rest
unfolding size_of
whole_more zero rest w h = (h, tt)
whole_more (suc i) rest w h =
    (w.0, whole_more i (drop (signal_size rest) rest) w.1 (rw drop-drop h))

pub size_more : (i : ℕ) (rest : List ℕ) → size_of (suc i) rest ≡ size_of i rest + signal_size (drop (size_of i rest) rest)
unfolding size_of
size_more zero rest = omega arith
size_more (suc i) rest =
    ap (λ (k : ℕ). signal_size rest + k) (size_more i (drop (signal_size rest) rest)) ∙ rw (drop-drop, add_assoc)

pub names_more : (i : ℕ) (rest : List ℕ)
    → names (signals_from (suc i) rest) ≡ names (signals_from i rest) ++ name_at (drop (size_of i rest) rest) ∷ []
unfolding names signals_from size_of
names_more zero rest = refl
names_more (suc i) rest =
    ap (λ (l : List (List ℕ)). name_at rest ∷ l) (names_more i (drop (signal_size rest) rest) ∙ rw drop-drop)

-- a front that passed
pub record Fronted (s : List ℕ) : Type 0 where
  pub marked : same (take 3 s) mark ≡ true
  pub version : low16 (drop 3 s) ≡ 1
  pub room : 7 ≤ length s
  pub few : count_on s ≤ 32

pub fronted : (s : List ℕ) → front_fault s ≡ 0 → Fronted s
unfolding front_fault count_on
fronted s h =
    let a = past (ltb (length s) 3) 13 _ h in
    let b = past (not (same (take 3 s) mark)) 13 _ a.1 in
    let d = past (ltb (length s) 5) 13 _ b.1 in
    let e = past (not (eqb (low16 (drop 3 s)) 1)) 13 _ d.1 in
    let f = past (ltb (length s) 7) 14 _ e.1 in
    let g = past (ltb 32 (low16 (drop 5 s))) 14 _ f.1 in
    record {
      marked = not_down _ b.0;
      version = eqb-true _ _ (not_down _ e.0);
      room = ltb-false (length s) 7 f.0;
      few = ltb-false 32 (low16 (drop 5 s)) g.0;
    }

pub sheet_front : (s : List ℕ) → (front_fault s ≡ 0 → ⊥) → front_fault s ≡ sheet_fault s
unfolding sheet_fault first_of
sheet_front s z = sym (rw (ne_eqb _ _ z))

pub sheet_past : (s : List ℕ) → front_fault s ≡ 0 → sheet_fault s ≡ signals_fault [] (count_on s) (drop 7 s)
unfolding sheet_fault first_of
sheet_past s z = rw (eq-eqb _ _ z)

pub signals_fault_lem : (earlier : List (List ℕ)) (n i : ℕ) (rest : List ℕ) → i < n → (signal_fault earlier rest ≡ 0 → ⊥)
    → signal_fault earlier rest ≡ signals_fault earlier (n - i) rest
unfolding signals_fault first_of
signals_fault_lem earlier n i rest h z = sym (rw (sub_step n i h, ne_eqb _ _ z))

pub signals_past : (earlier : List (List ℕ)) (n i : ℕ) (rest : List ℕ) → i < n → signal_fault earlier rest ≡ 0
    → signals_fault earlier (n - i) rest ≡ signals_fault (earlier ++ name_at rest ∷ []) (n - (i + 1)) (drop (signal_size rest) rest)
unfolding signals_fault first_of
signals_past earlier n i rest h z = rw (sub_step n i h, eq-eqb _ _ z)

pub signals_end : (earlier : List (List ℕ)) (n i : ℕ) (rest : List ℕ) → n ≤ i
    → signals_fault earlier (n - i) rest ≡ cond (eqb (length rest) 0) 0 15
unfolding signals_fault first_of
signals_end earlier n i rest h = let e : n - i ≡ 0 = omega arith in rw e

-- one accepted signal, after i
module _ (sheet : List ℕ) (at n i : ℕ) (h : i < n) (a : at ≡ 7 + size_of i (drop 7 sheet)) (p : at ≤ length sheet)
    (w : Whole i (drop 7 sheet)) (f : signal_fault (names (signals_from i (drop 7 sheet))) (drop at sheet) ≡ 0) where
  here : drop (size_of i (drop 7 sheet)) (drop 7 sheet) ≡ drop at sheet
  here = drop-drop (size_of i (drop 7 sheet)) 7 sheet ∙ ap (λ (k : ℕ). drop k sheet) (sym a)

  whole_here : signal_size (drop at sheet) ≤ length (drop at sheet)
  whole_here = (sound _ (drop at sheet) f).whole

  pub room_next : at + signal_size (drop at sheet) ≤ length sheet
  room_next = omega (arith, whole_here, length-drop at sheet)

  pub at_next : at + signal_size (drop at sheet) ≡ 7 + size_of (i + 1) (drop 7 sheet)
  at_next = rw (add-one, size_more i (drop 7 sheet), here) (omega arith)

  pub whole_after : Whole (i + 1) (drop 7 sheet)
  whole_after = rw add-one (whole_more i (drop 7 sheet) w (rw here whole_here))

  pub fault_next : signals_fault (names (signals_from (i + 1) (drop 7 sheet))) (n - (i + 1)) (drop (at + signal_size (drop at sheet)) sheet)
      ≡ signals_fault (names (signals_from i (drop 7 sheet))) (n - i) (drop at sheet)
  fault_next =
      sym
      (signals_past _ n i (drop at sheet) h f
      ∙ rw (ap (λ (k : ℕ). names (signals_from k (drop 7 sheet))) (add-one i), names_more i (drop 7 sheet), here, drop-drop))

-- the name that a field holds is among names
pub known_name : (field held : List ℕ) (earlier : List (List ℕ)) (rest : List ℕ) {k : Bool}
    → field ≡ take 8 rest → held ≡ unpadded field → k ≡ among held earlier → k ≡ among (name_at rest) earlier
unfolding name_at
known_name field held earlier rest f h e = e ∙ rw (h, f)

-- no bytes left over, or some
module _ (sheet : List ℕ) (at : ℕ) where
  pub none_left : at ≡ length sheet → ◌≡◌ {A = ℕ} (cond (eqb (length (drop at sheet)) 0) 0 15) 0
  none_left e = let z : length (drop at sheet) ≡ 0 = omega (arith, length-drop at sheet) in rw (eq-eqb _ _ z)

  pub some_left : at ≤ length sheet → (at ≡ length sheet → ⊥) → ◌≡◌ {A = ℕ} (cond (eqb (length (drop at sheet)) 0) 0 15) 15
  some_left p n =
      rw (ne_eqb (length (drop at sheet)) 0 (λ z. n (omega (arith, length-drop at sheet, z))))
