-- An answer is built word by word: its first word, one word more, and what the slot holds once all are in.
use Prim.Native.Nat.{ℕ, zero, suc, ◌+◌, ◌-◌, ◌≤◌, ◌<◌}
use native.Mathlib.Omega.{arith}
use native.Mathlib.Numerals.{add-one}
use mathlib.Core.Path.{◌≡◌, refl, sym, ◌∙◌, ap}
use mathlib.Core.Bool.{Bool, true, false, cond, not, ◌&&◌, ◌||◌, or-false}
use mathlib.Core.List.{List, [], ◌∷◌, ◌++◌, append_assoc}
use lib.Dec.{ltb}
use lib.ListN.{length, take, drop, set, length-append, length-take, length-drop, get_or}
use lib.Seq.{take_all, set_at, drop-cons, take-append-le}
use borrow.Author.Tests.{lt-ltb, le-ltb, ltb-true, ltb-false}
use Rattle.signals.specs.Moment.{M}
use Rattle.signals.specs.Signal.{num}
use Rattle.signals.specs.Words.{date_of, word}
use Rattle.signals.specs.Settled.{entry}
use Rattle.signals.proofs.Truth.{true_false}
use Rattle.signals.proofs.WordFacts.{date_of_word}
use Rattle.operations.specs.Calls.{changes_after_m}
use Rattle.building.specs.Building.{idle, one_more, emitted, stores, emitted_in, begun, up_to_m, fitting, slot_with}
use Rattle.building.specs.declared.Made.{Made}

-- of the answer `exact`, `made.count` words have been put into the slot, which held `old`
pub record Building (exact old slot : List ℕ) (made : Made) : Type 0 where
  pub counted : made.count ≤ length exact
  pub late : made.late ≡ changes_after_m (take made.count exact)
  pub slot_is : slot ≡ slot_with (take made.count exact) old

or_step : (t a b c : Bool) → a ≡ (b || c) → (t || a) ≡ (t || b || c)
or_step true a b c e = refl
or_step false a b c e = e

-- one word more
pub late_snoc : (l : List ℕ) (w : ℕ) → changes_after_m (l ++ (w ∷ [])) ≡ (changes_after_m l || ltb M (date_of w))
unfolding changes_after_m
late_snoc [] w = or-false (ltb M (date_of w))
late_snoc (x ∷ l) w = or_step (ltb M (date_of x)) _ _ _ (late_snoc l w)

up_to_m_all : (l : List ℕ) → changes_after_m l ≡ false → up_to_m l ≡ l
unfolding up_to_m changes_after_m
up_to_m_all [] e = refl
up_to_m_all (x ∷ l) e = go (ltb M (date_of x)) e (λ h. up_to_m_all l h)
  where
    go : (t : Bool) → (t || changes_after_m l) ≡ false → (changes_after_m l ≡ false → up_to_m l ≡ l) → cond t [] (x ∷ up_to_m l) ≡ x ∷ l
    go true h rec = true_false h
    go false h rec = rw (rec h)

up_to_m_late : (l : List ℕ) (w : ℕ) → changes_after_m l ≡ true → up_to_m (l ++ (w ∷ [])) ≡ up_to_m l
unfolding up_to_m changes_after_m
up_to_m_late [] w e = true_false (sym e)
up_to_m_late (x ∷ l) w e = go (ltb M (date_of x)) e (λ h. up_to_m_late l w h)
  where
    go : (t : Bool) → (t || changes_after_m l) ≡ true → (changes_after_m l ≡ true → up_to_m (l ++ (w ∷ [])) ≡ up_to_m l)
        → cond t [] (x ∷ up_to_m (l ++ (w ∷ []))) ≡ cond t [] (x ∷ up_to_m l)
    go true h rec = refl
    go false h rec = rw (rec h)

up_to_m_stop : (l : List ℕ) (w : ℕ) → changes_after_m l ≡ false → M < date_of w → up_to_m (l ++ (w ∷ [])) ≡ l
unfolding up_to_m changes_after_m
up_to_m_stop [] w e h = rw (lt-ltb M (date_of w) h)
up_to_m_stop (x ∷ l) w e h = go (ltb M (date_of x)) e (λ q. up_to_m_stop l w q h)
  where
    go : (t : Bool) → (t || changes_after_m l) ≡ false → (changes_after_m l ≡ false → up_to_m (l ++ (w ∷ [])) ≡ l)
        → cond t [] (x ∷ up_to_m (l ++ (w ∷ []))) ≡ x ∷ l
    go true q rec = true_false q
    go false q rec = rw (rec q)

-- taking one element more
take_next : (l : List ℕ) (c w : ℕ) (rest : List ℕ) → drop c l ≡ w ∷ rest → take (c + 1) l ≡ take c l ++ (w ∷ [])
take_next l zero w rest e = rw (e)
take_next [] (suc c) w rest e = absurd (let z : ◌≡◌ {A = ℕ} 0 (suc (length rest)) = ap length e in omega arith)
take_next (x ∷ l) (suc c) w rest e = rw add-one (ap (λ r. x ∷ r) (rw add-one at (take_next l c w rest e)))

drop_next : (l : List ℕ) (c w : ℕ) (rest : List ℕ) → drop c l ≡ w ∷ rest → drop (c + 1) l ≡ rest
drop_next l zero w rest e = rw (e)
drop_next [] (suc c) w rest e = absurd (let z : ◌≡◌ {A = ℕ} 0 (suc (length rest)) = ap length e in omega arith)
drop_next (x ∷ l) (suc c) w rest e = rw add-one (rw add-one at (drop_next l c w rest e))

length_next : (l : List ℕ) (c w : ℕ) (rest : List ℕ) → drop c l ≡ w ∷ rest → c < length l
length_next l c w rest e = let h : length l - c ≡ suc (length rest) = sym (length-drop c l) ∙ ap length e in omega arith

-- the slot keeps its length
slot_length : (l old : List ℕ) → length (slot_with l old) ≡ length old
unfolding slot_with fitting
slot_length l old =
    length-append (take (length old) (up_to_m l)) (drop (length (take (length old) (up_to_m l))) old)
    ∙ omega (arith, length-take (length old) (up_to_m l), length-drop (length (take (length old) (up_to_m l))) old)

-- the slot when nothing is late and has room for the answer so far: the answer, then what stood there
pub slot_short : (l old : List ℕ) → changes_after_m l ≡ false → length l ≤ length old → slot_with l old ≡ l ++ drop (length l) old
unfolding slot_with fitting
slot_short l old e h = rw (up_to_m_all l e, take_all (length old) l h)

module _ (l old : List ℕ) (w : ℕ) where
  slot_late : changes_after_m l ≡ true → slot_with (l ++ (w ∷ [])) old ≡ slot_with l old
  unfolding slot_with fitting
  slot_late e = rw (up_to_m_late l w e)

  slot_past_M : changes_after_m l ≡ false → M < date_of w → slot_with (l ++ (w ∷ [])) old ≡ slot_with l old
  unfolding slot_with fitting
  slot_past_M e h = rw (up_to_m_stop l w e h, up_to_m_all l e)

  not_late_lem : changes_after_m l ≡ false → date_of w ≤ M → changes_after_m (l ++ (w ∷ [])) ≡ false
  not_late_lem e h = late_snoc l w ∙ rw (e, le-ltb M (date_of w) h)

  slot_full : changes_after_m l ≡ false → date_of w ≤ M → length old ≤ length l → slot_with (l ++ (w ∷ [])) old ≡ slot_with l old
  unfolding slot_with fitting
  slot_full e h k = rw (up_to_m_all (l ++ (w ∷ [])) (not_late_lem e h), up_to_m_all l e, take-append-le (length old) l (w ∷ []) k)

  slot_stored : changes_after_m l ≡ false → date_of w ≤ M → length l < length old
      → slot_with (l ++ (w ∷ [])) old ≡ set (slot_with l old) (length l) w
  slot_stored e h k =
      let long : length (l ++ (w ∷ [])) ≡ suc (length l) = length-append l (w ∷ []) ∙ omega arith in
      rw (
        slot_short (l ++ (w ∷ [])) old (not_late_lem e h) (omega arith),
        slot_short l old e (omega arith),
        long,
        drop-cons old (length l) 0 (omega arith),
      )
      (append_assoc l (w ∷ []) (drop (suc (length l)) old) ∙
      sym (set_at l (get_or old (length l) 0) (drop (suc (length l)) old) w (length l) refl))

-- an empty slot takes no word
pub no_place : (old : List ℕ) (w : ℕ) → length old ≡ 0 → old ≡ set old 0 w
no_place [] w e = refl
no_place (x ∷ old) w e = absurd (omega arith)

-- the first word is in
pub building_begin : (v : Bool) (ws old : List ℕ) → Building (num v ∷ ws) old (set old 0 (num v)) (begun v)
unfolding begun changes_after_m date_of slot_with fitting
building_begin v ws old = record { counted = omega arith; late = sym (on_time v); slot_is = placed old v }
  where
    on_time : (v : Bool) → changes_after_m (num v ∷ []) ≡ false
    on_time true = refl
    on_time false = refl

    placed : (old : List ℕ) (v : Bool) → set old 0 (num v) ≡ slot_with (num v ∷ []) old
    placed [] v = refl
    placed (x ∷ old) v = sym (slot_short (num v ∷ []) (x ∷ old) (on_time v) (omega arith))

-- one word more is in, unless it changes nothing
pub record Advanced (exact old rest : List ℕ) (slot : List ℕ) (made : Made) : Type 0 where
  pub building : Building exact old slot made
  pub left : drop made.count exact ≡ rest

module _ (exact old slot rest : List ℕ) (made : Made) (date : ℕ) (at after : Bool) (b : Building exact old slot made)
    (small : length exact < 4294967296)
  where
    advance_idle : idle made.value at after ≡ true → drop made.count exact ≡ rest
        → Advanced exact old rest (emitted_in slot made date at after) (emitted made date at after)
    unfolding emitted emitted_in
    advance_idle e left = rw e (record { building = b; left = left })

    advance_word : idle made.value at after ≡ false → drop made.count exact ≡ word date at after ∷ rest
        → Advanced exact old rest (emitted_in slot made date at after) (emitted made date at after)
    unfolding emitted emitted_in stores
    advance_word e left =
        rw (e, more) (record {
          building = record {
            counted = omega (arith, length_next exact made.count w rest left);
            late = now_late;
            slot_is = placed made.late (ltb M date) (ltb made.count (length slot)) refl refl refl;
          };
          left = drop_next exact made.count w rest left;
        })
      where
        w : ℕ
        w = word date at after

        more : one_more made.count ≡ made.count + 1
        more = omega (arith, length_next exact made.count w rest left)

        sofar : List ℕ
        sofar = take made.count exact

        next : take (made.count + 1) exact ≡ sofar ++ (w ∷ [])
        next = take_next exact made.count w rest left

        long : length sofar ≡ made.count
        long = length-take made.count exact ∙ omega (arith, b.counted)

        same : length slot ≡ length old
        same = ap length b.slot_is ∙ slot_length sofar old

        now_late : (made.late || ltb M date) ≡ changes_after_m (take (made.count + 1) exact)
        now_late = rw (next, late_snoc sofar w, date_of_word date at after, b.late)

        placed : (t u v : Bool) → made.late ≡ t → ltb M date ≡ u → ltb made.count (length slot) ≡ v
            → cond (not (t || u) && v) (set slot made.count w) slot ≡ slot_with (take (made.count + 1) exact) old
        placed true u v lt le lv = rw next (b.slot_is ∙ sym (slot_late sofar old w (sym b.late ∙ lt)))
        placed false true v lt le lv =
            rw next (b.slot_is ∙ sym (slot_past_M sofar old w (sym b.late ∙ lt) (rw date_of_word (ltb-true M date le))))
        placed false false false lt le lv =
            let full : length old ≤ length sofar = omega (arith, long, same, ltb-false made.count (length slot) lv) in
            rw next (b.slot_is ∙ sym (slot_full sofar old w (sym b.late ∙ lt) (rw date_of_word (ltb-false M date le)) full))
        placed false false true lt le lv =
            let place : length sofar < length old = omega (arith, long, same, ltb-true made.count (length slot) lv) in
            rw (next, b.slot_is)
            (ap (λ i. set (slot_with sofar old) i w) (sym long)
            ∙ sym (slot_stored sofar old w (sym b.late ∙ lt) (rw date_of_word (ltb-false M date le)) place))

    pub advance : drop made.count exact ≡ entry made.value date at after ++ rest
        → Advanced exact old rest (emitted_in slot made date at after) (emitted made date at after)
    unfolding entry idle
    advance left = go (idle made.value at after) refl
      where
        go : (t : Bool) → idle made.value at after ≡ t
            → Advanced exact old rest (emitted_in slot made date at after) (emitted made date at after)
        go true e = advance_idle e (rw e at left)
        go false e = advance_word e (rw e at left)
