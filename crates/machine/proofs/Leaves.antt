-- The lists of leaves: a constant's has one word, a name's is the one that the sheet gives it.
use Prim.Native.Nat.{ℕ, suc, ◌*◌, ◌-◌, ◌/◌, ◌%◌, zero, ◌≤◌, ◌<◌, ◌^◌, min}
use native.Mathlib.Omega.{arith}
use mathlib.Core.Path.{◌≡◌, refl, sym, ◌∙◌, ap, ap₂}
use mathlib.Core.Bool.{Bool, true, false, cond}
use lib.Dec.{eqb}
use mathlib.Core.List.{List, [], ◌∷◌}
use lib.ListN.{length, take, drop, get_or, length-drop}
use lib.Seq.{get_or-take, length-take-le}
use native.Mathlib.Decide.{ℕ_discrete}
use borrow.Author.Tests.{eq-eqb, ne_eqb, le-ltb}
use Rattle.signals.specs.Moment.{M}
use Rattle.signals.specs.Signal.{constant, num}
use Rattle.signals.specs.Words.{most_words, list_of, words_of, date_of}
use Rattle.signals.proofs.WordFacts.{date_le}
use Rattle.operations.specs.Calls.{changes_after_m}
use Rattle.slices.specs.Bytes.{Bytes, low32, words_in}
use Rattle.sources.specs.Sources.{list_on_sheet}
use Rattle.names.specs.Names.{well_named}
use Rattle.grammar.specs.Kinds as kinds
use Rattle.grammar.specs.Tree.{Leaf, leaf, down, up, name}
use Rattle.grammar.specs.PartWords.{name_at}
use Rattle.format.specs.Names.{among}
use Rattle.format.specs.Reading.{sheet_fault, signals_on, names, list_named, environment_on}
use Rattle.format.specs.Calls.{lookup_fault, lookup_of, place_of, part_at, place_judged, first_byte, byte_count}
use Rattle.format.proofs.Judged.{judged_accepted}
use Rattle.format.proofs.Judging.{found_in}
use Rattle.format.proofs.Locating.{place_within}
use Rattle.signals.proofs.Truth.{true_false}
use Rattle.format.proofs.SheetSize.{sheet_short}
use Rattle.format.specs.declared.Place.{Place}
use Rattle.format.specs.declared.Place.TheVariants.{At, Refused}
use Rattle.format.proofs.Digits.{bytes_drop, words_in_below}
use Rattle.format.specs.Theorems.{decoded, PartIsList}
use Rattle.format.proofs.Theorems.{lookup_gives_the_list}
use Rattle.signals.proofs.Normal.{read_back_lem, accepted_normal}
use Rattle.operations.specs.Calls.{part_fault}
use Rattle.calls.specs.OnSheet.{exact_on, settling_date}
use Rattle.code_words.specs.CodeWords.{constants, constant_of, leaf_source}
use Rattle.machine.specs.Machine.{placed_name, placed_word, word_found}
use Rattle.format.proofs.Accepting.{listed_some}
use Rattle.machine.proofs.KnownParts.{leaf_of, LeafKnown}
use Rattle.machine.specs.Stack.{leaf_list}
use Rattle.machine.proofs.Exact.{short}
use Rattle.signals.specs.Answers.{first_of}

pub words_length : (n : ℕ) (b : List ℕ) → length (words_in n b) ≡ n
unfolding words_in
words_length zero b = refl
words_length (suc n) b = ap suc (words_length n (drop 4 b))

-- the words of any name on any sheet are at most 256
pub part_small : (sheet n : List ℕ) → Bytes sheet → length (lookup_of sheet n) / 4 ≤ most_words
unfolding lookup_of place_of decoded
part_small sheet n bytes = go (ℕ_discrete (lookup_fault sheet n) 0)
  where
    go : Dec (lookup_fault sheet n ≡ 0) → length (lookup_of sheet n) / 4 ≤ most_words
    go (yes e) =
        let p = lookup_gives_the_list sheet n bytes e in
        let l = words_length (length (lookup_of sheet n) / 4) (lookup_of sheet n) in
        let s = short (list_named n (signals_on sheet)) p.listed in
        let w = ap length p.words in
        omega arith
    go (no x) = rw (ne_eqb (lookup_fault sheet n) 0 x) (omega arith)

constant_list : (v : Bool) → list_of (constant v) 0 ≡ num v ∷ []
unfolding list_of words_of constant
constant_list v = refl

pub down_list : (sheet : List ℕ) → exact_on sheet (leaf down) ≡ 0 ∷ []
unfolding exact_on settling_date
down_list sheet = constant_list false

pub up_list : (sheet : List ℕ) → exact_on sheet (leaf up) ≡ 1 ∷ []
unfolding exact_on settling_date
up_list sheet = constant_list true

-- a name's list on the sheet, as its part there
module _ (sheet n : List ℕ) (ok : sheet_fault sheet ≡ 0) (bytes : Bytes sheet)
    (known : (well_named n ≡ true) × (among n (names (signals_on sheet)) ≡ true)) where
  found : lookup_fault sheet n ≡ 0
  unfolding lookup_fault first_of
  found = rw (ok, known.0, known.1)

  the_part : PartIsList sheet n
  the_part = lookup_gives_the_list sheet n bytes found

  pub name_list : exact_on sheet (leaf (name n)) ≡ list_named n (signals_on sheet)
  unfolding exact_on settling_date environment_on
  name_list = (read_back_lem (list_named n (signals_on sheet))
      ((accepted_normal (list_named n (signals_on sheet))).0 the_part.listed).0).same

  pub part_words : (part : List ℕ) → part ≡ lookup_of sheet n → words_in (length part / 4) part ≡ exact_on sheet (leaf (name n))
  unfolding decoded
  part_words part e = rw e (the_part.words ∙ sym name_list)

-- which leaf a code word of that kind stands for
pub leaf_name : (text : List ℕ) (w : ℕ) → w % 16 ≡ kinds.NAME → leaf_of text w ≡ name (name_at text (w / 256) (w / 16 % 16))
unfolding leaf_of
leaf_name text w e = rw (eq-eqb (w % 16) kinds.NAME e)

pub leaf_up : (text : List ℕ) (w : ℕ) → w % 16 ≡ kinds.UP → leaf_of text w ≡ up
unfolding leaf_of
leaf_up text w e = rw e

pub leaf_down : (text : List ℕ) (w : ℕ) → (w % 16 ≡ kinds.NAME → ⊥) → (w % 16 ≡ kinds.UP → ⊥) → leaf_of text w ≡ down
unfolding leaf_of
leaf_down text w a b = rw (ne_eqb (w % 16) kinds.NAME a, ne_eqb (w % 16) kinds.UP b)

constant_is : (sheet text : List ℕ) (w : ℕ) → (w % 16 ≡ kinds.NAME → ⊥) → exact_on sheet (leaf (leaf_of text w)) ≡ constant_of w ∷ []
unfolding leaf_of constant_of
constant_is sheet text w x = rw (ne_eqb (w % 16) kinds.NAME x) (go (eqb (w % 16) kinds.UP))
  where
    go : (b : Bool) → exact_on sheet (leaf (cond b up down)) ≡ cond b 1 0 ∷ []
    go true = up_list sheet
    go false = down_list sheet

-- the words of a part are those at the front of the bytes that it is a part of
take_none : (n : ℕ) → take {A = ℕ} n [] ≡ []
take_none zero = refl
take_none (suc n) = refl

drop_take : (k m : ℕ) (b : List ℕ) → drop k (take m b) ≡ take (m - k) (drop k b)
drop_take zero m b = let e : m ≡ m - 0 = omega arith in ap (λ n. take n b) e
drop_take (suc k) zero b = let e : zero ≡ zero - suc k = omega arith in ap (λ n. take n (drop (suc k) b)) e
drop_take (suc k) (suc m) [] = sym (take_none (suc m - suc k))
drop_take (suc k) (suc m) (x ∷ b) = let e : m - k ≡ suc m - suc k = omega arith in drop_take k m b ∙ ap (λ n. take n (drop k b)) e

low_take : (m : ℕ) (b : List ℕ) → 4 ≤ m → low32 (take m b) ≡ low32 b
unfolding low32
low_take m b h =
    rw (
      get_or-take m b 0 0 (omega arith),
      get_or-take m b 1 0 (omega arith),
      get_or-take m b 2 0 (omega arith),
      get_or-take m b 3 0
          (omega arith),
    )

words_take : (n m : ℕ) (b : List ℕ) → 4 * n ≤ m → words_in n (take m b) ≡ words_in n b
unfolding words_in
words_take zero m b h = refl
words_take (suc n) m b h =
    let d : drop 4 (take m b) ≡ take (m - 4) (drop 4 b) = drop_take 4 m b in
    ap₂ ◌∷◌ (low_take m b (omega arith)) (ap (words_in n) d ∙ words_take n (m - 4) (drop 4 b) (omega arith))

-- where the code word of a name says that its words stand
pub name_kind : (p : Place) → placed_name p % 16 ≡ kinds.NAME
unfolding placed_name
name_kind p = omega arith

pub name_count : (p : Place) → placed_name p / 16 % 512 ≡ byte_count p / 4 % 512
unfolding placed_name
name_count p = omega arith

name_at_lem : (p : Place) → placed_name p / 8192 % 4294967296 ≡ first_byte p % 4294967296
unfolding placed_name
name_at_lem p = omega arith

name_source : (sheet : List ℕ) (p : Place) → leaf_list sheet (placed_name p)
    ≡ list_on_sheet sheet (first_byte p % 4294967296) (byte_count p / 4 % 512)
unfolding leaf_list leaf_source
name_source sheet p = rw (name_kind p, name_at_lem p, name_count p)

at_found : (sheet n : List ℕ) → lookup_fault sheet n ≡ 0 → found_in (place_of sheet n) ≡ true
unfolding place_of
at_found sheet n z = rw z

-- a name's list on the sheet, read where it stands
module _ (sheet n : List ℕ) (ok : sheet_fault sheet ≡ 0) (bytes : Bytes sheet)
    (known : (well_named n ≡ true) × (among n (names (signals_on sheet)) ≡ true)) where
  there : (start count : ℕ) → place_of sheet n ≡ At start count → leaf_list sheet (placed_name (At start count)) ≡ exact_on sheet (leaf
      (name n))
  unfolding list_on_sheet lookup_of
  there start count e =
      let w = place_within sheet n start count e in
      let short = sheet_short sheet ok in
      let part : take count (drop start sheet) ≡ lookup_of sheet n = sym (ap (part_at sheet) e) in
      let long : length (take count (drop start sheet)) ≡ count = length-take-le count (drop start sheet)
      (omega (arith, length-drop start sheet)) in
      let words : words_in (count / 4) (take count (drop start sheet)) ≡ exact_on sheet (leaf (name n))
      = rw long at (part_words sheet n ok bytes known (take count (drop start sheet)) part) in
      let few = rw (sym part, long) at (part_small sheet n bytes) in
      let near : start % 4294967296 ≡ start = omega arith in
      let all : count / 4 % 512 ≡ count / 4 = omega arith in
      let whole : min (count / 4) ((length sheet - start) / 4) ≡ count / 4 = omega arith in
      name_source sheet (At start count)
      ∙ rw (near, all, whole) (sym (words_take (count / 4) count (drop start sheet) (omega arith)) ∙ words)

  at_place : found_in (place_of sheet n) ≡ true
  at_place = at_found sheet n (found sheet n ok bytes known)

  pub name_there : leaf_list sheet (placed_name (place_judged sheet n)) ≡ exact_on sheet (leaf (name n))
  name_there = rw (judged_accepted sheet n ok) (go (place_of sheet n) refl)
    where
      go : (p : Place) → place_of sheet n ≡ p → leaf_list sheet (placed_name p) ≡ exact_on sheet (leaf (name n))
      go (At start count) e = there start count e
      go (Refused fault) e = true_false (sym at_place ∙ ap found_in e)

constant_source : (sheet : List ℕ) (w : ℕ) → (w % 16 ≡ kinds.NAME → ⊥) → leaf_list sheet w ≡ constant_of w ∷ []
unfolding leaf_list leaf_source constant_of
constant_source sheet w x = rw (ne_eqb (w % 16) kinds.NAME x) (go (eqb (w % 16) kinds.UP))
  where
    go : (b : Bool) → take 1 (drop (cond b 1 0) constants) ≡ cond b 1 0 ∷ []
    go true = refl
    go false = refl

-- the list of a code word with its place is that of the leaf that the word stands for
pub leaf_words_lem : (sheet text : List ℕ) (w : ℕ) → sheet_fault sheet ≡ 0 → Bytes sheet → LeafKnown sheet (leaf_of text w)
    → leaf_list sheet (placed_word sheet text w) ≡ exact_on sheet (leaf (leaf_of text w))
unfolding placed_word
leaf_words_lem sheet text w ok bytes known = go (ℕ_discrete (w % 16) kinds.NAME)
  where
    go : Dec (w % 16 ≡ kinds.NAME)
        → leaf_list sheet (cond (eqb (w % 16) kinds.NAME) (placed_name (place_judged sheet (name_at text (w / 256) (w / 16 % 16)))) w)
        ≡ exact_on sheet (leaf (leaf_of text w))
    go (yes e) =
        rw (eq-eqb (w % 16) kinds.NAME e, leaf_name text w e)
        (name_there sheet (name_at text (w / 256) (w / 16 % 16)) ok bytes (rw (leaf_name text w e) at known))
    go (no x) = rw (ne_eqb (w % 16) kinds.NAME x) (constant_source sheet w x ∙ sym (constant_is sheet text w x))

-- a code word has as many operands with its place
pub same_kind : (sheet text : List ℕ) (w : ℕ) → placed_word sheet text w % 16 ≡ w % 16
unfolding placed_word
same_kind sheet text w = go (ℕ_discrete (w % 16) kinds.NAME)
  where
    go : Dec (w % 16 ≡ kinds.NAME)
        → cond (eqb (w % 16) kinds.NAME) (placed_name (place_judged sheet (name_at text (w / 256) (w / 16 % 16)))) w % 16 ≡ w % 16
    go (yes e) = rw (eq-eqb (w % 16) kinds.NAME e) (name_kind _ ∙ sym e)
    go (no x) = rw (ne_eqb (w % 16) kinds.NAME x)

-- and is the same where it is no name
pub same_word : (sheet text : List ℕ) (w : ℕ) → (w % 16 ≡ kinds.NAME → ⊥) → placed_word sheet text w ≡ w
unfolding placed_word
same_word sheet text w x = rw (ne_eqb (w % 16) kinds.NAME x)

pub placed_name_lem : (sheet text : List ℕ) (w : ℕ) → w % 16 ≡ kinds.NAME
    → placed_word sheet text w ≡ placed_name (place_judged sheet (name_at text (w / 256) (w / 16 % 16)))
unfolding placed_word
placed_name_lem sheet text w e = rw (eq-eqb (w % 16) kinds.NAME e)

pub found_plain : (w : ℕ) → (w % 16 ≡ kinds.NAME → ⊥) → word_found w ≡ true
unfolding word_found
found_plain w x = rw (ne_eqb (w % 16) kinds.NAME x)

-- a name that a lookup finds has 1 to 256 words, another none
pub part_some : (sheet n : List ℕ) → Bytes sheet → lookup_fault sheet n ≡ 0 → (1 ≤ byte_count (place_of sheet n) / 4) × (byte_count
    (place_of sheet n) / 4 ≤ most_words)
unfolding lookup_of decoded
part_some sheet n bytes z = go (place_of sheet n) refl
  where
    listed : PartIsList sheet n
    listed = lookup_gives_the_list sheet n bytes z

    go : (p : Place) → place_of sheet n ≡ p → (1 ≤ byte_count p / 4) × (byte_count p / 4 ≤ most_words)
    go (At start count) e =
        let w = place_within sheet n start count e in
        let part : take count (drop start sheet) ≡ lookup_of sheet n = sym (ap (part_at sheet) e) in
        let long : length (take count (drop start sheet)) ≡ count = length-take-le count (drop start sheet)
        (omega (arith, length-drop start sheet)) in
        let same : length (lookup_of sheet n) ≡ count = sym (ap length part) ∙ long in
        let words = words_length (length (lookup_of sheet n) / 4) (lookup_of sheet n) in
        let all = ap length listed.words in
        let some = listed_some (list_named n (signals_on sheet)) listed.listed in
        (omega (arith, some.0), omega (arith, some.1))
    go (Refused fault) e = true_false (sym (at_found sheet n z) ∙ ap found_in e)

pub part_missing : (sheet n : List ℕ) → (lookup_fault sheet n ≡ 0 → ⊥) → byte_count (place_of sheet n) ≡ 0
unfolding place_of
part_missing sheet n x = rw (ne_eqb (lookup_fault sheet n) 0 x)

-- names and constants never meet 5 or 6
bytes_take : (n : ℕ) (l : List ℕ) → Bytes l → Bytes (take n l)
bytes_take zero l h i = omega arith
bytes_take (suc n) [] h i = omega arith
bytes_take (suc n) (x ∷ l) h zero = h 0
bytes_take (suc n) (x ∷ l) h (suc i) = bytes_take n l (λ j. h (suc j)) i

lookup_bytes : (sheet n : List ℕ) → Bytes sheet → Bytes (lookup_of sheet n)
unfolding lookup_of
lookup_bytes sheet n h = go (place_of sheet n)
  where
    go : (p : Place) → Bytes (part_at sheet p)
    go (At start count) = bytes_take count (drop start sheet) (bytes_drop sheet start h)
    go (Refused fault) = λ i. omega arith

on_time : (l : List ℕ) → ((i : ℕ) → get_or l i 0 < 2 ^ 32) → changes_after_m l ≡ false
unfolding changes_after_m
on_time [] h = refl
on_time (w ∷ ws) h = rw (le-ltb M (date_of w) (date_le w (h 0)), on_time ws (λ i. h (suc i)))

no_part_fault : (l : List ℕ) → length l ≤ most_words → changes_after_m l ≡ false → part_fault l ≡ 0
unfolding part_fault
no_part_fault l h e = rw (le-ltb most_words (length l) h, e)

pub leaf_fault : (sheet : List ℕ) (l : Leaf) → sheet_fault sheet ≡ 0 → Bytes sheet → LeafKnown sheet l → part_fault
    (exact_on sheet (leaf l)) ≡ 0
leaf_fault sheet down ok bytes known = rw (down_list sheet) (no_part_fault (0 ∷ []) (omega arith) (on_time (0 ∷ []) small))
  where
    small : (i : ℕ) → get_or (0 ∷ []) i 0 < 2 ^ 32
    small zero = omega arith
    small (suc i) = omega arith
leaf_fault sheet up ok bytes known = rw (up_list sheet) (no_part_fault (1 ∷ []) (omega arith) (on_time (1 ∷ []) small))
  where
    small : (i : ℕ) → get_or (1 ∷ []) i 0 < 2 ^ 32
    small zero = omega arith
    small (suc i) = omega arith
leaf_fault sheet (name n) ok bytes known =
    let w = part_words sheet n ok bytes known (lookup_of sheet n) refl in
    let s = part_small sheet n bytes in
    let len = words_length (length (lookup_of sheet n) / 4) (lookup_of sheet n) in
    rw (← w) (no_part_fault (words_in (length (lookup_of sheet n) / 4) (lookup_of sheet n)) (omega arith)
    (on_time _ (words_in_below (length (lookup_of sheet n) / 4) (lookup_of sheet n) (lookup_bytes sheet n bytes))))
