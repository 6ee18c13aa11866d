-- Facts on runs of bytes and on lengths that the proofs of the reader's steps cite.
use Prim.Native.Nat.{ℕ, zero, suc, ◌+◌, ◌*◌, ◌-◌, ◌≤◌, ◌<◌}
use native.Mathlib.Omega.{arith}
use native.Mathlib.Decide.{dec_lt}
use native.Mathlib.Numerals.{add-one}
use mathlib.Core.Path.{◌≡◌, refl, sym, ap, ◌∙◌}
use mathlib.Core.Bool.{Bool, true, false, cond}
use mathlib.Core.List.{List, [], ◌∷◌}
use Rattle.std.specs.List.{prefix_len, take_while}
use Rattle.std.proofs.lemmas.List.Folds.{length-prefix_len}
use native.Mathlib.Nat.{add_comm}
use lib.ListN.{length, get_or, take, drop, get_or-eq_default, length-drop}
use lib.Seq.{drop-cons, take-suc, get_or-drop}
use Rattle.signals.specs.Moment.{M}
use Rattle.names.specs.Names.{letter, digit, name_byte}
use Rattle.texts.specs.Lengths.{value, value_from, capped}
use Rattle.grammar.specs.Reader.{run, value_between}
use Rattle.marks.specs.declared.Mark.{Mark}
use Rattle.marks.specs.Marks.{next_mark}
use Rattle.tokens.specs.Tokens.{class_of, number_at}
use Rattle.grammar.proofs.Bytes.{never}
use Rattle.grammar.proofs.Writing.{value_more}

-- a letter begins a name
pub letter_name : (b : ℕ) → letter b ≡ true → name_byte b ≡ true
unfolding name_byte
letter_name b e = rw e refl

-- a run goes on
pub run_on : (p : ℕ → Bool) (text : List ℕ) (i : ℕ) → i < length text → p (get_or text i 0) ≡ true →
    run p (drop i text) ≡ suc (run p (drop (i + 1) text))
unfolding run
run_on p text i h e = rw (drop-cons text i 0 h, e, add-one) refl

-- a byte that belongs is in the list, where 0 does not belong
in_list : (p : ℕ → Bool) (text : List ℕ) (i : ℕ) → p 0 ≡ false → p (get_or text i 0) ≡ true → i < length text
in_list p text i none e = go (dec_lt i (length text))
  where
    go : Dec (i < length text) → i < length text
    go (yes h) = h
    go (no h) = never (sym none ∙ ap p (sym (get_or-eq_default text 0 {n = i} (omega (arith, h)))) ∙ e)

pub run_more : (p : ℕ → Bool) (text : List ℕ) (i : ℕ) → p 0 ≡ false → p (get_or text i 0) ≡ true →
    run p (drop i text) ≡ suc (run p (drop (i + 1) text))
run_more p text i none e = run_on p text i (in_list p text i none e) e

-- a byte that is next and belongs begins a run
pub run_some : (p : ℕ → Bool) (text : List ℕ) (m : Mark) → p 0 ≡ false → p (next_mark text m) ≡ true → 0 < run p (drop m.at text)
unfolding next_mark
run_some p text m none e = go m.ok e
  where
    go : (z : Bool) → p (cond z (get_or text m.at 0) 0) ≡ true → 0 < run p (drop m.at text)
    go true e = omega (arith, run_more p text m.at none e)
    go false e = never (sym none ∙ e)

-- one more digit
pub number_next : (page : List ℕ) (a i : ℕ) → a ≤ i → number_at page a (i + 1 - a) ≡ number_at page a (i - a) * 10 + (get_or page i 0 - 48)
unfolding number_at
number_next page a i h =
    let e : i + 1 - a ≡ suc (i - a) = omega arith in
    let f : a + (i - a) ≡ i = omega arith in
    rw e (ap (λ (j : ℕ). number_at page a (i - a) * 10 + (get_or page j 0 - 48)) f)

-- the number of bytes of the page is that of the grammar
number_value : (page : List ℕ) (a k : ℕ) → a + k ≤ length page → number_at page a k ≡ value (take k (drop a page))
unfolding number_at value value_from
number_value page a zero h = refl
number_value page a (suc k) h =
    let g : k < length (drop a page) = rw (length-drop a page) (omega arith) in
    rw (take-suc (drop a page) k 0 g, get_or-drop a page k 0)
    (ap (λ (n : ℕ). n * 10 + (get_or page (a + k) 0 - 48)) (number_value page a k (omega arith))
    ∙ sym (value_more 0 (get_or page (a + k) 0) (take k (drop a page))))

pub number_between : (page : List ℕ) (a e : ℕ) → a ≤ e → e ≤ length page → number_at page a (e - a) ≡ value_between page a e
unfolding value_between
number_between page a e h k = number_value page a (e - a) (omega arith)

pub capped_most : (n v : ℕ) → n ≡ capped v → n ≤ M + 1
unfolding capped
capped_most n v e = omega arith

pub number_none : (page : List ℕ) (a : ℕ) → 0 ≡ capped (number_at page a (a - a))
unfolding number_at capped
number_none page a = let e : a - a ≡ 0 = omega arith in rw e refl

pub run_most : (p : ℕ → Bool) (l : List ℕ) → run p l ≤ length l
unfolding run
run_most p [] = omega arith
run_most p (b ∷ l) = go (p b) (run_most p l)
  where
    go : (z : Bool) → run p l ≤ length l → cond z (suc (run p l)) 0 ≤ length (b ∷ l)
    go true h = omega arith
    go false h = omega arith

-- 0 is a byte of no name and of no length
pub none_at_0 : (letters : Bool) → class_of letters 0 ≡ false
unfolding name_byte letter digit
none_at_0 true = refl
none_at_0 false = refl

-- a run is what std counts
pub run_is : (p : ℕ → Bool) (l : List ℕ) → length (take_while p l) ≡ run p l
unfolding run
run_is p l = length-prefix_len p l ∙ go l
  where
    go : (l : List ℕ) → prefix_len p l ≡ run p l
    go [] = refl
    go (b ∷ l) = rw (add_comm 1 (prefix_len p l), add-one, go l) refl
