-- Places in working-out order and surroundings: each part is found and replaced at its place, and each place has a part.
use Prim.Native.Nat.{ℕ, ◌+◌, ◌-◌, ◌≤◌, ◌<◌}
use native.Mathlib.Omega.{arith}
use mathlib.Core.Path.{◌≡◌, refl, sym, ◌∙◌, ap, subst}
use mathlib.Core.Bool.{Bool, true, false}
use mathlib.Core.List.{List, [], ◌∷◌, ◌++◌, append_assoc}
use lib.Dec.{ltb}
use lib.ListN.{length, get_or, length-append}
use lib.Seq.{get_or_at}
use borrow.Author.Tests.{ltb-true, ltb-false, lt-ltb, le-ltb}
use Rattle.grammar.specs.Tree.{Tree, leaf, unary, binary}
use Rattle.grammar.specs.Parts.{parts, size, part_at, replace_at}
use Rattle.grammar.specs.Places.{Surroundings, whole, under, on_left, on_right, around, earlier, place_in, EveryPartIsPlaced}
use Rattle.grammar.specs.Places.{Surrounded, EveryPlaceIsAPart}

-- the list of parts is as long as the tree is large
pub length_parts : (t : Tree) → length (parts t) ≡ size t
unfolding parts size
length_parts (leaf l) = refl
length_parts (unary o t) =
    let n = length_parts t in
    omega (arith, length-append (parts t) (unary o t ∷ []))
length_parts (binary o t u) =
    let n = length_parts t in
    let m = length_parts u in
    omega (arith, length-append (parts t) (parts u ++ (binary o t u ∷ [])), length-append (parts u) (binary o t u ∷ []))

-- the list of parts as those before one part, it, and those after it
pub record Split (l : List Tree) (part : Tree) (n : ℕ) : Type 0 where
  pub front : List Tree
  pub back : List Tree
  pub joined : l ≡ front ++ (part ∷ back)
  pub counted : length front + 1 ≡ n

-- a tree is the last of its own parts
split_own : (t : Tree) → Split (parts t) t (size t)
unfolding parts size
split_own (leaf l) = record { front = []; back = []; joined = refl; counted = refl }
split_own (unary o t) =
    record { front = parts t; back = []; joined = refl; counted = ap (λ n. n + 1) (length_parts t) }
split_own (binary o t u) =
    record {
      front = parts t ++ parts u;
      back = [];
      joined = sym (append_assoc (parts t) (parts u) (binary o t u ∷ []));
      counted = omega (arith, length-append (parts t) (parts u), length_parts t, length_parts u);
    }

-- more parts after, more parts before
split_then : {l : List Tree} {part : Tree} {n : ℕ} (m : List Tree) → Split l part n → Split (l ++ m) part n
split_then {part = part} m x =
    record {
      front = x.front;
      back = x.back ++ m;
      joined = ap (λ k. k ++ m) x.joined ∙ append_assoc x.front (part ∷ x.back) m;
      counted = x.counted;
    }

split_after : {l : List Tree} {part : Tree} {n : ℕ} (m : List Tree) → Split l part n → Split (m ++ l) part (length m + n)
split_after {part = part} m x =
    record {
      front = m ++ x.front;
      back = x.back;
      joined = ap (λ k. m ++ k) x.joined ∙ sym (append_assoc m x.front (part ∷ x.back));
      counted = omega (arith, length-append m x.front, x.counted);
    }

split : (c : Surroundings) (part : Tree) → Split (parts (around c part)) part (earlier c + size part)
unfolding around earlier parts
split whole part = rw (zero_plus (size part)) (split_own part)
  where
    zero_plus : (n : ℕ) → 0 + n ≡ n
    zero_plus n = omega arith
split (under o c) part = split_then (unary o (around c part) ∷ []) (split c part)
split (on_left o c u) part = split_then (parts u ++ (binary o (around c part) u ∷ [])) (split c part)
split (on_right o t c) part =
    let sum : length (parts t) + (earlier c + size part) ≡ size t + earlier c + size part = omega (arith, length_parts t) in
    subst (λ (n : ℕ). Split (parts (binary o t (around c part))) part n) sum
    (split_after (parts t) (split_then (binary o t (around c part) ∷ []) (split c part)))

-- a part's place comes before the end of the tree
pub fits : (c : Surroundings) (part : Tree) → earlier c + size part ≤ size (around c part)
unfolding around earlier size
fits whole part = omega arith
fits (under o c) part = let h = fits c part in omega arith
fits (on_left o c u) part = let h = fits c part in omega arith
fits (on_right o t c) part = let h = fits c part in omega arith

pub size_positive : (t : Tree) → 1 ≤ size t
unfolding size
size_positive (leaf l) = omega arith
size_positive (unary o t) = omega arith
size_positive (binary o t u) = omega arith

-- the whole, at the last place
replace_own : (part : Tree) (n : ℕ) (new : Tree) → n + 1 ≡ size part → replace_at part n new ≡ new
unfolding replace_at size
replace_own (leaf l) n new h = refl
replace_own (unary o t) n new h = rw (le-ltb n (size t) (omega arith))
replace_own (binary o t u) n new h =
    rw (le-ltb n (size t) (omega arith), le-ltb n (size t + size u) (omega arith))

replace_in : (c : Surroundings) (part : Tree) (n : ℕ) (new : Tree) → n + 1 ≡ earlier c + size part →
    replace_at (around c part) n new ≡ around c new
unfolding around earlier replace_at
replace_in whole part n new h = replace_own part n new (omega arith)
replace_in (under o c) part n new h =
    let l : n < size (around c part) = omega (arith, fits c part) in
    rw (lt-ltb n (size (around c part)) l) (ap (unary o) (replace_in c part n new h))
replace_in (on_left o c u) part n new h =
    let l : n < size (around c part) = omega (arith, fits c part) in
    rw (lt-ltb n (size (around c part)) l) (ap (λ k. binary o k u) (replace_in c part n new h))
replace_in (on_right o t c) part n new h =
    let g : size t ≤ n = omega (arith, size_positive part) in
    let l : n < size t + size (around c part) = omega (arith, fits c part) in
    rw
    (le-ltb n (size t) g, lt-ltb n (size t + size (around c part)) l)
    (ap (binary o t) (replace_in c part (n - size t) new (omega arith)))

pub every_part_is_placed : EveryPartIsPlaced
unfolding part_at place_in
every_part_is_placed c part =
    let p = size_positive part in
    let x = split c part in
    let q : length x.front ≡ earlier c + size part - 1 = omega (arith, x.counted) in
    record {
      within = omega (arith, fits c part, length_parts (around c part));
      found =
          ap (λ l. get_or l (earlier c + size part - 1) (around c part)) x.joined
          ∙ get_or_at x.front part x.back (around c part) (earlier c + size part - 1) q;
      replaced = λ new. replace_in c part (earlier c + size part - 1) new (omega arith);
    }

-- a place with some part in surroundings
pub record Spot (F : Tree) (n : ℕ) : Type 0 where
  pub surroundings : Surroundings
  pub part : Tree
  pub same : around surroundings part ≡ F
  pub counted : n + 1 ≡ earlier surroundings + size part

pub spot : (F : Tree) (n : ℕ) → n < size F → Spot F n
unfolding around earlier size
spot (leaf l) n h = record { surroundings = whole; part = leaf l; same = refl; counted = omega arith }
spot (unary o t) n h = go (ltb n (size t)) refl (spot t n)
  where
    go : (b : Bool) → ltb n (size t) ≡ b → (n < size t → Spot t n) → Spot (unary o t) n
    go true e rec =
        let x = rec (ltb-true n (size t) e) in
        record {
          surroundings = under o x.surroundings;
          part = x.part;
          same = ap (unary o) x.same;
          counted = x.counted;
        }
    go false e rec =
        let l = ltb-false n (size t) e in
        record { surroundings = whole; part = unary o t; same = refl; counted = omega arith }
spot (binary o t u) n h = go (ltb n (size t)) refl (ltb n (size t + size u)) refl (spot t n) (spot u (n - size t))
  where
    go : (b : Bool) → ltb n (size t) ≡ b → (b2 : Bool) → ltb n (size t + size u) ≡ b2 → (n < size t → Spot t n) →
        (n - size t < size u → Spot u (n - size t)) → Spot (binary o t u) n
    go true e b2 e2 rec rec2 =
        let x = rec (ltb-true n (size t) e) in
        record {
          surroundings = on_left o x.surroundings u;
          part = x.part;
          same = ap (λ k. binary o k u) x.same;
          counted = x.counted;
        }
    go false e true e2 rec rec2 =
        let g = ltb-false n (size t) e in
        let l = ltb-true n (size t + size u) e2 in
        let x = rec2 (omega arith) in
        record {
          surroundings = on_right o t x.surroundings;
          part = x.part;
          same = ap (binary o t) x.same;
          counted = omega (arith, x.counted);
        }
    go false e false e2 rec rec2 =
        let l = ltb-false n (size t + size u) e2 in
        record { surroundings = whole; part = binary o t u; same = refl; counted = omega arith }

surrounded : (F : Tree) (n : ℕ) (c : Surroundings) (part : Tree) → around c part ≡ F → n + 1 ≡ earlier c + size part → Surrounded F n
unfolding place_in
surrounded F n c part e h =
    let k : place_in c part ≡ n = omega arith in
    let q : part_at F n ≡ part = rw (← e, ← k) (every_part_is_placed c part).found in
    record { surroundings = c; ends = record { same = rw q e; place = rw q k } }

pub every_place_is_a_part : EveryPlaceIsAPart
every_place_is_a_part F n h =
    let x = spot F n (omega (arith, length_parts F)) in
    surrounded F n x.surroundings x.part x.same x.counted
