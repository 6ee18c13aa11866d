-- Laws 49 to 55, those of the edges.
use Prim.Native.Nat.{ℕ, ◌-◌, ◌%◌}
use native.Mathlib.Omega.{arith}
use mathlib.Core.Path.{◌≡◌, refl}
use mathlib.Core.Bool.{Bool, true, false, not, ◌&&◌, ◌||◌}
use borrow.Author.Tests.{eqb-false, eq-eqb}
use Rattle.signals.specs.Moment.{is_gap, just_before}
use Rattle.signals.specs.Signal.{Signal, constant, NOT, AND, OR, rising, falling}
use Rattle.laws.specs.Laws.{rising_and_input, rising_of_not, falling_of_not, rising_of_rising, falling_of_rising, rising_of_and}
use Rattle.laws.specs.Laws.{falling_of_or}
use Rattle.laws.specs.Scheme.{f, g}
use Rattle.laws.specs.Soundness.{Holds}
use Rattle.laws.proofs.Letters.{put_for}

-- in each, n is whether the moment is an instant, a and b are values there, c and d those just before
edge_and : (n a c : Bool) → (n && (a && not c) && a) ≡ (n && (a && not c))
edge_and true true true = refl
edge_and true true false = refl
edge_and true false c = refl
edge_and false a c = refl

edge_not_not : (n a c : Bool) → (n && (a && not (not c))) ≡ (n && (a && c))
edge_not_not n a true = refl
edge_not_not n a false = refl

not_not_edge : (n a c : Bool) → (n && (not (not a) && c)) ≡ (n && (a && c))
not_not_edge n true c = refl
not_not_edge n false c = refl

edge_of_and : (n a b c d : Bool) → (n && (a && b && not (c && d))) ≡ (n && (a && not c) && b || a && (n && (b && not d)))
edge_of_and false true b c d = refl
edge_of_and false false b c d = refl
edge_of_and true false b c d = refl
edge_of_and true true true true d = refl
edge_of_and true true true false d = refl
edge_of_and true true false true d = refl
edge_of_and true true false false d = refl

edge_of_or : (n a b c d : Bool) → (n && (not (a || b) && (c || d))) ≡ (n && (not a && c) && not b || not a && (n && (not b && d)))
edge_of_or false true b c d = refl
edge_of_or false false b c d = refl
edge_of_or true true b c d = refl
edge_of_or true false true true d = refl
edge_of_or true false true false d = refl
edge_of_or true false false true d = refl
edge_of_or true false false false d = refl

-- just before an instant is a gap, where a rise is down
gap_before : (t : ℕ) → is_gap t ≡ false → is_gap (just_before t) ≡ true
unfolding is_gap just_before
gap_before t h =
    let odd : t % 2 ≡ 0 → ⊥ = eqb-false (t % 2) 0 h in
    eq-eqb ((t - 1) % 2) 0 (omega arith)

down_before : (a : Signal) (t : ℕ) → is_gap t ≡ false → rising a (just_before t) ≡ false
unfolding rising
down_before a t h = rw (gap_before t h)

pub rising_and_input_lem : Holds rising_and_input
unfolding AND rising
rising_and_input_lem env x t = edge_and (not (is_gap t)) (put_for env x f t) (put_for env x f (just_before t))

pub rising_of_not_lem : Holds rising_of_not
unfolding NOT rising falling
rising_of_not_lem env x t = edge_not_not (not (is_gap t)) (not (put_for env x f t)) (put_for env x f (just_before t))

pub falling_of_not_lem : Holds falling_of_not
unfolding NOT rising falling
falling_of_not_lem env x t = not_not_edge (not (is_gap t)) (put_for env x f t) (not (put_for env x f (just_before t)))

rising_again : (a : Signal) (t : ℕ) → rising (rising a) t ≡ rising a t
unfolding rising
rising_again a t = go (is_gap t) refl
  where
    again : (b : Bool) → (b && true) ≡ b
    again true = refl
    again false = refl

    go : (n : Bool) → is_gap t ≡ n → rising (rising a) t ≡ rising a t
    go true h = rw h
    go false h = rw (down_before a t h, h) (again (a t && not (a (just_before t))))

pub rising_of_rising_lem : Holds rising_of_rising
rising_of_rising_lem env x t = rising_again (put_for env x f) t

rises_never_fall : (a : Signal) (t : ℕ) → falling (rising a) t ≡ false
unfolding falling
rises_never_fall a t = go (is_gap t) refl
  where
    never : (b : Bool) → (not b && false) ≡ false
    never true = refl
    never false = refl

    go : (n : Bool) → is_gap t ≡ n → falling (rising a) t ≡ false
    go true h = rw h
    go false h = rw (h, down_before a t h) (never (rising a t))

pub falling_of_rising_lem : Holds falling_of_rising
unfolding constant
falling_of_rising_lem env x t = rises_never_fall (put_for env x f) t

pub rising_of_and_lem : Holds rising_of_and
unfolding AND OR rising
rising_of_and_lem env x t =
    edge_of_and
    (not (is_gap t))
    (put_for env x f t)
    (put_for env x g t)
    (put_for env x f (just_before t))
    (put_for env x g (just_before t))

pub falling_of_or_lem : Holds falling_of_or
unfolding AND OR NOT falling
falling_of_or_lem env x t =
    edge_of_or
    (not (is_gap t))
    (put_for env x f t)
    (put_for env x g t)
    (put_for env x f (just_before t))
    (put_for env x g (just_before t))
