-- Rewriting by places reaches every part, and goes back.
use Prim.Native.Nat.{ℕ}
use mathlib.Core.Path.{◌≡◌, refl, sym, ◌∙◌, ap}
use Rattle.grammar.specs.Tree.{Tree}
use Rattle.grammar.specs.Parts.{replace_at}
use Rattle.grammar.specs.Places.{Surroundings, around, place_in}
use Rattle.grammar.proofs.Places.{every_part_is_placed, every_place_is_a_part}
use Rattle.laws.specs.Scheme.{Equation, put}
use Rattle.laws.specs.Laws.{equation}
use Rattle.laws.specs.Rewriting.{Direction, forward, backward, before, after, Step, Leads, Rewrites}
use Rattle.laws.specs.Places.{OnePartApart, RewritingReachesEveryPart, RewritingGoesBack}

-- a part replaced at its place
replaced_there : (F : Tree) (n : ℕ) (c : Surroundings) (old new : Tree) → around c old ≡ F → place_in c old ≡ n →
    replace_at F n new ≡ around c new
replaced_there F n c old new e k = rw (← e, ← k) ((every_part_is_placed c old).replaced new)

apart : (x : Step) (F G : Tree) → Leads x F G → OnePartApart F G
apart x F G l =
    let y = every_place_is_a_part F x.place l.placed in
    let old : Tree = put x.substitution (before x.direction (equation x.number)) in
    let new : Tree = put x.substitution (after x.direction (equation x.number)) in
    let e : around y.surroundings old ≡ F = rw (← l.fits) y.ends.same in
    let k : place_in y.surroundings old ≡ x.place = rw (← l.fits) y.ends.place in
    record {
      number = x.number;
      numbered = l.numbered;
      direction = x.direction;
      substitution = x.substitution;
      surroundings = y.surroundings;
      from = sym e;
      to = l.gives ∙ replaced_there F x.place y.surroundings old new e k;
    }

step_of : (F G : Tree) → OnePartApart F G → Rewrites F G
step_of F G a =
    let old : Tree = put a.substitution (before a.direction (equation a.number)) in
    let new : Tree = put a.substitution (after a.direction (equation a.number)) in
    let h = every_part_is_placed a.surroundings old in (
      record {
        number = a.number;
        direction = a.direction;
        substitution = a.substitution;
        place = place_in a.surroundings old;
      },
      record {
        numbered = a.numbered;
        placed = rw a.from h.within;
        fits = rw a.from h.found;
        gives = rw a.from (a.to ∙ sym (h.replaced new));
      },
    )

pub rewriting_reaches_every_part : RewritingReachesEveryPart
rewriting_reaches_every_part F G = (λ x. apart x.0 F G x.1, step_of F G)

-- the other direction
turned : Direction → Direction
turned forward = backward
turned backward = forward

before_turned : (way : Direction) (q : Equation) → before (turned way) q ≡ after way q
unfolding turned
before_turned forward q = refl
before_turned backward q = refl

after_turned : (way : Direction) (q : Equation) → after (turned way) q ≡ before way q
unfolding turned
after_turned forward q = refl
after_turned backward q = refl

pub rewriting_goes_back : RewritingGoesBack
rewriting_goes_back F G w =
    let a = (rewriting_reaches_every_part F G).0 w in
    let q : Equation = equation a.number in
    step_of G F record {
      number = a.number;
      numbered = a.numbered;
      direction = turned a.direction;
      substitution = a.substitution;
      surroundings = a.surroundings;
      from = a.to ∙ ap (λ k. around a.surroundings (put a.substitution k)) (sym (before_turned a.direction q));
      to = a.from ∙ ap (λ k. around a.surroundings (put a.substitution k)) (sym (after_turned a.direction q));
    }
