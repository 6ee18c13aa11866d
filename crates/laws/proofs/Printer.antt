-- A printer of schemes, with texts for the letters and lengths, whose text the grammar derives with the scheme's tree.
use Prim.Native.Nat.{ℕ, ◌+◌, max}
use mathlib.Core.Path.{◌≡◌, refl, sym, ◌∙◌, ap}
use mathlib.Core.List.{List, [], ◌∷◌, ◌++◌, append_assoc}
use Rattle.grammar.specs.Tree as tree
use Rattle.grammar.specs.Tree.{Tree, and, or, sr, rs}
use Rattle.grammar.specs.Grammar.{Sum, Product, Factor}
use Rattle.laws.specs.Scheme.{Letter, LengthTerm, Scheme, Substitution, put, letter, down, up, unary, binary, invert, rise, fall, ton}
use Rattle.laws.specs.Scheme.{tof}
use Rattle.laws.specs.Printed.{Write}

-- the three levels of the grammar
pub data Level : Type 0 where
  sum product factor : Level

abbrev pub Derives : Level → List ℕ → Tree → ℕ → Type 0
Derives sum = Sum
Derives product = Product
Derives factor = Factor

-- a scheme printed at a level before other bytes, with brackets only where the grouping needs them
unfoldable pub shown : (Letter → List ℕ) → (LengthTerm → List ℕ) → Level → Scheme → List ℕ → List ℕ
shown v w l (letter a) rest = v a ++ rest
shown v w l down rest = 48 ∷ rest
shown v w l up rest = 49 ∷ rest
shown v w l (unary invert a) rest = 33 ∷ shown v w factor a rest
shown v w l (unary rise a) rest = 94 ∷ shown v w factor a rest
shown v w l (unary fall a) rest = 126 ∷ shown v w factor a rest
shown v w l (unary (ton n) a) rest = 84 ∷ 79 ∷ 78 ∷ 40 ∷ (w n ++ (44 ∷ shown v w sum a (41 ∷ rest)))
shown v w l (unary (tof n) a) rest = 84 ∷ 79 ∷ 70 ∷ 40 ∷ (w n ++ (44 ∷ shown v w sum a (41 ∷ rest)))
shown v w l (binary sr a b) rest = 83 ∷ 82 ∷ 40 ∷ shown v w sum a (44 ∷ shown v w sum b (41 ∷ rest))
shown v w l (binary rs a b) rest = 82 ∷ 83 ∷ 40 ∷ shown v w sum a (44 ∷ shown v w sum b (41 ∷ rest))
shown v w sum (binary or a b) rest = shown v w sum a (43 ∷ shown v w product b rest)
shown v w product (binary or a b) rest = 40 ∷ shown v w sum a (43 ∷ shown v w product b (41 ∷ rest))
shown v w factor (binary or a b) rest = 40 ∷ shown v w sum a (43 ∷ shown v w product b (41 ∷ rest))
shown v w sum (binary and a b) rest = shown v w product a (46 ∷ shown v w factor b rest)
shown v w product (binary and a b) rest = shown v w product a (46 ∷ shown v w factor b rest)
shown v w factor (binary and a b) rest = 40 ∷ shown v w product a (46 ∷ shown v w factor b (41 ∷ rest))

-- a tree that the grammar gives to a text, which is the printer's before any other bytes
pub record Form (l : Level) (u : Tree) (print : List ℕ → List ℕ) : Type 0 where
  pub text : List ℕ
  pub depth : ℕ
  pub derived : Derives l text u depth
  pub printed : (rest : List ℕ) → print rest ≡ text ++ rest

-- a factor is a product, and a product is a sum
at_level : (l : Level) {u : Tree} {print : List ℕ → List ℕ} → Form factor u print → Form l u print
at_level sum a = record { text = a.text; depth = a.depth; derived = Sum.product (Product.factor a.derived); printed = a.printed }
at_level product a = record { text = a.text; depth = a.depth; derived = Product.factor a.derived; printed = a.printed }
at_level factor a = a

product_as_sum : {u : Tree} {print : List ℕ → List ℕ} → Form product u print → Form sum u print
product_as_sum a = record { text = a.text; depth = a.depth; derived = Sum.product a.derived; printed = a.printed }

-- two texts with a byte between them, before other bytes
joined : (w v : List ℕ) (b : ℕ) (rest : List ℕ) → w ++ (b ∷ (v ++ rest)) ≡ (w ++ (b ∷ v)) ++ rest
joined w v b rest = sym (append_assoc w (b ∷ v) rest)

-- two operands, a byte between them
between : {l m : Level} {a b : Tree} {first second : List ℕ → List ℕ} (x : Form l a first) (y : Form m b second) (c : ℕ) (rest : List ℕ)
    → first (c ∷ second rest) ≡ (x.text ++ (c ∷ y.text)) ++ rest
between {second = second} x y c rest =
    x.printed (c ∷ second rest) ∙ ap (λ k. x.text ++ (c ∷ k)) (y.printed rest) ∙ joined x.text y.text c rest

plus : {a b : Tree} {first second : List ℕ → List ℕ} → Form sum a first → Form product b second
    → Form sum (tree.binary or a b) (λ rest. first (43 ∷ second rest))
plus x y =
    record {
      text = x.text ++ (43 ∷ y.text);
      depth = max x.depth y.depth;
      derived = Sum.plus x.derived y.derived;
      printed = between x y 43;
    }

dot : {a b : Tree} {first second : List ℕ → List ℕ} → Form product a first → Form factor b second
    → Form product (tree.binary and a b) (λ rest. first (46 ∷ second rest))
dot x y =
    record {
      text = x.text ++ (46 ∷ y.text);
      depth = max x.depth y.depth;
      derived = Product.dot x.derived y.derived;
      printed = between x y 46;
    }

brackets : {a : Tree} {print : List ℕ → List ℕ} → Form sum a print → Form factor a (λ rest. 40 ∷ print (41 ∷ rest))
brackets x =
    record {
      text = 40 ∷ (x.text ++ (41 ∷ []));
      depth = x.depth + 1;
      derived = Factor.brackets x.derived;
      printed = λ rest. ap (λ k. 40 ∷ k) (x.printed (41 ∷ rest) ∙ joined x.text [] 41 rest);
    }

-- ! ^ ~ before a factor
prefixed : {a b : Tree} {print : List ℕ → List ℕ} (c : ℕ) (x : Form factor a print) → Factor (c ∷ x.text) b (x.depth + 1)
    → Form factor b (λ rest. c ∷ print rest)
prefixed c x rule =
    record { text = c ∷ x.text; depth = x.depth + 1; derived = rule; printed = λ rest. ap (λ k. c ∷ k) (x.printed rest) }

-- what stands in a block's bracket: a first text, a comma, a sum
in_bracket : {a : Tree} {print : List ℕ → List ℕ} (w : List ℕ) (x : Form sum a print) (rest : List ℕ)
    → w ++ (44 ∷ print (41 ∷ rest)) ≡ (w ++ (44 ∷ (x.text ++ (41 ∷ [])))) ++ rest
in_bracket w x rest =
    ap (λ k. w ++ (44 ∷ k)) (x.printed (41 ∷ rest) ∙ joined x.text [] 41 rest) ∙ joined w (x.text ++ (41 ∷ [])) 44 rest

latch : {a b u : Tree} {first second : List ℕ → List ℕ} (c d : ℕ) (x : Form sum a first) (y : Form sum b second)
    → Factor (c ∷ d ∷ 40 ∷ (x.text ++ (44 ∷ (y.text ++ (41 ∷ []))))) u (max x.depth y.depth + 1)
    → Form factor u (λ rest. c ∷ d ∷ 40 ∷ first (44 ∷ second (41 ∷ rest)))
latch {second = second} c d x y rule =
    record {
      text = c ∷ d ∷ 40 ∷ (x.text ++ (44 ∷ (y.text ++ (41 ∷ []))));
      depth = max x.depth y.depth + 1;
      derived = rule;
      printed = λ rest. ap (λ k. c ∷ d ∷ 40 ∷ k) (x.printed (44 ∷ second (41 ∷ rest)) ∙ in_bracket x.text y rest);
    }

timer : {a u : Tree} {print : List ℕ → List ℕ} (c : ℕ) (w : List ℕ) (x : Form sum a print)
    → Factor (84 ∷ 79 ∷ c ∷ 40 ∷ (w ++ (44 ∷ (x.text ++ (41 ∷ []))))) u (x.depth + 1)
    → Form factor u (λ rest. 84 ∷ 79 ∷ c ∷ 40 ∷ (w ++ (44 ∷ print (41 ∷ rest))))
timer c w x rule =
    record {
      text = 84 ∷ 79 ∷ c ∷ 40 ∷ (w ++ (44 ∷ (x.text ++ (41 ∷ []))));
      depth = x.depth + 1;
      derived = rule;
      printed = λ rest. ap (λ k. 84 ∷ 79 ∷ c ∷ 40 ∷ k) (in_bracket w x rest);
    }

-- the printer's text of a scheme, with all put in, is derived at every level
pub form : (v : Letter → List ℕ) (w : LengthTerm → List ℕ) (x : Substitution) → Write v w x
    → (l : Level) (a : Scheme) → Form l (put x a) (shown v w l a)
unfolding shown
form v w x h l (letter a) =
    at_level l (record { text = v a; depth = (h.formulas a).0; derived = (h.formulas a).1; printed = λ rest. refl })
form v w x h l down = at_level l (record { text = 48 ∷ []; depth = 0; derived = Factor.zero; printed = λ rest. refl })
form v w x h l up = at_level l (record { text = 49 ∷ []; depth = 0; derived = Factor.one; printed = λ rest. refl })
form v w x h l (unary invert a) = let y = form v w x h factor a in at_level l (prefixed 33 y (Factor.inverted y.derived))
form v w x h l (unary rise a) = let y = form v w x h factor a in at_level l (prefixed 94 y (Factor.rising y.derived))
form v w x h l (unary fall a) = let y = form v w x h factor a in at_level l (prefixed 126 y (Factor.falling y.derived))
form v w x h l (unary (ton n) a) =
    let y = form v w x h sum a in
    let (digits, number) = h.lengths n in
    at_level l (timer 78 (w n) y (rw number at (Factor.ton (w n) digits y.derived)))
form v w x h l (unary (tof n) a) =
    let y = form v w x h sum a in
    let (digits, number) = h.lengths n in
    at_level l (timer 70 (w n) y (rw number at (Factor.tof (w n) digits y.derived)))
form v w x h l (binary sr a b) =
    let y = form v w x h sum a in
    let z = form v w x h sum b in
    at_level l (latch 83 82 y z (Factor.sr y.derived z.derived))
form v w x h l (binary rs a b) =
    let y = form v w x h sum a in
    let z = form v w x h sum b in
    at_level l (latch 82 83 y z (Factor.rs y.derived z.derived))
form v w x h sum (binary or a b) = plus (form v w x h sum a) (form v w x h product b)
form v w x h product (binary or a b) = at_level product (brackets (plus (form v w x h sum a) (form v w x h product b)))
form v w x h factor (binary or a b) = brackets (plus (form v w x h sum a) (form v w x h product b))
form v w x h sum (binary and a b) = product_as_sum (dot (form v w x h product a) (form v w x h factor b))
form v w x h product (binary and a b) = dot (form v w x h product a) (form v w x h factor b)
form v w x h factor (binary and a b) = brackets (product_as_sum (dot (form v w x h product a) (form v w x h factor b)))
