-- The rules of the grammar for bytes alone, whatever their tree and depth.
use Prim.Native.Nat.{ℕ, ◌<◌}
use native.Mathlib.Omega.{arith}
use mathlib.Core.Path.{◌≡◌, refl, sym, subst}
use mathlib.Core.Bool.{true}
use mathlib.Core.List.{List, [], ◌∷◌, ◌++◌}
use lib.Dec.{ltb, eqb}
use borrow.Author.Tests.{eqb-true}
use Rattle.names.specs.Names.{digit, all_of}
use Rattle.texts.specs.Lengths.{is_length}
use Rattle.grammar.specs.Tree.{Tree}
use Rattle.grammar.specs.Grammar.{Sum, Product, Factor}
use Rattle.grammar.specs.Reader.{prefix_kind}
use Rattle.grammar.proofs.Bytes.{never, by_cond}
use Rattle.grammar.proofs.Found.{Block}

-- some tree is written by the bytes
abbrev pub Some : (List ℕ → Tree → ℕ → Type 0) → List ℕ → Type 0
Some F w = (t : Tree) × (d : ℕ) × F w t d

pub product_sum : (w : List ℕ) → Some Product w → Some Sum w
product_sum w x = (x.0, x.1, Sum.product x.2)

pub factor_product : (w : List ℕ) → Some Factor w → Some Product w
factor_product w x = (x.0, x.1, Product.factor x.2)

pub plus_sum : (w v : List ℕ) → Some Sum w → Some Product v → Some Sum (w ++ (43 ∷ v))
plus_sum w v x y = (_, _, Sum.plus x.2 y.2)

pub dot_product : (w v : List ℕ) → Some Product w → Some Factor v → Some Product (w ++ (46 ∷ v))
dot_product w v x y = (_, _, Product.dot x.2 y.2)

pub zero_factor : Some Factor (48 ∷ [])
zero_factor = (_, _, Factor.zero)

pub zero_product : Some Product (48 ∷ [])
zero_product = factor_product (48 ∷ []) zero_factor

pub zero_sum : Some Sum (48 ∷ [])
zero_sum = product_sum (48 ∷ []) zero_product

-- ! ^ ~
pub prefix_factor : (b : ℕ) → ltb 0 (prefix_kind b) ≡ true → (0 < b) × ((w : List ℕ) → Some Factor w → Some Factor (b ∷ w))
unfolding prefix_kind
prefix_factor b =
    by_cond P (eqb b 33) (λ e h. subst Q (sym (eqb-true b 33 e)) (omega arith, λ w x. (_, _, Factor.inverted x.2)))
    (λ e. by_cond P (eqb b 94) (λ e h. subst Q (sym (eqb-true b 94 e)) (omega arith, λ w x. (_, _, Factor.rising x.2)))
    (λ e. by_cond P (eqb b 126) (λ e h. subst Q (sym (eqb-true b 126 e)) (omega arith, λ w x. (_, _, Factor.falling x.2)))
    (λ e h. never h)))
  where
    Q : ℕ → Type 0
    Q c = (0 < c) × ((w : List ℕ) → Some Factor w → Some Factor (c ∷ w))

    P : ℕ → Type 0
    P kind = ltb 0 kind ≡ true → Q b

pub brackets_factor : (w : List ℕ) → Some Sum w → Some Factor (40 ∷ (w ++ (41 ∷ [])))
brackets_factor w x = (_, _, Factor.brackets x.2)

abbrev pub Length : List ℕ → Type 0
Length w = is_length w ≡ true

pub zero_length : Length (48 ∷ [])
unfolding is_length digit all_of
zero_length = refl

-- a block's word and bracket, and what is to stand before its comma: a sum or a length
pub record Word (First : List ℕ → Type 0) (word : List ℕ) : Type 0 where
  pub full : all_of (ltb 0) word ≡ true
  pub zero : First (48 ∷ [])
  pub makes : (w v : List ℕ) → First w → Some Sum v → Some Factor (word ++ Block w v)

pub sr_word : Word (Some Sum) (83 ∷ 82 ∷ 40 ∷ [])
unfolding all_of
sr_word = record { full = refl; zero = zero_sum; makes = λ w v x y. (_, _, Factor.sr x.2 y.2) }

pub rs_word : Word (Some Sum) (82 ∷ 83 ∷ 40 ∷ [])
unfolding all_of
rs_word = record { full = refl; zero = zero_sum; makes = λ w v x y. (_, _, Factor.rs x.2 y.2) }

pub ton_word : Word Length (84 ∷ 79 ∷ 78 ∷ 40 ∷ [])
unfolding all_of
ton_word = record { full = refl; zero = zero_length; makes = λ w v x y. (_, _, Factor.ton w x y.2) }

pub tof_word : Word Length (84 ∷ 79 ∷ 70 ∷ 40 ∷ [])
unfolding all_of
tof_word = record { full = refl; zero = zero_length; makes = λ w v x y. (_, _, Factor.tof w x y.2) }

pub tp_word : Word Length (84 ∷ 80 ∷ 40 ∷ [])
unfolding all_of
tp_word = record { full = refl; zero = zero_length; makes = λ w v x y. (_, _, Factor.tp w x y.2) }
