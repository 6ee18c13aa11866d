-- Mirrored: Where a reader may begin and what it leaves, as the private contracts cite it: each mirrors a reader on states.
use Rattle.std.specs.Prelude.{ℕ, ◌+◌, ◌*◌, ◌-◌, ◌≤◌, ◌≡◌, List, length, take}
use Rattle.grammar.specs.Formula.{coded}
use Rattle.grammar.specs.Reader.{State, sum_at, sums_at, product_at, products_at, factor_at, latch_at, timer_at}
use Rattle.marks.specs.declared.Mark.{Mark}
use Rattle.marks.specs.Marks.{lent}

-- the state of a reader that is at a mark and has put these words out
abbrev pub view_of : Mark → List ℕ → State ℕ
view_of m out = record { ok = m.ok; at = m.at; out = out; deepest = m.deepest; longest = m.longest }

-- what a mark and 32 code words show of a state: all of it but the words put out after the 32nd, which are only counted
pub record Shows (m : Mark) (code : List ℕ) (s : State ℕ) : Type 0 where
  pub view : s ≡ view_of m s.out
  pub count : length s.out ≡ m.parts
  pub words : take 32 s.out ≡ take m.parts code

-- where a reader may begin: the text is short enough, the code words are 32, and no more parts are out, nor more brackets open, than
-- bytes passed
pub record Ready (text code : List ℕ) (m : Mark) (deep : ℕ) : Type 0 where
  pub short : length text ≤ 1024
  pub room : length code ≡ 32
  pub within : m.at ≤ length text
  pub fewer : m.parts ≤ m.at
  pub opened : deep ≤ m.at

-- what a reader that mirrors F leaves: each part that it put out has a byte of its own
pub record Done (F : ℕ → State ℕ → State ℕ) (level : ℕ) (text : List ℕ) (m : Mark) (old new : List ℕ) (r : Mark) : Type 0 where
  pub same : (n : ℕ) → 5 * (length text - m.at) + level ≤ n → (s : State ℕ) → Shows m old s → Shows r new (F n s)
  pub room : length new ≡ 32
  pub within : r.at ≤ length text
  pub on : m.at ≤ r.at
  pub few : r.parts + m.at ≤ m.parts + r.at

abbrev pub SumsRead : List ℕ → ℕ → Mark → List ℕ → List ℕ → Mark → Type 0
SumsRead text deep m old new r = Done (λ n. sums_at coded text n deep) 1 text m old new r

abbrev pub ProductsRead : List ℕ → ℕ → Mark → List ℕ → List ℕ → Mark → Type 0
ProductsRead text deep m old new r = Done (λ n. products_at coded text n deep) 1 text m old new r

abbrev pub FactorRead : List ℕ → ℕ → Mark → List ℕ → List ℕ → Mark → Type 0
FactorRead text deep m old new r = Done (λ n. factor_at coded text n deep) 2 text m old new r

abbrev pub ProductRead : List ℕ → ℕ → Mark → List ℕ → List ℕ → Mark → Type 0
ProductRead text deep m old new r = Done (λ n. product_at coded text n deep) 3 text m old new r

abbrev pub SumRead : List ℕ → ℕ → Mark → List ℕ → List ℕ → Mark → Type 0
SumRead text deep m old new r = Done (λ n. sum_at coded text n deep) 4 text m old new r

abbrev pub LatchRead : List ℕ → ℕ → ℕ → Mark → List ℕ → List ℕ → Mark → Type 0
LatchRead text kind deep m old new r = Done (λ n. latch_at coded text n kind deep) 5 text m old new r

abbrev pub TimerRead : List ℕ → ℕ → ℕ → Mark → List ℕ → List ℕ → Mark → Type 0
TimerRead text kind deep m old new r = Done (λ n. timer_at coded text n kind deep) 5 text m old new r

-- the same where the text is lent
abbrev pub Begun : List ℕ → ℕ → List ℕ → Mark → ℕ → Type 0
Begun page bytes code m deep = Ready (lent page bytes) code m deep

abbrev pub Left : (Mark → List ℕ → List ℕ → Mark → Type 0) → Mark → List ℕ → List ℕ → Mark → Type 0
Left R m old new r = R m old new r
