-- Believed: The kinds of parts: the low four bits of a code word, as `sgl_formula_parts` gives them.
use Rattle.std.specs.Prelude.{ℕ}

-- 0 and 1
abbrev pub DOWN : ℕ
DOWN = 0

abbrev pub UP : ℕ
UP = 1

abbrev pub NAME : ℕ
NAME = 2

-- ! ^ ~
abbrev pub NOT : ℕ
NOT = 3

abbrev pub RISING : ℕ
RISING = 4

abbrev pub FALLING : ℕ
FALLING = 5

-- the timers
abbrev pub TON : ℕ
TON = 6

abbrev pub TOF : ℕ
TOF = 7

abbrev pub TP : ℕ
TP = 8

-- . + SR RS
abbrev pub AND : ℕ
AND = 9

abbrev pub OR : ℕ
OR = 10

abbrev pub SR : ℕ
SR = 11

abbrev pub RS : ℕ
RS = 12

-- how many kinds there are
abbrev pub KINDS : ℕ
KINDS = 13
