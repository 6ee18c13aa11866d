-- Mirrored: A reader that computes: sum, product and factor readers by fuel. Tied to what is believed by `ReaderExact` and, where it
-- stops, by `StopsExact`.
use Rattle.std.specs.Prelude.{ℕ, zero, suc, ◌+◌, ◌*◌, ◌-◌, max, Bool, true, false, cond, ◌&&◌, ◌||◌, List, [], ◌∷◌, ◌++◌, leb, ltb, eqb}
use Rattle.std.specs.Prelude.{length, get_or, take, drop}
use Rattle.grammar.specs.Kinds as kinds
use Rattle.names.specs.Names.{digit, letter, name_byte}
use Rattle.texts.specs.Lengths.{value}

-- where a reader is: whether all is well, the bytes passed, the parts put out, the largest depth and length of one
pub record State (X : Type 0) : Type 0 where
  pub ok : Bool
  pub at : ℕ
  pub out : List X
  pub deepest : ℕ
  pub longest : ℕ

-- what is put out for a part that is its kind alone, a name by its place and count of bytes, and a timer by kind and ticks;
-- and what is kept of a length
pub record Emission (X : Type 0) : Type 0 where
  pub plain : ℕ → X
  pub named : ℕ → ℕ → X
  pub timed : ℕ → ℕ → X
  pub ticks : ℕ → ℕ

-- how many bytes at the front have p
unfoldable pub run : (ℕ → Bool) → List ℕ → ℕ
run p [] = 0
run p (b ∷ bs) = cond (p b) (suc (run p bs)) 0

-- the next byte; 0 at the end and when all is not well
unfoldable pub next : {X : Type 0} → List ℕ → State X → ℕ
next text s = cond s.ok (get_or text s.at 0) 0

unfoldable pub bad : {X : Type 0} → State X → State X
bad s = record { ok = false; at = s.at; out = s.out; deepest = s.deepest; longest = s.longest }

unfoldable pub stepped : {X : Type 0} → ℕ → State X → State X
stepped k s = record { ok = s.ok; at = s.at + k; out = s.out; deepest = s.deepest; longest = s.longest }

-- passes the byte b
unfoldable pub expect : {X : Type 0} → List ℕ → ℕ → State X → State X
expect text b s = cond (eqb (next text s) b) (stepped 1 s) (bad s)

-- puts a part out, at its depth and with its length
unfoldable pub put : {X : Type 0} → X → ℕ → ℕ → State X → State X
put x deep ticks s =
    cond s.ok
    (record { ok = true; at = s.at; out = s.out ++ (x ∷ []); deepest = max s.deepest deep; longest = max s.longest ticks })
    s

-- passes a length
unfoldable pub pass_length : {X : Type 0} → List ℕ → State X → State X
pass_length text s =
    cond (eqb (next text s) 48) (stepped 1 s)
    (cond (digit (next text s)) (stepped (run digit (drop s.at text)) s) (bad s))

-- the number that the bytes from a up to e write
unfoldable pub value_between : List ℕ → ℕ → ℕ → ℕ
value_between text a e = value (take (e - a) (drop a text))

-- the kind of !, ^ and ~; 0 for any other byte
unfoldable pub prefix_kind : ℕ → ℕ
prefix_kind b = cond (eqb b 33) kinds.NOT (cond (eqb b 94) kinds.RISING (cond (eqb b 126) kinds.FALLING 0))

-- whether bytes begin with a word, none of whose bytes is 0
unfoldable pub starts : List ℕ → List ℕ → Bool
starts [] l = true
starts (b ∷ w) l = eqb (get_or l 0 0) b && starts w (drop 1 l)

-- the word and bracket of each block: SR( RS( TON( TOF( TP(
abbrev pub SR_WORD : List ℕ
SR_WORD = 83 ∷ 82 ∷ 40 ∷ []

abbrev pub RS_WORD : List ℕ
RS_WORD = 82 ∷ 83 ∷ 40 ∷ []

abbrev pub TON_WORD : List ℕ
TON_WORD = 84 ∷ 79 ∷ 78 ∷ 40 ∷ []

abbrev pub TOF_WORD : List ℕ
TOF_WORD = 84 ∷ 79 ∷ 70 ∷ 40 ∷ []

abbrev pub TP_WORD : List ℕ
TP_WORD = 84 ∷ 80 ∷ 40 ∷ []

-- the kind of the block that bytes begin, by its word and bracket; 0 for none
unfoldable pub block_kind : List ℕ → ℕ
block_kind l =
    cond (starts SR_WORD l) kinds.SR
    (cond (starts RS_WORD l) kinds.RS
    (cond (starts TON_WORD l) kinds.TON (cond (starts TOF_WORD l) kinds.TOF (cond (starts TP_WORD l) kinds.TP 0))))

-- how many bytes the word and bracket of a block have, by its kind: those of TON and TOF have four
unfoldable pub block_bytes : ℕ → ℕ
block_bytes kind = cond (eqb kind kinds.TON || eqb kind kinds.TOF) 4 3

-- how many bytes of a word, none of which is 0, bytes begin with
unfoldable pub shared : List ℕ → List ℕ → ℕ
shared [] l = 0
shared (b ∷ w) l = cond (eqb (get_or l 0 0) b) (suc (shared w (drop 1 l))) 0

-- how many bytes are there of a block's word and bracket
abbrev pub word_reach : List ℕ → ℕ
word_reach l =
    max (shared SR_WORD l) (max (shared RS_WORD l) (max (shared TON_WORD l) (max (shared TOF_WORD l) (shared TP_WORD l))))

-- where no factor stands, how many bytes are there of one: 8 of a name that is too long, else those of a block's word and bracket
unfoldable pub reach : List ℕ → ℕ
reach l = cond (letter (get_or l 0 0)) 8 (word_reach l)

-- reading stops where no factor stands: after what is there of one
unfoldable pub astray : {X : Type 0} → List ℕ → State X → State X
astray text s = bad (stepped (cond s.ok (reach (drop s.at text)) 0) s)

-- the kind of the block that is next; 0 for none and when all is not well
unfoldable pub block_at : {X : Type 0} → List ℕ → State X → ℕ
block_at text s = cond s.ok (block_kind (drop s.at text)) 0

module _ {X : Type 0} (E : Emission X) (text : List ℕ) where
  -- 0, 1 and names
  unfoldable pub leaf_at : ℕ → State X → State X
  leaf_at deep s =
      cond (eqb (next text s) 48) (put (E.plain kinds.DOWN) deep 0 (stepped 1 s))
      (cond (eqb (next text s) 49) (put (E.plain kinds.UP) deep 0 (stepped 1 s))
      (cond (letter (next text s))
      (cond (leb (run name_byte (drop s.at text)) 8)
      (put (E.named s.at (run name_byte (drop s.at text))) deep 0 (stepped (run name_byte (drop s.at text)) s))
      (astray text s))
      (astray text s)))

  -- a timer whose length stands from a to e is closed where s stands, after its sum
  unfoldable pub timed : ℕ → ℕ → ℕ → ℕ → State X → State X
  timed kind deep a e s = put (E.timed kind (value_between text a e)) deep (E.ticks (value_between text a e)) (expect text 41 s)

  unfoldable mutual
    pub sum_at : ℕ → ℕ → State X → State X
    sum_at zero deep s = bad s
    sum_at (suc n) deep s = sums_at n deep (product_at n deep s)

    pub sums_at : ℕ → ℕ → State X → State X
    sums_at zero deep s = bad s
    sums_at (suc n) deep s =
        cond (eqb (next text s) 43) (sums_at n deep (put (E.plain kinds.OR) deep 0 (product_at n deep (stepped 1 s)))) s

    pub product_at : ℕ → ℕ → State X → State X
    product_at zero deep s = bad s
    product_at (suc n) deep s = products_at n deep (factor_at n deep s)

    pub products_at : ℕ → ℕ → State X → State X
    products_at zero deep s = bad s
    products_at (suc n) deep s =
        cond (eqb (next text s) 46) (products_at n deep (put (E.plain kinds.AND) deep 0 (factor_at n deep (stepped 1 s)))) s

    pub factor_at : ℕ → ℕ → State X → State X
    factor_at zero deep s = bad s
    factor_at (suc n) deep s =
        cond (ltb 0 (prefix_kind (next text s)))
        (put (E.plain (prefix_kind (next text s))) deep 0 (factor_at n (deep + 1) (stepped 1 s)))
        (cond (eqb (next text s) 40)
        (expect text 41 (sum_at n (deep + 1) (stepped 1 s)))
        (cond (ltb 0 (block_at text s))
        (cond (ltb (block_at text s) kinds.AND)
        (timer_at n (block_at text s) deep (stepped (block_bytes (block_at text s)) s))
        (latch_at n (block_at text s) deep (stepped (block_bytes (block_at text s)) s)))
        (leaf_at deep s)))

    -- after the word and bracket: sum,sum) of a latch, length,sum) of a timer

    pub latch_at : ℕ → ℕ → ℕ → State X → State X
    latch_at zero kind deep s = bad s
    latch_at (suc n) kind deep s =
        put (E.plain kind) deep 0
        (expect text 41 (sum_at n (deep + 1) (expect text 44 (sum_at n (deep + 1) s))))

    pub timer_at : ℕ → ℕ → ℕ → State X → State X
    timer_at zero kind deep s = bad s
    timer_at (suc n) kind deep s =
        timed kind deep s.at (pass_length text s).at (sum_at n (deep + 1) (expect text 44 (pass_length text s)))

-- at the first byte, with nothing put out
abbrev pub start : {X : Type 0} → State X
start = record { ok = true; at = 0; out = []; deepest = 0; longest = 0 }

-- reads a whole text
unfoldable pub read_text : {X : Type 0} → Emission X → List ℕ → State X
read_text E text = sum_at E text (5 * length text + 4) 0 start
