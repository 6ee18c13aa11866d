-- Items copied to the front of an output, one after the other.
use Rattle.std.proofs.Common.{◌≡◌, ℕ, suc, ◌+◌, ◌<◌, ◌≤◌, List, [], ◌∷◌, ◌++◌, min, length, take, drop, set, get_or, sym, ◌∙◌}
use Rattle.std.proofs.Common.{add-one, arith, append_assoc}
use mathlib.Core.Path.{refl}
use native.Mathlib.Decide.{dec_le}
use mathlib.Core.List.{append-nil}
use lib.ListN.{drop_of_length-le}
use lib.Seq.{take-suc, drop-cons, set_at, length-take-le, take_all}
use Rattle.copying.specs.Copied.{copied}

-- one item more
pub copy_next : {A : Type 0} (s o out : List A) (i : ℕ) (x : A) → out ≡ take i s ++ drop i o → i < length s → i < length o
    → x ≡ get_or s i x → set out i x ≡ take (i + 1) s ++ drop (i + 1) o
copy_next s o out i x e hs ho q =
    rw (e, add-one, take-suc s i x hs, drop-cons o i x ho, ← q)
    (set_at (take i s) (get_or o i x) (drop (suc i) o) x i (length-take-le i s (omega arith))
    ∙ sym (append_assoc (take i s) (x ∷ []) (drop (suc i) o)))

-- as many as there is room for
pub copy_done : {A : Type 0} (s o out : List A) (i : ℕ) → out ≡ take i s ++ drop i o → i ≡ min (length s) (length o) → out ≡ copied s o
copy_done {A} s o out i e h = go (dec_le (length s) (length o))
  where
    go : Dec (length s ≤ length o) → out ≡ copied s o
    go (yes l) =
        let q : i ≡ length s = omega arith in
        e ∙ rw (q, take_all (length s) s (omega arith), take_all (length o) s (omega arith)) refl
    go (no n) =
        let q : i ≡ length o = omega arith in
        e ∙ rw (q, drop_of_length-le o {i = length o} (omega arith), drop_of_length-le o {i = length s} (omega arith)) refl

-- all where there is room for all
pub copied_fits : {A : Type 0} (items out : List A) → length items ≤ length out → copied items out ≡ items ++ drop (length items) out
copied_fits items out h = rw (take_all (length out) items h) refl

-- an output of their number holds them alone
pub copied_whole : {A : Type 0} (items out : List A) → length out ≡ length items → copied items out ≡ items
copied_whole items out e =
    copied_fits items out (omega arith) ∙ rw (drop_of_length-le out {i = length items} (omega arith)) (append-nil items)
