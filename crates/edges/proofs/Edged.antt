-- The edges of an accepted list, built word by word, are its exact answer.
use Prim.Native.Nat.{ℕ, ◌+◌, ◌≤◌, ◌<◌}
use native.Mathlib.Omega.{arith}
use native.Mathlib.Numerals.{add-one}
use mathlib.Core.Path.{◌≡◌, refl, ◌∙◌}
use mathlib.Core.Bool.{Bool, true, false, not, ◌&&◌}
use mathlib.Core.List.{List, [], ◌∷◌}
use lib.ListN.{length, drop, get_or, set, drop_of_length-le}
use lib.Seq.{drop-cons}
use Rattle.slices.specs.Bytes.{Words}
use Rattle.signals.specs.Moment.{M, gap, is_gap}
use Rattle.signals.specs.Signal.{Signal, rising, falling}
use Rattle.signals.specs.Words.{date_of, value_at, value_after, head_value, list_fault, signal_of, last_from, last_date, list_of}
use Rattle.signals.specs.Normal.{Normal}
use Rattle.signals.specs.declared.Written.TheVariants.{Count}
use Rattle.signals.proofs.WordFacts.{head_value_lem}
use Rattle.signals.proofs.Scan.{Held}
use Rattle.signals.proofs.Operand.{Ahead, pass_word, words_rise, value_none}
use Rattle.signals.proofs.Normal.{last_le, start, accepted_normal}
use Rattle.operations.specs.Calls.{exact_of_one, CallOfOne}
use Rattle.operations.proofs.NeverMet.{last_32, never_met}
use Rattle.building.specs.Building.{begun, Emits}
use Rattle.building.specs.declared.Made.{Made}
use Rattle.building.proofs.Built.{Built}
use Rattle.building.proofs.BuildingLaws.{slot_short}
use Rattle.building.proofs.Delivering.{handed}
use Rattle.building.proofs.Scanning.{Scanning, scanning_begin, scanning_emit, scanning_done}
use Rattle.showing.specs.declared.Operation.{Operation}
use Rattle.showing.specs.declared.Operation.TheVariants.{Rising, Falling}
use Rattle.showing.proofs.ShownHeld.{held_by, turned, still_for_good}
use Rattle.edges.specs.Edging.{edge_of, is_edge, edges_made, edges_slot, EdgesIn}
use Rattle.edges.proofs.NoFault.{not_late_lem, call_handed}

-- as the merge has it
edge : Bool → Operation
edge true = Rising
edge false = Falling

rise_is : (v a : Bool) → is_edge true v a ≡ (a && not v)
unfolding is_edge
rise_is true true = refl
rise_is true false = refl
rise_is false true = refl
rise_is false false = refl

fall_is : (v a : Bool) → is_edge false v a ≡ (not a && v)
unfolding is_edge
fall_is true true = refl
fall_is true false = refl
fall_is false true = refl
fall_is false false = refl

edge_held : (level : Bool) (f : Signal) (k d : ℕ) (v a b : Bool) → Held f k d v a b
    → Held (edge_of level f) k d (held_by (edge level) [] f f k v v) (is_edge level v a) false
unfolding edge
edge_held true f k d v a b h = rw (rise_is v a) (turned Rising [] f f k d v a b v a b false refl h h).held
edge_held false f k d v a b h = rw (fall_is v a) (turned Falling [] f f k d v a b v a b false refl h h).held

edge_still : (level : Bool) (f : Signal) (k : ℕ) (v : Bool) → ((t : ℕ) → gap k ≤ t → f t ≡ v) → (t : ℕ) → gap k ≤ t
    → edge_of level f t ≡ edge_of level f (gap k)
edge_still true f k v s t l = still_for_good Rising [] f f k v v s s t l
edge_still false f k v s t l = still_for_good Falling [] f f k v v s s t l

edge_first : (level : Bool) (f : Signal) → false ≡ edge_of level f 0
unfolding rising falling is_gap
edge_first true f = refl
edge_first false f = refl

module _ (level : Bool) (f : Signal) (n : ℕ) (small : n + 1 < 4294967296) (old : List ℕ) where
  from_here : (k : ℕ) (v : Bool) (ws slot : List ℕ) (made : Made) → Ahead f k v ws → last_from k ws ≤ n
      → Scanning (edge_of level f) n k old slot made
      → Built (list_of (edge_of level f) n) old (edges_slot level ws v made slot) (edges_made level ws v made)
  unfolding edges_made edges_slot last_from
  from_here k v [] slot made a le s =
      scanning_done (edge_of level f) n old k slot made s (edge_still level f k v (λ t l. a.says t l ∙ value_none v t))
  from_here k v (w ∷ ws) slot made a le s =
      let step = pass_word f k v w ws a in
      from_here (date_of w) (value_after w) ws _ _ step.1 le
      (scanning_emit (edge_of level f) n old k (date_of w) _ _ _ slot made s (edge_held level f k (date_of w) v _ _ step.0)
      (omega (arith, last_le (date_of w) ws a.rises.1)) small)

pub edges_exact : (level : Bool) (a : List ℕ) → list_fault a ≡ 0 → Words a → (old : List ℕ) (made : Made) (slot : List ℕ)
    → EdgesIn level a old made slot → Built (exact_of_one (edge_of level) a) old slot made
unfolding exact_of_one last_date
edges_exact level a h wa old made slot (e, q) = go a ((accepted_normal a).0 h).0 (last_32 a (λ i u. wa i)) e q
  where
    go : (a : List ℕ) → Normal a → last_date a ≤ M → made ≡ edges_made level (drop 1 a) (value_after (get_or a 0 0)) (begun false)
        → slot ≡ edges_slot level (drop 1 a) (value_after (get_or a 0 0)) (begun false) (set old 0 0)
        → Built (list_of (edge_of level (signal_of a)) (last_date a)) old slot made
    go [] n m e q = absurd n
    go (w ∷ ws) n m e q =
        rw (e, q, head_value_lem w n.0)
        (from_here level (signal_of (w ∷ ws)) (last_from 0 ws) (omega arith) old 0 (head_value w) ws (set old 0 0) (begun false)
        (start w ws (words_rise 0 (head_value w) ws n.1)) (omega arith)
        (scanning_begin (edge_of level (signal_of (w ∷ ws))) (last_from 0 ws) old false (edge_first level (signal_of (w ∷ ws)))))

never_longer : (level : Bool) (a : List ℕ) → list_fault a ≡ 0 → length (exact_of_one (edge_of level) a) ≤ length a
never_longer true = never_met.rising_longer
never_longer false = never_met.falling_longer

-- built in an output as long as the list
pub edges_there : (level : Bool) (a : List ℕ) → list_fault a ≡ 0 → Words a → (out : List ℕ) (made : Made) (after : List ℕ)
    → EdgesIn level a out made after → length a ≤ length out → CallOfOne (edge_of level) a out (Count made.count) after
edges_there level a ok wa out made after e fits =
    let b = edges_exact level a ok wa out made after e in
    let few = never_longer level a ok in
    rw b.count_is
    (call_handed (edge_of level) a wa ok few out _ after
    (handed _ out (omega arith) after (b.slot_is ∙ slot_short _ out (not_late_lem (edge_of level) a wa) (omega arith))))

-- one word more: what the words left make stays the same
pub word_more : (level : Bool) (a : List ℕ) (i : ℕ) → i < length a → (before : Bool) (made : Made) (slot : List ℕ) (at : Bool)
    → at ≡ is_edge level before (value_at (get_or a i 0)) → (next : Made) (slot' : List ℕ)
    → Emits made (date_of (get_or a i 0)) at false slot next slot'
    → (edges_made level (drop (i + 1) a) (value_after (get_or a i 0)) next ≡ edges_made level (drop i a) before made)
    × (edges_slot level (drop (i + 1) a) (value_after (get_or a i 0)) next slot' ≡ edges_slot level (drop i a) before made slot)
unfolding edges_made edges_slot
word_more level a i h before made slot at e next slot' (p, q) =
    (rw (p, e, drop-cons a i 0 h, add-one), rw (p, q, e, drop-cons a i 0 h, add-one))

-- no word left
pub none_left : (level : Bool) (a : List ℕ) (i : ℕ) → length a ≤ i → (before : Bool) (made : Made) (slot : List ℕ)
    → (made ≡ edges_made level (drop i a) before made) × (slot ≡ edges_slot level (drop i a) before made slot)
unfolding edges_made edges_slot
none_left level a i h before made slot = (rw (drop_of_length-le a {i = i} h), rw (drop_of_length-le a {i = i} h))
