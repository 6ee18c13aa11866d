-- `tidying::keep_words` meets its contract: what is put and what is left to keep make the whole, and past it the output stays.
use Prim.Native.Nat.{◌-◌}
use lib.ListN.{length}
use Rattle.tidying.proofs.Turns.{PutTo}
use Rattle.tidying.proofs.keep_words.Given as goal

abbrev pub invariant-loop-place : goal.invariant-loop-place
invariant-loop-place l = PutTo l.list l.initial.out l.out l.count l.place l.i

abbrev pub decreases-loop-place : goal.decreases-loop-place
decreases-loop-place l = length l.list - l.i
