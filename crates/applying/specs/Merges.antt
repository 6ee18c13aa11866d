-- Mirrored: The merge that a kind asks for, and its table.
use Rattle.std.specs.Prelude.{ℕ, true, false, cond, [], ◌∷◌, ltb, eqb}
use Rattle.signals.specs.Signal.{Table}
use Rattle.showing.specs.declared.Operation.{Operation}
use Rattle.showing.specs.declared.Operation.TheVariants.{Connective, Rising, Falling, SetWins, ResetWins}
use Rattle.grammar.specs.Kinds as kinds
use Rattle.applying.specs.PartCalls.{AND_table, OR_table}

unfoldable pub operation_of : ℕ → Operation
operation_of kind =
    cond (eqb kind kinds.RISING) Rising
    (cond (eqb kind kinds.FALLING) Falling (cond (ltb kind kinds.SR) Connective (cond (eqb kind kinds.SR) SetWins ResetWins)))

-- the table of a connective, that of NOT by its first operand alone
unfoldable pub table_for : ℕ → Table
table_for kind =
    cond (eqb kind kinds.NOT) ((true ∷ true ∷ []) ∷ (false ∷ false ∷ []) ∷ []) (cond (eqb kind kinds.AND) AND_table OR_table)
