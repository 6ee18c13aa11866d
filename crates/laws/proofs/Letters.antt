-- The signal of what is put for a letter.
use Rattle.signals.specs.Signal.{Signal}
use Rattle.grammar.specs.Tree.{Environment, signal}
use Rattle.laws.specs.Scheme.{Letter, Substitution}

abbrev pub put_for : Environment → Substitution → Letter → Signal
put_for env x l = signal env (x.formula l)
