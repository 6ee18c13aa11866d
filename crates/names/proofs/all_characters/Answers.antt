-- `names::all_characters` meets its contract.
use Rattle.std.proofs.Common.{◌∙◌, rules}
use Rattle.std.proofs.lemmas.Iterator.{YieldsList-from_slice}
use Rattle.std.proofs.lemmas.Iterator.Search.{all_from_yields_List}
use borrow.Author.Tests.{tests}
use Rattle.names.specs.Names.{name_byte}
use Rattle.names.proofs.Steps.{all_of_is}
use Rattle.names.proofs.all_characters.Goals as goal

pub returns : goal.returns
unfolding name_byte
returns c =
    let s = c.args.s.now in
    all_from_yields_List name_byte _ _ _ c.all.ensures.ran (YieldsList-from_slice s cc) (λ x b q k. search (rules, tests))
    ∙ all_of_is name_byte s
