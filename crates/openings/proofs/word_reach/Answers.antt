-- `openings::word_reach` meets its contract.
use native.Mathlib.Omega.{arith}
use mathlib.Core.Path.{refl, ◌∙◌}
use Rattle.names.specs.Names.{all_of}
use Rattle.grammar.specs.Reader.{SR_WORD, RS_WORD, TON_WORD, TOF_WORD, TP_WORD}
use Rattle.openings.proofs.Words.{shared_is}
use Rattle.openings.proofs.word_reach.Goals as goal

pub returns : goal.returns
unfolding all_of
returns c =
    let l = c.args.bytes.now in
    omega (
      arith,
      c.shared_bytes.ensures ∙ shared_is SR_WORD l refl,
      c.shared_bytes-2.ensures ∙ shared_is RS_WORD l refl,
      c.shared_bytes-3.ensures ∙ shared_is TON_WORD l refl,
      c.shared_bytes-4.ensures ∙ shared_is TOF_WORD l refl,
      c.shared_bytes-5.ensures ∙ shared_is TP_WORD l refl,
    )
