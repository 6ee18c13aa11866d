-- `openings::block_kind` meets its contract.
use mathlib.Core.Path.{refl}
use Rattle.names.specs.Names.{all_of}
use Rattle.grammar.specs.Reader.{block_kind, SR_WORD, RS_WORD, TON_WORD, TOF_WORD, TP_WORD}
use Rattle.openings.proofs.Words.{told}
use Rattle.openings.proofs.block_kind.Goals as goal

pub returns-then-starts_with : goal.returns-then-starts_with
unfolding block_kind all_of
returns-then-starts_with c =
    simp (told SR_WORD c.args.bytes.now refl c.starts_with.ensures.value c.if-starts_with.true)

pub returns-then-starts_with-2 : goal.returns-then-starts_with-2
unfolding block_kind all_of
returns-then-starts_with-2 c =
    simp (
      told SR_WORD c.args.bytes.now refl c.starts_with.ensures.value c.if-starts_with.false,
      told RS_WORD c.args.bytes.now refl c.starts_with-else-starts_with.ensures.value c.if-starts_with-2.true,
    )

pub returns-then-starts_with-3 : goal.returns-then-starts_with-3
unfolding block_kind all_of
returns-then-starts_with-3 c =
    simp (
      told SR_WORD c.args.bytes.now refl c.starts_with.ensures.value c.if-starts_with.false,
      told RS_WORD c.args.bytes.now refl c.starts_with-else-starts_with.ensures.value c.if-starts_with-2.false,
      told TON_WORD c.args.bytes.now refl c.starts_with-else-starts_with-2.ensures.value c.if-starts_with-3.true,
    )

pub returns-then-starts_with-4 : goal.returns-then-starts_with-4
unfolding block_kind all_of
returns-then-starts_with-4 c =
    simp (
      told SR_WORD c.args.bytes.now refl c.starts_with.ensures.value c.if-starts_with.false,
      told RS_WORD c.args.bytes.now refl c.starts_with-else-starts_with.ensures.value c.if-starts_with-2.false,
      told TON_WORD c.args.bytes.now refl c.starts_with-else-starts_with-2.ensures.value c.if-starts_with-3.false,
      told TOF_WORD c.args.bytes.now refl c.starts_with-else-starts_with-3.ensures.value c.if-starts_with-4.true,
    )

pub returns-then-starts_with-5 : goal.returns-then-starts_with-5
unfolding block_kind all_of
returns-then-starts_with-5 c =
    simp (
      told SR_WORD c.args.bytes.now refl c.starts_with.ensures.value c.if-starts_with.false,
      told RS_WORD c.args.bytes.now refl c.starts_with-else-starts_with.ensures.value c.if-starts_with-2.false,
      told TON_WORD c.args.bytes.now refl c.starts_with-else-starts_with-2.ensures.value c.if-starts_with-3.false,
      told TOF_WORD c.args.bytes.now refl c.starts_with-else-starts_with-3.ensures.value c.if-starts_with-4.false,
      told TP_WORD c.args.bytes.now refl c.starts_with-else-starts_with-4.ensures.value c.if-starts_with-5.true,
    )

pub returns-else-starts_with-5 : goal.returns-else-starts_with-5
unfolding block_kind all_of
returns-else-starts_with-5 c =
    simp (
      told SR_WORD c.args.bytes.now refl c.starts_with.ensures.value c.if-starts_with.false,
      told RS_WORD c.args.bytes.now refl c.starts_with-else-starts_with.ensures.value c.if-starts_with-2.false,
      told TON_WORD c.args.bytes.now refl c.starts_with-else-starts_with-2.ensures.value c.if-starts_with-3.false,
      told TOF_WORD c.args.bytes.now refl c.starts_with-else-starts_with-3.ensures.value c.if-starts_with-4.false,
      told TP_WORD c.args.bytes.now refl c.starts_with-else-starts_with-4.ensures.value c.if-starts_with-5.false,
    )
