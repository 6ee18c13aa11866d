-- `pulses::pulse_words` passes the words of a slice in turn: those left lead where all lead from the first.
use native.Mathlib.Omega.{arith}
use mathlib.Core.Path.{refl, ◌∙◌, ap}
use Rattle.sources.proofs.Readers.{reads_start}
use Rattle.lent_slots.specs.Lent.{through}
use Rattle.lent_slots.proofs.LentRuns.{leads_home}
use Rattle.lent_slots.proofs.WordReaders.{word_left, none_left, word_passed, word_on}
use Rattle.pulsing.specs.Turns.{state_of, finish, pulse_engine}
use Rattle.pulsing.proofs.PulseTests.{put_in}
use Rattle.pulsing.proofs.PulseWords.{first_is}
use Rattle.pulsing.proofs.PulseLoops.{leads_first, leads_next}
use Rattle.pulses.proofs.pulse_words.Goals as goal

pub loop-reader-init : goal.loop-reader-init
loop-reader-init c = (
  refl,
  reads_start _ (λ i. (c.type_inv.f i).fits) (omega (arith, c.requires)) _ c.start_in-reader.ensures,
  leads_first _ _ _ c.start_in-reader.ensures _ _ _,
)

pub loop-reader-smaller : goal.loop-reader-smaller
loop-reader-smaller c =
    let here = c.loop-reader in
    omega (
      arith,
      (word_left _ _ here.invariant.1 c.loop-reader-test.true).0,
      word_passed _ _ here.invariant.1 c.loop-reader-test.true _ c.past_in-passed.ensures,
    )

pub loop-reader-preserved : goal.loop-reader-preserved
loop-reader-preserved c =
    let here = c.loop-reader in (
      c.pass-going.auto.slot ∙ here.invariant.0,
      word_on _ _ here.invariant.1 c.loop-reader-test.true _ c.past_in-passed.ensures,
      leads_next _ _ _ here.invariant.1 c.loop-reader-test.true _ c.past_in-passed.ensures _ _ _ _ here.invariant.2 _ _ _
          c.pass-going.ensures,
    )

pub shape_of-slot : goal.shape_of-slot
shape_of-slot c =
    c.emit.auto.slot ∙ c.loop-reader.invariant.0 ∙ c.begin-made.auto.slot

pub returns : goal.returns
unfolding pulse_engine
returns c =
    let here = c.loop-reader in
    let state = state_of _ here.due.0 here.made here.slot in
    let last =
    leads_home _ _ _ state _ here.invariant.2 (none_left _ _ here.invariant.1 c.loop-reader-test.false)
    ∙ ap (through _ _) (first_is _ _ _ _ c.begin-made.ensures) in
    put_in state.pulse.built _ _ _ _ c.emit.ensures ∙ ap finish last
