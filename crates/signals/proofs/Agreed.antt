-- All operations that compute agree with their sentences.
use Rattle.signals.specs.Quantified.{Agreement}
use Rattle.signals.proofs.Agreement.{NOT_up, NOT_of, connective_up, connective_of, AND_up, AND_of, OR_up, OR_of}
use Rattle.signals.proofs.Agreement.{rising_up, rising_of, falling_up, falling_of, SR_up, SR_of, RS_up, RS_of}
use Rattle.signals.proofs.Agreement.{TON_up, TON_of, TOF_up, TOF_of}
use Rattle.signals.proofs.Pulses.{TP_up, TP_of}

pub agreement : Agreement
agreement =
    record {
      not = λ f t. (NOT_up f t, NOT_of f t);
      tables = λ table f g t. (connective_up table f g t, connective_of table f g t);
      and = λ f g t. (AND_up f g t, AND_of f g t);
      or = λ f g t. (OR_up f g t, OR_of f g t);
      rises = λ f t. (rising_up f t, rising_of f t);
      falls = λ f t. (falling_up f t, falling_of f t);
      sr = λ s r t. (SR_up s r t, SR_of s r t);
      rs = λ s r t. (RS_up s r t, RS_of s r t);
      ton = λ d f t. (TON_up d f t, TON_of d f t);
      tof = λ d f t. (TOF_up d f t, TOF_of d f t);
      tp = λ d f t. (TP_up d f t, TP_of d f t);
    }
