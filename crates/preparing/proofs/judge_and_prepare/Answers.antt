-- `preparing::judge_and_prepare` meets its contract: the sheet's fault, or what preparing gives.
use Rattle.preparing.proofs.Reading.{judged, faulty}
use Rattle.preparing.proofs.judge_and_prepare.Goals as goal

pub returns-then-fault-eq0 : goal.returns-then-fault-eq0
returns-then-fault-eq0 c = judged _ _ _ _ _ _ c.sheet_fault-fault.ensures c.if-fault-eq0.true c.prepare.ensures

pub returns : goal.returns
returns c = faulty _ _ _ _ c.sheet_fault-fault.ensures c.if-fault-eq0.false
