-- `texts::put_number` meets its contract.
use Rattle.texts.proofs.Digits.{put_digits}
use Rattle.texts.proofs.put_number.Goals as goal

pub returns : goal.returns
returns c =
    let a = c.args in
    let d = c.last_digits-from in
    let e = d.ensures in
    put_digits a.n d.new.text d.result a.out.now a.at _ e.0 e.1 e.2 c.put.ensures
