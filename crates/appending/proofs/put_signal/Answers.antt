-- `appending::put_signal` meets its contract.
use Rattle.format.proofs.Filling.{signal_put}
use Rattle.appending.proofs.put_signal.Goals as goal

pub returns : goal.returns
returns c =
    let args = c.args in
    let pre = c.requires in
    let put-name = c.put_name in
    let put16 = c.put16 in
    let put-words = c.put_words in
    signal_put args.out.now put-name.new.out put16.new.out put-words.new.out args.at args.name.now args.list.now
    pre.1 pre.0 put-name.ensures put16.ensures put-words.ensures
