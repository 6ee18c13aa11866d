-- `uptime_page::horizon` meets its contract.
use Rattle.std.proofs.Common.{◌≡◌, ◌∙◌, ap, rules}
use Rattle.uptime_page.proofs.HorizonRead.{ticks_in, read_as}
use Rattle.uptime_page.proofs.horizon.Goals as goal

pub returns : goal.returns
returns c =
    let read : c.map_or.result ≡ ticks_in c.read_length.result = search rules in
    read ∙ ap ticks_in c.read_length.ensures ∙ read_as c.args.text.now
