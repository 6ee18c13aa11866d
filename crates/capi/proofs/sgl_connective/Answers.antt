-- `capi::sgl_connective` packs the answer and leaves the output as the call does.
use Rattle.capi.proofs.Connected.{connected}
use Rattle.capi.proofs.sgl_connective.Goals as goal

pub returns : goal.returns
returns c =
    connected
    c.table_in.result
    _
    c.args.a.now
    c.args.b.now
    c.args.out.now
    _
    _
    _
    c.table_in.ensures
    c.pack_written.ensures
    c.connective.ensures
