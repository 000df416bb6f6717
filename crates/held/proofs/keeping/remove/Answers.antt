use Rattle.held.proofs.Forms.{entry_out}
use Rattle.held.proofs.keeping.remove.Goals as goal

pub returns : goal.returns
returns g c =
    rw c.copy_within.ensures.after
    (entry_out g.T.Entry.entry g.T.Entry.entries g.met.T.Entry.each c.args.n c.args.i c.args.list.now c.requires.0 c.requires.1)
