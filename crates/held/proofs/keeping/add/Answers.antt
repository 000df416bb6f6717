use Rattle.held.proofs.Forms.{entry_in}
use Rattle.held.proofs.keeping.add.Goals as goal

pub returns : goal.returns
returns g c =
    rw c.copy_within.ensures.after
    (rw c.of.ensures at
    (entry_in g.T.Entry.entry g.T.Entry.entries g.met.T.Entry.each c.args.n c.args.i c.of.result c.args.list.now c.requires.0 c.requires.1))
