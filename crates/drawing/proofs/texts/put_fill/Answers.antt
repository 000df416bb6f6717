use Rattle.drawing.proofs.texts.put_fill.Goals as goal

pub returns-in-Ground : goal.returns-in-Ground
returns-in-Ground c = rw c.in-Ground.is c.put_text.ensures

pub returns-in-Used : goal.returns-in-Used
returns-in-Used c = rw c.in-Used.is c.put_text-in-Used.ensures

pub returns-in-Free : goal.returns-in-Free
returns-in-Free c = rw c.in-Free.is c.put_text-in-Free.ensures
