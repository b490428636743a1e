use Rattle.lines.proofs.Calling.{put_no, put_ok}
use Rattle.lines.proofs.calls.put.Goals as goal

-- `put`: what the library answers to the numbers, each as it takes it, is printed. Assumes nothing.

pub returns-in-Err : goal.returns-in-Err
returns-in-Err c =
    put_no c.args.numbers.now c.narrow_all.new.list c.put.result c.args.out.now c.no.result c.no.new.out c.put.ensures c.fitted_at.ensures
    c.narrow_all.ensures c.requires c.no.ensures c.in-Err.is

pub returns-in-Ok : goal.returns-in-Ok
returns-in-Ok c =
    put_ok c.args.numbers.now c.narrow_all.new.list c.put.result c.args.out.now c.ok.result c.ok.new.out c.put.ensures c.fitted_at.ensures
    c.narrow_all.ensures c.requires c.ok.ensures c.in-Ok.is
