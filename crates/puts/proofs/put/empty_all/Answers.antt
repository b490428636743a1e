use Rattle.puts.proofs.GivingUp.{all_bad, all_done}
use Rattle.puts.proofs.put.empty_all.Goals as goal

pub returns-in_err-h : goal.returns-in_err-h
returns-in_err-h c = all_bad _ c.waiting-row.ensures c.copy_from_slice.ensures.after c.empty_each.ensures _ c.in_err-h.was c.from_residual.ensures.0

pub returns : goal.returns
returns c = all_done _ c.waiting-row.ensures c.copy_from_slice.ensures.after c.empty_each.ensures c.in_ok-h.was c.clear.ensures
