use Rattle.routes.proofs.Waits.{retracting}
use Rattle.routes.proofs.wait.retract.Goals as goal

pub returns-then-k-gt-OWNERS-clause-waits : goal.returns-then-k-gt-OWNERS-clause-waits
returns-then-k-gt-OWNERS-clause-waits c = search retracting

pub returns-then-contains-clause-waits : goal.returns-then-contains-clause-waits
returns-then-contains-clause-waits c = search retracting

pub returns-then-k-eq-OWNERS-clause-waits : goal.returns-then-k-eq-OWNERS-clause-waits
returns-then-k-eq-OWNERS-clause-waits c = search retracting

pub returns-clause-waits : goal.returns-clause-waits
returns-clause-waits c = search retracting
