use Rattle.probes.proofs.Nexts.{ending_goes, looking_end, looking_goes, looking_in, looking_next, looking_on, looking_seeable}
use Rattle.probes.proofs.heads.HeadsIterator.next.Goals as goal

pub is_on-requires : goal.is_on-requires
is_on-requires c = looking_seeable c.loop-place.invariant c.loop-place-test.true

pub bounds-self-place : goal.bounds-self-place
bounds-self-place c = looking_in c.loop-place.invariant c.loop-place-test.true

pub returns-then-is_on-clause-steps : goal.returns-then-is_on-clause-steps
returns-then-is_on-clause-steps c = looking_on c.loop-place.invariant c.loop-place-test.true c.is_on.ensures c.if-is_on.true

pub returns-then-is_on-clause-goes : goal.returns-then-is_on-clause-goes
returns-then-is_on-clause-goes c = looking_goes c.loop-place.invariant c.loop-place-test.true c.is_on.ensures c.if-is_on.true

pub loop-place-preserved : goal.loop-place-preserved
loop-place-preserved c = looking_next c.loop-place.invariant c.loop-place-test.true c.is_on.ensures c.if-is_on.false

pub returns-clause-steps : goal.returns-clause-steps
returns-clause-steps c = looking_end c.loop-place.invariant c.loop-place-test.false c.next.result c.next.new.self c.next.ensures.steps

pub returns-clause-goes : goal.returns-clause-goes
returns-clause-goes c = ending_goes c.loop-place.invariant c.loop-place-test.false c.next.result c.next.new.self c.next.ensures.steps c.next.ensures.goes
