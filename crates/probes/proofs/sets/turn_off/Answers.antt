use Rattle.probes.proofs.Turning.{off_fixed, off_goes, off_there}
use Rattle.probes.proofs.sets.turn_off.Goals as goal

pub returns-then-holds : goal.returns-then-holds
returns-then-holds c = off_there _ _ _ _ _ _ _ c.requires.2 _ c.holds.ensures c.if-holds.true

pub returns-then-is_fixed : goal.returns-then-is_fixed
returns-then-is_fixed c =
    off_fixed _ _ _ _ _ _ _ c.requires.2 _ c.holds.ensures c.if-holds.false _
    (λ r. rw (c.from.ensures, c.from-2.ensures) at (c.is_fixed.ensures r)) c.if-is_fixed.true

pub returns : goal.returns
returns c =
    off_goes _ _ _ _ _ _ _ c.requires.2 _ c.holds.ensures c.if-holds.false _
    (λ r. rw (c.from.ensures, c.from-2.ensures) at (c.is_fixed.ensures r)) c.if-is_fixed.false c.link.ensures
