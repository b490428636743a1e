use Rattle.lines.proofs.Showing.{shows_no, shows_score}
use Rattle.lines.proofs.shows.show.Goals as goal

-- `show`: a refusal alone, or the verdict behind the score. Assumes nothing.

pub returns-in-Err : goal.returns-in-Err
returns-in-Err c = shows_no c.requires c.no.ensures c.in-Err.ensures

pub returns-in-Ok : goal.returns-in-Ok
returns-in-Ok c = shows_score c.requires c.judged.ensures c.score-p.ensures c.in-Ok.ensures
