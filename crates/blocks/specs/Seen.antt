-- What a scan reads, as the struct that travels through the functions has it. Assumes nothing.
use Rattle.blocks.specs.Arcs.{Sight, sight}
use Rattle.blocks.specs.declared.runs.Sight.{Sight as Lent}

abbrev pub seen : Lent → Sight
seen l = sight l.spans.now l.starts.now l.crit.now l.n
