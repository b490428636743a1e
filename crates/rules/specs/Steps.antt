-- Not of document 01: a put, stage by stage, as plans. Each waiting owner's route becomes empty, then the owner's own the new one.
use Rattle.std.specs.Prelude.{ℕ, [], set}
use Rattle.rules.specs.Routes.{Emptied, Plan, Route, Stage, staged}

-- owner o's route becomes r; who waits stays
unfoldable pub staging : Plan → ℕ → Route → Stage
staging p o r = staged p.base p.desk.routes p.desk.heads p.desk.tails o r

-- the plan after it
unfoldable pub turning : Plan → ℕ → Route → Plan
turning p o r = record {
  base = p.base;
  desk = record {
    routes = set p.desk.routes o r;
    waiting = p.desk.waiting;
    heads = (staging p o r).heads;
    tails = (staging p o r).tails;
  };
}

-- the plan once some waiting owners are emptied
abbrev pub amid : Plan → Emptied → Plan
amid p x = record {
  base = p.base;
  desk = record { routes = x.routes; waiting = p.desk.waiting; heads = x.heads; tails = x.tails };
}

-- before any is
abbrev pub begun : Plan → Emptied
begun p = record { routes = p.desk.routes; heads = p.desk.heads; tails = p.desk.tails; went = [] }

-- nobody waits any more
abbrev pub unwaited : Plan → Plan
unwaited p = record {
  base = p.base;
  desk = record { routes = p.desk.routes; waiting = []; heads = p.desk.heads; tails = p.desk.tails };
}
