-- `begun`: what `loaded` wrote goes out. Assumes nothing.
use Rattle.std.proofs.Common.{OnOk, subst, arith}
use Rattle.std.specs.Io.KnownBytes.{Appends}
use Rattle.notekarip.proofs.Writing.{gone_out}
use Rattle.notekarip.proofs.begun.Goals as goal

pub returns : goal.returns
returns g c =
    let few = c.loaded-n.ensures.few in
    subst (λ text. OnOk c.write_all.result (Appends (g.W.Write.contents c.args.output.now) (g.W.Write.contents c.write_all.new.self) text))
    (gone_out (omega arith) c.loaded-n.ensures.wrote) c.write_all.ensures.bytes
