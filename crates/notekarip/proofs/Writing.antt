-- What bytes that were written in front of a slice are. Assumes nothing.
use Rattle.std.proofs.Common.{ℕ, ◌≤◌, ◌≡◌, List, length, take, arith}
use Rattle.text.specs.Writes.{Wrote}
use Rattle.stores.proofs.Tabled.{taken_sets}

-- they go out
pub gone_out : {out out' bytes : List ℕ} {r : ℕ} → r ≤ length out → Wrote out 0 bytes r out' → take r out' ≡ bytes
gone_out {out} {bytes = bytes} {r = r} h w = rw w.is (taken_sets out bytes r (let e = w.end in omega arith) h)
