use Rattle.edges.proofs.Turns.{head_in, next_fits, place_in, scattered, spread_more, spreading, tail_in}
use Rattle.edges.proofs.fixed.scatter.Goals as goal

pub loop-i-init : goal.loop-i-init
loop-i-init c = search spreading

pub bounds-e-i : goal.bounds-e-i
bounds-e-i c = search head_in

pub bounds-next-v : goal.bounds-next-v
bounds-next-v c = search place_in

pub bounds-e-p : goal.bounds-e-p
bounds-e-p c = search tail_in

pub bounds-next-v-in-loop-i : goal.bounds-next-v-in-loop-i
bounds-next-v-in-loop-i c = search place_in

pub overflow_add-next : goal.overflow_add-next
overflow_add-next c = search next_fits

pub bounds-next-v-in-loop-i-2 : goal.bounds-next-v-in-loop-i-2
bounds-next-v-in-loop-i-2 c = search place_in

pub loop-i-preserved : goal.loop-i-preserved
loop-i-preserved c = search spread_more

pub returns : goal.returns
returns c = search scattered
