use Rattle.std.proofs.Common.{rules, ◌≡◌, arith, length-append}
use Rattle.std.proofs.lemmas.Slice.Zip.{zip_end, zip_turn}
use Rattle.std.specs.Iterator.Adapters.{zip_first, zip_second}
use Rattle.std.specs.Slice.Iter.{iter_rest}
use Rattle.edges.proofs.Gathers.{begins, ends, joined, passed_by, ready}
use Rattle.edges.proofs.fixed.Draft.gather.Goals as goal

pub loop-u-init : goal.loop-u-init
loop-u-init c = ((tt, tt), tt, begins c.requires.1 c.requires.0)

pub join-requires : goal.join-requires
join-requires c =
    let f = c.args.from.now in
    let g = c.args.to.now in
    let first : iter_rest (zip_first c.into_iter-u-iterator.result) ≡ f = search rules in
    let second : iter_rest (zip_second c.into_iter-u-iterator.result) ≡ g = search rules in
    let turn =
    zip_turn f g c.loop-u.yielded c.into_iter-u-iterator.result c.loop-u.u-iterator c.next.new.self c.next.result first second
    c.loop-u.yielded_by (c.in-Some.u, c.in-Some.v) c.in-Some.is c.next.ensures.steps in
    ready c.requires.1 c.loop-u.invariant.2 turn.0 (turn.2 0) (turn.3 0) c.if-v-n.true

pub loop-u-preserved-then-v-n : goal.loop-u-preserved-then-v-n
loop-u-preserved-then-v-n c =
    let f = c.args.from.now in
    let g = c.args.to.now in
    let first : iter_rest (zip_first c.into_iter-u-iterator.result) ≡ f = search rules in
    let second : iter_rest (zip_second c.into_iter-u-iterator.result) ≡ g = search rules in
    let turn =
    zip_turn f g c.loop-u.yielded c.into_iter-u-iterator.result c.loop-u.u-iterator c.next.new.self c.next.result first second
    c.loop-u.yielded_by (c.in-Some.u, c.in-Some.v) c.in-Some.is c.next.ensures.steps in
    ((tt, tt), tt, joined c.requires.1 c.loop-u.invariant.2 turn.0 (turn.2 0) (turn.3 0) c.if-v-n.true c.join.ensures (length-append _ _))

pub loop-u-preserved : goal.loop-u-preserved
loop-u-preserved c =
    let f = c.args.from.now in
    let g = c.args.to.now in
    let first : iter_rest (zip_first c.into_iter-u-iterator.result) ≡ f = search rules in
    let second : iter_rest (zip_second c.into_iter-u-iterator.result) ≡ g = search rules in
    let turn =
    zip_turn f g c.loop-u.yielded c.into_iter-u-iterator.result c.loop-u.u-iterator c.next.new.self c.next.result first second
    c.loop-u.yielded_by (c.in-Some.u, c.in-Some.v) c.in-Some.is c.next.ensures.steps in
    ((tt, tt), tt, passed_by c.requires.1 c.loop-u.invariant.2 turn.0 (turn.2 0) (turn.3 0) c.if-v-n.false (length-append _ _))

pub returns : goal.returns
returns c =
    let f = c.args.from.now in
    let g = c.args.to.now in
    let first : iter_rest (zip_first c.into_iter-u-iterator.result) ≡ f = search rules in
    let second : iter_rest (zip_second c.into_iter-u-iterator.result) ≡ g = search rules in
    let all =
    zip_end f g c.loop-u.yielded c.into_iter-u-iterator.result c.loop-u.u-iterator c.next.new.self c.next.result first second
    c.loop-u.yielded_by c.in-None.is c.next.ensures.steps in
    let long = c.requires.1.to_long in
    ends c.requires.1 c.loop-u.invariant.2 (omega arith)
