-- The words of a plan fill each slice up to its constant. Assumes nothing.
use native.Mathlib.Omega.{arith}
use mathlib.Core.Path.{◌≡◌}
use mathlib.Core.List.{◌++◌}
use lib.ListN.{length, length-append, length-map}
use Rattle.rules.specs.Lists.{Pair, table}
use Rattle.rules.specs.Sizes.{Base, expected_of, duration, most_jobs, most_fixed, base_length, spans_length, times_length}
use Rattle.rules.specs.Routes.{Plan}
use Rattle.rules.specs.Sound.{Loaded}
use Rattle.rules.proofs.Tabled.{table_length}
use Rattle.times.specs.Words.{span_words, time_words, start_of}
use Rattle.stores.specs.Words.{padded, froms, tos, base_words}
use Rattle.stores.proofs.Laying.{padded_length}

pub base_long : (b : Base) → Loaded b → length (base_words b) ≡ base_length
unfolding base_words
base_long b L =
    let f = padded_length most_fixed (froms b) 0 (let x = length-map b.fixed (λ (e : Pair). e.0) in let y = L.fixed in omega arith) in
    let t = padded_length most_fixed (tos b) 0 (let x = length-map b.fixed (λ (e : Pair). e.1) in let y = L.fixed in omega arith) in
    let e = table_length most_jobs (expected_of b) in
    let x = length-append (padded most_fixed (froms b)) (padded most_fixed (tos b) ++ table most_jobs (expected_of b)) in
    let y = length-append (padded most_fixed (tos b)) (table most_jobs (expected_of b)) in
    omega arith

pub spans_long : (b : Base) → length (span_words b) ≡ spans_length
unfolding span_words
spans_long b = table_length most_jobs (duration b)

pub times_long : (p : Plan) → length (time_words p) ≡ times_length
unfolding time_words
times_long p = let x = table_length most_jobs (start_of p) in omega arith
