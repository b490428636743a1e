-- What a read puts behind the bytes that stand in front. Assumes nothing.
use Rattle.std.proofs.Common.{ℕ, ◌+◌, ◌≤◌, ◌≡◌, List, ◌++◌, length, take, drop_at, length-take-le, le_refl}
use borrow.Rule.Slice.PartMut.{put_mid, post_of}
use lib.Seq.{take-add, take_at, take-append-le}
use Rattle.std.proofs.lemmas.Slice.{take-put_mid_below}
use Rattle.std.specs.declared.option.Option.{Option}
use Rattle.std.specs.Io.KnownBytes.{Consumes, Keeps}
use Rattle.std.proofs.KnownBytes.{Consumes-trans, Consumes-kept}

front_then : (a k n : ℕ) (xs ys : List ℕ) → a ≤ length xs → n ≤ length ys → take (a + n) (put_mid a k xs ys) ≡ take a xs ++ take n ys
front_then a k n xs ys h f =
    let e = length-take-le a xs h in
    rw (
      take-add a n (put_mid a k xs ys),
      take_at (take a xs) (ys ++ post_of a k xs) a e,
      drop_at (take a xs) (ys ++ post_of a k xs) a e,
      take-append-le n ys (post_of a k xs) f,
    )

-- n more bytes
pub read_more : (a b c : Option (List ℕ)) (at k n : ℕ) (xs ys : List ℕ) → at ≤ length xs → n ≤ length ys → Consumes a b (take at xs)
    → Consumes b c (take n ys) → Consumes a c (take (at + n) (put_mid at k xs ys))
read_more a b c at k n xs ys h f p q = rw (front_then at k n xs ys h f) (Consumes-trans a b c _ _ p q)

-- none
pub read_none : (a b c : Option (List ℕ)) (at k : ℕ) (xs ys : List ℕ) → at ≤ length xs → Consumes a b (take at xs) → Keeps b c
    → Consumes a c (take at (put_mid at k xs ys))
read_none a b c at k xs ys h p q = rw (take-put_mid_below at k xs ys at (le_refl at) h) (Consumes-kept a b c _ p q)
