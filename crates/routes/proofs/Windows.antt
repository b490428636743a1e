-- A part of the words, and the words before it: as the borrow checker has what was lent. Assumes nothing.
use Rattle.std.proofs.Common.{◌≡◌, ℕ, ◌+◌, ◌-◌, ◌≤◌, List, ◌++◌, length, take, drop, sym, ap, ◌∙◌, arith, length-drop, take-append-drop, length-take-le, take-take, drop-drop}
use lib.Seq.{slice, take-append-le, drop-append-le}
use Rattle.edges.specs.Raw.{mid}
use Rattle.edges.proofs.Listing.{between}

pub mid_long : (a k : ℕ) (l : List ℕ) → a + k ≤ length l → length (mid a k l) ≡ k
mid_long a k l h = length-take-le k (drop a l) (rw length-drop (omega arith))

-- a part of the first a words
pub mid_before : (a : ℕ) (l : List ℕ) → a ≤ length l → (b j : ℕ) → b + j ≤ a → mid b j (take a l) ≡ mid b j l
mid_before a l h b j q = sym front ∙ ap (mid b j) (take-append-drop a l)
  where
    front_long : length (take a l) ≡ a
    front_long = length-take-le a l h

    front : mid b j (take a l ++ drop a l) ≡ mid b j (take a l)
    front = rw (drop-append-le b (take a l) (drop a l) (rw front_long (omega arith)))
        (take-append-le j (drop b (take a l)) (drop a l) (rw (length-drop, front_long) (omega arith)))

pub part_is : (a k f t : ℕ) (l : List ℕ) → f ≤ t → t ≤ k → take (a + t - (a + f)) (drop (a + f) l) ≡ slice f t (mid a k l)
part_is a k f t l h i =
    let e : a + t - (a + f) ≡ t - f = omega arith in
    rw (e, ← drop-drop f a l, take-take t k (drop a l) i) (between f t (drop a l) h)
