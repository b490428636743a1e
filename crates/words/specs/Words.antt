-- What the functions of `words` do to a list of words. Assumes nothing.
use Rattle.std.specs.Prelude.{ℕ, zero, suc, ◌≡◌, ◌<◌, ◌+◌, ◌-◌, ◌%◌, ◌^◌, min, cond, List, [], ◌∷◌, ◌++◌, Option, Some, None, get_or, set, eqb, take, drop}
use Rattle.std.specs.List.{AllZip}

-- x at place k, what stood from there on one place up; the list is as long as it was, so its last element falls off
unfoldable pub insert_at : {X : Type 0} → ℕ → X → List X → List X
insert_at k x [] = []
insert_at zero x (y ∷ l) = x ∷ insert_at zero y l
insert_at (suc k) x (y ∷ l) = y ∷ insert_at k x l

-- place k taken out, what stood after it one place down, and 0 at the end
unfoldable pub remove_at : ℕ → List ℕ → List ℕ
remove_at k [] = []
remove_at zero (y ∷ l) = l ++ (0 ∷ [])
remove_at (suc k) (y ∷ l) = y ∷ remove_at k l

-- the word at t - 1 put at p, and place t - 1 taken out
unfoldable pub swap_remove : ℕ → ℕ → List ℕ → List ℕ
swap_remove p t l = remove_at (t - 1) (set l p (get_or l (t - 1) 0))

-- f at each place from k on
unfoldable pub map_from : (ℕ → ℕ) → ℕ → List ℕ → List ℕ
map_from f k [] = []
map_from f zero (y ∷ l) = f y ∷ map_from f zero l
map_from f (suc k) (y ∷ l) = y ∷ map_from f k l

-- of each word the function f, which a call of it describes by `post`, gives what g does
abbrev pub Gives : {F : Type 0} → (F → ℕ → ℕ → Type 0) → F → (ℕ → ℕ) → Type 0
Gives post f g = (x y : ℕ) → x < 65536 → post f x y → y ≡ g x

-- where `R x y` says that y may be the answer of a call for x: b is a before place k, and from there on answers for what stands in a
pub record Mapped (R : ℕ → ℕ → Type 0) (k : ℕ) (a b : List ℕ) : Type 0 where
  pub stays : take k b ≡ take k a
  pub answers : AllZip R (drop k a) (drop k b)

-- one more, up to the largest word
abbrev pub up : ℕ → ℕ
up x = min (x + 1) 65535

-- one less, down to 0
abbrev pub down : ℕ → ℕ
down x = x - 1

-- by more, modulo 2^16
abbrev pub added : ℕ → ℕ → ℕ
added by x = (x + by) % 2 ^ 16

-- the first place of x in a list whose first element has place `at`
unfoldable pub find_from : ℕ → ℕ → List ℕ → Option ℕ
find_from x at [] = None
find_from x at (y ∷ l) = cond (eqb x y) (Some at) (find_from x (suc at) l)
