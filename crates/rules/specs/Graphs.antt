-- What a line_up is, a cycle, a path with its duration sum, "lowest in dictionary order" and "shortest".
-- A graph is jobs 0 to n - 1 and a test `E u v`: an edge leads from u to v.
use Rattle.std.specs.Prelude.{ℕ, suc, ◌+◌, ◌≤◌, ◌<◌, ◌≡◌, Bool, true, List, [], ◌∷◌, length, get_or}

abbrev pub Graph : Type 0
Graph = ℕ → ℕ → Bool

-- dictionary order: `Lex l m` says that l does not come after m
pub data Lex : List ℕ → List ℕ → Type 0 where
  lex_nil : {l : List ℕ} → Lex [] l
  lex_lt : {v w : ℕ} {l m : List ℕ} → v < w → Lex (v ∷ l) (w ∷ m)
  lex_eq : {v w : ℕ} {l m : List ℕ} → v ≡ w → Lex l m → Lex (v ∷ l) (w ∷ m)

-- "line_up of all jobs": every job stands in the list, each once, and every edge leads forward
pub record LineUp (n : ℕ) (E : Graph) (l : List ℕ) : Type 0 where
  pub within : (i : ℕ) → i < length l → get_or l i 0 < n
  pub all : (v : ℕ) → v < n → (i : ℕ) × (i < length l) × (get_or l i 0 ≡ v)
  pub once : (i j : ℕ) → i < length l → j < length l → get_or l i 0 ≡ get_or l j 0 → i ≡ j
  pub forward : (i j : ℕ) → i < length l → j < length l → E (get_or l i 0) (get_or l j 0) ≡ true → i < j

-- "of all that lead every edge forward, the one lowest in dictionary order"
pub record LowestLineUp (n : ℕ) (E : Graph) (l : List ℕ) : Type 0 where
  pub is : LineUp n E l
  pub lowest : (m : List ℕ) → LineUp n E m → Lex l m

module _ (n : ℕ) (E : Graph) where
  -- l lists the jobs of a walk along edges from u to v, v itself not counted
  pub data Trail : ℕ → List ℕ → ℕ → Type 0 where
    end : {u v : ℕ} → u ≡ v → Trail u [] v
    go : {u w v : ℕ} {l : List ℕ} → w < n → E u w ≡ true → Trail w l v → Trail u (u ∷ l) v

  -- l lists a cycle, from v back to v. "A self edge is a cycle."
  pub record Cycle (v : ℕ) (l : List ℕ) : Type 0 where
    pub inside : v < n
    pub some : 0 < length l
    pub closed : Trail v l v

  -- "from the lowest job that lies on a cycle, a shortest cycle through it, of those the lowest in dictionary order"
  pub record LowestCycle (l : List ℕ) : Type 0 where
    pub job : ℕ
    pub is : Cycle job l
    pub lowest_job : (w : ℕ) (m : List ℕ) → Cycle w m → job ≤ w
    pub shortest : (m : List ℕ) → Cycle job m → length l ≤ length m
    pub lowest : (m : List ℕ) → Cycle job m → length m ≡ length l → Lex l m

  -- a path of k edges leads to v: the floor of its first job and the durations along it, v's not counted, sum to x
  -- (document 01 has no floors: they are all 0)
  pub data Leads (floor d : ℕ → ℕ) : ℕ → ℕ → ℕ → Type 0 where
    here : {v : ℕ} → Leads floor d 0 v (floor v)
    along : {k u v x : ℕ} → u < n → E u v ≡ true → Leads floor d k u x → Leads floor d (suc k) v (x + d u)

  -- "the greatest duration sum along a path .. that leads to it"
  pub record GreatestSum (floor d : ℕ → ℕ) (v s : ℕ) : Type 0 where
    pub reached : (k : ℕ) × Leads floor d k v s
    pub greatest : (k x : ℕ) → Leads floor d k v x → x ≤ s
