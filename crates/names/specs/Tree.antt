-- Names in digital search trees. A node is a number from 1 on. `key` has each node's name. `link` has nodes, 0 for none: first a root for each of `heads`
-- numbers that names are spread over, then two branches for each node. A search follows a name's bits, which are mixed before.
use Rattle.std.specs.Prelude.{◌≡◌, List, Bool, true, cond, ◌&&◌, ◌||◌, ℕ, zero, suc, ◌+◌, ◌*◌, ◌/◌, ◌%◌, ◌<◌, ◌≤◌, length, get_or, eqb, ltb}
use Rattle.block_type.specs.Limits.{argument_range, handle_range}
use Rattle.names.specs.Mix.{mixed, head_of}

-- a bit decides between two branches
abbrev pub branches : ℕ
branches = 2

-- a name has 4 bytes
abbrev pub name_bits : ℕ
name_bits = 32

-- nodes are below: a node's number has 2 bytes, as a handle has
abbrev pub node_range : ℕ
node_range = handle_range

-- how many roots the trees of a round have, and how many nodes, with node 0, which is none
abbrev pub many_heads : ℕ
many_heads = 1024

abbrev pub many_keys : ℕ
many_keys = 513

-- the bits of m in the order in which a search goes by them: the lowest of m is the highest
unfoldable pub turned : ℕ → ℕ
turned m = m / branches + m % branches * (argument_range / branches)

-- the node at a place of `link`, and its name
abbrev pub node_at : List ℕ → ℕ → ℕ
node_at link p = get_or link p 0

abbrev pub key_at : List ℕ → List ℕ → ℕ → ℕ
key_at link key p = get_or key (node_at link p) 0

-- i is a node, and x its name
abbrev pub is_at : List ℕ → ℕ → ℕ → Bool
is_at key i x = ltb 0 i && eqb (get_or key i 0) x

-- where a search for x goes on that has met the node i at the place p: at the branch that the lowest bit says
abbrev pub below_of : List ℕ → ℕ → ℕ → ℕ → ℕ → ℕ → ℕ
below_of key heads x bits p i = cond (eqb i 0 || eqb (get_or key i 0) x) p (heads + i * branches + bits % branches)

-- where a search for x ends that has come to the place p, after n branches at most; y are the bits that are left
unfoldable pub ends : List ℕ → List ℕ → ℕ → ℕ → ℕ → ℕ → ℕ → ℕ
ends link key heads x zero p y = p
ends link key heads x (suc n) p y =
    cond (eqb (node_at link p) 0 || eqb (key_at link key p) x) p
    (ends link key heads x n (heads + node_at link p * branches + y % branches) (y / branches))

unfoldable pub end_of : List ℕ → List ℕ → ℕ → ℕ → ℕ
end_of link key heads x = ends link key heads x name_bits (head_of heads (mixed x)) (turned (mixed x))

-- whether a search for x finds it
unfoldable pub has : List ℕ → List ℕ → ℕ → ℕ → Bool
has link key heads x = is_at key (node_at link (end_of link key heads x)) x

-- every place has a node that there is
pub record Links (link key : List ℕ) (heads : ℕ) : Type 0 where
  pub some : 0 < heads
  pub few : heads ≤ node_range
  pub two : 1 < length key
  pub short : length key ≤ node_range
  pub sizes : length link ≡ heads + length key * branches
  pub within : (p : ℕ) → get_or link p 0 < length key

-- the nodes below `node` are in use, and a search for the name of each finds it
pub record Tree (link key : List ℕ) (heads node : ℕ) : Type 0 where
  pub links : Links link key heads
  pub used : 0 < node
  pub room : node ≤ length key
  pub below : (p : ℕ) → get_or link p 0 < node
  pub found : (i : ℕ) → 0 < i → i < node → has link key heads (get_or key i 0) ≡ true
