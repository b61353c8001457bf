-- What the functions over trees of names promise to the loops above them.
use Rattle.std.specs.Prelude.{◌≡◌, List, Bool, true, false, cond, ℕ, ◌+◌, ◌<◌, ◌≤◌, length, set, drop}
use Rattle.format.specs.WellFormed.{is_page, name_of, distinct}
use Rattle.format.specs.Occurs.{occurs, one}
use Rattle.names.specs.Pages.{Pages, names_at}
use Rattle.names.specs.Tree.{many_heads, node_at, end_of, has}
use Rattle.names.specs.declared.trees.Trees.{Trees}

-- whether x is among the names in the trees, and how often, 0 or 1 times
abbrev pub has_name : Trees → ℕ → Bool
has_name t x = has t.links t.keys many_heads x

abbrev pub held : Trees → ℕ → ℕ
held t x = cond (has_name t x) 1 0

-- where a search for x ends
abbrev pub place_of : Trees → ℕ → ℕ
place_of t x = end_of t.links t.keys many_heads x

-- x was put into the trees, as the node that was free; or nothing has changed, and where a search for x ends there is a node, or none is free
pub record Put (before after : Trees) (x : ℕ) (done : Bool) : Type 0 where
  pub is_free : done ≡ true → after.free ≡ before.free + 1
  pub is_links : done ≡ true → after.links ≡ set before.links (place_of before x) before.free
  pub is_keys : done ≡ true → after.keys ≡ set before.keys before.free x
  pub more : done ≡ true → (y : ℕ) → held after y ≡ held before y + one y x
  pub same : done ≡ false → after ≡ before
  pub why : done ≡ false → node_at before.links (place_of before x) ≡ 0 → before.free ≡ length before.keys

-- the same of the name of the block at `at`; nothing is put where it is no page
pub record Taken (z : List ℕ) (before after : Trees) (at : ℕ) (done : Bool) : Type 0 where
  pub is_free : done ≡ true → after.free ≡ before.free + cond (is_page (drop at z)) 1 0
  pub is_links : done ≡ true → after.links ≡ cond (is_page (drop at z)) (set before.links (place_of before (name_of (drop at z))) before.free) before.links
  pub is_keys : done ≡ true → after.keys ≡ cond (is_page (drop at z)) (set before.keys before.free (name_of (drop at z))) before.keys
  pub more : done ≡ true → (y : ℕ) → held after y ≡ held before y + cond (is_page (drop at z)) (one y (name_of (drop at z))) 0
  pub same : done ≡ false → after ≡ before
  pub page : done ≡ false → is_page (drop at z) ≡ true
  pub why : done ≡ false → node_at before.links (place_of before (name_of (drop at z))) ≡ 0 → before.free ≡ length before.keys

-- the names from `from` up to `at` are in the trees, each once
pub record Holding (z : List ℕ) (t : Trees) (from at : ℕ) : Type 0 where
  pub past : from ≤ at
  pub far : 1 < t.free → from < at
  pub counts : (x : ℕ) → held t x + occurs x (names_at z at) ≡ occurs x (names_at z from)

-- the same, up to a name that was not put. That a round goes as far as the trees can take names is measured, and not promised
pub record Filled (z : List ℕ) (t : Trees) (from at : ℕ) : Type 0 where
  pub next : Pages z at
  pub past : from ≤ at
  pub far : at < length z → from < at
  pub counts : (x : ℕ) → held t x + occurs x (names_at z at) ≡ occurs x (names_at z from)

-- the names from `from` on are distinct where those from `next` on are. That a round goes far is not promised, as in `Filled`
pub record Round (z : List ℕ) (from next : ℕ) : Type 0 where
  pub pages : Pages z next
  pub far : from < next
  pub rest : distinct (names_at z from) ≡ distinct (names_at z next)
