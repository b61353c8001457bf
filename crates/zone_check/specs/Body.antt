-- What the walk over the blocks, and the test of blocks, masters and names, promise to the check above them.
use Rattle.std.specs.Prelude.{◌≡◌, List, [], Bool, true, false, cond, ℕ, Option, ◌+◌, ◌%◌, ◌<◌, ◌≤◌, length, drop}
use Rattle.std.specs.Option.{option_or}
use Rattle.block_type.specs.Limits.{longest_zone}
use Rattle.format.specs.OneWalk.{blocks_ok}
use Rattle.format.specs.Occurs.{occurs}
use Rattle.format.specs.WellFormed.{is_page, relocs, distinct, split_blocks}
use Rattle.names.specs.Pages.{names_at}
use Rattle.names.specs.Seen.{met}
use Rattle.zone_check.specs.Sought.{unless_zero, page_from}

-- the walk has come to `at`: what is left, behind a block that is free or not (prev), decides whether all blocks obey the rules, and with count it makes up the relocatable ones
pub record Walked (z : List ℕ) (first at : ℕ) (prev : Bool) (count : ℕ) : Type 0 where
  pub begins : first ≤ length z
  pub begins_four : first % 4 ≡ 0
  pub whole : length z % 4 ≡ 0
  pub limit : length z ≤ longest_zone
  pub past : 0 < at
  pub within : at ≤ length z
  pub four : at % 4 ≡ 0
  pub few : count ≤ at
  pub is_ok : blocks_ok z first prev at (split_blocks (drop at z)) ≡ blocks_ok z first false first (split_blocks (drop first z))
  pub is_count : count + relocs (split_blocks (drop at z)) ≡ relocs (split_blocks (drop first z))

-- where `certain` holds, a name stands before `at` at most once, and then the table has it; and it holds where there are no names
pub record Seen (z table : List ℕ) (first at : ℕ) (certain : Bool) : Type 0 where
  pub once : certain ≡ true → (x : ℕ) → occurs x (names_at z first) ≤ occurs x (names_at z at) + cond (met table x) 1 0
  pub left : (x : ℕ) → occurs x (names_at z at) ≤ occurs x (names_at z first)
  pub none : names_at z first ≡ [] → certain ≡ true

-- page is where the first page of that name before `at` starts, if there is one
pub record Found (name : ℕ) (z : List ℕ) (first at : ℕ) (page : Option ℕ) : Type 0 where
  pub page_is : option_or page (unless_zero (page_from name z at)) ≡ unless_zero (page_from name z first)

-- the walk has met no page yet, and the table has no name
pub record Unseen (z table : List ℕ) (first at : ℕ) (certain : Bool) : Type 0 where
  pub same : names_at z at ≡ names_at z first
  pub empty : (x : ℕ) → met table x ≡ false
  pub sure : certain ≡ true

-- a block breaks a rule
abbrev pub IsBad : List ℕ → ℕ → Type 0
IsBad z first = blocks_ok z first false first (split_blocks (drop first z)) ≡ false

-- what a walk answers, with a table for names or without: it has come to the end, or stands before the first page, if there is no table
-- `certain` may be false though names are distinct (not where there are none, and the walk is at the end): the exact test decides then
pub record Gone (name : ℕ) (z : List ℕ) (first : ℕ) (table : Bool) (at : ℕ) (prev : Bool) (count : ℕ) (certain : Bool) (page : Option ℕ) : Type 0 where
  pub good : Walked z first at prev count
  pub stops : at < length z → (table ≡ false) × (names_at z at ≡ names_at z first) × (certain ≡ true)
  pub page_next : at < length z → is_page (drop at z) ≡ true
  pub is_distinct : length z ≤ at → certain ≡ true → distinct (names_at z first) ≡ true
  pub none : length z ≤ at → names_at z first ≡ [] → certain ≡ true
  pub finds : Found name z first at page

-- what the walk over all blocks answers, where they obey the rules: how many are relocatable, and where the page of that name starts; and where it is certain of it, that names are distinct
pub record Blocks (name : ℕ) (z : List ℕ) (first count : ℕ) (certain : Bool) (page : Option ℕ) : Type 0 where
  pub is_ok : blocks_ok z first false first (split_blocks (drop first z)) ≡ true
  pub is_count : count ≡ relocs (split_blocks (drop first z))
  pub page_is : page ≡ unless_zero (page_from name z first)
  pub is_distinct : certain ≡ true → distinct (names_at z first) ≡ true
  pub none : names_at z first ≡ [] → certain ≡ true
