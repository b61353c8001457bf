-- Document 02, U3, in its own terms: when masters are added, what an accepted allocation leaves that found the chain empty, and that no other call
-- adds masters.
use Rattle.std.specs.Prelude.{◌≡◌, true, cond, ◌&&◌, List, [], ◌∷◌, ℕ, suc, ◌+◌, ◌-◌, max, leb}
use Rattle.bigendian.specs.BigEndian.{Bytes}
use Rattle.block_type.specs.Limits.{reloc_limit, reloc_need, first_block, master_size, most_masters, added_masters, added_bytes}
use Rattle.format.specs.WellFormed.{length_field, first_field, masters_field, chain_field, chain, offsets, zone_of, well_formed}
use Rattle.calls.specs.Calls.{Target, Call, allocate_relocatable, size, read, Answer, beside, Given}
use Rattle.zone.specs.Call.{number_of, call}
use Rattle.zone.specs.Promise.{Promise}
use Rattle.zone.specs.Claim.{History, fixed_in, free_in}

-- ---- when: by the free bytes that a walk meets, bay by bay

-- the first bay's
abbrev pub first_of : List ℕ → ℕ
first_of [] = 0
first_of (n ∷ ns) = n

abbrev pub largest_of : List ℕ → ℕ
largest_of [] = 0
largest_of (n ∷ ns) = max n (largest_of ns)

-- after the first bay has given up the bytes of eight masters
abbrev pub sums_after : List ℕ → List ℕ
sums_after [] = []
sums_after (n ∷ ns) = (n - added_bytes) ∷ ns

-- the refusal of an allocation of c bytes that finds the chain empty, 0 for none: 3, 4, 5
abbrev pub number_with : ℕ → List ℕ → ℕ
number_with c bs =
    cond (leb c reloc_limit)
    (cond (leb (masters_field bs + added_masters) most_masters && leb added_bytes (first_of (free_in bs)))
    (cond (leb (reloc_need c) (largest_of (sums_after (free_in bs)))) 0 5)
    4)
    3

-- ---- what is left

-- at most n calls of a list, with these answers, are relocatable allocations that were accepted
pub data AtMost : ℕ → List Call → List Answer → Type 0 where
  no_call : {n : ℕ} → AtMost n [] []
  any_call : {n : ℕ} {c : Call} {cs : List Call} {a : Answer} {u : List Answer} → AtMost n cs u → AtMost (suc n) (c ∷ cs) (a ∷ u)
  other_call : {n : ℕ} {c : Call} {cs : List Call} {a : Answer} {u : List Answer} → ((k : ℕ) → c ≡ allocate_relocatable k → a.number ≡ 0 → ⊥) → AtMost n cs u → AtMost n (c ∷ cs) (a ∷ u)

-- from the buffer bs to `after`, with the new handle h
pub record Grew (bs after : List ℕ) (h : ℕ) : Type 0 where
  -- 16 + 4m of the old m
  pub handle : h ≡ first_block (masters_field bs)
  -- "eight masters are added": m and bkFst rise, L stays
  pub masters : masters_field after ≡ masters_field bs + added_masters
  pub first : first_field after ≡ first_field bs + added_bytes
  pub long : length_field after ≡ length_field bs
  -- "The new masters are chained ascending": the chain is those behind the new handle
  pub chained : chain (zone_of after) (added_masters - 1) (chain_field after) ≡ offsets (h + master_size) (added_masters - 1)
  -- every block that was there holds what it held, by handle, by pointer or by name: each read of it answers as before
  pub kept : (t : Target) (i n : ℕ) (second : List ℕ) → number_of (size t) bs ≡ 0 → (call (read t i n second) after).answer ≡ (call (read t i n second) bs).answer
  -- no fixed block has moved
  pub still : fixed_in after ≡ fixed_in bs
  -- no masters are added by a list of calls in which up to seven more relocatable allocations are accepted
  pub seven : (cs : List Call) (u : List Answer) (end : List ℕ) → History after cs u end → AtMost (added_masters - 1) cs u → masters_field end ≡ masters_field after

pub record GrowthSays : Type 0 where
  -- whether masters are added, and else which refusal comes, where the chain is empty (0 is no master's offset)
  pub number : (c : ℕ) (bs after : List ℕ) (a : Answer) → Bytes bs → Promise (allocate_relocatable c) bs a after → well_formed bs ≡ true → chain_field bs ≡ 0
      → a.number ≡ number_with c bs
  pub grew : (c : ℕ) (bs after : List ℕ) (a : Answer) → Bytes bs → Promise (allocate_relocatable c) bs a after → a.number ≡ 0 → chain_field bs ≡ 0
      → Grew bs after a.value
  -- any other call leaves their number: one that is no relocatable allocation, or finds a free master, or is refused
  pub stays : (c : Call) (bs after : List ℕ) (a : Answer) → Bytes bs → Given (beside c) → Promise c bs a after
      → ((k : ℕ) → c ≡ allocate_relocatable k → chain_field bs ≡ 0 → a.number ≡ 0 → ⊥) → masters_field after ≡ masters_field bs
