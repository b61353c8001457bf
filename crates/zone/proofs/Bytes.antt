-- The bytes of a zone. The masters are derived: a live one from its block's place, a free one from the chain.
use mathlib.Core.Bool.{cond}
use mathlib.Core.Option.{Option, none, some, get_or}
use mathlib.Core.List.{List, [], ◌∷◌, ◌++◌}
use Prim.Native.Nat.{ℕ, zero, suc, ◌+◌, ◌-◌, ◌/◌, ◌%◌, ◌^◌, ◌*◌}
use lib.ListN.{replicate}
use lib.Dec.{eqb}
use Rattle.calls.specs.Bays.{Bays, last, more, or_else}
use Rattle.kinds.specs.Kinds.{Item, item_size, is, code_of, header_of, tag_of}
use Rattle.calls.specs.State.{Fixed, fsize, handles_from}
use Rattle.bay.specs.Bay.{Cell, free, held, bay_size}
use Rattle.block_type.specs.Limits.{first_block, type_unit, zone_header, fixed_code, free_header}
use Rattle.structure.specs.Structure.{fixed_tag}
use Rattle.zone.specs.Work.{Zone}

-- w bytes, high byte first
abbrev pub big : ℕ → ℕ → List ℕ
big zero n = []
big (suc w) n = (n / 256 ^ w) % 256 ∷ big w n

abbrev pub free_bytes : ℕ → List ℕ
free_bytes n = big 4 (n / 2) ++ replicate (n - free_header) 0

abbrev pub item_bytes : Item → List ℕ
item_bytes e = big 2 (code_of e * type_unit + item_size e / 2) ++ (tag_of e ++ e.bytes)

abbrev pub cell_bytes : List Cell → List ℕ
cell_bytes [] = []
cell_bytes (free n ∷ cs) = free_bytes n ++ cell_bytes cs
cell_bytes (held e ∷ cs) = item_bytes e ++ cell_bytes cs

-- a fixed block's header: fixed_header bytes
abbrev pub fixed_head : Fixed → List ℕ
fixed_head x = big 2 (fixed_code * type_unit + fsize x / 2) ++ fixed_tag

abbrev pub fixed_bytes : Fixed → List ℕ
fixed_bytes x = fixed_head x ++ x.bytes

abbrev pub block_bytes : Bays (List Cell) Fixed → List ℕ
block_bytes (last b) = cell_bytes b
block_bytes (more b x s) = cell_bytes b ++ (fixed_bytes x ++ block_bytes s)

-- where a handle's data start, in cells from the offset p
abbrev pub where_in : ℕ → ℕ → List Cell → Option ℕ
where_in h p [] = none
where_in h p (free n ∷ cs) = where_in h (p + n) cs
where_in h p (held e ∷ cs) = cond (is h e) (some (p + header_of e)) (where_in h (p + item_size e) cs)

abbrev pub where_s : ℕ → ℕ → Bays (List Cell) Fixed → Option ℕ
where_s h p (last b) = where_in h p b
where_s h p (more b x s) = or_else (where_in h p b) (where_s h (p + bay_size b + fsize x) s)

abbrev pub head_or0 : List ℕ → ℕ
head_or0 [] = 0
head_or0 (h ∷ hs) = h

-- the next of a handle in the chain, or 0
abbrev pub next_of : ℕ → List ℕ → ℕ
next_of h [] = 0
next_of h (k ∷ ks) = cond (eqb h k) (head_or0 ks) (next_of h ks)

abbrev pub master_of : ℕ → Zone → ℕ → ℕ
master_of m z h = get_or (where_s h (first_block m) z.bays) (next_of h z.chain)

abbrev pub master_bytes : ℕ → Zone → List ℕ → List ℕ
master_bytes m z [] = []
master_bytes m z (h ∷ hs) = big 4 (master_of m z h) ++ master_bytes m z hs

abbrev pub header_bytes : ℕ → Zone → List ℕ
header_bytes m z = big 4 z.len ++ (big 4 (first_block m) ++ (big 4 m ++ (big 2 (head_or0 z.chain) ++ z.clock ∷ 0 ∷ [])))

abbrev pub zone_bytes : ℕ → Zone → List ℕ
zone_bytes m z = header_bytes m z ++ (master_bytes m z (handles_from zone_header m) ++ block_bytes z.bays)
