-- The header of a handle's block says how many data bytes it has.
use mathlib.Core.Path.{◌≡◌, refl, sym, ap, ◌∙◌, ap₂}
use mathlib.Core.List.{List, [], ◌∷◌, ◌++◌}
use mathlib.Core.Bool.{Bool, true, false, cond}
use Prim.Native.Nat.{ℕ, ◌+◌, ◌-◌, ◌≤◌}
use native.Mathlib.Omega.{arith}
use lib.ListN.{length, drop}
use lib.Seq.{drop_at, drop-drop}
use Rattle.block_type.specs.Limits.{reloc_header, smallest_block}
use Rattle.format.specs.WellFormed.{size_of}
use Rattle.kinds.specs.Kinds.{header_of, is, item_size}
use Rattle.kinds.proofs.KindLaws.{facts, is-header}
use Rattle.calls.specs.Calls.{by_handle}
use Rattle.bay.specs.Bay.{free, held}
use Rattle.structure.specs.Structure.{Block, fixed, cell, size, sizes, Structure, start, place_of, decode_zone, encode_block, join}
use Rattle.structure.specs.IsZone.{IsZone}
use Rattle.structure.proofs.Append.{sizes-append}
use Rattle.structure.proofs.Round.{rest-is}
use Rattle.structure.proofs.Table.{Whole, encode-zone, len_is}
use Rattle.structure.proofs.IsZone.{whole_of}
use Rattle.structure.proofs.Sound.{valid-zone}
use Rattle.access.specs.row.Row.{Sound, bytes_of}
use Rattle.access.proofs.row.Laws.{front, bytes-append, bytes-long, sound-left, sound-right}
use Rattle.access.proofs.row.Zone.{valid-sound}
use Rattle.access.specs.Edit.{data_of, place_in, data_in}
use Rattle.access.proofs.Named.{among-fits}
use Rattle.access.proofs.Among.{handle-place, handle-data, Mine, mine}

-- the size that the header has, less the header
module _ (z : List ℕ) (i : IsZone z) (h at : ℕ) (e : at ≡ place_in z h) (p : at ≡ 0 → ⊥) where
  w : Whole z
  w = whole_of z i

  abbrev st : Structure
  st = decode_zone z

  m : Mine h (start st) st.blocks
  unfolding place_in
  m = mine h (start st) st.blocks (λ q. p (e ∙ q))

  sound : Sound (m.before ++ (cell (held m.mine) ∷ m.after))
  sound = rw m.parts at (valid-sound st (valid-zone z w))

  header_is : header_of m.mine ≡ reloc_header
  header_is = is-header h m.mine m.its

  -- the zone from the block on
  from : drop (at - reloc_header) z ≡ encode_block (cell (held m.mine)) ++ bytes_of m.after
  unfolding place_in join
  from =
      let b = bytes_of m.before in
      let x : at - reloc_header ≡ start st + sizes m.before = omega (arith, m.place, header_is) in
      let n = bytes-long m.before (sound-left m.before (cell (held m.mine) ∷ m.after) sound) in
      ap (λ (k : ℕ). drop k z) x ∙ sym (drop-drop (sizes m.before) (start st) z)
      ∙ ap (drop (sizes m.before)) ((rw (encode-zone z w) at (rest-is st (valid-zone z w))) ∙ ap bytes_of m.parts ∙ bytes-append m.before (cell (held m.mine) ∷ m.after))
      ∙ drop_at b (bytes_of (cell (held m.mine) ∷ m.after)) (sizes m.before) n

  pub size_low : reloc_header ≤ at
  unfolding place_in
  size_low = omega (arith, m.place, header_is)

  pub size-law : (n : ℕ) → n ≡ size_of (drop (at - reloc_header) z) → n ≡ reloc_header + length (data_in z h)
  unfolding data_in
  size-law n q =
      let f = front (cell (held m.mine)) (drop (at - reloc_header) z) (bytes_of m.after) (sound-right m.before (cell (held m.mine) ∷ m.after) sound).0 from in
      q ∙ f.size_is ∙ ap₂ (λ (k : ℕ) (d : List ℕ). k + length d) header_is (sym m.holds)

  pub size_fits : at - reloc_header + reloc_header ≤ length z
  unfolding place_in sizes
  size_fits =
      omega (arith, m.place, header_is, len_is z w, w.all, ap sizes m.parts, sizes-append m.before (cell (held m.mine) ∷ m.after))

  pub size-data : (n : ℕ) → n ≡ size_of (drop (at - reloc_header) z) → n - reloc_header ≡ length (data_in z h)
  size-data n q = omega (arith, size-law n q)

  pub size-four : (n : ℕ) → n ≡ size_of (drop (at - reloc_header) z) → smallest_block ≤ n
  size-four n q = omega (arith, size-law n q)

no-data : (h at : ℕ) (bs : List Block) → place_of (is h) at bs ≡ 0 → data_of h bs ≡ []
unfolding place_of data_of
no-data h at [] e = refl
no-data h at (cell (free n) ∷ bs) e = no-data h (at + n) bs e
no-data h at (fixed d ∷ bs) e = no-data h (at + size (fixed d)) bs e
no-data h at (cell (held i) ∷ bs) e = go (is h i) e (no-data h (at + item_size i) bs)
  where
    go : (t : Bool) → cond t (at + header_of i) (place_of (is h) (at + item_size i) bs) ≡ 0 → (place_of (is h) (at + item_size i) bs ≡ 0 → data_of h bs ≡ []) → cond t i.bytes (data_of h bs) ≡ []
    go true e f = let x : ⊥ = omega (arith, (facts i).low) in absurd x
    go false e f = f e

pub size_none : (z : List ℕ) (h at : ℕ) → at ≡ place_in z h → at ≡ 0 → ◌≡◌ {A = ℕ} 0 (length (data_in z h))
unfolding place_in data_in
size_none z h at e q = rw (no-data h (start (decode_zone z)) (decode_zone z).blocks (sym e ∙ q))

-- a block's data lie inside
pub data-fits : (h at : ℕ) (bs : List Block) → (place_of (is h) at bs ≡ 0 → ⊥) → place_of (is h) at bs + length (data_of h bs) ≤ at + sizes bs
data-fits h at bs l = omega (arith, handle-place h at bs, ap length (handle-data h at bs), among-fits (by_handle h) at bs (λ e. l (handle-place h at bs ∙ e)))
