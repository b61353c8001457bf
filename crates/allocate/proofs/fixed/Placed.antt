-- The new block is in its place: the bytes are those of the structure with it.
use mathlib.Core.Path.{◌≡◌, refl, sym, ap, ap₂, ◌∙◌}
use mathlib.Core.List.{List, [], ◌∷◌, ◌++◌, map, append_assoc, append-nil}
use Prim.Native.Nat.{ℕ, ◌+◌, ◌-◌, ◌*◌, ◌/◌, ◌≤◌}
use native.Mathlib.Omega.{arith}
use lib.ListN.{length, replicate, length-replicate, replicate-append-replicate}
use Rattle.structure.proofs.Append.{sizes-append, handles-append}
use Rattle.block_type.specs.Limits.{fixed_code, fixed_header, longest_zone, type_unit, tag_at}
use Rattle.bigendian.specs.BigEndian.{to_be, overwrite}
use Rattle.bigendian.proofs.Laws.{length-to_be}
use Rattle.kinds.specs.Kinds.{Item}
use Rattle.bay.specs.Bay.{Cell, bay_size, packed, take_high}
use Rattle.bay.specs.Sound.{bytes_of}
use Rattle.bay.proofs.Laws.{cut-less}
use Rattle.bay.proofs.BayBytes.{bytes-long}
use Rattle.structure.specs.Structure.{Block, cell, fixed, Structure, size, sizes, start, fixed_tag, encode_block, join, encode, decode_zone, handles_of}
use Rattle.structure.specs.Valid.{Valid}
use Rattle.access.specs.row.Row as Row
use Rattle.access.proofs.row.Laws.{bytes-append, sound-append}
use Rattle.zone.proofs.GroupLaws.{flatten-group}
use Rattle.settle.specs.surgery.Masters as Masters
use Rattle.slide.specs.ZoneBay.{set_all, bay_cells}
use Rattle.slide.proofs.Change.{Kept}
use Rattle.settle.proofs.surgery.Replace.{moved}
use Rattle.settle.proofs.Cells.{all-bytes, all-sizes, all_sound, all_set, handles-items}
use Rattle.room.specs.bay_end.Taken.{before_zeros, CanTake}
use Rattle.room.specs.bay_end.Run.{Run}
use Rattle.room.proofs.bay_end.Masters.{all-write}
use Rattle.room.proofs.bay_end.Trimmed.{write-in}
use Rattle.room.proofs.bay_end.Zone.{run-valid, run_take, run_end, run-kept, run-left, body, body-long, run_long}
use Rattle.allocate.specs.fixed.Placed.{placed, Site}

-- ---- the block's bytes

-- its header over zeros: type and size are written, the rest is there
two-zeros : (n : ℕ) → fixed_header ≤ n → replicate {A = ℕ} n 0 ≡ (0 ∷ 0 ∷ []) ++ (fixed_tag ++ replicate (n - fixed_header) 0)
two-zeros n l = let e : n ≡ fixed_header + (n - fixed_header) = omega arith in ap (λ (k : ℕ). replicate {A = ℕ} k 0) e ∙ sym (replicate-append-replicate fixed_header (n - fixed_header) 0)

fixed-bytes : (n : ℕ) → fixed_header ≤ n → Row.bytes_of (fixed (replicate (n - fixed_header) 0) ∷ []) ≡ to_be 2 (fixed_code * type_unit + n / 2) ++ (fixed_tag ++ replicate (n - fixed_header) 0)
unfolding join encode_block
fixed-bytes n l =
    let e : fixed_header + length (replicate {A = ℕ} (n - fixed_header) 0) ≡ n = omega (arith, length-replicate {A = ℕ} (n - fixed_header) 0) in
    append-nil _ ∙ ap (λ (k : ℕ). to_be 2 (fixed_code * type_unit + k / 2) ++ (fixed_tag ++ replicate (n - fixed_header) 0)) e

-- it has no master
set-fixed : (at : ℕ) (bs : List Block) (d z : List ℕ) → Masters.set_all at (bs ++ (fixed d ∷ [])) z ≡ Masters.set_all at bs z
unfolding Masters.set_all Masters.set_one
set-fixed at [] d z = refl
set-fixed at (b ∷ bs) d z = set-fixed (at + size b) bs d (Masters.set_one at b z)

handles-fixed : (bs : List Block) (d : List ℕ) → handles_of (bs ++ (fixed d ∷ [])) ≡ handles_of bs
unfolding handles_of
handles-fixed bs d = handles-append bs (fixed d ∷ []) ∙ append-nil (handles_of bs)

fixed-size : (d : List ℕ) → sizes (fixed d ∷ []) ≡ fixed_header + length d
unfolding sizes
fixed-size d = omega arith

-- ---- in the bytes of a zone

module _ (z : List ℕ) (need a e sum tail : ℕ) (x : Site z need a e sum tail) where
  abbrev s : Structure
  s = decode_zone z

  abbrev pre : List Block
  pre = x.found.before

  abbrev cs : List Cell
  cs = x.found.bay

  abbrev post : List Block
  post = x.found.after

  abbrev run : Run z need a e sum tail
  run = record {
    zone = x.zone;
    before = pre;
    bay = cs;
    after = post;
    parts = sym (flatten-group (start s) s.blocks) ∙ x.found.old;
    numbers = x.found.numbers;
    low = x.low;
    fits = x.found.enough;
    four = x.four;
  }

  abbrev zs : List ℕ
  zs = replicate (need - fixed_header) 0

  abbrev ds : List Cell
  ds = take_high need cs

  abbrev new : List Block
  new = map cell ds ++ (fixed zs ∷ [])

  abbrev h : List ℕ
  h = to_be 2 (fixed_code * type_unit + need / 2)

  v : Valid s
  v = run-valid z need a e sum tail run

  kept : Kept a (e - a - need) ds
  kept = run-kept z need a e sum tail run

  ends : (e - need ≡ a + bay_size ds) × (need ≤ e) × (e ≤ length (encode s)) × (length (encode s) ≤ longest_zone)
  ends = run_end z need a e sum tail run

  long-zs : length zs ≡ need - fixed_header
  long-zs = length-replicate {A = ℕ} (need - fixed_header) 0

  same-handles : handles_of new ≡ handles_of (map cell cs)
  same-handles =
      handles-fixed (map cell ds) zs ∙ handles-items ds ∙ ap (λ (es : List Item). handles_of (map cell (packed es []))) (cut-less need cs x.found.enough).same ∙ sym (handles-items cs)

  same_size : sizes new ≡ sizes (map cell cs)
  same_size = omega (arith, sizes-append (map cell ds) (fixed zs ∷ []), fixed-size zs, long-zs, all-sizes ds, all-sizes cs, (cut-less need cs x.found.enough).size)

  spot : e - need ≡ a + length (bytes_of ds)
  spot = omega (arith, ends, bytes-long ds kept.sound)

  -- the header over the first zeros
  written : overwrite (before_zeros (encode s) a ds need) (e - need) h ≡ encode (record { clock = s.clock; chain = s.chain; blocks = pre ++ (map cell ds ++ (fixed zs ∷ post)) })
  unfolding before_zeros
  written =
      let y = encode s in
      sym (all-write a (e - need) (omega (arith, ends)) a ds (body z need a e sum tail run) h kept.low (omega (arith, body-long z need a e sum tail run, ends)))
      ∙ ap (set_all a ds)
      (ap (λ (x : List ℕ). overwrite (overwrite y a (bytes_of ds ++ x)) (e - need) h) (two-zeros need (omega (arith, x.low)))
      ∙ write-in y (bytes_of ds) (0 ∷ 0 ∷ []) h (fixed_tag ++ zs) a (e - need) (omega (arith, ends)) spot (sym (length-to_be 2 (fixed_code * type_unit + need / 2)))
      ∙ ap (overwrite y a) (ap₂ ◌++◌ (all-bytes ds) (sym (fixed-bytes need (omega (arith, x.low)))) ∙ sym (bytes-append (map cell ds) (fixed zs ∷ []))))
      ∙ all_set a ds (overwrite y a (Row.bytes_of new))
      ∙ sym (set-fixed a (map cell ds) zs (overwrite y a (Row.bytes_of new)))
      ∙ ap (λ (o : ℕ). Masters.set_all o new (overwrite y o (Row.bytes_of new))) run.numbers.start_is
      ∙ moved s v pre (map cell cs) new post s.chain run.parts same_size
      (sound-append (map cell ds) (fixed zs ∷ []) (all_sound ds kept.sound) ((omega (arith, long-zs, x.low, x.four), omega (arith, long-zs, x.high)), tt)) same-handles refl
      ∙ ap (λ (b : List Block). encode (record { clock = s.clock; chain = s.chain; blocks = pre ++ b })) (append_assoc (map cell ds) (fixed zs ∷ []) post)

  pub ask-take : CanTake z need a e sum tail
  ask-take = run_take z need a e sum tail run

  pub ask-sub : need ≤ e
  ask-sub = ends.1

  pub ask-end : e ≤ longest_zone
  ask-end = omega (arith, ends)

  pub ask-need : need ≤ longest_zone
  ask-need = omega (arith, x.high)

  module _ (y : List ℕ) (q : y ≡ before_zeros z a (take_high need (bay_cells z a e)) need) where
    pub ask-put : e - need + tag_at ≤ length y
    ask-put = omega (arith, run_long z need a e sum tail run y q, ends, x.low)

    pub place-done : (y₂ : List ℕ) → y₂ ≡ overwrite y (e - need) (to_be 2 (fixed_code * type_unit + need / 2)) → y₂ ≡ encode (placed need s)
    place-done y₂ q₂ =
        q₂ ∙ ap (λ (u : List ℕ). overwrite u (e - need) h) (run-left z need a e sum tail run y q)
        ∙ written
        ∙ ap (λ (b : List Block). encode (record { clock = s.clock; chain = s.chain; blocks = b })) (sym x.found.new)
