-- The zone is shorter: the bytes are those of the structure without the last n bytes of its last bay, and n zeros.
use mathlib.Core.Path.{◌≡◌, sym, ap, ap₂, ◌∙◌, subst}
use mathlib.Core.List.{List, [], ◌++◌, map, append_assoc, append-nil}
use Prim.Native.Nat.{ℕ, ◌+◌, ◌-◌, ◌≤◌}
use native.Mathlib.Omega.{arith}
use lib.ListN.{length, replicate, length-replicate}
use mir.Val.{Fits}
use mir.Syntax.{w32}
use Rattle.structure.proofs.Append.{sizes-append}
use Rattle.block_type.specs.Limits.{longest_zone, length_at}
use Rattle.bigendian.specs.BigEndian.{to_be, overwrite}
use Rattle.kinds.specs.Kinds.{Item}
use Rattle.bay.specs.Bay.{Cell, bay_size, items, gap, packed, take_high}
use Rattle.bay.proofs.Laws.{cut-less, items-append, items-gap}
use Rattle.bay.proofs.BayBytes.{gap-none}
use Rattle.structure.specs.Structure.{Block, cell, Structure, sizes, start, join, encode, decode_zone, handles_of}
use Rattle.structure.specs.Valid.{Valid}
use Rattle.structure.proofs.Cells.{gap-sizes}
use Rattle.access.specs.row.Row as Row
use Rattle.access.proofs.row.Laws.{sound-append, sound-left}
use Rattle.calls.specs.Bays.{last_s}
use Rattle.zone.proofs.GroupLaws.{flatten-group}
use Rattle.bays.specs.Places.{bays_of}
use Rattle.bays.proofs.At.{at_old, at_new}
use Rattle.slide.specs.ZoneBay.{bay_cells, settled}
use Rattle.slide.proofs.Change.{Kept}
use Rattle.access.proofs.row.Zone.{valid-sound}
use Rattle.settle.proofs.surgery.Replace.{start-same}
use Rattle.settle.proofs.Any.{settle}
use Rattle.settle.proofs.Cells.{all-sizes, all_sound, handles-items}
use Rattle.room.specs.bay_end.Taken.{before_zeros, CanTake}
use Rattle.room.specs.bay_end.Run.{Run}
use Rattle.room.proofs.bay_end.Kept.{kept_free}
use Rattle.room.proofs.bay_end.Taken.{trimmed-is}
use Rattle.room.proofs.bay_end.Zone.{run-valid, run_take, run_end, run-kept, run-left, run_long}
use Rattle.room.proofs.bay_end.End.{rest, rest-behind, lens, end-changed}
use Rattle.zone_end.specs.shrink.Stripped.{stripped}
use Rattle.zone_end.specs.shrink.Ready.{SiteOf}
use Rattle.zone_end.specs.declared.shrink.Plan.{Plan}

module _ (z : List ℕ) (p : Plan) (x : SiteOf z p) where
  abbrev n : ℕ
  n = p.strip

  abbrev a : ℕ
  a = p.bay.start

  abbrev e : ℕ
  e = p.bay.end

  abbrev sum : ℕ
  sum = p.bay.sum

  abbrev tail : ℕ
  tail = p.bay.tail

  abbrev s : Structure
  s = decode_zone z

  abbrev pre : List Block
  pre = x.found.before

  abbrev cs : List Cell
  cs = last_s (bays_of s)

  abbrev run : Run z n a e sum tail
  run = record {
    zone = x.zone;
    before = pre;
    bay = cs;
    after = [];
    parts = sym (flatten-group (start s) s.blocks) ∙ at_old x.found.at;
    numbers = x.found.numbers;
    low = x.low;
    fits = x.fits;
    four = x.four;
  }

  abbrev ds : List Cell
  ds = take_high n cs

  abbrev zs : List ℕ
  zs = replicate n 0

  v : Valid s
  v = run-valid z n a e sum tail run

  ends : (e - n ≡ a + bay_size ds) × (n ≤ e) × (e ≤ length (encode s)) × (length (encode s) ≤ longest_zone)
  ends = run_end z n a e sum tail run

  -- ---- the n bytes as a free block by themselves

  abbrev s₁ : Structure
  s₁ = record { clock = s.clock; chain = s.chain; blocks = pre ++ (map cell (ds ++ gap n []) ++ []) }

  kept : Kept a (e - a) (ds ++ gap n [])
  kept =
      let m : e - a - n + n ≡ e - a = omega (arith, ends) in
      subst (λ (k : ℕ). Kept a k (ds ++ gap n [])) m
      (kept_free a n x.four (e - a - n) ds (omega (arith, run.numbers.start_is)) (omega (arith, ends)) (run-kept z n a e sum tail run))

  same-handles : handles_of (map cell (ds ++ gap n [])) ≡ handles_of (map cell cs)
  same-handles =
      handles-items (ds ++ gap n [])
      ∙ ap (λ (es : List Item). handles_of (map cell (packed es []))) (items-append ds (gap n []) ∙ ap (items ds ++◌) (items-gap n []) ∙ append-nil (items ds) ∙ (cut-less n cs x.fits).same)
      ∙ sym (handles-items cs)

  size_is : bay_size (ds ++ gap n []) ≡ bay_size cs
  size_is = omega (arith, kept.size, run.numbers.end_is)

  apart : settled (encode s) a (ds ++ gap n []) ≡ encode s₁
  apart = ap (λ (o : ℕ). settled (encode s) o (ds ++ gap n [])) run.numbers.start_is ∙ settle s v pre [] cs (ds ++ gap n []) run.parts kept.sound size_is same-handles

  zeros : before_zeros (encode s) a ds n ≡ overwrite (encode s₁) (e - n) zs
  zeros =
      let none : n - n ≡ 0 = omega arith in
      ap (λ (c : List Cell). before_zeros (encode s) a c n) (sym (ap (λ (k : ℕ). ds ++ gap k []) none ∙ append-nil ds))
      ∙ sym (trimmed-is (encode s) (encode s₁) a e n n ds (omega (arith, ends)) ends.2 ends.3 kept x.low (omega arith) x.four (sym apart))
      ∙ ap (λ (b : List ℕ). overwrite (encode s₁) (e - n) (b ++ zs)) (gap-none (n - n) none)

  -- ---- and cut off

  end-parts : s₁.blocks ≡ (pre ++ map cell ds) ++ rest n
  end-parts = rest-behind pre ds n

  sound : Row.Sound s₁.blocks
  sound =
      sound-append pre (map cell (ds ++ gap n []) ++ []) (sound-left pre (map cell cs ++ []) (subst Row.Sound run.parts (valid-sound s v)))
      (sound-append (map cell (ds ++ gap n [])) [] (all_sound (ds ++ gap n []) kept.sound) tt)

  first : start s₁ ≡ start s
  first =
      start-same s v pre (map cell cs) (map cell (ds ++ gap n [])) [] s.chain run.parts (sym (all-sizes (ds ++ gap n [])) ∙ size_is ∙ all-sizes cs) (all_sound (ds ++ gap n []) kept.sound)
      (rw same-handles)

  shorter : overwrite (before_zeros (encode s) a ds n) length_at (to_be 4 (e - n)) ≡ encode (record { clock = s.clock; chain = s.chain; blocks = pre ++ (map cell ds ++ []) }) ++ zs
  unfolding join
  shorter =
      let there : e - n ≡ start s₁ + sizes (pre ++ map cell ds) = omega (arith, first, sizes-append pre (map cell ds), all-sizes ds, ends, run.numbers.start_is) in
      let long : n + length {A = ℕ} [] ≡ 0 + length zs = omega (arith, length-replicate {A = ℕ} n 0) in
      ap (λ (x : List ℕ). overwrite x length_at (to_be 4 (e - n)))
      (zeros ∙ ap₂ (λ (x : List ℕ) (o : ℕ). overwrite x o zs) (sym (append-nil (encode s₁))) there)
      ∙ end-changed s₁ (pre ++ map cell ds) n 0 [] zs end-parts sound tt long (e - n)
      (omega (arith, there, lens s₁ (pre ++ map cell ds) n 0 [] zs end-parts sound tt long, ap sizes end-parts, sizes-append (pre ++ map cell ds) (rest n), gap-sizes n))
      ∙ ap (λ (b : List Block). encode (record { clock = s.clock; chain = s.chain; blocks = b }) ++ zs) (append_assoc pre (map cell ds) [])

  -- ---- what the code asks

  pub ask-take : CanTake z n a e sum tail
  ask-take = run_take z n a e sum tail run

  pub ask-sub : n ≤ e
  ask-sub = ends.1

  pub ask-end : e ≤ longest_zone
  ask-end = omega (arith, ends)

  pub ask-word : Fits w32 (e - n)
  ask-word = record { fits = omega (arith, ask-end) }

  module _ (y : List ℕ) (q : y ≡ before_zeros z a (take_high n (bay_cells z a e)) n) where
    pub ask-put : length_at + 4 ≤ length y
    ask-put = omega (arith, run_long z n a e sum tail run y q, ends, x.low)

    pub strip-done : (y₂ : List ℕ) → y₂ ≡ overwrite y length_at (to_be 4 (e - n)) → y₂ ≡ encode (stripped n s) ++ replicate n 0
    strip-done y₂ q₂ =
        q₂ ∙ ap (λ (u : List ℕ). overwrite u length_at (to_be 4 (e - n))) (run-left z n a e sum tail run y q)
        ∙ shorter
        ∙ ap (λ (b : List Block). encode (record { clock = s.clock; chain = s.chain; blocks = b }) ++ zs) (sym (at_new x.found.at))
