-- Eight masters more, from the first bay: what the writes leave is the structure that the definition says.
use mathlib.Core.Path.{◌≡◌, refl, sym, ap, ap₂, ◌∙◌, subst}
use mathlib.Core.List.{List, [], ◌∷◌, ◌++◌, map, append_assoc}
use Prim.Native.Nat.{ℕ, ◌+◌, ◌*◌, ◌-◌, ◌/◌, ◌≤◌}
use native.Mathlib.Omega.{arith}
use lib.ListN.{length, take, drop, length-append, length-map}
use lib.Seq.{take_at}
use Rattle.bigendian.specs.BigEndian.{to_be, overwrite}
use Rattle.bigendian.proofs.Laws.{length-to_be}
use Rattle.bigendian.proofs.Overwrite.{write_mid, write-length}
use Rattle.bigendian.proofs.Parts.{drop-take}
use Rattle.block_type.specs.Limits.{master_size, zone_header, longest_zone, added_masters, added_bytes, first_at, masters_at, chain_at}
use Rattle.format.specs.WellFormed.{offsets}
use Rattle.format.proofs.Count.{length-offsets}
use Rattle.kinds.specs.Kinds.{Item}
use Rattle.calls.specs.Bays.{Bays, last, more, on_first, first_s}
use Rattle.calls.specs.State.{Fixed, handles_from, master_count}
use Rattle.bay.specs.Bay.{Cell, bay_size, bay_sum, items, gap, packed, packed_less}
use Rattle.bay.specs.Sound.{bytes_of, cells_of, Sound, IsBay, is_bay}
use Rattle.bay.proofs.BayBytes.{cells-bytes}
use Rattle.bay.proofs.BayBytes as Bytes
use Rattle.bay.proofs.Laws.{less-items, packed-less}
use Rattle.bay.proofs.SoundLaws.{less-sound}
use Rattle.structure.specs.Structure.{Block, fixed, cell, Structure, sizes, count, start, len, head_of, value, encode, decode_zone, handles_of}
use Rattle.structure.specs.Valid.{Valid}
use Rattle.structure.proofs.Sound.{valid-zone}
use Rattle.structure.proofs.Table.{encode-zone}
use Rattle.structure.proofs.IsZone.{whole_of}
use Rattle.structure.proofs.ZoneLayout.{lay, lay-first, lay-masters, lay-chain, lay-drop}
use Rattle.access.specs.row.Row as Row
use Rattle.access.proofs.row.Laws.{bytes-append, bytes-long, sound-left}
use Rattle.access.proofs.row.Zone.{valid-sound}
use Rattle.zone.specs.Group.{flatten}
use Rattle.zone.specs.Call.{in_bays}
use Rattle.zone.proofs.GroupLaws.{flatten-group}
use Rattle.zone.proofs.Keep.{many-strip}
use Rattle.bays.specs.Places.{bays_of}
use Rattle.bays.specs.At.{At, at_last, at_here}
use Rattle.bays.proofs.At.{at_old, at_new, no-sizes}
use Rattle.slide.specs.ZoneBay.{set_all, Low, IsLow, is_low, bay_cells, ZoneBay}
use Rattle.slide.proofs.MasterLaws.{low-is, low-more}
use Rattle.slide.proofs.Compact.{gap-low, packed-low}
use Rattle.settle.proofs.Bay.{bay-at, cells-sound}
use Rattle.settle.proofs.Cells.{all-bytes, all-sizes, all_set, handles-items}
use Rattle.settle.proofs.surgery.Image.{img, encode-img, img-rest}
use Rattle.masters.specs.chain.Chain.{chain_bytes}
use Rattle.masters.specs.Grown.{grown_in, front_of, Growing, with_masters, with_fields}
use Rattle.masters.proofs.chain.Chain.{chain-long}
use Rattle.masters.proofs.Image.{count-more, before, masters-more, added}

-- ---- the first bay

-- the blocks behind it
abbrev behind_first : Bays (List Cell) Fixed → List Block
behind_first (last b) = []
behind_first (more b x u) = fixed x.bytes ∷ flatten u

at_first : (f : List Cell → List Cell) (u : Bays (List Cell) Fixed) → At f u (on_first f u) [] (first_s u) (behind_first u)
at_first f (last b) = at_last
at_first f (more b x u) = at_here

-- ---- the number of masters, by bays

pub count-bays : (s : Structure) → master_count items (in_bays 0 s) ≡ count s
count-bays s = ap (◌+ length s.chain) (sym (many-strip (bays_of s)) ∙ ap (λ (bs : List Block). length (handles_of bs)) (flatten-group (start s) s.blocks))

-- ---- cells that give up n bytes

less-handles : (n : ℕ) (cs : List Cell) → handles_of (map cell (packed_less n cs)) ≡ handles_of (map cell cs)
less-handles n cs = handles-items (packed_less n cs) ∙ ap (λ (es : List Item). handles_of (map cell (packed es []))) (less-items n cs) ∙ sym (handles-items cs)

-- ---- in a zone

module _ (z : List ℕ) (first end : ℕ) (x : Growing z first end) where
  abbrev s : Structure
  s = decode_zone z

  abbrev b : List Cell
  b = front_of s

  abbrev cs : List Cell
  cs = packed_less added_bytes b

  abbrev post : List Block
  post = behind_first (bays_of s)

  v : Valid s
  v = valid-zone z (whole_of z x.zone)

  is-z : encode s ≡ z
  is-z = encode-zone z (whole_of z x.zone)

  parts : s.blocks ≡ map cell b ++ post
  parts = sym (flatten-group (start s) s.blocks) ∙ at_old (at_first (packed_less added_bytes) (bays_of s))

  both : ZoneBay z first end × (bay_cells z first end ≡ b)
  both = bay-at s v [] post b parts z first end is-z (omega (arith, x.first_is, no-sizes)) x.end_is

  pub ask-bay : ZoneBay z first end
  ask-bay = both.0

  cells_in : bay_cells z first end ≡ b
  cells_in = both.1

  pub ask-sum : added_bytes ≤ bay_sum (bay_cells z first end)
  ask-sum = rw cells_in x.enough

  pub ask-order : first + added_bytes ≤ end
  ask-order = omega (arith, x.end_is, (packed-less added_bytes b x.enough).size)

  pub ask-low : zone_header ≤ first
  ask-low = omega (arith, x.first_is)

  pub ask-first : first ≤ longest_zone
  ask-first = omega (arith, ask-bay.order, ask-bay.inside, ask-bay.short)

  -- the structure that is left
  grown-is : grown_in s ≡ record { clock = s.clock; chain = handles_from (start s) added_masters; blocks = map cell cs ++ post }
  grown-is = λ i. record { clock = s.clock; chain = handles_from (zone_header + master_size * count-bays s i) added_masters; blocks = at_new (at_first (packed_less added_bytes) (bays_of s)) i }

  cs-sound : Sound cs
  cs-sound = less-sound added_bytes b refl (omega (arith, x.end_is, ask-bay.inside, ask-bay.short)) (cells-sound s v [] post b parts)

  sz : sizes (map cell cs) + master_size * added_masters ≡ sizes (map cell b)
  sz = omega (arith, all-sizes cs, all-sizes b, (packed-less added_bytes b x.enough).size)

  hs : handles_of (map cell cs) ≡ handles_of (map cell b)
  hs = less-handles added_bytes b

  abbrev l : ℕ
  l = len s

  abbrev m : ℕ
  m = count s

  abbrev r : List ℕ
  r = Row.bytes_of (map cell cs ++ post)

  -- the first bay with the new masters in front
  abbrev new : List ℕ
  new = chain_bytes first added_masters ++ bytes_of cs

  new-long : length new ≡ sizes (map cell b)
  new-long = omega (arith, length-append (chain_bytes first added_masters) (bytes_of cs), chain-long first added_masters, Bytes.bytes-long cs cs-sound, all-sizes cs, sz)

  pub grown-start : start (grown_in s) ≡ first + added_bytes
  grown-start =
      ap start grown-is
      ∙ ap (λ (k : ℕ). zone_header + master_size * k) (count-more s v x.none (map cell b) (map cell cs) post added_masters parts sz hs)
      ∙ omega (arith, x.first_is)

  -- ---- the writes, one after the other

  abbrev f : ℕ → ℕ
  f = before s v x.none (map cell b) (map cell cs) post added_masters parts sz hs

  after_growth : overwrite z first new ≡ lay s.clock l (start s) m (head_of s.chain) (map f (offsets zone_header (m + added_masters))) r
  after_growth =
      let c = head_of s.chain in
      let bm = Row.bytes_of (map cell b) in
      let old : Row.bytes_of s.blocks ≡ bm ++ Row.bytes_of post = ap (λ (bs : List Block). Row.bytes_of bs) parts ∙ bytes-append (map cell b) post in
      let lb : length bm ≡ length new = bytes-long (map cell b) (sound-left (map cell b) post (subst Row.Sound parts (valid-sound s v))) ∙ sym new-long in
      let regroup : new ++ Row.bytes_of post ≡ chain_bytes (start s) added_masters ++ r =
      append_assoc (chain_bytes first added_masters) (bytes_of cs) (Row.bytes_of post)
      ∙ ap₂ (λ (o : ℕ) (y : List ℕ). chain_bytes o added_masters ++ y) x.first_is (ap (◌++ Row.bytes_of post) (all-bytes cs) ∙ sym (bytes-append (map cell cs) post)) in
      ap (λ (y : List ℕ). overwrite y first new) (sym is-z ∙ encode-img s)
      ∙ img-rest s.clock l (start s) m c 0 first (value s) (Row.bytes_of s.blocks) new (omega (arith, x.first_is))
      ∙ ap (λ (y : List ℕ). img s.clock l (start s) m c (value s) (overwrite y 0 new)) old
      ∙ ap (img s.clock l (start s) m c (value s)) (write_mid [] bm new (Row.bytes_of post) 0 refl lb ∙ regroup)
      ∙ masters-more s v x.none (map cell b) (map cell cs) post added_masters parts sz hs l (start s) m c r

  abbrev left : List ℕ
  left = img s.clock l (start s + master_size * added_masters) (m + added_masters) (head_of (handles_from (start s) added_masters)) f r

  with-fields : (z₁ z₂ : List ℕ) → z₁ ≡ overwrite z first new → z₂ ≡ with_fields z₁ first → z₂ ≡ left
  unfolding with_fields
  with-fields z₁ z₂ e₁ e₂ =
      let vs = map f (offsets zone_header (m + added_masters)) in
      let c = head_of s.chain in
      let o : first + added_bytes ≡ start s + master_size * added_masters = omega (arith, x.first_is) in
      let k : (first + added_bytes - zone_header) / master_size ≡ m + added_masters = omega (arith, x.first_is) in
      e₂
      ∙ ap (λ (y : List ℕ). with_fields y first) (e₁ ∙ after_growth)
      ∙ ap (λ (j : ℕ). overwrite (overwrite (overwrite (lay s.clock l (start s) m c vs r) first_at (to_be 4 (first + added_bytes))) masters_at (to_be 4 j)) chain_at (to_be 2 first)) k
      ∙ ap (λ (y : List ℕ). overwrite (overwrite y masters_at (to_be 4 (m + added_masters))) chain_at (to_be 2 first)) (lay-first s.clock l (start s) m c (first + added_bytes) vs r)
      ∙ ap (λ (y : List ℕ). overwrite y chain_at (to_be 2 first)) (lay-masters s.clock l (first + added_bytes) m c (m + added_masters) vs r)
      ∙ lay-chain s.clock l (first + added_bytes) (m + added_masters) c first vs r
      ∙ ap₂ (λ (i j : ℕ). lay s.clock l i (m + added_masters) j vs r) o x.first_is

  -- ---- the bay behind the masters, for their pass

  part-is : (z₂ : List ℕ) → z₂ ≡ left → drop (first + added_bytes) (take end z₂) ≡ bytes_of cs
  part-is z₂ e =
      let vs = map f (offsets zone_header (m + added_masters)) in
      let lv : length vs ≡ m + added_masters = length-map (offsets zone_header (m + added_masters)) f ∙ length-offsets zone_header (m + added_masters) in
      let o : first + added_bytes ≡ zone_header + master_size * length vs = omega (arith, x.first_is) in
      let k : end - (first + added_bytes) ≡ bay_size cs = omega (arith, x.end_is, (packed-less added_bytes b x.enough).size) in
      let d : drop (first + added_bytes) z₂ ≡ r = ap₂ (λ (i : ℕ) (y : List ℕ). drop i y) o e ∙ lay-drop s.clock l (start s + master_size * added_masters) (m + added_masters) (head_of (handles_from (start s) added_masters)) vs r in
      let lc : length (bytes_of cs) ≡ bay_size cs = Bytes.bytes-long cs cs-sound in
      drop-take (first + added_bytes) end z₂
      ∙ ap₂ (λ (i : ℕ) (y : List ℕ). take i y) k (d ∙ bytes-append (map cell cs) post ∙ ap (◌++ Row.bytes_of post) (sym (all-bytes cs)))
      ∙ take_at (bytes_of cs) (Row.bytes_of post) (bay_size cs) lc

  module _ (z₁ : List ℕ) (e₁ : z₁ ≡ with_masters z first end) where
    made : z₁ ≡ overwrite z first new
    unfolding with_masters
    made = e₁ ∙ ap (λ (ds : List Cell). overwrite z first (chain_bytes first added_masters ++ bytes_of (packed_less added_bytes ds))) cells_in

    long₁ : length z₁ ≡ length z
    long₁ = ap length made ∙ write-length z new first (omega (arith, new-long, all-sizes b, x.end_is, ask-bay.inside))

    pub ask-header : zone_header ≤ length z₁
    ask-header = omega (arith, long₁, ask-low, ask-bay.order, ask-bay.inside)

    module _ (z₂ : List ℕ) (e₂ : z₂ ≡ with_fields z₁ first) where
      there : z₂ ≡ left
      there = with-fields z₁ z₂ made e₂

      long₂ : length z₂ ≡ length z
      unfolding with_fields
      long₂ =
          let y₁ = overwrite z₁ first_at (to_be 4 (first + added_bytes)) in
          let k = (first + added_bytes - zone_header) / master_size in
          let y₂ = overwrite y₁ masters_at (to_be 4 k) in
          let l₁ = write-length z₁ (to_be 4 (first + added_bytes)) first_at (omega (arith, ask-header, length-to_be 4 (first + added_bytes))) in
          let l₂ = write-length y₁ (to_be 4 k) masters_at (omega (arith, ask-header, l₁, length-to_be 4 k)) in
          let l₃ = write-length y₂ (to_be 2 first) chain_at (omega (arith, ask-header, l₁, l₂, length-to_be 2 first)) in
          ap length e₂ ∙ l₃ ∙ l₂ ∙ l₁ ∙ long₁

      pub ask-end : end ≤ length z₂
      ask-end = omega (arith, long₂, ask-bay.inside)

      pub ask-short : length z₂ ≤ longest_zone
      ask-short = omega (arith, long₂, ask-bay.short)

      pub pass-bay : IsBay (drop (first + added_bytes) (take end z₂))
      pass-bay = is_bay cs cs-sound (part-is z₂ there)

      pub pass-low : IsLow (first + added_bytes) (cells_of (drop (first + added_bytes) (take end z₂)))
      pass-low =
          let lb : Low first b = subst (Low first) cells_in (low-is first _ ask-bay.low) in
          let g : Low first (gap (bay_sum b - added_bytes) []) = gap-low first (bay_sum b - added_bytes) [] (omega (arith, x.first_is)) tt in
          rw (part-is z₂ there, cells-bytes cs cs-sound) (is_low (low-more first (first + added_bytes) cs (omega arith) (packed-low first b (gap (bay_sum b - added_bytes) []) lb g)))

      pub grow-done : (z₃ : List ℕ) → z₃ ≡ set_all (first + added_bytes) (cells_of (drop (first + added_bytes) (take end z₂))) z₂ → z₃ ≡ encode (grown_in (decode_zone z))
      grow-done z₃ e₃ =
          let at = start s + master_size * added_masters in
          let o : first + added_bytes ≡ at = omega (arith, x.first_is) in
          e₃
          ∙ ap (λ (ds : List Cell). set_all (first + added_bytes) ds z₂) (ap cells_of (part-is z₂ there) ∙ cells-bytes cs cs-sound)
          ∙ ap₂ (λ (i : ℕ) (y : List ℕ). set_all i cs y) o there
          ∙ all_set at cs left
          ∙ added s v x.none (map cell b) (map cell cs) post added_masters parts sz hs
          ∙ ap encode (sym grown-is)
