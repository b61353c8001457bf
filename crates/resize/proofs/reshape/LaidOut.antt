-- The bay of a block is compacted, the block grows in it, and the masters follow: the bytes are those of the structure with it reshaped.
use mathlib.Core.Path.{◌≡◌, refl, sym, ap, ap₂, ◌∙◌, subst}
use mathlib.Core.List.{List, [], ◌++◌, map}
use Prim.Native.Nat.{ℕ, ◌+◌, ◌-◌, ◌%◌, ◌≤◌}
use native.Mathlib.Omega.{arith}
use lib.ListN.{length, drop}
use lib.Seq.{drop-drop, drop_at}
use Rattle.bigendian.specs.BigEndian.{from_be, slice}
use Rattle.block_type.specs.Limits.{free_header, reloc_header, longest_zone}
use Rattle.kinds.specs.Kinds.{Item, header_of, item_size}
use Rattle.kinds.proofs.KindLaws.{facts, is_code}
use Rattle.calls.specs.State.{total}
use Rattle.bay.specs.Bay.{Cell, bay_size, bay_sum, items, gap, packed, compact_bay, resized, reshape}
use Rattle.bay.specs.Sound.{bytes_of, cells_of, Sound}
use Rattle.bay.proofs.BayBytes.{bytes-long, cells-bytes, gap-some}
use Rattle.bay.proofs.Laws.{bsize-gap, bsize-packed}
use Rattle.bay.proofs.Resize.{length-sized}
use Rattle.bay.proofs.Reshape.{reshape-laid}
use Rattle.bay.proofs.SoundLaws.{sum-four}
use Rattle.structure.specs.Structure.{Block, cell, encode, decode_zone, handles_of}
use Rattle.bays.specs.Places.{bays_of}
use Rattle.bays.proofs.At.{at_new}
use Rattle.slide.specs.ZoneBay.{part_of, bay_cells, settled}
use Rattle.settle.proofs.Any.{settle}
use Rattle.settle.proofs.Bay.{cells-sound}
use Rattle.resize.specs.reshape.Own.{reshaped, Own, bay_of}
use Rattle.resize.specs.reshape.Grow.{grown_bytes, Room, GrowsTo, grows_to, Laid}
use Rattle.resize.proofs.reshape.GrownBay.{laid, drop-o, long, grown-bay}
use Rattle.resize.proofs.reshape.LaidBay.{laid-map, laid-size, laid-sound1, laid-left, laid-right, laid-gap, laid-sound, laid-low, laid-handles}
use Rattle.resize.proofs.reshape.Tidied.{v, parts, ask-more, s₁, v₁, from₁, tidy, span, sound₁, master, is₁, end₁, part₁, low₁, tidy-short, at_is}

module _ (z : List ℕ) (h from end sum b a : ℕ) (x : Laid z h from end sum b a) (z₁ : List ℕ) (e₁ : z₁ ≡ settled z from (compact_bay (bay_cells z from end))) where
  abbrev o : Own h (bays_of (decode_zone z))
  o = x.own

  abbrev e : Item
  e = o.mine

  abbrev xs : List Item
  xs = items o.left

  abbrev ys : List Item
  ys = items o.right

  abbrev n : ℕ
  n = bay_sum (bay_of o)

  so : Sound (laid xs e ys n)
  so = sound₁ z h from end sum b a x

  four_n : n % 4 ≡ 0
  four_n = sum-four (bay_of o) (cells-sound (decode_zone z) (v z h from end sum b a x) o.before o.after (bay_of o) (parts z h from end sum b a x))

  short : from + (total xs + (item_size e + (total ys + n))) ≤ longest_zone
  short = omega (arith, span z h from end sum b a x, tidy-short z h from end sum b a x z₁ e₁)

  module _ (low high run more : ℕ) (low_of : low ≡ total xs) (high-of : high ≡ low + item_size e) (run_of : run ≡ total ys) (gain : a ≡ more + length e.bytes) where
    long-left : length (bytes_of (packed xs [])) ≡ low
    long-left = bytes-long (packed xs []) (laid-left xs ys e n so) ∙ omega (arith, bsize-packed xs [])

    long-right : length (bytes_of (packed ys [])) ≡ run
    long-right = bytes-long (packed ys []) (laid-right xs ys e n so) ∙ omega (arith, bsize-packed ys [])

    long-gap : length (bytes_of (gap n [])) ≡ n
    long-gap = bytes-long (gap n []) (laid-gap xs ys e n so) ∙ omega (arith, bsize-gap n [])

    long-all : length (bytes_of (laid xs e ys n)) ≡ high + run + n
    long-all = long xs ys e n low high run more a long-left high-of long-right long-gap gain

    four-more : (more % 4 ≡ 0) × (free_header ≤ more)
    four-more =
        let q = (laid-sound1 xs ys e n so).0 in
        (omega (arith, x.four, (facts e).four), omega (arith, x.four, (facts e).four, x.grows, x.size))

    fits : more ≤ n
    fits = let k : a - b ≡ more = omega (arith, x.size) in subst (λ (i : ℕ). i ≤ n) k x.enough

    room : Room (bytes_of (laid xs e ys n)) low high run more
    room =
        let k : length (bytes_of (laid xs e ys n)) - (high + run) ≡ n = omega (arith, long-all) in
        let d : drop (high + run) (bytes_of (laid xs e ys n)) ≡ bytes_of (gap n []) =
        sym (drop-drop run high (bytes_of (laid xs e ys n))) ∙ ap (drop run) (drop-o xs ys e n low high run more a long-left high-of long-right long-gap gain)
        ∙ drop_at (bytes_of (packed ys [])) (bytes_of (gap n [])) run long-right in
        record {
          low = omega (arith, high-of);
          inside = omega (arith, long-all, fits);
          short = omega (arith, long-all, short);
          some = four-more.1;
          four = four-more.0;
          four_n = rw k four_n;
          bytes = rw k (d ∙ gap-some n (omega (arith, four-more.1, fits)));
        }

    part-is : part_of z₁ from end ≡ bytes_of (laid xs e ys n)
    part-is = part₁ z h from end sum b a x z₁ e₁

    room_in : Room (part_of z₁ from end) low high run more
    room_in = subst (λ (y : List ℕ). Room y low high run more) (sym part-is) room

    abbrev news : List Cell
    news = laid xs (resized a e) ys (n - more)

    grown-is : grown_bytes (part_of z₁ from end) low high run more ≡ bytes_of news
    grown-is = ap (λ (y : List ℕ). grown_bytes y low high run more) part-is ∙ grown-bay xs ys e n low high run more a long-left high-of long-right long-gap gain (is_code h e o.its)

    new-sound : Sound news
    new-sound =
        laid-sound xs ys e (resized a e) n (n - more)
        (omega (arith, length-sized a e.bytes, x.four, (facts e).four), omega (arith, length-sized a e.bytes, x.high), (laid-sound1 xs ys e n so).2)
        (omega (arith, four-more.0, fits, four_n)) (omega (arith, short)) so

    new-size : bay_size news ≡ bay_size (compact_bay (bay_of o))
    new-size = laid-size xs ys (resized a e) (n - more) ∙ omega (arith, length-sized a e.bytes, fits) ∙ sym (ap bay_size (tidy z h from end sum b a x) ∙ laid-size xs ys e n)

    grows_in : GrowsTo z₁ from end low high run more
    grows_in =
        grows_to news new-sound (omega (arith, new-size, end₁ z h from end sum b a x z₁ e₁))
        (laid-low xs ys e (resized a e) n (n - more) from refl (omega (arith, (master z h from end sum b a x).fits, from₁ z h from end sum b a x)) (low₁ z h from end sum b a x z₁ e₁)) grown-is

    same-handles : handles_of (map cell news) ≡ handles_of (map cell (compact_bay (bay_of o)))
    same-handles = sym (ap (λ (cs : List Cell). handles_of (map cell cs)) (tidy z h from end sum b a x) ∙ laid-handles xs ys e (resized a e) n (n - more) refl)

    news-are : reshape h a (bay_of o) ≡ news
    news-are =
        let k : a - length e.bytes ≡ more = omega arith in
        reshape-laid h e o.its a o.left o.right o.first o.only (omega (arith, x.grows, x.size)) (rw k fits)
        ∙ sym (laid-map xs ys (resized a e) (n - (a - length e.bytes)))
        ∙ ap (λ (i : ℕ). laid xs (resized a e) ys (n - i)) k

    done : (z₂ : List ℕ) → z₂ ≡ settled z₁ from (cells_of (grown_bytes (part_of z₁ from end) low high run more)) → z₂ ≡ encode (reshaped h a (decode_zone z))
    done z₂ q =
        q ∙ ap (settled z₁ from) (ap cells_of grown-is ∙ cells-bytes news new-sound)
        ∙ ap₂ (λ (y : List ℕ) (k : ℕ). settled y k news) (is₁ z h from end sum b a x z₁ e₁) (sym (from₁ z h from end sum b a x))
        ∙ settle (s₁ z h from end sum b a x) (v₁ z h from end sum b a x) o.before o.after (compact_bay (bay_of o)) news refl new-sound new-size same-handles
        ∙ ap (λ (bs : List Block). encode (record { clock = (decode_zone z).clock; chain = (decode_zone z).chain; blocks = bs })) (sym (at_new (o.at (reshape h a)) ∙ ap (λ (cs : List Cell). o.before ++ (map cell cs ++ o.after)) news-are))

  -- ---- by what the master says

  module _ (at : ℕ) (ea : at ≡ from_be (slice z₁ h 4)) (low high run more : ℕ) (el : low ≡ at - reloc_header - from) (eh : high ≡ at + b - from) (er : run ≡ end - sum - (at + b)) (em : more ≡ a - b) where
    at₁ : at ≡ from + total xs + header_of e
    at₁ = at_is z h from end sum b a x z₁ e₁ at ea

    low_of : low ≡ total xs
    low_of = el ∙ below at from (total xs) (header_of e) x.own.head at₁
      where
        below : (i j k g : ℕ) → g ≡ reloc_header → i ≡ j + k + g → i - reloc_header - j ≡ k
        below i j k g p q = omega arith

    high-of : high ≡ low + item_size e
    high-of = eh ∙ ap (λ (i : ℕ). at + i - from) x.size ∙ above at from (total xs) (length e.bytes) (header_of e) at₁ ∙ ap (λ (i : ℕ). i + item_size e) (sym low_of)
      where
        above : (i j k l g : ℕ) → i ≡ j + k + g → i + l - j ≡ k + (g + l)
        above i j k l g q = omega arith

    run_of : run ≡ total ys
    run_of = er ∙ behind end sum at b from (total xs) (total ys) n (length e.bytes) (header_of e) (span z h from end sum b a x) at₁ x.size x.numbers.sum_is
      where
        behind : (i j k l f m r c d g : ℕ) → i ≡ f + (m + (g + d + (r + c))) → k ≡ f + m + g → l ≡ d → j ≡ c → i - j - (k + l) ≡ r
        behind i j k l f m r c d g p q u t = omega arith

    gain : a ≡ more + length e.bytes
    gain = (sum_of a b more em (ask-more z h from end sum b a x)) ∙ ap (more +◌) x.size
      where
        sum_of : (i j k : ℕ) → k ≡ i - j → j ≤ i → i ≡ k + j
        sum_of i j k p q = omega arith

    pub ask-room : Room (part_of z₁ from end) low high run more
    ask-room = room_in low high run more low_of high-of run_of gain

    pub ask-grows : GrowsTo z₁ from end low high run more
    ask-grows = grows_in low high run more low_of high-of run_of gain

    pub all_done : (z₂ : List ℕ) → z₂ ≡ settled z₁ from (cells_of (grown_bytes (part_of z₁ from end) low high run more)) → z₂ ≡ encode (reshaped h a (decode_zone z))
    all_done z₂ q = done low high run more low_of high-of run_of gain z₂ q
