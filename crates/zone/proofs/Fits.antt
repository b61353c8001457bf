-- A bay of a zone and a bay of the ledger that are one: the size is the capacity, and the relocatable blocks are the entries up to order.
-- Each change of a bay that a call makes keeps it.
use mathlib.Core.Path.{◌≡◌, refl, ap, ap₂, ◌∙◌, sym}
use mathlib.Core.Bool.{Bool, true, cond}
use mathlib.Core.List.Permᴰ
use mathlib.Core.List.{List, [], ◌∷◌, ◌++◌, map, Permᴰ}
use Prim.Native.Nat.{ℕ, ◌+◌, ◌%◌, ◌≤◌}
use native.Mathlib.Omega.{arith}
use Rattle.kinds.specs.Kinds.{Item, item_size, is, on_data}
use Rattle.calls.specs.State.{alter, get, sized, Fixed, fsize}
use Rattle.calls.proofs.Counted.{alter-none}
use Rattle.ledger.specs.Ledger.{Bay, bay, sum_of, on_entries, without, less}
use Rattle.bay.specs.Bay.{Cell, bay_size, bay_sum, items, gap, join_bays, compact_bay, packed_less, put, take_high, release, edit, reshape}
use Rattle.bay.specs.Counted.{count, remove}
use Rattle.zone.specs.Search.{own}
use Rattle.bay.proofs.Perm.{perm-total, perm-map, perm-remove, perm-count, perm-get}
use Rattle.bay.proofs.Holes.{put_keeps}
use Rattle.bay.proofs.Laws.{bsize-split, bsize-gap, items-gap, bsize-weld, items-weld, tidy-size, tidy-items, packed-less, cut-less, release-size, release-items, edit-size, edit-items}
use Rattle.bay.proofs.Resize.{reshape-sound}
use Rattle.zone.proofs.Own.{own-shaped}
use Rattle.bay.proofs.Sound.{Block, Sound, s-nil, gap-sound, put-sound, release-sound, edit-sound, less-sound, cut-sound, weld-sound, tidy-sound}

pub record Fits (b : List Cell) (c : Bay) : Type 0 where
  pub size : bay_size b ≡ c.capacity
  pub perm : Permᴰ (items b) c.entries
  pub sound : Sound b

-- the same fixed block, of a block's size
pub record Equal (x y : Fixed) : Type 0 where
  pub equal : x ≡ y
  pub block : Block (fsize x)

-- ---- what the ledger says of entries is what the zone's laws say of items

pub without_is : (ok : Item → Bool) (es : List Item) → without ok es ≡ remove ok es
without_is ok [] = refl
without_is ok (e ∷ es) = ap₂ (cond (ok e)) (without_is ok es) (ap (e ∷◌) (without_is ok es))

-- ---- one bay

module _ {b : List Cell} {c : Bay} (r : Fits b c) where
  pub same_sum : bay_sum b ≡ sum_of c
  same_sum = omega (arith, bsize-split b, perm-total r.perm, r.size)

  pub same-get : (ok : Item → Bool) → count ok (items b) ≤ 1 → get ok (items b) ≡ get ok c.entries
  same-get ok n = perm-get ok r.perm n

  pub same_count : (ok : Item → Bool) → count ok c.entries ≡ count ok (items b)
  same_count ok = sym (perm-count ok r.perm)

  pub put-fits : (e : Item) → Block (item_size e) → item_size e ≤ bay_sum b → Fits (put e b) (on_entries (e ∷◌) c)
  put-fits e k h = record {
    size = (put_keeps e b h).size ∙ r.size;
    perm = Permᴰ.trans (put_keeps e b h).perm (Permᴰ.cons refl r.perm);
    sound = put-sound e k r.sound;
  }

  pub release-fits : (ok : Item → Bool) → Fits (release ok b) (on_entries (without ok) c)
  release-fits ok = record {
    size = release-size ok b ∙ r.size;
    perm = rw (release-items ok b, without_is ok c.entries) (perm-remove ok r.perm);
    sound = release-sound ok r.sound;
  }

  pub edit-fits : (ok : Item → Bool) (g : Item → Item) → ((e : Item) → item_size (g e) ≡ item_size e) → Fits (edit ok g b) (on_entries (map (alter ok g)) c)
  edit-fits ok g q = record { size = edit-size ok g q b ∙ r.size; perm = rw edit-items (perm-map (alter ok g) r.perm); sound = edit-sound ok g q r.sound }

  pub reshape-fits : (h a : ℕ) → a % 4 ≡ 0 → own h a b ≡ true → Fits (reshape h a b) (on_entries (map (alter (is h) (on_data (sized a)))) c)
  reshape-fits h a q t =
      let k = own-shaped h a b t in
      record { size = k.size ∙ r.size; perm = rw k.same (perm-map (alter (is h) (on_data (sized a))) r.perm); sound = reshape-sound h a q r.sound }

  -- a bay that has not the handle
  pub absent-fits : (h : ℕ) (f : List ℕ → List ℕ) → count (is h) (items b) ≡ 0 → Fits b (on_entries (map (alter (is h) (on_data f))) c)
  absent-fits h f n = record { size = r.size; perm = rw (alter-none (is h) (on_data f) c.entries (same_count (is h) ∙ n)) r.perm; sound = r.sound }

  pub high_fits : (n : ℕ) → n % 4 ≡ 0 → n ≤ bay_sum b → Fits (take_high n b) (less n c)
  high_fits n q h = record { size = omega (arith, (cut-less n b h).size, r.size); perm = rw (cut-less n b h).same r.perm; sound = cut-sound n q h r.sound }

  pub less-fits : (n : ℕ) → n % 4 ≡ 0 → n ≤ bay_sum b → Fits (packed_less n b) (less n c)
  less-fits n q h = record { size = omega (arith, (packed-less n b h).size, r.size); perm = rw (packed-less n b h).same r.perm; sound = less-sound n q r.sound }

  pub compact-fits : Fits (compact_bay b) c
  compact-fits = record { size = tidy-size b ∙ r.size; perm = rw tidy-items r.perm; sound = tidy-sound r.sound }

  pub grow-fits : (n : ℕ) → n % 4 ≡ 0 → Fits (join_bays b (gap n [])) (bay (c.capacity + n) c.entries)
  grow-fits n q = record {
    size = omega (arith, bsize-weld b (gap n []), bsize-gap n [], r.size);
    perm = rw (items-weld, items-gap) (Permᴰ.trans (Permᴰ.append-nil (items b)) r.perm);
    sound = weld-sound r.sound (gap-sound n q s-nil);
  }

pub fresh-fits : (n : ℕ) → n % 4 ≡ 0 → Fits (gap n []) (bay n [])
fresh-fits n q = record { size = omega (arith, bsize-gap n []); perm = rw (items-gap n []) Permᴰ.nil; sound = gap-sound n q s-nil }

pub perm-append : {a b c d : List Item} → Permᴰ a b → Permᴰ c d → Permᴰ (a ++ c) (b ++ d)
perm-append {b = b} {c = c} p q = Permᴰ.trans (Permᴰ.append_right c p) (Permᴰ.append_left b q)

pub join-fits : (n : ℕ) → n % 4 ≡ 0 → {b b' : List Cell} {c c' : Bay} → Fits b c → Fits b' c' → Fits (join_bays b (gap n b')) (bay (c.capacity + n + c'.capacity) (c.entries ++ c'.entries))
join-fits n q {b} {b'} r r' = record {
  size = omega (arith, bsize-weld b (gap n b'), bsize-gap n b', r.size, r'.size);
  perm = rw (items-weld, items-gap) (perm-append r.perm r'.perm);
  sound = weld-sound r.sound (gap-sound n q r'.sound);
}
