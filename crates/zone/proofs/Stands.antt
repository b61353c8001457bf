-- Where bytes stand in the zone: each live handle's from the offset in its master, each fixed block's from its pointer.
use mathlib.Core.Path.{◌≡◌, refl, ap, ap₂, sym, ◌∙◌}
use mathlib.Core.Option.{Option, get_or}
use mathlib.Core.List.{List, [], ◌∷◌, ◌++◌, append_assoc, append-nil}
use Prim.Native.Nat.{ℕ, zero, suc, ◌+◌, ◌*◌, ◌/◌, ◌<◌}
use native.Mathlib.Omega.{arith}
use native.Mathlib.Nat.{add_assoc}
use lib.ListN.{length, length-append, length-replicate, take, drop}
use lib.Seq.{take_at, drop_at}
use Rattle.calls.specs.Bays.{Bays, last, more, find_s}
use Rattle.zone.specs.PickBays.{AllS}
use Rattle.zone.proofs.BaysLaws.{Both, absent, present, cond_both, or_else-both}
use Rattle.bay.proofs.Each.{Each, nothing, just}
use Rattle.kinds.specs.Kinds.{Item, item_size, is, tag_of, header_of, code_of}
use Rattle.kinds.proofs.KindLaws.{tag-long}
use Rattle.calls.specs.State.{get, Fixed, fsize, pointer, handles_from}
use Rattle.bay.specs.Bay.{Cell, held, bay_size, items}
use Rattle.bay.proofs.Sound.{Block, Sound, s-nil, s-end, s-free, s-held}
use Rattle.block_type.specs.Limits.{fixed_header, first_block, master_size, type_unit, zone_header}
use Rattle.zone.specs.Work.{Zone}
use Rattle.zone.proofs.Places.{Tiled, tile-last, tile-more, Placed}
use Rattle.zone.proofs.Bytes.{big, free_bytes, item_bytes, cell_bytes, fixed_head, fixed_bytes, block_bytes, where_in, where_s, next_of, master_of, master_bytes, header_bytes, zone_bytes}
use Rattle.zone.proofs.Handles.{length-handles}

pub record Stands (bs : List ℕ) (at : ℕ) (v : List ℕ) : Type 0 where
  pub front : List ℕ
  pub rest : List ℕ
  pub split : bs ≡ front ++ (v ++ rest)
  pub place : length front ≡ at

-- so the bytes are read from there
pub stands_read : {bs v : List ℕ} {at : ℕ} → Stands bs at v → take (length v) (drop at bs) ≡ v
stands_read {v = v} s = rw s.split (rw (drop_at s.front (v ++ s.rest) _ s.place) (take_at v s.rest (length v) refl))

pub stands_here : (v rest : List ℕ) → Stands (v ++ rest) 0 v
stands_here v rest = record { front = []; rest = rest; split = refl; place = refl }

pub stands_after : (xs : List ℕ) (n : ℕ) {bs v : List ℕ} {at : ℕ} → length xs ≡ n → Stands bs at v → Stands (xs ++ bs) (n + at) v
stands_after xs n {v = v} q s = record { front = xs ++ s.front; rest = s.rest; split = ap (xs ++◌) s.split ∙ sym (append_assoc xs s.front (v ++ s.rest)); place = omega (arith, length-append xs s.front, s.place) }

pub stands-before : {xs v : List ℕ} {at : ℕ} (bs : List ℕ) → Stands xs at v → Stands (xs ++ bs) at v
stands-before {v = v} bs s = record { front = s.front; rest = s.rest ++ bs; split = ap (◌++ bs) s.split ∙ simp append_assoc; place = s.place }

pub length-free : (n : ℕ) → Block n → length (free_bytes n) ≡ n
length-free n b = simp (length-replicate) (omega (arith, b))

item-long : (e : Item) → length (item_bytes e) ≡ item_size e
item-long e = omega (arith, length-append (tag_of e) e.bytes, tag-long e)

pub length-cells : {cs : List Cell} → Sound cs → length (cell_bytes cs) ≡ bay_size cs
length-cells s-nil = refl
length-cells (s-end {n = n} b) = length-append (free_bytes n) [] ∙ ap (◌+ 0) (length-free n b)
length-cells (s-free {n = n} {e = e} {cs = cs} b s) = length-append (free_bytes n) (cell_bytes (held e ∷ cs)) ∙ ap₂ ◌+◌ (length-free n b) (length-cells s)
length-cells (s-held {e = e} {cs = cs} b s) = length-append (item_bytes e) (cell_bytes cs) ∙ ap₂ ◌+◌ (item-long e) (length-cells s)

-- an item's bytes stand where its handle is found, counted from p
pub record At (bs : List ℕ) (p : ℕ) (e : Item) (q : ℕ) : Type 0 where
  pub off : ℕ
  pub found : q ≡ p + off
  pub stands : Stands bs off e.bytes

shift : (xs : List ℕ) (n : ℕ) {bs : List ℕ} {p q : ℕ} {e : Item} → length xs ≡ n → At bs (p + n) e q → At (xs ++ bs) p e q
shift xs n {p = p} k a = record { off = n + a.off; found = omega (arith, a.found); stands = stands_after xs n k a.stands }

more-after : {bs : List ℕ} {p q : ℕ} {e : Item} (cs : List ℕ) → At bs p e q → At (bs ++ cs) p e q
more-after cs a = record { off = a.off; found = a.found; stands = stands-before cs a.stands }

pub weaken-both : {A B : Type 0} {R Q : A → B → Type 0} {a : Option A} {b : Option B} → ((x : A) (y : B) → R x y → Q x y) → Both R a b → Both Q a b
weaken-both h absent = absent
weaken-both h (present {a = x} {b = y} r) = present (h x y r)

data-stand : (e : Item) → Stands (item_bytes e) (header_of e) e.bytes
data-stand e = record { front = big 2 (code_of e * type_unit + item_size e / 2) ++ tag_of e; rest = []; split = simp append-nil; place = omega (arith, tag-long e) }

pub in_cells : (h p : ℕ) {cs : List Cell} → Sound cs → Both (At (cell_bytes cs) p) (get (is h) (items cs)) (where_in h p cs)
in_cells h p s-nil = absent
in_cells h p (s-end b) = absent
in_cells h p (s-free {n = n} b s) = weaken-both (λ x y a. shift (free_bytes n) n (length-free n b) a) (in_cells h (p + n) s)
in_cells h p (s-held {e = e} {cs = cs} b s) =
    cond_both (is h e) (is h e) refl
    (λ t. present (record { off = header_of e; found = refl; stands = stands-before (cell_bytes cs) (data-stand e) }))
    (weaken-both (λ x y a. shift (item_bytes e) (item_size e) (item-long e) a) (in_cells h (p + item_size e) s))

pub in_blocks : (h p : ℕ) (s : Bays (List Cell) Fixed) → AllS Sound s → Both (At (block_bytes s) p) (find_s (λ (b : List Cell). get (is h) (items b)) s) (where_s h p s)
in_blocks h p (last b) d = in_cells h p d
in_blocks h p (more b x s) d =
    or_else-both (weaken-both (λ e q a. more-after (fixed_bytes x ++ block_bytes s) a) (in_cells h p d.0))
    (weaken-both (λ e q a. shift (cell_bytes b) (bay_size b) (length-cells d.0) (shift (fixed_bytes x) (fsize x) (omega arith) a)) (in_blocks h (p + bay_size b + fsize x) s d.1))

length-masters : (m : ℕ) (z : Zone) (hs : List ℕ) → length (master_bytes m z hs) ≡ master_size * length hs
length-masters m z [] = refl
length-masters m z (h ∷ hs) = omega (arith, length-masters m z hs)

pub in-zone : {v : List ℕ} {at : ℕ} (m : ℕ) (z : Zone) → Stands (block_bytes z.bays) at v → Stands (zone_bytes m z) (first_block m + at) v
in-zone m z s = rw (add_assoc zone_header (master_size * m) _) (stands_after (header_bytes m z) zone_header refl (stands_after (master_bytes m z (handles_from zone_header m)) (master_size * m) (omega (arith, length-masters m z (handles_from zone_header m), length-handles zone_header m)) s))

both-each : {A B : Type 0} {R : A → B → Type 0} {a : Option A} {b : Option B} (P : A → B → Type 0) (d : B) → ((x : A) (y : B) → R x y → P x y) → Both R a b → Each (λ (x : A). P x (get_or b d)) a
both-each P d f absent = nothing
both-each P d f (present r) = just (f _ _ r)

-- a live handle's bytes stand in the zone, from the offset in its master
pub handle-stands : (m h : ℕ) (z : Zone) → AllS Sound z.bays → Each (λ (e : Item). Stands (zone_bytes m z) (master_of m z h) e.bytes) (find_s (λ (b : List Cell). get (is h) (items b)) z.bays)
handle-stands m h z d =
    both-each (λ e q. Stands (zone_bytes m z) q e.bytes) (next_of h z.chain) (λ e q a. rw a.found (in-zone m z a.stands)) (in_blocks h (first_block m) z.bays d)

-- a master stands at its handle
pub master-stands : (m : ℕ) (z : Zone) (i : ℕ) → i < m → Stands (zone_bytes m z) (zone_header + master_size * i) (big 4 (master_of m z (zone_header + master_size * i)))
master-stands m z i l = stands_after (header_bytes m z) zone_header refl (stands-before (block_bytes z.bays) (nth zone_header m i (zone_header + master_size * i) l refl))
  where
    nth : (h n i k : ℕ) → i < n → h + master_size * i ≡ k → Stands (master_bytes m z (handles_from h n)) (master_size * i) (big 4 (master_of m z k))
    nth h zero i k l e = absurd (omega arith)
    nth h (suc n) zero k l e = let q : k ≡ h = omega arith in rw q (stands_here (big 4 (master_of m z h)) (master_bytes m z (handles_from (h + master_size) n)))
    nth h (suc n) (suc i) k l e = let q : master_size * suc i ≡ master_size + master_size * i = omega arith in rw q (stands_after (big 4 (master_of m z h)) master_size refl (nth (h + master_size) n i k (omega arith) (omega arith)))

-- what holds of each fixed block
abbrev pub AllF : (Fixed → Type 0) → Bays (List Cell) Fixed → Type 0
AllF D (last b) = Unit {0}
AllF D (more b x s) = D x × AllF D s

all_map : (D E : Fixed → Type 0) → ((x : Fixed) → D x → E x) → (s : Bays (List Cell) Fixed) → AllF D s → AllF E s
all_map D E h (last b) d = tt
all_map D E h (more b x s) d = (h x d.0, all_map D E h s d.1)

record FixedAt (bs : List ℕ) (p : ℕ) (x : Fixed) : Type 0 where
  pub off : ℕ
  pub found : pointer x ≡ p + off
  pub stands : Stands bs off x.bytes

fixed-data : (x : Fixed) → Stands (fixed_bytes x) fixed_header x.bytes
fixed-data x = record { front = fixed_head x; rest = []; split = simp append-nil; place = refl }

fixed-at : {p end : ℕ} {s : Bays (List Cell) Fixed} → AllS Sound s → Tiled p s end → AllF (FixedAt (block_bytes s) p) s
fixed-at d (tile-last e) = tt
fixed-at d (tile-more {p = p} {b = b} {x = x} {s = s} e t) = (
  record { off = bay_size b + fixed_header; found = omega arith; stands = stands_after (cell_bytes b) (bay_size b) (length-cells d.0) (stands-before (block_bytes s) (fixed-data x)) },
  all_map (FixedAt (block_bytes s) (x.place + fsize x)) (FixedAt (cell_bytes b ++ (fixed_bytes x ++ block_bytes s)) p)
      (λ y a. record {
        off = bay_size b + (fsize x + a.off);
        found = omega (arith, a.found);
        stands = stands_after (cell_bytes b) (bay_size b) (length-cells d.0) (stands_after (fixed_bytes x) (fsize x) (omega arith) a.stands);
      })
      s (fixed-at d.1 t),
)

-- each fixed block's bytes stand in the zone, from its pointer
pub pointers-stand : (m : ℕ) (z : Zone) → AllS Sound z.bays → Placed m z → AllF (λ (x : Fixed). Stands (zone_bytes m z) (pointer x) x.bytes) z.bays
pointers-stand m z d g = all_map (FixedAt (block_bytes z.bays) (first_block m)) _ (λ x a. rw a.found (in-zone m z a.stands)) z.bays (fixed-at d g.tiled)
