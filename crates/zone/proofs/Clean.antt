-- What holds of every block's data: bytes, and no more than a header can say. Kept by each call that is fed with bytes.
use mathlib.Core.Path.{◌≡◌, subst, refl}
use mathlib.Core.Bool.{Bool, true, false, cond}
use mathlib.Core.Option.{Option}
use mathlib.Core.List.Permᴰ
use mathlib.Core.List.{List, [], ◌∷◌, ◌++◌, map, Permᴰ}
use Prim.Native.Nat.{ℕ, ◌+◌, ◌-◌, ◌%◌, ◌≤◌, ◌<◌}
use native.Mathlib.Omega.{arith}
use lib.ListN.{length, take, replicate, length-replicate}
use lib.Dec.{leb, eqb}
use borrow.Author.Tests.{leb-true}
use Rattle.bigendian.specs.BigEndian.{Bytes}
use Rattle.bigendian.proofs.Bytes.{bytes_take, bytes-zeros, bytes-append}
use Rattle.calls.specs.Bays.{Bays, last, more, on_first, map_s, on_fixed, on_last, first_s, last_s, find_s}
use Rattle.zone.specs.PickBays.{on_low, on_high, on_join}
use Rattle.kinds.specs.Kinds.{Item, item_size, is, Written, item, holding, on_data}
use Rattle.kinds.proofs.KindLaws.{bytes_of, written-item, written-holding, is-header}
use Rattle.calls.specs.State.{get, alter, sized, Fixed, fsize, pointer, alter_fixed, new_item, new_fixed}
use Rattle.calls.specs.Pages.{new_page}
use Rattle.bay.specs.Bay.{Cell, bay_sum, items, gap, join_bays, compact_bay, put, take_high, release, edit, resized, reshape}
use Rattle.bay.specs.Counted.{remove}
use Rattle.bay.proofs.Each.{Each, nothing, just, each-cond, each_over, each-or_else, each_weaken}
use Rattle.bay.proofs.Holes.{put_keeps}
use Rattle.bay.proofs.Laws.{cut-less, tidy-items, items-weld, items-gap, release-items, edit-items}
use Rattle.bay.proofs.Resize.{length-sized}
use Rattle.zone.proofs.Own.{own-shaped}
use Rattle.block_type.specs.Limits.{reloc_limit, fixed_limit, fixed_header, up4, largest_block, argument_range, page_limit, stamp_range}
use Rattle.zone.specs.Search.{lookup, own}
use Rattle.bay.proofs.Sound.{Block}
use Rattle.zone.proofs.Walk.{Closed, any, Feeds, Changes}
use Rattle.zone.specs.Work.{Zone}

-- ---- of every bay and every fixed block

pub data Every {B F : Type 0} (P : B → Type 0) (Q : F → Type 0) : Bays B F → Type 0 where
  e-last : {b : B} → P b → Every P Q (last b)
  e-more : {b : B} {x : F} {s : Bays B F} → P b → Q x → Every P Q s → Every P Q (more b x s)

module _ {B F : Type 0} {P : B → Type 0} {Q : F → Type 0} where
  pub every-low : (t : B → Bool) (f : B → B) → ((b : B) → t b ≡ true → P b → P (f b)) → {s : Bays B F} → Every P Q s → Each (Every P Q) (on_low t f s)
  every-low t f h (e-last {b = b} p) = each-cond (t b) (λ k. just (e-last (h b k p))) nothing
  every-low t f h (e-more {b = b} {x = x} p q e) = each-cond (t b) (λ k. just (e-more (h b k p) q e)) (each_over (more b x) (λ u r. e-more p q r) (every-low t f h e))

  pub every-high : (t : B → Bool) (f : B → B) (mk : ℕ → F) (e : B) (at : F → ℕ) (end : ℕ) → ((b : B) → t b ≡ true → P b → P (f b)) → ((n : ℕ) → Q (mk n)) → P e
      → {s : Bays B F} → Every P Q s → Each (λ (r : F × Bays B F). Every P Q r.1) (on_high t f mk e at end s)
  every-high t f mk e at end h m z (e-last {b = b} p) = each-cond (t b) (λ k. just (e-more (h b k p) (m end) (e-last z))) nothing
  every-high t f mk e at end h m z (e-more {b = b} {x = x} p q r) =
      each-or_else (each_over _ (λ u k. e-more p q k) (every-high t f mk e at end h m z r))
      (each-cond (t b) (λ k. just (e-more (h b k p) (m (at x)) (e-more z q r))) nothing)

  pub every-join : (t : F → Bool) (j : B → F → B → B) → ((b c : B) (x : F) → P b → Q x → P c → P (j b x c)) → {s : Bays B F} → Every P Q s → Each (Every P Q) (on_join t j s)
  every-join t j h (e-last p) = nothing
  every-join t j h (e-more {b = b} {x = x} p q (e-last {b = c} r)) = each-cond (t x) (λ k. just (e-last (h b c x p q r))) nothing
  every-join t j h (e-more {b = b} {x = x} p q (e-more {b = c} {x = y} r o e)) =
      each-cond (t x) (λ k. just (e-more (h b c x p q r) o e)) (each_over (more b x) (λ u k. e-more p q k) (every-join t j h (e-more r o e)))

  pub every_map : (f : B → B) → ((b : B) → P b → P (f b)) → {s : Bays B F} → Every P Q s → Every P Q (map_s f s)
  every_map f h (e-last {b = b} p) = e-last (h b p)
  every_map f h (e-more {b = b} p q e) = e-more (h b p) q (every_map f h e)

  pub every-fixed : (f : F → F) → ((x : F) → Q x → Q (f x)) → {s : Bays B F} → Every P Q s → Every P Q (on_fixed f s)
  every-fixed f h (e-last p) = e-last p
  every-fixed f h (e-more {x = x} p q e) = e-more p (h x q) (every-fixed f h e)

  pub every_first : (f : B → B) {s : Bays B F} → (P (first_s s) → P (f (first_s s))) → Every P Q s → Every P Q (on_first f s)
  every_first f h (e-last p) = e-last (h p)
  every_first f h (e-more p q e) = e-more (h p) q e

  pub every-last : (f : B → B) {s : Bays B F} → (P (last_s s) → P (f (last_s s))) → Every P Q s → Every P Q (on_last f s)
  every-last f h (e-last p) = e-last (h p)
  every-last f h (e-more p q e) = e-more p q (every-last f h e)

  pub every-find : {X : Type 0} (R : X → Type 0) (f : B → Option X) → ((b : B) → P b → Each R (f b)) → {s : Bays B F} → Every P Q s → Each R (find_s f s)
  every-find R f h (e-last {b = b} p) = h b p
  every-find R f h (e-more {b = b} p q e) = each-or_else (h b p) (every-find R f h e)

-- ---- of every item

pub data Items (P : Item → Type 0) : List Item → Type 0 where
  i-nil : Items P []
  i-cons : {e : Item} {es : List Item} → P e → Items P es → Items P (e ∷ es)

module _ {P : Item → Type 0} where
  pub items-perm : {a b : List Item} → Permᴰ a b → Items P a → Items P b
  items-perm Permᴰ.nil i = i-nil
  items-perm (Permᴰ.cons e p) (i-cons x i) = i-cons (subst P e x) (items-perm p i)
  items-perm (Permᴰ.swap {a = a} {b = b} e q) (i-cons y (i-cons x i)) = rw (← e, ← q) (i-cons x (i-cons y i))
  items-perm (Permᴰ.trans p q) i = items-perm q (items-perm p i)

  pub items-append : {a b : List Item} → Items P a → Items P b → Items P (a ++ b)
  items-append i-nil j = j
  items-append (i-cons x i) j = i-cons x (items-append i j)

  pub items-remove : (ok : Item → Bool) {a : List Item} → Items P a → Items P (remove ok a)
  items-remove ok i-nil = i-nil
  items-remove ok (i-cons {e = e} {es = es} x i) = go (ok e) (items-remove ok i)
    where
      go : (t : Bool) → Items P (remove ok es) → Items P (cond t (remove ok es) (e ∷ remove ok es))
      go true k = k
      go false k = i-cons x k

  pub items_map : (f : Item → Item) → ((e : Item) → P e → P (f e)) → {a : List Item} → Items P a → Items P (map f a)
  items_map f h i-nil = i-nil
  items_map f h (i-cons {e = e} x i) = i-cons (h e x) (items_map f h i)

  pub items-get : (ok : Item → Bool) {a : List Item} → Items P a → Each (λ (e : Item). P e × (ok e ≡ true)) (get ok a)
  items-get ok i-nil = nothing
  items-get ok (i-cons {e = e} x i) = each-cond (ok e) (λ k. just (x, k)) (items-get ok i)

-- ---- bytes

-- ---- data of at most n bytes

pub record Data (n : ℕ) (l : List ℕ) : Type 0 where
  pub bytes : Bytes l
  pub short : length l ≤ n

pub record ItemOk (e : Item) : Type 0 where
  pub written : Written e
  pub short : item_size e ≤ largest_block

pub record FixedOk (x : Fixed) : Type 0 where
  pub holds : Data fixed_limit x.bytes
  pub by4 : fsize x % 4 ≡ 0

abbrev pub BayOk : List Cell → Type 0
BayOk b = Items ItemOk (items b)

pub record Clean (z : Zone) : Type 0 where
  pub clean : Every BayOk FixedOk z.bays

zeros-data : (n k : ℕ) → n ≤ k → Data k (replicate n 0)
zeros-data n k l = record { bytes = bytes-zeros n; short = omega (arith, length-replicate {A = ℕ} n 0) }

sized-data : (a k : ℕ) (l : List ℕ) → a ≤ k → Bytes l → Data k (sized a l)
sized-data a k l q y = record { bytes = bytes-append (take a l) (replicate (a - length l) 0) (bytes_take a l y) (bytes-zeros (a - length l)); short = omega (arith, length-sized a l) }

item_ok : (h : ℕ) {d : List ℕ} → Data reloc_limit d → ItemOk (item h d)
item_ok h {d} y = record { written = written-item h d y.bytes; short = omega (arith, y.short) }

-- the block of a handle, with other data
holding-ok : (h : ℕ) (e : Item) {d : List ℕ} → is h e ≡ true → ItemOk e → Data reloc_limit d → ItemOk (holding e d)
holding-ok h e {d} q k y = record { written = written-holding e d k.written y.bytes; short = omega (arith, y.short, is-header h e q) }

-- a new page
page-ok : (n ck c : ℕ) → n < argument_range → c ≤ page_limit → ck < stamp_range → ItemOk (new_page n ck c)
page-ok n ck c i l k = record { written = (bytes-zeros (up4 c), (i, k)); short = omega (arith, length-replicate {A = ℕ} (up4 c) 0) }

-- a block changed
changed-ok : (ok : Item → Bool) (f : Item → Item) → Changes f → (e : Item) → ItemOk e → ItemOk (alter ok f e)
changed-ok ok f y e d = go (ok e)
  where
    go : (t : Bool) → ItemOk (cond t (f e) e)
    go true = record { written = y.writes e d.written; short = omega (arith, y.long e, d.short) }
    go false = d

alter-data : (h : ℕ) (f : List ℕ → List ℕ) → ((l : List ℕ) → Data reloc_limit l → Data reloc_limit (f l)) → (e : Item) → ItemOk e → ItemOk (alter (is h) (on_data f) e)
alter-data h f k e d = go (is h e) refl
  where
    go : (t : Bool) → is h e ≡ t → ItemOk (cond t (holding e (f e.bytes)) e)
    go true q = holding-ok h e q d (k e.bytes (record { bytes = bytes_of e d.written; short = omega (arith, d.short, is-header h e q) }))
    go false q = d

feed-data : (k : ℕ) (f : List ℕ → List ℕ) → ((l : List ℕ) → length (f l) ≡ length l) → Feeds f → (l : List ℕ) → Data k l → Data k (f l)
feed-data k f q y l d = record { bytes = y.feeds l d.bytes; short = omega (arith, q l, d.short) }

alter-fixed-ok : (p : ℕ) (f : List ℕ → List ℕ) → ((l : List ℕ) → length (f l) ≡ length l) → Feeds f → (x : Fixed) → FixedOk x → FixedOk (alter_fixed p f x)
alter-fixed-ok p f q y x d = go (eqb p (pointer x))
  where
    go : (t : Bool) → FixedOk (cond t (record { place = x.place; bytes = f x.bytes }) x)
    go true = record { holds = feed-data fixed_limit f q y x.bytes d.holds; by4 = omega (arith, q x.bytes, d.by4) }
    go false = d

new-fixed-ok : (n end : ℕ) → Block n → n ≤ fixed_header + fixed_limit → FixedOk (new_fixed n end)
new-fixed-ok n end b lim = record { holds = zeros-data (n - fixed_header) fixed_limit (omega arith); by4 = omega (arith, b, length-replicate {A = ℕ} (n - fixed_header) 0) }

put-ok : (i : Item) → ItemOk i → (b : List Cell) → leb (item_size i) (bay_sum b) ≡ true → BayOk b → BayOk (put i b)
put-ok i d b t p = items-perm (Permᴰ.symm (put_keeps i b (leb-true (item_size i) (bay_sum b) t)).perm) (i-cons d p)

release-ok : (ok : Item → Bool) (b : List Cell) → BayOk b → BayOk (release ok b)
release-ok ok b p = rw (release-items ok b) (items-remove ok p)

join-ok : (b c : List Cell) (n : ℕ) → BayOk b → BayOk c → BayOk (join_bays b (gap n c))
join-ok b c n p q = rw (items-weld b (gap n c), items-gap n c) (items-append p q)

pub clean-closed : Closed Clean
clean-closed = record {
  low = λ z h hs c lim q g. each_weaken (λ b r. record { clean = r }) (every-low _ (put (new_item h c)) (λ b t p. put-ok (new_item h c) (item_ok h (zeros-data (up4 c) reloc_limit (omega arith))) b t p) g.clean);
  high = λ z n b lim g. each_weaken (λ r q. record { clean = q })
      (every-high _ (take_high n) (new_fixed n) [] _ z.len (λ b t p. rw (cut-less n b (leb-true n (bay_sum b) t)).same p) (λ end. new-fixed-ok n end b lim) i-nil g.clean);
  drop = λ z h g. each_weaken (λ e u. record { clean = every_map (release (is h)) (release-ok (is h)) g.clean }) (any (lookup h z));
  join = λ z p g. each_weaken (λ b q. record { clean = q }) (every-join _ _ (λ b c x r q s. join-ok b c (fsize x) r s) g.clean);
  edit = λ z ok f y g. record { clean = every_map (edit ok f) (λ b p. rw (edit-items ok f b) (items_map (alter ok f) (changed-ok ok f y) p)) g.clean };
  edit-fixed = λ z p f y g. record { clean = every-fixed (alter_fixed p f) (alter-fixed-ok p f y.long y) g.clean };
  resize = λ z h a q g. each_weaken (λ e d lim. each_weaken (λ b r. record { clean = r })
      (each-or_else (every-low (own h a) (reshape h a) (λ b t p. rw (own-shaped h a b t).same (items_map (alter (is h) (on_data (sized a))) (alter-data h (sized a) (λ l d. sized-data a reloc_limit l lim d.bytes)) p)) g.clean)
      (every-low _ (put (resized a e)) (λ b t p. put-ok (resized a e) (holding-ok h e d.1 d.0 (sized-data a reloc_limit e.bytes lim (bytes_of e d.0.written))) b t p) (every_map (release (is h)) (release-ok (is h)) g.clean))))
      (every-find (λ (e : Item). ItemOk e × (is h e ≡ true)) (λ (b : List Cell). get (is h) (items b)) (λ b p. items-get (is h) p) g.clean);
  compact_bay = λ z g. record { clean = every_map compact_bay (λ b p. rw (tidy-items b) p) g.clean };
  grow = λ z n q l o g. record { clean = every-last _ (λ p. join-ok (last_s z.bays) [] n p i-nil) g.clean };
  take_high = λ z j n q g. record { clean = every-last _ (λ p. rw (cut-less n (last_s z.bays) (omega (arith, q))).same p) g.clean };
  page = λ z n ck c i lim k a g. each_weaken (λ b r. record { clean = r }) (every-low _ (put (new_page n ck c)) (λ b t p. put-ok (new_page n ck c) (page-ok n ck c i lim k) b t p) g.clean);
  clear = λ z ok f g. record { clean = every_map (release ok) (release-ok ok) g.clean };
  step = λ z g. record { clean = g.clean };
}
