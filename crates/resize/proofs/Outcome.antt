-- After an accepted resize the block of the handle has up4 c bytes: "the common first bytes stay, added bytes are zero".
use mathlib.Core.Path.{◌≡◌, refl, sym, ap, ◌∙◌}
use mathlib.Core.Bool.{Bool, true, false, cond, ◌&&◌, false≢true, true≢false}
use mathlib.Core.Option.{Option, none, some, get_or}
use mathlib.Core.List.{List, [], ◌∷◌, map}
use Prim.Native.Nat.{ℕ, ◌+◌, ◌-◌, ◌≤◌}
use native.Mathlib.Omega.{arith}
use lib.ListN.{length}
use lib.Dec.{eqb}
use borrow.Author.Tests.{eqb-true}
use Rattle.bigendian.specs.BigEndian.{Bytes}
use Rattle.block_type.specs.Limits.{reloc_header, up4}
use Rattle.calls.specs.Calls.{by_handle, Answer, told, shows, Call, resize, size, view}
use Rattle.calls.specs.Bays.{Bays, last, more, over, or_else, map_s, max_s}
use Rattle.zone.specs.PickBays.{on_low}
use Rattle.kinds.specs.Kinds.{Item, item, is, on_data}
use Rattle.kinds.proofs.KindLaws.{is-self}
use Rattle.calls.specs.State.{get, alter, sized, Fixed, content, own_sum}
use Rattle.calls.specs.Table.{below, is_none}
use Rattle.calls.proofs.First.{or_left}
use Rattle.calls.proofs.Counted.{get_none}
use Rattle.bay.specs.Bay.{Cell, items, bay_sum, release, resized, reshape}
use Rattle.bay.specs.Counted.{count, room_for, live}
use Rattle.zone.specs.Search.{own, resize_in}
use Rattle.zone.specs.Work as Work
use Rattle.zone.specs.Work.{Zone, work}
use Rattle.zone.specs.Call.{zone_in, call}
use Rattle.bay.proofs.Each.{Each, nothing, just, each_over, each-cond, each_weaken, each-or_else}
use Rattle.bay.proofs.Laws.{release-items}
use Rattle.zone.proofs.Sums.{map_s-zero}
use Rattle.bay.proofs.Resize.{length-sized}
use Rattle.zone.proofs.Own.{own-shaped}
use Rattle.zone.proofs.Found.{resize-found, block-named}
use Rattle.zone.proofs.Walk.{each-got}
use Rattle.zone.proofs.HowMany.{count-remove-same}
use Rattle.zone.proofs.Grouped.{single-live}
use Rattle.zone.proofs.Run.{well-whole}
use Rattle.zone.proofs.Once.{Named, unnamed, named, often, count-get, block_of}
use Rattle.call_laws.proofs.Accepted.{Accepted, accepted, cleared, before, after}
use Rattle.call_laws.proofs.Named.{size-there, view-there}
use Rattle.call_laws.proofs.Placed.{low-found}

-- ---- the item of a handle, in one bay

get-alter : (h a : ℕ) (es : List Item) → get (is h) (map (alter (is h) (on_data (sized a))) es) ≡ over (resized a) (get (is h) es)
get-alter h a [] = refl
get-alter h a (i ∷ es) = go (is h i) refl (get-alter h a es)
  where
    go : (t : Bool) → is h i ≡ t → get (is h) (map (alter (is h) (on_data (sized a))) es) ≡ over (resized a) (get (is h) es) → get (is h) (map (alter (is h) (on_data (sized a))) (i ∷ es)) ≡ over (resized a) (get (is h) (i ∷ es))
    go true q f = rw (q, q)
    go false q f = rw (q, q) f

-- ---- in the bays

own-has : (h a : ℕ) (b : List Cell) → own h a b ≡ true → count (is h) (items b) ≡ 1
own-has h a b t = go (eqb (count (is h) (items b)) 1) refl t
  where
    go : (u : Bool) → eqb (count (is h) (items b)) 1 ≡ u → cond u (room_for a (bay_sum b) (get (is h) (items b))) false ≡ true → count (is h) (items b) ≡ 1
    go true e t = eqb-true (count (is h) (items b)) 1 e
    go false e t = absurd (false≢true t)

-- where the own bay has room, the item is found at its new size
own-found : (h a : ℕ) (s : Bays (List Cell) Fixed) → live h s ≤ 1
    → Each (λ (u : Bays (List Cell) Fixed). (1 ≤ live h s) × (block_of h u ≡ over (resized a) (block_of h s))) (on_low (own h a) (reshape h a) s)
own-found h a (last b) l =
    each-cond (own h a b)
    (λ t. just (omega (arith, own-has h a b t), ap (get (is h)) (own-shaped h a b t).same ∙ get-alter h a (items b))) nothing
own-found h a (more b x s) l =
    each-cond (own h a b)
    (λ t. just (omega (arith, own-has h a b t), ap (λ (o : Option Item). or_else o (block_of h s)) (ap (get (is h)) (own-shaped h a b t).same ∙ get-alter h a (items b)) ∙ first (get (is h) (items b)) refl (own-has h a b t)))
    (each_over (more b x) (λ u q. (omega (arith, q.0), later u q.0 q.1)) (own-found h a s (omega arith)))
  where
    first : (o : Option Item) → get (is h) (items b) ≡ o → count (is h) (items b) ≡ 1 → or_else (over (resized a) o) (block_of h s) ≡ over (resized a) (or_else o (block_of h s))
    first none e k = absurd (omega (arith, count-get (is h) (items b) (omega arith), ap often e))
    first (some i) e k = refl

    later : (u : Bays (List Cell) Fixed) → 1 ≤ live h s → block_of h u ≡ over (resized a) (block_of h s) → or_else (get (is h) (items b)) (block_of h u) ≡ over (resized a) (or_else (get (is h) (items b)) (block_of h s))
    later u k q =
        let n = get_none (is h) (items b) (omega arith) in
        ap (λ (o : Option Item). or_else o (block_of h u)) n ∙ q ∙ sym (ap (λ (o : Option Item). over (resized a) (or_else o (block_of h s))) n)

-- ---- the call

-- what is asked of a buffer, and the buffer that a resize leaves
abbrev asked : Call → List ℕ → Answer
asked c s = (call c s).answer

abbrev left : ℕ → ℕ → List ℕ → List ℕ
left h c s = (call (resize h c) s).bytes

-- the data of a handle, by the calls size and view
abbrev shown : ℕ → List ℕ → List ℕ
shown h s = (asked (view (by_handle h) 0 (asked (size (by_handle h)) s).value) s).bytes

pub record NewSize (h c : ℕ) (s : List ℕ) : Type 0 where
  pub long : asked (size (by_handle h)) (left h c s) ≡ told 0 (up4 c)
  pub kept : asked (view (by_handle h) 0 (up4 c)) (left h c s) ≡ shows 0 (sized (up4 c) (shown h s))

module _ (s : List ℕ) (h c : ℕ) (y : Bytes s) (e : (asked (resize h c) s).number ≡ 0) where
  ok : Accepted (resize h c) s
  ok = accepted (resize h c) s (λ n v. refl) refl e

  abbrev z : Zone
  z = zone_in s

  abbrev a : ℕ
  a = up4 c

  once : live h z.bays ≤ 1
  once = single-live z (well-whole s y ok.well) h

  -- the data of the handle in some bays
  abbrev held : Bays (List Cell) Fixed → Option (List ℕ)
  held u = content items (by_handle h) u

  gone : live h (map_s (release (is h)) z.bays) ≡ 0
  gone = map_s-zero (λ (b : List Cell). count (is h) (items b)) (release (is h)) (λ b. ap (count (is h)) (release-items (is h) b) ∙ count-remove-same (is h) (items b)) z.bays

  after-found : (d : List ℕ) → block_of h z.bays ≡ some (item h d) → Each (λ (u : Bays (List Cell) Fixed). held u ≡ some (sized a d)) (resize_in h a (item h d) z.bays)
  after-found d f =
      let i : Item = item h d in
      each_weaken (λ u q. ap (over (λ (j : Item). j.bytes)) q)
      (each-or_else (each_weaken (λ u q. q.1 ∙ ap (over (resized a)) f) (own-found h a z.bays once)) (low-found (is h) (resized a i) (is-self h (sized a d)) (map_s (release (is h)) z.bays) gone))

  abbrev next : Zone
  next = (work (resize h c) z).next

  -- the block's data, and what becomes of them
  kept-held : (d : List ℕ) × (held z.bays ≡ some d) × (held next.bays ≡ some (sized a d))
  kept-held = go (block-named h z.bays) refl (or_left _ _ (cleared ok 6 refl)) (or_left _ _ (cleared ok 5 refl))
    where
      go : {o : Option Item} → Named h o → block_of h z.bays ≡ o → is_none (over length (over (λ (j : Item). j.bytes) o)) ≡ false
          → below (own_sum items bay_sum h z.bays) (a - get_or (over length (over (λ (j : Item). j.bytes) o)) 0) && below (max_s bay_sum z.bays) (reloc_header + a) ≡ false
          → (d : List ℕ) × (held z.bays ≡ some d) × (held next.bays ≡ some (sized a d))
      go unnamed f n m = absurd (true≢false n)
      go (named {d = d}) f n m =
          let g = ap (over (λ (j : Item). j.bytes)) f in (
            d,
            g,
            ap (λ (o : Option (List ℕ)). held (Work.resize_in h a (get_or o []) z.bays)) g
                ∙ each-got {Q = λ (u : Bays (List Cell) Fixed). held u ≡ some (sized a d)} (resize-found h a d z.bays once f) m (after-found d f),
          )

  abbrev d : List ℕ
  d = kept-held.0

  shown-is : shown h s ≡ d
  shown-is =
      let n : (asked (size (by_handle h)) s).value ≡ length d = ap (λ (x : Answer). x.value) (before ok y (size (by_handle h)) ∙ size-there z (by_handle h) kept-held.1) in
      ap (λ (x : Answer). x.bytes) (before ok y (view (by_handle h) 0 (asked (size (by_handle h)) s).value) ∙ view-there z (by_handle h) d (asked (size (by_handle h)) s).value n kept-held.1)

  pub resize-told : NewSize h c s
  resize-told = record {
    long = after ok y tt (size (by_handle h)) ∙ size-there next (by_handle h) kept-held.2 ∙ ap (told 0) (length-sized a d);
    kept = after ok y tt (view (by_handle h) 0 a) ∙ view-there next (by_handle h) (sized a d) a (sym (length-sized a d)) kept-held.2 ∙ ap (λ (x : List ℕ). shows 0 (sized a x)) (sym shown-is);
  }
