-- A page lies where a relocatable block of as many bytes would lie: both are put into one slot.
use mathlib.Core.Path.{◌≡◌, refl, ap, sym, ◌∙◌}
use mathlib.Core.Bool.{Bool, true, false, cond}
use mathlib.Core.Option.{Option, none, some, get_or}
use mathlib.Core.List.{List, [], ◌∷◌, ◌++◌, map, map-append, append_assoc, append-nil}
use Prim.Native.Nat.{ℕ, suc, ◌+◌, ◌-◌, ◌≤◌}
use native.Mathlib.Omega.{arith}
use lib.Dec.{leb}
use lib.ListN.{length}
use Rattle.block_type.specs.Limits.{fixed_header}
use Rattle.kinds.specs.Kinds.{Item, header_of, item_size}
use Rattle.calls.specs.Bays.{Bays, last, more, over, on_lowest, concat_s}
use Rattle.calls.specs.State.{Fixed}
use Rattle.bay.specs.Bay.{Cell, free, held, bay_sum, items, gap, packed, Hole, holes, choose, put}
use Rattle.bay.proofs.Laws.{items-gap, items-packed, items-append}
use Rattle.bay.proofs.Holes.{Put, in-hole, compacted, put_is}
use Rattle.bay.specs.Counted.{count}
use Rattle.structure.specs.Structure.{Block, cell, fixed, sizes, place_of}
use Rattle.zone.specs.Group.{flat_bay, flatten}
use Rattle.zone.specs.Work.{place_low}
use Rattle.zone.proofs.HowMany.{many}

-- ---- the slot of a block of n bytes

abbrev fill_n : ℕ → Item → Hole → List Cell
fill_n n e x = x.before ++ (held e ∷ gap (x.size - n) x.after)

abbrev put_n : ℕ → Item → List Cell → List Cell
put_n n e cs = get_or (over (fill_n n e) (choose n (holes cs))) (packed (items cs) (held e ∷ gap (bay_sum cs - n) []))

record Spot (n : ℕ) (cs : List Cell) : Type 0 where
  pre : List Cell
  post : List Cell
  is : (e : Item) → put_n n e cs ≡ pre ++ (held e ∷ post)

packed-append : (es : List Item) (t : List Cell) → packed es t ≡ packed es [] ++ t
packed-append [] t = refl
packed-append (e ∷ es) t = ap (held e ∷◌) (packed-append es t)

spot : (n : ℕ) (cs : List Cell) → Spot n cs
spot n cs = go (choose n (holes cs)) refl
  where
    go : (o : Option Hole) → choose n (holes cs) ≡ o → Spot n cs
    go none q = record { pre = packed (items cs) []; post = gap (bay_sum cs - n) []; is = λ e. ap (λ (o : Option Hole). get_or (over (fill_n n e) o) (packed (items cs) (held e ∷ gap (bay_sum cs - n) []))) q ∙ packed-append (items cs) (held e ∷ gap (bay_sum cs - n) []) }
    go (some x) q = record { pre = x.before; post = gap (x.size - n) x.after; is = λ e. ap (λ (o : Option Hole). get_or (over (fill_n n e) o) (packed (items cs) (held e ∷ gap (bay_sum cs - n) []))) q }

pub record Slot (n : ℕ) (s : Bays (List Cell) Fixed) : Type 0 where
  pub pre : List Block
  pub post : List Block
  pub is : (e : Item) → item_size e ≡ n → flatten (place_low e s) ≡ pre ++ (cell (held e) ∷ post)

abbrev low_n : ℕ → Item → Bays (List Cell) Fixed → Bays (List Cell) Fixed
low_n n e s = on_lowest (λ b. leb n (bay_sum b)) (put_n n e) s

record SlotN (n : ℕ) (s : Bays (List Cell) Fixed) : Type 0 where
  pre : List Block
  post : List Block
  is : (e : Item) → flatten (low_n n e s) ≡ pre ++ (cell (held e) ∷ post)

flat-spot : {n : ℕ} {b : List Cell} (k : Spot n b) (r : List Block) (e : Item) → flat_bay (put_n n e b) r ≡ map cell k.pre ++ (cell (held e) ∷ flat_bay k.post r)
flat-spot k r e = ap (λ (d : List Cell). flat_bay d r) (k.is e) ∙ ap (◌++ r) (map-append cell k.pre (held e ∷ k.post)) ∙ append_assoc (map cell k.pre) (cell (held e) ∷ map cell k.post) r

slot_n : (n : ℕ) (s : Bays (List Cell) Fixed) → SlotN n s
slot_n n (last b) = let k = spot n b in record { pre = map cell k.pre; post = flat_bay k.post []; is = λ e. flat-spot k [] e }
slot_n n (more b x s) = go (leb n (bay_sum b)) refl (slot_n n s)
  where
    go : (t : Bool) → leb n (bay_sum b) ≡ t → SlotN n s → SlotN n (more b x s)
    go true q m =
        let k = spot n b in
        record { pre = map cell k.pre; post = flat_bay k.post (fixed x.bytes ∷ flatten s); is = λ e. ap (λ (t : Bool). flatten (cond t (more (put_n n e b) x s) (more b x (low_n n e s)))) q ∙ flat-spot k (fixed x.bytes ∷ flatten s) e }
    go false q m = record {
      pre = flat_bay b (fixed x.bytes ∷ m.pre);
      post = m.post;
      is = λ e. ap (λ (t : Bool). flatten (cond t (more (put_n n e b) x s) (more b x (low_n n e s)))) q
          ∙ ap (λ (l : List Block). flat_bay b (fixed x.bytes ∷ l)) (m.is e) ∙ sym (append_assoc (map cell b) (fixed x.bytes ∷ m.pre) (cell (held e) ∷ m.post));
    }

pub slot : (n : ℕ) (s : Bays (List Cell) Fixed) → Slot n s
slot n s = let k = slot_n n s in record { pre = k.pre; post = k.post; is = λ e q. ap (λ (m : ℕ). flatten (low_n m e s)) q ∙ k.is e }

-- ---- where its data lie, if no other block passes the test

abbrev pub passing : (Item → Bool) → List Block → ℕ
passing ok [] = 0
passing ok (cell (free n) ∷ bs) = passing ok bs
passing ok (cell (held e) ∷ bs) = cond (ok e) (suc (passing ok bs)) (passing ok bs)
passing ok (fixed d ∷ bs) = passing ok bs

passing-append : (ok : Item → Bool) (a b : List Block) → passing ok (a ++ b) ≡ passing ok a + passing ok b
passing-append ok [] b = omega arith
passing-append ok (cell (free n) ∷ a) b = passing-append ok a b
passing-append ok (fixed d ∷ a) b = passing-append ok a b
passing-append ok (cell (held e) ∷ a) b = go (ok e) (passing-append ok a b)
  where
    go : (t : Bool) → passing ok (a ++ b) ≡ passing ok a + passing ok b → cond t (suc (passing ok (a ++ b))) (passing ok (a ++ b)) ≡ cond t (suc (passing ok a)) (passing ok a) + passing ok b
    go true q = omega arith
    go false q = q

passing-bay : (ok : Item → Bool) (cs : List Cell) (r : List Block) → passing ok (flat_bay cs r) ≡ count ok (items cs) + passing ok r
passing-bay ok [] r = omega arith
passing-bay ok (free n ∷ cs) r = passing-bay ok cs r
passing-bay ok (held e ∷ cs) r = go (ok e) (passing-bay ok cs r)
  where
    go : (t : Bool) → passing ok (flat_bay cs r) ≡ count ok (items cs) + passing ok r → cond t (suc (passing ok (flat_bay cs r))) (passing ok (flat_bay cs r)) ≡ cond t (suc (count ok (items cs))) (count ok (items cs)) + passing ok r
    go true q = omega arith
    go false q = q

pub passing-strip : (ok : Item → Bool) (s : Bays (List Cell) Fixed) → passing ok (flatten s) ≡ many ok s
passing-strip ok (last b) = omega (arith, passing-bay ok b [])
passing-strip ok (more b x s) = omega (arith, passing-bay ok b (fixed x.bytes ∷ flatten s), passing-strip ok s)

pub place_inside : (ok : Item → Bool) (e : Item) (post : List Block) → ok e ≡ true → (at : ℕ) (pre : List Block) → passing ok pre ≡ 0 → place_of ok at (pre ++ (cell (held e) ∷ post)) ≡ at + sizes pre + header_of e
unfolding place_of sizes
place_inside ok e post y at [] q = rw y (omega arith)
place_inside ok e post y at (cell (free n) ∷ pre) q = place_inside ok e post y (at + n) pre q ∙ omega arith
place_inside ok e post y at (fixed d ∷ pre) q = place_inside ok e post y (at + (fixed_header + length d)) pre q ∙ omega arith
place_inside ok e post y at (cell (held i) ∷ pre) q = go (ok i) q (λ k. place_inside ok e post y (at + item_size i) pre k)
  where
    go : (t : Bool) → cond t (suc (passing ok pre)) (passing ok pre) ≡ 0 → (passing ok pre ≡ 0 → place_of ok (at + item_size i) (pre ++ (cell (held e) ∷ post)) ≡ at + item_size i + sizes pre + header_of e)
        → cond t (at + header_of i) (place_of ok (at + item_size i) (pre ++ (cell (held e) ∷ post))) ≡ at + (item_size i + sizes pre) + header_of e
    go true q f = absurd (omega arith)
    go false q f = f q ∙ omega arith

-- a new block that alone passes
pub placed_at : (n : ℕ) (s : Bays (List Cell) Fixed) (k : Slot n s) (ok : Item → Bool) (e : Item) → item_size e ≡ n → ok e ≡ true → many ok (place_low e s) ≤ 1 → (at : ℕ) → place_of ok at (flatten (place_low e s)) ≡ at + sizes k.pre + header_of e
placed_at n s k ok e q y l at =
    let t : passing ok (cell (held e) ∷ k.post) ≡ suc (passing ok k.post) = rw y in
    ap (place_of ok at) (k.is e q)
    ∙ place_inside ok e k.post y at k.pre (omega (arith, l, passing-strip ok (place_low e s), ap (passing ok) (k.is e q), passing-append ok k.pre (cell (held e) ∷ k.post)))

-- ---- the blocks in their order: the new one stands among those that were there

pub record Inserted (e : Item) (es ds : List Item) : Type 0 where
  pub pre : List Item
  pub post : List Item
  pub old : es ≡ pre ++ post
  pub new : ds ≡ pre ++ (e ∷ post)

put-inserted : (e : Item) (cs : List Cell) → Inserted e (items cs) (items (put e cs))
put-inserted e cs = go (put_is e cs)
  where
    go : {ds : List Cell} → Put e cs ds → Inserted e (items cs) (items ds)
    go (in-hole x p l) = record {
      pre = items x.before;
      post = items x.after;
      old = ap items p ∙ items-append x.before (free x.size ∷ x.after);
      new = items-append x.before (held e ∷ gap (x.size - item_size e) x.after) ∙ ap (λ (l : List Item). items x.before ++ (e ∷ l)) (items-gap (x.size - item_size e) x.after);
    }
    go compacted = record {
      pre = items cs;
      post = [];
      old = sym (append-nil (items cs));
      new = items-packed (items cs) (held e ∷ gap (bay_sum cs - item_size e) []) ∙ ap (λ (l : List Item). items cs ++ (e ∷ l)) (items-gap (bay_sum cs - item_size e) []);
    }

pub low-inserted : (e : Item) (s : Bays (List Cell) Fixed) → Inserted e (concat_s items s) (concat_s items (place_low e s))
low-inserted e (last b) = put-inserted e b
low-inserted e (more b x s) = go (leb (item_size e) (bay_sum b)) (put-inserted e b) (low-inserted e s)
  where
    go : (t : Bool) → Inserted e (items b) (items (put e b)) → Inserted e (concat_s items s) (concat_s items (place_low e s))
        → Inserted e (items b ++ concat_s items s) (concat_s items (cond t (more (put e b) x s) (more b x (place_low e s))))
    go true k m = record {
      pre = k.pre;
      post = k.post ++ concat_s items s;
      old = ap (◌++ concat_s items s) k.old ∙ append_assoc k.pre k.post (concat_s items s);
      new = ap (◌++ concat_s items s) k.new ∙ append_assoc k.pre (e ∷ k.post) (concat_s items s);
    }
    go false k m = record {
      pre = items b ++ m.pre;
      post = m.post;
      old = ap (items b ++◌) m.old ∙ sym (append_assoc (items b) m.pre m.post);
      new = ap (items b ++◌) m.new ∙ sym (append_assoc (items b) m.pre (e ∷ m.post));
    }
