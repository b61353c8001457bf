-- What holds of each kind of movable block. All other laws are of any kind.
use mathlib.Core.Path.{◌≡◌, refl, sym, ap, ap₂, ◌∙◌}
use mathlib.Core.Bool.{Bool, true, false, cond, ◌&&◌, true≢false}
use mathlib.Core.List.{List, [], ◌∷◌, ◌++◌, append_assoc}
use Prim.Native.Nat.{ℕ, zero, suc, ◌+◌, ◌*◌, ◌%◌, ◌<◌, ◌≤◌}
use native.Mathlib.Omega.{arith}
use lib.Dec.{eqb, leb}
use borrow.Author.Tests.{eq-eqb, ne_eqb, eqb-true, le-leb, lt-leb, leb-true, leb-false, ltb-true, lt-ltb}
use lib.ListN.{length, take, drop, length-drop, length-append, take-append-drop}
use lib.Seq.{drop-drop, drop_at}
use Rattle.bigendian.specs.BigEndian.{to_be, Bytes}
use Rattle.bigendian.proofs.Laws.{length-to_be, be-front}
use Rattle.bigendian.proofs.Bytes.{bytes_drop, part_bytes, part_small}
use Rattle.block_type.specs.Limits.{free_header, free_code, fixed_code, reloc_code, reloc_header, page_code, page_header, type_unit, tag_at, status_at, handle_range, dirty_bit, lock_bit, stamp_range}
use Rattle.format.specs.Occurs.{occurs}
use Rattle.format.specs.WellFormed.{type_of, size_of, handle_of, name_of, status_of, is_reloc, is_page}
use Rattle.format.specs.OneWalk.{type_rule, reloc_rule, page_rule, rule_of, block_ok}
use Rattle.format.proofs.Bool.{and_left, and_right}
use Rattle.format.proofs.Walk.{is-good}
use Rattle.kinds.specs.Kinds.{Status, status_word, status_in, Key, of_handle, of_name, Item, item, page, key_code, key_header, key_tag, key_master, key_masters, key_names, key_is, key_named, key_on_status, code_of, header_of, tag_of, master_of, masters_of, names_of, holding, on_data, on_status, is, has_name, item_size, item_in, KeyOk, KeyFits, ItemOk, Written}

-- type and size take 2 bytes of a header, the tag the others
pub tag-long : (e : Item) → length (tag_of e) + tag_at ≡ header_of e
tag-long e = go e.key
  where
    go : (k : Key) → length (key_tag k) + tag_at ≡ key_header k
    go (of_handle h) = simp length-to_be
    go (of_name n s) = simp (length-append, length-to_be)

-- codes are neither free nor fixed and have two bits; headers have room for a free block's
pub record Facts (e : Item) : Type 0 where
  pub used : 0 < code_of e
  pub movable : code_of e ≡ fixed_code → ⊥
  pub small : code_of e ≤ 3
  pub low : free_header ≤ header_of e
  pub four : header_of e % 4 ≡ 0

pub facts : (e : Item) → Facts e
facts e = go e.key e.bytes
  where
    go : (k : Key) (d : List ℕ) → Facts (record { key = k; bytes = d })
    go (of_handle h) d = record { used = omega arith; movable = λ q. omega arith; small = omega arith; low = omega arith; four = refl }
    go (of_name n s) d = record { used = omega arith; movable = λ q. omega arith; small = omega arith; low = omega arith; four = refl }

pub not_free : (e : Item) → eqb (code_of e) free_code ≡ false
not_free e = ne_eqb (code_of e) free_code (λ q. omega (arith, (facts e).used))

pub not-fixed : (e : Item) → eqb (code_of e) fixed_code ≡ false
not-fixed e = ne_eqb (code_of e) fixed_code (facts e).movable

-- the type that a header says; w is the size in words
pub type-of : (c w : ℕ) (t : List ℕ) → c ≤ 3 → w < type_unit → type_of (to_be 2 (c * type_unit + w) ++ t) ≡ c
unfolding type_of to_be
type-of c w t l u = omega arith

-- ---- a status word says its parts

status-small : (s : Status) → s.stamp < stamp_range → status_word s < handle_range
status-small s l = go s.dirty s.lock
  where
    go : (d k : Bool) → cond d dirty_bit 0 + (cond k lock_bit 0 + s.stamp) < handle_range
    go true true = omega arith
    go true false = omega arith
    go false true = omega arith
    go false false = omega arith

-- the other bits are zero
status-low : (s : Status) → s.stamp < stamp_range → status_word s % lock_bit < stamp_range
status-low s l = go s.dirty s.lock
  where
    go : (d k : Bool) → (cond d dirty_bit 0 + (cond k lock_bit 0 + s.stamp)) % lock_bit < stamp_range
    go true true = omega arith
    go true false = omega arith
    go false true = omega arith
    go false false = omega arith

pub status-back : (s : Status) → s.stamp < stamp_range → status_in (status_word s) ≡ s
status-back s l = go s.dirty s.lock
  where
    t : ℕ
    t = s.stamp

    made : (d k : Bool) (w : ℕ) → leb dirty_bit w ≡ d → leb lock_bit (w % dirty_bit) ≡ k → w % stamp_range ≡ t → status_in w ≡ record { dirty = d; lock = k; stamp = t }
    made d k w p q r = rw (p, q, r)

    go : (d k : Bool) → status_in (cond d dirty_bit 0 + (cond k lock_bit 0 + t)) ≡ record { dirty = d; lock = k; stamp = t }
    go true true = let w = dirty_bit + (lock_bit + t) in made true true w (le-leb dirty_bit w (omega arith)) (le-leb lock_bit (w % dirty_bit) (omega arith)) (omega arith)
    go true false = let w = dirty_bit + (0 + t) in made true false w (le-leb dirty_bit w (omega arith)) (lt-leb lock_bit (w % dirty_bit) (omega arith)) (omega arith)
    go false true = let w = 0 + (lock_bit + t) in made false true w (lt-leb dirty_bit w (omega arith)) (le-leb lock_bit (w % dirty_bit) (omega arith)) (omega arith)
    go false false = let w = 0 + (0 + t) in made false false w (lt-leb dirty_bit w (omega arith)) (lt-leb lock_bit (w % dirty_bit) (omega arith)) (omega arith)

-- ---- a block's bytes say what it holds

item-there : (h : ℕ) (d : List ℕ) (w : ℕ) → w < type_unit → h < handle_range → item_in (to_be 2 (reloc_code * type_unit + w) ++ (to_be 2 h ++ d)) ≡ item h d
unfolding handle_of is_page
item-there h d w l ok =
    let v = reloc_code * type_unit + w in
    let b = to_be 2 v ++ (to_be 2 h ++ d) in
    let t : drop tag_at b ≡ to_be 2 h ++ d = drop_at (to_be 2 v) (to_be 2 h ++ d) tag_at (length-to_be 2 v) in
    let q : handle_of b ≡ h = rw t (be-front 2 h d (omega arith)) in
    let r : drop reloc_header b ≡ d = sym (drop-drop 2 tag_at b) ∙ ap (drop 2) t ∙ drop_at (to_be 2 h) d 2 (length-to_be 2 h) in
    rw (type-of reloc_code w (to_be 2 h ++ d) (omega arith) l) (ap₂ item q r)

page-there : (n : ℕ) (s : Status) (d : List ℕ) (w : ℕ) → w < type_unit → KeyOk (of_name n s) → item_in (to_be 2 (page_code * type_unit + w) ++ ((to_be 4 n ++ to_be 2 (status_word s)) ++ d)) ≡ page n s d
unfolding name_of status_of is_page
page-there n s d w l ok =
    let v = page_code * type_unit + w in
    let u = to_be 2 (status_word s) ++ d in
    let b = to_be 2 v ++ ((to_be 4 n ++ to_be 2 (status_word s)) ++ d) in
    let t : drop tag_at b ≡ to_be 4 n ++ u = drop_at (to_be 2 v) ((to_be 4 n ++ to_be 2 (status_word s)) ++ d) tag_at (length-to_be 2 v) ∙ append_assoc (to_be 4 n) (to_be 2 (status_word s)) d in
    let q : name_of b ≡ n = rw t (be-front 4 n u (omega arith)) in
    let t₂ : drop status_at b ≡ u = sym (drop-drop 4 tag_at b) ∙ ap (drop 4) t ∙ drop_at (to_be 4 n) u 4 (length-to_be 4 n) in
    let q₂ : status_in (status_of b) ≡ s = ap status_in (rw t₂ (be-front 2 (status_word s) d (status-small s ok.1))) ∙ status-back s ok.1 in
    let r : drop page_header b ≡ d = sym (drop-drop 2 status_at b) ∙ ap (drop 2) t₂ ∙ drop_at (to_be 2 (status_word s)) d 2 (length-to_be 2 (status_word s)) in
    rw (type-of page_code w ((to_be 4 n ++ to_be 2 (status_word s)) ++ d) (omega arith) l) (rw (q, q₂, r))

pub item_back : (e : Item) (w : ℕ) → w < type_unit → ItemOk e → item_in (to_be 2 (code_of e * type_unit + w) ++ (tag_of e ++ e.bytes)) ≡ e
item_back e w l ok = go e.key ok
  where
    go : (k : Key) → KeyOk k → item_in (to_be 2 (key_code k * type_unit + w) ++ (key_tag k ++ e.bytes)) ≡ record { key = k; bytes = e.bytes }
    go (of_handle h) ok = item-there h e.bytes w l ok
    go (of_name n s) ok = page-there n s e.bytes w l ok

-- ---- masters

-- whose header a block with a master has
pub master-header : (e : Item) → (master_of e ≡ 0 → ⊥) → header_of e ≡ reloc_header
master-header e n = go e.key n
  where
    go : (k : Key) → (key_master k ≡ 0 → ⊥) → key_header k ≡ reloc_header
    go (of_handle h) n = refl
    go (of_name k s) n = absurd (n refl)

-- where a block's bytes say its master
pub master-some : (b : List ℕ) → code_of (item_in b) ≡ reloc_code → master_of (item_in b) ≡ handle_of b
master-some b q = go (is_page b) q
  where
    go : (t : Bool) → code_of (cond t (page (name_of b) (status_in (status_of b)) (drop page_header b)) (item (handle_of b) (drop reloc_header b))) ≡ reloc_code
        → master_of (cond t (page (name_of b) (status_in (status_of b)) (drop page_header b)) (item (handle_of b) (drop reloc_header b))) ≡ handle_of b
    go true q = let x : ⊥ = omega arith in absurd x
    go false q = refl

pub master-none : (b : List ℕ) → (code_of (item_in b) ≡ reloc_code → ⊥) → master_of (item_in b) ≡ 0
master-none b q = go (is_page b) q
  where
    go : (t : Bool) → (code_of (cond t (page (name_of b) (status_in (status_of b)) (drop page_header b)) (item (handle_of b) (drop reloc_header b))) ≡ reloc_code → ⊥)
        → master_of (cond t (page (name_of b) (status_in (status_of b)) (drop page_header b)) (item (handle_of b) (drop reloc_header b))) ≡ 0
    go true q = refl
    go false q = absurd (q refl)

-- ---- the block of a handle

pub is-self : (h : ℕ) (d : List ℕ) → is h (item h d) ≡ true
is-self h d = eq-eqb h h refl

pub is-item : (h : ℕ) (e : Item) → is h e ≡ true → e ≡ item h e.bytes
is-item h e q = go e.key q
  where
    go : (k : Key) → key_is h k ≡ true → ◌≡◌ {A = Item} (record { key = k; bytes = e.bytes }) (item h e.bytes)
    go (of_handle k) q = ap (λ (j : ℕ). item j e.bytes) (sym (eqb-true h k q))
    go (of_name n s) q = absurd (true≢false (sym q))

-- it has h for its master, and no other
pub is-owner : (h : ℕ) (e : Item) → occurs h (masters_of e) ≡ cond (is h e) 1 0
unfolding occurs
is-owner h e = go e.key
  where
    go : (k : Key) → occurs h (key_masters k) ≡ cond (key_is h k) 1 0
    go (of_handle k) = omega arith
    go (of_name n s) = refl

-- the same of a name
pub name-owner : (n : ℕ) (e : Item) → occurs n (names_of e) ≡ cond (has_name n e) 1 0
unfolding occurs
name-owner n e = go e.key
  where
    go : (k : Key) → occurs n (key_names k) ≡ cond (key_named n k) 1 0
    go (of_handle h) = refl
    go (of_name k s) = omega arith

pub is_masters : (h : ℕ) (e : Item) → is h e ≡ true → masters_of e ≡ h ∷ []
is_masters h e q = ap masters_of (is-item h e q)

pub is-header : (h : ℕ) (e : Item) → is h e ≡ true → header_of e ≡ reloc_header
is-header h e q = ap header_of (is-item h e q)

pub is_code : (h : ℕ) (e : Item) → is h e ≡ true → code_of e ≡ reloc_code
is_code h e q = ap code_of (is-item h e q)

-- asked for another handle
pub is_same : (g h : ℕ) (e : Item) → is h e ≡ true → is g e ≡ eqb g h
is_same g h e q = ap (is g) (is-item h e q)

pub is-other : (g h : ℕ) (e : Item) → is h e ≡ true → (g ≡ h → ⊥) → is g e ≡ false
is-other g h e q n = is_same g h e q ∙ ne_eqb g h n

-- a block has a handle, or no master
pub data Owned : Item → Type 0 where
  own-handle : (h : ℕ) (d : List ℕ) → Owned (item h d)
  own-none : (e : Item) → masters_of e ≡ [] → master_of e ≡ 0 → ((h : ℕ) → is h e ≡ false) → Owned e

pub owned : (e : Item) → Owned e
owned e = go e.key e.bytes
  where
    go : (k : Key) (d : List ℕ) → Owned (record { key = k; bytes = d })
    go (of_handle h) d = own-handle h d
    go (of_name n s) d = own-none (page n s d) refl refl (λ h. refl)

-- what holds of 0 and of each handle holds of its master
pub master-all : (P : ℕ → Type 0) (e : Item) → P 0 → ((h : ℕ) → is h e ≡ true → P h) → P (master_of e)
master-all P e p f = go (owned e) f
  where
    go : {e : Item} → Owned e → ((h : ℕ) → is h e ≡ true → P h) → P (master_of e)
    go (own-handle h d) f = f h (is-self h d)
    go (own-none e _ n _) f = rw n p

-- a relocatable block is one of "relocatable blocks plus chain length"
pub masters-long : (e : Item) → length (masters_of e) ≡ cond (eqb (code_of e) reloc_code) 1 0
masters-long e = go e.key
  where
    go : (k : Key) → length (key_masters k) ≡ cond (eqb (key_code k) reloc_code) 1 0
    go (of_handle h) = refl
    go (of_name n s) = refl

-- ---- data and status changed

pub data-size : (f : List ℕ → List ℕ) → ((l : List ℕ) → length (f l) ≡ length l) → (e : Item) → item_size (on_data f e) ≡ item_size e
data-size f q e = ap (header_of e +◌) (q e.bytes)

pub status-size : (g : Status → Status) (e : Item) → item_size (on_status g e) ≡ item_size e
status-size g e = go e.key
  where
    go : (k : Key) → key_header (key_on_status g k) + length e.bytes ≡ key_header k + length e.bytes
    go (of_handle h) = refl
    go (of_name n s) = refl

-- neither changes what names the block
pub status-is : (g : Status → Status) (h : ℕ) (e : Item) → is h (on_status g e) ≡ is h e
status-is g h e = go e.key
  where
    go : (k : Key) → key_is h (key_on_status g k) ≡ key_is h k
    go (of_handle i) = refl
    go (of_name n s) = refl

pub status-name : (g : Status → Status) (n : ℕ) (e : Item) → has_name n (on_status g e) ≡ has_name n e
status-name g n e = go e.key
  where
    go : (k : Key) → key_named n (key_on_status g k) ≡ key_named n k
    go (of_handle i) = refl
    go (of_name i s) = refl

pub status-masters : (g : Status → Status) (e : Item) → masters_of (on_status g e) ≡ masters_of e
status-masters g e = go e.key
  where
    go : (k : Key) → key_masters (key_on_status g k) ≡ key_masters k
    go (of_handle i) = refl
    go (of_name n s) = refl

-- a block with a handle has no name, and the other way round
pub name-page : (n : ℕ) (e : Item) → has_name n e ≡ true → masters_of e ≡ []
name-page n e q = go e.key q
  where
    go : (k : Key) → key_named n k ≡ true → key_masters k ≡ []
    go (of_handle h) q = absurd (true≢false (sym q))
    go (of_name i s) q = refl

pub name-header : (n : ℕ) (e : Item) → has_name n e ≡ true → header_of e ≡ page_header
name-header n e q = go e.key q
  where
    go : (k : Key) → key_named n k ≡ true → key_header k ≡ page_header
    go (of_handle h) q = absurd (true≢false (sym q))
    go (of_name i s) q = refl

pub is-no-page : (h n : ℕ) (e : Item) → is h e ≡ true → has_name n e ≡ false
is-no-page h n e q = ap (has_name n) (is-item h e q)

-- ---- what can be written

pub ok_of : (e : Item) → Written e → ((h : ℕ) → is h e ≡ true → h < handle_range) → ItemOk e
ok_of e w f = go e.key w.1 f
  where
    go : (k : Key) → KeyFits k → ((h : ℕ) → key_is h k ≡ true → h < handle_range) → KeyOk k
    go (of_handle h) w f = f h (eq-eqb h h refl)
    go (of_name n s) w f = w

pub bytes_of : (e : Item) → Written e → Bytes e.bytes
bytes_of e w = w.0

pub written-item : (h : ℕ) (d : List ℕ) → Bytes d → Written (item h d)
written-item h d y = (y, tt)

pub written-holding : (e : Item) (d : List ℕ) → Written e → Bytes d → Written (holding e d)
written-holding e d w y = (y, w.1)

-- ---- a movable block that obeys the rules

-- what its bytes b say: it is i
pub record Read (b : List ℕ) (i : Item) : Type 0 where
  pub size : item_size i ≡ length b
  pub code : code_of i ≡ type_of b
  pub masters : masters_of i ≡ cond (is_reloc b) (handle_of b ∷ []) []
  pub one : (h : ℕ) → is h i ≡ is_reloc b && eqb h (handle_of b)
  pub names : names_of i ≡ cond (is_page b) (name_of b ∷ []) []
  pub tag : Bytes b → tag_of i ++ i.bytes ≡ drop tag_at b
  pub written : Bytes b → Written i

read-handle : (b : List ℕ) → type_of b ≡ reloc_code → reloc_header ≤ length b → Read b (item (handle_of b) (drop reloc_header b))
unfolding handle_of is_reloc is_page
read-handle b e l =
    let d = length-drop tag_at b in
    record {
      size = omega (arith, length-drop reloc_header b);
      code = sym e;
      masters = rw e;
      one = λ h. rw e;
      names = rw e;
      tag = λ y. rw (part_bytes 2 (drop tag_at b) (bytes_drop tag_at b y) (omega arith), ← drop-drop 2 tag_at b) (take-append-drop 2 (drop tag_at b));
      written = λ y. written-item (handle_of b) (drop reloc_header b) (bytes_drop reloc_header b y);
    }

-- the status word of a page that obeys its rule
status-word : (w : ℕ) → w < handle_range → w % lock_bit < stamp_range → status_word (status_in w) ≡ w
status-word w l r = go (leb dirty_bit w) refl (leb lock_bit (w % dirty_bit)) refl
  where
    go : (d : Bool) → leb dirty_bit w ≡ d → (k : Bool) → leb lock_bit (w % dirty_bit) ≡ k → cond d dirty_bit 0 + (cond k lock_bit 0 + w % stamp_range) ≡ w
    go true p true q = let u = leb-true dirty_bit w p in let v = leb-true lock_bit (w % dirty_bit) q in omega arith
    go true p false q = let u = leb-true dirty_bit w p in let v = leb-false lock_bit (w % dirty_bit) q in omega arith
    go false p true q = let u = leb-false dirty_bit w p in let v = leb-true lock_bit (w % dirty_bit) q in omega arith
    go false p false q = let u = leb-false dirty_bit w p in let v = leb-false lock_bit (w % dirty_bit) q in omega arith

read-page : (b : List ℕ) → type_of b ≡ page_code → page_header ≤ length b → status_of b % lock_bit < stamp_range → Read b (page (name_of b) (status_in (status_of b)) (drop page_header b))
unfolding name_of status_of is_reloc is_page
read-page b e l r =
    let d = length-drop tag_at b in
    let d₂ = length-drop status_at b in
    let t = drop tag_at b in
    let u = drop status_at b in
    record {
      size = omega (arith, length-drop page_header b);
      code = sym e;
      masters = rw e;
      one = λ h. rw e;
      names = rw e;
      tag = λ y.
          let small : status_of b < handle_range = part_small 2 u (bytes_drop status_at b y) (omega arith) in
          let w : to_be 2 (status_word (status_in (status_of b))) ≡ take 2 u = ap (to_be 2) (status-word (status_of b) small r) ∙ part_bytes 2 u (bytes_drop status_at b y) (omega arith) in
          rw (part_bytes 4 t (bytes_drop tag_at b y) (omega arith), w, append_assoc (take 4 t) (take 2 u) (drop page_header b), ← drop-drop 2 status_at b, take-append-drop 2 u, ← drop-drop 4 tag_at b) (take-append-drop 4 t);
      written = λ y. (bytes_drop page_header b y, (part_small 4 t (bytes_drop tag_at b y) (omega arith), omega arith));
    }

pub read : (z : List ℕ) (first : ℕ) (prev : Bool) (at : ℕ) (b : List ℕ) (k : ℕ) → block_ok z first prev at b ≡ true → type_of b ≡ suc (suc k) → Read b (item_in b)
unfolding type_rule is_page page_rule
read z first prev at b k g e = go k e (is-good z first prev at b g).rule
  where
    go : (k : ℕ) → type_of b ≡ suc (suc k) → rule_of (type_of b) z first prev at b b ≡ true → Read b (item_in b)
    go zero e r = rw e (read-handle b e (omega (arith, (is-good z first prev at b g).low, (is-good z first prev at b g).whole)))
    go (suc zero) e r =
        let p : page_rule b ≡ true = rw e at r in
        rw e (read-page b e (omega (arith, (is-good z first prev at b g).whole, leb-true page_header (size_of b) (and_left _ _ p))) (ltb-true (status_of b % lock_bit) stamp_range (and_right (leb page_header (size_of b)) _ p)))
    go (suc (suc k)) e r = let q : ◌≡◌ {A = ℕ} 0 1 = cc in let x : ⊥ = omega arith in absurd x

-- the names that a block's bytes say
pub names-of : (e : Item) (b : List ℕ) → type_of b ≡ code_of e → drop tag_at b ≡ tag_of e ++ e.bytes → ItemOk e → cond (is_page b) (name_of b ∷ []) [] ≡ names_of e
unfolding name_of is_page
names-of e b t d ok = rw t (go e.key d ok)
  where
    go : (k : Key) → drop tag_at b ≡ key_tag k ++ e.bytes → KeyOk k → cond (eqb (key_code k) page_code) (name_of b ∷ []) [] ≡ key_names k
    go (of_handle h) d ok = refl
    go (of_name n s) d ok = let u = to_be 2 (status_word s) ++ e.bytes in rw (d, append_assoc (to_be 4 n) (to_be 2 (status_word s)) e.bytes) (ap (◌∷ []) (be-front 4 n u ok.0))

-- name and status of a page, from its bytes
pub page-of : (n : ℕ) (s : Status) (d b : List ℕ) → drop tag_at b ≡ (to_be 4 n ++ to_be 2 (status_word s)) ++ d → KeyOk (of_name n s) → (name_of b ≡ n) × (status_of b ≡ status_word s) × (drop page_header b ≡ d)
unfolding name_of status_of
page-of n s d b e ok =
    let u = to_be 2 (status_word s) ++ d in
    let e₁ : drop tag_at b ≡ to_be 4 n ++ u = e ∙ append_assoc (to_be 4 n) (to_be 2 (status_word s)) d in
    let t : drop status_at b ≡ u = sym (drop-drop 4 tag_at b) ∙ ap (drop 4) e₁ ∙ drop_at (to_be 4 n) u 4 (length-to_be 4 n) in
    (rw e₁ (be-front 4 n u ok.0), rw t (be-front 2 (status_word s) d (status-small s ok.1)), sym (drop-drop 2 status_at b) ∙ ap (drop 2) t ∙ drop_at (to_be 2 (status_word s)) d 2 (length-to_be 2 (status_word s)))

-- a block with a header behind type and size obeys the rule of its type, if its handle does
pub rule-of : (z : List ℕ) (first : ℕ) (prev : Bool) (at : ℕ) (b : List ℕ) (e : Item) → type_of b ≡ code_of e → header_of e ≤ size_of b → drop tag_at b ≡ tag_of e ++ e.bytes → ItemOk e
    → ((h : ℕ) → is h e ≡ true → reloc_rule z first at h ≡ true) → rule_of (type_of b) z first prev at b b ≡ true
unfolding type_rule handle_of status_of page_rule
rule-of z first prev at b e t l d ok f = rw t (go e.key l d ok f)
  where
    go : (k : Key) → key_header k ≤ size_of b → drop tag_at b ≡ key_tag k ++ e.bytes → KeyOk k → ((h : ℕ) → key_is h k ≡ true → reloc_rule z first at h ≡ true) → rule_of (key_code k) z first prev at b b ≡ true
    go (of_handle h) l d ok f = rw (d, be-front 2 h e.bytes (omega arith)) (f h (eq-eqb h h refl))
    go (of_name n s) l d ok f =
        let u = to_be 2 (status_word s) ++ e.bytes in
        let t : drop status_at b ≡ u = sym (drop-drop 4 tag_at b) ∙ ap (drop 4) (d ∙ append_assoc (to_be 4 n) (to_be 2 (status_word s)) e.bytes) ∙ drop_at (to_be 4 n) u 4 (length-to_be 4 n) in
        rw (le-leb page_header (size_of b) l, t, be-front 2 (status_word s) e.bytes (status-small s ok.1)) (lt-ltb (status_word s % lock_bit) stamp_range (status-low s ok.1))
