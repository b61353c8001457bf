-- The named block among blocks: what stands before it and behind it, its bytes, and that its data lie inside.
use mathlib.Core.Path.{◌≡◌, refl, sym, ap, ◌∙◌}
use mathlib.Core.Bool.{Bool, true, false, cond, false≢true}
use mathlib.Core.List.{List, [], ◌∷◌, ◌++◌, append_assoc}
use Prim.Native.Nat.{ℕ, ◌+◌, ◌-◌, ◌*◌, ◌/◌, ◌≤◌}
use native.Mathlib.Nat.{add-zero, add_assoc}
use native.Mathlib.Omega.{arith}
use lib.ListN.{length, length-append}
use lib.Seq.{take_at, drop_at}
use Rattle.block_type.specs.Limits.{fixed_code, fixed_header, type_unit}
use Rattle.bigendian.specs.BigEndian.{to_be, slice}
use Rattle.bigendian.proofs.Laws.{length-to_be}
use Rattle.kinds.specs.Kinds.{Item, code_of, tag_of, item_size}
use Rattle.kinds.proofs.KindLaws.{tag-long}
use Rattle.calls.specs.Calls.{Target, by_handle, by_pointer, by_name}
use Rattle.bay.specs.Bay.{free, held}
use Rattle.structure.specs.Structure.{Block, fixed, cell, size, sizes, fixed_tag, encode_block, join}
use Rattle.structure.proofs.Append.{sizes-append}
use Rattle.access.specs.row.Row.{Sound, bytes_of}
use Rattle.access.proofs.row.Laws.{bytes-append, bytes-long, sound-left}
use Rattle.access.specs.Named.{names, header_of_block, held_by, refill, place_among, data_among}

-- ---- what stands before it and behind it

pub record Named (t : Target) (at : ℕ) (bs : List Block) : Type 0 where
  pub before : List Block
  pub block : Block
  pub after : List Block
  pub is : bs ≡ before ++ (block ∷ after)
  pub hit : names t (at + sizes before) block ≡ true
  pub place : place_among t at bs ≡ at + sizes before + header_of_block block
  pub holds : data_among t at bs ≡ held_by block

pub named : (t : Target) (at : ℕ) (bs : List Block) → (place_among t at bs ≡ 0 → ⊥) → Named t at bs
unfolding place_among data_among sizes
named t at [] l = absurd (l refl)
named t at (b ∷ bs) l = go (names t at b) refl l (named t (at + size b) bs)
  where
    go : (u : Bool) → names t at b ≡ u → (cond u (at + header_of_block b) (place_among t (at + size b) bs) ≡ 0 → ⊥)
        → ((place_among t (at + size b) bs ≡ 0 → ⊥) → Named t (at + size b) bs) → Named t at (b ∷ bs)
    go true e l f = record { before = []; block = b; after = bs; is = refl; hit = rw (add-zero at) e; place = rw (e, add-zero at); holds = rw e }
    go false e l f =
        let r = f l in
        record {
          before = b ∷ r.before;
          block = r.block;
          after = r.after;
          is = ap (b ∷◌) r.is;
          hit = rw (← add_assoc at (size b) (sizes r.before)) r.hit;
          place = rw e (r.place ∙ omega arith);
          holds = rw e r.holds;
        }

-- ---- its bytes: a header, then the data

pub record Parts (b : Block) : Type 0 where
  pub head : List ℕ
  pub bytes : encode_block b ≡ head ++ held_by b
  pub long : length head ≡ header_of_block b
  -- the same header before other data, as many
  pub other : (f : List ℕ → List ℕ) → length (f (held_by b)) ≡ length (held_by b) → encode_block (refill f b) ≡ head ++ f (held_by b)
  pub whole : size b ≡ header_of_block b + length (held_by b)

-- type and size, the rest of the header, the data
fixed-parts : (d : List ℕ) → Parts (fixed d)
unfolding encode_block
fixed-parts d =
    let w = to_be 2 (fixed_code * type_unit + (fixed_header + length d) / 2) in
    record {
      head = w ++ fixed_tag;
      bytes = sym (append_assoc w fixed_tag d);
      long = omega (arith, length-append w fixed_tag, length-to_be 2 (fixed_code * type_unit + (fixed_header + length d) / 2));
      other = λ f q. rw q (sym (append_assoc w fixed_tag (f d)));
      whole = refl;
    }

held-parts : (e : Item) → Parts (cell (held e))
unfolding encode_block
held-parts e =
    let w = to_be 2 (code_of e * type_unit + item_size e / 2) in
    record {
      head = w ++ tag_of e;
      bytes = sym (append_assoc w (tag_of e) e.bytes);
      long = omega (arith, length-append w (tag_of e), length-to_be 2 (code_of e * type_unit + item_size e / 2), tag-long e);
      other = λ f q. rw q (sym (append_assoc w (tag_of e) (f e.bytes)));
      whole = refl;
    }

pub named-parts : (t : Target) (at : ℕ) (b : Block) → names t at b ≡ true → Parts b
named-parts (by_handle h) at (cell (free n)) e = absurd (false≢true e)
named-parts (by_pointer p) at (cell (free n)) e = absurd (false≢true e)
named-parts (by_name i) at (cell (free n)) e = absurd (false≢true e)
named-parts t at (fixed d) e = fixed-parts d
named-parts t at (cell (held i)) e = held-parts i

-- ---- its data

module _ (t : Target) (at : ℕ) (bs : List Block) (l : place_among t at bs ≡ 0 → ⊥) where
  abbrev r : Named t at bs
  r = named t at bs l

  abbrev p : Parts r.block
  p = named-parts t (at + sizes r.before) r.block r.hit

  pub among-low : at ≤ place_among t at bs
  among-low = omega (arith, r.place)

  pub among-fits : place_among t at bs + length (data_among t at bs) ≤ at + sizes bs
  unfolding sizes
  among-fits = omega (arith, r.place, ap length r.holds, ap sizes r.is, sizes-append r.before (r.block ∷ r.after), p.whole)

  -- the bytes: what stands before, the header, the data, what stands behind
  among-parts : bytes_of bs ≡ (bytes_of r.before ++ p.head) ++ (held_by r.block ++ bytes_of r.after)
  unfolding join
  among-parts =
      ap bytes_of r.is ∙ bytes-append r.before (r.block ∷ r.after) ∙ ap (λ (x : List ℕ). bytes_of r.before ++ (x ++ bytes_of r.after)) p.bytes
      ∙ (simp append_assoc)

  pub among-bytes : Sound bs → slice (bytes_of bs) (place_among t at bs - at) (length (data_among t at bs)) ≡ data_among t at bs
  among-bytes s =
      let a = bytes_of r.before ++ p.head in
      let d = held_by r.block in
      let n : length a ≡ place_among t at bs - at = omega (arith, r.place, length-append (bytes_of r.before) p.head, p.long, bytes-long r.before (sound-left r.before (r.block ∷ r.after) (rw r.is at s))) in
      rw (among-parts, r.holds, drop_at a (d ++ bytes_of r.after) (place_among t at bs - at) n) (take_at d (bytes_of r.after) (length d) refl)
