-- The laws of stretches.
use mathlib.Core.Path.{◌≡◌, refl, sym, ap, ap₂, ◌∙◌}
use mathlib.Core.List.{List, [], ◌∷◌, ◌++◌, map, append_assoc}
use Prim.Native.Nat.{ℕ, ◌+◌, ◌*◌, ◌/◌, ◌%◌, ◌<◌, ◌≤◌}
use native.Mathlib.Omega.{arith}
use lib.ListN.{length, take, drop, length-append, length-drop, drop_of_length-le}
use lib.Seq.{drop-drop, take_at, drop_at}
use lib.Dec.{eqb}
use Rattle.block_type.specs.Limits.{smallest_block, free_code, type_unit, handle_range}
use Rattle.block_check.specs.Word.{type_word, IsHeader}
use Rattle.format.specs.WellFormed.{type_of, size_of}
use Rattle.format.proofs.Walk.{blocks-cons, blocks-nil, kind-take, size-take}
use Rattle.structure.specs.Structure.{Block, fixed, size, sizes, encode_block, decode_block, join, cell, code}
use Rattle.bay.proofs.CellBytes.{enc}
use Rattle.bay.specs.Bay.{free, held}
use Rattle.structure.proofs.Back.{Enc, enc-cell, enc-fixed}
use Rattle.kinds.proofs.KindLaws.{not_free}
use Rattle.access.specs.row.Row.{blocks_of, bytes_of, Sound1, Sound, Row, row, block_at, Stepped, free_b}

pub enc-of : (b : Block) → Sound1 b → Enc b
enc-of (cell c) s = enc-cell c s
enc-of (fixed d) s = enc-fixed d s.0 s.1

pub low_of : (b : Block) → Sound1 b → (smallest_block ≤ size b) × (size b % 4 ≡ 0)
low_of (cell c) s = let x = enc c s in (x.low, x.four)
low_of (fixed d) s = (omega (arith, s.0), s.0)

-- a block in front
pub record Front (b : Block) (r t : List ℕ) : Type 0 where
  pub size_is : size_of r ≡ size b
  pub low : smallest_block ≤ size b
  pub four : size b % 4 ≡ 0
  pub image : take (size b) r ≡ encode_block b
  pub rest : drop (size b) r ≡ t
  pub long : length r ≡ size b + length t
  pub back : decode_block (encode_block b) ≡ b
  pub kind : type_of r ≡ code b
  pub blocks : blocks_of r ≡ b ∷ blocks_of t

pub front : (b : Block) (r t : List ℕ) → Sound1 b → r ≡ encode_block b ++ t → Front b r t
unfolding blocks_of
front b r t s e =
    let x = enc-of b s in
    let l = low_of b s in
    let tk : take (size b) r ≡ encode_block b = rw e (take_at (encode_block b) t (size b) x.long) in
    let dr : drop (size b) r ≡ t = rw e (drop_at (encode_block b) t (size b) x.long) in
    let sz : size_of r ≡ size b = sym (size-take (size b) r l.0) ∙ ap size_of tk ∙ x.same in
    let ln : length r ≡ size b + length t = rw e (length-append (encode_block b) t ∙ ap (λ (k : ℕ). k + length t) x.long) in
    record {
      size_is = sz;
      low = l.0;
      four = l.1;
      image = tk;
      rest = dr;
      long = ln;
      back = x.back;
      kind = sym (kind-take (size b) r l.0) ∙ ap type_of tk ∙ x.kind;
      blocks = rw (blocks-cons r (omega (arith, l.0)) (omega (arith, l.0)), sz, tk, dr, x.back);
    }

pub tiles-nil : blocks_of [] ≡ []
unfolding blocks_of
tiles-nil = rw blocks-nil

pub tiles-join : (bs : List Block) → Sound bs → blocks_of (bytes_of bs) ≡ bs
unfolding join
tiles-join [] s = tiles-nil
tiles-join (b ∷ bs) s = (front b (encode_block b ++ join (map encode_block bs)) (join (map encode_block bs)) s.0 refl).blocks ∙ ap (λ (t : List Block). b ∷ t) (tiles-join bs s.1)

pub row_fits : (s : List ℕ) (p : ℕ) → Row (drop p s) → p < length s → p + smallest_block ≤ length s
unfolding join
row_fits s p (row [] sd e) l = let x : ⊥ = omega (arith, ap length e, length-drop p s) in absurd x
row_fits s p (row (b ∷ bs) sd e) l = let f = front b (drop p s) (join (map encode_block bs)) sd.0 e in omega (arith, f.long, f.low, length-drop p s)

pub stepped : (s : List ℕ) (p n : ℕ) → Row (drop p s) → p < length s → n ≡ size_of (drop p s) → Stepped s p n
unfolding join
stepped s p n (row [] sd e) l en = let x : ⊥ = omega (arith, ap length e, length-drop p s) in absurd x
stepped s p n (row (b ∷ bs) sd e) l en =
    let r = drop p s in
    let f = front b r (join (map encode_block bs)) sd.0 e in
    let q : n ≡ size b = en ∙ f.size_is in
    let a : block_at s p ≡ b = rw (f.size_is, f.image) f.back in
    let d : drop (p + n) s ≡ join (map encode_block bs) = sym (drop-drop n p s) ∙ ap (λ (k : ℕ). drop k r) q ∙ f.rest in
    record {
      size_is = sym en;
      low = omega (arith, f.low);
      four = rw q f.four;
      fits = omega (arith, f.long, length-drop p s);
      next = row bs sd.1 d;
      blocks = rw (a, d) f.blocks;
      bytes = rw a (sym q);
      kind = rw a (sym f.kind);
      image = rw (a, q) (sym f.image);
    }

-- by the block's word
module _ (s : List ℕ) (p n w : ℕ) (r : Row (drop p s)) (l : p < length s) (h : IsHeader s p w) where
  pub free-stepped : w / type_word ≡ free_code → n ≡ w * 2 → Stepped s p n
  free-stepped f e = stepped s p n r l (e ∙ h.free_size_is f)

  pub used-stepped : free_code < w / type_word → n ≡ w / handle_range % type_unit * 2 → Stepped s p n
  used-stepped f e = stepped s p n r l (e ∙ h.used_size f)

-- the end of a stretch
pub row-end : (s : List ℕ) (p : ℕ) → length s ≤ p → blocks_of (drop p s) ≡ []
row-end s p h = rw (drop_of_length-le s h) tiles-nil

pub bytes-long : (bs : List Block) → Sound bs → length (bytes_of bs) ≡ sizes bs
unfolding join sizes
bytes-long [] s = refl
bytes-long (b ∷ bs) s = length-append (encode_block b) (join (map encode_block bs)) ∙ ap₂ (λ (x y : ℕ). x + y) (enc-of b s.0).long (bytes-long bs s.1)

pub bytes-append : (a b : List Block) → bytes_of (a ++ b) ≡ bytes_of a ++ bytes_of b
unfolding join
bytes-append [] b = refl
bytes-append (x ∷ a) b = rw (bytes-append a b) (sym (append_assoc (encode_block x) (join (map encode_block a)) (join (map encode_block b))))

pub sound-append : (a b : List Block) → Sound a → Sound b → Sound (a ++ b)
sound-append [] b s t = t
sound-append (x ∷ a) b s t = (s.0, sound-append a b s.1 t)

pub sound-left : (a b : List Block) → Sound (a ++ b) → Sound a
sound-left [] b s = tt
sound-left (x ∷ a) b s = (s.0, sound-left a b s.1)

pub sound-right : (a b : List Block) → Sound (a ++ b) → Sound b
sound-right [] b s = s
sound-right (x ∷ a) b s = sound-right a b s.1

pub sound-four : (bs : List Block) → Sound bs → sizes bs % 4 ≡ 0
unfolding sizes
sound-four [] s = refl
sound-four (b ∷ bs) s = omega (arith, (low_of b s.0).1, sound-four bs s.1)

-- a free block is one of type 0
pub free-code : (b : Block) → free_b b ≡ eqb (code b) free_code
free-code (cell (free n)) = refl
free-code (cell (held e)) = sym (not_free e)
free-code (fixed d) = refl
