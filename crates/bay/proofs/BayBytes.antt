-- A bay and its bytes: the bytes of cells say the cells, and a walk meets them block by block.
use mathlib.Core.Path.{◌≡◌, refl, sym, ap, ap₂, ◌∙◌}
use mathlib.Core.List.{List, [], ◌∷◌, ◌++◌, append_assoc, append-nil}
use Prim.Native.Nat.{ℕ, zero, suc, ◌+◌, ◌<◌, ◌≤◌, ◌-◌, ◌/◌}
use native.Mathlib.Omega.{arith}
use lib.ListN.{length, take, drop, length-append, length-drop, drop_of_length-le, replicate}
use lib.Seq.{drop-drop, take_at, drop_at, take-take, drop-append-add}
use Rattle.bigendian.proofs.Parts.{drop-zeros, take-zeros, drop-take}
use Rattle.bigendian.specs.BigEndian.{to_be, slice}
use Rattle.bigendian.proofs.Laws.{length-to_be}
use Rattle.block_type.specs.Limits.{smallest_block, free_header}
use Rattle.format.specs.WellFormed.{type_of, size_of}
use Rattle.format.proofs.Walk.{blocks-cons, blocks-nil, kind-take, size-take}
use Rattle.kinds.specs.Kinds.{Item}
use Rattle.bay.specs.Bay.{Cell, free, held, cell_size, bay_size, gap, packed, cell_code}
use Rattle.bay.specs.Bytes.{encode_cell}
use Rattle.bay.specs.Sound.{bytes_of, cells_of, Sound1, Sound, IsBay, is_bay, cell_at, Stepped}
use Rattle.bay.proofs.CellBytes.{Enc, enc}

-- ---- a block in front

-- the bytes r are the block c and then t
record Front (c : Cell) (r t : List ℕ) : Type 0 where
  size_is : size_of r ≡ cell_size c
  image : take (cell_size c) r ≡ encode_cell c
  rest : drop (cell_size c) r ≡ t
  long : length r ≡ cell_size c + length t
  code : type_of r ≡ cell_code c
  cells : cells_of r ≡ c ∷ cells_of t
  of : Enc c

front : (c : Cell) (r t : List ℕ) → Sound1 c → r ≡ encode_cell c ++ t → Front c r t
unfolding cells_of
front c r t s e =
    let x = enc c s in
    let n = cell_size c in
    let tk : take n r ≡ encode_cell c = rw e (take_at (encode_cell c) t n x.long) in
    let dr : drop n r ≡ t = rw e (drop_at (encode_cell c) t n x.long) in
    let sz : size_of r ≡ n = sym (size-take n r x.low) ∙ ap size_of tk ∙ x.same in
    let ln : length r ≡ n + length t = rw e (length-append (encode_cell c) t ∙ ap (λ (k : ℕ). k + length t) x.long) in
    record {
      size_is = sz;
      image = tk;
      rest = dr;
      long = ln;
      code = sym (kind-take n r x.low) ∙ ap type_of tk ∙ x.code;
      cells = rw (blocks-cons r (omega (arith, x.low)) (omega (arith, x.low)), sz, tk, dr, x.back);
      of = x;
    }

cells-nil : cells_of [] ≡ []
unfolding cells_of
cells-nil = rw blocks-nil

pub cells-bytes : (cs : List Cell) → Sound cs → cells_of (bytes_of cs) ≡ cs
unfolding bytes_of
cells-bytes [] s = cells-nil
cells-bytes (c ∷ cs) s = (front c (encode_cell c ++ bytes_of cs) (bytes_of cs) s.0 refl).cells ∙ ap (λ (t : List Cell). c ∷ t) (cells-bytes cs s.1)

-- ---- a step

pub bay-fits : (s : List ℕ) (p : ℕ) → IsBay (drop p s) → p < length s → p + smallest_block ≤ length s
unfolding bytes_of
bay-fits s p (is_bay [] sd e) l = let x : ⊥ = omega (arith, ap length e, length-drop p s) in absurd x
bay-fits s p (is_bay (c ∷ cs) sd e) l = let f = front c (drop p s) (bytes_of cs) sd.0 e in omega (arith, f.long, f.of.low, length-drop p s)

pub stepped : (s : List ℕ) (p n : ℕ) → IsBay (drop p s) → p < length s → n ≡ size_of (drop p s) → Stepped s p n
unfolding bytes_of
stepped s p n (is_bay [] sd e) l en = let x : ⊥ = omega (arith, ap length e, length-drop p s) in absurd x
stepped s p n (is_bay (c ∷ cs) sd e) l en =
    let r = drop p s in
    let f = front c r (bytes_of cs) sd.0 e in
    let q : n ≡ cell_size c = en ∙ f.size_is in
    let a : cell_at s p ≡ c = rw (f.size_is, f.image) f.of.back in
    let d : drop (p + n) s ≡ bytes_of cs = sym (drop-drop n p s) ∙ ap (λ (k : ℕ). drop k r) q ∙ f.rest in
    record {
      size_is = sym en;
      low = omega (arith, f.of.low);
      four = rw q f.of.four;
      fits = omega (arith, f.long, length-drop p s);
      next = is_bay cs sd.1 d;
      cells = rw (a, d) f.cells;
      bytes = rw a (sym q);
      code = rw a (sym f.code);
      image = rw (a, q) (sym f.image);
    }

pub bay-end : (s : List ℕ) (p : ℕ) → length s ≤ p → cells_of (drop p s) ≡ []
bay-end s p h = rw (drop_of_length-le s h) cells-nil

-- ---- the bay of some bytes

pub bay-bytes : (r : List ℕ) → IsBay r → bytes_of (cells_of r) ≡ r
bay-bytes r (is_bay cs sd e) = rw e (rw (cells-bytes cs sd))

pub bay-sound : (r : List ℕ) → IsBay r → Sound (cells_of r)
bay-sound r (is_bay cs sd e) = rw (e, cells-bytes cs sd) sd

pub bytes-long : (cs : List Cell) → Sound cs → length (bytes_of cs) ≡ bay_size cs
unfolding bytes_of
bytes-long [] s = refl
bytes-long (c ∷ cs) s = length-append (encode_cell c) (bytes_of cs) ∙ ap₂ (λ (x y : ℕ). x + y) (enc c s.0).long (bytes-long cs s.1)

-- ---- the bytes of free bytes and of packed items

pub gap-some : (n : ℕ) → 0 < n → bytes_of (gap n []) ≡ encode_cell (free n)
unfolding bytes_of
gap-some zero l = let x : ⊥ = omega arith in absurd x
gap-some (suc n) l = append-nil (encode_cell (free (suc n)))

pub gap-none : (n : ℕ) → n ≡ 0 → bytes_of (gap n []) ≡ []
unfolding bytes_of
gap-none n e = rw e

pub packed-bytes : (es : List Item) (t : List Cell) → bytes_of (packed es t) ≡ bytes_of (packed es []) ++ bytes_of t
unfolding bytes_of
packed-bytes [] t = refl
packed-bytes (e ∷ es) t = rw (packed-bytes es t) (sym (append_assoc (encode_cell (held e)) (bytes_of (packed es [])) (bytes_of t)))

-- a free block is zero behind its header
pub free-zeros : (z : List ℕ) (at n i k : ℕ) → slice z at n ≡ encode_cell (free n) → free_header ≤ i → i + k ≤ n → slice z (at + i) k ≡ replicate k 0
free-zeros z at n i k e h l =
    let t = to_be 4 (n / 2) in
    let lt = length-to_be 4 (n / 2) in
    let j : i ≡ length t + (i - free_header) = omega arith in
    let d : drop i (encode_cell (free n)) ≡ replicate (n - free_header - (i - free_header)) 0 =
    ap (λ (x : ℕ). drop x (encode_cell (free n))) j ∙ drop-append-add t (replicate (n - free_header) 0) (i - free_header) ∙ drop-zeros (i - free_header) (n - free_header) in
    rw (← drop-drop i at z, ← take-take k (n - i) (drop i (drop at z)) (omega arith), ← drop-take i n (drop at z), e, d) (take-zeros k (n - free_header - (i - free_header)) (omega arith))
