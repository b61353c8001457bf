-- One block of a bay and its bytes, the same for every kind.
use mathlib.Core.Path.{◌≡◌, refl, sym, ap, ◌∙◌}
use mathlib.Core.List.{List, ◌++◌}
use Prim.Native.Nat.{ℕ, zero, suc, ◌+◌, ◌*◌, ◌-◌, ◌/◌, ◌%◌, ◌<◌, ◌≤◌}
use native.Mathlib.Omega.{arith}
use borrow.Author.Tests.{ne_eqb}
use lib.ListN.{length, take, drop, replicate, length-append, length-replicate}
use lib.Seq.{drop-drop, drop_at}
use Rattle.bigendian.specs.BigEndian.{from_be, to_be}
use Rattle.bigendian.proofs.Laws.{length-to_be, be-front}
use Rattle.block_type.specs.Limits.{free_code, free_header, longest_zone, type_unit, tag_at}
use Rattle.format.specs.WellFormed.{type_of, size_of}
use Rattle.format.proofs.Walk.{size-free, size-used}
use Rattle.kinds.specs.Kinds.{code_of, tag_of, item_size, item_in}
use Rattle.kinds.proofs.KindLaws.{tag-long, facts, type-of, item_back}
use Rattle.bay.specs.Bay.{Cell, free, held, cell_size, cell_code}
use Rattle.bay.specs.Bytes.{encode_cell}
use Rattle.bay.specs.Sound.{decode_cell, Sound1}

-- what the bytes of a block say
pub record Enc (c : Cell) : Type 0 where
  pub long : length (encode_cell c) ≡ cell_size c
  pub same : size_of (encode_cell c) ≡ cell_size c
  pub back : decode_cell (encode_cell c) ≡ c
  pub code : type_of (encode_cell c) ≡ cell_code c
  pub low : free_header ≤ cell_size c
  pub four : cell_size c % 4 ≡ 0

type-free : (n : ℕ) (t : List ℕ) → n ≤ longest_zone → type_of (to_be 4 (n / 2) ++ t) ≡ free_code
unfolding type_of to_be
type-free n t l = omega arith

low_part : (c w : ℕ) → w < type_unit → (c * type_unit + w) % type_unit ≡ w
low_part c w l = omega arith

half : (n : ℕ) → n % 4 ≡ 0 → n / 2 * 2 ≡ n
half n q = omega arith

size-code : (b : List ℕ) (k : ℕ) → 0 < k → type_of b ≡ k → size_of b ≡ from_be (take 2 b) % type_unit * 2
size-code b zero l e = let x : ⊥ = omega arith in absurd x
size-code b (suc k) l e = size-used b k e

-- what the bytes b of a block say that is not free: type c, size n; the rest of its header, tag, stands before its data d
pub record Used (c n : ℕ) (tag d b : List ℕ) : Type 0 where
  pub long : length b ≡ n
  pub same : size_of b ≡ n
  pub code : type_of b ≡ c
  pub holds : drop (tag_at + length tag) b ≡ d

pub used : (c n : ℕ) (tag d : List ℕ) → 0 < c → c ≤ 3 → tag_at + length tag + length d ≡ n → n % 4 ≡ 0 → n / 2 < type_unit → Used c n tag d (to_be 2 (c * type_unit + n / 2) ++ (tag ++ d))
used c n tag d l m s q u =
    let v = c * type_unit + n / 2 in
    let b = to_be 2 v ++ (tag ++ d) in
    let k = type-of c (n / 2) (tag ++ d) m u in
    record {
      long = omega (arith, length-append (to_be 2 v) (tag ++ d), length-append tag d, length-to_be 2 v);
      same = size-code b c l k ∙ (rw (be-front 2 v (tag ++ d) (omega arith), low_part c (n / 2) u) (half n q));
      code = k;
      holds = sym (drop-drop (length tag) tag_at b) ∙ ap (drop (length tag)) (drop_at (to_be 2 v) (tag ++ d) tag_at (length-to_be 2 v)) ∙ drop_at tag d (length tag) refl;
    }

dec-held : (b : List ℕ) (k : ℕ) → 0 < k → type_of b ≡ k → decode_cell b ≡ held (item_in b)
unfolding decode_cell
dec-held b k l e = rw (e, ne_eqb k free_code (λ x. omega arith))

pub enc : (c : Cell) → Sound1 c → Enc c
unfolding decode_cell
enc (free n) s =
    let k = type-free n (replicate (n - free_header) 0) s.2 in
    let z : size_of (encode_cell (free n)) ≡ n = omega (arith, s.1, size-free (encode_cell (free n)) k, be-front 4 (n / 2) (replicate (n - free_header) 0) (omega (arith, s.2))) in
    record {
      long = simp (length-append, length-to_be, length-replicate) (omega (arith, s.0));
      same = z;
      back = rw (k, z);
      code = k;
      low = s.0;
      four = s.1;
    }
enc (held e) s =
    let f = facts e in
    let n = item_size e in
    let l : n / 2 < type_unit = omega (arith, s.1) in
    let u = used (code_of e) n (tag_of e) e.bytes f.used f.small (omega (arith, tag-long e)) s.0 l in
    record {
      long = u.long;
      same = u.same;
      back = dec-held (encode_cell (held e)) (code_of e) f.used u.code ∙ ap held (item_back e (n / 2) l s.2);
      code = u.code;
      low = omega (arith, f.low);
      four = s.0;
    }
