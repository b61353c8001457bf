-- The bytes of a block that is cut out of a free one, and of the same block with its data.
use mathlib.Core.Path.{◌≡◌, sym, ap, ◌∙◌}
use mathlib.Core.List.{List, [], ◌∷◌, ◌++◌, append_assoc}
use Prim.Native.Nat.{ℕ, ◌+◌, ◌-◌, ◌*◌, ◌/◌, ◌%◌, ◌≤◌}
use native.Mathlib.Omega.{arith}
use lib.ListN.{length, take, drop, replicate, length-append, length-replicate}
use lib.Seq.{take_all, length-take-le}
use Rattle.std.proofs.lemmas.List.{replicate-append-replicate}
use Rattle.block_type.specs.Limits.{reloc_code, reloc_header, type_unit, longest_zone}
use Rattle.bigendian.specs.BigEndian.{to_be, overwrite}
use Rattle.bigendian.proofs.Laws.{length-to_be}
use Rattle.bigendian.proofs.Overwrite.{write_mid}
use Rattle.kinds.specs.Kinds.{Item, item, item_size}
use Rattle.calls.specs.State.{sized}
use Rattle.bay.specs.Bay.{held, gap}
use Rattle.bay.specs.Sound.{bytes_of, Sound1}
use Rattle.bay.proofs.BayBytes.{bytes-long}
use Rattle.bay.proofs.Laws.{bsize-gap}
use Rattle.bay.proofs.SoundLaws.{gap-sound}
use Rattle.room.specs.place.Fit.{blank}

-- a block and the free rest behind it have the bytes of the free block
pub new-long : (e : Item) (n : ℕ) → Sound1 (held e) → item_size e ≤ n → n % 4 ≡ 0 → n ≤ longest_zone → length (bytes_of (held e ∷ gap (n - item_size e) [])) ≡ n
new-long e n ok l q s =
    bytes-long (held e ∷ gap (n - item_size e) []) (ok, gap-sound (n - item_size e) [] (omega (arith, ok.0)) (omega arith) tt) ∙ omega (arith, bsize-gap (n - item_size e) [])

-- its header
abbrev head : ℕ → ℕ → List ℕ
head h k = to_be 2 (reloc_code * type_unit + (reloc_header + k) / 2) ++ to_be 2 h

head-long : (h k : ℕ) → length (head h k) ≡ reloc_header
head-long h k = omega (arith, length-append (to_be 2 (reloc_code * type_unit + (reloc_header + k) / 2)) (to_be 2 h), length-to_be 2 (reloc_code * type_unit + (reloc_header + k) / 2), length-to_be 2 h)

bytes-are : (h n : ℕ) (u r : List ℕ) → bytes_of (held (item h (u ++ r)) ∷ gap n []) ≡ head h (length (u ++ r)) ++ (u ++ (r ++ bytes_of (gap n [])))
unfolding bytes_of
bytes-are h n u r = simp append_assoc

-- data of the same length
write-data : (z u w r g : List ℕ) (at h k : ℕ) → length u ≡ length w → at ≤ length z → overwrite (overwrite z at (head h k ++ (u ++ (r ++ g)))) (at + reloc_header) w ≡ overwrite z at (head h k ++ (w ++ (r ++ g)))
write-data z u w r g at h k e l =
    let p = take at z in
    let x = head h k in
    let q : (y : List ℕ) → overwrite z at (x ++ (y ++ (r ++ g))) ≡ (p ++ x) ++ (y ++ ((r ++ g) ++ drop (at + length (x ++ (y ++ (r ++ g)))) z)) = λ y. simp append_assoc in
    let m : length (x ++ (u ++ (r ++ g))) ≡ length (x ++ (w ++ (r ++ g))) = omega (arith, length-append x (u ++ (r ++ g)), length-append x (w ++ (r ++ g)), length-append u (r ++ g), length-append w (r ++ g)) in
    ap (λ (y : List ℕ). overwrite y (at + reloc_header) w) (q u)
    ∙ write_mid (p ++ x) u w ((r ++ g) ++ drop (at + length (x ++ (u ++ (r ++ g)))) z) (at + reloc_header) (omega (arith, length-append p x, length-take-le at z l, head-long h k)) e
    ∙ ap (λ (j : ℕ). (p ++ x) ++ (w ++ ((r ++ g) ++ drop (at + j) z))) m
    ∙ sym (q w)

-- the data d in the zeros of a new block of a data bytes
pub new-data : (z d : List ℕ) (at h a n : ℕ) → length d ≤ a → at ≤ length z
    → overwrite (overwrite z at (bytes_of (held (blank (reloc_header + a) h) ∷ gap n []))) (at + reloc_header) d ≡ overwrite z at (bytes_of (held (item h (sized a d)) ∷ gap n []))
new-data z d at h a n l k =
    let r = replicate {A = ℕ} (a - length d) 0 in
    let u = replicate {A = ℕ} (length d) 0 in
    let ea : reloc_header + a - reloc_header ≡ length d + (a - length d) = omega arith in
    let q : replicate {A = ℕ} (reloc_header + a - reloc_header) 0 ≡ u ++ r = ap (λ (j : ℕ). replicate {A = ℕ} j 0) ea ∙ sym (replicate-append-replicate (length d) (a - length d) 0) in
    let w : sized a d ≡ d ++ r = ap (◌++ r) (take_all a d l) in
    let lu : length u ≡ length d = length-replicate {A = ℕ} (length d) 0 in
    let m : length (u ++ r) ≡ length (d ++ r) = omega (arith, length-append u r, length-append d r) in
    ap (λ (y : List ℕ). overwrite (overwrite z at y) (at + reloc_header) d) (ap (λ (y : List ℕ). bytes_of (held (item h y) ∷ gap n [])) q ∙ bytes-are h n u r)
    ∙ write-data z u d r (bytes_of (gap n [])) at h (length (u ++ r)) lu k
    ∙ ap (λ (j : ℕ). overwrite z at (head h j ++ (d ++ (r ++ bytes_of (gap n []))))) m
    ∙ ap (λ (y : List ℕ). overwrite z at y) (sym (ap (λ (y : List ℕ). bytes_of (held (item h y) ∷ gap n [])) w ∙ bytes-are h n d r))
