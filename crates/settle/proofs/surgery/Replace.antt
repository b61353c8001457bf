-- Blocks replaced by blocks of the same total size, in a zone.
use mathlib.Core.Path.{◌≡◌, refl, sym, ap, ap₂, ◌∙◌, subst}
use mathlib.Core.List.{List, ◌++◌, map}
use mathlib.Core.Bool.{false, cond}
use Prim.Native.Nat.{ℕ, zero, suc, ◌+◌, ◌*◌, ◌<◌, ◌≤◌}
use native.Mathlib.Nat.{add-zero}
use native.Mathlib.Omega.{arith}
use lib.Dec.{eqb}
use borrow.Author.Tests.{ne_eqb}
use lib.ListN.{length, length-append}
use Rattle.format.specs.Occurs.{occurs}
use Rattle.format.specs.WellFormed.{offsets}
use Rattle.block_type.specs.Limits.{master_size, zone_header}
use Rattle.bigendian.specs.BigEndian.{overwrite}
use Rattle.bigendian.proofs.Overwrite.{write_mid}
use Rattle.format.proofs.Count.{occurs-append}
use Rattle.structure.specs.Structure.{Block, Structure, sizes, count, start, len, head_of, place_of, next_of, value, encode, handles_of, names_in}
use Rattle.structure.specs.Valid.{Tiled, Valid}
use Rattle.structure.proofs.Round.{next-none}
use Rattle.access.specs.row.Row.{bytes_of, Sound}
use Rattle.access.proofs.row.Laws.{bytes-append, bytes-long, sound-left, sound-right}
use Rattle.structure.proofs.Append.{sizes-append, place-append, handles-append, names-append}
use Rattle.settle.specs.surgery.Masters.{set_all}
use Rattle.structure.proofs.ZoneLayout.{lay-same}
use Rattle.settle.proofs.surgery.Image.{img, encode-img, img-rest, img-same, img-all, all-is, upd_all}
use Rattle.access.proofs.row.Zone.{valid-sound}
use Rattle.settle.proofs.surgery.Sound.{handle-in, handle-once}
use Rattle.kinds.specs.Kinds.{is}

pub occurs-parts : (g : ℕ) (a b c : List Block) → occurs g (handles_of (a ++ (b ++ c))) ≡ occurs g (handles_of a) + (occurs g (handles_of b) + occurs g (handles_of c))
occurs-parts g a b c =
    rw (handles-append a (b ++ c), handles-append b c, occurs-append g (handles_of a) (handles_of b ++ handles_of c), occurs-append g (handles_of b) (handles_of c))

names-parts : (n : ℕ) (a b c : List Block) → occurs n (names_in (a ++ (b ++ c))) ≡ occurs n (names_in a) + (occurs n (names_in b) + occurs n (names_in c))
names-parts n a b c =
    rw (names-append a (b ++ c), names-append b c, occurs-append n (names_in a) (names_in b ++ names_in c), occurs-append n (names_in b) (names_in c))

count-parts : (a b c : List Block) → length (handles_of (a ++ (b ++ c))) ≡ length (handles_of a) + (length (handles_of b) + length (handles_of c))
count-parts a b c =
    rw (handles-append a (b ++ c), handles-append b c, length-append (handles_of a) (handles_of b ++ handles_of c), length-append (handles_of b) (handles_of c))

pub sizes-parts : (a b c : List Block) → sizes (a ++ (b ++ c)) ≡ sizes a + (sizes b + sizes c)
sizes-parts a b c = sizes-append a (b ++ c) ∙ ap (λ (x : ℕ). sizes a + x) (sizes-append b c)

module _ (s : Structure) (v : Valid s) (pre mid mid' post : List Block) (ks : List ℕ) (e : s.blocks ≡ pre ++ (mid ++ post)) (sz : sizes mid' ≡ sizes mid) (so : Sound mid') where
  abbrev s' : Structure
  s' = record { clock = s.clock; chain = ks; blocks = pre ++ (mid' ++ post) }

  sound-parts : Sound (pre ++ (mid ++ post))
  sound-parts = subst Sound e (valid-sound s v)

  pub rest-write : overwrite (bytes_of s.blocks) (sizes pre) (bytes_of mid') ≡ bytes_of (pre ++ (mid' ++ post))
  rest-write =
      let j : bytes_of s.blocks ≡ bytes_of pre ++ (bytes_of mid ++ bytes_of post) =
      ap (λ (b : List Block). bytes_of b) e ∙ bytes-append pre (mid ++ post) ∙ ap (λ (x : List ℕ). bytes_of pre ++ x) (bytes-append mid post) in
      let j' : bytes_of (pre ++ (mid' ++ post)) ≡ bytes_of pre ++ (bytes_of mid' ++ bytes_of post) =
      bytes-append pre (mid' ++ post) ∙ ap (λ (x : List ℕ). bytes_of pre ++ x) (bytes-append mid' post) in
      let sr = sound-right pre (mid ++ post) sound-parts in
      ap (λ (x : List ℕ). overwrite x (sizes pre) (bytes_of mid')) j
      ∙ write_mid (bytes_of pre) (bytes_of mid) (bytes_of mid') (bytes_of post) (sizes pre) (bytes-long pre (sound-left pre (mid ++ post) sound-parts))
      (bytes-long mid (sound-left mid post sr) ∙ sym sz ∙ sym (bytes-long mid' so))
      ∙ sym j'

  module _ (ct : length (handles_of mid') + length ks ≡ length (handles_of mid) + length s.chain) where
    count_same : count s' ≡ count s
    count_same = omega (arith, ct, count-parts pre mid' post, count-parts pre mid post, ap (λ (b : List Block). length (handles_of b)) e)

    pub start-same : start s' ≡ start s
    start-same = ap (λ (k : ℕ). zone_header + master_size * k) count_same

    len-same : len s' ≡ len s
    len-same = omega (arith, count_same, sizes-parts pre mid' post, sizes-parts pre mid post, ap sizes e)

    -- what a master outside the replaced blocks holds
    pub place_same : (k : ℕ) → occurs k (handles_of mid) ≡ 0 → occurs k (handles_of mid') ≡ 0 → place_of (is k) (start s') (pre ++ (mid' ++ post)) ≡ place_of (is k) (start s) s.blocks
    place_same k z z' =
        let o = start s + sizes pre in
        let m : place_of (is k) o (mid ++ post) ≡ place_of (is k) (o + sizes mid) post = place-append k o mid post ∙ (rw z) in
        let m' : place_of (is k) o (mid' ++ post) ≡ place_of (is k) (o + sizes mid) post = place-append k o mid' post ∙ (rw (z', sz)) in
        ap (λ (x : ℕ). place_of (is k) x (pre ++ (mid' ++ post))) start-same
        ∙ place-append k (start s) pre (mid' ++ post)
        ∙ ap (λ (x : ℕ). cond (eqb (occurs k (handles_of pre)) 0) x (place_of (is k) (start s) pre)) (m' ∙ sym m)
        ∙ sym (place-append k (start s) pre (mid ++ post))
        ∙ ap (place_of (is k) (start s)) (sym e)

    -- and one inside
    pub place-mid : (k : ℕ) → occurs k (handles_of pre) ≡ 0 → 0 < occurs k (handles_of mid') → place_of (is k) (start s') (pre ++ (mid' ++ post)) ≡ place_of (is k) (start s + sizes pre) mid'
    place-mid k z p =
        let a : place_of (is k) (start s) (pre ++ (mid' ++ post)) ≡ place_of (is k) (start s + sizes pre) (mid' ++ post) = place-append k (start s) pre (mid' ++ post) ∙ (rw z) in
        let b : place_of (is k) (start s + sizes pre) (mid' ++ post) ≡ place_of (is k) (start s + sizes pre) mid' =
        place-append k (start s + sizes pre) mid' post ∙ (rw (ne_eqb (occurs k (handles_of mid')) 0 (λ q. omega arith))) in
        ap (λ (x : ℕ). place_of (is k) x (pre ++ (mid' ++ post))) start-same ∙ a ∙ b

    -- the bytes of the new structure, for any g that is what its masters hold
    pub replaced : (g : ℕ → ℕ) → ((k : ℕ) → 0 < occurs k (offsets zone_header (count s)) → g k ≡ value s' k)
        → img s.clock (len s) (start s) (count s) (head_of ks) g (overwrite (bytes_of s.blocks) (sizes pre) (bytes_of mid')) ≡ encode s'
    replaced g f =
        ap (img s.clock (len s) (start s) (count s) (head_of ks) g) rest-write
        ∙ img-same s.clock (len s) (start s) (count s) (head_of ks) g (value s') (bytes_of (pre ++ (mid' ++ post))) f
        ∙ sym (encode-img s' ∙ lay-same s.clock len-same start-same count_same refl (ap (λ (m : ℕ). map (value s') (offsets zone_header m)) count_same) refl)

    pub replaced-valid : Tiled false (pre ++ (mid' ++ post))
        → ((k : ℕ) → occurs k (handles_of mid') + occurs k ks ≡ occurs k (handles_of mid) + occurs k s.chain) → ((n : ℕ) → occurs n (names_in mid') ≤ occurs n (names_in mid)) → Valid s'
    replaced-valid t f a = record {
      tiled = t;
      apart = λ n. omega (arith, a n, names-parts n pre mid' post, names-parts n pre mid post, ap (λ (b : List Block). occurs n (names_in b)) e, v.apart n);
      byte = v.byte;
      owned = λ h. omega (
        arith,
        f h,
        occurs-parts h pre mid' post,
        occurs-parts h pre mid post,
        ap (λ (b : List Block). occurs h (handles_of b)) e,
        v.owned h,
        ap (λ (m : ℕ). occurs h (offsets zone_header m)) count_same,
      );
      few = omega (arith, count_same, v.few);
      short = omega (arith, len-same, v.short);
    }

  -- blocks that have moved: the same handles. One overwrite of the blocks, and the masters' pass
  module _ (hs : handles_of mid' ≡ handles_of mid) (kl : ks ≡ s.chain) where
    ct : length (handles_of mid') + length ks ≡ length (handles_of mid) + length s.chain
    ct = rw (hs, kl)

    once : (k : ℕ) → occurs k (handles_of pre) + occurs k (handles_of mid') + occurs k ks ≤ 1
    once k = omega (arith, handle-once s v k, ap (λ (b : List Block). occurs k (handles_of b)) e, occurs-parts k pre mid post, ap (occurs k) hs, ap (occurs k) kl)

    holds : (k : ℕ) → upd_all (value s) (start s + sizes pre) mid' k ≡ value s' k
    holds k = all-is (value s) (start s + sizes pre) k mid' (omega (arith, once k)) ∙ go (occurs k (handles_of mid')) refl
      where
        go : (n : ℕ) → occurs k (handles_of mid') ≡ n → cond (eqb n 0) (value s k) (place_of (is k) (start s + sizes pre) mid') ≡ value s' k
        go zero z = ap₂ (λ (a b : ℕ). a + b) (sym (place_same ct k (ap (occurs k) (sym hs) ∙ z) z)) (ap (next_of k) (sym kl))
        go (suc n) z =
            rw (ne_eqb (suc n) 0 (λ q. omega arith))
            (sym (ap₂ (λ (a b : ℕ). a + b) (place-mid ct k (omega (arith, once k)) (omega arith)) (next-none k ks (omega (arith, once k))) ∙ add-zero _))

    pub moved : set_all (start s + sizes pre) mid' (overwrite (encode s) (start s + sizes pre) (bytes_of mid')) ≡ encode s'
    moved =
        let l = len s in let f = start s in let m = count s in let c = head_of s.chain in
        let r = bytes_of s.blocks in
        ap (λ (x : List ℕ). set_all (f + sizes pre) mid' (overwrite x (f + sizes pre) (bytes_of mid'))) (encode-img s)
        ∙ ap (set_all (f + sizes pre) mid') (img-rest s.clock l f m c (sizes pre) (f + sizes pre) (value s) r (bytes_of mid') refl)
        ∙ img-all s.clock l f m c (f + sizes pre) mid' (value s) (overwrite r (sizes pre) (bytes_of mid'))
        (λ h p. handle-in s v h (omega (arith, ap (λ (b : List Block). occurs h (handles_of b)) e, occurs-parts h pre mid post, ap (occurs h) hs)))
        ∙ ap (λ (x : ℕ). img s.clock l f m x (upd_all (value s) (f + sizes pre) mid') (overwrite r (sizes pre) (bytes_of mid'))) (ap head_of (sym kl))
        ∙ replaced ct (upd_all (value s) (f + sizes pre) mid') (λ k p. holds k)

    pub moved-valid : Tiled false (pre ++ (mid' ++ post)) → ((n : ℕ) → occurs n (names_in mid') ≤ occurs n (names_in mid)) → Valid s'
    moved-valid t a = replaced-valid ct t (λ k. rw (hs, kl)) a
