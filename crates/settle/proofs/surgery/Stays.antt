-- Blocks replaced by others of the same total size, with the same masters at the same places: one write, and no master changes.
use mathlib.Core.Path.{◌≡◌, refl, sym, ap, ◌∙◌}
use mathlib.Core.List.{List, ◌++◌}
use Prim.Native.Nat.{ℕ, ◌+◌}
use lib.ListN.{length}
use Rattle.bigendian.specs.BigEndian.{overwrite}
use Rattle.structure.specs.Structure.{Block, Structure, sizes, count, start, len, head_of, place_of, next_of, value, encode, handles_of}
use Rattle.structure.specs.Valid.{Valid}
use Rattle.structure.proofs.Append.{place-append}
use Rattle.access.specs.row.Row.{bytes_of, Sound}
use Rattle.settle.proofs.surgery.Image.{encode-img, img-rest}
use Rattle.settle.proofs.surgery.Replace.{replaced, start-same}
use Rattle.kinds.specs.Kinds.{is}

module _ (s : Structure) (v : Valid s) (pre mid mid' post : List Block) (e : s.blocks ≡ pre ++ (mid ++ post)) (sz : sizes mid' ≡ sizes mid) (so : Sound mid')
    (hs : handles_of mid' ≡ handles_of mid) (at_same : (k p : ℕ) → place_of (is k) p mid' ≡ place_of (is k) p mid) where
  abbrev s' : Structure
  s' = record { clock = s.clock; chain = s.chain; blocks = pre ++ (mid' ++ post) }

  ct : length (handles_of mid') + length s.chain ≡ length (handles_of mid) + length s.chain
  ct = rw hs

  pub starts : start s' ≡ start s
  starts = start-same s v pre mid mid' post s.chain e sz so ct

  places : (k p : ℕ) → place_of (is k) p (pre ++ (mid' ++ post)) ≡ place_of (is k) p (pre ++ (mid ++ post))
  places k p =
      place-append k p pre (mid' ++ post)
      ∙ (rw (place-append k (p + sizes pre) mid' post, hs, sz, at_same k (p + sizes pre), ← place-append k (p + sizes pre) mid post) (sym (place-append k p pre (mid ++ post))))

  holds : (k : ℕ) → value s k ≡ value s' k
  holds k = ap (◌+ next_of k s.chain) (ap (place_of (is k) (start s)) e ∙ sym (places k (start s)) ∙ ap (λ (x : ℕ). place_of (is k) x (pre ++ (mid' ++ post))) (sym starts))

  pub stays : overwrite (encode s) (start s + sizes pre) (bytes_of mid') ≡ encode s'
  stays =
      ap (λ (x : List ℕ). overwrite x (start s + sizes pre) (bytes_of mid')) (encode-img s)
      ∙ img-rest s.clock (len s) (start s) (count s) (head_of s.chain) (sizes pre) (start s + sizes pre) (value s) (bytes_of s.blocks) (bytes_of mid') refl
      ∙ replaced s v pre mid mid' post s.chain e sz so ct (value s) (λ k l. holds k)
