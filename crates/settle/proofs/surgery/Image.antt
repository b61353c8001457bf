-- The bytes of a zone as header fields, what the masters hold (a function of the handle), and the blocks' bytes.
-- Each overwrite of the code changes one of these.
use mathlib.Core.Path.{◌≡◌, refl, sym, ap, ap₂, ◌∙◌}
use mathlib.Core.List.{List, [], ◌∷◌, map}
use mathlib.Core.Bool.{Bool, true, false, cond}
use Prim.Native.Nat.{ℕ, ◌+◌, ◌*◌, ◌-◌, ◌/◌, ◌<◌, ◌≤◌}
use native.Mathlib.Nat.{zero-add}
use native.Mathlib.Omega.{arith}
use lib.Dec.{eqb}
use borrow.Author.Tests.{eq-eqb, ne_eqb}
use lib.ListN.{length, set, length-map}
use Rattle.format.specs.Occurs.{occurs}
use Rattle.format.specs.WellFormed.{offsets}
use Rattle.block_type.specs.Limits.{fixed_header, master_size, zone_header, chain_at, reloc_header}
use Rattle.bigendian.specs.BigEndian.{to_be, overwrite}
use Rattle.format.proofs.Count.{one_same, length-offsets}
use Rattle.structure.specs.Structure.{Block, fixed, Structure, size, count, start, len, head_of, place_of, value, encode, cell, handles_of}
use Rattle.kinds.specs.Kinds.{header_of, master_of, item_size, is, Item}
use Rattle.kinds.proofs.KindLaws.{Owned, own-handle, own-none, is-self, owned}
use Rattle.bay.specs.Bay.{free, held}
use Rattle.structure.proofs.Round.{offset-is}
use Rattle.access.specs.row.Row.{bytes_of}
use Rattle.structure.proofs.ZoneLayout.{lay, encode-lay, lay-chain, lay-master, lay-rest, values-set}
use Rattle.structure.proofs.Append.{occurs-own, occurs-held}
use Rattle.settle.specs.surgery.Masters.{set_one, set_all}

abbrev pub img : ℕ → ℕ → ℕ → ℕ → ℕ → (ℕ → ℕ) → List ℕ → List ℕ
img ck l f m c g r = lay ck l f m c (map g (offsets zone_header m)) r

pub encode-img : (s : Structure) → encode s ≡ img s.clock (len s) (start s) (count s) (head_of s.chain) (value s) (bytes_of s.blocks)
encode-img s = encode-lay s

-- g, but v at h
abbrev pub upd : (ℕ → ℕ) → ℕ → ℕ → ℕ → ℕ
upd g h v k = cond (eqb k h) v (g k)

pub img-chain : (ck l f m c c' : ℕ) (g : ℕ → ℕ) (r : List ℕ) → overwrite (img ck l f m c g r) chain_at (to_be 2 c') ≡ img ck l f m c' g r
img-chain ck l f m c c' g r = lay-chain ck l f m c c' (map g (offsets zone_header m)) r

pub img-master : (ck l f m c h v : ℕ) (g : ℕ → ℕ) (r : List ℕ) → 0 < occurs h (offsets zone_header m) → overwrite (img ck l f m c g r) h (to_be 4 v) ≡ img ck l f m c (upd g h v) r
img-master ck l f m c h v g r o =
    let q = offset-is h zone_header m o in
    let i = (h - zone_header) / master_size in
    let e : h ≡ zone_header + master_size * i = omega (arith, q.0, q.2) in
    let li : i < m = omega (arith, q.0, q.1) in
    let ln : length (map g (offsets zone_header m)) ≡ m = length-map (offsets zone_header m) g ∙ length-offsets zone_header m in
    let vs = values-set g (upd g h v) h zone_header m i e li (λ k ne. rw (ne_eqb k h ne)) in
    let at-h : upd g h v h ≡ v = rw (eq-eqb h h refl) in
    ap (λ (x : ℕ). overwrite (img ck l f m c g r) x (to_be 4 v)) e
    ∙ lay-master ck l f m c i v (map g (offsets zone_header m)) r (omega arith)
    ∙ ap (λ (xs : List ℕ). lay ck l f m c xs r) (sym (vs ∙ ap (set (map g (offsets zone_header m)) i) at-h))

pub img-rest : (ck l f m c p o : ℕ) (g : ℕ → ℕ) (r x : List ℕ) → o ≡ zone_header + master_size * m + p → overwrite (img ck l f m c g r) o x ≡ img ck l f m c g (overwrite r p x)
img-rest ck l f m c p o g r x e =
    let ln : length (map g (offsets zone_header m)) ≡ m = length-map (offsets zone_header m) g ∙ length-offsets zone_header m in
    let q : o ≡ zone_header + (master_size * length (map g (offsets zone_header m)) + p) = omega arith in
    ap (λ (i : ℕ). overwrite (img ck l f m c g r) i x) q ∙ lay-rest ck l f m c p (map g (offsets zone_header m)) r x

pub map_same : (f g : ℕ → ℕ) (xs : List ℕ) → ((h : ℕ) → 0 < occurs h xs → f h ≡ g h) → map f xs ≡ map g xs
unfolding occurs
map_same f g [] e = refl
map_same f g (x ∷ xs) e = ap₂ (λ (a : ℕ) (r : List ℕ). a ∷ r) (e x (omega (arith, one_same x x refl))) (map_same f g xs (λ h l. e h (omega arith)))

-- only what the masters hold counts
pub img-same : (ck l f m c : ℕ) (g g' : ℕ → ℕ) (r : List ℕ) → ((h : ℕ) → 0 < occurs h (offsets zone_header m) → g h ≡ g' h) → img ck l f m c g r ≡ img ck l f m c g' r
img-same ck l f m c g g' r e = ap (λ (vs : List ℕ). lay ck l f m c vs r) (map_same g g' (offsets zone_header m) e)

-- ---- the masters' pass

unfoldable pub upd_one : (ℕ → ℕ) → ℕ → Block → ℕ → ℕ
upd_one g at (cell (free n)) k = g k
upd_one g at (fixed d) k = g k
upd_one g at (cell (held e)) k = cond (is k e) (at + header_of e) (g k)

unfoldable pub upd_all : (ℕ → ℕ) → ℕ → List Block → ℕ → ℕ
upd_all g at [] = g
upd_all g at (b ∷ bs) = upd_all (upd_one g at b) (at + size b) bs

-- a block's master is set
one_set : (ck l f m c at : ℕ) (e : Item) (g : ℕ → ℕ) (r : List ℕ) → ((h : ℕ) → is h e ≡ true → 0 < occurs h (offsets zone_header m))
    → set_one at (cell (held e)) (img ck l f m c g r) ≡ img ck l f m c (upd_one g at (cell (held e))) r
unfolding set_one upd_one
one_set ck l f m c at e g r o = go (owned e) o
  where
    go : {e : Item} → Owned e → ((h : ℕ) → is h e ≡ true → 0 < occurs h (offsets zone_header m))
        → cond (eqb (master_of e) 0) (img ck l f m c g r) (overwrite (img ck l f m c g r) (master_of e) (to_be 4 (at + header_of e))) ≡ img ck l f m c (λ k. cond (is k e) (at + header_of e) (g k)) r
    go (own-handle h d) o =
        let q = o h (is-self h d) in
        rw (ne_eqb h 0 (λ x. omega (arith, (offset-is h zone_header m q).0))) (img-master ck l f m c h (at + reloc_header) g r q)
    go (own-none e _ n i) o =
        ap (λ (j : ℕ). cond (eqb j 0) (img ck l f m c g r) (overwrite (img ck l f m c g r) j (to_be 4 (at + header_of e)))) n
        ∙ (img-same ck l f m c g (λ k. cond (is k e) (at + header_of e) (g k)) r (λ k _. rw (i k)))

pub img-all : (ck l f m c at : ℕ) (bs : List Block) (g : ℕ → ℕ) (r : List ℕ) → ((h : ℕ) → 0 < occurs h (handles_of bs) → 0 < occurs h (offsets zone_header m))
    → set_all at bs (img ck l f m c g r) ≡ img ck l f m c (upd_all g at bs) r
unfolding set_all upd_all upd_one set_one handles_of
img-all ck l f m c at [] g r o = refl
img-all ck l f m c at (cell (free n) ∷ bs) g r o = img-all ck l f m c (at + n) bs g r o
img-all ck l f m c at (fixed d ∷ bs) g r o = img-all ck l f m c (at + (fixed_header + length d)) bs g r o
img-all ck l f m c at (cell (held e) ∷ bs) g r o =
    ap (set_all (at + item_size e) bs) (one_set ck l f m c at e g r (λ h q. o h (occurs-own h e bs q)))
    ∙ img-all ck l f m c (at + item_size e) bs (λ k. cond (is k e) (at + header_of e) (g k)) r (λ k p. o k (omega (arith, occurs-held k e bs)))

-- what a master holds after the pass: the place of its block, where it has one among these
pub all-is : (g : ℕ → ℕ) (at k : ℕ) (bs : List Block) → occurs k (handles_of bs) ≤ 1
    → upd_all g at bs k ≡ cond (eqb (occurs k (handles_of bs)) 0) (g k) (place_of (is k) at bs)
unfolding upd_all upd_one handles_of occurs place_of
all-is g at k [] o = refl
all-is g at k (cell (free n) ∷ bs) o = all-is g (at + n) k bs o
all-is g at k (fixed d ∷ bs) o = all-is g (at + (fixed_header + length d)) k bs o
all-is g at k (cell (held e) ∷ bs) o =
    let o' : cond (is k e) 1 0 + occurs k (handles_of bs) ≤ 1 = omega (arith, occurs-held k e bs) in
    rw (occurs-held k e bs) (go (is k e) o' (all-is (λ j. cond (is j e) (at + header_of e) (g j)) (at + item_size e) k bs (omega arith)))
  where
    go : (t : Bool) → cond t 1 0 + occurs k (handles_of bs) ≤ 1
        → upd_all (λ j. cond (is j e) (at + header_of e) (g j)) (at + item_size e) bs k ≡ cond (eqb (occurs k (handles_of bs)) 0) (cond t (at + header_of e) (g k)) (place_of (is k) (at + item_size e) bs)
        → upd_all (λ j. cond (is j e) (at + header_of e) (g j)) (at + item_size e) bs k ≡ cond (eqb (cond t 1 0 + occurs k (handles_of bs)) 0) (g k) (cond t (at + header_of e) (place_of (is k) (at + item_size e) bs))
    go true o i =
        let z : occurs k (handles_of bs) ≡ 0 = omega arith in
        i ∙ (rw z)
    go false o i = i ∙ (rw (zero-add (occurs k (handles_of bs))))
