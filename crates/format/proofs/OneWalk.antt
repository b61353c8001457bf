-- The rules of a well-formed zone are those that one walk meets.
use mathlib.Core.Path.{◌≡◌, refl, sym}
use mathlib.Core.List.{List, [], ◌∷◌}
use mathlib.Core.Bool.{Bool, true, false, cond, not, ◌&&◌, ◌||◌, and-false}
use mathlib.Core.Option.{Option, none, some}
use Prim.Native.Nat.{ℕ, zero, suc, ◌+◌, ◌-◌, ◌≤◌}
use native.Mathlib.Nat.{zero-add}
use native.Mathlib.Omega.{arith}
use native.Mathlib.Decide.{ℕ_discrete}
use lib.ListN.{length, drop}
use lib.Dec.{eqb, leb, eqb-suc-suc}
use borrow.Author.Tests.{eq-eqb, ne_eqb, eqb-true, le-leb, lt-leb, leb-true}
use Rattle.block_type.specs.Limits.{free_code, fixed_code, reloc_code, page_code}
use Rattle.format.proofs.Bool.{and_left, and_right, is_false}
use Rattle.format.specs.WellFormed.{header_ok, first_field, masters_field, chain_field, handle_of, is_free, is_fixed, is_reloc, is_page, split_blocks, relocs, names, distinct, every, type_ok, size_ok, tile_ok, zeros_ok, second_ok, page_size_ok, status_ok, neighbours_ok, is_master, master_at, handles_ok, linked, chain_from, counts_ok, zone_of, block_rules, zone_rules, well_formed}
use Rattle.format.specs.OneWalk.{links, type_rule, free_rule, reloc_rule, page_rule, block_ok, blocks_ok, body_ok}

-- ---- blocks

interchange : (a x b y : Bool) → ((a && x) && (b && y)) ≡ ((a && b) && (x && y))
interchange true x true y = refl
interchange true x false y = and-false x
interchange false x b y = refl

-- nine rules, each of a block (a to i) and of the blocks behind it (q to y): all of the block, then all of those behind it
block-first : (a q b r c s d t e u f v g w h x i y : Bool)
    → ((a && q) && (b && r) && (c && s) && (d && t) && (e && u) && (f && v) && (g && w) && (h && x) && (i && y)) ≡ ((a && b && c && d && e && f && g && h && i) && (q && r && s && t && u && v && w && x && y))
block-first a q b r c s d t e u f v g w h x i y =
    rw (
      interchange a q b r,
      interchange (a && b) (q && r) c s,
      interchange (a && b && c) (q && r && s) d t,
      interchange (a && b && c && d) (q && r && s && t) e u,
      interchange (a && b && c && d && e) (q && r && s && t && u) f v,
      interchange (a && b && c && d && e && f) (q && r && s && t && u && v) g w,
      interchange (a && b && c && d && e && f && g) (q && r && s && t && u && v && w) h x,
      interchange (a && b && c && d && e && f && g && h) (q && r && s && t && u && v && w && x) i y,
    )

-- the walk asks for a block's type last: t goes behind the two size rules p, q and the tile rule l
type-last : (t p q l d c e f g h : Bool) → (t && (p && q) && l && d && c && e && f && g && h) ≡ (p && (q && (l && (t && d && c && e && f && g && h))))
type-last true true true true d c e f g h = refl
type-last true true true false d c e f g h = refl
type-last true true false l d c e f g h = refl
type-last true false q l d c e f g h = refl
type-last false p q l d c e f g h = simp and-false

-- the rules that depend on the type k, by type; a page's size and status are two rules
by-type : (k : ℕ) (prev zeros second large status reloc : Bool)
    → (leb k page_code && (not (eqb k free_code) || zeros) && (not (eqb k fixed_code) || second) && (not (eqb k page_code) || large) && (not (eqb k page_code) || status) && not (prev && eqb k free_code) && (not (eqb k reloc_code) || reloc))
    ≡ type_rule k (not prev && zeros) second reloc (large && status)
unfolding type_rule
by-type zero true true second large status reloc = refl
by-type zero true false second large status reloc = refl
by-type zero false true second large status reloc = refl
by-type zero false false second large status reloc = refl
by-type (suc zero) prev zeros true large status reloc = simp and-false
by-type (suc zero) prev zeros false large status reloc = refl
by-type (suc (suc zero)) prev zeros second large status reloc = simp and-false
by-type (suc (suc (suc zero))) prev zeros second true true reloc = simp and-false
by-type (suc (suc (suc zero))) prev zeros second true false reloc = simp and-false
by-type (suc (suc (suc zero))) prev zeros second false status reloc = refl
by-type (suc (suc (suc (suc k)))) prev zeros second large status reloc = rw (lt-leb (suc (suc (suc (suc k)))) page_code (omega arith))

module _ (z : List ℕ) (first : ℕ) where
  block-walk : (prev : Bool) (at : ℕ) (b : List ℕ)
      → (type_ok b
      && size_ok b
      && tile_ok b
      && zeros_ok b
      && second_ok b
      && page_size_ok b
      && status_ok b
      && not (prev && is_free b)
      && (not (is_reloc b) || reloc_rule z first at (handle_of b)))
      ≡ block_ok z first prev at b
  unfolding type_ok size_ok tile_ok zeros_ok second_ok page_size_ok status_ok is_free is_fixed is_reloc is_page block_ok free_rule page_rule
  block-walk prev at b = rw (type-last, by-type)

  pub blocks-walk : (bs : List (List ℕ)) (prev : Bool) (at : ℕ)
      → (every type_ok bs && every size_ok bs && every tile_ok bs && every zeros_ok bs && every second_ok bs && every page_size_ok bs && every status_ok bs && neighbours_ok prev bs && handles_ok z first at bs)
      ≡ blocks_ok z first prev at bs
  unfolding every neighbours_ok handles_ok blocks_ok reloc_rule
  blocks-walk [] prev at = refl
  blocks-walk (b ∷ bs) prev at = rw (block-first, block-walk prev at b, blocks-walk bs (is_free b) (at + length b))

-- ---- the chain

-- n more than k are m, exactly if k is at most m and n is the rest
sum-rest : (m k n : ℕ) → Dec (k + n ≡ m) → eqb (k + n) m ≡ (leb k m && eqb (0 + n) (m - k))
sum-rest m k n (yes p) = rw (eq-eqb (k + n) m p, le-leb k m (omega arith), eq-eqb (0 + n) (m - k) (omega arith))
sum-rest m k n (no p) =
    rw (ne_eqb (k + n) m p)
    (sym (is_false _ (λ e. p (omega (arith, leb-true k m (and_left _ _ e), eqb-true (0 + n) (m - k) (and_right (leb k m) _ e))))))

-- so the masters that blocks own may be taken off first
count-rest : (m k : ℕ) (c : Option (List ℕ)) → counts_ok m k c ≡ (leb k m && counts_ok (m - k) 0 c)
count-rest m k none = sym (and-false (leb k m))
count-rest m k (some hs) = sum-rest m k (length hs) (ℕ_discrete (k + length hs) m)

-- A turn of the chain at h, with c the chain linked it. t: h is 0; u: h is a master. With no master to come, t decides ..
none_left : (t u : Bool) (h : ℕ) (c : Option (List ℕ)) → counts_ok 0 0 (cond t (some []) (cond u (linked h c) none)) ≡ t
none_left true u h c = refl
none_left false true h none = refl
none_left false true h (some hs) = ne_eqb (0 + suc (length hs)) 0 (λ e. omega arith)
none_left false false h c = refl

-- .. and with one or more to come, u and the chain linked it do, since 0 is no master
some_left : (t u : Bool) (i h : ℕ) (c : Option (List ℕ)) → (t ≡ true → u ≡ false)
    → counts_ok (suc i) 0 (cond t (some []) (cond u (linked h c) none)) ≡ (u && counts_ok i 0 c)
some_left true u i h c n = rw (n refl, ne_eqb 0 (suc i) (λ e. omega arith))
some_left false true i h none n = refl
some_left false true i h (some hs) n = rw (zero-add (suc (length hs)), zero-add (length hs)) (eqb-suc-suc (length hs) i)
some_left false false i h c n = refl

module _ (z : List ℕ) (first : ℕ) where
  zero-no-master : (h : ℕ) → eqb h 0 ≡ true → is_master first h ≡ false
  unfolding is_master
  zero-no-master h e = rw (eqb-true h 0 e)

  -- a chain has length j exactly if j links end in 0; that more than j were allowed changes nothing
  chain-links : (most j h : ℕ) → j ≤ most → counts_ok j 0 (chain_from z first most h) ≡ links z first j h
  unfolding chain_from links
  chain-links zero zero h l = none_left (eqb h 0) false h none
  chain-links zero (suc j) h l = let e : ⊥ = omega arith in absurd e
  chain-links (suc n) zero h l = none_left (eqb h 0) (is_master first h) h (chain_from z first n (master_at z h))
  chain-links (suc n) (suc j) h l =
      rw (
        some_left (eqb h 0) (is_master first h) j h (chain_from z first n (master_at z h)) (zero-no-master h),
        chain-links n j (master_at z h) (omega arith),
      )

-- the walk asks for the names last
names-last : (a b c d : Bool) → ((a && (b && c)) && d) ≡ (a && (b && (c && d)))
names-last true true c d = refl
names-last true false c d = refl
names-last false b c d = refl

pub rules-walk : (z : List ℕ) (first m head : ℕ) → zone_rules z first m head ≡ body_ok z first m head
unfolding zone_rules block_rules body_ok
rules-walk z first m head =
    let bs = split_blocks (drop first z) in
    rw (
      blocks-walk z first bs false first,
      count-rest m (relocs bs) (chain_from z first m head),
      chain-links z first m (m - relocs bs) head (omega arith),
    )
    (names-last (blocks_ok z first false first bs) (leb (relocs bs) m) (links z first (m - relocs bs) head) (distinct (names bs)))

pub one-walk : (s : List ℕ) → well_formed s ≡ (header_ok s && body_ok (zone_of s) (first_field s) (masters_field s) (chain_field s))
unfolding well_formed
one-walk s = rw rules-walk
