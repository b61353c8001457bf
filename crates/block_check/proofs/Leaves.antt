-- The laws that the leaves and loops of the check cite: each concludes what the code returns, from facts that stand there.
use mathlib.Core.Path.{◌≡◌, sym, ◌∙◌}
use mathlib.Core.List.{List}
use mathlib.Core.Bool.{Bool, true, false, cond, not, ◌&&◌}
use Prim.Native.Nat.{ℕ, zero, suc, ◌+◌, ◌*◌, ◌-◌, ◌/◌, ◌%◌, ◌<◌, ◌≤◌}
use native.Mathlib.Nat.{add-zero}
use native.Mathlib.Numerals.{sub-one}
use native.Mathlib.Omega.{arith}
use lib.Dec.{eqb, leb, ltb}
use borrow.Author.Tests.{ne_eqb, le-leb, lt-leb, not-true, not-false}
use lib.ListN.{length, get_or, take, drop, length-drop}
use lib.Seq.{get_or-drop, drop-drop}
use Rattle.block_type.specs.Limits.{longest_zone, master_size, most_masters, type_unit, zone_header, free_header, reloc_header, smallest_block, free_code, page_header, tag_at, status_at, lock_bit, stamp_range, type_byte_unit, zero_at}
use Rattle.block_type.specs.Types.{type_code}
use Rattle.block_type.specs.declared.BlockType.{BlockType}
use Rattle.block_type.specs.declared.BlockType.TheVariants.{Free, Fixed, Relocatable, Page}
use Rattle.block_type.proofs.Types.{same, free-test, reloc-test, page-test}
use Rattle.bigendian.specs.BigEndian.{from_be, slice}
use Rattle.bigendian.proofs.Parts.{drop-take}
use Rattle.memory.specs.Zeros.{all_zero}
use Rattle.format.proofs.Bool.{is_false}
use Rattle.format.specs.WellFormed.{header_ok, length_field, first_field, masters_field, type_of, size_of, handle_of, status_of, is_free, is_reloc, is_page, split_blocks, is_master, relocs}
use Rattle.format.specs.OneWalk.{links, type_rule, free_rule, fixed_rule, reloc_rule, page_rule, block_ok, blocks_ok, rule_of}
use Rattle.format.proofs.Masters.{is-master}
use Rattle.format.proofs.Walk.{is_first, first-rule, turn, stop, end, end-count}
use Rattle.format.specs.Steps.{Turn}
use Rattle.block_check.specs.Word.{IsBadBlock}

pub kind-law : (z : List ℕ) (at : ℕ) → get_or z at 0 / type_byte_unit ≡ type_of (drop at z)
unfolding type_of
kind-law z at = rw (get_or-drop, add-zero)

pub size-free : (r : List ℕ) (k b : ℕ) → k ≡ type_of r → k ≡ free_code → b ≡ from_be (take 4 r) → b * 2 ≡ size_of r
unfolding size_of
size-free r k b e z eb = rw (← e, z, eb)

pub size-used : (r : List ℕ) (k b : ℕ) → k ≡ type_of r → (k ≡ free_code → ⊥) → b ≡ from_be (take 2 r) → b % type_unit * 2 ≡ size_of r
unfolding size_of
size-used r k b e z eb = rw (← e, ne_eqb k free_code z, eb)

pub page-law : (r : List ℕ) (k : BlockType) (t : Bool) → type_code k ≡ type_of r → t ≡ same k Page → t ≡ is_page r
unfolding is_page
page-law r k t e q = rw (← e) (page-test k t q)

pub reloc-law : (r : List ℕ) (k : BlockType) (t : Bool) → type_code k ≡ type_of r → t ≡ same k Relocatable → t ≡ is_reloc r
unfolding is_reloc
reloc-law r k t e q = rw (← e) (reloc-test k t q)

pub free_law : (r : List ℕ) (k : BlockType) (t : Bool) → type_code k ≡ type_of r → t ≡ same k Free → t ≡ is_free r
unfolding is_free
free_law r k t e q = rw (← e) (free-test k t q)

pub master-law : (first h : ℕ) (t : Bool) → zone_header ≤ h → t ≡ leb (h + master_size) first → t ≡ true → eqb (h % 4) 0 ≡ is_master first h
unfolding is_master
master-law first h t l e y = rw (le-leb zone_header h l, ← e, y)

pub master-past : (first h : ℕ) (t : Bool) → zone_header ≤ h → t ≡ leb (h + master_size) first → t ≡ false → t ≡ is_master first h
unfolding is_master
master-past first h t l e n = rw (le-leb zone_header h l, ← e, n)

pub master-before : (first h : ℕ) (t : Bool) → h < zone_header → t ≡ false → t ≡ is_master first h
unfolding is_master
master-before first h t l n = rw (lt-leb zone_header h l, n)

pub master-fits : (z : List ℕ) (first h : ℕ) (t : Bool) → t ≡ is_master first h → t ≡ true → first ≤ length z → h + master_size ≤ length z
master-fits z first h t e y l = let m = is-master first h (sym e ∙ y) in omega arith

-- ---- the rules of a block

pub free-rule-prev : (b : List ℕ) (prev : Bool) → not prev ≡ false → not prev ≡ free_rule prev b
unfolding free_rule
free-rule-prev b prev e = rw (not-false prev e)

pub free-rule : (z : List ℕ) (at n : ℕ) (prev t : Bool) → not prev ≡ true → smallest_block ≤ n → t ≡ all_zero (slice z (at + free_header) (at + n - (at + free_header)))
    → t ≡ free_rule prev (take n (drop at z))
unfolding free_rule
free-rule z at n prev t e h q =
    let d : at + n - (at + free_header) ≡ n - free_header = omega arith in
    rw (not-true prev e, drop-take free_header n (drop at z), drop-drop free_header at z, ← d) q

pub reloc-rule : (z : List ℕ) (first at h v : ℕ) (t : Bool) → h ≡ from_be (slice z (at + tag_at) 2) → t ≡ is_master first h → t ≡ true → v ≡ from_be (slice z h 4)
    → eqb v (at + reloc_header) ≡ reloc_rule z first at (handle_of (drop at z))
unfolding reloc_rule handle_of
reloc-rule z first at h v t e q y w = rw (drop-drop tag_at at z, ← e, ← q, y, w)

pub reloc-rule-no : (z : List ℕ) (first at h : ℕ) (t : Bool) → h ≡ from_be (slice z (at + tag_at) 2) → t ≡ is_master first h → t ≡ false
    → t ≡ reloc_rule z first at (handle_of (drop at z))
unfolding reloc_rule handle_of
reloc-rule-no z first at h t e q y = rw (drop-drop tag_at at z, ← e, ← q, y)

pub page-short : (r : List ℕ) (n : ℕ) → n ≡ size_of r → n < page_header → leb page_header n ≡ page_rule r
unfolding page_rule
page-short r n e h = rw (← e, lt-leb page_header n h)

pub page-rule : (z : List ℕ) (at n v : ℕ) → n ≡ size_of (drop at z) → page_header ≤ n → v ≡ from_be (slice z (at + status_at) 2)
    → ltb (v % lock_bit) stamp_range ≡ page_rule (drop at z)
unfolding page_rule status_of
page-rule z at n v e h w = rw (← e, le-leb page_header n h, drop-drop status_at at z, w)

module _ (k : BlockType) (r : List ℕ) (t free fixed reloc page : Bool) (e : type_code k ≡ type_of r) where
  pub rule-free : k ≡ Free → t ≡ free → t ≡ type_rule (type_of r) free fixed reloc page
  unfolding type_rule
  rule-free q h = rw (← e, q) h

  pub rule-reloc : k ≡ Relocatable → t ≡ reloc → t ≡ type_rule (type_of r) free fixed reloc page
  unfolding type_rule
  rule-reloc q h = rw (← e, q) h

  pub rule-page : k ≡ Page → t ≡ page → t ≡ type_rule (type_of r) free fixed reloc page
  unfolding type_rule
  rule-page q h = rw (← e, q) h

pub rule-fixed : (z : List ℕ) (at v : ℕ) (k : BlockType) (free reloc page : Bool) → v ≡ from_be (slice z (at + tag_at) 2) → type_code k ≡ type_of (drop at z) → k ≡ Fixed
    → eqb v 0 ≡ type_rule (type_of (drop at z)) free (fixed_rule (drop at z)) reloc page
unfolding handle_of type_rule
rule-fixed z at v k free reloc page e q h = rw (← q, h, drop-drop tag_at at z, ← e)

-- ---- the test of a block

module _ (z : List ℕ) (first : ℕ) (prev : Bool) (at n : ℕ) (e : n ≡ size_of (drop at z)) (h : at + smallest_block ≤ length z) where
  abbrev test : Bool
  test = block_ok z first prev at (take (size_of (drop at z)) (drop at z))

  pub size-low : n < smallest_block → IsBadBlock z first prev at
  size-low l = is_false _ (λ g. let f = is_first z first prev at (drop at z) g in let x : ⊥ = omega arith in absurd x)

  pub size-odd : (n % 4 ≡ 0 → ⊥) → IsBadBlock z first prev at
  size-odd o = is_false _ (λ g. let f = is_first z first prev at (drop at z) g in absurd (o (rw e f.four)))

  pub size-over : length z - at < n → IsBadBlock z first prev at
  size-over l = is_false _ (λ g. let f = is_first z first prev at (drop at z) g in let d = length-drop at z in let x : ⊥ = omega arith in absurd x)

  module _ (t : Bool) (low : smallest_block ≤ n) (four : n % 4 ≡ 0) (fits : n ≤ length z - at) (et : t ≡ rule_of (type_of (drop at z)) z first prev at (take n (drop at z)) (drop at z)) where
    by-rule : test ≡ t
    by-rule = rw (first-rule z first prev at (drop at z) (omega arith) (rw (← e) four) (omega (arith, length-drop at z)), ← e, ← et)

    pub rule-bad : t ≡ false → IsBadBlock z first prev at
    rule-bad y = by-rule ∙ y

    pub rule-good : t ≡ true → Turn z first prev at n
    rule-good y = turn z first prev at n h (by-rule ∙ y) e

-- ---- the chain

pub links-step : (z : List ℕ) (first left h v : ℕ) (t w : Bool) → t ≡ is_master first h → t ≡ true → 0 < left → v ≡ from_be (slice z h 4)
    → links z first left h ≡ w → links z first (left - 1) v ≡ w
unfolding links
links-step z first zero h v t w e y l q inv = let e : ⊥ = omega arith in absurd e
links-step z first (suc left) h v t w e y l q inv = rw (sub-one, q) (rw (← e, y) at inv)

pub links-no : (z : List ℕ) (first left h : ℕ) (t w : Bool) → t ≡ is_master first h → t ≡ false → 0 < left → links z first left h ≡ w → false ≡ w
unfolding links
links-no z first zero h t w e y l inv = let e : ⊥ = omega arith in absurd e
links-no z first (suc left) h t w e y l inv = rw (← e, y) at inv

pub links-done : (z : List ℕ) (first left h : ℕ) (w : Bool) → left ≤ 0 → links z first left h ≡ w → eqb h 0 ≡ w
unfolding links
links-done z first zero h w l inv = inv
links-done z first (suc left) h w l inv = let e : ⊥ = omega arith in absurd e

-- ---- the walk

pub tiles-stop : (z : List ℕ) (first at : ℕ) (prev w : Bool) → at < length z → IsBadBlock z first prev at → blocks_ok z first prev at (split_blocks (drop at z)) ≡ w → false ≡ w
tiles-stop z first at prev w h b inv = sym (stop z first prev at h b) ∙ inv

module _ (z : List ℕ) (first at n : ℕ) (prev : Bool) (g : Turn z first prev at n) where
  pub tiles-step : (f w : Bool) → f ≡ is_free (drop at z)
      → blocks_ok z first prev at (split_blocks (drop at z)) ≡ w → blocks_ok z first f (at + n) (split_blocks (drop (at + n) z)) ≡ w
  tiles-step f w e inv = rw e (sym g.walk ∙ inv)

  pub tiles-count : (count one w : ℕ) → one ≡ cond (is_reloc (drop at z)) 1 0
      → count + relocs (split_blocks (drop at z)) ≡ w → count + one + relocs (split_blocks (drop (at + n) z)) ≡ w
  tiles-count count one w e inv = omega (arith, g.count)

pub tiles-end : (z : List ℕ) (first at : ℕ) (prev w : Bool) → length z ≤ at → blocks_ok z first prev at (split_blocks (drop at z)) ≡ w → true ≡ w
tiles-end z first at prev w h inv = sym (end z first prev at h) ∙ inv

pub tiles-end-count : (z : List ℕ) (at count w : ℕ) → length z ≤ at → count + relocs (split_blocks (drop at z)) ≡ w → count ≡ w
tiles-end-count z at count w h inv = omega (arith, end-count z at h)

-- ---- the header

pub header-short : (s : List ℕ) → length s < zone_header → false ≡ header_ok s
unfolding header_ok
header-short s h = rw (lt-leb zone_header (length s) h)

pub header-law : (s : List ℕ) (l first m : ℕ) → zone_header ≤ length s → l ≡ length_field s → first ≡ first_field s → m ≡ masters_field s
    → (eqb (get_or s zero_at 0) 0 && eqb (l % 4) 0 && leb l (length s) && leb l longest_zone && leb m most_masters && eqb first (zone_header + master_size * m) && leb first l) ≡ header_ok s
unfolding header_ok
header-law s l first m h e₁ e₂ e₃ = rw (le-leb zone_header (length s) h, e₁, e₂, e₃)
