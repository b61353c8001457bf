-- The laws of the whole test: the header's facts, the body, the two together.
use mathlib.Core.Path.{◌≡◌, refl, sym, ap, ◌∙◌}
use mathlib.Core.List.{List}
use mathlib.Core.Bool.{Bool, true, false, ◌&&◌}
use Prim.Native.Nat.{ℕ, zero, suc, ◌+◌, ◌*◌, ◌-◌, ◌%◌, ◌<◌, ◌≤◌}
use native.Mathlib.Omega.{arith}
use borrow.Author.Tests.{leb-true, le-leb}
use lib.ListN.{length, get_or, take, drop, length-take}
use lib.Dec.{eqb, leb}
use Rattle.block_type.specs.Limits.{zone_header, master_size, most_masters, longest_zone, first_at, zero_at, argument_range}
use Rattle.bigendian.specs.BigEndian.{from_be, slice}
use Rattle.bigendian.proofs.Parts.{slice-take}
use Rattle.format.proofs.Bool.{and_left, and_right, is_false}
use Rattle.format.proofs.Header.{Fields, header-facts}
use Rattle.std.specs.Prelude.{Option, None, Some, MatchOption, unwrap_or}
use Rattle.zone_check.specs.Sought.{unless_zero, page_in, page_of}
use Rattle.zone_check.specs.Body.{IsBad, Blocks}
use Rattle.zone_check.specs.Header.{IsHeader}
use Rattle.block_check.proofs.Leaves.{header-short, header-law, links-step}
use Rattle.zone_check.specs.Checked.{IsBody, IsChecked}
use Rattle.zone_check.specs.declared.Checked.{Checked}
use Rattle.zone_check.specs.declared.Header.{Header}
use Rattle.names.specs.Pages.{Pages, names_at}
use Rattle.format.specs.WellFormed.{is_master, header_ok, length_field, first_field, masters_field, chain_field, split_blocks, relocs, names, distinct, well_formed, count_of}
use Rattle.format.proofs.OneWalk.{one-walk}
use Rattle.format.proofs.Every.{every-size, every-tile, every-page}
use Rattle.format.specs.OneWalk.{links, blocks_ok, body_ok}

pub header-no : (s : List ℕ) → length s < zone_header → header_ok s ≡ false
header-no s h = sym (header-short s h)

module _ (s : List ℕ) (l first m : ℕ) (h : zone_header ≤ length s) (e₁ : l ≡ length_field s) (e₂ : first ≡ first_field s) (e₃ : m ≡ masters_field s) where
  abbrev test : Bool
  test = eqb (get_or s zero_at 0) 0 && eqb (l % 4) 0 && leb l (length s) && leb l longest_zone && leb m most_masters && eqb first (zone_header + master_size * m) && leb first l

  pub header-yes : (head : ℕ) → head ≡ chain_field s → head < argument_range → test ≡ true → IsHeader s (record { len = l; first = first; masters = m; chain = head })
  header-yes head e₄ r t =
      let k = sym (header-law s l first m h e₁ e₂ e₃) ∙ t in
      record { is_ok = k; fields = rw (e₁, e₂, e₃, e₄) (header-facts s k); chain = r }

  pub header-bad : test ≡ false → header_ok s ≡ false
  header-bad t = sym (header-law s l first m h e₁ e₂ e₃) ∙ t

-- ---- the chain of free masters

pub links-next : (z : List ℕ) (first n i h v : ℕ) (t w : Bool) → t ≡ is_master first h → t ≡ true → i < n → v ≡ from_be (slice z h 4)
    → links z first (n - i) h ≡ w → links z first (n - (i + 1)) v ≡ w
links-next z first n i h v t w e y l q inv = let k : n - (i + 1) ≡ n - i - 1 = omega arith in rw k (links-step z first (n - i) h v t w e y (omega arith) q inv)

-- ---- the body

module _ (x : ℕ) (z : List ℕ) (first m head : ℕ) where
  abbrev bs : List (List ℕ)
  bs = split_blocks (drop first z)

  pub body-tiles : IsBad z first → body_ok z first m head ≡ false
  unfolding body_ok
  body-tiles q = rw q

  module _ (n : ℕ) (page : Option ℕ) (certain : Bool) (b : Blocks x z first n certain page) where
    -- what the search for names is given
    pub body-walks : first ≤ length z → first % 4 ≡ 0 → length z % 4 ≡ 0 → length z ≤ longest_zone → Pages z first
    body-walks h f g l =
        record {
          within = h;
          four = f;
          whole = g;
          limit = l;
          sizes = every-size z first false first bs b.is_ok;
          tiles = every-tile z first false first bs b.is_ok;
          long = every-page z first false first bs b.is_ok;
        }

    pub body-certain : certain ≡ true → distinct (names bs) ≡ true
    body-certain = b.is_distinct

    pub body-many : m < n → body_ok z first m head ≡ false
    unfolding body_ok
    body-many h = is_false _ (λ g. let e = b.is_count in
        let l = leb-true (relocs bs) m (and_left _ (links z first (m - relocs bs) head && distinct (names bs)) (and_right (blocks_ok z first false first bs) _ g)) in omega arith)

    module _ (k : Bool) (h : n ≤ m) (ek : k ≡ links z first (m - n) head) where
      rest : body_ok z first m head ≡ (k && distinct (names bs))
      unfolding body_ok
      rest = rw (b.is_ok, ← b.is_count, le-leb n m h, ek)

      pub body-chain : k ≡ false → body_ok z first m head ≡ false
      body-chain y = rest ∙ rw y

      module _ (y : k ≡ true) (d : Bool) (ed : d ≡ distinct (names bs)) where
        value : body_ok z first m head ≡ d
        value = rest ∙ rw (y, ed)

        pub body-yes : d ≡ true → IsBody x z first m head (record { len = length z; count = n; page = page })
        body-yes k = record { is_ok = value ∙ k; is_len = refl; is_count = b.is_count; page_is = b.page_is }

        pub body-no : d ≡ false → body_ok z first m head ≡ false
        body-no k = value ∙ k

-- where the walk was certain
pub certain-names : (z : List ℕ) (first : ℕ) (certain : Bool) → (certain ≡ true → distinct (names_at z first) ≡ true) → certain ≡ true → certain ≡ distinct (names_at z first)
certain-names z first certain f e = e ∙ sym (f e)

-- ---- the two together

pub form-no : (s : List ℕ) → header_ok s ≡ false → well_formed s ≡ false
form-no s e = rw (one-walk s, e)

-- the first block's offset, read in the zone
first-in : (s : List ℕ) (l first m head : ℕ) → Fields s l first m head → first_field (take l s) ≡ first
first-in s l first m head f = ap from_be (slice-take s l first_at 4 (omega arith)) ∙ sym f.is_first

module _ (s : List ℕ) (x : ℕ) (h : Header) (i : IsHeader s h) where
  is_form : (b : Bool) → body_ok (take h.len s) h.first h.masters h.chain ≡ b → well_formed s ≡ b
  is_form b k = let f = i.fields in rw (one-walk s, i.is_ok, ← f.is_len, ← f.is_first, ← f.is_masters, ← f.is_chain) k

  -- what the body asks for
  pub header-body : (0 < h.first) × (h.first ≤ length (take h.len s)) × (h.first % 4 ≡ 0) × (length (take h.len s) % 4 ≡ 0) × (length (take h.len s) ≤ longest_zone) × (h.chain < argument_range)
  header-body =
      let f = i.fields in
      let l : length (take h.len s) ≡ h.len = omega (arith, length-take h.len s, f.room) in
      (omega (arith, f.start), omega (arith, f.within), omega (arith, f.start), rw l f.four, omega (arith, f.limit), i.chain)

  -- what the body says, said of the buffer
  pub body-checked : (r : Option Checked) → MatchOption r (body_ok (take h.len s) h.first h.masters h.chain ≡ false) (IsBody x (take h.len s) h.first h.masters h.chain) → MatchOption r (well_formed s ≡ false) (IsChecked x s)
  unfolding count_of page_of page_in
  body-checked None k = is_form false k
  body-checked (Some k) b =
      let f = i.fields in
      let w = is_form true b.is_ok in
      record {
        well = w;
        is_len = omega (arith, b.is_len, length-take h.len s, f.is_len, f.room);
        within = omega (arith, b.is_len, length-take h.len s);
        is_count = rw (w, ← f.is_len, ← f.is_first) b.is_count;
        page_is = rw (w, ← f.is_len, first-in s h.len h.first h.masters h.chain f) b.page_is;
      }

pub count_no : (s : List ℕ) → well_formed s ≡ false → ◌≡◌ {A = ℕ} 0 (count_of s)
unfolding count_of
count_no s e = rw e

pub page-no : (s : List ℕ) (x : ℕ) → well_formed s ≡ false → ◌≡◌ {A = ℕ} 0 (page_of x s)
unfolding page_of
page-no s x e = rw e

-- 0 again where there is none
pub page-or : (n : ℕ) (page : Option ℕ) → page ≡ unless_zero n → unwrap_or page 0 ≡ n
page-or zero page e = rw e
page-or (suc n) page e = rw e
