-- The page of a name, where the check has found it: it is the block that the name names.
use mathlib.Core.Path.{◌≡◌, refl, sym, ◌∙◌}
use mathlib.Core.Bool.{Bool, true, false, cond, ◌&&◌}
use mathlib.Core.List.{List}
use Prim.Native.Nat.{ℕ, zero, suc, ◌+◌, ◌-◌, ◌<◌, ◌≤◌}
use native.Mathlib.Omega.{arith}
use mir.Val.{Fits}
use mir.Syntax.{w64}
use lib.ListN.{length, take, drop}
use lib.Dec.{eqb, ltb}
use borrow.Author.Tests.{eqb-true, eqb-false, eq-eqb, ne_eqb, ltb-true, ltb-false}
use Rattle.block_type.specs.Limits.{page_code, fixed_header, reloc_header, page_header, smallest_block}
use Rattle.format.specs.WellFormed.{type_of, size_of, handle_of, name_of, status_of, is_page, first_field}
use Rattle.format.proofs.Bool.{not-both}
use Rattle.std.specs.Prelude.{Option, None, Some}
use Rattle.zone_check.specs.Sought.{unless_zero, page_from, page_in}
use Rattle.access.specs.locate.Found.{NoSpan, IsSpan}
use Rattle.zone_check.proofs.Found.{page-cons, page-end, zero-unless, some-unless}
use Rattle.kinds.specs.Kinds.{item, page, status_in}
use Rattle.kinds.proofs.KindLaws.{name-header}
use Rattle.bay.specs.Bay.{free, held}
use Rattle.structure.specs.Structure.{Block, cell, fixed, size, by_type, decode_block}
use Rattle.structure.specs.IsZone.{IsZone}
use Rattle.calls.specs.Calls.{by_name}
use Rattle.access.specs.row.Row.{Row, blocks_of, block_at, Stepped}
use Rattle.access.specs.Named.{names, header_of_block, held_by, place_among, data_among}
use Rattle.access.specs.locate.Locate.{target_place, target_data}
use Rattle.access.proofs.row.Laws.{stepped, row-end}
use Rattle.access.proofs.row.Zone.{zone-row, zone-first, zone-short}
use Rattle.access.proofs.locate.Laws.{place-start, data-start}

eqb_swap : (a b : ℕ) → eqb a b ≡ eqb b a
eqb_swap a b = go (eqb a b) refl
  where
    go : (t : Bool) → eqb a b ≡ t → t ≡ eqb b a
    go true q = sym (eq-eqb b a (sym (eqb-true a b q)))
    go false q = sym (ne_eqb b a (λ e. eqb-false a b q (sym e)))

-- whether a block is the page of that name, by its bytes and by what it holds
is-named : (name p : ℕ) (b : List ℕ) → (is_page b && eqb (name_of b) name) ≡ names (by_name name) p (decode_block b)
unfolding is_page decode_block
is-named name p b = go (type_of b) (is_page b) (eqb-true (type_of b) page_code)
  where
    go : (k : ℕ) (t : Bool) → (t ≡ true → k ≡ page_code)
        → (t && eqb (name_of b) name)
        ≡ names (by_name name) p (by_type k (cell (free (size_of b))) (fixed (drop fixed_header b)) (cell (held (cond t (page (name_of b) (status_in (status_of b)) (drop page_header b)) (item (handle_of b) (drop reloc_header b))))))
    go zero true q = let e : ⊥ = omega (arith, q refl) in absurd e
    go (suc zero) true q = let e : ⊥ = omega (arith, q refl) in absurd e
    go (suc (suc k)) true q = eqb_swap (name_of b) name
    go zero false q = refl
    go (suc zero) false q = refl
    go (suc (suc k)) false q = refl

-- a page starts at `page`, and has n data bytes from `place` on; or there is none, and all three are 0
record Spans (s : List ℕ) (page place n : ℕ) : Type 0 where
  none-place : page ≡ 0 → 0 ≡ place
  none-data : page ≡ 0 → 0 ≡ n
  fits : (page ≡ 0 → ⊥) → page + size_of (drop page s) ≤ length s
  some-place : (page ≡ 0 → ⊥) → page + page_header ≡ place
  some-data : (page ≡ 0 → ⊥) → page_header + n ≡ size_of (drop page s)

nowhere : (s : List ℕ) → Spans s 0 0 0
nowhere s = record { none-place = λ _. refl; none-data = λ _. refl; fits = λ q. absurd (q refl); some-place = λ q. absurd (q refl); some-data = λ q. absurd (q refl) }

there : (s : List ℕ) (page n : ℕ) → 0 < page → page + size_of (drop page s) ≤ length s → page_header + n ≡ size_of (drop page s) → Spans s page (page + page_header) n
there s page n l f d =
    record {
      none-place = λ q. let k : ⊥ = omega arith in absurd k;
      none-data = λ q. let k : ⊥ = omega arith in absurd k;
      fits = λ _. f;
      some-place = λ _. refl;
      some-data = λ _. d;
    }

module _ (name : ℕ) (s : List ℕ) where
  abbrev At : ℕ → Type 0
  At p = Spans s (page_from name s p) (place_among (by_name name) p (blocks_of (drop p s))) (length (data_among (by_name name) p (blocks_of (drop p s))))

  ended : (p : ℕ) → length s ≤ p → At p
  unfolding place_among data_among
  ended p l = rw (page-end name s p l, row-end s p l) (nowhere s)

  module _ (p n : ℕ) (x : Stepped s p n) (f : Bool) (ef : f ≡ names (by_name name) p (block_at s p)) where
    page-step : page_from name s p ≡ cond f p (page_from name s (p + n))
    page-step =
        let e = page-cons name s p n (sym x.size_is) (omega (arith, x.low)) x.fits in
        let b : block_at s p ≡ decode_block (take n (drop p s)) = rw x.size_is in
        rw (ef, b, ← is-named name p (take n (drop p s))) e

    place-step : place_among (by_name name) p (blocks_of (drop p s)) ≡ cond f (p + header_of_block (block_at s p)) (place_among (by_name name) (p + n) (blocks_of (drop (p + n) s)))
    unfolding place_among
    place-step = rw (x.blocks, x.bytes, ← ef)

    data-step : data_among (by_name name) p (blocks_of (drop p s)) ≡ cond f (held_by (block_at s p)) (data_among (by_name name) (p + n) (blocks_of (drop (p + n) s)))
    unfolding data_among
    data-step = rw (x.blocks, x.bytes, ← ef)

    next : f ≡ false → At (p + n) → At p
    next q a = rw (page-step, place-step, data-step, q) a

    here : 0 < p → f ≡ true → At p
    here l q =
        let h = hit (block_at s p) (sym ef ∙ q) in
        rw (page-step, place-step, data-step, q, h.0) (there s p (length (held_by (block_at s p))) l (omega (arith, x.size_is, x.fits)) (omega (arith, h.1, x.bytes, x.size_is)))
      where
        hit : (b : Block) → names (by_name name) p b ≡ true → (header_of_block b ≡ page_header) × (page_header + length (held_by b) ≡ size b)
        hit (cell (free i)) y = absurd (not-both y refl)
        hit (fixed d) y = absurd (not-both y refl)
        hit (cell (held i)) y = (name-header name i y, omega (arith, name-header name i y))

  spans : (k p : ℕ) → length s ≤ p + k → 0 < p → Row (drop p s) → At p
  spans zero p l z r = ended p (omega arith)
  spans (suc k) p l z r = go (ltb p (length s)) refl (λ q m o. spans k q m o)
    where
      go : (t : Bool) → ltb p (length s) ≡ t → ((q : ℕ) → length s ≤ q + k → 0 < q → Row (drop q s) → At q) → At p
      go false e again = ended p (ltb-false p (length s) e)
      go true e again = on (names (by_name name) p (block_at s p)) refl
        where
          n : ℕ
          n = size_of (drop p s)

          x : Stepped s p n
          x = stepped s p n r (ltb-true p (length s) e) refl

          on : (f : Bool) → f ≡ names (by_name name) p (block_at s p) → At p
          on true ef = here p n x true ef z refl
          on false ef = next p n x false ef refl (again (p + n) (omega (arith, x.low)) (omega arith) x.next)

-- ---- in a zone

module _ (z : List ℕ) (i : IsZone z) (name : ℕ) (page : Option ℕ) (e : page ≡ unless_zero (page_in name z)) where
  in-zone : Spans z (page_in name z) (target_place (by_name name) z) (length (target_data (by_name name) z))
  unfolding page_in
  in-zone =
      let first = first_field z in
      let low = zone-first z i first refl in
      rw (← place-start z i first refl (by_name name), ← data-start z i first refl (by_name name)) (spans name z (length z) first (omega arith) (omega arith) (zone-row z i first refl))

  module _ (q : page ≡ None) where
    none : page_in name z ≡ 0
    none = zero-unless (page_in name z) (sym e ∙ q)

    pub page-none-place : 0 ≡ target_place (by_name name) z
    page-none-place = in-zone.none-place none

    pub page-none : NoSpan z (by_name name)
    page-none = record { place_is = sym page-none-place; size_is = sym (in-zone.none-data none) }

  module _ (at : ℕ) (q : page ≡ Some at) where
    some : (page_in name z ≡ at) × (0 < at)
    some = some-unless (page_in name z) at (sym e ∙ q)

    span : Spans z at (target_place (by_name name) z) (length (target_data (by_name name) z))
    span = rw some.0 at in-zone

    met : at ≡ 0 → ⊥
    met k = omega (arith, k, some.1)

    pub page-fits : at + smallest_block ≤ length z
    page-fits = omega (arith, span.fits met, span.some-data met)

    pub page-word : Fits w64 (at + page_header)
    page-word = record { fits = omega (arith, page-fits, zone-short z i (first_field z) refl) }

    pub page-place : at + page_header ≡ target_place (by_name name) z
    page-place = span.some-place met

    module _ (n : ℕ) (en : n ≡ size_of (drop at z)) where
      pub page-room : page_header ≤ n
      page-room = omega (arith, span.some-data met)

      pub page-span : IsSpan z (by_name name) (record { at = at + page_header; size = n - page_header })
      page-span = record { at_is = page-place; some = λ k. omega (arith, k); size_is = omega (arith, span.some-data met) }
