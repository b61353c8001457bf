-- The laws that the proofs of the functions cite.
use mathlib.Core.Path.{◌≡◌, sym, ap, ap₂, ◌∙◌}
use mathlib.Core.Bool.{Bool, true, false, cond, ◌&&◌}
use mathlib.Core.List.{List}
use Prim.Native.Nat.{ℕ, ◌+◌, ◌-◌, ◌≤◌}
use lib.ListN.{length, take, drop}
use lib.Dec.{eqb}
use native.Mathlib.Omega.{arith}
use borrow.Author.Tests.{eqb-true}
use Rattle.block_type.specs.Limits.{fixed_header, fixed_code}
use Rattle.bigendian.specs.BigEndian.{Bytes}
use Rattle.format.specs.WellFormed.{zone_of, type_of, first_field}
use Rattle.format.proofs.Bool.{and_right}
use Rattle.zone_check.specs.Sought.{unless_zero, page_in}
use Rattle.structure.specs.Structure.{Block, start, decode_zone}
use Rattle.structure.proofs.Table.{start_is}
use Rattle.access.specs.Edit as Edit
use Rattle.access.specs.Checked.{Opened, IsIll}
use Rattle.access.specs.declared.opened.Zone.{Zone}
use Rattle.calls.specs.declared.Refusal.{Refusal}
use Rattle.std.specs.Prelude.{Option, Some, None, MatchOption, Result, Ok, Err, IfOk, IfErr}
use Rattle.std.specs.Option.{ok_or}
use Rattle.std.specs.Result.{IsErrAnd}
use Rattle.access.specs.locate.Found.{absence, NoData, IsData, NoSpan, IsSpan, IsFound, IsLost, ill_formed, absent}
use Rattle.access.specs.declared.locate.Span.{Span}
use Rattle.access.specs.row.Row.{blocks_of, Stepped}
use Rattle.access.proofs.row.Laws.{row-end}
use Rattle.access.proofs.row.Zone.{blocks-are}
use Rattle.calls.specs.Calls.{Target, by_handle, by_pointer, by_name}
use Rattle.access.specs.declared.locate.Target.{Target as CodeTarget}
use Rattle.access.specs.declared.locate.Target.TheVariants.{Handle, Pointer, Name}
use Rattle.access.specs.locate.Named.{target_of}
use Rattle.access.specs.locate.Locate.{target_place, target_data, name_in}
use Rattle.access.specs.Named.{place_among, data_among}
use Rattle.access.proofs.locate.Among.{pointer-place, pointer-data}
use Rattle.access.proofs.Among.{handle-place, handle-data}
use Rattle.structure.specs.IsZone.{IsZone}
use Rattle.structure.proofs.IsZone.{whole_of}

-- ---- by handle

pub place-by-handle : (z : List ℕ) (h a : ℕ) → a ≡ Edit.place_in z h → a ≡ target_place (by_handle h) z
unfolding Edit.place_in target_place
place-by-handle z h a e = e ∙ handle-place h (start (decode_zone z)) (decode_zone z).blocks

pub data-by-handle : (z : List ℕ) (h n : ℕ) → n ≡ length (Edit.data_in z h) → n ≡ length (target_data (by_handle h) z)
unfolding Edit.data_in target_data
data-by-handle z h n e = e ∙ ap length (handle-data h (start (decode_zone z)) (decode_zone z).blocks)

span-by-handle : (z : List ℕ) (h : ℕ) (r : Option Span) → MatchOption r (NoData z h) (IsData z h) → MatchOption r (NoSpan z (by_handle h)) (IsSpan z (by_handle h))
span-by-handle z h None n = record { place_is = sym (place-by-handle z h 0 (sym n.place_is)); size_is = sym (data-by-handle z h 0 (sym n.size_is)) }
span-by-handle z h (Some k) d = record { at_is = place-by-handle z h k.at d.at_is; some = d.some; size_is = data-by-handle z h k.size d.size_is }

-- ---- the walk

module _ (z : List ℕ) (i : IsZone z) (first : ℕ) (e : first ≡ first_field z) where
  first_is : first ≡ start (decode_zone z)
  first_is = e ∙ sym (start_is z (whole_of z i))

  pub place-start : (t : Target) → place_among t first (blocks_of (drop first z)) ≡ target_place t z
  unfolding target_place
  place-start t = ap₂ (λ (a : ℕ) (bs : List Block). place_among t a bs) first_is (blocks-are z first e)

  pub data-start : (t : Target) → length (data_among t first (blocks_of (drop first z))) ≡ length (target_data t z)
  unfolding target_data
  data-start t = ap₂ (λ (a : ℕ) (bs : List Block). length (data_among t a bs)) first_is (blocks-are z first e)

module _ (z : List ℕ) (p at n : ℕ) (s : Stepped z at n) (f : Bool) (ef : f ≡ (eqb (type_of (drop at z)) fixed_code && eqb p (at + fixed_header))) (q : ℕ) where
  place-step : cond f (at + fixed_header) (place_among (by_pointer p) (at + n) (blocks_of (drop (at + n) z))) ≡ place_among (by_pointer p) at (blocks_of (drop at z))
  place-step = sym (rw (s.blocks, pointer-place p at (blocks_of (drop (at + n) z)) _, s.kind, s.bytes, ← ef))

  data-step : cond f (n - fixed_header) (length (data_among (by_pointer p) (at + n) (blocks_of (drop (at + n) z)))) ≡ length (data_among (by_pointer p) at (blocks_of (drop at z)))
  data-step = sym (rw (s.blocks, pointer-data p at (blocks_of (drop (at + n) z)) _, s.kind, s.bytes, ← ef))

  pub place_here : f ≡ true → place_among (by_pointer p) at (blocks_of (drop at z)) ≡ q → p ≡ q
  place_here t inv = eqb-true p (at + fixed_header) (and_right (eqb (type_of (drop at z)) fixed_code) _ (sym ef ∙ t)) ∙ (rw t at place-step) ∙ inv

  pub pointer-some : f ≡ true → p ≡ 0 → ⊥
  pointer-some t k = let e = eqb-true p (at + fixed_header) (and_right (eqb (type_of (drop at z)) fixed_code) _ (sym ef ∙ t)) in omega (arith, e, k)

  pub data-here : f ≡ true → length (data_among (by_pointer p) at (blocks_of (drop at z))) ≡ q → n - fixed_header ≡ q
  data-here t inv = (rw t at data-step) ∙ inv

  pub place-next : f ≡ false → place_among (by_pointer p) at (blocks_of (drop at z)) ≡ q → place_among (by_pointer p) (at + n) (blocks_of (drop (at + n) z)) ≡ q
  place-next t inv = (rw t at place-step) ∙ inv

  pub data-next : f ≡ false → length (data_among (by_pointer p) at (blocks_of (drop at z))) ≡ q → length (data_among (by_pointer p) (at + n) (blocks_of (drop (at + n) z))) ≡ q
  data-next t inv = (rw t at data-step) ∙ inv

module _ (z : List ℕ) (t : Target) (at q : ℕ) (l : length z ≤ at) where
  pub place_end : place_among t at (blocks_of (drop at z)) ≡ q → ◌≡◌ {A = ℕ} 0 q
  unfolding place_among
  place_end inv = rw (row-end z at l) at inv

  pub data-end : length (data_among t at (blocks_of (drop at z))) ≡ q → ◌≡◌ {A = ℕ} 0 q
  unfolding data_among
  data-end inv = rw (row-end z at l) at inv

-- ---- any buffer

module _ (s : List ℕ) (y : Bytes s) (z : Zone) (o : Opened s z) where
  there : z.bytes.now ≡ zone_of s
  there = sym o.there ∙ ap (λ (l : ℕ). take l s) o.has_zone.is_len

  module _ (t : Target) (p : Option Span) (m : MatchOption p (NoSpan z.bytes.now t) (IsSpan z.bytes.now t)) (e : Refusal) (q : e ≡ absence t) (r : Result Span Refusal) (v : r ≡ ok_or p e) where
    pub span-found : IfOk r (IsFound s t)
    span-found = rw v (go p m)
      where
        go : (p : Option Span) → MatchOption p (NoSpan z.bytes.now t) (IsSpan z.bytes.now t) → IfOk (ok_or p e) (IsFound s t)
        go None n = tt
        go (Some k) i = record { bytes = y; well = o.has_zone.well; at_is = rw there at i.at_is; some = i.some; size_is = rw there at i.size_is }

    pub span-lost : IfErr r (IsLost s t)
    span-lost = rw v (go p m)
      where
        go : (p : Option Span) → MatchOption p (NoSpan z.bytes.now t) (IsSpan z.bytes.now t) → IfErr (ok_or p e) (IsLost s t)
        go None n = absent y o.has_zone.well (rw there at n.place_is) q
        go (Some k) i = tt

pub span-ill : (s : List ℕ) (t : Target) {T : Type 0} (r : Result T Refusal) (d : Refusal) → IsErrAnd r (λ e. e ≡ d) → Bytes s → IsIll s d → IfErr r (IsLost s t)
span-ill s t (Ok v) d k y i = absurd k
span-ill s t (Err e) d k y i = ill_formed y (record { ill = i.ill; refusal_is = k ∙ i.refusal_is })

-- ---- a block by its name

module _ (z : List ℕ) (b : CodeTarget) (n : ℕ) (r : Option Span) where
  pub span-handle : b ≡ Handle n → MatchOption r (NoData z n) (IsData z n) → MatchOption r (NoSpan z (target_of b)) (IsSpan z (target_of b))
  span-handle q m = rw q (span-by-handle z n r m)

  pub span-pointer : b ≡ Pointer n → MatchOption r (NoSpan z (by_pointer n)) (IsSpan z (by_pointer n)) → MatchOption r (NoSpan z (target_of b)) (IsSpan z (target_of b))
  span-pointer q m = rw q m

  pub span-name : b ≡ Name n → MatchOption r (NoSpan z (by_name n)) (IsSpan z (by_name n)) → MatchOption r (NoSpan z (target_of b)) (IsSpan z (target_of b))
  span-name q m = rw q m

pub page-name : (z : List ℕ) (b : CodeTarget) (n : ℕ) (page : Option ℕ) → b ≡ Name n → page ≡ unless_zero (page_in (name_in (target_of b)) z) → page ≡ unless_zero (page_in n z)
page-name z b n page q e = rw q at e

-- ---- the test of one block

pub pointer-test : (z : List ℕ) (at p k : ℕ) → k ≡ type_of (drop at z) → (eqb k fixed_code && eqb p (at + fixed_header)) ≡ (eqb (type_of (drop at z)) fixed_code && eqb p (at + fixed_header))
pointer-test z at p k e = rw e
