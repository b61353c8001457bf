-- The data of every fixed block of a well-formed zone begin on a multiple of 4: bkFst is one, and so is each block's size.
use mathlib.Core.Path.{◌≡◌, refl, sym, ◌∙◌}
use mathlib.Core.Bool.{Bool, true, false, cond}
use mathlib.Core.List.{List, ◌∷◌}
use mathlib.Core.Option.{some}
use Prim.Native.Nat.{ℕ, ◌+◌, ◌%◌}
use native.Mathlib.Omega.{arith}
use lib.ListN.{length}
use lib.Dec.{eqb, leb}
use borrow.Author.Tests.{eqb-true}
use Rattle.block_type.specs.Limits.{fixed_code, fixed_header, smallest_block}
use Rattle.format.specs.WellFormed.{header_ok, first_field, masters_field, chain_field, type_of, size_of, size_ok, every, zone_of, well_formed}
use Rattle.format.proofs.Bool.{and_left, and_right, not-both}
use Rattle.format.proofs.Every.{every-size}
use Rattle.format.proofs.Header.{header-facts}
use Rattle.format.proofs.Live.{body-parts}
use Rattle.format.proofs.OneWalk.{one-walk}
use Rattle.ledger.specs.Space.{Spot, spot}
use Rattle.ledger.specs.Still.{Has, first, later}
use Rattle.calls.specs.Bays.{Bays, last, more, over, find_f}
use Rattle.calls.specs.State.{Fixed, fsize, pointer, content}
use Rattle.calls.specs.Calls.{by_pointer, size}
use Rattle.calls.specs.Table.{is_none, causes}
use Rattle.calls.proofs.First.{clear, or_left}
use Rattle.bay.specs.Bay.{Cell, items}
use Rattle.zone.specs.Work.{Zone, facts}
use Rattle.zone.specs.Call.{zone_in}
use Rattle.zone.specs.Hardware.{PointersOnLines}
use Rattle.zone.specs.Claim.{fixed_met, fixed_in}
use Rattle.zone.proofs.Accepted.{accepted}
use Rattle.zone.proofs.Keep.{Whole}
use Rattle.zone.proofs.Run.{Stored, stored-well, well-whole, well-stored}
use Rattle.zone.proofs.MetBlocks.{spots_s, fixed-walk}

abbrev OnLine : Spot → Type 0
OnLine x = (x.place + fixed_header) % 4 ≡ 0

one_of : {x y : Spot} {l : List Spot} → OnLine y → (Has x l → OnLine x) → Has x (y ∷ l) → OnLine x
one_of p q first = p
one_of p q (later h) = q h

-- the first block being on a multiple of 4
met-line : (x : Spot) (at : ℕ) (bs : List (List ℕ)) → at % 4 ≡ 0 → every size_ok bs ≡ true → Has x (fixed_met at bs) → OnLine x
unfolding every size_ok fixed_met
met-line x at (b ∷ bs) q e h =
    let four : size_of b % 4 ≡ 0 = eqb-true (size_of b % 4) 0 (and_right (leb smallest_block (size_of b)) _ (and_left _ (every size_ok bs) e)) in
    go (eqb (type_of b) fixed_code) (met-line x (at + size_of b) bs (omega arith) (and_right (size_ok b) _ e)) h
  where
    go : (t : Bool) → (Has x (fixed_met (at + size_of b) bs) → OnLine x) → Has x (cond t (spot at (size_of b) ∷ fixed_met (at + size_of b) bs) (fixed_met (at + size_of b) bs)) → OnLine x
    go true behind k = one_of {y = spot at (size_of b)} (omega arith) behind k
    go false behind k = behind k
met-line x at mathlib.Core.List.[] q e h = elim h [ ]

pub fixed-lines : (bs : List ℕ) → well_formed bs ≡ true → (x : Spot) → Has x (fixed_in bs) → (x.place + fixed_header) % 4 ≡ 0
fixed-lines bs w x h =
    let k = sym (one-walk bs) ∙ w in
    let p = body-parts (zone_of bs) (first_field bs) (masters_field bs) (chain_field bs) (and_right (header_ok bs) _ k) in
    met-line x (first_field bs) _ (omega (arith, (header-facts bs (and_left _ _ k)).start)) (every-size (zone_of bs) (first_field bs) false (first_field bs) _ p.walk) h

-- so is the pointer by which one is found
found-line : (p : ℕ) (s : Bays (List Cell) Fixed) → ((x : Spot) → Has x (spots_s s) → OnLine x) → is_none (over length (content items (by_pointer p) s)) ≡ false → p % 4 ≡ 0
found-line p (last b) l n = absurd (not-both refl n)
found-line p (more b x s) l n = go (eqb p (pointer x)) refl n (found-line p s (λ y h. l y (later h)))
  where
    go : (t : Bool) → eqb p (pointer x) ≡ t → is_none (over length (over (λ (y : Fixed). y.bytes) (cond t (some x) (find_f (λ (y : Fixed). eqb p (pointer y)) s)))) ≡ false
        → (is_none (over length (content items (by_pointer p) s)) ≡ false → p % 4 ≡ 0) → p % 4 ≡ 0
    go true e k behind = omega (arith, eqb-true p (pointer x) e, l (spot x.place (fsize x)) first)
    go false e k behind = behind k

pub pointer-line : (bs : List ℕ) (z : Zone) → Whole z → Stored bs z → (p : ℕ) → is_none (over length (content items (by_pointer p) z.bays)) ≡ false → p % 4 ≡ 0
pointer-line bs z w s p = found-line p z.bays (λ x h. fixed-lines bs (stored-well bs z w s) x (rw (fixed-walk bs z w s) h))

pub pointers-on-lines : PointersOnLines
pointers-on-lines p bs y done =
    let c = size (by_pointer p) in
    let a = accepted c bs (λ n v. refl) refl done in
    pointer-line bs (zone_in bs) (well-whole bs y a.well) (well-stored bs y a.well) p (or_left _ _ (clear (causes c (facts true (zone_in bs))) 7 refl a.passed))
