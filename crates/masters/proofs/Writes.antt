-- The writes that add masters: the bay gives up its bytes, the masters lie there, the header counts them.
use mathlib.Core.Path.{◌≡◌, sym, ap, ◌∙◌}
use mathlib.Core.List.{List, ◌++◌, append_assoc}
use Prim.Native.Nat.{ℕ, ◌+◌, ◌-◌, ◌/◌, ◌≤◌}
use native.Mathlib.Omega.{arith}
use lib.ListN.{length, take, drop, length-append, length-drop, take-append-drop}
use lib.Seq.{drop-drop, length-take-le}
use Rattle.bigendian.specs.BigEndian.{to_be, overwrite}
use Rattle.bigendian.proofs.Overwrite.{write_mid}
use Rattle.bigendian.proofs.Parts.{length-slice}
use Rattle.block_type.specs.Limits.{zone_header, master_size, longest_zone, added_masters, added_bytes, first_at, masters_at, chain_at}
use Rattle.bay.specs.Bay.{bay_sum}
use Rattle.slide.specs.ZoneBay.{part_of, bay_cells, ZoneBay}
use Rattle.bay.proofs.Laws.{bsize-split}
use Rattle.slide.specs.way.Way.{GaveUp}
use Rattle.slide.proofs.Change.{kept-now}
use Rattle.masters.specs.chain.Chain.{chain_bytes}
use Rattle.masters.specs.Grown.{with_masters, with_fields}
use Rattle.masters.proofs.chain.Chain.{chain-long}

-- ---- the bay

module _ (z y : List ℕ) (a e : ℕ) (b : ZoneBay z a e) (enough : added_bytes ≤ bay_sum (bay_cells z a e)) (g : GaveUp (part_of z a e) added_bytes y) where
  abbrev n : ℕ
  n = added_bytes

  pub room : a + added_bytes ≤ e
  room = omega (arith, (kept-now z a e b).size, bsize-split (bay_cells z a e), b.order)

  long-y : length y ≡ e - a
  long-y = g.long ∙ length-slice z a (e - a) (omega (arith, b.order, b.inside))

  abbrev rest : List ℕ
  rest = drop (e - a) (drop a z)

  abbrev z' : List ℕ
  z' = take a z ++ (y ++ rest)

  long : length z' ≡ length z
  long =
      omega (
        arith,
        length-append (take a z) (y ++ rest),
        length-append y rest,
        length-take-le a z (omega (arith, b.order, b.inside)),
        length-drop (e - a) (drop a z),
        length-drop a z,
        long-y,
        b.order,
        b.inside,
      )

  pub ask-inside : a + added_bytes ≤ length z'
  ask-inside = omega (arith, room, long, b.inside)

  pub ask-limit : a + added_bytes ≤ longest_zone
  ask-limit = omega (arith, room, b.inside, b.short)

  pub made : (z₁ : List ℕ) → z₁ ≡ overwrite z' a (chain_bytes a added_masters) → z₁ ≡ with_masters z a e
  unfolding with_masters
  made z₁ q =
      let c = chain_bytes a added_masters in
      let lc : length c ≡ added_bytes = chain-long a added_masters in
      let la = length-take-le a z (omega (arith, b.order, b.inside)) in
      let w : overwrite (take a z ++ (take n y ++ (drop n y ++ rest))) a c ≡ take a z ++ (c ++ (drop n y ++ rest)) =
      write_mid (take a z) (take n y) c (drop n y ++ rest) a la (length-take-le n y (omega (arith, long-y, room)) ∙ sym lc) in
      let cut : z' ≡ take a z ++ (take n y ++ (drop n y ++ rest)) = ap (take a z ++◌) (ap (◌++ rest) (sym (take-append-drop n y)) ∙ append_assoc (take n y) (drop n y) rest) in
      let all : length (c ++ drop n y) ≡ e - a = omega (arith, length-append c (drop n y), length-drop n y, long-y, room) in
      let back : rest ≡ drop (a + length (c ++ drop n y)) z = drop-drop (e - a) a z ∙ ap (λ (k : ℕ). drop (a + k) z) (sym all) in
      q
      ∙ ap (λ (x : List ℕ). overwrite x a c) cut
      ∙ w
      ∙ ap (take a z ++◌) (sym (append_assoc c (drop n y) rest) ∙ ap ((c ++ drop n y) ++◌) back)
      ∙ sym (append_assoc (take a z) (c ++ drop n y) (drop (a + length (c ++ drop n y)) z))
      ∙ ap (λ (x : List ℕ). overwrite z a (c ++ x)) g.bytes

-- ---- the header

module _ (z z₁ z₂ z₃ : List ℕ) (first : ℕ) (e₁ : z₁ ≡ overwrite z first_at (to_be 4 (first + added_bytes))) (e₂ : z₂ ≡ overwrite z₁ masters_at (to_be 4 ((first + added_bytes - zone_header) / master_size))) (e₃ : z₃ ≡ overwrite z₂ chain_at (to_be 2 first)) where
  pub fields-done : z₃ ≡ with_fields z first
  unfolding with_fields
  fields-done = e₃ ∙ ap (λ (y : List ℕ). overwrite y chain_at (to_be 2 first)) (e₂ ∙ ap (λ (y : List ℕ). overwrite y masters_at (to_be 4 ((first + added_bytes - zone_header) / master_size))) e₁)
