-- A page on the walk from block to block: there is room for its header.
use mathlib.Core.Path.{◌≡◌, sym, ap, ◌∙◌}
use mathlib.Core.List.{List}
use Prim.Native.Nat.{ℕ, ◌+◌, ◌≤◌}
use native.Mathlib.Omega.{arith}
use lib.ListN.{length, take, drop}
use Rattle.block_type.specs.Limits.{page_code, page_header, tag_at}
use Rattle.format.specs.WellFormed.{type_of, size_of, name_of, status_of, is_page}
use Rattle.format.proofs.Walk.{kind-take}
use Rattle.kinds.specs.Kinds.{page, status_in}
use Rattle.bay.specs.Bay.{held}
use Rattle.structure.specs.Structure.{cell, size, decode_block}
use Rattle.access.specs.row.Row.{Stepped}

pub page-block : (b : List ℕ) → type_of b ≡ page_code → decode_block b ≡ cell (held (page (name_of b) (status_in (status_of b)) (drop page_header b)))
unfolding decode_block is_page
page-block b e = rw e

module _ (s : List ℕ) (p n : ℕ) (x : Stepped s p n) where
  pub block-kind : type_of (drop p s) ≡ page_code → type_of (take (size_of (drop p s)) (drop p s)) ≡ page_code
  block-kind e = kind-take (size_of (drop p s)) (drop p s) (omega (arith, x.low, x.size_is)) ∙ e

  pub page-room : type_of (drop p s) ≡ page_code → page_header ≤ n
  page-room e = omega (arith, ap size (page-block (take (size_of (drop p s)) (drop p s)) (block-kind e)), x.bytes)

  pub page-fits : (k : ℕ) → k ≡ type_of (drop p s) → k ≡ page_code → p + tag_at + 4 ≤ length s
  page-fits k e q = omega (arith, page-room (sym e ∙ q), x.fits)
