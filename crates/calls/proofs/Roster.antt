-- The bytes of records: the records that they say, and how many bytes they are.
use mathlib.Core.Path.{◌≡◌, refl, ap₂}
use mathlib.Core.List.{List, [], ◌∷◌, ◌++◌}
use Prim.Native.Nat.{ℕ, ◌*◌, ◌<◌}
use native.Mathlib.Omega.{arith}
use lib.ListN.{length, length-append}
use Rattle.bigendian.specs.BigEndian.{to_be}
use Rattle.bigendian.proofs.Laws.{length-to_be, be-to_be}
use Rattle.block_type.specs.Limits.{argument_range, record_size}
use Rattle.calls.specs.Roster.{Card, card_bytes, cards_in}

-- numbers of 4 bytes
abbrev pub Small : List Card → Type 0
Small [] = Unit {0}
Small (c ∷ cs) = (c.handle < argument_range) × (c.amount < argument_range) × Small cs

pub cards-back : (cs : List Card) (t : List ℕ) → Small cs → cards_in (length cs) (card_bytes cs ++ t) ≡ cs
unfolding to_be
cards-back [] t m = refl
cards-back (c ∷ cs) t m =
    ap₂ ◌∷◌
    (ap₂ (λ (h n : ℕ). record { handle = h; amount = n }) (be-to_be 4 c.handle m.0) (be-to_be 4 c.amount m.1))
    (cards-back cs t m.2)

pub length-bytes : (cs : List Card) → length (card_bytes cs) ≡ record_size * length cs
length-bytes [] = refl
length-bytes (c ∷ cs) =
    omega (
      arith,
      length-append (to_be 4 c.handle) (to_be 4 c.amount ++ card_bytes cs),
      length-append (to_be 4 c.amount) (card_bytes cs),
      length-to_be 4 c.handle,
      length-to_be 4 c.amount,
      length-bytes cs,
    )
