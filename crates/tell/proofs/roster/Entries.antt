-- The records as bytes: one master's, and all of them one behind the other.
use mathlib.Core.Path.{◌≡◌, refl, ap, sym, ◌∙◌}
use mathlib.Core.Bool.{Bool, true, false, cond}
use mathlib.Core.Option.{none, some}
use mathlib.Core.List.{List, [], ◌∷◌, ◌++◌, append_assoc}
use Prim.Native.Nat.{ℕ, zero, suc, ◌+◌, ◌-◌, ◌*◌, ◌≤◌, ◌<◌}
use native.Mathlib.Omega.{arith}
use native.Mathlib.Nat.{sub-zero}
use lib.Dec.{eqb}
use lib.ListN.{length, length-append}
use mir.Val.{Fits}
use mir.Syntax.{w32}
use borrow.Author.Tests.{ne_eqb}
use Rattle.bigendian.specs.BigEndian.{to_be, overwrite}
use Rattle.bigendian.proofs.Laws.{length-to_be}
use Rattle.bigendian.proofs.Overwrite.{len-write, write-more, write-none}
use Rattle.block_type.specs.Limits.{master_size, zone_header, argument_range, most_masters, record_size, amount_at}
use Rattle.format.specs.WellFormed.{masters_field, offsets}
use Rattle.structure.specs.Structure.{decode_zone, start}
use Rattle.structure.proofs.Table.{len_is}
use Rattle.structure.specs.IsZone.{IsZone}
use Rattle.structure.proofs.IsZone.{whole_of}
use Rattle.kinds.specs.Kinds.{item}
use Rattle.calls.specs.Roster.{card_bytes}
use Rattle.calls.proofs.Roster.{length-bytes}
use Rattle.calls.specs.State.{card}
use Rattle.zone.specs.Work.{card_if}
use Rattle.access.specs.Edit.{place_in, data_in}
use Rattle.access.proofs.Size.{size_none, data-fits}
use Rattle.access.specs.locate.Found.{IsData}
use Rattle.access.specs.declared.locate.Span.{Span}
use Rattle.tell.specs.roster.Listed.{live_cards, all_cards, Entered}

-- ---- one record

pub data-small : (z : List ℕ) (h : ℕ) → IsZone z → length (data_in z h) < argument_range
unfolding place_in data_in
data-small z h i = go (place_in z h) refl
  where
    go : (p : ℕ) → place_in z h ≡ p → length (data_in z h) < argument_range
    go zero e = omega (arith, size_none z h 0 (sym e) refl)
    go (suc p) e =
        let d = decode_zone z in
        let w = whole_of z i in
        omega (arith, data-fits h (start d) d.blocks (omega arith), len_is z w, w.limit)

pub size_word : (z : List ℕ) (h : ℕ) (k : Span) → IsZone z → IsData z h k → Fits w32 k.size
size_word z h k i d = record { fits = omega (arith, d.size_is, data-small z h i) }

pub put_two : (s y₁ y₂ : List ℕ) (at h n : ℕ) → at + record_size ≤ length s → y₁ ≡ overwrite s at (to_be 4 h) → y₂ ≡ overwrite y₁ (at + amount_at) (to_be 4 n) → y₂ ≡ overwrite s at (to_be 4 h ++ to_be 4 n)
put_two s y₁ y₂ at h n l e₁ e₂ =
    let a = length-to_be 4 h in
    let b = length-to_be 4 n in
    e₂ ∙ (rw e₁ (write-more s (to_be 4 h) (to_be 4 n) at (at + amount_at) (omega arith) (omega arith)))

module _ (z : List ℕ) (h : ℕ) where
  cards-dead : place_in z h ≡ 0 → (hs : List ℕ) → live_cards z (h ∷ hs) ≡ live_cards z hs
  unfolding live_cards
  cards-dead q hs = rw q

  pub enter-none : (s : List ℕ) (at : ℕ) → place_in z h ≡ 0 → Entered z s at h s at
  enter-none s at q = record {
    long = refl;
    left = λ hs. rw (cards-dead q hs);
    same = λ hs l. rw (cards-dead q hs);
  }

  module _ (p : Span) (k : IsData z h p) where
    abbrev n : ℕ
    n = p.size

    cards-live : (hs : List ℕ) → live_cards z (h ∷ hs) ≡ card (item h (data_in z h)) h ∷ live_cards z hs
    unfolding live_cards
    cards-live hs = rw (ne_eqb (place_in z h) 0 (λ e. k.some (k.at_is ∙ e)))

    pub enter-room : (at m : ℕ) → at + record_size * length (live_cards z (h ∷ [])) ≤ m → at + record_size ≤ m
    unfolding live_cards
    enter-room at m l = omega (arith, ap length (cards-live []))

    pub enter_one : (s y : List ℕ) (at : ℕ) → at + record_size * length (live_cards z (h ∷ [])) ≤ length s
        → y ≡ overwrite s at (to_be 4 h ++ to_be 4 n) → Entered z s at h y (at + record_size)
    enter_one s y at l ey =
        let x : List ℕ = to_be 4 h ++ to_be 4 n in
        let lx : length x ≡ record_size = omega (arith, length-append (to_be 4 h) (to_be 4 n), length-to_be 4 h, length-to_be 4 n) in
        let r = enter-room at (length s) l in
        record {
          long = len-write s x y at ey (omega arith);
          left = λ hs. rw (cards-live hs) (omega arith);
          same = λ hs m.
              let b : List ℕ = card_bytes (live_cards z hs) in
              let lb = length-bytes (live_cards z hs) in
              let lc = ap length (cards-live hs) in
              (rw ey (write-more s x b at (at + record_size) (omega arith) (omega arith)))
              ∙ ap (overwrite s at) (append_assoc (to_be 4 h) (to_be 4 n) b ∙ (rw (cards-live hs, k.size_is)));
        }

-- ---- all records

-- the masters from the i-th on, of m
abbrev pub from : ℕ → ℕ → List ℕ
from i m = offsets (zone_header + master_size * i) (m - i)

from-next : (i m : ℕ) → i < m → from i m ≡ (zone_header + master_size * i) ∷ from (i + 1) m
unfolding offsets
from-next i m l =
    let e : m - i ≡ suc (m - (i + 1)) = omega arith in
    let h : zone_header + master_size * i + master_size ≡ zone_header + master_size * (i + 1) = omega arith in
    rw (e, h)

cards-more : (z hs : List ℕ) (h : ℕ) → length (live_cards z (h ∷ [])) ≤ length (live_cards z (h ∷ hs))
unfolding live_cards
cards-more z hs h = go (eqb (place_in z h) 0)
  where
    go : (t : Bool) → length (card_if h (cond t none (some (item h (data_in z h)))) ++ []) ≤ length (card_if h (cond t none (some (item h (data_in z h)))) ++ live_cards z hs)
    go true = omega arith
    go false = omega arith

module _ (z : List ℕ) (at i m n : ℕ) where
  pub fill-first : i < m → at + record_size * length (live_cards z (from i m)) ≤ n → at + record_size * length (live_cards z ((zone_header + master_size * i) ∷ [])) ≤ n
  fill-first l r = omega (arith, rw (from-next i m l) at r, cards-more z (from (i + 1) m) (zone_header + master_size * i))

module _ (z s y : List ℕ) (at i m r : ℕ) (t : Entered z s at (zone_header + master_size * i) y r) (l : i < m) (room : at + record_size * length (live_cards z (from i m)) ≤ length s) where
  room' : at + record_size * length (live_cards z ((zone_header + master_size * i) ∷ from (i + 1) m)) ≤ length s
  room' = rw (from-next i m l) at room

  pub fill-room : r + record_size * length (live_cards z (from (i + 1) m)) ≤ length y
  fill-room = omega (arith, room', t.long, t.left (from (i + 1) m))

  pub fill_step : (w : List ℕ) → overwrite s at (card_bytes (live_cards z (from i m))) ≡ w → overwrite y r (card_bytes (live_cards z (from (i + 1) m))) ≡ w
  fill_step w inv = t.same (from (i + 1) m) room' ∙ (rw (from-next i m l) at inv)

pub fill_done : (z s : List ℕ) (at i m : ℕ) (w : List ℕ) → m ≤ i → overwrite s at (card_bytes (live_cards z (from i m))) ≡ w → s ≡ w
unfolding offsets live_cards
fill_done z s at i m w l inv = let e : m - i ≡ 0 = omega arith in sym (write-none s at) ∙ (rw e at inv)

module _ (z : List ℕ) (m : ℕ) (e : m ≡ masters_field z) where
  pub start-bytes : (s : List ℕ) → overwrite s 0 (card_bytes (live_cards z (from 0 m))) ≡ overwrite s 0 (card_bytes (all_cards z))
  unfolding all_cards
  start-bytes s = rw (e, sub-zero)

  pub start-room : (n : ℕ) → record_size * length (all_cards z) ≤ n → 0 + record_size * length (live_cards z (from 0 m)) ≤ n
  unfolding all_cards
  start-room n l = rw (e, sub-zero) (omega arith)

  pub start-masters : IsZone z → m ≤ most_masters
  start-masters i = omega (arith, (whole_of z i).few)
