-- A bay gives up bytes at its start: the front stops before the bay's end, and what stands behind those bytes then.
use mathlib.Core.Path.{◌≡◌, sym, ap, ◌∙◌}
use mathlib.Core.List.{List, [], ◌++◌, append_assoc, append-nil}
use Prim.Native.Nat.{ℕ, ◌+◌, ◌-◌, ◌%◌, ◌<◌, ◌≤◌}
use native.Mathlib.Omega.{arith}
use lib.ListN.{length, take, drop, length-append, length-drop, drop_of_length-le}
use lib.Seq.{drop_at, length-take-le}
use Rattle.bigendian.specs.BigEndian.{slice, overwrite}
use Rattle.bigendian.proofs.Overwrite.{take-write, drop-write}
use Rattle.bigendian.proofs.Parts.{length-slice}
use Rattle.bay.specs.Bay.{bay_sum, items, gap}
use Rattle.bay.specs.Sound.{bytes_of, cells_of, IsBay}
use Rattle.bay.proofs.Laws.{bsize-split}
use Rattle.bay.proofs.BayBytes.{bay-bytes, bay-sound, bytes-long, packed-bytes}
use Rattle.slide.specs.way.Gathered.{held_bytes, Gathered}
use Rattle.slide.specs.blank.Between.{Hole, nothing}
use Rattle.slide.specs.way.Way.{FrontGathered, GaveUp}
use Rattle.slide.specs.declared.way.Front.{Front}
use Rattle.slide.proofs.way.Gathered.{UnderWay}

module _ (s₀ s : List ℕ) (n : ℕ) (f : Front) (u : UnderWay s₀ 0 0 s f.to f.at) where
  -- where there is not room yet, free bytes are still to come
  pub front-goes-on : f.at - f.to < n → n ≤ bay_sum (cells_of s₀) → f.at < length s
  front-goes-on l m =
      let r = drop f.at s in
      let cs = cells_of r in
      omega (arith, bsize-split cs, bytes-long cs (bay-sound r u.rest), ap length (bay-bytes r u.rest), length-drop f.at s, u.sum, u.order)

  pub front-done : n ≤ f.at - f.to → FrontGathered s₀ n s f.to f.at
  front-done l = record {
    room = omega (arith, u.order);
    bound = u.within;
    four_to = u.four_to;
    four_at = u.four_at;
    long = u.long;
    rest = u.rest;
    front = u.front;
    sum = omega (arith, u.sum);
  }

-- what lies behind the last block, where nothing is free yet
module _ (s₂ s₃ : List ℕ) (from at end : ℕ) (g : Gathered s₂ from at s₃ end) where
  behind-long : length (take (length s₃ - end) (drop end s₃)) ≡ length s₃ - end
  behind-long = length-slice s₃ end (length s₃ - end) (omega (arith, g.bound))

  pub behind-four : length (take (length s₃ - end) (drop end s₃)) % 4 ≡ 0
  behind-four = rw behind-long g.four

  pub behind-free : Hole (take (length s₃ - end) (drop end s₃)) (length s₃ - end) (length (take (length s₃ - end) (drop end s₃)))
  behind-free = nothing (sym behind-long)

-- the front has been slid up by n
module _ (s₀ s₁ s₂ : List ℕ) (n to at : ℕ) (h : FrontGathered s₀ n s₁ to at) (e : s₂ ≡ overwrite s₁ n (slice s₁ 0 to)) where
  long-front : length (take to s₁) ≡ to
  long-front = length-take-le to s₁ (omega (arith, h.room, h.bound))

  behind : drop at s₂ ≡ drop at s₁
  behind = rw e (drop-write s₁ n at (take to s₁) (omega (arith, long-front, h.room)) h.bound)

  pub way-rest : IsBay (drop at s₂)
  way-rest = rw behind h.rest

  pub way-done : (s₃ y : List ℕ) (end : ℕ) → length s₂ ≡ length s₁ → Gathered s₂ (n + to) at s₃ end → y ≡ bytes_of (gap (length (take (length s₃ - end) (drop end s₃))) []) → length y ≡ length (take (length s₃ - end) (drop end s₃))
      → GaveUp s₀ n (take end s₃ ++ (y ++ drop (length s₃ - end) (drop end s₃)))
  way-done s₃ y end l g f k =
      let low : n ≤ length s₁ = omega (arith, h.room, h.bound) in
      let cs = cells_of s₀ in
      let lp = behind-long s₂ s₃ (n + to) at end g in
      let left : length s₃ - end ≡ bay_sum cs - n = omega (arith, h.sum, h.room, h.bound, g.long, rw behind at g.sum) in
      let front : take end s₃ ≡ take n s₁ ++ held_bytes cs =
      g.front ∙ (rw (behind, e, take-write s₁ n to (take to s₁) low long-front) (append_assoc (take n s₁) (take to s₁) (held_bytes (cells_of (drop at s₁))) ∙ ap (take n s₁ ++◌) h.front)) in
      let le : length (drop end s₃) ≤ length s₃ - end = omega (arith, length-drop end s₃) in
      let none : drop (length s₃ - end) (drop end s₃) ≡ [] = drop_of_length-le (drop end s₃) le in
      let all : take end s₃ ++ (y ++ drop (length s₃ - end) (drop end s₃)) ≡ take n s₁ ++ (held_bytes cs ++ bytes_of (gap (bay_sum cs - n) [])) =
      rw (none, append-nil y, f, front, lp, left) (append_assoc (take n s₁) (held_bytes cs) (bytes_of (gap (bay_sum cs - n) []))) in
      record {
        long = (rw (none, append-nil y) (omega (arith, length-append (take end s₃) y, length-take-le end s₃ g.bound, k, lp, g.bound, g.long, l, h.long)));
        bytes = ap (drop n) all ∙ drop_at (take n s₁) _ n (length-take-le n s₁ low) ∙ sym (packed-bytes (items cs) (gap (bay_sum cs - n) []));
      }
