-- What an accepted initialization leaves: a zone, and its bytes.
use mathlib.Core.Path.{◌≡◌, refl, ap, sym, ◌∙◌}
use mathlib.Core.Bool.{Bool, true, false, ◌||◌, not, true≢false}
use mathlib.Core.List.{List, [], ◌∷◌, ◌++◌}
use Prim.Native.Nat.{ℕ, ◌-◌, ◌%◌, ◌≤◌, ◌+◌}
use native.Mathlib.Omega.{arith}
use lib.ListN.{length, drop, length-append, length-drop}
use lib.Seq.{drop_at}
use lib.Dec.{eqb, leb}
use borrow.Author.Tests.{leb-true, eqb-true, eq-eqb, le-leb}
use Rattle.block_type.specs.Limits.{first_block, longest_zone, most_masters}
use Rattle.structure.specs.Structure.{encode}
use Rattle.structure.proofs.Round.{length-is}
use Rattle.calls.specs.Table.{first, order, bad_initialize}
use Rattle.calls.proofs.First.{clear, or_left}
use Rattle.bay.specs.Bay.{gap}
use Rattle.zone.specs.Work.{fresh}
use Rattle.zone.specs.Call.{in_line}
use Rattle.bay.proofs.Laws.{items-gap, bsize-gap}
use Rattle.bay.proofs.Sound.{s-nil, gap-sound}
use Rattle.zone.proofs.Places.{tile-last}
use Rattle.zone.proofs.Clean.{e-last, i-nil}
use Rattle.zone.proofs.Keep.{Whole, valid-line, len-line}
use Rattle.zone.proofs.Run.{Stored}

-- what initialize accepts
pub record Accepted (buf n m : ℕ) : Type 0 where
  pub by4 : n % 4 ≡ 0
  pub above : first_block m ≤ n
  pub within : n ≤ buf
  pub length-limit : n ≤ longest_zone
  pub masters-limit : m ≤ most_masters

-- cause 2 does not hold
pub accepted : (buf n m : ℕ) → first order (bad_initialize buf n m ∷ []) ≡ 0 → Accepted buf n m
accepted buf n m e =
    go (eqb (n % 4) 0) (leb (first_block m) n) (leb n buf) (leb n longest_zone) (leb m most_masters) refl refl refl refl refl
    (or_left _ _ (clear (bad_initialize buf n m ∷ []) 2 refl e))
  where
    go : (t u v w x : Bool) → eqb (n % 4) 0 ≡ t → leb (first_block m) n ≡ u → leb n buf ≡ v → leb n longest_zone ≡ w → leb m most_masters ≡ x
        → not t || (not u || (not v || (not w || not x))) ≡ false → Accepted buf n m
    go true true true true true a b c d e q = record {
      by4 = eqb-true (n % 4) 0 a;
      above = leb-true (first_block m) n b;
      within = leb-true n buf c;
      length-limit = leb-true n longest_zone d;
      masters-limit = leb-true m most_masters e;
    }
    go true true true true false a b c d e q = absurd (true≢false q)
    go true true true false x a b c d e q = absurd (true≢false q)
    go true true false w x a b c d e q = absurd (true≢false q)
    go true false v w x a b c d e q = absurd (true≢false q)
    go false u v w x a b c d e q = absurd (true≢false q)

module _ (buf n m : ℕ) (a : Accepted buf n m) where
  pub accepts : first order (bad_initialize buf n m ∷ []) ≡ 0
  accepts = rw (eq-eqb (n % 4) 0 a.by4, le-leb (first_block m) n a.above, le-leb n buf a.within, le-leb n longest_zone a.length-limit, le-leb m most_masters a.masters-limit) refl

  pub fresh-whole : Whole (fresh buf n m)
  fresh-whole = record {
    m = m;
    few = a.masters-limit;
    owned = record { owns = λ h. rw (items-gap (n - first_block m) []) (omega arith) };
    placed = record { tiled = tile-last {p = first_block m} {end = n} {b = gap (n - first_block m) []} (omega (arith, bsize-gap (n - first_block m) [], a)) };
    bounded = record { within = a.within; limit = a.length-limit };
    sound = gap-sound (n - first_block m) (omega (arith, a)) s-nil;
    clean = record { clean = e-last {b = gap (n - first_block m) []} (rw (items-gap (n - first_block m) []) i-nil) };
    apart = record { apart = λ k. rw (items-gap (n - first_block m) []) (omega arith) };
    ticks = record { byte = omega arith };
  }

  pub fresh-length : length (encode (in_line (fresh buf n m))) ≡ n
  fresh-length = length-is (in_line (fresh buf n m)) (valid-line (fresh buf n m) fresh-whole) ∙ len-line (fresh buf n m) fresh-whole

  pub fresh-stored : (bs : List ℕ) → length bs ≡ buf → Stored (encode (in_line (fresh buf n m)) ++ drop n bs) (fresh buf n m)
  fresh-stored bs l = record {
    split = ap (encode (in_line (fresh buf n m)) ++◌) (sym (drop_at (encode (in_line (fresh buf n m))) (drop n bs) n fresh-length));
    buffer = length-append (encode (in_line (fresh buf n m))) (drop n bs) ∙ ap (◌+ length (drop n bs)) fresh-length ∙ omega (arith, length-drop n bs, a.within, l);
  }
