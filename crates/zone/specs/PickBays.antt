-- For proofs: the changes of bays that may find no bay to change.
use Rattle.std.specs.Prelude.{Bool, cond, ℕ}
use Rattle.std.proofs.Math.Option.{Option, none, some}
pub use Rattle.calls.specs.Bays.{Bays, last, more, over, or_else, map_s, on_fixed, on_last, find_s, find_f, sum_s, concat_s, max_s, last_s}

module _ {B F : Type 0} where
  -- the lowest bay that passes the test is changed
  abbrev pub on_low : (B → Bool) → (B → B) → Bays B F → Option (Bays B F)
  on_low t f (last b) = cond (t b) (some (last (f b))) none
  on_low t f (more b x s) = cond (t b) (some (more (f b) x s)) (over (more b x) (on_low t f s))

  -- the highest bay that passes the test is split by a new fixed block at its end; `end` is where the last bay ends
  abbrev pub on_high : (B → Bool) → (B → B) → (ℕ → F) → B → (F → ℕ) → ℕ → Bays B F → Option (F × Bays B F)
  on_high t f mk e at end (last b) = cond (t b) (some (mk end, more (f b) (mk end) (last e))) none
  on_high t f mk e at end (more b x s) =
      or_else (over (λ (r : F × Bays B F). (r.0, more b x r.1)) (on_high t f mk e at end s))
      (cond (t b) (some (mk (at x), more (f b) (mk (at x)) (more e x s))) none)

  -- the first bay after x joined with the bay b before x
  abbrev pub glue : (B → F → B → B) → B → F → Bays B F → Bays B F
  glue j b x (last c) = last (j b x c)
  glue j b x (more c y s) = more (j b x c) y s

  -- the first fixed block that passes the test goes, and the bays beside it are joined
  abbrev pub on_join : (F → Bool) → (B → F → B → B) → Bays B F → Option (Bays B F)
  on_join p j (last b) = none
  on_join p j (more b x s) = cond (p x) (some (glue j b x s)) (over (more b x) (on_join p j s))

  -- what holds of each bay
  abbrev pub AllS : (B → Type 0) → Bays B F → Type 0
  AllS D (last b) = D b
  AllS D (more b x s) = D b × AllS D s
