-- The laws that the proofs cite: a block by C's name of it, the part of a view, the check's yes and no.
use mathlib.Core.Path.{◌≡◌, ap, ap₂, ◌∙◌}
use mathlib.Core.List.{List}
use Prim.Native.Nat.{ℕ, ◌+◌, ◌-◌, ◌≤◌}
use native.Mathlib.Omega.{arith}
use lib.ListN.{length, drop, length-take, length-drop}
use borrow.Author.Tests.{ne_eqb}
use mir.Val.{Fits}
use mir.Syntax.{w32}
use Rattle.block_type.specs.Limits.{longest_zone}
use Rattle.bigendian.specs.BigEndian.{Bytes, slice}
use Rattle.format.specs.WellFormed.{length_field}
use Rattle.calls.specs.Calls.{Target, by_handle, by_pointer, by_name, Answer, size, read, write, view, shows}
use Rattle.zone.specs.Promise.{Promise}
use Rattle.access.proofs.locate.Data.{target_fits}
use Rattle.access.proofs.Checked.{fields-of}
use Rattle.zone.specs.View as View
use Rattle.nafelode.proofs.ViewPlace.{start-tied, length-tied}
use Rattle.stretch.specs.Stretch.{view_start, view_length}
use Rattle.stretch.specs.Part.{Shows, none}
use Rattle.stretch.specs.Part as Part
use Rattle.std.specs.declared.ops.Range.{Range}
use Rattle.stretch.proofs.Answers.{accepted}
use Rattle.stretch.proofs.Laws.{shown-order, shown-fits, view-start, view-length}
use Rattle.stretch.proofs.Outcomes.{view-there}
use Rattle.nafelode.proofs.Laws.{view-promised}
use Rattle.nafelode_c.specs.Named.{named}

pub named-handle : (by n : ℕ) → by ≡ 0 → by_handle n ≡ named by n
named-handle by n e = rw e

pub named-name : (by n : ℕ) → by ≡ 2 → by_name n ≡ named by n
named-name by n e = rw e

pub named-pointer : (by n : ℕ) → (by ≡ 0 → ⊥) → (by ≡ 2 → ⊥) → by_pointer n ≡ named by n
named-pointer by n e f = rw (ne_eqb by 0 e) (rw (ne_eqb by 2 f))

module _ {t u : Target} (e : t ≡ u) (s : List ℕ) {a b : Answer} (q : b ≡ a) where
  pub size-named : Promise (size t) s a s → Promise (size u) s b s
  size-named p = rw (← e, q) p

  module _ (i n : ℕ) (bs : List ℕ) where
    pub read_named : Promise (read t i n bs) s a s → Promise (read u i n bs) s b s
    read_named p = rw (← e, q) p

    pub write-named : (z : List ℕ) → Promise (write t i n bs) s a z → Promise (write u i n bs) s b z
    write-named z p = rw (← e, q) p

-- ---- view

module _ (s : List ℕ) (t : Target) (i n : ℕ) (part : Range ℕ) (p : Shows s t i n part) where
  abbrev start : ℕ
  start = part.start

  abbrev end : ℕ
  end = part.end

  small : end ≤ longest_zone
  small = go p
    where
      go : Shows s t i n part → end ≤ longest_zone
      go (none l a b) = omega arith
      go (Part.part g) = let c = accepted s t i n n g.passed in omega (arith, g.start_is, g.end_is, c.room, target_fits s g.bytes c.well t c.live, (fields-of s c.well).limit)

  in-zone : end ≤ length_field s
  in-zone = go p
    where
      go : Shows s t i n part → end ≤ length_field s
      go (none l a b) = omega arith
      go (Part.part g) = let c = accepted s t i n n g.passed in omega (arith, g.start_is, g.end_is, c.room, target_fits s g.bytes c.well t c.live)

  pub view-ordered : start ≤ end
  view-ordered = shown-order s t i n part p

  pub start_word : Fits w32 start
  start_word = record { fits = omega (arith, small, view-ordered) }

  pub length-word : Fits w32 (end - start)
  length-word = record { fits = omega (arith, small) }

  module _ (u : Target) (e : t ≡ u) where
    offset-walked : start ≡ view_start u i n s
    offset-walked = let q = ap (λ (x : ℕ × ℕ). x.1) (view-start s t i n part 0 0 p) in rw (← e) (omega (arith, q))

    length-walked : end - start ≡ view_length u i n s
    length-walked =
        let q = view-length s t i n part p in
        rw (← e) (omega (arith, q, length-take (end - start) (drop start s), length-drop start s, shown-fits s t i n part p))

    pub offset-named : Bytes s → start ≡ View.view_start u i n s
    offset-named y = offset-walked ∙ start-tied u i n s y

    pub length-named : Bytes s → end - start ≡ View.view_length u i n s
    length-named y = length-walked ∙ length-tied u i n s y

    -- the part is what the view shows
    pub view-named : Bytes s → Promise (view u i n) s (shows 0 (slice s start (end - start))) s
    view-named y = view-promised u s i n (slice s start (end - start)) y (ap₂ (slice s) offset-walked length-walked ∙ view-there u i n s y)

  pub view-in-zone : start + (end - start) ≤ length_field s
  view-in-zone = omega (arith, in-zone, view-ordered)

  pub view-in-buffer : start + (end - start) ≤ length s
  view-in-buffer = omega (arith, shown-fits s t i n part p, view-ordered)
