-- The page of a name among the blocks of a valid structure: its status, and what stands before and behind it.
use Rattle.std.proofs.Common.{◌≡◌, ℕ, ◌+◌, ◌≤◌, true, List, ◌∷◌, ◌++◌, sym, refl, ap, ◌∙◌, subst, eq-eqb, eqb-true}
use mathlib.Core.Bool.{false≢true}
use Rattle.block_type.specs.Limits.{page_header}
use Rattle.format.specs.Occurs.{occurs}
use Rattle.kinds.specs.Kinds.{Status, Key, of_handle, of_name, page, key_named, key_header}
use Rattle.bay.specs.Bay.{free, held}
use Rattle.calls.specs.Calls.{by_name}
use Rattle.structure.specs.Structure.{Block, cell, fixed, Structure, sizes, start, names_in}
use Rattle.structure.specs.Valid.{Valid}
use Rattle.access.specs.row.Row.{Sound, Sound1}
use Rattle.access.specs.Named.{names, header_of_block, place_among}
use Rattle.access.proofs.Named.{Named, named}
use Rattle.access.proofs.row.Laws.{sound-right}
use Rattle.access.proofs.row.Zone.{valid-sound}
use Rattle.pages.proofs.Page.{name-alone}

pub record Paged (n : ℕ) (s : Structure) : Type 0 where
  pub before : List Block
  pub status : Status
  pub bytes : List ℕ
  pub after : List Block
  pub is : s.blocks ≡ before ++ (cell (held (page n status bytes)) ∷ after)
  pub place : place_among (by_name n) (start s) s.blocks ≡ start s + sizes before + page_header
  pub sound : Sound1 (cell (held (page n status bytes)))
  -- no other page has the name
  pub not-before : occurs n (names_in before) ≡ 0
  pub not_after : occurs n (names_in after) ≡ 0

module _ (n : ℕ) (s : Structure) (v : Valid s) where
  made : (a b : List Block) (st : Status) (d : List ℕ) → s.blocks ≡ a ++ (cell (held (page n st d)) ∷ b) → place_among (by_name n) (start s) s.blocks ≡ start s + sizes a + page_header → Paged n s
  made a b st d e p =
      let mid : List Block = cell (held (page n st d)) ∷ b in
      let alone = name-alone n a (page n st d) b (eq-eqb n n refl) (subst (λ (x : List Block). occurs n (names_in x) ≤ 1) e (v.apart n)) in
      record {
        before = a;
        status = st;
        bytes = d;
        after = b;
        is = e;
        place = p;
        sound = (sound-right a mid (subst Sound e (valid-sound s v))).0;
        not-before = alone.0;
        not_after = alone.1;
      }

  pub paged : (place_among (by_name n) (start s) s.blocks ≡ 0 → ⊥) → Paged n s
  paged live = go r.block r.hit r.is r.place
    where
      r : Named (by_name n) (start s) s.blocks
      r = named (by_name n) (start s) s.blocks live

      by_key : (k : Key) (d : List ℕ) → key_named n k ≡ true → s.blocks ≡ r.before ++ (cell (held (record { key = k; bytes = d })) ∷ r.after)
          → place_among (by_name n) (start s) s.blocks ≡ start s + sizes r.before + key_header k → Paged n s
      by_key (of_handle h) d q e p = absurd (false≢true q)
      by_key (of_name j st) d q e p = made r.before r.after st d (e ∙ ap (λ (i : ℕ). r.before ++ (cell (held (page i st d)) ∷ r.after)) (sym (eqb-true n j q))) p

      go : (b : Block) → names (by_name n) (start s + sizes r.before) b ≡ true → s.blocks ≡ r.before ++ (b ∷ r.after)
          → place_among (by_name n) (start s) s.blocks ≡ start s + sizes r.before + header_of_block b → Paged n s
      go (cell (free k)) q e p = absurd (false≢true q)
      go (fixed d) q e p = absurd (false≢true q)
      go (cell (held i)) q e p = by_key i.key i.bytes q e p
