-- The plan in a zone: which cause refuses the call, or by which way it goes.
use mathlib.Core.Path.{◌≡◌, refl, sym, ap, ◌∙◌}
use mathlib.Core.Bool.{Bool, true, false, not, ◌&&◌}
use mathlib.Core.Option.{Option, some, get_or}
use mathlib.Core.List.{List, [], ◌∷◌}
use Prim.Native.Nat.{ℕ, ◌+◌, ◌-◌, ◌*◌, ◌/◌, ◌<◌, ◌≤◌}
use native.Mathlib.Omega.{arith}
use borrow.Author.Tests.{le-leb, lt-leb}
use lib.ListN.{length}
use lib.Dec.{leb}
use Rattle.block_type.specs.Limits.{reloc_header, reloc_limit, up4}
use Rattle.structure.specs.Structure.{Structure, decode_zone}
use Rattle.access.specs.Edit.{place_in, data_in, data_of}
use Rattle.kinds.specs.Kinds.{Item}
use Rattle.calls.specs.Calls.{by_handle, resize}
use Rattle.calls.specs.Bays.{over, max_s}
use Rattle.calls.specs.State.{content, own_sum}
use Rattle.calls.specs.Table.{cause, below, is_none, first, order, refusal_of}
use Rattle.bay.specs.Bay.{bay_sum, items}
use Rattle.zone.specs.Work.{facts}
use Rattle.bays.specs.Places.{bays_of}
use Rattle.access.proofs.locate.Live.{place-gone, place-live}
use Rattle.resize.specs.reshape.Own.{Known}
use Rattle.resize.proofs.reshape.Plan.{here_of, here-reached}
use Rattle.std.specs.Prelude.{Result, Ok, Err, IfErr}
use Rattle.std.specs.Result.{IsErrAnd}
use Rattle.calls.specs.declared.Refusal.{Refusal}
use Rattle.calls.specs.declared.Refusal.TheVariants.{HandleNotLive, TooLarge, NoSpace}
use Rattle.call_laws.specs.Frame.{zone_at}
use Rattle.call_laws.specs.Refused.{Refuses}
use Rattle.resize.specs.Ready.{no_room, Lacking, Chosen, Lacks, Ready}
use Rattle.resize.specs.declared.Plan.{Plan}
use Rattle.resize.specs.declared.Way.{Way}
use Rattle.resize.specs.declared.Way.TheVariants.{InPlace}

module _ (z : List ℕ) (h c : ℕ) where
  abbrev s : Structure
  s = decode_zone z

  -- the refusal, by the block's data
  abbrev asks : Bool → Option (List ℕ) → ℕ
  asks t d =
      first order (
      cause 1 false
      ∷ cause 3 (not t)
      ∷ cause 5 (below (own_sum items bay_sum h (bays_of s)) (up4 c - get_or (over length d) 0) && below (max_s bay_sum (bays_of s)) (reloc_header + up4 c))
      ∷ cause 6 (is_none (over length d))
      ∷ []
      )

  -- of a live handle, by whether c is small and whether there is no room
  abbrev asks-live : Bool → Bool → ℕ
  asks-live t n = first order (cause 1 false ∷ cause 3 (not t) ∷ cause 5 n ∷ cause 6 false ∷ [])

  pub content-live : (place_in z h ≡ 0 → ⊥) → content items (by_handle h) (bays_of (decode_zone z)) ≡ some (data_of h (decode_zone z).blocks)
  unfolding place_in
  content-live ne = let l = place-live h s ne in ap (over (λ (e : Item). e.bytes)) l.1 ∙ ap some l.2

  asked : (place_in z h ≡ 0 → ⊥) → {t n : Bool} → leb c reloc_limit ≡ t → no_room z h (up4 c) ≡ n → (buf : ℕ) → refusal_of (resize h c) (facts true (zone_at buf z)) ≡ asks-live t n
  unfolding data_in
  asked ne {t} p q buf = (λ j. asks (p j) (content-live ne j)) ∙ (λ j. asks-live t (q j))

  gone-asked : place_in z h ≡ 0 → (buf : ℕ) → refusal_of (resize h c) (facts true (zone_at buf z)) ≡ 6
  unfolding place_in
  gone-asked e buf = ap (λ (o : Option Item). asks (leb c reloc_limit) (over (λ (e : Item). e.bytes) o)) (place-gone h s e)

  -- a call that nothing refuses names a block
  pub passed-live : (buf : ℕ) → refusal_of (resize h c) (facts true (zone_at buf z)) ≡ 0 → place_in z h ≡ 0 → ⊥
  passed-live buf k e = omega (arith, k, gone-asked e buf)

  module _ (place : ℕ) (e : place ≡ place_in z h) where
    pub in-6 : place ≡ 0 → Refuses (resize h c) z HandleNotLive
    in-6 q = record { number_is = λ buf. gone-asked (sym e ∙ q) buf; beside_is = λ buf. refl }

    module _ (ne : place ≡ 0 → ⊥) where
      live : place_in z h ≡ 0 → ⊥
      live q = ne (e ∙ q)

      pub in-3 : reloc_limit < c → Refuses (resize h c) z TooLarge
      in-3 l = record { number_is = λ buf. asked live (lt-leb c reloc_limit l) refl buf; beside_is = λ buf. refl }

      module _ (l : c ≤ reloc_limit) where
        -- by whether a bay has room
        by-room : (n : ℕ) → n ≡ (reloc_header + c + 3) / 4 * 4 → {t : Bool} → no_room z h (n - reloc_header) ≡ t → (buf : ℕ) → refusal_of (resize h c) (facts true (zone_at buf z)) ≡ asks-live true t
        by-room n en q buf =
            let ea : up4 c ≡ n - reloc_header = omega (arith, en) in
            asked live (le-leb c reloc_limit l) (ap (no_room z h) ea ∙ q) buf

        module _ (b n : ℕ) (en : n ≡ (reloc_header + c + 3) / 4 * 4) where
          pub in-5 : (d : Refusal) → Lacks z (record { handle = h; old_len = b; new_len = n - reloc_header }) d → (r : Result Plan Refusal) → IsErrAnd r (λ y. y ≡ d) → IfErr r (Refuses (resize h c) z)
          in-5 d x (Ok p) k = absurd k
          in-5 d x (Err f) k =
              let q : f ≡ NoSpace = k ∙ x.refusal_is in
              rw q (record { number_is = by-room n en x.none; beside_is = λ buf. refl })

          pub in-way : (w : Way) → Chosen z (record { handle = h; old_len = b; new_len = n - reloc_header }) w → Ready z h c (record { block = record { handle = h; old_len = b; new_len = n - reloc_header }; way = w })
          in-way w x = record { is_handle = refl; is_len = omega (arith, en); passed = by-room n en x.room; goes = x.goes }

          module _ (f : ℕ) (k : Known z h place b f) where
            pub in-here : n - reloc_header ≤ b + f → Ready z h c (record { block = record { handle = h; old_len = b; new_len = n - reloc_header }; way = InPlace place f })
            in-here m =
                let x = here_of z h place b f k (n - reloc_header) (omega (arith, en)) (omega (arith, en)) m in
                in-way (InPlace place f) (record { room = ap (λ (u : Bool). not u && below (max_s bay_sum (bays_of s)) (reloc_header + (n - reloc_header))) (here-reached z h place b f (n - reloc_header) x); goes = x })

            pub in-lacking : b ≡ length (data_in z h) → b + f < n - reloc_header → Lacking z place (record { handle = h; old_len = b; new_len = n - reloc_header })
            in-lacking eb m =
                record { live = live; is_b = eb; behind = f; known = k; more = m; four = omega (arith, en); high = omega (arith, en) }
