-- One call on a zone in a buffer, refused or not: the zone that is there then, how many masters it has, and how many free handles are left. So a list
-- with no more accepted allocations than free handles adds no masters.
use mathlib.Core.Path.{◌≡◌, refl, ap, sym, ◌∙◌, subst}
use mathlib.Core.Bool.{true}
use mathlib.Core.List.{List, []}
use Prim.Native.Nat.{ℕ, zero, suc, ◌+◌, ◌≤◌}
use native.Mathlib.Omega.{arith}
use lib.ListN.{length}
use Rattle.format.specs.WellFormed.{masters_field}
use Rattle.calls.specs.Calls.{Call, allocate_relocatable, Answer, beside, Given}
use Rattle.calls.specs.State.{master_count}
use Rattle.calls.specs.Table.{refusal_of}
use Rattle.bay.specs.Bay.{items}
use Rattle.zone.specs.Work.{Zone, facts, work}
use Rattle.zone.specs.Call.{Result}
use Rattle.zone.specs.Promise.{Promise}
use Rattle.zone.specs.Claim.{History, stop, then}
use Rattle.zone.specs.Growth.{AtMost, no_call, any_call, other_call}
use Rattle.zone.proofs.Entered.{starts, from-as-it-is, leaves, leaves_all}
use Rattle.zone.proofs.Keep.{Whole}
use Rattle.zone.proofs.Grouped.{work-whole, work-masters, work-buffer}
use Rattle.zone.proofs.Run.{Stored, stored-after, call-worked, call-refused}
use Rattle.zone.proofs.Fields.{masters-read}
use Rattle.zone.proofs.Numbers.{work-number}

-- an accepted allocation takes a free handle, and has more masters where none is free; any other call leaves both
pub record Next (c : Call) (z : Zone) (a : Answer) (mid : List ℕ) : Type 0 where
  pub zone : Zone
  pub whole : Whole zone
  pub stored : Stored mid zone
  pub masters : ((k : ℕ) → c ≡ allocate_relocatable k → z.chain ≡ [] → a.number ≡ 0 → ⊥) → master_count items zone ≡ master_count items z
  pub less : length z.chain ≤ length zone.chain + 1
  pub kept : ((k : ℕ) → c ≡ allocate_relocatable k → a.number ≡ 0 → ⊥) → length z.chain ≤ length zone.chain

module _ (c : Call) {bs mid : List ℕ} {a : Answer} (z : Zone) (y : Given (beside c)) (w : Whole z) (s : Stored bs z) (p : Promise c bs a mid) where
  pub next : Next c z a mid
  next = go (refusal_of c (facts true z)) refl
    where
      go : (n : ℕ) → refusal_of c (facts true z) ≡ n → Next c z a mid
      go zero e =
          let u : Zone = (work c z).next in
          let did = p ∙ call-worked bs z w s c e in
          let done : a.number ≡ 0 = ap (λ (r : Result). r.answer.number) did ∙ work-number c z in
          record {
            zone = u;
            whole = work-whole c z y w e;
            stored = subst (λ (l : List ℕ). Stored l u) (sym (ap (λ (r : Result). r.bytes) did)) (stored-after bs z u w (work-whole c z y w e) (work-buffer c z y w e) s);
            masters = λ f. work-masters c z y w e ∙ ap (master_count items) (from-as-it-is (starts c z) (λ k q o. f k q o done));
            less = leaves (starts c z);
            kept = λ f. leaves_all (starts c z) (λ k q. f k q done);
          }
      go (suc n) e = record {
        zone = z;
        whole = w;
        stored = subst (λ (l : List ℕ). Stored l z) (sym (ap (λ (r : Result). r.bytes) (p ∙ call-refused bs z w s c n e))) s;
        masters = λ f. refl;
        less = omega arith;
        kept = λ f. omega arith;
      }

  -- as the bytes have it
  pub next-masters : ((k : ℕ) → c ≡ allocate_relocatable k → z.chain ≡ [] → a.number ≡ 0 → ⊥) → masters_field mid ≡ masters_field bs
  next-masters f = masters-read mid next.zone next.whole next.stored ∙ next.masters f ∙ sym (masters-read bs z w s)

-- ---- a list of calls

pub no-growth : {n : ℕ} {bs end : List ℕ} {cs : List Call} {u : List Answer} (z : Zone) → Whole z → Stored bs z → History bs cs u end → AtMost n cs u → n ≤ length z.chain
    → masters_field end ≡ masters_field bs
no-growth z w s stop no_call l = refl
no-growth z w s (then {c = c} y p h) (any_call m) l =
    let k = next c z y w s p in
    no-growth k.zone k.whole k.stored h m (omega (arith, k.less)) ∙ next-masters c z y w s p (λ j q o d. omega (arith, ap length o))
no-growth z w s (then {c = c} y p h) (other_call f m) l =
    let k = next c z y w s p in
    no-growth k.zone k.whole k.stored h m (omega (arith, k.kept f)) ∙ next-masters c z y w s p (λ j q o d. f j q d)
