-- The laws of the table of fingerprints: a name that is put into a slot that was empty was not met before, and hides no other.
use mathlib.Core.Path.{◌≡◌, refl, sym, ◌∙◌}
use mathlib.Core.List.{List}
use mathlib.Core.Bool.{true, false}
use Prim.Native.Nat.{ℕ, zero, suc, ◌+◌, ◌*◌, ◌-◌, ◌/◌, ◌%◌, ◌<◌, ◌≤◌}
use native.Mathlib.Decide.{ℕ_discrete}
use native.Mathlib.Omega.{arith}
use borrow.Author.Tests.{eq-eqb, ne_eqb}
use lib.ListN.{length, get_or, set, replicate}
use lib.Seq.{get_or-set_same, get_or-set_other}
use Rattle.format.proofs.Bool.{not-both}
use Rattle.names.proofs.Zeros.{zeros}
use Rattle.names.specs.Mix.{mixed, head_of}
use Rattle.names.specs.Seen.{slots, probes, table_size, print_range, home, print, finds, met, Past, Noted}

-- ---- one step of a search

finds-zero : (table : List ℕ) (p f : ℕ) → finds table p 0 f ≡ false
unfolding finds
finds-zero table p f = refl

module _ (table : List ℕ) (p n f : ℕ) where
  finds-none : get_or table p 0 ≡ 0 → finds table p n f ≡ false
  unfolding finds
  finds-none e = go n
    where
      go : (n : ℕ) → finds table p n f ≡ false
      go zero = refl
      go (suc n) = rw (eq-eqb (get_or table p 0) 0 e)

  finds-same : (get_or table p 0 ≡ 0 → ⊥) → get_or table p 0 ≡ f → finds table p (suc n) f ≡ true
  unfolding finds
  finds-same e q = rw (ne_eqb (get_or table p 0) 0 e, eq-eqb (get_or table p 0) f q)

  finds-go : (get_or table p 0 ≡ 0 → ⊥) → (get_or table p 0 ≡ f → ⊥) → finds table p (suc n) f ≡ finds table (p + 1) n f
  unfolding finds
  finds-go e q = rw (ne_eqb (get_or table p 0) 0 e, ne_eqb (get_or table p 0) f q)

-- a search that goes on to q finds what one from q on finds
past_finds : (table : List ℕ) (p q f k n : ℕ) → p + k ≡ q → Past table p q f → finds table p (k + n) f ≡ finds table q n f
past_finds table p q f zero n e h = let a : p ≡ q = omega arith in let b : 0 + n ≡ n = omega arith in rw (a, b)
past_finds table p q f (suc k) n e h =
    let a : suc k + n ≡ suc (k + n) = omega arith in
    rw a
    (finds-go table p (k + n) f (h.full p (omega arith) (omega arith)) (h.other p (omega arith) (omega arith))
    ∙ past_finds table (p + 1) q f k n (omega arith)
    (record { far = omega arith; full = λ i l g. h.full i (omega arith) g; other = λ i l g. h.other i (omega arith) g }))

-- what was found is found where a slot that was empty is filled
finds-again : (table : List ℕ) (q v : ℕ) → get_or table q 0 ≡ 0 → (p n f : ℕ) → finds table p n f ≡ true → finds (set table q v) p n f ≡ true
finds-again table q v none p zero f h = absurd (not-both h (finds-zero table p f))
finds-again table q v none p (suc n) f h = go (ℕ_discrete (get_or table p 0) 0) (ℕ_discrete (get_or table p 0) f) (finds-again table q v none (p + 1) n f)
  where
    go : Dec (get_or table p 0 ≡ 0) → Dec (get_or table p 0 ≡ f) → (finds table (p + 1) n f ≡ true → finds (set table q v) (p + 1) n f ≡ true) → finds (set table q v) p (suc n) f ≡ true
    go (yes e) k more = absurd (not-both h (finds-none table p (suc n) f e))
    go (no e) k more = on k
      where
        same : get_or (set table q v) p 0 ≡ get_or table p 0
        same = get_or-set_other table q p v 0 (λ i. e (rw i none))

        on : Dec (get_or table p 0 ≡ f) → finds (set table q v) p (suc n) f ≡ true
        on (yes k) = finds-same (set table q v) p n f (λ z. e (sym same ∙ z)) (same ∙ k)
        on (no k) =
            finds-go (set table q v) p n f (λ z. e (sym same ∙ z)) (λ z. k (sym same ∙ z)) ∙ more (sym (finds-go table p n f e k) ∙ h)

-- ---- the loop

pub past-start : (table : List ℕ) (p f : ℕ) → Past table p p f
past-start table p f =
    record {
      far = omega arith;
      full = λ i l h. let q : ⊥ = omega arith in absurd q;
      other = λ i l h. let q : ⊥ = omega arith in absurd q;
    }

pub past-step : (table : List ℕ) (p q f : ℕ) → Past table p q f → (get_or table q 0 ≡ 0 → ⊥) → (get_or table q 0 ≡ f → ⊥) → Past table p (q + 1) f
past-step table p q f h a b =
    record {
      far = omega (arith, h.far);
      full = λ i l g. full i l g (ℕ_discrete i q);
      other = λ i l g. other i l g (ℕ_discrete i q);
    }
  where
    full : (i : ℕ) → p ≤ i → i < q + 1 → Dec (i ≡ q) → get_or table i 0 ≡ 0 → ⊥
    full i l g (yes s) z = a (rw s at z)
    full i l g (no s) z = h.full i l (omega arith) z

    other : (i : ℕ) → p ≤ i → i < q + 1 → Dec (i ≡ q) → get_or table i 0 ≡ f → ⊥
    other i l g (yes s) z = b (rw s at z)
    other i l g (no s) z = h.other i l (omega arith) z

module _ (table : List ℕ) (p q f : ℕ) (h : Past table p q f) (l : q < p + probes) (none : get_or table q 0 ≡ 0) where
  abbrev rest : ℕ
  rest = probes - (q - p) - 1

  tried : q - p + suc rest ≡ probes
  tried = omega (arith, h.far)

  new-not : finds table p probes f ≡ false
  new-not =
      rw (← tried)
      (past_finds table p q f (q - p) (suc rest) (omega (arith, h.far)) h
      ∙ finds-none table q (suc rest) f none)

  new-met : q < length table → 0 < f → finds (set table q f) p probes f ≡ true
  new-met k o =
      let s = get_or-set_same table q f 0 k in
      rw (← tried)
      (past_finds (set table q f) p q f (q - p) (suc rest) (omega (arith, h.far)) past
      ∙ finds-same (set table q f) q rest f (λ z. omega arith) s)
    where
      stays : (i : ℕ) → i < q → get_or (set table q f) i 0 ≡ get_or table i 0
      stays i g = get_or-set_other table q i f 0 (λ e. omega arith)

      past : Past (set table q f) p q f
      past = record { far = h.far; full = λ i a g z. h.full i a g (sym (stays i g) ∙ z); other = λ i a g z. h.other i a g (sym (stays i g) ∙ z) }

-- ---- what `is_new` leaves

module _ (before : List ℕ) (x : ℕ) where
  pub noted-not : (after : List ℕ) → Noted before after x false
  noted-not after =
      record {
        was_not = λ e. absurd (not-both e refl);
        is_met = λ e. absurd (not-both e refl);
        stays = λ e. absurd (not-both e refl);
      }

  pub noted-new : (table : List ℕ) (m p q : ℕ) → table ≡ before → m ≡ mixed x → p ≡ head_of slots m → Past table p q (m % print_range / 2 * 2 + 1) → q < p + probes → p < slots
      → table_size ≤ length table → get_or table q 0 ≡ 0 → Noted before (set table q (m % print_range / 2 * 2 + 1)) x true
  unfolding met
  noted-new table m p q et em ep h l b s none =
      let k : q < length table = omega arith in
      let f = m % print_range / 2 * 2 + 1 in
      let o : 0 < f = omega arith in
      let hp : home x ≡ p = rw (← em) (sym ep) in
      let pf : print x ≡ f = rw (← em) refl in
      rw (← et)
      (record {
        was_not = λ e. rw (hp, pf) (new-not table p q f h l none);
        is_met = λ e. rw (hp, pf) (new-met table p q f h l none k o);
        stays = λ e y. finds-again table q f none (home y) probes (print y);
      })

-- ---- an empty table

-- it has met nothing
pub none-met : (n x : ℕ) → met (replicate n 0) x ≡ false
unfolding met
none-met n x = finds-none (replicate n 0) (home x) probes (print x) (zeros n (home x))
