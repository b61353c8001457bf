-- A zone's bytes as a layout whose parts change one at a time: what a call writes between two structures.
use mathlib.Core.Path.{◌≡◌, refl, sym, ap, ap₂, ◌∙◌}
use mathlib.Core.List.{List, [], ◌∷◌, ◌++◌, map, append_assoc}
use Prim.Native.Nat.{ℕ, zero, suc, ◌+◌, ◌*◌, ◌<◌}
use native.Mathlib.Omega.{arith}
use lib.ListN.{length, set, drop, length-append}
use lib.Seq.{drop_at}
use Rattle.format.specs.WellFormed.{offsets}
use Rattle.block_type.specs.Limits.{master_size, zone_header, first_at, masters_at, chain_at, clock_at}
use Rattle.bigendian.specs.BigEndian.{to_be, overwrite}
use Rattle.bigendian.proofs.Laws.{length-to_be}
use Rattle.bigendian.proofs.Overwrite.{write-right, write_mid}
use Rattle.structure.specs.Structure.{Structure, encode_block, count, start, len, head_of, value, words, join, header, encode}
use Rattle.structure.proofs.Words.{words_l, words-values, words_append, length-words}

-- the clock and the other fields of the header, what the masters hold, the blocks' bytes
unfoldable pub lay : ℕ → ℕ → ℕ → ℕ → ℕ → List ℕ → List ℕ → List ℕ
lay ck l f m c vs r = to_be 4 l ++ (to_be 4 f ++ (to_be 4 m ++ (to_be 2 c ++ (ck ∷ 0 ∷ (words_l vs ++ r)))))

abbrev pub values : Structure → List ℕ
values s = map (value s) (offsets zone_header (count s))

pub encode-lay : (s : Structure) → encode s ≡ lay s.clock (len s) (start s) (count s) (head_of s.chain) (values s) (join (map encode_block s.blocks))
unfolding encode header lay
encode-lay s = rw (words-values (value s) (offsets zone_header (count s))) (simp append_assoc)

front : (l f m : ℕ) (t : List ℕ) → to_be 4 l ++ (to_be 4 f ++ (to_be 4 m ++ t)) ≡ (to_be 4 l ++ (to_be 4 f ++ to_be 4 m)) ++ t
front l f m t = simp append_assoc

whole-front : (ck l f m c : ℕ) (t : List ℕ) → to_be 4 l ++ (to_be 4 f ++ (to_be 4 m ++ (to_be 2 c ++ (ck ∷ 0 ∷ t)))) ≡ (to_be 4 l ++ (to_be 4 f ++ (to_be 4 m ++ (to_be 2 c ++ (ck ∷ 0 ∷ []))))) ++ t
whole-front ck l f m c t = simp append_assoc

-- the chain's head
pub lay-chain : (ck l f m c c' : ℕ) (vs r : List ℕ) → overwrite (lay ck l f m c vs r) chain_at (to_be 2 c') ≡ lay ck l f m c' vs r
unfolding lay
lay-chain ck l f m c c' vs r =
    let a = to_be 4 l ++ (to_be 4 f ++ to_be 4 m) in
    let q : length a ≡ chain_at = simp (length-append, length-to_be) in
    let w = write_mid a (to_be 2 c) (to_be 2 c') (ck ∷ 0 ∷ (words_l vs ++ r)) chain_at q (length-to_be 2 c ∙ sym (length-to_be 2 c')) in
    ap (λ (y : List ℕ). overwrite y chain_at (to_be 2 c')) (front l f m _) ∙ w ∙ sym (front l f m _)

-- the clock
pub lay-clock : (ck ck' l f m c : ℕ) (vs r : List ℕ) → overwrite (lay ck l f m c vs r) clock_at (ck' ∷ []) ≡ lay ck' l f m c vs r
unfolding lay
lay-clock ck ck' l f m c vs r =
    let a = to_be 4 l ++ (to_be 4 f ++ (to_be 4 m ++ to_be 2 c)) in
    let q : length a ≡ clock_at = simp (length-append, length-to_be) in
    let w = write_mid a (ck ∷ []) (ck' ∷ []) (0 ∷ (words_l vs ++ r)) clock_at q refl in
    ap (λ (y : List ℕ). overwrite y clock_at (ck' ∷ [])) (up_to ck) ∙ w ∙ sym (up_to ck')
  where
    up_to : (x : ℕ) → to_be 4 l ++ (to_be 4 f ++ (to_be 4 m ++ (to_be 2 c ++ (x ∷ 0 ∷ (words_l vs ++ r))))) ≡ (to_be 4 l ++ (to_be 4 f ++ (to_be 4 m ++ to_be 2 c))) ++ ((x ∷ []) ++ (0 ∷ (words_l vs ++ r)))
    up_to x = simp append_assoc

-- bkFst and m
pub lay-first : (ck l f m c f' : ℕ) (vs r : List ℕ) → overwrite (lay ck l f m c vs r) first_at (to_be 4 f') ≡ lay ck l f' m c vs r
unfolding lay
lay-first ck l f m c f' vs r = write_mid (to_be 4 l) (to_be 4 f) (to_be 4 f') _ first_at (length-to_be 4 l) (length-to_be 4 f ∙ sym (length-to_be 4 f'))

pub lay-masters : (ck l f m c m' : ℕ) (vs r : List ℕ) → overwrite (lay ck l f m c vs r) masters_at (to_be 4 m') ≡ lay ck l f m' c vs r
unfolding lay
lay-masters ck l f m c m' vs r =
    let t = to_be 2 c ++ (ck ∷ 0 ∷ (words_l vs ++ r)) in
    let q : length (to_be 4 l ++ to_be 4 f) ≡ masters_at = simp (length-append, length-to_be) in
    let w = write_mid (to_be 4 l ++ to_be 4 f) (to_be 4 m) (to_be 4 m') t masters_at q (length-to_be 4 m ∙ sym (length-to_be 4 m')) in
    ap (λ (y : List ℕ). overwrite y masters_at (to_be 4 m')) (sym (append_assoc (to_be 4 l) (to_be 4 f) (to_be 4 m ++ t))) ∙ w ∙ append_assoc (to_be 4 l) (to_be 4 f) (to_be 4 m' ++ t)

-- one master
words-set : (vs r : List ℕ) (i v : ℕ) → i < length vs → overwrite (words_l vs ++ r) (master_size * i) (to_be 4 v) ≡ words_l (set vs i v) ++ r
unfolding words
words-set [] r i v h = let x : ⊥ = omega arith in absurd x
words-set (y ∷ vs) r zero v h = rw (append_assoc (to_be 4 y) (words_l vs) r, append_assoc (to_be 4 v) (words_l vs) r) (write_mid [] (to_be 4 y) (to_be 4 v) (words_l vs ++ r) 0 refl (length-to_be 4 y ∙ sym (length-to_be 4 v)))
words-set (y ∷ vs) r (suc i) v h =
    let q : master_size * suc i ≡ length (to_be 4 y) + master_size * i = omega (arith, length-to_be 4 y) in
    rw (append_assoc (to_be 4 y) (words_l vs) r, q, write-right (to_be 4 y) (words_l vs ++ r) (to_be 4 v) (master_size * i), words-set vs r i v (omega arith), append_assoc (to_be 4 y) (words_l (set vs i v)) r)

-- an overwrite behind the header's 16 bytes
behind : (ck l f m c p : ℕ) (t x t' : List ℕ) → overwrite t p x ≡ t'
    → overwrite (to_be 4 l ++ (to_be 4 f ++ (to_be 4 m ++ (to_be 2 c ++ (ck ∷ 0 ∷ t))))) (zone_header + p) x ≡ to_be 4 l ++ (to_be 4 f ++ (to_be 4 m ++ (to_be 2 c ++ (ck ∷ 0 ∷ t'))))
behind ck l f m c p t x t' e =
    let a = to_be 4 l ++ (to_be 4 f ++ (to_be 4 m ++ (to_be 2 c ++ (ck ∷ 0 ∷ [])))) in
    let q : zone_header + p ≡ length a + p = ap (λ (n : ℕ). n + p) (sym (simp (length-append, length-to_be))) in
    let w = write-right a t x p in
    let w' : overwrite (a ++ t) (zone_header + p) x ≡ a ++ t' = rw q (w ∙ ap (λ (y : List ℕ). a ++ y) e) in
    ap (λ (y : List ℕ). overwrite y (zone_header + p) x) (whole-front ck l f m c t) ∙ w' ∙ sym (whole-front ck l f m c t')

pub lay-master : (ck l f m c i v : ℕ) (vs r : List ℕ) → i < length vs → overwrite (lay ck l f m c vs r) (zone_header + master_size * i) (to_be 4 v) ≡ lay ck l f m c (set vs i v) r
unfolding lay
lay-master ck l f m c i v vs r h = behind ck l f m c (master_size * i) (words_l vs ++ r) (to_be 4 v) (words_l (set vs i v) ++ r) (words-set vs r i v h)

-- the blocks' bytes
pub lay-rest : (ck l f m c p : ℕ) (vs r x : List ℕ) → overwrite (lay ck l f m c vs r) (zone_header + (master_size * length vs + p)) x ≡ lay ck l f m c vs (overwrite r p x)
unfolding lay
lay-rest ck l f m c p vs r x =
    let q : master_size * length vs + p ≡ length (words_l vs) + p = omega (arith, length-words (λ (v : ℕ). v) vs) in
    behind ck l f m c (master_size * length vs + p) (words_l vs ++ r) x (words_l vs ++ overwrite r p x) (rw q (write-right (words_l vs) r x p))

-- masters more from the front of those bytes
pub lay-more : (ck l f m c : ℕ) (vs ws r : List ℕ) → lay ck l f m c vs (words_l ws ++ r) ≡ lay ck l f m c (vs ++ ws) r
unfolding lay
lay-more ck l f m c vs ws r =
    ap (λ (t : List ℕ). to_be 4 l ++ (to_be 4 f ++ (to_be 4 m ++ (to_be 2 c ++ (ck ∷ 0 ∷ t)))))
    (sym (append_assoc (words_l vs) (words_l ws) r) ∙ ap (◌++ r) (sym (words_append (λ (v : ℕ). v) vs ws)))

-- what stands behind header and masters
pub lay-drop : (ck l f m c : ℕ) (vs r : List ℕ) → drop (zone_header + master_size * length vs) (lay ck l f m c vs r) ≡ r
unfolding lay
lay-drop ck l f m c vs r =
    let a = to_be 4 l ++ (to_be 4 f ++ (to_be 4 m ++ (to_be 2 c ++ (ck ∷ 0 ∷ [])))) in
    let q : length (a ++ words_l vs) ≡ zone_header + master_size * length vs = length-append a (words_l vs) ∙ ap₂ ◌+◌ (simp (length-append, length-to_be)) (length-words (λ (v : ℕ). v) vs) in
    ap (drop (zone_header + master_size * length vs)) (whole-front ck l f m c (words_l vs ++ r) ∙ sym (append_assoc a (words_l vs) r)) ∙ drop_at (a ++ words_l vs) r (zone_header + master_size * length vs) q

pub lay-same : (ck : ℕ) {l l' f f' m m' c c' : ℕ} {vs vs' r r' : List ℕ} → l ≡ l' → f ≡ f' → m ≡ m' → c ≡ c' → vs ≡ vs' → r ≡ r' → lay ck l f m c vs r ≡ lay ck l' f' m' c' vs' r'
lay-same ck a b c d e f = rw (a, b, c, d, e, f)

-- one value of the masters changes
pub values-set : (f f' : ℕ → ℕ) (h k n i : ℕ) → h ≡ k + master_size * i → i < n → ((g : ℕ) → (g ≡ h → ⊥) → f' g ≡ f g) → map f' (offsets k n) ≡ set (map f (offsets k n)) i (f' h)
unfolding offsets
values-set f f' h k zero i e l s = let x : ⊥ = omega arith in absurd x
values-set f f' h k (suc n) zero e l s =
    let q : k ≡ h = omega arith in
    ap₂ (λ (x : ℕ) (xs : List ℕ). x ∷ xs) (ap f' q) (above f f' h (k + master_size) n (omega arith) s)
  where
    above : (f f' : ℕ → ℕ) (h k n : ℕ) → h < k → ((g : ℕ) → (g ≡ h → ⊥) → f' g ≡ f g) → map f' (offsets k n) ≡ map f (offsets k n)
    above f f' h k zero l s = refl
    above f f' h k (suc n) l s = ap₂ (λ (x : ℕ) (xs : List ℕ). x ∷ xs) (s k (λ x. omega arith)) (above f f' h (k + master_size) n (omega arith) s)
values-set f f' h k (suc n) (suc i) e l s =
    ap₂ (λ (x : ℕ) (xs : List ℕ). x ∷ xs) (s k (λ x. omega arith)) (values-set f f' h (k + master_size) n i (omega arith) (omega arith) s)
