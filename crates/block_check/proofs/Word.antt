-- The laws of a block's word: the number in its first four bytes has its type, size and handle.
use mathlib.Core.Path.{◌≡◌, sym, ◌∙◌}
use mathlib.Core.List.{List}
use mathlib.Core.Bool.{Bool, true}
use Prim.Native.Nat.{ℕ, ◌+◌, ◌*◌, ◌-◌, ◌/◌, ◌%◌, ◌<◌, ◌≤◌}
use native.Mathlib.Omega.{arith}
use mir.Val.{Fits}
use mir.Syntax.{w8}
use lib.Dec.{eqb, leb}
use borrow.Author.Tests.{eq-eqb, ne_eqb, leb-true, le-leb}
use lib.ListN.{length, get_or, take, drop, length-drop, drop_of_length-le}
use lib.Seq.{drop-drop}
use Rattle.block_type.specs.Limits.{reloc_code, reloc_header, type_unit, handle_range, zone_header, master_size, smallest_block, tag_at}
use Rattle.block_type.specs.Types.{type_code}
use Rattle.block_type.specs.declared.BlockType.{BlockType}
use Rattle.block_type.specs.declared.BlockType.TheVariants.{Relocatable}
use Rattle.block_type.proofs.Types.{same, reloc-yes}
use Rattle.bigendian.specs.BigEndian.{from_be, slice}
use Rattle.bigendian.proofs.Laws.{be2-at, be4-at}
use Rattle.format.proofs.Bool.{and_left, and_right}
use Rattle.format.proofs.Walk.{first-rule, turn}
use Rattle.format.specs.WellFormed.{type_of, size_of, handle_of, is_master, master_at}
use Rattle.format.specs.OneWalk.{type_rule, reloc_rule, block_ok}
use Rattle.format.specs.Steps.{Turn}
use Rattle.block_check.specs.Word.{type_word, IsWord, IsHeader, held, GoodBlock}
use Rattle.block_check.proofs.Leaves.{kind-law, size-free, size-used}

pub word-law : (z : List ℕ) (at w : ℕ) → ((i : ℕ) → Fits w8 (get_or z i 0)) → at < length z → at % 4 ≡ 0 → length z % 4 ≡ 0 → w ≡ from_be (slice z at 4) → IsWord z at w
unfolding handle_of
word-law z at w b l f g e =
    let p = e ∙ be4-at z at (omega arith) in
    let b₀ = (b at).fits in
    let b₁ = (b (at + 1)).fits in
    let b₂ = (b (at + tag_at)).fits in
    let b₃ = (b (at + 3)).fits in
    let q = be2-at z at (omega arith) in
    let i : at + tag_at + 1 ≡ at + 3 = omega arith in
    let q₂ = (rw i at (be2-at z (at + tag_at) (omega arith))) in
    record { is_type = sym (kind-law z at) ∙ omega arith; is_half = omega arith; is_handle = rw (drop-drop tag_at at z) (omega arith) }

pub header-law : (z : List ℕ) (at w : ℕ) → ((i : ℕ) → Fits w8 (get_or z i 0)) → at + smallest_block ≤ length z → w ≡ from_be (slice z at 4) → IsHeader z at w
header-law z at w b l e =
    let p = e ∙ be4-at z at (omega arith) in
    let b₀ = (b at).fits in
    let b₁ = (b (at + 1)).fits in
    let b₂ = (b (at + tag_at)).fits in
    let b₃ = (b (at + 3)).fits in
    let q = be2-at z at (omega arith) in
    let k : type_of (drop at z) ≡ w / type_word = sym (kind-law z at) ∙ omega arith in
    let h : w / handle_range ≡ from_be (take 2 (drop at z)) = omega arith in
    record {
      is_type = k;
      free_size_is = λ f. size-free (drop at z) (w / type_word) w (sym k) f e;
      used_size = λ f. size-used (drop at z) (w / type_word) (w / handle_range) (sym k) (λ x. omega arith) h;
    }

-- behind the end there is nothing
pub word_end : (z : List ℕ) (at : ℕ) → length z ≤ at → ◌≡◌ {A = ℕ} 0 (from_be (slice z at 4))
unfolding from_be
word_end z at l = rw (drop_of_length-le z l)

pub word_size : (z : List ℕ) (at w n : ℕ) → IsWord z at w → type_of (drop at z) ≡ reloc_code → n ≡ w / handle_range % type_unit * 2 → n ≡ size_of (drop at z)
word_size z at w n i k e = e ∙ size-used (drop at z) reloc_code (w / handle_range) (sym k) (λ q. omega arith) i.is_half

-- ---- a good relocatable block

pub fast-fits : (z : List ℕ) (first w h : ℕ) → h < first → w % 4 ≡ 0 → h ≡ w % handle_range → first % 4 ≡ 0 → first ≤ length z → h + master_size ≤ length z
fast-fits z first w h q f e g l = omega arith

pub held-law : (z : List ℕ) (at n h v : ℕ) → v ≡ from_be (slice z h 4) → v ≡ at + reloc_header → leb n (length z - at) ≡ held z at n h
held-law z at n h v e q = rw (← e, eq-eqb v (at + reloc_header) q)

pub held-not : (z : List ℕ) (at n h v : ℕ) → v ≡ from_be (slice z h 4) → (v ≡ at + reloc_header → ⊥) → eqb v (at + reloc_header) ≡ held z at n h
held-not z at n h v e q = rw (← e, ne_eqb v (at + reloc_header) q)

module _ (z : List ℕ) (first at w n h : ℕ) (t : Bool) (et : t ≡ held z at n h) (y : t ≡ true)
    (past : zone_header ≤ h) (before : h < first) (four-h : w % 4 ≡ 0) (four_n : w / handle_range % 2 ≡ 0) (e : n ≡ size_of (drop at z)) (en : n ≡ w / handle_range % type_unit * 2) (eh : h ≡ handle_of (drop at z)) (ew : h ≡ w % handle_range)
    (k : type_of (drop at z) ≡ reloc_code) (l : at + smallest_block ≤ length z) (ff : first % 4 ≡ 0) (low : 0 < n) (prev : Bool) where
  both : held z at n h ≡ true
  both = sym et ∙ y

  -- what is left of the test of such a block is its master's
  by-master : block_ok z first prev at (take (size_of (drop at z)) (drop at z)) ≡ eqb (master_at z h) (at + reloc_header)
  unfolding type_rule reloc_rule is_master
  by-master =
      let fits = leb-true n (length z - at) (and_right (eqb (master_at z h) (at + reloc_header)) _ both) in
      let four : n % 4 ≡ 0 = omega arith in
      rw (
        first-rule z first prev at (drop at z) (omega arith) (rw (← e) four) (omega (arith, length-drop at z)),
        k,
        ← eh,
        le-leb zone_header h past,
        le-leb (h + master_size) first (omega arith),
        eq-eqb (h % 4) 0 (omega arith),
      )

  pub fast-turn : Turn z first prev at n
  fast-turn = turn z first prev at n l (by-master ∙ and_left (eqb (master_at z h) (at + reloc_header)) _ both) e

-- ---- w is the word of a relocatable block

module _ (z : List ℕ) (at w : ℕ) (e : 0 < w → IsWord z at w) (k : BlockType) (ek : type_code k ≡ w / type_word) (t : Bool) (et : t ≡ same k Relocatable) (y : t ≡ true) where
  is_code : w / type_word ≡ reloc_code
  is_code = sym ek ∙ reloc-yes k t et y

  pub reloc-word : IsWord z at w
  reloc-word = e (omega (arith, is_code))

  pub reloc-type : type_of (drop at z) ≡ reloc_code
  reloc-type = reloc-word.is_type ∙ is_code

  pub reloc-block : (first n : ℕ) (prev : Bool) → ((p : Bool) → Turn z first p at n) → GoodBlock z first prev at Relocatable n
  reloc-block first n prev f = record { turn = f prev; kind_is = sym reloc-type }
