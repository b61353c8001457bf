-- A read into the rest of a chunk, and a write of the rest of the lines.
use Rattle.std.proofs.Common.{◌≡◌, ℕ, ◌+◌, ◌-◌, ◌≤◌, List, ◌++◌, length, take, drop, sym, ap, subst, ◌∙◌, le_refl, drop_at, length-take-le, take-add}
use Rattle.std.specs.Prelude.{Option}
use Rattle.std.specs.Io.KnownBytes.{Consumes, Appends}
use Rattle.std.proofs.KnownBytes.{Consumes-trans, Appends-trans}
use Rattle.std.proofs.lemmas.List.{take-append-le, take_rest}
use Rattle.std.proofs.lemmas.Slice.{take-put_mid_below}
use borrow.Rule.Slice.PartMut.{put_mid, post_of}

-- n bytes were read into the part of xs that begins at a
take_read : (a k n : ℕ) (xs ys : List ℕ) → a ≤ length xs → n ≤ length ys → take (a + n) (put_mid a k xs ys) ≡ take a xs ++ take n ys
take_read a k n xs ys within fits =
    take-add a n (put_mid a k xs ys)
    ∙ ap (λ l. l ++ take n (drop a (put_mid a k xs ys))) (take-put_mid_below a k xs ys a (le_refl a) within)
    ∙ ap (λ l. take a xs ++ take n l) (drop_at (take a xs) (ys ++ post_of a k xs) a (length-take-le a xs within))
    ∙ ap (λ l. take a xs ++ l) (take-append-le n ys (post_of a k xs) fits)

pub reads_on : (before mid after : Option (List ℕ)) (a k n : ℕ) (xs ys : List ℕ) → a ≤ length xs → n ≤ length ys
    → Consumes before mid (take a xs) → Consumes mid after (take n ys) → Consumes before after (take (a + n) (put_mid a k xs ys))
reads_on before mid after a k n xs ys within fits first then = subst (Consumes before after) (sym (take_read a k n xs ys within fits)) (Consumes-trans before mid after _ _ first then)

pub writes_on : (had mid has : Option (List ℕ)) (a n : ℕ) (xs : List ℕ) → Appends had mid (take a xs) → Appends mid has (take n (take (length xs - a) (drop a xs)))
    → Appends had has (take (a + n) xs)
writes_on had mid has a n xs first then =
    subst (Appends had has) (ap (λ l. take a xs ++ take n l) (take_rest xs a) ∙ sym (take-add a n xs)) (Appends-trans had mid has _ _ first then)
