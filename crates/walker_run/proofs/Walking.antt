-- A walk's lines, step by step.
use Rattle.std.proofs.Common.{◌≡◌, refl, sym, ap, subst, ◌∙◌, List, [], ◌++◌, ℕ, zero, suc, ◌-◌, ◌<◌, arith, append_assoc, append-nil, eqb, cond, eq-eqb, ne_eqb}
use Rattle.std.specs.Prelude.{Option}
use Rattle.std.specs.Io.KnownBytes.{Appends}
use Rattle.std.proofs.KnownBytes.{Appends-trans}
use Rattle.zone.specs.Walker.{Walked, walk_step, start_of_walk}
use Rattle.walker_run.specs.Lines.{line, lines, most_steps, walk_lines}

-- what was printed, and the lines that are still to come, are all
pub record Goes (had has : Option (List ℕ)) (bs : List ℕ) (at left : ℕ) : Type 0 where
  pub before : List ℕ
  pub got : Appends had has before
  pub all : before ++ lines left bs at ≡ walk_lines bs

pub begins : (had has : Option (List ℕ)) (bs : List ℕ) (at : ℕ) (w : Walked) → w ≡ walk_step bs 17 → Appends had has (line w) → at ≡ start_of_walk bs
    → Goes had has bs at most_steps
unfolding walk_lines
begins had has bs at w e got start = record {
  before = line w;
  got = got;
  all = ap (λ v. line v ++ lines most_steps bs at) e ∙ ap (λ a. line (walk_step bs 17) ++ lines most_steps bs a) start;
}

lines_more : (n : ℕ) (bs : List ℕ) (at : ℕ) → 0 < n
    → lines n bs at ≡ line (walk_step bs at) ++ cond (eqb (walk_step bs at).position at) [] (lines (n - 1) bs (walk_step bs at).position)
unfolding lines
lines_more zero bs at h = absurd (omega arith)
lines_more (suc n) bs at h = let e : suc n - 1 ≡ n = omega arith in rw e refl

lines_last : (n : ℕ) (bs : List ℕ) (at : ℕ) → 0 < n → (walk_step bs at).position ≡ at → lines n bs at ≡ line (walk_step bs at)
lines_last n bs at h same =
    lines_more n bs at h
    ∙ ap (λ t. line (walk_step bs at) ++ cond t [] (lines (n - 1) bs (walk_step bs at).position)) (eq-eqb (walk_step bs at).position at same)
    ∙ append-nil (line (walk_step bs at))

lines_next : (n : ℕ) (bs : List ℕ) (at : ℕ) → 0 < n → ((walk_step bs at).position ≡ at → ⊥)
    → lines n bs at ≡ line (walk_step bs at) ++ lines (n - 1) bs (walk_step bs at).position
lines_next n bs at h other =
    lines_more n bs at h
    ∙ ap (λ t. line (walk_step bs at) ++ cond t [] (lines (n - 1) bs (walk_step bs at).position)) (ne_eqb (walk_step bs at).position at other)

-- a step leaves the walker where it is: those were all lines
pub stays : (had held has : Option (List ℕ)) (bs : List ℕ) (at n : ℕ) (w : Walked) → Goes had held bs at n → 0 < n → w ≡ walk_step bs at → Appends held has (line w)
    → w.position ≡ at → Appends had has (walk_lines bs)
stays had held has bs at n w g h e got same =
    let last = lines_last n bs at h (ap (λ v. v.position) (sym e) ∙ same) in
    subst (Appends had has) (ap (λ v. g.before ++ line v) e ∙ ap (λ l. g.before ++ l) (sym last) ∙ g.all) (Appends-trans had held has g.before (line w) g.got got)

pub moves : (had held has : Option (List ℕ)) (bs : List ℕ) (at n m : ℕ) (w : Walked) → Goes had held bs at n → 0 < n → m ≡ n - 1 → w ≡ walk_step bs at → Appends held has (line w)
    → (w.position ≡ at → ⊥) → Goes had has bs w.position m
moves had held has bs at n m w g h less e got other =
    let next = lines_next n bs at h (λ p. other (ap (λ v. v.position) e ∙ p)) in
    record {
      before = g.before ++ line w;
      got = Appends-trans had held has g.before (line w) g.got got;
      all =
          append_assoc g.before (line w) (lines m bs w.position)
          ∙ ap (λ k. g.before ++ (line w ++ lines k bs w.position)) less
          ∙ ap (λ v. g.before ++ (line v ++ lines (n - 1) bs v.position)) e
          ∙ ap (λ l. g.before ++ l) (sym next)
          ∙ g.all;
    }

lines_none : (n : ℕ) (bs : List ℕ) (at : ℕ) → n ≡ 0 → lines n bs at ≡ []
unfolding lines
lines_none n bs at e = rw e

pub steps_out : (had has : Option (List ℕ)) (bs : List ℕ) (at n : ℕ) → Goes had has bs at n → n ≡ 0 → Appends had has (walk_lines bs)
steps_out had has bs at n g e =
    subst (Appends had has) (sym (append-nil g.before) ∙ ap (λ l. g.before ++ l) (sym (lines_none n bs at e)) ∙ g.all) g.got
